-- A part of the stretch.
use Rattle.std.proofs.Common.{◌≡◌, ℕ, ◌+◌, ◌-◌, ◌≤◌, IfSome, length, take, subst, arith, rules, IsUtf8}
use Rattle.std.specs.List.{slice_range}
use Rattle.segment_text.specs.Bare.{AreBare}
use Rattle.segment_text.proofs.BareStretches.{bare-part, found-and}
use Rattle.segment_output.proofs.object_lines.bare_text.Goals as goal

pub returns : goal.returns
returns c =
    let text = c.args.text.now in
    let base : ℕ = c.args.stretch.from in
    let (is, from-to, within) = c.in_ok-_bare.ensures.cases in
    let utf8 : IsUtf8 c.in_ok-_bare._bare.now = search rules in
    let low : base ≤ c.args.start = search rules in
    let high : base ≤ c.args.end = search rules in
    let start : base + (c.args.start - base) ≡ c.args.start = omega (arith, low) in
    let end : base + (c.args.end - base) ≡ c.args.end = omega (arith, high) in
    let whole : c.args.start + (c.args.end - c.args.start) ≡ c.args.end = omega (arith, low, high, from-to) in
    let bare : AreBare (slice_range text c.args.start c.args.end) =
    subst (λ (place : ℕ). AreBare (slice_range text place c.args.end)) start
    (subst (λ (place : ℕ). AreBare (slice_range text (base + (c.args.start - base)) place)) end
    (bare-part text c.args.stretch.text.now c.in_ok-_bare._bare.now base (c.args.start - base) (c.args.end - base) c.requires.0 is (omega (arith, from-to)) within c.requires.1 utf8)) in
    found-and c.copied_from.result (λ copied are. (are, bare))
    (subst (λ (place : ℕ). IfSome c.copied_from.result (λ copied. (copied.len ≤ length copied.bytes.now) × ((length copied.bytes.now ≤ 256) × (take copied.len copied.bytes.now ≡ slice_range text c.args.start place)))) whole c.copied_from.ensures)
