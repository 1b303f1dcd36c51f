-- A line that is wider than its columns is shown as its parts, where such lines are broken.
use Rattle.std.proofs.Common.{◌≡◌, ◌≤◌, ◌∙◌, ℕ, Option, Some, ap, arith}
use Rattle.std.specs.Option.{option_map}
use Rattle.icu_segmenter.specs.LineBreaks.{LineRules}
use Rattle.icu_segmenter.specs.Lines.{owned_line_rules}
use Rattle.icu_segmenter.specs.Rules.{Rules}
use Rattle.icu_segmenter.specs.Wrapping.{columns_in}
use Rattle.seg_wrap.specs.declared.wrap.wrapping.Room.{Room}
use Rattle.segment_output.specs.Wrapped.{measure_by}
use Rattle.segment_output.specs.Wrapper.{wrapping_of}
use Rattle.segment_output.specs.declared.machine_lines.MachineLines.{MachineLines}
use Rattle.segment_output.proofs.ShownLines.{on_ok}
use Rattle.segment_output.proofs.ShownWide.{line-wide, line-whole, narrow-none, parts-by}
use Rattle.segment_output.proofs.wrapper.Wrapper.push_shown.Goals.{in_default-via-in-Some+else-columns, in_default-via-in_default}
use Rattle.segment_output.proofs.wrapper.Wrapper.push_shown.Goals as goal

pub returns-in-Some : goal.returns-in-Some
returns-in-Some c =
    on_ok _ _ c.push_parts.result
    (line-wide (wrapping_of c.args.self.now) _ c.args.line.now _ _ _ _ _ c.args.columns c.args.is_first
    (ap (option_map (λ (clusters : MachineLines). owned_line_rules clusters.lines)) c.in-Some.is)
    (omega (arith, c.if-columns.true, c.columns.ensures))
    (parts-by _ _ _ _ _ _ _ c.wrap_utf8_within-parts.ensures.lines
    (c.wrapper-wrapper.ensures.measure ∙ ap (λ (rules : Option Rules). measure_by rules) c.counted_clusters.ensures) c.wrapper-wrapper.ensures.lines)
    (ap (λ (first : ℕ). let room : Room = record { first = first; others = c.args.self.now.room.others } in room) c.columns-in-Some.ensures)
    c.without_trailing_space.ensures)
    c.push_parts.ensures

pub returns-in_default : goal.returns-in_default
returns-in_default c =
    let narrow : (rules : LineRules) → (wrapping_of c.args.self.now).broken ≡ Some rules → c.args.columns ≤ columns_in c.args.self.now.room c.args.is_first =
    elim c.in_default.branch [
      | in_default-via-in-Some+else-columns w ↦ λ rules is. omega (arith, w.if-columns.false, w.columns.ensures)
      | in_default-via-in_default w ↦ narrow-none _ _ _ (ap (option_map (λ (clusters : MachineLines). owned_line_rules clusters.lines)) w.in_default.is)
    ] in
    on_ok _ _ c.push_line.result
    (line-whole (wrapping_of c.args.self.now) c.args.line.now _ _ _ _ c.args.columns c.args.is_first narrow c.indent.ensures c.as_slice.ensures.value)
    c.push_line.ensures
