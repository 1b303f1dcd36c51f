-- One line more is read.
use Rattle.std.proofs.Common.{◌≡◌, ◌+◌, ℕ, List, [], ap, arith, drop, get_or, rules, subst, sym, take, ◌∙◌}
use Rattle.segment_text.specs.Lines.{lines_in}
use Rattle.segment_text.proofs.LineByLine.{IsBehind, behind-ends, behind-more, behind-next}
use Rattle.segment_text.proofs.limit.first_lines.Goals as goal

pub split_at-requires : goal.split_at-requires
split_at-requires c =
    omega (arith, c.line_len.ensures.value, behind-ends _ _ _ c.lines.invariant (omega arith))

pub lines-preserved : goal.lines-preserved
lines-preserved c =
    let is : drop (c.line_len.result + 1) c.lines.rest.now ≡ c.split_at.result.1.now = search rules in
    subst (λ (rest : List ℕ). IsBehind c.args.text.now rest (c.lines._line + 1))
    (ap (λ (n : ℕ). drop (n + 1) c.lines.rest.now) (sym c.line_len.ensures.value) ∙ is)
    (behind-more _ _ _ c.lines.invariant (omega arith))

pub returns-clause-next : goal.returns-clause-next
returns-clause-next c =
    let all : c.lines._line ≡ c.args.count = omega arith in
    ap (λ (n : ℕ). take n c.lines.rest.now) c.line_len-2.ensures.value
    ∙ behind-next _ _ _ c.lines.invariant
    ∙ ap (λ (n : ℕ). get_or (lines_in c.args.text.now) n []) all
