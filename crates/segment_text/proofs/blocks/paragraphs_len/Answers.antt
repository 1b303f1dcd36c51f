-- Between two line feeds stands nothing or what is blank.
use Rattle.std.proofs.Common.{ℕ, ◌<◌, ◌==◌, arith, ap, sym, ◌∙◌}
use Rattle.segment_text.proofs.WholeLines.{blank-end, first-bytes, within-take}
use Rattle.segment_text.proofs.blocks.paragraphs_len.Goals as goal

pub lines-init : goal.lines-init
lines-init c = (c.in-Some.ensures.0.high, c.in-Some.ensures.1)

pub lines-preserved : goal.lines-preserved
lines-preserved c =
    let order : c.in-Some-memrchr.last < c.lines.end = within-take c.args.block.now c.lines.end c.in-Some-memrchr.last c.in-Some-memrchr.ensures.0.high in (
      omega (arith, order, c.lines.invariant.0),
      ap (λ (byte : ℕ). byte == 0x0A) (sym (first-bytes c.args.block.now c.lines.end c.in-Some-memrchr.last order)) ∙ c.in-Some-memrchr.ensures.1,
    )

pub returns-then-is_blank_line : goal.returns-then-is_blank_line
returns-then-is_blank_line c =
    let order : c.in-Some-memrchr.last < c.lines.end = within-take c.args.block.now c.lines.end c.in-Some-memrchr.last c.in-Some-memrchr.ensures.0.high in (
      omega (arith, c.lines.invariant.0),
      blank-end c.args.block.now c.in-Some-memrchr.last c.lines.end order c.lines.invariant.0
          (ap (λ (byte : ℕ). byte == 0x0A) (sym (first-bytes c.args.block.now c.lines.end c.in-Some-memrchr.last order)) ∙ c.in-Some-memrchr.ensures.1) c.lines.invariant.1
          (sym c.is_blank_line.ensures ∙ c.if-is_blank_line.true),
    )
