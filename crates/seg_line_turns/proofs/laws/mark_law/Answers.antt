use Rattle.seg_line_pairs.specs.LineBoundaries.{inside, rules_by}
use Rattle.seg_line_pairs.proofs.Inside.{inside-stand}
use Rattle.seg_line_turns.proofs.TurnMarks.{class-below-count, turns-keep}
use Rattle.seg_line_turns.proofs.laws.mark_law.Goals as goal

pub returns : goal.returns
returns c = λ cuts cover bear.
    let rules = rules_by c.args.pairs in
    let below = class-below-count rules (rw c.table.ensures.value at c.facts.ensures) c.table.ensures.has_id in
    turns-keep rules below bear (inside cuts) (inside-stand cuts cover)
