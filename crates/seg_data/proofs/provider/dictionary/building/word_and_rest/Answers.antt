use Rattle.std.proofs.Common.{sym, ◌∙◌, arith}
use Rattle.seg_data.proofs.Drafts.{begun-word, begun-longer}
use Rattle.seg_data.proofs.provider.dictionary.building.word_and_rest.Goals.{else-first-end-via-then-first-end+else-length_of-depth, else-first-end-via-else-first-end}
use Rattle.seg_data.proofs.provider.dictionary.building.word_and_rest.Goals as goal

pub returns-then-length_of-depth : goal.returns-then-length_of-depth
returns-then-length_of-depth c = begun-word _ _ _ _ c.requires c.if-first-end.true (sym c.length_of.ensures ∙ c.if-length_of-depth.true)

pub returns-else-first-end : goal.returns-else-first-end
returns-else-first-end c = begun-longer _ _ _ _ c.requires (λ some ends.
    elim c.else-first-end.branch [
      | else-first-end-via-then-first-end+else-length_of-depth w ↦ w.if-length_of-depth.false (w.length_of.ensures ∙ ends)
      | else-first-end-via-else-first-end w ↦ absurd (omega (arith, some, w.if-first-end.false))
    ])
