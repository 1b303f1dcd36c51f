use Rattle.std.proofs.Common.{arith}
use Rattle.seg_data.proofs.Along.{edge-found, edge-missing}
use Rattle.seg_data.proofs.provider.dictionary.edges.target_of.Goals.{else-place-edges-via-then-place-edges+else-edges-place, else-place-edges-via-else-place-edges}
use Rattle.seg_data.proofs.provider.dictionary.edges.target_of.Goals as goal

pub returns-then-edges-place-clause-words : goal.returns-then-edges-place-clause-words
returns-then-edges-place-clause-words c = λ words_from.
    edge-found words_from c.args.code_point c.args.edges.now c.first_from-place.result c.requires c.first_from-place.ensures c.if-place-edges.true c.if-edges-place.true

pub returns-else-place-edges-clause-words : goal.returns-else-place-edges-clause-words
returns-else-place-edges-clause-words c = λ words_from.
    edge-missing words_from c.args.code_point c.args.edges.now c.first_from-place.result c.requires c.first_from-place.ensures (λ within same.
    elim c.else-place-edges.branch [
      | else-place-edges-via-then-place-edges+else-edges-place w ↦ w.if-edges-place.false same
      | else-place-edges-via-else-place-edges w ↦ absurd (omega (arith, within, w.if-place-edges.false))
    ])
