use Rattle.std.proofs.Common.{refl, rules, ◌≡◌, sym, subst, Some}
use Rattle.std.proofs.lemmas.List.{take_more}
use Rattle.seg_hyphens.specs.Tries.{walk, child}
use Rattle.seg_hyphens.proofs.Nodes.{walk-inside}
use Rattle.seg_hyphens.proofs.Growing.{grows-none, grows-more, walk-more}
use Rattle.seg_hyphens.proofs.trie.Trie.node_of.Goals as goal

pub loop-letter-init : goal.loop-letter-init
unfolding walk
loop-letter-init c = (grows-none _ c.requires.is, refl)

pub child_or_new-requires-clause-inside : goal.child_or_new-requires-clause-inside
child_or_new-requires-clause-inside c = walk-inside _ _ _ c.loop-letter.invariant.0.is _ _ _ c.loop-letter.invariant.0.is.some c.loop-letter.invariant.1

pub loop-letter-preserved : goal.loop-letter-preserved
loop-letter-preserved c =
    let more = take_more c.args.letters.now c.loop-letter.letter-index 0 (search rules) in (
      grows-more _ _ _ c.loop-letter.invariant.0 c.in_ok-node.ensures.grows,
      subst (λ xs. walk (child c.child_or_new.new.self) 0 xs ≡ Some c.in_ok-node.node) (sym more)
          (walk-more _ _ _ _ _ _ c.in_ok-node.ensures.grows c.loop-letter.invariant.1 c.in_ok-node.ensures.leads),
    )
