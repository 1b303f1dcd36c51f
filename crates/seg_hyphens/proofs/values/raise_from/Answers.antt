use Rattle.std.proofs.Common.{arith, rules, subst, Some}
use Rattle.seg_hyphens.specs.Liang.{edged}
use Rattle.seg_hyphens.specs.Values.{IsNode}
use Rattle.seg_hyphens.proofs.Raising.{first-node, length-edged, next-node, raised-all, raised-more}
use Rattle.seg_hyphens.proofs.values.raise_from.Goals as goal

pub letters-init : goal.letters-init
letters-init c = record {
  raised = c.requires.raised;
  node = first-node c.args.trie.now (edged c.args.word.now) c.args.start c.requires.sound (omega (arith, c.requires.inside, length-edged c.args.word.now));
}

pub letters-preserved : goal.letters-preserved
letters-preserved c =
    let node : IsNode c.args.trie.now (edged c.args.word.now) c.args.start c.letters.count (Some c.in-Some.node) =
    subst (IsNode c.args.trie.now (edged c.args.word.now) c.args.start c.letters.count) c.in-Some.is c.letters.invariant.node in
    record {
      raised = raised-more _ _ _ _ _ _ _ _ c.letters.invariant.raised node.1 node.2 c.node_digits.ensures (search rules) c.raise.ensures.behind c.raise.ensures.before;
      node = next-node _ _ _ _ _ c.requires.sound node.1 node.2 _ (λ h. c.next_node-next.ensures.some (omega (arith, h, length-edged c.args.word.now)))
          (λ h. c.next_node-next.ensures.none (omega (arith, h, length-edged c.args.word.now)));
    }

pub returns : goal.returns
returns c = raised-all _ _ _ _ _ c.letters.invariant.raised (subst (IsNode c.args.trie.now (edged c.args.word.now) c.args.start c.letters.count) c.in_default.is c.letters.invariant.node)
