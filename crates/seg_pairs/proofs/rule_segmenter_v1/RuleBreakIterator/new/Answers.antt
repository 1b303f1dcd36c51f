use Rattle.std.proofs.Common.{List, refl}
use Rattle.seg_pairs.specs.PairData.{pair_table_of}
use Rattle.seg_pairs.specs.Elements.{ItemElement, onto, elements_of}
use Rattle.seg_pairs.proofs.Engine.{read-onto, new-left, new-cover, new-empty, new-rising, below-of}
use Rattle.seg_pairs.proofs.rule_segmenter_v1.RuleBreakIterator.new.Goals as goal

pub returns-clause-left : goal.returns-clause-left
returns-clause-left g c =
    let read = c.next_element-next.new.self in
    let left = elements_of read.pairs (g.I.Cursor.text read.cursor).items in
    new-left c.args.pairs (g.I.Cursor.text c.args.text) (pair_table_of read.pairs) (onto c.next_element-next.result left) (g.I.Cursor.text read.cursor).end
    c.next_element-next.ensures.table c.next_element-next.ensures.end
    (read-onto (λ (elements : List ItemElement). elements) (elements_of c.args.pairs (g.I.Cursor.text c.args.text).items) c.next_element-next.result left c.next_element-next.ensures.gives)

pub returns-clause-cover : goal.returns-clause-cover
returns-clause-cover g c = new-cover c.args.pairs (g.I.Cursor.text c.args.text) _ (returns-clause-left g c) (g.met.I.Cursor.rises c.args.text)

pub invariant_of-result : goal.invariant_of-result
invariant_of-result g c =
    let read = c.next_element-next.new.self in (
      λ on. refl,
      new-empty (elements_of c.args.pairs (g.I.Cursor.text c.args.text).items) c.next_element-next.result read.pairs (g.I.Cursor.text read.cursor).items c.next_element-next.ensures.gives,
      below-of (pair_table_of c.args.pairs) (pair_table_of c.args.pairs) (pair_table_of read.pairs) c.next_element-next.result refl c.next_element-next.ensures.table c.next_element-next.ensures.class,
      new-rising c.args.pairs (g.I.Cursor.text c.args.text) (onto c.next_element-next.result (elements_of read.pairs (g.I.Cursor.text read.cursor).items)) (g.I.Cursor.text read.cursor).end
          c.next_element-next.ensures.end
          (read-onto (λ (elements : List ItemElement). elements) (elements_of c.args.pairs (g.I.Cursor.text c.args.text).items) c.next_element-next.result
          (elements_of read.pairs (g.I.Cursor.text read.cursor).items) c.next_element-next.ensures.gives)
          (g.met.I.Cursor.rises c.args.text),
    )
