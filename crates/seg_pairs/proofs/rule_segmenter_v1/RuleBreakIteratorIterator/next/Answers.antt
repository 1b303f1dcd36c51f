use Rattle.std.proofs.Common.{◌∷◌, refl, ap, subst}
use Rattle.std.proofs.lemmas.Bool.{both_ways}
use Rattle.seg_text.specs.Boundaries.{offsets}
use Rattle.seg_pairs.specs.PairData.{pair_table_of}
use Rattle.seg_pairs.specs.PairTable.{PairTable}
use Rattle.seg_pairs.specs.Verdict.{chain, EndsIn}
use Rattle.seg_pairs.specs.Elements.{elements_of}
use Rattle.seg_pairs.specs.declared.verdicts.Outcome.TheVariants.{Break}
use Rattle.seg_pairs.proofs.Engine.{element_verdict, gives-next, end-left, run-never, rest-empty, none-left, next-rising, below-of}
use Rattle.seg_pairs.proofs.Walks.{below-some}
use Rattle.seg_pairs.proofs.rule_segmenter_v1.RuleBreakIteratorIterator.next.Goals as goal

pub returns-in_default-clause-steps : goal.returns-in_default-clause-steps
returns-in_default-clause-steps g c =
    let s = c.self.inside in
    let t = pair_table_of s.rest.pairs in
    let elements = elements_of s.rest.pairs (g.I.Cursor.text s.rest.cursor).items in
    let here = c.in_default.is in
    let empty = ap (elements_of s.rest.pairs) (c.self.invariant.1 here) in
    let none = end-left t s.next elements (g.I.Cursor.text s.rest.cursor).end s.class s.started c.if-not-self.false here empty in
    let after = end-left t s.next elements (g.I.Cursor.text s.rest.cursor).end 0 s.started c.if-not-self.false here empty in
    rw (← c.self.view_is) ((ap offsets none, ap offsets after), (none, after, refl))

pub unreachable-requires : goal.unreachable-requires
unreachable-requires g c =
    let s = c.self.inside in
    let after = c.next_break.new.rest in
    run-never c.table.result.now c.in-Some.left (elements_of s.rest.pairs (g.I.Cursor.text s.rest.cursor).items) c.in-Run._first c.in-Run._second (elements_of after.pairs (g.I.Cursor.text after.cursor).items) c.in-Run.ensures.ends

pub invariant_of-self-in-Break : goal.invariant_of-self-in-Break
invariant_of-self-in-Break g c =
    let s = c.self.inside in
    let after = c.next_break.new.rest in
    let whole = c.in-Some.left ∷ elements_of s.rest.pairs (g.I.Cursor.text s.rest.cursor).items in (
      λ off. absurd (both_ways s.started off c.if-not-self.false),
      λ none. none-left after.pairs (g.I.Cursor.text after.cursor).items
          (rest-empty (chain (element_verdict c.table.result.now) whole) whole c.in-Break.class c.in-Break.next (elements_of after.pairs (g.I.Cursor.text after.cursor).items) c.in-Break.ensures.ends none),
      below-of c.table.result.now (pair_table_of s.rest.pairs) (pair_table_of after.pairs) c.in-Break.next c.table.ensures c.in-Break.ensures.table c.in-Break.ensures.class,
      next-rising (chain (element_verdict c.table.result.now) whole) s.next c.in-Some.left (elements_of s.rest.pairs (g.I.Cursor.text s.rest.cursor).items) c.in-Break.class c.in-Break.next
          (elements_of after.pairs (g.I.Cursor.text after.cursor).items) (g.I.Cursor.text s.rest.cursor).end (g.I.Cursor.text after.cursor).end
          c.in-Some.is c.in-Break.ensures.ends c.in-Break.ensures.end
          c.self.invariant.3,
    )

pub returns-clause-steps : goal.returns-clause-steps
returns-clause-steps g c =
    let s = c.self.inside in
    let after = c.next_break.new.rest in
    let t = pair_table_of s.rest.pairs in
    let elements = elements_of s.rest.pairs (g.I.Cursor.text s.rest.cursor).items in
    let whole = c.in-Some.left ∷ elements in
    let rest = elements_of after.pairs (g.I.Cursor.text after.cursor).items in
    let ends = subst (λ (t : PairTable). EndsIn (chain (element_verdict t) whole) whole (Break c.in-Break.class c.in-Break.next) rest) c.table.ensures c.in-Break.ensures.ends in
    rw (← c.self.view_is)
    ((gives-next t (pair_table_of after.pairs) s.next c.in-Some.left elements c.in-Break.next rest (g.I.Cursor.text s.rest.cursor).end (g.I.Cursor.text after.cursor).end
    s.started s.class c.in-Break.class c.place_before-in-Break.result c.if-not-self.false c.in-Some.is ends c.in-Break.ensures.table c.in-Break.ensures.end c.place_before-in-Break.ensures).steps)

pub returns-clause-goes : goal.returns-clause-goes
returns-clause-goes g c =
    let s = c.self.inside in
    let after = c.next_break.new.rest in
    let t = pair_table_of s.rest.pairs in
    let elements = elements_of s.rest.pairs (g.I.Cursor.text s.rest.cursor).items in
    let whole = c.in-Some.left ∷ elements in
    let rest = elements_of after.pairs (g.I.Cursor.text after.cursor).items in
    let ends = subst (λ (t : PairTable). EndsIn (chain (element_verdict t) whole) whole (Break c.in-Break.class c.in-Break.next) rest) c.table.ensures c.in-Break.ensures.ends in
    rw (← c.self.view_is)
    ((gives-next t (pair_table_of after.pairs) s.next c.in-Some.left elements c.in-Break.next rest (g.I.Cursor.text s.rest.cursor).end (g.I.Cursor.text after.cursor).end
    s.started s.class c.in-Break.class c.place_before-in-Break.result c.if-not-self.false c.in-Some.is ends c.in-Break.ensures.table c.in-Break.ensures.end c.place_before-in-Break.ensures).goes)

pub next_break-requires-clause-left : goal.next_break-requires-clause-left
next_break-requires-clause-left g c =
    rw c.table.ensures (below-some (pair_table_of c.self.inside.rest.pairs) c.self.inside.next c.in-Some.left c.self.invariant.2 c.in-Some.is)
