use Rattle.seg_text.proofs.Hints.{hint-lower, hint-upper}
use Rattle.seg_pairs.specs.PairData.{pair_table_of}
use Rattle.seg_pairs.specs.Elements.{onto, elements_of}
use Rattle.seg_pairs.proofs.Engine.{Left, engine-left}
use Rattle.seg_pairs.proofs.rule_segmenter_v1.RuleBreakIteratorIterator.size_hint.Goals as goal

pub returns-clause-lower : goal.returns-clause-lower
returns-clause-lower g c =
    let s = c.self.inside in
    let t = pair_table_of s.rest.pairs in
    let elements = onto s.next (elements_of s.rest.pairs (g.I.Cursor.text s.rest.cursor).items) in
    let end = (g.I.Cursor.text s.rest.cursor).end in
    let left = engine-left t elements end s.class s.started c.self.invariant.3 in
    rw (← c.self.view_is) (hint-lower (Left s.started t elements end s.class) _ (c.size_hint.ensures.lower _ (rw (c.place_before.ensures, c.end.ensures) left)))

pub returns-clause-upper : goal.returns-clause-upper
returns-clause-upper g c =
    let s = c.self.inside in
    let t = pair_table_of s.rest.pairs in
    let elements = onto s.next (elements_of s.rest.pairs (g.I.Cursor.text s.rest.cursor).items) in
    let end = (g.I.Cursor.text s.rest.cursor).end in
    let left = engine-left t elements end s.class s.started c.self.invariant.3 in
    rw (← c.self.view_is) (hint-upper (Left s.started t elements end s.class) _ (c.size_hint.ensures.upper _ (rw (c.place_before.ensures, c.end.ensures) left)))
