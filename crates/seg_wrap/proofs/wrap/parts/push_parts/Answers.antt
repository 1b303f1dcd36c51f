use Rattle.std.proofs.Common.{rules, refl}
use Rattle.std.proofs.lemmas.List.{drop_all}
use Rattle.std.proofs.lemmas.Result.{on_ok_weaker}
use Rattle.seg_wrap.proofs.Parts.{cutting-end, cutting-last, cutting-next, cutting-place, cutting-rest, cutting-start}
use Rattle.seg_wrap.proofs.Pieces.{next-of}
use Rattle.seg_wrap.proofs.wrap.parts.push_parts.Goals as goal

pub places-init : goal.places-init
places-init g c = cutting-start _ _ _ _ _ _ _ c.requires.first c.requires.places (search rules) (search rules)

pub push_part-requires-clause-some : goal.push_part-requires-clause-some
push_part-requires-clause-some g c =
    (cutting-place _ _ _ _ _ _ _ _ _ _ (g.met.I.Cursor.rises c.args.text.now) c.places.invariant (next-of _ _ 0 c.places-test.true)).0

pub push_part-requires-clause-at : goal.push_part-requires-clause-at
push_part-requires-clause-at g c =
    (cutting-place _ _ _ _ _ _ _ _ _ _ (g.met.I.Cursor.rises c.args.text.now) c.places.invariant (next-of _ _ 0 c.places-test.true)).1

pub places-preserved : goal.places-preserved
places-preserved g c =
    cutting-next _ _ _ _ _ _ _ _ _ _ _ _ _ (g.met.I.Cursor.rises c.args.text.now) c.places.invariant (next-of _ _ 0 c.places-test.true) c.in_ok-push_part.ensures.part
    refl refl refl c.in_ok-push_part.ensures.text

pub push_part-requires-2-clause-some : goal.push_part-requires-2-clause-some
push_part-requires-2-clause-some g c = (cutting-end _ _ _ _ _ _ _ _ (g.met.I.Cursor.rises c.args.text.now) c.requires.first c.places.invariant).0

pub push_part-requires-2-clause-at : goal.push_part-requires-2-clause-at
push_part-requires-2-clause-at g c = (cutting-end _ _ _ _ _ _ _ _ (g.met.I.Cursor.rises c.args.text.now) c.requires.first c.places.invariant).1

pub returns-clause-parts : goal.returns-clause-parts
returns-clause-parts g c =
    on_ok_weaker c.push_part-2.result
    (λ pushes. cutting-last _ _ _ _ _ _ _ _ _ (g.met.I.Cursor.rises c.args.text.now) c.requires.first c.requires.whole c.places.invariant (drop_all _ _ c.places-test.false) pushes)
    c.push_part-2.ensures.part

pub returns-clause-text : goal.returns-clause-text
returns-clause-text g c =
    on_ok_weaker c.push_part-2.result (λ there. cutting-rest _ _ _ _ _ _ _ _ _ (g.met.I.Cursor.rises c.args.text.now) c.requires.first c.places.invariant there) c.push_part-2.ensures.text
