use Rattle.std.proofs.Common.{◌∙◌, arith, refl, sym}
use Rattle.std.proofs.lemmas.Bool.{false≢true}
use Rattle.seg_memo.specs.Grids.{KnownNothing, Table}
use Rattle.std.specs.Vec.{with_item}
use Rattle.seg_memo.proofs.Cells.{cell-read, left-set, set-there}
use Rattle.seg_memo.proofs.table.Table.mark.Goals as goal

pub returns-in-Unknown : goal.returns-in-Unknown
returns-in-Unknown c =
    let new : Table = record { states = c.hold.new.self.states; sets = c.hold.new.self.sets; first = c.hold.new.self.first; cells = with_item c.hold.new.self.cells c.index-index.result KnownNothing } in
    let held = c.hold.ensures.held in
    let here = c.hold.ensures.left.at c.args.here c.requires.from.1 c.requires.here in
    record {
      new = λ is. (
        sym here.1 ∙ sym (cell-read c.hold.new.self c.args.here c.index-index.result c.index.result.now c.index-index.ensures.number (omega (arith, held, c.index-index.ensures.number)) c.index.ensures) ∙ c.in-Unknown.is,
        left-set {v = new} c.hold.ensures.left
            (set-there c.hold.new.self new c.hold.new.self.cells.items c.args.here KnownNothing c.index-index.result here.0 c.index-index.ensures.number refl refl refl (omega arith)
            (omega (arith, held, c.index-index.ensures.number)) refl (λ i. refl)),
      );
      known = λ is. absurd (false≢true is);
    }

pub returns : goal.returns
returns c =
    let held = c.hold.ensures.held in
    let here = c.hold.ensures.left.at c.args.here c.requires.from.1 c.requires.here in
    record {
      new = λ is. absurd (false≢true (sym is));
      known = λ is. (
        λ none.
            c.in_default.not-Unknown
            (cell-read c.hold.new.self c.args.here c.index-index.result c.index.result.now c.index-index.ensures.number (omega (arith, held, c.index-index.ensures.number)) c.index.ensures ∙ here.1 ∙ none),
        c.hold.ensures.left,
      );
    }
