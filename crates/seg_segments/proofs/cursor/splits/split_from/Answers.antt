use Rattle.std.proofs.Common.{◌-◌, ap, arith, drop, length, refl, sym, take_all}
use Rattle.std.proofs.lemmas.List.{length-drop, length-take-le}
use Rattle.seg_text.specs.Decoding.{utf8_from}
use Rattle.seg_segments.proofs.Certain.{reads-first, sought}
use Rattle.seg_segments.proofs.Splits.{end-inside, last-found, place-inside, reads-three, seek-there, split-found, splits-at, three-next, utf8-start}
use Rattle.seg_segments.proofs.cursor.splits.split_from.Goals as goal

pub seek-requires : goal.seek-requires
seek-requires g c = seek-there c.args.bytes.now _ _ c.new-items.ensures c.item_start.ensures

pub loop-end-init : goal.loop-end-init
loop-end-init g c =
    let (k, is) = sought _ _ _ _ (ap (λ new. utf8_from new.place new.units) c.new-items.ensures) c.seek.ensures c.item_start.ensures (utf8-start c.args.bytes.now) in
    record {
      read = reads-three _ _ _ _ _ _ _
          (reads-first _ k _ _ _ (_, _) (_, _) is c.in_ok-before.ensures.gives c.in_ok-one.ensures.gives c.in_ok-before.ensures.end c.in_ok-one.ensures.end)
          c.in_ok-at.ensures.gives c.in_ok-at.ensures.end;
      found = tt;
    }

pub loop-end-preserved-then-always_breaks : goal.loop-end-preserved-then-always_breaks
loop-end-preserved-then-always_breaks g c = record {
  read = three-next _ _ _ _ _ _ _ _ _ c.loop-end.invariant.read c.in-Some.ensures.gives c.in-Some.ensures.end;
  found = split-found (g.S.BoundaryFinder.find c.args.segmenter.now) _ _ _ _ _ _ _ _ _ c.loop-end.invariant.read c.in-Some.ensures.gives c.in-Some.ensures.end
      (c.always_breaks.ensures.breaks c.if-always_breaks.true) (c.always_breaks.ensures.parts c.if-always_breaks.true);
}

pub loop-end-preserved : goal.loop-end-preserved
loop-end-preserved g c = record {
  read = three-next _ _ _ _ _ _ _ _ _ c.loop-end.invariant.read c.in-Some.ensures.gives c.in-Some.ensures.end;
  found = c.loop-end.invariant.found;
}

pub slice_bounds-cover-end : goal.slice_bounds-cover-end
slice_bounds-cover-end g c =
    let find = g.S.BoundaryFinder.find c.args.segmenter.now in
    sym (length-take-le _ _ (end-inside find c.args.bytes.now _ _ (last-found find _ _ _ _ c.in_ok-place.was c.loop-end.invariant.found)))

pub slice_bounds-cover-count : goal.slice_bounds-cover-count
slice_bounds-cover-count g c =
    let find = g.S.BoundaryFinder.find c.args.segmenter.now in
    place-inside find c.args.bytes.now _ _ (last-found find _ _ _ _ c.in_ok-place.was c.loop-end.invariant.found)

pub slice_bounds-cover-start : goal.slice_bounds-cover-start
slice_bounds-cover-start g c = slice_bounds-cover-count g c

pub returns-clause-within : goal.returns-clause-within
returns-clause-within g c =
    let find = g.S.BoundaryFinder.find c.args.segmenter.now in
    place-inside find c.args.bytes.now _ _ (last-found find _ _ _ _ c.in_ok-place.was c.loop-end.invariant.found)

pub returns-clause-splits : goal.returns-clause-splits
returns-clause-splits g c =
    let find = g.S.BoundaryFinder.find c.args.segmenter.now in
    let bytes = c.args.bytes.now in
    let place = c.in_ok-place.place in
    let behind = drop place bytes in
    splits-at find bytes _ _ (last-found find _ _ _ _ c.in_ok-place.was c.loop-end.invariant.found) _ _ refl
    (take_all (length bytes - place) behind (omega (arith, length-drop place bytes))) c.cover.ensures c.cover-2.ensures
