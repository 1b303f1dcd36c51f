use Rattle.std.proofs.Common.{refl, ap, ◌∙◌}
use Rattle.seg_segments.proofs.Sources.{IsOf, cover-by, covered-by, end-by, found-by, left-by, start-by}
use Rattle.seg_segments.proofs.suppress.segmenter.SuppressingSegmenter.segment.Goals as goal

pub suppressed_by-requires : goal.suppressed_by-requires
suppressed_by-requires g c =
    let of : IsOf g.I.Cursor.text g.I.Source.units g.I.Source.decode (g.I.Units.Units.units c.args.input) c.of.result = record {
      text_is = c.of.ensures.text;
      units_are = c.of.ensures.units;
      start = c.of.ensures.start;
      end = c.of.ensures.end;
    } in
    record {
      found = found-by g.I.Cursor.text g.I.Source.units g.I.Source.decode _ c.of.result _ _ _ _ of c.segment.ensures.boundaries c.segment.ensures.source.0 c.segment.ensures.source.1;
      cover = cover-by g.I.Cursor.text g.I.Source.units g.I.Source.decode _ c.of.result _ _ of c.segment.ensures.cover c.segment.ensures.source.1;
      start = start-by g.I.Cursor.text g.I.Source.units g.I.Source.decode _ c.of.result _ of c.segment.ensures.source.1;
      end = end-by g.I.Cursor.text g.I.Source.units g.I.Source.decode _ c.of.result _ of c.segment.ensures.source.1;
    }

pub returns : goal.returns
returns g c =
    let of : IsOf g.I.Cursor.text g.I.Source.units g.I.Source.decode (g.I.Units.Units.units c.args.input) c.of.result = record {
      text_is = c.of.ensures.text;
      units_are = c.of.ensures.units;
      start = c.of.ensures.start;
      end = c.of.ensures.end;
    } in
    record {
      boundaries = left-by g.I.Cursor.text g.I.Source.units g.I.Source.decode _ c.of.result _ _ _ _ _ of c.suppressed_by.ensures.boundaries c.segment.ensures.source.0 c.segment.ensures.source.1;
      cover = covered-by g.I.Cursor.text g.I.Source.units g.I.Source.decode _ c.of.result _ _ of c.suppressed_by.ensures.cover c.segment.ensures.source.1;
      whole = ap g.I.Source.units (rw c.suppressed_by.ensures.source.1 c.segment.ensures.source.1) ∙ c.of.ensures.units;
      found = rw (c.suppressed_by.ensures.source.0, c.suppressed_by.ensures.source.1, c.segment.ensures.source.0) refl;
    }
