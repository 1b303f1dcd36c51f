use Rattle.std.proofs.Common.{ap, sym, ◌∙◌}
use Rattle.std.specs.Prelude.{Some}
use Rattle.std.specs.Option.{option_map}
use Rattle.yengatomu_segmenter.specs.Finders.{finder_of}
use Rattle.yengatomu_segmenter.specs.declared.segmenter.Segmenter.{Segmenter}
use Rattle.yengatomu_segmenter.proofs.Feeds.{feeds-abbreviated}
use Rattle.yengatomu_c.proofs.abbreviations.yengatomu_load_abbreviations.Goals as goal

pub returns-in-Ok : goal.returns-in-Ok
returns-in-Ok c =
    let (takes, can, (abbreviations, same, new)) = c.in-Ok.ensures.loaded in
    record {
      loaded = (
        finder_of c.deref_mut.result.now,
        finder_of c.load-loaded.new.segmenter,
        ap (option_map finder_of) c.in-Some.ensures.taken ∙ ap (λ (segmenter : Segmenter). Some (finder_of segmenter)) (sym c.deref_mut.ensures.value),
        ap (option_map finder_of) c.put.ensures.0,
        c.in-Ok.ensures.loaded,
      );
      feeds = λ reset. rw (c.put.ensures.0, new) (feeds-abbreviated _ _ (rw c.deref_mut.ensures.value (rw c.in-Some.ensures.taken at reset)));
    }
