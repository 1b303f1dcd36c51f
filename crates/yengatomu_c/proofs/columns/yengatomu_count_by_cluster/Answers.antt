use Rattle.std.proofs.Common.{ap, sym, ◌∙◌}
use Rattle.std.specs.Prelude.{Some}
use Rattle.std.specs.Option.{option_map}
use Rattle.yengatomu_segmenter.specs.Finders.{Finder, finder_of}
use Rattle.yengatomu_segmenter.specs.declared.segmenter.Segmenter.{Segmenter}
use Rattle.yengatomu_segmenter.proofs.Feeds.{feeds-counted, restart-counted}
use Rattle.yengatomu_c.proofs.columns.yengatomu_count_by_cluster.Goals as goal

pub returns-in-Ok : goal.returns-in-Ok
returns-in-Ok c =
    let (has, new) = c.in-Ok.ensures.counted in
    record {
      counted = (
        finder_of c.deref_mut.result.now,
        ap (option_map finder_of) c.in-Some.ensures.taken ∙ ap (λ (segmenter : Segmenter). Some (finder_of segmenter)) (sym c.deref_mut.ensures.value),
        has,
        ap (option_map finder_of) c.put.ensures.0 ∙ ap (λ (finder : Finder). Some finder) new,
      );
      restart = λ restart. rw (c.put.ensures.0, new) (restart-counted _ _ (rw c.deref_mut.ensures.value (rw c.in-Some.ensures.taken at restart)));
      feeds = λ reset. rw (c.put.ensures.0, new) (feeds-counted _ _ (rw c.deref_mut.ensures.value (rw c.in-Some.ensures.taken at reset)));
    }
