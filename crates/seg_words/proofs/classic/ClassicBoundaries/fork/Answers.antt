use Rattle.std.proofs.Common.{ap, ◌∙◌}
use Rattle.seg_clusters.specs.Payloads.{payloads_of, run_cuts_by}
use Rattle.seg_words.specs.WordsLeft.{classic_remainder}
use Rattle.seg_words.proofs.classic.ClassicBoundaries.fork.Goals as goal

pub returns : goal.returns
returns g c =
    let s = c.self.inside in
    let cut = run_cuts_by (payloads_of s.payloads) in
    ap (λ events. classic_remainder cut s.started s.class c.fork-2.result events) c.fork.ensures
    ∙ ap (λ run. classic_remainder cut s.started s.class run s.events) c.fork-2.ensures
    ∙ c.self.view_is
