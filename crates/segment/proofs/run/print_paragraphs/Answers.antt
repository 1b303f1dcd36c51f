-- What is read is the whole text.
use Rattle.std.proofs.Common.{refl}
use Rattle.segment_output.specs.Paragraphs.{chosen_by}
use Rattle.segment.proofs.Counted.{whole-paragraphs}
use Rattle.segment.proofs.run.print_paragraphs.Goals as goal

pub returns-in-Ok-clause-written : goal.returns-in-Ok-clause-written
returns-in-Ok-clause-written g c =
    rw (← c.setting.ensures.fit, ← c.setting.ensures.limit)
    (whole-paragraphs c.args.preparation (chosen_by c.args.action.now.wrapper c.setting.result.fit) _ (g.I.Read.remaining c.args.input.now) _ _ _ _ _ _ c.in_ok-text.ensures.made
    c.as_slice.ensures.value refl c.in-Ok.ensures)
