-- The iterator has all the boundaries left when it is made.
use Rattle.std.proofs.Common.{ap}
use Rattle.icu_segmenter.specs.Boundaries.{offsets}
use Rattle.icu_segmenter.specs.Clusters.{sentences_places}
use Rattle.textcut.proofs.Printed.{lines-are_left}
use Rattle.textcut.proofs.run.print_sentences.Goals as goal

pub returns-clause-printed : goal.returns-clause-printed
returns-clause-printed g c = lines-are_left sentences_places _ _ _ _ _ c.print_numbers.ensures.printed (ap offsets c.segment_utf8.ensures.boundaries)
