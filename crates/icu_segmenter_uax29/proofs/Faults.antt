-- The machines pass the tests of a machine without a fault: computations.
use Rattle.std.proofs.Common.{refl, arith}
use Rattle.ucd_table.proofs.TrieCheck.{all_below}
use Rattle.seg_machine.specs.Machine.{state_at, step, symbol_count}
use Rattle.icu_segmenter_uax29.specs.Clusters.{cluster_machine}
use Rattle.icu_segmenter_uax29.specs.Sentences.{sentence_machine}
use Rattle.icu_segmenter_uax29.specs.TypedWords.{typed_word_machine}
use Rattle.icu_segmenter_uax29.specs.Words.{word_machine}
use Rattle.icu_segmenter_uax29.proofs.Cells.{cells}
use Rattle.icu_segmenter_uax29.proofs.ClusterCertificate.{waits as cluster_waits}
use Rattle.icu_segmenter_uax29.proofs.MachineTests.{IsSound}
use Rattle.icu_segmenter_uax29.proofs.SentenceCertificate.{waits as sentence_waits}
use Rattle.icu_segmenter_uax29.proofs.TypedStates.{waits}
use Rattle.icu_segmenter_uax29.proofs.WordCertificate.{waits as word_waits}

pub cluster-is-sound : IsSound cluster_machine 14 19 cluster_waits
unfolding cluster_machine all_below state_at step symbol_count cells cluster_waits
cluster-is-sound =
    record {
      ranges_are = refl;
      ranges_rise = refl;
      values_are = refl;
      entries_are = refl;
      nothing_replaced = refl;
      nexts_are = refl;
      states_are = refl;
      state_count = refl;
      some_states = omega arith;
      few_states = omega arith;
      size = refl;
      few_symbols = omega arith;
      symbols_are = refl;
      few_lookaheads = omega arith;
      goes = refl;
      ends_are = refl;
    }

pub sentence-is-sound : IsSound sentence_machine 12 15 sentence_waits
unfolding sentence_machine all_below state_at step symbol_count cells sentence_waits
sentence-is-sound =
    record {
      ranges_are = refl;
      ranges_rise = refl;
      values_are = refl;
      entries_are = refl;
      nothing_replaced = refl;
      nexts_are = refl;
      states_are = refl;
      state_count = refl;
      some_states = omega arith;
      few_states = omega arith;
      size = refl;
      few_symbols = omega arith;
      symbols_are = refl;
      few_lookaheads = omega arith;
      goes = refl;
      ends_are = refl;
    }

pub word-is-sound : IsSound word_machine 23 21 word_waits
unfolding word_machine all_below state_at step symbol_count cells word_waits
word-is-sound =
    record {
      ranges_are = refl;
      ranges_rise = refl;
      values_are = refl;
      entries_are = refl;
      nothing_replaced = refl;
      nexts_are = refl;
      states_are = refl;
      state_count = refl;
      some_states = omega arith;
      few_states = omega arith;
      size = refl;
      few_symbols = omega arith;
      symbols_are = refl;
      few_lookaheads = omega arith;
      goes = refl;
      ends_are = refl;
    }

pub typed-is-sound : IsSound typed_word_machine 29 22 waits
unfolding typed_word_machine all_below state_at step symbol_count cells waits
typed-is-sound =
    record {
      ranges_are = refl;
      ranges_rise = refl;
      values_are = refl;
      entries_are = refl;
      nothing_replaced = refl;
      nexts_are = refl;
      states_are = refl;
      state_count = refl;
      some_states = omega arith;
      few_states = omega arith;
      size = refl;
      few_symbols = omega arith;
      symbols_are = refl;
      few_lookaheads = omega arith;
      goes = refl;
      ends_are = refl;
    }
