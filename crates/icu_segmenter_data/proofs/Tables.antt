-- The pair tables of Unicode's data have no fault: computations.
use Rattle.std.proofs.Common.{refl, arith}
use Rattle.icu_segmenter_data.specs.Unicode.{cluster_table, line_17_table, line_table, sentence_table, word_table}
use Rattle.icu_segmenter_data.proofs.TableTests.{IsSound}

pub cluster-table-is-sound : IsSound cluster_table
cluster-table-is-sound =
    record {
      ranges_are = refl;
      ranges_rise = refl;
      classes_are = refl;
      entries_are = refl;
      size = refl;
      start_is = omega arith;
      end_is = omega arith;
    }

pub word-table-is-sound : IsSound word_table
word-table-is-sound =
    record {
      ranges_are = refl;
      ranges_rise = refl;
      classes_are = refl;
      entries_are = refl;
      size = refl;
      start_is = omega arith;
      end_is = omega arith;
    }

pub sentence-table-is-sound : IsSound sentence_table
sentence-table-is-sound =
    record {
      ranges_are = refl;
      ranges_rise = refl;
      classes_are = refl;
      entries_are = refl;
      size = refl;
      start_is = omega arith;
      end_is = omega arith;
    }

pub line-table-is-sound : IsSound line_table
line-table-is-sound =
    record {
      ranges_are = refl;
      ranges_rise = refl;
      classes_are = refl;
      entries_are = refl;
      size = refl;
      start_is = omega arith;
      end_is = omega arith;
    }

pub line-17-table-is-sound : IsSound line_17_table
line-17-table-is-sound =
    record {
      ranges_are = refl;
      ranges_rise = refl;
      classes_are = refl;
      entries_are = refl;
      size = refl;
      start_is = omega arith;
      end_is = omega arith;
    }
