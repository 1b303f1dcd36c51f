use Rattle.std.proofs.Common.{refl}
use Rattle.seg_text.specs.Boundaries.{later_boundaries_within, later_boundaries}
use Rattle.seg_clusters.specs.DictionaryCuts.{is_end, end_from, longest_word, read_from, read_all, first_cut}
use Rattle.seg_clusters.proofs.laws.complex.small_dictionaries_cut.Goals as goal

pub returns : goal.returns
unfolding later_boundaries_within later_boundaries is_end end_from longest_word read_from read_all first_cut
returns c = record {
  inside_cluster = refl;
  longer_word = refl;
  no_words = refl;
  empty_word = refl;
  one_cluster = refl;
  word_twice = refl;
  twice = refl;
  shorter = refl;
  back = refl;
  replacement = refl;
}
