-- Spans of a text by a machine: the runs of one script that has words, and the pieces between them.
use Rattle.std.specs.Prelude.{◌≡◌, ◌≢◌, ℕ, ◌<◌, ◌==◌, Bool, Option, Some, List, [], ◌∷◌, MatchOption, None, take, ◌++◌, length}
use Rattle.std.specs.List.{prefix_len}
use Rattle.std.specs.Option.{option_map}
use Rattle.seg_text.specs.Items.{Text, rest_after, text_before, code_points}
use Rattle.seg_text.specs.Boundaries.{offsets, Cuts, cut_places, with_status, Stretch, later_boundaries}
use Rattle.seg_data.specs.declared.provider.ComplexScript.{ComplexScript}
use Rattle.seg_data.specs.declared.provider.ComplexScript.TheVariants as scripts
use Rattle.seg_data.specs.ScriptWords.{words_after, ScriptWords, words_in}
use Rattle.seg_data.specs.WordSets.{Words}
use Rattle.seg_data.specs.declared.provider.dictionary.cursor.DictionaryCursor.{DictionaryCursor}
use Rattle.seg_machine.specs.Machine.{Machine, symbol_and_script}
use Rattle.seg_clusters.specs.Rules.{boundaries_by}
use Rattle.seg_clusters.specs.Scripts.{script_number, later_places}
use Rattle.seg_clusters.specs.DictionaryCuts.{Clusters, dictionary_cuts}
use Rattle.seg_clusters.specs.Payloads.{Payloads}

-- a script if it has words, or else none
abbrev pub if_worded : Option Words → ComplexScript → ComplexScript
if_worded (Some words) script = script
if_worded None script = scripts.None

-- the script of a code point by a machine, if it has words
abbrev pub worded_script : Machine → ScriptWords → ℕ → ComplexScript
worded_script m words code_point = let script = (symbol_and_script m code_point).1 in if_worded (words_in words script) script

-- it is this one
abbrev pub has_worded_script : Machine → ScriptWords → ComplexScript → ℕ → Bool
has_worded_script m words script code_point = script_number (worded_script m words code_point) == script_number script

-- it has none: it stands between runs
abbrev pub is_between : Machine → ScriptWords → ℕ → Bool
is_between m words code_point = has_worded_script m words scripts.None code_point

-- the first span goes as far as the code points have the script of the first
abbrev pub span_length : Machine → ScriptWords → List ℕ → ℕ
span_length m words [] = 0
span_length m words (first ∷ rest) = prefix_len (has_worded_script m words (worded_script m words first)) (first ∷ rest)

-- the words of its script, if it is a run
abbrev pub span_words : Machine → ScriptWords → List ℕ → Option Words
span_words m words [] = None
span_words m words (first ∷ rest) = words_in words (worded_script m words first)

-- the first span of a text was given as a separate text, with the words of its script, and what comes after it is left;
-- or, of a text with no item, none
abbrev pub GivesSpan : {I : Type 0} → Machine → ScriptWords → (I → Text) → Text → Option (I × Option DictionaryCursor) → Text → Type 0
GivesSpan m words text before given after =
    MatchOption given ((before.items ≡ []) × (after ≡ before))
    (λ span. let count = span_length m words (code_points before.items) in
    (0 < count) × (text span.0 ≡ text_before count before)
    × (option_map words_after span.1 ≡ span_words m words (code_points before.items))
    × (after ≡ rest_after count before))

-- The cuts strictly inside the runs of a text, where a machine tells the runs.

-- all cuts of a run but the last, which is at its end
abbrev pub but_the_last : List ℕ → List ℕ
but_the_last [] = []
but_the_last (cut ∷ []) = []
but_the_last (cut ∷ next ∷ cuts) = cut ∷ but_the_last (next ∷ cuts)

-- the cuts of a span: a piece between runs has none
abbrev pub span_cuts : Clusters → Option Words → List ℕ → List ℕ
span_cuts clusters (Some words) span = dictionary_cuts words clusters span
span_cuts clusters None span = []

abbrev pub inner_stretch : Machine → Payloads → List ℕ → Stretch
inner_stretch m payloads code_points =
    let extent = span_length m payloads.words code_points in
    record {
      extent = extent;
      boundaries = with_status 0 (but_the_last (span_cuts (boundaries_by payloads.clusters) (span_words m payloads.words code_points) (take extent code_points)));
    }

-- the cuts inside the runs of a list of code points, span by span
abbrev pub inner_cuts : Machine → Payloads → Cuts
inner_cuts m payloads code_points = offsets (later_boundaries (inner_stretch m payloads) code_points)

-- what is left of the cuts of a text: those of a run, and those of what stands behind it
pub record CutsLeft : Type 0 where
  pub run : List ℕ
  pub rest : Text

abbrev pub cuts_left : Machine → Payloads → CutsLeft → List ℕ
cuts_left m payloads left = left.run ++ cut_places (inner_cuts m payloads) left.rest

-- no cut stands up to a place; where there is no such place, no cut at all
abbrev pub AreBeyond : Option ℕ → List ℕ → Type 0
AreBeyond None cuts = cuts ≡ []
AreBeyond (Some last) [] = Unit {0}
AreBeyond (Some last) (cut ∷ cuts) = last < cut

-- the next cut was given; or none, and none stands up to a place
abbrev pub GivesUpTo : Option ℕ → List ℕ → Option ℕ → List ℕ → Type 0
GivesUpTo last before given after = MatchOption given ((after ≡ before) × AreBeyond last before) (λ cut. before ≡ cut ∷ after)

-- the next run was given with its words: the cuts strictly inside it are the first of a text, and those of what comes after it are left;
-- or none, and no cut stands up to a place
abbrev pub GivesRun : {I : Type 0} → Machine → Payloads → (I → Text) → Option ℕ → Text → Option (I × DictionaryCursor) → Text → Type 0
GivesRun m payloads text last before given after =
    let inside = cut_places (inner_cuts m payloads) in
    MatchOption given ((inside after ≡ inside before) × AreBeyond last (inside before))
    (λ run. (length after.items < length before.items)
    × (inside before ≡ but_the_last (cut_places (dictionary_cuts (words_after run.1) (boundaries_by payloads.clusters)) (text run.0)) ++ inside after))

-- Code points outside runs, after which what is cut span by span may be split.

-- by a machine the code point has no script that has words, so that it stands in no run
abbrev pub IsOutsideRuns : Machine → ScriptWords → ℕ → Type 0
IsOutsideRuns m words code_point = worded_script m words code_point ≡ scripts.None

-- between the two code points another span begins: the scripts that have words, which they have or lack, differ
abbrev pub IsSpanEdge : Machine → ScriptWords → ℕ → ℕ → Type 0
IsSpanEdge m words one other = worded_script m words one ≢ worded_script m words other

-- where the first of two lists ends with the code point, the cuts of both, joined, are those of the first, and then those of
-- the second, so much later
abbrev pub PartsCuts : Cuts → ℕ → Type 0
PartsCuts cuts code_point =
    (before second : List ℕ) → let first = before ++ code_point ∷ [] in
    cuts (first ++ second) ≡ cuts first ++ later_places (length first) (cuts second)
