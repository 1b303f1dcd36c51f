-- Sets of the same words make the same spans, which are cut alike.
use Rattle.std.proofs.Common.{◌≡◌, ℕ, ◌==◌, List, [], ◌∷◌, take, refl, sym, ap, ◌∙◌}
use Rattle.std.proofs.Math.Path.{fun_ext}
use Rattle.std.specs.Prelude.{Option, None, Some}
use Rattle.std.specs.List.{prefix_len}
use Rattle.seg_text.specs.declared.boundary.Boundary.{Boundary}
use Rattle.seg_text.specs.Boundaries.{offsets, with_status, Stretch, later_boundaries}
use Rattle.seg_data.specs.declared.provider.ComplexScript.{ComplexScript}
use Rattle.seg_data.specs.ScriptWords.{ScriptWords, AreSameWords, IsSameChoice, words_in}
use Rattle.seg_data.specs.WordSets.{Words}
use Rattle.seg_clusters.specs.Rules.{boundaries_by}
use Rattle.seg_machine.specs.Machine.{Machine, symbol_and_script}
use Rattle.seg_clusters.specs.DictionaryCuts.{Clusters}
use Rattle.seg_clusters.specs.Spans.{inner_cuts, but_the_last, span_cuts, if_worded, span_length, span_words, worded_script}
use Rattle.seg_clusters.specs.Payloads.{Payloads}
use Rattle.seg_clusters.specs.Scripts.{script_number}
use Rattle.seg_clusters.proofs.EqualWords.{same-cuts}
use Rattle.seg_clusters.proofs.SpanStretches.{InSpan, stretch_with}

same-if : (found other : Option Words) → IsSameChoice found other → (script : ComplexScript) → if_worded found script ≡ if_worded other script
same-if None None same script = refl
same-if (Some words) (Some others) same script = refl
same-if None (Some others) same script = absurd same
same-if (Some words) None same script = absurd same

-- the length of a span by what gives the scripts
abbrev length_by : (ℕ → ComplexScript) → List ℕ → ℕ
length_by script_of [] = 0
length_by script_of (first ∷ rest) = prefix_len (λ code_point. script_number (script_of code_point) == script_number (script_of first)) (first ∷ rest)

by-scripts : (m : Machine) (words : ScriptWords) (code_points : List ℕ) → span_length m words code_points ≡ length_by (worded_script m words) code_points
by-scripts m words [] = refl
by-scripts m words (first ∷ rest) = refl

-- what finds boundaries in a span finds the same with the same set of words
abbrev pub IsAlike : InSpan → Type 0
IsAlike inner = (found other : Option Words) → IsSameChoice found other → (span : List ℕ) → inner found span ≡ inner other span

module _ (m : Machine) (words others : ScriptWords) (same : AreSameWords words others) where
  same-scripts : worded_script m words ≡ worded_script m others
  same-scripts =
      fun_ext (λ code_point. let script = (symbol_and_script m code_point).1 in
      same-if (words_in words script) (words_in others script) (same script) script)

  same-length : (code_points : List ℕ) → span_length m words code_points ≡ span_length m others code_points
  same-length code_points =
      by-scripts m words code_points
      ∙ ap (λ (script_of : ℕ → ComplexScript). length_by script_of code_points) same-scripts
      ∙ sym (by-scripts m others code_points)

  module _ (inner : InSpan) (alike : IsAlike inner) where
    same-inner : (code_points span : List ℕ) → inner (span_words m words code_points) span ≡ inner (span_words m others code_points) span
    same-inner [] span = refl
    same-inner (first ∷ rest) span =
        alike (words_in words (worded_script m words first)) (words_in others (worded_script m words first)) (same (worded_script m words first)) span
        ∙ ap (λ (script_of : ℕ → ComplexScript). inner (words_in others (script_of first)) span) same-scripts

    pub same-stretches : stretch_with m others inner ≡ stretch_with m words inner
    same-stretches =
        let with : ℕ → List Boundary → Stretch = λ extent boundaries. record { extent = extent; boundaries = boundaries } in
        sym (fun_ext (λ code_points.
        ap (λ n. with n (inner (span_words m words code_points) (take n code_points))) (same-length code_points)
        ∙ ap (with (span_length m others code_points)) (same-inner code_points (take (span_length m others code_points) code_points))))

in-span-alike : (clusters : Clusters) → IsAlike (λ found span. with_status 0 (but_the_last (span_cuts clusters found span)))
in-span-alike clusters None None same span = refl
in-span-alike clusters (Some words) (Some others) same span = ap (λ (cuts : List ℕ → List ℕ). with_status 0 (but_the_last (cuts span))) (same-cuts words others same clusters)
in-span-alike clusters None (Some others) same span = absurd same
in-span-alike clusters (Some words) None same span = absurd same

pub same-inner-cuts : (m : Machine) (payloads : Payloads) (others : ScriptWords) → AreSameWords payloads.words others
    → inner_cuts m (record { words = others; clusters = payloads.clusters }) ≡ inner_cuts m payloads
same-inner-cuts m payloads others same =
    ap (λ (first : List ℕ → Stretch). (λ code_points. offsets (later_boundaries first code_points)))
    (same-stretches m payloads.words others same (λ found span. with_status 0 (but_the_last (span_cuts (boundaries_by payloads.clusters) found span))) (in-span-alike (boundaries_by payloads.clusters)))
