-- Without words of any script a text is one span, and no run is cut.
use Rattle.std.proofs.Common.{◌≡◌, ℕ, zero, suc, ◌≤◌, List, [], ◌∷◌, length, drop, refl, ap, ◌∙◌, arith}
use Rattle.std.proofs.lemmas.List.{length-drop}
use Rattle.std.specs.Prelude.{Option, None}
use Rattle.std.specs.List.{prefix_len}
use Rattle.seg_text.specs.Boundaries.{offsets, later_boundaries}
use Rattle.seg_text.proofs.Stretches.{later-nil, later-next}
use Rattle.seg_data.specs.declared.provider.ComplexScript.{ComplexScript}
use Rattle.seg_data.specs.declared.provider.ComplexScript.TheVariants.{None as NoScript, Myanmar, ChineseOrJapanese, Khmer, Lao, Thai}
use Rattle.seg_data.specs.ScriptWords.{ScriptWords, no_words, words_in}
use Rattle.seg_data.specs.WordSets.{Words}
use Rattle.seg_clusters.specs.Rules.{Rules}
use Rattle.seg_machine.specs.Machine.{Machine, symbol_and_script}
use Rattle.seg_clusters.specs.Spans.{inner_cuts, inner_stretch, has_worded_script, if_worded, span_length, span_words, worded_script}
use Rattle.seg_clusters.specs.Payloads.{Payloads}
use Rattle.seg_clusters.specs.Scripts.{script_number}
use Rattle.seg_clusters.proofs.SpanStretches.{span-some}

no-words : (script : ComplexScript) → words_in no_words script ≡ None
no-words NoScript = refl
no-words Myanmar = refl
no-words ChineseOrJapanese = refl
no-words Khmer = refl
no-words Lao = refl
no-words Thai = refl

pub unworded : (m : Machine) (code_point : ℕ) → worded_script m no_words code_point ≡ NoScript
unworded m code_point =
    let script = (symbol_and_script m code_point).1 in
    ap (λ (found : Option Words). if_worded found script) (no-words script)

all-unworded : (m : Machine) (code_points : List ℕ) → prefix_len (has_worded_script m no_words NoScript) code_points ≡ length code_points
all-unworded m [] = refl
all-unworded m (code_point ∷ code_points) =
    rw (ap script_number (unworded m code_point)) (omega (arith, all-unworded m code_points))

pub whole-span : (m : Machine) (first : ℕ) (rest : List ℕ) → span_length m no_words (first ∷ rest) ≡ length (first ∷ rest)
whole-span m first rest =
    ap (λ (script : ComplexScript). prefix_len (has_worded_script m no_words script) (first ∷ rest)) (unworded m first) ∙ all-unworded m (first ∷ rest)

pub whole-words : (m : Machine) (first : ℕ) (rest : List ℕ) → span_words m no_words (first ∷ rest) ≡ None
whole-words m first rest = ap (words_in no_words) (unworded m first) ∙ no-words NoScript

none-within : (m : Machine) (clusters : Rules) (most : ℕ) (code_points : List ℕ) → length code_points ≤ most
    → later_boundaries (inner_stretch m (record { words = no_words; clusters = clusters })) code_points ≡ []
none-within m clusters most [] bound = later-nil (inner_stretch m (record { words = no_words; clusters = clusters }))
none-within m clusters zero (first ∷ rest) bound = absurd (omega arith)
none-within m clusters (suc most) (first ∷ rest) bound =
    let n = span_length m no_words (first ∷ rest) in
    let fewer : length (drop n (first ∷ rest)) ≤ most = omega (arith, length-drop n (first ∷ rest), span-some m no_words first rest, bound) in
    rw (
      later-next (inner_stretch m (record { words = no_words; clusters = clusters })) (λ first rest. span-some m no_words first rest) first rest,
      whole-words m first rest,
      none-within m clusters most (drop n (first ∷ rest)) fewer,
    ) refl

pub inner-none : (m : Machine) (payloads : Payloads) → payloads.words ≡ no_words → (code_points : List ℕ) → inner_cuts m payloads code_points ≡ []
inner-none m payloads none code_points =
    ap (λ (words : ScriptWords). inner_cuts m (record { words = words; clusters = payloads.clusters }) code_points) none
    ∙ ap offsets (none-within m payloads.clusters (length code_points) code_points (omega arith))
