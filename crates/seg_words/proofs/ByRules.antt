-- Laws of the boundaries of words, by either rules.
use Rattle.std.proofs.Common.{◌≡◌, ℕ, List, ◌∷◌, drop, ap}
use Rattle.std.specs.Prelude.{Option}
use Rattle.seg_text.specs.declared.boundary.Boundary.{Boundary}
use Rattle.seg_text.specs.Boundaries.{RestartsIn, start, Stretch, HasOneAnswer, HasProgress, list_boundaries, Cuts}
use Rattle.seg_text.proofs.Restarts.{restarts, restarts-as}
use Rattle.seg_text.proofs.Stretches.{one-answer}
use Rattle.seg_data.specs.Table.{Table}
use Rattle.seg_machine.specs.Pick.{machine_stretch}
use Rattle.seg_machine.proofs.Segmentations.{machine-going, machine-alone}
use Rattle.seg_pairs.specs.PairTable.{PairTable}
use Rattle.seg_pairs.specs.Breaks.{table_stretch, HasComplexElement, complex_stretch}
use Rattle.seg_pairs.proofs.ComplexStretches.{complex-going, none-after, without-complex}
use Rattle.seg_pairs.proofs.Engine.{table-going, table-alone}
use Rattle.seg_clusters.specs.Rules.{Rules}
use Rattle.seg_clusters.specs.Rules.Rules.{ByTable, ByMachine}
use Rattle.seg_data.specs.ScriptWords.{ScriptWords, AreSameWords}
use Rattle.seg_clusters.specs.Payloads.{Payloads, run_cuts_by}
use Rattle.seg_clusters.proofs.EqualWords.{same-run-cuts}
use Rattle.seg_words.specs.WordRules.{HasNoRunOfWords, WordRules, first_word_stretch, span_stretch, stretch_by, with_words, word_boundaries_by}
use Rattle.seg_words.proofs.Spans.{spans-going, without-words}
use Rattle.seg_words.proofs.EqualSpans.{same-spans}

going : (rules : Rules) (payloads : Payloads) → HasProgress (stretch_by rules payloads)
going (ByTable t overriding) payloads = complex-going t overriding (run_cuts_by payloads)
going (ByMachine m) payloads = spans-going m payloads

pub one-by : (words : WordRules) → HasOneAnswer (first_word_stretch words)
one-by words = one-answer (first_word_stretch words) (going words.rules words.payloads)

-- without complex code points a table's boundaries of words are those of the table alone
same-without : (t : PairTable) (overriding : Option Table) (payloads : Payloads) (xs : List ℕ) → (HasComplexElement t overriding xs → ⊥)
    → list_boundaries (stretch_by (ByTable t overriding) payloads) xs ≡ list_boundaries (table_stretch t overriding) xs
same-without t overriding payloads xs none = ap (λ (later : List Boundary). start ∷ later) (without-complex (run_cuts_by payloads) t overriding xs none)

restarts-with : (rules : Rules) (payloads : Payloads) (xs : List ℕ) → HasNoRunOfWords rules payloads.words xs → RestartsIn (list_boundaries (stretch_by rules payloads)) xs
restarts-with (ByMachine m) payloads xs none =
    restarts-as (list_boundaries (span_stretch m payloads)) (list_boundaries (machine_stretch m)) xs
    (λ n. without-words m payloads none (drop n xs)) (restarts (machine_stretch m) (machine-going m) (machine-alone m) xs)
restarts-with (ByTable t overriding) payloads xs none =
    restarts-as (list_boundaries (stretch_by (ByTable t overriding) payloads)) (list_boundaries (table_stretch t overriding)) xs
    (λ n. same-without t overriding payloads (drop n xs) (none-after t overriding n xs none)) (restarts (table_stretch t overriding) (table-going t overriding) (table-alone t overriding) xs)

pub restarts-by : (words : WordRules) (xs : List ℕ) → HasNoRunOfWords words.rules words.payloads.words xs → RestartsIn (word_boundaries_by words) xs
restarts-by words = restarts-with words.rules words.payloads

-- the words of each script are a set

same-by : (rules : Rules) (payloads : Payloads) (others : ScriptWords) → AreSameWords payloads.words others
    → list_boundaries (stretch_by rules (record { words = others; clusters = payloads.clusters })) ≡ list_boundaries (stretch_by rules payloads)
same-by (ByTable t overriding) payloads others same =
    ap (λ (cuts : Cuts). list_boundaries (complex_stretch cuts t overriding)) (same-run-cuts payloads others same)
same-by (ByMachine m) payloads others same =
    ap (λ (first : List ℕ → Stretch). list_boundaries first) (same-spans m payloads others same)

pub equal-words : (words : WordRules) (others : ScriptWords) → AreSameWords words.payloads.words others
    → word_boundaries_by (with_words words others) ≡ word_boundaries_by words
equal-words words others same = same-by words.rules words.payloads others same
