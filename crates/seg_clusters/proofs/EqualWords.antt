-- Sets of the same words cut alike.
use Rattle.std.proofs.Common.{◌≡◌, ℕ, zero, suc, Bool, true, false, List, [], ◌∷◌, ◌++◌, length, take, refl, sym, ap}
use Rattle.std.proofs.Math.Path.{fun_ext}
use Rattle.std.specs.Prelude.{Option, None, Some}
use Rattle.seg_text.specs.Boundaries.{boundary, offsets, Stretch, later_boundaries}
use Rattle.seg_data.specs.declared.provider.ComplexScript.{ComplexScript}
use Rattle.seg_data.specs.WordSets.{Words, IsSameSet}
use Rattle.seg_data.specs.ScriptWords.{ScriptWords, AreSameWords, IsSameChoice, words_in}
use Rattle.seg_clusters.specs.Rules.{boundaries_by}
use Rattle.seg_clusters.specs.DictionaryCuts.{Clusters, IsProperPrefix, is_word, goes_on, longest_word, read_from, read_all, first_cut, dictionary_cuts, by_words}
use Rattle.seg_clusters.specs.Payloads.{Payloads, run_cuts_by}
use Rattle.seg_clusters.specs.Scripts.{PieceCuts, run_cuts}
use Rattle.seg_clusters.proofs.Tails.{word-to, word-from, prefix-to, prefix-from}

-- two tests that say yes of the same
same-test : (b c : Bool) → (b ≡ true → c ≡ true) → (c ≡ true → b ≡ true) → b ≡ c
same-test true true to from = refl
same-test true false to from = sym (to refl)
same-test false true to from = from refl
same-test false false to from = refl

module _ (words others : Words) (same : IsSameSet words others) where
  same-word : (read : List ℕ) → is_word words read ≡ is_word others read
  same-word read =
      same-test (is_word words read) (is_word others read)
      (λ is. word-to others read ((same read).0 (word-from words read is)))
      (λ is. word-to words read ((same read).1 (word-from others read is)))

  longer-to : (read : List ℕ) → IsProperPrefix words read → IsProperPrefix others read
  longer-to read (next, (tail, among)) = (next, (tail, (same (read ++ next ∷ tail)).0 among))

  longer-from : (read : List ℕ) → IsProperPrefix others read → IsProperPrefix words read
  longer-from read (next, (tail, among)) = (next, (tail, (same (read ++ next ∷ tail)).1 among))

  same-going : (read : List ℕ) → goes_on words read ≡ goes_on others read
  same-going read =
      same-test (goes_on words read) (goes_on others read)
      (λ is. prefix-to others read (longer-to read (prefix-from words read is)))
      (λ is. prefix-to words read (longer-from read (prefix-from others read is)))

  same-longest : (ends rest : List ℕ) (n : ℕ) → longest_word words ends rest n ≡ longest_word others ends rest n
  unfolding longest_word
  same-longest ends rest zero = refl
  same-longest ends rest (suc n) = rw (same-word (take (suc n) rest), same-longest ends rest n) refl

  same-read : (rest : List ℕ) (read left : ℕ) → read_from words rest read left ≡ read_from others rest read left
  unfolding read_from
  same-read rest read zero = refl
  same-read rest read (suc left) = rw (same-going (take (suc read) rest), same-read rest (suc read) left) refl

  same-first : (ends rest : List ℕ) → first_cut words ends rest ≡ first_cut others ends rest
  unfolding first_cut read_all
  same-first ends rest =
      rw (same-read rest 0 (length rest), same-longest ends rest (read_from others rest 0 (length rest))) refl

  pub same-cuts : (clusters : Clusters) → dictionary_cuts words clusters ≡ dictionary_cuts others clusters
  same-cuts clusters =
      let stretch : ℕ → Stretch = λ taken. record { extent = taken; boundaries = boundary taken 0 ∷ [] } in
      let cuts : (List ℕ → ℕ) → List ℕ → List ℕ = λ next piece. offsets (later_boundaries (λ rest. stretch (next rest)) piece) in
      ap cuts (fun_ext (λ rest. same-first (offsets (clusters rest)) rest))

same-choice : (words others : Option Words) → IsSameChoice words others → (clusters : Clusters) (script : ComplexScript) (piece : List ℕ)
    → by_words words clusters script piece ≡ by_words others clusters script piece
same-choice None None same clusters script piece = refl
same-choice (Some words) (Some others) same clusters script piece = ap (λ (cuts : List ℕ → List ℕ). cuts piece) (same-cuts words others same clusters)
same-choice None (Some others) same clusters script piece = absurd same
same-choice (Some words) None same clusters script piece = absurd same

-- .. and runs are cut alike by the words of their scripts
pub same-run-cuts : (payloads : Payloads) (others : ScriptWords) → AreSameWords payloads.words others
    → run_cuts_by (record { words = others; clusters = payloads.clusters }) ≡ run_cuts_by payloads
same-run-cuts payloads others same =
    let clusters = boundaries_by payloads.clusters in
    sym (ap (λ (cuts : PieceCuts). run_cuts cuts)
    (fun_ext (λ script. fun_ext (λ piece. same-choice (words_in payloads.words script) (words_in others script) (same script) clusters script piece))))
