-- Sets of the same words make the same spans, whose boundaries are the same.
use Rattle.std.proofs.Common.{◌≡◌, ℕ, List, refl, ap}
use Rattle.std.specs.Prelude.{None, Some}
use Rattle.seg_text.specs.Boundaries.{with_status}
use Rattle.seg_data.specs.ScriptWords.{ScriptWords, AreSameWords}
use Rattle.seg_clusters.specs.Rules.{boundaries_by}
use Rattle.seg_machine.specs.Machine.{Machine}
use Rattle.seg_clusters.specs.DictionaryCuts.{Clusters}
use Rattle.seg_clusters.specs.Payloads.{Payloads}
use Rattle.seg_clusters.proofs.EqualSpans.{IsAlike, same-stretches}
use Rattle.seg_clusters.proofs.EqualWords.{same-cuts}
use Rattle.seg_words.specs.WordRules.{letters, span_boundaries, span_stretch}

span-alike : (m : Machine) (clusters : Clusters) → IsAlike (span_boundaries m clusters)
span-alike m clusters None None same span = refl
span-alike m clusters (Some words) (Some others) same span = ap (λ (cuts : List ℕ → List ℕ). with_status letters (cuts span)) (same-cuts words others same clusters)
span-alike m clusters None (Some others) same span = absurd same
span-alike m clusters (Some words) None same span = absurd same

pub same-spans : (m : Machine) (payloads : Payloads) (others : ScriptWords) → AreSameWords payloads.words others
    → span_stretch m (record { words = others; clusters = payloads.clusters }) ≡ span_stretch m payloads
same-spans m payloads others same =
    let clusters = boundaries_by payloads.clusters in
    same-stretches m payloads.words others same (span_boundaries m clusters) (span-alike m clusters)
