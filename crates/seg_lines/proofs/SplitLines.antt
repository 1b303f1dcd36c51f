-- Lines may be split where clusters may, and by a machine behind a code point outside runs that resets it.
use Rattle.std.proofs.Common.{◌≡◌, ℕ, ◌+◌, ◌<◌, ◌≤◌, ◌⊎◌, inl, inr, nat_lt, ◌==◌, Bool, true, false, List, [], ◌∷◌, ◌++◌, length, drop, refl, sym, ap, ap₂, ◌∙◌, arith}
use Rattle.std.specs.Prelude.{if◌then◌else◌}
use Rattle.std.specs.Char.{IsScalar}
use Rattle.std.proofs.lemmas.Bool.{cases_lt}
use Rattle.seg_text.specs.declared.boundary.Boundary.{Boundary}
use Rattle.seg_text.specs.Boundaries.{IsCover, RisesTo, boundary, offsets, shift, shift_all, start, later_boundaries}
use Rattle.seg_clusters.specs.Rules.{PartsBehind, PartsTexts, ResetsAfter, boundaries_by}
use Rattle.seg_clusters.proofs.ByRules.{machine-covers}
use Rattle.seg_clusters.proofs.SplitTexts.{texts-split}
use Rattle.seg_clusters.proofs.ResetScans.{parts-lists}
use Rattle.seg_machine.specs.MachineFaults.{IsChecked}
use Rattle.seg_machine.specs.Machine.{Machine as AnyMachine}
use Rattle.seg_machine.specs.declared.tailored_machine.TailoredMachineBorrowed.{TailoredMachineBorrowed}
use Rattle.seg_machine.specs.Pick.{machine_boundaries, machine_stretch}
use Rattle.seg_clusters.specs.Spans.{inner_cuts}
use Rattle.seg_clusters.specs.Scripts.{later_places, CoverPieces}
use Rattle.seg_clusters.specs.Payloads.{Payloads, piece_cuts_by}
use Rattle.seg_clusters.proofs.InnerRange.{inner-between}
use Rattle.seg_clusters.proofs.SplitSpans.{cuts-split}
use Rattle.seg_lines.specs.LineBreaks.{AreAbove, joined, with_cut, boundaries_with, LinesResetWith}
use Rattle.seg_lines.specs.LineBreaks.LineFinder.{ByMachine, ByPlaces}
use Rattle.seg_lines.specs.Lines.{finder_of}
use Rattle.seg_lines.specs.declared.finder.Finder.{Finder}
use Rattle.seg_lines.specs.declared.finder.Finder.TheVariants.{Clusters, Places, Table, Turns, Machine}
use Rattle.seg_lines.proofs.JoinCover.{between-above, between-at-most, counted-cover, rises-at-most}
use Rattle.seg_lines.proofs.Joins.{AreAtMost, boundary-first, cut-after, cut-ahead, cut-at}
use Rattle.seg_lines.proofs.PlainBoundaries.{plain, plain-append, plain-cover, plain-drop, plain-shift}

-- the places of clusters alone

pub places-split : (payloads : Payloads) (c : ℕ) → IsScalar c → ((cs : List ℕ) → IsCover 0 (length cs) (boundaries_by payloads.clusters cs))
    → PartsTexts (boundaries_by payloads.clusters) c → PartsTexts (boundaries_with ByPlaces payloads) c
places-split payloads c scalar cover parts = texts-split (boundaries_with ByPlaces payloads) covers c lists scalar
  where
    find : List ℕ → List Boundary
    find = boundaries_by payloads.clusters

    covers : (cs : List ℕ) → IsCover 0 (length cs) (boundaries_with ByPlaces payloads cs)
    covers cs = plain-cover 0 (length cs) (boundaries_by payloads.clusters cs) (cover cs)

    lists : PartsBehind (boundaries_with ByPlaces payloads) (c ∷ [])
    lists before second =
        let find : List ℕ → List Boundary = boundaries_by payloads.clusters in
        let first = before ++ c ∷ [] in
        ap plain (parts.lists before second)
        ∙ plain-append (find first) (shift_all (length first) (drop 1 (find second)))
        ∙ ap (λ (later : List Boundary). plain (find first) ++ later)
        (plain-shift (length first) (drop 1 (find second)) ∙ ap (shift_all (length first)) (sym (plain-drop 1 (find second))))

-- joined so much later

with-later : (before cut : ℕ) (boundaries : List Boundary) → with_cut (before + cut) (shift_all before boundaries) ≡ shift_all before (with_cut cut boundaries)
with-later before cut [] = refl
with-later before cut (found ∷ boundaries) =
    elim (cases_lt cut found.offset) [
      | inl under ↦
          cut-ahead (before + cut) (shift before found) (shift_all before boundaries) (omega (arith, under)) ∙ sym (ap (shift_all before) (cut-ahead cut found boundaries under))
      | inr other ↦ elim (cases_lt found.offset cut) [
        | inl over ↦
            cut-after (before + cut) (shift before found) (shift_all before boundaries) (omega (arith, over))
            ∙ ap (λ (rest : List Boundary). shift before found ∷ rest) (with-later before cut boundaries)
            ∙ sym (ap (shift_all before) (cut-after cut found boundaries over))
        | inr past ↦
            let at : cut ≡ found.offset = omega (arith, other, past) in
            cut-at (before + cut) (shift before found) (shift_all before boundaries) (ap (λ n. before + n) at) ∙ sym (ap (shift_all before) (cut-at cut found boundaries at))
      ]
    ]

joined-later : (before : ℕ) (boundaries : List Boundary) (cuts : List ℕ) → joined (shift_all before boundaries) (later_places before cuts) ≡ shift_all before (joined boundaries cuts)
joined-later before boundaries [] = refl
joined-later before boundaries (cut ∷ cuts) =
    ap (with_cut (before + cut)) (joined-later before boundaries cuts) ∙ with-later before cut (joined boundaries cuts)

above-later : (before : ℕ) (cuts : List ℕ) → AreAbove 0 cuts → AreAbove before (later_places before cuts)
above-later before [] above = tt
above-later before (cut ∷ cuts) above = (omega (arith, above.0), above-later before cuts above.1)

-- joined part by part

-- one of them isn't before a number
unfoldable pub HasFrom : ℕ → List Boundary → Type 0
HasFrom low [] = ⊥
HasFrom low (found ∷ boundaries) = (low ≤ found.offset) ⊎ HasFrom low boundaries

from-lower : (low high : ℕ) (boundaries : List Boundary) → low ≤ high → HasFrom high boundaries → HasFrom low boundaries
unfolding HasFrom
from-lower low high [] less has = has
from-lower low high (found ∷ boundaries) less (inl here) = inl (omega (arith, less, here))
from-lower low high (found ∷ boundaries) less (inr later) = inr (from-lower low high boundaries less later)

with-keeps : (low cut : ℕ) (boundaries : List Boundary) → HasFrom low boundaries → HasFrom low (with_cut cut boundaries)
unfolding HasFrom
with-keeps low cut [] has = absurd has
with-keeps low cut (found ∷ boundaries) has = on (nat_lt cut found.offset) (cut == found.offset) has (with-keeps low cut boundaries)
  where
    on : (b c : Bool) → (low ≤ found.offset) ⊎ HasFrom low boundaries → (HasFrom low boundaries → HasFrom low (with_cut cut boundaries))
        → HasFrom low (if b then boundary cut 0 ∷ found ∷ boundaries else if c then found ∷ boundaries else found ∷ with_cut cut boundaries)
    on true c has later = inr has
    on false true has later = has
    on false false (inl here) later = inl here
    on false false (inr there) later = inr (later there)

joined-keeps : (low : ℕ) (boundaries : List Boundary) (cuts : List ℕ) → HasFrom low boundaries → HasFrom low (joined boundaries cuts)
joined-keeps low boundaries [] has = has
joined-keeps low boundaries (cut ∷ cuts) has = with-keeps low cut (joined boundaries cuts) (joined-keeps low boundaries cuts has)

last-from : (end : ℕ) (found : Boundary) (boundaries : List Boundary) → RisesTo found.offset boundaries end → HasFrom end (found ∷ boundaries)
unfolding HasFrom
last-from end found [] rises = inl (omega (arith, rises))
last-from end found (next ∷ boundaries) rises = inr (last-from end next boundaries rises.1)

-- a cut before the last of the first boundaries
with-before : (cut : ℕ) (some others : List Boundary) → HasFrom cut some → with_cut cut (some ++ others) ≡ with_cut cut some ++ others
unfolding HasFrom
with-before cut [] others has = absurd has
with-before cut (found ∷ some) others has =
    elim (cases_lt cut found.offset) [
      | inl under ↦ cut-ahead cut found (some ++ others) under ∙ sym (ap (λ (all : List Boundary). all ++ others) (cut-ahead cut found some under))
      | inr other ↦ elim (cases_lt found.offset cut) [
        | inl over ↦
            let later : HasFrom cut some = elim has [ inl here ↦ absurd (omega (arith, here, over)) | inr there ↦ there ] in
            cut-after cut found (some ++ others) over
            ∙ ap (λ (rest : List Boundary). found ∷ rest) (with-before cut some others later)
            ∙ sym (ap (λ (all : List Boundary). all ++ others) (cut-after cut found some over))
        | inr past ↦
            let at : cut ≡ found.offset = omega (arith, other, past) in
            cut-at cut found (some ++ others) at ∙ sym (ap (λ (all : List Boundary). all ++ others) (cut-at cut found some at))
      ]
    ]

-- one after all of them
with-after : (end cut : ℕ) (some others : List Boundary) → AreAtMost end (offsets some) → end < cut → with_cut cut (some ++ others) ≡ some ++ with_cut cut others
with-after end cut [] others most over = refl
with-after end cut (found ∷ some) others most over =
    cut-after cut found (some ++ others) (omega (arith, most.0, over)) ∙ ap (λ (rest : List Boundary). found ∷ rest) (with-after end cut some others most.1 over)

joined-after : (end : ℕ) (some others : List Boundary) (cuts : List ℕ) → AreAtMost end (offsets some) → AreAbove end cuts → joined (some ++ others) cuts ≡ some ++ joined others cuts
joined-after end some others [] most above = refl
joined-after end some others (cut ∷ cuts) most above =
    ap (with_cut cut) (joined-after end some others cuts most above.1) ∙ with-after end cut some (joined others cuts) most above.0

pub joined-parts : (end : ℕ) (some others : List Boundary) (cuts later : List ℕ) → AreAtMost end (offsets some) → HasFrom end some
    → AreAtMost end cuts → AreAbove end later → joined (some ++ others) (cuts ++ later) ≡ joined some cuts ++ joined others later
joined-parts end some others [] later most has few above = joined-after end some others later most above
joined-parts end some others (cut ∷ cuts) later most has few above =
    ap (with_cut cut) (joined-parts end some others cuts later most has few.1 above)
    ∙ with-before cut (joined some cuts) (joined others later) (from-lower cut end (joined some cuts) few.0 (joined-keeps end some cuts has))

-- by a machine

module _ (m : AnyMachine) (payloads : Payloads) (checked : IsChecked m) (cover : CoverPieces (piece_cuts_by payloads)) where
  abbrev plain_later : List ℕ → List Boundary
  plain_later = later_boundaries (machine_stretch m)

  abbrev cuts : List ℕ → List ℕ
  cuts = inner_cuts m payloads

  start-first : (cs : List ℕ) → boundaries_with (ByMachine m) payloads cs ≡ start ∷ joined (plain_later cs) (cuts cs)
  start-first cs = boundary-first start (plain_later cs) (cuts cs) (between-above 0 (length cs) (cuts cs) (inner-between m payloads cover cs))

  -- what is joined behind a place is what the rest has, but for its start, so much later
  pub rest-joined : (before : ℕ) (cs : List ℕ)
      → joined (shift_all before (plain_later cs)) (later_places before (cuts cs)) ≡ shift_all before (drop 1 (boundaries_with (ByMachine m) payloads cs))
  rest-joined before cs = joined-later before (plain_later cs) (cuts cs) ∙ ap (λ (all : List Boundary). shift_all before (drop 1 all)) (sym (start-first cs))

  pub cuts-above : (before : ℕ) (cs : List ℕ) → AreAbove before (later_places before (cuts cs))
  cuts-above before cs = above-later before (cuts cs) (between-above 0 (length cs) (cuts cs) (inner-between m payloads cover cs))

  pub cuts-at-most : (cs : List ℕ) → AreAtMost (length cs) (cuts cs)
  cuts-at-most cs = between-at-most 0 (length cs) (cuts cs) (inner-between m payloads cover cs)

  module _ (c : ℕ) (resets : LinesResetWith (ByMachine m) payloads c) where
    lists : PartsBehind (boundaries_with (ByMachine m) payloads) (c ∷ [])
    lists before second =
        let first = before ++ c ∷ [] in
        let end : ℕ = length first in
        let found : List Boundary = machine_boundaries m first in
        let covers = machine-covers m checked first in
        ap₂ (λ (boundaries : List Boundary) places. joined boundaries places) (parts-lists m checked c resets.0 before second) (cuts-split m payloads c resets.1 before second)
        ∙ joined-parts end found (shift_all end (plain_later second)) (cuts first) (later_places end (cuts second))
        (omega arith, rises-at-most (plain_later first) 0 end covers.1) (last-from end start (plain_later first) covers.1) (cuts-at-most first) (cuts-above end second)
        ∙ ap (λ (later : List Boundary). joined found (cuts first) ++ later) (rest-joined end second)

    pub lines-split : IsScalar c → PartsTexts (boundaries_with (ByMachine m) payloads) c
    lines-split scalar = texts-split (boundaries_with (ByMachine m) payloads) (counted-cover m payloads checked cover) c lists scalar

-- by what isn't a machine of lines

pub clusters-split : (finder : Finder) (payloads : Payloads) (c : ℕ) → ((machine : TailoredMachineBorrowed) → finder ≡ Machine machine → ⊥) → IsScalar c
    → ((cs : List ℕ) → IsCover 0 (length cs) (boundaries_by payloads.clusters cs)) → (ResetsAfter payloads.clusters c → PartsTexts (boundaries_by payloads.clusters) c)
    → LinesResetWith (finder_of finder) payloads c → PartsTexts (boundaries_with (finder_of finder) payloads) c
clusters-split Clusters payloads c none scalar cover parts resets = parts resets
clusters-split Places payloads c none scalar cover parts resets = places-split payloads c scalar cover (parts resets)
clusters-split (Table pairs) payloads c none scalar cover parts resets = absurd resets
clusters-split (Turns pairs) payloads c none scalar cover parts resets = absurd resets
clusters-split (Machine machine) payloads c none scalar cover parts resets = absurd (none machine refl)
