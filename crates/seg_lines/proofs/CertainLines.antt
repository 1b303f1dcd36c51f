-- Certain places of lines by a machine: where its symbols are certain and no run goes over the place, a boundary stands, and a text may be split.
use Rattle.std.proofs.Common.{◌≡◌, ℕ, suc, ◌+◌, ◌<◌, ◌⊎◌, inl, inr, List, [], ◌∷◌, ◌++◌, Contains, length, drop, refl, sym, ap, ap₂, ◌∙◌, subst, arith, length-append}
use Rattle.seg_text.specs.declared.boundary.Boundary.{Boundary}
use Rattle.seg_text.specs.Boundaries.{IsCover, RisesTo, offsets, shift, shift_all, later_boundaries}
use Rattle.seg_machine.specs.MachineFaults.{IsChecked}
use Rattle.seg_machine.specs.Machine.{Machine as AnyMachine}
use Rattle.seg_machine.specs.Pick.{machine_boundaries, machine_stretch}
use Rattle.seg_machine.specs.declared.tailored_machine.TailoredMachineBorrowed.{TailoredMachineBorrowed}
use Rattle.seg_clusters.specs.Certain.{AlwaysBreaks, AreCertain, BeginsBetween, SplitsBetween, without_last}
use Rattle.seg_clusters.specs.Rules.{boundaries_by}
use Rattle.seg_clusters.specs.Rules.Rules.{ByMachine as ByClusterMachine}
use Rattle.seg_clusters.specs.Spans.{inner_cuts, inner_stretch, IsOutsideRuns, IsSpanEdge}
use Rattle.seg_clusters.specs.Scripts.{CoverPieces, later_places}
use Rattle.seg_clusters.specs.Payloads.{Payloads, piece_cuts_by}
use Rattle.seg_clusters.proofs.ByRules.{machine-covers}
use Rattle.seg_clusters.proofs.Certain.{certain-by}
use Rattle.seg_clusters.proofs.Begins.{IsOne, one-boundary, splits-begin}
use Rattle.seg_clusters.proofs.CertainParts.{last-off, splits-by}
use Rattle.seg_clusters.proofs.Cutting.{offsets-append}
use Rattle.seg_clusters.proofs.InnerCuts.{in-span}
use Rattle.seg_clusters.proofs.InnerRange.{AreBetween, inner-between}
use Rattle.seg_clusters.proofs.SplitSpans.{cuts-split, edge-split, later-offsets}
use Rattle.seg_lines.specs.LineBreaks.{joined, LineFinder, LineRules, LinesAreCertain, LinesAreCertainWith, boundaries_with, line_boundaries_by}
use Rattle.seg_lines.specs.LineBreaks.LineFinder.{ByMachine, ByPlaces}
use Rattle.seg_lines.specs.Lines.{finder_of}
use Rattle.seg_lines.specs.declared.finder.Finder.{Finder}
use Rattle.seg_lines.specs.declared.finder.Finder.TheVariants.{Clusters, Places, Table, Turns, Machine}
use Rattle.seg_lines.proofs.JoinCover.{counted-cover, plain-rising}
use Rattle.seg_lines.proofs.JoinMembers.{In, in-from, in-to, offset-old}
use Rattle.seg_lines.proofs.Joins.{AreAtMost}
use Rattle.seg_lines.proofs.PlainBoundaries.{plain, plain-append, plain-cover, plain-drop, plain-offsets, plain-shift, plain-without-last}
use Rattle.seg_lines.proofs.SplitLines.{HasFrom, cuts-above, cuts-at-most, joined-parts, rest-joined}

-- the cuts inside runs

module _ (m : AnyMachine) (payloads : Payloads) (one other : ℕ) where
  cuts-edge : IsSpanEdge m payloads.words one other → (before ys : List ℕ) → let first = before ++ one ∷ [] in
      inner_cuts m payloads (first ++ other ∷ ys) ≡ inner_cuts m payloads first ++ later_places (length first) (inner_cuts m payloads (other ∷ ys))
  cuts-edge edge before ys =
      let first = before ++ one ∷ [] in
      ap offsets (edge-split m payloads.words (in-span (boundaries_by payloads.clusters)) refl one other edge before ys)
      ∙ offsets-append (later_boundaries (inner_stretch m payloads) first) (shift_all (length first) (later_boundaries (inner_stretch m payloads) (other ∷ ys)))
      ∙ ap (λ places. inner_cuts m payloads first ++ places) (later-offsets (length first) (later_boundaries (inner_stretch m payloads) (other ∷ ys)))

  cuts-apart : IsOutsideRuns m payloads.words one ⊎ IsSpanEdge m payloads.words one other → (before ys : List ℕ) → let first = before ++ one ∷ [] in
      inner_cuts m payloads (first ++ other ∷ ys) ≡ inner_cuts m payloads first ++ later_places (length first) (inner_cuts m payloads (other ∷ ys))
  cuts-apart (inl outside) before ys = cuts-split m payloads one outside before (other ∷ ys)
  cuts-apart (inr edge) before ys = cuts-edge edge before ys

-- strictly inside one code point stands no cut
none-inside : (cuts : List ℕ) → AreBetween 0 cuts 1 → cuts ≡ []
none-inside [] between = refl
none-inside (cut ∷ cuts) between = absurd (omega (arith, between.0, between.1))

-- boundaries up to a place, and one behind it

rises-below : (some : List Boundary) (last : Boundary) (from end : ℕ) → RisesTo from (some ++ last ∷ []) end → from < end
rises-below [] last from end rises = omega (arith, rises.0, rises.1)
rises-below (found ∷ some) last from end rises = omega (arith, rises.0, rises-below some last found.offset end rises.1)

risen-up-to : (some : List Boundary) (last : Boundary) (from place : ℕ) → RisesTo from (some ++ last ∷ []) (suc place) → AreAtMost place (offsets some)
risen-up-to [] last from place rises = tt
risen-up-to (found ∷ some) last from place rises =
    let below : found.offset < suc place = rises-below some last found.offset (suc place) rises.1 in
    (omega (arith, below), risen-up-to some last found.offset place rises.1)

all-up-to : (some : List Boundary) (last : Boundary) (place : ℕ) → IsCover 0 (suc place) (some ++ last ∷ []) → AreAtMost place (offsets some)
all-up-to [] last place covers = tt
all-up-to (found ∷ some) last place covers = (omega (arith, covers.0), risen-up-to some last 0 place covers.1)

one-from : (some : List Boundary) (last : Boundary) (place : ℕ) → place < last.offset → In (offsets (some ++ last ∷ [])) place → HasFrom place some
unfolding HasFrom
one-from [] last place behind (inl is) = absurd (omega (arith, behind, is))
one-from [] last place behind (inr is) = absurd is
one-from (found ∷ some) last place behind (inl is) = inl (omega (arith, is))
one-from (found ∷ some) last place behind (inr is) = inr (one-from some last place behind is)

-- joined

three-apart : (earlier : List ℕ) (before one : ℕ) (rest : List ℕ) → earlier ++ before ∷ one ∷ rest ≡ ((earlier ++ before ∷ []) ++ one ∷ []) ++ rest
three-apart [] before one rest = refl
three-apart (c ∷ earlier) before one rest = ap (λ cs. c ∷ cs) (three-apart earlier before one rest)

module _ (m : AnyMachine) (payloads : Payloads) (checked : IsChecked m) (cover : CoverPieces (piece_cuts_by payloads)) (before one other : ℕ)
    (certain : LinesAreCertainWith (ByMachine m) payloads before one other) where
  abbrev find : List ℕ → List Boundary
  find = boundaries_with (ByMachine m) payloads

  abbrev cuts : List ℕ → List ℕ
  cuts = inner_cuts m payloads

  -- what stands up to the place, as a list of its own, and with the last of the three code points
  abbrev front : List ℕ → List ℕ
  front earlier = (earlier ++ before ∷ []) ++ one ∷ []

  abbrev ended : List ℕ → List ℕ
  ended earlier = earlier ++ before ∷ one ∷ other ∷ []

  front-length : (earlier : List ℕ) → length (front earlier) ≡ length earlier + 2
  front-length earlier = omega (arith, length-append (earlier ++ before ∷ []) (one ∷ []), length-append earlier (before ∷ []))

  cuts-at : (earlier rest : List ℕ) → cuts (earlier ++ before ∷ one ∷ other ∷ rest) ≡ cuts (front earlier) ++ later_places (length earlier + 2) (cuts (other ∷ rest))
  cuts-at earlier rest =
      ap cuts (three-apart earlier before one (other ∷ rest))
      ∙ cuts-apart m payloads one other certain.1 (earlier ++ before ∷ []) rest
      ∙ ap (λ n. cuts (front earlier) ++ later_places n (cuts (other ∷ rest))) (front-length earlier)

  cuts-ended : (earlier : List ℕ) → cuts (ended earlier) ≡ cuts (front earlier) ++ []
  cuts-ended earlier =
      cuts-at earlier []
      ∙ ap (λ places. cuts (front earlier) ++ later_places (length earlier + 2) places) (none-inside (cuts (other ∷ [])) (inner-between m payloads cover (other ∷ [])))

  cuts-few : (earlier : List ℕ) → AreAtMost (length earlier + 2) (cuts (front earlier))
  cuts-few earlier = subst (λ n. AreAtMost n (cuts (front earlier))) (front-length earlier) (cuts-at-most m payloads checked cover (front earlier))

  -- the machine's own

  breaks-plain : AlwaysBreaks (machine_boundaries m) before one other
  breaks-plain = certain-by (ByClusterMachine m) m refl checked before one other certain.0

  splits-plain : SplitsBetween (machine_boundaries m) before one other
  splits-plain = splits-by (ByClusterMachine m) m refl checked before one other certain.0

  abbrev some : List ℕ → List Boundary
  some earlier = without_last (machine_boundaries m (ended earlier))

  alone : IsOne (later_boundaries (machine_stretch m) (other ∷ []))
  alone = one-boundary (later_boundaries (machine_stretch m) (other ∷ [])) (machine-covers m checked (other ∷ [])).1

  abbrev last : List ℕ → Boundary
  last earlier = shift (length earlier + 2) alone.last

  ends : (earlier : List ℕ) → machine_boundaries m (ended earlier) ≡ some earlier ++ last earlier ∷ []
  ends earlier = splits-plain earlier [] ∙ ap (λ (more : List Boundary). some earlier ++ shift_all (length earlier + 2) more) alone.is

  up-to : (earlier : List ℕ) → AreAtMost (length earlier + 2) (offsets (some earlier))
  up-to earlier =
      let size : length (ended earlier) ≡ suc (length earlier + 2) = omega (arith, length-append earlier (before ∷ one ∷ other ∷ [])) in
      all-up-to (some earlier) (last earlier) (length earlier + 2)
      (subst (λ n. IsCover 0 n (some earlier ++ last earlier ∷ [])) size (subst (IsCover 0 (length (ended earlier))) (ends earlier) (machine-covers m checked (ended earlier))))

  reaches : (earlier : List ℕ) → HasFrom (length earlier + 2) (some earlier)
  reaches earlier =
      one-from (some earlier) (last earlier) (length earlier + 2) (omega (arith, alone.after_start))
      (in-to (offsets (some earlier ++ last earlier ∷ [])) (length earlier + 2)
      (subst (λ (found : List Boundary). Contains (offsets found) (length earlier + 2)) (ends earlier) (breaks-plain earlier [])))

  -- what is joined up to the place
  ended-joined : (earlier : List ℕ) → without_last (find (ended earlier)) ≡ joined (some earlier) (cuts (front earlier))
  ended-joined earlier =
      ap without_last
      (ap₂ (λ (boundaries : List Boundary) places. joined boundaries places) (ends earlier) (cuts-ended earlier)
      ∙ joined-parts (length earlier + 2) (some earlier) (last earlier ∷ []) (cuts (front earlier)) [] (up-to earlier) (reaches earlier) (cuts-few earlier) tt)
      ∙ last-off (joined (some earlier) (cuts (front earlier))) (last earlier)

  lines-part : SplitsBetween find before one other
  lines-part earlier later =
      let place : ℕ = length earlier + 2 in
      ap₂ (λ (boundaries : List Boundary) places. joined boundaries places) (splits-plain earlier later) (cuts-at earlier later)
      ∙ joined-parts place (some earlier) (shift_all place (later_boundaries (machine_stretch m) (other ∷ later))) (cuts (front earlier)) (later_places place (cuts (other ∷ later)))
      (up-to earlier) (reaches earlier) (cuts-few earlier) (cuts-above m payloads checked cover place (other ∷ later))
      ∙ ap (λ (more : List Boundary). joined (some earlier) (cuts (front earlier)) ++ more) (rest-joined m payloads checked cover place (other ∷ later))
      ∙ ap (λ (up_to : List Boundary). up_to ++ shift_all place (drop 1 (find (other ∷ later)))) (sym (ended-joined earlier))

  lines-break : AlwaysBreaks find before one other
  lines-break earlier later =
      let whole : List ℕ = earlier ++ before ∷ one ∷ other ∷ later in
      let place : ℕ = length earlier + 2 in
      in-from (offsets (find whole)) place
      (offset-old (machine_boundaries m whole) (plain-rising m payloads checked cover whole) (cuts whole) place (in-to (offsets (machine_boundaries m whole)) place (breaks-plain earlier later)))

  lines-begin : BeginsBetween find before one other
  lines-begin = splits-begin find before one other (counted-cover m payloads checked cover) lines-part

-- what is certain of some boundaries
pub record Certain (find : List ℕ → List Boundary) (before one other : ℕ) : Type 0 where
  pub breaks : AlwaysBreaks find before one other
  pub parts : SplitsBetween find before one other
  pub begins : BeginsBetween find before one other

pub by-machine : (rules : LineRules) (m : AnyMachine) → rules.finder ≡ ByMachine m → IsChecked m → CoverPieces (piece_cuts_by rules.payloads) → (before one other : ℕ)
    → LinesAreCertain rules before one other → Certain (line_boundaries_by rules) before one other
by-machine rules m is checked cover before one other =
    subst (λ (finder : LineFinder). LinesAreCertainWith finder rules.payloads before one other → Certain (boundaries_with finder rules.payloads) before one other) (sym is)
    (λ certain. record {
      breaks = lines-break m rules.payloads checked cover before one other certain;
      parts = lines-part m rules.payloads checked cover before one other certain;
      begins = lines-begin m rules.payloads checked cover before one other certain;
    })

-- by what isn't a machine of lines they are certain where clusters are

places-certain : (payloads : Payloads) (before one other : ℕ) → ((cs : List ℕ) → IsCover 0 (length cs) (boundaries_by payloads.clusters cs))
    → AlwaysBreaks (boundaries_by payloads.clusters) before one other → SplitsBetween (boundaries_by payloads.clusters) before one other
    → Certain (boundaries_with ByPlaces payloads) before one other
places-certain payloads before one other cover breaks parts =
    let find : List ℕ → List Boundary = boundaries_by payloads.clusters in
    let split : SplitsBetween (boundaries_with ByPlaces payloads) before one other =
    λ earlier later.
    let ended : List Boundary = find (earlier ++ before ∷ one ∷ other ∷ []) in
    let more : List Boundary = find (other ∷ later) in
    ap plain (parts earlier later)
    ∙ plain-append (without_last ended) (shift_all (length earlier + 2) (drop 1 more))
    ∙ ap₂ (λ (front rest : List Boundary). front ++ rest) (sym (plain-without-last ended))
    (plain-shift (length earlier + 2) (drop 1 more) ∙ ap (shift_all (length earlier + 2)) (sym (plain-drop 1 more))) in
    record {
      breaks = λ earlier later.
          let whole : List ℕ = earlier ++ before ∷ one ∷ other ∷ later in
          subst (λ (places : List ℕ). Contains places (length earlier + 2)) (sym (plain-offsets (find whole))) (breaks earlier later);
      parts = split;
      begins = splits-begin (boundaries_with ByPlaces payloads) before one other (λ cs. plain-cover 0 (length cs) (find cs) (cover cs)) split;
    }

pub by-clusters : (payloads : Payloads) (finder : Finder) → ((machine : TailoredMachineBorrowed) → finder ≡ Machine machine → ⊥) → (before one other : ℕ)
    → ((cs : List ℕ) → IsCover 0 (length cs) (boundaries_by payloads.clusters cs))
    → (AreCertain payloads.clusters before one other → AlwaysBreaks (boundaries_by payloads.clusters) before one other)
    → (AreCertain payloads.clusters before one other → SplitsBetween (boundaries_by payloads.clusters) before one other)
    → LinesAreCertainWith (finder_of finder) payloads before one other → Certain (boundaries_with (finder_of finder) payloads) before one other
by-clusters payloads Clusters none before one other cover breaks parts certain = record {
  breaks = breaks certain;
  parts = parts certain;
  begins = splits-begin (boundaries_by payloads.clusters) before one other cover (parts certain);
}
by-clusters payloads Places none before one other cover breaks parts certain = places-certain payloads before one other cover (breaks certain) (parts certain)
by-clusters payloads (Table pairs) none before one other cover breaks parts certain = absurd certain
by-clusters payloads (Turns pairs) none before one other cover breaks parts certain = absurd certain
by-clusters payloads (Machine machine) none before one other cover breaks parts certain = absurd (none machine refl)
