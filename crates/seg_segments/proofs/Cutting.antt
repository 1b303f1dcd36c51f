-- Where texts are cut.
use Rattle.std.proofs.Common.{◌≡◌, ℕ, ◌≤◌, List, [], ◌∷◌, length, map, drop, refl, sym, ap, ◌∙◌, arith}
use Rattle.std.specs.Iterator.{YieldsFirst}
use Rattle.std.specs.Prelude.{Option, Some, None}
use Rattle.std.specs.Str.{IsCharBoundary, IsUtf8}
use Rattle.seg_text.specs.declared.boundary.Boundary.{Boundary}
use Rattle.seg_text.specs.Boundaries.{GivesNext, IsCover, Remainder, RisesTo, boundaries_in, boundary_in, offsets}
use Rattle.seg_text.specs.Items.{Text, code_points}
use Rattle.seg_text.specs.Decoding.{utf8, utf8_items}
use Rattle.seg_text.proofs.Str.{seek-boundary}
use Rattle.seg_lines.specs.Between.{between}
use Rattle.seg_segments.specs.TextSegments.{AreCuts, IsPlace, Segment, marked, nothing, segments_from}

pub place-boundary : (bytes : List ℕ) (place : ℕ) → IsUtf8 bytes → IsPlace (utf8 bytes) place → IsCharBoundary bytes place
unfolding utf8_items
place-boundary bytes place utf8 is = seek-boundary is.before place 0 bytes (omega arith) utf8 is.at

-- ---- the next segment

-- a text may be cut where its cuts begin, and they end at the end of the text
cuts-start : {M : Type 0} (MayCut : ℕ → Type 0) (from end : ℕ) (breaks : List (ℕ × M)) → AreCuts MayCut from breaks end → MayCut from
cuts-start MayCut from end [] cuts = cuts.0
cuts-start MayCut from end (one ∷ breaks) cuts = cuts.0

pub cuts-within : {M : Type 0} (MayCut : ℕ → Type 0) (from end : ℕ) (breaks : List (ℕ × M)) → AreCuts MayCut from breaks end → from ≤ end
cuts-within MayCut from end [] cuts = omega (arith, cuts.1)
cuts-within MayCut from end (one ∷ breaks) cuts = omega (arith, cuts.1.0, cuts-within MayCut one.0 end breaks cuts.1.1)

-- a segment may end at a place
pub record MayEnd (MayCut : ℕ → Type 0) (to end : ℕ) : Type 0 where
  pub within : to ≤ end
  pub may : MayCut to

pub next-end : {M : Type 0} (MayCut : ℕ → Type 0) (mark : ℕ → M) (from end : ℕ) (found : Boundary) (before after : List Boundary)
    → AreCuts MayCut from (marked mark before) end → before ≡ found ∷ after → MayEnd MayCut found.offset end
next-end MayCut mark from end found before after cuts gives =
    let parts : AreCuts MayCut from (marked mark (found ∷ after)) end = rw gives at cuts in record {
      within = cuts-within MayCut found.offset end (marked mark after) parts.1.1;
      may = cuts-start MayCut found.offset end (marked mark after) parts.1.1;
    }

pub none-left : {M : Type 0} (mark : ℕ → M) (units : List ℕ) (from : ℕ) (before after : List Boundary) (owed : List (Segment M))
    → segments_from units from (marked mark before) ≡ owed → (before ≡ []) × (after ≡ []) → (owed ≡ []) × (segments_from units from (marked mark after) ≡ [])
unfolding segments_from
none-left mark units from before after owed is none = (sym is ∙ ap (λ boundaries. segments_from units from (marked mark boundaries)) none.0, rw none.1 refl)

pub first-left : {M : Type 0} (mark : ℕ → M) (units part : List ℕ) (from : ℕ) (found : Boundary) (said : M) (before after : List Boundary) (owed : List (Segment M))
    → segments_from units from (marked mark before) ≡ owed → before ≡ found ∷ after → part ≡ between from found.offset units → said ≡ mark found.status
    → owed ≡ record { offset = from; units = part; mark = said } ∷ segments_from units found.offset (marked mark after)
unfolding segments_from
first-left mark units part from found said before after owed is gives cut says = sym is ∙ rw (gives, cut, says) refl

-- ---- all segments

-- boundaries that a text has are places of it
cuts-of : {M : Type 0} (MayCut : ℕ → Type 0) (mark : ℕ → M) (text : Text) (counted : List Boundary) (from end : ℕ)
    → ((place : ℕ) → IsPlace text place → MayCut place) → IsPlace text from → RisesTo from (map (boundary_in text) counted) end
    → AreCuts MayCut from (marked mark (map (boundary_in text) counted)) end
cuts-of MayCut mark text [] from end may is rises = (may from is, rises)
cuts-of MayCut mark text (one ∷ counted) from end may is rises =
    (may from is, (rises.0, cuts-of MayCut mark text counted (boundary_in text one).offset end may (record { before = one.offset; at = refl }) rises.1))

-- and where that at its start was given, it may be cut at the others
pub after-start : {M : Type 0} (MayCut : ℕ → Type 0) (mark : ℕ → M) (text : Text) (find : List ℕ → List Boundary) (end : ℕ) (before after : List Boundary)
    (given : Option Boundary) → ((place : ℕ) → IsPlace text place → MayCut place) → before ≡ boundaries_in find text → IsCover 0 end before
    → YieldsFirst (λ (s : List Boundary). s) before given after
    → (marked mark after ≡ drop 1 (marked mark before)) × AreCuts MayCut 0 (marked mark after) end
after-start MayCut mark text find end before after given may found cover gives = on given gives (find (code_points text.items)) found (rw found at cover)
  where
    on : (given : Option Boundary) → YieldsFirst (λ (s : List Boundary). s) before given after → (counted : List Boundary)
        → before ≡ map (boundary_in text) counted → IsCover 0 end (map (boundary_in text) counted)
        → (marked mark after ≡ drop 1 (marked mark before)) × AreCuts MayCut 0 (marked mark after) end
    on given gives [] found cover = absurd cover
    on None gives (one ∷ counted) found cover = absurd (omega (arith, ap length (sym found ∙ gives.0)))
    on (Some first) gives (one ∷ counted) found cover =
        let rest : after ≡ map (boundary_in text) counted = ap (drop 1) (sym gives ∙ found) in (
          ap (λ boundaries. drop 1 (marked mark boundaries)) (sym gives),
          rw rest (cuts-of MayCut mark text counted 0 end may (record { before = one.offset; at = sym cover.0 }) cover.1),
        )

-- ---- what is said of boundaries

-- places alone, where statuses say nothing
abbrev with_nothing : List ℕ → List (ℕ × Unit {0})
with_nothing places = map (λ (place : ℕ). (place, tt {0})) places

unmarked : (boundaries : List Boundary) → marked nothing boundaries ≡ with_nothing (offsets boundaries)
unmarked [] = refl
unmarked (one ∷ boundaries) = ap (λ (rest : List (ℕ × Unit {0})). (one.offset, tt {0}) ∷ rest) (unmarked boundaries)

pub unmarked-next : (place : ℕ) (before after : List Boundary) → offsets before ≡ place ∷ offsets after
    → marked nothing before ≡ (place, tt {0}) ∷ marked nothing after
unmarked-next place before after gave =
    unmarked before ∙ ap with_nothing gave ∙ ap (λ (rest : List (ℕ × Unit {0})). (place, tt {0}) ∷ rest) (sym (unmarked after))

pub unmarked-none : (before after : List Boundary) → (offsets before ≡ []) × (offsets after ≡ []) → (marked nothing before ≡ []) × (marked nothing after ≡ [])
unmarked-none before after ended = (unmarked before ∙ ap with_nothing ended.0, unmarked after ∙ ap with_nothing ended.1)

-- what the status says of the boundary that was given
pub marked-next : {M : Type 0} (mark : ℕ → M) (place : ℕ) (before after : Remainder) → GivesNext before (Some place) after
    → marked mark before.left ≡ (place, mark after.status) ∷ marked mark after.left
marked-next mark place before after gives = ap (marked mark) gives

pub marked-none : {M : Type 0} (mark : ℕ → M) (before after : Remainder) → GivesNext before None after
    → (marked mark before.left ≡ []) × (marked mark after.left ≡ [])
marked-none mark before after gives = (ap (marked mark) gives.0, ap (marked mark) gives.1)
