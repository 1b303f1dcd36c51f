-- Between which characters lines may break, in the words of UAX #14.
use Rattle.std.specs.Prelude.{Some, ◌≡◌, ◌⊎◌, ℕ, Bool, true, false, ◌&&◌, ◌||◌, List, [], ◌∷◌, ◌++◌, length, reverse, All, Contains}
use Rattle.seg_text.specs.Boundaries.{boundary}
use Rattle.seg_machine.specs.Pick.{machine_boundaries}
use Rattle.icu_segmenter_uax14.specs.Characters.{character}
use Rattle.seg_rules.specs.Classes.{◌or◌}
use Rattle.icu_segmenter_uax14.specs.LineClasses.{LineClass, BK, CR, LF, NL, SP, ZW}
use Rattle.icu_segmenter_uax14.specs.Tailored.{Tailoring, machine_by, style_of}

-- a character is of a class, by its properties in Unicode 18.0 as the tailoring has them
abbrev pub Is : Tailoring → LineClass → ℕ → Type 0
Is tailoring class c = class (Some (style_of tailoring (character c))) ≡ true

-- the line breaks between two parts of a text, with this status
abbrev pub BreaksWith : Tailoring → ℕ → List ℕ → List ℕ → Type 0
BreaksWith tailoring status before after = Contains (machine_boundaries (machine_by tailoring) (before ++ after)) (boundary (length before) status)

-- it doesn't, with any status
abbrev pub IsJoined : Tailoring → List ℕ → List ℕ → Type 0
IsJoined tailoring before after = (status : ℕ) → BreaksWith tailoring status before after → ⊥

-- it must break there
abbrev pub MustBreak : Tailoring → List ℕ → List ℕ → Type 0
MustBreak tailoring before after = BreaksWith tailoring 1 before after

-- by any tailoring or none, and whatever text they stand in, no line breaks between a character of one class and a next one of the other
abbrev pub StayTogether : LineClass → LineClass → Type 0
StayTogether lasts nexts =
    (tailoring : Tailoring) (before after : List ℕ) (last next : ℕ) → Is tailoring lasts last → Is tailoring nexts next
    → IsJoined tailoring (before ++ last ∷ []) (next ∷ after)

-- nor where spaces stand between them
abbrev pub StayTogetherOverSpaces : LineClass → LineClass → Type 0
StayTogetherOverSpaces lasts nexts =
    (tailoring : Tailoring) (before spaces after : List ℕ) (last next : ℕ) → Is tailoring lasts last → All (Is tailoring SP) spaces → Is tailoring nexts next
    → IsJoined tailoring (before ++ last ∷ spaces) (next ∷ after)

-- and one may break there, though it needn't
abbrev pub ComeApart : LineClass → LineClass → Type 0
ComeApart lasts nexts =
    (tailoring : Tailoring) (before after : List ℕ) (last next : ℕ) → Is tailoring lasts last → Is tailoring nexts next
    → BreaksWith tailoring 0 (before ++ last ∷ []) (next ∷ after)

-- a line ends between two characters: after BK, LF and NL, and after CR but before LF
abbrev pub EndsLine : Tailoring → ℕ → ℕ → Type 0
EndsLine tailoring last next = Is tailoring (BK or LF or NL) last ⊎ (Is tailoring CR last × (Is tailoring LF next → ⊥))

-- the text ends in a zero-width space, and spaces after it or none (ZW SP*)
abbrev pub ends_in_zero_width : Tailoring → List ℕ → Bool
ends_in_zero_width tailoring [] = false
ends_in_zero_width tailoring (c ∷ past) =
    let p = Some (style_of tailoring (character c)) in ZW p || (SP p && ends_in_zero_width tailoring past)

abbrev pub EndsInZeroWidth : Tailoring → List ℕ → Type 0
EndsInZeroWidth tailoring before = ends_in_zero_width tailoring (reverse before) ≡ true
