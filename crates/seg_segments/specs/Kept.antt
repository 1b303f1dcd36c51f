-- How far a text was read for abbreviations.
use Rattle.std.specs.Prelude.{◌≡◌, ℕ, ◌<◌, ◌≤◌, ◌++◌, ◌&&◌, not, nat_lt, Bool, true, false, if◌then◌else◌, List, [], ◌∷◌, filter}
use Rattle.seg_text.specs.declared.boundary.Boundary.{Boundary}
use Rattle.seg_text.specs.Items.{Item, Text, start_of}
use Rattle.seg_data.specs.WordSets.{Words}
use Rattle.seg_segments.specs.Suppression.{is_abbreviated_after, is_word_and_spaces}
use Rattle.seg_segments.specs.declared.suppress.starts.Reading.{Reading}
use Rattle.seg_segments.specs.declared.suppress.starts.Reading.TheVariants.{Word, Open, Over}

-- the code points of the items before a place
unfoldable pub codes_before : ℕ → List Item → List ℕ
codes_before place [] = []
codes_before place (item ∷ items) = if nat_lt item.0 place then item.1 ∷ codes_before place items else []

-- a boundary at a place stays, where this is left of the text, and `joined` says whether a letter or a digit stands before it
abbrev pub stays : Words → Bool → Text → ℕ → Bool
stays words joined text place = not (nat_lt place text.end && is_abbreviated_after joined words (codes_before place text.items))

-- those boundaries that stay
abbrev pub left_of : Words → Bool → Text → List Boundary → List Boundary
left_of words joined text boundaries = filter (λ (boundary : Boundary). stays words joined text boundary.offset) boundaries

-- what is read from a text's beginning up to a place
abbrev pub IsReading : Words → ℕ → List Item → Reading → Type 0
IsReading words place items Word = is_word_and_spaces words (codes_before place items) ≡ true
IsReading words place items Open = is_word_and_spaces words (codes_before place items) ≡ false
IsReading words place items Over = (more : List ℕ) → is_word_and_spaces words (codes_before place items ++ more) ≡ false

-- a place is ahead, and no word begins with what is left that ends at a boundary from that place on
pub record IsOver (words : Words) (place : ℕ) (joined : Bool) (text : Text) : Type 0 where
  pub ahead : start_of text < place
  pub none : (later : ℕ) → place ≤ later → (not joined && is_word_and_spaces words (codes_before later text.items)) ≡ false

-- less is left of a text, but boundaries from a place on stay as before
pub record IsLater (words : Words) (place : ℕ) (joined : Bool) (text : Text) (next_joined : Bool) (next : Text) : Type 0 where
  pub end : next.end ≡ text.end
  pub same : (later : ℕ) → place ≤ later
      → is_abbreviated_after next_joined words (codes_before later next.items) ≡ is_abbreviated_after joined words (codes_before later text.items)

-- each place is at the one before it or later
abbrev pub AscendFrom : ℕ → List ℕ → Type 0
AscendFrom from [] = Unit {0}
AscendFrom from (place ∷ places) = (from ≤ place) × AscendFrom place places

abbrev pub AreAscending : List ℕ → Type 0
AreAscending [] = Unit {0}
AreAscending (place ∷ places) = AscendFrom place places
