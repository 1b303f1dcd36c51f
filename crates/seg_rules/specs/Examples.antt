-- Small rules, as examples: symbol 1 is a letter, 2 a space, 3 a mark, 4 a flag and 5 the end of a line.
use Rattle.std.specs.Prelude.{ℕ, true, List, [], ◌∷◌}
use Rattle.seg_text.specs.declared.boundary.Boundary.{Boundary}
use Rattle.seg_rules.specs.declared.rules.Count.TheVariants.{One, Pairs}
use Rattle.seg_rules.specs.RowRules.{Row, RowRules, class_of}
use Rattle.seg_rules.specs.Plain.{plain_places}

abbrev pub letter : ℕ
letter = 1

abbrev pub space : ℕ
space = 2

abbrev pub mark : ℕ
mark = 3

abbrev pub flag : ℕ
flag = 4

abbrev pub line_end : ℕ
line_end = 5

-- after the end of a line there is a boundary of status 1
abbrev pub line_row : Row
line_row = record { left = (class_of (line_end ∷ []), One) ∷ []; right = []; verdict = 2 }

-- letters are joined
abbrev pub letter_row : Row
letter_row = record { left = (class_of (letter ∷ []), One) ∷ []; right = (class_of (letter ∷ []), One) ∷ []; verdict = 0 }

-- flags are joined two by two, counted from the start of the text or from another symbol (0 is the start)
abbrev pub flag_row : Row
flag_row = record {
  left = (class_of (0 ∷ letter ∷ space ∷ mark ∷ line_end ∷ []), One) ∷ (class_of (flag ∷ []), Pairs) ∷ (class_of (flag ∷ []), One) ∷ [];
  right = (class_of (flag ∷ []), One) ∷ [];
  verdict = 0;
}

-- and everywhere else there is a boundary
abbrev pub last_row : Row
last_row = record { left = []; right = []; verdict = 1 }

-- A mark is one with what stands before it, but not after a space or a line's end or at the start, where it is as a letter.
abbrev pub small_rules : RowRules
small_rules = record {
  above = line_row ∷ [];
  below = letter_row ∷ flag_row ∷ last_row ∷ [];
  has_marks = true;
  marks = class_of (mark ∷ []);
  bare = class_of (space ∷ line_end ∷ []);
  alone = letter;
  at_end = 0;
}

-- where they break a text
abbrev pub small_places : List ℕ → List Boundary
small_places symbols = plain_places small_rules 0 [] symbols
