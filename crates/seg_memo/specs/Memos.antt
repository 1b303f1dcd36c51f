-- What is seen of a memoised engine, and why there is none.
use Rattle.std.specs.Prelude.{◌≡◌, ◌<◌, ◌≤◌, ◌^◌, ℕ, Bool, false, Option, Some, None, List, length}
use Rattle.seg_text.specs.declared.boundary.Boundary.{Boundary}
use Rattle.seg_text.specs.Items.{Text, code_points, rest_after}
use Rattle.seg_text.specs.Boundaries.{Remainder, offsets_left, remainder}
use Rattle.seg_machine.specs.Machine.{Machine, symbols_of}
use Rattle.seg_machine.specs.Pick.{machine_stretch}
use Rattle.seg_memo.specs.declared.memo.MemoError.{MemoError}
use Rattle.seg_memo.specs.declared.memo.MemoError.TheVariants.{Memory, NotNeo, HasDictionary, TooLarge}
use Rattle.seg_memo.specs.Configurations.{Subject, configurations, subject}

-- the machine, the whole text, whether its first boundary was given, how many of its items the segments given so far
-- have, what is still to come, and how many transitions were looked up
pub record Memo : Type 0 where
  pub machine : Machine
  pub text : Text
  pub started : Bool
  pub given : ℕ
  pub coming : Remainder
  pub lookups : ℕ

abbrev pub memo : Machine → Text → ℕ → Bool → ℕ → ℕ → Memo
memo m text given started status lookups = record {
  machine = m;
  text = text;
  started = started;
  given = given;
  coming = remainder started (machine_stretch m) (rest_after given text) status;
  lookups = lookups;
}

-- the places that are still to come
abbrev pub memo_places : Memo → List ℕ
memo_places s = offsets_left s.coming

-- the machine, and the symbols of the text
abbrev pub subject_of : Memo → Subject
subject_of s = subject s.machine (symbols_of s.machine (code_points s.text.items))

-- a memo of which nothing was given yet: that of the machine that finds the boundaries of a text, which are all to come; its
-- configurations can be counted
pub record IsNewMemo (found_by : Option Machine) (whole : Text) (found : List Boundary) (s : Memo) : Type 0 where
  pub machine : found_by ≡ Some s.machine
  pub text : s.text ≡ whole
  pub started : s.started ≡ false
  pub given : s.given ≡ 0
  pub lookups : s.lookups ≡ 0
  pub boundaries : s.coming.left ≡ found
  pub status : s.coming.status ≡ 0
  pub fits : configurations s.machine (length whole.items) < 2 ^ 64

-- why there is no memo of the boundaries of a text, which a machine finds or none does, and some script has a dictionary or
-- none has: of several refusals that with the lowest number, and Memory where there is no other, but the growth was refused
abbrev pub IsMemoRefusal : Option Machine → Type 0 → Text → MemoError → Type 0
IsMemoRefusal found_by HasWords text NotNeo = found_by ≡ None
IsMemoRefusal None HasWords text _ = ⊥
IsMemoRefusal (Some m) HasWords text HasDictionary = HasWords
IsMemoRefusal (Some m) HasWords text TooLarge = (HasWords → ⊥) × (2 ^ 64 ≤ configurations m (length text.items))
IsMemoRefusal (Some m) HasWords text Memory = (HasWords → ⊥) × (configurations m (length text.items) < 2 ^ 64)
