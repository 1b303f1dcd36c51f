-- What is said of each failure, and the exit status that it gives.
use Rattle.std.specs.Prelude.{ℕ, Option, List, codes, ◌∷◌, [], ◌++◌, take}
use Rattle.std.specs.Io.KnownBytes.{Appends}
use Rattle.textcut.specs.declared.failure.Failure.{Failure}
use Rattle.textcut.specs.declared.failure.Failure.TheVariants.{Usage, ReadFailed, NotUtf8, WriteFailed, NoMemory}
use Rattle.textcut.specs.declared.failure.PrintFailure.{PrintFailure}
use Rattle.textcut.specs.declared.failure.PrintFailure.TheVariants as printing

-- what failed to be printed, as a failure of the run
abbrev pub failure_of : PrintFailure → Failure
failure_of printing.WriteFailed = WriteFailed
failure_of printing.NoMemory = NoMemory

abbrev pub status_of : Failure → ℕ
status_of Usage = 2
status_of ReadFailed = 1
status_of NotUtf8 = 1
status_of WriteFailed = 1
status_of NoMemory = 1

abbrev pub message_of : Failure → List ℕ
message_of Usage = codes "usage: textcut grapheme|sentence|word|line classic|17|neo, or textcut wrap COLUMNS" ++ 10 ∷ []
message_of ReadFailed = codes "textcut: read failed" ++ 10 ∷ []
message_of NotUtf8 = codes "textcut: not UTF-8" ++ 10 ∷ []
message_of WriteFailed = codes "textcut: write failed" ++ 10 ∷ []
message_of NoMemory = codes "textcut: no memory" ++ 10 ∷ []

-- known bytes grow by a beginning of the message, which may be all of it
abbrev pub AppendsBeginning : Option (List ℕ) → Option (List ℕ) → List ℕ → Type 0
AppendsBeginning old new message = (count : ℕ) × Appends old new (take count message)
