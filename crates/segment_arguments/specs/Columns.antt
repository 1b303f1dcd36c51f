-- Where a command line says to how many columns lines are wrapped.
use Rattle.std.specs.Prelude.{ℕ, ◌==◌, ◌&&◌, ◌||◌, Bool, List, if◌then◌else◌, codes, length, nat_eq}
use Rattle.std.specs.List.{starts_with}
use Rattle.segment_arguments.specs.declared.Columns.{Columns}
use Rattle.segment_arguments.specs.declared.Columns.TheVariants.{InOption, InPlace}

-- a word is `--`, behind which no option stands
abbrev pub ends_options : List ℕ → Bool
ends_options word = (length word == 2) && starts_with nat_eq word (codes "--")

-- a word is `--width`, or begins with `--width=`
abbrev pub is_width : List ℕ → Bool
is_width word = starts_with nat_eq word (codes "--width=") || (length word == 7) && starts_with nat_eq word (codes "--width")

-- in an option, if one says it
abbrev pub columns_in : Bool → Columns
columns_in says_width = if says_width then InOption else InPlace
