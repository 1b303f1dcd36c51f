-- How often a machine is looked up until all boundaries of a text are found.
use Rattle.std.specs.Prelude.{ℕ, length}
use Rattle.icu_segmenter.specs.Items.{Text, code_points}
use Rattle.icu_segmenter.specs.Machine.{Machine, symbols_of}
use Rattle.icu_segmenter.specs.Configurations.{AreLookedUp, subject}

-- so many different configurations are looked up by the scans of all segments of a text
abbrev pub AreAllLookedUp : Machine → Text → ℕ → Type 0
AreAllLookedUp m text count = AreLookedUp (subject m (symbols_of m (code_points text.items))) (length text.items) count
