-- Pairs of classes between which the table of the classic engine alone decides.
use Rattle.std.specs.Prelude.{ℕ, ◌==◌, ◌&&◌, not, Bool, if◌then◌else◌}
use Rattle.seg_pairs.specs.PairTable.{PairTable, entry_of}
use Rattle.seg_pairs.specs.declared.provider.pairs.BreakState.{BreakState}
use Rattle.seg_pairs.specs.declared.provider.pairs.BreakState.TheVariants as entries
use Rattle.seg_line_pairs.specs.declared.engines.LineEngine.TheVariants.{Classic}
use Rattle.seg_line_pairs.specs.declared.engines.PlainPair.{PlainPair}
use Rattle.seg_line_pairs.specs.declared.engines.PlainPair.TheVariants as plain
use Rattle.seg_line_pairs.specs.LineUnits.{is_joiner, is_mark}

-- the table alone decides between an item with no marks and the next: that is no mark, and no run begins
abbrev pub is_plain : ℕ → ℕ → ℕ → Bool
is_plain complex left right = not (is_mark Classic right) && not (left == complex && right == complex)

abbrev pub entry_pair : Bool → BreakState → PlainPair
entry_pair joined entries.Keep = plain.Go
entry_pair joined entries.Break = if joined then plain.Other else plain.Break
entry_pair joined entries.NoMatch = if joined then plain.Other else plain.Break
entry_pair joined (entries.Index state) = plain.Other
entry_pair joined (entries.Intermediate state) = plain.Other

abbrev pub plain_pair : PairTable → ℕ → ℕ → PlainPair
plain_pair t left right = if is_plain t.complex_property left right then entry_pair (is_joiner Classic left) (entry_of t left right) else plain.Other
