-- A text whose lines are found turn by turn: what is read ahead, what comes next, and what is left.
use Rattle.std.specs.Prelude.{◌&&◌, ℕ, Bool, true, false, if◌then◌else◌, List, [], ◌∷◌, ◌||◌, not}
use Rattle.seg_text.specs.Items.{Text}
use Rattle.seg_text.specs.declared.boundary.Boundary.{Boundary}
use Rattle.seg_text.specs.Boundaries.{boundaries_in, Cuts}
use Rattle.seg_pairs.specs.declared.provider.pairs.BreakState.{BreakState}
use Rattle.seg_pairs.specs.declared.provider.pairs.BreakState.TheVariants as entries
use Rattle.seg_pairs.specs.PairTable.{PairTable, entry_of}
use Rattle.seg_line_pairs.specs.LineEvents.{UnreadText}
use Rattle.seg_line_pairs.specs.ReadAhead.{UnreadItems, rules_of}
use Rattle.seg_line_pairs.specs.LineRules.{TableRules, is_one_of, is_complex_context}
use Rattle.seg_line_pairs.specs.declared.engines.PlainPair.{PlainPair}
use Rattle.seg_line_pairs.specs.declared.engines.PlainPair.TheVariants as plain
use Rattle.seg_line_pairs.specs.LineClasses.LineClass.{CM, CM_EASTASIAN, HH, HY, IS, QU_PF, SA, SA_MC_MN, SP, ZWJ}
use Rattle.seg_line_pairs.specs.LineUnits.{is_joiner}
use Rattle.seg_line_pairs.specs.declared.engines.LineEngine.TheVariants.{Seventeen}
use Rattle.seg_line_turns.specs.TurnBoundaries.{later_turns, has_none}
use Rattle.seg_line_turns.specs.TurnClasses.{is_before_hyphen, is_before_quote, is_glue, is_hyphen, is_infix, is_opening, is_quote, is_space}

-- What comes next of a text that is read turn by turn.

-- a text that is being read: what its lines are found by, whether nothing was read yet, and whether a space after an opening was met since
-- the last boundary
pub record UnreadTurns : Type 0 where
  pub rules : TableRules Seventeen
  pub starts : Bool
  pub opened : Bool
  pub text : Text

-- a text whose first item is read ahead, as such a one
abbrev pub turns_of : (starts opened : Bool) → UnreadItems → UnreadTurns
turns_of starts opened unread = record { rules = rules_of Seventeen unread; starts = starts; opened = opened; text = unread.text }

-- the boundaries of an unread text but that at its start
abbrev pub unread_turns : Cuts → UnreadTurns → List Boundary
unread_turns cuts unread = boundaries_in (later_turns cuts unread.rules unread.starts unread.opened) unread.text

-- what is left of a text, where these boundaries are found before it
abbrev pub after_cuts : List ℕ → UnreadTurns → UnreadTurns
after_cuts places unread = record unread { opened = has_none places && unread.opened }

abbrev pub turns_unread : UnreadTurns → UnreadText
turns_unread unread = record { text = unread.text; later = λ cuts run. unread_turns cuts (after_cuts run unread) }

-- a text that nothing was read of
abbrev pub whole_text : TableRules Seventeen → Text → UnreadTurns
whole_text rules text = record { rules = rules; starts = true; opened = false; text = text }

-- Pairs of classes between which the table alone decides, and the turns by them.

-- a rule asks of such a class on the right
unfoldable pub is_asked : ℕ → Bool
is_asked class = is_one_of Seventeen (CM ∷ CM_EASTASIAN ∷ HH ∷ HY ∷ IS ∷ QU_PF ∷ SA ∷ SA_MC_MN ∷ SP ∷ ZWJ ∷ []) class

-- signs, and the classes before them that a rule of signs asks of
abbrev pub is_sign : ℕ → Bool
is_sign class = is_infix class || is_quote class || is_hyphen class

abbrev pub is_before_sign : ℕ → Bool
is_before_sign class = is_space class || is_before_quote class || is_before_hyphen class

-- no rule that asks of the right class finds on the left what it asks of
abbrev pub is_unanswered : ℕ → ℕ → Bool
is_unanswered left right =
    not (is_glue right) && not (is_space right && is_opening left) && not (is_complex_context right && is_complex_context left)
    && not (is_sign right && is_before_sign left)

-- the table alone decides between an item with no marks and the next
abbrev pub is_plain_turn : ℕ → ℕ → Bool
is_plain_turn left right = not (is_asked right) || is_unanswered left right

abbrev pub entry_turn : Bool → BreakState → PlainPair
entry_turn joined entries.Keep = plain.Go
entry_turn joined entries.Break = if joined then plain.Other else plain.Break
entry_turn joined entries.NoMatch = plain.Other
entry_turn joined (entries.Index state) = plain.Other
entry_turn joined (entries.Intermediate state) = plain.Other

abbrev pub plain_turn : PairTable → ℕ → ℕ → PlainPair
plain_turn t left right = if is_plain_turn left right then entry_turn (is_joiner Seventeen left) (entry_of t left right) else plain.Other

-- a text that is being read, not from its start
abbrev pub going_text : TableRules Seventeen → Bool → Text → UnreadTurns
going_text rules opened text = record { rules = rules; starts = false; opened = opened; text = text }
