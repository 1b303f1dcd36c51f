-- What the symbols of the machine of lines mean.
use Rattle.std.specs.Prelude.{◌≡◌, ℕ, ◌<◌, Bool, true, false, ◌==◌, List, [], ◌∷◌, slice_index_or}
use Rattle.ucd_breaks.specs.declared.LineBreak.{LineBreak}
use Rattle.ucd_breaks.specs.declared.LineBreak.TheVariants.{Aksara, Alphabetic, AksaraPrebase, AksaraStart, BreakBoth, BreakAfter, BreakBefore, MandatoryBreak, ContingentBreak, ClosePunctuation, CombiningMark, CloseParenthesis, CarriageReturn, EBase, EModifier, Exclamation, Glue, H2, H3, UnambiguousHyphen, HebrewLetter, Hyphen, Ideographic, Inseparable, InfixNumeric, Jl, Jt, Jv, LineFeed, NextLine, Nonstarter, Numeric, OpenPunctuation, PostfixNumeric, PrefixNumeric, Quotation, RegionalIndicator, Space, BreakSymbols, ViramaFinal, Virama, WordJoiner, Unknown, ZWSpace, Zwj}

-- what the rules ask beside class and width
pub data Trait : Type 0 where
  Usual : Trait
  -- the start or the end of a text
  Edge : Trait
  -- a quotation mark of General_Category Pi, and of Pf
  Opening : Trait
  Closing : Trait
  -- Extended_Pictographic and unassigned
  Unassigned : Trait
  -- U+25CC
  Dotted : Trait
  -- what a tailoring of CSS breaks more loosely, and what one keeps together
  Loose : Trait
  Kept : Trait

abbrev pub trait_number : Trait → ℕ
trait_number Usual = 0
trait_number Edge = 1
trait_number Opening = 2
trait_number Closing = 3
trait_number Unassigned = 4
trait_number Dotted = 5
trait_number Loose = 6
trait_number Kept = 7

abbrev pub trait_eq : Trait → Trait → Bool
trait_eq a b = trait_number a == trait_number b

-- the class after LB1, whether it is East Asian by its width, and what else the rules ask
abbrev pub LineProperties : Type 0
LineProperties = LineBreak × Bool × Trait

-- the properties that each symbol means; symbol 0 is the edge of a text
abbrev pub symbol_properties : List LineProperties
symbol_properties =
    (Unknown, false, Edge)
    ∷ (Alphabetic, false, Usual)
    ∷ (Aksara, false, Usual)
    ∷ (Alphabetic, true, Usual)
    ∷ (Alphabetic, false, Unassigned)
    ∷ (Alphabetic, false, Dotted)
    ∷ (AksaraPrebase, false, Usual)
    ∷ (AksaraStart, false, Usual)
    ∷ (BreakBoth, false, Usual)
    ∷ (BreakAfter, false, Usual)
    ∷ (BreakAfter, true, Usual)
    ∷ (BreakAfter, false, Loose)
    ∷ (BreakBefore, false, Usual)
    ∷ (MandatoryBreak, false, Usual)
    ∷ (ContingentBreak, false, Usual)
    ∷ (ClosePunctuation, false, Usual)
    ∷ (ClosePunctuation, true, Usual)
    ∷ (CombiningMark, false, Usual)
    ∷ (CloseParenthesis, false, Usual)
    ∷ (CarriageReturn, false, Usual)
    ∷ (EBase, false, Usual)
    ∷ (EBase, true, Usual)
    ∷ (EModifier, true, Usual)
    ∷ (Exclamation, false, Usual)
    ∷ (Exclamation, true, Usual)
    ∷ (Glue, false, Usual)
    ∷ (Glue, true, Usual)
    ∷ (H2, true, Usual)
    ∷ (H3, true, Usual)
    ∷ (UnambiguousHyphen, false, Usual)
    ∷ (UnambiguousHyphen, false, Loose)
    ∷ (HebrewLetter, false, Usual)
    ∷ (Hyphen, false, Usual)
    ∷ (Ideographic, false, Usual)
    ∷ (Ideographic, true, Usual)
    ∷ (Ideographic, false, Unassigned)
    ∷ (Ideographic, false, Kept)
    ∷ (Ideographic, true, Kept)
    ∷ (Inseparable, false, Usual)
    ∷ (Inseparable, true, Usual)
    ∷ (Inseparable, false, Loose)
    ∷ (Inseparable, true, Loose)
    ∷ (InfixNumeric, false, Usual)
    ∷ (Jl, true, Usual)
    ∷ (Jt, false, Usual)
    ∷ (Jv, false, Usual)
    ∷ (LineFeed, false, Usual)
    ∷ (NextLine, false, Usual)
    ∷ (Nonstarter, false, Usual)
    ∷ (Nonstarter, true, Usual)
    ∷ (Nonstarter, true, Kept)
    ∷ (Numeric, false, Usual)
    ∷ (OpenPunctuation, false, Usual)
    ∷ (OpenPunctuation, true, Usual)
    ∷ (PostfixNumeric, false, Usual)
    ∷ (PostfixNumeric, true, Usual)
    ∷ (PostfixNumeric, false, Loose)
    ∷ (PostfixNumeric, true, Loose)
    ∷ (PrefixNumeric, false, Usual)
    ∷ (PrefixNumeric, true, Usual)
    ∷ (PrefixNumeric, false, Loose)
    ∷ (PrefixNumeric, true, Loose)
    ∷ (Quotation, false, Usual)
    ∷ (Quotation, false, Opening)
    ∷ (Quotation, false, Closing)
    ∷ (RegionalIndicator, false, Usual)
    ∷ (Space, false, Usual)
    ∷ (BreakSymbols, false, Usual)
    ∷ (ViramaFinal, false, Usual)
    ∷ (Virama, false, Usual)
    ∷ (WordJoiner, false, Usual)
    ∷ (ZWSpace, false, Usual)
    ∷ (Zwj, false, Usual)
    ∷ []

-- the symbol of letters without anything else, as which LB10 reads a mark that follows nothing
abbrev pub letter : ℕ
letter = 1

abbrev pub properties_of : ℕ → LineProperties
properties_of symbol = slice_index_or symbol_properties symbol (Unknown, false, Edge)

-- the symbol, which is one of a text, means the properties
pub record StandsFor (properties : LineProperties) (symbol : ℕ) : Type 0 where
  pub value : properties ≡ properties_of symbol
  pub some : 0 < symbol
  pub below : symbol < 73
