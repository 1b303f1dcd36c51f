-- What the symbols of the machine say of a code point.
use Rattle.std.specs.Prelude.{◌≡◌, ℕ, ◌<◌, Bool, true, false, List, [], ◌∷◌, slice_index_or}
use Rattle.ucd_breaks.specs.GraphemeClusterBreak.{grapheme_cluster_break}
use Rattle.ucd_breaks.specs.declared.GraphemeClusterBreak.{GraphemeClusterBreak}
use Rattle.ucd_breaks.specs.declared.GraphemeClusterBreak.TheVariants.{Control, Cr, Extend, L, Lf, Lv, Lvt, Prepend, RegionalIndicator, SpacingMark, T, V, Other, Zwj}
use Rattle.ucd_derived.specs.IndicConjunctBreak.{indic_conjunct_break}
use Rattle.ucd_derived.specs.declared.IndicConjunctBreak.{IndicConjunctBreak}
use Rattle.ucd_derived.specs.declared.IndicConjunctBreak.TheVariants as InCb
use Rattle.ucd_emoji.specs.Binary.{is_extended_pictographic}

-- the properties Grapheme_Cluster_Break, Indic_Conjunct_Break and Extended_Pictographic
abbrev pub Properties : Type 0
Properties = GraphemeClusterBreak × IndicConjunctBreak × Bool

-- the properties that each symbol means; that of the end of the text means none
abbrev pub symbol_properties : List Properties
symbol_properties =
    (Other, InCb.None, false)
    ∷ (Other, InCb.None, false)
    ∷ (Cr, InCb.None, false)
    ∷ (Lf, InCb.None, false)
    ∷ (Control, InCb.None, false)
    ∷ (Extend, InCb.Extend, false)
    ∷ (Extend, InCb.Linker, false)
    ∷ (Extend, InCb.None, false)
    ∷ (Zwj, InCb.Extend, false)
    ∷ (RegionalIndicator, InCb.None, false)
    ∷ (Prepend, InCb.None, false)
    ∷ (SpacingMark, InCb.None, false)
    ∷ (L, InCb.None, false)
    ∷ (V, InCb.None, false)
    ∷ (T, InCb.None, false)
    ∷ (Lv, InCb.None, false)
    ∷ (Lvt, InCb.None, false)
    ∷ (Other, InCb.Consonant, false)
    ∷ (Other, InCb.Linker, false)
    ∷ (Other, InCb.None, true)
    ∷ []

abbrev pub properties_of : ℕ → Properties
properties_of symbol = slice_index_or symbol_properties symbol (Other, InCb.None, false)

abbrev pub gcb_of : ℕ → GraphemeClusterBreak
gcb_of symbol = (properties_of symbol).0

abbrev pub incb_of : ℕ → IndicConjunctBreak
incb_of symbol = (properties_of symbol).1

abbrev pub pict_of : ℕ → Bool
pict_of symbol = (properties_of symbol).2

-- the symbol, which is one of a text, means the properties of the code point
pub record HasProperties (code_point symbol : ℕ) : Type 0 where
  pub breaks : grapheme_cluster_break code_point ≡ gcb_of symbol
  pub conjuncts : indic_conjunct_break code_point ≡ incb_of symbol
  pub pictographs : is_extended_pictographic code_point ≡ pict_of symbol
  pub some : 0 < symbol
  pub below : symbol < 20
