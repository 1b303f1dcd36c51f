-- The classes of UAX #14 by their short names, as sets of symbols.
use Rattle.std.specs.Prelude.{true}
use Rattle.ucd_breaks.specs.declared.LineBreak.{LineBreak}
use Rattle.ucd_breaks.specs.declared.LineBreak.TheVariants.{Aksara, Alphabetic, AksaraPrebase, AksaraStart, BreakBoth, BreakAfter, BreakBefore, MandatoryBreak, ContingentBreak, ClosePunctuation, CombiningMark, CloseParenthesis, CarriageReturn, EBase, EModifier, Exclamation, Glue, UnambiguousHyphen, HebrewLetter, Hyphen, Ideographic, Inseparable, InfixNumeric, Jl, Jt, Jv, LineFeed, NextLine, Nonstarter, Numeric, OpenPunctuation, PostfixNumeric, PrefixNumeric, Quotation, RegionalIndicator, Space, BreakSymbols, ViramaFinal, Virama, WordJoiner, ZWSpace, Zwj}
use Rattle.ucd_breaks.specs.declared.LineBreak.TheVariants.{H2 as HangulLv, H3 as HangulLvt}
use Rattle.ucd_breaks.specs.LineBreak.{line_break_eq}
use Rattle.seg_rules.specs.Classes.{Class, ◌or◌, ◌but◌, those}
use Rattle.icu_segmenter_uax14.specs.LineValues.{LineProperties, Trait, Opening, Closing, Unassigned, Dotted, Loose, Kept, trait_eq}

abbrev pub LineClass : Type 0
LineClass = Class LineProperties

abbrev pub class : LineBreak → LineClass
class value = those (λ p. line_break_eq p.0 value)

abbrev pub trait : Trait → LineClass
trait value = those (λ p. trait_eq p.2 value)

-- every symbol of a text
abbrev pub every : LineClass
every = those (λ p. true)

abbrev pub AK : LineClass
AK = class Aksara

abbrev pub AL : LineClass
AL = class Alphabetic

abbrev pub AP : LineClass
AP = class AksaraPrebase

abbrev pub AS : LineClass
AS = class AksaraStart

abbrev pub B2 : LineClass
B2 = class BreakBoth

abbrev pub BA : LineClass
BA = class BreakAfter

abbrev pub BB : LineClass
BB = class BreakBefore

abbrev pub BK : LineClass
BK = class MandatoryBreak

abbrev pub CB : LineClass
CB = class ContingentBreak

abbrev pub CL : LineClass
CL = class ClosePunctuation

abbrev pub CM : LineClass
CM = class CombiningMark

abbrev pub CP : LineClass
CP = class CloseParenthesis

abbrev pub CR : LineClass
CR = class CarriageReturn

abbrev pub EB : LineClass
EB = class EBase

abbrev pub EM : LineClass
EM = class EModifier

abbrev pub EX : LineClass
EX = class Exclamation

abbrev pub GL : LineClass
GL = class Glue

abbrev pub H2 : LineClass
H2 = class HangulLv

abbrev pub H3 : LineClass
H3 = class HangulLvt

abbrev pub HH : LineClass
HH = class UnambiguousHyphen

abbrev pub HL : LineClass
HL = class HebrewLetter

abbrev pub HY : LineClass
HY = class Hyphen

abbrev pub ID : LineClass
ID = class Ideographic

abbrev pub IN : LineClass
IN = class Inseparable

abbrev pub IS : LineClass
IS = class InfixNumeric

abbrev pub JL : LineClass
JL = class Jl

abbrev pub JT : LineClass
JT = class Jt

abbrev pub JV : LineClass
JV = class Jv

abbrev pub LF : LineClass
LF = class LineFeed

abbrev pub NL : LineClass
NL = class NextLine

abbrev pub NS : LineClass
NS = class Nonstarter

abbrev pub NU : LineClass
NU = class Numeric

abbrev pub OP : LineClass
OP = class OpenPunctuation

abbrev pub PO : LineClass
PO = class PostfixNumeric

abbrev pub PR : LineClass
PR = class PrefixNumeric

abbrev pub QU : LineClass
QU = class Quotation

abbrev pub RI : LineClass
RI = class RegionalIndicator

abbrev pub SP : LineClass
SP = class Space

abbrev pub SY : LineClass
SY = class BreakSymbols

abbrev pub VF : LineClass
VF = class ViramaFinal

abbrev pub VI : LineClass
VI = class Virama

abbrev pub WJ : LineClass
WJ = class WordJoiner

abbrev pub ZW : LineClass
ZW = class ZWSpace

abbrev pub ZWJ : LineClass
ZWJ = class Zwj

-- East Asian, by width
abbrev pub EA : LineClass
EA = those (λ p. p.1)

-- quotation marks of General_Category Pi and Pf, and the others
abbrev pub QU_PI : LineClass
QU_PI = trait Opening

abbrev pub QU_PF : LineClass
QU_PF = trait Closing

abbrev pub QU_PLAIN : LineClass
QU_PLAIN = QU but (QU_PI or QU_PF)

-- brackets that aren't East Asian
abbrev pub OP_NARROW : LineClass
OP_NARROW = OP but EA

abbrev pub CP_NARROW : LineClass
CP_NARROW = CP but EA

-- U+25CC
abbrev pub DOTTED : LineClass
DOTTED = trait Dotted

-- Extended_Pictographic and unassigned
abbrev pub PICTOGRAPH : LineClass
PICTOGRAPH = trait Unassigned

-- what a tailoring of CSS breaks more loosely, and what one keeps together
abbrev pub LOOSE : LineClass
LOOSE = trait Loose

abbrev pub KEPT : LineClass
KEPT = trait Kept
