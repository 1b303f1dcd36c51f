-- The classes of lines that rules name, as UAX #14 has them. The engine 17 tells some apart: the wide characters of a class, the marks of SA,
-- pictographs without a class, and the dotted circle.
use Rattle.std.specs.Prelude.{ℕ}
use Rattle.seg_line_pairs.specs.declared.engines.LineEngine.{LineEngine}
use Rattle.seg_line_pairs.specs.declared.engines.LineEngine.TheVariants.{Classic, Seventeen}

pub data LineClass : Type 0 where
  AI : LineClass
  AI_EASTASIAN : LineClass
  AL : LineClass
  AL_DOTTED_CIRCLE : LineClass
  AL_EASTASIAN : LineClass
  BA : LineClass
  BA_EASTASIAN : LineClass
  BK : LineClass
  CB : LineClass
  CJ : LineClass
  CL : LineClass
  CL_EASTASIAN : LineClass
  CM : LineClass
  CM_EASTASIAN : LineClass
  CP : LineClass
  CR : LineClass
  EX : LineClass
  EX_EASTASIAN : LineClass
  GL : LineClass
  GL_EASTASIAN : LineClass
  H2 : LineClass
  H3 : LineClass
  HH : LineClass
  HL : LineClass
  HY : LineClass
  ID : LineClass
  ID_EASTASIAN : LineClass
  IN : LineClass
  IN_EASTASIAN : LineClass
  IS : LineClass
  JL : LineClass
  JT : LineClass
  JV : LineClass
  LF : LineClass
  NL : LineClass
  NS : LineClass
  NS_EASTASIAN : LineClass
  NU : LineClass
  OP : LineClass
  OP_EASTASIAN : LineClass
  PO : LineClass
  PO_EASTASIAN : LineClass
  PR : LineClass
  PR_EASTASIAN : LineClass
  QU : LineClass
  QU_PF : LineClass
  QU_PI : LineClass
  SA : LineClass
  SA_MC_MN : LineClass
  SP : LineClass
  SY : LineClass
  WJ : LineClass
  XX : LineClass
  XX_EXTPICT : LineClass
  ZW : LineClass
  ZWJ : LineClass

-- the number of the one engine or of the other
abbrev pub number_by : LineEngine → ℕ → ℕ → ℕ
number_by Classic classic seventeen = classic
number_by Seventeen classic seventeen = seventeen

-- the numbers of classes in the pair tables of both. Of what the classic engine doesn't tell apart it is that of the whole
abbrev pub class_number : LineEngine → LineClass → ℕ
class_number engine AI = number_by engine 1 1
class_number engine AI_EASTASIAN = number_by engine 1 2
class_number engine AL = number_by engine 3 4
class_number engine AL_DOTTED_CIRCLE = number_by engine 4 5
class_number engine AL_EASTASIAN = number_by engine 3 6
class_number engine BA = number_by engine 8 10
class_number engine BA_EASTASIAN = number_by engine 8 11
class_number engine BK = number_by engine 10 13
class_number engine CB = number_by engine 11 14
class_number engine CJ = number_by engine 12 15
class_number engine CL = number_by engine 13 16
class_number engine CL_EASTASIAN = number_by engine 13 17
class_number engine CM = number_by engine 14 18
class_number engine CM_EASTASIAN = number_by engine 14 19
class_number engine CP = number_by engine 15 20
class_number engine CR = number_by engine 16 21
class_number engine EX = number_by engine 19 25
class_number engine EX_EASTASIAN = number_by engine 19 26
class_number engine GL = number_by engine 20 27
class_number engine GL_EASTASIAN = number_by engine 20 28
class_number engine H2 = number_by engine 21 29
class_number engine H3 = number_by engine 22 30
class_number engine HH = number_by engine 8 31
class_number engine HL = number_by engine 23 32
class_number engine HY = number_by engine 24 33
class_number engine ID = number_by engine 25 34
class_number engine ID_EASTASIAN = number_by engine 25 36
class_number engine IN = number_by engine 27 37
class_number engine IN_EASTASIAN = number_by engine 27 38
class_number engine IS = number_by engine 28 39
class_number engine JL = number_by engine 29 40
class_number engine JT = number_by engine 30 41
class_number engine JV = number_by engine 31 42
class_number engine LF = number_by engine 32 43
class_number engine NL = number_by engine 33 44
class_number engine NS = number_by engine 34 45
class_number engine NS_EASTASIAN = number_by engine 34 46
class_number engine NU = number_by engine 35 47
class_number engine OP = number_by engine 37 48
class_number engine OP_EASTASIAN = number_by engine 36 49
class_number engine PO = number_by engine 38 50
class_number engine PO_EASTASIAN = number_by engine 39 51
class_number engine PR = number_by engine 40 52
class_number engine PR_EASTASIAN = number_by engine 41 53
class_number engine QU = number_by engine 42 54
class_number engine QU_PF = number_by engine 43 55
class_number engine QU_PI = number_by engine 44 56
class_number engine SA = number_by engine 46 58
class_number engine SA_MC_MN = number_by engine 46 59
class_number engine SP = number_by engine 47 60
class_number engine SY = number_by engine 48 61
class_number engine WJ = number_by engine 51 64
class_number engine XX = number_by engine 52 65
class_number engine XX_EXTPICT = number_by engine 52 66
class_number engine ZW = number_by engine 53 67
class_number engine ZWJ = number_by engine 54 68
