-- The sets of classes that the rules of the engine 17 speak of.
use Rattle.std.specs.Prelude.{ℕ, ◌==◌, Bool, [], ◌∷◌}
use Rattle.seg_line_pairs.specs.LineClasses.{class_number}
use Rattle.seg_line_pairs.specs.LineClasses.LineClass.{AI, AI_EASTASIAN, AL, AL_DOTTED_CIRCLE, AL_EASTASIAN, BK, CB, CL, CL_EASTASIAN, CM, CM_EASTASIAN, CP, CR, EX, EX_EASTASIAN, GL, GL_EASTASIAN, HH, HL, HY, IS, LF, NL, NU, OP, OP_EASTASIAN, QU, QU_PF, QU_PI, SA_MC_MN, SP, SY, WJ, XX, XX_EXTPICT, ZW, ZWJ}
use Rattle.seg_line_pairs.specs.LineRules.{is_one_of}
use Rattle.seg_line_pairs.specs.declared.engines.LineEngine.TheVariants.{Seventeen}

-- a mark, or one that is complex
unfoldable pub is_glue : ℕ → Bool
is_glue class = is_one_of Seventeen (CM ∷ CM_EASTASIAN ∷ SA_MC_MN ∷ ZWJ ∷ []) class

unfoldable pub is_letter : ℕ → Bool
is_letter class = is_one_of Seventeen (AL ∷ AL_EASTASIAN ∷ AL_DOTTED_CIRCLE ∷ HL ∷ AI ∷ AI_EASTASIAN ∷ XX ∷ XX_EXTPICT ∷ []) class

unfoldable pub is_hyphen : ℕ → Bool
is_hyphen class = is_one_of Seventeen (HH ∷ HY ∷ []) class

unfoldable pub is_opening : ℕ → Bool
is_opening class = is_one_of Seventeen (OP ∷ OP_EASTASIAN ∷ []) class

-- at the start of a text the table may say what such a class is read as
unfoldable pub is_start : ℕ → Bool
is_start class = is_one_of Seventeen (HY ∷ HH ∷ QU_PI ∷ QU_PF ∷ QU ∷ []) class

-- a boundary stands between one of these and a closing quote
unfoldable pub is_before_quote : ℕ → Bool
is_before_quote class = is_one_of Seventeen (BK ∷ CR ∷ LF ∷ NL ∷ ZW ∷ []) class

-- a closing quote after a space stays with one of these
unfoldable pub is_after_quote : ℕ → Bool
is_after_quote class =
    is_one_of Seventeen (SP ∷ GL ∷ GL_EASTASIAN ∷ WJ ∷ CL ∷ CL_EASTASIAN ∷ QU ∷ QU_PI ∷ QU_PF ∷ CP ∷ EX ∷ EX_EASTASIAN ∷ IS ∷ SY ∷ BK ∷ CR ∷ LF ∷ NL ∷ ZW ∷ []) class

-- a hyphen after one of these begins a word
unfoldable pub is_before_hyphen : ℕ → Bool
is_before_hyphen class = is_one_of Seventeen (BK ∷ CB ∷ CR ∷ LF ∷ NL ∷ SP ∷ ZW ∷ []) class

-- classes alone

abbrev pub is_complex_mark : ℕ → Bool
is_complex_mark class = class == class_number Seventeen SA_MC_MN

abbrev pub is_space : ℕ → Bool
is_space class = class == class_number Seventeen SP

abbrev pub is_zero_space : ℕ → Bool
is_zero_space class = class == class_number Seventeen ZW

abbrev pub is_infix : ℕ → Bool
is_infix class = class == class_number Seventeen IS

abbrev pub is_digit : ℕ → Bool
is_digit class = class == class_number Seventeen NU

abbrev pub is_quote : ℕ → Bool
is_quote class = class == class_number Seventeen QU_PF

abbrev pub is_contingent : ℕ → Bool
is_contingent class = class == class_number Seventeen CB
