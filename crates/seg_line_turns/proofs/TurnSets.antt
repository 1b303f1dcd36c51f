-- What the sets of classes have to do with one another.
use Rattle.std.proofs.Common.{◌≡◌, ℕ, ◌==◌, ◌||◌, Bool, true, false, [], ◌∷◌, refl, sym, ◌∙◌, map}
use Rattle.seg_line_pairs.specs.LineRules.{is_one_of, is_complex_context}
use Rattle.seg_line_pairs.specs.LineClasses.{class_number}
use Rattle.seg_line_pairs.specs.LineClasses.LineClass.{BK, CM, CM_EASTASIAN, CR, HH, HY, LF, NL, QU, QU_PF, QU_PI, SA, SA_MC_MN, SP, ZW, ZWJ}
use Rattle.seg_line_pairs.specs.LineUnits.{is_mark, bears_none}
use Rattle.seg_line_pairs.specs.declared.engines.LineEngine.TheVariants.{Seventeen}
use Rattle.seg_line_pairs.proofs.Marks.{none-among}
use Rattle.seg_line_turns.specs.TurnClasses.{is_glue, is_complex_mark, is_start}

bears : ℕ → Bool
bears class = is_one_of Seventeen (BK ∷ CR ∷ LF ∷ NL ∷ SP ∷ ZW ∷ []) class

pub complex-bear : (class : ℕ) → is_complex_context class ≡ true → bears_none Seventeen class ≡ false
unfolding is_complex_context bears_none bears
complex-bear class among = none-among bears (map (class_number Seventeen) (SA ∷ SA_MC_MN ∷ [])) class (refl, (refl, tt)) among

pub starts-bear : (class : ℕ) → is_start class ≡ true → bears_none Seventeen class ≡ false
unfolding is_start bears_none bears
starts-bear class among = none-among bears (map (class_number Seventeen) (HY ∷ HH ∷ QU_PI ∷ QU_PF ∷ QU ∷ [])) class (refl, (refl, (refl, (refl, (refl, tt))))) among

marks : ℕ → Bool
marks class = is_one_of Seventeen (CM ∷ CM_EASTASIAN ∷ ZWJ ∷ []) class

pub complex-apart : (class : ℕ) → is_complex_context class ≡ true → is_mark Seventeen class ≡ false
unfolding is_complex_context is_mark marks
complex-apart class among = none-among marks (map (class_number Seventeen) (SA ∷ SA_MC_MN ∷ [])) class (refl, (refl, tt)) among

or-true : (b : Bool) → (b || true) ≡ true
or-true true = refl
or-true false = refl

pub complex-is : (class : ℕ) → is_complex_mark class ≡ true → is_complex_context class ≡ true
unfolding is_complex_context
complex-is class is = rw is (or-true (class == class_number Seventeen SA))

-- glue is a mark, or one that is complex
pub glue-is : (class : ℕ) → is_glue class ≡ (is_mark Seventeen class || is_complex_mark class)
unfolding is_glue is_mark
glue-is class = on (class == class_number Seventeen CM) (class == class_number Seventeen CM_EASTASIAN) (class == class_number Seventeen SA_MC_MN) (class == class_number Seventeen ZWJ)
  where
    on : (a b m z : Bool) → (a || (b || (m || (z || false)))) ≡ ((a || (b || (z || false))) || m)
    on true b m z = refl
    on false true m z = refl
    on false false true true = refl
    on false false true false = refl
    on false false false true = refl
    on false false false false = refl

pub mark-apart : (class : ℕ) → is_mark Seventeen class ≡ true → is_complex_mark class ≡ false
mark-apart class mark = on (is_complex_mark class) refl
  where
    no : false ≡ true → ⊥
    no is = cc

    on : (b : Bool) → is_complex_mark class ≡ b → b ≡ false
    on true is = absurd (no (sym (complex-apart class (complex-is class is)) ∙ mark))
    on false is = refl
