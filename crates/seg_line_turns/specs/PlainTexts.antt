-- Plain texts of lines, on which the engine 17 has the boundaries of the verdicts on units.
use Rattle.std.specs.Prelude.{◌≡◌, ℕ, ◌&&◌, Bool, false, List, [], ◌∷◌}
use Rattle.seg_line_pairs.specs.LineClasses.LineClass.{HH, HY, IS, QU, QU_PF, QU_PI, SA, SA_MC_MN}
use Rattle.seg_line_pairs.specs.declared.engines.LineEngine.TheVariants.{Seventeen}
use Rattle.seg_line_pairs.specs.LineRules.{TableRules, is_one_of, line_class}
use Rattle.seg_line_pairs.specs.LineUnits.{LineUnit}
use Rattle.seg_line_turns.specs.TurnClasses.{is_opening, is_space}

-- no quotes, hyphens, infix separators and complex characters
unfoldable pub is_quoting : ℕ → Bool
is_quoting class = is_one_of Seventeen (IS ∷ HY ∷ HH ∷ QU ∷ QU_PI ∷ QU_PF ∷ SA ∷ SA_MC_MN ∷ []) class

abbrev pub ArePlain : TableRules Seventeen → List ℕ → Type 0
ArePlain rules [] = Unit {0}
ArePlain rules (code_point ∷ code_points) = (is_quoting (line_class rules code_point) ≡ false) × ArePlain rules code_points

-- no opening unit stands directly before a space
abbrev pub HasNoOpening : List LineUnit → Type 0
HasNoOpening [] = Unit {0}
HasNoOpening (unit ∷ []) = Unit {0}
HasNoOpening (unit ∷ next ∷ units) = ((is_opening unit.class && is_space next.class) ≡ false) × HasNoOpening (next ∷ units)
