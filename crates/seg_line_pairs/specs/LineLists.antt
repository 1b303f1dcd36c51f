-- What stands between two units, whatever the table says: the lists of CSS Text 3 for line-break (5.3) and word-break: keep-all (5.2).
use Rattle.std.specs.Prelude.{ℕ, ◌&&◌, ◌||◌, not, Bool, true, false, if◌then◌else◌, Option, Some, None, List, [], ◌∷◌, ◌++◌, map}
use Rattle.std.specs.Option.{option_map, option_map_or}
use Rattle.seg_line_pairs.specs.declared.options.LineBreakStrictness.{LineBreakStrictness}
use Rattle.seg_line_pairs.specs.declared.options.LineBreakStrictness.TheVariants as strictness
use Rattle.seg_line_pairs.specs.declared.options.LineStyle.{LineStyle}
use Rattle.seg_line_pairs.specs.declared.engines.LineEngine.{LineEngine}
use Rattle.seg_line_pairs.specs.LineClasses.{LineClass, class_number}
use Rattle.seg_line_pairs.specs.LineClasses.LineClass.{AI, AI_EASTASIAN, BA, CJ, EX, EX_EASTASIAN, H2, H3, HY, ID, ID_EASTASIAN, IN, IN_EASTASIAN, JL, JT, JV, NS, NS_EASTASIAN, NU, PO, PO_EASTASIAN, PR, PR_EASTASIAN}
use Rattle.seg_line_pairs.specs.declared.engines.LineEngine.TheVariants.{Classic, Seventeen}
use Rattle.seg_line_pairs.specs.LineRules.{is_among, is_keep_all, is_one_of, alphabetic}

-- under KeepAll no boundary stands between two of these
unfoldable pub is_kept : LineEngine → ℕ → Bool
is_kept engine class =
    is_one_of engine (AI ∷ AI_EASTASIAN ∷ ID ∷ ID_EASTASIAN ∷ NU ∷ HY ∷ H2 ∷ H3 ∷ JL ∷ JV ∷ JT ∷ CJ ∷ alphabetic engine) class

unfoldable pub keeps : LineEngine → LineStyle → ℕ → ℕ → Bool
keeps engine style left right = is_keep_all style.word_option && is_kept engine left && is_kept engine right

-- a row of the Loose list: the classes of the right unit and its code points, the classes of the left unit and its code points, where None is
-- any; a boundary stands between the two always, or else in Japanese and Chinese alone
pub record LooseRow : Type 0 where
  pub right : Option (List ℕ)
  pub right_code_points : Option (List ℕ)
  pub left : Option (List ℕ)
  pub left_code_points : Option (List ℕ)
  pub always : Bool

abbrev pub loose_row : Option (List ℕ) → Option (List ℕ) → Option (List ℕ) → Option (List ℕ) → Bool → LooseRow
loose_row right right_code_points left left_code_points always = record {
  right = right;
  right_code_points = right_code_points;
  left = left;
  left_code_points = left_code_points;
  always = always;
}

-- the rows by the right unit, of these classes and, where some are given, code points
abbrev pub numbers_of : LineEngine → List LineClass → Option (List ℕ)
numbers_of engine classes = Some (map (class_number engine) classes)

abbrev pub row_before : LineEngine → List LineClass → Option (List ℕ) → Bool → LooseRow
row_before engine classes code_points always = loose_row (numbers_of engine classes) code_points None None always

-- .. and by the left unit
abbrev pub row_after : LineEngine → List LineClass → Option (List ℕ) → Bool → LooseRow
row_after engine classes code_points always = loose_row None None (numbers_of engine classes) code_points always

-- hyphens after ideographs, for the engine 17 of any class
abbrev pub hyphens : LineEngine → Option (List ℕ)
hyphens Classic = numbers_of Classic (BA ∷ [])
hyphens Seventeen = None

abbrev pub hyphen_row : LineEngine → LooseRow
hyphen_row engine = loose_row (hyphens engine) (Some (0x2010 ∷ 0x2013 ∷ [])) (numbers_of engine (ID ∷ ID_EASTASIAN ∷ [])) None true

-- wave dashes, iteration marks, middle dots and doubled signs
abbrev pub wave_row : LineEngine → LooseRow
wave_row engine = row_before engine (NS ∷ NS_EASTASIAN ∷ []) (Some (0x301C ∷ 0x30A0 ∷ [])) false

abbrev pub iteration_row : LineEngine → LooseRow
iteration_row engine = row_before engine (NS ∷ NS_EASTASIAN ∷ []) (Some (0x3005 ∷ 0x303B ∷ 0x309D ∷ 0x309E ∷ 0x30FD ∷ 0x30FE ∷ [])) true

abbrev pub middle_dot_row : LineEngine → LooseRow
middle_dot_row engine =
    row_before engine (NS ∷ NS_EASTASIAN ∷ []) (Some (0x30FB ∷ 0xFF1A ∷ 0xFF1B ∷ 0xFF65 ∷ 0x203C ∷ 0x2047 ∷ 0x2048 ∷ 0x2049 ∷ [])) false

-- leaders after leaders
abbrev pub leader_row : LineEngine → LooseRow
leader_row engine = loose_row (numbers_of engine (IN ∷ IN_EASTASIAN ∷ [])) None (numbers_of engine (IN ∷ IN_EASTASIAN ∷ [])) None true

abbrev pub exclamation_row : LineEngine → LooseRow
exclamation_row engine = row_before engine (EX ∷ EX_EASTASIAN ∷ []) (Some (0xFF01 ∷ 0xFF1F ∷ [])) false

-- wide signs after numbers and before them
abbrev pub wide_postfix_row : LineEngine → LooseRow
wide_postfix_row engine = row_before engine (PO_EASTASIAN ∷ []) None false

abbrev pub wide_prefix_row : LineEngine → LooseRow
wide_prefix_row engine = row_after engine (PR_EASTASIAN ∷ []) None false

-- .. and some that aren't wide, for the engine 17 alone
abbrev pub postfix_row : LooseRow
postfix_row = row_before Seventeen (PO ∷ []) (Some (0x00B0 ∷ 0x2030 ∷ 0x2032 ∷ 0x2033 ∷ 0x2035 ∷ 0x2103 ∷ 0x2109 ∷ [])) false

abbrev pub prefix_row : LooseRow
prefix_row = row_after Seventeen (PR ∷ []) (Some (0x00A4 ∷ 0x00B1 ∷ 0x20AC ∷ 0x2116 ∷ [])) false

abbrev pub narrow_row : LineEngine → LooseRow → List LooseRow
narrow_row Classic row = []
narrow_row Seventeen row = row ∷ []

-- all rows, in their order
unfoldable pub loose_rows : LineEngine → List LooseRow
loose_rows engine =
    hyphen_row engine ∷ wave_row engine ∷ iteration_row engine ∷ middle_dot_row engine ∷ leader_row engine ∷ exclamation_row engine
    ∷ wide_postfix_row engine ∷ (narrow_row engine postfix_row ++ (wide_prefix_row engine ∷ narrow_row engine prefix_row))

abbrev pub is_any_of : Option (List ℕ) → ℕ → Bool
is_any_of wanted number = option_map_or (λ (ones : List ℕ). is_among ones number) wanted true

abbrev pub fits : (left left_code_point right right_code_point : ℕ) → LooseRow → Bool
fits left left_code_point right right_code_point row =
    is_any_of row.right right && is_any_of row.right_code_points right_code_point && is_any_of row.left left
    && is_any_of row.left_code_points left_code_point

-- what the first row that fits says, if one fits
unfoldable pub loose_list : List LooseRow → Bool → (left left_code_point right right_code_point : ℕ) → Option Bool
loose_list [] is_ja_or_zh left left_code_point right right_code_point = None
loose_list (row ∷ rows) is_ja_or_zh left left_code_point right right_code_point =
    if fits left left_code_point right right_code_point row then Some (row.always || is_ja_or_zh)
    else loose_list rows is_ja_or_zh left left_code_point right right_code_point

-- the Normal list: code points before which a boundary stands in Japanese and Chinese
abbrev pub is_normal_listed : LineStyle → ℕ → Bool
is_normal_listed style code_point = style.is_ja_or_zh && is_among (0x301C ∷ 0x30A0 ∷ []) code_point

-- whether a boundary stands between a left unit, which may end with ZWJ, and a right one by the list of the strictness, where it decides:
-- none after ZWJ. The left code point is that which lists look at
abbrev pub listed_by : LineBreakStrictness → List LooseRow → LineStyle → (is_joined : Bool) → (left left_code_point right right_code_point : ℕ)
    → Option Bool
listed_by strictness.Normal rows style is_joined left left_code_point right right_code_point =
    if is_normal_listed style right_code_point && not is_joined then Some true else None
listed_by strictness.Loose rows style is_joined left left_code_point right right_code_point =
    option_map (λ breaks. breaks && not is_joined) (loose_list rows style.is_ja_or_zh left left_code_point right right_code_point)
listed_by strictness.Strict rows style is_joined left left_code_point right right_code_point = None
listed_by strictness.Anywhere rows style is_joined left left_code_point right right_code_point = None

unfoldable pub listed : LineEngine → LineStyle → (is_joined : Bool) → (left left_code_point right right_code_point : ℕ) → Option Bool
listed engine style is_joined left left_code_point right right_code_point =
    listed_by style.strictness (loose_rows engine) style is_joined left left_code_point right right_code_point
