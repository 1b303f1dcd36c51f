-- The scripts of code points that are written without spaces between words.
use Rattle.std.specs.Prelude.{ℕ, ◌&&◌, ◌==◌, nat_le, Bool, List, [], ◌∷◌, find, ◌≡◌, ◌≢◌, zero, suc, ◌<◌, Option, Some, ◌++◌, length, take, drop, slice_get, MatchOption, ◌+◌, ◌^◌, map}
use Rattle.std.specs.Option.{option_map_or}
use Rattle.std.specs.List.{prefix_len}
use Rattle.seg_text.specs.Items.{Text, rest_after, text_before, code_points}
use Rattle.seg_text.specs.Boundaries.{offsets, RisesTo, Cuts, with_status, Stretch, later_boundaries}
use Rattle.seg_data.specs.declared.provider.ComplexScript.{ComplexScript}
use Rattle.seg_data.specs.declared.provider.ComplexScript.TheVariants.{None, Myanmar, ChineseOrJapanese, Khmer, Lao, Thai}

-- a row: its first and its last code point, both in it, and their script
abbrev pub Row : Type 0
Row = ℕ × ℕ × ComplexScript

-- the rows, script by script
unfoldable pub script_rows : List Row
script_rows =
    (0x0E01, 0x0E3A, Thai)
    ∷ (0x0E40, 0x0E4E, Thai)
    ∷ (0x0E81, 0x0E81, Lao)
    ∷ (0x0E82, 0x0E82, Lao)
    ∷ (0x0E84, 0x0E84, Lao)
    ∷ (0x0E86, 0x0E8A, Lao)
    ∷ (0x0E8C, 0x0EA2, Lao)
    ∷ (0x0EA5, 0x0EA5, Lao)
    ∷ (0x0EA7, 0x0EBD, Lao)
    ∷ (0x0EC0, 0x0EC4, Lao)
    ∷ (0x0EC6, 0x0EC6, Lao)
    ∷ (0x0EC8, 0x0ECE, Lao)
    ∷ (0x0EDC, 0x0EDF, Lao)
    ∷ (0x1000, 0x103F, Myanmar)
    ∷ (0x1050, 0x108F, Myanmar)
    ∷ (0x109A, 0x109F, Myanmar)
    ∷ (0xA9E0, 0xA9EF, Myanmar)
    ∷ (0xA9FA, 0xA9FE, Myanmar)
    ∷ (0xAA60, 0xAA7F, Myanmar)
    ∷ (0x1780, 0x17D3, Khmer)
    ∷ (0x17D7, 0x17D7, Khmer)
    ∷ (0x17DC, 0x17DC, Khmer)
    ∷ (0x17DD, 0x17DD, Khmer)
    ∷ (0x2E80, 0x2E99, ChineseOrJapanese)
    ∷ (0x2E9B, 0x2EF3, ChineseOrJapanese)
    ∷ (0x2F00, 0x2FD5, ChineseOrJapanese)
    ∷ (0x3005, 0x3005, ChineseOrJapanese)
    ∷ (0x3007, 0x3007, ChineseOrJapanese)
    ∷ (0x3021, 0x3029, ChineseOrJapanese)
    ∷ (0x3038, 0x303B, ChineseOrJapanese)
    ∷ (0x3041, 0x3096, ChineseOrJapanese)
    ∷ (0x309D, 0x309F, ChineseOrJapanese)
    ∷ (0x3400, 0x4DBF, ChineseOrJapanese)
    ∷ (0x4E00, 0x9FFF, ChineseOrJapanese)
    ∷ (0xF900, 0xFA6D, ChineseOrJapanese)
    ∷ (0xFA70, 0xFAD9, ChineseOrJapanese)
    ∷ (0x16FE2, 0x16FE2, ChineseOrJapanese)
    ∷ (0x16FE3, 0x16FE3, ChineseOrJapanese)
    ∷ (0x16FF0, 0x16FF6, ChineseOrJapanese)
    ∷ (0x1B001, 0x1B11F, ChineseOrJapanese)
    ∷ (0x1B132, 0x1B132, ChineseOrJapanese)
    ∷ (0x1B150, 0x1B152, ChineseOrJapanese)
    ∷ (0x1F200, 0x1F200, ChineseOrJapanese)
    ∷ (0x20000, 0x2A6DF, ChineseOrJapanese)
    ∷ (0x2A700, 0x2B81D, ChineseOrJapanese)
    ∷ (0x2B820, 0x2CEAD, ChineseOrJapanese)
    ∷ (0x2CEB0, 0x2EBE0, ChineseOrJapanese)
    ∷ (0x2EBF0, 0x2EE5D, ChineseOrJapanese)
    ∷ (0x2F800, 0x2FA1D, ChineseOrJapanese)
    ∷ (0x30000, 0x3134A, ChineseOrJapanese)
    ∷ (0x31350, 0x33479, ChineseOrJapanese)
    ∷ []

-- the row holds the code point
abbrev pub row_holds : ℕ → Row → Bool
row_holds code_point row = nat_le row.0 code_point && nat_le code_point row.1

-- the script of the row that holds a code point, or else none
unfoldable pub script_of : ℕ → ComplexScript
script_of code_point = option_map_or (λ (row : Row). row.2) (find (row_holds code_point) script_rows) None

-- the numbers of the scripts, as data write them
abbrev pub script_number : ComplexScript → ℕ
script_number None = 0
script_number Myanmar = 1
script_number ChineseOrJapanese = 2
script_number Khmer = 3
script_number Lao = 4
script_number Thai = 5

-- the code point has the script
abbrev pub has_script : ComplexScript → ℕ → Bool
has_script script code_point = script_number (script_of code_point) == script_number script

-- The pieces of a list of code points: the longest parts of one script each.

-- all of these code points have the script
abbrev pub HaveScript : ComplexScript → List ℕ → Type 0
HaveScript script [] = Unit {0}
HaveScript script (code_point ∷ code_points) = (script_of code_point ≡ script) × HaveScript script code_points

-- a piece isn't empty, and its code points have one script
abbrev pub IsPiece : List ℕ → Type 0
IsPiece piece = (piece ≢ []) × ((script : ComplexScript) × HaveScript script piece)

-- no script is that of both pieces
abbrev pub Differ : List ℕ → List ℕ → Type 0
Differ piece other = (script : ComplexScript) → HaveScript script piece → HaveScript script other → ⊥

-- the pieces one after another
abbrev pub joined_pieces : List (List ℕ) → List ℕ
joined_pieces [] = []
joined_pieces (piece ∷ pieces) = piece ++ joined_pieces pieces

abbrev pub AllPieces : List (List ℕ) → Type 0
AllPieces [] = Unit {0}
AllPieces (piece ∷ pieces) = IsPiece piece × AllPieces pieces

-- the pieces of some code points: joined they are the code points, each is a piece, and neighbours have different scripts
pub record ArePieces (code_points : List ℕ) (pieces : List (List ℕ)) : Type 0 where
  pub whole : joined_pieces pieces ≡ code_points
  pub each : AllPieces pieces
  pub differ : (k : ℕ) (piece next : List ℕ) → slice_get pieces k ≡ Some piece → slice_get pieces (suc k) ≡ Some next → Differ piece next

-- how many code points the first piece has: as far as they have the script of the first
abbrev pub piece_length : List ℕ → ℕ
piece_length [] = 0
piece_length (first ∷ rest) = prefix_len (has_script (script_of first)) (first ∷ rest)

-- the script of the first piece
abbrev pub piece_script : List ℕ → ComplexScript
piece_script [] = None
piece_script (first ∷ rest) = script_of first

-- the pieces as a function, of which there are so many at most
unfoldable pub pieces_within : ℕ → List ℕ → List (List ℕ)
pieces_within zero code_points = []
pieces_within (suc most) [] = []
pieces_within (suc most) (first ∷ rest) =
    let count = piece_length (first ∷ rest) in
    take count (first ∷ rest) ∷ pieces_within most (drop count (first ∷ rest))

unfoldable pub pieces : List ℕ → List (List ℕ)
pieces code_points = pieces_within (length code_points) code_points

-- the first piece of a text was given as a separate text, with its script, and what comes after it is left; or, of
-- a text with no item, none
abbrev pub GivesPiece : {I : Type 0} → (I → Text) → Text → Option (I × ComplexScript) → Text → Type 0
GivesPiece text before given after =
    MatchOption given ((before.items ≡ []) × (after ≡ before))
    (λ piece. let count = piece_length (code_points before.items) in
    (0 < count) × (text piece.0 ≡ text_before count before) × (piece.1 ≡ piece_script (code_points before.items)) × (after ≡ rest_after count before))

-- How a run of code points is cut: piece by piece, whatever cuts the pieces.

-- where a piece of a script is cut: after so many of its code points each, the last at its end
abbrev pub PieceCuts : Type 0
PieceCuts = ComplexScript → List ℕ → List ℕ

-- at its end alone
abbrev pub at_end : PieceCuts
at_end script piece = length piece ∷ []

-- the first stretch of a run: its first piece, with the piece's cuts
abbrev pub piece_stretch : PieceCuts → List ℕ → Stretch
piece_stretch cuts run =
    let extent = piece_length run in
    record { extent = extent; boundaries = with_status 0 (cuts (piece_script run) (take extent run)) }

-- the cuts of a run: those of its pieces
abbrev pub run_cuts : PieceCuts → Cuts
run_cuts cuts run = offsets (later_boundaries (piece_stretch cuts) run)

-- the cuts of each piece rise strictly from its start, where there is none, and the last is at its end
abbrev pub CoverPieces : PieceCuts → Type 0
CoverPieces cuts =
    (script : ComplexScript) (first : ℕ) (rest : List ℕ)
    → RisesTo 0 (with_status 0 (cuts script (first ∷ rest))) (length (first ∷ rest))

-- so do the cuts of each run
abbrev pub CoverRuns : PieceCuts → Type 0
CoverRuns cuts = (run : List ℕ) → RisesTo 0 (with_status 0 (run_cuts cuts run)) (length run)

-- Places that are given so much later.

abbrev pub later_places : ℕ → List ℕ → List ℕ
later_places offset places = map (λ (place : ℕ). offset + place) places

-- they are still numbers of 64 bits
abbrev pub FitLater : ℕ → List ℕ → Type 0
FitLater offset [] = Unit {0}
FitLater offset (place ∷ places) = (offset + place < 2 ^ 64) × FitLater offset places
