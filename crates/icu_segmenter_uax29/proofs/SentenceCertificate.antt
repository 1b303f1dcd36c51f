-- The certificate of the machine of sentences: written by generate/generate.py. Do not edit.
use Rattle.std.specs.Prelude.{◌≡◌, ℕ, Bool, true, false, ◌&&◌, nat_lt, List, [], ◌∷◌, length}
use Rattle.std.proofs.Common.{refl}
use Rattle.std.proofs.lemmas.Bool.{and_from}
use Rattle.seg_rules.specs.declared.certificate.Configuration.{Configuration}
use Rattle.seg_rules.specs.declared.rules.Count.TheVariants.{One, Optional, Star}
use Rattle.seg_rules.specs.RowRules.{Row, RowRules, Before, Marks, Owed, Due, DueOf, at_start, once, once_number, once_flags, flow, no_flags, is_full, is_live, moved, unread, moves_on, put_on, put, onto, begun, owed_rows, owed, reading, read_all, read}
use Rattle.seg_rules.specs.Check.{Plan, Tables, no_before, same_before, verdicts, tables_hold, scans_hold, get, same_flags, same_lives, same_pattern, same_entries, same_due, moves_hold, befores_hold, reads_hold, dues_hold, append_dues, all_below, rows_below, among, ends, entered, goes_on, each_goes, configurations_hold, configuration_holds, relation_holds, starts_hold}
use Rattle.seg_rules.specs.Classes.{bits_from, pattern_of, rows_of}
use Rattle.icu_segmenter_uax29.specs.SentenceRules.{sentence_rows_above_marks, sentence_rows_below_marks, sentence_rules}

abbrev at : (before doubt older : ℕ) (newest : Bool) (last status named : ℕ) → Configuration
at before doubt older newest last status named =
    record { before = before; doubt = doubt; older = older; newest = newest; last = last; status = status; named = named }

-- which rests of a pattern may come next
abbrev live_t : List Bool
live_t = true ∷ []

abbrev live_tf : List Bool
live_tf = true ∷ false ∷ []

abbrev live_tff : List Bool
live_tff = true ∷ false ∷ false ∷ []

abbrev live_tfff : List Bool
live_tfff = true ∷ false ∷ false ∷ false ∷ []

abbrev live_tffff : List Bool
live_tffff = true ∷ false ∷ false ∷ false ∷ false ∷ []

abbrev live_tffft : List Bool
live_tffft = true ∷ false ∷ false ∷ false ∷ true ∷ []

abbrev live_tft : List Bool
live_tft = true ∷ false ∷ true ∷ []

abbrev live_tftt : List Bool
live_tftt = true ∷ false ∷ true ∷ true ∷ []

abbrev live_tfttt : List Bool
live_tfttt = true ∷ false ∷ true ∷ true ∷ true ∷ []

abbrev live_tt : List Bool
live_tt = true ∷ true ∷ []

abbrev live_ttf : List Bool
live_ttf = true ∷ true ∷ false ∷ []

abbrev live_ttt : List Bool
live_ttt = true ∷ true ∷ true ∷ []

abbrev live_tttt : List Bool
live_tttt = true ∷ true ∷ true ∷ true ∷ []

abbrev live_ttttt : List Bool
live_ttttt = true ∷ true ∷ true ∷ true ∷ true ∷ []

unfoldable pub numbered_above : List Row
numbered_above =
    record { left = (4, One) ∷ []; right = (8, One) ∷ []; verdict = 0 } ∷
    record { left = (28, One) ∷ []; right = []; verdict = 1 } ∷
    []

unfoldable pub numbered_below : List Row
numbered_below =
    record { left = (4096, One) ∷ []; right = (2048, One) ∷ []; verdict = 0 } ∷
    record { left = (768, One) ∷ (4096, One) ∷ []; right = (512, One) ∷ []; verdict = 0 } ∷
    record { left = (4096, One) ∷ (16384, Star) ∷ (128, Star) ∷ []; right = (51426, Star) ∷ (256, One) ∷ []; verdict = 0 } ∷
    record { left = (12288, One) ∷ (16384, Star) ∷ (128, Star) ∷ []; right = (45056, One) ∷ []; verdict = 0 } ∷
    record { left = (12288, One) ∷ (16384, Star) ∷ []; right = (16540, One) ∷ []; verdict = 0 } ∷
    record { left = (12288, One) ∷ (16384, Star) ∷ (128, Star) ∷ []; right = (156, One) ∷ []; verdict = 0 } ∷
    record { left = (12288, One) ∷ (16384, Star) ∷ (128, Star) ∷ (28, Optional) ∷ []; right = []; verdict = 1 } ∷
    record { left = []; right = []; verdict = 0 } ∷
    []

unfoldable pub numbered_rules : RowRules
numbered_rules = record {
  above = numbered_above;
  below = numbered_below;
  has_marks = true;
  marks = 96;
  bare = 28;
  alone = 1;
  at_end = 0;
}

unfoldable pub befores_0 : List (Before) → List (Before)
befores_0 rest =
    record { above = live_tf ∷ live_tf ∷ []; below = live_tf ∷ live_tff ∷ live_tfff ∷ live_tfff ∷ live_tff ∷ live_tfff ∷ live_tffff ∷ live_t ∷ []; glues = false } ∷
    record { above = live_tf ∷ live_tf ∷ []; below = live_tf ∷ live_tff ∷ live_tfff ∷ live_tfff ∷ live_tff ∷ live_tfff ∷ live_tffff ∷ live_t ∷ []; glues = true } ∷
    record { above = live_tt ∷ live_tt ∷ []; below = live_tf ∷ live_tff ∷ live_tfff ∷ live_tfff ∷ live_tff ∷ live_tfff ∷ live_tffff ∷ live_t ∷ []; glues = false } ∷
    record { above = live_tf ∷ live_tt ∷ []; below = live_tf ∷ live_tff ∷ live_tfff ∷ live_tfff ∷ live_tff ∷ live_tfff ∷ live_tffff ∷ live_t ∷ []; glues = false } ∷
    record { above = live_tf ∷ live_tf ∷ []; below = live_tf ∷ live_ttf ∷ live_tfff ∷ live_tfff ∷ live_tff ∷ live_tfff ∷ live_tffff ∷ live_t ∷ []; glues = true } ∷
    record { above = live_tf ∷ live_tf ∷ []; below = live_tt ∷ live_tff ∷ live_tttt ∷ live_tttt ∷ live_ttt ∷ live_tttt ∷ live_ttttt ∷ live_t ∷ []; glues = true } ∷
    record { above = live_tf ∷ live_tf ∷ []; below = live_tf ∷ live_tff ∷ live_tfff ∷ live_tttt ∷ live_ttt ∷ live_tttt ∷ live_ttttt ∷ live_t ∷ []; glues = true } ∷
    record { above = live_tf ∷ live_tf ∷ []; below = live_tt ∷ live_tft ∷ live_tttt ∷ live_tttt ∷ live_ttt ∷ live_tttt ∷ live_ttttt ∷ live_t ∷ []; glues = true } ∷
    record { above = live_tt ∷ live_tt ∷ []; below = live_tf ∷ live_tff ∷ live_tfff ∷ live_tfff ∷ live_tff ∷ live_tfff ∷ live_tffft ∷ live_t ∷ []; glues = false } ∷
    record { above = live_tf ∷ live_tt ∷ []; below = live_tf ∷ live_tff ∷ live_tfff ∷ live_tfff ∷ live_tff ∷ live_tfff ∷ live_tffft ∷ live_t ∷ []; glues = false } ∷
    record { above = live_tf ∷ live_tf ∷ []; below = live_tf ∷ live_tff ∷ live_tftt ∷ live_tftt ∷ live_tff ∷ live_tftt ∷ live_tfttt ∷ live_t ∷ []; glues = true } ∷
    record { above = live_tf ∷ live_tf ∷ []; below = live_tf ∷ live_tff ∷ live_tttt ∷ live_tttt ∷ live_ttt ∷ live_tttt ∷ live_ttttt ∷ live_t ∷ []; glues = true } ∷
    record { above = live_tf ∷ live_tf ∷ []; below = live_tf ∷ live_tff ∷ live_tfff ∷ live_tftt ∷ live_tff ∷ live_tftt ∷ live_tfttt ∷ live_t ∷ []; glues = true } ∷
    rest

unfoldable pub befores : List (Before)
befores = befores_0 []

unfoldable pub moves_0 : List (List ℕ) → List (List ℕ)
moves_0 rest =
    (1 ∷ 2 ∷ 3 ∷ 3 ∷ 1 ∷ 1 ∷ 1 ∷ 4 ∷ 4 ∷ 1 ∷ 1 ∷ 5 ∷ 6 ∷ 1 ∷ 1 ∷ []) ∷
    (1 ∷ 2 ∷ 3 ∷ 3 ∷ 1 ∷ 1 ∷ 1 ∷ 4 ∷ 4 ∷ 1 ∷ 1 ∷ 5 ∷ 6 ∷ 1 ∷ 1 ∷ []) ∷
    (1 ∷ 2 ∷ 3 ∷ 3 ∷ 1 ∷ 1 ∷ 1 ∷ 4 ∷ 4 ∷ 1 ∷ 1 ∷ 5 ∷ 6 ∷ 1 ∷ 1 ∷ []) ∷
    (1 ∷ 2 ∷ 3 ∷ 3 ∷ 1 ∷ 1 ∷ 1 ∷ 4 ∷ 4 ∷ 1 ∷ 1 ∷ 5 ∷ 6 ∷ 1 ∷ 1 ∷ []) ∷
    (1 ∷ 2 ∷ 3 ∷ 3 ∷ 4 ∷ 4 ∷ 1 ∷ 4 ∷ 4 ∷ 1 ∷ 1 ∷ 7 ∷ 6 ∷ 1 ∷ 1 ∷ []) ∷
    (1 ∷ 8 ∷ 9 ∷ 9 ∷ 5 ∷ 5 ∷ 10 ∷ 4 ∷ 4 ∷ 1 ∷ 1 ∷ 5 ∷ 6 ∷ 11 ∷ 1 ∷ []) ∷
    (1 ∷ 8 ∷ 9 ∷ 9 ∷ 6 ∷ 6 ∷ 12 ∷ 4 ∷ 4 ∷ 1 ∷ 1 ∷ 5 ∷ 6 ∷ 6 ∷ 1 ∷ []) ∷
    (1 ∷ 8 ∷ 9 ∷ 9 ∷ 7 ∷ 7 ∷ 10 ∷ 4 ∷ 4 ∷ 1 ∷ 1 ∷ 5 ∷ 6 ∷ 11 ∷ 1 ∷ []) ∷
    (1 ∷ 2 ∷ 3 ∷ 3 ∷ 1 ∷ 1 ∷ 1 ∷ 4 ∷ 4 ∷ 1 ∷ 1 ∷ 5 ∷ 6 ∷ 1 ∷ 1 ∷ []) ∷
    (1 ∷ 2 ∷ 3 ∷ 3 ∷ 1 ∷ 1 ∷ 1 ∷ 4 ∷ 4 ∷ 1 ∷ 1 ∷ 5 ∷ 6 ∷ 1 ∷ 1 ∷ []) ∷
    (1 ∷ 8 ∷ 9 ∷ 9 ∷ 10 ∷ 10 ∷ 10 ∷ 4 ∷ 4 ∷ 1 ∷ 1 ∷ 5 ∷ 6 ∷ 1 ∷ 1 ∷ []) ∷
    (1 ∷ 8 ∷ 9 ∷ 9 ∷ 11 ∷ 11 ∷ 10 ∷ 4 ∷ 4 ∷ 1 ∷ 1 ∷ 5 ∷ 6 ∷ 11 ∷ 1 ∷ []) ∷
    (1 ∷ 8 ∷ 9 ∷ 9 ∷ 12 ∷ 12 ∷ 12 ∷ 4 ∷ 4 ∷ 1 ∷ 1 ∷ 5 ∷ 6 ∷ 1 ∷ 1 ∷ []) ∷
    rest

unfoldable pub moves : List (List ℕ)
moves = moves_0 []

unfoldable pub owes_0 : List (ℕ) → List (ℕ)
owes_0 rest =
    0 ∷ 0 ∷ 3 ∷ 1 ∷ 0 ∷ 4 ∷ 5 ∷ 6 ∷ 3 ∷ 1 ∷ 7 ∷ 8 ∷ 9 ∷
    rest

unfoldable pub owes : List (ℕ)
owes = owes_0 []

unfoldable pub dues : List Due
dues =
    DueOf (Owed ((8, One) ∷ []) live_tf 0 false ∷ []) 1 ∷
    DueOf (Marks ∷ Owed ((2048, One) ∷ []) live_tf 0 true ∷ Owed ((51426, Star) ∷ (256, One) ∷ []) live_ttf 0 true ∷ Owed ((45056, One) ∷ []) live_tf 0 true ∷ Owed ((16540, One) ∷ []) live_tf 0 true ∷ Owed ((156, One) ∷ []) live_tf 0 true ∷ []) 1 ∷
    DueOf (Marks ∷ Owed ((45056, One) ∷ []) live_tf 0 true ∷ Owed ((16540, One) ∷ []) live_tf 0 true ∷ Owed ((156, One) ∷ []) live_tf 0 true ∷ []) 1 ∷
    DueOf (Marks ∷ Owed ((2048, One) ∷ []) live_tf 0 true ∷ Owed ((512, One) ∷ []) live_tf 0 true ∷ Owed ((51426, Star) ∷ (256, One) ∷ []) live_ttf 0 true ∷ Owed ((45056, One) ∷ []) live_tf 0 true ∷ Owed ((16540, One) ∷ []) live_tf 0 true ∷ Owed ((156, One) ∷ []) live_tf 0 true ∷ []) 1 ∷
    DueOf (Marks ∷ Owed ((51426, Star) ∷ (256, One) ∷ []) live_ttf 0 true ∷ Owed ((45056, One) ∷ []) live_tf 0 true ∷ Owed ((156, One) ∷ []) live_tf 0 true ∷ []) 1 ∷
    DueOf (Marks ∷ Owed ((51426, Star) ∷ (256, One) ∷ []) live_ttf 0 true ∷ Owed ((45056, One) ∷ []) live_tf 0 true ∷ Owed ((16540, One) ∷ []) live_tf 0 true ∷ Owed ((156, One) ∷ []) live_tf 0 true ∷ []) 1 ∷
    DueOf (Marks ∷ Owed ((45056, One) ∷ []) live_tf 0 true ∷ Owed ((156, One) ∷ []) live_tf 0 true ∷ []) 1 ∷
    DueOf (Owed ((51426, Star) ∷ (256, One) ∷ []) live_ttf 0 true ∷ []) 1 ∷
    []

unfoldable pub reads : List (List (ℕ × ℕ))
reads =
    ((0, 0) ∷ (0, 0) ∷ (0, 0) ∷ (0, 0) ∷ (0, 0) ∷ (0, 0) ∷ (0, 0) ∷ (0, 0) ∷ (0, 0) ∷ (0, 0) ∷ (0, 0) ∷ (0, 0) ∷ (0, 0) ∷ (0, 0) ∷ (0, 0) ∷ (0, 0) ∷ []) ∷
    ((1, 1) ∷ (1, 1) ∷ (1, 1) ∷ (1, 1) ∷ (1, 1) ∷ (1, 1) ∷ (1, 1) ∷ (1, 1) ∷ (1, 1) ∷ (1, 1) ∷ (1, 1) ∷ (1, 1) ∷ (1, 1) ∷ (1, 1) ∷ (1, 1) ∷ (1, 1) ∷ []) ∷
    ((2, 2) ∷ (2, 2) ∷ (2, 2) ∷ (2, 2) ∷ (2, 2) ∷ (2, 2) ∷ (2, 2) ∷ (2, 2) ∷ (2, 2) ∷ (2, 2) ∷ (2, 2) ∷ (2, 2) ∷ (2, 2) ∷ (2, 2) ∷ (2, 2) ∷ (2, 2) ∷ []) ∷
    ((1, 1) ∷ (1, 1) ∷ (1, 1) ∷ (0, 0) ∷ (1, 1) ∷ (1, 1) ∷ (1, 1) ∷ (1, 1) ∷ (1, 1) ∷ (1, 1) ∷ (1, 1) ∷ (1, 1) ∷ (1, 1) ∷ (1, 1) ∷ (1, 1) ∷ (1, 1) ∷ []) ∷
    ((1, 1) ∷ (10, 10) ∷ (0, 0) ∷ (0, 0) ∷ (0, 0) ∷ (10, 0) ∷ (10, 0) ∷ (0, 0) ∷ (0, 0) ∷ (1, 1) ∷ (1, 1) ∷ (0, 0) ∷ (0, 0) ∷ (0, 0) ∷ (0, 0) ∷ (0, 0) ∷ []) ∷
    ((1, 1) ∷ (1, 1) ∷ (0, 0) ∷ (0, 0) ∷ (0, 0) ∷ (1, 0) ∷ (1, 0) ∷ (0, 0) ∷ (1, 1) ∷ (1, 1) ∷ (1, 1) ∷ (1, 1) ∷ (0, 0) ∷ (0, 0) ∷ (0, 0) ∷ (0, 0) ∷ []) ∷
    ((1, 1) ∷ (10, 10) ∷ (0, 0) ∷ (0, 0) ∷ (0, 0) ∷ (10, 0) ∷ (10, 0) ∷ (0, 0) ∷ (0, 0) ∷ (0, 0) ∷ (1, 1) ∷ (0, 0) ∷ (0, 0) ∷ (0, 0) ∷ (0, 0) ∷ (0, 0) ∷ []) ∷
    ((1, 1) ∷ (10, 10) ∷ (0, 0) ∷ (0, 0) ∷ (0, 0) ∷ (10, 0) ∷ (10, 0) ∷ (0, 0) ∷ (0, 0) ∷ (1, 1) ∷ (1, 1) ∷ (10, 10) ∷ (0, 0) ∷ (0, 0) ∷ (10, 10) ∷ (0, 0) ∷ []) ∷
    ((1, 1) ∷ (10, 10) ∷ (0, 0) ∷ (0, 0) ∷ (0, 0) ∷ (10, 0) ∷ (10, 0) ∷ (0, 0) ∷ (0, 0) ∷ (1, 1) ∷ (1, 1) ∷ (10, 10) ∷ (0, 0) ∷ (0, 0) ∷ (0, 0) ∷ (0, 0) ∷ []) ∷
    ((1, 1) ∷ (1, 1) ∷ (0, 0) ∷ (0, 0) ∷ (0, 0) ∷ (1, 0) ∷ (1, 0) ∷ (0, 0) ∷ (1, 1) ∷ (1, 1) ∷ (1, 1) ∷ (1, 1) ∷ (0, 0) ∷ (0, 0) ∷ (1, 1) ∷ (0, 0) ∷ []) ∷
    ((1, 1) ∷ (10, 10) ∷ (1, 1) ∷ (1, 1) ∷ (1, 1) ∷ (10, 10) ∷ (10, 10) ∷ (10, 10) ∷ (0, 0) ∷ (1, 1) ∷ (1, 1) ∷ (10, 10) ∷ (1, 1) ∷ (1, 1) ∷ (10, 10) ∷ (10, 10) ∷ []) ∷
    []

unfoldable pub tables : Tables
tables = record { befores = befores; moves = moves; owes = owes; dues = dues; reads = reads }

unfoldable pub accepts : List (ℕ × ℕ × Bool)
accepts =
    (0, 0, false) ∷ (1, 0, false) ∷ (1, 0, false) ∷ (1, 0, false) ∷ (1, 0, false) ∷ (1, 0, false) ∷ (1, 0, false) ∷
    (1, 0, false) ∷ (1, 0, false) ∷ (1, 0, false) ∷ (1, 0, false) ∷ (0, 0, false) ∷
    []

unfoldable pub nexts : List (List ℕ)
nexts =
    (255 ∷ 1 ∷ 2 ∷ 3 ∷ 3 ∷ 1 ∷ 1 ∷ 1 ∷ 4 ∷ 4 ∷ 1 ∷ 1 ∷ 7 ∷ 5 ∷ 1 ∷ 1 ∷ []) ∷
    (255 ∷ 1 ∷ 2 ∷ 3 ∷ 3 ∷ 1 ∷ 1 ∷ 1 ∷ 4 ∷ 4 ∷ 1 ∷ 1 ∷ 7 ∷ 5 ∷ 1 ∷ 1 ∷ []) ∷
    (255 ∷ 255 ∷ 255 ∷ 3 ∷ 255 ∷ 255 ∷ 255 ∷ 255 ∷ 255 ∷ 255 ∷ 255 ∷ 255 ∷ 255 ∷ 255 ∷ 255 ∷ 255 ∷ []) ∷
    (255 ∷ 255 ∷ 255 ∷ 255 ∷ 255 ∷ 255 ∷ 255 ∷ 255 ∷ 255 ∷ 255 ∷ 255 ∷ 255 ∷ 255 ∷ 255 ∷ 255 ∷ 255 ∷ []) ∷
    (255 ∷ 1 ∷ 2 ∷ 3 ∷ 3 ∷ 4 ∷ 4 ∷ 1 ∷ 4 ∷ 4 ∷ 1 ∷ 1 ∷ 8 ∷ 5 ∷ 1 ∷ 1 ∷ []) ∷
    (255 ∷ 255 ∷ 2 ∷ 3 ∷ 3 ∷ 5 ∷ 5 ∷ 6 ∷ 255 ∷ 255 ∷ 255 ∷ 255 ∷ 7 ∷ 5 ∷ 5 ∷ 1 ∷ []) ∷
    (255 ∷ 255 ∷ 2 ∷ 3 ∷ 3 ∷ 6 ∷ 6 ∷ 6 ∷ 255 ∷ 255 ∷ 255 ∷ 255 ∷ 7 ∷ 5 ∷ 255 ∷ 1 ∷ []) ∷
    (255 ∷ 11 ∷ 2 ∷ 3 ∷ 3 ∷ 7 ∷ 7 ∷ 10 ∷ 4 ∷ 255 ∷ 255 ∷ 1 ∷ 7 ∷ 5 ∷ 9 ∷ 1 ∷ []) ∷
    (255 ∷ 11 ∷ 2 ∷ 3 ∷ 3 ∷ 8 ∷ 8 ∷ 10 ∷ 4 ∷ 4 ∷ 255 ∷ 1 ∷ 7 ∷ 5 ∷ 9 ∷ 1 ∷ []) ∷
    (255 ∷ 11 ∷ 2 ∷ 3 ∷ 3 ∷ 9 ∷ 9 ∷ 10 ∷ 4 ∷ 255 ∷ 255 ∷ 11 ∷ 7 ∷ 5 ∷ 9 ∷ 1 ∷ []) ∷
    (255 ∷ 11 ∷ 2 ∷ 3 ∷ 3 ∷ 10 ∷ 10 ∷ 10 ∷ 4 ∷ 255 ∷ 255 ∷ 11 ∷ 7 ∷ 5 ∷ 11 ∷ 1 ∷ []) ∷
    (255 ∷ 11 ∷ 255 ∷ 255 ∷ 255 ∷ 11 ∷ 11 ∷ 11 ∷ 4 ∷ 255 ∷ 255 ∷ 11 ∷ 255 ∷ 255 ∷ 11 ∷ 11 ∷ []) ∷
    []

unfoldable pub plan : Plan
plan = record { accepts = accepts; nexts = nexts }

unfoldable pub waits : List Bool
waits =
    false ∷ false ∷ false ∷ false ∷ false ∷ false ∷ false ∷ false ∷ false ∷ false ∷ false ∷ false ∷
    []

unfoldable pub relation : List (List Configuration)
relation =
    (at 0 1 0 false 0 0 0 ∷ at 2 3 0 false 0 0 0 ∷ at 3 1 0 false 0 0 0 ∷ at 5 4 0 false 0 0 0 ∷ at 6 5 0 false 0 0 0 ∷ at 7 6 0 false 0 0 0 ∷ at 8 3 0 false 0 0 0 ∷ at 9 1 0 false 0 0 0 ∷ at 10 7 0 false 0 0 0 ∷ at 11 8 0 false 0 0 0 ∷ at 12 9 0 false 0 0 0 ∷ []) ∷
    (at 1 1 0 false 2 0 0 ∷ at 1 10 0 false 2 0 0 ∷ []) ∷ (at 2 1 0 true 2 0 0 ∷ at 8 1 0 true 2 0 0 ∷ []) ∷
    (at 3 1 0 true 2 0 0 ∷ at 9 1 0 true 2 0 0 ∷ []) ∷ (at 4 1 0 false 2 0 0 ∷ []) ∷ (at 6 1 0 true 2 0 0 ∷ []) ∷
    (at 12 1 0 true 2 0 0 ∷ []) ∷ (at 5 1 0 true 2 0 0 ∷ []) ∷ (at 7 1 0 true 2 0 0 ∷ []) ∷ (at 11 1 0 true 2 0 0 ∷ []) ∷
    (at 10 1 0 true 2 0 0 ∷ []) ∷ (at 1 1 10 false 3 0 0 ∷ []) ∷
    []

pub rules-are : sentence_rules ≡ numbered_rules
unfolding bits_from pattern_of rows_of sentence_rows_above_marks sentence_rows_below_marks sentence_rules numbered_above numbered_below numbered_rules
rules-are = refl

befores-hold-0 : (ss : List Before) (rows : List (List ℕ)) (os : List ℕ) → befores_hold numbered_rules tables 15 ss rows os ≡ true
    → befores_hold numbered_rules tables 15 (befores_0 ss) (moves_0 rows) (owes_0 os) ≡ true
unfolding numbered_above numbered_below numbered_rules befores_0 moves_0 owes_0 befores moves owes dues reads tables once once_number once_flags flow no_flags is_full is_live moved unread moves_on put_on put onto begun owed_rows owed reading read_all read get same_flags same_lives same_pattern same_entries same_due moves_hold befores_hold reads_hold dues_hold append_dues all_below rows_below among ends entered goes_on each_goes configurations_hold configuration_holds relation_holds starts_hold
befores-hold-0 ss rows os h = h

befores-hold : befores_hold numbered_rules tables 15 befores moves owes ≡ true
unfolding befores moves owes befores_hold
befores-hold = befores-hold-0 _ _ _ refl

start-holds : same_before (at_start numbered_rules) (get no_before befores 0) ≡ true
unfolding numbered_above numbered_below numbered_rules befores_0 moves_0 owes_0 befores moves owes dues reads tables once once_number once_flags flow no_flags is_full is_live moved unread moves_on put_on put onto begun owed_rows owed reading read_all read get same_flags same_lives same_pattern same_entries same_due moves_hold befores_hold reads_hold dues_hold append_dues all_below rows_below among ends entered goes_on each_goes configurations_hold configuration_holds relation_holds starts_hold
start-holds = refl

dues-hold : dues_hold numbered_rules tables 15 (append_dues verdicts dues) reads ≡ true
unfolding numbered_above numbered_below numbered_rules befores_0 moves_0 owes_0 befores moves owes dues reads tables once once_number once_flags flow no_flags is_full is_live moved unread moves_on put_on put onto begun owed_rows owed reading read_all read get same_flags same_lives same_pattern same_entries same_due moves_hold befores_hold reads_hold dues_hold append_dues all_below rows_below among ends entered goes_on each_goes configurations_hold configuration_holds relation_holds starts_hold
dues-hold = refl

moves-below : once_number (length befores) (λ many. nat_lt 0 many && rows_below many moves) ≡ true
unfolding numbered_above numbered_below numbered_rules befores_0 moves_0 owes_0 befores moves owes dues reads tables once once_number once_flags flow no_flags is_full is_live moved unread moves_on put_on put onto begun owed_rows owed reading read_all read get same_flags same_lives same_pattern same_entries same_due moves_hold befores_hold reads_hold dues_hold append_dues all_below rows_below among ends entered goes_on each_goes configurations_hold configuration_holds relation_holds starts_hold
moves-below = refl

pub scans-hold : scans_hold numbered_rules tables plan relation ≡ true
unfolding numbered_above numbered_below numbered_rules befores_0 moves_0 owes_0 befores moves owes dues reads tables once once_number once_flags flow no_flags is_full is_live moved unread moves_on put_on put onto begun owed_rows owed reading read_all read get same_flags same_lives same_pattern same_entries same_due moves_hold befores_hold reads_hold dues_hold append_dues all_below rows_below among ends entered goes_on each_goes configurations_hold configuration_holds relation_holds starts_hold accepts nexts plan relation
scans-hold = refl

pub tables-hold : tables_hold numbered_rules 15 tables ≡ true
unfolding tables
tables-hold = and_from _ _ start-holds (and_from _ _ befores-hold (and_from _ _ dues-hold moves-below))
