-- The certificate of the machine of extended grapheme clusters: written by generate/generate.py. Do not edit.
use Rattle.std.specs.Prelude.{◌≡◌, ℕ, Bool, true, false, ◌&&◌, nat_lt, List, [], ◌∷◌, length}
use Rattle.std.proofs.Common.{refl}
use Rattle.std.proofs.lemmas.Bool.{and_from}
use Rattle.seg_rules.specs.declared.certificate.Configuration.{Configuration}
use Rattle.seg_rules.specs.declared.rules.Count.TheVariants.{One, Star, Pairs}
use Rattle.seg_rules.specs.RowRules.{Row, RowRules, Before, Owed, Due, DueOf, at_start, once, once_number, once_flags, flow, no_flags, is_full, is_live, moved, unread, moves_on, put_on, put, onto, begun, owed_rows, owed, reading, read_all, read}
use Rattle.seg_rules.specs.Check.{Plan, Tables, no_before, same_before, verdicts, tables_hold, scans_hold, get, same_flags, same_lives, same_pattern, same_entries, same_due, moves_hold, befores_hold, reads_hold, dues_hold, append_dues, all_below, rows_below, among, ends, entered, goes_on, each_goes, configurations_hold, configuration_holds, relation_holds, starts_hold}
use Rattle.seg_rules.specs.Classes.{bits_from, pattern_of, rows_of}
use Rattle.icu_segmenter_uax29.specs.ClusterRules.{cluster_rows, cluster_rules}

abbrev at : (before doubt older : ℕ) (newest : Bool) (last status named : ℕ) → Configuration
at before doubt older newest last status named =
    record { before = before; doubt = doubt; older = older; newest = newest; last = last; status = status; named = named }

-- which rests of a pattern may come next
abbrev live_t : List Bool
live_t = true ∷ []

abbrev live_tf : List Bool
live_tf = true ∷ false ∷ []

abbrev live_tff : List Bool
live_tff = true ∷ false ∷ false ∷ []

abbrev live_tfff : List Bool
live_tfff = true ∷ false ∷ false ∷ false ∷ []

abbrev live_tffff : List Bool
live_tffff = true ∷ false ∷ false ∷ false ∷ false ∷ []

abbrev live_tfft : List Bool
live_tfft = true ∷ false ∷ false ∷ true ∷ []

abbrev live_tftft : List Bool
live_tftft = true ∷ false ∷ true ∷ false ∷ true ∷ []

abbrev live_tt : List Bool
live_tt = true ∷ true ∷ []

abbrev live_ttftf : List Bool
live_ttftf = true ∷ true ∷ false ∷ true ∷ false ∷ []

abbrev live_ttt : List Bool
live_ttt = true ∷ true ∷ true ∷ []

abbrev live_tttf : List Bool
live_tttf = true ∷ true ∷ true ∷ false ∷ []

unfoldable pub numbered_above : List Row
numbered_above =
    record { left = (4, One) ∷ []; right = (8, One) ∷ []; verdict = 0 } ∷
    record { left = (28, One) ∷ []; right = []; verdict = 1 } ∷
    record { left = []; right = (28, One) ∷ []; verdict = 1 } ∷
    record { left = (4096, One) ∷ []; right = (110592, One) ∷ []; verdict = 0 } ∷
    record { left = (40960, One) ∷ []; right = (24576, One) ∷ []; verdict = 0 } ∷
    record { left = (81920, One) ∷ []; right = (16384, One) ∷ []; verdict = 0 } ∷
    record { left = []; right = (480, One) ∷ []; verdict = 0 } ∷
    record { left = []; right = (2048, One) ∷ []; verdict = 0 } ∷
    record { left = (1024, One) ∷ []; right = []; verdict = 0 } ∷
    record { left = (262208, One) ∷ (288, Star) ∷ []; right = (131072, One) ∷ []; verdict = 0 } ∷
    record { left = (524288, One) ∷ (224, Star) ∷ (256, One) ∷ []; right = (524288, One) ∷ []; verdict = 0 } ∷
    record { left = (1, One) ∷ (512, Pairs) ∷ (512, One) ∷ []; right = (512, One) ∷ []; verdict = 0 } ∷
    record { left = (1048062, One) ∷ (512, Pairs) ∷ (512, One) ∷ []; right = (512, One) ∷ []; verdict = 0 } ∷
    record { left = []; right = []; verdict = 1 } ∷
    []

unfoldable pub numbered_below : List Row
numbered_below =
    []

unfoldable pub numbered_rules : RowRules
numbered_rules = record {
  above = numbered_above;
  below = numbered_below;
  has_marks = false;
  marks = 0;
  bare = 0;
  alone = 0;
  at_end = 0;
}

unfoldable pub befores_0 : List (Before) → List (Before)
befores_0 rest =
    record { above = live_tf ∷ live_tf ∷ live_t ∷ live_tf ∷ live_tf ∷ live_tf ∷ live_t ∷ live_t ∷ live_tf ∷ live_tff ∷ live_tfff ∷ live_ttftf ∷ live_tffff ∷ live_t ∷ []; below = []; glues = false } ∷
    record { above = live_tf ∷ live_tf ∷ live_t ∷ live_tf ∷ live_tf ∷ live_tf ∷ live_t ∷ live_t ∷ live_tf ∷ live_tff ∷ live_tfff ∷ live_tffff ∷ live_ttftf ∷ live_t ∷ []; below = []; glues = false } ∷
    record { above = live_tt ∷ live_tt ∷ live_t ∷ live_tf ∷ live_tf ∷ live_tf ∷ live_t ∷ live_t ∷ live_tf ∷ live_tff ∷ live_tfff ∷ live_tffff ∷ live_ttftf ∷ live_t ∷ []; below = []; glues = false } ∷
    record { above = live_tf ∷ live_tt ∷ live_t ∷ live_tf ∷ live_tf ∷ live_tf ∷ live_t ∷ live_t ∷ live_tf ∷ live_tff ∷ live_tfff ∷ live_tffff ∷ live_ttftf ∷ live_t ∷ []; below = []; glues = false } ∷
    record { above = live_tf ∷ live_tf ∷ live_t ∷ live_tf ∷ live_tf ∷ live_tf ∷ live_t ∷ live_t ∷ live_tf ∷ live_ttt ∷ live_tfff ∷ live_tffff ∷ live_ttftf ∷ live_t ∷ []; below = []; glues = false } ∷
    record { above = live_tf ∷ live_tf ∷ live_t ∷ live_tf ∷ live_tf ∷ live_tf ∷ live_t ∷ live_t ∷ live_tf ∷ live_tff ∷ live_tfff ∷ live_tftft ∷ live_tffff ∷ live_t ∷ []; below = []; glues = false } ∷
    record { above = live_tf ∷ live_tf ∷ live_t ∷ live_tf ∷ live_tf ∷ live_tf ∷ live_t ∷ live_t ∷ live_tt ∷ live_tff ∷ live_tfff ∷ live_tffff ∷ live_ttftf ∷ live_t ∷ []; below = []; glues = false } ∷
    record { above = live_tf ∷ live_tf ∷ live_t ∷ live_tt ∷ live_tf ∷ live_tf ∷ live_t ∷ live_t ∷ live_tf ∷ live_tff ∷ live_tfff ∷ live_tffff ∷ live_ttftf ∷ live_t ∷ []; below = []; glues = false } ∷
    record { above = live_tf ∷ live_tf ∷ live_t ∷ live_tf ∷ live_tt ∷ live_tf ∷ live_t ∷ live_t ∷ live_tf ∷ live_tff ∷ live_tfff ∷ live_tffff ∷ live_ttftf ∷ live_t ∷ []; below = []; glues = false } ∷
    record { above = live_tf ∷ live_tf ∷ live_t ∷ live_tf ∷ live_tf ∷ live_tt ∷ live_t ∷ live_t ∷ live_tf ∷ live_tff ∷ live_tfff ∷ live_tffff ∷ live_ttftf ∷ live_t ∷ []; below = []; glues = false } ∷
    record { above = live_tf ∷ live_tf ∷ live_t ∷ live_tf ∷ live_tf ∷ live_tf ∷ live_t ∷ live_t ∷ live_tf ∷ live_tff ∷ live_tttf ∷ live_tffff ∷ live_ttftf ∷ live_t ∷ []; below = []; glues = false } ∷
    record { above = live_tf ∷ live_tf ∷ live_t ∷ live_tf ∷ live_tf ∷ live_tf ∷ live_t ∷ live_t ∷ live_tf ∷ live_tff ∷ live_tfff ∷ live_tffff ∷ live_tftft ∷ live_t ∷ []; below = []; glues = false } ∷
    record { above = live_tf ∷ live_tf ∷ live_t ∷ live_tf ∷ live_tf ∷ live_tf ∷ live_t ∷ live_t ∷ live_tf ∷ live_ttt ∷ live_tttf ∷ live_tffff ∷ live_ttftf ∷ live_t ∷ []; below = []; glues = false } ∷
    record { above = live_tf ∷ live_tf ∷ live_t ∷ live_tf ∷ live_tf ∷ live_tf ∷ live_t ∷ live_t ∷ live_tf ∷ live_tff ∷ live_tfft ∷ live_tffff ∷ live_ttftf ∷ live_t ∷ []; below = []; glues = false } ∷
    record { above = live_tf ∷ live_tf ∷ live_t ∷ live_tf ∷ live_tf ∷ live_tf ∷ live_t ∷ live_t ∷ live_tf ∷ live_ttt ∷ live_tfft ∷ live_tffff ∷ live_ttftf ∷ live_t ∷ []; below = []; glues = false } ∷
    rest

unfoldable pub befores : List (Before)
befores = befores_0 []

unfoldable pub moves_0 : List (List ℕ) → List (List ℕ)
moves_0 rest =
    (1 ∷ 2 ∷ 3 ∷ 3 ∷ 1 ∷ 4 ∷ 1 ∷ 1 ∷ 5 ∷ 6 ∷ 1 ∷ 7 ∷ 8 ∷ 9 ∷ 8 ∷ 9 ∷ 1 ∷ 4 ∷ 10 ∷ []) ∷
    (1 ∷ 2 ∷ 3 ∷ 3 ∷ 1 ∷ 4 ∷ 1 ∷ 1 ∷ 11 ∷ 6 ∷ 1 ∷ 7 ∷ 8 ∷ 9 ∷ 8 ∷ 9 ∷ 1 ∷ 4 ∷ 10 ∷ []) ∷
    (1 ∷ 2 ∷ 3 ∷ 3 ∷ 1 ∷ 4 ∷ 1 ∷ 1 ∷ 11 ∷ 6 ∷ 1 ∷ 7 ∷ 8 ∷ 9 ∷ 8 ∷ 9 ∷ 1 ∷ 4 ∷ 10 ∷ []) ∷
    (1 ∷ 2 ∷ 3 ∷ 3 ∷ 1 ∷ 4 ∷ 1 ∷ 1 ∷ 11 ∷ 6 ∷ 1 ∷ 7 ∷ 8 ∷ 9 ∷ 8 ∷ 9 ∷ 1 ∷ 4 ∷ 10 ∷ []) ∷
    (1 ∷ 2 ∷ 3 ∷ 3 ∷ 4 ∷ 4 ∷ 1 ∷ 4 ∷ 11 ∷ 6 ∷ 1 ∷ 7 ∷ 8 ∷ 9 ∷ 8 ∷ 9 ∷ 1 ∷ 4 ∷ 10 ∷ []) ∷
    (1 ∷ 2 ∷ 3 ∷ 3 ∷ 1 ∷ 4 ∷ 1 ∷ 1 ∷ 0 ∷ 6 ∷ 1 ∷ 7 ∷ 8 ∷ 9 ∷ 8 ∷ 9 ∷ 1 ∷ 4 ∷ 10 ∷ []) ∷
    (1 ∷ 2 ∷ 3 ∷ 3 ∷ 1 ∷ 4 ∷ 1 ∷ 1 ∷ 11 ∷ 6 ∷ 1 ∷ 7 ∷ 8 ∷ 9 ∷ 8 ∷ 9 ∷ 1 ∷ 4 ∷ 10 ∷ []) ∷
    (1 ∷ 2 ∷ 3 ∷ 3 ∷ 1 ∷ 4 ∷ 1 ∷ 1 ∷ 11 ∷ 6 ∷ 1 ∷ 7 ∷ 8 ∷ 9 ∷ 8 ∷ 9 ∷ 1 ∷ 4 ∷ 10 ∷ []) ∷
    (1 ∷ 2 ∷ 3 ∷ 3 ∷ 1 ∷ 4 ∷ 1 ∷ 1 ∷ 11 ∷ 6 ∷ 1 ∷ 7 ∷ 8 ∷ 9 ∷ 8 ∷ 9 ∷ 1 ∷ 4 ∷ 10 ∷ []) ∷
    (1 ∷ 2 ∷ 3 ∷ 3 ∷ 1 ∷ 4 ∷ 1 ∷ 1 ∷ 11 ∷ 6 ∷ 1 ∷ 7 ∷ 8 ∷ 9 ∷ 8 ∷ 9 ∷ 1 ∷ 4 ∷ 10 ∷ []) ∷
    (1 ∷ 2 ∷ 3 ∷ 3 ∷ 10 ∷ 12 ∷ 10 ∷ 13 ∷ 11 ∷ 6 ∷ 1 ∷ 7 ∷ 8 ∷ 9 ∷ 8 ∷ 9 ∷ 1 ∷ 4 ∷ 10 ∷ []) ∷
    (1 ∷ 2 ∷ 3 ∷ 3 ∷ 1 ∷ 4 ∷ 1 ∷ 1 ∷ 1 ∷ 6 ∷ 1 ∷ 7 ∷ 8 ∷ 9 ∷ 8 ∷ 9 ∷ 1 ∷ 4 ∷ 10 ∷ []) ∷
    (1 ∷ 2 ∷ 3 ∷ 3 ∷ 12 ∷ 12 ∷ 10 ∷ 14 ∷ 11 ∷ 6 ∷ 1 ∷ 7 ∷ 8 ∷ 9 ∷ 8 ∷ 9 ∷ 1 ∷ 4 ∷ 10 ∷ []) ∷
    (1 ∷ 2 ∷ 3 ∷ 3 ∷ 1 ∷ 4 ∷ 1 ∷ 1 ∷ 11 ∷ 6 ∷ 1 ∷ 7 ∷ 8 ∷ 9 ∷ 8 ∷ 9 ∷ 1 ∷ 4 ∷ 10 ∷ []) ∷
    (1 ∷ 2 ∷ 3 ∷ 3 ∷ 4 ∷ 4 ∷ 1 ∷ 4 ∷ 11 ∷ 6 ∷ 1 ∷ 7 ∷ 8 ∷ 9 ∷ 8 ∷ 9 ∷ 1 ∷ 4 ∷ 10 ∷ []) ∷
    rest

unfoldable pub moves : List (List ℕ)
moves = moves_0 []

unfoldable pub owes_0 : List (ℕ) → List (ℕ)
owes_0 rest =
    3 ∷ 3 ∷ 4 ∷ 1 ∷ 5 ∷ 6 ∷ 7 ∷ 8 ∷ 9 ∷ 10 ∷ 3 ∷ 11 ∷ 5 ∷ 12 ∷ 13 ∷
    rest

unfoldable pub owes : List (ℕ)
owes = owes_0 []

unfoldable pub dues : List Due
dues =
    DueOf (Owed ((28, One) ∷ []) live_tf 1 false ∷ Owed ((480, One) ∷ []) live_tf 0 false ∷ Owed ((2048, One) ∷ []) live_tf 0 false ∷ []) 1 ∷
    DueOf (Owed ((8, One) ∷ []) live_tf 0 false ∷ []) 1 ∷
    DueOf (Owed ((28, One) ∷ []) live_tf 1 false ∷ Owed ((480, One) ∷ []) live_tf 0 false ∷ Owed ((2048, One) ∷ []) live_tf 0 false ∷ Owed ((131072, One) ∷ []) live_tf 0 false ∷ []) 1 ∷
    DueOf (Owed ((28, One) ∷ []) live_tf 1 false ∷ Owed ((480, One) ∷ []) live_tf 0 false ∷ Owed ((2048, One) ∷ []) live_tf 0 false ∷ Owed ((512, One) ∷ []) live_tf 0 false ∷ []) 1 ∷
    DueOf (Owed ((28, One) ∷ []) live_tf 1 false ∷ []) 0 ∷
    DueOf (Owed ((28, One) ∷ []) live_tf 1 false ∷ Owed ((110592, One) ∷ []) live_tf 0 false ∷ Owed ((480, One) ∷ []) live_tf 0 false ∷ Owed ((2048, One) ∷ []) live_tf 0 false ∷ []) 1 ∷
    DueOf (Owed ((28, One) ∷ []) live_tf 1 false ∷ Owed ((24576, One) ∷ []) live_tf 0 false ∷ Owed ((480, One) ∷ []) live_tf 0 false ∷ Owed ((2048, One) ∷ []) live_tf 0 false ∷ []) 1 ∷
    DueOf (Owed ((28, One) ∷ []) live_tf 1 false ∷ Owed ((16384, One) ∷ []) live_tf 0 false ∷ Owed ((480, One) ∷ []) live_tf 0 false ∷ Owed ((2048, One) ∷ []) live_tf 0 false ∷ []) 1 ∷
    DueOf (Owed ((28, One) ∷ []) live_tf 1 false ∷ Owed ((480, One) ∷ []) live_tf 0 false ∷ Owed ((2048, One) ∷ []) live_tf 0 false ∷ Owed ((512, One) ∷ []) live_tf 0 false ∷ []) 1 ∷
    DueOf (Owed ((28, One) ∷ []) live_tf 1 false ∷ Owed ((480, One) ∷ []) live_tf 0 false ∷ Owed ((2048, One) ∷ []) live_tf 0 false ∷ Owed ((524288, One) ∷ []) live_tf 0 false ∷ []) 1 ∷
    DueOf (Owed ((28, One) ∷ []) live_tf 1 false ∷ Owed ((480, One) ∷ []) live_tf 0 false ∷ Owed ((2048, One) ∷ []) live_tf 0 false ∷ Owed ((131072, One) ∷ []) live_tf 0 false ∷ Owed ((524288, One) ∷ []) live_tf 0 false ∷ []) 1 ∷
    []

unfoldable pub reads : List (List (ℕ × ℕ))
reads =
    ((0, 0) ∷ (0, 0) ∷ (0, 0) ∷ (0, 0) ∷ (0, 0) ∷ (0, 0) ∷ (0, 0) ∷ (0, 0) ∷ (0, 0) ∷ (0, 0) ∷ (0, 0) ∷ (0, 0) ∷ (0, 0) ∷ (0, 0) ∷ (0, 0) ∷ (0, 0) ∷ (0, 0) ∷ (0, 0) ∷ (0, 0) ∷ (0, 0) ∷ []) ∷
    ((1, 1) ∷ (1, 1) ∷ (1, 1) ∷ (1, 1) ∷ (1, 1) ∷ (1, 1) ∷ (1, 1) ∷ (1, 1) ∷ (1, 1) ∷ (1, 1) ∷ (1, 1) ∷ (1, 1) ∷ (1, 1) ∷ (1, 1) ∷ (1, 1) ∷ (1, 1) ∷ (1, 1) ∷ (1, 1) ∷ (1, 1) ∷ (1, 1) ∷ []) ∷
    ((2, 2) ∷ (2, 2) ∷ (2, 2) ∷ (2, 2) ∷ (2, 2) ∷ (2, 2) ∷ (2, 2) ∷ (2, 2) ∷ (2, 2) ∷ (2, 2) ∷ (2, 2) ∷ (2, 2) ∷ (2, 2) ∷ (2, 2) ∷ (2, 2) ∷ (2, 2) ∷ (2, 2) ∷ (2, 2) ∷ (2, 2) ∷ (2, 2) ∷ []) ∷
    ((1, 1) ∷ (1, 1) ∷ (1, 1) ∷ (1, 1) ∷ (1, 1) ∷ (0, 0) ∷ (0, 0) ∷ (0, 0) ∷ (0, 0) ∷ (1, 1) ∷ (1, 1) ∷ (0, 0) ∷ (1, 1) ∷ (1, 1) ∷ (1, 1) ∷ (1, 1) ∷ (1, 1) ∷ (1, 1) ∷ (1, 1) ∷ (1, 1) ∷ []) ∷
    ((1, 1) ∷ (1, 1) ∷ (1, 1) ∷ (0, 0) ∷ (1, 1) ∷ (1, 1) ∷ (1, 1) ∷ (1, 1) ∷ (1, 1) ∷ (1, 1) ∷ (1, 1) ∷ (1, 1) ∷ (1, 1) ∷ (1, 1) ∷ (1, 1) ∷ (1, 1) ∷ (1, 1) ∷ (1, 1) ∷ (1, 1) ∷ (1, 1) ∷ []) ∷
    ((1, 1) ∷ (1, 1) ∷ (1, 1) ∷ (1, 1) ∷ (1, 1) ∷ (0, 0) ∷ (0, 0) ∷ (0, 0) ∷ (0, 0) ∷ (1, 1) ∷ (1, 1) ∷ (0, 0) ∷ (1, 1) ∷ (1, 1) ∷ (1, 1) ∷ (1, 1) ∷ (1, 1) ∷ (0, 0) ∷ (1, 1) ∷ (1, 1) ∷ []) ∷
    ((1, 1) ∷ (1, 1) ∷ (1, 1) ∷ (1, 1) ∷ (1, 1) ∷ (0, 0) ∷ (0, 0) ∷ (0, 0) ∷ (0, 0) ∷ (0, 0) ∷ (1, 1) ∷ (0, 0) ∷ (1, 1) ∷ (1, 1) ∷ (1, 1) ∷ (1, 1) ∷ (1, 1) ∷ (1, 1) ∷ (1, 1) ∷ (1, 1) ∷ []) ∷
    ((0, 0) ∷ (0, 0) ∷ (1, 1) ∷ (1, 1) ∷ (1, 1) ∷ (0, 0) ∷ (0, 0) ∷ (0, 0) ∷ (0, 0) ∷ (0, 0) ∷ (0, 0) ∷ (0, 0) ∷ (0, 0) ∷ (0, 0) ∷ (0, 0) ∷ (0, 0) ∷ (0, 0) ∷ (0, 0) ∷ (0, 0) ∷ (0, 0) ∷ []) ∷
    ((1, 1) ∷ (1, 1) ∷ (1, 1) ∷ (1, 1) ∷ (1, 1) ∷ (0, 0) ∷ (0, 0) ∷ (0, 0) ∷ (0, 0) ∷ (1, 1) ∷ (1, 1) ∷ (0, 0) ∷ (0, 0) ∷ (0, 0) ∷ (1, 1) ∷ (0, 0) ∷ (0, 0) ∷ (1, 1) ∷ (1, 1) ∷ (1, 1) ∷ []) ∷
    ((1, 1) ∷ (1, 1) ∷ (1, 1) ∷ (1, 1) ∷ (1, 1) ∷ (0, 0) ∷ (0, 0) ∷ (0, 0) ∷ (0, 0) ∷ (1, 1) ∷ (1, 1) ∷ (0, 0) ∷ (1, 1) ∷ (0, 0) ∷ (0, 0) ∷ (1, 1) ∷ (1, 1) ∷ (1, 1) ∷ (1, 1) ∷ (1, 1) ∷ []) ∷
    ((1, 1) ∷ (1, 1) ∷ (1, 1) ∷ (1, 1) ∷ (1, 1) ∷ (0, 0) ∷ (0, 0) ∷ (0, 0) ∷ (0, 0) ∷ (1, 1) ∷ (1, 1) ∷ (0, 0) ∷ (1, 1) ∷ (1, 1) ∷ (0, 0) ∷ (1, 1) ∷ (1, 1) ∷ (1, 1) ∷ (1, 1) ∷ (1, 1) ∷ []) ∷
    ((1, 1) ∷ (1, 1) ∷ (1, 1) ∷ (1, 1) ∷ (1, 1) ∷ (0, 0) ∷ (0, 0) ∷ (0, 0) ∷ (0, 0) ∷ (0, 0) ∷ (1, 1) ∷ (0, 0) ∷ (1, 1) ∷ (1, 1) ∷ (1, 1) ∷ (1, 1) ∷ (1, 1) ∷ (1, 1) ∷ (1, 1) ∷ (1, 1) ∷ []) ∷
    ((1, 1) ∷ (1, 1) ∷ (1, 1) ∷ (1, 1) ∷ (1, 1) ∷ (0, 0) ∷ (0, 0) ∷ (0, 0) ∷ (0, 0) ∷ (1, 1) ∷ (1, 1) ∷ (0, 0) ∷ (1, 1) ∷ (1, 1) ∷ (1, 1) ∷ (1, 1) ∷ (1, 1) ∷ (1, 1) ∷ (1, 1) ∷ (0, 0) ∷ []) ∷
    ((1, 1) ∷ (1, 1) ∷ (1, 1) ∷ (1, 1) ∷ (1, 1) ∷ (0, 0) ∷ (0, 0) ∷ (0, 0) ∷ (0, 0) ∷ (1, 1) ∷ (1, 1) ∷ (0, 0) ∷ (1, 1) ∷ (1, 1) ∷ (1, 1) ∷ (1, 1) ∷ (1, 1) ∷ (0, 0) ∷ (1, 1) ∷ (0, 0) ∷ []) ∷
    []

unfoldable pub tables : Tables
tables = record { befores = befores; moves = moves; owes = owes; dues = dues; reads = reads }

unfoldable pub accepts : List (ℕ × ℕ × Bool)
accepts =
    (0, 0, false) ∷ (1, 0, false) ∷ (1, 0, false) ∷ (1, 0, false) ∷ (1, 0, false) ∷ (1, 0, false) ∷ (1, 0, false) ∷
    (1, 0, false) ∷ (1, 0, false) ∷ (1, 0, false) ∷ (1, 0, false) ∷ (1, 0, false) ∷ (1, 0, false) ∷ (1, 0, false) ∷
    []

unfoldable pub nexts : List (List ℕ)
nexts =
    (255 ∷ 1 ∷ 2 ∷ 3 ∷ 3 ∷ 1 ∷ 4 ∷ 1 ∷ 1 ∷ 5 ∷ 6 ∷ 1 ∷ 7 ∷ 8 ∷ 9 ∷ 8 ∷ 9 ∷ 1 ∷ 4 ∷ 10 ∷ []) ∷
    (255 ∷ 255 ∷ 255 ∷ 255 ∷ 255 ∷ 1 ∷ 4 ∷ 1 ∷ 1 ∷ 255 ∷ 255 ∷ 1 ∷ 255 ∷ 255 ∷ 255 ∷ 255 ∷ 255 ∷ 255 ∷ 255 ∷ 255 ∷ []) ∷
    (255 ∷ 255 ∷ 255 ∷ 3 ∷ 255 ∷ 255 ∷ 255 ∷ 255 ∷ 255 ∷ 255 ∷ 255 ∷ 255 ∷ 255 ∷ 255 ∷ 255 ∷ 255 ∷ 255 ∷ 255 ∷ 255 ∷ 255 ∷ []) ∷
    (255 ∷ 255 ∷ 255 ∷ 255 ∷ 255 ∷ 255 ∷ 255 ∷ 255 ∷ 255 ∷ 255 ∷ 255 ∷ 255 ∷ 255 ∷ 255 ∷ 255 ∷ 255 ∷ 255 ∷ 255 ∷ 255 ∷ 255 ∷ []) ∷
    (255 ∷ 255 ∷ 255 ∷ 255 ∷ 255 ∷ 4 ∷ 4 ∷ 1 ∷ 4 ∷ 255 ∷ 255 ∷ 1 ∷ 255 ∷ 255 ∷ 255 ∷ 255 ∷ 255 ∷ 1 ∷ 255 ∷ 255 ∷ []) ∷
    (255 ∷ 255 ∷ 255 ∷ 255 ∷ 255 ∷ 1 ∷ 4 ∷ 1 ∷ 1 ∷ 1 ∷ 255 ∷ 1 ∷ 255 ∷ 255 ∷ 255 ∷ 255 ∷ 255 ∷ 255 ∷ 255 ∷ 255 ∷ []) ∷
    (255 ∷ 1 ∷ 255 ∷ 255 ∷ 255 ∷ 1 ∷ 4 ∷ 1 ∷ 1 ∷ 5 ∷ 6 ∷ 1 ∷ 7 ∷ 8 ∷ 9 ∷ 8 ∷ 9 ∷ 1 ∷ 4 ∷ 10 ∷ []) ∷
    (255 ∷ 255 ∷ 255 ∷ 255 ∷ 255 ∷ 1 ∷ 4 ∷ 1 ∷ 1 ∷ 255 ∷ 255 ∷ 1 ∷ 7 ∷ 8 ∷ 255 ∷ 8 ∷ 9 ∷ 255 ∷ 255 ∷ 255 ∷ []) ∷
    (255 ∷ 255 ∷ 255 ∷ 255 ∷ 255 ∷ 1 ∷ 4 ∷ 1 ∷ 1 ∷ 255 ∷ 255 ∷ 1 ∷ 255 ∷ 8 ∷ 9 ∷ 255 ∷ 255 ∷ 255 ∷ 255 ∷ 255 ∷ []) ∷
    (255 ∷ 255 ∷ 255 ∷ 255 ∷ 255 ∷ 1 ∷ 4 ∷ 1 ∷ 1 ∷ 255 ∷ 255 ∷ 1 ∷ 255 ∷ 255 ∷ 9 ∷ 255 ∷ 255 ∷ 255 ∷ 255 ∷ 255 ∷ []) ∷
    (255 ∷ 255 ∷ 255 ∷ 255 ∷ 255 ∷ 10 ∷ 11 ∷ 10 ∷ 12 ∷ 255 ∷ 255 ∷ 1 ∷ 255 ∷ 255 ∷ 255 ∷ 255 ∷ 255 ∷ 255 ∷ 255 ∷ 255 ∷ []) ∷
    (255 ∷ 255 ∷ 255 ∷ 255 ∷ 255 ∷ 11 ∷ 11 ∷ 10 ∷ 13 ∷ 255 ∷ 255 ∷ 1 ∷ 255 ∷ 255 ∷ 255 ∷ 255 ∷ 255 ∷ 1 ∷ 255 ∷ 255 ∷ []) ∷
    (255 ∷ 255 ∷ 255 ∷ 255 ∷ 255 ∷ 1 ∷ 4 ∷ 1 ∷ 1 ∷ 255 ∷ 255 ∷ 1 ∷ 255 ∷ 255 ∷ 255 ∷ 255 ∷ 255 ∷ 255 ∷ 255 ∷ 10 ∷ []) ∷
    (255 ∷ 255 ∷ 255 ∷ 255 ∷ 255 ∷ 4 ∷ 4 ∷ 1 ∷ 4 ∷ 255 ∷ 255 ∷ 1 ∷ 255 ∷ 255 ∷ 255 ∷ 255 ∷ 255 ∷ 1 ∷ 255 ∷ 10 ∷ []) ∷
    []

unfoldable pub plan : Plan
plan = record { accepts = accepts; nexts = nexts }

unfoldable pub waits : List Bool
waits =
    false ∷ false ∷ false ∷ false ∷ false ∷ false ∷ false ∷ false ∷ false ∷ false ∷ false ∷ false ∷ false ∷ false ∷
    []

unfoldable pub relation : List (List Configuration)
relation =
    (at 0 1 0 false 0 0 0 ∷ at 0 3 0 false 0 0 0 ∷ at 1 3 0 false 0 0 0 ∷ at 2 4 0 false 0 0 0 ∷ at 3 1 0 false 0 0 0 ∷ at 4 5 0 false 0 0 0 ∷ at 5 6 0 false 0 0 0 ∷ at 6 7 0 false 0 0 0 ∷ at 7 8 0 false 0 0 0 ∷ at 8 9 0 false 0 0 0 ∷ at 9 10 0 false 0 0 0 ∷ at 10 3 0 false 0 0 0 ∷ at 11 11 0 false 0 0 0 ∷ at 12 5 0 false 0 0 0 ∷ at 13 12 0 false 0 0 0 ∷ at 14 13 0 false 0 0 0 ∷ []) ∷
    (at 1 1 0 true 2 0 0 ∷ at 0 1 0 true 2 0 0 ∷ []) ∷ (at 2 1 0 true 2 0 0 ∷ []) ∷ (at 3 1 0 true 2 0 0 ∷ []) ∷
    (at 4 1 0 true 2 0 0 ∷ []) ∷ (at 5 1 0 true 2 0 0 ∷ at 11 1 0 true 2 0 0 ∷ []) ∷ (at 6 1 0 true 2 0 0 ∷ []) ∷
    (at 7 1 0 true 2 0 0 ∷ []) ∷ (at 8 1 0 true 2 0 0 ∷ []) ∷ (at 9 1 0 true 2 0 0 ∷ []) ∷ (at 10 1 0 true 2 0 0 ∷ []) ∷
    (at 12 1 0 true 2 0 0 ∷ []) ∷ (at 13 1 0 true 2 0 0 ∷ []) ∷ (at 14 1 0 true 2 0 0 ∷ []) ∷
    []

pub rules-are : cluster_rules ≡ numbered_rules
unfolding bits_from pattern_of rows_of cluster_rows cluster_rules numbered_above numbered_below numbered_rules
rules-are = refl

befores-hold-0 : (ss : List Before) (rows : List (List ℕ)) (os : List ℕ) → befores_hold numbered_rules tables 19 ss rows os ≡ true
    → befores_hold numbered_rules tables 19 (befores_0 ss) (moves_0 rows) (owes_0 os) ≡ true
unfolding numbered_above numbered_below numbered_rules befores_0 moves_0 owes_0 befores moves owes dues reads tables once once_number once_flags flow no_flags is_full is_live moved unread moves_on put_on put onto begun owed_rows owed reading read_all read get same_flags same_lives same_pattern same_entries same_due moves_hold befores_hold reads_hold dues_hold append_dues all_below rows_below among ends entered goes_on each_goes configurations_hold configuration_holds relation_holds starts_hold
befores-hold-0 ss rows os h = h

befores-hold : befores_hold numbered_rules tables 19 befores moves owes ≡ true
unfolding befores moves owes befores_hold
befores-hold = befores-hold-0 _ _ _ refl

start-holds : same_before (at_start numbered_rules) (get no_before befores 0) ≡ true
unfolding numbered_above numbered_below numbered_rules befores_0 moves_0 owes_0 befores moves owes dues reads tables once once_number once_flags flow no_flags is_full is_live moved unread moves_on put_on put onto begun owed_rows owed reading read_all read get same_flags same_lives same_pattern same_entries same_due moves_hold befores_hold reads_hold dues_hold append_dues all_below rows_below among ends entered goes_on each_goes configurations_hold configuration_holds relation_holds starts_hold
start-holds = refl

dues-hold : dues_hold numbered_rules tables 19 (append_dues verdicts dues) reads ≡ true
unfolding numbered_above numbered_below numbered_rules befores_0 moves_0 owes_0 befores moves owes dues reads tables once once_number once_flags flow no_flags is_full is_live moved unread moves_on put_on put onto begun owed_rows owed reading read_all read get same_flags same_lives same_pattern same_entries same_due moves_hold befores_hold reads_hold dues_hold append_dues all_below rows_below among ends entered goes_on each_goes configurations_hold configuration_holds relation_holds starts_hold
dues-hold = refl

moves-below : once_number (length befores) (λ many. nat_lt 0 many && rows_below many moves) ≡ true
unfolding numbered_above numbered_below numbered_rules befores_0 moves_0 owes_0 befores moves owes dues reads tables once once_number once_flags flow no_flags is_full is_live moved unread moves_on put_on put onto begun owed_rows owed reading read_all read get same_flags same_lives same_pattern same_entries same_due moves_hold befores_hold reads_hold dues_hold append_dues all_below rows_below among ends entered goes_on each_goes configurations_hold configuration_holds relation_holds starts_hold
moves-below = refl

pub scans-hold : scans_hold numbered_rules tables plan relation ≡ true
unfolding numbered_above numbered_below numbered_rules befores_0 moves_0 owes_0 befores moves owes dues reads tables once once_number once_flags flow no_flags is_full is_live moved unread moves_on put_on put onto begun owed_rows owed reading read_all read get same_flags same_lives same_pattern same_entries same_due moves_hold befores_hold reads_hold dues_hold append_dues all_below rows_below among ends entered goes_on each_goes configurations_hold configuration_holds relation_holds starts_hold accepts nexts plan relation
scans-hold = refl

pub tables-hold : tables_hold numbered_rules 19 tables ≡ true
unfolding tables
tables-hold = and_from _ _ start-holds (and_from _ _ befores-hold (and_from _ _ dues-hold moves-below))
