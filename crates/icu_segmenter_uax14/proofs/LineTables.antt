-- The certificate of the machine of lines: written by line_generator. Do not edit.
use Rattle.std.specs.Prelude.{◌≡◌, ℕ, Bool, true, false, ◌&&◌, nat_lt, List, [], ◌∷◌, length}
use Rattle.std.proofs.Common.{refl}
use Rattle.std.proofs.lemmas.Bool.{and_from}
use Rattle.seg_rules.specs.declared.certificate.Configuration.{Configuration}
use Rattle.seg_rules.specs.declared.rules.Count.TheVariants.{One, Star, Pairs}
use Rattle.seg_rules.specs.RowRules.{Row, RowRules, Before, Marks, Owed, Due, DueOf, at_start, once, once_number, once_flags, flow, no_flags, is_full, is_live, moved, unread, moves_on, put_on, put, onto, begun, owed_rows, owed, reading, read_all, read}
use Rattle.seg_rules.specs.Check.{Plan, Tables, no_before, same_before, verdicts, tables_hold, scans_hold, get, same_flags, same_lives, same_pattern, same_entries, same_due, moves_hold, befores_hold, reads_hold, dues_hold, append_dues, all_below, rows_below, among, ends, entered, goes_on, each_goes, configurations_hold, configuration_holds, relation_holds, starts_hold}
use Rattle.seg_rules.specs.Classes.{bits_from, pattern_of, rows_of}
use Rattle.icu_segmenter_uax14.specs.LineRules.{rows_above_marks, rows_below_marks, line_rules}

abbrev at : (before doubt older : ℕ) (newest : Bool) (last status named : ℕ) → Configuration
at before doubt older newest last status named =
    record { before = before; doubt = doubt; older = older; newest = newest; last = last; status = status; named = named }

-- which rests of a pattern may come next
abbrev live_fftf : List Bool
live_fftf = false ∷ false ∷ true ∷ false ∷ []

abbrev live_ftf : List Bool
live_ftf = false ∷ true ∷ false ∷ []

abbrev live_ftff : List Bool
live_ftff = false ∷ true ∷ false ∷ false ∷ []

abbrev live_t : List Bool
live_t = true ∷ []

abbrev live_tf : List Bool
live_tf = true ∷ false ∷ []

abbrev live_tff : List Bool
live_tff = true ∷ false ∷ false ∷ []

abbrev live_tfff : List Bool
live_tfff = true ∷ false ∷ false ∷ false ∷ []

abbrev live_tffff : List Bool
live_tffff = true ∷ false ∷ false ∷ false ∷ false ∷ []

abbrev live_tfft : List Bool
live_tfft = true ∷ false ∷ false ∷ true ∷ []

abbrev live_tft : List Bool
live_tft = true ∷ false ∷ true ∷ []

abbrev live_tftft : List Bool
live_tftft = true ∷ false ∷ true ∷ false ∷ true ∷ []

abbrev live_tt : List Bool
live_tt = true ∷ true ∷ []

abbrev live_ttf : List Bool
live_ttf = true ∷ true ∷ false ∷ []

abbrev live_ttff : List Bool
live_ttff = true ∷ true ∷ false ∷ false ∷ []

abbrev live_ttftf : List Bool
live_ttftf = true ∷ true ∷ false ∷ true ∷ false ∷ []

abbrev live_ttt : List Bool
live_ttt = true ∷ true ∷ true ∷ []

abbrev live_tttf : List Bool
live_tttf = true ∷ true ∷ true ∷ false ∷ []

abbrev live_tttt : List Bool
live_tttt = true ∷ true ∷ true ∷ true ∷ []

unfoldable pub numbered_above : List Row
numbered_above =
    record { left = (8192, One) ∷ []; right = []; verdict = 2 } ∷
    record { left = (524288, One) ∷ []; right = (70368744177664, One) ∷ []; verdict = 0 } ∷
    record { left = (211106233057280, One) ∷ []; right = []; verdict = 2 } ∷
    record { left = []; right = (211106233065472, One) ∷ []; verdict = 0 } ∷
    record { left = []; right = (2434970217729660813312, One) ∷ []; verdict = 0 } ∷
    record { left = (2361183241434822606848, One) ∷ (73786976294838206464, Star) ∷ []; right = []; verdict = 1 } ∷
    record { left = (4722366482869645213696, One) ∷ []; right = []; verdict = 0 } ∷
    []

unfoldable pub numbered_below : List Row
numbered_below =
    record { left = []; right = (1180591620717411303424, One) ∷ []; verdict = 0 } ∷
    record { left = (1180591620717411303424, One) ∷ []; right = []; verdict = 0 } ∷
    record { left = (100663296, One) ∷ []; right = []; verdict = 0 } ∷
    record { left = (9370945989438546637310, One) ∷ []; right = (100663296, One) ∷ []; verdict = 0 } ∷
    record { left = []; right = (147573952589701939200, One) ∷ []; verdict = 0 } ∷
    record { left = (13510798882111488, One) ∷ (73786976294838206464, Star) ∷ []; right = []; verdict = 0 } ∷
    record { left = (2467265741763868368897, One) ∷ (9223372036854775808, One) ∷ (73786976294838206464, Star) ∷ []; right = []; verdict = 0 } ∷
    record { left = []; right = (18446744073709551616, One) ∷ (3795417808670146011137, One) ∷ []; verdict = 0 } ∷
    record { left = (73786976294838206464, One) ∷ []; right = (4398046511104, One) ∷ (2251799813685248, One) ∷ []; verdict = 1 } ∷
    record { left = []; right = (4398046511104, One) ∷ []; verdict = 0 } ∷
    record { left = (360448, One) ∷ (73786976294838206464, Star) ∷ []; right = (1970324836974592, One) ∷ []; verdict = 0 } ∷
    record { left = (256, One) ∷ (73786976294838206464, Star) ∷ []; right = (256, One) ∷ []; verdict = 0 } ∷
    record { left = (73786976294838206464, One) ∷ []; right = []; verdict = 1 } ∷
    record { left = []; right = (23058430092136939520, One) ∷ []; verdict = 0 } ∷
    record { left = (13835058055282163712, One) ∷ []; right = []; verdict = 0 } ∷
    record { left = (9441659810243579673590, One) ∷ []; right = (32281802128991715328, One) ∷ []; verdict = 0 } ∷
    record { left = []; right = (32281802128991715328, One) ∷ (9441659810243579673591, One) ∷ []; verdict = 0 } ∷
    record { left = (32281802128991715328, One) ∷ []; right = (9441659810243579673590, One) ∷ []; verdict = 0 } ∷
    record { left = (9441659810243579673591, One) ∷ (32281802128991715328, One) ∷ []; right = []; verdict = 0 } ∷
    record { left = []; right = (16384, One) ∷ []; verdict = 1 } ∷
    record { left = (16384, One) ∷ []; right = []; verdict = 1 } ∷
    record { left = (2434970428835994558465, One) ∷ (4831838208, One) ∷ []; right = (2147483706, One) ∷ []; verdict = 0 } ∷
    record { left = (266287972352, One) ∷ []; right = (1073743872, One) ∷ []; verdict = 1 } ∷
    record { left = []; right = (1970330742558208, One) ∷ []; verdict = 0 } ∷
    record { left = (4096, One) ∷ []; right = []; verdict = 0 } ∷
    record { left = (2147483648, One) ∷ (5905580032, One) ∷ []; right = (9444732965737142943742, One) ∷ []; verdict = 0 } ∷
    record { left = (147573952589676412928, One) ∷ []; right = (2147483648, One) ∷ []; verdict = 0 } ∷
    record { left = (3298534883328, One) ∷ []; right = (3298534883328, One) ∷ []; verdict = 1 } ∷
    record { left = []; right = (4123168604160, One) ∷ []; verdict = 0 } ∷
    record { left = []; right = (216172782113783808, One) ∷ []; verdict = 1 } ∷
    record { left = (3458764513820540928, One) ∷ []; right = []; verdict = 1 } ∷
    record { left = (2252008119599162, One) ∷ []; right = (206158430208, One) ∷ []; verdict = 0 } ∷
    record { left = (1126106065272832, One) ∷ []; right = (2252008119599162, One) ∷ []; verdict = 0 } ∷
    record { left = (2147483706, One) ∷ []; right = (2251799813685248, One) ∷ []; verdict = 0 } ∷
    record { left = (2251799813685248, One) ∷ []; right = (2147483706, One) ∷ []; verdict = 0 } ∷
    record { left = (4323455642275676160, One) ∷ []; right = (266295312384, One) ∷ []; verdict = 0 } ∷
    record { left = (266295312384, One) ∷ []; right = (270215977642229760, One) ∷ []; verdict = 0 } ∷
    record { left = (4593671619917905920, One) ∷ []; right = (2147483706, One) ∷ []; verdict = 0 } ∷
    record { left = (2147483706, One) ∷ []; right = (4593671619917905920, One) ∷ []; verdict = 0 } ∷
    record { left = (2251799813685248, One) ∷ (147573956987722924032, Star) ∷ (98304, One) ∷ []; right = (270215977642229760, One) ∷ []; verdict = 0 } ∷
    record { left = (2251799813685248, One) ∷ (147573956987722924032, Star) ∷ (262144, One) ∷ []; right = (270215977642229760, One) ∷ []; verdict = 0 } ∷
    record { left = (2251799813685248, One) ∷ (147573956987722924032, Star) ∷ (98304, One) ∷ []; right = (4323455642275676160, One) ∷ []; verdict = 0 } ∷
    record { left = (2251799813685248, One) ∷ (147573956987722924032, Star) ∷ (262144, One) ∷ []; right = (4323455642275676160, One) ∷ []; verdict = 0 } ∷
    record { left = (2251799813685248, One) ∷ (147573956987722924032, Star) ∷ []; right = (270215977642229760, One) ∷ []; verdict = 0 } ∷
    record { left = (2251799813685248, One) ∷ (147573956987722924032, Star) ∷ []; right = (4323455642275676160, One) ∷ []; verdict = 0 } ∷
    record { left = (270215977642229760, One) ∷ []; right = (13510798882111488, One) ∷ (2251799813685248, One) ∷ []; verdict = 0 } ∷
    record { left = (270215977642229760, One) ∷ []; right = (13510798882111488, One) ∷ (4398046511104, One) ∷ (2251799813685248, One) ∷ []; verdict = 0 } ∷
    record { left = (270215977642229760, One) ∷ []; right = (2251799813685248, One) ∷ []; verdict = 0 } ∷
    record { left = (4323455642275676160, One) ∷ []; right = (13510798882111488, One) ∷ (2251799813685248, One) ∷ []; verdict = 0 } ∷
    record { left = (4323455642275676160, One) ∷ []; right = (13510798882111488, One) ∷ (4398046511104, One) ∷ (2251799813685248, One) ∷ []; verdict = 0 } ∷
    record { left = (4323455642275676160, One) ∷ []; right = (2251799813685248, One) ∷ []; verdict = 0 } ∷
    record { left = (4294967296, One) ∷ []; right = (2251799813685248, One) ∷ []; verdict = 0 } ∷
    record { left = (4398046511104, One) ∷ []; right = (2251799813685248, One) ∷ []; verdict = 0 } ∷
    record { left = (2251799813685248, One) ∷ (147573956987722924032, Star) ∷ []; right = (2251799813685248, One) ∷ []; verdict = 0 } ∷
    record { left = (8796093022208, One) ∷ []; right = (43980867764224, One) ∷ []; verdict = 0 } ∷
    record { left = (35184506306560, One) ∷ []; right = (52776558133248, One) ∷ []; verdict = 0 } ∷
    record { left = (17592454479872, One) ∷ []; right = (17592186044416, One) ∷ []; verdict = 0 } ∷
    record { left = (61573053808640, One) ∷ []; right = (270215977642229760, One) ∷ []; verdict = 0 } ∷
    record { left = (4323455642275676160, One) ∷ []; right = (61573053808640, One) ∷ []; verdict = 0 } ∷
    record { left = (2147483706, One) ∷ []; right = (2147483706, One) ∷ []; verdict = 0 } ∷
    record { left = (64, One) ∷ []; right = (164, One) ∷ []; verdict = 0 } ∷
    record { left = (164, One) ∷ []; right = (885443715538058477568, One) ∷ []; verdict = 0 } ∷
    record { left = (164, One) ∷ (590295810358705651712, One) ∷ []; right = (36, One) ∷ []; verdict = 0 } ∷
    record { left = (164, One) ∷ []; right = (164, One) ∷ (295147905179352825856, One) ∷ []; verdict = 0 } ∷
    record { left = (4398046511104, One) ∷ []; right = (2147483706, One) ∷ []; verdict = 0 } ∷
    record { left = (2251801961168954, One) ∷ []; right = (4503599627370496, One) ∷ []; verdict = 0 } ∷
    record { left = (262144, One) ∷ []; right = (2251801961168954, One) ∷ []; verdict = 0 } ∷
    record { left = (1, One) ∷ (36893488147419103232, Pairs) ∷ (36893488147419103232, One) ∷ []; right = (36893488147419103232, One) ∷ []; verdict = 0 } ∷
    record { left = (9407839477591871324158, One) ∷ (36893488147419103232, Pairs) ∷ (36893488147419103232, One) ∷ []; right = (36893488147419103232, One) ∷ []; verdict = 0 } ∷
    record { left = (3145728, One) ∷ []; right = (4194304, One) ∷ []; verdict = 0 } ∷
    record { left = (34359738384, One) ∷ []; right = (4194304, One) ∷ []; verdict = 0 } ∷
    record { left = []; right = []; verdict = 1 } ∷
    []

unfoldable pub numbered_rules : RowRules
numbered_rules = record {
  above = numbered_above;
  below = numbered_below;
  has_marks = true;
  marks = 4722366482869645344768;
  bare = 2434970428835893878784;
  alone = 1;
  at_end = 1;
}

unfoldable pub befores_0 : List (Before) → List (Before)
befores_0 rest =
    record { above = live_tf ∷ live_tf ∷ live_tf ∷ live_t ∷ live_t ∷ live_tff ∷ live_tf ∷ []; below = live_t ∷ live_tf ∷ live_tf ∷ live_tf ∷ live_t ∷ live_tff ∷ live_ttff ∷ live_t ∷ live_tf ∷ live_t ∷ live_tff ∷ live_tff ∷ live_tf ∷ live_t ∷ live_tf ∷ live_tf ∷ live_t ∷ live_tf ∷ live_ttf ∷ live_t ∷ live_tf ∷ live_ttf ∷ live_tf ∷ live_t ∷ live_tf ∷ live_tff ∷ live_tf ∷ live_tf ∷ live_t ∷ live_t ∷ live_tf ∷ live_tf ∷ live_tf ∷ live_tf ∷ live_tf ∷ live_tf ∷ live_tf ∷ live_tf ∷ live_tf ∷ live_tfff ∷ live_tfff ∷ live_tfff ∷ live_tfff ∷ live_tff ∷ live_tff ∷ live_tf ∷ live_tf ∷ live_tf ∷ live_tf ∷ live_tf ∷ live_tf ∷ live_tf ∷ live_tf ∷ live_tff ∷ live_tf ∷ live_tf ∷ live_tf ∷ live_tf ∷ live_tf ∷ live_tf ∷ live_tf ∷ live_tf ∷ live_tff ∷ live_tf ∷ live_tf ∷ live_tf ∷ live_tf ∷ live_ttftf ∷ live_tffff ∷ live_tf ∷ live_tf ∷ live_t ∷ []; glues = false } ∷
    record { above = live_tf ∷ live_tf ∷ live_tf ∷ live_t ∷ live_t ∷ live_tff ∷ live_tf ∷ []; below = live_t ∷ live_tf ∷ live_tf ∷ live_tt ∷ live_t ∷ live_tff ∷ live_tfff ∷ live_t ∷ live_tf ∷ live_t ∷ live_tff ∷ live_tff ∷ live_tf ∷ live_t ∷ live_tf ∷ live_tt ∷ live_t ∷ live_tf ∷ live_ttf ∷ live_t ∷ live_tf ∷ live_tff ∷ live_tf ∷ live_t ∷ live_tf ∷ live_tff ∷ live_tf ∷ live_tf ∷ live_t ∷ live_t ∷ live_tf ∷ live_tt ∷ live_tf ∷ live_tt ∷ live_tf ∷ live_tf ∷ live_tf ∷ live_tf ∷ live_tt ∷ live_tfff ∷ live_tfff ∷ live_tfff ∷ live_tfff ∷ live_tff ∷ live_tff ∷ live_tf ∷ live_tf ∷ live_tf ∷ live_tf ∷ live_tf ∷ live_tf ∷ live_tf ∷ live_tf ∷ live_tff ∷ live_tf ∷ live_tf ∷ live_tf ∷ live_tf ∷ live_tf ∷ live_tt ∷ live_tf ∷ live_tf ∷ live_tff ∷ live_tf ∷ live_tf ∷ live_tt ∷ live_tf ∷ live_tffff ∷ live_ttftf ∷ live_tf ∷ live_tf ∷ live_t ∷ []; glues = true } ∷
    record { above = live_tf ∷ live_tf ∷ live_tf ∷ live_t ∷ live_t ∷ live_tff ∷ live_tf ∷ []; below = live_t ∷ live_tf ∷ live_tf ∷ live_tt ∷ live_t ∷ live_tff ∷ live_tfff ∷ live_t ∷ live_tf ∷ live_t ∷ live_tff ∷ live_tff ∷ live_tf ∷ live_t ∷ live_tf ∷ live_tt ∷ live_t ∷ live_tf ∷ live_ttf ∷ live_t ∷ live_tf ∷ live_tff ∷ live_tf ∷ live_t ∷ live_tf ∷ live_tff ∷ live_tf ∷ live_tf ∷ live_t ∷ live_t ∷ live_tf ∷ live_tf ∷ live_tf ∷ live_tf ∷ live_tf ∷ live_tf ∷ live_tf ∷ live_tf ∷ live_tf ∷ live_tfff ∷ live_tfff ∷ live_tfff ∷ live_tfff ∷ live_tff ∷ live_tff ∷ live_tf ∷ live_tf ∷ live_tf ∷ live_tf ∷ live_tf ∷ live_tf ∷ live_tf ∷ live_tf ∷ live_tff ∷ live_tf ∷ live_tf ∷ live_tf ∷ live_tf ∷ live_tf ∷ live_tf ∷ live_tf ∷ live_tt ∷ live_ttf ∷ live_tt ∷ live_tf ∷ live_tf ∷ live_tf ∷ live_tffff ∷ live_ttftf ∷ live_tf ∷ live_tf ∷ live_t ∷ []; glues = true } ∷
    record { above = live_tf ∷ live_tf ∷ live_tf ∷ live_t ∷ live_t ∷ live_tff ∷ live_tf ∷ []; below = live_t ∷ live_tf ∷ live_tf ∷ live_tt ∷ live_t ∷ live_tff ∷ live_tfff ∷ live_t ∷ live_tf ∷ live_t ∷ live_tff ∷ live_tff ∷ live_tf ∷ live_t ∷ live_tf ∷ live_tf ∷ live_t ∷ live_tf ∷ live_tff ∷ live_t ∷ live_tf ∷ live_tff ∷ live_tf ∷ live_t ∷ live_tf ∷ live_tff ∷ live_tf ∷ live_tf ∷ live_t ∷ live_t ∷ live_tf ∷ live_tt ∷ live_tf ∷ live_tt ∷ live_tf ∷ live_tf ∷ live_tf ∷ live_tf ∷ live_tt ∷ live_tfff ∷ live_tfff ∷ live_tfff ∷ live_tfff ∷ live_tff ∷ live_tff ∷ live_tf ∷ live_tf ∷ live_tf ∷ live_tf ∷ live_tf ∷ live_tf ∷ live_tf ∷ live_tf ∷ live_tff ∷ live_tf ∷ live_tf ∷ live_tf ∷ live_tf ∷ live_tf ∷ live_tt ∷ live_tf ∷ live_tf ∷ live_tff ∷ live_tf ∷ live_tf ∷ live_tt ∷ live_tf ∷ live_tffff ∷ live_ttftf ∷ live_tf ∷ live_tf ∷ live_t ∷ []; glues = true } ∷
    record { above = live_tf ∷ live_tf ∷ live_tf ∷ live_t ∷ live_t ∷ live_tff ∷ live_tf ∷ []; below = live_t ∷ live_tf ∷ live_tf ∷ live_tt ∷ live_t ∷ live_tff ∷ live_tfff ∷ live_t ∷ live_tf ∷ live_t ∷ live_tff ∷ live_tff ∷ live_tf ∷ live_t ∷ live_tf ∷ live_tt ∷ live_t ∷ live_tf ∷ live_ttf ∷ live_t ∷ live_tf ∷ live_tff ∷ live_tf ∷ live_t ∷ live_tf ∷ live_tff ∷ live_tf ∷ live_tf ∷ live_t ∷ live_t ∷ live_tf ∷ live_tt ∷ live_tf ∷ live_tt ∷ live_tf ∷ live_tf ∷ live_tf ∷ live_tf ∷ live_tt ∷ live_tfff ∷ live_tfff ∷ live_tfff ∷ live_tfff ∷ live_tff ∷ live_tff ∷ live_tf ∷ live_tf ∷ live_tf ∷ live_tf ∷ live_tf ∷ live_tf ∷ live_tf ∷ live_tf ∷ live_tff ∷ live_tf ∷ live_tf ∷ live_tf ∷ live_tf ∷ live_tf ∷ live_tt ∷ live_tf ∷ live_tf ∷ live_tff ∷ live_tf ∷ live_tf ∷ live_tt ∷ live_tf ∷ live_tffff ∷ live_ttftf ∷ live_tf ∷ live_tt ∷ live_t ∷ []; glues = true } ∷
    record { above = live_tf ∷ live_tf ∷ live_tf ∷ live_t ∷ live_t ∷ live_tff ∷ live_tf ∷ []; below = live_t ∷ live_tf ∷ live_tf ∷ live_tt ∷ live_t ∷ live_tff ∷ live_tfff ∷ live_t ∷ live_tf ∷ live_t ∷ live_tff ∷ live_tff ∷ live_tf ∷ live_t ∷ live_tf ∷ live_tt ∷ live_t ∷ live_tf ∷ live_ttf ∷ live_t ∷ live_tf ∷ live_tff ∷ live_tf ∷ live_t ∷ live_tf ∷ live_tff ∷ live_tf ∷ live_tf ∷ live_t ∷ live_t ∷ live_tf ∷ live_tt ∷ live_tf ∷ live_tt ∷ live_tf ∷ live_tf ∷ live_tf ∷ live_tf ∷ live_tt ∷ live_tfff ∷ live_tfff ∷ live_tfff ∷ live_tfff ∷ live_tff ∷ live_tff ∷ live_tf ∷ live_tf ∷ live_tf ∷ live_tf ∷ live_tf ∷ live_tf ∷ live_tf ∷ live_tf ∷ live_tff ∷ live_tf ∷ live_tf ∷ live_tf ∷ live_tf ∷ live_tf ∷ live_tt ∷ live_tf ∷ live_tt ∷ live_ttf ∷ live_tt ∷ live_tf ∷ live_tt ∷ live_tf ∷ live_tffff ∷ live_ttftf ∷ live_tf ∷ live_tf ∷ live_t ∷ []; glues = true } ∷
    record { above = live_tf ∷ live_tf ∷ live_tf ∷ live_t ∷ live_t ∷ live_tff ∷ live_tf ∷ []; below = live_t ∷ live_tf ∷ live_tf ∷ live_tt ∷ live_t ∷ live_tff ∷ live_tfff ∷ live_t ∷ live_tf ∷ live_t ∷ live_tff ∷ live_tff ∷ live_tf ∷ live_t ∷ live_tf ∷ live_tt ∷ live_t ∷ live_tf ∷ live_ttf ∷ live_t ∷ live_tf ∷ live_tff ∷ live_tf ∷ live_t ∷ live_tf ∷ live_tff ∷ live_tf ∷ live_tf ∷ live_t ∷ live_t ∷ live_tf ∷ live_tf ∷ live_tf ∷ live_tf ∷ live_tf ∷ live_tf ∷ live_tf ∷ live_tf ∷ live_tf ∷ live_tfff ∷ live_tfff ∷ live_tfff ∷ live_tfff ∷ live_tff ∷ live_tff ∷ live_tf ∷ live_tf ∷ live_tf ∷ live_tf ∷ live_tf ∷ live_tf ∷ live_tf ∷ live_tf ∷ live_tff ∷ live_tf ∷ live_tf ∷ live_tf ∷ live_tf ∷ live_tf ∷ live_tf ∷ live_tt ∷ live_tf ∷ live_tff ∷ live_tf ∷ live_tf ∷ live_tf ∷ live_tf ∷ live_tffff ∷ live_ttftf ∷ live_tf ∷ live_tf ∷ live_t ∷ []; glues = true } ∷
    record { above = live_tf ∷ live_tf ∷ live_tf ∷ live_t ∷ live_t ∷ live_tff ∷ live_tf ∷ []; below = live_t ∷ live_tf ∷ live_tf ∷ live_tt ∷ live_t ∷ live_tff ∷ live_tfff ∷ live_t ∷ live_tf ∷ live_t ∷ live_tff ∷ live_ttt ∷ live_tf ∷ live_t ∷ live_tf ∷ live_tt ∷ live_t ∷ live_tf ∷ live_ttf ∷ live_t ∷ live_tf ∷ live_tff ∷ live_tf ∷ live_t ∷ live_tf ∷ live_tff ∷ live_tf ∷ live_tf ∷ live_t ∷ live_t ∷ live_tf ∷ live_tf ∷ live_tf ∷ live_tf ∷ live_tf ∷ live_tf ∷ live_tf ∷ live_tf ∷ live_tf ∷ live_tfff ∷ live_tfff ∷ live_tfff ∷ live_tfff ∷ live_tff ∷ live_tff ∷ live_tf ∷ live_tf ∷ live_tf ∷ live_tf ∷ live_tf ∷ live_tf ∷ live_tf ∷ live_tf ∷ live_tff ∷ live_tf ∷ live_tf ∷ live_tf ∷ live_tf ∷ live_tf ∷ live_tf ∷ live_tf ∷ live_tf ∷ live_tff ∷ live_tf ∷ live_tf ∷ live_tf ∷ live_tf ∷ live_tffff ∷ live_ttftf ∷ live_tf ∷ live_tf ∷ live_t ∷ []; glues = true } ∷
    record { above = live_tf ∷ live_tf ∷ live_tf ∷ live_t ∷ live_t ∷ live_tff ∷ live_tf ∷ []; below = live_t ∷ live_tf ∷ live_tf ∷ live_tf ∷ live_t ∷ live_tff ∷ live_tfff ∷ live_t ∷ live_tf ∷ live_t ∷ live_tff ∷ live_tff ∷ live_tf ∷ live_t ∷ live_tf ∷ live_tt ∷ live_t ∷ live_tf ∷ live_ttf ∷ live_t ∷ live_tf ∷ live_tff ∷ live_tf ∷ live_t ∷ live_tf ∷ live_tff ∷ live_tf ∷ live_tf ∷ live_t ∷ live_t ∷ live_tf ∷ live_tf ∷ live_tf ∷ live_tf ∷ live_tf ∷ live_tf ∷ live_tf ∷ live_tf ∷ live_tf ∷ live_tfff ∷ live_tfff ∷ live_tfff ∷ live_tfff ∷ live_tff ∷ live_tff ∷ live_tf ∷ live_tf ∷ live_tf ∷ live_tf ∷ live_tf ∷ live_tf ∷ live_tf ∷ live_tf ∷ live_tff ∷ live_tf ∷ live_tf ∷ live_tf ∷ live_tf ∷ live_tf ∷ live_tf ∷ live_tf ∷ live_tf ∷ live_tff ∷ live_tf ∷ live_tf ∷ live_tf ∷ live_tf ∷ live_tffff ∷ live_ttftf ∷ live_tf ∷ live_tf ∷ live_t ∷ []; glues = true } ∷
    record { above = live_tf ∷ live_tf ∷ live_tf ∷ live_t ∷ live_t ∷ live_tff ∷ live_tf ∷ []; below = live_t ∷ live_tf ∷ live_tf ∷ live_tf ∷ live_t ∷ live_tff ∷ live_tfff ∷ live_t ∷ live_tf ∷ live_t ∷ live_tff ∷ live_tff ∷ live_tf ∷ live_t ∷ live_tf ∷ live_tf ∷ live_t ∷ live_tf ∷ live_tff ∷ live_t ∷ live_tf ∷ live_tff ∷ live_tf ∷ live_t ∷ live_tf ∷ live_tff ∷ live_tf ∷ live_tf ∷ live_t ∷ live_t ∷ live_tf ∷ live_tf ∷ live_tf ∷ live_tf ∷ live_tf ∷ live_tf ∷ live_tf ∷ live_tf ∷ live_tf ∷ live_tfff ∷ live_tfff ∷ live_tfff ∷ live_tfff ∷ live_tff ∷ live_tff ∷ live_tf ∷ live_tf ∷ live_tf ∷ live_tf ∷ live_tf ∷ live_tf ∷ live_tf ∷ live_tf ∷ live_tff ∷ live_tf ∷ live_tf ∷ live_tf ∷ live_tf ∷ live_tf ∷ live_tf ∷ live_tf ∷ live_tf ∷ live_tff ∷ live_tf ∷ live_tf ∷ live_tf ∷ live_tf ∷ live_tffff ∷ live_ttftf ∷ live_tf ∷ live_tf ∷ live_t ∷ []; glues = true } ∷
    record { above = live_tf ∷ live_tf ∷ live_tf ∷ live_t ∷ live_t ∷ live_tff ∷ live_tf ∷ []; below = live_t ∷ live_tf ∷ live_tf ∷ live_tt ∷ live_t ∷ live_tff ∷ live_tfff ∷ live_t ∷ live_tf ∷ live_t ∷ live_tff ∷ live_tff ∷ live_tf ∷ live_t ∷ live_tf ∷ live_tt ∷ live_t ∷ live_tf ∷ live_ttf ∷ live_t ∷ live_tf ∷ live_tff ∷ live_tf ∷ live_t ∷ live_tt ∷ live_tff ∷ live_tf ∷ live_tf ∷ live_t ∷ live_t ∷ live_tf ∷ live_tf ∷ live_tf ∷ live_tf ∷ live_tf ∷ live_tf ∷ live_tf ∷ live_tf ∷ live_tf ∷ live_tfff ∷ live_tfff ∷ live_tfff ∷ live_tfff ∷ live_tff ∷ live_tff ∷ live_tf ∷ live_tf ∷ live_tf ∷ live_tf ∷ live_tf ∷ live_tf ∷ live_tf ∷ live_tf ∷ live_tff ∷ live_tf ∷ live_tf ∷ live_tf ∷ live_tf ∷ live_tf ∷ live_tf ∷ live_tf ∷ live_tf ∷ live_tff ∷ live_tf ∷ live_tf ∷ live_tf ∷ live_tf ∷ live_tffff ∷ live_ttftf ∷ live_tf ∷ live_tf ∷ live_t ∷ []; glues = true } ∷
    record { above = live_tt ∷ live_tf ∷ live_tf ∷ live_t ∷ live_t ∷ live_tff ∷ live_tf ∷ []; below = live_t ∷ live_tf ∷ live_tf ∷ live_tt ∷ live_t ∷ live_tff ∷ live_ttff ∷ live_t ∷ live_tf ∷ live_t ∷ live_tff ∷ live_tff ∷ live_tf ∷ live_t ∷ live_tf ∷ live_tt ∷ live_t ∷ live_tf ∷ live_ttf ∷ live_t ∷ live_tf ∷ live_ttf ∷ live_tf ∷ live_t ∷ live_tf ∷ live_tff ∷ live_tf ∷ live_tf ∷ live_t ∷ live_t ∷ live_tf ∷ live_tf ∷ live_tf ∷ live_tf ∷ live_tf ∷ live_tf ∷ live_tf ∷ live_tf ∷ live_tf ∷ live_tfff ∷ live_tfff ∷ live_tfff ∷ live_tfff ∷ live_tff ∷ live_tff ∷ live_tf ∷ live_tf ∷ live_tf ∷ live_tf ∷ live_tf ∷ live_tf ∷ live_tf ∷ live_tf ∷ live_tff ∷ live_tf ∷ live_tf ∷ live_tf ∷ live_tf ∷ live_tf ∷ live_tf ∷ live_tf ∷ live_tf ∷ live_tff ∷ live_tf ∷ live_tf ∷ live_tf ∷ live_tf ∷ live_tffff ∷ live_ttftf ∷ live_tf ∷ live_tf ∷ live_t ∷ []; glues = false } ∷
    record { above = live_tf ∷ live_tf ∷ live_tf ∷ live_t ∷ live_t ∷ live_tff ∷ live_tf ∷ []; below = live_t ∷ live_tf ∷ live_tf ∷ live_tt ∷ live_t ∷ live_tff ∷ live_tfff ∷ live_t ∷ live_tf ∷ live_t ∷ live_tff ∷ live_tff ∷ live_tf ∷ live_t ∷ live_tf ∷ live_tt ∷ live_t ∷ live_tf ∷ live_ttf ∷ live_t ∷ live_tt ∷ live_ttf ∷ live_tf ∷ live_t ∷ live_tf ∷ live_tff ∷ live_tf ∷ live_tf ∷ live_t ∷ live_t ∷ live_tf ∷ live_tf ∷ live_tf ∷ live_tf ∷ live_tf ∷ live_tf ∷ live_tf ∷ live_tf ∷ live_tf ∷ live_tfff ∷ live_tfff ∷ live_tfff ∷ live_tfff ∷ live_tff ∷ live_tff ∷ live_tf ∷ live_tf ∷ live_tf ∷ live_tf ∷ live_tf ∷ live_tf ∷ live_tf ∷ live_tf ∷ live_tff ∷ live_tf ∷ live_tf ∷ live_tf ∷ live_tf ∷ live_tf ∷ live_tf ∷ live_tf ∷ live_tf ∷ live_tff ∷ live_tf ∷ live_tf ∷ live_tf ∷ live_tf ∷ live_tffff ∷ live_ttftf ∷ live_tf ∷ live_tf ∷ live_t ∷ []; glues = true } ∷
    record { above = live_tf ∷ live_tf ∷ live_tf ∷ live_t ∷ live_t ∷ live_tff ∷ live_tf ∷ []; below = live_t ∷ live_tf ∷ live_tf ∷ live_tt ∷ live_t ∷ live_tff ∷ live_tfff ∷ live_t ∷ live_tf ∷ live_t ∷ live_ttt ∷ live_tff ∷ live_tf ∷ live_t ∷ live_tf ∷ live_tt ∷ live_t ∷ live_tf ∷ live_ttf ∷ live_t ∷ live_tf ∷ live_tff ∷ live_tf ∷ live_t ∷ live_tf ∷ live_tff ∷ live_tf ∷ live_tf ∷ live_t ∷ live_t ∷ live_tf ∷ live_tf ∷ live_tf ∷ live_tf ∷ live_tf ∷ live_tf ∷ live_tf ∷ live_tf ∷ live_tf ∷ live_tfff ∷ live_tfff ∷ live_tfff ∷ live_tfff ∷ live_tff ∷ live_tff ∷ live_tf ∷ live_tf ∷ live_tf ∷ live_tf ∷ live_tf ∷ live_tf ∷ live_tf ∷ live_tf ∷ live_tff ∷ live_tf ∷ live_tf ∷ live_tf ∷ live_tf ∷ live_tf ∷ live_tf ∷ live_tf ∷ live_tf ∷ live_tff ∷ live_tf ∷ live_tf ∷ live_tf ∷ live_tf ∷ live_tffff ∷ live_ttftf ∷ live_tf ∷ live_tf ∷ live_t ∷ []; glues = true } ∷
    record { above = live_tf ∷ live_tf ∷ live_tf ∷ live_t ∷ live_t ∷ live_tff ∷ live_tf ∷ []; below = live_t ∷ live_tf ∷ live_tf ∷ live_tt ∷ live_t ∷ live_tff ∷ live_tfff ∷ live_t ∷ live_tf ∷ live_t ∷ live_ttt ∷ live_tff ∷ live_tf ∷ live_t ∷ live_tf ∷ live_tf ∷ live_t ∷ live_tf ∷ live_tff ∷ live_t ∷ live_tf ∷ live_tff ∷ live_tf ∷ live_t ∷ live_tf ∷ live_tff ∷ live_tf ∷ live_tf ∷ live_t ∷ live_t ∷ live_tf ∷ live_tf ∷ live_tf ∷ live_tf ∷ live_tf ∷ live_tf ∷ live_tf ∷ live_tf ∷ live_tf ∷ live_tfff ∷ live_tfff ∷ live_tfff ∷ live_tfff ∷ live_tff ∷ live_tff ∷ live_tf ∷ live_tf ∷ live_tf ∷ live_tf ∷ live_tf ∷ live_tf ∷ live_tf ∷ live_tf ∷ live_tff ∷ live_tf ∷ live_tf ∷ live_tf ∷ live_tf ∷ live_tf ∷ live_tf ∷ live_tf ∷ live_tf ∷ live_tff ∷ live_tf ∷ live_tf ∷ live_tf ∷ live_tf ∷ live_tffff ∷ live_ttftf ∷ live_tf ∷ live_tf ∷ live_t ∷ []; glues = true } ∷
    record { above = live_tf ∷ live_tf ∷ live_tf ∷ live_t ∷ live_t ∷ live_tff ∷ live_tf ∷ []; below = live_t ∷ live_tf ∷ live_tf ∷ live_tt ∷ live_t ∷ live_tff ∷ live_tfff ∷ live_t ∷ live_tf ∷ live_t ∷ live_ttt ∷ live_tff ∷ live_tf ∷ live_t ∷ live_tf ∷ live_tt ∷ live_t ∷ live_tf ∷ live_ttf ∷ live_t ∷ live_tf ∷ live_tff ∷ live_tf ∷ live_t ∷ live_tf ∷ live_tff ∷ live_tf ∷ live_tf ∷ live_t ∷ live_t ∷ live_tf ∷ live_tf ∷ live_tf ∷ live_tf ∷ live_tf ∷ live_tf ∷ live_tf ∷ live_tf ∷ live_tf ∷ live_tfff ∷ live_tfff ∷ live_tfff ∷ live_tfff ∷ live_tff ∷ live_tff ∷ live_tf ∷ live_tf ∷ live_tf ∷ live_tf ∷ live_tf ∷ live_tf ∷ live_tf ∷ live_tf ∷ live_tff ∷ live_tf ∷ live_tf ∷ live_tf ∷ live_tf ∷ live_tf ∷ live_tf ∷ live_tf ∷ live_tf ∷ live_tff ∷ live_tf ∷ live_tf ∷ live_tf ∷ live_tt ∷ live_tffff ∷ live_ttftf ∷ live_tf ∷ live_tf ∷ live_t ∷ []; glues = true } ∷
    record { above = live_tf ∷ live_tt ∷ live_tt ∷ live_t ∷ live_t ∷ live_tff ∷ live_tf ∷ []; below = live_t ∷ live_tf ∷ live_tf ∷ live_tt ∷ live_t ∷ live_tff ∷ live_ttff ∷ live_t ∷ live_tf ∷ live_t ∷ live_tff ∷ live_tff ∷ live_tf ∷ live_t ∷ live_tf ∷ live_tt ∷ live_t ∷ live_tf ∷ live_ttf ∷ live_t ∷ live_tf ∷ live_ttf ∷ live_tf ∷ live_t ∷ live_tf ∷ live_tff ∷ live_tf ∷ live_tf ∷ live_t ∷ live_t ∷ live_tf ∷ live_tf ∷ live_tf ∷ live_tf ∷ live_tf ∷ live_tf ∷ live_tf ∷ live_tf ∷ live_tf ∷ live_tfff ∷ live_tfff ∷ live_tfff ∷ live_tfff ∷ live_tff ∷ live_tff ∷ live_tf ∷ live_tf ∷ live_tf ∷ live_tf ∷ live_tf ∷ live_tf ∷ live_tf ∷ live_tf ∷ live_tff ∷ live_tf ∷ live_tf ∷ live_tf ∷ live_tf ∷ live_tf ∷ live_tf ∷ live_tf ∷ live_tf ∷ live_tff ∷ live_tf ∷ live_tf ∷ live_tf ∷ live_tf ∷ live_tffff ∷ live_ttftf ∷ live_tf ∷ live_tf ∷ live_t ∷ []; glues = false } ∷
    record { above = live_tf ∷ live_tf ∷ live_tf ∷ live_t ∷ live_t ∷ live_tff ∷ live_tf ∷ []; below = live_t ∷ live_tf ∷ live_tf ∷ live_tt ∷ live_t ∷ live_tff ∷ live_tfff ∷ live_t ∷ live_tf ∷ live_t ∷ live_tff ∷ live_tff ∷ live_tf ∷ live_t ∷ live_tf ∷ live_tt ∷ live_t ∷ live_tf ∷ live_ttf ∷ live_t ∷ live_tf ∷ live_tff ∷ live_tf ∷ live_t ∷ live_tf ∷ live_tff ∷ live_tf ∷ live_tf ∷ live_t ∷ live_t ∷ live_tf ∷ live_tf ∷ live_tf ∷ live_tf ∷ live_tf ∷ live_tf ∷ live_tt ∷ live_tf ∷ live_tf ∷ live_tfff ∷ live_tfff ∷ live_tfff ∷ live_tfff ∷ live_tff ∷ live_tff ∷ live_tf ∷ live_tf ∷ live_tf ∷ live_tf ∷ live_tf ∷ live_tf ∷ live_tf ∷ live_tf ∷ live_tff ∷ live_tf ∷ live_tf ∷ live_tf ∷ live_tf ∷ live_tf ∷ live_tf ∷ live_tf ∷ live_tf ∷ live_tff ∷ live_tf ∷ live_tf ∷ live_tf ∷ live_tf ∷ live_tffff ∷ live_ttftf ∷ live_tt ∷ live_tf ∷ live_t ∷ []; glues = true } ∷
    record { above = live_tf ∷ live_tf ∷ live_tf ∷ live_t ∷ live_t ∷ live_tff ∷ live_tf ∷ []; below = live_t ∷ live_tf ∷ live_tf ∷ live_tt ∷ live_t ∷ live_tff ∷ live_tfff ∷ live_t ∷ live_tf ∷ live_t ∷ live_tff ∷ live_tff ∷ live_tf ∷ live_t ∷ live_tf ∷ live_tf ∷ live_t ∷ live_tf ∷ live_tff ∷ live_t ∷ live_tf ∷ live_tff ∷ live_tf ∷ live_t ∷ live_tf ∷ live_tff ∷ live_tf ∷ live_tf ∷ live_t ∷ live_t ∷ live_tf ∷ live_tf ∷ live_tf ∷ live_tf ∷ live_tf ∷ live_tf ∷ live_tt ∷ live_tf ∷ live_tf ∷ live_tfff ∷ live_tfff ∷ live_tfff ∷ live_tfff ∷ live_tff ∷ live_tff ∷ live_tf ∷ live_tf ∷ live_tf ∷ live_tf ∷ live_tf ∷ live_tf ∷ live_tf ∷ live_tf ∷ live_tff ∷ live_tf ∷ live_tf ∷ live_tf ∷ live_tf ∷ live_tf ∷ live_tf ∷ live_tf ∷ live_tf ∷ live_tff ∷ live_tf ∷ live_tf ∷ live_tf ∷ live_tf ∷ live_tffff ∷ live_ttftf ∷ live_tt ∷ live_tf ∷ live_t ∷ []; glues = true } ∷
    record { above = live_tf ∷ live_tf ∷ live_tf ∷ live_t ∷ live_t ∷ live_tff ∷ live_tf ∷ []; below = live_t ∷ live_tf ∷ live_tf ∷ live_tt ∷ live_t ∷ live_tff ∷ live_tfff ∷ live_t ∷ live_tf ∷ live_t ∷ live_tff ∷ live_tff ∷ live_tf ∷ live_t ∷ live_tf ∷ live_tf ∷ live_t ∷ live_tf ∷ live_tff ∷ live_t ∷ live_tf ∷ live_tff ∷ live_tf ∷ live_t ∷ live_tf ∷ live_tff ∷ live_tf ∷ live_tf ∷ live_t ∷ live_t ∷ live_tf ∷ live_tf ∷ live_tf ∷ live_tf ∷ live_tf ∷ live_tf ∷ live_tt ∷ live_tf ∷ live_tf ∷ live_tfff ∷ live_tfff ∷ live_tfff ∷ live_tfff ∷ live_tff ∷ live_tff ∷ live_tf ∷ live_tf ∷ live_tf ∷ live_tf ∷ live_tf ∷ live_tf ∷ live_tf ∷ live_tf ∷ live_tff ∷ live_tf ∷ live_tf ∷ live_tf ∷ live_tf ∷ live_tf ∷ live_tf ∷ live_tf ∷ live_tf ∷ live_tff ∷ live_tf ∷ live_tf ∷ live_tf ∷ live_tf ∷ live_tffff ∷ live_ttftf ∷ live_tf ∷ live_tf ∷ live_t ∷ []; glues = true } ∷
    record { above = live_tf ∷ live_tf ∷ live_tf ∷ live_t ∷ live_t ∷ live_tff ∷ live_tf ∷ []; below = live_t ∷ live_tf ∷ live_tf ∷ live_tt ∷ live_t ∷ live_tff ∷ live_tfff ∷ live_t ∷ live_tf ∷ live_t ∷ live_tff ∷ live_tff ∷ live_tf ∷ live_t ∷ live_tf ∷ live_tt ∷ live_t ∷ live_tf ∷ live_ttf ∷ live_t ∷ live_tf ∷ live_tff ∷ live_tf ∷ live_t ∷ live_tf ∷ live_tff ∷ live_tf ∷ live_tf ∷ live_t ∷ live_t ∷ live_tf ∷ live_tf ∷ live_tf ∷ live_tf ∷ live_tf ∷ live_tf ∷ live_tf ∷ live_tf ∷ live_tf ∷ live_tfff ∷ live_tfff ∷ live_tfff ∷ live_tfff ∷ live_tff ∷ live_tff ∷ live_tf ∷ live_tf ∷ live_tf ∷ live_tf ∷ live_tf ∷ live_tf ∷ live_tf ∷ live_tf ∷ live_tff ∷ live_tf ∷ live_tf ∷ live_tf ∷ live_tf ∷ live_tf ∷ live_tf ∷ live_tf ∷ live_tf ∷ live_tff ∷ live_tf ∷ live_tf ∷ live_tf ∷ live_tf ∷ live_tffff ∷ live_ttftf ∷ live_tf ∷ live_tf ∷ live_t ∷ []; glues = true } ∷
    record { above = live_tf ∷ live_tf ∷ live_tf ∷ live_t ∷ live_t ∷ live_tff ∷ live_tf ∷ []; below = live_t ∷ live_tf ∷ live_tf ∷ live_tt ∷ live_t ∷ live_tff ∷ live_tfff ∷ live_t ∷ live_tf ∷ live_t ∷ live_tff ∷ live_tff ∷ live_tf ∷ live_t ∷ live_tf ∷ live_tf ∷ live_t ∷ live_tf ∷ live_tff ∷ live_t ∷ live_tf ∷ live_tff ∷ live_tf ∷ live_t ∷ live_tf ∷ live_tff ∷ live_tf ∷ live_tf ∷ live_t ∷ live_t ∷ live_tf ∷ live_tf ∷ live_tf ∷ live_tf ∷ live_tf ∷ live_tf ∷ live_tf ∷ live_tf ∷ live_tf ∷ live_tfff ∷ live_tfff ∷ live_tfff ∷ live_tfff ∷ live_tff ∷ live_tff ∷ live_tf ∷ live_tf ∷ live_tf ∷ live_tf ∷ live_tf ∷ live_tf ∷ live_tf ∷ live_tf ∷ live_tff ∷ live_tf ∷ live_tf ∷ live_tf ∷ live_tf ∷ live_tf ∷ live_tf ∷ live_tf ∷ live_tf ∷ live_tff ∷ live_tf ∷ live_tf ∷ live_tf ∷ live_tf ∷ live_tffff ∷ live_ttftf ∷ live_tf ∷ live_tf ∷ live_t ∷ []; glues = true } ∷
    record { above = live_tf ∷ live_tf ∷ live_tf ∷ live_t ∷ live_t ∷ live_tff ∷ live_tf ∷ []; below = live_t ∷ live_tf ∷ live_tt ∷ live_tt ∷ live_t ∷ live_tff ∷ live_ttff ∷ live_t ∷ live_tf ∷ live_t ∷ live_tff ∷ live_tff ∷ live_tf ∷ live_t ∷ live_tf ∷ live_tt ∷ live_t ∷ live_tf ∷ live_ttf ∷ live_t ∷ live_tf ∷ live_ttf ∷ live_tf ∷ live_t ∷ live_tf ∷ live_tff ∷ live_tf ∷ live_tf ∷ live_t ∷ live_t ∷ live_tf ∷ live_tf ∷ live_tf ∷ live_tf ∷ live_tf ∷ live_tf ∷ live_tf ∷ live_tf ∷ live_tf ∷ live_tfff ∷ live_tfff ∷ live_tfff ∷ live_tfff ∷ live_tff ∷ live_tff ∷ live_tf ∷ live_tf ∷ live_tf ∷ live_tf ∷ live_tf ∷ live_tf ∷ live_tf ∷ live_tf ∷ live_tff ∷ live_tf ∷ live_tf ∷ live_tf ∷ live_tf ∷ live_tf ∷ live_tf ∷ live_tf ∷ live_tf ∷ live_tff ∷ live_tf ∷ live_tf ∷ live_tf ∷ live_tf ∷ live_tffff ∷ live_ttftf ∷ live_tf ∷ live_tf ∷ live_t ∷ []; glues = true } ∷
    record { above = live_tf ∷ live_tf ∷ live_tf ∷ live_t ∷ live_t ∷ live_tff ∷ live_tf ∷ []; below = live_t ∷ live_tf ∷ live_tt ∷ live_tt ∷ live_t ∷ live_tff ∷ live_ttff ∷ live_t ∷ live_tf ∷ live_t ∷ live_tff ∷ live_tff ∷ live_tf ∷ live_t ∷ live_tf ∷ live_tf ∷ live_t ∷ live_tf ∷ live_tff ∷ live_t ∷ live_tf ∷ live_ttf ∷ live_tf ∷ live_t ∷ live_tf ∷ live_tff ∷ live_tf ∷ live_tf ∷ live_t ∷ live_t ∷ live_tf ∷ live_tf ∷ live_tf ∷ live_tf ∷ live_tf ∷ live_tf ∷ live_tf ∷ live_tf ∷ live_tf ∷ live_tfff ∷ live_tfff ∷ live_tfff ∷ live_tfff ∷ live_tff ∷ live_tff ∷ live_tf ∷ live_tf ∷ live_tf ∷ live_tf ∷ live_tf ∷ live_tf ∷ live_tf ∷ live_tf ∷ live_tff ∷ live_tf ∷ live_tf ∷ live_tf ∷ live_tf ∷ live_tf ∷ live_tf ∷ live_tf ∷ live_tf ∷ live_tff ∷ live_tf ∷ live_tf ∷ live_tf ∷ live_tf ∷ live_tffff ∷ live_ttftf ∷ live_tf ∷ live_tf ∷ live_t ∷ []; glues = true } ∷
    record { above = live_tf ∷ live_tf ∷ live_tf ∷ live_t ∷ live_t ∷ live_tff ∷ live_tf ∷ []; below = live_t ∷ live_tf ∷ live_tf ∷ live_tt ∷ live_t ∷ live_tff ∷ live_tfff ∷ live_t ∷ live_tf ∷ live_t ∷ live_tff ∷ live_tff ∷ live_tf ∷ live_t ∷ live_tf ∷ live_tf ∷ live_t ∷ live_tf ∷ live_tff ∷ live_t ∷ live_tf ∷ live_tff ∷ live_tf ∷ live_t ∷ live_tf ∷ live_tff ∷ live_tf ∷ live_tf ∷ live_t ∷ live_t ∷ live_tf ∷ live_tf ∷ live_tf ∷ live_tf ∷ live_tf ∷ live_tf ∷ live_tf ∷ live_tf ∷ live_tf ∷ live_tfff ∷ live_tfff ∷ live_tfff ∷ live_tfff ∷ live_tff ∷ live_tff ∷ live_tf ∷ live_tf ∷ live_tf ∷ live_tf ∷ live_tf ∷ live_tf ∷ live_tf ∷ live_tf ∷ live_tff ∷ live_tf ∷ live_tt ∷ live_tf ∷ live_tt ∷ live_tf ∷ live_tf ∷ live_tf ∷ live_tf ∷ live_tff ∷ live_tf ∷ live_tf ∷ live_tf ∷ live_tf ∷ live_tffff ∷ live_ttftf ∷ live_tf ∷ live_tf ∷ live_t ∷ []; glues = true } ∷
    record { above = live_tf ∷ live_tf ∷ live_tf ∷ live_t ∷ live_t ∷ live_tff ∷ live_tf ∷ []; below = live_t ∷ live_tf ∷ live_tf ∷ live_tt ∷ live_t ∷ live_tff ∷ live_tfff ∷ live_t ∷ live_tf ∷ live_t ∷ live_tff ∷ live_tff ∷ live_tf ∷ live_t ∷ live_tf ∷ live_tf ∷ live_t ∷ live_tf ∷ live_tff ∷ live_t ∷ live_tf ∷ live_tff ∷ live_tf ∷ live_t ∷ live_tf ∷ live_tff ∷ live_tf ∷ live_tf ∷ live_t ∷ live_t ∷ live_tf ∷ live_tf ∷ live_tf ∷ live_tf ∷ live_tf ∷ live_tf ∷ live_tf ∷ live_tf ∷ live_tf ∷ live_tfff ∷ live_tfff ∷ live_tfff ∷ live_tfff ∷ live_tff ∷ live_tff ∷ live_tf ∷ live_tf ∷ live_tf ∷ live_tf ∷ live_tf ∷ live_tf ∷ live_tf ∷ live_tf ∷ live_tff ∷ live_tf ∷ live_tf ∷ live_tt ∷ live_tt ∷ live_tf ∷ live_tf ∷ live_tf ∷ live_tf ∷ live_tff ∷ live_tf ∷ live_tf ∷ live_tf ∷ live_tf ∷ live_tffff ∷ live_ttftf ∷ live_tf ∷ live_tf ∷ live_t ∷ []; glues = true } ∷
    record { above = live_tf ∷ live_tf ∷ live_tf ∷ live_t ∷ live_t ∷ live_tff ∷ live_tf ∷ []; below = live_t ∷ live_tf ∷ live_tf ∷ live_tf ∷ live_t ∷ live_tff ∷ live_tfff ∷ live_t ∷ live_tf ∷ live_t ∷ live_tff ∷ live_tff ∷ live_tf ∷ live_t ∷ live_tf ∷ live_tt ∷ live_t ∷ live_tf ∷ live_ttf ∷ live_t ∷ live_tf ∷ live_tft ∷ live_tf ∷ live_t ∷ live_tf ∷ live_tff ∷ live_tf ∷ live_tf ∷ live_t ∷ live_t ∷ live_tf ∷ live_tf ∷ live_tf ∷ live_tf ∷ live_tf ∷ live_tf ∷ live_tf ∷ live_tf ∷ live_tf ∷ live_tfff ∷ live_tfff ∷ live_tfff ∷ live_tfff ∷ live_tff ∷ live_tff ∷ live_tf ∷ live_tf ∷ live_tf ∷ live_tf ∷ live_tf ∷ live_tf ∷ live_tf ∷ live_tf ∷ live_tff ∷ live_tf ∷ live_tf ∷ live_tf ∷ live_tf ∷ live_tf ∷ live_tf ∷ live_tf ∷ live_tf ∷ live_tff ∷ live_tf ∷ live_tf ∷ live_tf ∷ live_tf ∷ live_tffff ∷ live_ttftf ∷ live_tf ∷ live_tf ∷ live_t ∷ []; glues = true } ∷
    record { above = live_tf ∷ live_tf ∷ live_tf ∷ live_t ∷ live_t ∷ live_tff ∷ live_tf ∷ []; below = live_t ∷ live_tf ∷ live_tf ∷ live_tt ∷ live_t ∷ live_tff ∷ live_tfff ∷ live_t ∷ live_tf ∷ live_t ∷ live_tff ∷ live_tff ∷ live_tf ∷ live_t ∷ live_tf ∷ live_tt ∷ live_t ∷ live_tf ∷ live_ttf ∷ live_t ∷ live_tf ∷ live_tff ∷ live_tf ∷ live_t ∷ live_tf ∷ live_ttf ∷ live_tf ∷ live_tf ∷ live_t ∷ live_t ∷ live_tf ∷ live_tt ∷ live_tf ∷ live_tt ∷ live_tf ∷ live_tf ∷ live_tf ∷ live_tf ∷ live_tt ∷ live_tfff ∷ live_tfff ∷ live_tfff ∷ live_tfff ∷ live_tff ∷ live_tff ∷ live_tf ∷ live_tf ∷ live_tf ∷ live_tf ∷ live_tf ∷ live_tf ∷ live_tf ∷ live_tf ∷ live_tff ∷ live_tf ∷ live_tf ∷ live_tf ∷ live_tf ∷ live_tf ∷ live_tt ∷ live_tf ∷ live_tf ∷ live_tff ∷ live_tf ∷ live_tf ∷ live_tt ∷ live_tf ∷ live_tffff ∷ live_ttftf ∷ live_tf ∷ live_tf ∷ live_t ∷ []; glues = true } ∷
    record { above = live_tf ∷ live_tf ∷ live_tf ∷ live_t ∷ live_t ∷ live_tff ∷ live_tf ∷ []; below = live_t ∷ live_tf ∷ live_tf ∷ live_tf ∷ live_t ∷ live_tff ∷ live_tfff ∷ live_t ∷ live_tf ∷ live_t ∷ live_tff ∷ live_tff ∷ live_tf ∷ live_t ∷ live_tf ∷ live_tt ∷ live_t ∷ live_tf ∷ live_ttf ∷ live_t ∷ live_tf ∷ live_tft ∷ live_tf ∷ live_t ∷ live_tf ∷ live_tff ∷ live_tf ∷ live_tf ∷ live_t ∷ live_t ∷ live_tf ∷ live_tf ∷ live_tf ∷ live_tf ∷ live_tf ∷ live_tf ∷ live_tf ∷ live_tf ∷ live_tf ∷ live_tfff ∷ live_tfff ∷ live_tfff ∷ live_tfff ∷ live_tff ∷ live_tff ∷ live_tf ∷ live_tf ∷ live_tf ∷ live_tf ∷ live_tf ∷ live_tf ∷ live_tt ∷ live_tf ∷ live_tff ∷ live_tf ∷ live_tf ∷ live_tf ∷ live_tf ∷ live_tf ∷ live_tf ∷ live_tf ∷ live_tf ∷ live_tff ∷ live_tf ∷ live_tf ∷ live_tf ∷ live_tf ∷ live_tffff ∷ live_ttftf ∷ live_tf ∷ live_tf ∷ live_t ∷ []; glues = true } ∷
    record { above = live_tf ∷ live_tf ∷ live_tf ∷ live_t ∷ live_t ∷ live_tff ∷ live_tf ∷ []; below = live_t ∷ live_tf ∷ live_tf ∷ live_tt ∷ live_t ∷ live_tff ∷ live_tfff ∷ live_t ∷ live_tf ∷ live_t ∷ live_tff ∷ live_tff ∷ live_tf ∷ live_t ∷ live_tf ∷ live_tt ∷ live_t ∷ live_tf ∷ live_ttf ∷ live_t ∷ live_tf ∷ live_tff ∷ live_tt ∷ live_t ∷ live_tf ∷ live_tff ∷ live_tf ∷ live_tf ∷ live_t ∷ live_t ∷ live_tf ∷ live_tf ∷ live_tf ∷ live_tf ∷ live_tf ∷ live_tf ∷ live_tt ∷ live_tf ∷ live_tf ∷ live_tfff ∷ live_tfff ∷ live_tfff ∷ live_tfff ∷ live_tff ∷ live_tff ∷ live_tf ∷ live_tf ∷ live_tf ∷ live_tf ∷ live_tf ∷ live_tf ∷ live_tf ∷ live_tf ∷ live_tff ∷ live_tf ∷ live_tf ∷ live_tf ∷ live_tf ∷ live_tf ∷ live_tf ∷ live_tf ∷ live_tf ∷ live_tff ∷ live_tf ∷ live_tf ∷ live_tf ∷ live_tf ∷ live_tffff ∷ live_ttftf ∷ live_tf ∷ live_tf ∷ live_t ∷ []; glues = true } ∷
    rest

unfoldable pub befores_1 : List (Before) → List (Before)
befores_1 rest =
    record { above = live_tf ∷ live_tf ∷ live_tf ∷ live_t ∷ live_t ∷ live_tff ∷ live_tf ∷ []; below = live_t ∷ live_tf ∷ live_tf ∷ live_tt ∷ live_t ∷ live_tff ∷ live_tfff ∷ live_t ∷ live_tf ∷ live_t ∷ live_tff ∷ live_tff ∷ live_tf ∷ live_t ∷ live_tf ∷ live_tf ∷ live_t ∷ live_tf ∷ live_tff ∷ live_t ∷ live_tf ∷ live_tff ∷ live_tt ∷ live_t ∷ live_tf ∷ live_tff ∷ live_tf ∷ live_tf ∷ live_t ∷ live_t ∷ live_tf ∷ live_tf ∷ live_tf ∷ live_tf ∷ live_tf ∷ live_tf ∷ live_tt ∷ live_tf ∷ live_tf ∷ live_tfff ∷ live_tfff ∷ live_tfff ∷ live_tfff ∷ live_tff ∷ live_tff ∷ live_tf ∷ live_tf ∷ live_tf ∷ live_tf ∷ live_tf ∷ live_tf ∷ live_tf ∷ live_tf ∷ live_tff ∷ live_tf ∷ live_tf ∷ live_tf ∷ live_tf ∷ live_tf ∷ live_tf ∷ live_tf ∷ live_tf ∷ live_tff ∷ live_tf ∷ live_tf ∷ live_tf ∷ live_tf ∷ live_tffff ∷ live_ttftf ∷ live_tf ∷ live_tf ∷ live_t ∷ []; glues = true } ∷
    record { above = live_tf ∷ live_tf ∷ live_tf ∷ live_t ∷ live_t ∷ live_tff ∷ live_tf ∷ []; below = live_t ∷ live_tf ∷ live_tf ∷ live_tt ∷ live_t ∷ live_tff ∷ live_tfff ∷ live_t ∷ live_tf ∷ live_t ∷ live_tff ∷ live_tff ∷ live_tf ∷ live_t ∷ live_tf ∷ live_tt ∷ live_t ∷ live_tf ∷ live_ttf ∷ live_t ∷ live_tf ∷ live_tff ∷ live_tt ∷ live_t ∷ live_tf ∷ live_tff ∷ live_tf ∷ live_tf ∷ live_t ∷ live_t ∷ live_tf ∷ live_tf ∷ live_tf ∷ live_tf ∷ live_tf ∷ live_tf ∷ live_tt ∷ live_tf ∷ live_tf ∷ live_tfff ∷ live_tfff ∷ live_tfff ∷ live_tfff ∷ live_tff ∷ live_tff ∷ live_tf ∷ live_tf ∷ live_tf ∷ live_tf ∷ live_tf ∷ live_tf ∷ live_tf ∷ live_tf ∷ live_tff ∷ live_tf ∷ live_tf ∷ live_tf ∷ live_tf ∷ live_tf ∷ live_tf ∷ live_tf ∷ live_tf ∷ live_tff ∷ live_tf ∷ live_tf ∷ live_tf ∷ live_tf ∷ live_tffff ∷ live_ttftf ∷ live_tf ∷ live_tt ∷ live_t ∷ []; glues = true } ∷
    record { above = live_tf ∷ live_tf ∷ live_tf ∷ live_t ∷ live_t ∷ live_tff ∷ live_tf ∷ []; below = live_t ∷ live_tf ∷ live_tf ∷ live_tt ∷ live_t ∷ live_tff ∷ live_tfff ∷ live_t ∷ live_tf ∷ live_t ∷ live_tff ∷ live_tff ∷ live_tf ∷ live_t ∷ live_tf ∷ live_tt ∷ live_t ∷ live_tf ∷ live_ttf ∷ live_t ∷ live_tf ∷ live_tff ∷ live_tt ∷ live_t ∷ live_tf ∷ live_tff ∷ live_tf ∷ live_tf ∷ live_t ∷ live_t ∷ live_tf ∷ live_tt ∷ live_tt ∷ live_tf ∷ live_tf ∷ live_tf ∷ live_tt ∷ live_tf ∷ live_tf ∷ live_tfff ∷ live_tfff ∷ live_tfff ∷ live_tfff ∷ live_tff ∷ live_tff ∷ live_tf ∷ live_tf ∷ live_tf ∷ live_tf ∷ live_tf ∷ live_tf ∷ live_tf ∷ live_tf ∷ live_tff ∷ live_tf ∷ live_tf ∷ live_tf ∷ live_tf ∷ live_tf ∷ live_tf ∷ live_tf ∷ live_tf ∷ live_tff ∷ live_tf ∷ live_tf ∷ live_tf ∷ live_tf ∷ live_tffff ∷ live_ttftf ∷ live_tf ∷ live_tf ∷ live_t ∷ []; glues = true } ∷
    record { above = live_tf ∷ live_tf ∷ live_tf ∷ live_t ∷ live_t ∷ live_tff ∷ live_tf ∷ []; below = live_t ∷ live_tf ∷ live_tf ∷ live_tt ∷ live_t ∷ live_tff ∷ live_tfff ∷ live_t ∷ live_tf ∷ live_t ∷ live_tff ∷ live_tff ∷ live_tf ∷ live_t ∷ live_tf ∷ live_tf ∷ live_t ∷ live_tf ∷ live_tff ∷ live_t ∷ live_tf ∷ live_tff ∷ live_tt ∷ live_t ∷ live_tf ∷ live_tff ∷ live_tf ∷ live_tf ∷ live_t ∷ live_t ∷ live_tf ∷ live_tt ∷ live_tt ∷ live_tf ∷ live_tf ∷ live_tf ∷ live_tt ∷ live_tf ∷ live_tf ∷ live_tfff ∷ live_tfff ∷ live_tfff ∷ live_tfff ∷ live_tff ∷ live_tff ∷ live_tf ∷ live_tf ∷ live_tf ∷ live_tf ∷ live_tf ∷ live_tf ∷ live_tf ∷ live_tf ∷ live_tff ∷ live_tf ∷ live_tf ∷ live_tf ∷ live_tf ∷ live_tf ∷ live_tf ∷ live_tf ∷ live_tf ∷ live_tff ∷ live_tf ∷ live_tf ∷ live_tf ∷ live_tf ∷ live_tffff ∷ live_ttftf ∷ live_tf ∷ live_tf ∷ live_t ∷ []; glues = true } ∷
    record { above = live_tf ∷ live_tf ∷ live_tf ∷ live_t ∷ live_t ∷ live_tff ∷ live_tf ∷ []; below = live_t ∷ live_tf ∷ live_tf ∷ live_tt ∷ live_t ∷ live_tff ∷ live_tfff ∷ live_t ∷ live_tf ∷ live_t ∷ live_tff ∷ live_tff ∷ live_tf ∷ live_t ∷ live_tf ∷ live_tt ∷ live_t ∷ live_tf ∷ live_ttf ∷ live_t ∷ live_tf ∷ live_tff ∷ live_tf ∷ live_t ∷ live_tf ∷ live_tff ∷ live_tf ∷ live_tt ∷ live_t ∷ live_t ∷ live_tf ∷ live_tf ∷ live_tf ∷ live_tf ∷ live_tf ∷ live_tf ∷ live_tf ∷ live_tf ∷ live_tf ∷ live_tfff ∷ live_tfff ∷ live_tfff ∷ live_tfff ∷ live_tff ∷ live_tff ∷ live_tf ∷ live_tf ∷ live_tf ∷ live_tf ∷ live_tf ∷ live_tf ∷ live_tf ∷ live_tf ∷ live_tff ∷ live_tf ∷ live_tf ∷ live_tf ∷ live_tf ∷ live_tf ∷ live_tf ∷ live_tf ∷ live_tf ∷ live_tff ∷ live_tf ∷ live_tf ∷ live_tf ∷ live_tf ∷ live_tffff ∷ live_ttftf ∷ live_tf ∷ live_tf ∷ live_t ∷ []; glues = true } ∷
    record { above = live_tf ∷ live_tf ∷ live_tf ∷ live_t ∷ live_t ∷ live_tff ∷ live_tf ∷ []; below = live_t ∷ live_tf ∷ live_tf ∷ live_tt ∷ live_t ∷ live_tff ∷ live_tfff ∷ live_t ∷ live_tf ∷ live_t ∷ live_tff ∷ live_tff ∷ live_tf ∷ live_t ∷ live_tf ∷ live_tf ∷ live_t ∷ live_tf ∷ live_tff ∷ live_t ∷ live_tf ∷ live_tff ∷ live_tf ∷ live_t ∷ live_tf ∷ live_tff ∷ live_tf ∷ live_tt ∷ live_t ∷ live_t ∷ live_tf ∷ live_tf ∷ live_tf ∷ live_tf ∷ live_tf ∷ live_tf ∷ live_tf ∷ live_tf ∷ live_tf ∷ live_tfff ∷ live_tfff ∷ live_tfff ∷ live_tfff ∷ live_tff ∷ live_tff ∷ live_tf ∷ live_tf ∷ live_tf ∷ live_tf ∷ live_tf ∷ live_tf ∷ live_tf ∷ live_tf ∷ live_tff ∷ live_tf ∷ live_tf ∷ live_tf ∷ live_tf ∷ live_tf ∷ live_tf ∷ live_tf ∷ live_tf ∷ live_tff ∷ live_tf ∷ live_tf ∷ live_tf ∷ live_tf ∷ live_tffff ∷ live_ttftf ∷ live_tf ∷ live_tf ∷ live_t ∷ []; glues = true } ∷
    record { above = live_tf ∷ live_tf ∷ live_tf ∷ live_t ∷ live_t ∷ live_tff ∷ live_tf ∷ []; below = live_t ∷ live_tf ∷ live_tf ∷ live_tt ∷ live_t ∷ live_tff ∷ live_tfff ∷ live_t ∷ live_tf ∷ live_t ∷ live_tff ∷ live_tff ∷ live_tf ∷ live_t ∷ live_tf ∷ live_tt ∷ live_t ∷ live_tf ∷ live_ttf ∷ live_t ∷ live_tf ∷ live_tff ∷ live_tf ∷ live_t ∷ live_tf ∷ live_tff ∷ live_tf ∷ live_tf ∷ live_t ∷ live_t ∷ live_tf ∷ live_tf ∷ live_tf ∷ live_tf ∷ live_tf ∷ live_tf ∷ live_tf ∷ live_tf ∷ live_tf ∷ live_tfff ∷ live_tfff ∷ live_tfff ∷ live_tfff ∷ live_tff ∷ live_tff ∷ live_tf ∷ live_tf ∷ live_tf ∷ live_tf ∷ live_tf ∷ live_tf ∷ live_tf ∷ live_tt ∷ live_tff ∷ live_tf ∷ live_tf ∷ live_tf ∷ live_tf ∷ live_tf ∷ live_tf ∷ live_tf ∷ live_tf ∷ live_tff ∷ live_tf ∷ live_tt ∷ live_tf ∷ live_tf ∷ live_tffff ∷ live_ttftf ∷ live_tf ∷ live_tf ∷ live_t ∷ []; glues = true } ∷
    record { above = live_tf ∷ live_tf ∷ live_tf ∷ live_t ∷ live_t ∷ live_tff ∷ live_tf ∷ []; below = live_t ∷ live_tf ∷ live_tf ∷ live_tt ∷ live_t ∷ live_tff ∷ live_tfff ∷ live_t ∷ live_tf ∷ live_t ∷ live_tff ∷ live_tff ∷ live_tf ∷ live_t ∷ live_tf ∷ live_tf ∷ live_t ∷ live_tf ∷ live_tff ∷ live_t ∷ live_tf ∷ live_tff ∷ live_tf ∷ live_t ∷ live_tf ∷ live_tff ∷ live_tf ∷ live_tf ∷ live_t ∷ live_t ∷ live_tf ∷ live_tf ∷ live_tf ∷ live_tf ∷ live_tf ∷ live_tf ∷ live_tf ∷ live_tf ∷ live_tf ∷ live_tfff ∷ live_tfff ∷ live_tfff ∷ live_tfff ∷ live_tff ∷ live_tff ∷ live_tf ∷ live_tf ∷ live_tf ∷ live_tf ∷ live_tf ∷ live_tf ∷ live_tf ∷ live_tf ∷ live_tff ∷ live_tt ∷ live_tf ∷ live_tf ∷ live_tt ∷ live_tf ∷ live_tf ∷ live_tf ∷ live_tf ∷ live_tff ∷ live_tf ∷ live_tf ∷ live_tf ∷ live_tf ∷ live_tffff ∷ live_ttftf ∷ live_tf ∷ live_tf ∷ live_t ∷ []; glues = true } ∷
    record { above = live_tf ∷ live_tf ∷ live_tf ∷ live_t ∷ live_t ∷ live_tff ∷ live_tf ∷ []; below = live_t ∷ live_tf ∷ live_tf ∷ live_tt ∷ live_t ∷ live_tff ∷ live_tfff ∷ live_t ∷ live_tf ∷ live_t ∷ live_tff ∷ live_tff ∷ live_tf ∷ live_t ∷ live_tf ∷ live_tt ∷ live_t ∷ live_tf ∷ live_ttf ∷ live_t ∷ live_tf ∷ live_tff ∷ live_tf ∷ live_t ∷ live_tf ∷ live_tff ∷ live_tf ∷ live_tf ∷ live_t ∷ live_t ∷ live_tf ∷ live_tf ∷ live_tf ∷ live_tf ∷ live_tf ∷ live_tf ∷ live_tf ∷ live_tf ∷ live_tf ∷ live_tfff ∷ live_tfff ∷ live_tfff ∷ live_tfff ∷ live_tff ∷ live_tff ∷ live_tf ∷ live_tf ∷ live_tf ∷ live_tf ∷ live_tf ∷ live_tf ∷ live_tf ∷ live_tf ∷ live_tff ∷ live_tf ∷ live_tf ∷ live_tt ∷ live_tt ∷ live_tf ∷ live_tf ∷ live_tf ∷ live_tf ∷ live_tff ∷ live_tf ∷ live_tf ∷ live_tf ∷ live_tf ∷ live_tffff ∷ live_ttftf ∷ live_tf ∷ live_tf ∷ live_t ∷ []; glues = true } ∷
    record { above = live_tf ∷ live_tf ∷ live_tf ∷ live_t ∷ live_t ∷ live_tff ∷ live_tf ∷ []; below = live_t ∷ live_tf ∷ live_tf ∷ live_tt ∷ live_t ∷ live_tff ∷ live_tfff ∷ live_t ∷ live_tf ∷ live_t ∷ live_tff ∷ live_tff ∷ live_tf ∷ live_t ∷ live_tf ∷ live_tt ∷ live_t ∷ live_tf ∷ live_ttf ∷ live_t ∷ live_tf ∷ live_tff ∷ live_tf ∷ live_t ∷ live_tf ∷ live_tff ∷ live_tf ∷ live_tf ∷ live_t ∷ live_t ∷ live_tf ∷ live_tf ∷ live_tf ∷ live_tf ∷ live_tf ∷ live_tf ∷ live_tf ∷ live_tf ∷ live_tf ∷ live_tfff ∷ live_tfff ∷ live_tfff ∷ live_tfff ∷ live_tff ∷ live_tff ∷ live_tf ∷ live_tf ∷ live_tf ∷ live_tf ∷ live_tf ∷ live_tf ∷ live_tf ∷ live_tf ∷ live_tff ∷ live_tf ∷ live_tt ∷ live_tf ∷ live_tt ∷ live_tf ∷ live_tf ∷ live_tf ∷ live_tf ∷ live_tff ∷ live_tf ∷ live_tf ∷ live_tf ∷ live_tf ∷ live_tffff ∷ live_ttftf ∷ live_tf ∷ live_tf ∷ live_t ∷ []; glues = true } ∷
    record { above = live_tf ∷ live_tf ∷ live_tt ∷ live_t ∷ live_t ∷ live_tff ∷ live_tf ∷ []; below = live_t ∷ live_tf ∷ live_tf ∷ live_tt ∷ live_t ∷ live_tff ∷ live_ttff ∷ live_t ∷ live_tf ∷ live_t ∷ live_tff ∷ live_tff ∷ live_tf ∷ live_t ∷ live_tf ∷ live_tt ∷ live_t ∷ live_tf ∷ live_ttf ∷ live_t ∷ live_tf ∷ live_ttf ∷ live_tf ∷ live_t ∷ live_tf ∷ live_tff ∷ live_tf ∷ live_tf ∷ live_t ∷ live_t ∷ live_tf ∷ live_tf ∷ live_tf ∷ live_tf ∷ live_tf ∷ live_tf ∷ live_tf ∷ live_tf ∷ live_tf ∷ live_tfff ∷ live_tfff ∷ live_tfff ∷ live_tfff ∷ live_tff ∷ live_tff ∷ live_tf ∷ live_tf ∷ live_tf ∷ live_tf ∷ live_tf ∷ live_tf ∷ live_tf ∷ live_tf ∷ live_tff ∷ live_tf ∷ live_tf ∷ live_tf ∷ live_tf ∷ live_tf ∷ live_tf ∷ live_tf ∷ live_tf ∷ live_tff ∷ live_tf ∷ live_tf ∷ live_tf ∷ live_tf ∷ live_tffff ∷ live_ttftf ∷ live_tf ∷ live_tf ∷ live_t ∷ []; glues = false } ∷
    record { above = live_tf ∷ live_tf ∷ live_tf ∷ live_t ∷ live_t ∷ live_tff ∷ live_tf ∷ []; below = live_t ∷ live_tf ∷ live_tf ∷ live_tt ∷ live_t ∷ live_tff ∷ live_tfff ∷ live_t ∷ live_tf ∷ live_t ∷ live_tff ∷ live_tff ∷ live_tf ∷ live_t ∷ live_tf ∷ live_tf ∷ live_t ∷ live_tf ∷ live_tff ∷ live_t ∷ live_tf ∷ live_tff ∷ live_tf ∷ live_t ∷ live_tf ∷ live_tff ∷ live_tf ∷ live_tf ∷ live_t ∷ live_t ∷ live_tf ∷ live_tf ∷ live_tt ∷ live_tf ∷ live_tf ∷ live_tf ∷ live_tf ∷ live_tf ∷ live_tf ∷ live_tfff ∷ live_tfff ∷ live_tfff ∷ live_tfff ∷ live_tff ∷ live_tff ∷ live_tf ∷ live_tf ∷ live_tf ∷ live_tf ∷ live_tf ∷ live_tf ∷ live_tf ∷ live_tf ∷ live_tff ∷ live_tf ∷ live_tf ∷ live_tf ∷ live_tf ∷ live_tf ∷ live_tf ∷ live_tf ∷ live_tf ∷ live_tff ∷ live_tf ∷ live_tf ∷ live_tf ∷ live_tf ∷ live_tffff ∷ live_ttftf ∷ live_tf ∷ live_tf ∷ live_t ∷ []; glues = true } ∷
    record { above = live_tf ∷ live_tf ∷ live_tf ∷ live_t ∷ live_t ∷ live_tff ∷ live_tf ∷ []; below = live_t ∷ live_tf ∷ live_tf ∷ live_tt ∷ live_t ∷ live_tff ∷ live_tfff ∷ live_t ∷ live_tf ∷ live_t ∷ live_tff ∷ live_tff ∷ live_tf ∷ live_t ∷ live_tf ∷ live_tt ∷ live_t ∷ live_tf ∷ live_ttf ∷ live_t ∷ live_tf ∷ live_tff ∷ live_tf ∷ live_t ∷ live_tf ∷ live_tff ∷ live_tf ∷ live_tf ∷ live_t ∷ live_t ∷ live_tf ∷ live_tt ∷ live_tf ∷ live_tf ∷ live_tt ∷ live_tf ∷ live_tf ∷ live_tf ∷ live_tf ∷ live_tttf ∷ live_tttf ∷ live_tttf ∷ live_tttf ∷ live_ttt ∷ live_ttt ∷ live_tf ∷ live_tf ∷ live_tf ∷ live_tf ∷ live_tf ∷ live_tf ∷ live_tf ∷ live_tf ∷ live_ttt ∷ live_tf ∷ live_tf ∷ live_tf ∷ live_tf ∷ live_tf ∷ live_tf ∷ live_tf ∷ live_tf ∷ live_tff ∷ live_tf ∷ live_tf ∷ live_tt ∷ live_tf ∷ live_tffff ∷ live_ttftf ∷ live_tf ∷ live_tf ∷ live_t ∷ []; glues = true } ∷
    record { above = live_tf ∷ live_tf ∷ live_tf ∷ live_t ∷ live_t ∷ live_tff ∷ live_tf ∷ []; below = live_t ∷ live_tf ∷ live_tf ∷ live_tt ∷ live_t ∷ live_ttt ∷ live_ttff ∷ live_t ∷ live_tf ∷ live_t ∷ live_tff ∷ live_tff ∷ live_tf ∷ live_t ∷ live_tf ∷ live_tt ∷ live_t ∷ live_tf ∷ live_ttf ∷ live_t ∷ live_tf ∷ live_tff ∷ live_tf ∷ live_t ∷ live_tf ∷ live_tff ∷ live_tf ∷ live_tf ∷ live_t ∷ live_t ∷ live_tf ∷ live_tf ∷ live_tf ∷ live_tf ∷ live_tf ∷ live_tf ∷ live_tf ∷ live_tf ∷ live_tf ∷ live_tfff ∷ live_tfff ∷ live_tfff ∷ live_tfff ∷ live_tff ∷ live_tff ∷ live_tf ∷ live_tf ∷ live_tf ∷ live_tf ∷ live_tf ∷ live_tf ∷ live_tf ∷ live_tf ∷ live_tff ∷ live_tf ∷ live_tf ∷ live_tf ∷ live_tf ∷ live_tf ∷ live_tf ∷ live_tf ∷ live_tf ∷ live_tff ∷ live_tf ∷ live_tf ∷ live_tf ∷ live_tf ∷ live_tffff ∷ live_ttftf ∷ live_tf ∷ live_tf ∷ live_t ∷ []; glues = true } ∷
    record { above = live_tf ∷ live_tf ∷ live_tf ∷ live_t ∷ live_t ∷ live_tff ∷ live_tf ∷ []; below = live_t ∷ live_tf ∷ live_tf ∷ live_tt ∷ live_t ∷ live_ttt ∷ live_ttff ∷ live_t ∷ live_tf ∷ live_t ∷ live_tff ∷ live_tff ∷ live_tf ∷ live_t ∷ live_tf ∷ live_tf ∷ live_t ∷ live_tf ∷ live_tff ∷ live_t ∷ live_tf ∷ live_tff ∷ live_tf ∷ live_t ∷ live_tf ∷ live_tff ∷ live_tf ∷ live_tf ∷ live_t ∷ live_t ∷ live_tf ∷ live_tf ∷ live_tf ∷ live_tf ∷ live_tf ∷ live_tf ∷ live_tf ∷ live_tf ∷ live_tf ∷ live_tfff ∷ live_tfff ∷ live_tfff ∷ live_tfff ∷ live_tff ∷ live_tff ∷ live_tf ∷ live_tf ∷ live_tf ∷ live_tf ∷ live_tf ∷ live_tf ∷ live_tf ∷ live_tf ∷ live_tff ∷ live_tf ∷ live_tf ∷ live_tf ∷ live_tf ∷ live_tf ∷ live_tf ∷ live_tf ∷ live_tf ∷ live_tff ∷ live_tf ∷ live_tf ∷ live_tf ∷ live_tf ∷ live_tffff ∷ live_ttftf ∷ live_tf ∷ live_tf ∷ live_t ∷ []; glues = true } ∷
    record { above = live_tf ∷ live_tf ∷ live_tf ∷ live_t ∷ live_t ∷ live_tff ∷ live_tf ∷ []; below = live_t ∷ live_tf ∷ live_tf ∷ live_tt ∷ live_t ∷ live_tff ∷ live_tfff ∷ live_t ∷ live_tf ∷ live_t ∷ live_tff ∷ live_tff ∷ live_tf ∷ live_t ∷ live_tf ∷ live_tt ∷ live_t ∷ live_tf ∷ live_ttf ∷ live_t ∷ live_tf ∷ live_tff ∷ live_tf ∷ live_t ∷ live_tf ∷ live_tff ∷ live_tf ∷ live_tf ∷ live_t ∷ live_t ∷ live_tf ∷ live_tf ∷ live_tf ∷ live_tf ∷ live_tf ∷ live_tf ∷ live_tf ∷ live_tt ∷ live_tf ∷ live_tfff ∷ live_tfff ∷ live_tfff ∷ live_tfff ∷ live_tff ∷ live_tff ∷ live_tt ∷ live_tt ∷ live_tt ∷ live_tf ∷ live_tf ∷ live_tf ∷ live_tf ∷ live_tf ∷ live_tff ∷ live_tf ∷ live_tf ∷ live_tf ∷ live_tf ∷ live_tf ∷ live_tf ∷ live_tf ∷ live_tf ∷ live_tff ∷ live_tf ∷ live_tf ∷ live_tf ∷ live_tf ∷ live_tffff ∷ live_ttftf ∷ live_tf ∷ live_tf ∷ live_t ∷ []; glues = true } ∷
    record { above = live_tf ∷ live_tf ∷ live_tf ∷ live_t ∷ live_t ∷ live_tff ∷ live_tf ∷ []; below = live_t ∷ live_tf ∷ live_tf ∷ live_tt ∷ live_t ∷ live_tff ∷ live_tfff ∷ live_t ∷ live_tf ∷ live_t ∷ live_tff ∷ live_tff ∷ live_tf ∷ live_t ∷ live_tf ∷ live_tf ∷ live_t ∷ live_tf ∷ live_tff ∷ live_t ∷ live_tf ∷ live_tff ∷ live_tf ∷ live_t ∷ live_tf ∷ live_tff ∷ live_tf ∷ live_tf ∷ live_t ∷ live_t ∷ live_tf ∷ live_tf ∷ live_tf ∷ live_tf ∷ live_tf ∷ live_tf ∷ live_tf ∷ live_tt ∷ live_tf ∷ live_tfff ∷ live_tfff ∷ live_tfff ∷ live_tfff ∷ live_tff ∷ live_tff ∷ live_tt ∷ live_tt ∷ live_tt ∷ live_tf ∷ live_tf ∷ live_tf ∷ live_tf ∷ live_tf ∷ live_tff ∷ live_tf ∷ live_tf ∷ live_tf ∷ live_tf ∷ live_tf ∷ live_tf ∷ live_tf ∷ live_tf ∷ live_tff ∷ live_tf ∷ live_tf ∷ live_tf ∷ live_tf ∷ live_tffff ∷ live_ttftf ∷ live_tf ∷ live_tf ∷ live_t ∷ []; glues = true } ∷
    record { above = live_tf ∷ live_tf ∷ live_tf ∷ live_t ∷ live_t ∷ live_tff ∷ live_tf ∷ []; below = live_t ∷ live_tf ∷ live_tf ∷ live_tt ∷ live_t ∷ live_tff ∷ live_tfff ∷ live_t ∷ live_tf ∷ live_t ∷ live_tff ∷ live_tff ∷ live_tf ∷ live_t ∷ live_tf ∷ live_tt ∷ live_t ∷ live_tf ∷ live_ttf ∷ live_t ∷ live_tf ∷ live_tff ∷ live_tf ∷ live_t ∷ live_tf ∷ live_tff ∷ live_tf ∷ live_tf ∷ live_t ∷ live_t ∷ live_tf ∷ live_tf ∷ live_tf ∷ live_tf ∷ live_tf ∷ live_tt ∷ live_tf ∷ live_tt ∷ live_tf ∷ live_tfff ∷ live_tfff ∷ live_tfff ∷ live_tfff ∷ live_tff ∷ live_tff ∷ live_tf ∷ live_tf ∷ live_tf ∷ live_tt ∷ live_tt ∷ live_tt ∷ live_tf ∷ live_tf ∷ live_tff ∷ live_tf ∷ live_tf ∷ live_tf ∷ live_tf ∷ live_tt ∷ live_tf ∷ live_tf ∷ live_tf ∷ live_tff ∷ live_tf ∷ live_tf ∷ live_tf ∷ live_tf ∷ live_tffff ∷ live_ttftf ∷ live_tf ∷ live_tf ∷ live_t ∷ []; glues = true } ∷
    record { above = live_tf ∷ live_tf ∷ live_tf ∷ live_t ∷ live_t ∷ live_tff ∷ live_tf ∷ []; below = live_t ∷ live_tf ∷ live_tf ∷ live_tt ∷ live_t ∷ live_tff ∷ live_tfff ∷ live_t ∷ live_tf ∷ live_t ∷ live_tff ∷ live_tff ∷ live_tf ∷ live_t ∷ live_tf ∷ live_tf ∷ live_t ∷ live_tf ∷ live_tff ∷ live_t ∷ live_tf ∷ live_tff ∷ live_tf ∷ live_t ∷ live_tf ∷ live_tff ∷ live_tf ∷ live_tf ∷ live_t ∷ live_t ∷ live_tf ∷ live_tf ∷ live_tf ∷ live_tf ∷ live_tf ∷ live_tt ∷ live_tf ∷ live_tt ∷ live_tf ∷ live_tfff ∷ live_tfff ∷ live_tfff ∷ live_tfff ∷ live_tff ∷ live_tff ∷ live_tf ∷ live_tf ∷ live_tf ∷ live_tt ∷ live_tt ∷ live_tt ∷ live_tf ∷ live_tf ∷ live_tff ∷ live_tf ∷ live_tf ∷ live_tf ∷ live_tf ∷ live_tt ∷ live_tf ∷ live_tf ∷ live_tf ∷ live_tff ∷ live_tf ∷ live_tf ∷ live_tf ∷ live_tf ∷ live_tffff ∷ live_ttftf ∷ live_tf ∷ live_tf ∷ live_t ∷ []; glues = true } ∷
    record { above = live_tf ∷ live_tf ∷ live_tf ∷ live_t ∷ live_t ∷ live_tff ∷ live_tf ∷ []; below = live_t ∷ live_tf ∷ live_tf ∷ live_tt ∷ live_t ∷ live_tff ∷ live_tfff ∷ live_t ∷ live_tf ∷ live_t ∷ live_tff ∷ live_tff ∷ live_tf ∷ live_t ∷ live_tf ∷ live_tt ∷ live_t ∷ live_tf ∷ live_ttf ∷ live_t ∷ live_tf ∷ live_tff ∷ live_tf ∷ live_t ∷ live_tf ∷ live_tff ∷ live_tf ∷ live_tf ∷ live_t ∷ live_t ∷ live_tt ∷ live_tf ∷ live_tf ∷ live_tf ∷ live_tf ∷ live_tt ∷ live_tf ∷ live_tt ∷ live_tf ∷ live_tfff ∷ live_tfff ∷ live_tfff ∷ live_tfff ∷ live_tff ∷ live_tff ∷ live_tf ∷ live_tf ∷ live_tf ∷ live_tt ∷ live_tt ∷ live_tt ∷ live_tf ∷ live_tf ∷ live_tff ∷ live_tf ∷ live_tf ∷ live_tf ∷ live_tf ∷ live_tt ∷ live_tf ∷ live_tf ∷ live_tf ∷ live_tff ∷ live_tf ∷ live_tf ∷ live_tf ∷ live_tf ∷ live_tffff ∷ live_ttftf ∷ live_tf ∷ live_tf ∷ live_t ∷ []; glues = true } ∷
    record { above = live_tf ∷ live_tf ∷ live_tf ∷ live_t ∷ live_t ∷ live_tff ∷ live_tf ∷ []; below = live_t ∷ live_tf ∷ live_tf ∷ live_tt ∷ live_t ∷ live_tff ∷ live_tfff ∷ live_t ∷ live_tf ∷ live_t ∷ live_tff ∷ live_tff ∷ live_tf ∷ live_t ∷ live_tf ∷ live_tf ∷ live_t ∷ live_tf ∷ live_tff ∷ live_t ∷ live_tf ∷ live_tff ∷ live_tf ∷ live_t ∷ live_tf ∷ live_tff ∷ live_tf ∷ live_tf ∷ live_t ∷ live_t ∷ live_tt ∷ live_tf ∷ live_tf ∷ live_tf ∷ live_tf ∷ live_tt ∷ live_tf ∷ live_tt ∷ live_tf ∷ live_tfff ∷ live_tfff ∷ live_tfff ∷ live_tfff ∷ live_tff ∷ live_tff ∷ live_tf ∷ live_tf ∷ live_tf ∷ live_tt ∷ live_tt ∷ live_tt ∷ live_tf ∷ live_tf ∷ live_tff ∷ live_tf ∷ live_tf ∷ live_tf ∷ live_tf ∷ live_tt ∷ live_tf ∷ live_tf ∷ live_tf ∷ live_tff ∷ live_tf ∷ live_tf ∷ live_tf ∷ live_tf ∷ live_tffff ∷ live_ttftf ∷ live_tf ∷ live_tf ∷ live_t ∷ []; glues = true } ∷
    record { above = live_tf ∷ live_tf ∷ live_tf ∷ live_t ∷ live_t ∷ live_tff ∷ live_tf ∷ []; below = live_t ∷ live_tf ∷ live_tf ∷ live_tt ∷ live_t ∷ live_tff ∷ live_ttff ∷ live_t ∷ live_tf ∷ live_t ∷ live_tff ∷ live_tff ∷ live_tf ∷ live_t ∷ live_tt ∷ live_tt ∷ live_t ∷ live_tt ∷ live_ttt ∷ live_t ∷ live_tf ∷ live_tff ∷ live_tf ∷ live_t ∷ live_tf ∷ live_tff ∷ live_tf ∷ live_tf ∷ live_t ∷ live_t ∷ live_tf ∷ live_tf ∷ live_tf ∷ live_tf ∷ live_tf ∷ live_tf ∷ live_tf ∷ live_tf ∷ live_tf ∷ live_tfff ∷ live_tfff ∷ live_tfff ∷ live_tfff ∷ live_tff ∷ live_tff ∷ live_tf ∷ live_tf ∷ live_tf ∷ live_tf ∷ live_tf ∷ live_tf ∷ live_tf ∷ live_tf ∷ live_tff ∷ live_tf ∷ live_tf ∷ live_tf ∷ live_tf ∷ live_tf ∷ live_tf ∷ live_tf ∷ live_tf ∷ live_tff ∷ live_tf ∷ live_tf ∷ live_tf ∷ live_tf ∷ live_tffff ∷ live_ttftf ∷ live_tf ∷ live_tf ∷ live_t ∷ []; glues = true } ∷
    record { above = live_tf ∷ live_tf ∷ live_tf ∷ live_t ∷ live_t ∷ live_tff ∷ live_tf ∷ []; below = live_t ∷ live_tf ∷ live_tf ∷ live_tt ∷ live_t ∷ live_tff ∷ live_tttt ∷ live_t ∷ live_tf ∷ live_t ∷ live_tff ∷ live_tff ∷ live_tf ∷ live_t ∷ live_tt ∷ live_tt ∷ live_t ∷ live_tt ∷ live_ttt ∷ live_t ∷ live_tf ∷ live_tff ∷ live_tf ∷ live_t ∷ live_tf ∷ live_tff ∷ live_tf ∷ live_tf ∷ live_t ∷ live_t ∷ live_tf ∷ live_tf ∷ live_tf ∷ live_tf ∷ live_tf ∷ live_tf ∷ live_tf ∷ live_tf ∷ live_tf ∷ live_tfff ∷ live_tfff ∷ live_tfff ∷ live_tfff ∷ live_tff ∷ live_tff ∷ live_tf ∷ live_tf ∷ live_tf ∷ live_tf ∷ live_tf ∷ live_tf ∷ live_tf ∷ live_tf ∷ live_tff ∷ live_tf ∷ live_tf ∷ live_tf ∷ live_tf ∷ live_tf ∷ live_tf ∷ live_tf ∷ live_tf ∷ live_tff ∷ live_tf ∷ live_tf ∷ live_tf ∷ live_tf ∷ live_tffff ∷ live_ttftf ∷ live_tf ∷ live_tf ∷ live_t ∷ []; glues = true } ∷
    record { above = live_tf ∷ live_tf ∷ live_tf ∷ live_t ∷ live_t ∷ live_tff ∷ live_tf ∷ []; below = live_t ∷ live_tf ∷ live_tf ∷ live_tt ∷ live_t ∷ live_tff ∷ live_ttff ∷ live_t ∷ live_tf ∷ live_t ∷ live_tff ∷ live_tff ∷ live_tf ∷ live_t ∷ live_tf ∷ live_tt ∷ live_t ∷ live_tt ∷ live_ttt ∷ live_t ∷ live_tf ∷ live_tff ∷ live_tf ∷ live_t ∷ live_tf ∷ live_tff ∷ live_tf ∷ live_tf ∷ live_t ∷ live_t ∷ live_tf ∷ live_tf ∷ live_tf ∷ live_tf ∷ live_tf ∷ live_tf ∷ live_tf ∷ live_tf ∷ live_tf ∷ live_tfff ∷ live_tfff ∷ live_tfff ∷ live_tfff ∷ live_tff ∷ live_tff ∷ live_tf ∷ live_tf ∷ live_tf ∷ live_tf ∷ live_tf ∷ live_tf ∷ live_tf ∷ live_tf ∷ live_tff ∷ live_tf ∷ live_tf ∷ live_tf ∷ live_tf ∷ live_tf ∷ live_tf ∷ live_tf ∷ live_tf ∷ live_tff ∷ live_tf ∷ live_tf ∷ live_tf ∷ live_tf ∷ live_tffff ∷ live_ttftf ∷ live_tf ∷ live_tf ∷ live_t ∷ []; glues = true } ∷
    record { above = live_tf ∷ live_tf ∷ live_tf ∷ live_t ∷ live_t ∷ live_tff ∷ live_tf ∷ []; below = live_t ∷ live_tf ∷ live_tf ∷ live_tt ∷ live_t ∷ live_tff ∷ live_tfff ∷ live_t ∷ live_tf ∷ live_t ∷ live_tff ∷ live_tff ∷ live_tf ∷ live_t ∷ live_tf ∷ live_tt ∷ live_t ∷ live_tf ∷ live_ttf ∷ live_t ∷ live_tf ∷ live_tff ∷ live_tf ∷ live_t ∷ live_tf ∷ live_tff ∷ live_tf ∷ live_tf ∷ live_t ∷ live_t ∷ live_tf ∷ live_tf ∷ live_tf ∷ live_tf ∷ live_tf ∷ live_tf ∷ live_tf ∷ live_tf ∷ live_tf ∷ live_tfff ∷ live_tfff ∷ live_tfff ∷ live_tfff ∷ live_tff ∷ live_tff ∷ live_tf ∷ live_tf ∷ live_tf ∷ live_tf ∷ live_tf ∷ live_tf ∷ live_tf ∷ live_tf ∷ live_tff ∷ live_tf ∷ live_tf ∷ live_tf ∷ live_tf ∷ live_tf ∷ live_tf ∷ live_tf ∷ live_tf ∷ live_tff ∷ live_tf ∷ live_tf ∷ live_tf ∷ live_tf ∷ live_tftft ∷ live_tffff ∷ live_tf ∷ live_tf ∷ live_t ∷ []; glues = true } ∷
    record { above = live_tf ∷ live_tf ∷ live_tf ∷ live_t ∷ live_t ∷ live_tff ∷ live_tf ∷ []; below = live_t ∷ live_tf ∷ live_tf ∷ live_tf ∷ live_t ∷ live_tff ∷ live_ttff ∷ live_t ∷ live_tt ∷ live_t ∷ live_tff ∷ live_tff ∷ live_tt ∷ live_t ∷ live_tf ∷ live_tt ∷ live_t ∷ live_tf ∷ live_ttf ∷ live_t ∷ live_tf ∷ live_ttf ∷ live_tf ∷ live_t ∷ live_tf ∷ live_tff ∷ live_tf ∷ live_tf ∷ live_t ∷ live_t ∷ live_tf ∷ live_tf ∷ live_tf ∷ live_tf ∷ live_tf ∷ live_tf ∷ live_tf ∷ live_tf ∷ live_tf ∷ live_tfff ∷ live_tfff ∷ live_tfff ∷ live_tfff ∷ live_tff ∷ live_tff ∷ live_tf ∷ live_tf ∷ live_tf ∷ live_tf ∷ live_tf ∷ live_tf ∷ live_tf ∷ live_tf ∷ live_tff ∷ live_tf ∷ live_tf ∷ live_tf ∷ live_tf ∷ live_tf ∷ live_tf ∷ live_tf ∷ live_tf ∷ live_tff ∷ live_tf ∷ live_tf ∷ live_tf ∷ live_tf ∷ live_tffff ∷ live_ttftf ∷ live_tf ∷ live_tf ∷ live_t ∷ []; glues = false } ∷
    record { above = live_tf ∷ live_tf ∷ live_tf ∷ live_t ∷ live_t ∷ live_tff ∷ live_tf ∷ []; below = live_t ∷ live_tf ∷ live_tf ∷ live_tt ∷ live_t ∷ live_tff ∷ live_tfff ∷ live_t ∷ live_tf ∷ live_t ∷ live_tff ∷ live_tff ∷ live_tf ∷ live_t ∷ live_tf ∷ live_tt ∷ live_t ∷ live_tf ∷ live_ttf ∷ live_t ∷ live_tf ∷ live_tff ∷ live_tf ∷ live_t ∷ live_tf ∷ live_tff ∷ live_tt ∷ live_tf ∷ live_t ∷ live_t ∷ live_tf ∷ live_tf ∷ live_tf ∷ live_tf ∷ live_tf ∷ live_tf ∷ live_tf ∷ live_tf ∷ live_tf ∷ live_tfff ∷ live_tfff ∷ live_tfff ∷ live_tfff ∷ live_tff ∷ live_tff ∷ live_tf ∷ live_tf ∷ live_tf ∷ live_tf ∷ live_tf ∷ live_tf ∷ live_tf ∷ live_tf ∷ live_tff ∷ live_tf ∷ live_tf ∷ live_tf ∷ live_tf ∷ live_tf ∷ live_tf ∷ live_tf ∷ live_tf ∷ live_tff ∷ live_tf ∷ live_tf ∷ live_tf ∷ live_tf ∷ live_tffff ∷ live_ttftf ∷ live_tf ∷ live_tf ∷ live_t ∷ []; glues = true } ∷
    record { above = live_tf ∷ live_tf ∷ live_tf ∷ live_t ∷ live_t ∷ live_tff ∷ live_tf ∷ []; below = live_t ∷ live_tt ∷ live_tf ∷ live_tt ∷ live_t ∷ live_tff ∷ live_tfff ∷ live_t ∷ live_tf ∷ live_t ∷ live_tff ∷ live_tff ∷ live_tf ∷ live_t ∷ live_tf ∷ live_tt ∷ live_t ∷ live_tf ∷ live_ttf ∷ live_t ∷ live_tf ∷ live_tff ∷ live_tf ∷ live_t ∷ live_tf ∷ live_tff ∷ live_tf ∷ live_tf ∷ live_t ∷ live_t ∷ live_tf ∷ live_tf ∷ live_tf ∷ live_tf ∷ live_tf ∷ live_tf ∷ live_tf ∷ live_tf ∷ live_tf ∷ live_tfff ∷ live_tfff ∷ live_tfff ∷ live_tfff ∷ live_tff ∷ live_tff ∷ live_tf ∷ live_tf ∷ live_tf ∷ live_tf ∷ live_tf ∷ live_tf ∷ live_tf ∷ live_tf ∷ live_tff ∷ live_tf ∷ live_tf ∷ live_tf ∷ live_tf ∷ live_tf ∷ live_tf ∷ live_tf ∷ live_tf ∷ live_tff ∷ live_tf ∷ live_tf ∷ live_tf ∷ live_tf ∷ live_tffff ∷ live_ttftf ∷ live_tf ∷ live_tf ∷ live_t ∷ []; glues = true } ∷
    record { above = live_tf ∷ live_tf ∷ live_tf ∷ live_t ∷ live_t ∷ live_ttt ∷ live_tf ∷ []; below = live_t ∷ live_tf ∷ live_tf ∷ live_tt ∷ live_t ∷ live_tff ∷ live_ttff ∷ live_t ∷ live_tf ∷ live_t ∷ live_tff ∷ live_tff ∷ live_tf ∷ live_t ∷ live_tf ∷ live_tt ∷ live_t ∷ live_tf ∷ live_ttf ∷ live_t ∷ live_tf ∷ live_ttf ∷ live_tf ∷ live_t ∷ live_tf ∷ live_tff ∷ live_tf ∷ live_tf ∷ live_t ∷ live_t ∷ live_tf ∷ live_tf ∷ live_tf ∷ live_tf ∷ live_tf ∷ live_tf ∷ live_tf ∷ live_tf ∷ live_tf ∷ live_tfff ∷ live_tfff ∷ live_tfff ∷ live_tfff ∷ live_tff ∷ live_tff ∷ live_tf ∷ live_tf ∷ live_tf ∷ live_tf ∷ live_tf ∷ live_tf ∷ live_tf ∷ live_tf ∷ live_tff ∷ live_tf ∷ live_tf ∷ live_tf ∷ live_tf ∷ live_tf ∷ live_tf ∷ live_tf ∷ live_tf ∷ live_tff ∷ live_tf ∷ live_tf ∷ live_tf ∷ live_tf ∷ live_tffff ∷ live_ttftf ∷ live_tf ∷ live_tf ∷ live_t ∷ []; glues = false } ∷
    record { above = live_tf ∷ live_tf ∷ live_tf ∷ live_t ∷ live_t ∷ live_tff ∷ live_tt ∷ []; below = live_t ∷ live_tf ∷ live_tf ∷ live_tt ∷ live_t ∷ live_tff ∷ live_tfff ∷ live_t ∷ live_tf ∷ live_t ∷ live_tff ∷ live_tff ∷ live_tf ∷ live_t ∷ live_tf ∷ live_tt ∷ live_t ∷ live_tf ∷ live_ttf ∷ live_t ∷ live_tf ∷ live_tff ∷ live_tf ∷ live_t ∷ live_tf ∷ live_tff ∷ live_tf ∷ live_tf ∷ live_t ∷ live_t ∷ live_tf ∷ live_tt ∷ live_tf ∷ live_tt ∷ live_tf ∷ live_tf ∷ live_tf ∷ live_tf ∷ live_tt ∷ live_tfff ∷ live_tfff ∷ live_tfff ∷ live_tfff ∷ live_tff ∷ live_tff ∷ live_tf ∷ live_tf ∷ live_tf ∷ live_tf ∷ live_tf ∷ live_tf ∷ live_tf ∷ live_tf ∷ live_tff ∷ live_tf ∷ live_tf ∷ live_tf ∷ live_tf ∷ live_tf ∷ live_tt ∷ live_tf ∷ live_tf ∷ live_tff ∷ live_tf ∷ live_tf ∷ live_tt ∷ live_tf ∷ live_tffff ∷ live_ttftf ∷ live_tf ∷ live_tf ∷ live_t ∷ []; glues = true } ∷
    rest

unfoldable pub befores_2 : List (Before) → List (Before)
befores_2 rest =
    record { above = live_tf ∷ live_tf ∷ live_tf ∷ live_t ∷ live_t ∷ live_tff ∷ live_tf ∷ []; below = live_t ∷ live_tf ∷ live_tf ∷ live_tf ∷ live_t ∷ live_tff ∷ live_tfff ∷ live_t ∷ live_tf ∷ live_t ∷ live_tff ∷ live_tff ∷ live_tf ∷ live_t ∷ live_tf ∷ live_tt ∷ live_t ∷ live_tf ∷ live_ttf ∷ live_t ∷ live_tf ∷ live_tff ∷ live_tf ∷ live_t ∷ live_tf ∷ live_tff ∷ live_tf ∷ live_tf ∷ live_t ∷ live_t ∷ live_tf ∷ live_tf ∷ live_tf ∷ live_tf ∷ live_tf ∷ live_tf ∷ live_tf ∷ live_tf ∷ live_tf ∷ live_tfff ∷ live_tfff ∷ live_tfff ∷ live_tfff ∷ live_tff ∷ live_tff ∷ live_tf ∷ live_tf ∷ live_tf ∷ live_tf ∷ live_tf ∷ live_tf ∷ live_tt ∷ live_tf ∷ live_tff ∷ live_tf ∷ live_tf ∷ live_tf ∷ live_tf ∷ live_tf ∷ live_tf ∷ live_tf ∷ live_tf ∷ live_tff ∷ live_tf ∷ live_tf ∷ live_tf ∷ live_tf ∷ live_tffff ∷ live_ttftf ∷ live_tf ∷ live_tf ∷ live_t ∷ []; glues = true } ∷
    record { above = live_tf ∷ live_tf ∷ live_tf ∷ live_t ∷ live_t ∷ live_tff ∷ live_tf ∷ []; below = live_t ∷ live_tf ∷ live_tf ∷ live_tt ∷ live_t ∷ live_tff ∷ live_tfff ∷ live_t ∷ live_tf ∷ live_t ∷ live_tff ∷ live_tff ∷ live_tf ∷ live_t ∷ live_tf ∷ live_tt ∷ live_t ∷ live_tf ∷ live_ttf ∷ live_t ∷ live_tf ∷ live_tff ∷ live_tf ∷ live_t ∷ live_tf ∷ live_tff ∷ live_tf ∷ live_tf ∷ live_t ∷ live_t ∷ live_tf ∷ live_tf ∷ live_tf ∷ live_tf ∷ live_tf ∷ live_tf ∷ live_tf ∷ live_tf ∷ live_tf ∷ live_tfff ∷ live_tfff ∷ live_tfff ∷ live_tfff ∷ live_tff ∷ live_tff ∷ live_tf ∷ live_tf ∷ live_tf ∷ live_tf ∷ live_tf ∷ live_tf ∷ live_tf ∷ live_tf ∷ live_tff ∷ live_tf ∷ live_tf ∷ live_tf ∷ live_tf ∷ live_tf ∷ live_tf ∷ live_tf ∷ live_tf ∷ live_tff ∷ live_tf ∷ live_tf ∷ live_tf ∷ live_tf ∷ live_tffff ∷ live_tftft ∷ live_tf ∷ live_tf ∷ live_t ∷ []; glues = true } ∷
    record { above = live_tf ∷ live_tf ∷ live_tf ∷ live_t ∷ live_t ∷ live_tff ∷ live_tf ∷ []; below = live_t ∷ live_tf ∷ live_tf ∷ live_tt ∷ live_t ∷ live_tff ∷ live_tfff ∷ live_t ∷ live_tf ∷ live_t ∷ live_tff ∷ live_tff ∷ live_tf ∷ live_t ∷ live_tf ∷ live_tt ∷ live_t ∷ live_tf ∷ live_ttf ∷ live_t ∷ live_tf ∷ live_tff ∷ live_tf ∷ live_t ∷ live_tf ∷ live_tff ∷ live_tf ∷ live_tf ∷ live_t ∷ live_t ∷ live_tf ∷ live_tf ∷ live_tf ∷ live_tf ∷ live_tf ∷ live_tf ∷ live_tf ∷ live_tf ∷ live_tf ∷ live_tfff ∷ live_tfff ∷ live_tfff ∷ live_tfff ∷ live_tff ∷ live_tff ∷ live_tf ∷ live_tf ∷ live_tf ∷ live_tf ∷ live_tf ∷ live_tf ∷ live_tf ∷ live_tf ∷ live_tff ∷ live_tf ∷ live_tf ∷ live_tf ∷ live_tf ∷ live_tf ∷ live_tf ∷ live_tf ∷ live_tf ∷ live_tft ∷ live_tf ∷ live_tf ∷ live_tf ∷ live_tf ∷ live_tffff ∷ live_ttftf ∷ live_tf ∷ live_tf ∷ live_t ∷ []; glues = true } ∷
    record { above = live_tf ∷ live_tf ∷ live_tf ∷ live_t ∷ live_t ∷ live_tff ∷ live_tt ∷ []; below = live_t ∷ live_tf ∷ live_tf ∷ live_tt ∷ live_t ∷ live_tff ∷ live_tfff ∷ live_t ∷ live_tf ∷ live_t ∷ live_tff ∷ live_tff ∷ live_tf ∷ live_t ∷ live_tf ∷ live_tt ∷ live_t ∷ live_tf ∷ live_ttf ∷ live_t ∷ live_tf ∷ live_tff ∷ live_tf ∷ live_t ∷ live_tf ∷ live_tff ∷ live_tf ∷ live_tf ∷ live_t ∷ live_t ∷ live_tf ∷ live_tf ∷ live_tf ∷ live_tf ∷ live_tf ∷ live_tf ∷ live_tf ∷ live_tf ∷ live_tf ∷ live_tfff ∷ live_tfff ∷ live_tfff ∷ live_tfff ∷ live_tff ∷ live_tff ∷ live_tf ∷ live_tf ∷ live_tf ∷ live_tf ∷ live_tf ∷ live_tf ∷ live_tf ∷ live_tf ∷ live_tff ∷ live_tf ∷ live_tf ∷ live_tf ∷ live_tf ∷ live_tf ∷ live_tf ∷ live_tf ∷ live_tt ∷ live_ttf ∷ live_tt ∷ live_tf ∷ live_tf ∷ live_tf ∷ live_tffff ∷ live_ttftf ∷ live_tf ∷ live_tf ∷ live_t ∷ []; glues = true } ∷
    record { above = live_tf ∷ live_tf ∷ live_tf ∷ live_t ∷ live_t ∷ live_tff ∷ live_tf ∷ []; below = live_t ∷ live_tf ∷ live_tf ∷ live_tt ∷ live_t ∷ live_tff ∷ live_ttff ∷ live_t ∷ live_tf ∷ live_t ∷ live_tff ∷ live_tff ∷ live_tf ∷ live_t ∷ live_tt ∷ live_tt ∷ live_t ∷ live_tt ∷ live_ttf ∷ live_t ∷ live_tf ∷ live_tff ∷ live_tf ∷ live_t ∷ live_tf ∷ live_tff ∷ live_tf ∷ live_tf ∷ live_t ∷ live_t ∷ live_tf ∷ live_tf ∷ live_tf ∷ live_tf ∷ live_tf ∷ live_tf ∷ live_tf ∷ live_tf ∷ live_tf ∷ live_tfff ∷ live_tfff ∷ live_tfff ∷ live_tfff ∷ live_tff ∷ live_tff ∷ live_tf ∷ live_tf ∷ live_tf ∷ live_tf ∷ live_tf ∷ live_tf ∷ live_tf ∷ live_tf ∷ live_tff ∷ live_tf ∷ live_tf ∷ live_tf ∷ live_tf ∷ live_tf ∷ live_tf ∷ live_tf ∷ live_tf ∷ live_tff ∷ live_tf ∷ live_tf ∷ live_tf ∷ live_tf ∷ live_tffff ∷ live_ttftf ∷ live_tf ∷ live_tf ∷ live_t ∷ []; glues = true } ∷
    record { above = live_tf ∷ live_tf ∷ live_tf ∷ live_t ∷ live_t ∷ live_tff ∷ live_tf ∷ []; below = live_t ∷ live_tf ∷ live_tf ∷ live_tt ∷ live_t ∷ live_tff ∷ live_ttff ∷ live_t ∷ live_tf ∷ live_t ∷ live_tff ∷ live_tff ∷ live_tf ∷ live_t ∷ live_tf ∷ live_tt ∷ live_t ∷ live_tt ∷ live_ttf ∷ live_t ∷ live_tf ∷ live_tff ∷ live_tf ∷ live_t ∷ live_tf ∷ live_tff ∷ live_tf ∷ live_tf ∷ live_t ∷ live_t ∷ live_tf ∷ live_tf ∷ live_tf ∷ live_tf ∷ live_tf ∷ live_tf ∷ live_tf ∷ live_tf ∷ live_tf ∷ live_tfff ∷ live_tfff ∷ live_tfff ∷ live_tfff ∷ live_tff ∷ live_tff ∷ live_tf ∷ live_tf ∷ live_tf ∷ live_tf ∷ live_tf ∷ live_tf ∷ live_tf ∷ live_tf ∷ live_tff ∷ live_tf ∷ live_tf ∷ live_tf ∷ live_tf ∷ live_tf ∷ live_tf ∷ live_tf ∷ live_tf ∷ live_tff ∷ live_tf ∷ live_tf ∷ live_tf ∷ live_tf ∷ live_tffff ∷ live_ttftf ∷ live_tf ∷ live_tf ∷ live_t ∷ []; glues = true } ∷
    record { above = live_tf ∷ live_tf ∷ live_tf ∷ live_t ∷ live_t ∷ live_tff ∷ live_tt ∷ []; below = live_t ∷ live_tf ∷ live_tf ∷ live_tt ∷ live_t ∷ live_tff ∷ live_tfff ∷ live_t ∷ live_tf ∷ live_t ∷ live_tff ∷ live_tff ∷ live_tf ∷ live_t ∷ live_tf ∷ live_tf ∷ live_t ∷ live_tf ∷ live_tff ∷ live_t ∷ live_tf ∷ live_tff ∷ live_tf ∷ live_t ∷ live_tf ∷ live_tff ∷ live_tf ∷ live_tf ∷ live_t ∷ live_t ∷ live_tf ∷ live_tt ∷ live_tf ∷ live_tt ∷ live_tf ∷ live_tf ∷ live_tf ∷ live_tf ∷ live_tt ∷ live_tfff ∷ live_tfff ∷ live_tfff ∷ live_tfff ∷ live_tff ∷ live_tff ∷ live_tf ∷ live_tf ∷ live_tf ∷ live_tf ∷ live_tf ∷ live_tf ∷ live_tf ∷ live_tf ∷ live_tff ∷ live_tf ∷ live_tf ∷ live_tf ∷ live_tf ∷ live_tf ∷ live_tt ∷ live_tf ∷ live_tf ∷ live_tff ∷ live_tf ∷ live_tf ∷ live_tt ∷ live_tf ∷ live_tffff ∷ live_ttftf ∷ live_tf ∷ live_tf ∷ live_t ∷ []; glues = true } ∷
    record { above = live_tf ∷ live_tf ∷ live_tf ∷ live_t ∷ live_t ∷ live_tff ∷ live_tt ∷ []; below = live_t ∷ live_tf ∷ live_tf ∷ live_tt ∷ live_t ∷ live_tff ∷ live_tfff ∷ live_t ∷ live_tf ∷ live_t ∷ live_tff ∷ live_tff ∷ live_tf ∷ live_t ∷ live_tf ∷ live_tt ∷ live_t ∷ live_tf ∷ live_ttf ∷ live_t ∷ live_tf ∷ live_tff ∷ live_tf ∷ live_t ∷ live_tf ∷ live_tff ∷ live_tf ∷ live_tf ∷ live_t ∷ live_t ∷ live_tf ∷ live_tt ∷ live_tf ∷ live_tt ∷ live_tf ∷ live_tf ∷ live_tf ∷ live_tf ∷ live_tt ∷ live_tfff ∷ live_tfff ∷ live_tfff ∷ live_tfff ∷ live_tff ∷ live_tff ∷ live_tf ∷ live_tf ∷ live_tf ∷ live_tf ∷ live_tf ∷ live_tf ∷ live_tf ∷ live_tf ∷ live_tff ∷ live_tf ∷ live_tf ∷ live_tf ∷ live_tf ∷ live_tf ∷ live_tt ∷ live_tf ∷ live_tf ∷ live_tff ∷ live_tf ∷ live_tf ∷ live_tt ∷ live_tf ∷ live_tffff ∷ live_ttftf ∷ live_tf ∷ live_tt ∷ live_t ∷ []; glues = true } ∷
    record { above = live_tf ∷ live_tf ∷ live_tf ∷ live_t ∷ live_t ∷ live_tff ∷ live_tt ∷ []; below = live_t ∷ live_tf ∷ live_tf ∷ live_tt ∷ live_t ∷ live_tff ∷ live_tfff ∷ live_t ∷ live_tf ∷ live_t ∷ live_tff ∷ live_tff ∷ live_tf ∷ live_t ∷ live_tf ∷ live_tt ∷ live_t ∷ live_tf ∷ live_ttf ∷ live_t ∷ live_tf ∷ live_tff ∷ live_tf ∷ live_t ∷ live_tf ∷ live_tff ∷ live_tf ∷ live_tf ∷ live_t ∷ live_t ∷ live_tf ∷ live_tt ∷ live_tf ∷ live_tt ∷ live_tf ∷ live_tf ∷ live_tf ∷ live_tf ∷ live_tt ∷ live_tfff ∷ live_tfff ∷ live_tfff ∷ live_tfff ∷ live_tff ∷ live_tff ∷ live_tf ∷ live_tf ∷ live_tf ∷ live_tf ∷ live_tf ∷ live_tf ∷ live_tf ∷ live_tf ∷ live_tff ∷ live_tf ∷ live_tf ∷ live_tf ∷ live_tf ∷ live_tf ∷ live_tt ∷ live_tf ∷ live_tt ∷ live_ttf ∷ live_tt ∷ live_tf ∷ live_tt ∷ live_tf ∷ live_tffff ∷ live_ttftf ∷ live_tf ∷ live_tf ∷ live_t ∷ []; glues = true } ∷
    record { above = live_tf ∷ live_tf ∷ live_tf ∷ live_t ∷ live_t ∷ live_tff ∷ live_tt ∷ []; below = live_t ∷ live_tf ∷ live_tf ∷ live_tt ∷ live_t ∷ live_tff ∷ live_tfff ∷ live_t ∷ live_tf ∷ live_t ∷ live_tff ∷ live_tff ∷ live_tf ∷ live_t ∷ live_tf ∷ live_tt ∷ live_t ∷ live_tf ∷ live_ttf ∷ live_t ∷ live_tf ∷ live_tff ∷ live_tf ∷ live_t ∷ live_tf ∷ live_tff ∷ live_tf ∷ live_tf ∷ live_t ∷ live_t ∷ live_tf ∷ live_tf ∷ live_tf ∷ live_tf ∷ live_tf ∷ live_tf ∷ live_tf ∷ live_tf ∷ live_tf ∷ live_tfff ∷ live_tfff ∷ live_tfff ∷ live_tfff ∷ live_tff ∷ live_tff ∷ live_tf ∷ live_tf ∷ live_tf ∷ live_tf ∷ live_tf ∷ live_tf ∷ live_tf ∷ live_tf ∷ live_tff ∷ live_tf ∷ live_tf ∷ live_tf ∷ live_tf ∷ live_tf ∷ live_tf ∷ live_tt ∷ live_tf ∷ live_tff ∷ live_tf ∷ live_tf ∷ live_tf ∷ live_tf ∷ live_tffff ∷ live_ttftf ∷ live_tf ∷ live_tf ∷ live_t ∷ []; glues = true } ∷
    record { above = live_tf ∷ live_tf ∷ live_tf ∷ live_t ∷ live_t ∷ live_tff ∷ live_tf ∷ []; below = live_t ∷ live_tf ∷ live_tf ∷ live_tf ∷ live_t ∷ live_tff ∷ live_ttff ∷ live_t ∷ live_tt ∷ live_t ∷ live_tff ∷ live_ttt ∷ live_tt ∷ live_t ∷ live_tf ∷ live_tt ∷ live_t ∷ live_tf ∷ live_ttf ∷ live_t ∷ live_tf ∷ live_ttf ∷ live_tf ∷ live_t ∷ live_tf ∷ live_tff ∷ live_tf ∷ live_tf ∷ live_t ∷ live_t ∷ live_tf ∷ live_tf ∷ live_tf ∷ live_tf ∷ live_tf ∷ live_tf ∷ live_tf ∷ live_tf ∷ live_tf ∷ live_tfff ∷ live_tfff ∷ live_tfff ∷ live_tfff ∷ live_tff ∷ live_tff ∷ live_tf ∷ live_tf ∷ live_tf ∷ live_tf ∷ live_tf ∷ live_tf ∷ live_tf ∷ live_tf ∷ live_tff ∷ live_tf ∷ live_tf ∷ live_tf ∷ live_tf ∷ live_tf ∷ live_tf ∷ live_tf ∷ live_tf ∷ live_tff ∷ live_tf ∷ live_tf ∷ live_tf ∷ live_tf ∷ live_tffff ∷ live_ttftf ∷ live_tf ∷ live_tf ∷ live_t ∷ []; glues = false } ∷
    record { above = live_tf ∷ live_tf ∷ live_tf ∷ live_t ∷ live_t ∷ live_tff ∷ live_tt ∷ []; below = live_t ∷ live_tf ∷ live_tf ∷ live_tt ∷ live_t ∷ live_tff ∷ live_tfff ∷ live_t ∷ live_tf ∷ live_t ∷ live_tff ∷ live_ttt ∷ live_tf ∷ live_t ∷ live_tf ∷ live_tt ∷ live_t ∷ live_tf ∷ live_ttf ∷ live_t ∷ live_tf ∷ live_tff ∷ live_tf ∷ live_t ∷ live_tf ∷ live_tff ∷ live_tf ∷ live_tf ∷ live_t ∷ live_t ∷ live_tf ∷ live_tf ∷ live_tf ∷ live_tf ∷ live_tf ∷ live_tf ∷ live_tf ∷ live_tf ∷ live_tf ∷ live_tfff ∷ live_tfff ∷ live_tfff ∷ live_tfff ∷ live_tff ∷ live_tff ∷ live_tf ∷ live_tf ∷ live_tf ∷ live_tf ∷ live_tf ∷ live_tf ∷ live_tf ∷ live_tf ∷ live_tff ∷ live_tf ∷ live_tf ∷ live_tf ∷ live_tf ∷ live_tf ∷ live_tf ∷ live_tf ∷ live_tf ∷ live_tff ∷ live_tf ∷ live_tf ∷ live_tf ∷ live_tf ∷ live_tffff ∷ live_ttftf ∷ live_tf ∷ live_tf ∷ live_t ∷ []; glues = true } ∷
    record { above = live_tf ∷ live_tf ∷ live_tf ∷ live_t ∷ live_t ∷ live_tff ∷ live_tt ∷ []; below = live_t ∷ live_tf ∷ live_tf ∷ live_tf ∷ live_t ∷ live_tff ∷ live_tfff ∷ live_t ∷ live_tf ∷ live_t ∷ live_tff ∷ live_tff ∷ live_tf ∷ live_t ∷ live_tf ∷ live_tt ∷ live_t ∷ live_tf ∷ live_ttf ∷ live_t ∷ live_tf ∷ live_tff ∷ live_tf ∷ live_t ∷ live_tf ∷ live_tff ∷ live_tf ∷ live_tf ∷ live_t ∷ live_t ∷ live_tf ∷ live_tf ∷ live_tf ∷ live_tf ∷ live_tf ∷ live_tf ∷ live_tf ∷ live_tf ∷ live_tf ∷ live_tfff ∷ live_tfff ∷ live_tfff ∷ live_tfff ∷ live_tff ∷ live_tff ∷ live_tf ∷ live_tf ∷ live_tf ∷ live_tf ∷ live_tf ∷ live_tf ∷ live_tf ∷ live_tf ∷ live_tff ∷ live_tf ∷ live_tf ∷ live_tf ∷ live_tf ∷ live_tf ∷ live_tf ∷ live_tf ∷ live_tf ∷ live_tff ∷ live_tf ∷ live_tf ∷ live_tf ∷ live_tf ∷ live_tffff ∷ live_ttftf ∷ live_tf ∷ live_tf ∷ live_t ∷ []; glues = true } ∷
    record { above = live_tf ∷ live_tf ∷ live_tf ∷ live_t ∷ live_t ∷ live_tff ∷ live_tt ∷ []; below = live_t ∷ live_tf ∷ live_tf ∷ live_tf ∷ live_t ∷ live_tff ∷ live_tfff ∷ live_t ∷ live_tf ∷ live_t ∷ live_tff ∷ live_tff ∷ live_tf ∷ live_t ∷ live_tf ∷ live_tf ∷ live_t ∷ live_tf ∷ live_tff ∷ live_t ∷ live_tf ∷ live_tff ∷ live_tf ∷ live_t ∷ live_tf ∷ live_tff ∷ live_tf ∷ live_tf ∷ live_t ∷ live_t ∷ live_tf ∷ live_tf ∷ live_tf ∷ live_tf ∷ live_tf ∷ live_tf ∷ live_tf ∷ live_tf ∷ live_tf ∷ live_tfff ∷ live_tfff ∷ live_tfff ∷ live_tfff ∷ live_tff ∷ live_tff ∷ live_tf ∷ live_tf ∷ live_tf ∷ live_tf ∷ live_tf ∷ live_tf ∷ live_tf ∷ live_tf ∷ live_tff ∷ live_tf ∷ live_tf ∷ live_tf ∷ live_tf ∷ live_tf ∷ live_tf ∷ live_tf ∷ live_tf ∷ live_tff ∷ live_tf ∷ live_tf ∷ live_tf ∷ live_tf ∷ live_tffff ∷ live_ttftf ∷ live_tf ∷ live_tf ∷ live_t ∷ []; glues = true } ∷
    record { above = live_tf ∷ live_tf ∷ live_tf ∷ live_t ∷ live_t ∷ live_tff ∷ live_tt ∷ []; below = live_t ∷ live_tf ∷ live_tf ∷ live_tt ∷ live_t ∷ live_tff ∷ live_tfff ∷ live_t ∷ live_tf ∷ live_t ∷ live_tff ∷ live_tff ∷ live_tf ∷ live_t ∷ live_tf ∷ live_tt ∷ live_t ∷ live_tf ∷ live_ttf ∷ live_t ∷ live_tf ∷ live_tff ∷ live_tf ∷ live_t ∷ live_tt ∷ live_tff ∷ live_tf ∷ live_tf ∷ live_t ∷ live_t ∷ live_tf ∷ live_tf ∷ live_tf ∷ live_tf ∷ live_tf ∷ live_tf ∷ live_tf ∷ live_tf ∷ live_tf ∷ live_tfff ∷ live_tfff ∷ live_tfff ∷ live_tfff ∷ live_tff ∷ live_tff ∷ live_tf ∷ live_tf ∷ live_tf ∷ live_tf ∷ live_tf ∷ live_tf ∷ live_tf ∷ live_tf ∷ live_tff ∷ live_tf ∷ live_tf ∷ live_tf ∷ live_tf ∷ live_tf ∷ live_tf ∷ live_tf ∷ live_tf ∷ live_tff ∷ live_tf ∷ live_tf ∷ live_tf ∷ live_tf ∷ live_tffff ∷ live_ttftf ∷ live_tf ∷ live_tf ∷ live_t ∷ []; glues = true } ∷
    record { above = live_tf ∷ live_tf ∷ live_tf ∷ live_t ∷ live_t ∷ live_tff ∷ live_tt ∷ []; below = live_t ∷ live_tf ∷ live_tf ∷ live_tt ∷ live_t ∷ live_tff ∷ live_tfff ∷ live_t ∷ live_tf ∷ live_t ∷ live_tff ∷ live_tff ∷ live_tf ∷ live_t ∷ live_tf ∷ live_tt ∷ live_t ∷ live_tf ∷ live_ttf ∷ live_t ∷ live_tt ∷ live_ttf ∷ live_tf ∷ live_t ∷ live_tf ∷ live_tff ∷ live_tf ∷ live_tf ∷ live_t ∷ live_t ∷ live_tf ∷ live_tf ∷ live_tf ∷ live_tf ∷ live_tf ∷ live_tf ∷ live_tf ∷ live_tf ∷ live_tf ∷ live_tfff ∷ live_tfff ∷ live_tfff ∷ live_tfff ∷ live_tff ∷ live_tff ∷ live_tf ∷ live_tf ∷ live_tf ∷ live_tf ∷ live_tf ∷ live_tf ∷ live_tf ∷ live_tf ∷ live_tff ∷ live_tf ∷ live_tf ∷ live_tf ∷ live_tf ∷ live_tf ∷ live_tf ∷ live_tf ∷ live_tf ∷ live_tff ∷ live_tf ∷ live_tf ∷ live_tf ∷ live_tf ∷ live_tffff ∷ live_ttftf ∷ live_tf ∷ live_tf ∷ live_t ∷ []; glues = true } ∷
    record { above = live_tf ∷ live_tf ∷ live_tf ∷ live_t ∷ live_t ∷ live_tff ∷ live_tf ∷ []; below = live_t ∷ live_tf ∷ live_tf ∷ live_tf ∷ live_t ∷ live_tff ∷ live_ttff ∷ live_t ∷ live_tt ∷ live_t ∷ live_ttt ∷ live_tff ∷ live_tt ∷ live_t ∷ live_tf ∷ live_tt ∷ live_t ∷ live_tf ∷ live_ttf ∷ live_t ∷ live_tf ∷ live_ttf ∷ live_tf ∷ live_t ∷ live_tf ∷ live_tff ∷ live_tf ∷ live_tf ∷ live_t ∷ live_t ∷ live_tf ∷ live_tf ∷ live_tf ∷ live_tf ∷ live_tf ∷ live_tf ∷ live_tf ∷ live_tf ∷ live_tf ∷ live_tfff ∷ live_tfff ∷ live_tfff ∷ live_tfff ∷ live_tff ∷ live_tff ∷ live_tf ∷ live_tf ∷ live_tf ∷ live_tf ∷ live_tf ∷ live_tf ∷ live_tf ∷ live_tf ∷ live_tff ∷ live_tf ∷ live_tf ∷ live_tf ∷ live_tf ∷ live_tf ∷ live_tf ∷ live_tf ∷ live_tf ∷ live_tff ∷ live_tf ∷ live_tf ∷ live_tf ∷ live_tf ∷ live_tffff ∷ live_ttftf ∷ live_tf ∷ live_tf ∷ live_t ∷ []; glues = false } ∷
    record { above = live_tf ∷ live_tf ∷ live_tf ∷ live_t ∷ live_t ∷ live_tff ∷ live_tt ∷ []; below = live_t ∷ live_tf ∷ live_tf ∷ live_tt ∷ live_t ∷ live_tff ∷ live_tfff ∷ live_t ∷ live_tf ∷ live_t ∷ live_ttt ∷ live_tff ∷ live_tf ∷ live_t ∷ live_tf ∷ live_tt ∷ live_t ∷ live_tf ∷ live_ttf ∷ live_t ∷ live_tf ∷ live_tff ∷ live_tf ∷ live_t ∷ live_tf ∷ live_tff ∷ live_tf ∷ live_tf ∷ live_t ∷ live_t ∷ live_tf ∷ live_tf ∷ live_tf ∷ live_tf ∷ live_tf ∷ live_tf ∷ live_tf ∷ live_tf ∷ live_tf ∷ live_tfff ∷ live_tfff ∷ live_tfff ∷ live_tfff ∷ live_tff ∷ live_tff ∷ live_tf ∷ live_tf ∷ live_tf ∷ live_tf ∷ live_tf ∷ live_tf ∷ live_tf ∷ live_tf ∷ live_tff ∷ live_tf ∷ live_tf ∷ live_tf ∷ live_tf ∷ live_tf ∷ live_tf ∷ live_tf ∷ live_tf ∷ live_tff ∷ live_tf ∷ live_tf ∷ live_tf ∷ live_tf ∷ live_tffff ∷ live_ttftf ∷ live_tf ∷ live_tf ∷ live_t ∷ []; glues = true } ∷
    record { above = live_tf ∷ live_tf ∷ live_tf ∷ live_t ∷ live_t ∷ live_tff ∷ live_tt ∷ []; below = live_t ∷ live_tf ∷ live_tf ∷ live_tt ∷ live_t ∷ live_tff ∷ live_tfff ∷ live_t ∷ live_tf ∷ live_t ∷ live_ttt ∷ live_tff ∷ live_tf ∷ live_t ∷ live_tf ∷ live_tf ∷ live_t ∷ live_tf ∷ live_tff ∷ live_t ∷ live_tf ∷ live_tff ∷ live_tf ∷ live_t ∷ live_tf ∷ live_tff ∷ live_tf ∷ live_tf ∷ live_t ∷ live_t ∷ live_tf ∷ live_tf ∷ live_tf ∷ live_tf ∷ live_tf ∷ live_tf ∷ live_tf ∷ live_tf ∷ live_tf ∷ live_tfff ∷ live_tfff ∷ live_tfff ∷ live_tfff ∷ live_tff ∷ live_tff ∷ live_tf ∷ live_tf ∷ live_tf ∷ live_tf ∷ live_tf ∷ live_tf ∷ live_tf ∷ live_tf ∷ live_tff ∷ live_tf ∷ live_tf ∷ live_tf ∷ live_tf ∷ live_tf ∷ live_tf ∷ live_tf ∷ live_tf ∷ live_tff ∷ live_tf ∷ live_tf ∷ live_tf ∷ live_tf ∷ live_tffff ∷ live_ttftf ∷ live_tf ∷ live_tf ∷ live_t ∷ []; glues = true } ∷
    record { above = live_tf ∷ live_tf ∷ live_tf ∷ live_t ∷ live_t ∷ live_tff ∷ live_tt ∷ []; below = live_t ∷ live_tf ∷ live_tf ∷ live_tt ∷ live_t ∷ live_tff ∷ live_tfff ∷ live_t ∷ live_tf ∷ live_t ∷ live_ttt ∷ live_tff ∷ live_tf ∷ live_t ∷ live_tf ∷ live_tt ∷ live_t ∷ live_tf ∷ live_ttf ∷ live_t ∷ live_tf ∷ live_tff ∷ live_tf ∷ live_t ∷ live_tf ∷ live_tff ∷ live_tf ∷ live_tf ∷ live_t ∷ live_t ∷ live_tf ∷ live_tf ∷ live_tf ∷ live_tf ∷ live_tf ∷ live_tf ∷ live_tf ∷ live_tf ∷ live_tf ∷ live_tfff ∷ live_tfff ∷ live_tfff ∷ live_tfff ∷ live_tff ∷ live_tff ∷ live_tf ∷ live_tf ∷ live_tf ∷ live_tf ∷ live_tf ∷ live_tf ∷ live_tf ∷ live_tf ∷ live_tff ∷ live_tf ∷ live_tf ∷ live_tf ∷ live_tf ∷ live_tf ∷ live_tf ∷ live_tf ∷ live_tf ∷ live_tff ∷ live_tf ∷ live_tf ∷ live_tf ∷ live_tt ∷ live_tffff ∷ live_ttftf ∷ live_tf ∷ live_tf ∷ live_t ∷ []; glues = true } ∷
    record { above = live_tf ∷ live_tf ∷ live_tf ∷ live_t ∷ live_t ∷ live_tff ∷ live_tt ∷ []; below = live_t ∷ live_tf ∷ live_tf ∷ live_tt ∷ live_t ∷ live_tff ∷ live_tfff ∷ live_t ∷ live_tf ∷ live_t ∷ live_tff ∷ live_tff ∷ live_tf ∷ live_t ∷ live_tf ∷ live_tt ∷ live_t ∷ live_tf ∷ live_ttf ∷ live_t ∷ live_tf ∷ live_tff ∷ live_tf ∷ live_t ∷ live_tf ∷ live_tff ∷ live_tf ∷ live_tf ∷ live_t ∷ live_t ∷ live_tf ∷ live_tf ∷ live_tf ∷ live_tf ∷ live_tf ∷ live_tf ∷ live_tt ∷ live_tf ∷ live_tf ∷ live_tfff ∷ live_tfff ∷ live_tfff ∷ live_tfff ∷ live_tff ∷ live_tff ∷ live_tf ∷ live_tf ∷ live_tf ∷ live_tf ∷ live_tf ∷ live_tf ∷ live_tf ∷ live_tf ∷ live_tff ∷ live_tf ∷ live_tf ∷ live_tf ∷ live_tf ∷ live_tf ∷ live_tf ∷ live_tf ∷ live_tf ∷ live_tff ∷ live_tf ∷ live_tf ∷ live_tf ∷ live_tf ∷ live_tffff ∷ live_ttftf ∷ live_tt ∷ live_tf ∷ live_t ∷ []; glues = true } ∷
    record { above = live_tf ∷ live_tf ∷ live_tf ∷ live_t ∷ live_t ∷ live_tff ∷ live_tt ∷ []; below = live_t ∷ live_tf ∷ live_tf ∷ live_tt ∷ live_t ∷ live_tff ∷ live_tfff ∷ live_t ∷ live_tf ∷ live_t ∷ live_tff ∷ live_tff ∷ live_tf ∷ live_t ∷ live_tf ∷ live_tf ∷ live_t ∷ live_tf ∷ live_tff ∷ live_t ∷ live_tf ∷ live_tff ∷ live_tf ∷ live_t ∷ live_tf ∷ live_tff ∷ live_tf ∷ live_tf ∷ live_t ∷ live_t ∷ live_tf ∷ live_tf ∷ live_tf ∷ live_tf ∷ live_tf ∷ live_tf ∷ live_tt ∷ live_tf ∷ live_tf ∷ live_tfff ∷ live_tfff ∷ live_tfff ∷ live_tfff ∷ live_tff ∷ live_tff ∷ live_tf ∷ live_tf ∷ live_tf ∷ live_tf ∷ live_tf ∷ live_tf ∷ live_tf ∷ live_tf ∷ live_tff ∷ live_tf ∷ live_tf ∷ live_tf ∷ live_tf ∷ live_tf ∷ live_tf ∷ live_tf ∷ live_tf ∷ live_tff ∷ live_tf ∷ live_tf ∷ live_tf ∷ live_tf ∷ live_tffff ∷ live_ttftf ∷ live_tt ∷ live_tf ∷ live_t ∷ []; glues = true } ∷
    record { above = live_tf ∷ live_tf ∷ live_tf ∷ live_t ∷ live_t ∷ live_tff ∷ live_tt ∷ []; below = live_t ∷ live_tf ∷ live_tf ∷ live_tt ∷ live_t ∷ live_tff ∷ live_tfff ∷ live_t ∷ live_tf ∷ live_t ∷ live_tff ∷ live_tff ∷ live_tf ∷ live_t ∷ live_tf ∷ live_tf ∷ live_t ∷ live_tf ∷ live_tff ∷ live_t ∷ live_tf ∷ live_tff ∷ live_tf ∷ live_t ∷ live_tf ∷ live_tff ∷ live_tf ∷ live_tf ∷ live_t ∷ live_t ∷ live_tf ∷ live_tf ∷ live_tf ∷ live_tf ∷ live_tf ∷ live_tf ∷ live_tt ∷ live_tf ∷ live_tf ∷ live_tfff ∷ live_tfff ∷ live_tfff ∷ live_tfff ∷ live_tff ∷ live_tff ∷ live_tf ∷ live_tf ∷ live_tf ∷ live_tf ∷ live_tf ∷ live_tf ∷ live_tf ∷ live_tf ∷ live_tff ∷ live_tf ∷ live_tf ∷ live_tf ∷ live_tf ∷ live_tf ∷ live_tf ∷ live_tf ∷ live_tf ∷ live_tff ∷ live_tf ∷ live_tf ∷ live_tf ∷ live_tf ∷ live_tffff ∷ live_ttftf ∷ live_tf ∷ live_tf ∷ live_t ∷ []; glues = true } ∷
    record { above = live_tf ∷ live_tf ∷ live_tf ∷ live_t ∷ live_t ∷ live_tff ∷ live_tt ∷ []; below = live_t ∷ live_tf ∷ live_tf ∷ live_tt ∷ live_t ∷ live_tff ∷ live_tfff ∷ live_t ∷ live_tf ∷ live_t ∷ live_tff ∷ live_tff ∷ live_tf ∷ live_t ∷ live_tf ∷ live_tt ∷ live_t ∷ live_tf ∷ live_ttf ∷ live_t ∷ live_tf ∷ live_tff ∷ live_tf ∷ live_t ∷ live_tf ∷ live_tff ∷ live_tf ∷ live_tf ∷ live_t ∷ live_t ∷ live_tf ∷ live_tf ∷ live_tf ∷ live_tf ∷ live_tf ∷ live_tf ∷ live_tf ∷ live_tf ∷ live_tf ∷ live_tfff ∷ live_tfff ∷ live_tfff ∷ live_tfff ∷ live_tff ∷ live_tff ∷ live_tf ∷ live_tf ∷ live_tf ∷ live_tf ∷ live_tf ∷ live_tf ∷ live_tf ∷ live_tf ∷ live_tff ∷ live_tf ∷ live_tf ∷ live_tf ∷ live_tf ∷ live_tf ∷ live_tf ∷ live_tf ∷ live_tf ∷ live_tff ∷ live_tf ∷ live_tf ∷ live_tf ∷ live_tf ∷ live_tffff ∷ live_ttftf ∷ live_tf ∷ live_tf ∷ live_t ∷ []; glues = true } ∷
    record { above = live_tf ∷ live_tf ∷ live_tf ∷ live_t ∷ live_t ∷ live_tff ∷ live_tt ∷ []; below = live_t ∷ live_tf ∷ live_tf ∷ live_tt ∷ live_t ∷ live_tff ∷ live_tfff ∷ live_t ∷ live_tf ∷ live_t ∷ live_tff ∷ live_tff ∷ live_tf ∷ live_t ∷ live_tf ∷ live_tf ∷ live_t ∷ live_tf ∷ live_tff ∷ live_t ∷ live_tf ∷ live_tff ∷ live_tf ∷ live_t ∷ live_tf ∷ live_tff ∷ live_tf ∷ live_tf ∷ live_t ∷ live_t ∷ live_tf ∷ live_tf ∷ live_tf ∷ live_tf ∷ live_tf ∷ live_tf ∷ live_tf ∷ live_tf ∷ live_tf ∷ live_tfff ∷ live_tfff ∷ live_tfff ∷ live_tfff ∷ live_tff ∷ live_tff ∷ live_tf ∷ live_tf ∷ live_tf ∷ live_tf ∷ live_tf ∷ live_tf ∷ live_tf ∷ live_tf ∷ live_tff ∷ live_tf ∷ live_tf ∷ live_tf ∷ live_tf ∷ live_tf ∷ live_tf ∷ live_tf ∷ live_tf ∷ live_tff ∷ live_tf ∷ live_tf ∷ live_tf ∷ live_tf ∷ live_tffff ∷ live_ttftf ∷ live_tf ∷ live_tf ∷ live_t ∷ []; glues = true } ∷
    record { above = live_tf ∷ live_tf ∷ live_tf ∷ live_t ∷ live_t ∷ live_tff ∷ live_tt ∷ []; below = live_t ∷ live_tf ∷ live_tt ∷ live_tt ∷ live_t ∷ live_tff ∷ live_ttff ∷ live_t ∷ live_tf ∷ live_t ∷ live_tff ∷ live_tff ∷ live_tf ∷ live_t ∷ live_tf ∷ live_tt ∷ live_t ∷ live_tf ∷ live_ttf ∷ live_t ∷ live_tf ∷ live_ttf ∷ live_tf ∷ live_t ∷ live_tf ∷ live_tff ∷ live_tf ∷ live_tf ∷ live_t ∷ live_t ∷ live_tf ∷ live_tf ∷ live_tf ∷ live_tf ∷ live_tf ∷ live_tf ∷ live_tf ∷ live_tf ∷ live_tf ∷ live_tfff ∷ live_tfff ∷ live_tfff ∷ live_tfff ∷ live_tff ∷ live_tff ∷ live_tf ∷ live_tf ∷ live_tf ∷ live_tf ∷ live_tf ∷ live_tf ∷ live_tf ∷ live_tf ∷ live_tff ∷ live_tf ∷ live_tf ∷ live_tf ∷ live_tf ∷ live_tf ∷ live_tf ∷ live_tf ∷ live_tf ∷ live_tff ∷ live_tf ∷ live_tf ∷ live_tf ∷ live_tf ∷ live_tffff ∷ live_ttftf ∷ live_tf ∷ live_tf ∷ live_t ∷ []; glues = true } ∷
    record { above = live_tf ∷ live_tf ∷ live_tf ∷ live_t ∷ live_t ∷ live_tff ∷ live_tf ∷ []; below = live_t ∷ live_tf ∷ live_tf ∷ live_tt ∷ live_t ∷ live_tff ∷ live_tttt ∷ live_t ∷ live_tf ∷ live_t ∷ live_tff ∷ live_tff ∷ live_tf ∷ live_t ∷ live_tt ∷ live_tt ∷ live_t ∷ live_tt ∷ live_ttf ∷ live_t ∷ live_tf ∷ live_tff ∷ live_tf ∷ live_t ∷ live_tf ∷ live_tff ∷ live_tf ∷ live_tf ∷ live_t ∷ live_t ∷ live_tf ∷ live_tf ∷ live_tf ∷ live_tf ∷ live_tf ∷ live_tf ∷ live_tf ∷ live_tf ∷ live_tf ∷ live_tfff ∷ live_tfff ∷ live_tfff ∷ live_tfff ∷ live_tff ∷ live_tff ∷ live_tf ∷ live_tf ∷ live_tf ∷ live_tf ∷ live_tf ∷ live_tf ∷ live_tf ∷ live_tf ∷ live_tff ∷ live_tf ∷ live_tf ∷ live_tf ∷ live_tf ∷ live_tf ∷ live_tf ∷ live_tf ∷ live_tf ∷ live_tff ∷ live_tf ∷ live_tf ∷ live_tf ∷ live_tf ∷ live_tffff ∷ live_ttftf ∷ live_tf ∷ live_tf ∷ live_t ∷ []; glues = true } ∷
    record { above = live_tf ∷ live_tf ∷ live_tf ∷ live_t ∷ live_t ∷ live_tff ∷ live_tt ∷ []; below = live_t ∷ live_tf ∷ live_tt ∷ live_tt ∷ live_t ∷ live_tff ∷ live_ttff ∷ live_t ∷ live_tf ∷ live_t ∷ live_tff ∷ live_tff ∷ live_tf ∷ live_t ∷ live_tf ∷ live_tf ∷ live_t ∷ live_tf ∷ live_tff ∷ live_t ∷ live_tf ∷ live_ttf ∷ live_tf ∷ live_t ∷ live_tf ∷ live_tff ∷ live_tf ∷ live_tf ∷ live_t ∷ live_t ∷ live_tf ∷ live_tf ∷ live_tf ∷ live_tf ∷ live_tf ∷ live_tf ∷ live_tf ∷ live_tf ∷ live_tf ∷ live_tfff ∷ live_tfff ∷ live_tfff ∷ live_tfff ∷ live_tff ∷ live_tff ∷ live_tf ∷ live_tf ∷ live_tf ∷ live_tf ∷ live_tf ∷ live_tf ∷ live_tf ∷ live_tf ∷ live_tff ∷ live_tf ∷ live_tf ∷ live_tf ∷ live_tf ∷ live_tf ∷ live_tf ∷ live_tf ∷ live_tf ∷ live_tff ∷ live_tf ∷ live_tf ∷ live_tf ∷ live_tf ∷ live_tffff ∷ live_ttftf ∷ live_tf ∷ live_tf ∷ live_t ∷ []; glues = true } ∷
    record { above = live_tf ∷ live_tf ∷ live_tf ∷ live_t ∷ live_t ∷ live_tff ∷ live_tt ∷ []; below = live_t ∷ live_tf ∷ live_tf ∷ live_tt ∷ live_t ∷ live_tff ∷ live_tfff ∷ live_t ∷ live_tf ∷ live_t ∷ live_tff ∷ live_tff ∷ live_tf ∷ live_t ∷ live_tf ∷ live_tf ∷ live_t ∷ live_tf ∷ live_tff ∷ live_t ∷ live_tf ∷ live_tff ∷ live_tf ∷ live_t ∷ live_tf ∷ live_tff ∷ live_tf ∷ live_tf ∷ live_t ∷ live_t ∷ live_tf ∷ live_tf ∷ live_tf ∷ live_tf ∷ live_tf ∷ live_tf ∷ live_tf ∷ live_tf ∷ live_tf ∷ live_tfff ∷ live_tfff ∷ live_tfff ∷ live_tfff ∷ live_tff ∷ live_tff ∷ live_tf ∷ live_tf ∷ live_tf ∷ live_tf ∷ live_tf ∷ live_tf ∷ live_tf ∷ live_tf ∷ live_tff ∷ live_tf ∷ live_tt ∷ live_tf ∷ live_tt ∷ live_tf ∷ live_tf ∷ live_tf ∷ live_tf ∷ live_tff ∷ live_tf ∷ live_tf ∷ live_tf ∷ live_tf ∷ live_tffff ∷ live_ttftf ∷ live_tf ∷ live_tf ∷ live_t ∷ []; glues = true } ∷
    record { above = live_tf ∷ live_tf ∷ live_tf ∷ live_t ∷ live_t ∷ live_tff ∷ live_tt ∷ []; below = live_t ∷ live_tf ∷ live_tf ∷ live_tt ∷ live_t ∷ live_tff ∷ live_tfff ∷ live_t ∷ live_tf ∷ live_t ∷ live_tff ∷ live_tff ∷ live_tf ∷ live_t ∷ live_tf ∷ live_tf ∷ live_t ∷ live_tf ∷ live_tff ∷ live_t ∷ live_tf ∷ live_tff ∷ live_tf ∷ live_t ∷ live_tf ∷ live_tff ∷ live_tf ∷ live_tf ∷ live_t ∷ live_t ∷ live_tf ∷ live_tf ∷ live_tf ∷ live_tf ∷ live_tf ∷ live_tf ∷ live_tf ∷ live_tf ∷ live_tf ∷ live_tfff ∷ live_tfff ∷ live_tfff ∷ live_tfff ∷ live_tff ∷ live_tff ∷ live_tf ∷ live_tf ∷ live_tf ∷ live_tf ∷ live_tf ∷ live_tf ∷ live_tf ∷ live_tf ∷ live_tff ∷ live_tf ∷ live_tf ∷ live_tt ∷ live_tt ∷ live_tf ∷ live_tf ∷ live_tf ∷ live_tf ∷ live_tff ∷ live_tf ∷ live_tf ∷ live_tf ∷ live_tf ∷ live_tffff ∷ live_ttftf ∷ live_tf ∷ live_tf ∷ live_t ∷ []; glues = true } ∷
    rest

unfoldable pub befores_3 : List (Before) → List (Before)
befores_3 rest =
    record { above = live_tf ∷ live_tf ∷ live_tf ∷ live_t ∷ live_t ∷ live_tff ∷ live_tt ∷ []; below = live_t ∷ live_tf ∷ live_tf ∷ live_tf ∷ live_t ∷ live_tff ∷ live_tfff ∷ live_t ∷ live_tf ∷ live_t ∷ live_tff ∷ live_tff ∷ live_tf ∷ live_t ∷ live_tf ∷ live_tt ∷ live_t ∷ live_tf ∷ live_ttf ∷ live_t ∷ live_tf ∷ live_tft ∷ live_tf ∷ live_t ∷ live_tf ∷ live_tff ∷ live_tf ∷ live_tf ∷ live_t ∷ live_t ∷ live_tf ∷ live_tf ∷ live_tf ∷ live_tf ∷ live_tf ∷ live_tf ∷ live_tf ∷ live_tf ∷ live_tf ∷ live_tfff ∷ live_tfff ∷ live_tfff ∷ live_tfff ∷ live_tff ∷ live_tff ∷ live_tf ∷ live_tf ∷ live_tf ∷ live_tf ∷ live_tf ∷ live_tf ∷ live_tf ∷ live_tf ∷ live_tff ∷ live_tf ∷ live_tf ∷ live_tf ∷ live_tf ∷ live_tf ∷ live_tf ∷ live_tf ∷ live_tf ∷ live_tff ∷ live_tf ∷ live_tf ∷ live_tf ∷ live_tf ∷ live_tffff ∷ live_ttftf ∷ live_tf ∷ live_tf ∷ live_t ∷ []; glues = true } ∷
    record { above = live_tf ∷ live_tf ∷ live_tf ∷ live_t ∷ live_t ∷ live_tff ∷ live_tf ∷ []; below = live_t ∷ live_tf ∷ live_tf ∷ live_tf ∷ live_t ∷ live_tff ∷ live_tfff ∷ live_t ∷ live_tf ∷ live_t ∷ live_tff ∷ live_tff ∷ live_tf ∷ live_t ∷ live_tf ∷ live_tt ∷ live_t ∷ live_tf ∷ live_ttf ∷ live_t ∷ live_tf ∷ live_tff ∷ live_tf ∷ live_t ∷ live_tf ∷ live_tft ∷ live_tf ∷ live_tf ∷ live_t ∷ live_t ∷ live_tf ∷ live_tf ∷ live_tf ∷ live_tf ∷ live_tf ∷ live_tf ∷ live_tf ∷ live_tf ∷ live_tf ∷ live_tfff ∷ live_tfff ∷ live_tfff ∷ live_tfff ∷ live_tff ∷ live_tff ∷ live_tf ∷ live_tf ∷ live_tf ∷ live_tf ∷ live_tf ∷ live_tf ∷ live_tf ∷ live_tf ∷ live_tff ∷ live_tf ∷ live_tf ∷ live_tf ∷ live_tf ∷ live_tf ∷ live_tf ∷ live_tf ∷ live_tf ∷ live_tff ∷ live_tf ∷ live_tf ∷ live_tf ∷ live_tf ∷ live_tffff ∷ live_ttftf ∷ live_tf ∷ live_tf ∷ live_t ∷ []; glues = true } ∷
    record { above = live_tf ∷ live_tf ∷ live_tf ∷ live_t ∷ live_t ∷ live_tff ∷ live_tf ∷ []; below = live_t ∷ live_tf ∷ live_tf ∷ live_tf ∷ live_t ∷ live_tff ∷ live_tfff ∷ live_t ∷ live_tf ∷ live_t ∷ live_tff ∷ live_tff ∷ live_tf ∷ live_t ∷ live_tf ∷ live_tt ∷ live_t ∷ live_tf ∷ live_ttf ∷ live_t ∷ live_tf ∷ live_tff ∷ live_tf ∷ live_t ∷ live_tf ∷ live_tft ∷ live_tf ∷ live_tf ∷ live_t ∷ live_t ∷ live_tf ∷ live_tf ∷ live_tf ∷ live_tf ∷ live_tf ∷ live_tf ∷ live_tf ∷ live_tf ∷ live_tf ∷ live_tfff ∷ live_tfff ∷ live_tfff ∷ live_tfff ∷ live_tff ∷ live_tff ∷ live_tf ∷ live_tf ∷ live_tf ∷ live_tf ∷ live_tf ∷ live_tf ∷ live_tt ∷ live_tf ∷ live_tff ∷ live_tf ∷ live_tf ∷ live_tf ∷ live_tf ∷ live_tf ∷ live_tf ∷ live_tf ∷ live_tf ∷ live_tff ∷ live_tf ∷ live_tf ∷ live_tf ∷ live_tf ∷ live_tffff ∷ live_ttftf ∷ live_tf ∷ live_tf ∷ live_t ∷ []; glues = true } ∷
    record { above = live_tf ∷ live_tf ∷ live_tf ∷ live_t ∷ live_t ∷ live_tff ∷ live_tt ∷ []; below = live_t ∷ live_tf ∷ live_tf ∷ live_tt ∷ live_t ∷ live_tff ∷ live_tfff ∷ live_t ∷ live_tf ∷ live_t ∷ live_tff ∷ live_tff ∷ live_tf ∷ live_t ∷ live_tf ∷ live_tt ∷ live_t ∷ live_tf ∷ live_ttf ∷ live_t ∷ live_tf ∷ live_tff ∷ live_tf ∷ live_t ∷ live_tf ∷ live_ttf ∷ live_tf ∷ live_tf ∷ live_t ∷ live_t ∷ live_tf ∷ live_tt ∷ live_tf ∷ live_tt ∷ live_tf ∷ live_tf ∷ live_tf ∷ live_tf ∷ live_tt ∷ live_tfff ∷ live_tfff ∷ live_tfff ∷ live_tfff ∷ live_tff ∷ live_tff ∷ live_tf ∷ live_tf ∷ live_tf ∷ live_tf ∷ live_tf ∷ live_tf ∷ live_tf ∷ live_tf ∷ live_tff ∷ live_tf ∷ live_tf ∷ live_tf ∷ live_tf ∷ live_tf ∷ live_tt ∷ live_tf ∷ live_tf ∷ live_tff ∷ live_tf ∷ live_tf ∷ live_tt ∷ live_tf ∷ live_tffff ∷ live_ttftf ∷ live_tf ∷ live_tf ∷ live_t ∷ []; glues = true } ∷
    record { above = live_tf ∷ live_tf ∷ live_tf ∷ live_t ∷ live_t ∷ live_tff ∷ live_tt ∷ []; below = live_t ∷ live_tf ∷ live_tf ∷ live_tf ∷ live_t ∷ live_tff ∷ live_tfff ∷ live_t ∷ live_tf ∷ live_t ∷ live_tff ∷ live_tff ∷ live_tf ∷ live_t ∷ live_tf ∷ live_tt ∷ live_t ∷ live_tf ∷ live_ttf ∷ live_t ∷ live_tf ∷ live_tft ∷ live_tf ∷ live_t ∷ live_tf ∷ live_tff ∷ live_tf ∷ live_tf ∷ live_t ∷ live_t ∷ live_tf ∷ live_tf ∷ live_tf ∷ live_tf ∷ live_tf ∷ live_tf ∷ live_tf ∷ live_tf ∷ live_tf ∷ live_tfff ∷ live_tfff ∷ live_tfff ∷ live_tfff ∷ live_tff ∷ live_tff ∷ live_tf ∷ live_tf ∷ live_tf ∷ live_tf ∷ live_tf ∷ live_tf ∷ live_tt ∷ live_tf ∷ live_tff ∷ live_tf ∷ live_tf ∷ live_tf ∷ live_tf ∷ live_tf ∷ live_tf ∷ live_tf ∷ live_tf ∷ live_tff ∷ live_tf ∷ live_tf ∷ live_tf ∷ live_tf ∷ live_tffff ∷ live_ttftf ∷ live_tf ∷ live_tf ∷ live_t ∷ []; glues = true } ∷
    record { above = live_tf ∷ live_tf ∷ live_tf ∷ live_t ∷ live_t ∷ live_tff ∷ live_tt ∷ []; below = live_t ∷ live_tf ∷ live_tf ∷ live_tt ∷ live_t ∷ live_tff ∷ live_tfff ∷ live_t ∷ live_tf ∷ live_t ∷ live_tff ∷ live_tff ∷ live_tf ∷ live_t ∷ live_tf ∷ live_tt ∷ live_t ∷ live_tf ∷ live_ttf ∷ live_t ∷ live_tf ∷ live_tff ∷ live_tt ∷ live_t ∷ live_tf ∷ live_tff ∷ live_tf ∷ live_tf ∷ live_t ∷ live_t ∷ live_tf ∷ live_tf ∷ live_tf ∷ live_tf ∷ live_tf ∷ live_tf ∷ live_tt ∷ live_tf ∷ live_tf ∷ live_tfff ∷ live_tfff ∷ live_tfff ∷ live_tfff ∷ live_tff ∷ live_tff ∷ live_tf ∷ live_tf ∷ live_tf ∷ live_tf ∷ live_tf ∷ live_tf ∷ live_tf ∷ live_tf ∷ live_tff ∷ live_tf ∷ live_tf ∷ live_tf ∷ live_tf ∷ live_tf ∷ live_tf ∷ live_tf ∷ live_tf ∷ live_tff ∷ live_tf ∷ live_tf ∷ live_tf ∷ live_tf ∷ live_tffff ∷ live_ttftf ∷ live_tf ∷ live_tf ∷ live_t ∷ []; glues = true } ∷
    record { above = live_tf ∷ live_tf ∷ live_tf ∷ live_t ∷ live_t ∷ live_tff ∷ live_tt ∷ []; below = live_t ∷ live_tf ∷ live_tf ∷ live_tt ∷ live_t ∷ live_tff ∷ live_tfff ∷ live_t ∷ live_tf ∷ live_t ∷ live_tff ∷ live_tff ∷ live_tf ∷ live_t ∷ live_tf ∷ live_tf ∷ live_t ∷ live_tf ∷ live_tff ∷ live_t ∷ live_tf ∷ live_tff ∷ live_tt ∷ live_t ∷ live_tf ∷ live_tff ∷ live_tf ∷ live_tf ∷ live_t ∷ live_t ∷ live_tf ∷ live_tf ∷ live_tf ∷ live_tf ∷ live_tf ∷ live_tf ∷ live_tt ∷ live_tf ∷ live_tf ∷ live_tfff ∷ live_tfff ∷ live_tfff ∷ live_tfff ∷ live_tff ∷ live_tff ∷ live_tf ∷ live_tf ∷ live_tf ∷ live_tf ∷ live_tf ∷ live_tf ∷ live_tf ∷ live_tf ∷ live_tff ∷ live_tf ∷ live_tf ∷ live_tf ∷ live_tf ∷ live_tf ∷ live_tf ∷ live_tf ∷ live_tf ∷ live_tff ∷ live_tf ∷ live_tf ∷ live_tf ∷ live_tf ∷ live_tffff ∷ live_ttftf ∷ live_tf ∷ live_tf ∷ live_t ∷ []; glues = true } ∷
    record { above = live_tf ∷ live_tf ∷ live_tf ∷ live_t ∷ live_t ∷ live_tff ∷ live_tt ∷ []; below = live_t ∷ live_tf ∷ live_tf ∷ live_tt ∷ live_t ∷ live_tff ∷ live_tfff ∷ live_t ∷ live_tf ∷ live_t ∷ live_tff ∷ live_tff ∷ live_tf ∷ live_t ∷ live_tf ∷ live_tt ∷ live_t ∷ live_tf ∷ live_ttf ∷ live_t ∷ live_tf ∷ live_tff ∷ live_tt ∷ live_t ∷ live_tf ∷ live_tff ∷ live_tf ∷ live_tf ∷ live_t ∷ live_t ∷ live_tf ∷ live_tf ∷ live_tf ∷ live_tf ∷ live_tf ∷ live_tf ∷ live_tt ∷ live_tf ∷ live_tf ∷ live_tfff ∷ live_tfff ∷ live_tfff ∷ live_tfff ∷ live_tff ∷ live_tff ∷ live_tf ∷ live_tf ∷ live_tf ∷ live_tf ∷ live_tf ∷ live_tf ∷ live_tf ∷ live_tf ∷ live_tff ∷ live_tf ∷ live_tf ∷ live_tf ∷ live_tf ∷ live_tf ∷ live_tf ∷ live_tf ∷ live_tf ∷ live_tff ∷ live_tf ∷ live_tf ∷ live_tf ∷ live_tf ∷ live_tffff ∷ live_ttftf ∷ live_tf ∷ live_tt ∷ live_t ∷ []; glues = true } ∷
    record { above = live_tf ∷ live_tf ∷ live_tf ∷ live_t ∷ live_t ∷ live_tff ∷ live_tt ∷ []; below = live_t ∷ live_tf ∷ live_tf ∷ live_tt ∷ live_t ∷ live_tff ∷ live_tfff ∷ live_t ∷ live_tf ∷ live_t ∷ live_tff ∷ live_tff ∷ live_tf ∷ live_t ∷ live_tf ∷ live_tt ∷ live_t ∷ live_tf ∷ live_ttf ∷ live_t ∷ live_tf ∷ live_tff ∷ live_tt ∷ live_t ∷ live_tf ∷ live_tff ∷ live_tf ∷ live_tf ∷ live_t ∷ live_t ∷ live_tf ∷ live_tt ∷ live_tt ∷ live_tf ∷ live_tf ∷ live_tf ∷ live_tt ∷ live_tf ∷ live_tf ∷ live_tfff ∷ live_tfff ∷ live_tfff ∷ live_tfff ∷ live_tff ∷ live_tff ∷ live_tf ∷ live_tf ∷ live_tf ∷ live_tf ∷ live_tf ∷ live_tf ∷ live_tf ∷ live_tf ∷ live_tff ∷ live_tf ∷ live_tf ∷ live_tf ∷ live_tf ∷ live_tf ∷ live_tf ∷ live_tf ∷ live_tf ∷ live_tff ∷ live_tf ∷ live_tf ∷ live_tf ∷ live_tf ∷ live_tffff ∷ live_ttftf ∷ live_tf ∷ live_tf ∷ live_t ∷ []; glues = true } ∷
    record { above = live_tf ∷ live_tf ∷ live_tf ∷ live_t ∷ live_t ∷ live_tff ∷ live_tt ∷ []; below = live_t ∷ live_tf ∷ live_tf ∷ live_tt ∷ live_t ∷ live_tff ∷ live_tfff ∷ live_t ∷ live_tf ∷ live_t ∷ live_tff ∷ live_tff ∷ live_tf ∷ live_t ∷ live_tf ∷ live_tf ∷ live_t ∷ live_tf ∷ live_tff ∷ live_t ∷ live_tf ∷ live_tff ∷ live_tt ∷ live_t ∷ live_tf ∷ live_tff ∷ live_tf ∷ live_tf ∷ live_t ∷ live_t ∷ live_tf ∷ live_tt ∷ live_tt ∷ live_tf ∷ live_tf ∷ live_tf ∷ live_tt ∷ live_tf ∷ live_tf ∷ live_tfff ∷ live_tfff ∷ live_tfff ∷ live_tfff ∷ live_tff ∷ live_tff ∷ live_tf ∷ live_tf ∷ live_tf ∷ live_tf ∷ live_tf ∷ live_tf ∷ live_tf ∷ live_tf ∷ live_tff ∷ live_tf ∷ live_tf ∷ live_tf ∷ live_tf ∷ live_tf ∷ live_tf ∷ live_tf ∷ live_tf ∷ live_tff ∷ live_tf ∷ live_tf ∷ live_tf ∷ live_tf ∷ live_tffff ∷ live_ttftf ∷ live_tf ∷ live_tf ∷ live_t ∷ []; glues = true } ∷
    record { above = live_tf ∷ live_tf ∷ live_tf ∷ live_t ∷ live_t ∷ live_tff ∷ live_tt ∷ []; below = live_t ∷ live_tf ∷ live_tf ∷ live_tt ∷ live_t ∷ live_tff ∷ live_tfff ∷ live_t ∷ live_tf ∷ live_t ∷ live_tff ∷ live_tff ∷ live_tf ∷ live_t ∷ live_tf ∷ live_tt ∷ live_t ∷ live_tf ∷ live_ttf ∷ live_t ∷ live_tf ∷ live_tff ∷ live_tf ∷ live_t ∷ live_tf ∷ live_tff ∷ live_tf ∷ live_tt ∷ live_t ∷ live_t ∷ live_tf ∷ live_tf ∷ live_tf ∷ live_tf ∷ live_tf ∷ live_tf ∷ live_tf ∷ live_tf ∷ live_tf ∷ live_tfff ∷ live_tfff ∷ live_tfff ∷ live_tfff ∷ live_tff ∷ live_tff ∷ live_tf ∷ live_tf ∷ live_tf ∷ live_tf ∷ live_tf ∷ live_tf ∷ live_tf ∷ live_tf ∷ live_tff ∷ live_tf ∷ live_tf ∷ live_tf ∷ live_tf ∷ live_tf ∷ live_tf ∷ live_tf ∷ live_tf ∷ live_tff ∷ live_tf ∷ live_tf ∷ live_tf ∷ live_tf ∷ live_tffff ∷ live_ttftf ∷ live_tf ∷ live_tf ∷ live_t ∷ []; glues = true } ∷
    record { above = live_tf ∷ live_tf ∷ live_tf ∷ live_t ∷ live_t ∷ live_tff ∷ live_tt ∷ []; below = live_t ∷ live_tf ∷ live_tf ∷ live_tt ∷ live_t ∷ live_tff ∷ live_tfff ∷ live_t ∷ live_tf ∷ live_t ∷ live_tff ∷ live_tff ∷ live_tf ∷ live_t ∷ live_tf ∷ live_tf ∷ live_t ∷ live_tf ∷ live_tff ∷ live_t ∷ live_tf ∷ live_tff ∷ live_tf ∷ live_t ∷ live_tf ∷ live_tff ∷ live_tf ∷ live_tt ∷ live_t ∷ live_t ∷ live_tf ∷ live_tf ∷ live_tf ∷ live_tf ∷ live_tf ∷ live_tf ∷ live_tf ∷ live_tf ∷ live_tf ∷ live_tfff ∷ live_tfff ∷ live_tfff ∷ live_tfff ∷ live_tff ∷ live_tff ∷ live_tf ∷ live_tf ∷ live_tf ∷ live_tf ∷ live_tf ∷ live_tf ∷ live_tf ∷ live_tf ∷ live_tff ∷ live_tf ∷ live_tf ∷ live_tf ∷ live_tf ∷ live_tf ∷ live_tf ∷ live_tf ∷ live_tf ∷ live_tff ∷ live_tf ∷ live_tf ∷ live_tf ∷ live_tf ∷ live_tffff ∷ live_ttftf ∷ live_tf ∷ live_tf ∷ live_t ∷ []; glues = true } ∷
    record { above = live_tf ∷ live_tf ∷ live_tf ∷ live_t ∷ live_t ∷ live_tff ∷ live_tt ∷ []; below = live_t ∷ live_tf ∷ live_tf ∷ live_tt ∷ live_t ∷ live_tff ∷ live_tfff ∷ live_t ∷ live_tf ∷ live_t ∷ live_tff ∷ live_tff ∷ live_tf ∷ live_t ∷ live_tf ∷ live_tt ∷ live_t ∷ live_tf ∷ live_ttf ∷ live_t ∷ live_tf ∷ live_tff ∷ live_tf ∷ live_t ∷ live_tf ∷ live_tff ∷ live_tf ∷ live_tf ∷ live_t ∷ live_t ∷ live_tf ∷ live_tf ∷ live_tf ∷ live_tf ∷ live_tf ∷ live_tf ∷ live_tf ∷ live_tf ∷ live_tf ∷ live_tfff ∷ live_tfff ∷ live_tfff ∷ live_tfff ∷ live_tff ∷ live_tff ∷ live_tf ∷ live_tf ∷ live_tf ∷ live_tf ∷ live_tf ∷ live_tf ∷ live_tf ∷ live_tt ∷ live_tff ∷ live_tf ∷ live_tf ∷ live_tf ∷ live_tf ∷ live_tf ∷ live_tf ∷ live_tf ∷ live_tf ∷ live_tff ∷ live_tf ∷ live_tt ∷ live_tf ∷ live_tf ∷ live_tffff ∷ live_ttftf ∷ live_tf ∷ live_tf ∷ live_t ∷ []; glues = true } ∷
    record { above = live_tf ∷ live_tf ∷ live_tf ∷ live_t ∷ live_t ∷ live_tff ∷ live_tt ∷ []; below = live_t ∷ live_tf ∷ live_tf ∷ live_tt ∷ live_t ∷ live_tff ∷ live_tfff ∷ live_t ∷ live_tf ∷ live_t ∷ live_tff ∷ live_tff ∷ live_tf ∷ live_t ∷ live_tf ∷ live_tf ∷ live_t ∷ live_tf ∷ live_tff ∷ live_t ∷ live_tf ∷ live_tff ∷ live_tf ∷ live_t ∷ live_tf ∷ live_tff ∷ live_tf ∷ live_tf ∷ live_t ∷ live_t ∷ live_tf ∷ live_tf ∷ live_tf ∷ live_tf ∷ live_tf ∷ live_tf ∷ live_tf ∷ live_tf ∷ live_tf ∷ live_tfff ∷ live_tfff ∷ live_tfff ∷ live_tfff ∷ live_tff ∷ live_tff ∷ live_tf ∷ live_tf ∷ live_tf ∷ live_tf ∷ live_tf ∷ live_tf ∷ live_tf ∷ live_tf ∷ live_tff ∷ live_tt ∷ live_tf ∷ live_tf ∷ live_tt ∷ live_tf ∷ live_tf ∷ live_tf ∷ live_tf ∷ live_tff ∷ live_tf ∷ live_tf ∷ live_tf ∷ live_tf ∷ live_tffff ∷ live_ttftf ∷ live_tf ∷ live_tf ∷ live_t ∷ []; glues = true } ∷
    record { above = live_tf ∷ live_tf ∷ live_tf ∷ live_t ∷ live_t ∷ live_tff ∷ live_tt ∷ []; below = live_t ∷ live_tf ∷ live_tf ∷ live_tt ∷ live_t ∷ live_tff ∷ live_tfff ∷ live_t ∷ live_tf ∷ live_t ∷ live_tff ∷ live_tff ∷ live_tf ∷ live_t ∷ live_tf ∷ live_tt ∷ live_t ∷ live_tf ∷ live_ttf ∷ live_t ∷ live_tf ∷ live_tff ∷ live_tf ∷ live_t ∷ live_tf ∷ live_tff ∷ live_tf ∷ live_tf ∷ live_t ∷ live_t ∷ live_tf ∷ live_tf ∷ live_tf ∷ live_tf ∷ live_tf ∷ live_tf ∷ live_tf ∷ live_tf ∷ live_tf ∷ live_tfff ∷ live_tfff ∷ live_tfff ∷ live_tfff ∷ live_tff ∷ live_tff ∷ live_tf ∷ live_tf ∷ live_tf ∷ live_tf ∷ live_tf ∷ live_tf ∷ live_tf ∷ live_tf ∷ live_tff ∷ live_tf ∷ live_tf ∷ live_tt ∷ live_tt ∷ live_tf ∷ live_tf ∷ live_tf ∷ live_tf ∷ live_tff ∷ live_tf ∷ live_tf ∷ live_tf ∷ live_tf ∷ live_tffff ∷ live_ttftf ∷ live_tf ∷ live_tf ∷ live_t ∷ []; glues = true } ∷
    record { above = live_tf ∷ live_tf ∷ live_tf ∷ live_t ∷ live_t ∷ live_tff ∷ live_tt ∷ []; below = live_t ∷ live_tf ∷ live_tf ∷ live_tt ∷ live_t ∷ live_tff ∷ live_tfff ∷ live_t ∷ live_tf ∷ live_t ∷ live_tff ∷ live_tff ∷ live_tf ∷ live_t ∷ live_tf ∷ live_tt ∷ live_t ∷ live_tf ∷ live_ttf ∷ live_t ∷ live_tf ∷ live_tff ∷ live_tf ∷ live_t ∷ live_tf ∷ live_tff ∷ live_tf ∷ live_tf ∷ live_t ∷ live_t ∷ live_tf ∷ live_tf ∷ live_tf ∷ live_tf ∷ live_tf ∷ live_tf ∷ live_tf ∷ live_tf ∷ live_tf ∷ live_tfff ∷ live_tfff ∷ live_tfff ∷ live_tfff ∷ live_tff ∷ live_tff ∷ live_tf ∷ live_tf ∷ live_tf ∷ live_tf ∷ live_tf ∷ live_tf ∷ live_tf ∷ live_tf ∷ live_tff ∷ live_tf ∷ live_tt ∷ live_tf ∷ live_tt ∷ live_tf ∷ live_tf ∷ live_tf ∷ live_tf ∷ live_tff ∷ live_tf ∷ live_tf ∷ live_tf ∷ live_tf ∷ live_tffff ∷ live_ttftf ∷ live_tf ∷ live_tf ∷ live_t ∷ []; glues = true } ∷
    record { above = live_tf ∷ live_tf ∷ live_tf ∷ live_t ∷ live_t ∷ live_tff ∷ live_tt ∷ []; below = live_t ∷ live_tf ∷ live_tf ∷ live_tt ∷ live_t ∷ live_tff ∷ live_tfff ∷ live_t ∷ live_tf ∷ live_t ∷ live_tff ∷ live_tff ∷ live_tf ∷ live_t ∷ live_tf ∷ live_tf ∷ live_t ∷ live_tf ∷ live_tff ∷ live_t ∷ live_tf ∷ live_tff ∷ live_tf ∷ live_t ∷ live_tf ∷ live_tff ∷ live_tf ∷ live_tf ∷ live_t ∷ live_t ∷ live_tf ∷ live_tf ∷ live_tt ∷ live_tf ∷ live_tf ∷ live_tf ∷ live_tf ∷ live_tf ∷ live_tf ∷ live_tfff ∷ live_tfff ∷ live_tfff ∷ live_tfff ∷ live_tff ∷ live_tff ∷ live_tf ∷ live_tf ∷ live_tf ∷ live_tf ∷ live_tf ∷ live_tf ∷ live_tf ∷ live_tf ∷ live_tff ∷ live_tf ∷ live_tf ∷ live_tf ∷ live_tf ∷ live_tf ∷ live_tf ∷ live_tf ∷ live_tf ∷ live_tff ∷ live_tf ∷ live_tf ∷ live_tf ∷ live_tf ∷ live_tffff ∷ live_ttftf ∷ live_tf ∷ live_tf ∷ live_t ∷ []; glues = true } ∷
    record { above = live_tf ∷ live_tf ∷ live_tf ∷ live_t ∷ live_t ∷ live_tff ∷ live_tf ∷ []; below = live_t ∷ live_tf ∷ live_tf ∷ live_tt ∷ live_t ∷ live_tff ∷ live_tfff ∷ live_t ∷ live_tf ∷ live_t ∷ live_ttt ∷ live_tff ∷ live_tf ∷ live_t ∷ live_tf ∷ live_tt ∷ live_t ∷ live_tf ∷ live_ttf ∷ live_t ∷ live_tf ∷ live_tff ∷ live_tf ∷ live_t ∷ live_tf ∷ live_tff ∷ live_tf ∷ live_tf ∷ live_t ∷ live_t ∷ live_tf ∷ live_tf ∷ live_tf ∷ live_tf ∷ live_tf ∷ live_tf ∷ live_tf ∷ live_tf ∷ live_tf ∷ live_tfft ∷ live_tfff ∷ live_tfft ∷ live_tfff ∷ live_tff ∷ live_tff ∷ live_tf ∷ live_tf ∷ live_tf ∷ live_tf ∷ live_tf ∷ live_tf ∷ live_tf ∷ live_tf ∷ live_tff ∷ live_tf ∷ live_tf ∷ live_tf ∷ live_tf ∷ live_tf ∷ live_tf ∷ live_tf ∷ live_tf ∷ live_tff ∷ live_tf ∷ live_tf ∷ live_tf ∷ live_tf ∷ live_tffff ∷ live_ttftf ∷ live_tf ∷ live_tf ∷ live_t ∷ []; glues = true } ∷
    record { above = live_tf ∷ live_tf ∷ live_tf ∷ live_t ∷ live_t ∷ live_tff ∷ live_tf ∷ []; below = live_t ∷ live_tf ∷ live_tf ∷ live_tt ∷ live_t ∷ live_tff ∷ live_tfff ∷ live_t ∷ live_tf ∷ live_t ∷ live_ttt ∷ live_tff ∷ live_tf ∷ live_t ∷ live_tf ∷ live_tf ∷ live_t ∷ live_tf ∷ live_tff ∷ live_t ∷ live_tf ∷ live_tff ∷ live_tf ∷ live_t ∷ live_tf ∷ live_tff ∷ live_tf ∷ live_tf ∷ live_t ∷ live_t ∷ live_tf ∷ live_tf ∷ live_tf ∷ live_tf ∷ live_tf ∷ live_tf ∷ live_tf ∷ live_tf ∷ live_tf ∷ live_tfft ∷ live_tfff ∷ live_tfft ∷ live_tfff ∷ live_tff ∷ live_tff ∷ live_tf ∷ live_tf ∷ live_tf ∷ live_tf ∷ live_tf ∷ live_tf ∷ live_tf ∷ live_tf ∷ live_tff ∷ live_tf ∷ live_tf ∷ live_tf ∷ live_tf ∷ live_tf ∷ live_tf ∷ live_tf ∷ live_tf ∷ live_tff ∷ live_tf ∷ live_tf ∷ live_tf ∷ live_tf ∷ live_tffff ∷ live_ttftf ∷ live_tf ∷ live_tf ∷ live_t ∷ []; glues = true } ∷
    record { above = live_tf ∷ live_tf ∷ live_tf ∷ live_t ∷ live_t ∷ live_tff ∷ live_tf ∷ []; below = live_t ∷ live_tf ∷ live_tf ∷ live_tt ∷ live_t ∷ live_tff ∷ live_tfff ∷ live_t ∷ live_tf ∷ live_t ∷ live_ttt ∷ live_tff ∷ live_tf ∷ live_t ∷ live_tf ∷ live_tt ∷ live_t ∷ live_tf ∷ live_ttf ∷ live_t ∷ live_tf ∷ live_tff ∷ live_tf ∷ live_t ∷ live_tf ∷ live_tff ∷ live_tf ∷ live_tf ∷ live_t ∷ live_t ∷ live_tf ∷ live_tf ∷ live_tf ∷ live_tf ∷ live_tf ∷ live_tf ∷ live_tf ∷ live_tf ∷ live_tf ∷ live_tfff ∷ live_tfft ∷ live_tfff ∷ live_tfft ∷ live_tff ∷ live_tff ∷ live_tf ∷ live_tf ∷ live_tf ∷ live_tf ∷ live_tf ∷ live_tf ∷ live_tf ∷ live_tf ∷ live_tff ∷ live_tf ∷ live_tf ∷ live_tf ∷ live_tf ∷ live_tf ∷ live_tf ∷ live_tf ∷ live_tf ∷ live_tff ∷ live_tf ∷ live_tf ∷ live_tf ∷ live_tt ∷ live_tffff ∷ live_ttftf ∷ live_tf ∷ live_tf ∷ live_t ∷ []; glues = true } ∷
    record { above = live_tf ∷ live_tf ∷ live_tf ∷ live_t ∷ live_t ∷ live_tff ∷ live_tf ∷ []; below = live_t ∷ live_tf ∷ live_tf ∷ live_tt ∷ live_t ∷ live_tff ∷ live_tfff ∷ live_t ∷ live_tf ∷ live_t ∷ live_tff ∷ live_tff ∷ live_tf ∷ live_t ∷ live_tf ∷ live_tt ∷ live_t ∷ live_tf ∷ live_ttf ∷ live_t ∷ live_tf ∷ live_tff ∷ live_tf ∷ live_t ∷ live_tf ∷ live_tff ∷ live_tf ∷ live_tf ∷ live_t ∷ live_t ∷ live_tf ∷ live_tf ∷ live_tf ∷ live_tf ∷ live_tf ∷ live_tf ∷ live_tf ∷ live_tf ∷ live_tf ∷ live_tttf ∷ live_tttf ∷ live_tttf ∷ live_tttf ∷ live_ttt ∷ live_ttt ∷ live_tf ∷ live_tf ∷ live_tf ∷ live_tf ∷ live_tf ∷ live_tf ∷ live_tf ∷ live_tt ∷ live_ttt ∷ live_tf ∷ live_tf ∷ live_tf ∷ live_tf ∷ live_tf ∷ live_tf ∷ live_tf ∷ live_tf ∷ live_tff ∷ live_tf ∷ live_tt ∷ live_tf ∷ live_tf ∷ live_tffff ∷ live_ttftf ∷ live_tf ∷ live_tf ∷ live_t ∷ []; glues = true } ∷
    record { above = live_tf ∷ live_tf ∷ live_tf ∷ live_t ∷ live_t ∷ live_tff ∷ live_tf ∷ []; below = live_t ∷ live_tf ∷ live_tf ∷ live_tt ∷ live_t ∷ live_tff ∷ live_tfff ∷ live_t ∷ live_tf ∷ live_t ∷ live_tff ∷ live_tff ∷ live_tf ∷ live_t ∷ live_tf ∷ live_tt ∷ live_t ∷ live_tf ∷ live_ttf ∷ live_t ∷ live_tf ∷ live_tff ∷ live_tf ∷ live_t ∷ live_tf ∷ live_tff ∷ live_tt ∷ live_tf ∷ live_t ∷ live_t ∷ live_tf ∷ live_tf ∷ live_tf ∷ live_tf ∷ live_tf ∷ live_tf ∷ live_tf ∷ live_tf ∷ live_tf ∷ live_tttf ∷ live_tttf ∷ live_tttf ∷ live_tttf ∷ live_ttt ∷ live_ttt ∷ live_tf ∷ live_tf ∷ live_tf ∷ live_tf ∷ live_tf ∷ live_tf ∷ live_tf ∷ live_tf ∷ live_ttt ∷ live_tf ∷ live_tf ∷ live_tf ∷ live_tf ∷ live_tf ∷ live_tf ∷ live_tf ∷ live_tf ∷ live_tff ∷ live_tf ∷ live_tf ∷ live_tf ∷ live_tf ∷ live_tffff ∷ live_ttftf ∷ live_tf ∷ live_tf ∷ live_t ∷ []; glues = true } ∷
    record { above = live_tf ∷ live_tf ∷ live_tf ∷ live_t ∷ live_t ∷ live_tff ∷ live_tt ∷ []; below = live_t ∷ live_tf ∷ live_tf ∷ live_tt ∷ live_t ∷ live_tff ∷ live_tfff ∷ live_t ∷ live_tf ∷ live_t ∷ live_tff ∷ live_tff ∷ live_tf ∷ live_t ∷ live_tf ∷ live_tt ∷ live_t ∷ live_tf ∷ live_ttf ∷ live_t ∷ live_tf ∷ live_tff ∷ live_tf ∷ live_t ∷ live_tf ∷ live_tff ∷ live_tf ∷ live_tf ∷ live_t ∷ live_t ∷ live_tf ∷ live_tt ∷ live_tf ∷ live_tf ∷ live_tt ∷ live_tf ∷ live_tf ∷ live_tf ∷ live_tf ∷ live_tttf ∷ live_tttf ∷ live_tttf ∷ live_tttf ∷ live_ttt ∷ live_ttt ∷ live_tf ∷ live_tf ∷ live_tf ∷ live_tf ∷ live_tf ∷ live_tf ∷ live_tf ∷ live_tf ∷ live_ttt ∷ live_tf ∷ live_tf ∷ live_tf ∷ live_tf ∷ live_tf ∷ live_tf ∷ live_tf ∷ live_tf ∷ live_tff ∷ live_tf ∷ live_tf ∷ live_tt ∷ live_tf ∷ live_tffff ∷ live_ttftf ∷ live_tf ∷ live_tf ∷ live_t ∷ []; glues = true } ∷
    record { above = live_tf ∷ live_tf ∷ live_tf ∷ live_t ∷ live_t ∷ live_tff ∷ live_tf ∷ []; below = live_t ∷ live_tf ∷ live_tf ∷ live_tf ∷ live_t ∷ live_ttt ∷ live_ttff ∷ live_t ∷ live_tt ∷ live_t ∷ live_tff ∷ live_tff ∷ live_tt ∷ live_t ∷ live_tf ∷ live_tt ∷ live_t ∷ live_tf ∷ live_ttf ∷ live_t ∷ live_tf ∷ live_ttf ∷ live_tf ∷ live_t ∷ live_tf ∷ live_tff ∷ live_tf ∷ live_tf ∷ live_t ∷ live_t ∷ live_tf ∷ live_tf ∷ live_tf ∷ live_tf ∷ live_tf ∷ live_tf ∷ live_tf ∷ live_tf ∷ live_tf ∷ live_tfff ∷ live_tfff ∷ live_tfff ∷ live_tfff ∷ live_tff ∷ live_tff ∷ live_tf ∷ live_tf ∷ live_tf ∷ live_tf ∷ live_tf ∷ live_tf ∷ live_tf ∷ live_tf ∷ live_tff ∷ live_tf ∷ live_tf ∷ live_tf ∷ live_tf ∷ live_tf ∷ live_tf ∷ live_tf ∷ live_tf ∷ live_tff ∷ live_tf ∷ live_tf ∷ live_tf ∷ live_tf ∷ live_tffff ∷ live_ttftf ∷ live_tf ∷ live_tf ∷ live_t ∷ []; glues = false } ∷
    record { above = live_tf ∷ live_tf ∷ live_tf ∷ live_t ∷ live_t ∷ live_tff ∷ live_tt ∷ []; below = live_t ∷ live_tf ∷ live_tf ∷ live_tt ∷ live_t ∷ live_ttt ∷ live_ttff ∷ live_t ∷ live_tf ∷ live_t ∷ live_tff ∷ live_tff ∷ live_tf ∷ live_t ∷ live_tf ∷ live_tt ∷ live_t ∷ live_tf ∷ live_ttf ∷ live_t ∷ live_tf ∷ live_tff ∷ live_tf ∷ live_t ∷ live_tf ∷ live_tff ∷ live_tf ∷ live_tf ∷ live_t ∷ live_t ∷ live_tf ∷ live_tf ∷ live_tf ∷ live_tf ∷ live_tf ∷ live_tf ∷ live_tf ∷ live_tf ∷ live_tf ∷ live_tfff ∷ live_tfff ∷ live_tfff ∷ live_tfff ∷ live_tff ∷ live_tff ∷ live_tf ∷ live_tf ∷ live_tf ∷ live_tf ∷ live_tf ∷ live_tf ∷ live_tf ∷ live_tf ∷ live_tff ∷ live_tf ∷ live_tf ∷ live_tf ∷ live_tf ∷ live_tf ∷ live_tf ∷ live_tf ∷ live_tf ∷ live_tff ∷ live_tf ∷ live_tf ∷ live_tf ∷ live_tf ∷ live_tffff ∷ live_ttftf ∷ live_tf ∷ live_tf ∷ live_t ∷ []; glues = true } ∷
    record { above = live_tf ∷ live_tf ∷ live_tf ∷ live_t ∷ live_t ∷ live_tff ∷ live_tt ∷ []; below = live_t ∷ live_tf ∷ live_tf ∷ live_tt ∷ live_t ∷ live_ttt ∷ live_ttff ∷ live_t ∷ live_tf ∷ live_t ∷ live_tff ∷ live_tff ∷ live_tf ∷ live_t ∷ live_tf ∷ live_tf ∷ live_t ∷ live_tf ∷ live_tff ∷ live_t ∷ live_tf ∷ live_tff ∷ live_tf ∷ live_t ∷ live_tf ∷ live_tff ∷ live_tf ∷ live_tf ∷ live_t ∷ live_t ∷ live_tf ∷ live_tf ∷ live_tf ∷ live_tf ∷ live_tf ∷ live_tf ∷ live_tf ∷ live_tf ∷ live_tf ∷ live_tfff ∷ live_tfff ∷ live_tfff ∷ live_tfff ∷ live_tff ∷ live_tff ∷ live_tf ∷ live_tf ∷ live_tf ∷ live_tf ∷ live_tf ∷ live_tf ∷ live_tf ∷ live_tf ∷ live_tff ∷ live_tf ∷ live_tf ∷ live_tf ∷ live_tf ∷ live_tf ∷ live_tf ∷ live_tf ∷ live_tf ∷ live_tff ∷ live_tf ∷ live_tf ∷ live_tf ∷ live_tf ∷ live_tffff ∷ live_ttftf ∷ live_tf ∷ live_tf ∷ live_t ∷ []; glues = true } ∷
    record { above = live_tf ∷ live_tf ∷ live_tf ∷ live_t ∷ live_t ∷ live_tff ∷ live_tt ∷ []; below = live_t ∷ live_tf ∷ live_tf ∷ live_tt ∷ live_t ∷ live_tff ∷ live_tfff ∷ live_t ∷ live_tf ∷ live_t ∷ live_tff ∷ live_tff ∷ live_tf ∷ live_t ∷ live_tf ∷ live_tt ∷ live_t ∷ live_tf ∷ live_ttf ∷ live_t ∷ live_tf ∷ live_tff ∷ live_tf ∷ live_t ∷ live_tf ∷ live_tff ∷ live_tf ∷ live_tf ∷ live_t ∷ live_t ∷ live_tf ∷ live_tf ∷ live_tf ∷ live_tf ∷ live_tf ∷ live_tf ∷ live_tf ∷ live_tt ∷ live_tf ∷ live_tfff ∷ live_tfff ∷ live_tfff ∷ live_tfff ∷ live_tff ∷ live_tff ∷ live_tt ∷ live_tt ∷ live_tt ∷ live_tf ∷ live_tf ∷ live_tf ∷ live_tf ∷ live_tf ∷ live_tff ∷ live_tf ∷ live_tf ∷ live_tf ∷ live_tf ∷ live_tf ∷ live_tf ∷ live_tf ∷ live_tf ∷ live_tff ∷ live_tf ∷ live_tf ∷ live_tf ∷ live_tf ∷ live_tffff ∷ live_ttftf ∷ live_tf ∷ live_tf ∷ live_t ∷ []; glues = true } ∷
    record { above = live_tf ∷ live_tf ∷ live_tf ∷ live_t ∷ live_t ∷ live_tff ∷ live_tt ∷ []; below = live_t ∷ live_tf ∷ live_tf ∷ live_tt ∷ live_t ∷ live_tff ∷ live_tfff ∷ live_t ∷ live_tf ∷ live_t ∷ live_tff ∷ live_tff ∷ live_tf ∷ live_t ∷ live_tf ∷ live_tf ∷ live_t ∷ live_tf ∷ live_tff ∷ live_t ∷ live_tf ∷ live_tff ∷ live_tf ∷ live_t ∷ live_tf ∷ live_tff ∷ live_tf ∷ live_tf ∷ live_t ∷ live_t ∷ live_tf ∷ live_tf ∷ live_tf ∷ live_tf ∷ live_tf ∷ live_tf ∷ live_tf ∷ live_tt ∷ live_tf ∷ live_tfff ∷ live_tfff ∷ live_tfff ∷ live_tfff ∷ live_tff ∷ live_tff ∷ live_tt ∷ live_tt ∷ live_tt ∷ live_tf ∷ live_tf ∷ live_tf ∷ live_tf ∷ live_tf ∷ live_tff ∷ live_tf ∷ live_tf ∷ live_tf ∷ live_tf ∷ live_tf ∷ live_tf ∷ live_tf ∷ live_tf ∷ live_tff ∷ live_tf ∷ live_tf ∷ live_tf ∷ live_tf ∷ live_tffff ∷ live_ttftf ∷ live_tf ∷ live_tf ∷ live_t ∷ []; glues = true } ∷
    record { above = live_tf ∷ live_tf ∷ live_tf ∷ live_t ∷ live_t ∷ live_tff ∷ live_tt ∷ []; below = live_t ∷ live_tf ∷ live_tf ∷ live_tt ∷ live_t ∷ live_tff ∷ live_tfff ∷ live_t ∷ live_tf ∷ live_t ∷ live_tff ∷ live_tff ∷ live_tf ∷ live_t ∷ live_tf ∷ live_tt ∷ live_t ∷ live_tf ∷ live_ttf ∷ live_t ∷ live_tf ∷ live_tff ∷ live_tf ∷ live_t ∷ live_tf ∷ live_tff ∷ live_tf ∷ live_tf ∷ live_t ∷ live_t ∷ live_tf ∷ live_tf ∷ live_tf ∷ live_tf ∷ live_tf ∷ live_tt ∷ live_tf ∷ live_tt ∷ live_tf ∷ live_tfff ∷ live_tfff ∷ live_tfff ∷ live_tfff ∷ live_tff ∷ live_tff ∷ live_tf ∷ live_tf ∷ live_tf ∷ live_tt ∷ live_tt ∷ live_tt ∷ live_tf ∷ live_tf ∷ live_tff ∷ live_tf ∷ live_tf ∷ live_tf ∷ live_tf ∷ live_tt ∷ live_tf ∷ live_tf ∷ live_tf ∷ live_tff ∷ live_tf ∷ live_tf ∷ live_tf ∷ live_tf ∷ live_tffff ∷ live_ttftf ∷ live_tf ∷ live_tf ∷ live_t ∷ []; glues = true } ∷
    record { above = live_tf ∷ live_tf ∷ live_tf ∷ live_t ∷ live_t ∷ live_tff ∷ live_tt ∷ []; below = live_t ∷ live_tf ∷ live_tf ∷ live_tt ∷ live_t ∷ live_tff ∷ live_tfff ∷ live_t ∷ live_tf ∷ live_t ∷ live_tff ∷ live_tff ∷ live_tf ∷ live_t ∷ live_tf ∷ live_tf ∷ live_t ∷ live_tf ∷ live_tff ∷ live_t ∷ live_tf ∷ live_tff ∷ live_tf ∷ live_t ∷ live_tf ∷ live_tff ∷ live_tf ∷ live_tf ∷ live_t ∷ live_t ∷ live_tf ∷ live_tf ∷ live_tf ∷ live_tf ∷ live_tf ∷ live_tt ∷ live_tf ∷ live_tt ∷ live_tf ∷ live_tfff ∷ live_tfff ∷ live_tfff ∷ live_tfff ∷ live_tff ∷ live_tff ∷ live_tf ∷ live_tf ∷ live_tf ∷ live_tt ∷ live_tt ∷ live_tt ∷ live_tf ∷ live_tf ∷ live_tff ∷ live_tf ∷ live_tf ∷ live_tf ∷ live_tf ∷ live_tt ∷ live_tf ∷ live_tf ∷ live_tf ∷ live_tff ∷ live_tf ∷ live_tf ∷ live_tf ∷ live_tf ∷ live_tffff ∷ live_ttftf ∷ live_tf ∷ live_tf ∷ live_t ∷ []; glues = true } ∷
    rest

unfoldable pub befores_4 : List (Before) → List (Before)
befores_4 rest =
    record { above = live_tf ∷ live_tf ∷ live_tf ∷ live_t ∷ live_t ∷ live_tff ∷ live_tt ∷ []; below = live_t ∷ live_tf ∷ live_tf ∷ live_tt ∷ live_t ∷ live_tff ∷ live_tfff ∷ live_t ∷ live_tf ∷ live_t ∷ live_tff ∷ live_tff ∷ live_tf ∷ live_t ∷ live_tf ∷ live_tt ∷ live_t ∷ live_tf ∷ live_ttf ∷ live_t ∷ live_tf ∷ live_tff ∷ live_tf ∷ live_t ∷ live_tf ∷ live_tff ∷ live_tf ∷ live_tf ∷ live_t ∷ live_t ∷ live_tt ∷ live_tf ∷ live_tf ∷ live_tf ∷ live_tf ∷ live_tt ∷ live_tf ∷ live_tt ∷ live_tf ∷ live_tfff ∷ live_tfff ∷ live_tfff ∷ live_tfff ∷ live_tff ∷ live_tff ∷ live_tf ∷ live_tf ∷ live_tf ∷ live_tt ∷ live_tt ∷ live_tt ∷ live_tf ∷ live_tf ∷ live_tff ∷ live_tf ∷ live_tf ∷ live_tf ∷ live_tf ∷ live_tt ∷ live_tf ∷ live_tf ∷ live_tf ∷ live_tff ∷ live_tf ∷ live_tf ∷ live_tf ∷ live_tf ∷ live_tffff ∷ live_ttftf ∷ live_tf ∷ live_tf ∷ live_t ∷ []; glues = true } ∷
    record { above = live_tf ∷ live_tf ∷ live_tf ∷ live_t ∷ live_t ∷ live_tff ∷ live_tt ∷ []; below = live_t ∷ live_tf ∷ live_tf ∷ live_tt ∷ live_t ∷ live_tff ∷ live_tfff ∷ live_t ∷ live_tf ∷ live_t ∷ live_tff ∷ live_tff ∷ live_tf ∷ live_t ∷ live_tf ∷ live_tf ∷ live_t ∷ live_tf ∷ live_tff ∷ live_t ∷ live_tf ∷ live_tff ∷ live_tf ∷ live_t ∷ live_tf ∷ live_tff ∷ live_tf ∷ live_tf ∷ live_t ∷ live_t ∷ live_tt ∷ live_tf ∷ live_tf ∷ live_tf ∷ live_tf ∷ live_tt ∷ live_tf ∷ live_tt ∷ live_tf ∷ live_tfff ∷ live_tfff ∷ live_tfff ∷ live_tfff ∷ live_tff ∷ live_tff ∷ live_tf ∷ live_tf ∷ live_tf ∷ live_tt ∷ live_tt ∷ live_tt ∷ live_tf ∷ live_tf ∷ live_tff ∷ live_tf ∷ live_tf ∷ live_tf ∷ live_tf ∷ live_tt ∷ live_tf ∷ live_tf ∷ live_tf ∷ live_tff ∷ live_tf ∷ live_tf ∷ live_tf ∷ live_tf ∷ live_tffff ∷ live_ttftf ∷ live_tf ∷ live_tf ∷ live_t ∷ []; glues = true } ∷
    record { above = live_tf ∷ live_tf ∷ live_tf ∷ live_t ∷ live_t ∷ live_tff ∷ live_tt ∷ []; below = live_t ∷ live_tf ∷ live_tf ∷ live_tt ∷ live_t ∷ live_tff ∷ live_ttff ∷ live_t ∷ live_tf ∷ live_t ∷ live_tff ∷ live_tff ∷ live_tf ∷ live_t ∷ live_tt ∷ live_tt ∷ live_t ∷ live_tt ∷ live_ttt ∷ live_t ∷ live_tf ∷ live_tff ∷ live_tf ∷ live_t ∷ live_tf ∷ live_tff ∷ live_tf ∷ live_tf ∷ live_t ∷ live_t ∷ live_tf ∷ live_tf ∷ live_tf ∷ live_tf ∷ live_tf ∷ live_tf ∷ live_tf ∷ live_tf ∷ live_tf ∷ live_tfff ∷ live_tfff ∷ live_tfff ∷ live_tfff ∷ live_tff ∷ live_tff ∷ live_tf ∷ live_tf ∷ live_tf ∷ live_tf ∷ live_tf ∷ live_tf ∷ live_tf ∷ live_tf ∷ live_tff ∷ live_tf ∷ live_tf ∷ live_tf ∷ live_tf ∷ live_tf ∷ live_tf ∷ live_tf ∷ live_tf ∷ live_tff ∷ live_tf ∷ live_tf ∷ live_tf ∷ live_tf ∷ live_tffff ∷ live_ttftf ∷ live_tf ∷ live_tf ∷ live_t ∷ []; glues = true } ∷
    record { above = live_tf ∷ live_tf ∷ live_tf ∷ live_t ∷ live_t ∷ live_tff ∷ live_tf ∷ []; below = live_t ∷ live_tf ∷ live_tf ∷ live_tf ∷ live_t ∷ live_tff ∷ live_tttt ∷ live_t ∷ live_tt ∷ live_t ∷ live_tff ∷ live_tff ∷ live_tt ∷ live_t ∷ live_tf ∷ live_tt ∷ live_t ∷ live_tf ∷ live_ttf ∷ live_t ∷ live_tf ∷ live_ttf ∷ live_tf ∷ live_t ∷ live_tf ∷ live_tff ∷ live_tf ∷ live_tf ∷ live_t ∷ live_t ∷ live_tf ∷ live_tf ∷ live_tf ∷ live_tf ∷ live_tf ∷ live_tf ∷ live_tf ∷ live_tf ∷ live_tf ∷ live_tfff ∷ live_tfff ∷ live_tfff ∷ live_tfff ∷ live_tff ∷ live_tff ∷ live_tf ∷ live_tf ∷ live_tf ∷ live_tf ∷ live_tf ∷ live_tf ∷ live_tf ∷ live_tf ∷ live_tff ∷ live_tf ∷ live_tf ∷ live_tf ∷ live_tf ∷ live_tf ∷ live_tf ∷ live_tf ∷ live_tf ∷ live_tff ∷ live_tf ∷ live_tf ∷ live_tf ∷ live_tf ∷ live_tffff ∷ live_ttftf ∷ live_tf ∷ live_tf ∷ live_t ∷ []; glues = false } ∷
    record { above = live_tf ∷ live_tf ∷ live_tf ∷ live_t ∷ live_t ∷ live_tff ∷ live_tt ∷ []; below = live_t ∷ live_tf ∷ live_tf ∷ live_tt ∷ live_t ∷ live_tff ∷ live_tttt ∷ live_t ∷ live_tf ∷ live_t ∷ live_tff ∷ live_tff ∷ live_tf ∷ live_t ∷ live_tt ∷ live_tt ∷ live_t ∷ live_tt ∷ live_ttt ∷ live_t ∷ live_tf ∷ live_tff ∷ live_tf ∷ live_t ∷ live_tf ∷ live_tff ∷ live_tf ∷ live_tf ∷ live_t ∷ live_t ∷ live_tf ∷ live_tf ∷ live_tf ∷ live_tf ∷ live_tf ∷ live_tf ∷ live_tf ∷ live_tf ∷ live_tf ∷ live_tfff ∷ live_tfff ∷ live_tfff ∷ live_tfff ∷ live_tff ∷ live_tff ∷ live_tf ∷ live_tf ∷ live_tf ∷ live_tf ∷ live_tf ∷ live_tf ∷ live_tf ∷ live_tf ∷ live_tff ∷ live_tf ∷ live_tf ∷ live_tf ∷ live_tf ∷ live_tf ∷ live_tf ∷ live_tf ∷ live_tf ∷ live_tff ∷ live_tf ∷ live_tf ∷ live_tf ∷ live_tf ∷ live_tffff ∷ live_ttftf ∷ live_tf ∷ live_tf ∷ live_t ∷ []; glues = true } ∷
    record { above = live_tf ∷ live_tf ∷ live_tf ∷ live_t ∷ live_t ∷ live_tff ∷ live_tt ∷ []; below = live_t ∷ live_tf ∷ live_tf ∷ live_tt ∷ live_t ∷ live_tff ∷ live_ttff ∷ live_t ∷ live_tf ∷ live_t ∷ live_tff ∷ live_tff ∷ live_tf ∷ live_t ∷ live_tf ∷ live_tt ∷ live_t ∷ live_tt ∷ live_ttt ∷ live_t ∷ live_tf ∷ live_tff ∷ live_tf ∷ live_t ∷ live_tf ∷ live_tff ∷ live_tf ∷ live_tf ∷ live_t ∷ live_t ∷ live_tf ∷ live_tf ∷ live_tf ∷ live_tf ∷ live_tf ∷ live_tf ∷ live_tf ∷ live_tf ∷ live_tf ∷ live_tfff ∷ live_tfff ∷ live_tfff ∷ live_tfff ∷ live_tff ∷ live_tff ∷ live_tf ∷ live_tf ∷ live_tf ∷ live_tf ∷ live_tf ∷ live_tf ∷ live_tf ∷ live_tf ∷ live_tff ∷ live_tf ∷ live_tf ∷ live_tf ∷ live_tf ∷ live_tf ∷ live_tf ∷ live_tf ∷ live_tf ∷ live_tff ∷ live_tf ∷ live_tf ∷ live_tf ∷ live_tf ∷ live_tffff ∷ live_ttftf ∷ live_tf ∷ live_tf ∷ live_t ∷ []; glues = true } ∷
    record { above = live_tf ∷ live_tf ∷ live_tf ∷ live_t ∷ live_t ∷ live_tff ∷ live_tf ∷ []; below = live_t ∷ live_tf ∷ live_tf ∷ live_tt ∷ live_t ∷ live_tff ∷ live_tfff ∷ live_t ∷ live_tf ∷ live_t ∷ live_tff ∷ live_tff ∷ live_tf ∷ live_t ∷ live_tf ∷ live_tt ∷ live_t ∷ live_tf ∷ live_ttf ∷ live_t ∷ live_tf ∷ live_tff ∷ live_tf ∷ live_t ∷ live_tf ∷ live_tff ∷ live_tf ∷ live_tf ∷ live_t ∷ live_t ∷ live_tf ∷ live_tf ∷ live_tf ∷ live_tf ∷ live_tf ∷ live_tf ∷ live_tf ∷ live_tf ∷ live_tf ∷ live_tfff ∷ live_tfff ∷ live_tfff ∷ live_tfff ∷ live_tff ∷ live_tff ∷ live_tf ∷ live_tf ∷ live_tf ∷ live_tf ∷ live_tf ∷ live_tf ∷ live_tf ∷ live_tf ∷ live_tff ∷ live_tf ∷ live_tf ∷ live_tf ∷ live_tf ∷ live_tf ∷ live_tf ∷ live_tf ∷ live_tf ∷ live_tff ∷ live_tf ∷ live_tf ∷ live_tf ∷ live_tf ∷ live_ttftf ∷ live_tffff ∷ live_tf ∷ live_tf ∷ live_t ∷ []; glues = true } ∷
    record { above = live_tf ∷ live_tf ∷ live_tf ∷ live_t ∷ live_t ∷ live_tff ∷ live_tt ∷ []; below = live_t ∷ live_tf ∷ live_tf ∷ live_tt ∷ live_t ∷ live_tff ∷ live_tfff ∷ live_t ∷ live_tf ∷ live_t ∷ live_tff ∷ live_tff ∷ live_tf ∷ live_t ∷ live_tf ∷ live_tt ∷ live_t ∷ live_tf ∷ live_ttf ∷ live_t ∷ live_tf ∷ live_tff ∷ live_tf ∷ live_t ∷ live_tf ∷ live_tff ∷ live_tf ∷ live_tf ∷ live_t ∷ live_t ∷ live_tf ∷ live_tf ∷ live_tf ∷ live_tf ∷ live_tf ∷ live_tf ∷ live_tf ∷ live_tf ∷ live_tf ∷ live_tfff ∷ live_tfff ∷ live_tfff ∷ live_tfff ∷ live_tff ∷ live_tff ∷ live_tf ∷ live_tf ∷ live_tf ∷ live_tf ∷ live_tf ∷ live_tf ∷ live_tf ∷ live_tf ∷ live_tff ∷ live_tf ∷ live_tf ∷ live_tf ∷ live_tf ∷ live_tf ∷ live_tf ∷ live_tf ∷ live_tf ∷ live_tff ∷ live_tf ∷ live_tf ∷ live_tf ∷ live_tf ∷ live_tftft ∷ live_tffff ∷ live_tf ∷ live_tf ∷ live_t ∷ []; glues = true } ∷
    record { above = live_tf ∷ live_tf ∷ live_tf ∷ live_t ∷ live_t ∷ live_tff ∷ live_tt ∷ []; below = live_t ∷ live_tf ∷ live_tf ∷ live_tt ∷ live_t ∷ live_tff ∷ live_tfff ∷ live_t ∷ live_tf ∷ live_t ∷ live_tff ∷ live_tff ∷ live_tf ∷ live_t ∷ live_tf ∷ live_tt ∷ live_t ∷ live_tf ∷ live_ttf ∷ live_t ∷ live_tf ∷ live_tff ∷ live_tf ∷ live_t ∷ live_tf ∷ live_tff ∷ live_tt ∷ live_tf ∷ live_t ∷ live_t ∷ live_tf ∷ live_tf ∷ live_tf ∷ live_tf ∷ live_tf ∷ live_tf ∷ live_tf ∷ live_tf ∷ live_tf ∷ live_tfff ∷ live_tfff ∷ live_tfff ∷ live_tfff ∷ live_tff ∷ live_tff ∷ live_tf ∷ live_tf ∷ live_tf ∷ live_tf ∷ live_tf ∷ live_tf ∷ live_tf ∷ live_tf ∷ live_tff ∷ live_tf ∷ live_tf ∷ live_tf ∷ live_tf ∷ live_tf ∷ live_tf ∷ live_tf ∷ live_tf ∷ live_tff ∷ live_tf ∷ live_tf ∷ live_tf ∷ live_tf ∷ live_tffff ∷ live_ttftf ∷ live_tf ∷ live_tf ∷ live_t ∷ []; glues = true } ∷
    record { above = live_tf ∷ live_tf ∷ live_tf ∷ live_t ∷ live_t ∷ live_tff ∷ live_tt ∷ []; below = live_t ∷ live_tt ∷ live_tf ∷ live_tt ∷ live_t ∷ live_tff ∷ live_tfff ∷ live_t ∷ live_tf ∷ live_t ∷ live_tff ∷ live_tff ∷ live_tf ∷ live_t ∷ live_tf ∷ live_tt ∷ live_t ∷ live_tf ∷ live_ttf ∷ live_t ∷ live_tf ∷ live_tff ∷ live_tf ∷ live_t ∷ live_tf ∷ live_tff ∷ live_tf ∷ live_tf ∷ live_t ∷ live_t ∷ live_tf ∷ live_tf ∷ live_tf ∷ live_tf ∷ live_tf ∷ live_tf ∷ live_tf ∷ live_tf ∷ live_tf ∷ live_tfff ∷ live_tfff ∷ live_tfff ∷ live_tfff ∷ live_tff ∷ live_tff ∷ live_tf ∷ live_tf ∷ live_tf ∷ live_tf ∷ live_tf ∷ live_tf ∷ live_tf ∷ live_tf ∷ live_tff ∷ live_tf ∷ live_tf ∷ live_tf ∷ live_tf ∷ live_tf ∷ live_tf ∷ live_tf ∷ live_tf ∷ live_tff ∷ live_tf ∷ live_tf ∷ live_tf ∷ live_tf ∷ live_tffff ∷ live_ttftf ∷ live_tf ∷ live_tf ∷ live_t ∷ []; glues = true } ∷
    record { above = live_tf ∷ live_tf ∷ live_tf ∷ live_t ∷ live_t ∷ live_ttt ∷ live_tf ∷ []; below = live_t ∷ live_tf ∷ live_tf ∷ live_tf ∷ live_t ∷ live_tff ∷ live_ttff ∷ live_t ∷ live_tt ∷ live_t ∷ live_tff ∷ live_tff ∷ live_tt ∷ live_t ∷ live_tf ∷ live_tt ∷ live_t ∷ live_tf ∷ live_ttf ∷ live_t ∷ live_tf ∷ live_ttf ∷ live_tf ∷ live_t ∷ live_tf ∷ live_tff ∷ live_tf ∷ live_tf ∷ live_t ∷ live_t ∷ live_tf ∷ live_tf ∷ live_tf ∷ live_tf ∷ live_tf ∷ live_tf ∷ live_tf ∷ live_tf ∷ live_tf ∷ live_tfff ∷ live_tfff ∷ live_tfff ∷ live_tfff ∷ live_tff ∷ live_tff ∷ live_tf ∷ live_tf ∷ live_tf ∷ live_tf ∷ live_tf ∷ live_tf ∷ live_tf ∷ live_tf ∷ live_tff ∷ live_tf ∷ live_tf ∷ live_tf ∷ live_tf ∷ live_tf ∷ live_tf ∷ live_tf ∷ live_tf ∷ live_tff ∷ live_tf ∷ live_tf ∷ live_tf ∷ live_tf ∷ live_tffff ∷ live_ttftf ∷ live_tf ∷ live_tf ∷ live_t ∷ []; glues = false } ∷
    record { above = live_tf ∷ live_tf ∷ live_tf ∷ live_t ∷ live_t ∷ live_tff ∷ live_tt ∷ []; below = live_t ∷ live_tf ∷ live_tf ∷ live_tf ∷ live_t ∷ live_tff ∷ live_tfff ∷ live_t ∷ live_tf ∷ live_t ∷ live_tff ∷ live_tff ∷ live_tf ∷ live_t ∷ live_tf ∷ live_tt ∷ live_t ∷ live_tf ∷ live_ttf ∷ live_t ∷ live_tf ∷ live_tff ∷ live_tf ∷ live_t ∷ live_tf ∷ live_tff ∷ live_tf ∷ live_tf ∷ live_t ∷ live_t ∷ live_tf ∷ live_tf ∷ live_tf ∷ live_tf ∷ live_tf ∷ live_tf ∷ live_tf ∷ live_tf ∷ live_tf ∷ live_tfff ∷ live_tfff ∷ live_tfff ∷ live_tfff ∷ live_tff ∷ live_tff ∷ live_tf ∷ live_tf ∷ live_tf ∷ live_tf ∷ live_tf ∷ live_tf ∷ live_tt ∷ live_tf ∷ live_tff ∷ live_tf ∷ live_tf ∷ live_tf ∷ live_tf ∷ live_tf ∷ live_tf ∷ live_tf ∷ live_tf ∷ live_tff ∷ live_tf ∷ live_tf ∷ live_tf ∷ live_tf ∷ live_tffff ∷ live_ttftf ∷ live_tf ∷ live_tf ∷ live_t ∷ []; glues = true } ∷
    record { above = live_tf ∷ live_tf ∷ live_tf ∷ live_t ∷ live_t ∷ live_tff ∷ live_tt ∷ []; below = live_t ∷ live_tf ∷ live_tf ∷ live_tt ∷ live_t ∷ live_tff ∷ live_tfff ∷ live_t ∷ live_tf ∷ live_t ∷ live_tff ∷ live_tff ∷ live_tf ∷ live_t ∷ live_tf ∷ live_tt ∷ live_t ∷ live_tf ∷ live_ttf ∷ live_t ∷ live_tf ∷ live_tff ∷ live_tf ∷ live_t ∷ live_tf ∷ live_tff ∷ live_tf ∷ live_tf ∷ live_t ∷ live_t ∷ live_tf ∷ live_tf ∷ live_tf ∷ live_tf ∷ live_tf ∷ live_tf ∷ live_tf ∷ live_tf ∷ live_tf ∷ live_tfff ∷ live_tfff ∷ live_tfff ∷ live_tfff ∷ live_tff ∷ live_tff ∷ live_tf ∷ live_tf ∷ live_tf ∷ live_tf ∷ live_tf ∷ live_tf ∷ live_tf ∷ live_tf ∷ live_tff ∷ live_tf ∷ live_tf ∷ live_tf ∷ live_tf ∷ live_tf ∷ live_tf ∷ live_tf ∷ live_tf ∷ live_tff ∷ live_tf ∷ live_tf ∷ live_tf ∷ live_tf ∷ live_tffff ∷ live_tftft ∷ live_tf ∷ live_tf ∷ live_t ∷ []; glues = true } ∷
    record { above = live_tf ∷ live_tf ∷ live_tf ∷ live_t ∷ live_t ∷ live_tff ∷ live_tt ∷ []; below = live_t ∷ live_tf ∷ live_tf ∷ live_tt ∷ live_t ∷ live_tff ∷ live_tfff ∷ live_t ∷ live_tf ∷ live_t ∷ live_tff ∷ live_tff ∷ live_tf ∷ live_t ∷ live_tf ∷ live_tt ∷ live_t ∷ live_tf ∷ live_ttf ∷ live_t ∷ live_tf ∷ live_tff ∷ live_tf ∷ live_t ∷ live_tf ∷ live_tff ∷ live_tf ∷ live_tf ∷ live_t ∷ live_t ∷ live_tf ∷ live_tf ∷ live_tf ∷ live_tf ∷ live_tf ∷ live_tf ∷ live_tf ∷ live_tf ∷ live_tf ∷ live_tfff ∷ live_tfff ∷ live_tfff ∷ live_tfff ∷ live_tff ∷ live_tff ∷ live_tf ∷ live_tf ∷ live_tf ∷ live_tf ∷ live_tf ∷ live_tf ∷ live_tf ∷ live_tf ∷ live_tff ∷ live_tf ∷ live_tf ∷ live_tf ∷ live_tf ∷ live_tf ∷ live_tf ∷ live_tf ∷ live_tf ∷ live_tft ∷ live_tf ∷ live_tf ∷ live_tf ∷ live_tf ∷ live_tffff ∷ live_ttftf ∷ live_tf ∷ live_tf ∷ live_t ∷ []; glues = true } ∷
    record { above = live_tf ∷ live_tf ∷ live_tf ∷ live_t ∷ live_t ∷ live_tff ∷ live_tt ∷ []; below = live_t ∷ live_tf ∷ live_tf ∷ live_tt ∷ live_t ∷ live_tff ∷ live_ttff ∷ live_t ∷ live_tf ∷ live_t ∷ live_tff ∷ live_tff ∷ live_tf ∷ live_t ∷ live_tt ∷ live_tt ∷ live_t ∷ live_tt ∷ live_ttf ∷ live_t ∷ live_tf ∷ live_tff ∷ live_tf ∷ live_t ∷ live_tf ∷ live_tff ∷ live_tf ∷ live_tf ∷ live_t ∷ live_t ∷ live_tf ∷ live_tf ∷ live_tf ∷ live_tf ∷ live_tf ∷ live_tf ∷ live_tf ∷ live_tf ∷ live_tf ∷ live_tfff ∷ live_tfff ∷ live_tfff ∷ live_tfff ∷ live_tff ∷ live_tff ∷ live_tf ∷ live_tf ∷ live_tf ∷ live_tf ∷ live_tf ∷ live_tf ∷ live_tf ∷ live_tf ∷ live_tff ∷ live_tf ∷ live_tf ∷ live_tf ∷ live_tf ∷ live_tf ∷ live_tf ∷ live_tf ∷ live_tf ∷ live_tff ∷ live_tf ∷ live_tf ∷ live_tf ∷ live_tf ∷ live_tffff ∷ live_ttftf ∷ live_tf ∷ live_tf ∷ live_t ∷ []; glues = true } ∷
    record { above = live_tf ∷ live_tf ∷ live_tf ∷ live_t ∷ live_t ∷ live_tff ∷ live_tt ∷ []; below = live_t ∷ live_tf ∷ live_tf ∷ live_tt ∷ live_t ∷ live_tff ∷ live_ttff ∷ live_t ∷ live_tf ∷ live_t ∷ live_tff ∷ live_tff ∷ live_tf ∷ live_t ∷ live_tf ∷ live_tt ∷ live_t ∷ live_tt ∷ live_ttf ∷ live_t ∷ live_tf ∷ live_tff ∷ live_tf ∷ live_t ∷ live_tf ∷ live_tff ∷ live_tf ∷ live_tf ∷ live_t ∷ live_t ∷ live_tf ∷ live_tf ∷ live_tf ∷ live_tf ∷ live_tf ∷ live_tf ∷ live_tf ∷ live_tf ∷ live_tf ∷ live_tfff ∷ live_tfff ∷ live_tfff ∷ live_tfff ∷ live_tff ∷ live_tff ∷ live_tf ∷ live_tf ∷ live_tf ∷ live_tf ∷ live_tf ∷ live_tf ∷ live_tf ∷ live_tf ∷ live_tff ∷ live_tf ∷ live_tf ∷ live_tf ∷ live_tf ∷ live_tf ∷ live_tf ∷ live_tf ∷ live_tf ∷ live_tff ∷ live_tf ∷ live_tf ∷ live_tf ∷ live_tf ∷ live_tffff ∷ live_ttftf ∷ live_tf ∷ live_tf ∷ live_t ∷ []; glues = true } ∷
    record { above = live_tf ∷ live_tf ∷ live_tf ∷ live_t ∷ live_t ∷ live_tff ∷ live_tt ∷ []; below = live_t ∷ live_tf ∷ live_tf ∷ live_tt ∷ live_t ∷ live_tff ∷ live_tttt ∷ live_t ∷ live_tf ∷ live_t ∷ live_tff ∷ live_tff ∷ live_tf ∷ live_t ∷ live_tt ∷ live_tt ∷ live_t ∷ live_tt ∷ live_ttf ∷ live_t ∷ live_tf ∷ live_tff ∷ live_tf ∷ live_t ∷ live_tf ∷ live_tff ∷ live_tf ∷ live_tf ∷ live_t ∷ live_t ∷ live_tf ∷ live_tf ∷ live_tf ∷ live_tf ∷ live_tf ∷ live_tf ∷ live_tf ∷ live_tf ∷ live_tf ∷ live_tfff ∷ live_tfff ∷ live_tfff ∷ live_tfff ∷ live_tff ∷ live_tff ∷ live_tf ∷ live_tf ∷ live_tf ∷ live_tf ∷ live_tf ∷ live_tf ∷ live_tf ∷ live_tf ∷ live_tff ∷ live_tf ∷ live_tf ∷ live_tf ∷ live_tf ∷ live_tf ∷ live_tf ∷ live_tf ∷ live_tf ∷ live_tff ∷ live_tf ∷ live_tf ∷ live_tf ∷ live_tf ∷ live_tffff ∷ live_ttftf ∷ live_tf ∷ live_tf ∷ live_t ∷ []; glues = true } ∷
    record { above = live_tf ∷ live_tf ∷ live_tf ∷ live_t ∷ live_t ∷ live_tff ∷ live_tt ∷ []; below = live_t ∷ live_tf ∷ live_tf ∷ live_tf ∷ live_t ∷ live_tff ∷ live_tfff ∷ live_t ∷ live_tf ∷ live_t ∷ live_tff ∷ live_tff ∷ live_tf ∷ live_t ∷ live_tf ∷ live_tt ∷ live_t ∷ live_tf ∷ live_ttf ∷ live_t ∷ live_tf ∷ live_tff ∷ live_tf ∷ live_t ∷ live_tf ∷ live_tft ∷ live_tf ∷ live_tf ∷ live_t ∷ live_t ∷ live_tf ∷ live_tf ∷ live_tf ∷ live_tf ∷ live_tf ∷ live_tf ∷ live_tf ∷ live_tf ∷ live_tf ∷ live_tfff ∷ live_tfff ∷ live_tfff ∷ live_tfff ∷ live_tff ∷ live_tff ∷ live_tf ∷ live_tf ∷ live_tf ∷ live_tf ∷ live_tf ∷ live_tf ∷ live_tf ∷ live_tf ∷ live_tff ∷ live_tf ∷ live_tf ∷ live_tf ∷ live_tf ∷ live_tf ∷ live_tf ∷ live_tf ∷ live_tf ∷ live_tff ∷ live_tf ∷ live_tf ∷ live_tf ∷ live_tf ∷ live_tffff ∷ live_ttftf ∷ live_tf ∷ live_tf ∷ live_t ∷ []; glues = true } ∷
    record { above = live_tf ∷ live_tf ∷ live_tf ∷ live_t ∷ live_t ∷ live_tff ∷ live_tt ∷ []; below = live_t ∷ live_tf ∷ live_tf ∷ live_tf ∷ live_t ∷ live_tff ∷ live_tfff ∷ live_t ∷ live_tf ∷ live_t ∷ live_tff ∷ live_tff ∷ live_tf ∷ live_t ∷ live_tf ∷ live_tt ∷ live_t ∷ live_tf ∷ live_ttf ∷ live_t ∷ live_tf ∷ live_tff ∷ live_tf ∷ live_t ∷ live_tf ∷ live_tft ∷ live_tf ∷ live_tf ∷ live_t ∷ live_t ∷ live_tf ∷ live_tf ∷ live_tf ∷ live_tf ∷ live_tf ∷ live_tf ∷ live_tf ∷ live_tf ∷ live_tf ∷ live_tfff ∷ live_tfff ∷ live_tfff ∷ live_tfff ∷ live_tff ∷ live_tff ∷ live_tf ∷ live_tf ∷ live_tf ∷ live_tf ∷ live_tf ∷ live_tf ∷ live_tt ∷ live_tf ∷ live_tff ∷ live_tf ∷ live_tf ∷ live_tf ∷ live_tf ∷ live_tf ∷ live_tf ∷ live_tf ∷ live_tf ∷ live_tff ∷ live_tf ∷ live_tf ∷ live_tf ∷ live_tf ∷ live_tffff ∷ live_ttftf ∷ live_tf ∷ live_tf ∷ live_t ∷ []; glues = true } ∷
    record { above = live_tf ∷ live_tf ∷ live_tf ∷ live_t ∷ live_t ∷ live_tff ∷ live_tt ∷ []; below = live_t ∷ live_tf ∷ live_tf ∷ live_tt ∷ live_t ∷ live_tff ∷ live_tfff ∷ live_t ∷ live_tf ∷ live_t ∷ live_ttt ∷ live_tff ∷ live_tf ∷ live_t ∷ live_tf ∷ live_tt ∷ live_t ∷ live_tf ∷ live_ttf ∷ live_t ∷ live_tf ∷ live_tff ∷ live_tf ∷ live_t ∷ live_tf ∷ live_tff ∷ live_tf ∷ live_tf ∷ live_t ∷ live_t ∷ live_tf ∷ live_tf ∷ live_tf ∷ live_tf ∷ live_tf ∷ live_tf ∷ live_tf ∷ live_tf ∷ live_tf ∷ live_tfft ∷ live_tfff ∷ live_tfft ∷ live_tfff ∷ live_tff ∷ live_tff ∷ live_tf ∷ live_tf ∷ live_tf ∷ live_tf ∷ live_tf ∷ live_tf ∷ live_tf ∷ live_tf ∷ live_tff ∷ live_tf ∷ live_tf ∷ live_tf ∷ live_tf ∷ live_tf ∷ live_tf ∷ live_tf ∷ live_tf ∷ live_tff ∷ live_tf ∷ live_tf ∷ live_tf ∷ live_tf ∷ live_tffff ∷ live_ttftf ∷ live_tf ∷ live_tf ∷ live_t ∷ []; glues = true } ∷
    record { above = live_tf ∷ live_tf ∷ live_tf ∷ live_t ∷ live_t ∷ live_tff ∷ live_tt ∷ []; below = live_t ∷ live_tf ∷ live_tf ∷ live_tt ∷ live_t ∷ live_tff ∷ live_tfff ∷ live_t ∷ live_tf ∷ live_t ∷ live_ttt ∷ live_tff ∷ live_tf ∷ live_t ∷ live_tf ∷ live_tf ∷ live_t ∷ live_tf ∷ live_tff ∷ live_t ∷ live_tf ∷ live_tff ∷ live_tf ∷ live_t ∷ live_tf ∷ live_tff ∷ live_tf ∷ live_tf ∷ live_t ∷ live_t ∷ live_tf ∷ live_tf ∷ live_tf ∷ live_tf ∷ live_tf ∷ live_tf ∷ live_tf ∷ live_tf ∷ live_tf ∷ live_tfft ∷ live_tfff ∷ live_tfft ∷ live_tfff ∷ live_tff ∷ live_tff ∷ live_tf ∷ live_tf ∷ live_tf ∷ live_tf ∷ live_tf ∷ live_tf ∷ live_tf ∷ live_tf ∷ live_tff ∷ live_tf ∷ live_tf ∷ live_tf ∷ live_tf ∷ live_tf ∷ live_tf ∷ live_tf ∷ live_tf ∷ live_tff ∷ live_tf ∷ live_tf ∷ live_tf ∷ live_tf ∷ live_tffff ∷ live_ttftf ∷ live_tf ∷ live_tf ∷ live_t ∷ []; glues = true } ∷
    record { above = live_tf ∷ live_tf ∷ live_tf ∷ live_t ∷ live_t ∷ live_tff ∷ live_tt ∷ []; below = live_t ∷ live_tf ∷ live_tf ∷ live_tt ∷ live_t ∷ live_tff ∷ live_tfff ∷ live_t ∷ live_tf ∷ live_t ∷ live_ttt ∷ live_tff ∷ live_tf ∷ live_t ∷ live_tf ∷ live_tt ∷ live_t ∷ live_tf ∷ live_ttf ∷ live_t ∷ live_tf ∷ live_tff ∷ live_tf ∷ live_t ∷ live_tf ∷ live_tff ∷ live_tf ∷ live_tf ∷ live_t ∷ live_t ∷ live_tf ∷ live_tf ∷ live_tf ∷ live_tf ∷ live_tf ∷ live_tf ∷ live_tf ∷ live_tf ∷ live_tf ∷ live_tfff ∷ live_tfft ∷ live_tfff ∷ live_tfft ∷ live_tff ∷ live_tff ∷ live_tf ∷ live_tf ∷ live_tf ∷ live_tf ∷ live_tf ∷ live_tf ∷ live_tf ∷ live_tf ∷ live_tff ∷ live_tf ∷ live_tf ∷ live_tf ∷ live_tf ∷ live_tf ∷ live_tf ∷ live_tf ∷ live_tf ∷ live_tff ∷ live_tf ∷ live_tf ∷ live_tf ∷ live_tt ∷ live_tffff ∷ live_ttftf ∷ live_tf ∷ live_tf ∷ live_t ∷ []; glues = true } ∷
    record { above = live_tf ∷ live_tf ∷ live_tf ∷ live_t ∷ live_t ∷ live_tff ∷ live_tt ∷ []; below = live_t ∷ live_tf ∷ live_tf ∷ live_tt ∷ live_t ∷ live_tff ∷ live_tfff ∷ live_t ∷ live_tf ∷ live_t ∷ live_tff ∷ live_tff ∷ live_tf ∷ live_t ∷ live_tf ∷ live_tt ∷ live_t ∷ live_tf ∷ live_ttf ∷ live_t ∷ live_tf ∷ live_tff ∷ live_tf ∷ live_t ∷ live_tf ∷ live_tff ∷ live_tf ∷ live_tf ∷ live_t ∷ live_t ∷ live_tf ∷ live_tf ∷ live_tf ∷ live_tf ∷ live_tf ∷ live_tf ∷ live_tf ∷ live_tf ∷ live_tf ∷ live_tttf ∷ live_tttf ∷ live_tttf ∷ live_tttf ∷ live_ttt ∷ live_ttt ∷ live_tf ∷ live_tf ∷ live_tf ∷ live_tf ∷ live_tf ∷ live_tf ∷ live_tf ∷ live_tt ∷ live_ttt ∷ live_tf ∷ live_tf ∷ live_tf ∷ live_tf ∷ live_tf ∷ live_tf ∷ live_tf ∷ live_tf ∷ live_tff ∷ live_tf ∷ live_tt ∷ live_tf ∷ live_tf ∷ live_tffff ∷ live_ttftf ∷ live_tf ∷ live_tf ∷ live_t ∷ []; glues = true } ∷
    record { above = live_tf ∷ live_tf ∷ live_tf ∷ live_t ∷ live_t ∷ live_tff ∷ live_tt ∷ []; below = live_t ∷ live_tf ∷ live_tf ∷ live_tt ∷ live_t ∷ live_tff ∷ live_tfff ∷ live_t ∷ live_tf ∷ live_t ∷ live_tff ∷ live_tff ∷ live_tf ∷ live_t ∷ live_tf ∷ live_tt ∷ live_t ∷ live_tf ∷ live_ttf ∷ live_t ∷ live_tf ∷ live_tff ∷ live_tf ∷ live_t ∷ live_tf ∷ live_tff ∷ live_tt ∷ live_tf ∷ live_t ∷ live_t ∷ live_tf ∷ live_tf ∷ live_tf ∷ live_tf ∷ live_tf ∷ live_tf ∷ live_tf ∷ live_tf ∷ live_tf ∷ live_tttf ∷ live_tttf ∷ live_tttf ∷ live_tttf ∷ live_ttt ∷ live_ttt ∷ live_tf ∷ live_tf ∷ live_tf ∷ live_tf ∷ live_tf ∷ live_tf ∷ live_tf ∷ live_tf ∷ live_ttt ∷ live_tf ∷ live_tf ∷ live_tf ∷ live_tf ∷ live_tf ∷ live_tf ∷ live_tf ∷ live_tf ∷ live_tff ∷ live_tf ∷ live_tf ∷ live_tf ∷ live_tf ∷ live_tffff ∷ live_ttftf ∷ live_tf ∷ live_tf ∷ live_t ∷ []; glues = true } ∷
    record { above = live_tf ∷ live_tf ∷ live_tf ∷ live_t ∷ live_t ∷ live_tff ∷ live_tt ∷ []; below = live_t ∷ live_tf ∷ live_tf ∷ live_tt ∷ live_t ∷ live_tff ∷ live_tfff ∷ live_t ∷ live_tf ∷ live_t ∷ live_tff ∷ live_tff ∷ live_tf ∷ live_t ∷ live_tf ∷ live_tt ∷ live_t ∷ live_tf ∷ live_ttf ∷ live_t ∷ live_tf ∷ live_tff ∷ live_tf ∷ live_t ∷ live_tf ∷ live_tff ∷ live_tf ∷ live_tf ∷ live_t ∷ live_t ∷ live_tf ∷ live_tf ∷ live_tf ∷ live_tf ∷ live_tf ∷ live_tf ∷ live_tf ∷ live_tf ∷ live_tf ∷ live_tfff ∷ live_tfff ∷ live_tfff ∷ live_tfff ∷ live_tff ∷ live_tff ∷ live_tf ∷ live_tf ∷ live_tf ∷ live_tf ∷ live_tf ∷ live_tf ∷ live_tf ∷ live_tf ∷ live_tff ∷ live_tf ∷ live_tf ∷ live_tf ∷ live_tf ∷ live_tf ∷ live_tf ∷ live_tf ∷ live_tf ∷ live_tff ∷ live_tf ∷ live_tf ∷ live_tf ∷ live_tf ∷ live_ttftf ∷ live_tffff ∷ live_tf ∷ live_tf ∷ live_t ∷ []; glues = true } ∷
    rest

unfoldable pub befores : List (Before)
befores = befores_0 (befores_1 (befores_2 (befores_3 (befores_4 []))))

unfoldable pub moves_0 : List (List ℕ) → List (List ℕ)
moves_0 rest =
    (1 ∷ 2 ∷ 3 ∷ 4 ∷ 5 ∷ 6 ∷ 2 ∷ 7 ∷ 8 ∷ 9 ∷ 8 ∷ 10 ∷ 11 ∷ 12 ∷ 13 ∷ 14 ∷ 1 ∷ 15 ∷ 16 ∷ 17 ∷ 18 ∷ 19 ∷ 20 ∷ 21 ∷ 22 ∷ 23 ∷ 24 ∷ 25 ∷ 26 ∷ 8 ∷ 27 ∷ 28 ∷ 29 ∷ 30 ∷ 31 ∷ 32 ∷ 33 ∷ 20 ∷ 21 ∷ 34 ∷ 35 ∷ 36 ∷ 37 ∷ 38 ∷ 39 ∷ 40 ∷ 40 ∷ 20 ∷ 21 ∷ 41 ∷ 42 ∷ 43 ∷ 44 ∷ 45 ∷ 46 ∷ 45 ∷ 46 ∷ 47 ∷ 48 ∷ 49 ∷ 50 ∷ 51 ∷ 52 ∷ 53 ∷ 54 ∷ 55 ∷ 56 ∷ 20 ∷ 20 ∷ 57 ∷ 58 ∷ 59 ∷ []) ∷
    (1 ∷ 2 ∷ 3 ∷ 4 ∷ 5 ∷ 6 ∷ 2 ∷ 7 ∷ 8 ∷ 9 ∷ 8 ∷ 10 ∷ 11 ∷ 12 ∷ 13 ∷ 14 ∷ 1 ∷ 15 ∷ 16 ∷ 17 ∷ 18 ∷ 19 ∷ 20 ∷ 21 ∷ 22 ∷ 23 ∷ 24 ∷ 25 ∷ 8 ∷ 8 ∷ 27 ∷ 60 ∷ 29 ∷ 30 ∷ 31 ∷ 32 ∷ 33 ∷ 20 ∷ 21 ∷ 34 ∷ 35 ∷ 36 ∷ 37 ∷ 38 ∷ 39 ∷ 40 ∷ 40 ∷ 20 ∷ 21 ∷ 41 ∷ 42 ∷ 43 ∷ 44 ∷ 45 ∷ 46 ∷ 45 ∷ 46 ∷ 47 ∷ 48 ∷ 49 ∷ 50 ∷ 51 ∷ 51 ∷ 53 ∷ 61 ∷ 55 ∷ 56 ∷ 20 ∷ 20 ∷ 57 ∷ 58 ∷ 59 ∷ []) ∷
    (1 ∷ 2 ∷ 3 ∷ 4 ∷ 5 ∷ 6 ∷ 2 ∷ 7 ∷ 8 ∷ 9 ∷ 8 ∷ 10 ∷ 11 ∷ 12 ∷ 13 ∷ 14 ∷ 2 ∷ 15 ∷ 16 ∷ 17 ∷ 18 ∷ 19 ∷ 20 ∷ 21 ∷ 22 ∷ 23 ∷ 24 ∷ 25 ∷ 8 ∷ 8 ∷ 27 ∷ 60 ∷ 29 ∷ 30 ∷ 31 ∷ 32 ∷ 33 ∷ 20 ∷ 21 ∷ 34 ∷ 35 ∷ 36 ∷ 37 ∷ 38 ∷ 39 ∷ 40 ∷ 40 ∷ 20 ∷ 21 ∷ 41 ∷ 42 ∷ 43 ∷ 44 ∷ 45 ∷ 46 ∷ 45 ∷ 46 ∷ 47 ∷ 48 ∷ 49 ∷ 50 ∷ 51 ∷ 51 ∷ 53 ∷ 61 ∷ 55 ∷ 56 ∷ 20 ∷ 62 ∷ 57 ∷ 58 ∷ 63 ∷ []) ∷
    (1 ∷ 2 ∷ 3 ∷ 4 ∷ 5 ∷ 6 ∷ 2 ∷ 7 ∷ 8 ∷ 9 ∷ 8 ∷ 10 ∷ 11 ∷ 12 ∷ 13 ∷ 14 ∷ 3 ∷ 15 ∷ 16 ∷ 17 ∷ 18 ∷ 19 ∷ 20 ∷ 21 ∷ 22 ∷ 23 ∷ 24 ∷ 25 ∷ 8 ∷ 8 ∷ 27 ∷ 60 ∷ 29 ∷ 30 ∷ 31 ∷ 32 ∷ 33 ∷ 20 ∷ 21 ∷ 34 ∷ 35 ∷ 36 ∷ 37 ∷ 38 ∷ 39 ∷ 40 ∷ 40 ∷ 20 ∷ 21 ∷ 41 ∷ 42 ∷ 43 ∷ 44 ∷ 45 ∷ 46 ∷ 45 ∷ 46 ∷ 47 ∷ 48 ∷ 49 ∷ 50 ∷ 64 ∷ 64 ∷ 65 ∷ 61 ∷ 55 ∷ 56 ∷ 20 ∷ 20 ∷ 57 ∷ 58 ∷ 66 ∷ []) ∷
    (1 ∷ 2 ∷ 3 ∷ 4 ∷ 5 ∷ 6 ∷ 2 ∷ 7 ∷ 8 ∷ 9 ∷ 8 ∷ 10 ∷ 11 ∷ 12 ∷ 13 ∷ 14 ∷ 4 ∷ 15 ∷ 16 ∷ 17 ∷ 18 ∷ 19 ∷ 20 ∷ 21 ∷ 22 ∷ 23 ∷ 24 ∷ 25 ∷ 8 ∷ 8 ∷ 27 ∷ 60 ∷ 29 ∷ 30 ∷ 31 ∷ 32 ∷ 33 ∷ 20 ∷ 21 ∷ 34 ∷ 35 ∷ 36 ∷ 37 ∷ 38 ∷ 39 ∷ 40 ∷ 40 ∷ 20 ∷ 21 ∷ 41 ∷ 42 ∷ 43 ∷ 44 ∷ 45 ∷ 46 ∷ 45 ∷ 46 ∷ 47 ∷ 48 ∷ 49 ∷ 50 ∷ 51 ∷ 51 ∷ 53 ∷ 61 ∷ 55 ∷ 56 ∷ 20 ∷ 20 ∷ 57 ∷ 58 ∷ 67 ∷ []) ∷
    (1 ∷ 2 ∷ 3 ∷ 4 ∷ 5 ∷ 6 ∷ 2 ∷ 7 ∷ 8 ∷ 9 ∷ 8 ∷ 10 ∷ 11 ∷ 12 ∷ 13 ∷ 14 ∷ 5 ∷ 15 ∷ 16 ∷ 17 ∷ 18 ∷ 19 ∷ 20 ∷ 21 ∷ 22 ∷ 23 ∷ 24 ∷ 25 ∷ 8 ∷ 8 ∷ 27 ∷ 60 ∷ 29 ∷ 30 ∷ 31 ∷ 32 ∷ 33 ∷ 20 ∷ 21 ∷ 34 ∷ 35 ∷ 36 ∷ 37 ∷ 38 ∷ 39 ∷ 40 ∷ 40 ∷ 20 ∷ 21 ∷ 41 ∷ 42 ∷ 43 ∷ 44 ∷ 45 ∷ 46 ∷ 45 ∷ 46 ∷ 47 ∷ 48 ∷ 49 ∷ 50 ∷ 51 ∷ 51 ∷ 53 ∷ 61 ∷ 55 ∷ 56 ∷ 20 ∷ 62 ∷ 57 ∷ 58 ∷ 68 ∷ []) ∷
    (1 ∷ 2 ∷ 3 ∷ 4 ∷ 5 ∷ 6 ∷ 2 ∷ 7 ∷ 8 ∷ 9 ∷ 8 ∷ 10 ∷ 11 ∷ 12 ∷ 13 ∷ 14 ∷ 6 ∷ 15 ∷ 16 ∷ 17 ∷ 18 ∷ 19 ∷ 20 ∷ 21 ∷ 22 ∷ 23 ∷ 24 ∷ 25 ∷ 8 ∷ 8 ∷ 27 ∷ 60 ∷ 29 ∷ 30 ∷ 31 ∷ 32 ∷ 33 ∷ 20 ∷ 21 ∷ 34 ∷ 35 ∷ 36 ∷ 37 ∷ 38 ∷ 39 ∷ 40 ∷ 40 ∷ 20 ∷ 21 ∷ 41 ∷ 42 ∷ 43 ∷ 44 ∷ 45 ∷ 46 ∷ 45 ∷ 46 ∷ 47 ∷ 48 ∷ 49 ∷ 50 ∷ 51 ∷ 51 ∷ 53 ∷ 61 ∷ 55 ∷ 56 ∷ 20 ∷ 20 ∷ 57 ∷ 58 ∷ 69 ∷ []) ∷
    (1 ∷ 2 ∷ 3 ∷ 4 ∷ 5 ∷ 6 ∷ 2 ∷ 7 ∷ 8 ∷ 9 ∷ 8 ∷ 10 ∷ 11 ∷ 12 ∷ 13 ∷ 14 ∷ 7 ∷ 15 ∷ 16 ∷ 17 ∷ 18 ∷ 19 ∷ 20 ∷ 21 ∷ 22 ∷ 23 ∷ 24 ∷ 25 ∷ 8 ∷ 8 ∷ 27 ∷ 60 ∷ 29 ∷ 30 ∷ 31 ∷ 32 ∷ 33 ∷ 20 ∷ 21 ∷ 34 ∷ 35 ∷ 36 ∷ 37 ∷ 38 ∷ 39 ∷ 40 ∷ 40 ∷ 20 ∷ 21 ∷ 41 ∷ 42 ∷ 43 ∷ 44 ∷ 45 ∷ 46 ∷ 45 ∷ 46 ∷ 47 ∷ 48 ∷ 49 ∷ 50 ∷ 51 ∷ 51 ∷ 53 ∷ 61 ∷ 70 ∷ 56 ∷ 20 ∷ 20 ∷ 57 ∷ 58 ∷ 71 ∷ []) ∷
    (1 ∷ 2 ∷ 3 ∷ 4 ∷ 5 ∷ 6 ∷ 2 ∷ 7 ∷ 8 ∷ 9 ∷ 8 ∷ 10 ∷ 11 ∷ 12 ∷ 13 ∷ 14 ∷ 8 ∷ 15 ∷ 16 ∷ 17 ∷ 18 ∷ 19 ∷ 20 ∷ 21 ∷ 22 ∷ 23 ∷ 24 ∷ 25 ∷ 8 ∷ 8 ∷ 27 ∷ 60 ∷ 29 ∷ 30 ∷ 31 ∷ 32 ∷ 33 ∷ 20 ∷ 21 ∷ 34 ∷ 35 ∷ 36 ∷ 37 ∷ 38 ∷ 39 ∷ 40 ∷ 40 ∷ 20 ∷ 21 ∷ 41 ∷ 42 ∷ 43 ∷ 44 ∷ 45 ∷ 46 ∷ 45 ∷ 46 ∷ 47 ∷ 48 ∷ 49 ∷ 50 ∷ 51 ∷ 51 ∷ 53 ∷ 61 ∷ 55 ∷ 56 ∷ 20 ∷ 20 ∷ 57 ∷ 58 ∷ 72 ∷ []) ∷
    (1 ∷ 2 ∷ 3 ∷ 4 ∷ 5 ∷ 6 ∷ 2 ∷ 7 ∷ 8 ∷ 9 ∷ 8 ∷ 10 ∷ 11 ∷ 12 ∷ 13 ∷ 14 ∷ 9 ∷ 15 ∷ 16 ∷ 17 ∷ 18 ∷ 19 ∷ 20 ∷ 21 ∷ 22 ∷ 23 ∷ 24 ∷ 25 ∷ 8 ∷ 8 ∷ 27 ∷ 60 ∷ 29 ∷ 30 ∷ 31 ∷ 32 ∷ 33 ∷ 20 ∷ 21 ∷ 34 ∷ 35 ∷ 36 ∷ 37 ∷ 38 ∷ 39 ∷ 40 ∷ 40 ∷ 20 ∷ 21 ∷ 41 ∷ 42 ∷ 43 ∷ 44 ∷ 45 ∷ 46 ∷ 45 ∷ 46 ∷ 47 ∷ 48 ∷ 49 ∷ 50 ∷ 64 ∷ 64 ∷ 65 ∷ 61 ∷ 55 ∷ 56 ∷ 20 ∷ 20 ∷ 57 ∷ 58 ∷ 73 ∷ []) ∷
    (1 ∷ 2 ∷ 3 ∷ 4 ∷ 5 ∷ 6 ∷ 2 ∷ 7 ∷ 8 ∷ 9 ∷ 8 ∷ 10 ∷ 11 ∷ 12 ∷ 13 ∷ 14 ∷ 10 ∷ 15 ∷ 16 ∷ 17 ∷ 18 ∷ 19 ∷ 20 ∷ 21 ∷ 22 ∷ 23 ∷ 24 ∷ 25 ∷ 8 ∷ 8 ∷ 27 ∷ 60 ∷ 29 ∷ 30 ∷ 31 ∷ 32 ∷ 33 ∷ 20 ∷ 21 ∷ 34 ∷ 35 ∷ 36 ∷ 37 ∷ 38 ∷ 39 ∷ 40 ∷ 40 ∷ 20 ∷ 21 ∷ 41 ∷ 42 ∷ 43 ∷ 44 ∷ 45 ∷ 46 ∷ 45 ∷ 46 ∷ 47 ∷ 48 ∷ 49 ∷ 50 ∷ 51 ∷ 51 ∷ 53 ∷ 61 ∷ 55 ∷ 56 ∷ 20 ∷ 20 ∷ 57 ∷ 58 ∷ 74 ∷ []) ∷
    (1 ∷ 2 ∷ 3 ∷ 4 ∷ 5 ∷ 6 ∷ 2 ∷ 7 ∷ 8 ∷ 9 ∷ 8 ∷ 10 ∷ 11 ∷ 12 ∷ 13 ∷ 14 ∷ 1 ∷ 15 ∷ 16 ∷ 17 ∷ 18 ∷ 19 ∷ 20 ∷ 21 ∷ 22 ∷ 23 ∷ 24 ∷ 25 ∷ 26 ∷ 8 ∷ 27 ∷ 28 ∷ 29 ∷ 30 ∷ 31 ∷ 32 ∷ 33 ∷ 20 ∷ 21 ∷ 34 ∷ 35 ∷ 36 ∷ 37 ∷ 38 ∷ 39 ∷ 40 ∷ 40 ∷ 20 ∷ 21 ∷ 41 ∷ 42 ∷ 43 ∷ 44 ∷ 45 ∷ 46 ∷ 45 ∷ 46 ∷ 47 ∷ 48 ∷ 49 ∷ 50 ∷ 51 ∷ 52 ∷ 53 ∷ 61 ∷ 55 ∷ 56 ∷ 20 ∷ 20 ∷ 57 ∷ 58 ∷ 59 ∷ []) ∷
    (1 ∷ 2 ∷ 3 ∷ 4 ∷ 5 ∷ 6 ∷ 2 ∷ 7 ∷ 8 ∷ 9 ∷ 8 ∷ 10 ∷ 11 ∷ 12 ∷ 13 ∷ 14 ∷ 12 ∷ 15 ∷ 16 ∷ 17 ∷ 18 ∷ 19 ∷ 20 ∷ 21 ∷ 22 ∷ 23 ∷ 24 ∷ 25 ∷ 26 ∷ 8 ∷ 27 ∷ 28 ∷ 29 ∷ 30 ∷ 31 ∷ 32 ∷ 33 ∷ 20 ∷ 21 ∷ 34 ∷ 35 ∷ 36 ∷ 37 ∷ 38 ∷ 39 ∷ 40 ∷ 40 ∷ 20 ∷ 21 ∷ 41 ∷ 42 ∷ 43 ∷ 44 ∷ 45 ∷ 46 ∷ 45 ∷ 46 ∷ 47 ∷ 48 ∷ 49 ∷ 50 ∷ 51 ∷ 51 ∷ 53 ∷ 61 ∷ 55 ∷ 56 ∷ 20 ∷ 20 ∷ 57 ∷ 58 ∷ 75 ∷ []) ∷
    (1 ∷ 2 ∷ 3 ∷ 4 ∷ 5 ∷ 6 ∷ 2 ∷ 7 ∷ 8 ∷ 9 ∷ 8 ∷ 10 ∷ 11 ∷ 12 ∷ 13 ∷ 14 ∷ 13 ∷ 15 ∷ 16 ∷ 17 ∷ 18 ∷ 19 ∷ 20 ∷ 21 ∷ 22 ∷ 23 ∷ 24 ∷ 25 ∷ 8 ∷ 8 ∷ 27 ∷ 60 ∷ 29 ∷ 30 ∷ 31 ∷ 32 ∷ 33 ∷ 20 ∷ 21 ∷ 34 ∷ 35 ∷ 36 ∷ 37 ∷ 38 ∷ 39 ∷ 40 ∷ 40 ∷ 20 ∷ 21 ∷ 41 ∷ 42 ∷ 43 ∷ 44 ∷ 45 ∷ 46 ∷ 45 ∷ 46 ∷ 47 ∷ 48 ∷ 49 ∷ 50 ∷ 51 ∷ 51 ∷ 53 ∷ 61 ∷ 76 ∷ 56 ∷ 20 ∷ 20 ∷ 57 ∷ 58 ∷ 77 ∷ []) ∷
    (1 ∷ 2 ∷ 3 ∷ 4 ∷ 5 ∷ 6 ∷ 2 ∷ 7 ∷ 8 ∷ 9 ∷ 8 ∷ 10 ∷ 11 ∷ 12 ∷ 13 ∷ 14 ∷ 14 ∷ 15 ∷ 16 ∷ 17 ∷ 18 ∷ 19 ∷ 20 ∷ 21 ∷ 22 ∷ 23 ∷ 24 ∷ 25 ∷ 8 ∷ 8 ∷ 27 ∷ 60 ∷ 29 ∷ 30 ∷ 31 ∷ 32 ∷ 33 ∷ 20 ∷ 21 ∷ 34 ∷ 35 ∷ 36 ∷ 37 ∷ 38 ∷ 39 ∷ 40 ∷ 40 ∷ 20 ∷ 21 ∷ 41 ∷ 42 ∷ 43 ∷ 44 ∷ 45 ∷ 46 ∷ 45 ∷ 46 ∷ 47 ∷ 48 ∷ 49 ∷ 50 ∷ 64 ∷ 64 ∷ 65 ∷ 61 ∷ 76 ∷ 56 ∷ 20 ∷ 20 ∷ 57 ∷ 58 ∷ 78 ∷ []) ∷
    (1 ∷ 2 ∷ 3 ∷ 4 ∷ 5 ∷ 6 ∷ 2 ∷ 7 ∷ 8 ∷ 9 ∷ 8 ∷ 10 ∷ 11 ∷ 12 ∷ 13 ∷ 14 ∷ 15 ∷ 15 ∷ 16 ∷ 17 ∷ 18 ∷ 19 ∷ 20 ∷ 21 ∷ 22 ∷ 23 ∷ 24 ∷ 25 ∷ 8 ∷ 8 ∷ 27 ∷ 60 ∷ 29 ∷ 30 ∷ 31 ∷ 32 ∷ 33 ∷ 20 ∷ 21 ∷ 34 ∷ 35 ∷ 36 ∷ 37 ∷ 38 ∷ 39 ∷ 40 ∷ 40 ∷ 20 ∷ 21 ∷ 41 ∷ 42 ∷ 43 ∷ 44 ∷ 45 ∷ 46 ∷ 45 ∷ 46 ∷ 47 ∷ 48 ∷ 49 ∷ 50 ∷ 51 ∷ 51 ∷ 53 ∷ 61 ∷ 76 ∷ 56 ∷ 20 ∷ 20 ∷ 57 ∷ 58 ∷ 79 ∷ []) ∷
    (1 ∷ 2 ∷ 3 ∷ 4 ∷ 5 ∷ 6 ∷ 2 ∷ 7 ∷ 8 ∷ 9 ∷ 8 ∷ 10 ∷ 11 ∷ 12 ∷ 13 ∷ 14 ∷ 1 ∷ 15 ∷ 16 ∷ 17 ∷ 18 ∷ 19 ∷ 20 ∷ 21 ∷ 22 ∷ 23 ∷ 24 ∷ 25 ∷ 26 ∷ 8 ∷ 27 ∷ 28 ∷ 29 ∷ 30 ∷ 31 ∷ 32 ∷ 33 ∷ 20 ∷ 21 ∷ 34 ∷ 35 ∷ 36 ∷ 37 ∷ 38 ∷ 39 ∷ 40 ∷ 40 ∷ 20 ∷ 21 ∷ 41 ∷ 42 ∷ 43 ∷ 44 ∷ 45 ∷ 46 ∷ 45 ∷ 46 ∷ 47 ∷ 48 ∷ 49 ∷ 50 ∷ 51 ∷ 52 ∷ 53 ∷ 61 ∷ 55 ∷ 56 ∷ 20 ∷ 20 ∷ 57 ∷ 58 ∷ 59 ∷ []) ∷
    (1 ∷ 2 ∷ 3 ∷ 4 ∷ 5 ∷ 6 ∷ 2 ∷ 7 ∷ 8 ∷ 9 ∷ 8 ∷ 10 ∷ 11 ∷ 12 ∷ 13 ∷ 14 ∷ 17 ∷ 15 ∷ 16 ∷ 17 ∷ 18 ∷ 19 ∷ 20 ∷ 21 ∷ 22 ∷ 23 ∷ 24 ∷ 25 ∷ 8 ∷ 8 ∷ 27 ∷ 60 ∷ 29 ∷ 30 ∷ 31 ∷ 32 ∷ 33 ∷ 20 ∷ 21 ∷ 34 ∷ 35 ∷ 36 ∷ 37 ∷ 38 ∷ 39 ∷ 40 ∷ 40 ∷ 20 ∷ 21 ∷ 41 ∷ 42 ∷ 43 ∷ 44 ∷ 45 ∷ 46 ∷ 45 ∷ 46 ∷ 47 ∷ 48 ∷ 49 ∷ 50 ∷ 51 ∷ 51 ∷ 53 ∷ 61 ∷ 55 ∷ 56 ∷ 20 ∷ 20 ∷ 57 ∷ 58 ∷ 80 ∷ []) ∷
    (1 ∷ 2 ∷ 3 ∷ 4 ∷ 5 ∷ 6 ∷ 2 ∷ 7 ∷ 8 ∷ 9 ∷ 8 ∷ 10 ∷ 11 ∷ 12 ∷ 13 ∷ 14 ∷ 18 ∷ 15 ∷ 16 ∷ 17 ∷ 18 ∷ 19 ∷ 20 ∷ 21 ∷ 22 ∷ 23 ∷ 24 ∷ 25 ∷ 8 ∷ 8 ∷ 27 ∷ 60 ∷ 29 ∷ 30 ∷ 31 ∷ 32 ∷ 33 ∷ 20 ∷ 21 ∷ 34 ∷ 35 ∷ 36 ∷ 37 ∷ 38 ∷ 39 ∷ 40 ∷ 40 ∷ 20 ∷ 21 ∷ 41 ∷ 42 ∷ 43 ∷ 44 ∷ 45 ∷ 46 ∷ 45 ∷ 46 ∷ 47 ∷ 48 ∷ 49 ∷ 50 ∷ 64 ∷ 64 ∷ 65 ∷ 61 ∷ 55 ∷ 56 ∷ 20 ∷ 20 ∷ 57 ∷ 58 ∷ 81 ∷ []) ∷
    (1 ∷ 2 ∷ 3 ∷ 4 ∷ 5 ∷ 6 ∷ 2 ∷ 7 ∷ 8 ∷ 9 ∷ 8 ∷ 10 ∷ 11 ∷ 12 ∷ 13 ∷ 14 ∷ 19 ∷ 15 ∷ 16 ∷ 17 ∷ 18 ∷ 19 ∷ 20 ∷ 21 ∷ 22 ∷ 23 ∷ 24 ∷ 25 ∷ 8 ∷ 8 ∷ 27 ∷ 60 ∷ 29 ∷ 30 ∷ 31 ∷ 32 ∷ 33 ∷ 20 ∷ 21 ∷ 34 ∷ 35 ∷ 36 ∷ 37 ∷ 38 ∷ 39 ∷ 40 ∷ 40 ∷ 20 ∷ 21 ∷ 41 ∷ 42 ∷ 43 ∷ 44 ∷ 45 ∷ 46 ∷ 45 ∷ 46 ∷ 47 ∷ 48 ∷ 49 ∷ 50 ∷ 64 ∷ 64 ∷ 65 ∷ 61 ∷ 55 ∷ 56 ∷ 20 ∷ 20 ∷ 57 ∷ 58 ∷ 82 ∷ []) ∷
    (1 ∷ 2 ∷ 3 ∷ 4 ∷ 5 ∷ 6 ∷ 2 ∷ 7 ∷ 8 ∷ 9 ∷ 8 ∷ 10 ∷ 11 ∷ 12 ∷ 13 ∷ 14 ∷ 20 ∷ 15 ∷ 16 ∷ 17 ∷ 18 ∷ 19 ∷ 20 ∷ 21 ∷ 22 ∷ 23 ∷ 24 ∷ 25 ∷ 8 ∷ 8 ∷ 27 ∷ 60 ∷ 29 ∷ 30 ∷ 31 ∷ 32 ∷ 33 ∷ 20 ∷ 21 ∷ 34 ∷ 35 ∷ 36 ∷ 37 ∷ 38 ∷ 39 ∷ 40 ∷ 40 ∷ 20 ∷ 21 ∷ 41 ∷ 42 ∷ 43 ∷ 44 ∷ 45 ∷ 46 ∷ 45 ∷ 46 ∷ 47 ∷ 48 ∷ 49 ∷ 50 ∷ 51 ∷ 51 ∷ 53 ∷ 61 ∷ 55 ∷ 56 ∷ 20 ∷ 20 ∷ 57 ∷ 58 ∷ 83 ∷ []) ∷
    (1 ∷ 2 ∷ 3 ∷ 4 ∷ 5 ∷ 6 ∷ 2 ∷ 7 ∷ 8 ∷ 9 ∷ 8 ∷ 10 ∷ 11 ∷ 12 ∷ 13 ∷ 14 ∷ 21 ∷ 15 ∷ 16 ∷ 17 ∷ 18 ∷ 19 ∷ 20 ∷ 21 ∷ 22 ∷ 23 ∷ 24 ∷ 25 ∷ 8 ∷ 8 ∷ 27 ∷ 60 ∷ 29 ∷ 30 ∷ 31 ∷ 32 ∷ 33 ∷ 20 ∷ 21 ∷ 34 ∷ 35 ∷ 36 ∷ 37 ∷ 38 ∷ 39 ∷ 40 ∷ 40 ∷ 20 ∷ 21 ∷ 41 ∷ 42 ∷ 43 ∷ 44 ∷ 45 ∷ 46 ∷ 45 ∷ 46 ∷ 47 ∷ 48 ∷ 49 ∷ 50 ∷ 64 ∷ 64 ∷ 65 ∷ 61 ∷ 55 ∷ 56 ∷ 20 ∷ 20 ∷ 57 ∷ 58 ∷ 84 ∷ []) ∷
    (1 ∷ 2 ∷ 3 ∷ 4 ∷ 5 ∷ 6 ∷ 2 ∷ 7 ∷ 8 ∷ 9 ∷ 8 ∷ 10 ∷ 11 ∷ 12 ∷ 13 ∷ 14 ∷ 22 ∷ 15 ∷ 16 ∷ 17 ∷ 18 ∷ 19 ∷ 20 ∷ 21 ∷ 22 ∷ 23 ∷ 24 ∷ 25 ∷ 26 ∷ 8 ∷ 27 ∷ 28 ∷ 29 ∷ 30 ∷ 31 ∷ 32 ∷ 33 ∷ 20 ∷ 21 ∷ 34 ∷ 35 ∷ 36 ∷ 37 ∷ 38 ∷ 39 ∷ 40 ∷ 40 ∷ 20 ∷ 21 ∷ 41 ∷ 42 ∷ 43 ∷ 44 ∷ 45 ∷ 46 ∷ 45 ∷ 46 ∷ 47 ∷ 48 ∷ 49 ∷ 50 ∷ 51 ∷ 52 ∷ 53 ∷ 61 ∷ 55 ∷ 56 ∷ 20 ∷ 20 ∷ 57 ∷ 58 ∷ 85 ∷ []) ∷
    (1 ∷ 2 ∷ 3 ∷ 4 ∷ 5 ∷ 6 ∷ 2 ∷ 7 ∷ 8 ∷ 9 ∷ 8 ∷ 10 ∷ 11 ∷ 12 ∷ 13 ∷ 14 ∷ 23 ∷ 15 ∷ 16 ∷ 17 ∷ 18 ∷ 19 ∷ 20 ∷ 21 ∷ 22 ∷ 23 ∷ 24 ∷ 25 ∷ 26 ∷ 8 ∷ 27 ∷ 28 ∷ 29 ∷ 30 ∷ 31 ∷ 32 ∷ 33 ∷ 20 ∷ 21 ∷ 34 ∷ 35 ∷ 36 ∷ 37 ∷ 38 ∷ 39 ∷ 40 ∷ 40 ∷ 20 ∷ 21 ∷ 41 ∷ 42 ∷ 43 ∷ 44 ∷ 45 ∷ 46 ∷ 45 ∷ 46 ∷ 47 ∷ 48 ∷ 49 ∷ 50 ∷ 64 ∷ 86 ∷ 65 ∷ 61 ∷ 55 ∷ 56 ∷ 20 ∷ 20 ∷ 57 ∷ 58 ∷ 87 ∷ []) ∷
    (1 ∷ 2 ∷ 3 ∷ 4 ∷ 5 ∷ 6 ∷ 2 ∷ 7 ∷ 8 ∷ 9 ∷ 8 ∷ 10 ∷ 11 ∷ 12 ∷ 13 ∷ 14 ∷ 24 ∷ 15 ∷ 16 ∷ 17 ∷ 18 ∷ 19 ∷ 20 ∷ 21 ∷ 22 ∷ 23 ∷ 24 ∷ 25 ∷ 8 ∷ 8 ∷ 27 ∷ 60 ∷ 29 ∷ 30 ∷ 31 ∷ 32 ∷ 33 ∷ 20 ∷ 21 ∷ 34 ∷ 35 ∷ 36 ∷ 37 ∷ 38 ∷ 39 ∷ 40 ∷ 40 ∷ 20 ∷ 21 ∷ 41 ∷ 42 ∷ 43 ∷ 44 ∷ 45 ∷ 46 ∷ 45 ∷ 46 ∷ 47 ∷ 48 ∷ 49 ∷ 50 ∷ 64 ∷ 64 ∷ 65 ∷ 61 ∷ 55 ∷ 56 ∷ 20 ∷ 20 ∷ 57 ∷ 58 ∷ 88 ∷ []) ∷
    (1 ∷ 2 ∷ 3 ∷ 4 ∷ 5 ∷ 6 ∷ 2 ∷ 7 ∷ 8 ∷ 9 ∷ 8 ∷ 10 ∷ 11 ∷ 12 ∷ 13 ∷ 14 ∷ 25 ∷ 15 ∷ 16 ∷ 17 ∷ 18 ∷ 19 ∷ 20 ∷ 21 ∷ 22 ∷ 23 ∷ 24 ∷ 25 ∷ 8 ∷ 8 ∷ 27 ∷ 60 ∷ 29 ∷ 30 ∷ 31 ∷ 32 ∷ 33 ∷ 20 ∷ 21 ∷ 34 ∷ 35 ∷ 36 ∷ 37 ∷ 38 ∷ 39 ∷ 40 ∷ 40 ∷ 20 ∷ 21 ∷ 41 ∷ 42 ∷ 43 ∷ 44 ∷ 45 ∷ 46 ∷ 45 ∷ 46 ∷ 47 ∷ 48 ∷ 49 ∷ 50 ∷ 64 ∷ 64 ∷ 65 ∷ 61 ∷ 55 ∷ 56 ∷ 20 ∷ 20 ∷ 57 ∷ 58 ∷ 89 ∷ []) ∷
    (1 ∷ 2 ∷ 3 ∷ 4 ∷ 5 ∷ 6 ∷ 2 ∷ 7 ∷ 8 ∷ 9 ∷ 8 ∷ 10 ∷ 11 ∷ 12 ∷ 13 ∷ 14 ∷ 26 ∷ 15 ∷ 16 ∷ 17 ∷ 18 ∷ 19 ∷ 20 ∷ 21 ∷ 22 ∷ 23 ∷ 24 ∷ 25 ∷ 8 ∷ 8 ∷ 27 ∷ 60 ∷ 29 ∷ 30 ∷ 31 ∷ 32 ∷ 33 ∷ 20 ∷ 21 ∷ 34 ∷ 35 ∷ 36 ∷ 37 ∷ 38 ∷ 39 ∷ 40 ∷ 40 ∷ 20 ∷ 21 ∷ 41 ∷ 42 ∷ 43 ∷ 44 ∷ 45 ∷ 46 ∷ 45 ∷ 46 ∷ 47 ∷ 48 ∷ 49 ∷ 50 ∷ 51 ∷ 51 ∷ 53 ∷ 61 ∷ 55 ∷ 56 ∷ 20 ∷ 20 ∷ 57 ∷ 58 ∷ 90 ∷ []) ∷
    (1 ∷ 2 ∷ 3 ∷ 4 ∷ 5 ∷ 6 ∷ 2 ∷ 7 ∷ 8 ∷ 9 ∷ 8 ∷ 10 ∷ 11 ∷ 12 ∷ 13 ∷ 14 ∷ 27 ∷ 15 ∷ 16 ∷ 17 ∷ 18 ∷ 19 ∷ 20 ∷ 21 ∷ 22 ∷ 23 ∷ 24 ∷ 25 ∷ 91 ∷ 91 ∷ 27 ∷ 92 ∷ 29 ∷ 30 ∷ 31 ∷ 32 ∷ 33 ∷ 20 ∷ 21 ∷ 34 ∷ 35 ∷ 36 ∷ 37 ∷ 38 ∷ 39 ∷ 40 ∷ 40 ∷ 20 ∷ 21 ∷ 41 ∷ 42 ∷ 43 ∷ 44 ∷ 45 ∷ 46 ∷ 45 ∷ 46 ∷ 47 ∷ 48 ∷ 49 ∷ 50 ∷ 51 ∷ 51 ∷ 53 ∷ 61 ∷ 55 ∷ 56 ∷ 20 ∷ 20 ∷ 57 ∷ 58 ∷ 93 ∷ []) ∷
    (1 ∷ 2 ∷ 3 ∷ 4 ∷ 5 ∷ 6 ∷ 2 ∷ 7 ∷ 8 ∷ 9 ∷ 8 ∷ 10 ∷ 11 ∷ 12 ∷ 13 ∷ 14 ∷ 28 ∷ 15 ∷ 16 ∷ 17 ∷ 18 ∷ 19 ∷ 20 ∷ 21 ∷ 22 ∷ 23 ∷ 24 ∷ 25 ∷ 8 ∷ 8 ∷ 27 ∷ 60 ∷ 29 ∷ 30 ∷ 31 ∷ 32 ∷ 33 ∷ 20 ∷ 21 ∷ 34 ∷ 35 ∷ 36 ∷ 37 ∷ 38 ∷ 39 ∷ 40 ∷ 40 ∷ 20 ∷ 21 ∷ 41 ∷ 42 ∷ 43 ∷ 44 ∷ 45 ∷ 46 ∷ 45 ∷ 46 ∷ 47 ∷ 48 ∷ 49 ∷ 50 ∷ 51 ∷ 51 ∷ 53 ∷ 61 ∷ 55 ∷ 56 ∷ 20 ∷ 20 ∷ 57 ∷ 58 ∷ 94 ∷ []) ∷
    (1 ∷ 2 ∷ 3 ∷ 4 ∷ 5 ∷ 6 ∷ 2 ∷ 7 ∷ 8 ∷ 9 ∷ 8 ∷ 10 ∷ 11 ∷ 12 ∷ 13 ∷ 14 ∷ 29 ∷ 15 ∷ 16 ∷ 17 ∷ 18 ∷ 19 ∷ 20 ∷ 21 ∷ 22 ∷ 23 ∷ 24 ∷ 25 ∷ 8 ∷ 8 ∷ 27 ∷ 60 ∷ 29 ∷ 30 ∷ 31 ∷ 32 ∷ 33 ∷ 20 ∷ 21 ∷ 34 ∷ 35 ∷ 36 ∷ 37 ∷ 38 ∷ 39 ∷ 40 ∷ 40 ∷ 20 ∷ 21 ∷ 41 ∷ 42 ∷ 43 ∷ 44 ∷ 45 ∷ 46 ∷ 45 ∷ 46 ∷ 47 ∷ 48 ∷ 49 ∷ 50 ∷ 51 ∷ 51 ∷ 53 ∷ 61 ∷ 55 ∷ 56 ∷ 20 ∷ 20 ∷ 57 ∷ 58 ∷ 95 ∷ []) ∷
    rest

unfoldable pub moves_1 : List (List ℕ) → List (List ℕ)
moves_1 rest =
    (1 ∷ 2 ∷ 3 ∷ 4 ∷ 5 ∷ 6 ∷ 2 ∷ 7 ∷ 8 ∷ 9 ∷ 8 ∷ 10 ∷ 11 ∷ 12 ∷ 13 ∷ 14 ∷ 30 ∷ 15 ∷ 16 ∷ 17 ∷ 18 ∷ 19 ∷ 20 ∷ 21 ∷ 22 ∷ 23 ∷ 24 ∷ 25 ∷ 8 ∷ 8 ∷ 27 ∷ 60 ∷ 29 ∷ 30 ∷ 31 ∷ 32 ∷ 33 ∷ 20 ∷ 21 ∷ 34 ∷ 35 ∷ 36 ∷ 37 ∷ 38 ∷ 39 ∷ 40 ∷ 40 ∷ 20 ∷ 21 ∷ 41 ∷ 42 ∷ 43 ∷ 44 ∷ 45 ∷ 46 ∷ 45 ∷ 46 ∷ 47 ∷ 48 ∷ 49 ∷ 50 ∷ 64 ∷ 64 ∷ 65 ∷ 61 ∷ 55 ∷ 56 ∷ 20 ∷ 20 ∷ 57 ∷ 58 ∷ 96 ∷ []) ∷
    (1 ∷ 2 ∷ 3 ∷ 4 ∷ 5 ∷ 6 ∷ 2 ∷ 7 ∷ 8 ∷ 9 ∷ 8 ∷ 10 ∷ 11 ∷ 12 ∷ 13 ∷ 14 ∷ 31 ∷ 15 ∷ 16 ∷ 17 ∷ 18 ∷ 19 ∷ 20 ∷ 21 ∷ 22 ∷ 23 ∷ 24 ∷ 25 ∷ 8 ∷ 8 ∷ 27 ∷ 60 ∷ 29 ∷ 30 ∷ 31 ∷ 32 ∷ 33 ∷ 20 ∷ 21 ∷ 34 ∷ 35 ∷ 36 ∷ 37 ∷ 38 ∷ 39 ∷ 40 ∷ 40 ∷ 20 ∷ 21 ∷ 41 ∷ 42 ∷ 43 ∷ 44 ∷ 45 ∷ 46 ∷ 45 ∷ 46 ∷ 47 ∷ 48 ∷ 49 ∷ 50 ∷ 51 ∷ 51 ∷ 53 ∷ 61 ∷ 55 ∷ 56 ∷ 20 ∷ 20 ∷ 57 ∷ 58 ∷ 97 ∷ []) ∷
    (1 ∷ 2 ∷ 3 ∷ 4 ∷ 5 ∷ 6 ∷ 2 ∷ 7 ∷ 8 ∷ 9 ∷ 8 ∷ 10 ∷ 11 ∷ 12 ∷ 13 ∷ 14 ∷ 32 ∷ 15 ∷ 16 ∷ 17 ∷ 18 ∷ 19 ∷ 20 ∷ 21 ∷ 22 ∷ 23 ∷ 24 ∷ 25 ∷ 8 ∷ 8 ∷ 27 ∷ 60 ∷ 29 ∷ 30 ∷ 31 ∷ 32 ∷ 33 ∷ 20 ∷ 21 ∷ 34 ∷ 35 ∷ 36 ∷ 37 ∷ 38 ∷ 39 ∷ 40 ∷ 40 ∷ 20 ∷ 21 ∷ 41 ∷ 42 ∷ 43 ∷ 44 ∷ 45 ∷ 46 ∷ 45 ∷ 46 ∷ 47 ∷ 48 ∷ 49 ∷ 50 ∷ 51 ∷ 51 ∷ 53 ∷ 61 ∷ 55 ∷ 56 ∷ 20 ∷ 20 ∷ 57 ∷ 58 ∷ 98 ∷ []) ∷
    (1 ∷ 2 ∷ 3 ∷ 4 ∷ 5 ∷ 6 ∷ 2 ∷ 7 ∷ 8 ∷ 9 ∷ 8 ∷ 10 ∷ 11 ∷ 12 ∷ 13 ∷ 14 ∷ 33 ∷ 15 ∷ 16 ∷ 17 ∷ 18 ∷ 19 ∷ 20 ∷ 21 ∷ 22 ∷ 23 ∷ 24 ∷ 25 ∷ 8 ∷ 8 ∷ 27 ∷ 60 ∷ 29 ∷ 30 ∷ 31 ∷ 32 ∷ 33 ∷ 20 ∷ 21 ∷ 34 ∷ 35 ∷ 36 ∷ 37 ∷ 38 ∷ 39 ∷ 40 ∷ 40 ∷ 20 ∷ 21 ∷ 41 ∷ 42 ∷ 43 ∷ 44 ∷ 45 ∷ 46 ∷ 45 ∷ 46 ∷ 47 ∷ 48 ∷ 49 ∷ 50 ∷ 64 ∷ 64 ∷ 65 ∷ 61 ∷ 55 ∷ 56 ∷ 20 ∷ 20 ∷ 57 ∷ 58 ∷ 99 ∷ []) ∷
    (1 ∷ 2 ∷ 3 ∷ 4 ∷ 5 ∷ 6 ∷ 2 ∷ 7 ∷ 8 ∷ 9 ∷ 8 ∷ 10 ∷ 11 ∷ 12 ∷ 13 ∷ 14 ∷ 34 ∷ 15 ∷ 16 ∷ 17 ∷ 18 ∷ 19 ∷ 20 ∷ 21 ∷ 22 ∷ 23 ∷ 24 ∷ 25 ∷ 8 ∷ 8 ∷ 27 ∷ 60 ∷ 29 ∷ 30 ∷ 31 ∷ 32 ∷ 33 ∷ 20 ∷ 21 ∷ 34 ∷ 35 ∷ 36 ∷ 37 ∷ 38 ∷ 39 ∷ 40 ∷ 40 ∷ 20 ∷ 21 ∷ 41 ∷ 42 ∷ 43 ∷ 44 ∷ 45 ∷ 46 ∷ 45 ∷ 46 ∷ 47 ∷ 48 ∷ 49 ∷ 50 ∷ 51 ∷ 51 ∷ 53 ∷ 61 ∷ 55 ∷ 56 ∷ 20 ∷ 20 ∷ 57 ∷ 58 ∷ 100 ∷ []) ∷
    (1 ∷ 2 ∷ 3 ∷ 4 ∷ 5 ∷ 6 ∷ 2 ∷ 7 ∷ 8 ∷ 9 ∷ 8 ∷ 10 ∷ 11 ∷ 12 ∷ 13 ∷ 14 ∷ 35 ∷ 15 ∷ 16 ∷ 17 ∷ 18 ∷ 19 ∷ 20 ∷ 21 ∷ 22 ∷ 23 ∷ 24 ∷ 25 ∷ 8 ∷ 8 ∷ 27 ∷ 60 ∷ 29 ∷ 30 ∷ 31 ∷ 32 ∷ 33 ∷ 20 ∷ 21 ∷ 34 ∷ 35 ∷ 36 ∷ 37 ∷ 38 ∷ 39 ∷ 40 ∷ 40 ∷ 20 ∷ 21 ∷ 41 ∷ 42 ∷ 43 ∷ 44 ∷ 45 ∷ 46 ∷ 45 ∷ 46 ∷ 47 ∷ 48 ∷ 49 ∷ 50 ∷ 64 ∷ 64 ∷ 65 ∷ 61 ∷ 55 ∷ 56 ∷ 20 ∷ 20 ∷ 57 ∷ 58 ∷ 101 ∷ []) ∷
    (1 ∷ 2 ∷ 3 ∷ 4 ∷ 5 ∷ 6 ∷ 2 ∷ 7 ∷ 8 ∷ 9 ∷ 8 ∷ 10 ∷ 11 ∷ 12 ∷ 13 ∷ 14 ∷ 36 ∷ 15 ∷ 16 ∷ 17 ∷ 18 ∷ 19 ∷ 20 ∷ 21 ∷ 22 ∷ 23 ∷ 24 ∷ 25 ∷ 8 ∷ 8 ∷ 27 ∷ 60 ∷ 29 ∷ 30 ∷ 31 ∷ 32 ∷ 33 ∷ 20 ∷ 21 ∷ 34 ∷ 35 ∷ 36 ∷ 37 ∷ 38 ∷ 39 ∷ 40 ∷ 40 ∷ 20 ∷ 21 ∷ 41 ∷ 42 ∷ 43 ∷ 44 ∷ 45 ∷ 46 ∷ 45 ∷ 46 ∷ 47 ∷ 48 ∷ 49 ∷ 50 ∷ 51 ∷ 51 ∷ 53 ∷ 61 ∷ 55 ∷ 56 ∷ 20 ∷ 20 ∷ 57 ∷ 58 ∷ 102 ∷ []) ∷
    (1 ∷ 2 ∷ 3 ∷ 4 ∷ 5 ∷ 6 ∷ 2 ∷ 7 ∷ 8 ∷ 9 ∷ 8 ∷ 10 ∷ 11 ∷ 12 ∷ 13 ∷ 14 ∷ 37 ∷ 15 ∷ 16 ∷ 17 ∷ 18 ∷ 19 ∷ 20 ∷ 21 ∷ 22 ∷ 23 ∷ 24 ∷ 25 ∷ 8 ∷ 8 ∷ 27 ∷ 60 ∷ 29 ∷ 30 ∷ 31 ∷ 32 ∷ 33 ∷ 20 ∷ 21 ∷ 34 ∷ 35 ∷ 36 ∷ 37 ∷ 38 ∷ 39 ∷ 40 ∷ 40 ∷ 20 ∷ 21 ∷ 41 ∷ 42 ∷ 43 ∷ 44 ∷ 45 ∷ 46 ∷ 45 ∷ 46 ∷ 47 ∷ 48 ∷ 49 ∷ 50 ∷ 64 ∷ 64 ∷ 65 ∷ 61 ∷ 55 ∷ 56 ∷ 20 ∷ 20 ∷ 57 ∷ 58 ∷ 103 ∷ []) ∷
    (1 ∷ 2 ∷ 3 ∷ 4 ∷ 5 ∷ 6 ∷ 2 ∷ 7 ∷ 8 ∷ 9 ∷ 8 ∷ 10 ∷ 11 ∷ 12 ∷ 13 ∷ 14 ∷ 38 ∷ 15 ∷ 16 ∷ 17 ∷ 18 ∷ 19 ∷ 20 ∷ 21 ∷ 22 ∷ 23 ∷ 24 ∷ 25 ∷ 8 ∷ 8 ∷ 27 ∷ 60 ∷ 29 ∷ 30 ∷ 31 ∷ 32 ∷ 33 ∷ 20 ∷ 21 ∷ 34 ∷ 35 ∷ 36 ∷ 37 ∷ 38 ∷ 39 ∷ 40 ∷ 40 ∷ 20 ∷ 21 ∷ 41 ∷ 42 ∷ 43 ∷ 44 ∷ 45 ∷ 46 ∷ 45 ∷ 46 ∷ 47 ∷ 48 ∷ 49 ∷ 50 ∷ 51 ∷ 51 ∷ 53 ∷ 61 ∷ 55 ∷ 56 ∷ 20 ∷ 20 ∷ 57 ∷ 58 ∷ 104 ∷ []) ∷
    (1 ∷ 2 ∷ 3 ∷ 4 ∷ 5 ∷ 6 ∷ 2 ∷ 7 ∷ 8 ∷ 9 ∷ 8 ∷ 10 ∷ 11 ∷ 12 ∷ 13 ∷ 14 ∷ 39 ∷ 15 ∷ 16 ∷ 17 ∷ 18 ∷ 19 ∷ 20 ∷ 21 ∷ 22 ∷ 23 ∷ 24 ∷ 25 ∷ 8 ∷ 8 ∷ 27 ∷ 60 ∷ 29 ∷ 30 ∷ 31 ∷ 32 ∷ 33 ∷ 20 ∷ 21 ∷ 34 ∷ 35 ∷ 36 ∷ 37 ∷ 38 ∷ 39 ∷ 40 ∷ 40 ∷ 20 ∷ 21 ∷ 41 ∷ 42 ∷ 43 ∷ 44 ∷ 45 ∷ 46 ∷ 45 ∷ 46 ∷ 47 ∷ 48 ∷ 49 ∷ 50 ∷ 51 ∷ 51 ∷ 53 ∷ 61 ∷ 55 ∷ 56 ∷ 20 ∷ 20 ∷ 57 ∷ 58 ∷ 105 ∷ []) ∷
    (1 ∷ 2 ∷ 3 ∷ 4 ∷ 5 ∷ 6 ∷ 2 ∷ 7 ∷ 8 ∷ 9 ∷ 8 ∷ 10 ∷ 11 ∷ 12 ∷ 13 ∷ 14 ∷ 1 ∷ 15 ∷ 16 ∷ 17 ∷ 18 ∷ 19 ∷ 20 ∷ 21 ∷ 22 ∷ 23 ∷ 24 ∷ 25 ∷ 26 ∷ 8 ∷ 27 ∷ 28 ∷ 29 ∷ 30 ∷ 31 ∷ 32 ∷ 33 ∷ 20 ∷ 21 ∷ 34 ∷ 35 ∷ 36 ∷ 37 ∷ 38 ∷ 39 ∷ 40 ∷ 40 ∷ 20 ∷ 21 ∷ 41 ∷ 42 ∷ 43 ∷ 44 ∷ 45 ∷ 46 ∷ 45 ∷ 46 ∷ 47 ∷ 48 ∷ 49 ∷ 50 ∷ 51 ∷ 52 ∷ 53 ∷ 61 ∷ 55 ∷ 56 ∷ 20 ∷ 20 ∷ 57 ∷ 58 ∷ 59 ∷ []) ∷
    (1 ∷ 2 ∷ 3 ∷ 4 ∷ 5 ∷ 6 ∷ 2 ∷ 7 ∷ 8 ∷ 9 ∷ 8 ∷ 10 ∷ 11 ∷ 12 ∷ 13 ∷ 14 ∷ 41 ∷ 15 ∷ 16 ∷ 17 ∷ 18 ∷ 19 ∷ 20 ∷ 21 ∷ 22 ∷ 23 ∷ 24 ∷ 25 ∷ 8 ∷ 8 ∷ 27 ∷ 60 ∷ 29 ∷ 30 ∷ 31 ∷ 32 ∷ 33 ∷ 20 ∷ 21 ∷ 34 ∷ 35 ∷ 36 ∷ 37 ∷ 38 ∷ 39 ∷ 40 ∷ 40 ∷ 20 ∷ 21 ∷ 41 ∷ 42 ∷ 43 ∷ 44 ∷ 45 ∷ 46 ∷ 45 ∷ 46 ∷ 47 ∷ 48 ∷ 49 ∷ 50 ∷ 64 ∷ 64 ∷ 65 ∷ 61 ∷ 55 ∷ 56 ∷ 20 ∷ 20 ∷ 57 ∷ 58 ∷ 106 ∷ []) ∷
    (1 ∷ 2 ∷ 3 ∷ 4 ∷ 5 ∷ 6 ∷ 2 ∷ 7 ∷ 8 ∷ 9 ∷ 8 ∷ 10 ∷ 11 ∷ 12 ∷ 107 ∷ 108 ∷ 42 ∷ 109 ∷ 16 ∷ 17 ∷ 18 ∷ 19 ∷ 20 ∷ 21 ∷ 22 ∷ 23 ∷ 24 ∷ 25 ∷ 8 ∷ 8 ∷ 27 ∷ 60 ∷ 29 ∷ 30 ∷ 31 ∷ 32 ∷ 33 ∷ 20 ∷ 21 ∷ 34 ∷ 35 ∷ 110 ∷ 37 ∷ 38 ∷ 39 ∷ 40 ∷ 40 ∷ 20 ∷ 21 ∷ 41 ∷ 42 ∷ 43 ∷ 44 ∷ 45 ∷ 46 ∷ 45 ∷ 46 ∷ 47 ∷ 48 ∷ 49 ∷ 50 ∷ 51 ∷ 51 ∷ 53 ∷ 61 ∷ 55 ∷ 111 ∷ 20 ∷ 20 ∷ 57 ∷ 58 ∷ 112 ∷ []) ∷
    (1 ∷ 2 ∷ 3 ∷ 4 ∷ 5 ∷ 6 ∷ 2 ∷ 7 ∷ 8 ∷ 9 ∷ 8 ∷ 10 ∷ 11 ∷ 12 ∷ 13 ∷ 14 ∷ 43 ∷ 15 ∷ 16 ∷ 17 ∷ 18 ∷ 19 ∷ 20 ∷ 21 ∷ 22 ∷ 23 ∷ 24 ∷ 25 ∷ 8 ∷ 8 ∷ 27 ∷ 60 ∷ 29 ∷ 30 ∷ 31 ∷ 32 ∷ 33 ∷ 20 ∷ 21 ∷ 34 ∷ 35 ∷ 36 ∷ 37 ∷ 38 ∷ 39 ∷ 40 ∷ 40 ∷ 20 ∷ 21 ∷ 41 ∷ 42 ∷ 43 ∷ 44 ∷ 45 ∷ 46 ∷ 45 ∷ 46 ∷ 47 ∷ 48 ∷ 49 ∷ 50 ∷ 51 ∷ 52 ∷ 53 ∷ 61 ∷ 113 ∷ 56 ∷ 20 ∷ 20 ∷ 57 ∷ 58 ∷ 114 ∷ []) ∷
    (1 ∷ 2 ∷ 3 ∷ 4 ∷ 5 ∷ 6 ∷ 2 ∷ 7 ∷ 8 ∷ 9 ∷ 8 ∷ 10 ∷ 11 ∷ 12 ∷ 13 ∷ 14 ∷ 44 ∷ 15 ∷ 16 ∷ 17 ∷ 18 ∷ 19 ∷ 20 ∷ 21 ∷ 22 ∷ 23 ∷ 24 ∷ 25 ∷ 8 ∷ 8 ∷ 27 ∷ 60 ∷ 29 ∷ 30 ∷ 31 ∷ 32 ∷ 33 ∷ 20 ∷ 21 ∷ 34 ∷ 35 ∷ 36 ∷ 37 ∷ 38 ∷ 39 ∷ 40 ∷ 40 ∷ 20 ∷ 21 ∷ 41 ∷ 42 ∷ 43 ∷ 44 ∷ 45 ∷ 46 ∷ 45 ∷ 46 ∷ 47 ∷ 48 ∷ 49 ∷ 50 ∷ 64 ∷ 86 ∷ 65 ∷ 61 ∷ 113 ∷ 56 ∷ 20 ∷ 20 ∷ 57 ∷ 58 ∷ 115 ∷ []) ∷
    (1 ∷ 2 ∷ 3 ∷ 4 ∷ 5 ∷ 6 ∷ 2 ∷ 7 ∷ 8 ∷ 9 ∷ 8 ∷ 10 ∷ 11 ∷ 12 ∷ 13 ∷ 14 ∷ 45 ∷ 15 ∷ 16 ∷ 17 ∷ 18 ∷ 19 ∷ 20 ∷ 21 ∷ 22 ∷ 23 ∷ 24 ∷ 25 ∷ 8 ∷ 8 ∷ 27 ∷ 60 ∷ 29 ∷ 30 ∷ 31 ∷ 32 ∷ 33 ∷ 20 ∷ 21 ∷ 34 ∷ 35 ∷ 36 ∷ 37 ∷ 38 ∷ 39 ∷ 40 ∷ 40 ∷ 20 ∷ 21 ∷ 41 ∷ 42 ∷ 43 ∷ 44 ∷ 45 ∷ 46 ∷ 45 ∷ 46 ∷ 47 ∷ 48 ∷ 49 ∷ 50 ∷ 51 ∷ 51 ∷ 53 ∷ 61 ∷ 55 ∷ 56 ∷ 20 ∷ 20 ∷ 57 ∷ 58 ∷ 116 ∷ []) ∷
    (1 ∷ 2 ∷ 3 ∷ 4 ∷ 5 ∷ 6 ∷ 2 ∷ 7 ∷ 8 ∷ 9 ∷ 8 ∷ 10 ∷ 11 ∷ 12 ∷ 13 ∷ 14 ∷ 46 ∷ 15 ∷ 16 ∷ 17 ∷ 18 ∷ 19 ∷ 20 ∷ 21 ∷ 22 ∷ 23 ∷ 24 ∷ 25 ∷ 8 ∷ 8 ∷ 27 ∷ 60 ∷ 29 ∷ 30 ∷ 31 ∷ 32 ∷ 33 ∷ 20 ∷ 21 ∷ 34 ∷ 35 ∷ 36 ∷ 37 ∷ 38 ∷ 39 ∷ 40 ∷ 40 ∷ 20 ∷ 21 ∷ 41 ∷ 42 ∷ 43 ∷ 44 ∷ 45 ∷ 46 ∷ 45 ∷ 46 ∷ 47 ∷ 48 ∷ 49 ∷ 50 ∷ 64 ∷ 64 ∷ 65 ∷ 61 ∷ 55 ∷ 56 ∷ 20 ∷ 20 ∷ 57 ∷ 58 ∷ 117 ∷ []) ∷
    (1 ∷ 2 ∷ 3 ∷ 4 ∷ 5 ∷ 6 ∷ 2 ∷ 7 ∷ 8 ∷ 9 ∷ 8 ∷ 10 ∷ 11 ∷ 12 ∷ 13 ∷ 14 ∷ 47 ∷ 15 ∷ 16 ∷ 17 ∷ 18 ∷ 19 ∷ 20 ∷ 21 ∷ 22 ∷ 23 ∷ 24 ∷ 25 ∷ 8 ∷ 8 ∷ 27 ∷ 60 ∷ 29 ∷ 30 ∷ 31 ∷ 32 ∷ 33 ∷ 20 ∷ 21 ∷ 34 ∷ 35 ∷ 36 ∷ 37 ∷ 38 ∷ 39 ∷ 40 ∷ 40 ∷ 20 ∷ 21 ∷ 41 ∷ 42 ∷ 43 ∷ 44 ∷ 45 ∷ 46 ∷ 45 ∷ 46 ∷ 47 ∷ 48 ∷ 49 ∷ 50 ∷ 51 ∷ 51 ∷ 53 ∷ 61 ∷ 55 ∷ 56 ∷ 20 ∷ 20 ∷ 57 ∷ 58 ∷ 118 ∷ []) ∷
    (1 ∷ 2 ∷ 3 ∷ 4 ∷ 5 ∷ 6 ∷ 2 ∷ 7 ∷ 8 ∷ 9 ∷ 8 ∷ 10 ∷ 11 ∷ 12 ∷ 13 ∷ 14 ∷ 48 ∷ 15 ∷ 16 ∷ 17 ∷ 18 ∷ 19 ∷ 20 ∷ 21 ∷ 22 ∷ 23 ∷ 24 ∷ 25 ∷ 8 ∷ 8 ∷ 27 ∷ 60 ∷ 29 ∷ 30 ∷ 31 ∷ 32 ∷ 33 ∷ 20 ∷ 21 ∷ 34 ∷ 35 ∷ 36 ∷ 37 ∷ 38 ∷ 39 ∷ 40 ∷ 40 ∷ 20 ∷ 21 ∷ 41 ∷ 42 ∷ 43 ∷ 44 ∷ 45 ∷ 46 ∷ 45 ∷ 46 ∷ 47 ∷ 48 ∷ 49 ∷ 50 ∷ 64 ∷ 64 ∷ 65 ∷ 61 ∷ 55 ∷ 56 ∷ 20 ∷ 20 ∷ 57 ∷ 58 ∷ 119 ∷ []) ∷
    (1 ∷ 2 ∷ 3 ∷ 4 ∷ 5 ∷ 6 ∷ 2 ∷ 7 ∷ 8 ∷ 9 ∷ 8 ∷ 10 ∷ 11 ∷ 12 ∷ 13 ∷ 14 ∷ 49 ∷ 15 ∷ 16 ∷ 17 ∷ 18 ∷ 19 ∷ 20 ∷ 21 ∷ 22 ∷ 23 ∷ 24 ∷ 25 ∷ 8 ∷ 8 ∷ 27 ∷ 60 ∷ 29 ∷ 30 ∷ 31 ∷ 32 ∷ 33 ∷ 20 ∷ 21 ∷ 34 ∷ 35 ∷ 36 ∷ 37 ∷ 38 ∷ 39 ∷ 40 ∷ 40 ∷ 20 ∷ 21 ∷ 41 ∷ 42 ∷ 43 ∷ 44 ∷ 45 ∷ 46 ∷ 45 ∷ 46 ∷ 47 ∷ 48 ∷ 49 ∷ 50 ∷ 51 ∷ 51 ∷ 53 ∷ 61 ∷ 55 ∷ 56 ∷ 20 ∷ 20 ∷ 57 ∷ 58 ∷ 120 ∷ []) ∷
    (1 ∷ 2 ∷ 3 ∷ 4 ∷ 5 ∷ 6 ∷ 2 ∷ 7 ∷ 8 ∷ 9 ∷ 8 ∷ 10 ∷ 11 ∷ 12 ∷ 13 ∷ 14 ∷ 50 ∷ 15 ∷ 16 ∷ 17 ∷ 18 ∷ 19 ∷ 20 ∷ 21 ∷ 22 ∷ 23 ∷ 24 ∷ 25 ∷ 8 ∷ 8 ∷ 27 ∷ 60 ∷ 29 ∷ 30 ∷ 31 ∷ 32 ∷ 33 ∷ 20 ∷ 21 ∷ 34 ∷ 35 ∷ 36 ∷ 37 ∷ 38 ∷ 39 ∷ 40 ∷ 40 ∷ 20 ∷ 21 ∷ 41 ∷ 42 ∷ 43 ∷ 44 ∷ 45 ∷ 46 ∷ 45 ∷ 46 ∷ 47 ∷ 48 ∷ 49 ∷ 50 ∷ 64 ∷ 64 ∷ 65 ∷ 61 ∷ 55 ∷ 56 ∷ 20 ∷ 20 ∷ 57 ∷ 58 ∷ 121 ∷ []) ∷
    (1 ∷ 2 ∷ 3 ∷ 4 ∷ 5 ∷ 6 ∷ 2 ∷ 7 ∷ 8 ∷ 9 ∷ 8 ∷ 10 ∷ 11 ∷ 12 ∷ 13 ∷ 14 ∷ 51 ∷ 15 ∷ 16 ∷ 17 ∷ 18 ∷ 19 ∷ 20 ∷ 21 ∷ 22 ∷ 23 ∷ 24 ∷ 25 ∷ 8 ∷ 8 ∷ 27 ∷ 60 ∷ 29 ∷ 30 ∷ 31 ∷ 32 ∷ 33 ∷ 20 ∷ 21 ∷ 34 ∷ 35 ∷ 36 ∷ 37 ∷ 38 ∷ 39 ∷ 40 ∷ 40 ∷ 20 ∷ 21 ∷ 41 ∷ 42 ∷ 43 ∷ 44 ∷ 45 ∷ 46 ∷ 45 ∷ 46 ∷ 47 ∷ 48 ∷ 49 ∷ 50 ∷ 51 ∷ 52 ∷ 53 ∷ 61 ∷ 55 ∷ 56 ∷ 20 ∷ 20 ∷ 57 ∷ 58 ∷ 122 ∷ []) ∷
    (1 ∷ 2 ∷ 3 ∷ 4 ∷ 5 ∷ 6 ∷ 2 ∷ 7 ∷ 8 ∷ 9 ∷ 8 ∷ 10 ∷ 11 ∷ 12 ∷ 13 ∷ 14 ∷ 52 ∷ 15 ∷ 16 ∷ 17 ∷ 18 ∷ 19 ∷ 20 ∷ 21 ∷ 22 ∷ 23 ∷ 24 ∷ 25 ∷ 8 ∷ 8 ∷ 27 ∷ 60 ∷ 29 ∷ 30 ∷ 31 ∷ 32 ∷ 33 ∷ 20 ∷ 21 ∷ 34 ∷ 35 ∷ 36 ∷ 37 ∷ 38 ∷ 39 ∷ 40 ∷ 40 ∷ 20 ∷ 21 ∷ 41 ∷ 42 ∷ 43 ∷ 44 ∷ 45 ∷ 46 ∷ 45 ∷ 46 ∷ 47 ∷ 48 ∷ 49 ∷ 50 ∷ 51 ∷ 52 ∷ 53 ∷ 61 ∷ 123 ∷ 56 ∷ 20 ∷ 20 ∷ 57 ∷ 58 ∷ 124 ∷ []) ∷
    (1 ∷ 2 ∷ 3 ∷ 4 ∷ 5 ∷ 6 ∷ 2 ∷ 7 ∷ 8 ∷ 9 ∷ 8 ∷ 10 ∷ 11 ∷ 12 ∷ 13 ∷ 14 ∷ 53 ∷ 15 ∷ 16 ∷ 17 ∷ 18 ∷ 19 ∷ 20 ∷ 21 ∷ 22 ∷ 23 ∷ 24 ∷ 25 ∷ 8 ∷ 8 ∷ 27 ∷ 60 ∷ 29 ∷ 30 ∷ 31 ∷ 32 ∷ 33 ∷ 20 ∷ 21 ∷ 34 ∷ 35 ∷ 36 ∷ 37 ∷ 38 ∷ 39 ∷ 40 ∷ 40 ∷ 20 ∷ 21 ∷ 41 ∷ 42 ∷ 43 ∷ 44 ∷ 45 ∷ 46 ∷ 45 ∷ 46 ∷ 47 ∷ 48 ∷ 49 ∷ 50 ∷ 51 ∷ 52 ∷ 53 ∷ 61 ∷ 55 ∷ 56 ∷ 20 ∷ 20 ∷ 57 ∷ 58 ∷ 125 ∷ []) ∷
    (1 ∷ 2 ∷ 3 ∷ 4 ∷ 5 ∷ 6 ∷ 2 ∷ 7 ∷ 8 ∷ 9 ∷ 8 ∷ 10 ∷ 11 ∷ 12 ∷ 13 ∷ 14 ∷ 54 ∷ 15 ∷ 16 ∷ 17 ∷ 18 ∷ 19 ∷ 20 ∷ 21 ∷ 22 ∷ 23 ∷ 24 ∷ 25 ∷ 8 ∷ 8 ∷ 27 ∷ 60 ∷ 29 ∷ 30 ∷ 31 ∷ 32 ∷ 33 ∷ 20 ∷ 21 ∷ 34 ∷ 35 ∷ 36 ∷ 37 ∷ 38 ∷ 39 ∷ 40 ∷ 40 ∷ 20 ∷ 21 ∷ 41 ∷ 42 ∷ 43 ∷ 44 ∷ 45 ∷ 46 ∷ 45 ∷ 46 ∷ 47 ∷ 48 ∷ 49 ∷ 50 ∷ 51 ∷ 51 ∷ 53 ∷ 126 ∷ 55 ∷ 56 ∷ 20 ∷ 20 ∷ 57 ∷ 58 ∷ 127 ∷ []) ∷
    (1 ∷ 2 ∷ 3 ∷ 4 ∷ 5 ∷ 6 ∷ 2 ∷ 7 ∷ 8 ∷ 9 ∷ 8 ∷ 10 ∷ 11 ∷ 12 ∷ 13 ∷ 14 ∷ 1 ∷ 15 ∷ 16 ∷ 17 ∷ 18 ∷ 19 ∷ 20 ∷ 21 ∷ 22 ∷ 23 ∷ 24 ∷ 25 ∷ 26 ∷ 8 ∷ 27 ∷ 28 ∷ 29 ∷ 30 ∷ 31 ∷ 32 ∷ 33 ∷ 20 ∷ 21 ∷ 34 ∷ 35 ∷ 36 ∷ 37 ∷ 38 ∷ 39 ∷ 40 ∷ 40 ∷ 20 ∷ 21 ∷ 41 ∷ 42 ∷ 43 ∷ 44 ∷ 45 ∷ 46 ∷ 45 ∷ 46 ∷ 47 ∷ 48 ∷ 49 ∷ 50 ∷ 51 ∷ 52 ∷ 53 ∷ 61 ∷ 55 ∷ 56 ∷ 20 ∷ 20 ∷ 57 ∷ 58 ∷ 59 ∷ []) ∷
    (1 ∷ 2 ∷ 3 ∷ 4 ∷ 5 ∷ 6 ∷ 2 ∷ 7 ∷ 8 ∷ 9 ∷ 8 ∷ 10 ∷ 11 ∷ 12 ∷ 13 ∷ 14 ∷ 56 ∷ 15 ∷ 16 ∷ 17 ∷ 18 ∷ 19 ∷ 20 ∷ 21 ∷ 22 ∷ 23 ∷ 24 ∷ 25 ∷ 8 ∷ 8 ∷ 27 ∷ 60 ∷ 29 ∷ 30 ∷ 31 ∷ 32 ∷ 33 ∷ 20 ∷ 21 ∷ 34 ∷ 35 ∷ 36 ∷ 37 ∷ 38 ∷ 39 ∷ 40 ∷ 40 ∷ 20 ∷ 21 ∷ 41 ∷ 42 ∷ 43 ∷ 44 ∷ 45 ∷ 46 ∷ 45 ∷ 46 ∷ 47 ∷ 48 ∷ 49 ∷ 50 ∷ 51 ∷ 51 ∷ 53 ∷ 61 ∷ 55 ∷ 56 ∷ 20 ∷ 20 ∷ 57 ∷ 58 ∷ 128 ∷ []) ∷
    (1 ∷ 2 ∷ 3 ∷ 4 ∷ 5 ∷ 6 ∷ 2 ∷ 7 ∷ 8 ∷ 9 ∷ 8 ∷ 10 ∷ 11 ∷ 12 ∷ 13 ∷ 14 ∷ 57 ∷ 15 ∷ 16 ∷ 17 ∷ 18 ∷ 19 ∷ 20 ∷ 21 ∷ 22 ∷ 23 ∷ 24 ∷ 25 ∷ 8 ∷ 8 ∷ 27 ∷ 60 ∷ 29 ∷ 30 ∷ 31 ∷ 32 ∷ 33 ∷ 20 ∷ 21 ∷ 34 ∷ 35 ∷ 36 ∷ 37 ∷ 38 ∷ 39 ∷ 40 ∷ 40 ∷ 20 ∷ 21 ∷ 41 ∷ 42 ∷ 43 ∷ 44 ∷ 45 ∷ 46 ∷ 45 ∷ 46 ∷ 47 ∷ 48 ∷ 49 ∷ 50 ∷ 51 ∷ 51 ∷ 53 ∷ 61 ∷ 55 ∷ 56 ∷ 20 ∷ 20 ∷ 57 ∷ 58 ∷ 129 ∷ []) ∷
    (1 ∷ 2 ∷ 3 ∷ 4 ∷ 5 ∷ 6 ∷ 2 ∷ 7 ∷ 8 ∷ 9 ∷ 8 ∷ 10 ∷ 11 ∷ 12 ∷ 13 ∷ 14 ∷ 1 ∷ 15 ∷ 16 ∷ 17 ∷ 18 ∷ 19 ∷ 20 ∷ 21 ∷ 22 ∷ 23 ∷ 24 ∷ 25 ∷ 26 ∷ 8 ∷ 27 ∷ 28 ∷ 29 ∷ 30 ∷ 31 ∷ 32 ∷ 33 ∷ 20 ∷ 21 ∷ 34 ∷ 35 ∷ 36 ∷ 37 ∷ 38 ∷ 39 ∷ 40 ∷ 40 ∷ 20 ∷ 21 ∷ 41 ∷ 42 ∷ 43 ∷ 44 ∷ 45 ∷ 46 ∷ 45 ∷ 46 ∷ 47 ∷ 48 ∷ 49 ∷ 50 ∷ 51 ∷ 52 ∷ 53 ∷ 61 ∷ 130 ∷ 56 ∷ 20 ∷ 20 ∷ 57 ∷ 58 ∷ 59 ∷ []) ∷
    (1 ∷ 2 ∷ 3 ∷ 4 ∷ 5 ∷ 6 ∷ 2 ∷ 7 ∷ 8 ∷ 9 ∷ 8 ∷ 10 ∷ 11 ∷ 12 ∷ 13 ∷ 14 ∷ 1 ∷ 15 ∷ 16 ∷ 17 ∷ 18 ∷ 19 ∷ 20 ∷ 21 ∷ 22 ∷ 23 ∷ 24 ∷ 25 ∷ 8 ∷ 8 ∷ 27 ∷ 60 ∷ 29 ∷ 30 ∷ 31 ∷ 32 ∷ 33 ∷ 20 ∷ 21 ∷ 34 ∷ 35 ∷ 36 ∷ 37 ∷ 38 ∷ 39 ∷ 40 ∷ 40 ∷ 20 ∷ 21 ∷ 41 ∷ 42 ∷ 43 ∷ 44 ∷ 45 ∷ 46 ∷ 45 ∷ 46 ∷ 47 ∷ 48 ∷ 49 ∷ 50 ∷ 51 ∷ 51 ∷ 53 ∷ 61 ∷ 55 ∷ 56 ∷ 20 ∷ 20 ∷ 57 ∷ 58 ∷ 59 ∷ []) ∷
    rest

unfoldable pub moves_2 : List (List ℕ) → List (List ℕ)
moves_2 rest =
    (1 ∷ 2 ∷ 3 ∷ 4 ∷ 5 ∷ 6 ∷ 2 ∷ 7 ∷ 8 ∷ 9 ∷ 8 ∷ 10 ∷ 11 ∷ 12 ∷ 13 ∷ 14 ∷ 60 ∷ 15 ∷ 16 ∷ 17 ∷ 18 ∷ 19 ∷ 20 ∷ 21 ∷ 22 ∷ 23 ∷ 24 ∷ 25 ∷ 8 ∷ 8 ∷ 27 ∷ 60 ∷ 29 ∷ 30 ∷ 31 ∷ 32 ∷ 33 ∷ 20 ∷ 21 ∷ 34 ∷ 35 ∷ 36 ∷ 37 ∷ 38 ∷ 39 ∷ 40 ∷ 40 ∷ 20 ∷ 21 ∷ 41 ∷ 42 ∷ 43 ∷ 44 ∷ 45 ∷ 46 ∷ 45 ∷ 46 ∷ 47 ∷ 48 ∷ 49 ∷ 50 ∷ 51 ∷ 51 ∷ 53 ∷ 61 ∷ 55 ∷ 56 ∷ 20 ∷ 20 ∷ 57 ∷ 58 ∷ 131 ∷ []) ∷
    (1 ∷ 2 ∷ 3 ∷ 4 ∷ 5 ∷ 6 ∷ 2 ∷ 7 ∷ 8 ∷ 9 ∷ 8 ∷ 10 ∷ 11 ∷ 12 ∷ 13 ∷ 14 ∷ 61 ∷ 15 ∷ 16 ∷ 17 ∷ 18 ∷ 19 ∷ 20 ∷ 21 ∷ 22 ∷ 23 ∷ 24 ∷ 25 ∷ 8 ∷ 8 ∷ 27 ∷ 60 ∷ 29 ∷ 30 ∷ 31 ∷ 32 ∷ 33 ∷ 20 ∷ 21 ∷ 34 ∷ 35 ∷ 36 ∷ 37 ∷ 38 ∷ 39 ∷ 40 ∷ 40 ∷ 20 ∷ 21 ∷ 41 ∷ 42 ∷ 43 ∷ 44 ∷ 45 ∷ 46 ∷ 45 ∷ 46 ∷ 47 ∷ 48 ∷ 49 ∷ 50 ∷ 51 ∷ 51 ∷ 53 ∷ 20 ∷ 55 ∷ 56 ∷ 20 ∷ 20 ∷ 57 ∷ 58 ∷ 132 ∷ []) ∷
    (1 ∷ 2 ∷ 3 ∷ 4 ∷ 5 ∷ 6 ∷ 2 ∷ 7 ∷ 8 ∷ 9 ∷ 8 ∷ 10 ∷ 11 ∷ 12 ∷ 13 ∷ 14 ∷ 62 ∷ 15 ∷ 16 ∷ 17 ∷ 18 ∷ 19 ∷ 20 ∷ 21 ∷ 22 ∷ 23 ∷ 24 ∷ 25 ∷ 8 ∷ 8 ∷ 27 ∷ 60 ∷ 29 ∷ 30 ∷ 31 ∷ 32 ∷ 33 ∷ 20 ∷ 21 ∷ 34 ∷ 35 ∷ 36 ∷ 37 ∷ 38 ∷ 39 ∷ 40 ∷ 40 ∷ 20 ∷ 21 ∷ 41 ∷ 42 ∷ 43 ∷ 44 ∷ 45 ∷ 46 ∷ 45 ∷ 46 ∷ 47 ∷ 48 ∷ 49 ∷ 50 ∷ 51 ∷ 51 ∷ 53 ∷ 61 ∷ 55 ∷ 56 ∷ 20 ∷ 20 ∷ 57 ∷ 58 ∷ 133 ∷ []) ∷
    (1 ∷ 2 ∷ 3 ∷ 4 ∷ 5 ∷ 6 ∷ 2 ∷ 7 ∷ 8 ∷ 9 ∷ 8 ∷ 10 ∷ 11 ∷ 12 ∷ 13 ∷ 14 ∷ 2 ∷ 15 ∷ 16 ∷ 17 ∷ 18 ∷ 19 ∷ 20 ∷ 21 ∷ 22 ∷ 23 ∷ 24 ∷ 25 ∷ 8 ∷ 8 ∷ 27 ∷ 60 ∷ 29 ∷ 30 ∷ 31 ∷ 32 ∷ 33 ∷ 20 ∷ 21 ∷ 34 ∷ 35 ∷ 36 ∷ 37 ∷ 38 ∷ 39 ∷ 40 ∷ 40 ∷ 20 ∷ 21 ∷ 41 ∷ 42 ∷ 43 ∷ 44 ∷ 45 ∷ 46 ∷ 45 ∷ 46 ∷ 47 ∷ 48 ∷ 49 ∷ 50 ∷ 51 ∷ 51 ∷ 53 ∷ 61 ∷ 55 ∷ 56 ∷ 20 ∷ 62 ∷ 57 ∷ 58 ∷ 63 ∷ []) ∷
    (1 ∷ 2 ∷ 3 ∷ 4 ∷ 5 ∷ 6 ∷ 2 ∷ 7 ∷ 8 ∷ 9 ∷ 8 ∷ 10 ∷ 11 ∷ 12 ∷ 13 ∷ 14 ∷ 64 ∷ 15 ∷ 16 ∷ 17 ∷ 18 ∷ 19 ∷ 20 ∷ 21 ∷ 22 ∷ 23 ∷ 24 ∷ 25 ∷ 8 ∷ 8 ∷ 27 ∷ 60 ∷ 29 ∷ 30 ∷ 31 ∷ 32 ∷ 33 ∷ 20 ∷ 21 ∷ 34 ∷ 35 ∷ 36 ∷ 37 ∷ 38 ∷ 39 ∷ 40 ∷ 40 ∷ 20 ∷ 21 ∷ 41 ∷ 42 ∷ 43 ∷ 44 ∷ 45 ∷ 46 ∷ 45 ∷ 46 ∷ 47 ∷ 48 ∷ 49 ∷ 50 ∷ 51 ∷ 52 ∷ 53 ∷ 61 ∷ 55 ∷ 56 ∷ 20 ∷ 20 ∷ 57 ∷ 58 ∷ 134 ∷ []) ∷
    (1 ∷ 2 ∷ 3 ∷ 4 ∷ 5 ∷ 6 ∷ 2 ∷ 7 ∷ 8 ∷ 9 ∷ 8 ∷ 10 ∷ 11 ∷ 12 ∷ 13 ∷ 14 ∷ 65 ∷ 15 ∷ 16 ∷ 17 ∷ 18 ∷ 19 ∷ 20 ∷ 21 ∷ 22 ∷ 23 ∷ 24 ∷ 25 ∷ 8 ∷ 8 ∷ 27 ∷ 60 ∷ 29 ∷ 30 ∷ 31 ∷ 32 ∷ 33 ∷ 20 ∷ 21 ∷ 34 ∷ 35 ∷ 36 ∷ 37 ∷ 38 ∷ 39 ∷ 40 ∷ 40 ∷ 20 ∷ 21 ∷ 41 ∷ 42 ∷ 43 ∷ 44 ∷ 45 ∷ 46 ∷ 45 ∷ 46 ∷ 47 ∷ 48 ∷ 49 ∷ 50 ∷ 51 ∷ 52 ∷ 53 ∷ 61 ∷ 55 ∷ 56 ∷ 20 ∷ 20 ∷ 57 ∷ 58 ∷ 135 ∷ []) ∷
    (1 ∷ 2 ∷ 3 ∷ 4 ∷ 5 ∷ 6 ∷ 2 ∷ 7 ∷ 8 ∷ 9 ∷ 8 ∷ 10 ∷ 11 ∷ 12 ∷ 13 ∷ 14 ∷ 3 ∷ 15 ∷ 16 ∷ 17 ∷ 18 ∷ 19 ∷ 20 ∷ 21 ∷ 22 ∷ 23 ∷ 24 ∷ 25 ∷ 8 ∷ 8 ∷ 27 ∷ 60 ∷ 29 ∷ 30 ∷ 31 ∷ 32 ∷ 33 ∷ 20 ∷ 21 ∷ 34 ∷ 35 ∷ 36 ∷ 37 ∷ 38 ∷ 39 ∷ 40 ∷ 40 ∷ 20 ∷ 21 ∷ 41 ∷ 42 ∷ 43 ∷ 44 ∷ 45 ∷ 46 ∷ 45 ∷ 46 ∷ 47 ∷ 48 ∷ 49 ∷ 50 ∷ 64 ∷ 64 ∷ 65 ∷ 61 ∷ 55 ∷ 56 ∷ 20 ∷ 20 ∷ 57 ∷ 58 ∷ 66 ∷ []) ∷
    (1 ∷ 2 ∷ 3 ∷ 4 ∷ 5 ∷ 6 ∷ 2 ∷ 7 ∷ 8 ∷ 9 ∷ 8 ∷ 10 ∷ 11 ∷ 12 ∷ 13 ∷ 14 ∷ 4 ∷ 15 ∷ 16 ∷ 17 ∷ 18 ∷ 19 ∷ 20 ∷ 21 ∷ 22 ∷ 23 ∷ 24 ∷ 25 ∷ 8 ∷ 8 ∷ 27 ∷ 60 ∷ 29 ∷ 30 ∷ 31 ∷ 32 ∷ 33 ∷ 20 ∷ 21 ∷ 34 ∷ 35 ∷ 36 ∷ 37 ∷ 38 ∷ 39 ∷ 40 ∷ 40 ∷ 20 ∷ 21 ∷ 41 ∷ 42 ∷ 43 ∷ 44 ∷ 45 ∷ 46 ∷ 45 ∷ 46 ∷ 47 ∷ 48 ∷ 49 ∷ 50 ∷ 51 ∷ 51 ∷ 53 ∷ 61 ∷ 55 ∷ 56 ∷ 20 ∷ 20 ∷ 57 ∷ 58 ∷ 67 ∷ []) ∷
    (1 ∷ 2 ∷ 3 ∷ 4 ∷ 5 ∷ 6 ∷ 2 ∷ 7 ∷ 8 ∷ 9 ∷ 8 ∷ 10 ∷ 11 ∷ 12 ∷ 13 ∷ 14 ∷ 5 ∷ 15 ∷ 16 ∷ 17 ∷ 18 ∷ 19 ∷ 20 ∷ 21 ∷ 22 ∷ 23 ∷ 24 ∷ 25 ∷ 8 ∷ 8 ∷ 27 ∷ 60 ∷ 29 ∷ 30 ∷ 31 ∷ 32 ∷ 33 ∷ 20 ∷ 21 ∷ 34 ∷ 35 ∷ 36 ∷ 37 ∷ 38 ∷ 39 ∷ 40 ∷ 40 ∷ 20 ∷ 21 ∷ 41 ∷ 42 ∷ 43 ∷ 44 ∷ 45 ∷ 46 ∷ 45 ∷ 46 ∷ 47 ∷ 48 ∷ 49 ∷ 50 ∷ 51 ∷ 51 ∷ 53 ∷ 61 ∷ 55 ∷ 56 ∷ 20 ∷ 62 ∷ 57 ∷ 58 ∷ 68 ∷ []) ∷
    (1 ∷ 2 ∷ 3 ∷ 4 ∷ 5 ∷ 6 ∷ 2 ∷ 7 ∷ 8 ∷ 9 ∷ 8 ∷ 10 ∷ 11 ∷ 12 ∷ 13 ∷ 14 ∷ 6 ∷ 15 ∷ 16 ∷ 17 ∷ 18 ∷ 19 ∷ 20 ∷ 21 ∷ 22 ∷ 23 ∷ 24 ∷ 25 ∷ 8 ∷ 8 ∷ 27 ∷ 60 ∷ 29 ∷ 30 ∷ 31 ∷ 32 ∷ 33 ∷ 20 ∷ 21 ∷ 34 ∷ 35 ∷ 36 ∷ 37 ∷ 38 ∷ 39 ∷ 40 ∷ 40 ∷ 20 ∷ 21 ∷ 41 ∷ 42 ∷ 43 ∷ 44 ∷ 45 ∷ 46 ∷ 45 ∷ 46 ∷ 47 ∷ 48 ∷ 49 ∷ 50 ∷ 51 ∷ 51 ∷ 53 ∷ 61 ∷ 55 ∷ 56 ∷ 20 ∷ 20 ∷ 57 ∷ 58 ∷ 69 ∷ []) ∷
    (1 ∷ 2 ∷ 3 ∷ 4 ∷ 5 ∷ 6 ∷ 2 ∷ 7 ∷ 8 ∷ 9 ∷ 8 ∷ 10 ∷ 11 ∷ 12 ∷ 13 ∷ 14 ∷ 1 ∷ 15 ∷ 16 ∷ 17 ∷ 18 ∷ 19 ∷ 20 ∷ 21 ∷ 22 ∷ 23 ∷ 24 ∷ 25 ∷ 26 ∷ 8 ∷ 27 ∷ 28 ∷ 29 ∷ 30 ∷ 31 ∷ 32 ∷ 33 ∷ 20 ∷ 21 ∷ 34 ∷ 35 ∷ 36 ∷ 37 ∷ 38 ∷ 39 ∷ 40 ∷ 40 ∷ 20 ∷ 21 ∷ 41 ∷ 42 ∷ 43 ∷ 44 ∷ 45 ∷ 46 ∷ 45 ∷ 46 ∷ 47 ∷ 48 ∷ 49 ∷ 50 ∷ 51 ∷ 52 ∷ 53 ∷ 61 ∷ 70 ∷ 56 ∷ 20 ∷ 20 ∷ 57 ∷ 58 ∷ 59 ∷ []) ∷
    (1 ∷ 2 ∷ 3 ∷ 4 ∷ 5 ∷ 6 ∷ 2 ∷ 7 ∷ 8 ∷ 9 ∷ 8 ∷ 10 ∷ 11 ∷ 12 ∷ 13 ∷ 14 ∷ 7 ∷ 15 ∷ 16 ∷ 17 ∷ 18 ∷ 19 ∷ 20 ∷ 21 ∷ 22 ∷ 23 ∷ 24 ∷ 25 ∷ 8 ∷ 8 ∷ 27 ∷ 60 ∷ 29 ∷ 30 ∷ 31 ∷ 32 ∷ 33 ∷ 20 ∷ 21 ∷ 34 ∷ 35 ∷ 36 ∷ 37 ∷ 38 ∷ 39 ∷ 40 ∷ 40 ∷ 20 ∷ 21 ∷ 41 ∷ 42 ∷ 43 ∷ 44 ∷ 45 ∷ 46 ∷ 45 ∷ 46 ∷ 47 ∷ 48 ∷ 49 ∷ 50 ∷ 51 ∷ 51 ∷ 53 ∷ 61 ∷ 70 ∷ 56 ∷ 20 ∷ 20 ∷ 57 ∷ 58 ∷ 71 ∷ []) ∷
    (1 ∷ 2 ∷ 3 ∷ 4 ∷ 5 ∷ 6 ∷ 2 ∷ 7 ∷ 8 ∷ 9 ∷ 8 ∷ 10 ∷ 11 ∷ 12 ∷ 13 ∷ 14 ∷ 8 ∷ 15 ∷ 16 ∷ 17 ∷ 18 ∷ 19 ∷ 20 ∷ 21 ∷ 22 ∷ 23 ∷ 24 ∷ 25 ∷ 8 ∷ 8 ∷ 27 ∷ 60 ∷ 29 ∷ 30 ∷ 31 ∷ 32 ∷ 33 ∷ 20 ∷ 21 ∷ 34 ∷ 35 ∷ 36 ∷ 37 ∷ 38 ∷ 39 ∷ 40 ∷ 40 ∷ 20 ∷ 21 ∷ 41 ∷ 42 ∷ 43 ∷ 44 ∷ 45 ∷ 46 ∷ 45 ∷ 46 ∷ 47 ∷ 48 ∷ 49 ∷ 50 ∷ 51 ∷ 51 ∷ 53 ∷ 61 ∷ 55 ∷ 56 ∷ 20 ∷ 20 ∷ 57 ∷ 58 ∷ 72 ∷ []) ∷
    (1 ∷ 2 ∷ 3 ∷ 4 ∷ 5 ∷ 6 ∷ 2 ∷ 7 ∷ 8 ∷ 9 ∷ 8 ∷ 10 ∷ 11 ∷ 12 ∷ 13 ∷ 14 ∷ 9 ∷ 15 ∷ 16 ∷ 17 ∷ 18 ∷ 19 ∷ 20 ∷ 21 ∷ 22 ∷ 23 ∷ 24 ∷ 25 ∷ 8 ∷ 8 ∷ 27 ∷ 60 ∷ 29 ∷ 30 ∷ 31 ∷ 32 ∷ 33 ∷ 20 ∷ 21 ∷ 34 ∷ 35 ∷ 36 ∷ 37 ∷ 38 ∷ 39 ∷ 40 ∷ 40 ∷ 20 ∷ 21 ∷ 41 ∷ 42 ∷ 43 ∷ 44 ∷ 45 ∷ 46 ∷ 45 ∷ 46 ∷ 47 ∷ 48 ∷ 49 ∷ 50 ∷ 64 ∷ 64 ∷ 65 ∷ 61 ∷ 55 ∷ 56 ∷ 20 ∷ 20 ∷ 57 ∷ 58 ∷ 73 ∷ []) ∷
    (1 ∷ 2 ∷ 3 ∷ 4 ∷ 5 ∷ 6 ∷ 2 ∷ 7 ∷ 8 ∷ 9 ∷ 8 ∷ 10 ∷ 11 ∷ 12 ∷ 13 ∷ 14 ∷ 10 ∷ 15 ∷ 16 ∷ 17 ∷ 18 ∷ 19 ∷ 20 ∷ 21 ∷ 22 ∷ 23 ∷ 24 ∷ 25 ∷ 8 ∷ 8 ∷ 27 ∷ 60 ∷ 29 ∷ 30 ∷ 31 ∷ 32 ∷ 33 ∷ 20 ∷ 21 ∷ 34 ∷ 35 ∷ 36 ∷ 37 ∷ 38 ∷ 39 ∷ 40 ∷ 40 ∷ 20 ∷ 21 ∷ 41 ∷ 42 ∷ 43 ∷ 44 ∷ 45 ∷ 46 ∷ 45 ∷ 46 ∷ 47 ∷ 48 ∷ 49 ∷ 50 ∷ 51 ∷ 51 ∷ 53 ∷ 61 ∷ 55 ∷ 56 ∷ 20 ∷ 20 ∷ 57 ∷ 58 ∷ 74 ∷ []) ∷
    (1 ∷ 2 ∷ 3 ∷ 4 ∷ 5 ∷ 6 ∷ 2 ∷ 7 ∷ 8 ∷ 9 ∷ 8 ∷ 10 ∷ 11 ∷ 12 ∷ 13 ∷ 14 ∷ 12 ∷ 15 ∷ 16 ∷ 17 ∷ 18 ∷ 19 ∷ 20 ∷ 21 ∷ 22 ∷ 23 ∷ 24 ∷ 25 ∷ 26 ∷ 8 ∷ 27 ∷ 28 ∷ 29 ∷ 30 ∷ 31 ∷ 32 ∷ 33 ∷ 20 ∷ 21 ∷ 34 ∷ 35 ∷ 36 ∷ 37 ∷ 38 ∷ 39 ∷ 40 ∷ 40 ∷ 20 ∷ 21 ∷ 41 ∷ 42 ∷ 43 ∷ 44 ∷ 45 ∷ 46 ∷ 45 ∷ 46 ∷ 47 ∷ 48 ∷ 49 ∷ 50 ∷ 51 ∷ 51 ∷ 53 ∷ 61 ∷ 55 ∷ 56 ∷ 20 ∷ 20 ∷ 57 ∷ 58 ∷ 75 ∷ []) ∷
    (1 ∷ 2 ∷ 3 ∷ 4 ∷ 5 ∷ 6 ∷ 2 ∷ 7 ∷ 8 ∷ 9 ∷ 8 ∷ 10 ∷ 11 ∷ 12 ∷ 13 ∷ 14 ∷ 1 ∷ 15 ∷ 16 ∷ 17 ∷ 18 ∷ 19 ∷ 20 ∷ 21 ∷ 22 ∷ 23 ∷ 24 ∷ 25 ∷ 26 ∷ 8 ∷ 27 ∷ 28 ∷ 29 ∷ 30 ∷ 31 ∷ 32 ∷ 33 ∷ 20 ∷ 21 ∷ 34 ∷ 35 ∷ 36 ∷ 37 ∷ 38 ∷ 39 ∷ 40 ∷ 40 ∷ 20 ∷ 21 ∷ 41 ∷ 42 ∷ 43 ∷ 44 ∷ 45 ∷ 46 ∷ 45 ∷ 46 ∷ 47 ∷ 48 ∷ 49 ∷ 50 ∷ 51 ∷ 52 ∷ 53 ∷ 61 ∷ 76 ∷ 56 ∷ 20 ∷ 20 ∷ 57 ∷ 58 ∷ 59 ∷ []) ∷
    (1 ∷ 2 ∷ 3 ∷ 4 ∷ 5 ∷ 6 ∷ 2 ∷ 7 ∷ 8 ∷ 9 ∷ 8 ∷ 10 ∷ 11 ∷ 12 ∷ 13 ∷ 14 ∷ 13 ∷ 15 ∷ 16 ∷ 17 ∷ 18 ∷ 19 ∷ 20 ∷ 21 ∷ 22 ∷ 23 ∷ 24 ∷ 25 ∷ 8 ∷ 8 ∷ 27 ∷ 60 ∷ 29 ∷ 30 ∷ 31 ∷ 32 ∷ 33 ∷ 20 ∷ 21 ∷ 34 ∷ 35 ∷ 36 ∷ 37 ∷ 38 ∷ 39 ∷ 40 ∷ 40 ∷ 20 ∷ 21 ∷ 41 ∷ 42 ∷ 43 ∷ 44 ∷ 45 ∷ 46 ∷ 45 ∷ 46 ∷ 47 ∷ 48 ∷ 49 ∷ 50 ∷ 51 ∷ 51 ∷ 53 ∷ 61 ∷ 76 ∷ 56 ∷ 20 ∷ 20 ∷ 57 ∷ 58 ∷ 77 ∷ []) ∷
    (1 ∷ 2 ∷ 3 ∷ 4 ∷ 5 ∷ 6 ∷ 2 ∷ 7 ∷ 8 ∷ 9 ∷ 8 ∷ 10 ∷ 11 ∷ 12 ∷ 13 ∷ 14 ∷ 14 ∷ 15 ∷ 16 ∷ 17 ∷ 18 ∷ 19 ∷ 20 ∷ 21 ∷ 22 ∷ 23 ∷ 24 ∷ 25 ∷ 8 ∷ 8 ∷ 27 ∷ 60 ∷ 29 ∷ 30 ∷ 31 ∷ 32 ∷ 33 ∷ 20 ∷ 21 ∷ 34 ∷ 35 ∷ 36 ∷ 37 ∷ 38 ∷ 39 ∷ 40 ∷ 40 ∷ 20 ∷ 21 ∷ 41 ∷ 42 ∷ 43 ∷ 44 ∷ 45 ∷ 46 ∷ 45 ∷ 46 ∷ 47 ∷ 48 ∷ 49 ∷ 50 ∷ 64 ∷ 64 ∷ 65 ∷ 61 ∷ 76 ∷ 56 ∷ 20 ∷ 20 ∷ 57 ∷ 58 ∷ 78 ∷ []) ∷
    (1 ∷ 2 ∷ 3 ∷ 4 ∷ 5 ∷ 6 ∷ 2 ∷ 7 ∷ 8 ∷ 9 ∷ 8 ∷ 10 ∷ 11 ∷ 12 ∷ 13 ∷ 14 ∷ 15 ∷ 15 ∷ 16 ∷ 17 ∷ 18 ∷ 19 ∷ 20 ∷ 21 ∷ 22 ∷ 23 ∷ 24 ∷ 25 ∷ 8 ∷ 8 ∷ 27 ∷ 60 ∷ 29 ∷ 30 ∷ 31 ∷ 32 ∷ 33 ∷ 20 ∷ 21 ∷ 34 ∷ 35 ∷ 36 ∷ 37 ∷ 38 ∷ 39 ∷ 40 ∷ 40 ∷ 20 ∷ 21 ∷ 41 ∷ 42 ∷ 43 ∷ 44 ∷ 45 ∷ 46 ∷ 45 ∷ 46 ∷ 47 ∷ 48 ∷ 49 ∷ 50 ∷ 51 ∷ 51 ∷ 53 ∷ 61 ∷ 76 ∷ 56 ∷ 20 ∷ 20 ∷ 57 ∷ 58 ∷ 79 ∷ []) ∷
    (1 ∷ 2 ∷ 3 ∷ 4 ∷ 5 ∷ 6 ∷ 2 ∷ 7 ∷ 8 ∷ 9 ∷ 8 ∷ 10 ∷ 11 ∷ 12 ∷ 13 ∷ 14 ∷ 17 ∷ 15 ∷ 16 ∷ 17 ∷ 18 ∷ 19 ∷ 20 ∷ 21 ∷ 22 ∷ 23 ∷ 24 ∷ 25 ∷ 8 ∷ 8 ∷ 27 ∷ 60 ∷ 29 ∷ 30 ∷ 31 ∷ 32 ∷ 33 ∷ 20 ∷ 21 ∷ 34 ∷ 35 ∷ 36 ∷ 37 ∷ 38 ∷ 39 ∷ 40 ∷ 40 ∷ 20 ∷ 21 ∷ 41 ∷ 42 ∷ 43 ∷ 44 ∷ 45 ∷ 46 ∷ 45 ∷ 46 ∷ 47 ∷ 48 ∷ 49 ∷ 50 ∷ 51 ∷ 51 ∷ 53 ∷ 61 ∷ 55 ∷ 56 ∷ 20 ∷ 20 ∷ 57 ∷ 58 ∷ 80 ∷ []) ∷
    (1 ∷ 2 ∷ 3 ∷ 4 ∷ 5 ∷ 6 ∷ 2 ∷ 7 ∷ 8 ∷ 9 ∷ 8 ∷ 10 ∷ 11 ∷ 12 ∷ 13 ∷ 14 ∷ 18 ∷ 15 ∷ 16 ∷ 17 ∷ 18 ∷ 19 ∷ 20 ∷ 21 ∷ 22 ∷ 23 ∷ 24 ∷ 25 ∷ 8 ∷ 8 ∷ 27 ∷ 60 ∷ 29 ∷ 30 ∷ 31 ∷ 32 ∷ 33 ∷ 20 ∷ 21 ∷ 34 ∷ 35 ∷ 36 ∷ 37 ∷ 38 ∷ 39 ∷ 40 ∷ 40 ∷ 20 ∷ 21 ∷ 41 ∷ 42 ∷ 43 ∷ 44 ∷ 45 ∷ 46 ∷ 45 ∷ 46 ∷ 47 ∷ 48 ∷ 49 ∷ 50 ∷ 64 ∷ 64 ∷ 65 ∷ 61 ∷ 55 ∷ 56 ∷ 20 ∷ 20 ∷ 57 ∷ 58 ∷ 81 ∷ []) ∷
    (1 ∷ 2 ∷ 3 ∷ 4 ∷ 5 ∷ 6 ∷ 2 ∷ 7 ∷ 8 ∷ 9 ∷ 8 ∷ 10 ∷ 11 ∷ 12 ∷ 13 ∷ 14 ∷ 19 ∷ 15 ∷ 16 ∷ 17 ∷ 18 ∷ 19 ∷ 20 ∷ 21 ∷ 22 ∷ 23 ∷ 24 ∷ 25 ∷ 8 ∷ 8 ∷ 27 ∷ 60 ∷ 29 ∷ 30 ∷ 31 ∷ 32 ∷ 33 ∷ 20 ∷ 21 ∷ 34 ∷ 35 ∷ 36 ∷ 37 ∷ 38 ∷ 39 ∷ 40 ∷ 40 ∷ 20 ∷ 21 ∷ 41 ∷ 42 ∷ 43 ∷ 44 ∷ 45 ∷ 46 ∷ 45 ∷ 46 ∷ 47 ∷ 48 ∷ 49 ∷ 50 ∷ 64 ∷ 64 ∷ 65 ∷ 61 ∷ 55 ∷ 56 ∷ 20 ∷ 20 ∷ 57 ∷ 58 ∷ 82 ∷ []) ∷
    (1 ∷ 2 ∷ 3 ∷ 4 ∷ 5 ∷ 6 ∷ 2 ∷ 7 ∷ 8 ∷ 9 ∷ 8 ∷ 10 ∷ 11 ∷ 12 ∷ 13 ∷ 14 ∷ 20 ∷ 15 ∷ 16 ∷ 17 ∷ 18 ∷ 19 ∷ 20 ∷ 21 ∷ 22 ∷ 23 ∷ 24 ∷ 25 ∷ 8 ∷ 8 ∷ 27 ∷ 60 ∷ 29 ∷ 30 ∷ 31 ∷ 32 ∷ 33 ∷ 20 ∷ 21 ∷ 34 ∷ 35 ∷ 36 ∷ 37 ∷ 38 ∷ 39 ∷ 40 ∷ 40 ∷ 20 ∷ 21 ∷ 41 ∷ 42 ∷ 43 ∷ 44 ∷ 45 ∷ 46 ∷ 45 ∷ 46 ∷ 47 ∷ 48 ∷ 49 ∷ 50 ∷ 51 ∷ 51 ∷ 53 ∷ 61 ∷ 55 ∷ 56 ∷ 20 ∷ 20 ∷ 57 ∷ 58 ∷ 83 ∷ []) ∷
    (1 ∷ 2 ∷ 3 ∷ 4 ∷ 5 ∷ 6 ∷ 2 ∷ 7 ∷ 8 ∷ 9 ∷ 8 ∷ 10 ∷ 11 ∷ 12 ∷ 13 ∷ 14 ∷ 21 ∷ 15 ∷ 16 ∷ 17 ∷ 18 ∷ 19 ∷ 20 ∷ 21 ∷ 22 ∷ 23 ∷ 24 ∷ 25 ∷ 8 ∷ 8 ∷ 27 ∷ 60 ∷ 29 ∷ 30 ∷ 31 ∷ 32 ∷ 33 ∷ 20 ∷ 21 ∷ 34 ∷ 35 ∷ 36 ∷ 37 ∷ 38 ∷ 39 ∷ 40 ∷ 40 ∷ 20 ∷ 21 ∷ 41 ∷ 42 ∷ 43 ∷ 44 ∷ 45 ∷ 46 ∷ 45 ∷ 46 ∷ 47 ∷ 48 ∷ 49 ∷ 50 ∷ 64 ∷ 64 ∷ 65 ∷ 61 ∷ 55 ∷ 56 ∷ 20 ∷ 20 ∷ 57 ∷ 58 ∷ 84 ∷ []) ∷
    (1 ∷ 2 ∷ 3 ∷ 4 ∷ 5 ∷ 6 ∷ 2 ∷ 7 ∷ 8 ∷ 9 ∷ 8 ∷ 10 ∷ 11 ∷ 12 ∷ 13 ∷ 14 ∷ 22 ∷ 15 ∷ 16 ∷ 17 ∷ 18 ∷ 19 ∷ 20 ∷ 21 ∷ 22 ∷ 23 ∷ 24 ∷ 25 ∷ 26 ∷ 8 ∷ 27 ∷ 28 ∷ 29 ∷ 30 ∷ 31 ∷ 32 ∷ 33 ∷ 20 ∷ 21 ∷ 34 ∷ 35 ∷ 36 ∷ 37 ∷ 38 ∷ 39 ∷ 40 ∷ 40 ∷ 20 ∷ 21 ∷ 41 ∷ 42 ∷ 43 ∷ 44 ∷ 45 ∷ 46 ∷ 45 ∷ 46 ∷ 47 ∷ 48 ∷ 49 ∷ 50 ∷ 51 ∷ 52 ∷ 53 ∷ 61 ∷ 55 ∷ 56 ∷ 20 ∷ 20 ∷ 57 ∷ 58 ∷ 85 ∷ []) ∷
    (1 ∷ 2 ∷ 3 ∷ 4 ∷ 5 ∷ 6 ∷ 2 ∷ 7 ∷ 8 ∷ 9 ∷ 8 ∷ 10 ∷ 11 ∷ 12 ∷ 13 ∷ 14 ∷ 86 ∷ 15 ∷ 16 ∷ 17 ∷ 18 ∷ 19 ∷ 20 ∷ 21 ∷ 22 ∷ 23 ∷ 24 ∷ 25 ∷ 8 ∷ 8 ∷ 27 ∷ 60 ∷ 29 ∷ 30 ∷ 31 ∷ 32 ∷ 33 ∷ 20 ∷ 21 ∷ 34 ∷ 35 ∷ 36 ∷ 37 ∷ 38 ∷ 39 ∷ 40 ∷ 40 ∷ 20 ∷ 21 ∷ 41 ∷ 42 ∷ 43 ∷ 44 ∷ 45 ∷ 46 ∷ 45 ∷ 46 ∷ 47 ∷ 48 ∷ 49 ∷ 50 ∷ 51 ∷ 52 ∷ 53 ∷ 61 ∷ 123 ∷ 56 ∷ 20 ∷ 20 ∷ 57 ∷ 58 ∷ 136 ∷ []) ∷
    (1 ∷ 2 ∷ 3 ∷ 4 ∷ 5 ∷ 6 ∷ 2 ∷ 7 ∷ 8 ∷ 9 ∷ 8 ∷ 10 ∷ 11 ∷ 12 ∷ 13 ∷ 14 ∷ 23 ∷ 15 ∷ 16 ∷ 17 ∷ 18 ∷ 19 ∷ 20 ∷ 21 ∷ 22 ∷ 23 ∷ 24 ∷ 25 ∷ 26 ∷ 8 ∷ 27 ∷ 28 ∷ 29 ∷ 30 ∷ 31 ∷ 32 ∷ 33 ∷ 20 ∷ 21 ∷ 34 ∷ 35 ∷ 36 ∷ 37 ∷ 38 ∷ 39 ∷ 40 ∷ 40 ∷ 20 ∷ 21 ∷ 41 ∷ 42 ∷ 43 ∷ 44 ∷ 45 ∷ 46 ∷ 45 ∷ 46 ∷ 47 ∷ 48 ∷ 49 ∷ 50 ∷ 64 ∷ 86 ∷ 65 ∷ 61 ∷ 55 ∷ 56 ∷ 20 ∷ 20 ∷ 57 ∷ 58 ∷ 87 ∷ []) ∷
    (1 ∷ 2 ∷ 3 ∷ 4 ∷ 5 ∷ 6 ∷ 2 ∷ 7 ∷ 8 ∷ 9 ∷ 8 ∷ 10 ∷ 11 ∷ 12 ∷ 13 ∷ 14 ∷ 24 ∷ 15 ∷ 16 ∷ 17 ∷ 18 ∷ 19 ∷ 20 ∷ 21 ∷ 22 ∷ 23 ∷ 24 ∷ 25 ∷ 8 ∷ 8 ∷ 27 ∷ 60 ∷ 29 ∷ 30 ∷ 31 ∷ 32 ∷ 33 ∷ 20 ∷ 21 ∷ 34 ∷ 35 ∷ 36 ∷ 37 ∷ 38 ∷ 39 ∷ 40 ∷ 40 ∷ 20 ∷ 21 ∷ 41 ∷ 42 ∷ 43 ∷ 44 ∷ 45 ∷ 46 ∷ 45 ∷ 46 ∷ 47 ∷ 48 ∷ 49 ∷ 50 ∷ 64 ∷ 64 ∷ 65 ∷ 61 ∷ 55 ∷ 56 ∷ 20 ∷ 20 ∷ 57 ∷ 58 ∷ 88 ∷ []) ∷
    (1 ∷ 2 ∷ 3 ∷ 4 ∷ 5 ∷ 6 ∷ 2 ∷ 7 ∷ 8 ∷ 9 ∷ 8 ∷ 10 ∷ 11 ∷ 12 ∷ 13 ∷ 14 ∷ 25 ∷ 15 ∷ 16 ∷ 17 ∷ 18 ∷ 19 ∷ 20 ∷ 21 ∷ 22 ∷ 23 ∷ 24 ∷ 25 ∷ 8 ∷ 8 ∷ 27 ∷ 60 ∷ 29 ∷ 30 ∷ 31 ∷ 32 ∷ 33 ∷ 20 ∷ 21 ∷ 34 ∷ 35 ∷ 36 ∷ 37 ∷ 38 ∷ 39 ∷ 40 ∷ 40 ∷ 20 ∷ 21 ∷ 41 ∷ 42 ∷ 43 ∷ 44 ∷ 45 ∷ 46 ∷ 45 ∷ 46 ∷ 47 ∷ 48 ∷ 49 ∷ 50 ∷ 64 ∷ 64 ∷ 65 ∷ 61 ∷ 55 ∷ 56 ∷ 20 ∷ 20 ∷ 57 ∷ 58 ∷ 89 ∷ []) ∷
    rest

unfoldable pub moves_3 : List (List ℕ) → List (List ℕ)
moves_3 rest =
    (1 ∷ 2 ∷ 3 ∷ 4 ∷ 5 ∷ 6 ∷ 2 ∷ 7 ∷ 8 ∷ 9 ∷ 8 ∷ 10 ∷ 11 ∷ 12 ∷ 13 ∷ 14 ∷ 26 ∷ 15 ∷ 16 ∷ 17 ∷ 18 ∷ 19 ∷ 20 ∷ 21 ∷ 22 ∷ 23 ∷ 24 ∷ 25 ∷ 8 ∷ 8 ∷ 27 ∷ 60 ∷ 29 ∷ 30 ∷ 31 ∷ 32 ∷ 33 ∷ 20 ∷ 21 ∷ 34 ∷ 35 ∷ 36 ∷ 37 ∷ 38 ∷ 39 ∷ 40 ∷ 40 ∷ 20 ∷ 21 ∷ 41 ∷ 42 ∷ 43 ∷ 44 ∷ 45 ∷ 46 ∷ 45 ∷ 46 ∷ 47 ∷ 48 ∷ 49 ∷ 50 ∷ 51 ∷ 51 ∷ 53 ∷ 61 ∷ 55 ∷ 56 ∷ 20 ∷ 20 ∷ 57 ∷ 58 ∷ 90 ∷ []) ∷
    (1 ∷ 2 ∷ 3 ∷ 4 ∷ 5 ∷ 6 ∷ 2 ∷ 7 ∷ 8 ∷ 9 ∷ 8 ∷ 10 ∷ 11 ∷ 12 ∷ 13 ∷ 14 ∷ 91 ∷ 15 ∷ 16 ∷ 17 ∷ 18 ∷ 19 ∷ 20 ∷ 21 ∷ 22 ∷ 23 ∷ 24 ∷ 25 ∷ 8 ∷ 8 ∷ 27 ∷ 60 ∷ 29 ∷ 30 ∷ 31 ∷ 32 ∷ 33 ∷ 20 ∷ 21 ∷ 34 ∷ 35 ∷ 36 ∷ 37 ∷ 38 ∷ 39 ∷ 40 ∷ 40 ∷ 20 ∷ 21 ∷ 41 ∷ 42 ∷ 43 ∷ 44 ∷ 45 ∷ 46 ∷ 45 ∷ 46 ∷ 47 ∷ 48 ∷ 49 ∷ 50 ∷ 51 ∷ 51 ∷ 53 ∷ 61 ∷ 55 ∷ 56 ∷ 20 ∷ 20 ∷ 57 ∷ 58 ∷ 137 ∷ []) ∷
    (1 ∷ 2 ∷ 3 ∷ 4 ∷ 5 ∷ 6 ∷ 2 ∷ 7 ∷ 8 ∷ 9 ∷ 8 ∷ 10 ∷ 11 ∷ 12 ∷ 13 ∷ 14 ∷ 92 ∷ 15 ∷ 16 ∷ 17 ∷ 18 ∷ 19 ∷ 20 ∷ 21 ∷ 22 ∷ 23 ∷ 24 ∷ 25 ∷ 8 ∷ 8 ∷ 27 ∷ 60 ∷ 29 ∷ 30 ∷ 31 ∷ 32 ∷ 33 ∷ 20 ∷ 21 ∷ 34 ∷ 35 ∷ 36 ∷ 37 ∷ 38 ∷ 39 ∷ 40 ∷ 40 ∷ 20 ∷ 21 ∷ 41 ∷ 42 ∷ 43 ∷ 44 ∷ 45 ∷ 46 ∷ 45 ∷ 46 ∷ 47 ∷ 48 ∷ 49 ∷ 50 ∷ 51 ∷ 51 ∷ 53 ∷ 61 ∷ 55 ∷ 56 ∷ 20 ∷ 20 ∷ 57 ∷ 58 ∷ 138 ∷ []) ∷
    (1 ∷ 2 ∷ 3 ∷ 4 ∷ 5 ∷ 6 ∷ 2 ∷ 7 ∷ 8 ∷ 9 ∷ 8 ∷ 10 ∷ 11 ∷ 12 ∷ 13 ∷ 14 ∷ 27 ∷ 15 ∷ 16 ∷ 17 ∷ 18 ∷ 19 ∷ 20 ∷ 21 ∷ 22 ∷ 23 ∷ 24 ∷ 25 ∷ 91 ∷ 91 ∷ 27 ∷ 92 ∷ 29 ∷ 30 ∷ 31 ∷ 32 ∷ 33 ∷ 20 ∷ 21 ∷ 34 ∷ 35 ∷ 36 ∷ 37 ∷ 38 ∷ 39 ∷ 40 ∷ 40 ∷ 20 ∷ 21 ∷ 41 ∷ 42 ∷ 43 ∷ 44 ∷ 45 ∷ 46 ∷ 45 ∷ 46 ∷ 47 ∷ 48 ∷ 49 ∷ 50 ∷ 51 ∷ 51 ∷ 53 ∷ 61 ∷ 55 ∷ 56 ∷ 20 ∷ 20 ∷ 57 ∷ 58 ∷ 93 ∷ []) ∷
    (1 ∷ 2 ∷ 3 ∷ 4 ∷ 5 ∷ 6 ∷ 2 ∷ 7 ∷ 8 ∷ 9 ∷ 8 ∷ 10 ∷ 11 ∷ 12 ∷ 13 ∷ 14 ∷ 28 ∷ 15 ∷ 16 ∷ 17 ∷ 18 ∷ 19 ∷ 20 ∷ 21 ∷ 22 ∷ 23 ∷ 24 ∷ 25 ∷ 8 ∷ 8 ∷ 27 ∷ 60 ∷ 29 ∷ 30 ∷ 31 ∷ 32 ∷ 33 ∷ 20 ∷ 21 ∷ 34 ∷ 35 ∷ 36 ∷ 37 ∷ 38 ∷ 39 ∷ 40 ∷ 40 ∷ 20 ∷ 21 ∷ 41 ∷ 42 ∷ 43 ∷ 44 ∷ 45 ∷ 46 ∷ 45 ∷ 46 ∷ 47 ∷ 48 ∷ 49 ∷ 50 ∷ 51 ∷ 51 ∷ 53 ∷ 61 ∷ 55 ∷ 56 ∷ 20 ∷ 20 ∷ 57 ∷ 58 ∷ 94 ∷ []) ∷
    (1 ∷ 2 ∷ 3 ∷ 4 ∷ 5 ∷ 6 ∷ 2 ∷ 7 ∷ 8 ∷ 9 ∷ 8 ∷ 10 ∷ 11 ∷ 12 ∷ 13 ∷ 14 ∷ 29 ∷ 15 ∷ 16 ∷ 17 ∷ 18 ∷ 19 ∷ 20 ∷ 21 ∷ 22 ∷ 23 ∷ 24 ∷ 25 ∷ 8 ∷ 8 ∷ 27 ∷ 60 ∷ 29 ∷ 30 ∷ 31 ∷ 32 ∷ 33 ∷ 20 ∷ 21 ∷ 34 ∷ 35 ∷ 36 ∷ 37 ∷ 38 ∷ 39 ∷ 40 ∷ 40 ∷ 20 ∷ 21 ∷ 41 ∷ 42 ∷ 43 ∷ 44 ∷ 45 ∷ 46 ∷ 45 ∷ 46 ∷ 47 ∷ 48 ∷ 49 ∷ 50 ∷ 51 ∷ 51 ∷ 53 ∷ 61 ∷ 55 ∷ 56 ∷ 20 ∷ 20 ∷ 57 ∷ 58 ∷ 95 ∷ []) ∷
    (1 ∷ 2 ∷ 3 ∷ 4 ∷ 5 ∷ 6 ∷ 2 ∷ 7 ∷ 8 ∷ 9 ∷ 8 ∷ 10 ∷ 11 ∷ 12 ∷ 13 ∷ 14 ∷ 30 ∷ 15 ∷ 16 ∷ 17 ∷ 18 ∷ 19 ∷ 20 ∷ 21 ∷ 22 ∷ 23 ∷ 24 ∷ 25 ∷ 8 ∷ 8 ∷ 27 ∷ 60 ∷ 29 ∷ 30 ∷ 31 ∷ 32 ∷ 33 ∷ 20 ∷ 21 ∷ 34 ∷ 35 ∷ 36 ∷ 37 ∷ 38 ∷ 39 ∷ 40 ∷ 40 ∷ 20 ∷ 21 ∷ 41 ∷ 42 ∷ 43 ∷ 44 ∷ 45 ∷ 46 ∷ 45 ∷ 46 ∷ 47 ∷ 48 ∷ 49 ∷ 50 ∷ 64 ∷ 64 ∷ 65 ∷ 61 ∷ 55 ∷ 56 ∷ 20 ∷ 20 ∷ 57 ∷ 58 ∷ 96 ∷ []) ∷
    (1 ∷ 2 ∷ 3 ∷ 4 ∷ 5 ∷ 6 ∷ 2 ∷ 7 ∷ 8 ∷ 9 ∷ 8 ∷ 10 ∷ 11 ∷ 12 ∷ 13 ∷ 14 ∷ 31 ∷ 15 ∷ 16 ∷ 17 ∷ 18 ∷ 19 ∷ 20 ∷ 21 ∷ 22 ∷ 23 ∷ 24 ∷ 25 ∷ 8 ∷ 8 ∷ 27 ∷ 60 ∷ 29 ∷ 30 ∷ 31 ∷ 32 ∷ 33 ∷ 20 ∷ 21 ∷ 34 ∷ 35 ∷ 36 ∷ 37 ∷ 38 ∷ 39 ∷ 40 ∷ 40 ∷ 20 ∷ 21 ∷ 41 ∷ 42 ∷ 43 ∷ 44 ∷ 45 ∷ 46 ∷ 45 ∷ 46 ∷ 47 ∷ 48 ∷ 49 ∷ 50 ∷ 51 ∷ 51 ∷ 53 ∷ 61 ∷ 55 ∷ 56 ∷ 20 ∷ 20 ∷ 57 ∷ 58 ∷ 97 ∷ []) ∷
    (1 ∷ 2 ∷ 3 ∷ 4 ∷ 5 ∷ 6 ∷ 2 ∷ 7 ∷ 8 ∷ 9 ∷ 8 ∷ 10 ∷ 11 ∷ 12 ∷ 13 ∷ 14 ∷ 32 ∷ 15 ∷ 16 ∷ 17 ∷ 18 ∷ 19 ∷ 20 ∷ 21 ∷ 22 ∷ 23 ∷ 24 ∷ 25 ∷ 8 ∷ 8 ∷ 27 ∷ 60 ∷ 29 ∷ 30 ∷ 31 ∷ 32 ∷ 33 ∷ 20 ∷ 21 ∷ 34 ∷ 35 ∷ 36 ∷ 37 ∷ 38 ∷ 39 ∷ 40 ∷ 40 ∷ 20 ∷ 21 ∷ 41 ∷ 42 ∷ 43 ∷ 44 ∷ 45 ∷ 46 ∷ 45 ∷ 46 ∷ 47 ∷ 48 ∷ 49 ∷ 50 ∷ 51 ∷ 51 ∷ 53 ∷ 61 ∷ 55 ∷ 56 ∷ 20 ∷ 20 ∷ 57 ∷ 58 ∷ 98 ∷ []) ∷
    (1 ∷ 2 ∷ 3 ∷ 4 ∷ 5 ∷ 6 ∷ 2 ∷ 7 ∷ 8 ∷ 9 ∷ 8 ∷ 10 ∷ 11 ∷ 12 ∷ 13 ∷ 14 ∷ 33 ∷ 15 ∷ 16 ∷ 17 ∷ 18 ∷ 19 ∷ 20 ∷ 21 ∷ 22 ∷ 23 ∷ 24 ∷ 25 ∷ 8 ∷ 8 ∷ 27 ∷ 60 ∷ 29 ∷ 30 ∷ 31 ∷ 32 ∷ 33 ∷ 20 ∷ 21 ∷ 34 ∷ 35 ∷ 36 ∷ 37 ∷ 38 ∷ 39 ∷ 40 ∷ 40 ∷ 20 ∷ 21 ∷ 41 ∷ 42 ∷ 43 ∷ 44 ∷ 45 ∷ 46 ∷ 45 ∷ 46 ∷ 47 ∷ 48 ∷ 49 ∷ 50 ∷ 64 ∷ 64 ∷ 65 ∷ 61 ∷ 55 ∷ 56 ∷ 20 ∷ 20 ∷ 57 ∷ 58 ∷ 99 ∷ []) ∷
    (1 ∷ 2 ∷ 3 ∷ 4 ∷ 5 ∷ 6 ∷ 2 ∷ 7 ∷ 8 ∷ 9 ∷ 8 ∷ 10 ∷ 11 ∷ 12 ∷ 13 ∷ 14 ∷ 34 ∷ 15 ∷ 16 ∷ 17 ∷ 18 ∷ 19 ∷ 20 ∷ 21 ∷ 22 ∷ 23 ∷ 24 ∷ 25 ∷ 8 ∷ 8 ∷ 27 ∷ 60 ∷ 29 ∷ 30 ∷ 31 ∷ 32 ∷ 33 ∷ 20 ∷ 21 ∷ 34 ∷ 35 ∷ 36 ∷ 37 ∷ 38 ∷ 39 ∷ 40 ∷ 40 ∷ 20 ∷ 21 ∷ 41 ∷ 42 ∷ 43 ∷ 44 ∷ 45 ∷ 46 ∷ 45 ∷ 46 ∷ 47 ∷ 48 ∷ 49 ∷ 50 ∷ 51 ∷ 51 ∷ 53 ∷ 61 ∷ 55 ∷ 56 ∷ 20 ∷ 20 ∷ 57 ∷ 58 ∷ 100 ∷ []) ∷
    (1 ∷ 2 ∷ 3 ∷ 4 ∷ 5 ∷ 6 ∷ 2 ∷ 7 ∷ 8 ∷ 9 ∷ 8 ∷ 10 ∷ 11 ∷ 12 ∷ 13 ∷ 14 ∷ 35 ∷ 15 ∷ 16 ∷ 17 ∷ 18 ∷ 19 ∷ 20 ∷ 21 ∷ 22 ∷ 23 ∷ 24 ∷ 25 ∷ 8 ∷ 8 ∷ 27 ∷ 60 ∷ 29 ∷ 30 ∷ 31 ∷ 32 ∷ 33 ∷ 20 ∷ 21 ∷ 34 ∷ 35 ∷ 36 ∷ 37 ∷ 38 ∷ 39 ∷ 40 ∷ 40 ∷ 20 ∷ 21 ∷ 41 ∷ 42 ∷ 43 ∷ 44 ∷ 45 ∷ 46 ∷ 45 ∷ 46 ∷ 47 ∷ 48 ∷ 49 ∷ 50 ∷ 64 ∷ 64 ∷ 65 ∷ 61 ∷ 55 ∷ 56 ∷ 20 ∷ 20 ∷ 57 ∷ 58 ∷ 101 ∷ []) ∷
    (1 ∷ 2 ∷ 3 ∷ 4 ∷ 5 ∷ 6 ∷ 2 ∷ 7 ∷ 8 ∷ 9 ∷ 8 ∷ 10 ∷ 11 ∷ 12 ∷ 13 ∷ 14 ∷ 36 ∷ 15 ∷ 16 ∷ 17 ∷ 18 ∷ 19 ∷ 20 ∷ 21 ∷ 22 ∷ 23 ∷ 24 ∷ 25 ∷ 8 ∷ 8 ∷ 27 ∷ 60 ∷ 29 ∷ 30 ∷ 31 ∷ 32 ∷ 33 ∷ 20 ∷ 21 ∷ 34 ∷ 35 ∷ 36 ∷ 37 ∷ 38 ∷ 39 ∷ 40 ∷ 40 ∷ 20 ∷ 21 ∷ 41 ∷ 42 ∷ 43 ∷ 44 ∷ 45 ∷ 46 ∷ 45 ∷ 46 ∷ 47 ∷ 48 ∷ 49 ∷ 50 ∷ 51 ∷ 51 ∷ 53 ∷ 61 ∷ 55 ∷ 56 ∷ 20 ∷ 20 ∷ 57 ∷ 58 ∷ 102 ∷ []) ∷
    (1 ∷ 2 ∷ 3 ∷ 4 ∷ 5 ∷ 6 ∷ 2 ∷ 7 ∷ 8 ∷ 9 ∷ 8 ∷ 10 ∷ 11 ∷ 12 ∷ 13 ∷ 14 ∷ 37 ∷ 15 ∷ 16 ∷ 17 ∷ 18 ∷ 19 ∷ 20 ∷ 21 ∷ 22 ∷ 23 ∷ 24 ∷ 25 ∷ 8 ∷ 8 ∷ 27 ∷ 60 ∷ 29 ∷ 30 ∷ 31 ∷ 32 ∷ 33 ∷ 20 ∷ 21 ∷ 34 ∷ 35 ∷ 36 ∷ 37 ∷ 38 ∷ 39 ∷ 40 ∷ 40 ∷ 20 ∷ 21 ∷ 41 ∷ 42 ∷ 43 ∷ 44 ∷ 45 ∷ 46 ∷ 45 ∷ 46 ∷ 47 ∷ 48 ∷ 49 ∷ 50 ∷ 64 ∷ 64 ∷ 65 ∷ 61 ∷ 55 ∷ 56 ∷ 20 ∷ 20 ∷ 57 ∷ 58 ∷ 103 ∷ []) ∷
    (1 ∷ 2 ∷ 3 ∷ 4 ∷ 5 ∷ 6 ∷ 2 ∷ 7 ∷ 8 ∷ 9 ∷ 8 ∷ 10 ∷ 11 ∷ 12 ∷ 13 ∷ 14 ∷ 38 ∷ 15 ∷ 16 ∷ 17 ∷ 18 ∷ 19 ∷ 20 ∷ 21 ∷ 22 ∷ 23 ∷ 24 ∷ 25 ∷ 8 ∷ 8 ∷ 27 ∷ 60 ∷ 29 ∷ 30 ∷ 31 ∷ 32 ∷ 33 ∷ 20 ∷ 21 ∷ 34 ∷ 35 ∷ 36 ∷ 37 ∷ 38 ∷ 39 ∷ 40 ∷ 40 ∷ 20 ∷ 21 ∷ 41 ∷ 42 ∷ 43 ∷ 44 ∷ 45 ∷ 46 ∷ 45 ∷ 46 ∷ 47 ∷ 48 ∷ 49 ∷ 50 ∷ 51 ∷ 51 ∷ 53 ∷ 61 ∷ 55 ∷ 56 ∷ 20 ∷ 20 ∷ 57 ∷ 58 ∷ 104 ∷ []) ∷
    (1 ∷ 2 ∷ 3 ∷ 4 ∷ 5 ∷ 6 ∷ 2 ∷ 7 ∷ 8 ∷ 9 ∷ 8 ∷ 10 ∷ 11 ∷ 12 ∷ 13 ∷ 14 ∷ 39 ∷ 15 ∷ 16 ∷ 17 ∷ 18 ∷ 19 ∷ 20 ∷ 21 ∷ 22 ∷ 23 ∷ 24 ∷ 25 ∷ 8 ∷ 8 ∷ 27 ∷ 60 ∷ 29 ∷ 30 ∷ 31 ∷ 32 ∷ 33 ∷ 20 ∷ 21 ∷ 34 ∷ 35 ∷ 36 ∷ 37 ∷ 38 ∷ 39 ∷ 40 ∷ 40 ∷ 20 ∷ 21 ∷ 41 ∷ 42 ∷ 43 ∷ 44 ∷ 45 ∷ 46 ∷ 45 ∷ 46 ∷ 47 ∷ 48 ∷ 49 ∷ 50 ∷ 51 ∷ 51 ∷ 53 ∷ 61 ∷ 55 ∷ 56 ∷ 20 ∷ 20 ∷ 57 ∷ 58 ∷ 105 ∷ []) ∷
    (1 ∷ 2 ∷ 3 ∷ 4 ∷ 5 ∷ 6 ∷ 2 ∷ 7 ∷ 8 ∷ 9 ∷ 8 ∷ 10 ∷ 11 ∷ 12 ∷ 13 ∷ 14 ∷ 41 ∷ 15 ∷ 16 ∷ 17 ∷ 18 ∷ 19 ∷ 20 ∷ 21 ∷ 22 ∷ 23 ∷ 24 ∷ 25 ∷ 8 ∷ 8 ∷ 27 ∷ 60 ∷ 29 ∷ 30 ∷ 31 ∷ 32 ∷ 33 ∷ 20 ∷ 21 ∷ 34 ∷ 35 ∷ 36 ∷ 37 ∷ 38 ∷ 39 ∷ 40 ∷ 40 ∷ 20 ∷ 21 ∷ 41 ∷ 42 ∷ 43 ∷ 44 ∷ 45 ∷ 46 ∷ 45 ∷ 46 ∷ 47 ∷ 48 ∷ 49 ∷ 50 ∷ 64 ∷ 64 ∷ 65 ∷ 61 ∷ 55 ∷ 56 ∷ 20 ∷ 20 ∷ 57 ∷ 58 ∷ 106 ∷ []) ∷
    (1 ∷ 2 ∷ 3 ∷ 4 ∷ 5 ∷ 6 ∷ 2 ∷ 7 ∷ 8 ∷ 9 ∷ 8 ∷ 10 ∷ 11 ∷ 12 ∷ 13 ∷ 14 ∷ 107 ∷ 15 ∷ 16 ∷ 17 ∷ 18 ∷ 19 ∷ 20 ∷ 21 ∷ 22 ∷ 23 ∷ 24 ∷ 25 ∷ 8 ∷ 8 ∷ 27 ∷ 60 ∷ 29 ∷ 30 ∷ 31 ∷ 32 ∷ 33 ∷ 20 ∷ 21 ∷ 34 ∷ 35 ∷ 36 ∷ 37 ∷ 38 ∷ 39 ∷ 40 ∷ 40 ∷ 20 ∷ 21 ∷ 41 ∷ 42 ∷ 43 ∷ 44 ∷ 45 ∷ 46 ∷ 45 ∷ 46 ∷ 47 ∷ 48 ∷ 49 ∷ 50 ∷ 51 ∷ 51 ∷ 53 ∷ 61 ∷ 76 ∷ 56 ∷ 20 ∷ 20 ∷ 57 ∷ 58 ∷ 139 ∷ []) ∷
    (1 ∷ 2 ∷ 3 ∷ 4 ∷ 5 ∷ 6 ∷ 2 ∷ 7 ∷ 8 ∷ 9 ∷ 8 ∷ 10 ∷ 11 ∷ 12 ∷ 13 ∷ 14 ∷ 108 ∷ 15 ∷ 16 ∷ 17 ∷ 18 ∷ 19 ∷ 20 ∷ 21 ∷ 22 ∷ 23 ∷ 24 ∷ 25 ∷ 8 ∷ 8 ∷ 27 ∷ 60 ∷ 29 ∷ 30 ∷ 31 ∷ 32 ∷ 33 ∷ 20 ∷ 21 ∷ 34 ∷ 35 ∷ 36 ∷ 37 ∷ 38 ∷ 39 ∷ 40 ∷ 40 ∷ 20 ∷ 21 ∷ 41 ∷ 42 ∷ 43 ∷ 44 ∷ 45 ∷ 46 ∷ 45 ∷ 46 ∷ 47 ∷ 48 ∷ 49 ∷ 50 ∷ 64 ∷ 64 ∷ 65 ∷ 61 ∷ 76 ∷ 56 ∷ 20 ∷ 20 ∷ 57 ∷ 58 ∷ 140 ∷ []) ∷
    (1 ∷ 2 ∷ 3 ∷ 4 ∷ 5 ∷ 6 ∷ 2 ∷ 7 ∷ 8 ∷ 9 ∷ 8 ∷ 10 ∷ 11 ∷ 12 ∷ 13 ∷ 14 ∷ 109 ∷ 15 ∷ 16 ∷ 17 ∷ 18 ∷ 19 ∷ 20 ∷ 21 ∷ 22 ∷ 23 ∷ 24 ∷ 25 ∷ 8 ∷ 8 ∷ 27 ∷ 60 ∷ 29 ∷ 30 ∷ 31 ∷ 32 ∷ 33 ∷ 20 ∷ 21 ∷ 34 ∷ 35 ∷ 36 ∷ 37 ∷ 38 ∷ 39 ∷ 40 ∷ 40 ∷ 20 ∷ 21 ∷ 41 ∷ 42 ∷ 43 ∷ 44 ∷ 45 ∷ 46 ∷ 45 ∷ 46 ∷ 47 ∷ 48 ∷ 49 ∷ 50 ∷ 51 ∷ 51 ∷ 53 ∷ 61 ∷ 76 ∷ 56 ∷ 20 ∷ 20 ∷ 57 ∷ 58 ∷ 141 ∷ []) ∷
    (1 ∷ 2 ∷ 3 ∷ 4 ∷ 5 ∷ 6 ∷ 2 ∷ 7 ∷ 8 ∷ 9 ∷ 8 ∷ 10 ∷ 11 ∷ 12 ∷ 107 ∷ 108 ∷ 110 ∷ 109 ∷ 16 ∷ 17 ∷ 18 ∷ 19 ∷ 20 ∷ 21 ∷ 22 ∷ 23 ∷ 24 ∷ 25 ∷ 8 ∷ 8 ∷ 27 ∷ 60 ∷ 29 ∷ 30 ∷ 31 ∷ 32 ∷ 33 ∷ 20 ∷ 21 ∷ 34 ∷ 35 ∷ 110 ∷ 37 ∷ 38 ∷ 39 ∷ 40 ∷ 40 ∷ 20 ∷ 21 ∷ 41 ∷ 42 ∷ 43 ∷ 44 ∷ 45 ∷ 46 ∷ 45 ∷ 46 ∷ 47 ∷ 48 ∷ 49 ∷ 50 ∷ 51 ∷ 51 ∷ 53 ∷ 61 ∷ 55 ∷ 111 ∷ 20 ∷ 20 ∷ 57 ∷ 58 ∷ 142 ∷ []) ∷
    (1 ∷ 2 ∷ 3 ∷ 4 ∷ 5 ∷ 6 ∷ 2 ∷ 7 ∷ 8 ∷ 9 ∷ 8 ∷ 10 ∷ 11 ∷ 12 ∷ 107 ∷ 108 ∷ 111 ∷ 109 ∷ 16 ∷ 17 ∷ 18 ∷ 19 ∷ 20 ∷ 21 ∷ 22 ∷ 23 ∷ 24 ∷ 25 ∷ 8 ∷ 8 ∷ 27 ∷ 60 ∷ 29 ∷ 30 ∷ 31 ∷ 32 ∷ 33 ∷ 20 ∷ 21 ∷ 34 ∷ 35 ∷ 110 ∷ 37 ∷ 38 ∷ 39 ∷ 40 ∷ 40 ∷ 20 ∷ 21 ∷ 41 ∷ 42 ∷ 43 ∷ 44 ∷ 45 ∷ 46 ∷ 45 ∷ 46 ∷ 47 ∷ 48 ∷ 49 ∷ 50 ∷ 51 ∷ 51 ∷ 53 ∷ 61 ∷ 55 ∷ 111 ∷ 20 ∷ 20 ∷ 57 ∷ 58 ∷ 143 ∷ []) ∷
    (1 ∷ 2 ∷ 3 ∷ 4 ∷ 5 ∷ 6 ∷ 2 ∷ 7 ∷ 8 ∷ 9 ∷ 8 ∷ 10 ∷ 11 ∷ 12 ∷ 107 ∷ 108 ∷ 42 ∷ 109 ∷ 16 ∷ 17 ∷ 18 ∷ 19 ∷ 20 ∷ 21 ∷ 22 ∷ 23 ∷ 24 ∷ 25 ∷ 8 ∷ 8 ∷ 27 ∷ 60 ∷ 29 ∷ 30 ∷ 31 ∷ 32 ∷ 33 ∷ 20 ∷ 21 ∷ 34 ∷ 35 ∷ 110 ∷ 37 ∷ 38 ∷ 39 ∷ 40 ∷ 40 ∷ 20 ∷ 21 ∷ 41 ∷ 42 ∷ 43 ∷ 44 ∷ 45 ∷ 46 ∷ 45 ∷ 46 ∷ 47 ∷ 48 ∷ 49 ∷ 50 ∷ 51 ∷ 51 ∷ 53 ∷ 61 ∷ 55 ∷ 111 ∷ 20 ∷ 20 ∷ 57 ∷ 58 ∷ 112 ∷ []) ∷
    (1 ∷ 2 ∷ 3 ∷ 4 ∷ 5 ∷ 6 ∷ 2 ∷ 7 ∷ 8 ∷ 9 ∷ 8 ∷ 10 ∷ 11 ∷ 12 ∷ 13 ∷ 14 ∷ 1 ∷ 15 ∷ 16 ∷ 17 ∷ 18 ∷ 19 ∷ 20 ∷ 21 ∷ 22 ∷ 23 ∷ 24 ∷ 25 ∷ 26 ∷ 8 ∷ 27 ∷ 28 ∷ 29 ∷ 30 ∷ 31 ∷ 32 ∷ 33 ∷ 20 ∷ 21 ∷ 34 ∷ 35 ∷ 36 ∷ 37 ∷ 38 ∷ 39 ∷ 40 ∷ 40 ∷ 20 ∷ 21 ∷ 41 ∷ 42 ∷ 43 ∷ 44 ∷ 45 ∷ 46 ∷ 45 ∷ 46 ∷ 47 ∷ 48 ∷ 49 ∷ 50 ∷ 51 ∷ 52 ∷ 53 ∷ 61 ∷ 113 ∷ 56 ∷ 20 ∷ 20 ∷ 57 ∷ 58 ∷ 59 ∷ []) ∷
    (1 ∷ 2 ∷ 3 ∷ 4 ∷ 5 ∷ 6 ∷ 2 ∷ 7 ∷ 8 ∷ 9 ∷ 8 ∷ 10 ∷ 11 ∷ 12 ∷ 13 ∷ 14 ∷ 43 ∷ 15 ∷ 16 ∷ 17 ∷ 18 ∷ 19 ∷ 20 ∷ 21 ∷ 22 ∷ 23 ∷ 24 ∷ 25 ∷ 8 ∷ 8 ∷ 27 ∷ 60 ∷ 29 ∷ 30 ∷ 31 ∷ 32 ∷ 33 ∷ 20 ∷ 21 ∷ 34 ∷ 35 ∷ 36 ∷ 37 ∷ 38 ∷ 39 ∷ 40 ∷ 40 ∷ 20 ∷ 21 ∷ 41 ∷ 42 ∷ 43 ∷ 44 ∷ 45 ∷ 46 ∷ 45 ∷ 46 ∷ 47 ∷ 48 ∷ 49 ∷ 50 ∷ 51 ∷ 52 ∷ 53 ∷ 61 ∷ 113 ∷ 56 ∷ 20 ∷ 20 ∷ 57 ∷ 58 ∷ 114 ∷ []) ∷
    (1 ∷ 2 ∷ 3 ∷ 4 ∷ 5 ∷ 6 ∷ 2 ∷ 7 ∷ 8 ∷ 9 ∷ 8 ∷ 10 ∷ 11 ∷ 12 ∷ 13 ∷ 14 ∷ 44 ∷ 15 ∷ 16 ∷ 17 ∷ 18 ∷ 19 ∷ 20 ∷ 21 ∷ 22 ∷ 23 ∷ 24 ∷ 25 ∷ 8 ∷ 8 ∷ 27 ∷ 60 ∷ 29 ∷ 30 ∷ 31 ∷ 32 ∷ 33 ∷ 20 ∷ 21 ∷ 34 ∷ 35 ∷ 36 ∷ 37 ∷ 38 ∷ 39 ∷ 40 ∷ 40 ∷ 20 ∷ 21 ∷ 41 ∷ 42 ∷ 43 ∷ 44 ∷ 45 ∷ 46 ∷ 45 ∷ 46 ∷ 47 ∷ 48 ∷ 49 ∷ 50 ∷ 64 ∷ 86 ∷ 65 ∷ 61 ∷ 113 ∷ 56 ∷ 20 ∷ 20 ∷ 57 ∷ 58 ∷ 115 ∷ []) ∷
    (1 ∷ 2 ∷ 3 ∷ 4 ∷ 5 ∷ 6 ∷ 2 ∷ 7 ∷ 8 ∷ 9 ∷ 8 ∷ 10 ∷ 11 ∷ 12 ∷ 13 ∷ 14 ∷ 45 ∷ 15 ∷ 16 ∷ 17 ∷ 18 ∷ 19 ∷ 20 ∷ 21 ∷ 22 ∷ 23 ∷ 24 ∷ 25 ∷ 8 ∷ 8 ∷ 27 ∷ 60 ∷ 29 ∷ 30 ∷ 31 ∷ 32 ∷ 33 ∷ 20 ∷ 21 ∷ 34 ∷ 35 ∷ 36 ∷ 37 ∷ 38 ∷ 39 ∷ 40 ∷ 40 ∷ 20 ∷ 21 ∷ 41 ∷ 42 ∷ 43 ∷ 44 ∷ 45 ∷ 46 ∷ 45 ∷ 46 ∷ 47 ∷ 48 ∷ 49 ∷ 50 ∷ 51 ∷ 51 ∷ 53 ∷ 61 ∷ 55 ∷ 56 ∷ 20 ∷ 20 ∷ 57 ∷ 58 ∷ 116 ∷ []) ∷
    (1 ∷ 2 ∷ 3 ∷ 4 ∷ 5 ∷ 6 ∷ 2 ∷ 7 ∷ 8 ∷ 9 ∷ 8 ∷ 10 ∷ 11 ∷ 12 ∷ 13 ∷ 14 ∷ 46 ∷ 15 ∷ 16 ∷ 17 ∷ 18 ∷ 19 ∷ 20 ∷ 21 ∷ 22 ∷ 23 ∷ 24 ∷ 25 ∷ 8 ∷ 8 ∷ 27 ∷ 60 ∷ 29 ∷ 30 ∷ 31 ∷ 32 ∷ 33 ∷ 20 ∷ 21 ∷ 34 ∷ 35 ∷ 36 ∷ 37 ∷ 38 ∷ 39 ∷ 40 ∷ 40 ∷ 20 ∷ 21 ∷ 41 ∷ 42 ∷ 43 ∷ 44 ∷ 45 ∷ 46 ∷ 45 ∷ 46 ∷ 47 ∷ 48 ∷ 49 ∷ 50 ∷ 64 ∷ 64 ∷ 65 ∷ 61 ∷ 55 ∷ 56 ∷ 20 ∷ 20 ∷ 57 ∷ 58 ∷ 117 ∷ []) ∷
    (1 ∷ 2 ∷ 3 ∷ 4 ∷ 5 ∷ 6 ∷ 2 ∷ 7 ∷ 8 ∷ 9 ∷ 8 ∷ 10 ∷ 11 ∷ 12 ∷ 13 ∷ 14 ∷ 47 ∷ 15 ∷ 16 ∷ 17 ∷ 18 ∷ 19 ∷ 20 ∷ 21 ∷ 22 ∷ 23 ∷ 24 ∷ 25 ∷ 8 ∷ 8 ∷ 27 ∷ 60 ∷ 29 ∷ 30 ∷ 31 ∷ 32 ∷ 33 ∷ 20 ∷ 21 ∷ 34 ∷ 35 ∷ 36 ∷ 37 ∷ 38 ∷ 39 ∷ 40 ∷ 40 ∷ 20 ∷ 21 ∷ 41 ∷ 42 ∷ 43 ∷ 44 ∷ 45 ∷ 46 ∷ 45 ∷ 46 ∷ 47 ∷ 48 ∷ 49 ∷ 50 ∷ 51 ∷ 51 ∷ 53 ∷ 61 ∷ 55 ∷ 56 ∷ 20 ∷ 20 ∷ 57 ∷ 58 ∷ 118 ∷ []) ∷
    (1 ∷ 2 ∷ 3 ∷ 4 ∷ 5 ∷ 6 ∷ 2 ∷ 7 ∷ 8 ∷ 9 ∷ 8 ∷ 10 ∷ 11 ∷ 12 ∷ 13 ∷ 14 ∷ 48 ∷ 15 ∷ 16 ∷ 17 ∷ 18 ∷ 19 ∷ 20 ∷ 21 ∷ 22 ∷ 23 ∷ 24 ∷ 25 ∷ 8 ∷ 8 ∷ 27 ∷ 60 ∷ 29 ∷ 30 ∷ 31 ∷ 32 ∷ 33 ∷ 20 ∷ 21 ∷ 34 ∷ 35 ∷ 36 ∷ 37 ∷ 38 ∷ 39 ∷ 40 ∷ 40 ∷ 20 ∷ 21 ∷ 41 ∷ 42 ∷ 43 ∷ 44 ∷ 45 ∷ 46 ∷ 45 ∷ 46 ∷ 47 ∷ 48 ∷ 49 ∷ 50 ∷ 64 ∷ 64 ∷ 65 ∷ 61 ∷ 55 ∷ 56 ∷ 20 ∷ 20 ∷ 57 ∷ 58 ∷ 119 ∷ []) ∷
    rest

unfoldable pub moves_4 : List (List ℕ) → List (List ℕ)
moves_4 rest =
    (1 ∷ 2 ∷ 3 ∷ 4 ∷ 5 ∷ 6 ∷ 2 ∷ 7 ∷ 8 ∷ 9 ∷ 8 ∷ 10 ∷ 11 ∷ 12 ∷ 13 ∷ 14 ∷ 49 ∷ 15 ∷ 16 ∷ 17 ∷ 18 ∷ 19 ∷ 20 ∷ 21 ∷ 22 ∷ 23 ∷ 24 ∷ 25 ∷ 8 ∷ 8 ∷ 27 ∷ 60 ∷ 29 ∷ 30 ∷ 31 ∷ 32 ∷ 33 ∷ 20 ∷ 21 ∷ 34 ∷ 35 ∷ 36 ∷ 37 ∷ 38 ∷ 39 ∷ 40 ∷ 40 ∷ 20 ∷ 21 ∷ 41 ∷ 42 ∷ 43 ∷ 44 ∷ 45 ∷ 46 ∷ 45 ∷ 46 ∷ 47 ∷ 48 ∷ 49 ∷ 50 ∷ 51 ∷ 51 ∷ 53 ∷ 61 ∷ 55 ∷ 56 ∷ 20 ∷ 20 ∷ 57 ∷ 58 ∷ 120 ∷ []) ∷
    (1 ∷ 2 ∷ 3 ∷ 4 ∷ 5 ∷ 6 ∷ 2 ∷ 7 ∷ 8 ∷ 9 ∷ 8 ∷ 10 ∷ 11 ∷ 12 ∷ 13 ∷ 14 ∷ 50 ∷ 15 ∷ 16 ∷ 17 ∷ 18 ∷ 19 ∷ 20 ∷ 21 ∷ 22 ∷ 23 ∷ 24 ∷ 25 ∷ 8 ∷ 8 ∷ 27 ∷ 60 ∷ 29 ∷ 30 ∷ 31 ∷ 32 ∷ 33 ∷ 20 ∷ 21 ∷ 34 ∷ 35 ∷ 36 ∷ 37 ∷ 38 ∷ 39 ∷ 40 ∷ 40 ∷ 20 ∷ 21 ∷ 41 ∷ 42 ∷ 43 ∷ 44 ∷ 45 ∷ 46 ∷ 45 ∷ 46 ∷ 47 ∷ 48 ∷ 49 ∷ 50 ∷ 64 ∷ 64 ∷ 65 ∷ 61 ∷ 55 ∷ 56 ∷ 20 ∷ 20 ∷ 57 ∷ 58 ∷ 121 ∷ []) ∷
    (1 ∷ 2 ∷ 3 ∷ 4 ∷ 5 ∷ 6 ∷ 2 ∷ 7 ∷ 8 ∷ 9 ∷ 8 ∷ 10 ∷ 11 ∷ 12 ∷ 13 ∷ 14 ∷ 51 ∷ 15 ∷ 16 ∷ 17 ∷ 18 ∷ 19 ∷ 20 ∷ 21 ∷ 22 ∷ 23 ∷ 24 ∷ 25 ∷ 8 ∷ 8 ∷ 27 ∷ 60 ∷ 29 ∷ 30 ∷ 31 ∷ 32 ∷ 33 ∷ 20 ∷ 21 ∷ 34 ∷ 35 ∷ 36 ∷ 37 ∷ 38 ∷ 39 ∷ 40 ∷ 40 ∷ 20 ∷ 21 ∷ 41 ∷ 42 ∷ 43 ∷ 44 ∷ 45 ∷ 46 ∷ 45 ∷ 46 ∷ 47 ∷ 48 ∷ 49 ∷ 50 ∷ 51 ∷ 52 ∷ 53 ∷ 61 ∷ 55 ∷ 56 ∷ 20 ∷ 20 ∷ 57 ∷ 58 ∷ 122 ∷ []) ∷
    (1 ∷ 2 ∷ 3 ∷ 4 ∷ 5 ∷ 6 ∷ 2 ∷ 7 ∷ 8 ∷ 9 ∷ 8 ∷ 10 ∷ 11 ∷ 12 ∷ 13 ∷ 14 ∷ 1 ∷ 15 ∷ 16 ∷ 17 ∷ 18 ∷ 19 ∷ 20 ∷ 21 ∷ 22 ∷ 23 ∷ 24 ∷ 25 ∷ 26 ∷ 8 ∷ 27 ∷ 28 ∷ 29 ∷ 30 ∷ 31 ∷ 32 ∷ 33 ∷ 20 ∷ 21 ∷ 34 ∷ 35 ∷ 36 ∷ 37 ∷ 38 ∷ 39 ∷ 40 ∷ 40 ∷ 20 ∷ 21 ∷ 41 ∷ 42 ∷ 43 ∷ 44 ∷ 45 ∷ 46 ∷ 45 ∷ 46 ∷ 47 ∷ 48 ∷ 49 ∷ 50 ∷ 51 ∷ 52 ∷ 53 ∷ 61 ∷ 123 ∷ 56 ∷ 20 ∷ 20 ∷ 57 ∷ 58 ∷ 59 ∷ []) ∷
    (1 ∷ 2 ∷ 3 ∷ 4 ∷ 5 ∷ 6 ∷ 2 ∷ 7 ∷ 8 ∷ 9 ∷ 8 ∷ 10 ∷ 11 ∷ 12 ∷ 13 ∷ 14 ∷ 52 ∷ 15 ∷ 16 ∷ 17 ∷ 18 ∷ 19 ∷ 20 ∷ 21 ∷ 22 ∷ 23 ∷ 24 ∷ 25 ∷ 8 ∷ 8 ∷ 27 ∷ 60 ∷ 29 ∷ 30 ∷ 31 ∷ 32 ∷ 33 ∷ 20 ∷ 21 ∷ 34 ∷ 35 ∷ 36 ∷ 37 ∷ 38 ∷ 39 ∷ 40 ∷ 40 ∷ 20 ∷ 21 ∷ 41 ∷ 42 ∷ 43 ∷ 44 ∷ 45 ∷ 46 ∷ 45 ∷ 46 ∷ 47 ∷ 48 ∷ 49 ∷ 50 ∷ 51 ∷ 52 ∷ 53 ∷ 61 ∷ 123 ∷ 56 ∷ 20 ∷ 20 ∷ 57 ∷ 58 ∷ 124 ∷ []) ∷
    (1 ∷ 2 ∷ 3 ∷ 4 ∷ 5 ∷ 6 ∷ 2 ∷ 7 ∷ 8 ∷ 9 ∷ 8 ∷ 10 ∷ 11 ∷ 12 ∷ 13 ∷ 14 ∷ 53 ∷ 15 ∷ 16 ∷ 17 ∷ 18 ∷ 19 ∷ 20 ∷ 21 ∷ 22 ∷ 23 ∷ 24 ∷ 25 ∷ 8 ∷ 8 ∷ 27 ∷ 60 ∷ 29 ∷ 30 ∷ 31 ∷ 32 ∷ 33 ∷ 20 ∷ 21 ∷ 34 ∷ 35 ∷ 36 ∷ 37 ∷ 38 ∷ 39 ∷ 40 ∷ 40 ∷ 20 ∷ 21 ∷ 41 ∷ 42 ∷ 43 ∷ 44 ∷ 45 ∷ 46 ∷ 45 ∷ 46 ∷ 47 ∷ 48 ∷ 49 ∷ 50 ∷ 51 ∷ 52 ∷ 53 ∷ 61 ∷ 55 ∷ 56 ∷ 20 ∷ 20 ∷ 57 ∷ 58 ∷ 125 ∷ []) ∷
    (1 ∷ 2 ∷ 3 ∷ 4 ∷ 5 ∷ 6 ∷ 2 ∷ 7 ∷ 8 ∷ 9 ∷ 8 ∷ 10 ∷ 11 ∷ 12 ∷ 13 ∷ 14 ∷ 126 ∷ 15 ∷ 16 ∷ 17 ∷ 18 ∷ 19 ∷ 20 ∷ 21 ∷ 22 ∷ 23 ∷ 24 ∷ 25 ∷ 8 ∷ 8 ∷ 27 ∷ 60 ∷ 29 ∷ 30 ∷ 31 ∷ 32 ∷ 33 ∷ 20 ∷ 21 ∷ 34 ∷ 35 ∷ 36 ∷ 37 ∷ 38 ∷ 39 ∷ 40 ∷ 40 ∷ 20 ∷ 21 ∷ 41 ∷ 42 ∷ 43 ∷ 44 ∷ 45 ∷ 46 ∷ 45 ∷ 46 ∷ 47 ∷ 48 ∷ 49 ∷ 50 ∷ 51 ∷ 51 ∷ 53 ∷ 54 ∷ 55 ∷ 56 ∷ 20 ∷ 20 ∷ 57 ∷ 58 ∷ 144 ∷ []) ∷
    (1 ∷ 2 ∷ 3 ∷ 4 ∷ 5 ∷ 6 ∷ 2 ∷ 7 ∷ 8 ∷ 9 ∷ 8 ∷ 10 ∷ 11 ∷ 12 ∷ 13 ∷ 14 ∷ 54 ∷ 15 ∷ 16 ∷ 17 ∷ 18 ∷ 19 ∷ 20 ∷ 21 ∷ 22 ∷ 23 ∷ 24 ∷ 25 ∷ 8 ∷ 8 ∷ 27 ∷ 60 ∷ 29 ∷ 30 ∷ 31 ∷ 32 ∷ 33 ∷ 20 ∷ 21 ∷ 34 ∷ 35 ∷ 36 ∷ 37 ∷ 38 ∷ 39 ∷ 40 ∷ 40 ∷ 20 ∷ 21 ∷ 41 ∷ 42 ∷ 43 ∷ 44 ∷ 45 ∷ 46 ∷ 45 ∷ 46 ∷ 47 ∷ 48 ∷ 49 ∷ 50 ∷ 51 ∷ 51 ∷ 53 ∷ 126 ∷ 55 ∷ 56 ∷ 20 ∷ 20 ∷ 57 ∷ 58 ∷ 127 ∷ []) ∷
    (1 ∷ 2 ∷ 3 ∷ 4 ∷ 5 ∷ 6 ∷ 2 ∷ 7 ∷ 8 ∷ 9 ∷ 8 ∷ 10 ∷ 11 ∷ 12 ∷ 13 ∷ 14 ∷ 56 ∷ 15 ∷ 16 ∷ 17 ∷ 18 ∷ 19 ∷ 20 ∷ 21 ∷ 22 ∷ 23 ∷ 24 ∷ 25 ∷ 8 ∷ 8 ∷ 27 ∷ 60 ∷ 29 ∷ 30 ∷ 31 ∷ 32 ∷ 33 ∷ 20 ∷ 21 ∷ 34 ∷ 35 ∷ 36 ∷ 37 ∷ 38 ∷ 39 ∷ 40 ∷ 40 ∷ 20 ∷ 21 ∷ 41 ∷ 42 ∷ 43 ∷ 44 ∷ 45 ∷ 46 ∷ 45 ∷ 46 ∷ 47 ∷ 48 ∷ 49 ∷ 50 ∷ 51 ∷ 51 ∷ 53 ∷ 61 ∷ 55 ∷ 56 ∷ 20 ∷ 20 ∷ 57 ∷ 58 ∷ 128 ∷ []) ∷
    (1 ∷ 2 ∷ 3 ∷ 4 ∷ 5 ∷ 6 ∷ 2 ∷ 7 ∷ 8 ∷ 9 ∷ 8 ∷ 10 ∷ 11 ∷ 12 ∷ 13 ∷ 14 ∷ 57 ∷ 15 ∷ 16 ∷ 17 ∷ 18 ∷ 19 ∷ 20 ∷ 21 ∷ 22 ∷ 23 ∷ 24 ∷ 25 ∷ 8 ∷ 8 ∷ 27 ∷ 60 ∷ 29 ∷ 30 ∷ 31 ∷ 32 ∷ 33 ∷ 20 ∷ 21 ∷ 34 ∷ 35 ∷ 36 ∷ 37 ∷ 38 ∷ 39 ∷ 40 ∷ 40 ∷ 20 ∷ 21 ∷ 41 ∷ 42 ∷ 43 ∷ 44 ∷ 45 ∷ 46 ∷ 45 ∷ 46 ∷ 47 ∷ 48 ∷ 49 ∷ 50 ∷ 51 ∷ 51 ∷ 53 ∷ 61 ∷ 55 ∷ 56 ∷ 20 ∷ 20 ∷ 57 ∷ 58 ∷ 129 ∷ []) ∷
    (1 ∷ 2 ∷ 3 ∷ 4 ∷ 5 ∷ 6 ∷ 2 ∷ 7 ∷ 8 ∷ 9 ∷ 8 ∷ 10 ∷ 11 ∷ 12 ∷ 13 ∷ 14 ∷ 1 ∷ 15 ∷ 16 ∷ 17 ∷ 18 ∷ 19 ∷ 20 ∷ 21 ∷ 22 ∷ 23 ∷ 24 ∷ 25 ∷ 26 ∷ 8 ∷ 27 ∷ 28 ∷ 29 ∷ 30 ∷ 31 ∷ 32 ∷ 33 ∷ 20 ∷ 21 ∷ 34 ∷ 35 ∷ 36 ∷ 37 ∷ 38 ∷ 39 ∷ 40 ∷ 40 ∷ 20 ∷ 21 ∷ 41 ∷ 42 ∷ 43 ∷ 44 ∷ 45 ∷ 46 ∷ 45 ∷ 46 ∷ 47 ∷ 48 ∷ 49 ∷ 50 ∷ 51 ∷ 52 ∷ 53 ∷ 61 ∷ 130 ∷ 56 ∷ 20 ∷ 20 ∷ 57 ∷ 58 ∷ 59 ∷ []) ∷
    (1 ∷ 2 ∷ 3 ∷ 4 ∷ 5 ∷ 6 ∷ 2 ∷ 7 ∷ 8 ∷ 9 ∷ 8 ∷ 10 ∷ 11 ∷ 12 ∷ 13 ∷ 14 ∷ 60 ∷ 15 ∷ 16 ∷ 17 ∷ 18 ∷ 19 ∷ 20 ∷ 21 ∷ 22 ∷ 23 ∷ 24 ∷ 25 ∷ 8 ∷ 8 ∷ 27 ∷ 60 ∷ 29 ∷ 30 ∷ 31 ∷ 32 ∷ 33 ∷ 20 ∷ 21 ∷ 34 ∷ 35 ∷ 36 ∷ 37 ∷ 38 ∷ 39 ∷ 40 ∷ 40 ∷ 20 ∷ 21 ∷ 41 ∷ 42 ∷ 43 ∷ 44 ∷ 45 ∷ 46 ∷ 45 ∷ 46 ∷ 47 ∷ 48 ∷ 49 ∷ 50 ∷ 51 ∷ 51 ∷ 53 ∷ 61 ∷ 55 ∷ 56 ∷ 20 ∷ 20 ∷ 57 ∷ 58 ∷ 131 ∷ []) ∷
    (1 ∷ 2 ∷ 3 ∷ 4 ∷ 5 ∷ 6 ∷ 2 ∷ 7 ∷ 8 ∷ 9 ∷ 8 ∷ 10 ∷ 11 ∷ 12 ∷ 13 ∷ 14 ∷ 61 ∷ 15 ∷ 16 ∷ 17 ∷ 18 ∷ 19 ∷ 20 ∷ 21 ∷ 22 ∷ 23 ∷ 24 ∷ 25 ∷ 8 ∷ 8 ∷ 27 ∷ 60 ∷ 29 ∷ 30 ∷ 31 ∷ 32 ∷ 33 ∷ 20 ∷ 21 ∷ 34 ∷ 35 ∷ 36 ∷ 37 ∷ 38 ∷ 39 ∷ 40 ∷ 40 ∷ 20 ∷ 21 ∷ 41 ∷ 42 ∷ 43 ∷ 44 ∷ 45 ∷ 46 ∷ 45 ∷ 46 ∷ 47 ∷ 48 ∷ 49 ∷ 50 ∷ 51 ∷ 51 ∷ 53 ∷ 20 ∷ 55 ∷ 56 ∷ 20 ∷ 20 ∷ 57 ∷ 58 ∷ 132 ∷ []) ∷
    (1 ∷ 2 ∷ 3 ∷ 4 ∷ 5 ∷ 6 ∷ 2 ∷ 7 ∷ 8 ∷ 9 ∷ 8 ∷ 10 ∷ 11 ∷ 12 ∷ 13 ∷ 14 ∷ 62 ∷ 15 ∷ 16 ∷ 17 ∷ 18 ∷ 19 ∷ 20 ∷ 21 ∷ 22 ∷ 23 ∷ 24 ∷ 25 ∷ 8 ∷ 8 ∷ 27 ∷ 60 ∷ 29 ∷ 30 ∷ 31 ∷ 32 ∷ 33 ∷ 20 ∷ 21 ∷ 34 ∷ 35 ∷ 36 ∷ 37 ∷ 38 ∷ 39 ∷ 40 ∷ 40 ∷ 20 ∷ 21 ∷ 41 ∷ 42 ∷ 43 ∷ 44 ∷ 45 ∷ 46 ∷ 45 ∷ 46 ∷ 47 ∷ 48 ∷ 49 ∷ 50 ∷ 51 ∷ 51 ∷ 53 ∷ 61 ∷ 55 ∷ 56 ∷ 20 ∷ 20 ∷ 57 ∷ 58 ∷ 133 ∷ []) ∷
    (1 ∷ 2 ∷ 3 ∷ 4 ∷ 5 ∷ 6 ∷ 2 ∷ 7 ∷ 8 ∷ 9 ∷ 8 ∷ 10 ∷ 11 ∷ 12 ∷ 13 ∷ 14 ∷ 64 ∷ 15 ∷ 16 ∷ 17 ∷ 18 ∷ 19 ∷ 20 ∷ 21 ∷ 22 ∷ 23 ∷ 24 ∷ 25 ∷ 8 ∷ 8 ∷ 27 ∷ 60 ∷ 29 ∷ 30 ∷ 31 ∷ 32 ∷ 33 ∷ 20 ∷ 21 ∷ 34 ∷ 35 ∷ 36 ∷ 37 ∷ 38 ∷ 39 ∷ 40 ∷ 40 ∷ 20 ∷ 21 ∷ 41 ∷ 42 ∷ 43 ∷ 44 ∷ 45 ∷ 46 ∷ 45 ∷ 46 ∷ 47 ∷ 48 ∷ 49 ∷ 50 ∷ 51 ∷ 52 ∷ 53 ∷ 61 ∷ 55 ∷ 56 ∷ 20 ∷ 20 ∷ 57 ∷ 58 ∷ 134 ∷ []) ∷
    (1 ∷ 2 ∷ 3 ∷ 4 ∷ 5 ∷ 6 ∷ 2 ∷ 7 ∷ 8 ∷ 9 ∷ 8 ∷ 10 ∷ 11 ∷ 12 ∷ 13 ∷ 14 ∷ 65 ∷ 15 ∷ 16 ∷ 17 ∷ 18 ∷ 19 ∷ 20 ∷ 21 ∷ 22 ∷ 23 ∷ 24 ∷ 25 ∷ 8 ∷ 8 ∷ 27 ∷ 60 ∷ 29 ∷ 30 ∷ 31 ∷ 32 ∷ 33 ∷ 20 ∷ 21 ∷ 34 ∷ 35 ∷ 36 ∷ 37 ∷ 38 ∷ 39 ∷ 40 ∷ 40 ∷ 20 ∷ 21 ∷ 41 ∷ 42 ∷ 43 ∷ 44 ∷ 45 ∷ 46 ∷ 45 ∷ 46 ∷ 47 ∷ 48 ∷ 49 ∷ 50 ∷ 51 ∷ 52 ∷ 53 ∷ 61 ∷ 55 ∷ 56 ∷ 20 ∷ 20 ∷ 57 ∷ 58 ∷ 135 ∷ []) ∷
    (1 ∷ 2 ∷ 3 ∷ 4 ∷ 5 ∷ 6 ∷ 2 ∷ 7 ∷ 8 ∷ 9 ∷ 8 ∷ 10 ∷ 11 ∷ 12 ∷ 13 ∷ 14 ∷ 86 ∷ 15 ∷ 16 ∷ 17 ∷ 18 ∷ 19 ∷ 20 ∷ 21 ∷ 22 ∷ 23 ∷ 24 ∷ 25 ∷ 8 ∷ 8 ∷ 27 ∷ 60 ∷ 29 ∷ 30 ∷ 31 ∷ 32 ∷ 33 ∷ 20 ∷ 21 ∷ 34 ∷ 35 ∷ 36 ∷ 37 ∷ 38 ∷ 39 ∷ 40 ∷ 40 ∷ 20 ∷ 21 ∷ 41 ∷ 42 ∷ 43 ∷ 44 ∷ 45 ∷ 46 ∷ 45 ∷ 46 ∷ 47 ∷ 48 ∷ 49 ∷ 50 ∷ 51 ∷ 52 ∷ 53 ∷ 61 ∷ 123 ∷ 56 ∷ 20 ∷ 20 ∷ 57 ∷ 58 ∷ 136 ∷ []) ∷
    (1 ∷ 2 ∷ 3 ∷ 4 ∷ 5 ∷ 6 ∷ 2 ∷ 7 ∷ 8 ∷ 9 ∷ 8 ∷ 10 ∷ 11 ∷ 12 ∷ 13 ∷ 14 ∷ 91 ∷ 15 ∷ 16 ∷ 17 ∷ 18 ∷ 19 ∷ 20 ∷ 21 ∷ 22 ∷ 23 ∷ 24 ∷ 25 ∷ 8 ∷ 8 ∷ 27 ∷ 60 ∷ 29 ∷ 30 ∷ 31 ∷ 32 ∷ 33 ∷ 20 ∷ 21 ∷ 34 ∷ 35 ∷ 36 ∷ 37 ∷ 38 ∷ 39 ∷ 40 ∷ 40 ∷ 20 ∷ 21 ∷ 41 ∷ 42 ∷ 43 ∷ 44 ∷ 45 ∷ 46 ∷ 45 ∷ 46 ∷ 47 ∷ 48 ∷ 49 ∷ 50 ∷ 51 ∷ 51 ∷ 53 ∷ 61 ∷ 55 ∷ 56 ∷ 20 ∷ 20 ∷ 57 ∷ 58 ∷ 137 ∷ []) ∷
    (1 ∷ 2 ∷ 3 ∷ 4 ∷ 5 ∷ 6 ∷ 2 ∷ 7 ∷ 8 ∷ 9 ∷ 8 ∷ 10 ∷ 11 ∷ 12 ∷ 13 ∷ 14 ∷ 92 ∷ 15 ∷ 16 ∷ 17 ∷ 18 ∷ 19 ∷ 20 ∷ 21 ∷ 22 ∷ 23 ∷ 24 ∷ 25 ∷ 8 ∷ 8 ∷ 27 ∷ 60 ∷ 29 ∷ 30 ∷ 31 ∷ 32 ∷ 33 ∷ 20 ∷ 21 ∷ 34 ∷ 35 ∷ 36 ∷ 37 ∷ 38 ∷ 39 ∷ 40 ∷ 40 ∷ 20 ∷ 21 ∷ 41 ∷ 42 ∷ 43 ∷ 44 ∷ 45 ∷ 46 ∷ 45 ∷ 46 ∷ 47 ∷ 48 ∷ 49 ∷ 50 ∷ 51 ∷ 51 ∷ 53 ∷ 61 ∷ 55 ∷ 56 ∷ 20 ∷ 20 ∷ 57 ∷ 58 ∷ 138 ∷ []) ∷
    (1 ∷ 2 ∷ 3 ∷ 4 ∷ 5 ∷ 6 ∷ 2 ∷ 7 ∷ 8 ∷ 9 ∷ 8 ∷ 10 ∷ 11 ∷ 12 ∷ 13 ∷ 14 ∷ 107 ∷ 15 ∷ 16 ∷ 17 ∷ 18 ∷ 19 ∷ 20 ∷ 21 ∷ 22 ∷ 23 ∷ 24 ∷ 25 ∷ 8 ∷ 8 ∷ 27 ∷ 60 ∷ 29 ∷ 30 ∷ 31 ∷ 32 ∷ 33 ∷ 20 ∷ 21 ∷ 34 ∷ 35 ∷ 36 ∷ 37 ∷ 38 ∷ 39 ∷ 40 ∷ 40 ∷ 20 ∷ 21 ∷ 41 ∷ 42 ∷ 43 ∷ 44 ∷ 45 ∷ 46 ∷ 45 ∷ 46 ∷ 47 ∷ 48 ∷ 49 ∷ 50 ∷ 51 ∷ 51 ∷ 53 ∷ 61 ∷ 76 ∷ 56 ∷ 20 ∷ 20 ∷ 57 ∷ 58 ∷ 139 ∷ []) ∷
    (1 ∷ 2 ∷ 3 ∷ 4 ∷ 5 ∷ 6 ∷ 2 ∷ 7 ∷ 8 ∷ 9 ∷ 8 ∷ 10 ∷ 11 ∷ 12 ∷ 13 ∷ 14 ∷ 108 ∷ 15 ∷ 16 ∷ 17 ∷ 18 ∷ 19 ∷ 20 ∷ 21 ∷ 22 ∷ 23 ∷ 24 ∷ 25 ∷ 8 ∷ 8 ∷ 27 ∷ 60 ∷ 29 ∷ 30 ∷ 31 ∷ 32 ∷ 33 ∷ 20 ∷ 21 ∷ 34 ∷ 35 ∷ 36 ∷ 37 ∷ 38 ∷ 39 ∷ 40 ∷ 40 ∷ 20 ∷ 21 ∷ 41 ∷ 42 ∷ 43 ∷ 44 ∷ 45 ∷ 46 ∷ 45 ∷ 46 ∷ 47 ∷ 48 ∷ 49 ∷ 50 ∷ 64 ∷ 64 ∷ 65 ∷ 61 ∷ 76 ∷ 56 ∷ 20 ∷ 20 ∷ 57 ∷ 58 ∷ 140 ∷ []) ∷
    (1 ∷ 2 ∷ 3 ∷ 4 ∷ 5 ∷ 6 ∷ 2 ∷ 7 ∷ 8 ∷ 9 ∷ 8 ∷ 10 ∷ 11 ∷ 12 ∷ 13 ∷ 14 ∷ 109 ∷ 15 ∷ 16 ∷ 17 ∷ 18 ∷ 19 ∷ 20 ∷ 21 ∷ 22 ∷ 23 ∷ 24 ∷ 25 ∷ 8 ∷ 8 ∷ 27 ∷ 60 ∷ 29 ∷ 30 ∷ 31 ∷ 32 ∷ 33 ∷ 20 ∷ 21 ∷ 34 ∷ 35 ∷ 36 ∷ 37 ∷ 38 ∷ 39 ∷ 40 ∷ 40 ∷ 20 ∷ 21 ∷ 41 ∷ 42 ∷ 43 ∷ 44 ∷ 45 ∷ 46 ∷ 45 ∷ 46 ∷ 47 ∷ 48 ∷ 49 ∷ 50 ∷ 51 ∷ 51 ∷ 53 ∷ 61 ∷ 76 ∷ 56 ∷ 20 ∷ 20 ∷ 57 ∷ 58 ∷ 141 ∷ []) ∷
    (1 ∷ 2 ∷ 3 ∷ 4 ∷ 5 ∷ 6 ∷ 2 ∷ 7 ∷ 8 ∷ 9 ∷ 8 ∷ 10 ∷ 11 ∷ 12 ∷ 107 ∷ 108 ∷ 110 ∷ 109 ∷ 16 ∷ 17 ∷ 18 ∷ 19 ∷ 20 ∷ 21 ∷ 22 ∷ 23 ∷ 24 ∷ 25 ∷ 8 ∷ 8 ∷ 27 ∷ 60 ∷ 29 ∷ 30 ∷ 31 ∷ 32 ∷ 33 ∷ 20 ∷ 21 ∷ 34 ∷ 35 ∷ 110 ∷ 37 ∷ 38 ∷ 39 ∷ 40 ∷ 40 ∷ 20 ∷ 21 ∷ 41 ∷ 42 ∷ 43 ∷ 44 ∷ 45 ∷ 46 ∷ 45 ∷ 46 ∷ 47 ∷ 48 ∷ 49 ∷ 50 ∷ 51 ∷ 51 ∷ 53 ∷ 61 ∷ 55 ∷ 111 ∷ 20 ∷ 20 ∷ 57 ∷ 58 ∷ 142 ∷ []) ∷
    (1 ∷ 2 ∷ 3 ∷ 4 ∷ 5 ∷ 6 ∷ 2 ∷ 7 ∷ 8 ∷ 9 ∷ 8 ∷ 10 ∷ 11 ∷ 12 ∷ 107 ∷ 108 ∷ 111 ∷ 109 ∷ 16 ∷ 17 ∷ 18 ∷ 19 ∷ 20 ∷ 21 ∷ 22 ∷ 23 ∷ 24 ∷ 25 ∷ 8 ∷ 8 ∷ 27 ∷ 60 ∷ 29 ∷ 30 ∷ 31 ∷ 32 ∷ 33 ∷ 20 ∷ 21 ∷ 34 ∷ 35 ∷ 110 ∷ 37 ∷ 38 ∷ 39 ∷ 40 ∷ 40 ∷ 20 ∷ 21 ∷ 41 ∷ 42 ∷ 43 ∷ 44 ∷ 45 ∷ 46 ∷ 45 ∷ 46 ∷ 47 ∷ 48 ∷ 49 ∷ 50 ∷ 51 ∷ 51 ∷ 53 ∷ 61 ∷ 55 ∷ 111 ∷ 20 ∷ 20 ∷ 57 ∷ 58 ∷ 143 ∷ []) ∷
    (1 ∷ 2 ∷ 3 ∷ 4 ∷ 5 ∷ 6 ∷ 2 ∷ 7 ∷ 8 ∷ 9 ∷ 8 ∷ 10 ∷ 11 ∷ 12 ∷ 13 ∷ 14 ∷ 126 ∷ 15 ∷ 16 ∷ 17 ∷ 18 ∷ 19 ∷ 20 ∷ 21 ∷ 22 ∷ 23 ∷ 24 ∷ 25 ∷ 8 ∷ 8 ∷ 27 ∷ 60 ∷ 29 ∷ 30 ∷ 31 ∷ 32 ∷ 33 ∷ 20 ∷ 21 ∷ 34 ∷ 35 ∷ 36 ∷ 37 ∷ 38 ∷ 39 ∷ 40 ∷ 40 ∷ 20 ∷ 21 ∷ 41 ∷ 42 ∷ 43 ∷ 44 ∷ 45 ∷ 46 ∷ 45 ∷ 46 ∷ 47 ∷ 48 ∷ 49 ∷ 50 ∷ 51 ∷ 51 ∷ 53 ∷ 54 ∷ 55 ∷ 56 ∷ 20 ∷ 20 ∷ 57 ∷ 58 ∷ 144 ∷ []) ∷
    rest

unfoldable pub moves : List (List ℕ)
moves = moves_0 (moves_1 (moves_2 (moves_3 (moves_4 []))))

unfoldable pub owes_0 : List (ℕ) → List (ℕ)
owes_0 rest =
    3 ∷
    4 ∷
    5 ∷
    6 ∷
    7 ∷
    8 ∷
    9 ∷
    10 ∷
    11 ∷
    3 ∷
    12 ∷
    2 ∷
    13 ∷
    14 ∷
    15 ∷
    16 ∷
    17 ∷
    18 ∷
    19 ∷
    20 ∷
    21 ∷
    22 ∷
    0 ∷
    0 ∷
    23 ∷
    24 ∷
    25 ∷
    4 ∷
    26 ∷
    27 ∷
    rest

unfoldable pub owes_1 : List (ℕ) → List (ℕ)
owes_1 rest =
    28 ∷
    29 ∷
    30 ∷
    31 ∷
    32 ∷
    33 ∷
    34 ∷
    35 ∷
    36 ∷
    37 ∷
    2 ∷
    38 ∷
    39 ∷
    0 ∷
    0 ∷
    40 ∷
    41 ∷
    42 ∷
    43 ∷
    21 ∷
    22 ∷
    0 ∷
    0 ∷
    0 ∷
    44 ∷
    45 ∷
    46 ∷
    0 ∷
    47 ∷
    0 ∷
    rest

unfoldable pub owes_2 : List (ℕ) → List (ℕ)
owes_2 rest =
    48 ∷
    49 ∷
    50 ∷
    0 ∷
    0 ∷
    51 ∷
    0 ∷
    0 ∷
    0 ∷
    0 ∷
    52 ∷
    0 ∷
    0 ∷
    0 ∷
    0 ∷
    0 ∷
    53 ∷
    0 ∷
    0 ∷
    0 ∷
    0 ∷
    0 ∷
    0 ∷
    0 ∷
    0 ∷
    0 ∷
    0 ∷
    0 ∷
    0 ∷
    0 ∷
    rest

unfoldable pub owes_3 : List (ℕ) → List (ℕ)
owes_3 rest =
    0 ∷
    54 ∷
    55 ∷
    0 ∷
    0 ∷
    0 ∷
    0 ∷
    0 ∷
    0 ∷
    0 ∷
    0 ∷
    0 ∷
    0 ∷
    0 ∷
    0 ∷
    0 ∷
    0 ∷
    56 ∷
    57 ∷
    58 ∷
    59 ∷
    60 ∷
    0 ∷
    0 ∷
    0 ∷
    0 ∷
    0 ∷
    0 ∷
    0 ∷
    0 ∷
    rest

unfoldable pub owes_4 : List (ℕ) → List (ℕ)
owes_4 rest =
    0 ∷
    0 ∷
    0 ∷
    0 ∷
    0 ∷
    0 ∷
    21 ∷
    0 ∷
    0 ∷
    0 ∷
    47 ∷
    0 ∷
    0 ∷
    0 ∷
    0 ∷
    0 ∷
    0 ∷
    0 ∷
    0 ∷
    0 ∷
    0 ∷
    0 ∷
    0 ∷
    0 ∷
    0 ∷
    rest

unfoldable pub owes : List (ℕ)
owes = owes_0 (owes_1 (owes_2 (owes_3 (owes_4 []))))

unfoldable pub dues : List Due
dues =
    DueOf (Owed ((211106233065472, One) ∷ []) live_tf 0 false ∷ Owed ((2434970217729660813312, One) ∷ []) live_tf 0 false ∷ Marks ∷ Owed ((1180591620717411303424, One) ∷ []) live_tf 0 true ∷ Owed ((147573952589701939200, One) ∷ []) live_tf 0 true ∷ Owed ((18446744073709551616, One) ∷ (3795417808670146011137, One) ∷ []) live_tff 0 true ∷ Owed ((4398046511104, One) ∷ []) live_tf 0 true ∷ Owed ((23058430092136939520, One) ∷ []) live_tf 0 true ∷ Owed ((32281802128991715328, One) ∷ (9441659810243579673591, One) ∷ []) live_tff 0 true ∷ Owed ((16384, One) ∷ []) live_tf 1 true ∷ Owed ((1970330742558208, One) ∷ []) live_tf 0 true ∷ Owed ((4123168604160, One) ∷ []) live_tf 0 true ∷ []) 1 ∷
    DueOf (Owed ((211106233065472, One) ∷ []) live_tf 0 false ∷ Owed ((2434970217729660813312, One) ∷ []) live_tf 0 false ∷ Marks ∷ Owed ((1180591620717411303424, One) ∷ []) live_tf 0 true ∷ Owed ((100663296, One) ∷ []) live_tf 0 true ∷ Owed ((147573952589701939200, One) ∷ []) live_tf 0 true ∷ Owed ((18446744073709551616, One) ∷ (3795417808670146011137, One) ∷ []) live_tff 0 true ∷ Owed ((4398046511104, One) ∷ []) live_tf 0 true ∷ Owed ((23058430092136939520, One) ∷ []) live_tf 0 true ∷ Owed ((32281802128991715328, One) ∷ []) live_tf 0 true ∷ Owed ((32281802128991715328, One) ∷ (9441659810243579673591, One) ∷ []) live_tff 0 true ∷ Owed ((16384, One) ∷ []) live_tf 1 true ∷ Owed ((1970330742558208, One) ∷ []) live_tf 0 true ∷ Owed ((4123168604160, One) ∷ []) live_tf 0 true ∷ Owed ((216172782113783808, One) ∷ []) live_tf 1 true ∷ Owed ((206158430208, One) ∷ []) live_tf 0 true ∷ Owed ((2251799813685248, One) ∷ []) live_tf 0 true ∷ Owed ((4593671619917905920, One) ∷ []) live_tf 0 true ∷ Owed ((2147483706, One) ∷ []) live_tf 0 true ∷ Owed ((4503599627370496, One) ∷ []) live_tf 0 true ∷ []) 1 ∷
    DueOf (Owed ((211106233065472, One) ∷ []) live_tf 0 false ∷ Owed ((2434970217729660813312, One) ∷ []) live_tf 0 false ∷ Marks ∷ Owed ((1180591620717411303424, One) ∷ []) live_tf 0 true ∷ Owed ((100663296, One) ∷ []) live_tf 0 true ∷ Owed ((147573952589701939200, One) ∷ []) live_tf 0 true ∷ Owed ((18446744073709551616, One) ∷ (3795417808670146011137, One) ∷ []) live_tff 0 true ∷ Owed ((4398046511104, One) ∷ []) live_tf 0 true ∷ Owed ((23058430092136939520, One) ∷ []) live_tf 0 true ∷ Owed ((32281802128991715328, One) ∷ []) live_tf 0 true ∷ Owed ((32281802128991715328, One) ∷ (9441659810243579673591, One) ∷ []) live_tff 0 true ∷ Owed ((16384, One) ∷ []) live_tf 1 true ∷ Owed ((1970330742558208, One) ∷ []) live_tf 0 true ∷ Owed ((4123168604160, One) ∷ []) live_tf 0 true ∷ Owed ((216172782113783808, One) ∷ []) live_tf 1 true ∷ Owed ((885443715538058477568, One) ∷ []) live_tf 0 true ∷ Owed ((164, One) ∷ (295147905179352825856, One) ∷ []) live_tff 0 true ∷ []) 1 ∷
    DueOf (Owed ((211106233065472, One) ∷ []) live_tf 0 false ∷ Owed ((2434970217729660813312, One) ∷ []) live_tf 0 false ∷ Marks ∷ Owed ((1180591620717411303424, One) ∷ []) live_tf 0 true ∷ Owed ((100663296, One) ∷ []) live_tf 0 true ∷ Owed ((147573952589701939200, One) ∷ []) live_tf 0 true ∷ Owed ((18446744073709551616, One) ∷ (3795417808670146011137, One) ∷ []) live_tff 0 true ∷ Owed ((4398046511104, One) ∷ []) live_tf 0 true ∷ Owed ((23058430092136939520, One) ∷ []) live_tf 0 true ∷ Owed ((32281802128991715328, One) ∷ (9441659810243579673591, One) ∷ []) live_tff 0 true ∷ Owed ((16384, One) ∷ []) live_tf 1 true ∷ Owed ((1970330742558208, One) ∷ []) live_tf 0 true ∷ Owed ((4123168604160, One) ∷ []) live_tf 0 true ∷ Owed ((216172782113783808, One) ∷ []) live_tf 1 true ∷ Owed ((206158430208, One) ∷ []) live_tf 0 true ∷ Owed ((2251799813685248, One) ∷ []) live_tf 0 true ∷ Owed ((4593671619917905920, One) ∷ []) live_tf 0 true ∷ Owed ((2147483706, One) ∷ []) live_tf 0 true ∷ Owed ((4503599627370496, One) ∷ []) live_tf 0 true ∷ []) 1 ∷
    DueOf (Owed ((211106233065472, One) ∷ []) live_tf 0 false ∷ Owed ((2434970217729660813312, One) ∷ []) live_tf 0 false ∷ Marks ∷ Owed ((1180591620717411303424, One) ∷ []) live_tf 0 true ∷ Owed ((100663296, One) ∷ []) live_tf 0 true ∷ Owed ((147573952589701939200, One) ∷ []) live_tf 0 true ∷ Owed ((18446744073709551616, One) ∷ (3795417808670146011137, One) ∷ []) live_tff 0 true ∷ Owed ((4398046511104, One) ∷ []) live_tf 0 true ∷ Owed ((23058430092136939520, One) ∷ []) live_tf 0 true ∷ Owed ((32281802128991715328, One) ∷ []) live_tf 0 true ∷ Owed ((32281802128991715328, One) ∷ (9441659810243579673591, One) ∷ []) live_tff 0 true ∷ Owed ((16384, One) ∷ []) live_tf 1 true ∷ Owed ((1970330742558208, One) ∷ []) live_tf 0 true ∷ Owed ((4123168604160, One) ∷ []) live_tf 0 true ∷ Owed ((216172782113783808, One) ∷ []) live_tf 1 true ∷ Owed ((206158430208, One) ∷ []) live_tf 0 true ∷ Owed ((2251799813685248, One) ∷ []) live_tf 0 true ∷ Owed ((4593671619917905920, One) ∷ []) live_tf 0 true ∷ Owed ((2147483706, One) ∷ []) live_tf 0 true ∷ Owed ((4503599627370496, One) ∷ []) live_tf 0 true ∷ Owed ((4194304, One) ∷ []) live_tf 0 true ∷ []) 1 ∷
    DueOf (Owed ((211106233065472, One) ∷ []) live_tf 0 false ∷ Owed ((2434970217729660813312, One) ∷ []) live_tf 0 false ∷ Marks ∷ Owed ((1180591620717411303424, One) ∷ []) live_tf 0 true ∷ Owed ((100663296, One) ∷ []) live_tf 0 true ∷ Owed ((147573952589701939200, One) ∷ []) live_tf 0 true ∷ Owed ((18446744073709551616, One) ∷ (3795417808670146011137, One) ∷ []) live_tff 0 true ∷ Owed ((4398046511104, One) ∷ []) live_tf 0 true ∷ Owed ((23058430092136939520, One) ∷ []) live_tf 0 true ∷ Owed ((32281802128991715328, One) ∷ []) live_tf 0 true ∷ Owed ((32281802128991715328, One) ∷ (9441659810243579673591, One) ∷ []) live_tff 0 true ∷ Owed ((16384, One) ∷ []) live_tf 1 true ∷ Owed ((1970330742558208, One) ∷ []) live_tf 0 true ∷ Owed ((4123168604160, One) ∷ []) live_tf 0 true ∷ Owed ((216172782113783808, One) ∷ []) live_tf 1 true ∷ Owed ((206158430208, One) ∷ []) live_tf 0 true ∷ Owed ((2251799813685248, One) ∷ []) live_tf 0 true ∷ Owed ((4593671619917905920, One) ∷ []) live_tf 0 true ∷ Owed ((2147483706, One) ∷ []) live_tf 0 true ∷ Owed ((885443715538058477568, One) ∷ []) live_tf 0 true ∷ Owed ((164, One) ∷ (295147905179352825856, One) ∷ []) live_tff 0 true ∷ Owed ((4503599627370496, One) ∷ []) live_tf 0 true ∷ []) 1 ∷
    DueOf (Owed ((211106233065472, One) ∷ []) live_tf 0 false ∷ Owed ((2434970217729660813312, One) ∷ []) live_tf 0 false ∷ Marks ∷ Owed ((1180591620717411303424, One) ∷ []) live_tf 0 true ∷ Owed ((100663296, One) ∷ []) live_tf 0 true ∷ Owed ((147573952589701939200, One) ∷ []) live_tf 0 true ∷ Owed ((18446744073709551616, One) ∷ (3795417808670146011137, One) ∷ []) live_tff 0 true ∷ Owed ((4398046511104, One) ∷ []) live_tf 0 true ∷ Owed ((23058430092136939520, One) ∷ []) live_tf 0 true ∷ Owed ((32281802128991715328, One) ∷ []) live_tf 0 true ∷ Owed ((32281802128991715328, One) ∷ (9441659810243579673591, One) ∷ []) live_tff 0 true ∷ Owed ((16384, One) ∷ []) live_tf 1 true ∷ Owed ((1970330742558208, One) ∷ []) live_tf 0 true ∷ Owed ((4123168604160, One) ∷ []) live_tf 0 true ∷ Owed ((216172782113783808, One) ∷ []) live_tf 1 true ∷ Owed ((164, One) ∷ []) live_tf 0 true ∷ []) 1 ∷
    DueOf (Owed ((211106233065472, One) ∷ []) live_tf 0 false ∷ Owed ((2434970217729660813312, One) ∷ []) live_tf 0 false ∷ Marks ∷ Owed ((1180591620717411303424, One) ∷ []) live_tf 0 true ∷ Owed ((100663296, One) ∷ []) live_tf 0 true ∷ Owed ((147573952589701939200, One) ∷ []) live_tf 0 true ∷ Owed ((18446744073709551616, One) ∷ (3795417808670146011137, One) ∷ []) live_tff 0 true ∷ Owed ((4398046511104, One) ∷ []) live_tf 0 true ∷ Owed ((256, One) ∷ []) live_tf 0 true ∷ Owed ((23058430092136939520, One) ∷ []) live_tf 0 true ∷ Owed ((32281802128991715328, One) ∷ []) live_tf 0 true ∷ Owed ((32281802128991715328, One) ∷ (9441659810243579673591, One) ∷ []) live_tff 0 true ∷ Owed ((16384, One) ∷ []) live_tf 1 true ∷ Owed ((1970330742558208, One) ∷ []) live_tf 0 true ∷ Owed ((4123168604160, One) ∷ []) live_tf 0 true ∷ []) 1 ∷
    DueOf (Owed ((211106233065472, One) ∷ []) live_tf 0 false ∷ Owed ((2434970217729660813312, One) ∷ []) live_tf 0 false ∷ Marks ∷ Owed ((1180591620717411303424, One) ∷ []) live_tf 0 true ∷ Owed ((147573952589701939200, One) ∷ []) live_tf 0 true ∷ Owed ((18446744073709551616, One) ∷ (3795417808670146011137, One) ∷ []) live_tff 0 true ∷ Owed ((4398046511104, One) ∷ []) live_tf 0 true ∷ Owed ((23058430092136939520, One) ∷ []) live_tf 0 true ∷ Owed ((32281802128991715328, One) ∷ []) live_tf 0 true ∷ Owed ((32281802128991715328, One) ∷ (9441659810243579673591, One) ∷ []) live_tff 0 true ∷ Owed ((16384, One) ∷ []) live_tf 1 true ∷ Owed ((1970330742558208, One) ∷ []) live_tf 0 true ∷ Owed ((4123168604160, One) ∷ []) live_tf 0 true ∷ []) 1 ∷
    DueOf (Owed ((211106233065472, One) ∷ []) live_tf 0 false ∷ Owed ((2434970217729660813312, One) ∷ []) live_tf 0 false ∷ Marks ∷ Owed ((1180591620717411303424, One) ∷ []) live_tf 0 true ∷ Owed ((100663296, One) ∷ []) live_tf 0 true ∷ Owed ((147573952589701939200, One) ∷ []) live_tf 0 true ∷ Owed ((18446744073709551616, One) ∷ (3795417808670146011137, One) ∷ []) live_tff 0 true ∷ Owed ((4398046511104, One) ∷ []) live_tf 0 true ∷ Owed ((23058430092136939520, One) ∷ []) live_tf 0 true ∷ Owed ((32281802128991715328, One) ∷ []) live_tf 0 true ∷ Owed ((32281802128991715328, One) ∷ (9441659810243579673591, One) ∷ []) live_tff 0 true ∷ Owed ((16384, One) ∷ []) live_tf 1 true ∷ []) 0 ∷
    DueOf (Owed ((211106233065472, One) ∷ []) live_tf 0 false ∷ Owed ((2434970217729660813312, One) ∷ []) live_tf 0 false ∷ Marks ∷ Owed ((1180591620717411303424, One) ∷ []) live_tf 0 true ∷ Owed ((100663296, One) ∷ []) live_tf 0 true ∷ Owed ((147573952589701939200, One) ∷ []) live_tf 0 true ∷ Owed ((18446744073709551616, One) ∷ (3795417808670146011137, One) ∷ []) live_tff 0 true ∷ Owed ((4398046511104, One) ∷ []) live_tf 0 true ∷ Owed ((23058430092136939520, One) ∷ []) live_tf 0 true ∷ Owed ((32281802128991715328, One) ∷ []) live_tf 0 true ∷ Owed ((32281802128991715328, One) ∷ (9441659810243579673591, One) ∷ []) live_tff 0 true ∷ []) 1 ∷
    DueOf (Owed ((211106233065472, One) ∷ []) live_tf 0 false ∷ Owed ((2434970217729660813312, One) ∷ []) live_tf 0 false ∷ Marks ∷ Owed ((1180591620717411303424, One) ∷ []) live_tf 0 true ∷ Owed ((100663296, One) ∷ []) live_tf 0 true ∷ Owed ((147573952589701939200, One) ∷ []) live_tf 0 true ∷ Owed ((18446744073709551616, One) ∷ (3795417808670146011137, One) ∷ []) live_tff 0 true ∷ Owed ((4398046511104, One) ∷ []) live_tf 0 true ∷ Owed ((1970324836974592, One) ∷ []) live_tf 0 true ∷ Owed ((23058430092136939520, One) ∷ []) live_tf 0 true ∷ Owed ((32281802128991715328, One) ∷ []) live_tf 0 true ∷ Owed ((32281802128991715328, One) ∷ (9441659810243579673591, One) ∷ []) live_tff 0 true ∷ Owed ((16384, One) ∷ []) live_tf 1 true ∷ Owed ((1970330742558208, One) ∷ []) live_tf 0 true ∷ Owed ((4123168604160, One) ∷ []) live_tf 0 true ∷ []) 1 ∷
    DueOf (Owed ((211106233065472, One) ∷ []) live_tf 0 false ∷ Owed ((2434970217729660813312, One) ∷ []) live_tf 0 false ∷ Marks ∷ Owed ((1180591620717411303424, One) ∷ []) live_tf 0 true ∷ Owed ((100663296, One) ∷ []) live_tf 0 true ∷ Owed ((147573952589701939200, One) ∷ []) live_tf 0 true ∷ Owed ((18446744073709551616, One) ∷ (3795417808670146011137, One) ∷ []) live_tff 0 true ∷ Owed ((4398046511104, One) ∷ []) live_tf 0 true ∷ Owed ((1970324836974592, One) ∷ []) live_tf 0 true ∷ Owed ((23058430092136939520, One) ∷ []) live_tf 0 true ∷ Owed ((32281802128991715328, One) ∷ (9441659810243579673591, One) ∷ []) live_tff 0 true ∷ Owed ((16384, One) ∷ []) live_tf 1 true ∷ Owed ((1970330742558208, One) ∷ []) live_tf 0 true ∷ Owed ((4123168604160, One) ∷ []) live_tf 0 true ∷ []) 1 ∷
    DueOf (Owed ((211106233065472, One) ∷ []) live_tf 0 false ∷ Owed ((2434970217729660813312, One) ∷ []) live_tf 0 false ∷ Marks ∷ Owed ((1180591620717411303424, One) ∷ []) live_tf 0 true ∷ Owed ((100663296, One) ∷ []) live_tf 0 true ∷ Owed ((147573952589701939200, One) ∷ []) live_tf 0 true ∷ Owed ((18446744073709551616, One) ∷ (3795417808670146011137, One) ∷ []) live_tff 0 true ∷ Owed ((4398046511104, One) ∷ []) live_tf 0 true ∷ Owed ((1970324836974592, One) ∷ []) live_tf 0 true ∷ Owed ((23058430092136939520, One) ∷ []) live_tf 0 true ∷ Owed ((32281802128991715328, One) ∷ []) live_tf 0 true ∷ Owed ((32281802128991715328, One) ∷ (9441659810243579673591, One) ∷ []) live_tff 0 true ∷ Owed ((16384, One) ∷ []) live_tf 1 true ∷ Owed ((1970330742558208, One) ∷ []) live_tf 0 true ∷ Owed ((4123168604160, One) ∷ []) live_tf 0 true ∷ Owed ((216172782113783808, One) ∷ []) live_tf 1 true ∷ Owed ((2251801961168954, One) ∷ []) live_tf 0 true ∷ []) 1 ∷
    DueOf (Owed ((70368744177664, One) ∷ []) live_tf 0 false ∷ []) 2 ∷
    DueOf (Owed ((211106233065472, One) ∷ []) live_tf 0 false ∷ Owed ((2434970217729660813312, One) ∷ []) live_tf 0 false ∷ Marks ∷ Owed ((1180591620717411303424, One) ∷ []) live_tf 0 true ∷ Owed ((100663296, One) ∷ []) live_tf 0 true ∷ Owed ((147573952589701939200, One) ∷ []) live_tf 0 true ∷ Owed ((18446744073709551616, One) ∷ (3795417808670146011137, One) ∷ []) live_tff 0 true ∷ Owed ((4398046511104, One) ∷ []) live_tf 0 true ∷ Owed ((23058430092136939520, One) ∷ []) live_tf 0 true ∷ Owed ((32281802128991715328, One) ∷ []) live_tf 0 true ∷ Owed ((32281802128991715328, One) ∷ (9441659810243579673591, One) ∷ []) live_tff 0 true ∷ Owed ((16384, One) ∷ []) live_tf 1 true ∷ Owed ((1970330742558208, One) ∷ []) live_tf 0 true ∷ Owed ((4123168604160, One) ∷ []) live_tf 0 true ∷ Owed ((216172782113783808, One) ∷ []) live_tf 1 true ∷ Owed ((270215977642229760, One) ∷ []) live_tf 0 true ∷ Owed ((4194304, One) ∷ []) live_tf 0 true ∷ []) 1 ∷
    DueOf (Owed ((211106233065472, One) ∷ []) live_tf 0 false ∷ Owed ((2434970217729660813312, One) ∷ []) live_tf 0 false ∷ Marks ∷ Owed ((1180591620717411303424, One) ∷ []) live_tf 0 true ∷ Owed ((100663296, One) ∷ []) live_tf 0 true ∷ Owed ((147573952589701939200, One) ∷ []) live_tf 0 true ∷ Owed ((18446744073709551616, One) ∷ (3795417808670146011137, One) ∷ []) live_tff 0 true ∷ Owed ((4398046511104, One) ∷ []) live_tf 0 true ∷ Owed ((23058430092136939520, One) ∷ []) live_tf 0 true ∷ Owed ((32281802128991715328, One) ∷ (9441659810243579673591, One) ∷ []) live_tff 0 true ∷ Owed ((16384, One) ∷ []) live_tf 1 true ∷ Owed ((1970330742558208, One) ∷ []) live_tf 0 true ∷ Owed ((4123168604160, One) ∷ []) live_tf 0 true ∷ Owed ((216172782113783808, One) ∷ []) live_tf 1 true ∷ Owed ((270215977642229760, One) ∷ []) live_tf 0 true ∷ Owed ((4194304, One) ∷ []) live_tf 0 true ∷ []) 1 ∷
    DueOf (Owed ((211106233065472, One) ∷ []) live_tf 0 false ∷ Owed ((2434970217729660813312, One) ∷ []) live_tf 0 false ∷ Marks ∷ Owed ((1180591620717411303424, One) ∷ []) live_tf 0 true ∷ Owed ((100663296, One) ∷ []) live_tf 0 true ∷ Owed ((147573952589701939200, One) ∷ []) live_tf 0 true ∷ Owed ((18446744073709551616, One) ∷ (3795417808670146011137, One) ∷ []) live_tff 0 true ∷ Owed ((4398046511104, One) ∷ []) live_tf 0 true ∷ Owed ((23058430092136939520, One) ∷ []) live_tf 0 true ∷ Owed ((32281802128991715328, One) ∷ (9441659810243579673591, One) ∷ []) live_tff 0 true ∷ Owed ((16384, One) ∷ []) live_tf 1 true ∷ Owed ((1970330742558208, One) ∷ []) live_tf 0 true ∷ Owed ((4123168604160, One) ∷ []) live_tf 0 true ∷ Owed ((216172782113783808, One) ∷ []) live_tf 1 true ∷ Owed ((270215977642229760, One) ∷ []) live_tf 0 true ∷ []) 1 ∷
    DueOf (Owed ((211106233065472, One) ∷ []) live_tf 0 false ∷ Owed ((2434970217729660813312, One) ∷ []) live_tf 0 false ∷ Marks ∷ Owed ((1180591620717411303424, One) ∷ []) live_tf 0 true ∷ Owed ((100663296, One) ∷ []) live_tf 0 true ∷ Owed ((147573952589701939200, One) ∷ []) live_tf 0 true ∷ Owed ((18446744073709551616, One) ∷ (3795417808670146011137, One) ∷ []) live_tff 0 true ∷ Owed ((4398046511104, One) ∷ []) live_tf 0 true ∷ Owed ((23058430092136939520, One) ∷ []) live_tf 0 true ∷ Owed ((32281802128991715328, One) ∷ []) live_tf 0 true ∷ Owed ((32281802128991715328, One) ∷ (9441659810243579673591, One) ∷ []) live_tff 0 true ∷ Owed ((16384, One) ∷ []) live_tf 1 true ∷ Owed ((1970330742558208, One) ∷ []) live_tf 0 true ∷ Owed ((4123168604160, One) ∷ []) live_tf 0 true ∷ []) 1 ∷
    DueOf (Owed ((211106233065472, One) ∷ []) live_tf 0 false ∷ Owed ((2434970217729660813312, One) ∷ []) live_tf 0 false ∷ Marks ∷ Owed ((1180591620717411303424, One) ∷ []) live_tf 0 true ∷ Owed ((100663296, One) ∷ []) live_tf 0 true ∷ Owed ((147573952589701939200, One) ∷ []) live_tf 0 true ∷ Owed ((18446744073709551616, One) ∷ (3795417808670146011137, One) ∷ []) live_tff 0 true ∷ Owed ((4398046511104, One) ∷ []) live_tf 0 true ∷ Owed ((23058430092136939520, One) ∷ []) live_tf 0 true ∷ Owed ((32281802128991715328, One) ∷ (9441659810243579673591, One) ∷ []) live_tff 0 true ∷ Owed ((16384, One) ∷ []) live_tf 1 true ∷ Owed ((1970330742558208, One) ∷ []) live_tf 0 true ∷ Owed ((4123168604160, One) ∷ []) live_tf 0 true ∷ []) 1 ∷
    DueOf (Owed ((211106233065472, One) ∷ []) live_tf 0 false ∷ Owed ((2434970217729660813312, One) ∷ []) live_tf 0 false ∷ Marks ∷ Owed ((1180591620717411303424, One) ∷ []) live_tf 0 true ∷ Owed ((100663296, One) ∷ []) live_tf 0 true ∷ Owed ((147573952589701939200, One) ∷ []) live_tf 0 true ∷ Owed ((18446744073709551616, One) ∷ (3795417808670146011137, One) ∷ []) live_tff 0 true ∷ Owed ((4398046511104, One) ∷ []) live_tf 0 true ∷ Owed ((23058430092136939520, One) ∷ []) live_tf 0 true ∷ Owed ((32281802128991715328, One) ∷ (9441659810243579673591, One) ∷ []) live_tff 0 true ∷ Owed ((16384, One) ∷ []) live_tf 1 true ∷ Owed ((1970330742558208, One) ∷ []) live_tf 0 true ∷ Owed ((4123168604160, One) ∷ []) live_tf 0 true ∷ Owed ((216172782113783808, One) ∷ []) live_tf 1 true ∷ Owed ((52776558133248, One) ∷ []) live_tf 0 true ∷ Owed ((270215977642229760, One) ∷ []) live_tf 0 true ∷ []) 1 ∷
    DueOf (Owed ((211106233065472, One) ∷ []) live_tf 0 false ∷ Owed ((2434970217729660813312, One) ∷ []) live_tf 0 false ∷ Marks ∷ Owed ((1180591620717411303424, One) ∷ []) live_tf 0 true ∷ Owed ((100663296, One) ∷ []) live_tf 0 true ∷ Owed ((147573952589701939200, One) ∷ []) live_tf 0 true ∷ Owed ((18446744073709551616, One) ∷ (3795417808670146011137, One) ∷ []) live_tff 0 true ∷ Owed ((4398046511104, One) ∷ []) live_tf 0 true ∷ Owed ((23058430092136939520, One) ∷ []) live_tf 0 true ∷ Owed ((32281802128991715328, One) ∷ (9441659810243579673591, One) ∷ []) live_tff 0 true ∷ Owed ((16384, One) ∷ []) live_tf 1 true ∷ Owed ((1970330742558208, One) ∷ []) live_tf 0 true ∷ Owed ((4123168604160, One) ∷ []) live_tf 0 true ∷ Owed ((216172782113783808, One) ∷ []) live_tf 1 true ∷ Owed ((17592186044416, One) ∷ []) live_tf 0 true ∷ Owed ((270215977642229760, One) ∷ []) live_tf 0 true ∷ []) 1 ∷
    DueOf (Owed ((211106233065472, One) ∷ []) live_tf 0 false ∷ Owed ((2434970217729660813312, One) ∷ []) live_tf 0 false ∷ Marks ∷ Owed ((1180591620717411303424, One) ∷ []) live_tf 0 true ∷ Owed ((147573952589701939200, One) ∷ []) live_tf 0 true ∷ Owed ((18446744073709551616, One) ∷ (3795417808670146011137, One) ∷ []) live_tff 0 true ∷ Owed ((4398046511104, One) ∷ []) live_tf 0 true ∷ Owed ((23058430092136939520, One) ∷ []) live_tf 0 true ∷ Owed ((32281802128991715328, One) ∷ []) live_tf 0 true ∷ Owed ((32281802128991715328, One) ∷ (9441659810243579673591, One) ∷ []) live_tff 0 true ∷ Owed ((16384, One) ∷ []) live_tf 1 true ∷ Owed ((2147483706, One) ∷ []) live_tf 0 true ∷ Owed ((1970330742558208, One) ∷ []) live_tf 0 true ∷ Owed ((4123168604160, One) ∷ []) live_tf 0 true ∷ []) 1 ∷
    DueOf (Owed ((211106233065472, One) ∷ []) live_tf 0 false ∷ Owed ((2434970217729660813312, One) ∷ []) live_tf 0 false ∷ Marks ∷ Owed ((1180591620717411303424, One) ∷ []) live_tf 0 true ∷ Owed ((147573952589701939200, One) ∷ []) live_tf 0 true ∷ Owed ((18446744073709551616, One) ∷ (3795417808670146011137, One) ∷ []) live_tff 0 true ∷ Owed ((4398046511104, One) ∷ []) live_tf 0 true ∷ Owed ((23058430092136939520, One) ∷ []) live_tf 0 true ∷ Owed ((32281802128991715328, One) ∷ []) live_tf 0 true ∷ Owed ((32281802128991715328, One) ∷ (9441659810243579673591, One) ∷ []) live_tff 0 true ∷ Owed ((16384, One) ∷ []) live_tf 1 true ∷ Owed ((2147483706, One) ∷ []) live_tf 0 true ∷ Owed ((1970330742558208, One) ∷ []) live_tf 0 true ∷ Owed ((4123168604160, One) ∷ []) live_tf 0 true ∷ Owed ((216172782113783808, One) ∷ []) live_tf 1 true ∷ Owed ((2251799813685248, One) ∷ []) live_tf 0 true ∷ []) 1 ∷
    DueOf (Owed ((211106233065472, One) ∷ []) live_tf 0 false ∷ Owed ((2434970217729660813312, One) ∷ []) live_tf 0 false ∷ Marks ∷ Owed ((1180591620717411303424, One) ∷ []) live_tf 0 true ∷ Owed ((100663296, One) ∷ []) live_tf 0 true ∷ Owed ((147573952589701939200, One) ∷ []) live_tf 0 true ∷ Owed ((18446744073709551616, One) ∷ (3795417808670146011137, One) ∷ []) live_tff 0 true ∷ Owed ((4398046511104, One) ∷ []) live_tf 0 true ∷ Owed ((23058430092136939520, One) ∷ []) live_tf 0 true ∷ Owed ((32281802128991715328, One) ∷ []) live_tf 0 true ∷ Owed ((32281802128991715328, One) ∷ (9441659810243579673591, One) ∷ []) live_tff 0 true ∷ Owed ((16384, One) ∷ []) live_tf 1 true ∷ Owed ((1073743872, One) ∷ []) live_tf 1 true ∷ Owed ((1970330742558208, One) ∷ []) live_tf 0 true ∷ Owed ((4123168604160, One) ∷ []) live_tf 0 true ∷ Owed ((216172782113783808, One) ∷ []) live_tf 1 true ∷ Owed ((270215977642229760, One) ∷ []) live_tf 0 true ∷ []) 1 ∷
    DueOf (Owed ((211106233065472, One) ∷ []) live_tf 0 false ∷ Owed ((2434970217729660813312, One) ∷ []) live_tf 0 false ∷ Marks ∷ Owed ((1180591620717411303424, One) ∷ []) live_tf 0 true ∷ Owed ((100663296, One) ∷ []) live_tf 0 true ∷ Owed ((147573952589701939200, One) ∷ []) live_tf 0 true ∷ Owed ((18446744073709551616, One) ∷ (3795417808670146011137, One) ∷ []) live_tff 0 true ∷ Owed ((4398046511104, One) ∷ []) live_tf 0 true ∷ Owed ((23058430092136939520, One) ∷ []) live_tf 0 true ∷ Owed ((32281802128991715328, One) ∷ (9441659810243579673591, One) ∷ []) live_tff 0 true ∷ Owed ((16384, One) ∷ []) live_tf 1 true ∷ Owed ((1073743872, One) ∷ []) live_tf 1 true ∷ Owed ((1970330742558208, One) ∷ []) live_tf 0 true ∷ Owed ((4123168604160, One) ∷ []) live_tf 0 true ∷ Owed ((216172782113783808, One) ∷ []) live_tf 1 true ∷ Owed ((270215977642229760, One) ∷ []) live_tf 0 true ∷ []) 1 ∷
    DueOf (Owed ((211106233065472, One) ∷ []) live_tf 0 false ∷ Owed ((2434970217729660813312, One) ∷ []) live_tf 0 false ∷ Marks ∷ Owed ((1180591620717411303424, One) ∷ []) live_tf 0 true ∷ Owed ((100663296, One) ∷ []) live_tf 0 true ∷ Owed ((147573952589701939200, One) ∷ []) live_tf 0 true ∷ Owed ((18446744073709551616, One) ∷ (3795417808670146011137, One) ∷ []) live_tff 0 true ∷ Owed ((4398046511104, One) ∷ []) live_tf 0 true ∷ Owed ((23058430092136939520, One) ∷ []) live_tf 0 true ∷ Owed ((32281802128991715328, One) ∷ []) live_tf 0 true ∷ Owed ((32281802128991715328, One) ∷ (9441659810243579673591, One) ∷ []) live_tff 0 true ∷ Owed ((16384, One) ∷ []) live_tf 1 true ∷ Owed ((1073743872, One) ∷ []) live_tf 1 true ∷ Owed ((1970330742558208, One) ∷ []) live_tf 0 true ∷ Owed ((4123168604160, One) ∷ []) live_tf 0 true ∷ Owed ((216172782113783808, One) ∷ []) live_tf 1 true ∷ Owed ((270215977642229760, One) ∷ []) live_tf 0 true ∷ Owed ((4194304, One) ∷ []) live_tf 0 true ∷ []) 1 ∷
    DueOf (Owed ((211106233065472, One) ∷ []) live_tf 0 false ∷ Owed ((2434970217729660813312, One) ∷ []) live_tf 0 false ∷ Marks ∷ Owed ((1180591620717411303424, One) ∷ []) live_tf 0 true ∷ Owed ((100663296, One) ∷ []) live_tf 0 true ∷ Owed ((147573952589701939200, One) ∷ []) live_tf 0 true ∷ Owed ((18446744073709551616, One) ∷ (3795417808670146011137, One) ∷ []) live_tff 0 true ∷ Owed ((4398046511104, One) ∷ []) live_tf 0 true ∷ Owed ((23058430092136939520, One) ∷ []) live_tf 0 true ∷ Owed ((32281802128991715328, One) ∷ []) live_tf 0 true ∷ Owed ((32281802128991715328, One) ∷ (9441659810243579673591, One) ∷ []) live_tff 0 true ∷ Owed ((16384, One) ∷ []) live_tf 1 true ∷ Owed ((1073743872, One) ∷ []) live_tf 1 true ∷ Owed ((1970330742558208, One) ∷ []) live_tf 0 true ∷ Owed ((4123168604160, One) ∷ []) live_tf 0 true ∷ Owed ((216172782113783808, One) ∷ []) live_tf 1 true ∷ Owed ((206158430208, One) ∷ []) live_tf 0 true ∷ Owed ((2252008119599162, One) ∷ []) live_tf 0 true ∷ Owed ((270215977642229760, One) ∷ []) live_tf 0 true ∷ []) 1 ∷
    DueOf (Owed ((211106233065472, One) ∷ []) live_tf 0 false ∷ Owed ((2434970217729660813312, One) ∷ []) live_tf 0 false ∷ Marks ∷ Owed ((1180591620717411303424, One) ∷ []) live_tf 0 true ∷ Owed ((100663296, One) ∷ []) live_tf 0 true ∷ Owed ((147573952589701939200, One) ∷ []) live_tf 0 true ∷ Owed ((18446744073709551616, One) ∷ (3795417808670146011137, One) ∷ []) live_tff 0 true ∷ Owed ((4398046511104, One) ∷ []) live_tf 0 true ∷ Owed ((23058430092136939520, One) ∷ []) live_tf 0 true ∷ Owed ((32281802128991715328, One) ∷ (9441659810243579673591, One) ∷ []) live_tff 0 true ∷ Owed ((16384, One) ∷ []) live_tf 1 true ∷ Owed ((1073743872, One) ∷ []) live_tf 1 true ∷ Owed ((1970330742558208, One) ∷ []) live_tf 0 true ∷ Owed ((4123168604160, One) ∷ []) live_tf 0 true ∷ Owed ((216172782113783808, One) ∷ []) live_tf 1 true ∷ Owed ((206158430208, One) ∷ []) live_tf 0 true ∷ Owed ((2252008119599162, One) ∷ []) live_tf 0 true ∷ Owed ((270215977642229760, One) ∷ []) live_tf 0 true ∷ []) 1 ∷
    DueOf (Owed ((211106233065472, One) ∷ []) live_tf 0 false ∷ Owed ((2434970217729660813312, One) ∷ []) live_tf 0 false ∷ Marks ∷ Owed ((1180591620717411303424, One) ∷ []) live_tf 0 true ∷ Owed ((100663296, One) ∷ []) live_tf 0 true ∷ Owed ((147573952589701939200, One) ∷ []) live_tf 0 true ∷ Owed ((18446744073709551616, One) ∷ (3795417808670146011137, One) ∷ []) live_tff 0 true ∷ Owed ((4398046511104, One) ∷ []) live_tf 0 true ∷ Owed ((23058430092136939520, One) ∷ []) live_tf 0 true ∷ Owed ((32281802128991715328, One) ∷ []) live_tf 0 true ∷ Owed ((32281802128991715328, One) ∷ (9441659810243579673591, One) ∷ []) live_tff 0 true ∷ Owed ((16384, One) ∷ []) live_tf 1 true ∷ Owed ((1970330742558208, One) ∷ []) live_tf 0 true ∷ Owed ((3298534883328, One) ∷ []) live_tf 1 true ∷ Owed ((4123168604160, One) ∷ []) live_tf 0 true ∷ []) 1 ∷
    DueOf (Owed ((211106233065472, One) ∷ []) live_tf 0 false ∷ Owed ((2434970217729660813312, One) ∷ []) live_tf 0 false ∷ Marks ∷ Owed ((1180591620717411303424, One) ∷ []) live_tf 0 true ∷ Owed ((100663296, One) ∷ []) live_tf 0 true ∷ Owed ((147573952589701939200, One) ∷ []) live_tf 0 true ∷ Owed ((18446744073709551616, One) ∷ (3795417808670146011137, One) ∷ []) live_tff 0 true ∷ Owed ((4398046511104, One) ∷ []) live_tf 0 true ∷ Owed ((23058430092136939520, One) ∷ []) live_tf 0 true ∷ Owed ((32281802128991715328, One) ∷ (9441659810243579673591, One) ∷ []) live_tff 0 true ∷ Owed ((16384, One) ∷ []) live_tf 1 true ∷ Owed ((1970330742558208, One) ∷ []) live_tf 0 true ∷ Owed ((3298534883328, One) ∷ []) live_tf 1 true ∷ Owed ((4123168604160, One) ∷ []) live_tf 0 true ∷ []) 1 ∷
    DueOf (Owed ((211106233065472, One) ∷ []) live_tf 0 false ∷ Owed ((2434970217729660813312, One) ∷ []) live_tf 0 false ∷ Marks ∷ Owed ((1180591620717411303424, One) ∷ []) live_tf 0 true ∷ Owed ((100663296, One) ∷ []) live_tf 0 true ∷ Owed ((147573952589701939200, One) ∷ []) live_tf 0 true ∷ Owed ((18446744073709551616, One) ∷ (3795417808670146011137, One) ∷ []) live_tff 0 true ∷ Owed ((4398046511104, One) ∷ []) live_tf 0 true ∷ Owed ((23058430092136939520, One) ∷ []) live_tf 0 true ∷ Owed ((32281802128991715328, One) ∷ []) live_tf 0 true ∷ Owed ((32281802128991715328, One) ∷ (9441659810243579673591, One) ∷ []) live_tff 0 true ∷ Owed ((16384, One) ∷ []) live_tf 1 true ∷ Owed ((1970330742558208, One) ∷ []) live_tf 0 true ∷ Owed ((4123168604160, One) ∷ []) live_tf 0 true ∷ Owed ((216172782113783808, One) ∷ []) live_tf 1 true ∷ Owed ((2251799813685248, One) ∷ []) live_tf 0 true ∷ Owed ((2147483706, One) ∷ []) live_tf 0 true ∷ []) 1 ∷
    DueOf (Owed ((211106233065472, One) ∷ []) live_tf 0 false ∷ Owed ((2434970217729660813312, One) ∷ []) live_tf 0 false ∷ Marks ∷ Owed ((1180591620717411303424, One) ∷ []) live_tf 0 true ∷ Owed ((100663296, One) ∷ []) live_tf 0 true ∷ Owed ((147573952589701939200, One) ∷ []) live_tf 0 true ∷ Owed ((18446744073709551616, One) ∷ (3795417808670146011137, One) ∷ []) live_tff 0 true ∷ Owed ((4398046511104, One) ∷ []) live_tf 0 true ∷ Owed ((23058430092136939520, One) ∷ []) live_tf 0 true ∷ Owed ((32281802128991715328, One) ∷ (9441659810243579673591, One) ∷ []) live_tff 0 true ∷ Owed ((16384, One) ∷ []) live_tf 1 true ∷ Owed ((1970330742558208, One) ∷ []) live_tf 0 true ∷ Owed ((4123168604160, One) ∷ []) live_tf 0 true ∷ Owed ((216172782113783808, One) ∷ []) live_tf 1 true ∷ Owed ((43980867764224, One) ∷ []) live_tf 0 true ∷ Owed ((270215977642229760, One) ∷ []) live_tf 0 true ∷ []) 1 ∷
    DueOf (Owed ((211106233065472, One) ∷ []) live_tf 0 false ∷ Owed ((2434970217729660813312, One) ∷ []) live_tf 0 false ∷ Marks ∷ Owed ((1180591620717411303424, One) ∷ []) live_tf 0 true ∷ Owed ((100663296, One) ∷ []) live_tf 0 true ∷ Owed ((147573952589701939200, One) ∷ []) live_tf 0 true ∷ Owed ((18446744073709551616, One) ∷ (3795417808670146011137, One) ∷ []) live_tff 0 true ∷ Owed ((4398046511104, One) ∷ []) live_tf 0 true ∷ Owed ((23058430092136939520, One) ∷ []) live_tf 0 true ∷ Owed ((32281802128991715328, One) ∷ []) live_tf 0 true ∷ Owed ((32281802128991715328, One) ∷ (9441659810243579673591, One) ∷ []) live_tff 0 true ∷ Owed ((16384, One) ∷ []) live_tf 1 true ∷ Owed ((1970330742558208, One) ∷ []) live_tf 0 true ∷ Owed ((4123168604160, One) ∷ []) live_tf 0 true ∷ Owed ((216172782113783808, One) ∷ []) live_tf 1 true ∷ Owed ((17592186044416, One) ∷ []) live_tf 0 true ∷ Owed ((270215977642229760, One) ∷ []) live_tf 0 true ∷ []) 1 ∷
    DueOf (Owed ((211106233065472, One) ∷ []) live_tf 0 false ∷ Owed ((2434970217729660813312, One) ∷ []) live_tf 0 false ∷ Marks ∷ Owed ((1180591620717411303424, One) ∷ []) live_tf 0 true ∷ Owed ((100663296, One) ∷ []) live_tf 0 true ∷ Owed ((147573952589701939200, One) ∷ []) live_tf 0 true ∷ Owed ((18446744073709551616, One) ∷ (3795417808670146011137, One) ∷ []) live_tff 0 true ∷ Owed ((4398046511104, One) ∷ []) live_tf 0 true ∷ Owed ((23058430092136939520, One) ∷ []) live_tf 0 true ∷ Owed ((32281802128991715328, One) ∷ []) live_tf 0 true ∷ Owed ((32281802128991715328, One) ∷ (9441659810243579673591, One) ∷ []) live_tff 0 true ∷ Owed ((16384, One) ∷ []) live_tf 1 true ∷ Owed ((1970330742558208, One) ∷ []) live_tf 0 true ∷ Owed ((4123168604160, One) ∷ []) live_tf 0 true ∷ Owed ((216172782113783808, One) ∷ []) live_tf 1 true ∷ Owed ((52776558133248, One) ∷ []) live_tf 0 true ∷ Owed ((270215977642229760, One) ∷ []) live_tf 0 true ∷ []) 1 ∷
    DueOf (Owed ((211106233065472, One) ∷ []) live_tf 0 false ∷ Owed ((2434970217729660813312, One) ∷ []) live_tf 0 false ∷ Marks ∷ Owed ((1180591620717411303424, One) ∷ []) live_tf 0 true ∷ Owed ((100663296, One) ∷ []) live_tf 0 true ∷ Owed ((147573952589701939200, One) ∷ []) live_tf 0 true ∷ Owed ((18446744073709551616, One) ∷ (3795417808670146011137, One) ∷ []) live_tff 0 true ∷ Owed ((4398046511104, One) ∷ []) live_tf 0 true ∷ Owed ((23058430092136939520, One) ∷ []) live_tf 0 true ∷ Owed ((32281802128991715328, One) ∷ (9441659810243579673591, One) ∷ []) live_tff 0 true ∷ Owed ((16384, One) ∷ []) live_tf 1 true ∷ Owed ((1970330742558208, One) ∷ []) live_tf 0 true ∷ Owed ((4123168604160, One) ∷ []) live_tf 0 true ∷ Owed ((216172782113783808, One) ∷ []) live_tf 1 true ∷ Owed ((2252008119599162, One) ∷ []) live_tf 0 true ∷ []) 1 ∷
    DueOf (Owed ((211106233065472, One) ∷ []) live_tf 0 false ∷ Owed ((2434970217729660813312, One) ∷ []) live_tf 0 false ∷ Marks ∷ Owed ((1180591620717411303424, One) ∷ []) live_tf 0 true ∷ Owed ((100663296, One) ∷ []) live_tf 0 true ∷ Owed ((147573952589701939200, One) ∷ []) live_tf 0 true ∷ Owed ((18446744073709551616, One) ∷ (3795417808670146011137, One) ∷ []) live_tff 0 true ∷ Owed ((4398046511104, One) ∷ []) live_tf 0 true ∷ Owed ((23058430092136939520, One) ∷ []) live_tf 0 true ∷ Owed ((32281802128991715328, One) ∷ []) live_tf 0 true ∷ Owed ((32281802128991715328, One) ∷ (9441659810243579673591, One) ∷ []) live_tff 0 true ∷ Owed ((16384, One) ∷ []) live_tf 1 true ∷ Owed ((1970330742558208, One) ∷ []) live_tf 0 true ∷ Owed ((4123168604160, One) ∷ []) live_tf 0 true ∷ Owed ((216172782113783808, One) ∷ []) live_tf 1 true ∷ Owed ((206158430208, One) ∷ []) live_tf 0 true ∷ Owed ((2147483706, One) ∷ []) live_tf 0 true ∷ Owed ((270215977642229760, One) ∷ []) live_tf 0 true ∷ Owed ((4323455642275676160, One) ∷ []) live_tf 0 true ∷ Owed ((2251799813685248, One) ∷ []) live_tf 0 true ∷ Owed ((4503599627370496, One) ∷ []) live_tf 0 true ∷ []) 1 ∷
    DueOf (Owed ((211106233065472, One) ∷ []) live_tf 0 false ∷ Owed ((2434970217729660813312, One) ∷ []) live_tf 0 false ∷ Marks ∷ Owed ((1180591620717411303424, One) ∷ []) live_tf 0 true ∷ Owed ((100663296, One) ∷ []) live_tf 0 true ∷ Owed ((147573952589701939200, One) ∷ []) live_tf 0 true ∷ Owed ((18446744073709551616, One) ∷ (3795417808670146011137, One) ∷ []) live_tff 0 true ∷ Owed ((4398046511104, One) ∷ []) live_tf 0 true ∷ Owed ((23058430092136939520, One) ∷ []) live_tf 0 true ∷ Owed ((32281802128991715328, One) ∷ []) live_tf 0 true ∷ Owed ((32281802128991715328, One) ∷ (9441659810243579673591, One) ∷ []) live_tff 0 true ∷ Owed ((16384, One) ∷ []) live_tf 1 true ∷ Owed ((1970330742558208, One) ∷ []) live_tf 0 true ∷ Owed ((4123168604160, One) ∷ []) live_tf 0 true ∷ Owed ((216172782113783808, One) ∷ []) live_tf 1 true ∷ Owed ((2147483706, One) ∷ []) live_tf 0 true ∷ Owed ((13510798882111488, One) ∷ (2251799813685248, One) ∷ []) live_tff 0 true ∷ Owed ((13510798882111488, One) ∷ (4398046511104, One) ∷ (2251799813685248, One) ∷ []) live_tfff 0 true ∷ Owed ((2251799813685248, One) ∷ []) live_tf 0 true ∷ []) 1 ∷
    DueOf (Owed ((211106233065472, One) ∷ []) live_tf 0 false ∷ Owed ((2434970217729660813312, One) ∷ []) live_tf 0 false ∷ Marks ∷ Owed ((1180591620717411303424, One) ∷ []) live_tf 0 true ∷ Owed ((100663296, One) ∷ []) live_tf 0 true ∷ Owed ((147573952589701939200, One) ∷ []) live_tf 0 true ∷ Owed ((18446744073709551616, One) ∷ (3795417808670146011137, One) ∷ []) live_tff 0 true ∷ Owed ((4398046511104, One) ∷ []) live_tf 0 true ∷ Owed ((23058430092136939520, One) ∷ []) live_tf 0 true ∷ Owed ((32281802128991715328, One) ∷ (9441659810243579673591, One) ∷ []) live_tff 0 true ∷ Owed ((16384, One) ∷ []) live_tf 1 true ∷ Owed ((1970330742558208, One) ∷ []) live_tf 0 true ∷ Owed ((4123168604160, One) ∷ []) live_tf 0 true ∷ Owed ((216172782113783808, One) ∷ []) live_tf 1 true ∷ Owed ((2147483706, One) ∷ []) live_tf 0 true ∷ Owed ((13510798882111488, One) ∷ (2251799813685248, One) ∷ []) live_tff 0 true ∷ Owed ((13510798882111488, One) ∷ (4398046511104, One) ∷ (2251799813685248, One) ∷ []) live_tfff 0 true ∷ Owed ((2251799813685248, One) ∷ []) live_tf 0 true ∷ []) 1 ∷
    DueOf (Owed ((211106233065472, One) ∷ []) live_tf 0 false ∷ Owed ((2434970217729660813312, One) ∷ []) live_tf 0 false ∷ Marks ∷ Owed ((1180591620717411303424, One) ∷ []) live_tf 0 true ∷ Owed ((100663296, One) ∷ []) live_tf 0 true ∷ Owed ((147573952589701939200, One) ∷ []) live_tf 0 true ∷ Owed ((18446744073709551616, One) ∷ (3795417808670146011137, One) ∷ []) live_tff 0 true ∷ Owed ((4398046511104, One) ∷ []) live_tf 0 true ∷ Owed ((23058430092136939520, One) ∷ []) live_tf 0 true ∷ Owed ((32281802128991715328, One) ∷ []) live_tf 0 true ∷ Owed ((32281802128991715328, One) ∷ (9441659810243579673591, One) ∷ []) live_tff 0 true ∷ Owed ((16384, One) ∷ []) live_tf 1 true ∷ Owed ((1970330742558208, One) ∷ []) live_tf 0 true ∷ Owed ((4123168604160, One) ∷ []) live_tf 0 true ∷ Owed ((216172782113783808, One) ∷ []) live_tf 1 true ∷ Owed ((266295312384, One) ∷ []) live_tf 0 true ∷ Owed ((2147483706, One) ∷ []) live_tf 0 true ∷ Owed ((13510798882111488, One) ∷ (2251799813685248, One) ∷ []) live_tff 0 true ∷ Owed ((13510798882111488, One) ∷ (4398046511104, One) ∷ (2251799813685248, One) ∷ []) live_tfff 0 true ∷ Owed ((2251799813685248, One) ∷ []) live_tf 0 true ∷ Owed ((61573053808640, One) ∷ []) live_tf 0 true ∷ []) 1 ∷
    DueOf (Owed ((211106233065472, One) ∷ []) live_tf 0 false ∷ Owed ((2434970217729660813312, One) ∷ []) live_tf 0 false ∷ Marks ∷ Owed ((1180591620717411303424, One) ∷ []) live_tf 0 true ∷ Owed ((100663296, One) ∷ []) live_tf 0 true ∷ Owed ((147573952589701939200, One) ∷ []) live_tf 0 true ∷ Owed ((18446744073709551616, One) ∷ (3795417808670146011137, One) ∷ []) live_tff 0 true ∷ Owed ((4398046511104, One) ∷ []) live_tf 0 true ∷ Owed ((23058430092136939520, One) ∷ []) live_tf 0 true ∷ Owed ((32281802128991715328, One) ∷ (9441659810243579673591, One) ∷ []) live_tff 0 true ∷ Owed ((16384, One) ∷ []) live_tf 1 true ∷ Owed ((1970330742558208, One) ∷ []) live_tf 0 true ∷ Owed ((4123168604160, One) ∷ []) live_tf 0 true ∷ Owed ((216172782113783808, One) ∷ []) live_tf 1 true ∷ Owed ((266295312384, One) ∷ []) live_tf 0 true ∷ Owed ((2147483706, One) ∷ []) live_tf 0 true ∷ Owed ((13510798882111488, One) ∷ (2251799813685248, One) ∷ []) live_tff 0 true ∷ Owed ((13510798882111488, One) ∷ (4398046511104, One) ∷ (2251799813685248, One) ∷ []) live_tfff 0 true ∷ Owed ((2251799813685248, One) ∷ []) live_tf 0 true ∷ Owed ((61573053808640, One) ∷ []) live_tf 0 true ∷ []) 1 ∷
    DueOf (Owed ((211106233065472, One) ∷ []) live_tf 0 false ∷ Owed ((2434970217729660813312, One) ∷ []) live_tf 0 false ∷ Marks ∷ Owed ((1180591620717411303424, One) ∷ []) live_tf 0 true ∷ Owed ((100663296, One) ∷ []) live_tf 0 true ∷ Owed ((147573952589701939200, One) ∷ []) live_tf 0 true ∷ Owed ((18446744073709551616, One) ∷ (3795417808670146011137, One) ∷ []) live_tff 0 true ∷ Owed ((4398046511104, One) ∷ []) live_tf 0 true ∷ Owed ((23058430092136939520, One) ∷ []) live_tf 0 true ∷ Owed ((32281802128991715328, One) ∷ []) live_tf 0 true ∷ Owed ((32281802128991715328, One) ∷ (9441659810243579673591, One) ∷ []) live_tff 0 true ∷ Owed ((16384, One) ∷ []) live_tf 1 true ∷ Owed ((1970330742558208, One) ∷ []) live_tf 0 true ∷ Owed ((4123168604160, One) ∷ []) live_tf 0 true ∷ Owed ((216172782113783808, One) ∷ []) live_tf 1 true ∷ Owed ((36893488147419103232, One) ∷ []) live_tf 0 true ∷ []) 1 ∷
    DueOf (Owed ((211106233065472, One) ∷ []) live_tf 0 false ∷ Owed ((2434970217729660813312, One) ∷ []) live_tf 0 false ∷ Marks ∷ Owed ((1180591620717411303424, One) ∷ []) live_tf 0 true ∷ Owed ((147573952589701939200, One) ∷ []) live_tf 0 true ∷ Owed ((18446744073709551616, One) ∷ (3795417808670146011137, One) ∷ []) live_tff 0 true ∷ Owed ((4398046511104, One) ∷ (2251799813685248, One) ∷ []) live_tff 1 true ∷ Owed ((4398046511104, One) ∷ []) live_tf 0 true ∷ []) 1 ∷
    DueOf (Owed ((211106233065472, One) ∷ []) live_tf 0 false ∷ Owed ((2434970217729660813312, One) ∷ []) live_tf 0 false ∷ Marks ∷ Owed ((1180591620717411303424, One) ∷ []) live_tf 0 true ∷ Owed ((100663296, One) ∷ []) live_tf 0 true ∷ Owed ((147573952589701939200, One) ∷ []) live_tf 0 true ∷ Owed ((18446744073709551616, One) ∷ (3795417808670146011137, One) ∷ []) live_tff 0 true ∷ Owed ((4398046511104, One) ∷ []) live_tf 0 true ∷ Owed ((23058430092136939520, One) ∷ []) live_tf 0 true ∷ Owed ((32281802128991715328, One) ∷ []) live_tf 0 true ∷ Owed ((32281802128991715328, One) ∷ (9441659810243579673591, One) ∷ []) live_tff 0 true ∷ Owed ((16384, One) ∷ []) live_tf 1 true ∷ Owed ((1970330742558208, One) ∷ []) live_tf 0 true ∷ Owed ((2147483648, One) ∷ []) live_tf 0 true ∷ Owed ((4123168604160, One) ∷ []) live_tf 0 true ∷ []) 1 ∷
    DueOf (Owed ((211106233065472, One) ∷ []) live_tf 0 false ∷ Owed ((2434970217729660813312, One) ∷ []) live_tf 0 false ∷ []) 1 ∷
    DueOf (Owed ((211106233065472, One) ∷ []) live_tf 0 false ∷ Owed ((2434970217729660813312, One) ∷ []) live_tf 0 false ∷ Marks ∷ Owed ((1180591620717411303424, One) ∷ []) live_tf 0 true ∷ Owed ((147573952589701939200, One) ∷ []) live_tf 0 true ∷ Owed ((18446744073709551616, One) ∷ (3795417808670146011137, One) ∷ []) live_tff 0 true ∷ Owed ((4398046511104, One) ∷ []) live_tf 0 true ∷ Owed ((23058430092136939520, One) ∷ []) live_tf 0 true ∷ Owed ((32281802128991715328, One) ∷ []) live_tf 0 true ∷ Owed ((32281802128991715328, One) ∷ (9441659810243579673591, One) ∷ []) live_tff 0 true ∷ Owed ((16384, One) ∷ []) live_tf 1 true ∷ Owed ((1970330742558208, One) ∷ []) live_tf 0 true ∷ Owed ((4123168604160, One) ∷ []) live_tf 0 true ∷ Owed ((216172782113783808, One) ∷ []) live_tf 1 true ∷ Owed ((2251799813685248, One) ∷ []) live_tf 0 true ∷ []) 1 ∷
    DueOf (Owed ((211106233065472, One) ∷ []) live_tf 0 false ∷ Owed ((2434970217729660813312, One) ∷ []) live_tf 0 false ∷ Marks ∷ Owed ((1180591620717411303424, One) ∷ []) live_tf 0 true ∷ Owed ((100663296, One) ∷ []) live_tf 0 true ∷ Owed ((147573952589701939200, One) ∷ []) live_tf 0 true ∷ Owed ((18446744073709551616, One) ∷ (3795417808670146011137, One) ∷ []) live_tff 0 true ∷ Owed ((4398046511104, One) ∷ []) live_tf 0 true ∷ Owed ((23058430092136939520, One) ∷ []) live_tf 0 true ∷ Owed ((32281802128991715328, One) ∷ []) live_tf 0 true ∷ Owed ((32281802128991715328, One) ∷ (9441659810243579673591, One) ∷ []) live_tff 0 true ∷ Owed ((16384, One) ∷ []) live_tf 1 true ∷ Owed ((1970330742558208, One) ∷ []) live_tf 0 true ∷ Owed ((4123168604160, One) ∷ []) live_tf 0 true ∷ Owed ((216172782113783808, One) ∷ []) live_tf 1 true ∷ Owed ((36893488147419103232, One) ∷ []) live_tf 0 true ∷ []) 1 ∷
    DueOf (Owed ((211106233065472, One) ∷ []) live_tf 0 false ∷ Owed ((2434970217729660813312, One) ∷ []) live_tf 0 false ∷ Marks ∷ Owed ((1180591620717411303424, One) ∷ []) live_tf 0 true ∷ Owed ((100663296, One) ∷ []) live_tf 0 true ∷ Owed ((147573952589701939200, One) ∷ []) live_tf 0 true ∷ Owed ((18446744073709551616, One) ∷ (3795417808670146011137, One) ∷ []) live_tff 0 true ∷ Owed ((4398046511104, One) ∷ []) live_tf 0 true ∷ Owed ((23058430092136939520, One) ∷ []) live_tf 0 true ∷ Owed ((32281802128991715328, One) ∷ []) live_tf 0 true ∷ Owed ((32281802128991715328, One) ∷ (9441659810243579673591, One) ∷ []) live_tff 0 true ∷ Owed ((16384, One) ∷ []) live_tf 1 true ∷ Owed ((1970330742558208, One) ∷ []) live_tf 0 true ∷ Owed ((4123168604160, One) ∷ []) live_tf 0 true ∷ Owed ((216172782113783808, One) ∷ []) live_tf 1 true ∷ Owed ((36, One) ∷ []) live_tf 0 true ∷ []) 1 ∷
    DueOf (Owed ((211106233065472, One) ∷ []) live_tf 0 false ∷ Owed ((2434970217729660813312, One) ∷ []) live_tf 0 false ∷ Marks ∷ Owed ((1180591620717411303424, One) ∷ []) live_tf 0 true ∷ Owed ((100663296, One) ∷ []) live_tf 0 true ∷ Owed ((147573952589701939200, One) ∷ []) live_tf 0 true ∷ Owed ((18446744073709551616, One) ∷ (3795417808670146011137, One) ∷ []) live_tff 0 true ∷ Owed ((4398046511104, One) ∷ []) live_tf 0 true ∷ Owed ((23058430092136939520, One) ∷ []) live_tf 0 true ∷ Owed ((32281802128991715328, One) ∷ []) live_tf 0 true ∷ Owed ((32281802128991715328, One) ∷ (9441659810243579673591, One) ∷ []) live_tff 0 true ∷ Owed ((9441659810243579673590, One) ∷ []) live_tf 0 true ∷ Owed ((16384, One) ∷ []) live_tf 1 true ∷ Owed ((1970330742558208, One) ∷ []) live_tf 0 true ∷ Owed ((4123168604160, One) ∷ []) live_tf 0 true ∷ []) 1 ∷
    DueOf (Owed ((211106233065472, One) ∷ []) live_tf 0 false ∷ Owed ((2434970217729660813312, One) ∷ []) live_tf 0 false ∷ Marks ∷ Owed ((1180591620717411303424, One) ∷ []) live_tf 0 true ∷ Owed ((147573952589701939200, One) ∷ []) live_tf 0 true ∷ Owed ((18446744073709551616, One) ∷ (3795417808670146011137, One) ∷ []) live_tff 0 true ∷ Owed ((4398046511104, One) ∷ (2251799813685248, One) ∷ []) live_tff 1 true ∷ Owed ((4398046511104, One) ∷ []) live_tf 0 true ∷ Owed ((256, One) ∷ []) live_tf 0 true ∷ []) 1 ∷
    DueOf (Owed ((211106233065472, One) ∷ []) live_tf 0 false ∷ Owed ((2434970217729660813312, One) ∷ []) live_tf 0 false ∷ Marks ∷ Owed ((1180591620717411303424, One) ∷ []) live_tf 0 true ∷ Owed ((147573952589701939200, One) ∷ []) live_tf 0 true ∷ Owed ((18446744073709551616, One) ∷ (3795417808670146011137, One) ∷ []) live_tff 0 true ∷ Owed ((4398046511104, One) ∷ (2251799813685248, One) ∷ []) live_tff 1 true ∷ Owed ((4398046511104, One) ∷ []) live_tf 0 true ∷ Owed ((1970324836974592, One) ∷ []) live_tf 0 true ∷ []) 1 ∷
    DueOf (Owed ((211106233065472, One) ∷ []) live_tf 0 false ∷ Owed ((2434970217729660813312, One) ∷ []) live_tf 0 false ∷ Marks ∷ Owed ((1180591620717411303424, One) ∷ []) live_tf 0 true ∷ Owed ((147573952589701939200, One) ∷ []) live_tf 0 true ∷ Owed ((18446744073709551616, One) ∷ (3795417808670146011137, One) ∷ []) live_tff 0 true ∷ Owed ((4398046511104, One) ∷ []) live_tf 0 true ∷ Owed ((23058430092136939520, One) ∷ []) live_tf 0 true ∷ Owed ((32281802128991715328, One) ∷ []) live_tf 0 true ∷ Owed ((32281802128991715328, One) ∷ (9441659810243579673591, One) ∷ []) live_tff 0 true ∷ Owed ((16384, One) ∷ []) live_tf 1 true ∷ Owed ((1970330742558208, One) ∷ []) live_tf 0 true ∷ Owed ((9444732965737142943742, One) ∷ []) live_tf 0 true ∷ Owed ((4123168604160, One) ∷ []) live_tf 0 true ∷ []) 1 ∷
    DueOf (Owed ((211106233065472, One) ∷ []) live_tf 0 false ∷ Owed ((2434970217729660813312, One) ∷ []) live_tf 0 false ∷ Marks ∷ Owed ((1180591620717411303424, One) ∷ []) live_tf 0 true ∷ Owed ((147573952589701939200, One) ∷ []) live_tf 0 true ∷ Owed ((18446744073709551616, One) ∷ (3795417808670146011137, One) ∷ []) live_tff 0 true ∷ Owed ((4398046511104, One) ∷ []) live_tf 0 true ∷ Owed ((23058430092136939520, One) ∷ []) live_tf 0 true ∷ Owed ((32281802128991715328, One) ∷ []) live_tf 0 true ∷ Owed ((32281802128991715328, One) ∷ (9441659810243579673591, One) ∷ []) live_tff 0 true ∷ Owed ((16384, One) ∷ []) live_tf 1 true ∷ Owed ((1970330742558208, One) ∷ []) live_tf 0 true ∷ Owed ((9444732965737142943742, One) ∷ []) live_tf 0 true ∷ Owed ((4123168604160, One) ∷ []) live_tf 0 true ∷ Owed ((216172782113783808, One) ∷ []) live_tf 1 true ∷ Owed ((2251799813685248, One) ∷ []) live_tf 0 true ∷ []) 1 ∷
    DueOf (Owed ((211106233065472, One) ∷ []) live_tf 0 false ∷ Owed ((2434970217729660813312, One) ∷ []) live_tf 0 false ∷ Marks ∷ Owed ((1180591620717411303424, One) ∷ []) live_tf 0 true ∷ Owed ((100663296, One) ∷ []) live_tf 0 true ∷ Owed ((147573952589701939200, One) ∷ []) live_tf 0 true ∷ Owed ((18446744073709551616, One) ∷ (3795417808670146011137, One) ∷ []) live_tff 0 true ∷ Owed ((4398046511104, One) ∷ []) live_tf 0 true ∷ Owed ((1970324836974592, One) ∷ []) live_tf 0 true ∷ Owed ((23058430092136939520, One) ∷ []) live_tf 0 true ∷ Owed ((32281802128991715328, One) ∷ []) live_tf 0 true ∷ Owed ((32281802128991715328, One) ∷ (9441659810243579673591, One) ∷ []) live_tff 0 true ∷ Owed ((16384, One) ∷ []) live_tf 1 true ∷ Owed ((1970330742558208, One) ∷ []) live_tf 0 true ∷ Owed ((4123168604160, One) ∷ []) live_tf 0 true ∷ Owed ((216172782113783808, One) ∷ []) live_tf 1 true ∷ Owed ((270215977642229760, One) ∷ []) live_tf 0 true ∷ Owed ((4323455642275676160, One) ∷ []) live_tf 0 true ∷ []) 1 ∷
    DueOf (Owed ((211106233065472, One) ∷ []) live_tf 0 false ∷ Owed ((2434970217729660813312, One) ∷ []) live_tf 0 false ∷ Marks ∷ Owed ((1180591620717411303424, One) ∷ []) live_tf 0 true ∷ Owed ((100663296, One) ∷ []) live_tf 0 true ∷ Owed ((147573952589701939200, One) ∷ []) live_tf 0 true ∷ Owed ((18446744073709551616, One) ∷ (3795417808670146011137, One) ∷ []) live_tff 0 true ∷ Owed ((4398046511104, One) ∷ []) live_tf 0 true ∷ Owed ((1970324836974592, One) ∷ []) live_tf 0 true ∷ Owed ((23058430092136939520, One) ∷ []) live_tf 0 true ∷ Owed ((32281802128991715328, One) ∷ (9441659810243579673591, One) ∷ []) live_tff 0 true ∷ Owed ((16384, One) ∷ []) live_tf 1 true ∷ Owed ((1970330742558208, One) ∷ []) live_tf 0 true ∷ Owed ((4123168604160, One) ∷ []) live_tf 0 true ∷ Owed ((216172782113783808, One) ∷ []) live_tf 1 true ∷ Owed ((270215977642229760, One) ∷ []) live_tf 0 true ∷ Owed ((4323455642275676160, One) ∷ []) live_tf 0 true ∷ []) 1 ∷
    DueOf (Owed ((211106233065472, One) ∷ []) live_tf 0 false ∷ Owed ((2434970217729660813312, One) ∷ []) live_tf 0 false ∷ Marks ∷ Owed ((1180591620717411303424, One) ∷ []) live_tf 0 true ∷ Owed ((100663296, One) ∷ []) live_tf 0 true ∷ Owed ((147573952589701939200, One) ∷ []) live_tf 0 true ∷ Owed ((18446744073709551616, One) ∷ (3795417808670146011137, One) ∷ []) live_tff 0 true ∷ Owed ((4398046511104, One) ∷ []) live_tf 0 true ∷ Owed ((1970324836974592, One) ∷ []) live_tf 0 true ∷ Owed ((23058430092136939520, One) ∷ []) live_tf 0 true ∷ Owed ((32281802128991715328, One) ∷ []) live_tf 0 true ∷ Owed ((32281802128991715328, One) ∷ (9441659810243579673591, One) ∷ []) live_tff 0 true ∷ Owed ((16384, One) ∷ []) live_tf 1 true ∷ Owed ((1970330742558208, One) ∷ []) live_tf 0 true ∷ Owed ((4123168604160, One) ∷ []) live_tf 0 true ∷ Owed ((216172782113783808, One) ∷ []) live_tf 1 true ∷ Owed ((270215977642229760, One) ∷ []) live_tf 0 true ∷ Owed ((4323455642275676160, One) ∷ []) live_tf 0 true ∷ Owed ((2251801961168954, One) ∷ []) live_tf 0 true ∷ []) 1 ∷
    DueOf (Owed ((211106233065472, One) ∷ []) live_tf 0 false ∷ Owed ((2434970217729660813312, One) ∷ []) live_tf 0 false ∷ Marks ∷ Owed ((1180591620717411303424, One) ∷ []) live_tf 0 true ∷ Owed ((100663296, One) ∷ []) live_tf 0 true ∷ Owed ((147573952589701939200, One) ∷ []) live_tf 0 true ∷ Owed ((18446744073709551616, One) ∷ (3795417808670146011137, One) ∷ []) live_tff 0 true ∷ Owed ((4398046511104, One) ∷ []) live_tf 0 true ∷ Owed ((23058430092136939520, One) ∷ []) live_tf 0 true ∷ Owed ((32281802128991715328, One) ∷ []) live_tf 0 true ∷ Owed ((32281802128991715328, One) ∷ (9441659810243579673591, One) ∷ []) live_tff 0 true ∷ Owed ((16384, One) ∷ []) live_tf 1 true ∷ Owed ((1970330742558208, One) ∷ []) live_tf 0 true ∷ Owed ((4123168604160, One) ∷ []) live_tf 0 true ∷ Owed ((216172782113783808, One) ∷ []) live_tf 1 true ∷ Owed ((270215977642229760, One) ∷ []) live_tf 0 true ∷ Owed ((4323455642275676160, One) ∷ []) live_tf 0 true ∷ Owed ((2251799813685248, One) ∷ []) live_tf 0 true ∷ Owed ((2251799813685248, One) ∷ []) live_tf 0 true ∷ Owed ((2147483706, One) ∷ []) live_tf 0 true ∷ []) 1 ∷
    DueOf (Owed ((211106233065472, One) ∷ []) live_tf 0 false ∷ Owed ((2434970217729660813312, One) ∷ []) live_tf 0 false ∷ Marks ∷ Owed ((1180591620717411303424, One) ∷ []) live_tf 0 true ∷ Owed ((100663296, One) ∷ []) live_tf 0 true ∷ Owed ((147573952589701939200, One) ∷ []) live_tf 0 true ∷ Owed ((18446744073709551616, One) ∷ (3795417808670146011137, One) ∷ []) live_tff 0 true ∷ Owed ((4398046511104, One) ∷ []) live_tf 0 true ∷ Owed ((23058430092136939520, One) ∷ []) live_tf 0 true ∷ Owed ((32281802128991715328, One) ∷ []) live_tf 0 true ∷ Owed ((32281802128991715328, One) ∷ (9441659810243579673591, One) ∷ []) live_tff 0 true ∷ Owed ((16384, One) ∷ []) live_tf 1 true ∷ Owed ((1970330742558208, One) ∷ []) live_tf 0 true ∷ Owed ((2147483648, One) ∷ []) live_tf 0 true ∷ Owed ((4123168604160, One) ∷ []) live_tf 0 true ∷ Owed ((216172782113783808, One) ∷ []) live_tf 1 true ∷ Owed ((270215977642229760, One) ∷ []) live_tf 0 true ∷ Owed ((4323455642275676160, One) ∷ []) live_tf 0 true ∷ Owed ((2251799813685248, One) ∷ []) live_tf 0 true ∷ []) 1 ∷
    DueOf (Owed ((32281802128991715328, One) ∷ (9441659810243579673591, One) ∷ []) live_ftf 0 true ∷ []) 1 ∷
    DueOf (Owed ((164, One) ∷ (295147905179352825856, One) ∷ []) live_ftf 0 true ∷ []) 1 ∷
    DueOf (Owed ((13510798882111488, One) ∷ (2251799813685248, One) ∷ []) live_ftf 0 true ∷ Owed ((13510798882111488, One) ∷ (4398046511104, One) ∷ (2251799813685248, One) ∷ []) live_ftff 0 true ∷ []) 1 ∷
    DueOf (Owed ((13510798882111488, One) ∷ (2251799813685248, One) ∷ []) live_ftf 0 true ∷ Owed ((13510798882111488, One) ∷ (4398046511104, One) ∷ (2251799813685248, One) ∷ []) live_ftff 0 true ∷ []) 1 ∷
    DueOf (Owed ((4398046511104, One) ∷ (2251799813685248, One) ∷ []) live_ftf 1 true ∷ []) 0 ∷
    DueOf (Owed ((18446744073709551616, One) ∷ (3795417808670146011137, One) ∷ []) live_ftf 0 true ∷ []) 1 ∷
    DueOf (Owed ((13510798882111488, One) ∷ (4398046511104, One) ∷ (2251799813685248, One) ∷ []) live_fftf 0 true ∷ []) 1 ∷
    DueOf (Owed ((13510798882111488, One) ∷ (4398046511104, One) ∷ (2251799813685248, One) ∷ []) live_fftf 0 true ∷ []) 1 ∷
    []

unfoldable pub reads : List (List (ℕ × ℕ))
reads =
    ((0, 0) ∷ (0, 0) ∷ (0, 0) ∷ (0, 0) ∷ (0, 0) ∷ (0, 0) ∷ (0, 0) ∷ (0, 0) ∷ (0, 0) ∷ (0, 0) ∷ (0, 0) ∷ (0, 0) ∷ (0, 0) ∷ (0, 0) ∷ (0, 0) ∷ (0, 0) ∷ (0, 0) ∷ (0, 0) ∷ (0, 0) ∷ (0, 0) ∷ (0, 0) ∷ (0, 0) ∷ (0, 0) ∷ (0, 0) ∷ (0, 0) ∷ (0, 0) ∷ (0, 0) ∷ (0, 0) ∷ (0, 0) ∷ (0, 0) ∷ (0, 0) ∷ (0, 0) ∷ (0, 0) ∷ (0, 0) ∷ (0, 0) ∷ (0, 0) ∷ (0, 0) ∷ (0, 0) ∷ (0, 0) ∷ (0, 0) ∷ (0, 0) ∷ (0, 0) ∷ (0, 0) ∷ (0, 0) ∷ (0, 0) ∷ (0, 0) ∷ (0, 0) ∷ (0, 0) ∷ (0, 0) ∷ (0, 0) ∷ (0, 0) ∷ (0, 0) ∷ (0, 0) ∷ (0, 0) ∷ (0, 0) ∷ (0, 0) ∷ (0, 0) ∷ (0, 0) ∷ (0, 0) ∷ (0, 0) ∷ (0, 0) ∷ (0, 0) ∷ (0, 0) ∷ (0, 0) ∷ (0, 0) ∷ (0, 0) ∷ (0, 0) ∷ (0, 0) ∷ (0, 0) ∷ (0, 0) ∷ (0, 0) ∷ (0, 0) ∷ (0, 0) ∷ []) ∷
    ((1, 1) ∷ (1, 1) ∷ (1, 1) ∷ (1, 1) ∷ (1, 1) ∷ (1, 1) ∷ (1, 1) ∷ (1, 1) ∷ (1, 1) ∷ (1, 1) ∷ (1, 1) ∷ (1, 1) ∷ (1, 1) ∷ (1, 1) ∷ (1, 1) ∷ (1, 1) ∷ (1, 1) ∷ (1, 1) ∷ (1, 1) ∷ (1, 1) ∷ (1, 1) ∷ (1, 1) ∷ (1, 1) ∷ (1, 1) ∷ (1, 1) ∷ (1, 1) ∷ (1, 1) ∷ (1, 1) ∷ (1, 1) ∷ (1, 1) ∷ (1, 1) ∷ (1, 1) ∷ (1, 1) ∷ (1, 1) ∷ (1, 1) ∷ (1, 1) ∷ (1, 1) ∷ (1, 1) ∷ (1, 1) ∷ (1, 1) ∷ (1, 1) ∷ (1, 1) ∷ (1, 1) ∷ (1, 1) ∷ (1, 1) ∷ (1, 1) ∷ (1, 1) ∷ (1, 1) ∷ (1, 1) ∷ (1, 1) ∷ (1, 1) ∷ (1, 1) ∷ (1, 1) ∷ (1, 1) ∷ (1, 1) ∷ (1, 1) ∷ (1, 1) ∷ (1, 1) ∷ (1, 1) ∷ (1, 1) ∷ (1, 1) ∷ (1, 1) ∷ (1, 1) ∷ (1, 1) ∷ (1, 1) ∷ (1, 1) ∷ (1, 1) ∷ (1, 1) ∷ (1, 1) ∷ (1, 1) ∷ (1, 1) ∷ (1, 1) ∷ (1, 1) ∷ []) ∷
    ((2, 2) ∷ (2, 2) ∷ (2, 2) ∷ (2, 2) ∷ (2, 2) ∷ (2, 2) ∷ (2, 2) ∷ (2, 2) ∷ (2, 2) ∷ (2, 2) ∷ (2, 2) ∷ (2, 2) ∷ (2, 2) ∷ (2, 2) ∷ (2, 2) ∷ (2, 2) ∷ (2, 2) ∷ (2, 2) ∷ (2, 2) ∷ (2, 2) ∷ (2, 2) ∷ (2, 2) ∷ (2, 2) ∷ (2, 2) ∷ (2, 2) ∷ (2, 2) ∷ (2, 2) ∷ (2, 2) ∷ (2, 2) ∷ (2, 2) ∷ (2, 2) ∷ (2, 2) ∷ (2, 2) ∷ (2, 2) ∷ (2, 2) ∷ (2, 2) ∷ (2, 2) ∷ (2, 2) ∷ (2, 2) ∷ (2, 2) ∷ (2, 2) ∷ (2, 2) ∷ (2, 2) ∷ (2, 2) ∷ (2, 2) ∷ (2, 2) ∷ (2, 2) ∷ (2, 2) ∷ (2, 2) ∷ (2, 2) ∷ (2, 2) ∷ (2, 2) ∷ (2, 2) ∷ (2, 2) ∷ (2, 2) ∷ (2, 2) ∷ (2, 2) ∷ (2, 2) ∷ (2, 2) ∷ (2, 2) ∷ (2, 2) ∷ (2, 2) ∷ (2, 2) ∷ (2, 2) ∷ (2, 2) ∷ (2, 2) ∷ (2, 2) ∷ (2, 2) ∷ (2, 2) ∷ (2, 2) ∷ (2, 2) ∷ (2, 2) ∷ (2, 2) ∷ []) ∷
    ((1, 1) ∷ (1, 1) ∷ (1, 1) ∷ (1, 1) ∷ (1, 1) ∷ (1, 1) ∷ (1, 1) ∷ (1, 1) ∷ (1, 1) ∷ (0, 0) ∷ (0, 0) ∷ (0, 0) ∷ (1, 1) ∷ (0, 0) ∷ (1, 1) ∷ (0, 0) ∷ (0, 0) ∷ (1, 0) ∷ (0, 0) ∷ (0, 0) ∷ (1, 1) ∷ (1, 1) ∷ (1, 1) ∷ (0, 0) ∷ (0, 0) ∷ (1, 1) ∷ (1, 1) ∷ (1, 1) ∷ (1, 1) ∷ (0, 0) ∷ (0, 0) ∷ (1, 1) ∷ (0, 0) ∷ (1, 1) ∷ (1, 1) ∷ (1, 1) ∷ (1, 1) ∷ (1, 1) ∷ (0, 0) ∷ (0, 0) ∷ (0, 0) ∷ (0, 0) ∷ (0, 0) ∷ (1, 1) ∷ (1, 1) ∷ (1, 1) ∷ (0, 0) ∷ (0, 0) ∷ (0, 0) ∷ (0, 0) ∷ (0, 0) ∷ (1, 1) ∷ (1, 1) ∷ (1, 1) ∷ (1, 1) ∷ (1, 1) ∷ (1, 1) ∷ (1, 1) ∷ (1, 1) ∷ (1, 1) ∷ (1, 1) ∷ (1, 1) ∷ (0, 0) ∷ (61, 61) ∷ (0, 0) ∷ (1, 1) ∷ (0, 0) ∷ (0, 0) ∷ (1, 1) ∷ (1, 1) ∷ (0, 0) ∷ (0, 0) ∷ (1, 0) ∷ []) ∷
    ((1, 1) ∷ (0, 0) ∷ (1, 1) ∷ (0, 0) ∷ (0, 0) ∷ (0, 0) ∷ (1, 1) ∷ (1, 1) ∷ (1, 1) ∷ (0, 0) ∷ (0, 0) ∷ (0, 0) ∷ (1, 1) ∷ (0, 0) ∷ (1, 1) ∷ (0, 0) ∷ (0, 0) ∷ (0, 0) ∷ (0, 0) ∷ (0, 0) ∷ (1, 1) ∷ (1, 1) ∷ (1, 1) ∷ (0, 0) ∷ (0, 0) ∷ (0, 0) ∷ (0, 0) ∷ (1, 1) ∷ (1, 1) ∷ (0, 0) ∷ (0, 0) ∷ (0, 0) ∷ (0, 0) ∷ (1, 1) ∷ (1, 1) ∷ (1, 1) ∷ (0, 0) ∷ (0, 0) ∷ (0, 0) ∷ (0, 0) ∷ (0, 0) ∷ (0, 0) ∷ (0, 0) ∷ (1, 1) ∷ (1, 1) ∷ (1, 1) ∷ (0, 0) ∷ (0, 0) ∷ (0, 0) ∷ (0, 0) ∷ (0, 0) ∷ (0, 0) ∷ (0, 0) ∷ (1, 1) ∷ (0, 0) ∷ (0, 0) ∷ (1, 1) ∷ (1, 1) ∷ (0, 0) ∷ (0, 0) ∷ (0, 0) ∷ (0, 0) ∷ (0, 0) ∷ (0, 0) ∷ (0, 0) ∷ (1, 1) ∷ (0, 0) ∷ (0, 0) ∷ (1, 1) ∷ (1, 1) ∷ (0, 0) ∷ (0, 0) ∷ (0, 0) ∷ []) ∷
    ((1, 1) ∷ (1, 1) ∷ (62, 62) ∷ (1, 1) ∷ (1, 1) ∷ (62, 62) ∷ (1, 1) ∷ (62, 62) ∷ (1, 1) ∷ (0, 0) ∷ (0, 0) ∷ (0, 0) ∷ (1, 1) ∷ (0, 0) ∷ (1, 1) ∷ (0, 0) ∷ (0, 0) ∷ (1, 0) ∷ (0, 0) ∷ (0, 0) ∷ (1, 1) ∷ (1, 1) ∷ (1, 1) ∷ (0, 0) ∷ (0, 0) ∷ (0, 0) ∷ (0, 0) ∷ (1, 1) ∷ (1, 1) ∷ (0, 0) ∷ (0, 0) ∷ (1, 1) ∷ (0, 0) ∷ (1, 1) ∷ (1, 1) ∷ (1, 1) ∷ (1, 1) ∷ (1, 1) ∷ (0, 0) ∷ (0, 0) ∷ (0, 0) ∷ (0, 0) ∷ (0, 0) ∷ (1, 1) ∷ (1, 1) ∷ (1, 1) ∷ (0, 0) ∷ (0, 0) ∷ (0, 0) ∷ (0, 0) ∷ (0, 0) ∷ (1, 1) ∷ (1, 1) ∷ (1, 1) ∷ (1, 1) ∷ (1, 1) ∷ (1, 1) ∷ (1, 1) ∷ (1, 1) ∷ (1, 1) ∷ (1, 1) ∷ (1, 1) ∷ (0, 0) ∷ (0, 0) ∷ (0, 0) ∷ (1, 1) ∷ (0, 0) ∷ (0, 0) ∷ (0, 0) ∷ (0, 0) ∷ (0, 0) ∷ (0, 0) ∷ (1, 0) ∷ []) ∷
    ((1, 1) ∷ (0, 0) ∷ (1, 1) ∷ (0, 0) ∷ (0, 0) ∷ (0, 0) ∷ (1, 1) ∷ (1, 1) ∷ (1, 1) ∷ (0, 0) ∷ (0, 0) ∷ (0, 0) ∷ (1, 1) ∷ (0, 0) ∷ (1, 1) ∷ (0, 0) ∷ (0, 0) ∷ (0, 0) ∷ (0, 0) ∷ (0, 0) ∷ (1, 1) ∷ (1, 1) ∷ (1, 1) ∷ (0, 0) ∷ (0, 0) ∷ (0, 0) ∷ (0, 0) ∷ (1, 1) ∷ (1, 1) ∷ (0, 0) ∷ (0, 0) ∷ (0, 0) ∷ (0, 0) ∷ (1, 1) ∷ (1, 1) ∷ (1, 1) ∷ (0, 0) ∷ (0, 0) ∷ (0, 0) ∷ (0, 0) ∷ (0, 0) ∷ (0, 0) ∷ (0, 0) ∷ (1, 1) ∷ (1, 1) ∷ (1, 1) ∷ (0, 0) ∷ (0, 0) ∷ (0, 0) ∷ (0, 0) ∷ (0, 0) ∷ (0, 0) ∷ (0, 0) ∷ (1, 1) ∷ (0, 0) ∷ (0, 0) ∷ (1, 1) ∷ (1, 1) ∷ (0, 0) ∷ (0, 0) ∷ (0, 0) ∷ (0, 0) ∷ (0, 0) ∷ (61, 61) ∷ (0, 0) ∷ (1, 1) ∷ (0, 0) ∷ (0, 0) ∷ (1, 1) ∷ (1, 1) ∷ (0, 0) ∷ (0, 0) ∷ (0, 0) ∷ []) ∷
    ((1, 1) ∷ (0, 0) ∷ (1, 1) ∷ (0, 0) ∷ (0, 0) ∷ (0, 0) ∷ (1, 1) ∷ (1, 1) ∷ (1, 1) ∷ (0, 0) ∷ (0, 0) ∷ (0, 0) ∷ (1, 1) ∷ (0, 0) ∷ (1, 1) ∷ (0, 0) ∷ (0, 0) ∷ (0, 0) ∷ (0, 0) ∷ (0, 0) ∷ (1, 1) ∷ (1, 1) ∷ (0, 0) ∷ (0, 0) ∷ (0, 0) ∷ (0, 0) ∷ (0, 0) ∷ (1, 1) ∷ (1, 1) ∷ (0, 0) ∷ (0, 0) ∷ (0, 0) ∷ (0, 0) ∷ (1, 1) ∷ (1, 1) ∷ (1, 1) ∷ (0, 0) ∷ (0, 0) ∷ (0, 0) ∷ (0, 0) ∷ (0, 0) ∷ (0, 0) ∷ (0, 0) ∷ (1, 1) ∷ (1, 1) ∷ (1, 1) ∷ (0, 0) ∷ (0, 0) ∷ (0, 0) ∷ (0, 0) ∷ (0, 0) ∷ (0, 0) ∷ (0, 0) ∷ (1, 1) ∷ (0, 0) ∷ (0, 0) ∷ (1, 1) ∷ (1, 1) ∷ (0, 0) ∷ (0, 0) ∷ (0, 0) ∷ (0, 0) ∷ (0, 0) ∷ (0, 0) ∷ (0, 0) ∷ (1, 1) ∷ (0, 0) ∷ (0, 0) ∷ (1, 1) ∷ (1, 1) ∷ (0, 0) ∷ (0, 0) ∷ (0, 0) ∷ []) ∷
    ((1, 1) ∷ (0, 0) ∷ (62, 62) ∷ (0, 0) ∷ (0, 0) ∷ (0, 0) ∷ (1, 1) ∷ (62, 62) ∷ (1, 1) ∷ (0, 0) ∷ (0, 0) ∷ (0, 0) ∷ (1, 1) ∷ (0, 0) ∷ (1, 1) ∷ (0, 0) ∷ (0, 0) ∷ (0, 0) ∷ (0, 0) ∷ (0, 0) ∷ (1, 1) ∷ (1, 1) ∷ (1, 1) ∷ (0, 0) ∷ (0, 0) ∷ (0, 0) ∷ (0, 0) ∷ (1, 1) ∷ (1, 1) ∷ (0, 0) ∷ (0, 0) ∷ (0, 0) ∷ (0, 0) ∷ (1, 1) ∷ (1, 1) ∷ (1, 1) ∷ (0, 0) ∷ (0, 0) ∷ (0, 0) ∷ (0, 0) ∷ (0, 0) ∷ (0, 0) ∷ (0, 0) ∷ (1, 1) ∷ (1, 1) ∷ (1, 1) ∷ (0, 0) ∷ (0, 0) ∷ (0, 0) ∷ (0, 0) ∷ (0, 0) ∷ (0, 0) ∷ (0, 0) ∷ (1, 1) ∷ (0, 0) ∷ (0, 0) ∷ (1, 1) ∷ (1, 1) ∷ (0, 0) ∷ (0, 0) ∷ (0, 0) ∷ (0, 0) ∷ (0, 0) ∷ (0, 0) ∷ (0, 0) ∷ (1, 1) ∷ (0, 0) ∷ (0, 0) ∷ (0, 0) ∷ (0, 0) ∷ (0, 0) ∷ (0, 0) ∷ (0, 0) ∷ []) ∷
    ((1, 1) ∷ (1, 1) ∷ (0, 0) ∷ (1, 1) ∷ (1, 1) ∷ (0, 0) ∷ (1, 1) ∷ (0, 0) ∷ (1, 1) ∷ (0, 0) ∷ (0, 0) ∷ (0, 0) ∷ (1, 1) ∷ (0, 0) ∷ (1, 1) ∷ (0, 0) ∷ (0, 0) ∷ (1, 0) ∷ (0, 0) ∷ (0, 0) ∷ (1, 1) ∷ (1, 1) ∷ (1, 1) ∷ (0, 0) ∷ (0, 0) ∷ (0, 0) ∷ (0, 0) ∷ (1, 1) ∷ (1, 1) ∷ (0, 0) ∷ (0, 0) ∷ (1, 1) ∷ (0, 0) ∷ (1, 1) ∷ (1, 1) ∷ (1, 1) ∷ (1, 1) ∷ (1, 1) ∷ (0, 0) ∷ (0, 0) ∷ (0, 0) ∷ (0, 0) ∷ (0, 0) ∷ (1, 1) ∷ (1, 1) ∷ (1, 1) ∷ (0, 0) ∷ (0, 0) ∷ (0, 0) ∷ (0, 0) ∷ (0, 0) ∷ (1, 1) ∷ (1, 1) ∷ (1, 1) ∷ (1, 1) ∷ (1, 1) ∷ (1, 1) ∷ (1, 1) ∷ (1, 1) ∷ (1, 1) ∷ (1, 1) ∷ (1, 1) ∷ (0, 0) ∷ (0, 0) ∷ (0, 0) ∷ (1, 1) ∷ (0, 0) ∷ (0, 0) ∷ (1, 1) ∷ (1, 1) ∷ (0, 0) ∷ (0, 0) ∷ (1, 0) ∷ []) ∷
    ((1, 1) ∷ (1, 1) ∷ (1, 1) ∷ (1, 1) ∷ (1, 1) ∷ (1, 1) ∷ (1, 1) ∷ (1, 1) ∷ (0, 0) ∷ (0, 0) ∷ (0, 0) ∷ (0, 0) ∷ (1, 1) ∷ (0, 0) ∷ (1, 1) ∷ (0, 0) ∷ (0, 0) ∷ (1, 0) ∷ (0, 0) ∷ (0, 0) ∷ (1, 1) ∷ (1, 1) ∷ (1, 1) ∷ (0, 0) ∷ (0, 0) ∷ (0, 0) ∷ (0, 0) ∷ (1, 1) ∷ (1, 1) ∷ (0, 0) ∷ (0, 0) ∷ (1, 1) ∷ (0, 0) ∷ (1, 1) ∷ (1, 1) ∷ (1, 1) ∷ (1, 1) ∷ (1, 1) ∷ (0, 0) ∷ (0, 0) ∷ (0, 0) ∷ (0, 0) ∷ (0, 0) ∷ (1, 1) ∷ (1, 1) ∷ (1, 1) ∷ (0, 0) ∷ (0, 0) ∷ (0, 0) ∷ (0, 0) ∷ (0, 0) ∷ (1, 1) ∷ (1, 1) ∷ (1, 1) ∷ (1, 1) ∷ (1, 1) ∷ (1, 1) ∷ (1, 1) ∷ (1, 1) ∷ (1, 1) ∷ (1, 1) ∷ (1, 1) ∷ (0, 0) ∷ (0, 0) ∷ (0, 0) ∷ (1, 1) ∷ (0, 0) ∷ (0, 0) ∷ (1, 1) ∷ (1, 1) ∷ (0, 0) ∷ (0, 0) ∷ (1, 0) ∷ []) ∷
    ((1, 1) ∷ (1, 1) ∷ (1, 1) ∷ (1, 1) ∷ (1, 1) ∷ (1, 1) ∷ (1, 1) ∷ (1, 1) ∷ (1, 1) ∷ (0, 0) ∷ (0, 0) ∷ (0, 0) ∷ (1, 1) ∷ (0, 0) ∷ (1, 1) ∷ (0, 0) ∷ (0, 0) ∷ (1, 0) ∷ (0, 0) ∷ (0, 0) ∷ (1, 1) ∷ (1, 1) ∷ (1, 1) ∷ (0, 0) ∷ (0, 0) ∷ (1, 1) ∷ (1, 1) ∷ (1, 1) ∷ (1, 1) ∷ (0, 0) ∷ (0, 0) ∷ (1, 1) ∷ (0, 0) ∷ (1, 1) ∷ (1, 1) ∷ (1, 1) ∷ (1, 1) ∷ (1, 1) ∷ (0, 0) ∷ (0, 0) ∷ (0, 0) ∷ (0, 0) ∷ (0, 0) ∷ (1, 1) ∷ (1, 1) ∷ (1, 1) ∷ (0, 0) ∷ (0, 0) ∷ (0, 0) ∷ (0, 0) ∷ (0, 0) ∷ (1, 1) ∷ (1, 1) ∷ (1, 1) ∷ (1, 1) ∷ (1, 1) ∷ (1, 1) ∷ (1, 1) ∷ (1, 1) ∷ (1, 1) ∷ (1, 1) ∷ (1, 1) ∷ (0, 0) ∷ (0, 0) ∷ (0, 0) ∷ (1, 1) ∷ (0, 0) ∷ (0, 0) ∷ (1, 1) ∷ (1, 1) ∷ (0, 0) ∷ (0, 0) ∷ (1, 0) ∷ []) ∷
    ((0, 0) ∷ (0, 0) ∷ (0, 0) ∷ (0, 0) ∷ (0, 0) ∷ (0, 0) ∷ (0, 0) ∷ (0, 0) ∷ (0, 0) ∷ (0, 0) ∷ (0, 0) ∷ (0, 0) ∷ (0, 0) ∷ (0, 0) ∷ (1, 1) ∷ (0, 0) ∷ (0, 0) ∷ (0, 0) ∷ (0, 0) ∷ (0, 0) ∷ (0, 0) ∷ (0, 0) ∷ (0, 0) ∷ (0, 0) ∷ (0, 0) ∷ (0, 0) ∷ (0, 0) ∷ (0, 0) ∷ (0, 0) ∷ (0, 0) ∷ (0, 0) ∷ (0, 0) ∷ (0, 0) ∷ (0, 0) ∷ (0, 0) ∷ (0, 0) ∷ (0, 0) ∷ (0, 0) ∷ (0, 0) ∷ (0, 0) ∷ (0, 0) ∷ (0, 0) ∷ (0, 0) ∷ (0, 0) ∷ (0, 0) ∷ (0, 0) ∷ (0, 0) ∷ (0, 0) ∷ (0, 0) ∷ (0, 0) ∷ (0, 0) ∷ (0, 0) ∷ (0, 0) ∷ (0, 0) ∷ (0, 0) ∷ (0, 0) ∷ (0, 0) ∷ (0, 0) ∷ (0, 0) ∷ (0, 0) ∷ (0, 0) ∷ (0, 0) ∷ (0, 0) ∷ (0, 0) ∷ (0, 0) ∷ (0, 0) ∷ (0, 0) ∷ (0, 0) ∷ (0, 0) ∷ (0, 0) ∷ (0, 0) ∷ (0, 0) ∷ (0, 0) ∷ []) ∷
    ((1, 1) ∷ (1, 1) ∷ (1, 1) ∷ (1, 1) ∷ (1, 1) ∷ (1, 1) ∷ (1, 1) ∷ (1, 1) ∷ (1, 1) ∷ (1, 1) ∷ (1, 1) ∷ (1, 1) ∷ (1, 1) ∷ (0, 0) ∷ (1, 1) ∷ (0, 0) ∷ (0, 0) ∷ (1, 0) ∷ (0, 0) ∷ (0, 0) ∷ (1, 1) ∷ (1, 1) ∷ (1, 1) ∷ (0, 0) ∷ (0, 0) ∷ (0, 0) ∷ (0, 0) ∷ (1, 1) ∷ (1, 1) ∷ (1, 1) ∷ (1, 1) ∷ (1, 1) ∷ (1, 1) ∷ (1, 1) ∷ (1, 1) ∷ (1, 1) ∷ (1, 1) ∷ (1, 1) ∷ (1, 1) ∷ (1, 1) ∷ (1, 1) ∷ (1, 1) ∷ (0, 0) ∷ (1, 1) ∷ (1, 1) ∷ (1, 1) ∷ (0, 0) ∷ (0, 0) ∷ (1, 1) ∷ (1, 1) ∷ (1, 1) ∷ (1, 1) ∷ (1, 1) ∷ (1, 1) ∷ (1, 1) ∷ (1, 1) ∷ (1, 1) ∷ (1, 1) ∷ (1, 1) ∷ (1, 1) ∷ (1, 1) ∷ (1, 1) ∷ (0, 0) ∷ (0, 0) ∷ (0, 0) ∷ (1, 1) ∷ (0, 0) ∷ (0, 0) ∷ (1, 1) ∷ (1, 1) ∷ (0, 0) ∷ (0, 0) ∷ (1, 0) ∷ []) ∷
    ((1, 1) ∷ (1, 1) ∷ (1, 1) ∷ (1, 1) ∷ (1, 1) ∷ (1, 1) ∷ (1, 1) ∷ (1, 1) ∷ (1, 1) ∷ (0, 0) ∷ (0, 0) ∷ (0, 0) ∷ (1, 1) ∷ (0, 0) ∷ (1, 1) ∷ (0, 0) ∷ (0, 0) ∷ (1, 0) ∷ (0, 0) ∷ (0, 0) ∷ (1, 1) ∷ (1, 1) ∷ (1, 1) ∷ (0, 0) ∷ (0, 0) ∷ (0, 0) ∷ (0, 0) ∷ (1, 1) ∷ (1, 1) ∷ (0, 0) ∷ (0, 0) ∷ (1, 1) ∷ (0, 0) ∷ (1, 1) ∷ (1, 1) ∷ (1, 1) ∷ (1, 1) ∷ (1, 1) ∷ (0, 0) ∷ (0, 0) ∷ (0, 0) ∷ (0, 0) ∷ (0, 0) ∷ (1, 1) ∷ (1, 1) ∷ (1, 1) ∷ (0, 0) ∷ (0, 0) ∷ (0, 0) ∷ (0, 0) ∷ (0, 0) ∷ (1, 1) ∷ (1, 1) ∷ (1, 1) ∷ (1, 1) ∷ (1, 1) ∷ (1, 1) ∷ (1, 1) ∷ (1, 1) ∷ (1, 1) ∷ (1, 1) ∷ (1, 1) ∷ (0, 0) ∷ (0, 0) ∷ (0, 0) ∷ (1, 1) ∷ (0, 0) ∷ (0, 0) ∷ (1, 1) ∷ (1, 1) ∷ (0, 0) ∷ (0, 0) ∷ (1, 0) ∷ []) ∷
    ((1, 1) ∷ (1, 1) ∷ (1, 1) ∷ (1, 1) ∷ (1, 1) ∷ (1, 1) ∷ (1, 1) ∷ (1, 1) ∷ (1, 1) ∷ (0, 0) ∷ (0, 0) ∷ (0, 0) ∷ (1, 1) ∷ (0, 0) ∷ (1, 1) ∷ (0, 0) ∷ (0, 0) ∷ (1, 0) ∷ (0, 0) ∷ (0, 0) ∷ (1, 1) ∷ (1, 1) ∷ (1, 1) ∷ (0, 0) ∷ (0, 0) ∷ (0, 0) ∷ (0, 0) ∷ (1, 1) ∷ (1, 1) ∷ (0, 0) ∷ (0, 0) ∷ (1, 1) ∷ (0, 0) ∷ (1, 1) ∷ (1, 1) ∷ (1, 1) ∷ (1, 1) ∷ (1, 1) ∷ (0, 0) ∷ (0, 0) ∷ (0, 0) ∷ (0, 0) ∷ (0, 0) ∷ (1, 1) ∷ (1, 1) ∷ (1, 1) ∷ (0, 0) ∷ (0, 0) ∷ (0, 0) ∷ (0, 0) ∷ (0, 0) ∷ (1, 1) ∷ (1, 1) ∷ (1, 1) ∷ (1, 1) ∷ (1, 1) ∷ (1, 1) ∷ (1, 1) ∷ (1, 1) ∷ (1, 1) ∷ (1, 1) ∷ (1, 1) ∷ (0, 0) ∷ (61, 61) ∷ (0, 0) ∷ (1, 1) ∷ (0, 0) ∷ (0, 0) ∷ (1, 1) ∷ (1, 1) ∷ (0, 0) ∷ (0, 0) ∷ (1, 0) ∷ []) ∷
    ((1, 1) ∷ (0, 0) ∷ (1, 1) ∷ (0, 0) ∷ (0, 0) ∷ (0, 0) ∷ (1, 1) ∷ (1, 1) ∷ (1, 1) ∷ (0, 0) ∷ (0, 0) ∷ (0, 0) ∷ (1, 1) ∷ (0, 0) ∷ (1, 1) ∷ (0, 0) ∷ (0, 0) ∷ (0, 0) ∷ (0, 0) ∷ (0, 0) ∷ (1, 1) ∷ (1, 1) ∷ (1, 1) ∷ (0, 0) ∷ (0, 0) ∷ (0, 0) ∷ (0, 0) ∷ (1, 1) ∷ (1, 1) ∷ (0, 0) ∷ (0, 0) ∷ (0, 0) ∷ (0, 0) ∷ (1, 1) ∷ (1, 1) ∷ (1, 1) ∷ (1, 1) ∷ (1, 1) ∷ (0, 0) ∷ (0, 0) ∷ (0, 0) ∷ (0, 0) ∷ (0, 0) ∷ (1, 1) ∷ (1, 1) ∷ (1, 1) ∷ (0, 0) ∷ (0, 0) ∷ (0, 0) ∷ (0, 0) ∷ (0, 0) ∷ (0, 0) ∷ (1, 1) ∷ (1, 1) ∷ (1, 1) ∷ (1, 1) ∷ (1, 1) ∷ (1, 1) ∷ (1, 1) ∷ (1, 1) ∷ (1, 1) ∷ (1, 1) ∷ (0, 0) ∷ (0, 0) ∷ (0, 0) ∷ (1, 1) ∷ (0, 0) ∷ (0, 0) ∷ (1, 1) ∷ (1, 1) ∷ (0, 0) ∷ (0, 0) ∷ (0, 0) ∷ []) ∷
    ((2, 2) ∷ (2, 2) ∷ (2, 2) ∷ (2, 2) ∷ (2, 2) ∷ (2, 2) ∷ (2, 2) ∷ (2, 2) ∷ (2, 2) ∷ (2, 2) ∷ (2, 2) ∷ (2, 2) ∷ (2, 2) ∷ (2, 2) ∷ (2, 2) ∷ (2, 2) ∷ (2, 2) ∷ (2, 2) ∷ (2, 2) ∷ (2, 2) ∷ (2, 2) ∷ (2, 2) ∷ (2, 2) ∷ (2, 2) ∷ (2, 2) ∷ (2, 2) ∷ (2, 2) ∷ (2, 2) ∷ (2, 2) ∷ (2, 2) ∷ (2, 2) ∷ (2, 2) ∷ (2, 2) ∷ (2, 2) ∷ (2, 2) ∷ (2, 2) ∷ (2, 2) ∷ (2, 2) ∷ (2, 2) ∷ (2, 2) ∷ (2, 2) ∷ (2, 2) ∷ (2, 2) ∷ (2, 2) ∷ (2, 2) ∷ (2, 2) ∷ (0, 0) ∷ (2, 2) ∷ (2, 2) ∷ (2, 2) ∷ (2, 2) ∷ (2, 2) ∷ (2, 2) ∷ (2, 2) ∷ (2, 2) ∷ (2, 2) ∷ (2, 2) ∷ (2, 2) ∷ (2, 2) ∷ (2, 2) ∷ (2, 2) ∷ (2, 2) ∷ (2, 2) ∷ (2, 2) ∷ (2, 2) ∷ (2, 2) ∷ (2, 2) ∷ (2, 2) ∷ (2, 2) ∷ (2, 2) ∷ (2, 2) ∷ (2, 2) ∷ (2, 2) ∷ []) ∷
    ((1, 1) ∷ (1, 1) ∷ (1, 1) ∷ (1, 1) ∷ (1, 1) ∷ (1, 1) ∷ (1, 1) ∷ (1, 1) ∷ (1, 1) ∷ (0, 0) ∷ (0, 0) ∷ (0, 0) ∷ (1, 1) ∷ (0, 0) ∷ (1, 1) ∷ (0, 0) ∷ (0, 0) ∷ (1, 0) ∷ (0, 0) ∷ (0, 0) ∷ (1, 1) ∷ (1, 1) ∷ (0, 0) ∷ (0, 0) ∷ (0, 0) ∷ (0, 0) ∷ (0, 0) ∷ (1, 1) ∷ (1, 1) ∷ (0, 0) ∷ (0, 0) ∷ (1, 1) ∷ (0, 0) ∷ (1, 1) ∷ (1, 1) ∷ (1, 1) ∷ (1, 1) ∷ (1, 1) ∷ (0, 0) ∷ (0, 0) ∷ (0, 0) ∷ (0, 0) ∷ (0, 0) ∷ (1, 1) ∷ (1, 1) ∷ (1, 1) ∷ (0, 0) ∷ (0, 0) ∷ (0, 0) ∷ (0, 0) ∷ (0, 0) ∷ (1, 1) ∷ (1, 1) ∷ (1, 1) ∷ (0, 0) ∷ (0, 0) ∷ (1, 1) ∷ (1, 1) ∷ (1, 1) ∷ (1, 1) ∷ (1, 1) ∷ (1, 1) ∷ (0, 0) ∷ (0, 0) ∷ (0, 0) ∷ (1, 1) ∷ (0, 0) ∷ (0, 0) ∷ (1, 1) ∷ (1, 1) ∷ (0, 0) ∷ (0, 0) ∷ (1, 0) ∷ []) ∷
    ((1, 1) ∷ (1, 1) ∷ (1, 1) ∷ (1, 1) ∷ (1, 1) ∷ (1, 1) ∷ (1, 1) ∷ (1, 1) ∷ (1, 1) ∷ (0, 0) ∷ (0, 0) ∷ (0, 0) ∷ (1, 1) ∷ (0, 0) ∷ (1, 1) ∷ (0, 0) ∷ (0, 0) ∷ (1, 0) ∷ (0, 0) ∷ (0, 0) ∷ (1, 1) ∷ (1, 1) ∷ (0, 0) ∷ (0, 0) ∷ (0, 0) ∷ (0, 0) ∷ (0, 0) ∷ (1, 1) ∷ (1, 1) ∷ (0, 0) ∷ (0, 0) ∷ (1, 1) ∷ (0, 0) ∷ (1, 1) ∷ (1, 1) ∷ (1, 1) ∷ (1, 1) ∷ (1, 1) ∷ (0, 0) ∷ (0, 0) ∷ (0, 0) ∷ (0, 0) ∷ (0, 0) ∷ (1, 1) ∷ (1, 1) ∷ (1, 1) ∷ (0, 0) ∷ (0, 0) ∷ (0, 0) ∷ (0, 0) ∷ (0, 0) ∷ (1, 1) ∷ (1, 1) ∷ (1, 1) ∷ (0, 0) ∷ (0, 0) ∷ (1, 1) ∷ (1, 1) ∷ (1, 1) ∷ (1, 1) ∷ (1, 1) ∷ (1, 1) ∷ (0, 0) ∷ (61, 61) ∷ (0, 0) ∷ (1, 1) ∷ (0, 0) ∷ (0, 0) ∷ (1, 1) ∷ (1, 1) ∷ (0, 0) ∷ (0, 0) ∷ (1, 0) ∷ []) ∷
    ((1, 1) ∷ (1, 1) ∷ (1, 1) ∷ (1, 1) ∷ (1, 1) ∷ (1, 1) ∷ (1, 1) ∷ (1, 1) ∷ (1, 1) ∷ (0, 0) ∷ (0, 0) ∷ (0, 0) ∷ (1, 1) ∷ (0, 0) ∷ (1, 1) ∷ (0, 0) ∷ (0, 0) ∷ (1, 0) ∷ (0, 0) ∷ (0, 0) ∷ (1, 1) ∷ (1, 1) ∷ (1, 1) ∷ (0, 0) ∷ (0, 0) ∷ (0, 0) ∷ (0, 0) ∷ (1, 1) ∷ (1, 1) ∷ (0, 0) ∷ (0, 0) ∷ (1, 1) ∷ (0, 0) ∷ (1, 1) ∷ (1, 1) ∷ (1, 1) ∷ (1, 1) ∷ (1, 1) ∷ (0, 0) ∷ (0, 0) ∷ (0, 0) ∷ (0, 0) ∷ (0, 0) ∷ (1, 1) ∷ (1, 1) ∷ (1, 1) ∷ (0, 0) ∷ (0, 0) ∷ (0, 0) ∷ (0, 0) ∷ (0, 0) ∷ (1, 1) ∷ (1, 1) ∷ (1, 1) ∷ (0, 0) ∷ (0, 0) ∷ (1, 1) ∷ (1, 1) ∷ (1, 1) ∷ (1, 1) ∷ (1, 1) ∷ (1, 1) ∷ (0, 0) ∷ (61, 61) ∷ (0, 0) ∷ (1, 1) ∷ (0, 0) ∷ (0, 0) ∷ (1, 1) ∷ (1, 1) ∷ (0, 0) ∷ (0, 0) ∷ (1, 0) ∷ []) ∷
    ((1, 1) ∷ (1, 1) ∷ (1, 1) ∷ (1, 1) ∷ (1, 1) ∷ (1, 1) ∷ (1, 1) ∷ (1, 1) ∷ (1, 1) ∷ (0, 0) ∷ (0, 0) ∷ (0, 0) ∷ (1, 1) ∷ (0, 0) ∷ (1, 1) ∷ (0, 0) ∷ (0, 0) ∷ (1, 0) ∷ (0, 0) ∷ (0, 0) ∷ (1, 1) ∷ (1, 1) ∷ (1, 1) ∷ (0, 0) ∷ (0, 0) ∷ (0, 0) ∷ (0, 0) ∷ (1, 1) ∷ (1, 1) ∷ (0, 0) ∷ (0, 0) ∷ (1, 1) ∷ (0, 0) ∷ (1, 1) ∷ (1, 1) ∷ (1, 1) ∷ (1, 1) ∷ (1, 1) ∷ (0, 0) ∷ (0, 0) ∷ (0, 0) ∷ (0, 0) ∷ (0, 0) ∷ (1, 1) ∷ (1, 1) ∷ (1, 1) ∷ (0, 0) ∷ (0, 0) ∷ (0, 0) ∷ (0, 0) ∷ (0, 0) ∷ (1, 1) ∷ (1, 1) ∷ (1, 1) ∷ (1, 1) ∷ (1, 1) ∷ (1, 1) ∷ (1, 1) ∷ (1, 1) ∷ (1, 1) ∷ (1, 1) ∷ (1, 1) ∷ (0, 0) ∷ (0, 0) ∷ (0, 0) ∷ (1, 1) ∷ (0, 0) ∷ (0, 0) ∷ (1, 1) ∷ (1, 1) ∷ (0, 0) ∷ (0, 0) ∷ (1, 0) ∷ []) ∷
    ((1, 1) ∷ (1, 1) ∷ (1, 1) ∷ (1, 1) ∷ (1, 1) ∷ (1, 1) ∷ (1, 1) ∷ (1, 1) ∷ (1, 1) ∷ (0, 0) ∷ (0, 0) ∷ (0, 0) ∷ (1, 1) ∷ (0, 0) ∷ (1, 1) ∷ (0, 0) ∷ (0, 0) ∷ (1, 0) ∷ (0, 0) ∷ (0, 0) ∷ (1, 1) ∷ (1, 1) ∷ (1, 1) ∷ (0, 0) ∷ (0, 0) ∷ (0, 0) ∷ (0, 0) ∷ (1, 1) ∷ (1, 1) ∷ (0, 0) ∷ (0, 0) ∷ (1, 1) ∷ (0, 0) ∷ (1, 1) ∷ (1, 1) ∷ (1, 1) ∷ (1, 1) ∷ (1, 1) ∷ (0, 0) ∷ (0, 0) ∷ (0, 0) ∷ (0, 0) ∷ (0, 0) ∷ (1, 1) ∷ (1, 1) ∷ (1, 1) ∷ (0, 0) ∷ (0, 0) ∷ (0, 0) ∷ (0, 0) ∷ (0, 0) ∷ (1, 1) ∷ (1, 1) ∷ (1, 1) ∷ (1, 1) ∷ (1, 1) ∷ (1, 1) ∷ (1, 1) ∷ (1, 1) ∷ (1, 1) ∷ (1, 1) ∷ (1, 1) ∷ (0, 0) ∷ (61, 61) ∷ (0, 0) ∷ (1, 1) ∷ (0, 0) ∷ (0, 0) ∷ (1, 1) ∷ (1, 1) ∷ (0, 0) ∷ (0, 0) ∷ (1, 0) ∷ []) ∷
    ((1, 1) ∷ (1, 1) ∷ (1, 1) ∷ (1, 1) ∷ (1, 1) ∷ (1, 1) ∷ (1, 1) ∷ (1, 1) ∷ (1, 1) ∷ (0, 0) ∷ (0, 0) ∷ (0, 0) ∷ (1, 1) ∷ (0, 0) ∷ (1, 1) ∷ (0, 0) ∷ (0, 0) ∷ (1, 0) ∷ (0, 0) ∷ (0, 0) ∷ (1, 1) ∷ (1, 1) ∷ (1, 1) ∷ (0, 0) ∷ (0, 0) ∷ (0, 0) ∷ (0, 0) ∷ (1, 1) ∷ (1, 1) ∷ (0, 0) ∷ (0, 0) ∷ (1, 1) ∷ (0, 0) ∷ (1, 1) ∷ (1, 1) ∷ (1, 1) ∷ (1, 1) ∷ (1, 1) ∷ (0, 0) ∷ (0, 0) ∷ (0, 0) ∷ (0, 0) ∷ (0, 0) ∷ (1, 1) ∷ (0, 0) ∷ (0, 0) ∷ (0, 0) ∷ (0, 0) ∷ (0, 0) ∷ (0, 0) ∷ (0, 0) ∷ (1, 1) ∷ (1, 1) ∷ (1, 1) ∷ (0, 0) ∷ (0, 0) ∷ (1, 1) ∷ (1, 1) ∷ (1, 1) ∷ (1, 1) ∷ (1, 1) ∷ (1, 1) ∷ (0, 0) ∷ (61, 61) ∷ (0, 0) ∷ (1, 1) ∷ (0, 0) ∷ (0, 0) ∷ (1, 1) ∷ (1, 1) ∷ (0, 0) ∷ (0, 0) ∷ (1, 0) ∷ []) ∷
    ((1, 1) ∷ (1, 1) ∷ (1, 1) ∷ (1, 1) ∷ (1, 1) ∷ (1, 1) ∷ (1, 1) ∷ (1, 1) ∷ (1, 1) ∷ (0, 0) ∷ (0, 0) ∷ (0, 0) ∷ (1, 1) ∷ (0, 0) ∷ (1, 1) ∷ (0, 0) ∷ (0, 0) ∷ (1, 0) ∷ (0, 0) ∷ (0, 0) ∷ (1, 1) ∷ (1, 1) ∷ (1, 1) ∷ (0, 0) ∷ (0, 0) ∷ (0, 0) ∷ (0, 0) ∷ (1, 1) ∷ (1, 1) ∷ (0, 0) ∷ (0, 0) ∷ (1, 1) ∷ (0, 0) ∷ (1, 1) ∷ (1, 1) ∷ (1, 1) ∷ (1, 1) ∷ (1, 1) ∷ (0, 0) ∷ (0, 0) ∷ (0, 0) ∷ (0, 0) ∷ (0, 0) ∷ (1, 1) ∷ (0, 0) ∷ (1, 1) ∷ (0, 0) ∷ (0, 0) ∷ (0, 0) ∷ (0, 0) ∷ (0, 0) ∷ (1, 1) ∷ (1, 1) ∷ (1, 1) ∷ (0, 0) ∷ (0, 0) ∷ (1, 1) ∷ (1, 1) ∷ (1, 1) ∷ (1, 1) ∷ (1, 1) ∷ (1, 1) ∷ (0, 0) ∷ (61, 61) ∷ (0, 0) ∷ (1, 1) ∷ (0, 0) ∷ (0, 0) ∷ (1, 1) ∷ (1, 1) ∷ (0, 0) ∷ (0, 0) ∷ (1, 0) ∷ []) ∷
    ((1, 1) ∷ (0, 0) ∷ (1, 1) ∷ (0, 0) ∷ (0, 0) ∷ (0, 0) ∷ (1, 1) ∷ (1, 1) ∷ (1, 1) ∷ (0, 0) ∷ (0, 0) ∷ (0, 0) ∷ (1, 1) ∷ (0, 0) ∷ (1, 1) ∷ (0, 0) ∷ (0, 0) ∷ (0, 0) ∷ (0, 0) ∷ (0, 0) ∷ (1, 1) ∷ (1, 1) ∷ (1, 1) ∷ (0, 0) ∷ (0, 0) ∷ (1, 1) ∷ (1, 1) ∷ (1, 1) ∷ (1, 1) ∷ (0, 0) ∷ (0, 0) ∷ (0, 0) ∷ (0, 0) ∷ (1, 1) ∷ (1, 1) ∷ (1, 1) ∷ (1, 1) ∷ (1, 1) ∷ (0, 0) ∷ (0, 0) ∷ (0, 0) ∷ (0, 0) ∷ (0, 0) ∷ (1, 1) ∷ (1, 1) ∷ (1, 1) ∷ (0, 0) ∷ (0, 0) ∷ (0, 0) ∷ (0, 0) ∷ (0, 0) ∷ (1, 1) ∷ (1, 1) ∷ (1, 1) ∷ (1, 1) ∷ (1, 1) ∷ (1, 1) ∷ (1, 1) ∷ (1, 1) ∷ (1, 1) ∷ (1, 1) ∷ (1, 1) ∷ (0, 0) ∷ (0, 0) ∷ (0, 0) ∷ (1, 1) ∷ (0, 0) ∷ (0, 0) ∷ (1, 1) ∷ (1, 1) ∷ (0, 0) ∷ (0, 0) ∷ (0, 0) ∷ []) ∷
    ((1, 1) ∷ (0, 0) ∷ (1, 1) ∷ (0, 0) ∷ (0, 0) ∷ (0, 0) ∷ (1, 1) ∷ (1, 1) ∷ (1, 1) ∷ (0, 0) ∷ (0, 0) ∷ (0, 0) ∷ (1, 1) ∷ (0, 0) ∷ (1, 1) ∷ (0, 0) ∷ (0, 0) ∷ (0, 0) ∷ (0, 0) ∷ (0, 0) ∷ (1, 1) ∷ (1, 1) ∷ (1, 1) ∷ (0, 0) ∷ (0, 0) ∷ (1, 1) ∷ (1, 1) ∷ (1, 1) ∷ (1, 1) ∷ (0, 0) ∷ (0, 0) ∷ (0, 0) ∷ (0, 0) ∷ (1, 1) ∷ (1, 1) ∷ (1, 1) ∷ (1, 1) ∷ (1, 1) ∷ (0, 0) ∷ (0, 0) ∷ (0, 0) ∷ (0, 0) ∷ (0, 0) ∷ (1, 1) ∷ (1, 1) ∷ (1, 1) ∷ (0, 0) ∷ (0, 0) ∷ (0, 0) ∷ (0, 0) ∷ (0, 0) ∷ (0, 0) ∷ (1, 1) ∷ (1, 1) ∷ (1, 1) ∷ (1, 1) ∷ (1, 1) ∷ (1, 1) ∷ (1, 1) ∷ (1, 1) ∷ (1, 1) ∷ (1, 1) ∷ (0, 0) ∷ (0, 0) ∷ (0, 0) ∷ (1, 1) ∷ (0, 0) ∷ (0, 0) ∷ (1, 1) ∷ (1, 1) ∷ (0, 0) ∷ (0, 0) ∷ (0, 0) ∷ []) ∷
    ((1, 1) ∷ (1, 1) ∷ (1, 1) ∷ (1, 1) ∷ (1, 1) ∷ (1, 1) ∷ (1, 1) ∷ (1, 1) ∷ (1, 1) ∷ (0, 0) ∷ (0, 0) ∷ (1, 1) ∷ (1, 1) ∷ (0, 0) ∷ (1, 1) ∷ (0, 0) ∷ (0, 0) ∷ (1, 0) ∷ (0, 0) ∷ (0, 0) ∷ (1, 1) ∷ (1, 1) ∷ (1, 1) ∷ (0, 0) ∷ (0, 0) ∷ (0, 0) ∷ (0, 0) ∷ (1, 1) ∷ (1, 1) ∷ (0, 0) ∷ (1, 1) ∷ (1, 1) ∷ (0, 0) ∷ (1, 1) ∷ (1, 1) ∷ (1, 1) ∷ (1, 1) ∷ (1, 1) ∷ (0, 0) ∷ (0, 0) ∷ (0, 0) ∷ (0, 0) ∷ (0, 0) ∷ (1, 1) ∷ (1, 1) ∷ (1, 1) ∷ (0, 0) ∷ (0, 0) ∷ (0, 0) ∷ (0, 0) ∷ (0, 0) ∷ (1, 1) ∷ (1, 1) ∷ (1, 1) ∷ (0, 0) ∷ (0, 0) ∷ (1, 1) ∷ (1, 1) ∷ (1, 1) ∷ (1, 1) ∷ (1, 1) ∷ (1, 1) ∷ (0, 0) ∷ (0, 0) ∷ (0, 0) ∷ (1, 1) ∷ (0, 0) ∷ (0, 0) ∷ (1, 1) ∷ (1, 1) ∷ (0, 0) ∷ (0, 0) ∷ (1, 0) ∷ []) ∷
    ((1, 1) ∷ (1, 1) ∷ (1, 1) ∷ (1, 1) ∷ (1, 1) ∷ (1, 1) ∷ (1, 1) ∷ (1, 1) ∷ (1, 1) ∷ (0, 0) ∷ (0, 0) ∷ (1, 1) ∷ (1, 1) ∷ (0, 0) ∷ (1, 1) ∷ (0, 0) ∷ (0, 0) ∷ (1, 0) ∷ (0, 0) ∷ (0, 0) ∷ (1, 1) ∷ (1, 1) ∷ (1, 1) ∷ (0, 0) ∷ (0, 0) ∷ (0, 0) ∷ (0, 0) ∷ (1, 1) ∷ (1, 1) ∷ (0, 0) ∷ (1, 1) ∷ (1, 1) ∷ (0, 0) ∷ (1, 1) ∷ (1, 1) ∷ (1, 1) ∷ (1, 1) ∷ (1, 1) ∷ (0, 0) ∷ (0, 0) ∷ (0, 0) ∷ (0, 0) ∷ (0, 0) ∷ (1, 1) ∷ (1, 1) ∷ (1, 1) ∷ (0, 0) ∷ (0, 0) ∷ (0, 0) ∷ (0, 0) ∷ (0, 0) ∷ (1, 1) ∷ (1, 1) ∷ (1, 1) ∷ (0, 0) ∷ (0, 0) ∷ (1, 1) ∷ (1, 1) ∷ (1, 1) ∷ (1, 1) ∷ (1, 1) ∷ (1, 1) ∷ (0, 0) ∷ (61, 61) ∷ (0, 0) ∷ (1, 1) ∷ (0, 0) ∷ (0, 0) ∷ (1, 1) ∷ (1, 1) ∷ (0, 0) ∷ (0, 0) ∷ (1, 0) ∷ []) ∷
    ((1, 1) ∷ (1, 1) ∷ (1, 1) ∷ (1, 1) ∷ (1, 1) ∷ (1, 1) ∷ (1, 1) ∷ (1, 1) ∷ (1, 1) ∷ (0, 0) ∷ (0, 0) ∷ (1, 1) ∷ (1, 1) ∷ (0, 0) ∷ (1, 1) ∷ (0, 0) ∷ (0, 0) ∷ (1, 0) ∷ (0, 0) ∷ (0, 0) ∷ (1, 1) ∷ (1, 1) ∷ (0, 0) ∷ (0, 0) ∷ (0, 0) ∷ (0, 0) ∷ (0, 0) ∷ (1, 1) ∷ (1, 1) ∷ (0, 0) ∷ (1, 1) ∷ (1, 1) ∷ (0, 0) ∷ (1, 1) ∷ (1, 1) ∷ (1, 1) ∷ (1, 1) ∷ (1, 1) ∷ (0, 0) ∷ (0, 0) ∷ (0, 0) ∷ (0, 0) ∷ (0, 0) ∷ (1, 1) ∷ (1, 1) ∷ (1, 1) ∷ (0, 0) ∷ (0, 0) ∷ (0, 0) ∷ (0, 0) ∷ (0, 0) ∷ (1, 1) ∷ (1, 1) ∷ (1, 1) ∷ (0, 0) ∷ (0, 0) ∷ (1, 1) ∷ (1, 1) ∷ (1, 1) ∷ (1, 1) ∷ (1, 1) ∷ (1, 1) ∷ (0, 0) ∷ (0, 0) ∷ (0, 0) ∷ (1, 1) ∷ (0, 0) ∷ (0, 0) ∷ (1, 1) ∷ (1, 1) ∷ (0, 0) ∷ (0, 0) ∷ (1, 0) ∷ []) ∷
    ((1, 1) ∷ (0, 0) ∷ (1, 1) ∷ (0, 0) ∷ (0, 0) ∷ (0, 0) ∷ (1, 1) ∷ (1, 1) ∷ (1, 1) ∷ (0, 0) ∷ (0, 0) ∷ (1, 1) ∷ (1, 1) ∷ (0, 0) ∷ (1, 1) ∷ (0, 0) ∷ (0, 0) ∷ (0, 0) ∷ (0, 0) ∷ (0, 0) ∷ (1, 1) ∷ (1, 1) ∷ (1, 1) ∷ (0, 0) ∷ (0, 0) ∷ (0, 0) ∷ (0, 0) ∷ (1, 1) ∷ (1, 1) ∷ (0, 0) ∷ (1, 1) ∷ (0, 0) ∷ (0, 0) ∷ (1, 1) ∷ (1, 1) ∷ (1, 1) ∷ (0, 0) ∷ (0, 0) ∷ (0, 0) ∷ (0, 0) ∷ (0, 0) ∷ (0, 0) ∷ (0, 0) ∷ (1, 1) ∷ (1, 1) ∷ (1, 1) ∷ (0, 0) ∷ (0, 0) ∷ (0, 0) ∷ (0, 0) ∷ (0, 0) ∷ (0, 0) ∷ (1, 1) ∷ (1, 1) ∷ (0, 0) ∷ (0, 0) ∷ (1, 1) ∷ (1, 1) ∷ (1, 1) ∷ (1, 1) ∷ (1, 1) ∷ (1, 1) ∷ (0, 0) ∷ (0, 0) ∷ (0, 0) ∷ (1, 1) ∷ (0, 0) ∷ (0, 0) ∷ (1, 1) ∷ (1, 1) ∷ (0, 0) ∷ (0, 0) ∷ (0, 0) ∷ []) ∷
    ((1, 1) ∷ (0, 0) ∷ (1, 1) ∷ (0, 0) ∷ (0, 0) ∷ (0, 0) ∷ (1, 1) ∷ (1, 1) ∷ (1, 1) ∷ (0, 0) ∷ (0, 0) ∷ (1, 1) ∷ (1, 1) ∷ (0, 0) ∷ (1, 1) ∷ (0, 0) ∷ (0, 0) ∷ (0, 0) ∷ (0, 0) ∷ (0, 0) ∷ (1, 1) ∷ (1, 1) ∷ (1, 1) ∷ (0, 0) ∷ (0, 0) ∷ (0, 0) ∷ (0, 0) ∷ (1, 1) ∷ (1, 1) ∷ (0, 0) ∷ (1, 1) ∷ (0, 0) ∷ (0, 0) ∷ (1, 1) ∷ (1, 1) ∷ (1, 1) ∷ (0, 0) ∷ (0, 0) ∷ (0, 0) ∷ (0, 0) ∷ (0, 0) ∷ (0, 0) ∷ (0, 0) ∷ (1, 1) ∷ (1, 1) ∷ (1, 1) ∷ (0, 0) ∷ (0, 0) ∷ (0, 0) ∷ (0, 0) ∷ (0, 0) ∷ (0, 0) ∷ (1, 1) ∷ (1, 1) ∷ (0, 0) ∷ (0, 0) ∷ (1, 1) ∷ (1, 1) ∷ (1, 1) ∷ (1, 1) ∷ (1, 1) ∷ (1, 1) ∷ (0, 0) ∷ (61, 61) ∷ (0, 0) ∷ (1, 1) ∷ (0, 0) ∷ (0, 0) ∷ (1, 1) ∷ (1, 1) ∷ (0, 0) ∷ (0, 0) ∷ (0, 0) ∷ []) ∷
    ((1, 1) ∷ (1, 1) ∷ (1, 1) ∷ (1, 1) ∷ (1, 1) ∷ (1, 1) ∷ (1, 1) ∷ (1, 1) ∷ (1, 1) ∷ (0, 0) ∷ (0, 0) ∷ (0, 0) ∷ (1, 1) ∷ (0, 0) ∷ (1, 1) ∷ (0, 0) ∷ (0, 0) ∷ (1, 0) ∷ (0, 0) ∷ (0, 0) ∷ (1, 1) ∷ (1, 1) ∷ (1, 1) ∷ (0, 0) ∷ (0, 0) ∷ (0, 0) ∷ (0, 0) ∷ (1, 1) ∷ (1, 1) ∷ (0, 0) ∷ (0, 0) ∷ (1, 1) ∷ (0, 0) ∷ (1, 1) ∷ (1, 1) ∷ (1, 1) ∷ (1, 1) ∷ (1, 1) ∷ (0, 0) ∷ (0, 0) ∷ (1, 1) ∷ (1, 1) ∷ (0, 0) ∷ (1, 1) ∷ (1, 1) ∷ (1, 1) ∷ (0, 0) ∷ (0, 0) ∷ (0, 0) ∷ (0, 0) ∷ (0, 0) ∷ (1, 1) ∷ (1, 1) ∷ (1, 1) ∷ (1, 1) ∷ (1, 1) ∷ (1, 1) ∷ (1, 1) ∷ (1, 1) ∷ (1, 1) ∷ (1, 1) ∷ (1, 1) ∷ (0, 0) ∷ (0, 0) ∷ (0, 0) ∷ (1, 1) ∷ (0, 0) ∷ (0, 0) ∷ (1, 1) ∷ (1, 1) ∷ (0, 0) ∷ (0, 0) ∷ (1, 0) ∷ []) ∷
    ((1, 1) ∷ (1, 1) ∷ (1, 1) ∷ (1, 1) ∷ (1, 1) ∷ (1, 1) ∷ (1, 1) ∷ (1, 1) ∷ (1, 1) ∷ (0, 0) ∷ (0, 0) ∷ (0, 0) ∷ (1, 1) ∷ (0, 0) ∷ (1, 1) ∷ (0, 0) ∷ (0, 0) ∷ (1, 0) ∷ (0, 0) ∷ (0, 0) ∷ (1, 1) ∷ (1, 1) ∷ (1, 1) ∷ (0, 0) ∷ (0, 0) ∷ (0, 0) ∷ (0, 0) ∷ (1, 1) ∷ (1, 1) ∷ (0, 0) ∷ (0, 0) ∷ (1, 1) ∷ (0, 0) ∷ (1, 1) ∷ (1, 1) ∷ (1, 1) ∷ (1, 1) ∷ (1, 1) ∷ (0, 0) ∷ (0, 0) ∷ (1, 1) ∷ (1, 1) ∷ (0, 0) ∷ (1, 1) ∷ (1, 1) ∷ (1, 1) ∷ (0, 0) ∷ (0, 0) ∷ (0, 0) ∷ (0, 0) ∷ (0, 0) ∷ (1, 1) ∷ (1, 1) ∷ (1, 1) ∷ (1, 1) ∷ (1, 1) ∷ (1, 1) ∷ (1, 1) ∷ (1, 1) ∷ (1, 1) ∷ (1, 1) ∷ (1, 1) ∷ (0, 0) ∷ (61, 61) ∷ (0, 0) ∷ (1, 1) ∷ (0, 0) ∷ (0, 0) ∷ (1, 1) ∷ (1, 1) ∷ (0, 0) ∷ (0, 0) ∷ (1, 0) ∷ []) ∷
    ((1, 1) ∷ (0, 0) ∷ (1, 1) ∷ (0, 0) ∷ (0, 0) ∷ (0, 0) ∷ (1, 1) ∷ (1, 1) ∷ (1, 1) ∷ (0, 0) ∷ (0, 0) ∷ (0, 0) ∷ (1, 1) ∷ (0, 0) ∷ (1, 1) ∷ (0, 0) ∷ (0, 0) ∷ (0, 0) ∷ (0, 0) ∷ (0, 0) ∷ (1, 1) ∷ (1, 1) ∷ (1, 1) ∷ (0, 0) ∷ (0, 0) ∷ (0, 0) ∷ (0, 0) ∷ (1, 1) ∷ (1, 1) ∷ (0, 0) ∷ (0, 0) ∷ (0, 0) ∷ (0, 0) ∷ (1, 1) ∷ (1, 1) ∷ (1, 1) ∷ (1, 1) ∷ (1, 1) ∷ (0, 0) ∷ (0, 0) ∷ (0, 0) ∷ (0, 0) ∷ (0, 0) ∷ (1, 1) ∷ (1, 1) ∷ (1, 1) ∷ (0, 0) ∷ (0, 0) ∷ (0, 0) ∷ (0, 0) ∷ (0, 0) ∷ (0, 0) ∷ (1, 1) ∷ (1, 1) ∷ (1, 1) ∷ (1, 1) ∷ (1, 1) ∷ (1, 1) ∷ (1, 1) ∷ (1, 1) ∷ (1, 1) ∷ (1, 1) ∷ (0, 0) ∷ (0, 0) ∷ (0, 0) ∷ (1, 1) ∷ (0, 0) ∷ (0, 0) ∷ (1, 1) ∷ (1, 1) ∷ (0, 0) ∷ (0, 0) ∷ (0, 0) ∷ []) ∷
    ((1, 1) ∷ (1, 1) ∷ (1, 1) ∷ (1, 1) ∷ (1, 1) ∷ (1, 1) ∷ (1, 1) ∷ (1, 1) ∷ (1, 1) ∷ (0, 0) ∷ (0, 0) ∷ (0, 0) ∷ (1, 1) ∷ (0, 0) ∷ (1, 1) ∷ (0, 0) ∷ (0, 0) ∷ (1, 0) ∷ (0, 0) ∷ (0, 0) ∷ (1, 1) ∷ (1, 1) ∷ (1, 1) ∷ (0, 0) ∷ (0, 0) ∷ (0, 0) ∷ (0, 0) ∷ (0, 0) ∷ (0, 0) ∷ (0, 0) ∷ (0, 0) ∷ (1, 1) ∷ (0, 0) ∷ (1, 1) ∷ (1, 1) ∷ (1, 1) ∷ (1, 1) ∷ (1, 1) ∷ (0, 0) ∷ (0, 0) ∷ (0, 0) ∷ (0, 0) ∷ (0, 0) ∷ (0, 0) ∷ (1, 1) ∷ (0, 0) ∷ (0, 0) ∷ (0, 0) ∷ (0, 0) ∷ (0, 0) ∷ (0, 0) ∷ (1, 1) ∷ (1, 1) ∷ (1, 1) ∷ (0, 0) ∷ (0, 0) ∷ (1, 1) ∷ (1, 1) ∷ (1, 1) ∷ (1, 1) ∷ (1, 1) ∷ (1, 1) ∷ (0, 0) ∷ (61, 61) ∷ (0, 0) ∷ (1, 1) ∷ (0, 0) ∷ (0, 0) ∷ (1, 1) ∷ (1, 1) ∷ (0, 0) ∷ (0, 0) ∷ (1, 0) ∷ []) ∷
    ((1, 1) ∷ (1, 1) ∷ (1, 1) ∷ (1, 1) ∷ (1, 1) ∷ (1, 1) ∷ (1, 1) ∷ (1, 1) ∷ (1, 1) ∷ (0, 0) ∷ (0, 0) ∷ (0, 0) ∷ (1, 1) ∷ (0, 0) ∷ (1, 1) ∷ (0, 0) ∷ (0, 0) ∷ (1, 0) ∷ (0, 0) ∷ (0, 0) ∷ (1, 1) ∷ (1, 1) ∷ (1, 1) ∷ (0, 0) ∷ (0, 0) ∷ (0, 0) ∷ (0, 0) ∷ (1, 1) ∷ (1, 1) ∷ (0, 0) ∷ (0, 0) ∷ (1, 1) ∷ (0, 0) ∷ (1, 1) ∷ (1, 1) ∷ (1, 1) ∷ (1, 1) ∷ (1, 1) ∷ (0, 0) ∷ (0, 0) ∷ (0, 0) ∷ (0, 0) ∷ (0, 0) ∷ (1, 1) ∷ (0, 0) ∷ (1, 1) ∷ (0, 0) ∷ (0, 0) ∷ (0, 0) ∷ (0, 0) ∷ (0, 0) ∷ (1, 1) ∷ (1, 1) ∷ (1, 1) ∷ (0, 0) ∷ (0, 0) ∷ (1, 1) ∷ (1, 1) ∷ (1, 1) ∷ (1, 1) ∷ (1, 1) ∷ (1, 1) ∷ (0, 0) ∷ (0, 0) ∷ (0, 0) ∷ (1, 1) ∷ (0, 0) ∷ (0, 0) ∷ (1, 1) ∷ (1, 1) ∷ (0, 0) ∷ (0, 0) ∷ (1, 0) ∷ []) ∷
    ((1, 1) ∷ (1, 1) ∷ (1, 1) ∷ (1, 1) ∷ (1, 1) ∷ (1, 1) ∷ (1, 1) ∷ (1, 1) ∷ (1, 1) ∷ (0, 0) ∷ (0, 0) ∷ (0, 0) ∷ (1, 1) ∷ (0, 0) ∷ (1, 1) ∷ (0, 0) ∷ (0, 0) ∷ (1, 0) ∷ (0, 0) ∷ (0, 0) ∷ (1, 1) ∷ (1, 1) ∷ (1, 1) ∷ (0, 0) ∷ (0, 0) ∷ (0, 0) ∷ (0, 0) ∷ (1, 1) ∷ (1, 1) ∷ (0, 0) ∷ (0, 0) ∷ (1, 1) ∷ (0, 0) ∷ (1, 1) ∷ (1, 1) ∷ (1, 1) ∷ (1, 1) ∷ (1, 1) ∷ (0, 0) ∷ (0, 0) ∷ (0, 0) ∷ (0, 0) ∷ (0, 0) ∷ (1, 1) ∷ (0, 0) ∷ (0, 0) ∷ (0, 0) ∷ (0, 0) ∷ (0, 0) ∷ (0, 0) ∷ (0, 0) ∷ (1, 1) ∷ (1, 1) ∷ (1, 1) ∷ (0, 0) ∷ (0, 0) ∷ (1, 1) ∷ (1, 1) ∷ (1, 1) ∷ (1, 1) ∷ (1, 1) ∷ (1, 1) ∷ (0, 0) ∷ (0, 0) ∷ (0, 0) ∷ (1, 1) ∷ (0, 0) ∷ (0, 0) ∷ (1, 1) ∷ (1, 1) ∷ (0, 0) ∷ (0, 0) ∷ (1, 0) ∷ []) ∷
    ((1, 1) ∷ (0, 0) ∷ (1, 1) ∷ (0, 0) ∷ (0, 0) ∷ (0, 0) ∷ (1, 1) ∷ (1, 1) ∷ (1, 1) ∷ (0, 0) ∷ (0, 0) ∷ (0, 0) ∷ (1, 1) ∷ (0, 0) ∷ (1, 1) ∷ (0, 0) ∷ (0, 0) ∷ (0, 0) ∷ (0, 0) ∷ (0, 0) ∷ (1, 1) ∷ (1, 1) ∷ (1, 1) ∷ (0, 0) ∷ (0, 0) ∷ (0, 0) ∷ (0, 0) ∷ (1, 1) ∷ (1, 1) ∷ (0, 0) ∷ (0, 0) ∷ (0, 0) ∷ (0, 0) ∷ (1, 1) ∷ (1, 1) ∷ (1, 1) ∷ (0, 0) ∷ (0, 0) ∷ (0, 0) ∷ (0, 0) ∷ (0, 0) ∷ (0, 0) ∷ (0, 0) ∷ (1, 1) ∷ (1, 1) ∷ (1, 1) ∷ (0, 0) ∷ (0, 0) ∷ (0, 0) ∷ (0, 0) ∷ (0, 0) ∷ (0, 0) ∷ (1, 1) ∷ (1, 1) ∷ (1, 1) ∷ (1, 1) ∷ (1, 1) ∷ (1, 1) ∷ (1, 1) ∷ (1, 1) ∷ (1, 1) ∷ (1, 1) ∷ (0, 0) ∷ (61, 61) ∷ (0, 0) ∷ (1, 1) ∷ (0, 0) ∷ (0, 0) ∷ (1, 1) ∷ (1, 1) ∷ (0, 0) ∷ (0, 0) ∷ (0, 0) ∷ []) ∷
    ((1, 1) ∷ (0, 0) ∷ (1, 1) ∷ (0, 0) ∷ (0, 0) ∷ (0, 0) ∷ (1, 1) ∷ (1, 1) ∷ (1, 1) ∷ (0, 0) ∷ (0, 0) ∷ (0, 0) ∷ (1, 1) ∷ (0, 0) ∷ (1, 1) ∷ (0, 0) ∷ (0, 0) ∷ (0, 0) ∷ (0, 0) ∷ (0, 0) ∷ (1, 1) ∷ (1, 1) ∷ (1, 1) ∷ (0, 0) ∷ (0, 0) ∷ (0, 0) ∷ (0, 0) ∷ (1, 1) ∷ (1, 1) ∷ (0, 0) ∷ (0, 0) ∷ (0, 0) ∷ (0, 0) ∷ (1, 1) ∷ (1, 1) ∷ (1, 1) ∷ (0, 0) ∷ (0, 0) ∷ (0, 0) ∷ (0, 0) ∷ (0, 0) ∷ (0, 0) ∷ (0, 0) ∷ (1, 1) ∷ (1, 1) ∷ (1, 1) ∷ (0, 0) ∷ (0, 0) ∷ (0, 0) ∷ (0, 0) ∷ (0, 0) ∷ (0, 0) ∷ (0, 0) ∷ (1, 1) ∷ (0, 0) ∷ (0, 0) ∷ (1, 1) ∷ (1, 1) ∷ (0, 0) ∷ (0, 0) ∷ (0, 0) ∷ (0, 0) ∷ (0, 0) ∷ (0, 0) ∷ (0, 0) ∷ (1, 1) ∷ (0, 0) ∷ (0, 0) ∷ (1, 1) ∷ (1, 1) ∷ (0, 0) ∷ (0, 0) ∷ (0, 0) ∷ []) ∷
    ((1, 1) ∷ (0, 0) ∷ (1, 1) ∷ (0, 0) ∷ (0, 0) ∷ (0, 0) ∷ (1, 1) ∷ (1, 1) ∷ (1, 1) ∷ (0, 0) ∷ (0, 0) ∷ (0, 0) ∷ (1, 1) ∷ (0, 0) ∷ (1, 1) ∷ (0, 0) ∷ (0, 0) ∷ (0, 0) ∷ (0, 0) ∷ (0, 0) ∷ (1, 1) ∷ (1, 1) ∷ (1, 1) ∷ (0, 0) ∷ (0, 0) ∷ (0, 0) ∷ (0, 0) ∷ (1, 1) ∷ (1, 1) ∷ (0, 0) ∷ (0, 0) ∷ (0, 0) ∷ (0, 0) ∷ (1, 1) ∷ (1, 1) ∷ (1, 1) ∷ (1, 1) ∷ (1, 1) ∷ (0, 0) ∷ (0, 0) ∷ (0, 0) ∷ (0, 0) ∷ (0, 0) ∷ (1, 1) ∷ (1, 1) ∷ (1, 1) ∷ (0, 0) ∷ (0, 0) ∷ (0, 0) ∷ (0, 0) ∷ (0, 0) ∷ (0, 0) ∷ (63, 63) ∷ (63, 63) ∷ (1, 1) ∷ (1, 1) ∷ (1, 1) ∷ (1, 1) ∷ (1, 1) ∷ (1, 1) ∷ (1, 1) ∷ (1, 1) ∷ (0, 0) ∷ (0, 0) ∷ (0, 0) ∷ (1, 1) ∷ (0, 0) ∷ (0, 0) ∷ (1, 1) ∷ (1, 1) ∷ (0, 0) ∷ (0, 0) ∷ (0, 0) ∷ []) ∷
    ((1, 1) ∷ (0, 0) ∷ (1, 1) ∷ (0, 0) ∷ (0, 0) ∷ (0, 0) ∷ (1, 1) ∷ (1, 1) ∷ (1, 1) ∷ (0, 0) ∷ (0, 0) ∷ (0, 0) ∷ (1, 1) ∷ (0, 0) ∷ (1, 1) ∷ (0, 0) ∷ (0, 0) ∷ (0, 0) ∷ (0, 0) ∷ (0, 0) ∷ (1, 1) ∷ (1, 1) ∷ (1, 1) ∷ (0, 0) ∷ (0, 0) ∷ (0, 0) ∷ (0, 0) ∷ (1, 1) ∷ (1, 1) ∷ (0, 0) ∷ (0, 0) ∷ (0, 0) ∷ (0, 0) ∷ (1, 1) ∷ (1, 1) ∷ (1, 1) ∷ (1, 1) ∷ (1, 1) ∷ (0, 0) ∷ (0, 0) ∷ (0, 0) ∷ (0, 0) ∷ (0, 0) ∷ (1, 1) ∷ (1, 1) ∷ (1, 1) ∷ (0, 0) ∷ (0, 0) ∷ (0, 0) ∷ (0, 0) ∷ (0, 0) ∷ (0, 0) ∷ (63, 63) ∷ (63, 63) ∷ (1, 1) ∷ (1, 1) ∷ (1, 1) ∷ (1, 1) ∷ (1, 1) ∷ (1, 1) ∷ (1, 1) ∷ (1, 1) ∷ (0, 0) ∷ (61, 61) ∷ (0, 0) ∷ (1, 1) ∷ (0, 0) ∷ (0, 0) ∷ (1, 1) ∷ (1, 1) ∷ (0, 0) ∷ (0, 0) ∷ (0, 0) ∷ []) ∷
    ((1, 1) ∷ (0, 0) ∷ (1, 1) ∷ (0, 0) ∷ (0, 0) ∷ (0, 0) ∷ (1, 1) ∷ (1, 1) ∷ (1, 1) ∷ (0, 0) ∷ (0, 0) ∷ (0, 0) ∷ (1, 1) ∷ (0, 0) ∷ (1, 1) ∷ (0, 0) ∷ (0, 0) ∷ (0, 0) ∷ (0, 0) ∷ (0, 0) ∷ (0, 0) ∷ (0, 0) ∷ (0, 0) ∷ (0, 0) ∷ (0, 0) ∷ (0, 0) ∷ (0, 0) ∷ (0, 0) ∷ (0, 0) ∷ (0, 0) ∷ (0, 0) ∷ (0, 0) ∷ (0, 0) ∷ (0, 0) ∷ (0, 0) ∷ (0, 0) ∷ (0, 0) ∷ (0, 0) ∷ (0, 0) ∷ (0, 0) ∷ (0, 0) ∷ (0, 0) ∷ (0, 0) ∷ (0, 0) ∷ (0, 0) ∷ (0, 0) ∷ (0, 0) ∷ (0, 0) ∷ (0, 0) ∷ (0, 0) ∷ (0, 0) ∷ (0, 0) ∷ (64, 64) ∷ (64, 64) ∷ (1, 1) ∷ (1, 1) ∷ (1, 1) ∷ (1, 1) ∷ (1, 1) ∷ (1, 1) ∷ (1, 1) ∷ (1, 1) ∷ (0, 0) ∷ (0, 0) ∷ (0, 0) ∷ (1, 1) ∷ (0, 0) ∷ (0, 0) ∷ (1, 1) ∷ (1, 1) ∷ (0, 0) ∷ (0, 0) ∷ (0, 0) ∷ []) ∷
    ((1, 1) ∷ (0, 0) ∷ (1, 1) ∷ (0, 0) ∷ (0, 0) ∷ (0, 0) ∷ (1, 1) ∷ (1, 1) ∷ (1, 1) ∷ (0, 0) ∷ (0, 0) ∷ (0, 0) ∷ (1, 1) ∷ (0, 0) ∷ (1, 1) ∷ (0, 0) ∷ (0, 0) ∷ (0, 0) ∷ (0, 0) ∷ (0, 0) ∷ (0, 0) ∷ (0, 0) ∷ (0, 0) ∷ (0, 0) ∷ (0, 0) ∷ (0, 0) ∷ (0, 0) ∷ (0, 0) ∷ (0, 0) ∷ (0, 0) ∷ (0, 0) ∷ (0, 0) ∷ (0, 0) ∷ (0, 0) ∷ (0, 0) ∷ (0, 0) ∷ (0, 0) ∷ (0, 0) ∷ (0, 0) ∷ (0, 0) ∷ (0, 0) ∷ (0, 0) ∷ (0, 0) ∷ (0, 0) ∷ (0, 0) ∷ (0, 0) ∷ (0, 0) ∷ (0, 0) ∷ (0, 0) ∷ (0, 0) ∷ (0, 0) ∷ (0, 0) ∷ (64, 64) ∷ (64, 64) ∷ (1, 1) ∷ (1, 1) ∷ (1, 1) ∷ (1, 1) ∷ (1, 1) ∷ (1, 1) ∷ (1, 1) ∷ (1, 1) ∷ (0, 0) ∷ (61, 61) ∷ (0, 0) ∷ (1, 1) ∷ (0, 0) ∷ (0, 0) ∷ (1, 1) ∷ (1, 1) ∷ (0, 0) ∷ (0, 0) ∷ (0, 0) ∷ []) ∷
    ((1, 1) ∷ (1, 1) ∷ (1, 1) ∷ (1, 1) ∷ (1, 1) ∷ (1, 1) ∷ (1, 1) ∷ (1, 1) ∷ (1, 1) ∷ (0, 0) ∷ (0, 0) ∷ (0, 0) ∷ (1, 1) ∷ (0, 0) ∷ (1, 1) ∷ (0, 0) ∷ (0, 0) ∷ (1, 0) ∷ (0, 0) ∷ (0, 0) ∷ (1, 1) ∷ (1, 1) ∷ (1, 1) ∷ (0, 0) ∷ (0, 0) ∷ (0, 0) ∷ (0, 0) ∷ (1, 1) ∷ (1, 1) ∷ (0, 0) ∷ (0, 0) ∷ (1, 1) ∷ (0, 0) ∷ (1, 1) ∷ (1, 1) ∷ (1, 1) ∷ (1, 1) ∷ (1, 1) ∷ (0, 0) ∷ (0, 0) ∷ (0, 0) ∷ (0, 0) ∷ (0, 0) ∷ (1, 1) ∷ (1, 1) ∷ (1, 1) ∷ (0, 0) ∷ (0, 0) ∷ (0, 0) ∷ (0, 0) ∷ (0, 0) ∷ (1, 1) ∷ (1, 1) ∷ (1, 1) ∷ (1, 1) ∷ (1, 1) ∷ (1, 1) ∷ (1, 1) ∷ (1, 1) ∷ (1, 1) ∷ (1, 1) ∷ (1, 1) ∷ (0, 0) ∷ (0, 0) ∷ (0, 0) ∷ (0, 0) ∷ (0, 0) ∷ (0, 0) ∷ (1, 1) ∷ (1, 1) ∷ (0, 0) ∷ (0, 0) ∷ (1, 0) ∷ []) ∷
    ((1, 1) ∷ (1, 1) ∷ (1, 1) ∷ (1, 1) ∷ (1, 1) ∷ (1, 1) ∷ (1, 1) ∷ (1, 1) ∷ (1, 1) ∷ (1, 1) ∷ (1, 1) ∷ (1, 1) ∷ (1, 1) ∷ (0, 0) ∷ (1, 1) ∷ (0, 0) ∷ (0, 0) ∷ (1, 0) ∷ (0, 0) ∷ (0, 0) ∷ (1, 1) ∷ (1, 1) ∷ (1, 1) ∷ (0, 0) ∷ (0, 0) ∷ (1, 1) ∷ (1, 1) ∷ (1, 1) ∷ (1, 1) ∷ (1, 1) ∷ (1, 1) ∷ (1, 1) ∷ (1, 1) ∷ (1, 1) ∷ (1, 1) ∷ (1, 1) ∷ (1, 1) ∷ (1, 1) ∷ (1, 1) ∷ (1, 1) ∷ (1, 1) ∷ (1, 1) ∷ (65, 65) ∷ (1, 1) ∷ (1, 1) ∷ (1, 1) ∷ (0, 0) ∷ (0, 0) ∷ (1, 1) ∷ (1, 1) ∷ (1, 1) ∷ (1, 1) ∷ (1, 1) ∷ (1, 1) ∷ (1, 1) ∷ (1, 1) ∷ (1, 1) ∷ (1, 1) ∷ (1, 1) ∷ (1, 1) ∷ (1, 1) ∷ (1, 1) ∷ (1, 1) ∷ (1, 1) ∷ (66, 66) ∷ (1, 1) ∷ (0, 0) ∷ (0, 0) ∷ (1, 1) ∷ (1, 1) ∷ (0, 0) ∷ (0, 0) ∷ (1, 0) ∷ []) ∷
    ((1, 1) ∷ (1, 1) ∷ (1, 1) ∷ (1, 1) ∷ (1, 1) ∷ (1, 1) ∷ (1, 1) ∷ (1, 1) ∷ (1, 1) ∷ (0, 0) ∷ (0, 0) ∷ (0, 0) ∷ (1, 1) ∷ (0, 0) ∷ (1, 1) ∷ (0, 0) ∷ (0, 0) ∷ (1, 0) ∷ (0, 0) ∷ (0, 0) ∷ (1, 1) ∷ (1, 1) ∷ (1, 1) ∷ (0, 0) ∷ (0, 0) ∷ (0, 0) ∷ (0, 0) ∷ (1, 1) ∷ (1, 1) ∷ (0, 0) ∷ (0, 0) ∷ (0, 0) ∷ (0, 0) ∷ (1, 1) ∷ (1, 1) ∷ (1, 1) ∷ (1, 1) ∷ (1, 1) ∷ (0, 0) ∷ (0, 0) ∷ (0, 0) ∷ (0, 0) ∷ (0, 0) ∷ (1, 1) ∷ (1, 1) ∷ (1, 1) ∷ (0, 0) ∷ (0, 0) ∷ (0, 0) ∷ (0, 0) ∷ (0, 0) ∷ (1, 1) ∷ (1, 1) ∷ (1, 1) ∷ (1, 1) ∷ (1, 1) ∷ (1, 1) ∷ (1, 1) ∷ (1, 1) ∷ (1, 1) ∷ (1, 1) ∷ (1, 1) ∷ (0, 0) ∷ (0, 0) ∷ (0, 0) ∷ (1, 1) ∷ (0, 0) ∷ (0, 0) ∷ (1, 1) ∷ (1, 1) ∷ (0, 0) ∷ (0, 0) ∷ (1, 0) ∷ []) ∷
    ((1, 1) ∷ (1, 1) ∷ (1, 1) ∷ (1, 1) ∷ (1, 1) ∷ (1, 1) ∷ (1, 1) ∷ (1, 1) ∷ (1, 1) ∷ (1, 1) ∷ (1, 1) ∷ (1, 1) ∷ (1, 1) ∷ (0, 0) ∷ (1, 1) ∷ (1, 1) ∷ (1, 1) ∷ (1, 1) ∷ (1, 1) ∷ (0, 0) ∷ (1, 1) ∷ (1, 1) ∷ (1, 1) ∷ (1, 1) ∷ (1, 1) ∷ (1, 1) ∷ (1, 1) ∷ (1, 1) ∷ (1, 1) ∷ (1, 1) ∷ (1, 1) ∷ (1, 1) ∷ (1, 1) ∷ (1, 1) ∷ (1, 1) ∷ (1, 1) ∷ (1, 1) ∷ (1, 1) ∷ (1, 1) ∷ (1, 1) ∷ (1, 1) ∷ (1, 1) ∷ (1, 1) ∷ (1, 1) ∷ (1, 1) ∷ (1, 1) ∷ (0, 0) ∷ (0, 0) ∷ (1, 1) ∷ (1, 1) ∷ (1, 1) ∷ (1, 1) ∷ (1, 1) ∷ (1, 1) ∷ (1, 1) ∷ (1, 1) ∷ (1, 1) ∷ (1, 1) ∷ (1, 1) ∷ (1, 1) ∷ (1, 1) ∷ (1, 1) ∷ (1, 1) ∷ (1, 1) ∷ (1, 1) ∷ (1, 1) ∷ (0, 0) ∷ (1, 1) ∷ (1, 1) ∷ (1, 1) ∷ (1, 1) ∷ (0, 0) ∷ (1, 1) ∷ []) ∷
    ((1, 1) ∷ (1, 1) ∷ (1, 1) ∷ (1, 1) ∷ (1, 1) ∷ (1, 1) ∷ (1, 1) ∷ (1, 1) ∷ (1, 1) ∷ (0, 0) ∷ (0, 0) ∷ (0, 0) ∷ (1, 1) ∷ (0, 0) ∷ (1, 1) ∷ (0, 0) ∷ (0, 0) ∷ (1, 0) ∷ (0, 0) ∷ (0, 0) ∷ (1, 1) ∷ (1, 1) ∷ (1, 1) ∷ (0, 0) ∷ (0, 0) ∷ (1, 1) ∷ (1, 1) ∷ (1, 1) ∷ (1, 1) ∷ (0, 0) ∷ (0, 0) ∷ (1, 1) ∷ (0, 0) ∷ (1, 1) ∷ (1, 1) ∷ (1, 1) ∷ (1, 1) ∷ (1, 1) ∷ (0, 0) ∷ (0, 0) ∷ (0, 0) ∷ (0, 0) ∷ (0, 0) ∷ (1, 1) ∷ (1, 1) ∷ (1, 1) ∷ (0, 0) ∷ (0, 0) ∷ (0, 0) ∷ (0, 0) ∷ (0, 0) ∷ (0, 0) ∷ (1, 1) ∷ (1, 1) ∷ (1, 1) ∷ (1, 1) ∷ (1, 1) ∷ (1, 1) ∷ (1, 1) ∷ (1, 1) ∷ (1, 1) ∷ (1, 1) ∷ (0, 0) ∷ (0, 0) ∷ (0, 0) ∷ (1, 1) ∷ (0, 0) ∷ (0, 0) ∷ (1, 1) ∷ (1, 1) ∷ (0, 0) ∷ (0, 0) ∷ (1, 0) ∷ []) ∷
    ((1, 1) ∷ (1, 1) ∷ (1, 1) ∷ (1, 1) ∷ (1, 1) ∷ (1, 1) ∷ (1, 1) ∷ (1, 1) ∷ (1, 1) ∷ (0, 0) ∷ (0, 0) ∷ (0, 0) ∷ (1, 1) ∷ (0, 0) ∷ (1, 1) ∷ (0, 0) ∷ (0, 0) ∷ (1, 0) ∷ (0, 0) ∷ (0, 0) ∷ (1, 1) ∷ (1, 1) ∷ (1, 1) ∷ (0, 0) ∷ (0, 0) ∷ (0, 0) ∷ (0, 0) ∷ (1, 1) ∷ (1, 1) ∷ (0, 0) ∷ (0, 0) ∷ (1, 1) ∷ (0, 0) ∷ (1, 1) ∷ (1, 1) ∷ (1, 1) ∷ (1, 1) ∷ (1, 1) ∷ (0, 0) ∷ (0, 0) ∷ (0, 0) ∷ (0, 0) ∷ (0, 0) ∷ (1, 1) ∷ (1, 1) ∷ (1, 1) ∷ (0, 0) ∷ (0, 0) ∷ (0, 0) ∷ (0, 0) ∷ (0, 0) ∷ (1, 1) ∷ (1, 1) ∷ (1, 1) ∷ (1, 1) ∷ (1, 1) ∷ (1, 1) ∷ (1, 1) ∷ (1, 1) ∷ (1, 1) ∷ (1, 1) ∷ (1, 1) ∷ (0, 0) ∷ (0, 0) ∷ (0, 0) ∷ (0, 0) ∷ (0, 0) ∷ (0, 0) ∷ (1, 1) ∷ (1, 1) ∷ (0, 0) ∷ (0, 0) ∷ (1, 0) ∷ []) ∷
    ((1, 1) ∷ (1, 1) ∷ (0, 0) ∷ (1, 1) ∷ (1, 1) ∷ (0, 0) ∷ (1, 1) ∷ (1, 1) ∷ (1, 1) ∷ (0, 0) ∷ (0, 0) ∷ (0, 0) ∷ (1, 1) ∷ (0, 0) ∷ (1, 1) ∷ (0, 0) ∷ (0, 0) ∷ (1, 0) ∷ (0, 0) ∷ (0, 0) ∷ (1, 1) ∷ (1, 1) ∷ (1, 1) ∷ (0, 0) ∷ (0, 0) ∷ (0, 0) ∷ (0, 0) ∷ (1, 1) ∷ (1, 1) ∷ (0, 0) ∷ (0, 0) ∷ (1, 1) ∷ (0, 0) ∷ (1, 1) ∷ (1, 1) ∷ (1, 1) ∷ (1, 1) ∷ (1, 1) ∷ (0, 0) ∷ (0, 0) ∷ (0, 0) ∷ (0, 0) ∷ (0, 0) ∷ (1, 1) ∷ (1, 1) ∷ (1, 1) ∷ (0, 0) ∷ (0, 0) ∷ (0, 0) ∷ (0, 0) ∷ (0, 0) ∷ (1, 1) ∷ (1, 1) ∷ (1, 1) ∷ (1, 1) ∷ (1, 1) ∷ (1, 1) ∷ (1, 1) ∷ (1, 1) ∷ (1, 1) ∷ (1, 1) ∷ (1, 1) ∷ (0, 0) ∷ (0, 0) ∷ (0, 0) ∷ (1, 1) ∷ (0, 0) ∷ (0, 0) ∷ (1, 1) ∷ (1, 1) ∷ (0, 0) ∷ (0, 0) ∷ (1, 0) ∷ []) ∷
    ((1, 1) ∷ (0, 0) ∷ (0, 0) ∷ (1, 1) ∷ (0, 0) ∷ (0, 0) ∷ (0, 0) ∷ (0, 0) ∷ (0, 0) ∷ (0, 0) ∷ (0, 0) ∷ (0, 0) ∷ (0, 0) ∷ (0, 0) ∷ (0, 0) ∷ (0, 0) ∷ (0, 0) ∷ (0, 0) ∷ (0, 0) ∷ (0, 0) ∷ (0, 0) ∷ (1, 1) ∷ (1, 1) ∷ (0, 0) ∷ (0, 0) ∷ (0, 0) ∷ (0, 0) ∷ (1, 1) ∷ (1, 1) ∷ (0, 0) ∷ (0, 0) ∷ (0, 0) ∷ (0, 0) ∷ (0, 0) ∷ (1, 1) ∷ (0, 0) ∷ (0, 0) ∷ (1, 1) ∷ (0, 0) ∷ (0, 0) ∷ (0, 0) ∷ (0, 0) ∷ (0, 0) ∷ (1, 1) ∷ (0, 0) ∷ (0, 0) ∷ (0, 0) ∷ (0, 0) ∷ (0, 0) ∷ (0, 0) ∷ (0, 0) ∷ (0, 0) ∷ (0, 0) ∷ (1, 1) ∷ (0, 0) ∷ (1, 1) ∷ (0, 0) ∷ (1, 1) ∷ (0, 0) ∷ (1, 1) ∷ (0, 0) ∷ (1, 1) ∷ (0, 0) ∷ (0, 0) ∷ (0, 0) ∷ (0, 0) ∷ (0, 0) ∷ (0, 0) ∷ (0, 0) ∷ (0, 0) ∷ (0, 0) ∷ (0, 0) ∷ (0, 0) ∷ []) ∷
    ((1, 1) ∷ (1, 1) ∷ (1, 1) ∷ (1, 1) ∷ (1, 1) ∷ (1, 1) ∷ (1, 1) ∷ (1, 1) ∷ (0, 0) ∷ (1, 1) ∷ (1, 1) ∷ (1, 1) ∷ (1, 1) ∷ (0, 0) ∷ (1, 1) ∷ (0, 0) ∷ (0, 0) ∷ (1, 0) ∷ (0, 0) ∷ (0, 0) ∷ (1, 1) ∷ (1, 1) ∷ (1, 1) ∷ (0, 0) ∷ (0, 0) ∷ (1, 1) ∷ (1, 1) ∷ (1, 1) ∷ (1, 1) ∷ (1, 1) ∷ (1, 1) ∷ (1, 1) ∷ (1, 1) ∷ (1, 1) ∷ (1, 1) ∷ (1, 1) ∷ (1, 1) ∷ (1, 1) ∷ (1, 1) ∷ (1, 1) ∷ (1, 1) ∷ (1, 1) ∷ (65, 65) ∷ (1, 1) ∷ (1, 1) ∷ (1, 1) ∷ (0, 0) ∷ (0, 0) ∷ (1, 1) ∷ (1, 1) ∷ (1, 1) ∷ (1, 1) ∷ (1, 1) ∷ (1, 1) ∷ (1, 1) ∷ (1, 1) ∷ (1, 1) ∷ (1, 1) ∷ (1, 1) ∷ (1, 1) ∷ (1, 1) ∷ (1, 1) ∷ (1, 1) ∷ (1, 1) ∷ (66, 66) ∷ (1, 1) ∷ (0, 0) ∷ (0, 0) ∷ (1, 1) ∷ (1, 1) ∷ (0, 0) ∷ (0, 0) ∷ (1, 0) ∷ []) ∷
    ((1, 1) ∷ (1, 1) ∷ (1, 1) ∷ (1, 1) ∷ (1, 1) ∷ (1, 1) ∷ (1, 1) ∷ (1, 1) ∷ (1, 1) ∷ (1, 1) ∷ (1, 1) ∷ (1, 1) ∷ (1, 1) ∷ (0, 0) ∷ (1, 1) ∷ (0, 0) ∷ (0, 0) ∷ (1, 0) ∷ (0, 0) ∷ (0, 0) ∷ (1, 1) ∷ (1, 1) ∷ (1, 1) ∷ (0, 0) ∷ (0, 0) ∷ (1, 1) ∷ (1, 1) ∷ (1, 1) ∷ (1, 1) ∷ (1, 1) ∷ (1, 1) ∷ (1, 1) ∷ (1, 1) ∷ (1, 1) ∷ (1, 1) ∷ (1, 1) ∷ (1, 1) ∷ (1, 1) ∷ (1, 1) ∷ (1, 1) ∷ (1, 1) ∷ (1, 1) ∷ (65, 65) ∷ (1, 1) ∷ (1, 1) ∷ (1, 1) ∷ (0, 0) ∷ (0, 0) ∷ (0, 0) ∷ (0, 0) ∷ (0, 0) ∷ (1, 1) ∷ (1, 1) ∷ (1, 1) ∷ (1, 1) ∷ (1, 1) ∷ (1, 1) ∷ (1, 1) ∷ (1, 1) ∷ (1, 1) ∷ (1, 1) ∷ (1, 1) ∷ (1, 1) ∷ (1, 1) ∷ (66, 66) ∷ (1, 1) ∷ (0, 0) ∷ (0, 0) ∷ (1, 1) ∷ (1, 1) ∷ (0, 0) ∷ (0, 0) ∷ (1, 0) ∷ []) ∷
    ((1, 1) ∷ (0, 0) ∷ (0, 0) ∷ (0, 0) ∷ (0, 0) ∷ (0, 0) ∷ (0, 0) ∷ (0, 0) ∷ (0, 0) ∷ (0, 0) ∷ (0, 0) ∷ (0, 0) ∷ (0, 0) ∷ (0, 0) ∷ (1, 1) ∷ (0, 0) ∷ (0, 0) ∷ (0, 0) ∷ (0, 0) ∷ (0, 0) ∷ (0, 0) ∷ (0, 0) ∷ (0, 0) ∷ (0, 0) ∷ (0, 0) ∷ (0, 0) ∷ (0, 0) ∷ (0, 0) ∷ (0, 0) ∷ (0, 0) ∷ (0, 0) ∷ (1, 1) ∷ (0, 0) ∷ (0, 0) ∷ (0, 0) ∷ (0, 0) ∷ (0, 0) ∷ (0, 0) ∷ (0, 0) ∷ (0, 0) ∷ (0, 0) ∷ (0, 0) ∷ (0, 0) ∷ (0, 0) ∷ (0, 0) ∷ (0, 0) ∷ (0, 0) ∷ (0, 0) ∷ (0, 0) ∷ (0, 0) ∷ (0, 0) ∷ (0, 0) ∷ (0, 0) ∷ (0, 0) ∷ (0, 0) ∷ (0, 0) ∷ (0, 0) ∷ (0, 0) ∷ (0, 0) ∷ (0, 0) ∷ (0, 0) ∷ (0, 0) ∷ (0, 0) ∷ (0, 0) ∷ (0, 0) ∷ (0, 0) ∷ (0, 0) ∷ (0, 0) ∷ (0, 0) ∷ (0, 0) ∷ (0, 0) ∷ (0, 0) ∷ (0, 0) ∷ []) ∷
    ((1, 1) ∷ (0, 0) ∷ (0, 0) ∷ (0, 0) ∷ (0, 0) ∷ (0, 0) ∷ (0, 0) ∷ (0, 0) ∷ (0, 0) ∷ (0, 0) ∷ (0, 0) ∷ (0, 0) ∷ (0, 0) ∷ (0, 0) ∷ (1, 1) ∷ (0, 0) ∷ (0, 0) ∷ (0, 0) ∷ (0, 0) ∷ (0, 0) ∷ (0, 0) ∷ (0, 0) ∷ (0, 0) ∷ (0, 0) ∷ (0, 0) ∷ (0, 0) ∷ (0, 0) ∷ (0, 0) ∷ (0, 0) ∷ (0, 0) ∷ (0, 0) ∷ (1, 1) ∷ (0, 0) ∷ (0, 0) ∷ (0, 0) ∷ (0, 0) ∷ (0, 0) ∷ (0, 0) ∷ (0, 0) ∷ (0, 0) ∷ (0, 0) ∷ (0, 0) ∷ (0, 0) ∷ (0, 0) ∷ (0, 0) ∷ (0, 0) ∷ (0, 0) ∷ (0, 0) ∷ (0, 0) ∷ (0, 0) ∷ (0, 0) ∷ (0, 0) ∷ (0, 0) ∷ (0, 0) ∷ (0, 0) ∷ (0, 0) ∷ (0, 0) ∷ (0, 0) ∷ (0, 0) ∷ (0, 0) ∷ (0, 0) ∷ (0, 0) ∷ (0, 0) ∷ (0, 0) ∷ (0, 0) ∷ (0, 0) ∷ (0, 0) ∷ (0, 0) ∷ (0, 0) ∷ (0, 0) ∷ (0, 0) ∷ (0, 0) ∷ (0, 0) ∷ []) ∷
    ((1, 1) ∷ (1, 1) ∷ (1, 1) ∷ (1, 1) ∷ (1, 1) ∷ (1, 1) ∷ (1, 1) ∷ (1, 1) ∷ (1, 1) ∷ (0, 0) ∷ (0, 0) ∷ (0, 0) ∷ (1, 1) ∷ (0, 0) ∷ (1, 1) ∷ (0, 0) ∷ (0, 0) ∷ (1, 0) ∷ (0, 0) ∷ (0, 0) ∷ (1, 1) ∷ (1, 1) ∷ (1, 1) ∷ (0, 0) ∷ (0, 0) ∷ (0, 0) ∷ (0, 0) ∷ (1, 1) ∷ (1, 1) ∷ (0, 0) ∷ (0, 0) ∷ (1, 1) ∷ (0, 0) ∷ (1, 1) ∷ (1, 1) ∷ (1, 1) ∷ (1, 1) ∷ (1, 1) ∷ (0, 0) ∷ (0, 0) ∷ (0, 0) ∷ (0, 0) ∷ (0, 0) ∷ (1, 1) ∷ (1, 1) ∷ (1, 1) ∷ (0, 0) ∷ (0, 0) ∷ (0, 0) ∷ (0, 0) ∷ (0, 0) ∷ (1, 1) ∷ (1, 1) ∷ (1, 1) ∷ (0, 0) ∷ (0, 0) ∷ (1, 1) ∷ (1, 1) ∷ (0, 0) ∷ (0, 0) ∷ (0, 0) ∷ (0, 0) ∷ (0, 0) ∷ (0, 0) ∷ (0, 0) ∷ (1, 1) ∷ (0, 0) ∷ (0, 0) ∷ (1, 1) ∷ (1, 1) ∷ (0, 0) ∷ (0, 0) ∷ (1, 0) ∷ []) ∷
    ((1, 1) ∷ (1, 1) ∷ (1, 1) ∷ (1, 1) ∷ (1, 1) ∷ (1, 1) ∷ (1, 1) ∷ (1, 1) ∷ (1, 1) ∷ (0, 0) ∷ (0, 0) ∷ (0, 0) ∷ (1, 1) ∷ (0, 0) ∷ (1, 1) ∷ (0, 0) ∷ (0, 0) ∷ (1, 0) ∷ (0, 0) ∷ (0, 0) ∷ (1, 1) ∷ (1, 1) ∷ (1, 1) ∷ (0, 0) ∷ (0, 0) ∷ (0, 0) ∷ (0, 0) ∷ (1, 1) ∷ (1, 1) ∷ (0, 0) ∷ (0, 0) ∷ (1, 1) ∷ (0, 0) ∷ (1, 1) ∷ (1, 1) ∷ (1, 1) ∷ (1, 1) ∷ (1, 1) ∷ (0, 0) ∷ (0, 0) ∷ (0, 0) ∷ (0, 0) ∷ (0, 0) ∷ (1, 1) ∷ (1, 1) ∷ (1, 1) ∷ (0, 0) ∷ (0, 0) ∷ (0, 0) ∷ (0, 0) ∷ (0, 0) ∷ (1, 1) ∷ (1, 1) ∷ (1, 1) ∷ (0, 0) ∷ (0, 0) ∷ (1, 1) ∷ (1, 1) ∷ (0, 0) ∷ (0, 0) ∷ (0, 0) ∷ (0, 0) ∷ (0, 0) ∷ (61, 61) ∷ (0, 0) ∷ (1, 1) ∷ (0, 0) ∷ (0, 0) ∷ (1, 1) ∷ (1, 1) ∷ (0, 0) ∷ (0, 0) ∷ (1, 0) ∷ []) ∷
    ((1, 1) ∷ (0, 0) ∷ (1, 1) ∷ (0, 0) ∷ (0, 0) ∷ (0, 0) ∷ (1, 1) ∷ (1, 1) ∷ (1, 1) ∷ (0, 0) ∷ (0, 0) ∷ (0, 0) ∷ (1, 1) ∷ (0, 0) ∷ (1, 1) ∷ (0, 0) ∷ (0, 0) ∷ (0, 0) ∷ (0, 0) ∷ (0, 0) ∷ (1, 1) ∷ (1, 1) ∷ (1, 1) ∷ (0, 0) ∷ (0, 0) ∷ (0, 0) ∷ (0, 0) ∷ (1, 1) ∷ (1, 1) ∷ (0, 0) ∷ (0, 0) ∷ (0, 0) ∷ (0, 0) ∷ (1, 1) ∷ (1, 1) ∷ (1, 1) ∷ (1, 1) ∷ (1, 1) ∷ (0, 0) ∷ (0, 0) ∷ (0, 0) ∷ (0, 0) ∷ (0, 0) ∷ (1, 1) ∷ (1, 1) ∷ (1, 1) ∷ (0, 0) ∷ (0, 0) ∷ (0, 0) ∷ (0, 0) ∷ (0, 0) ∷ (0, 0) ∷ (1, 1) ∷ (1, 1) ∷ (0, 0) ∷ (0, 0) ∷ (1, 1) ∷ (1, 1) ∷ (0, 0) ∷ (0, 0) ∷ (0, 0) ∷ (0, 0) ∷ (0, 0) ∷ (0, 0) ∷ (0, 0) ∷ (1, 1) ∷ (0, 0) ∷ (0, 0) ∷ (1, 1) ∷ (1, 1) ∷ (0, 0) ∷ (0, 0) ∷ (0, 0) ∷ []) ∷
    ((1, 1) ∷ (0, 0) ∷ (1, 1) ∷ (0, 0) ∷ (0, 0) ∷ (0, 0) ∷ (1, 1) ∷ (1, 1) ∷ (1, 1) ∷ (0, 0) ∷ (0, 0) ∷ (0, 0) ∷ (1, 1) ∷ (0, 0) ∷ (1, 1) ∷ (0, 0) ∷ (0, 0) ∷ (0, 0) ∷ (0, 0) ∷ (0, 0) ∷ (1, 1) ∷ (1, 1) ∷ (1, 1) ∷ (0, 0) ∷ (0, 0) ∷ (0, 0) ∷ (0, 0) ∷ (1, 1) ∷ (1, 1) ∷ (0, 0) ∷ (0, 0) ∷ (0, 0) ∷ (0, 0) ∷ (1, 1) ∷ (1, 1) ∷ (1, 1) ∷ (1, 1) ∷ (1, 1) ∷ (0, 0) ∷ (0, 0) ∷ (0, 0) ∷ (0, 0) ∷ (0, 0) ∷ (1, 1) ∷ (1, 1) ∷ (1, 1) ∷ (0, 0) ∷ (0, 0) ∷ (0, 0) ∷ (0, 0) ∷ (0, 0) ∷ (0, 0) ∷ (1, 1) ∷ (1, 1) ∷ (0, 0) ∷ (0, 0) ∷ (1, 1) ∷ (1, 1) ∷ (0, 0) ∷ (0, 0) ∷ (0, 0) ∷ (0, 0) ∷ (0, 0) ∷ (0, 0) ∷ (0, 0) ∷ (1, 1) ∷ (0, 0) ∷ (0, 0) ∷ (1, 1) ∷ (1, 1) ∷ (0, 0) ∷ (0, 0) ∷ (0, 0) ∷ []) ∷
    ((1, 1) ∷ (1, 1) ∷ (1, 1) ∷ (1, 1) ∷ (1, 1) ∷ (1, 1) ∷ (1, 1) ∷ (1, 1) ∷ (1, 1) ∷ (0, 0) ∷ (0, 0) ∷ (0, 0) ∷ (1, 1) ∷ (0, 0) ∷ (1, 1) ∷ (0, 0) ∷ (0, 0) ∷ (1, 0) ∷ (0, 0) ∷ (0, 0) ∷ (1, 1) ∷ (1, 1) ∷ (1, 1) ∷ (0, 0) ∷ (0, 0) ∷ (0, 0) ∷ (0, 0) ∷ (1, 1) ∷ (1, 1) ∷ (0, 0) ∷ (0, 0) ∷ (0, 0) ∷ (0, 0) ∷ (1, 1) ∷ (1, 1) ∷ (1, 1) ∷ (1, 1) ∷ (1, 1) ∷ (0, 0) ∷ (0, 0) ∷ (0, 0) ∷ (0, 0) ∷ (0, 0) ∷ (1, 1) ∷ (1, 1) ∷ (1, 1) ∷ (0, 0) ∷ (0, 0) ∷ (0, 0) ∷ (0, 0) ∷ (0, 0) ∷ (0, 0) ∷ (1, 1) ∷ (1, 1) ∷ (0, 0) ∷ (0, 0) ∷ (1, 1) ∷ (1, 1) ∷ (0, 0) ∷ (0, 0) ∷ (0, 0) ∷ (0, 0) ∷ (0, 0) ∷ (0, 0) ∷ (0, 0) ∷ (1, 1) ∷ (0, 0) ∷ (0, 0) ∷ (1, 1) ∷ (1, 1) ∷ (0, 0) ∷ (0, 0) ∷ (1, 0) ∷ []) ∷
    ((0, 0) ∷ (0, 0) ∷ (0, 0) ∷ (1, 1) ∷ (0, 0) ∷ (0, 0) ∷ (0, 0) ∷ (0, 0) ∷ (0, 0) ∷ (0, 0) ∷ (1, 1) ∷ (0, 0) ∷ (0, 0) ∷ (0, 0) ∷ (0, 0) ∷ (0, 0) ∷ (1, 1) ∷ (0, 61) ∷ (0, 0) ∷ (0, 0) ∷ (0, 0) ∷ (1, 1) ∷ (1, 1) ∷ (0, 0) ∷ (1, 1) ∷ (0, 0) ∷ (1, 1) ∷ (1, 1) ∷ (1, 1) ∷ (0, 0) ∷ (0, 0) ∷ (0, 0) ∷ (0, 0) ∷ (0, 0) ∷ (1, 1) ∷ (0, 0) ∷ (0, 0) ∷ (1, 1) ∷ (0, 0) ∷ (1, 1) ∷ (0, 0) ∷ (1, 1) ∷ (0, 0) ∷ (1, 1) ∷ (0, 0) ∷ (0, 0) ∷ (0, 0) ∷ (0, 0) ∷ (0, 0) ∷ (1, 1) ∷ (1, 1) ∷ (0, 0) ∷ (0, 0) ∷ (1, 1) ∷ (0, 0) ∷ (1, 1) ∷ (0, 0) ∷ (1, 1) ∷ (0, 0) ∷ (1, 1) ∷ (0, 0) ∷ (1, 1) ∷ (0, 0) ∷ (0, 0) ∷ (0, 0) ∷ (0, 0) ∷ (0, 0) ∷ (0, 0) ∷ (0, 0) ∷ (0, 0) ∷ (0, 0) ∷ (0, 0) ∷ (0, 61) ∷ []) ∷
    ((1, 1) ∷ (1, 1) ∷ (1, 1) ∷ (1, 1) ∷ (1, 1) ∷ (1, 1) ∷ (1, 1) ∷ (1, 1) ∷ (1, 1) ∷ (1, 1) ∷ (1, 1) ∷ (1, 1) ∷ (1, 1) ∷ (1, 1) ∷ (1, 1) ∷ (1, 1) ∷ (1, 1) ∷ (1, 62) ∷ (1, 1) ∷ (1, 1) ∷ (1, 1) ∷ (1, 1) ∷ (1, 1) ∷ (1, 1) ∷ (1, 1) ∷ (1, 1) ∷ (1, 1) ∷ (1, 1) ∷ (1, 1) ∷ (1, 1) ∷ (1, 1) ∷ (1, 1) ∷ (1, 1) ∷ (1, 1) ∷ (1, 1) ∷ (1, 1) ∷ (1, 1) ∷ (1, 1) ∷ (1, 1) ∷ (1, 1) ∷ (1, 1) ∷ (1, 1) ∷ (1, 1) ∷ (1, 1) ∷ (1, 1) ∷ (1, 1) ∷ (1, 1) ∷ (1, 1) ∷ (1, 1) ∷ (1, 1) ∷ (1, 1) ∷ (1, 1) ∷ (1, 1) ∷ (1, 1) ∷ (1, 1) ∷ (1, 1) ∷ (1, 1) ∷ (1, 1) ∷ (1, 1) ∷ (1, 1) ∷ (1, 1) ∷ (1, 1) ∷ (1, 1) ∷ (1, 1) ∷ (1, 1) ∷ (1, 1) ∷ (1, 1) ∷ (1, 1) ∷ (0, 0) ∷ (1, 1) ∷ (1, 1) ∷ (1, 1) ∷ (1, 62) ∷ []) ∷
    ((1, 1) ∷ (1, 1) ∷ (1, 1) ∷ (1, 1) ∷ (1, 1) ∷ (1, 1) ∷ (1, 1) ∷ (1, 1) ∷ (1, 1) ∷ (1, 1) ∷ (1, 1) ∷ (1, 1) ∷ (1, 1) ∷ (1, 1) ∷ (1, 1) ∷ (1, 1) ∷ (1, 1) ∷ (1, 63) ∷ (1, 1) ∷ (1, 1) ∷ (1, 1) ∷ (1, 1) ∷ (1, 1) ∷ (1, 1) ∷ (1, 1) ∷ (1, 1) ∷ (1, 1) ∷ (1, 1) ∷ (1, 1) ∷ (1, 1) ∷ (1, 1) ∷ (1, 1) ∷ (1, 1) ∷ (1, 1) ∷ (1, 1) ∷ (1, 1) ∷ (1, 1) ∷ (1, 1) ∷ (1, 1) ∷ (1, 1) ∷ (1, 1) ∷ (1, 1) ∷ (67, 67) ∷ (1, 1) ∷ (1, 1) ∷ (1, 1) ∷ (1, 1) ∷ (1, 1) ∷ (1, 1) ∷ (1, 1) ∷ (1, 1) ∷ (0, 0) ∷ (1, 1) ∷ (1, 1) ∷ (1, 1) ∷ (1, 1) ∷ (1, 1) ∷ (1, 1) ∷ (1, 1) ∷ (1, 1) ∷ (1, 1) ∷ (1, 1) ∷ (1, 1) ∷ (1, 1) ∷ (1, 1) ∷ (1, 1) ∷ (1, 1) ∷ (1, 1) ∷ (1, 1) ∷ (1, 1) ∷ (1, 1) ∷ (1, 1) ∷ (1, 63) ∷ []) ∷
    ((1, 1) ∷ (1, 1) ∷ (1, 1) ∷ (1, 1) ∷ (1, 1) ∷ (1, 1) ∷ (1, 1) ∷ (1, 1) ∷ (1, 1) ∷ (1, 1) ∷ (1, 1) ∷ (1, 1) ∷ (1, 1) ∷ (1, 1) ∷ (1, 1) ∷ (1, 1) ∷ (1, 1) ∷ (1, 64) ∷ (1, 1) ∷ (1, 1) ∷ (1, 1) ∷ (1, 1) ∷ (1, 1) ∷ (1, 1) ∷ (1, 1) ∷ (1, 1) ∷ (1, 1) ∷ (1, 1) ∷ (1, 1) ∷ (1, 1) ∷ (1, 1) ∷ (1, 1) ∷ (1, 1) ∷ (1, 1) ∷ (1, 1) ∷ (1, 1) ∷ (1, 1) ∷ (1, 1) ∷ (1, 1) ∷ (1, 1) ∷ (1, 1) ∷ (1, 1) ∷ (68, 68) ∷ (1, 1) ∷ (1, 1) ∷ (1, 1) ∷ (1, 1) ∷ (1, 1) ∷ (1, 1) ∷ (1, 1) ∷ (1, 1) ∷ (0, 0) ∷ (1, 1) ∷ (1, 1) ∷ (1, 1) ∷ (1, 1) ∷ (1, 1) ∷ (1, 1) ∷ (1, 1) ∷ (1, 1) ∷ (1, 1) ∷ (1, 1) ∷ (1, 1) ∷ (1, 1) ∷ (1, 1) ∷ (1, 1) ∷ (1, 1) ∷ (1, 1) ∷ (1, 1) ∷ (1, 1) ∷ (1, 1) ∷ (1, 1) ∷ (1, 64) ∷ []) ∷
    ((0, 0) ∷ (0, 0) ∷ (0, 0) ∷ (0, 0) ∷ (0, 0) ∷ (0, 0) ∷ (0, 0) ∷ (0, 0) ∷ (0, 0) ∷ (0, 0) ∷ (0, 0) ∷ (0, 0) ∷ (0, 0) ∷ (0, 0) ∷ (0, 0) ∷ (0, 0) ∷ (0, 0) ∷ (0, 65) ∷ (0, 0) ∷ (0, 0) ∷ (0, 0) ∷ (0, 0) ∷ (0, 0) ∷ (0, 0) ∷ (0, 0) ∷ (0, 0) ∷ (0, 0) ∷ (0, 0) ∷ (0, 0) ∷ (0, 0) ∷ (0, 0) ∷ (0, 0) ∷ (0, 0) ∷ (0, 0) ∷ (0, 0) ∷ (0, 0) ∷ (0, 0) ∷ (0, 0) ∷ (0, 0) ∷ (0, 0) ∷ (0, 0) ∷ (0, 0) ∷ (0, 0) ∷ (0, 0) ∷ (0, 0) ∷ (0, 0) ∷ (0, 0) ∷ (0, 0) ∷ (0, 0) ∷ (0, 0) ∷ (0, 0) ∷ (1, 1) ∷ (0, 0) ∷ (0, 0) ∷ (0, 0) ∷ (0, 0) ∷ (0, 0) ∷ (0, 0) ∷ (0, 0) ∷ (0, 0) ∷ (0, 0) ∷ (0, 0) ∷ (0, 0) ∷ (0, 0) ∷ (0, 0) ∷ (0, 0) ∷ (0, 0) ∷ (0, 0) ∷ (0, 0) ∷ (0, 0) ∷ (0, 0) ∷ (0, 0) ∷ (0, 65) ∷ []) ∷
    ((0, 0) ∷ (1, 1) ∷ (1, 1) ∷ (1, 1) ∷ (1, 1) ∷ (1, 1) ∷ (1, 1) ∷ (1, 1) ∷ (1, 1) ∷ (1, 1) ∷ (1, 1) ∷ (1, 1) ∷ (1, 1) ∷ (0, 0) ∷ (1, 1) ∷ (0, 0) ∷ (0, 0) ∷ (1, 66) ∷ (0, 0) ∷ (0, 0) ∷ (1, 1) ∷ (1, 1) ∷ (1, 1) ∷ (0, 0) ∷ (0, 0) ∷ (0, 0) ∷ (0, 0) ∷ (1, 1) ∷ (1, 1) ∷ (1, 1) ∷ (1, 1) ∷ (1, 1) ∷ (1, 1) ∷ (1, 1) ∷ (1, 1) ∷ (1, 1) ∷ (1, 1) ∷ (1, 1) ∷ (1, 1) ∷ (1, 1) ∷ (1, 1) ∷ (1, 1) ∷ (0, 0) ∷ (1, 1) ∷ (1, 1) ∷ (1, 1) ∷ (0, 0) ∷ (0, 0) ∷ (1, 1) ∷ (1, 1) ∷ (1, 1) ∷ (1, 1) ∷ (1, 1) ∷ (1, 1) ∷ (1, 1) ∷ (1, 1) ∷ (1, 1) ∷ (1, 1) ∷ (1, 1) ∷ (1, 1) ∷ (1, 1) ∷ (1, 1) ∷ (0, 0) ∷ (0, 0) ∷ (0, 0) ∷ (1, 1) ∷ (0, 0) ∷ (0, 0) ∷ (1, 1) ∷ (1, 1) ∷ (0, 0) ∷ (0, 0) ∷ (1, 66) ∷ []) ∷
    ((1, 1) ∷ (1, 1) ∷ (1, 1) ∷ (1, 1) ∷ (1, 1) ∷ (1, 1) ∷ (1, 1) ∷ (1, 1) ∷ (1, 1) ∷ (1, 1) ∷ (1, 1) ∷ (1, 1) ∷ (1, 1) ∷ (1, 1) ∷ (1, 1) ∷ (1, 1) ∷ (1, 1) ∷ (1, 67) ∷ (1, 1) ∷ (1, 1) ∷ (1, 1) ∷ (1, 1) ∷ (1, 1) ∷ (1, 1) ∷ (1, 1) ∷ (1, 1) ∷ (1, 1) ∷ (1, 1) ∷ (1, 1) ∷ (1, 1) ∷ (1, 1) ∷ (1, 1) ∷ (1, 1) ∷ (1, 1) ∷ (1, 1) ∷ (1, 1) ∷ (1, 1) ∷ (1, 1) ∷ (1, 1) ∷ (1, 1) ∷ (1, 1) ∷ (1, 1) ∷ (1, 1) ∷ (1, 1) ∷ (1, 1) ∷ (1, 1) ∷ (1, 1) ∷ (1, 1) ∷ (1, 1) ∷ (1, 1) ∷ (1, 1) ∷ (0, 0) ∷ (1, 1) ∷ (1, 1) ∷ (1, 1) ∷ (1, 1) ∷ (1, 1) ∷ (1, 1) ∷ (1, 1) ∷ (1, 1) ∷ (1, 1) ∷ (1, 1) ∷ (1, 1) ∷ (1, 1) ∷ (1, 1) ∷ (1, 1) ∷ (1, 1) ∷ (1, 1) ∷ (1, 1) ∷ (1, 1) ∷ (1, 1) ∷ (1, 1) ∷ (1, 67) ∷ []) ∷
    ((1, 1) ∷ (1, 1) ∷ (1, 1) ∷ (1, 1) ∷ (1, 1) ∷ (1, 1) ∷ (1, 1) ∷ (1, 1) ∷ (1, 1) ∷ (1, 1) ∷ (1, 1) ∷ (1, 1) ∷ (1, 1) ∷ (1, 1) ∷ (1, 1) ∷ (1, 1) ∷ (1, 1) ∷ (1, 68) ∷ (1, 1) ∷ (1, 1) ∷ (1, 1) ∷ (1, 1) ∷ (1, 1) ∷ (1, 1) ∷ (1, 1) ∷ (1, 1) ∷ (1, 1) ∷ (1, 1) ∷ (1, 1) ∷ (1, 1) ∷ (1, 1) ∷ (1, 1) ∷ (1, 1) ∷ (1, 1) ∷ (1, 1) ∷ (1, 1) ∷ (1, 1) ∷ (1, 1) ∷ (1, 1) ∷ (1, 1) ∷ (1, 1) ∷ (1, 1) ∷ (1, 1) ∷ (1, 1) ∷ (1, 1) ∷ (1, 1) ∷ (1, 1) ∷ (1, 1) ∷ (1, 1) ∷ (1, 1) ∷ (1, 1) ∷ (0, 0) ∷ (1, 1) ∷ (1, 1) ∷ (1, 1) ∷ (1, 1) ∷ (1, 1) ∷ (1, 1) ∷ (1, 1) ∷ (1, 1) ∷ (1, 1) ∷ (1, 1) ∷ (1, 1) ∷ (1, 1) ∷ (1, 1) ∷ (1, 1) ∷ (1, 1) ∷ (1, 1) ∷ (1, 1) ∷ (1, 1) ∷ (1, 1) ∷ (1, 1) ∷ (1, 68) ∷ []) ∷
    []

unfoldable pub tables : Tables
tables = record { befores = befores; moves = moves; owes = owes; dues = dues; reads = reads }

unfoldable pub accepts : List (ℕ × ℕ × Bool)
accepts =
    (0, 0, false) ∷
    (1, 0, false) ∷
    (1, 0, false) ∷
    (1, 0, false) ∷
    (1, 0, false) ∷
    (1, 0, false) ∷
    (1, 0, false) ∷
    (1, 0, false) ∷
    (1, 0, false) ∷
    (1, 0, false) ∷
    (1, 0, false) ∷
    (1, 1, false) ∷
    (1, 0, false) ∷
    (1, 0, false) ∷
    (1, 0, false) ∷
    (1, 0, false) ∷
    (1, 1, false) ∷
    (1, 0, false) ∷
    (1, 0, false) ∷
    (1, 0, false) ∷
    (1, 0, false) ∷
    (1, 0, false) ∷
    (0, 0, false) ∷
    (0, 0, false) ∷
    (1, 0, false) ∷
    (1, 0, false) ∷
    (1, 0, false) ∷
    (1, 0, false) ∷
    (1, 0, false) ∷
    (1, 0, false) ∷
    (1, 0, false) ∷
    (1, 0, false) ∷
    (1, 0, false) ∷
    (1, 0, false) ∷
    (1, 0, false) ∷
    (1, 0, false) ∷
    (1, 0, false) ∷
    (1, 0, false) ∷
    (1, 0, false) ∷
    (1, 0, false) ∷
    (1, 0, false) ∷
    (1, 0, false) ∷
    (0, 0, false) ∷
    (0, 0, false) ∷
    (1, 0, false) ∷
    (1, 0, false) ∷
    (1, 0, false) ∷
    (1, 0, false) ∷
    (0, 0, false) ∷
    (1, 0, false) ∷
    (1, 0, true) ∷
    (1, 0, false) ∷
    (0, 0, false) ∷
    (1, 0, false) ∷
    (0, 0, false) ∷
    (1, 0, false) ∷
    (0, 0, false) ∷
    (1, 0, false) ∷
    (0, 0, false) ∷
    (0, 0, false) ∷
    (1, 0, false) ∷
    (0, 0, false) ∷
    (0, 0, false) ∷
    (0, 0, false) ∷
    (0, 0, false) ∷
    (1, 0, true) ∷
    (0, 0, false) ∷
    (0, 0, false) ∷
    (0, 0, false) ∷
    (0, 0, false) ∷
    (0, 0, false) ∷
    (1, 0, true) ∷
    (0, 0, false) ∷
    (0, 0, false) ∷
    (0, 0, false) ∷
    (0, 0, false) ∷
    (0, 0, false) ∷
    (0, 0, false) ∷
    (0, 0, false) ∷
    (0, 0, false) ∷
    (0, 0, false) ∷
    (0, 0, false) ∷
    (0, 0, false) ∷
    (1, 0, false) ∷
    (0, 0, false) ∷
    (0, 0, false) ∷
    (0, 0, false) ∷
    (0, 0, false) ∷
    (0, 0, false) ∷
    (0, 0, false) ∷
    (0, 0, false) ∷
    (0, 0, false) ∷
    (0, 0, false) ∷
    (0, 0, false) ∷
    (0, 0, false) ∷
    (0, 0, false) ∷
    (0, 0, false) ∷
    (0, 0, false) ∷
    (1, 0, false) ∷
    (1, 0, false) ∷
    (1, 0, false) ∷
    (1, 0, false) ∷
    (1, 0, false) ∷
    (0, 0, false) ∷
    (0, 0, false) ∷
    (0, 0, false) ∷
    (0, 0, false) ∷
    (0, 0, false) ∷
    (0, 0, false) ∷
    (0, 0, false) ∷
    (0, 0, false) ∷
    (1, 0, false) ∷
    (0, 0, false) ∷
    (0, 0, false) ∷
    (0, 0, false) ∷
    (0, 0, false) ∷
    (0, 0, false) ∷
    (0, 0, false) ∷
    (0, 0, false) ∷
    (0, 0, false) ∷
    (0, 0, false) ∷
    (0, 0, false) ∷
    (0, 0, false) ∷
    (0, 0, false) ∷
    (2, 0, false) ∷
    (0, 0, false) ∷
    []

unfoldable pub nexts : List (List ℕ)
nexts =
    (255 ∷ 1 ∷ 2 ∷ 3 ∷ 4 ∷ 5 ∷ 6 ∷ 2 ∷ 7 ∷ 8 ∷ 9 ∷ 8 ∷ 10 ∷ 11 ∷ 12 ∷ 13 ∷ 14 ∷ 1 ∷ 15 ∷ 16 ∷ 17 ∷ 18 ∷ 19 ∷ 20 ∷ 21 ∷ 22 ∷ 23 ∷ 24 ∷ 25 ∷ 26 ∷ 8 ∷ 27 ∷ 28 ∷ 29 ∷ 30 ∷ 31 ∷ 32 ∷ 33 ∷ 20 ∷ 21 ∷ 34 ∷ 35 ∷ 36 ∷ 37 ∷ 38 ∷ 39 ∷ 11 ∷ 11 ∷ 20 ∷ 21 ∷ 40 ∷ 41 ∷ 42 ∷ 43 ∷ 44 ∷ 45 ∷ 44 ∷ 45 ∷ 46 ∷ 47 ∷ 20 ∷ 21 ∷ 48 ∷ 42 ∷ 48 ∷ 49 ∷ 50 ∷ 51 ∷ 20 ∷ 20 ∷ 52 ∷ 53 ∷ 54 ∷ []) ∷
    (11 ∷ 1 ∷ 255 ∷ 3 ∷ 4 ∷ 5 ∷ 255 ∷ 255 ∷ 255 ∷ 8 ∷ 9 ∷ 8 ∷ 255 ∷ 11 ∷ 255 ∷ 13 ∷ 14 ∷ 1 ∷ 15 ∷ 16 ∷ 255 ∷ 255 ∷ 255 ∷ 20 ∷ 21 ∷ 22 ∷ 23 ∷ 255 ∷ 255 ∷ 8 ∷ 8 ∷ 27 ∷ 55 ∷ 255 ∷ 255 ∷ 255 ∷ 32 ∷ 33 ∷ 20 ∷ 21 ∷ 34 ∷ 35 ∷ 36 ∷ 255 ∷ 255 ∷ 255 ∷ 11 ∷ 11 ∷ 20 ∷ 21 ∷ 40 ∷ 41 ∷ 42 ∷ 255 ∷ 44 ∷ 45 ∷ 255 ∷ 255 ∷ 46 ∷ 47 ∷ 20 ∷ 21 ∷ 48 ∷ 48 ∷ 48 ∷ 255 ∷ 50 ∷ 51 ∷ 255 ∷ 255 ∷ 52 ∷ 53 ∷ 54 ∷ []) ∷
    (11 ∷ 255 ∷ 56 ∷ 255 ∷ 255 ∷ 56 ∷ 255 ∷ 56 ∷ 255 ∷ 8 ∷ 9 ∷ 8 ∷ 255 ∷ 11 ∷ 255 ∷ 13 ∷ 14 ∷ 2 ∷ 15 ∷ 16 ∷ 255 ∷ 255 ∷ 255 ∷ 20 ∷ 21 ∷ 22 ∷ 23 ∷ 255 ∷ 255 ∷ 8 ∷ 8 ∷ 255 ∷ 55 ∷ 255 ∷ 255 ∷ 255 ∷ 255 ∷ 255 ∷ 20 ∷ 21 ∷ 34 ∷ 35 ∷ 36 ∷ 255 ∷ 255 ∷ 255 ∷ 11 ∷ 11 ∷ 20 ∷ 21 ∷ 40 ∷ 255 ∷ 255 ∷ 255 ∷ 255 ∷ 255 ∷ 255 ∷ 255 ∷ 255 ∷ 255 ∷ 255 ∷ 255 ∷ 48 ∷ 48 ∷ 48 ∷ 255 ∷ 50 ∷ 51 ∷ 20 ∷ 57 ∷ 52 ∷ 53 ∷ 58 ∷ []) ∷
    (11 ∷ 1 ∷ 255 ∷ 3 ∷ 4 ∷ 5 ∷ 255 ∷ 255 ∷ 255 ∷ 8 ∷ 9 ∷ 8 ∷ 255 ∷ 11 ∷ 255 ∷ 13 ∷ 14 ∷ 3 ∷ 15 ∷ 16 ∷ 255 ∷ 255 ∷ 255 ∷ 20 ∷ 21 ∷ 22 ∷ 23 ∷ 255 ∷ 255 ∷ 8 ∷ 8 ∷ 27 ∷ 55 ∷ 255 ∷ 255 ∷ 255 ∷ 32 ∷ 33 ∷ 20 ∷ 21 ∷ 34 ∷ 35 ∷ 36 ∷ 255 ∷ 255 ∷ 255 ∷ 11 ∷ 11 ∷ 20 ∷ 21 ∷ 40 ∷ 41 ∷ 42 ∷ 255 ∷ 44 ∷ 45 ∷ 255 ∷ 255 ∷ 46 ∷ 47 ∷ 20 ∷ 21 ∷ 48 ∷ 59 ∷ 60 ∷ 255 ∷ 50 ∷ 51 ∷ 255 ∷ 255 ∷ 52 ∷ 53 ∷ 61 ∷ []) ∷
    (11 ∷ 1 ∷ 255 ∷ 3 ∷ 4 ∷ 5 ∷ 255 ∷ 255 ∷ 255 ∷ 8 ∷ 9 ∷ 8 ∷ 255 ∷ 11 ∷ 255 ∷ 13 ∷ 14 ∷ 4 ∷ 15 ∷ 16 ∷ 255 ∷ 255 ∷ 19 ∷ 20 ∷ 21 ∷ 22 ∷ 23 ∷ 255 ∷ 255 ∷ 8 ∷ 8 ∷ 27 ∷ 55 ∷ 255 ∷ 255 ∷ 255 ∷ 32 ∷ 33 ∷ 20 ∷ 21 ∷ 34 ∷ 35 ∷ 36 ∷ 255 ∷ 255 ∷ 255 ∷ 11 ∷ 11 ∷ 20 ∷ 21 ∷ 40 ∷ 41 ∷ 42 ∷ 255 ∷ 44 ∷ 45 ∷ 255 ∷ 255 ∷ 46 ∷ 47 ∷ 20 ∷ 21 ∷ 48 ∷ 48 ∷ 48 ∷ 255 ∷ 50 ∷ 51 ∷ 255 ∷ 255 ∷ 52 ∷ 53 ∷ 62 ∷ []) ∷
    (11 ∷ 1 ∷ 56 ∷ 3 ∷ 4 ∷ 5 ∷ 255 ∷ 56 ∷ 255 ∷ 8 ∷ 9 ∷ 8 ∷ 255 ∷ 11 ∷ 255 ∷ 13 ∷ 14 ∷ 5 ∷ 15 ∷ 16 ∷ 255 ∷ 255 ∷ 255 ∷ 20 ∷ 21 ∷ 22 ∷ 23 ∷ 255 ∷ 255 ∷ 8 ∷ 8 ∷ 27 ∷ 55 ∷ 255 ∷ 255 ∷ 255 ∷ 32 ∷ 33 ∷ 20 ∷ 21 ∷ 34 ∷ 35 ∷ 36 ∷ 255 ∷ 255 ∷ 255 ∷ 11 ∷ 11 ∷ 20 ∷ 21 ∷ 40 ∷ 41 ∷ 42 ∷ 255 ∷ 44 ∷ 45 ∷ 255 ∷ 255 ∷ 46 ∷ 47 ∷ 20 ∷ 21 ∷ 48 ∷ 48 ∷ 48 ∷ 255 ∷ 50 ∷ 51 ∷ 20 ∷ 57 ∷ 52 ∷ 53 ∷ 63 ∷ []) ∷
    (11 ∷ 255 ∷ 2 ∷ 255 ∷ 255 ∷ 5 ∷ 255 ∷ 2 ∷ 255 ∷ 8 ∷ 9 ∷ 8 ∷ 255 ∷ 11 ∷ 255 ∷ 13 ∷ 14 ∷ 6 ∷ 15 ∷ 16 ∷ 255 ∷ 255 ∷ 255 ∷ 20 ∷ 21 ∷ 22 ∷ 23 ∷ 255 ∷ 255 ∷ 8 ∷ 8 ∷ 255 ∷ 55 ∷ 255 ∷ 255 ∷ 255 ∷ 255 ∷ 255 ∷ 20 ∷ 21 ∷ 34 ∷ 35 ∷ 36 ∷ 255 ∷ 255 ∷ 255 ∷ 11 ∷ 11 ∷ 20 ∷ 21 ∷ 40 ∷ 255 ∷ 255 ∷ 255 ∷ 255 ∷ 255 ∷ 255 ∷ 255 ∷ 255 ∷ 255 ∷ 255 ∷ 255 ∷ 48 ∷ 48 ∷ 48 ∷ 255 ∷ 50 ∷ 51 ∷ 255 ∷ 255 ∷ 52 ∷ 53 ∷ 64 ∷ []) ∷
    (11 ∷ 255 ∷ 255 ∷ 255 ∷ 255 ∷ 255 ∷ 255 ∷ 255 ∷ 7 ∷ 8 ∷ 9 ∷ 8 ∷ 255 ∷ 11 ∷ 255 ∷ 13 ∷ 14 ∷ 7 ∷ 15 ∷ 16 ∷ 255 ∷ 255 ∷ 255 ∷ 20 ∷ 21 ∷ 22 ∷ 23 ∷ 255 ∷ 255 ∷ 8 ∷ 8 ∷ 255 ∷ 55 ∷ 255 ∷ 255 ∷ 255 ∷ 255 ∷ 255 ∷ 20 ∷ 21 ∷ 34 ∷ 35 ∷ 36 ∷ 255 ∷ 255 ∷ 255 ∷ 11 ∷ 11 ∷ 20 ∷ 21 ∷ 40 ∷ 255 ∷ 255 ∷ 255 ∷ 255 ∷ 255 ∷ 255 ∷ 255 ∷ 255 ∷ 255 ∷ 255 ∷ 255 ∷ 48 ∷ 48 ∷ 48 ∷ 255 ∷ 65 ∷ 51 ∷ 255 ∷ 255 ∷ 52 ∷ 53 ∷ 66 ∷ []) ∷
    (11 ∷ 255 ∷ 255 ∷ 255 ∷ 255 ∷ 255 ∷ 255 ∷ 255 ∷ 255 ∷ 8 ∷ 9 ∷ 8 ∷ 255 ∷ 11 ∷ 255 ∷ 13 ∷ 14 ∷ 8 ∷ 15 ∷ 16 ∷ 255 ∷ 255 ∷ 255 ∷ 20 ∷ 21 ∷ 255 ∷ 255 ∷ 255 ∷ 255 ∷ 8 ∷ 8 ∷ 255 ∷ 55 ∷ 255 ∷ 255 ∷ 255 ∷ 255 ∷ 255 ∷ 20 ∷ 21 ∷ 34 ∷ 35 ∷ 36 ∷ 255 ∷ 255 ∷ 255 ∷ 11 ∷ 11 ∷ 20 ∷ 21 ∷ 40 ∷ 255 ∷ 255 ∷ 255 ∷ 255 ∷ 255 ∷ 255 ∷ 255 ∷ 255 ∷ 255 ∷ 255 ∷ 255 ∷ 48 ∷ 48 ∷ 48 ∷ 255 ∷ 50 ∷ 51 ∷ 255 ∷ 255 ∷ 52 ∷ 53 ∷ 67 ∷ []) ∷
    (11 ∷ 255 ∷ 255 ∷ 255 ∷ 255 ∷ 255 ∷ 255 ∷ 255 ∷ 255 ∷ 8 ∷ 9 ∷ 8 ∷ 255 ∷ 11 ∷ 255 ∷ 13 ∷ 14 ∷ 9 ∷ 15 ∷ 16 ∷ 255 ∷ 255 ∷ 255 ∷ 20 ∷ 21 ∷ 255 ∷ 255 ∷ 255 ∷ 255 ∷ 8 ∷ 8 ∷ 255 ∷ 55 ∷ 255 ∷ 255 ∷ 255 ∷ 255 ∷ 255 ∷ 20 ∷ 21 ∷ 34 ∷ 35 ∷ 36 ∷ 255 ∷ 255 ∷ 255 ∷ 11 ∷ 11 ∷ 20 ∷ 21 ∷ 40 ∷ 255 ∷ 255 ∷ 255 ∷ 255 ∷ 255 ∷ 255 ∷ 255 ∷ 255 ∷ 255 ∷ 255 ∷ 255 ∷ 48 ∷ 59 ∷ 60 ∷ 255 ∷ 50 ∷ 51 ∷ 255 ∷ 255 ∷ 52 ∷ 53 ∷ 68 ∷ []) ∷
    (11 ∷ 1 ∷ 2 ∷ 3 ∷ 4 ∷ 5 ∷ 6 ∷ 2 ∷ 7 ∷ 8 ∷ 9 ∷ 8 ∷ 10 ∷ 11 ∷ 255 ∷ 13 ∷ 14 ∷ 10 ∷ 15 ∷ 16 ∷ 17 ∷ 18 ∷ 19 ∷ 20 ∷ 21 ∷ 22 ∷ 23 ∷ 24 ∷ 25 ∷ 8 ∷ 8 ∷ 27 ∷ 55 ∷ 29 ∷ 30 ∷ 31 ∷ 32 ∷ 33 ∷ 20 ∷ 21 ∷ 34 ∷ 35 ∷ 36 ∷ 37 ∷ 38 ∷ 39 ∷ 11 ∷ 11 ∷ 20 ∷ 21 ∷ 40 ∷ 41 ∷ 42 ∷ 43 ∷ 44 ∷ 45 ∷ 44 ∷ 45 ∷ 46 ∷ 47 ∷ 20 ∷ 21 ∷ 48 ∷ 48 ∷ 48 ∷ 49 ∷ 50 ∷ 51 ∷ 20 ∷ 20 ∷ 52 ∷ 53 ∷ 69 ∷ []) ∷
    (255 ∷ 255 ∷ 255 ∷ 255 ∷ 255 ∷ 255 ∷ 255 ∷ 255 ∷ 255 ∷ 255 ∷ 255 ∷ 255 ∷ 255 ∷ 255 ∷ 255 ∷ 255 ∷ 255 ∷ 255 ∷ 255 ∷ 255 ∷ 255 ∷ 255 ∷ 255 ∷ 255 ∷ 255 ∷ 255 ∷ 255 ∷ 255 ∷ 255 ∷ 255 ∷ 255 ∷ 255 ∷ 255 ∷ 255 ∷ 255 ∷ 255 ∷ 255 ∷ 255 ∷ 255 ∷ 255 ∷ 255 ∷ 255 ∷ 255 ∷ 255 ∷ 255 ∷ 255 ∷ 255 ∷ 255 ∷ 255 ∷ 255 ∷ 255 ∷ 255 ∷ 255 ∷ 255 ∷ 255 ∷ 255 ∷ 255 ∷ 255 ∷ 255 ∷ 255 ∷ 255 ∷ 255 ∷ 255 ∷ 255 ∷ 255 ∷ 255 ∷ 255 ∷ 255 ∷ 255 ∷ 255 ∷ 255 ∷ 255 ∷ 255 ∷ []) ∷
    (11 ∷ 255 ∷ 255 ∷ 255 ∷ 255 ∷ 255 ∷ 255 ∷ 255 ∷ 255 ∷ 255 ∷ 255 ∷ 255 ∷ 255 ∷ 11 ∷ 255 ∷ 13 ∷ 14 ∷ 12 ∷ 15 ∷ 16 ∷ 255 ∷ 255 ∷ 255 ∷ 20 ∷ 21 ∷ 22 ∷ 23 ∷ 255 ∷ 255 ∷ 255 ∷ 255 ∷ 255 ∷ 255 ∷ 255 ∷ 255 ∷ 255 ∷ 255 ∷ 255 ∷ 255 ∷ 255 ∷ 255 ∷ 255 ∷ 36 ∷ 255 ∷ 255 ∷ 255 ∷ 11 ∷ 11 ∷ 255 ∷ 255 ∷ 255 ∷ 255 ∷ 255 ∷ 255 ∷ 255 ∷ 255 ∷ 255 ∷ 255 ∷ 255 ∷ 255 ∷ 255 ∷ 255 ∷ 48 ∷ 48 ∷ 48 ∷ 255 ∷ 50 ∷ 51 ∷ 255 ∷ 255 ∷ 52 ∷ 53 ∷ 70 ∷ []) ∷
    (11 ∷ 255 ∷ 255 ∷ 255 ∷ 255 ∷ 255 ∷ 255 ∷ 255 ∷ 255 ∷ 8 ∷ 9 ∷ 8 ∷ 255 ∷ 11 ∷ 255 ∷ 13 ∷ 14 ∷ 13 ∷ 15 ∷ 16 ∷ 255 ∷ 255 ∷ 255 ∷ 20 ∷ 21 ∷ 22 ∷ 23 ∷ 255 ∷ 255 ∷ 8 ∷ 8 ∷ 255 ∷ 55 ∷ 255 ∷ 255 ∷ 255 ∷ 255 ∷ 255 ∷ 20 ∷ 21 ∷ 34 ∷ 35 ∷ 36 ∷ 255 ∷ 255 ∷ 255 ∷ 11 ∷ 11 ∷ 20 ∷ 21 ∷ 40 ∷ 255 ∷ 255 ∷ 255 ∷ 255 ∷ 255 ∷ 255 ∷ 255 ∷ 255 ∷ 255 ∷ 255 ∷ 255 ∷ 48 ∷ 48 ∷ 48 ∷ 255 ∷ 71 ∷ 51 ∷ 255 ∷ 255 ∷ 52 ∷ 53 ∷ 72 ∷ []) ∷
    (11 ∷ 255 ∷ 255 ∷ 255 ∷ 255 ∷ 255 ∷ 255 ∷ 255 ∷ 255 ∷ 8 ∷ 9 ∷ 8 ∷ 255 ∷ 11 ∷ 255 ∷ 13 ∷ 14 ∷ 14 ∷ 15 ∷ 16 ∷ 255 ∷ 255 ∷ 255 ∷ 20 ∷ 21 ∷ 22 ∷ 23 ∷ 255 ∷ 255 ∷ 8 ∷ 8 ∷ 255 ∷ 55 ∷ 255 ∷ 255 ∷ 255 ∷ 255 ∷ 255 ∷ 20 ∷ 21 ∷ 34 ∷ 35 ∷ 36 ∷ 255 ∷ 255 ∷ 255 ∷ 11 ∷ 11 ∷ 20 ∷ 21 ∷ 40 ∷ 255 ∷ 255 ∷ 255 ∷ 255 ∷ 255 ∷ 255 ∷ 255 ∷ 255 ∷ 255 ∷ 255 ∷ 255 ∷ 48 ∷ 59 ∷ 60 ∷ 255 ∷ 71 ∷ 51 ∷ 255 ∷ 255 ∷ 52 ∷ 53 ∷ 73 ∷ []) ∷
    (11 ∷ 1 ∷ 255 ∷ 3 ∷ 4 ∷ 5 ∷ 255 ∷ 255 ∷ 255 ∷ 8 ∷ 9 ∷ 8 ∷ 255 ∷ 11 ∷ 255 ∷ 13 ∷ 14 ∷ 15 ∷ 15 ∷ 16 ∷ 255 ∷ 255 ∷ 255 ∷ 20 ∷ 21 ∷ 22 ∷ 23 ∷ 255 ∷ 255 ∷ 8 ∷ 8 ∷ 27 ∷ 55 ∷ 255 ∷ 255 ∷ 255 ∷ 255 ∷ 255 ∷ 20 ∷ 21 ∷ 34 ∷ 35 ∷ 36 ∷ 255 ∷ 255 ∷ 255 ∷ 11 ∷ 11 ∷ 20 ∷ 21 ∷ 40 ∷ 41 ∷ 255 ∷ 255 ∷ 255 ∷ 255 ∷ 255 ∷ 255 ∷ 255 ∷ 255 ∷ 255 ∷ 255 ∷ 48 ∷ 48 ∷ 48 ∷ 255 ∷ 71 ∷ 51 ∷ 255 ∷ 255 ∷ 52 ∷ 53 ∷ 74 ∷ []) ∷
    (255 ∷ 255 ∷ 255 ∷ 255 ∷ 255 ∷ 255 ∷ 255 ∷ 255 ∷ 255 ∷ 255 ∷ 255 ∷ 255 ∷ 255 ∷ 255 ∷ 255 ∷ 255 ∷ 255 ∷ 255 ∷ 255 ∷ 255 ∷ 255 ∷ 255 ∷ 255 ∷ 255 ∷ 255 ∷ 255 ∷ 255 ∷ 255 ∷ 255 ∷ 255 ∷ 255 ∷ 255 ∷ 255 ∷ 255 ∷ 255 ∷ 255 ∷ 255 ∷ 255 ∷ 255 ∷ 255 ∷ 255 ∷ 255 ∷ 255 ∷ 255 ∷ 255 ∷ 255 ∷ 11 ∷ 255 ∷ 255 ∷ 255 ∷ 255 ∷ 255 ∷ 255 ∷ 255 ∷ 255 ∷ 255 ∷ 255 ∷ 255 ∷ 255 ∷ 255 ∷ 255 ∷ 255 ∷ 255 ∷ 255 ∷ 255 ∷ 255 ∷ 255 ∷ 255 ∷ 255 ∷ 255 ∷ 255 ∷ 255 ∷ 255 ∷ []) ∷
    (11 ∷ 255 ∷ 255 ∷ 255 ∷ 255 ∷ 255 ∷ 255 ∷ 255 ∷ 255 ∷ 8 ∷ 9 ∷ 8 ∷ 255 ∷ 11 ∷ 255 ∷ 13 ∷ 14 ∷ 17 ∷ 15 ∷ 16 ∷ 255 ∷ 255 ∷ 19 ∷ 20 ∷ 21 ∷ 22 ∷ 23 ∷ 255 ∷ 255 ∷ 8 ∷ 8 ∷ 255 ∷ 55 ∷ 255 ∷ 255 ∷ 255 ∷ 255 ∷ 255 ∷ 20 ∷ 21 ∷ 34 ∷ 35 ∷ 36 ∷ 255 ∷ 255 ∷ 255 ∷ 11 ∷ 11 ∷ 20 ∷ 21 ∷ 40 ∷ 255 ∷ 255 ∷ 255 ∷ 44 ∷ 45 ∷ 255 ∷ 255 ∷ 255 ∷ 255 ∷ 255 ∷ 255 ∷ 48 ∷ 48 ∷ 48 ∷ 255 ∷ 50 ∷ 51 ∷ 255 ∷ 255 ∷ 52 ∷ 53 ∷ 75 ∷ []) ∷
    (11 ∷ 255 ∷ 255 ∷ 255 ∷ 255 ∷ 255 ∷ 255 ∷ 255 ∷ 255 ∷ 8 ∷ 9 ∷ 8 ∷ 255 ∷ 11 ∷ 255 ∷ 13 ∷ 14 ∷ 18 ∷ 15 ∷ 16 ∷ 255 ∷ 255 ∷ 19 ∷ 20 ∷ 21 ∷ 22 ∷ 23 ∷ 255 ∷ 255 ∷ 8 ∷ 8 ∷ 255 ∷ 55 ∷ 255 ∷ 255 ∷ 255 ∷ 255 ∷ 255 ∷ 20 ∷ 21 ∷ 34 ∷ 35 ∷ 36 ∷ 255 ∷ 255 ∷ 255 ∷ 11 ∷ 11 ∷ 20 ∷ 21 ∷ 40 ∷ 255 ∷ 255 ∷ 255 ∷ 44 ∷ 45 ∷ 255 ∷ 255 ∷ 255 ∷ 255 ∷ 255 ∷ 255 ∷ 48 ∷ 59 ∷ 60 ∷ 255 ∷ 50 ∷ 51 ∷ 255 ∷ 255 ∷ 52 ∷ 53 ∷ 76 ∷ []) ∷
    (11 ∷ 255 ∷ 255 ∷ 255 ∷ 255 ∷ 255 ∷ 255 ∷ 255 ∷ 255 ∷ 8 ∷ 9 ∷ 8 ∷ 255 ∷ 11 ∷ 255 ∷ 13 ∷ 14 ∷ 19 ∷ 15 ∷ 16 ∷ 255 ∷ 255 ∷ 255 ∷ 20 ∷ 21 ∷ 22 ∷ 23 ∷ 255 ∷ 255 ∷ 8 ∷ 8 ∷ 255 ∷ 55 ∷ 255 ∷ 255 ∷ 255 ∷ 255 ∷ 255 ∷ 20 ∷ 21 ∷ 34 ∷ 35 ∷ 36 ∷ 255 ∷ 255 ∷ 255 ∷ 11 ∷ 11 ∷ 20 ∷ 21 ∷ 40 ∷ 255 ∷ 255 ∷ 255 ∷ 44 ∷ 45 ∷ 255 ∷ 255 ∷ 255 ∷ 255 ∷ 255 ∷ 255 ∷ 48 ∷ 59 ∷ 60 ∷ 255 ∷ 50 ∷ 51 ∷ 255 ∷ 255 ∷ 52 ∷ 53 ∷ 77 ∷ []) ∷
    (11 ∷ 255 ∷ 255 ∷ 255 ∷ 255 ∷ 255 ∷ 255 ∷ 255 ∷ 255 ∷ 8 ∷ 9 ∷ 8 ∷ 255 ∷ 11 ∷ 255 ∷ 13 ∷ 14 ∷ 20 ∷ 15 ∷ 16 ∷ 255 ∷ 255 ∷ 255 ∷ 20 ∷ 21 ∷ 22 ∷ 23 ∷ 255 ∷ 255 ∷ 8 ∷ 8 ∷ 255 ∷ 55 ∷ 255 ∷ 255 ∷ 255 ∷ 255 ∷ 255 ∷ 20 ∷ 21 ∷ 34 ∷ 35 ∷ 36 ∷ 255 ∷ 255 ∷ 255 ∷ 11 ∷ 11 ∷ 20 ∷ 21 ∷ 40 ∷ 255 ∷ 255 ∷ 255 ∷ 255 ∷ 255 ∷ 255 ∷ 255 ∷ 255 ∷ 255 ∷ 255 ∷ 255 ∷ 48 ∷ 48 ∷ 48 ∷ 255 ∷ 50 ∷ 51 ∷ 255 ∷ 255 ∷ 52 ∷ 53 ∷ 78 ∷ []) ∷
    (11 ∷ 255 ∷ 255 ∷ 255 ∷ 255 ∷ 255 ∷ 255 ∷ 255 ∷ 255 ∷ 8 ∷ 9 ∷ 8 ∷ 255 ∷ 11 ∷ 255 ∷ 13 ∷ 14 ∷ 21 ∷ 15 ∷ 16 ∷ 255 ∷ 255 ∷ 255 ∷ 20 ∷ 21 ∷ 22 ∷ 23 ∷ 255 ∷ 255 ∷ 8 ∷ 8 ∷ 255 ∷ 55 ∷ 255 ∷ 255 ∷ 255 ∷ 255 ∷ 255 ∷ 20 ∷ 21 ∷ 34 ∷ 35 ∷ 36 ∷ 255 ∷ 255 ∷ 255 ∷ 11 ∷ 11 ∷ 20 ∷ 21 ∷ 40 ∷ 255 ∷ 255 ∷ 255 ∷ 255 ∷ 255 ∷ 255 ∷ 255 ∷ 255 ∷ 255 ∷ 255 ∷ 255 ∷ 48 ∷ 59 ∷ 60 ∷ 255 ∷ 50 ∷ 51 ∷ 255 ∷ 255 ∷ 52 ∷ 53 ∷ 79 ∷ []) ∷
    (11 ∷ 1 ∷ 2 ∷ 3 ∷ 4 ∷ 5 ∷ 6 ∷ 2 ∷ 7 ∷ 8 ∷ 9 ∷ 8 ∷ 10 ∷ 11 ∷ 12 ∷ 13 ∷ 14 ∷ 22 ∷ 15 ∷ 16 ∷ 17 ∷ 18 ∷ 19 ∷ 20 ∷ 21 ∷ 22 ∷ 23 ∷ 24 ∷ 25 ∷ 26 ∷ 8 ∷ 27 ∷ 28 ∷ 29 ∷ 30 ∷ 31 ∷ 32 ∷ 33 ∷ 20 ∷ 21 ∷ 34 ∷ 35 ∷ 36 ∷ 37 ∷ 38 ∷ 39 ∷ 11 ∷ 11 ∷ 20 ∷ 21 ∷ 40 ∷ 41 ∷ 42 ∷ 43 ∷ 44 ∷ 45 ∷ 44 ∷ 45 ∷ 46 ∷ 47 ∷ 20 ∷ 21 ∷ 48 ∷ 42 ∷ 48 ∷ 49 ∷ 50 ∷ 51 ∷ 20 ∷ 20 ∷ 52 ∷ 53 ∷ 22 ∷ []) ∷
    (11 ∷ 1 ∷ 2 ∷ 3 ∷ 4 ∷ 5 ∷ 6 ∷ 2 ∷ 7 ∷ 8 ∷ 9 ∷ 8 ∷ 10 ∷ 11 ∷ 12 ∷ 13 ∷ 14 ∷ 23 ∷ 15 ∷ 16 ∷ 17 ∷ 18 ∷ 19 ∷ 20 ∷ 21 ∷ 22 ∷ 23 ∷ 24 ∷ 25 ∷ 26 ∷ 8 ∷ 27 ∷ 28 ∷ 29 ∷ 30 ∷ 31 ∷ 32 ∷ 33 ∷ 20 ∷ 21 ∷ 34 ∷ 35 ∷ 36 ∷ 37 ∷ 38 ∷ 39 ∷ 11 ∷ 11 ∷ 20 ∷ 21 ∷ 40 ∷ 41 ∷ 42 ∷ 43 ∷ 44 ∷ 45 ∷ 44 ∷ 45 ∷ 46 ∷ 47 ∷ 20 ∷ 21 ∷ 48 ∷ 42 ∷ 60 ∷ 49 ∷ 50 ∷ 51 ∷ 20 ∷ 20 ∷ 52 ∷ 53 ∷ 23 ∷ []) ∷
    (11 ∷ 255 ∷ 255 ∷ 255 ∷ 255 ∷ 255 ∷ 255 ∷ 255 ∷ 255 ∷ 8 ∷ 9 ∷ 8 ∷ 255 ∷ 11 ∷ 255 ∷ 13 ∷ 14 ∷ 24 ∷ 15 ∷ 16 ∷ 255 ∷ 255 ∷ 255 ∷ 20 ∷ 21 ∷ 22 ∷ 23 ∷ 255 ∷ 255 ∷ 8 ∷ 8 ∷ 255 ∷ 55 ∷ 255 ∷ 255 ∷ 255 ∷ 255 ∷ 255 ∷ 20 ∷ 21 ∷ 34 ∷ 35 ∷ 36 ∷ 255 ∷ 38 ∷ 39 ∷ 11 ∷ 11 ∷ 20 ∷ 21 ∷ 40 ∷ 255 ∷ 255 ∷ 255 ∷ 44 ∷ 45 ∷ 255 ∷ 255 ∷ 255 ∷ 255 ∷ 255 ∷ 255 ∷ 48 ∷ 59 ∷ 60 ∷ 255 ∷ 50 ∷ 51 ∷ 255 ∷ 255 ∷ 52 ∷ 53 ∷ 80 ∷ []) ∷
    (11 ∷ 255 ∷ 255 ∷ 255 ∷ 255 ∷ 255 ∷ 255 ∷ 255 ∷ 255 ∷ 8 ∷ 9 ∷ 8 ∷ 255 ∷ 11 ∷ 255 ∷ 13 ∷ 14 ∷ 25 ∷ 15 ∷ 16 ∷ 255 ∷ 255 ∷ 255 ∷ 20 ∷ 21 ∷ 22 ∷ 23 ∷ 255 ∷ 255 ∷ 8 ∷ 8 ∷ 255 ∷ 55 ∷ 255 ∷ 255 ∷ 255 ∷ 255 ∷ 255 ∷ 20 ∷ 21 ∷ 34 ∷ 35 ∷ 36 ∷ 255 ∷ 38 ∷ 255 ∷ 11 ∷ 11 ∷ 20 ∷ 21 ∷ 40 ∷ 255 ∷ 255 ∷ 255 ∷ 44 ∷ 45 ∷ 255 ∷ 255 ∷ 255 ∷ 255 ∷ 255 ∷ 255 ∷ 48 ∷ 59 ∷ 60 ∷ 255 ∷ 50 ∷ 51 ∷ 255 ∷ 255 ∷ 52 ∷ 53 ∷ 81 ∷ []) ∷
    (11 ∷ 1 ∷ 255 ∷ 3 ∷ 4 ∷ 5 ∷ 255 ∷ 255 ∷ 255 ∷ 8 ∷ 9 ∷ 8 ∷ 255 ∷ 11 ∷ 255 ∷ 13 ∷ 14 ∷ 26 ∷ 15 ∷ 16 ∷ 255 ∷ 255 ∷ 255 ∷ 20 ∷ 21 ∷ 255 ∷ 255 ∷ 255 ∷ 255 ∷ 8 ∷ 8 ∷ 27 ∷ 55 ∷ 255 ∷ 255 ∷ 255 ∷ 255 ∷ 255 ∷ 20 ∷ 21 ∷ 34 ∷ 35 ∷ 36 ∷ 255 ∷ 255 ∷ 255 ∷ 11 ∷ 11 ∷ 20 ∷ 21 ∷ 40 ∷ 255 ∷ 255 ∷ 255 ∷ 255 ∷ 255 ∷ 255 ∷ 255 ∷ 255 ∷ 255 ∷ 255 ∷ 255 ∷ 48 ∷ 48 ∷ 48 ∷ 255 ∷ 50 ∷ 51 ∷ 255 ∷ 255 ∷ 52 ∷ 53 ∷ 82 ∷ []) ∷
    (11 ∷ 1 ∷ 255 ∷ 3 ∷ 4 ∷ 5 ∷ 255 ∷ 255 ∷ 255 ∷ 8 ∷ 9 ∷ 8 ∷ 255 ∷ 11 ∷ 255 ∷ 13 ∷ 14 ∷ 27 ∷ 15 ∷ 16 ∷ 255 ∷ 255 ∷ 255 ∷ 20 ∷ 21 ∷ 22 ∷ 23 ∷ 255 ∷ 255 ∷ 83 ∷ 83 ∷ 27 ∷ 83 ∷ 255 ∷ 255 ∷ 255 ∷ 32 ∷ 33 ∷ 20 ∷ 21 ∷ 34 ∷ 35 ∷ 36 ∷ 255 ∷ 255 ∷ 255 ∷ 11 ∷ 11 ∷ 20 ∷ 21 ∷ 40 ∷ 41 ∷ 42 ∷ 255 ∷ 44 ∷ 45 ∷ 255 ∷ 255 ∷ 46 ∷ 47 ∷ 20 ∷ 21 ∷ 48 ∷ 48 ∷ 48 ∷ 255 ∷ 50 ∷ 51 ∷ 255 ∷ 255 ∷ 52 ∷ 53 ∷ 84 ∷ []) ∷
    (11 ∷ 1 ∷ 255 ∷ 3 ∷ 4 ∷ 5 ∷ 255 ∷ 255 ∷ 255 ∷ 8 ∷ 9 ∷ 8 ∷ 255 ∷ 11 ∷ 255 ∷ 13 ∷ 14 ∷ 28 ∷ 15 ∷ 16 ∷ 255 ∷ 255 ∷ 255 ∷ 20 ∷ 21 ∷ 255 ∷ 255 ∷ 255 ∷ 255 ∷ 8 ∷ 8 ∷ 27 ∷ 55 ∷ 255 ∷ 255 ∷ 255 ∷ 255 ∷ 255 ∷ 20 ∷ 21 ∷ 34 ∷ 35 ∷ 36 ∷ 255 ∷ 255 ∷ 255 ∷ 11 ∷ 11 ∷ 20 ∷ 21 ∷ 40 ∷ 41 ∷ 255 ∷ 255 ∷ 255 ∷ 255 ∷ 255 ∷ 255 ∷ 255 ∷ 255 ∷ 255 ∷ 255 ∷ 48 ∷ 48 ∷ 48 ∷ 255 ∷ 50 ∷ 51 ∷ 255 ∷ 255 ∷ 52 ∷ 53 ∷ 85 ∷ []) ∷
    (11 ∷ 255 ∷ 255 ∷ 255 ∷ 255 ∷ 255 ∷ 255 ∷ 255 ∷ 255 ∷ 8 ∷ 9 ∷ 255 ∷ 255 ∷ 11 ∷ 255 ∷ 13 ∷ 14 ∷ 29 ∷ 15 ∷ 16 ∷ 255 ∷ 255 ∷ 255 ∷ 20 ∷ 21 ∷ 22 ∷ 23 ∷ 255 ∷ 255 ∷ 8 ∷ 255 ∷ 255 ∷ 55 ∷ 255 ∷ 255 ∷ 255 ∷ 255 ∷ 255 ∷ 20 ∷ 21 ∷ 34 ∷ 35 ∷ 36 ∷ 255 ∷ 255 ∷ 255 ∷ 11 ∷ 11 ∷ 20 ∷ 21 ∷ 40 ∷ 255 ∷ 255 ∷ 255 ∷ 44 ∷ 45 ∷ 255 ∷ 255 ∷ 255 ∷ 255 ∷ 255 ∷ 255 ∷ 48 ∷ 48 ∷ 48 ∷ 255 ∷ 50 ∷ 51 ∷ 255 ∷ 255 ∷ 52 ∷ 53 ∷ 86 ∷ []) ∷
    (11 ∷ 255 ∷ 255 ∷ 255 ∷ 255 ∷ 255 ∷ 255 ∷ 255 ∷ 255 ∷ 8 ∷ 9 ∷ 255 ∷ 255 ∷ 11 ∷ 255 ∷ 13 ∷ 14 ∷ 30 ∷ 15 ∷ 16 ∷ 255 ∷ 255 ∷ 255 ∷ 20 ∷ 21 ∷ 22 ∷ 23 ∷ 255 ∷ 255 ∷ 8 ∷ 255 ∷ 255 ∷ 55 ∷ 255 ∷ 255 ∷ 255 ∷ 255 ∷ 255 ∷ 20 ∷ 21 ∷ 34 ∷ 35 ∷ 36 ∷ 255 ∷ 255 ∷ 255 ∷ 11 ∷ 11 ∷ 20 ∷ 21 ∷ 40 ∷ 255 ∷ 255 ∷ 255 ∷ 44 ∷ 45 ∷ 255 ∷ 255 ∷ 255 ∷ 255 ∷ 255 ∷ 255 ∷ 48 ∷ 59 ∷ 60 ∷ 255 ∷ 50 ∷ 51 ∷ 255 ∷ 255 ∷ 52 ∷ 53 ∷ 87 ∷ []) ∷
    (11 ∷ 255 ∷ 255 ∷ 255 ∷ 255 ∷ 255 ∷ 255 ∷ 255 ∷ 255 ∷ 8 ∷ 9 ∷ 255 ∷ 255 ∷ 11 ∷ 255 ∷ 13 ∷ 14 ∷ 31 ∷ 15 ∷ 16 ∷ 255 ∷ 255 ∷ 19 ∷ 20 ∷ 21 ∷ 22 ∷ 23 ∷ 255 ∷ 255 ∷ 8 ∷ 255 ∷ 255 ∷ 55 ∷ 255 ∷ 255 ∷ 255 ∷ 255 ∷ 255 ∷ 20 ∷ 21 ∷ 34 ∷ 35 ∷ 36 ∷ 255 ∷ 255 ∷ 255 ∷ 11 ∷ 11 ∷ 20 ∷ 21 ∷ 40 ∷ 255 ∷ 255 ∷ 255 ∷ 44 ∷ 45 ∷ 255 ∷ 255 ∷ 255 ∷ 255 ∷ 255 ∷ 255 ∷ 48 ∷ 48 ∷ 48 ∷ 255 ∷ 50 ∷ 51 ∷ 255 ∷ 255 ∷ 52 ∷ 53 ∷ 88 ∷ []) ∷
    (11 ∷ 1 ∷ 255 ∷ 3 ∷ 4 ∷ 5 ∷ 255 ∷ 255 ∷ 255 ∷ 8 ∷ 9 ∷ 255 ∷ 255 ∷ 11 ∷ 255 ∷ 13 ∷ 14 ∷ 32 ∷ 15 ∷ 16 ∷ 255 ∷ 255 ∷ 255 ∷ 20 ∷ 21 ∷ 22 ∷ 23 ∷ 255 ∷ 255 ∷ 8 ∷ 255 ∷ 27 ∷ 55 ∷ 255 ∷ 255 ∷ 255 ∷ 32 ∷ 33 ∷ 20 ∷ 21 ∷ 34 ∷ 35 ∷ 36 ∷ 255 ∷ 255 ∷ 255 ∷ 11 ∷ 11 ∷ 20 ∷ 21 ∷ 40 ∷ 41 ∷ 255 ∷ 255 ∷ 44 ∷ 45 ∷ 255 ∷ 255 ∷ 255 ∷ 255 ∷ 255 ∷ 255 ∷ 48 ∷ 48 ∷ 48 ∷ 255 ∷ 50 ∷ 51 ∷ 255 ∷ 255 ∷ 52 ∷ 53 ∷ 89 ∷ []) ∷
    (11 ∷ 1 ∷ 255 ∷ 3 ∷ 4 ∷ 5 ∷ 255 ∷ 255 ∷ 255 ∷ 8 ∷ 9 ∷ 255 ∷ 255 ∷ 11 ∷ 255 ∷ 13 ∷ 14 ∷ 33 ∷ 15 ∷ 16 ∷ 255 ∷ 255 ∷ 255 ∷ 20 ∷ 21 ∷ 22 ∷ 23 ∷ 255 ∷ 255 ∷ 8 ∷ 255 ∷ 27 ∷ 55 ∷ 255 ∷ 255 ∷ 255 ∷ 32 ∷ 33 ∷ 20 ∷ 21 ∷ 34 ∷ 35 ∷ 36 ∷ 255 ∷ 255 ∷ 255 ∷ 11 ∷ 11 ∷ 20 ∷ 21 ∷ 40 ∷ 41 ∷ 255 ∷ 255 ∷ 44 ∷ 45 ∷ 255 ∷ 255 ∷ 255 ∷ 255 ∷ 255 ∷ 255 ∷ 48 ∷ 59 ∷ 60 ∷ 255 ∷ 50 ∷ 51 ∷ 255 ∷ 255 ∷ 52 ∷ 53 ∷ 90 ∷ []) ∷
    (11 ∷ 255 ∷ 255 ∷ 255 ∷ 255 ∷ 255 ∷ 255 ∷ 255 ∷ 255 ∷ 8 ∷ 9 ∷ 8 ∷ 255 ∷ 11 ∷ 255 ∷ 13 ∷ 14 ∷ 34 ∷ 15 ∷ 16 ∷ 255 ∷ 255 ∷ 255 ∷ 20 ∷ 21 ∷ 22 ∷ 23 ∷ 255 ∷ 255 ∷ 8 ∷ 8 ∷ 255 ∷ 55 ∷ 255 ∷ 255 ∷ 255 ∷ 255 ∷ 255 ∷ 20 ∷ 21 ∷ 255 ∷ 255 ∷ 36 ∷ 255 ∷ 255 ∷ 255 ∷ 11 ∷ 11 ∷ 20 ∷ 21 ∷ 40 ∷ 255 ∷ 255 ∷ 255 ∷ 255 ∷ 255 ∷ 255 ∷ 255 ∷ 255 ∷ 255 ∷ 255 ∷ 255 ∷ 48 ∷ 48 ∷ 48 ∷ 255 ∷ 50 ∷ 51 ∷ 255 ∷ 255 ∷ 52 ∷ 53 ∷ 91 ∷ []) ∷
    (11 ∷ 255 ∷ 255 ∷ 255 ∷ 255 ∷ 255 ∷ 255 ∷ 255 ∷ 255 ∷ 8 ∷ 9 ∷ 8 ∷ 255 ∷ 11 ∷ 255 ∷ 13 ∷ 14 ∷ 35 ∷ 15 ∷ 16 ∷ 255 ∷ 255 ∷ 255 ∷ 20 ∷ 21 ∷ 22 ∷ 23 ∷ 255 ∷ 255 ∷ 8 ∷ 8 ∷ 255 ∷ 55 ∷ 255 ∷ 255 ∷ 255 ∷ 255 ∷ 255 ∷ 20 ∷ 21 ∷ 255 ∷ 255 ∷ 36 ∷ 255 ∷ 255 ∷ 255 ∷ 11 ∷ 11 ∷ 20 ∷ 21 ∷ 40 ∷ 255 ∷ 255 ∷ 255 ∷ 255 ∷ 255 ∷ 255 ∷ 255 ∷ 255 ∷ 255 ∷ 255 ∷ 255 ∷ 48 ∷ 59 ∷ 60 ∷ 255 ∷ 50 ∷ 51 ∷ 255 ∷ 255 ∷ 52 ∷ 53 ∷ 92 ∷ []) ∷
    (11 ∷ 1 ∷ 255 ∷ 3 ∷ 4 ∷ 5 ∷ 255 ∷ 255 ∷ 255 ∷ 8 ∷ 9 ∷ 8 ∷ 255 ∷ 11 ∷ 255 ∷ 13 ∷ 14 ∷ 36 ∷ 15 ∷ 16 ∷ 255 ∷ 255 ∷ 255 ∷ 20 ∷ 21 ∷ 22 ∷ 23 ∷ 255 ∷ 255 ∷ 8 ∷ 8 ∷ 27 ∷ 55 ∷ 255 ∷ 255 ∷ 255 ∷ 255 ∷ 255 ∷ 20 ∷ 21 ∷ 34 ∷ 35 ∷ 36 ∷ 255 ∷ 255 ∷ 255 ∷ 11 ∷ 11 ∷ 20 ∷ 21 ∷ 40 ∷ 41 ∷ 255 ∷ 255 ∷ 255 ∷ 255 ∷ 255 ∷ 255 ∷ 255 ∷ 255 ∷ 255 ∷ 255 ∷ 48 ∷ 48 ∷ 48 ∷ 255 ∷ 50 ∷ 51 ∷ 255 ∷ 255 ∷ 52 ∷ 53 ∷ 93 ∷ []) ∷
    (11 ∷ 255 ∷ 255 ∷ 255 ∷ 255 ∷ 255 ∷ 255 ∷ 255 ∷ 255 ∷ 8 ∷ 9 ∷ 8 ∷ 255 ∷ 11 ∷ 255 ∷ 13 ∷ 14 ∷ 37 ∷ 15 ∷ 16 ∷ 255 ∷ 255 ∷ 255 ∷ 20 ∷ 21 ∷ 22 ∷ 23 ∷ 24 ∷ 25 ∷ 8 ∷ 8 ∷ 255 ∷ 55 ∷ 255 ∷ 255 ∷ 255 ∷ 255 ∷ 255 ∷ 20 ∷ 21 ∷ 34 ∷ 35 ∷ 36 ∷ 37 ∷ 255 ∷ 39 ∷ 11 ∷ 11 ∷ 20 ∷ 21 ∷ 40 ∷ 255 ∷ 255 ∷ 255 ∷ 44 ∷ 45 ∷ 255 ∷ 255 ∷ 255 ∷ 255 ∷ 255 ∷ 255 ∷ 48 ∷ 59 ∷ 60 ∷ 255 ∷ 50 ∷ 51 ∷ 255 ∷ 255 ∷ 52 ∷ 53 ∷ 94 ∷ []) ∷
    (11 ∷ 255 ∷ 255 ∷ 255 ∷ 255 ∷ 255 ∷ 255 ∷ 255 ∷ 255 ∷ 8 ∷ 9 ∷ 8 ∷ 255 ∷ 11 ∷ 255 ∷ 13 ∷ 14 ∷ 38 ∷ 15 ∷ 16 ∷ 255 ∷ 255 ∷ 255 ∷ 20 ∷ 21 ∷ 22 ∷ 23 ∷ 255 ∷ 255 ∷ 8 ∷ 8 ∷ 255 ∷ 55 ∷ 255 ∷ 255 ∷ 255 ∷ 255 ∷ 255 ∷ 20 ∷ 21 ∷ 34 ∷ 35 ∷ 36 ∷ 255 ∷ 38 ∷ 255 ∷ 11 ∷ 11 ∷ 20 ∷ 21 ∷ 40 ∷ 255 ∷ 255 ∷ 255 ∷ 44 ∷ 45 ∷ 255 ∷ 255 ∷ 255 ∷ 255 ∷ 255 ∷ 255 ∷ 48 ∷ 48 ∷ 48 ∷ 255 ∷ 50 ∷ 51 ∷ 255 ∷ 255 ∷ 52 ∷ 53 ∷ 95 ∷ []) ∷
    (11 ∷ 255 ∷ 255 ∷ 255 ∷ 255 ∷ 255 ∷ 255 ∷ 255 ∷ 255 ∷ 8 ∷ 9 ∷ 8 ∷ 255 ∷ 11 ∷ 255 ∷ 13 ∷ 14 ∷ 39 ∷ 15 ∷ 16 ∷ 255 ∷ 255 ∷ 255 ∷ 20 ∷ 21 ∷ 22 ∷ 23 ∷ 255 ∷ 255 ∷ 8 ∷ 8 ∷ 255 ∷ 55 ∷ 255 ∷ 255 ∷ 255 ∷ 255 ∷ 255 ∷ 20 ∷ 21 ∷ 34 ∷ 35 ∷ 36 ∷ 255 ∷ 38 ∷ 39 ∷ 11 ∷ 11 ∷ 20 ∷ 21 ∷ 40 ∷ 255 ∷ 255 ∷ 255 ∷ 44 ∷ 45 ∷ 255 ∷ 255 ∷ 255 ∷ 255 ∷ 255 ∷ 255 ∷ 48 ∷ 48 ∷ 48 ∷ 255 ∷ 50 ∷ 51 ∷ 255 ∷ 255 ∷ 52 ∷ 53 ∷ 96 ∷ []) ∷
    (11 ∷ 1 ∷ 255 ∷ 3 ∷ 4 ∷ 5 ∷ 255 ∷ 255 ∷ 255 ∷ 8 ∷ 9 ∷ 8 ∷ 255 ∷ 11 ∷ 255 ∷ 13 ∷ 14 ∷ 40 ∷ 15 ∷ 16 ∷ 255 ∷ 255 ∷ 255 ∷ 20 ∷ 21 ∷ 22 ∷ 23 ∷ 255 ∷ 255 ∷ 8 ∷ 8 ∷ 27 ∷ 55 ∷ 255 ∷ 255 ∷ 255 ∷ 32 ∷ 33 ∷ 20 ∷ 21 ∷ 34 ∷ 35 ∷ 36 ∷ 255 ∷ 255 ∷ 255 ∷ 11 ∷ 11 ∷ 20 ∷ 21 ∷ 40 ∷ 41 ∷ 255 ∷ 255 ∷ 255 ∷ 255 ∷ 255 ∷ 255 ∷ 255 ∷ 255 ∷ 255 ∷ 255 ∷ 48 ∷ 59 ∷ 60 ∷ 255 ∷ 50 ∷ 51 ∷ 255 ∷ 255 ∷ 52 ∷ 53 ∷ 97 ∷ []) ∷
    (11 ∷ 1 ∷ 255 ∷ 3 ∷ 4 ∷ 5 ∷ 255 ∷ 255 ∷ 255 ∷ 8 ∷ 9 ∷ 8 ∷ 255 ∷ 11 ∷ 255 ∷ 98 ∷ 99 ∷ 41 ∷ 100 ∷ 16 ∷ 255 ∷ 255 ∷ 255 ∷ 20 ∷ 21 ∷ 22 ∷ 23 ∷ 255 ∷ 255 ∷ 8 ∷ 8 ∷ 27 ∷ 55 ∷ 255 ∷ 255 ∷ 255 ∷ 32 ∷ 33 ∷ 20 ∷ 21 ∷ 34 ∷ 35 ∷ 101 ∷ 255 ∷ 255 ∷ 255 ∷ 11 ∷ 11 ∷ 20 ∷ 21 ∷ 40 ∷ 41 ∷ 42 ∷ 255 ∷ 44 ∷ 45 ∷ 255 ∷ 255 ∷ 46 ∷ 47 ∷ 20 ∷ 21 ∷ 48 ∷ 48 ∷ 48 ∷ 255 ∷ 50 ∷ 102 ∷ 255 ∷ 255 ∷ 52 ∷ 53 ∷ 103 ∷ []) ∷
    (11 ∷ 1 ∷ 2 ∷ 3 ∷ 4 ∷ 5 ∷ 6 ∷ 2 ∷ 7 ∷ 8 ∷ 9 ∷ 8 ∷ 10 ∷ 11 ∷ 12 ∷ 13 ∷ 14 ∷ 42 ∷ 15 ∷ 16 ∷ 17 ∷ 18 ∷ 19 ∷ 20 ∷ 21 ∷ 22 ∷ 23 ∷ 24 ∷ 25 ∷ 8 ∷ 8 ∷ 27 ∷ 55 ∷ 29 ∷ 30 ∷ 31 ∷ 32 ∷ 33 ∷ 20 ∷ 21 ∷ 34 ∷ 35 ∷ 36 ∷ 37 ∷ 38 ∷ 39 ∷ 11 ∷ 11 ∷ 20 ∷ 21 ∷ 40 ∷ 41 ∷ 42 ∷ 43 ∷ 44 ∷ 45 ∷ 44 ∷ 45 ∷ 46 ∷ 47 ∷ 20 ∷ 21 ∷ 48 ∷ 42 ∷ 48 ∷ 49 ∷ 104 ∷ 51 ∷ 20 ∷ 20 ∷ 52 ∷ 53 ∷ 42 ∷ []) ∷
    (11 ∷ 1 ∷ 2 ∷ 3 ∷ 4 ∷ 5 ∷ 6 ∷ 2 ∷ 7 ∷ 8 ∷ 9 ∷ 8 ∷ 10 ∷ 11 ∷ 12 ∷ 13 ∷ 14 ∷ 43 ∷ 15 ∷ 16 ∷ 17 ∷ 18 ∷ 19 ∷ 20 ∷ 21 ∷ 22 ∷ 23 ∷ 24 ∷ 25 ∷ 8 ∷ 8 ∷ 27 ∷ 55 ∷ 29 ∷ 30 ∷ 31 ∷ 32 ∷ 33 ∷ 20 ∷ 21 ∷ 34 ∷ 35 ∷ 36 ∷ 37 ∷ 38 ∷ 39 ∷ 11 ∷ 11 ∷ 20 ∷ 21 ∷ 40 ∷ 41 ∷ 42 ∷ 43 ∷ 44 ∷ 45 ∷ 44 ∷ 45 ∷ 46 ∷ 47 ∷ 20 ∷ 21 ∷ 48 ∷ 42 ∷ 60 ∷ 49 ∷ 104 ∷ 51 ∷ 20 ∷ 20 ∷ 52 ∷ 53 ∷ 43 ∷ []) ∷
    (11 ∷ 1 ∷ 255 ∷ 3 ∷ 4 ∷ 5 ∷ 255 ∷ 255 ∷ 255 ∷ 8 ∷ 9 ∷ 8 ∷ 255 ∷ 11 ∷ 255 ∷ 13 ∷ 14 ∷ 44 ∷ 15 ∷ 16 ∷ 255 ∷ 255 ∷ 255 ∷ 20 ∷ 21 ∷ 22 ∷ 23 ∷ 255 ∷ 255 ∷ 8 ∷ 8 ∷ 27 ∷ 55 ∷ 255 ∷ 255 ∷ 255 ∷ 255 ∷ 255 ∷ 20 ∷ 21 ∷ 34 ∷ 35 ∷ 36 ∷ 255 ∷ 255 ∷ 255 ∷ 11 ∷ 11 ∷ 20 ∷ 21 ∷ 40 ∷ 41 ∷ 105 ∷ 105 ∷ 255 ∷ 255 ∷ 255 ∷ 255 ∷ 255 ∷ 255 ∷ 255 ∷ 255 ∷ 48 ∷ 48 ∷ 48 ∷ 255 ∷ 50 ∷ 51 ∷ 255 ∷ 255 ∷ 52 ∷ 53 ∷ 106 ∷ []) ∷
    (11 ∷ 1 ∷ 255 ∷ 3 ∷ 4 ∷ 5 ∷ 255 ∷ 255 ∷ 255 ∷ 8 ∷ 9 ∷ 8 ∷ 255 ∷ 11 ∷ 255 ∷ 13 ∷ 14 ∷ 45 ∷ 15 ∷ 16 ∷ 255 ∷ 255 ∷ 255 ∷ 20 ∷ 21 ∷ 22 ∷ 23 ∷ 255 ∷ 255 ∷ 8 ∷ 8 ∷ 27 ∷ 55 ∷ 255 ∷ 255 ∷ 255 ∷ 255 ∷ 255 ∷ 20 ∷ 21 ∷ 34 ∷ 35 ∷ 36 ∷ 255 ∷ 255 ∷ 255 ∷ 11 ∷ 11 ∷ 20 ∷ 21 ∷ 40 ∷ 41 ∷ 105 ∷ 105 ∷ 255 ∷ 255 ∷ 255 ∷ 255 ∷ 255 ∷ 255 ∷ 255 ∷ 255 ∷ 48 ∷ 59 ∷ 60 ∷ 255 ∷ 50 ∷ 51 ∷ 255 ∷ 255 ∷ 52 ∷ 53 ∷ 107 ∷ []) ∷
    (11 ∷ 1 ∷ 255 ∷ 3 ∷ 4 ∷ 5 ∷ 255 ∷ 255 ∷ 255 ∷ 8 ∷ 9 ∷ 8 ∷ 255 ∷ 11 ∷ 255 ∷ 13 ∷ 14 ∷ 46 ∷ 15 ∷ 16 ∷ 17 ∷ 18 ∷ 19 ∷ 20 ∷ 21 ∷ 22 ∷ 23 ∷ 24 ∷ 25 ∷ 8 ∷ 8 ∷ 27 ∷ 55 ∷ 29 ∷ 30 ∷ 31 ∷ 32 ∷ 33 ∷ 20 ∷ 21 ∷ 34 ∷ 35 ∷ 36 ∷ 37 ∷ 38 ∷ 39 ∷ 11 ∷ 11 ∷ 20 ∷ 21 ∷ 40 ∷ 41 ∷ 105 ∷ 105 ∷ 255 ∷ 255 ∷ 255 ∷ 255 ∷ 255 ∷ 255 ∷ 255 ∷ 255 ∷ 48 ∷ 48 ∷ 48 ∷ 255 ∷ 50 ∷ 51 ∷ 255 ∷ 255 ∷ 52 ∷ 53 ∷ 108 ∷ []) ∷
    (11 ∷ 1 ∷ 255 ∷ 3 ∷ 4 ∷ 5 ∷ 255 ∷ 255 ∷ 255 ∷ 8 ∷ 9 ∷ 8 ∷ 255 ∷ 11 ∷ 255 ∷ 13 ∷ 14 ∷ 47 ∷ 15 ∷ 16 ∷ 17 ∷ 18 ∷ 19 ∷ 20 ∷ 21 ∷ 22 ∷ 23 ∷ 24 ∷ 25 ∷ 8 ∷ 8 ∷ 27 ∷ 55 ∷ 29 ∷ 30 ∷ 31 ∷ 32 ∷ 33 ∷ 20 ∷ 21 ∷ 34 ∷ 35 ∷ 36 ∷ 37 ∷ 38 ∷ 39 ∷ 11 ∷ 11 ∷ 20 ∷ 21 ∷ 40 ∷ 41 ∷ 105 ∷ 105 ∷ 255 ∷ 255 ∷ 255 ∷ 255 ∷ 255 ∷ 255 ∷ 255 ∷ 255 ∷ 48 ∷ 59 ∷ 60 ∷ 255 ∷ 50 ∷ 51 ∷ 255 ∷ 255 ∷ 52 ∷ 53 ∷ 109 ∷ []) ∷
    (11 ∷ 1 ∷ 2 ∷ 3 ∷ 4 ∷ 5 ∷ 6 ∷ 2 ∷ 7 ∷ 8 ∷ 9 ∷ 8 ∷ 10 ∷ 11 ∷ 12 ∷ 13 ∷ 14 ∷ 48 ∷ 15 ∷ 16 ∷ 17 ∷ 18 ∷ 19 ∷ 20 ∷ 21 ∷ 22 ∷ 23 ∷ 24 ∷ 25 ∷ 8 ∷ 8 ∷ 27 ∷ 55 ∷ 29 ∷ 30 ∷ 31 ∷ 32 ∷ 33 ∷ 20 ∷ 21 ∷ 34 ∷ 35 ∷ 36 ∷ 37 ∷ 38 ∷ 39 ∷ 11 ∷ 11 ∷ 20 ∷ 21 ∷ 40 ∷ 41 ∷ 42 ∷ 43 ∷ 44 ∷ 45 ∷ 44 ∷ 45 ∷ 46 ∷ 47 ∷ 20 ∷ 21 ∷ 48 ∷ 42 ∷ 48 ∷ 49 ∷ 50 ∷ 51 ∷ 20 ∷ 20 ∷ 52 ∷ 53 ∷ 48 ∷ []) ∷
    (11 ∷ 255 ∷ 255 ∷ 255 ∷ 255 ∷ 255 ∷ 255 ∷ 255 ∷ 255 ∷ 8 ∷ 9 ∷ 8 ∷ 255 ∷ 11 ∷ 255 ∷ 13 ∷ 14 ∷ 49 ∷ 15 ∷ 16 ∷ 255 ∷ 255 ∷ 255 ∷ 20 ∷ 21 ∷ 22 ∷ 23 ∷ 255 ∷ 255 ∷ 8 ∷ 8 ∷ 255 ∷ 55 ∷ 255 ∷ 255 ∷ 255 ∷ 255 ∷ 255 ∷ 20 ∷ 21 ∷ 34 ∷ 35 ∷ 36 ∷ 255 ∷ 255 ∷ 255 ∷ 11 ∷ 11 ∷ 20 ∷ 21 ∷ 40 ∷ 255 ∷ 255 ∷ 255 ∷ 255 ∷ 255 ∷ 255 ∷ 255 ∷ 255 ∷ 255 ∷ 255 ∷ 255 ∷ 48 ∷ 48 ∷ 48 ∷ 20 ∷ 50 ∷ 51 ∷ 255 ∷ 255 ∷ 52 ∷ 53 ∷ 110 ∷ []) ∷
    (11 ∷ 255 ∷ 255 ∷ 255 ∷ 255 ∷ 255 ∷ 255 ∷ 255 ∷ 255 ∷ 255 ∷ 255 ∷ 255 ∷ 255 ∷ 11 ∷ 255 ∷ 13 ∷ 14 ∷ 255 ∷ 15 ∷ 16 ∷ 255 ∷ 255 ∷ 255 ∷ 20 ∷ 21 ∷ 255 ∷ 255 ∷ 255 ∷ 255 ∷ 255 ∷ 255 ∷ 255 ∷ 255 ∷ 255 ∷ 255 ∷ 255 ∷ 255 ∷ 255 ∷ 255 ∷ 255 ∷ 255 ∷ 255 ∷ 111 ∷ 255 ∷ 255 ∷ 255 ∷ 11 ∷ 11 ∷ 255 ∷ 255 ∷ 255 ∷ 255 ∷ 255 ∷ 255 ∷ 255 ∷ 255 ∷ 255 ∷ 255 ∷ 255 ∷ 255 ∷ 255 ∷ 255 ∷ 255 ∷ 255 ∷ 112 ∷ 255 ∷ 50 ∷ 51 ∷ 255 ∷ 255 ∷ 52 ∷ 53 ∷ 255 ∷ []) ∷
    (11 ∷ 255 ∷ 255 ∷ 255 ∷ 255 ∷ 255 ∷ 255 ∷ 255 ∷ 255 ∷ 8 ∷ 9 ∷ 8 ∷ 255 ∷ 11 ∷ 255 ∷ 13 ∷ 14 ∷ 51 ∷ 15 ∷ 16 ∷ 255 ∷ 255 ∷ 255 ∷ 20 ∷ 21 ∷ 22 ∷ 23 ∷ 255 ∷ 255 ∷ 8 ∷ 8 ∷ 27 ∷ 55 ∷ 255 ∷ 255 ∷ 255 ∷ 255 ∷ 255 ∷ 20 ∷ 21 ∷ 34 ∷ 35 ∷ 36 ∷ 255 ∷ 255 ∷ 255 ∷ 11 ∷ 11 ∷ 20 ∷ 21 ∷ 40 ∷ 255 ∷ 255 ∷ 255 ∷ 255 ∷ 255 ∷ 255 ∷ 255 ∷ 255 ∷ 255 ∷ 255 ∷ 255 ∷ 48 ∷ 48 ∷ 48 ∷ 255 ∷ 50 ∷ 51 ∷ 255 ∷ 255 ∷ 52 ∷ 53 ∷ 113 ∷ []) ∷
    (11 ∷ 1 ∷ 2 ∷ 3 ∷ 4 ∷ 5 ∷ 6 ∷ 2 ∷ 7 ∷ 8 ∷ 9 ∷ 8 ∷ 10 ∷ 11 ∷ 12 ∷ 13 ∷ 14 ∷ 52 ∷ 15 ∷ 16 ∷ 17 ∷ 18 ∷ 19 ∷ 20 ∷ 21 ∷ 22 ∷ 23 ∷ 24 ∷ 25 ∷ 8 ∷ 8 ∷ 27 ∷ 55 ∷ 29 ∷ 30 ∷ 31 ∷ 32 ∷ 33 ∷ 20 ∷ 21 ∷ 34 ∷ 35 ∷ 36 ∷ 37 ∷ 38 ∷ 39 ∷ 11 ∷ 11 ∷ 20 ∷ 21 ∷ 40 ∷ 41 ∷ 42 ∷ 43 ∷ 44 ∷ 45 ∷ 44 ∷ 45 ∷ 46 ∷ 47 ∷ 20 ∷ 21 ∷ 48 ∷ 48 ∷ 48 ∷ 49 ∷ 50 ∷ 51 ∷ 20 ∷ 20 ∷ 52 ∷ 53 ∷ 52 ∷ []) ∷
    (11 ∷ 255 ∷ 255 ∷ 255 ∷ 255 ∷ 255 ∷ 255 ∷ 255 ∷ 255 ∷ 255 ∷ 255 ∷ 255 ∷ 255 ∷ 11 ∷ 255 ∷ 255 ∷ 255 ∷ 255 ∷ 255 ∷ 16 ∷ 255 ∷ 255 ∷ 255 ∷ 255 ∷ 255 ∷ 255 ∷ 255 ∷ 255 ∷ 255 ∷ 255 ∷ 255 ∷ 255 ∷ 255 ∷ 255 ∷ 255 ∷ 255 ∷ 255 ∷ 255 ∷ 255 ∷ 255 ∷ 255 ∷ 255 ∷ 255 ∷ 255 ∷ 255 ∷ 255 ∷ 11 ∷ 11 ∷ 255 ∷ 255 ∷ 255 ∷ 255 ∷ 255 ∷ 255 ∷ 255 ∷ 255 ∷ 255 ∷ 255 ∷ 255 ∷ 255 ∷ 255 ∷ 255 ∷ 255 ∷ 255 ∷ 255 ∷ 255 ∷ 53 ∷ 255 ∷ 255 ∷ 255 ∷ 255 ∷ 53 ∷ 255 ∷ []) ∷
    (11 ∷ 1 ∷ 2 ∷ 3 ∷ 4 ∷ 5 ∷ 6 ∷ 2 ∷ 7 ∷ 8 ∷ 9 ∷ 8 ∷ 10 ∷ 11 ∷ 12 ∷ 13 ∷ 14 ∷ 1 ∷ 15 ∷ 16 ∷ 17 ∷ 18 ∷ 19 ∷ 20 ∷ 21 ∷ 22 ∷ 23 ∷ 24 ∷ 25 ∷ 8 ∷ 8 ∷ 27 ∷ 55 ∷ 29 ∷ 30 ∷ 31 ∷ 32 ∷ 33 ∷ 20 ∷ 21 ∷ 34 ∷ 35 ∷ 36 ∷ 37 ∷ 38 ∷ 39 ∷ 11 ∷ 11 ∷ 20 ∷ 21 ∷ 40 ∷ 41 ∷ 42 ∷ 43 ∷ 44 ∷ 45 ∷ 44 ∷ 45 ∷ 46 ∷ 47 ∷ 20 ∷ 21 ∷ 48 ∷ 48 ∷ 48 ∷ 49 ∷ 50 ∷ 51 ∷ 20 ∷ 20 ∷ 52 ∷ 53 ∷ 54 ∷ []) ∷
    (11 ∷ 255 ∷ 255 ∷ 255 ∷ 255 ∷ 255 ∷ 255 ∷ 255 ∷ 255 ∷ 8 ∷ 9 ∷ 8 ∷ 255 ∷ 11 ∷ 255 ∷ 13 ∷ 14 ∷ 55 ∷ 15 ∷ 16 ∷ 255 ∷ 255 ∷ 255 ∷ 20 ∷ 21 ∷ 255 ∷ 255 ∷ 255 ∷ 255 ∷ 8 ∷ 8 ∷ 255 ∷ 55 ∷ 255 ∷ 255 ∷ 255 ∷ 255 ∷ 255 ∷ 20 ∷ 21 ∷ 34 ∷ 35 ∷ 36 ∷ 255 ∷ 255 ∷ 255 ∷ 11 ∷ 11 ∷ 20 ∷ 21 ∷ 40 ∷ 41 ∷ 255 ∷ 255 ∷ 255 ∷ 255 ∷ 255 ∷ 255 ∷ 255 ∷ 255 ∷ 255 ∷ 255 ∷ 48 ∷ 48 ∷ 48 ∷ 255 ∷ 50 ∷ 51 ∷ 255 ∷ 255 ∷ 52 ∷ 53 ∷ 114 ∷ []) ∷
    (255 ∷ 255 ∷ 255 ∷ 255 ∷ 255 ∷ 255 ∷ 255 ∷ 255 ∷ 255 ∷ 255 ∷ 255 ∷ 255 ∷ 255 ∷ 255 ∷ 255 ∷ 255 ∷ 255 ∷ 56 ∷ 255 ∷ 255 ∷ 255 ∷ 255 ∷ 255 ∷ 255 ∷ 255 ∷ 255 ∷ 255 ∷ 255 ∷ 255 ∷ 255 ∷ 255 ∷ 255 ∷ 255 ∷ 255 ∷ 255 ∷ 255 ∷ 255 ∷ 255 ∷ 255 ∷ 255 ∷ 255 ∷ 255 ∷ 255 ∷ 255 ∷ 255 ∷ 255 ∷ 255 ∷ 255 ∷ 255 ∷ 255 ∷ 255 ∷ 255 ∷ 255 ∷ 255 ∷ 255 ∷ 255 ∷ 255 ∷ 255 ∷ 255 ∷ 255 ∷ 255 ∷ 255 ∷ 255 ∷ 255 ∷ 255 ∷ 255 ∷ 255 ∷ 255 ∷ 20 ∷ 255 ∷ 255 ∷ 255 ∷ 56 ∷ []) ∷
    (11 ∷ 255 ∷ 2 ∷ 255 ∷ 255 ∷ 5 ∷ 255 ∷ 255 ∷ 255 ∷ 8 ∷ 9 ∷ 8 ∷ 255 ∷ 11 ∷ 255 ∷ 13 ∷ 14 ∷ 57 ∷ 15 ∷ 16 ∷ 255 ∷ 255 ∷ 255 ∷ 20 ∷ 21 ∷ 22 ∷ 23 ∷ 255 ∷ 255 ∷ 8 ∷ 8 ∷ 255 ∷ 55 ∷ 255 ∷ 255 ∷ 255 ∷ 255 ∷ 255 ∷ 20 ∷ 21 ∷ 34 ∷ 35 ∷ 36 ∷ 255 ∷ 255 ∷ 255 ∷ 11 ∷ 11 ∷ 20 ∷ 21 ∷ 40 ∷ 255 ∷ 255 ∷ 255 ∷ 255 ∷ 255 ∷ 255 ∷ 255 ∷ 255 ∷ 255 ∷ 255 ∷ 255 ∷ 48 ∷ 48 ∷ 48 ∷ 255 ∷ 50 ∷ 51 ∷ 255 ∷ 255 ∷ 52 ∷ 53 ∷ 115 ∷ []) ∷
    (11 ∷ 1 ∷ 2 ∷ 3 ∷ 4 ∷ 5 ∷ 6 ∷ 2 ∷ 7 ∷ 8 ∷ 9 ∷ 8 ∷ 10 ∷ 11 ∷ 12 ∷ 13 ∷ 14 ∷ 2 ∷ 15 ∷ 16 ∷ 17 ∷ 18 ∷ 19 ∷ 20 ∷ 21 ∷ 22 ∷ 23 ∷ 24 ∷ 25 ∷ 8 ∷ 8 ∷ 27 ∷ 55 ∷ 29 ∷ 30 ∷ 31 ∷ 32 ∷ 33 ∷ 20 ∷ 21 ∷ 34 ∷ 35 ∷ 36 ∷ 37 ∷ 38 ∷ 39 ∷ 11 ∷ 11 ∷ 20 ∷ 21 ∷ 40 ∷ 41 ∷ 42 ∷ 43 ∷ 44 ∷ 45 ∷ 44 ∷ 45 ∷ 46 ∷ 47 ∷ 20 ∷ 21 ∷ 48 ∷ 48 ∷ 48 ∷ 49 ∷ 50 ∷ 51 ∷ 20 ∷ 57 ∷ 52 ∷ 53 ∷ 58 ∷ []) ∷
    (11 ∷ 1 ∷ 2 ∷ 255 ∷ 4 ∷ 5 ∷ 6 ∷ 2 ∷ 7 ∷ 8 ∷ 255 ∷ 8 ∷ 10 ∷ 11 ∷ 12 ∷ 13 ∷ 255 ∷ 59 ∷ 15 ∷ 16 ∷ 17 ∷ 255 ∷ 255 ∷ 20 ∷ 255 ∷ 22 ∷ 255 ∷ 255 ∷ 255 ∷ 8 ∷ 8 ∷ 27 ∷ 55 ∷ 29 ∷ 255 ∷ 31 ∷ 32 ∷ 255 ∷ 20 ∷ 255 ∷ 34 ∷ 255 ∷ 36 ∷ 255 ∷ 38 ∷ 39 ∷ 11 ∷ 11 ∷ 20 ∷ 255 ∷ 255 ∷ 41 ∷ 42 ∷ 255 ∷ 44 ∷ 255 ∷ 44 ∷ 255 ∷ 46 ∷ 255 ∷ 20 ∷ 255 ∷ 48 ∷ 42 ∷ 48 ∷ 49 ∷ 50 ∷ 51 ∷ 20 ∷ 20 ∷ 52 ∷ 53 ∷ 59 ∷ []) ∷
    (11 ∷ 1 ∷ 2 ∷ 255 ∷ 4 ∷ 5 ∷ 6 ∷ 2 ∷ 7 ∷ 8 ∷ 9 ∷ 8 ∷ 10 ∷ 11 ∷ 12 ∷ 13 ∷ 14 ∷ 60 ∷ 15 ∷ 16 ∷ 17 ∷ 255 ∷ 255 ∷ 20 ∷ 21 ∷ 22 ∷ 23 ∷ 255 ∷ 255 ∷ 8 ∷ 8 ∷ 27 ∷ 55 ∷ 29 ∷ 255 ∷ 31 ∷ 32 ∷ 255 ∷ 20 ∷ 21 ∷ 34 ∷ 35 ∷ 36 ∷ 255 ∷ 38 ∷ 39 ∷ 11 ∷ 11 ∷ 20 ∷ 21 ∷ 40 ∷ 41 ∷ 42 ∷ 255 ∷ 44 ∷ 255 ∷ 44 ∷ 255 ∷ 46 ∷ 255 ∷ 20 ∷ 255 ∷ 48 ∷ 42 ∷ 48 ∷ 49 ∷ 50 ∷ 51 ∷ 20 ∷ 20 ∷ 52 ∷ 53 ∷ 116 ∷ []) ∷
    (11 ∷ 1 ∷ 2 ∷ 3 ∷ 4 ∷ 5 ∷ 6 ∷ 2 ∷ 7 ∷ 8 ∷ 9 ∷ 8 ∷ 10 ∷ 11 ∷ 12 ∷ 13 ∷ 14 ∷ 3 ∷ 15 ∷ 16 ∷ 17 ∷ 18 ∷ 19 ∷ 20 ∷ 21 ∷ 22 ∷ 23 ∷ 24 ∷ 25 ∷ 8 ∷ 8 ∷ 27 ∷ 55 ∷ 29 ∷ 30 ∷ 31 ∷ 32 ∷ 33 ∷ 20 ∷ 21 ∷ 34 ∷ 35 ∷ 36 ∷ 37 ∷ 38 ∷ 39 ∷ 11 ∷ 11 ∷ 20 ∷ 21 ∷ 40 ∷ 41 ∷ 42 ∷ 43 ∷ 44 ∷ 45 ∷ 44 ∷ 45 ∷ 46 ∷ 47 ∷ 20 ∷ 21 ∷ 48 ∷ 48 ∷ 60 ∷ 49 ∷ 50 ∷ 51 ∷ 20 ∷ 20 ∷ 52 ∷ 53 ∷ 61 ∷ []) ∷
    (11 ∷ 1 ∷ 2 ∷ 3 ∷ 4 ∷ 5 ∷ 6 ∷ 2 ∷ 7 ∷ 8 ∷ 9 ∷ 8 ∷ 10 ∷ 11 ∷ 12 ∷ 13 ∷ 14 ∷ 4 ∷ 15 ∷ 16 ∷ 17 ∷ 18 ∷ 19 ∷ 20 ∷ 21 ∷ 22 ∷ 23 ∷ 24 ∷ 25 ∷ 8 ∷ 8 ∷ 27 ∷ 55 ∷ 29 ∷ 30 ∷ 31 ∷ 32 ∷ 33 ∷ 20 ∷ 21 ∷ 34 ∷ 35 ∷ 36 ∷ 37 ∷ 38 ∷ 39 ∷ 11 ∷ 11 ∷ 20 ∷ 21 ∷ 40 ∷ 41 ∷ 42 ∷ 43 ∷ 44 ∷ 45 ∷ 44 ∷ 45 ∷ 46 ∷ 47 ∷ 20 ∷ 21 ∷ 48 ∷ 48 ∷ 48 ∷ 49 ∷ 50 ∷ 51 ∷ 20 ∷ 20 ∷ 52 ∷ 53 ∷ 62 ∷ []) ∷
    (11 ∷ 1 ∷ 2 ∷ 3 ∷ 4 ∷ 5 ∷ 6 ∷ 2 ∷ 7 ∷ 8 ∷ 9 ∷ 8 ∷ 10 ∷ 11 ∷ 12 ∷ 13 ∷ 14 ∷ 5 ∷ 15 ∷ 16 ∷ 17 ∷ 18 ∷ 19 ∷ 20 ∷ 21 ∷ 22 ∷ 23 ∷ 24 ∷ 25 ∷ 8 ∷ 8 ∷ 27 ∷ 55 ∷ 29 ∷ 30 ∷ 31 ∷ 32 ∷ 33 ∷ 20 ∷ 21 ∷ 34 ∷ 35 ∷ 36 ∷ 37 ∷ 38 ∷ 39 ∷ 11 ∷ 11 ∷ 20 ∷ 21 ∷ 40 ∷ 41 ∷ 42 ∷ 43 ∷ 44 ∷ 45 ∷ 44 ∷ 45 ∷ 46 ∷ 47 ∷ 20 ∷ 21 ∷ 48 ∷ 48 ∷ 48 ∷ 49 ∷ 50 ∷ 51 ∷ 20 ∷ 57 ∷ 52 ∷ 53 ∷ 63 ∷ []) ∷
    (11 ∷ 1 ∷ 2 ∷ 3 ∷ 4 ∷ 5 ∷ 6 ∷ 2 ∷ 7 ∷ 8 ∷ 9 ∷ 8 ∷ 10 ∷ 11 ∷ 12 ∷ 13 ∷ 14 ∷ 6 ∷ 15 ∷ 16 ∷ 17 ∷ 18 ∷ 19 ∷ 20 ∷ 21 ∷ 22 ∷ 23 ∷ 24 ∷ 25 ∷ 8 ∷ 8 ∷ 27 ∷ 55 ∷ 29 ∷ 30 ∷ 31 ∷ 32 ∷ 33 ∷ 20 ∷ 21 ∷ 34 ∷ 35 ∷ 36 ∷ 37 ∷ 38 ∷ 39 ∷ 11 ∷ 11 ∷ 20 ∷ 21 ∷ 40 ∷ 41 ∷ 42 ∷ 43 ∷ 44 ∷ 45 ∷ 44 ∷ 45 ∷ 46 ∷ 47 ∷ 20 ∷ 21 ∷ 48 ∷ 48 ∷ 48 ∷ 49 ∷ 50 ∷ 51 ∷ 20 ∷ 20 ∷ 52 ∷ 53 ∷ 64 ∷ []) ∷
    (11 ∷ 255 ∷ 255 ∷ 255 ∷ 255 ∷ 255 ∷ 255 ∷ 255 ∷ 7 ∷ 255 ∷ 255 ∷ 255 ∷ 255 ∷ 11 ∷ 255 ∷ 13 ∷ 14 ∷ 255 ∷ 15 ∷ 16 ∷ 255 ∷ 255 ∷ 255 ∷ 20 ∷ 21 ∷ 255 ∷ 255 ∷ 255 ∷ 255 ∷ 255 ∷ 255 ∷ 255 ∷ 255 ∷ 255 ∷ 255 ∷ 255 ∷ 255 ∷ 255 ∷ 255 ∷ 255 ∷ 255 ∷ 255 ∷ 111 ∷ 255 ∷ 255 ∷ 255 ∷ 11 ∷ 11 ∷ 255 ∷ 255 ∷ 255 ∷ 255 ∷ 255 ∷ 255 ∷ 255 ∷ 255 ∷ 255 ∷ 255 ∷ 255 ∷ 255 ∷ 255 ∷ 255 ∷ 255 ∷ 255 ∷ 112 ∷ 255 ∷ 65 ∷ 51 ∷ 255 ∷ 255 ∷ 52 ∷ 53 ∷ 255 ∷ []) ∷
    (11 ∷ 1 ∷ 2 ∷ 3 ∷ 4 ∷ 5 ∷ 6 ∷ 2 ∷ 7 ∷ 8 ∷ 9 ∷ 8 ∷ 10 ∷ 11 ∷ 12 ∷ 13 ∷ 14 ∷ 7 ∷ 15 ∷ 16 ∷ 17 ∷ 18 ∷ 19 ∷ 20 ∷ 21 ∷ 22 ∷ 23 ∷ 24 ∷ 25 ∷ 8 ∷ 8 ∷ 27 ∷ 55 ∷ 29 ∷ 30 ∷ 31 ∷ 32 ∷ 33 ∷ 20 ∷ 21 ∷ 34 ∷ 35 ∷ 36 ∷ 37 ∷ 38 ∷ 39 ∷ 11 ∷ 11 ∷ 20 ∷ 21 ∷ 40 ∷ 41 ∷ 42 ∷ 43 ∷ 44 ∷ 45 ∷ 44 ∷ 45 ∷ 46 ∷ 47 ∷ 20 ∷ 21 ∷ 48 ∷ 48 ∷ 48 ∷ 49 ∷ 65 ∷ 51 ∷ 20 ∷ 20 ∷ 52 ∷ 53 ∷ 66 ∷ []) ∷
    (11 ∷ 1 ∷ 2 ∷ 3 ∷ 4 ∷ 5 ∷ 6 ∷ 2 ∷ 7 ∷ 8 ∷ 9 ∷ 8 ∷ 10 ∷ 11 ∷ 12 ∷ 13 ∷ 14 ∷ 8 ∷ 15 ∷ 16 ∷ 17 ∷ 18 ∷ 19 ∷ 20 ∷ 21 ∷ 22 ∷ 23 ∷ 24 ∷ 25 ∷ 8 ∷ 8 ∷ 27 ∷ 55 ∷ 29 ∷ 30 ∷ 31 ∷ 32 ∷ 33 ∷ 20 ∷ 21 ∷ 34 ∷ 35 ∷ 36 ∷ 37 ∷ 38 ∷ 39 ∷ 11 ∷ 11 ∷ 20 ∷ 21 ∷ 40 ∷ 41 ∷ 42 ∷ 43 ∷ 44 ∷ 45 ∷ 44 ∷ 45 ∷ 46 ∷ 47 ∷ 20 ∷ 21 ∷ 48 ∷ 48 ∷ 48 ∷ 49 ∷ 50 ∷ 51 ∷ 20 ∷ 20 ∷ 52 ∷ 53 ∷ 67 ∷ []) ∷
    (11 ∷ 1 ∷ 2 ∷ 3 ∷ 4 ∷ 5 ∷ 6 ∷ 2 ∷ 7 ∷ 8 ∷ 9 ∷ 8 ∷ 10 ∷ 11 ∷ 12 ∷ 13 ∷ 14 ∷ 9 ∷ 15 ∷ 16 ∷ 17 ∷ 18 ∷ 19 ∷ 20 ∷ 21 ∷ 22 ∷ 23 ∷ 24 ∷ 25 ∷ 8 ∷ 8 ∷ 27 ∷ 55 ∷ 29 ∷ 30 ∷ 31 ∷ 32 ∷ 33 ∷ 20 ∷ 21 ∷ 34 ∷ 35 ∷ 36 ∷ 37 ∷ 38 ∷ 39 ∷ 11 ∷ 11 ∷ 20 ∷ 21 ∷ 40 ∷ 41 ∷ 42 ∷ 43 ∷ 44 ∷ 45 ∷ 44 ∷ 45 ∷ 46 ∷ 47 ∷ 20 ∷ 21 ∷ 48 ∷ 48 ∷ 60 ∷ 49 ∷ 50 ∷ 51 ∷ 20 ∷ 20 ∷ 52 ∷ 53 ∷ 68 ∷ []) ∷
    (11 ∷ 1 ∷ 2 ∷ 3 ∷ 4 ∷ 5 ∷ 6 ∷ 2 ∷ 7 ∷ 8 ∷ 9 ∷ 8 ∷ 10 ∷ 11 ∷ 12 ∷ 13 ∷ 14 ∷ 10 ∷ 15 ∷ 16 ∷ 17 ∷ 18 ∷ 19 ∷ 20 ∷ 21 ∷ 22 ∷ 23 ∷ 24 ∷ 25 ∷ 8 ∷ 8 ∷ 27 ∷ 55 ∷ 29 ∷ 30 ∷ 31 ∷ 32 ∷ 33 ∷ 20 ∷ 21 ∷ 34 ∷ 35 ∷ 36 ∷ 37 ∷ 38 ∷ 39 ∷ 11 ∷ 11 ∷ 20 ∷ 21 ∷ 40 ∷ 41 ∷ 42 ∷ 43 ∷ 44 ∷ 45 ∷ 44 ∷ 45 ∷ 46 ∷ 47 ∷ 20 ∷ 21 ∷ 48 ∷ 48 ∷ 48 ∷ 49 ∷ 50 ∷ 51 ∷ 20 ∷ 20 ∷ 52 ∷ 53 ∷ 69 ∷ []) ∷
    (11 ∷ 1 ∷ 2 ∷ 3 ∷ 4 ∷ 5 ∷ 6 ∷ 2 ∷ 7 ∷ 8 ∷ 9 ∷ 8 ∷ 10 ∷ 11 ∷ 12 ∷ 13 ∷ 14 ∷ 12 ∷ 15 ∷ 16 ∷ 17 ∷ 18 ∷ 19 ∷ 20 ∷ 21 ∷ 22 ∷ 23 ∷ 24 ∷ 25 ∷ 26 ∷ 8 ∷ 27 ∷ 28 ∷ 29 ∷ 30 ∷ 31 ∷ 32 ∷ 33 ∷ 20 ∷ 21 ∷ 34 ∷ 35 ∷ 36 ∷ 37 ∷ 38 ∷ 39 ∷ 11 ∷ 11 ∷ 20 ∷ 21 ∷ 40 ∷ 41 ∷ 42 ∷ 43 ∷ 44 ∷ 45 ∷ 44 ∷ 45 ∷ 46 ∷ 47 ∷ 20 ∷ 21 ∷ 48 ∷ 48 ∷ 48 ∷ 49 ∷ 50 ∷ 51 ∷ 20 ∷ 20 ∷ 52 ∷ 53 ∷ 70 ∷ []) ∷
    (11 ∷ 255 ∷ 255 ∷ 255 ∷ 255 ∷ 255 ∷ 255 ∷ 255 ∷ 255 ∷ 255 ∷ 255 ∷ 255 ∷ 255 ∷ 11 ∷ 255 ∷ 13 ∷ 14 ∷ 255 ∷ 15 ∷ 16 ∷ 255 ∷ 255 ∷ 255 ∷ 20 ∷ 21 ∷ 255 ∷ 255 ∷ 255 ∷ 255 ∷ 255 ∷ 255 ∷ 255 ∷ 255 ∷ 255 ∷ 255 ∷ 255 ∷ 255 ∷ 255 ∷ 255 ∷ 255 ∷ 255 ∷ 255 ∷ 111 ∷ 255 ∷ 255 ∷ 255 ∷ 11 ∷ 11 ∷ 20 ∷ 21 ∷ 40 ∷ 255 ∷ 255 ∷ 255 ∷ 255 ∷ 255 ∷ 255 ∷ 255 ∷ 255 ∷ 255 ∷ 255 ∷ 255 ∷ 255 ∷ 255 ∷ 112 ∷ 255 ∷ 71 ∷ 51 ∷ 255 ∷ 255 ∷ 52 ∷ 53 ∷ 255 ∷ []) ∷
    (11 ∷ 1 ∷ 2 ∷ 3 ∷ 4 ∷ 5 ∷ 6 ∷ 2 ∷ 7 ∷ 8 ∷ 9 ∷ 8 ∷ 10 ∷ 11 ∷ 12 ∷ 13 ∷ 14 ∷ 13 ∷ 15 ∷ 16 ∷ 17 ∷ 18 ∷ 19 ∷ 20 ∷ 21 ∷ 22 ∷ 23 ∷ 24 ∷ 25 ∷ 8 ∷ 8 ∷ 27 ∷ 55 ∷ 29 ∷ 30 ∷ 31 ∷ 32 ∷ 33 ∷ 20 ∷ 21 ∷ 34 ∷ 35 ∷ 36 ∷ 37 ∷ 38 ∷ 39 ∷ 11 ∷ 11 ∷ 20 ∷ 21 ∷ 40 ∷ 41 ∷ 42 ∷ 43 ∷ 44 ∷ 45 ∷ 44 ∷ 45 ∷ 46 ∷ 47 ∷ 20 ∷ 21 ∷ 48 ∷ 48 ∷ 48 ∷ 49 ∷ 71 ∷ 51 ∷ 20 ∷ 20 ∷ 52 ∷ 53 ∷ 72 ∷ []) ∷
    (11 ∷ 1 ∷ 2 ∷ 3 ∷ 4 ∷ 5 ∷ 6 ∷ 2 ∷ 7 ∷ 8 ∷ 9 ∷ 8 ∷ 10 ∷ 11 ∷ 12 ∷ 13 ∷ 14 ∷ 14 ∷ 15 ∷ 16 ∷ 17 ∷ 18 ∷ 19 ∷ 20 ∷ 21 ∷ 22 ∷ 23 ∷ 24 ∷ 25 ∷ 8 ∷ 8 ∷ 27 ∷ 55 ∷ 29 ∷ 30 ∷ 31 ∷ 32 ∷ 33 ∷ 20 ∷ 21 ∷ 34 ∷ 35 ∷ 36 ∷ 37 ∷ 38 ∷ 39 ∷ 11 ∷ 11 ∷ 20 ∷ 21 ∷ 40 ∷ 41 ∷ 42 ∷ 43 ∷ 44 ∷ 45 ∷ 44 ∷ 45 ∷ 46 ∷ 47 ∷ 20 ∷ 21 ∷ 48 ∷ 48 ∷ 60 ∷ 49 ∷ 71 ∷ 51 ∷ 20 ∷ 20 ∷ 52 ∷ 53 ∷ 73 ∷ []) ∷
    (11 ∷ 1 ∷ 2 ∷ 3 ∷ 4 ∷ 5 ∷ 6 ∷ 2 ∷ 7 ∷ 8 ∷ 9 ∷ 8 ∷ 10 ∷ 11 ∷ 12 ∷ 13 ∷ 14 ∷ 15 ∷ 15 ∷ 16 ∷ 17 ∷ 18 ∷ 19 ∷ 20 ∷ 21 ∷ 22 ∷ 23 ∷ 24 ∷ 25 ∷ 8 ∷ 8 ∷ 27 ∷ 55 ∷ 29 ∷ 30 ∷ 31 ∷ 32 ∷ 33 ∷ 20 ∷ 21 ∷ 34 ∷ 35 ∷ 36 ∷ 37 ∷ 38 ∷ 39 ∷ 11 ∷ 11 ∷ 20 ∷ 21 ∷ 40 ∷ 41 ∷ 42 ∷ 43 ∷ 44 ∷ 45 ∷ 44 ∷ 45 ∷ 46 ∷ 47 ∷ 20 ∷ 21 ∷ 48 ∷ 48 ∷ 48 ∷ 49 ∷ 71 ∷ 51 ∷ 20 ∷ 20 ∷ 52 ∷ 53 ∷ 74 ∷ []) ∷
    (11 ∷ 1 ∷ 2 ∷ 3 ∷ 4 ∷ 5 ∷ 6 ∷ 2 ∷ 7 ∷ 8 ∷ 9 ∷ 8 ∷ 10 ∷ 11 ∷ 12 ∷ 13 ∷ 14 ∷ 17 ∷ 15 ∷ 16 ∷ 17 ∷ 18 ∷ 19 ∷ 20 ∷ 21 ∷ 22 ∷ 23 ∷ 24 ∷ 25 ∷ 8 ∷ 8 ∷ 27 ∷ 55 ∷ 29 ∷ 30 ∷ 31 ∷ 32 ∷ 33 ∷ 20 ∷ 21 ∷ 34 ∷ 35 ∷ 36 ∷ 37 ∷ 38 ∷ 39 ∷ 11 ∷ 11 ∷ 20 ∷ 21 ∷ 40 ∷ 41 ∷ 42 ∷ 43 ∷ 44 ∷ 45 ∷ 44 ∷ 45 ∷ 46 ∷ 47 ∷ 20 ∷ 21 ∷ 48 ∷ 48 ∷ 48 ∷ 49 ∷ 50 ∷ 51 ∷ 20 ∷ 20 ∷ 52 ∷ 53 ∷ 75 ∷ []) ∷
    (11 ∷ 1 ∷ 2 ∷ 3 ∷ 4 ∷ 5 ∷ 6 ∷ 2 ∷ 7 ∷ 8 ∷ 9 ∷ 8 ∷ 10 ∷ 11 ∷ 12 ∷ 13 ∷ 14 ∷ 18 ∷ 15 ∷ 16 ∷ 17 ∷ 18 ∷ 19 ∷ 20 ∷ 21 ∷ 22 ∷ 23 ∷ 24 ∷ 25 ∷ 8 ∷ 8 ∷ 27 ∷ 55 ∷ 29 ∷ 30 ∷ 31 ∷ 32 ∷ 33 ∷ 20 ∷ 21 ∷ 34 ∷ 35 ∷ 36 ∷ 37 ∷ 38 ∷ 39 ∷ 11 ∷ 11 ∷ 20 ∷ 21 ∷ 40 ∷ 41 ∷ 42 ∷ 43 ∷ 44 ∷ 45 ∷ 44 ∷ 45 ∷ 46 ∷ 47 ∷ 20 ∷ 21 ∷ 48 ∷ 48 ∷ 60 ∷ 49 ∷ 50 ∷ 51 ∷ 20 ∷ 20 ∷ 52 ∷ 53 ∷ 76 ∷ []) ∷
    (11 ∷ 1 ∷ 2 ∷ 3 ∷ 4 ∷ 5 ∷ 6 ∷ 2 ∷ 7 ∷ 8 ∷ 9 ∷ 8 ∷ 10 ∷ 11 ∷ 12 ∷ 13 ∷ 14 ∷ 19 ∷ 15 ∷ 16 ∷ 17 ∷ 18 ∷ 19 ∷ 20 ∷ 21 ∷ 22 ∷ 23 ∷ 24 ∷ 25 ∷ 8 ∷ 8 ∷ 27 ∷ 55 ∷ 29 ∷ 30 ∷ 31 ∷ 32 ∷ 33 ∷ 20 ∷ 21 ∷ 34 ∷ 35 ∷ 36 ∷ 37 ∷ 38 ∷ 39 ∷ 11 ∷ 11 ∷ 20 ∷ 21 ∷ 40 ∷ 41 ∷ 42 ∷ 43 ∷ 44 ∷ 45 ∷ 44 ∷ 45 ∷ 46 ∷ 47 ∷ 20 ∷ 21 ∷ 48 ∷ 48 ∷ 60 ∷ 49 ∷ 50 ∷ 51 ∷ 20 ∷ 20 ∷ 52 ∷ 53 ∷ 77 ∷ []) ∷
    (11 ∷ 1 ∷ 2 ∷ 3 ∷ 4 ∷ 5 ∷ 6 ∷ 2 ∷ 7 ∷ 8 ∷ 9 ∷ 8 ∷ 10 ∷ 11 ∷ 12 ∷ 13 ∷ 14 ∷ 20 ∷ 15 ∷ 16 ∷ 17 ∷ 18 ∷ 19 ∷ 20 ∷ 21 ∷ 22 ∷ 23 ∷ 24 ∷ 25 ∷ 8 ∷ 8 ∷ 27 ∷ 55 ∷ 29 ∷ 30 ∷ 31 ∷ 32 ∷ 33 ∷ 20 ∷ 21 ∷ 34 ∷ 35 ∷ 36 ∷ 37 ∷ 38 ∷ 39 ∷ 11 ∷ 11 ∷ 20 ∷ 21 ∷ 40 ∷ 41 ∷ 42 ∷ 43 ∷ 44 ∷ 45 ∷ 44 ∷ 45 ∷ 46 ∷ 47 ∷ 20 ∷ 21 ∷ 48 ∷ 48 ∷ 48 ∷ 49 ∷ 50 ∷ 51 ∷ 20 ∷ 20 ∷ 52 ∷ 53 ∷ 78 ∷ []) ∷
    (11 ∷ 1 ∷ 2 ∷ 3 ∷ 4 ∷ 5 ∷ 6 ∷ 2 ∷ 7 ∷ 8 ∷ 9 ∷ 8 ∷ 10 ∷ 11 ∷ 12 ∷ 13 ∷ 14 ∷ 21 ∷ 15 ∷ 16 ∷ 17 ∷ 18 ∷ 19 ∷ 20 ∷ 21 ∷ 22 ∷ 23 ∷ 24 ∷ 25 ∷ 8 ∷ 8 ∷ 27 ∷ 55 ∷ 29 ∷ 30 ∷ 31 ∷ 32 ∷ 33 ∷ 20 ∷ 21 ∷ 34 ∷ 35 ∷ 36 ∷ 37 ∷ 38 ∷ 39 ∷ 11 ∷ 11 ∷ 20 ∷ 21 ∷ 40 ∷ 41 ∷ 42 ∷ 43 ∷ 44 ∷ 45 ∷ 44 ∷ 45 ∷ 46 ∷ 47 ∷ 20 ∷ 21 ∷ 48 ∷ 48 ∷ 60 ∷ 49 ∷ 50 ∷ 51 ∷ 20 ∷ 20 ∷ 52 ∷ 53 ∷ 79 ∷ []) ∷
    (11 ∷ 1 ∷ 2 ∷ 3 ∷ 4 ∷ 5 ∷ 6 ∷ 2 ∷ 7 ∷ 8 ∷ 9 ∷ 8 ∷ 10 ∷ 11 ∷ 12 ∷ 13 ∷ 14 ∷ 24 ∷ 15 ∷ 16 ∷ 17 ∷ 18 ∷ 19 ∷ 20 ∷ 21 ∷ 22 ∷ 23 ∷ 24 ∷ 25 ∷ 8 ∷ 8 ∷ 27 ∷ 55 ∷ 29 ∷ 30 ∷ 31 ∷ 32 ∷ 33 ∷ 20 ∷ 21 ∷ 34 ∷ 35 ∷ 36 ∷ 37 ∷ 38 ∷ 39 ∷ 11 ∷ 11 ∷ 20 ∷ 21 ∷ 40 ∷ 41 ∷ 42 ∷ 43 ∷ 44 ∷ 45 ∷ 44 ∷ 45 ∷ 46 ∷ 47 ∷ 20 ∷ 21 ∷ 48 ∷ 48 ∷ 60 ∷ 49 ∷ 50 ∷ 51 ∷ 20 ∷ 20 ∷ 52 ∷ 53 ∷ 80 ∷ []) ∷
    (11 ∷ 1 ∷ 2 ∷ 3 ∷ 4 ∷ 5 ∷ 6 ∷ 2 ∷ 7 ∷ 8 ∷ 9 ∷ 8 ∷ 10 ∷ 11 ∷ 12 ∷ 13 ∷ 14 ∷ 25 ∷ 15 ∷ 16 ∷ 17 ∷ 18 ∷ 19 ∷ 20 ∷ 21 ∷ 22 ∷ 23 ∷ 24 ∷ 25 ∷ 8 ∷ 8 ∷ 27 ∷ 55 ∷ 29 ∷ 30 ∷ 31 ∷ 32 ∷ 33 ∷ 20 ∷ 21 ∷ 34 ∷ 35 ∷ 36 ∷ 37 ∷ 38 ∷ 39 ∷ 11 ∷ 11 ∷ 20 ∷ 21 ∷ 40 ∷ 41 ∷ 42 ∷ 43 ∷ 44 ∷ 45 ∷ 44 ∷ 45 ∷ 46 ∷ 47 ∷ 20 ∷ 21 ∷ 48 ∷ 48 ∷ 60 ∷ 49 ∷ 50 ∷ 51 ∷ 20 ∷ 20 ∷ 52 ∷ 53 ∷ 81 ∷ []) ∷
    (11 ∷ 1 ∷ 2 ∷ 3 ∷ 4 ∷ 5 ∷ 6 ∷ 2 ∷ 7 ∷ 8 ∷ 9 ∷ 8 ∷ 10 ∷ 11 ∷ 12 ∷ 13 ∷ 14 ∷ 26 ∷ 15 ∷ 16 ∷ 17 ∷ 18 ∷ 19 ∷ 20 ∷ 21 ∷ 22 ∷ 23 ∷ 24 ∷ 25 ∷ 8 ∷ 8 ∷ 27 ∷ 55 ∷ 29 ∷ 30 ∷ 31 ∷ 32 ∷ 33 ∷ 20 ∷ 21 ∷ 34 ∷ 35 ∷ 36 ∷ 37 ∷ 38 ∷ 39 ∷ 11 ∷ 11 ∷ 20 ∷ 21 ∷ 40 ∷ 41 ∷ 42 ∷ 43 ∷ 44 ∷ 45 ∷ 44 ∷ 45 ∷ 46 ∷ 47 ∷ 20 ∷ 21 ∷ 48 ∷ 48 ∷ 48 ∷ 49 ∷ 50 ∷ 51 ∷ 20 ∷ 20 ∷ 52 ∷ 53 ∷ 82 ∷ []) ∷
    (11 ∷ 1 ∷ 2 ∷ 3 ∷ 4 ∷ 5 ∷ 6 ∷ 2 ∷ 7 ∷ 8 ∷ 9 ∷ 8 ∷ 10 ∷ 11 ∷ 255 ∷ 13 ∷ 14 ∷ 83 ∷ 15 ∷ 16 ∷ 17 ∷ 18 ∷ 19 ∷ 20 ∷ 21 ∷ 22 ∷ 23 ∷ 24 ∷ 25 ∷ 8 ∷ 8 ∷ 255 ∷ 55 ∷ 29 ∷ 30 ∷ 31 ∷ 32 ∷ 33 ∷ 20 ∷ 21 ∷ 34 ∷ 35 ∷ 36 ∷ 37 ∷ 38 ∷ 39 ∷ 11 ∷ 11 ∷ 20 ∷ 21 ∷ 40 ∷ 41 ∷ 42 ∷ 43 ∷ 44 ∷ 45 ∷ 44 ∷ 45 ∷ 46 ∷ 47 ∷ 20 ∷ 21 ∷ 48 ∷ 48 ∷ 48 ∷ 49 ∷ 50 ∷ 51 ∷ 20 ∷ 20 ∷ 52 ∷ 53 ∷ 117 ∷ []) ∷
    (11 ∷ 1 ∷ 2 ∷ 3 ∷ 4 ∷ 5 ∷ 6 ∷ 2 ∷ 7 ∷ 8 ∷ 9 ∷ 8 ∷ 10 ∷ 11 ∷ 12 ∷ 13 ∷ 14 ∷ 27 ∷ 15 ∷ 16 ∷ 17 ∷ 18 ∷ 19 ∷ 20 ∷ 21 ∷ 22 ∷ 23 ∷ 24 ∷ 25 ∷ 83 ∷ 83 ∷ 27 ∷ 83 ∷ 29 ∷ 30 ∷ 31 ∷ 32 ∷ 33 ∷ 20 ∷ 21 ∷ 34 ∷ 35 ∷ 36 ∷ 37 ∷ 38 ∷ 39 ∷ 11 ∷ 11 ∷ 20 ∷ 21 ∷ 40 ∷ 41 ∷ 42 ∷ 43 ∷ 44 ∷ 45 ∷ 44 ∷ 45 ∷ 46 ∷ 47 ∷ 20 ∷ 21 ∷ 48 ∷ 48 ∷ 48 ∷ 49 ∷ 50 ∷ 51 ∷ 20 ∷ 20 ∷ 52 ∷ 53 ∷ 84 ∷ []) ∷
    (11 ∷ 1 ∷ 2 ∷ 3 ∷ 4 ∷ 5 ∷ 6 ∷ 2 ∷ 7 ∷ 8 ∷ 9 ∷ 8 ∷ 10 ∷ 11 ∷ 12 ∷ 13 ∷ 14 ∷ 28 ∷ 15 ∷ 16 ∷ 17 ∷ 18 ∷ 19 ∷ 20 ∷ 21 ∷ 22 ∷ 23 ∷ 24 ∷ 25 ∷ 8 ∷ 8 ∷ 27 ∷ 55 ∷ 29 ∷ 30 ∷ 31 ∷ 32 ∷ 33 ∷ 20 ∷ 21 ∷ 34 ∷ 35 ∷ 36 ∷ 37 ∷ 38 ∷ 39 ∷ 11 ∷ 11 ∷ 20 ∷ 21 ∷ 40 ∷ 41 ∷ 42 ∷ 43 ∷ 44 ∷ 45 ∷ 44 ∷ 45 ∷ 46 ∷ 47 ∷ 20 ∷ 21 ∷ 48 ∷ 48 ∷ 48 ∷ 49 ∷ 50 ∷ 51 ∷ 20 ∷ 20 ∷ 52 ∷ 53 ∷ 85 ∷ []) ∷
    (11 ∷ 1 ∷ 2 ∷ 3 ∷ 4 ∷ 5 ∷ 6 ∷ 2 ∷ 7 ∷ 8 ∷ 9 ∷ 8 ∷ 10 ∷ 11 ∷ 12 ∷ 13 ∷ 14 ∷ 29 ∷ 15 ∷ 16 ∷ 17 ∷ 18 ∷ 19 ∷ 20 ∷ 21 ∷ 22 ∷ 23 ∷ 24 ∷ 25 ∷ 8 ∷ 8 ∷ 27 ∷ 55 ∷ 29 ∷ 30 ∷ 31 ∷ 32 ∷ 33 ∷ 20 ∷ 21 ∷ 34 ∷ 35 ∷ 36 ∷ 37 ∷ 38 ∷ 39 ∷ 11 ∷ 11 ∷ 20 ∷ 21 ∷ 40 ∷ 41 ∷ 42 ∷ 43 ∷ 44 ∷ 45 ∷ 44 ∷ 45 ∷ 46 ∷ 47 ∷ 20 ∷ 21 ∷ 48 ∷ 48 ∷ 48 ∷ 49 ∷ 50 ∷ 51 ∷ 20 ∷ 20 ∷ 52 ∷ 53 ∷ 86 ∷ []) ∷
    (11 ∷ 1 ∷ 2 ∷ 3 ∷ 4 ∷ 5 ∷ 6 ∷ 2 ∷ 7 ∷ 8 ∷ 9 ∷ 8 ∷ 10 ∷ 11 ∷ 12 ∷ 13 ∷ 14 ∷ 30 ∷ 15 ∷ 16 ∷ 17 ∷ 18 ∷ 19 ∷ 20 ∷ 21 ∷ 22 ∷ 23 ∷ 24 ∷ 25 ∷ 8 ∷ 8 ∷ 27 ∷ 55 ∷ 29 ∷ 30 ∷ 31 ∷ 32 ∷ 33 ∷ 20 ∷ 21 ∷ 34 ∷ 35 ∷ 36 ∷ 37 ∷ 38 ∷ 39 ∷ 11 ∷ 11 ∷ 20 ∷ 21 ∷ 40 ∷ 41 ∷ 42 ∷ 43 ∷ 44 ∷ 45 ∷ 44 ∷ 45 ∷ 46 ∷ 47 ∷ 20 ∷ 21 ∷ 48 ∷ 48 ∷ 60 ∷ 49 ∷ 50 ∷ 51 ∷ 20 ∷ 20 ∷ 52 ∷ 53 ∷ 87 ∷ []) ∷
    (11 ∷ 1 ∷ 2 ∷ 3 ∷ 4 ∷ 5 ∷ 6 ∷ 2 ∷ 7 ∷ 8 ∷ 9 ∷ 8 ∷ 10 ∷ 11 ∷ 12 ∷ 13 ∷ 14 ∷ 31 ∷ 15 ∷ 16 ∷ 17 ∷ 18 ∷ 19 ∷ 20 ∷ 21 ∷ 22 ∷ 23 ∷ 24 ∷ 25 ∷ 8 ∷ 8 ∷ 27 ∷ 55 ∷ 29 ∷ 30 ∷ 31 ∷ 32 ∷ 33 ∷ 20 ∷ 21 ∷ 34 ∷ 35 ∷ 36 ∷ 37 ∷ 38 ∷ 39 ∷ 11 ∷ 11 ∷ 20 ∷ 21 ∷ 40 ∷ 41 ∷ 42 ∷ 43 ∷ 44 ∷ 45 ∷ 44 ∷ 45 ∷ 46 ∷ 47 ∷ 20 ∷ 21 ∷ 48 ∷ 48 ∷ 48 ∷ 49 ∷ 50 ∷ 51 ∷ 20 ∷ 20 ∷ 52 ∷ 53 ∷ 88 ∷ []) ∷
    (11 ∷ 1 ∷ 2 ∷ 3 ∷ 4 ∷ 5 ∷ 6 ∷ 2 ∷ 7 ∷ 8 ∷ 9 ∷ 8 ∷ 10 ∷ 11 ∷ 12 ∷ 13 ∷ 14 ∷ 32 ∷ 15 ∷ 16 ∷ 17 ∷ 18 ∷ 19 ∷ 20 ∷ 21 ∷ 22 ∷ 23 ∷ 24 ∷ 25 ∷ 8 ∷ 8 ∷ 27 ∷ 55 ∷ 29 ∷ 30 ∷ 31 ∷ 32 ∷ 33 ∷ 20 ∷ 21 ∷ 34 ∷ 35 ∷ 36 ∷ 37 ∷ 38 ∷ 39 ∷ 11 ∷ 11 ∷ 20 ∷ 21 ∷ 40 ∷ 41 ∷ 42 ∷ 43 ∷ 44 ∷ 45 ∷ 44 ∷ 45 ∷ 46 ∷ 47 ∷ 20 ∷ 21 ∷ 48 ∷ 48 ∷ 48 ∷ 49 ∷ 50 ∷ 51 ∷ 20 ∷ 20 ∷ 52 ∷ 53 ∷ 89 ∷ []) ∷
    (11 ∷ 1 ∷ 2 ∷ 3 ∷ 4 ∷ 5 ∷ 6 ∷ 2 ∷ 7 ∷ 8 ∷ 9 ∷ 8 ∷ 10 ∷ 11 ∷ 12 ∷ 13 ∷ 14 ∷ 33 ∷ 15 ∷ 16 ∷ 17 ∷ 18 ∷ 19 ∷ 20 ∷ 21 ∷ 22 ∷ 23 ∷ 24 ∷ 25 ∷ 8 ∷ 8 ∷ 27 ∷ 55 ∷ 29 ∷ 30 ∷ 31 ∷ 32 ∷ 33 ∷ 20 ∷ 21 ∷ 34 ∷ 35 ∷ 36 ∷ 37 ∷ 38 ∷ 39 ∷ 11 ∷ 11 ∷ 20 ∷ 21 ∷ 40 ∷ 41 ∷ 42 ∷ 43 ∷ 44 ∷ 45 ∷ 44 ∷ 45 ∷ 46 ∷ 47 ∷ 20 ∷ 21 ∷ 48 ∷ 48 ∷ 60 ∷ 49 ∷ 50 ∷ 51 ∷ 20 ∷ 20 ∷ 52 ∷ 53 ∷ 90 ∷ []) ∷
    (11 ∷ 1 ∷ 2 ∷ 3 ∷ 4 ∷ 5 ∷ 6 ∷ 2 ∷ 7 ∷ 8 ∷ 9 ∷ 8 ∷ 10 ∷ 11 ∷ 12 ∷ 13 ∷ 14 ∷ 34 ∷ 15 ∷ 16 ∷ 17 ∷ 18 ∷ 19 ∷ 20 ∷ 21 ∷ 22 ∷ 23 ∷ 24 ∷ 25 ∷ 8 ∷ 8 ∷ 27 ∷ 55 ∷ 29 ∷ 30 ∷ 31 ∷ 32 ∷ 33 ∷ 20 ∷ 21 ∷ 34 ∷ 35 ∷ 36 ∷ 37 ∷ 38 ∷ 39 ∷ 11 ∷ 11 ∷ 20 ∷ 21 ∷ 40 ∷ 41 ∷ 42 ∷ 43 ∷ 44 ∷ 45 ∷ 44 ∷ 45 ∷ 46 ∷ 47 ∷ 20 ∷ 21 ∷ 48 ∷ 48 ∷ 48 ∷ 49 ∷ 50 ∷ 51 ∷ 20 ∷ 20 ∷ 52 ∷ 53 ∷ 91 ∷ []) ∷
    (11 ∷ 1 ∷ 2 ∷ 3 ∷ 4 ∷ 5 ∷ 6 ∷ 2 ∷ 7 ∷ 8 ∷ 9 ∷ 8 ∷ 10 ∷ 11 ∷ 12 ∷ 13 ∷ 14 ∷ 35 ∷ 15 ∷ 16 ∷ 17 ∷ 18 ∷ 19 ∷ 20 ∷ 21 ∷ 22 ∷ 23 ∷ 24 ∷ 25 ∷ 8 ∷ 8 ∷ 27 ∷ 55 ∷ 29 ∷ 30 ∷ 31 ∷ 32 ∷ 33 ∷ 20 ∷ 21 ∷ 34 ∷ 35 ∷ 36 ∷ 37 ∷ 38 ∷ 39 ∷ 11 ∷ 11 ∷ 20 ∷ 21 ∷ 40 ∷ 41 ∷ 42 ∷ 43 ∷ 44 ∷ 45 ∷ 44 ∷ 45 ∷ 46 ∷ 47 ∷ 20 ∷ 21 ∷ 48 ∷ 48 ∷ 60 ∷ 49 ∷ 50 ∷ 51 ∷ 20 ∷ 20 ∷ 52 ∷ 53 ∷ 92 ∷ []) ∷
    (11 ∷ 1 ∷ 2 ∷ 3 ∷ 4 ∷ 5 ∷ 6 ∷ 2 ∷ 7 ∷ 8 ∷ 9 ∷ 8 ∷ 10 ∷ 11 ∷ 12 ∷ 13 ∷ 14 ∷ 36 ∷ 15 ∷ 16 ∷ 17 ∷ 18 ∷ 19 ∷ 20 ∷ 21 ∷ 22 ∷ 23 ∷ 24 ∷ 25 ∷ 8 ∷ 8 ∷ 27 ∷ 55 ∷ 29 ∷ 30 ∷ 31 ∷ 32 ∷ 33 ∷ 20 ∷ 21 ∷ 34 ∷ 35 ∷ 36 ∷ 37 ∷ 38 ∷ 39 ∷ 11 ∷ 11 ∷ 20 ∷ 21 ∷ 40 ∷ 41 ∷ 42 ∷ 43 ∷ 44 ∷ 45 ∷ 44 ∷ 45 ∷ 46 ∷ 47 ∷ 20 ∷ 21 ∷ 48 ∷ 48 ∷ 48 ∷ 49 ∷ 50 ∷ 51 ∷ 20 ∷ 20 ∷ 52 ∷ 53 ∷ 93 ∷ []) ∷
    (11 ∷ 1 ∷ 2 ∷ 3 ∷ 4 ∷ 5 ∷ 6 ∷ 2 ∷ 7 ∷ 8 ∷ 9 ∷ 8 ∷ 10 ∷ 11 ∷ 12 ∷ 13 ∷ 14 ∷ 37 ∷ 15 ∷ 16 ∷ 17 ∷ 18 ∷ 19 ∷ 20 ∷ 21 ∷ 22 ∷ 23 ∷ 24 ∷ 25 ∷ 8 ∷ 8 ∷ 27 ∷ 55 ∷ 29 ∷ 30 ∷ 31 ∷ 32 ∷ 33 ∷ 20 ∷ 21 ∷ 34 ∷ 35 ∷ 36 ∷ 37 ∷ 38 ∷ 39 ∷ 11 ∷ 11 ∷ 20 ∷ 21 ∷ 40 ∷ 41 ∷ 42 ∷ 43 ∷ 44 ∷ 45 ∷ 44 ∷ 45 ∷ 46 ∷ 47 ∷ 20 ∷ 21 ∷ 48 ∷ 48 ∷ 60 ∷ 49 ∷ 50 ∷ 51 ∷ 20 ∷ 20 ∷ 52 ∷ 53 ∷ 94 ∷ []) ∷
    (11 ∷ 1 ∷ 2 ∷ 3 ∷ 4 ∷ 5 ∷ 6 ∷ 2 ∷ 7 ∷ 8 ∷ 9 ∷ 8 ∷ 10 ∷ 11 ∷ 12 ∷ 13 ∷ 14 ∷ 38 ∷ 15 ∷ 16 ∷ 17 ∷ 18 ∷ 19 ∷ 20 ∷ 21 ∷ 22 ∷ 23 ∷ 24 ∷ 25 ∷ 8 ∷ 8 ∷ 27 ∷ 55 ∷ 29 ∷ 30 ∷ 31 ∷ 32 ∷ 33 ∷ 20 ∷ 21 ∷ 34 ∷ 35 ∷ 36 ∷ 37 ∷ 38 ∷ 39 ∷ 11 ∷ 11 ∷ 20 ∷ 21 ∷ 40 ∷ 41 ∷ 42 ∷ 43 ∷ 44 ∷ 45 ∷ 44 ∷ 45 ∷ 46 ∷ 47 ∷ 20 ∷ 21 ∷ 48 ∷ 48 ∷ 48 ∷ 49 ∷ 50 ∷ 51 ∷ 20 ∷ 20 ∷ 52 ∷ 53 ∷ 95 ∷ []) ∷
    (11 ∷ 1 ∷ 2 ∷ 3 ∷ 4 ∷ 5 ∷ 6 ∷ 2 ∷ 7 ∷ 8 ∷ 9 ∷ 8 ∷ 10 ∷ 11 ∷ 12 ∷ 13 ∷ 14 ∷ 39 ∷ 15 ∷ 16 ∷ 17 ∷ 18 ∷ 19 ∷ 20 ∷ 21 ∷ 22 ∷ 23 ∷ 24 ∷ 25 ∷ 8 ∷ 8 ∷ 27 ∷ 55 ∷ 29 ∷ 30 ∷ 31 ∷ 32 ∷ 33 ∷ 20 ∷ 21 ∷ 34 ∷ 35 ∷ 36 ∷ 37 ∷ 38 ∷ 39 ∷ 11 ∷ 11 ∷ 20 ∷ 21 ∷ 40 ∷ 41 ∷ 42 ∷ 43 ∷ 44 ∷ 45 ∷ 44 ∷ 45 ∷ 46 ∷ 47 ∷ 20 ∷ 21 ∷ 48 ∷ 48 ∷ 48 ∷ 49 ∷ 50 ∷ 51 ∷ 20 ∷ 20 ∷ 52 ∷ 53 ∷ 96 ∷ []) ∷
    (11 ∷ 1 ∷ 2 ∷ 3 ∷ 4 ∷ 5 ∷ 6 ∷ 2 ∷ 7 ∷ 8 ∷ 9 ∷ 8 ∷ 10 ∷ 11 ∷ 12 ∷ 13 ∷ 14 ∷ 40 ∷ 15 ∷ 16 ∷ 17 ∷ 18 ∷ 19 ∷ 20 ∷ 21 ∷ 22 ∷ 23 ∷ 24 ∷ 25 ∷ 8 ∷ 8 ∷ 27 ∷ 55 ∷ 29 ∷ 30 ∷ 31 ∷ 32 ∷ 33 ∷ 20 ∷ 21 ∷ 34 ∷ 35 ∷ 36 ∷ 37 ∷ 38 ∷ 39 ∷ 11 ∷ 11 ∷ 20 ∷ 21 ∷ 40 ∷ 41 ∷ 42 ∷ 43 ∷ 44 ∷ 45 ∷ 44 ∷ 45 ∷ 46 ∷ 47 ∷ 20 ∷ 21 ∷ 48 ∷ 48 ∷ 60 ∷ 49 ∷ 50 ∷ 51 ∷ 20 ∷ 20 ∷ 52 ∷ 53 ∷ 97 ∷ []) ∷
    (11 ∷ 255 ∷ 255 ∷ 255 ∷ 255 ∷ 255 ∷ 255 ∷ 255 ∷ 255 ∷ 8 ∷ 9 ∷ 8 ∷ 255 ∷ 11 ∷ 255 ∷ 13 ∷ 14 ∷ 98 ∷ 15 ∷ 16 ∷ 255 ∷ 255 ∷ 255 ∷ 20 ∷ 21 ∷ 22 ∷ 23 ∷ 255 ∷ 255 ∷ 8 ∷ 8 ∷ 255 ∷ 55 ∷ 255 ∷ 255 ∷ 255 ∷ 255 ∷ 255 ∷ 20 ∷ 21 ∷ 34 ∷ 35 ∷ 36 ∷ 255 ∷ 255 ∷ 255 ∷ 11 ∷ 11 ∷ 20 ∷ 21 ∷ 40 ∷ 255 ∷ 255 ∷ 255 ∷ 44 ∷ 45 ∷ 255 ∷ 255 ∷ 46 ∷ 47 ∷ 20 ∷ 21 ∷ 48 ∷ 48 ∷ 48 ∷ 255 ∷ 71 ∷ 51 ∷ 255 ∷ 255 ∷ 52 ∷ 53 ∷ 118 ∷ []) ∷
    (11 ∷ 255 ∷ 255 ∷ 255 ∷ 255 ∷ 255 ∷ 255 ∷ 255 ∷ 255 ∷ 8 ∷ 9 ∷ 8 ∷ 255 ∷ 11 ∷ 255 ∷ 13 ∷ 14 ∷ 99 ∷ 15 ∷ 16 ∷ 255 ∷ 255 ∷ 255 ∷ 20 ∷ 21 ∷ 22 ∷ 23 ∷ 255 ∷ 255 ∷ 8 ∷ 8 ∷ 255 ∷ 55 ∷ 255 ∷ 255 ∷ 255 ∷ 255 ∷ 255 ∷ 20 ∷ 21 ∷ 34 ∷ 35 ∷ 36 ∷ 255 ∷ 255 ∷ 255 ∷ 11 ∷ 11 ∷ 20 ∷ 21 ∷ 40 ∷ 255 ∷ 255 ∷ 255 ∷ 44 ∷ 45 ∷ 255 ∷ 255 ∷ 46 ∷ 47 ∷ 20 ∷ 21 ∷ 48 ∷ 59 ∷ 60 ∷ 255 ∷ 71 ∷ 51 ∷ 255 ∷ 255 ∷ 52 ∷ 53 ∷ 119 ∷ []) ∷
    (11 ∷ 1 ∷ 255 ∷ 3 ∷ 4 ∷ 5 ∷ 255 ∷ 255 ∷ 255 ∷ 8 ∷ 9 ∷ 8 ∷ 255 ∷ 11 ∷ 255 ∷ 13 ∷ 14 ∷ 100 ∷ 15 ∷ 16 ∷ 255 ∷ 255 ∷ 255 ∷ 20 ∷ 21 ∷ 22 ∷ 23 ∷ 255 ∷ 255 ∷ 8 ∷ 8 ∷ 27 ∷ 55 ∷ 255 ∷ 255 ∷ 255 ∷ 255 ∷ 255 ∷ 20 ∷ 21 ∷ 34 ∷ 35 ∷ 36 ∷ 255 ∷ 255 ∷ 255 ∷ 11 ∷ 11 ∷ 20 ∷ 21 ∷ 40 ∷ 41 ∷ 255 ∷ 255 ∷ 44 ∷ 45 ∷ 255 ∷ 255 ∷ 46 ∷ 47 ∷ 20 ∷ 21 ∷ 48 ∷ 48 ∷ 48 ∷ 255 ∷ 71 ∷ 51 ∷ 255 ∷ 255 ∷ 52 ∷ 53 ∷ 120 ∷ []) ∷
    (11 ∷ 1 ∷ 255 ∷ 3 ∷ 4 ∷ 5 ∷ 255 ∷ 255 ∷ 255 ∷ 8 ∷ 9 ∷ 8 ∷ 255 ∷ 11 ∷ 255 ∷ 98 ∷ 99 ∷ 101 ∷ 100 ∷ 16 ∷ 255 ∷ 255 ∷ 255 ∷ 20 ∷ 21 ∷ 22 ∷ 23 ∷ 255 ∷ 255 ∷ 8 ∷ 8 ∷ 27 ∷ 55 ∷ 255 ∷ 255 ∷ 255 ∷ 255 ∷ 255 ∷ 20 ∷ 21 ∷ 34 ∷ 35 ∷ 101 ∷ 255 ∷ 255 ∷ 255 ∷ 11 ∷ 11 ∷ 20 ∷ 21 ∷ 40 ∷ 41 ∷ 255 ∷ 255 ∷ 44 ∷ 45 ∷ 255 ∷ 255 ∷ 46 ∷ 47 ∷ 20 ∷ 21 ∷ 48 ∷ 48 ∷ 48 ∷ 255 ∷ 50 ∷ 102 ∷ 255 ∷ 255 ∷ 52 ∷ 53 ∷ 121 ∷ []) ∷
    (11 ∷ 255 ∷ 255 ∷ 255 ∷ 255 ∷ 255 ∷ 255 ∷ 255 ∷ 255 ∷ 8 ∷ 9 ∷ 8 ∷ 255 ∷ 11 ∷ 255 ∷ 98 ∷ 99 ∷ 102 ∷ 100 ∷ 16 ∷ 255 ∷ 255 ∷ 255 ∷ 20 ∷ 21 ∷ 22 ∷ 23 ∷ 255 ∷ 255 ∷ 8 ∷ 8 ∷ 27 ∷ 55 ∷ 255 ∷ 255 ∷ 255 ∷ 255 ∷ 255 ∷ 20 ∷ 21 ∷ 34 ∷ 35 ∷ 101 ∷ 255 ∷ 255 ∷ 255 ∷ 11 ∷ 11 ∷ 20 ∷ 21 ∷ 40 ∷ 41 ∷ 255 ∷ 255 ∷ 44 ∷ 45 ∷ 255 ∷ 255 ∷ 46 ∷ 47 ∷ 20 ∷ 21 ∷ 48 ∷ 48 ∷ 48 ∷ 255 ∷ 50 ∷ 102 ∷ 255 ∷ 255 ∷ 52 ∷ 53 ∷ 122 ∷ []) ∷
    (11 ∷ 1 ∷ 2 ∷ 3 ∷ 4 ∷ 5 ∷ 6 ∷ 2 ∷ 7 ∷ 8 ∷ 9 ∷ 8 ∷ 10 ∷ 11 ∷ 12 ∷ 98 ∷ 99 ∷ 41 ∷ 100 ∷ 16 ∷ 17 ∷ 18 ∷ 19 ∷ 20 ∷ 21 ∷ 22 ∷ 23 ∷ 24 ∷ 25 ∷ 8 ∷ 8 ∷ 27 ∷ 55 ∷ 29 ∷ 30 ∷ 31 ∷ 32 ∷ 33 ∷ 20 ∷ 21 ∷ 34 ∷ 35 ∷ 101 ∷ 37 ∷ 38 ∷ 39 ∷ 11 ∷ 11 ∷ 20 ∷ 21 ∷ 40 ∷ 41 ∷ 42 ∷ 43 ∷ 44 ∷ 45 ∷ 44 ∷ 45 ∷ 46 ∷ 47 ∷ 20 ∷ 21 ∷ 48 ∷ 48 ∷ 48 ∷ 49 ∷ 50 ∷ 102 ∷ 20 ∷ 20 ∷ 52 ∷ 53 ∷ 103 ∷ []) ∷
    (11 ∷ 1 ∷ 2 ∷ 3 ∷ 4 ∷ 5 ∷ 6 ∷ 2 ∷ 7 ∷ 8 ∷ 9 ∷ 8 ∷ 10 ∷ 11 ∷ 12 ∷ 13 ∷ 14 ∷ 1 ∷ 15 ∷ 16 ∷ 17 ∷ 18 ∷ 19 ∷ 20 ∷ 21 ∷ 22 ∷ 23 ∷ 24 ∷ 25 ∷ 26 ∷ 8 ∷ 27 ∷ 28 ∷ 29 ∷ 30 ∷ 31 ∷ 32 ∷ 33 ∷ 20 ∷ 21 ∷ 34 ∷ 35 ∷ 36 ∷ 37 ∷ 38 ∷ 39 ∷ 11 ∷ 11 ∷ 20 ∷ 21 ∷ 40 ∷ 41 ∷ 42 ∷ 43 ∷ 44 ∷ 45 ∷ 44 ∷ 45 ∷ 46 ∷ 47 ∷ 20 ∷ 21 ∷ 48 ∷ 42 ∷ 48 ∷ 49 ∷ 104 ∷ 51 ∷ 20 ∷ 20 ∷ 52 ∷ 53 ∷ 54 ∷ []) ∷
    (255 ∷ 255 ∷ 255 ∷ 255 ∷ 255 ∷ 255 ∷ 255 ∷ 255 ∷ 255 ∷ 255 ∷ 255 ∷ 255 ∷ 255 ∷ 255 ∷ 255 ∷ 255 ∷ 255 ∷ 105 ∷ 255 ∷ 255 ∷ 255 ∷ 255 ∷ 255 ∷ 255 ∷ 255 ∷ 255 ∷ 255 ∷ 255 ∷ 255 ∷ 255 ∷ 255 ∷ 255 ∷ 255 ∷ 255 ∷ 255 ∷ 255 ∷ 255 ∷ 255 ∷ 255 ∷ 255 ∷ 255 ∷ 255 ∷ 123 ∷ 255 ∷ 255 ∷ 255 ∷ 255 ∷ 255 ∷ 255 ∷ 255 ∷ 255 ∷ 41 ∷ 255 ∷ 255 ∷ 255 ∷ 255 ∷ 255 ∷ 255 ∷ 255 ∷ 255 ∷ 255 ∷ 255 ∷ 255 ∷ 255 ∷ 255 ∷ 255 ∷ 255 ∷ 255 ∷ 255 ∷ 255 ∷ 255 ∷ 255 ∷ 105 ∷ []) ∷
    (11 ∷ 1 ∷ 2 ∷ 3 ∷ 4 ∷ 5 ∷ 6 ∷ 2 ∷ 7 ∷ 8 ∷ 9 ∷ 8 ∷ 10 ∷ 11 ∷ 12 ∷ 13 ∷ 14 ∷ 44 ∷ 15 ∷ 16 ∷ 17 ∷ 18 ∷ 19 ∷ 20 ∷ 21 ∷ 22 ∷ 23 ∷ 24 ∷ 25 ∷ 8 ∷ 8 ∷ 27 ∷ 55 ∷ 29 ∷ 30 ∷ 31 ∷ 32 ∷ 33 ∷ 20 ∷ 21 ∷ 34 ∷ 35 ∷ 36 ∷ 37 ∷ 38 ∷ 39 ∷ 11 ∷ 11 ∷ 20 ∷ 21 ∷ 40 ∷ 41 ∷ 42 ∷ 43 ∷ 44 ∷ 45 ∷ 44 ∷ 45 ∷ 46 ∷ 47 ∷ 20 ∷ 21 ∷ 48 ∷ 48 ∷ 48 ∷ 49 ∷ 50 ∷ 51 ∷ 20 ∷ 20 ∷ 52 ∷ 53 ∷ 106 ∷ []) ∷
    (11 ∷ 1 ∷ 2 ∷ 3 ∷ 4 ∷ 5 ∷ 6 ∷ 2 ∷ 7 ∷ 8 ∷ 9 ∷ 8 ∷ 10 ∷ 11 ∷ 12 ∷ 13 ∷ 14 ∷ 45 ∷ 15 ∷ 16 ∷ 17 ∷ 18 ∷ 19 ∷ 20 ∷ 21 ∷ 22 ∷ 23 ∷ 24 ∷ 25 ∷ 8 ∷ 8 ∷ 27 ∷ 55 ∷ 29 ∷ 30 ∷ 31 ∷ 32 ∷ 33 ∷ 20 ∷ 21 ∷ 34 ∷ 35 ∷ 36 ∷ 37 ∷ 38 ∷ 39 ∷ 11 ∷ 11 ∷ 20 ∷ 21 ∷ 40 ∷ 41 ∷ 42 ∷ 43 ∷ 44 ∷ 45 ∷ 44 ∷ 45 ∷ 46 ∷ 47 ∷ 20 ∷ 21 ∷ 48 ∷ 48 ∷ 60 ∷ 49 ∷ 50 ∷ 51 ∷ 20 ∷ 20 ∷ 52 ∷ 53 ∷ 107 ∷ []) ∷
    (11 ∷ 1 ∷ 2 ∷ 3 ∷ 4 ∷ 5 ∷ 6 ∷ 2 ∷ 7 ∷ 8 ∷ 9 ∷ 8 ∷ 10 ∷ 11 ∷ 12 ∷ 13 ∷ 14 ∷ 46 ∷ 15 ∷ 16 ∷ 17 ∷ 18 ∷ 19 ∷ 20 ∷ 21 ∷ 22 ∷ 23 ∷ 24 ∷ 25 ∷ 8 ∷ 8 ∷ 27 ∷ 55 ∷ 29 ∷ 30 ∷ 31 ∷ 32 ∷ 33 ∷ 20 ∷ 21 ∷ 34 ∷ 35 ∷ 36 ∷ 37 ∷ 38 ∷ 39 ∷ 11 ∷ 11 ∷ 20 ∷ 21 ∷ 40 ∷ 41 ∷ 42 ∷ 43 ∷ 44 ∷ 45 ∷ 44 ∷ 45 ∷ 46 ∷ 47 ∷ 20 ∷ 21 ∷ 48 ∷ 48 ∷ 48 ∷ 49 ∷ 50 ∷ 51 ∷ 20 ∷ 20 ∷ 52 ∷ 53 ∷ 108 ∷ []) ∷
    (11 ∷ 1 ∷ 2 ∷ 3 ∷ 4 ∷ 5 ∷ 6 ∷ 2 ∷ 7 ∷ 8 ∷ 9 ∷ 8 ∷ 10 ∷ 11 ∷ 12 ∷ 13 ∷ 14 ∷ 47 ∷ 15 ∷ 16 ∷ 17 ∷ 18 ∷ 19 ∷ 20 ∷ 21 ∷ 22 ∷ 23 ∷ 24 ∷ 25 ∷ 8 ∷ 8 ∷ 27 ∷ 55 ∷ 29 ∷ 30 ∷ 31 ∷ 32 ∷ 33 ∷ 20 ∷ 21 ∷ 34 ∷ 35 ∷ 36 ∷ 37 ∷ 38 ∷ 39 ∷ 11 ∷ 11 ∷ 20 ∷ 21 ∷ 40 ∷ 41 ∷ 42 ∷ 43 ∷ 44 ∷ 45 ∷ 44 ∷ 45 ∷ 46 ∷ 47 ∷ 20 ∷ 21 ∷ 48 ∷ 48 ∷ 60 ∷ 49 ∷ 50 ∷ 51 ∷ 20 ∷ 20 ∷ 52 ∷ 53 ∷ 109 ∷ []) ∷
    (11 ∷ 1 ∷ 2 ∷ 3 ∷ 4 ∷ 5 ∷ 6 ∷ 2 ∷ 7 ∷ 8 ∷ 9 ∷ 8 ∷ 10 ∷ 11 ∷ 12 ∷ 13 ∷ 14 ∷ 49 ∷ 15 ∷ 16 ∷ 17 ∷ 18 ∷ 19 ∷ 20 ∷ 21 ∷ 22 ∷ 23 ∷ 24 ∷ 25 ∷ 8 ∷ 8 ∷ 27 ∷ 55 ∷ 29 ∷ 30 ∷ 31 ∷ 32 ∷ 33 ∷ 20 ∷ 21 ∷ 34 ∷ 35 ∷ 36 ∷ 37 ∷ 38 ∷ 39 ∷ 11 ∷ 11 ∷ 20 ∷ 21 ∷ 40 ∷ 41 ∷ 42 ∷ 43 ∷ 44 ∷ 45 ∷ 44 ∷ 45 ∷ 46 ∷ 47 ∷ 20 ∷ 21 ∷ 48 ∷ 48 ∷ 48 ∷ 20 ∷ 50 ∷ 51 ∷ 20 ∷ 20 ∷ 52 ∷ 53 ∷ 110 ∷ []) ∷
    (11 ∷ 1 ∷ 255 ∷ 3 ∷ 4 ∷ 5 ∷ 255 ∷ 255 ∷ 255 ∷ 8 ∷ 9 ∷ 8 ∷ 255 ∷ 11 ∷ 255 ∷ 13 ∷ 14 ∷ 111 ∷ 15 ∷ 16 ∷ 255 ∷ 255 ∷ 255 ∷ 20 ∷ 21 ∷ 22 ∷ 23 ∷ 255 ∷ 255 ∷ 8 ∷ 8 ∷ 27 ∷ 55 ∷ 255 ∷ 255 ∷ 255 ∷ 255 ∷ 255 ∷ 20 ∷ 21 ∷ 34 ∷ 35 ∷ 36 ∷ 255 ∷ 255 ∷ 255 ∷ 11 ∷ 11 ∷ 20 ∷ 21 ∷ 40 ∷ 124 ∷ 255 ∷ 255 ∷ 255 ∷ 255 ∷ 255 ∷ 255 ∷ 255 ∷ 255 ∷ 255 ∷ 255 ∷ 48 ∷ 48 ∷ 48 ∷ 255 ∷ 50 ∷ 51 ∷ 255 ∷ 255 ∷ 52 ∷ 53 ∷ 125 ∷ []) ∷
    (11 ∷ 255 ∷ 255 ∷ 255 ∷ 255 ∷ 255 ∷ 255 ∷ 255 ∷ 255 ∷ 255 ∷ 255 ∷ 255 ∷ 255 ∷ 11 ∷ 255 ∷ 13 ∷ 14 ∷ 112 ∷ 15 ∷ 16 ∷ 255 ∷ 255 ∷ 255 ∷ 20 ∷ 21 ∷ 22 ∷ 23 ∷ 255 ∷ 255 ∷ 255 ∷ 255 ∷ 255 ∷ 255 ∷ 255 ∷ 255 ∷ 255 ∷ 255 ∷ 255 ∷ 255 ∷ 255 ∷ 255 ∷ 255 ∷ 36 ∷ 255 ∷ 255 ∷ 255 ∷ 11 ∷ 11 ∷ 255 ∷ 255 ∷ 255 ∷ 255 ∷ 255 ∷ 255 ∷ 255 ∷ 255 ∷ 255 ∷ 255 ∷ 255 ∷ 255 ∷ 255 ∷ 255 ∷ 48 ∷ 42 ∷ 48 ∷ 255 ∷ 50 ∷ 51 ∷ 255 ∷ 255 ∷ 52 ∷ 53 ∷ 112 ∷ []) ∷
    (11 ∷ 1 ∷ 2 ∷ 3 ∷ 4 ∷ 5 ∷ 6 ∷ 2 ∷ 7 ∷ 8 ∷ 9 ∷ 8 ∷ 10 ∷ 11 ∷ 12 ∷ 13 ∷ 14 ∷ 51 ∷ 15 ∷ 16 ∷ 17 ∷ 18 ∷ 19 ∷ 20 ∷ 21 ∷ 22 ∷ 23 ∷ 24 ∷ 25 ∷ 8 ∷ 8 ∷ 27 ∷ 55 ∷ 29 ∷ 30 ∷ 31 ∷ 32 ∷ 33 ∷ 20 ∷ 21 ∷ 34 ∷ 35 ∷ 36 ∷ 37 ∷ 38 ∷ 39 ∷ 11 ∷ 11 ∷ 20 ∷ 21 ∷ 40 ∷ 41 ∷ 42 ∷ 43 ∷ 44 ∷ 45 ∷ 44 ∷ 45 ∷ 46 ∷ 47 ∷ 20 ∷ 21 ∷ 48 ∷ 48 ∷ 48 ∷ 49 ∷ 50 ∷ 51 ∷ 20 ∷ 20 ∷ 52 ∷ 53 ∷ 113 ∷ []) ∷
    (11 ∷ 1 ∷ 2 ∷ 3 ∷ 4 ∷ 5 ∷ 6 ∷ 2 ∷ 7 ∷ 8 ∷ 9 ∷ 8 ∷ 10 ∷ 11 ∷ 12 ∷ 13 ∷ 14 ∷ 55 ∷ 15 ∷ 16 ∷ 17 ∷ 18 ∷ 19 ∷ 20 ∷ 21 ∷ 22 ∷ 23 ∷ 24 ∷ 25 ∷ 8 ∷ 8 ∷ 27 ∷ 55 ∷ 29 ∷ 30 ∷ 31 ∷ 32 ∷ 33 ∷ 20 ∷ 21 ∷ 34 ∷ 35 ∷ 36 ∷ 37 ∷ 38 ∷ 39 ∷ 11 ∷ 11 ∷ 20 ∷ 21 ∷ 40 ∷ 41 ∷ 42 ∷ 43 ∷ 44 ∷ 45 ∷ 44 ∷ 45 ∷ 46 ∷ 47 ∷ 20 ∷ 21 ∷ 48 ∷ 48 ∷ 48 ∷ 49 ∷ 50 ∷ 51 ∷ 20 ∷ 20 ∷ 52 ∷ 53 ∷ 114 ∷ []) ∷
    (11 ∷ 1 ∷ 2 ∷ 3 ∷ 4 ∷ 5 ∷ 6 ∷ 2 ∷ 7 ∷ 8 ∷ 9 ∷ 8 ∷ 10 ∷ 11 ∷ 12 ∷ 13 ∷ 14 ∷ 57 ∷ 15 ∷ 16 ∷ 17 ∷ 18 ∷ 19 ∷ 20 ∷ 21 ∷ 22 ∷ 23 ∷ 24 ∷ 25 ∷ 8 ∷ 8 ∷ 27 ∷ 55 ∷ 29 ∷ 30 ∷ 31 ∷ 32 ∷ 33 ∷ 20 ∷ 21 ∷ 34 ∷ 35 ∷ 36 ∷ 37 ∷ 38 ∷ 39 ∷ 11 ∷ 11 ∷ 20 ∷ 21 ∷ 40 ∷ 41 ∷ 42 ∷ 43 ∷ 44 ∷ 45 ∷ 44 ∷ 45 ∷ 46 ∷ 47 ∷ 20 ∷ 21 ∷ 48 ∷ 48 ∷ 48 ∷ 49 ∷ 50 ∷ 51 ∷ 20 ∷ 20 ∷ 52 ∷ 53 ∷ 115 ∷ []) ∷
    (11 ∷ 1 ∷ 2 ∷ 3 ∷ 4 ∷ 5 ∷ 6 ∷ 2 ∷ 7 ∷ 8 ∷ 9 ∷ 8 ∷ 10 ∷ 11 ∷ 12 ∷ 13 ∷ 14 ∷ 60 ∷ 15 ∷ 16 ∷ 17 ∷ 18 ∷ 19 ∷ 20 ∷ 21 ∷ 22 ∷ 23 ∷ 24 ∷ 25 ∷ 8 ∷ 8 ∷ 27 ∷ 55 ∷ 29 ∷ 30 ∷ 31 ∷ 32 ∷ 33 ∷ 20 ∷ 21 ∷ 34 ∷ 35 ∷ 36 ∷ 37 ∷ 38 ∷ 39 ∷ 11 ∷ 11 ∷ 20 ∷ 21 ∷ 40 ∷ 41 ∷ 42 ∷ 43 ∷ 44 ∷ 45 ∷ 44 ∷ 45 ∷ 46 ∷ 47 ∷ 20 ∷ 21 ∷ 48 ∷ 42 ∷ 48 ∷ 49 ∷ 50 ∷ 51 ∷ 20 ∷ 20 ∷ 52 ∷ 53 ∷ 116 ∷ []) ∷
    (11 ∷ 1 ∷ 2 ∷ 3 ∷ 4 ∷ 5 ∷ 6 ∷ 2 ∷ 7 ∷ 8 ∷ 9 ∷ 8 ∷ 10 ∷ 11 ∷ 12 ∷ 13 ∷ 14 ∷ 83 ∷ 15 ∷ 16 ∷ 17 ∷ 18 ∷ 19 ∷ 20 ∷ 21 ∷ 22 ∷ 23 ∷ 24 ∷ 25 ∷ 8 ∷ 8 ∷ 27 ∷ 55 ∷ 29 ∷ 30 ∷ 31 ∷ 32 ∷ 33 ∷ 20 ∷ 21 ∷ 34 ∷ 35 ∷ 36 ∷ 37 ∷ 38 ∷ 39 ∷ 11 ∷ 11 ∷ 20 ∷ 21 ∷ 40 ∷ 41 ∷ 42 ∷ 43 ∷ 44 ∷ 45 ∷ 44 ∷ 45 ∷ 46 ∷ 47 ∷ 20 ∷ 21 ∷ 48 ∷ 48 ∷ 48 ∷ 49 ∷ 50 ∷ 51 ∷ 20 ∷ 20 ∷ 52 ∷ 53 ∷ 117 ∷ []) ∷
    (11 ∷ 1 ∷ 2 ∷ 3 ∷ 4 ∷ 5 ∷ 6 ∷ 2 ∷ 7 ∷ 8 ∷ 9 ∷ 8 ∷ 10 ∷ 11 ∷ 12 ∷ 13 ∷ 14 ∷ 98 ∷ 15 ∷ 16 ∷ 17 ∷ 18 ∷ 19 ∷ 20 ∷ 21 ∷ 22 ∷ 23 ∷ 24 ∷ 25 ∷ 8 ∷ 8 ∷ 27 ∷ 55 ∷ 29 ∷ 30 ∷ 31 ∷ 32 ∷ 33 ∷ 20 ∷ 21 ∷ 34 ∷ 35 ∷ 36 ∷ 37 ∷ 38 ∷ 39 ∷ 11 ∷ 11 ∷ 20 ∷ 21 ∷ 40 ∷ 41 ∷ 42 ∷ 43 ∷ 44 ∷ 45 ∷ 44 ∷ 45 ∷ 46 ∷ 47 ∷ 20 ∷ 21 ∷ 48 ∷ 48 ∷ 48 ∷ 49 ∷ 71 ∷ 51 ∷ 20 ∷ 20 ∷ 52 ∷ 53 ∷ 118 ∷ []) ∷
    (11 ∷ 1 ∷ 2 ∷ 3 ∷ 4 ∷ 5 ∷ 6 ∷ 2 ∷ 7 ∷ 8 ∷ 9 ∷ 8 ∷ 10 ∷ 11 ∷ 12 ∷ 13 ∷ 14 ∷ 99 ∷ 15 ∷ 16 ∷ 17 ∷ 18 ∷ 19 ∷ 20 ∷ 21 ∷ 22 ∷ 23 ∷ 24 ∷ 25 ∷ 8 ∷ 8 ∷ 27 ∷ 55 ∷ 29 ∷ 30 ∷ 31 ∷ 32 ∷ 33 ∷ 20 ∷ 21 ∷ 34 ∷ 35 ∷ 36 ∷ 37 ∷ 38 ∷ 39 ∷ 11 ∷ 11 ∷ 20 ∷ 21 ∷ 40 ∷ 41 ∷ 42 ∷ 43 ∷ 44 ∷ 45 ∷ 44 ∷ 45 ∷ 46 ∷ 47 ∷ 20 ∷ 21 ∷ 48 ∷ 48 ∷ 60 ∷ 49 ∷ 71 ∷ 51 ∷ 20 ∷ 20 ∷ 52 ∷ 53 ∷ 119 ∷ []) ∷
    (11 ∷ 1 ∷ 2 ∷ 3 ∷ 4 ∷ 5 ∷ 6 ∷ 2 ∷ 7 ∷ 8 ∷ 9 ∷ 8 ∷ 10 ∷ 11 ∷ 12 ∷ 13 ∷ 14 ∷ 100 ∷ 15 ∷ 16 ∷ 17 ∷ 18 ∷ 19 ∷ 20 ∷ 21 ∷ 22 ∷ 23 ∷ 24 ∷ 25 ∷ 8 ∷ 8 ∷ 27 ∷ 55 ∷ 29 ∷ 30 ∷ 31 ∷ 32 ∷ 33 ∷ 20 ∷ 21 ∷ 34 ∷ 35 ∷ 36 ∷ 37 ∷ 38 ∷ 39 ∷ 11 ∷ 11 ∷ 20 ∷ 21 ∷ 40 ∷ 41 ∷ 42 ∷ 43 ∷ 44 ∷ 45 ∷ 44 ∷ 45 ∷ 46 ∷ 47 ∷ 20 ∷ 21 ∷ 48 ∷ 48 ∷ 48 ∷ 49 ∷ 71 ∷ 51 ∷ 20 ∷ 20 ∷ 52 ∷ 53 ∷ 120 ∷ []) ∷
    (11 ∷ 1 ∷ 2 ∷ 3 ∷ 4 ∷ 5 ∷ 6 ∷ 2 ∷ 7 ∷ 8 ∷ 9 ∷ 8 ∷ 10 ∷ 11 ∷ 12 ∷ 98 ∷ 99 ∷ 101 ∷ 100 ∷ 16 ∷ 17 ∷ 18 ∷ 19 ∷ 20 ∷ 21 ∷ 22 ∷ 23 ∷ 24 ∷ 25 ∷ 8 ∷ 8 ∷ 27 ∷ 55 ∷ 29 ∷ 30 ∷ 31 ∷ 32 ∷ 33 ∷ 20 ∷ 21 ∷ 34 ∷ 35 ∷ 101 ∷ 37 ∷ 38 ∷ 39 ∷ 11 ∷ 11 ∷ 20 ∷ 21 ∷ 40 ∷ 41 ∷ 42 ∷ 43 ∷ 44 ∷ 45 ∷ 44 ∷ 45 ∷ 46 ∷ 47 ∷ 20 ∷ 21 ∷ 48 ∷ 48 ∷ 48 ∷ 49 ∷ 50 ∷ 102 ∷ 20 ∷ 20 ∷ 52 ∷ 53 ∷ 121 ∷ []) ∷
    (11 ∷ 1 ∷ 2 ∷ 3 ∷ 4 ∷ 5 ∷ 6 ∷ 2 ∷ 7 ∷ 8 ∷ 9 ∷ 8 ∷ 10 ∷ 11 ∷ 12 ∷ 98 ∷ 99 ∷ 102 ∷ 100 ∷ 16 ∷ 17 ∷ 18 ∷ 19 ∷ 20 ∷ 21 ∷ 22 ∷ 23 ∷ 24 ∷ 25 ∷ 8 ∷ 8 ∷ 27 ∷ 55 ∷ 29 ∷ 30 ∷ 31 ∷ 32 ∷ 33 ∷ 20 ∷ 21 ∷ 34 ∷ 35 ∷ 101 ∷ 37 ∷ 38 ∷ 39 ∷ 11 ∷ 11 ∷ 20 ∷ 21 ∷ 40 ∷ 41 ∷ 42 ∷ 43 ∷ 44 ∷ 45 ∷ 44 ∷ 45 ∷ 46 ∷ 47 ∷ 20 ∷ 21 ∷ 48 ∷ 48 ∷ 48 ∷ 49 ∷ 50 ∷ 102 ∷ 20 ∷ 20 ∷ 52 ∷ 53 ∷ 122 ∷ []) ∷
    (255 ∷ 255 ∷ 255 ∷ 255 ∷ 255 ∷ 255 ∷ 255 ∷ 255 ∷ 255 ∷ 255 ∷ 255 ∷ 255 ∷ 255 ∷ 255 ∷ 255 ∷ 255 ∷ 255 ∷ 123 ∷ 255 ∷ 255 ∷ 255 ∷ 255 ∷ 255 ∷ 255 ∷ 255 ∷ 255 ∷ 255 ∷ 255 ∷ 255 ∷ 255 ∷ 255 ∷ 255 ∷ 255 ∷ 255 ∷ 255 ∷ 255 ∷ 255 ∷ 255 ∷ 255 ∷ 255 ∷ 255 ∷ 255 ∷ 255 ∷ 255 ∷ 255 ∷ 255 ∷ 255 ∷ 255 ∷ 255 ∷ 255 ∷ 255 ∷ 41 ∷ 255 ∷ 255 ∷ 255 ∷ 255 ∷ 255 ∷ 255 ∷ 255 ∷ 255 ∷ 255 ∷ 255 ∷ 255 ∷ 255 ∷ 255 ∷ 255 ∷ 255 ∷ 255 ∷ 255 ∷ 255 ∷ 255 ∷ 255 ∷ 123 ∷ []) ∷
    (255 ∷ 255 ∷ 255 ∷ 255 ∷ 255 ∷ 255 ∷ 255 ∷ 255 ∷ 255 ∷ 255 ∷ 255 ∷ 255 ∷ 255 ∷ 255 ∷ 255 ∷ 255 ∷ 255 ∷ 255 ∷ 255 ∷ 255 ∷ 255 ∷ 255 ∷ 255 ∷ 255 ∷ 255 ∷ 255 ∷ 255 ∷ 255 ∷ 255 ∷ 255 ∷ 255 ∷ 255 ∷ 255 ∷ 255 ∷ 255 ∷ 255 ∷ 255 ∷ 255 ∷ 255 ∷ 255 ∷ 255 ∷ 255 ∷ 255 ∷ 255 ∷ 255 ∷ 255 ∷ 255 ∷ 255 ∷ 255 ∷ 255 ∷ 255 ∷ 255 ∷ 255 ∷ 255 ∷ 255 ∷ 255 ∷ 255 ∷ 255 ∷ 255 ∷ 255 ∷ 255 ∷ 255 ∷ 255 ∷ 255 ∷ 255 ∷ 255 ∷ 255 ∷ 255 ∷ 255 ∷ 255 ∷ 255 ∷ 255 ∷ 255 ∷ []) ∷
    (11 ∷ 1 ∷ 2 ∷ 3 ∷ 4 ∷ 5 ∷ 6 ∷ 2 ∷ 7 ∷ 8 ∷ 9 ∷ 8 ∷ 10 ∷ 11 ∷ 12 ∷ 13 ∷ 14 ∷ 111 ∷ 15 ∷ 16 ∷ 17 ∷ 18 ∷ 19 ∷ 20 ∷ 21 ∷ 22 ∷ 23 ∷ 24 ∷ 25 ∷ 8 ∷ 8 ∷ 27 ∷ 55 ∷ 29 ∷ 30 ∷ 31 ∷ 32 ∷ 33 ∷ 20 ∷ 21 ∷ 34 ∷ 35 ∷ 36 ∷ 37 ∷ 38 ∷ 39 ∷ 11 ∷ 11 ∷ 20 ∷ 21 ∷ 40 ∷ 124 ∷ 42 ∷ 43 ∷ 44 ∷ 45 ∷ 44 ∷ 45 ∷ 46 ∷ 47 ∷ 20 ∷ 21 ∷ 48 ∷ 48 ∷ 48 ∷ 49 ∷ 50 ∷ 51 ∷ 20 ∷ 20 ∷ 52 ∷ 53 ∷ 125 ∷ []) ∷
    []

unfoldable pub plan : Plan
plan = record { accepts = accepts; nexts = nexts }

unfoldable pub waits : List Bool
waits =
    false ∷
    false ∷
    false ∷
    false ∷
    false ∷
    false ∷
    false ∷
    false ∷
    false ∷
    false ∷
    false ∷
    false ∷
    false ∷
    false ∷
    false ∷
    false ∷
    false ∷
    false ∷
    false ∷
    false ∷
    false ∷
    false ∷
    true ∷
    true ∷
    false ∷
    false ∷
    false ∷
    false ∷
    false ∷
    false ∷
    false ∷
    false ∷
    false ∷
    false ∷
    false ∷
    false ∷
    false ∷
    false ∷
    false ∷
    false ∷
    false ∷
    false ∷
    true ∷
    true ∷
    false ∷
    false ∷
    false ∷
    false ∷
    true ∷
    false ∷
    false ∷
    false ∷
    true ∷
    false ∷
    true ∷
    false ∷
    false ∷
    false ∷
    false ∷
    false ∷
    false ∷
    false ∷
    false ∷
    false ∷
    false ∷
    false ∷
    false ∷
    false ∷
    false ∷
    false ∷
    false ∷
    false ∷
    false ∷
    false ∷
    false ∷
    false ∷
    false ∷
    false ∷
    false ∷
    false ∷
    false ∷
    false ∷
    false ∷
    false ∷
    false ∷
    false ∷
    false ∷
    false ∷
    false ∷
    false ∷
    false ∷
    false ∷
    false ∷
    false ∷
    false ∷
    false ∷
    false ∷
    false ∷
    false ∷
    false ∷
    false ∷
    false ∷
    false ∷
    false ∷
    true ∷
    false ∷
    false ∷
    false ∷
    false ∷
    false ∷
    false ∷
    false ∷
    false ∷
    false ∷
    false ∷
    false ∷
    false ∷
    false ∷
    false ∷
    false ∷
    false ∷
    false ∷
    false ∷
    false ∷
    false ∷
    false ∷
    []

unfoldable pub relation : List (List Configuration)
relation =
    (at 0 1 0 false 0 0 0 ∷ at 0 3 0 false 0 0 0 ∷ at 1 4 0 false 0 0 0 ∷ at 2 5 0 false 0 0 0 ∷ at 3 6 0 false 0 0 0 ∷ at 4 7 0 false 0 0 0 ∷ at 5 8 0 false 0 0 0 ∷ at 6 9 0 false 0 0 0 ∷ at 7 10 0 false 0 0 0 ∷ at 8 11 0 false 0 0 0 ∷ at 9 3 0 false 0 0 0 ∷ at 10 12 0 false 0 0 0 ∷ at 11 2 0 false 0 0 0 ∷ at 12 13 0 false 0 0 0 ∷ at 13 14 0 false 0 0 0 ∷ at 14 15 0 false 0 0 0 ∷ at 15 16 0 false 0 0 0 ∷ at 16 17 0 false 0 0 0 ∷ at 17 18 0 false 0 0 0 ∷ at 18 19 0 false 0 0 0 ∷ at 19 20 0 false 0 0 0 ∷ at 20 21 0 false 0 0 0 ∷ at 21 22 0 false 0 0 0 ∷ at 24 23 0 false 0 0 0 ∷ at 25 24 0 false 0 0 0 ∷ at 26 25 0 false 0 0 0 ∷ at 27 4 0 false 0 0 0 ∷ at 28 26 0 false 0 0 0 ∷ at 29 27 0 false 0 0 0 ∷ at 30 28 0 false 0 0 0 ∷ at 31 29 0 false 0 0 0 ∷ at 32 30 0 false 0 0 0 ∷ at 33 31 0 false 0 0 0 ∷ at 34 32 0 false 0 0 0 ∷ at 35 33 0 false 0 0 0 ∷ at 36 34 0 false 0 0 0 ∷ at 37 35 0 false 0 0 0 ∷ at 38 36 0 false 0 0 0 ∷ at 39 37 0 false 0 0 0 ∷ at 40 2 0 false 0 0 0 ∷ at 41 38 0 false 0 0 0 ∷ at 42 39 0 false 0 0 0 ∷ at 45 40 0 false 0 0 0 ∷ at 46 41 0 false 0 0 0 ∷ at 47 42 0 false 0 0 0 ∷ at 48 43 0 false 0 0 0 ∷ at 49 21 0 false 0 0 0 ∷ at 50 22 0 false 0 0 0 ∷ at 54 44 0 false 0 0 0 ∷ at 55 45 0 false 0 0 0 ∷ at 56 46 0 false 0 0 0 ∷ at 58 47 0 false 0 0 0 ∷ at 60 48 0 false 0 0 0 ∷ at 61 49 0 false 0 0 0 ∷ at 62 50 0 false 0 0 0 ∷ at 65 51 0 false 0 0 0 ∷ at 70 52 0 false 0 0 0 ∷ at 76 53 0 false 0 0 0 ∷ at 91 54 0 false 0 0 0 ∷ at 92 55 0 false 0 0 0 ∷ at 107 56 0 false 0 0 0 ∷ at 108 57 0 false 0 0 0 ∷ at 109 58 0 false 0 0 0 ∷ at 110 59 0 false 0 0 0 ∷ at 111 60 0 false 0 0 0 ∷ at 126 21 0 false 0 0 0 ∷ at 130 47 0 false 0 0 0 ∷ []) ∷
    (at 1 1 0 true 2 0 0 ∷ at 1 1 0 true 2 0 1 ∷ at 1 2 0 true 2 0 0 ∷ at 1 2 0 true 2 0 1 ∷ []) ∷
    (at 2 1 0 true 2 0 0 ∷ at 2 1 0 true 2 0 1 ∷ at 2 2 0 true 2 0 0 ∷ at 2 2 0 true 2 0 1 ∷ at 2 62 0 true 2 0 0 ∷ []) ∷
    (at 3 1 0 true 2 0 0 ∷ at 3 1 0 true 2 0 1 ∷ at 3 2 0 true 2 0 0 ∷ at 3 2 0 true 2 0 1 ∷ []) ∷
    (at 4 1 0 true 2 0 0 ∷ at 4 1 0 true 2 0 1 ∷ at 4 2 0 true 2 0 0 ∷ at 4 2 0 true 2 0 1 ∷ []) ∷
    (at 5 1 0 true 2 0 0 ∷ at 5 1 0 true 2 0 1 ∷ at 5 2 0 true 2 0 0 ∷ at 5 2 0 true 2 0 1 ∷ at 5 62 0 true 2 0 0 ∷ []) ∷
    (at 6 1 0 true 2 0 0 ∷ at 6 1 0 true 2 0 1 ∷ at 6 2 0 true 2 0 0 ∷ at 6 2 0 true 2 0 1 ∷ []) ∷
    (at 7 1 0 true 2 0 0 ∷ at 7 1 0 true 2 0 1 ∷ at 7 2 0 true 2 0 0 ∷ at 7 2 0 true 2 0 1 ∷ []) ∷
    (at 8 1 0 true 2 0 0 ∷ at 8 1 0 true 2 0 1 ∷ at 8 2 0 true 2 0 0 ∷ at 8 2 0 true 2 0 1 ∷ []) ∷
    (at 9 1 0 true 2 0 0 ∷ at 9 1 0 true 2 0 1 ∷ at 9 2 0 true 2 0 0 ∷ at 9 2 0 true 2 0 1 ∷ []) ∷
    (at 10 1 0 true 2 0 0 ∷ at 10 1 0 true 2 0 1 ∷ at 10 2 0 true 2 0 0 ∷ at 10 2 0 true 2 0 1 ∷ []) ∷
    (at 11 1 0 true 2 1 0 ∷ at 11 1 0 true 2 1 1 ∷ at 11 2 0 true 2 1 0 ∷ at 11 2 0 true 2 1 1 ∷ at 40 1 0 true 2 1 0 ∷ at 40 1 0 true 2 1 1 ∷ at 40 2 0 true 2 1 0 ∷ at 40 2 0 true 2 1 1 ∷ []) ∷
    (at 12 1 0 true 2 0 0 ∷ at 12 1 0 true 2 0 1 ∷ at 12 2 0 true 2 0 0 ∷ at 12 2 0 true 2 0 1 ∷ []) ∷
    (at 13 1 0 true 2 0 0 ∷ at 13 1 0 true 2 0 1 ∷ at 13 2 0 true 2 0 0 ∷ at 13 2 0 true 2 0 1 ∷ []) ∷
    (at 14 1 0 true 2 0 0 ∷ at 14 1 0 true 2 0 1 ∷ at 14 2 0 true 2 0 0 ∷ at 14 2 0 true 2 0 1 ∷ []) ∷
    (at 15 1 0 true 2 0 0 ∷ at 15 1 0 true 2 0 1 ∷ at 15 2 0 true 2 0 0 ∷ at 15 2 0 true 2 0 1 ∷ []) ∷
    (at 16 1 0 true 2 1 0 ∷ at 16 1 0 true 2 1 1 ∷ at 16 2 0 true 2 1 0 ∷ at 16 2 0 true 2 1 1 ∷ []) ∷
    (at 17 1 0 true 2 0 0 ∷ at 17 1 0 true 2 0 1 ∷ at 17 2 0 true 2 0 0 ∷ at 17 2 0 true 2 0 1 ∷ []) ∷
    (at 18 1 0 true 2 0 0 ∷ at 18 1 0 true 2 0 1 ∷ at 18 2 0 true 2 0 0 ∷ at 18 2 0 true 2 0 1 ∷ []) ∷
    (at 19 1 0 true 2 0 0 ∷ at 19 1 0 true 2 0 1 ∷ at 19 2 0 true 2 0 0 ∷ at 19 2 0 true 2 0 1 ∷ []) ∷
    (at 20 1 0 true 2 0 0 ∷ at 20 1 0 true 2 0 1 ∷ at 20 2 0 true 2 0 0 ∷ at 20 2 0 true 2 0 1 ∷ at 49 1 0 true 2 0 0 ∷ at 49 1 0 true 2 0 1 ∷ at 49 2 0 true 2 0 0 ∷ at 49 2 0 true 2 0 1 ∷ at 126 1 0 true 2 0 0 ∷ []) ∷
    (at 21 1 0 true 2 0 0 ∷ at 21 1 0 true 2 0 1 ∷ at 21 2 0 true 2 0 0 ∷ at 21 2 0 true 2 0 1 ∷ at 50 1 0 true 2 0 0 ∷ at 50 1 0 true 2 0 1 ∷ at 50 2 0 true 2 0 0 ∷ at 50 2 0 true 2 0 1 ∷ []) ∷
    (at 22 1 0 false 0 0 0 ∷ at 22 1 0 false 1 0 0 ∷ at 22 1 0 false 1 0 1 ∷ at 22 2 0 false 0 0 0 ∷ at 22 2 0 false 1 0 0 ∷ at 22 2 0 false 1 0 1 ∷ at 85 1 0 false 0 0 0 ∷ at 85 1 0 false 1 0 0 ∷ at 85 1 0 false 1 0 1 ∷ at 85 2 0 false 0 0 0 ∷ at 85 2 0 false 1 0 0 ∷ at 85 2 0 false 1 0 1 ∷ []) ∷
    (at 23 1 0 false 0 0 0 ∷ at 23 1 0 false 1 0 0 ∷ at 23 1 0 false 1 0 1 ∷ at 23 2 0 false 0 0 0 ∷ at 23 2 0 false 1 0 0 ∷ at 23 2 0 false 1 0 1 ∷ at 87 1 0 false 0 0 0 ∷ at 87 1 0 false 1 0 0 ∷ at 87 1 0 false 1 0 1 ∷ at 87 2 0 false 0 0 0 ∷ at 87 2 0 false 1 0 0 ∷ at 87 2 0 false 1 0 1 ∷ []) ∷
    (at 24 1 0 true 2 0 0 ∷ at 24 1 0 true 2 0 1 ∷ at 24 2 0 true 2 0 0 ∷ at 24 2 0 true 2 0 1 ∷ []) ∷
    (at 25 1 0 true 2 0 0 ∷ at 25 1 0 true 2 0 1 ∷ at 25 2 0 true 2 0 0 ∷ at 25 2 0 true 2 0 1 ∷ []) ∷
    (at 26 1 0 true 2 0 0 ∷ at 26 1 0 true 2 0 1 ∷ at 26 2 0 true 2 0 0 ∷ at 26 2 0 true 2 0 1 ∷ []) ∷
    (at 27 1 0 true 2 0 0 ∷ at 27 1 0 true 2 0 1 ∷ at 27 2 0 true 2 0 0 ∷ at 27 2 0 true 2 0 1 ∷ []) ∷
    (at 28 1 0 true 2 0 0 ∷ at 28 1 0 true 2 0 1 ∷ at 28 2 0 true 2 0 0 ∷ at 28 2 0 true 2 0 1 ∷ []) ∷
    (at 29 1 0 true 2 0 0 ∷ at 29 1 0 true 2 0 1 ∷ at 29 2 0 true 2 0 0 ∷ at 29 2 0 true 2 0 1 ∷ []) ∷
    (at 30 1 0 true 2 0 0 ∷ at 30 1 0 true 2 0 1 ∷ at 30 2 0 true 2 0 0 ∷ at 30 2 0 true 2 0 1 ∷ []) ∷
    (at 31 1 0 true 2 0 0 ∷ at 31 1 0 true 2 0 1 ∷ at 31 2 0 true 2 0 0 ∷ at 31 2 0 true 2 0 1 ∷ []) ∷
    (at 32 1 0 true 2 0 0 ∷ at 32 1 0 true 2 0 1 ∷ at 32 2 0 true 2 0 0 ∷ at 32 2 0 true 2 0 1 ∷ []) ∷
    (at 33 1 0 true 2 0 0 ∷ at 33 1 0 true 2 0 1 ∷ at 33 2 0 true 2 0 0 ∷ at 33 2 0 true 2 0 1 ∷ []) ∷
    (at 34 1 0 true 2 0 0 ∷ at 34 1 0 true 2 0 1 ∷ at 34 2 0 true 2 0 0 ∷ at 34 2 0 true 2 0 1 ∷ []) ∷
    (at 35 1 0 true 2 0 0 ∷ at 35 1 0 true 2 0 1 ∷ at 35 2 0 true 2 0 0 ∷ at 35 2 0 true 2 0 1 ∷ []) ∷
    (at 36 1 0 true 2 0 0 ∷ at 36 1 0 true 2 0 1 ∷ at 36 2 0 true 2 0 0 ∷ at 36 2 0 true 2 0 1 ∷ at 36 65 0 true 2 0 0 ∷ at 36 67 0 true 2 0 0 ∷ at 36 68 0 true 2 0 0 ∷ []) ∷
    (at 37 1 0 true 2 0 0 ∷ at 37 1 0 true 2 0 1 ∷ at 37 2 0 true 2 0 0 ∷ at 37 2 0 true 2 0 1 ∷ []) ∷
    (at 38 1 0 true 2 0 0 ∷ at 38 1 0 true 2 0 1 ∷ at 38 2 0 true 2 0 0 ∷ at 38 2 0 true 2 0 1 ∷ []) ∷
    (at 39 1 0 true 2 0 0 ∷ at 39 1 0 true 2 0 1 ∷ at 39 2 0 true 2 0 0 ∷ at 39 2 0 true 2 0 1 ∷ []) ∷
    (at 41 1 0 true 2 0 0 ∷ at 41 1 0 true 2 0 1 ∷ at 41 2 0 true 2 0 0 ∷ at 41 2 0 true 2 0 1 ∷ []) ∷
    (at 42 1 0 true 2 0 0 ∷ at 42 1 0 true 2 0 1 ∷ at 42 2 0 true 2 0 0 ∷ at 42 2 0 true 2 0 1 ∷ []) ∷
    (at 43 1 0 false 0 0 0 ∷ at 43 1 0 false 1 0 0 ∷ at 43 1 0 false 1 0 1 ∷ at 43 2 0 false 0 0 0 ∷ at 43 2 0 false 1 0 0 ∷ at 43 2 0 false 1 0 1 ∷ at 43 63 0 false 0 0 0 ∷ at 43 64 0 false 0 0 0 ∷ at 52 1 0 false 0 0 0 ∷ at 52 1 0 false 1 0 0 ∷ at 52 1 0 false 1 0 1 ∷ at 52 2 0 false 0 0 0 ∷ at 52 2 0 false 1 0 0 ∷ at 52 2 0 false 1 0 1 ∷ at 52 61 0 false 0 0 0 ∷ at 64 61 0 false 0 0 0 ∷ at 86 1 0 false 0 0 0 ∷ at 86 1 0 false 1 0 0 ∷ at 86 1 0 false 1 0 1 ∷ at 86 2 0 false 0 0 0 ∷ at 86 2 0 false 1 0 0 ∷ at 86 2 0 false 1 0 1 ∷ at 114 1 0 false 0 0 0 ∷ at 114 1 0 false 1 0 0 ∷ at 114 1 0 false 1 0 1 ∷ at 114 2 0 false 0 0 0 ∷ at 114 2 0 false 1 0 0 ∷ at 114 2 0 false 1 0 1 ∷ at 114 63 0 false 0 0 0 ∷ at 114 64 0 false 0 0 0 ∷ at 124 1 0 false 0 0 0 ∷ at 124 1 0 false 1 0 0 ∷ at 124 1 0 false 1 0 1 ∷ at 124 2 0 false 0 0 0 ∷ at 124 2 0 false 1 0 0 ∷ at 124 2 0 false 1 0 1 ∷ at 124 61 0 false 0 0 0 ∷ at 134 61 0 false 0 0 0 ∷ at 136 1 0 false 0 0 0 ∷ at 136 1 0 false 1 0 0 ∷ at 136 1 0 false 1 0 1 ∷ at 136 2 0 false 0 0 0 ∷ at 136 2 0 false 1 0 0 ∷ at 136 2 0 false 1 0 1 ∷ []) ∷
    (at 44 1 0 false 0 0 0 ∷ at 44 1 0 false 1 0 0 ∷ at 44 1 0 false 1 0 1 ∷ at 44 2 0 false 0 0 0 ∷ at 44 2 0 false 1 0 0 ∷ at 44 2 0 false 1 0 1 ∷ at 44 63 0 false 0 0 0 ∷ at 44 64 0 false 0 0 0 ∷ at 115 1 0 false 0 0 0 ∷ at 115 1 0 false 1 0 0 ∷ at 115 1 0 false 1 0 1 ∷ at 115 2 0 false 0 0 0 ∷ at 115 2 0 false 1 0 0 ∷ at 115 2 0 false 1 0 1 ∷ at 115 63 0 false 0 0 0 ∷ at 115 64 0 false 0 0 0 ∷ []) ∷
    (at 45 1 0 true 2 0 0 ∷ at 45 1 0 true 2 0 1 ∷ at 45 2 0 true 2 0 0 ∷ at 45 2 0 true 2 0 1 ∷ []) ∷
    (at 46 1 0 true 2 0 0 ∷ at 46 1 0 true 2 0 1 ∷ at 46 2 0 true 2 0 0 ∷ at 46 2 0 true 2 0 1 ∷ []) ∷
    (at 47 1 0 true 2 0 0 ∷ at 47 1 0 true 2 0 1 ∷ at 47 2 0 true 2 0 0 ∷ at 47 2 0 true 2 0 1 ∷ []) ∷
    (at 48 1 0 true 2 0 0 ∷ at 48 1 0 true 2 0 1 ∷ at 48 2 0 true 2 0 0 ∷ at 48 2 0 true 2 0 1 ∷ []) ∷
    (at 51 1 0 false 0 0 0 ∷ at 51 1 0 false 1 0 0 ∷ at 51 1 0 false 1 0 1 ∷ at 51 2 0 false 0 0 0 ∷ at 51 2 0 false 1 0 0 ∷ at 51 2 0 false 1 0 1 ∷ at 53 1 0 false 0 0 0 ∷ at 53 1 0 false 1 0 0 ∷ at 53 1 0 false 1 0 1 ∷ at 53 2 0 false 0 0 0 ∷ at 53 2 0 false 1 0 0 ∷ at 53 2 0 false 1 0 1 ∷ at 53 66 0 false 0 0 0 ∷ at 64 1 0 false 0 0 0 ∷ at 64 1 0 false 1 0 0 ∷ at 64 1 0 false 1 0 1 ∷ at 64 2 0 false 0 0 0 ∷ at 64 2 0 false 1 0 0 ∷ at 64 2 0 false 1 0 1 ∷ at 122 1 0 false 0 0 0 ∷ at 122 1 0 false 1 0 0 ∷ at 122 1 0 false 1 0 1 ∷ at 122 2 0 false 0 0 0 ∷ at 122 2 0 false 1 0 0 ∷ at 122 2 0 false 1 0 1 ∷ at 125 1 0 false 0 0 0 ∷ at 125 1 0 false 1 0 0 ∷ at 125 1 0 false 1 0 1 ∷ at 125 2 0 false 0 0 0 ∷ at 125 2 0 false 1 0 0 ∷ at 125 2 0 false 1 0 1 ∷ at 125 66 0 false 0 0 0 ∷ at 134 1 0 false 0 0 0 ∷ at 134 1 0 false 1 0 0 ∷ at 134 1 0 false 1 0 1 ∷ at 134 2 0 false 0 0 0 ∷ at 134 2 0 false 1 0 0 ∷ at 134 2 0 false 1 0 1 ∷ []) ∷
    (at 54 1 0 true 2 0 0 ∷ at 61 1 0 true 2 0 0 ∷ at 61 1 0 true 2 0 1 ∷ at 61 2 0 true 2 0 0 ∷ at 61 2 0 true 2 0 1 ∷ []) ∷
    (at 55 1 0 true 2 0 2 ∷ at 55 2 0 true 2 0 2 ∷ []) ∷
    (at 56 1 0 true 2 0 0 ∷ at 56 1 0 true 2 0 1 ∷ at 56 2 0 true 2 0 0 ∷ at 56 2 0 true 2 0 1 ∷ []) ∷
    (at 57 1 0 false 0 0 0 ∷ at 57 1 0 false 1 0 0 ∷ at 57 1 0 false 1 0 1 ∷ at 57 2 0 false 0 0 0 ∷ at 57 2 0 false 1 0 0 ∷ at 57 2 0 false 1 0 1 ∷ at 129 1 0 false 0 0 0 ∷ at 129 1 0 false 1 0 0 ∷ at 129 1 0 false 1 0 1 ∷ at 129 2 0 false 0 0 0 ∷ at 129 2 0 false 1 0 0 ∷ at 129 2 0 false 1 0 1 ∷ []) ∷
    (at 58 1 0 true 2 0 0 ∷ at 58 1 0 true 2 0 1 ∷ at 58 2 0 true 2 0 0 ∷ at 58 2 0 true 2 0 1 ∷ at 130 1 0 true 2 0 0 ∷ at 130 1 0 true 2 0 1 ∷ at 130 2 0 true 2 0 0 ∷ at 130 2 0 true 2 0 1 ∷ []) ∷
    (at 59 1 0 false 0 0 0 ∷ at 59 1 0 false 1 0 0 ∷ at 59 1 0 false 1 0 1 ∷ at 59 2 0 false 0 0 0 ∷ at 59 2 0 false 1 0 0 ∷ at 59 2 0 false 1 0 1 ∷ []) ∷
    (at 60 1 0 true 2 0 0 ∷ at 60 1 0 true 2 0 1 ∷ at 60 2 0 true 2 0 0 ∷ at 60 2 0 true 2 0 1 ∷ []) ∷
    (at 2 1 62 true 3 0 0 ∷ at 2 1 62 true 3 0 1 ∷ at 2 2 62 true 3 0 0 ∷ at 2 2 62 true 3 0 1 ∷ at 5 1 62 true 3 0 0 ∷ at 5 1 62 true 3 0 1 ∷ at 5 2 62 true 3 0 0 ∷ at 5 2 62 true 3 0 1 ∷ at 63 1 62 false 3 0 0 ∷ at 63 1 62 false 3 0 1 ∷ at 63 2 62 false 3 0 0 ∷ at 63 2 62 false 3 0 1 ∷ at 68 1 62 false 3 0 0 ∷ at 68 1 62 false 3 0 1 ∷ at 68 2 62 false 3 0 0 ∷ at 68 2 62 false 3 0 1 ∷ []) ∷
    (at 62 1 0 true 2 0 0 ∷ at 62 1 0 true 2 0 1 ∷ at 62 2 0 true 2 0 0 ∷ at 62 2 0 true 2 0 1 ∷ []) ∷
    (at 63 1 0 false 1 0 0 ∷ at 63 1 0 false 1 0 1 ∷ at 63 2 0 false 1 0 0 ∷ at 63 2 0 false 1 0 1 ∷ at 63 62 0 false 1 0 0 ∷ []) ∷
    (at 64 1 61 false 3 0 0 ∷ at 64 1 61 false 3 0 1 ∷ at 64 2 61 false 3 0 0 ∷ at 64 2 61 false 3 0 1 ∷ at 134 1 61 false 3 0 0 ∷ at 134 1 61 false 3 0 1 ∷ at 134 2 61 false 3 0 0 ∷ at 134 2 61 false 3 0 1 ∷ []) ∷
    (at 65 1 0 true 2 0 0 ∷ at 65 1 0 true 2 0 1 ∷ at 65 2 0 true 2 0 0 ∷ at 65 2 0 true 2 0 1 ∷ []) ∷
    (at 66 1 0 false 1 0 0 ∷ at 66 1 0 false 1 0 1 ∷ at 66 2 0 false 1 0 0 ∷ at 66 2 0 false 1 0 1 ∷ []) ∷
    (at 67 1 0 false 1 0 0 ∷ at 67 1 0 false 1 0 1 ∷ at 67 2 0 false 1 0 0 ∷ at 67 2 0 false 1 0 1 ∷ []) ∷
    (at 68 1 0 false 1 0 0 ∷ at 68 1 0 false 1 0 1 ∷ at 68 2 0 false 1 0 0 ∷ at 68 2 0 false 1 0 1 ∷ at 68 62 0 false 1 0 0 ∷ []) ∷
    (at 69 1 0 false 1 0 0 ∷ at 69 1 0 false 1 0 1 ∷ at 69 2 0 false 1 0 0 ∷ at 69 2 0 false 1 0 1 ∷ []) ∷
    (at 70 1 0 true 2 0 2 ∷ at 70 2 0 true 2 0 2 ∷ []) ∷
    (at 71 1 0 false 1 0 0 ∷ at 71 1 0 false 1 0 1 ∷ at 71 2 0 false 1 0 0 ∷ at 71 2 0 false 1 0 1 ∷ []) ∷
    (at 72 1 0 false 1 0 0 ∷ at 72 1 0 false 1 0 1 ∷ at 72 2 0 false 1 0 0 ∷ at 72 2 0 false 1 0 1 ∷ []) ∷
    (at 73 1 0 false 1 0 0 ∷ at 73 1 0 false 1 0 1 ∷ at 73 2 0 false 1 0 0 ∷ at 73 2 0 false 1 0 1 ∷ []) ∷
    (at 74 1 0 false 1 0 0 ∷ at 74 1 0 false 1 0 1 ∷ at 74 2 0 false 1 0 0 ∷ at 74 2 0 false 1 0 1 ∷ []) ∷
    (at 75 1 0 false 1 0 0 ∷ at 75 1 0 false 1 0 1 ∷ at 75 2 0 false 1 0 0 ∷ at 75 2 0 false 1 0 1 ∷ []) ∷
    (at 76 1 0 true 2 0 2 ∷ at 76 2 0 true 2 0 2 ∷ []) ∷
    (at 77 1 0 false 1 0 0 ∷ at 77 1 0 false 1 0 1 ∷ at 77 2 0 false 1 0 0 ∷ at 77 2 0 false 1 0 1 ∷ []) ∷
    (at 78 1 0 false 1 0 0 ∷ at 78 1 0 false 1 0 1 ∷ at 78 2 0 false 1 0 0 ∷ at 78 2 0 false 1 0 1 ∷ []) ∷
    (at 79 1 0 false 1 0 0 ∷ at 79 1 0 false 1 0 1 ∷ at 79 2 0 false 1 0 0 ∷ at 79 2 0 false 1 0 1 ∷ []) ∷
    (at 80 1 0 false 1 0 0 ∷ at 80 1 0 false 1 0 1 ∷ at 80 2 0 false 1 0 0 ∷ at 80 2 0 false 1 0 1 ∷ []) ∷
    (at 81 1 0 false 1 0 0 ∷ at 81 1 0 false 1 0 1 ∷ at 81 2 0 false 1 0 0 ∷ at 81 2 0 false 1 0 1 ∷ []) ∷
    (at 82 1 0 false 1 0 0 ∷ at 82 1 0 false 1 0 1 ∷ at 82 2 0 false 1 0 0 ∷ at 82 2 0 false 1 0 1 ∷ []) ∷
    (at 83 1 0 false 1 0 0 ∷ at 83 1 0 false 1 0 1 ∷ at 83 2 0 false 1 0 0 ∷ at 83 2 0 false 1 0 1 ∷ at 120 1 0 false 1 0 0 ∷ at 120 1 0 false 1 0 1 ∷ at 120 2 0 false 1 0 0 ∷ at 120 2 0 false 1 0 1 ∷ at 144 1 0 false 1 0 0 ∷ []) ∷
    (at 84 1 0 false 1 0 0 ∷ at 84 1 0 false 1 0 1 ∷ at 84 2 0 false 1 0 0 ∷ at 84 2 0 false 1 0 1 ∷ at 121 1 0 false 1 0 0 ∷ at 121 1 0 false 1 0 1 ∷ at 121 2 0 false 1 0 0 ∷ at 121 2 0 false 1 0 1 ∷ []) ∷
    (at 88 1 0 false 1 0 0 ∷ at 88 1 0 false 1 0 1 ∷ at 88 2 0 false 1 0 0 ∷ at 88 2 0 false 1 0 1 ∷ []) ∷
    (at 89 1 0 false 1 0 0 ∷ at 89 1 0 false 1 0 1 ∷ at 89 2 0 false 1 0 0 ∷ at 89 2 0 false 1 0 1 ∷ []) ∷
    (at 90 1 0 false 1 0 0 ∷ at 90 1 0 false 1 0 1 ∷ at 90 2 0 false 1 0 0 ∷ at 90 2 0 false 1 0 1 ∷ []) ∷
    (at 91 1 0 true 2 0 0 ∷ at 91 1 0 true 2 0 1 ∷ at 91 2 0 true 2 0 0 ∷ at 91 2 0 true 2 0 1 ∷ at 92 1 0 true 2 0 0 ∷ at 92 1 0 true 2 0 1 ∷ at 92 2 0 true 2 0 0 ∷ at 92 2 0 true 2 0 1 ∷ []) ∷
    (at 93 1 0 false 1 0 0 ∷ at 93 1 0 false 1 0 1 ∷ at 93 2 0 false 1 0 0 ∷ at 93 2 0 false 1 0 1 ∷ []) ∷
    (at 94 1 0 false 1 0 0 ∷ at 94 1 0 false 1 0 1 ∷ at 94 2 0 false 1 0 0 ∷ at 94 2 0 false 1 0 1 ∷ []) ∷
    (at 95 1 0 false 1 0 0 ∷ at 95 1 0 false 1 0 1 ∷ at 95 2 0 false 1 0 0 ∷ at 95 2 0 false 1 0 1 ∷ []) ∷
    (at 96 1 0 false 1 0 0 ∷ at 96 1 0 false 1 0 1 ∷ at 96 2 0 false 1 0 0 ∷ at 96 2 0 false 1 0 1 ∷ []) ∷
    (at 97 1 0 false 1 0 0 ∷ at 97 1 0 false 1 0 1 ∷ at 97 2 0 false 1 0 0 ∷ at 97 2 0 false 1 0 1 ∷ []) ∷
    (at 98 1 0 false 1 0 0 ∷ at 98 1 0 false 1 0 1 ∷ at 98 2 0 false 1 0 0 ∷ at 98 2 0 false 1 0 1 ∷ []) ∷
    (at 99 1 0 false 1 0 0 ∷ at 99 1 0 false 1 0 1 ∷ at 99 2 0 false 1 0 0 ∷ at 99 2 0 false 1 0 1 ∷ []) ∷
    (at 100 1 0 false 1 0 0 ∷ at 100 1 0 false 1 0 1 ∷ at 100 2 0 false 1 0 0 ∷ at 100 2 0 false 1 0 1 ∷ []) ∷
    (at 101 1 0 false 1 0 0 ∷ at 101 1 0 false 1 0 1 ∷ at 101 2 0 false 1 0 0 ∷ at 101 2 0 false 1 0 1 ∷ []) ∷
    (at 102 1 0 false 1 0 0 ∷ at 102 1 0 false 1 0 1 ∷ at 102 2 0 false 1 0 0 ∷ at 102 2 0 false 1 0 1 ∷ at 102 65 0 false 1 0 0 ∷ at 102 67 0 false 1 0 0 ∷ at 102 68 0 false 1 0 0 ∷ []) ∷
    (at 103 1 0 false 1 0 0 ∷ at 103 1 0 false 1 0 1 ∷ at 103 2 0 false 1 0 0 ∷ at 103 2 0 false 1 0 1 ∷ []) ∷
    (at 104 1 0 false 1 0 0 ∷ at 104 1 0 false 1 0 1 ∷ at 104 2 0 false 1 0 0 ∷ at 104 2 0 false 1 0 1 ∷ []) ∷
    (at 105 1 0 false 1 0 0 ∷ at 105 1 0 false 1 0 1 ∷ at 105 2 0 false 1 0 0 ∷ at 105 2 0 false 1 0 1 ∷ []) ∷
    (at 106 1 0 false 1 0 0 ∷ at 106 1 0 false 1 0 1 ∷ at 106 2 0 false 1 0 0 ∷ at 106 2 0 false 1 0 1 ∷ []) ∷
    (at 107 1 0 true 2 0 0 ∷ at 107 1 0 true 2 0 1 ∷ at 107 2 0 true 2 0 0 ∷ at 107 2 0 true 2 0 1 ∷ []) ∷
    (at 108 1 0 true 2 0 0 ∷ at 108 1 0 true 2 0 1 ∷ at 108 2 0 true 2 0 0 ∷ at 108 2 0 true 2 0 1 ∷ []) ∷
    (at 109 1 0 true 2 0 0 ∷ at 109 1 0 true 2 0 1 ∷ at 109 2 0 true 2 0 0 ∷ at 109 2 0 true 2 0 1 ∷ []) ∷
    (at 110 1 0 true 2 0 0 ∷ at 110 1 0 true 2 0 1 ∷ at 110 2 0 true 2 0 0 ∷ at 110 2 0 true 2 0 1 ∷ []) ∷
    (at 111 1 0 true 2 0 0 ∷ at 111 1 0 true 2 0 1 ∷ at 111 2 0 true 2 0 0 ∷ at 111 2 0 true 2 0 1 ∷ []) ∷
    (at 112 1 0 false 1 0 0 ∷ at 112 1 0 false 1 0 1 ∷ at 112 2 0 false 1 0 0 ∷ at 112 2 0 false 1 0 1 ∷ []) ∷
    (at 113 1 0 false 0 0 0 ∷ at 113 1 0 false 1 0 0 ∷ at 113 1 0 false 1 0 1 ∷ at 113 2 0 false 0 0 0 ∷ at 113 2 0 false 1 0 0 ∷ at 113 2 0 false 1 0 1 ∷ at 123 1 0 false 0 0 0 ∷ at 123 1 0 false 1 0 0 ∷ at 123 1 0 false 1 0 1 ∷ at 123 2 0 false 0 0 0 ∷ at 123 2 0 false 1 0 0 ∷ at 123 2 0 false 1 0 1 ∷ []) ∷
    (at 43 1 63 false 3 0 0 ∷ at 43 1 63 false 3 0 1 ∷ at 43 1 64 false 3 0 0 ∷ at 43 1 64 false 3 0 1 ∷ at 43 2 63 false 3 0 0 ∷ at 43 2 63 false 3 0 1 ∷ at 43 2 64 false 3 0 0 ∷ at 43 2 64 false 3 0 1 ∷ at 44 1 63 false 3 0 0 ∷ at 44 1 63 false 3 0 1 ∷ at 44 1 64 false 3 0 0 ∷ at 44 1 64 false 3 0 1 ∷ at 44 2 63 false 3 0 0 ∷ at 44 2 63 false 3 0 1 ∷ at 44 2 64 false 3 0 0 ∷ at 44 2 64 false 3 0 1 ∷ at 114 1 63 false 3 0 0 ∷ at 114 1 63 false 3 0 1 ∷ at 114 1 64 false 3 0 0 ∷ at 114 1 64 false 3 0 1 ∷ at 114 2 63 false 3 0 0 ∷ at 114 2 63 false 3 0 1 ∷ at 114 2 64 false 3 0 0 ∷ at 114 2 64 false 3 0 1 ∷ at 115 1 63 false 3 0 0 ∷ at 115 1 63 false 3 0 1 ∷ at 115 1 64 false 3 0 0 ∷ at 115 1 64 false 3 0 1 ∷ at 115 2 63 false 3 0 0 ∷ at 115 2 63 false 3 0 1 ∷ at 115 2 64 false 3 0 0 ∷ at 115 2 64 false 3 0 1 ∷ []) ∷
    (at 116 1 0 false 1 0 0 ∷ at 116 1 0 false 1 0 1 ∷ at 116 2 0 false 1 0 0 ∷ at 116 2 0 false 1 0 1 ∷ []) ∷
    (at 117 1 0 false 1 0 0 ∷ at 117 1 0 false 1 0 1 ∷ at 117 2 0 false 1 0 0 ∷ at 117 2 0 false 1 0 1 ∷ []) ∷
    (at 118 1 0 false 1 0 0 ∷ at 118 1 0 false 1 0 1 ∷ at 118 2 0 false 1 0 0 ∷ at 118 2 0 false 1 0 1 ∷ []) ∷
    (at 119 1 0 false 1 0 0 ∷ at 119 1 0 false 1 0 1 ∷ at 119 2 0 false 1 0 0 ∷ at 119 2 0 false 1 0 1 ∷ []) ∷
    (at 127 1 0 false 1 0 0 ∷ at 132 1 0 false 1 0 0 ∷ at 132 1 0 false 1 0 1 ∷ at 132 2 0 false 1 0 0 ∷ at 132 2 0 false 1 0 1 ∷ []) ∷
    (at 36 1 65 true 2 0 3 ∷ at 36 2 65 true 2 0 3 ∷ []) ∷
    (at 53 1 66 false 3 0 3 ∷ at 53 2 66 false 3 0 3 ∷ at 125 1 66 false 3 0 3 ∷ at 125 2 66 false 3 0 3 ∷ []) ∷
    (at 128 1 0 false 1 0 0 ∷ at 128 1 0 false 1 0 1 ∷ at 128 2 0 false 1 0 0 ∷ at 128 2 0 false 1 0 1 ∷ []) ∷
    (at 131 1 0 false 1 0 0 ∷ at 131 1 0 false 1 0 1 ∷ at 131 2 0 false 1 0 0 ∷ at 131 2 0 false 1 0 1 ∷ []) ∷
    (at 133 1 0 false 1 0 0 ∷ at 133 1 0 false 1 0 1 ∷ at 133 2 0 false 1 0 0 ∷ at 133 2 0 false 1 0 1 ∷ []) ∷
    (at 135 1 0 false 1 0 0 ∷ at 135 1 0 false 1 0 1 ∷ at 135 2 0 false 1 0 0 ∷ at 135 2 0 false 1 0 1 ∷ []) ∷
    (at 137 1 0 false 1 0 0 ∷ at 137 1 0 false 1 0 1 ∷ at 137 2 0 false 1 0 0 ∷ at 137 2 0 false 1 0 1 ∷ at 138 1 0 false 1 0 0 ∷ at 138 1 0 false 1 0 1 ∷ at 138 2 0 false 1 0 0 ∷ at 138 2 0 false 1 0 1 ∷ []) ∷
    (at 139 1 0 false 1 0 0 ∷ at 139 1 0 false 1 0 1 ∷ at 139 2 0 false 1 0 0 ∷ at 139 2 0 false 1 0 1 ∷ []) ∷
    (at 140 1 0 false 1 0 0 ∷ at 140 1 0 false 1 0 1 ∷ at 140 2 0 false 1 0 0 ∷ at 140 2 0 false 1 0 1 ∷ []) ∷
    (at 141 1 0 false 1 0 0 ∷ at 141 1 0 false 1 0 1 ∷ at 141 2 0 false 1 0 0 ∷ at 141 2 0 false 1 0 1 ∷ []) ∷
    (at 142 1 0 false 1 0 0 ∷ at 142 1 0 false 1 0 1 ∷ at 142 2 0 false 1 0 0 ∷ at 142 2 0 false 1 0 1 ∷ []) ∷
    (at 143 1 0 false 1 0 0 ∷ at 143 1 0 false 1 0 1 ∷ at 143 2 0 false 1 0 0 ∷ at 143 2 0 false 1 0 1 ∷ []) ∷
    (at 36 1 67 true 3 0 0 ∷ at 36 1 67 true 3 0 1 ∷ at 36 1 68 true 3 0 0 ∷ at 36 1 68 true 3 0 1 ∷ at 36 2 67 true 3 0 0 ∷ at 36 2 67 true 3 0 1 ∷ at 36 2 68 true 3 0 0 ∷ at 36 2 68 true 3 0 1 ∷ at 102 1 67 false 3 0 0 ∷ at 102 1 67 false 3 0 1 ∷ at 102 1 68 false 3 0 0 ∷ at 102 1 68 false 3 0 1 ∷ at 102 2 67 false 3 0 0 ∷ at 102 2 67 false 3 0 1 ∷ at 102 2 68 false 3 0 0 ∷ at 102 2 68 false 3 0 1 ∷ []) ∷
    ([]) ∷
    (at 102 1 65 false 1 0 3 ∷ at 102 2 65 false 1 0 3 ∷ []) ∷
    []

pub rules-are : line_rules ≡ numbered_rules
unfolding bits_from pattern_of rows_of rows_above_marks rows_below_marks line_rules numbered_above numbered_below numbered_rules
rules-are = refl

befores-hold-0 : (ss : List Before) (rows : List (List ℕ)) (os : List ℕ) → befores_hold numbered_rules tables 72 ss rows os ≡ true
    → befores_hold numbered_rules tables 72 (befores_0 ss) (moves_0 rows) (owes_0 os) ≡ true
unfolding numbered_above numbered_below numbered_rules befores_0 befores_1 befores_2 befores_3 befores_4 moves_0 moves_1 moves_2 moves_3 moves_4 owes_0 owes_1 owes_2 owes_3 owes_4 befores moves owes dues reads tables once once_number once_flags flow no_flags is_full is_live moved unread moves_on put_on put onto begun owed_rows owed reading read_all read get same_flags same_lives same_pattern same_entries same_due moves_hold befores_hold reads_hold dues_hold append_dues all_below rows_below among ends entered goes_on each_goes configurations_hold configuration_holds relation_holds starts_hold
befores-hold-0 ss rows os h = h

befores-hold-1 : (ss : List Before) (rows : List (List ℕ)) (os : List ℕ) → befores_hold numbered_rules tables 72 ss rows os ≡ true
    → befores_hold numbered_rules tables 72 (befores_1 ss) (moves_1 rows) (owes_1 os) ≡ true
unfolding numbered_above numbered_below numbered_rules befores_0 befores_1 befores_2 befores_3 befores_4 moves_0 moves_1 moves_2 moves_3 moves_4 owes_0 owes_1 owes_2 owes_3 owes_4 befores moves owes dues reads tables once once_number once_flags flow no_flags is_full is_live moved unread moves_on put_on put onto begun owed_rows owed reading read_all read get same_flags same_lives same_pattern same_entries same_due moves_hold befores_hold reads_hold dues_hold append_dues all_below rows_below among ends entered goes_on each_goes configurations_hold configuration_holds relation_holds starts_hold
befores-hold-1 ss rows os h = h

befores-hold-2 : (ss : List Before) (rows : List (List ℕ)) (os : List ℕ) → befores_hold numbered_rules tables 72 ss rows os ≡ true
    → befores_hold numbered_rules tables 72 (befores_2 ss) (moves_2 rows) (owes_2 os) ≡ true
unfolding numbered_above numbered_below numbered_rules befores_0 befores_1 befores_2 befores_3 befores_4 moves_0 moves_1 moves_2 moves_3 moves_4 owes_0 owes_1 owes_2 owes_3 owes_4 befores moves owes dues reads tables once once_number once_flags flow no_flags is_full is_live moved unread moves_on put_on put onto begun owed_rows owed reading read_all read get same_flags same_lives same_pattern same_entries same_due moves_hold befores_hold reads_hold dues_hold append_dues all_below rows_below among ends entered goes_on each_goes configurations_hold configuration_holds relation_holds starts_hold
befores-hold-2 ss rows os h = h

befores-hold-3 : (ss : List Before) (rows : List (List ℕ)) (os : List ℕ) → befores_hold numbered_rules tables 72 ss rows os ≡ true
    → befores_hold numbered_rules tables 72 (befores_3 ss) (moves_3 rows) (owes_3 os) ≡ true
unfolding numbered_above numbered_below numbered_rules befores_0 befores_1 befores_2 befores_3 befores_4 moves_0 moves_1 moves_2 moves_3 moves_4 owes_0 owes_1 owes_2 owes_3 owes_4 befores moves owes dues reads tables once once_number once_flags flow no_flags is_full is_live moved unread moves_on put_on put onto begun owed_rows owed reading read_all read get same_flags same_lives same_pattern same_entries same_due moves_hold befores_hold reads_hold dues_hold append_dues all_below rows_below among ends entered goes_on each_goes configurations_hold configuration_holds relation_holds starts_hold
befores-hold-3 ss rows os h = h

befores-hold-4 : (ss : List Before) (rows : List (List ℕ)) (os : List ℕ) → befores_hold numbered_rules tables 72 ss rows os ≡ true
    → befores_hold numbered_rules tables 72 (befores_4 ss) (moves_4 rows) (owes_4 os) ≡ true
unfolding numbered_above numbered_below numbered_rules befores_0 befores_1 befores_2 befores_3 befores_4 moves_0 moves_1 moves_2 moves_3 moves_4 owes_0 owes_1 owes_2 owes_3 owes_4 befores moves owes dues reads tables once once_number once_flags flow no_flags is_full is_live moved unread moves_on put_on put onto begun owed_rows owed reading read_all read get same_flags same_lives same_pattern same_entries same_due moves_hold befores_hold reads_hold dues_hold append_dues all_below rows_below among ends entered goes_on each_goes configurations_hold configuration_holds relation_holds starts_hold
befores-hold-4 ss rows os h = h

befores-hold : befores_hold numbered_rules tables 72 befores moves owes ≡ true
unfolding befores moves owes befores_hold
befores-hold = befores-hold-0 _ _ _ (befores-hold-1 _ _ _ (befores-hold-2 _ _ _ (befores-hold-3 _ _ _ (befores-hold-4 _ _ _ refl))))

start-holds : same_before (at_start numbered_rules) (get no_before befores 0) ≡ true
unfolding numbered_above numbered_below numbered_rules befores_0 befores_1 befores_2 befores_3 befores_4 moves_0 moves_1 moves_2 moves_3 moves_4 owes_0 owes_1 owes_2 owes_3 owes_4 befores moves owes dues reads tables once once_number once_flags flow no_flags is_full is_live moved unread moves_on put_on put onto begun owed_rows owed reading read_all read get same_flags same_lives same_pattern same_entries same_due moves_hold befores_hold reads_hold dues_hold append_dues all_below rows_below among ends entered goes_on each_goes configurations_hold configuration_holds relation_holds starts_hold
start-holds = refl

dues-hold : dues_hold numbered_rules tables 72 (append_dues verdicts dues) reads ≡ true
unfolding numbered_above numbered_below numbered_rules befores_0 befores_1 befores_2 befores_3 befores_4 moves_0 moves_1 moves_2 moves_3 moves_4 owes_0 owes_1 owes_2 owes_3 owes_4 befores moves owes dues reads tables once once_number once_flags flow no_flags is_full is_live moved unread moves_on put_on put onto begun owed_rows owed reading read_all read get same_flags same_lives same_pattern same_entries same_due moves_hold befores_hold reads_hold dues_hold append_dues all_below rows_below among ends entered goes_on each_goes configurations_hold configuration_holds relation_holds starts_hold
dues-hold = refl

moves-below : once_number (length befores) (λ many. nat_lt 0 many && rows_below many moves) ≡ true
unfolding numbered_above numbered_below numbered_rules befores_0 befores_1 befores_2 befores_3 befores_4 moves_0 moves_1 moves_2 moves_3 moves_4 owes_0 owes_1 owes_2 owes_3 owes_4 befores moves owes dues reads tables once once_number once_flags flow no_flags is_full is_live moved unread moves_on put_on put onto begun owed_rows owed reading read_all read get same_flags same_lives same_pattern same_entries same_due moves_hold befores_hold reads_hold dues_hold append_dues all_below rows_below among ends entered goes_on each_goes configurations_hold configuration_holds relation_holds starts_hold
moves-below = refl

pub scans-hold : scans_hold numbered_rules tables plan relation ≡ true
unfolding numbered_above numbered_below numbered_rules befores_0 befores_1 befores_2 befores_3 befores_4 moves_0 moves_1 moves_2 moves_3 moves_4 owes_0 owes_1 owes_2 owes_3 owes_4 befores moves owes dues reads tables once once_number once_flags flow no_flags is_full is_live moved unread moves_on put_on put onto begun owed_rows owed reading read_all read get same_flags same_lives same_pattern same_entries same_due moves_hold befores_hold reads_hold dues_hold append_dues all_below rows_below among ends entered goes_on each_goes configurations_hold configuration_holds relation_holds starts_hold accepts nexts plan relation
scans-hold = refl

pub tables-hold : tables_hold numbered_rules 72 tables ≡ true
unfolding tables
tables-hold = and_from _ _ start-holds (and_from _ _ befores-hold (and_from _ _ dues-hold moves-below))
