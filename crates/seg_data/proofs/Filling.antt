-- Places that are filled from others.
use Rattle.std.proofs.Common.{◌≡◌, refl}
use Rattle.std.specs.Prelude.{Option, Some, None}
use Rattle.std.specs.Option.{option_or, option_map}
use Rattle.seg_data.specs.declared.dictionaries.DictionariesBorrowed.{DictionariesBorrowed}
use Rattle.seg_data.specs.ScriptWords.{filled, borrowed_words}

map-or : {A B : Type 0} (f : A → B) (place found : Option A) → option_map f (option_or place found) ≡ option_or (option_map f place) (option_map f found)
map-or f None found = refl
map-or f (Some value) found = refl

pub borrowed-filled : (dictionaries others : DictionariesBorrowed)
    → borrowed_words (record {
      my = option_or dictionaries.my others.my;
      km = option_or dictionaries.km others.km;
      lo = option_or dictionaries.lo others.lo;
      th = option_or dictionaries.th others.th;
      ja = option_or dictionaries.ja others.ja;
    })
    ≡ filled (borrowed_words dictionaries) (borrowed_words others)
borrowed-filled dictionaries others =
    rw (map-or _ dictionaries.my others.my, map-or _ dictionaries.km others.km, map-or _ dictionaries.lo others.lo, map-or _ dictionaries.th others.th, map-or _ dictionaries.ja others.ja) refl
