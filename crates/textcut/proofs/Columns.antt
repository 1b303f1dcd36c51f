-- Words of columns, as they are parsed.
use Rattle.std.proofs.Common.{◌≡◌, ◌≢◌, ℕ, ◌<◌, ◌≤◌, ◌^◌, List, length, Result, Ok, Err, MatchResult, get_or, arith}
use Rattle.std.specs.Result.{OkIff}
use Rattle.std.specs.Str.Parse.{AllDigits, digits_value, ParsesUnsigned}
use Rattle.std.proofs.lemmas.Str.Parse.{IsNumeralModel, numerals_by_value, tells_digits, parse_plain, digits_value_short}
use Rattle.textcut.specs.Request.{IsColumns}

own : IsNumeralModel (AllDigits 10) (digits_value 10)
own = numerals_by_value _ tells_digits

module _ (word : List ℕ) (short : length word ≤ 5) (plain : get_or word 0 0 ≢ 43) where
  small : AllDigits 10 word → digits_value 10 word < 2 ^ 64
  small digits = omega (arith, digits_value_short own word 5 digits short)

  pub columns-parsed : {E : Type 0} (r : Result ℕ E) → ParsesUnsigned 64 10 word r
      → MatchResult r (λ columns. IsColumns word × (columns ≡ digits_value 10 word)) (λ e. IsColumns word → ⊥)
  columns-parsed r parses = on r (parse_plain own 64 word r parses plain)
    where
      on : {E : Type 0} (r : Result ℕ E) → OkIff r (AllDigits 10 word × (0 < length word) × (digits_value 10 word < 2 ^ 64)) (digits_value 10 word)
          → MatchResult r (λ columns. IsColumns word × (columns ≡ digits_value 10 word)) (λ e. IsColumns word → ⊥)
      on (Ok columns) is = (((is.0.1, is.0.0), short), is.1)
      on (Err e) is = λ has. is (has.0.1, has.0.0, small has.0.1)
