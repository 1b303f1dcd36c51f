use Rattle.std.proofs.Common.{◌≡◌, ℕ, ◌<◌, Bool, true, false, List, length, MatchBool, sym, ap, ◌∙◌, arith, rules, tests}
use Rattle.std.specs.List.{HoldsAt, AllWithin}
use Rattle.std.specs.Str.{chars}
use Rattle.std.proofs.lemmas.Bool.{false≢true}
use Rattle.std.proofs.lemmas.Iterator.{cases_from_any, YieldsList-from_chars}
use Rattle.seg_segments.specs.InLines.{IsSpaceless}
use Rattle.seg_segments.specs.Suppression.{is_space}
use Rattle.seg_segments.proofs.suppress.abbreviations.has_space.Goals as goal

spaceless : (r : Bool) (cs : List ℕ) → MatchBool r ((k : ℕ) × (k < length cs) × HoldsAt (λ c. true ≡ is_space c) cs k) (AllWithin (λ c. false ≡ is_space c) cs 0 (length cs))
    → r ≡ false → IsSpaceless cs
spaceless true cs found is c has = absurd (false≢true (sym is))
spaceless false cs none is c has = sym (none has.0 c (omega arith) has.1 ∙ ap is_space has.2)

pub returns : goal.returns
returns c =
    spaceless c.any.result (chars c.args.word.now)
    (cases_from_any _ _ _ (λ (x : ℕ). true ≡ is_space x) (λ (x : ℕ). false ≡ is_space x) c.any.ensures.ran (YieldsList-from_chars c.args.word.now c.utf8.word cc)
    (λ x q k. search (rules, tests)) (λ x q k. search (rules, tests)))
