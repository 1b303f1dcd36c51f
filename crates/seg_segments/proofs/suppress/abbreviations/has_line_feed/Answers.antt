use Rattle.std.proofs.Common.{◌≡◌, ℕ, ◌<◌, Bool, true, false, List, length, MatchBool, Contains, refl, arith, rules, tests}
use Rattle.std.specs.Prelude.{◌↔◌, IsTrue}
use Rattle.std.specs.List.{HoldsAt, AllWithin}
use Rattle.std.specs.Str.{chars}
use Rattle.std.proofs.lemmas.Bool.{false≢true}
use Rattle.std.proofs.lemmas.Iterator.{cases_from_any, YieldsList-from_chars}
use Rattle.seg_segments.proofs.suppress.abbreviations.has_line_feed.Goals as goal

has-feed : (r : Bool) (cs : List ℕ) → MatchBool r ((k : ℕ) × (k < length cs) × HoldsAt (λ c. c ≡ 10) cs k) (AllWithin (λ c. c ≡ 10 → ⊥) cs 0 (length cs))
    → IsTrue r ↔ Contains cs 10
has-feed true cs found = (λ _. (found.0, found.1, found.2 10), λ _. refl)
has-feed false cs none = (λ is. absurd (false≢true is), λ has. absurd (none has.0 10 (omega arith) has.1 has.2))

pub returns : goal.returns
returns c =
    let by_call = cases_from_any _ _ _ (λ (x : ℕ). x ≡ 10) (λ (x : ℕ). x ≡ 10 → ⊥) c.any.ensures.ran (YieldsList-from_chars c.args.word.now c.utf8.word cc)
    (λ x q k. search (rules, tests)) (λ x q k. search (rules, tests)) in
    has-feed c.any.result (chars c.args.word.now) by_call
