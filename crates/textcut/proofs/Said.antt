-- What writes append that follow one another.
use Rattle.std.proofs.Common.{◌≡◌, ℕ, ◌+◌, ◌-◌, List, length, take, drop, append_assoc, Option, Some, None, Result, Ok, Err, ◌∙◌, arith}
use Rattle.std.proofs.lemmas.List.{take_all, length-drop}
use Rattle.std.proofs.Math.Seq.{take-add}
use Rattle.std.specs.Io.KnownBytes.{Appends, Keeps, WriteAppends}

Appends-more : (old mid new : Option (List ℕ)) (message : List ℕ) (said count : ℕ)
    → Appends old mid (take said message) → Appends mid new (take count (drop said message)) → Appends old new (take (said + count) message)
Appends-more None mid new message said count h more = tt
Appends-more (Some xs) None new message said count h more = absurd h
Appends-more (Some xs) (Some ys) None message said count h more = absurd more
Appends-more (Some xs) (Some ys) (Some zs) message said count h more =
    rw (take-add said count message, more, h, append_assoc)

Appends-kept : (old mid new : Option (List ℕ)) (bytes : List ℕ) → Appends old mid bytes → Keeps mid new → Appends old new bytes
Appends-kept None mid new bytes h kept = tt
Appends-kept (Some xs) None new bytes h kept = absurd h
Appends-kept (Some xs) (Some ys) None bytes h kept = absurd kept
Appends-kept (Some xs) (Some ys) (Some zs) bytes h kept = kept ∙ h

-- what is left of the message, up to its end
abbrev pub rest : List ℕ → ℕ → List ℕ
rest message said = take (length message - said) (drop said message)

rest-is : (message : List ℕ) (said : ℕ) → rest message said ≡ drop said message
rest-is message said = take_all _ _ (omega (arith, length-drop said message))

module _ {E : Type 0} (old mid new : Option (List ℕ)) (message : List ℕ) (said : ℕ) (h : Appends old mid (take said message)) where
  -- after a write that took so many bytes
  pub Appends-at_ok : (r : Result ℕ E) (count : ℕ) → WriteAppends mid new r (rest message said) → r ≡ Ok count → Appends old new (take (said + count) message)
  Appends-at_ok r count wrote is = Appends-more old mid new message said count h (rw (is, rest-is message said) at wrote)

  -- after one that failed
  pub Appends-at_err : (r : Result ℕ E) (error : E) → WriteAppends mid new r (rest message said) → r ≡ Err error → Appends old new (take said message)
  Appends-at_err r error wrote is = Appends-kept old mid new (take said message) h (rw is at wrote)
