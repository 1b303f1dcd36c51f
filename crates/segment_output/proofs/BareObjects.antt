-- Objects of texts in which nothing is escaped.
use Rattle.std.proofs.Common.{◌≡◌, ℕ, ◌==◌, ◌&&◌, not, nat_lt, Bool, true, false, List, [], ◌∷◌, ◌++◌, codes, decimal, IfSome, OnOk, Option, None, Some, Result, Ok, Err, if◌then◌else◌, is_ok, refl, sym, ap, ◌∙◌, append_assoc, eqb-true}
use Rattle.std.proofs.lemmas.Bool.{true≢false}
use Rattle.std.specs.Borrow.{Bor}
use Rattle.std.specs.List.{list_all}
use Rattle.std.specs.Option.{option_map}
use Rattle.std.proofs.lemmas.Str.{utf8_lossy-IsUtf8}
use Rattle.json.specs.Print.{escape, escape_byte, print, print_from}
use Rattle.json.specs.Token.{Token, begin_object, end_object, key, string, number}
use Rattle.segment_text.specs.Bare.{AreBare, is_bare}
use Rattle.segment_text.proofs.BareStretches.{both}
use Rattle.segment_output.specs.Objects.{opening}
use Rattle.segment_output.specs.Output.{Segment, mark_tokens, object_of}

module _ (byte : ℕ) (bare : is_bare byte ≡ true) where
  high : nat_lt byte 32 ≡ false
  high = on (nat_lt byte 32) bare
    where
      on : (b : Bool) → (not b && not (byte == 34) && not (byte == 92)) ≡ true → b ≡ false
      on false is = refl
      on true is = absurd (true≢false (sym is))

  apart : (n : ℕ) → is_bare n ≡ false → (byte == n) ≡ false
  apart n is = on (byte == n) refl
    where
      on : (b : Bool) → (byte == n) ≡ b → b ≡ false
      on false same = refl
      on true same = absurd (true≢false (sym bare ∙ ap is_bare (eqb-true byte n same) ∙ is))

  bare-byte : escape_byte byte ≡ byte ∷ []
  unfolding escape_byte
  bare-byte = rw (apart 34 refl, apart 92 refl, apart 8 refl, apart 12 refl, apart 10 refl, apart 13 refl, apart 9 refl, high) refl

pub bare-text : (text : List ℕ) → list_all is_bare text ≡ true → escape text ≡ text
bare-text [] are = refl
bare-text (byte ∷ text) are =
    let bare = both (is_bare byte) (list_all is_bare text) are in
    rw (bare-byte byte bare.0) (ap (λ (rest : List ℕ). byte ∷ rest) (bare-text text bare.1))

bare-tokens : (text from to : List ℕ) (others : List Token) → escape text ≡ text
    → print (begin_object ∷ key (codes "text") ∷ string text ∷ key (codes "begin") ∷ number from ∷ key (codes "end") ∷ number to ∷ others)
    ≡ codes "{\"text\":\"" ++ (text ++ (codes "\",\"begin\":" ++ (from ++ (codes ",\"end\":" ++ (to ++ print_from true others)))))
unfolding print_from escape_byte
bare-tokens text from to others bare =
    rw bare (ap (λ (rest : List ℕ). codes "{\"text\":\"" ++ rest) (append_assoc text (34 ∷ []) (codes ",\"begin\":" ++ (from ++ (codes ",\"end\":" ++ (to ++ print_from true others))))))

named-tokens : (name text from to : List ℕ) (others : List Token) → escape name ≡ name → escape text ≡ text
    → print (begin_object ∷ key (codes "file") ∷ string name ∷ key (codes "text") ∷ string text ∷ key (codes "begin") ∷ number from ∷ key (codes "end") ∷ number to ∷ others)
    ≡ (codes "{\"file\":\"" ++ (name ++ codes "\",\"text\":\"")) ++ (text ++ (codes "\",\"begin\":" ++ (from ++ (codes ",\"end\":" ++ (to ++ print_from true others)))))
unfolding print_from escape_byte
named-tokens name text from to others bare_name bare =
    let rest : List ℕ = codes "\",\"begin\":" ++ (from ++ (codes ",\"end\":" ++ (to ++ print_from true others))) in
    let after : (text ++ 34 ∷ []) ++ (codes ",\"begin\":" ++ (from ++ (codes ",\"end\":" ++ (to ++ print_from true others)))) ≡ text ++ rest =
    append_assoc text (34 ∷ []) (codes ",\"begin\":" ++ (from ++ (codes ",\"end\":" ++ (to ++ print_from true others)))) in
    rw (bare_name, bare, after)
    (ap (λ (rest : List ℕ). codes "{\"file\":\"" ++ rest) (append_assoc name (34 ∷ []) (codes ",\"text\":\"" ++ (text ++ rest)) ∙ sym (append_assoc name (codes "\",\"text\":\"") (text ++ rest))))

-- the object of such a text, of whose file such a name is said or none
pub bare-object : (file : Option (List ℕ)) (text : List ℕ) (segment : Segment) → IfSome file AreBare → AreBare text
    → print (object_of file text segment)
    ≡ opening file ++ (text ++ (codes "\",\"begin\":" ++ (decimal segment.from ++ (codes ",\"end\":" ++ (decimal segment.to ++ print_from true (mark_tokens segment.mark ++ end_object ∷ []))))))
bare-object None text segment none bare =
    rw (utf8_lossy-IsUtf8 text bare.0) (bare-tokens text (decimal segment.from) (decimal segment.to) (mark_tokens segment.mark ++ end_object ∷ []) (bare-text text bare.1))
bare-object (Some name) text segment named bare =
    rw (utf8_lossy-IsUtf8 text bare.0)
    (named-tokens name text (decimal segment.from) (decimal segment.to) (mark_tokens segment.mark ++ end_object ∷ []) (bare-text name named.1) (bare-text text bare.1))

-- a name that is passed
pub bare-name : (name : Option (Bor (List ℕ))) → IfSome name (λ name. AreBare name.now) → IfSome (option_map (λ name. name.now) name) AreBare
bare-name None bare = tt
bare-name (Some name) bare = bare

-- what is added where there is memory
pub extended : {X E : Type 0} (r : Result X E) (new all old : List ℕ) → new ≡ (if is_ok r then all else old) → OnOk r (new ≡ all)
extended (Ok x) new all old is = is
extended (Err e) new all old is = tt

-- pieces that are added one after another
pub pieces : (l a b c d e f g l1 l2 l3 l4 l5 l6 : List ℕ) → l1 ≡ l ++ a → l2 ≡ l1 ++ b → l3 ≡ l2 ++ c → l4 ≡ l3 ++ d → l5 ≡ l4 ++ e → l6 ≡ l5 ++ f
    → l6 ++ g ≡ l ++ (a ++ (b ++ (c ++ (d ++ (e ++ (f ++ g))))))
pieces l a b c d e f g l1 l2 l3 l4 l5 l6 one two three four five six =
    rw (
      six,
      five,
      four,
      three,
      two,
      one,
      append_assoc (((((l ++ a) ++ b) ++ c) ++ d) ++ e) f g,
      append_assoc ((((l ++ a) ++ b) ++ c) ++ d) e (f ++ g),
      append_assoc (((l ++ a) ++ b) ++ c) d (e ++ (f ++ g)),
      append_assoc ((l ++ a) ++ b) c (d ++ (e ++ (f ++ g))),
      append_assoc (l ++ a) b (c ++ (d ++ (e ++ (f ++ g)))),
      append_assoc l a (b ++ (c ++ (d ++ (e ++ (f ++ g))))),
    )
    refl
