-- Numbers that lines don't break.
use Rattle.std.proofs.Common.{Some, ◌≡◌, ℕ, ◌<◌, Bool, true, false, not, ◌&&◌, ◌||◌, ◌==◌, List, [], ◌∷◌, ◌++◌, map, reverse, refl, sym, ap, ap₂, ◌∙◌, arith, inl, inr, append_assoc, subst}
use Rattle.std.specs.List.{All}
use Rattle.std.proofs.lemmas.Bool.{and_parts, not-true, or_cases, or_left, or_right}
use Rattle.std.proofs.lemmas.List.{map-append, reverse-append}
use Rattle.std.proofs.lemmas.List.Elements.{All-append, All-cons, All-head, All-nil, All-tail}
use Rattle.ucd_table.proofs.TrieCheck.{all_below, all_below-at}
use Rattle.seg_rules.specs.declared.rules.Count.TheVariants.{One, Star}
use Rattle.seg_rules.specs.Patterns.{Each, EndsIn, flags}
use Rattle.seg_rules.specs.Plain.{bases_after, bases_before, is_base, right_fits, row_fits}
use Rattle.seg_rules.specs.RowRules.{Pattern, Row, flow, has, is_full, no_flags, once}
use Rattle.icu_segmenter_uax29.proofs.Tests.{implied, implies}
use Rattle.icu_segmenter_uax14.specs.Characters.{character}
use Rattle.seg_rules.specs.Classes.{◌or◌, ◌but◌}
use Rattle.icu_segmenter_uax14.specs.LineClasses.{LineClass, CL, CP, IS, NU, OP, PO, PR, SY, LOOSE}
use Rattle.icu_segmenter_uax14.specs.LineValues.{properties_of}
use Rattle.icu_segmenter_uax14.specs.Neighbours.{Is, IsJoined}
use Rattle.icu_segmenter_uax14.specs.Tailored.{Tailoring, style_of}
use Rattle.icu_segmenter_uax14.proofs.LineTables.{numbered_above, numbered_below, numbered_rules}
use Rattle.icu_segmenter_uax14.proofs.Neighbours.{ByVerdicts, in-class, joined-at, symbol}
use Rattle.icu_segmenter_uax14.proofs.PlaceTests.{around-kept, around_by, around_keeps, base-alone, next-alone, plain-after, plain-before}
use Rattle.icu_segmenter_uax14.proofs.RowTests.{ByPatterns, after-fits, fits-may, keeps, may_begin, may_end, may_fit, same_items, sure-fits, sure_after, sure_fit}
use Rattle.icu_segmenter_uax14.proofs.Sequences.{each_pair, numbered-verdict, pair-at, some-list}
use Rattle.icu_segmenter_uax14.proofs.Tailorings.{symbols-have-properties}

-- the bit of a class is set of each of its symbols, and none of them is a mark
abbrev pub holds : LineClass → ℕ → Bool
holds class number = all_below (λ s. implies (class (Some (properties_of s))) (has number s && not (has numbered_rules.marks s))) 73

read-at : (class : LineClass) (number : ℕ) → holds class number ≡ true → (tailoring : Tailoring) (c : ℕ) → Is tailoring class c
    → (has number (symbol tailoring c) ≡ true) × (has numbered_rules.marks (symbol tailoring c) ≡ false)
read-at class number all tailoring c is =
    let s = symbol tailoring c in
    let parts = and_parts (has number s) _ (implied (class (Some (properties_of s))) _
    (all_below-at (λ s. implies (class (Some (properties_of s))) (has number s && not (has numbered_rules.marks s))) 73 s all (symbols-have-properties tailoring c).below)
    (in-class tailoring class c is)) in
    (parts.0, not-true _ parts.1)

abbrev digit_bits : ℕ
digit_bits = 2251799813685248

abbrev infix_bits : ℕ
infix_bits = 147573956987722924032

abbrev closing_bits : ℕ
closing_bits = 98304

abbrev bracket_bits : ℕ
bracket_bits = 262144

digits-hold : holds NU digit_bits ≡ true
unfolding all_below numbered_rules
digits-hold = refl

infixes-hold : holds (IS or SY) infix_bits ≡ true
unfolding all_below numbered_rules
infixes-hold = refl

closings-hold : holds CL closing_bits ≡ true
unfolding all_below numbered_rules
closings-hold = refl

brackets-hold : holds CP bracket_bits ≡ true
unfolding all_below numbered_rules
brackets-hold = refl

-- one of a class and any number of another, and with a closing mark after them
abbrev pub run_of : ℕ → ℕ → Pattern
run_of lead_bits more_bits = (lead_bits, One) ∷ (more_bits, Star) ∷ []

abbrev pub closed_run : ℕ → ℕ → ℕ → Pattern
closed_run lead_bits more_bits bits = (lead_bits, One) ∷ (more_bits, Star) ∷ (bits, One) ∷ []

-- after what fits a left side, where of the rows above these may fit
abbrev pub after_by : (ℕ → ℕ → Row → Bool) → Pattern → ℕ → ℕ → Bool
after_by may left x y = around_keeps numbered_rules (may x y) (sure_after left x y) (λ v. v == 0) x y

module _ (tailoring : Tailoring) where
  abbrev f : ℕ → ℕ
  f = symbol tailoring

  abbrev IsPlain : ℕ → Type 0
  IsPlain c = has numbered_rules.marks (f c) ≡ false

  few : ByPatterns → (c : ℕ) → f c < 73
  few by_patterns c = (symbols-have-properties tailoring c).below

-- of two classes
module _ (lead more : LineClass) (lead_bits more_bits : ℕ) (leads : holds lead lead_bits ≡ true) (mores : holds more more_bits ≡ true) (tailoring : Tailoring) where
  abbrev g : ℕ → ℕ
  g = symbol tailoring

  abbrev IsMore : ℕ → Type 0
  IsMore c = Is tailoring more c

  abbrev Plain : ℕ → Type 0
  Plain c = has numbered_rules.marks (g c) ≡ false

  each-infix : (cs : List ℕ) → All IsMore cs → Each more_bits (map g cs)
  each-infix [] all = tt
  each-infix (c ∷ cs) all = (
    (read-at more more_bits mores tailoring c (All-head IsMore c cs all)).0,
    each-infix cs (All-tail IsMore c cs all),
  )

  plain-infixes : (cs : List ℕ) → All IsMore cs → All Plain cs
  plain-infixes [] all = All-nil Plain
  plain-infixes (c ∷ cs) all =
      All-cons Plain c cs (read-at more more_bits mores tailoring c (All-head IsMore c cs all)).1
      (plain-infixes cs (All-tail IsMore c cs all))

  pub reversed : (cs : List ℕ) → All IsMore cs → All IsMore (reverse cs)
  reversed [] all = all
  reversed (c ∷ cs) all =
      subst (All IsMore) (sym (reverse-append (c ∷ []) cs))
      (All-append IsMore (reverse cs) (c ∷ []) (reversed cs (All-tail IsMore c cs all)) (All-cons IsMore c [] (All-head IsMore c cs all) (All-nil IsMore)))

  module _ (by_patterns : ByPatterns) where
    -- the bases before a place after digits and what stands within numbers, nearest first
    digit-bases : (infixes : List ℕ) (digit : ℕ) (past : List ℕ) → All IsMore infixes → Is tailoring lead digit
        → bases_before numbered_rules (map g (infixes ++ (digit ∷ past))) ≡ (map g infixes ++ (g digit ∷ [])) ++ bases_before numbered_rules (map g past)
    unfolding numbered_rules
    digit-bases infixes digit past all is =
        let known = infixes ++ (digit ∷ []) in
        let plain = All-append Plain infixes (digit ∷ []) (plain-infixes infixes all)
        (All-cons Plain digit [] (read-at lead lead_bits leads tailoring digit is).1 (All-nil Plain)) in
        ap (bases_before numbered_rules) (ap (map g) (sym (append_assoc infixes (digit ∷ []) past)) ∙ map-append g known past)
        ∙ plain-before numbered_rules by_patterns refl (omega arith) refl g (few tailoring by_patterns) known (map g past) plain
        ∙ ap (λ l. l ++ bases_before numbered_rules (map g past)) (map-append g infixes (digit ∷ []))

    ends-in-number : (infixes : List ℕ) (digit : ℕ) (past : List ℕ) → All IsMore infixes → Is tailoring lead digit
        → EndsIn (run_of lead_bits more_bits) (bases_before numbered_rules (map g (infixes ++ (digit ∷ past))))
    ends-in-number infixes digit past all is =
        let has_digit = (read-at lead lead_bits leads tailoring digit is).0 in (
          map g infixes ++ (g digit ∷ []),
          bases_before numbered_rules (map g past),
          (
            digit-bases infixes digit past all is,
            (map g infixes, g digit ∷ [], (refl, ((g digit, (refl, has_digit)), ([], map g infixes, (refl, (each-infix infixes all, refl)))))),
          ),
        )

    ends-closed : (class : LineClass) (bits : ℕ) → holds class bits ≡ true → (closing : ℕ) (infixes : List ℕ) (digit : ℕ) (past : List ℕ) → Is tailoring class closing
        → All IsMore infixes → Is tailoring lead digit → EndsIn (closed_run lead_bits more_bits bits) (bases_before numbered_rules (map g (closing ∷ (infixes ++ (digit ∷ past)))))
    unfolding numbered_rules
    ends-closed class bits held closing infixes digit past closes all is =
        let has_digit = (read-at lead lead_bits leads tailoring digit is).0 in
        let (has_closing, plain) = read-at class bits held tailoring closing closes in
        let own = map g infixes ++ (g digit ∷ []) in (
          g closing ∷ own,
          bases_before numbered_rules (map g past),
          (
            base-alone numbered_rules by_patterns refl (omega arith) refl g (few tailoring by_patterns) (g closing) (map g (infixes ++ (digit ∷ past))) plain
                ∙ ap (λ l. g closing ∷ l) (digit-bases infixes digit past all is),
            (
              g closing ∷ map g infixes,
              g digit ∷ [],
              (
                refl,
                (
                  (g digit, (refl, has_digit)),
                  (
                    g closing ∷ [],
                    map g infixes,
                    (
                      refl,
                      (
                        each-infix infixes all,
                        ([], g closing ∷ [], (refl, ((g closing, (refl, has_closing)), refl))),
                      ),
                    ),
                  ),
                ),
              ),
            ),
          ),
        )

    module _ (by_verdicts : ByVerdicts) where
      -- no break after what fits a left side
      pub after-joined : (may : ℕ → ℕ → Row → Bool) (left : Pattern) (lasts nexts : LineClass) → each_pair (after_by may left) lasts nexts ≡ true
          → (before after : List ℕ) (c : ℕ) (cs : List ℕ) (d : ℕ)
          → ((row : Row) → row_fits row (map g (c ∷ cs) ++ (0 ∷ [])) (map g (d ∷ after) ++ (0 ∷ [])) ≡ true → may (g c) (g d) row ≡ true)
          → reverse before ≡ c ∷ cs → Is tailoring lasts c → Is tailoring nexts d
          → EndsIn left (bases_before numbered_rules (map g (c ∷ cs))) → IsJoined tailoring before (d ∷ after)
      unfolding numbered_rules around_by
      after-joined may left lasts nexts kept before after c cs d may_be turned is_last is_next ends =
          let x = g c in
          let y = g d in
          let here = pair-at (after_by may left) lasts nexts kept tailoring c d is_last is_next in
          let parts = and_parts (not (has numbered_rules.marks x)) _ here in
          let more_parts = and_parts (not (has numbered_rules.marks y)) _ parts.1 in
          let base = is_base numbered_rules (map g (c ∷ cs)) in
          let further = bases_after numbered_rules ((has numbered_rules.marks y && base) || (numbered_rules.has_marks && not (has numbered_rules.bare y))) (map g after) in
          let before_is = base-alone numbered_rules by_patterns refl (omega arith) refl g (few tailoring by_patterns) x (map g cs) (not-true _ parts.0) in
          let after_is = next-alone numbered_rules by_patterns refl (omega arith) refl g (few tailoring by_patterns) base y (map g after) (not-true _ more_parts.0) in
          joined-at by_patterns by_verdicts tailoring before (d ∷ after) (some-list before c cs turned)
          (numbered-verdict tailoring before (d ∷ after) c cs turned
          (around-kept numbered_rules by_patterns refl (omega arith) refl g (few tailoring by_patterns) (λ v. v == 0) (may x y) (sure_after left x y) c d cs after may_be
          (λ row sure.
          ap₂ (λ (b a : List ℕ). row_fits row b a) before_is after_is
          ∙ after-fits by_patterns row left x y (bases_before numbered_rules (map g cs)) further (subst (EndsIn left) before_is ends) sure)
          here))

      turned-number : (before infixes : List ℕ) (digit : ℕ) → reverse (before ++ (digit ∷ infixes)) ≡ reverse infixes ++ (digit ∷ reverse before)
      turned-number before infixes digit =
          reverse-append before (digit ∷ infixes) ∙ ap (λ l. l ++ reverse before) (reverse-append (digit ∷ []) infixes)
          ∙ append_assoc (reverse infixes) (digit ∷ []) (reverse before)

      by-near : (may : ℕ → ℕ → Row → Bool) (nexts : LineClass) → each_pair (after_by may (run_of lead_bits more_bits)) (lead or more) nexts ≡ true
          → (before infixes after : List ℕ) (digit next : ℕ) (near : List ℕ)
          → ((c : ℕ) (cs : List ℕ) (row : Row) → near ++ (digit ∷ reverse before) ≡ c ∷ cs
          → row_fits row (map g (c ∷ cs) ++ (0 ∷ [])) (map g (next ∷ after) ++ (0 ∷ [])) ≡ true → may (g c) (g next) row ≡ true)
          → reverse infixes ≡ near → Is tailoring lead digit → All IsMore near → Is tailoring nexts next
          → IsJoined tailoring (before ++ (digit ∷ infixes)) (next ∷ after)
      by-near may nexts kept before infixes after digit next [] may_be turned is_digit all is_next =
          after-joined may (run_of lead_bits more_bits) (lead or more) nexts kept (before ++ (digit ∷ infixes)) after digit (reverse before) next
          (λ row. may_be digit (reverse before) row refl)
          (turned-number before infixes digit ∙ ap (λ l. l ++ (digit ∷ reverse before)) turned)
          (or_left _ _ is_digit) is_next (ends-in-number [] digit (reverse before) all is_digit)
      by-near may nexts kept before infixes after digit next (c ∷ near) may_be turned is_digit all is_next =
          after-joined may (run_of lead_bits more_bits) (lead or more) nexts kept (before ++ (digit ∷ infixes)) after c (near ++ (digit ∷ reverse before)) next
          (λ row. may_be c (near ++ (digit ∷ reverse before)) row refl)
          (turned-number before infixes digit ∙ ap (λ l. l ++ (digit ∷ reverse before)) turned)
          (or_right (lead (Some (style_of tailoring (character c)))) _ (All-head IsMore c near all)) is_next
          (ends-in-number (c ∷ near) digit (reverse before) all is_digit)

      -- Law: after digits and what stands within numbers
      pub run-stays : (may : ℕ → ℕ → Row → Bool) (nexts : LineClass) → each_pair (after_by may (run_of lead_bits more_bits)) (lead or more) nexts ≡ true
          → (before infixes after : List ℕ) (digit next : ℕ)
          → ((c : ℕ) (cs : List ℕ) (row : Row) → reverse infixes ++ (digit ∷ reverse before) ≡ c ∷ cs
          → row_fits row (map g (c ∷ cs) ++ (0 ∷ [])) (map g (next ∷ after) ++ (0 ∷ [])) ≡ true → may (g c) (g next) row ≡ true)
          → Is tailoring lead digit → All IsMore infixes → Is tailoring nexts next → IsJoined tailoring (before ++ (digit ∷ infixes)) (next ∷ after)
      run-stays may nexts kept before infixes after digit next may_be is_digit all is_next =
          by-near may nexts kept before infixes after digit next (reverse infixes) may_be refl is_digit (reversed infixes all) is_next

      -- Law: and after a closing mark behind them
      pub closed-stays : (class : LineClass) (bits : ℕ) → holds class bits ≡ true → (nexts : LineClass) → each_pair (after_by may_fit (closed_run lead_bits more_bits bits)) class nexts ≡ true
          → (before infixes after : List ℕ) (digit closing next : ℕ) → Is tailoring lead digit → All IsMore infixes → Is tailoring class closing → Is tailoring nexts next
          → IsJoined tailoring ((before ++ (digit ∷ infixes)) ++ (closing ∷ [])) (next ∷ after)
      closed-stays class bits held nexts kept before infixes after digit closing next is_digit all closes is_next =
          after-joined may_fit (closed_run lead_bits more_bits bits) class nexts kept ((before ++ (digit ∷ infixes)) ++ (closing ∷ [])) after closing
          (reverse infixes ++ (digit ∷ reverse before)) next
          (λ row. fits-may by_patterns row (g closing) (g next) (map g (reverse infixes ++ (digit ∷ reverse before)) ++ (0 ∷ [])) (map g after ++ (0 ∷ [])))
          (reverse-append (before ++ (digit ∷ infixes)) (closing ∷ []) ∙ ap (λ l. closing ∷ l) (turned-number before infixes digit))
          closes is_next (ends-closed class bits held closing (reverse infixes) digit (reverse before) closes (reversed infixes all) is_digit)

-- ---- before brackets

-- a row surely fits between a symbol and these
abbrev opened_keeps : ℕ → List ℕ → ℕ → Bool
opened_keeps x rest y = around_keeps numbered_rules (may_fit x y) (sure_fit (x ∷ []) (y ∷ rest)) (λ v. v == 0) x y

-- a prefix, an opening mark and a digit; and what stands within numbers before it
abbrev bracket_keeps : ℕ → ℕ → ℕ → Bool
bracket_keeps z x y = opened_keeps x (z ∷ []) y

abbrev point_keeps : ℕ → ℕ → ℕ → ℕ → Bool
point_keeps w z x y = opened_keeps x (w ∷ (z ∷ [])) y

abbrev each_bracket : LineClass → LineClass → LineClass → Bool
each_bracket lasts openings digits = all_below (λ z. implies (digits (Some (properties_of z))) (each_pair (bracket_keeps z) lasts openings)) 73

abbrev each_point : LineClass → LineClass → LineClass → LineClass → Bool
each_point lasts openings points digits =
    all_below (λ w. implies (points (Some (properties_of w))) (all_below (λ z. implies (digits (Some (properties_of z))) (each_pair (point_keeps w z) lasts openings)) 73)) 73

bracketed-tests : each_bracket (PO or PR but LOOSE) OP NU ≡ true
unfolding around_by keeps may_end may_begin all_below flags flow is_full no_flags once right_fits numbered_above numbered_below numbered_rules
bracketed-tests = refl

point-tests : each_point (PO or PR but LOOSE) OP IS NU ≡ true
unfolding around_by keeps may_end may_begin all_below flags flow is_full no_flags once right_fits numbered_above numbered_below numbered_rules
point-tests = refl

module _ (tailoring : Tailoring) (by_patterns : ByPatterns) (by_verdicts : ByVerdicts) where
  opened-joined : (before after : List ℕ) (last next : ℕ) (known : List ℕ) → All (IsPlain tailoring) known
      → opened_keeps (symbol tailoring last) (map (symbol tailoring) known) (symbol tailoring next) ≡ true
      → IsJoined tailoring (before ++ (last ∷ [])) (next ∷ (known ++ after))
  unfolding numbered_rules around_by
  opened-joined before after last next known plain here =
      let g = symbol tailoring in
      let x = g last in
      let y = g next in
      let few_g = few tailoring by_patterns in
      let parts = and_parts (not (has numbered_rules.marks x)) _ here in
      let more_parts = and_parts (not (has numbered_rules.marks y)) _ parts.1 in
      let cs = reverse before in
      let base = is_base numbered_rules (map g (last ∷ cs)) in
      let before_is = base-alone numbered_rules by_patterns refl (omega arith) refl g few_g x (map g cs) (not-true _ parts.0) in
      let (further, after_is) = plain-after numbered_rules by_patterns refl (omega arith) refl g few_g (next ∷ known) base (map g after)
      (All-cons (IsPlain tailoring) next known (not-true _ more_parts.0) plain) in
      let turned = reverse-append before (last ∷ []) in
      joined-at by_patterns by_verdicts tailoring (before ++ (last ∷ [])) (next ∷ (known ++ after)) (some-list (before ++ (last ∷ [])) last cs turned)
      (numbered-verdict tailoring (before ++ (last ∷ [])) (next ∷ (known ++ after)) last cs turned
      (around-kept numbered_rules by_patterns refl (omega arith) refl g few_g (λ v. v == 0) (may_fit x y) (sure_fit (x ∷ []) (y ∷ map g known)) last next cs (known ++ after)
      (λ row. fits-may by_patterns row x y (map g cs ++ (0 ∷ [])) (map g (known ++ after) ++ (0 ∷ [])))
      (λ row sure.
      ap₂ (λ (b a : List ℕ). row_fits row b a) before_is (ap (λ l. bases_after numbered_rules base (y ∷ l)) (map-append g known after) ∙ after_is)
      ∙ sure-fits by_patterns row (x ∷ []) (y ∷ map g known) (bases_before numbered_rules (map g cs)) further sure)
      here))

  -- Law: no break before a bracket that a number stands in, after a prefix or a suffix
  pub brackets-stay : (before after : List ℕ) (last opening digit : ℕ) → Is tailoring (PO or PR but LOOSE) last → Is tailoring OP opening → Is tailoring NU digit
      → IsJoined tailoring (before ++ (last ∷ [])) (opening ∷ (digit ∷ after))
  brackets-stay before after last opening digit is_last opens is_digit =
      let z = symbol tailoring digit in
      opened-joined before after last opening (digit ∷ [])
      (All-cons (IsPlain tailoring) digit [] (read-at NU digit_bits digits-hold tailoring digit is_digit).1 (All-nil (IsPlain tailoring)))
      (pair-at (bracket_keeps z) (PO or PR but LOOSE) OP
      (implied (NU (Some (properties_of z))) _
      (all_below-at (λ z. implies (NU (Some (properties_of z))) (each_pair (bracket_keeps z) (PO or PR but LOOSE) OP)) 73 z bracketed-tests (symbols-have-properties tailoring digit).below)
      (in-class tailoring NU digit is_digit))
      tailoring last opening is_last opens)

  pub points-stay : (before after : List ℕ) (last opening point digit : ℕ) → Is tailoring (PO or PR but LOOSE) last → Is tailoring OP opening → Is tailoring IS point
      → Is tailoring NU digit → IsJoined tailoring (before ++ (last ∷ [])) (opening ∷ (point ∷ (digit ∷ after)))
  points-stay before after last opening point digit is_last opens is_point is_digit =
      let w = symbol tailoring point in
      let z = symbol tailoring digit in
      let by_point = implied (IS (Some (properties_of w))) _
      (all_below-at (λ w. implies (IS (Some (properties_of w))) (all_below (λ z. implies (NU (Some (properties_of z))) (each_pair (point_keeps w z) (PO or PR but LOOSE) OP)) 73)) 73 w point-tests (symbols-have-properties tailoring point).below)
      (in-class tailoring IS point is_point) in
      opened-joined before after last opening (point ∷ (digit ∷ []))
      (All-cons (IsPlain tailoring) point (digit ∷ []) (read-at (IS or SY) infix_bits infixes-hold tailoring point (or_left _ _ is_point)).1
      (All-cons (IsPlain tailoring) digit [] (read-at NU digit_bits digits-hold tailoring digit is_digit).1 (All-nil (IsPlain tailoring))))
      (pair-at (point_keeps w z) (PO or PR but LOOSE) OP
      (implied (NU (Some (properties_of z))) _
      (all_below-at (λ z. implies (NU (Some (properties_of z))) (each_pair (point_keeps w z) (PO or PR but LOOSE) OP)) 73 z by_point (symbols-have-properties tailoring digit).below)
      (in-class tailoring NU digit is_digit))
      tailoring last opening is_last opens)

-- the tests of it, computed
infix-tests : each_pair (after_by may_fit (run_of digit_bits infix_bits)) (NU or (IS or SY)) (NU or PR or PO but LOOSE) ≡ true
unfolding around_by same_items keeps may_end may_begin all_below flags flow is_full no_flags once right_fits numbered_above numbered_below numbered_rules
infix-tests = refl

closing-tests : each_pair (after_by may_fit (closed_run digit_bits infix_bits closing_bits)) CL (PR or PO but LOOSE) ≡ true
unfolding around_by same_items keeps may_end may_begin all_below flags flow is_full no_flags once right_fits numbered_above numbered_below numbered_rules
closing-tests = refl

bracket-tests : each_pair (after_by may_fit (closed_run digit_bits infix_bits bracket_bits)) CP (PR or PO but LOOSE) ≡ true
unfolding around_by same_items keeps may_end may_begin all_below flags flow is_full no_flags once right_fits numbered_above numbered_below numbered_rules
bracket-tests = refl

module _ (by_patterns : ByPatterns) (by_verdicts : ByVerdicts) where
  pub infixes-stay : (tailoring : Tailoring) (before infixes after : List ℕ) (digit next : ℕ) → Is tailoring NU digit → All (Is tailoring (IS or SY)) infixes
      → Is tailoring (NU or PR or PO but LOOSE) next → IsJoined tailoring (before ++ (digit ∷ infixes)) (next ∷ after)
  infixes-stay tailoring before infixes after digit next is_digit all is_next =
      run-stays NU (IS or SY) digit_bits infix_bits digits-hold infixes-hold tailoring by_patterns by_verdicts may_fit (NU or PR or PO but LOOSE) infix-tests before infixes after
      digit next
      (λ c cs row is. fits-may by_patterns row (symbol tailoring c) (symbol tailoring next) (map (symbol tailoring) cs ++ (0 ∷ [])) (map (symbol tailoring) after ++ (0 ∷ [])))
      is_digit all is_next

  pub closed-numbers-stay : (tailoring : Tailoring) (before infixes after : List ℕ) (digit closing next : ℕ) → Is tailoring NU digit
      → All (Is tailoring (IS or SY)) infixes → Is tailoring (CL or CP) closing → Is tailoring (PR or PO but LOOSE) next
      → IsJoined tailoring ((before ++ (digit ∷ infixes)) ++ (closing ∷ [])) (next ∷ after)
  closed-numbers-stay tailoring before infixes after digit closing next is_digit all closes is_next =
      elim (or_cases (CL (Some (style_of tailoring (character closing)))) _ closes) [
        | inl mark ↦
            closed-stays NU (IS or SY) digit_bits infix_bits digits-hold infixes-hold tailoring by_patterns by_verdicts CL closing_bits closings-hold (PR or PO but LOOSE) closing-tests before infixes after digit closing next is_digit all mark is_next
        | inr bracket ↦
            closed-stays NU (IS or SY) digit_bits infix_bits digits-hold infixes-hold tailoring by_patterns by_verdicts CP bracket_bits brackets-hold (PR or PO but LOOSE) bracket-tests before infixes after digit closing next is_digit all bracket is_next
      ]
