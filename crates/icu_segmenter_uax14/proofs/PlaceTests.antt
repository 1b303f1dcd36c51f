-- What a test of the symbols next to a place says of the verdict there.
use Rattle.std.proofs.Common.{◌≡◌, ℕ, ◌<◌, Bool, true, false, not, ◌&&◌, ◌||◌, List, [], ◌∷◌, ◌++◌, map, refl, sym, ap, ap₂, ◌∙◌, inl, inr}
use Rattle.std.specs.List.{All}
use Rattle.std.specs.Prelude.{if◌then◌else◌}
use Rattle.std.proofs.lemmas.Bool.{and_parts, and_left, and_right, cond-true, cond-false, not_from_false, not_from_true, not-true, or_cases, or_from, or_right}
use Rattle.std.proofs.lemmas.List.Elements.{All-head, All-tail}
use Rattle.ucd_table.proofs.TrieCheck.{all_below, all_below-at}
use Rattle.seg_rules.specs.RowRules.{Row, RowRules, has}
use Rattle.seg_rules.specs.Plain.{bases_after, bases_before, first_row, is_base, is_marked, plain_verdict, row_fits, unmarked}
use Rattle.icu_segmenter_uax29.proofs.Lists.{bool-cases}
use Rattle.icu_segmenter_uax14.proofs.RowTests.{ByPatterns, first-kept, fits-may, keeps, may_fit, sure_fit, sure-fits}

-- rows below that of marks, between a symbol and the next
abbrev pub below_keeps : RowRules → (ℕ → Bool) → ℕ → ℕ → Bool
below_keeps rules test z y = keeps test (may_fit z y) (sure_fit (z ∷ []) (y ∷ [])) rules.below false

-- where no row above decides, and the next symbol is a mark: it is one with what isn't bare, and alone after what is
abbrev pub mark_keeps : RowRules → (ℕ → Bool) → ℕ → Bool
mark_keeps rules test x = if has rules.bare x then not (has rules.marks x) && below_keeps rules test x rules.alone else test 0

-- where it isn't one: after what the marks before the place follow
abbrev pub base_keeps : RowRules → (ℕ → Bool) → ℕ → ℕ → Bool
base_keeps rules test x y =
    if has rules.marks x then all_below (λ z. has rules.bare z || below_keeps rules test z y) 73 else below_keeps rules test x y

abbrev pub lower_keeps : RowRules → (ℕ → Bool) → ℕ → ℕ → Bool
lower_keeps rules test x y = if has rules.marks y then mark_keeps rules test x else base_keeps rules test x y

-- the verdict between a symbol and the next passes a test, where of the rows above these may fit
unfoldable pub place_keeps : RowRules → (Row → Bool) → (ℕ → Bool) → ℕ → ℕ → Bool
place_keeps rules may test x y = keeps test may (sure_fit (x ∷ []) (y ∷ [])) rules.above (lower_keeps rules test x y)

-- and whatever text they stand in
abbrev pub pair_keeps : RowRules → (ℕ → Bool) → ℕ → ℕ → Bool
pair_keeps rules test x y = place_keeps rules (may_fit x y) test x y

-- the verdict between two symbols that aren't marks passes a test, where of the rows above and of those below these may fit, and of those below
-- these surely do
unfoldable pub around_by : RowRules → (may low sure : Row → Bool) → (ℕ → Bool) → ℕ → ℕ → Bool
around_by rules may low sure test x y =
    not (has rules.marks x) && (not (has rules.marks y) && keeps test may (sure_fit (x ∷ []) (y ∷ [])) rules.above (keeps test low sure rules.below false))

abbrev pub around_keeps : RowRules → (may sure : Row → Bool) → (ℕ → Bool) → ℕ → ℕ → Bool
around_keeps rules may sure test x y = around_by rules may (may_fit x y) sure test x y

-- rules that read marks, and the symbols of code points
module _ (rules : RowRules) (by : ByPatterns) (reads_marks : rules.has_marks ≡ true) (alone : rules.alone < 73)
    (alone_reads : has rules.bare rules.alone ≡ false) (f : ℕ → ℕ) (few : (c : ℕ) → f c < 73) where
  pub base-alone : (x : ℕ) (past : List ℕ) → has rules.marks x ≡ false → bases_before rules (x ∷ past) ≡ x ∷ bases_before rules past
  unfolding bases_before
  base-alone x past other =
      let further = bases_before rules past in
      cond-false (has rules.marks x && is_base rules past) further (unmarked rules x ∷ further) (and_left _ _ other)
      ∙ ap (λ s. s ∷ further) (cond-false (has rules.marks x) rules.alone x other)

  -- the nearest symbol but for marks, where they are one with it or alone
  abbrev NearestBase : List ℕ → Type 0
  NearestBase cs = (z : ℕ) × ((more : List ℕ) × ((bases_before rules (map f cs) ≡ z ∷ more) × ((z < 73) × (has rules.bare z ≡ false))))

  read-alone : (c : ℕ) (cs : List ℕ) → has rules.marks (f c) ≡ true → (has rules.marks (f c) && is_base rules (map f cs)) ≡ false → NearestBase (c ∷ cs)
  unfolding bases_before
  read-alone c cs mark apart =
      let further = bases_before rules (map f cs) in
      let is = cond-false _ further (unmarked rules (f c) ∷ further) apart ∙ ap (λ s. s ∷ further) (cond-true (has rules.marks (f c)) rules.alone (f c) mark) in
      (rules.alone, (further, (is, (alone, alone_reads))))

  read-with : (c : ℕ) (cs : List ℕ) → (has rules.marks (f c) && is_base rules (map f cs)) ≡ true → NearestBase cs → NearestBase (c ∷ cs)
  unfolding bases_before
  read-with c cs one (z, (more, (is, rest))) =
      let further = bases_before rules (map f cs) in
      (z, (more, (cond-true _ further (unmarked rules (f c) ∷ further) one ∙ is, rest)))

  nearest-base : (cs : List ℕ) → is_base rules (map f cs) ≡ true → NearestBase cs
  unfolding is_base
  nearest-base [] base = let no : false ≡ true = base in cc
  nearest-base (c ∷ cs) base = elim (bool-cases (has rules.marks (f c))) [
    | inl mark ↦ elim (bool-cases (has rules.marks (f c) && is_base rules (map f cs))) [
      | inl one ↦ read-with c cs one (nearest-base cs (and_parts (has rules.marks (f c)) _ one).1)
      | inr apart ↦ read-alone c cs mark apart
    ]
    | inr plain ↦ elim (or_cases (has rules.marks (f c) && is_base rules (map f cs)) _ base) [
      | inl one ↦ let no : true ≡ false = sym (and_parts (has rules.marks (f c)) _ one).0 ∙ plain in cc
      | inr here ↦
          (f c, (bases_before rules (map f cs), (base-alone (f c) (map f cs) plain, (few c, not-true _ (and_parts rules.has_marks _ here).1))))
    ]
  ]

  marks-base : (c : ℕ) (cs : List ℕ) → has rules.marks (f c) ≡ true → NearestBase (c ∷ cs)
  marks-base c cs mark = elim (bool-cases (has rules.marks (f c) && is_base rules (map f cs))) [
    | inl one ↦ read-with c cs one (nearest-base cs (and_parts (has rules.marks (f c)) _ one).1)
    | inr apart ↦ read-alone c cs mark apart
  ]

  pub next-alone : (base : Bool) (y : ℕ) (rest : List ℕ) → has rules.marks y ≡ false
      → bases_after rules base (y ∷ rest) ≡ y ∷ bases_after rules ((has rules.marks y && base) || (rules.has_marks && not (has rules.bare y))) rest
  unfolding bases_after
  next-alone base y rest other =
      let further = bases_after rules ((has rules.marks y && base) || (rules.has_marks && not (has rules.bare y))) rest in
      cond-false (has rules.marks y && base) further (unmarked rules y ∷ further) (and_left _ _ other)
      ∙ ap (λ s. s ∷ further) (cond-false (has rules.marks y) rules.alone y other)

  module _ (test : ℕ → Bool) where
    below-kept : (z y : ℕ) (more further : List ℕ) → below_keeps rules test z y ≡ true → test (first_row rules.below (z ∷ more) (y ∷ further) 0) ≡ true
    below-kept z y more further kept =
        first-kept test (may_fit z y) (sure_fit (z ∷ []) (y ∷ [])) (z ∷ more) (y ∷ further) (λ row. fits-may by row z y more further)
        (λ row. sure-fits by row (z ∷ []) (y ∷ []) more further) rules.below false 0 kept (λ no. cc)

    -- what stands below the rows above
    abbrev lower_verdict : List ℕ → ℕ → List ℕ → ℕ
    lower_verdict past y rest =
        if rules.has_marks && is_marked rules (is_base rules past) (y ∷ rest)
        then 0
        else first_row rules.below (bases_before rules past) (bases_after rules (is_base rules past) (y ∷ rest)) 0

    marked : (x : ℕ) (past : List ℕ) (y : ℕ) (rest : List ℕ) → has rules.marks y ≡ true → not (has rules.bare x) ≡ true → test 0 ≡ true
        → test (lower_verdict (x ∷ past) y rest) ≡ true
    unfolding is_base
    marked x past y rest mark not_bare passes =
        let base : is_base rules (x ∷ past) ≡ true = or_right (has rules.marks x && is_base rules past) _ (ap₂ (λ (a b : Bool). a && b) reads_marks not_bare) in
        let glued : (rules.has_marks && is_marked rules (is_base rules (x ∷ past)) (y ∷ rest)) ≡ true =
        ap₂ (λ (a b : Bool). a && b) reads_marks (ap₂ (λ (a b : Bool). a && b) mark base) in
        ap test (cond-true _ 0 _ glued) ∙ passes

    pub unmarked-kept : (past : List ℕ) (y : ℕ) (rest : List ℕ) → has rules.marks y ≡ false
        → test (first_row rules.below (bases_before rules past) (bases_after rules (is_base rules past) (y ∷ rest)) 0) ≡ true
        → test (lower_verdict past y rest) ≡ true
    unmarked-kept past y rest other kept =
        let none : (rules.has_marks && is_marked rules (is_base rules past) (y ∷ rest)) ≡ false = and_right rules.has_marks _ (and_left (has rules.marks y) _ other) in
        ap test (cond-false _ 0 _ none) ∙ kept

    -- a mark after what is bare is alone
    mark-alone : (x : ℕ) (past : List ℕ) (y : ℕ) (rest : List ℕ) → has rules.marks y ≡ true → has rules.bare x ≡ true → not (has rules.marks x) ≡ true
        → below_keeps rules test x rules.alone ≡ true → test (lower_verdict (x ∷ past) y rest) ≡ true
    unfolding is_base bases_after
    mark-alone x past y rest mark bare plain kept =
        let other = not-true (has rules.marks x) plain in
        let no_base : is_base rules (x ∷ past) ≡ false =
        or_from (has rules.marks x && is_base rules past) _ (and_left (has rules.marks x) _ other)
        (and_right rules.has_marks _ (not_from_true (has rules.bare x) bare)) in
        let apart : (has rules.marks y && is_base rules (x ∷ past)) ≡ false = and_right (has rules.marks y) _ no_base in
        let further = bases_after rules ((has rules.marks y && is_base rules (x ∷ past)) || (rules.has_marks && not (has rules.bare y))) rest in
        let next : bases_after rules (is_base rules (x ∷ past)) (y ∷ rest) ≡ rules.alone ∷ further =
        cond-false (has rules.marks y && is_base rules (x ∷ past)) further (unmarked rules y ∷ further) apart
        ∙ ap (λ s. s ∷ further) (cond-true (has rules.marks y) rules.alone y mark) in
        ap test (cond-false _ 0 _ (and_right rules.has_marks _ apart))
        ∙ ap test (ap₂ (λ (b a : List ℕ). first_row rules.below b a 0) (base-alone x past other) next)
        ∙ below-kept x rules.alone (bases_before rules past) further kept

    at-base : (past : List ℕ) (y : ℕ) (rest : List ℕ) (z : ℕ) (more : List ℕ) → has rules.marks y ≡ false → bases_before rules past ≡ z ∷ more
        → below_keeps rules test z y ≡ true → test (lower_verdict past y rest) ≡ true
    at-base past y rest z more other is kept =
        unmarked-kept past y rest other
        (ap test (ap₂ (λ (b a : List ℕ). first_row rules.below b a 0) is (next-alone (is_base rules past) y rest other))
        ∙ below-kept z y more (bases_after rules ((has rules.marks y && is_base rules past) || (rules.has_marks && not (has rules.bare y))) rest) kept)

    before-mark : (x : ℕ) (past : List ℕ) (y : ℕ) (rest : List ℕ) → has rules.marks y ≡ true → mark_keeps rules test x ≡ true
        → test (lower_verdict (x ∷ past) y rest) ≡ true
    before-mark x past y rest mark kept = elim (bool-cases (has rules.bare x)) [
      | inl bare ↦
          let parts = and_parts (not (has rules.marks x)) _ (sym (cond-true (has rules.bare x) _ (test 0) bare) ∙ kept) in
          mark-alone x past y rest mark bare parts.0 parts.1
      | inr reads ↦
          marked x past y rest mark (not_from_false (has rules.bare x) reads)
          (sym (cond-false (has rules.bare x) (not (has rules.marks x) && below_keeps rules test x rules.alone) (test 0) reads) ∙ kept)
    ]

    before-other : (c : ℕ) (cs : List ℕ) (y : ℕ) (rest : List ℕ) → has rules.marks y ≡ false → base_keeps rules test (f c) y ≡ true
        → test (lower_verdict (map f (c ∷ cs)) y rest) ≡ true
    before-other c cs y rest other kept = elim (bool-cases (has rules.marks (f c))) [
      | inl mark ↦
          let (z, (more, (is, (less, reads)))) = marks-base c cs mark in
          let tested = all_below-at (λ z. has rules.bare z || below_keeps rules test z y) 73 z (sym (cond-true (has rules.marks (f c)) _ _ mark) ∙ kept) less in
          elim (or_cases (has rules.bare z) _ tested) [
            | inl bare ↦ let no : true ≡ false = sym bare ∙ reads in cc
            | inr below ↦ at-base (map f (c ∷ cs)) y rest z more other is below
          ]
      | inr plain ↦
          at-base (map f (c ∷ cs)) y rest (f c) (bases_before rules (map f cs)) other (base-alone (f c) (map f cs) plain)
          (sym (cond-false (has rules.marks (f c)) (all_below (λ z. has rules.bare z || below_keeps rules test z y) 73) _ plain) ∙ kept)
    ]

    lower-kept : (c : ℕ) (cs : List ℕ) (y : ℕ) (rest : List ℕ) → lower_keeps rules test (f c) y ≡ true → test (lower_verdict (map f (c ∷ cs)) y rest) ≡ true
    lower-kept c cs y rest kept = elim (bool-cases (has rules.marks y)) [
      | inl mark ↦ before-mark (f c) (map f cs) y rest mark (sym (cond-true (has rules.marks y) _ (base_keeps rules test (f c) y) mark) ∙ kept)
      | inr other ↦ before-other c cs y rest other (sym (cond-false (has rules.marks y) (mark_keeps rules test (f c)) _ other) ∙ kept)
    ]

    -- Law: so the verdict passes the test
    pub place-kept : (may : Row → Bool) (c d : ℕ) (cs ds : List ℕ)
        → ((row : Row) → row_fits row (map f (c ∷ cs) ++ (0 ∷ [])) (map f (d ∷ ds) ++ (0 ∷ [])) ≡ true → may row ≡ true)
        → place_keeps rules may test (f c) (f d) ≡ true → test (plain_verdict rules (map f (c ∷ cs)) (map f (d ∷ ds))) ≡ true
    unfolding place_keeps plain_verdict
    place-kept may c d cs ds may_be kept =
        first-kept test may (sure_fit (f c ∷ []) (f d ∷ [])) (map f (c ∷ cs) ++ (0 ∷ [])) (map f (d ∷ ds) ++ (0 ∷ [])) may_be
        (λ row. sure-fits by row (f c ∷ []) (f d ∷ []) (map f cs ++ (0 ∷ [])) (map f ds ++ (0 ∷ [])))
        rules.above (lower_keeps rules test (f c) (f d)) (lower_verdict (map f (c ∷ cs)) (f d) (map f ds)) kept (lower-kept c cs (f d) (map f ds))

    pub pair-kept : (c d : ℕ) (cs ds : List ℕ) → pair_keeps rules test (f c) (f d) ≡ true → test (plain_verdict rules (map f (c ∷ cs)) (map f (d ∷ ds))) ≡ true
    pair-kept c d cs ds =
        place-kept (may_fit (f c) (f d)) c d cs ds (λ row. fits-may by row (f c) (f d) (map f cs ++ (0 ∷ [])) (map f ds ++ (0 ∷ [])))

    pub around-by-kept : (may low sure : Row → Bool) (c d : ℕ) (cs ds : List ℕ)
        → ((row : Row) → row_fits row (map f (c ∷ cs) ++ (0 ∷ [])) (map f (d ∷ ds) ++ (0 ∷ [])) ≡ true → may row ≡ true)
        → ((row : Row) → row_fits row (bases_before rules (map f (c ∷ cs))) (bases_after rules (is_base rules (map f (c ∷ cs))) (map f (d ∷ ds))) ≡ true → low row ≡ true)
        → ((row : Row) → sure row ≡ true → row_fits row (bases_before rules (map f (c ∷ cs))) (bases_after rules (is_base rules (map f (c ∷ cs))) (map f (d ∷ ds))) ≡ true)
        → around_by rules may low sure test (f c) (f d) ≡ true → test (plain_verdict rules (map f (c ∷ cs)) (map f (d ∷ ds))) ≡ true
    unfolding around_by plain_verdict
    around-by-kept may low sure c d cs ds may_be low_be surely kept =
        let x = f c in
        let y = f d in
        let past = map f cs in
        let parts = and_parts (not (has rules.marks x)) _ kept in
        let more_parts = and_parts (not (has rules.marks y)) _ parts.1 in
        first-kept test may (sure_fit (x ∷ []) (y ∷ [])) (map f (c ∷ cs) ++ (0 ∷ [])) (map f (d ∷ ds) ++ (0 ∷ [])) may_be
        (λ row. sure-fits by row (x ∷ []) (y ∷ []) (past ++ (0 ∷ [])) (map f ds ++ (0 ∷ [])))
        rules.above (keeps test low sure rules.below false) (lower_verdict (x ∷ past) y (map f ds)) more_parts.1
        (λ below. unmarked-kept (x ∷ past) y (map f ds) (not-true (has rules.marks y) more_parts.0)
        (first-kept test low sure (bases_before rules (x ∷ past)) (bases_after rules (is_base rules (x ∷ past)) (y ∷ map f ds)) low_be
        surely rules.below false 0 below (λ no. cc)))

    pub around-kept : (may sure : Row → Bool) (c d : ℕ) (cs ds : List ℕ)
        → ((row : Row) → row_fits row (map f (c ∷ cs) ++ (0 ∷ [])) (map f (d ∷ ds) ++ (0 ∷ [])) ≡ true → may row ≡ true)
        → ((row : Row) → sure row ≡ true → row_fits row (bases_before rules (map f (c ∷ cs))) (bases_after rules (is_base rules (map f (c ∷ cs))) (map f (d ∷ ds))) ≡ true)
        → around_keeps rules may sure test (f c) (f d) ≡ true → test (plain_verdict rules (map f (c ∷ cs)) (map f (d ∷ ds))) ≡ true
    unfolding around_by
    around-kept may sure c d cs ds may_be surely kept =
        let x = f c in
        let y = f d in
        let past = map f cs in
        let parts = and_parts (not (has rules.marks x)) _ kept in
        let more_parts = and_parts (not (has rules.marks y)) _ parts.1 in
        let before_is = base-alone x past (not-true (has rules.marks x) parts.0) in
        let after_is = next-alone (is_base rules (x ∷ past)) y (map f ds) (not-true (has rules.marks y) more_parts.0) in
        let further = bases_after rules ((has rules.marks y && is_base rules (x ∷ past)) || (rules.has_marks && not (has rules.bare y))) (map f ds) in
        around-by-kept may (may_fit x y) sure c d cs ds may_be
        (λ row fits. fits-may by row x y (bases_before rules past) further (sym (ap₂ (λ (b a : List ℕ). row_fits row b a) before_is after_is) ∙ fits))
        surely kept

  -- symbols that aren't marks are read as they are
  pub plain-before : (cs : List ℕ) (past : List ℕ) → All (λ c. has rules.marks (f c) ≡ false) cs → bases_before rules (map f cs ++ past) ≡ map f cs ++ bases_before rules past
  plain-before [] past plain = refl
  plain-before (c ∷ cs) past plain =
      base-alone (f c) (map f cs ++ past) (All-head (λ c. has rules.marks (f c) ≡ false) c cs plain) ∙ ap (λ s. f c ∷ s) (plain-before cs past (All-tail (λ c. has rules.marks (f c) ≡ false) c cs plain))

  pub plain-after : (ds : List ℕ) (base : Bool) (rest : List ℕ) → All (λ d. has rules.marks (f d) ≡ false) ds
      → (further : List ℕ) × (bases_after rules base (map f ds ++ rest) ≡ map f ds ++ further)
  plain-after [] base rest plain = (bases_after rules base rest, refl)
  plain-after (d ∷ ds) base rest plain =
      let next_base = (has rules.marks (f d) && base) || (rules.has_marks && not (has rules.bare (f d))) in
      let (further, is) = plain-after ds next_base rest (All-tail (λ d. has rules.marks (f d) ≡ false) d ds plain) in
      (further, next-alone base (f d) (map f ds ++ rest) (All-head (λ d. has rules.marks (f d) ≡ false) d ds plain) ∙ ap (λ s. f d ∷ s) is)
