-- A text whose tabs are spaces, field by field.
use Rattle.std.proofs.Common.{◌≡◌, ℕ, suc, ◌+◌, ◌==◌, ◌||◌, not, Bool, true, false, cond, List, [], ◌∷◌, ◌++◌, take, drop, refl, sym, ap, ap₂, subst, ◌∙◌, append-nil, append_assoc, arith, length}
use Rattle.std.specs.List.{prefix_len}
use Rattle.segment_text.specs.Tabs.{expanded_after, tab_spaces}

none-of : (bytes : List ℕ) → length bytes ≡ 0 → bytes ≡ []
none-of [] is = refl
none-of (byte ∷ bytes) is = absurd (omega (arith, is))

no-bool : true ≡ false → ⊥
no-bool same = cc

one-more : (n : ℕ) → 1 + n ≡ suc n
one-more n = omega arith

-- a byte that ends no field
abbrev pub is_inside : ℕ → Bool
is_inside byte = not (byte == 0x09 || byte == 0x0A)

abbrev field_of : List ℕ → List ℕ
field_of bytes = take (prefix_len is_inside bytes) bytes

abbrev behind_field : List ℕ → List ℕ
behind_field bytes = drop (prefix_len is_inside bytes) bytes

inside-by : (byte : ℕ) (bytes : List ℕ) (stop : ℕ) (next : List ℕ) (is : Bool) → is_inside byte ≡ is
    → (behind_field bytes ≡ stop ∷ next → is_inside stop ≡ false) → behind_field (byte ∷ bytes) ≡ stop ∷ next → is_inside stop ≡ false
inside-by byte bytes stop next true is later begins = later (rw (is, one-more (prefix_len is_inside bytes)) at begins)
inside-by byte bytes stop next false is later begins = let same : byte ≡ stop = head-is (rw is at begins) in subst (λ (b : ℕ). is_inside b ≡ false) same is
  where
    head-is : byte ∷ bytes ≡ stop ∷ next → byte ≡ stop
    head-is same = cc

-- what stands behind a field begins with what ends it
inside-ends : (bytes : List ℕ) (stop : ℕ) (next : List ℕ) → behind_field bytes ≡ stop ∷ next → is_inside stop ≡ false
inside-ends [] stop next begins = absurd (nothing begins)
  where
    nothing : [] ≡ stop ∷ next → ⊥
    nothing same = cc
inside-ends (byte ∷ bytes) stop next begins = inside-by byte bytes stop next (is_inside byte) refl (inside-ends bytes stop next) begins

module _ (columns : ℕ) where
  -- ---- a field stays

  abbrev FieldStays : List ℕ → List ℕ → Type 0
  FieldStays field bytes = expanded_after columns field bytes ≡ field_of bytes ++ expanded_after columns (field ++ field_of bytes) (behind_field bytes)

  field-by : (field : List ℕ) (byte : ℕ) (bytes : List ℕ) (is_tab is_end : Bool) → (byte == 0x09) ≡ is_tab → (byte == 0x0A) ≡ is_end
      → FieldStays (field ++ byte ∷ []) bytes → FieldStays field (byte ∷ bytes)
  unfolding expanded_after
  field-by field byte bytes true is_end tab end later = rw (tab, append-nil field, tab) refl
  field-by field byte bytes false true tab end later = rw (tab, end, append-nil field, tab, end) refl
  field-by field byte bytes false false tab end later =
      rw (tab, end, one-more (prefix_len is_inside bytes))
      (ap (λ (others : List ℕ). byte ∷ others) (later ∙ ap (λ (whole : List ℕ). field_of bytes ++ expanded_after columns whole (behind_field bytes)) (append_assoc field (byte ∷ []) (field_of bytes))))

  field-stays : (field bytes : List ℕ) → FieldStays field bytes
  unfolding expanded_after
  field-stays field [] = refl
  field-stays field (byte ∷ bytes) = field-by field byte bytes (byte == 0x09) (byte == 0x0A) refl refl (field-stays (field ++ byte ∷ []) bytes)

  -- ---- what ends it

  -- what is written for a tab or a line feed behind a field
  abbrev pub stopped : List ℕ → ℕ → List ℕ
  stopped field stop = cond (stop == 0x09) (tab_spaces columns field) (stop ∷ [])

  stops : (stop : ℕ) (bytes : List ℕ) (field : List ℕ) → is_inside stop ≡ false → expanded_after columns field (stop ∷ bytes) ≡ stopped field stop ++ expanded_after columns [] bytes
  unfolding expanded_after
  stops stop bytes field is = by (stop == 0x09) (stop == 0x0A) refl refl is
    where
      by : (is_tab is_end : Bool) → (stop == 0x09) ≡ is_tab → (stop == 0x0A) ≡ is_end → is_inside stop ≡ false
          → expanded_after columns field (stop ∷ bytes) ≡ stopped field stop ++ expanded_after columns [] bytes
      by true is_end tab end is = rw tab refl
      by false true tab end is = rw (tab, end) refl
      by false false tab end is = absurd (no-bool (sym (ap₂ (λ (one other : Bool). not (one || other)) tab end) ∙ is))

  -- ---- what is written

  -- one field more, and what ends it
  pub step : (all done rest field after next more written : List ℕ) (width stop : ℕ) → done ++ expanded_after columns [] rest ≡ all
      → width ≡ prefix_len is_inside rest → field ≡ take width rest → after ≡ drop width rest → after ≡ stop ∷ next
      → more ≡ done ++ field → written ≡ more ++ stopped field stop
      → written ++ expanded_after columns [] next ≡ all
  step all done rest field after next more written width stop so_far width-is field-is after-is begins more-is written-is =
      let behind : drop (prefix_len is_inside rest) rest ≡ stop ∷ next = ap (λ (n : ℕ). drop n rest) (sym width-is) ∙ sym after-is ∙ begins in
      let front : expanded_after columns [] rest ≡ field ++ (stopped field stop ++ expanded_after columns [] next) =
      rw (field-is, width-is)
      (field-stays [] rest
      ∙ ap (λ (bytes : List ℕ). field_of rest ++ expanded_after columns (field_of rest) bytes) behind
      ∙ ap (λ (bytes : List ℕ). field_of rest ++ bytes) (stops stop next (field_of rest) (inside-ends rest stop next behind))) in
      rw (
        written-is,
        more-is,
        append_assoc (done ++ field) (stopped field stop) (expanded_after columns [] next),
        append_assoc done field (stopped field stop ++ expanded_after columns [] next),
        ← front,
      ) so_far

  nothing : (field : List ℕ) → field ++ expanded_after columns field [] ≡ field
  unfolding expanded_after
  nothing field = append-nil field

  -- the last field
  pub ends : (all done rest field after written : List ℕ) (width : ℕ) → done ++ expanded_after columns [] rest ≡ all
      → width ≡ prefix_len is_inside rest → field ≡ take width rest → after ≡ drop width rest → length after ≡ 0
      → written ≡ done ++ field → written ≡ all
  ends all done rest field after written width so_far width-is field-is after-is none written-is =
      let behind : drop (prefix_len is_inside rest) rest ≡ [] = ap (λ (n : ℕ). drop n rest) (sym width-is) ∙ sym after-is ∙ none-of after none in
      let front : expanded_after columns [] rest ≡ field =
      rw (field-is, width-is)
      (field-stays [] rest ∙ ap (λ (bytes : List ℕ). field_of rest ++ expanded_after columns (field_of rest) bytes) behind ∙ nothing (field_of rest)) in
      written-is ∙ ap (λ (bytes : List ℕ). done ++ bytes) (sym front) ∙ so_far
