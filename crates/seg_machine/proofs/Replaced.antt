-- The table of what is in the place of symbols, entry by entry.
use Rattle.std.proofs.Common.{◌≡◌, ◌≢◌, ℕ, zero, suc, ◌+◌, ◌<◌, ◌==◌, ◌++◌, cond, List, [], ◌∷◌, length, map, replicate, take, drop, get_or, set, refl, sym, ap, ◌∙◌, subst, inl, inr, arith, eq-eqb, get_or-set_same, get_or-set_other}
use Rattle.std.specs.Prelude.{All, Contains}
use Rattle.std.proofs.lemmas.Bool.{cases_eq, ne_eqb, cond-false}
use Rattle.std.proofs.lemmas.List.{get_or-replicate, length-set, length-replicate, map-append, append_assoc, take_more, take-append-drop}
use Rattle.std.proofs.lemmas.List.Elements.{All-push, Contains-append_left, Contains-append_right, Contains-push, Contains-push_cases}
use Rattle.seg_data.specs.declared.provider.ComplexScript.{ComplexScript}
use Rattle.seg_data.specs.declared.provider.ComplexScript.TheVariants.{None as NoScript}
use Rattle.seg_machine.specs.Machine.{Replacement, replaced, ArePlaced, placed_at}
use Rattle.seg_machine.specs.MachineFaults.{HasTwice, NamesEnd}

-- the symbols that are replaced
abbrev pub sources : List Replacement → List ℕ
sources entries = map (λ (entry : Replacement). entry.0) entries

-- so far the table has each entry, and no symbol is replaced twice
pub record IsPlacing (entries : List Replacement) (table : List (ℕ × ComplexScript)) : Type 0 where
  pub long : length table ≡ 256
  pub shown : ArePlaced entries table
  pub named : All (λ entry. NamesEnd entry → ⊥) entries
  pub once : HasTwice (sources entries) → ⊥
  pub absent : (symbol : ℕ) → symbol < 256 → (placed_at table symbol).0 ≡ 0 → Contains (sources entries) symbol → ⊥
  pub present : (symbol : ℕ) → symbol < 256 → (placed_at table symbol).0 ≢ 0 → Contains (sources entries) symbol

none-placed : (symbol : ℕ) → symbol < 256 → placed_at (replicate 256 (0, NoScript)) symbol ≡ (0, NoScript)
none-placed symbol below = get_or-replicate 256 symbol (0, NoScript) (0, NoScript) below

pub placing-start : IsPlacing [] (replicate 256 (0, NoScript))
unfolding replaced
placing-start = let none : ℕ × ComplexScript = (0, NoScript) in record {
  long = length-replicate 256 none;
  shown = λ symbol below. rw (none-placed symbol below) refl;
  named = λ k d less. absurd (omega arith);
  once = λ twice. twice;
  absent = λ symbol below none there. omega arith;
  present = λ symbol below some. absurd (some (ap (λ (found : ℕ × ComplexScript). found.0) (none-placed symbol below)));
}

-- one entry more

replaced-other : (entries : List Replacement) (entry : Replacement) (symbol : ℕ) → entry.0 ≢ symbol → replaced (entries ++ entry ∷ []) symbol ≡ replaced entries symbol
unfolding replaced
replaced-other [] entry symbol apart = rw (ne_eqb entry.0 symbol apart) refl
replaced-other (first ∷ entries) entry symbol apart = ap (λ (found : ℕ × ComplexScript). cond (first.0 == symbol) (first.1, first.2) found) (replaced-other entries entry symbol apart)

replaced-new : (entries : List Replacement) (entry : Replacement) → (Contains (sources entries) entry.0 → ⊥) → replaced (entries ++ entry ∷ []) entry.0 ≡ (entry.1, entry.2)
unfolding replaced
replaced-new [] entry none = rw (eq-eqb entry.0 entry.0 refl) refl
replaced-new (first ∷ entries) entry none =
    rw (ne_eqb first.0 entry.0 (λ same. none (0, omega arith, same)))
    (replaced-new entries entry (λ there. none (Contains-append_right (first.0 ∷ []) (sources entries) entry.0 there)))

sources-push : (entries : List Replacement) (entry : Replacement) → sources (entries ++ entry ∷ []) ≡ sources entries ++ entry.0 ∷ []
sources-push entries entry = map-append (λ (entry : Replacement). entry.0) entries (entry ∷ [])

twice-push : (numbers : List ℕ) (number : ℕ) → (HasTwice numbers → ⊥) → (Contains numbers number → ⊥) → HasTwice (numbers ++ number ∷ []) → ⊥
twice-push [] number once none (inl there) = omega (arith, there.1)
twice-push [] number once none (inr twice) = twice
twice-push (first ∷ numbers) number once none (inl there) =
    elim (Contains-push_cases numbers number first there) [
      | inl earlier ↦ once (inl earlier)
      | inr same ↦ none (0, omega arith, sym same)
    ]
twice-push (first ∷ numbers) number once none (inr twice) =
    twice-push numbers number (λ earlier. once (inr earlier)) (λ there. none (Contains-append_right (first ∷ []) numbers number there)) twice

pub placing-push : (entries : List Replacement) (table : List (ℕ × ComplexScript)) (entry : Replacement) → IsPlacing entries table
    → (NamesEnd entry → ⊥) → entry.0 < 256 → (placed_at table entry.0).0 ≡ 0 → IsPlacing (entries ++ entry ∷ []) (set table entry.0 (entry.1, entry.2))
placing-push entries table entry placing named below free =
    let none = placing.absent entry.0 below free in
    let new : placed_at (set table entry.0 (entry.1, entry.2)) entry.0 ≡ (entry.1, entry.2) = get_or-set_same table entry.0 (entry.1, entry.2) (0, NoScript) (omega (arith, placing.long)) in
    let others = λ (symbol : ℕ) (apart : symbol ≢ entry.0). get_or-set_other table entry.0 symbol (entry.1, entry.2) (0, NoScript) apart in
    record {
      long = length-set table entry.0 (entry.1, entry.2) ∙ placing.long;
      shown = λ symbol small.
          elim (cases_eq symbol entry.0) [
            | inl same ↦
                rw same
                (replaced-new entries entry none
                ∙ sym (cond-false ((placed_at (set table entry.0 (entry.1, entry.2)) entry.0).0 == 0) (entry.0, NoScript) (placed_at (set table entry.0 (entry.1, entry.2)) entry.0)
                (ap (λ (found : ℕ × ComplexScript). found.0 == 0) new ∙ ne_eqb entry.1 0 (λ zero. named (inr zero))) ∙ new))
            | inr apart ↦ rw (others symbol apart) (replaced-other entries entry symbol (λ same. apart (sym same)) ∙ placing.shown symbol small)
          ];
      named = All-push (λ (entry : Replacement). NamesEnd entry → ⊥) entries entry placing.named named;
      once = rw (sources-push entries entry) (twice-push (sources entries) entry.0 placing.once none);
      absent = λ symbol small is there.
          elim (cases_eq symbol entry.0) [
            | inl same ↦ named (inr (sym (ap (λ (found : ℕ × ComplexScript). found.0) new) ∙ sym (ap (λ (s : ℕ). (placed_at (set table entry.0 (entry.1, entry.2)) s).0) same) ∙ is))
            | inr apart ↦
                elim (Contains-push_cases (sources entries) entry.0 symbol (subst (λ (numbers : List ℕ). Contains numbers symbol) (sources-push entries entry) there)) [
                  | inl earlier ↦ placing.absent symbol small (sym (ap (λ (found : ℕ × ComplexScript). found.0) (others symbol apart)) ∙ is) earlier
                  | inr same ↦ apart (sym same)
                ]
          ];
      present = λ symbol small some.
          rw (sources-push entries entry)
          (elim (cases_eq symbol entry.0) [
            | inl same ↦ rw same (Contains-push (sources entries) entry.0)
            | inr apart ↦
                Contains-append_left (sources entries) (entry.0 ∷ []) symbol
                (placing.present symbol small (λ zero. some (ap (λ (found : ℕ × ComplexScript). found.0) (others symbol apart) ∙ zero)))
          ]);
    }

-- what the loop over the entries keeps, and what it finds

pub placing-next : (entries : List Replacement) (table : List (ℕ × ComplexScript)) (index : ℕ) (d : Replacement) → IsPlacing (take index entries) table → index < length entries
    → (NamesEnd (get_or entries index d) → ⊥) → (get_or entries index d).0 < 256 → (placed_at table (get_or entries index d).0).0 ≡ 0
    → IsPlacing (take (index + 1) entries) (set table (get_or entries index d).0 ((get_or entries index d).1, (get_or entries index d).2))
placing-next entries table index d placing within named below free =
    rw (take_more entries index d within) (placing-push (take index entries) table (get_or entries index d) placing named below free)

twice-within : (before after : List ℕ) (number : ℕ) → Contains before number → HasTwice (before ++ number ∷ after)
twice-within [] after number there = absurd (omega (arith, there.1))
twice-within (first ∷ before) after number (zero, within, is) = rw is (inl (Contains-append_right before (number ∷ after) number (0, omega arith, refl)))
twice-within (first ∷ before) after number (suc k, within, is) = inr (twice-within before after number (k, omega arith, is))

pub placed-twice : (entries : List Replacement) (table : List (ℕ × ComplexScript)) (index : ℕ) (d : Replacement) → IsPlacing (take index entries) table → index < length entries
    → (get_or entries index d).0 < 256 → (placed_at table (get_or entries index d).0).0 ≢ 0 → HasTwice (sources entries)
placed-twice entries table index d placing within below some =
    let there = placing.present (get_or entries index d).0 below some in
    let split : sources entries ≡ sources (take index entries) ++ (get_or entries index d).0 ∷ sources (drop (index + 1) entries) =
    ap sources (split_at entries index d within) ∙ map-append (λ (entry : Replacement). entry.0) (take index entries) _
    in
    rw split (twice-within (sources (take index entries)) (sources (drop (index + 1) entries)) (get_or entries index d).0 there)
  where
    split_at : (entries : List Replacement) (index : ℕ) (d : Replacement) → index < length entries → entries ≡ take index entries ++ get_or entries index d ∷ drop (index + 1) entries
    split_at entries index d within =
        sym (take-append-drop (index + 1) entries) ∙ ap (λ (xs : List Replacement). xs ++ drop (index + 1) entries) (take_more entries index d within)
        ∙ append_assoc (take index entries) (get_or entries index d ∷ []) (drop (index + 1) entries)
