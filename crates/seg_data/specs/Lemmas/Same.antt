-- `==` of tables: each part is the same.
use Rattle.std.specs.Prelude.{◌≡◌, ℕ, ◌==◌, ◌&&◌, Bool}
use Rattle.std.specs.Bool.{Decides}
use Rattle.std.specs.Cmp.{IsPartialEquivalence, partial_equiv_from_equiv}
use Rattle.std.specs.Cmp.Lexicographic.{pointwise, pointwise_decides}
use Rattle.std.proofs.Common.{refl, sym, ap, ◌∙◌}
use Rattle.std.proofs.lemmas.Bool.Decides.{Decides-eqb, Decides-and, Decides-like, same_from_decides}
use Rattle.seg_data.specs.Table.{Table, table}

-- ranges
abbrev pub same_range : ℕ × ℕ × ℕ → ℕ × ℕ × ℕ → Bool
same_range a b = (a.0 == b.0 && a.1 == b.1) && a.2 == b.2

-- tables
abbrev pub same_table : Table → Table → Bool
same_table a b = pointwise same_range a.ranges b.ranges && a.default == b.default

-- each says whether the two are equal

same_range-decides : (a b : ℕ × ℕ × ℕ) → Decides (same_range a b) (a ≡ b)
same_range-decides a b =
    Decides-like (same_range a b) (λ parts. ap (λ x. (x, a.1, a.2)) parts.0.0 ∙ ap (λ x. (b.0, x, a.2)) parts.0.1 ∙ ap (λ x. (b.0, b.1, x)) parts.1) (λ e. ((ap (λ (r : ℕ × ℕ × ℕ). r.0) e, ap (λ (r : ℕ × ℕ × ℕ). r.1) e), ap (λ (r : ℕ × ℕ × ℕ). r.2) e))
    (Decides-and _ _ (Decides-and _ _ (Decides-eqb a.0 b.0) (Decides-eqb a.1 b.1)) (Decides-eqb a.2 b.2))

table-parts : (a b : Table) → a.ranges ≡ b.ranges → a.default ≡ b.default → a ≡ b
table-parts a b ranges default = ap (λ r. table r a.default) ranges ∙ ap (λ d. table b.ranges d) default

pub same_table-decides : (a b : Table) → Decides (same_table a b) (a ≡ b)
same_table-decides a b =
    Decides-like (same_table a b) (λ parts. table-parts a b parts.0 parts.1) (λ e. (ap (λ (t : Table). t.ranges) e, ap (λ (t : Table). t.default) e))
    (Decides-and _ _ (pointwise_decides same_range-decides a.ranges b.ranges) (Decides-eqb a.default b.default))

-- what decides equality is an equivalence
pub laws-from : {X : Type 0} (same : X → X → Bool) → ((a b : X) → Decides (same a b) (a ≡ b)) → IsPartialEquivalence same
laws-from same decides = partial_equiv_from_equiv (record {
  refl = λ a. (decides a a).1 refl;
  symm = λ a b. same_from_decides (same a b) (same b a) (decides a b) (Decides-like (same b a) sym sym (decides b a));
  congr = λ a b c e. ap (λ x. same x c) ((decides a b).0 e);
})

pub same_table-laws : IsPartialEquivalence same_table
same_table-laws = laws-from same_table same_table-decides
