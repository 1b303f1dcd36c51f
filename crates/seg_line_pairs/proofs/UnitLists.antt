-- The units of some code points: the first, and those of what is left.
use Rattle.std.proofs.Common.{◌≡◌, ℕ, zero, suc, ◌+◌, ◌<◌, ◌≤◌, Bool, true, false, Some, List, [], ◌∷◌, length, drop, refl, sym, ap, ◌∙◌, arith, zero-add}
use Rattle.std.specs.Prelude.{slice_get}
use Rattle.std.proofs.lemmas.Bool.{false≢true}
use Rattle.std.proofs.lemmas.List.{length-drop, drop-drop}
use Rattle.std.proofs.lemmas.Option.{same_Some, none-some}
use Rattle.seg_line_pairs.specs.declared.engines.LineEngine.{LineEngine}
use Rattle.seg_line_pairs.specs.LineRules.{TableRules, line_class}
use Rattle.seg_line_pairs.specs.LineUnits.{LineUnit, CountedUnit, is_mark, bears_none, is_glued, base_unit, with_mark, units_from, counted_units, extent_of}
use Rattle.seg_line_pairs.proofs.Marks.{mark-bears, glued-bears, unglued-bears}

-- where the code point after so many and one more is a mark, these end with what bears none
abbrev pub PartsAfter : {engine : LineEngine} → TableRules engine → List ℕ → ℕ → Type 0
PartsAfter {engine} rules code_points k =
    (before mark : ℕ) → slice_get code_points k ≡ Some before → slice_get code_points (suc k) ≡ Some mark
    → is_mark engine (line_class rules mark) ≡ true → bears_none engine (line_class rules before) ≡ true

abbrev pub counted : ℕ → LineUnit → CountedUnit
counted extent unit = record { extent = extent; unit = unit }

module _ {engine : LineEngine} (rules : TableRules engine) where
  -- the first unit, which begins with so many code points and has some of these too
  record FirstFrom (extent : ℕ) (unit : LineUnit) (code_points : List ℕ) : Type 0 where
    marks : ℕ
    whole : LineUnit
    is : units_from rules (counted extent unit) code_points ≡ counted (extent + marks) whole ∷ counted_units rules (drop marks code_points)
    within : marks ≤ length code_points
    class : whole.class ≡ unit.class
    single : whole.is_single ≡ true → (marks ≡ 0) × (unit.is_single ≡ true)
    parts : (last : ℕ) → bears_none engine (line_class rules last) ≡ bears_none engine unit.class → PartsAfter rules (last ∷ code_points) marks

  first-from : (extent : ℕ) (unit : LineUnit) (code_points : List ℕ) → FirstFrom extent unit code_points
  unfolding units_from counted_units
  first-from extent unit [] =
      let none : extent + 0 ≡ extent = omega arith in
      record {
        marks = 0;
        whole = unit;
        is = rw none refl;
        within = omega arith;
        class = refl;
        single = λ single. (refl, single);
        parts = λ last bears before mark here there. absurd (none-some mark there);
      }
  first-from extent unit (code_point ∷ code_points) =
      on (is_glued engine unit.class (line_class rules code_point)) refl (first-from (suc extent) (with_mark rules unit code_point) code_points)
    where
      on : (b : Bool) → is_glued engine unit.class (line_class rules code_point) ≡ b → FirstFrom (suc extent) (with_mark rules unit code_point) code_points
          → FirstFrom extent unit (code_point ∷ code_points)
      on true glued later =
          let bears = glued-bears engine unit.class (line_class rules code_point) glued in
          let more : extent + suc later.marks ≡ suc extent + later.marks = omega arith in
          record {
            marks = suc later.marks;
            whole = later.whole;
            is = rw glued (rw more later.is);
            within = omega (arith, later.within);
            class = later.class;
            single = λ single. absurd (false≢true (later.single single).1);
            parts = λ last alike before mark here there.
                later.parts code_point (mark-bears engine (line_class rules code_point) bears.0 ∙ sym bears.1) before mark here there;
          }
      on false glued later =
          let none : extent + 0 ≡ extent = omega arith in
          record {
            marks = 0;
            whole = unit;
            is = rw glued (rw none refl);
            within = omega arith;
            class = refl;
            single = λ single. (refl, single);
            parts = λ last alike before mark here there is_mark.
                let same : last ≡ before = same_Some last before here in
                let other : code_point ≡ mark = same_Some code_point mark there in
                rw (← same) (alike ∙ unglued-bears engine unit.class (line_class rules code_point) glued (rw other is_mark));
          }

  -- the first unit of some code points: how many marks it has, and what is left
  pub record FirstUnit (code_point : ℕ) (code_points : List ℕ) : Type 0 where
    pub marks : ℕ
    pub unit : LineUnit
    pub is : counted_units rules (code_point ∷ code_points) ≡ counted (suc marks) unit ∷ counted_units rules (drop marks code_points)
    pub within : marks ≤ length code_points
    pub class : unit.class ≡ line_class rules code_point
    pub single : unit.is_single ≡ true → marks ≡ 0
    pub parts : PartsAfter rules (code_point ∷ code_points) marks

  pub first-unit : (code_point : ℕ) (code_points : List ℕ) → FirstUnit code_point code_points
  unfolding counted_units
  first-unit code_point code_points =
      let first = first-from 1 (base_unit rules code_point) code_points in
      let one : suc first.marks ≡ 1 + first.marks = omega arith in
      record {
        marks = first.marks;
        unit = first.whole;
        is = rw one first.is;
        within = first.within;
        class = first.class;
        single = λ single. (first.single single).0;
        parts = first.parts code_point refl;
      }

  abbrev pub units : List ℕ → List CountedUnit
  units code_points = counted_units rules code_points

  pub no-units : units [] ≡ []
  unfolding counted_units
  no-units = refl

  pub extent-none : (n : ℕ) → extent_of n (units []) ≡ 0
  unfolding extent_of counted_units
  extent-none zero = refl
  extent-none (suc n) = refl

  pub extent-first : (n code_point : ℕ) (code_points : List ℕ) (first : FirstUnit code_point code_points)
      → extent_of (suc n) (units (code_point ∷ code_points)) ≡ suc first.marks + extent_of n (units (drop first.marks code_points))
  unfolding extent_of
  extent-first n code_point code_points first = rw first.is refl

  -- what is left after some units has the other units
  pub units-left : (n : ℕ) (code_points : List ℕ) → units (drop (extent_of n (units code_points)) code_points) ≡ drop n (units code_points)
  unfolding extent_of
  units-left zero code_points = refl
  units-left (suc n) [] = rw (extent-none (suc n), no-units) refl
  units-left (suc n) (code_point ∷ code_points) =
      let first = first-unit code_point code_points in
      let rest : List ℕ = drop first.marks code_points in
      rw (extent-first n code_point code_points first)
      (ap units (sym (drop-drop (extent_of n (units rest)) (suc first.marks) (code_point ∷ code_points)))
      ∙ units-left n rest ∙ ap (drop (suc n)) (sym first.is))

  -- how far some units reach
  pub record Reach (n : ℕ) (code_points : List ℕ) : Type 0 where
    pub within : extent_of n (units code_points) ≤ length code_points
    pub some : 0 < n → 0 < length code_points → 0 < extent_of n (units code_points)
    pub fewer : n < length (units code_points) → extent_of n (units code_points) < length code_points

  pub reach : (n : ℕ) (code_points : List ℕ) → Reach n code_points
  unfolding extent_of
  reach zero [] = record { within = omega arith; some = λ some there. absurd (omega (arith, some)); fewer = λ less. absurd (omega (arith, less, ap length no-units)) }
  reach zero (code_point ∷ code_points) = record { within = omega arith; some = λ some there. absurd (omega (arith, some)); fewer = λ less. omega arith }
  reach (suc n) [] =
      let none = extent-none (suc n) in
      record { within = omega (arith, none); some = λ some there. absurd (omega (arith, there)); fewer = λ less. absurd (omega (arith, less, ap length no-units)) }
  reach (suc n) (code_point ∷ code_points) =
      let first = first-unit code_point code_points in
      let rest : List ℕ = drop first.marks code_points in
      let later = reach n rest in
      let long = length-drop first.marks code_points in
      let sum = extent-first n code_point code_points first in
      record {
        within = omega (arith, sum, later.within, long, first.within);
        some = λ some there. omega (arith, sum);
        fewer = λ less.
            let fewer : n < length (units rest) = omega (arith, less, ap length first.is) in
            omega (arith, sum, later.fewer fewer, long, first.within);
      }

  pub extent-sum : (n m : ℕ) (counted : List CountedUnit) → extent_of (n + m) counted ≡ extent_of n counted + extent_of m (drop n counted)
  unfolding extent_of
  extent-sum zero m counted = rw (zero-add m, zero-add (extent_of m counted)) refl
  extent-sum (suc n) m [] = rw (none (suc n + m), none m) refl
    where
      none : (k : ℕ) → extent_of k [] ≡ 0
      none zero = refl
      none (suc k) = refl
  extent-sum (suc n) m (one ∷ counted) =
      let more : suc n + m ≡ suc (n + m) = omega arith in
      let later = extent-sum n m counted in
      rw more (omega (arith, later))
