-- What cells tell of scans, before and after a write.
use Rattle.std.proofs.Common.{◌≡◌, ℕ, suc, ◌+◌, ◌<◌, ◌≤◌, Option, Some, None, List, ◌∷◌, refl, sym, ap, ◌∙◌, subst, arith, inl, inr}
use Rattle.seg_memo.specs.Configurations.{Boundary, Configuration, Outcome, Subject, different, floor, outcome_at}
use Rattle.seg_memo.specs.Grids.{Cell, Table, HasCell, IsConfigurationOf, IsFit, IsLeft, IsOn, IsSet, Keeps, TellFrom, Tells, cell, known}
use Rattle.seg_memo.proofs.Lists.{AreWithin, Same, different-bound, different-new, different-same, which}

-- a cell

module _ (s : Subject) (found : List Configuration) (c : Configuration) (x : Cell) (tells : Tells s found c x) where
  pub tells-same : (other : List Configuration) → (IsOn c found → IsOn c other) → (IsOn c other → IsOn c found) → Tells s other c x
  tells-same other there back = elim tells [ inl new ↦ inl (new.0, λ on. new.1 (back on)) | inr old ↦ inr (old.0, there old.1) ]

  pub tells-more : (d : Configuration) → (c ≡ d → ⊥) → Tells s (d ∷ found) c x
  tells-more d other = tells-same (d ∷ found) (λ on. inr on) (λ on. elim on [ inl is ↦ absurd (other is) | inr rest ↦ rest ])

  pub tells-known : (o : Outcome) → known x ≡ Some o → IsOn c found × (o ≡ outcome_at s c)
  tells-known o is =
      elim tells [
        | inl new ↦ let none : None ≡ Some o = sym (ap known new.0) ∙ is in cc
        | inr old ↦ (old.1, let same : Some o ≡ Some (outcome_at s c) = sym is ∙ old.0 in cc)
      ]

  pub tells-none : known x ≡ None → IsOn c found → ⊥
  tells-none is =
      elim tells [
        | inl new ↦ new.1
        | inr old ↦ let never : None ≡ Some (outcome_at s c) = sym is ∙ old.0 in cc
      ]

-- the cells from a place on

module _ {s : Subject} {t : Table} {from : ℕ} {found but : List Configuration} (cells : TellFrom s t from found but) where
  pub tell-less : {later : ℕ} {more : List Configuration} → from ≤ later → ((c : Configuration) → IsOn c but → IsOn c more) → TellFrom s t later found more
  tell-less past there = record { at = λ c within here off. cells.at c within (omega (arith, past, here)) (λ on. off (there c on)) }

  pub tell-same : {other : List Configuration} → Same found other → TellFrom s t from other but
  tell-same {other = other} both = record { at = λ c within here off. tells-same s found c (cell t c) (cells.at c within here off) other (both c).0 (both c).1 }

  pub tell-more : (d : Configuration) → TellFrom s t from (d ∷ found) (d ∷ but)
  tell-more d = record { at = λ c within here off. tells-more s found c (cell t c) (cells.at c within here (λ on. off (inr on))) d (λ is. off (inl is)) }

  pub tell-left : {u : Table} → IsFit s t from → IsLeft t u from → TellFrom s u from found but
  tell-left fit left = record { at = λ c within here off. subst (Tells s found c) (sym (left.at c here (fit.has c within here)).1) (cells.at c within here off) }

module _ {s : Subject} {t u : Table} {low from : ℕ} {found but : List Configuration} {d : Configuration} {x : Cell} (cells : TellFrom s t from found (d ∷ but)) (fit : IsFit s t from) (set : IsSet t u low d x) (less : low ≤ from) where
  pub tell-set : TellFrom s u from found (d ∷ but)
  tell-set = record {
    at = λ c within here off. subst (Tells s found c) (sym ((set.others c (omega (arith, less, here)) (fit.has c within here)).1 (λ is. off (inl is)))) (cells.at c within here off);
  }

  pub tell-fill : Tells s found d x → TellFrom s u from found but
  tell-fill tells =
      let others = tell-set in
      record {
        at = λ c within here off.
            elim (which c d) [
              | inl is ↦ subst (λ (e : Configuration). Tells s found e (cell u e)) (sym is) (subst (Tells s found d) (sym set.own) tells)
              | inr other ↦ others.at c within here (λ on. elim on [ inl is ↦ other is | inr rest ↦ off rest ])
            ];
      }

module _ {s : Subject} {t : Table} {from : ℕ} (fit : IsFit s t from) where
  pub fit-later : {later : ℕ} → from ≤ later → IsFit s t later
  fit-later past = record { sound = fit.sound; has = λ c within here. fit.has c within (omega (arith, past, here)) }

  pub fit-left : {u : Table} → IsLeft t u from → IsFit s u from
  fit-left left = record { sound = fit.sound; has = λ c within here. (left.at c here (fit.has c within here)).0 }

  pub fit-set : {u : Table} {low : ℕ} {d : Configuration} {x : Cell} → IsSet t u low d x → low ≤ from → IsFit s u from
  fit-set set less = record { sound = fit.sound; has = λ c within here. (set.others c (omega (arith, less, here)) (fit.has c within here)).0 }

  -- the reader's count has room
  pub count-room : (counted : ℕ) (found : List Configuration) → AreWithin s found → counted + 1 ≡ different found → counted < 18446744073709551615
  count-room counted found within count = omega (arith, count, different-bound s found within, fit.sound.room)

pub set-still : (t : Table) (d : Configuration) → IsSet t t 0 d (cell t d)
set-still t d = record { own = refl; others = λ c past has. (has, λ other. refl) }

pub left-still : (t : Table) (from : ℕ) → IsLeft t t from
left-still t from = record { at = λ c past has. (has, refl) }

-- a scan that keeps a lookahead

module _ {s : Subject} {t : Table} {counted : ℕ} {last : Option Boundary} {first : Configuration} {found but : List Configuration} (k : Keeps s t counted last first found but) where
  keeps-has : (c : Configuration) (b : Boundary) → last ≡ Some b → IsConfigurationOf s c → suc b.offset ≤ c.place → HasCell t c
  keeps-has c b is within past =
      let at : floor first.place last ≡ b.offset = ap (floor first.place) is in
      k.fit.has c within (omega (arith, at, past))

  -- a configuration is looked up
  pub keeps-new : {u : Table} {count : ℕ} {d : Configuration} {x : Cell} → IsSet t u 0 d x → 0 < d.kept → (IsOn d found → ⊥) → count ≡ counted + 1 → Keeps s u count last first (d ∷ found) (d ∷ but)
  keeps-new {d = d} set kept new counts = record {
    fit = fit-set k.fit set (omega arith);
    cells = tell-set (tell-more k.cells d) k.fit set (omega arith);
    plain = λ b is none c within past free.
        let other : c ≡ d → ⊥ = λ same. let e : c.kept ≡ d.kept = ap (λ (y : Configuration). y.kept) same in omega (arith, e, free, kept) in
        subst (Tells s (d ∷ found) c) (sym ((set.others c (omega arith) (keeps-has c b is within past)).1 other)) (tells-more s found c (cell t c) (k.plain b is none c within past free) d other);
    count = let more = different-new d found new in let was = k.count in omega (arith, more, was, counts);
  }

  pub keeps-but : (d : Configuration) → Keeps s t counted last first found (d ∷ but)
  keeps-but d = record { fit = k.fit; cells = tell-less k.cells (omega arith) (λ c on. inr on); plain = k.plain; count = k.count }

  -- what holds of a list of configurations holds of another that has the same ones
  pub keeps-same : {other : List Configuration} → AreWithin s found → Same found other → Keeps s t counted last first other but
  keeps-same {other = other} within both = record {
    fit = k.fit;
    cells = tell-same k.cells both;
    plain = λ b is none c inside past free. tells-same s found c (cell t c) (k.plain b is none c inside past free) other (both c).0 (both c).1;
    count = k.count ∙ different-same s found other within both;
  }

  -- cells before the last acceptance are let go
  pub keeps-left : {u : Table} → IsLeft t u (floor first.place last) → Keeps s u counted last first found but
  keeps-left left = record {
    fit = fit-left k.fit left;
    cells = tell-left k.cells k.fit left;
    plain = λ b is none c within past free.
        let at : floor first.place last ≡ b.offset = ap (floor first.place) is in
        subst (Tells s found c) (sym (left.at c (omega (arith, at, past)) (keeps-has c b is within past)).1) (k.plain b is none c within past free);
    count = k.count;
  }

-- one that was looked up gets its outcome
pub keeps-fill : {s : Subject} {t u : Table} {counted : ℕ} {last : Option Boundary} {first d : Configuration} {found but : List Configuration} {x : Cell} → Keeps s t counted last first found (d ∷ but) → IsSet t u 0 d x
    → 0 < d.kept → IsOn d found → known x ≡ Some (outcome_at s d) → Keeps s u counted last first found but
keeps-fill {s = s} {d = d} {found = found} k set kept on is = record {
  fit = fit-set k.fit set (omega arith);
  cells = tell-fill k.cells k.fit set (omega arith) (inr (is, on));
  plain = λ b some none c within past free.
      subst (Tells s found c)
      (sym ((set.others c (omega arith) (keeps-has k c b some within past)).1 (λ same. let e : c.kept ≡ d.kept = ap (λ (y : Configuration). y.kept) same in omega (arith, e, free, kept))))
      (k.plain b some none c within past free);
  count = k.count;
}
