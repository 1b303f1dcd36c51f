-- Pages of values.
use Rattle.std.proofs.Common.{◌≡◌, ℕ, ◌+◌, ◌*◌, ◌/◌, ◌%◌, ◌<◌, ◌++◌, Bool, true, false, cond, List, [], ◌∷◌, length, get_or, ap, ◌∙◌, inl, inr, arith}
use Rattle.std.specs.Prelude.{Option, None, Some}
use Rattle.std.proofs.Math.Nat.{mod-lt}
use Rattle.std.proofs.Math.Seq.{get_or-append_seam}
use Rattle.std.proofs.lemmas.Bool.{cases_lt}
use Rattle.std.proofs.lemmas.Grind.{get_or_default_zero}
use Rattle.std.proofs.lemmas.List.{get_or_append_left, length-append}
use Rattle.seg_data.specs.Table.{ArePages, HasGrown, IsPageAt, IsPlain, Table, value_of}

-- the values of the first code points stand each at its place
abbrev pub AreFirst : Table → List ℕ → ℕ → Type 0
AreFirst t values count = (code_point : ℕ) → code_point < count → get_or values code_point 0 ≡ value_of t code_point

-- the value of a code point is where its page's block has it
pub paged-within : (t : Table) (pages values : List ℕ) (code_point block : ℕ) → ArePages t pages values → code_point / 128 < length pages
    → block ≡ get_or pages (code_point / 128) block → block * 128 + code_point % 128 < length values
paged-within t pages values code_point block stand within read =
    let number : block ≡ get_or pages (code_point / 128) 0 = read ∙ get_or_default_zero pages (code_point / 128) block within in
    rw number (stand (code_point / 128) within (code_point % 128) (mod-lt code_point (omega arith))).0

-- a table that isn't indexed has no pages
pub none-are-pages : (t : Table) (pages values : List ℕ) → length pages ≡ 0 → ArePages t pages values
none-are-pages t pages values none page within = absurd (omega (arith, none, within))

pub plain-grows : (old new : List ℕ) (plain : Option (ℕ × ℕ)) → HasGrown old new → IsPlain old plain → IsPlain new plain
plain-grows old new None grown is = tt
plain-grows old new (Some p) grown is = λ offset small.
    let there = is offset small in
    let more = grown.more in
    let first = there.0 in
    (omega arith, grown.same (p.1 * 128 + offset) first ∙ there.1)

pub pages-grow : (t : Table) (pages old new : List ℕ) → HasGrown old new → ArePages t pages old → ArePages t pages new
pages-grow t pages old new grown stand page within offset small =
    let there = stand page within offset small in
    let more = grown.more in
    let first = there.0 in
    (omega arith, grown.same (get_or pages page 0 * 128 + offset) first ∙ there.1)

-- one page more, or none where there was no room for it
pub pages-pushed : (t : Table) (pages more old new : List ℕ) (block page : ℕ) (room : Bool) → more ≡ cond room (pages ++ block ∷ []) pages
    → length pages ≡ page → HasGrown old new → ArePages t pages old → IsPageAt t new page block → ArePages t more new
pages-pushed t pages more old new block page false same count grown stand here = rw same (pages-grow t pages old new grown stand)
pages-pushed t pages more old new block page true same count grown stand here = rw same all
  where
    all : ArePages t (pages ++ block ∷ []) new
    all k within = elim (cases_lt k page) [
      | inl before ↦
          let read : get_or (pages ++ block ∷ []) k 0 ≡ get_or pages k 0 = get_or_append_left pages (block ∷ []) 0 k (omega arith) in
          rw read (pages-grow t pages old new grown stand k (omega arith))
      | inr last ↦
          let long = length-append pages (block ∷ []) in
          let place : k ≡ length pages = omega arith in
          let same_page : k ≡ page = place ∙ count in
          let read : get_or (pages ++ block ∷ []) k 0 ≡ block = ap (λ i. get_or (pages ++ block ∷ []) i 0) place ∙ get_or-append_seam pages block [] 0 in
          rw read (rw same_page here)
    ]
