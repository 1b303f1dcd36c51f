-- Boundaries that rows find as far as code points pass a test.
use Rattle.std.proofs.Common.{◌≡◌, ◌≢◌, ℕ, zero, suc, ◌+◌, ◌-◌, ◌*◌, ◌/◌, ◌%◌, ◌<◌, ◌≤◌, Bool, true, List, [], ◌∷◌, drop, length, min, set, slice_index, refl, sym, ap, ◌∙◌, arith}
use Rattle.std.specs.List.{prefix_len}
use Rattle.std.proofs.lemmas.Bool.{cond_both}
use Rattle.std.proofs.lemmas.List.{get_or-set_same}
use Rattle.seg_text.specs.declared.boundary.Boundary.{Boundary}
use Rattle.seg_text.specs.Boundaries.{boundary, offsets}
use Rattle.seg_text.specs.Filled.{WritesSome, statuses}
use Rattle.seg_text.specs.Items.{Item, Text, IsRising, code_points, rest_after, start_of}
use Rattle.seg_text.proofs.Filling.{Filling, begun, went-on}
use Rattle.seg_text.proofs.Places.{IsRising-drop}
use Rattle.seg_machine.specs.Machine.{Machine}
use Rattle.seg_machine.specs.MachineFaults.{IsChecked}
use Rattle.seg_machine.proofs.Engine.{gives-next}
use Rattle.seg_machine.proofs.Scanned.{after-after}
use Rattle.seg_machine.specs.DenseRows.{slow, status_of}
use Rattle.seg_rows.specs.Underway.{HasPassed, IsNextEntry, IsUnderway, behind}
use Rattle.seg_rows.proofs.Underway.{ends-at, goes}

-- one item more passes
prefix-more : (passes : ℕ → Bool) (items : List Item) (count : ℕ) (item : Item) (later : List Item) → count ≤ prefix_len passes (code_points items)
    → drop count items ≡ item ∷ later → passes item.1 ≡ true → suc count ≤ prefix_len passes (code_points items)
prefix-more passes [] zero item later few is pass = absurd cc
prefix-more passes [] (suc count) item later few is pass = absurd cc
prefix-more passes (x ∷ items) zero item later few is pass =
    let first : passes x.1 ≡ true = ap passes (ap (λ (all : List Item). head all) is) ∙ pass in
    rw first (omega arith)
  where
    head : List Item → ℕ
    head [] = 0
    head (one ∷ more) = one.1
prefix-more passes (x ∷ items) (suc count) item later few is pass =
    cond_both (passes x.1) (1 + prefix_len passes (code_points items)) 0 (λ n. suc count ≤ n → suc (suc count) ≤ n)
    (λ here some. let more = prefix-more passes items count item later (omega (arith, some)) is pass in omega (arith, more))
    (λ here some. absurd (omega (arith, some))) few

pub passed-none : (passes : ℕ → Bool) (text : Text) → HasPassed passes text text
passed-none passes text = (0, omega arith, refl)

-- the next item is read, and passes
pub passed-more : (passes : ℕ → Bool) (text after next : Text) (item : Item) → HasPassed passes text after → after.items ≡ item ∷ next.items → next ≡ rest_after 1 after
    → passes item.1 ≡ true → HasPassed passes text next
passed-more passes text after next item (count, few, is) first rest pass =
    let here : drop count text.items ≡ item ∷ next.items = ap (λ (t : Text). t.items) (sym is) ∙ first in
    let one : count + 1 ≡ suc count = omega arith in
    let more = prefix-more passes text.items count item next.items few here pass in
    (count + 1, omega (arith, one, more), rest ∙ ap (rest_after 1) is ∙ after-after 1 count text)

-- So many boundaries behind a text's start are written, with their statuses: behind the last of them `last` is left, of which some is read.
pub record IsPassing (m : Machine) (passes : ℕ → Bool) (text : Text) (old olds : List ℕ) (done : ℕ) (places marks : List ℕ) (row : ℕ) (after : Text) : Type 0 where
  pub last : Text
  pub under : IsUnderway m last row after
  pub some : last.items ≢ []
  pub written : Filling (offsets (behind m text)) old places done (offsets (behind m last))
  pub marked : Filling (statuses (behind m text)) olds marks done (statuses (behind m last))
  pub left : behind m last ≡ drop done (behind m text)
  pub stands : 0 < done → slice_index places (done - 1) ≡ start_of last
  pub none_yet : done ≡ 0 → last ≡ text
  pub passed : HasPassed passes text last
  pub read : HasPassed passes text after

pub passing-start : (m : Machine) (passes : ℕ → Bool) (text : Text) (old olds : List ℕ) (row : ℕ) (after : Text) (item : Item) (later : List Item)
    → IsUnderway m text row after → text.items ≡ item ∷ later → passes item.1 ≡ true → after ≡ rest_after 1 text → IsPassing m passes text old olds 0 old olds row after
passing-start m passes text old olds row after item later under first pass rest = record {
  last = text;
  under = under;
  some = some-of text.items first;
  written = begun (offsets (behind m text)) old (offsets (behind m text)) refl;
  marked = begun (statuses (behind m text)) olds (statuses (behind m text)) refl;
  left = refl;
  stands = λ more. absurd (omega (arith, more));
  none_yet = λ none. refl;
  passed = passed-none passes text;
  read = passed-more passes text text after item (passed-none passes text) (first ∙ ap (λ (l : List Item). item ∷ l) (later-of text.items first)) rest pass;
}
  where
    some-of : (items : List Item) → items ≡ item ∷ later → items ≢ []
    some-of items is none = cc

    later-of : (items : List Item) → items ≡ item ∷ later → later ≡ after.items
    later-of items is = ap (λ (l : List Item). drop 1 l) (sym first) ∙ sym (ap (λ (t : Text). t.items) rest)

-- the next item is read, and the segment goes on
pub passing-goes : (m : Machine) (passes : ℕ → Bool) (text : Text) (old olds : List ℕ) (done : ℕ) (places marks : List ℕ) (row : ℕ) (after : Text) (entry : ℕ) (next : Text)
    → IsChecked m → IsPassing m passes text old olds done places marks row after → IsNextEntry m passes after (row / 256) entry next → entry ≢ slow → entry % 2 ≡ 0
    → IsPassing m passes text old olds done places marks (entry / 256 * 256) next
passing-goes m passes text old olds done places marks row after entry next checked p read fast even =
    let (item, is, pass) = read.read fast in record {
      last = p.last;
      under = goes m p.last after next row entry checked p.under read fast even;
      some = p.some;
      written = p.written;
      marked = p.marked;
      left = p.left;
      stands = p.stands;
      none_yet = p.none_yet;
      passed = p.passed;
      read = passed-more passes text after next item p.read is read.ahead.left pass;
    }

-- .. or it ends, and another begins
pub passing-ends : (m : Machine) (passes : ℕ → Bool) (text : Text) (old olds : List ℕ) (done : ℕ) (places marks : List ℕ) (row : ℕ) (after : Text) (entry : ℕ) (next : Text) (place status : ℕ)
    → IsChecked m → IsRising text.items text.end → IsPassing m passes text old olds done places marks row after → IsNextEntry m passes after (row / 256) entry next
    → entry ≢ slow → entry % 2 ≡ 1 → done < length old → done < length olds → done < length places → place ≡ start_of after → status ≡ status_of m (row / 256)
    → IsPassing m passes text old olds (done + 1) (set places done place) (set marks done status) (entry / 256 * 256) next
passing-ends m passes text old olds done places marks row after entry next place status checked rises p read fast odd room other inside here is-status =
    let (item, is, pass) = read.read fast in
    let (count, few, at) = p.passed in
    let ends = ends-at m p.last after next row entry checked (rw at (IsRising-drop text.items text.end count rises)) p.under read fast odd in
    let gives : behind m p.last ≡ boundary (start_of after) (status_of m (row / 256)) ∷ behind m after =
    (gives-next m p.last after true 0 (status_of m (row / 256)) (start_of after) refl p.some ends.segment refl).steps.1 in
    let index : (done + 1) - 1 ≡ done = omega arith in
    record {
      last = after;
      under = ends.under;
      some = some-of is;
      written = went-on (offsets (behind m text)) old places done place (offsets (behind m p.last)) (offsets (behind m after)) p.written
          (ap offsets gives ∙ ap (λ (n : ℕ). n ∷ offsets (behind m after)) (sym here)) room;
      marked = went-on (statuses (behind m text)) olds marks done status (statuses (behind m p.last)) (statuses (behind m after)) p.marked
          (ap statuses gives ∙ ap (λ (n : ℕ). n ∷ statuses (behind m after)) (sym is-status)) other;
      left = dropped (behind m text) (boundary (start_of after) (status_of m (row / 256))) (behind m after) done (sym p.left ∙ gives);
      stands = λ more. rw index (get_or-set_same places done place 0 inside ∙ here);
      none_yet = λ none. absurd (omega (arith, none));
      passed = p.read;
      read = passed-more passes text after next item p.read is read.ahead.left pass;
    }
  where
    some-of : {item : Item} → after.items ≡ item ∷ next.items → after.items ≢ []
    some-of is none = cc

    dropped : (all : List Boundary) (b : Boundary) (later : List Boundary) (n : ℕ) → drop n all ≡ b ∷ later → later ≡ drop (n + 1) all
    dropped [] b later zero is = absurd cc
    dropped [] b later (suc n) is = absurd cc
    dropped (x ∷ all) b later zero is = sym (ap (λ (l : List Boundary). drop 1 l) is)
    dropped (x ∷ all) b later (suc n) is =
        let one : suc n + 1 ≡ suc (n + 1) = omega arith in
        dropped all b later n is ∙ ap (λ (k : ℕ). drop k (x ∷ all)) (sym one)

-- What is given, where no more is written.

pub passed-some : (m : Machine) (passes : ℕ → Bool) (text left : Text) (old olds : List ℕ) (done : ℕ) (places marks : List ℕ) (row : ℕ) (after : Text)
    → (p : IsPassing m passes text old olds done places marks row after) → left ≡ p.last → done ≤ min (length old) (length olds)
    → WritesSome (behind m text) (behind m left) old places olds marks done
passed-some m passes text left old olds done places marks row after p same within = record {
  some = few (behind m text) done p.written.some;
  room = within;
  places = p.written.written;
  statuses_are = p.marked.written;
  left = ap (behind m) same ∙ p.left;
}
  where
    few : (all : List Boundary) (n : ℕ) → n ≤ length (offsets all) → n ≤ length all
    few [] n less = less
    few (x ∷ all) zero less = omega arith
    few (x ∷ all) (suc n) less = let more = few all n (omega (arith, less)) in omega (arith, more)
