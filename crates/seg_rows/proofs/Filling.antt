-- Boundaries that are written over the first places of buffers.
use Rattle.std.proofs.Common.{◌≡◌, ◌≢◌, ℕ, zero, suc, ◌+◌, ◌-◌, ◌*◌, ◌/◌, ◌%◌, ◌<◌, ◌≤◌, Bool, true, false, List, [], ◌∷◌, ◌++◌, drop, map, take, take-append-drop, set, length, min, slice_index, refl, sym, ap, ◌∙◌, subst, arith, append_assoc, append-nil, length-append, inl, inr}
use Rattle.std.specs.Prelude.{if◌then◌else◌, nat_lt}
use Rattle.std.proofs.Math.Nat.{suc-mul}
use Rattle.std.proofs.lemmas.Bool.{cases_eq, cases_lt}
use Rattle.std.proofs.lemmas.List.{drop_at, get_or-set_other, get_or-set_same, length-drop, length-map, length-set, map-append, take-map, take-set, take_at, take_more_set}
use Rattle.seg_text.specs.declared.boundary.Boundary.{Boundary}
use Rattle.seg_text.specs.Boundaries.{Remainder, boundary, remainder}
use Rattle.seg_text.specs.Items.{Item, Text, IsRising, rest_after, start_of}
use Rattle.seg_text.proofs.Places.{IsRising-drop}
use Rattle.seg_text.proofs.Stretches.{text-later-nil}
use Rattle.seg_machine.specs.Machine.{Machine}
use Rattle.seg_machine.specs.MachineFaults.{IsChecked}
use Rattle.seg_machine.specs.Pick.{machine_stretch}
use Rattle.seg_machine.specs.Scan.{IsSegment}
use Rattle.seg_machine.proofs.Engine.{gives-next}
use Rattle.seg_machine.proofs.Scanned.{after-after}
use Rattle.seg_machine.specs.DenseRows.{slow, status_of}
use Rattle.seg_text.specs.Filled.{TakesFirst, after_given, last_status}
use Rattle.seg_rows.specs.Given.{first_unless}
use Rattle.seg_rows.specs.Underway.{IsGiven, IsNextEntry, IsUnderway, behind}
use Rattle.seg_rows.proofs.Reading.{fewer}
use Rattle.seg_rows.proofs.Underway.{ends-at, goes}

-- Of a text's boundaries behind its start these are given. Behind them `last` is left, to which a cursor at `rest` can go, and some of
-- it is read.
pub record IsGiving (m : Machine) (first rest : Text) (given : List Boundary) (last : Text) (row : ℕ) (after : Text) : Type 0 where
  pub k : ℕ
  pub last_is : last ≡ rest_after k rest
  pub whole : behind m first ≡ given ++ behind m last
  pub under : IsUnderway m last row after
  pub some : last.items ≢ []
  pub bound : length rest.items ≤ length first.items

pub giving-start : (m : Machine) (first : Text) (row : ℕ) (after : Text) → first.items ≢ [] → IsUnderway m first row after
    → IsGiving m first first [] first row after
giving-start m first row after some under = record {
  k = 0;
  last_is = refl;
  whole = refl;
  under = under;
  some = some;
  bound = omega arith;
}

-- one boundary more
pub whole-more : (m : Machine) (first last next : Text) (given : List Boundary) (status : ℕ) → behind m first ≡ given ++ behind m last → last.items ≢ []
    → IsSegment m last next status → behind m first ≡ (given ++ boundary (start_of next) status ∷ []) ++ behind m next
whole-more m first last next given status whole some segment =
    let gives : behind m last ≡ boundary (start_of next) status ∷ behind m next =
    (gives-next m last next true 0 status (start_of next) refl some segment refl).steps.1 in
    whole ∙ ap (λ (later : List Boundary). given ++ later) gives ∙ sym (append_assoc given (boundary (start_of next) status ∷ []) (behind m next))

-- the next item was read, and the segment goes on
pub giving-goes : {passes : ℕ → Bool} (m : Machine) (first rest : Text) (given : List Boundary) (last : Text) (row : ℕ) (after : Text) (entry : ℕ) (next : Text)
    → IsChecked m → IsGiving m first rest given last row after → IsNextEntry m passes after (row / 256) entry next → entry ≢ slow → entry % 2 ≡ 0
    → IsGiving m first rest given last (entry / 256 * 256) next
giving-goes m first rest given last row after entry next checked g read fast even = record {
  k = g.k;
  last_is = g.last_is;
  whole = g.whole;
  under = goes m last after next row entry checked g.under read fast even;
  some = g.some;
  bound = g.bound;
}

-- .. or it ends, and another begins
pub giving-ends : {passes : ℕ → Bool} (m : Machine) (first rest : Text) (given : List Boundary) (last : Text) (row : ℕ) (after : Text) (entry : ℕ) (next : Text)
    → IsChecked m → IsRising rest.items rest.end → IsGiving m first rest given last row after → IsNextEntry m passes after (row / 256) entry next
    → entry ≢ slow → entry % 2 ≡ 1
    → IsGiving m first rest (given ++ boundary (start_of after) (status_of m (row / 256)) ∷ []) after (entry / 256 * 256) next
giving-ends m first rest given last row after entry next checked rises g read fast odd =
    let at = ends-at m last after next row entry checked (rw g.last_is (IsRising-drop rest.items rest.end g.k rises)) g.under read fast odd in
    let (p, picks, status, here) = at.segment in
    record {
      k = g.k + p.offset;
      last_is = here ∙ ap (rest_after p.offset) g.last_is ∙ after-after p.offset g.k rest;
      whole = whole-more m first last after given (status_of m (row / 256)) g.whole g.some at.segment;
      under = at.under;
      some = some-left (fewer m _ after (row / 256) entry next read fast);
      bound = g.bound;
    }
  where
    some-left : length next.items < length after.items → after.items ≢ []
    some-left less none = absurd (omega (arith, less, ap length none))

fewer-after : (k : ℕ) (text : Text) → length (rest_after k text).items ≤ length text.items
fewer-after k text = omega (arith, length-drop k text.items)

-- a scan found where the segment ends
pub giving-scan : (m : Machine) (first rest : Text) (given : List Boundary) (last : Text) (row : ℕ) (after next : Text) (status row-next : ℕ) (after-next : Text)
    → IsGiving m first rest given last row after → IsSegment m last next status → next.items ≢ [] → IsUnderway m next row-next after-next
    → IsGiving m first next (given ++ boundary (start_of next) status ∷ []) next row-next after-next
giving-scan m first rest given last row after next status row-next after-next g segment some under =
    let one : length next.items ≤ length last.items = rw segment.3 (fewer-after segment.0.offset last) in
    let two : length last.items ≤ length rest.items = rw g.last_is (fewer-after g.k rest) in
    record {
      k = 0;
      last_is = refl;
      whole = whole-more m first last next given status g.whole g.some segment;
      under = under;
      some = some;
      bound = omega (arith, one, two, g.bound);
    }

-- what is read of the text is no more than the text
pub giving-bound : (m : Machine) (first rest : Text) (given : List Boundary) (last : Text) (row : ℕ) (after : Text)
    → IsGiving m first rest given last row after → length after.items ≤ length first.items
giving-bound m first rest given last row after g =
    let one : length after.items ≤ length last.items = rw g.under.scanned.rest (fewer-after (length g.under.scanned.entered) last) in
    let two : length last.items ≤ length rest.items = rw g.last_is (fewer-after g.k rest) in
    omega (arith, one, two, g.bound)

-- Buffers.

-- of what was given, this was written into a buffer, behind its first `from` places
pub record IsAppended (value : Boundary → ℕ) (from : ℕ) (old : List ℕ) (given : List Boundary) (count : ℕ) (now : List ℕ) : Type 0 where
  pub counted : count ≡ from + length given
  pub written : take count now ≡ take from old ++ map value given
  pub long : length now ≡ length old
  pub later : drop (suc count) now ≡ drop (suc count) old

pub appended-start : (value : Boundary → ℕ) (from : ℕ) (old : List ℕ) → IsAppended value from old [] from old
appended-start value from old = record { counted = omega arith; written = sym (append-nil (take from old)); long = refl; later = refl }

drop-behind : {X : Type 0} (xs : List X) (index count : ℕ) (x : X) → index < count → drop count (set xs index x) ≡ drop count xs
drop-behind [] index count x less = refl
drop-behind (y ∷ xs) index zero x less = absurd (omega (arith, less))
drop-behind (y ∷ xs) zero (suc count) x less = refl
drop-behind (y ∷ xs) (suc index) (suc count) x less = drop-behind xs index count x (omega (arith, less))

drop-suc : {X : Type 0} (xs : List X) (n : ℕ) → drop (suc n) xs ≡ drop 1 (drop n xs)
drop-suc xs zero = refl
drop-suc [] (suc n) = refl
drop-suc (x ∷ xs) (suc n) = drop-suc xs n

-- what is equal behind a place is so behind a later one
pub drop-further : {X : Type 0} (xs ys : List X) (few many : ℕ) → few ≤ many → drop few xs ≡ drop few ys → drop many xs ≡ drop many ys
drop-further xs ys few zero less same =
    let here : few ≡ 0 = omega (arith, less) in
    subst (λ (n : ℕ). drop n xs ≡ drop n ys) here same
drop-further xs ys few (suc many) less same =
    elim (cases_lt many few) [
      | inl last ↦
          let here : few ≡ suc many = omega (arith, less, last) in
          subst (λ (n : ℕ). drop n xs ≡ drop n ys) here same
      | inr past ↦ drop-suc xs many ∙ ap (drop 1) (drop-further xs ys few many past same) ∙ sym (drop-suc ys many)
    ]

-- one place more is written behind which all is as it was
later-more : (old now : List ℕ) (count x : ℕ) → drop (suc count) now ≡ drop (suc count) old → drop (suc count) (set now count x) ≡ drop (suc count) old
later-more old now count x later = drop-behind now count (suc count) x (omega arith) ∙ later

appended-same : (value : Boundary → ℕ) (from : ℕ) (old : List ℕ) (given : List Boundary) (count : ℕ) (now : List ℕ) (x : ℕ)
    → IsAppended value from old given count now → IsAppended value from old given count (set now count x)
appended-same value from old given count now x a = record {
  counted = a.counted;
  written = take-set now count x ∙ a.written;
  long = length-set now count x ∙ a.long;
  later = later-more old now count x a.later;
}

pub appended-more : (value : Boundary → ℕ) (from : ℕ) (old : List ℕ) (given : List Boundary) (count : ℕ) (now : List ℕ) (b : Boundary) (x : ℕ)
    → IsAppended value from old given count now → count < length now → x ≡ value b → IsAppended value from old (given ++ b ∷ []) (count + 1) (set now count x)
appended-more value from old given count now b x a room is = record {
  counted = omega (arith, a.counted, length-append given (b ∷ []));
  written =
      take_more_set now count x room
      ∙ ap (λ (done : List ℕ). done ++ x ∷ []) a.written
      ∙ append_assoc (take from old) (map value given) (x ∷ [])
      ∙ ap (λ (x : ℕ). take from old ++ (map value given ++ x ∷ [])) is
      ∙ ap (λ (later : List ℕ). take from old ++ later) (sym (map-append value given (b ∷ [])));
  long = length-set now count x ∙ a.long;
  later = drop-further (set now count x) old (suc count) (suc (count + 1)) (omega arith) (later-more old now count x a.later);
}

-- with this bit one boundary more is given
pub record IsMore (given more : List Boundary) (b : Boundary) (bit : ℕ) : Type 0 where
  pub none : bit ≡ 0 → more ≡ given
  pub one : bit ≡ 1 → more ≡ given ++ b ∷ []

pub appended-bit : (value : Boundary → ℕ) (from : ℕ) (old : List ℕ) (given more : List Boundary) (count : ℕ) (now : List ℕ) (b : Boundary) (x entry : ℕ)
    → IsAppended value from old given count now → IsMore given more b (entry % 2) → count < length now → x ≡ value b
    → IsAppended value from old more (count + entry % 2) (set now count x)
appended-bit value from old given more count now b x entry a bit room is =
    elim (cases_eq (entry % 2) 0) [
      | inl even ↦
          let same : count + entry % 2 ≡ count = omega (arith, even) in
          rw (same, bit.none even) (appended-same value from old given count now x a)
      | inr odd ↦
          let one : entry % 2 ≡ 1 = omega (arith, odd) in
          rw (bit.one one, one) (appended-more value from old given count now b x a room is)
    ]

pub last-more : (status : ℕ) (given : List Boundary) (b : Boundary) → last_status status (given ++ b ∷ []) ≡ b.status
last-more status [] b = refl
last-more status (other ∷ given) b = last-more other.status given b

pub last-bit : (status : ℕ) (given more : List Boundary) (b : Boundary) (count room entry : ℕ) → IsMore given more b (entry % 2) → count < room
    → count + entry % 2 ≡ room → last_status status more ≡ b.status
last-bit status given more b count room entry bit some full =
    let one : entry % 2 ≡ 1 = omega (arith, some, full) in
    rw (bit.one one) (last-more status given b)

-- So many places are written, of `room`, and a cursor can go to the last of them: `last` is left there.
pub record IsFilling (m : Machine) (first rest : Text) (from : ℕ) (old : List ℕ) (room count : ℕ) (places : List ℕ) (row : ℕ) (after : Text) : Type 0 where
  pub given : List Boundary
  pub last : Text
  pub giving : IsGiving m first rest given last row after
  pub written : IsAppended (λ (b : Boundary). b.offset) from old given count places
  pub stands : 0 < count → slice_index places (count - 1) ≡ start_of last
  pub none_yet : count ≡ 0 → last ≡ rest
  pub within : count ≤ room

unfoldable pub filling-start : (m : Machine) (first : Text) (from : ℕ) (places : List ℕ) (room row : ℕ) (after : Text) → first.items ≢ [] → IsUnderway m first row after
    → (0 < from → slice_index places (from - 1) ≡ start_of first) → from ≤ room → IsFilling m first first from places room from places row after
filling-start m first from places room row after some under stands within = record {
  given = [];
  last = first;
  giving = giving-start m first row after some under;
  written = appended-start (λ (b : Boundary). b.offset) from places;
  stands = stands;
  none_yet = λ none. refl;
  within = within;
}

-- once there is no more room, or a scan is needed
pub filling-last : (m : Machine) (first rest : Text) (from : ℕ) (old : List ℕ) (room count : ℕ) (places : List ℕ) (row : ℕ) (after found : Text)
    → (f : IsFilling m first rest from old room count places row after)
    → ((k : ℕ) → 0 < count → slice_index places (count - 1) ≡ start_of (rest_after k rest) → found ≡ rest_after k rest)
    → (count ≡ 0 → found ≡ rest) → found ≡ f.last
filling-last m first rest from old room count places row after found f sought none =
    elim (cases_eq count 0) [
      | inl nothing ↦ none nothing ∙ sym (f.none_yet nothing)
      | inr more ↦ sought f.giving.k (omega (arith, more)) (f.stands (omega (arith, more)) ∙ ap start_of f.giving.last_is) ∙ sym f.giving.last_is
    ]

-- after at most one boundary more there is still room, where it isn't full
pub still-room : (old places : List ℕ) (count place next : ℕ) → length places ≡ length old → count < length old → next ≤ count + 1
    → (next ≡ length (set places count place) → ⊥) → next < length old
still-room old places count place next long some few other =
    let full : next ≢ length old = λ is. other (is ∙ sym long ∙ sym (length-set places count place)) in
    omega (arith, some, few, full)

-- the next item was read
pub record Reads (m : Machine) (first rest : Text) (from : ℕ) (old : List ℕ) (room count : ℕ) (places : List ℕ) (row : ℕ) (after : Text) (given : List Boundary) (b : Boundary) (bit : ℕ) : Type 0 where
  pub filling : IsFilling m first rest from old room count places row after
  pub more : IsMore given filling.given b bit

pub filling-read : {passes : ℕ → Bool} (m : Machine) (first rest : Text) (from : ℕ) (old : List ℕ) (room count : ℕ) (places : List ℕ) (row : ℕ) (after : Text) (entry : ℕ) (next : Text) (place : ℕ)
    → IsChecked m → IsRising rest.items rest.end → (f : IsFilling m first rest from old room count places row after) → count < room → room ≤ length old
    → IsNextEntry m passes after (row / 256) entry next → entry ≢ slow → place ≡ start_of after
    → Reads m first rest from old room (count + entry % 2) (set places count place) (entry / 256 * 256) next f.given (boundary (start_of after) (status_of m (row / 256))) (entry % 2)
filling-read m first rest from old room count places row after entry next place checked rises f some fits read fast here =
    let inside : count < length places = omega (arith, some, fits, f.written.long) in
    elim (cases_eq (entry % 2) 0) [
      | inl even ↦
          let same : count + entry % 2 ≡ count = omega (arith, even) in
          record {
            filling = record {
              given = f.given;
              last = f.last;
              giving = giving-goes m first rest f.given f.last row after entry next checked f.giving read fast even;
              written = rw same (appended-same (λ (b : Boundary). b.offset) from old f.given count places place f.written);
              stands = λ more. rw same (kept (omega (arith, more, same)));
              none_yet = λ none. f.none_yet (omega (arith, none, same));
              within = omega (arith, same, f.within);
            };
            more = record { none = λ is. refl; one = λ is. absurd (omega (arith, even, is)) };
          }
      | inr odd ↦
          let one : entry % 2 ≡ 1 = omega (arith, odd) in
          let index : (count + entry % 2) - 1 ≡ count = omega (arith, one) in
          let b : Boundary = boundary (start_of after) (status_of m (row / 256)) in
          record {
            filling = record {
              given = f.given ++ b ∷ [];
              last = after;
              giving = giving-ends m first rest f.given f.last row after entry next checked rises f.giving read fast one;
              written = rw one (appended-more (λ (b : Boundary). b.offset) from old f.given count places b place f.written inside here);
              stands = λ more. rw index (get_or-set_same places count place 0 inside ∙ here);
              none_yet = λ none. absurd (omega (arith, none, one));
              within = omega (arith, some, one);
            };
            more = record { none = λ is. absurd (omega (arith, one, is)); one = λ is. refl };
          }
    ]
  where
    kept : 0 < count → slice_index (set places count place) (count - 1) ≡ start_of f.last
    kept more = before (count - 1) (omega (arith, more)) ∙ f.stands more
      where
        before : (index : ℕ) → index < count → slice_index (set places count place) index ≡ slice_index places index
        before index less = get_or-set_other places count index place 0 (λ same. absurd (omega (arith, less, same)))

-- a scan found the end of the segment, which isn't that of the text
pub filling-scan : (m : Machine) (first rest : Text) (from : ℕ) (old : List ℕ) (room count : ℕ) (places : List ℕ) (row : ℕ) (after at next : Text) (status row-next : ℕ) (after-next : Text) (place : ℕ)
    → (f : IsFilling m first rest from old room count places row after) → at ≡ f.last → count < room → room ≤ length old
    → IsSegment m at next status → place ≡ start_of next → next.items ≢ [] → IsUnderway m next row-next after-next
    → Reads m first next from old room (count + 1) (set places count place) row-next after-next f.given (boundary (start_of next) status) 1
filling-scan m first rest from old room count places row after at next status row-next after-next place f here some fits segment stands left under =
    let index : (count + 1) - 1 ≡ count = omega arith in
    let inside : count < length places = omega (arith, some, fits, f.written.long) in
    let found : IsSegment m f.last next status = subst (λ (t : Text). IsSegment m t next status) here segment in
    record {
      filling = record {
        given = f.given ++ boundary (start_of next) status ∷ [];
        last = next;
        giving = giving-scan m first rest f.given f.last row after next status row-next after-next f.giving found left under;
        written = appended-more (λ (b : Boundary). b.offset) from old f.given count places (boundary (start_of next) status) place f.written inside stands;
        stands = λ more. rw index (get_or-set_same places count place 0 inside ∙ stands);
        none_yet = λ none. absurd (omega (arith, none));
        within = omega (arith, some);
      };
      more = record { none = λ is. absurd (omega (arith, is)); one = λ is. refl };
    }

-- What is given, where filling ends.

-- one was written more: all behind it is as it was
pub later-end : (old now : List ℕ) (count bit x : ℕ) → drop (suc count) now ≡ drop (suc count) old → bit ≡ 1 → drop (count + bit) (set now count x) ≡ drop (count + bit) old
later-end old now count bit x later one =
    let next : suc count ≡ count + bit = omega (arith, one) in
    subst (λ (n : ℕ). drop n (set now count x) ≡ drop n old) next (later-more old now count x later)

pub full-bit : (count room entry : ℕ) → count < room → count + entry % 2 ≡ room → entry % 2 ≡ 1
full-bit count room entry some full = omega (arith, some, full)

-- the last boundary was found by a scan
unfoldable pub given-scan : (m : Machine) (first rest : Text) (from : ℕ) (old : List ℕ) (room count : ℕ) (places : List ℕ) (row : ℕ) (after at next : Text) (before status place : ℕ)
    → (f : IsFilling m first rest from old room count places row after) → at ≡ f.last → count < room → room ≤ length old
    → IsSegment m at next status → place ≡ start_of next → IsGiven m first next from (count + 1) before status old (set places count place)
given-scan m first rest from old room count places row after at next before status place f here some fits segment stands =
    let inside : count < length places = omega (arith, some, fits, f.written.long) in
    let found : IsSegment m f.last next status = subst (λ (t : Text). IsSegment m t next status) here segment in
    let b : Boundary = boundary (start_of next) status in
    let more = appended-more (λ (b : Boundary). b.offset) from old f.given count places b place f.written inside stands in
    record {
      given = f.given ++ b ∷ [];
      whole = whole-more m first f.last next f.given status f.giving.whole f.giving.some found;
      counted = more.counted;
      status_is = sym (last-more before f.given b);
      written = more.written;
      later = later-end old places count 1 place f.written.later refl;
    }

-- there is no more room
unfoldable pub given-full : (m : Machine) (first rest : Text) (from : ℕ) (old : List ℕ) (room count : ℕ) (places : List ℕ) (row : ℕ) (after found : Text) (before status : ℕ)
    → (f : IsFilling m first rest from old room count places row after) → found ≡ f.last → status ≡ last_status before f.given → drop count places ≡ drop count old
    → IsGiven m first found from count before status old places
given-full m first rest from old room count places row after found before status f here last later = record {
  given = f.given;
  whole = f.giving.whole ∙ ap (λ (left : Text). f.given ++ behind m left) (sym here);
  counted = f.written.counted;
  status_is = last;
  written = f.written.written;
  later = later;
}

-- nothing is given
unfoldable pub given-none : (m : Machine) (first : Text) (from status : ℕ) (old : List ℕ) → IsGiven m first first from from status status old old
given-none m first from status old = record {
  given = [];
  whole = refl;
  counted = omega arith;
  status_is = refl;
  written = sym (append-nil (take from old));
  later = refl;
}

-- how much is left: boundaries first, and then items
abbrev pub left_over : ℕ → ℕ → ℕ → ℕ → ℕ
left_over room count most items = (room - count) * suc most + items

more-boundaries : (few many most less more : ℕ) → few < many → less ≤ most → few * suc most + less < many * suc most + more
more-boundaries few many most less more fewer within =
    let times : suc few * suc most ≤ many * suc most = mul-le (suc few) many (suc most) fewer in
    omega (arith, times, within, suc-times few most)
  where
    suc-times : (a b : ℕ) → suc a * suc b ≡ a * suc b + suc b
    suc-times a b = suc-mul a (suc b)

    mul-le : (a b c : ℕ) → a ≤ b → a * c ≤ b * c
    mul-le zero b c le = omega arith
    mul-le (suc a) zero c le = absurd (omega arith)
    mul-le (suc a) (suc b) c le = omega (arith, suc-mul a c, suc-mul b c, mul-le a b c (omega arith))

pub fewer-boundaries : (room count most less more : ℕ) → count < room → less ≤ most → left_over room (count + 1) most less < left_over room count most more
fewer-boundaries room count most less more some within = more-boundaries (room - (count + 1)) (room - count) most less more (omega (arith, some)) within

-- What a call gives.

pub behind-nil : (m : Machine) (left : Text) → left.items ≡ [] → behind m left ≡ []
behind-nil m left none = from left.items none
  where
    from : (items : List Item) → items ≡ [] → behind m (record { items = items; end = left.end }) ≡ []
    from [] none = text-later-nil (machine_stretch m) left.end
    from (item ∷ items) none = cc

-- so many of the boundaries that are left were given, and this is left now
pub record IsDone (m : Machine) (before : Remainder) (given : List Boundary) (count : ℕ) (left : Text) (status room : ℕ) : Type 0 where
  pub few : count ≡ min (length before.left) room
  pub first : take count before.left ≡ given
  pub left_is : remainder true (machine_stretch m) left (if nat_lt count room then 0 else status) ≡ after_given room count before

done-by : (m : Machine) (before : Remainder) (given : List Boundary) (count status : ℕ) (left : Text) (room : ℕ) → before.left ≡ given ++ behind m left
    → count ≡ length given → status ≡ last_status before.status given → count ≤ room → (count < room → left.items ≡ []) → IsDone m before given count left status room
done-by m before given count status left room whole counted same within end =
    let first : take count before.left ≡ given = ap (take count) whole ∙ take_at given (behind m left) count (sym counted) in
    let rest : drop count before.left ≡ behind m left = ap (drop count) whole ∙ drop_at given (behind m left) count (sym counted) in
    let sum : length before.left ≡ length given + length (behind m left) = ap length whole ∙ length-append given (behind m left) in
    record {
      few = elim (cases_lt count room) [
        | inl less ↦ let none : length (behind m left) ≡ 0 = ap length (behind-nil m left (end less)) in omega (arith, counted, sum, none, within)
        | inr past ↦ omega (arith, counted, sum, past, within)
      ];
      first = first;
      left_is = rw (rest, first, same) refl;
    }

pub done : (m : Machine) (started : Bool) (text first : Text) (old status : ℕ) (given : List Boundary) (from count : ℕ) (left : Text) (room : ℕ)
    → (started ≡ false → old ≡ 0) → first ≡ text → behind m first ≡ given ++ behind m left → from ≡ length (first_unless started (start_of text)) → count ≡ from + length given
    → status ≡ last_status old given → count ≤ room → (count < room → left.items ≡ [])
    → IsDone m (remainder started (machine_stretch m) text old) (first_unless started (boundary (start_of text) 0) ++ given) count left status room
done m true text first old status given from count left room none same whole begun counted last within end =
    done-by m (remainder true (machine_stretch m) text old) given count status left room (ap (behind m) (sym same) ∙ whole) (omega (arith, begun, counted)) last within end
done m false text first old status given from count left room none same whole begun counted last within end =
    let start : Boundary = boundary (start_of text) 0 in
    done-by m (remainder false (machine_stretch m) text old) (start ∷ given) count status left room
    (ap (λ (later : List Boundary). start ∷ later) (ap (behind m) (sym same) ∙ whole)) (omega (arith, begun, counted))
    (last ∙ ap (λ (status : ℕ). last_status status given) (none refl)) within end

-- what is written of them, where the buffer had what comes first
pub done-values : (m : Machine) (before : Remainder) (pre given : List Boundary) (count : ℕ) (left : Text) (status room from : ℕ) (value : Boundary → ℕ) (old begun new : List ℕ)
    → IsDone m before (pre ++ given) count left status room → take count new ≡ take from begun ++ map value given → take from begun ≡ map value pre
    → drop count new ≡ drop count begun → drop from begun ≡ drop from old → from ≤ count → TakesFirst room (map value before.left) old new count
done-values m before pre given count left status room from value old begun new d written first later behind within = record {
  few = d.few ∙ ap (λ (n : ℕ). min n room) (sym (length-map before.left value));
  first =
      sym (take-append-drop count new)
      ∙ ap (λ (some : List ℕ). some ++ drop count new)
      (written ∙ ap (λ (some : List ℕ). some ++ map value given) first ∙ sym (map-append value pre given) ∙ ap (map value) (sym d.first) ∙ sym (take-map value count before.left))
      ∙ ap (λ (rest : List ℕ). take count (map value before.left) ++ rest) (later ∙ drop-further begun old from count within behind);
}

pub first-put : {X : Type 0} (xs : List X) (x : X) → 0 < length xs → take 1 (set xs 0 x) ≡ x ∷ []
first-put [] x some = absurd (omega (arith, some))
first-put (y ∷ xs) x some = refl

-- as many come first, whatever they are
pub first-long : {X Y : Type 0} (started : Bool) (x : X) (y : Y) → length (first_unless started x) ≡ length (first_unless started y)
first-long true x y = refl
first-long false x y = refl

pub first-value : (value : Boundary → ℕ) (started : Bool) (b : Boundary) → first_unless started (value b) ≡ map value (first_unless started b)
first-value value true b = refl
first-value value false b = refl

pub first-behind : {X : Type 0} (xs : List X) (x : X) → drop 1 (set xs 0 x) ≡ drop 1 xs
first-behind [] x = refl
first-behind (y ∷ xs) x = refl
