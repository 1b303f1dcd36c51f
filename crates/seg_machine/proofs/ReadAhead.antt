-- The scan of a text that has read its next symbol.
use Rattle.std.proofs.Common.{◌≡◌, ◌≢◌, ℕ, ◌+◌, ◌<◌, ◌≤◌, Option, Some, None, List, [], ◌∷◌, length, replicate, IsSome, unwrap_or, refl, sym, ap, ◌∙◌, subst}
use Rattle.std.specs.Option.{option_map, option_map_or, option_or}
use Rattle.seg_text.specs.declared.boundary.Boundary.{Boundary}
use Rattle.seg_text.specs.Boundaries.{boundary_in}
use Rattle.seg_text.specs.Items.{Text, start_of, rest_after}
use Rattle.seg_machine.specs.declared.provider.Acceptance.{Acceptance}
use Rattle.seg_machine.specs.Machine.{Machine, step, state_at}
use Rattle.seg_machine.specs.MachineFaults.{IsChecked}
use Rattle.seg_machine.specs.Scan.{acceptance_at, acceptance_after, condition_end, future, places_after, IsPicked, IsSymbolAhead, Scanned}
use Rattle.seg_machine.proofs.Scanned.{after-after, pick-some, scanned-held, scanned-start, scanned-step, scanned-stop}

-- A scan that has read its next symbol, and what is left after that: the last acceptance, if there is one, is this.
pub record IsRead (m : Machine) (text : Text) (state symbol : ℕ) (after : Text) (kept : List (Option ℕ)) (picked : Boundary) (stood : ℕ) : Type 0 where
  pub left : Text
  pub last : Option Boundary
  pub scanned : Scanned m text state left kept last
  pub agrees : unwrap_or last picked ≡ picked
  pub ahead : IsSymbolAhead m left symbol after
  pub here : stood ≡ start_of left

-- the states that are still to come then
abbrev pub come : Machine → ℕ → ℕ → Text → List ℕ
come m state symbol after = option_map_or {T = ℕ} {U = List ℕ} (λ next. next ∷ future m next after) (step m state symbol) []

pub read-start : (m : Machine) (text : Text) (symbol : ℕ) (after : Text) (kept : List (Option ℕ)) (picked : Boundary) → IsChecked m
    → m.num_lookaheads ≤ length kept → kept ≡ replicate (length kept) None → IsSymbolAhead m text symbol after
    → IsRead m text 0 symbol after kept picked (start_of text)
read-start m text symbol after kept picked checked enough none ahead = record {
  left = text;
  last = None;
  scanned = scanned-start m text kept (length kept) checked enough none;
  agrees = refl;
  ahead = ahead;
  here = refl;
}

some-agrees : (last placed : Option Boundary) (picked : Boundary) → unwrap_or last picked ≡ picked → IsSome placed → last ≡ placed → Some picked ≡ placed
some-agrees None None picked agrees some is = absurd (none-some some)
  where
    none-some : IsSome {T = Boundary} None → ⊥
    none-some some = cc
some-agrees None (Some p) picked agrees some is = cc
some-agrees (Some b) placed picked agrees some is = ap Some (sym agrees) ∙ is

some-placed : (text : Text) (p : Option Boundary) → IsSome p → IsSome (option_map (boundary_in text) p)
some-placed text None some = cc
some-placed text (Some p) some = refl

pub read-stop : (m : Machine) (text : Text) (state symbol : ℕ) (after : Text) (kept : List (Option ℕ)) (picked : Boundary) (stood : ℕ) (to : Option ℕ)
    → IsChecked m → text.items ≢ [] → IsRead m text state symbol after kept picked stood → to ≡ step m state symbol → to ≡ None → IsPicked m text picked
read-stop m text state symbol after kept picked stood to checked some read value none =
    some-agrees read.last _ picked read.agrees (some-placed text _ (pick-some m checked text.items some))
    (scanned-stop m text state read.left kept read.last symbol after read.scanned (read.ahead.begins state read.scanned.in_range) (sym value ∙ none))

pub read-at : (m : Machine) (text : Text) (state symbol : ℕ) (after : Text) (kept : List (Option ℕ)) (picked : Boundary) (stood : ℕ)
    → IsRead m text state symbol after kept picked stood
    → (k : ℕ) × (stood ≡ start_of (rest_after k text)) × IsSymbolAhead m (rest_after k text) symbol after
read-at m text state symbol after kept picked stood read = (
  length read.scanned.entered,
  read.here ∙ ap start_of read.scanned.rest,
  subst (λ (left : Text). IsSymbolAhead m left symbol after) read.scanned.rest read.ahead,
)

pub read-held : (m : Machine) (text : Text) (state symbol : ℕ) (after : Text) (kept : List (Option ℕ)) (picked : Boundary) (stood : ℕ)
    (to : Option ℕ) (next : ℕ) (entry : Acceptance × Option ℕ) (found : Boundary)
    → IsChecked m → IsRead m text state symbol after kept picked stood → to ≡ step m state symbol → to ≡ Some next
    → entry ≡ state_at m next → condition_end kept entry ≡ Some found → IsPicked m text found
read-held m text state symbol after kept picked stood to next entry found checked read value leads e holds =
    scanned-held m text state read.left kept read.last symbol after next found checked read.scanned
    (read.ahead.begins state read.scanned.in_range) (sym value ∙ leads) (sym holds ∙ ap (condition_end kept) e)

pub read-past : (m : Machine) (text : Text) (state symbol : ℕ) (after : Text) (kept : List (Option ℕ)) (picked : Boundary) (stood place then : ℕ) (rest : Text)
    → IsRead m text state symbol after kept picked stood → place ≡ start_of after → IsSymbolAhead m after then rest
    → (k : ℕ) × (place ≡ start_of (rest_after k text)) × IsSymbolAhead m (rest_after k text) then rest
read-past m text state symbol after kept picked stood place then rest read p ahead =
    let more : after ≡ rest_after (length read.scanned.entered + 1) text =
    read.ahead.left ∙ ap (rest_after 1) read.scanned.rest ∙ after-after 1 (length read.scanned.entered) text in (
      length read.scanned.entered + 1,
      p ∙ ap start_of more,
      subst (λ (left : Text). IsSymbolAhead m left then rest) more ahead,
    )

agrees-after : (accepted last : Option Boundary) (picked picked-after : Boundary) → unwrap_or last picked ≡ picked → picked-after ≡ unwrap_or accepted picked
    → unwrap_or (option_or accepted last) picked-after ≡ picked-after
agrees-after None last picked picked-after agrees is = rw is agrees
agrees-after (Some b) last picked picked-after agrees is = sym is

pub read-turn : (m : Machine) (text : Text) (state symbol : ℕ) (after : Text) (kept : List (Option ℕ)) (picked : Boundary) (stood : ℕ)
    (to : Option ℕ) (next place : ℕ) (entry : Acceptance × Option ℕ) (kept-after : List (Option ℕ)) (picked-after : Boundary) (then : ℕ) (rest : Text)
    → IsChecked m → IsRead m text state symbol after kept picked stood → to ≡ step m state symbol → to ≡ Some next → next < length m.states
    → place ≡ start_of after → entry ≡ state_at m next → condition_end kept entry ≡ None
    → picked-after ≡ unwrap_or (acceptance_at place entry) picked → kept-after ≡ places_after place entry kept
    → IsSymbolAhead m after then rest
    → IsRead m text next then rest kept-after picked-after place
unfolding acceptance_after
read-turn m text state symbol after kept picked stood to next place entry kept-after picked-after then rest checked read value leads bound p e none l k ahead = record {
  left = after;
  last = acceptance_after place (state_at m next) read.last;
  scanned = rw (k, e)
      (scanned-step m text state read.left kept read.last symbol after next place checked read.scanned (read.ahead.begins state read.scanned.in_range)
      (sym value ∙ leads) bound read.ahead.left p (sym none ∙ ap (condition_end kept) e));
  agrees = agrees-after (acceptance_at place (state_at m next)) read.last picked picked-after read.agrees (l ∙ ap (λ entry. unwrap_or (acceptance_at place entry) picked) e);
  ahead = ahead;
  here = p;
}
