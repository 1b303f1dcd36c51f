-- What is left of a text of lines.
use Rattle.std.proofs.Common.{◌≡◌, ℕ, ◌<◌, ◌≤◌, nat_lt, Bool, true, false, List, [], ◌∷◌, ◌++◌, length, map, drop, refl, sym, ap, ◌∙◌, subst, inl, inr, arith}
use Rattle.std.specs.Prelude.{filter}
use Rattle.std.proofs.lemmas.Bool.{cases_lt, lt-ltb, ltb-true, false_from_ne_true}
use Rattle.std.proofs.lemmas.List.{length-map, drop_all}
use Rattle.seg_text.specs.declared.boundary.Boundary.{Boundary}
use Rattle.seg_text.specs.Items.{Item, Text, place_of, start_of, code_points, IsRising}
use Rattle.seg_text.specs.Boundaries.{IsCover, boundary, boundaries_in, offsets, Cuts, AreCutsOf, with_status, cut_places, later_boundaries, list_boundaries}
use Rattle.seg_text.proofs.Covers.{covers, place-between}
use Rattle.seg_text.proofs.Stretches.{later-nil, text-later-nil}
use Rattle.seg_clusters.specs.Scripts.{PieceCuts, piece_stretch, run_cuts}
use Rattle.seg_line_pairs.specs.declared.engines.LineEngine.TheVariants.{Classic}
use Rattle.seg_line_pairs.specs.declared.events.LineEvent.TheVariants.{Run}
use Rattle.seg_line_pairs.specs.LineBoundaries.{CutsCover, inside, line_stretch}
use Rattle.seg_line_pairs.specs.LineEvents.{UnreadText, UnreadLines, LeadsToEvent, later_of, unread_lines, places_before}
use Rattle.seg_line_pairs.specs.LineRules.{TableRules}
use Rattle.seg_line_pairs.proofs.Inside.{inside-stand}
use Rattle.seg_line_pairs.proofs.LineStretches.{line-within}

-- places before the end of a run are those of the cuts that stand inside

pub none-before-zero : (places : List ℕ) → places_before 0 places ≡ []
none-before-zero [] = refl
none-before-zero (place ∷ places) =
    let never : nat_lt place 0 ≡ false = false_from_ne_true (nat_lt place 0) (λ is. absurd (omega (arith, ltb-true place 0 is))) in
    rw never (none-before-zero places)

place-end : (items : List Item) (end cut : ℕ) → length items ≤ cut → place_of (drop cut items) end ≡ end
place-end items end cut past = rw (drop_all cut items past) refl

same-below : (items : List Item) (end cut : ℕ) → IsRising items end → nat_lt cut (length items) ≡ nat_lt (place_of (drop cut items) end) end
same-below items end cut rising =
    elim (cases_lt cut (length items)) [
      | inl under ↦
          let last : place_of (drop (length items) items) end ≡ end = place-end items end (length items) (omega arith) in
          let less = place-between items end cut (length items) rising under (omega arith) in
          lt-ltb cut (length items) under ∙ sym (lt-ltb (place_of (drop cut items) end) end (omega (arith, last, less)))
      | inr past ↦
          let there = place-end items end cut past in
          false_from_ne_true (nat_lt cut (length items)) (λ is. absurd (omega (arith, ltb-true cut (length items) is, past)))
          ∙ sym (false_from_ne_true (nat_lt (place_of (drop cut items) end) end) (λ is. absurd (omega (arith, ltb-true (place_of (drop cut items) end) end is, there))))
    ]

same-filter : (items : List Item) (end : ℕ) (cuts : List ℕ) → IsRising items end
    → places_before end (map (λ (cut : ℕ). place_of (drop cut items) end) cuts) ≡ map (λ (cut : ℕ). place_of (drop cut items) end) (filter (λ cut. nat_lt cut (length items)) cuts)
same-filter items end [] rising = refl
same-filter items end (cut ∷ cuts) rising = on (nat_lt cut (length items)) refl (same-filter items end cuts rising)
  where
    at : ℕ → ℕ
    at cut = place_of (drop cut items) end

    on : (b : Bool) → nat_lt cut (length items) ≡ b
        → places_before end (map (λ (cut : ℕ). place_of (drop cut items) end) cuts) ≡ map (λ (cut : ℕ). place_of (drop cut items) end) (filter (λ cut. nat_lt cut (length items)) cuts)
        → places_before end (map (λ (cut : ℕ). place_of (drop cut items) end) (cut ∷ cuts)) ≡ map (λ (cut : ℕ). place_of (drop cut items) end) (filter (λ cut. nat_lt cut (length items)) (cut ∷ cuts))
    on true is later = rw (is, sym (same-below items end cut rising) ∙ is) (ap (λ (places : List ℕ). place_of (drop cut items) end ∷ places) later)
    on false is later = rw (is, sym (same-below items end cut rising) ∙ is) later

pub inside-places : (cuts : Cuts) (run : Text) (end : ℕ) → end ≡ run.end → IsRising run.items run.end → places_before end (cut_places cuts run) ≡ cut_places (inside cuts) run
inside-places cuts run end is rising =
    ap (λ end. places_before end (cut_places cuts run)) is
    ∙ same-filter run.items run.end (cuts (code_points run.items)) rising
    ∙ ap (λ n. map (λ (cut : ℕ). place_of (drop cut run.items) run.end) (filter (λ cut. nat_lt cut n) (cuts (code_points run.items)))) (sym (length-map run.items (λ (item : Item). item.1)))

-- cuts inside a list stay in it
pub inside-cuts : (count : ℕ) (cuts : List ℕ) → AreCutsOf count (filter (λ cut. nat_lt cut count) cuts)
inside-cuts count [] = tt
inside-cuts count (cut ∷ cuts) = on (nat_lt cut count) refl (inside-cuts count cuts)
  where
    on : (b : Bool) → nat_lt cut count ≡ b → AreCutsOf count (filter (λ cut. nat_lt cut count) cuts) → AreCutsOf count (filter (λ cut. nat_lt cut count) (cut ∷ cuts))
    on true is later = rw is (omega (arith, ltb-true cut count is), later)
    on false is later = rw is later

-- a new engine

pub lines-cover : (cuts : Cuts) → CutsCover cuts → (rules : TableRules Classic) (text : Text) (found : List Boundary)
    → found ≡ boundaries_in (list_boundaries (line_stretch (inside cuts) rules)) text → IsRising text.items text.end → IsCover (start_of text) text.end found
lines-cover cuts cover rules text found is rising =
    subst (λ (found : List Boundary). IsCover (start_of text) text.end found) (sym is)
    (covers (line_stretch (inside cuts) rules) (line-within rules (inside cuts) (inside-stand cuts cover)) text rising)

-- a run in which nothing is left has no cuts
pub no-inside : (cuts : PieceCuts) (run : Text) (end : ℕ) → run ≡ record { items = []; end = end } → cut_places (inside (run_cuts cuts)) run ≡ []
no-inside cuts run end is = ap (cut_places (inside (run_cuts cuts))) is ∙ ap (λ (found : List ℕ). map (λ (cut : ℕ). place_of (drop cut []) end) (filter (λ cut. nat_lt cut 0) found)) (none cuts)
  where
    none : (cuts : PieceCuts) → run_cuts cuts [] ≡ []
    none cuts = ap offsets (later-nil (piece_stretch cuts))

-- nothing is left of a text
pub nothing-unread : (cuts : Cuts) (unread : UnreadLines) → unread.text.items ≡ [] → unread_lines cuts unread ≡ []
nothing-unread cuts unread none =
    ap (λ (items : List Item). boundaries_in (later_boundaries (line_stretch cuts unread.rules)) (record { items = items; end = unread.text.end })) none
    ∙ text-later-nil (line_stretch cuts unread.rules) unread.text.end

-- What is left after cuts of a run, by either engine.

-- no cut is left of a run
pub none-of : (later : List ℕ → List Boundary) (run : List ℕ) (left : List Boundary) → run ≡ [] → with_status 0 run ++ later run ≡ left → later [] ≡ left
none-of later run left none is = ap (λ (run : List ℕ). with_status 0 run ++ later run) (sym none) ∙ is

-- where no cut is left, what is left is unread
pub with-none : (later : List ℕ → List Boundary) (run : List ℕ) (left : List Boundary) → run ≡ [] → later [] ≡ left → with_status 0 run ++ later run ≡ left
with-none later run left none is = ap (λ (run : List ℕ). with_status 0 run ++ later run) none ∙ is

-- a run came next, with its cuts
pub run-next : {I : Type 0} (text : I → Text) (cuts : Cuts) (before after : UnreadText) (run : I) (end : ℕ) (found : List ℕ) (left : List Boundary)
    → LeadsToEvent text before (Run run end) after → found ≡ cut_places (inside cuts) (text run) → later_of (inside cuts) before ≡ left
    → with_status 0 found ++ after.later (inside cuts) found ≡ left
run-next text cuts before after run end found left leads is same =
    ap (λ (found : List ℕ). with_status 0 found ++ after.later (inside cuts) found) is
    ∙ sym (leads.2 (inside cuts) stay) ∙ same
  where
    stay : AreCutsOf (length (text run).items) (inside cuts (code_points (text run).items))
    stay = rw (length-map (text run).items (λ (item : Item). item.1)) (inside-cuts (length (text run).items) (cuts (code_points (text run).items)))

pub fewer-still : (after passed before : ℕ) → after < passed → passed ≤ before → after < before
fewer-still after passed before less most = omega (arith, less, most)

-- nothing is left, before and after the end was read
pub end-next : (later after : List ℕ → List Boundary) (run rest : List ℕ) (left : List Boundary) → run ≡ [] → rest ≡ [] → later [] ≡ left → later [] ≡ [] → after [] ≡ []
    → (left ≡ []) × (with_status 0 rest ++ after rest ≡ [])
end-next later after run rest left none empty same nothing still = (sym same ∙ nothing, with-none after rest [] empty still)

-- the first is at the start of a text
pub starts-at : (cuts : Cuts) (rules : TableRules Classic) (text : Text) (unread : UnreadLines) → unread ≡ record { rules = rules; text = text }
    → boundary (start_of unread.text) 0 ∷ unread_lines cuts unread ≡ boundaries_in (list_boundaries (line_stretch cuts rules)) text
starts-at cuts rules text unread is = ap (λ (unread : UnreadLines). boundary (start_of unread.text) 0 ∷ unread_lines cuts unread) is
