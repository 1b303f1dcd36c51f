-- What is left of a text that is read turn by turn.
use Rattle.std.proofs.Common.{◌≡◌, List, [], ◌∷◌, map, sym, ap, ◌∙◌, subst}
use Rattle.std.proofs.lemmas.List.{length-map}
use Rattle.seg_text.specs.declared.boundary.Boundary.{Boundary}
use Rattle.seg_text.specs.Items.{Item, Text, start_of, code_points, IsRising}
use Rattle.seg_text.specs.Boundaries.{IsCover, boundary, boundary_in, boundaries_in, Cuts}
use Rattle.seg_text.proofs.Covers.{covers-in}
use Rattle.seg_line_pairs.specs.declared.engines.LineEngine.TheVariants.{Seventeen}
use Rattle.seg_line_pairs.specs.LineBoundaries.{CutsCover, inside}
use Rattle.seg_line_pairs.specs.LineRules.{TableRules}
use Rattle.seg_line_pairs.proofs.Inside.{inside-stand}
use Rattle.seg_line_turns.specs.TurnBoundaries.{later_turns, turn_boundaries}
use Rattle.seg_line_turns.specs.TurnEvents.{UnreadTurns, unread_turns, after_cuts, whole_text}
use Rattle.seg_line_turns.proofs.TurnStretches.{turns-cover, turns-nil}

-- the first is at the start of a text
pub turns-whole : (cuts : Cuts) (rules : TableRules Seventeen) (text : Text) (unread : UnreadTurns) → unread ≡ whole_text rules text
    → boundary (start_of unread.text) 0 ∷ unread_turns cuts (after_cuts [] unread) ≡ boundaries_in (turn_boundaries cuts rules) text
turns-whole cuts rules text unread is = ap (λ (u : UnreadTurns). boundary (start_of u.text) 0 ∷ unread_turns cuts (after_cuts [] u)) is

pub turns-text-cover : (cuts : Cuts) → CutsCover cuts → (rules : TableRules Seventeen) (text : Text) (found : List Boundary)
    → found ≡ boundaries_in (turn_boundaries (inside cuts) rules) text → IsRising text.items text.end → IsCover (start_of text) text.end found
turns-text-cover cuts cover rules text found is rising =
    let counted = turns-cover (inside cuts) (inside-stand cuts cover) rules (code_points text.items) in
    subst (λ (found : List Boundary). IsCover (start_of text) text.end found) (sym is)
    (covers-in text (turn_boundaries (inside cuts) rules (code_points text.items)) rising (rw (length-map text.items (λ (item : Item). item.1)) at counted))

-- nothing is left of a text
pub nothing-unread : (cuts : Cuts) (unread : UnreadTurns) → unread.text.items ≡ [] → unread_turns cuts unread ≡ []
nothing-unread cuts unread none =
    ap (λ (items : List Item). boundaries_in (later_turns cuts unread.rules unread.starts unread.opened) (record { items = items; end = unread.text.end })) none
    ∙ ap (map (boundary_in (record { items = []; end = unread.text.end }))) (turns-nil cuts unread.rules unread.starts unread.opened)
