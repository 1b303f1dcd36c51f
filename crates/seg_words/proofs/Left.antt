-- What is left of a text by a pair table whose runs are cut in some way.
use Rattle.std.proofs.Common.{◌≡◌, ◌≢◌, ℕ, ◌<◌, List, [], ◌∷◌, ◌++◌, length, sym, ap, ◌∙◌, subst, arith}
use Rattle.std.specs.Prelude.{Option}
use Rattle.std.proofs.lemmas.List.{length-map}
use Rattle.seg_text.specs.declared.boundary.Boundary.{Boundary}
use Rattle.seg_text.specs.Items.{Item, Text, start_of, code_points, IsRising}
use Rattle.seg_text.specs.Boundaries.{IsCover, RisesTo, boundaries_in, Cuts, AreCutsOf, with_status, cut_places, later_boundaries, list_boundaries}
use Rattle.seg_text.proofs.Covers.{covers}
use Rattle.seg_text.proofs.Stretches.{text-later-nil}
use Rattle.seg_data.specs.Table.{Table}
use Rattle.seg_pairs.specs.declared.runs.Event.TheVariants.{Run}
use Rattle.seg_pairs.specs.PairTable.{PairTable}
use Rattle.seg_pairs.specs.Breaks.{Unread, LeadsTo, GoesOnUnread, complex_stretch, run_status, unread_boundaries}
use Rattle.seg_pairs.proofs.ComplexStretches.{complex-within}
use Rattle.seg_clusters.specs.Scripts.{PieceCuts, CoverPieces, run_cuts}
use Rattle.seg_clusters.proofs.Cutting.{run-cuts-inside, cuts-nil}

classic-cover : (cuts : Cuts) → ((run : List ℕ) → RisesTo 0 (with_status 0 (cuts run)) (length run)) → (t : PairTable) (overriding : Option Table) (text : Text)
    → IsRising text.items text.end → IsCover (start_of text) text.end (boundaries_in (list_boundaries (complex_stretch cuts t overriding)) text)
classic-cover cuts covered t overriding text rising = covers (complex_stretch cuts t overriding) (complex-within cuts covered t overriding) text rising

pub new-cover : (cuts : Cuts) → ((run : List ℕ) → RisesTo 0 (with_status 0 (cuts run)) (length run)) → (t : PairTable) (overriding : Option Table) (text : Text) (unread : Unread)
    → unread ≡ record { table = t; overriding = overriding; text = text } → IsRising text.items text.end
    → IsCover (start_of text) text.end (boundaries_in (list_boundaries (complex_stretch cuts unread.table unread.overriding)) unread.text)
new-cover cuts covered t overriding text unread is rising =
    subst (λ (u : Unread). IsCover (start_of text) text.end (boundaries_in (list_boundaries (complex_stretch cuts u.table u.overriding)) u.text)) (sym is)
    (classic-cover cuts covered t overriding text rising)

-- a run in which nothing is left has no cuts
pub no-cuts : (cuts : PieceCuts) (run : Text) (end : ℕ) → run ≡ record { items = []; end = end } → cut_places (run_cuts cuts) run ≡ []
no-cuts cuts run end is = ap (cut_places (run_cuts cuts)) is ∙ cuts-nil cuts end

-- nothing is left of a text
pub nothing-unread : (cuts : Cuts) (unread : Unread) → unread.text.items ≡ [] → unread_boundaries cuts unread ≡ []
nothing-unread cuts unread none =
    ap (λ (items : List Item). boundaries_in (later_boundaries (complex_stretch cuts unread.table unread.overriding)) (record { items = items; end = unread.text.end })) none
    ∙ text-later-nil (complex_stretch cuts unread.table unread.overriding) unread.text.end

-- no cut is left of a run
pub left-of : (status : ℕ) (run : List ℕ) (unread left : List Boundary) → run ≡ [] → with_status status run ++ unread ≡ left → unread ≡ left
left-of status run unread left none is = ap (λ (run : List ℕ). with_status status run ++ unread) (sym none) ∙ is

-- a run came next, with its cuts
pub left-run : {I : Type 0} (text : I → Text) (cuts : PieceCuts) → CoverPieces cuts → (before after : Unread) (run : I) (found : List ℕ) (left : List Boundary)
    → LeadsTo text before (Run run) after → GoesOnUnread before after
    → found ≡ cut_places (run_cuts cuts) (text run) → unread_boundaries (run_cuts cuts) before ≡ left
    → with_status (run_status after.table) found ++ unread_boundaries (run_cuts cuts) after ≡ left
left-run text cuts cover before after run found left leads goes is same =
    ap (λ (t : PairTable). with_status (run_status t) found ++ unread_boundaries (run_cuts cuts) after) goes.table
    ∙ ap (λ (found : List ℕ). with_status (run_status before.table) found ++ unread_boundaries (run_cuts cuts) after) is
    ∙ sym (leads (run_cuts cuts) inside) ∙ same
  where
    inside : AreCutsOf (length (text run).items) (run_cuts cuts (code_points (text run).items))
    inside = rw (length-map (text run).items (λ (item : Item). item.1)) at (run-cuts-inside cuts cover (code_points (text run).items))

-- and it took something
pub run-fewer : {I : Type 0} (text : I → Text) (before after : Unread) (run : I) → LeadsTo text before (Run run) after → GoesOnUnread before after
    → length after.text.items < length before.text.items
run-fewer text before after run leads goes = goes.fewer (λ none. some (sym (leads one (omega arith, tt)) ∙ nothing-unread one before none))
  where
    one : Cuts
    one code_points = 0 ∷ []

    some : with_status (run_status before.table) (cut_places one (text run)) ++ unread_boundaries one after ≢ []
    some is = cc

-- nothing is left, before and after the end was read
pub at-end : (cuts : Cuts) (status : ℕ) (run later : List ℕ) (before after : Unread) (left : List Boundary) → run ≡ [] → later ≡ [] → before.text.items ≡ [] → after ≡ before
    → with_status status run ++ unread_boundaries cuts before ≡ left → (left ≡ []) × (with_status (run_status after.table) later ++ unread_boundaries cuts after ≡ [])
at-end cuts status run later before after left none empty nothing same is = (
  sym is ∙ ap (λ (run : List ℕ). with_status status run ++ unread_boundaries cuts before) none ∙ nothing-unread cuts before nothing,
  ap (λ (run : List ℕ). with_status (run_status after.table) run ++ unread_boundaries cuts after) empty ∙ nothing-unread cuts after (ap (λ (u : Unread). u.text.items) same ∙ nothing),
)
