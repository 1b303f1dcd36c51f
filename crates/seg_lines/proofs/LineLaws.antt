-- Laws of the boundaries of lines.
use Rattle.std.proofs.Common.{◌≡◌, ℕ, List, drop, refl, ap, ◌∙◌, subst}
use Rattle.seg_text.specs.declared.boundary.Boundary.{Boundary}
use Rattle.seg_text.specs.Boundaries.{RestartsIn, offsets, Cuts, with_status, HasOneAnswer, later_boundaries}
use Rattle.seg_text.proofs.Restarts.{restarts, restarts-as}
use Rattle.seg_text.proofs.Stretches.{later-are, later-only, one-answer}
use Rattle.seg_data.specs.ScriptWords.{ScriptWords, AreSameWords, no_words}
use Rattle.seg_machine.specs.MachineFaults.{IsChecked}
use Rattle.seg_machine.specs.Machine.{Machine as AnyMachine}
use Rattle.seg_machine.specs.Pick.{machine_boundaries, machine_stretch}
use Rattle.seg_machine.specs.declared.tailored_machine.TailoredMachineBorrowed.{TailoredMachineBorrowed}
use Rattle.seg_machine.proofs.Segmentations.{machine-alone, machine-going}
use Rattle.seg_clusters.specs.Rules.{boundaries_by, first_stretch}
use Rattle.seg_clusters.proofs.ByRules.{going, restarts-by}
use Rattle.seg_clusters.specs.Spans.{inner_cuts, inner_stretch}
use Rattle.seg_clusters.specs.Payloads.{Payloads, piece_cuts_by, run_cuts_by}
use Rattle.seg_clusters.specs.Scripts.{CoverPieces}
use Rattle.seg_clusters.proofs.EqualSpans.{same-inner-cuts}
use Rattle.seg_clusters.proofs.EqualWords.{same-run-cuts}
use Rattle.seg_clusters.proofs.SpanStretches.{span-some}
use Rattle.seg_clusters.proofs.UnwordedSpans.{inner-none}
use Rattle.seg_line_pairs.specs.declared.line_pairs.LinePairs.{LinePairs}
use Rattle.seg_line_pairs.specs.LineBoundaries.{inside, line_boundaries, line_stretch, rules_by, KeepsMarks}
use Rattle.seg_line_pairs.specs.LineRules.{TableRules}
use Rattle.seg_line_pairs.specs.declared.engines.LineEngine.TheVariants.{Seventeen, Classic}
use Rattle.seg_line_pairs.proofs.LineRestarts.{line-restarts}
use Rattle.seg_line_pairs.proofs.LineStretches.{line-going}
use Rattle.seg_line_turns.specs.TurnBoundaries.{turn_boundaries, StartsBear}
use Rattle.seg_line_turns.proofs.TurnStretches.{one-list}
use Rattle.seg_lines.specs.LineBreaks.{joined, AreBoundariesWith, HasOneList, LineFinder, LineRules, MayRestart, boundaries_with, line_boundaries_by, lines_with_words}
use Rattle.seg_lines.specs.LineBreaks.LineFinder.{ByClusters, ByPlaces, ByTable, ByTurns, ByMachine}
use Rattle.seg_lines.specs.Lines.{finder_of}
use Rattle.seg_lines.specs.declared.finder.Finder.{Finder}
use Rattle.seg_lines.specs.declared.finder.Finder.TheVariants.{Clusters, Places, Table, Turns, Machine}
use Rattle.seg_lines.proofs.JoinCover.{cuts-rising, plain-rising}
use Rattle.seg_lines.proofs.JoinMembers.{is-join, one-join}
use Rattle.seg_lines.proofs.PlainBoundaries.{restarts-plain}

-- by clusters

clusters-one : (payloads : Payloads) → HasOneAnswer (first_stretch payloads.clusters)
clusters-one payloads = one-answer (first_stretch payloads.clusters) (going payloads.clusters)

one-by-clusters : (payloads : Payloads) → HasOneList (record { finder = ByClusters; payloads = payloads })
one-by-clusters payloads = record { exists = (clusters-one payloads).exists; only = (clusters-one payloads).only }

pub one-by-places : (payloads : Payloads) → HasOneList (record { finder = ByPlaces; payloads = payloads })
one-by-places payloads =
    let clusters = clusters-one payloads in
    record {
      exists = λ code_points. (boundaries_by payloads.clusters code_points, (clusters.exists code_points, refl));
      only = λ code_points found are. are.1.1 ∙ ap (λ (found : List Boundary). with_status 0 (offsets found)) (clusters.only code_points are.0 are.1.0);
    }

pub one-by-table : (rules : TableRules Classic) (payloads : Payloads) → HasOneList (record { finder = ByTable rules; payloads = payloads })
one-by-table rules payloads =
    let stretch = line_stretch (inside (run_cuts_by payloads)) rules in
    let one = one-answer stretch (line-going rules (inside (run_cuts_by payloads))) in
    record { exists = one.exists; only = one.only }

pub one-by-turns : (rules : TableRules Seventeen) (payloads : Payloads) → HasOneList (record { finder = ByTurns rules; payloads = payloads })
one-by-turns rules payloads =
    let one = one-list (inside (run_cuts_by payloads)) rules in
    record { exists = one.exists; only = one.only }

-- by a machine of lines

module _ (m : AnyMachine) (payloads : Payloads) (checked : IsChecked m) (cover : CoverPieces (piece_cuts_by payloads)) where
  machine-one : HasOneAnswer (machine_stretch m)
  machine-one = one-answer (machine_stretch m) (machine-going m)

  exists-by-machine : (code_points : List ℕ) → AreBoundariesWith (ByMachine m) payloads code_points (boundaries_with (ByMachine m) payloads code_points)
  exists-by-machine code_points =
      let spans = later-are (inner_stretch m payloads) (λ first rest. span-some m payloads.words first rest) code_points in
      let join = is-join (machine_boundaries m code_points) (plain-rising m payloads checked cover code_points) (inner_cuts m payloads code_points) (cuts-rising m payloads checked cover code_points) in
      (machine_boundaries m code_points, (machine-one.exists code_points, (later_boundaries (inner_stretch m payloads) code_points, (spans.0, (spans.1, join)))))

  only-by-machine : (code_points : List ℕ) (found : List Boundary) → AreBoundariesWith (ByMachine m) payloads code_points found
      → found ≡ boundaries_with (ByMachine m) payloads code_points
  only-by-machine code_points found (boundaries, (are, (inner, (spans, (cuts, join))))) =
      let plain : boundaries ≡ machine_boundaries m code_points = machine-one.only code_points boundaries are in
      let cut : inner ≡ later_boundaries (inner_stretch m payloads) code_points = later-only (inner_stretch m payloads) (λ first rest. span-some m payloads.words first rest) code_points spans inner cuts in
      one-join (machine_boundaries m code_points) (inner_cuts m payloads code_points) found (boundaries_with (ByMachine m) payloads code_points) (rw (plain, cut) at join)
      (is-join (machine_boundaries m code_points) (plain-rising m payloads checked cover code_points) (inner_cuts m payloads code_points) (cuts-rising m payloads checked cover code_points))

  pub one-by-machine : HasOneList (record { finder = ByMachine m; payloads = payloads })
  one-by-machine = record { exists = exists-by-machine; only = only-by-machine }

-- by what isn't a machine
pub one-by : (finder : Finder) (payloads : Payloads) → ((machine : TailoredMachineBorrowed) → finder ≡ Machine machine → ⊥)
    → HasOneList (record { finder = finder_of finder; payloads = payloads })
one-by Clusters payloads none = one-by-clusters payloads
one-by Places payloads none = one-by-places payloads
one-by (Table pairs) payloads none = one-by-table (rules_by pairs) payloads
one-by (Turns pairs) payloads none = one-by-turns (rules_by pairs) payloads
one-by (Machine machine) payloads none = absurd (none machine refl)

-- without words of any script nothing is joined

pub without-cuts : (m : AnyMachine) (payloads : Payloads) (code_points : List ℕ) → payloads.words ≡ no_words
    → boundaries_with (ByMachine m) payloads code_points ≡ machine_boundaries m code_points
without-cuts m payloads code_points none = ap (joined (machine_boundaries m code_points)) (inner-none m payloads none code_points)

restarts-with : (finder : LineFinder) (payloads : Payloads) (code_points : List ℕ) → MayRestart finder payloads.words code_points
    → RestartsIn (boundaries_with finder payloads) code_points
restarts-with ByClusters payloads code_points none = restarts-by payloads.clusters code_points
restarts-with ByPlaces payloads code_points none = restarts-plain (boundaries_by payloads.clusters) code_points (restarts-by payloads.clusters code_points)
restarts-with (ByTable rules) payloads code_points none = line-restarts rules (inside (run_cuts_by payloads)) code_points none
restarts-with (ByTurns rules) payloads code_points none = absurd none
restarts-with (ByMachine m) payloads code_points none =
    restarts-as (boundaries_with (ByMachine m) payloads) (machine_boundaries m) code_points
    (λ n. without-cuts m payloads (drop n code_points) none) (restarts (machine_stretch m) (machine-going m) (machine-alone m) code_points)

pub restarts-without : (rules : LineRules) (code_points : List ℕ) → MayRestart rules.finder rules.payloads.words code_points
    → RestartsIn (line_boundaries_by rules) code_points
restarts-without rules = restarts-with rules.finder rules.payloads

-- the words of each script are a set

same-with : (finder : LineFinder) (payloads : Payloads) (others : ScriptWords) → AreSameWords payloads.words others
    → boundaries_with finder (record { words = others; clusters = payloads.clusters }) ≡ boundaries_with finder payloads
same-with ByClusters payloads others same = refl
same-with ByPlaces payloads others same = refl
same-with (ByTable rules) payloads others same = ap (λ (cuts : Cuts). line_boundaries (inside cuts) rules) (same-run-cuts payloads others same)
same-with (ByTurns rules) payloads others same = ap (λ (cuts : Cuts). turn_boundaries (inside cuts) rules) (same-run-cuts payloads others same)
same-with (ByMachine m) payloads others same =
    ap (λ (cuts : List ℕ → List ℕ). (λ code_points. joined (machine_boundaries m code_points) (cuts code_points))) (same-inner-cuts m payloads others same)

pub equal-words : (rules : LineRules) (others : ScriptWords) → AreSameWords rules.payloads.words others
    → line_boundaries_by (lines_with_words rules others) ≡ line_boundaries_by rules
equal-words rules others same = same-with rules.finder rules.payloads others same

-- marks

table-in : LineFinder → TableRules Classic → TableRules Classic
table-in (ByTable rules) other = rules
table-in ByClusters other = other
table-in ByPlaces other = other
table-in (ByTurns rules) other = other
table-in (ByMachine m) other = other

turns-in : LineFinder → TableRules Seventeen → TableRules Seventeen
turns-in (ByTurns rules) other = rules
turns-in ByClusters other = other
turns-in ByPlaces other = other
turns-in (ByTable rules) other = other
turns-in (ByMachine m) other = other

pub marks-by-table : (own rules : TableRules Classic) (payloads : Payloads) (code_points : List ℕ) → ByTable own ≡ ByTable rules
    → KeepsMarks own code_points (boundaries_with (ByTable own) payloads code_points) → KeepsMarks rules code_points (boundaries_with (ByTable own) payloads code_points)
unfolding table-in
marks-by-table own rules payloads code_points is keeps =
    subst (λ (rules : TableRules Classic). KeepsMarks rules code_points (boundaries_with (ByTable own) payloads code_points)) (ap (λ (finder : LineFinder). table-in finder own) is) keeps

pub no-table : (finder : Finder) (rules : TableRules Classic) → ((pairs : LinePairs _ _) → finder ≡ Table pairs → ⊥) → finder_of finder ≡ ByTable rules → ⊥
no-table Clusters rules none is = absurd cc
no-table Places rules none is = absurd cc
no-table (Turns pairs) rules none is = absurd cc
no-table (Machine machine) rules none is = absurd cc
no-table (Table pairs) rules none is = none pairs refl

pub marks-by-turns : (own rules : TableRules Seventeen) (payloads : Payloads) (code_points : List ℕ) → ByTurns own ≡ ByTurns rules
    → (StartsBear own.table → KeepsMarks own code_points (boundaries_with (ByTurns own) payloads code_points))
    → StartsBear rules.table → KeepsMarks rules code_points (boundaries_with (ByTurns own) payloads code_points)
unfolding turns-in
marks-by-turns own rules payloads code_points is keeps =
    subst (λ (rules : TableRules Seventeen). StartsBear rules.table → KeepsMarks rules code_points (boundaries_with (ByTurns own) payloads code_points))
    (ap (λ (finder : LineFinder). turns-in finder own) is) keeps

pub no-turns : (finder : Finder) (rules : TableRules Seventeen) → ((pairs : LinePairs _ _) → finder ≡ Turns pairs → ⊥) → finder_of finder ≡ ByTurns rules → ⊥
no-turns Clusters rules none is = absurd cc
no-turns Places rules none is = absurd cc
no-turns (Table pairs) rules none is = absurd cc
no-turns (Machine machine) rules none is = absurd cc
no-turns (Turns pairs) rules none is = none pairs refl
