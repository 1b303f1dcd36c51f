-- Words by a machine may be split after a code point outside runs that resets the machine.
use Rattle.std.proofs.Common.{ℕ, List, [], ◌∷◌, ◌++◌, ap}
use Rattle.std.specs.Char.{IsScalar}
use Rattle.seg_text.specs.declared.boundary.Boundary.{Boundary}
use Rattle.seg_text.specs.Boundaries.{start, list_boundaries}
use Rattle.seg_text.proofs.Covers.{covers-list}
use Rattle.seg_text.proofs.Stretches.{later-nil}
use Rattle.seg_clusters.specs.Rules.{PartsBehind, PartsTexts, boundaries_by}
use Rattle.seg_clusters.specs.Rules.Rules.{ByMachine}
use Rattle.seg_clusters.proofs.Joined.{later-joined}
use Rattle.seg_clusters.proofs.SplitTexts.{texts-split}
use Rattle.seg_clusters.proofs.ResetScans.{ends-within}
use Rattle.seg_machine.specs.MachineFaults.{IsChecked}
use Rattle.seg_machine.specs.Machine.{Machine}
use Rattle.seg_machine.specs.Pick.{machine_stretch}
use Rattle.seg_machine.proofs.Segmentations.{machine-going}
use Rattle.seg_clusters.specs.Payloads.{Payloads, piece_cuts_by}
use Rattle.seg_clusters.specs.Scripts.{CoverPieces}
use Rattle.seg_clusters.proofs.SplitSpans.{spans-split}
use Rattle.seg_words.specs.WordRules.{WordsResetWith, span_boundaries, span_stretch, stretch_by}
use Rattle.seg_words.proofs.Spans.{spans-within}

module _ (m : Machine) (payloads : Payloads) (checked : IsChecked m) (c : ℕ) (resets : WordsResetWith (ByMachine m) payloads.words c) where
  lists : PartsBehind (list_boundaries (span_stretch m payloads)) (c ∷ [])
  lists before second =
      ap (λ (later : List Boundary). start ∷ later)
      (spans-split m payloads.words (span_boundaries m (boundaries_by payloads.clusters)) (later-nil (machine_stretch m)) c resets.1
      (λ before zs. later-joined (machine_stretch m) (machine-going m) zs (before ++ c ∷ []) (ends-within m checked c resets.0 before zs)) before second)

  pub words-split : IsScalar c → CoverPieces (piece_cuts_by payloads) → PartsTexts (list_boundaries (stretch_by (ByMachine m) payloads)) c
  words-split scalar cover =
      texts-split (list_boundaries (span_stretch m payloads)) (covers-list (span_stretch m payloads) (spans-within m payloads checked cover)) c lists scalar
