-- A text that has parts is written part by part, and any other is read first.
use Rattle.std.proofs.Common.{refl, option_map}
use Rattle.segment.specs.Job.{IsPrintingOf}
use Rattle.segment.proofs.Counted.{all-paragraphs, all-parts, all-split, begun-split, begun-whole}
use Rattle.segment.proofs.run.print_job.Goals.{in-Cut, in-Wrap}
use Rattle.segment.proofs.run.print_job.Goals as goal

pub returns-then-has_parts-clause-written : goal.returns-then-has_parts-clause-written
returns-then-has_parts-clause-written g c =
    let file = option_map (λ name. name.now) c.args.file in
    let is : IsPrintingOf c.args.job.now.action file c.match-job.printing = elim c.match-job.branch [
      | in-Cut w ↦ rw (w.printing-is, w.in-Cut.is) (refl, refl, refl)
      | in-Wrap w ↦ rw (w.printing-is, w.in-Wrap.is) refl
    ] in
    all-split file c.args.job.now _ (g.I.Read.remaining c.args.input.now) _ _ c.print_parts.result (refl, is) c.print_parts.ensures.written

pub returns-then-has_parts-clause-begun : goal.returns-then-has_parts-clause-begun
returns-then-has_parts-clause-begun g c =
    let file = option_map (λ name. name.now) c.args.file in
    let is : IsPrintingOf c.args.job.now.action file c.match-job.printing = elim c.match-job.branch [
      | in-Cut w ↦ rw (w.printing-is, w.in-Cut.is) (refl, refl, refl)
      | in-Wrap w ↦ rw (w.printing-is, w.in-Wrap.is) refl
    ] in
    begun-split file c.args.job.now _ _ _ _ _ _ c.print_parts.result (refl, is) c.print_parts.ensures.begun

pub returns-clause-written : goal.returns-clause-written
returns-clause-written g c =
    let file = option_map (λ name. name.now) c.args.file in
    let is : IsPrintingOf c.args.job.now.action file c.match-job.printing = elim c.match-job.branch [
      | in-Cut w ↦ rw (w.printing-is, w.in-Cut.is) (refl, refl, refl)
      | in-Wrap w ↦ rw (w.printing-is, w.in-Wrap.is) refl
    ] in
    all-split file c.args.job.now _ (g.I.Read.remaining c.args.input.now) _ _ c.print_whole.result (refl, is) c.print_whole.ensures.written

pub returns-clause-begun : goal.returns-clause-begun
returns-clause-begun g c = begun-whole _ _ c.print_whole.result c.print_whole.ensures.unwritten

pub returns-in-Split-clause-written : goal.returns-in-Split-clause-written
returns-in-Split-clause-written g c =
    all-parts (option_map (λ name. name.now) c.args.file) c.args.job.now _ _ (g.I.Read.remaining c.args.input.now) _ _ c.print_splits.result c.in-Split.is
    c.print_splits.ensures.written

pub returns-in-Split-clause-begun : goal.returns-in-Split-clause-begun
returns-in-Split-clause-begun g c = begun-whole _ _ c.print_splits.result c.print_splits.ensures.unwritten

pub returns-in-Paragraphs-clause-written : goal.returns-in-Paragraphs-clause-written
returns-in-Paragraphs-clause-written g c =
    all-paragraphs (option_map (λ name. name.now) c.args.file) c.args.job.now _ (g.I.Read.remaining c.args.input.now) _ _ c.print_paragraphs.result c.in-Paragraphs.is
    c.print_paragraphs.ensures.written

pub returns-in-Paragraphs-clause-begun : goal.returns-in-Paragraphs-clause-begun
returns-in-Paragraphs-clause-begun g c = begun-whole _ _ c.print_paragraphs.result c.print_paragraphs.ensures.unwritten
