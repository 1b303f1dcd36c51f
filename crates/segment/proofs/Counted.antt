-- How many segments there are is written after what is printed, where they are only counted.
use Rattle.std.proofs.Common.{◌≡◌, ℕ, Option, None, Some, List, IfErr, IfOk, IfSome, Result, Ok, Err, ◌⊎◌, inl, inr, refl, ap, ap₂, length, subst, ◌∙◌, sym, ◌++◌, append-nil}
use Rattle.std.proofs.KnownBytes.{Appends-trans}
use Rattle.std.specs.Io.KnownBytes.{Appends}
use Rattle.segment_text.specs.Fault.{IsReadFault}
use Rattle.segment_text.specs.Counts.{count_line}
use Rattle.segment_output.specs.Output.{Look, lines_at}
use Rattle.segment_output.specs.Parts.{IsBegun, count_for, found_for, output_for, printed_behind, text_for}
use Rattle.segment_text.specs.Preparation.{prepared}
use Rattle.segment_output.specs.Splits.{AreParts}
use Rattle.segment_output.specs.TextSegmenter.{boundaries_by, segments_by}
use Rattle.segment_output.specs.Limited.{Bound, IsSetOutput}
use Rattle.segment_output.specs.Paragraphs.{AppendsSome, Choosing, chosen_by}
use Rattle.segment_output.specs.Wrapped.{wrapped_output}
use Rattle.segment_output.specs.Wrapper.{wrapping_of}
use Rattle.segment_output.proofs.JoinedCuts.{lines-at_zero}
use Rattle.segment_text.specs.Size.{size_of}
use Rattle.std.specs.Option.{option_map}
use Rattle.segment.specs.Job.{bound_in, count_by, numbers_of, said_by, text_of, IsBegunBy, IsDoneBy, IsOutputOf, IsPrintedBy, IsPrintingOf, IsTally, IsActionOutput}
use Rattle.segment_text.specs.declared.fault.Fault.{Fault}
use Rattle.segment_text.specs.declared.size.Size.{Size}
use Rattle.segment_text.specs.declared.size.Tally.{Tally}
use Rattle.segment_text.specs.declared.counts.AskedCounts.{AskedCounts}
use Rattle.segment_output.specs.declared.output.Style.{Style}
use Rattle.segment_output.specs.declared.parts.Printing.{Printing}
use Rattle.segment_output.specs.declared.parts.Printing.TheVariants.{Segments, Lines}
use Rattle.segment_output.specs.declared.parts.Splitting.{Splitting}
use Rattle.segment_text.specs.declared.preparation.Preparation.{Preparation}
use Rattle.segment_output.specs.declared.segmenter.TextSegmenter.{TextSegmenter}
use Rattle.segment_output.specs.declared.wrapper.Wrapper.{Wrapper}
use Rattle.segment.specs.declared.job.Job.{Job}
use Rattle.segment.specs.declared.job.Action.{Action}
use Rattle.segment.specs.declared.job.ParagraphAction.{ParagraphAction}
use Rattle.segment.specs.declared.job.Action.TheVariants.{Cut, Paragraphs, Split, Wrap}

module _ (job : Job) (name : Option (List ℕ)) where
  counted : (bytes : List ℕ) (old mid new : Option (List ℕ)) (numbers : AskedCounts) (tally : Tally) → numbers_of job.action ≡ Some numbers → IsTally job bytes tally
      → AppendsSome old mid (IsPrintedBy job (said_by job name) bytes) → Appends mid new (count_line numbers tally.segments tally.size name) → AppendsSome old new (IsOutputOf job name bytes)
  counted bytes old mid new numbers tally is are (written, printed, before) after =
      let line : List ℕ = count_line numbers (count_by job.action (text_of job bytes)) (size_of bytes) name in
      let adds : Appends mid new line =
      subst (λ (size : Size). Appends mid new (count_line numbers (count_by job.action (text_of job bytes)) size name)) are.1
      (subst (λ (segments : ℕ). Appends mid new (count_line numbers segments tally.size name)) are.0 after) in
      (written ++ line, (written, printed, rw is refl), Appends-trans old mid new written line before adds)

  -- where it is known what was read
  pub counted-of : (read old mid new : Option (List ℕ)) (numbers : AskedCounts) (tally : Tally) → numbers_of job.action ≡ Some numbers
      → IfSome read (λ bytes. IsTally job bytes tally × AppendsSome old mid (IsPrintedBy job (said_by job name) bytes)) → Appends mid new (count_line numbers tally.segments tally.size name)
      → IfSome read (λ bytes. IsTally job bytes tally × AppendsSome old new (IsOutputOf job name bytes))
  counted-of None old mid new numbers tally is printed after = tt
  counted-of (Some bytes) old mid new numbers tally is printed after = (printed.0, counted bytes old mid new numbers tally is printed.0 printed.1 after)

  -- where they aren't counted
  pub uncounted-of : (read old new : Option (List ℕ)) (tally : Tally) → numbers_of job.action ≡ None
      → IfSome read (λ bytes. IsTally job bytes tally × AppendsSome old new (IsPrintedBy job (said_by job name) bytes))
      → IfSome read (λ bytes. IsTally job bytes tally × AppendsSome old new (IsOutputOf job name bytes))
  uncounted-of None old new tally is printed = tt
  uncounted-of (Some bytes) old new tally is (are, (written, printed, appends)) = (are, (written, (written, printed, rw is (sym (append-nil written))), appends))

-- what is read is the whole text
pub whole-found : (splitting : Splitting) (read : Option (List ℕ)) (text shown : List ℕ) (count : ℕ) (size : Size) (old new : Option (List ℕ))
    → IfSome read (λ bytes. (text ≡ text_for splitting bytes) × (size ≡ size_of bytes)) → shown ≡ text
    → (count ≡ count_for splitting.printing shown) × Appends old new (printed_behind splitting.printing 0 shown)
    → IfSome read (λ bytes. (count ≡ found_for splitting bytes) × (size ≡ size_of bytes) × Appends old new (output_for splitting bytes))
whole-found splitting None text shown count size old new made is-shown printed = tt
whole-found splitting (Some bytes) text shown count size old new (made, sized) is-shown (counted, written) =
    let is : shown ≡ text_for splitting bytes = is-shown ∙ made in
    (counted ∙ ap (count_for splitting.printing) is, sized, subst (λ (text : List ℕ). Appends old new (printed_behind splitting.printing 0 text)) is written)

pub whole-paragraphs : (preparation : Preparation) (choosing : Choosing) (bound : Option Bound) (read : Option (List ℕ)) (text shown : List ℕ) (count : ℕ) (size : Size) (old new : Option (List ℕ))
    → IfSome read (λ bytes. (text ≡ prepared preparation bytes) × (size ≡ size_of bytes)) → shown ≡ text → count ≡ 0 → AppendsSome old new (IsSetOutput choosing bound shown)
    → IfSome read (λ bytes. (count ≡ 0) × (size ≡ size_of bytes) × AppendsSome old new (IsSetOutput choosing bound (prepared preparation bytes)))
whole-paragraphs preparation choosing bound None text shown count size old new made is-shown none printed = tt
whole-paragraphs preparation choosing bound (Some bytes) text shown count size old new (made, sized) is-shown none printed =
    (none, sized, subst (λ (text : List ℕ). AppendsSome old new (IsSetOutput choosing bound text)) (is-shown ∙ made) printed)

pub begun-whole : (P Q : Type 0) (r : Result Tally Fault) → IfErr r (λ fault. IsReadFault fault → P) → IfErr r (λ fault. IsReadFault fault → P ⊎ Q)
begun-whole P Q (Ok tally) is = tt
begun-whole P Q (Err fault) is = λ of_reader. inl (is of_reader)

-- what is written part by part is what is written of the whole
module _ (file : Option (List ℕ)) where
  pub printed-split : (action : Action) (printing : Printing) (text : List ℕ) → IsPrintingOf action file printing → (bytes : List ℕ) → IsActionOutput action file bytes text (printed_behind printing 0 text)
  printed-split (Cut segmenter style) (Segments one how name) text (same, is, named) bytes =
      ap₂ (λ (segmenter : TextSegmenter) (look : Look). lines_at look 0 text (segments_by segmenter text)) same
      (ap₂ (λ (style : Style) (file : Option (List ℕ)). let look : Look = record { style = style; file = file } in look) is named)
      ∙ lines-at_zero (record { style = style; file = file }) text (segments_by segmenter text)
  printed-split (Cut segmenter style) (Lines one) text is bytes = absurd is
  printed-split (Split segmenter least) printing text is bytes = absurd is
  printed-split (Wrap wrapper) (Segments one how name) text is bytes = absurd is
  printed-split (Wrap wrapper) (Lines one) text is bytes = ap (λ (wrapper : Wrapper). wrapped_output (wrapping_of wrapper) text) is
  printed-split (Paragraphs action) printing text is bytes = absurd is

  count-split : (action : Action) (printing : Printing) (text : List ℕ) → IsPrintingOf action file printing → count_for printing text ≡ count_by action text
  count-split (Cut segmenter style) (Segments one how name) text (same, is, named) = ap (λ (segmenter : TextSegmenter). length (segments_by segmenter text)) same
  count-split (Cut segmenter style) (Lines one) text is = absurd is
  count-split (Split segmenter least) printing text is = absurd is
  count-split (Wrap wrapper) (Segments one how name) text is = absurd is
  count-split (Wrap wrapper) (Lines one) text is = refl
  count-split (Paragraphs action) printing text is = absurd is

  pub all-split : (job : Job) (splitting : Splitting) (read old new : Option (List ℕ)) (r : Result Tally Fault) → IsDoneBy job file splitting
      → IfOk r (λ tally. IfSome read (λ bytes. (tally.segments ≡ found_for splitting bytes) × (tally.size ≡ size_of bytes) × Appends old new (output_for splitting bytes)))
      → IfOk r (λ tally. IfSome read (λ bytes. IsTally job bytes tally × AppendsSome old new (IsPrintedBy job file bytes)))
  all-split job splitting read old new (Err fault) done all = tt
  all-split job splitting None old new (Ok tally) done all = tt
  all-split job splitting (Some bytes) old new (Ok tally) (same, is) (count, size, written) =
      let text : text_for splitting bytes ≡ text_of job bytes = ap (λ (preparation : Preparation). prepared preparation bytes) same in
      let printed : IsPrintedBy job file bytes (output_for splitting bytes) =
      subst (IsPrintedBy job file bytes) (sym (ap (printed_behind splitting.printing 0) text)) (printed-split job.action splitting.printing (text_of job bytes) is bytes) in
      ((count ∙ ap (count_for splitting.printing) text ∙ count-split job.action splitting.printing (text_of job bytes) is, size), (output_for splitting bytes, printed, written))

  -- and of balanced lines all is written at once
  pub all-paragraphs : (job : Job) (action : ParagraphAction) (read old new : Option (List ℕ)) (r : Result Tally Fault) → job.action ≡ Paragraphs action
      → IfOk r (λ tally. IfSome read (λ bytes. (tally.segments ≡ 0) × (tally.size ≡ size_of bytes)
      × AppendsSome old new (IsSetOutput (chosen_by action.wrapper action.fit) (option_map bound_in action.limit) (prepared job.preparation bytes))))
      → IfOk r (λ tally. IfSome read (λ bytes. IsTally job bytes tally × AppendsSome old new (IsPrintedBy job file bytes)))
  all-paragraphs job action read old new (Err fault) is all = tt
  all-paragraphs job action None old new (Ok tally) is all = tt
  all-paragraphs job action (Some bytes) old new (Ok tally) is (count, size, written) = rw is ((count, size), written)

  -- of parts too
  pub all-parts : (job : Job) (segmenter : TextSegmenter) (least : ℕ) (read old new : Option (List ℕ)) (r : Result Tally Fault) → job.action ≡ Split segmenter least
      → IfOk r (λ tally. IfSome read (λ bytes. (tally.segments ≡ 0) × (tally.size ≡ size_of bytes) × AppendsSome old new (AreParts (boundaries_by segmenter) least file bytes)))
      → IfOk r (λ tally. IfSome read (λ bytes. IsTally job bytes tally × AppendsSome old new (IsPrintedBy job file bytes)))
  all-parts job segmenter least read old new (Err fault) is all = tt
  all-parts job segmenter least None old new (Ok tally) is all = tt
  all-parts job segmenter least (Some bytes) old new (Ok tally) is (count, size, written) = rw is ((count, size), written)

  pub begun-split : (job : Job) (splitting : Splitting) (from to old new : Option (List ℕ)) (P : Type 0) (r : Result Tally Fault) → IsDoneBy job file splitting
      → IfErr r (λ fault. IsReadFault fault → P ⊎ IsBegun splitting from to old new) → IfErr r (λ fault. IsReadFault fault → P ⊎ IsBegunBy job file from to old new)
  begun-split job splitting from to old new P (Ok tally) done all = tt
  begun-split job splitting from to old new P (Err fault) done all =
      λ of_reader. elim (all of_reader) [
        | inl none ↦ inl none
        | inr begun ↦ inr (splitting, done, begun)
      ]
