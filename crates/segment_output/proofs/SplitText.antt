-- Of a text that is written part by part is written what is written of it as a whole.
use Rattle.std.proofs.Common.{◌≡◌, ℕ, ◌+◌, ◌==◌, ◌≤◌, ◌⊎◌, inl, inr, Bool, true, false, cond, Option, None, Some, List, [], ◌∷◌, ◌++◌, IfErr, IfOk, IfSome, OnOk, Global, Vec, Result, Ok, Err, length, take, drop, map, filter, refl, sym, ap, ap₂, subst, ◌∙◌, arith, append-nil, append_assoc, length-append}
use Rattle.std.proofs.lemmas.Bool.{true≢false}
use Rattle.std.proofs.lemmas.List.{length-take, take-append-drop}
use Rattle.std.proofs.lemmas.List.Concat.{flat_map-append}
use Rattle.std.proofs.lemmas.List.Elements.{filter-append}
use Rattle.std.proofs.KnownBytes.{Appends-trans, Consumes-trans, Consumes-whole}
use Rattle.std.specs.Borrow.{Bor}
use Rattle.std.specs.Io.KnownBytes.{Appends, Consumes, IsAtEnd, Keeps}
use Rattle.std.specs.List.{zip}
use Rattle.std.specs.Option.{is_some}
use Rattle.icu_segmenter.specs.Boundary.{Boundary}
use Rattle.icu_segmenter.specs.Boundaries.{IsCover, shift_all}
use Rattle.icu_segmenter.specs.NearBoundaries.{SplitsAt, line_feed, up_to}
use Rattle.icu_segmenter.specs.Rules.{PartsBehind}
use Rattle.icu_segmenter.specs.TextSegments.{marked}
use Rattle.icu_segmenter.specs.Decoding.{utf8}
use Rattle.icu_segmenter.specs.LineBreaks.{line_boundaries_of}
use Rattle.icu_segmenter.specs.WrappedLines.{wrapped_within}
use Rattle.segment_text.specs.Fault.{IsReadFault}
use Rattle.segment_output.specs.Output.{Look, Segment, is_shown, lines_at, segment_between, segments}
use Rattle.segment_text.specs.Blocks.{AreLines, AreWhole}
use Rattle.segment_output.specs.Parts.{IsAdded, IsBegun, IsFrontWritten, IsPartWritten, MayBeSplit, MayBeSplitAmid, boundaries_for, count_for, found_for, look_by, output_for, printed_behind, text_for}
use Rattle.segment_output.specs.TextSegmenter.{boundaries_by, has_words_alone, mark_by, segments_by, segments_in, segments_to}
use Rattle.segment_text.specs.Size.{both_sizes, size_of}
use Rattle.segment_text.specs.declared.fault.Fault.{Fault}
use Rattle.segment_text.specs.declared.size.Size.{Size}
use Rattle.segment_text.specs.declared.size.Tally.{Tally}
use Rattle.segment_output.specs.declared.marks.Mark.{Mark}
use Rattle.segment_output.specs.declared.output.Style.{Style}
use Rattle.segment_output.specs.declared.parts.Printing.{Printing}
use Rattle.segment_output.specs.declared.parts.Printing.TheVariants.{Segments, Lines}
use Rattle.segment_output.specs.declared.parts.Progress.{Progress}
use Rattle.segment_output.specs.declared.parts.Splitting.{Splitting}
use Rattle.segment_output.specs.declared.segmenter.TextSegmenter.{TextSegmenter}
use Rattle.segment_output.specs.declared.wrapper.Wrapper.{Wrapper}
use Rattle.segment_output.specs.Wrapped.{EndsLines, Wrapping, shown_line, shown_lines, wrapped_output}
use Rattle.segment_output.specs.Wrapper.{wrapping_of}
use Rattle.segment_output.proofs.MarkedPlaces.{all-shown}
use Rattle.segment_output.proofs.Prepared.{prepared-lines, prepared-parts, whole-more}
use Rattle.segment_output.proofs.WrappedParts.{wrapped-parts}
use Rattle.segment_output.proofs.JoinedCuts.{count-joined, cover-up-to, cut-begun, cut-whole, cut_all, cut_from, lines-front_all, lines-joined}

-- ---- segments are cut at the boundaries whose statuses say so

module _ (alone : Bool) (mark : ℕ → Mark) where
  abbrev pairs_from : ℕ × Mark → List Boundary → List ((ℕ × Mark) × (ℕ × Mark))
  pairs_from start boundaries = zip (start ∷ marked mark boundaries) (marked mark boundaries)

  kept : (is : Bool) (pair : (ℕ × Mark) × (ℕ × Mark)) (pairs : List ((ℕ × Mark) × (ℕ × Mark))) (cuts : List Segment)
      → map segment_between pairs ≡ cuts → map segment_between (cond is (pair ∷ pairs) pairs) ≡ cond is (segment_between pair ∷ cuts) cuts
  kept true pair pairs cuts same = ap (λ (cuts : List Segment). segment_between pair ∷ cuts) same
  kept false pair pairs cuts same = same

  segments-from : (start : ℕ × Mark) (boundaries : List Boundary)
      → map segment_between (filter (λ pair. is_shown alone pair.1.1) (pairs_from start boundaries)) ≡ cut_from alone mark start.0 boundaries
  segments-from start [] = refl
  segments-from start (found ∷ boundaries) =
      let next : ℕ × Mark = (found.offset, mark found.status) in
      kept (is_shown alone (mark found.status)) (start, next) (filter (λ pair. is_shown alone pair.1.1) (pairs_from next boundaries)) _ (segments-from next boundaries)

  segments-cut : (boundaries : List Boundary) → segments alone (marked mark boundaries) ≡ cut_all alone mark boundaries
  segments-cut [] = refl
  segments-cut (found ∷ boundaries) = segments-from (found.offset, mark found.status) boundaries

cuts-are : (segmenter : TextSegmenter) (bytes : List ℕ) → segments_by segmenter bytes ≡ cut_all (has_words_alone segmenter) (mark_by segmenter) (boundaries_by segmenter bytes)
cuts-are segmenter bytes = segments-cut (has_words_alone segmenter) (mark_by segmenter) (boundaries_by segmenter bytes)

-- .. and those up to a place
cuts-to : (segmenter : TextSegmenter) (to : ℕ) (bytes : List ℕ) → segments_to segmenter to bytes ≡ cut_all (has_words_alone segmenter) (mark_by segmenter) (up_to to (boundaries_by segmenter bytes))
cuts-to segmenter to bytes = segments-cut (has_words_alone segmenter) (mark_by segmenter) (up_to to (boundaries_by segmenter bytes))

-- ---- what is written of a text from its start on, wherever its first boundary is

abbrev rest_segments : TextSegmenter → List ℕ → List Segment
rest_segments segmenter bytes = cut_from (has_words_alone segmenter) (mark_by segmenter) 0 (drop 1 (boundaries_by segmenter bytes))

abbrev rest_output : Printing → ℕ → List ℕ → List ℕ
rest_output (Segments segmenter style file) before bytes = lines_at (look_by style file) before bytes (rest_segments segmenter.now bytes)
rest_output (Lines wrapper) before bytes = wrapped_output (wrapping_of wrapper.now) bytes

abbrev rest_count : Printing → List ℕ → ℕ
rest_count (Segments segmenter style file) bytes = length (rest_segments segmenter.now bytes)
rest_count (Lines wrapper) bytes = 0

abbrev IsKnown : Printing → List ℕ → Type 0
IsKnown printing text = IsCover 0 (length text) (boundaries_for printing text)

rest-is : (segmenter : TextSegmenter) (bytes : List ℕ) → IsCover 0 (length bytes) (boundaries_by segmenter bytes) → segments_by segmenter bytes ≡ rest_segments segmenter bytes
rest-is segmenter bytes known = cuts-are segmenter bytes ∙ cut-whole (has_words_alone segmenter) (mark_by segmenter) (length bytes) (boundaries_by segmenter bytes) known

output-rest : (printing : Printing) (before : ℕ) (bytes : List ℕ) → IsKnown printing bytes → printed_behind printing before bytes ≡ rest_output printing before bytes
output-rest (Segments segmenter style file) before bytes known = ap (λ (segments : List Segment). lines_at (look_by style file) before bytes segments) (rest-is segmenter.now bytes known)
output-rest (Lines wrapper) before bytes known = refl

count-rest : (printing : Printing) (bytes : List ℕ) → IsKnown printing bytes → count_for printing bytes ≡ rest_count printing bytes
count-rest (Segments segmenter style file) bytes known = ap (λ (segments : List Segment). length segments) (rest-is segmenter.now bytes known)
count-rest (Lines wrapper) bytes known = refl

-- ---- what is written of a first part, and of what comes after it

-- of a text before which so much stands first this is written, so many segments, and then what is written of a rest of it, which stands so much later
record Leads (printing : Printing) (before : ℕ) (text rest : List ℕ) (size : ℕ) (written : List ℕ) (count : ℕ) : Type 0 where
  whole : printed_behind printing before text ≡ written ++ rest_output printing (before + size) rest
  later : rest_output printing before text ≡ written ++ rest_output printing (before + size) rest
  whole_count : count_for printing text ≡ count + rest_count printing rest
  later_count : rest_count printing text ≡ count + rest_count printing rest

leads-as : (printing : Printing) (before : ℕ) (text one rest : List ℕ) (size length : ℕ) (written output : List ℕ) (count number : ℕ) → text ≡ one → size ≡ length → written ≡ output → count ≡ number
    → Leads printing before text rest size written count → Leads printing before one rest length output number
leads-as printing before text one rest size length written output count number same_text same_size same_written same_count leads =
    subst (λ (text : List ℕ). Leads printing before text rest length output number) same_text
    (subst (λ (size : ℕ). Leads printing before text rest size output number) same_size
    (subst (λ (written : List ℕ). Leads printing before text rest size written number) same_written
    (subst (λ (count : ℕ). Leads printing before text rest size written count) same_count leads)))

module _ (segmenter : Bor TextSegmenter) (style : Style) (file : Option (Bor (List ℕ))) (before : ℕ) where
  abbrev look : Look
  look = look_by style file

  abbrev alone : Bool
  alone = has_words_alone segmenter.now

  abbrev mark : ℕ → Mark
  mark = mark_by segmenter.now

  abbrev find : List ℕ → List Boundary
  find bytes = boundaries_by segmenter.now bytes

  -- the text's boundaries are some that cover a first part, and those of the rest
  parts-lead : (done rest : List ℕ) (front : List Boundary) → find (done ++ rest) ≡ front ++ shift_all (length done) (drop 1 (find rest)) → IsCover 0 (length done) front
      → Leads (Segments segmenter style file) before (done ++ rest) rest (length done) (lines_at look before done (cut_all alone mark front)) (length (cut_all alone mark front))
  parts-lead done rest front are covers =
      let more : List Boundary = shift_all (length done) (drop 1 (find rest)) in
      let begun : segments_by segmenter.now (done ++ rest) ≡ cut_from alone mark 0 (drop 1 (front ++ more)) =
      cuts-are segmenter.now (done ++ rest) ∙ ap (cut_all alone mark) are ∙ cut-begun alone mark (length done) front more covers in
      let rests : rest_segments segmenter.now (done ++ rest) ≡ cut_from alone mark 0 (drop 1 (front ++ more)) =
      ap (λ (found : List Boundary). cut_from alone mark 0 (drop 1 found)) are in
      let lines = lines-joined look before alone mark done rest front (find rest) covers in
      let count = count-joined look before alone mark done rest front (find rest) covers in
      record {
        whole = ap (λ (segments : List Segment). lines_at look before (done ++ rest) segments) begun ∙ lines;
        later = ap (λ (segments : List Segment). lines_at look before (done ++ rest) segments) rests ∙ lines;
        whole_count = ap (λ (segments : List Segment). length segments) begun ∙ count;
        later_count = ap (λ (segments : List Segment). length segments) rests ∙ count;
      }

  -- lines
  lines-lead : (done rest : List ℕ) → PartsBehind (boundaries_by segmenter.now) line_feed → AreLines done → IsCover 0 (length done) (find done)
      → Leads (Segments segmenter style file) before (done ++ rest) rest (length done) (lines_at look before done (segments_by segmenter.now done)) (length (segments_by segmenter.now done))
  lines-lead done rest parts (first, is) covers =
      let are : find (done ++ rest) ≡ find done ++ shift_all (length done) (drop 1 (find rest)) =
      subst (λ (lines : List ℕ). find (lines ++ rest) ≡ find lines ++ shift_all (length lines) (drop 1 (find rest))) (sym is) (parts first rest) in
      let cuts = sym (cuts-are segmenter.now done) in
      leads-as (Segments segmenter style file) before (done ++ rest) (done ++ rest) rest (length done) (length done) _ _ _ _ refl refl
      (ap (λ (segments : List Segment). lines_at look before done segments) cuts) (ap (λ (segments : List Segment). length segments) cuts) (parts-lead done rest (find done) are covers)

  -- what has come up to a place where it may be split
  front-leads : (bytes : List ℕ) (place : ℕ) → place ≤ length bytes → SplitsAt (boundaries_by segmenter.now) bytes place → IsCover 0 (length bytes) (find bytes) → (more : List ℕ)
      → Leads (Segments segmenter style file) before (bytes ++ more) (drop place bytes ++ more) place (lines_at look before bytes (segments_to segmenter.now place bytes))
      (length (segments_to segmenter.now place bytes))
  front-leads bytes place within splits cover more =
      let done : List ℕ = take place bytes in
      let rest : List ℕ = drop place bytes in
      let front : List Boundary = up_to place (find bytes) in
      let size : length done ≡ place = omega (arith, length-take place bytes, within) in
      let halves : done ++ rest ≡ bytes = take-append-drop place bytes in
      let all : done ++ (rest ++ more) ≡ bytes ++ more = sym (append_assoc done rest more) ∙ ap (λ (bytes : List ℕ). bytes ++ more) halves in
      let are : find (done ++ (rest ++ more)) ≡ front ++ shift_all (length done) (drop 1 (find (rest ++ more))) =
      ap find all ∙ splits.parts more ∙ ap (λ (n : ℕ). front ++ shift_all n (drop 1 (find (rest ++ more)))) (sym size) in
      let covers : IsCover 0 (length done) front = subst (λ (n : ℕ). IsCover 0 n front) (sym size) (cover-up-to (length bytes) place (find bytes) cover splits.boundary) in
      let cuts = sym (cuts-to segmenter.now place bytes) in
      let lines : lines_at look before done (cut_all alone mark front) ≡ lines_at look before bytes (segments_to segmenter.now place bytes) =
      sym (lines-front_all look before alone mark done rest front covers) ∙ ap (λ (bytes : List ℕ). lines_at look before bytes (cut_all alone mark front)) halves
      ∙ ap (λ (segments : List Segment). lines_at look before bytes segments) cuts in
      leads-as (Segments segmenter style file) before (done ++ (rest ++ more)) (bytes ++ more) (rest ++ more) (length done) place _ _ _ _ all size lines
      (ap (λ (segments : List Segment). length segments) cuts) (parts-lead done (rest ++ more) front are covers)

wrapped-more : (wrapper : Wrapper) (done part : List ℕ) → PartsBehind (λ bytes. line_boundaries_of (wrapping_of wrapper).lines (utf8 bytes)) line_feed → EndsLines (wrapping_of wrapper).lines
    → AreLines done → IsCover 0 (length done) (line_boundaries_of (wrapping_of wrapper).lines (utf8 done))
    → wrapped_output (wrapping_of wrapper) (done ++ part) ≡ wrapped_output (wrapping_of wrapper) done ++ wrapped_output (wrapping_of wrapper) part
wrapped-more wrapper done part parts ends (before, is) cover =
    let wrapping : Wrapping = wrapping_of wrapper in
    subst (λ (done : List ℕ). IsCover 0 (length done) (line_boundaries_of wrapping.lines (utf8 done))
    → wrapped_output wrapping (done ++ part) ≡ wrapped_output wrapping done ++ wrapped_output wrapping part) (sym is)
    (λ cover.
    ap (shown_lines wrapping) (wrapped-parts wrapping.measure wrapping.room wrapping.lines parts before part cover (ends before cover))
    ∙ flat_map-append (shown_line wrapping) (wrapped_within utf8 wrapping.measure wrapping.lines wrapping.room (before ++ line_feed)) (wrapped_within utf8 wrapping.measure wrapping.lines wrapping.room part))
    cover

-- lines, whatever is written of them
lines-all_lead : (printing : Printing) (before : ℕ) (done rest : List ℕ) → MayBeSplit printing → AreLines done → IsKnown printing done
    → Leads printing before (done ++ rest) rest (length done) (printed_behind printing before done) (count_for printing done)
lines-all_lead (Segments segmenter style file) before done rest splits lines covers = lines-lead segmenter style file before done rest splits lines covers
lines-all_lead (Lines wrapper) before done rest splits lines covers =
    let same = wrapped-more wrapper.now done rest splits.0 splits.1 lines covers in
    record { whole = same; later = same; whole_count = refl; later_count = refl }

-- of a whole text all segments are written
pub whole-printed : {E : Type 0} (segmenter : Bor TextSegmenter) (style : Style) (file : Option (Bor (List ℕ))) (before : ℕ) (text : List ℕ) (old new : Option (List ℕ)) (r : Result ℕ E)
    → IfOk r (λ count. (count ≡ length (segments_in segmenter.now (λ _. true) text)) × Appends old new (lines_at (look_by style file) before text (segments_in segmenter.now (λ _. true) text)))
    → IfOk r (λ count. (count ≡ count_for (Segments segmenter style file) text) × Appends old new (printed_behind (Segments segmenter style file) before text))
whole-printed segmenter style file before text old new r printed =
    let all : segments_in segmenter.now (λ _. true) text ≡ segments_by segmenter.now text =
    ap (λ (found : List Boundary). segments (has_words_alone segmenter.now) (marked (mark_by segmenter.now) found)) (all-shown (boundaries_by segmenter.now text)) in
    subst (λ (found : List Segment). IfOk r (λ count. (count ≡ length found) × Appends old new (lines_at (look_by style file) before text found))) all printed

-- ---- parts, one after another

-- how large two texts are, one behind the other
pub sizes-append : (one other : List ℕ) → size_of (one ++ other) ≡ both_sizes (size_of one) (size_of other)
sizes-append one other =
    ap₂ (λ (lines bytes : ℕ). let size : Size = record { lines = lines; bytes = bytes } in size)
    (ap length (filter-append (λ byte. byte == 0x0A) one other) ∙ length-append (filter (λ byte. byte == 0x0A) one) (filter (λ byte. byte == 0x0A) other)) (length-append one other)

-- what is written before what is held: all that is written begins so, whatever comes
pub record SoFar (splitting : Splitting) (done output : List ℕ) (progress : Progress) (old new : Option (List ℕ)) : Type 0 where
  pub whole : MayBeSplitAmid splitting ⊎ AreWhole splitting.preparation.joins done
  pub size : progress.size ≡ size_of done
  pub made : progress.made ≡ length (text_for splitting done)
  pub written : Appends old new output
  pub goes_on : (more : List ℕ) → output_for splitting (done ++ (progress.held.items ++ more))
      ≡ output ++ rest_output splitting.printing progress.made (text_for splitting (progress.held.items ++ more))
  pub counts : (more : List ℕ) → found_for splitting (done ++ (progress.held.items ++ more))
      ≡ progress.segments + rest_count splitting.printing (text_for splitting (progress.held.items ++ more))

-- what came so far are parts, of which is written, and what is held
abbrev pub IsUnderWay : {O : Type 0} → Splitting → (O → Option (List ℕ)) → Option (List ℕ) → Option (List ℕ) → Progress → O → O → Type 0
IsUnderWay splitting contents from now progress old new =
    (done : List ℕ) × Consumes from now (done ++ progress.held.items)
    × (((done ≡ []) × (progress.size ≡ size_of []) × (progress.made ≡ 0) × (progress.segments ≡ 0) × (new ≡ old))
    ⊎ ((output : List ℕ) × SoFar splitting done output progress (contents old) (contents new)))

-- what is written of a front of what is held, and what is held then
record Step (splitting : Splitting) (bytes : List ℕ) (before after : Progress) (old new : Option (List ℕ)) : Type 0 where
  front : List ℕ
  output : List ℕ
  count : ℕ
  whole : MayBeSplitAmid splitting ⊎ AreWhole splitting.preparation.joins front
  is : bytes ≡ front ++ after.held.items
  size : after.size ≡ both_sizes before.size (size_of front)
  made : after.made ≡ before.made + length (text_for splitting front)
  segments : after.segments ≡ before.segments + count
  written : Appends old new output
  leads : (more : List ℕ) → Leads splitting.printing before.made (text_for splitting (bytes ++ more)) (text_for splitting (after.held.items ++ more)) (length (text_for splitting front)) output count

module _ (splitting : Splitting) where
  abbrev printing : Printing
  printing = splitting.printing

  abbrev text_of : List ℕ → List ℕ
  text_of bytes = text_for splitting bytes

  abbrev IsSplit : List ℕ → Type 0
  IsSplit done = MayBeSplitAmid splitting ⊎ AreWhole splitting.preparation.joins done

  as-it-stands : splitting.preparation.tabs ≡ None → splitting.preparation.joins ≡ false → (bytes : List ℕ) → text_of bytes ≡ bytes
  as-it-stands unspaced unjoined bytes = rw (unspaced, unjoined) refl

  texts : (done part : List ℕ) → IsSplit done → text_of (done ++ part) ≡ text_of done ++ text_of part
  texts done part (inl (segmenter, style, file, is, unspaced, unjoined)) =
      let same = as-it-stands unspaced unjoined in
      same (done ++ part) ∙ ap₂ (λ (one other : List ℕ). one ++ other) (sym (same done)) (sym (same part))
  texts done part (inr whole) = prepared-parts splitting.preparation done part whole

  split-more : (done part : List ℕ) → IsSplit done → IsSplit part → IsSplit (done ++ part)
  split-more done part (inl amid) other = inl amid
  split-more done part (inr whole) (inl amid) = inl amid
  split-more done part (inr whole) (inr other) = inr (whole-more splitting.preparation.joins done part other)

  -- whole lines or paragraphs
  step-lines : MayBeSplit printing → (bytes part : List ℕ) (before after : Progress) (old new : Option (List ℕ)) → AreWhole splitting.preparation.joins part → bytes ≡ part ++ after.held.items
      → IsPartWritten splitting part before after old new → Step splitting bytes before after old new
  step-lines splits bytes part before after old new whole is written = record {
    front = part;
    output = printed_behind printing before.made (text_of part);
    count = found_for splitting part;
    whole = inr whole;
    is = is;
    size = written.size;
    made = written.made;
    segments = written.count;
    written = written.written;
    leads = λ more.
        let held : List ℕ = after.held.items in
        let all : text_of (bytes ++ more) ≡ text_of part ++ text_of (held ++ more) =
        ap text_of (ap (λ (bytes : List ℕ). bytes ++ more) is ∙ append_assoc part held more) ∙ texts part (held ++ more) (inr whole) in
        leads-as printing before.made _ (text_of (bytes ++ more)) (text_of (held ++ more)) _ (length (text_of part)) _ (printed_behind printing before.made (text_of part)) _ (found_for splitting part)
        (sym all) refl refl refl
        (lines-all_lead printing before.made (text_of part) (text_of (held ++ more)) splits (prepared-lines splitting.preparation part (held ++ more) whole) written.cover);
  }

  -- what has come up to a certain place
  step-front : (bytes : List ℕ) (before after : Progress) (old new : Option (List ℕ)) → IsFrontWritten splitting bytes before after old new → Step splitting bytes before after old new
  step-front bytes before after old new w =
      let front : List ℕ = take w.place bytes in
      let same = as-it-stands w.unspaced w.unjoined in
      let size : length (text_of front) ≡ w.place = ap length (same front) ∙ omega (arith, length-take w.place bytes, w.within) in
      let lines : List ℕ = lines_at (look_by w.style w.file) before.made bytes (segments_to w.segmenter.now w.place bytes) in
      let count : ℕ = length (segments_to w.segmenter.now w.place bytes) in
      record {
        front = front;
        output = lines;
        count = count;
        whole = inl (w.segmenter, w.style, w.file, w.segments, w.unspaced, w.unjoined);
        is = sym (ap (λ (held : List ℕ). front ++ held) w.held ∙ take-append-drop w.place bytes);
        size = w.size;
        made = w.made ∙ ap (λ (n : ℕ). before.made + n) (sym size);
        segments = w.count;
        written = w.written;
        leads = λ more.
            let rest : drop w.place bytes ++ more ≡ text_of (after.held.items ++ more) =
            ap (λ (held : List ℕ). held ++ more) (sym w.held) ∙ sym (same (after.held.items ++ more)) in
            subst (λ (printing : Printing). Leads printing before.made (text_of (bytes ++ more)) (text_of (after.held.items ++ more)) (length (text_of front)) lines count) (sym w.segments)
            (subst (λ (rest : List ℕ). Leads (Segments w.segmenter w.style w.file) before.made (text_of (bytes ++ more)) rest (length (text_of front)) lines count) rest
            (leads-as (Segments w.segmenter w.style w.file) before.made (bytes ++ more) (text_of (bytes ++ more)) (drop w.place bytes ++ more) w.place (length (text_of front)) _ _ _ _
            (sym (same (bytes ++ more))) (sym size) refl refl (front-leads w.segmenter w.style w.file before.made bytes w.place w.within w.splits w.cover more)));
      }

  -- one step more, and the first one
  step-more : (done output block : List ℕ) (before after : Progress) (old mid new : Option (List ℕ)) → SoFar splitting done output before old mid
      → (step : Step splitting (before.held.items ++ block) before after mid new) → SoFar splitting (done ++ step.front) (output ++ step.output) after old new
  step-more done output block before after old mid new far step = record {
    whole = split-more done step.front far.whole step.whole;
    size = step.size ∙ ap (λ (size : Size). both_sizes size (size_of step.front)) far.size ∙ sym (sizes-append done step.front);
    made = made;
    written = Appends-trans old mid new output step.output far.written step.written;
    goes_on = λ more.
        let leads = step.leads more in
        ap (output_for splitting) (all more) ∙ far.goes_on (block ++ more) ∙ ap (λ (bytes : List ℕ). output ++ rest_output printing before.made (text_of bytes)) (sym (append_assoc before.held.items block more))
        ∙ ap (λ (lines : List ℕ). output ++ lines) leads.later
        ∙ sym (append_assoc output step.output (rest_output printing (before.made + length (text_of step.front)) (text_of (after.held.items ++ more))))
        ∙ ap (λ (made : ℕ). (output ++ step.output) ++ rest_output printing made (text_of (after.held.items ++ more))) (sym step.made);
    counts = λ more.
        let leads = step.leads more in
        let found = ap (found_for splitting) (all more) ∙ far.counts (block ++ more) ∙ ap (λ (bytes : List ℕ). before.segments + rest_count printing (text_of bytes)) (sym (append_assoc before.held.items block more)) in
        omega (arith, found, leads.later_count, step.segments);
  }
    where
      all : (more : List ℕ) → (done ++ step.front) ++ (after.held.items ++ more) ≡ done ++ (before.held.items ++ (block ++ more))
      all more =
          append_assoc done step.front (after.held.items ++ more)
          ∙ ap (λ (bytes : List ℕ). done ++ bytes)
          (sym (append_assoc step.front after.held.items more) ∙ ap (λ (bytes : List ℕ). bytes ++ more) (sym step.is) ∙ append_assoc before.held.items block more)

      made : after.made ≡ length (text_of (done ++ step.front))
      made = omega (arith, step.made, far.made, ap length (texts done step.front far.whole), length-append (text_of done) (text_of step.front))

  step-first : (block : List ℕ) (before after : Progress) (old new : Option (List ℕ)) → before.size ≡ size_of [] → before.made ≡ 0 → before.segments ≡ 0
      → (step : Step splitting (before.held.items ++ block) before after old new) → SoFar splitting step.front step.output after old new
  step-first block before after old new at none nothing step = record {
    whole = step.whole;
    size = step.size ∙ ap (λ (size : Size). both_sizes size (size_of step.front)) at ∙ sym (sizes-append [] step.front);
    made = omega (arith, step.made, none);
    written = step.written;
    goes_on = λ more.
        ap (output_for splitting) (all more) ∙ ap (λ (made : ℕ). printed_behind printing made (text_of ((before.held.items ++ block) ++ more))) (sym none) ∙ (step.leads more).whole
        ∙ ap (λ (made : ℕ). step.output ++ rest_output printing made (text_of (after.held.items ++ more))) (sym step.made);
    counts = λ more. let found = ap (found_for splitting) (all more) in omega (arith, found, (step.leads more).whole_count, step.segments, nothing);
  }
    where
      all : (more : List ℕ) → step.front ++ (after.held.items ++ more) ≡ (before.held.items ++ block) ++ more
      all more = sym (append_assoc step.front after.held.items more) ∙ ap (λ (bytes : List ℕ). bytes ++ more) (sym step.is)

  -- more is held
  held-more : (done output block : List ℕ) (before after : Progress) (old mid new : Option (List ℕ)) → after.held.items ≡ before.held.items ++ block → after.size ≡ before.size → after.made ≡ before.made
      → after.segments ≡ before.segments → new ≡ mid → SoFar splitting done output before old mid → SoFar splitting done output after old new
  held-more done output block before after old mid new held size made count same far = record {
    whole = far.whole;
    size = size ∙ far.size;
    made = made ∙ far.made;
    written = subst (λ (now : Option (List ℕ)). Appends old now output) (sym same) far.written;
    goes_on = λ more.
        ap (λ (bytes : List ℕ). output_for splitting (done ++ bytes)) (all more) ∙ far.goes_on (block ++ more)
        ∙ ap₂ (λ (made : ℕ) (bytes : List ℕ). output ++ rest_output printing made (text_of bytes)) (sym made) (sym (all more));
    counts = λ more.
        ap (λ (bytes : List ℕ). found_for splitting (done ++ bytes)) (all more) ∙ far.counts (block ++ more)
        ∙ ap₂ (λ (count : ℕ) (bytes : List ℕ). count + rest_count printing (text_of bytes)) (sym count) (sym (all more));
  }
    where
      all : (more : List ℕ) → after.held.items ++ more ≡ before.held.items ++ (block ++ more)
      all more = ap (λ (bytes : List ℕ). bytes ++ more) held ∙ append_assoc before.held.items block more

  module _ {O : Type 0} (splits : MayBeSplit splitting.printing) (contents : O → Option (List ℕ)) where
    pub under-way : (from now : Option (List ℕ)) (block : List ℕ) (mid : Option (List ℕ)) (before after : Progress) (old out new : O) → IsUnderWay splitting contents from mid before old out
        → Consumes mid now block → IsAdded splitting block before after (new ≡ out) (contents out) (contents new) → IsUnderWay splitting contents from now after old new
    under-way from now block mid before after old out new (done, read, cut) more added = on added
      where
        came : Consumes from now (done ++ (before.held.items ++ block))
        came = subst (Consumes from now) (append_assoc done before.held.items block) (Consumes-trans from mid now (done ++ before.held.items) block read more)

        stepped : Step splitting (before.held.items ++ block) before after (contents out) (contents new) → IsUnderWay splitting contents from now after old new
        stepped step = (
          done ++ step.front,
          subst (Consumes from now) (sym (append_assoc done step.front after.held.items)) (subst (λ (bytes : List ℕ). Consumes from now (done ++ bytes)) step.is came),
          elim cut [
            | inl (none, at, nowhere, nothing, unwritten) ↦
                let first = step-first block before after (contents out) (contents new) at nowhere nothing step in
                inr (
                  step.output,
                  subst (λ (bytes : List ℕ). SoFar splitting bytes step.output after (contents old) (contents new)) (ap (λ (bytes : List ℕ). bytes ++ step.front) (sym none))
                      (subst (λ (o : O). SoFar splitting step.front step.output after (contents o) (contents new)) unwritten first),
                )
            | inr (output, far) ↦ inr (output ++ step.output, step-more done output block before after (contents old) (contents out) (contents new) far step)
          ],
        )

        on : IsAdded splitting block before after (new ≡ out) (contents out) (contents new) → IsUnderWay splitting contents from now after old new
        on (inl (held, size, made, count, same)) = (
          done,
          subst (λ (bytes : List ℕ). Consumes from now (done ++ bytes)) (sym held) came,
          elim cut [
            | inl (none, at, nowhere, nothing, unwritten) ↦ inl (none, size ∙ at, made ∙ nowhere, count ∙ nothing, same ∙ unwritten)
            | inr (output, far) ↦ inr (output, held-more done output block before after (contents old) (contents out) (contents new) held size made count (ap contents same) far)
          ],
        )
        on (inr (inl (part, whole, is, written))) = stepped (step-lines splits (before.held.items ++ block) part before after (contents out) (contents new) whole is written)
        on (inr (inr written)) = stepped (step-front (before.held.items ++ block) before after (contents out) (contents new) written)

    -- what is held is the last part
    pub all-written : (from now : Option (List ℕ)) (before after : Progress) (old out new : O) → IsUnderWay splitting contents from now before old out → IsAtEnd now
        → IsPartWritten splitting before.held.items before after (contents out) (contents new)
        → IfSome from (λ bytes. (after.segments ≡ found_for splitting bytes) × (after.size ≡ size_of bytes) × Appends (contents old) (contents new) (output_for splitting bytes))
    all-written from now before after old out new (done, read, cut) end written =
        Consumes-whole from now (done ++ before.held.items) _ read end (on cut)
      where
        held : List ℕ
        held = before.held.items

        on : ((done ≡ []) × (before.size ≡ size_of []) × (before.made ≡ 0) × (before.segments ≡ 0) × (out ≡ old)) ⊎ ((output : List ℕ) × SoFar splitting done output before (contents old) (contents out))
            → (after.segments ≡ found_for splitting (done ++ held)) × (after.size ≡ size_of (done ++ held)) × Appends (contents old) (contents new) (output_for splitting (done ++ held))
        on (inl (none, at, nowhere, nothing, unwritten)) =
            subst (λ (bytes : List ℕ). (after.segments ≡ found_for splitting bytes) × (after.size ≡ size_of bytes) × Appends (contents old) (contents new) (output_for splitting bytes))
            (ap (λ (bytes : List ℕ). bytes ++ held) (sym none)) (
              omega (arith, written.count, nothing),
              written.size ∙ ap (λ (size : Size). both_sizes size (size_of held)) at ∙ sym (sizes-append [] held),
              subst (λ (o : O). Appends (contents o) (contents new) (output_for splitting held)) unwritten
                  (subst (λ (made : ℕ). Appends (contents out) (contents new) (printed_behind printing made (text_of held))) nowhere written.written),
            )
        on (inr (output, far)) =
            let all : held ++ [] ≡ held = append-nil held in
            let found : found_for splitting (done ++ held) ≡ before.segments + rest_count printing (text_of held) =
            subst (λ (bytes : List ℕ). found_for splitting (done ++ bytes) ≡ before.segments + rest_count printing (text_of bytes)) all (far.counts []) in
            let lines : output_for splitting (done ++ held) ≡ output ++ rest_output printing before.made (text_of held) =
            subst (λ (bytes : List ℕ). output_for splitting (done ++ bytes) ≡ output ++ rest_output printing before.made (text_of bytes)) all (far.goes_on []) in (
              omega (arith, written.count, found, count-rest printing (text_of held) written.cover),
              written.size ∙ ap (λ (size : Size). both_sizes size (size_of held)) far.size ∙ sym (sizes-append done held),
              subst (λ (lines : List ℕ). Appends (contents old) (contents new) lines)
                  (ap (λ (lines : List ℕ). output ++ lines) (output-rest printing before.made (text_of held) written.cover) ∙ sym lines)
                  (Appends-trans (contents old) (contents out) (contents new) output (printed_behind printing before.made (text_of held)) far.written written.written),
            )

    -- the last read gives nothing
    pub all-found : (from mid now : Option (List ℕ)) (read : List ℕ) (before after : Progress) (old out new : O) (r : Result Tally Fault) → IsUnderWay splitting contents from mid before old out
        → Consumes mid now read → read ≡ [] → IsAtEnd now
        → IfOk r (λ tally. (tally.segments ≡ after.segments) × (tally.size ≡ after.size) × IsPartWritten splitting before.held.items before after (contents out) (contents new))
        → IfOk r (λ tally. IfSome from (λ bytes. (tally.segments ≡ found_for splitting bytes) × (tally.size ≡ size_of bytes)
        × Appends (contents old) (contents new) (output_for splitting bytes)))
    all-found from mid now read before after old out new (Err fault) way more none end printed = tt
    all-found from mid now read before after old out new (Ok tally) (done, taken, cut) more none end (count, size, written) =
        counted from (all-written from now before after old out new (done, all, cut) end written)
      where
        all : Consumes from now (done ++ before.held.items)
        all = subst (Consumes from now) (ap (λ (bytes : List ℕ). (done ++ before.held.items) ++ bytes) none ∙ append-nil (done ++ before.held.items))
            (Consumes-trans from mid now (done ++ before.held.items) read taken more)

        counted : (from : Option (List ℕ))
            → IfSome from (λ bytes. (after.segments ≡ found_for splitting bytes) × (after.size ≡ size_of bytes) × Appends (contents old) (contents new) (output_for splitting bytes))
            → IfSome from (λ bytes. (tally.segments ≡ found_for splitting bytes) × (tally.size ≡ size_of bytes)
            × Appends (contents old) (contents new) (output_for splitting bytes))
        counted None is = tt
        counted (Some bytes) (is, large, appends) = (count ∙ is, size ∙ large, appends)

    -- the reader fails, or memory for what it gave runs out
    pub begun : (from mid now : Option (List ℕ)) (more : List ℕ) (progress : Progress) (old out new : O) → IsUnderWay splitting contents from mid progress old out → Consumes mid now more → new ≡ out
        → (new ≡ old) ⊎ IsBegun splitting from now (contents old) (contents new)
    begun from mid now more progress old out new (done, read, cut) gave same =
        elim cut [
          | inl (none, at, nowhere, nothing, unwritten) ↦ inl (same ∙ unwritten)
          | inr (output, far) ↦ inr (on output far)
        ]
      where
        held : List ℕ
        held = progress.held.items

        on : (output : List ℕ) → SoFar splitting done output progress (contents old) (contents out) → IsBegun splitting from now (contents old) (contents new)
        on output far = record {
          parts = done;
          rest = held ++ more;
          output = output;
          whole = far.whole;
          read = subst (Consumes from now) (append_assoc done held more) (Consumes-trans from mid now (done ++ held) more read gave);
          written = rw same far.written;
          begins = λ later. (rest_output printing progress.made (text_of ((held ++ more) ++ later)), all later);
          goes_on = λ later known.
              all later ∙ ap (λ (lines : List ℕ). output ++ lines) (sym (output-rest printing progress.made (text_of ((held ++ more) ++ later)) known))
              ∙ ap (λ (made : ℕ). output ++ printed_behind printing made (text_of ((held ++ more) ++ later))) far.made;
        }
          where
            all : (later : List ℕ) → output_for splitting ((done ++ (held ++ more)) ++ later) ≡ output ++ rest_output printing progress.made (text_of ((held ++ more) ++ later))
            all later =
                ap (output_for splitting) (append_assoc done (held ++ more) later ∙ ap (λ (bytes : List ℕ). done ++ bytes) (append_assoc held more later)) ∙ far.goes_on (more ++ later)
                ∙ ap (λ (bytes : List ℕ). output ++ rest_output printing progress.made (text_of bytes)) (sym (append_assoc held more later))

pub keeps-nothing : (old new : Option (List ℕ)) → Keeps old new → Consumes old new []
keeps-nothing None new keeps = tt
keeps-nothing (Some xs) None keeps = absurd keeps
keeps-nothing (Some xs) (Some ys) keeps = sym keeps

pub unless-ok : {P : Type 0} (r : Result Tally Fault) → P → IfErr r (λ fault. IsReadFault fault → P)
unless-ok (Ok tally) is = tt
unless-ok (Err fault) is = λ of_reader. is

pub where-read : {P Q : Type 0} (r : Result Tally Fault) → (P → Q) → IfErr r (λ fault. IsReadFault fault → P) → IfErr r (λ fault. IsReadFault fault → Q)
where-read (Ok tally) leads is = tt
where-read (Err fault) leads is = λ of_reader. leads (is of_reader)

-- ---- a block that has whole lines or paragraphs

pub where-ok : {X P Q : Type 0} (r : Result X Fault) → (P → Q) → OnOk r P → OnOk r Q
where-ok (Ok x) leads is = leads is
where-ok (Err fault) leads is = tt

pub where-all : {X P Q R S : Type 0} (r : Result X Fault) → (P → Q → R → S) → OnOk r P → OnOk r Q → OnOk r R → OnOk r S
where-all (Ok x) leads one other third = leads one other third
where-all (Err fault) leads one other third = tt

pub none-of : {X : Type 0} (found : Option X) → is_some found ≡ false → found ≡ None
none-of None is = refl
none-of (Some x) is = absurd (true≢false is)

-- a block is added to what is held, and all up to a certain place is written
pub added-amid : (splitting : Splitting) (block held : List ℕ) (place count : ℕ) (size : Size) (before one after : Progress) (IsUnwritten : Type 0) (old new : Option (List ℕ))
    (segmenter : Bor TextSegmenter) (style : Style) (file : Option (Bor (List ℕ))) → splitting.printing ≡ Segments segmenter style file
    → splitting.preparation.tabs ≡ None → splitting.preparation.joins ≡ false → place ≤ length held → SplitsAt (boundaries_by segmenter.now) held place
    → IsCover 0 (length held) (boundaries_by segmenter.now held) → held ≡ before.held.items ++ block
    → one.held.items ≡ drop place held → after.held ≡ one.held → one.size ≡ before.size → one.made ≡ before.made → one.segments ≡ before.segments → size ≡ size_of (take place held)
    → (count ≡ length (segments_to segmenter.now place held)) × Appends old new (lines_at (look_by style file) one.made held (segments_to segmenter.now place held))
    → after.size ≡ both_sizes one.size size → after.made ≡ one.made + place → after.segments ≡ one.segments + count
    → IsAdded splitting block before after IsUnwritten old new
added-amid splitting block held place count size before one after IsUnwritten old new segmenter style file is unspaced unjoined within splits cover all rest kept size-is made-is count-is front printed
    after_size after_made after_count =
    let front_written : IsFrontWritten splitting held before after old new = record {
      segmenter = segmenter;
      style = style;
      file = file;
      segments = is;
      unspaced = unspaced;
      unjoined = unjoined;
      place = place;
      within = within;
      splits = splits;
      cover = cover;
      held = ap (λ (held : Vec ℕ Global). held.items) kept ∙ rest;
      size = after_size ∙ ap₂ (λ (one other : Size). both_sizes one other) size-is front;
      made = after_made ∙ ap (λ (n : ℕ). n + place) made-is;
      count = after_count ∙ ap₂ (λ (n m : ℕ). n + m) count-is printed.0;
      written = subst (λ (made : ℕ). Appends old new (lines_at (look_by style file) made held (segments_to segmenter.now place held))) made-is printed.1;
    } in
    inr (inr (subst (λ (bytes : List ℕ). IsFrontWritten splitting bytes before after old new) all front_written))

pub added : (splitting : Splitting) (block part whole rest none : List ℕ) (size : ℕ) (before one after : Progress) (IsUnwritten : Type 0) (old new : Option (List ℕ))
    → AreWhole splitting.preparation.joins (take size block) → whole ≡ take size block → rest ≡ drop size block
    → part ≡ before.held.items ++ whole → none ≡ [] → after.held.items ≡ none ++ rest
    → one.size ≡ before.size → one.made ≡ before.made → one.segments ≡ before.segments
    → IsPartWritten splitting part one after old new → IsAdded splitting block before after IsUnwritten old new
added splitting block part whole rest none size before one after IsUnwritten old new is front back part-is none-is held-is at nowhere count written =
    inr (inl (
      part,
      subst (AreWhole splitting.preparation.joins) (sym part-is) (whole-more splitting.preparation.joins before.held.items whole (subst (AreWhole splitting.preparation.joins) (sym front) is)),
      ap (λ (bytes : List ℕ). before.held.items ++ bytes) (sym (take-append-drop size block) ∙ ap₂ (λ (one other : List ℕ). one ++ other) (sym front) (sym back))
          ∙ sym (append_assoc before.held.items whole rest)
          ∙ ap₂ (λ (one other : List ℕ). one ++ other) (sym part-is) (sym (held-is ∙ ap (λ (bytes : List ℕ). bytes ++ rest) none-is)),
      record {
        cover = written.cover;
        size = written.size ∙ ap (λ (size : Size). both_sizes size (size_of part)) at;
        made = written.made ∙ ap (λ (n : ℕ). n + length (text_for splitting part)) nowhere;
        count = written.count ∙ ap (λ (n : ℕ). n + found_for splitting part) count;
        written = subst (λ (made : ℕ). Appends old new (printed_behind splitting.printing made (text_for splitting part))) nowhere written.written;
      },
    ))
