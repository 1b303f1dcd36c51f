-- The lines of a text's parts are written, and it may be split at the end of each.
use Rattle.std.proofs.Common.{◌≡◌, ℕ, suc, ◌+◌, ◌<◌, ◌≤◌, ◌⊎◌, inl, inr, Option, List, [], ◌∷◌, ◌++◌, IfSome, length, take, drop, refl, sym, ap, ap₂, subst, ◌∙◌, arith, append-nil, append_assoc, length-append}
use Rattle.std.proofs.lemmas.List.{drop-append-le, drop-drop, length-take, take-append-drop}
use Rattle.std.proofs.KnownBytes.{Consumes-trans, Consumes-whole}
use Rattle.std.proofs.Math.Seq.{drop-append_seam}
use Rattle.std.specs.Io.KnownBytes.{Appends, Consumes, IsAtEnd}
use Rattle.icu_segmenter.specs.Boundary.{Boundary}
use Rattle.icu_segmenter.specs.Boundaries.{IsCover, shift_all}
use Rattle.icu_segmenter.specs.NearBoundaries.{SplitsAt, line_feed, up_to}
use Rattle.icu_segmenter.specs.Rules.{PartsBehind}
use Rattle.seg_text.proofs.Places.{shifted-append, shifted-twice}
use Rattle.segment_text.specs.Blocks.{AreLines}
use Rattle.segment_text.specs.Size.{both_sizes, size_of}
use Rattle.segment_text.specs.declared.size.Size.{Size}
use Rattle.segment_output.specs.Paragraphs.{AppendsSome}
use Rattle.segment_output.specs.Splits.{AreParts, ArePartEnds, EndsPart, IsHeld, IsSplit, last_end, part_line, part_lines}
use Rattle.segment_output.specs.declared.splits.PartLines.{PartLines}
use Rattle.segment_output.proofs.JoinedCuts.{cover-joined, cover-up-to}
use Rattle.segment_output.proofs.SplitText.{sizes-append}

-- ---- lines at the start of some bytes

take-behind : (front rest : List ℕ) (len : ℕ) → take (length front + len) (front ++ rest) ≡ front ++ take len rest
take-behind [] rest len = ap (λ (n : ℕ). take n rest) (omega arith)
take-behind (byte ∷ front) rest len =
    let sum : length (byte ∷ front) + len ≡ suc (length front + len) = omega arith in
    ap (λ (n : ℕ). take n (byte ∷ (front ++ rest))) sum ∙ ap (λ (bytes : List ℕ). byte ∷ bytes) (take-behind front rest len)

lines-behind : (front lines : List ℕ) → AreLines lines → AreLines (front ++ lines)
lines-behind front lines (before, is) = (front ++ before, ap (λ (lines : List ℕ). front ++ lines) is ∙ sym (append_assoc front before line_feed))

lines-to : (bytes front rest : List ℕ) (len : ℕ) → bytes ≡ front ++ rest → AreLines (take len rest) → AreLines (take (length front + len) bytes)
lines-to bytes front rest len halves lines =
    subst AreLines (sym (ap (λ (bytes : List ℕ). take (length front + len) bytes) halves ∙ take-behind front rest len)) (lines-behind front (take len rest) lines)

module _ (find : List ℕ → List Boundary) where
  -- ---- where a text may be split, whatever comes

  pub split-front : (bytes : List ℕ) (place : ℕ) → place ≤ length bytes → IsCover 0 (length bytes) (find bytes) → SplitsAt find bytes place → (more : List ℕ)
      → IsSplit find (bytes ++ more) place
  split-front bytes place within cover splits more = record {
    front = up_to place (find bytes);
    cover = cover-up-to (length bytes) place (find bytes) cover splits.boundary;
    is = splits.parts more ∙ ap (λ (rest : List ℕ). up_to place (find bytes) ++ shift_all place (drop 1 (find rest))) (sym (drop-append-le place bytes more within));
  }

  split-lines : (bytes : List ℕ) (place : ℕ) → place ≤ length bytes → PartsBehind find line_feed → AreLines (take place bytes)
      → IsCover 0 (length (take place bytes)) (find (take place bytes)) → (more : List ℕ) → IsSplit find (bytes ++ more) place
  split-lines bytes place within parts (before, is) cover more =
      let done : List ℕ = take place bytes in
      let rest : List ℕ = drop place (bytes ++ more) in
      let size : length done ≡ place = omega (arith, length-take place bytes, within) in
      let all : bytes ++ more ≡ done ++ rest =
      ap (λ (bytes : List ℕ). bytes ++ more) (sym (take-append-drop place bytes)) ∙ append_assoc done (drop place bytes) more
      ∙ ap (λ (rest : List ℕ). done ++ rest) (sym (drop-append-le place bytes more within)) in
      let are : find (done ++ rest) ≡ find done ++ shift_all (length done) (drop 1 (find rest)) =
      subst (λ (lines : List ℕ). find (lines ++ rest) ≡ find lines ++ shift_all (length lines) (drop 1 (find rest))) (sym is) (parts before rest) in
      record {
        front = find done;
        cover = subst (λ (n : ℕ). IsCover 0 n (find done)) size cover;
        is = ap find all ∙ are ∙ ap (λ (n : ℕ). find done ++ shift_all n (drop 1 (find rest))) size;
      }

  pub split-line : (bytes front rest : List ℕ) (from len : ℕ) → front ≡ take from bytes → rest ≡ drop from bytes → (len ≤ length rest) × AreLines (take len rest) → PartsBehind find line_feed
      → let place = length front + len in IsCover 0 (length (take place bytes)) (find (take place bytes)) → (more : List ℕ) → IsSplit find (bytes ++ more) place
  split-line bytes front rest from len before behind (within, lines) parts cover more =
      let halves : bytes ≡ front ++ rest = sym (ap₂ (λ (front rest : List ℕ). front ++ rest) before behind ∙ take-append-drop from bytes) in
      let order : length front + len ≤ length bytes = omega (arith, within, ap length halves, length-append front rest) in
      split-lines bytes (length front + len) order parts (lines-to bytes front rest len halves lines) cover more

  -- ---- one split behind another

  drop-cover : (end : ℕ) (first second : List Boundary) → IsCover 0 end first → drop 1 (first ++ second) ≡ drop 1 first ++ second
  drop-cover end [] second cover = absurd cover
  drop-cover end (found ∷ first) second cover = refl

  split-twice : (text : List ℕ) (n m : ℕ) → IsSplit find text n → IsSplit find (drop n text) m → IsSplit find text (n + m)
  split-twice text n m one other =
      let rest : List Boundary = drop 1 (find (drop m (drop n text))) in
      let same : drop m (drop n text) ≡ drop (n + m) text = drop-drop m n text in
      let later : shift_all n (drop 1 (find (drop n text))) ≡ shift_all n (drop 1 other.front) ++ shift_all (n + m) rest =
      ap (λ (found : List Boundary). shift_all n (drop 1 found)) other.is
      ∙ ap (shift_all n) (drop-cover m other.front (shift_all m rest) other.cover)
      ∙ shifted-append n (drop 1 other.front) (shift_all m rest)
      ∙ ap (λ (found : List Boundary). shift_all n (drop 1 other.front) ++ found) (shifted-twice n m rest) in
      record {
        front = one.front ++ shift_all n (drop 1 other.front);
        cover = cover-joined n m one.front other.front one.cover other.cover;
        is = one.is ∙ ap (λ (found : List Boundary). one.front ++ found) later
            ∙ sym (append_assoc one.front (shift_all n (drop 1 other.front)) (shift_all (n + m) rest))
            ∙ ap (λ (bytes : List ℕ). (one.front ++ shift_all n (drop 1 other.front)) ++ shift_all (n + m) (drop 1 (find bytes))) same;
      }

  split-behind : (done rest : List ℕ) (place : ℕ) → (done ≡ []) ⊎ IsSplit find (done ++ rest) (length done) → IsSplit find rest place → IsSplit find (done ++ rest) (length done + place)
  split-behind done rest place (inl none) other =
      subst (λ (done : List ℕ). IsSplit find (done ++ rest) (length done + place)) (sym none) (subst (λ (n : ℕ). IsSplit find rest n) (omega arith) other)
  split-behind done rest place (inr one) other =
      split-twice (done ++ rest) (length done) place one (subst (λ (bytes : List ℕ). IsSplit find bytes place) (sym (drop-append_seam done rest)) other)

  module _ (least : ℕ) (file : Option (List ℕ)) where
    -- the ends of parts from one place to another
    abbrev AreEnds : List ℕ → ℕ → List ℕ → ℕ → Type 0
    AreEnds text begin [] last = begin ≡ last
    AreEnds text begin (end ∷ ends) last = (begin < end) × (begin + least ≤ end) × IsSplit find text end × AreEnds text end ends last

    ends-more : (text : List ℕ) (begin : ℕ) (ends : List ℕ) (last next : ℕ) → AreEnds text begin ends last → last < next → last + least ≤ next → IsSplit find text next
        → AreEnds text begin (ends ++ next ∷ []) next
    ends-more text begin [] last next are above enough splits = subst (λ (begin : ℕ). AreEnds text begin (next ∷ []) next) (sym are) (above, enough, splits, refl)
    ends-more text begin (end ∷ ends) last next (rises, far, split, others) above enough splits = (rises, far, split, ends-more text end ends last next others above enough splits)

    ends-whole : (text : List ℕ) (begin : ℕ) (ends : List ℕ) (last : ℕ) (more : List ℕ) → AreEnds text begin ends last → ArePartEnds find least text last more
        → ArePartEnds find least text begin (ends ++ more)
    ends-whole text begin [] last more are others = subst (λ (begin : ℕ). ArePartEnds find least text begin more) (sym are) others
    ends-whole text begin (end ∷ ends) last more (rises, far, split, rest) others = (rises, inr (far, split), ends-whole text end ends last more rest others)

    lines-more : (text : List ℕ) (begin : ℕ) (ends : List ℕ) (last : ℕ) (more : List ℕ) → AreEnds text begin ends last
        → part_lines file begin (ends ++ more) ≡ part_lines file begin ends ++ part_lines file last more
    lines-more text begin [] last more are = ap (λ (begin : ℕ). part_lines file begin more) are
    lines-more text begin (end ∷ ends) last more (rises, far, split, others) =
        ap (λ (lines : List ℕ). part_line file begin end ++ lines) (lines-more text end ends last more others)
        ∙ sym (append_assoc (part_line file begin end) (part_lines file end ends) (part_lines file last more))

    last-ends : (done held : List ℕ) → ArePartEnds find least (done ++ held) (length done) (last_end (length done) held)
    last-ends done [] = ap length (sym (append-nil done))
    last-ends done (byte ∷ held) =
        let all : length done + length (byte ∷ held) ≡ length (done ++ (byte ∷ held)) = sym (length-append done (byte ∷ held)) in
        (omega arith, inl all, all)

    -- ---- parts as they come

    -- the parts so far, whatever comes behind what is held
    pub record SoFar (done : List ℕ) (progress : PartLines) : Type 0 where
      pub before : progress.before ≡ length done
      pub size : progress.size ≡ size_of done
      pub ends : List ℕ
      pub lines : progress.lines.items ≡ part_lines file 0 ends
      pub are : (more : List ℕ) → AreEnds (done ++ (progress.held.items ++ more)) 0 ends (length done)
      pub seam : (more : List ℕ) → (done ≡ []) ⊎ IsSplit find (done ++ (progress.held.items ++ more)) (length done)

    -- what came so far are parts, and what is held
    abbrev pub IsUnderWay : Option (List ℕ) → Option (List ℕ) → PartLines → Type 0
    IsUnderWay from now progress = (done : List ℕ) × Consumes from now (done ++ progress.held.items) × SoFar done progress

    -- all is held
    held-more : (done block : List ℕ) (before after : PartLines) → after.held.items ≡ before.held.items ++ block → after.before ≡ before.before → after.size ≡ before.size
        → after.lines.items ≡ before.lines.items → SoFar done before → SoFar done after
    held-more done block before after held at size lines far = record {
      before = at ∙ far.before;
      size = size ∙ far.size;
      ends = far.ends;
      lines = lines ∙ far.lines;
      are = λ more. subst (λ (bytes : List ℕ). AreEnds (done ++ bytes) 0 far.ends (length done)) (sym (all more)) (far.are (block ++ more));
      seam = λ more. subst (λ (bytes : List ℕ). (done ≡ []) ⊎ IsSplit find (done ++ bytes) (length done)) (sym (all more)) (far.seam (block ++ more));
    }
      where
        all : (more : List ℕ) → after.held.items ++ more ≡ before.held.items ++ (block ++ more)
        all more = ap (λ (bytes : List ℕ). bytes ++ more) held ∙ append_assoc before.held.items block more

    -- one part more
    module _ (done block : List ℕ) (before after : PartLines) (part : EndsPart find least file (before.held.items ++ block) before after) (far : SoFar done before) where
      abbrev front : List ℕ
      front = take part.place (before.held.items ++ block)

      abbrev next : ℕ
      next = length (done ++ front)

      next-sum : next ≡ length done + part.place
      next-sum = omega (arith, length-append done front, length-take part.place (before.held.items ++ block), part.within)

      next-is : before.before + part.place ≡ next
      next-is = omega (arith, far.before, next-sum)

      same-text : (more : List ℕ) → (done ++ front) ++ (after.held.items ++ more) ≡ done ++ (before.held.items ++ (block ++ more))
      same-text more =
          append_assoc done front (after.held.items ++ more)
          ∙ ap (λ (bytes : List ℕ). done ++ bytes)
          (sym (append_assoc front after.held.items more) ∙ ap (λ (held : List ℕ). (front ++ held) ++ more) part.held
          ∙ ap (λ (bytes : List ℕ). bytes ++ more) (take-append-drop part.place (before.held.items ++ block)) ∙ append_assoc before.held.items block more)

      next-splits : (more : List ℕ) → IsSplit find (done ++ (before.held.items ++ (block ++ more))) next
      next-splits more =
          subst (λ (n : ℕ). IsSplit find (done ++ (before.held.items ++ (block ++ more))) n) (sym next-sum)
          (split-behind done (before.held.items ++ (block ++ more)) part.place (far.seam (block ++ more))
          (subst (λ (bytes : List ℕ). IsSplit find bytes part.place) (append_assoc before.held.items block more) (part.splits more)))

      part-more : SoFar (done ++ front) after
      part-more = record {
        before = part.ends ∙ next-is;
        size = part.size ∙ ap (λ (size : Size). both_sizes size (size_of front)) far.size ∙ sym (sizes-append done front);
        ends = far.ends ++ next ∷ [];
        lines = part.lines
            ∙ ap₂ (λ (lines others : List ℕ). lines ++ others) far.lines
            (ap₂ (λ (begin end : ℕ). part_line file begin end) far.before next-is ∙ sym (append-nil (part_line file (length done) next)))
            ∙ sym (lines-more _ 0 far.ends (length done) (next ∷ []) (far.are []));
        are = λ more.
            subst (λ (text : List ℕ). AreEnds text 0 (far.ends ++ next ∷ []) next) (sym (same-text more))
            (ends-more _ 0 far.ends (length done) next (far.are (block ++ more)) (omega (arith, next-sum, part.some)) (omega (arith, next-sum, part.enough)) (next-splits more));
        seam = λ more. inr (subst (λ (text : List ℕ). IsSplit find text next) (sym (same-text more)) (next-splits more));
      }

    pub under-way : (from mid now : Option (List ℕ)) (block : List ℕ) (before after : PartLines) → IsUnderWay from mid before → Consumes mid now block
        → IsHeld find least file (before.held.items ++ block) before after → IsUnderWay from now after
    under-way from mid now block before after (done, read, far) more held =
        elim held [
          | inl (is, at, size, lines) ↦ (
            done,
            subst (λ (bytes : List ℕ). Consumes from now (done ++ bytes)) (sym is) came,
            held-more done block before after is at size lines far,
          )
          | inr part ↦
              let front : List ℕ = take part.place (before.held.items ++ block) in
              let halves : front ++ after.held.items ≡ before.held.items ++ block =
              ap (λ (held : List ℕ). front ++ held) part.held ∙ take-append-drop part.place (before.held.items ++ block) in (
                done ++ front,
                subst (Consumes from now) (ap (λ (bytes : List ℕ). done ++ bytes) (sym halves) ∙ sym (append_assoc done front after.held.items)) came,
                part-more done block before after part far,
              )
        ]
      where
        came : Consumes from now (done ++ (before.held.items ++ block))
        came = subst (Consumes from now) (append_assoc done before.held.items block) (Consumes-trans from mid now (done ++ before.held.items) block read more)

    -- what is held is the last part
    pub all-split : (from mid now : Option (List ℕ)) (read : List ℕ) (before after : PartLines) (old new : Option (List ℕ)) → IsUnderWay from mid before → Consumes mid now read → read ≡ [] → IsAtEnd now
        → after.size ≡ both_sizes before.size (size_of before.held.items)
        → after.lines.items ≡ before.lines.items ++ part_lines file before.before (last_end before.before before.held.items) → Appends old new after.lines.items
        → IfSome from (λ bytes. ◌≡◌ {A = ℕ} 0 0 × (after.size ≡ size_of bytes) × AppendsSome old new (AreParts find least file bytes))
    all-split from mid now read before after old new (done, taken, far) more none end size lines written =
        Consumes-whole from now (done ++ before.held.items) _ all end (
          refl,
          size ∙ ap (λ (size : Size). both_sizes size (size_of before.held.items)) far.size ∙ sym (sizes-append done before.held.items),
          (after.lines.items, (far.ends ++ last_end (length done) before.held.items, are, shown), written),
        )
      where
        all : Consumes from now (done ++ before.held.items)
        all = subst (Consumes from now) (ap (λ (bytes : List ℕ). (done ++ before.held.items) ++ bytes) none ∙ append-nil (done ++ before.held.items))
            (Consumes-trans from mid now (done ++ before.held.items) read taken more)

        so_far : AreEnds (done ++ before.held.items) 0 far.ends (length done)
        so_far = subst (λ (held : List ℕ). AreEnds (done ++ held) 0 far.ends (length done)) (append-nil before.held.items) (far.are [])

        are : ArePartEnds find least (done ++ before.held.items) 0 (far.ends ++ last_end (length done) before.held.items)
        are = ends-whole (done ++ before.held.items) 0 far.ends (length done) (last_end (length done) before.held.items) so_far (last-ends done before.held.items)

        shown : after.lines.items ≡ part_lines file 0 (far.ends ++ last_end (length done) before.held.items)
        shown =
            lines ∙ ap₂ (λ (lines : List ℕ) (n : ℕ). lines ++ part_lines file n (last_end n before.held.items)) far.lines far.before
            ∙ sym (lines-more (done ++ before.held.items) 0 far.ends (length done) (last_end (length done) before.held.items) so_far)
