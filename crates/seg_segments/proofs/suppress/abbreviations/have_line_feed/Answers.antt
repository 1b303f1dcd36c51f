use Rattle.std.proofs.Common.{ℕ, ◌<◌, List, get_or, length, Contains, sym, ◌∙◌, arith}
use Rattle.std.specs.Borrow.{Bor}
use Rattle.std.specs.Str.{chars}
use Rattle.std.proofs.lemmas.Bool.{false≢true}
use Rattle.std.proofs.lemmas.List.{get_or-map, length-map}
use Rattle.seg_data.specs.WordSets.{code_points_of_each}
use Rattle.seg_segments.specs.InLines.{AreInLines}
use Rattle.seg_segments.proofs.EachWord.{each-more, each-taken}
use Rattle.seg_segments.proofs.suppress.abbreviations.have_line_feed.Goals as goal

not-in-lines : (words : List (Bor (List ℕ))) (i : ℕ) (d : Bor (List ℕ)) → i < length words → Contains (chars (get_or words i d).now) 10
    → AreInLines (code_points_of_each words) → ⊥
not-in-lines words i d inside has in_lines =
    let word : List ℕ = chars (get_or words i d).now in
    in_lines word (i, omega (arith, inside, length-map words (λ (text : Bor (List ℕ)). chars text.now)), get_or-map (λ (text : Bor (List ℕ)). chars text.now) words i d word inside) has

pub returns-then-has_line_feed-clause-some : goal.returns-then-has_line_feed-clause-some
returns-then-has_line_feed-clause-some c is =
    not-in-lines c.args.words.now c.loop-word.word-index _ c.loop-word-test.true (c.has_line_feed.ensures.0 c.if-has_line_feed.true)

pub loop-word-preserved : goal.loop-word-preserved
loop-word-preserved c =
    each-more (λ (word : List ℕ). Contains word 10 → ⊥) c.args.words.now c.loop-word.word-index _ c.loop-word-test.true c.loop-word.invariant
    (λ has. false≢true (sym c.if-has_line_feed.false ∙ c.has_line_feed.ensures.1 has))

pub returns-clause-none : goal.returns-clause-none
returns-clause-none c is =
    each-taken (λ (word : List ℕ). Contains word 10 → ⊥) c.args.words.now c.loop-word.word-index (omega (arith, c.loop-word-test.false, c.loop-word.auto.word-index-end)) c.loop-word.invariant
