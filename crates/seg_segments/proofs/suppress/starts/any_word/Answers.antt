use Rattle.std.proofs.Common.{ℕ, ◌<◌, ◌≤◌, ◌∙◌, subst, sym}
use Rattle.seg_segments.proofs.Reading.{any-here, any-next, any-none, codes-next, codes-none, codes-reached}
use Rattle.seg_segments.proofs.suppress.starts.any_word.Goals as goal

pub loop-words-preserved : goal.loop-words-preserved
loop-words-preserved g c =
    c.loop-words.invariant
    ∙ any-next _ _ _ _ _ _ (codes-next _ _ _ _ _ c.in-Some.ensures.gives (subst (λ (n : ℕ). n < c.args.place) c.place.ensures c.loop-words-test.true))
    (sym c.ends_word.ensures ∙ c.if-ends_word.false) c.is_letter_or_digit-joined.ensures

pub returns-then-ends_word : goal.returns-then-ends_word
returns-then-ends_word g c = sym (c.loop-words.invariant ∙ any-here _ _ _ (sym c.if-ends_word.true ∙ c.ends_word.ensures))

pub returns-in_default : goal.returns-in_default
returns-in_default g c = sym (c.loop-words.invariant ∙ any-none _ _ _ (codes-none _ _ c.in_default.ensures.gives.0))

pub returns : goal.returns
returns g c = sym (c.loop-words.invariant ∙ any-none _ _ _ (codes-reached _ _ _ (subst (λ (n : ℕ). c.args.place ≤ n) c.place.ensures c.loop-words-test.false)))
