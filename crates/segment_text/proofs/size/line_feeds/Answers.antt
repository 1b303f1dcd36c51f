-- Each place that is found holds a line feed.
use Rattle.std.proofs.Common.{List, ℕ, length, ap, ◌∙◌}
use Rattle.icu_segmenter.proofs.Callers.{given-is_left}
use Rattle.segment_text.proofs.LineFeeds.{places-are}
use Rattle.segment_text.proofs.size.line_feeds.Goals as goal

pub returns-clause-value : goal.returns-clause-value
returns-clause-value c =
    let given = c.count.ensures.ran in
    given.2 ∙ ap length (given-is_left (λ (rest : List ℕ). rest) _ given.0 given.1 ∙ c.memchr_iter.ensures.value) ∙ places-are c.args.text.now
