-- The words are what the chain gives.
use Rattle.std.proofs.Common.{ℕ, List, ◌==◌, not, length, rules, tests}
use Rattle.std.proofs.lemmas.Iterator.{YieldsList-from_map_by}
use Rattle.std.proofs.lemmas.Iterator.Consumers.{YieldsList-at, YieldsList-from_filter, map_from_collect}
use Rattle.std.proofs.lemmas.Iterator.Splits.{YieldsList-from_lines}
use Rattle.std.specs.Str.{trim}
use Rattle.segment.proofs.words.words_in.Goals as goal

pub returns : goal.returns
returns c =
    let lines = YieldsList-at c.map.ensures.source (YieldsList-from_lines c.args.list.now c.lines.ensures.rest) in
    let trimmed =
    YieldsList-at c.filter.ensures.source (YieldsList-from_map_by _ (λ word. word.now) trim lines c.map.ensures.closure (λ x r q k. search (rules, tests))) in
    map_from_collect _ c.collect.ensures.ran
    (YieldsList-from_filter _ (λ (word : List ℕ). not (length word == 0)) trimmed c.filter.ensures.closure (λ x b q k. search (rules, tests)))
