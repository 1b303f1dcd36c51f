use Rattle.std.proofs.Common.{ℕ, List, length, sym, subst}
use Rattle.icu_segmenter.specs.Decoding.{utf16}
use Rattle.icu_segmenter.specs.Filled.{TakesFirst}
use Rattle.icu_segmenter.proofs.Filling.{nothing}
use Rattle.yengatomu_segmenter.proofs.Lines.{ends-none}
use Rattle.yengatomu_segmenter.proofs.wrapped.ends_utf16.Goals as goal

pub returns-in-None : goal.returns-in-None
returns-in-None c =
    subst (λ (all : List ℕ). TakesFirst (length c.args.ends.now) all c.args.ends.now c.args.ends.now 0)
    (sym (ends-none c.args.from _ (c.in-None.ensures.lines utf16 c.args.columns c.args.text.now c.args.from))) (nothing _ _)
