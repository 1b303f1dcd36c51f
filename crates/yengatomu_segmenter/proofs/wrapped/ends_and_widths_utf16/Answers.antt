use Rattle.std.proofs.Common.{ℕ, List, length, sym, subst}
use Rattle.std.specs.Prelude.{min}
use Rattle.icu_segmenter.specs.Decoding.{utf16}
use Rattle.icu_segmenter.specs.Filled.{TakesFirst}
use Rattle.icu_segmenter.proofs.Filling.{nothing}
use Rattle.yengatomu_segmenter.proofs.Lines.{ends-none}
use Rattle.yengatomu_segmenter.proofs.wrapped.ends_and_widths_utf16.Goals as goal

pub returns-in-None-clause-lines : goal.returns-in-None-clause-lines
returns-in-None-clause-lines c =
    subst (λ (all : List ℕ). TakesFirst (min (length c.args.ends.now) (length c.args.widths.now)) all c.args.ends.now c.args.ends.now 0)
    (sym (ends-none c.args.from _ (c.in-None.ensures.lines utf16 c.args.columns c.args.text.now c.args.from))) (nothing _ _)
