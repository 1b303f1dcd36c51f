use Rattle.std.proofs.Common.{ap, ◌∙◌, List, ℕ}
use Rattle.seg_hyphens.specs.Texts.{pattern_of}
use Rattle.seg_hyphens.proofs.Said.{keeps-pattern}
use Rattle.seg_hyphens.proofs.reading.Reader.add.Goals as goal

pub returns-clause-keeps : goal.returns-clause-keeps
returns-clause-keeps c = λ patterns keeps.
    keeps-pattern _ _ patterns c.args.self.now.line.items _ _ c.in_ok-add.ensures.adds
    (c.as_slice-2.ensures.value ∙ c.in_ok-read_pattern.ensures.letters ∙ ap (λ (line : List ℕ). (pattern_of 0 line).letters) c.as_slice.ensures.value)
    (c.as_slice-3.ensures.value ∙ c.in_ok-read_pattern.ensures.digits ∙ ap (λ (line : List ℕ). (pattern_of 0 line).digits) c.as_slice.ensures.value) keeps
