use Rattle.std.proofs.Common.{◌≡◌, chars}
use Rattle.seg_notation.specs.Lines.{after_ends}
use Rattle.seg_notation.proofs.text_rules.TextRules.try_from_text.Given as goal

-- what is left are the lines behind those that were read
abbrev pub invariant-loop-before : goal.invariant-loop-before
invariant-loop-before l = l.rest ≡ after_ends l.before (chars l.text)
