-- Each call cuts what the one before it left.
use Rattle.std.proofs.Common.{◌==◌, ℕ, List, Some, ap, ◌∙◌}
use Rattle.std.specs.List.{before_first}
use Rattle.std.specs.Str.{str_to_ascii_lowercase}
use Rattle.segment.proofs.command.language_of.Goals as goal

pub returns : goal.returns
returns c =
    let language =
    c.before-language.ensures
    ∙ ap (λ (text : List ℕ). before_first (λ byte. byte == 0x2E) text)
    (c.before-3.ensures ∙ ap (λ (text : List ℕ). before_first (λ byte. byte == 0x5F) text) c.before-2.ensures) in
    rw c.in-Some.is (ap Some (c.in_ok-identifier.ensures ∙ ap str_to_ascii_lowercase language))
