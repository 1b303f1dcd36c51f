-- As `position` finds it.
use Rattle.std.proofs.lemmas.Iterator.{YieldsList-from_slice}
use Rattle.std.proofs.lemmas.Iterator.Search.{position_from_yields_List}
use Rattle.std.proofs.Common.{rules, tests}
use Rattle.std.specs.Prelude.{string_bytes}
use Rattle.segment_arguments.specs.Columns.{ends_options}
use Rattle.segment_arguments.proofs.Splitting.{first-of, all-first}
use Rattle.segment_arguments.proofs.options.Goals as goal

pub returns-in-Some : goal.returns-in-Some
returns-in-Some c =
    first-of (λ word. ends_options (string_bytes word)) c.args.words.now _
    (position_from_yields_List (λ word. ends_options (string_bytes word)) _ _ _ c.position.ensures.ran (YieldsList-from_slice c.args.words.now cc) (λ x b q k. search (rules, tests)))
    _ c.in-Some.is

pub returns-in-None : goal.returns-in-None
returns-in-None c =
    all-first (λ word. ends_options (string_bytes word)) c.args.words.now _
    (position_from_yields_List (λ word. ends_options (string_bytes word)) _ _ _ c.position.ensures.ran (YieldsList-from_slice c.args.words.now cc) (λ x b q k. search (rules, tests)))
    c.in-None.is
