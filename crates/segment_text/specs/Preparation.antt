-- What is done to a text before its segments or its wrapped lines are found.
use Rattle.std.specs.Prelude.{ℕ, List, if◌then◌else◌}
use Rattle.std.specs.Option.{option_map_or}
use Rattle.segment_text.specs.Joined.{joined}
use Rattle.segment_text.specs.Tabs.{expanded}
use Rattle.segment_text.specs.declared.preparation.Preparation.{Preparation}

-- a text after it: its tabs are spaces, and then its lines are joined
abbrev pub prepared : Preparation → List ℕ → List ℕ
prepared preparation bytes =
    let spaced = option_map_or (λ columns. expanded columns bytes) preparation.tabs bytes in
    if preparation.joins then joined spaced else spaced
