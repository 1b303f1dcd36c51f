-- What comes next in a line.
use Rattle.std.specs.Prelude.{ℕ, Bool, false, ◌||◌, ◌==◌, if◌then◌else◌, Option, Some, None, List, [], ◌∷◌}
use Rattle.seg_rules.specs.declared.rules.Count.{Count}
use Rattle.seg_rules.specs.declared.rules.Count.TheVariants.{One, Optional, Star}

-- a space, a tab, or the return before the end of a line
abbrev pub begins_blank : List ℕ → Bool
begins_blank [] = false
begins_blank (c ∷ cs) = (c == 32) || ((c == 9) || (c == 13))

-- what is left behind blanks
unfoldable pub past_blanks : List ℕ → List ℕ
past_blanks [] = []
past_blanks (c ∷ cs) = if begins_blank (c ∷ cs) then past_blanks cs else c ∷ cs

abbrev pub begins_with : ℕ → List ℕ → Bool
begins_with wanted [] = false
begins_with wanted (c ∷ cs) = c == wanted

-- * is any number of times, ? at most once, and nothing is once
abbrev pub count_at : List ℕ → Count
count_at rest = if begins_with 42 rest then Star else (if begins_with 63 rest then Optional else One)

-- × joins, ÷ is a boundary of status 0, and ! one of status 1
abbrev pub verdict_at : List ℕ → Option ℕ
verdict_at rest =
    if begins_with 215 rest
    then Some 0
    else (if begins_with 247 rest then Some 1 else (if begins_with 33 rest then Some 2 else None))
