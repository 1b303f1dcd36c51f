-- How large texts are.
use Rattle.std.specs.Prelude.{ℕ, ◌+◌, ◌==◌, List, length, filter}
use Rattle.segment_text.specs.declared.size.Size.{Size}

-- how many line feeds there are
abbrev pub line_feeds : List ℕ → ℕ
line_feeds bytes = length (filter (λ byte. byte == 0x0A) bytes)

-- how many line feeds and bytes a text has
abbrev pub size_of : List ℕ → Size
size_of bytes = record { lines = line_feeds bytes; bytes = length bytes }

-- two texts, one behind the other
abbrev pub both_sizes : Size → Size → Size
both_sizes one other = record { lines = one.lines + other.lines; bytes = one.bytes + other.bytes }
