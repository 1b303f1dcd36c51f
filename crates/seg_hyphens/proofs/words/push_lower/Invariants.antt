use Rattle.std.proofs.Common.{length, encode_utf8_all, ◌≡◌, ◌++◌, string_bytes}
use Rattle.seg_text.specs.Items.{code_points}
use Rattle.seg_hyphens.specs.Words.{lowered}
use Rattle.seg_hyphens.proofs.words.push_lower.Given as goal

-- what was read and what is left make up the word
abbrev pub invariant-items : goal.invariant-items
invariant-items g l = record {
  sum : string_bytes l.lower ++ encode_utf8_all (lowered (code_points (g.I.Cursor.text l.rest).items)) ≡ string_bytes l.fn.lower ++ encode_utf8_all (lowered (code_points (g.I.Cursor.text l.word).items));
}

abbrev pub decreases-items : goal.decreases-items
decreases-items g l = length (g.I.Cursor.text l.rest).items
