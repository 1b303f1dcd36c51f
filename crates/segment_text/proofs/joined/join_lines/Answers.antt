-- White space at the start stays, and then each word and the white space after it are written.
use Rattle.std.proofs.Common.{sym, ◌∙◌}
use Rattle.segment_text.proofs.Words.{ends, starts, step}
use Rattle.segment_text.proofs.joined.join_lines.Goals as goal

pub loop-rest-init : goal.loop-rest-init
loop-rest-init c = starts _ _ _ _ _ _ _ c.new-paragraphs.ensures.items c.space_len-indented.ensures.value c.split_at.ensures.front c.split_at.ensures.back c.line_behind-line.ensures
    c.in_ok-extend_from_slice.ensures.items

pub loop-rest-preserved : goal.loop-rest-preserved
loop-rest-preserved c =
    step _ _ _ _ _ _ _ _ _ _ _ _ _ _ c.loop-rest.invariant c.word_len.ensures.value c.split_at-in-loop-rest.ensures.front c.split_at-in-loop-rest.ensures.back c.space_len-gap.ensures.value
    c.split_at-in-loop-rest-2.ensures.front c.split_at-in-loop-rest-2.ensures.back c.line_behind-following.ensures c.joined_space.ensures c.in_ok-extend_from_slice-2.ensures.items
    c.in_ok-extend_from_slice-3.ensures.items

pub returns : goal.returns
returns c = ends _ _ _ _ c.loop-rest.invariant (sym c.is_empty.ensures ∙ c.loop-rest-test.false)
