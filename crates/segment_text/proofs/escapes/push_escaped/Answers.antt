-- What stands before the character, its escape, and what is left.
use Rattle.segment_text.proofs.Escaping.{escaped-turn}
use Rattle.segment_text.proofs.escapes.push_escaped.Goals as goal

pub loop-found-preserved : goal.loop-found-preserved
loop-found-preserved c =
    escaped-turn c.loop-found.rest.now _ _ _ _ c.in-Some.found.code c.in-Some.found.start c.in-Some.found.end
    c.loop-found.invariant c.in-Some.ensures.2 c.in_ok-extend_from_slice.ensures.items c.in_ok-push_escape.ensures
