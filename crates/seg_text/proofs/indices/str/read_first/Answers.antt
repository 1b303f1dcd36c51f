use Rattle.seg_text.proofs.Str.{first-read}
use Rattle.seg_text.proofs.indices.str.read_first.Goals as goal

pub returns : goal.returns
returns c =
    first-read _ _ _ _ _ c.utf8.text c.chars-characters.ensures.rest c.in-Some.ensures.steps.0 c.as_str.ensures
