use Rattle.std.proofs.Common.{sym, ◌∙◌, map-id}
use Rattle.std.proofs.lemmas.Iterator.{YieldsList-from_chars}
use Rattle.std.proofs.lemmas.Iterator.Consumers.{YieldsList-end}
use Rattle.seg_data.proofs.provider.dictionary.sorting.characters_of.Goals as goal

-- What the iterator has given at its end are all characters of the word.
pub returns : goal.returns
returns c =
    let end = YieldsList-end (YieldsList-from_chars c.args.word.now c.utf8.word cc) c.loop-character.yielded _ c.loop-character.yielded_by _ _ c.in-None.is c.next.ensures.steps in
    c.loop-character.invariant ∙ sym (map-id c.loop-character.yielded) ∙ end.0
