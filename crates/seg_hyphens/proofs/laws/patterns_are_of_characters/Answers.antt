use Rattle.seg_hyphens.proofs.Letters.{pattern-bytes, pattern-whole}
use Rattle.seg_hyphens.proofs.laws.patterns_are_of_characters.Goals as goal

pub returns-clause-in_bytes : goal.returns-clause-in_bytes
returns-clause-in_bytes c = pattern-bytes 0

pub returns-clause-whole : goal.returns-clause-whole
returns-clause-whole c = pattern-whole
