use Rattle.std.proofs.Common.{◌+◌, arith}
use Rattle.seg_data.proofs.Paged.{plain-grows}
use Rattle.seg_data.proofs.provider.table.pages.block_of.Goals as goal

pub returns-then-whole-2-clause-blocks : goal.returns-then-whole-2-clause-blocks
returns-then-whole-2-clause-blocks c =
    let total = c.in_ok-push_values.ensures.filled.total in
    let long = c.requires.blocks.1 in
    let most = c.requires.blocks.2 in
    (c.requires.blocks.0 + 1, omega arith, omega arith)

pub returns-else-whole-2-clause-blocks : goal.returns-else-whole-2-clause-blocks
returns-else-whole-2-clause-blocks c =
    let total = c.in_ok-push_values.ensures.filled.total in
    let long = c.requires.blocks.1 in
    let most = c.requires.blocks.2 in
    (c.requires.blocks.0 + 1, omega arith, omega arith)

pub returns-else-whole-2-clause-plain : goal.returns-else-whole-2-clause-plain
returns-else-whole-2-clause-plain c = plain-grows _ _ _ c.push_values.ensures.grows c.requires.plain
