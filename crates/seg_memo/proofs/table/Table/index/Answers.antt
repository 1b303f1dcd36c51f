use Rattle.std.proofs.Common.{arith}
use Rattle.seg_memo.specs.Grids.{number}
use Rattle.seg_memo.proofs.Cells.{part-less}
use Rattle.seg_memo.proofs.table.Table.index.Goals as goal

pub overflow_mul-result : goal.overflow_mul-result
unfolding number
overflow_mul-result c = omega (arith, c.requires.fits, part-less c.args.self.now c.args.here c.requires)

pub overflow_add-result : goal.overflow_add-result
unfolding number
overflow_add-result c = omega (arith, c.requires.fits, part-less c.args.self.now c.args.here c.requires)

pub overflow_mul-result-2 : goal.overflow_mul-result-2
unfolding number
overflow_mul-result-2 c = omega (arith, c.requires.fits)

pub overflow_add-result-2 : goal.overflow_add-result-2
unfolding number
overflow_add-result-2 c = omega (arith, c.requires.fits)

pub overflow_sub-result : goal.overflow_sub-result
unfolding number
overflow_sub-result c = c.requires.first

pub returns : goal.returns
unfolding number
returns c = record { number = omega (arith, c.requires.first); room = omega (arith, c.requires.room); fits = omega (arith, c.requires.first, c.requires.fits) }
