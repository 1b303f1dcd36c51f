use Rattle.std.proofs.Common.{refl}
use Rattle.seg_memo.proofs.Cells.{new-cell, new-has}
use Rattle.seg_memo.proofs.table.Table.new.Goals as goal

pub returns : goal.returns
returns c = record { unknown = λ x. new-cell _ x c.requires; has = λ x. new-has _ x refl }
