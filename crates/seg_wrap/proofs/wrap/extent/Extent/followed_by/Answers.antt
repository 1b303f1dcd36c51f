use Rattle.std.proofs.Common.{rules}
use Rattle.seg_wrap.proofs.Extents.{followed-trailing, followed-standing}
use Rattle.seg_wrap.proofs.wrap.extent.Extent.followed_by.Goals as goal

pub returns-then-is_trailing_space : goal.returns-then-is_trailing_space
returns-then-is_trailing_space c = followed-trailing c.args.self c.args.code_point _ c.width_of.ensures.value (search rules)

pub returns : goal.returns
returns c = followed-standing c.args.self c.args.code_point _ c.width_of.ensures.value (search rules)
