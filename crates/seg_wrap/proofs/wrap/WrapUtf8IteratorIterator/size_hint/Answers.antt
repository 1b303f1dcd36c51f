use Rattle.seg_wrap.proofs.Hints.{hint-lower, hint-upper}
use Rattle.seg_wrap.proofs.wrap.WrapUtf8IteratorIterator.size_hint.Goals as goal

pub returns-clause-lower : goal.returns-clause-lower
returns-clause-lower c _ = hint-lower c.args.self.now.bytes.now c.args.self.now.lines _ c.size_hint.ensures.lower

pub returns-clause-upper : goal.returns-clause-upper
returns-clause-upper c = hint-upper c.args.self.now.bytes.now c.args.self.now.lines _ c.size_hint.ensures.upper
