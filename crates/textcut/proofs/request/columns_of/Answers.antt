use Rattle.std.proofs.Common.{rules}
use Rattle.textcut.proofs.Columns.{columns-parsed}
use Rattle.textcut.proofs.request.columns_of.Goals as goal

pub returns : goal.returns
returns c = search (rules, columns-parsed c.args.word.now c.if-word-gt-MAX_DIGITS.false (search rules) c.parse.result c.parse.ensures.value.0)
