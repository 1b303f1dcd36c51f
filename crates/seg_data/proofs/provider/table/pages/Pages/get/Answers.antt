use Rattle.std.proofs.Common.{◌/◌, ◌<◌, length, arith}
use Rattle.seg_data.proofs.Paged.{paged-within}
use Rattle.seg_data.proofs.provider.table.pages.Pages.get.Goals as goal

pub index-requires-then-page-len : goal.index-requires-then-page-len
index-requires-then-page-len c =
    let pages = c.args.self.now.numbers.ok.0 in
    let values = c.args.self.now.values.ok.0 in
    let within : c.args.code_point / 128 < length c.args.self.now.numbers.items = omega arith in
    let there = paged-within _ _ _ c.args.code_point _ c.requires.1 within c.index.ensures in
    omega arith
