use Rattle.std.proofs.Common.{◌≡◌, length}
use Rattle.seg_data.specs.Table.{AreBlocks, ArePages, IsPlain, table}
use Rattle.seg_data.proofs.provider.table.pages.Pages.add_all.Given as goal

-- the pages up to here stand
abbrev pub invariant-loop-page : goal.invariant-loop-page
invariant-loop-page l = record {
  count : length l.self.numbers.items ≡ l.page;
  stand : ArePages (table l.ranges l.default) l.self.numbers.items l.self.values.items;
  blocks : AreBlocks l.page l.self.values.items;
  plain : IsPlain l.self.values.items l.plain;
}
