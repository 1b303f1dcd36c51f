use Rattle.seg_data.proofs.Paged.{none-are-pages}
use Rattle.seg_data.proofs.provider.table.ClassTable.try_from_ranges.Goals as goal

pub invariant_of-result : goal.invariant_of-result
invariant_of-result c = (
  rw (← c.as_slice.ensures.value) c.in_ok-check_ranges.ensures.accepted,
  rw (← c.as_slice-2.ensures.value) c.ascii_values-ascii.ensures,
  none-are-pages _ _ _ c.none-pages.ensures.numbers,
)
