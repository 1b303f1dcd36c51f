use Rattle.std.proofs.Common.{◌≡◌, length}
use Rattle.seg_text.specs.Items.{rest_after}
use Rattle.seg_machine.specs.Tailored.{parts_of}
use Rattle.seg_memo.specs.Configurations.{Leads, following, look_up}
use Rattle.seg_memo.specs.Grids.{IsConfigurationOf, IsReadBy, IsUnderWay}
use Rattle.seg_memo.proofs.search.Scanner.go_forward.Given as goal

abbrev pub ghost-look_up : goal.ghost-look_up
ghost-look_up g a = g.named.source

abbrev pub invariant-scan : goal.invariant-scan
invariant-scan g l = record {
  read : IsReadBy g.named.source (parts_of l.self.machine) (g.R.ReadTransitions.states l.self.reader) (g.R.ReadTransitions.transitions l.self.reader);
  walking : IsUnderWay g.named.source.subject l.self.table (g.R.ReadTransitions.counted l.self.reader) g.named.start g.named.last l.fn.first l.here;
  leads : look_up g.named.source.subject l.here ≡ Leads l.next;
  within : IsConfigurationOf g.named.source.subject l.next;
  rest : g.I.Cursor.text l.rest ≡ rest_after l.next.place g.named.source.whole;
}

abbrev pub decreases-scan : goal.decreases-scan
decreases-scan g l = length (following g.named.source.subject l.next)
