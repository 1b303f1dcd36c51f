use Rattle.std.proofs.Common.{sym, subst}
use Rattle.seg_data.specs.WordSets.{Words}
use Rattle.seg_segments.specs.InLines.{AreInLines}
use Rattle.seg_segments.proofs.suppress.abbreviations.Abbreviations.cursor.Goals as goal

pub returns-clause-in_lines : goal.returns-clause-in_lines
returns-clause-in_lines c = subst (λ (words : Words). AreInLines words) (sym c.cursor.ensures) c.args.self.now.in_lines
