use Rattle.seg_rules.proofs.Adequacy.{row-fits}
use Rattle.seg_rules.proofs.laws.row_fits_by_patterns.Goals as goal

pub returns : goal.returns
returns c = row-fits
