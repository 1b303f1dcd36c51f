use Rattle.seg_text.proofs.StrTiling.{tiling-utf8}
use Rattle.seg_text.proofs.laws.well_formed_is_str.Goals as goal

pub returns : goal.returns
returns c = record { utf8 = λ place bytes items. tiling-utf8 items place bytes }
