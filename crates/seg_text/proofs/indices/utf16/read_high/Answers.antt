use Rattle.std.proofs.Common.{arith}
use Rattle.seg_text.proofs.Utf16.{lone-at, pair-at}
use Rattle.seg_text.proofs.indices.utf16.read_high.Goals as goal
use Rattle.seg_text.proofs.indices.utf16.read_high.Goals.{then-units-lt2-via-then-units-lt2, then-units-lt2-via-else-units-lt2+then-units}

pub returns-then-units-lt2 : goal.returns-then-units-lt2
returns-then-units-lt2 c =
    lone-at _ c.requires (λ two low. elim c.then-units-lt2.branch [
      | then-units-lt2-via-then-units-lt2 w ↦ omega (arith, two, w.if-units-lt2.true)
      | then-units-lt2-via-else-units-lt2+then-units w ↦ w.if-units.true low
    ])

pub returns : goal.returns
returns c = pair-at _ c.if-units-lt2.false c.requires c.if-units.false
