use Rattle.std.proofs.Common.{◌≡◌, ◌+◌, ◌-◌, refl, arith}
use Rattle.worked_rows.proofs.items.slice_in.Goals as goal

pub slice-requires : goal.slice-requires
slice-requires g c κs =
    let parts : c.args.from + (c.args.to - c.args.from) ≡ c.args.to = omega (arith, c.requires) in
    ((refl, tt), (c.args.from, c.args.to - c.args.from, c.place_after-start.ensures, rw parts c.place_after-stop.ensures))
