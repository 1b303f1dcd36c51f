use Rattle.std.proofs.Common.{rules, refl}
use Rattle.seg_wrap.specs.Walk.{measure_of}
use Rattle.seg_wrap.proofs.Walks.{first-segment}
use Rattle.seg_wrap.proofs.wrap.parts.push_part.Goals as goal

pub returns-clause-part : goal.returns-clause-part
returns-clause-part g c = record {
  added = _;
  pushed = search rules;
  is = first-segment (measure_of c.args.measuring) _ _ _ _ _ _ c.requires.some c.requires.at (c.up_to.ensures _ c.requires.at) c.extent_of-extent.ensures.measured c.extent_of-extent.ensures.small;
  end = refl;
  hyphen = refl;
  mandatory = refl;
}
