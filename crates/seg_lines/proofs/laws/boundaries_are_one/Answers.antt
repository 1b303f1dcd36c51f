use Rattle.std.proofs.Common.{sym, subst}
use Rattle.seg_clusters.specs.Payloads.{payloads_of}
use Rattle.seg_machine.specs.Tailored.{machine_of}
use Rattle.seg_lines.specs.declared.finder.Finder.{Finder}
use Rattle.seg_lines.specs.LineBreaks.{HasOneList}
use Rattle.seg_lines.specs.Lines.{finder_of}
use Rattle.seg_lines.proofs.LineLaws.{one-by, one-by-machine}
use Rattle.seg_lines.proofs.laws.boundaries_are_one.Goals as goal

pub returns-in-Machine : goal.returns-in-Machine
returns-in-Machine c =
    let payloads = payloads_of c.args.segmenter.payloads in
    subst (λ (finder : Finder). HasOneList (record { finder = finder_of finder; payloads = payloads })) (sym c.in-Machine.is)
    (one-by-machine (machine_of c.in-Machine.machine) payloads c.facts-in-Machine.ensures c.facts.ensures.pieces)

pub returns-in_default : goal.returns-in_default
returns-in_default c = one-by c.args.segmenter.finder (payloads_of c.args.segmenter.payloads) c.in_default.not-Machine
