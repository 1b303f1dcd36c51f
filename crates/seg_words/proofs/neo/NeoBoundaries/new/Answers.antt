use Rattle.seg_machine.specs.Tailored.{machine_of}
use Rattle.seg_clusters.specs.Payloads.{payloads_of}
use Rattle.seg_words.proofs.Spans.{spans-cover}
use Rattle.seg_words.proofs.neo.NeoBoundaries.new.Goals as goal

pub returns-clause-cover : goal.returns-clause-cover
returns-clause-cover g c =
    let cover = spans-cover (machine_of c.args.machine) (payloads_of c.args.payloads) c.facts.ensures c.facts-2.ensures.pieces (g.I.Cursor.text c.args.text) (g.met.I.Cursor.rises c.args.text) in
    (c.place.ensures, cover.1)
