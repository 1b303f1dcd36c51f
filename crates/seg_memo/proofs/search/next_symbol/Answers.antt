use Rattle.std.proofs.Common.{◌∙◌}
use Rattle.seg_memo.proofs.Reading.{reads-item, reads-none}
use Rattle.seg_memo.proofs.search.next_symbol.Goals as goal

pub returns-in-Some : goal.returns-in-Some
returns-in-Some g c =
    let k = reads-item g.source _ c.args.place (c.in-Some.field-0-0, c.in-Some.code_point) _ _ c.requires.1.0 c.requires.1.1.0 c.in-Some.ensures.gives c.in-Some.ensures.end in
    record { symbol = c.symbol.ensures ∙ k.symbol; place = k.place_is; rest = k.rest }

pub returns-in-None : goal.returns-in-None
returns-in-None g c =
    let k = reads-none g.source _ c.args.place _ _ c.requires.1.0 c.requires.1.1.1.0 c.requires.1.1.0 c.in-None.ensures.gives.0 c.in-None.ensures.gives.1 c.in-None.ensures.end in
    record { symbol = k.symbol; place = k.place_is; rest = k.rest }
