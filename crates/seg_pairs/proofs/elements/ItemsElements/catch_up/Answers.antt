use Rattle.std.proofs.Common.{◌∙◌, ap}
use Rattle.seg_text.specs.Items.{Text}
use Rattle.seg_pairs.proofs.ItemElements.{later-place, later-left}
use Rattle.seg_pairs.proofs.elements.ItemsElements.catch_up.Goals as goal

pub seek-requires : goal.seek-requires
seek-requires g c =
    let text = g.I.Cursor.text c.args.self.now.cursor in
    let rest = g.I.Cursor.text c.args.other.cursor in
    (c.requires.later.0, c.place.ensures ∙ later-place c.args.self.now.pairs c.args.other.pairs c.requires.later.0 text rest c.requires.later.1 c.requires.end)

pub returns-clause-left : goal.returns-clause-left
returns-clause-left g c =
    let text = g.I.Cursor.text c.args.self.now.cursor in
    let rest = g.I.Cursor.text c.args.other.cursor in
    let here = c.place.ensures ∙ later-place c.args.self.now.pairs c.args.other.pairs c.requires.later.0 text rest c.requires.later.1 c.requires.end in
    later-left c.args.self.now.pairs c.args.other.pairs c.requires.later.0 text rest c.requires.later.1 _ (c.seek.ensures c.requires.later.0 here)

pub returns-clause-end : goal.returns-clause-end
returns-clause-end g c =
    let text = g.I.Cursor.text c.args.self.now.cursor in
    let rest = g.I.Cursor.text c.args.other.cursor in
    let here = c.place.ensures ∙ later-place c.args.self.now.pairs c.args.other.pairs c.requires.later.0 text rest c.requires.later.1 c.requires.end in
    ap (λ (text : Text). text.end) (c.seek.ensures c.requires.later.0 here)
