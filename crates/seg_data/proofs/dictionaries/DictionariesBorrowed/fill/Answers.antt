use Rattle.seg_data.proofs.Filling.{borrowed-filled}
use Rattle.seg_data.proofs.dictionaries.DictionariesBorrowed.fill.Goals as goal

pub returns : goal.returns
returns c =
    rw (c.or-self.ensures, c.or-self-2.ensures, c.or-self-3.ensures, c.or-self-4.ensures, c.or-self-5.ensures) (borrowed-filled c.args.self.now c.args.others)
