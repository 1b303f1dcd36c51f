use Rattle.seg_text.proofs.Str.{utf8_items-well_formed, utf8_items-characters}
use Rattle.seg_text.proofs.laws.str_is_well_formed.Goals as goal

pub returns : goal.returns
returns c = record {
  well_formed = utf8_items-well_formed 0 _ c.utf8.text;
  characters = utf8_items-characters 0 _ c.utf8.text;
}
