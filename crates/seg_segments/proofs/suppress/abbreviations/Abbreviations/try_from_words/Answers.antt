use Rattle.std.proofs.lemmas.Bool.{not-true}
use Rattle.seg_segments.proofs.suppress.abbreviations.Abbreviations.try_from_words.Goals as goal

pub invariant_of-result : goal.invariant_of-result
invariant_of-result c = record {
  in_lines = λ word has. c.have_line_feed.ensures.none c.if-have_line_feed.false word ((c.in-Ok.ensures.words word).0 has);
  without_spaces = λ is word has. c.have_space-spaceless.ensures (not-true _ is) word ((c.in-Ok.ensures.words word).0 has);
}

pub returns-in-Ok-clause-made : goal.returns-in-Ok-clause-made
returns-in-Ok-clause-made c = (c.in-Ok.ensures.words, c.have_line_feed.ensures.none c.if-have_line_feed.false)

pub returns-in-Err-clause-rejected : goal.returns-in-Err-clause-rejected
returns-in-Err-clause-rejected c = c.have_line_feed.ensures.none c.if-have_line_feed.false
