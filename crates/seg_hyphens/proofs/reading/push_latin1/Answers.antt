use Rattle.std.proofs.Common.{rules, sym, ap, ◌∙◌, ◌++◌, List, ℕ}
use Rattle.seg_hyphens.proofs.Said.{encode-latin1}
use Rattle.seg_hyphens.proofs.reading.push_latin1.Goals as goal

pub returns : goal.returns
returns c = c.in_ok-extend_from_slice.ensures.items ∙ ap (λ (xs : List ℕ). c.args.buffer.now.items ++ xs) (sym (encode-latin1 c.args.byte c.if-byte-lt128.false (search rules)))
