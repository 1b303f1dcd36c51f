use Rattle.std.proofs.Common.{ap, ◌∙◌, ◌++◌, List, ℕ, get_or}
use Rattle.std.specs.Char.{encode_utf8}
use Rattle.seg_hyphens.proofs.Said.{encodes-more}
use Rattle.seg_hyphens.proofs.reading.decode_latin1.Goals as goal

pub loop-byte-preserved : goal.loop-byte-preserved
loop-byte-preserved c =
    c.in_ok-push_latin1.ensures ∙ ap (λ (xs : List ℕ). xs ++ encode_utf8 (get_or c.args.line.now c.loop-byte.byte-index 0)) c.loop-byte.invariant
    ∙ encodes-more c.args.line.now c.loop-byte.byte-index c.loop-byte-test.true
