-- The key, and then the text, which is whole in UTF-8.
use Rattle.std.proofs.lemmas.Str.{utf8_lossy-IsUtf8}
use Rattle.segment_output.proofs.WrittenTokens.{adds-two}
use Rattle.segment_output.proofs.objects.push_text.Goals as goal

pub returns-in-Ok : goal.returns-in-Ok
returns-in-Ok c =
    let (same, is) = c.in-Ok.ensures.cases in
    rw (utf8_lossy-IsUtf8 c.args.text.now is, ← same) (adds-two _ _ _ _ _ _ _ _ c.in_ok-key.was c.key.ensures c.string.ensures)
