-- The pieces are the object and a line feed.
use Rattle.std.proofs.Common.{◌++◌, ◌∷◌, [], List, ℕ, true, None, codes, decimal, take, ap, sym, ◌∙◌, append_assoc}
use Rattle.json.specs.Print.{print_from}
use Rattle.json.specs.Token.{end_object}
use Rattle.segment_output.specs.Output.{Segment, mark_tokens}
use Rattle.segment_output.proofs.BareObjects.{bare-object, pieces}
use Rattle.segment_output.proofs.object_pieces.put_pieces.Goals as goal

pub returns-clause-pieces : goal.returns-clause-pieces
returns-clause-pieces c =
    let segment : Segment = record { from = c.args.segment.start; to = c.args.segment.end; mark = c.args.segment.mark } in
    let text : List ℕ = take c.args.text.len c.args.text.bytes.now in
    let last : List ℕ = print_from true (mark_tokens c.args.segment.mark ++ end_object ∷ []) in
    let before : List ℕ = take c.put_number-at-2.result c.put_number-at-2.new.object in
    c.put.ensures.pieces
    ∙ ap (λ (ending : List ℕ). before ++ ending) c.ending-len.ensures.value
    ∙ sym (append_assoc before last (10 ∷ []))
    ∙ ap (λ (object : List ℕ). object ++ 10 ∷ [])
    (pieces [] (codes "{\"text\":\"") text (codes "\",\"begin\":") (decimal c.args.segment.start) (codes ",\"end\":") (decimal c.args.segment.end) last _ _ _ _ _ _
    c.put-at.ensures.pieces c.put_text-at.ensures.pieces c.put-at-2.ensures.pieces c.put_number-at.ensures.pieces c.put-at-3.ensures.pieces c.put_number-at-2.ensures.pieces
    ∙ sym (bare-object None text segment tt c.requires.bare))
