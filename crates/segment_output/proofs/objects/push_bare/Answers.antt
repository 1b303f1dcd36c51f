-- The pieces are the object and a line feed.
use Rattle.std.proofs.Common.{◌≡◌, ◌++◌, ◌∷◌, [], ℕ, true, Option, List, codes, decimal, option_map, take, OnOk, ap, subst, sym, ◌∙◌, append_assoc, rules}
use Rattle.json.specs.Print.{print, print_from}
use Rattle.json.specs.Token.{end_object}
use Rattle.segment_output.specs.Objects.{opening}
use Rattle.segment_output.specs.Output.{Segment, mark_tokens, object_of}
use Rattle.segment_output.proofs.BareObjects.{bare-name, bare-object, extended, pieces}
use Rattle.segment_output.proofs.objects.push_bare.Goals as goal

pub returns : goal.returns
returns c =
    let file : Option (List ℕ) = option_map (λ name. name.now) c.args.said.file in
    let segment : Segment = record { from = c.args.start; to = c.args.end; mark = c.args.said.mark } in
    let text : List ℕ = c.args.text.now in
    let last : List ℕ = print_from true (mark_tokens c.args.said.mark ++ end_object ∷ []) in
    let object : List ℕ = print (object_of file text segment) in
    let before : List ℕ = c.push_digits-2.new.line.items in
    let piece : List ℕ = take c.ending-len.result.1 c.ending-len.result.0.now in
    let whole : before ++ piece ≡ c.args.lines.now.items ++ (object ++ 10 ∷ []) =
    ap (λ (ending : List ℕ). before ++ ending) c.ending-len.ensures.value
    ∙ sym (append_assoc before last (10 ∷ []))
    ∙ ap (λ (lines : List ℕ). lines ++ 10 ∷ [])
    (pieces c.args.lines.now.items (opening file) text (codes "\",\"begin\":") (decimal c.args.start) (codes ",\"end\":") (decimal c.args.end) last _ _ _ _ _ _
    c.in_ok-push_opening.ensures c.in_ok-extend_from_slice.ensures.items c.in_ok-extend_from_slice-2.ensures.items c.in_ok-push_digits.ensures
    c.in_ok-extend_from_slice-3.ensures.items c.in_ok-push_digits-2.ensures
    ∙ ap (λ (object : List ℕ). c.args.lines.now.items ++ object) (sym (bare-object file text segment (bare-name c.args.said.file c.requires.name) c.requires.text)))
    ∙ append_assoc c.args.lines.now.items object (10 ∷ []) in
    subst (λ (items : List ℕ). OnOk c.extend_from_slice-4.result (c.extend_from_slice-4.new.self.items ≡ items)) whole
    (extended c.extend_from_slice-4.result c.extend_from_slice-4.new.self.items (before ++ piece) before (search rules))
