-- What is put behind the lines stands there.
use Rattle.std.proofs.Common.{◌≡◌, ◌+◌, ◌-◌, ◌≤◌, List, ℕ, ◌++◌, refl, ap, ◌∙◌, take, length, rules}
use Rattle.std.proofs.lemmas.List.{with_items_is}
use Rattle.segment_text.proofs.PutPieces.{put-piece}
use Rattle.segment_output.proofs.page.Page.put_object.Goals as goal

pub returns-clause-added : goal.returns-clause-added
returns-clause-added c = λ _.
    let window : List ℕ = c.put_pieces-len.new.object in
    let used : ℕ = c.self.inside.used in
    let before : take used c.deref_mut.result.now ≡ c.args.self.now = ap (take used) c.deref_mut.ensures.value ∙ c.self.view_is in
    let few : c.put_pieces-len.result ≤ length window = search rules in
    let room : used + length window ≤ length c.deref_mut.result.now = search rules in
    let put =
    put-piece used c.put_pieces-len.result ((used + 368) - used) c.deref_mut.result.now window window refl few room
    ∙ ap (λ (lines : List ℕ). lines ++ take c.put_pieces-len.result window) before
    ∙ ap (λ (bytes : List ℕ). c.args.self.now ++ bytes) c.put_pieces-len.ensures.pieces in
    search (rules, put, with_items_is)
