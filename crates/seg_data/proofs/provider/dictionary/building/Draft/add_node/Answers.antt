use Rattle.std.proofs.Common.{◌≡◌, [], ◌∷◌, ◌++◌, length, get_or, sym, ap, ◌∙◌, arith}
use Rattle.std.proofs.lemmas.List.{get_or_read}
use Rattle.seg_data.specs.WordSets.{held}
use Rattle.seg_data.proofs.Drafts.{IsNext, node-added, node-owes}
use Rattle.seg_data.proofs.provider.dictionary.building.Draft.add_node.Goals as goal

pub returns-clause-draft : goal.returns-clause-draft
returns-clause-draft c =
    let here : c.len.result ≡ length c.args.self.now.flags.items = omega arith in
    let flags : c.push.new.self.items ≡ c.args.self.now.flags.items ++ c.word_and_rest-is_word.result.0 ∷ []
    = c.in_ok-push.ensures.items ∙ ap (λ v. v.items ++ c.word_and_rest-is_word.result.0 ∷ []) c.in_ok-add_edges.ensures.flags in
    let count : c.len-2.result ≡ length c.add_edges.new.self.edges.items = omega arith in
    let starts : c.push-2.new.self.items ≡ c.args.self.now.starts.items ++ length c.add_edges.new.self.edges.items ∷ []
    = c.in_ok-push-2.ensures.items ∙ ap (λ v. v.items ++ c.len-2.result ∷ []) c.in_ok-add_edges.ensures.starts
    ∙ ap (λ n. c.args.self.now.starts.items ++ n ∷ []) count in
    let next : IsNext (held c.args.words.now) c.index.result.now.0 c.index.result.now.1 c.index.result.now.2 c.word_and_rest-is_word.result.1 c.word_and_rest-is_word.result.0
    c.args.self.now.flags.items c.args.self.now.starts.items c.args.self.now.edges.items c.add_edges.new.self.edges.items c.args.self.now.ranges.items c.add_edges.new.self.ranges.items
    = record {
      draft = c.requires.draft;
      known = c.requires.known;
      range = ap (λ i. get_or c.args.self.now.ranges.items i (0, 0, 0)) (sym here)
          ∙ sym (get_or_read c.args.self.now.ranges.items c.len.result c.index.result.now (omega arith) c.index.ensures (0, 0, 0));
      begun = c.word_and_rest-is_word.ensures;
      a = c.in_ok-add_edges.ensures.added;
    } in
    rw (flags, starts) (node-added _ _ _ _ _ _ _ _ _ _ _ _ next)

pub returns-clause-owes : goal.returns-clause-owes
returns-clause-owes c =
    let here : c.len.result ≡ length c.args.self.now.flags.items = omega arith in
    let flags : c.push.new.self.items ≡ c.args.self.now.flags.items ++ c.word_and_rest-is_word.result.0 ∷ []
    = c.in_ok-push.ensures.items ∙ ap (λ v. v.items ++ c.word_and_rest-is_word.result.0 ∷ []) c.in_ok-add_edges.ensures.flags in
    let next : IsNext (held c.args.words.now) c.index.result.now.0 c.index.result.now.1 c.index.result.now.2 c.word_and_rest-is_word.result.1 c.word_and_rest-is_word.result.0
    c.args.self.now.flags.items c.args.self.now.starts.items c.args.self.now.edges.items c.add_edges.new.self.edges.items c.args.self.now.ranges.items c.add_edges.new.self.ranges.items
    = record {
      draft = c.requires.draft;
      known = c.requires.known;
      range = ap (λ i. get_or c.args.self.now.ranges.items i (0, 0, 0)) (sym here)
          ∙ sym (get_or_read c.args.self.now.ranges.items c.len.result c.index.result.now (omega arith) c.index.ensures (0, 0, 0));
      begun = c.word_and_rest-is_word.ensures;
      a = c.in_ok-add_edges.ensures.added;
    } in
    rw flags (node-owes _ _ _ _ _ _ _ _ _ _ _ _ next)
