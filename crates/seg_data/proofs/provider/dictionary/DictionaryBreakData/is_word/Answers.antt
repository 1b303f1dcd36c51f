use Rattle.std.proofs.Common.{false, ◌∙◌}
use Rattle.std.proofs.lemmas.List.{get_or_read}
use Rattle.seg_data.specs.ScriptWords.{trie_of}
use Rattle.seg_data.proofs.Tries.{node-is-word}
use Rattle.seg_data.proofs.provider.dictionary.DictionaryBreakData.is_word.Goals as goal

pub returns : goal.returns
returns c =
    get_or_read c.args.self.now.flags.items c.args.node c.index.result.now c.requires c.index.ensures false
    ∙ node-is-word (trie_of c.args.self.now) c.args.node c.args.self.now.is_trie c.requires
