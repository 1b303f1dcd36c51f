use Rattle.std.proofs.Common.{◌-◌, take, drop, ap}
use Rattle.seg_data.specs.ScriptWords.{trie_of}
use Rattle.seg_data.specs.Trie.{words_from}
use Rattle.seg_data.proofs.Tries.{node-target}
use Rattle.seg_data.proofs.provider.dictionary.DictionaryBreakData.target.Goals as goal

pub returns-clause-words : goal.returns-clause-words
returns-clause-words c =
    node-target (trie_of c.args.self.now) c.args.code_point c.args.node c.index.result.now c.index-2.result.now _ c.target_of.result
    c.args.self.now.is_trie c.requires c.index.ensures c.index-2.ensures
    (ap (λ xs. take (c.index-2.result.now - c.index.result.now) (drop c.index.result.now xs)) c.deref.ensures.value)
    (c.target_of.ensures.words (words_from (trie_of c.args.self.now)))
