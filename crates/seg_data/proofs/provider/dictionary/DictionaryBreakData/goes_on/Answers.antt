use Rattle.seg_data.specs.ScriptWords.{trie_of}
use Rattle.seg_data.proofs.Tries.{node-tests}
use Rattle.seg_data.proofs.provider.dictionary.DictionaryBreakData.goes_on.Goals as goal

pub returns : goal.returns
returns c =
    node-tests (trie_of c.args.self.now) c.args.node c.index.result.now c.index-2.result.now c.args.self.now.is_trie c.requires c.index.ensures c.index-2.ensures
