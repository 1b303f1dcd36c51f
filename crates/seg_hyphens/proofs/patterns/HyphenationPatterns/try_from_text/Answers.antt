use Rattle.std.proofs.Common.{sym, subst, ap, ◌∙◌}
use Rattle.std.proofs.lemmas.Result.{err_from_is_err_and}
use Rattle.seg_hyphens.specs.Texts.{encoding_of}
use Rattle.seg_hyphens.specs.Tries.{IsSound}
use Rattle.seg_hyphens.proofs.Said.{error-of, fault-encoding, means, no-fault, sound-trie}
use Rattle.seg_hyphens.proofs.patterns.HyphenationPatterns.try_from_text.Goals as goal

pub returns-in_default-clause-err : goal.returns-in_default-clause-err
returns-in_default-clause-err c = fault-encoding _ _ _ c.first_line.ensures.first c.first_line.ensures.others (ap encoding_of (sym c.trimmed.ensures) ∙ sym c.encoding_of.ensures ∙ c.in_default.is)

pub returns-in_err-read_all-clause-err : goal.returns-in_err-read_all-clause-err
returns-in_err-read_all-clause-err c =
    let p = err_from_is_err_and c.from_residual-in_err-read_all.result c.from_residual-in_err-read_all.ensures.1 in
    rw (p.1, p.2) (error-of _ _ _ c.first_line.ensures.first c.first_line.ensures.others _ (ap encoding_of (sym c.trimmed.ensures) ∙ sym c.encoding_of.ensures ∙ c.in-Some.is) _ c.in_err-read_all.ensures.err)

pub invariant_of-result : goal.invariant_of-result
invariant_of-result c = record { sound = subst IsSound (sym c.into_parts-trie.ensures.trie) (sound-trie _ c.in_ok-read_all.ensures.ok.is) }

pub returns-clause-ok : goal.returns-clause-ok
returns-clause-ok c =
    means _ _ _ c.first_line.ensures.first c.first_line.ensures.others _
    (ap encoding_of (sym c.trimmed.ensures) ∙ sym c.encoding_of.ensures ∙ c.in-Some.is) _ _ c.in_ok-read_all.ensures.ok _ c.in_ok-reader.ensures.keeps c.in_ok-reader.ensures.left c.in_ok-reader.ensures.right c.into_parts-trie.ensures.trie c.into_parts-trie.ensures.minima

pub returns-clause-faultless : goal.returns-clause-faultless
returns-clause-faultless c = no-fault _ _ _ c.first_line.ensures.first c.first_line.ensures.others _ (ap encoding_of (sym c.trimmed.ensures) ∙ sym c.encoding_of.ensures ∙ c.in-Some.is) _ _ c.in_ok-read_all.ensures.ok
