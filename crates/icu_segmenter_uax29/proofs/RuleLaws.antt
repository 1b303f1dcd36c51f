-- The machines of clusters, words and sentences pass the tests of the law of rules, and are checked.
use Rattle.std.proofs.Common.{◌≡◌, true, refl, sym, subst}
use Rattle.seg_machine.specs.Machine.{symbol_count}
use Rattle.seg_machine.specs.MachineFaults.{HasTextSymbols, IsChecked}
use Rattle.seg_rules.specs.RowRules.{once_number}
use Rattle.seg_rules.specs.Check.{get, scans_hold, tables_hold}
use Rattle.seg_rules.specs.Places.{Passes, plan_holds, states_hold, column, columns, same_numbers, nexts_below, all_nexts_below}
use Rattle.seg_rules.proofs.Law.{checked-law}
use Rattle.icu_segmenter_uax29.specs.Clusters.{cluster_machine}
use Rattle.icu_segmenter_uax29.specs.Following.{FollowsRules}
use Rattle.icu_segmenter_uax29.specs.Words.{word_machine}
use Rattle.icu_segmenter_uax29.specs.Sentences.{sentence_machine}
use Rattle.icu_segmenter_uax29.specs.ClusterRules.{cluster_rules}
use Rattle.icu_segmenter_uax29.specs.WordRules.{word_rules}
use Rattle.icu_segmenter_uax29.specs.SentenceRules.{sentence_rules}
use Rattle.icu_segmenter_uax29.proofs.ClusterCertificate.{accepts as cluster_accepts, nexts as cluster_nexts, plan as cluster_plan, relation as cluster_relation, rules-are as cluster-rules-are, scans-hold as cluster-scans-hold, tables as cluster_tables, tables-hold as cluster-tables-hold, waits as cluster_waits}
use Rattle.icu_segmenter_uax29.proofs.WordCertificate.{accepts as word_accepts, nexts as word_nexts, plan as word_plan, relation as word_relation, rules-are as word-rules-are, scans-hold as word-scans-hold, tables as word_tables, tables-hold as word-tables-hold, waits as word_waits}
use Rattle.icu_segmenter_uax29.proofs.SentenceCertificate.{accepts as sentence_accepts, nexts as sentence_nexts, plan as sentence_plan, relation as sentence_relation, rules-are as sentence-rules-are, scans-hold as sentence-scans-hold, tables as sentence_tables, tables-hold as sentence-tables-hold, waits as sentence_waits}
use Rattle.icu_segmenter_uax29.proofs.MachineTests.{is-checked}
use Rattle.icu_segmenter_uax29.proofs.Faults.{cluster-is-sound, sentence-is-sound, word-is-sound}
use Rattle.icu_segmenter_uax29.proofs.Properties.{symbol-says as cluster-says}
use Rattle.icu_segmenter_uax29.proofs.WordSymbols.{symbol-says as word-says}
use Rattle.icu_segmenter_uax29.proofs.SentenceSymbols.{symbol-says as sentence-says}

-- ---- clusters

cluster-plan-holds : plan_holds cluster_machine 19 cluster_plan ≡ true
unfolding cluster_machine cluster_accepts cluster_nexts cluster_plan once_number get states_hold column columns same_numbers nexts_below all_nexts_below
cluster-plan-holds = refl

pub cluster-passes : Passes cluster_rules 19 cluster_tables cluster_relation cluster_plan cluster_machine
cluster-passes = record {
  tables = subst (λ rules. tables_hold rules 19 cluster_tables ≡ true) (sym cluster-rules-are) cluster-tables-hold;
  scans = subst (λ rules. scans_hold rules cluster_tables cluster_plan cluster_relation ≡ true) (sym cluster-rules-are) cluster-scans-hold;
  machine = cluster-plan-holds;
}

cluster-text-symbols : HasTextSymbols cluster_machine
unfolding cluster_machine symbol_count
cluster-text-symbols c = ((cluster-says c).some, (cluster-says c).below)

pub cluster-is-checked : IsChecked cluster_machine
cluster-is-checked = is-checked cluster_machine 14 19 cluster_waits cluster-is-sound cluster-text-symbols

pub cluster-follows : FollowsRules cluster_rules cluster_machine
cluster-follows = checked-law cluster_rules 19 cluster_tables cluster_plan cluster_relation cluster_machine cluster-passes cluster-is-checked

-- ---- words

word-plan-holds : plan_holds word_machine 21 word_plan ≡ true
unfolding word_machine word_accepts word_nexts word_plan once_number get states_hold column columns same_numbers nexts_below all_nexts_below
word-plan-holds = refl

pub word-passes : Passes word_rules 21 word_tables word_relation word_plan word_machine
word-passes = record {
  tables = subst (λ rules. tables_hold rules 21 word_tables ≡ true) (sym word-rules-are) word-tables-hold;
  scans = subst (λ rules. scans_hold rules word_tables word_plan word_relation ≡ true) (sym word-rules-are) word-scans-hold;
  machine = word-plan-holds;
}

word-text-symbols : HasTextSymbols word_machine
unfolding word_machine symbol_count
word-text-symbols c = ((word-says c).some, (word-says c).below)

pub word-is-checked : IsChecked word_machine
word-is-checked = is-checked word_machine 23 21 word_waits word-is-sound word-text-symbols

pub word-follows : FollowsRules word_rules word_machine
word-follows = checked-law word_rules 21 word_tables word_plan word_relation word_machine word-passes word-is-checked

-- ---- sentences

sentence-plan-holds : plan_holds sentence_machine 15 sentence_plan ≡ true
unfolding sentence_machine sentence_accepts sentence_nexts sentence_plan once_number get states_hold column columns same_numbers nexts_below all_nexts_below
sentence-plan-holds = refl

pub sentence-passes : Passes sentence_rules 15 sentence_tables sentence_relation sentence_plan sentence_machine
sentence-passes = record {
  tables = subst (λ rules. tables_hold rules 15 sentence_tables ≡ true) (sym sentence-rules-are) sentence-tables-hold;
  scans = subst (λ rules. scans_hold rules sentence_tables sentence_plan sentence_relation ≡ true) (sym sentence-rules-are) sentence-scans-hold;
  machine = sentence-plan-holds;
}

sentence-text-symbols : HasTextSymbols sentence_machine
unfolding sentence_machine symbol_count
sentence-text-symbols c = ((sentence-says c).some, (sentence-says c).below)

pub sentence-is-checked : IsChecked sentence_machine
sentence-is-checked = is-checked sentence_machine 12 15 sentence_waits sentence-is-sound sentence-text-symbols

pub sentence-follows : FollowsRules sentence_rules sentence_machine
sentence-follows =
    checked-law sentence_rules 15 sentence_tables sentence_plan sentence_relation sentence_machine sentence-passes sentence-is-checked
