-- The machine of words with types and scripts, of just the arrays that stand in the code.
use Rattle.seg_data.specs.Table.{table}
use Rattle.seg_machine.specs.Machine.{Machine, machine}
use Rattle.icu_segmenter_uax29.specs.declared.words.typed.data.TheConstants.{MAP, RANGES, SHIFT, STATES, TRANSITIONS}

unfoldable pub typed_word_machine : Machine
typed_word_machine = machine (table RANGES 1) STATES TRANSITIONS 0 SHIFT MAP
