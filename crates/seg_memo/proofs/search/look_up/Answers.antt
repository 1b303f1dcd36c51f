use Rattle.seg_memo.proofs.Reading.{symbol-fits, value-none, next-within, entry-few, value-some, result-within}
use Rattle.seg_memo.proofs.search.look_up.Goals as goal

pub read-state-requires-clause-symbol : goal.read-state-requires-clause-symbol
read-state-requires-clause-symbol g c = symbol-fits c.requires.1.1.1.0 _ _ c.requires.1.1.0 c.next_symbol-symbol.ensures.symbol

pub returns-then-state-clause-value : goal.returns-then-state-clause-value
returns-then-state-clause-value g c = value-none (record { sound = c.requires.1.1.0; read = c.requires.1.1.1.0; within = c.requires.1.1.1.1.1.0; symbol_is = c.next_symbol-symbol.ensures.symbol; next_is = c.read-state.ensures.value }) c.if-state.true

pub entry-requires : goal.entry-requires
entry-requires g c = next-within (record { sound = c.requires.1.1.0; read = c.requires.1.1.1.0; within = c.requires.1.1.1.1.1.0; symbol_is = c.next_symbol-symbol.ensures.symbol; next_is = c.read-state.ensures.value }) c.if-state.false

pub arrive-requires : goal.arrive-requires
arrive-requires g c = entry-few c.requires.1.1.1.0 _ _ c.requires.1.1.0 c.entry.ensures

pub returns-clause-value : goal.returns-clause-value
returns-clause-value g c = value-some (record { sound = c.requires.1.1.0; read = c.requires.1.1.1.0; within = c.requires.1.1.1.1.1.0; symbol_is = c.next_symbol-symbol.ensures.symbol; next_is = c.read-state.ensures.value }) _ _ _ c.if-state.false c.entry.ensures c.next_symbol-symbol.ensures.place c.arrive.ensures

pub returns-clause-within : goal.returns-clause-within
returns-clause-within g c = result-within _ _ _ c.requires.1.1.0 c.requires.1.1.1.1.1.0 (value-some (record { sound = c.requires.1.1.0; read = c.requires.1.1.1.0; within = c.requires.1.1.1.1.1.0; symbol_is = c.next_symbol-symbol.ensures.symbol; next_is = c.read-state.ensures.value }) _ _ _ c.if-state.false c.entry.ensures c.next_symbol-symbol.ensures.place c.arrive.ensures)
