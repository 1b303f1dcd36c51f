-- The machine finds the breaks, and by it a line must end at a text's end.
use Rattle.icu_segmenter.specs.Lines.{owned_line_rules}
use Rattle.icu_segmenter.specs.ScriptWords.{script_words}
use Rattle.segment_output.proofs.LineEnds.{chosen-ends, not-paired}
use Rattle.segment_output.proofs.machine_lines.MachineLines.try_new.Goals as goal

pub invariant_of-result : goal.invariant_of-result
invariant_of-result c = record {
  by_machine = not-paired c.args.options (script_words c.args.dictionaries) (owned_line_rules c.in_ok-lines.lines) c.in_ok-lines.ensures;
  ends = λ by_rules.
      chosen-ends c.args.options (script_words c.args.dictionaries) (owned_line_rules c.in_ok-lines.lines) c.in_ok-lines.ensures (c.follows_rules-by_rules.ensures by_rules)
      c.mandatory_breaks.ensures.end;
}
