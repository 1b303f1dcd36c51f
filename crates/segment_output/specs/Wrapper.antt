-- How a wrapper wraps, and which one is asked for.
use Rattle.std.specs.Prelude.{◌≡◌, Bool, Option, None, Some, if◌then◌else◌}
use Rattle.std.specs.Option.{option_map}
use Rattle.icu_segmenter.specs.Clusters.{owned_cluster_rules}
use Rattle.icu_segmenter.specs.Lines.{owned_line_rules}
use Rattle.icu_segmenter.specs.Rules.{Rules}
use Rattle.icu_segmenter.specs.Rules.Rules.{ByMachine}
use Rattle.icu_segmenter.specs.ScriptWords.{ScriptWords}
use Rattle.icu_segmenter.specs.declared.options.LineBreakOptions.{LineBreakOptions}
use Rattle.icu_segmenter_uax29.specs.Clusters.{cluster_machine}
use Rattle.icu_segmenter.specs.Wrapping.{room_beside}
use Rattle.segment_output.specs.TextSegmenter.{line_rules_by}
use Rattle.segment_output.specs.Wrapped.{Wrapping, cluster_lines, measure_by}
use Rattle.segment_output.specs.declared.segmenter.Engine.TheVariants as engine
use Rattle.segment_output.specs.declared.wrapper.Width.{Width}
use Rattle.segment_output.specs.declared.wrapper.Wrapper.{Wrapper}

-- how a wrapper wraps
abbrev pub wrapping_of : Wrapper → Wrapping
wrapping_of wrapper = record {
  indents = record { first = wrapper.first_indent.items; others = wrapper.indent.items };
  columns = wrapper.columns;
  room = wrapper.room;
  lines = owned_line_rules wrapper.lines.lines;
  broken = option_map (λ clusters. owned_line_rules clusters.lines) wrapper.clusters;
  measure = measure_by (option_map owned_cluster_rules wrapper.counted);
}

-- the clusters by which columns are counted, if they are: those of UAX #29
abbrev pub counted_clusters : Bool → Option Rules
counted_clusters by_cluster = if by_cluster then Some (ByMachine cluster_machine) else None

-- a wrapper is that to a width: over Unicode's data, with options of lines and the words of scripts; where words are broken, they are
-- between clusters
abbrev pub IsAskedWrapper : Width → LineBreakOptions → ScriptWords → Wrapper → Type 0
IsAskedWrapper width options words wrapper =
    wrapping_of wrapper ≡ record {
      indents = record { first = width.first_indent.now; others = width.indent.now };
      columns = width.columns;
      room = room_beside width.columns width.first_indent.now width.indent.now;
      lines = line_rules_by engine.Neo options words;
      broken = if width.breaks_words then Some cluster_lines else None;
      measure = measure_by (counted_clusters width.by_cluster);
    }
