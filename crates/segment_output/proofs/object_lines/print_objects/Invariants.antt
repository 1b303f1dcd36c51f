-- What has been written so far, and then what stands on the page, is the lines of the segments between the places so far.
use Rattle.std.proofs.Common.{◌≡◌, length}
use Rattle.std.specs.Option.{option_map}
use Rattle.segment_text.specs.Bare.{IsBareStretch}
use Rattle.segment_output.specs.Gathered.{AreGathered}
use Rattle.segment_output.specs.Output.{look_of, segments, lines_at}
use Rattle.segment_output.proofs.Segments.{begun, last}
use Rattle.segment_output.proofs.object_lines.print_objects.Given as goal

abbrev pub invariant-places : goal.invariant-places
invariant-places g l =
    (begun l.has_begun l.start ≡ option_map (λ boundary. boundary.0) (last l.yielded))
    × AreGathered (g.O.Write.contents l.fn.out) (g.O.Write.contents l.out) l.objects.page (lines_at (look_of l.part) l.part.before l.part.bytes.now (segments l.alone l.yielded))
    × (l.count ≡ length (segments l.alone l.yielded))
    × IsBareStretch l.part.bytes.now l.objects.stretch
