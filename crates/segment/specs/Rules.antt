-- What a command line with rules asks for, and what is written then.
use Rattle.std.specs.Prelude.{◌≡◌, Bool, false, None, Some, codes}
use Rattle.clap.specs.Matches.{first_value}
use Rattle.clap.specs.declared.parser.matches.Found.{Found}
use Rattle.seg_rules.specs.Passed.{FindsPlaces}
use Rattle.seg_rules.specs.RowRules.{RowRules}
use Rattle.segment_output.specs.declared.segmenter.TextSegmenter.{TextSegmenter}
use Rattle.segment_output.specs.declared.segmenter.TextSegmenter.TheVariants.{Ruled}
use Rattle.segment.specs.Command.{IsFlag, IsWritten}
use Rattle.segment.specs.declared.command.Written.{Written}
use Rattle.segment.specs.declared.command.Written.TheVariants as written
use Rattle.segment.specs.declared.job.Job.{Job}
use Rattle.segment.specs.declared.job.Action.{Action}
use Rattle.segment.specs.declared.job.Action.TheVariants.{Cut, Paragraphs, Split, Wrap}
use Rattle.segment.specs.declared.rules.RulesRequest.{RulesRequest}

-- a request has the file that is named, has that written which is, and leaves segments out and shows the machine where it is asked for
abbrev pub IsRulesRequest : Found → RulesRequest → Type 0
IsRulesRequest found request =
    (Some request.path.now ≡ first_value found (codes "rules"))
    × IsWritten found request.written
    × IsFlag found (codes "tokens") request.tokens
    × IsFlag found (codes "show-machine") request.shows_machine

-- a segmenter's boundaries are those of a machine that finds the places where some rules break, and those segments are left out, or not, which
-- end at a boundary of status 1
abbrev pub IsByRules : RowRules → Bool → TextSegmenter → Type 0
IsByRules rules tokens (Ruled machine alone) = FindsPlaces rules machine × (alone ≡ tokens)
IsByRules rules tokens segmenter = ⊥

-- texts are cut by it, and this is written of them
abbrev pub IsActionByRules : RowRules → Bool → Written → Action → Type 0
IsActionByRules rules tokens what (Cut segmenter style) = IsByRules rules tokens segmenter × (what ≡ written.Segments style)
IsActionByRules rules tokens what (Split segmenter least) = IsByRules rules tokens segmenter × (what ≡ written.Parts least)
IsActionByRules rules tokens what (Wrap wrapper) = ⊥
IsActionByRules rules tokens what (Paragraphs setting) = ⊥

-- and nothing is done to them first
abbrev pub IsJobByRules : RowRules → Bool → Written → Job → Type 0
IsJobByRules rules tokens what job = (job.preparation ≡ record { tabs = None; joins = false }) × (job.names_files ≡ false) × IsActionByRules rules tokens what job.action
