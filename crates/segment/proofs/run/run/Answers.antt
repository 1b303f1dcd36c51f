-- After what is printed comes how many segments there are.
use Rattle.std.proofs.Common.{◌≡◌, ◌⊎◌, ℕ, List, Option, IfSome, option_map, subst, sym}
use Rattle.segment_output.specs.Paragraphs.{AppendsSome}
use Rattle.segment.specs.Job.{IsBegunBy, IsPrintedBy, IsTally}
use Rattle.segment.proofs.Counted.{counted-of, uncounted-of}
use Rattle.segment.proofs.run.run.Goals as goal

pub returns-in_default-clause-written : goal.returns-in_default-clause-written
returns-in_default-clause-written g c =
    uncounted-of c.args.job.now (option_map (λ name. name.now) c.args.name) (g.I.Read.remaining c.args.input.now) _ _ c.in-Ok.tally (sym c.in_default.ensures)
    (subst (λ (file : Option (List ℕ)). IfSome (g.I.Read.remaining c.args.input.now) (λ bytes. IsTally c.args.job.now bytes c.in-Ok.tally
    × AppendsSome (g.O.Write.contents c.args.out.now) (g.O.Write.contents c.print_job.new.out) (IsPrintedBy c.args.job.now file bytes))) c.said.ensures c.in-Ok.ensures.written)

pub returns-in-Ok-write_count-clause-written : goal.returns-in-Ok-write_count-clause-written
returns-in-Ok-write_count-clause-written g c =
    counted-of c.args.job.now (option_map (λ name. name.now) c.args.name) (g.I.Read.remaining c.args.input.now) _ _ _ c.in-Some.numbers
    c.in-Ok.tally (sym c.in-Some.ensures)
    (subst (λ (file : Option (List ℕ)). IfSome (g.I.Read.remaining c.args.input.now) (λ bytes. IsTally c.args.job.now bytes c.in-Ok.tally
    × AppendsSome (g.O.Write.contents c.args.out.now) (g.O.Write.contents c.print_job.new.out) (IsPrintedBy c.args.job.now file bytes))) c.said.ensures c.in-Ok.ensures.written)
    c.in-Ok-write_count.ensures

pub returns-in-Err-clause-begun : goal.returns-in-Err-clause-begun
returns-in-Err-clause-begun g c =
    λ of_reader.
    subst (λ (file : Option (List ℕ)). (c.print_job.new.out ≡ c.args.out.now) ⊎ IsBegunBy c.args.job.now file (g.I.Read.remaining c.args.input.now) (g.I.Read.remaining c.print_job.new.input)
    (g.O.Write.contents c.args.out.now) (g.O.Write.contents c.print_job.new.out)) c.said.ensures (c.in-Err.ensures.begun of_reader)
