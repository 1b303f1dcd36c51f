-- Each read adds a block, and the last one gives nothing.
use Rattle.std.proofs.Common.{ℕ, [], inl, sym, ap, subst, take, refl}
use Rattle.std.proofs.KnownBytes.{Consumes-nil}
use Rattle.std.specs.Io.KnownBytes.{Consumes}
use Rattle.segment_output.proofs.SplitText.{all-found, begun, keeps-nothing, under-way, unless-ok, where-read}
use Rattle.segment_output.proofs.parts.print_parts.Goals as goal

pub returns-in_err-len-clause-begun : goal.returns-in_err-len-clause-begun
returns-in_err-len-clause-begun g c =
    unless-ok c.from_residual.result
    (begun c.args.splitting c.requires g.O.Write.contents (g.I.Read.remaining c.args.input.now) _ _ _ c.reads.progress c.args.out.now c.reads.out _ c.reads.invariant
    (keeps-nothing _ _ c.in_err-len.ensures.kept) refl)

pub returns-then-len-eq0-clause-written : goal.returns-then-len-eq0-clause-written
returns-then-len-eq0-clause-written g c =
    all-found c.args.splitting c.requires g.O.Write.contents (g.I.Read.remaining c.args.input.now) _ _ _ c.reads.progress c.print_last.new.progress c.args.out.now c.reads.out _
    c.print_last.result c.reads.invariant c.in_ok-len.ensures.read.1 (ap (λ (count : ℕ). take count c.read_block.new.block) c.if-len-eq0.true)
    (c.in_ok-len.ensures.read.2 c.if-len-eq0.true) c.print_last.ensures.written

pub returns-in-Err-clause-begun : goal.returns-in-Err-clause-begun
returns-in-Err-clause-begun g c =
    λ is.
    begun c.args.splitting c.requires g.O.Write.contents (g.I.Read.remaining c.args.input.now) _ _ _ c.reads.progress c.args.out.now c.reads.out _ c.reads.invariant
    c.in_ok-len.ensures.read.1 (c.in-Err.ensures.unwritten is)

pub reads-preserved : goal.reads-preserved
reads-preserved g c =
    under-way c.args.splitting c.requires g.O.Write.contents (g.I.Read.remaining c.args.input.now) _ c.split_at.result.0.now _ c.reads.progress c.add_block.new.progress c.args.out.now c.reads.out _
    c.reads.invariant (subst (Consumes _ _) (sym c.split_at.ensures.front) c.in_ok-len.ensures.read.1) c.in_default.ensures.added

pub returns-clause-begun : goal.returns-clause-begun
returns-clause-begun g c =
    λ is.
    begun c.args.splitting c.requires g.O.Write.contents (g.I.Read.remaining c.args.input.now) _ _ _ c.reads.progress c.args.out.now c.reads.out _ c.reads.invariant
    (Consumes-nil _) refl

pub returns-then-len-eq0-clause-begun : goal.returns-then-len-eq0-clause-begun
returns-then-len-eq0-clause-begun g c =
    where-read c.print_last.result
    (λ same.
    begun c.args.splitting c.requires g.O.Write.contents (g.I.Read.remaining c.args.input.now) _ _ _ c.reads.progress c.args.out.now c.reads.out _ c.reads.invariant
    c.in_ok-len.ensures.read.1 same)
    c.print_last.ensures.unwritten

pub reads-init : goal.reads-init
reads-init g c = ([], subst (Consumes _ _) (sym c.new.ensures.items) (Consumes-nil _), inl (refl, refl, refl, refl, refl))
