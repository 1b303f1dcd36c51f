-- Where the block has whole lines or paragraphs, what is held and they are a part.
use Rattle.std.proofs.Common.{ℕ, Global, Vec, refl, ap, ◌∙◌}
use Rattle.segment_output.proofs.SplitText.{added, where-ok}
use Rattle.segment_output.proofs.parts.add_block.Goals as goal

pub returns-clause-added : goal.returns-clause-added
returns-clause-added g c =
    where-ok c.print_part.result
    (added c.args.splitting c.args.block.now _ c.split_at.result.0.now c.split_at.result.1.now c.new-next.result.items c.in-Some.len
    c.args.progress.now _ c.print_part.new.progress _ _ _ c.in-Some.ensures.1 c.split_at.ensures.front c.split_at.ensures.back
    (ap (λ (held : Vec ℕ Global). held.items) c.replace-part.ensures.value ∙ c.in_ok-hold.ensures) c.new-next.ensures.items
    (ap (λ (held : Vec ℕ Global). held.items) (c.print_part.ensures.held ∙ c.replace-part.ensures.after) ∙ c.in_ok-hold-2.ensures)
    refl refl refl)
    c.print_part.ensures.written
