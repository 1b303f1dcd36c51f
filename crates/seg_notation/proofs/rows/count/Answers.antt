use Rattle.std.proofs.Common.{◌≡◌, sym, ◌∙◌}
use Rattle.seg_notation.specs.Scanning.{past_blanks}
use Rattle.seg_notation.proofs.Scanning.{after-miss, looked, second, neither}
use Rattle.seg_notation.proofs.rows.count.Goals as goal

pub returns-then-takes-2 : goal.returns-then-takes-2
returns-then-takes-2 c =
    let same : past_blanks c.takes.new.self.rest.now ≡ past_blanks c.args.line.now.rest.now =
    after-miss c.args.line.now.rest.now _ _ _ c.if-takes.false c.takes.ensures.rest in
    second _ _ _ _ _ (sym c.takes.ensures.value ∙ c.if-takes.false)
    (looked 63 c.args.line.now.rest.now _ _ same c.takes-else-takes.ensures.value ∙ c.if-takes-2.true)

pub returns-else-takes-2 : goal.returns-else-takes-2
returns-else-takes-2 c =
    let same : past_blanks c.takes.new.self.rest.now ≡ past_blanks c.args.line.now.rest.now =
    after-miss c.args.line.now.rest.now _ _ _ c.if-takes.false c.takes.ensures.rest in
    neither _ _ _ _ _ (sym c.takes.ensures.value ∙ c.if-takes.false)
    (looked 63 c.args.line.now.rest.now _ _ same c.takes-else-takes.ensures.value ∙ c.if-takes-2.false)
