use Rattle.std.proofs.Common.{◌≡◌, true, false, Some, None, if◌then◌else◌, sym, ◌∙◌, ap}
use Rattle.seg_notation.specs.Scanning.{past_blanks, begins_with}
use Rattle.seg_notation.proofs.Scanning.{after-miss, looked, second, neither}
use Rattle.seg_notation.proofs.rows.verdict.Goals as goal

pub returns-then-takes-2-clause-value : goal.returns-then-takes-2-clause-value
returns-then-takes-2-clause-value c =
    let same : past_blanks c.takes.new.self.rest.now ≡ past_blanks c.args.line.now.rest.now =
    after-miss c.args.line.now.rest.now _ _ _ c.if-takes.false c.takes.ensures.rest in
    second _ _ _ _ _ (sym c.takes.ensures.value ∙ c.if-takes.false)
    (looked 247 c.args.line.now.rest.now _ _ same c.takes-else-takes.ensures.value ∙ c.if-takes-2.true)

pub returns-then-takes-3-clause-value : goal.returns-then-takes-3-clause-value
returns-then-takes-3-clause-value c =
    let same : past_blanks c.takes.new.self.rest.now ≡ past_blanks c.args.line.now.rest.now =
    after-miss c.args.line.now.rest.now _ _ _ c.if-takes.false c.takes.ensures.rest in
    let again : past_blanks c.takes-else-takes.new.self.rest.now ≡ past_blanks c.args.line.now.rest.now =
    after-miss c.takes.new.self.rest.now _ _ _ c.if-takes-2.false c.takes-else-takes.ensures.rest ∙ same in
    let last : begins_with 33 (past_blanks c.args.line.now.rest.now) ≡ true =
    looked 33 c.args.line.now.rest.now _ _ again c.takes-else-takes-2.ensures.value ∙ c.if-takes-3.true in
    neither _ _ _ _ _ (sym c.takes.ensures.value ∙ c.if-takes.false)
    (looked 247 c.args.line.now.rest.now _ _ same c.takes-else-takes.ensures.value ∙ c.if-takes-2.false)
    ∙ ap (λ b. if begins_with 215 (past_blanks c.args.line.now.rest.now) then Some 0
    else (if begins_with 247 (past_blanks c.args.line.now.rest.now) then Some 1 else (if b then Some 2 else None))) (sym last)

pub returns-else-takes-3-clause-value : goal.returns-else-takes-3-clause-value
returns-else-takes-3-clause-value c =
    let same : past_blanks c.takes.new.self.rest.now ≡ past_blanks c.args.line.now.rest.now =
    after-miss c.args.line.now.rest.now _ _ _ c.if-takes.false c.takes.ensures.rest in
    let again : past_blanks c.takes-else-takes.new.self.rest.now ≡ past_blanks c.args.line.now.rest.now =
    after-miss c.takes.new.self.rest.now _ _ _ c.if-takes-2.false c.takes-else-takes.ensures.rest ∙ same in
    let last : begins_with 33 (past_blanks c.args.line.now.rest.now) ≡ false =
    looked 33 c.args.line.now.rest.now _ _ again c.takes-else-takes-2.ensures.value ∙ c.if-takes-3.false in
    neither _ _ _ _ _ (sym c.takes.ensures.value ∙ c.if-takes.false)
    (looked 247 c.args.line.now.rest.now _ _ same c.takes-else-takes.ensures.value ∙ c.if-takes-2.false)
    ∙ ap (λ b. if begins_with 215 (past_blanks c.args.line.now.rest.now) then Some 0
    else (if begins_with 247 (past_blanks c.args.line.now.rest.now) then Some 1 else (if b then Some 2 else None))) (sym last)
