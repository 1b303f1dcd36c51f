-- The bytes at the head decide.
use Rattle.std.proofs.Common.{arith, sym, ◌∙◌}
use Rattle.segment_text.proofs.Escaping.{escaped-one, escaped-two, escaped-three, escaped-none, plain-none}
use Rattle.segment_text.proofs.escapes.escaped_at.Goals as goal

pub returns-then-is_plain : goal.returns-then-is_plain
returns-then-is_plain c =
    let none = plain-none c.args.bytes.now (sym c.is_plain.ensures ∙ c.if-is_plain.true) in escaped-none c.args.bytes.now c.requires none.0 none.1 none.2

pub returns-then-is_escaped : goal.returns-then-is_escaped
returns-then-is_escaped c =
    (omega arith, omega (arith, c.requires), escaped-one c.args.bytes.now c.requires (sym c.is_escaped.ensures ∙ c.if-is_escaped.true))

pub returns-in-Some : goal.returns-in-Some
returns-in-Some c =
    let two = escaped-two c.args.bytes.now c.in-Some.code (sym c.is_escaped.ensures ∙ c.if-is_escaped.false) (sym c.control_of.ensures ∙ c.in-Some.is) in
    (omega arith, two.0, two.1)

pub returns-in-Some-separator_of : goal.returns-in-Some-separator_of
returns-in-Some-separator_of c =
    let three =
    escaped-three c.args.bytes.now c.in-Some-separator_of.code (sym c.is_escaped.ensures ∙ c.if-is_escaped.false) (sym c.control_of.ensures ∙ c.in_default.is)
    (sym c.separator_of.ensures ∙ c.in-Some-separator_of.is) in (omega arith, three.0, three.1)

pub returns : goal.returns
returns c =
    escaped-none c.args.bytes.now c.requires (sym c.is_escaped.ensures ∙ c.if-is_escaped.false) (sym c.control_of.ensures ∙ c.in_default.is)
    (sym c.separator_of.ensures ∙ c.in_default-separator_of.is)
