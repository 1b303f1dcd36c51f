use Rattle.std.proofs.Common.{inl, inr, refl}
use Rattle.std.proofs.lemmas.Bool.{iff_false}
use Rattle.seg_data.specs.declared.provider.ComplexScript.TheVariants.{None as NoScript}
use Rattle.seg_data.proofs.Anywhere.{any-at}
use Rattle.seg_machine.specs.MachineFaults.{NamesEnd}
use Rattle.seg_machine.proofs.Replaced.{placing-start, placing-next, placed-twice}
use Rattle.seg_machine.proofs.provider.tailoring.place_entries.Goals as goal

pub loop-index-init : goal.loop-index-init
loop-index-init c = placing-start

pub returns-then-names_end-clause-fault : goal.returns-then-names_end-clause-fault
returns-then-names_end-clause-fault c =
    λ none. inl (any-at NamesEnd c.args.entries.now c.loop-index.index (0, 0, NoScript) c.loop-index-test.true (c.if-names_end.ensures.0 refl))

pub returns-then-replacements-from-ne-EOT_SYMBOL-clause-fault : goal.returns-then-replacements-from-ne-EOT_SYMBOL-clause-fault
returns-then-replacements-from-ne-EOT_SYMBOL-clause-fault c =
    λ none. inr (placed-twice c.args.entries.now c.loop-index.replacements c.loop-index.index (0, 0, NoScript) c.loop-index.invariant c.loop-index-test.true
    c.loop-index-test.element_fits.fits c.if-replacements-from-ne-EOT_SYMBOL.true)

pub loop-index-preserved : goal.loop-index-preserved
loop-index-preserved c =
    placing-next c.args.entries.now c.loop-index.replacements c.loop-index.index (0, 0, NoScript) c.loop-index.invariant c.loop-index-test.true
    (λ named. iff_false c.names_end.ensures c.if-names_end.false named) c.loop-index-test.element_fits.fits c.if-replacements-from-ne-EOT_SYMBOL.false
