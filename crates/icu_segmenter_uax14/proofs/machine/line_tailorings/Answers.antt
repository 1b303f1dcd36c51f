use Rattle.std.proofs.Common.{refl, []}
use Rattle.icu_segmenter_uax14.specs.declared.data.TheConstants.{BREAK_ALL, BREAK_ALL_REPLACED, JA, JA_LOOSE, JA_NORMAL, KEEP_ALL, KEEP_ALL_REPLACED, LOOSE, NORMAL}
use Rattle.icu_segmenter_uax14.proofs.TailoringTests.{memory-alone, passed-up}
use Rattle.icu_segmenter_uax14.proofs.machine.line_tailorings.Goals as goal

pub returns-in_err-tailoring_of-clause-rejected : goal.returns-in_err-tailoring_of-clause-rejected
returns-in_err-tailoring_of-clause-rejected c =
    passed-up c.from_residual.result c.in_err-tailoring_of.field-0.0 c.from_residual.ensures.1 (memory-alone BREAK_ALL BREAK_ALL_REPLACED refl _ c.in_err-tailoring_of.ensures.rejected)

pub returns-in_err-tailoring_of-2-clause-rejected : goal.returns-in_err-tailoring_of-2-clause-rejected
returns-in_err-tailoring_of-2-clause-rejected c =
    passed-up c.from_residual-in_err-tailoring_of-2.result c.in_err-tailoring_of-2.field-0.0 c.from_residual-in_err-tailoring_of-2.ensures.1 (memory-alone KEEP_ALL KEEP_ALL_REPLACED refl _ c.in_err-tailoring_of-2.ensures.rejected)

pub returns-in_err-tailoring_of-3-clause-rejected : goal.returns-in_err-tailoring_of-3-clause-rejected
returns-in_err-tailoring_of-3-clause-rejected c =
    passed-up c.from_residual-in_err-tailoring_of-3.result c.in_err-tailoring_of-3.field-0.0 c.from_residual-in_err-tailoring_of-3.ensures.1 (memory-alone JA_LOOSE [] refl _ c.in_err-tailoring_of-3.ensures.rejected)

pub returns-in_err-tailoring_of-4-clause-rejected : goal.returns-in_err-tailoring_of-4-clause-rejected
returns-in_err-tailoring_of-4-clause-rejected c =
    passed-up c.from_residual-in_err-tailoring_of-4.result c.in_err-tailoring_of-4.field-0.0 c.from_residual-in_err-tailoring_of-4.ensures.1 (memory-alone LOOSE [] refl _ c.in_err-tailoring_of-4.ensures.rejected)

pub returns-in_err-tailoring_of-5-clause-rejected : goal.returns-in_err-tailoring_of-5-clause-rejected
returns-in_err-tailoring_of-5-clause-rejected c =
    passed-up c.from_residual-in_err-tailoring_of-5.result c.in_err-tailoring_of-5.field-0.0 c.from_residual-in_err-tailoring_of-5.ensures.1 (memory-alone JA_NORMAL [] refl _ c.in_err-tailoring_of-5.ensures.rejected)

pub returns-in_err-tailoring_of-6-clause-rejected : goal.returns-in_err-tailoring_of-6-clause-rejected
returns-in_err-tailoring_of-6-clause-rejected c =
    passed-up c.from_residual-in_err-tailoring_of-6.result c.in_err-tailoring_of-6.field-0.0 c.from_residual-in_err-tailoring_of-6.ensures.1 (memory-alone NORMAL [] refl _ c.in_err-tailoring_of-6.ensures.rejected)

pub returns-in_err-tailoring_of-7-clause-rejected : goal.returns-in_err-tailoring_of-7-clause-rejected
returns-in_err-tailoring_of-7-clause-rejected c =
    passed-up c.from_residual-in_err-tailoring_of-7.result c.in_err-tailoring_of-7.field-0.0 c.from_residual-in_err-tailoring_of-7.ensures.1 (memory-alone JA [] refl _ c.in_err-tailoring_of-7.ensures.rejected)
