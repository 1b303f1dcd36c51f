-- Tailorings that are borrowed, by their names.
use Rattle.std.proofs.Common.{◌≡◌, Option, Some, None, refl}
use Rattle.std.specs.Borrow.{Bor}
use Rattle.std.specs.Option.{option_map}
use Rattle.seg_lines.specs.declared.line.options.Tailoring.{Tailoring}
use Rattle.seg_lines.specs.declared.line.options.Tailoring.TheVariants as tailoring
use Rattle.seg_lines.specs.declared.provider.TailoringsOf.{TailoringsOf}
use Rattle.seg_lines.specs.Options.{borrowed_tailorings, tailoring_named, tailoring_for}

module _ {T : Type 0} (tailorings : TailoringsOf (Bor T)) where
  named-borrowed : (name : Tailoring) → tailoring_named (borrowed_tailorings tailorings) name ≡ option_map (λ t. t.now) (tailoring_named tailorings name)
  named-borrowed tailoring.BreakAll = refl
  named-borrowed tailoring.KeepAll = refl
  named-borrowed tailoring.JaLoose = refl
  named-borrowed tailoring.Loose = refl
  named-borrowed tailoring.JaNormal = refl
  named-borrowed tailoring.Normal = refl
  named-borrowed tailoring.Ja = refl

  swap : (t : Option (Bor T)) → option_map Some (option_map (λ t. t.now) t) ≡ option_map (option_map (λ t. t.now)) (option_map Some t)
  swap (Some t) = refl
  swap None = refl

  -- the tailoring that is borrowed is that of the tailorings that are borrowed
  pub for-borrowed : (name : Option Tailoring) → tailoring_for (borrowed_tailorings tailorings) name ≡ option_map (option_map (λ t. t.now)) (tailoring_for tailorings name)
  for-borrowed None = refl
  for-borrowed (Some name) = rw named-borrowed (swap (tailoring_named tailorings name))
