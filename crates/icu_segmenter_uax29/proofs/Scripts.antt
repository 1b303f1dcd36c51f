-- Scripts of dictionaries as numbers, by which computations compare them.
use Rattle.std.proofs.Common.{◌≡◌, ℕ, [], ◌∷◌, refl, sym, ap, ◌∙◌}
use Rattle.std.specs.Prelude.{slice_index_or}
use Rattle.seg_data.specs.declared.provider.ComplexScript.{ComplexScript}
use Rattle.seg_data.specs.declared.provider.ComplexScript.TheVariants as complex

abbrev pub complex_number : ComplexScript → ℕ
complex_number complex.None = 0
complex_number complex.Myanmar = 1
complex_number complex.ChineseOrJapanese = 2
complex_number complex.Khmer = 3
complex_number complex.Lao = 4
complex_number complex.Thai = 5

abbrev complex_from : ℕ → ComplexScript
complex_from n =
    slice_index_or (complex.None ∷ complex.Myanmar ∷ complex.ChineseOrJapanese ∷ complex.Khmer ∷ complex.Lao ∷ complex.Thai ∷ []) n complex.None

complex-back : (s : ComplexScript) → complex_from (complex_number s) ≡ s
complex-back complex.None = refl
complex-back complex.Myanmar = refl
complex-back complex.ChineseOrJapanese = refl
complex-back complex.Khmer = refl
complex-back complex.Lao = refl
complex-back complex.Thai = refl

pub same-complex : (s t : ComplexScript) → complex_number s ≡ complex_number t → s ≡ t
same-complex s t same = sym (complex-back s) ∙ ap complex_from same ∙ complex-back t
