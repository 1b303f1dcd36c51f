-- Marks by kind are those that the iterators give.
use Rattle.std.proofs.Common.{◌≡◌, ℕ, zero, suc, List, [], ◌∷◌, map, refl, ap₂}
use Rattle.icu_segmenter.specs.Boundary.{Boundary}
use Rattle.icu_segmenter.specs.WordRules.{WordRules, type_of}
use Rattle.yengatomu_segmenter.specs.Finders.{mark_by}
use Rattle.yengatomu_segmenter.specs.Finders.Finder.{Words}
use Rattle.yengatomu_segmenter.specs.Marks.{number_of_type}

word-mark : (rules : WordRules) (status : ℕ) → number_of_type (type_of status) ≡ mark_by (Words rules) status
word-mark rules zero = refl
word-mark rules (suc zero) = refl
word-mark rules (suc (suc status)) = refl

pub word-marks : (rules : WordRules) (boundaries : List Boundary)
    → map (λ (found : Boundary). number_of_type (type_of found.status)) boundaries ≡ map (λ (found : Boundary). mark_by (Words rules) found.status) boundaries
word-marks rules [] = refl
word-marks rules (found ∷ boundaries) = ap₂ (λ mark marks. mark ∷ marks) (word-mark rules found.status) (word-marks rules boundaries)
