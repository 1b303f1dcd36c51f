use Rattle.std.proofs.Common.{◌≡◌, ℕ, true, false, Option, Some, None, List, [], ◌∷◌, sym, ap, ◌∙◌, is_some}
use Rattle.std.specs.Char.Iter.{case_mapping_first, case_mapping_second, case_mapping_third}
use Rattle.std.specs.Char.Unicode.ToLowercase.{to_lowercase}
use Rattle.seg_text.specs.Decoding.{character_of}
use Rattle.seg_hyphens.specs.Words.{lower_of, only_or}
use Rattle.seg_hyphens.proofs.words.lower_of.Goals as goal

none-of : (second : Option ℕ) → is_some second ≡ false → second ≡ None
none-of None e = cc
none-of (Some x) e = cc

some-of : (second : Option ℕ) → is_some second ≡ true → (x : ℕ) × (second ≡ Some x)
some-of None e = absurd cc
some-of (Some x) e = (x, cc)

only : (code : ℕ) (cs : List ℕ) → cs ≡ to_lowercase (character_of code) → only_or (character_of code) cs ≡ lower_of code
unfolding lower_of
only code cs is = ap (only_or (character_of code)) is

pub returns : goal.returns
returns c =
    let none = none-of c.next-2.result (sym c.is_some.ensures ∙ c.if-is_some.false) in
    let first : case_mapping_first c.to_lowercase-lower.result ≡ Some c.in-Some.first = sym c.in-Some.ensures.steps.0 in
    let second : case_mapping_second c.to_lowercase-lower.result ≡ None = cc in
    let third : case_mapping_third c.to_lowercase-lower.result ≡ None = c.to_lowercase-lower.ensures.packed second in
    let is = c.to_lowercase-lower.ensures.value ∙ ap to_lowercase c.character_of-character.ensures in
    only c.args.code_point (c.in-Some.first ∷ []) (rw (first, second, third) at is)

pub returns-then-is_some : goal.returns-then-is_some
returns-then-is_some c =
    let first : case_mapping_first c.to_lowercase-lower.result ≡ Some c.in-Some.first = sym c.in-Some.ensures.steps.0 in
    let same : c.next-2.result ≡ case_mapping_second c.to_lowercase-lower.result = cc in
    let more = some-of c.next-2.result (sym c.is_some.ensures ∙ c.if-is_some.true) in
    let second : case_mapping_second c.to_lowercase-lower.result ≡ Some more.0 = sym same ∙ more.1 in
    let is = c.to_lowercase-lower.ensures.value ∙ ap to_lowercase c.character_of-character.ensures in
    c.character_of-character.ensures ∙ only c.args.code_point _ (rw (first, second) at is)
