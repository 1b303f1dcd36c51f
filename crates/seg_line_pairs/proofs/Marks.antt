-- Which classes are marks, and which bear them.
use Rattle.std.proofs.Common.{◌≡◌, ℕ, ◌==◌, ◌||◌, ◌&&◌, not, Bool, true, false, List, [], ◌∷◌, refl, sym, ap, ◌∙◌, map}
use Rattle.std.proofs.lemmas.Bool.{eqb-true}
use Rattle.seg_line_pairs.specs.declared.engines.LineEngine.{LineEngine}
use Rattle.seg_line_pairs.specs.LineClasses.{class_number}
use Rattle.seg_line_pairs.specs.LineClasses.LineClass.{BK, CM, CM_EASTASIAN, CR, LF, NL, SP, ZW, ZWJ}
use Rattle.seg_line_pairs.specs.declared.engines.LineEngine.TheVariants.{Classic, Seventeen}
use Rattle.seg_line_pairs.specs.LineRules.{is_among, is_named_class, is_one_of}
use Rattle.seg_line_pairs.specs.LineUnits.{is_mark, bears_none, is_glued}

abbrev pub Fails : (ℕ → Bool) → List ℕ → Type 0
Fails test [] = Unit {0}
Fails test (one ∷ others) = (test one ≡ false) × Fails test others

-- a test that no number of a list passes is passed by none among them
pub none-among : (test : ℕ → Bool) (ones : List ℕ) (class : ℕ) → Fails test ones → is_among ones class ≡ true → test class ≡ false
none-among test [] class fails among = cc
none-among test (one ∷ others) class fails among = on (class == one) refl (λ among. none-among test others class fails.1 among) among
  where
    on : (b : Bool) → (class == one) ≡ b → (is_among others class ≡ true → test class ≡ false) → (b || is_among others class) ≡ true → test class ≡ false
    on true is later among = let same : class ≡ one = eqb-true class one is in rw same fails.0
    on false is later among = later among

-- the six that bear none
six : LineEngine → ℕ → Bool
six engine class = is_one_of engine (BK ∷ CR ∷ LF ∷ NL ∷ SP ∷ ZW ∷ []) class

-- a mark bears marks
pub mark-bears : (engine : LineEngine) (class : ℕ) → is_mark engine class ≡ true → bears_none engine class ≡ false
unfolding is_mark bears_none six
mark-bears Classic class is = none-among (six Classic) (map (class_number Classic) (CM ∷ CM_EASTASIAN ∷ ZWJ ∷ [])) class (refl, (refl, (refl, tt))) is
mark-bears Seventeen class is = none-among (six Seventeen) (map (class_number Seventeen) (CM ∷ CM_EASTASIAN ∷ ZWJ ∷ [])) class (refl, (refl, (refl, tt))) is

-- a class without a name is no mark
pub unnamed-apart : (class : ℕ) → is_named_class class ≡ false → is_mark Classic class ≡ false
unfolding is_mark
unnamed-apart class unnamed = on (is_mark Classic class) refl
  where
    on : (b : Bool) → is_mark Classic class ≡ b → b ≡ false
    on false is = refl
    on true is =
        let named : not (is_named_class class) ≡ false = none-among (λ class. not (is_named_class class)) (14 ∷ 14 ∷ 54 ∷ []) class (refl, (refl, (refl, tt))) is in
        let other : true ≡ not (is_named_class class) = sym (ap not unnamed) in
        other ∙ named

-- what is glued is a mark, and its base bears it
pub glued-bears : (engine : LineEngine) (base class : ℕ) → is_glued engine base class ≡ true → (is_mark engine class ≡ true) × (bears_none engine base ≡ false)
glued-bears engine base class is = on (is_mark engine class) (bears_none engine base) refl refl is
  where
    on : (m n : Bool) → is_mark engine class ≡ m → bears_none engine base ≡ n → (m && not n) ≡ true → (is_mark engine class ≡ true) × (bears_none engine base ≡ false)
    on true false mark bears is = (mark, bears)
    on true true mark bears is = cc
    on false n mark bears is = cc

-- a mark that isn't stands after a base that bears none
pub unglued-bears : (engine : LineEngine) (base class : ℕ) → is_glued engine base class ≡ false → is_mark engine class ≡ true → bears_none engine base ≡ true
unglued-bears engine base class is mark = on (bears_none engine base) refl
  where
    on : (n : Bool) → bears_none engine base ≡ n → n ≡ true
    on true bears = refl
    on false bears = let glued : is_glued engine base class ≡ true = rw (mark, bears) refl in sym is ∙ glued
