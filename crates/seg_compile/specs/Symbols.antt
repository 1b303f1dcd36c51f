-- The symbols that code points have.
use Rattle.std.specs.Prelude.{◌≡◌, []}
use Rattle.seg_machine.specs.Machine.{Machine}
use Rattle.seg_compile.specs.declared.compile.Characters.{Characters}

-- a machine reads each code point as the symbol that it was given, and no other in its place
pub record HasSymbolsOf (characters : Characters) (m : Machine) : Type 0 where
  pub symbols : m.symbols ≡ characters.symbols
  pub shift : m.pseudo_symbol_shift ≡ characters.pseudo_symbol_shift
  pub map : m.pseudo_symbol_map ≡ characters.pseudo_symbol_map.items
  pub replaced : m.symbol_map ≡ []
