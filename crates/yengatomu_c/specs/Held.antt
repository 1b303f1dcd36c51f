-- What a slot holds.
use Rattle.std.specs.Option.{option_map}
use Rattle.std.specs.Prelude.{Option}
use Rattle.yengatomu_c.specs.declared.slot.Slot.{Slot}
use Rattle.yengatomu_segmenter.specs.Finders.{Finder, finder_of}

-- what the slot's segmenter finds boundaries by, if it holds one
abbrev pub finder_in : Slot → Option Finder
finder_in slot = option_map finder_of slot.handle.holds.held
