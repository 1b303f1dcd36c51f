-- What ends a run early.
use Rattle.segment_text.specs.declared.fault.Fault.{Fault}
use Rattle.segment_text.specs.declared.fault.Fault.TheVariants.{Read, MemoryBefore, Write, MemoryAmid}

-- a fault of what reads, or of the memory that it takes
abbrev pub IsReadFault : Fault → Type 0
IsReadFault (Read error) = Unit {0}
IsReadFault MemoryBefore = Unit {0}
IsReadFault (Write error) = ⊥
IsReadFault MemoryAmid = ⊥
