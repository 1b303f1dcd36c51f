-- What is seen of abbreviations.
use Rattle.seg_data.specs.WordSets.{Words}
use Rattle.seg_data.specs.ScriptWords.{words_of}
use Rattle.seg_segments.specs.declared.suppress.abbreviations.Abbreviations.{Abbreviations}
use Rattle.seg_segments.specs.declared.suppress.abbreviations.AbbreviationError.{AbbreviationError}
use Rattle.seg_segments.specs.declared.suppress.abbreviations.AbbreviationError.TheVariants.{Memory, LineFeed}
use Rattle.seg_segments.specs.InLines.{AreInLines}

-- the abbreviations of a set
abbrev pub abbreviations_of : Abbreviations → Words
abbreviations_of abbreviations = words_of abbreviations.words

-- why words were rejected: one of them has a line feed; or none has, and there is no memory
abbrev pub IsRejection : Words → AbbreviationError → Type 0
IsRejection words Memory = AreInLines words
IsRejection words LineFeed = AreInLines words → ⊥
