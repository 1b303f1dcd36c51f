-- What is owed, as a part of what is claimed.
use Rattle.std.specs.Prelude.{◌≡◌, ◌&&◌, not, Bool, ◌-◌, ◌≤◌, Option, Some, None, List, length, map, drop, if◌then◌else◌}
use Rattle.seg_rules.specs.declared.certificate.Entry.{Entry as GivenEntry}
use Rattle.seg_rules.specs.declared.dues.Part.{Part}
use Rattle.seg_rules.specs.declared.dues.Number.{Number}
use Rattle.seg_rules.specs.declared.dues.Reading.{Reading as GivenReading}
use Rattle.seg_rules.specs.declared.dues.Reading.TheVariants.{Decides as GivenDecides, Stays as GivenStays, Drops as GivenDrops}
use Rattle.seg_rules.specs.Check.{get}
use Rattle.seg_rules.specs.RowRules.{Row, RowRules, Owed, Due, DueOf, Reading, Decides, Stays, Drops, is_full, is_live, verdict_of_entry}
use Rattle.seg_rules.specs.Given.{entry_of, no_row}

-- the rows above that of marks or those below it, and the row with a number
abbrev pub rows_at : RowRules → Bool → List Row
rows_at rules below = if below then rules.below else rules.above

abbrev pub row_at : RowRules → Number → Row
row_at rules number = get no_row (rows_at rules number.below) number.row

-- what is owed is so many of the last entries of the claim; of nothing it says nothing
pub record IsLast (rules : RowRules) (claim : List GivenEntry) (part : Part) (due : Due) : Type 0 where
  pub within : part.matched ≤ length claim
  pub is : due ≡ DueOf (map (entry_of rules) (drop (length claim - part.matched) claim)) part.otherwise

abbrev pub IsPart : RowRules → List GivenEntry → Option Part → Due → Type 0
IsPart rules claim None due = Unit {0}
IsPart rules claim (Some part) due = IsLast rules claim part due

-- what becomes of an entry, as the code says it
abbrev pub reading_of : RowRules → GivenReading → Reading
reading_of rules (GivenDecides verdict) = Decides verdict
reading_of rules (GivenStays entry verdict) = Stays (entry_of rules entry)
reading_of rules GivenDrops = Drops

-- an entry that stays has this verdict
abbrev pub HasVerdict : RowRules → GivenReading → Type 0
HasVerdict rules (GivenStays entry verdict) = verdict ≡ verdict_of_entry (entry_of rules entry)
HasVerdict rules _ = Unit {0}

abbrev pub IsReading : RowRules → Option GivenReading → Reading → Type 0
IsReading rules None reading = Unit {0}
IsReading rules (Some given) reading = (reading_of rules given ≡ reading) × HasVerdict rules given

-- what becomes of the entry of a row, by what of its right pattern is live then
abbrev pub reading_by : Bool → Row → List Bool → Bool → Reading
reading_by below row next is_end =
    if is_full next then Decides row.verdict else (if is_live next && not is_end then Stays (Owed row.right next row.verdict below) else Drops)
