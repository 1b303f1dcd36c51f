-- What the rules and the certificates of the code mean.
use Rattle.std.specs.Prelude.{ℕ, suc, ◌/◌, ◌%◌, Bool, true, false, ◌==◌, List, [], ◌∷◌, map, replicate}
use Rattle.seg_rules.specs.declared.rules.Count.TheVariants.{Pairs}
use Rattle.seg_rules.specs.declared.rules.Row.{Row as GivenRow}
use Rattle.seg_rules.specs.declared.rules.Rules.{Rules}
use Rattle.seg_rules.specs.declared.certificate.Before.{Before as GivenBefore}
use Rattle.seg_rules.specs.declared.certificate.Entry.{Entry as GivenEntry}
use Rattle.seg_rules.specs.declared.certificate.Entry.TheVariants.{Marks as GivenMarks, Above, Below}
use Rattle.seg_rules.specs.declared.certificate.Due.{Due as GivenDue}
use Rattle.seg_rules.specs.declared.certificate.Certificate.{Certificate}
use Rattle.seg_rules.specs.RowRules.{Pattern, Row, RowRules, Before, Entry, Marks, Owed, Due, DueOf}
use Rattle.seg_rules.specs.Check.{Tables, get}

abbrev pub row_of : GivenRow → Row
row_of r = record { left = r.left.now; right = r.right.now; verdict = r.verdict }

abbrev pub rules_of : Rules → RowRules
rules_of r = record {
  above = map row_of r.above.now;
  below = map row_of r.below.now;
  has_marks = r.has_marks;
  marks = r.marks;
  bare = r.bare;
  alone = r.alone;
  at_end = r.at_end;
}

-- the flags of a pattern by a number: its lowest bit is the first
abbrev pub is_odd : ℕ → Bool
is_odd n = n % 2 == 1

unfoldable pub flags_by : Pattern → ℕ → List Bool
flags_by [] bits = is_odd bits ∷ []
flags_by ((class, Pairs) ∷ items) bits = is_odd bits ∷ (is_odd (bits / 2) ∷ flags_by items (bits / 2 / 2))
flags_by (item ∷ items) bits = is_odd bits ∷ flags_by items (bits / 2)

-- how many flags a pattern has
unfoldable pub width : Pattern → ℕ
width [] = 1
width ((class, Pairs) ∷ items) = suc (suc (width items))
width (item ∷ items) = suc (width items)

-- the flags of the left pattern of each row
unfoldable pub lives_by : List Row → List ℕ → List (List Bool)
lives_by [] bits = []
lives_by (row ∷ rows) [] = []
lives_by (row ∷ rows) (bits ∷ others) = flags_by row.left bits ∷ lives_by rows others

abbrev pub before_of : RowRules → GivenBefore → Before
before_of rules b = record { above = lives_by rules.above b.above.now; below = lives_by rules.below b.below.now; glues = b.glues }

abbrev pub no_row : Row
no_row = record { left = []; right = []; verdict = 0 }

abbrev pub owed_of : Bool → Row → ℕ → Entry
owed_of below row bits = Owed row.right (flags_by row.right bits) row.verdict below

abbrev pub entry_of : RowRules → GivenEntry → Entry
entry_of rules GivenMarks = Marks
entry_of rules (Above row bits) = owed_of false (get no_row rules.above row) bits
entry_of rules (Below row bits) = owed_of true (get no_row rules.below row) bits

abbrev pub due_by : RowRules → GivenDue → Due
due_by rules d = DueOf (map (entry_of rules) d.entries.now) d.otherwise

-- a verdict stays what it is
abbrev pub verdict_reads : ℕ → ℕ → List (ℕ × ℕ)
verdict_reads n verdict = replicate (suc n) (verdict, verdict)

-- the tables of a certificate, for the symbols from 1 up to n
abbrev pub tables_of : RowRules → ℕ → Certificate → Tables
tables_of rules n certificate = record {
  befores = map (before_of rules) certificate.befores.now;
  moves = map (λ b. b.moves.now) certificate.befores.now;
  owes = map (λ b. b.owes) certificate.befores.now;
  dues = map (due_by rules) certificate.dues.now;
  reads = verdict_reads n 0 ∷ (verdict_reads n 1 ∷ (verdict_reads n 2 ∷ map (λ d. d.reads.now) certificate.dues.now));
}
