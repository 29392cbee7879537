use Rattle.std.proofs.Common.{◌≡◌, drop}
use Rattle.verdicts.specs.Verdict.{first_of}
use Rattle.secrecy.specs.Rows.{level_columns}
use Rattle.secrecy.specs.Rules.{held_rule}
use Rattle.filling.specs.Seeds.{seed_of}
use Rattle.filling.proofs.reading.Reading.check_codes.Given as goal

-- what the rules of all columns come to is what those of the columns that are left come to
abbrev pub invariant-loop-column : goal.invariant-loop-column
invariant-loop-column g l =
    let held = held_rule (g.O.Order.meaning l.self.order.now) l.self.rows.words (seed_of l.self.rows.rows.now) l.row in
    (l.column-items ≡ level_columns) × (first_of held level_columns ≡ first_of held (drop l.column-index level_columns))
