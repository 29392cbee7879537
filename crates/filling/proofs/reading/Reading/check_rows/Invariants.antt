use Rattle.std.proofs.Common.{◌≡◌}
use Rattle.secrecy.specs.Rules.{row_rule}
use Rattle.verdicts.specs.Verdict.{first, fine}
use Rattle.filling.specs.Seeds.{seed_of}
use Rattle.filling.proofs.reading.Reading.check_rows.Given as goal

abbrev pub invariant-loop-row : goal.invariant-loop-row
invariant-loop-row g l = first (row_rule (g.O.Order.meaning l.self.order.now) l.self.rows.words (seed_of l.self.rows.rows.now)) l.row ≡ fine
