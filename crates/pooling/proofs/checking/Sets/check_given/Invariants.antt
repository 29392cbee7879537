use Rattle.std.proofs.Common.{◌≡◌}
use Rattle.verdicts.specs.Verdict.{first, fine}
use Rattle.pooled.specs.Pools.{given_rule}
use Rattle.pooling.proofs.checking.Sets.check_given.Given as goal

abbrev pub invariant-loop-row : goal.invariant-loop-row
invariant-loop-row l = first (given_rule l.self.first.words l.self.first.rows.now l.self.second.rows.now) l.row ≡ fine
