use Rattle.std.proofs.Common.{◌≡◌, None}
use Rattle.levels.specs.Tables.{joins_of}
use Rattle.levels.specs.Breaks.{least_answer, unclosed_by}
use Rattle.levels.proofs.table.square.Square.unclosed.Given as goal

-- no code before this one breaks a law
abbrev pub invariant-loop-a : goal.invariant-loop-a
invariant-loop-a l = least_answer (unclosed_by l.self.levels (joins_of l.self)) l.a ≡ None
