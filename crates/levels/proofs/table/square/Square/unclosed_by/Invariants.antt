use Rattle.std.proofs.Common.{◌≡◌, None}
use Rattle.levels.specs.Tables.{joins_of}
use Rattle.levels.specs.Breaks.{least_answer, unclosed_by_two}
use Rattle.levels.proofs.table.square.Square.unclosed_by.Given as goal

-- no code before this one breaks a law
abbrev pub invariant-loop-b : goal.invariant-loop-b
invariant-loop-b l = least_answer (unclosed_by_two l.self.levels (joins_of l.self) l.a) l.b ≡ None
