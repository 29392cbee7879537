use Rattle.std.proofs.Common.{◌≡◌, None}
use Rattle.levels.specs.Tables.{joins_of}
use Rattle.levels.specs.Breaks.{least_answer, broken_by_three}
use Rattle.levels.proofs.table.square.Square.broken_with_thirds.Given as goal

-- no code before this one breaks a law
abbrev pub invariant-loop-c : goal.invariant-loop-c
invariant-loop-c l = least_answer (broken_by_three (joins_of l.self) l.a l.b) l.c ≡ None
