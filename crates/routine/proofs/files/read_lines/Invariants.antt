use Rattle.std.proofs.Common.{◌≡◌, ◌+◌, ◌<◌, ◌^◌, length}
use Rattle.std.specs.Iterator.Adapters.{enumerate_source, enumerate_count}
use Rattle.text.specs.Lines.{lines_left, lines_of}
use Rattle.routine.specs.Routines.{draft_of}
use Rattle.routine.specs.Files.{lines_from}
use Rattle.routine.proofs.files.read_lines.Given as goal

abbrev pub invariant-loop-before : goal.invariant-loop-before
invariant-loop-before l =
    (goal.iterator-loop-before).can_next l.before-iterator
    × (goal.iterator-loop-before).is_finite l.before-iterator
    × (lines_from (enumerate_count l.before-iterator + 1) (lines_left (enumerate_source l.before-iterator)) (draft_of l.routine) ≡ lines_from 1 (lines_of l.file) (draft_of l.initial.routine))
    × (enumerate_count l.before-iterator + length (lines_left (enumerate_source l.before-iterator)) < 2 ^ 64)
