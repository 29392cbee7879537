use Rattle.std.proofs.Common.{◌≡◌, drop, vec_items}
use Rattle.routine.specs.Rows.{written_at}
use Rattle.routine.proofs.rows.write_entries.Given as goal

abbrev pub invariant-loop-entry : goal.invariant-loop-entry
invariant-loop-entry l = written_at l.start (drop l.entry-index l.entries) (vec_items l.rows) ≡ written_at l.start l.entries (vec_items l.initial.rows)
