use Rattle.std.proofs.Common.{refl}
use Rattle.levels.specs.Tables.{every}
use Rattle.levels.proofs.table.Table.trivial.Goals as goal

pub invariant_of-result-clause-sound : goal.invariant_of-result-clause-sound
unfolding every
invariant_of-result-clause-sound c = refl
