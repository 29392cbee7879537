use Rattle.machine.proofs.Runs.{counts_for}
use Rattle.machine.proofs.counts_stand.Goals as goal

pub returns : goal.returns
returns c = counts_for
