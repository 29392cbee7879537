use Rattle.routine.proofs.Lawful.{reading_law}
use Rattle.routine.proofs.laws.reading_stands.Goals as goal

pub returns : goal.returns
returns c = reading_law
