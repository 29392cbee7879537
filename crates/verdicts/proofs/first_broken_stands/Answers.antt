use Rattle.verdicts.proofs.Firsts.{first_broken_law}
use Rattle.verdicts.proofs.first_broken_stands.Goals as goal

pub returns : goal.returns
returns c = first_broken_law
