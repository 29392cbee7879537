use Rattle.text.proofs.Refused.{assignments_law}
use Rattle.text.proofs.laws.assignments_stand.Goals as goal

pub returns : goal.returns
returns c = assignments_law
