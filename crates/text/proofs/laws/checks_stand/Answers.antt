use Rattle.text.proofs.Refused.{checks_law}
use Rattle.text.proofs.laws.checks_stand.Goals as goal

pub returns : goal.returns
returns c = checks_law
