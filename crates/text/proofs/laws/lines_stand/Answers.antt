use Rattle.text.proofs.Lined.{lines_law}
use Rattle.text.proofs.laws.lines_stand.Goals as goal

pub returns : goal.returns
returns c = lines_law
