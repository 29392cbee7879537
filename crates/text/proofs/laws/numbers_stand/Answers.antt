use Rattle.text.proofs.Numbered.{numbers_law}
use Rattle.text.proofs.laws.numbers_stand.Goals as goal

pub returns : goal.returns
returns c = numbers_law
