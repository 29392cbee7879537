use Rattle.text.proofs.Worded.{tokens_law}
use Rattle.text.proofs.laws.tokens_stand.Goals as goal

pub returns : goal.returns
returns c = tokens_law
