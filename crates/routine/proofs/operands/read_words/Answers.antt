use Rattle.std.proofs.Common.{sym, ◌∙◌, rules}
use Rattle.routine.specs.Operands.{number_as}
use Rattle.routine.proofs.Gathering.{unchanged}
use Rattle.routine.proofs.operands.read_words.Goals as goal

pub returns : goal.returns
returns c =
    let told = c.gather.ensures (number_as 0xFFFF) (λ token r k. sym (unchanged r) ∙ search rules) in
    search rules
