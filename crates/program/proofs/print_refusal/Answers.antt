use Rattle.std.proofs.Common.{ap, ◌∙◌, arith}
use Rattle.verdicts.specs.Verdict.{refused}
use Rattle.words.specs.Legal.{word_refusal}
use Rattle.program.proofs.Within.{undecodable_within}
use Rattle.program.proofs.print_refusal.Goals as goal

pub bounds-words-from : goal.bounds-words-from
bounds-words-from c =
    let within = undecodable_within c.args.words.now c.in-Undecodable.at (c.requires ∙ ap (λ f. refused (word_refusal f)) c.in-Undecodable.is) in
    omega (arith, c.from.ensures)
