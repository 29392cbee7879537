use Rattle.std.proofs.Common.{◌≡◌, true, false, sym, ◌∙◌, rules}
use Rattle.std.specs.List.{list_any}
use Rattle.routine.specs.Routines.{draft_of}
use Rattle.program.specs.Makings.{from_making, is_made}
use Rattle.program.specs.Standings.{judges, comes_out}
use Rattle.program.proofs.Outcomes.{decided}
use Rattle.program.proofs.working.Job.standing.Goals as goal

pub returns-then-comes_out : goal.returns-then-comes_out
returns-then-comes_out c = (decided _ _ _ c.args.making.now c.requires.judged c.requires.making).0 (search rules)

pub returns-else-comes_out : goal.returns-else-comes_out
returns-else-comes_out c = λ accepted.
    let out : comes_out c.args.judged (list_any judges (from_making (draft_of c.args.self.routine.now).steps)) (is_made c.args.making.now) ≡ false = search rules in
    let yes = (decided _ _ c.args.judged c.args.making.now c.requires.judged c.requires.making).1 accepted in
    let both : false ≡ true = sym out ∙ yes in
    absurd (cc)
