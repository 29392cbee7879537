use Rattle.std.proofs.Common.{arith, rules}
use Rattle.board.specs.States.{state_of, words_of}
use Rattle.board.proofs.Steps.{run_last, run_more, step_grows}
use Rattle.board.proofs.simulation.Board.advance.Goals as goal

pub returns-in-Break-clause-state : goal.returns-in-Break-clause-state
returns-in-Break-clause-state c =
    let b' = c.loop-ending.self in
    let t = state_of c.step.new.self in
    c.loop-ending.invariant.0 t c.in-Break.ending (run_last (words_of c.args.self.now) (words_of b') c.args.limit (state_of b') t c.in-Break.ending c.loop-ending.invariant.1.words c.in-Break.ensures.state)

pub loop-ending-preserved : goal.loop-ending-preserved
loop-ending-preserved c =
    let b' = c.loop-ending.self in
    let u = state_of c.step.new.self in (
      (λ t e r. c.loop-ending.invariant.0 t e (run_more (words_of c.args.self.now) (words_of b') c.args.limit (state_of b') u t e c.loop-ending.invariant.1.words c.in_default.ensures.state r)),
      search rules,
    )

pub loop-ending-smaller : goal.loop-ending-smaller
loop-ending-smaller c =
    let b = c.loop-ending.self in
    let g = step_grows (words_of b) c.args.limit (state_of b) (state_of c.step.new.self) c.in_default.ensures.state in
    omega (arith, g.0, g.1)
