use Rattle.board.specs.States.{state_of, words_of}
use Rattle.board.proofs.Steps.{ran}
use Rattle.board.proofs.simulation.Board.carry_on.Goals as goal

pub returns-clause-state : goal.returns-clause-state
returns-clause-state c =
    let b = c.args.self.now in
    ran (words_of b) c.args.limit b.phase _ (state_of b) (state_of c.advance-ending.new.self) c.advance-ending.result c.in-Loading.is c.from-self.ensures c.advance-ending.ensures.state
