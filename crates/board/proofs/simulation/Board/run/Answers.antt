use Rattle.machine.proofs.Runs.{lives}
use Rattle.avr.specs.Chip.{instruction_of, avr}
use Rattle.avr.proofs.Sounds.{positive}
use Rattle.board.specs.States.{board_of, words_of}
use Rattle.board.proofs.Steps.{run_counts}
use Rattle.board.proofs.simulation.Board.run.Goals as goal

pub returns-clause-counts : goal.returns-clause-counts
returns-clause-counts c =
    let b = c.args.self.now in
    run_counts (words_of b) c.args.limit (board_of b) (board_of c.carry_on.new.self) c.carry_on.result c.carry_on.ensures.state

pub returns-clause-lives : goal.returns-clause-lives
returns-clause-lives c =
    let b = c.args.self.now in
    lives (avr (words_of b)) (λ a. positive a (instruction_of (words_of b) a))
