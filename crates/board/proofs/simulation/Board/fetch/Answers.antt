use Rattle.std.proofs.Common.{sym, subst}
use Rattle.avr.specs.Chip.{instruction_of}
use Rattle.avr.proofs.Sounds.{named}
use Rattle.cells.specs.declared.cell.Cell.{Cell}
use Rattle.cells.specs.Cells.{Shows}
use Rattle.board.specs.States.{words_of}
use Rattle.cells.proofs.Shown.{shows}
use Rattle.board.proofs.simulation.Board.fetch.Goals as goal

pub returns : goal.returns
returns c =
    let b = c.args.self.now in
    let i = instruction_of (words_of b) b.at in
    subst (λ (d : Cell). Shows b.at i d) (sym (b.fetched b.at b.inside)) (shows b.at i (named (words_of b) b.at))
