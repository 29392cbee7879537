use Rattle.std.proofs.Common.{◌≡◌, ℕ, ◌<◌, length, rules, arith}
use Rattle.avr.specs.Chip.{instruction_of}
use Rattle.cells.specs.Cells.{cell_of}
use Rattle.cells.specs.declared.cell.Cell.{Cell}
use Rattle.board.specs.Steps.{blank_cell}
use Rattle.avr.proofs.Made.{made}
use Rattle.board.proofs.simulation.making.cells_of.Goals as goal

pub returns : goal.returns
returns c =
    let ws = c.args.listing.now.words.now in
    λ k h. made _ (λ (i : ℕ) (y : Cell). i < length ws → y ≡ cell_of i (instruction_of ws i)) _ (λ i y q k. (search rules, search rules)) _ 1024 c.from_fn.ensures.items k blank_cell (omega (arith, h)) h
