use Rattle.cells.proofs.Shown.{shows}
use Rattle.cells.proofs.cell.Cell.new.Goals as goal

pub returns-clause-shows : goal.returns-clause-shows
returns-clause-shows c h = rw (c.way-way.ensures, c.route.ensures, c.cycles.ensures, c.cycles-2.ensures) (shows c.args.at c.args.instruction h)
