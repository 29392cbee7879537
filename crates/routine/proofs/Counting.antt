-- How many lines a file has. Assumes nothing.
use Rattle.std.proofs.Common.{ℕ, ◌≤◌, List, [], ◌∷◌, length, ap, arith}
use Rattle.std.proofs.lemmas.Iterator.{YieldsList}
use Rattle.std.proofs.lemmas.Iterator.Consumers.{YieldsList-from_shown}
use Rattle.text.specs.declared.cursors.Lines.{Lines}
use Rattle.text.specs.Lines.{lines_of, line_left, lines_left, GivesLine}

-- there are no more lines than bytes
pub lines_few : (bs : List ℕ) → length (lines_of bs) ≤ length bs
unfolding lines_of
lines_few [] = omega arith
lines_few (b ∷ bs) = grind (arith, lines_few bs)

pub lines_given : (lines : Lines) → YieldsList GivesLine line_left lines (lines_left lines)
lines_given lines = YieldsList-from_shown GivesLine line_left lines_left (λ s t gives. ap length gives.first.0) (λ s line t gives. gives.first) lines
