-- Which part of a written order is not made, and which law it breaks. Assumes nothing.
use Rattle.std.specs.Prelude.{ℕ, List, Option, None, Some}
use Rattle.std.specs.Option.{option_or, option_and_then}
use Rattle.verdicts.specs.Verdict.{Verdict, fine, refused, Outcome, made, unmade}
use Rattle.levels.specs.declared.table.square.BrokenLaw.{BrokenLaw}
use Rattle.levels.specs.Order.{Meaning}
use Rattle.levels.specs.Tables.{join_in, squared}
use Rattle.levels.specs.Breaks.{broken_law}
use Rattle.orders.specs.Written.{Form, Written, chain, compartments, table, one, pair}
use Rattle.orders.specs.Making.{making_of}

-- a square that is right: how many levels, and the bytes
abbrev pub if_squared : Verdict → ℕ × List ℕ → Option (ℕ × List ℕ)
if_squared fine square = Some square
if_squared (refused r) square = None

-- the join bytes of a table as a square, where their sizes are right; other orders have none
abbrev pub square_of : Form → Option (ℕ × List ℕ)
square_of (chain n) = None
square_of (compartments n) = None
square_of (table n bytes) = if_squared (squared n bytes) (n, bytes)

-- the law that a simple order breaks first: only the joins of a square can break one
abbrev pub broken_by_form : Form → Option BrokenLaw
broken_by_form form = option_and_then (λ square. broken_law square.0 (join_in square.1 square.0)) (square_of form)

-- a form that is not made
abbrev pub unmade_form : Outcome Meaning → Form → Option Form
unmade_form (made m) form = None
unmade_form (unmade r) form = Some form

-- the first part of an order that is not made: it decides the refusal
abbrev pub first_unmade : Written → Option Form
first_unmade (one form) = unmade_form (making_of form) form
first_unmade (pair first second) = option_or (unmade_form (making_of first) first) (unmade_form (making_of second) second)
