-- On which lines of a file the numbers of a routine stand. Assumes nothing.
use Rattle.std.specs.Prelude.{ℕ, ◌-◌, Bool, cond, not, ◌&&◌, List, [], ◌∷◌, Some, None, Option, nat_lt}
use Rattle.routine.specs.declared.stretches.Stretch.{Stretch}

-- a stretch has the number at an index
abbrev pub covers : Stretch → ℕ → Bool
covers s i = not (nat_lt i s.first) && nat_lt (i - s.first) s.count

-- the line of the last stretch that has it, where `found` is what those before them gave
abbrev pub line_from : Option ℕ → List Stretch → ℕ → Option ℕ
line_from found [] i = found
line_from found (s ∷ ss) i = line_from (cond (covers s i) (Some s.line) found) ss i

-- the line on which the number at an index was written last
abbrev pub line_of : List Stretch → ℕ → Option ℕ
line_of stretches i = line_from None stretches i
