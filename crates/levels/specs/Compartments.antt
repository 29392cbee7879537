-- Compartments: levels that are sets. Assumes nothing.
use Rattle.std.specs.Prelude.{ℕ, ◌^◌, bit_or}
use Rattle.levels.specs.Order.{Meaning}
use Rattle.levels.specs.Joins.{by_join}

-- Compartments of n bits: a code below 2 ^ n is the set of its bits, and the join is the union. So a flows to b if their
-- union is b, which is to say that the bits of a are among those of b.
abbrev pub compartments : ℕ → Meaning
compartments n = by_join (2 ^ n) bit_or
