-- What making an order comes to, by how it is written. Assumes nothing.
use Rattle.std.specs.Prelude.{ℕ}
use Rattle.verdicts.specs.Verdict.{Outcome, made, unmade, making}
use Rattle.levels.specs.Order.{Meaning}
use Rattle.levels.specs.Faults.{sized}
use Rattle.levels.specs.Chains as chains
use Rattle.levels.specs.Compartments as compartments
use Rattle.levels.specs.Tables as tables
use Rattle.levels.specs.Pairs as pairs
use Rattle.levels.specs.Ranks.{pair_rank}
use Rattle.orders.specs.Simples.{meaning_of, simple_rank}
use Rattle.orders.specs.declared.making.Made.{Made}
use Rattle.orders.specs.declared.making.Made.TheVariants as built
use Rattle.orders.specs.Written.{Form, Written, chain, compartments, table, one, pair}

-- a simple order is made if its size, and a table's bytes, will do
abbrev pub making_of : Form → Outcome Meaning
making_of (chain n) = making (sized 256 n) (chains.chain n)
making_of (compartments n) = making (sized 16 n) (compartments.compartments n)
making_of (table n bytes) = making (tables.filling n bytes) (tables.table n bytes)

-- a pair is made of two orders; the first of them that is refused decides
abbrev pub both : Outcome Meaning → Outcome Meaning → Outcome Meaning
both (made m) (made n) = made (pairs.pair m n)
both (made m) (unmade r) = unmade r
both (unmade r) other = unmade r

-- what comes of an order as it is written
abbrev pub making_written : Written → Outcome Meaning
making_written (one form) = making_of form
making_written (pair first second) = both (making_of first) (making_of second)

-- what an order that was made means
abbrev pub made_meaning : Made → Meaning
made_meaning (built.Simple o) = meaning_of o
made_meaning (built.Pair o) = pairs.pair (meaning_of o.first) (meaning_of o.second)

-- and the ranks of its levels
abbrev pub made_rank : Made → ℕ → ℕ
made_rank (built.Simple o) = simple_rank o
made_rank (built.Pair o) = pair_rank (meaning_of o.first) (meaning_of o.second) (simple_rank o.first) (simple_rank o.second)
