-- What an order of a simple kind means, and the ranks of its levels. Assumes nothing.
use Rattle.std.specs.Prelude.{ℕ}
use Rattle.levels.specs.Order.{Meaning}
use Rattle.levels.specs.Chains.{chain}
use Rattle.levels.specs.Compartments.{compartments}
use Rattle.levels.specs.Tables.{table}
use Rattle.levels.specs.Ranks.{chain_rank, compartments_rank, counted_rank}
use Rattle.orders.specs.declared.simple.Simple.{Simple}
use Rattle.orders.specs.declared.simple.Simple.TheVariants.{Chain, Compartments, Table}

-- each kind means what the order that it holds means
abbrev pub meaning_of : Simple → Meaning
meaning_of (Chain o) = chain o.levels
meaning_of (Compartments o) = compartments o.bits
meaning_of (Table o) = table o.levels o.joins

-- each kind has the ranks of the order that it holds
abbrev pub simple_rank : Simple → ℕ → ℕ
simple_rank (Chain o) = chain_rank o.levels
simple_rank (Compartments o) = compartments_rank o.bits
simple_rank (Table o) = counted_rank (table o.levels o.joins) o.levels
