-- An order of a simple kind keeps the laws, and so do its ranks, whichever it is. Assumes nothing.
use Rattle.std.proofs.Common.{arith}
use Rattle.levels.specs.Order.{Laws}
use Rattle.levels.specs.Tables.{join_in}
use Rattle.levels.specs.Squares.{test_laws}
use Rattle.levels.specs.Unions.{union_laws}
use Rattle.levels.specs.Ranks.{RankLaws}
use Rattle.levels.specs.ChainRanks.{chain_ranks}
use Rattle.levels.specs.UnionRanks.{union_ranks}
use Rattle.levels.specs.TableRanks.{table_ranks}
use Rattle.orders.specs.declared.simple.Simple.{Simple}
use Rattle.orders.specs.declared.simple.Simple.TheVariants.{Chain, Compartments, Table}
use Rattle.orders.specs.Simples.{meaning_of, simple_rank}
use Rattle.orders.specs.Chained.{chain_laws}

-- kind by kind
pub simple_laws : (o : Simple) → Laws (meaning_of o)
simple_laws (Chain o) = chain_laws o.levels o.size.0 o.size.1
simple_laws (Compartments o) = union_laws o.bits
simple_laws (Table o) = test_laws o.levels (join_in o.joins o.levels) o.size.0 (omega (arith, o.size.1)) o.sound

-- the ranks, kind by kind
pub simple_ranks : (o : Simple) → RankLaws (meaning_of o) (simple_rank o)
simple_ranks (Chain o) = chain_ranks o.levels o.size.1
simple_ranks (Compartments o) = union_ranks o.bits o.size.1
simple_ranks (Table o) = table_ranks o.levels o.joins o.size.0 o.size.1 o.sound
