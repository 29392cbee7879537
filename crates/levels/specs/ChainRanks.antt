-- The ranks of a chain keep the laws. Assumes nothing.
use Rattle.std.specs.Prelude.{ℕ, ◌≤◌}
use Rattle.std.proofs.Common.{rules}
use Rattle.levels.specs.Chains.{chain}
use Rattle.levels.specs.Ranks.{RankLaws, chain_rank}

-- whatever its size
pub chain_ranks : (n : ℕ) → n ≤ 256 → RankLaws (chain n) (chain_rank n)
chain_ranks n few = search rules
