-- A chain keeps the laws. Assumes nothing.
use Rattle.std.specs.Prelude.{ℕ, ◌≤◌}
use Rattle.std.proofs.Common.{rules}
use Rattle.levels.specs.Order.{Laws}
use Rattle.levels.specs.Chains.{chain}

-- whatever its size
pub chain_laws : (n : ℕ) → 1 ≤ n → n ≤ 256 → Laws (chain n)
chain_laws n some few = search rules
