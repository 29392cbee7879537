-- Chains: levels one above another. Assumes nothing.
use Rattle.std.specs.Prelude.{ℕ, max, cond, ◌&&◌, nat_le, nat_lt}
use Rattle.levels.specs.Order.{Meaning}

-- The chain of n levels holds 0 to n - 1; each flows to itself and to the larger ones, and the join is the larger of two.
abbrev pub chain : ℕ → Meaning
chain n = record {
  held = λ a. nat_lt a n;
  flows = λ a b. nat_lt b n && nat_le a b;
  join = λ a b. cond (nat_lt a n && nat_lt b n) (max a b) 0;
}
