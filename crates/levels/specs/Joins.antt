-- Orders that are given by the join of each two codes. Assumes nothing.
use Rattle.std.specs.Prelude.{ℕ, cond, ◌&&◌, ◌==◌, nat_lt}
use Rattle.levels.specs.Order.{Meaning}

-- The order of the codes 0 to n - 1 with the join j: a may flow to b where b is the join of the two.
abbrev pub by_join : ℕ → (ℕ → ℕ → ℕ) → Meaning
by_join n j = record {
  held = λ a. nat_lt a n;
  flows = λ a b. nat_lt a n && (nat_lt b n && j a b == b);
  join = λ a b. cond (nat_lt a n && nat_lt b n) (j a b) 0;
}
