-- Pairs: two orders side by side. Assumes nothing.
use Rattle.std.specs.Prelude.{ℕ, ◌+◌, ◌*◌, ◌/◌, ◌%◌, Bool, cond, ◌&&◌, nat_lt}
use Rattle.levels.specs.Order.{Meaning}

-- A code below 65,536 has two bytes. Whether p holds the upper and q the lower one.
abbrev pub both_held : Meaning → Meaning → ℕ → Bool
both_held p q a = nat_lt a 65536 && (p.held (a / 256) && q.held (a % 256))

-- The pair of two orders: 256 * a + b stands for level a of the first with level b of the second. Both have to be held; flow
-- and join are those of the parts.
abbrev pub pair : Meaning → Meaning → Meaning
pair p q = record {
  held = both_held p q;
  flows = λ a b. nat_lt a 65536 && (nat_lt b 65536 && (p.flows (a / 256) (b / 256) && q.flows (a % 256) (b % 256)));
  join = λ a b. cond (both_held p q a && both_held p q b) (256 * p.join (a / 256) (b / 256) + q.join (a % 256) (b % 256)) 0;
}
