-- Ranks of the levels of an order, and the laws that they keep. Assumes nothing.
use Rattle.std.specs.Prelude.{◌≡◌, ◌≢◌, ℕ, ◌+◌, ◌/◌, ◌%◌, ◌^◌, ◌<◌, Bool, true, false, cond, not, ◌&&◌, ◌==◌, nat_lt, count_ones}
use Rattle.std.specs.List.{range_with_len, count_by}
use Rattle.levels.specs.Order.{Meaning}
use Rattle.levels.specs.Pairs.{both_held}

-- What the ranks of the codes of an order keep: each rank is a 16-bit number, and it rises strictly along each flow from a code
-- to another.
pub record RankLaws (m : Meaning) (rank : ℕ → ℕ) : Type 0 where
  -- code 0 has the rank 0, and so has a code that is not held
  pub zero_rank : rank 0 ≡ 0
  pub unheld_rank : (a : ℕ) → m.held a ≡ false → rank a ≡ 0
  -- along a flow between two codes the rank rises
  pub rises : (a b : ℕ) → m.flows a b ≡ true → a ≢ b → rank a < rank b
  -- a byte has a rank that is a byte
  pub small_rank : (a : ℕ) → a < 256 → rank a < 256
  -- each rank has 16 bits
  pub word_rank : (a : ℕ) → rank a < 65536

-- Where a held level is joined with another held one, it stays or its rank rises.
abbrev pub JoinRaises : Meaning → (ℕ → ℕ) → Type 0
JoinRaises m rank = (a b : ℕ) → m.held a ≡ true → m.held b ≡ true → m.join a b ≢ a → rank a < rank (m.join a b)

-- In a chain of n levels the rank of a level is its code. Here and below a code that is not held has the rank 0.
abbrev pub chain_rank : ℕ → ℕ → ℕ
chain_rank n a = cond (nat_lt a n) a 0

-- Among compartments of n bits the rank of a level is how many compartments it has: how many bits of its code are set.
abbrev pub compartments_rank : ℕ → ℕ → ℕ
compartments_rank n a = cond (nat_lt a (2 ^ n)) (count_ones a) 0

-- whether a is another code than b, and flows to it
abbrev pub flows_strictly : Meaning → ℕ → ℕ → Bool
flows_strictly m b a = m.flows a b && not (a == b)

-- In an order that holds no code from n on, the rank of b is how many other codes flow to it.
abbrev pub counted_rank : Meaning → ℕ → ℕ → ℕ
counted_rank m n b = count_by (flows_strictly m b) (range_with_len 0 n)

-- In a pair of p with the ranks r and q with the ranks s, the rank of a held code is the sum of the ranks of its parts.
abbrev pub pair_rank : Meaning → Meaning → (ℕ → ℕ) → (ℕ → ℕ) → ℕ → ℕ
pair_rank p q r s a = cond (both_held p q a) (r (a / 256) + s (a % 256)) 0
