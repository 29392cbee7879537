-- What an order of secrecy levels means, and the laws that every order keeps. Assumes nothing.
use Rattle.std.specs.Prelude.{◌≡◌, ℕ, ◌<◌, Bool, true, false}

-- A level is named by a code, a number. The meaning of an order is which codes it holds, which code may flow to which, and
-- the join of each two codes. It answers for every number, so that nothing else has to be known of an order.
pub record Meaning : Type 0 where
  pub held : ℕ → Bool
  pub flows : ℕ → ℕ → Bool
  pub join : ℕ → ℕ → ℕ

-- What an order owes: its held codes are a bounded join-semilattice, in which bytes join to bytes. The four laws speak of held
-- codes; where one of them leaves out that a code is held, a flow that it supposes says so already (`flows_from_held`,
-- `flows_to_held`).
pub record Laws (m : Meaning) : Type 0 where
  -- the first law: 0 is held, and it may flow to all
  pub zero_held : m.held 0 ≡ true
  pub least : (a : ℕ) → m.held a ≡ true → m.flows 0 a ≡ true
  -- the second law: to flow is a partial order
  pub reflexive : (a : ℕ) → m.held a ≡ true → m.flows a a ≡ true
  pub transitive : (a b c : ℕ) → m.flows a b ≡ true → m.flows b c ≡ true → m.flows a c ≡ true
  pub antisymmetric : (a b : ℕ) → m.flows a b ≡ true → m.flows b a ≡ true → a ≡ b
  -- the third law: the join is the least held code that both flow to
  pub join_held : (a b : ℕ) → m.held a ≡ true → m.held b ≡ true → m.held (m.join a b) ≡ true
  pub join_left : (a b : ℕ) → m.held a ≡ true → m.held b ≡ true → m.flows a (m.join a b) ≡ true
  pub join_right : (a b : ℕ) → m.held a ≡ true → m.held b ≡ true → m.flows b (m.join a b) ≡ true
  pub join_least : (a b c : ℕ) → m.flows a c ≡ true → m.flows b c ≡ true → m.flows (m.join a b) c ≡ true
  -- the fourth law: bytes join to a byte
  pub join_small : (a b : ℕ) → a < 256 → b < 256 → m.join a b < 256
  -- a code that is not held flows nowhere, and nothing flows to it
  pub flows_from_held : (a b : ℕ) → m.flows a b ≡ true → m.held a ≡ true
  pub flows_to_held : (a b : ℕ) → m.flows a b ≡ true → m.held b ≡ true
  -- a code that is not held joins with any other to 0
  pub join_left_unheld : (a b : ℕ) → m.held a ≡ false → m.join a b ≡ 0
  pub join_right_unheld : (a b : ℕ) → m.held b ≡ false → m.join a b ≡ 0
