-- What is combined, and the laws of combining. Assumes nothing.
use Rattle.std.specs.Prelude.{◌≡◌, Bool, true}

-- Values of a type that are combined two by two: which of them are members, the least one, and the join of each two.
pub record Joins (T : Type 0) : Type 0 where
  pub member : T → Bool
  pub least : T
  pub join : T → T → T

-- The members are a join-semilattice with a least element. Nothing is owed of other values.
pub record JoinLaws {T : Type 0} (j : Joins T) : Type 0 where
  pub least_member : j.member j.least ≡ true
  pub join_member : (a b : T) → j.member a ≡ true → j.member b ≡ true → j.member (j.join a b) ≡ true
  pub neutral : (a : T) → j.member a ≡ true → j.join j.least a ≡ a
  pub idempotent : (a : T) → j.member a ≡ true → j.join a a ≡ a
  pub commutative : (a b : T) → j.member a ≡ true → j.member b ≡ true → j.join a b ≡ j.join b a
  pub associative : (a b c : T) → j.member a ≡ true → j.member b ≡ true → j.member c ≡ true → j.join (j.join a b) c ≡ j.join a (j.join b c)

-- a lies at or below b: b is the join of the two
abbrev pub IsBelow : {T : Type 0} → Joins T → T → T → Type 0
IsBelow j a b = j.join a b ≡ b
