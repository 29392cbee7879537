-- What a word does to levels. Assumes nothing.
use Rattle.std.specs.Prelude.{ℕ, cond, List, [], ◌∷◌}
use Rattle.levels.specs.Order.{Meaning}
use Rattle.machine.specs.Machine.{Machine, Kind, plain, forks, calls, rets}
use Rattle.secrecy.specs.Rows.{Rows}

-- the join of a level and the levels of some places
abbrev pub joined : Meaning → ℕ → (ℕ → ℕ) → List ℕ → ℕ
joined m base level [] = base
joined m base level (q ∷ qs) = m.join (level q) (joined m base level qs)

-- the join of the levels of some places alone; 0 of none
abbrev pub join_of_all : Meaning → (ℕ → ℕ) → List ℕ → ℕ
join_of_all m level [] = 0
join_of_all m level (q ∷ []) = level q
join_of_all m level (q ∷ (r ∷ rs)) = m.join (level q) (join_of_all m level (r ∷ rs))

-- the level of what decides where a word leads: the join of the places that a fork's decision comes from, and 0 of a word
-- that decides nothing
abbrev pub deciding_of : Meaning → (ℕ → ℕ) → Kind → ℕ
deciding_of m level (plain b c) = 0
deciding_of m level (forks qs b c b' c') = join_of_all m level qs
deciding_of m level (calls t c) = 0
deciding_of m level (rets c) = 0

module _ {B V W : Type 0} (m : Meaning) (M : Machine B V W) (R : Rows) where
  -- the deciding level of the word at an address
  abbrev pub deciding : ℕ → ℕ
  deciding a = deciding_of m (R.level a) (M.kind a)

  -- the program-counter level, the join of region level and deciding level: how secret it is which way is taken from here
  abbrev pub pc_level : ℕ → ℕ
  pc_level a = m.join (R.region a) (deciding a)

  -- The level of a place after the word at an address. A written place has the region level joined with the level of each
  -- place that its value comes from, and any other place the level that it had.
  abbrev pub level_after : ℕ → ℕ → ℕ
  level_after a p = cond (M.writes a p) (joined m (R.region a) (R.level a) (M.sources a p)) (R.level a p)
