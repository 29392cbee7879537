-- Levels filled in: of all accepted rows with given join addresses, remaining cycles and functions, and with a first row at or above
-- a given one, those with the least levels. Assumes nothing.
use Rattle.std.specs.Prelude.{◌≡◌, ℕ, ◌+◌, ◌*◌, ◌<◌, ◌≤◌, true, ◌⊎◌, List, length}
use Rattle.levels.specs.Order.{Meaning, Laws}
use Rattle.machine.specs.Machine.{Machine, Kind, plain, forks, calls, rets}
use Rattle.secrecy.specs.Rows.{Rows, rows_of, IsPlace, columns}
use Rattle.secrecy.specs.Flow.{pc_level, level_after}
use Rattle.secrecy.specs.Accepted.{Accepted, Accepts}

-- two sets of rows have the same given columns: join address, remaining cycles and function
pub record SameGiven (R S : Rows) : Type 0 where
  pub join_address : (row : ℕ) → R.join_address row ≡ S.join_address row
  pub remaining : (row : ℕ) → R.remaining row ≡ S.remaining row
  pub function : (row : ℕ) → R.function row ≡ S.function row

-- the levels of one row are at or below those of another set of rows
pub record RowBelow (m : Meaning) (row : ℕ) (R S : Rows) : Type 0 where
  pub levels : (p : ℕ) → m.flows (R.level row p) (S.level row p) ≡ true
  pub region : m.flows (R.region row) (S.region row) ≡ true

-- and so are those of every row
abbrev pub Below : Meaning → Rows → Rows → Type 0
Below m R S = (row : ℕ) → RowBelow m row R S

-- What filling in goes by, for any order that keeps the laws and any machine.
module _ {B V W : Type 0} (m : Meaning) (M : Machine B V W) (R : Rows) where
  -- control may go from the word at a to b
  abbrev pub LeadsBy : ℕ → Kind → ℕ → Type 0
  LeadsBy a (plain b' c) b = b ≡ b'
  LeadsBy a (forks qs b' c b'' c') b = (b ≡ b') ⊎ (b ≡ b'')
  LeadsBy a (calls t c) b = b ≡ t
  LeadsBy a (rets c) b = ((k : ℕ) × (k < M.size) × ((d : ℕ) × (M.kind k ≡ calls (R.function a) d)) × (b ≡ k + 1)) ⊎ ((R.function a ≡ 0) × (b ≡ M.size))

  -- by the word that stands there
  abbrev pub Leads : ℕ → ℕ → Type 0
  Leads a b = LeadsBy a (M.kind a) b

  -- nothing is left to raise along the way from a to b
  pub record SettledOn (a b : ℕ) : Type 0 where
    pub levels : (p : ℕ) → IsPlace p → m.flows (level_after m M R a p) (R.level b p) ≡ true
    pub region : 0 < R.remaining a → 0 < R.remaining b → m.flows (pc_level m M R a) (R.region b) ≡ true

  -- nor along any other to a row that there is
  abbrev pub Settled : Type 0
  Settled = (a b : ℕ) → a < M.size → b ≤ M.size → Leads a b → SettledOn a b

  -- every level is held
  pub record AllHeld : Type 0 where
    pub levels : (row p : ℕ) → m.held (R.level row p) ≡ true
    pub regions : (row : ℕ) → m.held (R.region row) ≡ true

  -- What is at or below a settled set of rows with the same given columns stays so where a level is raised along a way: to its join
  -- with the level after the word, or, of a region level between two rows inside, with the pc_level.
  pub record RaisesBelow (S : Rows) : Type 0 where
    pub levels : (a b p : ℕ) → a < M.size → b ≤ M.size → Leads a b → IsPlace p → m.flows (m.join (R.level b p) (level_after m M R a p)) (S.level b p) ≡ true
    pub regions : (a b : ℕ) → a < M.size → b ≤ M.size → Leads a b → 0 < R.remaining a → 0 < R.remaining b → m.flows (m.join (R.region b) (pc_level m M R a)) (S.region b) ≡ true

module _ {B V W : Type 0} (m : Meaning) (M : Machine B V W) (given : List ℕ) where
  -- rows that fill in what is given: they are accepted, have its given columns, and no level of its first row lies above theirs
  pub record FillsIn (rows : List ℕ) : Type 0 where
    pub accepted : Accepts m M rows
    pub same : SameGiven (rows_of M.size rows) (rows_of M.size given)
    pub above : RowBelow m 0 (rows_of M.size given) (rows_of M.size rows)

  -- the least such rows
  pub record LeastIn (rows : List ℕ) : Type 0 where
    pub fills : FillsIn rows
    pub least : (other : List ℕ) → FillsIn other → Below m (rows_of M.size rows) (rows_of M.size other)

  -- Rows that settle with what is given: as above, but instead of being accepted they have held levels and are settled.
  pub record SettlesIn (rows : List ℕ) : Type 0 where
    pub whole : length rows ≡ (M.size + 1) * columns
    pub same : SameGiven (rows_of M.size rows) (rows_of M.size given)
    pub above : RowBelow m 0 (rows_of M.size given) (rows_of M.size rows)
    pub held : AllHeld m M (rows_of M.size rows)
    pub settled : Settled m M (rows_of M.size rows)

  -- the least such rows
  pub record LeastSettled (rows : List ℕ) : Type 0 where
    pub settles : SettlesIn rows
    pub least : (other : List ℕ) → SettlesIn other → Below m (rows_of M.size rows) (rows_of M.size other)

-- The laws of filling in. A raise along one way keeps everything below every settled set, accepted rows are settled, and settled rows
-- below accepted ones are accepted themselves. Nothing here speaks of the order in which ways are looked at.
pub record FillingFor (B V W : Type 0) : Type 0 where
  pub raises : (m : Meaning) → Laws m → (M : Machine B V W) (R S : Rows) → Settled m M S → SameGiven R S → Below m R S → RaisesBelow m M R S
  pub from_accepted : (m : Meaning) → Laws m → (M : Machine B V W) (S : Rows) → Accepted m M S → Settled m M S
  pub settles : (m : Meaning) → Laws m → (M : Machine B V W) (R S : Rows) → Accepted m M S → SameGiven R S → Below m R S → AllHeld m M R → Settled m M R → Accepted m M R

-- the laws at some fixed types
abbrev pub FillingStands : Type 0
FillingStands = FillingFor (ℕ → ℕ) ℕ ℕ
