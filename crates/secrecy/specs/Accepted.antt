-- What it means that rows are accepted for a machine's words, in words that do not follow the checks. Assumes nothing.
use Rattle.std.specs.Prelude.{◌≡◌, ℕ, ◌+◌, ◌*◌, ◌<◌, ◌≤◌, true, ◌⊎◌, List, length}
use Rattle.verdicts.specs.Verdict.{fine}
use Rattle.levels.specs.Order.{Meaning}
use Rattle.machine.specs.Machine.{Machine, Kind, plain, forks, calls, rets}
use Rattle.secrecy.specs.Rows.{Rows, rows_of, IsPlace, columns}
use Rattle.secrecy.specs.Flow.{deciding, pc_level, level_after}
use Rattle.secrecy.specs.Rules.{rules_of}

-- the shape of a row, for a listing of n words
pub record Shape (n : ℕ) (R : Rows) (row : ℕ) : Type 0 where
  pub outside : R.remaining row ≡ 0 → (R.region row ≡ 0) × (R.join_address row ≡ 0)
  pub inside : 0 < R.remaining row → R.join_address row < n
  pub listed : R.function row < n
  pub begin : row ≡ 0 → R.function row ≡ 0
  pub finish : row ≡ n → (R.region row ≡ 0) × (R.join_address row ≡ 0) × (R.remaining row ≡ 0) × (R.function row ≡ 0)

-- an edge from inside that ends the region, in c cycles
pub record Leaves (R : Rows) (a b c : ℕ) : Type 0 where
  pub there : b ≡ R.join_address a
  pub outside : R.remaining b ≡ 0
  pub all : R.remaining a ≡ c

module _ {B V W : Type 0} (m : Meaning) (M : Machine B V W) (R : Rows) where
  -- an edge from inside that stays in the region
  pub record Stays (a b c : ℕ) : Type 0 where
    pub same : R.join_address b ≡ R.join_address a
    pub inside : 0 < R.remaining b
    pub less : R.remaining a ≡ c + R.remaining b
    pub region : m.flows (pc_level m M R a) (R.region b) ≡ true

  -- every level after the word at a flows to the level in row b
  abbrev pub Flows : ℕ → ℕ → Type 0
  Flows a b = (p : ℕ) → IsPlace p → m.flows (level_after m M R a p) (R.level b p) ≡ true

  -- an edge of a word that goes on or forks
  pub record Edge (a b c : ℕ) : Type 0 where
    pub listed : b < M.size
    pub function : R.function b ≡ R.function a
    pub timed : 0 < R.remaining a → Leaves R a b c ⊎ Stays a b c
    pub levels : Flows a b

  -- a call: it goes to the first word of a function, and the word after it is there to return to
  pub record CallRule (a t : ℕ) : Type 0 where
    pub outside : R.remaining a ≡ 0
    pub listed : t < M.size
    pub named : R.function t ≡ t
    pub back : a + 1 < M.size
    pub function : R.function (a + 1) ≡ R.function a
    pub levels : Flows a t

  -- a return: it may lead to the word after any call of its function, and from function 0 out of the routine
  pub record RetRule (a : ℕ) : Type 0 where
    pub outside : R.remaining a ≡ 0
    pub levels : (b c : ℕ) → b < M.size → M.kind b ≡ calls (R.function a) c → Flows a (b + 1)
    pub finish : R.function a ≡ 0 → Flows a M.size

  abbrev pub WordRule : ℕ → Kind → Type 0
  WordRule a (plain b c) = Edge a b c
  WordRule a (forks qs b c b' c') = Edge a b c × Edge a b' c'
  WordRule a (calls t c) = CallRule a t
  WordRule a (rets c) = RetRule a

  -- rows that are accepted
  pub record Accepted : Type 0 where
    -- every level is held
    pub held : (row p : ℕ) → row ≤ M.size → IsPlace p → m.held (R.level row p) ≡ true
    pub regions : (row : ℕ) → row ≤ M.size → m.held (R.region row) ≡ true
    -- every row, the finish row too, has its shape
    pub shapes : (row : ℕ) → row ≤ M.size → Shape M.size R row
    -- every word keeps to the rows
    pub words : (a : ℕ) → a < M.size → WordRule a (M.kind a)
    -- outside every region nothing above level 0 decides
    pub low_outside : (a : ℕ) → a < M.size → R.remaining a ≡ 0 → deciding m M R a ≡ 0

-- a list of numbers that is accepted: it has the length of all the rows, and they are accepted
abbrev pub Accepts : {B V W : Type 0} → Meaning → Machine B V W → List ℕ → Type 0
Accepts m M rows = (length rows ≡ (M.size + 1) * columns) × Accepted m M (rows_of M.size rows)

-- the checks find nothing if the rows are accepted, and only then
abbrev pub RulesFor : Type 0 → Type 0 → Type 0 → Type 0
RulesFor B V W =
    (m : Meaning) (M : Machine B V W) (rows : List ℕ) → (rules_of m M rows ≡ fine → Accepts m M rows) × (Accepts m M rows → rules_of m M rows ≡ fine)

-- the law at some fixed types, since a contract speaks of such
abbrev pub RulesStand : Type 0
RulesStand = RulesFor (ℕ → ℕ) ℕ ℕ
