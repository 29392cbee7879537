-- What each refusal of rows says, in words that do not follow the checks: the rule that is broken, and that everything before it
-- is right. Assumes nothing.
use Rattle.std.specs.Prelude.{◌≡◌, ◌≢◌, ℕ, ◌+◌, ◌*◌, ◌<◌, ◌≤◌, true, false, ◌⊎◌, List, [], ◌∷◌, ◌++◌, length}
use Rattle.std.specs.List.{All}
use Rattle.verdicts.specs.Verdict.{Refusal, refusal, refused}
use Rattle.levels.specs.Order.{Meaning}
use Rattle.machine.specs.Machine.{Machine, Kind, plain, forks, calls, rets}
use Rattle.secrecy.specs.Rows.{Rows, rows_of, cell, place_columns, level_columns, region_column, columns}
use Rattle.secrecy.specs.Flow.{deciding, pc_level, level_after}
use Rattle.secrecy.specs.Rules.{rules_of}
use Rattle.secrecy.specs.Edges.{EdgeAt, edges_of}
use Rattle.secrecy.specs.Accepted.{Shape, Flows}

module _ (n : ℕ) (R : Rows) where
  -- an edge from a to b stays in the listing of n words and in its function
  abbrev pub Kept : ℕ → ℕ → Type 0
  Kept a b = (b < n) × (R.function b ≡ R.function a)

  -- where the word at an address may lead, by what it is
  abbrev pub Bounded : ℕ → Kind → Type 0
  Bounded a (plain b c) = Kept a b
  Bounded a (forks qs b c b' c') = Kept a b × Kept a b'
  Bounded a (calls t c) = ((t < n) × (R.function t ≡ t)) × Kept a (a + 1)
  Bounded a (rets c) = Unit {0}

module _ (R : Rows) where
  -- a word may stand at an address: a call or a return only outside every region
  abbrev pub Free : ℕ → Kind → Type 0
  Free a (plain b c) = Unit {0}
  Free a (forks qs b c b' c') = Unit {0}
  Free a (calls t c) = R.remaining a ≡ 0
  Free a (rets c) = R.remaining a ≡ 0

  -- an edge from a to b in c cycles ends the region just in time
  abbrev pub Ends : ℕ → ℕ → ℕ → Type 0
  Ends a b c = (b ≡ R.join_address a) × ((R.remaining b ≡ 0) × (R.remaining a ≡ c))

  -- or it stays in the region, with so much less remaining
  abbrev pub Remains : ℕ → ℕ → ℕ → Type 0
  Remains a b c = (R.join_address b ≡ R.join_address a) × ((0 < R.remaining b) × (R.remaining a ≡ c + R.remaining b))

  -- an edge is in time: from inside it does one or the other
  abbrev pub Timed : ℕ → ℕ → ℕ → Type 0
  Timed a b c = 0 < R.remaining a → Ends a b c ⊎ Remains a b c

module _ {B V W : Type 0} (m : Meaning) (M : Machine B V W) (R : Rows) where
  -- on an edge from inside to inside the pc_level flows to the region level
  abbrev pub Raises : ℕ → ℕ → Type 0
  Raises a b = 0 < R.remaining a → 0 < R.remaining b → m.flows (pc_level m M R a) (R.region b) ≡ true

  -- all that is asked of an edge from a to b in c cycles
  abbrev pub Passes : ℕ → ℕ → ℕ → Type 0
  Passes a b c = Timed R a b c × (Flows m M R a b × Raises a b)

  -- all that is asked of an address on its own
  abbrev pub Addressed : ℕ → Type 0
  Addressed a = Free R a (M.kind a) × (Bounded M.size R a (M.kind a) × (R.remaining a ≡ 0 → deciding m M R a ≡ 0))

  -- the level of a place after the word at a flows to its level in row b
  abbrev pub FlowsAt : ℕ → ℕ → ℕ → Type 0
  FlowsAt a b p = m.flows (level_after m M R a p) (R.level b p) ≡ true

module _ {B V W : Type 0} (m : Meaning) (M : Machine B V W) (rows : List ℕ) where
  -- there are as many numbers as the rows take
  abbrev pub Enough : Type 0
  Enough = length rows ≡ (M.size + 1) * columns

  -- the codes of a row in some columns are held
  abbrev pub HeldIn : ℕ → List ℕ → Type 0
  HeldIn row some = All (λ column. m.held (cell M.size rows row column) ≡ true) some

  -- there are enough numbers, and each row before one has held codes and its shape
  pub record RowsBefore (row : ℕ) : Type 0 where
    pub enough : Enough
    pub each : (k : ℕ) → k < row → HeldIn k level_columns × Shape M.size (rows_of M.size rows) k

  -- all rows are right, and each address before one
  pub record AddressesBefore (a : ℕ) : Type 0 where
    pub rows_right : RowsBefore (M.size + 1)
    pub each : (k : ℕ) → k < a → Addressed m M (rows_of M.size rows) k

  -- all rows and all addresses are right, and each edge before one, where the list of edges is split
  pub record EdgesBefore (e : EdgeAt) : Type 0 where
    pub addresses_right : AddressesBefore M.size
    pub before : List EdgeAt
    pub after : List EdgeAt
    pub split : edges_of M (rows_of M.size rows) ≡ before ++ e ∷ after
    pub each : All (λ (d : EdgeAt). Passes m M (rows_of M.size rows) d.from d.to d.cycles) before

  -- what a refusal says
  pub data Names : Refusal → Type 0 where
    -- 3: there are not as many numbers as the rows take
    not_enough : (Enough → ⊥) → Names (refusal 3 [])
    -- 4: a code is not held, and those in the columns before it are
    not_held : (row column : ℕ) (before after : List ℕ) → RowsBefore row → row ≤ M.size → level_columns ≡ before ++ column ∷ after →
        HeldIn row before → m.held (cell M.size rows row column) ≡ false → Names (refusal 4 (row ∷ (column ∷ [])))
    -- 5: a row has held codes, and not its shape
    misshapen : (row : ℕ) → RowsBefore row → row ≤ M.size → HeldIn row level_columns → (Shape M.size (rows_of M.size rows) row → ⊥) → Names (refusal 5 (row ∷ []))
    -- 7: a call or a return stands inside a region
    enclosed : (a : ℕ) → AddressesBefore a → a < M.size → (Free (rows_of M.size rows) a (M.kind a) → ⊥) → Names (refusal 7 (a ∷ []))
    -- 6: a word may stand where it does, and leads where it may not
    unbounded : (a : ℕ) → AddressesBefore a → a < M.size → Free (rows_of M.size rows) a (M.kind a) →
        (Bounded M.size (rows_of M.size rows) a (M.kind a) → ⊥) → Names (refusal 6 (a ∷ []))
    -- 8: it leads where it may, and outside every region something above level 0 decides where
    decided : (a : ℕ) → AddressesBefore a → a < M.size → Free (rows_of M.size rows) a (M.kind a) → Bounded M.size (rows_of M.size rows) a (M.kind a) →
        (rows_of M.size rows).remaining a ≡ 0 → (deciding m M (rows_of M.size rows) a ≢ 0) → Names (refusal 8 (a ∷ []))
    -- 9: an edge is not in time
    untimely : (e : EdgeAt) → EdgesBefore e → (Timed (rows_of M.size rows) e.from e.to e.cycles → ⊥) → Names (refusal 9 (e.from ∷ (e.to ∷ [])))
    -- 10: an edge is in time, and the level of a place does not flow along it, while those of the places before do
    too_low : (e : EdgeAt) (p : ℕ) (before after : List ℕ) → EdgesBefore e → Timed (rows_of M.size rows) e.from e.to e.cycles → place_columns ≡ before ++ p ∷ after →
        All (FlowsAt m M (rows_of M.size rows) e.from e.to) before → m.flows (level_after m M (rows_of M.size rows) e.from p) ((rows_of M.size rows).level e.to p) ≡ false →
        Names (refusal 10 (e.from ∷ (e.to ∷ (p ∷ []))))
    -- 10 too: all places flow along an edge from inside to inside, and the pc_level does not flow to the region level
    region_too_low : (e : EdgeAt) → EdgesBefore e → Timed (rows_of M.size rows) e.from e.to e.cycles → Flows m M (rows_of M.size rows) e.from e.to →
        0 < (rows_of M.size rows).remaining e.from → 0 < (rows_of M.size rows).remaining e.to →
        m.flows (pc_level m M (rows_of M.size rows) e.from) ((rows_of M.size rows).region e.to) ≡ false →
        Names (refusal 10 (e.from ∷ (e.to ∷ (region_column ∷ []))))

-- the checks refuse if everything is as the refusal says, and only then
abbrev pub RefusalsFor : Type 0 → Type 0 → Type 0 → Type 0
RefusalsFor B V W =
    (m : Meaning) (M : Machine B V W) (rows : List ℕ) (r : Refusal) → (rules_of m M rows ≡ refused r → Names m M rows r) × (Names m M rows r → rules_of m M rows ≡ refused r)

-- the law at some fixed types, since a contract speaks of such
abbrev pub RefusalsStand : Type 0
RefusalsStand = RefusalsFor (ℕ → ℕ) ℕ ℕ
