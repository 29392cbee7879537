-- The edges of a routine in their order. Assumes nothing.
use Rattle.std.specs.Prelude.{ℕ, zero, suc, ◌+◌, cond, List, [], ◌∷◌, ◌++◌, ◌==◌}
use Rattle.machine.specs.Machine.{Machine, Kind, plain, forks, calls, rets}
use Rattle.secrecy.specs.Rows.{Rows}
use Rattle.secrecy.specs.Rules.{calls_to}

-- an edge: the address that it leaves, the address that it leads to, and its cycles
pub record EdgeAt : Type 0 where
  pub from : ℕ
  pub to : ℕ
  pub cycles : ℕ

-- the edge from a to b in c cycles
abbrev pub edge : ℕ → ℕ → ℕ → EdgeAt
edge a b c = record { from = a; to = b; cycles = c }

-- the lists of the numbers 0 to n - 1, one after another
abbrev pub joined_lists : {X : Type 0} → (ℕ → List X) → ℕ → List X
joined_lists lists zero = []
joined_lists lists (suc n) = joined_lists lists n ++ lists n

module _ {B V W : Type 0} (M : Machine B V W) (R : Rows) where
  -- a return of c cycles at a may lead to the word after b, where b calls the function that a is in
  abbrev pub return_edges : ℕ → ℕ → ℕ → List EdgeAt
  return_edges a c b = cond (calls_to (M.kind b) (R.function a)) (edge a (b + 1) c ∷ []) []

  -- and from function 0 to the finish row
  abbrev pub finish_edges : ℕ → ℕ → List EdgeAt
  finish_edges a c = cond (R.function a == 0) (edge a M.size c ∷ []) []

  -- the edges that leave the address a, by what the word there is: a return has one for each call of its function, and from
  -- function 0 one out of the routine
  abbrev pub edges_leaving : ℕ → Kind → List EdgeAt
  edges_leaving a (plain b c) = edge a b c ∷ []
  edges_leaving a (forks qs b c b' c') = edge a b c ∷ (edge a b' c' ∷ [])
  edges_leaving a (calls t c) = edge a t c ∷ []
  edges_leaving a (rets c) = joined_lists (return_edges a c) M.size ++ finish_edges a c

  -- all edges of the routine, by the address that they leave
  abbrev pub edges_of : List EdgeAt
  edges_of = joined_lists (λ a. edges_leaving a (M.kind a)) M.size
