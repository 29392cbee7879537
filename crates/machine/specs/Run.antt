-- Runs of a machine up to a limit of cycles. Assumes nothing.
use Rattle.std.specs.Prelude.{◌≡◌, ℕ, zero, suc, ◌+◌, Bool, false, cond, List, [], ◌∷◌, length, Some, None, Option, nat_le, nat_lt}
use Rattle.machine.specs.declared.phase.Stop.TheVariants.{Deep, Off}
use Rattle.machine.specs.declared.phase.Ending.{Ending}
use Rattle.machine.specs.declared.phase.Ending.TheVariants as ending
use Rattle.machine.specs.Machine.{Machine, Kind, plain, forks, calls, rets}

-- where a board stands: its address, the returns it holds (newest first), its cycle count, and what the words work on
pub record State (B : Type 0) : Type 0 where
  pub at : ℕ
  pub returns : List ℕ
  pub count : ℕ
  pub body : B

-- the state of these
abbrev pub state : {B : Type 0} → ℕ → List ℕ → ℕ → B → State B
state a rs n x = record { at = a; returns = rs; count = n; body = x }

-- a step goes on in a state, or stops in one with an ending
pub data Step (B : Type 0) : Type 0 where
  moves : State B → Step B
  stops : State B → Ending → Step B

-- how many returns a board holds at most
abbrev pub returns_held : ℕ
returns_held = 16

-- the cycles of a word, by whether it goes aside
abbrev pub cycles_of : Kind → Bool → ℕ
cycles_of (plain b c) aside = c
cycles_of (forks qs b c b' c') aside = cond aside c' c
cycles_of (calls t c) aside = c
cycles_of (rets c) aside = c

-- the next address; none where a routine ends
abbrev pub next_of : Kind → Bool → List ℕ → Option ℕ
next_of (plain b c) aside rs = Some b
next_of (forks qs b c b' c') aside rs = Some (cond aside b' b)
next_of (calls t c) aside rs = Some t
next_of (rets c) aside [] = None
next_of (rets c) aside (r ∷ rs) = Some r

-- the returns held after the word at an address
abbrev pub returns_of : Kind → ℕ → List ℕ → List ℕ
returns_of (plain b c) a rs = rs
returns_of (forks qs b c b' c') a rs = rs
returns_of (calls t c) a rs = (a + 1) ∷ rs
returns_of (rets c) a [] = []
returns_of (rets c) a (r ∷ rs) = rs

-- whether a word would hold one return too many
abbrev pub overfull : Kind → List ℕ → Bool
overfull (plain b c) rs = false
overfull (forks qs b c b' c') rs = false
overfull (calls t c) rs = nat_le returns_held (length rs)
overfull (rets c) rs = false

-- where the cycles of the next word would pass the limit, the run is spent, and nothing changes
abbrev pub paid : {B : Type 0} → ℕ → ℕ → ℕ → List ℕ → ℕ → B → Step B → Step B
paid limit c a rs n x go = cond (nat_lt limit (n + c)) (stops (state a rs n x) (ending.Spent limit)) go

-- an address in the listing is gone to; any other stops the board where it stands
abbrev pub landed : {B : Type 0} → ℕ → ℕ → ℕ → List ℕ → ℕ → B → Step B
landed size a b rs n x = cond (nat_lt b size) (moves (state b rs n x)) (stops (state a rs n x) (ending.Stopped Off n))

-- the same of the address that comes next, if there is one; where there is none the routine has ended
abbrev pub arrived : {B : Type 0} → ℕ → ℕ → Option ℕ → List ℕ → ℕ → B → Step B
arrived size a (Some b) rs n x = landed size a b rs n x
arrived size a None rs n x = stops (state a rs n x) (ending.Ended n)

module _ {B V W : Type 0} (M : Machine B V W) where
  -- one step, in the order of its tests: spent, deep, and where it is neither the effect of the word and then the next address
  abbrev pub step_at : ℕ → Kind → Bool → ℕ → List ℕ → ℕ → B → Step B
  step_at limit k aside a rs n x =
      paid limit (cycles_of k aside) a rs n x
      (cond (overfull k rs) (stops (state a rs n x) (ending.Stopped Deep n))
      (arrived M.size a (next_of k aside rs) (returns_of k a rs) (n + cycles_of k aside) (M.effect a x)))

  abbrev pub step : ℕ → State B → Step B
  step limit s = step_at limit (M.kind s.at) (M.decides s.at s.body) s.at s.returns s.count s.body

  -- a run: steps, of which the last stops
  pub data Runs (limit : ℕ) : State B → State B → Ending → Type 0 where
    last : (s t : State B) (e : Ending) → step limit s ≡ stops t e → Runs limit s t e
    more : (s u t : State B) (e : Ending) → step limit s ≡ moves u → Runs limit u t e → Runs limit s t e

-- where a run leaves a board, and with what ending
pub record Finish (B : Type 0) : Type 0 where
  pub state : State B
  pub ending : Ending

-- a run as a function, in at most n steps
unfoldable pub run_for : {B V W : Type 0} → Machine B V W → ℕ → ℕ → State B → Finish B
run_for M zero limit s = record { state = s; ending = ending.Spent limit }
run_for M (suc n) limit s = elim (step M limit s) [ moves u ↦ run_for M n limit u | stops t e ↦ record { state = t; ending = e } ]

-- each step takes a cycle at least, so that a limit allows no more steps than itself
abbrev pub run_of : {B V W : Type 0} → Machine B V W → ℕ → State B → Finish B
run_of M limit s = run_for M (suc limit) limit s
