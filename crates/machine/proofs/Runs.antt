-- The run as a function and the run as a chain of steps are one.
use Rattle.std.proofs.Common.{◌≡◌, ℕ, zero, suc, ◌+◌, ◌-◌, ◌<◌, ◌≤◌, List, [], ◌∷◌, refl, arith}
use Rattle.machine.specs.declared.phase.Phase.{Phase}
use Rattle.machine.specs.declared.phase.Ending.{Ending}
use Rattle.machine.specs.Machine.{Machine, Positive}
use Rattle.machine.specs.Run.{State, Step, moves, stops, step, Runs, last, more, run_for, run_of}
use Rattle.machine.specs.Calls.{Board, board, Call, does, does_at, fresh, board_after}
use Rattle.machine.specs.Laws.{total, Carries, cost_at, last_costs, costs, costs_for, costs_of, Counts, since_clear, since_last_clear, CountsLives, CountsFor}

-- a step that goes on takes cycles, within the limit
abbrev pub Grows : {B : Type 0} → ℕ → ℕ → Step B → Type 0
Grows limit n (moves u) = (n < u.count) × (u.count ≤ limit)
Grows limit n (stops t e) = Unit {0}

module _ {B V W : Type 0} (M : Machine B V W) where
  pub grows : ((a : ℕ) → Positive (M.kind a)) → (limit : ℕ) (s : State B) → Grows limit s.count (step M limit s)
  grows pos limit s = grind (arith, pos s.at)

  -- with enough steps the function is a run
  pub ran : ((a : ℕ) → Positive (M.kind a)) → (n limit : ℕ) (s : State B) → limit - s.count < n → Runs M limit s (run_for M n limit s).state (run_for M n limit s).ending
  unfolding run_for
  ran sound zero limit s h = absurd (omega arith)
  ran sound (suc n) limit s h = search (arith, last, more, grows sound limit s, ran sound n limit)

  -- a run is the function's
  pub enough : ((a : ℕ) → Positive (M.kind a)) → (n limit : ℕ) (s t : State B) (e : Ending) → Runs M limit s t e → limit - s.count < n → run_for M n limit s ≡ record { state = t; ending = e }
  unfolding run_for
  enough sound zero limit s t e r h = absurd (omega arith)
  enough sound (suc n) limit s t e (last _ _ _ p) h = grind arith
  enough sound (suc n) limit s t e (more _ u _ _ p r) h = grind (arith, grows sound limit s, enough sound n limit u t e r)

  pub finish : ((a : ℕ) → Positive (M.kind a)) → (limit : ℕ) (s t : State B) (e : Ending) → Runs M limit s t e → run_of M limit s ≡ record { state = t; ending = e }
  finish sound limit s t e r = enough sound (suc limit) limit s t e r (omega arith)

  -- what a step adds to a count n, where its word costs c, and what its ending carries
  abbrev Adds : ℕ → ℕ → ℕ → Step B → Type 0
  Adds limit n c (moves u) = u.count ≡ n + c
  Adds limit n c (stops t e) = (t.count ≡ n + total (last_costs c e)) × Carries limit t.count e

  adds : (limit : ℕ) (s : State B) (k : Step B) → step M limit s ≡ k → Adds limit s.count (cost_at M s) k
  adds limit s k p = grind arith

  sums : {limit : ℕ} (s t : State B) (e : Ending) (r : Runs M limit s t e) → t.count ≡ s.count + total (costs M r)
  sums s t e (last _ _ _ p) = (adds _ s (stops t e) p).0
  sums s t e (more _ u _ _ p r) = omega (arith, adds _ s (moves u) p, sums u t e r)

  carries : {limit : ℕ} (s t : State B) (e : Ending) → Runs M limit s t e → Carries limit t.count e
  carries s t e (last _ _ _ p) = (adds _ s (stops t e) p).1
  carries s t e (more _ u _ _ p r) = carries u t e r

  -- the cycles along a chain are those of the function
  costs_by : ((a : ℕ) → Positive (M.kind a)) → (n limit : ℕ) (s t : State B) (e : Ending) (r : Runs M limit s t e) → limit - s.count < n → costs M r ≡ costs_for M n limit s
  unfolding costs_for
  costs_by pos zero limit s t e r h = absurd (omega arith)
  costs_by pos (suc n) limit s t e (last _ _ _ p) h = grind arith
  costs_by pos (suc n) limit s t e (more _ u _ _ p r) h = grind (arith, grows pos limit s, costs_by pos n limit u t e r)

  pub counts : ((a : ℕ) → Positive (M.kind a)) → (limit : ℕ) (s t : State B) (e : Ending) → Runs M limit s t e → Counts M limit s t e
  counts pos limit s t e r = record { chain = r; sum = sums s t e r; carries = carries s t e r }

  module _ (pos : (a : ℕ) → Positive (M.kind a)) where
    pub chain : (limit : ℕ) (s : State B) → Runs M limit s (run_of M limit s).state (run_of M limit s).ending
    chain limit s = ran pos (suc limit) limit s (omega arith)

    pub costs_are : (limit : ℕ) (s t : State B) (e : Ending) (r : Runs M limit s t e) → costs M r ≡ costs_of M limit s
    costs_are limit s t e r = costs_by pos (suc limit) limit s t e r (omega arith)

    -- the count after a run, by the cycles of the function
    count_after : (limit : ℕ) (s : State B) → (run_of M limit s).state.count ≡ s.count + total (costs_of M limit s)
    count_after limit s = let r = chain limit s in rw (← costs_are limit s _ _ r) (sums s _ _ r)

    one_call : (k : Call W) (p : Phase) (s : State B) (n : ℕ) → s.count ≡ n → (does_at M k p s).board.state.count ≡ since_clear M k (board s p) n
    one_call k p s n e = grind (arith, count_after)

    all_calls : (ks : List (Call W)) (b : Board B) (n : ℕ) → b.state.count ≡ n → (board_after M ks b).state.count ≡ since_last_clear M ks b n
    all_calls [] b n e = e
    all_calls (k ∷ ks) b n e = all_calls ks (does M k b).board (since_clear M k b n) (one_call k b.phase b.state n e)

    pub lives : CountsLives M
    lives ks = all_calls ks (fresh M) 0 refl

-- all of it
pub counts_for : {B V W : Type 0} → CountsFor B V W
counts_for = record {
  runs = λ M pos limit s. counts M pos limit s _ _ (chain M pos limit s);
  costs_are = λ M pos. costs_are M pos;
  lives = λ M pos. lives M pos;
}
