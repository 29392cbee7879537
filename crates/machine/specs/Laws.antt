-- What runs come to, in words that do not follow their steps. Assumes nothing.
use Rattle.std.specs.Prelude.{◌≡◌, ℕ, zero, suc, ◌+◌, List, [], ◌∷◌}
use Rattle.machine.specs.declared.phase.Stop.TheVariants.{Deep, Off}
use Rattle.machine.specs.declared.phase.Phase.{Phase}
use Rattle.machine.specs.declared.phase.Phase.TheVariants as phase
use Rattle.machine.specs.declared.phase.Ending.{Ending}
use Rattle.machine.specs.declared.phase.Ending.TheVariants as ending
use Rattle.machine.specs.Machine.{Machine, Positive}
use Rattle.machine.specs.Run.{State, moves, stops, Runs, last, more, cycles_of, step, run_of}
use Rattle.machine.specs.Calls.{Board, Call, clear, run, read, put, does, fresh, board_after}

-- the sum of some numbers
abbrev pub total : List ℕ → ℕ
total [] = 0
total (n ∷ ns) = n + total ns

-- what an ending carries: the limit where the run is spent, and else the count of the board
abbrev pub Carries : ℕ → ℕ → Ending → Type 0
Carries limit count (ending.Spent n) = n ≡ limit
Carries limit count (ending.Ended n) = n ≡ count
Carries limit count (ending.Stopped w n) = n ≡ count

-- What the last step of a run adds, where its word costs c: a word that ends the routine or leads off the listing is carried
-- out, and one that waits for a larger limit or would call too deep is not.
abbrev pub last_costs : ℕ → Ending → List ℕ
last_costs c (ending.Spent n) = []
last_costs c (ending.Ended n) = c ∷ []
last_costs c (ending.Stopped Deep n) = []
last_costs c (ending.Stopped Off n) = c ∷ []

module _ {B V W : Type 0} (M : Machine B V W) where
  -- the cycles of the word at which a board stands
  abbrev pub cost_at : State B → ℕ
  cost_at s = cycles_of (M.kind s.at) (M.decides s.at s.body)

  -- the cycles of the words that a run carries out, word by word
  abbrev pub costs : {limit : ℕ} {s t : State B} {e : Ending} → Runs M limit s t e → List ℕ
  costs (last s t e p) = last_costs (cost_at s) e
  costs (more s u t e p r) = cost_at s ∷ costs r

  -- A run from s to t that ends with e: there is a chain of words between, the count grows by the sum of their cycles, and the
  -- ending carries the new count, or the limit.
  pub record Counts (limit : ℕ) (s t : State B) (e : Ending) : Type 0 where
    pub chain : Runs M limit s t e
    pub sum : t.count ≡ s.count + total (costs chain)
    pub carries : Carries limit t.count e

  -- a board that an ended or stopped one stays, and its ending, which it repeats
  pub record Rests (b c : Board B) (repeated e : Ending) : Type 0 where
    pub board : c ≡ b
    pub ending : e ≡ repeated

  -- What a call to run comes to, from a board b to c with the ending e: while loading or running it is a run that counts, and an
  -- ended or stopped board carries nothing out.
  abbrev pub CountsIn : Phase → ℕ → Board B → Board B → Ending → Type 0
  CountsIn phase.Loading limit b c e = Counts limit b.state c.state e
  CountsIn phase.Running limit b c e = Counts limit b.state c.state e
  CountsIn phase.Ended limit b c e = Rests b c (ending.Ended b.state.count) e
  CountsIn (phase.Stopped w) limit b c e = Rests b c (ending.Stopped w b.state.count) e

  -- by the board's own phase
  abbrev pub RunCounts : ℕ → Board B → Board B → Ending → Type 0
  RunCounts limit b c e = CountsIn b.phase limit b c e

-- the cycles of the words that a run carries out from a state, as a function of the state, in at most n steps
unfoldable pub costs_for : {B V W : Type 0} → Machine B V W → ℕ → ℕ → State B → List ℕ
costs_for M zero limit s = []
costs_for M (suc n) limit s = elim (step M limit s) [ moves u ↦ cost_at M s ∷ costs_for M n limit u | stops t e ↦ last_costs (cost_at M s) e ]

module _ {B V W : Type 0} (M : Machine B V W) where
  -- the same up to a limit, which allows no more steps than itself
  abbrev pub costs_of : ℕ → State B → List ℕ
  costs_of limit s = costs_for M (suc limit) limit s

  -- the cycles of the words that a call to run carries out, by the phase before it
  abbrev pub costs_in : Phase → ℕ → State B → List ℕ
  costs_in phase.Loading limit s = costs_of limit s
  costs_in phase.Running limit s = costs_of limit s
  costs_in phase.Ended limit s = []
  costs_in (phase.Stopped w) limit s = []

  -- n cycles were carried out since everything was last cleared; so many are they after one more call
  abbrev pub since_clear : Call W → Board B → ℕ → ℕ
  since_clear clear b n = 0
  since_clear (run limit) b n = n + total (costs_in b.phase limit b.state)
  since_clear (read w) b n = n
  since_clear (put w x) b n = n

  -- and after some more calls
  abbrev pub since_last_clear : List (Call W) → Board B → ℕ → ℕ
  since_last_clear [] b n = n
  since_last_clear (k ∷ ks) b n = since_last_clear ks (does M k b).board (since_clear k b n)

  -- After any calls the count of a board is the sum over all its runs since its making, or since everything was last cleared.
  abbrev pub CountsLives : Type 0
  CountsLives = (ks : List (Call W)) → (board_after M ks (fresh M)).state.count ≡ since_last_clear ks (fresh M) 0

-- The laws for any machine whose words all take cycles: of any limit and from any state, that a run counts, that the cycles along
-- its chain are those of the function, and that a board's count is a sum over its runs. Stated at some types, since a law of a
-- contract speaks of fixed ones.
pub record CountsFor (B V W : Type 0) : Type 0 where
  pub runs : (M : Machine B V W) → ((a : ℕ) → Positive (M.kind a)) → (limit : ℕ) (s : State B) → Counts M limit s (run_of M limit s).state (run_of M limit s).ending
  pub costs_are : (M : Machine B V W) → ((a : ℕ) → Positive (M.kind a)) → (limit : ℕ) (s t : State B) (e : Ending) (r : Runs M limit s t e) → costs M r ≡ costs_of M limit s
  pub lives : (M : Machine B V W) → ((a : ℕ) → Positive (M.kind a)) → CountsLives M

-- the laws at functions from places to numbers
abbrev pub CountsStand : Type 0
CountsStand = CountsFor (ℕ → ℕ) ℕ ℕ
