-- What the lemmas on couples are over, and when two boards are alike.
use Rattle.std.proofs.Common.{◌≡◌, ℕ, ◌+◌, ◌<◌, true, false, ◌⊎◌, List, [], ◌∷◌}
use Rattle.levels.specs.Order.{Meaning, Laws}
use Rattle.machine.specs.Machine.{Machine, Sound, calls}
use Rattle.machine.specs.Run.{State}
use Rattle.machine.specs.Calls.{phase_of}
use Rattle.machine.specs.declared.phase.Phase.{Phase}
use Rattle.machine.specs.declared.phase.Phase.TheVariants as phase
use Rattle.machine.specs.declared.phase.Ending.{Ending}
use Rattle.secrecy.specs.Rows.{Rows, is_place}
use Rattle.secrecy.specs.Flow.{pc_level, level_after}
use Rattle.secrecy.specs.Accepted.{Accepted}

-- an order, an observer, a machine and rows that are accepted for it
pub record Setting (B V W : Type 0) : Type 0 where
  pub m : Meaning
  pub laws : Laws m
  pub observer : ℕ
  pub observed : m.held observer ≡ true
  pub M : Machine B V W
  pub sound : Sound M
  pub R : Rows
  pub rules : Accepted m M R
  -- levels past the last row, and where there is no place, are held too, and flow
  pub levels : (a p : ℕ) → m.held (R.level a p) ≡ true
  pub regions : (a : ℕ) → m.held (R.region a) ≡ true
  pub beyond : (a b p : ℕ) → is_place p ≡ false → m.flows (level_after m M R a p) (R.level b p) ≡ true

module _ {B V W : Type 0} (S : Setting B V W) where
  open S use {m, M, R, observer}

  abbrev pub Seen : ℕ → Type 0
  Seen l = m.flows l observer ≡ true

  -- two bodies hold the same wherever the observer sees by a row
  abbrev pub Agree : ℕ → B → B → Type 0
  Agree row x y = (p : ℕ) → Seen (R.level row p) → M.holds x p ≡ M.holds y p

  -- a word is high when its pc_level is hidden
  abbrev pub High : ℕ → Type 0
  High a = m.flows (pc_level m M R a) observer ≡ false

  -- r is the word after one that calls the function f
  pub record Called (f r : ℕ) : Type 0 where
    pub caller : ℕ
    pub cycles : ℕ
    pub listed : caller < M.size
    pub is : M.kind caller ≡ calls f cycles
    pub after : r ≡ caller + 1

  -- the returns held, newest first, while the function f is carried out
  abbrev pub Calls : ℕ → List ℕ → Type 0
  Calls f [] = f ≡ 0
  Calls f (r ∷ rs) = Called f r × Calls (R.function r) rs

  -- a state that a run from the start may come to
  pub record Good (s : State B) : Type 0 where
    pub listed : s.at < M.size
    pub calls : Calls (R.function s.at) s.returns
    pub well_formed : M.well_formed s.body ≡ true

  -- two boards at one address, which agree by a row
  pub record LowEquivalent (row : ℕ) (s t : State B) : Type 0 where
    pub at : s.at ≡ t.at
    pub returns : s.returns ≡ t.returns
    pub count : s.count ≡ t.count
    pub agree : Agree row s.body t.body

  -- two boards on high ways to one address, where they are to arrive at one count, and which agree by that address's row
  pub record Diverged (s t : State B) : Type 0 where
    pub left : High s.at
    pub right : High t.at
    pub join_address : R.join_address s.at ≡ R.join_address t.at
    pub when : s.count + R.remaining s.at ≡ t.count + R.remaining t.at
    pub returns : s.returns ≡ t.returns
    pub agree : Agree (R.join_address s.at) s.body t.body

  -- two boards that are alike while they run
  pub record Near (s t : State B) : Type 0 where
    pub left : Good s
    pub right : Good t
    pub how : LowEquivalent s.at s t ⊎ Diverged s t

  -- two boards that are alike while they are loaded
  pub record Loaded (s t : State B) : Type 0 where
    pub start : s.at ≡ 0
    pub left : Good s
    pub right : Good t
    pub step : LowEquivalent 0 s t

  -- two boards that are alike in a phase
  abbrev pub At : Phase → State B → State B → Type 0
  At phase.Loading s t = Loaded s t
  At phase.Running s t = Near s t
  At phase.Ended s t = LowEquivalent M.size s t
  At (phase.Stopped w) s t = LowEquivalent s.at s t

  -- two boards that are alike after a run
  abbrev pub Rest : Ending → State B → State B → Type 0
  Rest e s t = At (phase_of e) s t
