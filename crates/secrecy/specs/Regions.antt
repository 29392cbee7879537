-- The cycles from a word to an address. Assumes nothing.
use Rattle.std.specs.Prelude.{◌≡◌, ℕ, ◌+◌, ◌≢◌}
use Rattle.machine.specs.Machine.{Machine}
use Rattle.machine.specs.Run.{State, moves, step}
use Rattle.machine.specs.Laws.{cost_at}

module _ {B V W : Type 0} (M : Machine B V W) (address : ℕ) where
  -- From a state, one word after another is carried out up to where the board stands at the address for the first time, and
  -- the cycles of these words add up to the number. Limits are left aside: each word has some limit that it does not pass.
  pub data Reaches : State B → ℕ → Type 0 where
    stands : (s : State B) → s.at ≡ address → Reaches s 0
    goes : (s u : State B) (limit n : ℕ) → (s.at ≢ address) → step M limit s ≡ moves u → Reaches u n → Reaches s (cost_at M s + n)

  -- the board gets there, and it takes so many cycles and no other number
  pub record Takes (s : State B) (cycles : ℕ) : Type 0 where
    pub arrives : Reaches s cycles
    pub only : (n : ℕ) → Reaches s n → n ≡ cycles
