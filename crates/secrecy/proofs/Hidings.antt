-- Acceptance hides every secret.
use Rattle.std.proofs.Common.{◌≡◌, ℕ, true, List, arith}
use Rattle.levels.specs.Order.{Meaning, Laws}
use Rattle.machine.specs.Machine.{Machine, Sound}
use Rattle.secrecy.specs.Rows.{Rows, rows_of}
use Rattle.secrecy.specs.Accepted.{Accepted}
use Rattle.secrecy.specs.Hiding.{Hides, Placed, HidingFor}
use Rattle.secrecy.proofs.Meanings.{rules}
use Rattle.secrecy.proofs.Setting.{Setting}
use Rattle.secrecy.proofs.Lives.{life}
use Rattle.secrecy.proofs.Arrivals.{on_time}

module _ {B V W : Type 0} (m : Meaning) (laws : Laws m) (M : Machine B V W) (sound : Sound M) (placed : Placed M) (rows : List ℕ) (accepted : Accepted m M (rows_of M.size rows)) where
  abbrev pub R : Rows
  R = rows_of M.size rows

  -- all of it, for one observer
  setting : (observer : ℕ) → m.held observer ≡ true → Setting B V W
  setting observer held =
      record {
        m = m;
        laws = laws;
        observer = observer;
        observed = held;
        M = M;
        sound = sound;
        R = R;
        rules = accepted;
        -- past the last row and the last place every level is 0
        levels = λ a p. grind (arith, accepted.held a p, laws.zero_held);
        regions = λ a. grind (arith, accepted.regions a, laws.zero_held);
        -- what no word writes stays at level 0
        beyond = λ a b p k. grind (arith, placed a p, laws.reflexive 0);
      }

  -- acceptance, however it was found, hides every secret
  pub hides : Hides m M R
  unfolding setting
  hides = record { couples = λ observer held. life (setting observer held); regions = on_time m M sound R accepted }

-- and so where the checks find nothing, at any types of machine
pub hiding : {B V W : Type 0} → HidingFor B V W
hiding m laws M sound placed rows h = hides m laws M sound placed rows ((rules m M rows).0 h).1
