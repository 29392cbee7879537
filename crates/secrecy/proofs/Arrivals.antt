-- Every way through a region takes the remaining cycles.
use Rattle.std.proofs.Common.{rules as sets, ◌≡◌, ℕ, zero, suc, ◌+◌, ◌<◌, ◌≤◌, Bool, true, false, refl, ap, arith}
use Rattle.levels.specs.Order.{Meaning}
use Rattle.machine.specs.Machine.{Machine, Sound, Kind, plain, forks, Positive}
use Rattle.machine.specs.Run.{State, state, moves, step}
use Rattle.machine.specs.Laws.{cost_at}
use Rattle.secrecy.specs.Rows.{Rows}
use Rattle.secrecy.specs.Accepted.{Accepted, Edge, WordRule}
use Rattle.secrecy.specs.Regions.{Reaches, stands, goes, Takes}

module _ {B V W : Type 0} (M : Machine B V W) where
  -- Where a word leads does not hang on the limit, if only it is not passed.
  moves_once : (limit other : ℕ) (s u v : State B) → step M limit s ≡ moves u → step M other s ≡ moves v → u ≡ v
  moves_once limit other s u v p q = grind arith

  -- so the cycles to an address are one number
  reaches_once : (address : ℕ) (s : State B) (n k : ℕ) → Reaches M address s n → Reaches M address s k → n ≡ k
  reaches_once address s n k (stands _ e) (stands _ f) = refl
  reaches_once address s n k (stands _ e) (goes _ v _ _ apart q r) = absurd (apart e)
  reaches_once address s n k (goes _ u _ _ apart p r) (stands _ f) = absurd (apart f)
  reaches_once address s n k (goes _ u limit i apart p r) (goes _ v other j apart' q r') =
      ap (λ x. cost_at M s + x) (reaches_once address u i j r (rw (← moves_once limit other s u v p q) at r'))

module _ {B V W : Type 0} (m : Meaning) (M : Machine B V W) (sound : Sound M) (R : Rows) (rules : Accepted m M R) where
  -- the way out of a region, to an address outside
  abbrev Out : State B → Type 0
  Out s = Reaches M (R.join_address s.at) s (R.remaining s.at) × (R.remaining (R.join_address s.at) ≡ 0)

  abbrev Shorter : ℕ → Type 0
  Shorter n = (u : State B) → u.at < M.size → R.remaining u.at ≤ n → 0 < R.remaining u.at → Out u

  module _ (s : State B) (h : 0 < R.remaining s.at) (b c : ℕ) (edge : Edge m M R s.at b c) (cost : cost_at M s ≡ c) where
    abbrev next : State B
    next = state b s.returns (s.count + c) (M.effect s.at s.body)

    module _ (p : step M (s.count + c) s ≡ moves next) where
      -- one word, and then the rest
      first : (n : ℕ) → R.remaining (R.join_address s.at) ≡ 0 → R.remaining s.at ≡ c + n → Reaches M (R.join_address s.at) next n → Out s
      first n o e r = search (sets, arith, goes)

      edged : (n : ℕ) → 0 < c → R.remaining s.at ≤ suc n → Shorter n → Out s
      edged n pos le later =
          let there : b ≡ R.join_address s.at → Reaches M (R.join_address s.at) next 0 = stands next in
          grind (arith, edge.timed h, there, first 0, first (R.remaining b), later next edge.listed)

  out_by : (n : ℕ) (s : State B) (k : Kind) (d : Bool) → M.kind s.at ≡ k → M.decides s.at s.body ≡ d → WordRule m M R s.at k → Positive k →
      R.remaining s.at ≤ suc n → 0 < R.remaining s.at → Shorter n → Out s
  out_by n s (plain b c) d i j rule pos le h later = edged s h b c rule (grind arith) (grind arith) n pos le later
  out_by n s (forks qs b c b' c') true i j rule pos le h later = edged s h b' c' rule.1 (grind arith) (grind arith) n pos.1 le later
  out_by n s (forks qs b c b' c') false i j rule pos le h later = edged s h b c rule.0 (grind arith) (grind arith) n pos.0 le later
  out_by n s k d i j rule pos le h later = grind arith

  out : (n : ℕ) → Shorter n
  out zero s l le h = absurd (omega arith)
  out (suc n) s l le h = out_by n s (M.kind s.at) (M.decides s.at s.body) refl refl (rules.words s.at l) (sound.positive s.at) le h (out n)

  pub on_time : (s : State B) → s.at < M.size → 0 < R.remaining s.at → Takes M (R.join_address s.at) s (R.remaining s.at)
  on_time s l h =
      let way = (out (R.remaining s.at) s l (omega arith) h).0 in
      record { arrives = way; only = λ n r. reaches_once M (R.join_address s.at) s n (R.remaining s.at) r way }
