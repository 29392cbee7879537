-- One step of two low-equivalent boards, at a word that is not high.
use Rattle.std.proofs.Common.{◌≡◌, ℕ, ◌+◌, ◌<◌, ◌≤◌, true, List, [], ◌∷◌, refl, arith, lt-ltb}
use Rattle.machine.specs.Machine.{Kind, plain, forks, calls, rets, Positive}
use Rattle.machine.specs.Run.{State, state, Step, moves, stops, landed, paid, step_at, step}
use Rattle.secrecy.specs.Flow.{pc_level}
use Rattle.secrecy.specs.Accepted.{Edge, RetRule, WordRule, Flows}
use Rattle.secrecy.proofs.Setting.{Setting, Seen, Agree, Good, Called, Calls, LowEquivalent, Near, Rest}
use Rattle.secrecy.proofs.Statics.{arrive, deciders_agree, pc_deciding}

module _ {B V W : Type 0} (S : Setting B V W) where
  open S use {m, M, sound, R, rules}

  -- both go on, in cycles and within the limit, or both stop alike
  abbrev pub Together : ℕ → ℕ → Step B → Step B → Type 0
  Together limit n (moves u) (moves v) = (n < u.count) × (u.count ≤ limit) × Near S u v
  Together limit n (moves u) (stops t e) = ⊥
  Together limit n (stops s e) (moves v) = ⊥
  Together limit n (stops s e) (stops t f) = (e ≡ f) × Rest S e s t

  near_by : (a : ℕ) (rs : List ℕ) (n : ℕ) (x y : B) → M.well_formed x ≡ true → M.well_formed y ≡ true → a < M.size → Calls S (R.function a) rs → Agree S a x y → Near S (state a rs n x) (state a rs n y)
  near_by a rs n x y fx fy l g agree = grind arith

  module _ (limit a n : ℕ) (x y : B) (fx : M.well_formed x ≡ true) (fy : M.well_formed y ≡ true) (l : a < M.size) (agree : Agree S a x y) where
    pays : (rs : List ℕ) → Calls S (R.function a) rs → (c : ℕ) (f h : Step B) → (n + c ≤ limit → Together limit n f h) → Together limit n (paid limit c a rs n x f) (paid limit c a rs n y h)
    pays rs g c f h k = grind arith

    lands : (rs : List ℕ) (b c : ℕ) → 0 < c → b < M.size → Calls S (R.function b) rs → Flows m M R a b → n + c ≤ limit →
        Together limit n (landed M.size a b rs (n + c) (M.effect a x)) (landed M.size a b rs (n + c) (M.effect a y))
    lands rs b c pos lb g fl le =
        rw (lt-ltb b M.size lb) (omega arith, le, near_by b rs (n + c) (M.effect a x) (M.effect a y) (sound.well_formed_effect a x fx) (sound.well_formed_effect a y fy) lb g (arrive S a b x y fx fy agree fl))

    follows : (rs : List ℕ) → Calls S (R.function a) rs → (b c : ℕ) → 0 < c → Edge m M R a b c →
        Together limit n (paid limit c a rs n x (landed M.size a b rs (n + c) (M.effect a x))) (paid limit c a rs n y (landed M.size a b rs (n + c) (M.effect a y)))
    follows rs g b c pos edge = pays rs g c _ _ (lands rs b c pos edge.listed (rw edge.function g) edge.levels)

    back : (r c : ℕ) (rs : List ℕ) → 0 < c → RetRule m M R a → Called S (R.function a) r → Calls S (R.function r) rs → n + c ≤ limit →
        Together limit n (landed M.size a r rs (n + c) (M.effect a x)) (landed M.size a r rs (n + c) (M.effect a y))
    back r c rs pos rule from g le =
        let word : WordRule m M R from.caller (calls (R.function a) from.cycles) = rw from.is at (rules.words from.caller from.listed) in
        lands rs r c pos (rw from.after word.back) g (rw from.after (rule.levels from.caller from.cycles from.listed from.is)) le

    step_by : (k : Kind) (rs : List ℕ) → M.kind a ≡ k → Seen S (pc_level m M R a) → WordRule m M R a k → Positive k → Calls S (R.function a) rs →
        Together limit n (step_at M limit k (M.decides a x) a rs n x) (step_at M limit k (M.decides a y) a rs n y)
    step_by (plain b c) rs i seen rule pos g = follows rs g b c pos rule
    step_by (forks qs b c b' c') rs i seen rule pos g =
        let q = sound.decided a qs b c b' c' i x y (deciders_agree S a x y agree qs (rw i at (pc_deciding S a seen))) in
        rw q (grind (arith, follows rs g b' c' pos.1 rule.1, follows rs g b c pos.0 rule.0))
    step_by (calls t c) rs i seen rule pos g =
        pays rs g c _ _ (λ le. grind (arith, lands ((a + 1) ∷ rs) t c pos rule.listed (grind arith) rule.levels le))
    step_by (rets c) [] i seen rule pos g =
        pays [] g c _ _ (λ le. grind (arith, arrive S a M.size x y fx fy agree (rule.finish g)))
    step_by (rets c) (r ∷ rs) i seen rule pos g = pays (r ∷ rs) g c _ _ (back r c rs pos rule g.0 g.1)

  pub pair : (limit : ℕ) (s t : State B) → Good S s → Good S t → LowEquivalent S s.at s t → Seen S (pc_level m M R s.at) → Together limit s.count (step M limit s) (step M limit t)
  pair limit s t good good' i seen =
      rw (← i.at, ← i.returns, ← i.count)
      (step_by limit s.at s.count s.body t.body good.well_formed good'.well_formed good.listed i.agree (M.kind s.at) s.returns refl seen (rules.words s.at good.listed) (sound.positive s.at) good.calls)
