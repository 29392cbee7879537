-- One board on a high way to its join address.
use Rattle.std.proofs.Common.{◌≡◌, ℕ, ◌+◌, ◌<◌, ◌≤◌, Bool, true, false, ◌⊎◌, List, refl, ◌∙◌, inl, inr, ⊎_elim, arith}
use Rattle.machine.specs.Machine.{Kind, plain, forks}
use Rattle.machine.specs.Run.{State, state, Step, moves, stops, landed, paid, step_at, step, Runs, last, more}
use Rattle.machine.specs.declared.phase.Ending.{Ending}
use Rattle.machine.specs.declared.phase.Ending.TheVariants as ending
use Rattle.secrecy.specs.Accepted.{Edge, Leaves, Stays, WordRule}
use Rattle.secrecy.proofs.Setting.{Setting, Seen, High}
use Rattle.secrecy.proofs.Statics.{early, high_inside, stays_high}

module _ {B V W : Type 0} (S : Setting B V W) where
  open S use {m, M, sound, R, rules}

  -- t holds what s does wherever the observer sees by the row of s's join address
  abbrev Keeps : State B → State B → Type 0
  Keeps s t = (p : ℕ) → Seen S (R.level (R.join_address s.at) p) → M.holds t.body p ≡ M.holds s.body p

  -- t is further on the high way that s is on
  pub record Along (s t : State B) : Type 0 where
    pub listed : t.at < M.size
    pub high : High S t.at
    pub function : R.function t.at ≡ R.function s.at
    pub returns : t.returns ≡ s.returns
    pub join_address : R.join_address t.at ≡ R.join_address s.at
    pub when : t.count + R.remaining t.at ≡ s.count + R.remaining s.at
    pub keeps : Keeps s t
    pub well_formed : M.well_formed s.body ≡ true → M.well_formed t.body ≡ true

  -- u is where that way comes out
  pub record Met (s u : State B) : Type 0 where
    pub listed : u.at < M.size
    pub there : u.at ≡ R.join_address s.at
    pub function : R.function u.at ≡ R.function s.at
    pub returns : u.returns ≡ s.returns
    pub when : u.count ≡ s.count + R.remaining s.at
    pub keeps : Keeps s u
    pub well_formed : M.well_formed s.body ≡ true → M.well_formed u.body ≡ true

  -- after one step a board is further on the way, or has come out, or waits for a larger limit
  abbrev After : ℕ → State B → Step B → Type 0
  After limit s (moves u) = Along s u ⊎ (Met s u × (u.count ≤ limit))
  After limit s (stops t e) = (t ≡ s) × (e ≡ ending.Spent limit) × (limit < s.count + R.remaining s.at)

  module _ (limit a b c : ℕ) (rs : List ℕ) (n : ℕ) (x : B) (l : a < M.size) (high : High S a) (edge : Edge m M R a b c) where
    abbrev here : State B
    here = state a rs n x

    abbrev there : State B
    there = state b rs (n + c) (M.effect a x)

    kept : (p : ℕ) → Seen S (R.level (R.join_address a) p) → M.holds (M.effect a x) p ≡ M.holds x p
    kept p seen = sound.kept a p x (early S a l high p seen).0

    goes_on : n + c ≤ limit → After limit here (moves there)
    goes_on le =
        ⊎_elim
        (λ (h : Leaves R a b c). inr (record { listed = edge.listed; there = h.there; function = edge.function; returns = refl; when = omega (arith, h.all); keeps = kept; well_formed = sound.well_formed_effect a x }, le))
        (λ (h : Stays m M R a b c). inl (record
        { listed = edge.listed; high = stays_high S a b c high h; function = edge.function; returns = refl; join_address = h.same; when = omega (arith, h.less); keeps = kept; well_formed = sound.well_formed_effect a x }))
        (edge.timed (high_inside S a l high))

    pays : After limit here (paid limit c a rs n x (landed M.size a b rs (n + c) (M.effect a x)))
    pays = grind (arith, goes_on, edge.timed (high_inside S a l high))

  after_by : (limit : ℕ) (k : Kind) (d : Bool) (a : ℕ) (rs : List ℕ) (n : ℕ) (x : B) → WordRule m M R a k → a < M.size → High S a → After limit (state a rs n x) (step_at M limit k d a rs n x)
  after_by limit (plain b c) d a rs n x rule l high = pays limit a b c rs n x l high rule
  after_by limit (forks qs b c b' c') true a rs n x rule l high = pays limit a b' c' rs n x l high rule.1
  after_by limit (forks qs b c b' c') false a rs n x rule l high = pays limit a b c rs n x l high rule.0
  after_by limit k d a rs n x rule l high = let h = high_inside S a l high in grind arith

  after : (limit : ℕ) (s : State B) → s.at < M.size → High S s.at → After limit s (step M limit s)
  after limit s l high = after_by limit (M.kind s.at) (M.decides s.at s.body) s.at s.returns s.count s.body (rules.words s.at l) l high

  -- a run either waits on the way, or comes out and goes on from there
  abbrev pub Waits : ℕ → State B → State B → Ending → Type 0
  Waits limit s t e = Along s t × (e ≡ ending.Spent limit) × (limit < s.count + R.remaining s.at)

  abbrev pub Arrives : ℕ → State B → State B → Ending → Type 0
  Arrives limit s t e = (u : State B) × Met s u × (u.count ≤ limit) × Runs M limit u t e

  arrives_on : (limit : ℕ) (s u t : State B) (e : Ending) → Along s u → Arrives limit u t e → Arrives limit s t e
  arrives_on limit s u t e g h = (
    h.0,
    record {
      listed = h.1.listed;
      there = cc;
      function = cc;
      returns = cc;
      when = cc;
      keeps = λ p seen. h.1.keeps p (rw g.join_address seen) ∙ g.keeps p seen;
      well_formed = λ f. h.1.well_formed (g.well_formed f);
    },
    h.2,
    h.3,
  )

  onward : (limit : ℕ) (s u t : State B) (e : Ending) → Runs M limit u t e → (u.at < M.size → High S u.at → Waits limit u t e ⊎ Arrives limit u t e) →
      Along s u ⊎ (Met s u × (u.count ≤ limit)) → Waits limit s t e ⊎ Arrives limit s t e
  onward limit s u t e r later (inl g) = ⊎_elim (λ (h : Waits limit u t e). inl (grind arith)) (λ h. inr (arrives_on limit s u t e g h)) (later g.listed g.high)
  onward limit s u t e r later (inr g) = inr (u, g.0, g.1, r)

  pub solo : (limit : ℕ) (s t : State B) (e : Ending) → Runs M limit s t e → s.at < M.size → High S s.at → Waits limit s t e ⊎ Arrives limit s t e
  solo limit s t e (last _ _ _ p) l high = let h = rw p at (after limit s l high) in grind arith
  solo limit s t e (more _ u _ _ p r) l high = onward limit s u t e r (solo limit u t e r) (rw p at (after limit s l high))
