-- A machine, given by its words. Assumes nothing.
use Rattle.std.specs.Prelude.{◌≡◌, ℕ, ◌<◌, Bool, true, false, List, [], ◌∷◌, ◌≢◌}

-- P of each
abbrev pub Each : (ℕ → Type 0) → List ℕ → Type 0
Each P [] = Unit {0}
Each P (x ∷ xs) = P x × Each P xs

-- Where a word leads, and at what cycles:
--   plain b c            always to the address b, in c cycles
--   forks qs b c b' c'   by a decision that comes from the places qs, on to b in c cycles or aside to b' in c'
--   calls t c            into the function at t, in c cycles
--   rets c               back to the newest return, in c cycles
pub data Kind : Type 0 where
  plain : ℕ → ℕ → Kind
  forks : List ℕ → ℕ → ℕ → ℕ → ℕ → Kind
  calls : ℕ → ℕ → Kind
  rets : ℕ → Kind

-- every way of a word takes at least one cycle
abbrev pub Positive : Kind → Type 0
Positive (plain b c) = 0 < c
Positive (forks qs b c b' c') = (0 < c) × (0 < c')
Positive (calls t c) = 0 < c
Positive (rets c) = 0 < c

-- B is what the words work on (registers, flags and memory), V what one place of it holds, and W what a put or a read names.
-- Places are numbered.
pub record Machine (B V W : Type 0) : Type 0 where
  -- how many words there are, and where the one at an address leads
  pub size : ℕ
  pub kind : ℕ → Kind
  -- whether the word at an address writes a place, and the places that its new value comes from
  pub writes : ℕ → ℕ → Bool
  pub sources : ℕ → ℕ → List ℕ
  -- what the word at an address makes of everything, and, where it forks, whether it goes aside
  pub effect : ℕ → B → B
  pub decides : ℕ → B → Bool
  -- what a place holds
  pub holds : B → ℕ → V
  -- everything cleared, and whether all is as large as it should be
  pub blank : B
  pub well_formed : B → Bool
  -- the place that a put or a read touches, whether there is one, and what it does
  pub place : W → ℕ
  pub valid : W → Bool
  pub put : W → ℕ → B → B
  pub get : W → B → ℕ

-- Two states hold the same at each of some places.
abbrev pub AgreeOn : {B V W : Type 0} → Machine B V W → List ℕ → B → B → Type 0
AgreeOn M qs x y = Each (λ q. M.holds x q ≡ M.holds y q) qs

-- What a machine owes to those who trust its table of writes and sources.
pub record Sound {B V W : Type 0} (M : Machine B V W) : Type 0 where
  pub positive : (a : ℕ) → Positive (M.kind a)
  -- the new value of a written place is a function of its sources alone
  pub local : (a p : ℕ) (x y : B) → M.well_formed x ≡ true → M.well_formed y ≡ true → M.writes a p ≡ true → AgreeOn M (M.sources a p) x y → M.holds (M.effect a x) p ≡ M.holds (M.effect a y) p
  -- a place that is not written keeps its value
  pub kept : (a p : ℕ) (x : B) → M.writes a p ≡ false → M.holds (M.effect a x) p ≡ M.holds x p
  -- which way a fork takes is a function of its deciding places alone
  pub decided : (a : ℕ) (qs : List ℕ) (b c b' c' : ℕ) → M.kind a ≡ forks qs b c b' c' → (x y : B) → AgreeOn M qs x y → M.decides a x ≡ M.decides a y
  -- a fork writes nothing
  pub still : (a : ℕ) (qs : List ℕ) (b c b' c' : ℕ) → M.kind a ≡ forks qs b c b' c' → (p : ℕ) → M.writes a p ≡ false
  -- sizes are kept
  pub well_formed_blank : M.well_formed M.blank ≡ true
  pub well_formed_effect : (a : ℕ) (x : B) → M.well_formed x ≡ true → M.well_formed (M.effect a x) ≡ true
  pub well_formed_put : (w : W) (n : ℕ) (x : B) → M.well_formed x ≡ true → M.well_formed (M.put w n x) ≡ true
  -- a put touches its place only, and a read comes from it only
  pub put_same : (w : W) (n : ℕ) (x y : B) (q : ℕ) → M.valid w ≡ true → M.well_formed x ≡ true → M.well_formed y ≡ true → M.holds x q ≡ M.holds y q → M.holds (M.put w n x) q ≡ M.holds (M.put w n y) q
  pub put_else : (w : W) (n k : ℕ) (x y : B) (q : ℕ) → M.valid w ≡ true → (q ≢ M.place w) → M.holds x q ≡ M.holds y q → M.holds (M.put w n x) q ≡ M.holds (M.put w k y) q
  pub get_same : (w : W) (x y : B) → M.valid w ≡ true → M.holds x (M.place w) ≡ M.holds y (M.place w) → M.get w x ≡ M.get w y
