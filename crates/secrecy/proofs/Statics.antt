-- What acceptance says of rows alone, and of one word on two bodies.
use Rattle.std.proofs.Common.{◌≡◌, ℕ, zero, suc, ◌<◌, ◌≤◌, Bool, true, false, List, [], ◌∷◌, refl, arith}
use Rattle.machine.specs.Machine.{Kind, plain, forks, Positive, AgreeOn}
use Rattle.secrecy.specs.Rows.{is_place}
use Rattle.secrecy.specs.Flow.{joined, join_of_all, deciding_of, deciding, pc_level, level_after}
use Rattle.secrecy.specs.Accepted.{Edge, Stays, WordRule, Flows}
use Rattle.secrecy.proofs.Setting.{Setting, Seen, Agree, High}

module _ {B V W : Type 0} (S : Setting B V W) where
  open S use {m, laws, M, sound, R, rules, observer, observed, levels, regions, beyond}

  -- what a sees of b, where a flows to b
  down : (a b : ℕ) → m.flows a b ≡ true → Seen S b → Seen S a
  down a b flow seen = laws.transitive a b observer flow seen

  none_seen : Seen S 0
  none_seen = laws.least observer observed

  joined_held : (a : ℕ) (qs : List ℕ) → m.held (joined m (R.region a) (R.level a) qs) ≡ true
  joined_held a [] = regions a
  joined_held a (q ∷ qs) = laws.join_held _ _ (levels a q) (joined_held a qs)

  all_held : (a : ℕ) (qs : List ℕ) → m.held (join_of_all m (R.level a) qs) ≡ true
  all_held a [] = laws.zero_held
  all_held a (q ∷ []) = levels a q
  all_held a (q ∷ (r ∷ rs)) = laws.join_held _ _ (levels a q) (all_held a (r ∷ rs))

  deciding_held : (a : ℕ) (k : Kind) → m.held (deciding_of m (R.level a) k) ≡ true
  deciding_held a k = grind (arith, all_held a, laws.zero_held)

  -- who sees a join sees each of its parts
  parts_seen : (x y : ℕ) → m.held x ≡ true → m.held y ≡ true → Seen S (m.join x y) → Seen S x × Seen S y
  parts_seen x y h k seen = (down x (m.join x y) (laws.join_left x y h k) seen, down y (m.join x y) (laws.join_right x y h k) seen)

  -- who sees a join over places sees each place
  sources_agree : (a : ℕ) (x y : B) → Agree S a x y → (qs : List ℕ) → Seen S (joined m (R.region a) (R.level a) qs) → AgreeOn M qs x y
  sources_agree a x y agree [] seen = tt
  sources_agree a x y agree (q ∷ qs) seen = let p = parts_seen _ _ (levels a q) (joined_held a qs) seen in (agree q p.0, sources_agree a x y agree qs p.1)

  pub deciders_agree : (a : ℕ) (x y : B) → Agree S a x y → (qs : List ℕ) → Seen S (join_of_all m (R.level a) qs) → AgreeOn M qs x y
  deciders_agree a x y agree [] seen = tt
  deciders_agree a x y agree (q ∷ []) seen = (agree q seen, tt)
  deciders_agree a x y agree (q ∷ (r ∷ rs)) seen =
      let p = parts_seen _ _ (levels a q) (all_held a (r ∷ rs)) seen in (agree q p.0, deciders_agree a x y agree (r ∷ rs) p.1)

  -- and the region level
  region_seen : (a : ℕ) (qs : List ℕ) → Seen S (joined m (R.region a) (R.level a) qs) → Seen S (R.region a)
  region_seen a [] seen = seen
  region_seen a (q ∷ qs) seen = region_seen a qs (parts_seen _ _ (levels a q) (joined_held a qs) seen).1

  pub pc_region : (a : ℕ) → Seen S (pc_level m M R a) → Seen S (R.region a)
  pc_region a seen = (parts_seen _ _ (regions a) (deciding_held a (M.kind a)) seen).0

  pub pc_deciding : (a : ℕ) → Seen S (pc_level m M R a) → Seen S (deciding m M R a)
  pc_deciding a seen = (parts_seen _ _ (regions a) (deciding_held a (M.kind a)) seen).1

  -- levels flow at every number, place or not
  flow_if : (a b : ℕ) → Flows m M R a b → (p : ℕ) (t : Bool) → is_place p ≡ t → m.flows (level_after m M R a p) (R.level b p) ≡ true
  flow_if a b flows p true e = flows p e
  flow_if a b flows p false e = beyond a b p e

  flow : (a b : ℕ) → Flows m M R a b → (p : ℕ) → m.flows (level_after m M R a p) (R.level b p) ≡ true
  flow a b flows p = flow_if a b flows p (is_place p) refl

  -- one word on two bodies that agree: they agree by each row that its levels flow to
  pub arrive : (a b : ℕ) (x y : B) → M.well_formed x ≡ true → M.well_formed y ≡ true → Agree S a x y → Flows m M R a b → Agree S b (M.effect a x) (M.effect a y)
  arrive a b x y fx fy agree flows p seen =
      let before = down _ _ (flow a b flows p) seen in
      grind (arith, sound.local a p x y fx fy, sources_agree a x y agree (M.sources a p), sound.kept a p x, sound.kept a p y, agree p)

  -- a word that writes decides nothing
  writer : (a p : ℕ) → M.writes a p ≡ true → Seen S (deciding m M R a)
  writer a p w = grind (arith, sound.still a, none_seen)

  abbrev Untouched : ℕ → ℕ → Type 0
  Untouched a p = (M.writes a p ≡ false) × Seen S (R.level a p)

  -- a high word writes no place that is seen after it
  quiet : (a b p : ℕ) → High S a → Flows m M R a b → Seen S (R.level b p) → Untouched a p
  quiet a b p high flows seen = let before = down _ _ (flow a b flows p) seen in grind (arith, region_seen a (M.sources a p), writer a p)

  -- an edge that stays in a high region leads to a high word
  pub stays_high : (a b c : ℕ) → High S a → Stays m M R a b c → High S b
  stays_high a b c high t = grind (arith, pc_region b, down (pc_level m M R a) (R.region b) t.region)

  -- high words are inside
  pub high_inside : (a : ℕ) → a < M.size → High S a → 0 < R.remaining a
  high_inside a l high = grind arith

  -- what is seen by the row of the join address is seen on the high way to it, and not written there
  abbrev pub Early : ℕ → Type 0
  Early a = (p : ℕ) → Seen S (R.level (R.join_address a) p) → Untouched a p

  early_edge : (a b c n : ℕ) → 0 < c → a < M.size → High S a → R.remaining a ≤ suc n → Edge m M R a b c →
      (b < M.size → High S b → R.remaining b ≤ n → Early b) → Early a
  early_edge a b c n pos l high le edge later p seen =
      grind (arith, edge.timed (high_inside a l high), quiet a b p high edge.levels, later edge.listed, stays_high a b c high)

  early_by : (n a : ℕ) (k : Kind) → WordRule m M R a k → Positive k → a < M.size → High S a → R.remaining a ≤ suc n →
      ((b : ℕ) → b < M.size → High S b → R.remaining b ≤ n → Early b) → Early a
  early_by n a (plain b c) rule pos l high le later = early_edge a b c n pos l high le rule (later b)
  early_by n a (forks qs b c b' c') rule pos l high le later = early_edge a b c n pos.0 l high le rule.0 (later b)
  early_by n a k rule pos l high le later = let h = high_inside a l high in grind arith

  early_all : (n a : ℕ) → a < M.size → High S a → R.remaining a ≤ n → Early a
  early_all zero a l high le = absurd (omega (arith, high_inside a l high))
  early_all (suc n) a l high le = early_by n a (M.kind a) (rules.words a l) (sound.positive a) l high le (early_all n)

  pub early : (a : ℕ) → a < M.size → High S a → Early a
  early a l high = early_all (R.remaining a) a l high (omega arith)
