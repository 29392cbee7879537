-- Where each level is the join of two accepted sets', the rows are accepted.
use Rattle.std.proofs.Common.{◌≡◌, ℕ, ◌+◌, true, ◌⊎◌, inl, inr, List, [], ◌∷◌, arith}
use Rattle.levels.specs.Order.{Meaning, Laws}
use Rattle.machine.specs.Machine.{Machine, Kind, plain, forks, calls, rets}
use Rattle.secrecy.specs.Rows.{Rows}
use Rattle.secrecy.specs.Flow.{joined, join_of_all, deciding_of, deciding, pc_level, level_after}
use Rattle.secrecy.specs.Accepted.{Shape, Leaves, Stays, Edge, CallRule, RetRule, WordRule, Flows, Accepted}
use Rattle.secrecy.specs.Filling.{SameGiven, AllHeld}
use Rattle.secrecy.proofs.Monotone.{zero_only}

-- the levels of T are the joins of those of R and S, and all three have the same given columns
pub record Joined (m : Meaning) (R S T : Rows) : Type 0 where
  pub first : SameGiven T R
  pub second : SameGiven T S
  pub levels : (row p : ℕ) → T.level row p ≡ m.join (R.level row p) (S.level row p)
  pub regions : (row : ℕ) → T.region row ≡ m.join (R.region row) (S.region row)

module _ (m : Meaning) (laws : Laws m) where
  pub zero_join : m.join 0 0 ≡ 0
  zero_join = zero_only m laws _ (let z = laws.least 0 laws.zero_held in laws.join_least 0 0 0 z z)

  module _ (R S T : Rows) (j : Joined m R S T) where
    region_zero : (row : ℕ) → R.region row ≡ 0 → S.region row ≡ 0 → T.region row ≡ 0
    region_zero row e f = rw (j.regions row, e, f) zero_join

    pub shape : (n row : ℕ) → Shape n R row → Shape n S row → Shape n T row
    shape n row f g =
        let x = j.first.join_address row in
        let y = j.first.remaining row in
        let z = j.first.function row in
        let y' = j.second.remaining row in
        record {
          outside = λ e. let o = f.outside (cc) in let p = g.outside (cc) in (region_zero row o.0 p.0, cc);
          inside = λ e. let i = f.inside (omega arith) in omega arith;
          listed = let l = f.listed in omega arith;
          begin = λ e. let b = f.begin e in cc;
          finish = λ e. let o = f.finish e in let p = g.finish e in (region_zero row o.0 p.0, cc, cc, cc);
        }

  -- what a join flows to, each of its parts flows to
  left_flows : (a b c : ℕ) → m.held a ≡ true → m.held b ≡ true → m.flows (m.join a b) c ≡ true → m.flows a c ≡ true
  left_flows a b c x y f = laws.transitive a _ c (laws.join_left a b x y) f

  right_flows : (a b c : ℕ) → m.held a ≡ true → m.held b ≡ true → m.flows (m.join a b) c ≡ true → m.flows b c ≡ true
  right_flows a b c x y f = laws.transitive b _ c (laws.join_right a b x y) f

  module _ {B V W : Type 0} (M : Machine B V W) where
    module _ (R : Rows) (held : AllHeld m M R) where
      joined_held : (a : ℕ) (qs : List ℕ) → m.held (joined m (R.region a) (R.level a) qs) ≡ true
      joined_held a [] = held.regions a
      joined_held a (q ∷ qs) = laws.join_held _ _ (held.levels a q) (joined_held a qs)

      all_held : (a : ℕ) (qs : List ℕ) → m.held (join_of_all m (R.level a) qs) ≡ true
      all_held a [] = laws.zero_held
      all_held a (q ∷ []) = held.levels a q
      all_held a (q ∷ (r ∷ rs)) = laws.join_held _ _ (held.levels a q) (all_held a (r ∷ rs))

      deciding_held : (a : ℕ) (k : Kind) → m.held (deciding_of m (R.level a) k) ≡ true
      deciding_held a k = grind (arith, all_held a, laws.zero_held)

    module _ (R S T : Rows) (r : AllHeld m M R) (s : AllHeld m M S) (j : Joined m R S T) where
      level_flows : (a p c : ℕ) → m.flows (R.level a p) c ≡ true → m.flows (S.level a p) c ≡ true → m.flows (T.level a p) c ≡ true
      level_flows a p c f g = rw (j.levels a p) (laws.join_least _ _ c f g)

      region_flows : (a c : ℕ) → m.flows (R.region a) c ≡ true → m.flows (S.region a) c ≡ true → m.flows (T.region a) c ≡ true
      region_flows a c f g = rw (j.regions a) (laws.join_least _ _ c f g)

      -- what levels that follow from R and from S both flow to, those that follow from T flow to
      joined_flows : (a : ℕ) (qs : List ℕ) (c : ℕ) → m.flows (joined m (R.region a) (R.level a) qs) c ≡ true → m.flows (joined m (S.region a) (S.level a) qs) c ≡ true → m.flows (joined m (T.region a) (T.level a) qs) c ≡ true
      joined_flows a [] c f g = region_flows a c f g
      joined_flows a (q ∷ qs) c f g =
          let x = joined_held R r a qs in
          let y = joined_held S s a qs in
          laws.join_least _ _ c
          (level_flows a q c (left_flows _ _ c (r.levels a q) x f) (left_flows _ _ c (s.levels a q) y g))
          (joined_flows a qs c (right_flows _ _ c (r.levels a q) x f) (right_flows _ _ c (s.levels a q) y g))

      all_flow : (a : ℕ) (qs : List ℕ) (c : ℕ) → m.flows (join_of_all m (R.level a) qs) c ≡ true → m.flows (join_of_all m (S.level a) qs) c ≡ true → m.flows (join_of_all m (T.level a) qs) c ≡ true
      all_flow a [] c f g = f
      all_flow a (q ∷ []) c f g = level_flows a q c f g
      all_flow a (q ∷ (p ∷ ps)) c f g =
          let x = all_held R r a (p ∷ ps) in
          let y = all_held S s a (p ∷ ps) in
          laws.join_least _ _ c
          (level_flows a q c (left_flows _ _ c (r.levels a q) x f) (left_flows _ _ c (s.levels a q) y g))
          (all_flow a (p ∷ ps) c (right_flows _ _ c (r.levels a q) x f) (right_flows _ _ c (s.levels a q) y g))

      deciding_by : (a : ℕ) (k : Kind) (c : ℕ) → m.flows (deciding_of m (R.level a) k) c ≡ true → m.flows (deciding_of m (S.level a) k) c ≡ true → m.flows (deciding_of m (T.level a) k) c ≡ true
      deciding_by a (plain b' c') c f g = f
      deciding_by a (forks qs b' c' b'' c'') c f g = all_flow a qs c f g
      deciding_by a (calls t c') c f g = f
      deciding_by a (rets c') c f g = f

      deciding_flows : (a c : ℕ) → m.flows (deciding m M R a) c ≡ true → m.flows (deciding m M S a) c ≡ true → m.flows (deciding m M T a) c ≡ true
      deciding_flows a c f g = deciding_by a (M.kind a) c f g

      pc_flows : (a c : ℕ) → m.flows (pc_level m M R a) c ≡ true → m.flows (pc_level m M S a) c ≡ true → m.flows (pc_level m M T a) c ≡ true
      pc_flows a c f g =
          let x = deciding_held R r a (M.kind a) in
          let y = deciding_held S s a (M.kind a) in
          laws.join_least _ _ c
          (region_flows a c (left_flows _ _ c (r.regions a) x f) (left_flows _ _ c (s.regions a) y g))
          (deciding_flows a c (right_flows _ _ c (r.regions a) x f) (right_flows _ _ c (s.regions a) y g))

      after_flows : (a p c : ℕ) → m.flows (level_after m M R a p) c ≡ true → m.flows (level_after m M S a p) c ≡ true → m.flows (level_after m M T a p) c ≡ true
      after_flows a p c f g = grind (arith, joined_flows a (M.sources a p) c, level_flows a p c)

      -- levels of R and of S flow to those of T
      level_left : (b p : ℕ) → m.flows (R.level b p) (T.level b p) ≡ true
      level_left b p = rw (j.levels b p) (laws.join_left _ _ (r.levels b p) (s.levels b p))

      level_right : (b p : ℕ) → m.flows (S.level b p) (T.level b p) ≡ true
      level_right b p = rw (j.levels b p) (laws.join_right _ _ (r.levels b p) (s.levels b p))

      region_left : (b : ℕ) → m.flows (R.region b) (T.region b) ≡ true
      region_left b = rw (j.regions b) (laws.join_left _ _ (r.regions b) (s.regions b))

      region_right : (b : ℕ) → m.flows (S.region b) (T.region b) ≡ true
      region_right b = rw (j.regions b) (laws.join_right _ _ (r.regions b) (s.regions b))

      -- what the rules ask of an edge
      flows : (a b : ℕ) → Flows m M R a b → Flows m M S a b → Flows m M T a b
      flows a b f g p place =
          after_flows a p _ (laws.transitive _ _ _ (f p place) (level_left b p)) (laws.transitive _ _ _ (g p place) (level_right b p))

      stays : (a b c : ℕ) → Stays m M R a b c → Stays m M S a b c → Stays m M T a b c
      stays a b c f g =
          let ja = j.first.join_address a in
          let jb = j.first.join_address b in
          let ra = j.first.remaining a in
          let rb = j.first.remaining b in
          record {
            same = let e = f.same in cc;
            inside = let e = f.inside in omega arith;
            less = let e = f.less in omega arith;
            region = pc_flows a _ (laws.transitive _ _ _ f.region (region_left b)) (laws.transitive _ _ _ g.region (region_right b));
          }

      leaves : (a b c : ℕ) → Leaves R a b c → Leaves T a b c
      leaves a b c f =
          let ja = j.first.join_address a in
          let ra = j.first.remaining a in
          let rb = j.first.remaining b in
          record { there = let e = f.there in cc; outside = let e = f.outside in cc; all = let e = f.all in cc }

      timed_by : (a b c : ℕ) → Leaves R a b c ⊎ Stays m M R a b c → Leaves S a b c ⊎ Stays m M S a b c → Leaves T a b c ⊎ Stays m M T a b c
      timed_by a b c (inl f) g = inl (leaves a b c f)
      timed_by a b c (inr f) (inr g) = inr (stays a b c f g)
      timed_by a b c (inr f) (inl g) =
          let x = j.first.remaining b in
          let y = j.second.remaining b in
          let e = f.inside in
          let z = g.outside in
          absurd (omega arith)

      edge : (a b c : ℕ) → Edge m M R a b c → Edge m M S a b c → Edge m M T a b c
      edge a b c f g =
          let x = j.first.remaining a in
          let y = j.second.remaining a in
          record {
            listed = f.listed;
            function = let fa = j.first.function a in let fb = j.first.function b in let e = f.function in cc;
            timed = λ h. timed_by a b c (f.timed (omega arith)) (g.timed (omega arith));
            levels = flows a b f.levels g.levels;
          }

      call : (a t : ℕ) → CallRule m M R a t → CallRule m M S a t → CallRule m M T a t
      call a t f g =
          let x = j.first.function a in
          let y = j.first.function t in
          let z = j.first.function (a + 1) in
          let r' = j.first.remaining a in
          record {
            outside = let e = f.outside in cc;
            listed = f.listed;
            named = let e = f.named in cc;
            back = f.back;
            function = let e = f.function in cc;
            levels = flows a t f.levels g.levels;
          }

      ret : (a : ℕ) → RetRule m M R a → RetRule m M S a → RetRule m M T a
      ret a f g =
          let x = j.first.function a in
          let y = j.second.function a in
          let r' = j.first.remaining a in
          record {
            outside = let e = f.outside in cc;
            levels = λ b c l k. flows a (b + 1) (f.levels b c l (rw x at k)) (g.levels b c l (rw y at k));
            finish = λ e. flows a M.size (f.finish (cc)) (g.finish (cc));
          }

      word : (a : ℕ) (k : Kind) → WordRule m M R a k → WordRule m M S a k → WordRule m M T a k
      word a (plain b c) f g = edge a b c f g
      word a (forks qs b c b' c') f g = (edge a b c f.0 g.0, edge a b' c' f.1 g.1)
      word a (calls t c) f g = call a t f g
      word a (rets c) f g = ret a f g

      pub joined_accepted : Accepted m M R → Accepted m M S → Accepted m M T
      joined_accepted f g = record {
        held = λ row p l k. rw (j.levels row p) (laws.join_held _ _ (r.levels row p) (s.levels row p));
        regions = λ row l. rw (j.regions row) (laws.join_held _ _ (r.regions row) (s.regions row));
        shapes = λ row l. shape R S T j M.size row (f.shapes row l) (g.shapes row l);
        words = λ a l. word a (M.kind a) (f.words a l) (g.words a l);
        low_outside = λ a l e.
            let x = j.first.remaining a in
            let y = j.second.remaining a in
            let z = laws.least 0 laws.zero_held in
            let p : m.flows (deciding m M R a) 0 ≡ true = rw (f.low_outside a l (cc)) z in
            let q : m.flows (deciding m M S a) 0 ≡ true = rw (g.low_outside a l (cc)) z in
            zero_only m laws _ (deciding_flows a 0 p q);
      }
