-- Raises stay below accepted rows, and settled rows below accepted ones are accepted.
use Rattle.std.proofs.Common.{◌≡◌, ℕ, ◌+◌, ◌<◌, true, ◌⊎◌, inl, inr, ⊎_elim, refl, arith}
use Rattle.levels.specs.Order.{Meaning, Laws}
use Rattle.machine.specs.Machine.{Machine, Kind, plain, forks, calls, rets}
use Rattle.secrecy.specs.Rows.{Rows}
use Rattle.secrecy.specs.Flow.{deciding, pc_level}
use Rattle.secrecy.specs.Accepted.{Shape, Leaves, Stays, Edge, WordRule, Flows, Accepted}
use Rattle.secrecy.specs.Filling.{SameGiven, Below, LeadsBy, Leads, Settled, AllHeld, RaisesBelow, FillingFor}
use Rattle.secrecy.proofs.Monotone.{join_below, zero_only, deciding_rises, pc_level_rises, level_after_rises}

-- where a word leads is a matter of given columns
leads_by : {B V W : Type 0} (m : Meaning) (M : Machine B V W) (R S : Rows) → SameGiven R S → (a : ℕ) (k : Kind) (b : ℕ) → LeadsBy m M R a k b → LeadsBy m M S a k b
leads_by m M R S same a (plain b' c) b h = h
leads_by m M R S same a (forks qs b' c b'' c') b h = h
leads_by m M R S same a (calls t c) b h = h
leads_by m M R S same a (rets c) b (inl (k, l, w, e)) = inl (k, l, (w.0, rw (← same.function a) w.1), e)
leads_by m M R S same a (rets c) b (inr (z, e)) = inr (rw (← same.function a) z, e)

pub leads_same : {B V W : Type 0} (m : Meaning) (M : Machine B V W) (R S : Rows) → SameGiven R S → (a b : ℕ) → Leads m M R a b → Leads m M S a b
leads_same m M R S same a b h = leads_by m M R S same a (M.kind a) b h

module _ {B V W : Type 0} (m : Meaning) (M : Machine B V W) (S : Rows) (accepted : Accepted m M S) where
  -- the levels of accepted rows flow along every way
  flows_by : (a : ℕ) (k : Kind) (b : ℕ) → WordRule m M S a k → LeadsBy m M S a k b → Flows m M S a b
  flows_by a (plain b' c) b rule e = grind (arith, rule.levels)
  flows_by a (forks qs b' c b'' c') b rule (inl e) = grind (arith, rule.0.levels)
  flows_by a (forks qs b' c b'' c') b rule (inr e) = grind (arith, rule.1.levels)
  flows_by a (calls t c) b rule e = grind (arith, rule.levels)
  flows_by a (rets c) b rule (inl (k, l, w, e)) = grind (arith, rule.levels k w.0 l)
  flows_by a (rets c) b rule (inr (z, e)) = grind (arith, rule.finish)

  -- and so does their pc_level between rows inside
  stays_by : (a b c : ℕ) → Edge m M S a b c → 0 < S.remaining a → 0 < S.remaining b → m.flows (pc_level m M S a) (S.region b) ≡ true
  stays_by a b c edge h k = ⊎_elim (λ (g : Leaves S a b c). absurd (let z = g.outside in omega arith)) (λ (g : Stays m M S a b c). g.region) (edge.timed h)

  region_by : (a : ℕ) (k : Kind) (b : ℕ) → WordRule m M S a k → LeadsBy m M S a k b → 0 < S.remaining a → 0 < S.remaining b → m.flows (pc_level m M S a) (S.region b) ≡ true
  region_by a (plain b' c) b rule e h k = grind (arith, stays_by a b c)
  region_by a (forks qs b' c b'' c') b rule (inl e) h k = grind (arith, stays_by a b c)
  region_by a (forks qs b' c b'' c') b rule (inr e) h k = grind (arith, stays_by a b c')
  region_by a (calls t c) b rule e h k = absurd (let z = rule.outside in omega arith)
  region_by a (rets c) b rule e h k = absurd (let z = rule.outside in omega arith)

  pub from_accepted : Settled m M S
  from_accepted a b l k way = record {
    levels = flows_by a (M.kind a) b (accepted.words a l) way;
    region = region_by a (M.kind a) b (accepted.words a l) way;
  }

module _ {B V W : Type 0} (m : Meaning) (laws : Laws m) (M : Machine B V W) (R S : Rows) (same : SameGiven R S) (below : Below m R S) where
  module _ (settled : Settled m M S) where
    pub raises : RaisesBelow m M R S
    raises = record {
      levels = λ a b p l k way place.
          join_below m laws _ _ _ ((below b).levels p)
          (laws.transitive _ _ _ (level_after_rises m laws M R S below a p) ((settled a b l k (leads_same m M R S same a b way)).levels p place));
      regions = λ a b l k way h i.
          join_below m laws _ _ _ (below b).region
          (laws.transitive _ _ _ (pc_level_rises m laws M R S below a)
          ((settled a b l k (leads_same m M R S same a b way)).region (let e = same.remaining a in omega arith) (let e = same.remaining b in omega arith)));
    }

  module _ (accepted : Accepted m M S) (held : AllHeld m M R) (settled : Settled m M R) where
    region_zero : (row : ℕ) → S.region row ≡ 0 → R.region row ≡ 0
    region_zero row e = zero_only m laws (R.region row) (let f = (below row).region in rw e at f)

    shape : (row : ℕ) → Shape M.size S row → Shape M.size R row
    shape row s =
        let j = same.join_address row in
        let r = same.remaining row in
        let f = same.function row in
        record {
          outside = λ e. let o = s.outside (grind arith) in (region_zero row o.0, grind arith);
          inside = λ e. let i = s.inside (grind arith) in grind arith;
          listed = let l = s.listed in grind arith;
          begin = λ e. let b = s.begin e in grind arith;
          finish = λ e. let g = s.finish e in (region_zero row g.0, grind arith, grind arith, grind arith);
        }

    timed : (a b c : ℕ) → a < M.size → b < M.size → Leads m M R a b → Edge m M S a b c → 0 < R.remaining a → Leaves R a b c ⊎ Stays m M R a b c
    timed a b c l lb way edge h =
        let ja = same.join_address a in
        let jb = same.join_address b in
        let ra = same.remaining a in
        let rb = same.remaining b in
        ⊎_elim
        (λ (g : Leaves S a b c). inl (record { there = let e = g.there in grind arith; outside = let e = g.outside in grind arith; all = let e = g.all in grind arith }))
        (λ (g : Stays m M S a b c). let i = g.inside in inr (record {
          same = let e = g.same in grind arith;
          inside = grind arith;
          less = let e = g.less in grind arith;
          region = (settled a b l (omega arith) way).region h (grind arith);
        }))
        (edge.timed (grind arith))

    edge : (a b c : ℕ) → a < M.size → Leads m M R a b → Edge m M S a b c → Edge m M R a b c
    edge a b c l way e = record {
      listed = e.listed;
      function = let x = same.function a in let y = same.function b in let z = e.function in grind arith;
      timed = timed a b c l e.listed way e;
      levels = (settled a b l (let z = e.listed in omega arith) way).levels;
    }

    word_by : (a : ℕ) (k : Kind) → a < M.size → M.kind a ≡ k → WordRule m M S a k → WordRule m M R a k
    word_by a (plain b c) l i rule = edge a b c l (rw i refl) rule
    word_by a (forks qs b c b' c') l i rule = (edge a b c l (rw i (inl refl)) rule.0, edge a b' c' l (rw i (inr refl)) rule.1)
    word_by a (calls t c) l i rule =
        let x = same.function a in
        let y = same.function t in
        let z = same.function (a + 1) in
        record {
          outside = let e = rule.outside in let r = same.remaining a in grind arith;
          listed = rule.listed;
          named = let e = rule.named in grind arith;
          back = rule.back;
          function = let e = rule.function in grind arith;
          levels = (settled a t l (let z = rule.listed in omega arith) (rw i refl)).levels;
        }
    word_by a (rets c) l i rule = record {
      outside = let e = rule.outside in let r = same.remaining a in grind arith;
      levels = λ b d lb kb. (settled a (b + 1) l (omega arith) (rw i (inl (b, lb, (d, kb), refl)))).levels;
      finish = λ z. (settled a M.size l (omega arith) (rw i (inr (z, refl)))).levels;
    }

    pub settles : Accepted m M R
    settles = record {
      held = λ row p l k. held.levels row p;
      regions = λ row l. held.regions row;
      shapes = λ row l. shape row (accepted.shapes row l);
      words = λ a l. word_by a (M.kind a) l refl (accepted.words a l);
      low_outside = λ a l e.
          let z = accepted.low_outside a l (let r = same.remaining a in grind arith) in
          zero_only m laws (deciding m M R a) (let f = deciding_rises m laws M R S below a in rw z at f);
    }

pub filling : {B V W : Type 0} → FillingFor B V W
filling = record {
  raises = λ m laws M R S settled same below. raises m laws M R S same below settled;
  from_accepted = λ m laws M S accepted. from_accepted m M S accepted;
  settles = λ m laws M R S accepted same below held settled. settles m laws M R S same below accepted held settled;
}
