-- The order of a join keeps the laws exactly where the join is that of a semilattice with least element 0. Assumes nothing.
use Rattle.std.specs.Prelude.{◌≡◌, ℕ, ◌<◌, true, ◌&&◌, ◌==◌, nat_lt}
use Rattle.std.proofs.lemmas.Bool.{ltb-true, lt-ltb, eqb-true, eq-eqb, and_parts}
use Rattle.levels.specs.Order.{Laws}
use Rattle.levels.specs.Joins.{by_join}
use Rattle.levels.specs.Both.{and_parts₃, and_from₃, or_zero_below, none_right}

module _ (n : ℕ) (j : ℕ → ℕ → ℕ) where
  -- the equations of a join of the codes below n
  pub record Semilattice : Type 0 where
    pub some : 0 < n
    pub closed : (a b : ℕ) → a < n → b < n → j a b < n
    pub small : (a b : ℕ) → a < n → b < n → a < 256 → b < 256 → j a b < 256
    pub unit : (a : ℕ) → a < n → j 0 a ≡ a
    pub idempotent : (a : ℕ) → a < n → j a a ≡ a
    pub commutative : (a b : ℕ) → a < n → b < n → j a b ≡ j b a
    pub associative : (a b c : ℕ) → a < n → b < n → c < n → j (j a b) c ≡ j a (j b c)

  -- what a flow says
  record Flow (a b : ℕ) : Type 0 where
    from : a < n
    to : b < n
    joins : j a b ≡ b

  flow : (a b : ℕ) → (by_join n j).flows a b ≡ true → Flow a b
  flow a b h = let t = and_parts₃ (nat_lt a n) (nat_lt b n) (j a b == b) h in record { from = ltb-true _ _ t.0; to = ltb-true _ _ t.1; joins = eqb-true _ _ t.2 }

  flows : (a b : ℕ) → Flow a b → (by_join n j).flows a b ≡ true
  flows a b f = and_from₃ _ _ _ (lt-ltb _ _ f.from) (lt-ltb _ _ f.to) (eq-eqb _ _ f.joins)

  join_at : (a b : ℕ) → a < n → b < n → (by_join n j).join a b ≡ j a b
  join_at a b h k = let x = lt-ltb a n h in let y = lt-ltb b n k in rw (x, y)

  module _ (s : Semilattice) where
    above_left : (a b : ℕ) → a < n → b < n → Flow a (j a b)
    above_left a b x y = let e = s.associative a a b x x y in let i = s.idempotent a x in record { from = x; to = s.closed a b x y; joins = cc }

    above_right : (a b : ℕ) → a < n → b < n → Flow b (j a b)
    above_right a b x y = rw (s.commutative a b x y) (above_left b a y x)

    below_all : (a b c : ℕ) → Flow a c → Flow b c → Flow (j a b) c
    below_all a b c f g =
        let e = s.associative a b c f.from g.from f.to in record { from = s.closed a b f.from g.from; to = f.to; joins = cc }

    along : (a b c : ℕ) → Flow a b → Flow b c → Flow a c
    along a b c f g = let e = s.associative a b c f.from f.to g.to in record { from = f.from; to = g.to; joins = cc }

    byte : (a b : ℕ) → a < 256 → b < 256 → (by_join n j).join a b < 256
    byte a b h k =
        or_zero_below (nat_lt a n && nat_lt b n) (j a b) (λ e. let p = and_parts (nat_lt a n) (nat_lt b n) e in s.small a b (ltb-true _ _ p.0) (ltb-true _ _ p.1) h k)

    pub semilattice_laws : Laws (by_join n j)
    semilattice_laws = record {
      zero_held = lt-ltb _ _ s.some;
      least = λ a h. let x = ltb-true _ _ h in flows 0 a (record { from = s.some; to = x; joins = s.unit a x });
      reflexive = λ a h. let x = ltb-true _ _ h in flows a a (record { from = x; to = x; joins = s.idempotent a x });
      transitive = λ a b c h k. flows a c (along a b c (flow a b h) (flow b c k));
      antisymmetric = λ a b h k. let f = flow a b h in let g = flow b a k in let e = s.commutative a b f.from f.to in cc;
      join_held = λ a b h k. let x = ltb-true _ _ h in let y = ltb-true _ _ k in lt-ltb _ _ (rw (join_at a b x y) (s.closed a b x y));
      join_left = λ a b h k. let x = ltb-true _ _ h in let y = ltb-true _ _ k in rw (join_at a b x y) (flows a (j a b) (above_left a b x y));
      join_right = λ a b h k. let x = ltb-true _ _ h in let y = ltb-true _ _ k in rw (join_at a b x y) (flows b (j a b) (above_right a b x y));
      join_least = λ a b c h k. let f = flow a c h in let g = flow b c k in rw (join_at a b f.from g.from) (flows (j a b) c (below_all a b c f g));
      join_small = byte;
      flows_from_held = λ a b h. lt-ltb _ _ (flow a b h).from;
      flows_to_held = λ a b h. lt-ltb _ _ (flow a b h).to;
      join_left_unheld = λ a b h. rw h;
      join_right_unheld = λ a b h. none_right (nat_lt a n) (nat_lt b n) _ h;
    }

  -- the other way
  module _ (laws : Laws (by_join n j)) where
    left : (a b : ℕ) → a < n → b < n → Flow a (j a b)
    left a b h k = flow a (j a b) (rw (join_at a b h k) at (laws.join_left a b (lt-ltb a n h) (lt-ltb b n k)))

    right : (a b : ℕ) → a < n → b < n → Flow b (j a b)
    right a b h k = flow b (j a b) (rw (join_at a b h k) at (laws.join_right a b (lt-ltb a n h) (lt-ltb b n k)))

    under : (a b c : ℕ) → Flow a c → Flow b c → Flow (j a b) c
    under a b c f g = flow (j a b) c (rw (join_at a b f.from g.from) at (laws.join_least a b c (flows a c f) (flows b c g)))

    on : (a b c : ℕ) → Flow a b → Flow b c → Flow a c
    on a b c f g = flow a c (laws.transitive a b c (flows a b f) (flows b c g))

    one : (a b : ℕ) → Flow a b → Flow b a → a ≡ b
    one a b f g = laws.antisymmetric a b (flows a b f) (flows b a g)

    swapped : (a b : ℕ) → a < n → b < n → Flow (j a b) (j b a)
    swapped a b x y = under a b (j b a) (right b a y x) (left b a y x)

    regrouped : (a b c : ℕ) → a < n → b < n → c < n → j (j a b) c ≡ j a (j b c)
    regrouped a b c x y z =
        let ab = left a b x y in
        let ba = right a b x y in
        let bc = left b c y z in
        let cb = right b c y z in
        let p = left (j a b) c ab.to z in
        let q = right a (j b c) x bc.to in
        one (j (j a b) c) (j a (j b c))
        (under (j a b) c _ (under a b _ (left a (j b c) x bc.to) (on b (j b c) _ bc q)) (on c (j b c) _ cb q))
        (under a (j b c) _ (on a (j a b) _ ab p) (under b c _ (on b (j a b) _ ba p) (right (j a b) c ab.to z)))

    pub laws_semilattice : Semilattice
    laws_semilattice = record {
      some = ltb-true _ _ laws.zero_held;
      closed = λ a b x y. (left a b x y).to;
      small = λ a b x y h k. rw (join_at a b x y) at (laws.join_small a b h k);
      unit = λ a x. (flow 0 a (laws.least a (lt-ltb a n x))).joins;
      idempotent = λ a x. (flow a a (laws.reflexive a (lt-ltb a n x))).joins;
      commutative = λ a b x y. one (j a b) (j b a) (swapped a b x y) (swapped b a y x);
      associative = regrouped;
    }
