-- A pair of orders keeps the laws, since its parts do. Assumes nothing.
use Rattle.std.specs.Prelude.{◌≡◌, ℕ, ◌+◌, ◌*◌, ◌/◌, ◌%◌, ◌<◌, true, ◌&&◌, nat_lt}
use Rattle.std.proofs.Common.{arith}
use Rattle.std.proofs.lemmas.Bool.{ltb-true, lt-ltb, and_parts, and_from}
use Rattle.levels.specs.Order.{Meaning, Laws}
use Rattle.levels.specs.Pairs.{pair}
use Rattle.levels.specs.Both.{and_parts₃, and_from₃, or_zero_below, none_right}

module _ (p q : Meaning) (lp : Laws p) (lq : Laws q) where
  -- parts join to bytes
  pub top_byte : (a b : ℕ) → a < 65536 → b < 65536 → p.join (a / 256) (b / 256) < 256
  top_byte a b h k = lp.join_small (a / 256) (b / 256) (omega arith) (omega arith)

  pub low_byte : (a b : ℕ) → q.join (a % 256) (b % 256) < 256
  low_byte a b = lq.join_small (a % 256) (b % 256) (omega arith) (omega arith)

  -- what it says that a code is held
  record Held (a : ℕ) : Type 0 where
    word : a < 65536
    top : p.held (a / 256) ≡ true
    low : q.held (a % 256) ≡ true

  parts : (a : ℕ) → (pair p q).held a ≡ true → Held a
  parts a h = let t = and_parts₃ (nat_lt a 65536) (p.held (a / 256)) (q.held (a % 256)) h in record { word = ltb-true a 65536 t.0; top = t.1; low = t.2 }

  held : (a : ℕ) → Held a → (pair p q).held a ≡ true
  held a t = and_from₃ (nat_lt a 65536) (p.held (a / 256)) (q.held (a % 256)) (lt-ltb a 65536 t.word) t.top t.low

  -- what it says that a code may flow to another
  record Flow (a b : ℕ) : Type 0 where
    from : a < 65536
    to : b < 65536
    top : p.flows (a / 256) (b / 256) ≡ true
    low : q.flows (a % 256) (b % 256) ≡ true

  flow : (a b : ℕ) → (pair p q).flows a b ≡ true → Flow a b
  flow a b h =
      let t = and_parts₃ (nat_lt a 65536) (nat_lt b 65536) (p.flows (a / 256) (b / 256) && q.flows (a % 256) (b % 256)) h in
      let u = and_parts (p.flows (a / 256) (b / 256)) (q.flows (a % 256) (b % 256)) t.2 in
      record { from = ltb-true a 65536 t.0; to = ltb-true b 65536 t.1; top = u.0; low = u.1 }

  flows : (a b : ℕ) → Flow a b → (pair p q).flows a b ≡ true
  flows a b f = and_from₃ (nat_lt a 65536) (nat_lt b 65536) _ (lt-ltb a 65536 f.from) (lt-ltb b 65536 f.to) (and_from _ _ f.top f.low)

  from_held : (a b : ℕ) → Flow a b → (pair p q).held a ≡ true
  from_held a b f = held a (record { word = f.from; top = lp.flows_from_held _ _ f.top; low = lq.flows_from_held _ _ f.low })

  to_held : (a b : ℕ) → Flow a b → (pair p q).held b ≡ true
  to_held a b f = held b (record { word = f.to; top = lp.flows_to_held _ _ f.top; low = lq.flows_to_held _ _ f.low })

  -- the join of two held codes, part by part
  record Joined (a b : ℕ) : Type 0 where
    word : (pair p q).join a b < 65536
    top : (pair p q).join a b / 256 ≡ p.join (a / 256) (b / 256)
    low : (pair p q).join a b % 256 ≡ q.join (a % 256) (b % 256)

  joined : (a b : ℕ) → (pair p q).held a ≡ true → (pair p q).held b ≡ true → Joined a b
  joined a b h k =
      let t = top_byte a b (parts a h).word (parts b k).word in
      let l = low_byte a b in
      let e : (pair p q).join a b ≡ 256 * p.join (a / 256) (b / 256) + q.join (a % 256) (b % 256) = rw (h, k) in
      record { word = rw e (omega arith); top = rw e (omega arith); low = rw e (omega arith) }

  -- bytes have the upper part 0, and so has their join
  zero_join : p.join 0 0 ≡ 0
  zero_join =
      let z = lp.zero_held in
      let r = lp.reflexive 0 z in
      lp.antisymmetric _ _ (lp.join_least 0 0 0 r r) (lp.least _ (lp.join_held 0 0 z z))

  byte : (a b : ℕ) → a < 256 → b < 256 → (pair p q).join a b < 256
  byte a b h k =
      let x : a / 256 ≡ 0 = omega arith in
      let y : b / 256 ≡ 0 = omega arith in
      or_zero_below ((pair p q).held a && (pair p q).held b) _ (λ e. rw (x, y, zero_join) (omega (arith, low_byte a b)))

  pub pair_laws : Laws (pair p q)
  pair_laws = record {
    zero_held = and_from _ _ lp.zero_held lq.zero_held;
    least = λ a h. let t = parts a h in flows 0 a (record { from = omega arith; to = t.word; top = lp.least _ t.top; low = lq.least _ t.low });
    reflexive = λ a h. let t = parts a h in flows a a (record { from = t.word; to = t.word; top = lp.reflexive _ t.top; low = lq.reflexive _ t.low });
    transitive = λ a b c h k. let f = flow a b h in let g = flow b c k in
        flows a c (record { from = f.from; to = g.to; top = lp.transitive _ _ _ f.top g.top; low = lq.transitive _ _ _ f.low g.low });
    antisymmetric = λ a b h k. let f = flow a b h in let g = flow b a k in
        let t = lp.antisymmetric _ _ f.top g.top in let l = lq.antisymmetric _ _ f.low g.low in omega arith;
    join_held = λ a b h k. let s = parts a h in let t = parts b k in let j = joined a b h k in
        held ((pair p q).join a b) (record { word = j.word; top = rw j.top (lp.join_held _ _ s.top t.top); low = rw j.low (lq.join_held _ _ s.low t.low) });
    join_left = λ a b h k. let s = parts a h in let t = parts b k in let j = joined a b h k in
        flows a ((pair p q).join a b) (record { from = s.word; to = j.word; top = rw j.top (lp.join_left _ _ s.top t.top); low = rw j.low (lq.join_left _ _ s.low t.low) });
    join_right = λ a b h k. let s = parts a h in let t = parts b k in let j = joined a b h k in
        flows b ((pair p q).join a b) (record { from = t.word; to = j.word; top = rw j.top (lp.join_right _ _ s.top t.top); low = rw j.low (lq.join_right _ _ s.low t.low) });
    join_least = λ a b c h k. let f = flow a c h in let g = flow b c k in
        let j = joined a b (from_held a c f) (from_held b c g) in
        flows ((pair p q).join a b) c (record { from = j.word; to = f.to; top = rw j.top (lp.join_least _ _ _ f.top g.top); low = rw j.low (lq.join_least _ _ _ f.low g.low) });
    join_small = byte;
    flows_from_held = λ a b h. from_held a b (flow a b h);
    flows_to_held = λ a b h. to_held a b (flow a b h);
    join_left_unheld = λ a b h. rw h;
    join_right_unheld = λ a b h. none_right ((pair p q).held a) ((pair p q).held b) _ h;
  }
