-- What words leave behind, and where it is due.
use Rattle.std.proofs.Common.{◌≡◌, ℕ, ◌+◌, ◌<◌, ◌≤◌, Bool, true, false, nat_lt, nat_eq, List, [], ◌∷◌, Some, None, Option, length, refl, arith, subst, ◌⊎◌, sym, ◌∙◌}
use Rattle.std.proofs.lemmas.Bool.Decides.{nat_tests}
use Rattle.levels.specs.Order.{Meaning, Laws}
use Rattle.machine.specs.Machine.{Machine, Kind, plain, forks, calls, rets}
use Rattle.words.specs.declared.instruction.Instruction.{Instruction}
use Rattle.words.specs.declared.route.Route.{Route}
use Rattle.words.specs.declared.route.Route.TheVariants.{To, Jump, Fork, Call, Return}
use Rattle.avr.specs.Chip.{kind_by, avr}
use Rattle.judge.specs.Worked.{callee_of}
use Rattle.secrecy.specs.Rules.{calls_to}
use Rattle.secrecy.specs.Rows.{Rows, rows_of, is_place}
use Rattle.secrecy.specs.Flow.{joined, join_of_all, deciding_of, pc_level, level_after}
use Rattle.secrecy.specs.Filling.{SameGiven, LeadsBy, Leads, AllHeld, SettlesIn, SettledOn, RaisesBelow}
use Rattle.secrecy.proofs.Fillings.{raises, leads_same}
use Rattle.filling.specs.Between.{Between, Due, Departs, DueAlong, SettledTo, SettledFrom}
use Rattle.filling.proofs.Sets.{place_small}

-- a word that calls a function is a call of it
pub called : (k : Kind) (t : ℕ) → calls_to k t ≡ true → (d : ℕ) × (k ≡ calls t d)
called (plain b c) t e = absurd (cc)
called (forks qs b c b' c') t e = absurd (cc)
called (calls u d) t e = (d, (let q : u ≡ t = grind (arith, nat_tests) in rw q refl))
called (rets c) t e = absurd (cc)

-- and no other word is
pub uncalled : (k : Kind) (t d : ℕ) → calls_to k t ≡ false → k ≡ calls t d → ⊥
uncalled k t d e f = let g = rw f at e in grind (arith, nat_tests)

-- by the callees of words, which are worked out once
pub calls_known : (k : Kind) (t : ℕ) (o : Option ℕ) → o ≡ callee_of k → (n : ℕ) (b : Bool) → (o ≡ Some n) → b ≡ nat_eq n t → b ≡ calls_to k t
calls_known (plain b c) t o e n v f g = absurd (cc)
calls_known (forks qs b c b' c') t o e n v f g = absurd (cc)
calls_known (calls u d) t o e n v f g = let q : n ≡ u = cc in rw (g, q)
calls_known (rets c) t o e n v f g = absurd (cc)

pub calls_none : (k : Kind) (t : ℕ) (o : Option ℕ) → o ≡ callee_of k → o ≡ None → false ≡ calls_to k t
calls_none (plain b c) t o e f = refl
calls_none (forks qs b c b' c') t o e f = refl
calls_none (calls u d) t o e f = absurd (cc)
calls_none (rets c) t o e f = refl

-- where a word leads, by its route
module _ (m : Meaning) (ws : List ℕ) (R : Rows) (a : ℕ) where
  pub to_next : (r : Route) (i : Instruction) (next b : ℕ) → (r ≡ To next) ⊎ (r ≡ Jump next) ⊎ (r ≡ Call next) → LeadsBy m (avr ws) R a (kind_by r i) b → b ≡ next
  to_next r i next b h way = grind arith

  pub to_fork : (r : Route) (i : Instruction) (on aside b : ℕ) → r ≡ Fork on aside → LeadsBy m (avr ws) R a (kind_by r i) b → (b ≡ on) ⊎ (b ≡ aside)
  to_fork r i on aside b e way = let w = rw e at way in w

  pub to_back : (r : Route) (i : Instruction) (b : ℕ) → r ≡ Return → LeadsBy m (avr ws) R a (kind_by r i) b →
      ((k : ℕ) × (k < length ws) × ((d : ℕ) × ((avr ws).kind k ≡ calls (R.function a) d)) × (b ≡ k + 1)) ⊎ ((R.function a ≡ 0) × (b ≡ length ws))
  to_back r i b e way = let w = rw e at way in w

module _ (m : Meaning) (laws : Laws m) where
  module _ {B V W : Type 0} (M : Machine B V W) (R : Rows) (held : AllHeld m M R) where
    joined_held : (a : ℕ) (qs : List ℕ) → m.held (joined m (R.region a) (R.level a) qs) ≡ true
    joined_held a [] = held.regions a
    joined_held a (q ∷ qs) = laws.join_held _ _ (held.levels a q) (joined_held a qs)

    all_held : (a : ℕ) (qs : List ℕ) → m.held (join_of_all m (R.level a) qs) ≡ true
    all_held a [] = laws.zero_held
    all_held a (q ∷ []) = held.levels a q
    all_held a (q ∷ (r ∷ rs)) = laws.join_held _ _ (held.levels a q) (all_held a (r ∷ rs))

    deciding_held : (a : ℕ) (k : Kind) → m.held (deciding_of m (R.level a) k) ≡ true
    deciding_held a k = grind (arith, all_held a, laws.zero_held)

    pub after_held : (a p : ℕ) → m.held (level_after m M R a p) ≡ true
    after_held a p = grind (arith, joined_held a (M.sources a p), held.levels a p)

    pub pc_held : (a : ℕ) → m.held (pc_level m M R a) ≡ true
    pc_held a = laws.join_held _ _ (held.regions a) (deciding_held a (M.kind a))

  -- the second part of a join that flows flows too
  part : (a b c : ℕ) → m.held a ≡ true → m.held b ≡ true → m.flows (m.join a b) c ≡ true → m.flows b c ≡ true
  part a b c h k f = laws.transitive _ _ _ (laws.join_right a b h k) f

  module _ (ws given rows : List ℕ) (between : Between m ws given rows) where
    abbrev n : ℕ
    n = length ws

    abbrev R : Rows
    R = rows_of n rows

    below_all : (other : List ℕ) → SettlesIn m (avr ws) given other → RaisesBelow m (avr ws) R (rows_of n other)
    below_all other settles =
        raises m laws (avr ws) R (rows_of n other)
        (record {
          join_address = λ a. between.same.join_address a ∙ sym (settles.same.join_address a);
          remaining = λ a. between.same.remaining a ∙ sym (settles.same.remaining a);
          function = λ a. between.same.function a ∙ sym (settles.same.function a);
        })
        (between.below other settles) settles.settled

    back : SameGiven (rows_of n given) R
    back = record { join_address = λ a. sym (between.same.join_address a); remaining = λ a. sym (between.same.remaining a); function = λ a. sym (between.same.function a) }

    -- the level of a place after a word is due wherever the word leads
    due_place : (a b p : ℕ) → a < n → b ≤ n → Leads m (avr ws) (rows_of n given) a b → is_place p ≡ true → Due m ws given b p (level_after m (avr ws) R a p)
    due_place a b p l k way place = record {
      held = after_held (avr ws) R between.held a p;
      below = λ other settles.
          let f = (below_all other settles).levels a b p l k (leads_same m (avr ws) (rows_of n given) R back a b way) place in
          let g = part _ _ _ (between.held.levels b p) (after_held (avr ws) R between.held a p) f in
          grind (arith);
    }

    due_region : (a b : ℕ) → a < n → b ≤ n → Leads m (avr ws) (rows_of n given) a b → 0 < R.remaining a → 0 < (rows_of n given).remaining b → Due m ws given b 35 (pc_level m (avr ws) R a)
    due_region a b l lb way h k = record {
      held = pc_held (avr ws) R between.held a;
      below = λ other settles.
          part _ _ _ (between.held.regions b) (pc_held (avr ws) R between.held a)
          ((below_all other settles).regions a b l lb (leads_same m (avr ws) (rows_of n given) R back a b way) h (let e = between.same.remaining b in omega arith));
    }

    pub due_along : (a known : ℕ) (levels : List ℕ) (inside : Bool) → a < n → Departs m ws given rows a levels known → inside ≡ nat_lt 0 (R.remaining a) → DueAlong m ws given a levels inside known
    due_along a known levels inside l d e b lb way = (
      (λ p small. rw (d.each p small) (due_place a b p l lb way (grind (arith, nat_tests, place_small p)))),
      (λ h k. rw d.pc_level (due_region a b l lb way (grind (arith, nat_tests)) k)),
    )

    -- what is left behind and flows to a row leaves nothing to raise there
    pub settled_on : (a known b : ℕ) (levels : List ℕ) → Departs m ws given rows a levels known → SettledTo m ws given rows levels (nat_lt 0 (R.remaining a)) known b → SettledOn m (avr ws) R a b
    settled_on a known b levels d s = record {
      levels = λ p place.
          let small : p < 35 = grind (arith, nat_tests, place_small p) in
          let f = s.0 p small in
          let e = d.each p small in
          grind arith;
      region = λ h k. rw (← d.pc_level) (s.1 (grind (arith, nat_tests)) (let e = between.same.remaining b in omega arith));
    }

    -- if what is left behind flows to wherever the word leads, nothing is left to raise from there
    pub settled_from : (a known : ℕ) (levels : List ℕ) (inside : Bool) → Departs m ws given rows a levels known → inside ≡ nat_lt 0 (R.remaining a) →
        ((b : ℕ) → b ≤ n → Leads m (avr ws) (rows_of n given) a b → SettledTo m ws given rows levels inside known b) → SettledFrom m ws given rows a
    settled_from a known levels inside d e each b l way =
        settled_on a known b levels d
        (subst (λ (v : Bool). SettledTo m ws given rows levels v known b) e (each b l (leads_same m (avr ws) R (rows_of n given) between.same a b way)))
