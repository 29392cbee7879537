-- A level raised keeps rows between what is given and what is settled.
use Rattle.std.proofs.Common.{◌≡◌, ℕ, ◌+◌, ◌*◌, ◌<◌, ◌≤◌, true, not, nat_eq, List, length, set, get_or, arith, length-set, ◌⊎◌}
use Rattle.std.proofs.lemmas.Bool.Decides.{nat_tests}
use Rattle.std.proofs.Math.Seq.{set-get_or}
use Rattle.levels.specs.Order.{Meaning, Laws}
use Rattle.levels.specs.Ranks.{RankLaws}
use Rattle.secrecy.specs.Rows.{cell, columns}
use Rattle.secrecy.proofs.Monotone.{join_below}
use Rattle.filling.specs.Between.{IsLevel, Between, Due, Raised, RaisesRow}
use Rattle.filling.proofs.Sets.{weight_set, place_small, level_small, inside, here, Changed, cell_cases}

-- a held level joins with itself to itself
pub join_same : (m : Meaning) (laws : Laws m) (a : ℕ) → m.held a ≡ true → m.join a a ≡ a
join_same m laws a h = laws.antisymmetric _ _ (laws.join_least a a a (laws.reflexive a h) (laws.reflexive a h)) (laws.join_left a a h h)

module _ (m : Meaning) (laws : Laws m) (ws given rows : List ℕ) (between : Between m ws given rows) (b c level : ℕ) (row : b ≤ length ws) (column : IsLevel c) (due : Due m ws given b c level) where
  abbrev n : ℕ
  n = length ws

  abbrev old : ℕ
  old = get_or rows (b * columns + c) 0

  abbrev new : ℕ
  new = m.join old level

  abbrev after : List ℕ
  after = set rows (b * columns + c) new

  small : c < 36
  small = grind (arith, nat_tests, level_small c)

  pub in_rows : b * columns + c < length rows
  in_rows = inside n rows between.whole b c new row (omega (arith, small))

  old_is : cell n rows b c ≡ old
  old_is = grind (arith, nat_tests)

  cases : (a d : ℕ) → d < columns → Changed n rows between.whole b c new row (omega (arith, small)) a d ⊎ (cell n after a d ≡ cell n rows a d)
  cases a d l = cell_cases n rows between.whole b c new row (omega (arith, small)) a d l

  -- what a level column of a row holds is held
  old_held : m.held old ≡ true
  old_held = grind (arith, nat_tests, place_small c, small, old_is, between.held.levels b c, between.held.regions b)

  new_held : m.held new ≡ true
  new_held = laws.join_held old level old_held due.held

  rises : m.flows old new ≡ true
  rises = laws.join_left old level old_held due.held

  -- so a cell has at least what it had
  cell_rises : (a d : ℕ) → d < columns → m.held (cell n rows a d) ≡ true → m.flows (cell n rows a d) (cell n after a d) ≡ true
  cell_rises a d l h = grind (arith, cases a d l, rises, old_is, laws.reflexive (cell n rows a d) h)

  pub between_raise : Between m ws given after
  between_raise = record {
    whole = simp length-set between.whole;
    same = record {
      join_address = λ a. grind (arith, cases a 36, small, between.same.join_address a);
      remaining = λ a. grind (arith, cases a 37, small, between.same.remaining a);
      function = λ a. grind (arith, cases a 38, small, between.same.function a);
    };
    held = record {
      levels = λ a p. grind (arith, nat_tests, place_small p, cases a p, new_held, between.held.levels a p);
      regions = λ a. grind (arith, cases a 35, new_held, between.held.regions a);
    };
    above = record {
      levels = λ p. grind (arith, nat_tests, place_small p, cell_rises 0 p, between.held.levels 0 p, between.above.levels p, laws.transitive);
      region = laws.transitive _ _ _ between.above.region (cell_rises 0 35 (omega arith) (between.held.regions 0));
    };
    below = λ other settles a. record {
      levels = λ p. grind (arith, nat_tests, place_small p, cases a p, old_is, join_below m laws old level, due.below other settles, (between.below other settles a).levels p);
      region = grind (arith, cases a 35, old_is, join_below m laws old level, due.below other settles, (between.below other settles a).region);
    };
  }

  -- a raise makes rows weigh more, unless nothing changes
  raised : (rank : ℕ → ℕ) → RankLaws m rank → Raised rank rows after (not (nat_eq new old))
  raised rank ranked = record {
    more = λ e.
        let apart : old ≡ new → ⊥ = λ q. grind (arith, nat_tests) in
        let up = ranked.rises old new rises apart in
        let w = weight_set rank rows (b * columns + c) new (inside n rows between.whole b c new row (omega (arith, small))) in
        omega arith;
    unchanged = λ e. let q : new ≡ old = grind (arith, nat_tests) in rw q (set-get_or rows (b * columns + c) 0);
  }

  zero_flows : m.flows 0 0 ≡ true
  zero_flows = laws.least 0 laws.zero_held

  -- and no other row changes
  pub raises_row : (rank : ℕ → ℕ) → RankLaws m rank → RaisesRow m rank n rows after b (not (nat_eq new old))
  raises_row rank ranked = record {
    raised = raised rank ranked;
    rises = λ a. record {
      levels = λ p. grind (arith, nat_tests, place_small p, cell_rises a p, between.held.levels a p, zero_flows);
      region = cell_rises a 35 (omega arith) (between.held.regions a);
    };
    others = λ a apart. record {
      levels = λ p. grind (arith, nat_tests, place_small p, cases a p);
      region = grind (arith, cases a 35);
    };
  }

  -- and then the level flows to what stands there
  pub settled : m.flows level (cell n after b c) ≡ true
  settled = rw (here n rows between.whole b c new row (omega (arith, small))) (laws.join_right old level old_held due.held)
