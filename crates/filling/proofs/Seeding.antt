-- The rows that filling in begins with.
use Rattle.std.proofs.Common.{◌≡◌, ℕ, zero, suc, ◌+◌, ◌*◌, ◌%◌, ◌<◌, ◌≤◌, Bool, true, false, cond, ◌||◌, ◌&&◌, nat_le, nat_lt, nat_eq, take, drop, ◌++◌, ◌-◌, List, [], ◌∷◌, length, get_or, refl, arith, ap, ◌∙◌}
use Rattle.std.proofs.lemmas.Bool.Decides.{nat_tests}
use Rattle.std.proofs.lemmas.List.{places}
use Rattle.levels.specs.Order.{Meaning, Laws}
use Rattle.avr.specs.Chip.{avr}
use Rattle.std.proofs.lemmas.Bool.{eqb-true}
use Rattle.verdicts.specs.Verdict.{fine, rule, and_then, first_of}
use Rattle.words.specs.Legal.{legal_of}
use Rattle.verdicts.proofs.Firsts.{first_each, and_fine, rule_met}
use Rattle.secrecy.specs.Rows.{cell, columns, is_among, given_columns, level_columns}
use Rattle.secrecy.specs.Rules.{length_rule, row_rules, row_rule, held_rule}
use Rattle.secrecy.specs.Filling.{SettlesIn}
use Rattle.secrecy.proofs.Columns.{among-nil, among-cons, first_of_each, each_first_of}
use Rattle.filling.specs.Seeds.{is_read, seeded, seed_of, given_verdict}
use Rattle.filling.specs.Between.{Between}
use Rattle.filling.proofs.Sets.{place_small, level_small}

pub given_at : (c : ℕ) → is_among given_columns c ≡ (nat_eq 36 c || (nat_eq 37 c || nat_eq 38 c))
given_at c = grind (arith, nat_tests, among-nil c, among-cons 38 [] c, among-cons 37 (38 ∷ []) c, among-cons 36 (37 ∷ (38 ∷ [])) c)

pub seeded_length : (i : ℕ) (xs : List ℕ) → length (seeded i xs) ≡ length xs
unfolding seeded
seeded_length i [] = refl
seeded_length i (x ∷ xs) = grind (arith, seeded_length (i + 1) xs)

pub seeded_at : (i k : ℕ) (xs : List ℕ) → get_or (seeded i xs) k 0 ≡ cond (is_read (i + k)) (get_or xs k 0) 0
unfolding seeded
seeded_at i k [] = grind (arith, nat_tests)
seeded_at i zero (x ∷ xs) = grind (arith, nat_tests)
seeded_at i (suc k) (x ∷ xs) = let h = seeded_at (i + 1) k xs in let e : i + 1 + k ≡ i + suc k = omega arith in grind (arith, nat_tests)

pub read_at : (a c : ℕ) → c < columns → is_read (a * columns + c) ≡ (nat_eq a 0 || is_among given_columns c)
read_at a c l = let e : (a * columns + c) % columns ≡ c = omega arith in grind (arith, nat_tests)

-- numbers of which those from one index up to another are written over
pub copied : (a b k : ℕ) (xs zs : List ℕ) → a ≤ b → b ≤ length zs → length xs ≡ length zs →
    get_or (take a xs ++ (take (b - a) (drop a zs) ++ drop (b - a) (drop a xs))) k 0 ≡ cond (nat_le a k && nat_lt k b) (get_or zs k 0) (get_or xs k 0)
copied a b k xs zs o w e = grind (arith, nat_tests, places)

-- in a row, by where it begins
in_row : (row k : ℕ) → row * columns ≤ k → k < (row + 1) * columns → is_read k ≡ (nat_eq row 0 || nat_le (row * columns + 36) k)
in_row row k l h =
    let e : row * columns + (k - row * columns) ≡ k = omega arith in
    let r = read_at row (k - row * columns) (omega arith) in
    let q = rw e at r in
    let c : (nat_eq 36 (k - row * columns) || (nat_eq 37 (k - row * columns) || nat_eq 38 (k - row * columns))) ≡ nat_le (row * columns + 36) k = grind (arith, nat_tests) in
    grind (arith, nat_tests, given_at (k - row * columns))

-- the number read so far, when one row more is read
pub read_more : (row k g r : ℕ) → r ≡ cond (nat_lt k (row * columns) && is_read k) g 0 →
    cond (nat_le (row * columns + cond (nat_eq row 0) 0 36) k && nat_lt k ((row + 1) * columns)) g r ≡ cond (nat_lt k ((row + 1) * columns) && is_read k) g 0
read_more row k g r e = let i = in_row row k in grind (arith, nat_tests)

module _ (n : ℕ) (xs : List ℕ) where
  -- a cell is read, or 0
  pub seed_cell : (a c : ℕ) → cell n (seed_of xs) a c ≡ cond (is_read (a * columns + c)) (cell n xs a c) 0
  seed_cell a c = grind (arith, nat_tests, seeded_at 0 (a * columns + c) xs)

  read_given : (a c : ℕ) → c ≤ 38 → is_among given_columns c ≡ true → is_read (a * columns + c) ≡ true
  read_given a c l h = let e : (a * columns + c) % columns ≡ c = omega arith in grind (arith, nat_tests)

  read_first : (c : ℕ) → c ≤ 38 → is_read (0 * columns + c) ≡ true
  read_first c l = grind (arith, nat_tests)

  unread : (a c : ℕ) → c ≤ 35 → 0 < a → is_read (a * columns + c) ≡ false
  unread a c l h = let e : (a * columns + c) % columns ≡ c = omega arith in grind (arith, nat_tests, given_at c)

  pub seed_given : (a c : ℕ) → c ≤ 38 → is_among given_columns c ≡ true → cell n (seed_of xs) a c ≡ cell n xs a c
  seed_given a c l h = grind (arith, seed_cell a c, read_given a c l h)

  pub seed_first : (c : ℕ) → c ≤ 38 → cell n (seed_of xs) 0 c ≡ cell n xs 0 c
  seed_first c l = grind (arith, seed_cell 0 c, read_first c l)

  pub seed_level : (a c : ℕ) → c ≤ 35 → 0 < a → cell n (seed_of xs) a c ≡ 0
  seed_level a c l h = grind (arith, seed_cell a c, unread a c l h)

-- no code is read but those of the first row
pub codes_unread : (m : Meaning) → Laws m → (n : ℕ) (xs : List ℕ) (row : ℕ) → 0 < row → first_of (held_rule m n (seed_of xs) row) level_columns ≡ fine
codes_unread m laws n xs row l =
    each_first_of (held_rule m n (seed_of xs) row) level_columns
    (λ column h. rule_met _ 4 _ (ap m.held (seed_level n xs row column (let s = level_small column in grind (arith, nat_tests)) l) ∙ laws.zero_held))

-- a rule that is kept passed its test
passed : (test : Bool) (k : ℕ) (vs : List ℕ) → rule test k vs ≡ fine → test ≡ true
passed test k vs e = grind arith

module _ (m : Meaning) (laws : Laws m) (ws given receiving : List ℕ) (read : given_verdict m ws given receiving ≡ fine) where
  abbrev n : ℕ
  n = length ws

  abbrev seed : List ℕ
  seed = seed_of given

  parts : (length_rule n given ≡ fine) × (and_then (length_rule n receiving) (row_rules m n seed) ≡ fine)
  parts = and_fine _ _ (and_fine (legal_of ws) _ read).1

  pub legal_read : legal_of ws ≡ fine
  legal_read = (and_fine (legal_of ws) _ read).0

  pub given_whole : length given ≡ (n + 1) * columns
  given_whole = eqb-true _ _ (passed (nat_eq (length given) ((n + 1) * columns)) 3 [] parts.0)

  pub receiving_whole : length receiving ≡ (n + 1) * columns
  receiving_whole = eqb-true _ _ (passed (nat_eq (length receiving) ((n + 1) * columns)) 3 [] (and_fine _ _ parts.1).0)

  first_held : (c : ℕ) → c ≤ 35 → m.held (cell n given 0 c) ≡ true
  first_held c l =
      let row = first_each (row_rule m n seed) (n + 1) (and_fine _ _ parts.1).1 0 (omega arith) in
      let code = first_of_each (held_rule m n seed 0) level_columns (and_fine _ _ row).0 c (grind (arith, nat_tests, level_small c)) in
      rw (← seed_first n given c (omega arith)) (passed _ 4 _ code)

  seed_held : (a c : ℕ) → c ≤ 35 → m.held (cell n seed a c) ≡ true
  seed_held zero c l = rw (seed_first n given c (omega arith)) (first_held c l)
  seed_held (suc a) c l = rw (seed_level n given (suc a) c l (omega arith)) laws.zero_held

  -- a seed lies below whatever lies above the given first row
  seed_below : (other : List ℕ) (a c : ℕ) → c ≤ 35 → (m.flows (cell n given 0 c) (cell n other 0 c) ≡ true) → m.held (cell n other a c) ≡ true → m.flows (cell n seed a c) (cell n other a c) ≡ true
  seed_below other zero c l f h = rw (seed_first n given c (omega arith)) f
  seed_below other (suc a) c l f h = rw (seed_level n given (suc a) c l (omega arith)) (laws.least _ h)

  other_held : (other : List ℕ) → SettlesIn m (avr ws) given other → (a c : ℕ) → c ≤ 35 → m.held (cell n other a c) ≡ true
  other_held other settles a c l = grind (arith, nat_tests, place_small c, settles.held.levels a c, settles.held.regions a, laws.zero_held)

  other_above : (other : List ℕ) → SettlesIn m (avr ws) given other → (c : ℕ) → c ≤ 35 → m.flows (cell n given 0 c) (cell n other 0 c) ≡ true
  other_above other settles c l = grind (arith, nat_tests, place_small c, settles.above.levels c, settles.above.region)

  below_at : (other : List ℕ) → SettlesIn m (avr ws) given other → (a c : ℕ) → c ≤ 35 → m.flows (cell n seed a c) (cell n other a c) ≡ true
  below_at other settles a c l = seed_below other a c l (other_above other settles c l) (other_held other settles a c l)

  zero_flows : m.flows 0 0 ≡ true
  zero_flows = laws.least 0 laws.zero_held

  pub seed_between : Between m ws given seed
  seed_between = record {
    whole = seeded_length 0 given ∙ given_whole;
    same = record {
      join_address = λ a. seed_given n given a 36 (omega arith) (grind (arith, nat_tests, given_at 36));
      remaining = λ a. seed_given n given a 37 (omega arith) (grind (arith, nat_tests, given_at 37));
      function = λ a. seed_given n given a 38 (omega arith) (grind (arith, nat_tests, given_at 38));
    };
    held = record {
      levels = λ a p. grind (arith, nat_tests, place_small p, seed_held a p, laws.zero_held);
      regions = λ a. seed_held a 35 (omega arith);
    };
    above = record {
      levels = λ p. grind (arith, nat_tests, place_small p, seed_first n given p, first_held p, laws.reflexive (cell n given 0 p), zero_flows);
      region = rw (seed_first n given 35 (omega arith)) (laws.reflexive _ (first_held 35 (omega arith)));
    };
    below = λ other settles a. record {
      levels = λ p. grind (arith, nat_tests, place_small p, below_at other settles a p, zero_flows);
      region = below_at other settles a 35 (omega arith);
    };
  }
