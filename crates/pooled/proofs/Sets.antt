-- What the checks of a set of rows say, and of two sets' given columns.
use Rattle.std.proofs.Common.{◌≡◌, ℕ, ◌+◌, ◌*◌, ◌/◌, ◌%◌, ◌<◌, ◌≤◌, true, nat_lt, nat_eq, ◌==◌, ◌||◌, ◌⊎◌, inl, inr, ⊎_elim, List, [], ◌∷◌, length, get_or, sym, ap, arith}
use Rattle.std.proofs.lemmas.Bool.Decides.{Decides-eqb, nat_tests}
use Rattle.verdicts.specs.Verdict.{Refusal, number_of, fine, refused, first_of}
use Rattle.verdicts.proofs.Firsts.{and_fine, then-on, then_broken, rule_broken, first_named, first_of_named}
use Rattle.levels.specs.Order.{Meaning, Laws}
use Rattle.machine.specs.Machine.{Machine}
use Rattle.secrecy.specs.Rows.{rows_of, cell, columns, is_among, is_place, level_columns, given_columns, place_columns}
use Rattle.secrecy.specs.Rules.{length_rule, held_rule, shape_rule, row_rule, row_rules}
use Rattle.secrecy.specs.Accepted.{Shape, Accepts}
use Rattle.secrecy.specs.Filling.{SameGiven, AllHeld}
use Rattle.secrecy.proofs.Columns.{among-nil, among-cons, among-range, level_column}
use Rattle.secrecy.proofs.Says.{Says, says_rule, says_then, says_first, says_first_of}
use Rattle.secrecy.proofs.Meanings.{shape_says, rules}
use Rattle.pooled.specs.Pools.{is_level, set_verdict, given_rule, given_rules}

-- places are the columns below that of the region level
pub place_small : (p : ℕ) → is_place p ≡ nat_lt p 35
unfolding place_columns
place_small p = grind (arith, nat_tests, among-range 0 35 p)

pub level_small : (c : ℕ) → is_among level_columns c ≡ nat_lt c 36
level_small c = grind (arith, nat_tests, level_column c, place_small c)

pub given_at : (c : ℕ) → is_among given_columns c ≡ (nat_eq 36 c || (nat_eq 37 c || nat_eq 38 c))
given_at c = grind (arith, nat_tests, among-nil c, among-cons 38 [] c, among-cons 37 (38 ∷ []) c, among-cons 36 (37 ∷ (38 ∷ [])) c)

-- the number at an index is the code of a level where its column is one
pub level_at : (i : ℕ) → is_level i ≡ nat_lt (i % columns) 36
level_at i = level_small (i % columns)

-- rows that pass the rule on their length are as long as it says
pub whole_from : (n : ℕ) (rows : List ℕ) → length_rule n rows ≡ fine → length rows ≡ (n + 1) * columns
whole_from n rows = (says_rule (length rows == (n + 1) * columns) 3 [] (Decides-eqb (length rows) ((n + 1) * columns))).0

module _ (m : Meaning) (n : ℕ) (rows : List ℕ) where
  -- a row on its own: its codes are held, and it has its shape
  pub record RowRight (row : ℕ) : Type 0 where
    pub held : (c : ℕ) → is_among level_columns c ≡ true → m.held (cell n rows row c) ≡ true
    pub shape : Shape n (rows_of n rows) row

  pub record SetRight : Type 0 where
    pub whole : length rows ≡ (n + 1) * columns
    pub each : (row : ℕ) → row < n + 1 → RowRight row

  row_says : (row : ℕ) → row < n + 1 → Says (row_rule m n rows row) (RowRight row)
  row_says row l =
      let h =
      says_then (first_of (held_rule m n rows row) level_columns) (shape_rule n (rows_of n rows) row) (says_first_of _ (held_rule m n rows row) level_columns (λ c. says_rule {P = m.held (cell n rows row c) ≡ true} _ _ _ ((λ e. e), λ e. e)))
      (shape_says n (rows_of n rows) row (omega arith)) in
      ((λ e. let p = h.0 e in record { held = p.0; shape = p.1 }), λ r. h.1 (r.held, r.shape))

  pub set_says : Says (set_verdict m n rows) SetRight
  set_says =
      let h = says_then (length_rule n rows) (row_rules m n rows) (says_rule _ _ _ (Decides-eqb (length rows) ((n + 1) * columns))) (says_first _ (row_rule m n rows) (n + 1) row_says) in
      ((λ e. let p = h.0 e in record { whole = p.0; each = p.1 }), λ r. h.1 (r.whole, r.each))

  module _ (laws : Laws m) (right : SetRight) where
    pub cell_held : (a c : ℕ) → c < 36 → m.held (cell n rows a c) ≡ true
    cell_held a c l = grind (arith, nat_tests, level_small c, (λ (l : a < n + 1). (right.each a l).held c), laws.zero_held)

    pub number_held : (i : ℕ) → i < length rows → is_level i ≡ true → m.held (get_or rows i 0) ≡ true
    number_held i l e =
        let w = right.whole in
        let q : i / columns * columns + i % columns ≡ i = omega arith in
        let k : i / columns ≤ n = omega arith in
        let c : i % columns < 36 = grind (arith, nat_tests, level_at i) in
        let h = cell_held (i / columns) (i % columns) c in
        grind (arith, nat_tests)

    pub level_held : (a p : ℕ) → m.held ((rows_of n rows).level a p) ≡ true
    level_held a p = grind (arith, nat_tests, place_small p, cell_held a p, laws.zero_held)

  -- what is refused of a set is refused by 3, 4 or 5
  abbrev pub OfSet : Refusal → Type 0
  OfSet r = (number_of r ≡ 3) ⊎ ((number_of r ≡ 4) ⊎ (number_of r ≡ 5))

  code_number : (row : ℕ) (r : Refusal) → first_of (held_rule m n rows row) level_columns ≡ refused r → number_of r ≡ 4
  code_number row r e =
      let b = first_of_named (held_rule m n rows row) level_columns r e in
      let p = rule_broken _ _ _ r b.broken in
      ap number_of (sym p.1)

  row_number : (row : ℕ) (r : Refusal) → row_rule m n rows row ≡ refused r → OfSet r
  row_number row r e =
      ⊎_elim
      (λ (f : first_of (held_rule m n rows row) level_columns ≡ refused r). inr (inl (code_number row r f)))
      (λ f. let p = rule_broken _ _ _ r f.1 in inr (inr (ap number_of (sym p.1))))
      (then_broken _ _ r e)

  pub set_number : (r : Refusal) → set_verdict m n rows ≡ refused r → OfSet r
  set_number r e =
      ⊎_elim
      (λ (f : length_rule n rows ≡ refused r). let p = rule_broken _ _ _ r f in inl (ap number_of (sym p.1)))
      (λ f. let b = first_named (row_rule m n rows) (n + 1) r f.1 in row_number b.0 r b.2)
      (then_broken _ _ r e)

-- two sets with the same given columns
module _ (n : ℕ) (xs ys : List ℕ) where
  pub record RowSame (row : ℕ) : Type 0 where
    pub join_address : cell n xs row 36 ≡ cell n ys row 36
    pub remaining : cell n xs row 37 ≡ cell n ys row 37
    pub function : cell n xs row 38 ≡ cell n ys row 38

  row_same_says : (row : ℕ) → Says (given_rule n xs ys row) (RowSame row)
  row_same_says row =
      says_rule {P = RowSame row} _ _ _ (
        (λ e. record { join_address = grind (arith, nat_tests); remaining = grind (arith, nat_tests); function = grind (arith, nat_tests) }),
        λ s. let a = s.join_address in let b = s.remaining in let c = s.function in grind (arith, nat_tests),
      )

  pub given_says : Says (given_rules n xs ys) ((row : ℕ) → row < n + 1 → RowSame row)
  given_says = says_first RowSame (given_rule n xs ys) (n + 1) (λ row l. row_same_says row)

  pub same_from : given_rules n xs ys ≡ fine → SameGiven (rows_of n xs) (rows_of n ys)
  same_from e =
      let h = given_says.0 e in
      let j = λ (row : ℕ) (l : row < n + 1). (h row l).join_address in
      let r = λ (row : ℕ) (l : row < n + 1). (h row l).remaining in
      let f = λ (row : ℕ) (l : row < n + 1). (h row l).function in
      record {
        join_address = λ row. grind (arith, nat_tests, j row);
        remaining = λ row. grind (arith, nat_tests, r row);
        function = λ row. grind (arith, nat_tests, f row);
      }

  pub same_back : SameGiven (rows_of n xs) (rows_of n ys) → given_rules n xs ys ≡ fine
  same_back s = given_says.1 (λ row l. record { join_address = s.join_address row; remaining = s.remaining row; function = s.function row })

module _ {B V W : Type 0} (m : Meaning) (laws : Laws m) (M : Machine B V W) (rows : List ℕ) where
  -- accepted rows are right on their own
  pub accepted_right : Accepts m M rows → SetRight m M.size rows
  accepted_right h =
      let all = and_fine (length_rule M.size rows) _ ((rules m M rows).1 h) in
      let codes = and_fine (row_rules m M.size rows) _ all.1 in
      (set_says m M.size rows).0 (then-on (length_rule M.size rows) _ _ all.0 codes.0)

  pub all_held : SetRight m M.size rows → AllHeld m M (rows_of M.size rows)
  all_held right = record { levels = level_held m M.size rows laws right; regions = λ row. cell_held m M.size rows laws right row 35 (omega arith) }
