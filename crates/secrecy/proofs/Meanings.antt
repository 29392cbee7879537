-- What the rules mean: the checks find nothing if rows are accepted, and only then.
use Rattle.std.proofs.Common.{rules as sets, ◌≡◌, ℕ, ◌+◌, ◌*◌, ◌<◌, ◌≤◌, true, eqb, List, length, arith}
use Rattle.std.proofs.lemmas.Bool.Decides.{Decides-eqb, nat_tests}
use Rattle.verdicts.specs.Verdict.{first, first_of}
use Rattle.levels.specs.Order.{Meaning}
use Rattle.machine.specs.Machine.{Machine, Kind, plain, forks, calls, rets}
use Rattle.secrecy.specs.Rows.{Rows, rows_of, cell, IsPlace, place_columns, is_among, level_columns, columns, region_column}
use Rattle.secrecy.specs.Rules.{length_rule, held_rule, shape_rule, time_rule, flow_rule, region_rule, edge_rule, return_rule, finish_rule, edges_from, address_rule, address_rules, edge_rules, row_rule, row_rules, rules_of}
use Rattle.secrecy.specs.Accepted.{Shape, WordRule, Accepts, RulesFor}
use Rattle.secrecy.specs.Refusals.{Bounded, Free, Timed, Passes, Addressed}
use Rattle.secrecy.proofs.Columns.{level_column}
use Rattle.secrecy.proofs.Says.{Says, says_like, says_rule, says_then, says_first, says_first_of, says_if, says_calls}

-- The shape of a row.
module _ (n : ℕ) (R : Rows) where
  pub shape_says : (row : ℕ) → row ≤ n → Says (shape_rule n R row) (Shape n R row)
  shape_says row l =
      says_rule _ _ _ (
        (λ e. record {
          outside = search (sets, arith);
          inside = search (sets, arith);
          listed = search (sets, arith);
          begin = search (sets, arith);
          finish = search (sets, arith);
        }),
        λ s. search (sets, arith),
      )

module _ {B V W : Type 0} (m : Meaning) (M : Machine B V W) (R : Rows) where
  pub time_says : (a b c : ℕ) → Says (time_rule R a b c) (Timed R a b c)
  time_says a b c = grind arith

  pub edge_says : (a b c : ℕ) → Says (edge_rule m M R a b c) (Passes m M R a b c)
  edge_says a b c =
      says_then (time_rule R a b c) _ (time_says a b c)
      (says_then (first_of (flow_rule m M R a b) place_columns) (region_rule m M R a b) (says_first_of _ (flow_rule m M R a b) place_columns (λ p. grind arith)) (grind arith))

  -- what is asked of the edges of a word
  abbrev PassesAll : ℕ → Kind → Type 0
  PassesAll a (plain b c) = Passes m M R a b c
  PassesAll a (forks qs b c b' c') = Passes m M R a b c × Passes m M R a b' c'
  PassesAll a (calls t c) = Passes m M R a t c
  PassesAll a (rets c) = ((b : ℕ) → b < M.size → (d : ℕ) → M.kind b ≡ calls (R.function a) d → Passes m M R a (b + 1) c) × (R.function a ≡ 0 → Passes m M R a M.size c)

  edges_say : (a : ℕ) (k : Kind) → Says (edges_from m M R a k) (PassesAll a k)
  edges_say a (plain b c) = edge_says a b c
  edges_say a (forks qs b c b' c') = says_then _ _ (edge_says a b c) (edge_says a b' c')
  edges_say a (calls t c) = edge_says a t c
  edges_say a (rets c) =
      says_then (first (return_rule m M R a c) M.size) (finish_rule m M R a c)
      (says_first _ (return_rule m M R a c) M.size (λ b l. says_calls (M.kind b) (R.function a) (edge_rule m M R a (b + 1) c) (edge_says a (b + 1) c)))
      (says_if (eqb (R.function a) 0) (edge_rule m M R a M.size c) (Decides-eqb (R.function a) 0) (edge_says a M.size c))

  -- all that is asked of a word, but for its decision
  abbrev Standing : ℕ → Kind → Type 0
  Standing a k = Free R a k × (Bounded M.size R a k × PassesAll a k)

  word_from : (a : ℕ) (k : Kind) → Standing a k → WordRule m M R a k
  word_from a k h = grind arith

  word_parts : (a : ℕ) (k : Kind) → WordRule m M R a k → Standing a k
  word_parts a k w = grind arith

  pub address_says : (a : ℕ) → Says (address_rule m M R a) (Addressed m M R a)
  address_says a = grind arith

-- The rows of a list.
module _ (m : Meaning) (n : ℕ) (rows : List ℕ) where
  -- the codes of a row are held
  abbrev Coded : ℕ → Type 0
  Coded row = (column : ℕ) → is_among level_columns column ≡ true → m.held (cell n rows row column) ≡ true

  row_says : (row : ℕ) → row < n + 1 → Says (row_rule m n rows row) (Coded row × Shape n (rows_of n rows) row)
  row_says row l =
      says_then (first_of (held_rule m n rows row) level_columns) (shape_rule n (rows_of n rows) row) (says_first_of _ (held_rule m n rows row) level_columns (λ column. grind arith)) (shape_says n (rows_of n rows) row (omega arith))

  -- the codes of a row are the levels of its places and its region level
  coded_from : (row : ℕ) → ((p : ℕ) → IsPlace p → m.held ((rows_of n rows).level row p) ≡ true) → m.held ((rows_of n rows).region row) ≡ true → Coded row
  coded_from row levels region column l = grind (arith, nat_tests, level_column column, levels column)

module _ {B V W : Type 0} (m : Meaning) (M : Machine B V W) (rows : List ℕ) where
  abbrev R : Rows
  R = rows_of M.size rows

  -- all rules, in their order
  abbrev AllRules : Type 0
  AllRules =
      (length rows ≡ (M.size + 1) * columns)
      × (((row : ℕ) → row < M.size + 1 → Coded m M.size rows row × Shape M.size R row)
      × (((a : ℕ) → a < M.size → Addressed m M R a)
      × ((a : ℕ) → a < M.size → PassesAll m M R a (M.kind a))))

  all_say : Says (rules_of m M rows) AllRules
  all_say =
      says_then (length_rule M.size rows) _ (says_rule _ _ _ (Decides-eqb (length rows) ((M.size + 1) * columns)))
      (says_then (row_rules m M.size rows) _ (says_first _ (row_rule m M.size rows) (M.size + 1) (row_says m M.size rows))
      (says_then (address_rules m M R) (edge_rules m M R)
      (says_first _ (address_rule m M R) M.size (λ a l. address_says m M R a))
      (says_first _ (λ a. edges_from m M R a (M.kind a)) M.size (λ a l. edges_say m M R a (M.kind a)))))

  accepts_from : AllRules → Accepts m M rows
  accepts_from h =
      let row = h.1.0 in
      let address = h.1.1.0 in
      let edge = h.1.1.1 in (
        h.0,
        record {
          held = λ a p l k. grind (arith, nat_tests, level_column p, (row a (omega arith)).0 p);
          regions = λ a l. (row a (omega arith)).0 region_column (grind (arith, nat_tests, level_column region_column));
          shapes = λ a l. (row a (omega arith)).1;
          words = λ a l. word_from m M R a (M.kind a) ((address a l).0, ((address a l).1.0, edge a l));
          low_outside = λ a l. (address a l).1.1;
        },
      )

  accepts_all : Accepts m M rows → AllRules
  accepts_all h =
      let r = h.1 in
      let word = λ (a : ℕ) (l : a < M.size). word_parts m M R a (M.kind a) (r.words a l) in (
        h.0,
        (
          (λ row l. (coded_from m M.size rows row (λ p k. r.held row p (omega arith) k) (r.regions row (omega arith)), r.shapes row (omega arith))),
          ((λ a l. ((word a l).0, ((word a l).1.0, r.low_outside a l))), λ a l. (word a l).1.1),
        ),
      )

pub rules : {B V W : Type 0} → RulesFor B V W
rules m M rows = says_like (rules_of m M rows) (accepts_from m M rows) (accepts_all m M rows) (all_say m M rows)
