-- Where the checks refuse, everything is as the refusal says.
use Rattle.std.proofs.Common.{◌≡◌, ◌≢◌, ℕ, zero, suc, ◌+◌, ◌*◌, ◌<◌, ◌≤◌, Bool, true, false, eqb, cond, ◌||◌, ◌==◌, nat_lt, ⊎_elim, List, [], ◌∷◌, length, refl, sym, ap, subst, ◌∙◌, arith}
use Rattle.std.proofs.lemmas.Bool.Decides.{Decides-eqb, nat_tests}
use Rattle.verdicts.specs.Verdict.{Verdict, Refusal, fine, refused, refusal, and_then, rule, first, first_of}
use Rattle.verdicts.proofs.Firsts.{and_fine, then-on, then_stop, then_broken, rule_met, rule_broken, first_stop, each_first, first_named, first_each, first_of_named, first_of_each, each_first_of, first_of_split, first_of-nil, first_of-cons, first_of-append}
use Rattle.levels.specs.Order.{Meaning}
use Rattle.machine.specs.Machine.{Machine, Kind, plain, forks, calls, rets}
use Rattle.secrecy.specs.Rows.{Rows, rows_of, cell, place_columns, level_columns, region_column, columns}
use Rattle.secrecy.specs.Flow.{deciding, pc_level}
use Rattle.secrecy.specs.Rules.{only_if, outside, local, bounded, calls_to, length_rule, held_rule, shape_rule, inside_rule, bounds_rule, deciding_rule, time_rule, flow_rule, region_rule, edge_rule, return_rule, finish_rule, edges_from, address_rule, address_rules, edge_rules, row_rule, row_rules, rules_of}
use Rattle.secrecy.specs.Accepted.{Shape, Flows}
use Rattle.secrecy.specs.Edges.{EdgeAt, edge, joined_lists, return_edges, finish_edges, edges_leaving, edges_of}
use Rattle.secrecy.specs.Refusals.{Bounded, Free, FlowsAt, Enough, HeldIn, RowsBefore, AddressesBefore, EdgesBefore, Names, not_enough, not_held, misshapen, enclosed, unbounded, decided, untimely, too_low, region_too_low, RefusalsFor}
use Rattle.secrecy.proofs.Columns.{first_of_each as first_of_among, each_first_of as each_first_of_among}
use Rattle.secrecy.proofs.Says.{Says, says_rule}
use Rattle.secrecy.proofs.Meanings.{shape_says, time_says, edge_says, address_says}

-- what does not hold where a check refuses
says_not : {P : Type 0} (v : Verdict) (r : Refusal) → Says v P → v ≡ refused r → P → ⊥
says_not v r h e p = let e' : fine ≡ refused r = sym (h.1 p) ∙ e in cc

then_fine : (v : Verdict) → and_then v fine ≡ v
then_fine fine = refl
then_fine (refused r) = refl

-- The rules of edges, as those of a list.
module _ {X : Type 0} (f : X → Verdict) where
  alone : (x : X) → f x ≡ first_of f (x ∷ [])
  alone x = sym (first_of-cons f x [] ∙ (ap (and_then (f x)) (first_of-nil f) ∙ then_fine (f x)))

  if_listed : (t : Bool) (x : X) → only_if t (f x) ≡ first_of f (cond t (x ∷ []) [])
  if_listed true x = alone x
  if_listed false x = sym (first_of-nil f)

  all_listed : (g : ℕ → Verdict) (lists : ℕ → List X) → ((k : ℕ) → g k ≡ first_of f (lists k)) → (n : ℕ) → first g n ≡ first_of f (joined_lists lists n)
  unfolding first
  all_listed g lists h zero = sym (first_of-nil f)
  all_listed g lists h (suc n) = grind (arith, all_listed g lists h n, h n, first_of-append f (joined_lists lists n) (lists n))

-- where a word may stand, and where it may lead
module _ (n : ℕ) (R : Rows) where
  free_says : (a : ℕ) (k : Kind) → Says (rule (outside R a || local k) 7 (a ∷ [])) (Free R a k)
  free_says a k = grind arith

  bounded_says : (a : ℕ) (k : Kind) → Says (rule (bounded n R a k) 6 (a ∷ [])) (Bounded n R a k)
  bounded_says a k = grind arith

-- a secret that decides outside, and an edge from inside to inside whose pc_level does not flow
opened : (remaining level : ℕ) → (nat_lt 0 remaining || level == 0) ≡ false → (remaining ≡ 0) × (level ≢ 0)
opened remaining level e = grind (arith, nat_tests)

crossed : (here there : ℕ) (flows : Bool) → (here == 0 || (there == 0 || flows)) ≡ false → (0 < here) × ((0 < there) × (flows ≡ false))
crossed here there flows e = grind (arith, nat_tests)

module _ {B V W : Type 0} (m : Meaning) (M : Machine B V W) (R : Rows) where
  -- the rules of one edge
  abbrev of_edge : EdgeAt → Verdict
  of_edge e = edge_rule m M R e.from e.to e.cycles

  leaving : (a : ℕ) (k : Kind) → edges_from m M R a k ≡ first_of of_edge (edges_leaving M R a k)
  leaving a (plain b c) = alone of_edge (edge a b c)
  leaving a (forks qs b c b' c') = ap (and_then (edge_rule m M R a b c)) (alone of_edge (edge a b' c')) ∙ sym (first_of-cons of_edge (edge a b c) (edge a b' c' ∷ []))
  leaving a (calls t c) = alone of_edge (edge a t c)
  leaving a (rets c) =
      let returns = all_listed of_edge (return_rule m M R a c) (return_edges M R a c) (λ b. if_listed of_edge (calls_to (M.kind b) (R.function a)) (edge a (b + 1) c)) M.size in
      let finish = if_listed of_edge (eqb (R.function a) 0) (edge a M.size c) in
      ap (λ v. and_then v (finish_rule m M R a c)) returns ∙ (ap (and_then (first_of of_edge (joined_lists (return_edges M R a c) M.size))) finish
      ∙ sym (first_of-append of_edge (joined_lists (return_edges M R a c) M.size) (finish_edges M R a c)))

  pub all_edges : edge_rules m M R ≡ first_of of_edge (edges_of M R)
  all_edges = all_listed of_edge (λ a. edges_from m M R a (M.kind a)) (λ a. edges_leaving M R a (M.kind a)) (λ a. leaving a (M.kind a)) M.size

module _ {B V W : Type 0} (m : Meaning) (M : Machine B V W) (rows : List ℕ) where
  abbrev R : Rows
  R = rows_of M.size rows

  abbrev N : Refusal → Type 0
  N = Names m M rows

  held_by : (row column : ℕ) → held_rule m M.size rows row column ≡ fine → m.held (cell M.size rows row column) ≡ true
  held_by row column e = grind arith

  held_all : (row : ℕ) (some : List ℕ) → first_of (held_rule m M.size rows row) some ≡ fine → HeldIn m M rows row some
  held_all row some e = λ k d l. held_by row _ (first_of_each (held_rule m M.size rows row) some e k d l)

  of_row : (row : ℕ) (r : Refusal) → RowsBefore m M rows row → row ≤ M.size → row_rule m M.size rows row ≡ refused r → N r
  of_row row r before l e =
      ⊎_elim
      (λ h. let b = first_of_named (held_rule m M.size rows row) level_columns r h in
      let broken = rule_broken (m.held (cell M.size rows row b.x)) 4 (row ∷ (b.x ∷ [])) r b.broken in
      subst N broken.1 (not_held row b.x b.before b.after before l b.split (λ k d less. held_by row _ (b.kept k d less)) broken.0))
      (λ h. subst N (rule_broken _ 5 (row ∷ []) r h.1).1 (misshapen row before l (held_all row level_columns h.0) (says_not _ r (shape_says M.size R row l) h.1)))
      (then_broken (first_of (held_rule m M.size rows row) level_columns) (shape_rule M.size R row) r e)

  row_right : (row : ℕ) → row ≤ M.size → row_rule m M.size rows row ≡ fine → HeldIn m M rows row level_columns × Shape M.size R row
  row_right row l e =
      let both = and_fine (first_of (held_rule m M.size rows row) level_columns) (shape_rule M.size R row) e in
      (held_all row level_columns both.0, (shape_says M.size R row l).0 both.1)

  all_rows : (r : Refusal) → Enough m M rows → row_rules m M.size rows ≡ refused r → N r
  all_rows r enough e =
      let b = first_named (row_rule m M.size rows) (M.size + 1) r e in
      of_row b.0 r (record { enough = enough; each = λ k l. row_right k (omega arith) (b.3 k l) }) (omega arith) b.2

  of_address : (a : ℕ) (r : Refusal) → AddressesBefore m M rows a → a < M.size → address_rule m M R a ≡ refused r → N r
  of_address a r before l e =
      ⊎_elim
      (λ h. subst N (rule_broken _ 7 (a ∷ []) r h).1 (enclosed a before l (says_not _ r (free_says M.size R a (M.kind a)) h)))
      (λ h. let free = (free_says M.size R a (M.kind a)).0 h.0 in
      ⊎_elim
      (λ k. subst N (rule_broken _ 6 (a ∷ []) r k).1 (unbounded a before l free (says_not _ r (bounded_says M.size R a (M.kind a)) k)))
      (λ k. let broken = rule_broken _ 8 (a ∷ []) r k.1 in
      let open_ = opened (R.remaining a) (deciding m M R a) broken.0 in
      subst N broken.1 (decided a before l free ((bounded_says M.size R a (M.kind a)).0 k.0) open_.0 open_.1))
      (then_broken (bounds_rule M R a) (deciding_rule m M R a) r h.1))
      (then_broken (inside_rule M R a) _ r e)

  all_addresses : (r : Refusal) → RowsBefore m M rows (M.size + 1) → address_rules m M R ≡ refused r → N r
  all_addresses r right e =
      let b = first_named (address_rule m M R) M.size r e in
      of_address b.0 r (record { rows_right = right; each = λ k l. (address_says m M R k).0 (b.3 k l) }) b.1 b.2

  flows_by : (a b p : ℕ) → flow_rule m M R a b p ≡ fine → FlowsAt m M R a b p
  flows_by a b p e = grind arith

  of_one : (e : EdgeAt) (r : Refusal) → EdgesBefore m M rows e → edge_rule m M R e.from e.to e.cycles ≡ refused r → N r
  of_one e r before h =
      let a = e.from in
      let b = e.to in
      ⊎_elim
      (λ t. subst N (rule_broken _ 9 (a ∷ (b ∷ [])) r t).1 (untimely e before (says_not _ r (time_says m M R a b e.cycles) t)))
      (λ t. let timed = (time_says m M R a b e.cycles).0 t.0 in
      ⊎_elim
      (λ l. let f = first_of_named (flow_rule m M R a b) place_columns r l in
      let broken = rule_broken _ 10 (a ∷ (b ∷ (f.x ∷ []))) r f.broken in
      subst N broken.1 (too_low e f.x f.before f.after before timed f.split (λ k d less. flows_by a b _ (f.kept k d less)) broken.0))
      (λ l. let broken = rule_broken _ 10 (a ∷ (b ∷ (region_column ∷ []))) r l.1 in
      let way = crossed (R.remaining a) (R.remaining b) (m.flows (pc_level m M R a) (R.region b)) broken.0 in
      subst N broken.1 (region_too_low e before timed (λ p place. flows_by a b p (first_of_among (flow_rule m M R a b) place_columns l.0 p place)) way.0 way.1.0 way.1.1))
      (then_broken (first_of (flow_rule m M R a b) place_columns) (region_rule m M R a b) r t.1))
      (then_broken (time_rule R a b e.cycles) _ r h)

  edges : (r : Refusal) → AddressesBefore m M rows M.size → edge_rules m M R ≡ refused r → N r
  edges r right e =
      let b = first_of_named (of_edge m M R) (edges_of M R) r (sym (all_edges m M R) ∙ e) in
      of_one b.x r (record { addresses_right = right; before = b.before; after = b.after; split = b.split; each = λ k d l. (edge_says m M R _ _ _).0 (b.kept k d l) }) b.broken

  pub refusals : (r : Refusal) → rules_of m M rows ≡ refused r → N r
  refusals r e =
      let count = says_rule (eqb (length rows) ((M.size + 1) * columns)) 3 [] (Decides-eqb (length rows) ((M.size + 1) * columns)) in
      ⊎_elim
      (λ h. subst N (rule_broken _ 3 [] r h).1 (not_enough (says_not _ r count h)))
      (λ h. let enough = count.0 h.0 in
      ⊎_elim
      (all_rows r enough)
      (λ k. let right : RowsBefore m M rows (M.size + 1) = record { enough = enough; each = λ row l. row_right row (omega arith) (first_each (row_rule m M.size rows) (M.size + 1) k.0 row l) } in
      ⊎_elim
      (all_addresses r right)
      (λ j. edges r (record { rows_right = right; each = λ a l. (address_says m M R a).0 (first_each (address_rule m M R) M.size j.0 a l) }) j.1)
      (then_broken (address_rules m M R) (edge_rules m M R) r k.1))
      (then_broken (row_rules m M.size rows) _ r h.1))
      (then_broken (length_rule M.size rows) _ r e)

-- And back: what a refusal says makes the checks refuse by it.
refuses_rule : {P : Type 0} (t : Bool) (n : ℕ) (vs : List ℕ) → Says (rule t n vs) P → (P → ⊥) → rule t n vs ≡ refused (refusal n vs)
refuses_rule true n vs h wrong = absurd (wrong (h.0 refl))
refuses_rule false n vs h wrong = refl

pub broken_rule : (t : Bool) (n : ℕ) (vs : List ℕ) → t ≡ false → rule t n vs ≡ refused (refusal n vs)
broken_rule t n vs e = rw e

closes : (remaining level : ℕ) → remaining ≡ 0 → (level ≢ 0) → (nat_lt 0 remaining || level == 0) ≡ false
closes remaining level e wrong = grind (arith, nat_tests)

crosses : (here there : ℕ) (flows : Bool) → 0 < here → 0 < there → flows ≡ false → (here == 0 || (there == 0 || flows)) ≡ false
crosses here there flows h k e = grind (arith, nat_tests)

module _ {B V W : Type 0} (m : Meaning) (M : Machine B V W) (rows : List ℕ) where
  abbrev S : Rows
  S = rows_of M.size rows

  row_fine : (row : ℕ) → row ≤ M.size → HeldIn m M rows row level_columns × Shape M.size S row → row_rule m M.size rows row ≡ fine
  row_fine row l h = then-on _ _ _ (each_first_of (held_rule m M.size rows row) level_columns (λ k d less. rule_met _ 4 _ (h.0 k d less))) ((shape_says M.size S row l).1 h.1)

  -- past the numbers, at a row
  at_row : (row : ℕ) (r : Refusal) → RowsBefore m M rows row → row ≤ M.size → row_rule m M.size rows row ≡ refused r → rules_of m M rows ≡ refused r
  at_row row r before l e =
      then-on (length_rule M.size rows) _ _ ((says_rule _ 3 [] (Decides-eqb (length rows) ((M.size + 1) * columns))).1 before.enough)
      (then_stop (row_rules m M.size rows) _ r
      (first_stop (row_rule m M.size rows) row (M.size + 1) r (each_first (row_rule m M.size rows) row (λ k less. row_fine k (omega arith) (before.each k less))) e (omega arith)))

  -- past all rows
  past_rows : (v : Verdict) → RowsBefore m M rows (M.size + 1) → and_then (address_rules m M S) (edge_rules m M S) ≡ v → rules_of m M rows ≡ v
  past_rows v right e =
      then-on (length_rule M.size rows) _ _ ((says_rule _ 3 [] (Decides-eqb (length rows) ((M.size + 1) * columns))).1 right.enough)
      (then-on (row_rules m M.size rows) _ _ (each_first (row_rule m M.size rows) (M.size + 1) (λ k less. row_fine k (omega arith) (right.each k less))) e)

  at_address : (a : ℕ) (r : Refusal) → AddressesBefore m M rows a → a < M.size → address_rule m M S a ≡ refused r → rules_of m M rows ≡ refused r
  at_address a r before l e =
      past_rows (refused r) before.rows_right
      (then_stop (address_rules m M S) _ r (first_stop (address_rule m M S) a M.size r (each_first (address_rule m M S) a (λ k less. (address_says m M S k).1 (before.each k less))) e l))

  at_edge : (e : EdgeAt) (r : Refusal) → EdgesBefore m M rows e → edge_rule m M S e.from e.to e.cycles ≡ refused r → rules_of m M rows ≡ refused r
  at_edge e r before h =
      past_rows (refused r) before.addresses_right.rows_right
      (then-on (address_rules m M S) _ _ (each_first (address_rule m M S) M.size (λ k less. (address_says m M S k).1 (before.addresses_right.each k less)))
      (all_edges m M S ∙ first_of_split (of_edge m M S) before.before before.after (edges_of M S) e r before.split
      (each_first_of (of_edge m M S) before.before (λ k d less. (edge_says m M S _ _ _).1 (before.each k d less))) h))

  all_flow : (a b : ℕ) → Flows m M S a b → first_of (flow_rule m M S a b) place_columns ≡ fine
  all_flow a b h = each_first_of_among (flow_rule m M S a b) place_columns (λ p place. rule_met _ 10 _ (h p place))

  refuses : (r : Refusal) → Names m M rows r → rules_of m M rows ≡ refused r
  refuses r (not_enough wrong) = then_stop (length_rule M.size rows) _ _ (refuses_rule _ 3 [] (says_rule _ 3 [] (Decides-eqb (length rows) ((M.size + 1) * columns))) wrong)
  refuses r (not_held row column before after rb l split held wrong) =
      at_row row _ rb l (then_stop (first_of (held_rule m M.size rows row) level_columns) _ _
      (first_of_split (held_rule m M.size rows row) before after level_columns column _ split (each_first_of (held_rule m M.size rows row) before (λ k d less. rule_met _ 4 _ (held k d less))) (broken_rule _ 4 _ wrong)))
  refuses r (misshapen row rb l held wrong) =
      at_row row _ rb l (then-on (first_of (held_rule m M.size rows row) level_columns) _ _ (each_first_of (held_rule m M.size rows row) level_columns (λ k d less. rule_met _ 4 _ (held k d less)))
      (refuses_rule _ 5 (row ∷ []) (shape_says M.size S row l) wrong))
  refuses r (enclosed a before l wrong) = at_address a _ before l (then_stop (inside_rule M S a) _ _ (refuses_rule _ 7 (a ∷ []) (free_says M.size S a (M.kind a)) wrong))
  refuses r (unbounded a before l free wrong) =
      at_address a _ before l (then-on (inside_rule M S a) _ _ ((free_says M.size S a (M.kind a)).1 free)
      (then_stop (bounds_rule M S a) _ _ (refuses_rule _ 6 (a ∷ []) (bounded_says M.size S a (M.kind a)) wrong)))
  refuses r (decided a before l free bound out wrong) =
      at_address a _ before l (then-on (inside_rule M S a) _ _ ((free_says M.size S a (M.kind a)).1 free)
      (then-on (bounds_rule M S a) _ _ ((bounded_says M.size S a (M.kind a)).1 bound) (broken_rule _ 8 (a ∷ []) (closes (S.remaining a) (deciding m M S a) out wrong))))
  refuses r (untimely e before wrong) = at_edge e _ before (then_stop (time_rule S e.from e.to e.cycles) _ _ (refuses_rule _ 9 (e.from ∷ (e.to ∷ [])) (time_says m M S e.from e.to e.cycles) wrong))
  refuses r (too_low e p before after reached timed split flow wrong) =
      at_edge e _ reached (then-on (time_rule S e.from e.to e.cycles) _ _ ((time_says m M S e.from e.to e.cycles).1 timed)
      (then_stop (first_of (flow_rule m M S e.from e.to) place_columns) _ _
      (first_of_split (flow_rule m M S e.from e.to) before after place_columns p _ split (each_first_of (flow_rule m M S e.from e.to) before (λ k d less. rule_met _ 10 _ (flow k d less))) (broken_rule _ 10 _ wrong))))
  refuses r (region_too_low e reached timed flow here there wrong) =
      at_edge e _ reached (then-on (time_rule S e.from e.to e.cycles) _ _ ((time_says m M S e.from e.to e.cycles).1 timed)
      (then-on (first_of (flow_rule m M S e.from e.to) place_columns) _ _ (all_flow e.from e.to flow)
      (broken_rule _ 10 _ (crosses (S.remaining e.from) (S.remaining e.to) _ here there wrong))))

pub refused_by : {B V W : Type 0} → RefusalsFor B V W
refused_by m M rows r = (refusals m M rows r, refuses m M rows r)
