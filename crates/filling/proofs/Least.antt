-- The least rows are accepted, and they are one.
use Rattle.std.proofs.Common.{◌≡◌, ℕ, ◌+◌, ◌*◌, ◌/◌, ◌%◌, ◌<◌, ◌≤◌, List, length, get_or, Err, refl, arith, sym, ◌∙◌, ⊎_elim}
use Rattle.std.proofs.lemmas.Bool.{cases_lt}
use Rattle.std.proofs.lemmas.Bool.Decides.{nat_tests}
use Rattle.std.proofs.lemmas.List.{ext_get_or}
use Rattle.levels.specs.Order.{Meaning, Laws}
use Rattle.avr.specs.Chip.{avr}
use Rattle.secrecy.specs.Rows.{rows_of, cell, columns}
use Rattle.secrecy.specs.Accepted.{Accepts}
use Rattle.secrecy.specs.Filling.{SameGiven, Below, FillsIn, LeastIn, SettlesIn, LeastSettled, Settled}
use Rattle.secrecy.proofs.Fillings.{from_accepted, settles}
use Rattle.filling.specs.Between.{Between}
use Rattle.verdicts.specs.Verdict.{refused}
use Rattle.filling.specs.declared.fault.FillingFault.{FillingFault}
use Rattle.filling.specs.declared.fault.FillingFault.TheVariants as fault
use Rattle.filling.specs.Seeds.{given_verdict}
use Rattle.filling.specs.Answers.{filling_refusal, zeros_of, Filled, NoneFill, Answered, SettledRows, SettlingAnswered, LeastIsOne, LeastSettledIsOne}
use Rattle.filling.proofs.Sets.{place_small}

module _ (m : Meaning) (laws : Laws m) (ws given : List ℕ) where
  abbrev n : ℕ
  n = length ws

  -- rows hold 0 past the finish row
  level_past : (rows : List ℕ) (row p : ℕ) → n < row → (rows_of n rows).level row p ≡ 0
  level_past rows row p l = grind (arith, nat_tests)

  region_past : (rows : List ℕ) (row : ℕ) → n < row → (rows_of n rows).region row ≡ 0
  region_past rows row l = grind (arith, nat_tests)

  -- rows that fill in what is given settle with it
  pub settled_of : (rows : List ℕ) → FillsIn m (avr ws) given rows → SettlesIn m (avr ws) given rows
  settled_of rows fills = record {
    whole = fills.accepted.0;
    same = fills.same;
    above = fills.above;
    held = record {
      levels = λ row p. ⊎_elim
          (λ (l : n < row). rw (level_past rows row p l) laws.zero_held)
          (λ (l : row ≤ n). grind (arith, nat_tests, fills.accepted.1.held row p l, laws.zero_held))
          (cases_lt n row);
      regions = λ row. ⊎_elim (λ (l : n < row). rw (region_past rows row l) laws.zero_held) (λ (l : row ≤ n). fills.accepted.1.regions row l) (cases_lt n row);
    };
    settled = from_accepted m (avr ws) (rows_of n rows) fills.accepted.1;
  }

  -- rows that lie between and are settled are the least settled ones
  pub least_settled : (rows : List ℕ) → Between m ws given rows → Settled m (avr ws) (rows_of n rows) → LeastSettled m (avr ws) given rows
  least_settled rows between settled = record {
    settles = record { whole = between.whole; same = between.same; above = between.above; held = between.held; settled = settled };
    least = between.below;
  }

  module _ (rows : List ℕ) (least : LeastSettled m (avr ws) given rows) where
    -- the least settled rows are accepted, if any rows that fill in what is given are
    pub settled_accepted : (other : List ℕ) → FillsIn m (avr ws) given other → Accepts m (avr ws) rows
    settled_accepted other fills = (
      least.settles.whole,
      settles m laws (avr ws) (rows_of n rows) (rows_of n other)
          (record {
            join_address = λ a. least.settles.same.join_address a ∙ sym (fills.same.join_address a);
            remaining = λ a. least.settles.same.remaining a ∙ sym (fills.same.remaining a);
            function = λ a. least.settles.same.function a ∙ sym (fills.same.function a);
          })
          (least.least other (settled_of other fills)) fills.accepted.1 least.settles.held least.settles.settled,
    )

    -- and where they are accepted, they are the least that fill it in
    pub least_in : Accepts m (avr ws) rows → LeastIn m (avr ws) given rows
    least_in accepts = record {
      fills = record { accepted = accepts; same = least.settles.same; above = least.settles.above };
      least = λ other fills. least.least other (settled_of other fills);
    }

  -- rows with the same given columns, each at or below the other, are the same
  module _ (xs ys : List ℕ) (wx : length xs ≡ (n + 1) * columns) (wy : length ys ≡ (n + 1) * columns)
      (sx : SameGiven (rows_of n xs) (rows_of n given)) (sy : SameGiven (rows_of n ys) (rows_of n given))
      (up : Below m (rows_of n xs) (rows_of n ys)) (down : Below m (rows_of n ys) (rows_of n xs)) where
    level_same : (a c : ℕ) → c ≤ 35 → cell n xs a c ≡ cell n ys a c
    level_same a c l =
        let f = up a in
        let g = down a in
        grind (arith, nat_tests, place_small c, f.levels c, g.levels c, f.region, g.region, laws.antisymmetric)

    given_same : (a c : ℕ) → 36 ≤ c → c ≤ 38 → cell n xs a c ≡ cell n ys a c
    given_same a c l h =
        let j = sx.join_address a ∙ sym (sy.join_address a) in
        let r = sx.remaining a ∙ sym (sy.remaining a) in
        let f = sx.function a ∙ sym (sy.function a) in
        grind (arith, nat_tests)

    cell_same : (a c : ℕ) → c ≤ 38 → cell n xs a c ≡ cell n ys a c
    cell_same a c l = grind (arith, nat_tests, level_same a c, given_same a c)

    number_same : (i : ℕ) → i < (n + 1) * columns → get_or xs i 0 ≡ get_or ys i 0
    number_same i l =
        let e : i / columns * columns + i % columns ≡ i = omega arith in
        let h = cell_same (i / columns) (i % columns) (omega arith) in
        let k : i / columns ≤ n = omega arith in
        grind (arith, nat_tests)

    pub same : xs ≡ ys
    same = ext_get_or 0 xs ys (wx ∙ sym wy) (λ i l. number_same i (omega (arith, wx)))

  pub least_is_one : LeastIsOne m ws given
  least_is_one xs ys x y =
      same xs ys x.fills.accepted.0 y.fills.accepted.0 x.fills.same y.fills.same (x.least ys y.fills) (y.least xs x.fills)

  pub least_settled_is_one : LeastSettledIsOne m ws given
  least_settled_is_one xs ys x y =
      same xs ys x.settles.whole y.settles.whole x.settles.same y.settles.same (x.least ys y.settles) (y.least xs x.settles)

-- what is refused early leaves everything
module _ (m : Meaning) (ws given old : List ℕ) where
  pub unread : (f : FillingFault) → (f ≡ fault.Unfillable → ⊥) → refused (filling_refusal f) ≡ given_verdict m ws given old → SettlingAnswered m ws given old old (Err f)
  unread (fault.Words f) early e = record { refuses = sym e; unchanged = refl }
  unread (fault.Rows f) early e = record { refuses = sym e; unchanged = refl }
  unread fault.Unfillable early e = early refl

  -- and filling in refuses it with settling
  pub refused_too : (new : List ℕ) (f : FillingFault) → SettlingAnswered m ws given old new (Err f) → Answered m ws given old new (Err f)
  refused_too new (fault.Words f) a = a
  refused_too new (fault.Rows f) a = a
  refused_too new fault.Unfillable a = absurd a

  module _ (laws : Laws m) (new : List ℕ) (settled : SettledRows m ws given old new) where
    -- settled rows that are accepted are the least that fill in what is given
    pub filled : Accepts m (avr ws) new → Filled m ws given old new
    filled accepts = record { read = settled.read; least = least_in m laws ws given new settled.least accepts }

    -- and where they are not, no rows do
    pub none_fill : (zeros : List ℕ) → zeros ≡ zeros_of old → (Accepts m (avr ws) new → ⊥) → NoneFill m ws given old zeros
    none_fill zeros e not = record {
      read = settled.read;
      none = λ rows fills. not (settled_accepted m laws ws given new settled.least rows fills);
      zeros = e;
    }
