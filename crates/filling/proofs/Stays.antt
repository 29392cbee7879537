-- Words that have nothing to raise: their rows stay as they are, or hold no level above 0.
use Rattle.std.proofs.Common.{◌≡◌, ℕ, ◌<◌, ◌≤◌, Bool, true, false, cond, nat_lt, List, [], ◌∷◌, length, refl, arith, sym, ◌∙◌, ap, subst, not, ◌&&◌, ◌==◌}
use mathlib.Core.Path.{fun_ext}
use Rattle.std.proofs.lemmas.Bool.Decides.{nat_tests}
use Rattle.levels.specs.Order.{Meaning, Laws}
use Rattle.machine.specs.Machine.{Machine, Kind}
use Rattle.avr.specs.Chip.{avr}
use Rattle.secrecy.specs.Rows.{Rows, rows_of}
use Rattle.secrecy.specs.Flow.{joined, join_of_all, deciding_of, deciding, pc_level, level_after}
use Rattle.secrecy.specs.Filling.{SameGiven, Below, Leads}
use Rattle.filling.specs.Between.{Between, Departs, SettledTo, SettledFrom, SameRow, RaisesListed, Clean}
use Rattle.filling.specs.Worklists.{lists}
use Rattle.filling.specs.Seeds.{FirstAlone}
use Rattle.filling.proofs.Sets.{place_small}
use Rattle.filling.proofs.Raises.{join_same}
use Rattle.filling.proofs.Ways.{settled_from}
use Rattle.secrecy.proofs.Fillings.{leads_same}

-- what a word does to levels goes by its own row alone
module _ {B V W : Type 0} (m : Meaning) (M : Machine B V W) (a : ℕ) where
  module _ (R S : Rows) (levels : (p : ℕ) → S.level a p ≡ R.level a p) (region : S.region a ≡ R.region a) where
    same_levels : S.level a ≡ R.level a
    same_levels = fun_ext levels

    pub after_same : (p : ℕ) → level_after m M S a p ≡ level_after m M R a p
    after_same p =
        ap (λ (f : ℕ → ℕ). cond (M.writes a p) (joined m (S.region a) f (M.sources a p)) (f p)) same_levels
        ∙ ap (λ (r : ℕ). cond (M.writes a p) (joined m r (R.level a) (M.sources a p)) (R.level a p)) region

    pub pc_same : pc_level m M S a ≡ pc_level m M R a
    pc_same = ap (λ (f : ℕ → ℕ). m.join (S.region a) (deciding_of m f (M.kind a))) same_levels ∙ ap (λ (r : ℕ). m.join r (deciding m M R a)) region

module _ (m : Meaning) (laws : Laws m) (level : ℕ → ℕ) (zero : (p : ℕ) → level p ≡ 0) where
  zeros : m.join 0 0 ≡ 0
  zeros = join_same m laws 0 laws.zero_held

  joined_zero : (qs : List ℕ) → joined m 0 level qs ≡ 0
  joined_zero [] = refl
  joined_zero (q ∷ qs) = ap (λ (x : ℕ). m.join x (joined m 0 level qs)) (zero q) ∙ (ap (λ (x : ℕ). m.join 0 x) (joined_zero qs) ∙ zeros)

  all_zero : (qs : List ℕ) → join_of_all m level qs ≡ 0
  all_zero [] = refl
  all_zero (q ∷ []) = zero q
  all_zero (q ∷ (r ∷ rs)) = ap (λ (x : ℕ). m.join x (join_of_all m level (r ∷ rs))) (zero q) ∙ (ap (λ (x : ℕ). m.join 0 x) (all_zero (r ∷ rs)) ∙ zeros)

  pub deciding_zero : (k : Kind) → deciding_of m level k ≡ 0
  deciding_zero k = grind (arith, all_zero)

  pub written_zero : (t : Bool) (p : ℕ) (qs : List ℕ) → cond t (joined m 0 level qs) (level p) ≡ 0
  written_zero t p qs = grind (arith, joined_zero qs, zero p)

module _ (m : Meaning) (laws : Laws m) (ws given : List ℕ) where
  abbrev rows_by : List ℕ → Rows
  rows_by rows = rows_of (length ws) rows

  -- between two rows there is no difference in what is given
  remains : (rows new : List ℕ) → Between m ws given rows → Between m ws given new → (row : ℕ) → (rows_by new).remaining row ≡ (rows_by rows).remaining row
  remains rows new before after row = after.same.remaining row ∙ sym (before.same.remaining row)

  module _ (rows new : List ℕ) (before : Between m ws given rows) (after : Between m ws given new) (a : ℕ) (same : SameRow (length ws) rows new a) where
    -- By what a word left behind: nothing is left to raise from it, if its own row is as it was and that flows to wherever it leads.
    pub settled_after : (known : ℕ) (levels : List ℕ) (inside : Bool) → Departs m ws given rows a levels known → inside ≡ nat_lt 0 ((rows_by rows).remaining a) →
        ((b : ℕ) → b ≤ length ws → Leads m (avr ws) (rows_by given) a b → SettledTo m ws given new levels inside known b) → SettledFrom m ws given new a
    settled_after known levels inside d e =
        settled_from m laws ws given new after a known levels inside
        (record {
          each = λ p l. d.each p l ∙ sym (after_same m (avr ws) a (rows_by rows) (rows_by new) same.levels same.region p);
          pc_level = d.pc_level ∙ sym (pc_same m (avr ws) a (rows_by rows) (rows_by new) same.levels same.region);
        })
        (e ∙ ap (λ (r : ℕ). nat_lt 0 r) (sym (remains rows new before after a)))

    -- and by what was settled before
    pub settled_still : Below m (rows_by rows) (rows_by new) → SettledFrom m ws given rows a → SettledFrom m ws given new a
    settled_still rises h b l way =
        let back : SameGiven (rows_by new) (rows_by rows) = record {
          join_address = λ r. after.same.join_address r ∙ sym (before.same.join_address r);
          remaining = remains rows new before after;
          function = λ r. after.same.function r ∙ sym (before.same.function r);
        } in
        let s = h b l (leads_same m (avr ws) (rows_by new) (rows_by rows) back a b way) in
        record {
          levels = λ p place. rw (after_same m (avr ws) a (rows_by rows) (rows_by new) same.levels same.region p) (laws.transitive _ _ _ (s.levels p place) ((rises b).levels p));
          region = λ i k. rw (pc_same m (avr ws) a (rows_by rows) (rows_by new) same.levels same.region)
              (laws.transitive _ _ _ (s.region (rw (remains rows new before after a) at i) (rw (remains rows new before after b) at k)) (rises b).region);
        }

  -- where a row has no level above 0, there is nothing to raise
  pub settled_zero : (rows : List ℕ) → Between m ws given rows → (a : ℕ) → ((p : ℕ) → (rows_by rows).level a p ≡ 0) → (rows_by rows).region a ≡ 0 → SettledFrom m ws given rows a
  settled_zero rows between a levels region b l way =
      let R = rows_by rows in
      let after : (p : ℕ) → level_after m (avr ws) R a p ≡ 0 = λ p.
      ap (λ (r : ℕ). cond ((avr ws).writes a p) (joined m r (R.level a) ((avr ws).sources a p)) (R.level a p)) region ∙ written_zero m laws (R.level a) levels ((avr ws).writes a p) p ((avr ws).sources a p) in
      let pc : pc_level m (avr ws) R a ≡ 0 = ap (λ (r : ℕ). m.join r (deciding m (avr ws) R a)) region ∙ (ap (λ (d : ℕ). m.join 0 d) (deciding_zero m laws (R.level a) levels ((avr ws).kind a)) ∙ join_same m laws 0 laws.zero_held) in
      record {
        levels = λ p place. rw (after p) (laws.least _ (between.held.levels b p));
        region = λ i k. rw pc (laws.least _ (between.held.regions b));
      }

  -- after one row's turn: by the list that it was taken from, and by what was raised and listed then
  module _ (rows new : List ℕ) (before : Between m ws given rows) (after : Between m ws given new) (rank : ℕ → ℕ) (old taken listed : List ℕ) (row : ℕ) (flag : Bool)
      (removed : (other : ℕ) → lists taken other ≡ (not (other == row) && lists old other)) (clean : Clean m ws given rows old) where
    clean_by : (raises : RaisesListed m rank (length ws) rows new taken listed flag) → (lists listed row ≡ false → SettledFrom m ws given new row) →
        (a : ℕ) (t : Bool) → a == row ≡ t → a < length ws → lists listed a ≡ false → SettledFrom m ws given new a
    clean_by raises own a true q l e = let s : row ≡ a = grind (arith, nat_tests) in subst (λ (x : ℕ). SettledFrom m ws given new x) s (own (rw s e))
    clean_by raises own a false q l e =
        let u = raises.unlisted a e in
        settled_still rows new before after a u.1 raises.rises (clean a l (let r = removed a in let f = u.0 in grind (arith, nat_tests)))

    pub clean_after : RaisesListed m rank (length ws) rows new taken listed flag → (lists listed row ≡ false → SettledFrom m ws given new row) → Clean m ws given new listed
    clean_after raises own a l e = clean_by raises own a (a == row) refl l e

  -- a row without a word has no turn
  pub clean_past : (rows old taken : List ℕ) (row : ℕ) → length ws ≤ row → ((other : ℕ) → lists taken other ≡ (not (other == row) && lists old other)) → Clean m ws given rows old → Clean m ws given rows taken
  clean_past rows old taken row past removed clean a l e = clean a l (let r = removed a in grind (arith, nat_tests))

  -- at first
  pub clean_first : (rows blocks : List ℕ) → Between m ws given rows → FirstAlone (length ws) rows → ((row : ℕ) → lists blocks row ≡ (row == 0)) → Clean m ws given rows blocks
  clean_first rows blocks between first listed a l e =
      let z : 0 < a = let q = listed a in grind (arith, nat_tests) in
      settled_zero rows between a (λ p. let o = first.others a p z in grind (arith, nat_tests, place_small p)) (first.others a 35 z (omega arith))
