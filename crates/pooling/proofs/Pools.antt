-- What holds where nothing is refused.
use Rattle.std.proofs.Common.{◌≡◌, ℕ, ◌<◌, true, List, length, get_or, sym, ◌∙◌, arith}
use Rattle.verdicts.specs.Verdict.{Verdict, fine, and_then}
use Rattle.verdicts.proofs.Firsts.{and_fine}
use Rattle.words.specs.Legal.{legal_of}
use Rattle.levels.specs.Order.{Meaning, Laws}
use Rattle.avr.specs.Chip.{avr}
use Rattle.secrecy.specs.Rules.{length_rule}
use Rattle.pooled.specs.Pools.{is_level, pool_of, set_verdict, given_rules, Fit}
use Rattle.pooled.proofs.Sets.{SetRight, set_says, number_held, whole_from}
use Rattle.pooled.proofs.Least.{pool_cells, pool_least_of_both}
use Rattle.pooled.proofs.Stands.{pool_accepted}
use Rattle.pooling.specs.Faults.{in_set}
use Rattle.pooling.specs.Pooled.{pool_verdict, Pooled}

in_set_fine : (k : ℕ) (v : Verdict) → in_set k v ≡ fine → v ≡ fine
in_set_fine k v e = grind arith

module _ (m : Meaning) (laws : Laws m) (ws xs ys old : List ℕ) (right : pool_verdict m ws xs ys old ≡ fine) where
  abbrev n : ℕ
  n = length ws

  abbrev after_first : Verdict
  after_first = and_then (in_set 2 (set_verdict m n ys)) (given_rules n xs ys)

  abbrev after_room : Verdict
  after_room = and_then (in_set 1 (set_verdict m n xs)) after_first

  sized : (length_rule n old ≡ fine) × (after_room ≡ fine)
  sized = and_fine (length_rule n old) after_room (and_fine (legal_of ws) _ right).1

  sets : (in_set 1 (set_verdict m n xs) ≡ fine) × (after_first ≡ fine)
  sets = and_fine _ _ sized.1

  second : (in_set 2 (set_verdict m n ys) ≡ fine) × (given_rules n xs ys ≡ fine)
  second = and_fine _ _ sets.1

  pub fit : Fit m n xs ys
  fit = record { first = in_set_fine 1 _ sets.0; second = in_set_fine 2 _ second.0; same = second.1 }

  x : SetRight m n xs
  x = (set_says m n xs).0 fit.first

  y : SetRight m n ys
  y = (set_says m n ys).0 fit.second

  pub room : length old ≡ length xs
  room = whole_from n old sized.0 ∙ sym x.whole

  pub long : length ys ≡ length xs
  long = y.whole ∙ sym x.whole

  pub first_held : (i : ℕ) → i < length xs → is_level i ≡ true → m.held (get_or xs i 0) ≡ true
  first_held i l e = number_held m n xs laws x i l e

  pub second_held : (i : ℕ) → i < length xs → is_level i ≡ true → m.held (get_or ys i 0) ≡ true
  second_held i l e = number_held m n ys laws y i (let q = long in omega arith) e

  pub pooled : (new : List ℕ) → new ≡ pool_of m xs ys → Pooled m ws xs ys new
  pooled new e = rw e (record {
    fit = fit;
    cells = pool_cells m laws n xs ys fit;
    accepted = λ p q. (p.0, pool_accepted m laws (avr ws) xs ys p.1 q.1 second.1);
    least = pool_least_of_both m laws n xs ys fit;
  })
