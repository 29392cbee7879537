-- Joins of levels, from the last place to the first.
use Rattle.std.proofs.Common.{arith, ◌≡◌, ℕ, List, [], ◌∷◌, ◌++◌, reverse, refl, ap}
use Rattle.std.specs.List.{fold}
use Rattle.std.proofs.lemmas.List.{reverse-append}
use Rattle.std.proofs.lemmas.List.Sums.{fold-append}
use Rattle.levels.specs.Order.{Meaning}
use Rattle.secrecy.specs.Flow.{joined, join_of_all}

module _ (m : Meaning) (level : ℕ → ℕ) where
  pub folded : (base : ℕ) (qs : List ℕ) → fold (λ a q. m.join (level q) a) base (reverse qs) ≡ joined m base level qs
  folded base [] = refl
  folded base (q ∷ qs) = grind (arith, reverse-append (q ∷ []) qs, fold-append, folded base qs)

  -- all places together begin with the last one
  pub from_last : (qs : List ℕ) (q : ℕ) → joined m (level q) level qs ≡ join_of_all m level (qs ++ q ∷ [])
  from_last [] q = refl
  from_last (p ∷ []) q = refl
  from_last (p ∷ (r ∷ qs)) q = ap (m.join (level p)) (from_last (r ∷ qs) q)
