-- What `array::from_fn` made, where the closure changes nothing; for the crates above, which fill arrays so. Assumes nothing.
use Rattle.std.proofs.Common.{◌≡◌, ℕ, zero, suc, ◌+◌, ◌<◌, ◌≤◌, List, arith}
use Rattle.std.specs.List.{slice_index_or}
use Rattle.std.specs.Fn.{Mut, Called}
use Rattle.std.specs.Array.{IsFromFnResultFrom, IsFromFnResult}

module _ {F B : Type 0} (g : Mut F (ℕ × Unit {0}) B) (P : ℕ → B → Type 0) (f : F) (step : (i : ℕ) (y : B) (q : F) → Called g f (i, tt) y q → P i y × (q ≡ f)) where
  made_from : (ys : List B) (i n : ℕ) → IsFromFnResultFrom g f ys i n → (k : ℕ) (e : B) → i ≤ k → k < i + n → P k (slice_index_or ys k e)
  made_from ys i zero h k e l m = absurd (omega arith)
  made_from ys i (suc n) h k e l m = grind (arith, step, made_from ys (i + 1) n)

  -- what holds of each call holds of each element
  pub made : (ys : List B) (n : ℕ) → IsFromFnResult g f ys n → (k : ℕ) (e : B) → k < n → P k (slice_index_or ys k e)
  made ys n h k e l = made_from ys 0 n h.each k e (omega arith) (omega arith)
