use Rattle.std.proofs.Common.{◌≡◌, ℕ, ◌-◌, List, ◌++◌, length, get_or, drop, replicate, sym, refl, ◌∙◌, ⊎_elim}
use Rattle.std.proofs.lemmas.Bool.{cases_lt}
use Rattle.std.proofs.lemmas.List.{get_or_append_left, get_or-append_right, get_or_past, drop-replicate}
use Rattle.levels.specs.Squares.{zeros}
use Rattle.levels.proofs.table.padded.Goals as goal

padded : (xs ys : List ℕ) (k : ℕ) → xs ≡ ys → get_or (xs ++ drop (length ys) (replicate 256 0)) k 0 ≡ get_or ys k 0
padded xs ys k e =
    rw (e, drop-replicate {X = ℕ} (length ys) 256 0) (⊎_elim (λ l. get_or_append_left ys _ 0 k l) (λ l. get_or-append_right ys _ (length ys) k 0 refl l ∙ (zeros (256 - length ys) (k - length ys) ∙ sym (get_or_past ys k 0 l))) (cases_lt k (length ys)))

pub returns : goal.returns
returns c k = padded _ c.args.bytes.now k c.copy_from_slice.ensures.after
