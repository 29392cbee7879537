-- The laws of assignments and of the check of bytes. Assumes nothing.
use Rattle.std.proofs.Common.{◌≡◌, ℕ, ◌+◌, true, false, not, List, ◌∷◌, ◌++◌, get_or, drop, Some, Err, count_by, refl, ap, ◌∙◌}
use Rattle.std.specs.List.{AllByRecursion}
use Rattle.std.proofs.ByRecursion.{All-weaker}
use Rattle.std.proofs.lemmas.Bool.{cond-true, cond-false}
use Rattle.text.specs.Bytes.{newline, equals, in_name, allowed}
use Rattle.text.specs.Cuts.{whole}
use Rattle.text.specs.Laws.{Without, AssignmentsStand, ChecksStand}
use Rattle.text.proofs.Fronts.{front_upto, behind_upto, whole_upto, whole_all}

names : (bs : List ℕ) → Without equals bs → AllByRecursion (λ b. in_name b ≡ true) bs
names bs h = All-weaker (λ b. equals b ≡ false) (λ b. in_name b ≡ true) (λ b e. ap not e) bs h

pub assignments_law : AssignmentsStand
assignments_law = record {
  some = λ name value h.
      let n = names name h in
      cond-false (whole in_name (name ++ 61 ∷ value)) _ _ (whole_upto in_name name 61 value n refl)
      ∙ (λ i. Some (front_upto in_name name 61 value n refl i, drop 1 (behind_upto in_name name 61 value n refl i)));
  none = λ token h. cond-true (whole in_name token) _ _ (whole_all in_name token (names token h));
}

pub checks_law : ChecksStand
checks_law = record {
  fine = λ bs h. cond-true (whole allowed bs) _ _ (whole_all allowed bs h);
  bad = λ bs b after h e.
      cond-false (whole allowed (bs ++ b ∷ after)) _ _ (whole_upto allowed bs b after h e)
      ∙ (λ i. Err (record { line = 1 + count_by newline (front_upto allowed bs b after h e i); byte = get_or (behind_upto allowed bs b after h e i) 0 0 }));
}
