use Rattle.std.proofs.Common.{rules}
use Rattle.couples.proofs.Lives.{lived, hidden}
use Rattle.couples.proofs.living.live.Goals as goal

pub returns-clause-lived : goal.returns-clause-lived
returns-clause-lived c =
    let w = c.work_all.ensures.worked in
    λ _. record { left_side = lived _ _ _ _ _ (search rules) (search rules) w.left_side; right_side = lived _ _ _ _ _ (search rules) (search rules) w.right_side }

pub returns-clause-hides : goal.returns-clause-hides
returns-clause-hides c =
    let w = c.work_all.ensures.worked in
    λ _. hidden _ _ _ (record { left_side = lived _ _ _ _ _ (search rules) (search rules) w.left_side; right_side = lived _ _ _ _ _ (search rules) (search rules) w.right_side })
