-- How tasks stand together, by how each of them does. Assumes nothing.
use Rattle.std.proofs.Common.{◌≡◌, Bool, true, false, List, [], ◌∷◌, Ok, Err, vec_items, refl, arith}
use Rattle.std.specs.Result.{is_ok}
use Rattle.std.specs.List.{list_all}
use Rattle.routine.specs.Files.{Given, routine_of}
use Rattle.program.specs.declared.tasks.Task.{Task}
use Rattle.program.specs.declared.tasks.Task.TheVariants.{Help, Version, File, Unreadable}
use Rattle.program.specs.declared.standing.Standing.{Standing}
use Rattle.program.specs.declared.standing.Standing.TheVariants.{Accepted, Unaccepted, Unread}
use Rattle.program.specs.Standings.{FileAccepted, task_read, TaskAccepted, AllAccepted, TaskStands, TasksStand, worse, status_by}

file_read : (g : Given) → FileAccepted g → is_ok g ≡ true
file_read (Ok d) h = refl
file_read (Err e) h = absurd h

accepted_read : (t : Task) → TaskAccepted t → task_read t ≡ true
accepted_read Help h = refl
accepted_read Version h = refl
accepted_read (File name bytes) h = file_read (routine_of (vec_items bytes)) h
accepted_read Unreadable h = absurd h

-- tasks that are all accepted were all read
all_read : (ts : List Task) → AllAccepted ts → list_all task_read ts ≡ true
all_read [] h = refl
all_read (t ∷ ts) h = grind (arith, accepted_read t h.0, all_read ts h.1)

-- one task more in front
more_stand : (t : Task) (ts : List Task) (r s : Standing) → TaskStands t r → TasksStand ts s → TasksStand (t ∷ ts) (worse r s)
more_stand t ts Accepted Accepted h k = (h, k)
more_stand t ts Accepted Unaccepted h k = grind (arith, accepted_read t h)
more_stand t ts Accepted Unread h k = tt
more_stand t ts Unaccepted Accepted h k = grind (arith, all_read ts k)
more_stand t ts Unaccepted Unaccepted h k = grind arith
more_stand t ts Unaccepted Unread h k = tt
more_stand t ts Unread s h k = tt

worse_grouped : (w r s : Standing) → worse w (worse r s) ≡ worse (worse w r) s
worse_grouped w r s = elim w as (λ v. worse v (worse r s) ≡ worse (worse v r) s) [
  | Accepted ↦ refl
  | Unaccepted ↦ elim r as (λ v. worse Unaccepted (worse v s) ≡ worse (worse Unaccepted v) s) [
    | Accepted ↦ refl
    | Unaccepted ↦ elim s as (λ v. worse Unaccepted (worse Unaccepted v) ≡ worse (worse Unaccepted Unaccepted) v) [ Accepted ↦ refl | Unaccepted ↦ refl | Unread ↦ refl ]
    | Unread ↦ refl
  ]
  | Unread ↦ refl
]

pub worse_last : (w : Standing) → worse w Accepted ≡ w
worse_last Accepted = refl
worse_last Unaccepted = refl
worse_last Unread = refl

-- what is known of all tasks, by those that are still to be carried out
pub turn : (all left ts : List Task) (w r v : Standing) (t : Task) → left ≡ t ∷ ts → v ≡ worse w r → TaskStands t r → ((s : Standing) → TasksStand left s → TasksStand all (worse w s)) →
    (s : Standing) → TasksStand ts s → TasksStand all (worse v s)
turn all left ts w r v t split is here known s rest =
    let together : TasksStand left (worse r s) = rw split (more_stand t ts r s here rest) in
    rw (is, ← worse_grouped w r s) (known (worse r s) together)

-- tasks were carried out where the status is 0
pub carried : (check : Bool) (w : Standing) (tasks : List Task) → TasksStand tasks w → status_by check w ≡ 0 → list_all task_read tasks ≡ true
carried check Accepted tasks h k = all_read tasks h
carried check Unaccepted tasks h k = h
carried true Unread tasks h k = absurd (omega arith)
carried false Unread tasks h k = absurd (omega arith)

-- and where files are checked, they are accepted
pub accepted : (check : Bool) (w : Standing) (tasks : List Task) → TasksStand tasks w → check ≡ true → status_by check w ≡ 0 → AllAccepted tasks
accepted check Accepted tasks h e k = h
accepted true Unaccepted tasks h e k = absurd (omega arith)
accepted false Unaccepted tasks h e k = absurd (cc)
accepted true Unread tasks h e k = absurd (omega arith)
accepted false Unread tasks h e k = absurd (cc)
