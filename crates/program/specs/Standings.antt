-- How files came out, and how the program ends. Assumes nothing.
use Rattle.std.specs.Prelude.{◌≡◌, ℕ, Bool, true, false, not, ◌&&◌, ◌||◌, List, [], ◌∷◌, Some, None, Ok, Err, Option, vec_items}
use Rattle.std.specs.Result.{is_ok}
use Rattle.std.specs.List.{list_any, list_all}
use Rattle.verdicts.specs.Verdict.{Verdict, Outcome, made, unmade, fine, refused}
use Rattle.levels.specs.Order.{Meaning}
use Rattle.orders.specs.Written.{Written}
use Rattle.orders.specs.Making.{making_written}
use Rattle.judge.specs.Judgement.{judgement_of}
use Rattle.routine.specs.declared.steps.Step.{Step}
use Rattle.routine.specs.declared.steps.Step.TheVariants as step
use Rattle.routine.specs.Routines.{Draft}
use Rattle.routine.specs.Files.{Given, routine_of}
use Rattle.program.specs.Makings.{before_making, from_making, MadeUnder}
use Rattle.program.specs.declared.judging.Judged.{Judged}
use Rattle.program.specs.declared.judging.Judged.TheVariants as judged
use Rattle.program.specs.declared.tasks.Task.{Task}
use Rattle.program.specs.declared.tasks.Task.TheVariants.{Help, Version, File, Unreadable}
use Rattle.program.specs.declared.standing.Standing.{Standing}
use Rattle.program.specs.declared.standing.Standing.TheVariants.{Accepted, Unaccepted, Unread}

-- a step judges
abbrev pub judges : Step → Bool
judges step.Judge = true
judges step.Fill = false
judges step.Pool = false
judges step.Remaining = false
judges (step.Join first second) = false
judges (step.Call call) = false

-- all rules are kept
abbrev pub keeps : Verdict → Bool
keeps fine = true
keeps (refused r) = false

-- what an order means, if it was made
abbrev pub meaning_made : Outcome Meaning → Option Meaning
meaning_made (made m) = Some m
meaning_made (unmade r) = None

-- what the order that is named means, if one is named and made
abbrev pub named_meaning : Option Written → Option Meaning
named_meaning None = None
named_meaning (Some w) = meaning_made (making_written w)

-- words and rows are accepted, if there is an order
abbrev pub accepted_under : Option Meaning → List ℕ → List ℕ → Bool
accepted_under None ws rows = false
accepted_under (Some m) ws rows = keeps (judgement_of m ws rows)

-- A routine asks for a judgement, and each judgement that it asks for is acceptance: one before any step that makes rows is of the rows
-- that are given, and one behind that of the rows that are made, so that there have to be such.
pub record AcceptedBy (o : Option Meaning) (d : Draft) : Type 0 where
  pub asks : list_any judges d.steps ≡ true
  pub given : list_any judges (before_making d.steps) ≡ true → accepted_under o d.words d.rows.numbers ≡ true
  pub made : list_any judges (from_making d.steps) ≡ true → MadeUnder o d

-- by the order that it names
abbrev pub IsAccepted : Draft → Type 0
IsAccepted d = AcceptedBy (named_meaning d.order) d

-- what came of judging the rows that are given goes with the routine
abbrev pub JudgedOf : Option Meaning → Draft → Judged → Type 0
JudgedOf o d judged.Unasked = list_any judges (before_making d.steps) ≡ false
JudgedOf o d judged.Orderless = (list_any judges (before_making d.steps) ≡ true) × (accepted_under o d.words d.rows.numbers ≡ false)
JudgedOf o d (judged.Refused f) = (list_any judges (before_making d.steps) ≡ true) × (accepted_under o d.words d.rows.numbers ≡ false)
JudgedOf o d judged.Accepted = (list_any judges (before_making d.steps) ≡ true) × (accepted_under o d.words d.rows.numbers ≡ true)

-- Whether each judgement that is asked for is acceptance, by what came of judging the given rows, whether a judgement of rows that are
-- made is asked for, and whether there are such that are accepted: one at least has to be asked for.
abbrev pub comes_out : Judged → Bool → Bool → Bool
comes_out judged.Unasked asks_made is_made = asks_made && is_made
comes_out judged.Orderless asks_made is_made = false
comes_out (judged.Refused f) asks_made is_made = false
comes_out judged.Accepted asks_made is_made = not asks_made || is_made

-- how a routine comes out tells whether it is accepted
abbrev pub Tells : Type 0 → Standing → Type 0
Tells accepted Accepted = accepted
Tells accepted Unaccepted = accepted → ⊥
Tells accepted Unread = ⊥

-- a file is a routine that is accepted
abbrev pub FileAccepted : Given → Type 0
FileAccepted (Ok d) = IsAccepted d
FileAccepted (Err wrong) = ⊥

-- what the words of a command line name, loaded: a file that was read is its bytes
abbrev pub task_read : Task → Bool
task_read Help = true
task_read Version = true
task_read (File name bytes) = is_ok (routine_of (vec_items bytes))
task_read Unreadable = false

-- and it is accepted; help and version have nothing that could be refused
abbrev pub TaskAccepted : Task → Type 0
TaskAccepted Help = Unit {0}
TaskAccepted Version = Unit {0}
TaskAccepted (File name bytes) = FileAccepted (routine_of (vec_items bytes))
TaskAccepted Unreadable = ⊥

-- and so is each of several
abbrev pub AllAccepted : List Task → Type 0
AllAccepted [] = Unit {0}
AllAccepted (task ∷ tasks) = TaskAccepted task × AllAccepted tasks

-- what is known of something, by how it came out; memory may run out, so that of a file that was not carried out nothing is
abbrev pub Stands : Bool → Type 0 → Standing → Type 0
Stands read accepted Accepted = accepted
Stands read accepted Unaccepted = read ≡ true
Stands read accepted Unread = Unit {0}

-- of a file
abbrev pub FileStands : List ℕ → Standing → Type 0
FileStands file s = Stands (is_ok (routine_of file)) (FileAccepted (routine_of file)) s

-- of one task
abbrev pub TaskStands : Task → Standing → Type 0
TaskStands task s = Stands (task_read task) (TaskAccepted task) s

-- of several tasks, by the one that came out worst
abbrev pub TasksStand : List Task → Standing → Type 0
TasksStand tasks s = Stands (list_all task_read tasks) (AllAccepted tasks) s

-- of two ways to come out the worse one
abbrev pub worse : Standing → Standing → Standing
worse Accepted other = other
worse Unaccepted Accepted = Unaccepted
worse Unaccepted Unaccepted = Unaccepted
worse Unaccepted Unread = Unread
worse Unread other = Unread

-- The exit status of files that are checked: 2 where one was not carried out, else 1 where one is not accepted, and 0 where each is.
-- Of files that are not checked: 1 where one was not carried out, and else 0.
abbrev pub status_by : Bool → Standing → ℕ
status_by true Accepted = 0
status_by true Unaccepted = 1
status_by true Unread = 2
status_by false Accepted = 0
status_by false Unaccepted = 0
status_by false Unread = 1
