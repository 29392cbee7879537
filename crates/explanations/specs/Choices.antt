-- What an explanation chooses to speak of. Assumes nothing.
use Rattle.std.specs.Prelude.{ℕ, ◌+◌, Bool, cond, not, ◌&&◌, Some, None, Option, ◌==◌, nat_lt}
use Rattle.words.specs.declared.fault.WordFault.TheVariants.{Length, Undecodable}
use Rattle.words.specs.declared.route.Route.{Route}
use Rattle.words.specs.declared.route.Route.TheVariants as route
use Rattle.secrecy.specs.Rows.{Rows}
use Rattle.secrecy.specs.Rules.{bare_outside, joins_in_listing, function_in_listing, bare_finish, keeps_function}
use Rattle.judge.specs.declared.faults.RowFault.{RowFault}
use Rattle.judge.specs.declared.faults.RowFault.TheVariants.{Count, NotHeld, Shape}
use Rattle.judge.specs.declared.faults.FlowFault.{FlowFault}
use Rattle.judge.specs.declared.faults.FlowFault.TheVariants.{Inside, Bounds, Deciding, Time, Level}
use Rattle.judge.specs.declared.faults.JudgeFault.{JudgeFault}
use Rattle.judge.specs.declared.faults.JudgeFault.TheVariants.{Words, Rows as OfRows, Flow}
use Rattle.explanations.specs.declared.choices.ShapePart.{ShapePart}
use Rattle.explanations.specs.declared.choices.ShapePart.TheVariants as part
use Rattle.explanations.specs.declared.choices.Astray.{Astray}
use Rattle.explanations.specs.declared.choices.Astray.TheVariants as astray

-- which part of its shape a row breaks, the finish row's own first; one that breaks no other does not begin at function 0
abbrev pub broken_part : ℕ → Rows → ℕ → ShapePart
broken_part n R row =
    cond (not (bare_finish n R row)) part.Finish
    (cond (not (bare_outside n R row)) part.Outside
    (cond (not (joins_in_listing n R row)) part.Join
    (cond (not (function_in_listing n R row)) part.Function part.Beginning)))

-- what is wrong with a word that comes next: it is none of the n words, or it has another function
abbrev pub led : ℕ → ℕ → Astray
led n b = cond (nat_lt b n) (astray.OtherFunction b) (astray.Outside b)

-- what is wrong with a word that is called
abbrev pub called : ℕ → ℕ → Astray
called n t = cond (nat_lt t n) (astray.NotFirst t) (astray.Outside t)

-- the word at t is the first of a function
abbrev pub begins_function : ℕ → Rows → ℕ → Bool
begins_function n R t = nat_lt t n && R.function t == t

-- which word the word at a leads to that it should not, by where it leads: the first such one
abbrev pub astray_by : ℕ → Rows → ℕ → Route → Astray
astray_by n R a (route.To t) = led n t
astray_by n R a (route.Jump t) = led n t
astray_by n R a (route.Fork on aside) = led n (cond (keeps_function n R a on) aside on)
astray_by n R a (route.Call t) = cond (begins_function n R t) (led n (a + 1)) (called n t)
astray_by n R a route.Return = led n (a + 1)

-- the word of a fault of the flow
abbrev pub flow_word : FlowFault → ℕ
flow_word (Inside at) = at
flow_word (Bounds at) = at
flow_word (Deciding at) = at
flow_word (Time at next) = at
flow_word (Level at next place) = at

-- the word that a refusal is about
abbrev pub word_of : JudgeFault → Option ℕ
word_of (Words Length) = None
word_of (Words (Undecodable at)) = Some at
word_of (OfRows f) = None
word_of (Flow f) = Some (flow_word f)

-- the row of a fault of rows
abbrev pub faulty_row : RowFault → Option ℕ
faulty_row Count = None
faulty_row (NotHeld row column) = Some row
faulty_row (Shape row) = Some row

-- the row that a refusal is about
abbrev pub row_of : JudgeFault → Option ℕ
row_of (Words f) = None
row_of (OfRows f) = faulty_row f
row_of (Flow f) = Some (flow_word f)

-- the row that a fault of the flow compares with
abbrev pub flow_next : FlowFault → Option ℕ
flow_next (Inside at) = None
flow_next (Bounds at) = None
flow_next (Deciding at) = None
flow_next (Time at next) = Some next
flow_next (Level at next place) = Some next

-- the other row that a refusal is about, the one that comes next
abbrev pub next_row_of : JudgeFault → Option ℕ
next_row_of (Words f) = None
next_row_of (OfRows f) = None
next_row_of (Flow f) = flow_next f
