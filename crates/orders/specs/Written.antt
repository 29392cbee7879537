-- Orders of levels as they are written. Assumes nothing.
use Rattle.std.specs.Prelude.{ℕ, List, vec_items}
use Rattle.orders.specs.declared.written.SimpleText.{SimpleText}
use Rattle.orders.specs.declared.written.SimpleText.TheVariants as simple
use Rattle.orders.specs.declared.written.OrderText.{OrderText}
use Rattle.orders.specs.declared.written.OrderText.TheVariants as order

-- an order of a simple kind: its size, and the join bytes of a table
pub data Form : Type 0 where
  chain : ℕ → Form
  compartments : ℕ → Form
  table : ℕ → List ℕ → Form

-- any order: one, or a pair of two
pub data Written : Type 0 where
  one : Form → Written
  pair : Form → Form → Written

-- what the code holds of a simple order
abbrev pub form_of : SimpleText → Form
form_of (simple.Chain levels) = chain levels
form_of (simple.Compartments bits) = compartments bits
form_of (simple.Table levels bytes) = table levels (vec_items bytes)

-- what the code holds of any order
abbrev pub written_of : OrderText → Written
written_of (order.Simple form) = one (form_of form)
written_of (order.Pair first second) = pair (form_of first) (form_of second)
