-- The keywords of statements, and those of orders. Assumes nothing.
use Rattle.std.specs.Prelude.{ℕ, Bool, cond, List, [], ◌∷◌, Some, None, codes, Option}
use Rattle.std.specs.Str.{bytes_eq}
use Rattle.routine.specs.declared.keywords.Keyword.{Keyword}
use Rattle.routine.specs.declared.keywords.Keyword.TheVariants as keyword
use Rattle.routine.specs.declared.keywords.Kind.{Kind}
use Rattle.routine.specs.declared.keywords.Kind.TheVariants as kind

-- what a token names, by a table of texts
abbrev pub named : {X : Type 0} → List (List ℕ × X) → List ℕ → Option X
named [] token = None
named (entry ∷ table) token = cond (bytes_eq token entry.0) (Some entry.1) (named table token)

-- the keyword of a statement
unfoldable pub keyword_of : List ℕ → Option Keyword
keyword_of =
    named (
    (codes "words", keyword.Words)
    ∷ (codes "order", keyword.Order)
    ∷ (codes "rows", keyword.Rows)
    ∷ (codes "row", keyword.Row)
    ∷ (codes "second", keyword.Second)
    ∷ (codes "judge", keyword.Judge)
    ∷ (codes "fill", keyword.Fill)
    ∷ (codes "pool", keyword.Pool)
    ∷ (codes "remaining", keyword.Remaining)
    ∷ (codes "join", keyword.Join)
    ∷ (codes "clear", keyword.Clear)
    ∷ (codes "put", keyword.Put)
    ∷ (codes "run", keyword.Run)
    ∷ (codes "read", keyword.Read)
    ∷ []
    )

-- the keyword of a simple order
unfoldable pub kind_of : List ℕ → Option Kind
kind_of =
    named (
    (codes "chain", kind.Chain)
    ∷ (codes "compartments", kind.Compartments)
    ∷ (codes "table", kind.Table)
    ∷ []
    )

-- the keyword of an order that is made of two
unfoldable pub names_pair : List ℕ → Bool
names_pair token = bytes_eq token (codes "pair")
