-- The laws of lines. Assumes nothing.
use Rattle.std.proofs.Common.{arith, ◌≡◌, ℕ, false, List, [], ◌∷◌, ◌++◌, refl, ap, ◌∙◌}
use Rattle.std.specs.List.{AllByRecursion}
use Rattle.text.specs.Bytes.{newline}
use Rattle.text.specs.Cuts.{onto}
use Rattle.text.specs.Lines.{lines_of}
use Rattle.text.specs.Laws.{Without, written, missing, LinesStand}
use Rattle.text.proofs.Cutting.{lines_first}

longer : (b : ℕ) (lines : List (List ℕ)) → newline b ≡ false → AllByRecursion (Without newline) lines → AllByRecursion (Without newline) (onto b lines)
longer b lines e h = grind arith

each : (file : List ℕ) → AllByRecursion (Without newline) (lines_of file)
unfolding lines_of
each [] = tt
each (b ∷ bs) = grind (arith, each bs, longer b (lines_of bs))

back_one : (line rest : List ℕ) → Without newline line → lines_of (line ++ 10 ∷ rest) ≡ line ∷ lines_of rest
unfolding lines_of
back_one [] rest h = refl
back_one (b ∷ bs) rest h = grind (arith, back_one bs rest h.1)

back : (lines : List (List ℕ)) → AllByRecursion (Without newline) lines → lines_of (written lines) ≡ lines
unfolding lines_of
back [] h = refl
back (line ∷ lines) h = back_one line (written lines) h.0 ∙ ap (λ ls. line ∷ ls) (back lines h.1)

again : (file : List ℕ) → written (lines_of file) ≡ file ++ missing file
unfolding lines_of
again [] = refl
again (b ∷ []) = grind arith
again (b ∷ c ∷ cs) = grind (arith, again (c ∷ cs), lines_first c cs)

pub lines_law : LinesStand
lines_law = record { each = each; again = again; back = back }
