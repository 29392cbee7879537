-- The laws of tokens. Assumes nothing.
use Rattle.std.proofs.Common.{◌≡◌, ℕ, true, List, [], ◌∷◌, ◌++◌, length, refl, arith}
use Rattle.std.specs.List.{prefix_len, AllByRecursion}
use Rattle.std.proofs.lemmas.List.{take_at, drop_at}
use Rattle.std.proofs.lemmas.Grind.{common_steps}
use Rattle.text.specs.Bytes.{newline, blank, semicolon, solid}
use Rattle.text.specs.Cuts.{onto}
use Rattle.text.specs.Tokens.{tokens_of}
use Rattle.text.specs.Laws.{Without, Token, spaced, TokensStand}
use Rattle.text.proofs.Cutting.{taken}
use Rattle.text.proofs.Fronts.{leading_append}

-- one more byte in front of a token
grows : (b : ℕ) (token : List ℕ) → solid b ≡ true → Without blank token → Without semicolon token → Without newline token → Token (b ∷ token)
grows b token e p q r = record { some = omega arith; blanks = grind arith; comments = grind arith; newlines = grind arith }

joins : (b : ℕ) (tokens : List (List ℕ)) → solid b ≡ true → AllByRecursion Token tokens → AllByRecursion Token (onto b tokens)
joins b [] e h = (grows b [] e tt tt tt, tt)
joins b (t ∷ ts) e h = (grows b t e h.0.blanks h.0.comments h.0.newlines, h.1)

each : (line : List ℕ) → AllByRecursion Token (tokens_of line)
unfolding tokens_of
each [] = tt
each (b ∷ bs) = grind (arith, each bs, joins b (tokens_of bs), grows b [])

solids : (token : List ℕ) → Without blank token → Without semicolon token → Without newline token → AllByRecursion (λ b. solid b ≡ true) token
solids [] p q r = tt
solids (b ∷ bs) p q r = grind (arith, solids bs p.1 q.1 r.1)

-- a row of tokens begins with a space
space_first : (tokens : List (List ℕ)) → prefix_len solid (spaced tokens) ≡ 0
space_first [] = refl
space_first (t ∷ ts) = refl

back : (tokens : List (List ℕ)) → AllByRecursion Token tokens → tokens_of (spaced tokens) ≡ tokens
unfolding tokens_of
back [] h = refl
back (t ∷ ts) h =
    let all = solids t h.0.blanks h.0.comments h.0.newlines in
    let reach : prefix_len solid (t ++ spaced ts) ≡ length t = omega (arith, leading_append solid t (spaced ts) all, space_first ts) in
    let here = taken (t ++ spaced ts) (omega (arith, h.0.some)) in
    let later = back ts h.1 in
    grind (arith, common_steps, take_at t (spaced ts) (length t) refl, drop_at t (spaced ts) (length t) refl)

comments : (line comment : List ℕ) → tokens_of (line ++ 59 ∷ comment) ≡ tokens_of line
unfolding tokens_of
comments [] comment = refl
comments (b ∷ []) comment = grind arith
comments (b ∷ c ∷ cs) comment = rw (comments (c ∷ cs) comment)

pub tokens_law : TokensStand
tokens_law = record { each = each; back = back; comments = comments }
