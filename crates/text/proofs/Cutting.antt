-- How the lines of a file and the tokens of a line follow from cuts at the front. Assumes nothing.
use Rattle.std.proofs.Common.{◌≡◌, ℕ, ◌<◌, true, false, List, [], ◌∷◌, length, ⊎_elim, one-add, refl, ap, arith, length-drop}
use Rattle.std.specs.List.{prefix_len}
use Rattle.std.proofs.lemmas.List.Sums.{prefix_len-le-length, prefix_len_passes}
use Rattle.std.proofs.lemmas.List.Folds.{length-prefix_len}
use Rattle.std.proofs.lemmas.Grind.{common_steps}
use Rattle.std.proofs.lemmas.Bool.{not-true, or_parts, cases_Bool, cond_both}
use Rattle.text.specs.Bytes.{newline, in_line, blank, solid}
use Rattle.text.specs.Cuts.{front, behind, onto}
use Rattle.text.specs.Lines.{lines_of, after_line}
use Rattle.text.specs.Tokens.{tokens_of, after_token}
use Rattle.text.proofs.Fronts.{leading_behind}

pub lines_first : (b : ℕ) (bs : List ℕ) → lines_of (b ∷ bs) ≡ front in_line (b ∷ bs) ∷ lines_of (after_line (b ∷ bs))
unfolding lines_of
lines_first b [] = ⊎_elim (λ (e : newline b ≡ true). rw e) (λ (e : newline b ≡ false). rw e) (cases_Bool (newline b))
lines_first b (c ∷ cs) = ⊎_elim (λ (e : newline b ≡ true). rw e) (λ (e : newline b ≡ false). rw (e, one-add (prefix_len in_line (c ∷ cs))) (ap (onto b) (lines_first c cs))) (cases_Bool (newline b))

-- the cut that the cursor of a file makes
pub line_taken : (bs line rest : List ℕ) → 0 < length bs → line ≡ front in_line bs → rest ≡ after_line bs →
    (lines_of bs ≡ line ∷ lines_of rest) × (length rest < length bs)
line_taken [] line rest some cut left = absurd (omega arith)
line_taken (b ∷ bs) line rest some cut left = (
  grind (arith, lines_first b bs),
  omega (arith, ap length left, length-drop 1 (behind in_line (b ∷ bs)), length-drop (prefix_len in_line (b ∷ bs)) (b ∷ bs)),
)

-- blanks before a token do not matter
tokens_skip : (bs : List ℕ) → tokens_of bs ≡ tokens_of (behind blank bs)
unfolding tokens_of
tokens_skip [] = refl
tokens_skip (b ∷ bs) = ⊎_elim (λ (e : blank b ≡ true). rw (e, one-add) (tokens_skip bs)) (λ (e : blank b ≡ false). rw e (rw e)) (cases_Bool (blank b))

not_blank : (b : ℕ) → solid b ≡ true → blank b ≡ false
not_blank b e = (or_parts (blank b) _ (not-true _ e)).0

token_first : (b : ℕ) (bs : List ℕ) → solid b ≡ true → tokens_of (b ∷ bs) ≡ front solid (b ∷ bs) ∷ tokens_of (behind solid (b ∷ bs))
unfolding tokens_of
token_first b [] e = rw (e, not_blank b e)
token_first b (c ∷ cs) e =
    rw (e, not_blank b e, one-add (prefix_len solid (c ∷ cs)))
    (cond_both (solid c) (onto b (tokens_of (c ∷ cs))) ((b ∷ []) ∷ tokens_of (c ∷ cs)) (λ ts. ts ≡ (b ∷ front solid (c ∷ cs)) ∷ tokens_of (behind solid (c ∷ cs)))
    (λ k. ap (onto b) (token_first c cs k))
    (λ k. rw k (rw k)))

pub taken : (bs : List ℕ) → 0 < prefix_len solid bs → tokens_of bs ≡ front solid bs ∷ tokens_of (behind solid bs)
taken [] h = absurd (omega arith)
taken (b ∷ bs) h = token_first b bs (prefix_len_passes solid (b ∷ bs) 0 0 h)

ended : (bs : List ℕ) → prefix_len blank bs ≡ 0 → prefix_len solid bs ≡ 0 → tokens_of bs ≡ []
unfolding tokens_of
ended [] p q = refl
ended (b ∷ bs) p q = grind arith

-- the cut that the cursor of a line makes: past the blanks, the token and what follows it
module _ (bs past token rest : List ℕ) (skipped : past ≡ behind blank bs) (cut : token ≡ front solid past) (left : rest ≡ behind solid past) where
  pub token_rest : rest ≡ after_token bs
  token_rest = grind arith

  token_length : length token ≡ prefix_len solid past
  token_length = grind (arith, length-prefix_len)

  pub token_none : length token ≡ 0 → (tokens_of bs ≡ []) × (tokens_of rest ≡ [])
  token_none h =
      let empty = ended past (grind (arith, leading_behind)) (grind (arith, token_length)) in (grind (arith, tokens_skip), grind (arith, token_length))

  pub token_taken : 0 < length token → (tokens_of bs ≡ token ∷ tokens_of rest) × (length rest < length bs)
  token_taken h = (grind (arith, tokens_skip, taken past, token_length), grind (arith, common_steps, token_length, prefix_len-le-length))
