-- The marks of a list, token after token, and parentheses that pair.
use Rattle.std.proofs.Common.{◌≡◌, ℕ, ◌+◌, ◌<◌, ◌≤◌, true, false, List, [], ◌∷◌, ◌++◌, length, get_or, drop, inl, inr, refl, sym, ap, ◌∙◌, arith}
use Rattle.std.specs.Prelude.{if◌then◌else◌}
use Rattle.std.proofs.lemmas.Bool.{cases_Bool}
use Rattle.std.proofs.lemmas.List.{at_drop_more, at_drop_all}
use Rattle.cs_base.specs.Token.{Token}
use Rattle.line_shape.specs.Signs.{is_open, is_close}
use Rattle.macro_rules.specs.Levels.{closes, separates, level_behind}
use Rattle.macro_rules.specs.Lists.{marks_from}

module _ (toks : List Token) (met : List ℕ) (level k : ℕ) where
  here : (t : Token) → k < length toks → t ≡ get_or toks k t → marks_from met level k (drop k toks) ≡ marks_from met level k (t ∷ drop (k + 1) toks)
  here t within is = at_drop_more (marks_from met level k) toks k t within ∙ ap (λ (u : Token). marks_from met level k (u ∷ drop (k + 1) toks)) (sym is)

  pub marks_end : (t : Token) → k < length toks → t ≡ get_or toks k t → closes level t ≡ true → marks_from met level k (drop k toks) ≡ (met ++ k ∷ []) ∷ []
  unfolding marks_from
  marks_end t within is closed = here t within is ∙ rw closed refl

  pub marks_next : (t : Token) → k < length toks → t ≡ get_or toks k t → closes level t ≡ false
      → marks_from met level k (drop k toks) ≡ marks_from (if separates level t then met ++ k ∷ [] else met) (level_behind level t) (k + 1) (drop (k + 1) toks)
  unfolding marks_from
  marks_next t within is on = here t within is ∙ rw on refl

  pub marks_none : length toks ≤ k → marks_from met level k (drop k toks) ≡ []
  unfolding marks_from
  marks_none past = at_drop_all (marks_from met level k) toks k past

pub level_grows : (level : ℕ) (t : Token) → level_behind level t ≤ level + 1
level_grows level t = elim (cases_Bool (is_open t)) [
  | inl opens ↦ rw opens (omega arith)
  | inr other ↦ elim (cases_Bool (is_close t)) [
    | inl shuts ↦ rw (other, shuts) (omega arith)
    | inr stays ↦ rw (other, stays) (omega arith)
  ]
]
