-- A walk over the characters of a string literal, which adds the word behind each.
use Rattle.std.proofs.Common.{◌≡◌, ℕ, ◌+◌, ◌<◌, List, ◌++◌, length, drop, sym, ap, ◌∙◌, append_assoc}
use Rattle.std.proofs.lemmas.List.{at_drop_more}
use Rattle.cs_base.specs.declared.positions.Part.{Part}
use Rattle.cs_base.specs.Token.{Token}
use Rattle.unseen_names.specs.Pragmas.{word_behind, words_behind}

module _ (name : List ℕ) (t : Token) (k : ℕ) (within : k < length t.text) where
  words-more : words_behind name t k (drop k t.text)
      ≡ word_behind name t k (drop k t.text) ++ words_behind name t (k + 1) (drop (k + 1) t.text)
  unfolding words_behind
  words-more =
      at_drop_more (words_behind name t k) t.text k 0 within
      ∙ ap (λ (ws : List Part). ws ++ words_behind name t (k + 1) (drop (k + 1) t.text))
      (sym (at_drop_more (word_behind name t k) t.text k 0 within))

  pub words_next : (before now whole : List Part) → before ++ words_behind name t k (drop k t.text) ≡ whole
      → now ≡ before ++ word_behind name t k (drop k t.text) → now ++ words_behind name t (k + 1) (drop (k + 1) t.text) ≡ whole
  words_next before now whole so_far here =
      let one = word_behind name t k (drop k t.text) in
      let rest = words_behind name t (k + 1) (drop (k + 1) t.text) in
      ap (λ (xs : List Part). xs ++ rest) here ∙ append_assoc before one rest
      ∙ ap (λ (xs : List Part). before ++ xs) (sym words-more) ∙ so_far
