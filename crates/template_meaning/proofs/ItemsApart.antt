-- No parameter of a list asks for the name of another one, and their names differ.
use Rattle.std.proofs.Common.{ℕ, suc, ◌+◌, ◌<◌, ◌≤◌, ◌≡◌, true, false, ◌&&◌, if◌then◌else◌, List, [], ◌∷◌, ◌++◌, length, Option, refl, sym, ap, subst, arith, append_assoc}
use Rattle.std.specs.Prelude.{slice_index_or, ◌==◌, ◌%◌}
use Rattle.std.specs.List.{list_any, remove}
use Rattle.std.proofs.lemmas.Bool.{false≢true, and_parts, eq-eqb}
use Rattle.cs_base.specs.Token.{Token}
use Rattle.cs_base.proofs.BoolLemmas.{if_is}
use Rattle.c99_tree.specs.Tree.{Forest, none, token, node}
use Rattle.c99_tree.specs.declared.production.Label.{Label}
use Rattle.c99_tree.specs.declared.production.Production.TheVariants.{Param}
use Rattle.c_types.specs.Lists.{odd_tokens}
use Rattle.c_types.specs.Parameters.{declared_names}
use Rattle.c_types.specs.Trees.{is_node, name_below}
use Rattle.scope_bind.specs.declared.bound.Name.{Name}
use Rattle.tree_laws.specs.TreesOfTexts.{token_count, AreFrom}
use Rattle.template_rules.specs.ScopeOffences.{is_spelled_as, is_use}
use Rattle.template_meaning.specs.Children.{children}
use Rattle.template_meaning.proofs.Forms.{are_items, are_more, is_end, is_param}
use Rattle.template_meaning.proofs.ItemUses.{IsWithin}
use Rattle.template_meaning.proofs.Counted.{param_node}

-- ---- The tokens of an item, between its separators

module _ (toks : List Token) (names : List Name) (bare : List ℕ) where
  -- token i uses none of these names
  abbrev pub Frees : List (Option ℕ) → ℕ → Type 0
  Frees others i = (list_any (is_spelled_as toks i) others && is_use names bare i) ≡ false

  -- so it is with the tokens of each parameter and the names of the others; these stand in front
  abbrev pub FreeItems : List (Option ℕ) → ℕ → Forest → Type 0
  FreeItems front a none = Unit {0}
  FreeItems front a (token i rest) = FreeItems front (a + 1) rest
  FreeItems front a (node l first under rest) =
      ((i : ℕ) → IsWithin a (a + token_count under) i → Frees (front ++ declared_names rest) i) × FreeItems (front ++ name_below l under ∷ []) (a + token_count under) rest

  -- the separators from one on
  abbrev pub seps : ℕ → ℕ → Forest → ℕ → List ℕ
  seps s0 k f close = s0 ∷ (odd_tokens k f ++ close ∷ [])

  abbrev pub Between : List (Option ℕ) → ℕ → ℕ → Forest → ℕ → Type 0
  Between front s0 k f close =
      (c i : ℕ) → c < length (odd_tokens k f) + 1 → slice_index_or (seps s0 k f close) c 0 < i → i < slice_index_or (seps s0 k f close) (suc c) 0
      → Frees (front ++ remove (declared_names f) c) i

  none_free : (front : List (Option ℕ)) (a : ℕ) (f : Forest) → is_end (children f) ≡ true → FreeItems front a f
  none_free front a none e = tt
  none_free front a (token i rest) e = absurd (false≢true e)
  none_free front a (node l first under rest) e = absurd (false≢true e)

  -- where the tokens of an item end
  next_sep : (k a s0 close : ℕ) (rest : Forest) → are_more true is_param (children rest) ≡ true → (k % 2 ≡ 1) → AreFrom a rest → close ≡ a + token_count rest
      → a ≤ slice_index_or (seps s0 k rest close) 1 0
  next_sep k a s0 close none more odd w ends = omega (arith, ends)
  next_sep k a s0 close (node l first under rest) more odd w ends = absurd (false≢true more)
  next_sep k a s0 close (token i rest) more odd w ends =
      let here : (k % 2 == 1) ≡ true = eq-eqb (k % 2) 1 odd in
      let same : slice_index_or (seps s0 k (token i rest) close) 1 0 ≡ i = ap (λ c. slice_index_or (s0 ∷ ((if c then i ∷ odd_tokens (k + 1) rest else odd_tokens (k + 1) rest) ++ close ∷ [])) 1 0) here in
      omega (arith, same, w.0)

  -- behind an item with this name
  abbrev Beyond : List (Option ℕ) → Option ℕ → ℕ → ℕ → Forest → ℕ → Type 0
  Beyond front x s0 k rest close =
      (c i : ℕ) → c < length (odd_tokens k rest) + 1 → slice_index_or (seps s0 k rest close) c 0 < i → i < slice_index_or (seps s0 k rest close) (suc c) 0
      → Frees (front ++ remove (x ∷ declared_names rest) c) i

  node_free : (l : Label) (first : ℕ) (under rest : Forest) (front : List (Option ℕ)) (k a s0 close : ℕ) → is_param l.production ≡ true → are_more true is_param (children rest) ≡ true → k % 2 ≡ 0
      → AreFrom (a + token_count under) rest → s0 < a → close ≡ a + token_count under + token_count rest → Between front s0 k (node l first under rest) close
      → ((i : ℕ) → IsWithin a (a + token_count under) i → Frees (front ++ declared_names rest) i) × Beyond front (name_below l under) s0 (k + 1) rest close
  node_free l first under rest front k a s0 close param more even w low ends h =
      let is : is_node l Param ≡ true = param_node l.production param in
      let all : declared_names (node l first under rest) ≡ name_below l under ∷ declared_names rest = if_is (is_node l Param) _ _ is in
      let next = next_sep (k + 1) (a + token_count under) s0 close rest more (omega (arith, even)) w ends in (
        λ i within. subst (λ ns. Frees (front ++ remove ns 0) i) all (h 0 i (omega arith) (omega (arith, low, within.0)) (omega (arith, next, within.1))),
        λ c i less from to. subst (λ ns. Frees (front ++ remove ns c) i) all (h c i less from to),
      )

  -- behind a comma
  comma_free : (i m_first : ℕ) (m : Label) (below rest front_ : Forest) (front : List (Option ℕ)) (x : Option ℕ) (k s0 close : ℕ) → front_ ≡ node m m_first below rest → k % 2 ≡ 1
      → Beyond front x s0 k (token i front_) close → Between (front ++ x ∷ []) i (k + 1) front_ close
  comma_free i m_first m below rest g front x k s0 close e odd h c j less from to =
      let here : (k % 2 == 1) ≡ true = eq-eqb (k % 2) 1 odd in
      let odds : odd_tokens k (token i g) ≡ i ∷ odd_tokens (k + 1) g = ap (λ d. if d then i ∷ odd_tokens (k + 1) g else odd_tokens (k + 1) g) here in
      let at : (d : ℕ) → slice_index_or (seps s0 k (token i g) close) (suc d) 0 ≡ slice_index_or (seps i (k + 1) g close) d 0 =
      λ d. ap (λ os. slice_index_or (s0 ∷ (os ++ close ∷ [])) (suc d) 0) odds in
      let many : suc c < length (odd_tokens k (token i g)) + 1 = subst (λ os. suc c < length os + 1) (sym odds) (omega (arith, less)) in
      let free = h (suc c) j many (subst (λ v. v < j) (sym (at c)) from) (subst (λ v. j < v) (sym (at (suc c))) to) in
      subst (λ xs. Frees xs j) (sym (append_assoc front (x ∷ []) (remove (declared_names g) c))) free

  more_free : (rest : Forest) (front : List (Option ℕ)) (x : Option ℕ) (k a s0 close : ℕ) → are_more true is_param (children rest) ≡ true → k % 2 ≡ 1 → AreFrom a rest → close ≡ a + token_count rest
      → Beyond front x s0 k rest close → FreeItems (front ++ x ∷ []) a rest
  more_free none front x k a s0 close more odd w ends h = tt
  more_free (node m second below rest) front x k a s0 close more odd w ends h = absurd (false≢true more)
  more_free (token i none) front x k a s0 close more odd w ends h = absurd (false≢true more)
  more_free (token i (token j rest)) front x k a s0 close more odd w ends h = none_free (front ++ x ∷ []) (a + 1 + 1) rest more
  more_free (token i (node m second below rest)) front x k a s0 close more odd w ends h =
      let parts = and_parts (is_param m.production) (are_more true is_param (children rest)) more in
      let between = comma_free i second m below rest (node m second below rest) front x k s0 close refl odd h in
      let here = node_free m second below rest (front ++ x ∷ []) (k + 1) (a + 1) i close parts.0 parts.1 (omega (arith, odd)) w.1.2 (omega (arith, w.0)) (omega (arith, ends)) between in
      (here.0, more_free rest (front ++ x ∷ []) (name_below m below) (k + 1 + 1) (a + 1 + token_count below) i close parts.1 (omega (arith, odd)) w.1.2 (omega (arith, ends)) here.1)

  pub free_items : (f : Forest) (front : List (Option ℕ)) (k a s0 close : ℕ) → are_items true is_param (children f) ≡ true → k % 2 ≡ 0 → AreFrom a f → s0 < a → close ≡ a + token_count f
      → Between front s0 k f close → FreeItems front a f
  free_items none front k a s0 close items even w low ends h = tt
  free_items (token i rest) front k a s0 close items even w low ends h = absurd (false≢true items)
  free_items (node l first under rest) front k a s0 close items even w low ends h =
      let parts = and_parts (is_param l.production) (are_more true is_param (children rest)) items in
      let here = node_free l first under rest front k a s0 close parts.0 parts.1 even w.2 low (omega (arith, ends)) h in
      (here.0, more_free rest front (name_below l under) (k + 1) (a + token_count under) s0 close parts.1 (omega (arith, even)) w.2 (omega (arith, ends)) here.1)
