-- The names that are read as no typedef names, though they are uses of nothing, are the bare names of the tree.
use Rattle.std.proofs.Common.{ℕ, ◌+◌, ◌≡◌, Bool, true, false, ◌&&◌, if◌then◌else◌, ◌==◌, ◌%◌, List, [], ◌∷◌, ◌++◌, inl, inr, refl, ap, subst, arith}
use Rattle.std.proofs.lemmas.Bool.{eqb-true, eq-eqb, and_parts, false≢true}
use Rattle.c99_grammar.specs.declared.dialects.Edition.{Edition}
use Rattle.cs_base.specs.Token.{Token}
use Rattle.c99_tree.specs.Tree.{Forest, none, token, node}
use Rattle.c99_tree.specs.declared.production.Label.{Label}
use Rattle.c99_tree.specs.declared.production.Production.TheVariants.{Params, Pdirect}
use Rattle.c99_tree.specs.contracts.production.ProductionPartialEq.TheImpl.{ghosts}
use Rattle.c99_tree.specs.declared.production.Production.{Production}
use Rattle.c99_grammar.specs.Standard.{iso}
use Rattle.c99_read.specs.State.{base_at, is_identifier}
use Rattle.c_types.specs.Trees.{is_at}
use Rattle.c_types.specs.Lists.{odd_tokens, even_tokens, name_in, bare_at, bare_in}
use Rattle.tree_laws.proofs.Lookups.{In}
use Rattle.renamed_tree_laws.specs.Loose.{is_enclosed, AllLoose}
use Rattle.renamed_tree_laws.proofs.LooseNames.{more_in}

abbrev pub Each : (ℕ → Type 0) → List ℕ → Type 0
Each P xs = (x : ℕ) → In x xs → P x

in_first : (x : ℕ) (xs ys : List ℕ) → In x xs → In x (xs ++ ys)
in_first x [] ys w = absurd w
in_first x (y ∷ xs) ys (inl s) = inl s
in_first x (y ∷ xs) ys (inr w) = inr (in_first x xs ys w)

odd_next : (k : ℕ) → (k % 2 == 0) ≡ true → ((k + 1) % 2 == 1) ≡ true
odd_next k h = eq-eqb ((k + 1) % 2) 1 (let e : k % 2 ≡ 0 = eqb-true (k % 2) 0 h in omega (arith, e))

no_list : (p : Production) → ghosts.eq p Pdirect ≡ true → ghosts.eq p Params ≡ false
no_list Params h = absurd (false≢true h)
no_list _ h = refl

module _ (std : Edition) where
  -- each name directly behind the parenthesis that begins a parameter's declarator is the declared name there
  abbrev pub Encloses : List Token → Forest → Type 0
  Encloses toks none = Unit {0}
  Encloses toks (token i rest) = Encloses toks rest
  Encloses toks (node m first under rest) = (is_enclosed std toks m first ≡ true → name_in under ≡ (first + 1) ∷ []) × (Encloses toks under × Encloses toks rest)

  module _ (toks : List Token) (P : ℕ → Type 0) where
    odd_here : (c : Bool) (i : ℕ) (xs : List ℕ) → c ≡ true → Each P (if c then i ∷ xs else xs) → P i
    odd_here true i xs e all = all i (inl refl)
    odd_here false i xs e all = absurd (false≢true e)

    odd_later : (c : Bool) (i : ℕ) (xs : List ℕ) → Each P (if c then i ∷ xs else xs) → Each P xs
    odd_later true i xs all = λ x w. all x (inr w)
    odd_later false i xs all = all

    listed_at : (l : Label) (under : Forest) → Each P (bare_at l under) → is_at l Params 1 ≡ true → Each P (odd_tokens 1 under)
    listed_at l under all h = subst (λ c. Each P (if c then even_tokens under else (if is_at l Pdirect 2 then name_in under else []))) h all

    enclosed_at : (l : Label) (first : ℕ) (under : Forest) → Each P (bare_at l under) → (is_enclosed std toks l first ≡ true → name_in under ≡ (first + 1) ∷ [])
        → is_enclosed std toks l first ≡ true → P (first + 1)
    enclosed_at l first under all named h =
        let at : is_at l Pdirect 2 ≡ true = (and_parts (is_at l Pdirect 2) (is_identifier (base_at (iso std) toks (first + 1))) h).0 in
        let other : is_at l Params 1 ≡ false = ap (λ c. c && (l.alternative == 1)) (no_list l.production ((and_parts (ghosts.eq l.production Pdirect) (l.alternative == 2) at).0)) in
        let names : Each P (if is_at l Pdirect 2 then name_in under else []) =
        subst (λ c. Each P (if c then even_tokens under else (if is_at l Pdirect 2 then name_in under else []))) other all in
        let here : Each P (name_in under) = subst (λ c. Each P (if c then name_in under else [])) at names in
        subst (λ xs. Each P xs) (named h) here (first + 1) (inl refl)

    pub loose_of_bare : (f : Forest) (l : Label) (k : ℕ) → Encloses toks f → Each P (bare_in f) → (is_at l Params 1 ≡ true → Each P (odd_tokens (k + 1) f)) → AllLoose std toks P l k f
    loose_of_bare none l k e all listed = tt
    loose_of_bare (token i rest) l k e all listed = (
      λ h. odd_here ((k + 1) % 2 == 1) i (odd_tokens ((k + 1) + 1) rest) (odd_next k ((and_parts (is_at l Params 1) (k % 2 == 0) h).1))
          (listed ((and_parts (is_at l Params 1) (k % 2 == 0) h).0)),
      loose_of_bare rest l (k + 1) e all (λ h. odd_later ((k + 1) % 2 == 1) i (odd_tokens ((k + 1) + 1) rest) (listed h)),
    )
    loose_of_bare (node m first under rest) l k e all listed =
        let own : Each P (bare_at m under) = (λ x w. all x (in_first x (bare_at m under ++ bare_in under) (bare_in rest) (in_first x (bare_at m under) (bare_in under) w))) in
        let below : Each P (bare_in under) = (λ x w. all x (in_first x (bare_at m under ++ bare_in under) (bare_in rest) (more_in x (bare_at m under) (bare_in under) w))) in
        let later : Each P (bare_in rest) = (λ x w. all x (more_in x (bare_at m under ++ bare_in under) (bare_in rest) w)) in (
          enclosed_at m first under own e.0,
          (loose_of_bare under m 0 e.1.0 below (λ h. listed_at m under own h), loose_of_bare rest l (k + 1) e.1.1 later listed),
        )
