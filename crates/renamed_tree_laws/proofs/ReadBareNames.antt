-- The loose names of a tree that is read are the bare names of its binding.
use Rattle.std.proofs.Common.{ℕ, suc, ◌≡◌, List, [], ◌∷◌, Some, Ok, slice_get, inl, inr, ap, subst}
use Rattle.std.specs.List.{Contains}
use Rattle.std.proofs.lemmas.Option.{slice_get_within, get_or_from_slice_get}
use Rattle.std.proofs.lemmas.Bool.{false≢true}
use Rattle.c99_grammar.specs.declared.dialects.Edition.{Edition}
use Rattle.cs_base.specs.Token.{Token}
use Rattle.c99_tree.specs.Tree.{Node}
use Rattle.c99_read.specs.Reading.{read_of}
use Rattle.c99_grammar.specs.Standard.{iso}
use Rattle.c_types.specs.Declarations.{Facts}
use Rattle.name_chains.specs.Frames.{outermost}
use Rattle.c_types.specs.Lists.{bare_in}
use Rattle.scope_bind.specs.Bound.{Bound, facts_of, binding_of}
use Rattle.tree_laws.proofs.HeldNames.{bound_is}
use Rattle.renamed_tree_laws.specs.Loose.{AllLoose}
use Rattle.renamed_tree_laws.specs.TreesAlike.{LooseNamesAreBare}
use Rattle.renamed_tree_laws.proofs.BareNames.{Each, loose_of_bare}
use Rattle.renamed_tree_laws.proofs.Enclosing.{read_encloses}

each_got : (P : ℕ → Type 0) (xs : List ℕ) → ((k x : ℕ) → slice_get xs k ≡ Some x → P x) → Each P xs
each_got P [] all x w = absurd w
each_got P (y ∷ xs) all x (inl s) = all 0 x (ap Some s)
each_got P (y ∷ xs) all x (inr w) = each_got P xs (λ k z e. all (suc k) z e) x w

module _ (std : Edition) where
  -- what is so of each bare name is so of each loose name
  abbrev pub BareNamesAreLoose : Type 1
  BareNamesAreLoose =
      (toks : List Token) (tree : Node) (b : Bound) → read_of (iso std) toks ≡ Ok tree → binding_of toks tree ≡ Ok b → (P : ℕ → Type 0)
      → ((k x : ℕ) → slice_get b.bare k ≡ Some x → P x) → AllLoose std toks P (outermost 0).label 0 tree.under

  pub bare_names_are_loose : BareNamesAreLoose
  unfolding binding_of
  bare_names_are_loose toks tree b read e P all =
      let facts : Facts = facts_of toks tree.under in
      let bare : b.bare ≡ bare_in tree.under = ap (λ (x : Bound). x.bare) (bound_is tree.under facts facts.fault b e) in
      (loose_of_bare std) toks P tree.under (outermost 0).label 0 (read_encloses std toks tree read) (subst (Each P) bare (each_got P b.bare all)) (λ h. absurd (false≢true h))

pub loose_are_bare : LooseNamesAreBare
loose_are_bare std toks tree b read e =
    (bare_names_are_loose std) toks tree b read e (Contains b.bare)
    (λ k x at. (k, slice_get_within b.bare k x at, get_or_from_slice_get b.bare k x x at))
