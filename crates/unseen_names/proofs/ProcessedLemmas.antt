-- Characters that tokens of units come from, one unit after another.
use Rattle.std.proofs.Common.{◌≡◌, ℕ, ◌+◌, Bool, List, take, get_or, slice_get, Some, sym, ap, ◌∙◌}
use Rattle.std.specs.List.{list_any}
use Rattle.std.proofs.lemmas.Option.{slice_get_within, get_or_from_slice_get}
use Rattle.cs_base.specs.Token.{Token}
use Rattle.analysis.specs.Below.unit_steps.Texts.{UnitTextValue}
use Rattle.analysis.specs.Below.scope_bind.declared.bound.Name.{Name}
use Rattle.analysis.specs.Analysis.{UnitAnalysis}
use Rattle.unseen_names.specs.declared.names.Group.{Group}
use Rattle.unseen_names.specs.Characters.{Adds}
use Rattle.unseen_names.specs.Groups.{in_names, in_unit}
use Rattle.unseen_names.specs.Unseen.{comes_from, is_in_unit}
use Rattle.unseen_names.proofs.CharacterLemmas.{adds_more, adds_same}

module _ (units : List UnitAnalysis) (k : ℕ) (u : UnitAnalysis) (at : slice_get units k ≡ Some u) (old mid new : List (List Bool)) where
  -- one unit more, of which these are the tokens
  pub unit_more : (text : UnitTextValue) (toks : List Token) → u.text ≡ text → toks ≡ text.toks
      → Adds (λ p. list_any (is_in_unit p) (take k units)) old mid → Adds (λ p. list_any (comes_from p) toks) mid new
      → Adds (λ p. list_any (is_in_unit p) (take (k + 1) units)) old new
  unit_more text toks same are before here =
      let toks-are : u.text.toks ≡ toks = ap (λ (t : UnitTextValue). t.toks) same ∙ sym are in
      adds_more (λ p v. is_in_unit p v) units k u old mid new (slice_get_within units k u at) before
      (adds_same (λ p. list_any (comes_from p) toks) (λ p. is_in_unit p (get_or units k u)) mid new here
      (λ p. sym (ap (is_in_unit p) (get_or_from_slice_get units k u u at) ∙ ap (list_any (comes_from p)) toks-are)))

  -- one unit more, of which these are the text and the names
  pub names_more : (g : Group) (text : UnitTextValue) (names : List Name) → u.text ≡ text → u.bound.names ≡ names
      → Adds (λ p. list_any (in_unit g p) (take k units)) old mid → Adds (λ p. in_names g p text names) mid new
      → Adds (λ p. list_any (in_unit g p) (take (k + 1) units)) old new
  names_more g text names same are before here =
      adds_more (λ p v. in_unit g p v) units k u old mid new (slice_get_within units k u at) before
      (adds_same (λ p. in_names g p text names) (λ p. in_unit g p (get_or units k u)) mid new here
      (λ p. sym (ap (in_unit g p) (get_or_from_slice_get units k u u at) ∙ ap (λ (t : UnitTextValue). in_names g p t u.bound.names) same
      ∙ ap (in_names g p text) are)))
