-- What the names of a binding tell of the identifiers in the tree, by their places (ISO/IEC 9899:1999, 6.2.1, 6.2.3, 6.4.2.2,
-- 6.5.1, 6.7.2.2, 6.7.2.3 and 6.7.5.3).
use Rattle.std.specs.Prelude.{ℕ, ◌≡◌, ◌⊎◌, Bool, true, false, ◌&&◌, ◌||◌, not, List, [], ◌∷◌, Option, None, Some, IfSome, codes, slice_get, if◌then◌else◌, ◌==◌}
use Rattle.std.specs.Str.{bytes_eq}
use Rattle.cs_base.specs.Token.{Token}
use Rattle.c99_tree.specs.Tree.{Forest, none, token, node}
use Rattle.c99_tree.specs.declared.production.Label.{Label}
use Rattle.c99_tree.specs.declared.production.Production.{Production}
use Rattle.c99_tree.specs.declared.production.Production.TheVariants.{FunBody, Declaration, Specs, Main, SuRest, Members, EnRest, Enumerators, Enumerator, Declarator, Suffix, Params, Param, Pdecl, Primary}
use Rattle.c_types.specs.declared.entity.EntityKind.{EntityKind}
use Rattle.c_types.specs.declared.entity.EntityKind.TheVariants as entity
use Rattle.c_types.specs.Trees.{is_node, has_node, has_mod, name_below}
use Rattle.c_types.specs.Lists.{is_declaring}
use Rattle.c_types.specs.Declarations.{spelling_at, alike, is_typedef_name}
use Rattle.scope_bind.specs.declared.bound.Name.{Name}

-- ---- Kinds

abbrev pub is_tag : EntityKind → Bool
is_tag entity.Tag = true
is_tag _ = false

abbrev pub is_constant : EntityKind → Bool
is_constant entity.Enumerator = true
is_constant _ = false

-- the kinds of ordinary identifiers (6.2.3)
abbrev pub is_ordinary : EntityKind → Bool
is_ordinary entity.Tag = false
is_ordinary entity.Member = false
is_ordinary entity.Label = false
is_ordinary _ = true

-- ---- Parameters

-- the name that a parameter declaration declares
abbrev pub parameter_name : Forest → Option ℕ
parameter_name none = None
parameter_name (token i rest) = parameter_name rest
parameter_name (node l first under rest) = if is_node l Pdecl then name_below l under else parameter_name rest

abbrev pub name_in_list : Label → Forest → Option ℕ
name_in_list l under = if is_node l Param then parameter_name under else None

abbrev pub with_name : Option ℕ → List ℕ → List ℕ
with_name None seen = seen
with_name (Some i) seen = i ∷ seen

-- ---- A token

module _ (names : List Name) where
  -- it is one of the names
  abbrev pub IsName : Name → Type 0
  IsName n = (k : ℕ) × (slice_get names k ≡ Some n)

  -- token i declares an entity of such a kind
  pub record DeclaresAt (is_kind : EntityKind → Bool) (i : ℕ) : Type 0 where
    pub name : Name
    pub is : IsName name
    pub index : name.index ≡ i
    pub declares : name.declares ≡ true
    pub kind : is_kind name.kind ≡ true

  -- it uses an ordinary identifier
  pub record UsesAt (i : ℕ) : Type 0 where
    pub name : Name
    pub is : IsName name
    pub index : name.index ≡ i
    pub uses : name.declares ≡ false
    pub kind : is_ordinary name.kind ≡ true

  -- it declares what another token has declared before
  pub record DeclaresAgain (i : ℕ) : Type 0 where
    pub name : Name
    pub is : IsName name
    pub index : name.index ≡ i
    pub declares : name.declares ≡ true
    pub again : (name.entity == name.index) ≡ false

  -- it declares a typedef name, or what another token has declared before
  pub record IsSlip (i : ℕ) : Type 0 where
    pub name : Name
    pub is : IsName name
    pub index : name.index ≡ i
    pub declares : name.declares ≡ true
    pub slip : (is_typedef_name name.kind || not (name.entity == name.index)) ≡ true

  -- It is a tag: where it declares, it is a name of that kind; and it does so in front of a list in braces.
  pub record TagAt (braces : Bool) (i : ℕ) : Type 0 where
    pub kind : (n : Name) → IsName n → n.index ≡ i → n.declares ≡ true → is_tag n.kind ≡ true
    pub declared : braces ≡ true → DeclaresAt is_tag i

  -- ---- A node

  -- structures, unions and enumerations with a tag (6.7.2.1, 6.7.2.2)
  abbrev pub TagTold : Label → Forest → Type 0
  TagTold m (token i rest) = (m.alternative == 1) ≡ true → TagAt (has_node Members rest || has_node Enumerators rest) i
  TagTold m _ = Unit {0}

  -- a typedef name as a type specifier (6.7.2)
  abbrev pub TypeNameTold : Label → Forest → Type 0
  TypeNameTold m (token i rest) = (m.alternative == 4) ≡ true → UsesAt i
  TypeNameTold m _ = Unit {0}

  -- the declarator of an object, function or typedef name (6.7.5)
  abbrev pub DeclaratorTold : Label → Label → Forest → Type 0
  DeclaratorTold l m under = is_declaring l ≡ true → IfSome (name_below m under) (DeclaresAt is_ordinary)

  -- a parameter with `typedef`, which is a slip (6.7.5.3 paragraph 2)
  abbrev pub ParameterTold : Forest → Type 0
  ParameterTold (node s second specs (node p third under rest)) = (is_node s Specs && is_node p Pdecl) ≡ true → has_mod 1 specs ≡ true → IfSome (name_below p under) IsSlip
  ParameterTold _ = Unit {0}

  module _ (toks : List Token) where
    -- an identifier as an expression (6.5.1), perhaps inside the body of a function
    abbrev pub PrimaryTold : Bool → Label → Forest → Type 0
    PrimaryTold inside m (token i rest) = (m.alternative == 1) ≡ true → ((inside && bytes_eq (spelling_at toks i) (codes "__func__")) ≡ true) ⊎ UsesAt i
    PrimaryTold inside m _ = Unit {0}

    -- ---- Parameters of one list

    -- it is spelled as none of these names, or is declared again
    abbrev pub IsOther : List ℕ → ℕ → Type 0
    IsOther [] j = Unit {0}
    IsOther (i ∷ seen) j = ((alike toks j i ≡ false) ⊎ DeclaresAgain j) × IsOther seen j

    -- so it is with each parameter, where these stand in front of them
    abbrev pub AreOthers : List ℕ → Forest → Type 0
    AreOthers seen none = Unit {0}
    AreOthers seen (token i rest) = AreOthers seen rest
    AreOthers seen (node l first under rest) =
        IfSome (name_in_list l under) (IsOther seen) × AreOthers (with_name (name_in_list l under) seen) rest

    -- a parameter list in its parentheses
    abbrev pub ListTold : Label → Forest → Type 0
    ListTold m (token i (node p second under (token j none))) = ((m.alternative == 2) && is_node p Params) ≡ true → AreOthers [] under
    ListTold m _ = Unit {0}

    -- ---- The tree

    -- node m stands in node l
    abbrev pub NodeTold : Production → Bool → Label → Label → ℕ → Forest → Type 0
    NodeTold SuRest inside l m first under = TagTold m under
    NodeTold EnRest inside l m first under = TagTold m under
    NodeTold Enumerator inside l m first under = DeclaresAt is_constant first
    NodeTold Primary inside l m first under = PrimaryTold inside m under
    NodeTold Main inside l m first under = TypeNameTold m under
    NodeTold Declarator inside l m first under = DeclaratorTold l m under
    NodeTold Param inside l m first under = ParameterTold under × IfSome (parameter_name under) (DeclaresAt (λ k. true))
    NodeTold Suffix inside l m first under = ListTold m under
    NodeTold _ inside l m first under = Unit {0}

    -- below some children of node l: perhaps in the body of a function, and among the declarations of its parameters (6.9.1)
    abbrev pub AreTold : Bool → Bool → Label → Forest → Type 0
    AreTold body listing l none = Unit {0}
    AreTold body listing l (token i rest) = AreTold body listing l rest
    AreTold body listing l (node m first under rest) =
        NodeTold m.production ((is_node m FunBody || body) && not (if is_node m Declaration then is_node l FunBody else listing)) l m first under
        × AreTold (is_node m FunBody || body) (if is_node m Declaration then is_node l FunBody else listing) m under
        × AreTold body listing l rest
