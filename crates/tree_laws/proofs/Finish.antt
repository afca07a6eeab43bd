-- Names of a binding, from what is known at its end.
use Rattle.std.proofs.Common.{ℕ, zero, suc, ◌≡◌, ◌==◌, Bool, true, false, not, List, [], ◌∷◌, ◌++◌, length, map, reverse, Option, None, Some, ◌⊎◌, inl, inr, refl, sym, ap, subst, ◌∙◌}
use mathlib.Core.List.{reverse-cons}
use Rattle.std.specs.Prelude.{All, slice_get}
use Rattle.std.specs.Option.{option_map_or}
use Rattle.std.proofs.lemmas.Bool.{false≢true, eqb-true, eq-eqb}
use Rattle.std.proofs.lemmas.Option.{slice_get-get_or, same_Some}
use Rattle.cs_base.specs.Token.{Token}
use Rattle.c99_tree.specs.Tree.{Node}
use Rattle.c_types.specs.declared.entity.EntityKind.{EntityKind}
use Rattle.c_types.specs.declared.entity.EntityKind.TheVariants.{Object, Function, Typedef, Parameter, Enumerator, Tag, Member, Label}
use Rattle.c_types.specs.Declarations.{Facts}
use Rattle.name_chains.specs.Frames.{at_first, outermost}
use Rattle.scope_bind.specs.declared.bound.Name.{Name}
use Rattle.scope_bind.specs.Named.{Declaration, Occurrence}
use Rattle.scope_bind.specs.Bound.{Bound, declaration_at, name_of, names_of, facts_of, binding_of}
use Rattle.tree_laws.specs.TreesOfTexts.{names_pass, IsTreeOf}
use Rattle.tree_laws.specs.BoundNames.{Binds, EachTokenIsOneName}
use Rattle.tree_laws.proofs.HeldNames.{binding_is, bound_names_pass}
use Rattle.tree_laws.proofs.RenamedWalk.{no_fault}
use Rattle.tree_laws.proofs.Lookups.{In, found_in, found_passes, none_passes}
use Rattle.tree_laws.proofs.Unnamed.{is_unnamed}
use Rattle.tree_laws.specs.Told.{is_tag, is_ordinary, IsName, DeclaresAt, UsesAt, TagAt}
use Rattle.tree_laws.specs.ToldNames.{AnonymousBegin}
use Rattle.tree_laws.proofs.Moves.{sort_of, space_sort, name_noted}
use Rattle.tree_laws.proofs.Walking.{Places, walked_moved}
use Rattle.tree_laws.proofs.Sorted.{NoTwice, IsSorted, Sorted, sorted_law}
use Rattle.tree_laws.proofs.Once.{stands, one_noted, other, places, final_once}

-- ---- Kinds

pub sort_tag : (k : EntityKind) → sort_of k ≡ 1 → is_tag k ≡ true
sort_tag Object e = cc
sort_tag Function e = cc
sort_tag Typedef e = cc
sort_tag Parameter e = cc
sort_tag Enumerator e = cc
sort_tag Tag e = refl
sort_tag Member e = cc
sort_tag Label e = cc

pub sort_ordinary : (k : EntityKind) → sort_of k ≡ 0 → is_ordinary k ≡ true
sort_ordinary Object e = refl
sort_ordinary Function e = refl
sort_ordinary Typedef e = refl
sort_ordinary Parameter e = refl
sort_ordinary Enumerator e = refl
sort_ordinary Tag e = cc
sort_ordinary Member e = cc
sort_ordinary Label e = cc

-- ---- What is known at the end

-- no entity is named by the token
abbrev pub NoEntity : List Occurrence → ℕ → Type 0
NoEntity os t = (o : Occurrence) → In o os → o.entity ≡ t → ⊥

pub record IsFinal (F : Facts) : Type 0 where
  pub clean : F.fault ≡ None
  pub once : NoTwice F.occurrences
  pub sorted : IsSorted (NoEntity F.occurrences) F.declared F.occurrences

module _ (F : Facts) (final : IsFinal F) where
  abbrev pub names : List Name
  names = names_of F

  -- an occurrence is a name
  pub is_name : (o : Occurrence) → In o F.occurrences → IsName names (name_of F o)
  is_name o w =
      let s = stands (name_of F) (λ p. refl) o F.occurrences (name_of F o) w in
      (s.0, slice_get-get_or names s.0 (name_of F o) s.1 ∙ ap (λ (n : Name). Some n) s.2)

  in_at : (k : ℕ) (xs : List Name) (n : Name) → slice_get xs k ≡ Some n → In n xs
  in_at k [] n e = absurd cc
  in_at zero (x ∷ xs) n e = inl (same_Some x n e)
  in_at (suc k) (x ∷ xs) n e = inr (in_at k xs n e)

  in_front : (n y : Name) (xs : List Name) → In n (xs ++ y ∷ []) → In n xs ⊎ (y ≡ n)
  in_front n y [] (inl same) = inr same
  in_front n y [] (inr w) = absurd w
  in_front n y (x ∷ xs) (inl same) = inl (inl same)
  in_front n y (x ∷ xs) (inr w) = elim (in_front n y xs w) [ inl v ↦ inl (inr v) | inr same ↦ inr same ]

  in_turned : (n : Name) (xs : List Name) → In n (reverse xs) → In n xs
  in_turned n [] w = w
  in_turned n (x ∷ xs) w = elim (in_front n x (reverse xs) (subst (In n) (reverse-cons x xs) w)) [ inl v ↦ inr (in_turned n xs v) | inr same ↦ inl same ]

  abbrev IsOf : Name → List Occurrence → Type 0
  IsOf n os = (o : Occurrence) × In o os × (name_of F o ≡ n)

  in_mapped : (n : Name) (os : List Occurrence) → In n (map (name_of F) os) → IsOf n os
  in_mapped n [] w = absurd w
  in_mapped n (o ∷ os) (inl same) = (o, inl refl, same)
  in_mapped n (o ∷ os) (inr w) = let r = in_mapped n os w in (r.0, inr r.1, r.2)

  -- a name is an occurrence
  pub is_noted : (n : Name) → IsName names n → IsOf n F.occurrences
  is_noted n s = in_mapped n F.occurrences (in_turned n (map (name_of F) F.occurrences) (in_at s.0 names n s.1))

  -- ---- Kinds of entities

  abbrev pub kind_of : ℕ → EntityKind
  kind_of e = option_map_or (λ (d : Declaration). d.kind) (declaration_at F e) Object

  -- the kind of an entity is that of each declaration that its token is the name of
  pub kind_is : (o : Occurrence) (x : Declaration) → In o F.occurrences → In x F.declared → is_unnamed x.space ≡ false → x.name_at ≡ o.entity → kind_of o.entity ≡ x.kind
  kind_is o x v w named at = by (declaration_at F o.entity) refl
    where
      unnamed_not : (d : Declaration) (c : Bool) → is_unnamed d.space ≡ c → In d F.declared → d.name_at ≡ o.entity → d.kind ≡ x.kind
      unnamed_not d true e i here = absurd (final.sorted.unnamed d i e o v (sym here))
      unnamed_not d false e i here = final.sorted.alone d x i w e named (here ∙ sym at)

      by : (r : Option Declaration) → declaration_at F o.entity ≡ r → option_map_or (λ (d : Declaration). d.kind) r Object ≡ x.kind
      by None e = absurd (false≢true (sym (none_passes (λ (d : Declaration). d.name_at == o.entity) F.declared x e w) ∙ eq-eqb x.name_at o.entity at))
      by (Some d) e =
          unnamed_not d (is_unnamed d.space) refl (found_in (λ (y : Declaration). y.name_at == o.entity) F.declared d e)
          (eqb-true d.name_at o.entity (found_passes (λ (y : Declaration). y.name_at == o.entity) F.declared d e))

  -- .. and it is of the name space in which the entity was found
  pub kind_sort : (o : Occurrence) (d : Declaration) → In o F.occurrences → In d F.declared → is_unnamed d.space ≡ false → o.entity ≡ d.entity
      → sort_of (kind_of o.entity) ≡ space_sort d.space
  kind_sort o d v w named same =
      let x = final.sorted.entities d w named in
      ap sort_of (kind_is o x.0 v x.1.there x.1.named (x.2 ∙ sym same)) ∙ (sym (final.sorted.kinds x.0 x.1.there x.1.named) ∙ x.1.sort)

  -- ---- Names of declarations

  abbrev pub noted_as : Declaration → Occurrence
  noted_as d = name_noted d.name_at d.entity true

  pub declared_in : (d : Declaration) → In d F.declared → is_unnamed d.space ≡ false → In (noted_as d) F.occurrences
  declared_in d w named = final.sorted.noted d w named

  pub declares_at : (d : Declaration) (is_kind : EntityKind → Bool) → In d F.declared → is_unnamed d.space ≡ false → is_kind (kind_of d.entity) ≡ true
      → DeclaresAt names is_kind d.name_at
  declares_at d is_kind w named so = record { name = name_of F (noted_as d); is = is_name (noted_as d) (declared_in d w named); index = refl; declares = refl; kind = so }

  pub uses_at : (i : ℕ) (d : Declaration) → In (name_noted i d.entity false) F.occurrences → In d F.declared → is_unnamed d.space ≡ false → space_sort d.space ≡ 0
      → UsesAt names i
  uses_at i d v w named so = record {
    name = name_of F (name_noted i d.entity false);
    is = is_name (name_noted i d.entity false) v;
    index = refl;
    uses = refl;
    kind = sort_ordinary (kind_of d.entity) (kind_sort (name_noted i d.entity false) d v w named refl ∙ so);
  }

  -- a tag that is declared
  pub tag_declared : (d : Declaration) (braces : Bool) → In d F.declared → is_unnamed d.space ≡ false → space_sort d.space ≡ 1 → TagAt names braces d.name_at
  tag_declared d braces w named so =
      let o : Occurrence = noted_as d in
      let v : In o F.occurrences = declared_in d w named in
      let is : is_tag (kind_of d.entity) ≡ true = sort_tag (kind_of d.entity) (kind_sort o d v w named refl ∙ so) in
      record {
        kind = λ n s at declares.
            let p = is_noted n s in
            let same : p.0 ≡ o = one_noted F.occurrences p.0 o final.once p.1 v (ap (λ (m : Name). m.index) p.2 ∙ at) in
            subst (λ (m : Name). is_tag m.kind ≡ true) p.2 (subst (λ (q : Occurrence). is_tag (kind_of q.entity) ≡ true) (sym same) is);
        declared = λ e. declares_at d is_tag w named is;
      }

  -- .. and one that is used
  pub tag_used : (i e : ℕ) (braces : Bool) → In (name_noted i e false) F.occurrences → braces ≡ false → TagAt names braces i
  tag_used i e braces v no_braces = record {
    kind = λ n s at declares.
        let p = is_noted n s in
        let same : p.0 ≡ name_noted i e false = one_noted F.occurrences p.0 (name_noted i e false) final.once p.1 v (ap (λ (m : Name). m.index) p.2 ∙ at) in
        absurd (false≢true (sym (ap (λ (q : Occurrence). q.declares) same) ∙ (ap (λ (m : Name). m.declares) p.2 ∙ declares)));
    declared = λ has. absurd (false≢true (sym no_braces ∙ has));
  }

-- ---- A text that binds

module _ (names_apart : EachTokenIsOneName) (toks : List Token) (tree : Node) (b : Bound) (t : IsTreeOf (length toks) tree) (begins : AnonymousBegin tree.under) (binds : Binds toks tree b) where
  abbrev pub last : Facts
  last = facts_of toks tree.under

  abbrev pub U : ℕ → Type 0
  U = NoEntity last.occurrences

  no_entity : (i : ℕ) → names_pass (other i) (outermost 0).label 0 tree.under ≡ true → U i
  no_entity i h o w e =
      let P : Name → Type 0 = λ n. (other i n.index ≡ true) × (other i n.entity ≡ true) in
      let all : All P (names_of last) = subst (λ (x : Bound). All P x.names) (binding_is toks tree b binds) (bound_names_pass (other i) toks tree b t h binds) in
      let n : Name = name_of last o in
      let s = stands (name_of last) (λ p. refl) o last.occurrences n w in
      let p : P n = subst P s.2 (all s.0 n s.1) in
      false≢true (sym (ap not (eq-eqb o.entity i e)) ∙ p.1)

  pub final_places : Places U tree.under
  final_places = places U (outermost 0).label 0 tree.under 0 t.tokens begins (λ i a b h. no_entity i h)

  pub first_sorted : Sorted U (at_first (length toks)).facts.declared (at_first (length toks)).facts.occurrences None
  first_sorted u = record {
    kinds = λ d w. absurd w;
    entities = λ d w. absurd w;
    alone = λ d e w. absurd w;
    noted = λ d w. absurd w;
    unnamed = λ d w. absurd w;
  }

  clean_is : last.fault ≡ None
  unfolding binding_of
  clean_is = no_fault tree.under last last.fault b binds

  pub is_final : IsFinal last
  is_final = record {
    clean = clean_is;
    once = final_once names_apart toks tree b t binds;
    sorted = walked_moved toks U (Sorted U) (sorted_law U) tree.under (at_first (length toks)) final_places first_sorted (final_once names_apart toks tree b t binds);
  }
