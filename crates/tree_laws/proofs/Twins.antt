-- Two outlines of one list: with the range that its names have, and with one that holds a later token.
use Rattle.std.proofs.Common.{ℕ, ◌+◌, ◌<◌, ◌≤◌, ◌≡◌, Bool, true, false, ◌&&◌, not, if◌then◌else◌, ◌==◌, ◌⊎◌, inl, inr, List, ◌∷◌, Option, None, Some, nat_lt, refl, sym, ap, subst, ◌∙◌, arith}
use Rattle.std.proofs.lemmas.Bool.{and_left, eq-eqb, ne_eqb, le-ltb, lt-ltb}
use Rattle.c99_tree.specs.Tree.{Forest, none, token, node}
use Rattle.c99_tree.specs.declared.production.Label.{Label}
use Rattle.c99_tree.specs.declared.production.Production.{Production}
use Rattle.c99_tree.specs.declared.production.Production.TheVariants.{ExtRest, FunBody, InitDecl, Specs, Enumerator, Declarator, Param, Pdecl, Block, Suffix, Sub, Statement}
use Rattle.c99_read.specs.State.{declaration}
use Rattle.scope_bind.specs.Named.{Scope}
use Rattle.c_types.specs.Trees.{is_node, is_list, has_mod, last_token, has_name, holds_name, name_below}
use Rattle.name_chains.specs.Entering.{inner, is_scoped, scope_in}
use Rattle.tree_laws.proofs.Outline.{Entry, entry, Outline, added, is_listing, stepped, entries_in, begun, named_entries, in_declaration, in_parameter, entries_after, ended, outlined, is_open}
use Rattle.tree_laws.proofs.Owned.{chosen, is_of, chosen_take, inside_deaf, deeper_closed, Below, last_below, last_until, until_closed}

-- the name of a declarator is one of its tokens
pub name_below_in : (b : ℕ) (l : Label) (f : Forest) (i : ℕ) → Below b f → name_below l f ≡ Some i → i < b
name_below_in b l none i w e = absurd (cc)
name_below_in b l (token j rest) i w e = by (has_name l) e (λ h. name_below_in b l rest i w.1 h)
  where
    by : (c : Bool) → (if c then Some j else name_below l rest) ≡ Some i → (name_below l rest ≡ Some i → i < b) → i < b
    by true h n = let same : j ≡ i = cc in let w_here = w.0 in omega arith
    by false h n = n h
name_below_in b l (node m first under rest) i w e =
    by (holds_name m.production) e (λ h. name_below_in b m under i w.1 h) (λ h. name_below_in b l rest i w.2 h)
  where
    by : (c : Bool) → (if c then name_below m under else name_below l rest) ≡ Some i → (name_below m under ≡ Some i → i < b) → (name_below l rest ≡ Some i → i < b) → i < b
    by true h n n' = n h
    by false h n n' = n' h

-- ---- A node has the scope around it, and adds nothing at its beginning, or begins one that ends with its tokens

abbrev pub IsPlain : Production → Label → Forest → Type 0
IsPlain p l under =
    ((c : Scope) → scope_in p l under c ≡ c)
    × ((first : ℕ) (kept : Option ℕ) (depth : ℕ) (es : List Entry) → entries_in p first under kept depth es ≡ es)

abbrev pub IsInner : Production → Label → Forest → Type 0
IsInner p l under =
    ((c : Scope) → c.depth < (scope_in p l under c).depth) × ((b : ℕ) (c : Scope) → Below b under → 0 < b → (scope_in p l under c).to ≤ b)

until_last : (b : ℕ) (under : Forest) → Below b under → 0 < b → last_token under 0 ≤ b
until_last b under w h = let e = last_below b under 0 w h in omega arith

behind_last : (b : ℕ) (under : Forest) → Below b under → 0 < b → last_token under 0 + 1 ≤ b
behind_last b under w h = let e = last_below b under 0 w h in omega arith

pub scope_kind : (p : Production) (l : Label) (under : Forest) → IsPlain p l under ⊎ IsInner p l under
scope_kind Block l under = inr (λ c. omega arith, λ b c w h. until_last b under w h)
scope_kind FunBody l under = inr (λ c. omega arith, λ b c w h. until_last b under w h)
scope_kind Sub l under = inr (λ c. omega arith, λ b c w h. behind_last b under w h)
scope_kind Suffix l under = by (is_list l) refl
  where
    by : (x : Bool) → is_list l ≡ x → IsPlain Suffix l under ⊎ IsInner Suffix l under
    by true e = inr (
      λ c. subst (λ y. c.depth < (if y then inner c (last_token under 0) else c).depth) (sym e) (omega arith),
      λ b c w h. subst (λ y. (if y then inner c (last_token under 0) else c).to ≤ b) (sym e) (until_last b under w h),
    )
    by false e = inl (λ c. ap (λ y. if y then inner c (last_token under 0) else c) e, λ first kept depth es. refl)
scope_kind Statement l under = by (is_scoped l.alternative) refl
  where
    by : (x : Bool) → is_scoped l.alternative ≡ x → IsPlain Statement l under ⊎ IsInner Statement l under
    by true e = inr (
      λ c. subst (λ y. c.depth < (if y then inner c (last_token under 0 + 1) else c).depth) (sym e) (omega arith),
      λ b c w h. subst (λ y. (if y then inner c (last_token under 0 + 1) else c).to ≤ b) (sym e) (behind_last b under w h),
    )
    by false e = inl (λ c. ap (λ y. if y then inner c (last_token under 0 + 1) else c) e, λ first kept depth es. refl)
scope_kind _ l under = inl (λ c. refl, λ first kept depth es. refl)

-- ---- Twins

abbrev pub under_node : Label → ℕ → Forest → Outline → Outline
under_node l first under o = outlined under (begun l first under o)

module _ (k b : ℕ) (far : b < k) (some_token : 0 < b) (c1 c2 : Scope) (open_ : k < c2.to) where
  -- the names of one scope are those that are shown of the other
  pub record Twins (o1 o2 : Outline) : Type 0 where
    pub label : o1.label ≡ o2.label
    pub nth : o1.nth ≡ o2.nth
    pub typedef : o1.typedef ≡ o2.typedef
    pub scope : o1.scope ≡ c1
    pub far_scope : o2.scope ≡ c2
    pub names : chosen (is_of c1.depth c1.to) o1.entries ≡ chosen (is_open k) o2.entries

  abbrev q1 : Entry → Bool
  q1 = is_of c1.depth c1.to

  abbrev q2 : Entry → Bool
  q2 = is_open k

  own_passes : (i : ℕ) (t : Bool) (from : ℕ) → q1 (entry i t c1.depth from c1.to) ≡ true
  own_passes i t from =
      ap (λ x. x && ((c1.depth == c1.depth) && true)) (eq-eqb c1.to c1.to refl) ∙ ap (λ x. x && true) (eq-eqb c1.depth c1.depth refl)

  far_passes : (i : ℕ) (t : Bool) (from : ℕ) → from ≤ k → q2 (entry i t c2.depth from c2.to) ≡ true
  far_passes i t from h = ap (λ x. not x && nat_lt k c2.to) (le-ltb k from h) ∙ lt-ltb k c2.to open_

  added_twins : (o1 o2 : Outline) → Twins o1 o2 → (i : ℕ) (t : Bool) (last : ℕ) (es1 es2 : List Entry) → last < k
      → chosen q1 es1 ≡ chosen q2 es2 → chosen q1 (added o1 i t last es1) ≡ chosen q2 (added o2 i t last es2)
  added_twins o1 o2 w i t last es1 es2 h m =
      ap (λ (c : Scope). chosen q1 (entry i t c.depth (last + 1) c.to ∷ es1)) w.scope
      ∙ (chosen_take q1 (entry i t c1.depth (last + 1) c1.to) es1 (own_passes i t (last + 1))
      ∙ (ap (λ r. declaration i t ∷ r) m
      ∙ (sym (chosen_take q2 (entry i t c2.depth (last + 1) c2.to) es2 (far_passes i t (last + 1) (omega arith)))
      ∙ sym (ap (λ (c : Scope). chosen q2 (entry i t c.depth (last + 1) c.to ∷ es2)) w.far_scope))))

  named_twins : (o1 o2 : Outline) → Twins o1 o2 → (nb : Option ℕ) (under : Forest) (es1 es2 : List Entry)
      → Below b under → ((i : ℕ) → nb ≡ Some i → i < b) → chosen q1 es1 ≡ chosen q2 es2
      → chosen q1 (named_entries o1 nb under es1) ≡ chosen q2 (named_entries o2 nb under es2)
  named_twins o1 o2 w None under es1 es2 below h m = m
  named_twins o1 o2 w (Some i) under es1 es2 below h m =
      ap (λ t. chosen q1 (added o1 i t (last_token under i) es1)) w.typedef
      ∙ added_twins o1 o2 w i o2.typedef (last_token under i) es1 es2 (let e = last_below b under i below (h i refl) in omega arith) m

  module _ (o1 o2 : Outline) (w : Twins o1 o2) (l : Label) (first : ℕ) (under : Forest) (es1 es2 : List Entry) (m : chosen q1 es1 ≡ chosen q2 es2)
      (begins : first ≤ b) (below : Below b under) where
    named_here : chosen q1 (named_entries o1 (name_below l under) under es1) ≡ chosen q2 (named_entries o2 (name_below l under) under es2)
    named_here = named_twins o1 o2 w (name_below l under) under es1 es2 below (λ i e. name_below_in b l under i below e) m

    declaration_twins : (p : Production) → chosen q1 (in_declaration p o1 l under es1) ≡ chosen q2 (in_declaration p o2 l under es2)
    declaration_twins ExtRest = named_here
    declaration_twins InitDecl = named_here
    declaration_twins _ = m

    parameter_twins : (p : Production) → chosen q1 (in_parameter p o1 l under es1) ≡ chosen q2 (in_parameter p o2 l under es2)
    parameter_twins Param = named_here
    parameter_twins _ = m

    after_twins : (p : Production) → chosen q1 (entries_after p first o1 l under es1) ≡ chosen q2 (entries_after p first o2 l under es2)
    after_twins Declarator =
        ap (λ (x : Label). chosen q1 (in_declaration x.production o1 l under es1)) w.label ∙ declaration_twins o2.label.production
    after_twins Pdecl = ap (λ (x : Label). chosen q1 (in_parameter x.production o1 l under es1)) w.label ∙ parameter_twins o2.label.production
    after_twins Enumerator =
        added_twins o1 o2 w first false (last_token under first) es1 es2 (let e = last_until b under first below begins in omega arith) m
    after_twins _ = m

  token_twins : (i : ℕ) (o1 o2 : Outline) → i < b → Twins o1 o2 → Twins (stepped i o1) (stepped i o2)
  token_twins i o1 o2 h w = record {
    label = w.label;
    nth = ap (λ n. n + 1) w.nth;
    typedef = w.typedef;
    scope = w.scope;
    far_scope = w.far_scope;
    names = ap (λ (x : Label). chosen q1 (if is_listing x.production x.alternative o1.nth then added o1 i false i o1.entries else o1.entries)) w.label
        ∙ (ap (λ n. chosen q1 (if is_listing o2.label.production o2.label.alternative n then added o1 i false i o1.entries else o1.entries)) w.nth
        ∙ by (is_listing o2.label.production o2.label.alternative o2.nth));
  }
    where
      by : (c : Bool) → chosen q1 (if c then added o1 i false i o1.entries else o1.entries) ≡ chosen q2 (if c then added o2 i false i o2.entries else o2.entries)
      by true = added_twins o1 o2 w i false i o1.entries o2.entries (omega arith) w.names
      by false = w.names

  pub outlined_twins : (f : Forest) (o1 o2 : Outline) → Below b f → Twins o1 o2 → Twins (outlined f o1) (outlined f o2)
  outlined_twins none o1 o2 below w = w
  outlined_twins (token i rest) o1 o2 below w = outlined_twins rest (stepped i o1) (stepped i o2) below.1 (token_twins i o1 o2 below.0 w)
  outlined_twins (node l first under rest) o1 o2 below w =
      outlined_twins rest (ended l first under o1 (under_node l first under o1)) (ended l first under o2 (under_node l first under o2)) below.2 (record {
        label = w.label;
        nth = ap (λ n. n + 1) w.nth;
        typedef = ap (λ t. if is_node l Specs then has_mod 1 under else t) w.typedef;
        scope = w.scope;
        far_scope = w.far_scope;
        names = after_twins o1 o2 w l first under (under_node l first under o1).entries (under_node l first under o2).entries
            (by (scope_kind l.production l under) (λ v. (outlined_twins under (begun l first under o1) (begun l first under o2) below.1 v).names)) below.0 below.1 l.production;
      })
    where
      and_right_false : (x y : Bool) → y ≡ false → (x && y) ≡ false
      and_right_false true y e = e
      and_right_false false y e = refl

      by : IsPlain l.production l under ⊎ IsInner l.production l under
          → (Twins (begun l first under o1) (begun l first under o2) → chosen q1 (under_node l first under o1).entries ≡ chosen q2 (under_node l first under o2).entries) → chosen q1 (under_node l first under o1).entries ≡ chosen q2 (under_node l first under o2).entries
      by (inl plain) inside =
          inside (record {
            label = refl;
            nth = refl;
            typedef = w.typedef;
            scope = plain.0 o1.scope ∙ w.scope;
            far_scope = plain.0 o2.scope ∙ w.far_scope;
            names = ap (chosen q1) (plain.1 first o1.kept o1.scope.depth o1.entries) ∙ (w.names ∙ sym (ap (chosen q2) (plain.1 first o2.kept o2.scope.depth o2.entries)));
          })
      by (inr deep) inside =
          inside_deaf q1 (λ c. c1.depth < c.depth)
          (λ c h i t from. and_right_false (c.to == c1.to) ((c.depth == c1.depth) && true) (and_left (c.depth == c1.depth) true (ne_eqb c.depth c1.depth (λ e. omega arith))))
          l first under o1 (deeper_closed c1.depth under) (subst (λ (c : Scope). c.depth < (scope_in l.production l under o1.scope).depth) w.scope (deep.0 o1.scope))
          ∙ (w.names
          ∙ sym (inside_deaf q2 (λ c. c.to ≤ b)
          (λ c h i t from. and_right_false (not (nat_lt k from)) (nat_lt k c.to) (le-ltb k c.to (omega arith)))
          l first under o2 (until_closed b under below.1 some_token) (deep.1 b o2.scope below.1 some_token)))
