-- The ordinary names that a part without a body adds: names of its own, which last as long as the scope around it or end in it.
use Rattle.std.proofs.Common.{ℕ, ◌+◌, ◌<◌, ◌≤◌, ◌≡◌, Bool, true, false, ◌&&◌, ◌||◌, not, if◌then◌else◌, ◌==◌, List, Option, None, Some, ◌⊎◌, inl, inr, refl, sym, ap, subst, ◌∙◌, arith}
use Rattle.std.specs.List.{All}
use Rattle.std.specs.Option.{option_map_or}
use Rattle.std.proofs.lemmas.Bool.{false≢true, cases_Bool, and_parts, or_parts}
use Rattle.std.proofs.lemmas.List.Elements.{All-cons}
use Rattle.cs_base.proofs.BoolLemmas.{not_true}
use Rattle.c99_tree.specs.Tree.{Forest, none, token, node}
use Rattle.c99_tree.specs.declared.production.Label.{Label}
use Rattle.c99_tree.specs.declared.production.Production.{Production}
use Rattle.c99_tree.specs.declared.production.Production.TheVariants.{ExtRest, FunBody, InitDecl, Enumerator, Declarator, Params, Param, Pdecl, Suffix, Block, Statement, Sub}
use Rattle.c99_tree.specs.contracts.production.ProductionPartialEq.TheImpl.{ghosts}
use Rattle.c_types.specs.Trees.{is_node, is_list, last_token, name_below, has_name, holds_name}
use Rattle.name_chains.specs.Entering.{inner, is_scoped, scope_in}
use Rattle.scope_bind.specs.Named.{Scope}
use Rattle.tree_laws.specs.TreesOfTexts.{token_count, AreFrom, has_body, has_form, have_forms}
use Rattle.tree_laws.proofs.Outline.{Entry, entry, Outline, added, is_listing, stepped, entries_in, begun, named_entries, in_declaration, in_parameter, entries_after, ended, outlined}
use Rattle.tree_laws.proofs.TokenEnds.{begins_some}
use Rattle.reordered_tree_laws.specs.Adding.{is_adding_token, is_adding_declarator, is_adding_node, has_no_list, within_of, is_adding}
use Rattle.reordered_tree_laws.specs.Premises.{is_scope, is_quiet_child, is_quiet}
use Rattle.reordered_tree_laws.proofs.MovedTrees.{last_at}

-- an entry of the tokens from one on and before another, added in such a scope
pub record IsWithin (lo hi : ℕ) (scope : Scope) (e : Entry) : Type 0 where
  pub above : lo ≤ e.name_at
  pub below : e.name_at < hi
  pub lasts : ((e.depth ≡ scope.depth) × (e.to ≡ scope.to)) ⊎ ((scope.depth < e.depth) × ((lo ≤ e.to) × (e.to ≤ hi)))

pub wider : (lo hi lo' hi' : ℕ) (scope : Scope) (e : Entry) → lo' ≤ lo → hi ≤ hi' → IsWithin lo hi scope e → IsWithin lo' hi' scope e
wider lo hi lo' hi' scope e less more w = record {
  above = omega (arith, less, w.above);
  below = omega (arith, more, w.below);
  lasts = by w.lasts;
}
  where
    by : ((e.depth ≡ scope.depth) × (e.to ≡ scope.to)) ⊎ ((scope.depth < e.depth) × ((lo ≤ e.to) × (e.to ≤ hi)))
        → ((e.depth ≡ scope.depth) × (e.to ≡ scope.to)) ⊎ ((scope.depth < e.depth) × ((lo' ≤ e.to) × (e.to ≤ hi')))
    by (inl a) = inl a
    by (inr a) = inr (a.0, (omega (arith, less, a.1.0), omega (arith, more, a.1.1)))

-- an entry of a scope in this one, which ends with the last of these tokens or behind it, is one that ends here
inner_within : (lo hi to : ℕ) (scope : Scope) (e : Entry) → (1 ≤ hi → lo < hi → (lo ≤ to) × (to ≤ hi)) → IsWithin lo hi (inner scope to) e
    → (scope.depth < e.depth) × IsWithin lo hi scope e
inner_within lo hi to scope e ends w = by w.lasts
  where
    by : ((e.depth ≡ scope.depth + 1) × (e.to ≡ to)) ⊎ ((scope.depth + 1 < e.depth) × ((lo ≤ e.to) × (e.to ≤ hi))) → (scope.depth < e.depth) × IsWithin lo hi scope e
    by (inl a) =
        let at = ends (omega (arith, w.above, w.below)) (omega (arith, w.above, w.below)) in
        let deep : scope.depth < e.depth = omega (arith, a.0) in
        (deep, record { above = w.above; below = w.below; lasts = inr (deep, (omega (arith, a.1, at.0), omega (arith, a.1, at.1))) })
    by (inr a) =
        let deep : scope.depth < e.depth = omega (arith, a.0) in
        (deep, record { above = w.above; below = w.below; lasts = inr (deep, a.1) })

-- ---- Names

token_name : (c : Bool) (j i lo n : ℕ) (o : Option ℕ) → j ≡ lo → (if c then Some j else o) ≡ Some i → (o ≡ Some i → (lo + 1 ≤ i) × (i < lo + 1 + n))
    → (lo ≤ i) × (i < lo + (n + 1))
token_name true j i lo n o a e f = let same : j ≡ i = cc in (omega (arith, same, a), omega (arith, same, a))
token_name false j i lo n o a e f = let r = f e in (omega (arith, r.0), omega (arith, r.1))

node_name : (c : Bool) (i lo n k : ℕ) (o p : Option ℕ) → (if c then o else p) ≡ Some i → (o ≡ Some i → (lo ≤ i) × (i < lo + n)) → (p ≡ Some i → (lo + n ≤ i) × (i < lo + n + k))
    → (lo ≤ i) × (i < lo + (n + k))
node_name true i lo n k o p e f g = let r = f e in (r.0, omega (arith, r.1))
node_name false i lo n k o p e f g = let r = g e in (omega (arith, r.0), omega (arith, r.1))

pub name_in : (l : Label) (f : Forest) (lo i : ℕ) → AreFrom lo f → name_below l f ≡ Some i → (lo ≤ i) × (i < lo + token_count f)
name_in l none lo i a e = absurd cc
name_in l (token j rest) lo i a e = token_name (has_name l) j i lo (token_count rest) (name_below l rest) a.0 e (λ h. name_in l rest (lo + 1) i a.1 h)
name_in l (node m first under rest) lo i a e =
    node_name (holds_name m.production) i lo (token_count under) (token_count rest) (name_below m under) (name_below l rest) e (λ h. name_in m under lo i a.1 h)
    (λ h. name_in l rest (lo + token_count under) i a.2 h)

-- ---- Scopes

ends_last : (under : Forest) (lo : ℕ) → AreFrom lo under → lo < lo + token_count under → (lo ≤ last_token under 0) × (last_token under 0 ≤ lo + token_count under)
ends_last under lo a some = let h = last_at under lo 0 a (omega (arith, some)) in (omega (arith, h, some), omega (arith, h))

ends_behind : (under : Forest) (lo : ℕ) → AreFrom lo under → lo < lo + token_count under → (lo ≤ last_token under 0 + 1) × (last_token under 0 + 1 ≤ lo + token_count under)
ends_behind under lo a some = let h = last_at under lo 0 a (omega (arith, some)) in (omega (arith, h, some), omega (arith, h))

scoped_within : (p : Production) (l : Label) (under : Forest) (lo : ℕ) (s : Scope) (e : Entry) → AreFrom lo under
    → IsWithin lo (lo + token_count under) (scope_in p l under s) e → IsWithin lo (lo + token_count under) s e
scoped_within Block l under lo s e a w = (inner_within lo (lo + token_count under) (last_token under 0) s e (λ x y. ends_last under lo a y) w).1
scoped_within FunBody l under lo s e a w = (inner_within lo (lo + token_count under) (last_token under 0) s e (λ x y. ends_last under lo a y) w).1
scoped_within Suffix l under lo s e a w = by (is_list l) w
  where
    by : (c : Bool) → IsWithin lo (lo + token_count under) (if c then inner s (last_token under 0) else s) e → IsWithin lo (lo + token_count under) s e
    by true v = (inner_within lo (lo + token_count under) (last_token under 0) s e (λ x y. ends_last under lo a y) v).1
    by false v = v
scoped_within Sub l under lo s e a w = (inner_within lo (lo + token_count under) (last_token under 0 + 1) s e (λ x y. ends_behind under lo a y) w).1
scoped_within Statement l under lo s e a w = by (is_scoped l.alternative) w
  where
    by : (c : Bool) → IsWithin lo (lo + token_count under) (if c then inner s (last_token under 0 + 1) else s) e → IsWithin lo (lo + token_count under) s e
    by true v = (inner_within lo (lo + token_count under) (last_token under 0 + 1) s e (λ x y. ends_behind under lo a y) v).1
    by false v = v
scoped_within _ l under lo s e a w = w

-- ---- What a part adds

-- the part has its forms, and no body
pub record IsBodiless (lo : ℕ) (f : Forest) : Type 0 where
  pub from : AreFrom lo f
  pub forms : have_forms f ≡ true
  pub plain : has_body f ≡ false

pub bodiless_token : (lo i : ℕ) (rest : Forest) → IsBodiless lo (token i rest) → IsBodiless (lo + 1) rest
bodiless_token lo i rest b = record { from = b.from.1; forms = b.forms; plain = b.plain }

pub bodiless_under : (lo first : ℕ) (l : Label) (under rest : Forest) → IsBodiless lo (node l first under rest) → IsBodiless lo under
bodiless_under lo first l under rest b = record {
  from = b.from.1;
  forms = (and_parts (have_forms under) (have_forms rest) ((and_parts (has_form l.production under) (have_forms under && have_forms rest) b.forms).1)).0;
  plain = (or_parts (has_body under) (has_body rest) ((or_parts (is_node l FunBody) (has_body under || has_body rest) b.plain).1)).0;
}

pub bodiless_rest : (lo first : ℕ) (l : Label) (under rest : Forest) → IsBodiless lo (node l first under rest) → IsBodiless (lo + token_count under) rest
bodiless_rest lo first l under rest b = record {
  from = b.from.2;
  forms = (and_parts (have_forms under) (have_forms rest) ((and_parts (has_form l.production under) (have_forms under && have_forms rest) b.forms).1)).1;
  plain = (or_parts (has_body under) (has_body rest) ((or_parts (is_node l FunBody) (has_body under || has_body rest) b.plain).1)).1;
}

-- so is a property of entries that each entry of a node has which is declared as the node is left
module _ (P : Entry → Type 0) (o : Outline) (l : Label) (under : Forest) where
  named_all : (name : Option ℕ) (es : List Entry) → ((i : ℕ) → name ≡ Some i → P (entry i o.typedef o.scope.depth (last_token under i + 1) o.scope.to)) → All P es
      → All P (named_entries o name under es)
  named_all None es f h = h
  named_all (Some i) es f h = All-cons P (entry i o.typedef o.scope.depth (last_token under i + 1) o.scope.to) es (f i refl) h

  declaration_all : (p : Production) (es : List Entry)
      → ((i : ℕ) → name_below l under ≡ Some i → P (entry i o.typedef o.scope.depth (last_token under i + 1) o.scope.to)) → All P es → All P (in_declaration p o l under es)
  declaration_all ExtRest es f h = named_all (name_below l under) es f h
  declaration_all InitDecl es f h = named_all (name_below l under) es f h
  declaration_all _ es f h = h

  parameter_all : (p : Production) (es : List Entry)
      → (ghosts.eq p Param ≡ true → (i : ℕ) → name_below l under ≡ Some i → P (entry i o.typedef o.scope.depth (last_token under i + 1) o.scope.to)) → All P es
      → All P (in_parameter p o l under es)
  parameter_all Param es f h = named_all (name_below l under) es (f refl) h
  parameter_all _ es f h = h

pub same_in : (p : Production) (first : ℕ) (under : Forest) (kept : Option ℕ) (depth : ℕ) (es : List Entry) → ghosts.eq p FunBody ≡ false
    → entries_in p first under kept depth es ≡ es
same_in FunBody first under kept depth es e = absurd (false≢true (sym e))
same_in _ first under kept depth es e = refl

module _ (P : Entry → Type 0) where
  after_all : (p : Production) (lo : ℕ) (o : Outline) (l : Label) (under : Forest) (es : List Entry) → AreFrom lo under → has_form p under ≡ true
      → ((e : Entry) → IsWithin lo (lo + token_count under) o.scope e → P e) → All P es → All P (entries_after p lo o l under es)
  after_all Declarator lo o l under es a form f h =
      declaration_all P o l under o.label.production es
      (λ i e. let r = name_in l under lo i a e in f (entry i o.typedef o.scope.depth (last_token under i + 1) o.scope.to) (record { above = r.0; below = r.1; lasts = inl (refl, refl) })) h
  after_all Pdecl lo o l under es a form f h =
      parameter_all P o l under o.label.production es
      (λ q i e. let r = name_in l under lo i a e in f (entry i o.typedef o.scope.depth (last_token under i + 1) o.scope.to) (record { above = r.0; below = r.1; lasts = inl (refl, refl) })) h
  after_all Enumerator lo o l under es a form f h =
      let some : 1 ≤ token_count under = begins_some under form in
      let e : Entry = entry lo false o.scope.depth (last_token under lo + 1) o.scope.to in
      All-cons P e es (f e (record { above = omega arith; below = omega (arith, some); lasts = inl (refl, refl) })) h
  after_all _ lo o l under es a form f h = h

  token_all : (c : Bool) (i : ℕ) (o : Outline) → (c ≡ true → P (entry i false o.scope.depth (i + 1) o.scope.to)) → All P o.entries
      → All P (if c then added o i false i o.entries else o.entries)
  token_all true i o f h = All-cons P (entry i false o.scope.depth (i + 1) o.scope.to) o.entries (f refl) h
  token_all false i o f h = h

  pub within_all : (f : Forest) (lo : ℕ) (o : Outline) → IsBodiless lo f → ((e : Entry) → IsWithin lo (lo + token_count f) o.scope e → P e)
      → All P o.entries → All P (outlined f o).entries
  within_all none lo o b f h = h
  within_all (token i rest) lo o b f h =
      within_all rest (lo + 1) (stepped i o) (bodiless_token lo i rest b)
      (λ e w. f e (wider (lo + 1) (lo + 1 + token_count rest) lo (lo + (token_count rest + 1)) o.scope e (omega arith) (omega arith) w))
      (token_all (is_listing o.label.production o.label.alternative o.nth) i o
      (λ q. f (entry i false o.scope.depth (i + 1) o.scope.to) (record { above = omega (arith, b.from.0); below = omega (arith, b.from.0); lasts = inl (refl, refl) })) h)
  within_all (node l first under rest) lo o b f h =
      let n : ℕ = token_count under in
      let p = or_parts (is_node l FunBody) (has_body under || has_body rest) b.plain in
      let inside : Outline = outlined under (begun l first under o) in
      let form : has_form l.production under ≡ true = (and_parts (has_form l.production under) (have_forms under && have_forms rest) b.forms).0 in
      let near : (e : Entry) → IsWithin lo (lo + n) o.scope e → P e =
      λ e w. f e (wider lo (lo + n) lo (lo + (n + token_count rest)) o.scope e (omega arith) (omega arith) w) in
      let begins : All P (begun l first under o).entries =
      subst (λ (es : List Entry). All P es) (sym (same_in l.production first under o.kept o.scope.depth o.entries p.0)) h in
      let below : All P inside.entries =
      within_all under lo (begun l first under o) (bodiless_under lo first l under rest b) (λ e w. near e (scoped_within l.production l under lo o.scope e b.from.1 w)) begins in
      within_all rest (lo + n) (ended l first under o inside) (bodiless_rest lo first l under rest b)
      (λ e w. f e (wider (lo + n) (lo + n + token_count rest) lo (lo + (n + token_count rest)) o.scope e (omega arith) (omega arith) w))
      (subst (λ (x : ℕ). All P (entries_after l.production x o l under inside.entries)) (sym b.from.0)
      (after_all l.production lo o l under inside.entries b.from.1 form near below))

-- ---- Names that last

-- .. and which may have the range of the scope only if it is one of these names
pub record IsQuietWithin (lasting : ℕ → Bool) (lo hi : ℕ) (scope : Scope) (e : Entry) : Type 0 where
  pub within : IsWithin lo hi scope e
  pub quiet : e.depth ≡ scope.depth → lasting e.name_at ≡ true

plain_scope : (p : Production) (l : Label) (under : Forest) (s : Scope) → is_scope p ≡ false → (ghosts.eq p Suffix && (l.alternative == 2)) ≡ false → is_list l ≡ (ghosts.eq p Suffix && (l.alternative == 2))
    → scope_in p l under s ≡ s
plain_scope Block l under s e h q = absurd (false≢true (sym e))
plain_scope FunBody l under s e h q = absurd (false≢true (sym e))
plain_scope Sub l under s e h q = absurd (false≢true (sym e))
plain_scope Statement l under s e h q = absurd (false≢true (sym e))
plain_scope Suffix l under s e h q = ap (λ c. if c then inner s (last_token under 0) else s) (q ∙ h)
plain_scope _ l under s e h q = refl

list_scope : (p : Production) (l : Label) (under : Forest) (s : Scope) → (ghosts.eq p Suffix && (l.alternative == 2)) ≡ true → is_list l ≡ (ghosts.eq p Suffix && (l.alternative == 2))
    → scope_in p l under s ≡ inner s (last_token under 0)
list_scope Suffix l under s h q = ap (λ c. if c then inner s (last_token under 0) else s) (q ∙ h)
list_scope _ l under s h q = absurd (false≢true h)

no_listing : (p : Production) (a k : ℕ) → ghosts.eq p Params ≡ false → is_listing p a k ≡ false
no_listing Params a k e = absurd (false≢true (sym e))
no_listing _ a k e = refl

no_declaration : (p : Production) (within : Bool) (o : Outline) (m : Label) (under : Forest) (es : List Entry) → is_adding_declarator (λ i. true) p within m under ≡ true
    → in_declaration p o m under es ≡ es
no_declaration ExtRest within o m under es e = absurd (false≢true e)
no_declaration InitDecl within o m under es e = absurd (false≢true e)
no_declaration _ within o m under es e = refl

or_then : (c x : Bool) → (not (c && true) || x) ≡ true → c ≡ true → x ≡ true
or_then true x e h = e
or_then false x e h = absurd (false≢true h)

module _ (lasting : ℕ → Bool) where
  module _ (P : Entry → Type 0) (lo : ℕ) (o : Outline) (m : Label) (under : Forest) (es : List Entry) (from : AreFrom lo under)
      (near : (e : Entry) → IsQuietWithin lasting lo (lo + token_count under) o.scope e → P e) (h : All P es) where
    after_quiet : (q : Production) (within : Bool) → is_adding_node (λ i. true) q o.label within m under ≡ true → ghosts.eq q Enumerator ≡ false
        → (not (is_node o.label Param && ghosts.eq q Pdecl) || option_map_or lasting (name_below m under) true) ≡ true → All P (entries_after q lo o m under es)
    after_quiet Declarator within e n last = subst (λ (xs : List Entry). All P xs) (sym (no_declaration o.label.production within o m under es e)) h
    after_quiet Pdecl within e n last =
        parameter_all P o m under o.label.production es
        (λ q i w.
        let r = name_in m under lo i from w in
        let mine : lasting i ≡ true =
        subst (λ (x : Option ℕ). option_map_or lasting x true ≡ true) w (or_then (is_node o.label Param) (option_map_or lasting (name_below m under) true) last q) in
        near (entry i o.typedef o.scope.depth (last_token under i + 1) o.scope.to)
        (record { within = record { above = r.0; below = r.1; lasts = inl (refl, refl) }; quiet = λ d. mine })) h
    after_quiet Enumerator within e n last = absurd (false≢true (sym n))
    after_quiet _ within e n last = h

  pub quiet_all : (P : Entry → Type 0) (f : Forest) (lo : ℕ) (o : Outline) (within : Bool) → IsBodiless lo f → is_adding (λ i. true) within o.label f ≡ true
      → is_quiet lasting o.label f ≡ true → ((e : Entry) → IsQuietWithin lasting lo (lo + token_count f) o.scope e → P e) → All P o.entries
      → All P (outlined f o).entries
  quiet_all P none lo o within b add e f h = h
  quiet_all P (token i rest) lo o within b add e f h =
      let p = and_parts (not (is_node o.label Params)) (is_quiet lasting o.label rest) e in
      quiet_all P rest (lo + 1) (stepped i o) within (bodiless_token lo i rest b) ((and_parts (is_adding_token (λ i. true) o.label.production) (is_adding (λ i. true) within o.label rest) add).1) p.1
      (λ x w.
      f x (record {
        within = wider (lo + 1) (lo + 1 + token_count rest) lo (lo + (token_count rest + 1)) o.scope x (omega arith) (omega arith) w.within;
        quiet = w.quiet;
      }))
      (token_all P (is_listing o.label.production o.label.alternative o.nth) i o
      (λ q. absurd (false≢true (sym (no_listing o.label.production o.label.alternative o.nth (not_true (is_node o.label Params) p.0)) ∙ q))) h)
  quiet_all P (node m first under rest) lo o within b add e f h =
      let n : ℕ = token_count under in
      let a1 = and_parts (is_adding_node (λ i. true) m.production o.label within m under)
      (has_no_list m under && (is_adding (λ i. true) (within_of m.production within) m under && is_adding (λ i. true) within o.label rest)) add in
      let a2 = and_parts (has_no_list m under) (is_adding (λ i. true) (within_of m.production within) m under && is_adding (λ i. true) within o.label rest) a1.1 in
      let a3 = and_parts (is_adding (λ i. true) (within_of m.production within) m under) (is_adding (λ i. true) within o.label rest) a2.1 in
      let q1 = and_parts (is_quiet_child lasting o.label m under) ((is_list m || is_quiet lasting m under) && is_quiet lasting o.label rest) e in
      let q2 = and_parts (is_list m || is_quiet lasting m under) (is_quiet lasting o.label rest) q1.1 in
      let c1 = and_parts (not (is_node m Enumerator))
      (not (is_scope m.production) && (not (is_node o.label Param && is_node m Pdecl) || option_map_or lasting (name_below m under) true)) q1.0 in
      let c2 = and_parts (not (is_scope m.production)) (not (is_node o.label Param && is_node m Pdecl) || option_map_or lasting (name_below m under) true) c1.1 in
      let p = or_parts (is_node m FunBody) (has_body under || has_body rest) b.plain in
      let start : Outline = begun m first under o in
      let inside : Outline = outlined under start in
      let near : (x : Entry) → IsQuietWithin lasting lo (lo + n) o.scope x → P x =
      λ x w.
      f x (record { within = wider lo (lo + n) lo (lo + (n + token_count rest)) o.scope x (omega arith) (omega arith) w.within; quiet = w.quiet }) in
      let begins : All P start.entries = subst (λ (es : List Entry). All P es) (sym (same_in m.production first under o.kept o.scope.depth o.entries p.0)) h in
      let sub : IsBodiless lo under = bodiless_under lo first m under rest b in
      let below : All P inside.entries = elim (cases_Bool (is_list m)) [
        | inl c ↦
            let deep : scope_in m.production m under o.scope ≡ inner o.scope (last_token under 0) = list_scope m.production m under o.scope c refl in
            within_all P under lo start sub
            (λ x w.
            let r = inner_within lo (lo + n) (last_token under 0) o.scope x (λ y z. ends_last under lo b.from.1 z)
            (subst (λ (s : Scope). IsWithin lo (lo + n) s x) deep w) in
            near x (record { within = r.1; quiet = λ d. absurd (omega (arith, d, r.0)) })) begins
        | inr c ↦
            let same : scope_in m.production m under o.scope ≡ o.scope = plain_scope m.production m under o.scope (not_true (is_scope m.production) c2.0) c refl in
            quiet_all P under lo start (within_of m.production within) sub a3.0 (ap (λ d. d || is_quiet lasting m under) (sym c) ∙ q2.0)
            (λ x w. near x (subst (λ (s : Scope). IsQuietWithin lasting lo (lo + n) s x) same w)) begins
      ] in
      quiet_all P rest (lo + n) (ended m first under o inside) within (bodiless_rest lo first m under rest b) a3.1 q2.1
      (λ x w.
      f x (record {
        within = wider (lo + n) (lo + n + token_count rest) lo (lo + (n + token_count rest)) o.scope x (omega arith) (omega arith) w.within;
        quiet = w.quiet;
      }))
      (subst (λ (x : ℕ). All P (entries_after m.production x o m under inside.entries)) (sym b.from.0)
      (after_quiet P lo o m under inside.entries b.from.1 near below m.production within a1.0 (not_true (is_node m Enumerator) c1.0) c2.1))

-- ---- Parts like items have no body

pub adding_plain : (f : Forest) (within : Bool) (l : Label) → is_adding (λ i. true) within l f ≡ true → has_body f ≡ false
adding_plain none within l e = refl
adding_plain (token i rest) within l e = adding_plain rest within l ((and_parts (is_adding_token (λ i. true) l.production) (is_adding (λ i. true) within l rest) e).1)
adding_plain (node m first under rest) within l e =
    let a1 = and_parts (is_adding_node (λ i. true) m.production l within m under)
    (has_no_list m under && (is_adding (λ i. true) (within_of m.production within) m under && is_adding (λ i. true) within l rest)) e in
    let a2 = and_parts (has_no_list m under) (is_adding (λ i. true) (within_of m.production within) m under && is_adding (λ i. true) within l rest) a1.1 in
    let a3 = and_parts (is_adding (λ i. true) (within_of m.production within) m under) (is_adding (λ i. true) within l rest) a2.1 in
    none_of (is_node m FunBody) (has_body under) (has_body rest) (no_body m.production a1.0) (adding_plain under (within_of m.production within) m a3.0) (adding_plain rest within l a3.1)
  where
    no_body : (p : Production) → is_adding_node (λ i. true) p l within m under ≡ true → ghosts.eq p FunBody ≡ false
    no_body FunBody h = absurd (false≢true h)
    no_body _ h = refl

    none_of : (a b c : Bool) → a ≡ false → b ≡ false → c ≡ false → (a || (b || c)) ≡ false
    none_of true b c f g h = f
    none_of false true c f g h = g
    none_of false false c f g h = h
