-- The steps of the outlines of two texts that go together: a token, a node that is entered, and one that is left.
use Rattle.std.proofs.Common.{ℕ, ◌+◌, ◌≡◌, Bool, true, false, ◌&&◌, not, if◌then◌else◌, List, Option, None, Some, refl, sym, ap, subst, ◌∙◌, arith}
use Rattle.std.specs.Prelude.{nat_lt}
use Rattle.std.specs.Option.{option_map}
use Rattle.std.proofs.lemmas.Bool.{false≢true, eqb-true, ltb-true}
use Rattle.cs_base.specs.Token.{Token}
use Rattle.c99_tree.specs.Tree.{Forest}
use Rattle.c99_tree.specs.declared.production.Label.{Label}
use Rattle.c99_tree.specs.declared.production.Production.{Production}
use Rattle.c99_tree.specs.declared.production.Production.TheVariants.{ExtRest, FunBody, InitDecl, Specs, Enumerator, Declarator, Suffix, Param, Pdecl, Block, Statement, Sub}
use Rattle.c_types.specs.Trees.{is_node, is_list, last_token, name_below, has_mod, first_list}
use Rattle.name_chains.specs.Entering.{inner, is_scoped, scope_in}
use Rattle.scope_bind.specs.Named.{Scope}
use Rattle.tree_laws.proofs.Outline.{Entry, entry, Outline, added, is_listing, token_entries, stepped, entries_in, kept_entries, begun, named_entries, in_declaration, in_parameter, entries_after, ended}
use Rattle.reordered_tree_laws.specs.Premises.{stands_in}
use Rattle.scope_bind.specs.Moved.{AreMovedTexts}
use Rattle.reordered_tree_laws.specs.Moving.{IsAhead}
use Rattle.reordered_tree_laws.proofs.MovedFacts.{further_ahead}
use Rattle.reordered_tree_laws.proofs.MovedTrees.{AreSeenMoved}
use Rattle.reordered_tree_laws.proofs.MovedEntering.{ArePlaced, is_body, last_zero, before_last, before_end}
use Rattle.reordered_tree_laws.proofs.MovedLeaving.{DeclaresAt}
use Rattle.reordered_tree_laws.proofs.Answered.{EntriesGo, EntryGoes, entry_goes, more_go, entries_further, from_first, kept_go}

module _ (m : ℕ → ℕ) (old new : List Token) (law : AreMovedTexts m old new) (level : ℕ) where
  -- scopes of one depth that end alike
  pub record ScopesGo (lo there : ℕ) (a b : Scope) : Type 0 where
    pub depth : b.depth ≡ a.depth
    pub ends : (k : ℕ) → IsAhead m lo there k → nat_lt (m k) b.to ≡ nat_lt k a.to
    pub outer : a.depth ≡ 1 → b.to ≡ m a.to

  -- Outlines that go together; perhaps the list for a body is known.
  pub record OutlinesGo (keeps : Bool) (lo there : ℕ) (o p : Outline) : Type 0 where
    pub label : p.label ≡ o.label
    pub nth : p.nth ≡ o.nth
    pub scope : ScopesGo lo there o.scope p.scope
    pub typedef : p.typedef ≡ o.typedef
    pub kept : keeps ≡ true → p.kept ≡ option_map m o.kept
    pub entries : EntriesGo m old new law level lo there o.entries p.entries

  abbrev Goes : ℕ → ℕ → List Entry → List Entry → Type 0
  Goes lo there es fs = EntriesGo m old new law level lo there es fs

  -- ---- Further on

  pub scopes_further : (lo there hi beyond : ℕ) (a b : Scope) → ((k : ℕ) → IsAhead m hi beyond k → IsAhead m lo there k) → ScopesGo lo there a b
      → ScopesGo hi beyond a b
  scopes_further lo there hi beyond a b ahead s = record { depth = s.depth; ends = λ k v. s.ends k (ahead k v); outer = s.outer }

  pub outlines_at : (keeps : Bool) (lo there hi beyond : ℕ) (o p : Outline) → lo ≡ hi → there ≡ beyond → OutlinesGo keeps lo there o p → OutlinesGo keeps hi beyond o p
  outlines_at keeps lo there hi beyond o p e h k =
      subst (λ (x : ℕ). OutlinesGo keeps x beyond o p) e (subst (λ (x : ℕ). OutlinesGo keeps lo x o p) h k)

  pub unkept : (keeps : Bool) (lo there : ℕ) (o p : Outline) → OutlinesGo keeps lo there o p → OutlinesGo false lo there o p
  unkept keeps lo there o p k = record {
    label = k.label;
    nth = k.nth;
    scope = k.scope;
    typedef = k.typedef;
    kept = λ e. absurd (false≢true e);
    entries = k.entries;
  }

  -- ---- A declaration

  added_go : (lo there i j last last' : ℕ) (t u : Bool) (o p : Outline) (es fs : List Entry) → ScopesGo lo there o.scope p.scope → m i ≡ j → u ≡ t
      → last + 1 ≡ lo → last' + 1 ≡ there → Goes lo there es fs → Goes lo there (added o i t last es) (added p j u last' fs)
  added_go lo there i j last last' t u o p es fs s at same here over k =
      let d : ℕ = o.scope.depth in
      let to : ℕ = o.scope.to in
      let to' : ℕ = p.scope.to in
      let base : EntryGoes m old new law level lo there (entry i t d lo to) (entry (m i) t d there to') =
      entry_goes m old new law level lo there d to to' s.ends s.outer i t in
      let a1 : EntryGoes m old new law level lo there (entry i t d (last + 1) to) (entry (m i) t d there to') =
      subst (λ (x : ℕ). EntryGoes m old new law level lo there (entry i t d x to) (entry (m i) t d there to')) (sym here) base in
      let a2 : EntryGoes m old new law level lo there (entry i t d (last + 1) to) (entry (m i) t d (last' + 1) to') =
      subst (λ (x : ℕ). EntryGoes m old new law level lo there (entry i t d (last + 1) to) (entry (m i) t d x to')) (sym over) a1 in
      let a3 : EntryGoes m old new law level lo there (entry i t d (last + 1) to) (entry (m i) t p.scope.depth (last' + 1) to') =
      subst (λ (x : ℕ). EntryGoes m old new law level lo there (entry i t d (last + 1) to) (entry (m i) t x (last' + 1) to')) (sym s.depth) a2 in
      let a4 : EntryGoes m old new law level lo there (entry i t d (last + 1) to) (entry (m i) u p.scope.depth (last' + 1) to') =
      subst (λ (x : Bool). EntryGoes m old new law level lo there (entry i t d (last + 1) to) (entry (m i) x p.scope.depth (last' + 1) to')) (sym same) a3 in
      let a5 : EntryGoes m old new law level lo there (entry i t d (last + 1) to) (entry j u p.scope.depth (last' + 1) to') =
      subst (λ (x : ℕ). EntryGoes m old new law level lo there (entry i t d (last + 1) to) (entry x u p.scope.depth (last' + 1) to')) at a4 in
      more_go m old new law level lo there (entry i t d (last + 1) to) (entry j u p.scope.depth (last' + 1) to') es fs a5 k

  -- ---- A token

  pub token_steps : (keeps : Bool) (lo there i : ℕ) (o p : Outline) → i ≡ lo → m i ≡ there → OutlinesGo keeps lo there o p
      → OutlinesGo keeps (lo + 1) (there + 1) (stepped i o) (stepped there p)
  token_steps keeps lo there i o p here over k = record {
    label = k.label;
    nth = ap (λ (x : ℕ). x + 1) k.nth;
    scope = scope;
    typedef = k.typedef;
    kept = k.kept;
    entries = subst (λ (c : Bool). Goes (lo + 1) (there + 1) (token_entries i o) (if c then added p there false there p.entries else p.entries)) (sym same)
        (by (is_listing o.label.production o.label.alternative o.nth));
  }
    where
      ahead : (n : ℕ) → IsAhead m (lo + 1) (there + 1) n → IsAhead m lo there n
      ahead n v = further_ahead m old new law lo there (lo + 1) (there + 1) n (omega arith) (omega arith) v

      scope : ScopesGo (lo + 1) (there + 1) o.scope p.scope
      scope = scopes_further lo there (lo + 1) (there + 1) o.scope p.scope ahead k.scope

      entries : Goes (lo + 1) (there + 1) o.entries p.entries
      entries = entries_further m old new law level lo there (lo + 1) (there + 1) o.entries p.entries ahead k.entries

      same : is_listing p.label.production p.label.alternative p.nth ≡ is_listing o.label.production o.label.alternative o.nth
      same = ap (λ (l : Label). is_listing l.production l.alternative p.nth) k.label ∙ ap (λ (n : ℕ). is_listing o.label.production o.label.alternative n) k.nth

      by : (c : Bool) → Goes (lo + 1) (there + 1) (if c then added o i false i o.entries else o.entries) (if c then added p there false there p.entries else p.entries)
      by true =
          added_go (lo + 1) (there + 1) i there i there false false o p o.entries p.entries scope over refl (omega (arith, here)) refl entries
      by false = entries

  -- ---- A node is entered

  module _ (lo there count : ℕ) (outer : Bool) (under over : Forest) (seen : AreSeenMoved m outer under over) (at : ArePlaced m lo there count under over) where
    block_enters : (a b : Scope) → ScopesGo lo there a b → ScopesGo lo there (inner a (last_token under 0)) (inner b (last_token over 0))
    block_enters a b s = record {
      depth = ap (λ (x : ℕ). x + 1) s.depth;
      ends = before_last m old new law lo there count outer under over seen at;
      outer = λ e. last_zero m old new law lo there count outer under over seen at;
    }

    statement_enters : (a b : Scope) → nat_lt 0 a.depth ≡ true → ScopesGo lo there a b → ScopesGo lo there (inner a (last_token under 0 + 1)) (inner b (last_token over 0 + 1))
    statement_enters a b deep s = record {
      depth = ap (λ (x : ℕ). x + 1) s.depth;
      ends = before_end m old new law lo there count outer under over seen at;
      outer = λ e. absurd (omega (arith, e, ltb-true 0 a.depth deep));
    }

    list_by : (c : Bool) (a b : Scope) → ScopesGo lo there a b
        → ScopesGo lo there (if c then inner a (last_token under 0) else a) (if c then inner b (last_token over 0) else b)
    list_by true a b s = block_enters a b s
    list_by false a b s = s

    statement_by : (c : Bool) (a b : Scope) → nat_lt 0 a.depth ≡ true → ScopesGo lo there a b
        → ScopesGo lo there (if c then inner a (last_token under 0 + 1) else a) (if c then inner b (last_token over 0 + 1) else b)
    statement_by true a b deep s = statement_enters a b deep s
    statement_by false a b deep s = s

    scopes_enter : (p : Production) (l : Label) (a b : Scope) → stands_in p a.depth ≡ true → ScopesGo lo there a b
        → ScopesGo lo there (scope_in p l under a) (scope_in p l over b)
    scopes_enter Block l a b e s = block_enters a b s
    scopes_enter FunBody l a b e s = block_enters a b s
    scopes_enter Suffix l a b e s = list_by (is_list l) a b s
    scopes_enter Sub l a b e s = statement_enters a b e s
    scopes_enter Statement l a b e s = statement_by (is_scoped l.alternative) a b e s
    scopes_enter _ l a b e s = s

    entries_enter : (p : Production) (o q : Outline) → stands_in p o.scope.depth ≡ true → ScopesGo lo there o.scope q.scope → Goes lo there o.entries q.entries
        → (is_body p ≡ true → q.kept ≡ option_map m o.kept)
        → Goes lo there (entries_in p lo under o.kept o.scope.depth o.entries) (entries_in p there over q.kept q.scope.depth q.entries)
    entries_enter FunBody o q e s k list =
        let none : o.scope.depth ≡ 0 = eqb-true o.scope.depth 0 e in
        let one : o.scope.depth + 1 ≡ 1 = omega (arith, none) in
        let one' : q.scope.depth + 1 ≡ 1 = omega (arith, none, s.depth) in
        let last : ℕ = last_token under 0 in
        let last' : ℕ = last_token over 0 in
        let lives : (i : ℕ) → IsAhead m lo there i → (not (nat_lt (m i) there) && nat_lt (m i) last') ≡ (not (nat_lt i lo) && nat_lt i last) = λ i v.
        ap (λ b. not b && nat_lt (m i) last') (from_first m old new law level lo there i v)
        ∙ ap (λ b. not (nat_lt i lo) && b) (before_last m old new law lo there count outer under over seen at i v) in
        subst (λ (d : ℕ). Goes lo there (kept_entries o.kept d lo last o.entries) (kept_entries q.kept (q.scope.depth + 1) there last' q.entries)) (sym one)
        (subst (λ (d : ℕ). Goes lo there (kept_entries o.kept 1 lo last o.entries) (kept_entries q.kept d there last' q.entries)) (sym one')
        (kept_go m old new law level lo there o.entries q.entries o.kept q.kept lo last there last' k (list refl) lives
        (last_zero m old new law lo there count outer under over seen at)))
    entries_enter _ o q e s k list = k

    pub begun_goes : (keeps : Bool) (l : Label) (o q : Outline) → stands_in l.production o.scope.depth ≡ true → (is_body l.production ≡ true → keeps ≡ true)
        → OutlinesGo keeps lo there o q → OutlinesGo keeps lo there (begun l lo under o) (begun l there over q)
    begun_goes keeps l o q e body k = record {
      label = refl;
      nth = refl;
      scope = scopes_enter l.production l o.scope q.scope e k.scope;
      typedef = k.typedef;
      kept = k.kept;
      entries = entries_enter l.production o q e k.scope k.entries (λ w. k.kept (body w));
    }

  -- ---- A node is left

  module _ (lo there hi beyond : ℕ) (outer : Bool) (under over : Forest) (seen : AreSeenMoved m outer under over) (o q : Outline)
      (s : ScopesGo hi beyond o.scope q.scope) (typed : q.typedef ≡ o.typedef) where
    abbrev Reaches : Option ℕ → Type 0
    Reaches name = (i : ℕ) → name ≡ Some i → (last_token under i + 1 ≡ hi) × (m (last_token under i) + 1 ≡ beyond)

    named_go : (name : Option ℕ) (es fs : List Entry) → Reaches name → Goes hi beyond es fs
        → Goes hi beyond (named_entries o name under es) (named_entries q (option_map m name) over fs)
    named_go None es fs r k = k
    named_go (Some i) es fs r k =
        let at = r i refl in
        added_go hi beyond i (m i) (last_token under i) (last_token over (m i)) o.typedef q.typedef o q es fs s refl typed at.0
        (omega (arith, at.1, seen.last i (m i) refl)) k

    below_go : (l : Label) (es fs : List Entry) → Reaches (name_below l under) → Goes hi beyond es fs
        → Goes hi beyond (named_entries o (name_below l under) under es) (named_entries q (name_below l over) over fs)
    below_go l es fs r k =
        subst (λ (n : Option ℕ). Goes hi beyond (named_entries o (name_below l under) under es) (named_entries q n over fs)) (sym (seen.named l))
        (named_go (name_below l under) es fs r k)

    declaration_go : (p : Production) (l : Label) (es fs : List Entry) → Reaches (name_below l under) → Goes hi beyond es fs
        → Goes hi beyond (in_declaration p o l under es) (in_declaration p q l over fs)
    declaration_go ExtRest l es fs r k = below_go l es fs r k
    declaration_go InitDecl l es fs r k = below_go l es fs r k
    declaration_go _ l es fs r k = k

    parameter_go : (p : Production) (l : Label) (es fs : List Entry) → Reaches (name_below l under) → Goes hi beyond es fs
        → Goes hi beyond (in_parameter p o l under es) (in_parameter p q l over fs)
    parameter_go Param l es fs r k = below_go l es fs r k
    parameter_go _ l es fs r k = k

    after_go : (p : Production) (l : Label) (es fs : List Entry) → q.label ≡ o.label → DeclaresAt m lo there p l under over hi beyond → Goes hi beyond es fs
        → Goes hi beyond (entries_after p lo o l under es) (entries_after p there q l over fs)
    after_go Declarator l es fs e d k =
        subst (λ (x : Label). Goes hi beyond (in_declaration o.label.production o l under es) (in_declaration x.production q l over fs)) (sym e)
        (declaration_go o.label.production l es fs d k)
    after_go Pdecl l es fs e d k =
        subst (λ (x : Label). Goes hi beyond (in_parameter o.label.production o l under es) (in_parameter x.production q l over fs)) (sym e)
        (parameter_go o.label.production l es fs d k)
    after_go Enumerator l es fs e d k =
        added_go hi beyond lo there (last_token under lo) (last_token over there) false false o q es fs s d.0 refl d.1 d.2 k
    after_go _ l es fs e d k = k

  if_same : (c : Bool) (a b x y : Bool) → a ≡ x → b ≡ y → (if c then a else b) ≡ (if c then x else y)
  if_same true a b x y f g = f
  if_same false a b x y f g = g

  kept_by : (c outer keeps : Bool) (a b x y : Option ℕ) → (if c then outer else keeps) ≡ true → (outer ≡ true → x ≡ option_map m a) → (keeps ≡ true → y ≡ option_map m b)
      → (if c then x else y) ≡ option_map m (if c then a else b)
  kept_by true outer keeps a b x y e f g = f e
  kept_by false outer keeps a b x y e f g = g e

  pub ended_goes : (keeps any outer : Bool) (lo there hi beyond : ℕ) (l : Label) (under over : Forest) → AreSeenMoved m outer under over → (o q o' q' : Outline)
      → ((k : ℕ) → IsAhead m hi beyond k → IsAhead m lo there k) → OutlinesGo keeps lo there o q → Goes hi beyond o'.entries q'.entries
      → DeclaresAt m lo there l.production l under over hi beyond → (any ≡ true → (if is_node l Declarator then outer else keeps) ≡ true)
      → OutlinesGo any hi beyond (ended l lo under o o') (ended l there over q q')
  ended_goes keeps any outer lo there hi beyond l under over seen o q o' q' ahead k inside d w =
      let s : ScopesGo hi beyond o.scope q.scope = scopes_further lo there hi beyond o.scope q.scope ahead k.scope in
      record {
        label = k.label;
        nth = ap (λ (x : ℕ). x + 1) k.nth;
        scope = s;
        typedef = if_same (is_node l Specs) (has_mod 1 over) q.typedef (has_mod 1 under) o.typedef (ap (λ x. x.has_typedef) seen.words) k.typedef;
        kept = λ e. kept_by (is_node l Declarator) outer keeps (first_list under) o.kept (first_list over) q.kept (w e) seen.lists k.kept;
        entries = after_go lo there hi beyond outer under over seen o q s k.typedef l.production l o'.entries q'.entries k.label d inside;
      }
