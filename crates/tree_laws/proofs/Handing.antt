-- Reading inside a declarator: the names of its first list are given to the declarator that began in this scope.
use Rattle.std.proofs.Common.{ℕ, ◌+◌, ◌<◌, ◌≤◌, ◌≡◌, Bool, true, false, ◌&&◌, if◌then◌else◌, ◌==◌, List, [], ◌∷◌, ◌++◌, length, Option, None, Some, ◌⊎◌, inl, inr, refl, sym, ap, subst, ◌∙◌, arith}
use Rattle.std.specs.Option.{option_or}
use Rattle.std.proofs.lemmas.Bool.{false≢true, and_parts, and_left, eqb-true, ne_eqb}
use Rattle.c99_grammar.specs.declared.dialects.Edition.{Edition}
use Rattle.cs_base.specs.Token.{Token}
use Rattle.c99_tree.specs.Tree.{Forest, none, token, node, Node, node_of, leaf, inner, put, lone, collapsed}
use Rattle.c99_tree.specs.declared.production.Label.{Label}
use Rattle.c99_tree.specs.declared.production.Production.{Production}
use Rattle.c99_tree.specs.declared.production.Production.TheVariants.{TranslationUnit, External, ExtRest, ExtTail, FunBody, Specs, Main, Mod, Enumerator, Declarator, Direct, Suffix, Pdecl, Pdirect}
use Rattle.c99_tree.specs.contracts.production.ProductionPartialEq.TheImpl.{ghosts}
use Rattle.c99_grammar.specs.Items.{scope, end, keep}
use Rattle.c99_grammar.specs.Standard.{iso}
use Rattle.c99_read.specs.State.{State, Names, given_names, with_scope_ended, is_declarator, with_head, names_opened, head_closed, names_closed, collapses, finished, acted, opened, closed}
use Rattle.scope_bind.specs.Named.{Scope}
use Rattle.c_types.specs.Trees.{is_node, is_list, has_mod, last_token, first_list}
use Rattle.name_chains.specs.Entering.{scope_in}
use Rattle.tree_laws.proofs.Private.{Declaration}
use Rattle.tree_laws.proofs.Outline.{Entry, entry, Outline, stepped, entries_in, begun, ended, outlined}
use Rattle.tree_laws.proofs.Matching.{IsOpen, SameOuter}
use Rattle.tree_laws.proofs.Places.{last_leaf, outlined_leaf, outlined_inner, behind}
use Rattle.tree_laws.proofs.Rules.{labelled, is_tame, stands, all_hold, nearest_same, collapsed_scope, collapsed_entries, collapsed_tame, after_tame, tame_specs}
use Rattle.tree_laws.proofs.Goes.{with_token, IsIn, Goes, Body}
use Rattle.tree_laws.proofs.TypedefSteps.{opened_scopes}
use Rattle.tree_laws.proofs.ScopeNodes.{ended_scopes, scoped_scopes}
use Rattle.tree_laws.proofs.Owned.{chosen, is_of, Closed, after_deaf, token_deaf, inside_deaf}
use Rattle.tree_laws.proofs.Twins.{IsPlain, IsInner, scope_kind}
use Rattle.tree_laws.proofs.Listed.{head_of, outlined_scope, listed_names}
use Rattle.tree_laws.proofs.Heads.{handed, Few, few_more, few_handed, few_last, handed_twice, handed_inside, closed_heads, names_given, closed_kept, or_none, list_leaf, list_of, list_inner}

-- the declarations of a list one scope further in
abbrev pub listed : Outline → ℕ → List Entry → List Declaration
listed o list es = chosen (is_of (o.scope.depth + 1) list) es

-- .. of the list, if there is one
abbrev pub names_of : Outline → Option ℕ → List Entry → Option (List Declaration)
names_of o None es = None
names_of o (Some list) es = Some (listed o list es)

abbrev pub lies : ℕ → ℕ → Option ℕ → Type 0
lies from to None = Unit {0}
lies from to (Some list) = (from < list) × (list < to)

-- what is known inside the open node, where `o` was known at its beginning
abbrev pub now : State → Outline → Outline
now s o = outlined s.built.under o

-- Whether the specifiers have the word `typedef` is known, and no list ends behind the last token.
pub record IsReady (s : State) (o : Outline) : Type 0 where
  pub near : (now s o).typedef ≡ s.near
  pub fresh : (list : ℕ) → s.at < list → listed o list (now s o).entries ≡ []

-- a later state in the same open node: the names of the first of the new lists are given
pub record Handed (o : Outline) (s s' : State) : Type 0 where
  pub new : Option ℕ
  pub first : first_list s'.built.under ≡ option_or (first_list s.built.under) new
  pub stands : lies s.at s'.at new
  pub heads : s'.names.heads ≡ handed (length s.names.scopes) (names_of o new (now s' o).entries) s.names.heads
  pub ready : IsReady s' o
  pub still : (list : ℕ) → list ≤ s.at → listed o list (now s' o).entries ≡ listed o list (now s o).entries

module _ (toks : List Token) where
  pub record Hands (s s' : State) : Type 0 where
    pub same_text : s'.toks ≡ s.toks
    pub later : s.at ≤ s'.at
    pub count : 0 < length s.names.scopes → length s'.names.scopes ≡ length s.names.scopes
    pub passes : (o : Outline) → s.toks ≡ toks → 0 < length s.names.scopes → Few (length s.names.scopes) s.names.heads → IsReady s o → Handed o s s'

-- ---- Steps

-- names are added to the scope of the node alone
own_deaf : (o : Outline) (list : ℕ) (c : Scope) → c.depth ≡ o.scope.depth → (i : ℕ) (t : Bool) (from : ℕ)
    → is_of (o.scope.depth + 1) list (entry i t c.depth from c.to) ≡ false
own_deaf o list c e i t from =
    right_false (c.to == list) ((c.depth == o.scope.depth + 1) && true)
    (and_left (c.depth == o.scope.depth + 1) true (ne_eqb c.depth (o.scope.depth + 1) (λ h. omega arith)))
  where
    right_false : (x y : Bool) → y ≡ false → (x && y) ≡ false
    right_false true y h = h
    right_false false y h = refl

now_depth : (s : State) (o : Outline) → (now s o).scope.depth ≡ o.scope.depth
now_depth s o = ap (λ (c : Scope). c.depth) (outlined_scope s.built.under o)

-- a state that differs in its names alone
abbrev named_anew : State → Names → State
named_anew s names = record s { names = names }

further_names : (o : Outline) (s : State) (x y : Option ℕ) (es es' : List Entry) → lies 0 s.at x
    → ((list : ℕ) → list ≤ s.at → listed o list es' ≡ listed o list es)
    → option_or (names_of o x es) (names_of o y es') ≡ names_of o (option_or x y) es'
further_names o s None y es es' h still = refl
further_names o s (Some list) y es es' h still = ap (λ r. Some r) (sym (still list (let e = h.1 in omega arith)))

further_lies : (a b c : ℕ) (x y : Option ℕ) → a ≤ b → b ≤ c → lies a b x → lies b c y → lies a c (option_or x y)
further_lies a b c None None h k m n = tt
further_lies a b c None (Some list) h k m n = (let e = n.0 in omega arith, n.1)
further_lies a b c (Some list) y h k m n = (m.0, let e = m.1 in omega arith)

lies_low : (a b : ℕ) (x : Option ℕ) → lies a b x → lies 0 b x
lies_low a b None h = tt
lies_low a b (Some list) h = (let e = h.0 in omega arith, h.1)

or_next : (f f' f'' x y : Option ℕ) → f' ≡ option_or f x → f'' ≡ option_or f' y → f'' ≡ option_or f (option_or x y)
or_next None f' f'' x y e e' = e' ∙ ap (λ r. option_or r y) e
or_next (Some i) f' f'' x y e e' = e' ∙ ap (λ r. option_or r y) e

module _ (toks : List Token) where
  pub hands_still : (s : State) → Hands toks s s
  hands_still s = record {
    same_text = refl;
    later = omega arith;
    count = λ op. refl;
    passes = λ o t op few ready. record {
      new = None;
      first = sym (or_none (first_list s.built.under));
      stands = tt;
      heads = refl;
      ready = ready;
      still = λ list h. refl;
    };
  }

  pub hands_further : (s s' s'' : State) → Hands toks s s' → Hands toks s' s'' → Hands toks s s''
  hands_further s s' s'' h h' = record {
    same_text = h'.same_text ∙ h.same_text;
    later = (let e = h.later in let e' = h'.later in omega arith);
    count = λ op. h'.count (subst (λ n. 0 < n) (sym (h.count op)) op) ∙ h.count op;
    passes = λ o t op few ready. (
        let r = h.passes o t op few ready in
        let few' : Few (length s'.names.scopes) s'.names.heads =
        subst (λ n. Few n s'.names.heads) (sym (h.count op))
        (subst (Few (length s.names.scopes)) (sym r.heads) (few_handed (length s.names.scopes) (length s.names.scopes) (names_of o r.new (now s' o).entries) s.names.heads few)) in
        let r' = h'.passes o (h.same_text ∙ t) (subst (λ n. 0 < n) (sym (h.count op)) op) few' r.ready in
        record {
          new = option_or r.new r'.new;
          first = or_next (first_list s.built.under) (first_list s'.built.under) (first_list s''.built.under) r.new r'.new r.first r'.first;
          stands = further_lies s.at s'.at s''.at r.new r'.new h.later h'.later r.stands r'.stands;
          heads = r'.heads
              ∙ (ap (λ n. handed n (names_of o r'.new (now s'' o).entries) s'.names.heads) (h.count op)
              ∙ (ap (handed (length s.names.scopes) (names_of o r'.new (now s'' o).entries)) r.heads
              ∙ (handed_twice (length s.names.scopes) (names_of o r.new (now s' o).entries) (names_of o r'.new (now s'' o).entries) s.names.heads
              ∙ ap (λ x. handed (length s.names.scopes) x s.names.heads)
              (further_names o s' r.new r'.new (now s' o).entries (now s'' o).entries (lies_low s.at s'.at r.new r.stands) r'.still))));
          ready = r'.ready;
          still = λ list e. r'.still list (let k = h.later in omega arith) ∙ r.still list e;
        });
  }

  -- a token
  pub hands_token : (s : State) → Hands toks s (with_token s)
  hands_token s = record {
    same_text = refl;
    later = omega arith;
    count = λ op. refl;
    passes = λ o t op few ready. (
        let more : now (with_token s) o ≡ stepped s.at (now s o) = outlined_leaf s.built.under s.at o in
        let same : (list : ℕ) → listed o list (now (with_token s) o).entries ≡ listed o list (now s o).entries =
        λ list. ap (λ (x : Outline). listed o list x.entries) more
        ∙ token_deaf (is_of (o.scope.depth + 1) list) (λ c. c.depth ≡ o.scope.depth) (own_deaf o list) s.at (now s o) (now_depth s o) in
        record {
          new = None;
          first = list_leaf s.built.under s.at ∙ sym (or_none (first_list s.built.under));
          stands = tt;
          heads = refl;
          ready = record {
            near = ap (λ (x : Outline). x.typedef) more ∙ ready.near;
            fresh = λ list h. same list ∙ ready.fresh list (omega arith);
          };
          still = λ list h. same list;
        });
  }

  -- a declaration in the scope
  pub hands_named : (s : State) (names : Names) → names.heads ≡ s.names.heads → length names.scopes ≡ length s.names.scopes → Hands toks s (named_anew s names)
  hands_named s names e k = record {
    same_text = refl;
    later = omega arith;
    count = λ op. k;
    passes = λ o t op few ready. record {
      new = None;
      first = sym (or_none (first_list s.built.under));
      stands = tt;
      heads = e;
      ready = record { near = ready.near; fresh = ready.fresh };
      still = λ list h. refl;
    };
  }

-- ---- Nodes that are replaced by their only child

collapsing_tame : (p : Production) → collapses p ≡ true → is_tame p ≡ true
collapsing_tame Specs h = absurd (false≢true h)
collapsing_tame Main h = absurd (false≢true h)
collapsing_tame Mod h = absurd (false≢true h)
collapsing_tame Enumerator h = absurd (false≢true h)
collapsing_tame Declarator h = absurd (false≢true h)
collapsing_tame Direct h = absurd (false≢true h)
collapsing_tame Pdecl h = absurd (false≢true h)
collapsing_tame Pdirect h = absurd (false≢true h)
collapsing_tame TranslationUnit h = absurd (false≢true h)
collapsing_tame External h = absurd (false≢true h)
collapsing_tame ExtRest h = absurd (false≢true h)
collapsing_tame ExtTail h = absurd (false≢true h)
collapsing_tame FunBody h = absurd (false≢true h)
collapsing_tame _ h = refl

tame_declarator : (p : Production) → is_tame p ≡ true → ghosts.eq p Declarator ≡ false
tame_declarator Declarator h = absurd (false≢true h)
tame_declarator _ h = refl

names_same : (o o' : Outline) (x : Option ℕ) (es es' : List Entry) → ((list : ℕ) → listed o' list es' ≡ listed o list es) → names_of o x es ≡ names_of o' x es'
names_same o o' None es es' h = refl
names_same o o' (Some list) es es' h = ap (λ r. Some r) (sym (h list))

module _ (std : Edition) where
  -- a tame node says its declarations alone
  tame_behind : (l : Label) (begins : ℕ) (under : Forest) (o : Outline) → is_tame l.production ≡ true
      → behind (node_of l begins under) o ≡ record o { entries = (outlined under (begun l begins under o)).entries; nth = o.nth + 1 }
  tame_behind l begins under o t =
      let x : Outline = outlined under (begun l begins under o) in
      ap (λ es. record o { entries = es; nth = o.nth + 1; typedef = (if is_node l Specs then has_mod 1 under else o.typedef); kept = (if is_node l Declarator then first_list under else o.kept) })
      (after_tame l.production begins o l under x.entries t)
      ∙ (ap (λ c. record o { entries = x.entries; nth = o.nth + 1; typedef = (if c then has_mod 1 under else o.typedef); kept = (if is_node l Declarator then first_list under else o.kept) })
      (tame_specs l.production t)
      ∙ ap (λ c. record o { entries = x.entries; nth = o.nth + 1; kept = (if c then first_list under else o.kept) }) (tame_declarator l.production t))

  collapsed_behind : (p : Production) (n first : ℕ) (l : Label) (begins : ℕ) (under : Forest) (o : Outline) → collapses p ≡ true → is_tame l.production ≡ true
      → behind (node_of l begins under) o ≡ behind (node_of (labelled p n) first (node l begins under none)) o
  collapsed_behind p n first l begins under o c t =
      let f : Forest = node l begins under none in
      let inside : Outline = begun (labelled p n) first f o in
      let entries : entries_in p first f o.kept o.scope.depth o.entries ≡ o.entries = collapsed_entries p first f o.kept o.scope.depth o.entries c in
      let scope : scope_in p (labelled p n) f o.scope ≡ o.scope = collapsed_scope p (labelled p n) f o.scope c in
      let same : begun l begins under inside ≡ begun l begins under o =
      ap (λ es. begun l begins under (record inside { entries = es })) entries ∙ ap (λ c. begun l begins under (record inside { entries = o.entries; scope = c })) scope in
      let below : (outlined f inside).entries ≡ (outlined under (begun l begins under o)).entries =
      after_tame l.production begins inside l under (outlined under (begun l begins under inside)).entries t ∙ ap (λ (x : Outline). (outlined under x).entries) same in
      tame_behind l begins under o t
      ∙ (ap (λ es. record o { entries = es; nth = o.nth + 1 }) (sym below) ∙ sym (tame_behind (labelled p n) first f o (collapsing_tame p c)))

  lone_behind : (p : Production) (n first : ℕ) (under whole : Forest) (o : Outline) → whole ≡ under → collapses p ≡ true → all_hold p under ≡ true
      → behind (lone under (node_of (labelled p n) first whole)) o ≡ behind (node_of (labelled p n) first under) o
  lone_behind p n first none whole o e c h = ap (λ f. behind (node_of (labelled p n) first f) o) e
  lone_behind p n first (token i rest) whole o e c h = ap (λ f. behind (node_of (labelled p n) first f) o) e
  lone_behind p n first (node l begins under (token i rest)) whole o e c h = ap (λ f. behind (node_of (labelled p n) first f) o) e
  lone_behind p n first (node l begins under (node m second below rest)) whole o e c h = ap (λ f. behind (node_of (labelled p n) first f) o) e
  lone_behind p n first (node l begins under none) whole o e c h =
      collapsed_behind p n first l begins under o c (collapsed_tame p l.production c (and_parts (stands p l.production) _ h).0)

  finished_now : (p : Production) (n first : ℕ) (f under : Forest) (o : Outline) → all_hold p under ≡ true
      → outlined (put f (inner (finished p (node_of (labelled p n) first under)))) o ≡ behind (node_of (labelled p n) first under) (outlined f o)
  finished_now p n first f under o h = outlined_inner f (finished p (node_of (labelled p n) first under)) o ∙ by (collapses p) refl
    where
      by : (c : Bool) → collapses p ≡ c
          → behind (if c then collapsed (node_of (labelled p n) first under) else node_of (labelled p n) first under) (outlined f o)
          ≡ behind (node_of (labelled p n) first under) (outlined f o)
      by true e = lone_behind p n first under under (outlined f o) refl e h
      by false e = refl

  lone_list : (p : Production) (n first : ℕ) (under whole : Forest) → whole ≡ under → is_list (labelled p n) ≡ false
      → list_of (lone under (node_of (labelled p n) first whole)) ≡ first_list under
  lone_list p n first none whole e h = ap (λ c. if c then Some (last_token whole 0) else first_list whole) h ∙ ap first_list e
  lone_list p n first (token i rest) whole e h = ap (λ c. if c then Some (last_token whole 0) else first_list whole) h ∙ ap first_list e
  lone_list p n first (node l begins under (token i rest)) whole e h = ap (λ c. if c then Some (last_token whole 0) else first_list whole) h ∙ ap first_list e
  lone_list p n first (node l begins under (node m second below rest)) whole e h = ap (λ c. if c then Some (last_token whole 0) else first_list whole) h ∙ ap first_list e
  lone_list p n first (node l begins under none) whole e h = ap (λ r. if is_list l then Some (last_token under 0) else r) (sym (or_none (first_list under)))

  finished_list : (p : Production) (n first : ℕ) (under : Forest) → is_list (labelled p n) ≡ false
      → list_of (finished p (node_of (labelled p n) first under)) ≡ first_list under
  finished_list p n first under h = by (collapses p)
    where
      by : (c : Bool) → list_of (if c then collapsed (node_of (labelled p n) first under) else node_of (labelled p n) first under) ≡ first_list under
      by true = lone_list p n first under under refl h
      by false = ap (λ c. if c then Some (last_token under 0) else first_list under) h

  names_closed_scopes : (p : Production) (names : Names) → (names_closed p names).scopes ≡ names.scopes
  names_closed_scopes p names = by (is_declarator p)
    where
      by : (c : Bool) → (if c then head_closed names else names).scopes ≡ names.scopes
      by true = refl
      by false = refl

  module _ (toks : List Token) where
    -- a production was read; `kept` speaks of a declarator that stands in no other one
    pub record HandsOn (p : Production) (s s' : State) : Type 0 where
      pub hands : Hands toks s s'
      pub kept : is_declarator p ≡ true → s.names.heads ≡ [] → first_list s.built.under ≡ None
          → (o : Outline) → s.toks ≡ toks → 0 < length s.names.scopes → IsReady s o
          → s'.names.kept ≡ names_given (names_of o (first_list s'.built.under) (now s' o).entries)

    -- ---- The end of a node that is no list

    module _ (p : Production) (n : ℕ) (s s' : State) (plain : IsPlain p (labelled p n) s'.built.under) (unlisted : is_list (labelled p n) ≡ false)
        (b : Body std toks p n s s') (h : Hands toks (opened p n s) s') where
      abbrev under : Forest
      under = s'.built.under

      abbrev whole : Node
      whole = node_of (labelled p n) s.at under

      abbrev around : Outline → Outline
      around o = begun (labelled p n) s.at under (now s o)

      built_is : s'.built ≡ whole
      built_is = ap (λ l. node_of l s'.built.first under) b.inside.label ∙ ap (λ k. node_of (labelled p n) k under) b.inside.begins

      around_depth : (o : Outline) → (around o).scope.depth ≡ o.scope.depth
      around_depth o = ap (λ (c : Scope). c.depth) (plain.0 (now s o).scope) ∙ now_depth s o

      around_listed : (o : Outline) (list : ℕ) (es : List Entry) → listed (around o) list es ≡ listed o list es
      around_listed o list es = ap (λ d. chosen (is_of (d + 1) list) es) (around_depth o)

      around_entries : (o : Outline) → (around o).entries ≡ (now s o).entries
      around_entries o = plain.1 s.at (now s o).kept (now s o).scope.depth (now s o).entries

      opened_under : (opened p n s).built.under ≡ none
      unfolding opened
      opened_under = refl

      around_now : (o : Outline) (list : ℕ) → listed (around o) list (now (opened p n s) (around o)).entries ≡ listed o list (now s o).entries
      around_now o list =
          ap (λ f. listed (around o) list (outlined f (around o)).entries) opened_under
          ∙ (around_listed o list (around o).entries ∙ ap (listed o list) (around_entries o))

      around_ready : (o : Outline) → IsReady s o → IsReady (opened p n s) (around o)
      unfolding opened
      around_ready o ready = record { near = ready.near; fresh = λ list e. around_now o list ∙ ready.fresh list e }

      opened_few : Few (length s.names.scopes) s.names.heads → Few (length (opened p n s).names.scopes) (opened p n s).names.heads
      unfolding opened
      opened_few few = by (is_declarator p)
        where
          by : (c : Bool) → Few (length (if c then with_head s.names else s.names).scopes) (if c then with_head s.names else s.names).heads
          by true = few_last (length s.names.scopes) s.names.heads (record { scopes_open = length s.names.scopes; given = None }) few (omega arith)
          by false = few

      opened_count : length (opened p n s).names.scopes ≡ length s.names.scopes
      unfolding opened
      opened_count = ap length (opened_scopes std toks p s.names)

      inside : (o : Outline) → s.toks ≡ toks → 0 < length s.names.scopes → Few (length s.names.scopes) s.names.heads → IsReady s o → Handed (around o) (opened p n s) s'
      unfolding opened
      inside o t op few ready =
          h.passes (around o) t (subst (λ k. 0 < k) (sym opened_count) op) (opened_few few) (around_ready o ready)

      abbrev last_state : State
      last_state = closed p s s'

      closed_now : (o : Outline) → now last_state o ≡ behind whole (now s o)
      unfolding closed
      closed_now o =
          ap (λ (x : Node). outlined (put s.built.under (inner (finished p x))) o) built_is ∙ finished_now p n s.at s.built.under under o b.holds

      closed_listed : (o : Outline) (list : ℕ) → listed o list (now last_state o).entries ≡ listed (around o) list (now s' (around o)).entries
      closed_listed o list =
          ap (λ (x : Outline). listed o list x.entries) (closed_now o)
          ∙ (after_deaf (is_of (o.scope.depth + 1) list) (λ c. c.depth ≡ o.scope.depth) (own_deaf o list) p s.at (now s o) (labelled p n) under
          (now s' (around o)).entries (now_depth s o)
          ∙ sym (around_listed o list (now s' (around o)).entries))

      closed_first : (x : Option ℕ) → first_list under ≡ x → first_list last_state.built.under ≡ option_or (first_list s.built.under) x
      unfolding closed
      closed_first x e =
          list_inner s.built.under (finished p s'.built)
          ∙ ap (option_or (first_list s.built.under)) (ap (λ (y : Node). list_of (finished p y)) built_is ∙ (finished_list p n s.at under unlisted ∙ e))

      inside_first : (o : Outline) (r : Handed (around o) (opened p n s) s') → first_list under ≡ r.new
      inside_first o r = r.first ∙ ap (λ f. option_or (first_list f) r.new) opened_under

      closed_names_of : (o : Outline) (x : Option ℕ) → names_of (around o) x (now s' (around o)).entries ≡ names_of o x (now last_state o).entries
      closed_names_of o x = names_same (around o) o x (now s' (around o)).entries (now last_state o).entries (closed_listed o)

      closed_heads_are : (o : Outline) (r : Handed (around o) (opened p n s) s')
          → last_state.names.heads ≡ handed (length s.names.scopes) (names_of o r.new (now last_state o).entries) s.names.heads
      unfolding opened closed
      closed_heads_are o r = by (is_declarator p) refl
        where
          by : (c : Bool) → is_declarator p ≡ c → (if c then head_closed s'.names else s'.names).heads
              ≡ handed (length s.names.scopes) (names_of o r.new (now last_state o).entries) s.names.heads
          by true e =
              closed_heads (length s.names.scopes) (names_of o r.new (now last_state o).entries) s.names.heads (record { scopes_open = length s.names.scopes; given = None }) s'.names
              (r.heads
              ∙ (ap (λ k. handed k (names_of (around o) r.new (now s' (around o)).entries) (names_opened p s.names).heads) opened_count
              ∙ (ap (λ x. handed (length s.names.scopes) x (names_opened p s.names).heads) (closed_names_of o r.new)
              ∙ ap (λ c. handed (length s.names.scopes) (names_of o r.new (now last_state o).entries) (if c then with_head s.names else s.names).heads) e)))
          by false e =
              r.heads
              ∙ (ap (λ k. handed k (names_of (around o) r.new (now s' (around o)).entries) (names_opened p s.names).heads) opened_count
              ∙ (ap (λ x. handed (length s.names.scopes) x (names_opened p s.names).heads) (closed_names_of o r.new)
              ∙ ap (λ c. handed (length s.names.scopes) (names_of o r.new (now last_state o).entries) (if c then with_head s.names else s.names).heads) e))

      closed_kept_are : (o : Outline) (r : Handed (around o) (opened p n s) s') → is_declarator p ≡ true → s.names.heads ≡ []
          → last_state.names.kept ≡ names_given (names_of o r.new (now last_state o).entries)
      unfolding opened closed
      closed_kept_are o r d none_open =
          ap (λ c. (if c then head_closed s'.names else s'.names).kept) d
          ∙ closed_kept (length s.names.scopes) (names_of o r.new (now last_state o).entries) s'.names
          (r.heads
          ∙ (ap (λ k. handed k (names_of (around o) r.new (now s' (around o)).entries) (names_opened p s.names).heads) opened_count
          ∙ (ap (λ x. handed (length s.names.scopes) x (names_opened p s.names).heads) (closed_names_of o r.new)
          ∙ (ap (λ c. handed (length s.names.scopes) (names_of o r.new (now last_state o).entries) (if c then with_head s.names else s.names).heads) d
          ∙ ap (λ hs. handed (length s.names.scopes) (names_of o r.new (now last_state o).entries) (hs ++ record { scopes_open = length s.names.scopes; given = None } ∷ [])) none_open))))

      closed_ready : (o : Outline) → IsReady s o → IsReady s' (around o) → IsReady last_state o
      unfolding closed
      closed_ready o ready ended = record {
        near = ap (λ (x : Outline). x.typedef) (closed_now o)
            ∙ (ap (λ t. if is_node (labelled p n) Specs then has_mod 1 under else t) ready.near ∙ sym (nearest_same p n s'.built under s.near refl b.holds));
        fresh = λ list e. closed_listed o list ∙ ended.fresh list e;
      }

      closed_hands : Hands toks s last_state
      unfolding opened closed
      closed_hands = record {
        same_text = b.same_text;
        later = b.later;
        count = λ op. ap length (names_closed_scopes p s'.names) ∙ (h.count (subst (λ k. 0 < k) (sym opened_count) op) ∙ opened_count);
        passes = λ o t op few ready. (
            let r = inside o t op few ready in
            record {
              new = r.new;
              first = closed_first r.new (inside_first o r);
              stands = r.stands;
              heads = closed_heads_are o r;
              ready = closed_ready o ready r.ready;
              still = λ list e. closed_listed o list ∙ (r.still list e ∙ around_now o list);
            });
      }

      pub closed_on : HandsOn p s last_state
      closed_on = record {
        hands = closed_hands;
        kept = λ d none_open no_list o t op ready. (
            let few : Few (length s.names.scopes) s.names.heads = subst (Few (length s.names.scopes)) (sym none_open) tt in
            let r = inside o t op few ready in
            closed_kept_are o r d none_open
            ∙ ap (λ x. names_given (names_of o x (now last_state o).entries))
            (sym (closed_first r.new (inside_first o r) ∙ ap (λ f. option_or f r.new) no_list)));
      }

    -- ---- The end of a list

    ended_names : (names : Names) (scopes x : List (List Declaration)) → IsOpen scopes → SameOuter ([] ∷ scopes) x
        → ((with_scope_ended names x).ended ≡ head_of std x) × ((with_scope_ended names x).heads ≡ names.heads)
    ended_names names [] x op same = absurd op
    ended_names names (a ∷ outer) [] op same = absurd same
    ended_names names (a ∷ outer) (l ∷ x) op same =
        (ap (λ y. (with_scope_ended names (l ∷ y)).ended) same, ap (λ y. (with_scope_ended names (l ∷ y)).heads) same)

    some_open : (x : List (List Declaration)) → 0 < length x → IsOpen x
    some_open [] h = absurd (omega arith)
    some_open (a ∷ x) h = tt

    module _ (d list : ℕ) where
      -- a scope whose names are not those of this list
      abbrev IsApart : Scope → Type 0
      IsApart c = (d < c.depth) × (c.depth ≡ d + 1 → c.to ≡ list → ⊥)

      apart_deaf : (c : Scope) → IsApart c → (i : ℕ) (t : Bool) (from : ℕ) → is_of (d + 1) list (entry i t c.depth from c.to) ≡ false
      apart_deaf c h i t from = by (c.depth == d + 1) refl
        where
          right_false : (x y : Bool) → y ≡ false → (x && y) ≡ false
          right_false true y e = e
          right_false false y e = refl

          by : (x : Bool) → (c.depth == d + 1) ≡ x → ((c.to == list) && ((c.depth == d + 1) && true)) ≡ false
          by true e = and_left (c.to == list) ((c.depth == d + 1) && true) (ne_eqb c.to list (h.1 (eqb-true c.depth (d + 1) e)))
          by false e = right_false (c.to == list) ((c.depth == d + 1) && true) (and_left (c.depth == d + 1) true e)

      apart_closed : (f : Forest) → Closed IsApart f
      apart_closed none = tt
      apart_closed (token i rest) = apart_closed rest
      apart_closed (node l first under rest) = (λ c h. by c h (scope_kind l.production l under), apart_closed under, apart_closed rest)
        where
          by : (c : Scope) → IsApart c → IsPlain l.production l under ⊎ IsInner l.production l under → IsApart (scope_in l.production l under c)
          by c h (inl plain) = subst IsApart (sym (plain.0 c)) h
          by c h (inr deep) = (let e = h.0 in let e' = deep.0 c in omega arith, λ same to. (let e = h.0 in let e' = deep.0 c in omega arith))

    module _ (s s' : State) (g : Goes std toks (labelled Suffix 2) s.at (acted (iso std) scope (with_token (opened Suffix 2 s))) s')
        (h : Hands toks (acted (iso std) scope (with_token (opened Suffix 2 s))) s') where
      abbrev list_begun : State
      list_begun = acted (iso std) scope (with_token (opened Suffix 2 s))

      abbrev list_ended : State
      list_ended = closed Suffix s (with_token (acted (iso std) keep (acted (iso std) end s')))

      abbrev all : Forest
      all = put s'.built.under (leaf s'.at)

      abbrev list_node : Node
      list_node = node_of (labelled Suffix 2) s.at all

      list_scopes : list_begun.names.scopes ≡ [] ∷ s.names.scopes
      unfolding opened
      list_scopes = scoped_scopes std toks (with_token (opened Suffix 2 s)) ∙ ap (λ x. [] ∷ x) (opened_scopes std toks Suffix s.names)

      list_outer : SameOuter ([] ∷ s.names.scopes) s'.names.scopes
      list_outer = subst (λ x. SameOuter x s'.names.scopes) list_scopes g.outer

      list_in : IsIn (labelled Suffix 2) s.at s'
      unfolding opened acted
      list_in = g.inside (record { label = refl; begins = refl })

      list_built : record s'.built { under = all } ≡ list_node
      list_built = ap (λ l. node_of l s'.built.first all) list_in.label ∙ ap (λ k. node_of (labelled Suffix 2) k all) list_in.begins

      -- nothing is known where a list begins but its specifiers
      abbrev empty : Outline
      empty = record { entries = []; label = labelled Suffix 2; nth = 0; scope = record { depth = 0; to = 0 }; typedef = s.near; kept = None }

      list_length : length s.names.scopes < length list_begun.names.scopes
      list_length = let e = ap length list_scopes in omega arith

      list_heads : s.toks ≡ toks → Few (length s.names.scopes) s.names.heads → s'.names.heads ≡ s.names.heads
      unfolding opened acted
      list_heads t few =
          let r = h.passes empty t (let e = list_length in omega arith) (few_more (length s.names.scopes) (length list_begun.names.scopes) s.names.heads (let e = list_length in omega arith) few)
          (record { near = refl; fresh = λ list e. refl }) in
          r.heads ∙ handed_inside (length s.names.scopes) (length list_begun.names.scopes) (names_of empty r.new (now s' empty).entries) s.names.heads list_length few

      list_now : (o : Outline) → now list_ended o ≡ behind list_node (now s o)
      unfolding acted closed
      list_now o = ap (λ (x : Node). outlined (put s.built.under (inner x)) o) list_built ∙ outlined_inner s.built.under list_node o

      list_apart : (o : Outline) (list : ℕ) → (s'.at ≡ list → ⊥) → listed o list (now list_ended o).entries ≡ listed o list (now s o).entries
      list_apart o list other =
          ap (λ (x : Outline). listed o list x.entries) (list_now o)
          ∙ inside_deaf (is_of (o.scope.depth + 1) list) (IsApart o.scope.depth list) (apart_deaf o.scope.depth list) (labelled Suffix 2) s.at all (now s o)
          (apart_closed o.scope.depth list all)
          (let e = now_depth s o in omega arith, λ same to. other (sym (last_leaf s'.built.under s'.at 0) ∙ to))

      list_first : first_list list_ended.built.under ≡ option_or (first_list s.built.under) (Some s'.at)
      unfolding acted closed
      list_first =
          ap (λ (x : Node). first_list (put s.built.under (inner x))) list_built
          ∙ (list_inner s.built.under list_node ∙ ap (λ i. option_or (first_list s.built.under) (Some i)) (last_leaf s'.built.under s'.at 0))

      list_names : (o : Outline) → s.toks ≡ toks → IsOpen s.names.scopes → IsReady s o → s.at < s'.at
          → head_of std s'.names.scopes ≡ listed o s'.at (now list_ended o).entries
      list_names o t op ready more =
          (listed_names std) toks s s' g t op (now s o) ready.near
          (ap (λ d. chosen (is_of (d + 1) s'.at) (now s o).entries) (now_depth s o) ∙ ready.fresh s'.at more)
          ∙ (ap (λ d. chosen (is_of (d + 1) s'.at) (outlined all (begun (labelled Suffix 2) s.at all (now s o))).entries) (now_depth s o)
          ∙ sym (ap (λ (x : Outline). listed o s'.at x.entries) (list_now o)))

      list_at : list_begun.at ≡ s.at + 1
      unfolding opened acted
      list_at = refl

      list_later : s.at < s'.at
      list_later = (let e = g.later in let e' = list_at in omega arith)

      list_count : IsOpen s.names.scopes → length list_ended.names.scopes ≡ length s.names.scopes
      unfolding acted closed
      list_count op = ap length (ended_scopes s'.names s.names.scopes s'.names.scopes op list_outer)

      list_given : (o : Outline) → s.toks ≡ toks → IsOpen s.names.scopes → Few (length s.names.scopes) s.names.heads → IsReady s o
          → list_ended.names.heads ≡ given_names (length s.names.scopes) (listed o s'.at (now list_ended o).entries) s.names.heads
      unfolding acted closed
      list_given o t op few ready =
          let w = ended_names s'.names s.names.scopes s'.names.scopes op list_outer in
          ap (λ x. given_names (length x) (with_scope_ended s'.names s'.names.scopes).ended (with_scope_ended s'.names s'.names.scopes).heads)
          (ended_scopes s'.names s.names.scopes s'.names.scopes op list_outer)
          ∙ (ap (λ x. given_names (length s.names.scopes) x (with_scope_ended s'.names s'.names.scopes).heads) (w.0 ∙ list_names o t op ready list_later)
          ∙ ap (given_names (length s.names.scopes) (listed o s'.at (now list_ended o).entries)) (w.1 ∙ list_heads t few))

      list_toks : list_ended.toks ≡ s.toks
      unfolding opened acted closed
      list_toks = g.same_text

      list_at_end : list_ended.at ≡ s'.at + 1
      unfolding acted closed
      list_at_end = refl

      list_near : list_ended.near ≡ s.near
      unfolding closed
      list_near = refl

      list_hands : Hands toks s list_ended
      list_hands = record {
        same_text = list_toks;
        later = (let e = list_later in let e' = list_at_end in omega arith);
        count = λ some. list_count (some_open s.names.scopes some);
        passes = λ o t some few ready. record {
          new = Some s'.at;
          first = list_first;
          stands = (list_later, let e = list_at_end in omega arith);
          heads = list_given o t (some_open s.names.scopes some) few ready;
          ready = record {
            near = ap (λ (x : Outline). x.typedef) (list_now o) ∙ (ready.near ∙ sym list_near);
            fresh = λ list e. list_apart o list (λ same. (let e' = list_at_end in omega arith)) ∙ ready.fresh list (let e' = list_later in let e'' = list_at_end in omega arith);
          };
          still = λ list e. list_apart o list (λ same. (let e' = list_later in omega arith));
        };
      }

      pub list_on : HandsOn Suffix s list_ended
      list_on = record { hands = list_hands; kept = λ d none_open no_list o t some ready. absurd (false≢true d) }
