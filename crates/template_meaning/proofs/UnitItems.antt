-- The lists of the functions in a unit against which nothing stands: what is between their parentheses.
use Rattle.std.proofs.Common.{ℕ, suc, ◌+◌, ◌<◌, ◌≤◌, ◌≡◌, Bool, true, false, ◌&&◌, ◌||◌, not, if◌then◌else◌, List, [], ◌∷◌, ◌++◌, length, Option, None, Some, Ok, ◌⊎◌, inl, inr, refl, sym, ap, subst, ◌∙◌, arith}
use Rattle.std.specs.Prelude.{IfSome, slice_index_or, nat_lt, ◌==◌}
use Rattle.std.specs.List.{list_any, remove}
use Rattle.std.specs.Option.{option_map_or}
use Rattle.std.proofs.lemmas.Bool.{false≢true, and_parts, and_from, or_cases, eqb-true, lt-ltb}
use Rattle.cs_base.specs.declared.positions.Part.{Part}
use Rattle.c99_grammar.specs.declared.dialects.Edition.{Edition}
use Rattle.cs_base.specs.Token.{Token}
use Rattle.c99_tree.specs.Tree.{Forest, none, token, node}
use Rattle.c99_tree.specs.declared.production.Label.{Label}
use Rattle.c99_tree.specs.declared.production.Production.{Production}
use Rattle.c99_tree.specs.declared.production.Production.TheVariants.{FunBody, Declaration, Declarator, Suffix, Post, Args, Params}
use Rattle.c99_tree.specs.contracts.production.ProductionPartialEq.TheImpl.{ghosts}
use Rattle.c99_tree.proofs.ProductionLemmas.{declarator_named}
use Rattle.c99_grammar.specs.Standard.{iso}
use Rattle.c_types.specs.declared.lists.List.{List as NameList}
use Rattle.c_types.specs.declared.parameters.ParameterList.{ParameterList}
use Rattle.c_types.specs.Lists.{odd_tokens, list_of, nearest_of, is_declaring}
use Rattle.c_types.specs.Parameters.{typed, untyped, parameters_of, parameters_in, declared_names}
use Rattle.c_types.specs.Trees.{is_node, is_at, is_list, name_below, first_token}
use Rattle.name_chains.specs.Frames.{outermost}
use Rattle.scope_bind.specs.declared.bound.Name.{Name}
use Rattle.scope_bind.specs.Bound.{Bound, binding_of}
use Rattle.scope_bind.specs.Names.{entity_at}
use Rattle.tree_laws.specs.ReadTexts.{Reads, ReadParameterListsAreInOrder}
use Rattle.tree_laws.specs.TreesOfTexts.{token_count, AreFrom}
use Rattle.tree_laws.proofs.EntityNames.{entities_are_names}
use Rattle.tree_laws.proofs.Lookups.{In}
use Rattle.tree_laws.specs.Told.{is_ordinary, IsName, DeclaresAt, NodeTold, AreTold}
use Rattle.reordered_tree_laws.specs.Premises.{is_bracketed}
use Rattle.reordered_tree_laws.specs.Reordered.{is_parenthesised, is_among}
use Rattle.analysis.specs.Analysis.{UnitAnalysis, AnalysisValue}
use Rattle.template_rules.specs.Functions.{is_function, names_function}
use Rattle.template_rules.specs.Lists.{arguments_of, parameters_at, separators}
use Rattle.template_rules.specs.Lists as lists
use Rattle.template_rules.specs.NameOffences.{is_prototype, has_prototype}
use Rattle.template_rules.specs.ScopeOffences.{is_inside, declares_more}
use Rattle.template_meaning.specs.Children.{EachNode, IsOfAlternative}
use Rattle.template_meaning.specs.Clear.{IsOwn, ListIsClear, DeclaratorIsClear, CallIsClear, UnitIsClear}
use Rattle.reordered.specs.Reordered.{begins_with, begins_list}
use Rattle.template_meaning.proofs.Forms.{IsPair, call_pair, list_pair}
use Rattle.template_meaning.proofs.ItemForms.{IsClean}
use Rattle.template_meaning.proofs.ItemsApart.{Frees, Between}
use Rattle.template_meaning.proofs.Parens.{Entry, entry, entries, is_call, calls_listed, Pair, own_pair, pair_in, pairs_in, pairs_entries, in_split}
use Rattle.template_meaning.proofs.Bracketed.{call_bracketed, typed_bracketed}
use Rattle.template_meaning.proofs.Units.{all_of_in}
use Rattle.template_meaning.proofs.UnitLists.{any_in, index_of, bound_is, of_text, one_of, declarator_is, parameters_found}

-- ---- The names of declarators

own_declares : (names : List Name) (o : Option ℕ) (n : Option (Option Forest)) (p : Pair) → In p (own_pair o n) → IfSome o (DeclaresAt names is_ordinary) → DeclaresAt names is_ordinary p.name
own_declares names None n p w d = absurd w
own_declares names (Some i) None p w d = absurd w
own_declares names (Some i) (Some None) p w d = absurd w
own_declares names (Some i) (Some (Some list)) p (inl same) d = subst (λ (q : Pair). DeclaresAt names is_ordinary q.name) same d
own_declares names (Some i) (Some (Some list)) p (inr w) d = absurd w

in_lists : {X : Type 0} (c : Bool) (x : X) (ys : List X) → In x (if c then ys else []) → (c ≡ true) × In x ys
in_lists true x ys w = (refl, w)
in_lists false x ys w = absurd w

module _ (names : List Name) (toks_ : List Token) where
  first_declares : (body listing : Bool) (l : Label) (f : Forest) (p : Pair) → is_declaring l ≡ true → AreTold names toks_ body listing l f → In p (pair_in f) → DeclaresAt names is_ordinary p.name
  first_declares body listing l none p declaring t w = absurd w
  first_declares body listing l (token i rest) p declaring t w = absurd w
  first_declares body listing l (node d first under rest) p declaring t w =
      let v = in_lists (is_node d Declarator) p (own_pair (name_below d under) (nearest_of under)) w in
      let told = subst (λ q. NodeTold names toks_ q ((is_node d FunBody || body) && not (if is_node d Declaration then is_node l FunBody else listing)) l d first under) (declarator_named d.production v.0) t.0 in
      own_declares names (name_below d under) (nearest_of under) p v.1 (told declaring)

  pub pairs_declare : (f : Forest) (body listing : Bool) (l : Label) (p : Pair) → AreTold names toks_ body listing l f → In p (pairs_in f) → DeclaresAt names is_ordinary p.name
  pairs_declare none body listing l p t w = absurd w
  pairs_declare (token i rest) body listing l p t w = pairs_declare rest body listing l p t w
  pairs_declare (node m first under rest) body listing l p t w = elim (in_split p ((if is_declaring m then pair_in under else []) ++ pairs_in under) (pairs_in rest) w) [
    | inl v ↦ elim (in_split p (if is_declaring m then pair_in under else []) (pairs_in under) v) [
      | inl b ↦
          let c = in_lists (is_declaring m) p (pair_in under) b in
          first_declares (is_node m FunBody || body) (if is_node m Declaration then is_node l FunBody else listing) m under p c.0 t.1 c.1
      | inr b ↦ pairs_declare under (is_node m FunBody || body) (if is_node m Declaration then is_node l FunBody else listing) m p t.1 b
    ]
    | inr v ↦ pairs_declare rest body listing l p t.2 v
  ]

-- ---- A unit

module _ (s : Edition) (members : List Part) (u : UnitAnalysis) (a : AnalysisValue) (n : ℕ) (reads : Reads (iso s) u.text.toks u.tree) (binds : binding_of u.text.toks u.tree ≡ Ok u.bound)
    (in_order : ReadParameterListsAreInOrder)
    (of_declarators : (l : NameList) → In l u.bound.declarators → IsOwn members u l → lists.parameters_of (parameters_in u.tree.under) l.name ≡ n)
    (of_calls : (l : NameList) → In l u.bound.calls → IsOwn members u l → arguments_of l ≡ n)
    (clear : UnitIsClear a members u) (all_told : AreTold u.bound.names u.text.toks false false (outermost 0).label u.tree.under) where
  abbrev Tree : Forest
  Tree = u.tree.under

  abbrev Toks : List Token
  Toks = u.text.toks

  abbrev Names : List Name
  Names = u.bound.names

  abbrev among : Label → Forest → Bool
  among l under = is_among (begins_list members u) l under

  -- a list of a function by its children: the arguments of a call
  pub record IsOwnCall (l : Label) (under : Forest) : Type 0 where
    pub list : NameList
    pub there : In list u.bound.calls
    pub own : IsOwn members u list
    pub is : list_of list.name under ≡ list
    pub label : is_at l Post 2 ≡ true

  -- .. or the parameters of a declarator
  pub record IsOwnDeclarator (l : Label) (under : Forest) : Type 0 where
    pub list : NameList
    pub there : In list u.bound.declarators
    pub own : IsOwn members u list
    pub is : list_of list.name under ≡ list
    pub label : is_list l ≡ true
    pub found : parameters_at (parameters_in Tree) list.name ≡ Some (parameters_of list.name under)
    pub declared : DeclaresAt Names is_ordinary list.name

  module _ (l : Label) (under : Forest) (there : In (entry l under) (entries Tree)) where
    by_call : (m : NameList) → In m u.bound.calls → IsOwn members u m → m.begin ≡ first_token under 0 → IsOwnCall l under
    by_call m w own at =
        let c = calls_listed Tree m (subst (λ (b : Bound). In m b.calls) (bound_is s members u n reads binds in_order of_declarators of_calls) w) in
        let begin : first_token c.under 0 ≡ first_token under 0 = ap (λ (q : NameList). q.begin) c.is ∙ at in
        let e = c.entered in
        let one = one_of s members u n reads binds in_order of_declarators of_calls (entry e.label c.under) (entry l under) e.there there begin in
        let labels : e.label ≡ l = ap (λ (y : Entry). y.label) one in
        let unders : c.under ≡ under = ap (λ (y : Entry). y.under) one in
        record { list = m; there = w; own = own; is = ap (λ (g : Forest). list_of m.name g) (sym unders) ∙ c.is; label = ap is_call (sym labels) ∙ e.passes }

    by_declarator : (m : NameList) → In m u.bound.declarators → IsOwn members u m → m.begin ≡ first_token under 0 → IsOwnDeclarator l under
    by_declarator m w own at =
        let d = declarator_is s members u n reads binds in_order of_declarators of_calls m w in
        let p = d.0 in
        let e = pairs_entries Tree p d.1 in
        let begin : first_token p.under 0 ≡ first_token under 0 = ap (λ (q : NameList). q.begin) d.2 ∙ at in
        let one = one_of s members u n reads binds in_order of_declarators of_calls (entry e.label p.under) (entry l under) e.there there begin in
        let labels : e.label ≡ l = ap (λ (y : Entry). y.label) one in
        let unders : p.under ≡ under = ap (λ (y : Entry). y.under) one in
        let named : p.name ≡ m.name = ap (λ (q : NameList). q.name) d.2 in
        let found = parameters_found s members u n reads binds in_order of_declarators of_calls m w p d.1 d.2 d.3 in
        record {
          list = m;
          there = w;
          own = own;
          is = ap (λ (g : Forest). list_of m.name g) (sym unders) ∙ (ap (λ (k : ℕ). list_of k p.under) (sym named) ∙ d.2);
          label = ap is_list (sym labels) ∙ e.passes;
          found = found ∙ ap (λ (q : ParameterList). Some q) (ap (λ (k : ℕ). parameters_of k p.under) named ∙ ap (λ (g : Forest). parameters_of m.name g) unders);
          declared = subst (λ (k : ℕ). DeclaresAt Names is_ordinary k) named (pairs_declare Names Toks Tree false false (outermost 0).label p all_told d.1);
        }

    pub own_list : among l under ≡ true → IsOwnCall l under ⊎ IsOwnDeclarator l under
    own_list is =
        let both = and_parts (is_parenthesised l) _ is in
        let begun = (and_parts (begins_list members u (first_token under 0)) _ both.1).0 in
        elim (or_cases (list_any (begins_with members Toks Names (first_token under 0)) u.bound.declarators) (list_any (begins_with members Toks Names (first_token under 0)) u.bound.calls) begun) [
          | inl declared ↦
              let m = any_in (begins_with members Toks Names (first_token under 0)) u.bound.declarators declared in
              let parts = and_parts (names_function members Toks Names m.0.name) (m.0.begin == first_token under 0) m.1.1 in
              inr (by_declarator m.0 m.1.0 parts.0 (eqb-true m.0.begin (first_token under 0) parts.1))
          | inr called ↦
              let m = any_in (begins_with members Toks Names (first_token under 0)) u.bound.calls called in
              let parts = and_parts (names_function members Toks Names m.0.name) (m.0.begin == first_token under 0) m.1.1 in
              inl (by_call m.0 m.1.0 parts.0 (eqb-true m.0.begin (first_token under 0) parts.1))
        ]

  -- ---- What stands in the parentheses

  -- no name inside the list declares more
  list_clean : (items : ℕ) (m : NameList) (t : ℕ) → ListIsClear a members u items m → m.begin < t → t < m.close → IsClean Toks Names t
  list_clean items m t c low high x is at more =
      let inside : is_inside m x.index ≡ true =
      and_from (nat_lt m.begin x.index) (nat_lt x.index m.close) (lt-ltb m.begin x.index (subst (λ i. m.begin < i) (sym at) low)) (lt-ltb x.index m.close (subst (λ i. i < m.close) (sym at) high)) in
      false≢true (sym (c.declared x is) ∙ and_from (declares_more Toks x) (is_inside m x.index) more inside)

  -- A pair of parentheses with arguments or parameters between them, none of whose names declares more; and tokens of a parameter
  -- use no name of another one.
  pub record IsOwnPair (l : Label) (k : ℕ) (under : Forest) : Type 0 where
    pub begin : ℕ
    pub close : ℕ
    pub first : ℕ
    pub label : Label
    pub items : Forest
    pub is : under ≡ token begin (node label first items (token close none))
    pub close_at : close ≡ k + 1 + token_count items
    pub clean : (t : ℕ) → k + 1 ≤ t → t < close → IsClean Toks Names t
    pub kind : ((label.production ≡ Args) × (is_list l ≡ false))
        ⊎ ((label.production ≡ Params) × (is_at label Params 1 ≡ false) × (is_list l ≡ true) × Between Toks Names u.bound.bare [] k 0 items close)

  abbrev pub IsOwnList : Label → ℕ → Forest → Type 0
  IsOwnList l k under = ((begin : ℕ) × (close : ℕ) × (under ≡ token begin (token close none)) × (is_list l ≡ false)) ⊎ IsOwnPair l k under

  post_no_list : (l : Label) → is_at l Post 2 ≡ true → is_list l ≡ false
  post_no_list l e = by l.production l.alternative e
    where
      by : (q : Production) (i : ℕ) → (ghosts.eq q Post && (i == 2)) ≡ true → (ghosts.eq q Suffix && (i == 2)) ≡ false
      by Post i e = refl
      by _ i e = absurd (false≢true e)

  call_case : (l : Label) (k : ℕ) (under : Forest) → IsOfAlternative (iso s) l under → AreFrom k under → IsOwnCall l under → IsOwnList l k under
  call_case l k under x tokens c = by (call_pair s l under x c.label)
    where
      list_clear : CallIsClear a members u c.list
      list_clear = clear.calls c.list (index_of c.list u.bound.calls c.there) c.own

      by : IsPair Args under → IsOwnList l k under
      by (inl p) = inl (p.begin, p.close, p.is, post_no_list l c.label)
      by (inr p) =
          let w = subst (AreFrom k) p.is tokens in
          let close_at : p.close ≡ k + 1 + token_count p.items = w.1.2.0 in
          let is_ : list_of c.list.name (token p.begin (node p.label p.first p.items (token p.close none))) ≡ c.list = ap (λ (g : Forest). list_of c.list.name g) (sym p.is) ∙ c.is in
          let begin_ : c.list.begin ≡ k = sym (ap (λ (q : NameList). q.begin) is_) ∙ w.0 in
          let close_ : c.list.close ≡ p.close = sym (ap (λ (q : NameList). q.close) is_) in
          inr (record {
            begin = p.begin;
            close = p.close;
            first = p.first;
            label = p.label;
            items = p.items;
            is = p.is;
            close_at = close_at;
            clean = λ t low high. let d = list_clear in list_clean (arguments_of c.list) c.list t d.list (omega (arith, low, begin_)) (omega (arith, high, close_));
            kind = inl (p.production, post_no_list l c.label);
          })

  declarator_case : (l : Label) (k : ℕ) (under : Forest) → IsOfAlternative (iso s) l under → AreFrom k under → IsOwnDeclarator l under → IsOwnList l k under
  declarator_case l k under x tokens c = by (list_pair s l under x c.label)
    where
      list_clear : DeclaratorIsClear a members u c.list
      list_clear = clear.declarators c.list (index_of c.list u.bound.declarators c.there) c.own

      name : Name
      name = let d = c.declared in d.name

      is_name : IsName Names name
      is_name = let d = c.declared in d.is

      at : name.index ≡ c.list.name
      at = let d = c.declared in d.index

      entity : entity_at Names name.index ≡ Some name.entity
      entity =
          (all_of_in (λ (m : Name). (entity_at Names m.index ≡ Some m.entity) × (entity_at Names m.entity ≡ Some m.entity)) Names
          (entities_are_names Toks u.tree u.bound (of_text s members u n reads binds in_order of_declarators of_calls) binds) name is_name).0

      of_function : is_function members Toks Names name.entity ≡ true
      of_function = sym (ap (λ (o : Option ℕ). option_map_or (is_function members Toks Names) o false) (ap (λ (i : ℕ). entity_at Names i) (sym at) ∙ entity)) ∙ c.own

      prototype : is_prototype (parameters_of c.list.name under).form ≡ true
      prototype =
          let d = c.declared in
          let m = clear.names name is_name in
          let has : has_prototype (parameters_in Tree) name.index ≡ true = m.prototype (and_from name.declares (is_function members Toks Names name.entity) d.declares of_function) in
          sym (ap (λ (o : Option ParameterList). option_map_or (λ (p : ParameterList). is_prototype p.form) o false) (ap (λ (i : ℕ). parameters_at (parameters_in Tree) i) at ∙ c.found)) ∙ has

      by : IsPair Params under → IsOwnList l k under
      by (inl p) = absurd (false≢true (ap (λ (g : Forest). is_prototype (parameters_of c.list.name g).form) (sym p.is) ∙ prototype))
      by (inr p) = full (is_at p.label Params 1) refl
        where
          told : is_prototype (if is_at p.label Params 1 then untyped c.list.name p.items else typed c.list.name p.items).form ≡ true
          told = ap (λ (g : Forest). is_prototype (parameters_of c.list.name g).form) (sym p.is) ∙ prototype

          full : (b : Bool) → is_at p.label Params 1 ≡ b → IsOwnList l k under
          full true e = absurd (false≢true (sym (ap (λ (d : Bool). is_prototype (if d then untyped c.list.name p.items else typed c.list.name p.items).form) e) ∙ told))
          full false e =
              let w = subst (AreFrom k) p.is tokens in
              let close_at : p.close ≡ k + 1 + token_count p.items = w.1.2.0 in
              let is_ : list_of c.list.name (token p.begin (node p.label p.first p.items (token p.close none))) ≡ c.list = ap (λ (g : Forest). list_of c.list.name g) (sym p.is) ∙ c.is in
              let begin_ : c.list.begin ≡ k = sym (ap (λ (q : NameList). q.begin) is_) ∙ w.0 in
              let close_ : c.list.close ≡ p.close = sym (ap (λ (q : NameList). q.close) is_) in
              let seps_ : separators c.list ≡ k ∷ (odd_tokens 0 p.items ++ p.close ∷ []) = sym (ap separators is_) ∙ ap (λ (j : ℕ). j ∷ (odd_tokens 0 p.items ++ p.close ∷ [])) w.0 in
              let commas_ : c.list.commas ≡ odd_tokens 0 p.items = sym (ap (λ (q : NameList). q.commas) is_) in
              let names_ : (parameters_of c.list.name under).names ≡ declared_names p.items =
              ap (λ (g : Forest). (parameters_of c.list.name g).names) p.is ∙ ap (λ (d : Bool). (if d then untyped c.list.name p.items else typed c.list.name p.items).names) e in
              inr (record {
                begin = p.begin;
                close = p.close;
                first = p.first;
                label = p.label;
                items = p.items;
                is = p.is;
                close_at = close_at;
                clean = λ t low high. let d = list_clear in list_clean (lists.parameters_of (parameters_in Tree) c.list.name) c.list t d.list (omega (arith, low, begin_)) (omega (arith, high, close_));
                kind = inr (
                  p.production,
                  e,
                  c.label,
                  λ j i less from to.
                      let d = list_clear in
                      let free = d.apart (parameters_of c.list.name under) j i c.found (subst (λ (os : List ℕ). j < length os + 1) (sym commas_) less)
                      (subst (λ (xs : List ℕ). slice_index_or xs j 0 < i) (sym seps_) from)
                      (subst (λ (m : ℕ). i < slice_index_or (separators c.list) m 0) (let one_ : suc j ≡ j + 1 = omega arith in one_) (subst (λ (xs : List ℕ). i < slice_index_or xs (suc j) 0) (sym seps_) to)) in
                      subst (λ (ns : List (Option ℕ)). Frees Toks Names u.bound.bare (remove ns j) i) names_ free,
                );
              })

  -- a list of the functions
  pub own_pairs : (l : Label) (k : ℕ) (under : Forest) → In (entry l under) (entries Tree) → IsOfAlternative (iso s) l under → AreFrom k under → among l under ≡ true → IsOwnList l k under
  own_pairs l k under there x tokens is = elim (own_list l under there is) [
    | inl c ↦ call_case l k under x tokens c
    | inr c ↦ declarator_case l k under x tokens c
  ]

  -- it is bracketed
  pub own_brackets : (l : Label) (k : ℕ) (under : Forest) → In (entry l under) (entries Tree) → IsOfAlternative (iso s) l under → EachNode (IsOfAlternative (iso s)) under → AreFrom k under
      → among l under ≡ true → is_bracketed under ≡ true
  own_brackets l k under there x each tokens is = elim (own_list l under there is) [
    | inl c ↦ call_bracketed s l under c.label x each
    | inr c ↦ by (declarator_case l k under x tokens c)
  ]
    where
      by : IsOwnList l k under → is_bracketed under ≡ true
      by (inl p) = ap is_bracketed p.2
      by (inr p) = elim p.kind [
        | inl call ↦ whole p
        | inr params ↦ typed_bracketed s under (record { begin = p.begin; close = p.close; first = p.first; label = p.label; items = p.items; is = p.is; production = params.0 }) each params.1
      ]
        where
          whole : IsOwnPair l k under → is_bracketed under ≡ true
          whole q = elim (own_list l under there is) [
            | inl c ↦ call_bracketed s l under c.label x each
            | inr c ↦ elim q.kind [
              | inl call ↦ absurd (false≢true (sym call.1 ∙ c.label))
              | inr params ↦ typed_bracketed s under (record { begin = q.begin; close = q.close; first = q.first; label = q.label; items = q.items; is = q.is; production = params.0 }) each params.1
            ]
          ]
