-- No item of a list asks for the name of another one, and their names differ.
use Rattle.std.proofs.Common.{ℕ, ◌+◌, ◌<◌, ◌≤◌, ◌≡◌, Bool, true, false, ◌&&◌, ◌||◌, not, if◌then◌else◌, List, [], ◌∷◌, ◌++◌, Option, None, Some, ◌⊎◌, inl, inr, refl, sym, ap, subst, ◌∙◌, arith}
use Rattle.std.specs.Prelude.{IfSome, codes}
use Rattle.std.specs.List.{list_any, list_all}
use Rattle.std.specs.Option.{option_map_or}
use Rattle.std.specs.Str.{bytes_eq}
use Rattle.std.proofs.lemmas.Bool.{false≢true, and_parts, and_from}
use Rattle.std.proofs.lemmas.Option.{same_Some}
use Rattle.std.proofs.lemmas.Slice.Eq.{bytes_eq-Decides}
use Rattle.c99_grammar.specs.declared.dialects.Edition.{Edition}
use Rattle.cs_base.specs.Token.{Token}
use Rattle.cs_base.proofs.BoolLemmas.{if_is, if_false as if_not, not_false, no_case as not_so, or_right as or_second}
use Rattle.c99_tree.specs.Tree.{Forest, none, token, node, Node, node_of}
use Rattle.c99_tree.specs.declared.production.Label.{Label}
use Rattle.c99_tree.specs.declared.production.Production.{Production}
use Rattle.c99_tree.specs.declared.production.Production.TheVariants.{FunBody, Declaration, Specs, Param, Pdecl}
use Rattle.c99_tree.specs.contracts.production.ProductionPartialEq.TheImpl.{ghosts}
use Rattle.c_types.specs.Declarations.{spelling_at, alike}
use Rattle.c_types.specs.Lists.{bare_at, bare_in}
use Rattle.c_types.specs.Parameters.{declared_names}
use Rattle.c_types.specs.Trees.{is_node, holds_name, name_below}
use Rattle.c_types.proofs.TokenLemmas.{alike_back as alike_turned}
use Rattle.scope_bind.specs.declared.bound.Name.{Name}
use Rattle.tree_laws.specs.TreesOfTexts.{token_count}
use Rattle.tree_laws.proofs.Lookups.{In}
use Rattle.tree_laws.proofs.TokenEnds.{any_of as in_any}
use Rattle.tree_laws.specs.Told.{DeclaresAt, DeclaresAgain, NodeTold, name_in_list, with_name, IsOther, AreOthers}
use Rattle.tree_laws.specs.Told as told
use Rattle.reordered_tree_laws.proofs.OnlyAdding.{name_in}
use Rattle.reordered_tree_laws.specs.Premises.{parameter_name, declared_name, is_item_production, asked_in, is_unasked_in, are_two_apart, are_apart}
use Rattle.reordered_tree_laws.specs.Reordered.{nodes_in}
use Rattle.template_rules.specs.ScopeOffences.{is_type_or_constant, is_function_word, is_spelled_as, is_use}
use Rattle.template_meaning.specs.Children.{children}
use Rattle.template_meaning.proofs.FitTable.{not_these, all_nodes}
use Rattle.template_meaning.proofs.Forms.{is_param}
use Rattle.template_meaning.proofs.ItemForms.{IsClean, IsPart, part_rest, part_behind}
use Rattle.template_meaning.proofs.ItemQuiet.{IsParamShape, param_shape}
use Rattle.template_meaning.proofs.ItemUses.{IsWithin, IsAsked, item_asks}
use Rattle.template_meaning.proofs.ItemsApart.{Frees, FreeItems}
use Rattle.template_meaning.proofs.Parens.{in_first, in_last}
use Rattle.template_meaning.proofs.UnitLists.{any_in}

param_named : (q : Production) → is_param q ≡ true → q ≡ Param
param_named Param e = refl
param_named _ e = absurd (false≢true e)

told_same : (f : Forest) → told.parameter_name f ≡ parameter_name f
told_same none = refl
told_same (token i rest) = told_same rest
told_same (node l first under rest) = ap (λ o. if is_node l Pdecl then name_below l under else o) (told_same rest)

-- ---- Where no item declares a name

declares_none : (q : Production) → not (is_param q) ≡ true → ghosts.eq q Param ≡ false
declares_none Param e = absurd (false≢true e)
declares_none _ e = refl

none_declared : (m : Label) (first : ℕ) (under : Forest) → not (is_param m.production) ≡ true → declared_name (node_of m first under) ≡ None
none_declared m first under e = if_not (is_node m Param) (parameter_name under) None (declares_none m.production e)

module _ (toks : List Token) where
  none_with : (n : Node) (f : Forest) → declared_name n ≡ None → all_nodes (not_these is_param) (children f) ≡ true → list_all (are_two_apart toks n) (nodes_in f) ≡ true
  none_with n none e h = refl
  none_with n (token i rest) e h = none_with n rest e h
  none_with n (node m first under rest) e h =
      let parts = and_parts (not (is_param m.production)) (all_nodes (not_these is_param) (children rest)) h in
      let mm : Node = node_of m first under in
      and_from (are_two_apart toks n mm) _
      (and_from (option_map_or (is_unasked_in toks mm) (declared_name n) true) _ (ap (λ o. option_map_or (is_unasked_in toks mm) o true) e)
      (ap (λ o. option_map_or (is_unasked_in toks n) o true) (none_declared m first under parts.0)))
      (none_with n rest e parts.1)

  pub none_apart : (f : Forest) → all_nodes (not_these is_param) (children f) ≡ true → are_apart toks (nodes_in f) ≡ true
  none_apart none h = refl
  none_apart (token i rest) h = none_apart rest h
  none_apart (node m first under rest) h =
      let parts = and_parts (not (is_param m.production)) (all_nodes (not_these is_param) (children rest)) h in
      and_from (list_all (are_two_apart toks (node_of m first under)) (nodes_in rest)) _
      (none_with (node_of m first under) rest (none_declared m first under parts.0) parts.1) (none_apart rest parts.1)

  -- a token that is spelled as `__func__`
  func_alike : (j i : ℕ) → alike toks j i ≡ true → is_function_word toks i ≡ true → is_function_word toks j ≡ true
  func_alike j i e h =
      let same : spelling_at toks j ≡ spelling_at toks i = (bytes_eq-Decides (spelling_at toks j) (spelling_at toks i)).0 e in
      ap (λ (bs : List ℕ). bytes_eq bs (codes "__func__")) same ∙ h

-- ---- Parameters

module _ (toks : List Token) (names : List Name) (bare : List ℕ) (s : Edition) (lo hi : ℕ) (clean : (t : ℕ) → lo ≤ t → t < hi → IsClean toks names t) where
  abbrev Part : Bool → Bool → Label → ℕ → Forest → Type 0
  Part body listing l a f = IsPart toks names s lo hi clean body listing l a f

  again_clean : (j : ℕ) → IsClean toks names j → DeclaresAgain names j → ⊥
  again_clean j clean_ d =
      clean_ d.name d.is d.index (and_from d.name.declares _ d.declares
      (or_second (is_type_or_constant d.name.kind) _ (or_second (is_function_word toks d.name.index) _ (ap not d.again))))

  func_clean : (j : ℕ) → IsClean toks names j → DeclaresAt names (λ k. true) j → is_function_word toks j ≡ false
  func_clean j clean_ d = not_so (is_function_word toks j) (λ word.
      clean_ d.name d.is d.index (and_from d.name.declares _ d.declares
      (or_second (is_type_or_constant d.name.kind) _ (or_first (is_function_word toks d.name.index) _ (subst (λ i. is_function_word toks i ≡ true) (sym d.index) word)))))
    where
      or_first : (a b : Bool) → a ≡ true → (a || b) ≡ true
      or_first true b e = refl
      or_first false b e = absurd (false≢true e)

  -- ---- The name of one

  module _ (body listing : Bool) (l m : Label) (a first : ℕ) (under rest : Forest) (p : Part body listing l a (node m first under rest)) (param : is_param m.production ≡ true) where
    abbrev n : Node
    n = node_of m first under

    is_node_param : is_node m Param ≡ true
    is_node_param = ap (λ q. ghosts.eq q Param) (param_named m.production param)

    own_name : declared_name n ≡ parameter_name under
    own_name = if_is (is_node m Param) (parameter_name under) None is_node_param

    told_name : name_in_list m under ≡ declared_name n
    told_name = if_is (is_node m Param) (told.parameter_name under) None is_node_param ∙ (told_same under ∙ sym own_name)

    no_holds : (q : Production) → q ≡ Specs → holds_name q ≡ false
    no_holds q e = ap holds_name e

    shape_name : (f : Forest) → IsParamShape toks names s lo hi clean f → name_below m f ≡ parameter_name f
    shape_name f shape = by shape.rest
      where
        alone : (sp : Label) (second : ℕ) (words : Forest) → sp.production ≡ Specs → name_below m (node sp second words none) ≡ parameter_name (node sp second words none)
        alone sp second words e =
            if_not (holds_name sp.production) (name_below sp words) None (no_holds sp.production e)
            ∙ sym (if_not (is_node sp Pdecl) (name_below sp words) None (ap (λ q. ghosts.eq q Pdecl) e))

        with_pdecl : (sp : Label) (second : ℕ) (words : Forest) (q : Label) (third : ℕ) (pd : Forest) → sp.production ≡ Specs → q.production ≡ Pdecl
            → name_below m (node sp second words (node q third pd none)) ≡ parameter_name (node sp second words (node q third pd none))
        with_pdecl sp second words q third pd e h =
            if_not (holds_name sp.production) (name_below sp words) (name_below m (node q third pd none)) (no_holds sp.production e)
            ∙ (if_is (holds_name q.production) (name_below q pd) None (ap holds_name h)
            ∙ sym (if_not (is_node sp Pdecl) (name_below sp words) (parameter_name (node q third pd none)) (ap (λ r. ghosts.eq r Pdecl) e)
            ∙ if_is (is_node q Pdecl) (name_below q pd) None (ap (λ r. ghosts.eq r Pdecl) h)))

        by : (f ≡ node shape.specs shape.first shape.words none)
            ⊎ ((q : Label) × (third : ℕ) × (pd : Forest) × (f ≡ node shape.specs shape.first shape.words (node q third pd none)) × (q.production ≡ Pdecl))
            → name_below m f ≡ parameter_name f
        by (inl e) = subst (λ g. name_below m g ≡ parameter_name g) (sym e) (alone shape.specs shape.first shape.words shape.specs_is)
        by (inr r) = subst (λ g. name_below m g ≡ parameter_name g) (sym r.3) (with_pdecl shape.specs shape.first shape.words r.0 r.1 r.2 shape.specs_is r.4)

    -- it is that below the node
    below_name : name_below m under ≡ declared_name n
    below_name =
        let x = p.each in
        shape_name under (param_shape toks names s lo hi clean m under x.0 (param_named m.production param)) ∙ sym own_name

    -- its token
    name_clean : (j : ℕ) → declared_name n ≡ Some j → IsClean toks names j
    name_clean j e =
        let w = p.tokens in
        let r = name_in m under a j lo hi w.1 p.low (omega (arith, p.high)) (below_name ∙ e) in
        clean j r.0 r.1

    name_word : (j : ℕ) → declared_name n ≡ Some j → is_function_word toks j ≡ false
    name_word j e =
        let d = p.told in
        let here = subst (λ q. NodeTold names toks q ((is_node m FunBody || body) && not (if is_node m Declaration then is_node l FunBody else listing)) l m first under) (param_named m.production param) d.0 in
        func_clean j (name_clean j e) (subst (λ (o : Option ℕ). IfSome o (DeclaresAt names (λ k. true))) (told_same under ∙ (sym own_name ∙ e)) here.1)

  other_name : (seen : List ℕ) (i j : ℕ) → IsClean toks names j → In i seen → IsOther names toks seen j → alike toks j i ≡ false
  other_name [] i j clean_ w d = absurd w
  other_name (k ∷ seen) i j clean_ (inl same) d = elim d.0 [
    | inl e ↦ subst (λ m. alike toks j m ≡ false) same e
    | inr again ↦ absurd (again_clean j clean_ again)
  ]
  other_name (k ∷ seen) i j clean_ (inr w) d = other_name seen i j clean_ w d.1

  turned : (i j : ℕ) → alike toks j i ≡ false → alike toks i j ≡ false
  turned i j e = not_so (alike toks i j) (λ h. false≢true (sym e ∙ alike_turned toks i j h))

  -- what an item asks for is none of some names that are free in its tokens
  unasked : (body listing : Bool) (l m : Label) (a first : ℕ) (under rest : Forest) → Part body listing l a (node m first under rest) → is_param m.production ≡ true
      → ((i : ℕ) → In i (bare_in under) → In i bare) → (others : List (Option ℕ)) → ((i : ℕ) → IsWithin a (a + token_count under) i → Frees toks names bare others i)
      → (j : ℕ) → In (Some j) others → is_function_word toks j ≡ false → list_any (alike toks j) (asked_in (node_of m first under)) ≡ false
  unasked body listing l m a first under rest p param into others free j w word = not_so (list_any (alike toks j) (asked_in (node_of m first under))) (λ h.
      let r = any_in (alike toks j) (asked_in (node_of m first under)) h in
      let asks = item_asks toks names bare s lo hi clean body listing l m a first under rest p (item m.production param) into r.0 r.1.0 in
      let spelled : list_any (is_spelled_as toks r.0) others ≡ true = in_any (is_spelled_as toks r.0) others (Some j) w r.1.1 in
      by r.0 r.1.1 (sym (ap (λ c. c && is_use names bare r.0) spelled) ∙ free r.0 asks.0) asks.1)
    where
      item : (q : Production) → is_param q ≡ true → is_item_production q ≡ true
      item Param e = refl
      item _ e = absurd (false≢true e)

      by : (i : ℕ) → alike toks j i ≡ true → is_use names bare i ≡ false → IsAsked toks names bare s lo hi clean i → ⊥
      by i same no_use (inl used_) = false≢true (sym no_use ∙ used_)
      by i same no_use (inr is_word) = false≢true (sym word ∙ func_alike toks j i same is_word)

  -- ---- Pairs

  -- an item, and those behind it
  pairs_with : (n : Node) (f : Forest) (body listing : Bool) (l : Label) (a : ℕ) (front : List (Option ℕ)) (seen : List ℕ) → Part body listing l a f → all_nodes is_param (children f) ≡ true
      → FreeItems toks names bare front a f → AreOthers names toks seen f → ((i : ℕ) → In i (bare_in f) → In i bare)
      → ((j : ℕ) → declared_name n ≡ Some j → In (Some j) front × (In j seen × (is_function_word toks j ≡ false)))
      → ((j : ℕ) → In (Some j) (declared_names f) → is_function_word toks j ≡ false → list_any (alike toks j) (asked_in n) ≡ false)
      → list_all (are_two_apart toks n) (nodes_in f) ≡ true
  pairs_with n none body listing l a front seen p params free others into known asks = refl
  pairs_with n (token i rest) body listing l a front seen p params free others into known asks =
      pairs_with n rest body listing l (a + 1) front seen (part_behind toks names s lo hi clean body listing l a i rest p) params free others into known asks
  pairs_with n (node m first under rest) body listing l a front seen p params free others into known asks =
      let parts = and_parts (is_param m.production) (all_nodes is_param (children rest)) params in
      let mm : Node = node_of m first under in
      let all : declared_names (node m first under rest) ≡ name_below m under ∷ declared_names rest =
      if_is (is_node m Param) _ _ (is_node_param body listing l m a first under rest p parts.0) in
      let named = told_name body listing l m a first under rest p parts.0 in
      let below = below_name body listing l m a first under rest p parts.0 in
      let apart : (j k : ℕ) → declared_name n ≡ Some j → declared_name mm ≡ Some k → alike toks k j ≡ false = λ j k e h.
      other_name seen j k (name_clean body listing l m a first under rest p parts.0 k h) (known j e).1.0
      (subst (λ (o : Option ℕ). IfSome o (IsOther names toks seen)) (named ∙ h) others.0) in
      and_from (are_two_apart toks n mm) _
      (and_from (option_map_or (is_unasked_in toks mm) (declared_name n) true) _
      (each (declared_name n) (is_unasked_in toks mm) (λ j e. and_from (not (list_any (alike toks j) (asked_in mm))) _
      (not_false (list_any (alike toks j) (asked_in mm))
      (unasked body listing l m a first under rest p parts.0 (λ i w. into i (in_first i (bare_at m under ++ bare_in under) (bare_in rest) (in_last i (bare_at m under) (bare_in under) w)))
      (front ++ declared_names rest) free.0 j (in_first (Some j) front (declared_names rest) (known j e).0) (known j e).1.1))
      (not_false _ (each_not (declared_name mm) (alike toks j) (λ k h. turned j k (apart j k e h))))))
      (each (declared_name mm) (is_unasked_in toks n) (λ k h. and_from (not (list_any (alike toks k) (asked_in n))) _
      (not_false (list_any (alike toks k) (asked_in n))
      (asks k (subst (λ (ns : List (Option ℕ)). In (Some k) ns) (sym all) (inl (below ∙ h))) (name_word body listing l m a first under rest p parts.0 k h)))
      (not_false _ (each_not (declared_name n) (alike toks k) (λ j e. apart j k e h))))))
      (pairs_with n rest body listing l (a + token_count under) (front ++ name_below m under ∷ []) (with_name (name_in_list m under) seen)
      (part_rest toks names s lo hi clean body listing l m a first under rest p) parts.1 free.1 others.1 (λ i w. into i (in_last i (bare_at m under ++ bare_in under) (bare_in rest) w))
      (λ j e. let k = known j e in (in_first (Some j) front (name_below m under ∷ []) k.0, (more_seen (name_in_list m under) j k.1.0, k.1.1)))
      (λ j w. asks j (subst (λ (ns : List (Option ℕ)). In (Some j) ns) (sym all) (inr w))))
    where
      each : (o : Option ℕ) (test : ℕ → Bool) → ((j : ℕ) → o ≡ Some j → test j ≡ true) → option_map_or test o true ≡ true
      each None test h = refl
      each (Some j) test h = h j refl

      each_not : (o : Option ℕ) (test : ℕ → Bool) → ((j : ℕ) → o ≡ Some j → test j ≡ false) → option_map_or test o false ≡ false
      each_not None test h = refl
      each_not (Some j) test h = h j refl

      more_seen : (o : Option ℕ) (j : ℕ) → In j seen → In j (with_name o seen)
      more_seen None j w = w
      more_seen (Some i) j w = inr w

  pub params_apart : (f : Forest) (body listing : Bool) (l : Label) (a : ℕ) (front : List (Option ℕ)) (seen : List ℕ) → Part body listing l a f → all_nodes is_param (children f) ≡ true
      → FreeItems toks names bare front a f → AreOthers names toks seen f → ((i : ℕ) → In i (bare_in f) → In i bare) → are_apart toks (nodes_in f) ≡ true
  params_apart none body listing l a front seen p params free others into = refl
  params_apart (token i rest) body listing l a front seen p params free others into =
      params_apart rest body listing l (a + 1) front seen (part_behind toks names s lo hi clean body listing l a i rest p) params free others into
  params_apart (node m first under rest) body listing l a front seen p params free others into =
      let parts = and_parts (is_param m.production) (all_nodes is_param (children rest)) params in
      let mm : Node = node_of m first under in
      let named = told_name body listing l m a first under rest p parts.0 in
      let below = below_name body listing l m a first under rest p parts.0 in
      let front' : List (Option ℕ) = front ++ name_below m under ∷ [] in
      let seen' : List ℕ = with_name (name_in_list m under) seen in
      let behind = part_rest toks names s lo hi clean body listing l m a first under rest p in
      let into' : (i : ℕ) → In i (bare_in rest) → In i bare = λ i w. into i (in_last i (bare_at m under ++ bare_in under) (bare_in rest) w) in
      and_from (list_all (are_two_apart toks mm) (nodes_in rest)) _
      (pairs_with mm rest body listing l (a + token_count under) front' seen' behind parts.1 free.1 others.1 into'
      (λ j e. (in_last (Some j) front (name_below m under ∷ []) (inl (below ∙ e)), (now_seen (name_in_list m under) j (named ∙ e), name_word body listing l m a first under rest p parts.0 j e)))
      (λ j w word. unasked body listing l m a first under rest p parts.0 (λ i v. into i (in_first i (bare_at m under ++ bare_in under) (bare_in rest) (in_last i (bare_at m under) (bare_in under) v)))
      (front ++ declared_names rest) free.0 j (in_last (Some j) front (declared_names rest) w) word))
      (params_apart rest body listing l (a + token_count under) front' seen' behind parts.1 free.1 others.1 into')
    where
      now_seen : (o : Option ℕ) (j : ℕ) → o ≡ Some j → In j (with_name o seen)
      now_seen None j e = absurd (cc)
      now_seen (Some i) j e = inl (same_Some i j e)
