-- The lists of the functions in a unit are those of its cut, and their marks stand.
use Rattle.std.proofs.Common.{◌≡◌, ℕ, zero, suc, ◌+◌, ◌<◌, ◌≤◌, ◌⊎◌, inl, inr, Bool, true, false, ◌&&◌, if◌then◌else◌, List, [], ◌∷◌, ◌++◌, length, Option, None, Some, refl, sym, ap, subst, ◌∙◌, arith, codes}
use Rattle.std.specs.Prelude.{◌==◌, nat_le, nat_lt, slice_get}
use Rattle.std.specs.List.{list_any, list_all}
use Rattle.std.specs.Option.{option_map_or}
use Rattle.std.specs.Str.{bytes_eq}
use Rattle.std.proofs.lemmas.Bool.{false≢true, and_parts, and_from, or_left, or_right, or_cases, eqb-true, eq-eqb, lt-ltb, le-leb}
use Rattle.std.proofs.lemmas.Option.{same_Some}
use Rattle.cs_base.specs.declared.positions.Part.{Part}
use Rattle.c99_grammar.specs.declared.dialects.Dialect.TheVariants.{Iso}
use Rattle.c99_grammar.specs.declared.dialects.Edition.{Edition}
use Rattle.cs_base.specs.Token.{Token}
use Rattle.c99_tree.specs.Tree.{Forest, none, token, node}
use Rattle.c99_tree.specs.declared.production.Label.{Label}
use Rattle.c99_tree.specs.declared.production.Production.TheVariants.{Post, Args, Params}
use Rattle.c99_grammar.specs.declared.classes.Class.TheVariants.{RightParen, Comma}
use Rattle.c99_grammar.specs.Dialects.{edition}
use Rattle.c99_grammar.specs.Standard.{iso}
use Rattle.c99_read.specs.State.{base_at}
use Rattle.c_types.specs.declared.lists.List.{List as NameList}
use Rattle.c_types.specs.declared.parameters.ParameterForm.TheVariants.{Types as types, Ellipsis as ellipsis}
use Rattle.c_types.specs.declared.parameters.ParameterList.{ParameterList}
use Rattle.c_types.specs.Lists.{odd_tokens, commas_in, list_of}
use Rattle.c_types.specs.Parameters.{ends_in_token, typed, untyped, listed, parameters_of, parameters_in}
use Rattle.c_types.specs.Trees.{is_at, is_list, first_token, last_token}
use Rattle.scope_bind.specs.Bound.{Bound, bound_of, facts_of}
use Rattle.tree_laws.specs.ReadTexts.{ReadParameterListsAreInOrder}
use Rattle.tree_laws.specs.TreesOfTexts.{token_count, AreFrom, IsTreeOf}
use Rattle.tree_laws.proofs.Lookups.{In}
use Rattle.tree_laws.proofs.OfTexts.{trees_of_texts}
use Rattle.tree_laws.proofs.TokenEnds.{any_of}
use Rattle.source_files.specs.Files.{Source}
use Rattle.unit_laws.specs.UnitLinks.{IsIn}
use Rattle.unit_steps.specs.declared.events.Event.{Event}
use Rattle.unit_steps.specs.declared.events.EventKind.{EventKind}
use Rattle.unit_steps.specs.declared.events.EventKind.TheVariants as kind
use Rattle.unit_steps.specs.declared.events.Reached.{Reached}
use Rattle.ws_file.specs.Workspace.{WorkspaceValue}
use Rattle.analysis.specs.Analysis.{UnitAnalysis, AnalysisValue}
use Rattle.expansion_laws.specs.Arranging.{in_lists}
use Rattle.reordered_text_laws.specs.Marks.{marks_of, IsMarked, HasMarks, Each, first_of, last_of}
use Rattle.reordered_text_laws.proofs.TidyLemmas.{cuts_are_tidied}
use Rattle.reordered_text_laws.specs.Classes.{IsOfClasses}
use Rattle.reordered_text_laws.specs.Runs.{Closes, AreSigned}
use Rattle.reordered_text_laws.specs.Trees.{IsAmong, has_no_node, is_woven, ItemsAre, ListIs, ListsAre, TreeHasMarks}
use Rattle.reordered_text_laws.specs.Trees as marked
use Rattle.reordered_text_laws.proofs.ClassLemmas.{tokens_are_of_classes}
use Rattle.reordered_text_laws.proofs.SignLemmas.{signed_marks_stand}
use Rattle.reordered_text_laws.proofs.TreeLemmas.{trees_have_marks}
use Rattle.reordered_text_laws.proofs.Across.{last_is}
use Rattle.reordered_tree_laws.specs.Reordered.{is_parenthesised, is_among}
use Rattle.template_rules.specs.Functions.{names_function}
use Rattle.template_rules.specs.Lists.{separators, arguments_of, count_of}
use Rattle.template_rules.specs.Lists as lists
use Rattle.template_rules.specs.MacroOffences.{is_direct_at, is_line_number}
use Rattle.unit_laws.specs.Walking.{is_line_word}
use Rattle.template_rules.specs.Marks.{is_between}
use Rattle.template_rules.specs.NameOffences.{is_prototype}
use Rattle.template_meaning.specs.Accepted.{IsAccepted}
use Rattle.template_meaning.specs.Children.{EachNode, IsOfAlternative}
use Rattle.template_meaning.specs.Clear.{IsOwn, UnitIsClear, ListIsClear}
use Rattle.template_meaning.specs.Lists.{UnitsAreCut}
use Rattle.reordered.specs.Reordered.{begins_with, begins_list, unit_cut}
use Rattle.template_meaning.proofs.Children.{each_below}
use Rattle.template_meaning.proofs.Clear.{units_are_clear}
use Rattle.template_meaning.proofs.Forms.{IsPair, call_pair, list_pair, args_items, params_items}
use Rattle.template_meaning.proofs.Parens.{in_first, in_last, in_split, in_map, map_in, Entry, entry, entry_of, entries, Begins, calls_listed, parameters_by, pairs_entries}
use Rattle.template_meaning.proofs.UnitLists.{any_in, index_of, in_filtered, filtered_in, declarator_is, parameters_found, bound_is, each_begins, one_of}
use Rattle.template_meaning.proofs.Editions.{no_gnu_places}
use Rattle.edited_unit_laws.proofs.EditionLemmas.{IsReadSo, unit_read_so}
use Rattle.template_meaning.specs.Units.{own_lists, own_marks, run_cut, HavePrototypes, UnitHasLists, UnitsHaveLists}
use Rattle.template_meaning.proofs.OwnNodes.{Ends, call_before, pair_before, call_ends, list_ends, args_commas, params_commas, args_woven, params_woven}
use Rattle.template_meaning.proofs.TokenSigns.{open_at, close_at, comma_at}
use Rattle.template_meaning.proofs.Walks.{each_in, each_at, in_among, among_in, entry_each, entry_marked, in_some_list}

-- ---- lists

in_of : {X : Type 0} (xs : List X) (k : ℕ) (x : X) → slice_get xs k ≡ Some x → In x xs
in_of [] k x e = absurd (cc)
in_of (y ∷ xs) zero x e = inl (same_Some y x e)
in_of (y ∷ xs) (suc k) x e = inr (in_of xs k x e)

all_each : (test : ℕ → Bool) (xs : List ℕ) → list_all test xs ≡ true → Each (λ i. test i ≡ true) xs
all_each test [] h = tt
all_each test (x ∷ xs) h = let both = and_parts (test x) (list_all test xs) h in (both.0, all_each test xs both.1)

pub entry_from : (f : Forest) (k : ℕ) → AreFrom k f → (x : Entry) → In x (entries f) → (j : ℕ) × AreFrom j x.under
entry_from none k w x i = absurd i
entry_from (token j rest) k w x i = entry_from rest (k + 1) w.1 x i
entry_from (node l first under rest) k w x i = elim (in_split x (entry_of l under) (entries under ++ entries rest) i) [
  | inl v ↦ own (is_parenthesised l) v
  | inr v ↦ elim (in_split x (entries under) (entries rest) v) [ inl a ↦ entry_from under k w.1 x a | inr b ↦ entry_from rest (k + token_count under) w.2 x b ]
]
  where
    own : (b : Bool) → In x (if b then entry l under ∷ [] else []) → (j : ℕ) × AreFrom j x.under
    own true (inl e) = (k, subst (λ (y : Entry). AreFrom k y.under) e w.1)
    own true (inr v) = absurd v
    own false v = absurd v

-- commas and a parenthesis that no macro put in
closes : (s : Edition) (toks : List Token) (commas : List ℕ) (close : ℕ) → Each (λ i. base_at (iso s) toks i ≡ Comma) commas → Each (λ i. is_direct_at toks i ≡ true) commas
    → base_at (iso s) toks close ≡ RightParen → is_direct_at toks close ≡ true → Closes toks (commas ++ close ∷ [])
closes s toks [] close a b c d = close_at s toks close c d
closes s toks (m ∷ []) close a b c d = (comma_at s toks m a.0 b.0, close_at s toks close c d)
closes s toks (m ∷ k ∷ ms) close a b c d = (comma_at s toks m a.0 b.0, closes s toks (k ∷ ms) close a.1 b.1 c d)

-- ---- a node with a list

-- What a list of a function is in the tree: a pair of parentheses with items and a comma between each two, or with nothing in
-- it, where so many items are none.
pub record OwnNode (s : Edition) (toks : List Token) (T : Forest) (l : NameList) (items : ℕ) : Type 0 where
  pub label : Label
  pub under : Forest
  pub there : In (entry label under) (entries T)
  pub parenthesised : is_parenthesised label ≡ true
  pub is : list_of l.name under ≡ l
  pub before : l.name < l.begin
  pub ends : Ends (iso s) toks under
  pub commas : Each (λ i. base_at (iso s) toks i ≡ Comma) l.commas
  pub shape : ((begin : ℕ) × (close : ℕ) × (under ≡ token begin (token close none)) × (items ≡ 0))
      ⊎ ((begin : ℕ) × (close : ℕ) × (lab : Label) × (first : ℕ) × (inner : Forest) × (under ≡ token begin (node lab first inner (token close none))) × (is_woven inner ≡ true))

form_empty : (b : ℕ) (c : ℕ) (name : ℕ) (f : Forest) → f ≡ token b (token c none) → is_prototype (parameters_of name f).form ≡ true → ⊥
form_empty b c name f e h = false≢true (sym (ap (λ (g : Forest). is_prototype (parameters_of name g).form) e) ∙ h)

-- a prototype is no identifier list, and does not end in `...`
record IsTyped (lab : Label) (inner : Forest) : Type 0 where
  types : is_at lab Params 1 ≡ false
  no_dots : ends_in_token false inner ≡ false

typed_so : (lab : Label) (inner : Forest) (name : ℕ) → is_prototype (listed name lab inner).form ≡ true → IsTyped lab inner
typed_so lab inner name h = by (is_at lab Params 1) refl h
  where
    dots : (b : Bool) → is_prototype (if b then ellipsis else types) ≡ true → b ≡ false
    dots true g = absurd (false≢true g)
    dots false g = refl

    by : (b : Bool) → is_at lab Params 1 ≡ b → is_prototype (if b then untyped name inner else typed name inner).form ≡ true → IsTyped lab inner
    by true e g = absurd (false≢true g)
    by false e g = record { types = e; no_dots = dots (ends_in_token false inner) g }

-- ---- a unit

module _ (in_order : ReadParameterListsAreInOrder) (cuts : UnitsAreCut) (source : Source) (ws : WorkspaceValue) (a : AnalysisValue) (members : List Part) (order : List ℕ) (h : IsAccepted source ws a members order)
    (u : UnitAnalysis) (i : IsIn a.units u) (typed_names : HavePrototypes members u) where
  abbrev s : Edition
  s = edition u.standard

  abbrev toks : List Token
  toks = u.text.toks

  abbrev T : Forest
  T = u.tree.under

  count_is : count_of a members ≡ length order
  count_is = sym (eqb-true (length order) (count_of a members) (and_parts (length order == count_of a members) _ h.ordered).0)

  clear : UnitIsClear a members u
  clear = units_are_clear source ws a members order h u i

  pub read : IsReadSo u
  read = unit_read_so source ws a h.analysed (no_gnu_places source ws a members order h) u i

  declared : (l : NameList) → In l u.bound.declarators → IsOwn members u l → lists.parameters_of (parameters_in T) l.name ≡ length order
  declared l w own = let c = clear in let d = c.declarators l (index_of l u.bound.declarators w) own in let list = d.list in list.many ∙ count_is

  called : (l : NameList) → In l u.bound.calls → IsOwn members u l → arguments_of l ≡ length order
  called l w own = let c = clear in let d = c.calls l (index_of l u.bound.calls w) own in let list = d.list in list.many ∙ count_is

  pub of_text : IsTreeOf (length toks) u.tree
  of_text = let r = read in trees_of_texts s toks u.tree r.reads

  pub each_of : EachNode (IsOfAlternative (iso s)) T
  each_of = let r = read in each_below s toks u.tree r.reads

  begins : EachNode Begins T
  begins = let r = read in each_begins s members u (length order) r.reads r.binds in_order declared called

  class_of : marked.EachNode (IsOfClasses (iso s) toks) T
  class_of = let r = read in tokens_are_of_classes (Iso s) toks u.tree r.reads

  one_node : (x y : Entry) → In x (entries T) → In y (entries T) → x.begin ≡ y.begin → x ≡ y
  one_node = let r = read in one_of s members u (length order) r.reads r.binds in_order declared called

  bound_so : u.bound ≡ bound_of T (facts_of toks T)
  bound_so = let r = read in bound_is s members u (length order) r.reads r.binds in_order declared called

  -- ---- calls

  call_node : (l : NameList) → In l u.bound.calls → OwnNode s toks T l (arguments_of l)
  call_node l w =
      let c = calls_listed T l (subst (λ (b : Bound). In l b.calls) bound_so w) in
      let e = c.entered in
      let x = entry_each (IsOfAlternative (iso s)) T each_of (entry e.label c.under) e.there in
      let k = entry_marked (IsOfClasses (iso s) toks) T class_of (entry e.label c.under) e.there in
      let from = entry_from T 0 (let o = of_text in o.tokens) (entry e.label c.under) e.there in
      let commas_is : commas_in c.under ≡ l.commas = ap (λ (m : NameList). m.commas) c.is in
      let begin_is : first_token c.under 0 ≡ l.begin = ap (λ (m : NameList). m.begin) c.is in
      let close_is : last_token c.under 0 ≡ l.close = ap (λ (m : NameList). m.close) c.is in
      let parts = shaped e.label c.under e.passes from.0 from.1 x.0 x.1 k.1 (begin_is) (close_is) in
      record {
        label = e.label;
        under = c.under;
        there = e.there;
        parenthesised = or_left (is_at e.label Post 2) (is_list e.label) e.passes;
        is = c.is;
        before = call_before T 0 l (let o = of_text in o.tokens) begins (subst (λ (b : Bound). In l b.calls) bound_so w);
        ends = call_ends s toks e.label c.under k.0 e.passes;
        commas = subst (λ (ms : List ℕ). Each (λ j. base_at (iso s) toks j ≡ Comma) ms) commas_is parts.0;
        shape = parts.1;
      }
    where
      Shape : Forest → Type 0
      Shape under = ((begin : ℕ) × (close : ℕ) × (under ≡ token begin (token close none)) × (arguments_of l ≡ 0))
          ⊎ ((begin : ℕ) × (close : ℕ) × (lab : Label) × (first : ℕ) × (inner : Forest) × (under ≡ token begin (node lab first inner (token close none))) × (is_woven inner ≡ true))

      no_arguments : (b : Bool) → b ≡ true → (if b then 0 else length l.commas + 1) ≡ 0
      no_arguments true e = refl
      no_arguments false e = absurd (false≢true e)

      shaped : (label : Label) (under : Forest) → is_at label Post 2 ≡ true → (k : ℕ) → AreFrom k under → IsOfAlternative (iso s) label under → EachNode (IsOfAlternative (iso s)) under
          → marked.EachNode (IsOfClasses (iso s) toks) under → first_token under 0 ≡ l.begin → last_token under 0 ≡ l.close
          → Each (λ j. base_at (iso s) toks j ≡ Comma) (commas_in under) × Shape under
      shaped label under passes k from own each classes_ begin_is close_is = by (call_pair s label under own passes)
        where
          by : IsPair Args under → Each (λ j. base_at (iso s) toks j ≡ Comma) (commas_in under) × Shape under
          by (inl p) =
              let from2 : AreFrom k (token p.begin (token p.close none)) = subst (AreFrom k) p.is from in
              let b : p.begin ≡ l.begin = sym (ap (λ (f : Forest). first_token f 0) p.is) ∙ begin_is in
              let c : p.close ≡ l.close = sym (ap (λ (f : Forest). last_token f 0) p.is) ∙ close_is in
              let near : l.close ≡ l.begin + 1 = omega (arith, b, c, from2.0, from2.1.0) in (
                subst (λ (f : Forest). Each (λ j. base_at (iso s) toks j ≡ Comma) (commas_in f)) (sym p.is) tt,
                inl (p.begin, p.close, p.is, no_arguments (l.close == l.begin + 1) (eq-eqb l.close (l.begin + 1) near)),
              )
          by (inr p) =
              let each2 = subst (EachNode (IsOfAlternative (iso s))) p.is each in
              let classes2 = subst (marked.EachNode (IsOfClasses (iso s) toks)) p.is classes_ in (
                subst (λ (f : Forest). Each (λ j. base_at (iso s) toks j ≡ Comma) (commas_in f)) (sym p.is) (args_commas s toks p.label p.items classes2.0 p.production),
                inr (p.begin, p.close, p.label, p.first, p.items, p.is, args_woven p.items (args_items s p.label p.items each2.0 p.production)),
              )

  -- ---- declarators

  declarator_node : (l : NameList) → In l u.bound.declarators → IsOwn members u l → OwnNode s toks T l (length order)
  declarator_node l w own =
      let r = read in
      let d = declarator_is s members u (length order) r.reads r.binds in_order declared called l w in
      let p = d.0 in
      let e = pairs_entries T p d.1 in
      let x = entry_each (IsOfAlternative (iso s)) T each_of (entry e.label p.under) e.there in
      let k = entry_marked (IsOfClasses (iso s) toks) T class_of (entry e.label p.under) e.there in
      let found = parameters_found s members u (length order) r.reads r.binds in_order declared called l w p d.1 d.2 d.3 in
      let has = typed_names l (index_of l u.bound.declarators w) own in
      let prototype : is_prototype (parameters_by p).form ≡ true = sym (ap (λ (o : Option ParameterList). option_map_or (λ (q : ParameterList). is_prototype q.form) o false) found) ∙ has in
      let parts = shaped e.label p.name p.under e.passes x.0 x.1 k.1 prototype in
      let name_is : p.name ≡ l.name = ap (λ (m : NameList). m.name) d.2 in
      let commas_is : commas_in p.under ≡ l.commas = ap (λ (m : NameList). m.commas) d.2 in
      let begin_is : first_token p.under 0 ≡ l.begin = ap (λ (m : NameList). m.begin) d.2 in
      let before_ = pair_before s T 0 p (let o = of_text in o.tokens) each_of begins d.1 in
      record {
        label = e.label;
        under = p.under;
        there = e.there;
        parenthesised = or_right (is_at e.label Post 2) (is_list e.label) e.passes;
        is = ap (λ (n : ℕ). list_of n p.under) (sym name_is) ∙ d.2;
        before = omega (arith, before_, name_is, begin_is);
        ends = list_ends s toks e.label p.under k.0 e.passes;
        commas = subst (λ (ms : List ℕ). Each (λ j. base_at (iso s) toks j ≡ Comma) ms) commas_is parts.0;
        shape = inr parts.1;
      }
    where
      Shape : Forest → Type 0
      Shape under = (begin : ℕ) × (close : ℕ) × (lab : Label) × (first : ℕ) × (inner : Forest) × (under ≡ token begin (node lab first inner (token close none))) × (is_woven inner ≡ true)

      shaped : (label : Label) (name : ℕ) (under : Forest) → is_list label ≡ true → IsOfAlternative (iso s) label under → EachNode (IsOfAlternative (iso s)) under
          → marked.EachNode (IsOfClasses (iso s) toks) under → is_prototype (parameters_of name under).form ≡ true
          → Each (λ j. base_at (iso s) toks j ≡ Comma) (commas_in under) × Shape under
      shaped label name under passes own_ each classes_ prototype = by (list_pair s label under own_ passes)
        where
          by : IsPair Params under → Each (λ j. base_at (iso s) toks j ≡ Comma) (commas_in under) × Shape under
          by (inl p) = absurd (form_empty p.begin p.close name under p.is prototype)
          by (inr p) =
              let each2 = subst (EachNode (IsOfAlternative (iso s))) p.is each in
              let classes2 = subst (marked.EachNode (IsOfClasses (iso s) toks)) p.is classes_ in
              let t = typed_so p.label p.items name (subst (λ (f : Forest). is_prototype (parameters_of name f).form ≡ true) p.is prototype) in (
                subst (λ (f : Forest). Each (λ j. base_at (iso s) toks j ≡ Comma) (commas_in f)) (sym p.is) (params_commas s toks p.label p.items classes2.0 p.production t.types),
                (p.begin, p.close, p.label, p.first, p.items, p.is, params_woven p.items (params_items s p.label p.items each2.0 p.production t.types) t.no_dots),
              )

  -- ---- own lists

  abbrev is_own : NameList → Bool
  is_own l = names_function members toks u.bound.names l.name

  pub own_node : (l : NameList) → In l (own_lists members u) → OwnNode s toks T l (length order)
  own_node l w =
      let parts = in_filtered is_own l (u.bound.declarators ++ u.bound.calls) w in
      elim (in_split l u.bound.declarators u.bound.calls parts.0) [
        | inl d ↦ declarator_node l d parts.1
        | inr c ↦ subst (OwnNode s toks T l) (called l c parts.1) (call_node l c)
      ]

  own_clear : (l : NameList) → In l (own_lists members u) → (n : ℕ) × ListIsClear a members u n l
  own_clear l w =
      let parts = in_filtered is_own l (u.bound.declarators ++ u.bound.calls) w in
      let c = clear in
      elim (in_split l u.bound.declarators u.bound.calls parts.0) [
        | inl d ↦ let k = c.declarators l (index_of l u.bound.declarators d) parts.1 in (_, k.list)
        | inr d ↦ let k = c.calls l (index_of l u.bound.calls d) parts.1 in (_, k.list)
      ]

  own_marked : (l : NameList) → In l (own_lists members u) → IsAmong (own_marks members u) (separators l)
  own_marked l w = in_among (own_marks members u) (separators l) (map_in separators (own_lists members u) l w)

  signed : (l : NameList) → In l (own_lists members u) → AreSigned toks (separators l)
  signed l w =
      let n = own_node l w in
      let c = own_clear l w in
      let clear_ = c.1 in
      let marks = and_parts (is_direct_at toks l.name) _ clear_.direct in
      let marks2 = and_parts (is_direct_at toks l.begin) _ marks.1 in
      let marks3 = and_parts (list_all (is_direct_at toks) l.commas) (is_direct_at toks l.close) marks2.1 in
      let begin_is : first_token n.under 0 ≡ l.begin = ap (λ (m : NameList). m.begin) n.is in
      let close_is : last_token n.under 0 ≡ l.close = ap (λ (m : NameList). m.close) n.is in
      let ends = n.ends in (
        open_at s toks l.begin (ap (base_at (iso s) toks) (sym begin_is) ∙ ends.open_) marks2.0,
        closes s toks l.commas l.close n.commas (all_each (is_direct_at toks) l.commas marks3.0) (ap (base_at (iso s) toks) (sym close_is) ∙ ends.close) marks3.1,
      )

  -- the marks of a full pair
  pub pair_marks : (l : NameList) (under inner : Forest) (begin close first : ℕ) (lab : Label) → list_of l.name under ≡ l → under ≡ token begin (node lab first inner (token close none))
      → separators l ≡ begin ∷ (odd_tokens 0 inner ++ close ∷ [])
  pair_marks l under inner begin close first lab is shape =
      ap separators (sym is) ∙ ap (λ (f : Forest). separators (list_of l.name f)) shape

  -- what is among the lists is the node of one
  listed_so : (l : Label) (under : Forest) → In (entry l under) (entries T) → ListsAre (begins_list members u) (IsAmong (own_marks members u)) l under
  listed_so label under there among =
      let both = and_parts (is_parenthesised label) _ among in
      let begun = (and_parts (begins_list members u (first_token under 0)) _ both.1).0 in
      let found : (m : NameList) × (In m (own_lists members u) × (m.begin ≡ first_token under 0)) = by (or_cases (list_any (begins_with members toks u.bound.names (first_token under 0)) u.bound.declarators)
      (list_any (begins_with members toks u.bound.names (first_token under 0)) u.bound.calls) begun) in
      let n = own_node found.0 found.1.0 in
      let begin_is : first_token n.under 0 ≡ first_token under 0 = ap (λ (m : NameList). m.begin) n.is ∙ found.1.1 in
      let one = one_node (entry n.label n.under) (entry label under) n.there there begin_is in
      let unders : n.under ≡ under = ap (λ (x : Entry). x.under) one in
      subst (ListIs (IsAmong (own_marks members u))) unders (formed n.under n.shape (λ begin close lab first inner shape.
      subst (IsAmong (own_marks members u)) (pair_marks found.0 n.under inner begin close first lab n.is shape) (own_marked found.0 found.1.0)))
    where
      formed : (f : Forest) → ((begin : ℕ) × (close : ℕ) × (f ≡ token begin (token close none)) × (length order ≡ 0))
          ⊎ ((begin : ℕ) × (close : ℕ) × (lab : Label) × (first : ℕ) × (inner : Forest) × (f ≡ token begin (node lab first inner (token close none))) × (is_woven inner ≡ true))
          → ((begin close : ℕ) (lab : Label) (first : ℕ) (inner : Forest) → f ≡ token begin (node lab first inner (token close none)) → IsAmong (own_marks members u) (begin ∷ (odd_tokens 0 inner ++ close ∷ [])))
          → ListIs (IsAmong (own_marks members u)) f
      formed f (inl (begin, close, e, none_)) marks = subst (ListIs (IsAmong (own_marks members u))) (sym e) tt
      formed f (inr (begin, close, lab, first, inner, e, woven)) marks = subst (ListIs (IsAmong (own_marks members u))) (sym e) (inr (woven, marks begin close lab first inner e))

      by : (list_any (begins_with members toks u.bound.names (first_token under 0)) u.bound.declarators ≡ true) ⊎ (list_any (begins_with members toks u.bound.names (first_token under 0)) u.bound.calls ≡ true)
          → (m : NameList) × (In m (own_lists members u) × (m.begin ≡ first_token under 0))
      by (inl d) =
          let m = any_in (begins_with members toks u.bound.names (first_token under 0)) u.bound.declarators d in
          let parts = and_parts (is_own m.0) (m.0.begin == first_token under 0) m.1.1 in
          (m.0, (filtered_in is_own m.0 (u.bound.declarators ++ u.bound.calls) (in_first m.0 u.bound.declarators u.bound.calls m.1.0) parts.0, eqb-true m.0.begin (first_token under 0) parts.1))
      by (inr c) =
          let m = any_in (begins_with members toks u.bound.names (first_token under 0)) u.bound.calls c in
          let parts = and_parts (is_own m.0) (m.0.begin == first_token under 0) m.1.1 in
          (m.0, (filtered_in is_own m.0 (u.bound.declarators ++ u.bound.calls) (in_last m.0 u.bound.declarators u.bound.calls m.1.0) parts.0, eqb-true m.0.begin (first_token under 0) parts.1))

  own_if : (b : Bool) (label : Label) (under : Forest) → b ≡ true → In (entry label under) (if b then entry label under ∷ [] else [])
  own_if true label under e = inl refl
  own_if false label under e = absurd (false≢true e)

  each_listed : (f : Forest) → ((x : Entry) → In x (entries f) → In x (entries T)) → marked.EachNode (ListsAre (begins_list members u) (IsAmong (own_marks members u))) f
  each_listed none into = tt
  each_listed (token j rest) into = each_listed rest into
  each_listed (node label first under rest) into = (
    λ among.
        let par = (and_parts (is_parenthesised label) _ among).0 in
        listed_so label under (into (entry label under) (in_first (entry label under) (entry_of label under) (entries under ++ entries rest) (own_if (is_parenthesised label) label under par))) among,
    each_listed under (λ x w. into x (in_last x (entry_of label under) (entries under ++ entries rest) (in_first x (entries under) (entries rest) w))),
    each_listed rest (λ x w. into x (in_last x (entry_of label under) (entries under ++ entries rest) (in_last x (entries under) (entries rest) w))),
  )

  has : TreeHasMarks (begins_list members u) (own_marks members u) u.tree
  has = trees_have_marks (begins_list members u) (own_marks members u) u.tree (let o = of_text in o.tokens) (each_listed T (λ x w. w))

  marked_ : IsMarked 0 0 (length toks) (run_cut members u)
  marked_ =
      let t = cuts_are_tidied (unit_cut members u) in
      let k = has in
      let o = of_text in
      t.marked 0 0 (length toks) (omega arith) (subst (λ (n : ℕ). HasMarks 0 0 n (unit_cut members u)) o.all k.marks)

  same_marks : marks_of 0 (run_cut members u) ≡ marks_of 0 (unit_cut members u)
  same_marks = let t = cuts_are_tidied (unit_cut members u) in t.marks 0

  marks_own : Each (IsAmong (own_marks members u)) (marks_of 0 (run_cut members u))
  marks_own = let k = has in subst (λ (ls : List (List ℕ)). Each (IsAmong (own_marks members u)) ls) (sym same_marks) k.each

  signed_own : Each (AreSigned toks) (own_marks members u)
  signed_own = each_in (AreSigned toks) (own_marks members u) one
    where
      one : (t : List ℕ) → In t (own_marks members u) → AreSigned toks t
      one t w = let m = in_map separators (own_lists members u) t w in subst (AreSigned toks) m.1.1 (signed m.0 m.1.0)

  -- a list of the functions in which so many tokens were put out
  found_list : (before : ℕ) → in_lists 0 (run_cut members u) before ≡ true → (l : NameList) × (In l (own_lists members u) × ((l.begin < before) × (before ≤ l.close)))
  found_list before e =
      let r = in_some_list 0 0 (length toks) before (run_cut members u) marked_ e in
      let own = each_at (IsAmong (own_marks members u)) (marks_of 0 (run_cut members u)) r.0 marks_own r.1 in
      let m = in_map separators (own_lists members u) r.0 (among_in (own_marks members u) r.0 own) in
      let l = m.0 in
      let begin_is : l.begin ≡ first_of r.0 = ap first_of m.1.1 in
      let close_is : last_of (separators l) ≡ last_of r.0 = ap last_of m.1.1 in
      let last = last_is l.begin l.commas l.close in
      let low = r.2 in
      let high = r.3 in
      (l, (m.1.0, (omega (arith, begin_is, low), omega (arith, close_is, last, high))))

  none_reached : (r : Reached) → IsIn u.text.reached r → in_lists 0 (run_cut members u) r.before ≡ false
  none_reached r of_ = by (in_lists 0 (run_cut members u) r.before) refl
    where
      by : (b : Bool) → in_lists 0 (run_cut members u) r.before ≡ b → b ≡ false
      by false e = refl
      by true e =
          let f = found_list r.before e in
          let l = f.0 in
          let n = own_node l f.1.0 in
          let c = own_clear l f.1.0 in
          let clear_ = c.1 in
          let before_ = n.before in
          let low = f.1.1.0 in
          let high = f.1.1.1 in
          let here : is_between l.name l.close r.before ≡ true = and_from (nat_lt l.name r.before) (nat_le r.before l.close) (lt-ltb l.name r.before (omega (arith, before_, low))) (le-leb r.before l.close high) in
          let across = any_of (λ (q : Reached). is_between l.name l.close q.before) u.text.reached r (in_of u.text.reached of_.0 r of_.1) here in
          absurd (false≢true (sym clear_.one_run ∙ across))

  line_is : (k : EventKind) (d : Option _) (n : Option Token) (name : Token) → k ≡ kind.Replaced → d ≡ None → n ≡ Some name → is_line_word name.text ≡ true → is_line_number k d n ≡ true
  line_is kind.Replaced None (Some t) name a b c e = ap (λ (x : Token). is_line_word x.text) (same_Some t name c) ∙ e
  line_is _ _ _ name a b c e = absurd (cc)

  no_line : (e : Event) (name : Token) → IsIn u.text.events e → e.kind ≡ kind.Replaced → e.name ≡ Some name → e.def ≡ None → is_line_word name.text ≡ true → in_lists 0 (run_cut members u) e.before ≡ false
  no_line e name of_ is_kind is_name is_def text = by (in_lists 0 (run_cut members u) e.before) refl
    where
      by : (b : Bool) → in_lists 0 (run_cut members u) e.before ≡ b → b ≡ false
      by false x = refl
      by true x =
          let f = found_list e.before x in
          let l = f.0 in
          let c = own_clear l f.1.0 in
          let clear_ = c.1 in
          let here : is_between l.begin l.close e.before ≡ true = and_from (nat_lt l.begin e.before) (nat_le e.before l.close) (lt-ltb l.begin e.before f.1.1.0) (le-leb e.before l.close f.1.1.1) in
          let both = and_from (is_line_number e.kind e.def e.name) (is_between l.begin l.close e.before) (line_is e.kind e.def e.name name is_kind is_def is_name text) here in
          absurd (false≢true (sym (clear_.lines e of_) ∙ both))

  all_marked : 0 < length order → Each (IsAmong (marks_of 0 (run_cut members u))) (own_marks members u)
  all_marked some = each_in (IsAmong (marks_of 0 (run_cut members u))) (own_marks members u) one
    where
      no_both : (f : Forest) → has_no_node f ≡ true → is_woven f ≡ true → ⊥
      no_both none a b = false≢true b
      no_both (token j f) a b = false≢true b
      no_both (node x y z f) a b = false≢true a

      by : (l : NameList) (begin close : ℕ) (lab : Label) (first : ℕ) (inner under : Forest) → list_of l.name under ≡ l → under ≡ token begin (node lab first inner (token close none)) → is_woven inner ≡ true
          → ListIs (IsAmong (marks_of 0 (unit_cut members u))) under → IsAmong (marks_of 0 (run_cut members u)) (separators l)
      by l begin close lab first inner under is shape woven list = items (subst (ListIs (IsAmong (marks_of 0 (unit_cut members u)))) shape list)
        where
          items : ItemsAre (IsAmong (marks_of 0 (unit_cut members u))) begin close inner → IsAmong (marks_of 0 (run_cut members u)) (separators l)
          items (inl names) = absurd (no_both inner names woven)
          items (inr (w, among)) = subst (λ (ls : List (List ℕ)). IsAmong ls (separators l)) (sym same_marks)
              (subst (IsAmong (marks_of 0 (unit_cut members u))) (sym (pair_marks l under inner begin close first lab is shape)) among)

      among_lists : (l : NameList) → In l (own_lists members u) → (label : Label) (under : Forest) → is_parenthesised label ≡ true → list_of l.name under ≡ l → ends_in_token false under ≡ true → is_among (begins_list members u) label under ≡ true
      among_lists l w label under par is ends_ =
          let parts = in_filtered is_own l (u.bound.declarators ++ u.bound.calls) w in
          let begin_is : l.begin ≡ first_token under 0 = sym (ap (λ (m : NameList). m.begin) is) in
          let test = begins_with members toks u.bound.names (first_token under 0) in
          let pass : test l ≡ true = and_from (is_own l) (l.begin == first_token under 0) parts.1 (eq-eqb l.begin (first_token under 0) begin_is) in
          and_from (is_parenthesised label) (begins_list members u (first_token under 0) && ends_in_token false under) par
          (and_from (begins_list members u (first_token under 0)) (ends_in_token false under)
          (elim (in_split l u.bound.declarators u.bound.calls parts.0) [
            | inl d ↦ or_left (list_any test u.bound.declarators) (list_any test u.bound.calls) (any_of test u.bound.declarators l d pass)
            | inr c ↦ or_right (list_any test u.bound.declarators) (list_any test u.bound.calls) (any_of test u.bound.calls l c pass)
          ]) ends_)

      one_marked : (l : NameList) → In l (own_lists members u) → OwnNode s toks T l (length order) → IsAmong (marks_of 0 (run_cut members u)) (separators l)
      one_marked l w n = shaped n.shape
        where
          shaped : ((begin : ℕ) × (close : ℕ) × (n.under ≡ token begin (token close none)) × (length order ≡ 0))
              ⊎ ((begin : ℕ) × (close : ℕ) × (lab : Label) × (first : ℕ) × (inner : Forest) × (n.under ≡ token begin (node lab first inner (token close none))) × (is_woven inner ≡ true))
              → IsAmong (marks_of 0 (run_cut members u)) (separators l)
          shaped (inl (begin, close, e, none_)) = absurd (omega (arith, some, none_))
          shaped (inr (begin, close, lab, first, inner, e, woven)) =
              let k = has in
              let at = entry_marked (ListsAre (begins_list members u) (IsAmong (marks_of 0 (unit_cut members u)))) T k.all (entry n.label n.under) n.there in
              by l begin close lab first inner n.under n.is e woven (at.0 (among_lists l w n.label n.under n.parenthesised n.is (ap (ends_in_token false) e)))

      one : (t : List ℕ) → In t (own_marks members u) → IsAmong (marks_of 0 (run_cut members u)) t
      one t w =
          let m = in_map separators (own_lists members u) t w in
          subst (IsAmong (marks_of 0 (run_cut members u))) m.1.1 (one_marked m.0 m.1.0 (own_node m.0 m.1.0))

  unit_lists : UnitHasLists members order u
  unit_lists =
      let t = cuts_are_tidied (unit_cut members u) in
      let c = cuts source ws a members order h u i in
      record {
        stand = record {
          marks = signed_marks_stand (length toks) (run_cut members u) toks marked_ (each_in (AreSigned toks) (marks_of 0 (run_cut members u)) (λ l w. each_at (AreSigned toks) (own_marks members u) l signed_own (each_at (IsAmong (own_marks members u)) (marks_of 0 (run_cut members u)) l marks_own (in_among (marks_of 0 (run_cut members u)) l w))));
          reached = none_reached;
          lines = no_line;
        };
        each = t.each (length order) c.each;
        marked = marked_;
        marks = marks_own;
        signed = signed_own;
        named = λ l i. let n = own_node l (among_in (own_lists members u) l i) in n.before;
        one_run = λ l i. let c = own_clear l (among_in (own_lists members u) l i) in let k = c.1 in k.one_run;
        all = all_marked;
      }

pub units_have_lists : ReadParameterListsAreInOrder → UnitsAreCut → UnitsHaveLists
units_have_lists in_order cuts source ws a members order h u i typed_names = unit_lists in_order cuts source ws a members order h u i typed_names
