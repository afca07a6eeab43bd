-- The node of each list of a function: where it stands, what stands in it, and which of its tokens are marks.
use Rattle.std.proofs.Common.{◌≡◌, ℕ, zero, suc, ◌+◌, ◌<◌, inl, inr, Bool, true, false, ◌&&◌, ◌||◌, if◌then◌else◌, List, [], ◌∷◌, ◌++◌, Option, None, Some, refl, sym, ap, subst, ◌∙◌, arith}
use Rattle.std.specs.Prelude.{◌==◌, slice_get}
use Rattle.std.proofs.lemmas.Bool.{false≢true, and_parts, and_from, eqb-true, eq-eqb}
use Rattle.std.proofs.lemmas.Option.{same_Some}
use Rattle.c99_grammar.specs.declared.dialects.Edition.{Edition}
use Rattle.cs_base.specs.Token.{Token}
use Rattle.c99_tree.specs.Tree.{Forest, none, token, node}
use Rattle.c99_tree.specs.declared.production.Label.{Label}
use Rattle.c99_tree.specs.declared.production.Production.{Production}
use Rattle.c99_tree.specs.declared.production.Production.TheVariants.{Post, Suffix, Args, Params, Param, Assign, Declarator, Unary, Primary}
use Rattle.c99_tree.specs.contracts.production.ProductionPartialEq.TheImpl.{ghosts}
use Rattle.c99_tree.proofs.ProductionLemmas.{declarator_named, post_named, suffix_named}
use Rattle.c99_grammar.specs.Items.{Item, part, act, ◌·◌, maybe, many, own, deep, scope, end, keep, tok, plain, Alternative, next_two, is, is_not}
use Rattle.c99_grammar.specs.declared.classes.Class.TheVariants.{LeftParen, RightParen, Comma, Ellipsis}
use Rattle.c99_grammar.specs.Standard.{Grammar, iso}
use Rattle.c99_read.specs.State.{base_at}
use Rattle.c_types.specs.declared.lists.List.{List as NameList}
use Rattle.c_types.specs.Lists.{odd_tokens, list_of, call_in, calls_in, nearest_of, is_declaring}
use Rattle.c_types.specs.Parameters.{ends_in_token}
use Rattle.c_types.specs.Trees.{is_node, is_at, is_list, name_below, first_token, last_token}
use Rattle.tree_laws.specs.TreesOfTexts.{token_count, AreFrom}
use Rattle.tree_laws.proofs.Lookups.{In}
use Rattle.reordered_text_laws.specs.Marks.{Each}
use Rattle.reordered_text_laws.specs.Classes.{HasClass, IsOfClasses}
use Rattle.reordered_text_laws.specs.Classes as classes
use Rattle.reordered_text_laws.specs.Trees.{is_woven, is_woven_on}
use Rattle.template_meaning.specs.Children.{children, EachNode, IsOfAlternative}
use Rattle.template_meaning.proofs.Forms.{are_items, are_more, any_production, is_param}
use Rattle.template_meaning.proofs.Parens.{entry, entry_of, entries, Begins, within, in_first, in_split, Pair, own_pair, pair_in, pairs_in}
use Rattle.template_meaning.proofs.NameBefore.{declarator_alternative, declarator_before}
use Rattle.template_meaning.proofs.Walks.{AreCommas, commas_odd, first_child, last_child}

in_some : {X : Type 0} (c : Bool) (x : X) (ys : List X) → In x (if c then ys else []) → (c ≡ true) × In x ys
in_some true x ys w = (refl, w)
in_some false x ys w = absurd w

-- ---- names stand before their lists

call_before_in : (f : Forest) (k : ℕ) (l : NameList) → AreFrom k f → EachNode Begins f → In l (call_in f) → l.name < l.begin
call_before_in (node m first (token i none) (node n begin under rest)) k l w each there =
    let is_here = in_one (is_at m Primary 1 && is_at n Post 2) l (list_of i under) there in
    let post = (and_parts (is_at m Primary 1) (is_at n Post 2) is_here.0).1 in
    let own_ : In (entry n under) (entry_of n under) = own_entry (is_at n Post 2 || is_list n) (entry n under) (or_first (is_at n Post 2) (is_list n) post) in
    let from = within (node n begin under rest) (k + 1) w.2 each.2 (entry n under) (in_first (entry n under) (entry_of n under) (entries under ++ entries rest) own_) in
    let name_is : i ≡ l.name = ap (λ (m : NameList). m.name) is_here.1 in
    let begin_is : first_token under 0 ≡ l.begin = ap (λ (m : NameList). m.begin) is_here.1 in
    let at : i ≡ k = w.1.0 in
    let low = from.0 in
    omega (arith, name_is, begin_is, at, low)
  where
    in_one : {X : Type 0} (c : Bool) (x y : X) → In x (if c then y ∷ [] else []) → (c ≡ true) × (y ≡ x)
    in_one true x y (inl e) = (refl, e)
    in_one true x y (inr v) = absurd v
    in_one false x y v = absurd v

    own_entry : {X : Type 0} (c : Bool) (x : X) → c ≡ true → In x (if c then x ∷ [] else [])
    own_entry true x e = inl refl
    own_entry false x e = absurd (false≢true e)

    or_first : (a b : Bool) → a ≡ true → (a || b) ≡ true
    or_first true b e = refl
    or_first false b e = absurd (false≢true e)
call_before_in _ k l w each there = absurd there

pub call_before : (f : Forest) (k : ℕ) (l : NameList) → AreFrom k f → EachNode Begins f → In l (calls_in f) → l.name < l.begin
call_before none k l w each there = absurd there
call_before (token i rest) k l w each there = call_before rest (k + 1) l w.1 each there
call_before (node m first under rest) k l w each there = elim (in_split l ((if is_node m Unary then call_in under else []) ++ calls_in under) (calls_in rest) there) [
  | inl v ↦ elim (in_split l (if is_node m Unary then call_in under else []) (calls_in under) v) [
    | inl b ↦ call_before_in under k l w.1 each.1 (in_some (is_node m Unary) l (call_in under) b).1
    | inr b ↦ call_before under k l w.1 each.1 b
  ]
  | inr v ↦ call_before rest (k + token_count under) l w.2 each.2 v
]

own_names : (o : Option ℕ) (n : Option (Option Forest)) (p : Pair) → In p (own_pair o n) → (o ≡ Some p.name) × (n ≡ Some (Some p.under))
own_names None n p w = absurd w
own_names (Some name) None p w = absurd w
own_names (Some name) (Some None) p w = absurd w
own_names (Some name) (Some (Some under)) p (inl e) = (ap (λ (q : Pair). Some q.name) e, ap (λ (q : Pair). Some (Some q.under)) e)
own_names (Some name) (Some (Some under)) p (inr w) = absurd w

module _ (s : Edition) where
  pair_before_in : (f : Forest) (k : ℕ) (p : Pair) → AreFrom k f → EachNode (IsOfAlternative (iso s)) f → EachNode Begins f → In p (pair_in f) → p.name < first_token p.under 0
  pair_before_in none k p w x each there = absurd there
  pair_before_in (token i rest) k p w x each there = absurd there
  pair_before_in (node l first under rest) k p w x each there =
      let here = in_some (is_node l Declarator) p (own_pair (name_below l under) (nearest_of under)) there in
      let names = own_names (name_below l under) (nearest_of under) p here.1 in
      let production = declarator_named l.production here.0 in
      declarator_before s under l k p.name p.under (declarator_alternative s l under x.0 production) x.1 w.1 each.1 names.0 names.1

  pub pair_before : (f : Forest) (k : ℕ) (p : Pair) → AreFrom k f → EachNode (IsOfAlternative (iso s)) f → EachNode Begins f → In p (pairs_in f) → p.name < first_token p.under 0
  pair_before none k p w x each there = absurd there
  pair_before (token i rest) k p w x each there = pair_before rest (k + 1) p w.1 x each there
  pair_before (node l first under rest) k p w x each there = elim (in_split p ((if is_declaring l then pair_in under else []) ++ pairs_in under) (pairs_in rest) there) [
    | inl v ↦ elim (in_split p (if is_declaring l then pair_in under else []) (pairs_in under) v) [
      | inl b ↦ pair_before_in under k p w.1 x.1 each.1 (in_some (is_declaring l) p (pair_in under) b).1
      | inr b ↦ pair_before under k p w.1 x.1 each.1 b
    ]
    | inr v ↦ pair_before rest (k + token_count under) p w.2 x.2 each.2 v
  ]

-- ---- classes of marks

alternative_of : (g : Grammar) (toks : List Token) (l : Label) (under : Forest) (x : IsOfClasses g toks l under) (p : Production) (k : ℕ) (a : Alternative) → l.production ≡ p → l.alternative ≡ k + 1
    → slice_get (g.table p) k ≡ Some a → classes.AreOfItem g toks a.body (classes.children under)
alternative_of g toks l under x p k a is_p is_k at =
    let number : x.number ≡ k = omega (arith, x.numbered, is_k) in
    let here : slice_get (g.table p) k ≡ Some x.alternative = ap (λ (q : Production). slice_get (g.table q) k) (sym is_p) ∙ ap (λ (n : ℕ). slice_get (g.table l.production) n) (sym number) ∙ x.is_one in
    let same : a ≡ x.alternative = same_Some a x.alternative (sym at ∙ here) in
    subst (λ (b : Alternative). classes.AreOfItem g toks b.body (classes.children under)) (sym same) x.own

-- parentheses stand first and last
pub record Ends (g : Grammar) (toks : List Token) (under : Forest) : Type 0 where
  pub open_ : base_at g toks (first_token under 0) ≡ LeftParen
  pub close : base_at g toks (last_token under 0) ≡ RightParen

ends_of : (g : Grammar) (toks : List Token) (under : Forest) (i j : ℕ) (w : List classes.Child) → classes.children under ≡ classes.a_token i ∷ (w ++ classes.a_token j ∷ []) → HasClass g toks (LeftParen ∷ []) i
    → HasClass g toks (RightParen ∷ []) j → Ends g toks under
ends_of g toks under i j w e open_ close = record {
  open_ = ap (base_at g toks) (first_child under i (w ++ classes.a_token j ∷ []) e) ∙ open_ LeftParen refl refl;
  close = ap (base_at g toks) (last_child under 0 j (classes.a_token i ∷ w) e) ∙ close RightParen refl refl;
}

module _ (s : Edition) (toks : List Token) where
  abbrev Of : Item → List classes.Child → Type 0
  Of item w = classes.AreOfItem (iso s) toks item w

  pub call_ends : (l : Label) (under : Forest) → IsOfClasses (iso s) toks l under → is_at l Post 2 ≡ true → Ends (iso s) toks under
  call_ends l under x at =
      let both = and_parts (is_node l Post) (l.alternative == 2) at in
      let two_ : l.alternative ≡ 1 + 1 = omega (arith, eqb-true l.alternative 2 both.1) in
      by (alternative_of (iso s) toks l under x Post 1 (plain (tok LeftParen · (maybe (deep (part Args)) · tok RightParen))) (post_named l.production both.0) two_ refl)
    where
      by : Of (tok LeftParen · (maybe (deep (part Args)) · tok RightParen)) (classes.children under) → Ends (iso s) toks under
      by (xs, ys, all, (i, first, open_), (zs, vs, more, middle, (j, last, close))) =
          ends_of (iso s) toks under i j zs (all ∙ (ap (λ (w : List classes.Child). w ++ ys) first ∙ ap (λ (w : List classes.Child). classes.a_token i ∷ w) (more ∙ ap (λ (w : List classes.Child). zs ++ w) last))) open_ close

  pub list_ends : (l : Label) (under : Forest) → IsOfClasses (iso s) toks l under → is_at l Suffix 2 ≡ true → Ends (iso s) toks under
  list_ends l under x at =
      let both = and_parts (is_node l Suffix) (l.alternative == 2) at in
      let two_ : l.alternative ≡ 1 + 1 = omega (arith, eqb-true l.alternative 2 both.1) in
      by (alternative_of (iso s) toks l under x Suffix 1 (plain (tok LeftParen · (act scope · (maybe (deep (part Params)) · (act end · (act keep · tok RightParen))))))
      (suffix_named l.production both.0) two_ refl)
    where
      by : Of (tok LeftParen · (act scope · (maybe (deep (part Params)) · (act end · (act keep · tok RightParen))))) (classes.children under) → Ends (iso s) toks under
      by (xs, ys, all, (i, first, open_), (no1, ys1, all1, none1, (zs, ys2, all2, middle, (no3, ys3, all3, none3, (no4, ys4, all4, none4, (j, last, close)))))) =
          let behind4 : ys3 ≡ classes.a_token j ∷ [] = all4 ∙ (ap (λ (w : List classes.Child). w ++ ys4) none4 ∙ last) in
          let behind3 : ys2 ≡ classes.a_token j ∷ [] = all3 ∙ (ap (λ (w : List classes.Child). w ++ ys3) none3 ∙ behind4) in
          let behind1 : ys ≡ zs ++ classes.a_token j ∷ [] = all1 ∙ (ap (λ (w : List classes.Child). w ++ ys1) none1 ∙ (all2 ∙ ap (λ (w : List classes.Child). zs ++ w) behind3)) in
          ends_of (iso s) toks under i j zs (all ∙ (ap (λ (w : List classes.Child). w ++ ys) first ∙ ap (λ (w : List classes.Child). classes.a_token i ∷ w) behind1)) open_ close

  abbrev Commas : List classes.Child → Type 0
  Commas w = AreCommas (iso s) toks w

  -- a comma and an item, so many times
  times_commas : (p : Production) (n : ℕ) (w tail : List classes.Child) → classes.AreTimes (Of (tok Comma · part p)) n w → Commas tail → Commas (w ++ tail)
  times_commas p zero w tail e ends = subst (λ (v : List classes.Child). Commas (v ++ tail)) (sym e) ends
  times_commas p (suc n) w tail (xs, ys, all, (as_, bs, front, (i, comma, class), item), more) ends =
      let rest = times_commas p n ys tail more ends in
      let first : xs ≡ classes.a_token i ∷ (classes.a_node ∷ []) = front ∙ (ap (λ (v : List classes.Child). v ++ bs) comma ∙ ap (λ (v : List classes.Child). classes.a_token i ∷ v) item) in
      let same : w ++ tail ≡ classes.a_token i ∷ (classes.a_node ∷ (ys ++ tail)) = ap (λ (v : List classes.Child). v ++ tail) (all ∙ ap (λ (v : List classes.Child). v ++ ys) first) in
      subst Commas (sym same) (class Comma refl refl, rest)

  nil_end : (w : List classes.Child) → w ++ [] ≡ w
  nil_end [] = refl
  nil_end (c ∷ w) = ap (λ (v : List classes.Child). c ∷ v) (nil_end w)

  -- the commas between arguments, and between parameter declarations
  items_odd : (f : Forest) (w : List classes.Child) → classes.children f ≡ classes.a_node ∷ w → Commas w → Each (λ i. base_at (iso s) toks i ≡ Comma) (odd_tokens 0 f)
  items_odd none w e h = absurd (cc)
  items_odd (token i rest) w e h = absurd (cc)
  items_odd (node l first under rest) w e h =
      let same : classes.children rest ≡ w = cc in
      commas_odd (iso s) toks rest 1 refl (subst Commas (sym same) h)

  args_number : (n : ℕ) (a : Alternative) → slice_get (plain (part Assign · many own (tok Comma · part Assign)) ∷ []) n ≡ Some a → n ≡ 0
  args_number zero a e = refl
  args_number (suc n) a e = absurd (cc)

  pub args_commas : (l : Label) (items : Forest) → IsOfClasses (iso s) toks l items → l.production ≡ Args → Each (λ i. base_at (iso s) toks i ≡ Comma) (odd_tokens 0 items)
  args_commas l items x is_args =
      let number : x.number ≡ 0 = args_number x.number x.alternative (sym (ap (λ (p : Production). slice_get ((iso s).table p) x.number) is_args) ∙ x.is_one) in
      let one_ : l.alternative ≡ 0 + 1 = omega (arith, x.numbered, number) in
      by (alternative_of (iso s) toks l items x Args 0 (plain (part Assign · many own (tok Comma · part Assign))) is_args one_ refl)
    where
      by : Of (part Assign · many own (tok Comma · part Assign)) (classes.children items) → Each (λ i. base_at (iso s) toks i ≡ Comma) (odd_tokens 0 items)
      by (xs, ys, all, first, (n, more)) =
          items_odd items (ys ++ []) (all ∙ (ap (λ (w : List classes.Child). w ++ ys) first ∙ ap (λ (w : List classes.Child). classes.a_node ∷ w) (sym (nil_end ys))))
          (times_commas Assign n ys [] more tt)

  pub params_commas : (l : Label) (items : Forest) → IsOfClasses (iso s) toks l items → l.production ≡ Params → is_at l Params 1 ≡ false → Each (λ i. base_at (iso s) toks i ≡ Comma) (odd_tokens 0 items)
  params_commas l items x is_params other =
      let number : x.number ≡ 1 = second x.number (sym (ap (λ (p : Production). slice_get ((iso s).table p) x.number) is_params) ∙ x.is_one) x.numbered in
      let two_ : l.alternative ≡ 1 + 1 = omega (arith, x.numbered, number) in
      by (alternative_of (iso s) toks l items x Params 1 types is_params two_ refl)
    where
      types : Alternative
      types = plain (part Param · (many (next_two (is (Comma ∷ [])) (is_not (Ellipsis ∷ []))) (tok Comma · part Param) · maybe (tok Comma · tok Ellipsis)))

      not_one : (n : ℕ) → l.alternative ≡ n + 1 → n ≡ 0 → is_at l Params 1 ≡ true
      not_one n e zero_ = and_from (is_node l Params) (l.alternative == 1) (ap (λ p. ghosts.eq p Params) is_params) (eq-eqb l.alternative 1 (omega (arith, e, zero_)))

      second : (n : ℕ) → slice_get ((iso s).table Params) n ≡ Some x.alternative → l.alternative ≡ n + 1 → n ≡ 1
      second zero e numbered = absurd (false≢true (sym other ∙ not_one 0 numbered refl))
      second (suc zero) e numbered = refl
      second (suc (suc n)) e numbered = absurd (cc)

      dots : (w : List classes.Child) → Of (maybe (tok Comma · tok Ellipsis)) w → Commas w
      dots w (inl (xs, ys, all, (i, first, class), (j, last, other_class))) =
          let same : w ≡ classes.a_token i ∷ (classes.a_token j ∷ []) = all ∙ (ap (λ (v : List classes.Child). v ++ ys) first ∙ ap (λ (v : List classes.Child). classes.a_token i ∷ v) last) in
          subst Commas (sym same) (class Comma refl refl, refl)
      dots w (inr empty) = subst Commas (sym empty) tt

      by : Of types.body (classes.children items) → Each (λ i. base_at (iso s) toks i ≡ Comma) (odd_tokens 0 items)
      by (xs, ys, all, first, (zs, vs, rest, (n, more), ends)) =
          items_odd items (zs ++ vs) (all ∙ (ap (λ (w : List classes.Child). w ++ ys) first ∙ ap (λ (w : List classes.Child). classes.a_node ∷ w) rest))
          (times_commas Param n zs vs more (dots vs ends))

-- ---- items with a token between each two

mutual
  pub args_woven : (f : Forest) → are_items false any_production (children f) ≡ true → is_woven f ≡ true
  args_woven none w = absurd (false≢true w)
  args_woven (token i rest) w = absurd (false≢true w)
  args_woven (node l first under rest) w = args_woven_on rest (and_parts true (are_more false any_production (children rest)) w).1

  args_woven_on : (f : Forest) → are_more false any_production (children f) ≡ true → is_woven_on f ≡ true
  args_woven_on none w = refl
  args_woven_on (node l first under rest) w = absurd (false≢true w)
  args_woven_on (token i none) w = absurd (false≢true w)
  args_woven_on (token i (token j rest)) w = absurd (false≢true w)
  args_woven_on (token i (node l first under rest)) w = args_woven (node l first under rest) w

mutual
  pub params_woven : (f : Forest) → are_items true is_param (children f) ≡ true → ends_in_token false f ≡ false → is_woven f ≡ true
  params_woven none w e = absurd (false≢true w)
  params_woven (token i rest) w e = absurd (false≢true w)
  params_woven (node l first under rest) w e = params_woven_on rest (and_parts (is_param l.production) (are_more true is_param (children rest)) w).1 e

  params_woven_on : (f : Forest) → are_more true is_param (children f) ≡ true → ends_in_token false f ≡ false → is_woven_on f ≡ true
  params_woven_on none w e = refl
  params_woven_on (node l first under rest) w e = absurd (false≢true w)
  params_woven_on (token i none) w e = absurd (false≢true w)
  params_woven_on (token i (token j none)) w e = absurd (false≢true (sym e))
  params_woven_on (token i (token j (token m rest))) w e = absurd (false≢true w)
  params_woven_on (token i (token j (node l first under rest))) w e = absurd (false≢true w)
  params_woven_on (token i (node l first under rest)) w e = params_woven (node l first under rest) w e
