-- What the children of a list are, where they are those of its alternative.
use Rattle.std.proofs.Common.{ℕ, zero, suc, ◌+◌, ◌≡◌, ◌⊎◌, inl, inr, Bool, true, false, ◌&&◌, List, [], ◌∷◌, ◌++◌, Some, refl, sym, ap, subst, ◌∙◌, arith}
use Rattle.std.specs.Prelude.{◌==◌, slice_get}
use Rattle.std.proofs.lemmas.Bool.{false≢true, and_parts, and_from, eqb-true, eq-eqb}
use Rattle.std.proofs.lemmas.Option.{same_Some}
use Rattle.c99_grammar.specs.declared.dialects.Edition.{Edition}
use Rattle.c99_tree.specs.Tree.{Forest, none, token, node}
use Rattle.c99_tree.specs.declared.production.Label.{Label}
use Rattle.c99_tree.specs.declared.production.Production.{Production}
use Rattle.c99_tree.specs.declared.production.Production.TheVariants.{Suffix, Params, Param, Assign, Post, Args}
use Rattle.c99_tree.specs.contracts.production.ProductionPartialEq.TheImpl.{ghosts}
use Rattle.c99_tree.proofs.ProductionLemmas.{post_named, suffix_named}
use Rattle.c99_grammar.specs.declared.classes.Class.TheVariants.{LeftParen, RightParen, Comma, Ellipsis, Identifier}
use Rattle.c99_grammar.specs.Items.{part, act, ◌·◌, maybe, many, deep, tok, own, next_two, is, is_not, scope, end, keep, name, Alternative, plain}
use Rattle.c99_grammar.specs.Standard.{Grammar, iso}
use Rattle.c99_read.specs.State.{collapses}
use Rattle.c_types.specs.Trees.{is_node, is_at}
use Rattle.template_meaning.specs.Children.{Child, a_token, a_node, children, StandsFor, AreTimes, AreOfItem, IsOfAlternative}

-- ---- Children one by one

pub token_child : (f : Forest) (w : List Child) → children f ≡ a_token ∷ w → (i : ℕ) × (rest : Forest) × (f ≡ token i rest) × (children rest ≡ w)
token_child none w e = absurd (cc)
token_child (token i rest) w e = (i, rest, refl, cc)
token_child (node l first under rest) w e = absurd (cc)

pub node_child : (f : Forest) (q : Production) (w : List Child) → children f ≡ a_node q ∷ w
    → (l : Label) × (first : ℕ) × (under : Forest) × (rest : Forest) × (f ≡ node l first under rest) × (l.production ≡ q) × (children rest ≡ w)
node_child none q w e = absurd (cc)
node_child (token i rest) q w e = absurd (cc)
node_child (node l first under rest) q w e = (l, first, under, rest, refl, cc, cc)

pub no_child : (f : Forest) → children f ≡ [] → f ≡ none
no_child none e = refl
no_child (token i rest) e = absurd (cc)
no_child (node l first under rest) e = absurd (cc)

-- ---- Alternatives of a production

pub alternative_is : (g : Grammar) (l : Label) (under : Forest) (x : IsOfAlternative g l under) (p : Production) (k : ℕ) (a : Alternative) → l.production ≡ p → l.alternative ≡ k + 1
    → slice_get (g.table p) k ≡ Some a → AreOfItem a.body (children under)
alternative_is g l under x p k a is_p is_k at =
    let number : x.number ≡ k = omega (arith, x.numbered, is_k) in
    let here : slice_get (g.table p) k ≡ Some x.alternative = ap (λ (q : Production). slice_get (g.table q) k) (sym is_p) ∙ ap (λ (n : ℕ). slice_get (g.table l.production) n) (sym number) ∙ x.is_one in
    let same : a ≡ x.alternative = same_Some a x.alternative (sym at ∙ here) in
    subst (λ (b : Alternative). AreOfItem b.body (children under)) (sym same) x.own

pub params_named : (p : Production) → ghosts.eq p Params ≡ true → p ≡ Params
params_named Params e = refl
params_named _ e = absurd (false≢true e)

-- where a production does not collapse, what stands for it is of it
pub stands_alone : (p q : Production) → collapses p ≡ false → StandsFor p q → q ≡ p
stands_alone p q alone (inl same) = same
stands_alone p q alone (inr collapsed) = absurd (false≢true (sym alone ∙ collapsed.0))

-- ---- Parentheses

-- an empty pair of parentheses, or one with a node of the production
pub record IsEmptyPair (under : Forest) : Type 0 where
  pub begin : ℕ
  pub close : ℕ
  pub is : under ≡ token begin (token close none)

pub record IsFullPair (p : Production) (under : Forest) : Type 0 where
  pub begin : ℕ
  pub close : ℕ
  pub first : ℕ
  pub label : Label
  pub items : Forest
  pub is : under ≡ token begin (node label first items (token close none))
  pub production : label.production ≡ p

abbrev pub IsPair : Production → Forest → Type 0
IsPair p under = IsEmptyPair under ⊎ IsFullPair p under

empty_pair : (under : Forest) → children under ≡ a_token ∷ (a_token ∷ []) → IsEmptyPair under
empty_pair under e =
    let first = token_child under (a_token ∷ []) e in
    let second = token_child first.1 [] first.3 in
    let last = no_child second.1 second.3 in
    record {
      begin = first.0;
      close = second.0;
      is = first.2 ∙ ap (λ (f : Forest). token first.0 f) (second.2 ∙ ap (λ (f : Forest). token second.0 f) last);
    }

full_pair : (p q : Production) (under : Forest) → q ≡ p → children under ≡ a_token ∷ (a_node q ∷ (a_token ∷ [])) → IsFullPair p under
full_pair p q under same e =
    let first = token_child under (a_node q ∷ (a_token ∷ [])) e in
    let second = node_child first.1 q (a_token ∷ []) first.3 in
    let third = token_child second.3 [] second.6 in
    let last = no_child third.1 third.3 in
    record {
      begin = first.0;
      close = third.0;
      first = second.1;
      label = second.0;
      items = second.2;
      is = first.2 ∙ ap (λ (f : Forest). token first.0 f) (second.4 ∙ ap (λ (f : Forest). node second.0 second.1 second.2 f) (third.2 ∙ ap (λ (f : Forest). token third.0 f) last));
      production = second.5 ∙ same;
    }

-- one optional node
abbrev MaybeNode : Production → List Child → Type 0
MaybeNode p w = ((q : Production) × (w ≡ a_node q ∷ []) × StandsFor p q) ⊎ (w ≡ [])

pair_of : (p : Production) (under : Forest) (w : List Child) → collapses p ≡ false → children under ≡ a_token ∷ (w ++ a_token ∷ []) → MaybeNode p w → IsPair p under
pair_of p under w alone e (inr empty) = inl (empty_pair under (e ∙ ap (λ (v : List Child). a_token ∷ (v ++ a_token ∷ [])) empty))
pair_of p under w alone e (inl full) =
    inr (full_pair p full.0 under (stands_alone p full.0 alone full.2) (e ∙ ap (λ (v : List Child). a_token ∷ (v ++ a_token ∷ [])) full.1))

module _ (s : Edition) where
  pub call_pair : (l : Label) (under : Forest) → IsOfAlternative (iso s) l under → is_at l Post 2 ≡ true → IsPair Args under
  call_pair l under x at =
      let both = and_parts (is_node l Post) (l.alternative == 2) at in
      let two : l.alternative ≡ 1 + 1 = omega (arith, eqb-true l.alternative 2 both.1) in
      let body = alternative_is (iso s) l under x Post 1 (plain (tok LeftParen · (maybe (deep (part Args)) · tok RightParen))) (post_named l.production both.0) two refl in
      by body
    where
      by : AreOfItem (tok LeftParen · (maybe (deep (part Args)) · tok RightParen)) (children under) → IsPair Args under
      by (xs, ys, all, first, (zs, vs, more, middle, last)) =
          pair_of Args under zs refl (all ∙ (ap (λ (w : List Child). w ++ ys) first ∙ ap (λ (w : List Child). a_token ∷ w) (more ∙ ap (λ (w : List Child). zs ++ w) last))) middle

  pub list_pair : (l : Label) (under : Forest) → IsOfAlternative (iso s) l under → is_at l Suffix 2 ≡ true → IsPair Params under
  list_pair l under x at =
      let both = and_parts (is_node l Suffix) (l.alternative == 2) at in
      let two : l.alternative ≡ 1 + 1 = omega (arith, eqb-true l.alternative 2 both.1) in
      let body = alternative_is (iso s) l under x Suffix 1
      (plain (tok LeftParen · (act scope · (maybe (deep (part Params)) · (act end · (act keep · tok RightParen)))))) (suffix_named l.production both.0) two refl in
      by body
    where
      by : AreOfItem (tok LeftParen · (act scope · (maybe (deep (part Params)) · (act end · (act keep · tok RightParen))))) (children under) → IsPair Params under
      by (xs, ys, all, first, (no1, ys1, all1, none1, (zs, ys2, all2, middle, (no3, ys3, all3, none3, (no4, ys4, all4, none4, last))))) =
          let behind4 : ys3 ≡ a_token ∷ [] = all4 ∙ (ap (λ (w : List Child). w ++ ys4) none4 ∙ last) in
          let behind3 : ys2 ≡ a_token ∷ [] = all3 ∙ (ap (λ (w : List Child). w ++ ys3) none3 ∙ behind4) in
          let behind1 : ys ≡ zs ++ a_token ∷ [] = all1 ∙ (ap (λ (w : List Child). w ++ ys1) none1 ∙ (all2 ∙ ap (λ (w : List Child). zs ++ w) behind3)) in
          pair_of Params under zs refl (all ∙ (ap (λ (w : List Child). w ++ ys) first ∙ ap (λ (w : List Child). a_token ∷ w) behind1)) middle

-- ---- Items with a token between each two

abbrev mutual
  -- nodes that pass a test, with a token between each two; at the end two tokens may stand, if that is said
  pub are_items : Bool → (Production → Bool) → List Child → Bool
  are_items dots ok [] = false
  are_items dots ok (a_token ∷ w) = false
  are_items dots ok (a_node q ∷ w) = ok q && are_more dots ok w

  pub are_more : Bool → (Production → Bool) → List Child → Bool
  are_more dots ok [] = true
  are_more dots ok (a_node q ∷ w) = false
  are_more dots ok (a_token ∷ []) = false
  are_more dots ok (a_token ∷ (a_token ∷ w)) = dots && is_end w
  are_more dots ok (a_token ∷ (a_node q ∷ w)) = ok q && are_more dots ok w

  pub is_end : List Child → Bool
  is_end [] = true
  is_end (c ∷ w) = false

-- more of them behind some
more_behind : (dots : Bool) (ok : Production → Bool) (q : Production) (w : List Child) → ok q ≡ true → are_more dots ok w ≡ true → are_more dots ok ((a_token ∷ (a_node q ∷ [])) ++ w) ≡ true
more_behind dots ok q w pass more = and_from (ok q) (are_more dots ok w) pass more

-- so many items behind their commas, and what ends the list
times_more : (dots : Bool) (ok : Production → Bool) (P : List Child → Type 0) (n : ℕ) (w tail : List Child)
    → ((xs : List Child) → P xs → (q : Production) × (xs ≡ a_token ∷ (a_node q ∷ [])) × (ok q ≡ true))
    → AreTimes P n w → are_more dots ok tail ≡ true → are_more dots ok (w ++ tail) ≡ true
times_more dots ok P zero w tail forms empty ends = subst (λ (v : List Child). are_more dots ok (v ++ tail) ≡ true) (sym empty) ends
times_more dots ok P (suc n) w tail forms (xs, ys, all, one, more) ends =
    let form = forms xs one in
    let rest = times_more dots ok P n ys tail forms more ends in
    let here : are_more dots ok ((a_token ∷ (a_node form.0 ∷ [])) ++ (ys ++ tail)) ≡ true = more_behind dots ok form.0 (ys ++ tail) form.2 rest in
    let same : w ++ tail ≡ (a_token ∷ (a_node form.0 ∷ [])) ++ (ys ++ tail) =
    ap (λ (v : List Child). v ++ tail) (all ∙ ap (λ (v : List Child). v ++ ys) form.1) in
    subst (λ (v : List Child). are_more dots ok v ≡ true) (sym same) here

-- a comma and an item
comma_part : (p : Production) (ok : Production → Bool) → ((q : Production) → StandsFor p q → ok q ≡ true) → (xs : List Child)
    → AreOfItem (tok Comma · part p) xs → (q : Production) × (xs ≡ a_token ∷ (a_node q ∷ [])) × (ok q ≡ true)
comma_part p ok pass xs (ys, zs, all, first, (q, last, stands)) =
    (q, all ∙ (ap (λ (w : List Child). w ++ zs) first ∙ ap (λ (w : List Child). a_token ∷ w) last), pass q stands)

abbrev pub any_production : Production → Bool
any_production p = true

abbrev pub is_param : Production → Bool
is_param Param = true
is_param _ = false

param_passes : (q : Production) → StandsFor Param q → is_param q ≡ true
param_passes q stands = ap is_param (stands_alone Param q refl stands)

args_named : (n : ℕ) (a : Alternative) → slice_get (plain (part Assign · many own (tok Comma · part Assign)) ∷ []) n ≡ Some a → n ≡ 0
args_named zero a e = refl
args_named (suc n) a e = absurd (cc)

module _ (s : Edition) where
  -- the arguments of a call, where what stands for an argument passes
  pub args_pass : (ok : Production → Bool) → ((q : Production) → StandsFor Assign q → ok q ≡ true) → (l : Label) (under : Forest) → IsOfAlternative (iso s) l under
      → l.production ≡ Args → are_items false ok (children under) ≡ true
  args_pass ok pass l under x is_args =
      let number : x.number ≡ 0 = args_named x.number x.alternative (sym (ap (λ (p : Production). slice_get ((iso s).table p) x.number) is_args) ∙ x.is_one) in
      let one : l.alternative ≡ 0 + 1 = omega (arith, x.numbered, number) in
      by (alternative_is (iso s) l under x Args 0 (plain (part Assign · many own (tok Comma · part Assign))) is_args one refl)
    where
      by : AreOfItem (part Assign · many own (tok Comma · part Assign)) (children under) → are_items false ok (children under) ≡ true
      by (xs, ys, all, (q, first, stands), (n, more)) =
          let behind = times_more false ok (AreOfItem (tok Comma · part Assign)) n ys [] (comma_part Assign ok pass) more refl in
          let same : children under ≡ a_node q ∷ (ys ++ []) = all ∙ (ap (λ (w : List Child). w ++ ys) first ∙ ap (λ (w : List Child). a_node q ∷ w) (sym (end_nil ys))) in
          subst (λ (w : List Child). are_items false ok w ≡ true) (sym same) (and_from (ok q) (are_more false ok (ys ++ [])) (pass q stands) behind)
        where
          end_nil : (w : List Child) → w ++ [] ≡ w
          end_nil [] = refl
          end_nil (c ∷ w) = ap (λ (v : List Child). c ∷ v) (end_nil w)

  -- the arguments of a call
  pub args_items : (l : Label) (under : Forest) → IsOfAlternative (iso s) l under → l.production ≡ Args → are_items false any_production (children under) ≡ true
  args_items l under x is_args =
      let number : x.number ≡ 0 = args_named x.number x.alternative (sym (ap (λ (p : Production). slice_get ((iso s).table p) x.number) is_args) ∙ x.is_one) in
      let one : l.alternative ≡ 0 + 1 = omega (arith, x.numbered, number) in
      by (alternative_is (iso s) l under x Args 0 (plain (part Assign · many own (tok Comma · part Assign))) is_args one refl)
    where
      by : AreOfItem (part Assign · many own (tok Comma · part Assign)) (children under) → are_items false any_production (children under) ≡ true
      by (xs, ys, all, (q, first, stands), (n, more)) =
          let behind = times_more false any_production (AreOfItem (tok Comma · part Assign)) n ys [] (comma_part Assign any_production (λ p w. refl)) more refl in
          let same : children under ≡ a_node q ∷ (ys ++ []) = all ∙ (ap (λ (w : List Child). w ++ ys) first ∙ ap (λ (w : List Child). a_node q ∷ w) (sym (end_nil ys))) in
          subst (λ (w : List Child). are_items false any_production w ≡ true) (sym same) behind
        where
          end_nil : (w : List Child) → w ++ [] ≡ w
          end_nil [] = refl
          end_nil (c ∷ w) = ap (λ (v : List Child). c ∷ v) (end_nil w)

  -- the parameters of a parameter type list
  pub params_items : (l : Label) (under : Forest) → IsOfAlternative (iso s) l under → l.production ≡ Params → is_at l Params 1 ≡ false
      → are_items true is_param (children under) ≡ true
  params_items l under x is_params other =
      let number : x.number ≡ 1 = second x.number (sym (ap (λ (p : Production). slice_get ((iso s).table p) x.number) is_params) ∙ x.is_one) x.numbered in
      let two : l.alternative ≡ 1 + 1 = omega (arith, x.numbered, number) in
      by (alternative_is (iso s) l under x Params 1 types is_params two refl)
    where
      types : Alternative
      types = plain (part Param · (many (next_two (is (Comma ∷ [])) (is_not (Ellipsis ∷ []))) (tok Comma · part Param) · maybe (tok Comma · tok Ellipsis)))

      not_one : (n : ℕ) → l.alternative ≡ n + 1 → n ≡ 0 → is_at l Params 1 ≡ true
      not_one n e zero_ =
          and_from (is_node l Params) (l.alternative == 1) (ap (λ p. ghosts.eq p Params) is_params) (eq-eqb l.alternative 1 (omega (arith, e, zero_)))

      second : (n : ℕ) → slice_get ((iso s).table Params) n ≡ Some x.alternative → l.alternative ≡ n + 1 → n ≡ 1
      second zero e numbered = absurd (false≢true (sym other ∙ not_one 0 numbered refl))
      second (suc zero) e numbered = refl
      second (suc (suc n)) e numbered = absurd (cc)

      dots : (w : List Child) → AreOfItem (maybe (tok Comma · tok Ellipsis)) w → are_more true is_param w ≡ true
      dots w (inl (xs, ys, all, first, last)) =
          let same : w ≡ a_token ∷ (a_token ∷ []) = all ∙ (ap (λ (v : List Child). v ++ ys) first ∙ ap (λ (v : List Child). a_token ∷ v) last) in
          subst (λ (v : List Child). are_more true is_param v ≡ true) (sym same) refl
      dots w (inr empty) = subst (λ (v : List Child). are_more true is_param v ≡ true) (sym empty) refl

      by : AreOfItem types.body (children under) → are_items true is_param (children under) ≡ true
      by (xs, ys, all, (q, first, stands), (zs, vs, rest, (n, more), ends)) =
          let behind = times_more true is_param (AreOfItem (tok Comma · part Param)) n zs vs (comma_part Param is_param param_passes) more (dots vs ends) in
          let same : children under ≡ a_node q ∷ (zs ++ vs) = all ∙ (ap (λ (w : List Child). w ++ ys) first ∙ ap (λ (w : List Child). a_node q ∷ w) rest) in
          subst (λ (w : List Child). are_items true is_param w ≡ true) (sym same) (and_from (is_param q) (are_more true is_param (zs ++ vs)) (param_passes q stands) behind)

-- an identifier list has no nodes
abbrev pub no_nodes : List Child → Bool
no_nodes [] = true
no_nodes (a_token ∷ w) = no_nodes w
no_nodes (a_node q ∷ w) = false

tokens_times : (n : ℕ) (w : List Child) → AreTimes (AreOfItem (tok Comma · (tok Identifier · act name))) n w → no_nodes w ≡ true
tokens_times zero w e = subst (λ (v : List Child). no_nodes v ≡ true) (sym e) refl
tokens_times (suc n) w (xs, ys, all, (es, bs, here, comma, (cs, ds, there, word, last)), more) =
    let rest = tokens_times n ys more in
    let behind : bs ≡ a_token ∷ [] = there ∙ (ap (λ (v : List Child). v ++ ds) word ∙ ap (λ (v : List Child). a_token ∷ v) last) in
    let front : xs ≡ a_token ∷ (a_token ∷ []) = here ∙ (ap (λ (v : List Child). v ++ bs) comma ∙ ap (λ (v : List Child). a_token ∷ v) behind) in
    subst (λ (v : List Child). no_nodes v ≡ true) (sym (all ∙ ap (λ (v : List Child). v ++ ys) front)) rest

pub names_alone : (s : Edition) (l : Label) (under : Forest) → IsOfAlternative (iso s) l under → is_at l Params 1 ≡ true → no_nodes (children under) ≡ true
names_alone s l under x at =
    let both = and_parts (is_node l Params) (l.alternative == 1) at in
    let one : l.alternative ≡ 0 + 1 = omega (arith, eqb-true l.alternative 1 both.1) in
    by (alternative_is (iso s) l under x Params 0 listed (params_named l.production both.0) one refl)
  where
    listed : Alternative
    listed = plain (tok Identifier · (act name · many own (tok Comma · (tok Identifier · act name))))

    by : AreOfItem listed.body (children under) → no_nodes (children under) ≡ true
    by (xs, ys, all, first, (es, bs, behind, empty, (n, more))) =
        let rest = tokens_times n bs more in
        let tail : ys ≡ bs = behind ∙ ap (λ (v : List Child). v ++ bs) empty in
        subst (λ (v : List Child). no_nodes v ≡ true) (sym (all ∙ (ap (λ (v : List Child). v ++ ys) first ∙ ap (λ (v : List Child). a_token ∷ v) tail))) rest
