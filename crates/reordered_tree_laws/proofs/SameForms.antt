-- A tree in which lists are in a new order, and whose tokens are numbered anew, is a tree of its text.
use Rattle.std.proofs.Common.{ℕ, ◌+◌, ◌-◌, ◌≡◌, ◌<◌, Bool, true, false, ◌&&◌, ◌||◌, not, List, [], ◌∷◌, length, get_or, ◌⊎◌, inl, inr, refl, sym, ap, subst, ◌∙◌, arith, append-nil}
use Rattle.std.specs.Prelude.{IsPermutation}
use Rattle.std.specs.List.{list_any}
use Rattle.std.proofs.lemmas.List.{length-map, get_or-map, get_or_default, same_lists}
use Rattle.std.proofs.lemmas.List.Sorted.{IsPermutation-map, list_any-IsPermutation, length_permutation}
use Rattle.cs_base.proofs.BoolLemmas.{or_assoc as or_joined}
use Rattle.c99_tree.specs.Tree.{Forest, none, token, node, Node}
use Rattle.c99_tree.specs.declared.production.Label.{Label}
use Rattle.c99_tree.specs.declared.production.Production.{Production}
use Rattle.c99_tree.specs.declared.production.Production.TheVariants.{FunBody, Enumerator, Declarator, Block, AutoDecl}
use Rattle.c_types.specs.Trees.{is_node}
use Rattle.c_types.specs.Lists.{is_declaring}
use Rattle.list_cuts.specs.Cuts.{Cut, done, numbers, IsOrder, arranged, AreOf, AreItemsOf}
use Rattle.list_cuts.proofs.OrderLemmas.{length-numbers, get_or-numbers}
use Rattle.list_cuts.proofs.CutLemmas.{length-order, arranged_permutes}
use Rattle.tree_laws.specs.TreesOfTexts.{token_count, AreFrom, begins_with_token, has_token, has_two_tokens, has_body, has_open_declaring, has_form, have_forms, IsTreeOf}
use Rattle.reordered_tree_laws.specs.Reordered.{nodes_in, refilled, no_node, picked_nodes, shuffled, is_among, permuted, leaves, numbered, reordered}
use Rattle.reordered_tree_laws.specs.Cuts.{cut_then, list_then, items_in, cut_in}
use Rattle.reordered_tree_laws.proofs.Arranged.{length-leaves, leaves-cut, count-items, items_all, rest_all, cut_all}

-- ---- Forms

-- the forms of nodes around them and below them are the same
pub record Same (f g : Forest) : Type 0 where
  pub begins : begins_with_token f ≡ begins_with_token g
  pub tokens : has_token f ≡ has_token g
  pub two : has_two_tokens f ≡ has_two_tokens g
  pub bodies : has_body f ≡ has_body g
  pub declaring : has_open_declaring f ≡ has_open_declaring g
  pub forms : have_forms f ≡ have_forms g

pub same_refl : (f : Forest) → Same f f
same_refl f = record { begins = refl; tokens = refl; two = refl; bodies = refl; declaring = refl; forms = refl }

pub same_trans : (f g h : Forest) → Same f g → Same g h → Same f h
same_trans f g h s t = record {
  begins = s.begins ∙ t.begins;
  tokens = s.tokens ∙ t.tokens;
  two = s.two ∙ t.two;
  bodies = s.bodies ∙ t.bodies;
  declaring = s.declaring ∙ t.declaring;
  forms = s.forms ∙ t.forms;
}

pub form-same : (p : Production) (f g : Forest) → Same f g → has_form p f ≡ has_form p g
form-same Enumerator f g s = s.begins
form-same FunBody f g s = ap (λ b. b && not (has_body f)) s.tokens ∙ ap (λ b. has_token g && not b) s.bodies
form-same Declarator f g s = ap not s.declaring
form-same AutoDecl f g s = s.two
form-same _ f g s = refl

pub same_token : (i j : ℕ) (f g : Forest) → Same f g → Same (token i f) (token j g)
same_token i j f g s = record { begins = refl; tokens = refl; two = s.tokens; bodies = s.bodies; declaring = s.declaring; forms = s.forms }

pub same_node : (l : Label) (i j : ℕ) (u v f g : Forest) → Same u v → Same f g → Same (node l i u f) (node l j v g)
same_node l i j u v f g s t = record {
  begins = refl;
  tokens = t.tokens;
  two = refl;
  bodies = ap (λ b. is_node l FunBody || (b || has_body f)) s.bodies ∙ ap (λ b. is_node l FunBody || (has_body v || b)) t.bodies;
  declaring = ap (λ b. is_declaring l || ((not (is_node l Block) && b) || has_open_declaring f)) s.declaring
      ∙ ap (λ b. is_declaring l || ((not (is_node l Block) && has_open_declaring v) || b)) t.declaring;
  forms = ap (λ b. b && (have_forms u && have_forms f)) (form-same l.production u v s)
      ∙ (ap (λ b. has_form l.production v && (b && have_forms f)) s.forms ∙ ap (λ b. has_form l.production v && (have_forms v && b)) t.forms);
}

-- ---- Nodes in another order

pub and_not : (a b c d : Bool) → d ≡ not c → (a && (b && d)) ≡ not (not (a && b) || c)
and_not true true c d e = e
and_not true false c d e = refl
and_not false b c d e = refl

abbrev body_below : Node → Bool
body_below n = is_node n.label FunBody || has_body n.under

abbrev declares_below : Node → Bool
declares_below n = is_declaring n.label || (not (is_node n.label Block) && has_open_declaring n.under)

abbrev misformed : Node → Bool
misformed n = not (has_form n.label.production n.under && have_forms n.under)

bodies-any : (f : Forest) → has_body f ≡ list_any body_below (nodes_in f)
bodies-any none = refl
bodies-any (token i rest) = bodies-any rest
bodies-any (node l first under rest) =
    or_joined (is_node l FunBody) (has_body under) (has_body rest) ∙ ap (λ b. (is_node l FunBody || has_body under) || b) (bodies-any rest)

declaring-any : (f : Forest) → has_open_declaring f ≡ list_any declares_below (nodes_in f)
declaring-any none = refl
declaring-any (token i rest) = declaring-any rest
declaring-any (node l first under rest) =
    or_joined (is_declaring l) (not (is_node l Block) && has_open_declaring under) (has_open_declaring rest)
    ∙ ap (λ b. (is_declaring l || (not (is_node l Block) && has_open_declaring under)) || b) (declaring-any rest)

forms-any : (f : Forest) → have_forms f ≡ not (list_any misformed (nodes_in f))
forms-any none = refl
forms-any (token i rest) = forms-any rest
forms-any (node l first under rest) =
    and_not (has_form l.production under) (have_forms under) (list_any misformed (nodes_in rest)) (have_forms rest) (forms-any rest)

pub nodes-refilled : (g : Forest) (ns : List Node) → length ns ≡ length (nodes_in g) → nodes_in (refilled ns g) ≡ ns
nodes-refilled none [] e = refl
nodes-refilled none (n ∷ ns) e = absurd (omega (arith, e))
nodes-refilled (token i rest) ns e = nodes-refilled rest ns e
nodes-refilled (node l first under rest) [] e = absurd (omega (arith, e))
nodes-refilled (node l first under rest) (n ∷ ns) e = ap (λ (ms : List Node). n ∷ ms) (nodes-refilled rest ns (omega (arith, e)))

begins-refilled : (g : Forest) (ns : List Node) → begins_with_token (refilled ns g) ≡ begins_with_token g
begins-refilled none ns = refl
begins-refilled (token i rest) ns = refl
begins-refilled (node l first under rest) [] = refl
begins-refilled (node l first under rest) (n ∷ ns) = refl

tokens-refilled : (g : Forest) (ns : List Node) → has_token (refilled ns g) ≡ has_token g
tokens-refilled none ns = refl
tokens-refilled (token i rest) ns = refl
tokens-refilled (node l first under rest) [] = refl
tokens-refilled (node l first under rest) (n ∷ ns) = tokens-refilled rest ns

two-refilled : (g : Forest) (ns : List Node) → has_two_tokens (refilled ns g) ≡ has_two_tokens g
two-refilled none ns = refl
two-refilled (token i rest) ns = tokens-refilled rest ns
two-refilled (node l first under rest) [] = refl
two-refilled (node l first under rest) (n ∷ ns) = refl

pub unfilled : (g : Forest) (ns : List Node) → length (nodes_in g) ≡ 0 → refilled ns g ≡ g
unfilled none ns e = refl
unfilled (token i rest) ns e = ap (token i) (unfilled rest ns e)
unfilled (node l first under rest) ns e = absurd (omega (arith, e))

picked-all : (ns : List Node) → picked_nodes (numbers 1 (length ns)) ns ≡ ns
picked-all ns =
    let f : ℕ → Node = λ k. get_or ns (k - 1) no_node in
    let len : length (picked_nodes (numbers 1 (length ns)) ns) ≡ length ns = length-map (numbers 1 (length ns)) f ∙ length-numbers (length ns) 1 in
    same_lists (picked_nodes (numbers 1 (length ns)) ns) ns len (λ k d lt. at k d (rw len at lt))
  where
    at : (k : ℕ) (d : Node) → k < length ns → get_or (picked_nodes (numbers 1 (length ns)) ns) k d ≡ get_or ns k d
    at k d lt =
        let f : ℕ → Node = λ k. get_or ns (k - 1) no_node in
        let few : k < length (numbers 1 (length ns)) = rw (length-numbers (length ns) 1) lt in
        let many : k < length (picked_nodes (numbers 1 (length ns)) ns) = rw (length-map (numbers 1 (length ns)) f) few in
        let back : get_or (numbers 1 (length ns)) k 0 - 1 ≡ k = rw (get_or-numbers (length ns) 1 k 0 lt) (omega arith) in
        get_or_default (picked_nodes (numbers 1 (length ns)) ns) k d no_node many
        ∙ (get_or-map f (numbers 1 (length ns)) k 0 no_node few
        ∙ (ap (λ (j : ℕ). get_or ns j no_node) back ∙ get_or_default ns k no_node d lt))

pub nodes_permute : (order : List ℕ) (ns : List Node) → IsOrder (length ns) order → IsPermutation ns (picked_nodes order ns)
nodes_permute order ns is =
    let moved = IsPermutation-map (λ k. get_or ns (k - 1) no_node) (numbers 1 (length ns)) order is in
    rw (picked-all ns) at moved

module _ (order : List ℕ) (lists : ℕ → Bool) (is : IsOrder (length order) order) where
  pub shuffled_same : (g : Forest) → (length (nodes_in g) ≡ length order) ⊎ (length (nodes_in g) ≡ 0) → Same (shuffled order g) g
  shuffled_same g (inr few) = subst (λ h. Same h g) (sym (unfilled g (picked_nodes order (nodes_in g)) few)) (same_refl g)
  shuffled_same g (inl many) =
      let ns : List Node = picked_nodes order (nodes_in g) in
      let len : length ns ≡ length (nodes_in g) = length-map order (λ k. get_or (nodes_in g) (k - 1) no_node) ∙ sym many in
      let moved : IsPermutation (nodes_in g) ns = nodes_permute order (nodes_in g) (rw many is) in
      let nodes : nodes_in (refilled ns g) ≡ ns = nodes-refilled g ns len in
      record {
        begins = begins-refilled g ns;
        tokens = tokens-refilled g ns;
        two = two-refilled g ns;
        bodies = bodies-any (refilled ns g) ∙ (ap (list_any body_below) nodes ∙ (sym (list_any-IsPermutation body_below (nodes_in g) ns moved) ∙ sym (bodies-any g)));
        declaring = declaring-any (refilled ns g) ∙ (ap (list_any declares_below) nodes ∙ (sym (list_any-IsPermutation declares_below (nodes_in g) ns moved) ∙ sym (declaring-any g)));
        forms = forms-any (refilled ns g) ∙ (ap (λ ms. not (list_any misformed ms)) nodes
            ∙ (ap not (sym (list_any-IsPermutation misformed (nodes_in g) ns moved)) ∙ sym (forms-any g)));
      }

  pub counted : (f : Forest) (c : Cut) → AreOf (length order) (list_then lists f c)
      → (length (nodes_in (permuted order lists false f)) ≡ length order) ⊎ (length (nodes_in (permuted order lists false f)) ≡ 0)
  counted none c all = inr refl
  counted (token i rest) c all = counted rest c all
  counted (node l first under rest) c all = inl (count-items order lists false (node l first under rest) ∙ all.0)

  mutual
    pub same-items : (f : Forest) → AreItemsOf (length order) (items_in lists f) → Same (permuted order lists false f) f
    same-items none all = same_refl none
    same-items (token i rest) all = same_token i i (permuted order lists false rest) rest (same-items rest all)
    same-items (node l first under rest) all =
        same_node l first first (permuted order lists (is_among lists l under) under) under (permuted order lists false rest) rest
        (same-cut (is_among lists l under) under done all.0) (same-items rest all.1)

    pub same-cut : (b : Bool) (f : Forest) (c : Cut) → AreOf (length order) (cut_then lists b f c) → Same (permuted order lists b f) f
    same-cut true none c all = same_refl none
    same-cut false none c all = same_refl none
    same-cut true (token i rest) c all = same_token i i (permuted order lists true rest) rest (same-cut true rest c all)
    same-cut false (token i rest) c all = same_token i i (permuted order lists false rest) rest (same-cut false rest c all)
    same-cut true (node l first under rest) c all =
        let after : Cut = cut_then lists true rest c in
        let g : Forest = permuted order lists false under in
        same_node l first first (shuffled order g) under (permuted order lists true rest) rest
        (same_trans (shuffled order g) g under (shuffled_same g (counted under after all)) (same-items under (items_all order lists under after all)))
        (same-cut true rest c (rest_all order lists under after all))
    same-cut false (node l first under rest) c all =
        let after : Cut = cut_then lists false rest c in
        let b : Bool = is_among lists l under in
        same_node l first first (permuted order lists b under) under (permuted order lists false rest) rest
        (same-cut b under after all) (same-cut false rest c (cut_all order lists b under after all))

-- ---- Numbers anew

pub count-numbered : (k : ℕ) (f : Forest) → token_count (numbered k f) ≡ token_count f
count-numbered k none = refl
count-numbered k (token i rest) = ap (λ n. n + 1) (count-numbered (k + 1) rest)
count-numbered k (node l first under rest) = omega (arith, count-numbered k under, count-numbered (k + token_count under) rest)

pub from-numbered : (k : ℕ) (f : Forest) → AreFrom k (numbered k f)
from-numbered k none = tt
from-numbered k (token i rest) = (refl, from-numbered (k + 1) rest)
from-numbered k (node l first under rest) = (
  refl,
  from-numbered k under,
  subst (λ n. AreFrom (k + n) (numbered (k + token_count under) rest)) (sym (count-numbered k under)) (from-numbered (k + token_count under) rest),
)

pub same-numbered : (k : ℕ) (f : Forest) → Same (numbered k f) f
same-numbered k none = same_refl none
same-numbered k (token i rest) = same_token k i (numbered (k + 1) rest) rest (same-numbered (k + 1) rest)
same-numbered k (node l first under rest) =
    same_node l k first (numbered k under) under (numbered (k + token_count under) rest) rest (same-numbered k under) (same-numbered (k + token_count under) rest)

-- ---- Trees

pub arranged_leaves : (order : List ℕ) (lists : ℕ → Bool) (tree : Node) → AreOf (length order) (cut_in lists tree)
    → leaves (permuted order lists false tree.under) ≡ arranged order (cut_in lists tree) (leaves tree.under)
unfolding arranged
arranged_leaves order lists tree all =
    let e = leaves-cut order lists false tree.under done [] all in
    sym (ap (λ (xs : List ℕ). arranged order (cut_in lists tree) xs) (sym (append-nil (leaves tree.under))) ∙ (e ∙ append-nil (leaves (permuted order lists false tree.under))))

pub tree_of_text : (n count : ℕ) (order : List ℕ) (lists : ℕ → Bool) (tree : Node) → IsOrder n order → AreOf n (cut_in lists tree)
    → IsTreeOf count tree → IsTreeOf count (reordered order lists tree)
tree_of_text n count order lists tree is all of =
    let len : length order ≡ n = length-order n order is in
    let all' : AreOf (length order) (cut_in lists tree) = subst (λ k. AreOf k (cut_in lists tree)) (sym len) all in
    let is' : IsOrder (length order) order = subst (λ k. IsOrder k order) (sym len) is in
    let g : Forest = permuted order lists false tree.under in
    let moved : IsPermutation (leaves tree.under) (arranged order (cut_in lists tree) (leaves tree.under)) =
    arranged_permutes n order (cut_in lists tree) (leaves tree.under) is all in
    let long : length (leaves g) ≡ length (leaves tree.under) =
    ap (λ (xs : List ℕ). length xs) (arranged_leaves order lists tree all') ∙ length_permutation (leaves tree.under) (arranged order (cut_in lists tree) (leaves tree.under)) moved in
    record {
      tokens = from-numbered 0 g;
      all = count-numbered 0 g ∙ (sym (length-leaves g) ∙ (long ∙ (length-leaves tree.under ∙ of.all)));
      forms = (same-numbered 0 g).forms ∙ ((same-cut order lists is' false tree.under done all').forms ∙ of.forms);
    }
