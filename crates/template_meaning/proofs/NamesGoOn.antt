-- The names of a text that is read agree with its tree in a new order: parameters in parentheses are read with their form, and
-- each token has its class at its new place.
use Rattle.std.proofs.Common.{ℕ, zero, suc, ◌+◌, ◌≡◌, Bool, true, inl, inr, List, [], ◌∷◌, ◌++◌, length, get_or, Ok, refl, ap, ◌∙◌, arith}
use Rattle.std.specs.Prelude.{◌==◌, nat_lt}
use Rattle.std.proofs.lemmas.Bool.{cases_Bool, and_parts, and_from, eqb-true, ltb-true, ltb-false, lt-ltb}
use Rattle.std.proofs.lemmas.List.{get_or_default, get_or_past}
use Rattle.c99_grammar.specs.declared.dialects.Edition.{Edition}
use Rattle.cs_base.specs.Token.{Token}
use Rattle.c99_tree.specs.Tree.{Forest, none, token, node, Node}
use Rattle.c99_tree.specs.declared.production.Label.{Label}
use Rattle.c99_tree.specs.declared.production.Production.{Production}
use Rattle.c99_tree.specs.declared.production.Production.TheVariants.{Pdirect, Pdecl, Suffix}
use Rattle.c99_tree.proofs.ProductionLemmas.{direct_is as pdirect_named}
use Rattle.c99_grammar.specs.declared.classes.Class.TheVariants.{LeftParen, RightParen, LeftBracket, Star, Identifier}
use Rattle.c99_grammar.specs.Items.{part, ◌·◌, many, deep, tok, own, next_two, is, when}
use Rattle.c99_grammar.specs.Standard.{iso}
use Rattle.c99_read.specs.Reading.{read_of}
use Rattle.c99_read.specs.State.{base_at, is_identifier}
use Rattle.c_types.specs.Trees.{is_node, is_at}
use Rattle.tree_laws.specs.TreesOfTexts.{token_count}
use Rattle.list_cuts.specs.Cuts.{Cut, numbers, IsOrder, AreOf, arranged, moved}
use Rattle.list_cuts.proofs.CutLemmas.{length-arranged}
use Rattle.list_cuts.proofs.OrderLemmas.{length-numbers}
use Rattle.reordered_tree_laws.specs.Cuts.{cut_in}
use Rattle.reordered_tree_laws.proofs.MovedPlaces.{moved-within, moved-beyond}
use Rattle.reordered_tree_laws.specs.BareNames.{is_opened, HaveBareNames}
use Rattle.reordered_text_laws.specs.Joined.{AreTokensInOrder}
use Rattle.reordered_text_laws.specs.ByClasses.{numbers_from}
use Rattle.renamed_tree_laws.proofs.BareNames.{Encloses}
use Rattle.renamed_tree_laws.proofs.Enclosing.{read_encloses}
use Rattle.template_meaning.specs.Children.{Child, a_token, a_node, children, AreOfItem, EachNode, IsOfAlternative}
use Rattle.template_meaning.proofs.Children.{each_below}
use Rattle.template_meaning.proofs.Forms.{token_child, node_child, alternative_is}

-- ---- Declarators in parentheses

-- a token, a node, and a token
opened_by : (under : Forest) (q : Production) (w : List Child) → children under ≡ a_token ∷ (a_node q ∷ (a_token ∷ w)) → is_opened under ≡ true
opened_by under q w e =
    let first = token_child under (a_node q ∷ (a_token ∷ w)) e in
    let second = node_child first.1 q (a_token ∷ w) first.3 in
    let third = token_child second.3 w second.6 in
    let many_ : token_count first.1 ≡ token_count second.2 + (token_count third.1 + 1) =
    ap token_count second.4 ∙ ap (λ (f : Forest). token_count second.2 + token_count f) third.2 in
    ap is_opened first.2 ∙ lt-ltb 0 (token_count first.1) (omega (arith, many_))

module _ (s : Edition) where
  opened : (l : Label) (under : Forest) → IsOfAlternative (iso s) l under → is_at l Pdirect 2 ≡ true → is_opened under ≡ true
  opened l under x at =
      let both = and_parts (is_node l Pdirect) (l.alternative == 2) at in
      let two : l.alternative ≡ 1 + 1 = omega (arith, eqb-true l.alternative 2 both.1) in
      let body = alternative_is (iso s) l under x Pdirect 1
      (when (next_two (is (LeftParen ∷ [])) (is (LeftBracket ∷ LeftParen ∷ Star ∷ Identifier ∷ []))) (tok LeftParen · (deep (part Pdecl) · (tok RightParen · many own (part Suffix)))))
      (pdirect_named l.production both.0) two refl in
      by body
    where
      by : AreOfItem (tok LeftParen · (deep (part Pdecl) · (tok RightParen · many own (part Suffix)))) (children under) → is_opened under ≡ true
      by (xs, ys, all, first, (zs, vs, more, (q, inner, stands), (ws, us, rest, close, last))) =
          opened_by under q us
          (all ∙ (ap (λ (w : List Child). w ++ ys) first
          ∙ ap (λ (w : List Child). a_token ∷ w) (more ∙ (ap (λ (w : List Child). w ++ vs) inner ∙ ap (λ (w : List Child). a_node q ∷ w) (rest ∙ ap (λ (w : List Child). w ++ us) close)))))

  module _ (toks : List Token) where
    bare_names : (f : Forest) → EachNode (IsOfAlternative (iso s)) f → Encloses s toks f → HaveBareNames s toks f
    bare_names none x e = tt
    bare_names (token i rest) x e = bare_names rest x e
    bare_names (node l first under rest) x e = (
      λ at. record { opened = opened l under x.0 at; named = λ is. e.0 (and_from (is_at l Pdirect 2) (is_identifier (base_at (iso s) toks (first + 1))) at is) },
      bare_names under x.1 e.1.0,
      bare_names rest x.2 e.1.1,
    )

    pub have_bare_names : (tree : Node) → read_of (iso s) toks ≡ Ok tree → HaveBareNames s toks tree.under
    have_bare_names tree reads = bare_names tree.under (each_below s toks tree reads) (read_encloses s toks tree reads)

-- ---- Classes of tokens

numbers_same : (k n : ℕ) → numbers_from k n ≡ numbers k n
unfolding numbers
numbers_same k zero = refl
numbers_same k (suc n) = ap (λ (ks : List ℕ). k ∷ ks) (numbers_same (k + 1) n)

module _ (s : Edition) (order : List ℕ) (lists : ℕ → Bool) (tree : Node) (old new : List Token) (is : IsOrder (length order) order)
    (each : AreOf (length order) (cut_in lists tree)) (stand : AreTokensInOrder s order lists tree old new) where
  abbrev c : Cut
  c = cut_in lists tree

  abbrev n : ℕ
  n = length old

  abbrev move : ℕ → ℕ
  move k = moved order c n k

  abbrev all : List ℕ
  all = arranged order c (numbers 0 n)

  long : length all ≡ n
  long = length-arranged (length order) order c (numbers 0 n) is each ∙ length-numbers n 0

  class_at : (k : ℕ) → base_at (iso s) new k ≡ base_at (iso s) old (get_or all k k)
  class_at k = stand.1 k ∙ ap (λ (ks : List ℕ). base_at (iso s) old (get_or (arranged order c ks) k k)) (numbers_same 0 n)

  pub classes_move : (k : ℕ) → base_at (iso s) new (move k) ≡ base_at (iso s) old k
  classes_move k = elim (cases_Bool (nat_lt k n)) [
    | inl a ↦
        let w = moved-within n order c is each k (ltb-true k n a) in
        class_at (move k) ∙ ap (base_at (iso s) old) (get_or_default all (move k) (move k) 0 (omega (arith, w.0, long)) ∙ w.1)
    | inr a ↦
        let stays : move k ≡ k = moved-beyond n order c is each k (ltb-false k n a) in
        ap (base_at (iso s) new) stays ∙ (class_at k ∙ ap (base_at (iso s) old) (get_or_past all k k (omega (arith, long, ltb-false k n a))))
  ]
