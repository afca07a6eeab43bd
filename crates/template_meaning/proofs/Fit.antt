-- The nodes of a tree that is read have the forms that binding in a new order asks for.
use Rattle.std.proofs.Common.{◌≡◌, ℕ, zero, suc, ◌+◌, inl, inr, Bool, true, false, ◌&&◌, ◌||◌, not, List, [], ◌∷◌, ◌++◌, Some, refl, sym, ap, subst, ◌∙◌}
use Rattle.std.specs.Prelude.{◌==◌, slice_get}
use Rattle.std.proofs.lemmas.Bool.{cases_Bool, false≢true, and_parts, and_from, eqb-true}
use Rattle.std.proofs.lemmas.Option.{same_Some}
use Rattle.cs_base.proofs.BoolLemmas.{or_met as implied, or_other}
use Rattle.c99_grammar.specs.declared.dialects.Edition.{Edition}
use Rattle.c99_tree.specs.Tree.{Forest}
use Rattle.c99_tree.specs.declared.production.Label.{Label}
use Rattle.c99_tree.specs.declared.production.Production.{Production}
use Rattle.c99_tree.specs.declared.production.Production.TheVariants.{StructSpec, SuRest, EnumSpec, EnRest, Add, Mul, Unary, Cast}
use Rattle.c99_tree.specs.contracts.production.ProductionPartialEq.TheImpl.{ghosts}
use Rattle.c99_grammar.specs.declared.classes.Class.TheVariants.{PlusPlus, MinusMinus, Amp, Star, Plus, Minus, Tilde, Bang}
use Rattle.c99_grammar.specs.Items.{Item, one, part, ◌·◌, many, deep, own, Alternative, plain}
use Rattle.c99_grammar.specs.Standard.{iso}
use Rattle.c_types.specs.Trees.{is_node, is_at}
use Rattle.tree_laws.specs.Shapes.{parts_all, begins, has_no_body, passes_on}
use Rattle.reordered_tree_laws.specs.Premises.{is_items}
use Rattle.template_meaning.specs.Children.{Child, a_token, a_node, children, AreTimes, AreOfItem, StandsFor, IsOfAlternative}
use Rattle.template_meaning.proofs.FitTable.{is_rest, is_specifier, is_outer, is_body, is_ext_tail, is_ext_rest, is_declarator, is_declarator_child, is_type_name, is_type_child, is_membered, has_members, is_list_node, not_these, row_first, row_second, row_third, row_fits, fits_at, plainly, all_nodes, parts_nodes, plain_nodes, begins_token, table_row, operands_are}
use Rattle.template_meaning.proofs.Forms.{alternative_is}

-- ---- What the table says of a node

module _ (s : Edition) (l : Label) (under : Forest) (x : IsOfAlternative (iso s) l under) where
  abbrev p : Production
  p = l.production

  abbrev body : Item
  body = let a = x.alternative in a.body

  row : row_fits p x.alternative ≡ true
  row = table_row row_fits p ((iso s).table p) x.number x.alternative (fits_at s p) x.is_one

  firsts : row_first p x.alternative ≡ true
  firsts = (and_parts (row_first p x.alternative) (row_second p x.alternative && row_third p x.alternative) row).0

  others : (row_second p x.alternative && row_third p x.alternative) ≡ true
  others = (and_parts (row_first p x.alternative) (row_second p x.alternative && row_third p x.alternative) row).1

  seconds : row_second p x.alternative ≡ true
  seconds = (and_parts (row_second p x.alternative) (row_third p x.alternative) others).0

  thirds : row_third p x.alternative ≡ true
  thirds = (and_parts (row_second p x.alternative) (row_third p x.alternative) others).1

  specifiers : ((is_specifier p || parts_all (not_these is_rest) body) && (not (is_specifier p) || begins body)) ≡ true
  specifiers = (and_parts ((is_specifier p || parts_all (not_these is_rest) body) && (not (is_specifier p) || begins body))
      (passes_on has_no_body p body && ((is_body p || passes_on is_outer p body) && (not (is_body p) || parts_all has_no_body body))) firsts).0

  bodies : (passes_on has_no_body p body && ((is_body p || passes_on is_outer p body) && (not (is_body p) || parts_all has_no_body body))) ≡ true
  bodies = (and_parts ((is_specifier p || parts_all (not_these is_rest) body) && (not (is_specifier p) || begins body))
      (passes_on has_no_body p body && ((is_body p || passes_on is_outer p body) && (not (is_body p) || parts_all has_no_body body))) firsts).1

  blocks : ((is_body p || passes_on is_outer p body) && (not (is_body p) || parts_all has_no_body body)) ≡ true
  blocks = (and_parts (passes_on has_no_body p body) ((is_body p || passes_on is_outer p body) && (not (is_body p) || parts_all has_no_body body)) bodies).1

  -- its children
  abbrev Have : (Production → Bool) → Type 0
  Have ok = all_nodes ok (children under) ≡ true

  pub no_rest : is_specifier p ≡ false → Have (not_these is_rest)
  no_rest e = parts_nodes (not_these is_rest) (operands_are (not_these is_rest) refl) body
      (or_other (is_specifier p) (parts_all (not_these is_rest) body) (and_parts (is_specifier p || parts_all (not_these is_rest) body) (not (is_specifier p) || begins body) specifiers).0 e) (children under) x.own

  pub specified : is_specifier p ≡ true → (v : List Child) × (children under ≡ a_token ∷ v)
  specified e = begins_token body
      (implied (is_specifier p) (begins body) (and_parts (is_specifier p || parts_all (not_these is_rest) body) (not (is_specifier p) || begins body) specifiers).1 e) (children under) x.own

  pub inner_nodes : has_no_body p ≡ true → Have has_no_body
  inner_nodes e = parts_nodes has_no_body (operands_are has_no_body refl) body
      (implied (has_no_body p) (parts_all has_no_body body) (and_parts (passes_on has_no_body p body) ((is_body p || passes_on is_outer p body) && (not (is_body p) || parts_all has_no_body body)) bodies).0 e)
      (children under) x.own

  pub outer_nodes : is_body p ≡ false → is_outer p ≡ true → Have is_outer
  outer_nodes e f = parts_nodes is_outer (operands_are is_outer refl) body
      (implied (is_outer p) (parts_all is_outer body) (or_other (is_body p) (passes_on is_outer p body) (and_parts (is_body p || passes_on is_outer p body) (not (is_body p) || parts_all has_no_body body) blocks).0 e) f)
      (children under) x.own

  pub body_nodes : is_body p ≡ true → Have has_no_body
  body_nodes e = parts_nodes has_no_body (operands_are has_no_body refl) body
      (implied (is_body p) (parts_all has_no_body body) (and_parts (is_body p || passes_on is_outer p body) (not (is_body p) || parts_all has_no_body body) blocks).1 e) (children under) x.own

  declarators_row : ((not (is_declarator p) || parts_all (plainly is_declarator_child) body) && (not (is_type_name p) || parts_all (plainly is_type_child) body)) ≡ true
  declarators_row = (and_parts ((not (is_declarator p) || parts_all (plainly is_declarator_child) body) && (not (is_type_name p) || parts_all (plainly is_type_child) body))
      ((is_ext_tail p || parts_all (not_these is_body) body) && (is_ext_rest p || parts_all (not_these is_ext_tail) body)) seconds).0

  tails_row : ((is_ext_tail p || parts_all (not_these is_body) body) && (is_ext_rest p || parts_all (not_these is_ext_tail) body)) ≡ true
  tails_row = (and_parts ((not (is_declarator p) || parts_all (plainly is_declarator_child) body) && (not (is_type_name p) || parts_all (plainly is_type_child) body))
      ((is_ext_tail p || parts_all (not_these is_body) body) && (is_ext_rest p || parts_all (not_these is_ext_tail) body)) seconds).1

  pub declarator_nodes : is_declarator p ≡ true → Have is_declarator_child
  declarator_nodes e = plain_nodes is_declarator_child body
      (implied (is_declarator p) (parts_all (plainly is_declarator_child) body)
      (and_parts (not (is_declarator p) || parts_all (plainly is_declarator_child) body) (not (is_type_name p) || parts_all (plainly is_type_child) body) declarators_row).0 e)
      (children under) x.own

  pub type_nodes : is_type_name p ≡ true → Have is_type_child
  type_nodes e = plain_nodes is_type_child body
      (implied (is_type_name p) (parts_all (plainly is_type_child) body)
      (and_parts (not (is_declarator p) || parts_all (plainly is_declarator_child) body) (not (is_type_name p) || parts_all (plainly is_type_child) body) declarators_row).1 e)
      (children under) x.own

  pub no_bodies : is_ext_tail p ≡ false → Have (not_these is_body)
  no_bodies e = parts_nodes (not_these is_body) (operands_are (not_these is_body) refl) body
      (or_other (is_ext_tail p) (parts_all (not_these is_body) body) (and_parts (is_ext_tail p || parts_all (not_these is_body) body) (is_ext_rest p || parts_all (not_these is_ext_tail) body) tails_row).0 e)
      (children under) x.own

  pub no_tails : is_ext_rest p ≡ false → Have (not_these is_ext_tail)
  no_tails e = parts_nodes (not_these is_ext_tail) (operands_are (not_these is_ext_tail) refl) body
      (or_other (is_ext_rest p) (parts_all (not_these is_ext_tail) body) (and_parts (is_ext_tail p || parts_all (not_these is_body) body) (is_ext_rest p || parts_all (not_these is_ext_tail) body) tails_row).1 e)
      (children under) x.own

  pub no_members : has_members p ≡ false → Have (not_these is_membered)
  no_members e = parts_nodes (not_these is_membered) (operands_are (not_these is_membered) refl) body
      (or_other (has_members p) (parts_all (not_these is_membered) body) (and_parts (has_members p || parts_all (not_these is_membered) body) (is_rest p || parts_all (not_these is_list_node) body) thirds).0 e)
      (children under) x.own

  pub no_lists : is_rest p ≡ false → Have (not_these is_list_node)
  no_lists e = parts_nodes (not_these is_list_node) (operands_are (not_these is_list_node) refl) body
      (or_other (is_rest p) (parts_all (not_these is_list_node) body) (and_parts (has_members p || parts_all (not_these is_membered) body) (is_rest p || parts_all (not_these is_list_node) body) thirds).1 e)
      (children under) x.own

-- ---- Signs

pub rest_same : (q : Production) → (ghosts.eq q SuRest || ghosts.eq q EnRest) ≡ is_rest q
rest_same SuRest = refl
rest_same EnRest = refl
rest_same _ = refl

-- no child asks for a token that does not stand in front of it
abbrev pub signs : Label → Bool → ℕ → List Child → Bool
signs l mine k [] = true
signs l mine k (a_token ∷ w) = signs l (not (is_items l)) (k + 1) w
signs l mine k (a_node q ∷ w) = (mine || not ((is_at l Unary 1 || (is_node l Add && not (k == 0))) || is_rest q)) && signs l mine (k + 1) w

-- behind a token of its own
pub signs_behind : (l : Label) → is_items l ≡ false → (k : ℕ) (w : List Child) → signs l true k w ≡ true
signs_behind l e k [] = refl
signs_behind l e k (a_token ∷ w) = rw e (signs_behind l e (k + 1) w)
signs_behind l e k (a_node q ∷ w) = signs_behind l e (k + 1) w

-- where nothing asks
signs_free : (l : Label) → is_at l Unary 1 ≡ false → is_node l Add ≡ false → (mine : Bool) (k : ℕ) (w : List Child) → all_nodes (not_these is_rest) w ≡ true → signs l mine k w ≡ true
signs_free l e f mine k [] h = refl
signs_free l e f mine k (a_token ∷ w) h = signs_free l e f (not (is_items l)) (k + 1) w h
signs_free l e f mine k (a_node q ∷ w) h =
    let both = and_parts (not (is_rest q)) (all_nodes (not_these is_rest) w) h in
    let asks : not ((is_at l Unary 1 || (is_node l Add && not (k == 0))) || is_rest q) ≡ true =
    ap (λ b. not ((b || (is_node l Add && not (k == 0))) || is_rest q)) e ∙ (ap (λ b. not ((b && not (k == 0)) || is_rest q)) f ∙ both.0) in
    and_from (mine || not ((is_at l Unary 1 || (is_node l Add && not (k == 0))) || is_rest q)) (signs l mine (k + 1) w) (or_right_of mine _ asks)
    (signs_free l e f mine (k + 1) w both.1)
  where
    or_right_of : (a b : Bool) → b ≡ true → (a || b) ≡ true
    or_right_of true b g = refl
    or_right_of false b g = g

specifier_plain : (q : Production) (n : ℕ) → is_specifier q ≡ true → is_items (record { production = q; alternative = n }) ≡ false
specifier_plain StructSpec n h = refl
specifier_plain EnumSpec n h = refl
specifier_plain _ n h = absurd (false≢true h)

unary_plain : (q : Production) (n : ℕ) → ghosts.eq q Unary ≡ true → is_items (record { production = q; alternative = n }) ≡ false
unary_plain Unary n h = refl
unary_plain _ n h = absurd (false≢true h)

add_plain : (q : Production) (n : ℕ) → ghosts.eq q Add ≡ true → (is_items (record { production = q; alternative = n }) ≡ false) × ((ghosts.eq q Unary && (n == 1)) ≡ false)
add_plain Add n h = (refl, refl)
add_plain _ n h = absurd (false≢true h)

unary_named : (q : Production) → ghosts.eq q Unary ≡ true → q ≡ Unary
unary_named Unary h = refl
unary_named _ h = absurd (false≢true h)

add_named : (q : Production) → ghosts.eq q Add ≡ true → q ≡ Add
add_named Add h = refl
add_named _ h = absurd (false≢true h)

operand_plain : (q : Production) → StandsFor Mul q → is_rest q ≡ false
operand_plain q (inl same) = ap is_rest same
operand_plain q (inr c) = not_is (is_rest q) (operands_are (not_these is_rest) refl q c.1)
  where
    not_is : (b : Bool) → not b ≡ true → b ≡ false
    not_is true h = absurd (false≢true h)
    not_is false h = refl

module _ (s : Edition) (l : Label) (under : Forest) (x : IsOfAlternative (iso s) l under) where
  signs_token : is_items l ≡ false → (v : List Child) → children under ≡ a_token ∷ v → signs l false 0 (children under) ≡ true
  signs_token plain_ v e =
      subst (λ (w : List Child). signs l false 0 w ≡ true) (sym e) (ap (λ b. signs l (not b) 1 v) plain_ ∙ signs_behind l plain_ 1 v)

  signs_unary : is_at l Unary 1 ≡ true → signs l false 0 (children under) ≡ true
  signs_unary at =
      let both = and_parts (is_node l Unary) (l.alternative == 1) at in
      let named = unary_named l.production both.0 in
      let signed : Item = one (PlusPlus ∷ MinusMinus ∷ Amp ∷ Star ∷ Plus ∷ Minus ∷ Tilde ∷ Bang ∷ []) · deep (part Cast) in
      let one_ : l.alternative ≡ 0 + 1 = eqb-true l.alternative 1 both.1 in
      let own_ = alternative_is (iso s) l under x Unary 0 (plain signed) named one_ refl in
      let first = begins_token signed refl (children under) own_ in
      signs_token (unary_plain l.production l.alternative both.0) first.0 first.1

  signs_add : is_node l Add ≡ true → signs l false 0 (children under) ≡ true
  signs_add at = by (x.number) (sym (ap (λ (q : Production). slice_get ((iso s).table q) x.number) named) ∙ x.is_one)
    where
      named : l.production ≡ Add
      named = add_named l.production at

      sum : Alternative
      sum = plain (part Mul · many own (one (Plus ∷ Minus ∷ []) · part Mul))

      more : (q : Production) (v : List Child) → is_rest q ≡ false → signs l false 1 v ≡ true → signs l false 0 (a_node q ∷ v) ≡ true
      more q v e h =
          and_from (not ((is_at l Unary 1 || (is_node l Add && not (0 == 0))) || is_rest q)) (signs l false 1 v)
          (ap (λ b. not ((b || (is_node l Add && not (0 == 0))) || is_rest q)) (add_plain l.production l.alternative at).1
          ∙ (ap (λ b. not ((b && false) || is_rest q)) at ∙ ap (λ b. not (false || b)) e)) h

      behind : (n : ℕ) (v : List Child) → AreTimes (AreOfItem (one (Plus ∷ Minus ∷ []) · part Mul)) n v → signs l false 1 v ≡ true
      behind zero v e = subst (λ (w : List Child). signs l false 1 w ≡ true) (sym e) refl
      behind (suc n) v (xs, ys, all, item_, rest) =
          let first = begins_token (one (Plus ∷ Minus ∷ []) · part Mul) refl xs item_ in
          let e : v ≡ a_token ∷ (first.0 ++ ys) = all ∙ ap (λ (w : List Child). w ++ ys) first.1 in
          let plain_ = (add_plain l.production l.alternative at).0 in
          subst (λ (w : List Child). signs l false 1 w ≡ true) (sym e) (ap (λ b. signs l (not b) 2 (first.0 ++ ys)) plain_ ∙ signs_behind l plain_ 2 (first.0 ++ ys))

      whole : (w : List Child) → AreOfItem (part Mul · many own (one (Plus ∷ Minus ∷ []) · part Mul)) w → signs l false 0 w ≡ true
      whole w (xs, ys, all, (q, first, stands), (n, times)) =
          let e : w ≡ a_node q ∷ ys = all ∙ ap (λ (v : List Child). v ++ ys) first in
          subst (λ (v : List Child). signs l false 0 v ≡ true) (sym e) (more q ys (operand_plain q stands) (behind n ys times))

      by : (n : ℕ) → slice_get ((iso s).table Add) n ≡ Some x.alternative → signs l false 0 (children under) ≡ true
      by zero at_ =
          let same : sum ≡ x.alternative = same_Some sum x.alternative at_ in
          whole (children under) (subst (λ (a : Alternative). AreOfItem a.body (children under)) (sym same) x.own)
      by (suc n) at_ = absurd (cc)

  pub signs_of : signs l false 0 (children under) ≡ true
  signs_of = elim (cases_Bool (is_specifier l.production)) [
    | inl specifier ↦ let v = specified s l under x specifier in signs_token (specifier_plain l.production l.alternative specifier) v.0 v.1
    | inr other ↦ elim (cases_Bool (is_at l Unary 1)) [
      | inl signed ↦ signs_unary signed
      | inr unsigned ↦ elim (cases_Bool (is_node l Add)) [
        | inl adds ↦ signs_add adds
        | inr single ↦ signs_free l unsigned single false 0 (children under) (no_rest s l under x other)
      ]
    ]
  ]
