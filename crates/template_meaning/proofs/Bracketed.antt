-- The lists of the functions in a unit are bracketed, where the order is not empty.
use Rattle.std.proofs.Common.{◌≡◌, ℕ, ◌<◌, inl, inr, Bool, true, false, ◌&&◌, ◌||◌, not, if◌then◌else◌, refl, sym, ap, subst, ◌∙◌, arith}
use Rattle.std.specs.Prelude.{◌==◌}
use Rattle.std.proofs.lemmas.Bool.{false≢true, and_parts, and_from}
use Rattle.c99_grammar.specs.declared.dialects.Edition.{Edition}
use Rattle.c99_tree.specs.Tree.{Forest, none, token, node}
use Rattle.c99_tree.specs.declared.production.Label.{Label}
use Rattle.c99_tree.specs.declared.production.Production.{Production}
use Rattle.c99_tree.specs.declared.production.Production.TheVariants.{Post, Args, Params}
use Rattle.c99_tree.specs.contracts.production.ProductionPartialEq.TheImpl.{ghosts}
use Rattle.c99_grammar.specs.Standard.{iso}
use Rattle.c_types.specs.Parameters.{parameters_of, typed, untyped}
use Rattle.c_types.specs.Trees.{is_node, is_at, is_list}
use Rattle.reordered_tree_laws.specs.Premises.{is_items, is_spaced, is_bracketed}
use Rattle.template_rules.specs.Lists.{declarations_in}
use Rattle.template_meaning.specs.Children.{children, EachNode, IsOfAlternative}
use Rattle.template_meaning.proofs.Forms.{IsPair, IsFullPair, call_pair, list_pair, are_items, are_more, is_end, any_production, is_param, args_items, params_items}

end_spaced : (g : Forest) → is_end (children g) ≡ true → is_spaced false g ≡ true
end_spaced none h = refl
end_spaced (token i rest) h = absurd (false≢true h)
end_spaced (node l first under rest) h = absurd (false≢true h)

mutual
  items_spaced : (dots : Bool) (ok : Production → Bool) (f : Forest) → are_items dots ok (children f) ≡ true → is_spaced false f ≡ true
  items_spaced dots ok none h = absurd (false≢true h)
  items_spaced dots ok (token i rest) h = absurd (false≢true h)
  items_spaced dots ok (node l first under rest) h = more_spaced dots ok rest (and_parts (ok l.production) (are_more dots ok (children rest)) h).1

  more_spaced : (dots : Bool) (ok : Production → Bool) (f : Forest) → are_more dots ok (children f) ≡ true → is_spaced true f ≡ true
  more_spaced dots ok none h = refl
  more_spaced dots ok (node l first under rest) h = absurd (false≢true h)
  more_spaced dots ok (token i none) h = absurd (false≢true h)
  more_spaced dots ok (token i (token j rest)) h = end_spaced rest (and_parts dots (is_end (children rest)) h).1
  more_spaced dots ok (token i (node l first under rest)) h = more_spaced dots ok rest (and_parts (ok l.production) (are_more dots ok (children rest)) h).1

args_is : (q : Production) (n : ℕ) → q ≡ Args → is_items (record { production = q; alternative = n }) ≡ true
args_is q n e = ap (λ (p : Production). is_items (record { production = p; alternative = n })) e

-- parameter declarations
types_is : (l : Label) → l.production ≡ Params → is_at l Params 1 ≡ false → is_items l ≡ true
types_is l named other =
    let here : is_node l Params ≡ true = ap (λ (p : Production). ghosts.eq p Params) named in
    let no_args : is_node l Args ≡ false = ap (λ (p : Production). ghosts.eq p Args) named in
    let second : (l.alternative == 1) ≡ false = sym (ap (λ b. b && (l.alternative == 1)) here) ∙ other in
    ap (λ b. b || (is_node l Params && not (l.alternative == 1))) no_args
    ∙ (ap (λ b. false || (b && not (l.alternative == 1))) here ∙ ap (λ b. false || (true && not b)) second)

module _ (s : Edition) where
  pub call_bracketed : (l : Label) (under : Forest) → is_at l Post 2 ≡ true → IsOfAlternative (iso s) l under → EachNode (IsOfAlternative (iso s)) under → is_bracketed under ≡ true
  call_bracketed l under at x each = by (call_pair s l under x at)
    where
      full : (p : IsFullPair Args under) → is_bracketed under ≡ true
      full p =
          let whole_each : EachNode (IsOfAlternative (iso s)) (token p.begin (node p.label p.first p.items (token p.close none))) = subst (EachNode (IsOfAlternative (iso s))) p.is each in
          let spaced = items_spaced false any_production p.items (args_items s p.label p.items whole_each.0 p.production) in
          let items_ : is_items p.label ≡ true = args_is p.label.production p.label.alternative p.production in
          ap is_bracketed p.is ∙ and_from (is_items p.label) (is_spaced false p.items) items_ spaced

      by : IsPair Args under → is_bracketed under ≡ true
      by (inl p) = ap is_bracketed p.is
      by (inr p) = full p

  -- a parameter type list
  pub typed_bracketed : (under : Forest) (p : IsFullPair Params under) → EachNode (IsOfAlternative (iso s)) under → is_at p.label Params 1 ≡ false → is_bracketed under ≡ true
  typed_bracketed under p each other =
      let whole_each : EachNode (IsOfAlternative (iso s)) (token p.begin (node p.label p.first p.items (token p.close none))) = subst (EachNode (IsOfAlternative (iso s))) p.is each in
      let spaced = items_spaced true is_param p.items (params_items s p.label p.items whole_each.0 p.production other) in
      ap is_bracketed p.is ∙ and_from (is_items p.label) (is_spaced false p.items) (types_is p.label p.production other) spaced

  -- a parameter list of so many parameters, which are not none
  pub list_bracketed : (n : ℕ) → 0 < n → (l : Label) (name : ℕ) (under : Forest) → is_list l ≡ true → IsOfAlternative (iso s) l under → EachNode (IsOfAlternative (iso s)) under
      → declarations_in (parameters_of name under) ≡ n → is_bracketed under ≡ true
  list_bracketed n some l name under at x each counted = by (list_pair s l under x at)
    where
      full : (p : IsFullPair Params under) → is_bracketed under ≡ true
      full p =
          let whole_each : EachNode (IsOfAlternative (iso s)) (token p.begin (node p.label p.first p.items (token p.close none))) = subst (EachNode (IsOfAlternative (iso s))) p.is each in
          let other = by_form (is_at p.label Params 1) refl in
          let spaced = items_spaced true is_param p.items (params_items s p.label p.items whole_each.0 p.production other) in
          ap is_bracketed p.is ∙ and_from (is_items p.label) (is_spaced false p.items) (types_is p.label p.production other) spaced
        where
          told : declarations_in (if is_at p.label Params 1 then untyped name p.items else typed name p.items) ≡ n
          told = subst (λ (f : Forest). declarations_in (parameters_of name f) ≡ n) p.is counted

          by_form : (b : Bool) → is_at p.label Params 1 ≡ b → is_at p.label Params 1 ≡ false
          by_form true e = absurd (let none_ : 0 ≡ n = sym (ap (λ (b : Bool). declarations_in (if b then untyped name p.items else typed name p.items)) e) ∙ told in omega (arith, none_, some))
          by_form false e = e

      by : IsPair Params under → is_bracketed under ≡ true
      by (inl p) = ap is_bracketed p.is
      by (inr p) = full p
