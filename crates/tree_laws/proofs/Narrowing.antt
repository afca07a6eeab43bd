-- What is so of narrowed trees, by induction over trees as C11 has them.
use Rattle.std.proofs.Common.{ℕ, ◌≡◌, Bool, true, false, ◌&&◌, ◌||◌, not, ◌==◌, refl, sym, ap, subst, ◌∙◌}
use Rattle.std.proofs.lemmas.Bool.{and_parts, eqb-true, false≢true}
use Rattle.cs_base.proofs.BoolLemmas.{or_met as lined, not_and_true as no_lone_of}
use Rattle.c99_tree.specs.Tree.{Forest, none, token, node}
use Rattle.c99_tree.specs.declared.production.Label.{Label}
use Rattle.c99_tree.specs.declared.production.Production.{Production}
use Rattle.c99_tree.specs.declared.production.Production.TheVariants.{Specs, Member, MemRest}
use Rattle.c99_read.specs.State.{is_specs}
use Rattle.tree_laws.specs.Narrowed.{renumbered, is_member, is_line, is_rest, is_lone, spread_if, narrowed}
use Rattle.tree_laws.proofs.Standing.{within, kids, is_line_body, is_good, formed, is_mdecl}
use Rattle.tree_laws.proofs.StandardSteps.{labelled}

-- a node that is no line of members
pub record IsNode (l : Label) (under : Forest) : Type 0 where
  pub no_line : is_line l ≡ false
  pub kids_are : kids (within l.production) under ≡ true
  pub sound : formed true under ≡ true

-- a line of members: its specifiers, and what stands behind them
pub record IsLine (j : ℕ) (specs below : Forest) : Type 0 where
  pub no_lone : (j == 1) ≡ false
  pub specs_are : kids (within Specs) specs ≡ true
  pub below_are : kids is_mdecl below ≡ true
  pub specs_sound : formed true specs ≡ true
  pub below_sound : formed true below ≡ true

-- ---- Labels of a line

specs_is : (p : Production) → is_specs p ≡ true → p ≡ Specs
specs_is Specs e = refl
specs_is _ e = absurd (false≢true e)

member_is : (p : Production) → is_member p ≡ true → p ≡ Member
member_is Member e = refl
member_is _ e = absurd (false≢true e)

rest_is : (p : Production) → is_rest p ≡ true → p ≡ MemRest
rest_is MemRest e = refl
rest_is _ e = absurd (false≢true e)

line_is : (l : Label) → is_line l ≡ true → l ≡ labelled Member 3
line_is l e =
    let parts = and_parts (is_member l.production) (l.alternative == 3) e in
    ap (λ p. labelled p l.alternative) (member_is l.production parts.0) ∙ ap (labelled Member) (eqb-true l.alternative 3 parts.1)

pub label_is : (l : Label) (p : Production) → l.production ≡ p → l ≡ labelled p l.alternative
label_is l p e = ap (λ q. labelled q l.alternative) e

module _ (P : Forest → Forest → Type 0)
    (at_none : P none none)
    (at_token : (i : ℕ) (rest : Forest) → P (narrowed rest) rest → P (token i (narrowed rest)) (token i rest))
    (at_node : (l : Label) (first : ℕ) (under rest : Forest) → IsNode l under → P (narrowed under) under → P (narrowed rest) rest
    → P (node (renumbered l) first (narrowed under) (narrowed rest)) (node l first under rest))
    (at_line : (first start second n j : ℕ) (specs below rest : Forest) → IsLine j specs below → P (narrowed specs) specs → P (narrowed below) below → P (narrowed rest) rest
    → P (node (labelled Member 2) first (node (labelled Specs n) start (narrowed specs) (narrowed below)) (narrowed rest))
    (node (labelled Member 3) first (node (labelled Specs n) start specs (node (labelled MemRest j) second below none)) rest)) where
  -- of what stands in a line the parts are so
  abbrev Parts : Forest → Type 0
  Parts (node k start specs (node m second below none)) = P (narrowed specs) specs × P (narrowed below) below
  Parts _ = Unit {0}

  abbrev So : Bool → Forest → Type 0
  So true f = Parts f
  So false f = P (narrowed f) f

  a_line : (first : ℕ) (k m : Label) (start second : ℕ) (specs below rest : Forest) → k.production ≡ Specs → m.production ≡ MemRest → IsLine m.alternative specs below
      → P (narrowed specs) specs → P (narrowed below) below → P (narrowed rest) rest
      → P (node (labelled Member 2) first (node (renumbered k) start (spread_if (is_line k) (narrowed specs)) (spread_if (is_line m) (narrowed below))) (narrowed rest))
      (node (labelled Member 3) first (node k start specs (node m second below none)) rest)
  a_line first k m start second specs below rest e g known s b r =
      subst
      (λ x. P (node (labelled Member 2) first (node (renumbered x) start (spread_if (is_line x) (narrowed specs)) (spread_if (is_line m) (narrowed below))) (narrowed rest))
      (node (labelled Member 3) first (node x start specs (node m second below none)) rest))
      (sym (label_is k Specs e))
      (subst
      (λ y. P (node (labelled Member 2) first (node (labelled Specs k.alternative) start (narrowed specs) (spread_if (is_line y) (narrowed below))) (narrowed rest))
      (node (labelled Member 3) first (node (labelled Specs k.alternative) start specs (node y second below none)) rest))
      (sym (label_is m MemRest g))
      (at_line first start second k.alternative m.alternative specs below rest known s b r))

  lined_up : (first : ℕ) (under rest : Forest) → is_line_body under ≡ true → formed true under ≡ true → Parts under → P (narrowed rest) rest
      → P (node (labelled Member 2) first (spread_if true (narrowed under)) (narrowed rest)) (node (labelled Member 3) first under rest)
  lined_up first (node k start specs (node m second below none)) rest body sound parts r =
      let both = and_parts (is_specs k.production) (is_rest m.production) body in
      let a = and_parts (is_good true k specs) (formed true specs && formed true (node m second below none)) sound in
      let b = and_parts (formed true specs) (formed true (node m second below none)) a.1 in
      let c = and_parts (is_good true m below) (formed true below && true) b.1 in
      let e = specs_is k.production both.0 in
      let g = rest_is m.production both.1 in
      let d = and_parts (not (is_line k) || is_line_body specs) _ a.0 in
      let f = and_parts (not (is_line m) || is_line_body below) _ c.0 in
      let h = and_parts (kids (within k.production) specs) _ d.1 in
      let i = and_parts (kids (within m.production) below) (not (is_lone m && true)) f.1 in
      a_line first k m start second specs below rest e g
      (record {
        no_lone = ap (λ p. is_rest p && (m.alternative == 1)) (sym g) ∙ no_lone_of (is_lone m) i.1;
        specs_are = ap (λ p. kids (within p) specs) (sym e) ∙ h.0;
        below_are = ap (λ p. kids (within p) below) (sym g) ∙ i.0;
        specs_sound = b.0;
        below_sound = (and_parts (formed true below) true c.1).0;
      })
      parts.0 parts.1 r
  lined_up first none rest body sound parts r = absurd (false≢true body)
  lined_up first (token i more) rest body sound parts r = absurd (false≢true body)
  lined_up first (node k start specs none) rest body sound parts r = absurd (false≢true body)
  lined_up first (node k start specs (token i more)) rest body sound parts r = absurd (false≢true body)
  lined_up first (node k start specs (node m second below (token i more))) rest body sound parts r = absurd (false≢true body)
  lined_up first (node k start specs (node m second below (node o third last more))) rest body sound parts r = absurd (false≢true body)

  a_node : (l : Label) (first : ℕ) (under rest : Forest) → formed true (node l first under rest) ≡ true → (b : Bool) → is_line l ≡ b → So b under → P (narrowed rest) rest
      → P (narrowed (node l first under rest)) (node l first under rest)
  a_node l first under rest h true e parts r =
      let a = and_parts (is_good true l under) (formed true under && formed true rest) h in
      let b = and_parts (not (is_line l) || is_line_body under) _ a.0 in
      let body = lined (is_line l) (is_line_body under) b.0 e in
      subst (λ x. P (node (renumbered x) first (spread_if (is_line x) (narrowed under)) (narrowed rest)) (node x first under rest)) (sym (line_is l e))
      (lined_up first under rest body ((and_parts (formed true under) (formed true rest) a.1).0) parts r)
  a_node l first under rest h false e so r =
      let a = and_parts (is_good true l under) (formed true under && formed true rest) h in
      let b = and_parts (not (is_line l) || is_line_body under) _ a.0 in
      let c = and_parts (kids (within l.production) under) _ b.1 in
      subst (λ x. P (node (renumbered l) first (spread_if x (narrowed under)) (narrowed rest)) (node l first under rest)) (sym e)
      (at_node l first under rest (record { no_line = e; kids_are = c.0; sound = (and_parts (formed true under) (formed true rest) a.1).0 }) so r)

  by : (b : Bool) (f : Forest) → formed true f ≡ true → So b f
  by true (node k start specs (node m second below none)) h =
      let a = and_parts (is_good true k specs) (formed true specs && formed true (node m second below none)) h in
      let b = and_parts (formed true specs) (formed true (node m second below none)) a.1 in
      let c = and_parts (is_good true m below) (formed true below && true) b.1 in
      (by false specs b.0, by false below ((and_parts (formed true below) true c.1).0))
  by true none h = tt
  by true (token i rest) h = tt
  by true (node k start specs none) h = tt
  by true (node k start specs (token i rest)) h = tt
  by true (node k start specs (node m second below (token i rest))) h = tt
  by true (node k start specs (node m second below (node o third last rest))) h = tt
  by false none h = at_none
  by false (token i rest) h = at_token i rest (by false rest h)
  by false (node l first under rest) h =
      let a = and_parts (is_good true l under) (formed true under && formed true rest) h in
      let b = and_parts (formed true under) (formed true rest) a.1 in
      a_node l first under rest h (is_line l) refl (by (is_line l) under b.0) (by false rest b.1)

  -- what holds of each part holds of a tree and the narrowed one
  pub narrows : (f : Forest) → formed true f ≡ true → P (narrowed f) f
  narrows f h = by false f h
