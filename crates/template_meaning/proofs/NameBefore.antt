-- The name of a list stands before its `(`.
use Rattle.std.proofs.Common.{◌≡◌, ℕ, zero, suc, ◌+◌, ◌<◌, ◌≤◌, ◌⊎◌, inl, inr, Bool, true, false, ◌||◌, if◌then◌else◌, List, [], ◌∷◌, ◌++◌, Option, None, Some, refl, sym, ap, subst, ◌∙◌, arith}
use Rattle.std.specs.Prelude.{slice_get}
use Rattle.std.specs.Option.{option_or}
use Rattle.std.proofs.lemmas.Bool.{false≢true}
use Rattle.std.proofs.lemmas.Option.{same_Some}
use Rattle.c99_grammar.specs.declared.dialects.Edition.{Edition}
use Rattle.c99_tree.specs.Tree.{Forest, none, token, node}
use Rattle.c99_tree.specs.declared.production.Label.{Label}
use Rattle.c99_tree.specs.declared.production.Production.{Production}
use Rattle.c99_tree.specs.declared.production.Production.TheVariants.{Declarator, Pointer, Direct, Suffix, Attr, AsmName}
use Rattle.c99_tree.specs.contracts.production.ProductionPartialEq.TheImpl.{ghosts}
use Rattle.c99_grammar.specs.Items.{part, ◌·◌, many, own, deep, any_name, tok, plain, Alternative}
use Rattle.c99_grammar.specs.declared.classes.Class.TheVariants.{LeftParen, RightParen}
use Rattle.c99_grammar.specs.Standard.{iso}
use Rattle.c_types.specs.Lists.{nearest_of}
use Rattle.c_types.specs.Trees.{is_node, is_list, is_aside, has_name, holds_name, name_below, first_token}
use Rattle.tree_laws.specs.TreesOfTexts.{token_count, AreFrom}
use Rattle.template_meaning.specs.Children.{Child, a_node, children, AreTimes, AreOfItem, EachNode, IsOfAlternative}
use Rattle.template_meaning.proofs.Forms.{token_child, node_child, stands_alone}
use Rattle.template_meaning.proofs.Parens.{entry, Begins, within, nearest_entry}

-- pointers, and then a direct declarator
abbrev pub IsDeclarator : Forest → Type 0
IsDeclarator none = ⊥
IsDeclarator (token i rest) = ⊥
IsDeclarator (node l first under rest) = ((l.production ≡ Pointer) × IsDeclarator rest) ⊎ ((l.production ≡ Direct) × (rest ≡ none))

if_true : {X : Type 0} (b : Bool) (x y z : X) → b ≡ true → (if b then x else y) ≡ z → x ≡ z
if_true true x y z h e = e
if_true false x y z h e = absurd (false≢true h)

if_false : {X : Type 0} (b : Bool) (x y z : X) → b ≡ false → (if b then x else y) ≡ z → y ≡ z
if_false true x y z h e = absurd (false≢true (sym h))
if_false false x y z h e = e

no_name : (l : Label) → l.production ≡ Direct → l.alternative ≡ 2 → has_name l ≡ false
no_name l p two_ = rw (p, two_) refl

some_name : (l : Label) → l.production ≡ Direct → l.alternative ≡ 1 → has_name l ≡ true
some_name l p one_ = rw (p, one_) refl

-- the list that stands nearest, at a pointer and at a part of a declarator
near_pointer : (m : Label) (under rest : Forest) (z : Option (Option Forest)) → m.production ≡ Pointer
    → (if is_node m Suffix then Some (if is_list m then Some under else None)
    else (if is_node m Pointer then option_or (nearest_of rest) (Some None) else option_or (if is_aside m then None else nearest_of under) (nearest_of rest))) ≡ z
    → option_or (nearest_of rest) (Some None) ≡ z
near_pointer m under rest z p e =
    if_true (is_node m Pointer) (option_or (nearest_of rest) (Some None)) (option_or (if is_aside m then None else nearest_of under) (nearest_of rest)) z (ap (λ (q : Production). ghosts.eq q Pointer) p)
    (if_false (is_node m Suffix) (Some (if is_list m then Some under else None)) _ z (ap (λ (q : Production). ghosts.eq q Suffix) p) e)

near_part : (m : Label) (under rest : Forest) (z : Option (Option Forest)) (q : Production) → m.production ≡ q → ghosts.eq q Suffix ≡ false → ghosts.eq q Pointer ≡ false
    → (ghosts.eq q Attr || ghosts.eq q AsmName) ≡ false
    → (if is_node m Suffix then Some (if is_list m then Some under else None)
    else (if is_node m Pointer then option_or (nearest_of rest) (Some None) else option_or (if is_aside m then None else nearest_of under) (nearest_of rest))) ≡ z
    → option_or (nearest_of under) (nearest_of rest) ≡ z
near_part m under rest z q p no_suffix no_pointer no_aside e =
    let inner : Bool → Option (Option Forest) = λ c. option_or (if c then None else nearest_of under) (nearest_of rest) in
    ap inner (sym no_aside ∙ ap (λ (r : Production). ghosts.eq r Attr || ghosts.eq r AsmName) (sym p))
    ∙ if_false (is_node m Pointer) (option_or (nearest_of rest) (Some None)) (inner (is_aside m)) z (ap (λ (r : Production). ghosts.eq r Pointer) p ∙ no_pointer)
    (if_false (is_node m Suffix) (Some (if is_list m then Some under else None)) _ z (ap (λ (r : Production). ghosts.eq r Suffix) p ∙ no_suffix) e)

-- the name stands below the node
token_bound : (b : Bool) (i k n name : ℕ) (o : Option ℕ) → i ≡ k → (o ≡ Some name → name < k + 1 + n) → (if b then Some i else o) ≡ Some name → name < k + (n + 1)
token_bound true i k n name o at later e = let same = same_Some i name e in omega (arith, same, at)
token_bound false i k n name o at later e = let far = later e in omega (arith, far)

node_bound : (b : Bool) (x y : Option ℕ) (k n m name : ℕ) → (x ≡ Some name → name < k + n) → (y ≡ Some name → name < k + n + m) → (if b then x else y) ≡ Some name → name < k + (n + m)
node_bound true x y k n m name f g e = let far = f e in omega (arith, far)
node_bound false x y k n m name f g e = let far = g e in omega (arith, far)

name_bound : (l : Label) (f : Forest) (k name : ℕ) → AreFrom k f → name_below l f ≡ Some name → name < k + token_count f
name_bound l none k name w e = absurd (cc)
name_bound l (token i rest) k name w e = token_bound (has_name l) i k (token_count rest) name (name_below l rest) w.0 (name_bound l rest (k + 1) name w.1) e
name_bound l (node m first under rest) k name w e =
    node_bound (holds_name m.production) (name_below m under) (name_below l rest) k (token_count under) (token_count rest) name
    (name_bound m under k name w.1) (name_bound l rest (k + token_count under) name w.2) e

module _ (s : Edition) where
  declarator_of : (n : ℕ) (f : Forest) (ps qs : List Child) → AreTimes (AreOfItem (part Pointer)) n ps → AreOfItem (part Direct) qs → children f ≡ ps ++ qs → IsDeclarator f
  declarator_of zero f ps qs none_ (q, is, stands) e =
      let all : children f ≡ a_node q ∷ [] = e ∙ ap (λ (w : List Child). w ++ qs) none_ ∙ is in
      by f all
    where
      by : (f : Forest) → children f ≡ a_node q ∷ [] → IsDeclarator f
      by none h = absurd (cc)
      by (token i rest) h = absurd (cc)
      by (node l first under none) h = let same : l.production ≡ q = cc in inr (same ∙ stands_alone Direct q refl stands, refl)
      by (node l first under (token i rest)) h = absurd (cc)
      by (node l first under (node m second u rest)) h = absurd (cc)
  declarator_of (suc n) f ps qs (xs, ys, all, (q, is, stands), more) d e =
      let front : children f ≡ a_node q ∷ (ys ++ qs) = e ∙ ap (λ (w : List Child). w ++ qs) (all ∙ ap (λ (w : List Child). w ++ ys) is) in
      by f front (λ g h. declarator_of n g ys qs more d h)
    where
      by : (f : Forest) → children f ≡ a_node q ∷ (ys ++ qs) → ((g : Forest) → children g ≡ ys ++ qs → IsDeclarator g) → IsDeclarator f
      by none h next = absurd (cc)
      by (token i rest) h next = absurd (cc)
      by (node l first under rest) h next =
          let same : l.production ≡ q = cc in
          let later : children rest ≡ ys ++ qs = cc in
          inl (same ∙ stands_alone Pointer q refl stands, next rest later)

  pub declarator_alternative : (l : Label) (under : Forest) → IsOfAlternative (iso s) l under → l.production ≡ Declarator → IsDeclarator under
  declarator_alternative l under x is =
      by (only x.number (sym (ap (λ (p : Production). slice_get ((iso s).table p) x.number) is) ∙ x.is_one))
    where
      only : (n : ℕ) → slice_get (plain (many own (part Pointer) · part Direct) ∷ []) n ≡ Some x.alternative → plain (many own (part Pointer) · part Direct) ≡ x.alternative
      only zero e = same_Some (plain (many own (part Pointer) · part Direct)) x.alternative e
      only (suc n) e = absurd (cc)

      by : plain (many own (part Pointer) · part Direct) ≡ x.alternative → IsDeclarator under
      by same = shape (subst (λ (a : Alternative). AreOfItem a.body (children under)) (sym same) x.own)
        where
          shape : AreOfItem (many own (part Pointer) · part Direct) (children under) → IsDeclarator under
          shape (ps, qs, all, (n, times), d) = declarator_of n under ps qs times d all

  -- what a direct declarator is: a name, or a declarator in parentheses, and suffixes
  abbrev DirectIs : Label → Forest → Type 0
  DirectIs l (token i (node m first under (token j rest))) = (l.alternative ≡ 1) ⊎ ((l.alternative ≡ 2) × (m.production ≡ Declarator))
  DirectIs l (token i rest) = l.alternative ≡ 1
  DirectIs l _ = ⊥

  name_first : (l : Label) (i : ℕ) (rest : Forest) → l.alternative ≡ 1 → DirectIs l (token i rest)
  name_first l i none e = e
  name_first l i (token j rest) e = e
  name_first l i (node m first under none) e = e
  name_first l i (node m first under (token j rest)) e = inl e
  name_first l i (node m first under (node n second u rest)) e = e

  direct_alternative : (l : Label) (under : Forest) → IsOfAlternative (iso s) l under → l.production ≡ Direct → DirectIs l under
  direct_alternative l under x is = which x.number (sym (ap (λ (p : Production). slice_get ((iso s).table p) x.number) is) ∙ x.is_one) x.numbered
    where
      first_body : Alternative
      first_body = plain (any_name · many own (part Suffix))

      second_body : Alternative
      second_body = plain (tok LeftParen · (deep (part Declarator) · (tok RightParen · many own (part Suffix))))

      named : (a : Alternative) → first_body ≡ a → AreOfItem a.body (children under) → l.alternative ≡ 1 → DirectIs l under
      named a same own_ one_ = shape (subst (λ (b : Alternative). AreOfItem b.body (children under)) (sym same) own_)
        where
          shape : AreOfItem (any_name · many own (part Suffix)) (children under) → DirectIs l under
          shape (xs, ys, all, first, more) =
              let t = token_child under ys (all ∙ ap (λ (w : List Child). w ++ ys) first) in
              subst (DirectIs l) (sym t.2) (name_first l t.0 t.1 one_)

      inside : (a : Alternative) → second_body ≡ a → AreOfItem a.body (children under) → l.alternative ≡ 2 → DirectIs l under
      inside a same own_ two_ = shape (subst (λ (b : Alternative). AreOfItem b.body (children under)) (sym same) own_)
        where
          shape : AreOfItem (tok LeftParen · (deep (part Declarator) · (tok RightParen · many own (part Suffix)))) (children under) → DirectIs l under
          shape (xs, ys, all, first, (zs, vs, more, (q, middle, stands), (cs, bs, rest, close, suffixes))) =
              let t = token_child under ys (all ∙ ap (λ (w : List Child). w ++ ys) first) in
              let n = node_child t.1 q vs (t.3 ∙ more ∙ ap (λ (w : List Child). w ++ vs) middle) in
              let c = token_child n.3 bs (n.6 ∙ rest ∙ ap (λ (w : List Child). w ++ bs) close) in
              subst (DirectIs l) (sym (t.2 ∙ ap (λ (f : Forest). token t.0 f) (n.4 ∙ ap (λ (f : Forest). node n.0 n.1 n.2 f) c.2)))
              (inr (two_, n.5 ∙ stands_alone Declarator q refl stands))

      which : (n : ℕ) → slice_get (first_body ∷ second_body ∷ []) n ≡ Some x.alternative → l.alternative ≡ n + 1 → DirectIs l under
      which zero e numbered = named x.alternative (same_Some first_body x.alternative e) x.own numbered
      which (suc zero) e numbered = inside x.alternative (same_Some second_body x.alternative e) x.own numbered
      which (suc (suc n)) e numbered = absurd (cc)

  -- the list that stands nearest to a name, somewhere behind a token
  behind : (f : Forest) (k : ℕ) (list : Forest) → AreFrom k f → EachNode Begins f → nearest_of f ≡ Some (Some list) → k ≤ first_token list 0
  behind f k list w each e =
      let x = nearest_entry f list e in
      (within f k w each (entry x.label list) x.there).0

  pointer_near : (o : Option (Option Forest)) (list : Forest) → option_or o (Some None) ≡ Some (Some list) → o ≡ Some (Some list)
  pointer_near None list e = absurd (cc)
  pointer_near (Some z) list e = e

  -- a name that stands first
  named_before : (i : ℕ) (rest : Forest) (l : Label) (k name : ℕ) (list : Forest) → l.production ≡ Direct → l.alternative ≡ 1 → AreFrom k (token i rest) → EachNode Begins (token i rest)
      → name_below l (token i rest) ≡ Some name → nearest_of (token i rest) ≡ Some (Some list) → name < first_token list 0
  named_before i rest l k name list p one_ w each n e =
      let found : Some i ≡ Some name = if_true (has_name l) (Some i) (name_below l rest) (Some name) (some_name l p one_) n in
      let same : i ≡ name = same_Some i name found in
      let at : i ≡ k = w.0 in
      let far = behind rest (k + 1) list w.1 each e in
      omega (arith, same, at, far)

  -- a list inside the parentheses, or behind them
  inner_before : (j : ℕ) (rest : Forest) (m : Label) (under : Forest) (k name : ℕ) (list : Forest) → AreFrom k under → AreFrom (k + token_count under) (token j rest) → EachNode Begins under → EachNode Begins (token j rest)
      → name_below m under ≡ Some name → option_or (nearest_of under) (nearest_of (token j rest)) ≡ Some (Some list) → (nearest_of under ≡ Some (Some list) → name < first_token list 0) → name < first_token list 0
  inner_before j rest m under k name list w w2 each each2 below near inside = by (nearest_of under) refl near
    where
      by : (o : Option (Option Forest)) → nearest_of under ≡ o → option_or o (nearest_of (token j rest)) ≡ Some (Some list) → name < first_token list 0
      by None is h =
          let far = behind (token j rest) (k + token_count under) list w2 each2 h in
          let here = name_bound m under k name w below in
          omega (arith, far, here)
      by (Some z) is h = inside (is ∙ h)

  mutual
    pub declarator_before : (f : Forest) (l : Label) (k name : ℕ) (list : Forest) → IsDeclarator f → EachNode (IsOfAlternative (iso s)) f → AreFrom k f → EachNode Begins f
        → name_below l f ≡ Some name → nearest_of f ≡ Some (Some list) → name < first_token list 0
    declarator_before none l k name list d x w each n e = absurd d
    declarator_before (token i rest) l k name list d x w each n e = absurd d
    declarator_before (node m first under rest) l k name list (inl (p, d)) x w each n e =
        let skip : name_below l rest ≡ Some name = if_false (holds_name m.production) (name_below m under) (name_below l rest) (Some name) (ap holds_name p) n in
        let near : option_or (nearest_of rest) (Some None) ≡ Some (Some list) = near_pointer m under rest (Some (Some list)) p e in
        declarator_before rest l (k + token_count under) name list d x.2 w.2 each.2 skip (pointer_near (nearest_of rest) list near)
    declarator_before (node m first under rest) l k name list (inr (p, last)) x w each n e =
        let below : name_below m under ≡ Some name = if_true (holds_name m.production) (name_below m under) (name_below l rest) (Some name) (ap holds_name p) n in
        let near : option_or (nearest_of under) (nearest_of rest) ≡ Some (Some list) = near_part m under rest (Some (Some list)) Direct p refl refl refl e in
        let none_ : nearest_of rest ≡ None = ap nearest_of last in
        direct_before under m k name list p (direct_alternative m under x.0 p) x.1 w.1 each.1 below (by (nearest_of under) (ap (λ (o : Option (Option Forest)). option_or (nearest_of under) o) (sym none_) ∙ near))
      where
        by : (o : Option (Option Forest)) → option_or o None ≡ Some (Some list) → o ≡ Some (Some list)
        by None h = absurd (cc)
        by (Some z) h = h

    direct_before : (f : Forest) (l : Label) (k name : ℕ) (list : Forest) → l.production ≡ Direct → DirectIs l f → EachNode (IsOfAlternative (iso s)) f → AreFrom k f → EachNode Begins f
        → name_below l f ≡ Some name → nearest_of f ≡ Some (Some list) → name < first_token list 0
    direct_before none l k name list p d x w each n e = absurd d
    direct_before (node m first under rest) l k name list p d x w each n e = absurd d
    direct_before (token i none) l k name list p d x w each n e = named_before i none l k name list p d w each n e
    direct_before (token i (token j rest)) l k name list p d x w each n e = named_before i (token j rest) l k name list p d w each n e
    direct_before (token i (node m first under none)) l k name list p d x w each n e = named_before i (node m first under none) l k name list p d w each n e
    direct_before (token i (node m first under (node m2 second u rest))) l k name list p d x w each n e = named_before i (node m first under (node m2 second u rest)) l k name list p d w each n e
    direct_before (token i (node m first under (token j rest))) l k name list p (inl one_) x w each n e = named_before i (node m first under (token j rest)) l k name list p one_ w each n e
    direct_before (token i (node m first under (token j rest))) l k name list p (inr (two_, q)) x w each n e =
        let inner_name = if_false (has_name l) (Some i) (name_below l (node m first under (token j rest))) (Some name) (no_name l p two_) n in
        let below : name_below m under ≡ Some name = if_true (holds_name m.production) (name_below m under) (name_below l (token j rest)) (Some name) (ap holds_name q) inner_name in
        let near : option_or (nearest_of under) (nearest_of (token j rest)) ≡ Some (Some list) = near_part m under (token j rest) (Some (Some list)) Declarator q refl refl refl e in
        inner_before j rest m under (k + 1) name list w.1.1 w.1.2 each.1 each.2 below near
        (λ h. declarator_before under m (k + 1) name list (declarator_alternative m under x.0 q) x.1 w.1.1 each.1 below h)
