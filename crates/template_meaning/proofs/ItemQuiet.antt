-- Of an item nothing lasts but its own name, where no name in the list declares more than a parameter or a member of its own.
use Rattle.std.proofs.Common.{ℕ, zero, suc, ◌+◌, ◌<◌, ◌≤◌, ◌≡◌, Bool, true, false, ◌&&◌, ◌||◌, not, if◌then◌else◌, List, [], ◌∷◌, ◌++◌, Option, None, Some, ◌⊎◌, inl, inr, refl, sym, ap, subst, ◌∙◌, arith}
use Rattle.std.specs.Prelude.{IfSome, slice_get, ◌==◌}
use Rattle.std.specs.Option.{option_map_or}
use Rattle.std.proofs.lemmas.Bool.{false≢true, and_parts, and_from, eq-eqb}
use Rattle.std.proofs.lemmas.Option.{same_Some}
use Rattle.c99_grammar.specs.declared.dialects.Edition.{Edition}
use Rattle.cs_base.specs.Token.{Token}
use Rattle.cs_base.proofs.BoolLemmas.{not_false, not_true}
use Rattle.c99_tree.specs.Tree.{Forest, none, token, node, Node, node_of}
use Rattle.c99_tree.specs.declared.production.Label.{Label}
use Rattle.c99_tree.specs.declared.production.Production.{Production}
use Rattle.c99_tree.specs.declared.production.Production.TheVariants.{FunBody, Specs, Enumerator, Suffix, Params, Param, Pdecl, Assign, Cond, Lor, Land, Bor, Bxor, Band, Equal, Relate, Shift, Add, Mul, Cast, Unary, Primary, Block, Statement, Sub}
use Rattle.c99_tree.specs.contracts.production.ProductionPartialEq.TheImpl.{ghosts}
use Rattle.c99_grammar.specs.Items.{Alternative, part, act, ◌·◌, maybe, declare, plain}
use Rattle.c99_grammar.specs.Standard.{iso}
use Rattle.c_types.specs.Trees.{is_node, is_list, has_mod, name_below}
use Rattle.scope_bind.specs.declared.bound.Name.{Name}
use Rattle.tree_laws.specs.Shapes.{has_no_declaring}
use Rattle.tree_laws.specs.TreesOfTexts.{token_count, AreFrom}
use Rattle.tree_laws.specs.Told.{IsSlip, NodeTold}
use Rattle.reordered_tree_laws.proofs.OnlyAdding.{name_in}
use Rattle.reordered_tree_laws.specs.Adding.{is_adding}
use Rattle.reordered_tree_laws.specs.Premises.{parameter_name, declared_name, is_item_production, is_scope, is_quiet_child, is_quiet, has_typedef_word, is_item}
use Rattle.template_meaning.specs.Children.{Child, a_node, children, AreOfItem, IsOfAlternative}
use Rattle.template_meaning.proofs.Fit.{no_members, no_lists}
use Rattle.template_meaning.proofs.FitTable.{has_members, not_these, all_nodes}
use Rattle.template_meaning.proofs.Forms.{node_child, no_child, stands_alone, is_param}
use Rattle.template_meaning.proofs.ItemForms.{IsClean, IsPart, inside_of, listing_of, part_behind, part_under, part_rest, no_enumerator, untagged_rest, no_braces, clean_slip, adds}
use Rattle.template_meaning.proofs.ItemTable.{is_params, no_params, no_lists_here}

no_scope : (q : Production) → has_no_declaring q ≡ true → is_scope q ≡ false
no_scope Block e = absurd (false≢true e)
no_scope FunBody e = absurd (false≢true e)
no_scope Statement e = absurd (false≢true e)
no_scope Sub e = absurd (false≢true e)
no_scope _ e = refl

node_params : (q : Production) → ghosts.eq q Params ≡ is_params q
node_params Params = refl
node_params _ = refl

node_param : (q : Production) → ghosts.eq q Param ≡ is_param q
node_param Param = refl
node_param _ = refl

module _ (toks : List Token) (names : List Name) (s : Edition) (lo hi : ℕ) (clean : (t : ℕ) → lo ≤ t → t < hi → IsClean toks names t) where
  abbrev Part : Bool → Bool → Label → ℕ → Forest → Type 0
  Part body listing l a f = IsPart toks names s lo hi clean body listing l a f

  module _ (lasting : ℕ → Bool) where
    -- the names of these children last, where they are the declarators of a parameter
    abbrev Last : Forest → Type 0
    Last none = Unit {0}
    Last (token i rest) = Last rest
    Last (node m first under rest) = (is_node m Pdecl ≡ true → option_map_or lasting (name_below m under) true ≡ true) × Last rest

    quiet : (f : Forest) (body listing : Bool) (l : Label) (a : ℕ) → Part body listing l a f → is_params l.production ≡ false → (is_param l.production ≡ true → Last f)
        → all_nodes (not_these is_param) (children f) ≡ true → all_nodes (not_these is_params) (children f) ≡ true → is_quiet lasting l f ≡ true
    quiet none body listing l a p list last params lists = refl
    quiet (token i rest) body listing l a p list last params lists =
        and_from (not (is_node l Params)) _ (not_false (is_node l Params) (node_params l.production ∙ list))
        (quiet rest body listing l (a + 1) (part_behind toks names s lo hi clean body listing l a i rest p) list last params lists)
    quiet (node m first under rest) body listing l a p list last params lists =
        let i = p.inner in
        let x = p.each in
        let ps = and_parts (not (is_param m.production)) (all_nodes (not_these is_param) (children rest)) params in
        let ls = and_parts (not (is_params m.production)) (all_nodes (not_these is_params) (children rest)) lists in
        let below : is_list m ≡ false → is_quiet lasting m under ≡ true = λ no_list.
        quiet under (inside_of toks names s lo hi clean body m) (listing_of toks names s lo hi clean listing l m) m a (part_under toks names s lo hi clean body listing l m a first under rest p)
        (not_true (is_params m.production) ls.0) (λ e. absurd (false≢true (sym (not_true (is_param m.production) ps.0) ∙ e)))
        (no_params s m under x.0 (not_true (is_params m.production) ls.0)) (no_lists_here s m under x.0 no_list) in
        and_from (is_quiet_child lasting l m under) _
        (and_from (not (is_node m Enumerator)) _ (not_false (is_node m Enumerator) (no_enumerator toks names s lo hi clean body listing l m a first under rest p))
        (and_from (not (is_scope m.production)) _ (not_false (is_scope m.production) (no_scope m.production i.0))
        (lasts (is_node l Param) (is_node m Pdecl) (option_map_or lasting (name_below m under) true) (λ e. (last (sym (node_param l.production) ∙ e)).0))))
        (and_from (is_list m || is_quiet lasting m under) _ (either (is_list m) refl below)
        (quiet rest body listing l (a + token_count under) (part_rest toks names s lo hi clean body listing l m a first under rest p) list (λ e. (last e).1) ps.1 ls.1))
      where
        lasts : (c d e : Bool) → (c ≡ true → d ≡ true → e ≡ true) → (not (c && d) || e) ≡ true
        lasts true true e g = g refl refl
        lasts true false e g = refl
        lasts false d e g = refl

        either : (c : Bool) → is_list m ≡ c → (is_list m ≡ false → is_quiet lasting m under ≡ true) → (c || is_quiet lasting m under) ≡ true
        either true e g = refl
        either false e g = g e

  -- ---- The children of a parameter declaration

  pub record IsParamShape (under : Forest) : Type 0 where
    pub specs : Label
    pub first : ℕ
    pub words : Forest
    pub specs_is : specs.production ≡ Specs
    pub rest : (under ≡ node specs first words none)
        ⊎ ((p : Label) × (third : ℕ) × (pd : Forest) × (under ≡ node specs first words (node p third pd none)) × (p.production ≡ Pdecl))

  param_row : (n : ℕ) (a : Alternative) → slice_get ((iso s).table Param) n ≡ Some a → a ≡ plain (part Specs · (maybe (part Pdecl) · act declare))
  param_row zero a e = by e
    where
      by : slice_get ((iso s).table Param) 0 ≡ Some a → a ≡ plain (part Specs · (maybe (part Pdecl) · act declare))
      by e = sym (same_Some (plain (part Specs · (maybe (part Pdecl) · act declare))) a e)
  param_row (suc n) a e = absurd (cc)

  pub param_shape : (l : Label) (under : Forest) → IsOfAlternative (iso s) l under → l.production ≡ Param → IsParamShape under
  param_shape l under x named =
      by (subst (λ (b : Alternative). AreOfItem b.body (children under))
      (param_row x.number x.alternative (ap (λ (q : Production). slice_get ((iso s).table q) x.number) (sym named) ∙ x.is_one)) x.own)
    where
      with_declarator : (q : Production) (v : List Child) → children under ≡ a_node q ∷ v → q ≡ Specs → (r : Production) → v ≡ a_node r ∷ [] → r ≡ Pdecl → IsParamShape under
      with_declarator q v e is r e' is' =
          let c = node_child under q v e in
          let d = node_child c.3 r [] (c.6 ∙ e') in
          record {
            specs = c.0;
            first = c.1;
            words = c.2;
            specs_is = c.5 ∙ is;
            rest = inr (d.0, d.1, d.2, c.4 ∙ ap (λ (f : Forest). node c.0 c.1 c.2 f) (d.4 ∙ ap (λ (f : Forest). node d.0 d.1 d.2 f) (no_child d.3 d.6)), d.5 ∙ is');
          }

      alone : (q : Production) (v : List Child) → children under ≡ a_node q ∷ v → q ≡ Specs → v ≡ [] → IsParamShape under
      alone q v e is e' =
          let c = node_child under q v e in
          record {
            specs = c.0;
            first = c.1;
            words = c.2;
            specs_is = c.5 ∙ is;
            rest = inl (c.4 ∙ ap (λ (f : Forest). node c.0 c.1 c.2 f) (no_child c.3 (c.6 ∙ e')));
          }

      by : AreOfItem (part Specs · (maybe (part Pdecl) · act declare)) (children under) → IsParamShape under
      by (xs, ys, all, (q, first, stands), (zs, vs, more, inl (r, second, stands'), last)) =
          with_declarator q ys (all ∙ ap (λ (w : List Child). w ++ ys) first) (stands_alone Specs q refl stands) r
          (more ∙ (ap (λ (w : List Child). w ++ vs) second ∙ ap (λ (w : List Child). a_node r ∷ w) last)) (stands_alone Pdecl r refl stands')
      by (xs, ys, all, (q, first, stands), (zs, vs, more, inr empty, last)) =
          alone q ys (all ∙ ap (λ (w : List Child). w ++ ys) first) (stands_alone Specs q refl stands) (more ∙ (ap (λ (w : List Child). w ++ vs) empty ∙ last))

  -- ---- An item

  item_free : (q : Production) → is_item_production q ≡ true → (has_members q ≡ false) × ((is_params q ≡ false) × (has_no_declaring q ≡ true))
  item_free Assign e = (refl, (refl, refl))
  item_free Cond e = (refl, (refl, refl))
  item_free Lor e = (refl, (refl, refl))
  item_free Land e = (refl, (refl, refl))
  item_free Bor e = (refl, (refl, refl))
  item_free Bxor e = (refl, (refl, refl))
  item_free Band e = (refl, (refl, refl))
  item_free Equal e = (refl, (refl, refl))
  item_free Relate e = (refl, (refl, refl))
  item_free Shift e = (refl, (refl, refl))
  item_free Add e = (refl, (refl, refl))
  item_free Mul e = (refl, (refl, refl))
  item_free Cast e = (refl, (refl, refl))
  item_free Unary e = (refl, (refl, refl))
  item_free Primary e = (refl, (refl, refl))
  item_free Param e = (refl, (refl, refl))
  item_free _ e = absurd (false≢true e)

  item_list : (q : Production) (n : ℕ) → is_item_production q ≡ true → (ghosts.eq q Suffix && (n == 2)) ≡ false
  item_list Suffix n e = absurd (false≢true e)
  item_list _ n e = refl

  pub param_named : (q : Production) → is_param q ≡ true → q ≡ Param
  param_named Param e = refl
  param_named _ e = absurd (false≢true e)

  pub no_pdecl : (q : Production) → q ≡ Specs → ghosts.eq q Pdecl ≡ false
  no_pdecl q e = ap (λ r. ghosts.eq r Pdecl) e

  -- what lasts of an item
  abbrev lasting_of : Node → ℕ → Bool
  lasting_of n i = option_map_or (λ j. j == i) (declared_name n) false

  own_name : (o : Option ℕ) → option_map_or (λ i. option_map_or (λ j. j == i) o false) o true ≡ true
  own_name None = refl
  own_name (Some i) = eq-eqb i i refl

  if_is : {X : Type 0} (c : Bool) (x y : X) → c ≡ true → (if c then x else y) ≡ x
  if_is true x y e = refl
  if_is false x y e = absurd (false≢true e)

  if_not : {X : Type 0} (c : Bool) (x y : X) → c ≡ false → (if c then x else y) ≡ y
  if_not true x y e = absurd (false≢true (sym e))
  if_not false x y e = refl

  module _ (body listing : Bool) (l m : Label) (a first : ℕ) (under rest : Forest) (p : Part body listing l a (node m first under rest)) where
    abbrev n : Node
    n = node_of m first under

    abbrev inside : Bool
    inside = inside_of toks names s lo hi clean body m

    abbrev lists_ : Bool
    lists_ = listing_of toks names s lo hi clean listing l m

    below : Part inside lists_ m a under
    below = part_under toks names s lo hi clean body listing l m a first under rest p

    of_m : IsOfAlternative (iso s) m under
    of_m = let x = p.each in x.0

    item_adds : is_item_production m.production ≡ true → is_adding (λ i. true) false m under ≡ true
    item_adds e =
        let free = item_free m.production e in
        adds toks names s lo hi clean under inside lists_ false m a below (record {
          own = free.1.1;
          among = λ h. absurd (false≢true (sym free.0 ∙ h));
          members = no_members s m under of_m;
          lists = no_lists s m under of_m;
          untagged = untagged_rest toks names s lo hi clean m under of_m;
          tagged = no_braces toks names s lo hi clean body listing l m a first under rest p;
        })

    item_quiet : (lasting : ℕ → Bool) → is_item_production m.production ≡ true → (is_param m.production ≡ true → Last lasting under) → is_quiet lasting m under ≡ true
    item_quiet lasting e last =
        let free = item_free m.production e in
        quiet lasting under inside lists_ m a below free.1.0 last (no_params s m under of_m free.1.0) (no_lists_here s m under of_m (item_list m.production m.alternative e))

    abbrev typed : Forest → Bool
    typed f = option_map_or (λ i. not (has_typedef_word f)) (if is_node m Param then parameter_name f else None) true

    -- the two facts of a parameter
    param_facts : is_node m Param ≡ true → (typed under ≡ true) × Last (lasting_of n) under
    param_facts is =
        let named : m.production ≡ Param = param_named m.production (sym (node_param m.production) ∙ is) in
        let shape = param_shape m under of_m named in
        by shape shape.rest
      where
        name_is : (f : Forest) → (if is_node m Param then parameter_name f else None) ≡ parameter_name f
        name_is f = if_is (is_node m Param) (parameter_name f) None is

        told_here : NodeTold names toks Param (inside && not lists_) l m first under
        told_here =
            let w = p.told in
            subst (λ q. NodeTold names toks q (inside && not lists_) l m first under) (param_named m.production (sym (node_param m.production) ∙ is)) w.0

        no_name : (sp : Label) (second : ℕ) (words : Forest) → sp.production ≡ Specs → parameter_name (node sp second words none) ≡ None
        no_name sp second words e = if_not (is_node sp Pdecl) (name_below sp words) None (no_pdecl sp.production e)

        its_name : (sp : Label) (second : ℕ) (words : Forest) (pl : Label) (third : ℕ) (pd : Forest) → sp.production ≡ Specs → pl.production ≡ Pdecl
            → parameter_name (node sp second words (node pl third pd none)) ≡ name_below pl pd
        its_name sp second words pl third pd e h =
            if_not (is_node sp Pdecl) (name_below sp words) _ (no_pdecl sp.production e) ∙ if_is (is_node pl Pdecl) (name_below pl pd) None (ap (λ r. ghosts.eq r Pdecl) h)

        Facts : Forest → Type 0
        Facts f = (typed f ≡ true) × Last (λ i. option_map_or (λ j. j == i) (if is_node m Param then parameter_name f else None) false) f

        alone : (sp : Label) (second : ℕ) (words : Forest) → sp.production ≡ Specs → Facts (node sp second words none)
        alone sp second words e =
            let name : (if is_node m Param then parameter_name (node sp second words none) else None) ≡ None = name_is (node sp second words none) ∙ no_name sp second words e in (
              ap (λ (o : Option ℕ). option_map_or (λ i. not (has_typedef_word (node sp second words none))) o true) name,
              (λ h. absurd (false≢true (sym (no_pdecl sp.production e) ∙ h)), tt),
            )

        slip_free : (sp : Label) (second : ℕ) (words : Forest) (pl : Label) (third : ℕ) (pd : Forest) → sp.production ≡ Specs → pl.production ≡ Pdecl
            → under ≡ node sp second words (node pl third pd none) → (o : Option ℕ) → name_below pl pd ≡ o
            → option_map_or (λ i. not (has_typedef_word (node sp second words (node pl third pd none)))) o true ≡ true
        slip_free sp second words pl third pd e h is_ None at = refl
        slip_free sp second words pl third pd e h is_ (Some j) at =
            let f : Forest = node sp second words (node pl third pd none) in
            let no_word : has_mod 1 words ≡ false = not_so (has_mod 1 words) (λ has.
            let d = subst (λ g. NodeTold names toks Param (inside && not lists_) l m first g) is_ told_here in
            let slip = d.0 (and_from (is_node sp Specs) (is_node pl Pdecl) (ap (λ r. ghosts.eq r Specs) e) (ap (λ r. ghosts.eq r Pdecl) h)) has in
            let w = subst (λ g. AreFrom a g) is_ below.tokens in
            let b = a + token_count words in
            let high : a + token_count f ≤ hi = subst (λ g. a + token_count g ≤ hi) is_ below.high in
            let r = name_in pl pd b j lo hi w.2.1 (omega (arith, below.low)) (omega (arith, high)) at in
            clean_slip toks names j (clean j r.0 r.1) (subst (λ (o : Option ℕ). IfSome o (IsSlip names)) at slip)) in
            not_false _ (or_none (is_node sp Specs && has_mod 1 words) ((is_node pl Specs && has_mod 1 pd) || false)
            (ap (λ c. is_node sp Specs && c) no_word ∙ and_none (is_node sp Specs)) (ap (λ r. (ghosts.eq r Specs && has_mod 1 pd) || false) h))
          where
            not_so : (c : Bool) → (c ≡ true → ⊥) → c ≡ false
            not_so true g = absurd (g refl)
            not_so false g = refl

            or_none : (c d : Bool) → c ≡ false → d ≡ false → (c || d) ≡ false
            or_none true d e f = e
            or_none false d e f = f

            and_none : (c : Bool) → (c && false) ≡ false
            and_none true = refl
            and_none false = refl

        with_name : (sp : Label) (second : ℕ) (words : Forest) (pl : Label) (third : ℕ) (pd : Forest) → sp.production ≡ Specs → pl.production ≡ Pdecl
            → under ≡ node sp second words (node pl third pd none) → Facts (node sp second words (node pl third pd none))
        with_name sp second words pl third pd e h is_ =
            let f : Forest = node sp second words (node pl third pd none) in
            let name : (if is_node m Param then parameter_name f else None) ≡ name_below pl pd = name_is f ∙ its_name sp second words pl third pd e h in (
              ap (λ (o : Option ℕ). option_map_or (λ i. not (has_typedef_word f)) o true) name ∙ slip_free sp second words pl third pd e h is_ (name_below pl pd) refl,
              (
                λ g. absurd (false≢true (sym (no_pdecl sp.production e) ∙ g)),
                (
                  λ g. ap (λ (o : Option ℕ). option_map_or (λ i. option_map_or (λ j. j == i) o false) (name_below pl pd) true) name ∙ own_name (name_below pl pd),
                  tt,
                ),
              ),
            )

        by : (shape : IsParamShape under) → (under ≡ node shape.specs shape.first shape.words none)
            ⊎ ((q : Label) × (third : ℕ) × (pd : Forest) × (under ≡ node shape.specs shape.first shape.words (node q third pd none)) × (q.production ≡ Pdecl)) → Facts under
        by shape (inl e) = subst Facts (sym e) (alone shape.specs shape.first shape.words shape.specs_is)
        by shape (inr r) = subst Facts (sym r.3) (with_name shape.specs shape.first shape.words r.0 r.1 r.2 shape.specs_is r.4 r.3)

    typed_or : (c : Bool) → is_node m Param ≡ c → typed under ≡ true
    typed_or true e = (param_facts e).0
    typed_or false e = ap (λ c. option_map_or (λ i. not (has_typedef_word under)) (if c then parameter_name under else None) true) e

    -- a node that may be an item is one
    pub item_is : is_item_production m.production ≡ true → is_item n ≡ true
    item_is e =
        and_from (is_item_production m.production && typed under) _ (and_from (is_item_production m.production) (typed under) e (typed_or (is_node m Param) refl))
        (and_from (is_adding (λ i. true) false m under) _ (item_adds e)
        (item_quiet (lasting_of n) e (λ h. (param_facts (node_param m.production ∙ h)).1)))
