-- A unit is read with all its lists in the new order.
use Rattle.std.proofs.Common.{ℕ, suc, zero, ◌≡◌, ◌⊎◌, Bool, true, false, List, [], ◌∷◌, ◌++◌, length, Option, None, Some, refl, sym, ap, subst, ◌∙◌, inl, inr}
use Rattle.std.proofs.lemmas.Bool.{false≢true}
use Rattle.std.proofs.lemmas.List.{append-nil}
use Rattle.c99_grammar.specs.declared.dialects.Dialect.TheVariants.{Iso}
use Rattle.c99_grammar.specs.declared.dialects.Edition.{Edition}
use Rattle.c99_tree.specs.Tree.{Forest, none, node}
use Rattle.c99_tree.specs.declared.production.Label.{Label}
use Rattle.c99_tree.specs.declared.production.Production.{Production}
use Rattle.c99_tree.specs.declared.production.Production.TheVariants.{TranslationUnit, External}
use Rattle.c99_grammar.specs.declared.classes.Class.{Class}
use Rattle.c99_grammar.specs.Items.{Item, part, end_of_text, ◌·◌, many, own, Test}
use Rattle.c99_grammar.specs.Standard.{Grammar, iso}
use Rattle.c99_grammar.specs.Starting.{holds, starts}
use Rattle.c99_read.specs.Reading.{Goal, produce}
use Rattle.c99_read.specs.Sound.{never_empty}
use Rattle.list_cuts.specs.Cuts.{done, IsOrder, AreOf}
use Rattle.list_cuts.proofs.CutLemmas.{length-order}
use Rattle.reordered_tree_laws.specs.Reordered.{permuted}
use Rattle.reordered_tree_laws.specs.Cuts.{cut_then}
use Rattle.reordered_text_laws.specs.ByClasses.{joined, tokens_of, Taken, taken, child_of, as_child, may_read, read_end, read_item, read_by_classes}
use Rattle.reordered_text_laws.specs.InOrder.{ListsAreReadInAnyOrder}
use Rattle.reordered_text_laws.proofs.Found.{stopped, found_is, between, then_is, branch, if_yes, inner_is}
use Rattle.reordered_text_laws.proofs.Whole.{tokens_of-child}
use Rattle.reordered_text_laws.proofs.Local.{item_text}
use Rattle.reordered_text_laws.proofs.Stops.{closes}
use Rattle.reordered_text_laws.proofs.Tables.{ending, tells}
use Rattle.reordered_text_laws.proofs.Permuted.{labelled, not_among, permuted-child, AreFull, full-child, cut_full}
use Rattle.reordered_text_laws.proofs.Near.{shut, Near, Beside}
use Rattle.reordered_text_laws.proofs.Anew.{Sometime, new, anew_item}
use Rattle.reordered_text_laws.proofs.AnewTables.{goods}
use Rattle.reordered_text_laws.proofs.Alone.{joined-none}

module _ (s : Edition) (class_of : ℕ → Class) where
  abbrev g : Grammar
  g = iso s

  abbrev reads : ℕ → ℕ → Goal → List ℕ → Option Taken
  reads = read_by_classes g class_of

  abbrev item_read : ℕ → ℕ → Item → List ℕ → Option Taken
  item_read fuel = read_item g class_of (reads fuel)

  abbrev definitions : Item
  definitions = many own (part External)

  abbrev unit : Item
  unit = definitions · end_of_text

  -- texts that begin alike are tested alike
  may_shut : (t : Test) (a : Item) (xs ys : List ℕ) → Near class_of shut xs ys → may_read g class_of t a xs ≡ may_read g class_of t a ys
  may_shut t a [] [] n = refl
  may_shut t a [] (j ∷ ys) n = absurd n
  may_shut t a (i ∷ []) [] n = absurd n
  may_shut t a (i ∷ []) (j ∷ []) n = ap (λ k. may_read g class_of t a (k ∷ [])) n
  may_shut t a (i ∷ []) (j ∷ m ∷ ys) n = absurd n
  may_shut t a (i ∷ k ∷ xs) [] n = absurd n
  may_shut t a (i ∷ k ∷ xs) (j ∷ []) n = absurd n
  may_shut t a (i ∷ k ∷ xs) (j ∷ m ∷ ys) n = by n.1
    where
      by : (k ≡ m) ⊎ ⊥ → may_read g class_of t a (i ∷ k ∷ xs) ≡ may_read g class_of t a (j ∷ m ∷ ys)
      by (inl same) =
          ap (λ x. holds g t (starts g a (class_of x) (class_of k)) (class_of x) (class_of k)) n.0
          ∙ ap (λ x. holds g t (starts g a (class_of j) (class_of x)) (class_of j) (class_of x)) same
      by (inr o) = absurd o

  end_so : (xs : List ℕ) (v : Taken) → read_end g class_of xs ≡ Some v → (xs ≡ []) × (taken none [] ≡ v)
  end_so [] v e = (refl, found_is (taken none []) v e)
  end_so (i ∷ xs) v e = absurd (stopped v e)

  abbrev unit_of : Forest → Forest
  unit_of f = child_of TranslationUnit 1 f

  -- what a unit was read as
  pub record Unit_so (fuel depth : ℕ) (xs : List ℕ) (t : Taken) : Type 0 where
    pub defs : Taken
    pub reads_defs : item_read fuel depth definitions xs ≡ Some defs
    pub ends : defs.left ≡ []
    pub is : t.read ≡ unit_of defs.read
    pub left : t.left ≡ []
    pub begins : may_read g class_of own unit xs ≡ true

  pub unit_so : (fuel depth : ℕ) (xs : List ℕ) (t : Taken) → reads (suc fuel) depth (produce TranslationUnit) xs ≡ Some t → Unit_so fuel depth xs t
  unfolding read_by_classes
  unit_so fuel depth xs t e =
      branch {P = Unit_so fuel depth xs t} (may_read g class_of own unit xs) (as_child TranslationUnit 1 (item_read fuel depth unit xs)) None t
      (λ c f.
      let m = inner_is TranslationUnit 1 (item_read fuel depth unit xs) t f in
      let k = between (item_read fuel depth definitions xs) (read_end g class_of) m.inside m.reads in
      let last = end_so k.first.left k.second k.more in
      let under : m.inside.read ≡ k.first.read =
      ap (λ (w : Taken). w.read) (sym k.whole) ∙ (ap (λ (w : Taken). joined k.first.read w.read) (sym last.1) ∙ joined-none k.first.read) in
      record {
        defs = k.first;
        reads_defs = k.reads;
        ends = last.0;
        is = ap (λ (w : Taken). w.read) (sym m.whole) ∙ ap unit_of under;
        left = ap (λ (w : Taken). w.left) (sym m.whole) ∙ (ap (λ (w : Taken). w.left) (sym k.whole) ∙ ap (λ (w : Taken). w.left) (sym last.1));
        begins = c;
      })
      (λ c f. absurd (stopped t f))
      e

  abbrev label_of : Label → Forest → Label
  label_of l (node m first under rest) = m
  label_of l f = l

  -- the label of a unit
  pub unit_label : (fuel depth : ℕ) (xs : List ℕ) (l : Label) (f : Forest) (ys : List ℕ) → reads fuel depth (produce TranslationUnit) xs ≡ Some (taken (node l 0 f none) ys)
      → l ≡ labelled TranslationUnit 1
  unfolding read_by_classes
  unit_label zero depth xs l f ys e = absurd (stopped (taken (node l 0 f none) ys) e)
  unit_label (suc fuel) depth xs l f ys e = ap (label_of l) (unit_so fuel depth xs (taken (node l 0 f none) ys) e).is

  module _ (order : List ℕ) (lists : ℕ → Bool) (is_order : IsOrder (length order) order) where
    abbrev renew : Forest → Forest
    renew f = new s class_of order lists f

    unit_tree : (f : Forest) → renew (unit_of f) ≡ unit_of (renew f)
    unit_tree f = permuted-child order lists TranslationUnit 1 f (ap (λ b. permuted order lists b f) (not_among order lists (labelled TranslationUnit 1) f refl))

    unit_goes : (fuel depth : ℕ) (xs : List ℕ) (t : Taken) → AreFull order lists false t.read → Unit_so fuel depth xs t
        → Sometime (λ n. reads n depth (produce TranslationUnit) (tokens_of (renew t.read) ++ t.left)) (taken (renew t.read) t.left)
    unfolding read_by_classes
    unit_goes fuel depth xs t full u =
        let f : Forest = u.defs.read in
        let full' : AreFull order lists false f = full-child order lists TranslationUnit 1 f (not_among order lists (labelled TranslationUnit 1) f refl) (subst (λ k. AreFull order lists false k) u.is full) in
        let a = anew_item s class_of order lists fuel (goods s class_of order lists is_order fuel) definitions depth xs u.defs refl refl full' u.reads_defs in
        let r = a.goes [] (subst (λ ys. Beside g class_of (closes g ending definitions ≡ true) ys []) (sym u.ends) (inl (inl (refl, inl refl)))) in
        let text : xs ≡ tokens_of f = (item_text g ending (tells (Iso s)) class_of fuel depth definitions xs u.defs u.reads_defs).0 ∙ (ap (λ ys. tokens_of f ++ ys) u.ends ∙ append-nil (tokens_of f)) in
        let goes : item_read r.0 depth definitions (tokens_of (renew f)) ≡ Some (taken (renew f) []) = ap (item_read r.0 depth definitions) (sym (append-nil (tokens_of (renew f)))) ∙ r.1 in
        let inside : item_read r.0 depth unit (tokens_of (renew f)) ≡ Some (taken (renew f) []) =
        then_is (item_read r.0 depth definitions (tokens_of (renew f))) (read_end g class_of) (taken (renew f) []) (taken none []) goes refl ∙ ap (λ k. Some (taken k [])) (joined-none (renew f)) in
        let begins : may_read g class_of own unit (tokens_of (renew f)) ≡ true =
        sym (may_shut own unit (tokens_of f) (tokens_of (renew f)) a.near) ∙ (ap (may_read g class_of own unit) (sym text) ∙ u.begins) in
        let new_text : tokens_of (renew t.read) ++ t.left ≡ tokens_of (renew f) =
        ap (λ ys. tokens_of (renew t.read) ++ ys) u.left
        ∙ (append-nil (tokens_of (renew t.read)) ∙ (ap (λ k. tokens_of (renew k)) u.is ∙ (ap tokens_of (unit_tree f) ∙ tokens_of-child TranslationUnit 1 (renew f)))) in (
          suc r.0,
          ap (reads (suc r.0) depth (produce TranslationUnit)) new_text
              ∙ (if_yes (may_read g class_of own unit (tokens_of (renew f))) (as_child TranslationUnit 1 (item_read r.0 depth unit (tokens_of (renew f)))) None begins
              ∙ (ap (as_child TranslationUnit 1) inside
              ∙ (ap (λ k. Some (taken k [])) (sym (ap renew u.is ∙ unit_tree f)) ∙ ap (λ ys. Some (taken (renew t.read) ys)) (sym u.left)))),
        )

    unit_by : (fuel depth : ℕ) (xs : List ℕ) (t : Taken) → AreFull order lists false t.read → reads fuel depth (produce TranslationUnit) xs ≡ Some t
        → Sometime (λ n. reads n depth (produce TranslationUnit) (tokens_of (renew t.read) ++ t.left)) (taken (renew t.read) t.left)
    unfolding read_by_classes
    unit_by zero depth xs t full e = absurd (stopped t e)
    unit_by (suc fuel) depth xs t full e = unit_goes fuel depth xs t full (unit_so fuel depth xs t e)

    unit_is : (p : Production) → never_empty p ≡ false → p ≡ TranslationUnit
    unit_is TranslationUnit e = refl
    unit_is _ e = absurd (false≢true (sym e))

    pub in_order : (fuel depth : ℕ) (p : Production) (xs : List ℕ) (t : Taken) → AreFull order lists false t.read → reads fuel depth (produce p) xs ≡ Some t
        → Sometime (λ n. reads n depth (produce p) (tokens_of (renew t.read) ++ t.left)) (taken (renew t.read) t.left)
    in_order fuel depth p xs t full e = by (never_empty p) refl
      where
        by : (b : Bool) → never_empty p ≡ b → Sometime (λ n. reads n depth (produce p) (tokens_of (renew t.read) ++ t.left)) (taken (renew t.read) t.left)
        by true some = (goods s class_of order lists is_order fuel depth (produce p) xs t some full e).goes t.left (inl (inl (refl, inl refl)))
        by false nothing =
            subst (λ q. Sometime (λ n. reads n depth (produce q) (tokens_of (renew t.read) ++ t.left)) (taken (renew t.read) t.left)) (sym (unit_is p nothing))
            (unit_by fuel depth xs t full (subst (λ q. reads fuel depth (produce q) xs ≡ Some t) (unit_is p nothing) e))

pub lists_in_any_order : ListsAreReadInAnyOrder
lists_in_any_order s class_of n order lists fuel depth p xs t e is all =
    let long : length order ≡ n = length-order n order is in
    in_order s class_of order lists (subst (λ k. IsOrder k order) (sym long) is) fuel depth p xs t
    (cut_full order lists false t.read done (subst (λ k. AreOf k (cut_then lists false t.read done)) (sym long) all)) e
