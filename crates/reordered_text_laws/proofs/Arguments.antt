-- The arguments of a call are read in any order.
use Rattle.std.proofs.Common.{ℕ, suc, zero, ◌≡◌, true, false, List, [], ◌∷◌, ◌++◌, map, Option, None, Some, refl, sym, ap, ◌∙◌, inl, inr}
use Rattle.std.specs.Prelude.{All, IsPermutation}
use Rattle.std.proofs.lemmas.List.{append_assoc}
use Rattle.std.proofs.lemmas.List.Elements.{All-nil, All-cons, All-head, All-tail}
use Rattle.std.proofs.lemmas.List.Sorted.{All-permutation}
use Rattle.c99_grammar.specs.declared.dialects.Dialect.{Dialect}
use Rattle.c99_tree.specs.Tree.{Forest}
use Rattle.c99_tree.specs.declared.production.Production.{Production}
use Rattle.c99_tree.specs.declared.production.Production.TheVariants.{Args, Assign, Param}
use Rattle.c99_grammar.specs.declared.classes.Class.{Class}
use Rattle.c99_grammar.specs.declared.classes.Class.TheVariants.{Comma, RightParen}
use Rattle.c99_grammar.specs.Classes.{among}
use Rattle.c99_grammar.specs.Items.{Item, part, tok, ◌·◌, many, own, Alternative, plain}
use Rattle.c99_grammar.specs.Standard.{grammar}
use Rattle.c99_grammar.proofs.StandardLemmas.{by_dialect}
use Rattle.c99_read.specs.Reading.{Goal, produce}
use Rattle.c99_read.specs.Sound.{never_empty}
use Rattle.reordered_text_laws.specs.ByClasses.{joined, tokens_of, Taken, taken, child_of, as_child, here, may_read, read_item, read_first, read_by_classes}
use Rattle.reordered_text_laws.specs.Lists.{Others, others_of, listed, items_in, AreCommas}
use Rattle.reordered_text_laws.specs.ReorderedTexts.{ReadsAnywhere, PartsAreReadAnywhere, ItemsAreReadAnywhere, ArgumentsAreReadInAnyOrder}
use Rattle.reordered_text_laws.proofs.Found.{stopped, between, then_is, branch, if_yes, inner_is}
use Rattle.reordered_text_laws.proofs.Whole.{tokens_of-joined}
use Rattle.reordered_text_laws.proofs.Local.{goal_text, locally}
use Rattle.reordered_text_laws.proofs.Orders.{steps_more, IsItem, AreItems, item_later, item_is, another, items_apart, Goes, ends_others, items_together}
use Rattle.reordered_text_laws.proofs.Tables.{ending, tells}
use Rattle.reordered_text_laws.proofs.Starts.{starts_so}

-- ---- One item

anywhere : (q : Production) → ending q ≡ true → never_empty q ≡ true → ReadsAnywhere q
anywhere q closes never s class_of fuel depth xs zs t e end end' = (
  (goal_text (grammar s) ending (tells s) class_of fuel depth (produce q) xs t e).0,
  locally (grammar s) ending (tells s) class_of fuel depth (produce q) xs t zs never (inr (closes, (end, end'))) e,
)

pub parts_anywhere : PartsAreReadAnywhere
parts_anywhere s class_of fuel depth p xs zs t never e same same' = (
  (goal_text (grammar s) ending (tells s) class_of fuel depth (produce p) xs t e).0,
  locally (grammar s) ending (tells s) class_of fuel depth (produce p) xs t zs never (inl (same, inl same')) e,
)

pub items_anywhere : ItemsAreReadAnywhere
items_anywhere = (anywhere Assign refl refl, anywhere Param refl refl)

-- ---- Items in any order

module _ (s : Dialect) (class_of : ℕ → Class) (q : Production) (closes : ending q ≡ true) (never : never_empty q ≡ true) where
  abbrev Item_so : ℕ → ℕ → Forest → Type 0
  Item_so fuel depth f = IsItem (grammar s) ending (tells s) class_of q closes never fuel depth f

  abbrev Items_so : ℕ → ℕ → Others → Type 0
  Items_so fuel depth more = AreItems (grammar s) ending (tells s) class_of q closes never fuel depth more

  all_others : (fuel depth : ℕ) (more : Others) → Items_so fuel depth more → All (Item_so fuel depth) (map (λ (x : ℕ × Forest). x.1) more)
  all_others fuel depth [] h = All-nil (Item_so fuel depth)
  all_others fuel depth (x ∷ more) h = All-cons (Item_so fuel depth) x.1 (map (λ (x : ℕ × Forest). x.1) more) h.0 (all_others fuel depth more h.1)

  each_other : (fuel depth : ℕ) (more : Others) → All (Item_so fuel depth) (map (λ (x : ℕ × Forest). x.1) more) → Items_so fuel depth more
  each_other fuel depth [] h = tt
  each_other fuel depth (x ∷ more) h = (
    All-head (Item_so fuel depth) x.1 (map (λ (x : ℕ × Forest). x.1) more) h,
    each_other fuel depth more (All-tail (Item_so fuel depth) x.1 (map (λ (x : ℕ × Forest). x.1) more) h),
  )

  -- items in another order are items
  pub in_order : (fuel depth : ℕ) (first : Forest) (more : Others) (other : Forest) (others : Others) → IsPermutation (items_in first more) (items_in other others)
      → Item_so fuel depth first → Items_so fuel depth more → Item_so fuel depth other × Items_so fuel depth others
  in_order fuel depth first more other others moved h hs =
      let all = All-permutation (Item_so fuel depth) (items_in first more) (items_in other others) moved
      (All-cons (Item_so fuel depth) first (map (λ (x : ℕ × Forest). x.1) more) h (all_others fuel depth more hs)) in (
        All-head (Item_so fuel depth) other (map (λ (x : ℕ × Forest). x.1) others) all,
        each_other fuel depth others (All-tail (Item_so fuel depth) other (map (λ (x : ℕ × Forest). x.1) others) all),
      )

-- ---- Arguments

module _ (s : Dialect) (class_of : ℕ → Class) where
  abbrev reads : ℕ → ℕ → Goal → List ℕ → Option Taken
  reads = read_by_classes (grammar s) class_of

  abbrev next_one : Item
  next_one = another (grammar s) ending (tells s) class_of Assign refl refl own

  abbrev body : Item
  body = part Assign · many own next_one

  abbrev Arg : ℕ → ℕ → Forest → Type 0
  Arg fuel depth f = IsItem (grammar s) ending (tells s) class_of Assign refl refl fuel depth f

  abbrev Arguments : ℕ → ℕ → Others → Type 0
  Arguments fuel depth more = AreItems (grammar s) ending (tells s) class_of Assign refl refl fuel depth more

  goes : (fuel depth : ℕ) → Goes (grammar s) ending (tells s) class_of Assign refl refl own fuel depth
  goes fuel depth i f zs comma item end = ap (among (Comma ∷ [])) comma

  stops : (zs : List ℕ) → here (grammar s) class_of zs ≡ RightParen → may_read (grammar s) class_of own next_one zs ≡ false
  stops zs e = ap (among (Comma ∷ [])) e

  list_text : (first : Forest) (more : Others) (zs : List ℕ) → tokens_of (listed first more) ++ zs ≡ tokens_of first ++ (tokens_of (others_of more) ++ zs)
  list_text first more zs =
      ap (λ ys. ys ++ zs) (tokens_of-joined first (others_of more)) ∙ append_assoc (tokens_of first) (tokens_of (others_of more)) zs

  -- the row of arguments, which is the same for each dialect
  args_row : (grammar s).table Args ≡ plain body ∷ []
  args_row = by_dialect (λ d. (grammar d).table Args ≡ plain (part Assign · many own (tok Comma · part Assign)) ∷ []) (λ v. refl) refl s

  by_row : (n depth : ℕ) (xs : List ℕ)
      → read_first (grammar s) class_of (reads n) depth Args 1 ((grammar s).table Args) xs ≡ read_first (grammar s) class_of (reads n) depth Args 1 (plain body ∷ []) xs
  by_row n depth xs = ap (λ (rows : List Alternative). read_first (grammar s) class_of (reads n) depth Args 1 rows xs) args_row

  pub together : (fuel depth : ℕ) (first : Forest) (more : Others) (zs : List ℕ) → Arg fuel depth first → Arguments fuel depth more → AreCommas class_of more
      → here (grammar s) class_of zs ≡ RightParen
      → reads (suc (steps_more fuel more)) depth (produce Args) (tokens_of (listed first more) ++ zs) ≡ Some (taken (child_of Args 1 (listed first more)) zs)
  unfolding read_by_classes
  together fuel depth first more zs item items commas end =
      let n : ℕ = steps_more fuel more in
      let behind_it : List ℕ = tokens_of (others_of more) ++ zs in
      let ends' = ends_others (grammar s) ending (tells s) class_of Assign refl refl own more zs commas (inr end) in
      let begun = starts_so s class_of fuel depth Assign (tokens_of first ++ behind_it) (taken first behind_it) (item behind_it ends') in
      let inside : read_item (grammar s) class_of (reads n) depth body (tokens_of first ++ behind_it) ≡ Some (taken (listed first more) zs) =
      then_is (reads n depth (produce Assign) (tokens_of first ++ behind_it)) (read_item (grammar s) class_of (reads n) depth (many own next_one)) (taken first behind_it) (taken (others_of more) zs)
      (item_later (grammar s) ending (tells s) class_of Assign refl refl fuel depth first more item behind_it ends')
      (items_together (grammar s) ending (tells s) class_of Assign refl refl own fuel depth more zs (goes fuel depth) items commas (inr end) (stops zs end)) in
      ap (reads (suc n) depth (produce Args)) (list_text first more zs)
      ∙ (by_row n depth (tokens_of first ++ behind_it)
      ∙ if_yes (may_read (grammar s) class_of own body (tokens_of first ++ behind_it)) (as_child Args 1 (read_item (grammar s) class_of (reads n) depth body (tokens_of first ++ behind_it))) None begun
      ∙ ap (as_child Args 1) inside)

  abbrev Found_so : ℕ → ℕ → Taken → Type 0
  Found_so fuel depth t =
      (first : Forest) × ((more : Others) × ((t.read ≡ child_of Args 1 (listed first more)) × (AreCommas class_of more × (Arg fuel depth first × Arguments fuel depth more))))

  pub found : (fuel depth : ℕ) (xs : List ℕ) (t : Taken) → here (grammar s) class_of t.left ≡ RightParen → reads (suc fuel) depth (produce Args) xs ≡ Some t → Found_so fuel depth t
  unfolding read_by_classes
  found fuel depth xs t end e =
      branch (may_read (grammar s) class_of own body xs) (as_child Args 1 (read_item (grammar s) class_of (reads fuel) depth body xs)) None t
      (λ c e'.
      let m = inner_is Args 1 (read_item (grammar s) class_of (reads fuel) depth body xs) t e' in
      let k = between (reads fuel depth (produce Assign) xs) (read_item (grammar s) class_of (reads fuel) depth (many own next_one)) m.inside m.reads in
      let left : k.second.left ≡ t.left = ap (λ (w : Taken). w.left) k.whole ∙ ap (λ (w : Taken). w.left) m.whole in
      let rest = items_apart (grammar s) ending (tells s) class_of Assign refl refl own fuel depth k.first.left k.second k.more (inr (ap (here (grammar s) class_of) left ∙ end)) in (
        k.first.read,
        (
          rest.more,
          (
            ap (λ (w : Taken). w.read) (sym m.whole) ∙ ap (child_of Args 1) (ap (λ (w : Taken). w.read) (sym k.whole) ∙ ap (joined k.first.read) rest.read),
            (
              rest.commas,
              (item_is (grammar s) ending (tells s) class_of Assign refl refl fuel depth xs k.first k.reads rest.ends, rest.items),
            ),
          ),
        ),
      ))
      (λ c e'. absurd (stopped t e'))
      (sym (by_row fuel depth xs) ∙ e)

pub arguments_in_any_order : ArgumentsAreReadInAnyOrder
unfolding read_by_classes
arguments_in_any_order s class_of zero depth xs t e end = absurd (stopped t e)
arguments_in_any_order s class_of (suc fuel) depth xs t e end =
    let f = found s class_of fuel depth xs t end e in (
      f.0,
      (
        f.1.0,
        (
          f.1.1.0,
          (
            f.1.1.1.0,
            λ other others zs moved commas end'.
                let so = in_order s class_of Assign refl refl fuel depth f.0 f.1.0 other others moved f.1.1.1.1.0 f.1.1.1.1.1 in
                (suc (steps_more fuel others), together s class_of fuel depth other others zs so.0 so.1 commas end'),
          ),
        ),
      ),
    )
