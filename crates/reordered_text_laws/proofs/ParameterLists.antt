-- A list of parameters, or of identifiers alone, and arguments in a new order are read.
use Rattle.std.proofs.Common.{ℕ, suc, zero, ◌+◌, ◌≡◌, ◌⊎◌, Bool, true, false, ◌&&◌, ◌||◌, if◌then◌else◌, List, [], ◌∷◌, ◌++◌, length, Option, None, Some, nat_lt, refl, sym, ap, subst, ◌∙◌, inr, arith}
use Rattle.std.proofs.lemmas.Bool.{false≢true, and_parts}
use Rattle.c99_grammar.specs.declared.dialects.Dialect.TheVariants.{Iso}
use Rattle.c99_grammar.specs.declared.dialects.Edition.{Edition}
use Rattle.c99_tree.specs.Tree.{Forest, none, token, node, node_of}
use Rattle.c99_tree.specs.declared.production.Label.{Label}
use Rattle.c99_tree.specs.declared.production.Production.{Production}
use Rattle.c99_tree.specs.declared.production.Production.TheVariants.{Params, Param, Args, Assign}
use Rattle.c99_grammar.specs.declared.classes.Class.{Class}
use Rattle.c99_grammar.specs.declared.classes.Class.TheVariants.{LeftBracket, LeftParen, RightParen, Star, Identifier, Comma, Ellipsis}
use Rattle.c99_grammar.specs.Classes.{among, is_same}
use Rattle.c99_grammar.specs.Items.{Item, one, part, end_of_text, act, ◌·◌, choice, maybe, many, deep, own, tok, name, Test, next_two, is, is_not, Alternative}
use Rattle.c99_grammar.specs.Standard.{iso}
use Rattle.c99_grammar.specs.Starting.{production_starts}
use Rattle.c99_grammar.proofs.StandardLemmas.{by_edition}
use Rattle.c99_read.specs.Reading.{Goal, produce, repeat, deepest}
use Rattle.c99_read.specs.State.{finished}
use Rattle.c99_read.specs.Sound.{never_empty}
use Rattle.list_cuts.specs.Cuts.{IsOrder}
use Rattle.reordered_tree_laws.specs.Reordered.{nodes_in, shuffled}
use Rattle.reordered_text_laws.specs.ByClasses.{joined, tokens_of, Taken, taken, then_read, as_child, here, behind, may_read, read_item, read_first, read_by_classes}
use Rattle.reordered_text_laws.specs.Lists.{Others, others_of, listed, listed_with, AreCommas, IsTail}
use Rattle.reordered_text_laws.proofs.Found.{stopped, found_is, between, branch, inner_is}
use Rattle.reordered_text_laws.proofs.Later.{one_more}
use Rattle.reordered_text_laws.proofs.Orders.{one_comma, steps_more, IsItem, AreItems}
use Rattle.reordered_text_laws.proofs.Tables.{ending, tells}
use Rattle.reordered_text_laws.proofs.Starts.{starts_so}
use Rattle.reordered_text_laws.proofs.Arguments.{in_order as args_in_order, found as args_found, together as args_together}
use Rattle.reordered_text_laws.proofs.Parameters.{found as params_found, together as params_together}
use Rattle.reordered_text_laws.proofs.Shuffled.{IsNode, AllNodes, nodes-joined, in_new_order}
use Rattle.reordered_text_laws.proofs.Permuted.{labelled}
use Rattle.reordered_text_laws.proofs.Near.{Plain}
use Rattle.reordered_text_laws.proofs.Anew.{Sometime}
use Rattle.reordered_text_laws.proofs.Alone.{joined-none}

-- ---- Trees

abbrev under_of : Forest → Forest
under_of (node l first under rest) = under
under_of f = f

abbrev label_of : Label → Forest → Label
label_of l (node m first under rest) = m
label_of l f = l

-- a list of a production and an alternative, with these children
abbrev pub a_list : Production → ℕ → Forest → Forest
a_list q k f = node (labelled q k) 0 f none

pub under_is : (q : Production) (k j : ℕ) (f h : Forest) → a_list q k f ≡ a_list q j h → f ≡ h
under_is q k j f h e = ap under_of e

-- ---- Items without a production

abbrev flat : Item → Bool
flat (part p) = false
flat (a · b) = flat a && flat b
flat (choice a b) = flat a && flat b
flat (maybe a) = flat a
flat (many t a) = flat a
flat (deep a) = flat a
flat _ = true

both_empty : (f h : Forest) → nodes_in f ≡ [] → nodes_in h ≡ [] → nodes_in (joined f h) ≡ []
both_empty f h e e' = nodes-joined f h ∙ (ap (λ ns. ns ++ nodes_in h) e ∙ e')

module _ (s : Edition) (class_of : ℕ → Class) where
  abbrev reads : ℕ → ℕ → Goal → List ℕ → Option Taken
  reads = read_by_classes (iso s) class_of

  abbrev item_read : ℕ → ℕ → Item → List ℕ → Option Taken
  item_read fuel = read_item (iso s) class_of (reads fuel)

  abbrev Empty : Taken → Type 0
  Empty t = nodes_in t.read ≡ []

  empty_still : (xs : List ℕ) (t : Taken) → Some (taken none xs) ≡ Some t → Empty t
  empty_still xs t e = subst Empty (found_is (taken none xs) t e) refl

  empty_then : (r : Option Taken) (f : List ℕ → Option Taken) (t : Taken) → then_read r f ≡ Some t → ((u : Taken) → r ≡ Some u → Empty u)
      → ((u v : Taken) → f u.left ≡ Some v → Empty v) → Empty t
  empty_then r f t e first second =
      let m = between r f t e in
      subst Empty m.whole (both_empty m.first.read m.second.read (first m.first m.reads) (second m.first m.second m.more))

  module _ (fuel : ℕ) (repeats : (depth : ℕ) (q : Test) (a : Item) (xs : List ℕ) (t : Taken) → flat a ≡ true → reads fuel depth (repeat q a) xs ≡ Some t → Empty t) where
    flat_item : (item : Item) (depth : ℕ) (xs : List ℕ) (t : Taken) → flat item ≡ true → item_read fuel depth item xs ≡ Some t → Empty t
    flat_item (one L) depth [] t h e = absurd (stopped t e)
    flat_item (one L) depth (i ∷ more) t h e = let both = one_comma (among L (class_of i)) i more t e in subst Empty both.1 refl
    flat_item (part p) depth xs t h e = absurd (false≢true h)
    flat_item end_of_text depth [] t h e = empty_still [] t e
    flat_item end_of_text depth (i ∷ more) t h e = absurd (stopped t e)
    flat_item (act a) depth xs t h e = empty_still xs t e
    flat_item (a · b) depth xs t h e =
        let both = and_parts (flat a) (flat b) h in
        empty_then (item_read fuel depth a xs) (item_read fuel depth b) t e (λ u f. flat_item a depth xs u both.0 f) (λ u v f. flat_item b depth u.left v both.1 f)
    flat_item (choice a b) depth xs t h e =
        let both = and_parts (flat a) (flat b) h in
        branch {P = Empty t} (may_read (iso s) class_of own a xs) (item_read fuel depth a xs) (if may_read (iso s) class_of own b xs then item_read fuel depth b xs else None) t
        (λ c f. flat_item a depth xs t both.0 f)
        (λ c f.
        branch {P = Empty t} (may_read (iso s) class_of own b xs) (item_read fuel depth b xs) None t (λ d f'. flat_item b depth xs t both.1 f') (λ d f'. absurd (stopped t f')) f)
        e
    flat_item (maybe a) depth xs t h e =
        branch {P = Empty t} (may_read (iso s) class_of own a xs) (item_read fuel depth a xs) (Some (taken none xs)) t (λ c f. flat_item a depth xs t h f) (λ c f. empty_still xs t f) e
    flat_item (many q a) depth xs t h e =
        branch {P = Empty t} (may_read (iso s) class_of q a xs) (then_read (item_read fuel depth a xs) (reads fuel depth (repeat q a))) (Some (taken none xs)) t
        (λ c f. empty_then (item_read fuel depth a xs) (reads fuel depth (repeat q a)) t f (λ u f'. flat_item a depth xs u h f') (λ u v f'. repeats depth q a u.left v h f'))
        (λ c f. empty_still xs t f) e
    flat_item (deep a) depth xs t h e =
        branch {P = Empty t} (may_read (iso s) class_of own a xs && nat_lt depth deepest) (item_read fuel (depth + 1) a xs) None t (λ c f. flat_item a (depth + 1) xs t h f)
        (λ c f. absurd (stopped t f)) e

  flat_repeat : (fuel depth : ℕ) (q : Test) (a : Item) (xs : List ℕ) (t : Taken) → flat a ≡ true → reads fuel depth (repeat q a) xs ≡ Some t → Empty t
  unfolding read_by_classes
  flat_repeat zero depth q a xs t h e = absurd (stopped t e)
  flat_repeat (suc fuel) depth q a xs t h e = flat_item fuel (flat_repeat fuel) (many q a) depth xs t h e

  -- ---- Items are nodes

  node_first : (below : ℕ → Goal → List ℕ → Option Taken) (p : Production) (alternatives : List Alternative) (depth n : ℕ) (xs : List ℕ) (t : Taken)
      → read_first (iso s) class_of below depth p n alternatives xs ≡ Some t → IsNode t.read
  node_first below p [] depth n xs t e = absurd (stopped t e)
  node_first below p (a ∷ more) depth n xs t e =
      branch {P = IsNode t.read} (may_read (iso s) class_of a.test a.body xs) (as_child p n (read_item (iso s) class_of below depth a.body xs))
      (read_first (iso s) class_of below depth p (n + 1) more xs) t
      (λ c f.
      let m = inner_is p n (read_item (iso s) class_of below depth a.body xs) t f in
      subst (λ (w : Taken). IsNode w.read) m.whole (finished p (node_of (labelled p n) 0 m.inside.read), refl))
      (λ c f. node_first below p more depth (n + 1) xs t f) e

  node_read : (fuel depth : ℕ) (p : Production) (xs : List ℕ) (t : Taken) → reads fuel depth (produce p) xs ≡ Some t → IsNode t.read
  unfolding read_by_classes
  node_read zero depth p xs t e = absurd (stopped t e)
  node_read (suc fuel) depth p xs t e = node_first (reads fuel) p ((iso s).table p) depth 1 xs t e

  -- ---- Lists of parameters

  abbrev listing : Item
  listing = tok Identifier · act name · many own (tok Comma · tok Identifier · act name)

  abbrev typing : Item
  typing = part Param · many (next_two (is (Comma ∷ [])) (is_not (Ellipsis ∷ []))) (tok Comma · part Param) · maybe (tok Comma · tok Ellipsis)

  no_case : (b : Bool) → (b ≡ true → ⊥) → b ≡ false
  no_case true f = absurd (f refl)
  no_case false f = refl

  plain_not : (c d : Class) → among (LeftBracket ∷ LeftParen ∷ Star ∷ Identifier ∷ []) c ≡ true → production_starts (iso s) Params c d ≡ true
      → among (Identifier ∷ []) c ≡ false → ⊥
  plain_not LeftBracket d e h k = false≢true (by_edition (λ r. false ≡ production_starts (iso r) Params LeftBracket d) refl refl s ∙ h)
  plain_not LeftParen d e h k = false≢true (by_edition (λ r. false ≡ production_starts (iso r) Params LeftParen d) refl refl s ∙ h)
  plain_not Star d e h k = false≢true (by_edition (λ r. false ≡ production_starts (iso r) Params Star d) refl refl s ∙ h)
  plain_not Identifier d e h k = false≢true (sym k)
  plain_not _ d e h k = false≢true e

  plain_params : (c d : Class) → production_starts (iso s) Params c d ≡ true → among (Identifier ∷ []) c ≡ false → Plain c
  plain_params c d h k = no_case (among (LeftBracket ∷ LeftParen ∷ Star ∷ Identifier ∷ []) c) (λ e. plain_not c d e h k)

  last_of : (a b c d : Bool) → (a || (b || (c || (d || false)))) ≡ false → (d || false) ≡ false
  last_of true b c d e = absurd (false≢true (sym e))
  last_of false true c d e = absurd (false≢true (sym e))
  last_of false false true d e = absurd (false≢true (sym e))
  last_of false false false d e = e

  pub not_listing : (c : Class) → Plain c → among (Identifier ∷ []) c ≡ false
  not_listing c e = last_of (is_same LeftBracket c) (is_same LeftParen c) (is_same Star c) (is_same Identifier c) e

  -- which of the two lists was read
  pub data Made (xs : List ℕ) (t : Taken) : Type 0 where
    names : (f : Forest) → t.read ≡ a_list Params 1 f → nodes_in f ≡ [] → Made xs t
    types : (f : Forest) → t.read ≡ a_list Params 2 f → Plain (here (iso s) class_of xs) → Made xs t

  pub params_made : (fuel depth : ℕ) (xs : List ℕ) (t : Taken) → reads fuel depth (produce Params) xs ≡ Some t → Made xs t
  unfolding read_by_classes
  params_made zero depth xs t e = absurd (stopped t e)
  params_made (suc fuel) depth xs t e =
      branch {P = Made xs t} (may_read (iso s) class_of own listing xs) (as_child Params 1 (item_read fuel depth listing xs)) _ t
      (λ c f.
      let m = inner_is Params 1 (item_read fuel depth listing xs) t f in
      names m.inside.read (ap (λ (w : Taken). w.read) (sym m.whole)) (flat_item fuel (flat_repeat fuel) listing depth xs m.inside refl m.reads))
      (λ c f.
      branch {P = Made xs t} (may_read (iso s) class_of own typing xs) (as_child Params 2 (item_read fuel depth typing xs)) None t
      (λ d f'.
      let m = inner_is Params 2 (item_read fuel depth typing xs) t f' in
      types m.inside.read (ap (λ (w : Taken). w.read) (sym m.whole))
      (plain_params (here (iso s) class_of xs) (behind (iso s) class_of xs) (starts_so (Iso s) class_of (suc fuel) depth Params xs t e) c))
      (λ d f'. absurd (stopped t f')) f)
      e

  -- a list that has types is no list of names
  pub types_so : (xs : List ℕ) (t : Taken) (f : Forest) → Made xs t → t.read ≡ a_list Params 2 f → Plain (here (iso s) class_of xs)
  types_so xs t f (names h eq empty) e =
      absurd (let two : 2 ≡ 1 = ap (λ (k : Forest). (label_of (labelled Params 0) k).alternative) (sym e ∙ eq) in omega (arith, two))
  types_so xs t f (types h eq plain) e = plain

  tail_empty : (tail : Forest) → IsTail class_of tail → nodes_in tail ≡ []
  tail_empty none h = refl
  tail_empty (token i (token j none)) h = refl
  tail_empty (token i none) h = absurd h
  tail_empty (token i (token j (token k rest))) h = absurd h
  tail_empty (token i (token j (node l first under rest))) h = absurd h
  tail_empty (token i (node l first under rest)) h = absurd h
  tail_empty (node l first under rest) h = absurd h

  module _ (q : Production) (closes : ending q ≡ true) (never : never_empty q ≡ true) where
    item_node : (fuel depth : ℕ) (f : Forest) (zs : List ℕ) → here (iso s) class_of zs ≡ RightParen
        → IsItem (iso s) ending (tells (Iso s)) class_of q closes never fuel depth f → IsNode f
    item_node fuel depth f zs end item = node_read fuel depth q (tokens_of f ++ zs) (taken f zs) (item zs (inr end))

    items_nodes : (fuel depth : ℕ) (more : Others) (zs : List ℕ) → here (iso s) class_of zs ≡ RightParen
        → AreItems (iso s) ending (tells (Iso s)) class_of q closes never fuel depth more → AllNodes more
    items_nodes fuel depth [] zs end items = tt
    items_nodes fuel depth (x ∷ more) zs end items = (item_node fuel depth x.1 zs end items.0, items_nodes fuel depth more zs end items.1)

  module _ (order : List ℕ) (is_order : IsOrder (length order) order) where
    -- a list is read with its items in the new order
    abbrev pub Ordered : Production → ℕ → Type 0
    Ordered q k =
        (fuel depth : ℕ) (xs : List ℕ) (t : Taken) (f : Forest) → reads fuel depth (produce q) xs ≡ Some t → here (iso s) class_of t.left ≡ RightParen → t.read ≡ a_list q k f
        → (length (nodes_in f) ≡ length order) ⊎ (length (nodes_in f) ≡ 0)
        → Sometime (λ n. reads n depth (produce q) (tokens_of (shuffled order f) ++ t.left)) (taken (a_list q k (shuffled order f)) t.left)

    abbrev Many : Forest → Type 0
    Many f = (length (nodes_in f) ≡ length order) ⊎ (length (nodes_in f) ≡ 0)

    -- put together
    ordered_by : (q : Production) (k n depth : ℕ) (f h : Forest) (zs : List ℕ) → shuffled order f ≡ h → reads n depth (produce q) (tokens_of h ++ zs) ≡ Some (taken (a_list q k h) zs)
        → Sometime (λ j. reads j depth (produce q) (tokens_of (shuffled order f) ++ zs)) (taken (a_list q k (shuffled order f)) zs)
    ordered_by q k n depth f h zs same e =
        (n, ap (λ x. reads n depth (produce q) (tokens_of x ++ zs)) same ∙ (e ∙ ap (λ x. Some (taken (a_list q k x) zs)) (sym same)))

    pub args_ordered : Ordered Args 1
    args_ordered fuel depth xs t f e end eq full =
        let found = args_found (Iso s) class_of fuel depth xs t end (one_more (iso s) class_of fuel depth (produce Args) xs t e) in
        let first : Forest = found.0 in
        let more : Others = found.1.0 in
        let commas : AreCommas class_of more = found.1.1.1.0 in
        let item = found.1.1.1.1.0 in
        let items = found.1.1.1.1.1 in
        let whole : f ≡ listed_with first more none = under_is Args 1 1 f (listed first more) (sym eq ∙ found.1.1.0) ∙ sym (ap (joined first) (joined-none (others_of more))) in
        let w = in_new_order class_of order first more none refl (item_node Assign refl refl fuel depth first t.left end item) (items_nodes Assign refl refl fuel depth more t.left end items) commas
        is_order (subst Many whole full) in
        let again = args_in_order (Iso s) class_of Assign refl refl fuel depth first more w.other w.others w.moved item items in
        let same : shuffled order f ≡ listed w.other w.others = ap (shuffled order) whole ∙ (w.same ∙ ap (joined w.other) (joined-none (others_of w.others))) in
        ordered_by Args 1 (suc (steps_more fuel w.others)) depth f (listed w.other w.others) t.left same
        (args_together (Iso s) class_of fuel depth w.other w.others t.left again.0 again.1 w.commas end)

    typed_ordered : (fuel depth : ℕ) (xs : List ℕ) (t : Taken) (f : Forest) → reads fuel depth (produce Params) xs ≡ Some t → here (iso s) class_of t.left ≡ RightParen
        → t.read ≡ a_list Params 2 f → Many f → Plain (here (iso s) class_of xs)
        → Sometime (λ n. reads n depth (produce Params) (tokens_of (shuffled order f) ++ t.left)) (taken (a_list Params 2 (shuffled order f)) t.left)
    typed_ordered fuel depth xs t f e end eq full plain =
        let found = params_found (Iso s) class_of fuel depth xs t end (not_listing (here (iso s) class_of xs) plain) (one_more (iso s) class_of fuel depth (produce Params) xs t e) in
        let first : Forest = found.0 in
        let more : Others = found.1.0 in
        let tail : Forest = found.1.1.0 in
        let commas : AreCommas class_of more = found.1.1.1.1.0.0 in
        let last : IsTail class_of tail = found.1.1.1.1.0.1 in
        let item = found.1.1.1.1.1.0 in
        let items = found.1.1.1.1.1.1 in
        let whole : f ≡ listed_with first more tail = under_is Params 2 2 f (listed_with first more tail) (sym eq ∙ found.1.1.1.0) in
        let w = in_new_order class_of order first more tail (tail_empty tail last) (item_node Param refl refl fuel depth first t.left end item)
        (items_nodes Param refl refl fuel depth more t.left end items) commas is_order (subst Many whole full) in
        let again = args_in_order (Iso s) class_of Param refl refl fuel depth first more w.other w.others w.moved item items in
        ordered_by Params 2 (suc (steps_more fuel w.others)) depth f (listed_with w.other w.others tail) t.left (ap (shuffled order) whole ∙ w.same)
        (params_together (Iso s) class_of fuel depth w.other w.others tail t.left again.0 again.1 w.commas last end)

    pub types_ordered : Ordered Params 2
    types_ordered fuel depth xs t f e end eq full = typed_ordered fuel depth xs t f e end eq full (types_so xs t f (params_made fuel depth xs t e) eq)

    -- the one list of arguments
    pub args_made : (fuel depth : ℕ) (xs : List ℕ) (t : Taken) → here (iso s) class_of t.left ≡ RightParen → reads fuel depth (produce Args) xs ≡ Some t → (f : Forest) × (t.read ≡ a_list Args 1 f)
    args_made fuel depth xs t end e =
        let found = args_found (Iso s) class_of fuel depth xs t end (one_more (iso s) class_of fuel depth (produce Args) xs t e) in (listed found.0 found.1.0, found.1.1.0)
