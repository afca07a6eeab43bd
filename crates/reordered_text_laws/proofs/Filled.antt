-- In a tree that is read each node but that of the unit has a token.
use Rattle.std.proofs.Common.{ℕ, suc, zero, ◌+◌, ◌≡◌, Bool, true, false, ◌&&◌, ◌||◌, not, if◌then◌else◌, List, [], ◌∷◌, ◌++◌, Option, None, Some, nat_lt, refl, sym, ap, subst, ◌∙◌}
use Rattle.std.specs.List.{list_all}
use Rattle.std.proofs.lemmas.Bool.{false≢true, and_parts, and_from}
use Rattle.cs_base.proofs.BoolLemmas.{or_met as must_have}
use Rattle.c99_grammar.specs.declared.dialects.Dialect.TheVariants.{Iso}
use Rattle.c99_grammar.specs.declared.dialects.Edition.{Edition}
use Rattle.c99_tree.specs.Tree.{Forest, none, token, node, Node, node_of, lone, collapsed}
use Rattle.c99_tree.specs.declared.production.Production.{Production}
use Rattle.c99_tree.specs.declared.production.Production.TheVariants.{TranslationUnit, External}
use Rattle.c99_grammar.specs.declared.classes.Class.{Class}
use Rattle.c99_grammar.specs.Classes.{among}
use Rattle.c99_grammar.specs.Items.{Item, one, part, end_of_text, act, ◌·◌, choice, maybe, many, deep, own, Alternative}
use Rattle.c99_grammar.specs.Standard.{Grammar, iso}
use Rattle.c99_read.specs.Reading.{Goal, produce, repeat, deepest}
use Rattle.c99_read.specs.State.{collapses}
use Rattle.c99_read.specs.Sound.{never_empty, has_token, is_sound}
use Rattle.reordered_text_laws.specs.ByClasses.{joined, tokens_of, untold, numbers_from, Taken, taken, then_read, behind_children, as_child, may_read, read_item, read_first, read_goal, read_by_classes}
use Rattle.reordered_text_laws.specs.Fronted.{has_leaf, is_filled}
use Rattle.reordered_text_laws.specs.InOrder.{IsReadAs}
use Rattle.reordered_text_laws.proofs.Found.{stopped}
use Rattle.reordered_text_laws.proofs.Whole.{has_any, Whole, whole_part}
use Rattle.reordered_text_laws.proofs.Stops.{test_alike, item_alike, alternative_alike}
use Rattle.reordered_text_laws.proofs.Local.{Tells, goal_alike}
use Rattle.reordered_text_laws.proofs.Tables.{ending, tells}
use Rattle.reordered_text_laws.proofs.Units.{unit_so}

-- ---- Trees

filled_joined : (f k : Forest) → is_filled f ≡ true → is_filled k ≡ true → is_filled (joined f k) ≡ true
filled_joined none k h g = g
filled_joined (token i rest) k h g = filled_joined rest k h g
filled_joined (node l first under rest) k h g =
    let a = and_parts (has_leaf under) (is_filled under && is_filled rest) h in
    let b = and_parts (is_filled under) (is_filled rest) a.1 in
    and_from (has_leaf under) (is_filled under && is_filled (joined rest k)) a.0 (and_from (is_filled under) (is_filled (joined rest k)) b.0 (filled_joined rest k b.1 g))

any_more : (xs ys : List ℕ) → (has_any xs || has_any ys) ≡ has_any (xs ++ ys)
any_more [] ys = refl
any_more (x ∷ xs) ys = refl

leaf_any : (f : Forest) → has_leaf f ≡ has_any (tokens_of f)
leaf_any none = refl
leaf_any (token i rest) = refl
leaf_any (node l first under rest) =
    ap (λ b. b || has_leaf rest) (leaf_any under) ∙ (ap (λ b. has_any (tokens_of under) || b) (leaf_any rest) ∙ any_more (tokens_of under) (tokens_of rest))

abbrev FullNode : Node → Type 0
FullNode n = (has_leaf n.under && (is_filled n.under && true)) ≡ true

lone_full : (f : Forest) (n : Node) → is_filled f ≡ true → FullNode n → FullNode (lone f n)
lone_full none n h g = g
lone_full (token i rest) n h g = g
lone_full (node l first under none) n h g = h
lone_full (node l first under (token i rest)) n h g = g
lone_full (node l first under (node m second below rest)) n h g = g

pub filled_untold : (f : Forest) → is_filled (untold f) ≡ is_filled f
filled_untold none = refl
filled_untold (token i rest) = filled_untold rest
filled_untold (node l first under rest) =
    ap (λ b. b && (is_filled (untold under) && is_filled (untold rest))) (leaf_untold under)
    ∙ (ap (λ b. has_leaf under && (b && is_filled (untold rest))) (filled_untold under) ∙ ap (λ b. has_leaf under && (is_filled under && b)) (filled_untold rest))
  where
    leaf_untold : (f : Forest) → has_leaf (untold f) ≡ has_leaf f
    leaf_untold none = refl
    leaf_untold (token i rest) = refl
    leaf_untold (node l first under rest) = ap (λ b. b || has_leaf (untold rest)) (leaf_untold under) ∙ ap (λ b. has_leaf under || b) (leaf_untold rest)

-- ---- Readings

abbrev Filled : Option Taken → Type 0
Filled None = Unit {0}
Filled (Some t) = is_filled t.read ≡ true

filled_if : (c : Bool) (r r' : Option Taken) → Filled r → Filled r' → Filled (if c then r else r')
filled_if true r r' h g = h
filled_if false r r' h g = g

filled_then : (r : Option Taken) (f : List ℕ → Option Taken) → Filled r → ((ys : List ℕ) → Filled (f ys)) → Filled (then_read r f)
filled_then None f h g = tt
filled_then (Some t) f h g = by (f t.left) (g t.left)
  where
    by : (r : Option Taken) → Filled r → Filled (behind_children t.read r)
    by None k = tt
    by (Some b) k = filled_joined t.read b.read h k

filled_child : (p : Production) (n : ℕ) (has : Bool) (xs : List ℕ) (r : Option Taken) → has ≡ true → Filled r → Whole has xs r → Filled (as_child p n r)
filled_child p n has xs None e h w = tt
filled_child p n has xs (Some t) e h w = by (collapses p)
  where
    full : FullNode (node_of (record { production = p; alternative = n }) 0 t.read)
    full = and_from (has_leaf t.read) (is_filled t.read && true) (leaf_any t.read ∙ w.1 e) (and_from (is_filled t.read) true h refl)

    by : (c : Bool) → FullNode (if c then collapsed (node_of (record { production = p; alternative = n }) 0 t.read) else node_of (record { production = p; alternative = n }) 0 t.read)
    by true = lone_full t.read (node_of (record { production = p; alternative = n }) 0 t.read) h full
    by false = full

filled_one : (classes : List Class) (c : Bool) (i : ℕ) (more : List ℕ) → Filled (if c then Some (taken (token i none) more) else None)
filled_one classes true i more = refl
filled_one classes false i more = tt

module _ (g : Grammar) (tells : Tells g ending) (class_of : ℕ → Class) where
  abbrev Fills : ℕ → Type 0
  Fills fuel = (depth : ℕ) (goal : Goal) (xs : List ℕ) → goal_alike g ending tells class_of goal ≡ true → Filled (read_by_classes g class_of fuel depth goal xs)

  module _ (fuel : ℕ) (fills : Fills fuel) where
    abbrev item_read : ℕ → Item → List ℕ → Option Taken
    item_read = read_item g class_of (read_by_classes g class_of fuel)

    filled_item : (item : Item) (depth : ℕ) (xs : List ℕ) → item_alike g item ≡ true → Filled (item_read depth item xs)
    filled_item (one classes) depth [] h = tt
    filled_item (one classes) depth (i ∷ more) h = filled_one classes (among classes (class_of i)) i more
    filled_item (part p) depth xs h = fills depth (produce p) xs (and_parts (never_empty p) _ h).0
    filled_item end_of_text depth xs h = absurd (false≢true h)
    filled_item (act a) depth xs h = refl
    filled_item (a · b) depth xs h =
        let both = and_parts (item_alike g a) (item_alike g b) h in
        filled_then (item_read depth a xs) (item_read depth b) (filled_item a depth xs both.0) (λ ys. filled_item b depth ys both.1)
    filled_item (choice a b) depth xs h =
        let both = and_parts (item_alike g a) (item_alike g b) h in
        filled_if (may_read g class_of own a xs) _ _ (filled_item a depth xs both.0) (filled_if (may_read g class_of own b xs) _ _ (filled_item b depth xs both.1) tt)
    filled_item (maybe a) depth xs h = filled_if (may_read g class_of own a xs) _ _ (filled_item a depth xs h) refl
    filled_item (many t a) depth xs h =
        let both = and_parts (test_alike g t) (item_alike g a) h in
        filled_if (may_read g class_of t a xs) _ _
        (filled_then (item_read depth a xs) (read_by_classes g class_of fuel depth (repeat t a)) (filled_item a depth xs both.1) (λ ys. fills depth (repeat t a) ys h)) refl
    filled_item (deep a) depth xs h = filled_if (may_read g class_of own a xs && nat_lt depth deepest) _ _ (filled_item a (depth + 1) xs h) tt

    filled_first : (p : Production) (alternatives : List Alternative) (depth n : ℕ) (xs : List ℕ) → never_empty p ≡ true → list_all (alternative_alike g) alternatives ≡ true
        → list_all (is_sound p) alternatives ≡ true → Filled (read_first g class_of (read_by_classes g class_of fuel) depth p n alternatives xs)
    filled_first p [] depth n xs never alike sound = tt
    filled_first p (a ∷ more) depth n xs never alike sound =
        let both = and_parts (alternative_alike g a) (list_all (alternative_alike g) more) alike in
        let parts = and_parts (is_sound p a) (list_all (is_sound p) more) sound in
        let item = (and_parts (test_alike g a.test) (item_alike g a.body) both.0).1 in
        let has : has_token a.body ≡ true = must_have (never_empty p) (has_token a.body) (and_parts _ (not (never_empty p) || has_token a.body) parts.0).1 never in
        filled_if (may_read g class_of a.test a.body xs) _ _
        (filled_child p n (has_token a.body) xs (item_read depth a.body xs) has (filled_item a.body depth xs item) (whole_part g class_of tells.sound fuel a.body depth xs))
        (filled_first p more depth (n + 1) xs never both.1 parts.1)

    filled_goal : (depth : ℕ) (goal : Goal) (xs : List ℕ) → goal_alike g ending tells class_of goal ≡ true → Filled (read_goal g class_of (read_by_classes g class_of fuel) depth goal xs)
    filled_goal depth (produce p) xs h = filled_first p (g.table p) depth 1 xs h (tells.alike p h) (tells.sound.sound p)
    filled_goal depth (repeat t a) xs h = filled_item (many t a) depth xs h

  fills_all : (fuel : ℕ) → Fills fuel
  unfolding read_by_classes
  fills_all zero depth goal xs h = tt
  fills_all (suc fuel) depth goal xs h = filled_goal fuel (fills_all fuel) depth goal xs h

filled_is : (r : Option Taken) (t : Taken) → r ≡ Some t → Filled r → is_filled t.read ≡ true
filled_is r t e h = subst Filled e h

abbrev under_of : Forest → Forest
under_of (node l first under rest) = under
under_of f = f

filled_by : (s : Edition) (class_of : ℕ → Class) (count : ℕ) (tree : Node) (steps : ℕ)
    → read_by_classes (iso s) class_of steps 0 (produce TranslationUnit) (numbers_from 0 count) ≡ Some (taken (untold (node tree.label tree.first tree.under none)) [])
    → is_filled tree.under ≡ true
unfolding read_by_classes
filled_by s class_of count tree zero e = absurd (stopped (taken (untold (node tree.label tree.first tree.under none)) []) e)
filled_by s class_of count tree (suc fuel) e =
    let unit = unit_so s class_of fuel 0 (numbers_from 0 count) (taken (untold (node tree.label tree.first tree.under none)) []) e in
    let definitions : Item = many own (part External) in
    let r : Option Taken = read_item (iso s) class_of (read_by_classes (iso s) class_of fuel) 0 definitions (numbers_from 0 count) in
    let filled : Filled r = filled_item (iso s) (tells (Iso s)) class_of fuel (fills_all (iso s) (tells (Iso s)) class_of fuel) definitions 0 (numbers_from 0 count) refl in
    sym (filled_untold tree.under) ∙ (ap (λ f. is_filled (under_of f)) unit.is ∙ filled_is r unit.defs unit.reads_defs filled)

pub filled_unit : (s : Edition) (class_of : ℕ → Class) (count : ℕ) (tree : Node) → IsReadAs s class_of count tree → is_filled tree.under ≡ true
filled_unit s class_of count tree so = filled_by s class_of count tree so.0 so.1
