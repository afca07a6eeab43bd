-- The tokens that were read, and those that are left, are the tokens that were there; and what has a token took one.
use Rattle.std.proofs.Common.{ℕ, suc, zero, ◌+◌, ◌≡◌, Bool, true, false, ◌&&◌, ◌||◌, not, if◌then◌else◌, List, [], ◌∷◌, ◌++◌, Option, None, Some, nat_lt, refl, sym, ap, subst, ◌∙◌, inl, inr}
use Rattle.std.specs.List.{list_all}
use Rattle.std.proofs.lemmas.Bool.{false≢true, and_parts, or_cases}
use Rattle.std.proofs.lemmas.List.{append_assoc, append-nil}
use Rattle.c99_tree.specs.Tree.{Forest, none, token, node, Node, node_of, lone, collapsed}
use Rattle.c99_tree.specs.declared.production.Production.{Production}
use Rattle.c99_grammar.specs.declared.classes.Class.{Class}
use Rattle.c99_grammar.specs.Classes.{among}
use Rattle.c99_grammar.specs.Items.{Item, one, part, end_of_text, act, ◌·◌, choice, maybe, many, deep, own, Alternative}
use Rattle.c99_grammar.specs.Standard.{Grammar}
use Rattle.c99_read.specs.Reading.{Goal, produce, repeat, deepest}
use Rattle.c99_read.specs.State.{collapses, finished}
use Rattle.c99_read.specs.Sound.{never_empty, has_token, is_sound, IsSound, goal_has_token}
use Rattle.reordered_text_laws.proofs.Found.{stopped, found_is}
use Rattle.reordered_text_laws.specs.ByClasses.{joined, tokens_of, Taken, taken, then_read, behind_children, child_of, as_child, may_read, read_item, read_first, read_goal, read_by_classes}

abbrev pub has_any : List ℕ → Bool
has_any [] = false
has_any (i ∷ more) = true

pub any_front : (xs ys : List ℕ) → has_any xs ≡ true → has_any (xs ++ ys) ≡ true
any_front [] ys e = absurd (false≢true e)
any_front (i ∷ xs) ys e = refl

pub any_back : (xs ys : List ℕ) → has_any ys ≡ true → has_any (xs ++ ys) ≡ true
any_back [] ys e = e
any_back (i ∷ xs) ys e = refl

-- ---- Tokens of children

pub tokens_of-joined : (a b : Forest) → tokens_of (joined a b) ≡ tokens_of a ++ tokens_of b
tokens_of-joined none b = refl
tokens_of-joined (token i rest) b = ap (λ xs. i ∷ xs) (tokens_of-joined rest b)
tokens_of-joined (node l first under rest) b =
    ap (λ xs. tokens_of under ++ xs) (tokens_of-joined rest b) ∙ sym (append_assoc (tokens_of under) (tokens_of rest) (tokens_of b))

lone-tokens : (f : Forest) (n : Node) → n.under ≡ f → tokens_of (lone f n).under ≡ tokens_of f
lone-tokens none n e = ap tokens_of e
lone-tokens (token i rest) n e = ap tokens_of e
lone-tokens (node l first under none) n e = sym (append-nil (tokens_of under))
lone-tokens (node l first under (token i rest)) n e = ap tokens_of e
lone-tokens (node l first under (node m second below rest)) n e = ap tokens_of e

finished-tokens : (c : Bool) (n : Node) → tokens_of (if c then collapsed n else n).under ≡ tokens_of n.under
finished-tokens true n = lone-tokens n.under n refl
finished-tokens false n = refl

pub tokens_of-child : (p : Production) (n : ℕ) (f : Forest) → tokens_of (child_of p n f) ≡ tokens_of f
tokens_of-child p n f =
    append-nil (tokens_of (finished p (node_of (record { production = p; alternative = n }) 0 f)).under)
    ∙ finished-tokens (collapses p) (node_of (record { production = p; alternative = n }) 0 f)

-- ---- Readings

-- a reading of these tokens, which took one where it had to
abbrev pub Whole : Bool → List ℕ → Option Taken → Type 0
Whole has xs None = Unit {0}
Whole has xs (Some t) = (xs ≡ tokens_of t.read ++ t.left) × (has ≡ true → has_any (tokens_of t.read) ≡ true)

weaker : (h h' : Bool) (xs : List ℕ) (r : Option Taken) → (h' ≡ true → h ≡ true) → Whole h xs r → Whole h' xs r
weaker h h' xs None f w = tt
weaker h h' xs (Some t) f w = (w.0, λ e. w.1 (f e))

whole_if : (has : Bool) (xs : List ℕ) (c : Bool) (r r' : Option Taken) → Whole has xs r → Whole has xs r' → Whole has xs (if c then r else r')
whole_if has xs true r r' w w' = w
whole_if has xs false r r' w w' = w'

whole_then : (h k : Bool) (xs : List ℕ) (r : Option Taken) (f : List ℕ → Option Taken) → Whole h xs r → ((ys : List ℕ) → Whole k ys (f ys))
    → Whole (h || k) xs (then_read r f)
whole_then h k xs None f w v = tt
whole_then h k xs (Some t) f w v = by (f t.left) (v t.left)
  where
    by : (r : Option Taken) → Whole k t.left r → Whole (h || k) xs (behind_children t.read r)
    by None u = tt
    by (Some b) u = (
      w.0 ∙ (ap (λ ys. tokens_of t.read ++ ys) u.0 ∙ (sym (append_assoc (tokens_of t.read) (tokens_of b.read) b.left)
          ∙ ap (λ ys. ys ++ b.left) (sym (tokens_of-joined t.read b.read)))),
      λ e. elim (or_cases h k e) [
        | inl x ↦ ap has_any (tokens_of-joined t.read b.read) ∙ any_front (tokens_of t.read) (tokens_of b.read) (w.1 x)
        | inr y ↦ ap has_any (tokens_of-joined t.read b.read) ∙ any_back (tokens_of t.read) (tokens_of b.read) (u.1 y)
      ],
    )

whole_child : (has : Bool) (p : Production) (n : ℕ) (xs : List ℕ) (r : Option Taken) → Whole has xs r → Whole has xs (as_child p n r)
whole_child has p n xs None w = tt
whole_child has p n xs (Some t) w = (
  w.0 ∙ ap (λ ys. ys ++ t.left) (sym (tokens_of-child p n t.read)),
  λ e. ap has_any (tokens_of-child p n t.read) ∙ w.1 e,
)

whole_one : (classes : List Class) (c : Bool) (i : ℕ) (more : List ℕ) → Whole true (i ∷ more) (if c then Some (taken (token i none) more) else None)
whole_one classes true i more = (refl, λ e. refl)
whole_one classes false i more = tt

whole_still : (xs : List ℕ) → Whole false xs (Some (taken none xs))
whole_still xs = (refl, λ e. absurd (false≢true e))

module _ (g : Grammar) (class_of : ℕ → Class) where
  module _ (below : ℕ → Goal → List ℕ → Option Taken) (wholes : (depth : ℕ) (goal : Goal) (xs : List ℕ) → Whole (goal_has_token goal) xs (below depth goal xs)) where
    whole_item : (item : Item) (depth : ℕ) (xs : List ℕ) → Whole (has_token item) xs (read_item g class_of below depth item xs)
    whole_item (one classes) depth [] = tt
    whole_item (one classes) depth (i ∷ more) = whole_one classes (among classes (class_of i)) i more
    whole_item (part p) depth xs = wholes depth (produce p) xs
    whole_item end_of_text depth [] = whole_still []
    whole_item end_of_text depth (i ∷ more) = tt
    whole_item (act a) depth xs = whole_still xs
    whole_item (a · b) depth xs =
        whole_then (has_token a) (has_token b) xs _ (read_item g class_of below depth b) (whole_item a depth xs) (λ ys. whole_item b depth ys)
    whole_item (choice a b) depth xs =
        whole_if _ xs (may_read g class_of own a xs) _ _
        (weaker (has_token a) _ xs _ (λ e. (and_parts (has_token a) (has_token b) e).0) (whole_item a depth xs))
        (whole_if _ xs (may_read g class_of own b xs) _ _
        (weaker (has_token b) _ xs _ (λ e. (and_parts (has_token a) (has_token b) e).1) (whole_item b depth xs)) tt)
    whole_item (maybe a) depth xs =
        whole_if _ xs (may_read g class_of own a xs) _ _ (weaker (has_token a) false xs _ (λ e. absurd (false≢true e)) (whole_item a depth xs)) (whole_still xs)
    whole_item (many t a) depth xs =
        whole_if _ xs (may_read g class_of t a xs) _ _
        (weaker (has_token a || false) false xs _ (λ e. absurd (false≢true e))
        (whole_then (has_token a) false xs _ (below depth (repeat t a)) (whole_item a depth xs) (λ ys. wholes depth (repeat t a) ys)))
        (whole_still xs)
    whole_item (deep a) depth xs = whole_if _ xs (may_read g class_of own a xs && nat_lt depth deepest) _ _ (whole_item a (depth + 1) xs) tt

    has_a_token : (e h : Bool) → (not e || h) ≡ true → e ≡ true → h ≡ true
    has_a_token true h q w = q
    has_a_token false h q w = absurd (false≢true w)

    whole_first : (p : Production) (alternatives : List Alternative) (depth n : ℕ) (xs : List ℕ) → list_all (is_sound p) alternatives ≡ true
        → Whole (never_empty p) xs (read_first g class_of below depth p n alternatives xs)
    whole_first p [] depth n xs h = tt
    whole_first p (a ∷ more) depth n xs h =
        let both = and_parts (is_sound p a) (list_all (is_sound p) more) h in
        let has = (and_parts _ (not (never_empty p) || has_token a.body) both.0).1 in
        whole_if _ xs (may_read g class_of a.test a.body xs) _ _
        (whole_child (never_empty p) p n xs _ (weaker (has_token a.body) (never_empty p) xs _ (has_a_token (never_empty p) (has_token a.body) has) (whole_item a.body depth xs)))
        (whole_first p more depth (n + 1) xs both.1)

    whole_goal : IsSound g → (depth : ℕ) (goal : Goal) (xs : List ℕ) → Whole (goal_has_token goal) xs (read_goal g class_of below depth goal xs)
    whole_goal sound depth (produce p) xs = whole_first p (g.table p) depth 1 xs (sound.sound p)
    whole_goal sound depth (repeat t a) xs = whole_item (many t a) depth xs

  pub whole_reading : IsSound g → (fuel depth : ℕ) (goal : Goal) (xs : List ℕ) → Whole (goal_has_token goal) xs (read_by_classes g class_of fuel depth goal xs)
  unfolding read_by_classes
  whole_reading sound zero depth goal xs = tt
  whole_reading sound (suc fuel) depth goal xs = whole_goal (read_by_classes g class_of fuel) (whole_reading sound fuel) sound depth goal xs

  pub whole_part : IsSound g → (fuel : ℕ) (item : Item) (depth : ℕ) (xs : List ℕ)
      → Whole (has_token item) xs (read_item g class_of (read_by_classes g class_of fuel) depth item xs)
  whole_part sound fuel item depth xs = whole_item (read_by_classes g class_of fuel) (whole_reading sound fuel) item depth xs

pub whole_is : (has : Bool) (xs : List ℕ) (r : Option Taken) (t : Taken) → r ≡ Some t → Whole has xs r
    → (xs ≡ tokens_of t.read ++ t.left) × (has ≡ true → has_any (tokens_of t.read) ≡ true)
whole_is has xs r t e w = by r e w
  where
    by : (r : Option Taken) → r ≡ Some t → Whole has xs r → (xs ≡ tokens_of t.read ++ t.left) × (has ≡ true → has_any (tokens_of t.read) ≡ true)
    by None e w = absurd (stopped t e)
    by (Some u) e w = subst (λ (x : Taken). (xs ≡ tokens_of x.read ++ x.left) × (has ≡ true → has_any (tokens_of x.read) ≡ true)) (found_is u t e) w
