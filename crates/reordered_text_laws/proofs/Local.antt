-- What is read of an item of a list is read wherever it stands, if what ends the item stands behind it.
use Rattle.std.proofs.Common.{ℕ, suc, zero, ◌+◌, ◌≡◌, Bool, true, false, ◌&&◌, ◌||◌, if◌then◌else◌, List, [], ◌∷◌, ◌++◌, Option, None, Some, nat_lt, refl, sym, ap, subst, ◌∙◌}
use Rattle.std.specs.List.{list_all}
use Rattle.std.proofs.lemmas.Bool.{false≢true, and_parts}
use Rattle.std.proofs.lemmas.List.{append_assoc}
use Rattle.c99_tree.specs.Tree.{none, token}
use Rattle.c99_tree.specs.declared.production.Production.{Production}
use Rattle.c99_grammar.specs.declared.classes.Class.{Class}
use Rattle.c99_grammar.specs.Classes.{among}
use Rattle.c99_grammar.specs.Items.{Item, one, part, end_of_text, act, ◌·◌, choice, maybe, many, deep, own, Test, Alternative}
use Rattle.c99_grammar.specs.Standard.{Grammar}
use Rattle.c99_read.specs.Reading.{Goal, produce, repeat, deepest}
use Rattle.c99_read.specs.Sound.{never_empty, has_token, IsSound, goal_has_token}
use Rattle.reordered_text_laws.specs.ByClasses.{joined, tokens_of, Taken, taken, then_read, as_child, may_read, read_one, read_item, read_first, read_by_classes}
use Rattle.reordered_text_laws.proofs.Found.{stopped, found_is, between, then_is, if_yes, inner_is, same_branch}
use Rattle.reordered_text_laws.proofs.Whole.{has_any, tokens_of-joined, tokens_of-child, whole_reading, whole_part, whole_is}
use Rattle.reordered_text_laws.proofs.Stops.{test_alike, item_alike, alternative_alike, never, closes, Kin, kin_front, may_alike}

-- What a table says, so that items are read alike wherever they stand: tests do not tell a comma from a parenthesis, and
-- `ending` are productions that may end an item.
pub record Tells (g : Grammar) (ending : Production → Bool) : Type 0 where
  pub sound : IsSound g
  pub alike : (p : Production) → never_empty p ≡ true → list_all (alternative_alike g) (g.table p) ≡ true
  pub closing : (p : Production) → ending p ≡ true → list_all (λ a. closes g ending a.body) (g.table p) ≡ true

one_taken : (c : Bool) (i : ℕ) (more : List ℕ) (t : Taken) → (if c then Some (taken (token i none) more) else None) ≡ Some t → (c ≡ true) × (token i none ≡ t.read)
one_taken true i more t e = (refl, ap (λ (u : Taken). u.read) (found_is (taken (token i none) more) t e))
one_taken false i more t e = absurd (stopped t e)

pub ends_first : (k c : Bool) (ts : List ℕ) → has_any ts ≡ false → (k ≡ true → has_any ts ≡ true) → (k || c) ≡ true → c ≡ true
ends_first true c ts x f e = absurd (false≢true (sym x ∙ f refl))
ends_first false c ts x f e = e

module _ (g : Grammar) (ending : Production → Bool) (tells : Tells g ending) (class_of : ℕ → Class) where
  abbrev reads : ℕ → ℕ → Goal → List ℕ → Option Taken
  reads = read_by_classes g class_of

  abbrev item_read : ℕ → ℕ → Item → List ℕ → Option Taken
  item_read fuel = read_item g class_of (reads fuel)

  -- the goal may end an item
  abbrev pub goal_closes : Goal → Bool
  goal_closes (produce p) = ending p
  goal_closes (repeat t a) = closes g ending (many t a)

  abbrev pub goal_alike : Goal → Bool
  goal_alike (produce p) = never_empty p
  goal_alike (repeat t a) = item_alike g (many t a)

  -- what was read is read with other tokens behind it
  abbrev pub Locals : ℕ → Type 0
  Locals fuel =
      (depth : ℕ) (goal : Goal) (xs : List ℕ) (t : Taken) (zs : List ℕ) → goal_alike goal ≡ true → Kin g class_of (goal_closes goal ≡ true) t.left zs
      → reads fuel depth goal xs ≡ Some t → reads fuel depth goal (tokens_of t.read ++ zs) ≡ Some (taken t.read zs)

  -- the text is what was read and what is left
  pub item_text : (fuel depth : ℕ) (item : Item) (xs : List ℕ) (t : Taken) → item_read fuel depth item xs ≡ Some t
      → (xs ≡ tokens_of t.read ++ t.left) × (has_token item ≡ true → has_any (tokens_of t.read) ≡ true)
  item_text fuel depth item xs t e = whole_is (has_token item) xs _ t e (whole_part g class_of tells.sound fuel item depth xs)

  pub goal_text : (fuel depth : ℕ) (goal : Goal) (xs : List ℕ) (t : Taken) → reads fuel depth goal xs ≡ Some t
      → (xs ≡ tokens_of t.read ++ t.left) × (goal_has_token goal ≡ true → has_any (tokens_of t.read) ≡ true)
  goal_text fuel depth goal xs t e = whole_is (goal_has_token goal) xs _ t e (whole_reading g class_of tells.sound fuel depth goal xs)

  -- a test at the beginning of what was read says the same
  test_kin : (e : Type 0) (t : Test) (a : Item) (xs : List ℕ) (u : Taken) (zs : List ℕ) → test_alike g t ≡ true → item_alike g a ≡ true
      → xs ≡ tokens_of u.read ++ u.left → (has_any (tokens_of u.read) ≡ false → e → never g t a ≡ true) → Kin g class_of e u.left zs
      → may_read g class_of t a (tokens_of u.read ++ zs) ≡ may_read g class_of t a xs
  test_kin e t a xs u zs h k is f kin =
      sym (ap (may_read g class_of t a) is
      ∙ may_alike g class_of t a (tokens_of u.read ++ u.left) (tokens_of u.read ++ zs) h k
      (kin_front g class_of e (never g t a ≡ true) (tokens_of u.read) u.left zs f kin))

  kin_less : (e e' : Type 0) (ys zs : List ℕ) → (e → e') → Kin g class_of e ys zs → Kin g class_of e' ys zs
  kin_less e e' ys zs f kin = kin_front g class_of e e' [] ys zs (λ x. f) kin

  module _ (fuel : ℕ) (locals : Locals fuel) where
    local_one : (classes : List Class) (xs : List ℕ) (t : Taken) (zs : List ℕ) → read_one g class_of classes xs ≡ Some t
        → read_one g class_of classes (tokens_of t.read ++ zs) ≡ Some (taken t.read zs)
    local_one classes [] t zs e = absurd (stopped t e)
    local_one classes (i ∷ more) t zs e =
        let both = one_taken (among classes (class_of i)) i more t e in
        subst (λ f. read_one g class_of classes (tokens_of f ++ zs) ≡ Some (taken f zs)) both.1
        (if_yes (among classes (class_of i)) (Some (taken (token i none) zs)) None both.0)

    still : (r : List ℕ → Option Taken) (xs : List ℕ) (t : Taken) (zs : List ℕ) → Some (taken none xs) ≡ Some t → r zs ≡ Some (taken none zs)
        → r (tokens_of t.read ++ zs) ≡ Some (taken t.read zs)
    still r xs t zs e h =
        subst (λ f. r (tokens_of f ++ zs) ≡ Some (taken f zs)) (ap (λ (u : Taken). u.read) (found_is (taken none xs) t e)) h

    -- one reading behind another
    local_then : (r f : List ℕ → Option Taken) (xs : List ℕ) (t : Taken) (zs : List ℕ) → then_read (r xs) f ≡ Some t
        → ((u v : Taken) → r xs ≡ Some u → f u.left ≡ Some v → v.left ≡ t.left
        → (r (tokens_of u.read ++ (tokens_of v.read ++ zs)) ≡ Some (taken u.read (tokens_of v.read ++ zs))) × (f (tokens_of v.read ++ zs) ≡ Some (taken v.read zs)))
        → then_read (r (tokens_of t.read ++ zs)) f ≡ Some (taken t.read zs)
    local_then r f xs t zs e h =
        let m = between (r xs) f t e in
        let u : Taken = m.first in
        let v : Taken = m.second in
        let both = h u v m.reads m.more (ap (λ (w : Taken). w.left) m.whole) in
        let first : r (tokens_of (joined u.read v.read) ++ zs) ≡ Some (taken u.read (tokens_of v.read ++ zs)) =
        ap r (ap (λ ys. ys ++ zs) (tokens_of-joined u.read v.read) ∙ append_assoc (tokens_of u.read) (tokens_of v.read) zs) ∙ both.0 in
        subst (λ k. then_read (r (tokens_of k ++ zs)) f ≡ Some (taken k zs)) (ap (λ (w : Taken). w.read) m.whole)
        (then_is (r (tokens_of (joined u.read v.read) ++ zs)) f (taken u.read (tokens_of v.read ++ zs)) (taken v.read zs) first both.1)

    local_item : (item : Item) (depth : ℕ) (xs : List ℕ) (t : Taken) (zs : List ℕ) → item_alike g item ≡ true
        → Kin g class_of (closes g ending item ≡ true) t.left zs
        → item_read fuel depth item xs ≡ Some t → item_read fuel depth item (tokens_of t.read ++ zs) ≡ Some (taken t.read zs)
    local_item (one classes) depth xs t zs h kin e = local_one classes xs t zs e
    local_item (part p) depth xs t zs h kin e = locals depth (produce p) xs t zs (and_parts (never_empty p) _ h).0 kin e
    local_item end_of_text depth xs t zs h kin e = absurd (false≢true h)
    local_item (act a) depth xs t zs h kin e = still (item_read fuel depth (act a)) xs t zs e refl
    local_item (a · b) depth xs t zs h kin e =
        let both = and_parts (item_alike g a) (item_alike g b) h in
        local_then (item_read fuel depth a) (item_read fuel depth b) xs t zs e
        (λ u v e' e'' left.
        let text = item_text fuel depth b u.left v e'' in
        let kin' : Kin g class_of (closes g ending (a · b) ≡ true) v.left zs = subst (λ ys. Kin g class_of (closes g ending (a · b) ≡ true) ys zs) (sym left) kin in (
          local_item a depth xs u (tokens_of v.read ++ zs) both.0
              (subst (λ ys. Kin g class_of (closes g ending a ≡ true) ys (tokens_of v.read ++ zs)) (sym text.0)
              (kin_front g class_of (closes g ending (a · b) ≡ true) (closes g ending a ≡ true) (tokens_of v.read) v.left zs
              (λ x y. ends_first (has_token b) (closes g ending a) (tokens_of v.read) x text.1 (and_parts (closes g ending b) (has_token b || closes g ending a) y).1) kin')) e',
          local_item b depth u.left v zs both.1
              (kin_less (closes g ending (a · b) ≡ true) (closes g ending b ≡ true) v.left zs (λ y. (and_parts (closes g ending b) (has_token b || closes g ending a) y).0) kin') e'',
        ))
    local_item (choice a b) depth xs t zs h kin e =
        let both = and_parts (item_alike g a) (item_alike g b) h in
        let text = item_text fuel depth (choice a b) xs t e in
        let ys : List ℕ = tokens_of t.read ++ zs in
        let no_a : closes g ending (choice a b) ≡ true → never g own a ≡ true = λ y. (and_parts (never g own a) (never g own b && (closes g ending a && closes g ending b)) y).0 in
        let rest : closes g ending (choice a b) ≡ true → (never g own b && (closes g ending a && closes g ending b)) ≡ true
        = λ y. (and_parts (never g own a) (never g own b && (closes g ending a && closes g ending b)) y).1 in
        let no_b : closes g ending (choice a b) ≡ true → never g own b ≡ true = λ y. (and_parts (never g own b) (closes g ending a && closes g ending b) (rest y)).0 in
        let last : closes g ending (choice a b) ≡ true → (closes g ending a && closes g ending b) ≡ true
        = λ y. (and_parts (never g own b) (closes g ending a && closes g ending b) (rest y)).1 in
        let same_a = test_kin (closes g ending (choice a b) ≡ true) own a xs t zs refl both.0 text.0 (λ x. no_a) kin in
        let same_b = test_kin (closes g ending (choice a b) ≡ true) own b xs t zs refl both.1 text.0 (λ x. no_b) kin in
        let kin_a = kin_less (closes g ending (choice a b) ≡ true) (closes g ending a ≡ true) t.left zs (λ y. (and_parts (closes g ending a) (closes g ending b) (last y)).0) kin in
        let kin_b = kin_less (closes g ending (choice a b) ≡ true) (closes g ending b ≡ true) t.left zs (λ y. (and_parts (closes g ending a) (closes g ending b) (last y)).1) kin in
        same_branch (may_read g class_of own a xs) (may_read g class_of own a ys)
        (item_read fuel depth a xs) (if may_read g class_of own b xs then item_read fuel depth b xs else None)
        (item_read fuel depth a ys) (if may_read g class_of own b ys then item_read fuel depth b ys else None) t (Some (taken t.read zs)) same_a
        (λ c e'. local_item a depth xs t zs both.0 kin_a e')
        (λ c e'.
        same_branch (may_read g class_of own b xs) (may_read g class_of own b ys) (item_read fuel depth b xs) None (item_read fuel depth b ys) None t (Some (taken t.read zs)) same_b
        (λ d e''. local_item b depth xs t zs both.1 kin_b e'') (λ d e''. absurd (stopped t e'')) e')
        e
    local_item (maybe a) depth xs t zs h kin e =
        let text = item_text fuel depth (maybe a) xs t e in
        let ys : List ℕ = tokens_of t.read ++ zs in
        let same = test_kin (closes g ending (maybe a) ≡ true) own a xs t zs refl h text.0 (λ x y. (and_parts (never g own a) (closes g ending a) y).0) kin in
        let kin_a = kin_less (closes g ending (maybe a) ≡ true) (closes g ending a ≡ true) t.left zs (λ y. (and_parts (never g own a) (closes g ending a) y).1) kin in
        same_branch (may_read g class_of own a xs) (may_read g class_of own a ys) (item_read fuel depth a xs) (Some (taken none xs)) (item_read fuel depth a ys) (Some (taken none ys)) t
        (Some (taken t.read zs)) same
        (λ c e'. local_item a depth xs t zs h kin_a e')
        (λ c e'. still (λ us. Some (taken none us)) xs t zs e' refl)
        e
    local_item (many s a) depth xs t zs h kin e =
        let both = and_parts (test_alike g s) (item_alike g a) h in
        let text = item_text fuel depth (many s a) xs t e in
        let ys : List ℕ = tokens_of t.read ++ zs in
        let same = test_kin (closes g ending (many s a) ≡ true) s a xs t zs both.0 both.1 text.0 (λ x y. (and_parts (never g s a) (closes g ending a) y).0) kin in
        same_branch (may_read g class_of s a xs) (may_read g class_of s a ys)
        (then_read (item_read fuel depth a xs) (reads fuel depth (repeat s a))) (Some (taken none xs))
        (then_read (item_read fuel depth a ys) (reads fuel depth (repeat s a))) (Some (taken none ys)) t (Some (taken t.read zs)) same
        (λ c e'.
        local_then (item_read fuel depth a) (reads fuel depth (repeat s a)) xs t zs e'
        (λ u v f f' left.
        let behind = goal_text fuel depth (repeat s a) u.left v f' in
        let kin' : Kin g class_of (closes g ending (many s a) ≡ true) v.left zs = subst (λ us. Kin g class_of (closes g ending (many s a) ≡ true) us zs) (sym left) kin in (
          local_item a depth xs u (tokens_of v.read ++ zs) both.1
              (subst (λ us. Kin g class_of (closes g ending a ≡ true) us (tokens_of v.read ++ zs)) (sym behind.0)
              (kin_front g class_of (closes g ending (many s a) ≡ true) (closes g ending a ≡ true) (tokens_of v.read) v.left zs
              (λ x y. (and_parts (never g s a) (closes g ending a) y).1) kin')) f,
          locals depth (repeat s a) u.left v zs h kin' f',
        )))
        (λ c e'. still (λ us. Some (taken none us)) xs t zs e' refl)
        e
    local_item (deep a) depth xs t zs h kin e =
        let text = item_text fuel depth (deep a) xs t e in
        let ys : List ℕ = tokens_of t.read ++ zs in
        let same = test_kin (closes g ending (deep a) ≡ true) own a xs t zs refl h text.0 (λ x y. (and_parts (never g own a) (closes g ending a) y).0) kin in
        let kin_a = kin_less (closes g ending (deep a) ≡ true) (closes g ending a ≡ true) t.left zs (λ y. (and_parts (never g own a) (closes g ending a) y).1) kin in
        same_branch (may_read g class_of own a xs && nat_lt depth deepest) (may_read g class_of own a ys && nat_lt depth deepest)
        (item_read fuel (depth + 1) a xs) None (item_read fuel (depth + 1) a ys) None t (Some (taken t.read zs)) (ap (λ v. v && nat_lt depth deepest) same)
        (λ c e'. local_item a (depth + 1) xs t zs h kin_a e')
        (λ c e'. absurd (stopped t e'))
        e

    local_first : (p : Production) (alternatives : List Alternative) (depth n : ℕ) (xs : List ℕ) (t : Taken) (zs : List ℕ)
        → list_all (alternative_alike g) alternatives ≡ true → (ending p ≡ true → list_all (λ a. closes g ending a.body) alternatives ≡ true)
        → has_any (tokens_of t.read) ≡ true → xs ≡ tokens_of t.read ++ t.left → Kin g class_of (ending p ≡ true) t.left zs
        → read_first g class_of (reads fuel) depth p n alternatives xs ≡ Some t
        → read_first g class_of (reads fuel) depth p n alternatives (tokens_of t.read ++ zs) ≡ Some (taken t.read zs)
    local_first p [] depth n xs t zs h c some is kin e = absurd (stopped t e)
    local_first p (a ∷ more) depth n xs t zs h c some is kin e =
        let both = and_parts (alternative_alike g a) (list_all (alternative_alike g) more) h in
        let like = and_parts (test_alike g a.test) (item_alike g a.body) both.0 in
        let ys : List ℕ = tokens_of t.read ++ zs in
        let same = test_kin (ending p ≡ true) a.test a.body xs t zs like.0 like.1 is (λ x y. absurd (false≢true (sym x ∙ some))) kin in
        same_branch (may_read g class_of a.test a.body xs) (may_read g class_of a.test a.body ys)
        (as_child p n (item_read fuel depth a.body xs)) (read_first g class_of (reads fuel) depth p (n + 1) more xs)
        (as_child p n (item_read fuel depth a.body ys)) (read_first g class_of (reads fuel) depth p (n + 1) more ys) t (Some (taken t.read zs)) same
        (λ d e'.
        let m = inner_is p n (item_read fuel depth a.body xs) t e' in
        let u : Taken = m.inside in
        let kin' : Kin g class_of (closes g ending a.body ≡ true) u.left zs =
        subst (λ us. Kin g class_of (closes g ending a.body ≡ true) us zs) (sym (ap (λ (w : Taken). w.left) m.whole))
        (kin_less (ending p ≡ true) (closes g ending a.body ≡ true) t.left zs (λ y. (and_parts (closes g ending a.body) (list_all (λ b. closes g ending b.body) more) (c y)).0) kin) in
        let inside = local_item a.body depth xs u zs like.1 kin' m.reads in
        let tokens : tokens_of t.read ≡ tokens_of u.read = ap (λ (w : Taken). tokens_of w.read) (sym m.whole) ∙ tokens_of-child p n u.read in
        ap (λ us. as_child p n (item_read fuel depth a.body (us ++ zs))) tokens
        ∙ (ap (as_child p n) inside ∙ ap (λ (w : Taken). Some (taken w.read zs)) m.whole))
        (λ d e'. local_first p more depth (n + 1) xs t zs both.1 (λ y. (and_parts (closes g ending a.body) (list_all (λ b. closes g ending b.body) more) (c y)).1) some is kin e')
        e

  pub locally : (fuel : ℕ) → Locals fuel
  unfolding read_by_classes
  locally zero depth goal xs t zs h kin e = absurd (stopped t e)
  locally (suc fuel) depth (produce p) xs t zs h kin e =
      let text = goal_text (suc fuel) depth (produce p) xs t e in
      local_first fuel (locally fuel) p (g.table p) depth 1 xs t zs (tells.alike p h) (tells.closing p) (text.1 h) text.0 kin e
  locally (suc fuel) depth (repeat s a) xs t zs h kin e = local_item fuel (locally fuel) (many s a) depth xs t zs h kin e
