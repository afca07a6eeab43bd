-- What is read of an item or for a production is read with its lists in a new order, before what stands behind it alike.
use Rattle.std.proofs.Common.{ℕ, suc, ◌+◌, ◌≤◌, ◌≡◌, Bool, true, false, ◌&&◌, ◌||◌, if◌then◌else◌, List, [], ◌∷◌, ◌++◌, Option, None, Some, nat_lt, refl, sym, ap, subst, ◌∙◌, arith}
use Rattle.std.specs.List.{list_all}
use Rattle.std.proofs.lemmas.Bool.{false≢true, and_parts, and_from}
use Rattle.std.proofs.lemmas.List.{append_assoc}
use Rattle.c99_grammar.specs.declared.dialects.Dialect.TheVariants.{Iso}
use Rattle.c99_grammar.specs.declared.dialects.Edition.{Edition}
use Rattle.c99_tree.specs.Tree.{Forest, none, token}
use Rattle.c99_tree.specs.declared.production.Production.{Production}
use Rattle.c99_grammar.specs.declared.classes.Class.{Class}
use Rattle.c99_grammar.specs.Classes.{among}
use Rattle.c99_grammar.specs.Items.{Item, one, part, end_of_text, act, ◌·◌, choice, maybe, many, deep, own, Test, Alternative}
use Rattle.c99_grammar.specs.Standard.{Grammar, iso}
use Rattle.c99_read.specs.Reading.{Goal, produce, repeat, deepest}
use Rattle.c99_read.specs.Sound.{never_empty, has_token}
use Rattle.reordered_tree_laws.specs.Reordered.{is_among, permuted}
use Rattle.reordered_text_laws.specs.ByClasses.{joined, tokens_of, Taken, taken, then_read, child_of, as_child, may_read, read_item, read_first, read_by_classes}
use Rattle.reordered_text_laws.proofs.Found.{stopped, found_is, between, then_is, branch, if_yes, if_no, inner_is}
use Rattle.reordered_text_laws.proofs.Whole.{has_any, tokens_of-joined, tokens_of-child}
use Rattle.reordered_text_laws.proofs.Stops.{test_alike, item_alike, alternative_alike, never, closes}
use Rattle.reordered_text_laws.proofs.Local.{item_text, goal_text, ends_first}
use Rattle.reordered_text_laws.proofs.Orders.{one_comma}
use Rattle.reordered_text_laws.proofs.Later.{goal_on, item_on}
use Rattle.reordered_text_laws.proofs.Free.{free_test, free, tests_free}
use Rattle.reordered_text_laws.proofs.Tables.{ending, tells}
use Rattle.reordered_text_laws.proofs.Permuted.{labelled, permuted-joined, permuted-child, AreFull, full-joined}
use Rattle.reordered_text_laws.proofs.Near.{Front, shut, at_most, higher, most_itself, higher_first, higher_second, Near, near_more, near_joined, Beside, beside_less, beside_front, may_beside, Settled, alternative_same}
use Rattle.reordered_text_laws.proofs.Fronts.{production_front, item_front}

-- a reading in some number of steps
abbrev pub Sometime : (ℕ → Option Taken) → Taken → Type 0
Sometime r t = (n : ℕ) × (r n ≡ Some t)

abbrev pub Grows : (ℕ → List ℕ → Option Taken) → Type 0
Grows again = (n m : ℕ) (xs : List ℕ) (t : Taken) → n ≤ m → again n xs ≡ Some t → again m xs ≡ Some t

module _ (s : Edition) (class_of : ℕ → Class) (order : List ℕ) (lists : ℕ → Bool) where
  abbrev g : Grammar
  g = iso s

  abbrev reads : ℕ → ℕ → Goal → List ℕ → Option Taken
  reads = read_by_classes g class_of

  abbrev item_read : ℕ → ℕ → Item → List ℕ → Option Taken
  item_read fuel = read_item g class_of (reads fuel)

  -- with its lists in the new order
  abbrev pub new : Forest → Forest
  new f = permuted order lists false f

  -- what was read is read again so: as far as its beginning goes alike, and before what stands behind it alike
  pub record Anew (f : Front) (e : Type 0) (again : ℕ → List ℕ → Option Taken) (t : Taken) : Type 0 where
    pub near : Near class_of f (tokens_of t.read) (tokens_of (new t.read))
    pub goes : (zs : List ℕ) → Beside g class_of e t.left zs → Sometime (λ m. again m (tokens_of (new t.read) ++ zs)) (taken (new t.read) zs)

  pub anew_suc : (f : Front) (e : Type 0) (again : ℕ → List ℕ → Option Taken) (t : Taken) → Anew f e (λ m ys. again (suc m) ys) t → Anew f e again t
  anew_suc f e again t a = record { near = a.near; goes = λ zs b. (let r = a.goes zs b in (suc r.0, r.1)) }

  anew_still : (f : Front) (e : Type 0) (again : ℕ → List ℕ → Option Taken) (xs : List ℕ) (t : Taken) → Some (taken none xs) ≡ Some t
      → ((zs : List ℕ) → Beside g class_of e xs zs → Sometime (λ m. again m zs) (taken none zs)) → Anew f e again t
  anew_still f e again xs t is h = subst (Anew f e again) (found_is (taken none xs) t is) (record { near = tt; goes = h })

  -- one reading behind another
  anew_then : (f f' h : Front) (e e' e'' : Type 0) (again again' : ℕ → List ℕ → Option Taken) (t u v : Taken) → taken (joined u.read v.read) v.left ≡ t
      → u.left ≡ tokens_of v.read ++ v.left → at_most f h ≡ true → (has_any (tokens_of u.read) ≡ false → at_most f' h ≡ true)
      → (e'' → e') → (has_any (tokens_of v.read) ≡ false → e'' → e) → Grows again → Grows again' → Anew f e again u → Anew f' e' again' v
      → Anew h e'' (λ m ys. then_read (again m ys) (again' m)) t
  anew_then f f' h e e' e'' again again' t u v is text first second last both on on' a b =
      subst (Anew h e'' (λ m ys. then_read (again m ys) (again' m))) is (record { near = near; goes = goes })
    where
      old : tokens_of (joined u.read v.read) ≡ tokens_of u.read ++ tokens_of v.read
      old = tokens_of-joined u.read v.read

      tree : new (joined u.read v.read) ≡ joined (new u.read) (new v.read)
      tree = permuted-joined order lists false u.read v.read

      anew : tokens_of (new (joined u.read v.read)) ≡ tokens_of (new u.read) ++ tokens_of (new v.read)
      anew = ap tokens_of tree ∙ tokens_of-joined (new u.read) (new v.read)

      near : Near class_of h (tokens_of (joined u.read v.read)) (tokens_of (new (joined u.read v.read)))
      near =
          subst (λ xs. Near class_of h xs (tokens_of (new (joined u.read v.read)))) (sym old)
          (subst (λ ys. Near class_of h (tokens_of u.read ++ tokens_of v.read) ys) (sym anew)
          (near_joined class_of f f' h (tokens_of u.read) (tokens_of (new u.read)) (tokens_of v.read) (tokens_of (new v.read)) first second a.near b.near))

      goes : (zs : List ℕ) → Beside g class_of e'' v.left zs
          → Sometime (λ m. then_read (again m (tokens_of (new (joined u.read v.read)) ++ zs)) (again' m)) (taken (new (joined u.read v.read)) zs)
      goes zs k =
          let behind : List ℕ = tokens_of (new v.read) ++ zs in
          let q = b.goes zs (beside_less g class_of e'' e' v.left zs last k) in
          let p = a.goes behind (subst (λ ys. Beside g class_of e ys behind) (sym text)
          (beside_front g class_of e'' e f' (tokens_of v.read) (tokens_of (new v.read)) v.left zs both b.near k)) in
          let n : ℕ = p.0 + q.0 in (
            n,
            ap (λ xs. then_read (again n (xs ++ zs)) (again' n)) anew
                ∙ (ap (λ xs. then_read (again n xs) (again' n)) (append_assoc (tokens_of (new u.read)) (tokens_of (new v.read)) zs)
                ∙ (then_is (again n (tokens_of (new u.read) ++ behind)) (again' n) (taken (new u.read) behind) (taken (new v.read) zs)
                (on p.0 n (tokens_of (new u.read) ++ behind) (taken (new u.read) behind) (omega arith) p.1) (on' q.0 n behind (taken (new v.read) zs) (omega arith) q.1)
                ∙ ap (λ k. Some (taken k zs)) (sym tree))),
          )

  -- a test at the beginning of what was read says the same
  test : (e : Type 0) (f : Front) (t : Test) (a : Item) (xs : List ℕ) (u : Taken) (zs : List ℕ) → test_alike g t ≡ true → item_alike g a ≡ true → (free_test g t && free g a) ≡ true
      → xs ≡ tokens_of u.read ++ u.left → (has_any (tokens_of u.read) ≡ false → e → never g t a ≡ true) → Near class_of f (tokens_of u.read) (tokens_of (new u.read))
      → Beside g class_of e u.left zs → may_read g class_of t a (tokens_of (new u.read) ++ zs) ≡ may_read g class_of t a xs
  test e f t a xs u zs h k free is last near b =
      sym (ap (may_read g class_of t a) is
      ∙ may_beside g class_of t a (tokens_of u.read ++ u.left) (tokens_of (new u.read) ++ zs) h k free
      (beside_front g class_of e (never g t a ≡ true) f (tokens_of u.read) (tokens_of (new u.read)) u.left zs last near b))

  -- ---- Items

  abbrev pub goal_front : Goal → Front
  goal_front (produce p) = production_front p
  goal_front (repeat t a) = item_front a

  abbrev pub goal_closes : Goal → Type 0
  goal_closes (produce p) = ending p ≡ true
  goal_closes (repeat t a) = closes g ending (many t a) ≡ true

  abbrev pub goal_fine : Goal → Bool
  goal_fine (produce p) = never_empty p
  goal_fine (repeat t a) = item_alike g (many t a) && tests_free g (many t a)

  abbrev pub Goods : ℕ → Type 0
  Goods fuel =
      (depth : ℕ) (goal : Goal) (xs : List ℕ) (t : Taken) → goal_fine goal ≡ true → AreFull order lists false t.read → reads fuel depth goal xs ≡ Some t
      → Anew (goal_front goal) (goal_closes goal) (λ m ys. reads m depth goal ys) t

  first_front : (c : Bool) (f h : Front) → at_most f (if c then f else higher f h) ≡ true
  first_front true f h = most_itself f
  first_front false f h = higher_first f h

  second_front : (c : Bool) (f h : Front) (ts : List ℕ) → (c ≡ true → has_any ts ≡ true) → has_any ts ≡ false → at_most h (if c then f else higher f h) ≡ true
  second_front true f h ts k empty = absurd (false≢true (sym empty ∙ k refl))
  second_front false f h ts k empty = higher_second f h

  module _ (fuel : ℕ) (goods : Goods fuel) where
    abbrev Item_so : Item → ℕ → Taken → Type 0
    Item_so item depth t = Anew (item_front item) (closes g ending item ≡ true) (λ m ys. item_read m depth item ys) t

    anew_one : (L : List Class) (depth i : ℕ) (more : List ℕ) (t : Taken) → (if among L (class_of i) then Some (taken (token i none) more) else None) ≡ Some t → Item_so (one L) depth t
    anew_one L depth i more t e =
        let both = one_comma (among L (class_of i)) i more t e in
        subst (Item_so (one L) depth) both.1
        (record { near = refl; goes = λ zs b. (0, if_yes (among L (class_of i)) (Some (taken (token i none) zs)) None both.0) })

    pub anew_item : (item : Item) (depth : ℕ) (xs : List ℕ) (t : Taken) → item_alike g item ≡ true → tests_free g item ≡ true → AreFull order lists false t.read
        → item_read fuel depth item xs ≡ Some t → Item_so item depth t
    anew_item (one L) depth [] t h k full e = absurd (stopped t e)
    anew_item (one L) depth (i ∷ more) t h k full e = anew_one L depth i more t e
    anew_item (part p) depth xs t h k full e = goods depth (produce p) xs t (and_parts (never_empty p) _ h).0 full e
    anew_item end_of_text depth xs t h k full e = absurd (false≢true h)
    anew_item (act a) depth xs t h k full e =
        anew_still shut (closes g ending (act a) ≡ true) (λ m ys. item_read m depth (act a) ys) xs t e (λ zs b. (0, refl))
    anew_item (a · b) depth xs t h k full e =
        let both = and_parts (item_alike g a) (item_alike g b) h in
        let frees = and_parts (tests_free g a) (tests_free g b) k in
        let m = between (item_read fuel depth a xs) (item_read fuel depth b) t e in
        let parts = full-joined order lists false m.first.read m.second.read (subst (λ (w : Taken). AreFull order lists false w.read) (sym m.whole) full) in
        let text = item_text g ending (tells (Iso s)) class_of fuel depth a xs m.first m.reads in
        let text' = item_text g ending (tells (Iso s)) class_of fuel depth b m.first.left m.second m.more in
        anew_then (item_front a) (item_front b) (item_front (a · b)) (closes g ending a ≡ true) (closes g ending b ≡ true) (closes g ending (a · b) ≡ true)
        (λ n ys. item_read n depth a ys) (λ n ys. item_read n depth b ys) t m.first m.second m.whole text'.0
        (first_front (has_token a) (item_front a) (item_front b)) (second_front (has_token a) (item_front a) (item_front b) (tokens_of m.first.read) text.1)
        (λ y. (and_parts (closes g ending b) (has_token b || closes g ending a) y).0)
        (λ x y. ends_first (has_token b) (closes g ending a) (tokens_of m.second.read) x text'.1 (and_parts (closes g ending b) (has_token b || closes g ending a) y).1)
        (λ n n' ys u le f. item_on g class_of n n' depth a ys u le f) (λ n n' ys u le f. item_on g class_of n n' depth b ys u le f)
        (anew_item a depth xs m.first both.0 frees.0 parts.0 m.reads) (anew_item b depth m.first.left m.second both.1 frees.1 parts.1 m.more)
    anew_item (choice a b) depth xs t h k full e =
        let both = and_parts (item_alike g a) (item_alike g b) h in
        let asked = and_parts (free g a && free g b) (tests_free g a && tests_free g b) k in
        let frees = and_parts (free g a) (free g b) asked.0 in
        let tests = and_parts (tests_free g a) (tests_free g b) asked.1 in
        let text = item_text g ending (tells (Iso s)) class_of fuel depth (choice a b) xs t e in
        let c_all : Type 0 = closes g ending (choice a b) ≡ true in
        let no_a : c_all → never g own a ≡ true = λ y. (and_parts (never g own a) (never g own b && (closes g ending a && closes g ending b)) y).0 in
        let rest : c_all → (never g own b && (closes g ending a && closes g ending b)) ≡ true
        = λ y. (and_parts (never g own a) (never g own b && (closes g ending a && closes g ending b)) y).1 in
        let no_b : c_all → never g own b ≡ true = λ y. (and_parts (never g own b) (closes g ending a && closes g ending b) (rest y)).0 in
        let last : c_all → (closes g ending a && closes g ending b) ≡ true = λ y. (and_parts (never g own b) (closes g ending a && closes g ending b) (rest y)).1 in
        let less_a : c_all → closes g ending a ≡ true = λ y. (and_parts (closes g ending a) (closes g ending b) (last y)).0 in
        let less_b : c_all → closes g ending b ≡ true = λ y. (and_parts (closes g ending a) (closes g ending b) (last y)).1 in
        branch {P = Item_so (choice a b) depth t} (may_read g class_of own a xs) (item_read fuel depth a xs) (if may_read g class_of own b xs then item_read fuel depth b xs else None) t
        (λ c e'.
        let r = anew_item a depth xs t both.0 tests.0 full e' in
        record {
          near = near_more class_of (item_front a) (item_front (choice a b)) (tokens_of t.read) (tokens_of (new t.read)) (higher_first (item_front a) (item_front b)) r.near;
          goes = λ zs y. (
              let q = r.goes zs (beside_less g class_of c_all (closes g ending a ≡ true) t.left zs less_a y) in
              (q.0, if_yes (may_read g class_of own a (tokens_of (new t.read) ++ zs)) _ _ (test c_all (item_front a) own a xs t zs refl both.0 frees.0 text.0 (λ x. no_a) r.near y ∙ c) ∙ q.1));
        })
        (λ c e'.
        branch {P = Item_so (choice a b) depth t} (may_read g class_of own b xs) (item_read fuel depth b xs) None t
        (λ d e''.
        let r = anew_item b depth xs t both.1 tests.1 full e'' in
        record {
          near = near_more class_of (item_front b) (item_front (choice a b)) (tokens_of t.read) (tokens_of (new t.read)) (higher_second (item_front a) (item_front b)) r.near;
          goes = λ zs y. (
              let q = r.goes zs (beside_less g class_of c_all (closes g ending b ≡ true) t.left zs less_b y) in (
                q.0,
                if_no (may_read g class_of own a (tokens_of (new t.read) ++ zs)) _ _ (test c_all (item_front b) own a xs t zs refl both.0 frees.0 text.0 (λ x. no_a) r.near y ∙ c)
                    ∙ (if_yes (may_read g class_of own b (tokens_of (new t.read) ++ zs)) _ _ (test c_all (item_front b) own b xs t zs refl both.1 frees.1 text.0 (λ x. no_b) r.near y ∙ d) ∙ q.1),
              ));
        })
        (λ d e''. absurd (stopped t e'')) e')
        e
    anew_item (maybe a) depth xs t h k full e =
        let frees = and_parts (free g a) (tests_free g a) k in
        let c_all : Type 0 = closes g ending (maybe a) ≡ true in
        let no_a : c_all → never g own a ≡ true = λ y. (and_parts (never g own a) (closes g ending a) y).0 in
        let less_a : c_all → closes g ending a ≡ true = λ y. (and_parts (never g own a) (closes g ending a) y).1 in
        branch {P = Item_so (maybe a) depth t} (may_read g class_of own a xs) (item_read fuel depth a xs) (Some (taken none xs)) t
        (λ c e'.
        let text = item_text g ending (tells (Iso s)) class_of fuel depth a xs t e' in
        let r = anew_item a depth xs t h frees.1 full e' in
        record {
          near = r.near;
          goes = λ zs y. (
              let q = r.goes zs (beside_less g class_of c_all (closes g ending a ≡ true) t.left zs less_a y) in
              (q.0, if_yes (may_read g class_of own a (tokens_of (new t.read) ++ zs)) _ _ (test c_all (item_front a) own a xs t zs refl h frees.0 text.0 (λ x. no_a) r.near y ∙ c) ∙ q.1));
        })
        (λ c e'.
        anew_still (item_front a) c_all (λ m ys. item_read m depth (maybe a) ys) xs t e'
        (λ zs y. (0, if_no (may_read g class_of own a zs) _ _ (test c_all shut own a xs (taken none xs) zs refl h frees.0 refl (λ x. no_a) tt y ∙ c))))
        e
    anew_item (many q a) depth xs t h k full e =
        let both = and_parts (test_alike g q) (item_alike g a) h in
        let frees = and_parts (free_test g q && free g a) (tests_free g a) k in
        let c_all : Type 0 = closes g ending (many q a) ≡ true in
        let no_a : c_all → never g q a ≡ true = λ y. (and_parts (never g q a) (closes g ending a) y).0 in
        let less_a : c_all → closes g ending a ≡ true = λ y. (and_parts (never g q a) (closes g ending a) y).1 in
        branch {P = Item_so (many q a) depth t} (may_read g class_of q a xs) (then_read (item_read fuel depth a xs) (reads fuel depth (repeat q a))) (Some (taken none xs)) t
        (λ c e'.
        let text = item_text g ending (tells (Iso s)) class_of fuel depth (many q a) xs t e in
        let m = between (item_read fuel depth a xs) (reads fuel depth (repeat q a)) t e' in
        let parts = full-joined order lists false m.first.read m.second.read (subst (λ (w : Taken). AreFull order lists false w.read) (sym m.whole) full) in
        let behind = goal_text g ending (tells (Iso s)) class_of fuel depth (repeat q a) m.first.left m.second m.more in
        let r = anew_then (item_front a) (item_front a) (item_front a) (closes g ending a ≡ true) c_all c_all
        (λ n ys. item_read n depth a ys) (λ n ys. reads n depth (repeat q a) ys) t m.first m.second m.whole behind.0
        (most_itself (item_front a)) (λ x. most_itself (item_front a)) (λ y. y) (λ x y. less_a y)
        (λ n n' ys u le f. item_on g class_of n n' depth a ys u le f) (λ n n' ys u le f. goal_on g class_of n n' depth (repeat q a) ys u le f)
        (anew_item a depth xs m.first both.1 frees.1 parts.0 m.reads)
        (goods depth (repeat q a) m.first.left m.second (and_from (item_alike g (many q a)) (tests_free g (many q a)) h k) parts.1 m.more) in
        record {
          near = r.near;
          goes = λ zs y. (
              let p = r.goes zs y in
              (p.0, if_yes (may_read g class_of q a (tokens_of (new t.read) ++ zs)) _ _ (test c_all (item_front a) q a xs t zs both.0 both.1 frees.0 text.0 (λ x. no_a) r.near y ∙ c) ∙ p.1));
        })
        (λ c e'.
        anew_still (item_front a) c_all (λ m ys. item_read m depth (many q a) ys) xs t e'
        (λ zs y. (0, if_no (may_read g class_of q a zs) _ _ (test c_all shut q a xs (taken none xs) zs both.0 both.1 frees.0 refl (λ x. no_a) tt y ∙ c))))
        e
    anew_item (deep a) depth xs t h k full e =
        let frees = and_parts (free g a) (tests_free g a) k in
        let c_all : Type 0 = closes g ending (deep a) ≡ true in
        let no_a : c_all → never g own a ≡ true = λ y. (and_parts (never g own a) (closes g ending a) y).0 in
        let less_a : c_all → closes g ending a ≡ true = λ y. (and_parts (never g own a) (closes g ending a) y).1 in
        branch {P = Item_so (deep a) depth t} (may_read g class_of own a xs && nat_lt depth deepest) (item_read fuel (depth + 1) a xs) None t
        (λ c e'.
        let text = item_text g ending (tells (Iso s)) class_of fuel (depth + 1) a xs t e' in
        let r = anew_item a (depth + 1) xs t h frees.1 full e' in
        record {
          near = r.near;
          goes = λ zs y. (
              let q = r.goes zs (beside_less g class_of c_all (closes g ending a ≡ true) t.left zs less_a y) in (
                q.0,
                if_yes (may_read g class_of own a (tokens_of (new t.read) ++ zs) && nat_lt depth deepest) _ _
                    (ap (λ v. v && nat_lt depth deepest) (test c_all (item_front a) own a xs t zs refl h frees.0 text.0 (λ x. no_a) r.near y) ∙ c) ∙ q.1,
              ));
        })
        (λ c e'. absurd (stopped t e'))
        e

  -- ---- Nodes

  -- a child whose own children do not stand in a list in its parentheses
  pub anew_child : (f : Front) (e : Type 0) (again : ℕ → List ℕ → Option Taken) (p : Production) (n : ℕ) (u : Taken)
      → permuted order lists (is_among lists (labelled p n) u.read) u.read ≡ new u.read → Anew f e again u
      → Anew f e (λ m ys. as_child p n (again m ys)) (taken (child_of p n u.read) u.left)
  anew_child f e again p n u same a = record {
    near = subst (λ xs. Near class_of f xs (tokens_of (new (child_of p n u.read)))) (sym (tokens_of-child p n u.read))
        (subst (λ ys. Near class_of f (tokens_of u.read) ys) (sym anew) a.near);
    goes = λ zs b. (
        let q = a.goes zs b in (
          q.0,
          ap (λ ys. as_child p n (again q.0 (ys ++ zs))) anew ∙ (ap (as_child p n) q.1 ∙ ap (λ k. Some (taken k zs)) (sym tree)),
        ));
  }
    where
      tree : new (child_of p n u.read) ≡ child_of p n (new u.read)
      tree = permuted-child order lists p n u.read same

      anew : tokens_of (new (child_of p n u.read)) ≡ tokens_of (new u.read)
      anew = ap tokens_of tree ∙ tokens_of-child p n (new u.read)

  -- an alternative that is read becomes such a child
  abbrev pub Child_so : ℕ → Production → ℕ → Item → Type 0
  Child_so fuel p n body =
      (depth : ℕ) (xs : List ℕ) (u : Taken) → item_alike g body ≡ true → tests_free g body ≡ true → at_most (item_front body) (production_front p) ≡ true
      → AreFull order lists false (child_of p n u.read) → item_read fuel depth body xs ≡ Some u
      → Anew (production_front p) (closes g ending body ≡ true) (λ m ys. as_child p n (item_read m depth body ys)) (taken (child_of p n u.read) u.left)

  pub anew_less : (f h : Front) (e : Type 0) (again : ℕ → List ℕ → Option Taken) (t : Taken) → at_most f h ≡ true → Anew f e again t → Anew h e again t
  anew_less f h e again t le a = record { near = near_more class_of f h (tokens_of t.read) (tokens_of (new t.read)) le a.near; goes = a.goes }

  -- where the children stand in no such list
  pub child_itself : (fuel : ℕ) → Goods fuel → (p : Production) (n : ℕ) (body : Item) (depth : ℕ) (xs : List ℕ) (u : Taken) → item_alike g body ≡ true → tests_free g body ≡ true
      → at_most (item_front body) (production_front p) ≡ true → AreFull order lists false u.read
      → permuted order lists (is_among lists (labelled p n) u.read) u.read ≡ new u.read → item_read fuel depth body xs ≡ Some u
      → Anew (production_front p) (closes g ending body ≡ true) (λ m ys. as_child p n (item_read m depth body ys)) (taken (child_of p n u.read) u.left)
  child_itself fuel goods p n body depth xs u h k le full same e =
      anew_child (production_front p) (closes g ending body ≡ true) (λ m ys. item_read m depth body ys) p n u same
      (anew_less (item_front body) (production_front p) (closes g ending body ≡ true) (λ m ys. item_read m depth body ys) u le (anew_item fuel goods body depth xs u h k full e))

  -- all alternatives of a production
  abbrev pub Children : ℕ → Production → ℕ → List Alternative → Type 0
  Children fuel p n [] = Unit {0}
  Children fuel p n (a ∷ more) = Child_so fuel p n a.body × Children fuel p (n + 1) more

  abbrev pub AllSettled : Front → List Alternative → Type 0
  AllSettled f [] = Unit {0}
  AllSettled f (a ∷ more) = Settled g class_of f a × AllSettled f more

  module _ (fuel : ℕ) where
    abbrev First_so : Production → ℕ → List Alternative → ℕ → Taken → Type 0
    First_so p n alternatives depth t = Anew (production_front p) (ending p ≡ true) (λ m ys. read_first g class_of (reads m) depth p n alternatives ys) t

    pub anew_first : (p : Production) (alternatives : List Alternative) (depth n : ℕ) (xs : List ℕ) (t : Taken) → Children fuel p n alternatives → AllSettled (production_front p) alternatives
        → list_all (alternative_alike g) alternatives ≡ true → (ending p ≡ true → list_all (λ a. closes g ending a.body) alternatives ≡ true)
        → list_all (λ a. tests_free g a.body) alternatives ≡ true → list_all (λ a. at_most (item_front a.body) (production_front p)) alternatives ≡ true
        → AreFull order lists false t.read → has_any (tokens_of t.read) ≡ true → xs ≡ tokens_of t.read ++ t.left
        → read_first g class_of (reads fuel) depth p n alternatives xs ≡ Some t → First_so p n alternatives depth t
    anew_first p [] depth n xs t children settled h c k le full some is e = absurd (stopped t e)
    anew_first p (a ∷ more) depth n xs t children settled h c k le full some is e =
        let both = and_parts (alternative_alike g a) (list_all (alternative_alike g) more) h in
        let like = and_parts (test_alike g a.test) (item_alike g a.body) both.0 in
        let tests = and_parts (tests_free g a.body) (list_all (λ b. tests_free g b.body) more) k in
        let les = and_parts (at_most (item_front a.body) (production_front p)) (list_all (λ b. at_most (item_front b.body) (production_front p)) more) le in
        branch {P = First_so p n (a ∷ more) depth t} (may_read g class_of a.test a.body xs) (as_child p n (item_read fuel depth a.body xs))
        (read_first g class_of (reads fuel) depth p (n + 1) more xs) t
        (λ d e'.
        let m = inner_is p n (item_read fuel depth a.body xs) t e' in
        let r = subst (Anew (production_front p) (closes g ending a.body ≡ true) (λ j ys. as_child p n (item_read j depth a.body ys))) m.whole
        (children.0 depth xs m.inside like.1 tests.0 les.0 (subst (λ (w : Taken). AreFull order lists false w.read) (sym m.whole) full) m.reads) in
        record {
          near = r.near;
          goes = λ zs b. (
              let q = r.goes zs (beside_less g class_of (ending p ≡ true) (closes g ending a.body ≡ true) t.left zs (λ y. (and_parts (closes g ending a.body) (list_all (λ x. closes g ending x.body) more) (c y)).0) b) in
              (q.0, if_yes (may_read g class_of a.test a.body (tokens_of (new t.read) ++ zs)) _ _ (same zs r.near b both.0 ∙ d) ∙ q.1));
        })
        (λ d e'.
        let r = anew_first p more depth (n + 1) xs t children.1 settled.1 both.1 (λ y. (and_parts (closes g ending a.body) (list_all (λ x. closes g ending x.body) more) (c y)).1) tests.1 les.1 full some is e' in
        record {
          near = r.near;
          goes = λ zs b. (
              let q = r.goes zs b in
              (q.0, if_no (may_read g class_of a.test a.body (tokens_of (new t.read) ++ zs)) _ _ (same zs r.near b both.0 ∙ d) ∙ q.1));
        })
        e
      where
        same : (zs : List ℕ) → Near class_of (production_front p) (tokens_of t.read) (tokens_of (new t.read)) → Beside g class_of (ending p ≡ true) t.left zs → alternative_alike g a ≡ true
            → may_read g class_of a.test a.body (tokens_of (new t.read) ++ zs) ≡ may_read g class_of a.test a.body xs
        same zs near b like =
            sym (ap (may_read g class_of a.test a.body) is
            ∙ alternative_same g class_of (ending p ≡ true) (production_front p) a (tokens_of t.read) (tokens_of (new t.read)) t.left zs settled.0 like some near b)
