-- What a declaration is told of behind a list in two orders of its items: the same, where each item by itself tells the same and only
-- members are found in two of them.
use Rattle.std.proofs.Common.{ℕ, ◌+◌, ◌-◌, ◌<◌, ◌≤◌, ◌≡◌, Bool, true, false, ◌==◌, List, [], ◌∷◌, ◌++◌, length, map, get_or, cond, Option, None, Some, ◌⊎◌, inl, inr, refl, sym, ap, subst, ◌∙◌, arith, append-nil}
use Rattle.std.specs.Prelude.{filter, find, nat_lt}
use Rattle.std.specs.List.{All}
use Rattle.std.proofs.lemmas.Bool.{cases_Bool, eqb-true, eqb-false, ltb-true, ltb-false}
use Rattle.std.proofs.lemmas.List.{get_or_past}
use Rattle.std.proofs.lemmas.List.Elements.{All-nil, All-cons, All-head, All-tail, All-append, All-filter, filter_passes, filter-append}
use Rattle.std.proofs.lemmas.List.Sorted.{IsPermutation-sym, All-permutation}
use Rattle.c_types.specs.declared.entity.EntityKind.TheVariants.{Member}
use Rattle.c_types.specs.declared.entity.Linkage.TheVariants.{Absent}
use Rattle.scope_bind.specs.Named.{Declaration}
use Rattle.list_cuts.specs.Cuts.{numbers, IsOrder}
use Rattle.list_cuts.proofs.OrderLemmas.{length-numbers, get_or-numbers}
use Rattle.reordered_tree_laws.specs.Moving.{AreToldAlike}
use Rattle.reordered_tree_laws.proofs.MovedPlaces.{bit, hits}
use Rattle.reordered_tree_laws.specs.Siblings.{Gain, gained}
use Rattle.reordered_tree_laws.proofs.Stacks.{stacked, IsOneAtMost, numbered_all}
use Rattle.reordered_tree_laws.proofs.TwoOrders.{no_gain, gain_at, Each, gained_in_order}

-- ---- The first that passes

abbrev first : List Declaration → Option Declaration
first [] = None
first (d ∷ ds) = Some d

module _ (P : Declaration → Bool) where
  find_first : (xs : List Declaration) → find P xs ≡ first (filter P xs)
  find_first [] = refl
  find_first (x ∷ xs) = by (P x) (find_first xs)
    where
      by : (c : Bool) → find P xs ≡ first (filter P xs) → cond c (Some x) (find P xs) ≡ first (cond c (x ∷ filter P xs) (filter P xs))
      by true e = refl
      by false e = e

  nothing_found : (xs : List Declaration) → find P xs ≡ None → filter P xs ≡ []
  nothing_found xs e = by (filter P xs) (sym (find_first xs) ∙ e)
    where
      by : (ys : List Declaration) → first ys ≡ None → ys ≡ []
      by [] h = refl
      by (y ∷ ys) h = absurd cc

  none_in : (xs ys : List Declaration) → filter P xs ≡ [] → find P (xs ++ ys) ≡ find P ys
  none_in xs ys e =
      find_first (xs ++ ys)
      ∙ (ap first (filter-append P xs ys) ∙ (ap (λ (l : List Declaration). first (l ++ filter P ys)) e ∙ sym (find_first ys)))

  one_in : (xs ys : List Declaration) (z : Declaration) (zs : List Declaration) → filter P xs ≡ z ∷ zs → find P (xs ++ ys) ≡ Some z
  one_in xs ys z zs e = find_first (xs ++ ys) ∙ (ap first (filter-append P xs ys) ∙ ap (λ (l : List Declaration). first (l ++ filter P ys)) e)

  -- what is so of those that pass is so of the first
  first_is : (T : Declaration → Type 0) (xs : List Declaration) (z : Declaration) (zs : List Declaration) → All (λ d. P d ≡ true → T d) xs → filter P xs ≡ z ∷ zs → T z
  first_is T xs z zs all e =
      let passes : All (λ d. P d ≡ true) (z ∷ zs) = subst (λ (l : List Declaration). All (λ d. P d ≡ true) l) e (filter_passes P xs) in
      let each : All (λ d. P d ≡ true → T d) (z ∷ zs) =
      subst (λ (l : List Declaration). All (λ d. P d ≡ true → T d) l) e (All-filter P (λ d. P d ≡ true → T d) xs all) in
      All-head (λ d. P d ≡ true → T d) z zs each (All-head (λ d. P d ≡ true) z zs passes)

  -- ---- What some items add

  gained_none : (gs : List Gain) → All (λ (g : Gain). filter P g.declared ≡ []) gs → filter P (gained gs) ≡ []
  gained_none [] h = refl
  gained_none (g ∷ gs) h =
      filter-append P (gained gs) g.declared
      ∙ (ap (λ (l : List Declaration). l ++ filter P g.declared) (gained_none gs (All-tail (λ (x : Gain). filter P x.declared ≡ []) g gs h))
      ∙ All-head (λ (x : Gain). filter P x.declared ≡ []) g gs h)

  both_none : (xs ys : List Declaration) → xs ++ ys ≡ [] → (xs ≡ []) × (ys ≡ [])
  both_none [] ys e = (refl, e)
  both_none (x ∷ xs) ys e = absurd cc

  none_gained : (gs : List Gain) → filter P (gained gs) ≡ [] → All (λ (g : Gain). filter P g.declared ≡ []) gs
  none_gained [] e = All-nil (λ (g : Gain). filter P g.declared ≡ [])
  none_gained (g ∷ gs) e =
      let p = both_none (filter P (gained gs)) (filter P g.declared) (sym (filter-append P (gained gs) g.declared) ∙ e) in
      All-cons (λ (x : Gain). filter P x.declared ≡ []) g gs p.1 (none_gained gs p.0)

  gained_all : (T : Declaration → Type 0) (gs : List Gain) → All (λ (g : Gain). All T g.declared) gs → All T (gained gs)
  gained_all T [] h = All-nil T
  gained_all T (g ∷ gs) h =
      All-append T (gained gs) g.declared (gained_all T gs (All-tail (λ (x : Gain). All T x.declared) g gs h)) (All-head (λ (x : Gain). All T x.declared) g gs h)

-- ---- Items by their numbers

all_mapped : (T : Gain → Type 0) (f : ℕ → Gain) (ks : List ℕ) → All (λ (k : ℕ). T (f k)) ks → All T (map f ks)
all_mapped T f [] h = All-nil T
all_mapped T f (k ∷ ks) h =
    All-cons T (f k) (map f ks) (All-head (λ (x : ℕ). T (f x)) k ks h) (all_mapped T f ks (All-tail (λ (x : ℕ). T (f x)) k ks h))

mapped_all : (T : Gain → Type 0) (f : ℕ → Gain) (ks : List ℕ) → All T (map f ks) → All (λ (k : ℕ). T (f k)) ks
mapped_all T f [] h = All-nil (λ (k : ℕ). T (f k))
mapped_all T f (k ∷ ks) h =
    All-cons (λ (x : ℕ). T (f x)) k ks (All-head T (f k) (map f ks) h) (mapped_all T f ks (All-tail T (f k) (map f ks) h))

module _ (gs : List Gain) (order : List ℕ) (is : IsOrder (length gs) order) where
  -- what is so of each item of an order is so of all, and the other way round
  by_order : (T : Gain → Type 0) → All (λ (k : ℕ). T (gain_at gs k)) order → All T gs
  by_order T h =
      subst (λ (l : List Gain). All T l) (numbered_all no_gain gs)
      (all_mapped T (gain_at gs) (numbers 1 (length gs))
      (All-permutation (λ (k : ℕ). T (gain_at gs k)) order (numbers 1 (length gs)) (IsPermutation-sym (numbers 1 (length gs)) order is) h))

  in_the_order : (T : Gain → Type 0) → All T gs → All (λ (k : ℕ). T (gain_at gs k)) order
  in_the_order T h =
      All-permutation (λ (k : ℕ). T (gain_at gs k)) (numbers 1 (length gs)) order is
      (mapped_all T (gain_at gs) (numbers 1 (length gs)) (subst (λ (l : List Gain). All T l) (sym (numbered_all no_gain gs)) h))

-- of each pair something is told of the first, or of the second
each_first : (R : ℕ → Gain → Type 0) (T : ℕ → Type 0) → ((k : ℕ) (b : Gain) → R k b → T k) → (ks : List ℕ) (bs : List Gain) → Each R ks bs → All T ks
each_first R T f [] [] h = All-nil T
each_first R T f (k ∷ ks) (b ∷ bs) h = All-cons T k ks (f k b h.0) (each_first R T f ks bs h.1)
each_first R T f [] (b ∷ bs) h = absurd h
each_first R T f (k ∷ ks) [] h = absurd h

each_second : (R : ℕ → Gain → Type 0) (T : Gain → Type 0) → ((k : ℕ) (b : Gain) → R k b → T b) → (ks : List ℕ) (bs : List Gain) → Each R ks bs → All T bs
each_second R T f [] [] h = All-nil T
each_second R T f (k ∷ ks) (b ∷ bs) h = All-cons T b bs (f k b h.0) (each_second R T f ks bs h.1)
each_second R T f [] (b ∷ bs) h = absurd h
each_second R T f (k ∷ ks) [] h = absurd h

module _ (order : List ℕ) (gs bs : List Gain) (is : IsOrder (length gs) order) (P Q : Declaration → Bool) (ds es : List Declaration) where
  -- an item by itself tells the same
  abbrev pub TellsAlike : ℕ → Gain → Type 0
  TellsAlike k b = AreToldAlike (find P ((gain_at gs k).declared ++ ds)) (find Q (b.declared ++ es))

  -- ---- Members

  abbrev pub IsMemberOf : Declaration → Type 0
  IsMemberOf d = (d.kind ≡ Member) × (d.linkage ≡ Absent)

  -- all that pass in an item are members
  abbrev pub TellMembers : ℕ → Gain → Type 0
  TellMembers k b = All (λ d. P d ≡ true → IsMemberOf d) (gain_at gs k).declared × All (λ d. Q d ≡ true → IsMemberOf d) b.declared

  record IsMemberFound (r : Option Declaration) : Type 0 where
    one : Declaration
    found : r ≡ Some one
    told : IsMemberOf one

  alike_second : (x : Declaration) (r : Option Declaration) → IsMemberOf x → AreToldAlike (Some x) r → IsMemberFound r
  alike_second x None told h = absurd h
  alike_second x (Some y) told h = record { one = y; found = refl; told = (h.0 ∙ told.0, h.1 ∙ told.1) }

  alike_first : (r : Option Declaration) (y : Declaration) → IsMemberOf y → AreToldAlike r (Some y) → IsMemberFound r
  alike_first None y told h = absurd h
  alike_first (Some x) y told h = record { one = x; found = refl; told = (sym h.0 ∙ told.0, sym h.1 ∙ told.1) }

  members_alike : (r q : Option Declaration) → IsMemberFound r → IsMemberFound q → AreToldAlike r q
  members_alike r q x y =
      subst (λ (z : Option Declaration). AreToldAlike r z) (sym y.found)
      (subst (λ (z : Option Declaration). AreToldAlike z (Some y.one)) (sym x.found) (y.told.0 ∙ sym x.told.0, y.told.1 ∙ sym x.told.1))

  -- an item of the old order has one, and none of the new order: then it was known in front of the list
  in_front_new : (ks : List ℕ) (cs : List Gain) → Each TellsAlike ks cs → Each TellMembers ks cs → All (λ (b : Gain). filter Q b.declared ≡ []) cs
      → All (λ (k : ℕ). filter P (gain_at gs k).declared ≡ []) ks ⊎ IsMemberFound (find Q es)
  in_front_new [] [] a m none = inl (All-nil (λ (k : ℕ). filter P (gain_at gs k).declared ≡ []))
  in_front_new [] (c ∷ cs) a m none = absurd a
  in_front_new (k ∷ ks) [] a m none = absurd a
  in_front_new (k ∷ ks) (c ∷ cs) a m none =
      by (filter P (gain_at gs k).declared) refl (in_front_new ks cs a.1 m.1 (All-tail (λ (b : Gain). filter Q b.declared ≡ []) c cs none))
    where
      by : (l : List Declaration) → filter P (gain_at gs k).declared ≡ l → All (λ (j : ℕ). filter P (gain_at gs j).declared ≡ []) ks ⊎ IsMemberFound (find Q es)
          → All (λ (j : ℕ). filter P (gain_at gs j).declared ≡ []) (k ∷ ks) ⊎ IsMemberFound (find Q es)
      by l e (inr x) = inr x
      by [] e (inl rest) = inl (All-cons (λ (j : ℕ). filter P (gain_at gs j).declared ≡ []) k ks e rest)
      by (z ∷ zs) e (inl rest) =
          inr (alike_second z (find Q es) (first_is P IsMemberOf (gain_at gs k).declared z zs m.0.0 e)
          (subst (λ (r : Option Declaration). AreToldAlike (Some z) r) (none_in Q c.declared es (All-head (λ (b : Gain). filter Q b.declared ≡ []) c cs none))
          (subst (λ (r : Option Declaration). AreToldAlike r (find Q (c.declared ++ es))) (one_in P (gain_at gs k).declared ds z zs e) a.0)))

  in_front_old : (ks : List ℕ) (cs : List Gain) → Each TellsAlike ks cs → Each TellMembers ks cs → All (λ (k : ℕ). filter P (gain_at gs k).declared ≡ []) ks
      → All (λ (b : Gain). filter Q b.declared ≡ []) cs ⊎ IsMemberFound (find P ds)
  in_front_old [] [] a m none = inl (All-nil (λ (b : Gain). filter Q b.declared ≡ []))
  in_front_old [] (c ∷ cs) a m none = absurd a
  in_front_old (k ∷ ks) [] a m none = absurd a
  in_front_old (k ∷ ks) (c ∷ cs) a m none =
      by (filter Q c.declared) refl (in_front_old ks cs a.1 m.1 (All-tail (λ (j : ℕ). filter P (gain_at gs j).declared ≡ []) k ks none))
    where
      by : (l : List Declaration) → filter Q c.declared ≡ l → All (λ (b : Gain). filter Q b.declared ≡ []) cs ⊎ IsMemberFound (find P ds)
          → All (λ (b : Gain). filter Q b.declared ≡ []) (c ∷ cs) ⊎ IsMemberFound (find P ds)
      by l e (inr x) = inr x
      by [] e (inl rest) = inl (All-cons (λ (b : Gain). filter Q b.declared ≡ []) c cs e rest)
      by (z ∷ zs) e (inl rest) =
          inr (alike_first (find P ds) z (first_is Q IsMemberOf c.declared z zs m.0.1 e)
          (subst (λ (r : Option Declaration). AreToldAlike r (Some z))
          (none_in P (gain_at gs k).declared ds (All-head (λ (j : ℕ). filter P (gain_at gs j).declared ≡ []) k ks none))
          (subst (λ (r : Option Declaration). AreToldAlike (find P ((gain_at gs k).declared ++ ds)) r) (one_in Q c.declared es z zs e) a.0)))

  -- Of a token that names members alone in the items the same is told behind all of them.
  pub told_of_members : Each TellsAlike order bs → Each TellMembers order bs → AreToldAlike (find P ds) (find Q es)
      → AreToldAlike (find P (gained gs ++ ds)) (find Q (gained bs ++ es))
  told_of_members a m before = by (filter P (gained gs)) refl (filter Q (gained bs)) refl
    where
      old_members : All (λ d. P d ≡ true → IsMemberOf d) (gained gs)
      old_members =
          gained_all P (λ d. P d ≡ true → IsMemberOf d) gs
          (by_order gs order is (λ (g : Gain). All (λ d. P d ≡ true → IsMemberOf d) g.declared)
          (each_first TellMembers (λ (k : ℕ). All (λ d. P d ≡ true → IsMemberOf d) (gain_at gs k).declared) (λ k b h. h.0) order bs m))

      new_members : All (λ d. Q d ≡ true → IsMemberOf d) (gained bs)
      new_members =
          gained_all Q (λ d. Q d ≡ true → IsMemberOf d) bs
          (each_second TellMembers (λ (b : Gain). All (λ d. Q d ≡ true → IsMemberOf d) b.declared) (λ k b h. h.1) order bs m)

      old_found : (z : Declaration) (zs : List Declaration) → filter P (gained gs) ≡ z ∷ zs → IsMemberFound (find P (gained gs ++ ds))
      old_found z zs e = record { one = z; found = one_in P (gained gs) ds z zs e; told = first_is P IsMemberOf (gained gs) z zs old_members e }

      new_found : (z : Declaration) (zs : List Declaration) → filter Q (gained bs) ≡ z ∷ zs → IsMemberFound (find Q (gained bs ++ es))
      new_found z zs e = record { one = z; found = one_in Q (gained bs) es z zs e; told = first_is Q IsMemberOf (gained bs) z zs new_members e }

      some : (z : Declaration) (zs : List Declaration) → z ∷ zs ≡ [] → ⊥
      some z zs e = cc

      only_old : (z : Declaration) (zs : List Declaration) → filter P (gained gs) ≡ z ∷ zs → filter Q (gained bs) ≡ []
          → All (λ (k : ℕ). filter P (gain_at gs k).declared ≡ []) order ⊎ IsMemberFound (find Q es) → IsMemberFound (find Q (gained bs ++ es))
      only_old z zs e none (inl all) =
          absurd (some z zs (sym e ∙ gained_none P gs (by_order gs order is (λ (g : Gain). filter P g.declared ≡ []) all)))
      only_old z zs e none (inr x) = record { one = x.one; found = none_in Q (gained bs) es none ∙ x.found; told = x.told }

      only_new : (z : Declaration) (zs : List Declaration) → filter Q (gained bs) ≡ z ∷ zs → filter P (gained gs) ≡ []
          → All (λ (b : Gain). filter Q b.declared ≡ []) bs ⊎ IsMemberFound (find P ds) → IsMemberFound (find P (gained gs ++ ds))
      only_new z zs e none (inl all) = absurd (some z zs (sym e ∙ gained_none Q bs all))
      only_new z zs e none (inr x) = record { one = x.one; found = none_in P (gained gs) ds none ∙ x.found; told = x.told }

      by : (l : List Declaration) → filter P (gained gs) ≡ l → (k : List Declaration) → filter Q (gained bs) ≡ k
          → AreToldAlike (find P (gained gs ++ ds)) (find Q (gained bs ++ es))
      by [] e [] h =
          subst (λ (r : Option Declaration). AreToldAlike r (find Q (gained bs ++ es))) (sym (none_in P (gained gs) ds e))
          (subst (λ (r : Option Declaration). AreToldAlike (find P ds) r) (sym (none_in Q (gained bs) es h)) before)
      by (z ∷ zs) e (y ∷ ys) h = members_alike (find P (gained gs ++ ds)) (find Q (gained bs ++ es)) (old_found z zs e) (new_found y ys h)
      by (z ∷ zs) e [] h =
          members_alike (find P (gained gs ++ ds)) (find Q (gained bs ++ es)) (old_found z zs e)
          (only_old z zs e h (in_front_new order bs a m (none_gained Q bs h)))
      by [] e (y ∷ ys) h =
          members_alike (find P (gained gs ++ ds)) (find Q (gained bs ++ es))
          (only_new y ys h e (in_front_old order bs a m (in_the_order gs order is (λ (g : Gain). filter P g.declared ≡ []) (none_gained P gs e))))
          (new_found y ys h)

  -- ---- A token of one item

  -- another item than this one has none
  abbrev pub TellsNone : ℕ → ℕ → Gain → Type 0
  TellsNone one k b = (k == one) ≡ false → (filter P (gain_at gs k).declared ≡ []) × (filter Q b.declared ≡ [])

  abbrev old_one : ℕ → List Declaration
  old_one k = filter P (gain_at gs k).declared

  none_told : (one : ℕ) (ks : List ℕ) (cs : List Gain) → Each (TellsNone one) ks cs → hits one ks ≡ 0 → (stacked old_one ks ≡ []) × (filter Q (gained cs) ≡ [])
  none_told one [] [] n e = (refl, refl)
  none_told one [] (c ∷ cs) n e = absurd n
  none_told one (k ∷ ks) [] n e = absurd n
  none_told one (k ∷ ks) (c ∷ cs) n e = elim (cases_Bool (k == one)) [
    | inl same ↦ absurd (omega (arith, e, ap bit same))
    | inr other ↦
        let here = n.0 other in
        let rest = none_told one ks cs n.1 (omega (arith, e, ap bit other)) in (
          ap (λ (l : List Declaration). l ++ old_one k) rest.0 ∙ here.0,
          filter-append Q (gained cs) c.declared ∙ (ap (λ (l : List Declaration). l ++ filter Q c.declared) rest.1 ∙ here.1),
        )
  ]

  module _ (nothing : filter P ds ≡ []) (nothing' : filter Q es ≡ []) where
    alone_old : (xs : List Declaration) → find P (xs ++ ds) ≡ first (filter P xs)
    alone_old xs =
        find_first P (xs ++ ds)
        ∙ ap first (filter-append P xs ds ∙ (ap (λ (l : List Declaration). filter P xs ++ l) nothing ∙ append-nil (filter P xs)))

    alone_new : (xs : List Declaration) → find Q (xs ++ es) ≡ first (filter Q xs)
    alone_new xs =
        find_first Q (xs ++ es)
        ∙ ap first (filter-append Q xs es ∙ (ap (λ (l : List Declaration). filter Q xs ++ l) nothing' ∙ append-nil (filter Q xs)))

    one_told : (one : ℕ) (ks : List ℕ) (cs : List Gain) → Each TellsAlike ks cs → Each (TellsNone one) ks cs → hits one ks ≡ 1
        → AreToldAlike (first (stacked old_one ks)) (first (filter Q (gained cs)))
    one_told one [] [] a n e = absurd (omega (arith, e))
    one_told one [] (c ∷ cs) a n e = absurd n
    one_told one (k ∷ ks) [] a n e = absurd n
    one_told one (k ∷ ks) (c ∷ cs) a n e = elim (cases_Bool (k == one)) [
      | inl same ↦
          let rest = none_told one ks cs n.1 (omega (arith, e, ap bit same)) in
          let here : AreToldAlike (first (old_one k)) (first (filter Q c.declared)) =
          subst (λ (r : Option Declaration). AreToldAlike r (first (filter Q c.declared))) (alone_old (gain_at gs k).declared)
          (subst (λ (r : Option Declaration). AreToldAlike (find P ((gain_at gs k).declared ++ ds)) r) (alone_new c.declared) a.0) in
          subst (λ (l : List Declaration). AreToldAlike (first (stacked old_one ks ++ old_one k)) (first l)) (sym (filter-append Q (gained cs) c.declared))
          (subst (λ (l : List Declaration). AreToldAlike (first (l ++ old_one k)) (first (filter Q (gained cs) ++ filter Q c.declared))) (sym rest.0)
          (subst (λ (l : List Declaration). AreToldAlike (first (old_one k)) (first (l ++ filter Q c.declared))) (sym rest.1) here))
      | inr other ↦
          let none_here = n.0 other in
          let rest : AreToldAlike (first (stacked old_one ks)) (first (filter Q (gained cs))) =
          one_told one ks cs a.1 n.1 (omega (arith, e, ap bit other)) in
          subst (λ (l : List Declaration). AreToldAlike (first l) (first (filter Q (gained (c ∷ cs)))))
          (sym (ap (λ (l : List Declaration). stacked old_one ks ++ l) none_here.0 ∙ append-nil (stacked old_one ks)))
          (subst (λ (l : List Declaration). AreToldAlike (first (stacked old_one ks)) (first l))
          (sym (filter-append Q (gained cs) c.declared ∙ (ap (λ (l : List Declaration). filter Q (gained cs) ++ l) none_here.1 ∙ append-nil (filter Q (gained cs))))) rest)
    ]

  -- an item with a number that is another one has none
  none_at : (one : ℕ) → Each (TellsNone one) order bs → (k : ℕ) → 1 ≤ k → (k == one) ≡ false → old_one k ≡ []
  none_at one n k low other = elim (cases_Bool (nat_lt k (length gs + 1))) [
    | inl e ↦
        let within : k - 1 < length gs = omega (arith, low, ltb-true k (length gs + 1) e) in
        let all : All (λ (j : ℕ). (j == one) ≡ false → old_one j ≡ []) (numbers 1 (length gs)) =
        All-permutation (λ (j : ℕ). (j == one) ≡ false → old_one j ≡ []) order (numbers 1 (length gs)) (IsPermutation-sym (numbers 1 (length gs)) order is)
        (each_first (TellsNone one) (λ (j : ℕ). (j == one) ≡ false → old_one j ≡ []) (λ j b h w. (h w).0) order bs n) in
        let here : get_or (numbers 1 (length gs)) (k - 1) 0 ≡ k = get_or-numbers (length gs) 1 (k - 1) 0 within ∙ omega (arith, low) in
        subst (λ (j : ℕ). (j == one) ≡ false → old_one j ≡ []) here
        (all (k - 1) 0 (subst (λ (x : ℕ). k - 1 < x) (sym (length-numbers (length gs) 1)) within)) other
    | inr e ↦
        ap (λ (g : Gain). filter P g.declared) (get_or_past gs (k - 1) no_gain (omega (arith, low, ltb-false k (length gs + 1) e)))
  ]

  -- one of two different items has none
  most_one : (one : ℕ) → Each (TellsNone one) order bs → IsOneAtMost old_one
  most_one one n i j low low' apart = elim (cases_Bool (i == one)) [
    | inl same ↦ inr (none_at one n j low' (other_than i j one apart same))
    | inr other ↦ inl (none_at one n i low other)
  ]
    where
      other_than : (x y z : ℕ) → (x == y) ≡ false → (x == z) ≡ true → (y == z) ≡ false
      other_than x y z apart same = elim (cases_Bool (y == z)) [
        | inl e ↦ absurd (eqb-false x y apart (eqb-true x z same ∙ sym (eqb-true y z e)))
        | inr e ↦ e
      ]

  pub told_in_one : Each TellsAlike order bs → (one : ℕ) → Each (TellsNone one) order bs → hits one order ≡ 1 → find P ds ≡ None → find Q es ≡ None
      → AreToldAlike (find P (gained gs ++ ds)) (find Q (gained bs ++ es))
  told_in_one a one n e nothing nothing' =
      let f : filter P ds ≡ [] = nothing_found P ds nothing in
      let g : filter Q es ≡ [] = nothing_found Q es nothing' in
      subst (λ (r : Option Declaration). AreToldAlike r (find Q (gained bs ++ es))) (sym (alone_old f g (gained gs)))
      (subst (λ (r : Option Declaration). AreToldAlike (first (filter P (gained gs))) r) (sym (alone_new f g (gained bs)))
      (subst (λ (l : List Declaration). AreToldAlike (first l) (first (filter Q (gained bs)))) (gained_in_order gs order is P (most_one one n))
      (one_told f g one order bs a n e)))
