-- One declaration more in the chains.
use borrow.Author.Tests.{ltb-true, ltb-false}
use Rattle.std.proofs.Common.{Bool, false, ◌&&◌, true≢false, ℕ, zero, suc, ◌+◌, ◌-◌, ◌<◌, ◌≤◌, ◌≡◌, true, cond, nat_lt, List, [], ◌∷◌, ◌++◌, reverse, take, length, get_or, Option, None, Some, refl, sym, ap, subst, ◌∙◌, ◌⊎◌, inl, inr, arith, set}
use Rattle.std.specs.Prelude.{slice_get, filter_map, ◌==◌}
use Rattle.std.proofs.lemmas.Bool.{cases_Bool, cases_eq, eq-eqb, eqb-true, ne_eqb, cond-true, cond-false}
use Rattle.std.proofs.lemmas.List.{reverse-append, length-reverse, length_push, get_or-set_same, get_or-set_other, length-set}
use Rattle.std.proofs.Math.Path.{fun_ext}
use Rattle.std.proofs.Math.Seq.{take-append_seam}
use Rattle.cs_base.specs.Token.{Token}
use Rattle.c_types.specs.declared.declarations.Declaration.{Declaration}
use Rattle.c_types.specs.Declarations.{is_space, alike, is_named}
use Rattle.name_chains.specs.Entering.{kept_here}
use Rattle.c_types.specs.declared.declarations.Space.{Space}
use Rattle.c_types.specs.declared.declarations.Space.TheVariants.{Ordinary as ordinary, Tags as tags, Members as members, Inner as inner, Unnamed as unnamed, Labels as labels}
use Rattle.name_chains.specs.Places.{is_place_in, is_member_of}
use Rattle.name_chains.specs.Members.{is_found_in}
use Rattle.name_chains.specs.Spellings.{number_at, AreNumbers}
use Rattle.name_chains.specs.Links.{Links, with_link, TellsSame, HasRoom, has_key, latest_place, AreChained, AreLinked}
use Rattle.name_chains.specs.Chains.{count_of, space_key, name_key, name_key_of, member_key, member_key_of, found_key, found_key_of, AreEnded, with_end}

None≢Some : (x : Declaration) → None ≡ Some x → ⊥
None≢Some x e = cc

-- where a list with one more has an element
pub get_front : (xs : List Declaration) (d : Declaration) (k : ℕ) (e : Declaration) → slice_get (xs ++ d ∷ []) k ≡ Some e
    → ((k < length xs) × (slice_get xs k ≡ Some e)) ⊎ ((k ≡ length xs) × (e ≡ d))
get_front [] d zero e h = let s : e ≡ d = cc in inr (refl, s)
get_front [] d (suc k) e h = absurd (None≢Some e h)
get_front (x ∷ xs) d zero e h = inl (omega arith, h)
get_front (x ∷ xs) d (suc k) e h =
    elim (get_front xs d k e h) [
      | inl at ↦ inl (omega (arith, at.0), at.1)
      | inr last ↦ inr (ap suc last.0, last.1)
    ]

pub take_front : (xs ys : List Declaration) (k : ℕ) → k < length xs → take k (xs ++ ys) ≡ take k xs
take_front [] ys k l = absurd (omega (arith, l))
take_front (x ∷ xs) ys zero l = refl
take_front (x ∷ xs) ys (suc k) l = ap (λ zs. x ∷ zs) (take_front xs ys k (omega (arith, l)))

module _ (key_of : Declaration → ℕ) (xs : List Declaration) (links : Links) (d : Declaration) (a : AreChained key_of xs links)
    (room : HasRoom links (length xs) (key_of d)) where
  abbrev own : ℕ
  own = key_of d

  abbrev newer : List ℕ
  newer = set links.newest own (length xs + 1)

  abbrev longer : List ℕ
  longer = set links.before (length xs) (get_or links.newest own 0)

  abbrev Begins : ℕ → Type 0
  Begins m = get_or newer m 0 ≡ latest_place (has_key key_of m) (reverse (xs ++ d ∷ []))

  place_more : (m : ℕ) → latest_place (has_key key_of m) (reverse (xs ++ d ∷ []))
      ≡ cond (m == own) (length (reverse xs) + 1) (latest_place (has_key key_of m) (reverse xs))
  place_more m = ap (latest_place (has_key key_of m)) (reverse-append xs (d ∷ []))

  begins_here : (m : ℕ) → m ≡ own → Begins m
  begins_here m same =
      ap (λ j. get_or newer j 0) same
      ∙ (get_or-set_same links.newest own (length xs + 1) 0 room.newest
      ∙ (ap (λ n. n + 1) (sym (length-reverse xs))
      ∙ (sym (cond-true (m == own) (length (reverse xs) + 1) (latest_place (has_key key_of m) (reverse xs)) (eq-eqb m own same))
      ∙ sym (place_more m))))

  begins_there : (m : ℕ) → (m ≡ own → ⊥) → Begins m
  begins_there m apart =
      get_or-set_other links.newest own m (length xs + 1) 0 apart
      ∙ (a.begins m
      ∙ (sym (cond-false (m == own) (length (reverse xs) + 1) (latest_place (has_key key_of m) (reverse xs)) (ne_eqb m own apart))
      ∙ sym (place_more m)))

  abbrev Leads : ℕ → Declaration → Type 0
  Leads k e = get_or longer k 0 ≡ latest_place (has_key key_of (key_of e)) (reverse (take k (xs ++ d ∷ [])))

  leads_front : (k : ℕ) (e : Declaration) → k < length xs → slice_get xs k ≡ Some e → Leads k e
  leads_front k e l h =
      get_or-set_other links.before (length xs) k (get_or links.newest own 0) 0 (λ same. omega (arith, l, same))
      ∙ (a.leads k e h
      ∙ ap (λ ys. latest_place (has_key key_of (key_of e)) (reverse ys)) (sym (take_front xs (d ∷ []) k l)))

  leads_last : (k : ℕ) (e : Declaration) → k ≡ length xs → e ≡ d → Leads k e
  leads_last k e at is =
      ap (λ j. get_or longer j 0) at
      ∙ (get_or-set_same links.before (length xs) (get_or links.newest own 0) 0 room.before
      ∙ (a.begins own
      ∙ (ap (λ ys. latest_place (has_key key_of own) (reverse ys)) (sym (take-append_seam xs (d ∷ [])))
      ∙ (ap (λ j. latest_place (has_key key_of own) (reverse (take j (xs ++ d ∷ [])))) (sym at)
      ∙ ap (λ f. latest_place (has_key key_of (key_of f)) (reverse (take k (xs ++ d ∷ [])))) (sym is)))))

  -- the chains with one declaration more
  pub chained_more : AreChained key_of (xs ++ d ∷ []) (with_link (length xs) own links)
  chained_more = record {
    begins = λ m. elim (cases_eq m own) [ inl same ↦ begins_here m same | inr apart ↦ begins_there m apart ];
    leads = λ k e h. elim (get_front xs d k e h) [ inl at ↦ leads_front k e at.0 at.1 | inr last ↦ leads_last k e last.0 last.1 ];
  }

-- room changes nothing
pub chained_same : (key_of : Declaration → ℕ) (xs : List Declaration) (old new : Links) → AreChained key_of xs old → TellsSame old new → AreChained key_of xs new
chained_same key_of xs old new a same = record {
  begins = λ n. same.newest n ∙ a.begins n;
  leads = λ k d h. same.before k ∙ a.leads k d h;
}

-- ---- The chain of one key

linked_by : (key_of : Declaration → ℕ) (xs : List Declaration) (links : Links) (n : ℕ) → AreChained key_of xs links
    → AreLinked (has_key key_of n) xs links.before (get_or links.newest n 0)
linked_by key_of xs links n a = record {
  begins = a.begins n;
  leads = λ k d h holds. a.leads k d h ∙ ap (λ m. latest_place (has_key key_of m) (reverse (take k xs))) (sym (eqb-true n (key_of d) holds));
}

pub named_by : (numbers : List ℕ) (xs : List Declaration) (links : Links) (space : Space) (i n p : ℕ) → AreChained (name_key_of numbers) xs links
    → n ≡ name_key numbers space i → p ≡ get_or links.newest n 0
    → AreLinked (has_key (name_key_of numbers) (name_key numbers space i)) xs links.before p
named_by numbers xs links space i n p a m e =
    subst (AreLinked (has_key (name_key_of numbers) (name_key numbers space i)) xs links.before) (sym (e ∙ ap (λ j. get_or links.newest j 0) m))
    (linked_by (name_key_of numbers) xs links (name_key numbers space i) a)

-- what is found where a name space is asked for has the key of that
same_key : (count number : ℕ) (s t : Space) → is_space s t ≡ true → space_key count t number ≡ space_key count s number
same_key count number ordinary ordinary e = refl
same_key count number ordinary tags e = cc
same_key count number ordinary (members n) e = cc
same_key count number ordinary (inner n) e = cc
same_key count number ordinary (unnamed n) e = cc
same_key count number ordinary (labels n) e = cc
same_key count number tags ordinary e = cc
same_key count number tags tags e = refl
same_key count number tags (members n) e = cc
same_key count number tags (inner n) e = cc
same_key count number tags (unnamed n) e = cc
same_key count number tags (labels n) e = cc
same_key count number (members m) ordinary e = cc
same_key count number (members m) tags e = cc
same_key count number (members m) (members n) e = ap (λ j. space_key count (members j) number) (sym (eqb-true m n e))
same_key count number (members m) (inner n) e = cc
same_key count number (members m) (unnamed n) e = cc
same_key count number (members m) (labels n) e = cc
same_key count number (inner m) ordinary e = cc
same_key count number (inner m) tags e = cc
same_key count number (inner m) (members n) e = ap (λ j. space_key count (members j) number) (sym (eqb-true m n e))
same_key count number (inner m) (inner n) e = cc
same_key count number (inner m) (unnamed n) e = cc
same_key count number (inner m) (labels n) e = cc
same_key count number (unnamed m) ordinary e = cc
same_key count number (unnamed m) tags e = cc
same_key count number (unnamed m) (members n) e = cc
same_key count number (unnamed m) (inner n) e = cc
same_key count number (unnamed m) (unnamed n) e = cc
same_key count number (unnamed m) (labels n) e = cc
same_key count number (labels m) ordinary e = cc
same_key count number (labels m) tags e = cc
same_key count number (labels m) (members n) e = cc
same_key count number (labels m) (inner n) e = cc
same_key count number (labels m) (unnamed n) e = cc
same_key count number (labels m) (labels n) e = ap (λ j. space_key count (labels j) number) (sym (eqb-true m n e))

-- a place of a structure or union has the key of its members
pub place_key : (count number n : ℕ) (s : Space) → is_place_in n s ≡ true → space_key count (members n) number ≡ space_key count s number
place_key count number n ordinary e = cc
place_key count number n tags e = cc
place_key count number n (members m) e = ap (λ j. space_key count (members j) number) (sym (eqb-true m n e))
place_key count number n (inner m) e = cc
place_key count number n (unnamed m) e = ap (λ j. space_key count (members j) number) (sym (eqb-true m n e))
place_key count number n (labels m) e = cc

-- what has another key has not the name
module _ (toks : List Token) (numbers : List ℕ) (are : AreNumbers toks numbers) (space : Space) (i : ℕ) where
  other_name : (d : Declaration) → has_key (name_key_of numbers) (name_key numbers space i) d ≡ false → is_named toks space i d ≡ false
  other_name d fails =
      elim (cases_Bool (is_space d.space space)) [
        | inr other ↦ rw other refl
        | inl alike_space ↦ elim (cases_Bool (alike toks i d.name_at)) [
          | inr other ↦ rw (alike_space, other) refl
          | inl alike_name ↦
              let n : number_at numbers i ≡ number_at numbers d.name_at = eqb-true (number_at numbers i) (number_at numbers d.name_at) (sym (are.same i d.name_at) ∙ alike_name) in
              let k : name_key numbers space i ≡ name_key_of numbers d =
              ap (space_key (count_of numbers) space) n ∙ same_key (count_of numbers) (number_at numbers d.name_at) d.space space alike_space in
              absurd (true≢false (sym (eq-eqb (name_key numbers space i) (name_key_of numbers d) k) ∙ fails))
        ]
      ]

  pub apart : (asked : Declaration → Bool) (d : Declaration) → has_key (name_key_of numbers) (name_key numbers space i) d ≡ false
      → (is_named toks space i d && asked d) ≡ false
  apart asked d fails = rw (other_name d fails) refl

-- the key of the structure or union itself
own_keyed : (number n : ℕ) → (number + 1 == n + 1) ≡ (n == number)
own_keyed number n =
    elim (cases_eq n number) [
      | inl same ↦ eq-eqb (number + 1) (n + 1) (omega (arith, same)) ∙ sym (eq-eqb n number same)
      | inr other ↦ ne_eqb (number + 1) (n + 1) (λ e. other (omega (arith, e))) ∙ sym (ne_eqb n number other)
    ]

member_keyed : (number : ℕ) (space : Space) → (number + 1 == member_key space) ≡ is_place_in number space
member_keyed number ordinary = ne_eqb (number + 1) 0 (λ e. omega (arith, e))
member_keyed number tags = ne_eqb (number + 1) 0 (λ e. omega (arith, e))
member_keyed number (labels n) = ne_eqb (number + 1) 0 (λ e. omega (arith, e))
member_keyed number (inner n) = ne_eqb (number + 1) 0 (λ e. omega (arith, e))
member_keyed number (members n) = own_keyed number n
member_keyed number (unnamed n) = own_keyed number n

found_keyed : (number : ℕ) (space : Space) → (number + 1 == found_key space) ≡ is_space space (members number)
found_keyed number ordinary = ne_eqb (number + 1) 0 (λ e. omega (arith, e))
found_keyed number tags = ne_eqb (number + 1) 0 (λ e. omega (arith, e))
found_keyed number (labels n) = ne_eqb (number + 1) 0 (λ e. omega (arith, e))
found_keyed number (unnamed n) = ne_eqb (number + 1) 0 (λ e. omega (arith, e))
found_keyed number (members n) = own_keyed number n
found_keyed number (inner n) = own_keyed number n

pub joined_by : (xs : List Declaration) (links : Links) (number n p : ℕ) → AreChained member_key_of xs links
    → n ≡ number + 1 → p ≡ get_or links.newest n 0 → AreLinked (is_member_of number) xs links.before p
joined_by xs links number n p a m e =
    subst (λ (test : Declaration → Bool). AreLinked test xs links.before p) (fun_ext (λ (d : Declaration). member_keyed number d.space))
    (subst (AreLinked (has_key member_key_of (number + 1)) xs links.before) (sym (e ∙ ap (λ j. get_or links.newest j 0) m))
    (linked_by member_key_of xs links (number + 1) a))

pub found_by : (xs : List Declaration) (links : Links) (number n p : ℕ) → AreChained found_key_of xs links
    → n ≡ number + 1 → p ≡ get_or links.newest n 0 → AreLinked (is_found_in number) xs links.before p
found_by xs links number n p a m e =
    subst (λ (test : Declaration → Bool). AreLinked test xs links.before p) (fun_ext (λ (d : Declaration). found_keyed number d.space))
    (subst (AreLinked (has_key found_key_of (number + 1)) xs links.before) (sym (e ∙ ap (λ j. get_or links.newest j 0) m))
    (linked_by found_key_of xs links (number + 1) a))

-- ---- Where ranges end

module _ (xs : List Declaration) (ends : List ℕ) (d : Declaration) (a : AreEnded xs ends) where
  abbrev place : ℕ
  place = length xs + 1

  -- no range ends there so far
  module _ (l : d.to < length ends) (blank : get_or ends d.to 0 ≡ 0) where
    here : get_or (set ends d.to place) d.to 0 ≡ place
    here = get_or-set_same ends d.to place 0 l

    other : (j : ℕ) → (j ≡ d.to → ⊥) → get_or (set ends d.to place) j 0 ≡ get_or ends j 0
    other j apart = get_or-set_other ends d.to j place 0 apart

    within_set : (j : ℕ) → get_or (set ends d.to place) j 0 ≤ length (xs ++ d ∷ [])
    within_set j = elim (cases_eq j d.to) [
      | inl same ↦ omega (arith, ap (λ n. get_or (set ends d.to place) n 0) same, here, length_push xs d)
      | inr apart ↦ omega (arith, other j apart, a.within j, length_push xs d)
    ]

    apart_from : (k : ℕ) (e : Declaration) → slice_get xs k ≡ Some e → e.to ≡ d.to → ⊥
    apart_from k e h same =
        omega (arith, a.told k e h (omega (arith, l, same)), ap (λ n. get_or ends n 0) same, blank)

    ended_set : AreEnded (xs ++ d ∷ []) (set ends d.to place)
    ended_set = record {
      within = within_set;
      told = λ k e h m. elim (get_front xs d k e h) [
        | inl at ↦ omega (arith, other e.to (apart_from k e at.1), a.told k e at.1 (omega (arith, m, length-set ends d.to place)))
        | inr last ↦ omega (arith, ap (λ f. get_or (set ends d.to place) f.to 0) last.1, here)
      ];
      first = λ k e h m. elim (get_front xs d k e h) [
        | inl at ↦ omega (arith, other e.to (apart_from k e at.1), a.first k e at.1 (omega (arith, m, length-set ends d.to place)))
        | inr last ↦ omega (arith, ap (λ f. get_or (set ends d.to place) f.to 0) last.1, here, last.0)
      ];
    }

  ended_stay : (d.to < length ends → 0 < get_or ends d.to 0) → AreEnded (xs ++ d ∷ []) ends
  ended_stay known = record {
    within = λ j. omega (arith, a.within j, length_push xs d);
    told = λ k e h m. elim (get_front xs d k e h) [
      | inl at ↦ a.told k e at.1 m
      | inr last ↦ subst (λ f. f.to < length ends → 0 < get_or ends f.to 0) (sym last.1) known m
    ];
    first = λ k e h m. elim (get_front xs d k e h) [
      | inl at ↦ a.first k e at.1 m
      | inr last ↦ omega (arith, a.within e.to, last.0)
    ];
  }

  pub ended_more : AreEnded (xs ++ d ∷ []) (with_end d.to place ends)
  ended_more =
      elim (cases_Bool (nat_lt d.to (length ends))) [
        | inl below ↦ elim (cases_eq (get_or ends d.to 0) 0) [
          | inl blank ↦ rw (below, eq-eqb (get_or ends d.to 0) 0 blank) (ended_set (ltb-true d.to (length ends) below) blank)
          | inr told ↦ rw (below, ne_eqb (get_or ends d.to 0) 0 told) (ended_stay (λ _. omega (arith, told)))
        ]
        | inr past ↦ rw past (ended_stay (λ l. absurd (omega (arith, l, ltb-false d.to (length ends) past))))
      ]

-- ---- Before the first range that ends at a token

module _ {A B : Type 0} (f : A → Option B) where
  pub none_kept : (xs : List A) (n : ℕ) → ((k : ℕ) (x : A) → k < n → slice_get xs k ≡ Some x → f x ≡ None) → filter_map f (take n xs) ≡ []
  none_kept [] zero none = refl
  none_kept [] (suc n) none = refl
  none_kept (x ∷ xs) zero none = refl
  none_kept (x ∷ xs) (suc n) none =
      rw (none 0 x (omega arith) refl) (none_kept xs n (λ k y l e. none (suc k) y (omega (arith, l)) e))

other_list : (list depth from to : ℕ) (d : Declaration) → (d.to ≡ list → ⊥) → kept_here list depth from to d ≡ None
other_list list depth from to d apart = rw (ne_eqb d.to list apart) refl

module _ (xs : List Declaration) (ends : List ℕ) (list : ℕ) (a : AreEnded xs ends) (depth from to : ℕ) where
  apart_by : (n k : ℕ) (d : Declaration) → list < length ends → (get_or ends list 0 ≡ 0) ⊎ (n < get_or ends list 0) → k < n
      → slice_get xs k ≡ Some d → d.to ≡ list → ⊥
  apart_by n k d l (inl blank) m h same =
      omega (arith, a.told k d h (omega (arith, l, same)), ap (λ j. get_or ends j 0) same, blank)
  apart_by n k d l (inr below) m h same =
      omega (arith, a.first k d h (omega (arith, l, same)), ap (λ j. get_or ends j 0) same, below, m)

  pub none_before : (n : ℕ) → list < length ends → (get_or ends list 0 ≡ 0) ⊎ (n < get_or ends list 0)
      → filter_map (kept_here list depth from to) (take n xs) ≡ []
  none_before n l e = none_kept (kept_here list depth from to) xs n (λ k d m h. other_list list depth from to d (apart_by n k d l e m h))

-- a place that is told, or none
pub before_place : (ends : List ℕ) (list p : ℕ) → p ≡ get_or ends list 0 → (get_or ends list 0 ≡ 0) ⊎ (p - 1 < get_or ends list 0)
before_place ends list p e =
    elim (cases_eq p 0) [
      | inl blank ↦ inl (sym e ∙ blank)
      | inr told ↦ inr (omega (arith, e, told))
    ]
