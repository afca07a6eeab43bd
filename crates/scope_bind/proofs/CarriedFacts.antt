-- What is noted of declarations, and found among them, goes along with the tokens.
use Rattle.std.proofs.Common.{ℕ, zero, suc, ◌+◌, ◌≡◌, Bool, true, false, ◌&&◌, ◌||◌, not, cond, if◌then◌else◌, ◌==◌, nat_lt, List, [], ◌∷◌, ◌++◌, map, reverse, slice_get, Option, None, Some, is_some, refl, sym, ap, ◌∙◌}
use mathlib.Core.List.{reverse-cons}
use Rattle.std.specs.Prelude.{find, filter, filter_map}
use Rattle.std.specs.List.{list_any, cons_option}
use Rattle.std.specs.Option.{option_map}
use Rattle.std.specs.Str.{bytes_eq}
use Rattle.std.proofs.lemmas.List.{map-append}
use Rattle.cs_base.specs.Token.{Token}
use Rattle.c_types.specs.Faults.{number_of, first_fault, comes_first}
use Rattle.c_types.specs.Declarations.{Facts, is_in, is_live, is_named, is_space, is_linkage, has_linkage, spelling_at, with_fault, with_begun, with_complete, looked_up, visible, in_scope, anywhere, linked, is_mixed}
use Rattle.scope_bind.specs.Labels.{with_jump}
use Rattle.scope_bind.specs.Named.{Cause, Fault, Space, Declaration, ordinary}
use Rattle.c_types.specs.declared.entity.Linkage.{Linkage}
use Rattle.scope_bind.specs.Moved.{moved_space, IsMoved}
use Rattle.scope_bind.proofs.MovedSpaces.{same_number, same_ordinary, named_moved}
use Rattle.scope_bind.specs.Carried.{carried, carried_fault, carried_facts, AreCarried}

-- ---- Lists

pub found_along : {X Y : Type 0} (c : X → Y) (p : Y → Bool) (q : X → Bool) → ((x : X) → p (c x) ≡ q x) → (xs : List X)
    → find p (map c xs) ≡ option_map c (find q xs)
found_along c p q same [] = refl
found_along c p q same (x ∷ xs) =
    ap (λ b. cond b (Some (c x)) (find p (map c xs))) (same x) ∙ by (q x) (found_along c p q same xs)
  where
    by : (b : Bool) → find p (map c xs) ≡ option_map c (find q xs) → cond b (Some (c x)) (find p (map c xs)) ≡ option_map c (cond b (Some x) (find q xs))
    by true e = refl
    by false e = e

pub any_along : {X Y : Type 0} (c : X → Y) (p : Y → Bool) (q : X → Bool) → ((x : X) → p (c x) ≡ q x) → (xs : List X)
    → list_any p (map c xs) ≡ list_any q xs
any_along c p q same [] = refl
any_along c p q same (x ∷ xs) =
    ap (λ b. b || list_any p (map c xs)) (same x) ∙ ap (λ b. q x || b) (any_along c p q same xs)

pub filter_along : {X Y : Type 0} (c : X → Y) (p : Y → Bool) (q : X → Bool) → ((x : X) → p (c x) ≡ q x) → (xs : List X)
    → filter p (map c xs) ≡ map c (filter q xs)
filter_along c p q same [] = refl
filter_along c p q same (x ∷ xs) =
    ap (λ b. cond b (c x ∷ filter p (map c xs)) (filter p (map c xs))) (same x) ∙ by (q x) (filter_along c p q same xs)
  where
    by : (b : Bool) → filter p (map c xs) ≡ map c (filter q xs)
        → cond b (c x ∷ filter p (map c xs)) (filter p (map c xs)) ≡ map c (cond b (x ∷ filter q xs) (filter q xs))
    by true e = ap (λ ys. c x ∷ ys) e
    by false e = e

pub chosen_along : {X Y : Type 0} (c : X → Y) (p : Y → Option Y) (q : X → Option X) → ((x : X) → p (c x) ≡ option_map c (q x)) → (xs : List X)
    → filter_map p (map c xs) ≡ map c (filter_map q xs)
chosen_along c p q same [] = refl
chosen_along {X = X} c p q same (x ∷ xs) =
    ap (λ o. cons_option o (filter_map p (map c xs))) (same x) ∙ by (q x) (chosen_along c p q same xs)
  where
    by : (o : Option X) → filter_map p (map c xs) ≡ map c (filter_map q xs)
        → cons_option (option_map c o) (filter_map p (map c xs)) ≡ map c (cons_option o (filter_map q xs))
    by None e = e
    by (Some y) e = ap (λ ys. c y ∷ ys) e

pub reversed_along : {X Y : Type 0} (c : X → Y) (xs : List X) → reverse (map c xs) ≡ map c (reverse xs)
reversed_along c [] = refl
reversed_along c (x ∷ xs) =
    reverse-cons (c x) (map c xs)
    ∙ (ap (λ ys. ys ++ c x ∷ []) (reversed_along c xs) ∙ (sym (map-append c (reverse xs) (x ∷ [])) ∙ ap (map c) (sym (reverse-cons x xs))))

pub got_along : {X Y : Type 0} (c : X → Y) (xs : List X) (k : ℕ) → slice_get (map c xs) k ≡ option_map c (slice_get xs k)
got_along c [] k = refl
got_along c (x ∷ xs) zero = refl
got_along c (x ∷ xs) (suc k) = got_along c xs k

pub pushed_along : {X Y : Type 0} (c : X → Y) (xs : List X) (x : X) → map c xs ++ c x ∷ [] ≡ map c (xs ++ x ∷ [])
pushed_along c xs x = sym (map-append c xs (x ∷ []))

-- ---- Facts

module _ (m : ℕ → ℕ) (h : ℕ) (a b : List Token) (law : AreCarried m h a b) where
  abbrev C : Declaration → Declaration
  C d = carried m d

  abbrev F : Facts → Facts
  F f = carried_facts m f

  pub is_moved : (d : Declaration) → IsMoved m d (C d)
  is_moved d = record { space = refl; name_at = refl; entity = refl; kind = refl; linkage = refl; ctype = refl; depth = refl; listed = refl }

  pub facts_if : (c : Bool) (f f' g g' : Facts) → f' ≡ F f → g' ≡ F g → (if c then f' else g') ≡ F (if c then f else g)
  facts_if true f f' g g' e k = e
  facts_if false f f' g g' e k = k

  pub index_if : (c : Bool) (i j : ℕ) → (if c then m i else m j) ≡ m (if c then i else j)
  index_if true i j = refl
  index_if false i j = refl

  pub is_there : (o : Option Declaration) → is_some (option_map C o) ≡ is_some o
  is_there None = refl
  is_there (Some d) = refl

  fault_if : (c : Bool) (x g : Fault) → (if c then Some (carried_fault m x) else Some (carried_fault m g)) ≡ option_map (carried_fault m) (if c then Some x else Some g)
  fault_if true x g = refl
  fault_if false x g = refl

  comes_along : (x g : Fault) → comes_first (carried_fault m x) (carried_fault m g) ≡ comes_first x g
  comes_along x g =
      ap (λ c. c || ((m x.index == m g.index) && nat_lt (number_of x.cause) (number_of g.cause))) (law.order x.index g.index)
      ∙ ap (λ c. nat_lt x.index g.index || (c && nat_lt (number_of x.cause) (number_of g.cause))) (same_number m a b law.texts x.index g.index)

  first_along : (o : Option Fault) (x : Fault) → first_fault (option_map (carried_fault m) o) (carried_fault m x) ≡ option_map (carried_fault m) (first_fault o x)
  first_along None x = refl
  first_along (Some g) x =
      ap (λ c. if c then Some (carried_fault m x) else Some (carried_fault m g)) (comes_along x g) ∙ fault_if (comes_first x g) x g

  pub fault_along : (w : Bool) (c : Cause) (i : ℕ) (f : Facts) → with_fault w c (m i) (F f) ≡ F (with_fault w c i f)
  fault_along true c i f = ap (λ o. record (F f) { fault = o }) (first_along f.fault (record { cause = c; index = i }))
  fault_along false c i f = refl

  pub fault_when : (v w : Bool) (c : Cause) (i : ℕ) (f : Facts) (g : Facts) → v ≡ w → g ≡ F f → with_fault v c (m i) g ≡ F (with_fault w c i f)
  fault_when v w c i f g e k = ap (λ x. with_fault x c (m i) g) e ∙ (ap (λ x. with_fault w c (m i) x) k ∙ fault_along w c i f)

  pub in_along : (ns : List ℕ) (k : ℕ) → is_in (map m ns) (m k) ≡ is_in ns k
  in_along ns k = any_along m (λ j. j == m k) (λ j. j == k) (λ j. same_number m a b law.texts j k) ns

  pub begun_along : (c : Bool) (e : ℕ) (f : Facts) → with_begun c (m e) (F f) ≡ F (with_begun c e f)
  begun_along true e f = ap (λ x. record (F f) { begun = x }) (pushed_along m f.begun e)
  begun_along false e f = refl

  pub complete_along : (n : ℕ) (f : Facts) → with_complete (m n) (F f) ≡ F (with_complete n f)
  complete_along n f = ap (λ x. record (F f) { complete = x }) (pushed_along m f.complete n)

  pub jump_along : (i : ℕ) (f : Facts) → with_jump (m i) (F f) ≡ F (with_jump i f)
  jump_along i f = ap (λ x. record (F f) { jumps = x }) (pushed_along m f.jumps i)

  -- ---- Look-ups

  pub live_along : (k : ℕ) (d : Declaration) → is_live (m k) (C d) ≡ is_live k d
  live_along k d =
      ap (λ x. not x && nat_lt (m k) (m d.to)) (law.order k d.from) ∙ ap (λ x. not (nat_lt k d.from) && x) (law.order k d.to)

  -- a name space that is another one there
  abbrev pub GoesTo : Space → Space → Type 0
  GoesTo space there = (s : Space) → is_space (moved_space m s) there ≡ is_space s space

  pub looked_along : (space there : Space) → GoesTo space there → (i : ℕ) (p q : Declaration → Bool) → ((d : Declaration) → p (C d) ≡ q d) → (f : Facts)
      → looked_up b there (m i) p (F f) ≡ option_map C (looked_up a space i q f)
  looked_along space there goes i p q same f =
      found_along C (λ d. is_named b there (m i) d && p d) (λ d. is_named a space i d && q d)
      (λ d.
      ap (λ x. x && p (C d)) (named_moved m a b law.texts space there i d (C d) (goes d.space) (is_moved d))
      ∙ ap (λ x. is_named a space i d && x) (same d)) f.declared

  pub visible_along : (space there : Space) → GoesTo space there → (i k : ℕ) (f : Facts) → visible b there (m i) (m k) (F f) ≡ option_map C (visible a space i k f)
  visible_along space there goes i k f = looked_along space there goes i (is_live (m k)) (is_live k) (live_along k) f

  pub scope_along : (depth i k : ℕ) (f : Facts) → in_scope b ordinary depth (m i) (m k) (F f) ≡ option_map C (in_scope a ordinary depth i k f)
  scope_along depth i k f =
      looked_along ordinary ordinary (same_ordinary m a b law.texts) i (λ d. is_live (m k) d && (d.depth == depth)) (λ d. is_live k d && (d.depth == depth))
      (λ d. ap (λ x. x && (d.depth == depth)) (live_along k d)) f

  pub anywhere_along : (space there : Space) → GoesTo space there → (i : ℕ) (f : Facts) → anywhere b there (m i) (F f) ≡ option_map C (anywhere a space i f)
  anywhere_along space there goes i f = looked_along space there goes i (λ d. true) (λ d. true) (λ d. refl) f

  pub linked_along : (i : ℕ) (f : Facts) → linked b (m i) (F f) ≡ option_map C (linked a i f)
  linked_along i f = looked_along ordinary ordinary (same_ordinary m a b law.texts) i (λ d. has_linkage d.linkage) (λ d. has_linkage d.linkage) (λ d. refl) f

  pub mixed_along : (l : Linkage) (i : ℕ) (f : Facts) → is_mixed b l (m i) (F f) ≡ is_mixed a l i f
  mixed_along l i f =
      any_along C (λ d. is_named b ordinary (m i) d && (has_linkage d.linkage && not (is_linkage d.linkage l)))
      (λ d. is_named a ordinary i d && (has_linkage d.linkage && not (is_linkage d.linkage l)))
      (λ d.
      ap (λ x. x && (has_linkage d.linkage && not (is_linkage d.linkage l)))
      (named_moved m a b law.texts ordinary ordinary i d (C d) (same_ordinary m a b law.texts d.space) (is_moved d))) f.declared

  pub word_along : (i : ℕ) (word : List ℕ) → bytes_eq (spelling_at b (m i)) word ≡ bytes_eq (spelling_at a i) word
  word_along i word = ap (λ x. bytes_eq x word) (law.texts.spelled i)
