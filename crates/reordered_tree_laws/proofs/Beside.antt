-- Facts that differ by what stands beside: look-ups, and what is noted.
use Rattle.std.proofs.Common.{ℕ, ◌≡◌, Bool, true, false, ◌||◌, not, cond, ◌==◌, List, [], ◌∷◌, ◌++◌, Option, Some, refl, sym, ap, subst, ◌∙◌}
use Rattle.std.specs.Prelude.{IfSome, find, filter}
use Rattle.std.specs.List.{All, list_any}
use Rattle.std.proofs.lemmas.Bool.{or_parts, or_from}
use Rattle.std.proofs.lemmas.List.Elements.{All-cons, All-head, All-tail}
use Rattle.std.proofs.lemmas.List.Folds.{list_any-append}
use Rattle.c_types.specs.Faults.{first_fault}
use Rattle.c_types.specs.Declarations.{Facts, is_in, with_fault, with_occurrence, with_declaration, with_begun, with_complete}
use Rattle.name_chains.specs.Members.{with_silent}
use Rattle.scope_bind.specs.Labels.{with_jump}
use Rattle.scope_bind.specs.Named.{Cause, Declaration, Occurrence}
use Rattle.reordered_tree_laws.specs.Beside.{is_beside, beside_of, seen_of, IsOwnDeclaration, AreBeside}

-- ---- Lists without some of their elements

module _ {X : Type 0} (h q : X → Bool) where
  none_step : (x : X) (hs : List X) (c : Bool) → (c ≡ true → q x ≡ false) → list_any q hs ≡ false → list_any q (cond c (x ∷ hs) hs) ≡ false
  none_step x hs true f e = or_from (q x) (list_any q hs) (f refl) e
  none_step x hs false f e = e

  -- none of those that are left out passes
  pub none_left : ((x : X) → h x ≡ true → q x ≡ false) → (xs : List X) → list_any q (filter h xs) ≡ false
  none_left f [] = refl
  none_left f (x ∷ xs) = none_step x (filter h xs) (h x) (f x) (none_left f xs)

  find_step : (x : X) (xs hs ns : List X) (c : Bool) → (list_any q hs ≡ false → find q xs ≡ find q ns) → list_any q (cond c (x ∷ hs) hs) ≡ false
      → cond (q x) (Some x) (find q xs) ≡ find q (cond (not c) (x ∷ ns) ns)
  find_step x xs hs ns true rest e =
      let p = or_parts (q x) (list_any q hs) e in
      ap (λ b. cond b (Some x) (find q xs)) p.0 ∙ rest p.1
  find_step x xs hs ns false rest e = ap (λ r. cond (q x) (Some x) r) (rest e)

  -- the first that passes is found among the others
  pub find_others : (xs : List X) → list_any q (filter h xs) ≡ false → find q xs ≡ find q (filter (λ x. not (h x)) xs)
  find_others [] e = refl
  find_others (x ∷ xs) e = find_step x xs (filter h xs) (filter (λ x. not (h x)) xs) (h x) (find_others xs) e

  filter_step : (x : X) (xs ns : List X) (c : Bool) → (c ≡ true → q x ≡ false) → filter q xs ≡ filter q ns
      → cond (q x) (x ∷ filter q xs) (filter q xs) ≡ filter q (cond (not c) (x ∷ ns) ns)
  filter_step x xs ns true f e = ap (λ b. cond b (x ∷ filter q xs) (filter q xs)) (f refl) ∙ e
  filter_step x xs ns false f e = ap (λ ys. cond (q x) (x ∷ ys) ys) e

  pub filter_others : ((x : X) → h x ≡ true → q x ≡ false) → (xs : List X) → filter q xs ≡ filter q (filter (λ x. not (h x)) xs)
  filter_others f [] = refl
  filter_others f (x ∷ xs) = filter_step x xs (filter (λ x. not (h x)) xs) (h x) (f x) (filter_others f xs)

  all_step : (P : X → Type 0) (x : X) (r : Option X) (c : Bool) → P x → IfSome r P → IfSome (cond c (Some x) r) P
  all_step P x r true here rest = here
  all_step P x r false here rest = rest

  pub all_found : (P : X → Type 0) (xs : List X) → All P xs → IfSome (find q xs) P
  all_found P [] h = tt
  all_found P (x ∷ xs) h = all_step P x (find q xs) (q x) (All-head P x xs h) (all_found P xs (All-tail P x xs h))

module _ (foreign : ℕ → Bool) (ds es : List Declaration) (bs cs : List Occurrence) where
  abbrev pub Beside : Facts → Facts → Type 0
  Beside f g = AreBeside foreign ds es bs cs f g

  abbrev hidden : Declaration → Bool
  hidden d = is_beside foreign d

  -- ---- Look-ups

  -- what passes stands beside in neither
  pub record IsUnasked (q : Declaration → Bool) : Type 0 where
    pub first : list_any q ds ≡ false
    pub second : list_any q es ≡ false

  module _ (f g : Facts) (k : Beside f g) where
    pub found_same : (q : Declaration → Bool) → IsUnasked q → find q g.declared ≡ find q f.declared
    found_same q u =
        find_others hidden q g.declared (ap (list_any q) k.second ∙ u.second)
        ∙ (ap (find q) k.seen ∙ sym (find_others hidden q f.declared (ap (list_any q) k.first ∙ u.first)))

    pub found_own : (q : Declaration → Bool) → IsUnasked q → IfSome (find q f.declared) (IsOwnDeclaration foreign)
    found_own q u =
        let P : Option Declaration → Type 0 = λ r. IfSome r (IsOwnDeclaration foreign) in
        subst P (sym (find_others hidden q f.declared (ap (list_any q) k.first ∙ u.first)))
        (all_found hidden q (IsOwnDeclaration foreign) (seen_of foreign f.declared) k.owned)

    -- none that stands beside passes
    pub unasked : (q : Declaration → Bool) → ((d : Declaration) → hidden d ≡ true → q d ≡ false) → IsUnasked q
    unasked q never = record {
      first = sym (ap (list_any q) k.first) ∙ none_left hidden q never f.declared;
      second = sym (ap (list_any q) k.second) ∙ none_left hidden q never g.declared;
    }

    pub filtered_same : (q : Declaration → Bool) → ((d : Declaration) → hidden d ≡ true → q d ≡ false) → filter q g.declared ≡ filter q f.declared
    filtered_same q never =
        filter_others hidden q never g.declared ∙ (ap (filter q) k.seen ∙ sym (filter_others hidden q never f.declared))

  -- ---- What is noted

  pub fault_beside : (c : Bool) (cause : Cause) (i : ℕ) (f g : Facts) → Beside f g → Beside (with_fault c cause i f) (with_fault c cause i g)
  fault_beside false cause i f g k = k
  fault_beside true cause i f g k = record {
    seen = k.seen;
    first = k.first;
    second = k.second;
    owned = k.owned;
    begun = k.begun;
    complete = k.complete;
    fault = ap (λ x. first_fault x (record { cause = cause; index = i })) k.fault;
    own = k.own;
    bound = k.bound;
    again = k.again;
  }

  pub occurrence_beside : (i e : ℕ) (declares : Bool) (f g : Facts) → Beside f g → Beside (with_occurrence i e declares f) (with_occurrence i e declares g)
  occurrence_beside i e declares f g k =
      let o : Occurrence = record { index = i; entity = e; declares = declares } in
      record {
        seen = k.seen;
        first = k.first;
        second = k.second;
        owned = k.owned;
        begun = k.begun;
        complete = k.complete;
        fault = k.fault;
        own = o ∷ k.own;
        bound = ap (λ (xs : List Occurrence). o ∷ xs) k.bound;
        again = ap (λ (xs : List Occurrence). o ∷ xs) k.again;
      }

  pub silent_beside : (d : Declaration) (f g : Facts) → hidden d ≡ false → IsOwnDeclaration foreign d → Beside f g → Beside (with_silent d f) (with_silent d g)
  silent_beside d f g shown own k =
      let seen : (xs : List Declaration) → seen_of foreign (d ∷ xs) ≡ d ∷ seen_of foreign xs =
      λ xs. ap (λ c. cond (not c) (d ∷ seen_of foreign xs) (seen_of foreign xs)) shown in
      let left : (xs : List Declaration) → beside_of foreign (d ∷ xs) ≡ beside_of foreign xs =
      λ xs. ap (λ c. cond c (d ∷ beside_of foreign xs) (beside_of foreign xs)) shown in
      record {
        seen = seen g.declared ∙ (ap (λ (xs : List Declaration). d ∷ xs) k.seen ∙ sym (seen f.declared));
        first = left f.declared ∙ k.first;
        second = left g.declared ∙ k.second;
        owned = subst (λ (xs : List Declaration). All (IsOwnDeclaration foreign) xs) (sym (seen f.declared))
            (All-cons (IsOwnDeclaration foreign) d (seen_of foreign f.declared) own k.owned);
        begun = k.begun;
        complete = k.complete;
        fault = k.fault;
        own = k.own;
        bound = k.bound;
        again = k.again;
      }

  pub declaration_beside : (d : Declaration) (f g : Facts) → hidden d ≡ false → IsOwnDeclaration foreign d → Beside f g
      → Beside (with_declaration d f) (with_declaration d g)
  declaration_beside d f g shown own k =
      occurrence_beside d.name_at d.entity true (with_silent d f) (with_silent d g) (silent_beside d f g shown own k)

  more_in : (xs ys : List ℕ) (e n : ℕ) → is_in ys n ≡ is_in xs n → is_in (ys ++ e ∷ []) n ≡ is_in (xs ++ e ∷ []) n
  more_in xs ys e n same =
      list_any-append (λ m. m == n) ys (e ∷ []) ∙ (ap (λ b. b || is_in (e ∷ []) n) same ∙ sym (list_any-append (λ m. m == n) xs (e ∷ [])))

  pub begun_beside : (c : Bool) (e : ℕ) (f g : Facts) → Beside f g → Beside (with_begun c e f) (with_begun c e g)
  begun_beside false e f g k = k
  begun_beside true e f g k = record {
    seen = k.seen;
    first = k.first;
    second = k.second;
    owned = k.owned;
    begun = λ n own. more_in f.begun g.begun e n (k.begun n own);
    complete = k.complete;
    fault = k.fault;
    own = k.own;
    bound = k.bound;
    again = k.again;
  }

  pub complete_beside : (e : ℕ) (f g : Facts) → Beside f g → Beside (with_complete e f) (with_complete e g)
  complete_beside e f g k = record {
    seen = k.seen;
    first = k.first;
    second = k.second;
    owned = k.owned;
    begun = k.begun;
    complete = λ n own. more_in f.complete g.complete e n (k.complete n own);
    fault = k.fault;
    own = k.own;
    bound = k.bound;
    again = k.again;
  }

  pub jump_beside : (i : ℕ) (f g : Facts) → Beside f g → Beside (with_jump i f) (with_jump i g)
  jump_beside i f g k = record {
    seen = k.seen;
    first = k.first;
    second = k.second;
    owned = k.owned;
    begun = k.begun;
    complete = k.complete;
    fault = k.fault;
    own = k.own;
    bound = k.bound;
    again = k.again;
  }
