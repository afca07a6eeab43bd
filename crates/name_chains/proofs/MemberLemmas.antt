-- Members of a structure or union by their names.
use Rattle.std.proofs.Common.{ℕ, zero, suc, ◌+◌, ◌-◌, ◌<◌, ◌≤◌, ◌≡◌, Bool, true, false, ◌&&◌, ◌||◌, true≢false, cond, List, [], ◌∷◌, ◌++◌, reverse, take, drop, length, get_or, Some, refl, sym, ap, subst, ◌∙◌, inl, inr, arith, add-one, append_assoc}
use Rattle.std.specs.Prelude.{not, filter, slice_get, ◌==◌}
use Rattle.std.specs.List.{list_any}
use Rattle.std.specs.Option.{option_map_or}
use Rattle.std.proofs.lemmas.Bool.{cases_Bool, eqb-true, eq-eqb, cond-true, cond-false, and_parts}
use Rattle.std.proofs.lemmas.List.{length-take-le, take-append-drop}
use Rattle.c_types.specs.declared.declarations.Declaration.{Declaration}
use Rattle.c_types.specs.declared.declarations.Space.TheVariants.{Members as members}
use Rattle.name_chains.specs.declared.structures.Rank.{Rank}
use Rattle.name_chains.specs.Places.{is_member_of, place_of}
use Rattle.name_chains.specs.Links.{has_key, latest_place, AreLinked, IsLeft}
use Rattle.name_chains.specs.Chains.{count_of, space_key, name_key, name_key_of}
use Rattle.name_chains.specs.Spellings.{number_at}
use Rattle.name_chains.specs.Ranks.{rank_at, AreRanked, is_member_at}
use Rattle.name_chains.proofs.Reversed.{filter_append, any_reversed}
use Rattle.name_chains.proofs.LatestLemmas.{take_one_more, slice_get_some}
use Rattle.name_chains.proofs.LinkedLemmas.{any_at}
use Rattle.name_chains.proofs.ChainLemmas.{passes_here, leads_to, left_whole, left_all, left_on, back_more, length_back}
use Rattle.name_chains.proofs.ChainedMore.{place_key}

-- ---- How many stand before a name

module _ (name : ℕ) where
  place_in_front : (xs ys : List Declaration) (d : Declaration) → (d.name_at == name) ≡ true → place_of (xs ++ d ∷ ys) name ≡ place_of xs name
  place_in_front [] ys d e = cond-true (d.name_at == name) 0 (place_of ys name + 1) e
  place_in_front (x ∷ xs) ys d e = ap (λ n. cond (x.name_at == name) 0 (n + 1)) (place_in_front xs ys d e)

  module _ (number : ℕ) where
    abbrev own : Declaration → Bool
    own = is_member_of number

    abbrev named : Declaration → Bool
    named = is_member_at number name

    no_name : (b c : Bool) (ys : List Declaration) (d : Declaration) → (d.name_at == name) ≡ c → (b && c) ≡ false → place_of ys name ≡ length ys
        → place_of (cond b (d ∷ ys) ys) name ≡ length (cond b (d ∷ ys) ys)
    no_name true true ys d e none rest = cc
    no_name true false ys d e none rest = cond-false (d.name_at == name) 0 (place_of ys name + 1) e ∙ (ap (λ n. n + 1) rest ∙ add-one (length ys))
    no_name false c ys d e none rest = rest

    none_first : (a b : Bool) → (a || b) ≡ false → a ≡ false
    none_first true b e = cc
    none_first false b e = refl

    none_then : (a b : Bool) → (a || b) ≡ false → b ≡ false
    none_then true b e = cc
    none_then false b e = e

    -- where no member has the name, all stand before it
    unnamed : (xs : List Declaration) → list_any named xs ≡ false → place_of (filter own xs) name ≡ length (filter own xs)
    unnamed [] e = refl
    unnamed (x ∷ xs) e =
        no_name (own x) (x.name_at == name) (filter own xs) x refl (none_first (named x) (list_any named xs) e)
        (unnamed xs (none_then (named x) (list_any named xs) e))

    pub none_named : (xs : List Declaration) (p : ℕ) → p ≡ latest_place named (reverse xs) → p ≡ 0 → place_of (filter own xs) name ≡ length (filter own xs)
    none_named xs p e z =
        unnamed xs
        (sym (any_reversed named xs)
        ∙ (sym (any_at named (reverse xs)) ∙ ap (λ n. not (n == 0)) (sym e ∙ z)))

    -- the latest one with the name tells how many stand before the first
    split_here : (xs : List Declaration) (k : ℕ) (x : Declaration) → slice_get xs k ≡ Some x → own x ≡ true
        → filter own xs ≡ filter own (take k xs) ++ x ∷ filter own (drop (suc k) xs)
    split_here xs k x e holds =
        ap (filter own) (sym (take-append-drop (suc k) xs) ∙ (ap (λ ys. ys ++ drop (suc k) xs) (take_one_more xs k x e) ∙ append_assoc (take k xs) (x ∷ []) (drop (suc k) xs)))
        ∙ (filter_append own (take k xs) (x ∷ drop (suc k) xs)
        ∙ ap (λ ys. filter own (take k xs) ++ ys) (cond-true (own x) (x ∷ filter own (drop (suc k) xs)) (filter own (drop (suc k) xs)) holds))

    pub first_named : (xs : List Declaration) (ranks : List Rank) (p : ℕ) → AreRanked xs ranks → p ≡ latest_place named (reverse xs) → 0 < p
        → (rank_at ranks (p - 1)).first ≡ place_of (filter own xs) name
    first_named xs ranks zero ranked e l = absurd (omega (arith, l))
    first_named xs ranks (suc k) ranked e l =
        let m : suc k - 1 ≡ k = omega arith in
        let whole = left_whole named (latest_place named) (λ d ds fails. cond-false (named d) (length ds + 1) (latest_place named ds) fails) xs in
        let within : suc k ≤ length xs = omega (arith, e, whole.within) in
        let x = slice_get_some xs k (omega (arith, within)) in
        let passes = passes_here named xs k x.0 within x.1 (subst (λ p. latest_place named (reverse (take p xs)) ≡ p) (sym e) whole.again) in
        let holds = (and_parts (own x.0) (x.0.name_at == name) passes).0 in
        let same : (x.0.name_at == name) ≡ true = (and_parts (own x.0) (x.0.name_at == name) passes).1 in
        ap (λ j. (rank_at ranks j).first) m
        ∙ ((ranked.told k number x.0 x.1 holds).first
        ∙ (ap (place_of (filter own (take k xs))) (eqb-true x.0.name_at name same)
        ∙ (sym (place_in_front (filter own (take k xs)) (filter own (drop (suc k) xs)) x.0 same)
        ∙ ap (λ ys. place_of ys name) (sym (split_here xs k x.0 x.1 holds)))))

    -- ---- The way to the latest one with the name

    module _ (numbers : List ℕ) where
      abbrev key : ℕ
      key = name_key numbers (members number) name

      abbrev test : Declaration → Bool
      test = has_key (name_key_of numbers) key

      other_key : (d : Declaration) → test d ≡ false → named d ≡ false
      other_key d fails =
          elim (cases_Bool (named d)) [
            | inr e ↦ e
            | inl e ↦
                let n : d.name_at ≡ name = eqb-true d.name_at name ((and_parts (own d) (d.name_at == name) e).1) in
                let k : key ≡ name_key_of numbers d =
                ap (λ j. space_key (count_of numbers) (members number) (number_at numbers j)) (sym n)
                ∙ place_key (count_of numbers) (number_at numbers d.name_at) number d.space ((and_parts (own d) (d.name_at == name) e).0) in
                absurd (true≢false (sym (eq-eqb key (name_key_of numbers d) k) ∙ fails))
          ]

      skip_other : (d : Declaration) (ds : List Declaration) → test d ≡ false → latest_place named (d ∷ ds) ≡ latest_place named ds
      skip_other d ds fails = cond-false (named d) (length ds + 1) (latest_place named ds) (other_key d fails)

      module _ (xs : List Declaration) (before : List ℕ) (newest : ℕ) (linked : AreLinked test xs before newest) where
        abbrev Way : ℕ → Type 0
        Way p = IsLeft test (latest_place named) xs (reverse xs) p

        pub name_begins : Way newest
        name_begins = left_all test (latest_place named) skip_other xs before newest linked

        -- what stands at the place has another name
        pub name_on : (p next : ℕ) (b : Bool) → Way p → 0 < p → b ≡ option_map_or named (slice_get xs (p - 1)) false → b ≡ false
            → next ≡ get_or before (p - 1) 0 → Way next × (next < p)
        name_on zero next b way l told other e = absurd (omega (arith, l))
        name_on (suc k) next b way l told other e =
            let m : suc k - 1 ≡ k = omega arith in
            let x = slice_get_some xs k (omega (arith, way.within)) in
            let none : named x.0 ≡ false =
            ap (λ o. option_map_or named o false) (sym x.1) ∙ (ap (λ j. option_map_or named (slice_get xs j) false) (sym m) ∙ (sym told ∙ other)) in
            let down : IsLeft test (latest_place named) (take k xs) (reverse (take k xs)) next =
            subst (IsLeft test (latest_place named) (take k xs) (reverse (take k xs)))
            (sym (e ∙ (ap (λ j. get_or before j 0) m ∙ leads_to test xs before newest k linked way.within way.again)))
            (left_whole test (latest_place named) skip_other (take k xs)) in (
              left_on test (latest_place named) skip_other xs k next x.0 (reverse xs) way x.1
                  (cond-false (named x.0) (length (reverse (take k xs)) + 1) (latest_place named (reverse (take k xs))) none) down,
              omega (arith, down.within, length-take-le k xs (omega (arith, way.within))),
            )

        -- it has the name
        pub name_found : (p : ℕ) (b : Bool) → Way p → 0 < p → b ≡ option_map_or named (slice_get xs (p - 1)) false → b ≡ true
            → p ≡ latest_place named (reverse xs)
        name_found zero b way l told is = absurd (omega (arith, l))
        name_found (suc k) b way l told is =
            let m : suc k - 1 ≡ k = omega arith in
            let x = slice_get_some xs k (omega (arith, way.within)) in
            let holds : named x.0 ≡ true =
            ap (λ o. option_map_or named o false) (sym x.1) ∙ (ap (λ j. option_map_or named (slice_get xs j) false) (sym m) ∙ (sym told ∙ is)) in
            let ds = reverse (take k xs) in
            sym (sym way.rest
            ∙ (ap (latest_place named) (back_more xs k x.0 x.1)
            ∙ (cond-true (named x.0) (length ds + 1) (latest_place named ds) holds
            ∙ (ap (λ n. n + 1) (length_back xs k (omega (arith, way.within))) ∙ add-one k))))

        -- or none has it
        pub name_lost : (p : ℕ) → Way p → p ≡ 0 → 0 ≡ latest_place named (reverse xs)
        name_lost p way e = sym (sym way.rest ∙ ap (λ j. latest_place named (reverse (take j xs))) e)
