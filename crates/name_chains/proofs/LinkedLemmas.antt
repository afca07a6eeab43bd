-- Declarations with linkage, and the latest of them.
use Rattle.std.proofs.Common.{ℕ, zero, suc, ◌+◌, ◌-◌, ◌*◌, ◌<◌, ◌≤◌, ◌≡◌, Bool, true, false, ◌&&◌, ◌||◌, cond, max, List, [], ◌∷◌, ◌++◌, reverse, length, Option, None, Some, refl, sym, ap, ◌∙◌, inl, inr, arith}
use Rattle.std.specs.Prelude.{not, find, slice_get, ◌==◌}
use Rattle.std.specs.List.{list_any}
use Rattle.std.proofs.lemmas.Bool.{cases_eq, eq-eqb, ne_eqb, cond-false}
use Rattle.std.proofs.lemmas.List.{reverse-append, reverse-reverse, length-reverse}
use Rattle.std.proofs.Math.Path.{fun_ext}
use Rattle.cs_base.specs.Token.{Token}
use Rattle.cs_base.proofs.BoolLemmas.{none_and as and_none, and_true}
use Rattle.c_types.specs.declared.entity.Linkage.{Linkage}
use Rattle.c_types.specs.declared.entity.Linkage.TheVariants.{External, Internal, Absent}
use Rattle.c_types.specs.declared.declarations.Space.{Space}
use Rattle.c_types.specs.declared.declarations.Space.TheVariants.{Ordinary as ordinary, Tags as tags, Members as members, Inner as inner, Unnamed as unnamed, Labels as labels}
use Rattle.c_types.specs.declared.declarations.Declaration.{Declaration}
use Rattle.c_types.specs.Declarations.{is_space, is_linkage, has_linkage, alike, is_named}
use Rattle.name_chains.specs.Spellings.{number_at, AreNumbers}
use Rattle.name_chains.specs.Links.{Links, latest_place, AreChained}
use Rattle.name_chains.specs.Linked.{linkage_key, linkage_key_of, newest_linked, has_other, at_place}
use Rattle.name_chains.proofs.ChainLemmas.{place_within}

-- ---- The latest one, by its place

pub slice_front : (xs ys : List Declaration) (k : ℕ) → k < length xs → slice_get (xs ++ ys) k ≡ slice_get xs k
slice_front [] ys k l = absurd (omega (arith, l))
slice_front (x ∷ xs) ys zero l = refl
slice_front (x ∷ xs) ys (suc k) l = slice_front xs ys k (omega (arith, l))

pub slice_last : (xs : List Declaration) (d : Declaration) → slice_get (xs ++ d ∷ []) (length xs) ≡ Some d
slice_last [] d = refl
slice_last (x ∷ xs) d = slice_last xs d

pub at_suc : (xs : List Declaration) (k : ℕ) → at_place xs (suc k) ≡ slice_get xs k
at_suc xs k =
    let m : suc k - 1 ≡ k = omega arith in
    cond-false (suc k == 0) None (slice_get xs (suc k - 1)) (ne_eqb (suc k) 0 (λ e. omega (arith, e))) ∙ ap (slice_get xs) m

at_front : (xs ys : List Declaration) (p : ℕ) → p ≤ length xs → at_place (xs ++ ys) p ≡ at_place xs p
at_front xs ys zero l = refl
at_front xs ys (suc k) l = at_suc (xs ++ ys) k ∙ (slice_front xs ys k (omega (arith, l)) ∙ sym (at_suc xs k))

at_last : (xs : List Declaration) (d : Declaration) (p : ℕ) → p ≡ length xs + 1 → at_place (xs ++ d ∷ []) p ≡ Some d
at_last xs d zero e = absurd (omega (arith, e))
at_last xs d (suc k) e =
    let n : k ≡ length xs = omega (arith, e) in
    at_suc (xs ++ d ∷ []) k ∙ (ap (slice_get (xs ++ d ∷ [])) n ∙ slice_last xs d)

module _ (test : Declaration → Bool) where
  placed_one : (b : Bool) (d : Declaration) (ds : List Declaration) (r : Option Declaration) → at_place (reverse ds) (latest_place test ds) ≡ r
      → at_place (reverse ds ++ d ∷ []) (cond b (length ds + 1) (latest_place test ds)) ≡ cond b (Some d) r
  placed_one true d ds r e = at_last (reverse ds) d (length ds + 1) (ap (λ n. n + 1) (sym (length-reverse ds)))
  placed_one false d ds r e =
      at_front (reverse ds) (d ∷ []) (latest_place test ds) (omega (arith, place_within test ds, length-reverse ds)) ∙ e

  placed : (ds : List Declaration) → at_place (reverse ds) (latest_place test ds) ≡ find test ds
  placed [] = refl
  placed (d ∷ ds) =
      ap (λ xs. at_place xs (latest_place test (d ∷ ds))) (reverse-append (d ∷ []) ds)
      ∙ placed_one (test d) d ds (find test ds) (placed ds)

  -- what stands at the place of the latest one is found
  pub found_at : (xs : List Declaration) → at_place xs (latest_place test (reverse xs)) ≡ find test (reverse xs)
  found_at xs = ap (λ ys. at_place ys (latest_place test (reverse xs))) (sym (reverse-reverse xs)) ∙ placed (reverse xs)

  some_place : (b : Bool) (n p : ℕ) (r : Bool) → not (p == 0) ≡ r → not (cond b (n + 1) p == 0) ≡ (b || r)
  some_place true n p r e = ap not (ne_eqb (n + 1) 0 (λ z. omega (arith, z)))
  some_place false n p r e = e

  -- there is one where it has a place
  pub any_at : (ds : List Declaration) → not (latest_place test ds == 0) ≡ list_any test ds
  any_at [] = refl
  any_at (d ∷ ds) = some_place (test d) (length ds) (latest_place test ds) (list_any test ds) (any_at ds)

-- the latest of those that pass one of two tests
either_step : (s t : Bool) (n p q : ℕ) → p ≤ n → q ≤ n → cond (s || t) (n + 1) (max p q) ≡ max (cond s (n + 1) p) (cond t (n + 1) q)
either_step true true n p q l m = omega (arith, l, m)
either_step true false n p q l m = omega (arith, l, m)
either_step false true n p q l m = omega (arith, l, m)
either_step false false n p q l m = refl

latest_either : (s t : Declaration → Bool) (ds : List Declaration) → latest_place (λ d. s d || t d) ds ≡ max (latest_place s ds) (latest_place t ds)
latest_either s t [] = refl
latest_either s t (d ∷ ds) =
    ap (λ p. cond (s d || t d) (length ds + 1) p) (latest_either s t ds)
    ∙ either_step (s d) (t d) (length ds) (latest_place s ds) (latest_place t ds) (place_within s ds) (place_within t ds)

-- ---- The latest one with linkage

eqb_pair : (a b c d : ℕ) → (a ≡ b → c ≡ d) → (c ≡ d → a ≡ b) → (a == b) ≡ (c == d)
eqb_pair a b c d there back =
    elim (cases_eq a b) [
      | inl same ↦ eq-eqb a b same ∙ sym (eq-eqb c d (there same))
      | inr other ↦ ne_eqb a b other ∙ sym (ne_eqb c d (λ e. other (back e)))
    ]

no_key : (n : ℕ) (b : Bool) → 0 < n → (n == 0) ≡ (b && false)
no_key n b l = ne_eqb n 0 (λ e. omega (arith, l, e)) ∙ and_none b

either_linkage : (b : Bool) (l : Linkage) → (b && has_linkage l) ≡ ((b && is_linkage l External) || (b && is_linkage l Internal))
either_linkage true External = refl
either_linkage true Internal = refl
either_linkage true Absent = refl
either_linkage false l = refl

not_external : (b : Bool) (l : Linkage) → (b && is_linkage l Internal) ≡ (b && (has_linkage l && not (is_linkage l External)))
not_external true External = refl
not_external true Internal = refl
not_external true Absent = refl
not_external false l = refl

not_internal : (b : Bool) (l : Linkage) → (b && is_linkage l External) ≡ (b && (has_linkage l && not (is_linkage l Internal)))
not_internal true External = refl
not_internal true Internal = refl
not_internal true Absent = refl
not_internal false l = refl

not_absent : (b : Bool) (l : Linkage) → (b && has_linkage l) ≡ (b && (has_linkage l && not (is_linkage l Absent)))
not_absent true External = refl
not_absent true Internal = refl
not_absent true Absent = refl
not_absent false l = refl

module _ (toks : List Token) (numbers : List ℕ) (are : AreNumbers toks numbers) (i : ℕ) where
  abbrev own : ℕ
  own = number_at numbers i

  keyed_at : (l other : Linkage) (space : Space) (j : ℕ) → has_linkage l ≡ true
      → (linkage_key numbers ordinary l i == linkage_key numbers space other j) ≡ ((is_space space ordinary && alike toks i j) && is_linkage other l)
  keyed_at External External ordinary j e =
      eqb_pair (own * 2 + 1) (number_at numbers j * 2 + 1) own (number_at numbers j) (λ s. omega (arith, s)) (λ s. omega (arith, s))
      ∙ (sym (are.same i j) ∙ and_true (alike toks i j))
  keyed_at External Internal ordinary j e =
      ne_eqb (own * 2 + 1) (number_at numbers j * 2 + 2) (λ s. omega (arith, s)) ∙ and_none (alike toks i j)
  keyed_at External Absent ordinary j e = no_key (own * 2 + 1) (alike toks i j) (omega arith)
  keyed_at External other tags j e = ne_eqb (own * 2 + 1) 0 (λ s. omega (arith, s))
  keyed_at External other (members n) j e = ne_eqb (own * 2 + 1) 0 (λ s. omega (arith, s))
  keyed_at External other (inner n) j e = ne_eqb (own * 2 + 1) 0 (λ s. omega (arith, s))
  keyed_at External other (unnamed n) j e = ne_eqb (own * 2 + 1) 0 (λ s. omega (arith, s))
  keyed_at External other (labels n) j e = ne_eqb (own * 2 + 1) 0 (λ s. omega (arith, s))
  keyed_at Internal External ordinary j e =
      ne_eqb (own * 2 + 2) (number_at numbers j * 2 + 1) (λ s. omega (arith, s)) ∙ and_none (alike toks i j)
  keyed_at Internal Internal ordinary j e =
      eqb_pair (own * 2 + 2) (number_at numbers j * 2 + 2) own (number_at numbers j) (λ s. omega (arith, s)) (λ s. omega (arith, s))
      ∙ (sym (are.same i j) ∙ and_true (alike toks i j))
  keyed_at Internal Absent ordinary j e = no_key (own * 2 + 2) (alike toks i j) (omega arith)
  keyed_at Internal other tags j e = ne_eqb (own * 2 + 2) 0 (λ s. omega (arith, s))
  keyed_at Internal other (members n) j e = ne_eqb (own * 2 + 2) 0 (λ s. omega (arith, s))
  keyed_at Internal other (inner n) j e = ne_eqb (own * 2 + 2) 0 (λ s. omega (arith, s))
  keyed_at Internal other (unnamed n) j e = ne_eqb (own * 2 + 2) 0 (λ s. omega (arith, s))
  keyed_at Internal other (labels n) j e = ne_eqb (own * 2 + 2) 0 (λ s. omega (arith, s))
  keyed_at Absent other space j e = cc

  module _ (xs : List Declaration) (links : Links) (a : AreChained (linkage_key_of numbers) xs links) where
    abbrev of : Linkage → Declaration → Bool
    of l d = is_named toks ordinary i d && is_linkage d.linkage l

    newest_is : (l : Linkage) → has_linkage l ≡ true → newest_linked links.newest numbers l i ≡ latest_place (of l) (reverse xs)
    newest_is l e =
        a.begins (linkage_key numbers ordinary l i)
        ∙ ap (λ (test : Declaration → Bool). latest_place test (reverse xs)) (fun_ext (λ (d : Declaration). keyed_at l d.linkage d.space d.name_at e))

    abbrev linked_test : Declaration → Bool
    linked_test d = is_named toks ordinary i d && has_linkage d.linkage

    linked_is : max (newest_linked links.newest numbers External i) (newest_linked links.newest numbers Internal i) ≡ latest_place linked_test (reverse xs)
    linked_is =
        ap (λ p. max p (newest_linked links.newest numbers Internal i)) (newest_is External refl)
        ∙ (ap (λ p. max (latest_place (of External) (reverse xs)) p) (newest_is Internal refl)
        ∙ (sym (latest_either (of External) (of Internal) (reverse xs))
        ∙ ap (λ (test : Declaration → Bool). latest_place test (reverse xs)) (fun_ext (λ (d : Declaration). sym (either_linkage (is_named toks ordinary i d) d.linkage)))))

    pub linked_found : (p : ℕ) → p ≡ max (newest_linked links.newest numbers External i) (newest_linked links.newest numbers Internal i)
        → at_place xs p ≡ find linked_test (reverse xs)
    linked_found p e = ap (at_place xs) (e ∙ linked_is) ∙ found_at linked_test xs

    abbrev other_test : Linkage → Declaration → Bool
    other_test l d = is_named toks ordinary i d && (has_linkage d.linkage && not (is_linkage d.linkage l))

    pub other_told : (l : Linkage) → has_other links.newest numbers l i ≡ list_any (other_test l) (reverse xs)
    other_told External =
        ap (λ p. not (p == 0)) (newest_is Internal refl)
        ∙ (any_at (of Internal) (reverse xs)
        ∙ ap (λ (test : Declaration → Bool). list_any test (reverse xs)) (fun_ext (λ (d : Declaration). not_external (is_named toks ordinary i d) d.linkage)))
    other_told Internal =
        ap (λ p. not (p == 0)) (newest_is External refl)
        ∙ (any_at (of External) (reverse xs)
        ∙ ap (λ (test : Declaration → Bool). list_any test (reverse xs)) (fun_ext (λ (d : Declaration). not_internal (is_named toks ordinary i d) d.linkage)))
    other_told Absent =
        ap (λ p. not (p == 0)) linked_is
        ∙ (any_at linked_test (reverse xs)
        ∙ ap (λ (test : Declaration → Bool). list_any test (reverse xs)) (fun_ext (λ (d : Declaration). not_absent (is_named toks ordinary i d) d.linkage)))
