-- All names of an entity are linked with its first occurrence in the unit.
use Rattle.std.proofs.Common.{◌≡◌, ℕ, zero, suc, ◌+◌, ◌==◌, ◌&&◌, if◌then◌else◌, Bool, true, false, List, [], ◌∷◌, ◌++◌, length, reverse, Option, None, Some, inl, inr, refl, sym, ap, subst, ◌∙◌, arith}
use mathlib.Core.List.{reverse-cons}
use Rattle.std.specs.Prelude.{slice_get, find, option_map}
use Rattle.std.specs.List.{flat_map, list_all, All}
use Rattle.std.specs.Option.{option_map_or}
use Rattle.std.specs.Str.{bytes_eq}
use Rattle.std.proofs.lemmas.Bool.{cases_Bool, both_ways, and_from, eqb-true}
use Rattle.std.proofs.lemmas.List.Elements.{All-nil, All-cons, All-head, All-tail}
use Rattle.std.proofs.lemmas.Option.{same_Some}
use Rattle.tree_laws.proofs.Below.c99_read.ReadLemmas.{sign_class}
use Rattle.analysis.specs.Below.c99_grammar.declared.dialects.Edition.{Edition}
use Rattle.cs_base.specs.declared.tokens.Kind.{Kind}
use Rattle.cs_base.specs.declared.tokens.Kind.TheVariants as kind
use Rattle.cs_base.specs.declared.tokens.Link.{Link}
use Rattle.cs_base.specs.Token.{Token}
use Rattle.line_shape.specs.Signs.{is_name}
use Rattle.line_shape.specs.Signs as signs
use Rattle.analysis.specs.Below.linkage_join.Linkage.{link_to, links_of as external_links}
use Rattle.analysis.specs.Below.c99_grammar.Spellings.{punctuators}
use Rattle.analysis.specs.Below.c99_grammar.Standard.{iso}
use Rattle.analysis.specs.Below.c99_read.State.{base_at, is_identifier}
use Rattle.analysis.specs.Below.c99_grammar.TokenClasses.{class_of_kind, base_class}
use Rattle.analysis.specs.Below.scope_bind.declared.bound.Name.{Name}
use Rattle.analysis.specs.Below.scope_bind.Names.{entity_at}
use Rattle.analysis.specs.Analysis.{UnitAnalysis, AnalysisValue}
use Rattle.analysis.specs.Links.{is_bound_to, first_occurrence, occurrence_link, occurrence_links, names_of_units, are_alike, unit_links, links_of}
use Rattle.analysis.proofs.NamingLemmas.{split_at, in_left, in_right, in_filter}
use Rattle.analysis.proofs.FirstLemmas.{bound_same as bound_to}
use Rattle.edited_unit_laws.proofs.ListLemmas.{In, AllOf, found, in_flat}

-- ---- lists

pub all_listed : {X : Type 0} (P : X → Type 0) (xs : List X) → All P xs → AllOf P xs
all_listed P [] all = tt
all_listed P (x ∷ xs) all = (All-head P x xs all, all_listed P xs (All-tail P x xs all))

pub all_said : {X : Type 0} (P : X → Type 0) (xs : List X) → ((x : X) → In x xs → P x) → All P xs
all_said P [] each = All-nil P
all_said P (x ∷ xs) each = All-cons P x xs (each x (0, refl)) (all_said P xs (λ y j. each y (suc j.0, j.1)))

pub all_pass : {X : Type 0} (test : X → Bool) (xs : List X) → AllOf (λ x. test x ≡ true) xs → list_all test xs ≡ true
all_pass test [] all = refl
all_pass test (x ∷ xs) all = and_from (test x) (list_all test xs) all.0 (all_pass test xs all.1)

in_reverse : {X : Type 0} (x : X) (xs : List X) → In x (reverse xs) → In x xs
in_reverse x [] i = i
in_reverse {X = X} x (y ∷ xs) i =
    let j : In x (reverse xs ++ y ∷ []) = subst (λ (ys : List X). In x ys) (reverse-cons y xs) i in
    split_at (In x (y ∷ xs)) x (reverse xs) (y ∷ []) j.0 j.1 (λ k. let n = in_reverse x xs k in (suc n.0, n.1)) (λ k. only k.0 k.1)
  where
    only : (k : ℕ) → slice_get (y ∷ []) k ≡ Some x → In x (y ∷ xs)
    only zero e = (0, e)
    only (suc k) e = absurd (cc)

-- ---- names

-- what a token is bound to, it is by a name
pub bound_name : (names : List Name) (k e : ℕ) → entity_at names k ≡ Some e → (n : Name) × In n names × (n.index ≡ k) × (n.entity ≡ e)
bound_name names k e at = by (find (λ (n : Name). n.index == k) (reverse names)) refl at
  where
    by : (o : Option Name) → find (λ (n : Name). n.index == k) (reverse names) ≡ o → option_map (λ (n : Name). n.entity) o ≡ Some e
        → (n : Name) × In n names × (n.index ≡ k) × (n.entity ≡ e)
    by None is f = absurd (cc)
    by (Some n) is f =
        let r = found (λ (m : Name). m.index == k) (reverse names) n is in
        (n, in_reverse n names r.0, eqb-true n.index k r.1, same_Some n.entity e f)

pub entity_of : (names : List Name) (e k : ℕ) → is_bound_to names e k ≡ true → entity_at names k ≡ Some e
entity_of names e k bound = by (entity_at names k) bound
  where
    by : (o : Option ℕ) → option_map_or (λ (x : ℕ). x == e) o false ≡ true → o ≡ Some e
    by None b = absurd (cc)
    by (Some x) b = ap (λ (n : ℕ). Some n) (eqb-true x e b)

-- ---- first occurrences

-- The first occurrence of an entity among tokens, the first of which has number k.
pub record IsFirst (names : List Name) (e k : ℕ) (toks : List Token) : Type 0 where
  pub token : Token
  pub place : ℕ
  pub first : first_occurrence names e k toks ≡ Some token
  pub there : slice_get toks place ≡ Some token
  pub bound : is_bound_to names e (k + place) ≡ true

first_here : (names : List Name) (e k : ℕ) (x : Token) (toks : List Token) → is_bound_to names e k ≡ true → IsFirst names e k (x ∷ toks)
unfolding first_occurrence
first_here names e k x toks bound = record {
  token = x;
  place = 0;
  first = rw bound refl;
  there = refl;
  bound = (let same : k ≡ k + 0 = omega arith in subst (λ (n : ℕ). is_bound_to names e n ≡ true) same bound);
}

first_later : (names : List Name) (e k : ℕ) (x : Token) (toks : List Token) → is_bound_to names e k ≡ false → IsFirst names e (k + 1) toks
    → IsFirst names e k (x ∷ toks)
unfolding first_occurrence
first_later names e k x toks other f = record {
  token = f.token;
  place = suc f.place;
  first = rw other f.first;
  there = f.there;
  bound = (let same : k + 1 + f.place ≡ k + suc f.place = omega arith in subst (λ (n : ℕ). is_bound_to names e n ≡ true) same f.bound);
}

first_of : (names : List Name) (e k : ℕ) (toks : List Token) (j : ℕ) (t : Token) → slice_get toks j ≡ Some t → is_bound_to names e (k + j) ≡ true
    → IsFirst names e k toks
first_of names e k [] j t at bound = absurd (cc)
first_of names e k (x ∷ toks) zero t at bound =
    let same : k + 0 ≡ k = omega arith in
    first_here names e k x toks (subst (λ (n : ℕ). is_bound_to names e n ≡ true) same bound)
first_of names e k (x ∷ toks) (suc j) t at bound = elim (cases_Bool (is_bound_to names e k)) [
  | inl here ↦ first_here names e k x toks here
  | inr other ↦
      let same : k + suc j ≡ k + 1 + j = omega arith in
      first_later names e k x toks other (first_of names e (k + 1) toks j t at (subst (λ (n : ℕ). is_bound_to names e n ≡ true) same bound))
]

pub first_bound : (names : List Name) (e : ℕ) (toks : List Token) (j : ℕ) (t : Token) → slice_get toks j ≡ Some t → entity_at names j ≡ Some e
    → IsFirst names e 0 toks
first_bound names e toks j t at bound =
    let same : j ≡ 0 + j = omega arith in
    first_of names e 0 toks j t at (subst (λ (n : ℕ). is_bound_to names e n ≡ true) same (bound_to names e j bound))

pub first_entity : (names : List Name) (e : ℕ) (toks : List Token) → (f : IsFirst names e 0 toks) → entity_at names f.place ≡ Some e
first_entity names e toks f =
    let same : 0 + f.place ≡ f.place = omega arith in
    entity_of names e f.place (subst (λ (n : ℕ). is_bound_to names e n ≡ true) same f.bound)

-- ---- links

abbrev pub joined : Token → Token → Link
joined t first = record { x = t; y = first }

in_occurrences : (names : List Name) (all : List Token) (l : Link) (k : ℕ) (toks : List Token) (j : ℕ) (t : Token) → slice_get toks j ≡ Some t
    → In l (occurrence_link names all t (entity_at names (k + j))) → In l (occurrence_links names all k toks)
unfolding occurrence_links
in_occurrences names all l k [] j t at i = absurd (cc)
in_occurrences names all l k (x ∷ toks) zero t at i =
    let same : k + 0 ≡ k = omega arith in
    let here : In l (occurrence_link names all t (entity_at names k)) = subst (λ (n : ℕ). In l (occurrence_link names all t (entity_at names n))) same i in
    in_left l (occurrence_link names all x (entity_at names k)) (occurrence_links names all (k + 1) toks)
    (subst (λ (y : Token). In l (occurrence_link names all y (entity_at names k))) (sym (same_Some x t at)) here)
in_occurrences names all l k (x ∷ toks) (suc j) t at i =
    let same : k + suc j ≡ k + 1 + j = omega arith in
    in_right l (occurrence_link names all x (entity_at names k)) (occurrence_links names all (k + 1) toks)
    (in_occurrences names all l (k + 1) toks j t at (subst (λ (n : ℕ). In l (occurrence_link names all t (entity_at names n))) same i))

one_link : (names : List Name) (all : List Token) (t first : Token) (e : ℕ) (o : Option ℕ) → o ≡ Some e → first_occurrence names e 0 all ≡ Some first
    → In (joined t first) (occurrence_link names all t o)
one_link names all t first e o bound is =
    let whole : occurrence_link names all t o ≡ joined t first ∷ [] =
    ap (λ (p : Option ℕ). occurrence_link names all t p) bound ∙ ap (λ (p : Option Token). link_to p t) is in
    subst (λ (ls : List Link). In (joined t first) ls) (sym whole) (0, refl)

-- a token that is bound to an entity, and the first that is, are linked, if both are identifiers of one spelling
pub names_linked : (a : AnalysisValue) (u : UnitAnalysis) → In u a.units → (j e : ℕ) (t : Token) → slice_get u.text.toks j ≡ Some t
    → entity_at u.bound.names j ≡ Some e → (f : IsFirst u.bound.names e 0 u.text.toks) → is_name t ≡ true → is_name f.token ≡ true
    → bytes_eq t.text f.token.text ≡ true → In (joined t f.token) (links_of a)
unfolding links_of
names_linked a u i j e t at bound f named also same =
    let names : List Name = u.bound.names in
    let toks : List Token = u.text.toks in
    let l : Link = joined t f.token in
    let zero_ : j ≡ 0 + j = omega arith in
    let one : In l (occurrence_links names toks 0 toks) =
    in_occurrences names toks l 0 toks j t at (one_link names toks t f.token e (entity_at names (0 + j)) (ap (λ (n : ℕ). entity_at names n) (sym zero_) ∙ bound) f.first) in
    let own : In l (flat_map unit_links a.units) = in_flat unit_links a.units u l i (in_right l u.text.links (occurrence_links names toks 0 toks) one) in
    let external : List Link = external_links (names_of_units a.workspace.units a.units) in
    in_filter are_alike l (flat_map unit_links a.units ++ external)
    (and_from (is_name t && is_name f.token) (bytes_eq t.text f.token.text) (and_from (is_name t) (is_name f.token) named also) same)
    (in_left l (flat_map unit_links a.units) external own)

-- ---- classes

kind_named : (std : Edition) (k : Kind) (text : List ℕ) → is_identifier (class_of_kind (iso std) k text) ≡ true → signs.is_identifier k ≡ true
kind_named std kind.Ident text h = refl
kind_named std kind.Punct text h = absurd (both_ways (is_identifier (class_of_kind (iso std) kind.Punct text)) (sign_class punctuators text _ refl refl) h)
kind_named std kind.Number text h = absurd (both_ways (is_identifier (class_of_kind (iso std) kind.Number text)) refl h)
kind_named std kind.Char text h = absurd (both_ways (is_identifier (class_of_kind (iso std) kind.Char text)) refl h)
kind_named std kind.Str text h = absurd (both_ways (is_identifier (class_of_kind (iso std) kind.Str text)) refl h)
kind_named std kind.Header text h = absurd (both_ways (is_identifier (class_of_kind (iso std) kind.Header text)) refl h)
kind_named std kind.Other text h = absurd (both_ways (is_identifier (class_of_kind (iso std) kind.Other text)) refl h)

class_named : (std : Edition) (t : Token) → is_identifier (base_class (iso std) t) ≡ true → is_name t ≡ true
unfolding base_class
class_named std t h = kind_named std t.kind t.text h

-- an identifier, as reading sees it, is one
pub named_token : (std : Edition) (toks : List Token) (k : ℕ) → is_identifier (base_at (iso std) toks k) ≡ true → (t : Token) × (slice_get toks k ≡ Some t) × (is_name t ≡ true)
named_token std toks k h = by (slice_get toks k) (k == length toks) refl h
  where
    by : (o : Option Token) (c : Bool) → slice_get toks k ≡ o
        → is_identifier (option_map_or (base_class (iso std)) o (if c then base_at (iso std) [] 0 else base_at (iso std) [] 1)) ≡ true
        → (t : Token) × (slice_get toks k ≡ Some t) × (is_name t ≡ true)
    by None true at is = absurd (both_ways (is_identifier (base_at (iso std) [] 0)) refl is)
    by None false at is = absurd (both_ways (is_identifier (base_at (iso std) [] 1)) refl is)
    by (Some t) c at is = (t, at, class_named std t is)
