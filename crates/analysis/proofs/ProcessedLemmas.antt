-- The identifiers of items that were reached, and their marks.
use Rattle.std.proofs.Common.{◌≡◌, ℕ, zero, suc, ◌+◌, ◌-◌, ◌<◌, ◌≤◌, Bool, true, nat_lt, List, [], ◌∷◌, ◌++◌, take, drop, length, Option, None, Some, Ok, refl, sym, ap, subst, ◌∙◌, inl, inr, arith, append-nil, append_assoc, take_all}
use Rattle.std.specs.Prelude.{slice_get, slice_range, Result, Err, OnOk}
use Rattle.std.specs.List.{filter, flat_map}
use Rattle.std.specs.Option.{option_map_or, option_and_then}
use Rattle.std.proofs.lemmas.Bool.{cases_Bool}
use Rattle.std.proofs.lemmas.Option.{same_Some}
use Rattle.cs_base.specs.Token.{Token}
use Rattle.cs_base.specs.Limits.{most_bytes}
use Rattle.cs_base.proofs.ListLemmas.{at_drop as drop_at, none_mapped}
use Rattle.lexer.specs.FileText.{TextValue, text_value, text_or_open, file_text}
use Rattle.lexer.specs.Tokens.{tokens_of, firsts_of, open_comment_of}
use Rattle.include_tree.specs.Below.line_shape.declared.items.Item.{Item}
use Rattle.include_tree.specs.Below.line_shape.Items.{items_of}
use Rattle.include_tree.specs.Below.line_shape.Signs.{is_name}
use Rattle.include_tree.specs.Below.unit_steps.declared.events.Reached.{Reached}
use Rattle.include_tree.specs.Below.source_files.Files.{Table}
use Rattle.include_tree.specs.Below.source_files.KeptFiles.{KeptValue, kept_at}
use Rattle.include_tree.specs.Walk.{ItemText, item_text}
use Rattle.analysis.specs.Marking.{MarksItem, Has, IsMarkedToken, MarksTokens}
use Rattle.analysis.specs.Naming.{nameable, item_at, names_in_item, names_reached}
use Rattle.analysis.proofs.NamingLemmas.{in_left, in_right, split_at, map_at, in_filter, filter_in}

-- ---- the text of a file

open_told : (file : ℕ) (bytes : List ℕ) (o : Option ℕ) (text : TextValue) → text_or_open file bytes o ≡ Ok text
    → (text.toks ≡ tokens_of file bytes) × (text.firsts ≡ firsts_of bytes)
unfolding text_value
open_told file bytes None text h =
    let same : text_value file bytes ≡ text = cc in
    (sym (ap (λ (t : TextValue). t.toks) same), sym (ap (λ (t : TextValue). t.firsts) same))
open_told file bytes (Some at) text h = absurd (cc)

pub text_told : (file : ℕ) (bytes : List ℕ) (text : TextValue) → file_text file bytes ≡ Ok text
    → (text.toks ≡ tokens_of file bytes) × (text.firsts ≡ firsts_of bytes)
unfolding file_text
text_told file bytes text h = elim (cases_Bool (nat_lt most_bytes (length bytes))) [
  | inl large ↦ let wrong = rw large at h in absurd (cc)
  | inr small ↦ open_told file bytes (open_comment_of bytes) text (rw small at h)
]

-- ---- ranges

take_at : {X : Type 0} (xs : List X) (n k : ℕ) → k < n → slice_get (take n xs) k ≡ slice_get xs k
take_at xs zero k less = absurd (omega arith)
take_at [] (suc n) k less = refl
take_at (x ∷ xs) (suc n) zero less = refl
take_at (x ∷ xs) (suc n) (suc k) less = take_at xs n k (omega arith)

taken_within : {X : Type 0} (xs : List X) (n k : ℕ) (x : X) → slice_get (take n xs) k ≡ Some x → k < n
taken_within xs zero k x e = absurd (cc)
taken_within [] (suc n) k x e = absurd (cc)
taken_within (y ∷ xs) (suc n) zero x e = omega arith
taken_within (y ∷ xs) (suc n) (suc k) x e = let h = taken_within xs n k x e in omega arith

-- what stands in a range stands in the list
range_has : {X : Type 0} (xs : List X) (from to k : ℕ) (x : X) → from ≤ k → k < to → slice_get xs k ≡ Some x → (j : ℕ) × (slice_get (slice_range xs from to) j ≡ Some x)
range_has xs from to k x begun less e =
    let back : from + (k - from) ≡ k = omega arith in
    (k - from, take_at (drop from xs) (to - from) (k - from) (omega arith) ∙ drop_at xs from (k - from) ∙ ap (slice_get xs) back ∙ e)

record InRange {X : Type 0} (xs : List X) (from to : ℕ) (x : X) : Type 0 where
  place : ℕ
  begins : from ≤ place
  ends : place < to
  at : slice_get xs place ≡ Some x

has_range : {X : Type 0} (xs : List X) (from to j : ℕ) (x : X) → slice_get (slice_range xs from to) j ≡ Some x → InRange xs from to x
has_range xs from to j x e =
    let within = taken_within (drop from xs) (to - from) j x e in
    record {
      place = from + j;
      begins = omega arith;
      ends = omega arith;
      at = sym (drop_at xs from j) ∙ sym (take_at (drop from xs) (to - from) j within) ∙ e;
    }

-- ---- items

reached_names : (table : Table) (r : Reached) (file : KeptValue) (item : Item) → kept_at table r.file ≡ Some file
    → slice_get (items_of (tokens_of file.number file.bytes) (firsts_of file.bytes)) r.item ≡ Some item
    → names_reached table r ≡ filter is_name (nameable item.kind r.evaluated (slice_range (tokens_of file.number file.bytes) item.from item.to))
reached_names table r file item is_kept at =
    let toks = tokens_of file.number file.bytes in
    let text : item_at r.item file ≡ Some (item_text toks item) = map_at (item_text toks) item (items_of toks (firsts_of file.bytes)) r.item at in
    ap (λ (o : Option KeptValue). option_map_or (names_in_item r.evaluated) (option_and_then (item_at r.item) o) []) is_kept
    ∙ ap (λ (o : Option ItemText). option_map_or (names_in_item r.evaluated) o []) text

pub item_marked : (table : Table) (r : Reached) (file : KeptValue) (item : Item) (old new : List (List Bool)) → kept_at table r.file ≡ Some file
    → slice_get (items_of (tokens_of file.number file.bytes) (firsts_of file.bytes)) r.item ≡ Some item
    → MarksItem r item (tokens_of file.number file.bytes) old new → MarksTokens table (names_reached table r) old new
item_marked table r file item old new is_kept at h =
    let toks = tokens_of file.number file.bytes in
    let names : names_reached table r ≡ filter is_name (slice_range toks h.from h.to) = reached_names table r file item is_kept at ∙ ap (filter is_name) h.range in
    record {
      all = λ t has.
          let there = subst (λ (ts : List Token). Has ts t) names has in
          let f = filter_in is_name t (slice_range toks h.from h.to) there in
          let place = has_range toks h.from h.to f.0.0 t f.0.1 in
          record {
            file = file;
            number = r.file;
            place = place.place;
            is_kept = is_kept;
            at = place.at;
            marked = h.marks.all place.place (record { token = t; at = place.at; name = f.1; begins = place.begins; ends = place.ends });
          };
      kept = h.marks.kept;
      only = λ m j marked. elim (h.marks.only m j marked) [
        | inl before ↦ inl before
        | inr is ↦ inr (λ other t other_kept there.
            let same : other ≡ file = same_Some other file (sym other_kept ∙ ap (kept_at table) is.0 ∙ is_kept) in
            let here : slice_get toks j ≡ Some t = ap (λ (f : KeptValue). slice_get (tokens_of f.number f.bytes) j) (sym same) ∙ there in
            let name : is_name t ≡ true = ap is_name (same_Some t is.1.token (sym here ∙ is.1.at)) ∙ is.1.name in
            subst (λ (ts : List Token). Has ts t) (sym names)
            (in_filter is_name t (slice_range toks h.from h.to) name (range_has toks h.from h.to j t is.1.begins is.1.ends here)))
      ];
    }

pub no_item : (table : Table) (r : Reached) (file : KeptValue) → kept_at table r.file ≡ Some file
    → slice_get (items_of (tokens_of file.number file.bytes) (firsts_of file.bytes)) r.item ≡ None → names_reached table r ≡ []
no_item table r file is_kept none =
    let toks = tokens_of file.number file.bytes in
    let text : item_at r.item file ≡ None = none_mapped (item_text toks) (items_of toks (firsts_of file.bytes)) r.item none in
    ap (λ (o : Option KeptValue). option_map_or (names_in_item r.evaluated) (option_and_then (item_at r.item) o) []) is_kept
    ∙ ap (λ (o : Option ItemText). option_map_or (names_in_item r.evaluated) o []) text

-- ---- one after another

pub marks_none : (table : Table) (names : List Token) (marks : List (List Bool)) → names ≡ [] → MarksTokens table names marks marks
marks_none table names marks none = record {
  all = λ t has. absurd (let e : slice_get [] has.0 ≡ Some t = ap (λ (ts : List Token). slice_get ts has.0) (sym none) ∙ has.1 in cc);
  kept = λ m j marked. marked;
  only = λ m j marked. inl marked;
}

pub marks_then : (table : Table) (names more : List Token) (old mid new : List (List Bool)) → MarksTokens table names old mid → MarksTokens table more mid new
    → MarksTokens table (names ++ more) old new
marks_then table names more old mid new first second = record {
  all = λ t has. split_at (IsMarkedToken table new t) t names more has.0 has.1
      (λ i. let m = first.all t i in
      record { file = m.file; number = m.number; place = m.place; is_kept = m.is_kept; at = m.at; marked = second.kept m.number m.place m.marked })
      (λ i. second.all t i);
  kept = λ m j marked. second.kept m j (first.kept m j marked);
  only = λ m j marked. elim (second.only m j marked) [
    | inl before ↦ elim (first.only m j before) [
      | inl initial ↦ inl initial
      | inr is ↦ inr (λ file t is_kept at. in_left t names more (is file t is_kept at))
    ]
    | inr is ↦ inr (λ file t is_kept at. in_right t names more (is file t is_kept at))
  ];
}

flat_map_more : {X : Type 0} (f : X → List Token) (xs : List X) (k : ℕ) (x : X) → slice_get xs k ≡ Some x
    → flat_map f (take (suc k) xs) ≡ flat_map f (take k xs) ++ f x
flat_map_more f [] k x e = absurd (cc)
flat_map_more f (y ∷ xs) zero x e = append-nil (f y) ∙ ap f (same_Some y x e)
flat_map_more f (y ∷ xs) (suc k) x e =
    ap (λ (ts : List Token). f y ++ ts) (flat_map_more f xs k x e) ∙ sym (append_assoc (f y) (flat_map f (take k xs)) (f x))

pub marks_more : {X : Type 0} (table : Table) (f : X → List Token) (xs : List X) (k : ℕ) (x : X) (old mid new : List (List Bool)) → slice_get xs k ≡ Some x
    → MarksTokens table (flat_map f (take k xs)) old mid → MarksTokens table (f x) mid new → MarksTokens table (flat_map f (take (k + 1) xs)) old new
marks_more table f xs k x old mid new at first second =
    let e : k + 1 ≡ suc k = omega arith in
    subst (λ (ts : List Token). MarksTokens table ts old new) (sym (flat_map_more f xs k x at) ∙ ap (λ (n : ℕ). flat_map f (take n xs)) (sym e))
    (marks_then table (flat_map f (take k xs)) (f x) old mid new first second)

pub marks_all : {X : Type 0} (table : Table) (f : X → List Token) (xs : List X) (k : ℕ) (old new : List (List Bool)) → length xs ≤ k
    → MarksTokens table (flat_map f (take k xs)) old new → MarksTokens table (flat_map f xs) old new
marks_all table f xs k old new past h =
    subst (λ (ts : List _). MarksTokens table (flat_map f ts) old new) (take_all k xs past) h

pub on_ok : {X F : Type 0} (P Q : Type 0) (r : Result X F) → OnOk r P → (P → Q) → OnOk r Q
on_ok P Q (Ok x) h f = f h
on_ok P Q (Err e) h f = tt
