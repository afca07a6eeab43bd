-- What a place names is a character of a file token.
use Rattle.std.proofs.Common.{◌≡◌, ℕ, zero, suc, ◌+◌, ◌-◌, Bool, true, false, cond, List, [], ◌∷◌, ◌++◌, map, take, drop, Option, None, Some, refl, sym, ap, subst, ◌∙◌, arith}
use Rattle.std.specs.Prelude.{◌||◌, slice_get, slice_range}
use Rattle.std.specs.List.{filter, flat_map, list_any}
use Rattle.std.specs.Option.{option_map_or, option_and_then}
use Rattle.std.proofs.lemmas.Option.{same_Some}
use Rattle.macro_expand.proofs.Below.macro_body.Below.line_shape.SignLemmas.{name_kept}
use Rattle.cs_base.specs.declared.tokens.Kind.TheVariants as token_kind
use Rattle.cs_base.specs.declared.positions.Pos.{Pos}
use Rattle.cs_base.specs.Token.{Token, has_origins}
use Rattle.lexer.specs.Tokens.{tokens_of, firsts_of}
use Rattle.include_tree.specs.Below.line_shape.declared.items.ItemKind.{ItemKind}
use Rattle.include_tree.specs.Below.line_shape.declared.items.ItemKind.TheVariants as kind
use Rattle.include_tree.specs.Below.line_shape.declared.items.GnuLine.TheVariants as gnu
use Rattle.include_tree.specs.Below.line_shape.Items.{items_of}
use Rattle.include_tree.specs.Below.line_shape.Signs.{is_name}
use Rattle.include_tree.specs.Below.source_files.Files.{Table}
use Rattle.include_tree.specs.Below.source_files.HeaderNames.{is_header, begins_header}
use Rattle.include_tree.specs.Below.source_files.KeptFiles.{KeptValue, kept_in, kept_at}
use Rattle.include_tree.specs.Walk.{ItemText, item_text, item_texts}
use Rattle.eclass_map.specs.Positions.{holds}
use Rattle.analysis.specs.Analysis.{UnitAnalysis, AnalysisValue}
use Rattle.analysis.specs.FileTokens.{kept_tokens, entry_tokens, table_tokens, numbers_brought, file_tokens, span_of, IsFileToken}
use Rattle.analysis.specs.Naming.{computed_name, nameable, item_at, names_in_item, names_reached, names_processed, is_processed, file_named, character_of, where_processed, named_position}
use Rattle.analysis.specs.Parts.{IsCharacter}

-- ---- elements of lists

-- the list has the element
abbrev pub In : {X : Type 0} → X → List X → Type 0
In x xs = (k : ℕ) × (slice_get xs k ≡ Some x)

in_more : {X : Type 0} (x y : X) (xs : List X) → In x xs → In x (y ∷ xs)
in_more x y xs i = (suc i.0, i.1)

left_at : {X : Type 0} (x : X) (xs ys : List X) (k : ℕ) → slice_get xs k ≡ Some x → In x (xs ++ ys)
left_at x [] ys k e = absurd (cc)
left_at x (y ∷ xs) ys zero e = (0, e)
left_at x (y ∷ xs) ys (suc k) e = in_more x y (xs ++ ys) (left_at x xs ys k e)

pub in_left : {X : Type 0} (x : X) (xs ys : List X) → In x xs → In x (xs ++ ys)
in_left x xs ys i = left_at x xs ys i.0 i.1

pub in_right : {X : Type 0} (x : X) (xs ys : List X) → In x ys → In x (xs ++ ys)
in_right x [] ys i = i
in_right x (y ∷ xs) ys i = in_more x y (xs ++ ys) (in_right x xs ys i)

pub split_at : {X : Type 0} (P : Type 0) (x : X) (xs ys : List X) (k : ℕ) → slice_get (xs ++ ys) k ≡ Some x → (In x xs → P) → (In x ys → P) → P
split_at P x [] ys k e l r = r (k, e)
split_at P x (y ∷ xs) ys zero e l r = l (0, e)
split_at P x (y ∷ xs) ys (suc k) e l r = split_at P x xs ys k e (λ i. l (in_more x y xs i)) r

pub map_at : {X Y : Type 0} (f : X → Y) (x : X) (xs : List X) (k : ℕ) → slice_get xs k ≡ Some x → slice_get (map f xs) k ≡ Some (f x)
map_at f x [] k e = absurd (cc)
map_at f x (y ∷ xs) zero e = ap (λ z. Some (f z)) (same_Some y x e)
map_at f x (y ∷ xs) (suc k) e = map_at f x xs k e

pub at_map : {X Y : Type 0} (f : X → Y) (y : Y) (xs : List X) (k : ℕ) → slice_get (map f xs) k ≡ Some y → (x : X) × (y ≡ f x)
at_map f y [] k e = absurd (cc)
at_map f y (x ∷ xs) zero e = (x, sym (same_Some (f x) y e))
at_map f y (x ∷ xs) (suc k) e = at_map f y xs k e

in_flat_map : {X Y : Type 0} (f : X → List Y) (y : Y) (xs : List X) → In y (flat_map f xs) → (x : X) × In y (f x)
in_flat_map f y [] i = absurd (cc)
in_flat_map f y (x ∷ xs) i = split_at _ y (f x) (flat_map f xs) i.0 i.1 (λ j. (x, j)) (λ j. in_flat_map f y xs j)

drop_at : {X : Type 0} (x : X) (n : ℕ) (xs : List X) → In x (drop n xs) → In x xs
drop_at x zero xs i = i
drop_at x (suc n) [] i = i
drop_at x (suc n) (y ∷ xs) i = in_more x y xs (drop_at x n xs i)

take_at : {X : Type 0} (x : X) (n : ℕ) (xs : List X) (k : ℕ) → slice_get (take n xs) k ≡ Some x → In x xs
take_at x zero xs k e = absurd (cc)
take_at x (suc n) [] k e = absurd (cc)
take_at x (suc n) (y ∷ xs) zero e = (0, e)
take_at x (suc n) (y ∷ xs) (suc k) e = in_more x y xs (take_at x n xs k e)

-- what passes a test stands among those that do
filter_by : {X : Type 0} (x y : X) (xs : List X) (b : Bool) → (y ≡ x → b ≡ true) → In x (y ∷ xs) → (ys : List X) → (In x xs → In x ys) → In x (cond b (y ∷ ys) ys)
filter_by x y xs true h i ys more = by_place i.0 i.1
  where
    by_place : (k : ℕ) → slice_get (y ∷ xs) k ≡ Some x → In x (y ∷ ys)
    by_place zero e = (0, e)
    by_place (suc k) e = in_more x y ys (more (k, e))
filter_by x y xs false h i ys more = by_place i.0 i.1
  where
    by_place : (k : ℕ) → slice_get (y ∷ xs) k ≡ Some x → In x ys
    by_place zero e = let no : false ≡ true = h (same_Some y x e) in absurd (cc)
    by_place (suc k) e = more (k, e)

pub in_filter : {X : Type 0} (test : X → Bool) (x : X) (xs : List X) → test x ≡ true → In x xs → In x (filter test xs)
in_filter test x [] h i = absurd (cc)
in_filter test x (y ∷ xs) h i =
    filter_by x y xs (test y) (λ e. ap test e ∙ h) i (filter test xs) (λ j. in_filter test x xs h j)

filtered_by : {X : Type 0} (test : X → Bool) (x y : X) (xs ys : List X) (b : Bool) → test y ≡ b → (In x ys → In x xs × (test x ≡ true))
    → (k : ℕ) → slice_get (cond b (y ∷ ys) ys) k ≡ Some x → In x (y ∷ xs) × (test x ≡ true)
filtered_by test x y xs ys true h more zero e = ((0, e), ap test (sym (same_Some y x e)) ∙ h)
filtered_by test x y xs ys true h more (suc k) e = let r = more (k, e) in (in_more x y xs r.0, r.1)
filtered_by test x y xs ys false h more k e = let r = more (k, e) in (in_more x y xs r.0, r.1)

pub filter_in : {X : Type 0} (test : X → Bool) (x : X) (xs : List X) → In x (filter test xs) → In x xs × (test x ≡ true)
filter_in test x [] i = absurd (cc)
filter_in test x (y ∷ xs) i = filtered_by test x y xs (filter test xs) (test y) refl (λ j. filter_in test x xs j) i.0 i.1

any_by : {X : Type 0} (test : X → Bool) (y : X) (xs : List X) (b : Bool) → test y ≡ b → (list_any test xs ≡ true → (x : X) × In x xs × (test x ≡ true))
    → (b || list_any test xs) ≡ true → (x : X) × In x (y ∷ xs) × (test x ≡ true)
any_by test y xs true h more e = (y, (0, refl), h)
any_by test y xs false h more e = let r = more e in (r.0, in_more r.0 y xs r.1, r.2)

pub any_in : {X : Type 0} (test : X → Bool) (xs : List X) → list_any test xs ≡ true → (x : X) × In x xs × (test x ≡ true)
any_in test [] e = absurd (cc)
any_in test (y ∷ xs) e = any_by test y xs (test y) refl (λ more. any_in test xs more) e

-- ---- items

computed_in : (t : Token) (toks : List Token) → In t (computed_name toks) → In t toks
computed_in t [] i = i
computed_in t (u ∷ toks) i = by_kind (is_header u.kind) i
  where
    by_kind : (b : Bool) → In t (cond b [] (u ∷ toks)) → In t (u ∷ toks)
    by_kind true j = absurd (cc)
    by_kind false j = j

next_in : (t : Token) (toks : List Token) (b : Bool) → In t (cond b [] toks) → In t toks
next_in t toks true i = absurd (cc)
next_in t toks false i = i

nameable_in : (k : ItemKind) (evaluated : Bool) (t : Token) (toks : List Token) → In t (nameable k evaluated toks) → In t toks
nameable_in kind.Run evaluated t toks i = i
nameable_in kind.Define evaluated t toks i = drop_at t 2 toks i
nameable_in kind.Undef evaluated t toks i = drop_at t 2 toks (take_at t 1 (drop 2 toks) i.0 i.1)
nameable_in kind.Ifdef evaluated t toks i = drop_at t 2 toks (take_at t 1 (drop 2 toks) i.0 i.1)
nameable_in kind.Ifndef evaluated t toks i = drop_at t 2 toks (take_at t 1 (drop 2 toks) i.0 i.1)
nameable_in kind.If true t toks i = drop_at t 2 toks i
nameable_in kind.If false t toks i = absurd (cc)
nameable_in kind.Elif true t toks i = drop_at t 2 toks i
nameable_in kind.Elif false t toks i = absurd (cc)
nameable_in kind.Include evaluated t toks i = drop_at t 2 toks (computed_in t (drop 2 toks) i)
nameable_in kind.Else evaluated t toks i = absurd (cc)
nameable_in kind.Endif evaluated t toks i = absurd (cc)
nameable_in kind.Line evaluated t toks i = absurd (cc)
nameable_in kind.Error evaluated t toks i = absurd (cc)
nameable_in kind.Pragma evaluated t toks i = absurd (cc)
nameable_in kind.Empty evaluated t toks i = absurd (cc)
nameable_in (kind.Bad cause at nests) evaluated t toks i = absurd (cc)
nameable_in (kind.Gnu gnu.IncludeNext) evaluated t toks i = drop_at t 2 toks (next_in t (drop 2 toks) (begins_header (drop 2 toks)) i)
nameable_in (kind.Gnu gnu.Message) evaluated t toks i = absurd (cc)
nameable_in (kind.Gnu gnu.Elifdef) true t toks i = drop_at t 2 toks (take_at t 1 (drop 2 toks) i.0 i.1)
nameable_in (kind.Gnu gnu.Elifdef) false t toks i = absurd (cc)
nameable_in (kind.Gnu gnu.Elifndef) true t toks i = drop_at t 2 toks (take_at t 1 (drop 2 toks) i.0 i.1)
nameable_in (kind.Gnu gnu.Elifndef) false t toks i = absurd (cc)

-- the tokens of an item are tokens of its file
item_in : (toks : List Token) (firsts : List Bool) (k : ℕ) (i : ItemText) (t : Token) → slice_get (item_texts toks firsts) k ≡ Some i → In t i.toks → In t toks
item_in toks firsts k i t e there =
    let from = at_map (item_text toks) i (items_of toks firsts) k e in
    let there2 : In t (slice_range toks from.0.from from.0.to) = subst (λ (x : ItemText). In t x.toks) from.1 there in
    drop_at t from.0.from toks (take_at t (from.0.to - from.0.from) (drop from.0.from toks) there2.0 there2.1)

named_item : (evaluated : Bool) (toks : List Token) (firsts : List Bool) (k : ℕ) (t : Token) (o : Option ItemText) → slice_get (item_texts toks firsts) k ≡ o
    → In t (option_map_or (names_in_item evaluated) o []) → In t toks × (is_name t ≡ true)
named_item evaluated toks firsts k t None e i = absurd (cc)
named_item evaluated toks firsts k t (Some x) e i =
    let f = filter_in is_name t (nameable x.kind evaluated x.toks) i in
    (item_in toks firsts k x t e (nameable_in x.kind evaluated t x.toks f.0), f.1)

-- ---- files

-- an identifier of a kept file, of which the table tells
record KeptName (table : Table) (t : Token) : Type 0 where
  number : ℕ
  file : KeptValue
  is_kept : kept_at table number ≡ Some file
  there : In t (kept_tokens file)

reached_kept : (table : Table) (number k : ℕ) (evaluated : Bool) (t : Token) (o : Option KeptValue) → kept_at table number ≡ o
    → In t (option_map_or (names_in_item evaluated) (option_and_then (item_at k) o) []) → KeptName table t
reached_kept table number k evaluated t None e i = absurd (cc)
reached_kept table number k evaluated t (Some f) e i =
    let n = named_item evaluated (tokens_of f.number f.bytes) (firsts_of f.bytes) k t (item_at k f) refl i in
    record {
      number = number;
      file = f;
      is_kept = e;
      there = in_filter (λ (u : Token). has_origins u.kind) t (tokens_of f.number f.bytes) (name_kept t.kind n.1) n.0;
    }

processed_kept : (a : AnalysisValue) (t : Token) → In t (names_processed a) → KeptName a.table t
unfolding names_processed
processed_kept a t i =
    let u = in_flat_map (λ (u : UnitAnalysis). flat_map (names_reached a.table) u.text.reached) t a.units i in
    let r = in_flat_map (names_reached a.table) t u.0.text.reached u.1 in
    reached_kept a.table r.0.file r.0.item r.0.evaluated t (kept_at a.table r.0.file) refl r.1

-- the tokens of an entry are among those of the table
table_has : (table : Table) (m k : ℕ) (f : KeptValue) (t : Token) → option_and_then (kept_in (m + k)) (slice_get table k) ≡ Some f → In t (kept_tokens f) → In t (table_tokens m table)
unfolding table_tokens
table_has [] m k f t e i = absurd (cc)
table_has (x ∷ table) m zero f t e i =
    let same : m + 0 ≡ m = omega arith in
    let here : kept_in m x ≡ Some f = ap (λ (n : ℕ). kept_in n x) (sym same) ∙ e in
    let toks : entry_tokens m x ≡ kept_tokens f = ap (λ (o : Option KeptValue). option_map_or kept_tokens o []) here in
    in_left t (entry_tokens m x) (table_tokens (m + 1) table) (subst (λ (ts : List Token). In t ts) (sym toks) i)
table_has (x ∷ table) m (suc k) f t e i =
    let same : m + suc k ≡ (m + 1) + k = omega arith in
    let there : option_and_then (kept_in ((m + 1) + k)) (slice_get table k) ≡ Some f =
    ap (λ (n : ℕ). option_and_then (kept_in n) (slice_get table k)) (sym same) ∙ e in
    in_right t (entry_tokens m x) (table_tokens (m + 1) table) (table_has table (m + 1) k f t there i)

file_token : (a : AnalysisValue) (t : Token) → KeptName a.table t → IsFileToken a (span_of t)
unfolding file_tokens
file_token a t n =
    let same : 0 + n.number ≡ n.number = omega arith in
    let told : option_and_then (kept_in (0 + n.number)) (slice_get a.table n.number) ≡ Some n.file =
    ap (λ (m : ℕ). option_and_then (kept_in m) (slice_get a.table n.number)) same ∙ n.is_kept in
    let there = table_has a.table 0 n.number n.file t told n.there in
    let all = in_left t (table_tokens 0 a.table) (flat_map (λ (u : UnitAnalysis). numbers_brought u.text) a.units) there in
    (all.0, map_at span_of t (table_tokens 0 a.table ++ flat_map (λ (u : UnitAnalysis). numbers_brought u.text) a.units) all.0 all.1)

-- ---- places

pub processed_character : (a : AnalysisValue) (p : Pos) → is_processed a p ≡ true → IsCharacter a p
processed_character a p e =
    let found = any_in (λ (t : Token). holds (span_of t) p) (names_processed a) e in
    (span_of found.0, file_token a found.0 (processed_kept a found.0 found.1), found.2)

where_found : (a : AnalysisValue) (q p : Pos) (b : Bool) → is_processed a q ≡ b → cond b (Some q) None ≡ Some p → is_processed a p ≡ true
where_found a q p true h e = subst (λ (r : Pos). is_processed a r ≡ true) (same_Some q p e) h
where_found a q p false h e = absurd (cc)

position_found : (a : AnalysisValue) (p : Pos) (o : Option Pos) → option_and_then (where_processed a) o ≡ Some p → is_processed a p ≡ true
position_found a p None e = absurd (cc)
position_found a p (Some q) e = where_found a q p (is_processed a q) refl e

-- the position that a place names is a character of a file token
pub named_character : (a : AnalysisValue) (path : List ℕ) (line column : ℕ) (p : Pos) → named_position a path line column ≡ Some p → IsCharacter a p
unfolding named_position
named_character a path line column p e =
    processed_character a p (position_found a p (option_and_then (character_of line column) (file_named path 0 a.table)) e)
