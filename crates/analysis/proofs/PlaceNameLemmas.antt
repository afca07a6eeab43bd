-- Which part a place names.
use Rattle.std.proofs.Common.{◌≡◌, ℕ, suc, ◌+◌, ◌<◌, ◌≤◌, Bool, true, false, cond, List, [], ◌∷◌, drop, length, Option, None, Some, refl, sym, ap, subst, ◌∙◌, inl, inr, arith}
use Rattle.std.specs.Prelude.{slice_get, get_or}
use Rattle.std.specs.Option.{option_map, option_and_then}
use Rattle.std.specs.Str.{bytes_eq}
use Rattle.std.proofs.lemmas.Bool.{cases_Bool, both_ways, false_from_ne_true}
use Rattle.std.proofs.lemmas.List.{at_drop_more, at_drop_all}
use Rattle.std.proofs.lemmas.Option.{same_Some, slice_get-get_or}
use Rattle.cs_base.specs.declared.positions.Part.{Part}
use Rattle.cs_base.specs.declared.positions.Pos.{Pos}
use Rattle.cs_base.specs.Token.{Token}
use Rattle.cs_base.proofs.ListLemmas.{any_at as any_from}
use Rattle.lexer.specs.Tokens.{tokens_of}
use Rattle.eclass_map.specs.ClassTable.{Table as Classes, part_of}
use Rattle.eclass_map.specs.Positions.{holds}
use Rattle.eclass_map.proofs.TokenFacts.{holding}
use Rattle.include_tree.specs.Below.source_files.Files.{Entry, Table, Absent, entry}
use Rattle.include_tree.specs.Below.source_files.KeptFiles.{KeptValue, kept, kept_bytes, kept_in, kept_at}
use Rattle.analysis.specs.Analysis.{AnalysisValue}
use Rattle.analysis.specs.Classes.{AreItsClasses}
use Rattle.analysis.specs.FileTokens.{span_of}
use Rattle.analysis.specs.Marking.{is_marked, AreMarked}
use Rattle.analysis.specs.Naming.{names_processed, is_processed, file_named, named_position, Names}
use Rattle.analysis.specs.TokenSearch.{AreInLine, IsOver}
use Rattle.analysis.proofs.ClassLemmas.{held_by}
use Rattle.analysis.proofs.NamingLemmas.{any_in, named_character}
use Rattle.analysis.proofs.TokenPlaceLemmas.{tokens_in_line}
use Rattle.analysis.proofs.TokenSearchLemmas.{over_once}

-- ---- numbers of kept files

pub mapped_some : {X Y : Type 0} (f : X → Y) (o : Option X) (y : Y) → option_map f o ≡ Some y → (x : X) × (o ≡ Some x) × (y ≡ f x)
mapped_some f None y e = absurd (cc)
mapped_some f (Some x) y e = (x, refl, sym (same_Some (f x) y e))

pub then_some : {X Y : Type 0} (f : X → Option Y) (o : Option X) (y : Y) → option_and_then f o ≡ Some y → (x : X) × (o ≡ Some x) × (f x ≡ Some y)
then_some f None y e = absurd (cc)
then_some f (Some x) y e = (x, refl, e)

-- a kept file has its number
number_in : (n : ℕ) (e : Entry) (f : KeptValue) → kept_in n e ≡ Some f → f.number ≡ n
number_in n e f h =
    let m = mapped_some (kept n e.path) (kept_bytes e.found) f h in
    ap (λ (g : KeptValue). g.number) m.2

pub kept_number : (table : Table) (n : ℕ) (f : KeptValue) → kept_at table n ≡ Some f → f.number ≡ n
kept_number table n f h =
    let m = then_some (kept_in n) (slice_get table n) f h in
    number_in n m.0 f m.2

-- the file of a path is kept under its number
named_from : (path : List ℕ) (n : ℕ) (table : Table) (f : KeptValue) → file_named path n table ≡ Some f
    → (k : ℕ) × (f.number ≡ n + k) × (option_and_then (kept_in (n + k)) (slice_get table k) ≡ Some f)
unfolding file_named
named_from path n [] f h = absurd (cc)
named_from path n (e ∷ table) f h = elim (cases_Bool (bytes_eq path e.path)) [
  | inl same ↦
      let here : kept_in n e ≡ Some f = rw same at h in
      let zero_on : n ≡ n + 0 = omega arith in
      (0, number_in n e f here ∙ zero_on, subst (λ (m : ℕ). kept_in m e ≡ Some f) zero_on here)
  | inr other ↦
      let later : file_named path (n + 1) table ≡ Some f = rw other at h in
      let r = named_from path (n + 1) table f later in
      let on : (n + 1) + r.0 ≡ n + suc r.0 = omega arith in
      (suc r.0, r.1 ∙ on, subst (λ (m : ℕ). option_and_then (kept_in m) (slice_get table r.0) ≡ Some f) on r.2)
]

pub named_kept : (path : List ℕ) (table : Table) (f : KeptValue) → file_named path 0 table ≡ Some f → kept_at table f.number ≡ Some f
named_kept path table f h =
    let r = named_from path 0 table f h in
    let same : 0 + r.0 ≡ r.0 = omega arith in
    let at : option_and_then (kept_in r.0) (slice_get table r.0) ≡ Some f = subst (λ (m : ℕ). option_and_then (kept_in m) (slice_get table r.0) ≡ Some f) same r.2 in
    subst (λ (m : ℕ). kept_at table m ≡ Some f) (sym (r.1 ∙ same)) at

-- ---- a walk over the numbers

no_entry : Entry
no_entry = entry [] Absent

-- what a test of the path says of the entries from a number on
pub named_here : (path : List ℕ) (table : Table) (n : ℕ) (b : Bool) → n < length table → ((e : Entry) → slice_get table n ≡ Some e → b ≡ bytes_eq path e.path)
    → file_named path n (drop n table) ≡ cond b (kept_at table n) (file_named path (n + 1) (drop (n + 1) table))
unfolding file_named
named_here path table n b within is =
    let e = get_or table n no_entry in
    let at : slice_get table n ≡ Some e = slice_get-get_or table n no_entry within in
    let kept_here : kept_at table n ≡ kept_in n e = ap (option_and_then (kept_in n)) at in
    at_drop_more (file_named path n) table n no_entry within
    ∙ ap (λ (c : Bool). cond c (kept_in n e) (file_named path (n + 1) (drop (n + 1) table))) (sym (is e at))
    ∙ ap (λ (o : Option KeptValue). cond b o (file_named path (n + 1) (drop (n + 1) table))) (sym kept_here)

pub named_past : (path : List ℕ) (table : Table) (n : ℕ) → length table ≤ n → file_named path n (drop n table) ≡ None
unfolding file_named
named_past path table n past = at_drop_all (file_named path n) table n past

-- ---- processed identifiers

-- a processed identifier that holds the character is a marked token of its file
marked_over : (a : AnalysisValue) (marks : List (List Bool)) (file : KeptValue) (p : Pos) → kept_at a.table p.file ≡ Some file
    → AreMarked a.table (names_processed a) marks → is_processed a p ≡ true
    → (k : ℕ) × (t : Token) × (slice_get (tokens_of file.number file.bytes) k ≡ Some t) × (holds (span_of t) p ≡ true) × (is_marked marks p.file k ≡ true)
marked_over a marks file p is_kept are e =
    let found = any_in (λ (t : Token). holds (span_of t) p) (names_processed a) e in
    let m = are.all found.0 found.1 in
    let own : m.file.number ≡ m.number = kept_number a.table m.number m.file m.is_kept in
    let placed = (tokens_in_line m.file.number m.file.bytes).placed m.place found.0 m.at in
    let here : m.number ≡ p.file = sym own ∙ sym placed ∙ (holding (span_of found.0) p found.2).file in
    let same : m.file ≡ file = same_Some m.file file (sym m.is_kept ∙ ap (kept_at a.table) here ∙ is_kept) in (
      m.place,
      found.0,
      ap (λ (f : KeptValue). slice_get (tokens_of f.number f.bytes) m.place) (sym same) ∙ m.at,
      found.2,
      subst (λ (n : ℕ). is_marked marks n m.place ≡ true) here m.marked,
    )

over_is : (table : Table) (file : KeptValue) (p : Pos) (j k : ℕ) (t u : Token) → kept_at table p.file ≡ Some file
    → slice_get (tokens_of file.number file.bytes) j ≡ Some t → slice_get (tokens_of file.number file.bytes) k ≡ Some u
    → holds (span_of t) p ≡ true → holds (span_of u) p ≡ true → j ≡ k
over_is table file p j k t u is_kept at also held holds_too =
    over_once (tokens_of file.number file.bytes) p j k t u
    (subst (λ (n : ℕ). AreInLine n (tokens_of file.number file.bytes)) (kept_number table p.file file is_kept) (tokens_in_line file.number file.bytes))
    at also held holds_too

pub processed_some : (a : AnalysisValue) (marks : List (List Bool)) (file : KeptValue) (p : Pos) (k : ℕ) → kept_at a.table p.file ≡ Some file
    → AreMarked a.table (names_processed a) marks → IsOver (tokens_of file.number file.bytes) p (Some k) → is_marked marks p.file k ≡ is_processed a p
processed_some a marks file p k is_kept are over = elim (cases_Bool (is_marked marks p.file k)) [
  | inl marked ↦
      let has = are.only p.file k file over.0 marked is_kept over.1 in
      marked ∙ sym (any_from (λ (t : Token). holds (span_of t) p) (names_processed a) has.0 over.0 has.1 over.2)
  | inr unmarked ↦ unmarked ∙ sym (false_from_ne_true (is_processed a p) (λ e.
      let m = marked_over a marks file p is_kept are e in
      both_ways (is_marked marks p.file k) unmarked (subst (λ (j : ℕ). is_marked marks p.file j ≡ true) (over_is a.table file p m.0 k m.1 over.0 is_kept m.2 over.1 m.3 over.2) m.4)))
]

pub processed_none : (a : AnalysisValue) (marks : List (List Bool)) (file : KeptValue) (p : Pos) → kept_at a.table p.file ≡ Some file
    → AreMarked a.table (names_processed a) marks → IsOver (tokens_of file.number file.bytes) p None → is_processed a p ≡ false
processed_none a marks file p is_kept are over = false_from_ne_true (is_processed a p) (λ e.
    let m = marked_over a marks file p is_kept are e in
    both_ways (holds (span_of m.1) p) (over m.0 m.1 m.2) m.3)

-- ---- the part

pub named_part : (a : AnalysisValue) (t : Classes) (path : List ℕ) (line column : ℕ) (p : Pos) (found : Option Part) → AreItsClasses a t
    → named_position a path line column ≡ Some p → part_of t p ≡ found → Names a path line column found
named_part a t path line column p None are e h = absurd (held_by a t are p None h (named_character a path line column p e))
named_part a t path line column p (Some part) are e h =
    let held = held_by a t are p (Some part) h in (p, e, held.0, held.1)

-- ---- the tokens of a kept file

pub file_in_line : (table : Table) (n : ℕ) (file : KeptValue) (toks : List Token) → kept_at table n ≡ Some file → toks ≡ tokens_of file.number file.bytes → AreInLine n toks
file_in_line table n file toks is_kept is =
    subst (λ (ts : List Token). AreInLine n ts) (sym is)
    (subst (λ (m : ℕ). AreInLine m (tokens_of file.number file.bytes)) (kept_number table n file is_kept) (tokens_in_line file.number file.bytes))
