-- Tokens of none of the other kinds in the lines of a file from the `(` of a list to its `)`: there are none where nothing stands
-- against a new order of its items.
use Rattle.std.proofs.Common.{◌≡◌, ℕ, zero, suc, ◌+◌, Bool, true, false, ◌&&◌, if◌then◌else◌, List, [], ◌∷◌, ◌++◌, Option, Some, refl, sym, ap, subst, ◌∙◌, arith}
use Rattle.std.specs.Prelude.{◌==◌, slice_get, nat_le, not}
use Rattle.std.specs.Option.{option_map_or, option_and_then}
use Rattle.std.proofs.lemmas.Bool.{false≢true, or_parts, eq-eqb}
use Rattle.cs_base.specs.declared.positions.Pos.{Pos}
use Rattle.cs_base.specs.declared.tokens.Kind.{Kind}
use Rattle.cs_base.specs.declared.tokens.Kind.TheVariants.{Ident, Number, Char, Str, Punct, Other, Header}
use Rattle.cs_base.specs.Token.{Token}
use Rattle.cs_base.proofs.BoolLemmas.{and_right as left_true}
use Rattle.c_types.specs.declared.lists.List.{List as NameList}
use Rattle.lexer.specs.Tokens.{tokens_of}
use Rattle.source_files.specs.Files.{Table}
use Rattle.source_files.specs.KeptFiles.{KeptValue, kept_in, kept_at}
use Rattle.offences.specs.Tokens.{file_toks, kept_tokens}
use Rattle.unit_laws.specs.UnitLinks.{IsIn}
use Rattle.unit_steps.specs.Texts.{UnitTextValue}
use Rattle.edited_unit_laws.proofs.FileLemmas.{token_stands}
use Rattle.edited_unit_laws.proofs.ListLemmas.{In, in_flat}
use Rattle.arranged_text_laws.specs.Lists as lists
use Rattle.arranged_text_laws.specs.Calm as calm
use Rattle.template_rules.specs.Functions.{origin_of}
use Rattle.template_rules.specs.LineOffences.{line_begin, is_line_feed_at, is_odd, odd_position, odd_positions, is_by_list, is_line_among, is_among_lines, is_among_list, is_odd_by}
use Rattle.template_rules.specs.MacroOffences.{is_direct}
use Rattle.template_rules.specs.Marks.{is_across}

-- ---- two ways to say it

odd_is : (k : Kind) → calm.is_odd k ≡ true → is_odd k ≡ true
odd_is Ident e = absurd (false≢true e)
odd_is Number e = absurd (false≢true e)
odd_is Char e = absurd (false≢true e)
odd_is Str e = absurd (false≢true e)
odd_is Punct e = absurd (false≢true e)
odd_is Other e = refl
odd_is Header e = absurd (false≢true e)

line_is : (bytes : List ℕ) (k : ℕ) → lists.line_begin bytes k ≡ line_begin bytes k
unfolding lists.line_begin line_begin
line_is bytes zero = refl
line_is bytes (suc k) = ap (λ (n : ℕ). if is_line_feed_at bytes k then suc k else n) (line_is bytes k)

among_is : (f : KeptValue) (at from to : ℕ) → lists.is_line_among f.bytes at from to ≡ is_line_among at from to f
among_is f at from to =
    ap (λ (n : ℕ). nat_le n (lists.line_begin f.bytes at) && nat_le (lists.line_begin f.bytes at) (lists.line_begin f.bytes to)) (line_is f.bytes from)
    ∙ ap (λ (n : ℕ). nat_le (line_begin f.bytes from) n && nat_le n (lists.line_begin f.bytes to)) (line_is f.bytes at)
    ∙ ap (λ (n : ℕ). nat_le (line_begin f.bytes from) (line_begin f.bytes at) && nat_le (line_begin f.bytes at) n) (line_is f.bytes to)

-- ---- all tokens of the files

in_left : {X : Type 0} (x : X) (xs ys : List X) (k : ℕ) → slice_get xs k ≡ Some x → In x (xs ++ ys)
in_left x [] ys k e = absurd (cc)
in_left x (y ∷ xs) ys zero e = (0, e)
in_left x (y ∷ xs) ys (suc k) e = let r = in_left x xs ys k e in (suc r.0, r.1)

in_right : {X : Type 0} (x : X) (xs ys : List X) → In x ys → In x (xs ++ ys)
in_right x [] ys i = i
in_right x (y ∷ xs) ys i = let r = in_right x xs ys i in (suc r.0, r.1)

-- those of a kept file are among them
kept_there : (table : Table) (number n : ℕ) (f : KeptValue) (t : Token) → option_and_then (kept_in (number + n)) (slice_get table n) ≡ Some f → In t (file_toks f) → In t (kept_tokens number table)
unfolding kept_tokens
kept_there [] number n f t e i = absurd (cc)
kept_there (x ∷ table) number zero f t e i =
    let same : number + zero ≡ number = omega arith in
    let here : kept_in number x ≡ Some f = ap (λ (m : ℕ). kept_in m x) (sym same) ∙ e in
    let there : In t (option_map_or file_toks (kept_in number x) []) = subst (λ (o : Option KeptValue). In t (option_map_or file_toks o [])) (sym here) i in
    in_left t _ (kept_tokens (number + 1) table) there.0 there.1
kept_there (x ∷ table) number (suc n) f t e i =
    let same : number + 1 + n ≡ number + suc n = omega arith in
    in_right t _ (kept_tokens (number + 1) table) (kept_there table (number + 1) n f t (ap (λ (m : ℕ). option_and_then (kept_in m) (slice_get table n)) same ∙ e) i)

-- so where one is of no other kind, its position is one of theirs
odd_there : (table : Table) (number : ℕ) (f : KeptValue) (k : ℕ) (t : Token) → kept_at table number ≡ Some f → slice_get (tokens_of f.number f.bytes) k ≡ Some t → is_odd t.kind ≡ true
    → In t.at (odd_positions table)
odd_there table number f k t e at odd =
    let same : 0 + number ≡ number = omega arith in
    in_flat odd_position (kept_tokens 0 table) t t.at (kept_there table 0 number f t (ap (λ (m : ℕ). option_and_then (kept_in m) (slice_get table number)) same ∙ e) (k, at)) (one (is_odd t.kind) odd)
  where
    one : (b : Bool) → b ≡ true → In t.at (if b then t.at ∷ [] else [])
    one true e = (0, refl)
    one false e = absurd (false≢true e)

-- ---- the lines of a list

both_false : (x y z : Bool) → x ≡ true → y ≡ false → ((x && not y) && z) ≡ false → z ≡ false
both_false true false z e f h = h
both_false true true z e f h = absurd (false≢true (sym f))
both_false false y z e f h = absurd (false≢true e)

-- No token of a kept file that is of no other kind stands in a line from the `(` of a list to its `)`, where these come from there,
-- the list is direct and in one run, and no such token is said to stand in its lines.
pub odd_apart : (table : Table) (text : UnitTextValue) (l : NameList) (f : KeptValue) (p q : Pos) → ((o : Pos) → IsIn (odd_positions table) o → is_odd_by table text l o ≡ false)
    → is_direct text.toks l ≡ true → is_across text.reached l ≡ false → kept_at table f.number ≡ Some f → origin_of text.toks l.begin ≡ Some p → origin_of text.toks l.close ≡ Some q
    → p.file ≡ f.number → (k : ℕ) (t : Token) → slice_get (tokens_of f.number f.bytes) k ≡ Some t → calm.is_odd t.kind ≡ true → lists.is_line_among f.bytes t.at.at p.at q.at ≡ false
odd_apart table text l f p q apart direct one_run kept begins closes file k t at odd =
    let s = token_stands f.number f.bytes t (k, at) in
    let number : t.at.file ≡ f.number = ap (λ (o : Pos). o.file) s.at in
    let none = apart t.at (odd_there table f.number f k t kept at (odd_is t.kind odd)) in
    let parts = or_parts (is_by_list table t.at text.toks l) _ none in
    let listed = both_false (is_direct text.toks l) (is_across text.reached l) (is_among_list table t.at text.toks l) direct one_run parts.1 in
    let lines : is_among_lines table t.at p q ≡ false =
    ap (λ (o : Option Pos). option_map_or (is_among_lines table t.at p) o false) (sym closes)
    ∙ ap (λ (o : Option Pos). option_map_or (λ (from : Pos). option_map_or (is_among_lines table t.at from) (origin_of text.toks l.close) false) o false) (sym begins) ∙ listed in
    let here = left_true (t.at.file == p.file) (option_map_or (is_line_among t.at.at p.at q.at) (kept_at table t.at.file) false) (eq-eqb t.at.file p.file (number ∙ sym file)) lines in
    let there : kept_at table t.at.file ≡ Some f = ap (kept_at table) number ∙ kept in
    among_is f t.at.at p.at q.at ∙ ap (λ (o : Option KeptValue). option_map_or (is_line_among t.at.at p.at q.at) o false) (sym there) ∙ here
