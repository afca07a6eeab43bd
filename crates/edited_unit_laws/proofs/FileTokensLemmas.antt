-- The file tokens of the renamed analysis are the renamed file tokens.
use Rattle.std.proofs.Common.{◌≡◌, ℕ, suc, ◌+◌, ◌*◌, Bool, true, false, List, [], ◌∷◌, length, map, Option, None, Some, refl, ap, sym, subst, ◌∙◌, arith}
use Rattle.std.specs.Prelude.{codes, cond, slice_get}
use Rattle.std.specs.Fmt.{decimal}
use Rattle.std.specs.List.{flat_map}
use Rattle.std.specs.Option.{option_map}
use Rattle.std.specs.Str.{bytes_eq}
use Rattle.cs_base.specs.declared.positions.Pos.{Pos}
use Rattle.cs_base.specs.declared.tokens.Kind.TheVariants.{Number}
use Rattle.cs_base.specs.Token.{Token, token}
use Rattle.macro_expand.specs.Renaming.{Renaming, spelled, renamed}
use Rattle.macro_body.specs.Substitution.{digit_origins, line_number}
use Rattle.unit_steps.specs.declared.events.Event.{Event}
use Rattle.unit_steps.specs.declared.events.EventKind.{EventKind}
use Rattle.unit_steps.specs.declared.events.EventKind.TheVariants as kind
use Rattle.source_files.specs.Files.{Entry, Table}
use Rattle.analysis.specs.Analysis.{UnitAnalysis}
use Rattle.analysis.specs.FileTokens.{entry_tokens, table_tokens, number_for, number_of_event, numbers_brought, file_tokens}
use Rattle.edited_unit_laws.specs.Lines.{Each}
use Rattle.edited_unit_laws.specs.Keeping.{Change}
use Rattle.edited_unit_laws.specs.UnitTexts.{renamed_event}
use Rattle.edited_unit_laws.specs.Analyses.{renamed_unit_analysis}
use Rattle.edited_unit_laws.specs.FileTokens.{edited_entry, EntryIsRenamed, NamesLineAsBefore, FileTokensAreRenamed}
use Rattle.edited_unit_laws.proofs.LinksLemmas.{both}
use Rattle.analysis.specs.Changed.{edited_from}

-- ---- files

table-renamed : (c : Change) (n : ℕ) (t : Table) → ((k : ℕ) (e : Entry) → slice_get t k ≡ Some e → EntryIsRenamed c (n + k) e)
    → table_tokens n (edited_from c.editing n t) ≡ map (renamed c.renaming) (table_tokens n t)
unfolding table_tokens
table-renamed c n [] h = refl
table-renamed c n (e ∷ t) h =
    let none : n + 0 ≡ n = omega arith in
    let one : suc n ≡ n + 1 = omega arith in
    let here : EntryIsRenamed c n e = subst (λ (m : ℕ). EntryIsRenamed c m e) none (h 0 e refl) in
    let later = table-renamed c (suc n) t (λ k x at. let more : n + suc k ≡ suc n + k = omega arith in subst (λ (m : ℕ). EntryIsRenamed c m x) more (h (suc k) x at)) in
    let behind : table_tokens (n + 1) (edited_from c.editing (suc n) t) ≡ map (renamed c.renaming) (table_tokens (n + 1) t) =
    subst (λ (m : ℕ). table_tokens m (edited_from c.editing (suc n) t) ≡ map (renamed c.renaming) (table_tokens m t)) one later in
    both (renamed c.renaming) (entry_tokens n e) (table_tokens (n + 1) t) (entry_tokens n (edited_entry c.editing n e))
    (table_tokens (n + 1) (edited_from c.editing (suc n) t)) here behind

-- ---- numbers of lines

-- numbers of lines stay, and where they stand
abbrev NumbersStay : Renaming → Type 0
NumbersStay r = (n len : ℕ) (text : List ℕ) → (r.spell (digit_origins n len) text ≡ text) × (r.trace (digit_origins n len) text ≡ digit_origins n len)

line-renamed : (r : Renaming) → NumbersStay r → (t : Token) → line_number (renamed r t) ≡ renamed r (line_number t)
line-renamed r stay t =
    let s = stay (8 * t.line) (length (decimal t.line)) (decimal t.line) in
    ap (λ (text : List ℕ). token Number text (digit_origins (8 * t.line) (length (decimal t.line))) t.gap (r.move t.at) t.line false) (sym s.0)
    ∙ ap (λ (origins : List (Option Pos)). token Number (r.spell (digit_origins (8 * t.line) (length (decimal t.line))) (decimal t.line)) origins t.gap (r.move t.at) t.line false) (sym s.1)

one-number : (r : Renaming) → NumbersStay r → (b c : Bool) (t : Token) → b ≡ c → cond b (line_number (renamed r t) ∷ []) [] ≡ map (renamed r) (cond c (line_number t ∷ []) [])
one-number r stay true true t e = ap (λ (x : Token). x ∷ []) (line-renamed r stay t)
one-number r stay false false t e = refl
one-number r stay true false t e = absurd (cc)
one-number r stay false true t e = absurd (cc)

number-renamed : (r : Renaming) → NumbersStay r → (k : EventKind) (def : Option Pos) (name : Option Token)
    → ((t : Token) → name ≡ Some t → bytes_eq (spelled r t) (codes "__LINE__") ≡ bytes_eq t.text (codes "__LINE__"))
    → number_for k (option_map r.move def) (option_map (renamed r) name) ≡ map (renamed r) (number_for k def name)
number-renamed r stay kind.Replaced None None h = refl
number-renamed r stay kind.Replaced None (Some t) h =
    one-number r stay (bytes_eq (spelled r t) (codes "__LINE__")) (bytes_eq t.text (codes "__LINE__")) t (h t refl)
number-renamed r stay kind.Replaced (Some p) name h = refl
number-renamed r stay kind.Defined def name h = refl
number-renamed r stay kind.Undefined def name h = refl
number-renamed r stay kind.Tested def name h = refl
number-renamed r stay kind.Left def name h = refl
number-renamed r stay kind.Enter def name h = refl
number-renamed r stay kind.Leave def name h = refl
number-renamed r stay kind.Once def name h = refl
number-renamed r stay kind.Passed def name h = refl

events-renamed : (r : Renaming) → NumbersStay r → (es : List Event) → Each (NamesLineAsBefore r) es
    → flat_map number_of_event (map (renamed_event r) es) ≡ map (renamed r) (flat_map number_of_event es)
events-renamed r stay [] h = refl
events-renamed r stay (e ∷ es) h =
    both (renamed r) (number_of_event e) (flat_map number_of_event es) (number_of_event (renamed_event r e)) (flat_map number_of_event (map (renamed_event r) es))
    (number-renamed r stay e.kind e.def e.name h.0) (events-renamed r stay es h.1)

-- the numbers that a unit brings
abbrev brought : UnitAnalysis → List Token
brought u = numbers_brought u.text

unit-renamed : (r : Renaming) → NumbersStay r → (u : UnitAnalysis) → Each (NamesLineAsBefore r) u.text.events
    → brought (renamed_unit_analysis r u) ≡ map (renamed r) (brought u)
unit-renamed r stay u h =
    both (renamed r) (flat_map number_of_event u.text.events) u.text.answers (flat_map number_of_event (map (renamed_event r) u.text.events))
    (map (renamed r) u.text.answers) (events-renamed r stay u.text.events h) refl

units-renamed : (r : Renaming) → NumbersStay r → (us : List UnitAnalysis) → Each (λ (u : UnitAnalysis). Each (NamesLineAsBefore r) u.text.events) us
    → flat_map (λ (u : UnitAnalysis). numbers_brought u.text) (map (renamed_unit_analysis r) us) ≡ map (renamed r) (flat_map (λ (u : UnitAnalysis). numbers_brought u.text) us)
units-renamed r stay [] h = refl
units-renamed r stay (u ∷ us) h =
    both (renamed r) (brought u) (flat_map (λ (u : UnitAnalysis). numbers_brought u.text) us) (brought (renamed_unit_analysis r u))
    (flat_map (λ (u : UnitAnalysis). numbers_brought u.text) (map (renamed_unit_analysis r) us)) (unit-renamed r stay u h.0) (units-renamed r stay us h.1)

pub file_tokens_are_renamed : FileTokensAreRenamed
unfolding file_tokens
file_tokens_are_renamed c a h =
    both (renamed c.renaming) (table_tokens 0 a.table) (flat_map (λ (u : UnitAnalysis). numbers_brought u.text) a.units)
    (table_tokens 0 (edited_from c.editing 0 a.table)) (flat_map (λ (u : UnitAnalysis). numbers_brought u.text) (map (renamed_unit_analysis c.renaming) a.units))
    (table-renamed c 0 a.table (λ (k : ℕ) (e : Entry) at. let same : 0 + k ≡ k = omega arith in rw same (h.files k e at))) (units-renamed c.renaming h.numbers a.units h.lines)
