-- The file tokens: tokens that are added one after another.
use Rattle.std.proofs.Common.{◌≡◌, ℕ, ◌+◌, ◌<◌, ◌≤◌, Bool, true, false, ◌||◌, ◌&&◌, List, [], ◌∷◌, ◌++◌, Option, None, Some, Result, Ok, Err, length, get_or, take, drop, slice_get, refl, sym, ap, ◌∙◌, subst}
use Rattle.std.specs.Prelude.{MatchBool, OnOk, filter, nat_eq}
use Rattle.std.specs.List.{list_any}
use Rattle.std.specs.Option.{option_map, option_map_or}
use Rattle.std.proofs.Math.Bool.{or_assoc, or-false}
use Rattle.std.proofs.lemmas.Bool.{eq-eqb, eqb-true, and_parts}
use Rattle.std.proofs.lemmas.List.{at_drop_all, take_more}
use Rattle.std.proofs.lemmas.List.Elements.{filter-append}
use Rattle.std.proofs.lemmas.List.Folds.{list_any-append}
use Rattle.std.proofs.lemmas.Option.{none-some, same_Some, slice_get-map}
use Rattle.cs_base.specs.declared.positions.Part.{Part}
use Rattle.cs_base.specs.Token.{Token, has_origins}
use Rattle.cs_base.proofs.ListLemmas.{any_at as any_from}
use Rattle.cs_base.proofs.PlaceLemmas.{part_of_parts}
use Rattle.analysis.specs.Below.source_files.Files.{Table}
use Rattle.analysis.specs.Below.source_files.KeptFiles.{kept_at}
use Rattle.analysis.specs.Analysis.{AnalysisValue}
use Rattle.analysis.specs.BroughtNumbers.{all_brought}
use Rattle.analysis.specs.FileTokens.{IsFileToken, file_tokens, kept_tokens, span_of, table_tokens}
use Rattle.analysis.proofs.TableLemmas.{parted-more as table_more}
use Rattle.class_marks.proofs.AnswerLemmas.{told}
use Rattle.class_marks.proofs.RoleLemmas.{some_passes}
use Rattle.find_names.specs.FileTokens.{is_part, is_span}

-- ---- tests

pub same_part : (p q : Part) → is_part p q ≡ true → p ≡ q
same_part p q passed =
    let outer = and_parts (nat_eq p.start.file q.start.file && nat_eq p.start.at q.start.at) (nat_eq p.len q.len) passed in
    let inner = and_parts (nat_eq p.start.file q.start.file) (nat_eq p.start.at q.start.at) outer.0 in
    part_of_parts p q (eqb-true p.start.file q.start.file inner.0) (eqb-true p.start.at q.start.at inner.1) (eqb-true p.len q.len outer.1)

pub part_itself : (p : Part) → is_part p p ≡ true
part_itself p = rw (eq-eqb p.start.file p.start.file refl, eq-eqb p.start.at p.start.at refl, eq-eqb p.len p.len refl) refl

-- ---- lists of tokens

-- one token more of a list
pub token_more : (part : Part) (toks : List Token) (k : ℕ) (t : Token) (old now new : Bool) → k < length toks → t ≡ get_or toks k t
    → now ≡ (old || list_any (is_span part) (take k toks)) → new ≡ (now || is_span part t)
    → new ≡ (old || list_any (is_span part) (take (k + 1) toks))
token_more part toks k t old now new within is before here =
    let more : take (k + 1) toks ≡ take k toks ++ t ∷ [] = take_more toks k t within ∙ ap (λ (x : Token). take k toks ++ x ∷ []) (sym is) in
    here
    ∙ ap (λ (b : Bool). b || is_span part t) before
    ∙ or_assoc old (list_any (is_span part) (take k toks)) (is_span part t)
    ∙ ap (λ (b : Bool). old || b)
    (ap (λ (b : Bool). list_any (is_span part) (take k toks) || b) (sym (or-false (is_span part t)))
    ∙ sym (list_any-append (is_span part) (take k toks) (t ∷ [])) ∙ ap (list_any (is_span part)) (sym more))

abbrev pub parted : List Token → List Token
parted toks = filter (λ (t : Token). has_origins t.kind) toks

-- the same of the tokens of a file, of which some have parts
pub parted_more : (part : Part) (toks : List Token) (k : ℕ) (t : Token) (old now new : Bool) → k < length toks → t ≡ get_or toks k t
    → now ≡ (old || list_any (is_span part) (parted (take k toks))) → new ≡ (now || list_any (is_span part) (parted (t ∷ [])))
    → new ≡ (old || list_any (is_span part) (parted (take (k + 1) toks)))
parted_more part toks k t old now new within is before here =
    let more : take (k + 1) toks ≡ take k toks ++ t ∷ [] = take_more toks k t within ∙ ap (λ (x : Token). take k toks ++ x ∷ []) (sym is) in
    let all : parted (take (k + 1) toks) ≡ parted (take k toks) ++ parted (t ∷ []) =
    ap parted more ∙ filter-append (λ (x : Token). has_origins x.kind) (take k toks) (t ∷ []) in
    here
    ∙ ap (λ (b : Bool). b || list_any (is_span part) (parted (t ∷ []))) before
    ∙ or_assoc old (list_any (is_span part) (parted (take k toks))) (list_any (is_span part) (parted (t ∷ [])))
    ∙ ap (λ (b : Bool). old || b)
    (sym (list_any-append (is_span part) (parted (take k toks)) (parted (t ∷ []))) ∙ ap (list_any (is_span part)) (sym all))

pub parted_one : (part : Part) (t : Token) (old new : Bool) → has_origins t.kind ≡ true → new ≡ (old || is_span part t)
    → new ≡ (old || list_any (is_span part) (parted (t ∷ [])))
parted_one part t old new has is = is ∙ ap (λ (b : Bool). old || b) (sym (or-false (is_span part t)) ∙ rw has refl)

pub parted_none : (part : Part) (t : Token) (old new : Bool) → has_origins t.kind ≡ false → new ≡ old
    → new ≡ (old || list_any (is_span part) (parted (t ∷ [])))
parted_none part t old new has is = is ∙ sym (or-false old) ∙ rw has refl

-- ---- files

pub files_more : (part : Part) (table : Table) (k : ℕ) (now new whole : Bool) → k < length table
    → (now || list_any (is_span part) (table_tokens k (drop k table))) ≡ whole
    → new ≡ (now || list_any (is_span part) (option_map_or kept_tokens (kept_at table k) []))
    → (new || list_any (is_span part) (table_tokens (k + 1) (drop (k + 1) table))) ≡ whole
files_more part table k now new whole within before here =
    let test : List Token → Bool = list_any (is_span part) in
    let file = option_map_or kept_tokens (kept_at table k) [] in
    let rest = table_tokens (k + 1) (drop (k + 1) table) in
    ap (λ (b : Bool). b || test rest) here
    ∙ or_assoc now (test file) (test rest)
    ∙ ap (λ (b : Bool). now || b) (sym (list_any-append (is_span part) file rest) ∙ ap test (sym (table_more table k within)))
    ∙ before

pub files_all : (part : Part) (table : Table) (k : ℕ) (now whole : Bool) → length table ≤ k
    → (now || list_any (is_span part) (table_tokens k (drop k table))) ≡ whole → now ≡ whole
unfolding table_tokens
files_all part table k now whole past before =
    let none = at_drop_all (table_tokens k) table k past in
    sym (or-false now) ∙ ap (λ (ts : List Token). now || list_any (is_span part) ts) (sym none) ∙ before

-- all file tokens
pub tokens_are : (a : AnalysisValue) (part : Part) (none files all : Bool) → none ≡ false
    → files ≡ (none || list_any (is_span part) (table_tokens 0 a.table)) → all ≡ (files || list_any (is_span part) (all_brought a.units))
    → all ≡ list_any (is_span part) (file_tokens a)
unfolding file_tokens
tokens_are a part none files all is first second =
    second
    ∙ ap (λ (b : Bool). b || list_any (is_span part) (all_brought a.units)) (first ∙ ap (λ (b : Bool). b || list_any (is_span part) (table_tokens 0 a.table)) is)
    ∙ sym (list_any-append (is_span part) (table_tokens 0 a.table) (all_brought a.units))

-- what they tell
mapped_some : {X Y : Type 0} (f : X → Y) (o : Option X) (y : Y) → option_map f o ≡ Some y → (x : X) × (o ≡ Some x) × (f x ≡ y)
mapped_some f None y is = absurd (none-some y is)
mapped_some f (Some x) y is = (x, refl, same_Some (f x) y is)

pub token_told : (a : AnalysisValue) (part : Part) (has : Bool) → has ≡ list_any (is_span part) (file_tokens a)
    → MatchBool has (IsFileToken a part) (IsFileToken a part → ⊥)
token_told a part has is =
    told has (IsFileToken a part)
    (λ yes.
    let x = some_passes (is_span part) (file_tokens a) (sym is ∙ yes) in
    let same : span_of x.element ≡ part = same_part (span_of x.element) part x.passed in
    (x.number, slice_get-map span_of (file_tokens a) x.number ∙ ap (option_map span_of) x.at ∙ ap (λ (p : Part). Some p) same))
    (λ not token.
    let t = mapped_some span_of (slice_get (file_tokens a) token.0) part (sym (slice_get-map span_of (file_tokens a) token.0) ∙ token.1) in
    let passed : is_span part t.0 ≡ true = subst (λ (p : Part). is_part p part ≡ true) (sym t.2) (part_itself part) in
    let yes = any_from (is_span part) (file_tokens a) token.0 t.0 t.1 passed in
    cc)

-- what follows of what a call promises
pub on_ok_then : {X E : Type 0} (r : Result X E) (P Q : Type 0) → OnOk r P → (P → Q) → OnOk r Q
on_ok_then (Ok x) P Q h follows = follows h
on_ok_then (Err e) P Q h follows = tt
