-- How parts are spelled.
use Rattle.std.proofs.Common.{◌≡◌, ℕ, zero, suc, ◌+◌, ◌-◌, Bool, true, List, [], ◌∷◌, map, take, drop, Option, None, Some, refl, sym, ap, subst, ◌∙◌, inl, inr, arith}
use Rattle.std.specs.Prelude.{slice_get, find}
use Rattle.std.specs.List.{flat_map}
use Rattle.std.specs.Option.{option_map_or, option_and_then}
use Rattle.std.proofs.lemmas.Bool.{cases_Bool}
use Rattle.std.proofs.lemmas.Option.{same_Some}
use Rattle.cs_base.specs.declared.positions.Part.{Part}
use Rattle.cs_base.specs.declared.positions.Pos.{Pos}
use Rattle.cs_base.specs.Token.{Token, has_origins}
use Rattle.cs_base.proofs.ListLemmas.{none_at}
use Rattle.lexer.specs.Tokens.{tokens_of}
use Rattle.eclass_map.specs.Positions.{holds}
use Rattle.eclass_map.proofs.TokenFacts.{holding}
use Rattle.include_tree.specs.Below.source_files.Files.{Table}
use Rattle.include_tree.specs.Below.source_files.KeptFiles.{KeptValue, kept_in, kept_at}
use Rattle.analysis.specs.Analysis.{UnitAnalysis, AnalysisValue}
use Rattle.analysis.specs.BroughtNumbers.{AreNumbers, all_brought}
use Rattle.analysis.specs.FileTokens.{kept_tokens, entry_tokens, table_tokens, numbers_brought, file_tokens, span_of}
use Rattle.analysis.specs.Parts.{IsCharacter}
use Rattle.analysis.specs.Spellings.{token_over, spelling_in, spelling_of}
use Rattle.analysis.specs.TokenSearch.{AreInLine}
use Rattle.analysis.proofs.NamingLemmas.{In, split_at, filter_in}
use Rattle.analysis.proofs.PlaceNameLemmas.{kept_number}
use Rattle.analysis.proofs.TokenPlaceLemmas.{tokens_in_line}

-- ---- slices

-- ---- where file tokens stand

-- a kept file that has the token
record InKept (table : Table) (t : Token) : Type 0 where
  number : ℕ
  file : KeptValue
  is_kept : kept_at table number ≡ Some file
  there : In t (tokens_of file.number file.bytes)

in_entry : (n : ℕ) (o : Option KeptValue) (t : Token) → In t (option_map_or kept_tokens o []) → (f : KeptValue) × (o ≡ Some f) × In t (kept_tokens f)
in_entry n None t i = absurd (cc)
in_entry n (Some f) t i = (f, refl, i)

in_table : (table : Table) (n : ℕ) (t : Token) → In t (table_tokens n table)
    → (k : ℕ) × (f : KeptValue) × (option_and_then (kept_in (n + k)) (slice_get table k) ≡ Some f) × In t (kept_tokens f)
unfolding table_tokens
in_table [] n t i = absurd (cc)
in_table (e ∷ table) n t i = split_at _ t (entry_tokens n e) (table_tokens (n + 1) table) i.0 i.1
    (λ j. let r = in_entry n (kept_in n e) t j in let same : n ≡ n + 0 = omega arith in
    (0, r.0, subst (λ (m : ℕ). kept_in m e ≡ Some r.0) same r.1, r.2))
    (λ j. let r = in_table table (n + 1) t j in let on : (n + 1) + r.0 ≡ n + suc r.0 = omega arith in
    (suc r.0, r.1, subst (λ (m : ℕ). option_and_then (kept_in m) (slice_get table r.0) ≡ Some r.1) on r.2, r.3))

kept_token : (table : Table) (t : Token) → In t (table_tokens 0 table) → InKept table t
kept_token table t i =
    let r = in_table table 0 t i in
    let same : 0 + r.0 ≡ r.0 = omega arith in
    record {
      number = r.0;
      file = r.1;
      is_kept = subst (λ (m : ℕ). option_and_then (kept_in m) (slice_get table r.0) ≡ Some r.1) same r.2;
      there = (filter_in (λ (u : Token). has_origins u.kind) t (tokens_of r.1.number r.1.bytes) r.3).0;
    }

-- its file is that of the characters that it holds
kept_file : (table : Table) (t : Token) (p : Pos) (k : InKept table t) → holds (span_of t) p ≡ true → k.number ≡ p.file
kept_file table t p k held =
    let placed = (tokens_in_line k.file.number k.file.bytes).placed k.there.0 t k.there.1 in
    sym (kept_number table k.number k.file k.is_kept) ∙ sym placed ∙ (holding (span_of t) p held).file

-- ---- the token of a character

found_first : {X : Type 0} (test : X → Bool) (xs : List X) (x : X) → find test xs ≡ Some x → In x xs × (test x ≡ true)
found_first test [] x e = absurd (cc)
found_first test (y ∷ xs) x e = elim (cases_Bool (test y)) [
  | inl yes' ↦
      let here : Some y ≡ Some x = rw yes' at e in
      let same : y ≡ x = same_Some y x here in
      ((0, here), subst (λ z. test z ≡ true) same yes')
  | inr no' ↦
      let later : find test xs ≡ Some x = rw no' at e in
      let r = found_first test xs x later in
      ((suc r.0.0, r.0.1), r.1)
]

span_among : (toks : List Token) (k : ℕ) (part : Part) → slice_get (map span_of toks) k ≡ Some part → (t : Token) × In t toks × (span_of t ≡ part)
span_among [] k part e = absurd (cc)
span_among (t ∷ toks) zero part e = (t, (0, refl), same_Some (span_of t) part e)
span_among (t ∷ toks) (suc k) part e = let r = span_among toks k part e in (r.0, (suc r.1.0, r.1.1), r.2)

-- a text that is the slice of each file token that holds the part
pub spelled_by : (a : AnalysisValue) (part : Part) (text : List ℕ) → IsCharacter a part.start
    → ((t : Token) → In t (file_tokens a) → holds (span_of t) part.start ≡ true → text ≡ spelling_in part t) → text ≡ spelling_of a part
spelled_by a part text character each = by_token (token_over a part.start) refl
  where
    by_token : (o : Option Token) → token_over a part.start ≡ o → text ≡ option_map_or (spelling_in part) o []
    by_token None e =
        let s = span_among (file_tokens a) character.1.0 character.0 character.1.1 in
        absurd (none_at (λ (t : Token). holds (span_of t) part.start) (file_tokens a) s.0 s.1.0 e s.1.1
        (subst (λ (q : Part). holds q part.start ≡ true) (sym s.2) character.2))
    by_token (Some t) e =
        let r = found_first (λ (u : Token). holds (span_of u) part.start) (file_tokens a) t e in
        each t r.0 r.1

-- ---- parts of kept files, and of numbers

brought_lines : (a : AnalysisValue) (numbers : List Token) (t : Token) (p : Pos) → AreNumbers (all_brought a.units) numbers → In t (all_brought a.units)
    → holds (span_of t) p ≡ true → p.file ≡ 0
brought_lines a numbers t p are i held =
    let s = are.all t i in
    let line = are.in_order.lines s.among.0 s.token s.among.1 in
    sym (holding (span_of t) p held).file ∙ ap (λ (q : Part). q.start.file) (sym s.place) ∙ line

pub spelled_kept : (a : AnalysisValue) (numbers : List Token) (part : Part) (file : KeptValue) (text : List ℕ) → kept_at a.table 0 ≡ None
    → AreNumbers (all_brought a.units) numbers → IsCharacter a part.start → kept_at a.table part.start.file ≡ Some file
    → ((k : ℕ) (t : Token) → slice_get (tokens_of file.number file.bytes) k ≡ Some t → holds (span_of t) part.start ≡ true → text ≡ spelling_in part t)
    → text ≡ spelling_of a part
unfolding file_tokens
spelled_kept a numbers part file text lines are character is_kept each = spelled_by a part text character (λ t i held.
    split_at (text ≡ spelling_in part t) t (table_tokens 0 a.table) (flat_map (λ (u : UnitAnalysis). numbers_brought u.text) a.units) i.0 i.1
    (λ j.
    let k = kept_token a.table t j in
    let same : k.file ≡ file = same_Some k.file file (sym k.is_kept ∙ ap (kept_at a.table) (kept_file a.table t part.start k held) ∙ is_kept) in
    let there : In t (tokens_of file.number file.bytes) = subst (λ (f : KeptValue). In t (tokens_of f.number f.bytes)) same k.there in
    each there.0 t there.1 held)
    (λ j.
    let zero_file : part.start.file ≡ 0 = brought_lines a numbers t part.start are j held in
    let none : Some file ≡ None = sym is_kept ∙ ap (kept_at a.table) zero_file ∙ lines in
    absurd (cc)))

pub spelled_number : (a : AnalysisValue) (numbers : List Token) (part : Part) (text : List ℕ)
    → AreNumbers (all_brought a.units) numbers → IsCharacter a part.start → kept_at a.table part.start.file ≡ None
    → ((k : ℕ) (t : Token) → slice_get numbers k ≡ Some t → holds (span_of t) part.start ≡ true → text ≡ spelling_in part t)
    → text ≡ spelling_of a part
unfolding file_tokens
spelled_number a numbers part text are character none each = spelled_by a part text character (λ t i held.
    split_at (text ≡ spelling_in part t) t (table_tokens 0 a.table) (flat_map (λ (u : UnitAnalysis). numbers_brought u.text) a.units) i.0 i.1
    (λ j.
    let k = kept_token a.table t j in
    let wrong : Some k.file ≡ None = sym k.is_kept ∙ ap (kept_at a.table) (kept_file a.table t part.start k held) ∙ none in
    absurd (cc))
    (λ j.
    let s = are.all t j in
    let also : holds (span_of s.token) part.start ≡ true = subst (λ (q : Part). holds q part.start ≡ true) (sym s.place) held in
    each s.among.0 s.token s.among.1 also
    ∙ ap (λ (q : Part). take part.len (drop (part.start.at - q.start.at) s.token.text)) s.place
    ∙ ap (λ (w : List ℕ). take part.len (drop (part.start.at - (span_of t).start.at) w)) s.text))

-- ---- the file of a part

-- a part of no kept file is one of a number
pub number_file : (a : AnalysisValue) (numbers : List Token) (p : Pos) → AreNumbers (all_brought a.units) numbers → IsCharacter a p → kept_at a.table p.file ≡ None → p.file ≡ 0
unfolding file_tokens
number_file a numbers p are character none =
    let s = span_among (file_tokens a) character.1.0 character.0 character.1.1 in
    let held : holds (span_of s.0) p ≡ true = subst (λ (q : Part). holds q p ≡ true) (sym s.2) character.2 in
    split_at (p.file ≡ 0) s.0 (table_tokens 0 a.table) (flat_map (λ (u : UnitAnalysis). numbers_brought u.text) a.units) s.1.0 s.1.1
    (λ j.
    let k = kept_token a.table s.0 j in
    let wrong : Some k.file ≡ None = sym k.is_kept ∙ ap (kept_at a.table) (kept_file a.table s.0 p k held) ∙ none in
    absurd (cc))
    (λ j. brought_lines a numbers s.0 p are j held)

pub numbers_in_line : (brought numbers : List Token) (n : ℕ) → AreNumbers brought numbers → n ≡ 0 → AreInLine n numbers
numbers_in_line brought numbers n are is = record {
  placed = λ k t at. are.in_order.lines k t at ∙ sym is;
  ordered = are.in_order.ordered;
}
