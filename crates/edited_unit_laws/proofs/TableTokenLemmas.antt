-- File tokens, by the files of the table that have them.
use Rattle.std.proofs.Common.{◌≡◌, ℕ, zero, suc, ◌+◌, ◌-◌, true, List, [], ◌∷◌, map, Option, None, Some, refl, sym, ap, subst, ◌∙◌, arith}
use Rattle.std.specs.Prelude.{slice_get, option_map}
use Rattle.std.specs.List.{flat_map}
use Rattle.std.specs.Option.{option_map_or, option_and_then}
use Rattle.std.proofs.lemmas.Option.{same_Some, slice_get-map}
use Rattle.cs_base.specs.declared.positions.Part.{Part}
use Rattle.cs_base.specs.Token.{Token, has_origins}
use Rattle.lexer.specs.Tokens.{tokens_of}
use Rattle.source_files.specs.Files.{Table}
use Rattle.source_files.specs.KeptFiles.{KeptValue, kept_in, kept_at}
use Rattle.analysis.specs.Analysis.{UnitAnalysis, AnalysisValue}
use Rattle.analysis.specs.FileTokens.{kept_tokens, entry_tokens, table_tokens, numbers_brought, file_tokens, span_of, IsFileToken}
use Rattle.analysis.proofs.NamingLemmas.{split_at, in_left, in_right, in_filter}
use Rattle.edited_unit_laws.proofs.ListLemmas.{In}

in_entry : (n : ℕ) (o : Option KeptValue) (t : Token) → In t (option_map_or kept_tokens o []) → (f : KeptValue) × (o ≡ Some f) × In t (kept_tokens f)
in_entry n None t i = absurd (cc)
in_entry n (Some f) t i = (f, refl, i)

pub in_table : (table : Table) (n : ℕ) (t : Token) → In t (table_tokens n table)
    → (k : ℕ) × (f : KeptValue) × (option_and_then (kept_in (n + k)) (slice_get table k) ≡ Some f) × In t (kept_tokens f)
unfolding table_tokens
in_table [] n t i = absurd (cc)
in_table (e ∷ table) n t i = split_at _ t (entry_tokens n e) (table_tokens (n + 1) table) i.0 i.1
    (λ j. let r = in_entry n (kept_in n e) t j in let same : n ≡ n + 0 = omega arith in
    (0, r.0, subst (λ (m : ℕ). kept_in m e ≡ Some r.0) same r.1, r.2))
    (λ j. let r = in_table table (n + 1) t j in let on : (n + 1) + r.0 ≡ n + suc r.0 = omega arith in
    (suc r.0, r.1, subst (λ (m : ℕ). option_and_then (kept_in m) (slice_get table r.0) ≡ Some r.1) on r.2, r.3))

table_in : (table : Table) (n k : ℕ) (f : KeptValue) (t : Token) → option_and_then (kept_in (n + k)) (slice_get table k) ≡ Some f → In t (kept_tokens f)
    → In t (table_tokens n table)
unfolding table_tokens
table_in [] n k f t is i = absurd (cc)
table_in (e ∷ table) n zero f t is i =
    let same : n + 0 ≡ n = omega arith in
    let entry : kept_in n e ≡ Some f = subst (λ (m : ℕ). kept_in m e ≡ Some f) same is in
    in_left t (entry_tokens n e) (table_tokens (n + 1) table) (subst (λ (o : Option KeptValue). In t (option_map_or kept_tokens o [])) (sym entry) i)
table_in (e ∷ table) n (suc k) f t is i =
    let on : n + suc k ≡ n + 1 + k = omega arith in
    in_right t (entry_tokens n e) (table_tokens (n + 1) table)
    (table_in table (n + 1) k f t (subst (λ (m : ℕ). option_and_then (kept_in m) (slice_get table k) ≡ Some f) on is) i)

module _ (a : AnalysisValue) where
  -- an identifier or pp-number of a kept file is a file token
  pub file_token : (n : ℕ) (f : KeptValue) (t : Token) → kept_at a.table n ≡ Some f → In t (tokens_of f.number f.bytes) → has_origins t.kind ≡ true
      → In t (file_tokens a)
  unfolding file_tokens
  file_token n f t is i parted =
      let same : n ≡ 0 + n = omega arith in
      let there : option_and_then (kept_in (0 + n)) (slice_get a.table n) ≡ Some f =
      subst (λ (m : ℕ). option_and_then (kept_in m) (slice_get a.table n) ≡ Some f) same is in
      in_left t (table_tokens 0 a.table) (flat_map (λ (u : UnitAnalysis). numbers_brought u.text) a.units)
      (table_in a.table 0 n f t there (in_filter (λ (u : Token). has_origins u.kind) t (tokens_of f.number f.bytes) parted i))

pub span_among : (toks : List Token) (k : ℕ) (part : Part) → slice_get (map span_of toks) k ≡ Some part → (t : Token) × In t toks × (span_of t ≡ part)
span_among [] k part e = absurd (cc)
span_among (t ∷ toks) zero part e = (t, (0, refl), same_Some (span_of t) part e)
span_among (t ∷ toks) (suc k) part e = let r = span_among toks k part e in (r.0, (suc r.1.0, r.1.1), r.2)

pub span_is : (a : AnalysisValue) (t : Token) → In t (file_tokens a) → IsFileToken a (span_of t)
span_is a t i = (i.0, slice_get-map span_of (file_tokens a) i.0 ∙ ap (λ o. option_map span_of o) i.1)
