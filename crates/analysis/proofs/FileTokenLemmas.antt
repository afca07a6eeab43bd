-- The file tokens of a workspace, file by file and number by number.
use Rattle.std.proofs.Common.{◌≡◌, ℕ, ◌+◌, ◌<◌, ◌≤◌, List, [], ◌∷◌, ◌++◌, zero, suc, length, map, drop, Some, refl, sym, ap, ◌∙◌, inl, inr, append_assoc}
use Rattle.std.specs.Prelude.{slice_get, option_map}
use Rattle.std.specs.Option.{option_map_or}
use Rattle.std.proofs.lemmas.List.{at_drop_more, at_drop_all, append-nil, map-append}
use Rattle.std.proofs.lemmas.Option.{none-some, same_Some, slice_get-get_or, slice_get-map}
use Rattle.cs_base.specs.declared.positions.Part.{Part}
use Rattle.cs_base.specs.Token.{Token}
use Rattle.cs_base.proofs.ListLemmas.{in_front as pushed_old}
use Rattle.eclass_map.specs.ClassTable.{Table as Classes, added_tokens}
use Rattle.include_tree.specs.Below.source_files.Files.{Table, Entry, Absent, entry}
use Rattle.include_tree.specs.Below.source_files.KeptFiles.{kept_at}
use Rattle.analysis.specs.Analysis.{AnalysisValue}
use Rattle.analysis.specs.BroughtNumbers.{AreNumbers, all_brought}
use Rattle.analysis.specs.Classes.{HasFileTokens}
use Rattle.analysis.specs.FileTokens.{file_tokens, kept_tokens, span_of, table_tokens}
use Rattle.analysis.proofs.PushedLemmas.{behind_at, either_at}

-- ---- file by file

abbrev pub tokens_at : Table → ℕ → List Token
tokens_at table k = option_map_or kept_tokens (kept_at table k) []

table_tokens-more : (table : Table) (k : ℕ) → k < length table → table_tokens k (drop k table) ≡ tokens_at table k ++ table_tokens (k + 1) (drop (k + 1) table)
unfolding table_tokens
table_tokens-more table k within =
    let d : Entry = entry [] Absent in
    let found = slice_get-get_or table k d within in
    at_drop_more (table_tokens k) table k d within ∙ rw found refl

-- the tokens so far and those still to come
pub tokens-more : (table : Table) (k : ℕ) (parts now whole : List Part) → k < length table
    → parts ++ map span_of (table_tokens k (drop k table)) ≡ whole
    → now ≡ parts ++ map span_of (tokens_at table k)
    → now ++ map span_of (table_tokens (k + 1) (drop (k + 1) table)) ≡ whole
tokens-more table k parts now whole within so_far added =
    let here : List Token = tokens_at table k in
    let rest : List Token = table_tokens (k + 1) (drop (k + 1) table) in
    ap (λ (ps : List Part). ps ++ map span_of rest) added
    ∙ append_assoc parts (map span_of here) (map span_of rest)
    ∙ ap (λ (ps : List Part). parts ++ ps) (sym (map-append span_of here rest))
    ∙ ap (λ (ts : List Token). parts ++ map span_of ts) (sym (table_tokens-more table k within))
    ∙ so_far

pub tokens-end : (table : Table) (k : ℕ) (parts whole : List Part) → length table ≤ k
    → parts ++ map span_of (table_tokens k (drop k table)) ≡ whole → parts ≡ whole
unfolding table_tokens
tokens-end table k parts whole past so_far =
    sym (append-nil parts)
    ∙ ap (λ (ts : List Token). parts ++ map span_of ts) (sym (at_drop_all (table_tokens k) table k past))
    ∙ so_far

-- ---- the tokens of the table of classes

-- a span in a list of spans is that of a token
spanned : (toks : List Token) (part : Part) (k : ℕ) → slice_get (map span_of toks) k ≡ Some part
    → (t : Token) × (slice_get toks k ≡ Some t) × (span_of t ≡ part)
spanned [] part k at = absurd (none-some part at)
spanned (t ∷ toks) part zero at = (t, refl, same_Some (span_of t) part at)
spanned (t ∷ toks) part (suc k) at = spanned toks part k at

span_at : (toks : List Token) (t : Token) (k : ℕ) → slice_get toks k ≡ Some t → slice_get (map span_of toks) k ≡ Some (span_of t)
span_at toks t k at = slice_get-map span_of toks k ∙ ap (λ o. option_map span_of o) at

file_tokens_are : (a : AnalysisValue) → map span_of (file_tokens a) ≡ map span_of (table_tokens 0 a.table) ++ map span_of (all_brought a.units)
unfolding file_tokens
file_tokens_are a = map-append span_of (table_tokens 0 a.table) (all_brought a.units)

pub has_file_tokens : (a : AnalysisValue) (t : Classes) (numbers : List Token) → AreNumbers (all_brought a.units) numbers
    → added_tokens t ≡ map span_of numbers ++ map span_of (table_tokens 0 a.table) → HasFileTokens a t
has_file_tokens a t numbers h is =
    let files : List Part = map span_of (table_tokens 0 a.table) in
    let brought : List Part = map span_of (all_brought a.units) in
    let whole = file_tokens_are a in
    record {
      tokens = λ part added.
          let there : slice_get (map span_of numbers ++ files) added.0 ≡ Some part = ap (λ ps. slice_get ps added.0) (sym is) ∙ added.1 in
          elim (either_at (map span_of numbers) files part added.0 there) [
            | inl number ↦
                let s = spanned numbers part added.0 number in
                let b = h.each s.0 (added.0, s.1) in
                (length files + b.0, ap (λ ps. slice_get ps (length files + b.0)) whole ∙ behind_at files brought part b.0 (span_at (all_brought a.units) s.0 b.0 b.1 ∙ ap Some s.2))
            | inr kept ↦ (kept.0, ap (λ ps. slice_get ps kept.0) whole ∙ pushed_old files brought part kept.0 kept.1)
          ];
      all = λ part token.
          let there : slice_get (files ++ brought) token.0 ≡ Some part = ap (λ ps. slice_get ps token.0) (sym whole) ∙ token.1 in
          elim (either_at files brought part token.0 there) [
            | inl kept ↦
                let k = length (map span_of numbers) + token.0 in
                (k, ap (λ ps. slice_get ps k) is ∙ behind_at (map span_of numbers) files part token.0 kept)
            | inr number ↦
                let s = spanned (all_brought a.units) part number.0 number.1 in
                let b = h.all s.0 (number.0, s.1) in
                let k = b.among.0 in
                (k, ap (λ ps. slice_get ps k) is ∙ pushed_old (map span_of numbers) files part k (span_at numbers b.token k b.among.1 ∙ ap Some (b.place ∙ s.2)))
          ];
    }
