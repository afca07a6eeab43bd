-- A token that is added behind all others.
use Rattle.std.proofs.Common.{◌≡◌, ℕ, true, List, [], ◌∷◌, ◌++◌, length, map, Some, sym, ap, ◌∙◌, subst, inl, inr, arith}
use Rattle.std.specs.Prelude.{slice_get, option_map}
use Rattle.std.specs.List.{insert}
use Rattle.std.proofs.lemmas.Bool.{cases_lt}
use Rattle.std.proofs.lemmas.List.{map_push}
use Rattle.std.proofs.lemmas.List.Edits.{insert_end}
use Rattle.std.proofs.lemmas.Option.{slice_get-map, slice_get_within}
use Rattle.cs_base.specs.declared.positions.Part.{Part}
use Rattle.cs_base.specs.declared.positions.Pos.{Pos}
use Rattle.eclass_map.specs.declared.token_list.Added.{Added}
use Rattle.eclass_map.specs.ClassTable.{Table, IsFree, added_tokens, begun_count, with_token}
use Rattle.eclass_map.specs.Positions.{along, begins_by}
use Rattle.eclass_map.proofs.AddTokenFacts.{entry}
use Rattle.eclass_map.proofs.InsertFacts.{begun_count_is}
use Rattle.eclass_map.proofs.TokenFacts.{holding, begun_from}
use Rattle.eclass_map.proofs.TokenFacts.Begun.{file_before, same_file}
use Rattle.analysis.specs.Adding.{EndBy, IsAdding, Follows}
use Rattle.analysis.proofs.PushedLemmas.{pushed_cases}

-- its characters lie in no token
pub free_behind : (t : Table) (end : Pos) (n count : ℕ) (part : Part) → IsAdding t end n → Follows end count part → IsFree t part
free_behind t end n count part h f o less held =
    let l = h.parts.lies (along part.start o) held in
    let w = holding l.0 (along part.start o) l.2 in
    let file = w.file in
    let from = w.from in
    let inside = w.less in
    let low = h.ends.file l.1.0 l.0 l.1.1 in
    let next = f.file in
    let same : l.0.start.file ≡ end.file = omega arith in
    let ends = h.ends.at l.1.0 l.0 l.1.1 same in
    let begins = f.at (omega arith) in
    omega arith

-- all tokens have begun where it begins
begun_all : (tokens : List Added) (end : Pos) (count : ℕ) (part : Part) → EndBy end (map (λ (r : Added). r.place) tokens) → Follows end count part
    → (k : ℕ) (r : Added) → slice_get tokens k ≡ Some r → begins_by r part.start ≡ true
begun_all tokens end count part h f k r at =
    let place : Added → Part = λ (r : Added). r.place in
    let there : slice_get (map place tokens) k ≡ Some r.place = slice_get-map place tokens k ∙ ap (λ o. option_map place o) at in
    let low = h.file k r.place there in
    let next = f.file in
    elim (cases_lt r.place.start.file part.start.file) [
      | inl less ↦ begun_from r part.start (file_before less)
      | inr most ↦
          let same : r.place.start.file ≡ end.file = omega arith in
          let ends = h.at k r.place there same in
          let begins = f.at (omega arith) in
          begun_from r part.start (same_file (omega arith) (omega arith))
    ]

begun_is : (tokens : List Added) (end : Pos) (count : ℕ) (part : Part) → EndBy end (map (λ (r : Added). r.place) tokens) → Follows end count part
    → begun_count tokens part.start ≡ length tokens
begun_is tokens end count part h f =
    begun_count_is tokens part.start (length tokens) (omega arith) (record {
      before = λ k r less at. begun_all tokens end count part h f k r at;
      behind = λ k r least at. let less = slice_get_within tokens k r at in absurd (omega arith);
    })

-- it is the last one
pub added_last : (t u : Table) (end : Pos) (count : ℕ) (part : Part) → EndBy end (added_tokens t) → Follows end count part → u ≡ with_token part t
    → added_tokens u ≡ added_tokens t ++ part ∷ []
unfolding with_token
added_last t u end count part h f is =
    let place : Added → Part = λ (r : Added). r.place in
    let new : Added = entry part t in
    ap added_tokens is
    ∙ ap (λ (k : ℕ). map place (insert t.tokens k new)) (begun_is t.tokens end count part h f)
    ∙ ap (map place) (insert_end t.tokens new)
    ∙ map_push place t.tokens new

-- the next one can follow where it ends
end_last : (tokens : List Part) (end : Pos) (count : ℕ) (part : Part) → EndBy end tokens → Follows end count part → EndBy (along part.start part.len) (tokens ++ part ∷ [])
end_last tokens end count part h f = record {
  file = λ k token at. elim (pushed_cases tokens part token k at) [
    | inl old ↦ let low = h.file k token old.1 in let next = f.file in omega arith
    | inr own ↦ let same = ap (λ (p : Part). p.start.file) own.1 in omega arith
  ];
  at = λ k token at file. elim (pushed_cases tokens part token k at) [
    | inl old ↦
        let low = h.file k token old.1 in
        let next = f.file in
        let same : token.start.file ≡ end.file = omega arith in
        let ends = h.at k token old.1 same in
        let begins = f.at (omega arith) in
        omega arith
    | inr own ↦
        let start = ap (λ (p : Part). p.start.at) own.1 in
        let len = ap (λ (p : Part). p.len) own.1 in
        omega arith
  ];
}

pub ends_last : (t u : Table) (end : Pos) (count : ℕ) (part : Part) → EndBy end (added_tokens t) → Follows end count part → u ≡ with_token part t
    → EndBy (along part.start part.len) (added_tokens u)
ends_last t u end count part h f is =
    let P : List Part → Type 0 = λ tokens. EndBy (along part.start part.len) tokens in
    subst P (sym (added_last t u end count part h f is)) (end_last (added_tokens t) end count part h f)
