-- File tokens of the renamed analysis stand where the table of classes puts them.
use Rattle.std.proofs.Common.{◌≡◌, ℕ, zero, suc, ◌+◌, ◌-◌, ◌<◌, ◌≤◌, Bool, List, [], ◌∷◌, ◌++◌, if◌then◌else◌, map, take, length, Option, None, Some, inl, inr, refl, sym, ap, subst, ◌∙◌, arith, length-append}
use Rattle.std.specs.Prelude.{slice_get, unwrap_or, option_map}
use Rattle.std.specs.Option.{option_map_or, option_and_then}
use Rattle.std.proofs.lemmas.Bool.{eq-eqb}
use Rattle.std.proofs.lemmas.Option.{none-some, same_Some, slice_get-map}
use Rattle.cs_base.specs.declared.positions.Part.{Part}
use Rattle.cs_base.specs.declared.positions.Pos.{Pos}
use Rattle.cs_base.specs.Token.{Token}
use Rattle.cs_base.proofs.PlaceLemmas.{pos_is}
use Rattle.analysis.specs.Below.eclass_map.ClassTable.{Table, IsAdded, added_tokens}
use Rattle.analysis.specs.Below.eclass_map.Positions.{end_of, holds}
use Rattle.analysis.specs.Below.eclass_map.Resized.{Resizes, moved_to, moved_token}
use Rattle.lexer.specs.Logical.{logical_of, spelling}
use Rattle.lexer.specs.Places.{pos, origins_from}
use Rattle.lexer.specs.Respelling.{respell, moved}
use Rattle.lexer.proofs.NameLemmas.{name_some as some_name}
use Rattle.part_respell.specs.Respelled.{member_over, put_in, put_at, put_of}
use Rattle.source_files.specs.KeptFiles.{KeptValue, kept_at}
use Rattle.analysis.specs.Analysed.{Analysed}
use Rattle.analysis.specs.Analysis.{AnalysisValue}
use Rattle.analysis.specs.FileTokens.{file_tokens, span_of, IsFileToken}
use Rattle.edited_unit_laws.specs.Analyses.{renamed_analysis}
use Rattle.unit_steps.specs.Below.macro_expand.Renaming.{Renaming, renamed}
use Rattle.renamed.specs.Renamed.{moved_in, move_to, spell_from, trace_from}
use Rattle.analysis.proofs.Below.eclass_map.TokenFacts.{holding}
use Rattle.analysis.proofs.TokenPlaceLemmas.{token_placed}
use Rattle.rename_meaning.specs.Allowed.{IsAllowed}
use Rattle.edited_unit_laws.proofs.FileLemmas.{token_stands}
use Rattle.edited_unit_laws.proofs.ListLemmas.{In, found}
use Rattle.rename_meaning.proofs.MemberLemmas.{over_begins}
use Rattle.edited_unit_laws.proofs.TableTokenLemmas.{span_is}
use Rattle.rename_meaning.proofs.NoneLemmas.{none_stand, no_line}
use Rattle.edited_unit_laws.proofs.AnalysedUnitLemmas.{unit_is, number_origin, no_lines}
use Rattle.rename_meaning.specs.KeptUnits.{change}
use Rattle.rename_meaning.specs.OneMove.{TokensAreMoved, FileTokensFollow}
use Rattle.rename_meaning.proofs.OneMoveLemmas.{InKept, IsNumber, kept_or_number, span_moves}
use Rattle.rename_meaning.proofs.KeptFileTokenLemmas.{file_tokens_are_renamed_where_named}
use Rattle.rename_meaning.proofs.SameElementLemmas.{mapped_at}

-- ---- what is put for characters, by how much it is

module _ (a : AnalysisValue) (members : List Part) (name : List ℕ) where
  abbrev pub size : Pos → ℕ
  size p = length (put_at members name p 0)

  -- whatever character it is
  pub put_size : (p : Pos) (c : ℕ) → length (put_at members name p c) ≡ size p
  put_size p c = by (member_over members p)
    where
      by : (o : Option Part) → length (option_map_or (put_in name p) o (c ∷ [])) ≡ length (option_map_or (put_in name p) o (0 ∷ []))
      by None = refl
      by (Some m) = refl

  -- of n characters of a file from one on
  abbrev pub sizes : ℕ → ℕ → ℕ → ℕ
  sizes file at zero = 0
  sizes file at (suc n) = size (pos file at) + sizes file (at + 1) n

  respelled_size : (file : ℕ) (cs : List ℕ) (at n : ℕ) → n ≤ length cs → length (respell (put_of members name file) at (take n cs)) ≡ sizes file at n
  respelled_size file cs at zero less = none cs
    where
      none : (ds : List ℕ) → length (respell (put_of members name file) at (take zero ds)) ≡ 0
      none [] = refl
      none (d ∷ ds) = refl
  respelled_size file [] at (suc n) less = absurd (omega (arith, less))
  respelled_size file (c ∷ cs) at (suc n) less =
      let both = length-append (put_of members name file at c) (respell (put_of members name file) (at + 1) (take n cs)) in
      let first = put_size (pos file at) c in
      let rest = respelled_size file cs (at + 1) n (omega (arith, less)) in
      omega (arith, both, first, rest)

  sizes_both : (file at n k : ℕ) → sizes file at (n + k) ≡ sizes file at n + sizes file (at + n) k
  sizes_both file at zero k =
      let none : zero + k ≡ k = omega arith in
      let same : at ≡ at + zero = omega arith in
      let start : sizes file at (zero + k) ≡ sizes file (at + zero) k = ap (sizes file at) none ∙ ap (λ (x : ℕ). sizes file x k) same in
      omega (arith, start)
  sizes_both file at (suc n) k =
      let on : suc n + k ≡ suc (n + k) = omega arith in
      let place : at + 1 + n ≡ at + suc n = omega arith in
      let step : sizes file at (suc n + k) ≡ size (pos file at) + sizes file (at + 1) (n + k) = ap (sizes file at) on in
      let rest = sizes_both file (at + 1) n k in
      let same : sizes file (at + 1 + n) k ≡ sizes file (at + suc n) k = ap (λ (x : ℕ). sizes file x k) place in
      omega (arith, step, rest, same)

  -- a position moves on by what is put for the characters between
  pub moves_on : (file : ℕ) (text : List ℕ) (n k : ℕ) → n + k ≤ length text
      → moved (put_of members name file) text (n + k) ≡ moved (put_of members name file) text n + sizes file n k
  moves_on file text n k less =
      let all = respelled_size file text 0 (n + k) less in
      let front = respelled_size file text 0 n (omega (arith, less)) in
      let both = sizes_both file 0 n k in
      let place : 0 + n ≡ n = omega arith in
      let same : sizes file (0 + n) k ≡ sizes file n k = ap (λ (x : ℕ). sizes file x k) place in
      omega (arith, all, front, both, same)

  -- the new spelling of n characters of a file
  pub spelled_size : (file at n : ℕ) (text : List ℕ) → length text ≡ n → length (spell_from members name (origins_from file at n) text) ≡ sizes file at n
  unfolding spell_from
  spelled_size file at zero text e = e
  spelled_size file at (suc n) [] e = absurd (omega (arith, e))
  spelled_size file at (suc n) (c ∷ text) e =
      let both = length-append (put_at members name (pos file at) c) (spell_from members name (origins_from file (at + 1) n) text) in
      let first = put_size (pos file at) c in
      let rest = spelled_size file (at + 1) n text (omega (arith, e)) in
      omega (arith, both, first, rest)

  -- the first origin of what is put for a first character
  first_origin : (file at n : ℕ) (os : List (Option Pos)) → 0 < n → slice_get (origins_from file at n ++ os) 0 ≡ Some (Some (pos file at))
  first_origin file at zero os some = absurd (omega (arith, some))
  first_origin file at (suc n) os some = refl

  pub traced_first : (file at n : ℕ) (text : List ℕ) → length text ≡ suc n → 0 < size (pos file at)
      → slice_get (trace_from a members name (origins_from file at (suc n)) text) 0 ≡ Some (Some (pos file (move_to a members name (pos file at)).at))
  unfolding trace_from
  traced_first file at n [] e some = absurd (omega (arith, e))
  traced_first file at n (c ∷ text) e some =
      let same = put_size (pos file at) c in
      first_origin file (move_to a members name (pos file at)).at (length (put_at members name (pos file at) c)) (trace_from a members name (origins_from file (at + 1) n) text) (omega (arith, same, some))

  -- what comes from no member stays
  abbrev pub FromNone : List (Option Pos) → Type 0
  FromNone os = (k : ℕ) (p : Pos) → slice_get os k ≡ Some (Some p) → (size p ≡ 1) × (move_to a members name p ≡ p)

  pub stays_long : (os : List (Option Pos)) (text : List ℕ) → FromNone os → length (spell_from members name os text) ≡ length text
  unfolding spell_from
  stays_long [] text h = refl
  stays_long (o ∷ os) [] h = refl
  stays_long (None ∷ os) (c ∷ text) h = ap suc (stays_long os text (λ k p e. h (suc k) p e))
  stays_long (Some p ∷ os) (c ∷ text) h =
      let both = length-append (put_at members name p c) (spell_from members name os text) in
      let first = put_size p c in
      let one = (h 0 p refl).0 in
      let rest = stays_long os text (λ k q e. h (suc k) q e) in
      omega (arith, both, first, one, rest)

  abbrev first_of : List (Option Pos) → Pos
  first_of os = unwrap_or (option_and_then (λ (o : Option Pos). o) (slice_get os 0)) (pos 0 0)

  pub stays_first : (os : List (Option Pos)) (text : List ℕ) → FromNone os → first_of (trace_from a members name os text) ≡ first_of os
  unfolding trace_from
  stays_first [] text h = refl
  stays_first (o ∷ os) [] h = refl
  stays_first (None ∷ os) (c ∷ text) h = refl
  stays_first (Some p ∷ os) (c ∷ text) h =
      let one = (h 0 p refl).0 in
      let move = (h 0 p refl).1 in
      let same = put_size p c in
      ap (λ (o : Option (Option Pos)). unwrap_or (option_and_then (λ (x : Option Pos). x) o) (pos 0 0))
      (first_origin p.file (move_to a members name p).at (length (put_at members name p c)) (trace_from a members name os text) (omega (arith, same, one)))
      ∙ pos_is (pos p.file (move_to a members name p).at) p refl (ap (λ (q : Pos). q.at) move)

module _ (a : Analysed) (members : List Part) (name : List ℕ) (h : IsAllowed a members name) where
  abbrev IsMoved : Token → Type 0
  IsMoved t = span_of (renamed (change a.value members name).renaming t) ≡ moved_token h.number (length name) a.classes (span_of t)

  part_is : (p q : Part) → p.start ≡ q.start → p.len ≡ q.len → p ≡ q
  part_is p q s l = λ i. record { start = s i; len = l i }

  -- ---- tokens of kept files

  name_put : (token : Part) (m : Part) → m.start.at ≡ token.start.at → length (put_in name token.start m) ≡ length name
  name_put token m same = ap (λ (b : Bool). length (if b then name else [])) (eq-eqb m.start.at token.start.at same)

  -- something is put for the first character of a file token
  begins_some : (token : Part) → IsFileToken a.value token → 0 < size a.value members name token.start
  begins_some token is = by (member_over members token.start) refl
    where
      by : (o : Option Part) → member_over members token.start ≡ o → 0 < length (option_map_or (put_in name token.start) o (0 ∷ []))
      by None e = omega arith
      by (Some m) e =
          let of = h.class in
          let long = name_put token m (over_begins a.value members of.part of.listed token m is e) in
          let some = some_name name h.identifier in
          omega (arith, long, some)

  join : (x to from before behind first last : ℕ) → x ≡ to → behind ≡ before + to → first ≡ before → last ≡ behind → x ≡ last - first
  join x to from before behind first last e f g k = omega (arith, e, f, g, k)

  kept_moved : (t : Token) → In t (file_tokens a.value) → InKept a members name h t → IsMoved t
  kept_moved t i k =
      let f : KeptValue = k.file in
      let text : List ℕ = spelling (logical_of f.bytes) in
      let S : Part = span_of t in
      let p : Pos = S.start in
      let q : Pos = end_of S in
      let L : ℕ = length t.text in
      let stands = token_stands f.number f.bytes t (k.place, k.at) in
      let placed = token_placed f.number f.bytes k.place t k.at in
      let origins : t.origins ≡ origins_from p.file p.at L = stands.origins ∙ ap (λ (x : Part). origins_from x.start.file x.start.at x.len) (sym placed.span) in
      let both = span_moves a members name h t i in
      let first_at : (move_to a.value members name p).at ≡ moved (put_of members name p.file) text p.at =
      ap (λ (o : Option KeptValue). (option_map_or (moved_in members name p) o p).at) k.is_kept in
      let last_at : (move_to a.value members name q).at ≡ moved (put_of members name p.file) text q.at =
      ap (λ (o : Option KeptValue). (option_map_or (moved_in members name q) o q).at) k.is_kept in
      let on = moves_on a.value members name p.file text p.at L k.ends in
      let long : length (spell_from members name t.origins t.text) ≡ sizes a.value members name p.file p.at L =
      ap (λ (os : List (Option Pos)). length (spell_from members name os t.text)) origins ∙ spelled_size a.value members name p.file p.at L t.text refl in
      let first : slice_get (trace_from a.value members name t.origins t.text) 0 ≡ Some (Some (pos p.file (move_to a.value members name p).at)) =
      ap (λ (os : List (Option Pos)). slice_get (trace_from a.value members name os t.text) 0) origins
      ∙ first_by t.text p.file p.at L refl k.some (begins_some S (span_is a.value t i)) in
      part_is (span_of (renamed (change a.value members name).renaming t)) (moved_token h.number (length name) a.classes S)
      (ap (λ (o : Option (Option Pos)). unwrap_or (option_and_then (λ (x : Option Pos). x) o) (pos 0 0)) first
      ∙ pos_is (pos p.file (move_to a.value members name p).at) (moved_to h.number (length name) a.classes p) refl (ap (λ (x : Pos). x.at) both.0))
      (join (length (spell_from members name t.origins t.text)) (sizes a.value members name p.file p.at L) 0 (moved (put_of members name p.file) text p.at)
      (moved (put_of members name p.file) text q.at) (moved_to h.number (length name) a.classes p).at (moved_to h.number (length name) a.classes q).at
      long on (sym (ap (λ (x : Pos). x.at) both.0) ∙ first_at) (sym (ap (λ (x : Pos). x.at) both.1) ∙ last_at))
    where
      first_by : (text : List ℕ) (file at n : ℕ) → length text ≡ n → 0 < n → 0 < size a.value members name (pos file at)
          → slice_get (trace_from a.value members name (origins_from file at n) text) 0 ≡ Some (Some (pos file (move_to a.value members name (pos file at)).at))
      first_by text file at zero e some put = absurd (omega (arith, some))
      first_by text file at (suc n) e some put = traced_first a.value members name file at n text e put

  -- ---- numbers

  no_member : (p : Pos) → p.file ≡ 0 → size a.value members name p ≡ 1
  no_member p line = by (member_over members p) refl
    where
      by : (o : Option Part) → member_over members p ≡ o → length (option_map_or (put_in name p) o (0 ∷ [])) ≡ 1
      by None e = refl
      by (Some m) e =
          let f = found (λ (x : Part). holds x p) members m e in
          let held = holding m p f.1 in
          absurd (no_line a.value members name (none_stand a.value members name h.first) m f.0 (held.file ∙ line))

  pub line_still : (p : Pos) → p.file ≡ 0 → move_to a.value members name p ≡ p
  line_still p line =
      ap (λ (o : Option KeptValue). option_map_or (moved_in members name p) o p) (ap (kept_at a.value.table) line ∙ no_lines h.source h.workspace a.value h.accepted)

  number_moved : (t : Token) → In t (file_tokens a.value) → IsNumber a members name h t → IsMoved t
  number_moved t i n =
      let from : FromNone a.value members name t.origins = λ k p e.
      (let line = number_origin a.value n.unit n.of (unit_is h.source h.workspace a.value h.accepted n.unit n.of) t n.brought k p e in
      (no_member p line, line_still p line)) in
      let S : Part = span_of t in
      let both = span_moves a members name h t i in
      let first : S.start ≡ moved_to h.number (length name) a.classes S.start = sym (line_still S.start n.line) ∙ both.0 in
      let last : end_of S ≡ moved_to h.number (length name) a.classes (end_of S) = sym (line_still (end_of S) n.line) ∙ both.1 in
      let len = stays_long a.value members name t.origins t.text from in
      part_is (span_of (renamed (change a.value members name).renaming t)) (moved_token h.number (length name) a.classes S)
      (stays_first a.value members name t.origins t.text from ∙ first)
      (join_line (length (spell_from members name t.origins t.text)) (length t.text) S.start.at (moved_to h.number (length name) a.classes S.start).at
      (moved_to h.number (length name) a.classes (end_of S)).at len (ap (λ (x : Pos). x.at) first) (ap (λ (x : Pos). x.at) last))
    where
      join_line : (x n at first last : ℕ) → x ≡ n → at ≡ first → at + n ≡ last → x ≡ last - first
      join_line x n at first last e f g = omega (arith, e, f, g)

  pub token_moved : (t : Token) → In t (file_tokens a.value) → IsMoved t
  token_moved t i = elim (kept_or_number a members name h t i) [ inl k ↦ kept_moved t i k | inr n ↦ number_moved t i n ]

pub tokens_are_moved : TokensAreMoved
tokens_are_moved = λ a members name h t i. token_moved a members name h t i

-- ---- the table of classes

module _ (a : Analysed) (members : List Part) (name : List ℕ) (h : IsAllowed a members name) (new : Table) (moves : Resizes h.number (length name) a.classes new)
    (tokens : file_tokens (renamed_analysis (change a.value members name) a.value) ≡ map (renamed (change a.value members name).renaming) (file_tokens a.value)) where
  abbrev r : Renaming
  r = (change a.value members name).renaming

  -- a file token of the renamed analysis, by its number
  span_at : (k : ℕ) → slice_get (map span_of (file_tokens (renamed_analysis (change a.value members name) a.value))) k
      ≡ option_map span_of (option_map (renamed r) (slice_get (file_tokens a.value) k))
  span_at k =
      slice_get-map span_of (file_tokens (renamed_analysis (change a.value members name) a.value)) k
      ∙ ap (λ (ts : List Token). option_map span_of (slice_get ts k)) tokens
      ∙ ap (option_map span_of) (slice_get-map (renamed r) (file_tokens a.value) k)

  added_is : (token : Part) → IsAdded new token → IsFileToken (renamed_analysis (change a.value members name) a.value) token
  added_is token at =
      let moved_at : slice_get (map (moved_token h.number (length name) a.classes) (added_tokens a.classes)) at.0 ≡ Some token =
      subst (λ (ps : List Part). slice_get ps at.0 ≡ Some token) moves.tokens at.1 in
      let old = mapped_at (moved_token h.number (length name) a.classes) (added_tokens a.classes) at.0 token moved_at in
      let own = h.own in
      let is = own.tokens old.0 (at.0, old.2) in
      let t = mapped_at span_of (file_tokens a.value) is.0 old.0 is.1 in
      let moved_is = token_moved a members name h t.0 (is.0, t.2) in (
        is.0,
        span_at is.0 ∙ (ap (λ (o : Option Token). option_map span_of (option_map (renamed r) o)) t.2
            ∙ ap (λ (x : Part). Some x) (moved_is ∙ (ap (moved_token h.number (length name) a.classes) (sym t.1) ∙ sym old.1))),
      )

  is_added : (token : Part) → IsFileToken (renamed_analysis (change a.value members name) a.value) token → IsAdded new token
  is_added token is = by (slice_get (file_tokens a.value) is.0) refl
    where
      by : (o : Option Token) → slice_get (file_tokens a.value) is.0 ≡ o → IsAdded new token
      by None e = absurd (none-some token (sym (span_at is.0 ∙ ap (λ (o : Option Token). option_map span_of (option_map (renamed r) o)) e) ∙ is.1))
      by (Some t) e =
          let same : span_of (renamed r t) ≡ token =
          same_Some (span_of (renamed r t)) token (sym (span_at is.0 ∙ ap (λ (o : Option Token). option_map span_of (option_map (renamed r) o)) e) ∙ is.1) in
          let own = h.own in
          let there = own.all (span_of t) (span_is a.value t (is.0, e)) in
          let moved_is = token_moved a members name h t (is.0, e) in (
            there.0,
            ap (λ (ps : List Part). slice_get ps there.0) moves.tokens
                ∙ (slice_get-map (moved_token h.number (length name) a.classes) (added_tokens a.classes) there.0
                ∙ (ap (option_map (moved_token h.number (length name) a.classes)) there.1 ∙ ap (λ (x : Part). Some x) (sym moved_is ∙ same))),
          )

pub file_tokens_follow : FileTokensFollow
file_tokens_follow = λ a members name path line column h named new moves.
    let tokens = file_tokens_are_renamed_where_named a members name path line column h named in
    record { tokens = added_is a members name h new moves tokens; all = is_added a members name h new moves tokens }
