-- The renaming of tokens that an edit of files makes.
use Rattle.std.proofs.Common.{◌≡◌, ℕ, zero, suc, ◌+◌, ◌<◌, ◌≤◌, List, [], ◌∷◌, ◌++◌, length, take, map, get_or, Option, None, Some, refl, sym, ap, subst, ◌∙◌, append-nil, arith, length-append}
use Rattle.std.specs.Option.{option_map_or}
use Rattle.std.proofs.lemmas.List.{take_more, length-take-le}
use Rattle.cs_base.specs.declared.positions.Part.{Part}
use Rattle.cs_base.specs.declared.positions.Pos.{Pos}
use Rattle.cs_base.specs.Token.{Token, token}
use Rattle.lexer.specs.Logical.{logical_of, spelling}
use Rattle.lexer.specs.Places.{pos, origins_from}
use Rattle.lexer.specs.Respelling.{Put, respell, moved}
use Rattle.lexer.specs.Tokens.{tokens_of}
use Rattle.lexer.proofs.OriginLemmas.{length-origins}
use Rattle.unit_steps.specs.Below.macro_expand.Renaming.{renamed}
use Rattle.source_files.specs.KeptFiles.{KeptValue, kept_at}
use Rattle.unit_steps.specs.Texts.{UnitTextValue}
use Rattle.part_respell.specs.Respelled.{member_over, put_in, put_at, put_of, put_for, spelled, spelled_from, moved_to}
use Rattle.edited_unit_laws.specs.EditedTokens.{edited_token, EditedFilesKeepTokens}
use Rattle.analysis.specs.Analysis.{AnalysisValue}
use Rattle.analysis.proofs.PlaceNameLemmas.{kept_number}
use Rattle.analysis.proofs.TokenPlaceLemmas.{token_placed}
use Rattle.lexer.proofs.FitLemmas.{respell-append}
use Rattle.rename_meaning.specs.Renamings.{renaming, RenamingsSpell, EditedFilesAreRenamed}
use Rattle.edited_unit_laws.proofs.ListLemmas.{In}
use Rattle.edited_unit_laws.proofs.FileLemmas.{StandsIn, token_stands}
use Rattle.rename_meaning.proofs.KeptLemmas.{files_keep_pieces}
use Rattle.renamed.specs.Renamed.{spell_from, moved_in, move_to, origins_for, trace_from}

-- ---- spellings

pub spell-same : (members : List Part) (name : List ℕ) (origins : List (Option Pos)) (text : List ℕ) → length origins ≡ length text
    → spell_from members name origins text ≡ spelled_from members name origins text
unfolding spell_from spelled_from
spell-same members name [] [] same = refl
spell-same members name [] (c ∷ text) same = absurd (omega (arith, same))
spell-same members name (o ∷ origins) [] same = absurd (omega (arith, same))
spell-same members name (o ∷ origins) (c ∷ text) same = ap (λ (w : List ℕ). put_for members name o c ++ w) (spell-same members name origins text (omega (arith, same)))

pub renamings_spell : RenamingsSpell
renamings_spell = λ a members name text t same. spell-same members name t.origins t.text same

-- ---- places

in-length : (name : List ℕ) (p : Pos) (c d : ℕ) (o : Option Part) → length (option_map_or (put_in name p) o (c ∷ [])) ≡ length (option_map_or (put_in name p) o (d ∷ []))
in-length name p c d None = refl
in-length name p c d (Some m) = refl

-- how many characters stand for one does not depend on it
put-length : (members : List Part) (name : List ℕ) (p : Pos) (c d : ℕ) → length (put_at members name p c) ≡ length (put_at members name p d)
put-length members name p c d = in-length name p c d (member_over members p)

moved-next : (members : List Part) (name : List ℕ) (file : ℕ) (text : List ℕ) (at c : ℕ) → at < length text
    → moved (put_of members name file) text (at + 1) ≡ moved (put_of members name file) text at + length (put_at members name (pos file at) c)
moved-next members name file text at c within =
    let put : Put = put_of members name file in
    let x : ℕ = get_or text at 0 in
    let more : take (at + 1) text ≡ take at text ++ x ∷ [] = take_more text at 0 within in
    let size : 0 + length (take at text) ≡ at = (let n = length-take-le at text (omega (arith, within)) in omega (arith, n)) in
    let both : respell put 0 (take (at + 1) text) ≡ respell put 0 (take at text) ++ (put at x ++ []) =
    ap (respell put 0) more ∙ respell-append put 0 (take at text) (x ∷ []) ∙ ap (λ (k : ℕ). respell put 0 (take at text) ++ (put k x ++ [])) size in
    let one : length (put at x ++ []) ≡ length (put_at members name (pos file at) c) = ap length (append-nil (put at x)) ∙ put-length members name (pos file at) x c in
    ap length both ∙ length-append (respell put 0 (take at text)) (put at x ++ []) ∙ ap (λ (k : ℕ). length (respell put 0 (take at text)) + k) one

origins-both : (file at i j : ℕ) → origins_from file at (i + j) ≡ origins_from file at i ++ origins_from file (at + i) j
origins-both file at zero j =
    let none : 0 + j ≡ j = omega arith in
    let same : at + 0 ≡ at = omega arith in
    ap (origins_from file at) none ∙ ap (λ (k : ℕ). origins_from file k j) (sym same)
origins-both file at (suc i) j =
    let more : suc i + j ≡ suc (i + j) = omega arith in
    let on : at + 1 + i ≡ at + suc i = omega arith in
    ap (origins_from file at) more
    ∙ ap (λ (os : List (Option Pos)). Some (pos file at) ∷ os) (origins-both file (at + 1) i j ∙ ap (λ (k : ℕ). origins_from file (at + 1) i ++ origins_from file k j) on)

module _ (a : AnalysisValue) (members : List Part) (name : List ℕ) (f : KeptValue) (is : kept_at a.table f.number ≡ Some f) where
  move-is : (at : ℕ) → move_to a members name (pos f.number at) ≡ pos f.number (moved_to members name f.number f.bytes at)
  move-is at = ap (λ (o : Option KeptValue). option_map_or (moved_in members name (pos f.number at)) o (pos f.number at)) is

  trace-is : (at : ℕ) (text : List ℕ) → at + length text ≤ length (spelling (logical_of f.bytes))
      → trace_from a members name (origins_from f.number at (length text)) text
      ≡ origins_from f.number (moved_to members name f.number f.bytes at) (length (spelled_from members name (origins_from f.number at (length text)) text))
  unfolding trace_from spelled_from
  trace-is at [] within = refl
  trace-is at (c ∷ text) within =
      let here : List ℕ = put_at members name (pos f.number at) c in
      let rest : List ℕ = spelled_from members name (origins_from f.number (at + 1) (length text)) text in
      let to : ℕ = moved_to members name f.number f.bytes at in
      let next : moved_to members name f.number f.bytes (at + 1) ≡ to + length here =
      moved-next members name f.number (spelling (logical_of f.bytes)) at c (omega (arith, within)) in
      let later = trace-is (at + 1) text (omega (arith, within)) in
      let first : origins_for a members name (Some (pos f.number at)) c ≡ origins_from f.number to (length here) =
      ap (λ (p : Pos). origins_from f.number p.at (length here)) (move-is at) in
      ap (λ (os : List (Option Pos)). os ++ trace_from a members name (origins_from f.number (at + 1) (length text)) text) first
      ∙ ap (λ (os : List (Option Pos)). origins_from f.number to (length here) ++ os) (later ∙ ap (λ (k : ℕ). origins_from f.number k (length rest)) next)
      ∙ sym (origins-both f.number to (length here) (length rest))
      ∙ ap (origins_from f.number to) (sym (length-append here rest))

  token-is : (text : UnitTextValue) (t : Token) → StandsIn f.number t → t.at.at + length t.text ≤ length (spelling (logical_of f.bytes))
      → edited_token members name f.number f.bytes t ≡ renamed (renaming a members name text) t
  token-is text t stands within =
      let size : length t.origins ≡ length t.text = ap length stands.origins ∙ length-origins f.number t.at.at (length t.text) in
      let spell : spell_from members name t.origins t.text ≡ spelled members name t = spell-same members name t.origins t.text size in
      let new : spelled members name t ≡ spelled_from members name (origins_from f.number t.at.at (length t.text)) t.text =
      ap (λ (os : List (Option Pos)). spelled_from members name os t.text) stands.origins in
      let trace : trace_from a members name t.origins t.text ≡ origins_from f.number (moved_to members name f.number f.bytes t.at.at) (length (spelled members name t)) =
      ap (λ (os : List (Option Pos)). trace_from a members name os t.text) stands.origins
      ∙ trace-is t.at.at t.text within
      ∙ ap (λ (w : List ℕ). origins_from f.number (moved_to members name f.number f.bytes t.at.at) (length w)) (sym new) in
      let move : move_to a members name t.at ≡ pos f.number (moved_to members name f.number f.bytes t.at.at) = ap (move_to a members name) stands.at ∙ move-is t.at.at in
      ap (λ (w : List ℕ). token t.kind w (origins_from f.number (moved_to members name f.number f.bytes t.at.at) (length (spelled members name t))) t.gap (pos f.number (moved_to members name f.number f.bytes t.at.at)) t.line t.direct) (sym spell)
      ∙ ap (λ (os : List (Option Pos)). token t.kind (spell_from members name t.origins t.text) os t.gap (pos f.number (moved_to members name f.number f.bytes t.at.at)) t.line t.direct) (sym trace)
      ∙ ap (λ (p : Pos). token t.kind (spell_from members name t.origins t.text) (trace_from a members name t.origins t.text) t.gap p t.line t.direct) (sym move)

map-same : (g h : Token → Token) (ts : List Token) → ((t : Token) → In t ts → g t ≡ h t) → map g ts ≡ map h ts
map-same g h [] same = refl
map-same g h (t ∷ ts) same =
    ap (λ (u : Token). u ∷ map g ts) (same t (0, refl)) ∙ ap (λ (us : List Token). h t ∷ us) (map-same g h ts (λ u i. same u (suc i.0, i.1)))

length-map-of : {X Y : Type 0} (g : X → Y) (xs : List X) → length (map g xs) ≡ length xs
length-map-of g [] = refl
length-map-of g (x ∷ xs) = ap suc (length-map-of g xs)

pub edited_files_are_renamed : EditedFilesKeepTokens → EditedFilesAreRenamed
edited_files_are_renamed edited = λ a members name text h words n f is.
    let keeps = files_keep_pieces a members name h words n f is in
    let all = edited members name f.number f.bytes keeps in
    let number : f.number ≡ n = kept_number a.value.table n f is in
    let own : kept_at a.value.table f.number ≡ Some f = subst (λ (k : ℕ). kept_at a.value.table k ≡ Some f) (sym number) is in
    let long : length (spelling (logical_of f.bytes)) ≡ length (logical_of f.bytes) = length-map-of _ (logical_of f.bytes) in (
      all.0
          ∙ map-same (edited_token members name f.number f.bytes) (renamed (renaming a.value members name text)) (tokens_of f.number f.bytes) (λ t i.
          let placed = token_placed f.number f.bytes i.0 t i.1 in
          let ends = placed.ends in
          token-is a.value members name f own text t (token_stands f.number f.bytes t i) (omega (arith, ends, long))),
      all.1,
      all.2,
    )
