-- Tokens of an analysis of a row, and offences that stand against the renaming of a class in it.
use Rattle.std.proofs.Common.{◌≡◌, ℕ, Bool, true, List, [], ◌++◌, Option, Some, refl, sym, ap, subst, false}
use Rattle.std.specs.Prelude.{◌&&◌, if◌then◌else◌, slice_get}
use Rattle.std.specs.List.{flat_map, list_any}
use Rattle.std.specs.Option.{option_map_or, option_and_then}
use Rattle.cs_base.specs.declared.causes.Cause.{Cause}
use Rattle.cs_base.specs.declared.causes.Cause.TheVariants.{Occurs, Clash, TooLarge, ShadowedTypedef}
use Rattle.cs_base.specs.declared.positions.Part.{Part}
use Rattle.cs_base.specs.declared.positions.Pos.{Pos}
use Rattle.cs_base.specs.Token.{Token, has_origins}
use Rattle.analysis.specs.Below.lexer.Tokens.{tokens_of}
use Rattle.analysis.specs.Below.source_files.Files.{Entry}
use Rattle.analysis.specs.Below.source_files.KeptFiles.{kept, kept_in, kept_at}
use Rattle.analysis.specs.Below.scope_bind.Bound.{Bound}
use Rattle.analysis.specs.Analysis.{UnitAnalysis, AnalysisValue}
use Rattle.analysis.specs.FileTokens.{file_tokens}
use Rattle.analysis.proofs.NamingLemmas.{in_left, in_right, in_filter, map_at}
use Rattle.offences.specs.declared.firsts.Offence.{Offence}
use Rattle.offences.specs.First.{offence, standing}
use Rattle.rename_rules.specs.GnuOffences.{gnu_offences}
use Rattle.rename_rules.proofs.FailingLemmas.{still_stands}
use Rattle.rename_rules.specs.Offences.{member_offences, spelling_offences, offences_of, occurring_place, occurring_places, clashing_place, clashing_places, too_large_places, is_shadow, bare_place, bare_places, shadowed_places}
use Rattle.rename_rules.specs.Tokens.{all_file_tokens, pasted_tokens, starts_in, holders, is_new_spelling, is_old_spelling, clashes}
use Rattle.offences.specs.Tokens.{holds_member, first_place}
use Rattle.edited_unit_laws.proofs.ListLemmas.{In, in_flat}
use Rattle.rename_meaning.proofs.MemberLemmas.{any_file_token}
use Rattle.edited_unit_laws.proofs.TableTokenLemmas.{file_token}
use Rattle.meaning_rows.specs.Rows.{Row, IsOf}

module _ (a : AnalysisValue) (members : List Part) (name : List ℕ) where
  -- ---- places

  passed : (b : Bool) (ps : List Pos) (p : Pos) → b ≡ true → In p ps → In p (if b then ps else [])
  passed b ps p e i = rw e i

  pub occurs_at : (t : Token) (p : Pos) → In t (all_file_tokens a ++ pasted_tokens a) → is_new_spelling members name (holders a members) t.text ≡ true
      → In p (first_place t) → In p (occurring_places a members name)
  unfolding occurring_places
  occurs_at t p i new here =
      in_flat (occurring_place members name (holders a members)) (all_file_tokens a ++ pasted_tokens a) t p i
      (passed (is_new_spelling members name (holders a members) t.text) (first_place t) p new here)

  pub clashes_at : (t : Token) (p : Pos) → In t (holders a members) → clashes members name (holders a members) t ≡ true
      → In p (starts_in members t) → In p (clashing_places a members name)
  unfolding clashing_places
  clashes_at t p i clash here =
      in_flat (clashing_place members name (holders a members)) (holders a members) t p i
      (passed (clashes members name (holders a members) t) (starts_in members t) p clash here)

  -- ---- offences

  stands : (cause : Cause) (places : List Pos) (p : Pos) → In p places → In (offence cause p) (standing cause places)
  stands cause places p i = (i.0, map_at (offence cause) p places i.0 i.1)

  abbrev occurring : List Offence
  occurring = standing Occurs (occurring_places a members name)

  abbrev clashing : List Offence
  clashing = standing Clash (clashing_places a members name)

  abbrev sized : List Offence
  sized = standing TooLarge (too_large_places a members name)

  abbrev shadowing : List Offence
  shadowing = standing ShadowedTypedef (shadowed_places a members)

  abbrev assembling : List Offence
  assembling = gnu_offences a members name

  of_spellings : (o : Offence) → In o (spelling_offences a members name) → In o (offences_of a members name false)
  of_spellings o i =
      still_stands a members name (member_offences a members name false ++ spelling_offences a members name) o
      (in_right o (member_offences a members name false) (spelling_offences a members name) i)

  pub occurs_stands : (p : Pos) → In p (occurring_places a members name) → In (offence Occurs p) (offences_of a members name false)
  unfolding spelling_offences
  occurs_stands p i =
      let o : Offence = offence Occurs p in
      of_spellings o (in_left o (occurring ++ clashing ++ sized ++ shadowing) assembling (in_left o (occurring ++ clashing ++ sized) shadowing (in_left o (occurring ++ clashing) sized
      (in_left o occurring clashing (stands Occurs (occurring_places a members name) p i)))))

  pub clash_stands : (p : Pos) → In p (clashing_places a members name) → In (offence Clash p) (offences_of a members name false)
  unfolding spelling_offences
  clash_stands p i =
      let o : Offence = offence Clash p in
      of_spellings o (in_left o (occurring ++ clashing ++ sized ++ shadowing) assembling (in_left o (occurring ++ clashing ++ sized) shadowing (in_left o (occurring ++ clashing) sized
      (in_right o occurring clashing (stands Clash (clashing_places a members name) p i)))))

  pub shadow_stands : (p : Pos) → In p (shadowed_places a members) → In (offence ShadowedTypedef p) (offences_of a members name false)
  unfolding spelling_offences
  shadow_stands p i =
      let o : Offence = offence ShadowedTypedef p in
      of_spellings o (in_left o (occurring ++ clashing ++ sized ++ shadowing) assembling
      (in_right o (occurring ++ clashing ++ sized) shadowing (stands ShadowedTypedef (shadowed_places a members) p i)))

module _ (r : Row) (a : AnalysisValue) (h : IsOf r a) (members : List Part) (name : List ℕ) where
  -- ---- tokens

  file_kept : kept_at a.table 2 ≡ Some (kept 2 h.path r.bytes)
  file_kept = ap (λ (o : Option Entry). option_and_then (kept_in 2) o) h.file

  pub of_file : (t : Token) → In t (tokens_of 2 r.bytes) → In t (all_file_tokens a ++ pasted_tokens a)
  of_file t i = in_left t (all_file_tokens a) (pasted_tokens a) (any_file_token a 2 (kept 2 h.path r.bytes) t file_kept i)

  pub holder_of_file : (t : Token) → In t (tokens_of 2 r.bytes) → has_origins t.kind ≡ true → holds_member members t ≡ true → In t (holders a members)
  unfolding holders
  holder_of_file t i parted held =
      in_filter (holds_member members) t (file_tokens a ++ pasted_tokens a) held
      (in_left t (file_tokens a) (pasted_tokens a) (file_token a 2 (kept 2 h.path r.bytes) t file_kept i parted))

  pub holder_pasted : (t : Token) → In t r.pasted → holds_member members t ≡ true → In t (holders a members)
  unfolding holders pasted_tokens
  holder_pasted t i held =
      let own : In t h.unit.text.pasted = subst (In t) (sym h.pasted) i in
      let all : In t (flat_map (λ (u : UnitAnalysis). u.text.pasted) a.units) =
      in_flat (λ (u : UnitAnalysis). u.text.pasted) a.units h.unit t (subst (In h.unit) (sym h.only) (0, refl)) own in
      in_filter (holds_member members) t (file_tokens a ++ pasted_tokens a) held (in_right t (file_tokens a) (pasted_tokens a) all)

  pub shadowed_at : (bound : Bound) → h.unit.bound ≡ bound → (k : ℕ) (t : Token) (p : Pos) → In k bound.bare → slice_get r.toks k ≡ Some t
      → list_any (is_shadow r.toks t.text k) bound.typedefs ≡ true → is_old_spelling (holders a members) t.text ≡ true
      → In p (first_place t) → In p (shadowed_places a members)
  unfolding shadowed_places
  shadowed_at bound bound_is k t p i is hides old here =
      let u : UnitAnalysis = h.unit in
      let bare : In k u.bound.bare = subst (λ (b : Bound). In k b.bare) (sym bound_is) i in
      let ranges : list_any (is_shadow r.toks t.text k) u.bound.typedefs ≡ true =
      subst (λ (b : Bound). list_any (is_shadow r.toks t.text k) b.typedefs ≡ true) (sym bound_is) hides in
      let hidden : list_any (is_shadow u.text.toks t.text k) u.bound.typedefs ≡ true =
      subst (λ (toks : List Token). list_any (is_shadow toks t.text k) u.bound.typedefs ≡ true) (sym h.toks) ranges in
      let both : (list_any (is_shadow u.text.toks t.text k) u.bound.typedefs && is_old_spelling (holders a members) t.text) ≡ true = rw (hidden, old) refl in
      let place : In p (bare_place a members u k t) = passed a members name _ (first_place t) p both here in
      let at : slice_get u.text.toks k ≡ Some t = subst (λ (toks : List Token). slice_get toks k ≡ Some t) (sym h.toks) is in
      let there : In p (bare_places a members u k) = subst (λ (o : Option Token). In p (option_map_or (bare_place a members u k) o [])) (sym at) place in
      in_flat (λ (v : UnitAnalysis). flat_map (bare_places a members v) v.bound.bare) a.units u p (subst (In u) (sym h.only) (0, refl))
      (in_flat (bare_places a members u) u.bound.bare k p bare there)
