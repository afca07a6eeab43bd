-- What is so where no offence stands.
use Rattle.std.proofs.Common.{◌≡◌, ℕ, ◌==◌, Bool, true, false, not, List, [], ◌∷◌, ◌++◌, Option, None, Some, is_some, inl, inr, refl, sym, ap, ◌∙◌}
use Rattle.std.specs.Prelude.{◌&&◌, ◌||◌, cond}
use Rattle.std.specs.List.{flat_map, list_any}
use Rattle.std.specs.Option.{option_map_or}
use Rattle.std.specs.Str.{bytes_eq}
use Rattle.std.proofs.lemmas.Bool.{cases_Bool, both_ways, false≢true, or_parts}
use Rattle.cs_base.proofs.FileMapLemmas.{bytes_eq-same, bytes_eq-equal}
use Rattle.cs_base.proofs.ListLemmas.{any_at, front_none as nil_left, nil_behind as nil_right}
use Rattle.cs_base.proofs.PlaceLemmas.{if_nil}
use Rattle.cs_base.specs.declared.causes.Cause.TheVariants as cause
use Rattle.cs_base.specs.declared.positions.Part.{Part}
use Rattle.cs_base.specs.declared.positions.Pos.{Pos}
use Rattle.cs_base.specs.Reserved.{is_reserved_text, is_reserved_by_gnu, is_reserved_in}
use Rattle.cs_base.specs.Token.{Token}
use Rattle.line_shape.specs.Signs.{is_name}
use Rattle.source_files.specs.KeptFiles.{KeptValue, kept_at}
use Rattle.part_respell.specs.Respelled.{spelled}
use Rattle.analysis.specs.Analysed.{Analysed}
use Rattle.cs_base.specs.Units.{is_gnu}
use Rattle.analysis.specs.Analysis.{UnitAnalysis, AnalysisValue}
use Rattle.analysis.specs.Changed.{Renaming}
use Rattle.analysis.specs.GnuUnits.{begin_of}
use Rattle.analysis.specs.FileTokens.{file_tokens}
use Rattle.analysis.specs.Places.{is_read_only, is_read_only_path}
use Rattle.analysis.proofs.NamingLemmas.{in_filter}
use Rattle.offences.specs.First.{offence, standing}
use Rattle.renamed.specs.Renamed.{renaming_of}
use Rattle.rename_rules.specs.GnuOffences.{has_gnu, gnu_offences, failing_by, failing_places, is_kept}
use Rattle.rename_rules.proofs.FailingLemmas.{quiet, still_quiet}
use Rattle.rename_rules.specs.Offences.{member_offences, spelling_offences, offences_of}
use Rattle.rename_rules.specs.Offences.{read_only_place, read_only_places, reserved_place, reserved_places, kept_string_places, stringized_places, header_places, no_identifier_place, no_identifier_places, occurring_place, occurring_places, clashing_place, clashing_places, too_large_places, shadowed_places}
use Rattle.rename_rules.specs.Escapes.{escaped_places, escaped_places_of, is_backslash, is_escaped}
use Rattle.rename_rules.specs.LibraryNames.{is_closed_in, is_further_word}
use Rattle.rename_rules.specs.LibraryPlaces.{library_places}
use Rattle.rename_rules.specs.Prefixes.{prefix_places}
use Rattle.rename_rules.specs.Tokens.{all_file_tokens, pasted_tokens, start_of, starts_in, holders, is_new_spelling, clashes}
use Rattle.offences.specs.Tokens.{member_of, holds_member, first_place}
use Rattle.rename_meaning.specs.Allowed.{IsAllowed}
use Rattle.edited_unit_laws.proofs.ListLemmas.{In, map_nil, cons_nil, flat_nil}

-- ---- each kind of offence by itself

pub record NoneStand (a : AnalysisValue) (members : List Part) (name : List ℕ) : Type 0 where
  pub read_only : read_only_places a members ≡ []
  pub reserved : reserved_places a members name ≡ []
  pub header : header_places a members ≡ []
  pub no_identifier : no_identifier_places a members ≡ []
  pub occurring : occurring_places a members name ≡ []
  pub clashing : clashing_places a members name ≡ []
  pub too_large : too_large_places a members name ≡ []
  pub shadowed : shadowed_places a members ≡ []
  pub gnu : gnu_offences a members name ≡ []
  pub failing : failing_places a members name ≡ []

module _ (a : AnalysisValue) (members : List Part) (name : List ℕ) where
  pub none_stand : offences_of a members name true ≡ [] → NoneStand a members name
  unfolding member_offences spelling_offences
  none_stand none =
      let A = standing cause.ReadOnly (read_only_places a members) in
      let B = standing cause.Reserved (reserved_places a members name) in
      let C = standing cause.Stringized (kept_string_places a members true) in
      let D = standing cause.HeaderName (header_places a members) in
      let E = standing cause.NotIdentifier (no_identifier_places a members) in
      let F = standing cause.Occurs (occurring_places a members name) in
      let G = standing cause.Clash (clashing_places a members name) in
      let H = standing cause.TooLarge (too_large_places a members name) in
      let I = standing cause.ShadowedTypedef (shadowed_places a members) in
      let J = gnu_offences a members name in
      let both = quiet a members name (member_offences a members name true ++ spelling_offences a members name) none in
      let front : (((A ++ B) ++ C) ++ D) ++ E ≡ [] = nil_left (member_offences a members name true) (spelling_offences a members name) both.0 in
      let rest : (((F ++ G) ++ H) ++ I) ++ J ≡ [] = nil_right (member_offences a members name true) (spelling_offences a members name) both.0 in
      let m1 = nil_left (((A ++ B) ++ C) ++ D) E front in
      let m2 = nil_left ((A ++ B) ++ C) D m1 in
      let m3 = nil_left (A ++ B) C m2 in
      let s0 = nil_left (((F ++ G) ++ H) ++ I) J rest in
      let s1 = nil_left ((F ++ G) ++ H) I s0 in
      let s2 = nil_left (F ++ G) H s1 in
      record {
        read_only = map_nil (offence cause.ReadOnly) (read_only_places a members) (nil_left A B m3);
        reserved = map_nil (offence cause.Reserved) (reserved_places a members name) (nil_right A B m3);
        header = map_nil (offence cause.HeaderName) (header_places a members) (nil_right ((A ++ B) ++ C) D m1);
        no_identifier = map_nil (offence cause.NotIdentifier) (no_identifier_places a members) (nil_right (((A ++ B) ++ C) ++ D) E front);
        occurring = map_nil (offence cause.Occurs) (occurring_places a members name) (nil_left F G s2);
        clashing = map_nil (offence cause.Clash) (clashing_places a members name) (nil_right F G s2);
        too_large = map_nil (offence cause.TooLarge) (too_large_places a members name) (nil_right (F ++ G) H s1);
        shadowed = map_nil (offence cause.ShadowedTypedef) (shadowed_places a members) (nil_right ((F ++ G) ++ H) I s0);
        gnu = nil_right (((F ++ G) ++ H) ++ I) J rest;
        failing = both.1;
      }

-- ---- where strings must stay

all_nil : {X : Type 0} (a b c d e s : List X) → a ≡ [] → b ≡ [] → c ≡ [] → d ≡ [] → e ≡ [] → s ≡ [] → ((((a ++ b) ++ c) ++ d) ++ e) ++ s ≡ []
all_nil a b c d e s ea eb ec ed ee es = rw (ea, eb, ec, ed, ee, es) refl

or_nil : (b : Bool) (xs : List Pos) → xs ≡ [] → cond b xs [] ≡ []
or_nil true xs none = none
or_nil false xs none = refl

-- no member is part of an escape sequence where none is part of a string
escapes_nil : (members : List Part) (behind : Bool) (toks : List Token) → flat_map (starts_in members) toks ≡ []
    → escaped_places_of members behind toks ≡ []
unfolding escaped_places_of
escapes_nil members behind [] none = refl
escapes_nil members behind (t ∷ toks) none =
    let here : cond (is_escaped behind t) (starts_in members t) [] ≡ [] =
    or_nil (is_escaped behind t) (starts_in members t) (nil_left (starts_in members t) (flat_map (starts_in members) toks) none) in
    let next = is_backslash t && not (is_escaped behind t) in
    let later = escapes_nil members next toks (nil_right (starts_in members t) (flat_map (starts_in members) toks) none) in
    ap (λ (ps : List Pos). ps ++ escaped_places_of members next toks) here ∙ later

unit_escapes_nil : (members : List Part) (units : List UnitAnalysis)
    → flat_map (λ (u : UnitAnalysis). flat_map (starts_in members) u.text.stringized) units ≡ []
    → flat_map (λ (u : UnitAnalysis). escaped_places_of members false u.text.stringized) units ≡ []
unit_escapes_nil members [] none = refl
unit_escapes_nil members (u ∷ units) none =
    let first = flat_map (starts_in members) u.text.stringized in
    let others = flat_map (λ (v : UnitAnalysis). flat_map (starts_in members) v.text.stringized) units in
    let here = escapes_nil members false u.text.stringized (nil_left first others none) in
    ap (λ (ps : List Pos). ps ++ flat_map (λ (v : UnitAnalysis). escaped_places_of members false v.text.stringized) units) here
    ∙ unit_escapes_nil members units (nil_right first others none)

all_escapes_nil : (a : AnalysisValue) (members : List Part) → stringized_places a members ≡ [] → escaped_places a members ≡ []
unfolding stringized_places escaped_places
all_escapes_nil a members none = unit_escapes_nil members a.units none

-- where nothing stands though strings must stay, nothing does where they may follow
pub cleared : (a : AnalysisValue) (members : List Part) (name : List ℕ) (strings : Bool) → offences_of a members name strings ≡ [] → offences_of a members name true ≡ []
unfolding member_offences
cleared a members name true none = none
cleared a members name false none =
    let A = standing cause.ReadOnly (read_only_places a members) in
    let B = standing cause.Reserved (reserved_places a members name) in
    let C = standing cause.Stringized (kept_string_places a members false) in
    let D = standing cause.HeaderName (header_places a members) in
    let E = standing cause.NotIdentifier (no_identifier_places a members) in
    let both = quiet a members name (member_offences a members name false ++ spelling_offences a members name) none in
    let front : (((A ++ B) ++ C) ++ D) ++ E ≡ [] = nil_left (member_offences a members name false) (spelling_offences a members name) both.0 in
    let rest : spelling_offences a members name ≡ [] = nil_right (member_offences a members name false) (spelling_offences a members name) both.0 in
    let m1 = nil_left (((A ++ B) ++ C) ++ D) E front in
    let m2 = nil_left ((A ++ B) ++ C) D m1 in
    let m3 = nil_left (A ++ B) C m2 in
    let strings : standing cause.Stringized (escaped_places a members) ≡ [] =
    ap (standing cause.Stringized) (all_escapes_nil a members (map_nil (offence cause.Stringized) (stringized_places a members) (nil_right (A ++ B) C m2))) in
    still_quiet a members name (member_offences a members name true ++ spelling_offences a members name)
    (all_nil A B (standing cause.Stringized (escaped_places a members)) D E (spelling_offences a members name) (nil_left A B m3) (nil_right A B m3) strings (nil_right ((A ++ B) ++ C) D m1) (nil_right (((A ++ B) ++ C) ++ D) E front) rest)
    both.1

-- ---- starts

starts_by : (members : List Part) (o : Option Pos) (os : List (Option Pos)) (m : Option Part) → member_of members o ≡ m
    → (list_any (λ (p : Option Pos). is_some (member_of members p)) os ≡ true → flat_map (start_of members) os ≡ [] → ⊥)
    → list_any (λ (p : Option Pos). is_some (member_of members p)) (o ∷ os) ≡ true → flat_map (start_of members) (o ∷ os) ≡ [] → ⊥
starts_by members o os None is later held none =
    let behind : list_any (λ (p : Option Pos). is_some (member_of members p)) os ≡ true = rw is at held in
    later behind (nil_right (start_of members o) (flat_map (start_of members) os) none)
starts_by members o os (Some m) is later held none =
    let here : start_of members o ≡ m.start ∷ [] = ap (λ (x : Option Part). option_map_or (λ (n : Part). n.start ∷ []) x []) is in
    cons_nil m.start [] (sym here ∙ nil_left (start_of members o) (flat_map (start_of members) os) none)

starts_at : (members : List Part) (os : List (Option Pos)) → list_any (λ (p : Option Pos). is_some (member_of members p)) os ≡ true → flat_map (start_of members) os ≡ [] → ⊥
starts_at members [] held none = absurd (cc)
starts_at members (o ∷ os) held none = starts_by members o os (member_of members o) refl (λ h k. starts_at members os h k) held none

-- what holds a member has a place where it does
pub some_start : (members : List Part) (t : Token) → holds_member members t ≡ true → starts_in members t ≡ [] → ⊥
some_start members t held none = starts_at members t.origins held none

else_nil : (b : Bool) (xs : List Pos) → (xs ≡ [] → ⊥) → cond b [] xs ≡ [] → b ≡ true
else_nil true xs some e = refl
else_nil false xs some e = absurd (some e)

module _ (a : AnalysisValue) (members : List Part) (name : List ℕ) (none : NoneStand a members name) where
  -- no member is in a read-only file
  pub writable : (m : Part) → In m members → is_read_only a.table a.workspace.readonly m.start.file ≡ false
  unfolding read_only_places
  writable m i =
      if_nil (is_read_only a.table a.workspace.readonly m.start.file) (m.start ∷ []) (cons_nil m.start [])
      (flat_nil (read_only_place a) members m none.read_only i)

  -- nor in the pseudo file of lines
  pub no_line : (m : Part) → In m members → m.start.file ≡ 0 → ⊥
  no_line m i zero_file =
      let no = (or_parts (m.start.file == 0) (option_map_or (λ (f : KeptValue). is_read_only_path a.workspace.readonly f.path) (kept_at a.table m.start.file) false) (writable m i)).0 in
      let yes' : (m.start.file == 0) ≡ true = ap (λ (n : ℕ). n == 0) zero_file in
      both_ways (m.start.file == 0) no yes'

  pub holder : (t : Token) → In t (file_tokens a ++ pasted_tokens a) → holds_member members t ≡ true → In t (holders a members)
  unfolding holders
  holder t i held = in_filter (holds_member members) t (file_tokens a ++ pasted_tokens a) held i

  -- what holds a member is an identifier
  pub holder_name : (t : Token) → In t (holders a members) → holds_member members t ≡ true → is_name t ≡ true
  unfolding no_identifier_places
  holder_name t i held =
      else_nil (is_name t) (starts_in members t) (some_start members t held)
      (flat_nil (no_identifier_place members) (holders a members) t none.no_identifier i)

  -- or_parts its old nor its new spelling is reserved
  pub holder_free : (t : Token) → In t (holders a members) → holds_member members t ≡ true
      → (is_reserved_text t.text ≡ false) × (is_reserved_text (spelled members name t) ≡ false)
  unfolding reserved_places
  holder_free t i held =
      let gnu : Bool = has_gnu a in
      let new : List ℕ = spelled members name t in
      let words : List Pos = flat_map (reserved_place gnu members name) (holders a members) in
      let joined : List Pos = prefix_places members name 0 a.table in
      let both = or_parts (is_reserved_in gnu t.text) (is_closed_in gnu new)
      (if_nil (is_reserved_in gnu t.text || is_closed_in gnu new) (starts_in members t) (some_start members t held)
      (flat_nil (reserved_place gnu members name) (holders a members) t
      (nil_left words joined (nil_left (words ++ joined) (library_places a members name) none.reserved)) i)) in
      let open_ = or_parts (is_reserved_in gnu new) (gnu && is_further_word new) both.1 in (
        (or_parts (is_reserved_text t.text) (gnu && is_reserved_by_gnu t.text) both.0).0,
        (or_parts (is_reserved_text new) (gnu && is_reserved_by_gnu new) open_.0).0,
      )

  -- two that are spelled alike anew were spelled alike
  pub holders_alike : (t u : Token) → In t (holders a members) → holds_member members t ≡ true → In u (holders a members)
      → spelled members name u ≡ spelled members name t → u.text ≡ t.text
  unfolding clashing_places
  holders_alike t u i held j same = elim (cases_Bool (bytes_eq u.text t.text)) [
    | inl alike ↦ bytes_eq-equal u.text t.text alike
    | inr other ↦
        let new : bytes_eq (spelled members name u) (spelled members name t) ≡ true =
        ap (λ (w : List ℕ). bytes_eq w (spelled members name t)) same ∙ bytes_eq-same (spelled members name t) in
        let clash : (bytes_eq (spelled members name u) (spelled members name t) && not (bytes_eq u.text t.text)) ≡ true = rw (new, other) refl in
        let any : clashes members name (holders a members) t ≡ true =
        any_at (λ (v : Token). bytes_eq (spelled members name v) (spelled members name t) && not (bytes_eq v.text t.text)) (holders a members) j.0 u j.1 clash in
        let no = if_nil (clashes members name (holders a members) t) (starts_in members t) (some_start members t held)
        (flat_nil (clashing_place members name (holders a members)) (holders a members) t none.clashing i) in
        absurd (both_ways (clashes members name (holders a members) t) no any)
  ]

  -- no file token and no pasted token that has a place is spelled as one that holds a member is spelled anew
  pub never_occurs : (t u : Token) → In t (all_file_tokens a ++ pasted_tokens a) → (first_place t ≡ [] → ⊥) → In u (holders a members)
      → spelled members name u ≡ t.text → ⊥
  unfolding occurring_places
  never_occurs t u i placed j same =
      let new : bytes_eq (spelled members name u) t.text ≡ true = ap (λ (w : List ℕ). bytes_eq w t.text) same ∙ bytes_eq-same t.text in
      let any : is_new_spelling members name (holders a members) t.text ≡ true =
      any_at (λ (v : Token). bytes_eq (spelled members name v) t.text) (holders a members) j.0 u j.1 new in
      let no = if_nil (is_new_spelling members name (holders a members) t.text) (first_place t) placed
      (flat_nil (occurring_place members name (holders a members)) (all_file_tokens a ++ pasted_tokens a) t none.occurring i) in
      both_ways (is_new_spelling members name (holders a members) t.text) no any

-- ---- units of GNU C

kept_if : (gnu kept : Bool) (p : Pos) → cond (gnu && not kept) (p ∷ []) [] ≡ [] → gnu ≡ true → kept ≡ true
kept_if gnu true p e h = refl
kept_if true false p e h = absurd (cons_nil p [] e)
kept_if false false p e h = absurd (false≢true h)

-- where nothing stands against a renaming each unit of GNU C is read and bound as before, name for name
pub gnu_kept : (a : Analysed) (members : List Part) (name : List ℕ) → IsAllowed a members name → (u : UnitAnalysis) → In u a.value.units
    → is_gnu u.standard ≡ true → is_kept (renaming_of a.value members name) u ≡ true
unfolding failing_places
gnu_kept a members name h u i gnu =
    let none = none_stand a.value members name h.first in
    let r : Renaming = renaming_of a.value members name in
    kept_if (is_gnu u.standard) (is_kept r u) (begin_of u.text.toks) (flat_nil (failing_by r) a.value.units u none.failing i) gnu
