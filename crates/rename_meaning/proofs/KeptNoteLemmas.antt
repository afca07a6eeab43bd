-- A renaming against which nothing stands keeps what happens in a unit.
use Rattle.std.proofs.Common.{◌≡◌, ℕ, zero, suc, ◌<◌, ◌==◌, Bool, true, false, codes, List, [], ◌∷◌, ◌++◌, length, Option, Some, None, inl, inr, refl, sym, ap, subst, ◌∙◌, arith}
use Rattle.std.specs.Prelude.{slice_get}
use Rattle.std.specs.List.{flat_map, list_all}
use Rattle.std.specs.Option.{is_none, option_map, option_map_or, option_and_then}
use Rattle.std.proofs.lemmas.Bool.{eq-eqb}
use Rattle.cs_base.specs.declared.positions.Part.{Part}
use Rattle.cs_base.specs.declared.positions.Pos.{Pos}
use Rattle.cs_base.specs.Token.{Token, origin_at}
use Rattle.lexer.specs.Places.{pos, origins_from}
use Rattle.lexer.specs.Spelling.{is_identifier_text}
use Rattle.lexer.proofs.NameLemmas.{name_some as some_text}
use Rattle.line_shape.specs.Signs.{is_name}
use Rattle.macro_body.specs.Notes as expansion
use Rattle.unit_steps.specs.Below.macro_expand.Renaming.{renamed}
use Rattle.unit_steps.specs.Below.macro_expand.Renaming as macros
use Rattle.unit_steps.specs.declared.events.Event.{Event}
use Rattle.unit_steps.specs.declared.events.EventKind.TheVariants as kind
use Rattle.source_files.specs.Files.{Source}
use Rattle.source_files.specs.KeptFiles.{KeptValue, kept_at}
use Rattle.unit_steps.specs.Notes.{Note, Reaches, Happened, Defined, Undefined, Tested, Left, Linked, Answered, Named, Entered, Exited, ReadOnce, named_event, before_in, pasted_of, header_of, events_of}
use Rattle.unit_steps.specs.State.{Did}
use Rattle.unit_steps.specs.Texts.{UnitTextValue, unit_text}
use Rattle.part_respell.specs.Respelled.{member_over, put_in, put_at}
use Rattle.expansion_laws.proofs.ListLemmas.{toks_at}
use Rattle.unit_laws.specs.UnitLinks.{IsIn}
use Rattle.unit_laws.proofs.NoteLemmas.{flat_in}
use Rattle.unit_laws.proofs.TokenLemmas.{unit_links_are_alike}
use Rattle.unit_laws.specs.ToldNames.{IsTold, LinksAgree}
use Rattle.unit_laws.proofs.ToldLemmas.{replacing_macros_are_linked}
use Rattle.edited_unit_laws.specs.Lines.{Each}
use Rattle.edited_unit_laws.specs.EditedFiles.{HoldsEdited}
use Rattle.edited_unit_laws.specs.Keeping.{Change, KeepsNames, KeepsNote, KeepsUnit, GoesWell}
use Rattle.edited_unit_laws.specs.UnitTexts.{MovesMacro}
use Rattle.analysis.specs.Analysed.{Analysed}
use Rattle.analysis.specs.Analysis.{UnitAnalysis, AnalysisValue}
use Rattle.analysis.specs.Parts.{Begins}
use Rattle.rename_meaning.specs.Allowed.{IsAllowed}
use Rattle.rename_meaning.specs.KeptFiles.{WordsAreFree}
use Rattle.rename_meaning.specs.KeptLines.{LinesStayAlike}
use Rattle.rename_meaning.specs.KeptTokens.{Spells}
use Rattle.rename_meaning.specs.MadeTokens.{IsOutcome}
use Rattle.rename_meaning.specs.Occurring.{KeepsOccurring, occurring_in, same_origin}
use Rattle.rename_meaning.specs.Renamings.{KeepsUnedited, name_for}
use Rattle.rename_meaning.specs.Spellings.{IsPasted}
use Rattle.edited_unit_laws.proofs.ListLemmas.{In, all_at}
use Rattle.rename_meaning.proofs.KeptTokenLemmas.{each_of, pasted_tokens_are_kept}
use Rattle.rename_meaning.proofs.LinkLemmas.{IsWhole, links_whole, whole_chained, Both}
use Rattle.rename_meaning.proofs.MadeLemmas.{headers_stay, tokens_are_made_anew}
use Rattle.rename_meaning.proofs.PieceLemmas.{begins_there}
use Rattle.rename_meaning.proofs.OccurringLemmas.{occurring_are_kept, origin_is, origin_same, pasted_tokens_occur}
use Rattle.rename_meaning.proofs.RenamingLemmas.{spell-same}
use Rattle.edited_unit_laws.proofs.TracedLemmas.{AreChained, Traced}
use Rattle.rename_meaning.proofs.UneditedLemmas.{renamings_keep_unedited}
use Rattle.edited_unit_laws.proofs.AnalysedUnitLemmas.{unit_is, unit_traced, unit_spelled}
use Rattle.rename_meaning.specs.KeptUnits.{change_by}
use Rattle.rename_meaning.specs.Limits.{AreWithinLimits}
use Rattle.rename_meaning.specs.ToldNames.{KeepsToldNames}
use Rattle.rename_meaning.proofs.KeptFileLemmas.{files_kept}
use Rattle.rename_meaning.proofs.KeptNameLemmas.{line_reserved, file_reserved, counter_reserved, told_traced, told_names_are_kept}
use Rattle.renamed.specs.Renamed.{moved_in, move_to, trace_from}

-- ---- where the name of a macro stands

move_file : (members : List Part) (name : List ℕ) (p : Pos) (o : Option KeptValue) → (option_map_or (moved_in members name p) o p).file ≡ p.file
move_file members name p None = refl
move_file members name p (Some f) = refl

some_first : (file at n : ℕ) (os : List (Option Pos)) → 0 < n → slice_get (origins_from file at n ++ os) 0 ≡ Some (Some (pos file at))
some_first file at zero os some = absurd (omega (arith, some))
some_first file at (suc n) os some = refl

module _ (a : AnalysisValue) (members : List Part) (name : List ℕ) (named : is_identifier_text name ≡ true) where
  put_some : (p : Pos) (c : ℕ) (o : Option Part) → ((m : Part) → o ≡ Some m → m.start.at ≡ p.at) → 0 < length (option_map_or (put_in name p) o (c ∷ []))
  put_some p c None begins = omega arith
  put_some p c (Some m) begins =
      let here : (m.start.at == p.at) ≡ true = eq-eqb m.start.at p.at (begins m refl) in
      rw here (some_text name named)

  trace_first : (p : Pos) (c : ℕ) (os : List (Option Pos)) (text : List ℕ) → ((m : Part) → member_over members p ≡ Some m → m.start.at ≡ p.at)
      → slice_get (trace_from a members name (Some p ∷ os) (c ∷ text)) 0 ≡ Some (Some (move_to a members name p))
  unfolding trace_from
  trace_first p c os text begins =
      let to : Pos = move_to a members name p in
      let file : to.file ≡ p.file = move_file members name p (kept_at a.table p.file) in
      some_first p.file to.at (length (put_at members name p c)) (trace_from a members name os text) (put_some p c (member_over members p) begins)
      ∙ ap (λ (n : ℕ). Some (Some (pos n to.at))) (sym file)

  chained_first : (os : List (Option Pos)) (text : List ℕ) → length os ≡ length text → ((p : Pos) → Begins a p → (m : Part) → member_over members p ≡ Some m → m.start.at ≡ p.at)
      → AreChained a os
      → option_and_then (λ (o : Option Pos). o) (slice_get (trace_from a members name os text) 0) ≡ option_map (move_to a members name) (option_and_then (λ (o : Option Pos). o) (slice_get os 0))
  unfolding trace_from
  chained_first [] text size begins chained = refl
  chained_first (None ∷ os) text size begins chained = absurd chained
  chained_first (Some p ∷ os) [] size begins chained = absurd (omega (arith, size))
  chained_first (Some p ∷ os) (c ∷ text) size begins chained =
      ap (λ (o : Option (Option Pos)). option_and_then (λ (x : Option Pos). x) o) (trace_first p c os text (begins p chained.0))

none_first : (os : List (Option Pos)) → list_all is_none os ≡ true → option_and_then (λ (o : Option Pos). o) (slice_get os 0) ≡ None
none_first [] h = refl
none_first (None ∷ os) h = refl
none_first (Some p ∷ os) h = absurd (cc)

-- a test of tokens as what they are mapped to
abbrev mark : Bool → List ℕ
mark true = []
mark false = 0 ∷ []

mark_true : (b : Bool) → mark true ≡ mark b → b ≡ true
mark_true true e = refl
mark_true false e = absurd (cc)

-- ---- one unit

module _ (a : Analysed) (members : List Part) (name : List ℕ) (h : IsAllowed a members name) (u : UnitAnalysis) (i : In u a.value.units) (d : Did (List Token)) (o : IsOutcome a.value u d) where
  abbrev c : Change
  c = change_by a.value members name (name_for members name u.text)

  spells : Spells members name c.renaming
  spells = λ t same. spell-same members name t.origins t.text same

  kept : KeepsOccurring (occurring_in a.value) c.renaming
  kept = occurring_are_kept a members name c.renaming h spells

  names : KeepsToldNames members name u
  names = told_names_are_kept a members name h u i

  unedited : KeepsUnedited c.renaming
  unedited = renamings_keep_unedited a members name u.text h

  pub names_kept : KeepsNames c
  names_kept = record {
    apart = kept.apart;
    line = record { stays = names.first (codes "__LINE__") refl; alone = λ t occurs named same. kept.alone t (codes "__LINE__") line_reserved occurs named same };
    file = record { stays = names.first (codes "__FILE__") refl; alone = λ t occurs named same. kept.alone t (codes "__FILE__") file_reserved occurs named same };
    counter = record { stays = names.first (codes "__COUNTER__") refl; alone = λ t occurs named same. kept.alone t (codes "__COUNTER__") counter_reserved occurs named same };
    signs = kept.signs;
    others = kept.others;
    untraced = unedited.untraced;
    numbers = unedited.numbers;
    still = unedited.still;
  }

  -- ---- notes

  event_in : (note : Note) (e : Event) → In note d.notes → In e (events_of note) → In e u.text.events
  event_in note e at there =
      let all : IsIn (flat_map events_of d.notes) e = flat_in events_of d.notes note e at.0 at.1 there in
      subst (λ (v : UnitTextValue). In e v.events) o.text all

  told_by : (note : Note) (e : Event) (t : Token) → In note d.notes → In e (events_of note) → e.name ≡ Some t → IsTold u.text t
  told_by note e t at there name_is = record { event = e; among = event_in note e at there; named = name_is }

  macro_kept : (t : Token) → IsTold u.text t → macros.spelled c.renaming t ≡ name_for members name u.text t.text
  macro_kept t told = (let each = told_traced a members name h u i t told in spells t each.each) ∙ names.told t told

  pasted_in : (run : Bool) (before : ℕ) (x y z : Token) → In (Happened run before (expansion.Pasted x y z)) d.notes → In z u.text.pasted
  pasted_in run before x y z at =
      let all : IsIn (flat_map pasted_of d.notes) z = flat_in pasted_of d.notes (Happened run before (expansion.Pasted x y z)) z at.0 at.1 (0, refl) in
      subst (λ (v : UnitTextValue). In z v.pasted) o.text all

  happened_kept : (run : Bool) (before : ℕ) (note : expansion.Note) → In (Happened run before note) d.notes → GoesWell c note
  happened_kept run before (expansion.Replaced t m more) at =
      (macro_kept t (told_by (Happened run before (expansion.Replaced t m more)) (named_event kind.Replaced t (origin_at m 0) (before_in run before more)) t at (0, refl) refl), tt)
  happened_kept run before (expansion.Linked x y) at = (tt, tt)
  happened_kept run before (expansion.Counted z) at = (tt, tt)
  happened_kept run before (expansion.Stringized toks s) at = (tokens_are_made_anew a members name h u d i o run before (expansion.Stringized toks s) at, tt)
  happened_kept run before (expansion.Pasted x y z) at =
      let pasted : IsPasted a.value z = record { unit = u; there = i; pasted = pasted_in run before x y z at } in (
        (tokens_are_made_anew a members name h u d i o run before (expansion.Pasted x y z) at, pasted_tokens_occur a.value z pasted),
        pasted_tokens_are_kept a members name c.renaming h spells z pasted,
      )

  named_kept : (toks : List Token) → In (Named toks) d.notes → Each (λ t. macros.spelled c.renaming t ≡ t.text) toks
  named_kept toks at =
      each_of (λ (t : Token). macros.spelled c.renaming t ≡ t.text) toks (λ t j.
      let all : IsIn (flat_map header_of d.notes) t = flat_in header_of d.notes (Named toks) t at.0 at.1 j in
      let there : In t u.text.header = subst (λ (v : UnitTextValue). In t v.header) o.text all in
      let is = unit_is h.source h.workspace a.value h.accepted u i in
      let traced = toks_at (Traced a.value) u.text.header (unit_traced a.value u i is).header t there.0 there.1 in
      spells t traced.each ∙ headers_stay a members name h u i t there)

  note_kept : (note : Note) → In note d.notes → KeepsNote c note
  note_kept (Happened run before note) at = happened_kept run before note at
  note_kept (Defined m before) at = macro_kept m.name (told_by (Defined m before) (named_event kind.Defined m.name None before) m.name at (0, refl) refl)
  note_kept (Undefined t before) at = macro_kept t (told_by (Undefined t before) (named_event kind.Undefined t None before) t at (0, refl) refl)
  note_kept (Tested t before) at = macro_kept t (told_by (Tested t before) (named_event kind.Tested t None before) t at (0, refl) refl)
  note_kept (Left t before) at = macro_kept t (told_by (Left t before) (named_event kind.Left t None before) t at (0, refl) refl)
  note_kept (Named toks) at = named_kept toks at
  note_kept (Reaches file item evaluated before) at = tt
  note_kept (Linked x y) at = tt
  note_kept (Answered t) at = tt
  note_kept (Entered at2 file before) at = tt
  note_kept (Exited at2 file before) at = tt
  note_kept (ReadOnce passed at2 file before) at = tt

  pub unit_kept : WordsAreFree a.value members → LinesStayAlike a.value members name → AreWithinLimits a.value members name → (new : Source) → HoldsEdited c h.source new
      → KeepsUnit c new d.notes
  unit_kept words uses limits new holds = record {
    names = names_kept;
    files = files_kept a members name h words uses limits (name_for members name u.text) new holds;
    notes = each_of (KeepsNote c) d.notes note_kept;
  }

  -- ---- the names of macros that replace names

  -- the first character of the token stands anew where its position moved
  abbrev moves : Token → Bool
  moves t = same_origin (origin_at (renamed c.renaming t) 0) (option_map c.renaming.move (origin_at t 0))

  same_itself : (x y : Option Pos) → x ≡ y → same_origin x y ≡ true
  same_itself x y e = subst (λ (z : Option Pos). same_origin x z ≡ true) e (origin_same x)

  whole_moves : (t : Token) → IsWhole a.value t → is_name t ≡ true → moves t ≡ true
  whole_moves t whole named =
      let traced = whole.traced in
      same_itself (origin_at (renamed c.renaming t) 0) (option_map c.renaming.move (origin_at t 0))
      (chained_first a.value members name h.identifier t.origins t.text traced.each (begins_there a.value members h.class.part h.class.listed)
      (whole_chained a.value t whole named))

  links_move : LinksAgree (λ t. mark (moves t)) u.text
  links_move = λ l j.
      let is = unit_is h.source h.workspace a.value h.accepted u i in
      let whole = all_at (Both (IsWhole a.value)) u.text.links (links_whole a.value u i is) l j in
      let text = is.text in
      let P : UnitTextValue → Type 0 = λ v. In l v.links in
      let alike = unit_links_are_alike is.source is.number is.unit is.before text is.is_text l (subst P (sym is.own) j) in
      ap mark (whole_moves l.x whole.0 alike.first) ∙ sym (ap mark (whole_moves l.y whole.1 alike.second))

  told_moves : (t : Token) → IsTold u.text t → is_name t ≡ true → moves t ≡ true
  told_moves t told named =
      let is = unit_is h.source h.workspace a.value h.accepted u i in
      whole_moves t (record { traced = told_traced a members name h u i t told; spelled = (unit_spelled a.value u i is).names told.event t told.among told.named }) named

  replaced_moves : (run : Bool) (before : ℕ) (t m : Token) (more : ℕ) → In (Happened run before (expansion.Replaced t m more)) d.notes
      → origin_at (renamed c.renaming m) 0 ≡ option_map c.renaming.move (origin_at m 0)
  replaced_moves run before t m more at =
      let agree : LinksAgree (λ x. mark (moves x)) (unit_text d.value d.notes) = subst (LinksAgree (λ x. mark (moves x))) (sym o.text) links_move in
      let r = replacing_macros_are_linked (λ x. mark (moves x)) o.source o.number o.unit o.before d o.outcome agree run before t m more at in
      let told = told_by (Happened run before (expansion.Replaced t m more)) (named_event kind.Replaced t (origin_at m 0) (before_in run before more)) t at (0, refl) refl in
      elim r.1 [
        | inl same ↦
            let here = told_moves t told r.0 in
            let own : moves m ≡ true = mark_true (moves m) (sym (ap mark here) ∙ same) in
            origin_is (origin_at (renamed c.renaming m) 0) (option_map c.renaming.move (origin_at m 0)) own
        | inr nowhere ↦
            let stays = (unedited.untraced m.origins m.text nowhere).1 in
            ap (λ (os : List (Option Pos)). option_and_then (λ (x : Option Pos). x) (slice_get os 0)) stays ∙ none_first m.origins nowhere
            ∙ ap (option_map c.renaming.move) (sym (none_first m.origins nowhere))
      ]

  move_note : (note : Note) → In note d.notes → MovesMacro c note
  move_note (Happened run before (expansion.Replaced t m more)) at = replaced_moves run before t m more at
  move_note (Happened run before (expansion.Linked x y)) at = tt
  move_note (Happened run before (expansion.Stringized toks s)) at = tt
  move_note (Happened run before (expansion.Pasted x y z)) at = tt
  move_note (Happened run before (expansion.Counted z)) at = tt
  move_note (Defined m before) at = tt
  move_note (Undefined t before) at = tt
  move_note (Tested t before) at = tt
  move_note (Left t before) at = tt
  move_note (Named toks) at = tt
  move_note (Reaches file item evaluated before) at = tt
  move_note (Linked x y) at = tt
  move_note (Answered t) at = tt
  move_note (Entered at2 file before) at = tt
  move_note (Exited at2 file before) at = tt
  move_note (ReadOnce passed at2 file before) at = tt

  pub macros_move : Each (MovesMacro c) d.notes
  macros_move = each_of (MovesMacro c) d.notes move_note
