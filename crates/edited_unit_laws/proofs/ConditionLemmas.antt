-- Controlling expressions over the edited files.
use Rattle.std.proofs.Common.{◌≡◌, ℕ, zero, suc, ◌&&◌, Bool, true, false, cond, List, [], ◌∷◌, ◌++◌, map, Option, Some, None, Result, Ok, Err, codes, refl, ap, sym, subst, ◌∙◌, inl, inr}
use Rattle.std.specs.List.{list_any}
use Rattle.std.specs.Option.{option_map}
use Rattle.std.proofs.lemmas.Bool.{cases_Bool}
use Rattle.std.proofs.lemmas.List.{map-append}
use Rattle.std.proofs.lemmas.Option.{none-some, same_Some}
use Rattle.cs_base.specs.declared.causes.Cause.TheVariants.{DefinedFromMacro}
use Rattle.cs_base.specs.declared.positions.Pos.{Pos}
use Rattle.cs_base.specs.declared.tokens.Kind.TheVariants.{Number}
use Rattle.cs_base.specs.Token.{Token}
use Rattle.lexer.specs.FileText.{TextValue}
use Rattle.line_shape.specs.Signs.{is_name, is_open, is_close}
use Rattle.unit_steps.specs.Below.cond_eval.declared.faults.CondFault.{CondFault}
use Rattle.unit_steps.specs.Below.cond_eval.Evaluation.{condition}
use Rattle.macro_body.specs.Macro.{Table as Macros}
use Rattle.macro_expand.specs.Renaming.{renamed}
use Rattle.source_files.specs.Faults.{fault_at}
use Rattle.source_files.specs.Files.{SourceFile}
use Rattle.unit_steps.specs.Notes.{Note, Tested, Left, Answered}
use Rattle.unit_steps.specs.State.{State, Did, did}
use Rattle.unit_steps.specs.Names.{name_links, with_name}
use Rattle.unit_steps.specs.Expanding.{expanded_in}
use Rattle.unit_steps.specs.Conditions.{Piece, Plain, Asks, is_defined, in_parentheses, operand_of, onto_pieces, asks_with, pieces_from, answer_for, is_macro, test_notes, with_front, answered, left_name, left_over, valued, judged, asked_pieces, asked_toks, holds}
use Rattle.source_files.specs.Tables.{IsGrown}
use Rattle.source_files.proofs.TableLemmas.{grown_refl, grown_trans}
use Rattle.edited_unit_laws.specs.Lines.{Each}
use Rattle.edited_unit_laws.specs.UnitLines.{renamed_piece}
use Rattle.edited_unit_laws.proofs.MacroLineLemmas.{any-kept}
use Rattle.edited_unit_laws.proofs.UnitLineLemmas.{operands_are_renamed, conditions_stay}
use Rattle.edited_unit_laws.specs.Keeping.{Change, KeepsNames, Fits, KeepsNote}
use Rattle.edited_unit_laws.specs.Renamed.{renamed_happening}
use Rattle.edited_unit_laws.specs.Steps.{IsTaken, KeepsState, moved, GoesAlike, AreRenamed, IsSame, with_text, Grows}
use Rattle.edited_unit_laws.proofs.DirectiveLemmas.{IsKnown, kept-tokens}
use Rattle.edited_unit_laws.proofs.FitLemmas.{still-fits}
use Rattle.edited_unit_laws.proofs.FollowLemmas.{each-split, each-more, alike-onward, alike-test}
use Rattle.edited_unit_laws.proofs.NameLemmas.{name-grows, name_links-renamed, with_name-renamed, with_name-kept, is_macro-same}
use Rattle.edited_unit_laws.proofs.TextLemmas.{expanded-grows, expanded-alike}

-- ---- the operands of `defined`

-- what is known of a piece
abbrev PieceGoes : Change → Piece → Type 0
PieceGoes c (Plain t) = Fits c t
PieceGoes c (Asks word name) = Fits c word × IsKnown c name

known : (c : Change) (t : Token) → Fits c t → is_name t ≡ true → IsKnown c t
known c t h named = record { occurs = h.0; named = named }

parentheses-known : (c : Change) (toks : List Token) (name : Token) → Each (Fits c) toks → in_parentheses toks ≡ Some name → IsKnown c name
parentheses-known c [] name h e = absurd (none-some name e)
parentheses-known c (a ∷ []) name h e = absurd (none-some name e)
parentheses-known c (a ∷ b ∷ []) name h e = absurd (none-some name e)
parentheses-known c (a ∷ b ∷ d ∷ toks) name h e = by (is_open a) (is_name b) (is_close d) refl e
  where
    by : (x y z : Bool) → is_name b ≡ y → cond (x && y && z) (Some b) None ≡ Some name → IsKnown c name
    by true true true is k = subst (IsKnown c) (same_Some b name k) (known c b h.1.0 is)
    by true true false is k = absurd (none-some name k)
    by true false z is k = absurd (none-some name k)
    by false y z is k = absurd (none-some name k)

wrapped : (c : Change) (o : Option Token) (operand : Token × ℕ) → ((name : Token) → o ≡ Some name → IsKnown c name) → option_map (λ name. (name, 3)) o ≡ Some operand → IsKnown c operand.0
wrapped c None operand h e = absurd (none-some operand e)
wrapped c (Some name) operand h e = subst (λ (p : Token × ℕ). IsKnown c p.0) (same_Some (name, 3) operand e) (h name refl)

operand-known : (c : Change) (toks : List Token) (operand : Token × ℕ) → Each (Fits c) toks → operand_of toks ≡ Some operand → IsKnown c operand.0
operand-known c [] operand h e = absurd (none-some operand e)
operand-known c (t ∷ toks) operand h e = elim (cases_Bool (is_name t)) [
  | inl name ↦ subst (λ (p : Token × ℕ). IsKnown c p.0) (same_Some (t, 1) operand (rw name at e)) (known c t h.0 name)
  | inr other ↦ wrapped c (in_parentheses (t ∷ toks)) operand (λ name is. parentheses-known c (t ∷ toks) name h is) (rw other at e)
]

onto-go : (c : Change) (p : Piece) (o : Option (List Piece)) (ps : List Piece) → PieceGoes c p → ((qs : List Piece) → o ≡ Some qs → Each (PieceGoes c) qs)
    → onto_pieces p o ≡ Some ps → Each (PieceGoes c) ps
onto-go c p None ps here h e = absurd (none-some ps e)
onto-go c p (Some qs) ps here h e = subst (λ (l : List Piece). Each (PieceGoes c) l) (same_Some (p ∷ qs) ps e) (here, h qs refl)

asks-go : (c : Change) (word : Token) (rest : ℕ → Option (List Piece)) (o : Option (Token × ℕ)) (ps : List Piece) → Fits c word
    → ((operand : Token × ℕ) → o ≡ Some operand → IsKnown c operand.0) → ((skip : ℕ) (qs : List Piece) → rest skip ≡ Some qs → Each (PieceGoes c) qs)
    → asks_with word rest o ≡ Some ps → Each (PieceGoes c) ps
asks-go c word rest None ps here name h e = absurd (none-some ps e)
asks-go c word rest (Some operand) ps here name h e =
    onto-go c (Asks word operand.0) (rest operand.1) ps (here, name operand refl) (λ qs is. h operand.1 qs is) e

pieces-go : (c : Change) (skip : ℕ) (toks : List Token) (ps : List Piece) → Each (Fits c) toks → pieces_from skip toks ≡ Some ps → Each (PieceGoes c) ps
unfolding pieces_from
pieces-go c zero [] ps h e = subst (λ (l : List Piece). Each (PieceGoes c) l) (same_Some [] ps e) tt
pieces-go c (suc skip) [] ps h e = subst (λ (l : List Piece). Each (PieceGoes c) l) (same_Some [] ps e) tt
pieces-go c (suc skip) (t ∷ toks) ps h e = pieces-go c skip toks ps h.1 e
pieces-go c zero (t ∷ toks) ps h e = elim (cases_Bool (is_defined t)) [
  | inl asks ↦
      asks-go c t (λ skip. pieces_from skip toks) (operand_of toks) ps h.0 (λ operand is. operand-known c toks operand h.1 is)
      (λ skip qs is. pieces-go c skip toks qs h.1 is) (rw asks at e)
  | inr plain ↦ onto-go c (Plain t) (pieces_from 0 toks) ps h.0 (λ qs is. pieces-go c 0 toks qs h.1 is) (rw plain at e)
]

-- ---- growth

left-grows : (toks : List Token) (s : State) → IsGrown s.table (left_over toks s).state.table
unfolding left_over
left-grows [] s = grown_refl s.table
left-grows (t ∷ toks) s = elim (cases_Bool (is_name t)) [
  | inl name ↦ rw name (grown_trans s.table (with_name t s).table (left_over toks (with_name t s)).state.table (name-grows t s) (left-grows toks (with_name t s)))
  | inr other ↦ rw other (left-grows toks s)
]

valued-grows : (file : SourceFile) (at : Pos) (toks : List Token) (s : State) (r : Result Bool CondFault) → Grows s (valued file at toks s r)
valued-grows file at toks s (Ok b) = left-grows toks s
valued-grows file at toks s (Err found) = tt

pub judged-grows : (file : SourceFile) (at : Pos) (toks : List Token) (s : State) → Grows s (judged file at toks s)
judged-grows file at toks s = by (list_any is_defined toks)
  where
    by : (b : Bool) → Grows s (cond b (Err (fault_at file at DefinedFromMacro)) (valued file at toks s (condition toks)))
    by true = tt
    by false = valued-grows file at toks s (condition toks)

-- What is answered over the edited files: the renamed tokens, each of which fits.
record Answers (c : Change) (macros : Macros) (d new : Did (List Token)) : Type 0 where
  is : new ≡ did (map (renamed c.renaming) d.value) (map (renamed_happening c.renaming) d.notes) (moved c macros d.state)
  fits : Each (Fits c) d.value
  kept : KeepsState c macros d.state

-- what names that are left over leave over the edited files
record Leaves (c : Change) (macros : Macros) (d new : Did (Unit {0})) : Type 0 where
  is : new ≡ did tt (map (renamed_happening c.renaming) d.notes) (moved c macros d.state)
  kept : KeepsState c macros d.state

-- a name left over with these links, in front of the rest
abbrev left_with : Token → ℕ → List Note → Did (Unit {0}) → Did (Unit {0})
left_with name before links d = did tt (Left name before ∷ links ++ d.notes) d.state

module _ (c : Change) (names : KeepsNames c) where
  -- ---- operands are answered

  pub answer-renamed : (word : Token) (b : Bool) → answer_for (renamed c.renaming word) b ≡ renamed c.renaming (answer_for word b)
  answer-renamed word true =
      let same = names.numbers 8 1 (codes "1") in
      sym (rw (same.0, same.1) refl)
  answer-renamed word false =
      let same = names.numbers 0 1 (codes "0") in
      sym (rw (same.0, same.1) refl)

  pub answer-fits : (word : Token) (b : Bool) → Fits c (answer_for word b)
  answer-fits word true = still-fits c names (answer_for word true) Number refl refl (names.others Number (answer_for word true).origins (codes "1") refl refl) (names.numbers 8 1 (codes "1")).0
  answer-fits word false = still-fits c names (answer_for word false) Number refl refl (names.others Number (answer_for word false).origins (codes "0") refl refl) (names.numbers 0 1 (codes "0")).0

  asked-renamed : (name : Token) (macros : Macros) (s : State) (a : Token) → IsTaken c name → KeepsState c macros s
      → test_notes (renamed c.renaming name) (moved c macros s) ++ Answered (renamed c.renaming a) ∷ [] ≡ map (renamed_happening c.renaming) (test_notes name s ++ Answered a ∷ [])
  asked-renamed name macros s a taken kept =
      ap (λ (ns : List Note). Tested (renamed c.renaming name) s.before ∷ ns ++ Answered (renamed c.renaming a) ∷ []) (name_links-renamed c names name macros s taken kept.names)
      ∙ sym (map-append (renamed_happening c.renaming) (test_notes name s) (Answered a ∷ []))

  answered-alike : (pieces : List Piece) (macros : Macros) (s : State) → Each (PieceGoes c) pieces → KeepsState c macros s → Each (KeepsNote c) (answered pieces s).notes
      → Answers c macros (answered pieces s) (answered (map (renamed_piece c.renaming) pieces) (moved c macros s))
  unfolding answered
  answered-alike [] macros s h kept told = record { is = refl; fits = tt; kept = kept }
  answered-alike (Plain t ∷ pieces) macros s h kept told =
      let k = answered-alike pieces macros s h.1 kept told in
      record { is = ap (with_front (renamed c.renaming t) []) k.is; fits = (h.0, k.fits); kept = k.kept }
  answered-alike (Asks word name ∷ pieces) macros s h kept told =
      let a : Token = answer_for word (is_macro name s) in
      let rest : Did (List Token) = answered pieces (with_name name s) in
      let both = each-split (KeepsNote c) (test_notes name s ++ Answered a ∷ []) rest.notes told in
      let taken : IsTaken c name = record { occurs = h.0.1.occurs; named = h.0.1.named; keeps = both.0.0 } in
      let k = answered-alike pieces macros (with_name name s) h.1 (with_name-kept c names name macros s taken kept) both.1 in
      let new_a : answer_for (renamed c.renaming word) (is_macro (renamed c.renaming name) (moved c macros s)) ≡ renamed c.renaming a =
      ap (answer_for (renamed c.renaming word)) (is_macro-same c names name macros s taken kept) ∙ answer-renamed word (is_macro name s) in
      record {
        is = ap (λ (n : Token). with_front n (test_notes (renamed c.renaming name) (moved c macros s) ++ Answered n ∷ []) (answered (map (renamed_piece c.renaming) pieces) (with_name (renamed c.renaming name) (moved c macros s)))) new_a
            ∙ ap (λ (ns : List Note). with_front (renamed c.renaming a) ns (answered (map (renamed_piece c.renaming) pieces) (with_name (renamed c.renaming name) (moved c macros s)))) (asked-renamed name macros s a taken kept)
            ∙ ap (λ (t : State). with_front (renamed c.renaming a) (map (renamed_happening c.renaming) (test_notes name s ++ Answered a ∷ [])) (answered (map (renamed_piece c.renaming) pieces) t)) (with_name-renamed c names name macros s taken kept.names)
            ∙ ap (with_front (renamed c.renaming a) (map (renamed_happening c.renaming) (test_notes name s ++ Answered a ∷ []))) k.is
            ∙ ap (λ (ns : List Note). did (renamed c.renaming a ∷ map (renamed c.renaming) rest.value) ns (moved c macros rest.state)) (sym (map-append (renamed_happening c.renaming) (test_notes name s ++ Answered a ∷ []) rest.notes));
        fits = (answer-fits word (is_macro name s), k.fits);
        kept = k.kept;
      }

  answered-step : (pieces : List Piece) (macros : Macros) (s : State) → Each (PieceGoes c) pieces
      → GoesAlike c (AreRenamed c) macros s (Ok (answered pieces s)) (Ok (answered (map (renamed_piece c.renaming) pieces) (moved c macros s)))
  answered-step pieces macros s h = λ reach kept told.
      let k = answered-alike pieces macros s h kept told in
      record { value = map (renamed c.renaming) (answered pieces s).value; macros = macros; is = ap (λ (d : Did (List Token)). Ok d) k.is; goes_with = (refl, k.fits); kept = k.kept }

  -- ---- names left over

  left-name : (t : Token) (toks : List Token) (macros : Macros) (s : State) → IsTaken c t → KeepsState c macros s
      → Leaves c macros (left_over toks (with_name t s)) (left_over (map (renamed c.renaming) toks) (moved c macros (with_name t s)))
      → Leaves c macros (left_name t s (left_over toks (with_name t s))) (left_name (renamed c.renaming t) (moved c macros s) (left_over (map (renamed c.renaming) toks) (with_name (renamed c.renaming t) (moved c macros s))))
  left-name t toks macros s taken kept k =
      let rest : Did (Unit {0}) = left_over toks (with_name t s) in
      record {
        is = ap (λ (ns : List Note). left_with (renamed c.renaming t) s.before ns (left_over (map (renamed c.renaming) toks) (with_name (renamed c.renaming t) (moved c macros s)))) (name_links-renamed c names t macros s taken kept.names)
            ∙ ap (λ (u : State). left_with (renamed c.renaming t) s.before (map (renamed_happening c.renaming) (name_links t s)) (left_over (map (renamed c.renaming) toks) u)) (with_name-renamed c names t macros s taken kept.names)
            ∙ ap (left_with (renamed c.renaming t) s.before (map (renamed_happening c.renaming) (name_links t s))) k.is
            ∙ ap (λ (ns : List Note). did tt (Left (renamed c.renaming t) s.before ∷ ns) (moved c macros rest.state)) (sym (map-append (renamed_happening c.renaming) (name_links t s) rest.notes));
        kept = k.kept;
      }

  left-alike : (toks : List Token) (macros : Macros) (s : State) → Each (Fits c) toks → KeepsState c macros s → Each (KeepsNote c) (left_over toks s).notes
      → Leaves c macros (left_over toks s) (left_over (map (renamed c.renaming) toks) (moved c macros s))
  unfolding left_over
  left-alike [] macros s h kept told = record { is = refl; kept = kept }
  left-alike (t ∷ toks) macros s h kept told = elim (cases_Bool (is_name t)) [
    | inl name ↦
        let now : Each (KeepsNote c) (Left t s.before ∷ name_links t s ++ (left_over toks (with_name t s)).notes) = rw name at told in
        let taken : IsTaken c t = record { occurs = h.0.0; named = name; keeps = now.0 } in
        let later = (each-split (KeepsNote c) (name_links t s) (left_over toks (with_name t s)).notes now.1).1 in
        rw name (left-name t toks macros s taken kept (left-alike toks macros (with_name t s) h.1 (with_name-kept c names t macros s taken kept) later))
    | inr other ↦ rw other (left-alike toks macros s h.1 kept (rw other at told))
  ]

  -- ---- the value

  valued-alike : (file new : SourceFile) (at at2 : Pos) (toks : List Token) (macros : Macros) (s : State) (r : Result Bool CondFault) → Each (Fits c) toks
      → GoesAlike c (IsSame {A = Bool}) macros s (valued file at toks s r) (valued new at2 (map (renamed c.renaming) toks) (moved c macros s) r)
  valued-alike file new at at2 toks macros s (Err found) h = tt
  valued-alike file new at at2 toks macros s (Ok b) h = λ reach kept told.
      let k = left-alike toks macros s h kept told in
      record { value = b; macros = macros; is = ap (λ (d : Did (Unit {0})). Ok (did b d.notes d.state)) k.is; goes_with = refl; kept = k.kept }

  defined-same : (toks : List Token) → Each (Fits c) toks → list_any is_defined (map (renamed c.renaming) toks) ≡ list_any is_defined toks
  defined-same toks h = any-kept c.renaming is_defined toks (each-more (Fits c) (λ t. is_defined (renamed c.renaming t) ≡ is_defined t) toks (λ t k. k.1.asks) h)

  pub judged-alike : (file new : SourceFile) (at at2 : Pos) (toks : List Token) (macros : Macros) (s : State) → Each (Fits c) toks
      → GoesAlike c (IsSame {A = Bool}) macros s (judged file at toks s) (judged new at2 (map (renamed c.renaming) toks) (moved c macros s))
  judged-alike file new at at2 toks macros s h =
      rw (defined-same toks h, conditions_stay c.renaming toks (kept-tokens c toks h))
      (alike-test c (IsSame {A = Bool}) macros s (list_any is_defined toks) (fault_at file at DefinedFromMacro) (fault_at new at2 DefinedFromMacro)
      (valued file at toks s (condition toks)) (valued new at2 (map (renamed c.renaming) toks) (moved c macros s) (condition toks))
      (valued-alike file new at at2 toks macros s (condition toks) h))

  asked_pieces-alike : (file : SourceFile) (text : TextValue) (at at2 : Pos) (macros : Macros) (s : State) (o : Option (List Piece)) → ((ps : List Piece) → o ≡ Some ps → Each (PieceGoes c) ps)
      → GoesAlike c (AreRenamed c) macros s (asked_pieces file at s o) (asked_pieces (with_text file text) at2 (moved c macros s) (option_map (map (renamed_piece c.renaming)) o))
  asked_pieces-alike file text at at2 macros s None h = tt
  asked_pieces-alike file text at at2 macros s (Some pieces) h =
      alike-onward c (AreRenamed c) (AreRenamed c) macros s (Ok (answered pieces s)) (Ok (answered (map (renamed_piece c.renaming) pieces) (moved c macros s)))
      (expanded_in false file) (expanded_in false (with_text file text)) (expanded-grows false file) (answered-step pieces macros s (h pieces refl))
      (λ toks new t macros2 v.
      subst (λ (ts : List Token). GoesAlike c (AreRenamed c) macros2 t (expanded_in false file toks t) (expanded_in false (with_text file text) ts (moved c macros2 t))) (sym v.0)
      (expanded-alike c names false file text toks macros2 t v.1))

  pub asked-alike : (file : SourceFile) (text : TextValue) (at at2 : Pos) (toks : List Token) (macros : Macros) (s : State) → Each (Fits c) toks
      → GoesAlike c (AreRenamed c) macros s (asked_toks file at toks s) (asked_toks (with_text file text) at2 (map (renamed c.renaming) toks) (moved c macros s))
  asked-alike file text at at2 toks macros s h =
      rw (operands_are_renamed c.renaming 0 toks (kept-tokens c toks h))
      (asked_pieces-alike file text at at2 macros s (pieces_from 0 toks) (λ ps e. pieces-go c 0 toks ps h e))

  pub holds-alike : (file : SourceFile) (text : TextValue) (at at2 : Pos) (toks : List Token) (macros : Macros) (s : State) → Each (Fits c) toks
      → GoesAlike c (IsSame {A = Bool}) macros s (holds file at toks s) (holds (with_text file text) at2 (map (renamed c.renaming) toks) (moved c macros s))
  holds-alike file text at at2 toks macros s h =
      alike-onward c (AreRenamed c) (IsSame {A = Bool}) macros s (asked_toks file at toks s) (asked_toks (with_text file text) at2 (map (renamed c.renaming) toks) (moved c macros s))
      (judged file at) (judged (with_text file text) at2) (judged-grows file at) (asked-alike file text at at2 toks macros s h)
      (λ out new t macros2 v.
      subst (λ (ts : List Token). GoesAlike c (IsSame {A = Bool}) macros2 t (judged file at out t) (judged (with_text file text) at2 ts (moved c macros2 t))) (sym v.0)
      (judged-alike file (with_text file text) at at2 out macros2 t v.1))
