-- Conditions: what is true of what they give.
use Rattle.std.proofs.Common.{◌≡◌, ℕ, zero, suc, ◌&&◌, Bool, true, false, cond, List, [], ◌∷◌, ◌++◌, Option, Some, None, Result, Ok, Err, refl, subst, inl, inr}
use Rattle.std.specs.List.{list_any}
use Rattle.std.specs.Option.{option_map}
use Rattle.std.proofs.lemmas.Bool.{cases_Bool}
use Rattle.std.proofs.lemmas.Option.{none-some, same_Some}
use Rattle.cs_base.specs.declared.causes.Cause.TheVariants.{DefinedFromMacro}
use Rattle.cs_base.specs.declared.positions.Pos.{Pos}
use Rattle.cs_base.specs.Token.{Token}
use Rattle.line_shape.specs.Signs.{is_name, is_open, is_close}
use Rattle.unit_steps.specs.Below.cond_eval.declared.faults.CondFault.{CondFault}
use Rattle.unit_steps.specs.Below.cond_eval.Evaluation.{condition}
use Rattle.source_files.specs.Faults.{fault_at}
use Rattle.source_files.specs.Files.{SourceFile, Table}
use Rattle.unit_steps.specs.Notes.{Note, Answered}
use Rattle.unit_steps.specs.State.{State, Did}
use Rattle.unit_steps.specs.Names.{name_links, with_name}
use Rattle.unit_steps.specs.Expanding.{expanded_in}
use Rattle.unit_steps.specs.Conditions.{Piece, Plain, Asks, is_defined, in_parentheses, operand_of, onto_pieces, asks_with, pieces_from, answer_for, is_macro, test_notes, answered, left_over, valued, judged, asked_pieces, asked_toks, holds}
use Rattle.source_files.specs.Tables.{IsGrown}
use Rattle.source_files.proofs.TableLemmas.{grown_refl, grown_trans}
use Rattle.expansion_laws.proofs.ListLemmas.{AllToks}
use Rattle.unit_laws.proofs.DoneLemmas.{AllIn, all_split, all_both, UnitRules, NotedSo, NameHas, StateHas, Done, done_more, done_onward, done_test}
use Rattle.unit_laws.proofs.NamingLemmas.{name_grown, name_links_so, with_name_has}
use Rattle.unit_laws.proofs.ExpandingLemmas.{expanded_done}

-- each name of a condition
abbrev PieceHas : (Token → Type 0) → Piece → Type 0
PieceHas P (Plain t) = P t
PieceHas P (Asks word name) = P word × NameHas P name

-- what is true of tokens, state and notes
abbrev Fine : (Token → Type 0) → Did (List Token) → Type 0
Fine P d = AllToks P d.value × StateHas P d.state × AllIn (NotedSo P) d.notes

module _ (P : Token → Type 0) (M : Note → Type 0) (table : Table) (rules : UnitRules P M table) where
  parentheses_have : (toks : List Token) (name : Token) → AllToks P toks → in_parentheses toks ≡ Some name → NameHas P name
  parentheses_have [] name h e = absurd (none-some name e)
  parentheses_have (a ∷ []) name h e = absurd (none-some name e)
  parentheses_have (a ∷ b ∷ []) name h e = absurd (none-some name e)
  parentheses_have (a ∷ b ∷ c ∷ toks) name h e = by (is_open a) (is_name b) (is_close c) refl e
    where
      by : (x y z : Bool) → is_name b ≡ y → cond (x && y && z) (Some b) None ≡ Some name → NameHas P name
      by true true true is k = subst (NameHas P) (same_Some b name k) (h.1.0, is)
      by true true false is k = absurd (none-some name k)
      by true false z is k = absurd (none-some name k)
      by false y z is k = absurd (none-some name k)

  wrapped : (o : Option Token) (operand : Token × ℕ) → ((name : Token) → o ≡ Some name → NameHas P name) → option_map (λ name. (name, 3)) o ≡ Some operand → NameHas P operand.0
  wrapped None operand h e = absurd (none-some operand e)
  wrapped (Some name) operand h e = subst (λ (p : Token × ℕ). NameHas P p.0) (same_Some (name, 3) operand e) (h name refl)

  operand_of_has : (toks : List Token) (operand : Token × ℕ) → AllToks P toks → operand_of toks ≡ Some operand → NameHas P operand.0
  operand_of_has [] operand h e = absurd (none-some operand e)
  operand_of_has (t ∷ toks) operand h e = elim (cases_Bool (is_name t)) [
    | inl name ↦ subst (λ (p : Token × ℕ). NameHas P p.0) (same_Some (t, 1) operand (rw name at e)) (h.0, name)
    | inr other ↦ wrapped (in_parentheses (t ∷ toks)) operand (λ name is. parentheses_have (t ∷ toks) name h is) (rw other at e)
  ]

  onto_have : (p : Piece) (o : Option (List Piece)) (ps : List Piece) → PieceHas P p → ((qs : List Piece) → o ≡ Some qs → AllIn (PieceHas P) qs)
      → onto_pieces p o ≡ Some ps → AllIn (PieceHas P) ps
  onto_have p None ps here h e = absurd (none-some ps e)
  onto_have p (Some qs) ps here h e = subst (AllIn (PieceHas P)) (same_Some (p ∷ qs) ps e) (here, h qs refl)

  asks_have : (word : Token) (rest : ℕ → Option (List Piece)) (o : Option (Token × ℕ)) (ps : List Piece) → P word
      → ((operand : Token × ℕ) → o ≡ Some operand → NameHas P operand.0) → ((skip : ℕ) (qs : List Piece) → rest skip ≡ Some qs → AllIn (PieceHas P) qs)
      → asks_with word rest o ≡ Some ps → AllIn (PieceHas P) ps
  asks_have word rest None ps here name h e = absurd (none-some ps e)
  asks_have word rest (Some operand) ps here name h e =
      onto_have (Asks word operand.0) (rest operand.1) ps (here, name operand refl) (λ qs is. h operand.1 qs is) e

  pieces_have : (skip : ℕ) (toks : List Token) (ps : List Piece) → AllToks P toks → pieces_from skip toks ≡ Some ps → AllIn (PieceHas P) ps
  unfolding pieces_from
  pieces_have zero [] ps h e = subst (AllIn (PieceHas P)) (same_Some [] ps e) tt
  pieces_have (suc skip) [] ps h e = subst (AllIn (PieceHas P)) (same_Some [] ps e) tt
  pieces_have (suc skip) (t ∷ toks) ps h e = pieces_have skip toks ps h.1 e
  pieces_have zero (t ∷ toks) ps h e = elim (cases_Bool (is_defined t)) [
    | inl asks ↦
        asks_have t (λ skip. pieces_from skip toks) (operand_of toks) ps h.0 (λ operand is. operand_of_has toks operand h.1 is)
        (λ skip qs is. pieces_have skip toks qs h.1 is) (rw asks at e)
    | inr plain ↦ onto_have (Plain t) (pieces_from 0 toks) ps h.0 (λ qs is. pieces_have 0 toks qs h.1 is) (rw plain at e)
  ]

  answered_grown : (pieces : List Piece) (s : State) → IsGrown s.table (answered pieces s).state.table
  unfolding answered
  answered_grown [] s = grown_refl s.table
  answered_grown (Plain t ∷ pieces) s = answered_grown pieces s
  answered_grown (Asks word name ∷ pieces) s =
      grown_trans s.table (with_name name s).table (answered pieces (with_name name s)).state.table (name_grown name s) (answered_grown pieces (with_name name s))

  answered_fine : (pieces : List Piece) (s : State) → AllIn (PieceHas P) pieces → StateHas P s → AllIn M (answered pieces s).notes → Fine P (answered pieces s)
  unfolding answered
  answered_fine [] s h has told = (tt, has, tt)
  answered_fine (Plain t ∷ pieces) s h has told =
      let k = answered_fine pieces s h.1 has told in
      ((h.0, k.0), k.1, k.2)
  answered_fine (Asks word name ∷ pieces) s h has told =
      let a : Token = answer_for word (is_macro name s) in
      let told2 = all_split M (test_notes name s ++ Answered a ∷ []) (answered pieces (with_name name s)).notes told in
      let told3 = all_split M (test_notes name s) (Answered a ∷ []) told2.0 in
      let here = rules.answers word (is_macro name s) h.0.0 told3.1.0 in
      let k = answered_fine pieces (with_name name s) h.1 (with_name_has P name s h.0.1 has) told2.1 in
      let links = name_links_so P name s h.0.1 has in (
        (here, k.0),
        k.1,
        all_both (NotedSo P) (test_notes name s ++ Answered a ∷ []) (answered pieces (with_name name s)).notes
            (all_both (NotedSo P) (test_notes name s) (Answered a ∷ []) (h.0.1.0, links) ((here, (word, is_macro name s, refl)), tt)) k.2,
      )

  answered_done : (pieces : List Piece) (s : State) → Done P M table (AllIn (PieceHas P) pieces) (AllToks P) s (Ok (answered pieces s))
  answered_done pieces s = (answered_grown pieces s, λ h reach has told. answered_fine pieces s h has told)

  left_grown : (toks : List Token) (s : State) → IsGrown s.table (left_over toks s).state.table
  unfolding left_over
  left_grown [] s = grown_refl s.table
  left_grown (t ∷ toks) s = elim (cases_Bool (is_name t)) [
    | inl name ↦
        rw name (grown_trans s.table (with_name t s).table (left_over toks (with_name t s)).state.table (name_grown t s) (left_grown toks (with_name t s)))
    | inr other ↦ rw other (left_grown toks s)
  ]

  left_fine : (toks : List Token) (s : State) → AllToks P toks → StateHas P s → StateHas P (left_over toks s).state × AllIn (NotedSo P) (left_over toks s).notes
  unfolding left_over
  left_fine [] s h has = (has, tt)
  left_fine (t ∷ toks) s h has = elim (cases_Bool (is_name t)) [
    | inl name ↦
        let here : NameHas P t = (h.0, name) in
        let k = left_fine toks (with_name t s) h.1 (with_name_has P t s here has) in
        rw name (k.0, (h.0, all_both (NotedSo P) (name_links t s) (left_over toks (with_name t s)).notes (name_links_so P t s here has) k.1))
    | inr other ↦ rw other (left_fine toks s h.1 has)
  ]

  valued_done : (file : SourceFile) (at : Pos) (toks : List Token) (s : State) (r : Result Bool CondFault)
      → Done P M table (AllToks P toks) (λ (b : Bool). Unit {0}) s (valued file at toks s r)
  valued_done file at toks s (Err found) = tt
  valued_done file at toks s (Ok b) = (left_grown toks s, λ h reach has told. let k = left_fine toks s h has in (tt, k.0, k.1))

  pub judged_done : (file : SourceFile) (at : Pos) (toks : List Token) (s : State) → Done P M table (AllToks P toks) (λ (b : Bool). Unit {0}) s (judged file at toks s)
  judged_done file at toks s =
      done_test P M table (AllToks P toks) (λ (b : Bool). Unit {0}) s (list_any is_defined toks) (fault_at file at DefinedFromMacro)
      (valued file at toks s (condition toks)) (valued_done file at toks s (condition toks))

  asked_pieces_done : (pre : Type 0) (file : SourceFile) (at : Pos) (s : State) (o : Option (List Piece)) → ((ps : List Piece) → o ≡ Some ps → pre → AllIn (PieceHas P) ps)
      → Done P M table pre (AllToks P) s (asked_pieces file at s o)
  asked_pieces_done pre file at s None h = tt
  asked_pieces_done pre file at s (Some pieces) h =
      done_onward P M table pre (AllToks P) (AllToks P) s (Ok (answered pieces s)) (expanded_in false file)
      (done_more P M table (AllIn (PieceHas P) pieces) pre (AllToks P) (AllToks P) s (Ok (answered pieces s)) (λ p. h pieces refl p) (λ a p k. k) (answered_done pieces s))
      (λ toks t. done_more P M table (AllToks P toks) (pre × AllToks P toks) (AllToks P) (AllToks P) t (expanded_in false file toks t) (λ p. p.1) (λ a p k. k) (expanded_done P M table rules false file toks t))

  pub asked_done : (file : SourceFile) (at : Pos) (toks : List Token) (s : State) → Done P M table (AllToks P toks) (AllToks P) s (asked_toks file at toks s)
  asked_done file at toks s = asked_pieces_done (AllToks P toks) file at s (pieces_from 0 toks) (λ ps e h. pieces_have 0 toks ps h e)

  pub holds_done : (file : SourceFile) (at : Pos) (toks : List Token) (s : State) → Done P M table (AllToks P toks) (λ (b : Bool). Unit {0}) s (holds file at toks s)
  holds_done file at toks s =
      done_onward P M table (AllToks P toks) (AllToks P) (λ (b : Bool). Unit {0}) s (asked_toks file at toks s) (judged file at) (asked_done file at toks s)
      (λ out t. done_more P M table (AllToks P out) (AllToks P toks × AllToks P out) (λ (b : Bool). Unit {0}) (λ (b : Bool). Unit {0}) t (judged file at out t) (λ p. p.1) (λ a p k. tt) (judged_done file at out t))
