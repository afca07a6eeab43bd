-- Definitions, and directives that ask for a name: what is true of what they give.
use Rattle.std.proofs.Common.{◌≡◌, ℕ, Bool, true, false, cond, List, [], ◌∷◌, take, drop, Option, Some, None, refl, sym, subst, inl, inr, Ok, Err}
use Rattle.std.specs.List.{flat_map}
use Rattle.std.specs.Option.{option_map}
use Rattle.std.specs.Str.{bytes_eq}
use Rattle.std.proofs.lemmas.Bool.{cases_Bool}
use Rattle.std.proofs.lemmas.Option.{none-some, same_Some}
use Rattle.std.proofs.lemmas.Slice.Eq.{bytes_eq-Decides}
use Rattle.cs_base.specs.declared.causes.Cause.TheVariants.{BadDirective}
use Rattle.cs_base.specs.declared.positions.Pos.{Pos}
use Rattle.cs_base.specs.Token.{Token}
use Rattle.line_shape.specs.declared.items.ItemKind.{ItemKind}
use Rattle.line_shape.specs.Signs.{is_name}
use Rattle.line_shape.specs.Directives.{takes_name}
use Rattle.line_shape.specs.Items.{line_kind}
use Rattle.line_shape.specs.MacroLine.{MacroParts, macro_of}
use Rattle.macro_body.specs.declared.definitions.Form.TheVariants as form
use Rattle.macro_body.specs.declared.definitions.Definition.{Definition}
use Rattle.macro_body.specs.Defining.{form_of, definition_of, defined_by, in_gnu}
use Rattle.source_files.specs.Faults.{fault_at}
use Rattle.source_files.specs.Files.{SourceFile, Table}
use Rattle.unit_steps.specs.Notes.{Note}
use Rattle.unit_steps.specs.State.{State, did}
use Rattle.unit_steps.specs.Names.{spelled_in, linked_with, name_links, parameter_named, definition_links}
use Rattle.unit_steps.specs.Directives.{operand_in, after_define, defined_as, define_of, undefined_as, undef_of, asks_name, define_notes, may_define}
use Rattle.expansion_laws.proofs.ListLemmas.{AllToks}
use Rattle.unit_laws.proofs.DoneLemmas.{AllIn, all_both, NotedSo, NameHas, MacroHas, StateHas, Done, done_cond}
use Rattle.unit_laws.proofs.PartLemmas.{directive_name, PartsHave, macro_has, spelled_has}
use Rattle.unit_laws.proofs.NamingLemmas.{name_grown, linked_so, name_links_so, with_name_has}

no_line : (b : Bool) → form_of b ≡ form.Line → ⊥
no_line true e = absurd (cc)
no_line false e = absurd (cc)

with_macro_has : (P : Token → Type 0) (m d : Definition) (name : List ℕ) (old : Option Definition) (b : Bool) → (b ≡ true → name ≡ m.name.text)
    → MacroHas P m.name.text m → (old ≡ Some d → MacroHas P name d) → cond b (Some m) old ≡ Some d → MacroHas P name d
with_macro_has P m d name old true same here there e =
    let at : MacroHas P name m = subst (λ (text : List ℕ). MacroHas P text m) (sym (same refl)) here in
    subst (MacroHas P name) (same_Some m d e) at
with_macro_has P m d name old false same here there e = there e

without_macro_has : (P : Token → Type 0) (d : Definition) (name : List ℕ) (old : Option Definition) (b : Bool) → (old ≡ Some d → MacroHas P name d)
    → cond b None old ≡ Some d → MacroHas P name d
without_macro_has P d name old true there e = absurd (none-some d e)
without_macro_has P d name old false there e = there e

-- what is true of a macro that a line defines
record DefinitionHas (P : Token → Type 0) (m : Definition) : Type 0 where
  name : NameHas P m.name
  params : AllIn (NameHas P) m.params
  body : AllToks P m.body
  line : m.form ≡ form.Line → ⊥

module _ (P : Token → Type 0) (M : Note → Type 0) (table : Table) where
  use_so : (params : List Token) (t : Token) → AllIn (NameHas P) params → P t → AllIn (NotedSo P) (linked_with t (parameter_named params t))
  use_so params t h here = elim (cases_Bool (is_name t)) [
    | inl name ↦ rw name (linked_so P t (spelled_in params t.text) (here, name) (λ first e. spelled_has P params t.text first h e))
    | inr other ↦ rw other tt
  ]

  uses_so : (params body : List Token) → AllIn (NameHas P) params → AllToks P body → AllIn (NotedSo P) (flat_map (λ t. linked_with t (parameter_named params t)) body)
  uses_so params [] h here = tt
  uses_so params (t ∷ body) h here =
      all_both (NotedSo P) (linked_with t (parameter_named params t)) (flat_map (λ t. linked_with t (parameter_named params t)) body)
      (use_so params t h here.0) (uses_so params body h here.1)

  defined_parts : (name : Token) (o : Option MacroParts) (m : Definition) → NameHas P name → ((parts : MacroParts) → o ≡ Some parts → PartsHave P parts)
      → option_map (definition_of name) o ≡ Some m → DefinitionHas P m
  defined_parts name None m here h e = absurd (none-some m e)
  defined_parts name (Some parts) m here h e =
      let k = h parts refl in
      subst (DefinitionHas P) (same_Some (definition_of name parts) m e) (record { name = here; params = k.params; body = k.body; line = no_line parts.function })

  defined_by_has : (k : ItemKind) (toks : List Token) (m : Definition) → takes_name k ≡ true → AllToks P (drop 2 toks) → line_kind toks ≡ k → defined_by toks ≡ Some m → DefinitionHas P m
  defined_by_has k [] m takes h is e = absurd (none-some m e)
  defined_by_has k (hash ∷ []) m takes h is e = absurd (none-some m e)
  defined_by_has k (hash ∷ word ∷ []) m takes h is e = absurd (none-some m e)
  defined_by_has k (hash ∷ word ∷ name ∷ toks) m takes h is e =
      defined_parts name (macro_of toks) m (h.0, directive_name k hash word name toks takes is) (λ parts p. macro_has P toks parts h.1 p) e

  after_define_has : (m : Definition) (s : State) → DefinitionHas P m → StateHas P s → StateHas P (after_define m s)
  after_define_has m s d has =
      let named = with_name_has P m.name s d.name has in
      let own : MacroHas P m.name.text m = record { body = d.body; own = λ links. (d.name, refl); line = λ e. absurd (d.line e) } in
      record {
        macros = λ name other e. with_macro_has P m other name (s.macros name) (bytes_eq name m.name.text) (λ same. (bytes_eq-Decides name m.name.text).0 same) own (has.macros name other) e;
        names = named.names;
      }

  own_has : (gnu : Bool) (m : Definition) → DefinitionHas P m → DefinitionHas P (in_gnu gnu m)
  own_has gnu m d = record { name = d.name; params = d.params; body = d.body; line = d.line }

  defined_done : (pre : Type 0) (s : State) (m : Definition) → (pre → DefinitionHas P m) → Done P M table pre (AllToks P) s (Ok (did [] (define_notes m s) (after_define m s)))
  defined_done pre s m h = (
    name_grown m.name s,
    λ p reach has told.
        let d = h p in (
          tt,
          after_define_has m s d has,
          (d.name.0, all_both (NotedSo P) (name_links m.name s) (definition_links m) (name_links_so P m.name s d.name has) (uses_so m.params m.body d.params d.body)),
        ),
  )

  defined_as_done : (pre : Type 0) (gnu : Bool) (file : SourceFile) (at : Pos) (s : State) (o : Option Definition) → ((m : Definition) → o ≡ Some m → pre → DefinitionHas P m)
      → Done P M table pre (AllToks P) s (defined_as gnu file at s o)
  defined_as_done pre gnu file at s None h = tt
  defined_as_done pre gnu file at s (Some m) h =
      done_cond P M table pre (AllToks P) s (may_define gnu m) (Ok (did [] (define_notes (in_gnu gnu m) s) (after_define (in_gnu gnu m) s))) (Err (fault_at file at BadDirective))
      (defined_done pre s (in_gnu gnu m) (λ p. own_has gnu m (h m refl p))) tt

  pub define_done : (k : ItemKind) (gnu : Bool) (file : SourceFile) (at : Pos) (toks : List Token) (s : State) → takes_name k ≡ true
      → Done P M table (AllToks P (drop 2 toks) × (line_kind toks ≡ k)) (AllToks P) s (define_of gnu file at toks s)
  define_done k gnu file at toks s takes =
      defined_as_done (AllToks P (drop 2 toks) × (line_kind toks ≡ k)) gnu file at s (defined_by toks) (λ m e p. defined_by_has k toks m takes p.0 p.1 e)

  operand_has : (k : ItemKind) (toks : List Token) (name : Token) → takes_name k ≡ true → AllToks P (take 1 (drop 2 toks)) → line_kind toks ≡ k → operand_in toks ≡ Some name → NameHas P name
  operand_has k [] name takes h is e = absurd (none-some name e)
  operand_has k (hash ∷ []) name takes h is e = absurd (none-some name e)
  operand_has k (hash ∷ word ∷ []) name takes h is e = absurd (none-some name e)
  operand_has k (hash ∷ word ∷ t ∷ toks) name takes h is e =
      subst (NameHas P) (same_Some t name e) (h.0, directive_name k hash word t toks takes is)

  undefined_as_done : (pre : Type 0) (file : SourceFile) (at : Pos) (s : State) (o : Option Token) → ((name : Token) → o ≡ Some name → pre → NameHas P name)
      → Done P M table pre (AllToks P) s (undefined_as file at s o)
  undefined_as_done pre file at s None h = tt
  undefined_as_done pre file at s (Some name) h = (
    name_grown name s,
    λ p reach has told.
        let here = h name refl p in
        let named = with_name_has P name s here has in (
          tt,
          record {
            macros = λ text m e. without_macro_has P m text (s.macros text) (bytes_eq text name.text) (has.macros text m) e;
            names = named.names;
          },
          (here.0, name_links_so P name s here has),
        ),
  )

  pub undef_done : (k : ItemKind) (file : SourceFile) (at : Pos) (toks : List Token) (s : State) → takes_name k ≡ true
      → Done P M table (AllToks P (take 1 (drop 2 toks)) × (line_kind toks ≡ k)) (AllToks P) s (undef_of file at toks s)
  undef_done k file at toks s takes =
      undefined_as_done (AllToks P (take 1 (drop 2 toks)) × (line_kind toks ≡ k)) file at s (operand_in toks) (λ name e p. operand_has k toks name takes p.0 p.1 e)

  asks_as_done : (pre : Type 0) (file : SourceFile) (at : Pos) (answer : Bool → Bool) (s : State) (o : Option Token) → ((name : Token) → o ≡ Some name → pre → NameHas P name)
      → Done P M table pre (λ (b : Bool). Unit {0}) s (asks_name file at answer s o)
  asks_as_done pre file at answer s None h = tt
  asks_as_done pre file at answer s (Some name) h = (
    name_grown name s,
    λ p reach has told.
        let here = h name refl p in
        (tt, with_name_has P name s here has, (here.0, name_links_so P name s here has)),
  )

  pub asks_done : (k : ItemKind) (file : SourceFile) (at : Pos) (answer : Bool → Bool) (toks : List Token) (s : State) → takes_name k ≡ true
      → Done P M table (AllToks P (take 1 (drop 2 toks)) × (line_kind toks ≡ k)) (λ (b : Bool). Unit {0}) s (asks_name file at answer s (operand_in toks))
  asks_done k file at answer toks s takes =
      asks_as_done (AllToks P (take 1 (drop 2 toks)) × (line_kind toks ≡ k)) file at answer s (operand_in toks) (λ name e p. operand_has k toks name takes p.0 p.1 e)
