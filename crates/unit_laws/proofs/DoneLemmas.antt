-- What is true of a unit at each moment, and of what its steps give.
use Rattle.std.proofs.Common.{◌≡◌, ℕ, nat_lt, Bool, true, false, cond, List, [], ◌∷◌, ◌++◌, Some, Ok, Err, codes, ◌⊎◌}
use Rattle.std.specs.Prelude.{slice_get}
use Rattle.cs_base.specs.declared.positions.Pos.{Pos}
use Rattle.cs_base.specs.Limits.{most_bytes}
use Rattle.cs_base.specs.Token.{Token}
use Rattle.line_shape.specs.declared.items.ItemKind.{ItemKind}
use Rattle.line_shape.specs.declared.items.ItemKind.TheVariants.{Pragma}
use Rattle.line_shape.specs.Directives.{is_include}
use Rattle.line_shape.specs.Signs.{is_name}
use Rattle.macro_body.specs.Below.paste_origin.Pasting.{glue_of}
use Rattle.macro_body.specs.Below.paste_origin.Strings.{stringize_of}
use Rattle.macro_body.specs.declared.definitions.Form.TheVariants as form
use Rattle.macro_body.specs.declared.definitions.Definition.{Definition}
use Rattle.macro_body.specs.Notes as expansion
use Rattle.macro_body.specs.Substitution.{put_in, number_token, line_number, path_string}
use Rattle.macro_body.specs.Defining.{line_macro}
use Rattle.macro_expand.specs.Expansion.{links_name}
use Rattle.source_files.specs.Faults.{Fault}
use Rattle.source_files.specs.Files.{SourceFile, Table}
use Rattle.unit_steps.specs.Notes.{Note, Reaches, Happened, Defined, Undefined, Tested, Left, Linked, Answered, Named, Entered, Exited, ReadOnce}
use Rattle.unit_steps.specs.State.{State, Did, Outcome, only, noted, onward}
use Rattle.unit_steps.specs.Conditions.{answer_for}
use Rattle.source_files.specs.Tables.{IsGrown}
use Rattle.source_files.specs.Sources.{source_at}
use Rattle.include_tree.specs.Walk.{ItemText, items_in}
use Rattle.source_files.proofs.TableLemmas.{grown_refl, grown_trans}
use Rattle.expansion_laws.specs.Telling.{AreAlike, IsPasted}
use Rattle.expansion_laws.proofs.ListLemmas.{AllToks}
use Rattle.unit_laws.specs.UnitItems.{taken}

-- each of these has it
abbrev pub AllIn : {X : Type 0} → (X → Type 0) → List X → Type 0
AllIn Q [] = Unit {0}
AllIn Q (x ∷ xs) = Q x × AllIn Q xs

pub all_split : {X : Type 0} (Q : X → Type 0) (xs ys : List X) → AllIn Q (xs ++ ys) → AllIn Q xs × AllIn Q ys
all_split Q [] ys h = (tt, h)
all_split Q (x ∷ xs) ys h = let k = all_split Q xs ys h.1 in ((h.0, k.0), k.1)

pub all_both : {X : Type 0} (Q : X → Type 0) (xs ys : List X) → AllIn Q xs → AllIn Q ys → AllIn Q (xs ++ ys)
all_both Q [] ys h k = k
all_both Q (x ∷ xs) ys h k = (h.0, all_both Q xs ys h.1 k)

-- something stands where such a token stands
abbrev pub PlaceHas : (Token → Type 0) → Pos → Type 0
PlaceHas P at = (t : Token) × (P t × (t.at ≡ at))

-- a line that stands somewhere in a unit: one that includes a file, or may say something of its own
abbrev pub tells_place : ItemKind → Bool
tells_place Pragma = true
tells_place k = is_include k

-- what is taken from an item has P, and such a line stands where such a token stands
pub record TakenHas (P : Token → Type 0) (evaluated : Bool) (i : ItemText) : Type 0 where
  pub toks : AllToks P (taken i.kind evaluated i.toks)
  pub at : tells_place i.kind ≡ true → PlaceHas P i.at

-- What keeps P of tokens: of the notes of a unit M is known, and of the kept files the table behind it.
pub record UnitRules (P : Token → Type 0) (M : Note → Type 0) (table : Table) : Type 0 where
  pub spaced : (t : Token) (gap : Bool) → P t → P (record t { gap = gap })
  pub moved : (t : Token) → P t → P (record t { direct = false })
  pub placed : (name t : Token) (gap : Bool) → P name → P t → P (put_in name gap t)
  pub items : (number k : ℕ) (evaluated : Bool) (before : ℕ) (file : SourceFile) (i : ItemText) → source_at table number ≡ Some file
      → slice_get (items_in file) k ≡ Some i → M (Reaches number k evaluated before) → TakenHas P evaluated i
  pub lines : (name : Token) (run : Bool) (before more : ℕ) → P name → name.text ≡ codes "__LINE__"
      → M (Happened run before (expansion.Replaced name line_macro.name more)) → P (line_number name)
  pub numbers : (name : Token) (n : ℕ) (run : Bool) (before : ℕ) → P name → nat_lt n most_bytes ≡ true
      → M (Happened run before (expansion.Counted (number_token name n))) → P (number_token name n)
  pub answers : (word : Token) (b : Bool) → P word → M (Answered (answer_for word b)) → P (answer_for word b)
  pub paths : (path : List ℕ) (name : Token) → P name → P (path_string path name)
  pub strings : (name : Token) (gap : Bool) (toks : List Token) (s : Token) → P name → AllToks P toks → stringize_of toks ≡ Ok s → P (put_in name gap s)
  pub pastes : (name x y z : Token) (run : Bool) (before : ℕ) → P name → P x → P y → glue_of x y ≡ Ok z
      → M (Happened run before (expansion.Pasted x y (put_in name x.gap z))) → P (put_in name x.gap z)

-- ---- what is true of notes

-- the next number of the unit, which GNU C has, in place of a name
abbrev pub IsNumber : Token → Type 0
IsNumber t = (name : Token) × (n : ℕ) × (t ≡ number_token name n)

abbrev pub HappenedSo : (Token → Type 0) → expansion.Note → Type 0
HappenedSo P (expansion.Replaced name m more) = P name
HappenedSo P (expansion.Linked x y) = P x × P y × AreAlike x y
HappenedSo P (expansion.Stringized toks s) = AllToks P toks × (stringize_of toks ≡ Ok s)
HappenedSo P (expansion.Pasted x y z) = P x × P y × P z × IsPasted x y z
HappenedSo P (expansion.Counted z) = P z × IsNumber z

-- the number that stands for an operand of `defined` (6.10.1 paragraph 4)
abbrev pub IsAnswer : Token → Type 0
IsAnswer t = (word : Token) × (b : Bool) × (t ≡ answer_for word b)

-- one of the two
abbrev pub IsBrought : Token → Type 0
IsBrought t = IsAnswer t ⊎ IsNumber t

abbrev pub NotedSo : (Token → Type 0) → Note → Type 0
NotedSo P (Reaches file item evaluated before) = Unit {0}
NotedSo P (Happened run before note) = HappenedSo P note
NotedSo P (Defined m before) = P m.name
NotedSo P (Undefined name before) = P name
NotedSo P (Tested name before) = P name
NotedSo P (Left name before) = P name
NotedSo P (Linked x y) = P x × P y × AreAlike x y
NotedSo P (Answered t) = P t × IsAnswer t
NotedSo P (Named toks) = AllToks P toks
NotedSo P (Entered at file before) = PlaceHas P at
NotedSo P (Exited at file before) = PlaceHas P at
NotedSo P (ReadOnce passed at file before) = PlaceHas P at

-- ---- what is true at each moment

-- an identifier that has it
abbrev pub NameHas : (Token → Type 0) → Token → Type 0
NameHas P t = P t × (is_name t ≡ true)

-- of the macro that stands under a name
pub record MacroHas (P : Token → Type 0) (name : List ℕ) (m : Definition) : Type 0 where
  pub body : AllToks P m.body
  pub own : links_name m.form ≡ true → NameHas P m.name × (m.name.text ≡ name)
  pub line : m.form ≡ form.Line → (m.name ≡ line_macro.name) × (name ≡ codes "__LINE__")

pub record StateHas (P : Token → Type 0) (s : State) : Type 0 where
  pub macros : (name : List ℕ) (m : Definition) → s.macros name ≡ Some m → MacroHas P name m
  pub names : AllIn (NameHas P) s.names

-- ---- steps

module _ (P : Token → Type 0) (M : Note → Type 0) (table : Table) where
  -- From such a state, and where this holds, the step gives a value with V, such a state and such notes,
  -- if what it leaves grows into the table. It only grows the table of the state.
  abbrev pub Done : {A : Type 0} → Type 0 → (A → Type 0) → State → Outcome A → Type 0
  Done pre V s (Ok d) =
      IsGrown s.table d.state.table × (pre → IsGrown d.state.table table → StateHas P s → AllIn M d.notes → V d.value × StateHas P d.state × AllIn (NotedSo P) d.notes)
  Done pre V s (Err found) = Unit {0}

  pub done_more : {A : Type 0} (pre pre2 : Type 0) (V W : A → Type 0) (s : State) (m : Outcome A) → (pre2 → pre) → ((a : A) → pre2 → V a → W a)
      → Done pre V s m → Done pre2 W s m
  done_more pre pre2 V W s (Ok d) h more k = (k.0, λ p reach has told. let r = k.1 (h p) reach has told in (more d.value p r.0, r.1, r.2))
  done_more pre pre2 V W s (Err found) h more k = tt

  -- what happened before
  pub done_noted : {A : Type 0} (pre : Type 0) (V : A → Type 0) (s : State) (notes : List Note) (m : Outcome A) → (pre → AllIn (NotedSo P) notes)
      → Done pre V s m → Done pre V s (noted notes m)
  done_noted pre V s notes (Ok d) so k = (
    k.0,
    λ p reach has told.
        let told2 = all_split M notes d.notes told in
        let r = k.1 p reach has told2.1 in
        (r.0, r.1, all_both (NotedSo P) notes d.notes (so p) r.2),
  )
  done_noted pre V s notes (Err found) so k = tt

  -- what happened before is known, and tells more of what is needed
  pub done_told : {A : Type 0} (pre pre2 : Type 0) (V : A → Type 0) (s : State) (note : Note) (m : Outcome A) → NotedSo P note → (pre → M note → pre2)
      → Done pre2 V s m → Done pre V s (noted (note ∷ []) m)
  done_told pre pre2 V s note (Ok d) so more k = (
    k.0,
    λ p reach has told.
        let r = k.1 (more p told.0) reach has told.1 in
        (r.0, r.1, (so, r.2)),
  )
  done_told pre pre2 V s note (Err found) so more k = tt

  -- one step behind another
  behind_done : {A B : Type 0} (pre : Type 0) (V : A → Type 0) (W : B → Type 0) (s : State) (d : Did A) (m : Outcome B)
      → Done pre V s (Ok d) → Done (pre × V d.value) W d.state m → Done pre W s (noted d.notes m)
  behind_done pre V W s d (Ok e) h k = (
    grown_trans s.table d.state.table e.state.table h.0 k.0,
    λ p reach has told.
        let told2 = all_split M d.notes e.notes told in
        let first = h.1 p (grown_trans d.state.table e.state.table table k.0 reach) has told2.0 in
        let second = k.1 (p, first.0) reach first.1 told2.1 in
        (second.0, second.1, all_both (NotedSo P) d.notes e.notes first.2 second.2),
  )
  behind_done pre V W s d (Err found) h k = tt

  pub done_onward : {A B : Type 0} (pre : Type 0) (V : A → Type 0) (W : B → Type 0) (s : State) (m : Outcome A) (next : A → State → Outcome B)
      → Done pre V s m → ((a : A) (t : State) → Done (pre × V a) W t (next a t)) → Done pre W s (onward m next)
  done_onward pre V W s (Ok d) next h k = behind_done pre V W s d (next d.value d.state) h (k d.value d.state)
  done_onward pre V W s (Err found) next h k = tt

  pub done_cond : {A : Type 0} (pre : Type 0) (V : A → Type 0) (s : State) (b : Bool) (x y : Outcome A) → Done pre V s x → Done pre V s y → Done pre V s (cond b x y)
  done_cond pre V s true x y h k = h
  done_cond pre V s false x y h k = k

  -- a test that is passed
  pub done_test : {A : Type 0} (pre : Type 0) (V : A → Type 0) (s : State) (b : Bool) (found : Fault) (m : Outcome A) → Done pre V s m → Done pre V s (cond b (Err found) m)
  done_test pre V s true found m k = tt
  done_test pre V s false found m k = k

  -- a value, where nothing happens
  pub done_only : {A : Type 0} (pre : Type 0) (V : A → Type 0) (s : State) (a : A) → (pre → V a) → Done pre V s (only a s)
  done_only pre V s a h = (grown_refl s.table, λ p reach has told. (h p, has, tt))
