-- Units over the edited files.
use Rattle.std.proofs.Common.{◌≡◌, ℕ, ◌-◌, Bool, true, false, cond, List, [], ◌∷◌, ◌++◌, length, map, codes, Option, Some, None, Ok, refl, ap, sym, subst, ◌∙◌}
use Rattle.std.specs.List.{list_all}
use Rattle.std.specs.Option.{is_none}
use Rattle.std.specs.Str.{bytes_eq}
use Rattle.std.proofs.lemmas.Option.{none-some, same_Some}
use Rattle.std.proofs.lemmas.Slice.Eq.{bytes_eq-Decides}
use Rattle.cs_base.specs.declared.positions.Pos.{Pos}
use Rattle.cs_base.specs.declared.tokens.Kind.TheVariants.{Other}
use Rattle.cs_base.specs.Padding.{padded}
use Rattle.cs_base.specs.Token.{Token, token}
use Rattle.cs_base.specs.Units.{UnitValue, is_gnu, defines_of}
use Rattle.lexer.specs.FileText.{file_text}
use Rattle.macro_body.specs.declared.definitions.Form.{Form}
use Rattle.macro_body.specs.declared.definitions.Form.TheVariants as form
use Rattle.macro_body.specs.declared.definitions.Definition.{Definition}
use Rattle.macro_body.specs.Defining.{first_definition, line_macro, file_macro, counter_macro, standard_macros, first_macros}
use Rattle.macro_body.specs.Macro.{Table as Macros}
use Rattle.macro_expand.specs.Renaming.{renamed_macro, KeepsBody, Keeps}
use Rattle.source_files.specs.Faults.{first_place}
use Rattle.source_files.specs.Files.{Source, Made, entry, Table, SourceFile, Carried, defines_path, made_path, asked}
use Rattle.source_files.specs.Tables.{IsGrown}
use Rattle.source_files.specs.Limits.{the_limits}
use Rattle.include_tree.specs.OpeningStep.{open_file}
use Rattle.include_tree.specs.GivenFiles.{unit_context}
use Rattle.unit_steps.specs.State.{Context, State, Did, did, Outcome, only, onward}
use Rattle.include_tree.specs.Unit.{path_or_own, pseudo_path, table_or_more, with_defines, first_state, outer_file, main_file, both_files, unit_outcome}
use Rattle.include_tree.specs.Walk.{file_items}
use Rattle.include_tree.proofs.DefinesLemmas.{with_defines_has}
use Rattle.source_files.proofs.TableLemmas.{grown_refl, grown_trans, widens_asked}
use Rattle.edited_unit_laws.specs.Lines.{Each, KeepsToken}
use Rattle.edited_unit_laws.specs.Keeping.{Change, KeepsName, KeepsNames, KeepsFiles}
use Rattle.edited_unit_laws.specs.Renamed.{renamed_happening}
use Rattle.edited_unit_laws.specs.Steps.{KeepsState, moved, GoesAlike, Follows, IsPutOutRenamed, OpensAlike, Grows}
use Rattle.edited_unit_laws.specs.Units.{UnitsAreRenamed}
use Rattle.edited_unit_laws.proofs.FollowLemmas.{later-grows, onward-grows, alike-onward, alike-reach}
use Rattle.edited_unit_laws.proofs.OpenLemmas.{open-alike, open-grows, alike-table}
use Rattle.edited_unit_laws.proofs.TableLemmas.{push-edited, made-edited, asked-edited, grown-push}
use Rattle.edited_unit_laws.proofs.WalkLemmas.{both-alike, files-alike, files-grow}
use Rattle.analysis.specs.Changed.{edited_table}

-- ---- the macros that each unit begins with (6.10.8)

-- a first macro with another name
abbrev macro_with : Form → List ℕ → List (Option Pos) → Pos → Definition
macro_with form text origins at = record { name = token Other text origins false at 0 false; form = form; params = []; variadic = false; named = false; body = []; gnu = false }

macro-still : (c : Change) → KeepsNames c → (form : Form) (text : List ℕ) → list_all is_none (padded (length text) []) ≡ true
    → renamed_macro c.renaming (first_definition form text) ≡ first_definition form text
macro-still c names form text none =
    let origins : List (Option Pos) = padded (length text) [] in
    let at : Pos = record { file = 0; at = 0 } in
    let same = names.untraced origins text none in
    ap (λ (x : List ℕ). macro_with form x (c.renaming.trace origins text) (c.renaming.move at)) same.0
    ∙ ap (λ (x : List (Option Pos)). macro_with form text x (c.renaming.move at)) same.1
    ∙ ap (macro_with form text origins) (names.still 0)

-- what is true of a first macro
record FirstIs (c : Change) (name : List ℕ) (m : Definition) : Type 0 where
  keeps : KeepsName c name
  still : renamed_macro c.renaming m ≡ m
  empty : m.body ≡ []

first-by : (c : Change) → KeepsNames c → (name : List ℕ) (m : Definition) (a b : Bool) → bytes_eq name (codes "__FILE__") ≡ a → bytes_eq name (codes "__LINE__") ≡ b
    → cond a (Some file_macro) (cond b (Some line_macro) None) ≡ Some m → FirstIs c name m
first-by c names name m true b fa lb e =
    subst (λ (d : Definition). FirstIs c name d) (same_Some file_macro m e)
    (record { keeps = subst (λ (n : List ℕ). KeepsName c n) (sym ((bytes_eq-Decides name (codes "__FILE__")).0 fa)) names.file; still = macro-still c names form.File (codes "__FILE__") refl; empty = refl })
first-by c names name m false true fa lb e =
    subst (λ (d : Definition). FirstIs c name d) (same_Some line_macro m e)
    (record { keeps = subst (λ (n : List ℕ). KeepsName c n) (sym ((bytes_eq-Decides name (codes "__LINE__")).0 lb)) names.line; still = macro-still c names form.Line (codes "__LINE__") refl; empty = refl })
first-by c names name m false false fa lb e = absurd (none-some m e)

counter-by : (c : Change) → KeepsNames c → (name : List ℕ) (m : Definition) (b : Bool) → bytes_eq name (codes "__COUNTER__") ≡ b
    → cond b (Some counter_macro) (standard_macros name) ≡ Some m → FirstIs c name m
counter-by c names name m true cb e =
    subst (λ (d : Definition). FirstIs c name d) (same_Some counter_macro m e)
    (record { keeps = subst (λ (n : List ℕ). KeepsName c n) (sym ((bytes_eq-Decides name (codes "__COUNTER__")).0 cb)) names.counter; still = macro-still c names form.Counter (codes "__COUNTER__") refl; empty = refl })
counter-by c names name m false cb e = first-by c names name m (bytes_eq name (codes "__FILE__")) (bytes_eq name (codes "__LINE__")) refl refl e

first-is : (c : Change) → KeepsNames c → (gnu : Bool) (name : List ℕ) (m : Definition) → first_macros gnu name ≡ Some m → FirstIs c name m
first-is c names false name m e = first-by c names name m (bytes_eq name (codes "__FILE__")) (bytes_eq name (codes "__LINE__")) refl refl e
first-is c names true name m e = counter-by c names name m (bytes_eq name (codes "__COUNTER__")) refl e

no-body : (c : Change) (m : Definition) (body : List Token) → body ≡ [] → KeepsBody c.occurring c.renaming m body × Each (KeepsToken c.renaming) body
no-body c m [] e = (tt, tt)
no-body c m (t ∷ ts) e = absurd (cc)

first-keeps : (c : Change) → KeepsNames c → (gnu : Bool) → Keeps c.occurring c.renaming (first_macros gnu) (first_macros gnu)
first-keeps c names gnu = record {
  stands = λ name m e.
      let f = first-is c names gnu name m e in
      ap (first_macros gnu) f.keeps.stays ∙ e ∙ ap (λ (d : Definition). Some d) (sym f.still);
  no_other = λ name m e. let f = first-is c names gnu name m e in (name, m, e, sym f.keeps.stays);
  apart = λ x y m d ex ey e.
      let f = first-is c names gnu x m ex in
      let g = first-is c names gnu y d ey in
      sym f.keeps.stays ∙ e ∙ g.keeps.stays;
  spelled_like = λ t name m here named e k.
      let f = first-is c names gnu name m e in
      f.keeps.alone t here named (k ∙ f.keeps.stays);
  body = λ name m e. let f = first-is c names gnu name m e in (no-body c m m.body f.empty).0;
  signs = names.signs;
  others = names.others;
  untraced = names.untraced;
  numbers = names.numbers;
}

-- the macros with which a unit begins
abbrev first_of : UnitValue → Macros
first_of unit = first_macros (is_gnu unit.standard)

first-kept : (c : Change) → KeepsNames c → (number : ℕ) (unit : UnitValue) (t : Table) → KeepsState c (first_of unit) (first_state the_limits number unit t)
first-kept c names number unit t = record {
  macros = first-keeps c names (is_gnu unit.standard);
  bodies = λ name m e. let f = first-is c names (is_gnu unit.standard) name m e in (no-body c m m.body f.empty).1;
  names = tt;
}

more-edited : (c : Change) (number : ℕ) (unit : UnitValue) (t : Table) (found : Option (List ℕ))
    → table_or_more found number unit (edited_table c.editing t) ≡ edited_table c.editing (table_or_more found number unit t)
more-edited c number unit t None = sym (push-edited c.editing 0 (defines_path number) (Made (defines_of unit)) t)
more-edited c number unit t (Some path) = refl

defines-edited : (c : Change) (number : ℕ) (unit : UnitValue) (t : Table) → with_defines number unit (edited_table c.editing t) ≡ edited_table c.editing (with_defines number unit t)
defines-edited c number unit t =
    ap (λ (found : Option (List ℕ)). table_or_more found number unit (edited_table c.editing t)) (made-edited c.editing 0 (defines_of unit) t)
    ∙ more-edited c number unit t (made_path (defines_of unit) t)

first-moved : (c : Change) (number : ℕ) (unit : UnitValue) (t : Table) → first_state the_limits number unit (edited_table c.editing t) ≡ moved c (first_of unit) (first_state the_limits number unit t)
first-moved c number unit t =
    ap (λ (x : Table). record (moved c (first_of unit) (first_state the_limits number unit t)) { table = x }) (defines-edited c number unit t)

pseudo-edited : (c : Change) (number : ℕ) (unit : UnitValue) (t : Table) → pseudo_path number unit (edited_table c.editing t) ≡ pseudo_path number unit t
pseudo-edited c number unit t = ap (λ (found : Option (List ℕ)). path_or_own found number) (made-edited c.editing 0 (defines_of unit) t)

-- ---- the files of a unit

-- the files that may be open inside the first
abbrev room : ℕ
room = the_limits.open_files - 1

outer-grows : (old : Source) (unit : UnitValue) (earlier : ℕ) (path : List ℕ) (s : State) → Grows s (outer_file (unit_context old unit earlier) path s)
outer-grows old unit earlier path s =
    onward-grows s (open_file (unit_context old unit earlier) (first_place path) path s) (file_items (unit_context old unit earlier) room)
    (open-grows old unit earlier (first_place path) path s) (λ f t. files-grow (unit_context old unit earlier) room f t)

-- the state once the unit's file is asked for
abbrev at_main : Source → List ℕ → State → State
at_main old path s = record s { table = asked old path s.table }

main-grows : (old : Source) (unit : UnitValue) (earlier : ℕ) (path : List ℕ) (s : State) → Grows s (main_file (unit_context old unit earlier) path s)
main-grows old unit earlier path s =
    later-grows s (at_main old path s) (outer_file (unit_context old unit earlier) path (at_main old path s)) (widens_asked old path s.table).grown
    (outer-grows old unit earlier path (at_main old path s))

rest-grows : (old : Source) (unit : UnitValue) (earlier : ℕ) (path : List ℕ) (toks : List Token) (s : State)
    → Grows s (onward (main_file (unit_context old unit earlier) path s) (λ more u. only (toks ++ more) u))
rest-grows old unit earlier path toks s =
    onward-grows s (main_file (unit_context old unit earlier) path s) (λ more u. only (toks ++ more) u) (main-grows old unit earlier path s) (λ more u. grown_refl u.table)

both-grow : (old : Source) (unit : UnitValue) (earlier : ℕ) (defines path : List ℕ) (s : State) → Grows s (both_files (unit_context old unit earlier) defines path s)
both-grow old unit earlier defines path s =
    onward-grows s (outer_file (unit_context old unit earlier) defines s) (λ toks t. onward (main_file (unit_context old unit earlier) path t) (λ more u. only (toks ++ more) u))
    (outer-grows old unit earlier defines s) (λ toks t. rest-grows old unit earlier path toks t)

-- the table of a unit only grows
pub unit-grows : (old : Source) (number : ℕ) (unit : UnitValue) (before : Carried) (d : Did (List Token)) → unit_outcome the_limits file_text old number unit before ≡ Ok d
    → IsGrown before.table d.state.table
unit-grows old number unit before d is =
    let s : State = first_state the_limits number unit before.table in
    let grown : IsGrown s.table d.state.table =
    subst (λ (m : Outcome (List Token)). Grows s m) is (both-grow old unit before.toks (pseudo_path number unit before.table) unit.path s) in
    grown_trans before.table s.table d.state.table
    (with_defines_has (IsGrown before.table) number unit before.table (grown_refl before.table) (grown-push before.table (entry (defines_path number) (Made (defines_of unit))))) grown

module _ (c : Change) (names : KeepsNames c) (source : Source) (files : KeepsFiles c source) (old : Source) (unit : UnitValue) (earlier : ℕ) where
  abbrev ctx : Context
  ctx = unit_context old unit earlier

  abbrev ctx2 : Context
  ctx2 = unit_context source unit earlier

  outer-alike : (path : List ℕ) (macros : Macros) (s : State) → GoesAlike c (IsPutOutRenamed c) macros s (outer_file ctx path s) (outer_file ctx2 path (moved c macros s))
  outer-alike path macros s =
      alike-onward c (OpensAlike c) (IsPutOutRenamed c) macros s (open_file ctx (first_place path) path s) (open_file ctx2 (first_place path) path (moved c macros s))
      (file_items ctx room) (file_items ctx2 room) (λ f t. files-grow ctx room f t)
      (open-alike c source files old source unit earlier (first_place path) (first_place path) path macros s)
      (λ f new t macros2 v.
      subst (λ (g : SourceFile). GoesAlike c (IsPutOutRenamed c) macros2 t (file_items ctx room f t) (file_items ctx2 room g (moved c macros2 t))) (sym v.1)
      (files-alike c names source files old unit earlier room f v.0 macros2 t))

  main-alike : (path : List ℕ) (macros : Macros) (s : State) → GoesAlike c (IsPutOutRenamed c) macros s (main_file ctx path s) (main_file ctx2 path (moved c macros s))
  main-alike path macros s =
      alike-reach c (IsPutOutRenamed c) macros s (asked old path s.table) (outer_file ctx path (at_main old path s)) (main_file ctx2 path (moved c macros s)) (outer-grows old unit earlier path (at_main old path s))
      (λ reach.
      subst (λ (t : Table). GoesAlike c (IsPutOutRenamed c) macros s (outer_file ctx path (at_main old path s)) (outer_file ctx2 path (record (moved c macros s) { table = t })))
      (sym (asked-edited old source c.editing path s.table c.files reach files.found))
      (alike-table c source files (IsPutOutRenamed c) macros s (asked old path s.table) (outer_file ctx path (at_main old path s)) (outer_file ctx2 path (moved c macros (at_main old path s)))
      (outer-alike path macros (at_main old path s))))

  files_of-alike : (defines path : List ℕ) (macros : Macros) (s : State) → GoesAlike c (IsPutOutRenamed c) macros s (both_files ctx defines path s) (both_files ctx2 defines path (moved c macros s))
  files_of-alike defines path macros s =
      alike-onward c (IsPutOutRenamed c) (IsPutOutRenamed c) macros s (outer_file ctx defines s) (outer_file ctx2 defines (moved c macros s))
      (λ toks t. onward (main_file ctx path t) (λ more u. only (toks ++ more) u)) (λ toks t. onward (main_file ctx2 path t) (λ more u. only (toks ++ more) u))
      (λ toks t. rest-grows old unit earlier path toks t)
      (outer-alike defines macros s)
      (λ toks toks2 t macros2 v. both-alike c names source files old unit earlier toks toks2 macros2 t (main_file ctx path t) (main_file ctx2 path (moved c macros2 t)) v (main-alike path macros2 t))

pub units_are_renamed : UnitsAreRenamed
units_are_renamed = λ c old new number unit before d is reach keeps.
    let s : State = first_state the_limits number unit before.table in
    let cx2 : Context = unit_context new unit before.toks in
    let path : List ℕ = pseudo_path number unit before.table in
    let all = files_of-alike c keeps.names new keeps.files old unit before.toks path unit.path (first_of unit) s in
    let done : GoesAlike c (IsPutOutRenamed c) (first_of unit) s (Ok d) (both_files cx2 path unit.path (moved c (first_of unit) s)) =
    subst (λ (m : Outcome (List Token)). GoesAlike c (IsPutOutRenamed c) (first_of unit) s m (both_files cx2 path unit.path (moved c (first_of unit) s))) is all in
    let f : Follows c (IsPutOutRenamed c) d (both_files cx2 path unit.path (moved c (first_of unit) s)) = done reach (first-kept c keeps.names number unit before.table) keeps.notes in (
      f.macros,
      ap (λ (p : List ℕ). both_files cx2 p unit.path (first_state the_limits number unit (edited_table c.editing before.table))) (pseudo-edited c number unit before.table)
          ∙ ap (both_files cx2 path unit.path) (first-moved c number unit before.table) ∙ f.is
          ∙ ap (λ (ts : List Token). Ok (did ts (map (renamed_happening c.renaming) d.notes) (moved c f.macros d.state))) f.goes_with,
    )
