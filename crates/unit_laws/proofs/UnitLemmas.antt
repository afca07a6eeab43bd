-- Units: what is true of what they give.
use Rattle.std.proofs.Common.{◌≡◌, ℕ, ◌-◌, Bool, true, false, cond, List, ◌++◌, Option, Some, None, Ok, refl, subst, codes}
use Rattle.std.specs.Str.{bytes_eq}
use Rattle.std.proofs.lemmas.Option.{none-some, same_Some}
use Rattle.std.proofs.lemmas.Slice.Eq.{bytes_eq-Decides}
use Rattle.cs_base.specs.Token.{Token}
use Rattle.cs_base.specs.Units.{UnitValue, is_gnu}
use Rattle.lexer.specs.FileText.{file_text}
use Rattle.macro_body.specs.declared.definitions.Definition.{Definition}
use Rattle.macro_body.specs.Defining.{line_macro, file_macro, counter_macro, standard_macros, first_macros}
use Rattle.macro_body.specs.Live.{no_macro, with_macro}
use Rattle.source_files.specs.Limits.{the_limits}
use Rattle.source_files.specs.Faults.{first_place}
use Rattle.source_files.specs.Files.{Source, Table, Carried, asked}
use Rattle.unit_steps.specs.Notes.{Note}
use Rattle.unit_steps.specs.State.{Context, context, State, Did, Outcome, only, onward}
use Rattle.include_tree.specs.OpeningStep.{open_file}
use Rattle.include_tree.specs.Walk.{file_items}
use Rattle.include_tree.specs.Unit.{pseudo_path, first_state, outer_file, main_file, both_files, unit_outcome}
use Rattle.source_files.proofs.TableLemmas.{grown_refl, widens_asked}
use Rattle.expansion_laws.proofs.ListLemmas.{AllToks}
use Rattle.unit_laws.proofs.DoneLemmas.{AllIn, UnitRules, NotedSo, MacroHas, Done, done_more, done_onward}
use Rattle.unit_laws.proofs.IncludeLemmas.{FileIs, grown_done, open_done}
use Rattle.unit_laws.proofs.WalkLemmas.{both_done, files_done}

-- the first macros
cond_line : (P : Token → Type 0) (name : List ℕ) (m : Definition) (b : Bool) → (b ≡ true → name ≡ codes "__LINE__") → cond b (Some line_macro) None ≡ Some m → MacroHas P name m
cond_line P name m true same e =
    subst (MacroHas P name) (same_Some line_macro m e) (record { body = tt; own = λ links. absurd (cc); line = λ is. (refl, same refl) })
cond_line P name m false same e = absurd (none-some m e)

cond_file : (P : Token → Type 0) (name : List ℕ) (m : Definition) (b : Bool) (old : Option Definition) → (old ≡ Some m → MacroHas P name m) → cond b (Some file_macro) old ≡ Some m → MacroHas P name m
cond_file P name m true old there e =
    subst (MacroHas P name) (same_Some file_macro m e) (record { body = tt; own = λ links. absurd (cc); line = λ is. absurd (cc) })
cond_file P name m false old there e = there e

cond_counter : (P : Token → Type 0) (name : List ℕ) (m : Definition) (b : Bool) (old : Option Definition) → (old ≡ Some m → MacroHas P name m) → cond b (Some counter_macro) old ≡ Some m
    → MacroHas P name m
cond_counter P name m true old there e =
    subst (MacroHas P name) (same_Some counter_macro m e) (record { body = tt; own = λ links. absurd (cc); line = λ is. absurd (cc) })
cond_counter P name m false old there e = there e

standard_macros_have : (P : Token → Type 0) (name : List ℕ) (m : Definition) → standard_macros name ≡ Some m → MacroHas P name m
standard_macros_have P name m e =
    cond_file P name m (bytes_eq name file_macro.name.text) (with_macro line_macro no_macro name)
    (λ k. cond_line P name m (bytes_eq name line_macro.name.text) (λ same. (bytes_eq-Decides name line_macro.name.text).0 same) k) e

first_macros_have : (P : Token → Type 0) (gnu : Bool) (name : List ℕ) (m : Definition) → first_macros gnu name ≡ Some m → MacroHas P name m
first_macros_have P false name m e = standard_macros_have P name m e
first_macros_have P true name m e =
    cond_counter P name m (bytes_eq name counter_macro.name.text) (standard_macros name) (λ k. standard_macros_have P name m k) e

module _ (P : Token → Type 0) (M : Note → Type 0) (table : Table) (rules : UnitRules P M table) (source : Source) (unit : UnitValue) (earlier : ℕ) where
  outer_done : (pre : Type 0) (path : List ℕ) (s : State) → Done P M table pre (AllToks P) s (outer_file (context source file_text unit the_limits earlier) path s)
  outer_done pre path s =
      let cx : Context = context source file_text unit the_limits earlier in
      done_onward P M table pre (FileIs table) (AllToks P) s (open_file cx (first_place path) path s) (file_items cx (cx.limits.open_files - 1))
      (done_more P M table (Unit {0}) pre (FileIs table) (FileIs table) s (open_file cx (first_place path) path s) (λ p. tt) (λ a p h. h) (open_done P M table rules source unit earlier (first_place path) path s))
      (λ f t. done_more P M table (FileIs table f) (pre × FileIs table f) (AllToks P) (AllToks P) t (file_items cx (cx.limits.open_files - 1) f t) (λ p. p.1) (λ a p h. h)
      (files_done P M table rules source unit earlier (cx.limits.open_files - 1) f t))

  main_done : (pre : Type 0) (path : List ℕ) (s : State) → Done P M table pre (AllToks P) s (main_file (context source file_text unit the_limits earlier) path s)
  main_done pre path s =
      grown_done P M table rules source unit earlier pre (AllToks P) s (asked source path s.table)
      (outer_file (context source file_text unit the_limits earlier) path (record s { table = asked source path s.table })) (widens_asked source path s.table).grown
      (outer_done pre path (record s { table = asked source path s.table }))

  both_files_done : (defines path : List ℕ) (s : State) → Done P M table (Unit {0}) (AllToks P) s (both_files (context source file_text unit the_limits earlier) defines path s)
  both_files_done defines path s =
      let cx : Context = context source file_text unit the_limits earlier in
      done_onward P M table (Unit {0}) (AllToks P) (AllToks P) s (outer_file cx defines s) (λ toks t. onward (main_file cx path t) (λ more u. only (toks ++ more) u))
      (outer_done (Unit {0}) defines s)
      (λ toks t. both_done P M table rules source unit earlier (Unit {0} × AllToks P toks) toks t (main_file cx path t) (λ p. p.1) (main_done (Unit {0} × AllToks P toks) path t))

-- A unit without a fault: where the rules hold of its notes and of the table behind it, its tokens have P, and
-- those of its notes.
pub unit_has : (P : Token → Type 0) (M : Note → Type 0) (source : Source) (number : ℕ) (unit : UnitValue) (before : Carried) (d : Did (List Token))
    → unit_outcome the_limits file_text source number unit before ≡ Ok d → UnitRules P M d.state.table → AllIn M d.notes → AllToks P d.value × AllIn (NotedSo P) d.notes
unit_has P M source number unit before d is rules told =
    let s : State = first_state the_limits number unit before.table in
    let done : Done P M d.state.table (Unit {0}) (AllToks P) s (Ok d) =
    subst (λ (o : Outcome (List Token)). Done P M d.state.table (Unit {0}) (AllToks P) s o) is (both_files_done P M d.state.table rules source unit before.toks (pseudo_path number unit before.table) unit.path s) in
    let r = done.1 tt (grown_refl d.state.table) (record { macros = first_macros_have P (is_gnu unit.standard); names = tt }) told in
    (r.0, r.2)
