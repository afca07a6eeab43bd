-- What is so of a function's lists and names where nothing stands against a new order (this project's, over ISO/IEC 9899:1999,
-- 5.1.1.2, 6.2.1, 6.5.2.2, 6.7.5.3 and 6.10.3).
use Rattle.std.specs.Prelude.{ℕ, ◌≡◌, ◌<◌, ◌+◌, ◌&&◌, ◌||◌, true, false, List, Some, length, slice_index_or}
use Rattle.std.specs.List.{list_any, remove}
use Rattle.cs_base.specs.declared.positions.Part.{Part}
use Rattle.cs_base.specs.declared.positions.Pos.{Pos}
use Rattle.c_types.specs.declared.lists.List.{List as NameList}
use Rattle.c_types.specs.declared.parameters.ParameterList.{ParameterList}
use Rattle.c_types.specs.Parameters.{parameters_in}
use Rattle.scope_bind.specs.declared.bound.Name.{Name}
use Rattle.unit_steps.specs.declared.events.Event.{Event}
use Rattle.unit_laws.specs.UnitLinks.{IsIn}
use Rattle.source_files.specs.Files.{Source}
use Rattle.ws_file.specs.Workspace.{WorkspaceValue}
use Rattle.analysis.specs.Analysis.{UnitAnalysis, AnalysisValue}
use Rattle.analysis.specs.Places.{is_read_only}
use Rattle.template_rules.specs.Functions.{origin_of, holds_at, names_function, declares_function}
use Rattle.template_rules.specs.LineOffences.{odd_positions, is_odd_by}
use Rattle.template_rules.specs.Lists.{parameters_at, parameters_of, arguments_of, separators, each_mark, count_of}
use Rattle.template_rules.specs.MacroOffences.{is_direct, is_mark_everywhere, is_line_number}
use Rattle.template_rules.specs.Marks.{is_between, is_across}
use Rattle.template_rules.specs.NameOffences.{has_prototype, is_callee}
use Rattle.template_rules.specs.ScopeOffences.{is_inside, declares_more, body_lists_in, is_spelled_as, is_use}
use Rattle.template_meaning.specs.Accepted.{IsAccepted}

-- the list belongs to a function that the class names
abbrev pub IsOwn : List Part → UnitAnalysis → NameList → Type 0
IsOwn members u l = names_function members u.text.toks u.bound.names l.name ≡ true

-- A list of so many items. It stands in a file that may be edited. No macro put in its name, its parentheses or a comma between its
-- items, and its name and its tokens from `(` to `)` were put out for one run. In each processing of this run, in whatever unit, a
-- list of the functions stands at the same positions. It has as many items as the first declarator has parameters. In it no number
-- of a line is put in, and no tag and no enumerator is declared. And no token of none of the other kinds stands in its lines.
pub record ListIsClear (a : AnalysisValue) (members : List Part) (u : UnitAnalysis) (items : ℕ) (l : NameList) : Type 0 where
  pub named : (p : Pos) × (origin_of u.text.toks l.name ≡ Some p)
  pub edited : (p : Pos) → origin_of u.text.toks l.begin ≡ Some p → is_read_only a.table a.workspace.readonly p.file ≡ false
  pub direct : is_direct u.text.toks l ≡ true
  pub one_run : is_across u.text.reached l ≡ false
  pub everywhere : each_mark (is_mark_everywhere members a u.text.toks u.text.reached l) l ≡ true
  pub many : items ≡ count_of a members
  pub lines : (e : Event) → IsIn u.text.events e → (is_line_number e.kind e.def e.name && is_between l.begin l.close e.before) ≡ false
  pub declared : (n : Name) → IsIn u.bound.names n → (declares_more u.text.toks n && is_inside l n.index) ≡ false
  pub odd : (p : Pos) → IsIn (odd_positions a.table) p → is_odd_by a.table u.text l p ≡ false

-- The parameter list of a declarator: and no identifier in an item that is spelled as the name of another parameter of the list is a
-- use of an ordinary identifier, or one that is a parameter only since it is no typedef name there.
pub record DeclaratorIsClear (a : AnalysisValue) (members : List Part) (u : UnitAnalysis) (l : NameList) : Type 0 where
  pub list : ListIsClear a members u (parameters_of (parameters_in u.tree.under) l.name) l
  pub apart : (p : ParameterList) (k i : ℕ) → parameters_at (parameters_in u.tree.under) l.name ≡ Some p → k < length l.commas + 1
      → slice_index_or (separators l) k 0 < i → i < slice_index_or (separators l) (k + 1) 0
      → (list_any (is_spelled_as u.text.toks i) (remove p.names k) && is_use u.bound.names u.bound.bare i) ≡ false

-- The argument list of a call: and no parameter list ends in it whose names a body begins with.
pub record CallIsClear (a : AnalysisValue) (members : List Part) (u : UnitAnalysis) (l : NameList) : Type 0 where
  pub list : ListIsClear a members u (arguments_of l) l
  pub bodies : list_any (is_inside l) (body_lists_in u.tree.under) ≡ false

-- A name: each declarator of a function has a parameter type list without `...`, and each identifier that holds a member declares
-- a function or is directly called.
pub record NameIsClear (members : List Part) (u : UnitAnalysis) (n : Name) : Type 0 where
  pub prototype : declares_function members u.text.toks u.bound.names n ≡ true → has_prototype (parameters_in u.tree.under) n.index ≡ true
  pub used : holds_at members u.text.toks n.index ≡ true
      → (declares_function members u.text.toks u.bound.names n || is_callee u.bound.calls n.index) ≡ true

-- So it is with the lists and the names of a unit.
pub record UnitIsClear (a : AnalysisValue) (members : List Part) (u : UnitAnalysis) : Type 0 where
  pub declarators : (l : NameList) → IsIn u.bound.declarators l → IsOwn members u l → DeclaratorIsClear a members u l
  pub calls : (l : NameList) → IsIn u.bound.calls l → IsOwn members u l → CallIsClear a members u l
  pub names : (n : Name) → IsIn u.bound.names n → NameIsClear members u n

-- The law: so it is with each unit, where no offence stands.
abbrev pub UnitsAreClear : Type 0
UnitsAreClear = (source : Source) (ws : WorkspaceValue) (a : AnalysisValue) (members : List Part) (order : List ℕ) → IsAccepted source ws a members order
    → (u : UnitAnalysis) → IsIn a.units u → UnitIsClear a members u
