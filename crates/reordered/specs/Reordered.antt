-- What a workspace is behind a new order of the parameters of a function, on one page (this project's, over ISO/IEC
-- 9899:1999, 5.1.1.2 phases 1 to 7, 6.2.1, 6.5.2.2 and 6.7.5.3): its files, and each unit's tokens, tree and names. Nothing
-- else has to be read to see what "reordered" means but the words of lists among elements (`list_cuts`) and of trees
-- (`reordered_tree_laws`) in which these stand in another order.
use Rattle.std.specs.Prelude.{ℕ, ◌≡◌, ◌<◌, ◌==◌, ◌&&◌, ◌||◌, Bool, Some, List, length, map, Ok, slice_get}
use Rattle.std.specs.List.{list_any}
use Rattle.std.specs.Option.{option_map, option_map_or}
use Rattle.cs_base.specs.declared.positions.Part.{Part}
use Rattle.cs_base.specs.declared.tokens.Kind.{Kind}
use Rattle.cs_base.specs.Token.{Token}
use Rattle.analysis.specs.Below.c_types.declared.lists.List.{List as NameList}
use Rattle.analysis.specs.Below.scope_bind.declared.bound.Name.{Name}
use Rattle.analysis.specs.Below.scope_bind.Names.{entity_at, declares_at, kind_at, linkage_at}
use Rattle.analysis.specs.Below.lexer.Tokens.{tokens_of}
use Rattle.analysis.specs.Below.source_files.Files.{Source}
use Rattle.ws_file.specs.Workspace.{WorkspaceValue}
use Rattle.analysis.specs.Analysis.{UnitAnalysis, AnalysisValue, analysis_of}
use Rattle.analysis.specs.Changed.{edited_table, denote_one}
use Rattle.list_cuts.specs.Cuts.{Cut, arranged, moved}
use Rattle.list_cuts.specs.Spans.{all_rearranged}
use Rattle.template_rules.specs.FileLists.{all_found, lists_in, items_of}
use Rattle.template_rules.specs.Functions.{names_function}
use Rattle.reordered_tree_laws.specs.Cuts.{cut_in}
use Rattle.reordered_tree_laws.specs.Reordered.{reordered}

-- ---- the lists in a unit

-- the list belongs to a name of a function that the class names, and token k is its `(`
abbrev pub begins_with : List Part → List Token → List Name → ℕ → NameList → Bool
begins_with members toks names k l = names_function members toks names l.name && (l.begin == k)

-- token k of a unit is the `(` of a list of such a function: of a parameter list of a declarator, or of the arguments of a call
abbrev pub begins_list : List Part → UnitAnalysis → ℕ → Bool
begins_list members u k =
    list_any (begins_with members u.text.toks u.bound.names k) u.bound.declarators
    || list_any (begins_with members u.text.toks u.bound.names k) u.bound.calls

-- where the lists stand among the tokens of the unit
abbrev pub unit_cut : List Part → UnitAnalysis → Cut
unit_cut members u = cut_in (begins_list members u) u.tree

-- the place to which token k of the unit goes
abbrev pub moved_in : List Part → List ℕ → UnitAnalysis → ℕ → ℕ
moved_in members order u k = moved order (unit_cut members u) (length u.text.toks) k

-- ---- a unit

-- what translation sees of a token (6.4): its kind and its spelling
pub record Plain : Type 0 where
  pub kind : Kind
  pub text : List ℕ

abbrev pub plain : Token → Plain
plain t = record { kind = t.kind; text = t.text }

-- Two bindings of identifiers go together: token k denotes there, at its new place, what it denotes here (6.2.1), and what it
-- denotes is of the same kind and linkage (6.2.2) and is declared at the same tokens.
pub record NamesMove (move : ℕ → ℕ) (count : ℕ) (old new : List Name) : Type 0 where
  pub entities : (k : ℕ) → k < count → entity_at new (move k) ≡ option_map move (entity_at old k)
  pub declares : (k : ℕ) → k < count → declares_at new (move k) ≡ declares_at old k
  pub kinds : (k : ℕ) → k < count → kind_at new (move k) ≡ kind_at old k
  pub linkages : (k : ℕ) → k < count → linkage_at new (move k) ≡ linkage_at old k

-- A unit, reordered: its tokens are those that it had, with the items of the lists in the new order; they are read by the same
-- standard to the tree that it had, reordered (Annex A); and its names denote what they denoted.
pub record IsReorderedUnit (members : List Part) (order : List ℕ) (old new : UnitAnalysis) : Type 0 where
  pub standard : new.standard ≡ old.standard
  pub tokens : map plain new.text.toks ≡ arranged order (unit_cut members old) (map plain old.text.toks)
  pub tree : new.tree ≡ reordered order (begins_list members old) old.tree
  pub names : NamesMove (moved_in members order old) (length old.text.toks) old.bound.names new.bound.names

-- ---- the files

-- the bytes of a file with the items of the lists in the new order, by its number
abbrev pub reordered_bytes : List Part → List ℕ → AnalysisValue → ℕ → List ℕ → List ℕ
reordered_bytes members order a number bytes =
    all_rearranged order (map (items_of bytes (tokens_of number bytes)) (lists_in (all_found members a) number)) bytes

-- ---- the workspace

-- the place to which token k of unit n goes, both counted from 0
abbrev pub moved_at : List Part → List ℕ → AnalysisValue → ℕ → ℕ → ℕ
moved_at members order a n k = option_map_or (λ u. moved_in members order u k) (slice_get a.units n) k

-- Two identifiers of external linkage, of two units of one project or of one unit, denote one entity exactly where they did
-- (6.2.2 paragraph 2).
abbrev pub ExternalNamesMove : List Part → List ℕ → AnalysisValue → AnalysisValue → Type 0
ExternalNamesMove members order old new =
    (m j n k : ℕ) → denote_one new m (moved_at members order old m j) n (moved_at members order old n k) ≡ denote_one old m j n k

-- An analysis, reordered: each unit is, the files that hold lists have their new bytes and all else is as it was, and names of
-- units of one project denote one entity where they did.
pub record IsReorderedAnalysis (members : List Part) (order : List ℕ) (old new : AnalysisValue) : Type 0 where
  pub workspace : new.workspace ≡ old.workspace
  pub many : length new.units ≡ length old.units
  pub units : (n : ℕ) (u v : UnitAnalysis) → slice_get old.units n ≡ Some u → slice_get new.units n ≡ Some v → IsReorderedUnit members order u v
  pub table : new.table ≡ edited_table (reordered_bytes members order old) old.table
  pub external : ExternalNamesMove members order old new

-- The workspace has the analysis that it had, reordered, over these files.
abbrev pub AnalysisIsReordered : Source → WorkspaceValue → AnalysisValue → List Part → List ℕ → Type 0
AnalysisIsReordered now ws a members order =
    (b : AnalysisValue) × (analysis_of now ws ≡ Ok b) × IsReorderedAnalysis members order a b
