-- The forms of nodes that binding in a new order of items asks for: trees that are read have them (ISO/IEC 9899:1999, Annex A.2).
use Rattle.std.specs.Prelude.{ℕ, ◌<◌, ◌≡◌, Bool, true, false, List, length}
use Rattle.cs_base.specs.declared.positions.Part.{Part}
use Rattle.c99_grammar.specs.declared.dialects.Edition.{Edition}
use Rattle.cs_base.specs.Token.{Token}
use Rattle.c99_tree.specs.Tree.{Forest, node, Node}
use Rattle.c99_tree.specs.declared.production.Label.{Label}
use Rattle.c99_tree.specs.declared.production.Production.TheVariants.{ExtRest, FunBody}
use Rattle.c99_grammar.specs.Standard.{iso}
use Rattle.c_types.specs.Trees.{is_node, has_node}
use Rattle.name_chains.specs.Frames.{outermost}
use Rattle.tree_laws.specs.ReadTexts.{Reads}
use Rattle.source_files.specs.Files.{Source}
use Rattle.unit_laws.specs.UnitLinks.{IsIn}
use Rattle.ws_file.specs.Workspace.{WorkspaceValue}
use Rattle.analysis.specs.Analysis.{UnitAnalysis, AnalysisValue}
use Rattle.reordered_tree_laws.specs.Premises.{is_bracketed, has_outer_list, is_fit}
use Rattle.reordered_tree_laws.specs.Reordered.{is_among}
use Rattle.template_meaning.specs.Accepted.{IsAccepted}
use Rattle.template_meaning.specs.Children.{EachNode}
use Rattle.reordered.specs.Reordered.{begins_list}

-- a list that begins with one of these tokens is a pair of parentheses with arguments or parameters in it, or nothing
abbrev pub IsBracketed : (ℕ → Bool) → Label → Forest → Type 0
IsBracketed lists l under = is_among lists l under ≡ true → is_bracketed under ≡ true

-- Where a body follows the declarator of an external declaration (6.9.1), the list whose names it begins with is no part of an
-- item of such a list.
abbrev pub BodyListIsOuter : (ℕ → Bool) → Forest → Type 0
BodyListIsOuter lists (node l first declarator (node m second tail rest)) = has_node FunBody tail ≡ true → has_outer_list lists false declarator ≡ true
BodyListIsOuter lists _ = Unit {0}

abbrev pub HasOuterList : (ℕ → Bool) → Label → Forest → Type 0
HasOuterList lists l under = is_node l ExtRest ≡ true → BodyListIsOuter lists under

-- The law: the tree that is read of a text has all these forms, where it is so with its lists.
abbrev pub TreesHaveForms : Type 0
TreesHaveForms = (s : Edition) (toks : List Token) (tree : Node) (lists : ℕ → Bool) → Reads (iso s) toks tree → EachNode (IsBracketed lists) tree.under
    → EachNode (HasOuterList lists) tree.under → is_fit lists (outermost (length toks)).label true 0 (outermost (length toks)).scope true tree.under ≡ true

-- The law: where no offence stands against an order that is not empty, the lists of the functions in a unit are bracketed.
abbrev pub UnitListsAreBracketed : Type 0
UnitListsAreBracketed = (source : Source) (ws : WorkspaceValue) (a : AnalysisValue) (members : List Part) (order : List ℕ) → IsAccepted source ws a members order
    → 0 < length order → (u : UnitAnalysis) → IsIn a.units u → EachNode (IsBracketed (begins_list members u)) u.tree.under

-- The law: no list of the functions begins a unit.
abbrev pub NoListIsFirst : Type 0
NoListIsFirst = (source : Source) (ws : WorkspaceValue) (a : AnalysisValue) (members : List Part) (order : List ℕ) → IsAccepted source ws a members order
    → (u : UnitAnalysis) → IsIn a.units u → begins_list members u 0 ≡ false
