-- What the plan of a new order of a macro's parameters keeps, over whatever source has the analysis (this project's, over ISO/IEC
-- 9899:1999, 5.1.1.2 phases 1 to 4): each unit has the tokens that it had.
use Rattle.std.specs.Prelude.{ℕ, ◌≡◌, true, List, [], None, Some, Ok, map}
use Rattle.cs_base.specs.declared.tokens.Kind.{Kind}
use Rattle.cs_base.specs.Edit.{Edit}
use Rattle.cs_base.specs.Token.{Token}
use Rattle.edited_files.specs.Edited.{AreMade}
use Rattle.list_cuts.specs.Orders.{is_order}
use Rattle.analysis.specs.Below.source_files.Files.{Source}
use Rattle.analysis.specs.Below.unit_steps.Texts.{UnitTextValue}
use Rattle.analysis.specs.Below.ws_file.Workspace.{WorkspaceValue}
use Rattle.analysis.specs.Analysis.{UnitAnalysis, AnalysisValue, analysis_of}
use Rattle.analysis.specs.Naming.{Names}
use Rattle.analysis.specs.Parts.{AreMembers}
use Rattle.analysis.specs.Texts.{TextsValue, texts_of}
use Rattle.offences.specs.Class.{NamedClass}
use Rattle.offences.specs.First.{IsFirst}
use Rattle.macro_rules.specs.Counting.{class_heads, count_of}
use Rattle.macro_rules.specs.Edits.{edits_of}
use Rattle.macro_rules.specs.Offences.{offences_of}

-- what translation sees of a token (6.4): its kind and its spelling
pub record Plain : Type 0 where
  pub kind : Kind
  pub text : List ℕ

abbrev pub plain : Token → Plain
plain t = record { kind = t.kind; text = t.text }

abbrev pub plains : List Token → List Plain
plains toks = map plain toks

-- Each unit of a workspace over these files has the tokens that it had in the analysis: their kinds and their spellings, in order.
pub record TokensStay (now : Source) (ws : WorkspaceValue) (a : AnalysisValue) : Type 0 where
  pub texts : TextsValue
  pub preprocessed : texts_of now ws.units ≡ Ok texts
  pub same : map (λ (t : UnitTextValue). plains t.toks) texts.texts ≡ map (λ (u : UnitAnalysis). plains u.text.toks) a.units

-- Over each source that has the analysis, once these edits are made, the units have the tokens that they had.
abbrev pub KeepsTokens : WorkspaceValue → AnalysisValue → List Edit → Type 0
KeepsTokens ws a edits = (before now : Source) → analysis_of before ws ≡ Ok a → AreMade edits before now → TokensStay now ws a

-- The lists of the macros that a place names are in the new order, between the files before and now, in a workspace.
pub record IsTurn (ws : WorkspaceValue) (path : List ℕ) (line column : ℕ) (order : List ℕ) (before now : Source) (r : NamedClass) : Type 0 where
  -- every unit is accepted
  pub analysed : analysis_of before ws ≡ Ok r.analysis
  -- the place names the part
  pub named : Names r.analysis path line column (Some r.part)
  -- these are all that must be spelled as it is
  pub class : AreMembers r.analysis r.part r.members
  -- they name macros
  pub macros : class_heads r.members r.analysis ≡ [] → ⊥
  -- the numbers are an order of their parameters
  pub ordered : is_order (count_of r.analysis r.members) order ≡ true
  -- no reason stands against it
  pub clear : IsFirst r.analysis.table (offences_of r.analysis r.members (count_of r.analysis r.members)) None
  -- the items of the macros' lists and of those of their calls are in the new order, and no other byte changed
  pub files : AreMade (edits_of r.members r.analysis order) before now
  -- each unit preprocesses to the tokens that it had
  pub tokens : TokensStay now ws r.analysis

-- Edits put the lists of the macros that a place names into a new order: so it is over each source with this analysis, once they are
-- made.
abbrev pub TurnsOver : WorkspaceValue → AnalysisValue → List ℕ → ℕ → ℕ → List ℕ → List Edit → Type 0
TurnsOver ws a path line column order edits =
    (before now : Source) → analysis_of before ws ≡ Ok a → AreMade edits before now
    → (r : NamedClass) × IsTurn ws path line column order before now r
