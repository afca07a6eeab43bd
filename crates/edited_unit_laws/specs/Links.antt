-- Links of an analysis over edited files (this project's, over ISO/IEC 9899:1999, 6.2.1, 6.2.2, 6.10.1 and 6.10.3).
use Rattle.std.specs.Prelude.{◌≡◌, List, [], ◌∷◌, ◌++◌, map}
use Rattle.std.specs.List.{flat_map}
use Rattle.std.specs.Str.{bytes_eq}
use Rattle.cs_base.specs.declared.tokens.Link.{Link}
use Rattle.cs_base.specs.Token.{Token}
use Rattle.analysis.specs.Below.linkage_join.Linkage.{UnitValue as ExternalNames, names_of, links_of as external_links}
use Rattle.macro_expand.specs.Renaming.{Renaming, spelled}
use Rattle.analysis.specs.Analysis.{AnalysisValue}
use Rattle.analysis.specs.Links.{are_alike, names_of_units, unit_links, links_of}
use Rattle.edited_unit_laws.specs.Lines.{Each}
use Rattle.edited_unit_laws.specs.Keeping.{Change}
use Rattle.edited_unit_laws.specs.UnitTexts.{renamed_link}
use Rattle.edited_unit_laws.specs.Analyses.{renamed_analysis}

-- the links in units and those of external names; those of them that are of alike identifiers are the links
abbrev pub all_links : AnalysisValue → List Link
all_links a = flat_map unit_links a.units ++ external_links (names_of_units a.workspace.units a.units)

-- the two tokens are identifiers of equal spelling anew exactly where they were
abbrev pub StaysAlike : Renaming → Link → Type 0
StaysAlike r l = are_alike (renamed_link r l) ≡ are_alike l

-- a name is spelled like another exactly where it was
abbrev pub SpelledAsBefore : Renaming → Token → Token → Type 0
SpelledAsBefore r t u = bytes_eq (spelled r t) (spelled r u) ≡ bytes_eq t.text u.text

-- So it is with each external name of these units and those of its project in the units before (6.2.2 paragraph 2).
abbrev pub KeepsNamesAfter : Renaming → List ExternalNames → List ExternalNames → Type 0
KeepsNamesAfter r earlier [] = Unit {0}
KeepsNamesAfter r earlier (u ∷ units) =
    Each (λ t. Each (SpelledAsBefore r t) (names_of u.project earlier)) u.names × KeepsNamesAfter r (earlier ++ u ∷ []) units

-- What is kept of the links of an analysis: which external names are spelled alike, and which links are of alike
-- identifiers.
pub record KeepsLinks (r : Renaming) (a : AnalysisValue) : Type 0 where
  pub names : KeepsNamesAfter r [] (names_of_units a.workspace.units a.units)
  pub links : Each (StaysAlike r) (all_links a)

-- The law: the links of the renamed analysis are the renamed links, in their order.
abbrev pub LinksAreRenamed : Type 0
LinksAreRenamed = (c : Change) (a : AnalysisValue) → KeepsLinks c.renaming a
    → links_of (renamed_analysis c a) ≡ map (renamed_link c.renaming) (links_of a)
