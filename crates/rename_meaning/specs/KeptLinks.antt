-- Links behind a renaming against which nothing stands (this project's, over ISO/IEC 9899:1999, 6.2.1, 6.2.2, 6.10.1 and
-- 6.10.3).
use Rattle.std.specs.Prelude.{ℕ, ◌≡◌, List, map}
use Rattle.cs_base.specs.declared.positions.Part.{Part}
use Rattle.unit_steps.specs.Below.macro_expand.Renaming.{Renaming}
use Rattle.edited_unit_laws.specs.Analyses.{renamed_analysis}
use Rattle.edited_unit_laws.specs.Links.{KeepsLinks}
use Rattle.edited_unit_laws.specs.UnitTexts.{renamed_link}
use Rattle.analysis.specs.Analysed.{Analysed}
use Rattle.analysis.specs.Links.{links_of}
use Rattle.analysis.specs.Changed.{denote_one}
use Rattle.rename_meaning.specs.Allowed.{IsAllowed}
use Rattle.rename_meaning.specs.KeptTokens.{Spells}
use Rattle.rename_meaning.specs.KeptUnits.{change}

-- The law: where nothing stands against spelling the members of a class otherwise, and a renaming spells tokens so, it keeps
-- the links: external names of the units of a project are spelled alike exactly where they were, and each link is of alike
-- identifiers exactly where it was.
abbrev pub LinksAreKept : Type 0
LinksAreKept = (a : Analysed) (members : List Part) (name : List ℕ) (r : Renaming) → IsAllowed a members name → Spells members name r → KeepsLinks r a.value

-- The law: so the links of the renamed analysis are the renamed links, in their order.
abbrev pub LinksAreRenamedWhereAllowed : Type 0
LinksAreRenamedWhereAllowed = (a : Analysed) (members : List Part) (name : List ℕ) → IsAllowed a members name
    → links_of (renamed_analysis (change a.value members name) a.value) ≡ map (renamed_link (change a.value members name).renaming) (links_of a.value)

-- The law: so two identifiers of external linkage denote one entity in the renamed analysis exactly where they did (6.2.2
-- paragraph 2).
abbrev pub RenamedNamesDenoteAlike : Type 0
RenamedNamesDenoteAlike = (a : Analysed) (members : List Part) (name : List ℕ) → IsAllowed a members name
    → (m j n k : ℕ) → denote_one (renamed_analysis (change a.value members name) a.value) m j n k ≡ denote_one a.value m j n k
