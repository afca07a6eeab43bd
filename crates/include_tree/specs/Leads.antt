-- The include lines with which the file of a unit begins, where it is known which files they open.
use Rattle.std.specs.Prelude.{◌≡◌, ◌+◌, ◌-◌, ℕ, true, false, List, [], ◌∷◌, Some, None, Result, Ok, Err, IfSome, drop, slice_get}
use Rattle.cs_base.specs.Token.{Token}
use Rattle.cs_base.specs.Units.{UnitValue}
use Rattle.cs_base.specs.declared.positions.Place.{Place}
use Rattle.cs_base.specs.declared.positions.Pos.{Pos}
use Rattle.source_files.specs.Below.line_shape.declared.items.ItemKind.TheVariants as kind
use Rattle.source_files.specs.Answers.{fault_of}
use Rattle.source_files.specs.Faults.{Fault}
use Rattle.source_files.specs.declared.pre_fault.PreFault.{PreFault}
use Rattle.source_files.specs.Files.{Source, Table, SourceFile, Absent, found_at}
use Rattle.source_files.specs.HeaderNames.{is_header, header_in}
use Rattle.source_files.specs.Limits.{the_limits}
use Rattle.source_files.specs.Search.{Header, search, behind_of}
use Rattle.source_files.specs.Sources.{source_at, GivesOpening, opening_found}
use Rattle.unit_steps.specs.Keeping.{put_after}
use Rattle.unit_steps.specs.State.{Context, State}
use Rattle.unit_steps.specs.Texts.{UnitTextValue}
use Rattle.include_tree.specs.declared.leads.Known.{Known}
use Rattle.include_tree.specs.declared.leads.Known.TheVariants as known
use Rattle.include_tree.specs.declared.leads.Lead.{Lead}
use Rattle.include_tree.specs.GivenFiles.{unit_context, GivesFile}
use Rattle.include_tree.specs.Including.{open_header}
use Rattle.include_tree.specs.Walk.{ItemText, items_in, walk}
use Rattle.include_tree.specs.Walking.{inner_in}

-- The first of these paths that is there is the kept file with this number, whatever the source holds: all that is asked for is
-- known.
abbrev pub IsKnownFile : Table → List (List ℕ) → ℕ → Type 0
IsKnownFile table paths number = (place : Place) (source : Source) → GivesOpening (Ok number) (opening_found place (search source paths table)) table

-- what is known of a path
abbrev pub KnowsPath : Known → Table → List ℕ → Type 0
KnowsPath (known.Kept number) table path = (paths : List (List ℕ)) → IsKnownFile table (path ∷ paths) number
KnowsPath known.Absent table path = found_at path table ≡ Some Absent
KnowsPath known.Unknown table path = Unit {0}

-- the first of these tokens is a header name, of this header
abbrev pub IsFirstHeader : List Token → Header → Type 0
IsFirstHeader toks h = (name : Token) × (more : List Token) × (toks ≡ name ∷ more) × (is_header name.kind ≡ true) × (h ≡ header_in name.text)

-- an include line that names this header as it stands
abbrev pub IsWritten : ItemText → Header → Type 0
IsWritten i h = (i.kind ≡ kind.Include) × IsFirstHeader (drop 2 i.toks) h

-- A line of this file that asks for the file of a header opens that of a lead, whatever the source holds, and leaves the table.
abbrev pub OpensLead : UnitValue → Table → SourceFile → Pos → Header → Lead → Type 0
OpensLead unit table file at h l =
    ((source : Source) (earlier : ℕ) (s : State) → s.table ≡ table → s.behind ≡ None
    → GivesFile (Ok l.number) (open_header (unit_context source unit earlier) file at false h s) table s)
    × IfSome (source_at table l.number) (λ inner. l.behind ≡ behind_of false h None file.path unit inner.path)

-- Item number k of the file is such a line.
pub record IsLead (unit : UnitValue) (table : Table) (file : SourceFile) (k : ℕ) (l : Lead) : Type 0 where
  pub item : ItemText
  pub header : Header
  pub at : slice_get (items_in file) k ≡ Some item
  pub place : item.at ≡ l.at
  pub written : IsWritten item header
  pub opens : OpensLead unit table file l.at header l

-- the items from number k on are
abbrev pub AreLeads : UnitValue → Table → SourceFile → ℕ → List Lead → Type 0
AreLeads unit table file k [] = Unit {0}
AreLeads unit table file k (l ∷ leads) = IsLead unit table file k l × AreLeads unit table file (k + 1) leads

-- ---- the items of the unit's own file that are left

-- what the items of a file give from number k on, in no section
abbrev pub rest_at : Context → SourceFile → ℕ → State → UnitTextValue → Result (State × UnitTextValue) Fault
rest_at ctx file k s text = put_after text (walk ctx (inner_in ctx (the_limits.open_files - 1)) file k (drop k (items_in file)) [] s)

-- So many of them were processed, and the rest gives what is expected; or the fault of one, which yields to want of memory and
-- a failed read.
abbrev pub LeavesRest : Result ℕ PreFault → Context → SourceFile → State → UnitTextValue → Result (State × UnitTextValue) Fault → Type 0
LeavesRest (Ok k) ctx file s text expected = expected ≡ rest_at ctx file k s text
LeavesRest (Err e) ctx file s text expected = IfSome (fault_of e) (λ f. expected ≡ Err f)

-- a step over item number k, which tells something else
abbrev pub goes_past : {X : Type 0} → ℕ → Result X PreFault → Result ℕ PreFault
goes_past k (Ok x) = Ok (k + 1)
goes_past k (Err e) = Err e
