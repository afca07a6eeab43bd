-- The first offence against a renaming: that of the least place, and at one place that of the least number.
use Rattle.std.specs.Prelude.{ℕ, ◌≡◌, Option, Some, None, List, [], ◌++◌, map, slice_get}
use Rattle.std.specs.Cmp.Lexicographic.{slice_cmp}
use Rattle.std.specs.Option.{option_map_or}
use Rattle.std.specs.Ordering.{nat_cmp, ordering_then}
use Rattle.std.specs.declared.cmp.Ordering.{Ordering}
use Rattle.std.specs.declared.cmp.Ordering.TheVariants.{Less}
use Rattle.cs_base.specs.declared.causes.Cause.{Cause}
use Rattle.cs_base.specs.declared.positions.Pos.{Pos}
use Rattle.cs_base.specs.Order.{number_of}
use Rattle.analysis.specs.Below.source_files.Files.{Table, lines_path}
use Rattle.analysis.specs.Below.source_files.KeptFiles.{KeptValue, kept_at}
use Rattle.offences.specs.declared.firsts.Offence.{Offence}

-- an offence: a position in a file, and what stands against the renaming there
abbrev pub offence : Cause → Pos → Offence
offence cause at = record { at = at; cause = cause }

-- the path of the places in a file; the pseudo file of lines is kept nowhere
abbrev pub path_of : Table → ℕ → List ℕ
path_of table number = option_map_or (λ (f : KeptValue). f.path) (kept_at table number) lines_path

-- the order of positions: by the bytes of their paths, and then by their characters, which stand as their bytes do
abbrev pub position_cmp : Table → Pos → Pos → Ordering
position_cmp table p q = ordering_then (slice_cmp nat_cmp (path_of table p.file) (path_of table q.file)) (nat_cmp p.at q.at)

-- the order of offences: that of their positions, and at one position that of their numbers
abbrev pub offence_cmp : Table → Offence → Offence → Ordering
offence_cmp table o p = ordering_then (position_cmp table o.at p.at) (nat_cmp (number_of o.cause) (number_of p.cause))

-- the offences of a cause that stands at these places
abbrev pub standing : Cause → List Pos → List Offence
standing cause places = map (offence cause) places

-- the list has it
abbrev pub IsAmong : {X : Type 0} → List X → X → Type 0
IsAmong xs x = (k : ℕ) × (slice_get xs k ≡ Some x)

-- The first of these offences, or none where there are none.
abbrev pub IsFirst : Table → List Offence → Option Offence → Type 0
IsFirst table offences None = offences ≡ []
IsFirst table offences (Some first) =
    IsAmong offences first × ((o : Offence) → IsAmong offences o → offence_cmp table o first ≡ Less → ⊥)

-- The first of some offences, once these come to them.
pub record FirstThen (table : Table) (more : List Offence) (before now : Option Offence) : Type 0 where
  pub goes_on : (offences : List Offence) → IsFirst table offences before → IsFirst table (offences ++ more) now
