-- A translation unit, preprocessed (ISO/IEC 9899:1999, 5.1.1.2 phase 4).
use Rattle.std.specs.Prelude.{ℕ, ◌-◌, Option, None, Some, List, [], ◌++◌}
use Rattle.cs_base.specs.Token.{Token}
use Rattle.cs_base.specs.Units.{UnitValue, is_gnu, defines_of}
use Rattle.unit_steps.specs.Below.macro_body.Defining.{first_macros}
use Rattle.source_files.specs.Limits.{Limits}
use Rattle.source_files.specs.Files.{Source, Made, Table, Carried, defines_path, made_path, numbered, asked}
use Rattle.source_files.specs.Faults.{first_place}
use Rattle.unit_steps.specs.State.{Context, context, State, Outcome, only, onward}
use Rattle.source_files.specs.Opening.{Reader}
use Rattle.include_tree.specs.OpeningStep.{open_file}
use Rattle.include_tree.specs.Walk.{file_items}

-- the path of the pseudo file that a unit begins with: that of the first unit whose text it has, or one of its own
abbrev pub path_or_own : Option (List ℕ) → ℕ → List ℕ
path_or_own None number = defines_path number
path_or_own (Some path) number = path

abbrev pub pseudo_path : ℕ → UnitValue → Table → List ℕ
pseudo_path number unit table = path_or_own (made_path (defines_of unit) table) number

-- the table in which that has a number: it gets one unless an earlier unit has the same
abbrev pub table_or_more : Option (List ℕ) → ℕ → UnitValue → Table → Table
table_or_more None number unit table = numbered (defines_path number) (Made (defines_of unit)) table
table_or_more (Some path) number unit table = table

abbrev pub with_defines : ℕ → UnitValue → Table → Table
with_defines number unit table = table_or_more (made_path (defines_of unit) table) number unit table

-- The state at the beginning of a unit (6.10.8).
abbrev pub first_state : Limits → ℕ → UnitValue → Table → State
first_state limits number unit table = record {
  table = with_defines number unit table;
  macros = first_macros (is_gnu unit.standard);
  work = record { left = limits.work; counter = 0 };
  names = [];
  before = 0;
  behind = None;
  once = [];
}

-- the items of the file of a path, which is the first of those that are open
abbrev pub outer_file : Context → List ℕ → State → Outcome (List Token)
outer_file ctx path s =
    onward (open_file ctx (first_place path) path s) (file_items ctx (ctx.limits.open_files - 1))

-- the file of the unit, whose path is asked for
abbrev pub main_file : Context → List ℕ → State → Outcome (List Token)
main_file ctx path s = outer_file ctx path (record s { table = asked ctx.source path s.table })

-- the pseudo file of a path, and then the file of the unit
abbrev pub both_files : Context → List ℕ → List ℕ → State → Outcome (List Token)
both_files ctx defines path s =
    onward (outer_file ctx defines s) (λ toks t. onward (main_file ctx path t) (λ more u. only (toks ++ more) u))

-- unit `number`, with what is carried from the units before
abbrev pub unit_outcome : Limits → Reader → Source → ℕ → UnitValue → Carried → Outcome (List Token)
unit_outcome limits reader source number unit before =
    both_files (context source reader unit limits before.toks) (pseudo_path number unit before.table) unit.path
    (first_state limits number unit before.table)
