-- The generated workspace (this project's): a header that declares `total` and defines a macro, and so many units that
-- use both.
use Rattle.std.specs.Prelude.{ℕ, zero, suc, List, [], ◌∷◌, ◌++◌, codes, decimal}
use Rattle.cs_base.specs.Outside.{FileMap}

-- the header
abbrev pub header_path : List ℕ
header_path = codes "h.h"

abbrev pub header_text : List ℕ
header_text = codes "extern int total;\n#define TWICE(x) (2 * x)\n"

-- the unit of a number
abbrev pub unit_path : ℕ → List ℕ
unit_path i = codes "u" ++ decimal i ++ codes ".c"

abbrev pub unit_text : ℕ → List ℕ
unit_text i = codes "#include \"h.h\"\nint f" ++ decimal i ++ codes "(int a) { return TWICE(a) + total; }\n"

-- the units from the first to that of a number
abbrev pub units_to : ℕ → FileMap
units_to zero = []
units_to (suc n) = units_to n ++ (unit_path (suc n), unit_text (suc n)) ∷ []

-- the workspace file, which names them
abbrev pub workspace_path : List ℕ
workspace_path = codes "w.cs"

abbrev pub unit_line : ℕ → List ℕ
unit_line i = codes "file " ++ unit_path i ++ codes "\n"

abbrev pub workspace_text : ℕ → List ℕ
workspace_text zero = []
workspace_text (suc n) = workspace_text n ++ unit_line (suc n)

-- the files of the workspace of so many units
abbrev pub generated_files : ℕ → FileMap
generated_files n = ((header_path, header_text) ∷ units_to n) ++ (workspace_path, workspace_text n) ∷ []
