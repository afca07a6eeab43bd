-- Files with the items of lists in a new order (this project's): from where to where items go, and the bytes then.
use Rattle.std.specs.Prelude.{ℕ, ◌+◌, ◌-◌, nat_lt, if◌then◌else◌, List, [], ◌∷◌, length, map, slice_get}
use Rattle.std.specs.Option.{option_map_or, unwrap_or}
use Rattle.cs_base.specs.declared.positions.Part.{Part}
use Rattle.cs_base.specs.declared.positions.Pos.{Pos}
use Rattle.cs_base.specs.Edit.{Edit, edit}
use Rattle.cs_base.specs.Token.{Token, origin_at}
use Rattle.edited_files.specs.Edited.{with_each}
use Rattle.list_cuts.specs.declared.spans.Span.{Span}
use Rattle.list_cuts.specs.Spans.{all_rearranged}
use Rattle.analysis.specs.Below.lexer.Lines.{byte_offset_of}
use Rattle.analysis.specs.Below.source_files.KeptFiles.{KeptValue}
use Rattle.analysis.specs.Analysis.{AnalysisValue}
use Rattle.macro_rules.specs.Files.{toks_in, in_files}
use Rattle.macro_rules.specs.Macros.{macro_places, called_places}
use Rattle.macro_rules.specs.Lists.{lists_in}

-- the byte at a position of the file
abbrev pub byte_in : List ℕ → Pos → ℕ
byte_in bytes p = unwrap_or (byte_offset_of bytes p.at) 0

-- the byte with which token k begins, and that behind its last one
abbrev pub first_byte : List ℕ → Token → ℕ
first_byte bytes t = option_map_or (byte_in bytes) (origin_at t 0) 0

abbrev pub end_byte : List ℕ → Token → ℕ
end_byte bytes t = option_map_or (λ p. byte_in bytes p + 1) (origin_at t (length t.text - 1)) 0

abbrev pub first_at : List ℕ → List Token → ℕ → ℕ
first_at bytes toks k = option_map_or (first_byte bytes) (slice_get toks k) 0

abbrev pub end_at : List ℕ → List Token → ℕ → ℕ
end_at bytes toks k = option_map_or (end_byte bytes) (slice_get toks k) 0

abbrev pub span : ℕ → ℕ → Span
span begin end = record { begin = begin; end = end }

-- The item behind one mark and before the next: from its first token to behind its last one. An empty item stands directly behind the
-- mark before it.
abbrev pub span_between : List ℕ → List Token → ℕ → ℕ → Span
span_between bytes toks after before =
    if nat_lt (after + 1) before then span (first_at bytes toks (after + 1)) (end_at bytes toks (before - 1))
    else span (end_at bytes toks after) (end_at bytes toks after)

-- the items of a list
abbrev pub spans_of : List ℕ → List Token → List ℕ → List Span
spans_of bytes toks (after ∷ before ∷ more) = span_between bytes toks after before ∷ spans_of bytes toks (before ∷ more)
spans_of bytes toks _ = []

-- the bytes of a file with the items of these lists in the new order
abbrev pub new_bytes : List ℕ → List (List ℕ) → KeptValue → List ℕ
new_bytes order lists f = all_rearranged order (map (spans_of f.bytes (toks_in f)) lists) f.bytes

-- the edit of a file that has such lists
abbrev pub edit_for : List ℕ → KeptValue → List (List ℕ) → List Edit
edit_for order f [] = []
edit_for order f lists = edit f.path (new_bytes order lists f) (length lists) ∷ []

abbrev pub edit_in : List ℕ → List Pos → List Pos → KeptValue → List Edit
edit_in order macros calls f = edit_for order f (lists_in macros calls f)

-- The edits of the files that hold a list of the macros or of one of their calls, in the order of their paths, each with the number of
-- its lists.
unfoldable pub edits_of : List Part → AnalysisValue → List ℕ → List Edit
edits_of members a order = with_each (in_files (edit_in order (macro_places members a) (called_places members a)) a.table) []
