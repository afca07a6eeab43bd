-- Conditions of a unit (ISO/IEC 9899:1999, 6.10.1), in which GNU C asks for headers: a file that is found is opened, as by an
-- include line (6.10.2).
use Rattle.std.specs.Prelude.{ℕ, Bool, true, false, ◌&&◌, if◌then◌else◌, Option, Some, None, List, [], ◌∷◌, Err, drop}
use Rattle.cs_base.specs.declared.causes.Cause.TheVariants.{BadDirective}
use Rattle.cs_base.specs.declared.positions.Pos.{Pos}
use Rattle.cs_base.specs.Token.{Token}
use Rattle.cs_base.specs.declared.ws_units.Standard.{Standard}
use Rattle.cs_base.specs.Units.{is_gnu}
use Rattle.source_files.specs.Below.line_shape.declared.items.ItemKind.{ItemKind}
use Rattle.source_files.specs.Below.line_shape.declared.items.ItemKind.TheVariants.{If, Elif}
use Rattle.source_files.specs.Faults.{fault_at, place_in}
use Rattle.source_files.specs.Files.{SourceFile}
use Rattle.source_files.specs.HeaderNames.{header_of_toks}
use Rattle.source_files.specs.Search.{Header, candidates_of, Searched, search}
use Rattle.unit_steps.specs.Conditions.{asked_toks, judged}
use Rattle.unit_steps.specs.Directives.{opens_with, goes_with}
use Rattle.unit_steps.specs.IncludeNames.{header_or}
use Rattle.unit_steps.specs.Questions.{Question, Unasked, Looks, Lacks, asks_next, questions_from, found_as}
use Rattle.unit_steps.specs.State.{Context, State, Outcome, only, onward}
use Rattle.include_tree.specs.OpeningStep.{open_file}

-- whether a search found a file, which is opened then
abbrev pub there : Context → SourceFile → Pos → State → Searched → Option (List ℕ) → Outcome Bool
there ctx file at s found None = only false (record s { table = found.table })
there ctx file at s found (Some path) =
    onward (open_file ctx (place_in file at) path (record s { table = found.table })) (λ f t. only true t)

abbrev pub there_found : Context → SourceFile → Pos → State → Searched → Outcome Bool
there_found ctx file at s found = there ctx file at s found found.path

-- whether the file is there for which a condition of this file asks, the next one of the name or the first
abbrev pub is_there : Context → SourceFile → Pos → Bool → Header → State → Outcome Bool
is_there ctx file at next h s =
    there_found ctx file at s (search ctx.source (candidates_of next h s.behind file.path ctx.unit) s.table)

-- the number for a word that asks for a header
abbrev pub look_for : Context → SourceFile → Pos → Token → Header → State → Outcome Token
look_for ctx file at word h s = onward (is_there ctx file at (asks_next word) h s) (found_as word)

-- the token that stands for a piece of a condition whose `#` is there
abbrev pub look : Context → SourceFile → Pos → Question → State → Outcome Token
look ctx file at (Unasked t) s = only t s
look ctx file at (Looks word operand) s =
    onward (header_or file at operand s (header_of_toks operand)) (look_for ctx file at word)
look ctx file at Lacks s = Err (fault_at file at BadDirective)

-- those for all pieces
unfoldable pub looked : Context → SourceFile → Pos → List Question → State → Outcome (List Token)
looked ctx file at [] s = only [] s
looked ctx file at (q ∷ qs) s = onward (look ctx file at q s) (λ t u. onward (looked ctx file at qs u) (λ toks v. only (t ∷ toks) v))

-- The condition of a unit of GNU C, given by its pieces: words that ask for a header as it stands are answered, then the
-- operands of `defined`; macros are expanded, and all other such words are answered.
abbrev pub gnu_known : Context → SourceFile → Pos → List Token → State → Outcome Bool
gnu_known ctx file at toks s = onward (looked ctx file at (questions_from false 0 toks) s) (judged file at)

abbrev pub gnu_asked : Context → SourceFile → Pos → List Token → State → Outcome Bool
gnu_asked ctx file at toks s = onward (asked_toks file at toks s) (gnu_known ctx file at)

abbrev pub gnu_answered : Context → SourceFile → Pos → List Question → State → Outcome Bool
gnu_answered ctx file at qs s = onward (looked ctx file at qs s) (gnu_asked ctx file at)

abbrev pub gnu_holds : Context → SourceFile → Pos → List Token → State → Outcome Bool
gnu_holds ctx file at toks s = gnu_answered ctx file at (questions_from true 0 toks) s

-- a condition that is evaluated, in a unit of GNU C: it may ask for files
abbrev pub is_condition : ItemKind → Bool
is_condition If = true
is_condition Elif = true
is_condition _ = false

abbrev pub asks_files : Standard → ItemKind → Bool
asks_files standard k = is_condition k && is_gnu standard

-- whether the first group of a section is processed, and the next one where none was yet
abbrev pub opens_in : Context → ItemKind → SourceFile → Pos → List Token → State → Outcome Bool
opens_in ctx k file at toks s =
    if asks_files ctx.unit.standard k then gnu_holds ctx file at (drop 2 toks) s else opens_with k file at toks s

abbrev pub goes_in : Context → ItemKind → SourceFile → Pos → List Token → State → Outcome Bool
goes_in ctx k file at toks s =
    if asks_files ctx.unit.standard k then gnu_holds ctx file at (drop 2 toks) s else goes_with k file at toks s
