-- What units of GNU C say against a new order of items (this project's, over the manual of gcc): attributes that may count the
-- parameters of a function, names and texts by which the assembler may have it, and blocks and calls that declare inside its lists.
use Rattle.std.specs.Prelude.{ℕ, ◌-◌, ◌==◌, ◌≡◌, ◌&&◌, not, if◌then◌else◌, Bool, Option, Some, List, [], ◌∷◌, ◌++◌, drop, take, slice_get}
use Rattle.std.specs.List.{flat_map, list_any}
use Rattle.std.specs.Option.{option_map_or}
use Rattle.cs_base.specs.declared.causes.Cause.TheVariants as cause
use Rattle.cs_base.specs.declared.positions.Part.{Part}
use Rattle.cs_base.specs.declared.positions.Pos.{Pos}
use Rattle.cs_base.specs.Token.{Token}
use Rattle.cs_base.specs.Units.{is_gnu}
use Rattle.c_types.specs.declared.lists.List.{List as NameList}
use Rattle.c_types.specs.Declarations.{spelling_at}
use Rattle.gnu_lists.specs.declared.counted.Counted.{Counted}
use Rattle.gnu_lists.specs.declared.lists.Adjacent.{Adjacent}
use Rattle.gnu_lists.specs.Lists.{Listed, listed_in}
use Rattle.gnu_lists.specs.Strings.{given_by}
use Rattle.gnu_lists.specs.WholeWords.{holds_word}
use Rattle.analysis.specs.Below.scope_bind.declared.bound.Name.{Name}
use Rattle.analysis.specs.Below.scope_bind.Bound.{Bound}
use Rattle.analysis.specs.Analysis.{UnitAnalysis, AnalysisValue}
use Rattle.offences.specs.declared.firsts.Offence.{Offence}
use Rattle.offences.specs.First.{standing, FirstThen}
use Rattle.template_rules.specs.Functions.{names_function, declares_function}
use Rattle.template_rules.specs.ScopeOffences.{is_inside}

-- where token k was brought
abbrev pub brought_place : List Token → ℕ → List Pos
brought_place toks k = option_map_or (λ (t : Token). t.at ∷ []) (slice_get toks k) []

-- ---- CountedParameter and AssemblerText, at tokens that are said of a declared name

-- where such a token was brought, if the name is one of a function that the class names
abbrev pub told_place : List Part → List Token → List Name → Counted → List Pos
told_place members toks names c = if names_function members toks names c.name then brought_place toks c.index else []

-- ---- AssemblerText, at texts

-- the spelling of a name, if it is that of a declarator of a function
abbrev pub declared_text : List Part → List Token → List Name → Name → List (List ℕ)
declared_text members toks names n = if declares_function members toks names n then spelling_at toks n.index ∷ [] else []

abbrev pub unit_spellings : List Part → UnitAnalysis → List (List ℕ)
unit_spellings members u = flat_map (declared_text members u.text.toks u.bound.names) u.bound.names

-- the spellings by which the functions are declared
abbrev pub spellings : List Part → AnalysisValue → List (List ℕ)
spellings members a = flat_map (unit_spellings members) a.units

-- what strings side by side give to the assembler (ISO/IEC 9899:1999, 6.4.5 paragraph 4), escape sequences being the characters for which
-- they stand
abbrev pub joined : List Token → List ℕ
joined toks = flat_map (λ (t : Token). given_by t.text) toks

abbrev pub text_toks : List Token → Adjacent → List Token
text_toks toks x = take (x.to - x.from) (drop x.from toks)

-- one of these is a word of the text
abbrev pub has_word : List ℕ → List (List ℕ) → Bool
has_word text words = list_any (λ (word : List ℕ). holds_word word text) words

-- where a text begins that has such a spelling
abbrev pub text_place : List (List ℕ) → List Token → Adjacent → List Pos
text_place words toks x = if has_word (joined (text_toks toks x)) words then brought_place toks x.from else []

-- ---- DeclarationInArgument, at blocks in expressions

-- token k stands inside the list, which is one of a function
abbrev pub is_in_own : List Part → List Token → List Name → ℕ → NameList → Bool
is_in_own members toks names k l = names_function members toks names l.name && is_inside l k

-- where the `{` of a block was brought, if it stands inside one of these lists
abbrev pub block_place : List Part → List Token → List Name → List NameList → ℕ → List Pos
block_place members toks names lists k = if list_any (is_in_own members toks names k) lists then brought_place toks k else []

-- ---- DeclarationInArgument, at calls that declare

-- A use of what no other token names: its call is the first that is taken to declare the function (ISO/IEC 9899:1990, 6.3.2.2).
-- In another order another call may be the first, or a name behind it would be in front of it.
abbrev pub declares_by_call : Name → Bool
declares_by_call n = not n.declares && (n.entity == n.index)

-- where such a name was brought, if it stands inside one of these lists
abbrev pub first_call_place : List Part → List Token → List Name → List NameList → Name → List Pos
first_call_place members toks names lists n = if declares_by_call n then block_place members toks names lists n.index else []

-- ---- units

-- what the tree of a unit tells
abbrev pub told_offences : List Part → List (List ℕ) → List Token → Bound → Listed → List Offence
told_offences members words toks bound listed =
    standing cause.CountedParameter (flat_map (told_place members toks bound.names) listed.counts)
    ++ (standing cause.AssemblerText (flat_map (told_place members toks bound.names) listed.symbols)
    ++ (standing cause.AssemblerText (flat_map (text_place words toks) listed.texts)
    ++ (standing cause.DeclarationInArgument (flat_map (block_place members toks bound.names (bound.declarators ++ bound.calls)) listed.begins)
    ++ standing cause.DeclarationInArgument (flat_map (first_call_place members toks bound.names (bound.declarators ++ bound.calls)) bound.names))))

abbrev pub gnu_unit : List Part → List (List ℕ) → UnitAnalysis → List Offence
gnu_unit members words u =
    if is_gnu u.standard then told_offences members words u.text.toks u.bound (listed_in u.text.toks u.tree.under) else []

-- Those in all units of GNU C.
abbrev pub gnu_offences : List Part → AnalysisValue → List Offence
gnu_offences members a = flat_map (gnu_unit members (spellings members a)) a.units

-- ---- what inner functions promise each other

-- The first offence, once those of a unit come to it; units count from 1.
abbrev pub IsAgainstUnit : AnalysisValue → List Part → List (List ℕ) → ℕ → Option Offence → Option Offence → Type 0
IsAgainstUnit a members words number first now =
    (u : UnitAnalysis) → slice_get a.units (number - 1) ≡ Some u → FirstThen a.table (gnu_unit members words u) first now
