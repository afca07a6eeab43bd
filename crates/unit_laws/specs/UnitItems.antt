-- What a unit takes from the items of its files (ISO/IEC 9899:1999, 6.10): its tokens are made of whole tokens of the
-- items that it reached, one behind the other, or of a number that was brought; the words of directives are none of
-- these.
use Rattle.std.specs.Prelude.{ℕ, ◌≡◌, if◌then◌else◌, Bool, true, false, List, [], ◌∷◌, Some, Ok, take, drop, slice_get}
use Rattle.cs_base.specs.Token.{Token}
use Rattle.cs_base.specs.Units.{UnitValue}
use Rattle.lexer.specs.Characters.{double_quote}
use Rattle.line_shape.specs.declared.items.ItemKind.{ItemKind}
use Rattle.line_shape.specs.declared.items.ItemKind.TheVariants as kind
use Rattle.line_shape.specs.declared.items.GnuLine.{GnuLine}
use Rattle.line_shape.specs.declared.items.GnuLine.TheVariants.{IncludeNext, Elifdef, Elifndef}
use Rattle.unit_steps.specs.declared.events.Reached.{Reached}
use Rattle.source_files.specs.Files.{Source, SourceFile, Table, Carried}
use Rattle.source_files.specs.HeaderNames.{is_header, begins_header}
use Rattle.source_files.specs.Sources.{source_at}
use Rattle.unit_steps.specs.Texts.{UnitTextValue}
use Rattle.include_tree.specs.Preprocessed.{Preprocessed, preprocessed}
use Rattle.include_tree.specs.Walk.{ItemText, items_in}
use Rattle.expansion_laws.specs.Pieces.{Characters, AreWhole}
use Rattle.unit_laws.specs.UnitLinks.{IsIn}
use Rattle.unit_laws.specs.UnitTokens.{NumbersAreWhole, UnitIsWhole}

-- the tokens behind the word of an include line, unless a header name is the first (6.10.2 paragraph 4)
abbrev pub expanded_name : List Token → List Token
expanded_name [] = []
expanded_name (t ∷ toks) = if is_header t.kind then [] else t ∷ toks

-- the tokens behind the word of a line that asks for the next file of a name, unless they begin as a header
abbrev pub taken_next : List Token → List Token
taken_next toks = if begins_header toks then [] else toks

-- the tokens that are taken from a line that GNU C alone has: the name that it asks for
abbrev pub taken_line : GnuLine → Bool → List Token → List Token
taken_line Elifdef true toks = take 1 (drop 2 toks)
taken_line Elifndef true toks = take 1 (drop 2 toks)
taken_line IncludeNext evaluated toks = taken_next (drop 2 toks)
taken_line _ evaluated toks = []

-- The tokens that are taken from an item: all of a run; the name, the parameters and the replacement list of a
-- definition; the name behind `undef`, `ifdef` and `ifndef`; what stands behind the word in a condition that is
-- evaluated, and in an include line that is expanded.
abbrev pub taken : ItemKind → Bool → List Token → List Token
taken kind.Run evaluated toks = toks
taken kind.Define evaluated toks = drop 2 toks
taken kind.Undef evaluated toks = take 1 (drop 2 toks)
taken kind.Ifdef evaluated toks = take 1 (drop 2 toks)
taken kind.Ifndef evaluated toks = take 1 (drop 2 toks)
taken kind.If true toks = drop 2 toks
taken kind.Elif true toks = drop 2 toks
taken kind.Include evaluated toks = expanded_name (drop 2 toks)
taken (kind.Gnu line) evaluated toks = taken_line line evaluated toks
taken _ evaluated toks = []

-- what is taken from the items that a unit reached, spelled with such characters, is made of these tokens
abbrev pub ReachedAreWhole : Characters → List Token → Table → UnitTextValue → Type 0
ReachedAreWhole among files table text = (r : Reached) (file : SourceFile) (i : ItemText) → IsIn text.reached r → source_at table r.file ≡ Some file
    → slice_get (items_in file) r.item ≡ Some i → AreWhole among files (taken i.kind r.evaluated i.toks)

-- The law: where that is so, and the numbers that were brought are whole, so are the tokens of the unit.
abbrev pub ReachedTokensAreWhole : Type 0
ReachedTokensAreWhole = (among : Characters) (files : List Token) (source : Source) (number : ℕ) (unit : UnitValue) (before : Carried) (p : Preprocessed)
    → among double_quote ≡ false → preprocessed source number unit before ≡ Ok p
    → ReachedAreWhole among files p.after.table p.text → NumbersAreWhole among files p.text → UnitIsWhole among files p.text
