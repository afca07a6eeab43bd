-- What stands against a new order of the parameters of the macros that a class names, and of the arguments of their calls (this
-- project's): nine offences, each at the places where it stands.
use Rattle.std.specs.Prelude.{ℕ, ◌==◌, ◌&&◌, not, if◌then◌else◌, Bool, true, false, Option, List, [], ◌∷◌, ◌++◌}
use Rattle.std.specs.List.{flat_map}
use Rattle.std.specs.Option.{option_map_or}
use Rattle.cs_base.specs.declared.causes.Cause.{Cause}
use Rattle.cs_base.specs.declared.causes.Cause.TheVariants as cause
use Rattle.cs_base.specs.declared.positions.Part.{Part}
use Rattle.cs_base.specs.declared.positions.Pos.{Pos}
use Rattle.cs_base.specs.declared.tokens.Kind.{Kind}
use Rattle.cs_base.specs.declared.tokens.Kind.TheVariants.{Str}
use Rattle.cs_base.specs.Token.{Token}
use Rattle.analysis.specs.Below.unit_steps.declared.events.Event.{Event}
use Rattle.analysis.specs.Below.unit_steps.Texts.{UnitTextValue}
use Rattle.analysis.specs.Analysis.{UnitAnalysis, AnalysisValue}
use Rattle.offences.specs.declared.firsts.Offence.{Offence}
use Rattle.offences.specs.First.{offence, standing}
use Rattle.offences.specs.Tokens.{first_place}
use Rattle.macro_rules.specs.declared.heads.Head.{Head}
use Rattle.macro_rules.specs.Positions.{has}
use Rattle.macro_rules.specs.Files.{in_files}
use Rattle.macro_rules.specs.Macros.{in_events, replaces, is_direct, macro_places, called_places, torn_places, number_places}
use Rattle.macro_rules.specs.Counting.{class_heads}
use Rattle.macro_rules.specs.FileOffences.{file_offences}

-- ---- macros

-- NoParameters: the name of a macro that is object-like or variadic; ArgumentCount: of one with another number of parameters
abbrev pub head_offences : ℕ → Head → List Offence
head_offences count h =
    (if h.fixed then [] else offence cause.NoParameters h.at ∷ []) ++ (if h.count == count then [] else offence cause.ArgumentCount h.at ∷ [])

-- ---- names that are replaced

-- InMacro: a name that does not stand in a file by itself, or comes from a macro
abbrev pub name_places : Option Token → List Pos
name_places name = option_map_or first_place name []

abbrev pub indirect_offences : List Pos → Event → List Offence
indirect_offences macros e = if replaces macros e && not (is_direct e) then standing cause.InMacro (name_places e.name) else []

-- ---- names that are called, in tokens

-- a character of a token comes from the first one of such a name
abbrev pub origin_offences : Cause → List Pos → Option Pos → List Offence
origin_offences cause calls origin = option_map_or (λ p. if has calls p then offence cause p ∷ [] else []) origin []

abbrev pub token_offences : Cause → List Pos → Token → List Offence
token_offences cause calls t = flat_map (origin_offences cause calls) t.origins

abbrev pub is_string : Kind → Bool
is_string Str = true
is_string _ = false

-- NotExpanded: the name is put out, or pasted to another (6.10.3.3), without being replaced; in strings that is said below. In a
-- condition or an include line InDirective stands at the same place, and comes first.
abbrev pub kept_offences : List Pos → Token → List Offence
kept_offences calls t = if is_string t.kind then [] else token_offences cause.NotExpanded calls t

-- Stringized: `#` made a string of the name (6.10.3.2)
abbrev pub text_offences : List Pos → UnitTextValue → List Offence
text_offences calls text =
    flat_map (kept_offences calls) text.toks
    ++ (flat_map (kept_offences calls) text.pasted ++ flat_map (token_offences cause.Stringized calls) text.stringized)

abbrev pub all_texts : List Pos → AnalysisValue → List Offence
all_texts calls a = flat_map (λ (u : UnitAnalysis). text_offences calls u.text) a.units

-- ---- all of them

abbrev pub all_files : List Part → AnalysisValue → List Offence
all_files members a =
    in_files (file_offences a (macro_places members a) (called_places members a) (torn_places a) (number_places a)) a.table

-- All offences against a new order of so many items, in no order.
abbrev pub offences_of : AnalysisValue → List Part → ℕ → List Offence
offences_of a members count =
    flat_map (head_offences count) (class_heads members a)
    ++ (in_events (indirect_offences (macro_places members a)) a
    ++ (all_files members a ++ all_texts (called_places members a) a))
