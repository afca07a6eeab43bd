-- Texts for the assembler, by tokens that have the old spellings; and words of a unit.
use Rattle.std.specs.Prelude.{ℕ, ◌≡◌, ◌&&◌, ◌||◌, if◌then◌else◌, Bool, false, eqb, is_none, is_some, length, nat_lt, List, [], ◌∷◌, ◌++◌, slice_get}
use Rattle.std.specs.List.{flat_map, list_any, starts_with}
use Rattle.std.specs.Option.{option_map_or}
use Rattle.cs_base.specs.declared.causes.Cause.TheVariants as cause
use Rattle.cs_base.specs.declared.positions.Part.{Part}
use Rattle.cs_base.specs.declared.positions.Pos.{Pos}
use Rattle.cs_base.specs.Token.{Token}
use Rattle.analysis.specs.Below.scope_bind.declared.bound.Name.{Name}
use Rattle.analysis.specs.Below.scope_bind.Names.{entity_at}
use Rattle.gnu_lists.specs.declared.lists.Adjacent.{Adjacent}
use Rattle.gnu_lists.specs.Lists.{Listed}
use Rattle.rename_rules.specs.GnuOffences.{held_text, is_named, is_symbol, joined, text_toks}
use Rattle.rename_rules.specs.Tokens.{starts_in}
use Rattle.offences.specs.Tokens.{holds_member}
use Rattle.offences.specs.declared.firsts.Offence.{Offence}
use Rattle.offences.specs.First.{standing}

abbrev pub at_place : List Token → ℕ → List Pos
at_place toks k = option_map_or (λ (t : Token). t.at ∷ []) (slice_get toks k) []

-- where a text begins that has a name of the class
abbrev pub text_place_in : List Part → List ℕ → List Token → List Token → Adjacent → List Pos
text_place_in members name olds toks x =
    if list_any (λ (t : Token). is_named name (joined members name (text_toks toks x)) t.text) olds then at_place toks x.from else []

-- the members in token k, if that denotes nothing
abbrev pub word_place_in : List Part → List Name → List Token → ℕ → List Pos
word_place_in members names toks k =
    if is_some (entity_at names k) then [] else option_map_or (starts_in members) (slice_get toks k) []

-- both, of what a tree tells
abbrev pub told_in : List Part → List ℕ → List Token → List Name → List Token → Listed → List Offence
told_in members name olds names toks listed =
    standing cause.Reserved (flat_map (word_place_in members names toks) listed.places)
    ++ standing cause.AssemblerText (flat_map (text_place_in members name olds toks) listed.texts)

-- ---- Units in which neither stands, as their tokens alone tell

-- token k holds a member and denotes nothing
abbrev pub is_free : List Part → List Name → List Token → ℕ → Bool
is_free members names toks k =
    option_map_or (λ (t : Token). is_none (entity_at names k) && holds_member members t) (slice_get toks k) false

-- no token does
abbrev pub NoneIsFree : List Part → List Name → List Token → Type 0
NoneIsFree members names toks = (k : ℕ) → is_free members names toks k ≡ false

-- the word stands somewhere in the text, whatever is around it
abbrev pub stands_in : List ℕ → List ℕ → Bool
stands_in word [] = false
stands_in word (c ∷ text) = starts_with eqb (c ∷ text) word || stands_in word text

-- It may stand there: a longer one than need be told apart (5.2.4.1) is not looked for.
abbrev pub may_stand : List ℕ → List ℕ → Bool
may_stand word text = nat_lt 63 (length word) || stands_in word text

-- an old name may stand there, or the new one
abbrev pub may_name : List ℕ → List ℕ → List ℕ → Bool
may_name name text old = may_stand old text || may_stand name text

-- .. in what some of these tokens give, put end to end
abbrev pub may_be_named : List Part → List ℕ → List Token → List Token → Bool
may_be_named members name olds toks = list_any (λ (t : Token). may_name name (joined members name toks) t.text) olds

-- Neither of the two stands in a unit of these tokens, whatever its tree tells.
abbrev pub AreQuiet : List Part → List ℕ → List Token → List Name → List Token → Type 0
AreQuiet members name olds names toks = NoneIsFree members names toks × (may_be_named members name olds toks ≡ false)

-- ---- Old spellings

-- the spelling of a name, if the assembler may know its entity by it and it holds a member
abbrev pub symbol_in : List Part → List Name → List Token → Name → List (List ℕ)
symbol_in members names toks n =
    if is_symbol names n.entity then option_map_or (held_text members) (slice_get toks n.index) [] else []

-- The tokens have these spellings, each once or more often, and no others.
abbrev pub HaveTexts : List Token → List (List ℕ) → Type 0
HaveTexts toks texts = (test : List ℕ → Bool) → list_any (λ (t : Token). test t.text) toks ≡ list_any test texts

-- these spellings come to those of the tokens
abbrev pub AddTexts : List Token → List (List ℕ) → List Token → Type 0
AddTexts old texts new = (before : List (List ℕ)) → HaveTexts old before → HaveTexts new (before ++ texts)
