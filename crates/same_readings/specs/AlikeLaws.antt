-- What is true of two texts whose tokens are alike one another in the same places.
use Rattle.std.specs.Prelude.{ℕ, ◌≡◌, true, List, length, map, Ok}
use Rattle.cs_base.specs.Token.{Token}
use Rattle.c99_tree.specs.Tree.{Node}
use Rattle.c99_read.specs.Below.c99_grammar.declared.dialects.Dialect.TheVariants.{Gnu}
use Rattle.c99_read.specs.Below.c99_grammar.Standard.{Grammar, grammar}
use Rattle.c99_read.specs.Reading.{read_of}
use Rattle.c_types.specs.Declarations.{alike}
use Rattle.gnu_bind.specs.Below.scope_bind.Bound.{Bound}
use Rattle.gnu_bind.specs.Bound.{gnu_binding_of}
use Rattle.same_readings.specs.Alike.{AreAlike, AllSayTheSame}
use Rattle.same_readings.specs.Whole.{goes_whole}

-- Any grammar reads them to one tree, or stops at one token (ISO/IEC 9899:1999, 6.7.7: a name is a typedef name by the
-- declarations of its spelling).
abbrev pub AlikeTextsReadAlike : Type 0
AlikeTextsReadAlike = (g : Grammar) (a b : List Token) → AreAlike g a b → read_of g b ≡ read_of g a

-- They have one binding by GNU C, or one first fault, where no spelling says more to it than the other.
abbrev pub AlikeTextsBindAlike : Type 0
AlikeTextsBindAlike =
    (a b : List Token) (tree : Node) → length b ≡ length a → ((i j : ℕ) → alike b i j ≡ alike a i j) → AllSayTheSame a b
    → gnu_binding_of b tree ≡ gnu_binding_of a tree

-- A text that GNU C reads and binds so is read and bound so where no token is respelled, or one spelling becomes another
-- wherever it stands.
abbrev pub WholeTextsAreReadSo : Type 0
WholeTextsAreReadSo =
    (before after : List Token) (tree : Node) (bound : Bound) → map (λ (t : Token). t.kind) after ≡ map (λ (t : Token). t.kind) before → goes_whole before after ≡ true
    → read_of (grammar Gnu) before ≡ Ok tree → gnu_binding_of before tree ≡ Ok bound
    → (read_of (grammar Gnu) after ≡ Ok tree) × (gnu_binding_of after tree ≡ Ok bound)
