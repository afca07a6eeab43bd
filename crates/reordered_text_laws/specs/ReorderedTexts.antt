-- What is true of items that change places, as to how they are read.
use Rattle.std.specs.Prelude.{ℕ, ◌≡◌, true, false, List, [], ◌∷◌, ◌++◌, map, Option, None, Some, IsPermutation}
use Rattle.c99_grammar.specs.declared.dialects.Dialect.{Dialect}
use Rattle.c99_tree.specs.Tree.{Forest, none, token, node}
use Rattle.c99_tree.specs.declared.production.Production.{Production}
use Rattle.c99_tree.specs.declared.production.Production.TheVariants.{Assign, Param, Args, Params}
use Rattle.c99_grammar.specs.declared.classes.Class.{Class}
use Rattle.c99_grammar.specs.declared.classes.Class.TheVariants.{RightParen, Identifier}
use Rattle.c99_grammar.specs.Classes.{among}
use Rattle.c99_grammar.specs.Standard.{Grammar, grammar}
use Rattle.c99_read.specs.Reading.{Goal, produce}
use Rattle.c99_read.specs.Sound.{never_empty}
use Rattle.reordered_text_laws.specs.ByClasses.{joined, tokens_of, Taken, taken, child_of, here, behind, read_by_classes}
use Rattle.reordered_text_laws.specs.Lists.{Others, listed, listed_with, items_in, AreCommas, IsTail, EndsItem}

-- What is read for a production is read the same before any tokens that begin with the same two classes, wherever it
-- stands.
abbrev pub PartsAreReadAnywhere : Type 0
PartsAreReadAnywhere =
    (s : Dialect) (class_of : ℕ → Class) (fuel depth : ℕ) (p : Production) (xs zs : List ℕ) (t : Taken) → never_empty p ≡ true
    → read_by_classes (grammar s) class_of fuel depth (produce p) xs ≡ Some t
    → here (grammar s) class_of t.left ≡ here (grammar s) class_of zs → behind (grammar s) class_of t.left ≡ behind (grammar s) class_of zs
    → (xs ≡ tokens_of t.read ++ t.left) × (read_by_classes (grammar s) class_of fuel depth (produce p) (tokens_of t.read ++ zs) ≡ Some (taken t.read zs))

-- An argument or a parameter that is read before a comma or the end of its list is read the same before any tokens that
-- begin with one of these, wherever it stands.
abbrev pub ReadsAnywhere : Production → Type 0
ReadsAnywhere item =
    (s : Dialect) (class_of : ℕ → Class) (fuel depth : ℕ) (xs zs : List ℕ) (t : Taken) → read_by_classes (grammar s) class_of fuel depth (produce item) xs ≡ Some t
    → EndsItem (here (grammar s) class_of t.left) → EndsItem (here (grammar s) class_of zs)
    → (xs ≡ tokens_of t.read ++ t.left) × (read_by_classes (grammar s) class_of fuel depth (produce item) (tokens_of t.read ++ zs) ≡ Some (taken t.read zs))

abbrev pub ItemsAreReadAnywhere : Type 0
ItemsAreReadAnywhere = ReadsAnywhere Assign × ReadsAnywhere Param

-- The arguments of a call (6.5.2) that are read before the end of their list are arguments with commas between them; and
-- the same arguments in any other order, with any commas between them, are read to the list of these.
abbrev pub ArgumentsAreReadInAnyOrder : Type 0
ArgumentsAreReadInAnyOrder =
    (s : Dialect) (class_of : ℕ → Class) (fuel depth : ℕ) (xs : List ℕ) (t : Taken) → read_by_classes (grammar s) class_of fuel depth (produce Args) xs ≡ Some t
    → here (grammar s) class_of t.left ≡ RightParen
    → (first : Forest) × ((more : Others) × ((t.read ≡ child_of Args 1 (listed first more)) × (AreCommas class_of more
    × ((other : Forest) (others : Others) (zs : List ℕ) → IsPermutation (items_in first more) (items_in other others) → AreCommas class_of others
    → here (grammar s) class_of zs ≡ RightParen
    → (steps : ℕ) × (read_by_classes (grammar s) class_of steps depth (produce Args) (tokens_of (listed other others) ++ zs) ≡ Some (taken (child_of Args 1 (listed other others)) zs))))))

-- So are the parameters of a list of these (6.7.5.3), which does not begin with an identifier; a comma and `...` at its end
-- stay there.
abbrev pub ParametersAreReadInAnyOrder : Type 0
ParametersAreReadInAnyOrder =
    (s : Dialect) (class_of : ℕ → Class) (fuel depth : ℕ) (xs : List ℕ) (t : Taken) → read_by_classes (grammar s) class_of fuel depth (produce Params) xs ≡ Some t
    → here (grammar s) class_of t.left ≡ RightParen → among (Identifier ∷ []) (here (grammar s) class_of xs) ≡ false
    → (first : Forest) × ((more : Others) × ((tail : Forest) × ((t.read ≡ child_of Params 2 (listed_with first more tail)) × ((AreCommas class_of more × IsTail class_of tail)
    × ((other : Forest) (others : Others) (zs : List ℕ) → IsPermutation (items_in first more) (items_in other others) → AreCommas class_of others
    → here (grammar s) class_of zs ≡ RightParen
    → (steps : ℕ) × (read_by_classes (grammar s) class_of steps depth (produce Params) (tokens_of (listed_with other others tail) ++ zs)
    ≡ Some (taken (child_of Params 2 (listed_with other others tail)) zs)))))))

-- ---- Lists in their parentheses

-- the children of a list in its parentheses, which are told by their numbers
abbrev pub enclosed : ℕ → Forest → ℕ → Forest
enclosed opening list closing = token opening (joined list (token closing none))

-- ---- Numbers of tokens

-- the children with other numbers for their tokens
abbrev pub renumbered : (ℕ → ℕ) → Forest → Forest
renumbered m none = none
renumbered m (token i rest) = token (m i) (renumbered m rest)
renumbered m (node l first under rest) = node l first (renumbered m under) (renumbered m rest)

abbrev pub renumbered_reading : (ℕ → ℕ) → Option Taken → Option Taken
renumbered_reading m None = None
renumbered_reading m (Some t) = Some (taken (renumbered m t.read) (map m t.left))

-- By any grammar tokens are read alike whatever their numbers are.
abbrev pub NumbersDoNotMatter : Type 0
NumbersDoNotMatter =
    (g : Grammar) (class_of : ℕ → Class) (m : ℕ → ℕ) (fuel depth : ℕ) (goal : Goal) (xs : List ℕ)
    → read_by_classes g class_of fuel depth goal (map m xs) ≡ renumbered_reading m (read_by_classes g (λ i. class_of (m i)) fuel depth goal xs)
