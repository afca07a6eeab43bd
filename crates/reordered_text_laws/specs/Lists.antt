-- Items with commas between them (ISO/IEC 9899:1999, 6.5.2 and 6.7.5): what stands below a list of arguments or parameters.
use Rattle.std.specs.Prelude.{ℕ, ◌≡◌, ◌⊎◌, List, [], ◌∷◌, map}
use Rattle.c99_tree.specs.Tree.{Forest, none, token}
use Rattle.c99_grammar.specs.declared.classes.Class.{Class}
use Rattle.c99_grammar.specs.declared.classes.Class.TheVariants.{Comma, RightParen, Ellipsis}
use Rattle.reordered_text_laws.specs.ByClasses.{joined}

-- items behind their commas, each of which is told by its number
abbrev pub Others : Type 0
Others = List (ℕ × Forest)

abbrev pub others_of : Others → Forest
others_of [] = none
others_of (x ∷ more) = token x.0 (joined x.1 (others_of more))

-- an item, and others behind it
abbrev pub listed : Forest → Others → Forest
listed first more = joined first (others_of more)

-- the items alone
abbrev pub items_in : Forest → Others → List Forest
items_in first more = first ∷ map (λ (x : ℕ × Forest). x.1) more

-- each of these tokens is a comma
abbrev pub AreCommas : (ℕ → Class) → Others → Type 0
AreCommas class_of [] = Unit {0}
AreCommas class_of (x ∷ more) = (class_of x.0 ≡ Comma) × AreCommas class_of more

-- a comma, or the parenthesis that ends a list
abbrev pub EndsItem : Class → Type 0
EndsItem c = (c ≡ Comma) ⊎ (c ≡ RightParen)

-- A list of parameters may end with a comma and `...`; else nothing stands behind the last one.
abbrev pub IsTail : (ℕ → Class) → Forest → Type 0
IsTail class_of none = Unit {0}
IsTail class_of (token i (token j none)) = (class_of i ≡ Comma) × (class_of j ≡ Ellipsis)
IsTail class_of _ = ⊥

-- parameters with such an end
abbrev pub listed_with : Forest → Others → Forest → Forest
listed_with first more tail = joined first (joined (others_of more) tail)
