-- Worked rows: texts as the classes of their tokens, read in two orders.
use Rattle.std.proofs.Common.{ℕ, ◌≡◌, ◌||◌, Bool, false, ◌==◌, List, [], ◌∷◌, length, get_or, Option, None, Some, refl}
use Rattle.c99_grammar.specs.declared.dialects.Edition.TheVariants.{C99}
use Rattle.c99_tree.specs.Tree.{Forest, none}
use Rattle.c99_tree.specs.declared.production.Production.TheVariants.{TranslationUnit}
use Rattle.c99_grammar.specs.declared.classes.Class.{Class}
use Rattle.c99_grammar.specs.declared.classes.Class.TheVariants.{Typedef, Int, Return, LeftParen, RightParen, LeftBrace, RightBrace, Star, Comma, Semicolon, Identifier, Constant, NoClass}
use Rattle.c99_grammar.specs.Standard.{iso}
use Rattle.c99_read.specs.Reading.{produce}
use Rattle.list_cuts.specs.Cuts.{done, arranged, items_of, woven, gaps_of, span_of}
use Rattle.reordered_tree_laws.specs.Reordered.{permuted}
use Rattle.reordered_tree_laws.specs.Cuts.{cut_then}
use Rattle.reordered_text_laws.specs.ByClasses.{numbers_from, Taken, taken, read_by_classes}

abbrev reading : List Class → List ℕ → Option Taken
reading text xs = read_by_classes (iso C99) (λ k. get_or text k NoClass) 64 0 (produce TranslationUnit) xs

abbrev read_so : Option Taken → Forest
read_so (Some t) = t.read
read_so None = none

-- what is read of a text, and the tokens of the text with its lists in the order
abbrev tree_of : List Class → Forest
tree_of text = read_so (reading text (numbers_from 0 (length text)))

abbrev in_order : List ℕ → (ℕ → Bool) → List Class → List ℕ
in_order order lists text = arranged order (cut_then lists false (tree_of text) done) (numbers_from 0 (length text))

-- typedef int T; int f(int T, int (*g)(int T));
abbrev hidden : List Class
hidden = (Typedef ∷ Int ∷ Identifier ∷ Semicolon ∷ Int ∷ Identifier ∷ LeftParen ∷ Int ∷ Identifier ∷ Comma ∷ Int ∷ LeftParen ∷ Star ∷ Identifier ∷ RightParen ∷ LeftParen ∷ Int ∷ Identifier ∷ RightParen ∷ RightParen ∷ Semicolon ∷ [])

hidden_tokens : in_order (2 ∷ 1 ∷ []) (λ k. k == 6) hidden ≡ (0 ∷ 1 ∷ 2 ∷ 3 ∷ 4 ∷ 5 ∷ 6 ∷ 10 ∷ 11 ∷ 12 ∷ 13 ∷ 14 ∷ 15 ∷ 16 ∷ 17 ∷ 18 ∷ 9 ∷ 7 ∷ 8 ∷ 19 ∷ 20 ∷ [])
unfolding read_by_classes arranged items_of woven gaps_of span_of
hidden_tokens = refl

hidden_read : reading hidden (in_order (2 ∷ 1 ∷ []) (λ k. k == 6) hidden) ≡ Some (taken (permuted (2 ∷ 1 ∷ []) (λ k. k == 6) false (tree_of hidden)) [])
unfolding read_by_classes arranged items_of woven gaps_of span_of
hidden_read = refl

-- int f(int a, int b) { return f(1, 2); } int g(int c) { return f(f(1, c), g(3)); }: lists inside each other
abbrev nested : List Class
nested = (Int ∷ Identifier ∷ LeftParen ∷ Int ∷ Identifier ∷ Comma ∷ Int ∷ Identifier ∷ RightParen ∷ LeftBrace ∷ Return ∷ Identifier ∷ LeftParen ∷ Constant ∷ Comma ∷ Constant ∷ RightParen ∷ Semicolon ∷ RightBrace ∷ Int ∷ Identifier ∷ LeftParen ∷ Int ∷ Identifier ∷ RightParen ∷ LeftBrace ∷ Return ∷ Identifier ∷ LeftParen ∷ Identifier ∷ LeftParen ∷ Constant ∷ Comma ∷ Identifier ∷ RightParen ∷ Comma ∷ Identifier ∷ LeftParen ∷ Constant ∷ RightParen ∷ RightParen ∷ Semicolon ∷ RightBrace ∷ [])

abbrev of_f : ℕ → Bool
of_f k = (k == 2) || ((k == 12) || ((k == 28) || (k == 30)))

nested_tokens : in_order (2 ∷ 1 ∷ []) of_f nested
    ≡ (0 ∷ 1 ∷ 2 ∷ 6 ∷ 7 ∷ 5 ∷ 3 ∷ 4 ∷ 8 ∷ 9 ∷ 10 ∷ 11 ∷ 12 ∷ 15 ∷ 14 ∷ 13 ∷ 16 ∷ 17 ∷ 18 ∷ 19 ∷ 20 ∷ 21 ∷ 22 ∷ 23 ∷ 24 ∷ 25 ∷ 26 ∷ 27 ∷ 28 ∷ 36 ∷ 37 ∷ 38 ∷ 39 ∷ 35 ∷ 29 ∷ 30 ∷ 33 ∷ 32 ∷ 31 ∷ 34 ∷ 40 ∷ 41 ∷ 42 ∷ [])
unfolding read_by_classes arranged items_of woven gaps_of span_of
nested_tokens = refl

nested_read : reading nested (in_order (2 ∷ 1 ∷ []) of_f nested) ≡ Some (taken (permuted (2 ∷ 1 ∷ []) of_f false (tree_of nested)) [])
unfolding read_by_classes arranged items_of woven gaps_of span_of
nested_read = refl
