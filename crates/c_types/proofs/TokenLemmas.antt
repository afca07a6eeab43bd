-- Facts on the tokens of trees.
use Rattle.std.proofs.Common.{List, refl, sym, true, ℕ, ◌+◌, ◌∙◌, ◌∷◌, ◌≡◌}
use Rattle.std.proofs.lemmas.Slice.Eq.{bytes_eq-Decides}
use Rattle.std.proofs.lemmas.Bool.{eq-eqb}
use Rattle.std.specs.Prelude.{◌%◌, ◌==◌}
use Rattle.c99_tree.specs.Tree.{Forest, token}
use Rattle.c_types.specs.Declarations.{alike, spelling_at}
use Rattle.c_types.specs.Lists.{odd_tokens}
use Rattle.cs_base.specs.Token.{Token}

pub alike_itself : (toks : List Token) (i : ℕ) → alike toks i i ≡ true
alike_itself toks i = (bytes_eq-Decides (spelling_at toks i) (spelling_at toks i)).1 refl

pub alike_on : (toks : List Token) (i j k : ℕ) → alike toks i j ≡ true → alike toks j k ≡ true → alike toks i k ≡ true
alike_on toks i j k e f =
    (bytes_eq-Decides (spelling_at toks i) (spelling_at toks k)).1
    ((bytes_eq-Decides (spelling_at toks i) (spelling_at toks j)).0 e ∙ (bytes_eq-Decides (spelling_at toks j) (spelling_at toks k)).0 f)

pub odd_here : (k i : ℕ) (rest : Forest) → k % 2 ≡ 1 → odd_tokens k (token i rest) ≡ i ∷ odd_tokens (k + 1) rest
odd_here k i rest odd = let here : (k % 2 == 1) ≡ true = eq-eqb (k % 2) 1 odd in rw here refl

pub alike_back : (toks : List Token) (i j : ℕ) → alike toks i j ≡ true → alike toks j i ≡ true
alike_back toks i j e =
    (bytes_eq-Decides (spelling_at toks j) (spelling_at toks i)).1 (sym ((bytes_eq-Decides (spelling_at toks i) (spelling_at toks j)).0 e))
