use Rattle.std.proofs.Common.{◌≡◌, ℕ, ◌-◌, true, Option, Some, None, List, [], ◌∷◌, length, map, replicate, refl, ◌∙◌, arith}
use Rattle.std.specs.List.{list_all}
use Rattle.std.specs.Option.{is_some}
use Rattle.std.proofs.lemmas.List.{length-map}
use Rattle.std.proofs.lemmas.List.Folds.{list_all-append}
use Rattle.cs_base.specs.declared.tokens.Kind.{Kind}
use Rattle.cs_base.specs.declared.positions.Pos.{Pos}
use Rattle.cs_base.specs.Token.{IsTraced}
use Rattle.cs_base.specs.Padding.{padded}
use Rattle.row_tools.proofs.tokens.tok.Goals as goal

-- an origin for each character
list_all-map : (word : List ℕ) (at : Pos) → list_all is_some (map (λ _. Some at) word) ≡ true
list_all-map [] at = refl
list_all-map (c ∷ cs) at = list_all-map cs at

-- a token with an origin for each character
IsTraced-map : (kind : Kind) (word : List ℕ) (at : Pos) (origins : List (Option Pos)) → origins ≡ map (λ _. Some at) word
    → IsTraced kind (padded (length word) origins)
IsTraced-map kind word at origins each = λ _.
    let none : length word - length word ≡ 0 = omega arith in
    rw (each, length-map word (λ (_ : ℕ). Some at), none, list_all-append is_some (map (λ (_ : ℕ). Some at) word) (replicate 0 None), list_all-map word at) refl

pub new-requires-clause-traced : goal.new-requires-clause-traced
new-requires-clause-traced c =
    IsTraced-map c.kind_of.result c.args.word.now (record { file = 1; at = 0 }) c.deref.result.now
    (c.deref.ensures.value ∙ c.in_ok-origins.ensures)
