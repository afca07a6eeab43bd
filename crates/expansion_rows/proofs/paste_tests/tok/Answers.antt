use Rattle.std.proofs.Common.{◌≡◌, ℕ, ◌-◌, true, Option, Some, None, Result, Ok, Err, List, [], ◌∷◌, length, map, replicate, refl, ap, sym, ◌∙◌, arith, IfOk}
use Rattle.std.specs.List.{list_all}
use Rattle.std.specs.Option.{is_some}
use Rattle.std.proofs.lemmas.List.{length-map}
use Rattle.std.proofs.lemmas.List.Folds.{list_all-append}
use Rattle.cs_base.specs.declared.tokens.Kind.{Kind}
use Rattle.cs_base.specs.declared.no_memory.Memory.{Memory}
use Rattle.cs_base.specs.declared.positions.Pos.{Pos}
use Rattle.cs_base.specs.Token.{Token, token, IsTraced}
use Rattle.cs_base.specs.Padding.{padded}
use Rattle.paste_origin.specs.Pasting.{IsWhollyTraced}
use Rattle.expansion_rows.proofs.paste_tests.tok.Goals as goal

-- an origin for each character
list_all-map : (word : List ℕ) (at : Pos) → list_all is_some (map (λ _. Some at) word) ≡ true
list_all-map [] at = refl
list_all-map (c ∷ cs) at = list_all-map cs at

-- the origins of a token with an origin for each character
all_traced : (word : List ℕ) (at : Pos) (origins : List (Option Pos)) → origins ≡ map (λ _. Some at) word
    → list_all is_some (padded (length word) origins) ≡ true
all_traced word at origins each =
    let none : length word - length word ≡ 0 = omega arith in
    rw (each, length-map word (λ (_ : ℕ). Some at), none, list_all-append is_some (map (λ (_ : ℕ). Some at) word) (replicate 0 None), list_all-map word at) refl

pub new-requires-clause-traced : goal.new-requires-clause-traced
new-requires-clause-traced c = λ _. all_traced c.args.text.now c.args.at c.deref.result.now (c.deref.ensures.value ∙ c.in_ok-origins.ensures)

-- what is true of the token is true of the answer
if_ok : (r : Result Token Memory) (t : Token) → IfOk r (λ v. v ≡ t) → list_all is_some t.origins ≡ true → IfOk r IsWhollyTraced
if_ok (Ok v) t is traced = ap (λ (x : Token). list_all is_some x.origins) is ∙ traced
if_ok (Err e) t is traced = is

pub returns : goal.returns
returns c =
    if_ok c.new.result (token c.unwrap_or-kind.result c.args.text.now (padded (length c.args.text.now) c.deref.result.now) c.args.gap c.args.at 3 true) c.new.ensures.answer
    (all_traced c.args.text.now c.args.at c.deref.result.now (c.deref.ensures.value ∙ c.in_ok-origins.ensures))
