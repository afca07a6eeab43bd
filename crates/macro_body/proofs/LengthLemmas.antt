-- How many tokens a replacement puts in: fewer than it costs.
use Rattle.std.proofs.Common.{◌≡◌, ℕ, suc, ◌+◌, ◌≤◌, Bool, true, false, List, [], ◌∷◌, ◌++◌, length, Result, Ok, Err, refl, ap, sym, subst, arith, length-append}
use Rattle.cs_base.specs.Token.{Token}
use Rattle.paste_origin.specs.Pasting.{glue_of}
use Rattle.paste_origin.specs.Strings.{StringFault}
use Rattle.macro_body.specs.Hides.{Hidden}
use Rattle.macro_body.specs.Bodies.{Part, Plain, Param, Quote, Paste, Rest}
use Rattle.macro_body.specs.Substitution.{Arguments, Made, with_gap, part_cost, parts_cost, is_alone, chains_cost, cost_of, string_made, operand_made, operands_made, chains_made, token_pasted, pasted_behind, two_pasted, chain_pasted, chains_pasted, result_of}
use Rattle.macro_body.proofs.ResultLemmas.{ok_same, err_ok, onward_ok}

pub length-with_gap : (gap : Bool) (hs : List Hidden) → length (with_gap gap hs) ≡ length hs
length-with_gap gap [] = refl
length-with_gap gap (h ∷ hs) = refl

-- the tokens of lists, counted
pub total : {X : Type 0} → List (List X) → ℕ
total [] = 0
total (x ∷ xs) = length x + total xs

-- one string for a `#`
length-string_made : (name sign : Token) (toks : List Token) (r : Result Token StringFault) (m : Made (List Hidden))
    → string_made name sign toks r ≡ Ok m → length m.value ≡ 1
length-string_made name sign toks (Ok s) m e = sym (ap (λ (v : Made (List Hidden)). length v.value) (ok_same _ m e))
length-string_made name sign toks (Err f) m e = err_ok _ m e

length-operand_made : (name : Token) (args : Arguments) (lone : Bool) (p : Part) (m : Made (List Hidden))
    → operand_made name args lone p ≡ Ok m → length m.value ≡ part_cost name args lone p
length-operand_made name args lone (Plain t) m e = sym (ap (λ (v : Made (List Hidden)). length v.value) (ok_same _ m e))
length-operand_made name args lone (Paste t) m e = sym (ap (λ (v : Made (List Hidden)). length v.value) (ok_same _ m e))
length-operand_made name args true (Param t i) m e = sym (ap (λ (v : Made (List Hidden)). length v.value) (ok_same _ m e))
length-operand_made name args false (Param t i) m e = sym (ap (λ (v : Made (List Hidden)). length v.value) (ok_same _ m e))
length-operand_made name args lone (Quote t i) m e = length-string_made name t _ _ m e
length-operand_made name args lone (Rest t i) m e = sym (ap (λ (v : Made (List Hidden)). length v.value) (ok_same _ m e))

total-operands_made : (name : Token) (args : Arguments) (lone : Bool) (ps : List Part) (m : Made (List (List Hidden)))
    → operands_made name args lone ps ≡ Ok m → total m.value ≡ parts_cost name args lone ps
unfolding total
total-operands_made name args lone [] m e = sym (ap (λ (v : Made (List (List Hidden))). total v.value) (ok_same _ m e))
total-operands_made name args lone (p ∷ ps) m e =
    let i = onward_ok {A = Made (List Hidden)} (operand_made name args lone p) _ m e in
    let j = onward_ok {A = Made (List (List Hidden))} (operands_made name args lone ps) _ m i.2 in
    let is : length i.0.value + total j.0.value ≡ total m.value = ap (λ (v : Made (List (List Hidden))). total v.value) (ok_same _ m j.2) in
    omega (arith, is, length-operand_made name args lone p i.0 i.1, total-operands_made name args lone ps j.0 j.1)

-- the tokens of chains, counted
pub total_of : {X : Type 0} → List (List (List X)) → ℕ
total_of [] = 0
total_of (x ∷ xs) = total x + total_of xs

total-chains_made : (name : Token) (args : Arguments) (cs : List (List Part)) (m : Made (List (List (List Hidden))))
    → chains_made name args cs ≡ Ok m → total_of m.value ≤ chains_cost name args cs
unfolding total_of
total-chains_made name args [] m e = subst (λ n. n ≤ 0) (ap (λ (v : Made (List (List (List Hidden)))). total_of v.value) (ok_same _ m e)) (omega arith)
total-chains_made name args (c ∷ cs) m e =
    let i = onward_ok {A = Made (List (List Hidden))} (operands_made name args (is_alone c) c) _ m e in
    let j = onward_ok {A = Made (List (List (List Hidden)))} (chains_made name args cs) _ m i.2 in
    let is : total i.0.value + total_of j.0.value ≡ total_of m.value = ap (λ (v : Made (List (List (List Hidden)))). total_of v.value) (ok_same _ m j.2) in
    omega (arith, is, total-operands_made name args (is_alone c) c i.0 i.1, total-chains_made name args cs j.0 j.1)

-- one token for two
length-pasted_behind : (name : Token) (x : Hidden) (xs ys : List Hidden) (m : Made (List Hidden))
    → pasted_behind name x xs ys ≡ Ok m → length m.value ≤ suc (length xs) + length ys
length-pasted_behind name x [] [] m e = subst (λ n. n ≤ suc 0 + 0) (ap (λ (v : Made (List Hidden)). length v.value) (ok_same _ m e)) (omega arith)
length-pasted_behind name x [] (y ∷ ys) m e =
    let i = onward_ok {A = Made Hidden} (token_pasted name x y (glue_of x.tok y.tok)) _ m e in
    let is : suc (length ys) ≡ length m.value = ap (λ (v : Made (List Hidden)). length v.value) (ok_same _ m i.2) in
    omega (arith, is)
length-pasted_behind name x (x2 ∷ xs) ys m e =
    let i = onward_ok {A = Made (List Hidden)} (pasted_behind name x2 xs ys) _ m e in
    let is : suc (length i.0.value) ≡ length m.value = ap (λ (v : Made (List Hidden)). length v.value) (ok_same _ m i.2) in
    omega (arith, is, length-pasted_behind name x2 xs ys i.0 i.1)

length-two_pasted : (name : Token) (xs ys : List Hidden) (m : Made (List Hidden))
    → two_pasted name xs ys ≡ Ok m → length m.value ≤ length xs + length ys
length-two_pasted name [] ys m e = let is : length ys ≡ length m.value = ap (λ (v : Made (List Hidden)). length v.value) (ok_same _ m e) in omega (arith, is)
length-two_pasted name (x ∷ xs) ys m e = length-pasted_behind name x xs ys m e

length-chain_pasted : (name : Token) (xs : List Hidden) (yss : List (List Hidden)) (m : Made (List Hidden))
    → chain_pasted name xs yss ≡ Ok m → length m.value ≤ length xs + total yss
unfolding total
length-chain_pasted name xs [] m e = let is : length xs ≡ length m.value = ap (λ (v : Made (List Hidden)). length v.value) (ok_same _ m e) in omega (arith, is)
length-chain_pasted name xs (ys ∷ yss) m e =
    let i = onward_ok {A = Made (List Hidden)} (two_pasted name xs ys) _ m e in
    let j = onward_ok {A = Made (List Hidden)} (chain_pasted name i.0.value yss) _ m i.2 in
    let is : length j.0.value ≡ length m.value = ap (λ (v : Made (List Hidden)). length v.value) (ok_same _ m j.2) in
    omega (arith, is, length-two_pasted name xs ys i.0 i.1, length-chain_pasted name i.0.value yss j.0 j.1)

length-chains_pasted : (name : Token) (cs : List (List (List Hidden))) (m : Made (List Hidden))
    → chains_pasted name cs ≡ Ok m → length m.value ≤ total_of cs
unfolding total_of
length-chains_pasted name [] m e = subst (λ n. n ≤ 0) (ap (λ (v : Made (List Hidden)). length v.value) (ok_same _ m e)) (omega arith)
length-chains_pasted name (c ∷ cs) m e =
    let i = onward_ok {A = Made (List Hidden)} (chain_pasted name [] c) _ m e in
    let j = onward_ok {A = Made (List Hidden)} (chains_pasted name cs) _ m i.2 in
    let is : length (i.0.value ++ j.0.value) ≡ length m.value = ap (λ (v : Made (List Hidden)). length v.value) (ok_same _ m j.2) in
    omega (arith, is, length-append i.0.value j.0.value, length-chain_pasted name [] c i.0 i.1, length-chains_pasted name cs j.0 j.1)

-- a replacement puts in fewer tokens than it costs
pub length-result_of : (name : Token) (args : Arguments) (chains : List (List Part)) (m : Made (List Hidden))
    → result_of name args chains ≡ Ok m → suc (length m.value) ≤ cost_of name args chains
unfolding result_of
length-result_of name args chains m e =
    let i = onward_ok {A = Made (List (List (List Hidden)))} (chains_made name args chains) _ m e in
    let j = onward_ok {A = Made (List Hidden)} (chains_pasted name i.0.value) _ m i.2 in
    let is : length (with_gap name.gap j.0.value) ≡ length m.value = ap (λ (v : Made (List Hidden)). length v.value) (ok_same _ m j.2) in
    omega (arith, is, length-with_gap name.gap j.0.value, length-chains_pasted name i.0.value j.0 j.1, total-chains_made name args chains i.0 i.1)
