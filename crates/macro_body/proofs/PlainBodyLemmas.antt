-- Replacement lists of which nothing is made a string and nothing is pasted.
use Rattle.std.proofs.Common.{◌≡◌, Bool, true, false, List, [], ◌∷◌, ◌++◌, map, Result, Ok, Err, refl, ap, sym, ◌∙◌}
use Rattle.std.specs.List.{list_all, flat_map}
use Rattle.std.proofs.lemmas.Bool.{and_parts, false≢true}
use Rattle.cs_base.specs.Token.{Token}
use Rattle.macro_body.specs.Hides.{Hidden}
use Rattle.macro_body.specs.Bodies.{Part, Plain, Param, Quote, Paste, Rest}
use Rattle.macro_body.specs.Notes.{Fault, onward}
use Rattle.macro_body.specs.Substitution.{Arguments, Made, made, made_both, is_alone, with_gap, operands_made, chains_made, chains_pasted, result_of}
use Rattle.macro_body.specs.Kept.{Kept, kept_with, made_kept}
use Rattle.macro_body.specs.PlainBodies.{is_plain, plain_for}
use Rattle.macro_body.proofs.KeptLemmas.{kept_with-nil}

-- the one operand of a chain
one-made : (name : Token) (args : Arguments) (c : List Part) → is_plain c ≡ true → operands_made name args (is_alone c) c ≡ Ok (made (plain_for name args.full c ∷ []) [])
one-made name args [] h = absurd (false≢true h)
one-made name args (Plain t ∷ []) h = refl
one-made name args (Param t i ∷ []) h = refl
one-made name args (Quote t i ∷ []) h = absurd (false≢true h)
one-made name args (Rest t i ∷ []) h = absurd (false≢true h)
one-made name args (Paste t ∷ []) h = refl
one-made name args (p ∷ q ∷ ps) h = absurd (false≢true h)

plain-made : (name : Token) (args : Arguments) (chains : List (List Part)) → list_all is_plain chains ≡ true
    → chains_made name args chains ≡ Ok (made (map (λ c. plain_for name args.full c ∷ []) chains) [])
plain-made name args [] h = refl
plain-made name args (c ∷ cs) h =
    let p = and_parts (is_plain c) (list_all is_plain cs) h in
    rw (one-made name args c p.0, plain-made name args cs p.1) refl

plain-pasted : (name : Token) (full : List (List Hidden)) (chains : List (List Part))
    → chains_pasted name (map (λ c. plain_for name full c ∷ []) chains) ≡ Ok (made (flat_map (plain_for name full) chains) [])
plain-pasted name full [] = refl
plain-pasted name full (c ∷ cs) = rw (plain-pasted name full cs) refl

plain-result : (name : Token) (args : Arguments) (chains : List (List Part)) → list_all is_plain chains ≡ true
    → result_of name args chains ≡ Ok (made (with_gap name.gap (flat_map (plain_for name args.full) chains)) [])
unfolding result_of
plain-result name args chains h = rw (plain-made name args chains h, plain-pasted name args.full chains) refl

-- what stands for the parts, one behind the other, and nothing happens
pub plain-is : (name : Token) (args : Arguments) (chains : List (List Part)) (kept : Kept) (v toks : List Hidden) → list_all is_plain chains ≡ true
    → v ≡ flat_map (plain_for name args.full) chains → toks ≡ with_gap name.gap v → made_kept kept (result_of name args chains) ≡ Ok (toks, kept)
plain-is name args chains kept v toks plain is under =
    let F : List Hidden → Kept → Result (List Hidden × Kept) Fault = λ l k. Ok (l, k) in
    ap (λ (r : Result (Made (List Hidden)) Fault). made_kept kept r) (plain-result name args chains plain)
    ∙ ap (F (with_gap name.gap (flat_map (plain_for name args.full) chains))) (kept_with-nil kept)
    ∙ ap (λ (l : List Hidden). F l kept) (sym (under ∙ ap (with_gap name.gap) is))
