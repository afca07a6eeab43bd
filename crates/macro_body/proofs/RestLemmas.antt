-- A comma and the variable arguments behind it, in GNU C: what stands for them, and what they cost.
use Rattle.std.proofs.Common.{◌≡◌, ℕ, ◌+◌, ◌≤◌, ◌<◌, List, [], ◌∷◌, ◌++◌, length, map, get_or, refl, sym, ap, ◌∙◌, arith}
use Rattle.std.proofs.lemmas.Bool.{lt-ltb, le-ltb}
use Rattle.std.proofs.lemmas.List.{length-map}
use Rattle.cs_base.specs.Token.{Token}
use Rattle.macro_body.specs.Hides.{Hidden, hidden}
use Rattle.macro_body.specs.Bodies.{token_of}
use Rattle.macro_body.specs.BodyParts.{part_as}
use Rattle.macro_body.specs.Substitution.{put_in, moved_in, rest_tokens, rest_for}
use Rattle.macro_body.specs.declared.chains.PartRole.{PartRole}
use Rattle.macro_body.specs.declared.chains.PartRole.TheVariants as role

-- the call has them
pub rest-there : (name comma : Token) (raw : List (List Hidden)) (i : ℕ) → i < length raw
    → rest_for name comma raw i ≡ hidden (put_in name comma.gap comma) [] ∷ map moved_in (get_or raw i [])
rest-there name comma raw i within = ap (λ b. rest_tokens b name comma (get_or raw i [])) (lt-ltb i (length raw) within)

-- it has none
pub rest-missing : (name comma : Token) (raw : List (List Hidden)) (i : ℕ) → length raw ≤ i → rest_for name comma raw i ≡ []
rest-missing name comma raw i past = ap (λ b. rest_tokens b name comma (get_or raw i [])) (le-ltb i (length raw) past)

-- tokens that were put out for them
pub rest-put : (name comma : Token) (raw : List (List Hidden)) (i : ℕ) (first all hs : List Hidden) → i < length raw
    → first ≡ hidden (put_in name comma.gap comma) [] ∷ [] → hs ≡ get_or raw i [] → all ≡ first ++ map moved_in hs → all ≡ rest_for name comma raw i
rest-put name comma raw i first all hs within first_is hs_is is =
    is ∙ ap (λ f. f ++ map moved_in hs) first_is ∙ ap (λ l. hidden (put_in name comma.gap comma) [] ∷ map moved_in l) hs_is ∙ sym (rest-there name comma raw i within)

pub rest_cost-there : (name comma : Token) (raw : List (List Hidden)) (i n : ℕ) → i < length raw → n ≡ length (get_or raw i []) + 1 → n ≡ length (rest_for name comma raw i)
rest_cost-there name comma raw i n within is =
    let there = ap (λ (hs : List Hidden). length hs) (rest-there name comma raw i within) in
    omega (arith, is, there, length-map (get_or raw i []) moved_in)

pub rest_cost-missing : (name comma : Token) (raw : List (List Hidden)) (i : ℕ) → length raw ≤ i → 0 ≡ length (rest_for name comma raw i)
rest_cost-missing name comma raw i past = sym (ap (λ (hs : List Hidden). length hs) (rest-missing name comma raw i past))

-- the token of a part, as the program has it
pub token_of-as : (t : Token) (r : PartRole) → token_of (part_as t r) ≡ t
token_of-as t role.Plain = refl
token_of-as t (role.Param i) = refl
token_of-as t (role.Quote i) = refl
token_of-as t role.Paste = refl
token_of-as t (role.Rest i) = refl
