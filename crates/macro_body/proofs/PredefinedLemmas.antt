-- The origins of the digits of a number.
use Rattle.std.proofs.Common.{◌≡◌, ℕ, zero, suc, ◌+◌, ◌-◌, ◌*◌, ◌≤◌, Bool, true, false, List, [], ◌∷◌, ◌++◌, length, replicate, Option, Some, None, IsTrue, refl, sym, ◌∙◌, ap, add-one, arith}
use Rattle.std.specs.Fmt.{decimal}
use Rattle.std.specs.List.{list_all}
use Rattle.std.specs.Option.{is_some}
use Rattle.std.proofs.lemmas.List.{append-nil}
use Rattle.cs_base.specs.declared.positions.Pos.{Pos}
use Rattle.cs_base.specs.Padding.{padded}
use Rattle.cs_base.specs.Token.{Token, token}
use Rattle.cs_base.specs.declared.tokens.Kind.TheVariants.{Number, Str}
use Rattle.macro_body.specs.Substitution.{digit_origins, number_token, path_text, path_string}

abbrev origin : ℕ → Option Pos
origin at = Some (record { file = 0; at = at })

-- one digit more
digit_origins-suc : (at n : ℕ) → digit_origins at (suc n) ≡ digit_origins at n ++ origin (at + n) ∷ []
digit_origins-suc at zero = let same : at ≡ at + 0 = omega arith in ap (λ (k : ℕ). origin k ∷ []) same
digit_origins-suc at (suc n) =
    let same : (at + 1) + n ≡ at + suc n = omega arith in
    ap (λ (os : List (Option Pos)). origin at ∷ os) (digit_origins-suc (at + 1) n ∙ ap (λ (k : ℕ). digit_origins (at + 1) n ++ origin k ∷ []) same)

pub digit_origins-push : (at n : ℕ) (os new : List (Option Pos)) → os ≡ digit_origins at n → new ≡ os ++ origin (at + n) ∷ [] → new ≡ digit_origins at (n + 1)
digit_origins-push at n os new before pushed =
    pushed ∙ ap (λ (xs : List (Option Pos)). xs ++ origin (at + n) ∷ []) before ∙ sym (digit_origins-suc at n) ∙ ap (λ (k : ℕ). digit_origins at k) (sym (add-one n))

pub length-digit_origins : (at n : ℕ) → length (digit_origins at n) ≡ n
length-digit_origins at zero = refl
length-digit_origins at (suc n) = let rest = length-digit_origins (at + 1) n in omega arith

pub list_all-digit_origins : (at n : ℕ) → list_all is_some (digit_origins at n) ≡ true
list_all-digit_origins at zero = refl
list_all-digit_origins at (suc n) = list_all-digit_origins (at + 1) n

-- each character has an origin: nothing is padded
pub padded-digit_origins : (at n : ℕ) → padded n (digit_origins at n) ≡ digit_origins at n
padded-digit_origins at n =
    let none : n - length (digit_origins at n) ≡ 0 = omega (arith, length-digit_origins at n) in
    ap (λ (k : ℕ). digit_origins at n ++ replicate k None) none ∙ append-nil (digit_origins at n)

-- The number in place of a name, of what the program has.

pub number-no_longer : (at : ℕ) (text : List ℕ) (os : List (Option Pos)) → os ≡ digit_origins at (length text) → length os ≤ length text
number-no_longer at text os is = omega (arith, ap length is, length-digit_origins at (length text))

padded-number : (at : ℕ) (text : List ℕ) (os : List (Option Pos)) → os ≡ digit_origins at (length text) → padded (length text) os ≡ digit_origins at (length text)
padded-number at text os is = ap (padded (length text)) is ∙ padded-digit_origins at (length text)

pub number-traced : (at : ℕ) (text : List ℕ) (os : List (Option Pos)) → os ≡ digit_origins at (length text) → IsTrue (list_all is_some (padded (length text) os))
number-traced at text os is = ap (list_all is_some) (padded-number at text os is) ∙ list_all-digit_origins at (length text)

pub number-made : (name t : Token) (n line : ℕ) (text : List ℕ) (os : List (Option Pos)) (gap : Bool) (at : Pos)
    → line ≡ name.line → gap ≡ name.gap → at ≡ name.at → text ≡ decimal n → os ≡ digit_origins (8 * n) (length text)
    → t ≡ token Number text (padded (length text) os) gap at line false → t ≡ number_token name n
number-made name t n line text os gap at line_is gap_is at_is spelled os_is is =
    is
    ∙ ap (λ (o : List (Option Pos)). token Number text o gap at line false) (padded-number (8 * n) text os os_is)
    ∙ ap (λ (s : List ℕ). token Number s (digit_origins (8 * n) (length s)) gap at line false) spelled
    ∙ ap (λ (b : Bool). token Number (decimal n) (digit_origins (8 * n) (length (decimal n))) b at line false) gap_is
    ∙ ap (λ (p : Pos). token Number (decimal n) (digit_origins (8 * n) (length (decimal n))) name.gap p line false) at_is
    ∙ ap (λ (l : ℕ). token Number (decimal n) (digit_origins (8 * n) (length (decimal n))) name.gap name.at l false) line_is

-- The string of a path, of what the program has.

padded-none : (n : ℕ) → padded n [] ≡ replicate n None
padded-none n =
    let all : n - 0 ≡ n = omega arith in
    ap (λ (k : ℕ). replicate k None) all

pub path_string-made : (path : List ℕ) (name t : Token) (text : List ℕ) (gap : Bool) (at : Pos) (line : ℕ)
    → text ≡ path_text path → gap ≡ name.gap → at ≡ name.at → line ≡ name.line
    → t ≡ token Str text (padded (length text) []) gap at line false → t ≡ path_string path name
path_string-made path name t text gap at line text_is gap_is at_is line_is is =
    is
    ∙ ap (λ (os : List (Option Pos)). token Str text os gap at line false) (padded-none (length text))
    ∙ ap (λ (s : List ℕ). token Str s (replicate (length s) None) gap at line false) text_is
    ∙ ap (λ (b : Bool). token Str (path_text path) (replicate (length (path_text path)) None) b at line false) gap_is
    ∙ ap (λ (p : Pos). token Str (path_text path) (replicate (length (path_text path)) None) name.gap p line false) at_is
    ∙ ap (λ (n : ℕ). token Str (path_text path) (replicate (length (path_text path)) None) name.gap name.at n false) line_is
