-- What texts give, character by character.
use Rattle.std.proofs.Common.{◌≡◌, ℕ, ◌+◌, ◌<◌, ◌≤◌, false, List, [], ◌∷◌, ◌++◌, length, drop, get_or, refl, sym, ap, ◌∙◌, append_assoc, add-one}
use Rattle.std.proofs.Math.Seq.{drop-cons}
use Rattle.std.specs.Prelude.{◌==◌}
use Rattle.std.specs.List.{list_any}
use Rattle.std.proofs.lemmas.Bool.{or_parts}
use Rattle.std.proofs.lemmas.List.{drop_all}
use Rattle.gnu_lists.specs.declared.strings.Escape.{Escape}
use Rattle.gnu_lists.specs.Strings.{backslash, given_at, step, unescaped, unescaped_from, value_of}

-- without a backslash a text gives itself
pub unescaped_plain : (text : List ℕ) → list_any (λ c. c == backslash) text ≡ false → unescaped text ≡ text
unescaped_plain [] none = refl
unescaped_plain (c ∷ text) none =
    let p = or_parts (c == backslash) (list_any (λ d. d == backslash) text) none in
    rw p.0 (ap (λ (ds : List ℕ). c ∷ ds) (unescaped_plain text p.1))

-- one more character is read
pub read_on : (out more whole : List ℕ) (e f : Escape) (text : List ℕ) (k : ℕ) → k < length text
    → out ++ unescaped_from e (drop k text) ≡ whole → more ≡ out ++ given_at e (get_or text k 0) → f ≡ step e (get_or text k 0)
    → more ++ unescaped_from f (drop (k + 1) text) ≡ whole
read_on out more whole e f text k lt so_far put next =
    let x = get_or text k 0 in
    let rest = drop (k + 1) text in
    let cut : drop k text ≡ x ∷ rest = rw add-one (drop-cons text k 0 lt) in
    ap (λ (os : List ℕ). os ++ unescaped_from f rest) put ∙ ap (λ (g : Escape). (out ++ given_at e x) ++ unescaped_from g rest) next
    ∙ append_assoc out (given_at e x) (unescaped_from (step e x) rest) ∙ ap (λ (ts : List ℕ). out ++ unescaped_from e ts) (sym cut) ∙ so_far

-- all of them are
pub read_all : (out whole : List ℕ) (e : Escape) (text : List ℕ) (k : ℕ) → length text ≤ k
    → out ++ unescaped_from e (drop k text) ≡ whole → out ++ value_of e ≡ whole
read_all out whole e text k past so_far = ap (λ (ts : List ℕ). out ++ unescaped_from e ts) (sym (drop_all k text past)) ∙ so_far
