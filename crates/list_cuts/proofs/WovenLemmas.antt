-- The walk over the places of a list puts the items in the new order.
use Rattle.std.proofs.Common.{ℕ, ◌+◌, ◌≡◌, ◌<◌, ◌≤◌, List, [], ◌++◌, length, drop, get_or, sym, ◌∙◌, append_assoc, append-nil}
use Rattle.std.proofs.lemmas.List.{drop_more, drop_all}
use Rattle.list_cuts.specs.Cuts.{woven}

-- What is put out once so many places are done, and what the others give, is the whole.
abbrev pub IsWoven : {X : Type 0} → List (List X) → List (List X) → List X → ℕ → Type 0
IsWoven items gaps out k = out ++ woven (drop k items) (drop k gaps) ≡ woven items gaps

pub woven_more : {X : Type 0} (items gaps : List (List X)) (out more last : List X) (k : ℕ) → k < length items → k < length gaps
    → more ≡ out ++ get_or items k [] → last ≡ more ++ get_or gaps k [] → IsWoven items gaps out k → IsWoven items gaps last (k + 1)
unfolding woven
woven_more items gaps out more last k item gap first then so =
    let next = woven (drop (k + 1) items) (drop (k + 1) gaps) in
    let made : out ++ (get_or items k [] ++ (get_or gaps k [] ++ next)) ≡ woven items gaps =
    rw (drop_more items k [] item, drop_more gaps k [] gap) at so in
    rw (then, first)
    (append_assoc (out ++ get_or items k []) (get_or gaps k []) next ∙ append_assoc out (get_or items k []) (get_or gaps k [] ++ next) ∙ made)

pub woven_end : {X : Type 0} (items gaps : List (List X)) (out : List X) (k : ℕ) → length items ≤ k → IsWoven items gaps out k → out ≡ woven items gaps
unfolding woven
woven_end items gaps out k past so =
    let none : drop k items ≡ [] = drop_all k items past in
    let made : out ++ [] ≡ woven items gaps = rw none at so in
    sym (append-nil out) ∙ made
