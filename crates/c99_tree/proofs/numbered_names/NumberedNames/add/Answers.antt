use Rattle.std.proofs.Common.{◌≡◌, List, ℕ, None, [], ◌∷◌, ◌++◌, false, map, position, length, sym, subst}
use Rattle.std.specs.Str.{bytes_eq}
use Rattle.std.proofs.Math.ListN.{length-map}
use Rattle.c99_tree.specs.NumberedNames.{marks_of, IsNumbered}
use Rattle.c99_tree.proofs.NameLemmas.{IsNumberOf-added, IsNumbered-added, nowhere, list_any-nowhere, marks_of-push}
use Rattle.c99_tree.proofs.numbered_names.NumberedNames.add.Goals as goal

abbrev name_in : goal.After-unwrap → List ℕ
name_in c = c.in_ok-spelling.spelling.items

abbrev names_in : goal.After-unwrap → List (List ℕ)
names_in c = map (λ k. k.items) c.self.inside.names.keys

none : (c : goal.After-unwrap) → position (bytes_eq (name_in c)) (names_in c) ≡ None
none c =
    let asked = rw (← c.self.view_is) at c.requires in
    let P : List ℕ → Type 0 = λ n. position (bytes_eq n) (names_in c) ≡ None in
    subst P (sym c.in_ok-spelling.ensures.items) asked

added : (c : goal.After-unwrap)
    → marks_of (map (λ k. k.items) c.insert.new.self.keys) c.push.new.self.items
    ≡ marks_of (names_in c ++ name_in c ∷ []) (c.self.inside.typedefs.items ++ false ∷ [])
added c =
    let absent = list_any-nowhere (λ k. k.items) (bytes_eq (name_in c)) c.self.inside.names.keys (nowhere _ _ (none c)) in
    marks_of-push (λ k. k.items) _ _ c.in_ok-spelling.spelling _ _
    (rw absent at c.in_ok-insert.ensures.keys)
    (rw c.in_ok-reserve.ensures.items at (rw c.unwrap.ensures at c.push.ensures.items))

pub invariant_of-self-2 : goal.invariant_of-self-2
invariant_of-self-2 c = subst IsNumbered (sym (added c)) (IsNumbered-added _ _ c.self.invariant (none c))

pub returns-clause-ok : goal.returns-clause-ok
returns-clause-ok c =
    let number : c.len-number.result ≡ length (names_in c) = rw length-map c.len-number.ensures.len in
    rw (← c.self.view_is) (rw (← c.in_ok-spelling.ensures.items) (rw (added c) (IsNumberOf-added _ _ c.self.invariant (none c) _ number)))
