-- The links of a list of units, one unit after another.
use Rattle.std.proofs.Common.{ℕ, List, [], ◌∷◌, ◌++◌, None, filter, ◌≡◌, refl, sym, ap, ◌∙◌, inl, inr, if◌then◌else◌}
use Rattle.std.specs.List.{flat_map}
use Rattle.std.specs.Option.{option_or}
use Rattle.std.specs.Str.{bytes_eq}
use Rattle.std.proofs.lemmas.Bool.{cases_Bool}
use Rattle.std.proofs.lemmas.Grind.{flat_map-append}
use Rattle.std.proofs.lemmas.List.{append-nil, append_assoc}
use Rattle.std.proofs.lemmas.List.Elements.{filter-append}
use Rattle.std.proofs.lemmas.List.Folds.{find-append}
use Rattle.cs_base.specs.Token.{Token}
use Rattle.cs_base.specs.declared.tokens.Link.{Link}
use Rattle.linkage_join.specs.Linkage.{UnitValue, first_spelled, names_of, unit_links, links_after, links_of}

-- what one unit alone has of a project
pub first_in_one : (project text : List ℕ) (u : UnitValue)
    → first_spelled text (names_of project (u ∷ [])) ≡ (if bytes_eq project u.project then first_spelled text u.names else None)
first_in_one project text u = elim (cases_Bool (bytes_eq project u.project)) [
  | inl own ↦ rw own (ap (first_spelled text) (append-nil u.names))
  | inr other ↦ rw other refl
]

-- the first token of a spelling in a project, with one unit more
pub first_spelled-push : (project text : List ℕ) (units : List UnitValue) (u : UnitValue)
    → first_spelled text (names_of project (units ++ u ∷ []))
    ≡ option_or (first_spelled text (names_of project units)) (if bytes_eq project u.project then first_spelled text u.names else None)
first_spelled-push project text units u =
    ap (λ (us : List UnitValue). first_spelled text (flat_map (λ (v : UnitValue). v.names) us)) (filter-append (λ (v : UnitValue). bytes_eq project v.project) units (u ∷ []))
    ∙ ap (first_spelled text) (flat_map-append (λ (v : UnitValue). v.names) (filter (λ (v : UnitValue). bytes_eq project v.project) units) (filter (λ (v : UnitValue). bytes_eq project v.project) (u ∷ [])))
    ∙ find-append (λ (t : Token). bytes_eq text t.text) (names_of project units) (names_of project (u ∷ []))
    ∙ ap (option_or (first_spelled text (names_of project units))) (first_in_one project text u)

-- the links of units, with one unit more
links_after-push : (earlier units : List UnitValue) (u : UnitValue)
    → links_after earlier (units ++ u ∷ []) ≡ links_after earlier units ++ unit_links (earlier ++ units) u
links_after-push earlier [] u = append-nil _ ∙ ap (λ (us : List UnitValue). unit_links us u) (sym (append-nil earlier))
links_after-push earlier (v ∷ units) u =
    ap (λ (ls : List Link). unit_links earlier v ++ ls) (links_after-push (earlier ++ v ∷ []) units u)
    ∙ sym (append_assoc (unit_links earlier v) _ _)
    ∙ ap (λ (us : List UnitValue). links_after earlier (v ∷ units) ++ unit_links us u) (append_assoc earlier (v ∷ []) units)

pub links_of-push : (units : List UnitValue) (u : UnitValue) → links_of (units ++ u ∷ []) ≡ links_of units ++ unit_links units u
links_of-push units u = links_after-push [] units u
