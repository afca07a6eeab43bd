-- The links of the renamed analysis are the renamed links.
use Rattle.std.proofs.Common.{◌≡◌, ℕ, ◌+◌, Bool, true, false, List, [], ◌∷◌, ◌++◌, map, Option, None, Some, refl, ap, sym, ◌∙◌}
use Rattle.std.specs.Prelude.{filter, cond}
use Rattle.std.specs.List.{flat_map}
use Rattle.std.specs.Option.{option_map}
use Rattle.std.specs.Str.{bytes_eq}
use Rattle.std.proofs.lemmas.List.{map-append}
use Rattle.cs_base.specs.declared.tokens.Link.{Link}
use Rattle.cs_base.specs.Token.{Token}
use Rattle.cs_base.specs.Units.{UnitValue}
use Rattle.analysis.specs.Below.linkage_join.Linkage.{UnitValue as ExternalNames, unit as external_names, link_to, first_spelled, names_of, unit_links as links_in, links_after, links_of as external_links}
use Rattle.macro_expand.specs.Renaming.{Renaming, spelled, renamed}
use Rattle.analysis.specs.Below.scope_bind.declared.bound.Name.{Name}
use Rattle.analysis.specs.Below.scope_bind.Names.{entity_at}
use Rattle.analysis.specs.Analysis.{UnitAnalysis}
use Rattle.analysis.specs.Links.{is_bound_to, first_occurrence, occurrence_link, occurrence_links, is_external_name, external_names_from, names_of_units, are_alike, unit_links, links_of}
use Rattle.edited_unit_laws.specs.Lines.{Each}
use Rattle.edited_unit_laws.specs.UnitTexts.{renamed_link}
use Rattle.edited_unit_laws.specs.Analyses.{renamed_unit_analysis}
use Rattle.edited_unit_laws.specs.Links.{all_links, StaysAlike, SpelledAsBefore, KeepsNamesAfter, LinksAreRenamed}

-- ---- lists

-- two lists behind one another
pub both : {X Y : Type 0} (f : X → Y) (xs ys : List X) (us vs : List Y) → us ≡ map f xs → vs ≡ map f ys → us ++ vs ≡ map f (xs ++ ys)
both f xs ys us vs h k = ap (λ l. l ++ vs) h ∙ ap (λ l. map f xs ++ l) k ∙ sym (map-append f xs ys)

-- an element that is taken in both or in neither
kept : {X Y : Type 0} (f : X → Y) (b c : Bool) (x : X) (xs : List X) (ys : List Y) → b ≡ c → ys ≡ map f xs → cond b (f x ∷ ys) ys ≡ map f (cond c (x ∷ xs) xs)
kept f true true x xs ys e h = ap (λ l. f x ∷ l) h
kept f false false x xs ys e h = h
kept f true false x xs ys e h = absurd (cc)
kept f false true x xs ys e h = absurd (cc)

-- the first that is taken
chosen : {X Y : Type 0} (f : X → Y) (b c : Bool) (x : X) (o : Option X) (p : Option Y) → b ≡ c → p ≡ option_map f o → cond b (Some (f x)) p ≡ option_map f (cond c (Some x) o)
chosen f true true x o p e h = refl
chosen f false false x o p e h = h
chosen f true false x o p e h = absurd (cc)
chosen f false true x o p e h = absurd (cc)

module _ (r : Renaming) where
  -- ---- identifiers and their entities

  first-renamed : (names : List Name) (entity k : ℕ) (toks : List Token)
      → first_occurrence names entity k (map (renamed r) toks) ≡ option_map (renamed r) (first_occurrence names entity k toks)
  unfolding first_occurrence
  first-renamed names entity k [] = refl
  first-renamed names entity k (t ∷ toks) =
      chosen (renamed r) (is_bound_to names entity k) (is_bound_to names entity k) t (first_occurrence names entity (k + 1) toks)
      (first_occurrence names entity (k + 1) (map (renamed r) toks)) refl (first-renamed names entity (k + 1) toks)

  link-renamed : (o : Option Token) (t : Token) → link_to (option_map (renamed r) o) (renamed r t) ≡ map (renamed_link r) (link_to o t)
  link-renamed None t = refl
  link-renamed (Some first) t = refl

  occurrence-renamed : (names : List Name) (all : List Token) (t : Token) (o : Option ℕ)
      → occurrence_link names (map (renamed r) all) (renamed r t) o ≡ map (renamed_link r) (occurrence_link names all t o)
  occurrence-renamed names all t None = refl
  occurrence-renamed names all t (Some entity) =
      ap (λ o. link_to o (renamed r t)) (first-renamed names entity 0 all) ∙ link-renamed (first_occurrence names entity 0 all) t

  occurrences-renamed : (names : List Name) (all : List Token) (k : ℕ) (toks : List Token)
      → occurrence_links names (map (renamed r) all) k (map (renamed r) toks) ≡ map (renamed_link r) (occurrence_links names all k toks)
  unfolding occurrence_links
  occurrences-renamed names all k [] = refl
  occurrences-renamed names all k (t ∷ toks) =
      both (renamed_link r) (occurrence_link names all t (entity_at names k)) (occurrence_links names all (k + 1) toks)
      (occurrence_link names (map (renamed r) all) (renamed r t) (entity_at names k))
      (occurrence_links names (map (renamed r) all) (k + 1) (map (renamed r) toks))
      (occurrence-renamed names all t (entity_at names k)) (occurrences-renamed names all (k + 1) toks)

  in-unit : (u : UnitAnalysis) → unit_links (renamed_unit_analysis r u) ≡ map (renamed_link r) (unit_links u)
  in-unit u =
      both (renamed_link r) u.text.links (occurrence_links u.bound.names u.text.toks 0 u.text.toks) (map (renamed_link r) u.text.links)
      (occurrence_links u.bound.names (map (renamed r) u.text.toks) 0 (map (renamed r) u.text.toks))
      refl (occurrences-renamed u.bound.names u.text.toks 0 u.text.toks)

  in-units : (us : List UnitAnalysis) → flat_map unit_links (map (renamed_unit_analysis r) us) ≡ map (renamed_link r) (flat_map unit_links us)
  in-units [] = refl
  in-units (u ∷ us) =
      both (renamed_link r) (unit_links u) (flat_map unit_links us) (unit_links (renamed_unit_analysis r u))
      (flat_map unit_links (map (renamed_unit_analysis r) us)) (in-unit u) (in-units us)

  -- ---- names of external linkage

  external-renamed : (names : List Name) (k : ℕ) (toks : List Token)
      → external_names_from names k (map (renamed r) toks) ≡ map (renamed r) (external_names_from names k toks)
  unfolding external_names_from
  external-renamed names k [] = refl
  external-renamed names k (t ∷ toks) =
      kept (renamed r) (is_external_name names k) (is_external_name names k) t (external_names_from names (k + 1) toks)
      (external_names_from names (k + 1) (map (renamed r) toks)) refl (external-renamed names (k + 1) toks)

  abbrev renamed-names : ExternalNames → ExternalNames
  renamed-names v = external_names v.project (map (renamed r) v.names)

  units-renamed : (units : List UnitValue) (us : List UnitAnalysis)
      → names_of_units units (map (renamed_unit_analysis r) us) ≡ map renamed-names (names_of_units units us)
  units-renamed [] us = refl
  units-renamed (unit ∷ units) [] = refl
  units-renamed (unit ∷ units) (u ∷ us) =
      ap (λ (l : List Token). external_names unit.project l ∷ names_of_units units (map (renamed_unit_analysis r) us)) (external-renamed u.bound.names 0 u.text.toks)
      ∙ ap (λ (l : List ExternalNames). external_names unit.project (map (renamed r) (external_names_from u.bound.names 0 u.text.toks)) ∷ l) (units-renamed units us)

  of-one : (b : Bool) (v : ExternalNames) (vs ws : List ExternalNames) → flat_map (λ (u : ExternalNames). u.names) ws ≡ map (renamed r) (flat_map (λ (u : ExternalNames). u.names) vs)
      → flat_map (λ (u : ExternalNames). u.names) (cond b (renamed-names v ∷ ws) ws) ≡ map (renamed r) (flat_map (λ (u : ExternalNames). u.names) (cond b (v ∷ vs) vs))
  of-one true v vs ws h =
      both (renamed r) v.names (flat_map (λ (u : ExternalNames). u.names) vs) (map (renamed r) v.names) (flat_map (λ (u : ExternalNames). u.names) ws) refl h
  of-one false v vs ws h = h

  of-project : (project : List ℕ) (vs : List ExternalNames) → names_of project (map renamed-names vs) ≡ map (renamed r) (names_of project vs)
  of-project project [] = refl
  of-project project (v ∷ vs) =
      of-one (bytes_eq project v.project) v (filter (λ (u : ExternalNames). bytes_eq project u.project) vs) (filter (λ (u : ExternalNames). bytes_eq project u.project) (map renamed-names vs))
      (of-project project vs)

  spelled-renamed : (t : Token) (toks : List Token) → Each (SpelledAsBefore r t) toks
      → first_spelled (spelled r t) (map (renamed r) toks) ≡ option_map (renamed r) (first_spelled t.text toks)
  spelled-renamed t [] h = refl
  spelled-renamed t (u ∷ toks) h =
      chosen (renamed r) (bytes_eq (spelled r t) (spelled r u)) (bytes_eq t.text u.text) u (first_spelled t.text toks)
      (first_spelled (spelled r t) (map (renamed r) toks)) h.0 (spelled-renamed t toks h.1)

  abbrev to-first : List Token → Token → List Link
  to-first toks t = link_to (first_spelled t.text toks) t

  names-renamed : (toks names : List Token) → Each (λ t. Each (SpelledAsBefore r t) toks) names
      → flat_map (to-first (map (renamed r) toks)) (map (renamed r) names) ≡ map (renamed_link r) (flat_map (to-first toks) names)
  names-renamed toks [] h = refl
  names-renamed toks (t ∷ names) h =
      both (renamed_link r) (to-first toks t) (flat_map (to-first toks) names) (to-first (map (renamed r) toks) (renamed r t))
      (flat_map (to-first (map (renamed r) toks)) (map (renamed r) names))
      (ap (λ o. link_to o (renamed r t)) (spelled-renamed t toks h.0) ∙ link-renamed (first_spelled t.text toks) t) (names-renamed toks names h.1)

  unit-renamed : (earlier : List ExternalNames) (u : ExternalNames) → Each (λ t. Each (SpelledAsBefore r t) (names_of u.project earlier)) u.names
      → links_in (map renamed-names earlier) (renamed-names u) ≡ map (renamed_link r) (links_in earlier u)
  unit-renamed earlier u h =
      ap (λ (l : List Token). flat_map (to-first l) (map (renamed r) u.names)) (of-project u.project earlier) ∙ names-renamed (names_of u.project earlier) u.names h

  after-renamed : (earlier units : List ExternalNames) → KeepsNamesAfter r earlier units
      → links_after (map renamed-names earlier) (map renamed-names units) ≡ map (renamed_link r) (links_after earlier units)
  after-renamed earlier [] h = refl
  after-renamed earlier (u ∷ units) h =
      both (renamed_link r) (links_in earlier u) (links_after (earlier ++ u ∷ []) units) (links_in (map renamed-names earlier) (renamed-names u))
      (links_after (map renamed-names earlier ++ renamed-names u ∷ []) (map renamed-names units)) (unit-renamed earlier u h.0)
      (ap (λ (l : List ExternalNames). links_after l (map renamed-names units)) (sym (map-append renamed-names earlier (u ∷ []))) ∙ after-renamed (earlier ++ u ∷ []) units h.1)

  -- ---- all links

  alike-renamed : (ls : List Link) → Each (StaysAlike r) ls → filter are_alike (map (renamed_link r) ls) ≡ map (renamed_link r) (filter are_alike ls)
  alike-renamed [] h = refl
  alike-renamed (l ∷ ls) h =
      kept (renamed_link r) (are_alike (renamed_link r l)) (are_alike l) l (filter are_alike ls) (filter are_alike (map (renamed_link r) ls)) h.0 (alike-renamed ls h.1)

pub links_are_renamed : LinksAreRenamed
unfolding links_of
links_are_renamed c a h =
    let names : List ExternalNames = names_of_units a.workspace.units a.units in
    let anew : List ExternalNames = names_of_units a.workspace.units (map (renamed_unit_analysis c.renaming) a.units) in
    ap (filter are_alike) (both (renamed_link c.renaming) (flat_map unit_links a.units) (external_links names)
    (flat_map unit_links (map (renamed_unit_analysis c.renaming) a.units)) (external_links anew) (in-units c.renaming a.units)
    (ap (λ (l : List ExternalNames). external_links l) (units-renamed c.renaming a.workspace.units a.units) ∙ after-renamed c.renaming [] names h.names))
    ∙ alike-renamed c.renaming (all_links a) h.links
