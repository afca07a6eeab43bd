-- Lists of links that are joined one after another.
use Rattle.std.proofs.Common.{◌≡◌, ℕ, ◌+◌, ◌<◌, ◌≤◌, true, List, [], ◌∷◌, ◌++◌, length, get_or, drop, map, refl, sym, ap, ◌∙◌, subst, append_assoc, cond}
use Rattle.std.specs.Prelude.{filter, OnOk, Result, Ok, Err}
use Rattle.std.specs.List.{flat_map}
use Rattle.std.proofs.lemmas.List.{drop_more, drop_all, map-append, append-nil}
use Rattle.std.proofs.lemmas.List.Elements.{filter-append}
use Rattle.cs_base.specs.declared.tokens.Link.{Link}
use Rattle.cs_base.specs.Token.{Token}
use Rattle.eclass_map.specs.ClassTable.{Table, AreLinks, HasParts, added_tokens}
use Rattle.linkage_join.specs.Linkage.{links_of as external_links}
use Rattle.gnu_bind.specs.Below.scope_bind.Bound.{Bound}
use Rattle.include_tree.specs.Below.unit_steps.Texts.{UnitTextValue}
use Rattle.analysis.specs.Analysis.{UnitAnalysis, AnalysisValue}
use Rattle.analysis.specs.Joins.{Joins, Awaits, alike_pairs}
use Rattle.analysis.specs.Links.{are_alike, pair_of, occurrence_links, unit_links, names_of_units, links_of, linked_pairs}

-- ---- no link, one link, and one list behind another

pub joins_none : (t : Table) → Joins [] t t
joins_none t = record { tokens = refl; parts = λ p. p; links = λ before are. let P : List (Token × Token) → Type 0 = λ v. AreLinks v t in subst P (sym (append-nil before)) are }

alike_one : (l : Link) → are_alike l ≡ true → alike_pairs (l ∷ []) ≡ (l.x, l.y) ∷ []
alike_one l e = ap (λ b. map pair_of (cond b (l ∷ []) [])) e

pub joins_one : (l : Link) (old new : Table) → are_alike l ≡ true → added_tokens new ≡ added_tokens old → HasParts new
    → ((before : List (Token × Token)) → AreLinks before old → AreLinks (before ++ (l.x, l.y) ∷ []) new) → Joins (l ∷ []) old new
joins_one l old new e same parts links =
    record { tokens = same; parts = λ p. parts; links = λ before are. let P : List (Token × Token) → Type 0 = λ v. AreLinks (before ++ v) new in subst P (sym (alike_one l e)) (links before are) }

alike_both : (xs ys : List Link) → alike_pairs (xs ++ ys) ≡ alike_pairs xs ++ alike_pairs ys
alike_both xs ys = ap (map pair_of) (filter-append are_alike xs ys) ∙ map-append pair_of (filter are_alike xs) (filter are_alike ys)

pub joins_then : (xs ys : List Link) (old mid new : Table) → Joins xs old mid → Joins ys mid new → Joins (xs ++ ys) old new
joins_then xs ys old mid new first second =
    record {
      tokens = second.tokens ∙ first.tokens;
      parts = λ p. second.parts (first.parts p);
      links = λ before are.
          let P : List (Token × Token) → Type 0 = λ v. AreLinks v new in
          let whole : (before ++ alike_pairs xs) ++ alike_pairs ys ≡ before ++ alike_pairs (xs ++ ys) = append_assoc before (alike_pairs xs) (alike_pairs ys) ∙ ap (λ v. before ++ v) (sym (alike_both xs ys)) in
          subst P whole (second.links (before ++ alike_pairs xs) (first.links before are));
    }

-- ---- a list that is joined from the front on

-- the front of the rest is joined now
pub awaits_more : (front rest left all : List Link) (old now next : Table) → rest ≡ front ++ left → Joins front now next → Awaits rest all old now → Awaits left all old next
awaits_more front rest left all old now next e joins awaits = λ new later.
    let P : List Link → Type 0 = λ v. Joins v now new in
    awaits new (subst P (sym e) (joins_then front left now next new joins later))

pub awaits_end : (rest all : List Link) (old now : Table) → rest ≡ [] → Awaits rest all old now → Joins all old now
awaits_end rest all old now e awaits =
    let P : List Link → Type 0 = λ v. Joins v now now in
    awaits now (subst P (sym e) (joins_none now))

-- ---- links in a list, and those of units in a list

pub links_more : (links : List Link) (k : ℕ) (l : Link) → k < length links → l ≡ get_or links k l → drop k links ≡ (l ∷ []) ++ drop (k + 1) links
links_more links k l less is = drop_more links k l less ∙ ap (λ v. v ∷ drop (k + 1) links) (sym is)

pub units_more : (units : List UnitAnalysis) (k : ℕ) (u : UnitAnalysis) → k < length units → u ≡ get_or units k u
    → flat_map unit_links (drop k units) ≡ unit_links u ++ flat_map unit_links (drop (k + 1) units)
units_more units k u less is = ap (flat_map unit_links) (drop_more units k u less ∙ ap (λ v. v ∷ drop (k + 1) units) (sym is))

pub units_end : (units : List UnitAnalysis) (k : ℕ) → length units ≤ k → flat_map unit_links (drop k units) ≡ []
units_end units k past = ap (flat_map unit_links) (drop_all k units past)

-- ---- the links of one unit, and those of all

joins_last : {X E : Type 0} (xs ys : List Link) (old mid new : Table) (r : Result X E) → Joins xs old mid → OnOk r (Joins ys mid new) → OnOk r (Joins (xs ++ ys) old new)
joins_last xs ys old mid new (Ok x) first h = joins_then xs ys old mid new first h
joins_last xs ys old mid new (Err e) first h = tt

pub unit_joined : {X E : Type 0} (u : UnitAnalysis) (text : UnitTextValue) (bound : Bound) (links : List Link) (toks : List Token) (old mid new : Table) (r : Result X E)
    → text ≡ u.text → links ≡ text.links → bound ≡ u.bound → toks ≡ text.toks → Joins links old mid → OnOk r (Joins (occurrence_links bound.names toks 0 toks) mid new) → OnOk r (Joins (unit_links u) old new)
unit_joined u text bound links toks old mid new r is_text is_links is_bound is_toks first h =
    let front : links ≡ u.text.links = is_links ∙ ap (λ (v : UnitTextValue). v.links) is_text in
    let own : toks ≡ u.text.toks = is_toks ∙ ap (λ (v : UnitTextValue). v.toks) is_text in
    let whole : links ++ occurrence_links bound.names toks 0 toks ≡ unit_links u =
    ap (λ v. v ++ occurrence_links bound.names toks 0 toks) front
    ∙ ap (λ (v : Bound). u.text.links ++ occurrence_links v.names toks 0 toks) is_bound
    ∙ ap (λ v. u.text.links ++ occurrence_links u.bound.names v 0 v) own in
    let P : List Link → Type 0 = λ v. OnOk r (Joins v old new) in
    subst P whole (joins_last links (occurrence_links bound.names toks 0 toks) old mid new r first h)

alike_of : (a : AnalysisValue) → alike_pairs (flat_map unit_links a.units ++ external_links (names_of_units a.workspace.units a.units)) ≡ linked_pairs a
unfolding links_of
alike_of a = refl

joined_from : {X E : Type 0} (xs : List Link) (old new : Table) (r : Result X E) → AreLinks [] old → OnOk r (Joins xs old new) → OnOk r (AreLinks (alike_pairs xs) new)
joined_from xs old new (Ok x) none h = h.links [] none
joined_from xs old new (Err e) none h = tt

pub all_joined : {X E : Type 0} (a : AnalysisValue) (links : List Link) (old mid new : Table) (r : Result X E) → AreLinks [] old
    → links ≡ external_links (names_of_units a.workspace.units a.units) → Joins (flat_map unit_links a.units) old mid → OnOk r (Joins links mid new) → OnOk r (AreLinks (linked_pairs a) new)
all_joined a links old mid new r none is first h =
    let units = flat_map unit_links a.units in
    let P : List (Token × Token) → Type 0 = λ v. OnOk r (AreLinks v new) in
    subst P (ap (λ v. alike_pairs (units ++ v)) is ∙ alike_of a) (joined_from (units ++ links) old new r none (joins_last units links old mid new r first h))
