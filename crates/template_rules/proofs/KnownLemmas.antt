-- What is asked of a list is asked of each list at its positions.
use Rattle.std.proofs.Common.{◌≡◌, ℕ, Bool, true, false, List, [], ◌∷◌, Option, Some, None, length, slice_get, refl, sym, ap, ◌∙◌}
use Rattle.std.specs.Prelude.{◌+◌, ◌==◌, ◌&&◌, ◌||◌, not}
use Rattle.std.specs.List.{list_any, list_all}
use Rattle.std.specs.Option.{option_map_or}
use Rattle.std.proofs.lemmas.Bool.{and_parts, eqb-true}
use Rattle.cs_base.specs.declared.positions.Part.{Part}
use Rattle.cs_base.specs.declared.positions.Pos.{Pos}
use Rattle.cs_base.specs.Token.{Token}
use Rattle.analysis.specs.Below.unit_steps.declared.events.Reached.{Reached}
use Rattle.analysis.specs.Below.unit_steps.Texts.{UnitTextValue}
use Rattle.analysis.specs.Below.scope_bind.declared.bound.Name.{Name}
use Rattle.analysis.specs.Below.scope_bind.Bound.{Bound}
use Rattle.analysis.specs.Analysis.{UnitAnalysis, AnalysisValue}
use Rattle.c_types.specs.declared.lists.List.{List as NameList}
use Rattle.list_cuts.specs.Cuts.{numbers}
use Rattle.offences.specs.Class.{ClassValue}
use Rattle.template_rules.specs.Asking.{IsServed}
use Rattle.template_rules.specs.Functions.{origin_of, names_function}
use Rattle.template_rules.specs.Lists.{each_mark, some_mark}
use Rattle.template_rules.specs.MacroOffences.{are_same, is_item, is_list_as, is_list_at, is_list_for, is_list_in, is_list_through, is_mark_in, is_same, is_same_list}

any_alike : {X : Type 0} (p q : X → Bool) → ((x : X) → p x ≡ q x) → (xs : List X) → list_any p xs ≡ list_any q xs
any_alike p q same [] = refl
any_alike p q same (x ∷ xs) = rw (same x, any_alike p q same xs) refl

all_alike : {X : Type 0} (p q : X → Bool) → ((x : X) → p x ≡ q x) → (xs : List X) → list_all p xs ≡ list_all q xs
all_alike p q same [] = refl
all_alike p q same (x ∷ xs) = rw (same x, all_alike p q same xs) refl

one_place : (p q : Option Pos) → is_same p q ≡ true → p ≡ q
one_place None q is = absurd (cc)
one_place (Some p) None is = absurd (cc)
one_place (Some p) (Some q) is =
    let parts = and_parts (p.file == q.file) (p.at == q.at) is in
    let file : p.file ≡ q.file = eqb-true p.file q.file parts.0 in
    let at : p.at ≡ q.at = eqb-true p.at q.at parts.1 in
    ap (λ (f : ℕ). Some (record { file = f; at = p.at })) file ∙ ap (λ (a : ℕ). Some (record { file = q.file; at = a })) at

-- ---- items

-- only the file of an item and its number in it are asked for
for_item : (members : List Part) (a : AnalysisValue) (toks : List Token) (l : NameList) (k : ℕ) (r s : Reached) → is_item r s ≡ true
    → is_list_for members a toks l k r ≡ is_list_for members a toks l k s
for_item members a toks l k r s is =
    let parts = and_parts (r.file == s.file) (r.item == s.item) is in
    let file : r.file ≡ s.file = eqb-true r.file s.file parts.0 in
    let item : r.item ≡ s.item = eqb-true r.item s.item parts.1 in
    ap (λ (f : ℕ). is_list_for members a toks l k (record { file = f; item = r.item; evaluated = r.evaluated; events = r.events; before = r.before })) file
    ∙ ap (λ (i : ℕ). is_list_for members a toks l k (record { file = s.file; item = i; evaluated = r.evaluated; events = r.events; before = r.before })) item

-- ---- lists

module _ (toks : List Token) where
  commas_alike : (js is : List ℕ) → are_same toks toks js is ≡ true → (others : List Token) (cs : List ℕ)
      → are_same toks others js cs ≡ are_same toks others is cs
  commas_alike [] [] same others cs = refl
  commas_alike [] (i ∷ is) same others cs = absurd (cc)
  commas_alike (j ∷ js) [] same others cs = absurd (cc)
  commas_alike (j ∷ js) (i ∷ is) same others [] = refl
  commas_alike (j ∷ js) (i ∷ is) same others (c ∷ cs) =
      let parts = and_parts (is_same (origin_of toks j) (origin_of toks i)) (are_same toks toks js is) same in
      rw (one_place (origin_of toks j) (origin_of toks i) parts.0, commas_alike js is parts.1 others cs) refl

  module _ (l m : NameList) (same : is_same_list toks toks l m ≡ true) where
    parts_of : (is_same (origin_of toks l.name) (origin_of toks m.name) ≡ true) × (is_same (origin_of toks l.begin) (origin_of toks m.begin) ≡ true)
        × (is_same (origin_of toks l.close) (origin_of toks m.close) ≡ true) × (are_same toks toks l.commas m.commas ≡ true)
    parts_of =
        let p = and_parts (is_same (origin_of toks l.name) (origin_of toks m.name)) _ same in
        let q = and_parts (is_same (origin_of toks l.begin) (origin_of toks m.begin)) _ p.1 in
        let r = and_parts (is_same (origin_of toks l.close) (origin_of toks m.close)) (are_same toks toks l.commas m.commas) q.1 in
        (p.0, q.0, r.0, r.1)

    name : origin_of toks l.name ≡ origin_of toks m.name
    name = one_place (origin_of toks l.name) (origin_of toks m.name) parts_of.0

    begin : origin_of toks l.begin ≡ origin_of toks m.begin
    begin = one_place (origin_of toks l.begin) (origin_of toks m.begin) parts_of.1

    close : origin_of toks l.close ≡ origin_of toks m.close
    close = one_place (origin_of toks l.close) (origin_of toks m.close) parts_of.2

    list_alike : (others : List Token) (x : NameList) → is_same_list toks others l x ≡ is_same_list toks others m x
    list_alike others x = rw (name, begin, close, commas_alike l.commas m.commas parts_of.3 others x.commas) refl

    module _ (members : List Part) (j k : ℕ) (mark : origin_of toks j ≡ origin_of toks k) where
      at_alike : (text : UnitTextValue) (names : List Name) (number : ℕ) (x : NameList)
          → is_list_at members toks l j text names number x ≡ is_list_at members toks m k text names number x
      at_alike text names number x = rw (list_alike text.toks x, mark) refl

      in_alike : (text : UnitTextValue) (bound : Bound) (number : ℕ) → is_list_in members toks l j text bound number ≡ is_list_in members toks m k text bound number
      in_alike text bound number =
          let at = at_alike text bound.names number in
          rw (
            any_alike (is_list_at members toks l j text bound.names number) (is_list_at members toks m k text bound.names number) at bound.declarators,
            any_alike (is_list_at members toks l j text bound.names number) (is_list_at members toks m k text bound.names number) at bound.calls,
          ) refl

      as_alike : (r : Reached) (text : UnitTextValue) (bound : Bound) (n : ℕ) → is_list_as members toks l j r text bound n ≡ is_list_as members toks m k r text bound n
      as_alike r text bound n =
          ap (λ (b : Bool). not (option_map_or (is_item r) (slice_get text.reached n) false) || b) (in_alike text bound (n + 1))

      for_alike : (a : AnalysisValue) (r : Reached) → is_list_for members a toks l j r ≡ is_list_for members a toks m k r
      for_alike a r =
          all_alike (λ (u : UnitAnalysis). is_list_through members toks l j r u.text u.bound) (λ (u : UnitAnalysis). is_list_through members toks m k r u.text u.bound)
          (λ u. all_alike (is_list_as members toks l j r u.text u.bound) (is_list_as members toks m k r u.text u.bound) (as_alike r u.text u.bound) (numbers 0 (length u.text.reached))) a.units

    commas_for : (members : List Part) (a : AnalysisValue) (r : Reached) (js is : List ℕ) → are_same toks toks js is ≡ true
        → list_all (λ j. is_list_for members a toks l j r) js ≡ list_all (λ k. is_list_for members a toks m k r) is
    commas_for members a r [] [] alike = refl
    commas_for members a r [] (i ∷ is) alike = absurd (cc)
    commas_for members a r (j ∷ js) [] alike = absurd (cc)
    commas_for members a r (j ∷ js) (i ∷ is) alike =
        let parts = and_parts (is_same (origin_of toks j) (origin_of toks i)) (are_same toks toks js is) alike in
        rw (for_alike members j i (one_place (origin_of toks j) (origin_of toks i) parts.0) a r, commas_for members a r js is parts.1) refl

    each_alike : (members : List Part) (a : AnalysisValue) (r : Reached)
        → each_mark (λ j. is_list_for members a toks l j r) l ≡ each_mark (λ k. is_list_for members a toks m k r) m
    each_alike members a r =
        rw (
          for_alike members l.name m.name name a r,
          for_alike members l.begin m.begin begin a r,
          for_alike members l.close m.close close a r,
          commas_for members a r l.commas m.commas parts_of.3,
        ) refl

pub served_alike : (class : ClassValue) (toks : List Token) (l m : NameList) (r s : Reached) → is_item r s ≡ true → is_same_list toks toks l m ≡ true
    → IsServed class toks m r → IsServed class toks l s
served_alike class toks l m r s item same served =
    let members = class.members in
    let a = class.analysis.value in
    let by_item : each_mark (λ k. is_list_for members a toks m k r) m ≡ each_mark (λ k. is_list_for members a toks m k s) m =
    rw (
      for_item members a toks m m.name r s item,
      for_item members a toks m m.begin r s item,
      for_item members a toks m m.close r s item,
      all_alike (λ k. is_list_for members a toks m k r) (λ k. is_list_for members a toks m k s) (λ k. for_item members a toks m k r s item) m.commas,
    ) refl in
    each_alike toks l m same members a s ∙ sym by_item ∙ served
