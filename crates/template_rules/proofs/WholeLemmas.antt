-- A list whose marks were all put out for one run stands for each mark of a list at its positions.
use Rattle.std.proofs.Common.{◌≡◌, ℕ, Bool, true, false, List, [], ◌∷◌, Option, Some, None, refl, sym}
use Rattle.std.specs.Borrow.{Bor}
use Rattle.std.specs.Prelude.{◌==◌, ◌&&◌, ◌||◌, slice_get}
use Rattle.std.specs.List.{list_any, list_all}
use Rattle.std.proofs.lemmas.Bool.{and_parts, and_from, eqb-true, eq-eqb}
use Rattle.cs_base.specs.declared.positions.Part.{Part}
use Rattle.cs_base.specs.declared.positions.Pos.{Pos}
use Rattle.cs_base.specs.Token.{Token}
use Rattle.analysis.specs.Below.unit_steps.Texts.{UnitTextValue}
use Rattle.analysis.specs.Below.scope_bind.declared.bound.Name.{Name}
use Rattle.c_types.specs.declared.lists.List.{List as NameList}
use Rattle.template_rules.specs.declared.unit_functions.UnitFunctions.{UnitFunctions}
use Rattle.template_rules.specs.Asking.{is_of_run}
use Rattle.template_rules.specs.Functions.{origin_of, names_function}
use Rattle.template_rules.specs.Lists.{each_mark, some_mark}
use Rattle.template_rules.specs.MacroOffences.{are_same, is_list_at, is_list_in, is_mark_in, is_same, is_same_list}
use Rattle.template_rules.proofs.PlaceLemmas.{stands_in}

second : (a b : Bool) → b ≡ true → (a || b) ≡ true
second true b is = refl
second false b is = is

first : (a b : Bool) → a ≡ true → (a || b) ≡ true
first a b is = rw is refl

all_weaken : (f g : ℕ → Bool) → ((k : ℕ) → f k ≡ true → g k ≡ true) → (ks : List ℕ) → list_all f ks ≡ true → list_all g ks ≡ true
all_weaken f g weaker [] all = refl
all_weaken f g weaker (k ∷ ks) all =
    let p = and_parts (f k) (list_all f ks) all in
    and_from (g k) (list_all g ks) (weaker k p.0) (all_weaken f g weaker ks p.1)

-- what holds at each mark, where another thing does
pub each_weaken : (f g : ℕ → Bool) → ((k : ℕ) → f k ≡ true → g k ≡ true) → (l : NameList) → each_mark f l ≡ true → each_mark g l ≡ true
each_weaken f g weaker l all =
    let p = and_parts (f l.name) (f l.begin && (list_all f l.commas && f l.close)) all in
    let q = and_parts (f l.begin) (list_all f l.commas && f l.close) p.1 in
    let r = and_parts (list_all f l.commas) (f l.close) q.1 in
    and_from (g l.name) (g l.begin && (list_all g l.commas && g l.close)) (weaker l.name p.0)
    (and_from (g l.begin) (list_all g l.commas && g l.close) (weaker l.begin q.0)
    (and_from (list_all g l.commas) (g l.close) (all_weaken f g weaker l.commas r.0) (weaker l.close r.1)))

same_back : (p q : Option Pos) → is_same p q ≡ true → is_same q p ≡ true
same_back None q is = absurd (cc)
same_back (Some p) None is = absurd (cc)
same_back (Some p) (Some q) is =
    let parts = and_parts (p.file == q.file) (p.at == q.at) is in
    and_from (q.file == p.file) (q.at == p.at)
    (eq-eqb q.file p.file (sym (eqb-true p.file q.file parts.0))) (eq-eqb q.at p.at (sym (eqb-true p.at q.at parts.1)))

module _ (toks : List Token) (text : UnitTextValue) (number : ℕ) where
  abbrev of_run : ℕ → Bool
  of_run k = is_of_run text.reached number k

  abbrev mark_for : ℕ → ℕ → Bool
  mark_for j k = is_mark_in text.toks text.reached (origin_of toks j) number k

  mark_here : (j k : ℕ) → is_same (origin_of toks j) (origin_of text.toks k) ≡ true → of_run k ≡ true → mark_for j k ≡ true
  mark_here j k same run =
      and_from (is_same (origin_of text.toks k) (origin_of toks j)) (of_run k) (same_back (origin_of toks j) (origin_of text.toks k) same) run

  marks_here : (js ks : List ℕ) → are_same toks text.toks js ks ≡ true → list_all of_run ks ≡ true
      → list_all (λ j. list_any (mark_for j) ks) js ≡ true
  marks_here [] ks same run = refl
  marks_here (j ∷ js) [] same run = absurd (cc)
  marks_here (j ∷ js) (k ∷ ks) same run =
      let s = and_parts (is_same (origin_of toks j) (origin_of text.toks k)) (are_same toks text.toks js ks) same in
      let r = and_parts (of_run k) (list_all of_run ks) run in
      and_from (list_any (mark_for j) (k ∷ ks)) (list_all (λ i. list_any (mark_for i) (k ∷ ks)) js)
      (first (mark_for j k) (list_any (mark_for j) ks) (mark_here j k s.0 r.0))
      (all_weaken (λ i. list_any (mark_for i) ks) (λ i. list_any (mark_for i) (k ∷ ks))
      (λ i there. second (mark_for i k) (list_any (mark_for i) ks) there) js (marks_here js ks s.1 r.1))

  module _ (members : List Part) (names : List Name) (l m : NameList)
      (same : is_same_list toks text.toks l m ≡ true) (named : names_function members text.toks names m.name ≡ true)
      (run : each_mark of_run m ≡ true) where
    abbrev stands : ℕ → Bool
    stands k = is_list_at members toks l k text names number m

    by_mark : (k : ℕ) → some_mark (mark_for k) m ≡ true → stands k ≡ true
    by_mark k some =
        and_from (is_same_list toks text.toks l m) (names_function members text.toks names m.name && some_mark (mark_for k) m) same
        (and_from (names_function members text.toks names m.name) (some_mark (mark_for k) m) named some)

    by_comma : (k : ℕ) → list_any (mark_for k) m.commas ≡ true → stands k ≡ true
    by_comma k some =
        by_mark k (second (mark_for k m.name) _ (second (mark_for k m.begin) _ (first (list_any (mark_for k) m.commas) (mark_for k m.close) some)))

    pub whole_stands : each_mark stands l ≡ true
    whole_stands =
        let s = and_parts (is_same (origin_of toks l.name) (origin_of text.toks m.name)) _ same in
        let t = and_parts (is_same (origin_of toks l.begin) (origin_of text.toks m.begin)) _ s.1 in
        let u = and_parts (is_same (origin_of toks l.close) (origin_of text.toks m.close)) (are_same toks text.toks l.commas m.commas) t.1 in
        let p = and_parts (of_run m.name) (of_run m.begin && (list_all of_run m.commas && of_run m.close)) run in
        let q = and_parts (of_run m.begin) (list_all of_run m.commas && of_run m.close) p.1 in
        let r = and_parts (list_all of_run m.commas) (of_run m.close) q.1 in
        let name = by_mark l.name (first (mark_for l.name m.name) _ (mark_here l.name m.name s.0 p.0)) in
        let begin = by_mark l.begin (second (mark_for l.begin m.name) _ (first (mark_for l.begin m.begin) _ (mark_here l.begin m.begin t.0 q.0))) in
        let close = by_mark l.close (second (mark_for l.close m.name) _ (second (mark_for l.close m.begin) _
        (second (list_any (mark_for l.close) m.commas) (mark_for l.close m.close) (mark_here l.close m.close u.0 r.1)))) in
        let commas = all_weaken (λ k. list_any (mark_for k) m.commas) stands (λ k there. by_comma k there) l.commas (marks_here l.commas m.commas u.1 r.0) in
        and_from (stands l.name) (stands l.begin && (list_all stands l.commas && stands l.close)) name
        (and_from (stands l.begin) (list_all stands l.commas && stands l.close) begin
        (and_from (list_all stands l.commas) (stands l.close) commas close))

-- such a list among those of a unit is one for each mark
pub whole_in : (f : UnitFunctions) (toks : List Token) (l : NameList) (number : ℕ) (places : List (Bor NameList)) → places ≡ f.by_place.items
    → (j : ℕ) (m : Bor NameList) → slice_get places j ≡ Some m
    → each_mark (λ k. is_list_at f.class.members toks l k f.text.now f.bound.now.names number m.now) l ≡ true
    → each_mark (λ k. is_list_in f.class.members toks l k f.text.now f.bound.now number) l ≡ true
whole_in f toks l number places are j m at all =
    each_weaken (λ k. is_list_at f.class.members toks l k f.text.now f.bound.now.names number m.now)
    (λ k. is_list_in f.class.members toks l k f.text.now f.bound.now number)
    (λ k is. stands_in f toks l k number places are j m at is) l all
