-- Bindings that are the same are one.
use Rattle.std.proofs.Common.{ℕ, ◌≡◌, Bool, true, false, ◌&&◌, not, if◌then◌else◌, ◌==◌, List, [], ◌∷◌, Option, Some, refl, sym, ap, ◌∙◌}
use Rattle.std.specs.Prelude.{slice_get}
use Rattle.std.proofs.lemmas.Bool.{false≢true, and_parts, and_from, eq-eqb, eqb-true}
use Rattle.std.proofs.lemmas.Option.{same_Some}
use Rattle.c_types.specs.declared.entity.EntityKind.{EntityKind}
use Rattle.c_types.specs.declared.entity.EntityKind.TheVariants.{Object, Function, Typedef, Parameter, Enumerator, Tag, Member, Label}
use Rattle.c_types.specs.declared.entity.Linkage.{Linkage}
use Rattle.c_types.specs.declared.entity.Linkage.TheVariants.{External, Internal, Absent}
use Rattle.c_types.specs.declared.lists.List.{List as NameList}
use Rattle.c_types.specs.declared.lists.Range.{Range}
use Rattle.gnu_bind.specs.Below.scope_bind.declared.bound.Name.{Name}
use Rattle.gnu_bind.specs.Below.scope_bind.Bound.{Bound}
use Rattle.same_readings.specs.SameNames.{number_of_kind, number_of_linkage, same_answer, same_name, same_range, all_same, same_number, same_list, same_bound}
use Rattle.same_readings.specs.Laws.{SameBindingsAreOne}

-- a test that tells one from all others
record Tells {X : Type 0} (same : X → X → Bool) : Type 0 where
  pub one : (x y : X) → same x y ≡ true → x ≡ y
  pub itself : (x : X) → same x x ≡ true

module _ {X : Type 0} (same : X → X → Bool) (h : Tells same) where
  one_all : (xs ys : List X) → all_same same xs ys ≡ true → xs ≡ ys
  one_all [] [] e = refl
  one_all [] (y ∷ ys) e = absurd (false≢true e)
  one_all (x ∷ xs) [] e = absurd (false≢true e)
  one_all (x ∷ xs) (y ∷ ys) e =
      let parts = and_parts (same x y) (all_same same xs ys) e in
      ap (λ (z : X). z ∷ xs) (h.one x y parts.0) ∙ ap (λ (zs : List X). y ∷ zs) (one_all xs ys parts.1)

  all_itself : (xs : List X) → all_same same xs xs ≡ true
  all_itself [] = refl
  all_itself (x ∷ xs) = and_from (same x x) (all_same same xs xs) (h.itself x) (all_itself xs)

numbers : Tells same_number
numbers = record { one = λ i j e. eqb-true i j e; itself = λ i. eq-eqb i i refl }

one_kind : (a b : EntityKind) → (number_of_kind a == number_of_kind b) ≡ true → a ≡ b
one_kind a b e = same_Some a b (sym (numbered a) ∙ (ap (slice_get kinds) (eqb-true (number_of_kind a) (number_of_kind b) e) ∙ numbered b))
  where
    kinds : List EntityKind
    kinds = Object ∷ Function ∷ Typedef ∷ Parameter ∷ Enumerator ∷ Tag ∷ Member ∷ Label ∷ []

    numbered : (k : EntityKind) → slice_get kinds (number_of_kind k) ≡ Some k
    numbered Object = refl
    numbered _ = refl

one_linkage : (a b : Linkage) → (number_of_linkage a == number_of_linkage b) ≡ true → a ≡ b
one_linkage a b e = same_Some a b (sym (numbered a) ∙ (ap (slice_get linkages) (eqb-true (number_of_linkage a) (number_of_linkage b) e) ∙ numbered b))
  where
    linkages : List Linkage
    linkages = External ∷ Internal ∷ Absent ∷ []

    numbered : (k : Linkage) → slice_get linkages (number_of_linkage k) ≡ Some k
    numbered External = refl
    numbered _ = refl

one_answer : (a b : Bool) → same_answer a b ≡ true → a ≡ b
one_answer true true e = refl
one_answer true false e = absurd (false≢true e)
one_answer false true e = absurd (false≢true e)
one_answer false false e = refl

answer_itself : (a : Bool) → same_answer a a ≡ true
answer_itself true = refl
answer_itself false = refl

name_so : ℕ → ℕ → Bool → EntityKind → Linkage → Name
name_so index entity declares kind linkage = record { index = index; entity = entity; declares = declares; kind = kind; linkage = linkage }

one_name : (a b : Name) → same_name a b ≡ true → a ≡ b
unfolding name_so
one_name a b e =
    let p = and_parts (a.index == b.index) _ e in
    let q = and_parts (a.entity == b.entity) _ p.1 in
    let r = and_parts (same_answer a.declares b.declares) _ q.1 in
    let s = and_parts (number_of_kind a.kind == number_of_kind b.kind) (number_of_linkage a.linkage == number_of_linkage b.linkage) r.1 in
    ap (λ (n : ℕ). name_so n a.entity a.declares a.kind a.linkage) (eqb-true a.index b.index p.0)
    ∙ (ap (λ (n : ℕ). name_so b.index n a.declares a.kind a.linkage) (eqb-true a.entity b.entity q.0)
    ∙ (ap (λ (d : Bool). name_so b.index b.entity d a.kind a.linkage) (one_answer a.declares b.declares r.0)
    ∙ (ap (λ (k : EntityKind). name_so b.index b.entity b.declares k a.linkage) (one_kind a.kind b.kind s.0)
    ∙ ap (λ (l : Linkage). name_so b.index b.entity b.declares b.kind l) (one_linkage a.linkage b.linkage s.1))))

name_itself : (a : Name) → same_name a a ≡ true
name_itself a =
    and_from (a.index == a.index) _ (eq-eqb a.index a.index refl)
    (and_from (a.entity == a.entity) _ (eq-eqb a.entity a.entity refl)
    (and_from (same_answer a.declares a.declares) _ (answer_itself a.declares)
    (and_from (number_of_kind a.kind == number_of_kind a.kind) (number_of_linkage a.linkage == number_of_linkage a.linkage)
    (eq-eqb (number_of_kind a.kind) (number_of_kind a.kind) refl) (eq-eqb (number_of_linkage a.linkage) (number_of_linkage a.linkage) refl))))

names : Tells same_name
names = record { one = one_name; itself = name_itself }

one_range : (a b : Range) → same_range a b ≡ true → a ≡ b
one_range a b e =
    let p = and_parts (a.name == b.name) _ e in
    let q = and_parts (a.from == b.from) (a.to == b.to) p.1 in
    ap (λ (n : ℕ). record { name = n; from = a.from; to = a.to }) (eqb-true a.name b.name p.0)
    ∙ (ap (λ (n : ℕ). record { name = b.name; from = n; to = a.to }) (eqb-true a.from b.from q.0)
    ∙ ap (λ (n : ℕ). record { name = b.name; from = b.from; to = n }) (eqb-true a.to b.to q.1))

range_itself : (a : Range) → same_range a a ≡ true
range_itself a =
    and_from (a.name == a.name) _ (eq-eqb a.name a.name refl)
    (and_from (a.from == a.from) (a.to == a.to) (eq-eqb a.from a.from refl) (eq-eqb a.to a.to refl))

ranges : Tells same_range
ranges = record { one = one_range; itself = range_itself }

one_list : (a b : NameList) → same_list a b ≡ true → a ≡ b
one_list a b e =
    let p = and_parts (a.name == b.name) _ e in
    let q = and_parts (a.begin == b.begin) _ p.1 in
    let r = and_parts (a.close == b.close) (all_same same_number a.commas b.commas) q.1 in
    ap (λ (n : ℕ). record { name = n; begin = a.begin; close = a.close; commas = a.commas }) (eqb-true a.name b.name p.0)
    ∙ (ap (λ (n : ℕ). record { name = b.name; begin = n; close = a.close; commas = a.commas }) (eqb-true a.begin b.begin q.0)
    ∙ (ap (λ (n : ℕ). record { name = b.name; begin = b.begin; close = n; commas = a.commas }) (eqb-true a.close b.close r.0)
    ∙ ap (λ (ks : List ℕ). record { name = b.name; begin = b.begin; close = b.close; commas = ks }) (one_all same_number numbers a.commas b.commas r.1)))

list_itself : (a : NameList) → same_list a a ≡ true
list_itself a =
    and_from (a.name == a.name) _ (eq-eqb a.name a.name refl)
    (and_from (a.begin == a.begin) _ (eq-eqb a.begin a.begin refl)
    (and_from (a.close == a.close) (all_same same_number a.commas a.commas) (eq-eqb a.close a.close refl) (all_itself same_number numbers a.commas)))

lists : Tells same_list
lists = record { one = one_list; itself = list_itself }

bound_so : List Name → List NameList → List NameList → List Range → List ℕ → List Range → Bound
bound_so ns ds cs fs bs ts = record { names = ns; declarators = ds; calls = cs; functions = fs; bare = bs; typedefs = ts }

one_bound : (a b : Bound) → same_bound a b ≡ true → a ≡ b
unfolding bound_so
one_bound a b e =
    let p = and_parts (all_same same_name a.names b.names) _ e in
    let q = and_parts (all_same same_list a.declarators b.declarators) _ p.1 in
    let r = and_parts (all_same same_list a.calls b.calls) _ q.1 in
    let s = and_parts (all_same same_range a.functions b.functions) _ r.1 in
    let t = and_parts (all_same same_number a.bare b.bare) (all_same same_range a.typedefs b.typedefs) s.1 in
    ap (λ (ns : List Name). bound_so ns a.declarators a.calls a.functions a.bare a.typedefs) (one_all same_name names a.names b.names p.0)
    ∙ (ap (λ (ds : List NameList). bound_so b.names ds a.calls a.functions a.bare a.typedefs) (one_all same_list lists a.declarators b.declarators q.0)
    ∙ (ap (λ (cs : List NameList). bound_so b.names b.declarators cs a.functions a.bare a.typedefs) (one_all same_list lists a.calls b.calls r.0)
    ∙ (ap (λ (fs : List Range). bound_so b.names b.declarators b.calls fs a.bare a.typedefs) (one_all same_range ranges a.functions b.functions s.0)
    ∙ (ap (λ (bs : List ℕ). bound_so b.names b.declarators b.calls b.functions bs a.typedefs) (one_all same_number numbers a.bare b.bare t.0)
    ∙ ap (λ (ts : List Range). bound_so b.names b.declarators b.calls b.functions b.bare ts) (one_all same_range ranges a.typedefs b.typedefs t.1)))))

bound_itself : (a : Bound) → same_bound a a ≡ true
bound_itself a =
    and_from (all_same same_name a.names a.names) _ (all_itself same_name names a.names)
    (and_from (all_same same_list a.declarators a.declarators) _ (all_itself same_list lists a.declarators)
    (and_from (all_same same_list a.calls a.calls) _ (all_itself same_list lists a.calls)
    (and_from (all_same same_range a.functions a.functions) _ (all_itself same_range ranges a.functions)
    (and_from (all_same same_number a.bare a.bare) (all_same same_range a.typedefs a.typedefs)
    (all_itself same_number numbers a.bare) (all_itself same_range ranges a.typedefs)))))

pub bindings_are_one : SameBindingsAreOne
bindings_are_one a b = (one_bound a b, bound_itself a)
