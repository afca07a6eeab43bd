-- Whether two bindings are one.
use Rattle.std.specs.Prelude.{ℕ, Bool, true, false, ◌&&◌, not, List, [], ◌∷◌, if◌then◌else◌, ◌==◌}
use Rattle.c_types.specs.declared.entity.EntityKind.{EntityKind}
use Rattle.c_types.specs.declared.entity.EntityKind.TheVariants.{Object, Function, Typedef, Parameter, Enumerator, Tag, Member, Label}
use Rattle.c_types.specs.declared.entity.Linkage.{Linkage}
use Rattle.c_types.specs.declared.entity.Linkage.TheVariants.{External, Internal, Absent}
use Rattle.c_types.specs.declared.lists.List.{List as NameList}
use Rattle.c_types.specs.declared.lists.Range.{Range}
use Rattle.gnu_bind.specs.Below.scope_bind.declared.bound.Name.{Name}
use Rattle.gnu_bind.specs.Below.scope_bind.Bound.{Bound}

abbrev pub number_of_kind : EntityKind → ℕ
number_of_kind Object = 0
number_of_kind Function = 1
number_of_kind Typedef = 2
number_of_kind Parameter = 3
number_of_kind Enumerator = 4
number_of_kind Tag = 5
number_of_kind Member = 6
number_of_kind Label = 7

abbrev pub number_of_linkage : Linkage → ℕ
number_of_linkage External = 0
number_of_linkage Internal = 1
number_of_linkage Absent = 2

abbrev pub same_answer : Bool → Bool → Bool
same_answer a b = if a then b else not b

abbrev pub same_name : Name → Name → Bool
same_name a b =
    (a.index == b.index) && ((a.entity == b.entity) && (same_answer a.declares b.declares
    && ((number_of_kind a.kind == number_of_kind b.kind) && (number_of_linkage a.linkage == number_of_linkage b.linkage))))

abbrev pub same_range : Range → Range → Bool
same_range a b = (a.name == b.name) && ((a.from == b.from) && (a.to == b.to))

-- two lists, one element after another
abbrev pub all_same : {X : Type 0} → (X → X → Bool) → List X → List X → Bool
all_same same [] [] = true
all_same same [] (y ∷ ys) = false
all_same same (x ∷ xs) [] = false
all_same same (x ∷ xs) (y ∷ ys) = same x y && all_same same xs ys

abbrev pub same_number : ℕ → ℕ → Bool
same_number i j = i == j

abbrev pub same_list : NameList → NameList → Bool
same_list a b = (a.name == b.name) && ((a.begin == b.begin) && ((a.close == b.close) && all_same same_number a.commas b.commas))

abbrev pub same_bound : Bound → Bound → Bool
same_bound a b =
    all_same same_name a.names b.names && (all_same same_list a.declarators b.declarators && (all_same same_list a.calls b.calls
    && (all_same same_range a.functions b.functions && (all_same same_number a.bare b.bare && all_same same_range a.typedefs b.typedefs))))
