use Rattle.std.proofs.Common.{◌≡◌, ℕ, ◌+◌, ◌<◌, length, sym, ◌∙◌, ap, refl, arith, subst, Option, Some, None}
use Rattle.std.specs.Prelude.{slice_get, IsSome}
use Rattle.std.proofs.lemmas.Option.{slice_get_within}
use Rattle.std.proofs.lemmas.Bool.{false≢true}
use Rattle.cs_base.specs.declared.positions.Part.{Part}
use Rattle.cs_base.proofs.ListLemmas.{none_mapped as past_map}
use Rattle.class_labels.specs.Labels.{spot, walk_at, class_at}
use Rattle.eclass_map.specs.Positions.{index_at}
use Rattle.eclass_map.specs.ClassTable.{Table, class_in, members_of, part_with}
use Rattle.eclass_map.specs.Kept.{IsKept}
use Rattle.class_labels.proofs.ListFacts.{now_at}
use Rattle.class_labels.proofs.FieldFacts.{member_at}
use Rattle.class_labels.proofs.StepFacts.{starts_of}
use Rattle.class_labels.proofs.JoinFacts.{class_at_is}
use Rattle.class_labels.proofs.NextFacts.{In-slice_get}
use Rattle.eclass_map.proofs.PartLaws.{In-place, member_index, class_index}
use Rattle.eclass_map.proofs.class_table.Classes.member_after.Goals as goal

some_of : (o : Option ℕ) → IsSome o → (c : ℕ) × (o ≡ Some c)
some_of None h = absurd (false≢true h)
some_of (Some c) h = (c, refl)

-- what the walk of the part's class gives after it, by number
after_in : (t : Table) → IsKept t → (part : Part) (c k i : ℕ) (o : Option ℕ) → ((k : ℕ) → slice_get (walk_at t.labels (class_at t.labels i)) k ≡ Some i → o ≡ slice_get (walk_at t.labels (class_at t.labels i)) (k + 1))
    → index_at t.tokens part.start ≡ Some i → class_in t part ≡ Some c → slice_get (members_of t c) k ≡ Some part → o ≡ slice_get (walk_at t.labels c) (k + 1)
after_in t kept part c k i o next index class at =
    let same : class_at t.labels i ≡ c = class_at_is t.labels i c 0 (class_index t kept part c i class index) in
    let P : ℕ → Type 0 = λ v. slice_get (walk_at t.labels v) k ≡ Some i in
    next k (subst P (sym same) (member_index t kept part c k i at index)) ∙ ap (λ v. slice_get (walk_at t.labels v) (k + 1)) same

-- the next member is a character
next_within : (t : Table) → IsKept t → (part : Part) (i x : ℕ) (o : Option ℕ) → ((k : ℕ) → slice_get (walk_at t.labels (class_at t.labels i)) k ≡ Some i → o ≡ slice_get (walk_at t.labels (class_at t.labels i)) (k + 1))
    → index_at t.tokens part.start ≡ Some i → IsSome (class_in t part) → o ≡ Some x → x < length t.labels.spots
next_within t kept part i x o next index is e =
    let c = some_of (class_in t part) is in
    let at = class_index t kept part c.0 i c.1 index in
    let same : class_at t.labels i ≡ c.0 = class_at_is t.labels i c.0 0 at in
    let start = starts_of t.labels i c.0 kept.table at in
    let place = In-place i (walk_at t.labels c.0) start.among in
    let P : ℕ → Type 0 = λ v. slice_get (walk_at t.labels v) place.0 ≡ Some i in
    let there : slice_get (walk_at t.labels c.0) (place.0 + 1) ≡ Some x = ap (λ v. slice_get (walk_at t.labels v) (place.0 + 1)) (sym same) ∙ sym (next place.0 (subst P (sym same) place.1)) ∙ e in
    slice_get_within t.labels.spots x (spot c.0 0) (member_at t.labels c.0 x kept.table start.known (In-slice_get (walk_at t.labels c.0) (place.0 + 1) x there))

class_known : (t : Table) → IsKept t → (part : Part) (i : ℕ) → index_at t.tokens part.start ≡ Some i → IsSome (class_in t part) → class_at t.labels i < length t.labels.walks
class_known t kept part i index is =
    let c = some_of (class_in t part) is in
    let at = class_index t kept part c.0 i c.1 index in
    let same : class_at t.labels i ≡ c.0 = class_at_is t.labels i c.0 0 at in
    let known = (starts_of t.labels i c.0 kept.table at).known in
    omega arith

pub member-requires-clause-held : goal.member-requires-clause-held
member-requires-clause-held c =
    let t = c.args.self.now in
    let P : Table → Type 0 = λ v. IsKept v in
    let kept = subst P c.self.view_is c.self.invariant in
    let Q : Table → Type 0 = λ v. (k : ℕ) → slice_get (walk_at v.labels (class_at v.labels c.args.index)) k ≡ Some c.args.index → c.next.result ≡ slice_get (walk_at v.labels (class_at v.labels c.args.index)) (k + 1) in
    let next = subst Q c.self.view_is c.next.ensures in
    next_within t kept c.args.part c.args.index c.in-Some.x c.next.result next c.requires.held c.requires.part c.in-Some.is

pub member-requires-clause-known : goal.member-requires-clause-known
member-requires-clause-known c =
    let t = c.args.self.now in
    let P : Table → Type 0 = λ v. IsKept v in
    let kept = subst P c.self.view_is c.self.invariant in
    let class : c.class_of-class.result ≡ class_at t.labels c.args.index = c.class_of-class.ensures.answer ∙ ap (λ (v : Table). class_at v.labels c.args.index) c.self.view_is in
    omega (arith, class_known t kept c.args.part c.args.index c.requires.held c.requires.part)

pub returns-in-Some : goal.returns-in-Some
returns-in-Some c class k is at =
    let t = c.args.self.now in
    let P : Table → Type 0 = λ v. IsKept v in
    let kept = subst P c.self.view_is c.self.invariant in
    let Q : Table → Type 0 = λ v. (k : ℕ) → slice_get (walk_at v.labels (class_at v.labels c.args.index)) k ≡ Some c.args.index → c.next.result ≡ slice_get (walk_at v.labels (class_at v.labels c.args.index)) (k + 1) in
    let next = subst Q c.self.view_is c.next.ensures in
    let there : slice_get (walk_at t.labels class) (k + 1) ≡ Some c.in-Some.x = sym (after_in t kept c.args.part class k c.args.index c.next.result next c.requires.held is at) ∙ c.in-Some.is in
    let same : c.class_of-class.result ≡ class = c.class_of-class.ensures.answer ∙ ap (λ (v : Table). class_at v.labels c.args.index) c.self.view_is
    ∙ class_at_is t.labels c.args.index class 0 (class_index t kept c.args.part class c.args.index is c.requires.held) in
    ap Some (c.member.ensures ∙ ap (λ v. part_with t v c.in-Some.x) same) ∙ sym (now_at (part_with t class) (walk_at t.labels class) (k + 1) c.in-Some.x there)

pub returns-in-None : goal.returns-in-None
returns-in-None c class k is at =
    let t = c.args.self.now in
    let P : Table → Type 0 = λ v. IsKept v in
    let kept = subst P c.self.view_is c.self.invariant in
    let Q : Table → Type 0 = λ v. (k : ℕ) → slice_get (walk_at v.labels (class_at v.labels c.args.index)) k ≡ Some c.args.index → c.next.result ≡ slice_get (walk_at v.labels (class_at v.labels c.args.index)) (k + 1) in
    let next = subst Q c.self.view_is c.next.ensures in
    let none : slice_get (walk_at t.labels class) (k + 1) ≡ None = sym (after_in t kept c.args.part class k c.args.index c.next.result next c.requires.held is at) ∙ c.in-None.is in
    sym (past_map (part_with t class) (walk_at t.labels class) (k + 1) none)
