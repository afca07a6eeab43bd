use Rattle.std.proofs.Common.{◌≡◌, ℕ, ◌+◌, ◌<◌, ◌++◌, ◌∷◌, List, [], length, map, take, length-append, refl, sym, ◌∙◌, ap, arith, rules, subst, Some}
use Rattle.cs_base.specs.declared.positions.Part.{Part}
use Rattle.std.specs.Prelude.{slice_get}
use Rattle.std.proofs.lemmas.Option.{slice_get_within}
use Rattle.class_labels.specs.Labels.{Labels, spot, walk_at, class_at}
use Rattle.class_labels.proofs.FieldFacts.{member_at}
use Rattle.class_labels.proofs.JoinFacts.{class_at_is}
use Rattle.class_labels.proofs.NextFacts.{In-slice_get}
use Rattle.eclass_map.specs.ClassTable.{Table, part_with}
use Rattle.eclass_map.specs.Kept.{IsKept}
use Rattle.eclass_map.proofs.PartLaws.{walk_known}
use Rattle.eclass_map.proofs.WalkFacts.{made_more, made_all}
use Rattle.eclass_map.proofs.class_table.Classes.members.Goals as goal

-- a member of a walk begins a part of its class
begins : (t : Table) → IsKept t → (c k x : ℕ) → slice_get (walk_at t.labels c) k ≡ Some x → slice_get t.labels.spots x ≡ Some (spot c 0)
begins t kept c k x at = member_at t.labels c x kept.table (walk_known t.labels c k x at) (In-slice_get (walk_at t.labels c) k x at)

within_spots : (t : Table) → IsKept t → (c k x : ℕ) → slice_get (walk_at t.labels c) k ≡ Some x → x < length t.labels.spots
within_spots t kept c k x at = slice_get_within t.labels.spots x (spot c 0) (begins t kept c k x at)

-- a character that begins a part of its own class
own_begins : (l : Labels) (c x : ℕ) → slice_get l.spots x ≡ Some (spot c 0) → slice_get l.spots x ≡ Some (spot (class_at l x) 0)
own_begins l c x at = at ∙ ap (λ (v : ℕ). Some (spot v 0)) (sym (class_at_is l x c 0 at))

pub member-requires-clause-held : goal.member-requires-clause-held
member-requires-clause-held c =
    let P : Table → Type 0 = λ v. IsKept v in
    let kept = subst P c.self.view_is c.self.invariant in
    within_spots c.args.self.now kept c.args.class (length c.loop-next.parts.items) c.in-Some.x (sym c.loop-next.invariant.1 ∙ c.in-Some.is)

pub member-requires-clause-known : goal.member-requires-clause-known
member-requires-clause-known c =
    walk_known c.args.self.now.labels c.args.class (length c.loop-next.parts.items) c.in-Some.x (sym c.loop-next.invariant.1 ∙ c.in-Some.is)

pub next-next-requires : goal.next-next-requires
next-next-requires c =
    let P : Table → Type 0 = λ v. IsKept v in
    let kept = subst P c.self.view_is c.self.invariant in
    let k = length c.loop-next.parts.items in
    let Q : Table → Type 0 = λ v. slice_get v.labels.spots c.in-Some.x ≡ Some (spot (class_at v.labels c.in-Some.x) 0) in
    subst Q (sym c.self.view_is)
    (own_begins c.args.self.now.labels c.args.class c.in-Some.x (begins c.args.self.now kept c.args.class k c.in-Some.x (sym c.loop-next.invariant.1 ∙ c.in-Some.is)))

pub loop-next-init : goal.loop-next-init
loop-next-init c =
    let t = c.args.self.now in
    let walk = walk_at t.labels c.args.class in
    let none : c.new-parts.result.items ≡ [] = search rules in
    let P : List Part → Type 0 = λ ps. (ps ≡ map (part_with t c.args.class) (take (length ps) walk)) × (c.first-next.result ≡ slice_get walk (length ps)) in
    subst P (sym none) (refl, c.first-next.ensures ∙ ap (λ (v : Table). slice_get (walk_at v.labels c.args.class) 0) c.self.view_is)

pub loop-next-smaller : goal.loop-next-smaller
loop-next-smaller c =
    let within = slice_get_within (walk_at c.args.self.now.labels c.args.class) (length c.loop-next.parts.items) c.in-Some.x (sym c.loop-next.invariant.1 ∙ c.in-Some.is) in
    let more = ap length c.in_ok-push.ensures.items ∙ length-append c.loop-next.parts.items (c.member.result ∷ []) in
    omega (arith, within, more)

pub loop-next-preserved : goal.loop-next-preserved
loop-next-preserved c =
    let t = c.args.self.now in
    let P : Table → Type 0 = λ v. IsKept v in
    let kept = subst P c.self.view_is c.self.invariant in
    let parts = c.loop-next.parts.items in
    let x = c.in-Some.x in
    let at : slice_get (walk_at t.labels c.args.class) (length parts) ≡ Some x = sym c.loop-next.invariant.1 ∙ c.in-Some.is in
    let more : c.push.new.self.items ≡ parts ++ part_with t c.args.class x ∷ [] = c.in_ok-push.ensures.items ∙ ap (λ p. parts ++ p ∷ []) c.member.ensures in
    let made = made_more (part_with t c.args.class) (walk_at t.labels c.args.class) parts c.push.new.self.items x c.loop-next.invariant.0 at more in
    let class : class_at t.labels x ≡ c.args.class = class_at_is t.labels x c.args.class 0 (begins t kept c.args.class (length parts) x at) in
    let Q : Table → Type 0 = λ v. (k : ℕ) → slice_get (walk_at v.labels (class_at v.labels x)) k ≡ Some x → c.next-next.result ≡ slice_get (walk_at v.labels (class_at v.labels x)) (k + 1) in
    let next = subst Q c.self.view_is c.next-next.ensures in
    let here : slice_get (walk_at t.labels (class_at t.labels x)) (length parts) ≡ Some x = ap (λ (v : ℕ). slice_get (walk_at t.labels v) (length parts)) class ∙ at in (
      made.0,
      next (length parts) here ∙ ap (λ (v : ℕ). slice_get (walk_at t.labels v) (length parts + 1)) class ∙ ap (λ (n : ℕ). slice_get (walk_at t.labels c.args.class) n) (sym made.1),
    )

pub returns : goal.returns
returns c =
    made_all (part_with c.args.self.now c.args.class) (walk_at c.args.self.now.labels c.args.class) c.loop-next.parts.items c.loop-next.next
    c.loop-next.invariant.0 c.loop-next.invariant.1 c.in_default.not-Some
