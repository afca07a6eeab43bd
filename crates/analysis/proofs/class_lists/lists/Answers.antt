use Rattle.std.proofs.Common.{◌≡◌, ◌+◌, List, sym, ap, ◌∙◌, subst, arith}
use Rattle.cs_base.specs.declared.positions.Part.{Part}
use Rattle.analysis.specs.Analysed.{ClassLists, class_lists, AreLists}
use Rattle.analysis.specs.Listing.{AreListed, AreBelow, with_class}
use Rattle.analysis.proofs.ListingLemmas.{listed_more, listed_all}
use Rattle.analysis.proofs.class_lists.lists.Goals as goal

pub loop-class-preserved : goal.loop-class-preserved
loop-class-preserved c =
    let a = c.args.a.now in
    let classes = c.args.classes.now in
    let n = c.loop-class.class in
    let lists = c.loop-class.lists in
    let parts = c.in_ok-parts.parts.items in
    let new : c.push.new.self ≡ with_class parts lists =
    c.in_ok-push.ensures ∙ ap (λ (l : List Part). with_class l lists) c.deref-in-loop-class.ensures.value in
    let P : ClassLists → Type 0 = λ l. AreListed a classes (n + 1) l in
    subst P (sym new) (listed_more a classes c.requires n lists parts c.loop-class.invariant c.in_ok-parts.ensures)

pub returns : goal.returns
returns c =
    let a = c.args.a.now in
    let classes = c.args.classes.now in
    let n = c.loop-class.class in
    let lists = c.loop-class.lists in
    let firsts = c.sort_firsts.new.self.firsts in
    let below : AreBelow classes n = λ part class is. (let less = c.class_numbers-class-end.ensures.bound part class is in omega arith) in
    let P : List (List Part) → Type 0 = λ m. AreLists a classes (class_lists m firsts) in
    subst P (sym c.in_ok-sort_firsts.ensures.members)
    (listed_all a classes c.requires n lists firsts c.loop-class.invariant below c.in_ok-sort_firsts.ensures.moved c.in_ok-sort_firsts.ensures.sorted)
