use Rattle.std.proofs.Common.{IsTrue, List, subst, sym, ◌+◌, ◌<◌, ◌^◌, length}
use Rattle.std.proofs.lemmas.List.{map-append}
use Rattle.cs_base.specs.Edit.{Edit, edit, comes_last}
use Rattle.cs_base.specs.EditList.{edits_in}
use Rattle.cs_base.proofs.EditLemmas.{IsKept-push}
use Rattle.cs_base.proofs.edit_list.Edits.push.Goals as goal

pub invariant_of-self-2 : goal.invariant_of-self-2
invariant_of-self-2 c =
    let After : List Edit → Type 0 = λ es. IsTrue (comes_last c.args.path es) in
    let Few : List Edit → Type 0 = λ es. length es + 1 < 2 ^ 32 in
    let after = subst After (sym c.self.view_is) c.requires.after in
    let few = subst Few (sym c.self.view_is) c.requires.few in
    rw (c.in_ok-push.ensures.items, map-append)
    (IsKept-push (edits_in c.self.inside.edits.items) (edit c.args.path c.args.bytes.items c.args.count)
    c.self.invariant after c.requires.utf8 few)
