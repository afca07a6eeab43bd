use Rattle.std.proofs.Common.{List, ℕ, subst, sym, ap, ◌<◌, length}
use Rattle.std.specs.Prelude.{IsUtf8}
use Rattle.std.proofs.lemmas.List.{get_or-map}
use Rattle.std.proofs.Math.ListN.{length-map}
use Rattle.cs_base.specs.declared.edit_list.FileEdit.{FileEdit}
use Rattle.cs_base.specs.Edit.{Edit, edit}
use Rattle.cs_base.proofs.edit_list.Edits.path.Goals as goal

pub returns-clause-utf8 : goal.returns-clause-utf8
returns-clause-utf8 c =
    let shown : FileEdit → Edit = λ f. edit f.path f.bytes.items f.count in
    let file = c.index-file.result.now in
    let Within : List Edit → Type 0 = λ es. c.args.k < length es in
    let within = subst Within (sym c.self.view_is) c.requires in
    let within' : c.args.k < length c.self.inside.edits.items = simp length-map at within in
    let Text : List ℕ → Type 0 = λ path. IsUtf8 path in
    let text = c.self.invariant.texts c.args.k (shown file) within in
    let found =
    subst Text (ap (λ (e : Edit). e.path) (get_or-map shown c.self.inside.edits.items c.args.k file (shown file) within')) text in
    let kept = subst Text (ap (λ (f : FileEdit). f.path) (sym c.index-file.ensures)) found in
    rw c.bytes.ensures kept
