use Rattle.std.proofs.Common.{◌≡◌, true, false, List, ℕ, [], ◌∷◌, sym, ap, ◌∙◌}
use Rattle.std.specs.Prelude.{◌==◌, if◌then◌else◌}
use Rattle.std.proofs.lemmas.Bool.{eq-eqb, ne_eqb}
use Rattle.template_rules.specs.FileLists.{marks_in, with_list, with_lists}
use Rattle.template_rules.proofs.ListLemmas.{with_one, with_none, put_told}
use Rattle.template_rules.proofs.file_lists.put_found.Goals as goal

pub returns-in_ok-marks : goal.returns-in_ok-marks
returns-in_ok-marks c =
    put_told c.args.file c.args.found.now c.args.lists.now.items c.put_list.new.lists.items c.new.result c.put_list.result c.if-found-file.true
    (c.new.ensures ∙ c.in_ok-marks.ensures.items ∙ c.as_slice.ensures) c.put_list.ensures

pub returns-else-found-file : goal.returns-else-found-file
returns-else-found-file c =
    let other : (c.args.found.now.file == c.args.file) ≡ false = ne_eqb c.args.found.now.file c.args.file c.if-found-file.false in
    sym (ap (λ b. with_lists (if b then c.args.found.now.marks ∷ [] else []) c.args.lists.now.items) other ∙ with_none c.args.lists.now.items)
