use Rattle.std.proofs.Common.{List, ap, ◌++◌, ◌∙◌}
use Rattle.std.specs.Borrow.{Bor}
use Rattle.std.specs.List.{list_any}
use Rattle.c_types.specs.declared.lists.List.{List as NameList}
use Rattle.template_rules.specs.ScopeOffences.{is_inside}
use Rattle.template_rules.proofs.GnuLemmas.{in_own}
use Rattle.template_rules.proofs.gnu_units.is_in_own.Goals as goal

pub returns : goal.returns
returns c =
    let unit = c.args.unit.now in
    c.is_inside_one.ensures
    ∙ (ap (λ (ls : List (Bor NameList)). list_any (λ (l : Bor NameList). is_inside l.now c.args.k) ls) c.as_slice.ensures.value
    ∙ in_own unit.class.members unit.text.now.toks unit.bound.now.names unit.entities unit.named unit.found.items (unit.bound.now.declarators ++ unit.bound.now.calls) c.args.k
    unit.gathered)
