use Rattle.std.proofs.Common.{◌≡◌, true, sym, ◌∙◌}
use Rattle.template_rules.specs.Asking.{is_of_run}
use Rattle.template_rules.specs.Lists.{each_mark}
use Rattle.template_rules.proofs.WholeLemmas.{whole_stands}
use Rattle.template_rules.proofs.list_macros.is_whole_at.Goals as goal

pub returns-then-names_function : goal.returns-then-names_function
returns-then-names_function c is =
    let unit = c.args.unit.now in
    let run : each_mark (is_of_run unit.text.now.reached c.args.number) c.args.other.now ≡ true = sym (rw unit.reached at c.is_of_run.ensures) ∙ is in
    whole_stands c.args.toks.now unit.text.now c.args.number unit.class.members unit.bound.now.names c.args.list.now c.args.other.now
    (sym (rw c.toks-others.ensures at c.if-is_same_list.ensures)) (sym c.if-names_function.ensures) run
