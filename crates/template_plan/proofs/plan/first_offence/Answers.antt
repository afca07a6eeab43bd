use Rattle.std.proofs.Common.{None, ◌++◌}
use Rattle.offences.specs.First.{FirstThen, IsFirst}
use Rattle.offences.proofs.FirstLemmas.{then_both}
use Rattle.template_rules.specs.GnuOffences.{gnu_offences}
use Rattle.template_rules.specs.Insides.{all_insides, all_macro_names}
use Rattle.template_rules.specs.Lists.{count_of}
use Rattle.template_rules.specs.Marks.{all_marks}
use Rattle.template_rules.specs.NameOffences.{all_names}
use Rattle.template_rules.specs.Offences.{all_lists, offences_of}
use Rattle.template_plan.proofs.PlanLemmas.{first_of}
use Rattle.template_plan.proofs.plan.first_offence.Goals as goal

pub returns : goal.returns
returns c =
    let a = c.args.functions.now.analysis.value in
    let ms = c.args.functions.now.members in
    let t = a.table in
    let n = all_names ms a in
    let m = all_marks ms a c.args.count in
    let r = all_macro_names ms a in
    let i = all_insides ms a in
    let l = all_lists ms a in
    let g = gnu_offences ms a in
    rw (← c.requires)
    (first_of t (n ++ (m ++ (r ++ (i ++ (l ++ g))))) _
    (then_both t n (m ++ (r ++ (i ++ (l ++ g)))) None c.at_names-named.result _ c.at_names-named.ensures.answer
    (then_both t m (r ++ (i ++ (l ++ g))) c.at_names-named.result c.at_marks-marked.result _ c.at_marks-marked.ensures.answer
    (then_both t r (i ++ (l ++ g)) c.at_marks-marked.result c.at_macro_names-replaced.result _ c.at_macro_names-replaced.ensures.answer
    (then_both t i (l ++ g) c.at_macro_names-replaced.result c.at_insides-inside.result _ c.at_insides-inside.ensures.answer
    (then_both t l g c.at_insides-inside.result _ _ c.in_ok-listed.ensures.answer c.in_ok-last.ensures.answer))))))
