use Rattle.std.proofs.Common.{◌≡◌, true, refl, sym, ◌∙◌}
use Rattle.template_rules.specs.NameOffences.{has_prototype}
use Rattle.template_rules.proofs.NameLemmas.{none_lacking}
use Rattle.template_rules.proofs.names.no_prototype_at.Goals.{else-declares_function-via-then-declares_function+else-not-has_prototype, else-declares_function-via-else-declares_function}
use Rattle.template_rules.proofs.names.no_prototype_at.Goals as goal

pub returns-else-declares_function : goal.returns-else-declares_function
returns-else-declares_function c =
    let unit = c.args.unit.now in
    elim c.else-declares_function.branch [
      | else-declares_function-via-then-declares_function+else-not-has_prototype w ↦
          let has : has_prototype unit.lists c.args.name.index ≡ true = sym w.has_prototype.ensures ∙ w.if-not-has_prototype.false in
          none_lacking c.args.a.now.value.table unit.class.members unit.text.now.toks unit.bound.now.names c.args.name c.args.first unit.lists
          (rw (← c.declares_function.ensures, w.if-declares_function.true, has) refl)
      | else-declares_function-via-else-declares_function w ↦
          none_lacking c.args.a.now.value.table unit.class.members unit.text.now.toks unit.bound.now.names c.args.name c.args.first unit.lists
          (rw (← c.declares_function.ensures, w.if-declares_function.false) refl)
    ]
