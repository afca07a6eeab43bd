use Rattle.std.proofs.Common.{sym, ◌∙◌}
use Rattle.std.specs.List.{flat_map}
use Rattle.cs_base.specs.declared.causes.Cause.TheVariants as cause
use Rattle.cs_base.proofs.ListLemmas.{nil_from}
use Rattle.offences.specs.First.{standing}
use Rattle.offences.proofs.FirstLemmas.{then_both}
use Rattle.template_rules.specs.MacroOffences.{line_number_place}
use Rattle.template_rules.specs.ScopeOffences.{declaration_place}
use Rattle.template_rules.proofs.TurnLemmas.{none_insides, insides_first}
use Rattle.template_rules.proofs.list_insides.insides_at.Goals as goal

pub returns-then-is_empty : goal.returns-then-is_empty
returns-then-is_empty c =
    none_insides c.args.unit.now c.args.a.now.value.table c.args.first
    (sym c.as_slice-lists.ensures.value ∙ nil_from c.as_slice-lists.result.now c.if-is_empty.ensures)

pub returns : goal.returns
returns c =
    let f = c.args.unit.now in
    let lists = f.found.items in
    let both =
    then_both c.args.a.now.value.table
    (flat_map (λ e. flat_map (λ l. standing cause.LineNumber (line_number_place l.now e)) lists) f.text.now.events)
    (flat_map (λ n. flat_map (λ l. standing cause.DeclarationInArgument (declaration_place f.text.now.toks l.now n)) lists) f.bound.now.names)
    c.args.first c.line_numbers_at-numbered.result c.declarations_at.result (rw c.events.ensures at (c.line_numbers_at-numbered.ensures lists f.covered))
    (rw (c.toks.ensures, c.names.ensures) at (c.declarations_at.ensures lists f.covered)) in
    insides_first f c.args.a.now.value.table c.args.first c.declarations_at.result both
