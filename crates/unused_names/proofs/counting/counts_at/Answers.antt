use Rattle.std.proofs.Common.{◌∙◌, Option, false, sym, ap}
use Rattle.std.specs.Option.{option_map_or}
use Rattle.cs_base.proofs.ListLemmas.{read_at}
use Rattle.analysis.specs.Below.unit_steps.declared.events.Event.{Event}
use Rattle.unused_names.specs.Unneeded.{brings_number}
use Rattle.unused_names.proofs.counting.counts_at.Goals as goal

pub returns : goal.returns
returns c =
    let e = c.index-events-i.result in
    let at = read_at c.args.events.now c.args.i e c.requires c.index-events-i.is in
    c.brings_number.ensures ∙ sym (ap (λ (o : Option Event). option_map_or (λ (x : Event). brings_number x.kind x.def x.name) o false) at)
