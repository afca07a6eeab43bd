use Rattle.std.proofs.Common.{Option, Some, [], ap, subst, sym, ◌∙◌}
use Rattle.std.specs.Prelude.{OnOk}
use Rattle.std.specs.Option.{option_map_or}
use Rattle.std.proofs.lemmas.Option.{slice_get-get_or, slice_get_past}
use Rattle.cs_base.specs.Token.{Token}
use Rattle.rename_rules.specs.GnuOffences.{held_text}
use Rattle.rename_rules.specs.GnuTexts.{AddTexts}
use Rattle.rename_rules.proofs.GnuLemmas.{add_none}
use Rattle.rename_rules.proofs.symbols.push_at.Goals as goal

pub returns-then-k-toks : goal.returns-then-k-toks
returns-then-k-toks c =
    let toks = c.args.toks.now in
    let k = c.args.k in
    let at =
    slice_get-get_or toks k c.index-toks-k.result c.if-k-toks.true ∙ ap (λ (t : Token). Some t) (sym c.index-toks-k.is) in
    let held = held_text c.args.class.now.members in
    subst (λ (o : Option Token). OnOk c.push_held.result (AddTexts c.args.olds.now.items (option_map_or held o []) c.push_held.new.olds.items)) (sym at) c.push_held.ensures

pub returns-else-k-toks : goal.returns-else-k-toks
returns-else-k-toks c =
    let toks = c.args.toks.now in
    let held = held_text c.args.class.now.members in
    subst (λ (o : Option Token). AddTexts c.args.olds.now.items (option_map_or held o []) c.args.olds.now.items) (sym (slice_get_past toks c.args.k c.if-k-toks.false))
    (add_none c.args.olds.now.items)
