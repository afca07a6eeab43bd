use Rattle.std.proofs.Common.{Bool, [], slice_get, subst}
use Rattle.std.specs.Prelude.{cond, OnOk}
use Rattle.std.specs.Option.{option_map_or}
use Rattle.rename_rules.specs.GnuOffences.{held_text}
use Rattle.rename_rules.specs.GnuTexts.{AddTexts}
use Rattle.rename_rules.proofs.GnuLemmas.{add_none}
use Rattle.rename_rules.proofs.symbols.push_name.Goals as goal

pub returns-then-is_symbol : goal.returns-then-is_symbol
returns-then-is_symbol c =
    let texts = option_map_or (held_text c.args.class.now.members) (slice_get c.args.toks.now c.args.name.index) [] in
    subst (λ (b : Bool). OnOk c.push_at.result (AddTexts c.args.olds.now.items (cond b texts []) c.push_at.new.olds.items)) c.if-is_symbol.ensures c.push_at.ensures

pub returns-else-is_symbol : goal.returns-else-is_symbol
returns-else-is_symbol c =
    let texts = option_map_or (held_text c.args.class.now.members) (slice_get c.args.toks.now c.args.name.index) [] in
    subst (λ (b : Bool). AddTexts c.args.olds.now.items (cond b texts []) c.args.olds.now.items) c.if-is_symbol.ensures (add_none c.args.olds.now.items)
