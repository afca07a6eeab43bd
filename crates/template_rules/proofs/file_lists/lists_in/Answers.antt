use Rattle.std.proofs.Common.{[], sym, ◌∙◌}
use Rattle.template_rules.specs.FileLists.{marks_in}
use Rattle.std.proofs.Common.{take}
use Rattle.std.specs.List.{flat_map}
use Rattle.template_rules.proofs.ListLemmas.{lists_next, lists_rise, with_none}
use Rattle.template_rules.proofs.file_lists.lists_in.Goals as goal

pub loop-one-init : goal.loop-one-init
loop-one-init c = c.new-lists.ensures.items ∙ sym (with_none [])

pub put_found-requires : goal.put_found-requires
put_found-requires c =
    lists_rise (flat_map (marks_in c.args.file) (take c.loop-one.one-index c.args.found.now)) c.loop-one.lists.items c.loop-one.invariant

pub loop-one-preserved : goal.loop-one-preserved
loop-one-preserved c =
    lists_next (marks_in c.args.file) c.args.found.now c.loop-one.one-index c.one-item.result [] c.loop-one.lists.items c.put_found.new.lists.items
    c.loop-one-test.true c.one-item.is c.loop-one.invariant c.in_ok-put_found.ensures
