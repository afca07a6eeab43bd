use Rattle.kept_analysis.proofs.AdvanceLemmas.{answered_own, parts_own, parts_read}
use Rattle.kept_analysis.proofs.advancing.followed.Goals as goal

pub of_parts-requires-clause-own : goal.of_parts-requires-clause-own
of_parts-requires-clause-own c =
    parts_own c.args.moves.now c.args.a c.in_ok-workspace.field-0.workspace _ _ _ _ _ _ c.args.class c.args.len c.in_ok-workspace.ensures.answer c.requires.own
    c.in_ok-classes.ensures.moved c.in_ok-classes.ensures.parts c.in_ok-units.ensures c.in_ok-cache.ensures

pub returns-clause-own : goal.returns-clause-own
returns-clause-own c =
    answered_own c.of_parts.result _ _
    (parts_own c.args.moves.now c.args.a c.in_ok-workspace.field-0.workspace _ _ _ _ _ _ c.args.class c.args.len c.in_ok-workspace.ensures.answer c.requires.own
    c.in_ok-classes.ensures.moved c.in_ok-classes.ensures.parts c.in_ok-units.ensures c.in_ok-cache.ensures) c.of_parts.ensures

pub renamed_units-requires : goal.renamed_units-requires
renamed_units-requires c =
    parts_read c.args.moves.now c.args.a c.in_ok-workspace.field-0.workspace _ _ _ c.in_ok-workspace.ensures.answer c.requires.read
