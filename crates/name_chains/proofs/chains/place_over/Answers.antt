use Rattle.std.proofs.Common.{sym, ◌∙◌}
use Rattle.name_chains.specs.Chains.{name_key_of}
use Rattle.name_chains.proofs.ChainedMore.{named_by}
use Rattle.name_chains.proofs.ChainedOver.{lasting_all, lasting_on}
use Rattle.name_chains.proofs.chains.place_over.Goals as goal

pub ended-init : goal.ended-init
ended-init c =
    lasting_all (name_key_of c.args.numbers.now) (name_key_of c.args.numbers.now c.args.d.now) c.args.d.now.from c.args.declared.now
    c.args.names.now.before c.args.over.now c.newest-place.result
    (named_by c.args.numbers.now c.args.declared.now c.args.names.now c.args.d.now.space c.args.d.now.name_at c.name_key.result c.newest-place.result
    c.requires.chained c.name_key.ensures c.newest-place.ensures) c.requires.over

pub ended-smaller : goal.ended-smaller
ended-smaller c =
    (lasting_on (name_key_of c.args.numbers.now) (name_key_of c.args.numbers.now c.args.d.now) c.args.d.now.from c.args.declared.now
    c.args.names.now.before c.args.over.now c.newest-place.result
    (named_by c.args.numbers.now c.args.declared.now c.args.names.now c.args.d.now.space c.args.d.now.name_at c.name_key.result c.newest-place.result
    c.requires.chained c.name_key.ensures c.newest-place.ensures)
    c.requires.over c.ended.place c.next_at-place.result c.ended.invariant c.ended-test.true
    (sym c.has_ended.ensures ∙ c.if-has_ended.true) c.next_at-place.ensures).1

pub ended-preserved : goal.ended-preserved
ended-preserved c =
    (lasting_on (name_key_of c.args.numbers.now) (name_key_of c.args.numbers.now c.args.d.now) c.args.d.now.from c.args.declared.now
    c.args.names.now.before c.args.over.now c.newest-place.result
    (named_by c.args.numbers.now c.args.declared.now c.args.names.now c.args.d.now.space c.args.d.now.name_at c.name_key.result c.newest-place.result
    c.requires.chained c.name_key.ensures c.newest-place.ensures)
    c.requires.over c.ended.place c.next_at-place.result c.ended.invariant c.ended-test.true
    (sym c.has_ended.ensures ∙ c.if-has_ended.true) c.next_at-place.ensures).0
