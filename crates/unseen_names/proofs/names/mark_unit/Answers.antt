use Rattle.std.proofs.Common.{List, ap}
use Rattle.std.specs.List.{list_any}
use Rattle.cs_base.specs.Token.{Token}
use Rattle.analysis.specs.Below.unit_steps.declared.events.Event.{Event}
use Rattle.unseen_names.specs.Characters.{Adds}
use Rattle.unseen_names.specs.Groups.{in_event, in_names, in_tokens}
use Rattle.unseen_names.proofs.CharacterLemmas.{adds_both, adds_same}
use Rattle.unseen_names.proofs.UnseenLemmas.{on_ok_then}
use Rattle.unseen_names.proofs.names.mark_unit.Goals as goal

pub returns : goal.returns
returns c =
    let g = c.args.group in
    let text = c.args.text.now in
    let names = c.args.bound.now.names in
    let old = c.args.marks.now.items in
    let mid = c.mark_events.new.marks.items in
    let new = c.mark_bound.new.marks.items in
    let first = adds_same (λ p. list_any (in_event g p) c.events.result.now) (λ p. list_any (in_event g p) text.events) old mid c.in_ok-mark_events.ensures
    (λ p. ap (λ (es : List Event). list_any (in_event g p) es) c.events.ensures) in
    on_ok_then c.mark_bound.result (Adds (λ p. in_tokens g p names 0 c.toks.result.now) mid new) (Adds (λ p. in_names g p text names) old new) c.mark_bound.ensures
    (λ more. adds_both (λ p. list_any (in_event g p) text.events) (λ p. in_tokens g p names 0 text.toks) old mid new first
    (adds_same (λ p. in_tokens g p names 0 c.toks.result.now) (λ p. in_tokens g p names 0 text.toks) mid new more
    (λ p. ap (λ (ts : List Token). in_tokens g p names 0 ts) c.toks.ensures)))
