use Rattle.std.proofs.Common.{sym, ap, ◌∙◌}
use Rattle.std.specs.List.{list_any}
use Rattle.unseen_names.specs.Characters.{Adds}
use Rattle.unseen_names.specs.Groups.{in_event}
use Rattle.unseen_names.specs.Unseen.{comes_from}
use Rattle.unseen_names.proofs.CharacterLemmas.{adds_none, adds_same}
use Rattle.unseen_names.proofs.NameLemmas.{in_one}
use Rattle.unseen_names.proofs.UnseenLemmas.{on_ok_then}
use Rattle.unseen_names.proofs.names.mark_event.Goals as goal

pub returns-in-Some : goal.returns-in-Some
returns-in-Some c =
    let old = c.args.marks.now.items in
    let new = c.mark_token.new.marks.items in
    let name = c.in-Some.name.now in
    let event = c.args.event.now in
    on_ok_then c.mark_token.result (Adds (λ p. comes_from p name) old new) (Adds (λ p. in_event c.args.group p event) old new) c.mark_token.ensures
    (λ adds. adds_same (λ p. comes_from p name) (λ p. in_event c.args.group p event) old new adds
    (λ p. in_one p name ∙ ap (list_any (comes_from p)) (sym c.in-Some.ensures)))

pub returns-in-None : goal.returns-in-None
returns-in-None c =
    adds_none (λ p. in_event c.args.group p c.args.event.now) c.args.marks.now.items (λ p. ap (list_any (comes_from p)) c.in-None.ensures)
