use Rattle.std.proofs.Common.{Bool, true, false, sym, ap, ◌∙◌}
use Rattle.std.specs.List.{list_any}
use Rattle.unseen_names.specs.Characters.{Adds}
use Rattle.unseen_names.specs.Groups.{wanted_token}
use Rattle.unseen_names.specs.Unseen.{comes_from}
use Rattle.unseen_names.proofs.CharacterLemmas.{adds_none, adds_same}
use Rattle.unseen_names.proofs.NameLemmas.{in_one}
use Rattle.unseen_names.proofs.UnseenLemmas.{on_ok_then}
use Rattle.unseen_names.proofs.names.mark_wanted.Goals as goal

pub returns-then-wanted : goal.returns-then-wanted
returns-then-wanted c =
    let old = c.args.marks.now.items in
    let new = c.mark_token.new.marks.items in
    let tok = c.args.tok.now in
    on_ok_then c.mark_token.result (Adds (λ p. comes_from p tok) old new)
    (Adds (λ p. list_any (comes_from p) (wanted_token c.args.wanted tok)) old new) c.mark_token.ensures
    (λ adds. adds_same (λ p. comes_from p tok) (λ p. list_any (comes_from p) (wanted_token c.args.wanted tok)) old new adds
    (λ p. in_one p tok ∙ ap (λ (b : Bool). list_any (comes_from p) (wanted_token b tok)) (sym c.if-wanted.true)))

pub returns-else-wanted : goal.returns-else-wanted
returns-else-wanted c =
    adds_none (λ p. list_any (comes_from p) (wanted_token c.args.wanted c.args.tok.now)) c.args.marks.now.items
    (λ p. ap (λ (b : Bool). list_any (comes_from p) (wanted_token b c.args.tok.now)) c.if-wanted.false)
