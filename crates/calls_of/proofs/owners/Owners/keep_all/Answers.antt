use Rattle.std.proofs.Common.{rules, ◌≡◌, ◌+◌, ◌++◌, ◌∷◌, [], take}
use Rattle.std.proofs.lemmas.List.{take_more}
use Rattle.calls_of.specs.Bodies.{owned}
use Rattle.calls_of.specs.Owners.{owner_at, Grew}
use Rattle.calls_of.proofs.OwnerLemmas.{grew-next}
use Rattle.calls_of.proofs.owners.Owners.keep_all.Goals as goal

pub loop-tok-preserved : goal.loop-tok-preserved
loop-tok-preserved c =
    let toks = c.args.toks.now in
    let tok = c.tok-item.result in
    let one_more : take (c.loop-tok.tok-index + 1) toks ≡ take c.loop-tok.tok-index toks ++ tok ∷ [] = search (rules, take_more) in
    let here : Grew (owned c.args.name.now tok ∷ []) (owner_at c.loop-tok.self.names) (owner_at c.keep.new.self.names) = search rules in
    grew-next c.args.name.now toks c.loop-tok.tok-index tok (owner_at c.args.self.now.names) (owner_at c.loop-tok.self.names) (owner_at c.keep.new.self.names)
    one_more c.loop-tok.invariant here
