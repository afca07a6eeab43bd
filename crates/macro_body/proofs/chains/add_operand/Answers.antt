use Rattle.std.proofs.Common.{rules, ◌≡◌, ◌++◌, ◌∷◌, []}
use Rattle.std.proofs.lemmas.Result.{IfOk-weaker}
use Rattle.macro_body.proofs.ChainLemmas.{behind-first, behind-last}
use Rattle.macro_body.proofs.chains.add_operand.Goals as goal

pub returns-in-None : goal.returns-in-None
returns-in-None c =
    let before : c.args.chains.now.items ≡ [] = search rules in
    let after : c.pop.new.self.items ≡ [] = search rules in
    IfOk-weaker c.begin_chain.result _ _ (λ x is. behind-first c.args.chains.now.items c.pop.new.self.items c.begin_chain.new.chains.items c.args.part before after is) c.begin_chain.ensures

pub returns-in_ok-push-in-Some : goal.returns-in_ok-push-in-Some
returns-in_ok-push-in-Some c =
    let is : c.push.new.self.items ≡ c.pop.new.self.items ++ (c.in-Some.last ++ c.args.part ∷ []) ∷ [] = search rules in
    behind-last c.args.chains.now.items c.pop.new.self.items c.push.new.self.items c.in-Some.last c.args.part c.in-Some.ensures.items is
