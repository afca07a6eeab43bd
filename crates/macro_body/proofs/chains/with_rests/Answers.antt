use Rattle.std.proofs.Common.{◌≡◌, List, [], ◌∷◌, ◌++◌, map, ap, sym, ◌∙◌}
use Rattle.std.proofs.lemmas.List.{map-append}
use Rattle.macro_body.specs.Bodies.{Part, rest_or_chain}
use Rattle.macro_body.proofs.chains.with_rests.Goals as goal

pub loop-chain-preserved : goal.loop-chain-preserved
loop-chain-preserved c =
    let each = rest_or_chain c.args.m.now in
    c.in_ok-push.ensures.items
    ∙ ap (λ (xs : List (List Part)). xs ++ c.in_ok-rest_or_chain.field-0 ∷ []) c.loop-chain.invariant
    ∙ ap (λ (x : List Part). map each c.loop-chain.yielded ++ x ∷ []) c.in_ok-rest_or_chain.ensures
    ∙ sym (map-append each c.loop-chain.yielded (c.in-Some.chain ∷ []))
