use Rattle.std.proofs.Common.{rules, ◌≡◌, ◌+◌, ◌++◌, ◌∷◌, [], List, Option, take, sym, ap, ◌∙◌}
use Rattle.std.proofs.lemmas.List.{take_more}
use Rattle.cs_base.specs.Token.{Token}
use Rattle.linkage_join.specs.Firsts.{first_at, with_names}
use Rattle.linkage_join.proofs.FirstsLemmas.{with_names-push}
use Rattle.linkage_join.proofs.firsts.Firsts.add.Goals as goal

pub loop-name-preserved : goal.loop-name-preserved
loop-name-preserved c = λ project text.
    let own = c.args.unit.now.project in
    let names = c.args.unit.now.names in
    let name = c.name-item.result in
    let one_more : take (c.loop-name.name-index + 1) names ≡ take c.loop-name.name-index names ++ name ∷ [] = search (rules, take_more) in
    let kept : first_at c.keep.new.self.toks project text ≡ with_names own (name ∷ []) (first_at c.loop-name.self.toks) project text = search rules in
    kept
    ∙ ap (λ (before : Option Token). with_names own (name ∷ []) (λ p t. before) project text) (c.loop-name.invariant project text)
    ∙ with_names-push own (take c.loop-name.name-index names) name (first_at c.args.self.now.toks) project text
    ∙ ap (λ (toks : List Token). with_names own toks (first_at c.args.self.now.toks) project text) (sym one_more)
