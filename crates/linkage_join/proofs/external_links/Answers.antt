use Rattle.std.proofs.Common.{rules, ◌≡◌, ◌+◌, ◌++◌, ◌∷◌, [], List, ℕ, Option, take, sym, ap, ◌∙◌}
use Rattle.std.proofs.lemmas.List.{take_more}
use Rattle.cs_base.specs.Token.{Token}
use Rattle.cs_base.specs.declared.tokens.Link.{Link}
use Rattle.linkage_join.specs.Linkage.{UnitValue, first_spelled, names_of, links_of, unit_links}
use Rattle.linkage_join.specs.Firsts.{first_at, with_names, table_links}
use Rattle.linkage_join.proofs.LinkageLemmas.{first_spelled-push, links_of-push}
use Rattle.linkage_join.proofs.FirstsLemmas.{table_links-unit}
use Rattle.linkage_join.proofs.AlikeLemmas.{links_of-alike}
use Rattle.linkage_join.proofs.external_links.Goals as goal

abbrev before : goal.In_ok-add → List UnitValue
before c = take c.loop-unit.unit-index c.args.units.now

one_more : (c : goal.In_ok-add) → take (c.loop-unit.unit-index + 1) c.args.units.now ≡ before c ++ c.unit-item.result ∷ []
one_more c = search (rules, take_more)

entered : (c : goal.In_ok-add) (project text : List ℕ)
    → first_at c.add.new.self.toks project text ≡ with_names c.unit-item.result.project c.unit-item.result.names (first_at c.loop-unit.firsts.toks) project text
entered c project text = search rules

linked : (c : goal.In_ok-add)
    → c.link.new.links.items ≡ c.loop-unit.links.items ++ table_links (first_at c.loop-unit.firsts.toks) c.unit-item.result.project c.unit-item.result.names
linked c = search rules

pub loop-unit-preserved : goal.loop-unit-preserved
loop-unit-preserved c =
    let u = c.unit-item.result in (
      (λ project text.
          entered c project text
          ∙ ap (λ (first : Option Token). with_names u.project u.names (λ p t. first) project text) (c.loop-unit.invariant.0 project text)
          ∙ sym (first_spelled-push project text (before c) u)
          ∙ ap (λ (units : List UnitValue). first_spelled text (names_of project units)) (sym (one_more c))),
      linked c
          ∙ ap (λ (links : List Link). c.loop-unit.links.items ++ links) (table_links-unit (first_at c.loop-unit.firsts.toks) (before c) u c.loop-unit.invariant.0)
          ∙ ap (λ (links : List Link). links ++ unit_links (before c) u) c.loop-unit.invariant.1
          ∙ sym (links_of-push (before c) u)
          ∙ ap links_of (sym (one_more c)),
    )

pub returns-clause-alike : goal.returns-clause-alike
returns-clause-alike c = links_of-alike (take c.loop-unit.unit-index c.args.units.now) _ c.loop-unit.invariant.1
