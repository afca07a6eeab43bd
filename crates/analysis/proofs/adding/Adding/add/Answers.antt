use Rattle.std.proofs.Common.{[], ◌∙◌, refl, arith}
use Rattle.analysis.proofs.AddingLemmas.{free_behind, added_last, ends_last}
use Rattle.analysis.proofs.adding.Adding.add.Goals as goal

pub add_token-requires-clause-free : goal.add_token-requires-clause-free
add_token-requires-clause-free c =
    free_behind c.self.inside.classes c.self.inside.end c.self.inside.count c.self.inside.count c.span-place.result c.self.invariant (c.if-not-follows.ensures refl)

pub invariant_of-self-2 : goal.invariant_of-self-2
invariant_of-self-2 c =
    let was = c.self.invariant in
    let adds = c.in_ok-add_token.ensures in
    record {
      ends = ends_last c.self.inside.classes c.add_token.new.self c.self.inside.end c.self.inside.count c.span-place.result was.ends (c.if-not-follows.ensures refl) adds.exact;
      counted = omega (arith, was.counted, adds.count);
      links = adds.links [] was.links;
      parts = adds.parts;
    }

pub returns : goal.returns
returns c =
    added_last c.self.inside.classes c.add_token.new.self c.self.inside.end c.self.inside.count c.span-place.result c.self.invariant.ends (c.if-not-follows.ensures refl) c.in_ok-add_token.ensures.exact
    ∙ rw (c.self.view_is, c.span-place.ensures)
