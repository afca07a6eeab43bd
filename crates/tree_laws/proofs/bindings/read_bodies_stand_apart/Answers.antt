use Rattle.c99_grammar.specs.declared.dialects.Dialect.TheVariants.{Iso}
use Rattle.tree_laws.proofs.bindings.read_bodies_stand_apart.Goals as goal

pub returns : goal.returns
returns c = record {
  within = λ std toks tree b read binds. c.bodies_stand_apart.ensures.within toks tree b (c.trees_are_of_their_texts.ensures.trees (Iso std) toks tree read) binds;
  apart = λ std toks tree b read binds. c.bodies_stand_apart.ensures.apart toks tree b (c.trees_are_of_their_texts.ensures.trees (Iso std) toks tree read) binds;
}
