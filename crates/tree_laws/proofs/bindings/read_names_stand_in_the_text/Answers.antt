use Rattle.c99_grammar.specs.declared.dialects.Dialect.TheVariants.{Iso}
use Rattle.tree_laws.proofs.bindings.read_names_stand_in_the_text.Goals as goal

pub returns : goal.returns
returns c = record {
  names = λ std toks tree b read binds. c.names_stand_in_the_text.ensures.names toks tree b (c.trees_are_of_their_texts.ensures.trees (Iso std) toks tree read) binds;
  faults = λ std toks tree read. c.names_stand_in_the_text.ensures.faults toks tree (c.trees_are_of_their_texts.ensures.trees (Iso std) toks tree read);
}
