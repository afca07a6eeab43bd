use Rattle.c99_grammar.specs.declared.dialects.Dialect.TheVariants.{Iso}
use Rattle.tree_laws.proofs.bindings.read_lists_stand_in_order.Goals as goal

pub returns : goal.returns
returns c = record {
  parameters = λ std toks tree b read binds. c.lists_stand_in_order.ensures.parameters toks tree b (c.trees_are_of_their_texts.ensures.plain std toks tree read) binds;
  arguments = λ std toks tree b read binds. c.lists_stand_in_order.ensures.arguments toks tree b (c.trees_are_of_their_texts.ensures.trees (Iso std) toks tree read) binds;
}
