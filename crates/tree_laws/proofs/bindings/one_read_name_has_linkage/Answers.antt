use Rattle.c99_grammar.specs.declared.dialects.Dialect.TheVariants.{Iso}
use Rattle.tree_laws.proofs.bindings.one_read_name_has_linkage.Goals as goal

pub returns : goal.returns
returns c = λ std toks tree b read binds. c.one_name_has_linkage.ensures toks tree b (c.trees_are_of_their_texts.ensures.trees (Iso std) toks tree read) binds
