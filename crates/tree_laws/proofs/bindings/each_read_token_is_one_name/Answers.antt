use Rattle.c99_grammar.specs.declared.dialects.Dialect.TheVariants.{Iso}
use Rattle.tree_laws.proofs.bindings.each_read_token_is_one_name.Goals as goal

pub returns : goal.returns
returns c = λ std toks tree b read binds. c.each_token_is_one_name.ensures toks tree b (c.trees_are_of_their_texts.ensures.trees (Iso std) toks tree read) binds
