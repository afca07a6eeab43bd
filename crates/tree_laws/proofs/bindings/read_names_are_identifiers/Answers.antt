use Rattle.c99_grammar.specs.declared.dialects.Dialect.TheVariants.{Iso}
use Rattle.c99_grammar.specs.Standard.{iso}
use Rattle.c99_read.specs.State.{base_at, is_identifier}
use Rattle.tree_laws.proofs.NamesRead.{names_are_read}
use Rattle.tree_laws.proofs.bindings.read_names_are_identifiers.Goals as goal

pub returns : goal.returns
returns c = λ std toks tree b read binds.
    c.bound_names_pass.ensures (λ i. is_identifier (base_at (iso std) toks i)) toks tree b (c.trees_are_of_their_texts.ensures.trees (Iso std) toks tree read)
    (names_are_read std toks tree read) binds
