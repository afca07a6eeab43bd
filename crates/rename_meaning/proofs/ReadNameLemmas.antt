-- Names of a text that is read and bound, and the tokens that name their entities.
use Rattle.analysis.specs.Below.c99_grammar.Standard.{iso}
use Rattle.analysis.specs.Below.c99_read.State.{base_at, is_identifier}
use Rattle.tree_laws.proofs.EntityNames.{entities_are_names}
use Rattle.tree_laws.proofs.HeldNames.{bound_names_pass}
use Rattle.tree_laws.specs.ReadTexts.{ReadEntitiesAreNames, ReadNamesAreIdentifiers}
use Rattle.tree_laws.proofs.NamesRead.{names_are_read}
use Rattle.tree_laws.proofs.OfTexts.{trees_of_texts}

-- they are identifiers
pub names_identify : ReadNamesAreIdentifiers
names_identify = λ s toks tree b read binds.
    bound_names_pass (λ i. is_identifier (base_at (iso s) toks i)) toks tree b (trees_of_texts s toks tree read) (names_are_read s toks tree read) binds

-- the token that names an entity is a name of it
pub entities_named : ReadEntitiesAreNames
entities_named = λ s toks tree b read binds. entities_are_names toks tree b (trees_of_texts s toks tree read) binds
