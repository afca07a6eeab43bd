-- How the tokens of the rows are read and bound.
use Rattle.std.proofs.Common.{◌≡◌, List, [], Result, Ok, Err, refl}
use Rattle.cs_base.specs.Token.{Token}
use Rattle.analysis.specs.Below.c99_tree.declared.production.Production.TheVariants.{TranslationUnit}
use Rattle.analysis.specs.Below.c99_tree.Tree.{none, Node, node_of}
use Rattle.analysis.specs.Below.c99_read.Reading.{Stop, read_of, read_within, whole, take_one, at_end, enter}
use Rattle.analysis.specs.Below.c99_grammar.Standard.{c99}
use Rattle.analysis.specs.Below.c99_read.State.{class_at, acted, opened, closed}
use Rattle.analysis.specs.Below.c99_grammar.TokenClasses.{spelled_class, base_class}
use Rattle.analysis.specs.Below.lexer.Logical.{gone_length, logical_from, logical_of}
use Rattle.analysis.specs.Below.lexer.Spelling.{kind_of, kind_in, is_punctuator_text}
use Rattle.analysis.specs.Below.lexer.Tokens.{front_length, token_piece, piece_of, found_from, found_of, tokens_of}
use Rattle.analysis.specs.Below.scope_bind.Named.{Fault}
use Rattle.analysis.specs.Below.scope_bind.Bound.{Bound, binding_of}
use Rattle.analysis.specs.Below.scope_bind.Walk.{walked}
use Rattle.meaning_rows.specs.Rows.{two_objects, pasted_names, hidden_typedef}
use Rattle.meaning_rows.proofs.RowLemmas.{ReadSo}

-- the tree of tokens that have one, and what they bind
abbrev tree_or : Result Node Stop → Node
tree_or (Ok tree) = tree
tree_or (Err stop) = node_of (record { production = TranslationUnit; alternative = 1 }) 0 none

abbrev bound_or : Result Bound Fault → Bound
bound_or (Ok bound) = bound
bound_or (Err fault) = record { names = []; declarators = []; calls = []; functions = []; bare = []; typedefs = [] }

abbrev pub tree_of : List Token → Node
tree_of toks = tree_or (read_of c99 toks)

abbrev pub bound_of : List Token → Bound
bound_of toks = bound_or (binding_of toks (tree_of toks))

abbrev pub IsBound : List Token → Type 0
IsBound toks = ReadSo toks (tree_of toks) (bound_of toks)

pub two_objects_read : IsBound two_objects.toks
unfolding read_within whole take_one at_end enter spelled_class base_class class_at acted opened closed binding_of walked
two_objects_read = record { reads = refl; binds = refl }

pub pasted_names_read : IsBound pasted_names.toks
unfolding read_within whole take_one at_end enter spelled_class base_class class_at acted opened closed binding_of walked
pasted_names_read = record { reads = refl; binds = refl }

pub hidden_typedef_read : IsBound hidden_typedef.toks
unfolding read_within whole take_one at_end enter spelled_class base_class class_at acted opened closed binding_of walked
hidden_typedef_read = record { reads = refl; binds = refl }

-- ---- the tokens are those of their files

pub two_objects_lexed : tokens_of 2 two_objects.bytes ≡ two_objects.toks
unfolding gone_length logical_from logical_of kind_of kind_in is_punctuator_text front_length token_piece piece_of found_from found_of tokens_of
two_objects_lexed = refl

pub hidden_typedef_lexed : tokens_of 2 hidden_typedef.bytes ≡ hidden_typedef.toks
unfolding gone_length logical_from logical_of kind_of kind_in is_punctuator_text front_length token_piece piece_of found_from found_of tokens_of
hidden_typedef_lexed = refl
