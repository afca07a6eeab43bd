use Rattle.std.proofs.Common.{refl}
use Rattle.analysis.specs.Below.c99_read.Reading.{read_within, whole, take_one, at_end, enter}
use Rattle.analysis.specs.Below.c99_read.State.{class_at, acted, opened, closed}
use Rattle.analysis.specs.Below.c99_grammar.TokenClasses.{spelled_class, base_class}
use Rattle.analysis.specs.Below.scope_bind.Bound.{binding_of}
use Rattle.analysis.specs.Below.scope_bind.Walk.{walked}
use Rattle.meaning_rows.specs.Rows.{hidden_typedef}
use Rattle.meaning_rows.proofs.RowLemmas.{keeps}
use Rattle.meaning_rows.proofs.RowTokens.{tree_of, bound_of, hidden_typedef_read}
use Rattle.meaning_rows.proofs.rows.place_that_hides_nothing.Goals as goal
use Rattle.renamed.specs.Renamed.{spell_from}

pub returns : goal.returns
unfolding read_within whole take_one at_end enter spelled_class base_class class_at acted opened closed binding_of walked spell_from
returns c = keeps hidden_typedef _ _ (tree_of hidden_typedef.toks) (bound_of hidden_typedef.toks) hidden_typedef_read (λ a. record { reads = refl; binds = refl })
