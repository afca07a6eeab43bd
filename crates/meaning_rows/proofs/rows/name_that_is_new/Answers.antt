use Rattle.std.proofs.Common.{refl}
use Rattle.analysis.specs.Below.c99_read.Reading.{read_within, whole, take_one, at_end, enter}
use Rattle.analysis.specs.Below.c99_read.State.{class_at, acted, opened, closed}
use Rattle.analysis.specs.Below.c99_grammar.TokenClasses.{spelled_class, base_class}
use Rattle.analysis.specs.Below.scope_bind.Bound.{binding_of}
use Rattle.analysis.specs.Below.scope_bind.Walk.{walked}
use Rattle.meaning_rows.specs.Rows.{two_objects}
use Rattle.meaning_rows.proofs.RowLemmas.{keeps}
use Rattle.meaning_rows.proofs.RowTokens.{tree_of, bound_of, two_objects_read}
use Rattle.meaning_rows.proofs.rows.name_that_is_new.Goals as goal
use Rattle.renamed.specs.Renamed.{spell_from}

pub returns : goal.returns
unfolding read_within whole take_one at_end enter spelled_class base_class class_at acted opened closed binding_of walked spell_from
returns c = keeps two_objects _ _ (tree_of two_objects.toks) (bound_of two_objects.toks) two_objects_read (λ a. record { reads = refl; binds = refl })
