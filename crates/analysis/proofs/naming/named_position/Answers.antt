use Rattle.std.proofs.Common.{Option, sym, ap, ◌∙◌}
use Rattle.std.specs.Option.{option_and_then}
use Rattle.include_tree.specs.Below.source_files.KeptFiles.{KeptValue}
use Rattle.analysis.specs.Naming.{character_of, where_processed, named_position}
use Rattle.analysis.proofs.PlaceNameLemmas.{named_kept}
use Rattle.analysis.proofs.naming.named_position.Goals as goal

pub position_in-requires-clause-kept : goal.position_in-requires-clause-kept
position_in-requires-clause-kept c = named_kept c.args.path.now c.args.a.now.table c.in-Some.file.now (sym c.in-Some.ensures)

pub returns-in-Some : goal.returns-in-Some
unfolding named_position
returns-in-Some c =
    c.position_in.ensures
    ∙ ap (λ (o : Option KeptValue). option_and_then (where_processed c.args.a.now) (option_and_then (character_of c.args.line c.args.column) o)) c.in-Some.ensures

pub returns-in-None : goal.returns-in-None
unfolding named_position
returns-in-None c =
    ap (λ (o : Option KeptValue). option_and_then (where_processed c.args.a.now) (option_and_then (character_of c.args.line c.args.column) o)) c.in-None.ensures
