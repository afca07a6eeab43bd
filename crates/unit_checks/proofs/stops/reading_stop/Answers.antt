use Rattle.std.proofs.Common.{◌≡◌, ◌∙◌, sym, ap}
use Rattle.std.specs.Prelude.{IsSome}
use Rattle.c99_read.specs.Answer.{stop_of}
use Rattle.c99_read.specs.Reading.{read_of}
use Rattle.c99_read.specs.Below.c99_grammar.Dialects.{dialect}
use Rattle.c99_read.specs.Below.c99_grammar.Standard.{grammar}
use Rattle.gnu_bind.specs.Bound.{binding_by}
use Rattle.unit_checks.specs.Findings.{name_stop, reading_stop, tree_stop}
use Rattle.unit_checks.proofs.StopLemmas.{both_ok, if_then, stop_told}
use Rattle.unit_checks.proofs.stops.reading_stop.Goals as goal

pub returns-in-Ok : goal.returns-in-Ok
unfolding reading_stop
returns-in-Ok c =
    let toks = c.args.toks.now in
    if_then c.name_stop.result (λ s. s ≡ name_stop (binding_by c.args.standard toks c.in-Ok.tree)) (λ s. s ≡ reading_stop c.args.standard toks) c.name_stop.ensures
    (λ s is. is ∙ sym (ap (tree_stop c.args.standard toks) c.in-Ok.ensures))

pub returns-in-Err : goal.returns-in-Err
unfolding reading_stop
returns-in-Err c =
    let toks = c.args.toks.now in
    let read = read_of (grammar (dialect c.args.standard)) toks in
    both_ok c.told.result (λ s. s ≡ c.told_of_stop.result) (λ s. IsSome c.told_of_stop.result) (λ s. s ≡ reading_stop c.args.standard toks)
    c.told.ensures.same c.told.ensures.some
    (λ s same some. same ∙ stop_told c.args.standard toks (stop_of c.in-Err.refusal) c.told_of_stop.result read c.told_of_stop.ensures some c.in-Err.ensures)
