use Rattle.std.proofs.Common.{◌≡◌, Ok, sym, ap, subst, ◌∙◌}
use Rattle.c99_tree.specs.Joined.{followed}
use Rattle.c99_tree.specs.Tree.{Node}
use Rattle.c99_read.specs.Fronts.{FrontValue, IsFront}
use Rattle.c99_read.specs.Reading.{at_first}
use Rattle.c99_read.specs.State.{State}
use Rattle.c99_read.proofs.FrontLemmas.{read-done, read-stopped, read-ended, gives-passed}
use Rattle.c99_read.proofs.front.read_from.Goals as goal

pub returns-in_err-externals : goal.returns-in_err-externals
returns-in_err-externals c =
    let f = c.args.front.now in
    let toks = c.args.toks.now in
    let front : IsFront f = subst IsFront c.front.view_is c.front.invariant in
    let by_it : f.dialect ≡ c.front.inside.dialect = sym (ap (λ (x : FrontValue). x.dialect) c.front.view_is) in
    let begun : c.resume.new.self.state ≡ record (at_first toks) { at = f.at; names = f.names } =
    c.in_ok-resume.ensures.answer
    ∙ (ap (λ (s : State). record s { at = c.front.inside.at; names = c.front.inside.names }) c.in_ok-reader.ensures.1
    ∙ ap (λ (x : FrontValue). record (at_first toks) { at = x.at; names = x.names }) c.front.view_is) in
    record {
      answer =
          gives-passed (λ rest. followed f.tree rest) c.in_err-externals.field-0.0 c.from_residual-in_err-externals.result _ c.from_residual-in_err-externals.ensures.1
          (read-stopped f toks front c.requires.begins c.front.inside.dialect c.resume.new.self.state by_it begun c.in_err-externals.field-0.0 c.externals.new.self.state
          (c.in_err-externals.ensures.answer f.tree.under));
    }

pub returns-in_err-finish : goal.returns-in_err-finish
returns-in_err-finish c =
    let f = c.args.front.now in
    let toks = c.args.toks.now in
    let front : IsFront f = subst IsFront c.front.view_is c.front.invariant in
    let by_it : f.dialect ≡ c.front.inside.dialect = sym (ap (λ (x : FrontValue). x.dialect) c.front.view_is) in
    let begun : c.resume.new.self.state ≡ record (at_first toks) { at = f.at; names = f.names } =
    c.in_ok-resume.ensures.answer
    ∙ (ap (λ (s : State). record s { at = c.front.inside.at; names = c.front.inside.names }) c.in_ok-reader.ensures.1
    ∙ ap (λ (x : FrontValue). record (at_first toks) { at = x.at; names = x.names }) c.front.view_is) in
    record {
      answer =
          gives-passed (λ rest. followed f.tree rest) c.in_err-finish.field-0.0 c.from_residual-in_err-finish.result _ c.from_residual-in_err-finish.ensures.1
          (read-ended f toks front c.requires.begins c.front.inside.dialect c.resume.new.self.state by_it begun c.in_err-finish.field-0.0 c.externals.new.self.state
          (c.in_ok-externals.ensures.answer f.tree.under) c.in_err-finish.ensures);
    }

pub returns : goal.returns
returns c =
    let f = c.args.front.now in
    let toks = c.args.toks.now in
    let front : IsFront f = subst IsFront c.front.view_is c.front.invariant in
    let by_it : f.dialect ≡ c.front.inside.dialect = sym (ap (λ (x : FrontValue). x.dialect) c.front.view_is) in
    let begun : c.resume.new.self.state ≡ record (at_first toks) { at = f.at; names = f.names } =
    c.in_ok-resume.ensures.answer
    ∙ (ap (λ (s : State). record s { at = c.front.inside.at; names = c.front.inside.names }) c.in_ok-reader.ensures.1
    ∙ ap (λ (x : FrontValue). record (at_first toks) { at = x.at; names = x.names }) c.front.view_is) in
    record {
      answer =
          read-done f toks front c.requires.begins c.front.inside.dialect c.resume.new.self.state by_it begun c.externals.new.self.state
          (c.in_ok-externals.ensures.answer f.tree.under) c.in_ok-externals.ensures.unit c.in_ok-finish.ensures
          ∙ ap (λ (n : Node). Ok (followed f.tree n)) (sym c.in_ok-into_unit.ensures);
    }
