use Rattle.std.proofs.lemmas.Result.{err_from_is_err_and}
use Rattle.macro_body.specs.Faults.{fault_of}
use Rattle.macro_body.proofs.PastingLemmas.{two-is, two-fault}
use Rattle.macro_body.proofs.pasting.two_pasted.Goals as goal

pub returns-in_err-pasted_behind-in-Some : goal.returns-in_err-pasted_behind-in-Some
returns-in_err-pasted_behind-in-Some c =
    let p = err_from_is_err_and c.from_residual.result c.from_residual.ensures.1 in
    rw (p.1, p.2)
    (record {
      answer = two-fault c.args.name.now c.args.left.items c.pop.new.self.items c.in-Some.last c.args.right.items c.args.notes.now (fault_of c.in_err-pasted_behind-in-Some.field-0.0)
          c.in-Some.ensures.items c.in_err-pasted_behind-in-Some.ensures.answer;
    })

pub returns-in_ok-append-in-Some : goal.returns-in_ok-append-in-Some
returns-in_ok-append-in-Some c = record {
  answer = two-is c.args.name.now c.args.left.items c.pop.new.self.items c.in-Some.last c.args.right.items c.in_ok-pasted_behind-in-Some.field-0.items c.append.new.toks.items
      c.args.notes.now c.pasted_behind.new.notes c.in-Some.ensures.items c.in_ok-pasted_behind-in-Some.ensures.answer c.in_ok-append-in-Some.ensures;
}
