use Rattle.std.proofs.Common.{ℕ, List, subst}
use Rattle.unnamed_places.specs.Unnamed.{IsWhy}
use Rattle.unnamed_places.proofs.steps.unnamed.Goals as goal

pub returns-in-Some : goal.returns-in-Some
returns-in-Some c = (_, c.in-Some.ensures)

pub returns-in-None : goal.returns-in-None
returns-in-None c =
    let P : List ℕ → Type 0 = λ path. IsWhy c.args.a.now.value path c.args.line c.args.column c.why.result in
    (c.in-None.ensures, subst P c.as_bytes.ensures.value c.why.ensures)
