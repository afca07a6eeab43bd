use Rattle.std.proofs.Common.{subst, sym}
use Rattle.offences.specs.Class.{ClassValue}
use Rattle.macro_rules.specs.Class.{AreMacros}
use Rattle.macro_rules.proofs.macros.named_macros.Goals as goal

pub invariant_of-result : goal.invariant_of-result
invariant_of-result c =
    let macros = rw c.new-class.ensures at c.in_ok-found.ensures.macros in
    subst (λ (k : ClassValue). AreMacros k c.in_ok-found.found.macros c.in_ok-calls.calls c.in_ok-found.found.replaced c.in_ok-found.found.lines) (sym c.new-class.ensures)
    (record {
      macros_are = macros;
      calls_are = rw macros at c.in_ok-calls.ensures;
      torn_are = rw c.in_ok-loose.ensures at c.in_ok-found.ensures.replaced;
      lines_are = c.in_ok-found.ensures.lines;
    })
