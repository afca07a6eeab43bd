use Rattle.std.proofs.Common.{◌≡◌, ℕ, take}
use Rattle.std.specs.Prelude.{◌==◌, ◌&&◌}
use Rattle.std.specs.List.{list_any}
use Rattle.template_rules.specs.Functions.{is_named}
use Rattle.template_rules.proofs.functions.functions_of.Given as goal

abbrev pub invariant-loop-name : goal.invariant-loop-name
invariant-loop-name l = (e : ℕ)
    → list_any (λ f. f == e) l.out.items ≡ list_any (λ n. (n.entity == e) && is_named l.class.members l.toks n) (take l.name-index l.names)
