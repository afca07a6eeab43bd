use Rattle.std.proofs.Common.{◌≡◌, ◌+◌, [], length}
use Rattle.line_shape.specs.Walk.{parameters_from}
use Rattle.line_shape.proofs.parameters.named_parameters.Given as goal

abbrev pub invariant-parameters : goal.invariant-parameters
invariant-parameters l = record {
  rest : parameters_from l.names l.at l.rest ≡ parameters_from [] 0 l.toks;
  len : l.at + length l.rest ≡ length l.toks;
}

abbrev pub decreases-parameters : goal.decreases-parameters
decreases-parameters l = length l.rest
