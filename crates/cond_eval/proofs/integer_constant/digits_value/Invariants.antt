use Rattle.std.proofs.Common.{◌≡◌, ◌^◌, ◌<◌, drop}
use Rattle.cond_eval.specs.IntegerConstant.{digits_onto}
use Rattle.cond_eval.proofs.integer_constant.digits_value.Given as goal

-- the digits that are left, behind the value so far, give the whole number
abbrev pub invariant-loop-digit : goal.invariant-loop-digit
invariant-loop-digit l = record {
  whole : digits_onto l.base l.value (drop l.digit-index l.digits) ≡ digits_onto l.base 0 l.digits;
  fits : l.value < 2 ^ 64;
}
