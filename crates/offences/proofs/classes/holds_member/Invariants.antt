use Rattle.std.proofs.Common.{◌≡◌, false, take}
use Rattle.std.specs.List.{list_any}
use Rattle.std.specs.Prelude.{is_some}
use Rattle.offences.specs.Class.{IsApart}
use Rattle.offences.specs.Tokens.{member_of}
use Rattle.offences.proofs.classes.holds_member.Given as goal

abbrev pub invariant-loop-k : goal.invariant-loop-k
invariant-loop-k l = (list_any (λ origin. is_some (member_of l.class.members origin)) (take l.k l.tok.origins) ≡ false) × IsApart l.class.members l.apart
