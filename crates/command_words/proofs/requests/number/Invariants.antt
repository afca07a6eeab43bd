use Rattle.std.proofs.Common.{◌≡◌, ◌<◌, ◌^◌, take}
use Rattle.command_words.specs.Request.{number_of}
use Rattle.command_words.proofs.requests.number.Given as goal

abbrev pub invariant-loop-digit : goal.invariant-loop-digit
invariant-loop-digit l = (l.n ≡ number_of (take l.digit-index l.digits)) × (l.n < 10 ^ l.digit-index)
