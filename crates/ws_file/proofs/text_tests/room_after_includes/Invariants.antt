use Rattle.std.proofs.Common.{◌≡◌, ◌+◌, drop}
use Rattle.ws_file.specs.Taking.{include_len, lengths}
use Rattle.ws_file.proofs.text_tests.room_after_includes.Given as goal

abbrev pub invariant-loop-path : goal.invariant-loop-path
invariant-loop-path l = l.left + lengths include_len l.includes ≡ l.room + lengths include_len (drop l.path-index l.includes)
