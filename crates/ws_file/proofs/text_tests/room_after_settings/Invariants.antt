use Rattle.std.proofs.Common.{◌≡◌, ◌+◌, drop}
use Rattle.ws_file.specs.Taking.{setting_len, lengths}
use Rattle.ws_file.proofs.text_tests.room_after_settings.Given as goal

abbrev pub invariant-loop-setting : goal.invariant-loop-setting
invariant-loop-setting l = l.left + lengths setting_len l.settings ≡ l.room + lengths setting_len (drop l.setting-index l.settings)
