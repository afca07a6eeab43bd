use Rattle.std.proofs.Common.{◌≡◌, ◌++◌, drop, map}
use Rattle.ws_file.specs.Printing.{define_line, lines_text}
use Rattle.ws_file.proofs.print.add_settings.Given as goal

abbrev pub invariant-loop-setting : goal.invariant-loop-setting
invariant-loop-setting l =
    l.text.items ++ lines_text (map define_line (drop l.setting-index l.settings)) ≡ l.initial.text.items ++ lines_text (map define_line l.settings)
