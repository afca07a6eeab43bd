use Rattle.std.proofs.Common.{◌≡◌, ◌++◌, drop, map}
use Rattle.std.specs.List.{flat_map}
use Rattle.cs_base.specs.Units.{setting_line, ended_line}
use Rattle.include_tree.proofs.settings_text.push_settings.Given as goal

abbrev pub invariant-loop-setting : goal.invariant-loop-setting
invariant-loop-setting l =
    l.text.items ++ flat_map ended_line (map setting_line (drop l.setting-index l.settings)) ≡ l.initial.text.items ++ flat_map ended_line (map setting_line l.settings)
