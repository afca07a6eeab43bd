use Rattle.std.proofs.Common.{◌≡◌, ◌++◌, drop, map}
use Rattle.std.specs.List.{flat_map}
use Rattle.cs_base.specs.Units.{include_line, ended_line}
use Rattle.include_tree.proofs.settings_text.push_includes.Given as goal

abbrev pub invariant-loop-path : goal.invariant-loop-path
invariant-loop-path l =
    l.text.items ++ flat_map ended_line (map include_line (drop l.path-index l.includes)) ≡ l.initial.text.items ++ flat_map ended_line (map include_line l.includes)
