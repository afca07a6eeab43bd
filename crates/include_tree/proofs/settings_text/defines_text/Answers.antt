use Rattle.std.proofs.Common.{◌≡◌, ◌++◌, map, ◌∙◌, rules}
use Rattle.std.specs.List.{flat_map}
use Rattle.cs_base.specs.Units.{fixed_lines, ended_line, setting_line, include_line}
use Rattle.include_tree.proofs.SettingsLemmas.{defines-parts}
use Rattle.include_tree.proofs.settings_text.defines_text.Goals as goal

pub returns : goal.returns
returns c =
    let u = c.args.unit.now in
    let parts : c.push_includes.new.text.items
    ≡ (flat_map ended_line (fixed_lines u.standard) ++ flat_map ended_line (map setting_line u.settings)) ++ flat_map ended_line (map include_line u.includes) = search rules in
    parts ∙ defines-parts u.standard u.settings u.includes
