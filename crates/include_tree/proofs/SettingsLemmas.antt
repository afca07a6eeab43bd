-- The text of the pseudo file of a unit, part by part.
use Rattle.std.proofs.Common.{◌≡◌, ℕ, List, ◌++◌, map, sym, ◌∙◌, ap, append_assoc}
use Rattle.std.specs.List.{flat_map}
use Rattle.std.proofs.lemmas.List.Concat.{flat_map-append}
use Rattle.cs_base.specs.declared.ws_units.Setting.{Setting}
use Rattle.cs_base.specs.declared.ws_units.Standard.{Standard}
use Rattle.cs_base.specs.Units.{fixed_lines, ended_line, setting_line, include_line, defines_text}

-- the fixed lines, those of the settings and those of the first includes
pub defines-parts : (standard : Standard) (settings : List Setting) (includes : List (List ℕ))
    → (flat_map ended_line (fixed_lines standard) ++ flat_map ended_line (map setting_line settings)) ++ flat_map ended_line (map include_line includes)
    ≡ defines_text standard settings includes
unfolding defines_text
defines-parts standard settings includes =
    append_assoc (flat_map ended_line (fixed_lines standard)) (flat_map ended_line (map setting_line settings)) (flat_map ended_line (map include_line includes))
    ∙ ap (λ (text : List ℕ). flat_map ended_line (fixed_lines standard) ++ text) (sym (flat_map-append ended_line (map setting_line settings) (map include_line includes)))
    ∙ sym (flat_map-append ended_line (fixed_lines standard) (map setting_line settings ++ map include_line includes))
