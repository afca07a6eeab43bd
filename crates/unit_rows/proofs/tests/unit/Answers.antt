use Rattle.std.proofs.Common.{◌≡◌, ℕ, true, List, [], codes, refl, sym, subst}
use Rattle.cs_base.specs.declared.ws_units.Setting.{Setting}
use Rattle.cs_base.specs.declared.ws_units.Standard.TheVariants.{C99}
use Rattle.cs_base.specs.Paths.{kept_of, normal_path_of}
use Rattle.cs_base.proofs.UnitLemmas.{is_utf8-ascii}
use Rattle.cs_base.specs.Units.{unit, IsUnit, is_project, is_unit_path, is_writable, fixed_lines, defines_text, defines_fit}
use Rattle.unit_rows.proofs.tests.unit.Goals as goal

named : is_project (codes "p") ≡ true
unfolding is_writable
named = rw (is_utf8-ascii (codes "p") refl) refl

placed : is_unit_path (codes "a.c") ≡ true
unfolding is_writable kept_of normal_path_of
placed = rw (is_utf8-ascii (codes "a.c") refl) refl

alone : IsUnit (unit (codes "p") (codes "a.c") [] [] [] [] C99)
unfolding fixed_lines defines_text defines_fit
alone = record {
  is_named = named;
  is_placed = placed;
  are_quoted_directories = refl;
  are_directories = refl;
  are_settings = refl;
  are_includes = refl;
  fits = refl;
}

unit-is : (project path : List ℕ) (qpath ipath : List (List ℕ)) (settings : List Setting) (includes : List (List ℕ)) → project ≡ codes "p" → path ≡ codes "a.c"
    → qpath ≡ [] → ipath ≡ [] → settings ≡ [] → includes ≡ [] → IsUnit (unit project path qpath ipath settings includes C99)
unit-is project path qpath ipath settings includes p q r s t v = rw (p, q, r, s, t, v) alone

pub new-requires-7 : goal.new-requires-7
new-requires-7 c = record {
  sound = unit-is c.in_ok-project.project c.in_ok-path.path c.new-3.result.items c.new-4.result.items c.new-5.result.items c.new-6.result.items
      c.in_ok-project.ensures c.in_ok-path.ensures c.new-3.ensures.items c.new-4.ensures.items c.new-5.ensures.items c.new-6.ensures.items;
}
