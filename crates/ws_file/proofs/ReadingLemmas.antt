-- What stays true of a reading as lines are taken.
use Rattle.std.proofs.Common.{◌≡◌, ℕ, Bool, true, false, not, ◌||◌, ◌==◌, List, [], ◌∷◌, ◌++◌, IsTrue, refl, arith}
use Rattle.std.specs.Prelude.{codes}
use Rattle.std.specs.List.{list_all}
use Rattle.std.specs.Str.{bytes_eq}
use Rattle.std.proofs.lemmas.List.Elements.{All-append}
use Rattle.std.proofs.lemmas.Bool.{or_parts, and_from}
use Rattle.cs_base.specs.Paths.{normal_path_of, is_normal}
use Rattle.cs_base.specs.Units.{UnitValue, unit, IsUnit, quote, less_sign, begins_with, has_bad_ends, is_writable, is_project, is_directory, is_unit_path, is_include, defines_fit}
use Rattle.cs_base.proofs.NormalPaths.{is_normal-normal_path_of}
use Rattle.cs_base.proofs.UnitLemmas.{is_utf8-ascii, is_writable-normal_path_of}
use Rattle.cs_base.proofs.ListLemmas.{list_all-push}
use Rattle.ws_file.specs.Reading.{Reading, at_first, is_bad_path, is_bad_include}
use Rattle.ws_file.specs.Taking.{IsReading}

is_project-default : is_project (codes "default") ≡ true
unfolding is_writable
is_project-default = rw (is_utf8-ascii (codes "default") refl) refl

pub IsReading-first : IsReading at_first
IsReading-first = record {
  is_named = is_project-default;
  are_quoted_directories = refl;
  are_directories = refl;
  are_settings = refl;
  are_includes = refl;
  are_units = λ k d h. absurd (omega arith);
  are_prefixes = refl;
}

pub is_directory-normal : (path : List ℕ) → IsTrue (is_writable path) → has_bad_ends (normal_path_of path) ≡ false
    → IsTrue (is_directory (normal_path_of path))
is_directory-normal path h ends =
    and_from (is_writable (normal_path_of path)) (is_normal (normal_path_of path)) (is_writable-normal_path_of path h ends) (is_normal-normal_path_of path)

pub is_unit_path-normal : (path : List ℕ) → IsTrue (is_writable path) → is_bad_path (normal_path_of path) ≡ false
    → IsTrue (is_unit_path (normal_path_of path))
is_unit_path-normal path h good =
    let place = normal_path_of path in
    let ends = (or_parts (bytes_eq place [] || begins_with (λ b. b == less_sign) place) (has_bad_ends place) good).1 in
    let front = (or_parts (bytes_eq place [] || begins_with (λ b. b == less_sign) place) (has_bad_ends place) good).0 in
    let some = (or_parts (bytes_eq place []) (begins_with (λ b. b == less_sign) place) front).0 in
    let real = (or_parts (bytes_eq place []) (begins_with (λ b. b == less_sign) place) front).1 in
    and_from _ _ (and_from _ _ (is_directory-normal path h ends) (rw some refl)) (rw real refl)

pub is_include-normal : (path : List ℕ) → IsTrue (is_writable path) → is_bad_include (normal_path_of path) ≡ false
    → IsTrue (is_include (normal_path_of path))
is_include-normal path h good =
    let place = normal_path_of path in
    let parts = or_parts (is_bad_path place) (not (list_all (λ b. not (b == quote)) place)) good in
    and_from _ _ (is_unit_path-normal path h parts.0) (unquoted (list_all (λ b. not (b == quote)) place) parts.1)
  where
    unquoted : (b : Bool) → not b ≡ false → b ≡ true
    unquoted true e = refl
    unquoted false e = cc

pub IsReading-directory : (r : Reading) (directory : List ℕ) → IsReading r → IsTrue (is_directory directory)
    → IsReading (record r { ipath = r.ipath ++ directory ∷ [] })
IsReading-directory r directory k h = record {
  is_named = k.is_named;
  are_quoted_directories = k.are_quoted_directories;
  are_directories = list_all-push is_directory r.ipath directory k.are_directories h;
  are_settings = k.are_settings;
  are_includes = k.are_includes;
  are_units = k.are_units;
  are_prefixes = k.are_prefixes;
}

pub IsReading-quoted : (r : Reading) (directory : List ℕ) → IsReading r → IsTrue (is_directory directory)
    → IsReading (record r { qpath = r.qpath ++ directory ∷ [] })
IsReading-quoted r directory k h = record {
  is_named = k.is_named;
  are_quoted_directories = list_all-push is_directory r.qpath directory k.are_quoted_directories h;
  are_directories = k.are_directories;
  are_settings = k.are_settings;
  are_includes = k.are_includes;
  are_units = k.are_units;
  are_prefixes = k.are_prefixes;
}

pub IsReading-include : (r : Reading) (path : List ℕ) → IsReading r → IsTrue (is_include path)
    → IsReading (record r { includes = r.includes ++ path ∷ [] })
IsReading-include r path k h = record {
  is_named = k.is_named;
  are_quoted_directories = k.are_quoted_directories;
  are_directories = k.are_directories;
  are_settings = k.are_settings;
  are_includes = list_all-push is_include r.includes path k.are_includes h;
  are_units = k.are_units;
  are_prefixes = k.are_prefixes;
}

pub IsReading-unit : (r : Reading) (u : UnitValue) → IsReading r → IsUnit u
    → IsReading (record r { units = r.units ++ u ∷ [] })
IsReading-unit r u k h = record {
  is_named = k.is_named;
  are_quoted_directories = k.are_quoted_directories;
  are_directories = k.are_directories;
  are_settings = k.are_settings;
  are_includes = k.are_includes;
  are_units = All-append IsUnit r.units (u ∷ []) k.are_units (λ i d below. let first : i ≡ 0 = omega arith in rw first h);
  are_prefixes = k.are_prefixes;
}

-- the unit of this path that has what is in force
abbrev pub unit_in : Reading → List ℕ → UnitValue
unit_in r path = unit r.project path r.qpath r.ipath r.settings r.includes r.standard

pub IsUnit-reading : (r : Reading) (path : List ℕ) → IsReading r → IsTrue (is_unit_path path)
    → IsTrue (defines_fit r.standard r.settings r.includes) → IsUnit (unit_in r path)
IsUnit-reading r path k h fits = record {
  is_named = k.is_named;
  is_placed = h;
  are_quoted_directories = k.are_quoted_directories;
  are_directories = k.are_directories;
  are_settings = k.are_settings;
  are_includes = k.are_includes;
  fits = fits;
}
