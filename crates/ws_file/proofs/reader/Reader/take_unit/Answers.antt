use Rattle.std.proofs.Common.{◌≡◌, ◌++◌, ◌∷◌, [], true, false, rules}
use Rattle.cs_base.specs.Paths.{normal_path_of}
use Rattle.cs_base.specs.Units.{defines_fit}
use Rattle.ws_file.specs.Reading.{reading, is_bad_path}
use Rattle.ws_file.proofs.ReadingLemmas.{IsReading-unit, IsUnit-reading, is_unit_path-normal, unit_in}
use Rattle.ws_file.proofs.reader.Reader.take_unit.Goals as goal

pub new-unit-requires : goal.new-unit-requires
new-unit-requires c =
    let r = c.self.inside in
    let now = reading r.project r.qpath.items r.ipath.items r.settings.items r.includes.items r.units.items r.readonly.items r.standard in
    let path = c.args.path.now in
    let good : is_bad_path (normal_path_of path) ≡ false = search rules in
    let fits : defines_fit r.standard r.settings.items r.includes.items ≡ true = search rules in
    let q : c.in_ok-qpath.qpath.items ≡ r.qpath.items = search rules in
    let p : c.in_ok-ipath.ipath.items ≡ r.ipath.items = search rules in
    let s : c.in_ok-settings.settings.items ≡ r.settings.items = search rules in
    let i : c.in_ok-includes.includes.items ≡ r.includes.items = search rules in
    record {
      sound = rw (c.in_ok-project.ensures, c.in_ok-path.ensures, q, p, s, i)
          (IsUnit-reading now (normal_path_of path) c.self.invariant (is_unit_path-normal path c.requires.writable good) fits);
    }

pub invariant_of-self-2 : goal.invariant_of-self-2
invariant_of-self-2 c =
    let r = c.self.inside in
    let now = reading r.project r.qpath.items r.ipath.items r.settings.items r.includes.items r.units.items r.readonly.items r.standard in
    let path = c.args.path.now in
    let good : is_bad_path (normal_path_of path) ≡ false = search rules in
    let fits : defines_fit r.standard r.settings.items r.includes.items ≡ true = search rules in
    let u = unit_in now (normal_path_of path) in
    let pushed : c.push.new.self.items ≡ r.units.items ++ u ∷ [] = search rules in
    rw pushed
    (IsReading-unit now u c.self.invariant
    (IsUnit-reading now (normal_path_of path) c.self.invariant (is_unit_path-normal path c.requires.writable good) fits))
