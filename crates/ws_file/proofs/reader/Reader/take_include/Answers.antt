use Rattle.std.proofs.Common.{◌≡◌, ◌++◌, ◌∷◌, [], false, rules}
use Rattle.cs_base.specs.Paths.{normal_path_of}
use Rattle.ws_file.specs.Reading.{reading, is_bad_include}
use Rattle.ws_file.proofs.ReadingLemmas.{IsReading-include, is_include-normal}
use Rattle.ws_file.proofs.reader.Reader.take_include.Goals as goal

pub invariant_of-self-2 : goal.invariant_of-self-2
invariant_of-self-2 c =
    let r = c.self.inside in
    let now = reading r.project r.qpath.items r.ipath.items r.settings.items r.includes.items r.units.items r.readonly.items r.standard in
    let path = c.args.path.now in
    let pushed : c.push.new.self.items ≡ r.includes.items ++ normal_path_of path ∷ [] = search rules in
    let good : is_bad_include (normal_path_of path) ≡ false = search rules in
    rw pushed (IsReading-include now (normal_path_of path) c.self.invariant (is_include-normal path c.requires.writable good))
