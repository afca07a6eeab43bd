use Rattle.std.proofs.Common.{◌≡◌, ◌++◌, ◌∷◌, [], false, rules}
use Rattle.cs_base.specs.Paths.{normal_path_of}
use Rattle.cs_base.specs.Units.{has_bad_ends}
use Rattle.ws_file.specs.Reading.{reading}
use Rattle.ws_file.proofs.ReadingLemmas.{IsReading-quoted, is_directory-normal}
use Rattle.ws_file.proofs.reader.Reader.take_quoted_directory.Goals as goal

pub invariant_of-self-2 : goal.invariant_of-self-2
invariant_of-self-2 c =
    let r = c.self.inside in
    let now = reading r.project r.qpath.items r.ipath.items r.settings.items r.includes.items r.units.items r.readonly.items r.standard in
    let path = c.args.path.now in
    let pushed : c.push.new.self.items ≡ r.qpath.items ++ normal_path_of path ∷ [] = search rules in
    let good : has_bad_ends (normal_path_of path) ≡ false = search rules in
    rw pushed (IsReading-quoted now (normal_path_of path) c.self.invariant (is_directory-normal path c.requires.writable good))
