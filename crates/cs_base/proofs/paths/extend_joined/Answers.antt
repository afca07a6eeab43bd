use Rattle.std.proofs.Common.{◌≡◌, ◌++◌, ◌∷◌, append_assoc, rules}
use Rattle.std.proofs.lemmas.Result.{IfOk-equal}
use Rattle.cs_base.proofs.PathLemmas.{join_with_byte-slashed}
use Rattle.cs_base.specs.Parts.{texts_of, slashed}
use Rattle.cs_base.proofs.paths.extend_joined.Goals as goal

pub returns-in_ok-extend_from_slice-in-Some : goal.returns-in_ok-extend_from_slice-in-Some
returns-in_ok-extend_from_slice-in-Some c =
    let old = c.args.path.now.items in
    let first = c.in-Some.first.now.now in
    let more = c.in-Some.more.now in
    let whole : c.args.parts.now ≡ c.in-Some.first.now ∷ more = c.in-Some.ensures.cases.0 in
    let extended : c.extend_from_slice.new.self.items ≡ old ++ first = search rules in
    IfOk-equal c.extend_parts.result c.extend_parts.new.path.items _ _ c.extend_parts.ensures
    (rw (extended, whole, join_with_byte-slashed) (append_assoc old first (slashed (texts_of more))))
