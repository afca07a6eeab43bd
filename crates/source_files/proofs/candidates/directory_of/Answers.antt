use Rattle.std.proofs.Common.{◌-◌, take, refl, sym, ap, ◌∙◌}
use Rattle.source_files.specs.Search.{is_slash}
use Rattle.source_files.proofs.CandidateLemmas.{directory-none, directory-found}
use Rattle.source_files.proofs.candidates.directory_of.Goals as goal

pub returns-then-path-end-eq47 : goal.returns-then-path-end-eq47
returns-then-path-end-eq47 c =
    c.or_root.ensures
    ∙ directory-found c.args.path.now (take (c.bytes.end - 1) c.args.path.now) c.bytes.end refl c.bytes.invariant.within c.bytes-test.true (ap is_slash c.if-path-end-eq47.true)
    c.bytes.invariant.behind

pub returns : goal.returns
returns c = sym (directory-none c.args.path.now c.bytes.end c.bytes-test.false c.bytes.invariant.behind)
