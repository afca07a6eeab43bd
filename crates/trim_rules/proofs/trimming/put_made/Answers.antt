use Rattle.std.proofs.Common.{refl}
use Rattle.trim_rules.proofs.TrimmedLemmas.{put-made}
use Rattle.trim_rules.proofs.trimming.put_made.Goals as goal

pub returns : goal.returns
returns c =
    put-made c.args.file.now c.args.made.now c.path.result.now c.deref.result.now c.args.edits.now c.put.new.self c.put.result c.path.ensures
    c.deref.ensures.value c.put.ensures.ok
