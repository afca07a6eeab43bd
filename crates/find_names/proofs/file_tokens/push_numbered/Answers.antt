use Rattle.std.proofs.Common.{sym}
use Rattle.std.proofs.Math.Bool.{or-false}
use Rattle.find_names.specs.FileTokens.{has_span}
use Rattle.find_names.proofs.file_tokens.push_numbered.Goals as goal

pub returns-in-Some : goal.returns-in-Some
returns-in-Some c =
    rw (← c.in-Some.ensures) c.push_file.ensures

pub returns-in-None : goal.returns-in-None
returns-in-None c =
    rw (← c.in-None.ensures) (λ part. sym (or-false (has_span c.args.spans.now.items part)))
