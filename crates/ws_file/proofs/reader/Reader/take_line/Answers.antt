use Rattle.std.proofs.Common.{◌≡◌, true, rules}
use Rattle.std.specs.Str.{is_utf8}
use Rattle.ws_file.proofs.TrimLemmas.{IsTrimmed-trimmed}
use Rattle.ws_file.proofs.reader.Reader.take_line.Goals as goal

pub take_text-requires : goal.take_text-requires
take_text-requires c =
    let line = c.args.line.now in
    let utf8 : is_utf8 line ≡ true = search rules in
    rw c.trimmed.ensures (IsTrimmed-trimmed line utf8 c.requires)
