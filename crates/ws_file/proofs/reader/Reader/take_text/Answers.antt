use Rattle.std.proofs.Common.{◌≡◌, ◌==◌, false, [], rules}
use Rattle.std.specs.Str.{bytes_eq}
use Rattle.cs_base.specs.Units.{ends_with, backslash}
use Rattle.ws_file.specs.Lines.{rest_of}
use Rattle.ws_file.proofs.TrimLemmas.{is_writable-rest_of}
use Rattle.ws_file.proofs.reader.Reader.take_text.Goals as goal

pub take_word-requires-clause-writable : goal.take_word-requires-clause-writable
take_word-requires-clause-writable c =
    let text = c.args.text.now in
    let slashed : ends_with (λ b. b == backslash) text ≡ false = search rules in
    let full : bytes_eq (rest_of text) [] ≡ false = search rules in
    rw c.word_and_rest.ensures.rest (is_writable-rest_of text c.requires slashed full)
