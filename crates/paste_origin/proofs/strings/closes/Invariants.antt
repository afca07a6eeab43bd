use Rattle.std.proofs.Common.{◌≡◌, false, drop, length}
use Rattle.lexer.specs.Characters.{double_quote}
use Rattle.lexer.specs.Spelling.{closes}
use Rattle.paste_origin.proofs.strings.closes.Given as goal

-- the characters that are left close as all do
abbrev pub invariant-loop-k : goal.invariant-loop-k
invariant-loop-k l = record {
  left : closes double_quote l.escaped (drop l.k l.text) ≡ closes double_quote false l.text;
  end : l.k-end ≡ length l.text;
}
