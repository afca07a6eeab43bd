use Rattle.std.proofs.Common.{◌≡◌, ◌++◌, drop}
use Rattle.offences.specs.Moves.{spell_by, trace_by}
use Rattle.offences.proofs.respelled_toks.respell.Given as goal

abbrev pub invariant-loop-k : goal.invariant-loop-k
invariant-loop-k l = record {
  text : l.text.items ++ spell_by l.moves (drop l.k l.tok.origins) (drop l.k l.tok.text) ≡ l.initial.text.items ++ spell_by l.moves l.tok.origins l.tok.text;
  origins : l.origins.items ++ trace_by l.moves (drop l.k l.tok.origins) (drop l.k l.tok.text) ≡ l.initial.origins.items ++ trace_by l.moves l.tok.origins l.tok.text;
}
