use Rattle.lexer.proofs.EditedBytes.{edit_keeps_tokens}
use Rattle.lexer.proofs.OrderLemmas.{tokens_of-in_order}
use Rattle.lexer.proofs.KeptTokensLaw.{kept_tokens_keep_pieces}
use Rattle.lexer.proofs.laws.tokens_can_be_renamed.Goals as goal

pub returns : goal.returns
returns c = record {
  in_order = tokens_of-in_order;
  edited = edit_keeps_tokens;
  kept = kept_tokens_keep_pieces;
}
