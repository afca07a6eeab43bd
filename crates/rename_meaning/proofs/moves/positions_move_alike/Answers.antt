use Rattle.rename_meaning.proofs.OneMoveLemmas.{parts_move_alike, tokens_move_alike}
use Rattle.rename_meaning.proofs.moves.positions_move_alike.Goals as goal

pub returns : goal.returns
returns c = record { parts = parts_move_alike; tokens = tokens_move_alike }
