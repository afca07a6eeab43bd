use Rattle.rename_meaning.proofs.FollowLinkLemmas as links
use Rattle.rename_meaning.proofs.FollowTokenLemmas.{tokens_are_moved, file_tokens_follow}
use Rattle.rename_meaning.proofs.moves.classes_follow.Goals as goal

pub returns : goal.returns
returns c = record { moved = tokens_are_moved; tokens = file_tokens_follow; classes = links.classes_follow }
