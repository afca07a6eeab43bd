-- No message is empty.
use Rattle.std.proofs.Common.{◌≡◌, ℕ, List, []}
use Rattle.command_words.specs.Message.{message}

pub message_there : (pieces : List (List ℕ)) → message pieces ≡ [] → ⊥
unfolding message
message_there pieces none = cc
