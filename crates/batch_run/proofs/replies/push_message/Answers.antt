use Rattle.std.proofs.Common.{◌++◌, ℕ, List, ap, ◌∙◌}
use Rattle.std.specs.Prelude.{codes}
use Rattle.std.specs.List.{flat_map}
use Rattle.batch_run.proofs.ReplyLemmas.{text_of, message_is}
use Rattle.batch_run.proofs.replies.push_message.Goals as goal

pub returns : goal.returns
returns c =
    let pieces = c.args.pieces.now in
    let front = c.in_ok-push_pieces.ensures ∙ ap (λ (bytes : List ℕ). bytes ++ flat_map text_of pieces) c.in_ok-extend_from_slice.ensures.items in
    c.in_ok-push.ensures.items ∙ ap (λ (bytes : List ℕ). bytes ++ codes "\n") front ∙ message_is c.args.text.now.items pieces
