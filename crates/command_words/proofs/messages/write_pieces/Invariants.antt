use Rattle.std.proofs.Common.{◌≡◌, ◌++◌, take}
use Rattle.std.specs.List.{flat_map}
use Rattle.std.specs.Option.{option_map}
use Rattle.command_words.proofs.messages.write_pieces.Given as goal

abbrev pub invariant-loop-piece : goal.invariant-loop-piece
invariant-loop-piece g l =
    (g.E.Sink.bytes l.err
    ≡ option_map (λ bytes. bytes ++ flat_map (λ piece. piece.now) (take l.piece-index l.pieces)) (g.E.Sink.bytes l.initial.err))
    × (g.E.Sink.failed_writes l.err ≡ g.E.Sink.failed_writes l.initial.err)
