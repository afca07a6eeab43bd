use Rattle.command_words.proofs.TellingLemmas.{failed_piece}
use Rattle.command_words.proofs.messages.write_pieces.Goals as goal

pub returns-in-Failed-clause-bytes : goal.returns-in-Failed-clause-bytes
returns-in-Failed-clause-bytes g c =
    failed_piece (λ piece. piece.now) c.args.pieces.now c.loop-piece.piece-index _ (g.E.Sink.bytes c.args.err.now)
    (g.E.Sink.bytes c.loop-piece.err) (g.E.Sink.bytes c.write.new.self) c.loop-piece-test.true c.loop-piece.invariant.0
    c.in-Failed.ensures.bytes
