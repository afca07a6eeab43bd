use Rattle.command_words.specs.Message.{message}
use Rattle.command_words.proofs.TellingLemmas.{told-first, told-pieces, told-pieces_line}
use Rattle.command_words.proofs.messages.tell.Goals as goal

pub returns-in-Failed : goal.returns-in-Failed
unfolding message
returns-in-Failed g c =
    told-first _ (g.E.Sink.bytes c.args.err.now) (g.E.Sink.bytes c.write.new.self) (g.E.Sink.failed_writes c.args.err.now)
    (g.E.Sink.failed_writes c.write.new.self) c.in-Failed.ensures.bytes c.in-Failed.ensures.faults

pub returns-in-Failed-write_pieces : goal.returns-in-Failed-write_pieces
returns-in-Failed-write_pieces g c =
    told-pieces (λ piece. piece.now) c.args.pieces.now (g.E.Sink.bytes c.args.err.now) (g.E.Sink.bytes c.write.new.self) (g.E.Sink.bytes c.write_pieces.new.err)
    (g.E.Sink.failed_writes c.args.err.now) (g.E.Sink.failed_writes c.write.new.self) (g.E.Sink.failed_writes c.write_pieces.new.err)
    c.in_default.ensures.bytes c.in_default.ensures.faults c.in-Failed-write_pieces.ensures.bytes
    c.in-Failed-write_pieces.ensures.faults

pub returns : goal.returns
returns g c =
    told-pieces_line c.write-2.result (λ piece. piece.now) c.args.pieces.now (g.E.Sink.bytes c.args.err.now) (g.E.Sink.bytes c.write.new.self)
    (g.E.Sink.bytes c.write_pieces.new.err) (g.E.Sink.bytes c.write-2.new.self)
    (g.E.Sink.failed_writes c.args.err.now) (g.E.Sink.failed_writes c.write.new.self) (g.E.Sink.failed_writes c.write_pieces.new.err)
    (g.E.Sink.failed_writes c.write-2.new.self)
    c.in_default.ensures.bytes c.in_default.ensures.faults c.in_default-write_pieces.ensures.bytes
    c.in_default-write_pieces.ensures.faults c.write-2.ensures.bytes c.write-2.ensures.faults
