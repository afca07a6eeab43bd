use Rattle.ws_file.proofs.ReadingLemmas.{IsReading-first}
use Rattle.ws_file.proofs.reader.Reader.new.Goals as goal

pub invariant_of-result : goal.invariant_of-result
invariant_of-result c =
    rw (c.in_ok-new.ensures, c.new-2.ensures.items, c.new-3.ensures.items, c.new-4.ensures.items, c.new-5.ensures.items, c.new-6.ensures.items, c.new-7.ensures.items)
    IsReading-first
