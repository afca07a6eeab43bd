use Rattle.cscout_run.proofs.telling.tell_fault.Goals as goal

pub returns-in-Absent : goal.returns-in-Absent
returns-in-Absent g c = rw (c.in-Absent.is, ← c.as_bytes.ensures.value) c.tell.ensures

pub returns-in-BadLine : goal.returns-in-BadLine
returns-in-BadLine g c = rw (c.in-BadLine.is, ← c.as_bytes-in-BadLine.ensures.value) c.tell_line.ensures

pub returns-in-TooManyUnits : goal.returns-in-TooManyUnits
returns-in-TooManyUnits g c = rw (c.in-TooManyUnits.is, ← c.as_bytes-in-TooManyUnits.ensures.value) c.tell_line-in-TooManyUnits.ensures
