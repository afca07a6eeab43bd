use Rattle.query_report.proofs.list_lines.unused_report.Goals as goal

pub part_lines-requires : goal.part_lines-requires
part_lines-requires c = record { parts = λ k part there. (c.in_ok-parts.ensures.each k part (rw (← c.deref.ensures.value) there)).first.is_part }
