use Rattle.query_report.proofs.class_lines.class_report.Goals as goal

pub part_lines-requires : goal.part_lines-requires
part_lines-requires c = record { parts = λ k part at. (c.members.ensures.each k part at).is_part }
