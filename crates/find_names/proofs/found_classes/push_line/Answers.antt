use Rattle.find_names.proofs.found_classes.push_line.Goals as goal

pub returns : goal.returns
returns c = record {
  members = c.args.members.now;
  are_members = c.requires.are_members;
  line = c.in_ok-push_counted.ensures;
}
