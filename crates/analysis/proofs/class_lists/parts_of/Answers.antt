use Rattle.analysis.proofs.ListingLemmas.{of_class}
use Rattle.analysis.proofs.class_lists.parts_of.Goals as goal

pub returns : goal.returns
returns c =
    of_class c.args.a.now c.args.classes.now c.args.class c.in_ok-parts.parts.items c.sort.new.parts.items c.requires c.in_ok-parts.ensures
    c.in_ok-sort.ensures.moved c.in_ok-sort.ensures.sorted
