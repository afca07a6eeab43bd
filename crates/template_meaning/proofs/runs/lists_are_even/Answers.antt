use Rattle.template_meaning.proofs.EvenLists.{lists_are_even}
use Rattle.template_meaning.proofs.runs.lists_are_even.Goals as goal

pub returns : goal.returns
returns c = record { even = lists_are_even c.files_have_lists.ensures.runs }
