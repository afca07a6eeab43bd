use Rattle.std.proofs.Common.{ap}
use Rattle.source_files.specs.Below.lexer.FileText.{file_text}
use Rattle.source_files.specs.Answers.{fault_of}
use Rattle.source_files.specs.Limits.{the_limits}
use Rattle.source_files.specs.Opening.{opening}
use Rattle.include_tree.specs.GivenFiles.{opens_there}
use Rattle.include_tree.proofs.AskingLemmas.{some-opens}
use Rattle.include_tree.proofs.including.open_there.Goals as goal

pub returns-in-Ok-clause-answer : goal.returns-in-Ok-clause-answer
returns-in-Ok-clause-answer c = ap opens_there c.in-Ok.ensures.answer.2

pub returns-in-Err-clause-answer : goal.returns-in-Err-clause-answer
returns-in-Err-clause-answer c =
    some-opens (fault_of c.in-Err.fault) (opening the_limits file_text c.args.place.now c.args.path.now c.args.cache.now.table) c.in-Err.ensures.answer
