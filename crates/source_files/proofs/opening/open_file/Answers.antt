use Rattle.lexer.specs.FileText.{file_text}
use Rattle.source_files.specs.Limits.{the_limits}
use Rattle.source_files.specs.Opening.{opening}
use Rattle.source_files.proofs.SourcesLemmas.{gives-opening, opens-there, opens-wide}
use Rattle.source_files.proofs.opening.open_file.Goals as goal

pub returns-clause-answer : goal.returns-clause-answer
returns-clause-answer c =
    gives-opening c.open.result c.args.cache.now.table c.open.new.self.table c.args.place.now c.args.path.now c.open.ensures.answer

pub returns-clause-there : goal.returns-clause-there
returns-clause-there c =
    opens-there c.open.result (opening the_limits file_text c.args.place.now c.args.path.now c.args.cache.now.table) c.open.new.self.table
    (gives-opening c.open.result c.args.cache.now.table c.open.new.self.table c.args.place.now c.args.path.now c.open.ensures.answer)

pub returns-clause-keeps : goal.returns-clause-keeps
returns-clause-keeps c = record {
  widens = opens-wide c.open.result c.args.cache.now c.open.new.self c.args.place.now c.args.path.now c.open.ensures.answer c.open.ensures.unchanged;
  counted = c.open.ensures.toks;
}
