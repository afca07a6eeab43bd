use Rattle.source_files.proofs.SearchedLemmas.{asked-text}
use Rattle.source_files.proofs.searching.ask_bytes.Goals as goal

pub unreachable-requires : goal.unreachable-requires
unreachable-requires g c = c.in-Err.ensures.cases.0 (asked-text c.args.path.now c.requires)
