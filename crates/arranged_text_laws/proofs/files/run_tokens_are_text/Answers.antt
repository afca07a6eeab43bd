use Rattle.arranged_text_laws.proofs.RunTokenLemmas.{run_tokens_are_text, run_lists_are_text}
use Rattle.arranged_text_laws.proofs.files.run_tokens_are_text.Goals as goal

pub returns : goal.returns
returns c = record { tokens = run_tokens_are_text; lists = run_lists_are_text }
