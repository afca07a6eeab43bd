use Rattle.rename_meaning.proofs.DenotingLemmas.{renamed_names_denote_alike}
use Rattle.rename_meaning.proofs.LinksKeptLemmas.{links_are_kept, links_are_renamed_where_allowed}
use Rattle.rename_meaning.proofs.links.links_are_kept.Goals as goal

pub returns : goal.returns
returns c = record { kept = links_are_kept; renamed = links_are_renamed_where_allowed; names = renamed_names_denote_alike }
