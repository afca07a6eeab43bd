-- The table of first tokens, and what it gives to the links.
use Rattle.std.specs.Prelude.{ℕ, ◌&&◌, List, Option, None, if◌then◌else◌}
use Rattle.std.specs.Borrow.{Bor}
use Rattle.std.specs.List.{flat_map}
use Rattle.std.specs.Option.{option_or, option_copied}
use Rattle.std.specs.Str.{bytes_eq}
use Rattle.cs_base.specs.Token.{Token}
use Rattle.cs_base.specs.declared.tokens.Link.{Link}
use Rattle.indexmap.specs.IndexMap.{IndexMap, get_by}
use Rattle.linkage_join.specs.Linkage.{first_spelled, link_to}

-- for a project and a spelling the first token, where there is one
abbrev pub Table : Type 0
Table = List ℕ → List ℕ → Option Token

-- what the map holds at a key of this project and spelling
abbrev pub first_at : {S : Type 0} → IndexMap (Bor (List ℕ) × Bor (List ℕ)) (Bor Token) S → Table
first_at map project text =
    option_copied (get_by (λ k. bytes_eq project k.0.now && bytes_eq text k.1.now) map)

-- the table once these tokens of a project are in it, each where its spelling had none
abbrev pub with_names : List ℕ → List Token → Table → Table
with_names own toks table project text =
    option_or (table project text) (if bytes_eq project own then first_spelled text toks else None)

-- the links of a unit with the tokens of the table
abbrev pub table_links : Table → List ℕ → List Token → List Link
table_links table project toks = flat_map (λ t. link_to (table project t.text) t) toks
