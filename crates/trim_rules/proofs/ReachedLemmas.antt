-- Items of files by their numbers.
use Rattle.std.proofs.Common.{◌≡◌, ℕ, List, Option, slice_get, sym, ap, ◌∙◌}
use Rattle.std.specs.Option.{option_map}
use Rattle.std.proofs.lemmas.Option.{slice_get-map}
use Rattle.analysis.specs.Below.include_tree.Walk.{item_text}
use Rattle.analysis.specs.Below.lexer.Tokens.{tokens_of, firsts_of}
use Rattle.analysis.specs.Below.line_shape.declared.items.Item.{Item}
use Rattle.analysis.specs.Below.line_shape.Items.{items_of}
use Rattle.analysis.specs.Below.source_files.KeptFiles.{KeptValue}
use Rattle.analysis.specs.Naming.{item_at}

pub item-numbered : (f : KeptValue) (items : List Item) (k : ℕ) (o : Option Item) → items ≡ items_of (tokens_of f.number f.bytes) (firsts_of f.bytes)
    → slice_get items k ≡ o → option_map (item_text (tokens_of f.number f.bytes)) o ≡ item_at k f
item-numbered f items k o is at =
    let toks = tokens_of f.number f.bytes in
    sym (slice_get-map (item_text toks) (items_of toks (firsts_of f.bytes)) k
    ∙ ap (λ (l : List Item). option_map (item_text toks) (slice_get l k)) (sym is)
    ∙ ap (option_map (item_text toks)) at)
