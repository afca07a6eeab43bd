-- Words of GNU C that lists ask for: no part of ISO/IEC 9899, but as gcc has them.
use Rattle.std.specs.Prelude.{ℕ, Bool, List, [], ◌∷◌, codes}
use Rattle.std.specs.List.{list_any}
use Rattle.std.specs.Str.{bytes_eq}

-- attributes whose strings name a symbol to the assembler
unfoldable pub is_symbol_word : List ℕ → Bool
is_symbol_word text =
    list_any (bytes_eq text)
    (codes "alias" ∷ codes "__alias__" ∷ codes "weakref" ∷ codes "__weakref__" ∷ codes "ifunc" ∷ codes "__ifunc__"
    ∷ codes "symver" ∷ codes "__symver__" ∷ [])

-- a function without code of the compiler's own: its body finds its parameters itself
unfoldable pub is_naked : List ℕ → Bool
is_naked text = list_any (bytes_eq text) (codes "naked" ∷ codes "__naked__" ∷ [])
