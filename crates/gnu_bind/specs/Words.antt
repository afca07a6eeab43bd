-- Words of GNU C that binding asks for: no part of ISO/IEC 9899, but as gcc has them.
use Rattle.std.specs.Prelude.{ℕ, Bool, ◌||◌, List, [], ◌∷◌, codes, eqb}
use Rattle.std.specs.List.{list_any, starts_with}
use Rattle.std.specs.Str.{bytes_eq}

-- attributes whose first argument is a word, and denotes nothing
unfoldable pub is_word_attribute : List ℕ → Bool
is_word_attribute text =
    list_any (bytes_eq text)
    (codes "mode" ∷ codes "__mode__" ∷ codes "format" ∷ codes "__format__" ∷ codes "access" ∷ codes "__access__" ∷ [])

-- names of built-in functions that give what their first argument points to begin so, whatever the operation and the
-- size
abbrev pub fetch_prefixes : List (List ℕ)
fetch_prefixes =
    codes "__sync_fetch_and_" ∷ codes "__sync_val_compare_and_swap" ∷ codes "__sync_lock_test_and_set"
    ∷ codes "__atomic_load_n" ∷ codes "__atomic_exchange_n" ∷ codes "__atomic_fetch_" ∷ []

-- .. or are these
abbrev pub fetch_words : List (List ℕ)
fetch_words =
    codes "__sync_add_and_fetch" ∷ codes "__sync_sub_and_fetch" ∷ codes "__sync_or_and_fetch" ∷ codes "__sync_and_and_fetch"
    ∷ codes "__sync_xor_and_fetch" ∷ codes "__sync_nand_and_fetch" ∷ codes "__atomic_add_fetch" ∷ codes "__atomic_sub_fetch"
    ∷ codes "__atomic_or_fetch" ∷ codes "__atomic_and_fetch" ∷ codes "__atomic_xor_fetch" ∷ codes "__atomic_nand_fetch" ∷ []

unfoldable pub is_fetch : List ℕ → Bool
is_fetch text = list_any (starts_with eqb text) fetch_prefixes || list_any (bytes_eq text) fetch_words

-- the signs between the names of a path to a member, with their digraphs (6.4.6 paragraph 3)
unfoldable pub is_path_sign : List ℕ → Bool
is_path_sign text = list_any (bytes_eq text) (codes "." ∷ codes "[" ∷ codes "]" ∷ codes "<:" ∷ codes ":>" ∷ [])

-- the sign that begins the arguments of a call (6.5.2)
unfoldable pub begins_call : List ℕ → Bool
begins_call text = bytes_eq text (codes "(")

-- it says nothing of its operand
unfoldable pub is_extension : List ℕ → Bool
is_extension text = bytes_eq text (codes "__extension__")
