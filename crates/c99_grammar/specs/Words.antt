-- The tables of spellings as contracts see them.
use Rattle.std.specs.Prelude.{ℕ, zero, suc, ◌%◌, ◌≡◌, if◌then◌else◌, nat_eq, List, [], ◌∷◌, map, get_or}
use Rattle.std.specs.Borrow.{Bor}
use Rattle.c99_grammar.specs.declared.spellings.Word.{Word}
use Rattle.c99_grammar.specs.Spellings.{Spelled}

-- a word of a table: its spelling and its class
abbrev pub spelled_of : Word → Spelled
spelled_of w = (w.text.now, w.class)

-- the row of a table in which a spelling stands: the last five bits of its first character
abbrev pub row_of : List ℕ → ℕ
row_of [] = 0
row_of (c ∷ more) = c % 32

-- the words of a row of a table
abbrev pub row_at : List (Bor (List Word)) → ℕ → List Spelled
row_at rows k = get_or (map (λ row. map spelled_of row.now) rows) k []

-- the words that stand in a row
abbrev pub in_row : ℕ → List Spelled → List Spelled
in_row k [] = []
in_row k (s ∷ words) = if nat_eq (row_of s.0) k then s ∷ in_row k words else in_row k words

-- the words by rows, so many from the k-th on
abbrev pub by_rows : ℕ → ℕ → List Spelled → List (List Spelled)
by_rows k zero words = []
by_rows k (suc n) words = in_row k words ∷ by_rows (suc k) n words

-- the rows of a table have these words, each in the row where its spelling stands
abbrev pub AreRows : List (Bor (List Word)) → List Spelled → Type 0
AreRows rows words = map (λ row. map spelled_of row.now) rows ≡ by_rows 0 32 words
