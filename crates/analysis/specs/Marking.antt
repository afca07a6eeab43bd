-- Marks on the tokens of files, by the number of the file and that of the token in it.
use Rattle.std.specs.Prelude.{ℕ, ◌≡◌, ◌≤◌, ◌<◌, ◌⊎◌, Bool, true, false, List, [], Some, slice_get, slice_index_or, slice_range}
use Rattle.cs_base.specs.Token.{Token}
use Rattle.lexer.specs.Tokens.{tokens_of}
use Rattle.include_tree.specs.Below.line_shape.Signs.{is_name}
use Rattle.include_tree.specs.Below.line_shape.declared.items.Item.{Item}
use Rattle.include_tree.specs.Below.unit_steps.declared.events.Reached.{Reached}
use Rattle.include_tree.specs.Below.source_files.Files.{Table}
use Rattle.include_tree.specs.Below.source_files.KeptFiles.{KeptValue, kept_at}
use Rattle.analysis.specs.Naming.{nameable}

-- whether token k of file number n is marked
abbrev pub is_marked : List (List Bool) → ℕ → ℕ → Bool
is_marked marks n k = slice_index_or (slice_index_or marks n []) k false

-- Token k of file number n is marked, and no other one more.
pub record SetsMark (n k : ℕ) (old new : List (List Bool)) : Type 0 where
  pub set : is_marked new n k ≡ true
  pub kept : (m j : ℕ) → is_marked old m j ≡ true → is_marked new m j ≡ true
  pub only : (m j : ℕ) → is_marked new m j ≡ true → (is_marked old m j ≡ true) ⊎ ((m ≡ n) × (j ≡ k))

-- token k is an identifier among the tokens from one number to before another
pub record IsNameIn (toks : List Token) (from to k : ℕ) : Type 0 where
  pub token : Token
  pub at : slice_get toks k ≡ Some token
  pub name : is_name token ≡ true
  pub begins : from ≤ k
  pub ends : k < to

-- The identifiers of file number n among these tokens are marked, and no others more.
pub record MarksNames (n : ℕ) (toks : List Token) (from to : ℕ) (old new : List (List Bool)) : Type 0 where
  pub all : (k : ℕ) → IsNameIn toks from to k → is_marked new n k ≡ true
  pub kept : (m j : ℕ) → is_marked old m j ≡ true → is_marked new m j ≡ true
  pub only : (m j : ℕ) → is_marked new m j ≡ true → (is_marked old m j ≡ true) ⊎ ((m ≡ n) × IsNameIn toks from to j)

-- The identifiers of an item that a place may name are marked, where the item was reached.
pub record MarksItem (r : Reached) (item : Item) (toks : List Token) (old new : List (List Bool)) : Type 0 where
  pub from : ℕ
  pub to : ℕ
  pub range : nameable item.kind r.evaluated (slice_range toks item.from item.to) ≡ slice_range toks from to
  pub marks : MarksNames r.file toks from to old new

-- ---- identifiers that are processed

-- the list has the token
abbrev pub Has : List Token → Token → Type 0
Has toks t = (k : ℕ) × (slice_get toks k ≡ Some t)

-- the token stands in a kept file and is marked
pub record IsMarkedToken (table : Table) (marks : List (List Bool)) (t : Token) : Type 0 where
  pub file : KeptValue
  pub number : ℕ
  pub place : ℕ
  pub is_kept : kept_at table number ≡ Some file
  pub at : slice_get (tokens_of file.number file.bytes) place ≡ Some t
  pub marked : is_marked marks number place ≡ true

-- These identifiers of kept files are marked, and no others more.
pub record MarksTokens (table : Table) (names : List Token) (old new : List (List Bool)) : Type 0 where
  pub all : (t : Token) → Has names t → IsMarkedToken table new t
  pub kept : (m j : ℕ) → is_marked old m j ≡ true → is_marked new m j ≡ true
  pub only : (m j : ℕ) → is_marked new m j ≡ true → (is_marked old m j ≡ true)
      ⊎ ((file : KeptValue) (t : Token) → kept_at table m ≡ Some file → slice_get (tokens_of file.number file.bytes) j ≡ Some t → Has names t)

-- The marks are those of these identifiers.
pub record AreMarked (table : Table) (names : List Token) (marks : List (List Bool)) : Type 0 where
  pub all : (t : Token) → Has names t → IsMarkedToken table marks t
  pub only : (m j : ℕ) (file : KeptValue) (t : Token) → is_marked marks m j ≡ true → kept_at table m ≡ Some file
      → slice_get (tokens_of file.number file.bytes) j ≡ Some t → Has names t
