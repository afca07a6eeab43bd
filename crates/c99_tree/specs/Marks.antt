-- How the table of names is kept: a number for each name, its present mark, and what to undo.
use Rattle.std.specs.Prelude.{ℕ, ◌+◌, ◌<◌, ◌≡◌, Bool, false, List, [], ◌∷◌, length, get_or, if◌then◌else◌, ◌==◌}
use Rattle.c99_tree.specs.Names.{Scopes, outermost, declared}
use Rattle.c99_tree.specs.declared.visible.Step.{Step}
use Rattle.c99_tree.specs.declared.visible.Step.TheVariants.{Scope, Declared}
use Rattle.c99_tree.specs.NumberedNames.{Marks, nth}

-- the scopes that the steps, the latest first, have made
abbrev pub scopes_of : List (List ℕ) → List Step → Scopes
scopes_of names [] = outermost
scopes_of names (Scope ∷ older) = [] ∷ scopes_of names older
scopes_of names (Declared number before typedef ∷ older) = declared (scopes_of names older) (nth names number) typedef

-- what the latest step on this number says
abbrev pub mark_of : List Step → ℕ → Bool
mark_of [] k = false
mark_of (Scope ∷ older) k = mark_of older k
mark_of (Declared number before typedef ∷ older) k = if number == k then typedef else mark_of older k

-- how many scopes have begun
abbrev pub open_in : List Step → ℕ
open_in [] = 0
open_in (Scope ∷ older) = open_in older + 1
open_in (Declared number before typedef ∷ older) = open_in older

-- each number has a name, and each step knows the mark that stood before it
abbrev pub IsUndone : ℕ → List Step → Type 0
IsUndone count [] = Unit {0}
IsUndone count (Scope ∷ older) = IsUndone count older
IsUndone count (Declared number before typedef ∷ older) =
    (number < count) × (before ≡ mark_of older number) × IsUndone count older

-- what is true of every table
pub record IsKept (marks : Marks) (steps : List Step) (open_count : ℕ) : Type 0 where
  pub undone : IsUndone (length marks.names) steps
  pub marked : (k : ℕ) → get_or marks.typedefs k false ≡ mark_of steps k
  pub counted : open_in steps ≡ open_count
