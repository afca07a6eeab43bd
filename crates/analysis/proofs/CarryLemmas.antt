-- What is carried from unit to unit.
use Rattle.std.proofs.Common.{◌≡◌, ℕ, ◌+◌, ◌<◌, ◌^◌, false, List, Option, Some, None, Result, Ok, Err, refl, subst, arith}
use Rattle.std.specs.Prelude.{IfSome}
use Rattle.cs_base.specs.Outside.{FileMap}
use Rattle.cs_base.specs.Units.{UnitValue, IsUnit}
use Rattle.cs_base.specs.Token.{Token}
use Rattle.cs_base.proofs.BoolLemmas.{and_not-false as not_pseudo}
use Rattle.lexer.specs.FileText.{file_text}
use Rattle.include_tree.specs.Below.source_files.Limits.{the_limits}
use Rattle.include_tree.specs.Below.source_files.Faults.{Fault}
use Rattle.include_tree.specs.Below.source_files.Files.{Source, source_of, Table, Carried, nothing_carried, found_at, defines_path}
use Rattle.include_tree.specs.Below.unit_steps.State.{Outcome}
use Rattle.include_tree.specs.Unit.{unit_outcome}
use Rattle.include_tree.specs.Preprocessed.{Preprocessed, preprocessed, preprocessed_by}
use Rattle.include_tree.specs.Laws.{IfDone}
use Rattle.include_tree.specs.Below.source_files.Tables.{AreFound, StaysHeld}
use Rattle.include_tree.specs.PseudoFiles.{is_pseudo}
use Rattle.include_tree.proofs.PseudoLemmas.{others_stay}
use Rattle.analysis.specs.Carrying.{IsFresh, IsOver}

ok_holds : (P : Preprocessed → Type 0) (a b : Preprocessed) → ◌≡◌ {A = Result Preprocessed Fault} (Ok a) (Ok b) → P a → P b
ok_holds P a b e h = let same : a ≡ b = cc in subst P same h

-- what holds of the table behind a unit holds of the table that is carried on
table_after : (P : Table → Type 0) (earlier : ℕ) (o : Outcome (List Token)) (p : Preprocessed) → IfDone (λ toks t. P t.table) o
    → preprocessed_by earlier o ≡ Ok p → P p.after.table
table_after P earlier (Ok d) p h e = ok_holds (λ q. P q.after.table) _ p e h
table_after P earlier (Err found) p h e = absurd cc

after_others : (source : Source) (number other : ℕ) (unit : UnitValue) (before : Carried) (p : Preprocessed) → is_pseudo unit.path ≡ false
    → number < 2 ^ 64 → other < 2 ^ 64 → (other ≡ number → ⊥) → found_at (defines_path other) before.table ≡ None
    → preprocessed source number unit before ≡ Ok p → found_at (defines_path other) p.after.table ≡ None
unfolding preprocessed
after_others source number other unit before p real few few2 apart none e =
    table_after (λ t. found_at (defines_path other) t ≡ None) before.toks (unit_outcome the_limits file_text source number unit before) p
    (others_stay the_limits file_text source number other unit before real few few2 apart none) e

-- the file of a unit is no pseudo file
pub unit_real : (u : UnitValue) → IsUnit u → is_pseudo u.path ≡ false
unit_real u h = not_pseudo _ (is_pseudo u.path) h.is_placed

-- before the first unit
pub fresh_first : (number : ℕ) → IsFresh number nothing_carried.table
unfolding found_at
fresh_first number = λ other later few. refl

pub none_found : (told : Option FileMap) → IfSome told (λ held. AreFound (source_of held) nothing_carried.table)
none_found None = tt
none_found (Some m) = (tt, tt)

-- behind a unit
pub fresh_on : (source : Source) (number : ℕ) (unit : UnitValue) (before : Carried) (p : Preprocessed) → IsUnit unit → number < 2 ^ 32
    → IsFresh number before.table → preprocessed source number unit before ≡ Ok p → IsFresh (number + 1) p.after.table
fresh_on source number unit before p is few fresh e = λ other later small.
    after_others source number other unit before p (unit_real unit is) (omega arith) (omega arith) (λ same. omega arith) (fresh other (omega arith) small) e

-- ---- an answer over what was read

pub found_more : (told : Option FileMap) (old new : Table) → IfSome told (λ held. AreFound (source_of held) old) → StaysHeld told old new
    → IfSome told (λ held. AreFound (source_of held) new)
found_more None old new all stays = tt
found_more (Some m) old new all stays = stays all

-- it is so over what the files hold
pub over_held : (told : Option FileMap) (table : Table) (P : Source → Type 0) → IsOver told table P → IfSome told (λ held. P (source_of held))
over_held None table P over = tt
over_held (Some m) table P over = over.each (source_of m) over.found

-- nothing was read
pub over_nothing : (told : Option FileMap) (P : Source → Type 0) → ((source : Source) → P source) → IsOver told nothing_carried.table P
over_nothing told P h = record { once = refl; found = none_found told; each = λ source found. h source }

pub over_map : (told : Option FileMap) (table : Table) (P Q : Source → Type 0) → IsOver told table P → ((source : Source) → P source → Q source) → IsOver told table Q
over_map told table P Q over next = record { once = over.once; found = over.found; each = λ source found. next source (over.each source found) }
