-- What is kept of the beginning of a unit, and units that begin so (ISO/IEC 9899:1999, 6.2.1).
use Rattle.std.specs.Prelude.{ℕ, ◌<◌, ◌≤◌, ◌≡◌, List, length}
use Rattle.cs_base.specs.Token.{Token}
use Rattle.cs_base.specs.declared.ws_units.Standard.{Standard}
use Rattle.cs_base.specs.declared.ws_units.Standard.TheVariants.{C99, C11, Gnu99, Gnu11}
use Rattle.c99_tree.specs.Tree.{Forest}
use Rattle.c_types.specs.declared.frames.Frame.{Frame}
use Rattle.c_types.specs.declared.listing.Shown.{Shown}
use Rattle.c_types.specs.Declarations.{Facts, spelling_at}
use Rattle.c_types.specs.Lists.{bare_in, calls_in, lists_in}
use Rattle.scope_bind.specs.Below.name_chains.Frames.{State, state, at_first}
use Rattle.scope_bind.specs.Carried.{carried_state, behind_front, IsBelow}
use Rattle.scope_bind.specs.Walk.{walked as standard_walked}
use Rattle.gnu_bind.specs.Senses.{usual_sense}
use Rattle.gnu_bind.specs.Walk.{walked}

-- the walk over external declarations by a standard
abbrev pub walked_by : Standard → List Token → Forest → State → State
walked_by C99 toks f s = standard_walked toks f s
walked_by C11 toks f s = standard_walked toks f s
walked_by Gnu99 toks f s = walked toks usual_sense f s
walked_by Gnu11 toks f s = walked toks usual_sense f s

-- What is kept of the beginning of a unit, as contracts see it: its standard, the facts and the frame behind its external
-- declarations, and what their tree tells by itself.
pub record BoundFrontValue : Type 0 where
  pub standard : Standard
  pub facts : Facts
  pub frame : Frame
  pub shown : Shown

abbrev pub bound_front : Standard → Facts → Frame → Shown → BoundFrontValue
bound_front standard facts frame shown = record { standard = standard; facts = facts; frame = frame; shown = shown }

-- It is what a walk over these external declarations leads to in a text of two tokens or more, in front of whose last one they
-- stand; and their tree tells these lists.
pub record IsKnownBehind (f : BoundFrontValue) (toks : List Token) (under : Forest) : Type 0 where
  pub some : 1 < length toks
  pub below : IsBelow (length toks) under
  pub known : walked_by f.standard toks under (at_first (length toks)) ≡ state f.facts f.frame
  pub lists : f.shown.lists.items ≡ lists_in under
  pub calls : f.shown.calls.items ≡ calls_in under
  pub bare : f.shown.bare.items ≡ bare_in under

-- a text begins with tokens that are spelled as all those of another one
pub record IsSpelledAs (seen toks : List Token) : Type 0 where
  pub fits : length seen ≤ length toks
  pub alike : (k : ℕ) → k < length seen → spelling_at seen k ≡ spelling_at toks k

-- ---- Laws

-- What is known behind a part of a text of GNU C, read from its beginning, is known behind it in each text that begins with its
-- tokens: all are the same, but file scope ends where that text does.
abbrev pub GnuFrontsBindAlike : Type 0
GnuFrontsBindAlike =
    (a b : List Token) (f : Forest) → 1 < length a → length a ≤ length b
    → ((k : ℕ) → k < length a → spelling_at a k ≡ spelling_at b k) → IsBelow (length a) f
    → walked b usual_sense f (at_first (length b)) ≡ carried_state (behind_front (length a) (length b)) (walked a usual_sense f (at_first (length a)))
