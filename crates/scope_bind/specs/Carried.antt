-- What is known of declarations, with each token at the place where it is in another text (this project's, over ISO/IEC 9899:1999,
-- 6.2.1).
use Rattle.std.specs.Prelude.{ℕ, ◌+◌, ◌-◌, ◌<◌, ◌≤◌, ◌≡◌, List, length, map, nat_lt, if◌then◌else◌}
use Rattle.std.specs.Option.{option_map}
use Rattle.cs_base.specs.Token.{Token}
use Rattle.c99_tree.specs.Tree.{Forest, none, token, node}
use Rattle.c_types.specs.declared.declarations.Fault.{Fault}
use Rattle.c_types.specs.Declarations.{Facts, spelling_at}
use Rattle.name_chains.specs.Frames.{State, at_first}
use Rattle.scope_bind.specs.Named.{Declaration, Frame}
use Rattle.scope_bind.specs.Walk.{walked}
use Rattle.scope_bind.specs.Moved.{moved_space, moved_type, moved_occurrence, moved_frame, AreMovedTexts}

module _ (m : ℕ → ℕ) where
  abbrev pub carried : Declaration → Declaration
  carried d = record {
    space = moved_space m d.space;
    name_at = m d.name_at;
    entity = m d.entity;
    kind = d.kind;
    linkage = d.linkage;
    ctype = moved_type m d.ctype;
    depth = d.depth;
    from = m d.from;
    to = m d.to;
    listed = d.listed;
  }

  abbrev pub carried_fault : Fault → Fault
  carried_fault f = record { cause = f.cause; index = m f.index }

  abbrev pub carried_facts : Facts → Facts
  carried_facts f = record {
    declared = map carried f.declared;
    occurrences = map (moved_occurrence m) f.occurrences;
    begun = map m f.begun;
    complete = map m f.complete;
    jumps = map m f.jumps;
    fault = option_map carried_fault f.fault;
  }

  abbrev pub carried_frame : Frame → Frame
  carried_frame f = moved_frame m (m f.token) (m f.scope.to) (option_map m f.kept) f

  abbrev pub carried_state : State → State
  carried_state s = record { facts = carried_facts s.facts; frame = carried_frame s.frame }

-- Token i of the one text is token `m i` of the other, which is spelled so; no two go to one place, the order stays, and so do the
-- first h tokens.
pub record AreCarried (m : ℕ → ℕ) (h : ℕ) (a b : List Token) : Type 0 where
  pub texts : AreMovedTexts m a b
  pub order : (i j : ℕ) → nat_lt (m i) (m j) ≡ nat_lt i j
  pub still : (k : ℕ) → k < h → m k ≡ k

-- the tokens below some children, and those behind them, are among the first h
abbrev pub IsBelow : ℕ → Forest → Type 0
IsBelow h none = Unit {0}
IsBelow h (token i rest) = (i + 1 < h) × IsBelow h rest
IsBelow h (node l first under rest) = (first + 1 < h) × IsBelow h under × IsBelow h rest

-- The tokens that a text has behind its first n stand at the end of another one, which has m tokens.
abbrev pub behind_front : ℕ → ℕ → ℕ → ℕ
behind_front n m k = if nat_lt k n then k else m + (k - n)

-- ---- Laws

-- What is known behind a part of a text, read from its beginning, is known behind it in each text that begins with its tokens:
-- all are the same, but file scope ends where that text does.
abbrev pub FrontsBindAlike : Type 0
FrontsBindAlike =
    (a b : List Token) (f : Forest) → 1 < length a → length a ≤ length b
    → ((k : ℕ) → k < length a → spelling_at a k ≡ spelling_at b k) → IsBelow (length a) f
    → walked b f (at_first (length b)) ≡ carried_state (behind_front (length a) (length b)) (walked a f (at_first (length a)))
