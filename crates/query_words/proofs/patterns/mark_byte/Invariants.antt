use Rattle.std.proofs.Common.{◌≡◌, ℕ, ◌≤◌, ◌<◌, List, ◌∷◌, false, length, drop, get_or}
use Rattle.query_words.specs.Patterns.{matches}
use Rattle.query_words.specs.PlaceMarks.{AreAtEnd}
use Rattle.query_words.proofs.patterns.mark_byte.Given as goal

-- What stands behind is marked for the byte and the text, what stands before for the text alone.
abbrev pub invariant-loop-k : goal.invariant-loop-k
invariant-loop-k l =
    record {
      done : (text : List ℕ) → AreAtEnd l.pattern text l.fn.places → (j : ℕ) → l.k ≤ j → j ≤ length l.pattern
          → get_or l.places j false ≡ matches (drop j l.pattern) (l.byte ∷ text);
      left : (j : ℕ) → j < l.k → get_or l.places j false ≡ get_or l.fn.places j false;
      behind : l.behind ≡ get_or l.fn.places l.k false;
      within : l.k ≤ length l.pattern;
    }
