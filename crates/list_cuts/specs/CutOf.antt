-- The cut of lists in a text (this project's), given by the spans of their items.
use Rattle.std.specs.Prelude.{ℕ, ◌-◌, ◌==◌, ◌&&◌, ◌||◌, nat_le, if◌then◌else◌, Bool, true, List, [], ◌∷◌}
use Rattle.list_cuts.specs.declared.spans.Span.{Span}
use Rattle.list_cuts.specs.Cuts.{Cut, done, keep, list, Items, ended, item, span_of}

-- ---- parts of a cut

-- the cut of the first elements, so many
unfoldable pub front : ℕ → Cut → Cut
front n done = done
front n (keep k c) = if nat_le n k then done else keep k (front (n - k) c)
front n (list is c) = if nat_le (span_of is) n then list is (front (n - span_of is) c) else done

-- the cut of the elements behind them
unfoldable pub back : ℕ → Cut → Cut
back n done = done
back n (keep k c) = if nat_le n k then keep (k - n) c else back (n - k) c
back n (list is c) = if nat_le (span_of is) n then back (n - span_of is) c else list is c

-- no list goes on from the first elements, so many, to those behind them
unfoldable pub is_between : ℕ → Cut → Bool
is_between n done = true
is_between n (keep k c) = nat_le n k || is_between (n - k) c
is_between n (list is c) = if nat_le (span_of is) n then is_between (n - span_of is) c else n == 0

-- no list stands among the first elements, so many
unfoldable pub is_free : ℕ → Cut → Bool
is_free n done = true
is_free n (keep k c) = nat_le n k || is_free (n - k) c
is_free n (list is c) = n == 0

-- ---- a list in front of a cut

-- the items of a list, where this is the cut of the elements from the first item on
unfoldable pub cut_items : Cut → List Span → Items
cut_items c [] = ended
cut_items c (s ∷ []) = item (s.end - s.begin) (front (s.end - s.begin) c) 0 ended
cut_items c (s ∷ t ∷ more) =
    item (s.end - s.begin) (front (s.end - s.begin) c) (t.begin - s.end)
    (cut_items (back (t.begin - s.end) (back (s.end - s.begin) c)) (t ∷ more))

-- the cut of the elements behind its last item
unfoldable pub rest_of : Cut → List Span → Cut
rest_of c [] = c
rest_of c (s ∷ []) = back (s.end - s.begin) c
rest_of c (s ∷ t ∷ more) = rest_of (back (t.begin - s.end) (back (s.end - s.begin) c)) (t ∷ more)

-- a list whose first item begins before all lists of a cut
abbrev pub with_list : List Span → Cut → Cut
with_list [] c = c
with_list (s ∷ more) c = keep s.begin (list (cut_items (back s.begin c) (s ∷ more)) (rest_of (back s.begin c) (s ∷ more)))

-- Lists that stand in the order of their first items: the cut of them all.
unfoldable pub cut_of : List (List Span) → Cut
cut_of [] = done
cut_of (l ∷ lists) = with_list l (cut_of lists)

-- ---- lists in one another

-- each list of the cut stands inside an item, or behind the last one
unfoldable pub holds_items : Cut → List Span → Bool
holds_items c [] = true
holds_items c (s ∷ []) = is_between (s.end - s.begin) c
holds_items c (s ∷ t ∷ more) =
    is_between (s.end - s.begin) c && (is_free (t.begin - s.end) (back (s.end - s.begin) c)
    && holds_items (back (t.begin - s.end) (back (s.end - s.begin) c)) (t ∷ more))

-- the same of a list in front of a cut
abbrev pub is_around : List Span → Cut → Bool
is_around [] c = true
is_around (s ∷ more) c = is_free s.begin c && holds_items (back s.begin c) (s ∷ more)

-- Each list stands inside an item of one before it, or behind its last item.
unfoldable pub are_nested : List (List Span) → Bool
are_nested [] = true
are_nested (l ∷ lists) = is_around l (cut_of lists) && are_nested lists
