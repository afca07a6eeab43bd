-- States of the binder in two texts that go together, where token i of the one is at another place in the other: what is known
-- is the same, at the moved places (this project's, over ISO/IEC 9899:1999, 6.2.1 to 6.2.3).
use Rattle.std.specs.Prelude.{ℕ, ◌+◌, ◌≤◌, ◌≡◌, ◌==◌, ◌⊎◌, Bool, true, false, ◌&&◌, not, nat_lt, List, [], ◌∷◌, filter, find, map, is_some, Option, None, Some}
use Rattle.std.specs.Option.{option_map}
use Rattle.cs_base.specs.Token.{Token}
use Rattle.c_types.specs.declared.declarations.Space.TheVariants.{Members, Inner, Unnamed}
use Rattle.c_types.specs.Declarations.{Facts, has_linkage, is_in, is_live, is_named, is_space}
use Rattle.name_chains.specs.Entering.{is_member}
use Rattle.name_chains.specs.Frames.{State}
use Rattle.scope_bind.specs.Named.{Space, Declaration, Occurrence, Frame, ordinary, tags, labels}
use Rattle.scope_bind.specs.Moved.{moved_occurrence, moved_frame, IsMoved, AreMovedTexts}
use Rattle.c99_tree.specs.Tree.{Forest, none, token, node}
use Rattle.scope_bind.specs.Walk.{walked}
use Rattle.tree_laws.specs.TreesOfTexts.{token_count, AreFrom, have_forms}
use Rattle.reordered_tree_laws.specs.Reordered.{numbered}
use Rattle.reordered_tree_laws.specs.Premises.{is_fit}

-- ---- What is moved along

module _ (m : ℕ → ℕ) where
  -- so many declarations, each of which is moved
  abbrev pub AreMoved : List Declaration → List Declaration → Type 0
  AreMoved [] [] = Unit {0}
  AreMoved (d ∷ ds) (e ∷ es) = IsMoved m d e × AreMoved ds es
  AreMoved _ _ = ⊥

-- both are there, of one kind and linkage, or neither is
abbrev pub AreToldAlike : Option Declaration → Option Declaration → Type 0
AreToldAlike None None = Unit {0}
AreToldAlike (Some d) (Some e) = (e.kind ≡ d.kind) × (e.linkage ≡ d.linkage)
AreToldAlike _ _ = ⊥

-- ---- What is asked of declarations

-- A mark: an ordinary identifier or a tag that is spelled as token i; such an identifier that has linkage; what is found in
-- a structure or union, or in it without a name; a label of the body that begins there; the declaration that token i names.
pub data Mark : Type 0 where
  named : ℕ → Mark
  tagged : ℕ → Mark
  joined : ℕ → Mark
  owned : ℕ → Mark
  labelled : ℕ → Mark
  placed : ℕ → Mark

abbrev pub is_owned : ℕ → Space → Bool
is_owned n (Members k) = k == n
is_owned n (Inner k) = k == n
is_owned n (Unnamed k) = k == n
is_owned n _ = false

abbrev pub has_mark : List Token → Mark → Declaration → Bool
has_mark toks (named i) d = is_named toks ordinary i d
has_mark toks (tagged i) d = is_named toks tags i d
has_mark toks (joined i) d = is_named toks ordinary i d && has_linkage d.linkage
has_mark toks (owned n) d = is_owned n d.space
has_mark toks (labelled n) d = is_space d.space (labels n)
has_mark toks (placed i) d = d.name_at == i

-- names of the list that ends there, which are those of a body that begins with it
abbrev pub is_of_list : ℕ → Declaration → Bool
is_of_list list d = (d.to == list) && ((d.depth == 1) && not (is_member d.space))

-- all that have a mark, those of them whose range holds a token, and those that are names of a list
pub data Question : Type 0 where
  whole : Mark → Question
  living : Mark → ℕ → Question
  listed : Mark → ℕ → Question

abbrev pub answers : List Token → Question → Declaration → Bool
answers toks (whole a) d = has_mark toks a d
answers toks (living a k) d = has_mark toks a d && is_live k d
answers toks (listed a l) d = has_mark toks a d && is_of_list l d

module _ (m : ℕ → ℕ) where
  abbrev pub moved_mark : Mark → Mark
  moved_mark (named i) = named (m i)
  moved_mark (tagged i) = tagged (m i)
  moved_mark (joined i) = joined (m i)
  moved_mark (owned n) = owned (m n)
  moved_mark (labelled n) = labelled (m n)
  moved_mark (placed i) = placed (m i)

  abbrev pub moved_question : Question → Question
  moved_question (whole a) = whole (moved_mark a)
  moved_question (living a k) = living (moved_mark a) (m k)
  moved_question (listed a l) = listed (moved_mark a) (m l)

  -- The token is none of those read before these places in the two texts, or is the last of them in both.
  abbrev pub IsAhead : ℕ → ℕ → ℕ → Type 0
  IsAhead lo there k = ((lo ≤ k) × (there ≤ m k)) ⊎ ((k + 1 ≡ lo) × (m k + 1 ≡ there))

  -- what is asked of the declarations once these places are reached: names and tags by their ranges alone, and what a token
  -- names among the names of a list alone
  abbrev pub IsAsked : ℕ → ℕ → Question → Type 0
  IsAsked lo there (whole (named i)) = ⊥
  IsAsked lo there (whole (tagged i)) = ⊥
  IsAsked lo there (whole (placed i)) = ⊥
  IsAsked lo there (whole a) = Unit {0}
  IsAsked lo there (living (named i) k) = IsAhead lo there k
  IsAsked lo there (living (tagged i) k) = IsAhead lo there k
  IsAsked lo there (living a k) = ⊥
  IsAsked lo there (listed a l) = Unit {0}

-- ---- States that go together

module _ (m : ℕ → ℕ) (old new : List Token) where
  -- What is known at these places in the two texts: each question has the same answer, at the moved places; the latest
  -- declaration that a token names is of the same kind and linkage; the same structures have begun and are complete; as much
  -- is at fault; and each token has been bound to the same entities.
  pub record GoTogether (lo there : ℕ) (f g : Facts) : Type 0 where
    pub asked : (q : Question) → IsAsked m lo there q
        → AreMoved m (filter (answers old q) f.declared) (filter (answers new (moved_question m q)) g.declared)
    pub told : (i : ℕ) → AreToldAlike (find (λ d. d.name_at == i) f.declared) (find (λ d. d.name_at == m i) g.declared)
    pub begun : (n : ℕ) → is_in g.begun (m n) ≡ is_in f.begun n
    pub complete : (n : ℕ) → is_in g.complete (m n) ≡ is_in f.complete n
    pub jumps : g.jumps ≡ map m f.jumps
    pub fault : is_some g.fault ≡ is_some f.fault
    pub noted : (i : ℕ) → filter (λ (o : Occurrence). o.index == m i) g.occurrences
        ≡ map (moved_occurrence m) (filter (λ (o : Occurrence). o.index == i) f.occurrences)

  -- the same of what is known inside a node; perhaps the last token has been read in it, and the list for a body is known
  pub record FramesGo (own keeps : Bool) (lo there : ℕ) (f g : Frame) : Type 0 where
    pub same : g ≡ moved_frame m g.token g.scope.to g.kept f
    pub token : own ≡ true → g.token ≡ m f.token
    pub kept : keeps ≡ true → g.kept ≡ option_map m f.kept
    pub ends : (k : ℕ) → IsAhead m lo there k → nat_lt (m k) g.scope.to ≡ nat_lt k f.scope.to
    pub outer : f.scope.depth ≡ 1 → g.scope.to ≡ m f.scope.to

  pub record StatesGo (own keeps : Bool) (lo there : ℕ) (s t : State) : Type 0 where
    pub facts : GoTogether lo there s.facts t.facts
    pub frame : FramesGo own keeps lo there s.frame t.frame

-- The tokens below some children are moved to those from this number on, one after another.
abbrev pub AreMovedTo : (ℕ → ℕ) → ℕ → Forest → Type 0
AreMovedTo m there none = Unit {0}
AreMovedTo m there (token i rest) = (m i ≡ there) × AreMovedTo m (there + 1) rest
AreMovedTo m there (node l first under rest) = AreMovedTo m there under × AreMovedTo m (there + token_count under) rest

-- A part of a unit that is moved as a whole binds alike at its new place.
abbrev pub PartsMoveAlike : Type 0
PartsMoveAlike =
    (m : ℕ → ℕ) (old new : List Token) (f : Forest) (own keeps : Bool) (lo there : ℕ) (s t : State) → AreMovedTexts m old new → AreFrom lo f
    → AreMovedTo m there f → have_forms f ≡ true
    → is_fit (λ i. false) s.frame.label own s.frame.nth s.frame.scope keeps f ≡ true → StatesGo m old new own keeps lo there s t
    → StatesGo m old new false false (lo + token_count f) (there + token_count f) (walked old f s) (walked new (numbered there f) t)
