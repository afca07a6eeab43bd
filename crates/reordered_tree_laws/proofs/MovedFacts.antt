-- What is known goes together in two texts: look-ups, and what is noted.
use Rattle.std.proofs.Common.{ℕ, ◌+◌, ◌≤◌, ◌≡◌, Bool, true, false, ◌&&◌, ◌||◌, cond, if◌then◌else◌, ◌==◌, List, [], ◌∷◌, ◌++◌, map, Option, None, Some, inl, inr, refl, sym, ap, subst, ◌∙◌, arith}
use Rattle.std.specs.Prelude.{find, filter, is_some}
use Rattle.std.specs.List.{list_any}
use Rattle.std.proofs.lemmas.Bool.{false≢true}
use Rattle.std.proofs.lemmas.List.{map-append}
use Rattle.std.proofs.lemmas.List.Folds.{list_any-append}
use Rattle.cs_base.specs.Token.{Token}
use Rattle.c_types.specs.Faults.{first_fault, comes_first}
use Rattle.c_types.specs.declared.declarations.Space.TheVariants.{Ordinary, Tags, Members, Inner, Unnamed, Labels}
use Rattle.c_types.specs.Declarations.{Facts, alike, is_named, is_space, is_live, is_in, has_linkage, with_fault, with_occurrence, with_declaration, with_begun, with_complete}
use Rattle.name_chains.specs.Members.{with_silent}
use Rattle.scope_bind.specs.Labels.{with_jump}
use Rattle.scope_bind.specs.Named.{Cause, Fault, Space, Declaration, Occurrence, ordinary, tags, labels}
use Rattle.reordered_tree_laws.specs.Ranges.{has_range}
use Rattle.scope_bind.specs.Moved.{moved_space, moved_occurrence, IsMoved, AreMovedTexts}
use Rattle.reordered_tree_laws.specs.Moving.{AreMoved, AreToldAlike, Mark, named, tagged, joined, owned, labelled, placed, is_owned, has_mark, is_of_list, Question, whole, living, listed, answers, moved_mark, moved_question, IsAhead, IsAsked, GoTogether}
use Rattle.scope_bind.proofs.MovedSpaces.{same_number, same_ordinary, same_tags, same_labels, named_moved}
use Rattle.reordered_tree_laws.proofs.MovedLists.{find_both, filter_both, any_both, moved_more, AreFound, found_moved, filter_moved, any_moved}

-- a declaration beside its moved one: the same tokens ahead stand in their ranges, and they are names of the same list
pub record IsTimed (m : ℕ → ℕ) (lo there : ℕ) (d e : Declaration) : Type 0 where
  pub lives : (k : ℕ) → has_range d.space ≡ true → IsAhead m lo there k → is_live (m k) e ≡ is_live k d
  pub lists : (l : ℕ) → is_of_list (m l) e ≡ is_of_list l d

module _ (m : ℕ → ℕ) (old new : List Token) (law : AreMovedTexts m old new) where
  -- ---- Marks

  same_owned : (n : ℕ) (s : Space) → is_owned (m n) (moved_space m s) ≡ is_owned n s
  same_owned n Ordinary = refl
  same_owned n Tags = refl
  same_owned n (Members k) = same_number m old new law k n
  same_owned n (Inner k) = same_number m old new law k n
  same_owned n (Unnamed k) = same_number m old new law k n
  same_owned n (Labels k) = refl

  pub mark_moved : (a : Mark) (d e : Declaration) → IsMoved m d e → has_mark new (moved_mark m a) e ≡ has_mark old a d
  mark_moved (named i) d e h = named_moved m old new law ordinary ordinary i d e (same_ordinary m old new law d.space) h
  mark_moved (tagged i) d e h = named_moved m old new law tags tags i d e (same_tags m old new law d.space) h
  mark_moved (joined i) d e h =
      ap (λ b. b && has_linkage e.linkage) (named_moved m old new law ordinary ordinary i d e (same_ordinary m old new law d.space) h)
      ∙ ap (λ l. is_named old ordinary i d && has_linkage l) h.linkage
  mark_moved (owned n) d e h = ap (is_owned (m n)) h.space ∙ same_owned n d.space
  mark_moved (labelled n) d e h = ap (λ s. is_space s (labels (m n))) h.space ∙ same_labels m old new law n d.space
  mark_moved (placed i) d e h = ap (λ j. j == m i) h.name_at ∙ same_number m old new law d.name_at i

  -- ---- What is asked

  -- a name or a tag has a range
  ranged : (s : Space) → is_space s ordinary ≡ true → has_range s ≡ true
  ranged Ordinary e = refl
  ranged Tags e = absurd (false≢true e)
  ranged (Members n) e = absurd (false≢true e)
  ranged (Inner n) e = absurd (false≢true e)
  ranged (Unnamed n) e = absurd (false≢true e)
  ranged (Labels n) e = absurd (false≢true e)

  ranged_tag : (s : Space) → is_space s tags ≡ true → has_range s ≡ true
  ranged_tag Ordinary e = absurd (false≢true e)
  ranged_tag Tags e = refl
  ranged_tag (Members n) e = absurd (false≢true e)
  ranged_tag (Inner n) e = absurd (false≢true e)
  ranged_tag (Unnamed n) e = absurd (false≢true e)
  ranged_tag (Labels n) e = absurd (false≢true e)

  both_same : (a p q : Bool) → (a ≡ true → q ≡ p) → (a && q) ≡ (a && p)
  both_same true p q f = f refl
  both_same false p q f = refl

  first_true : (a b : Bool) → (a && b) ≡ true → a ≡ true
  first_true true b e = refl
  first_true false b e = absurd (false≢true e)

  pub answer_moved : (lo there : ℕ) (q : Question) (d e : Declaration) → IsAsked m lo there q → IsMoved m d e → IsTimed m lo there d e
      → answers new (moved_question m q) e ≡ answers old q d
  answer_moved lo there (whole a) d e w h t = mark_moved a d e h
  answer_moved lo there (listed a l) d e w h t =
      ap (λ b. b && is_of_list (m l) e) (mark_moved a d e h) ∙ ap (λ b. has_mark old a d && b) (t.lists l)
  answer_moved lo there (living (named i) k) d e w h t =
      ap (λ b. b && is_live (m k) e) (mark_moved (named i) d e h)
      ∙ both_same (has_mark old (named i) d) (is_live k d) (is_live (m k) e)
      (λ mine. t.lives k (ranged d.space (first_true (is_space d.space ordinary) (alike old i d.name_at) mine)) w)
  answer_moved lo there (living (tagged i) k) d e w h t =
      ap (λ b. b && is_live (m k) e) (mark_moved (tagged i) d e h)
      ∙ both_same (has_mark old (tagged i) d) (is_live k d) (is_live (m k) e)
      (λ mine. t.lives k (ranged_tag d.space (first_true (is_space d.space tags) (alike old i d.name_at) mine)) w)
  answer_moved lo there (living (joined i) k) d e w h t = absurd w
  answer_moved lo there (living (owned n) k) d e w h t = absurd w
  answer_moved lo there (living (labelled n) k) d e w h t = absurd w
  answer_moved lo there (living (placed i) k) d e w h t = absurd w

  -- ---- Places further on

  pub further_ahead : (lo there hi beyond k : ℕ) → lo + 1 ≤ hi → there + 1 ≤ beyond → IsAhead m hi beyond k → IsAhead m lo there k
  further_ahead lo there hi beyond k v w (inl a) = inl (omega (arith, v, a.0), omega (arith, w, a.1))
  further_ahead lo there hi beyond k v w (inr a) = inl (omega (arith, v, a.0), omega (arith, w, a.1))

  pub further_asked : (lo there hi beyond : ℕ) (q : Question) → lo + 1 ≤ hi → there + 1 ≤ beyond → IsAsked m hi beyond q → IsAsked m lo there q
  further_asked lo there hi beyond (whole (named i)) v w a = absurd a
  further_asked lo there hi beyond (whole (tagged i)) v w a = absurd a
  further_asked lo there hi beyond (whole (joined i)) v w a = tt
  further_asked lo there hi beyond (whole (owned n)) v w a = tt
  further_asked lo there hi beyond (whole (labelled n)) v w a = tt
  further_asked lo there hi beyond (whole (placed i)) v w a = absurd a
  further_asked lo there hi beyond (living (named i) k) v w a = further_ahead lo there hi beyond k v w a
  further_asked lo there hi beyond (living (tagged i) k) v w a = further_ahead lo there hi beyond k v w a
  further_asked lo there hi beyond (living (joined i) k) v w a = absurd a
  further_asked lo there hi beyond (living (owned n) k) v w a = absurd a
  further_asked lo there hi beyond (living (labelled n) k) v w a = absurd a
  further_asked lo there hi beyond (living (placed i) k) v w a = absurd a
  further_asked lo there hi beyond (listed a l) v w asked = tt

  abbrev pub Together : ℕ → ℕ → Facts → Facts → Type 0
  Together lo there f g = GoTogether m old new lo there f g

  pub further : (lo there hi beyond : ℕ) (f g : Facts) → lo + 1 ≤ hi → there + 1 ≤ beyond → Together lo there f g → Together hi beyond f g
  further lo there hi beyond f g v w k = record {
    asked = λ q a. k.asked q (further_asked lo there hi beyond q v w a);
    told = k.told;
    begun = k.begun;
    complete = k.complete;
    jumps = k.jumps;
    fault = k.fault;
    noted = k.noted;
  }

  -- ---- Look-ups

  module _ (lo there : ℕ) (f g : Facts) (k : Together lo there f g) (q : Question) (w : IsAsked m lo there q) (r s : Declaration → Bool)
      (same : (d e : Declaration) → IsMoved m d e → s e ≡ r d) where
    abbrev mine : Declaration → Bool
    mine d = answers old q d

    abbrev theirs : Declaration → Bool
    theirs e = answers new (moved_question m q) e

    module _ (c b : Declaration → Bool) (here : (d : Declaration) → c d ≡ (mine d && r d)) (over : (d : Declaration) → b d ≡ (theirs d && s d)) where
      pub asked_found : AreFound m (find c f.declared) (find b g.declared)
      asked_found =
          subst (λ x. AreFound m x (find b g.declared)) (sym (find_both mine r c here f.declared))
          (subst (λ y. AreFound m (find r (filter mine f.declared)) y) (sym (find_both theirs s b over g.declared))
          (found_moved m r s same (filter mine f.declared) (filter theirs g.declared) (k.asked q w)))

      pub asked_filter : AreMoved m (filter c f.declared) (filter b g.declared)
      asked_filter =
          subst (λ (xs : List Declaration). AreMoved m xs (filter b g.declared)) (sym (filter_both mine r c here f.declared))
          (subst (λ (ys : List Declaration). AreMoved m (filter r (filter mine f.declared)) ys) (sym (filter_both theirs s b over g.declared))
          (filter_moved m r s same (filter mine f.declared) (filter theirs g.declared) (k.asked q w)))

      pub asked_any : list_any b g.declared ≡ list_any c f.declared
      asked_any =
          any_both theirs s b over g.declared
          ∙ (any_moved m r s same (filter mine f.declared) (filter theirs g.declared) (k.asked q w) ∙ sym (any_both mine r c here f.declared))

  -- ---- What is noted

  some_first : (x y : Option Fault) (a b : Fault) → is_some y ≡ is_some x → is_some (first_fault y b) ≡ is_some (first_fault x a)
  some_first None None a b e = refl
  some_first (Some x) (Some y) a b e = by (comes_first a x) (comes_first b y)
    where
      by : (c d : Bool) → is_some (if d then Some b else Some y) ≡ is_some (if c then Some a else Some x)
      by true true = refl
      by true false = refl
      by false true = refl
      by false false = refl
  some_first None (Some y) a b e = absurd cc
  some_first (Some x) None a b e = absurd cc

  module _ (lo there : ℕ) (f g : Facts) (k : Together lo there f g) where
    pub fault_moves : (c d : Bool) (cause : Cause) (i : ℕ) → d ≡ c → Together lo there (with_fault c cause i f) (with_fault d cause (m i) g)
    fault_moves false false cause i e = k
    fault_moves true true cause i e = record {
      asked = k.asked;
      told = k.told;
      begun = k.begun;
      complete = k.complete;
      jumps = k.jumps;
      fault = some_first f.fault g.fault (record { cause = cause; index = i }) (record { cause = cause; index = m i }) k.fault;
      noted = k.noted;
    }
    fault_moves true false cause i e = absurd cc
    fault_moves false true cause i e = absurd cc

    noted_step : (o : Occurrence) (i : ℕ) (c d : Bool) (xs ys : List Occurrence) → d ≡ c → ys ≡ map (moved_occurrence m) xs
        → cond d (moved_occurrence m o ∷ ys) ys ≡ map (moved_occurrence m) (cond c (o ∷ xs) xs)
    noted_step o i true true xs ys e w = ap (λ (zs : List Occurrence). moved_occurrence m o ∷ zs) w
    noted_step o i false false xs ys e w = w
    noted_step o i true false xs ys e w = absurd cc
    noted_step o i false true xs ys e w = absurd cc

    pub occurrence_moves : (i e : ℕ) (declares : Bool) → Together lo there (with_occurrence i e declares f) (with_occurrence (m i) (m e) declares g)
    occurrence_moves i e declares =
        let o : Occurrence = record { index = i; entity = e; declares = declares } in
        record {
          asked = k.asked;
          told = k.told;
          begun = k.begun;
          complete = k.complete;
          jumps = k.jumps;
          fault = k.fault;
          noted = λ j.
              noted_step o j (i == j) (m i == m j) (filter (λ (x : Occurrence). x.index == j) f.occurrences)
              (filter (λ (x : Occurrence). x.index == m j) g.occurrences) (same_number m old new law i j) (k.noted j);
        }

    told_more : (d e : Declaration) (x y : Option Declaration) (c b : Bool) → b ≡ c → IsMoved m d e → AreToldAlike x y
        → AreToldAlike (cond c (Some d) x) (cond b (Some e) y)
    told_more d e x y true true w h t = (h.kind, h.linkage)
    told_more d e x y false false w h t = t
    told_more d e x y true false w h t = absurd cc
    told_more d e x y false true w h t = absurd cc

    pub silent_moves : (d e : Declaration) → IsMoved m d e → IsTimed m lo there d e → Together lo there (with_silent d f) (with_silent e g)
    silent_moves d e h t = record {
      asked = λ q a.
          moved_more m d e (filter (answers old q) f.declared) (filter (answers new (moved_question m q)) g.declared) (answers old q d)
          (answers new (moved_question m q) e) (answer_moved lo there q d e a h t) h (k.asked q a);
      told = λ i.
          told_more d e (find (λ x. x.name_at == i) f.declared) (find (λ x. x.name_at == m i) g.declared) (d.name_at == i) (e.name_at == m i)
          (ap (λ j. j == m i) h.name_at ∙ same_number m old new law d.name_at i) h (k.told i);
      begun = k.begun;
      complete = k.complete;
      jumps = k.jumps;
      fault = k.fault;
      noted = k.noted;
    }

    more_in : (xs ys : List ℕ) (e n : ℕ) → is_in ys (m n) ≡ is_in xs n → is_in (ys ++ m e ∷ []) (m n) ≡ is_in (xs ++ e ∷ []) n
    more_in xs ys e n same =
        list_any-append (λ x. x == m n) ys (m e ∷ [])
        ∙ (ap (λ b. b || is_in (m e ∷ []) (m n)) same
        ∙ (ap (λ b. is_in xs n || (b || false)) (same_number m old new law e n) ∙ sym (list_any-append (λ x. x == n) xs (e ∷ []))))

    pub begun_moves : (c : Bool) (e : ℕ) → Together lo there (with_begun c e f) (with_begun c (m e) g)
    begun_moves false e = k
    begun_moves true e = record {
      asked = k.asked;
      told = k.told;
      begun = λ n. more_in f.begun g.begun e n (k.begun n);
      complete = k.complete;
      jumps = k.jumps;
      fault = k.fault;
      noted = k.noted;
    }

    pub complete_moves : (e : ℕ) → Together lo there (with_complete e f) (with_complete (m e) g)
    complete_moves e = record {
      asked = k.asked;
      told = k.told;
      begun = k.begun;
      complete = λ n. more_in f.complete g.complete e n (k.complete n);
      jumps = k.jumps;
      fault = k.fault;
      noted = k.noted;
    }

    pub jump_moves : (i : ℕ) → Together lo there (with_jump i f) (with_jump (m i) g)
    jump_moves i = record {
      asked = k.asked;
      told = k.told;
      begun = k.begun;
      complete = k.complete;
      jumps = ap (λ (xs : List ℕ). xs ++ m i ∷ []) k.jumps ∙ sym (map-append m f.jumps (i ∷ []));
      fault = k.fault;
      noted = k.noted;
    }

  -- a declaration that its name declares: the name with the entity is noted
  pub declaration_moves : (lo there : ℕ) (f g : Facts) (d e : Declaration) → Together lo there f g → IsMoved m d e → IsTimed m lo there d e
      → Together lo there (with_declaration d f) (with_declaration e g)
  declaration_moves lo there f g d e k h t =
      subst (λ i. Together lo there (with_declaration d f) (with_occurrence i e.entity true (with_silent e g))) (sym h.name_at)
      (subst (λ i. Together lo there (with_declaration d f) (with_occurrence (m d.name_at) i true (with_silent e g))) (sym h.entity)
      (occurrence_moves lo there (with_silent d f) (with_silent e g) (silent_moves lo there f g k d e h t) d.name_at d.entity true))
