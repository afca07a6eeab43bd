-- Tokens and hide sets in an expansion under a renaming: which macro replaces a token, before and after.
use Rattle.std.proofs.Common.{◌≡◌, ℕ, ◌&&◌, ◌||◌, Bool, true, false, not, cond, List, [], ◌∷◌, ◌++◌, map, get_or, Option, Some, None, ◌⊎◌, refl, ap, sym, ◌∙◌, inl, inr}
use Rattle.std.proofs.lemmas.List.{map-append}
use Rattle.std.specs.Str.{bytes_eq}
use Rattle.std.proofs.lemmas.Bool.Decides.{same_from_decides}
use Rattle.std.proofs.lemmas.Option.{none-some}
use Rattle.std.proofs.lemmas.Slice.Eq.{bytes_eq-Decides}
use Rattle.cs_base.specs.Token.{Token}
use Rattle.macro_body.specs.declared.definitions.Definition.{Definition}
use Rattle.line_shape.specs.Signs.{is_name}
use Rattle.macro_body.specs.Hides.{Hidden, hides_name, in_both, lacking, with_names, hide_more}
use Rattle.macro_body.specs.Macro.{Table}
use Rattle.macro_expand.specs.Calls.{Call, call_from, arguments_of}
use Rattle.macro_body.specs.Substitution.{with_gap, moved_in, argument_for}
use Rattle.macro_expand.specs.Expansion.{macro_of}
use Rattle.macro_expand.specs.Renaming.{Renaming, spelled, renamed_hidden, renamed_macro, Occurring, occurs, Keeps}
use Rattle.expansion_laws.proofs.RenamedLemmas.{AllOccurHidden, cond_map}
use Rattle.macro_expand.specs.Laws.{AllDefined}
use Rattle.expansion_laws.proofs.GroundLemmas.{Ground, Good as GoodOn, GoodLists as GoodListsOn, GoodCall as GoodCallOn, Good-occur as on-Good-occur, Good-append as on-Good-append, Good-hide_more as on-Good-hide_more, Good-get_or as on-Good-get_or, Good-with_gap as on-Good-with_gap, Good-moved_in as on-Good-moved_in, Good-argument_for as on-Good-argument_for, good_call as on-good_call, good_arguments as on-good_arguments}

-- A renaming, with what it keeps.
pub record World : Type 0 where
  pub o : Occurring
  pub r : Renaming
  pub old : Table
  pub new : Table
  pub keeps : Keeps o r old new

-- what occurs in it, and the old macros
abbrev pub ground : World → Ground
ground w = record { o = w.o; old = w.old }

abbrev pub Good : World → List Hidden → Type 0
Good w hs = GoodOn (ground w) hs

abbrev pub GoodLists : World → List (List Hidden) → Type 0
GoodLists w lists = GoodListsOn (ground w) lists

abbrev pub GoodCall : World → Call → Type 0
GoodCall w call = GoodCallOn (ground w) call

pub Good-occur : (w : World) (hs : List Hidden) → Good w hs → AllOccurHidden w.o hs
Good-occur w = on-Good-occur (ground w)

pub Good-append : (w : World) (xs ys : List Hidden) → Good w xs → Good w ys → Good w (xs ++ ys)
Good-append w = on-Good-append (ground w)

pub Good-hide_more : (w : World) (names : List (List ℕ)) (hs : List Hidden) → AllDefined w.old names → Good w hs → Good w (map (hide_more names) hs)
Good-hide_more w = on-Good-hide_more (ground w)

pub Good-get_or : (w : World) (lists : List (List Hidden)) (i : ℕ) → GoodLists w lists → Good w (get_or lists i [])
Good-get_or w = on-Good-get_or (ground w)

pub Good-with_gap : (w : World) (gap : Bool) (hs : List Hidden) → Good w hs → Good w (with_gap gap hs)
Good-with_gap w = on-Good-with_gap (ground w)

pub Good-moved_in : (w : World) (hs : List Hidden) → Good w hs → Good w (map moved_in hs)
Good-moved_in w = on-Good-moved_in (ground w)

pub Good-argument_for : (w : World) (p : Token) (hs : List Hidden) → Good w hs → Good w (argument_for p hs)
Good-argument_for w = on-Good-argument_for (ground w)

pub good_call : (w : World) (ts : List Hidden) (commas : Option ℕ) (level : ℕ) → Good w ts → (call : Call) → call_from ts commas level ≡ Some call → GoodCall w call
good_call w = on-good_call (ground w)

pub good_arguments : (w : World) (m : Definition) (lists raw : List (List Hidden)) → GoodLists w lists → arguments_of m lists ≡ Some raw → GoodLists w raw
good_arguments w = on-good_arguments (ground w)

-- Hide sets.

same_name : (w : World) (x y : List ℕ) (m d : Definition) → w.old x ≡ Some m → w.old y ≡ Some d
    → bytes_eq (w.r.macro_name x) (w.r.macro_name y) ≡ bytes_eq x y
same_name w x y m d xm yd =
    same_from_decides {P = x ≡ y} (bytes_eq (w.r.macro_name x) (w.r.macro_name y)) (bytes_eq x y) (
      (λ e. w.keeps.apart x y m d xm yd ((bytes_eq-Decides (w.r.macro_name x) (w.r.macro_name y)).0 e)),
      (λ e. (bytes_eq-Decides (w.r.macro_name x) (w.r.macro_name y)).1 (ap w.r.macro_name e)),
    )
    (bytes_eq-Decides x y)

hides_name-renamed : (w : World) (hides : List (List ℕ)) (x : List ℕ) (m : Definition) → AllDefined w.old hides → w.old x ≡ Some m
    → hides_name (map w.r.macro_name hides) (w.r.macro_name x) ≡ hides_name hides x
hides_name-renamed w [] x m h xm = refl
hides_name-renamed w (y ∷ ys) x m h xm =
    ap (λ b. b || hides_name (map w.r.macro_name ys) (w.r.macro_name x)) (same_name w x y m h.0.0 xm h.0.1)
    ∙ ap (λ b. bytes_eq x y || b) (hides_name-renamed w ys x m h.1 xm)

pub in_both-renamed : (w : World) (xs ys : List (List ℕ)) → AllDefined w.old xs → AllDefined w.old ys
    → in_both (map w.r.macro_name xs) (map w.r.macro_name ys) ≡ map w.r.macro_name (in_both xs ys)
in_both-renamed w [] ys h k = refl
in_both-renamed w (x ∷ xs) ys h k =
    ap (λ b. cond b (w.r.macro_name x ∷ in_both (map w.r.macro_name xs) (map w.r.macro_name ys)) (in_both (map w.r.macro_name xs) (map w.r.macro_name ys))) (hides_name-renamed w ys x h.0.0 k h.0.1)
    ∙ ap (λ l. cond (hides_name ys x) (w.r.macro_name x ∷ l) l) (in_both-renamed w xs ys h.1 k)
    ∙ cond_map (map w.r.macro_name) (hides_name ys x) (x ∷ in_both xs ys) (in_both xs ys)

lacking-renamed : (w : World) (hides names : List (List ℕ)) → AllDefined w.old hides → AllDefined w.old names
    → lacking (map w.r.macro_name hides) (map w.r.macro_name names) ≡ map w.r.macro_name (lacking hides names)
lacking-renamed w hides [] h k = refl
lacking-renamed w hides (x ∷ xs) h k =
    ap (λ b. cond (not b) (w.r.macro_name x ∷ lacking (map w.r.macro_name hides) (map w.r.macro_name xs)) (lacking (map w.r.macro_name hides) (map w.r.macro_name xs))) (hides_name-renamed w hides x k.0.0 h k.0.1)
    ∙ ap (λ l. cond (not (hides_name hides x)) (w.r.macro_name x ∷ l) l) (lacking-renamed w hides xs h k.1)
    ∙ cond_map (map w.r.macro_name) (not (hides_name hides x)) (x ∷ lacking hides xs) (lacking hides xs)

pub with_names-renamed : (w : World) (hides names : List (List ℕ)) → AllDefined w.old hides → AllDefined w.old names
    → with_names (map w.r.macro_name hides) (map w.r.macro_name names) ≡ map w.r.macro_name (with_names hides names)
with_names-renamed w hides names h k =
    ap (λ l. map w.r.macro_name hides ++ l) (lacking-renamed w hides names h k) ∙ sym (map-append w.r.macro_name hides (lacking hides names))

-- Which macro replaces a token.

-- a token that is replaced: it is a name, is not hidden, and its macro is defined
pub replaced_by : (table : Table) (t : Hidden) (m : Definition) → macro_of table t ≡ Some m
    → (is_name t.tok ≡ true) × (hides_name t.hides t.tok.text ≡ false) × (table t.tok.text ≡ Some m)
replaced_by table t m e = parts (is_name t.tok) (hides_name t.hides t.tok.text) refl refl e
  where
    parts : (n h : Bool) → is_name t.tok ≡ n → hides_name t.hides t.tok.text ≡ h → cond (n && not h) (table t.tok.text) None ≡ Some m
        → (is_name t.tok ≡ true) × (hides_name t.hides t.tok.text ≡ false) × (table t.tok.text ≡ Some m)
    parts true false n h k = (n, h, k)
    parts true true n h k = absurd (none-some m k)
    parts false h2 n h k = absurd (none-some m k)

-- a name that is spelled like a new macro was that macro's name before
defined_before : (w : World) (t : Token) (m : Definition) → occurs w.o t ≡ true → is_name t ≡ true → w.new (spelled w.r t) ≡ Some m
    → (d : Definition) × (w.old t.text ≡ Some d) × (spelled w.r t ≡ w.r.macro_name t.text)
defined_before w t m here name e =
    let k = w.keeps.no_other (spelled w.r t) m e in
    let same : t.text ≡ k.0 = w.keeps.spelled_like t k.0 k.1 here name k.2 k.3 in
    (k.1, ap w.old same ∙ k.2, k.3 ∙ ap w.r.macro_name (sym same))

-- a token that is not replaced is not replaced anew
pub macro_none : (w : World) (t : Hidden) → occurs w.o t.tok ≡ true → AllDefined w.old t.hides → macro_of w.old t ≡ None
    → macro_of w.new (renamed_hidden w.r t) ≡ None
macro_none w t here hides e = parts (is_name t.tok) (w.new (spelled w.r t.tok)) refl refl e
  where
    cond_none : (b : Bool) → ◌≡◌ {A = Option Definition} (cond b None None) None
    cond_none true = refl
    cond_none false = refl

    hidden_there : (h : Bool) (d : Definition) → cond (not h) (Some d) None ≡ None → h ≡ true
    hidden_there true d k = refl
    hidden_there false d k = absurd (none-some d (sym k))

    parts : (n : Bool) (v : Option Definition) → is_name t.tok ≡ n → w.new (spelled w.r t.tok) ≡ v
        → cond (is_name t.tok && not (hides_name t.hides t.tok.text)) (w.old t.tok.text) None ≡ None
        → cond (is_name t.tok && not (hides_name (map w.r.macro_name t.hides) (spelled w.r t.tok))) (w.new (spelled w.r t.tok)) None ≡ None
    parts false v n is k = rw n refl
    parts true None n is k = rw is (cond_none (is_name t.tok && not (hides_name (map w.r.macro_name t.hides) (spelled w.r t.tok))))
    parts true (Some m) n is k =
        let d = defined_before w t.tok m here n is in
        let hides_it : hides_name t.hides t.tok.text ≡ true = hidden_there (hides_name t.hides t.tok.text) d.0
        (sym (ap (λ b. cond (b && not (hides_name t.hides t.tok.text)) (Some d.0) None) n) ∙ sym (ap (λ o. cond (is_name t.tok && not (hides_name t.hides t.tok.text)) o None) d.1) ∙ k) in
        let hides_new : hides_name (map w.r.macro_name t.hides) (spelled w.r t.tok) ≡ true =
        ap (hides_name (map w.r.macro_name t.hides)) d.2 ∙ hides_name-renamed w t.hides t.tok.text d.0 hides d.1 ∙ hides_it in
        ap (λ h. cond (is_name t.tok && not h) (w.new (spelled w.r t.tok)) None) hides_new
        ∙ ap (λ n2. cond (n2 && false) (w.new (spelled w.r t.tok)) None) n

-- a name that its macro replaces is replaced by the renamed macro, where it has the new spelling of its name
pub macro_same : (w : World) (t : Hidden) (m : Definition) → AllDefined w.old t.hides → macro_of w.old t ≡ Some m
    → spelled w.r t.tok ≡ w.r.macro_name t.tok.text → macro_of w.new (renamed_hidden w.r t) ≡ Some (renamed_macro w.r m)
macro_same w t m hides e spelled_so =
    let k = replaced_by w.old t m e in
    let shown : hides_name (map w.r.macro_name t.hides) (spelled w.r t.tok) ≡ false =
    ap (hides_name (map w.r.macro_name t.hides)) spelled_so ∙ hides_name-renamed w t.hides t.tok.text m hides k.2 ∙ k.1 in
    ap (λ h. cond (is_name t.tok && not h) (w.new (spelled w.r t.tok)) None) shown
    ∙ ap (λ n. cond (n && true) (w.new (spelled w.r t.tok)) None) k.0
    ∙ ap w.new spelled_so ∙ w.keeps.stands t.tok.text m k.2

-- a name of a macro is no name of one anew, or the name of the same
pub macro_either : (w : World) (t : Hidden) (m : Definition) → occurs w.o t.tok ≡ true → AllDefined w.old t.hides → macro_of w.old t ≡ Some m
    → (macro_of w.new (renamed_hidden w.r t) ≡ None) ⊎ (macro_of w.new (renamed_hidden w.r t) ≡ Some (renamed_macro w.r m))
macro_either w t m here hides e = by (w.new (spelled w.r t.tok)) refl
  where
    cond_none : (b : Bool) → ◌≡◌ {A = Option Definition} (cond b None None) None
    cond_none true = refl
    cond_none false = refl

    by : (v : Option Definition) → w.new (spelled w.r t.tok) ≡ v
        → (macro_of w.new (renamed_hidden w.r t) ≡ None) ⊎ (macro_of w.new (renamed_hidden w.r t) ≡ Some (renamed_macro w.r m))
    by None is = inl (ap (λ o. cond (is_name t.tok && not (hides_name (map w.r.macro_name t.hides) (spelled w.r t.tok))) o None) is
        ∙ cond_none (is_name t.tok && not (hides_name (map w.r.macro_name t.hides) (spelled w.r t.tok))))
    by (Some d) is = inr (macro_same w t m hides e (defined_before w t.tok d here (replaced_by w.old t m e).0 is).2)
