-- What is known of the lines that are judged, as units are walked over.
use Rattle.std.proofs.Common.{◌≡◌, ℕ, zero, suc, ◌+◌, ◌<◌, ◌&&◌, ◌||◌, Bool, true, false, cond, List, [], ◌∷◌, ◌++◌, Option, Some, None, length, slice_get, refl, sym, ap, subst, ◌∙◌, inl, inr, arith, add-one}
use Rattle.std.specs.Prelude.{map}
use Rattle.std.specs.List.{list_any}
use Rattle.std.specs.Option.{option_map, option_map_or, option_and_then, option_or}
use Rattle.std.proofs.lemmas.Bool.{cases_Bool, and_parts}
use Rattle.std.proofs.lemmas.Option.{same_Some}
use Rattle.std.proofs.lemmas.List.{map-append}
use Rattle.cs_base.specs.declared.positions.Pos.{Pos}
use Rattle.analysis.specs.Below.include_tree.Walk.{ItemText}
use Rattle.analysis.specs.Below.source_files.Files.{Table}
use Rattle.analysis.specs.Below.source_files.KeptFiles.{kept_at}
use Rattle.analysis.specs.Below.unit_steps.declared.events.Event.{Event}
use Rattle.analysis.specs.Analysis.{UnitAnalysis, AnalysisValue}
use Rattle.unused_names.specs.Inclusions.{is_enter}
use Rattle.unused_names.specs.Lines.{is_position}
use Rattle.unused_names.proofs.LineLemmas.{position_same as position-same, position_itself as position-self}
use Rattle.trim_rules.specs.declared.judging.Judged as declared
use Rattle.trim_rules.specs.JudgedLines.{judged_in, is_open, is_undecided, flat, told_judgement, AreKnown}
use Rattle.trim_rules.specs.Judging.{Told, Learns, unless, AreStarted}
use Rattle.trim_rules.specs.Numbers.{first_answer, is_below}
use Rattle.trim_rules.specs.Staying.{Why, Judged, judged, computed, is_header_line, names_header, file_has_header, has_header, why_in, why_entered, event_why, unit_why, inclusion_why, why_of}
use Rattle.trim_rules.specs.Trimmed.{is_line}

-- ---- positions

position-apart : (p q : Pos) → is_position p q ≡ false → is_position q p ≡ false
position-apart p q h = elim (cases_Bool (is_position q p)) [
  | inl same ↦
      let is : q ≡ p = position-same q p same in
      let differs : is_position p q ≡ true = subst (λ (r : Pos). is_position p r ≡ true) (sym is) (position-self p) in
      absurd (cc)
  | inr apart ↦ apart
]

-- ---- what is learnt, step by step

pub learns-both : (f g : Pos → Option Why → Option Why) (old mid new : Told) → Learns f old mid → Learns g mid new → Learns (λ p w. g p (f p w)) old new
learns-both f g old mid new first later p = later p ∙ ap (option_map (g p)) (first p) ∙ mapped (old p)
  where
    mapped : (o : Option (Option Why)) → option_map (g p) (option_map (f p) o) ≡ option_map (λ w. g p (f p w)) o
    mapped None = refl
    mapped (Some w) = refl

pub learns-as : (f g : Pos → Option Why → Option Why) (old new : Told) → ((p : Pos) (w : Option Why) → f p w ≡ g p w) → Learns f old new → Learns g old new
learns-as f g old new same h p = h p ∙ mapped (old p)
  where
    mapped : (o : Option (Option Why)) → option_map (f p) o ≡ option_map (g p) o
    mapped None = refl
    mapped (Some w) = ap (λ (v : Option Why). Some v) (same p w)

-- nothing is learnt where it changes nothing of what is known
pub learns-none : (f : Pos → Option Why → Option Why) (old : Told) → ((p : Pos) (w : Option Why) → old p ≡ Some w → w ≡ f p w) → Learns f old old
learns-none f old same p = by (old p) refl
  where
    by : (o : Option (Option Why)) → old p ≡ o → o ≡ option_map (f p) o
    by None is = refl
    by (Some w) is = ap (λ (v : Option Why). Some v) (same p w is)

-- one line is known anew
pub learns-at : (f : Pos → Option Why → Option Why) (q : Pos) (v : Option Why) (old new : Told) → ((p : Pos) → new p ≡ cond (is_position q p) (Some v) (old p))
    → ((w : Option Why) → old q ≡ Some w → v ≡ f q w) → ((w : Option Why) × (old q ≡ Some w)) → ((p : Pos) (w : Option Why) → is_position p q ≡ false → w ≡ f p w)
    → Learns f old new
learns-at f q v old new put here had others p = elim (cases_Bool (is_position q p)) [
  | inl same ↦
      let is : p ≡ q = sym (position-same q p same) in
      let held : old p ≡ Some had.0 = ap old is ∙ had.1 in
      let told : new p ≡ Some v = put p ∙ ap (λ (b : Bool). cond b (Some v) (old p)) same in
      let made : v ≡ f p had.0 = here had.0 had.1 ∙ ap (λ (r : Pos). f r had.0) (sym is) in
      told ∙ ap (λ (x : Option Why). Some x) made ∙ sym (ap (option_map (f p)) held)
  | inr apart ↦
      let told : new p ≡ old p = put p ∙ ap (λ (b : Bool). cond b (Some v) (old p)) apart in
      told ∙ kept (old p) (position-apart q p apart)
]
  where
    kept : (o : Option (Option Why)) → is_position p q ≡ false → o ≡ option_map (f p) o
    kept None differs = refl
    kept (Some w) differs = ap (λ (x : Option Why). Some x) (others p w differs)

-- ---- lines that are begun with

pub started-none : (told : Told) → ((p : Pos) → told p ≡ None) → AreStarted [] told
started-none told empty p = empty p

pub any-last : (p : Pos) (xs : List Pos) (q : Pos) → is_line (xs ++ q ∷ []) p ≡ (is_position q p || is_line xs p)
any-last p [] q = refl
any-last p (x ∷ xs) q = ap (λ (b : Bool). is_position x p || b) (any-last p xs q) ∙ swap (is_position x p) (is_position q p) (is_line xs p)
  where
    swap : (a b c : Bool) → (a || (b || c)) ≡ (b || (a || c))
    swap true true c = refl
    swap true false c = refl
    swap false b c = refl

pub started-next : (xs ys : List Pos) (q : Pos) (old new : Told) → ys ≡ xs ++ q ∷ [] → AreStarted xs old
    → ((p : Pos) → new p ≡ cond (is_position q p) (Some (Some computed)) (old p)) → AreStarted ys new
started-next xs ys q old new more h put p =
    put p ∙ ap (cond (is_position q p) (Some (Some computed))) (h p) ∙ both (is_position q p) (is_line xs p)
    ∙ ap (λ (b : Bool). cond b (Some (Some computed)) None) (sym (ap (λ (zs : List Pos). is_line zs p) more ∙ any-last p xs q))
  where
    both : (a b : Bool) → cond a (Some (Some computed)) (cond b (Some (Some computed)) None) ≡ cond (a || b) (Some (Some computed)) None
    both true b = refl
    both false b = refl

-- ---- operands

unless-both : (a b : Bool) (w : Option Why) → unless b (unless a w) ≡ unless (a || b) w
unless-both true true w = refl
unless-both true false w = refl
unless-both false b w = refl

pub item-other : (i : ItemText) (old : Told) → names_header i ≡ false → Learns (λ p w. unless (is_header_line p i) w) old old
item-other i old differs = learns-none (λ p w. unless (is_header_line p i) w) old (λ p w is. sym (ap (λ (b : Bool). unless b w) (none p)))
  where
    and-false : (a : Bool) → (a && false) ≡ false
    and-false true = refl
    and-false false = refl

    none : (p : Pos) → is_header_line p i ≡ false
    none p = ap (λ (b : Bool). is_position p i.at && b) differs ∙ and-false (is_position p i.at)

pub item-unknown : (i : ItemText) (old : Told) → old i.at ≡ None → Learns (λ p w. unless (is_header_line p i) w) old old
item-unknown i old gone = learns-none (λ p w. unless (is_header_line p i) w) old (λ p w is. elim (cases_Bool (is_position p i.at)) [
  | inl same ↦
      let at : p ≡ i.at = position-same p i.at same in
      let differs : old p ≡ None = ap old at ∙ gone in
      absurd (cc)
  | inr apart ↦ rw apart refl
])

pub item-known : (i : ItemText) (old new : Told) → names_header i ≡ true → ((w : Option Why) × (old i.at ≡ Some w))
    → ((p : Pos) → new p ≡ cond (is_position i.at p) (Some None) (old p)) → Learns (λ p w. unless (is_header_line p i) w) old new
item-known i old new is had put =
    learns-at (λ p w. unless (is_header_line p i) w) i.at None old new put
    (λ w held.
    let here : is_header_line i.at i ≡ true = ap (λ (b : Bool). b && names_header i) (position-self i.at) ∙ is in
    sym (ap (λ (b : Bool). unless b w) here))
    had
    (λ p w apart. rw apart refl)

-- the items of a file
pub items-next : (xs ys : List ItemText) (i : ItemText) (old mid new : Told) → ys ≡ xs ++ i ∷ []
    → Learns (λ p w. unless (list_any (is_header_line p) xs) w) old mid → Learns (λ p w. unless (is_header_line p i) w) mid new
    → Learns (λ p w. unless (list_any (is_header_line p) ys) w) old new
items-next xs ys i old mid new more before here =
    learns-as (λ p w. unless (is_header_line p i) (unless (list_any (is_header_line p) xs) w)) (λ p w. unless (list_any (is_header_line p) ys) w) old new
    (λ p w.
    unless-both (list_any (is_header_line p) xs) (is_header_line p i) w
    ∙ ap (λ (b : Bool). unless b w) (sym (ap (list_any (is_header_line p)) more ∙ any-more (is_header_line p) xs i)))
    (learns-both (λ p w. unless (list_any (is_header_line p) xs) w) (λ p w. unless (is_header_line p i) w) old mid new before here)
  where
    any-more : (test : ItemText → Bool) (xs : List ItemText) (x : ItemText) → list_any test (xs ++ x ∷ []) ≡ (list_any test xs || test x)
    any-more test [] x = or-none (test x)
      where
        or-none : (a : Bool) → (a || false) ≡ a
        or-none true = refl
        or-none false = refl
    any-more test (y ∷ xs) x = ap (λ (b : Bool). test y || b) (any-more test xs x) ∙ or-three (test y) (list_any test xs) (test x)
      where
        or-three : (a b c : Bool) → (a || (b || c)) ≡ ((a || b) || c)
        or-three true b c = refl
        or-three false b c = refl

-- all files
abbrev pub header_at : Table → Pos → ℕ → Bool
header_at table p n = option_map_or (file_has_header p) (kept_at table n) false

pub files-next : (table : Table) (k : ℕ) (old mid new : Told) → Learns (λ p w. unless (is_below (header_at table p) k) w) old mid
    → Learns (λ p w. unless (header_at table p k) w) mid new → Learns (λ p w. unless (is_below (header_at table p) (k + 1)) w) old new
files-next table k old mid new before here =
    learns-as (λ p w. unless (header_at table p k) (unless (is_below (header_at table p) k) w)) (λ p w. unless (is_below (header_at table p) (k + 1)) w) old new
    (λ p w.
    unless-both (is_below (header_at table p) k) (header_at table p k) w
    ∙ ap (λ (n : ℕ). unless (is_below (header_at table p) n) w) (sym (add-one k)))
    (learns-both (λ p w. unless (is_below (header_at table p) k) w) (λ p w. unless (header_at table p k) w) old mid new before here)

-- ---- inclusions

or-both : (w a b : Option Why) → option_or (option_or w a) b ≡ option_or w (option_or a b)
or-both None a b = refl
or-both (Some x) a b = refl

or-none : (w : Option Why) → option_or w None ≡ w
or-none None = refl
or-none (Some x) = refl

undecided : (o : Option (Option Why)) → is_undecided o ≡ true → o ≡ Some None
undecided None h = absurd (cc)
undecided (Some None) h = refl
undecided (Some (Some w)) h = absurd (cc)

module _ (table : Table) (u : UnitAnalysis) where
  -- an event by which no line is open changes nothing
  closed : (told : Told) (p : Pos) (w : Option Why) (k : ℕ) (e : Event) → told p ≡ Some w → is_open told e ≡ false → w ≡ option_or w (why_entered table p u k e)
  closed told p (Some w) k e held differs = refl
  closed told p None k e held differs = elim (cases_Bool (is_position p e.at)) [
    | inl same ↦
        let at : p ≡ e.at = position-same p e.at same in
        let open_there : is_undecided (told e.at) ≡ true = ap is_undecided (ap told (sym at) ∙ held) in
        let not_entered : is_enter e.kind ≡ false = left_false (is_enter e.kind) (is_undecided (told e.at)) differs open_there in
        rw not_entered refl
    | inr apart ↦ rw apart (sym (not_there (is_enter e.kind)))
  ]
    where
      left_false : (a b : Bool) → (a && b) ≡ false → b ≡ true → a ≡ false
      left_false true b h is = sym is ∙ h
      left_false false b h is = refl

      not_there : (a : Bool) → cond (a && false) (why_in table u k) None ≡ None
      not_there true = refl
      not_there false = refl

  at-event : (p : Pos) (k : ℕ) (e : Event) → slice_get u.text.events k ≡ Some e → event_why table p u k ≡ why_entered table p u k e
  at-event p k e at = ap (option_and_then (why_entered table p u k)) at

  pub event-closed : (told : Told) (k : ℕ) (e : Event) → slice_get u.text.events k ≡ Some e → is_open told e ≡ false
      → Learns (λ p w. option_or w (event_why table p u k)) told told
  event-closed told k e at differs =
      learns-none (λ p w. option_or w (event_why table p u k)) told
      (λ p w held. closed told p w k e held differs ∙ ap (option_or w) (sym (at-event p k e at)))

  pub event-open : (old new : Told) (k : ℕ) (e : Event) (why : Option Why) → slice_get u.text.events k ≡ Some e → is_open old e ≡ true → why ≡ why_in table u k
      → ((p : Pos) → new p ≡ cond (is_position e.at p) (Some why) (old p)) → Learns (λ p w. option_or w (event_why table p u k)) old new
  event-open old new k e why at is told put =
      let parts = and_parts (is_enter e.kind) (is_undecided (old e.at)) is in
      let held : old e.at ≡ Some None = undecided (old e.at) parts.1 in
      let entered : why_entered table e.at u k e ≡ why_in table u k = rw (parts.0, position-self e.at) refl in
      learns-at (λ p w. option_or w (event_why table p u k)) e.at why old new put
      (λ w had.
      let none : w ≡ None = same_Some w None (sym had ∙ held) in
      told ∙ sym (at-event e.at k e at ∙ entered) ∙ sym (ap (λ (v : Option Why). option_or v (event_why table e.at u k)) none))
      (None, held)
      (λ p w apart.
      let differs : why_entered table p u k e ≡ None = rw apart (not_there (is_enter e.kind)) in
      sym (ap (option_or w) (at-event p k e at ∙ differs) ∙ or-none w))
    where
      not_there : (a : Bool) → cond (a && false) (why_in table u k) None ≡ None
      not_there true = refl
      not_there false = refl

  -- one event more
  pub events-next : (k : ℕ) (old mid new : Told) → Learns (λ p w. option_or w (first_answer (event_why table p u) k)) old mid
      → Learns (λ p w. option_or w (event_why table p u k)) mid new → Learns (λ p w. option_or w (first_answer (event_why table p u) (k + 1))) old new
  events-next k old mid new before here =
      learns-as (λ p w. option_or (option_or w (first_answer (event_why table p u) k)) (event_why table p u k))
      (λ p w. option_or w (first_answer (event_why table p u) (k + 1))) old new
      (λ p w.
      or-both w (first_answer (event_why table p u) k) (event_why table p u k)
      ∙ ap (λ (n : ℕ). option_or w (first_answer (event_why table p u) n)) (sym (add-one k)))
      (learns-both (λ p w. option_or w (first_answer (event_why table p u) k)) (λ p w. option_or w (event_why table p u k)) old mid new before here)

  pub events-begin : (old : Told) → Learns (λ p w. option_or w (first_answer (event_why table p u) 0)) old old
  events-begin old = learns-none (λ p w. option_or w (first_answer (event_why table p u) 0)) old (λ p w held. sym (or-none w))

  any-none : (test : Event → Bool) (es : List Event) (k : ℕ) (e : Event) → list_any test es ≡ false → slice_get es k ≡ Some e → test e ≡ false
  any-none test [] k e none at = absurd (cc)
  any-none test (x ∷ es) zero e none at =
      let same : x ≡ e = same_Some x e at in
      ap test (sym same) ∙ front (test x) (list_any test es) none
    where
      front : (a b : Bool) → (a || b) ≡ false → a ≡ false
      front true b h = h
      front false b h = refl
  any-none test (x ∷ es) (suc k) e none at = any-none test es k e (behind (test x) (list_any test es) none) at
    where
      behind : (a b : Bool) → (a || b) ≡ false → b ≡ false
      behind true b h = absurd (cc)
      behind false b h = h

  -- a unit by none of whose inclusions a line is open changes nothing
  pub unit-closed : (told : Told) → list_any (is_open told) u.text.events ≡ false → Learns (λ p w. option_or w (unit_why table p u)) told told
  unit-closed told none =
      learns-none (λ p w. option_or w (unit_why table p u)) told (λ p w held. all p w held (length u.text.events))
    where
      one : (p : Pos) (w : Option Why) → told p ≡ Some w → (k : ℕ) → w ≡ option_or w (event_why table p u k)
      one p w held k = by (slice_get u.text.events k) refl
        where
          by : (o : Option Event) → slice_get u.text.events k ≡ o → w ≡ option_or w (option_and_then (why_entered table p u k) o)
          by None at = sym (or-none w)
          by (Some e) at = closed told p w k e held (any-none (is_open told) u.text.events k e none at)

      all : (p : Pos) (w : Option Why) → told p ≡ Some w → (n : ℕ) → w ≡ option_or w (first_answer (event_why table p u) n)
      all p w held zero = sym (or-none w)
      all p w held (suc n) =
          one p w held n
          ∙ ap (λ (v : Option Why). option_or v (event_why table p u n)) (all p w held n)
          ∙ or-both w (first_answer (event_why table p u) n) (event_why table p u n)

-- all units
abbrev pub why_at : AnalysisValue → Pos → ℕ → Option Why
why_at a p n = option_and_then (unit_why a.table p) (slice_get a.units n)

pub units-begin : (a : AnalysisValue) (old : Told) → Learns (λ p w. option_or w (first_answer (why_at a p) 0)) old old
units-begin a old = learns-none (λ p w. option_or w (first_answer (why_at a p) 0)) old (λ p w held. sym (or-none w))

pub units-next : (a : AnalysisValue) (k : ℕ) (u : UnitAnalysis) (old mid new : Told) → slice_get a.units k ≡ Some u
    → Learns (λ p w. option_or w (first_answer (why_at a p) k)) old mid → Learns (λ p w. option_or w (unit_why a.table p u)) mid new
    → Learns (λ p w. option_or w (first_answer (why_at a p) (k + 1))) old new
units-next a k u old mid new at before here =
    learns-as (λ p w. option_or (option_or w (first_answer (why_at a p) k)) (unit_why a.table p u))
    (λ p w. option_or w (first_answer (why_at a p) (k + 1))) old new
    (λ p w.
    or-both w (first_answer (why_at a p) k) (unit_why a.table p u)
    ∙ ap (λ (o : Option UnitAnalysis). option_or w (option_or (first_answer (why_at a p) k) (option_and_then (unit_why a.table p) o))) (sym at)
    ∙ ap (λ (n : ℕ). option_or w (first_answer (why_at a p) n)) (sym (add-one k)))
    (learns-both (λ p w. option_or w (first_answer (why_at a p) k)) (λ p w. option_or w (unit_why a.table p u)) old mid new before here)

-- ---- all that is known

pub known-all : (a : AnalysisValue) (lines : List Pos) (first mid last : Told) → AreStarted lines first
    → Learns (λ p w. unless (has_header a.table p) w) first mid → Learns (λ p w. option_or w (inclusion_why a p)) mid last → AreKnown a lines last
unfolding why_of
known-all a lines first mid last begun headers whys p is =
    let one : first p ≡ Some (Some computed) = begun p ∙ ap (λ (b : Bool). cond b (Some (Some computed)) None) is in
    let two : mid p ≡ Some (unless (has_header a.table p) (Some computed)) = headers p ∙ ap (option_map (unless (has_header a.table p))) one in
    whys p ∙ ap (option_map (λ w. option_or w (inclusion_why a p))) two

pub judged-each : (a : AnalysisValue) (lines : List Pos) (told : Told) → AreKnown a lines told → map (told_judgement told) lines ≡ map (judged a) lines
judged-each a lines told known = each lines (λ p is. is)
  where
    of_one : Pos → Option Why → Judged
    of_one p w = record { at = p; why = w }

    one : (p : Pos) → is_line lines p ≡ true → told_judgement told p ≡ judged a p
    one p is = ap (λ (o : Option (Option Why)). of_one p (flat o)) (known p is)

    each : (xs : List Pos) → ((p : Pos) → is_line xs p ≡ true → is_line lines p ≡ true) → map (told_judgement told) xs ≡ map (judged a) xs
    each [] among = refl
    each (x ∷ xs) among =
        let here = one x (among x (ap (λ (b : Bool). b || is_line xs x) (position-self x))) in
        let rest = each xs (λ p is. among p (ap (λ (b : Bool). is_position x p || b) is ∙ or-true (is_position x p))) in
        ap (λ (j : Judged). j ∷ map (told_judgement told) xs) here ∙ ap (λ (js : List Judged). judged a x ∷ js) rest
      where
        or-true : (b : Bool) → (b || true) ≡ true
        or-true true = refl
        or-true false = refl

pub files-begin : (table : Table) (old : Told) → Learns (λ p w. unless (is_below (header_at table p) 0) w) old old
files-begin table old = learns-none (λ p w. unless (is_below (header_at table p) 0) w) old (λ p w held. refl)

pub items-begin : (old : Told) → Learns (λ p w. unless (list_any (is_header_line p) []) w) old old
items-begin old = learns-none (λ p w. unless (list_any (is_header_line p) []) w) old (λ p w held. refl)

pub told-cond : {X Y : Type 0} (f : X → Y) (b : Bool) (v : X) (o : Option X) → option_map f (cond b (Some v) o) ≡ cond b (Some (f v)) (option_map f o)
told-cond f true v o = refl
told-cond f false v o = refl

pub judged-next : (told : Told) (xs ys : List Pos) (p : Pos) (old new : List declared.Judged) (j : declared.Judged) → ys ≡ xs ++ p ∷ [] → new ≡ old ++ j ∷ []
    → judged_in j ≡ told_judgement told p → map judged_in old ≡ map (told_judgement told) xs → map judged_in new ≡ map (told_judgement told) ys
judged-next told xs ys p old new j more pushed is before =
    ap (map judged_in) pushed ∙ map-append judged_in old (j ∷ [])
    ∙ ap (λ (js : List Judged). js ++ judged_in j ∷ []) before
    ∙ ap (λ (k : Judged). map (told_judgement told) xs ++ k ∷ []) is
    ∙ sym (ap (map (told_judgement told)) more ∙ map-append (told_judgement told) xs (p ∷ []))
