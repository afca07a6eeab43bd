-- Where names of macros are asked for last.
use Rattle.std.proofs.Common.{◌≡◌, ℕ, ◌+◌, ◌<◌, ◌≤◌, ◌&&◌, nat_eq, Bool, true, false, cond, List, Option, Some, None, length, slice_get, inl, inr, refl, sym, ap, ◌∙◌, subst, arith}
use Rattle.std.specs.Str.{bytes_eq}
use Rattle.std.specs.Cmp.Lexicographic.{bytes_decides}
use Rattle.std.proofs.lemmas.Bool.{cases_Bool, and_parts, eqb-true, eq-eqb}
use Rattle.std.proofs.lemmas.Option.{same_Some, slice_get_within}
use borrow.Author.Count.{below_more}
use Rattle.analysis.specs.Below.unit_steps.declared.events.Event.{Event}
use Rattle.unused_names.specs.LastUses.{is_subject, Asks, TellsLast, AreLast, MeansBehind}
use Rattle.unused_names.specs.Unneeded.{asks_meaning, gives_meaning, subject_of}

-- two names or files are the same exactly where the test says so
same_subject : (x y : ℕ × List ℕ) → is_subject x y ≡ true → x ≡ y
same_subject x y same =
    let both = and_parts (nat_eq x.0 y.0) (bytes_eq x.1 y.1) same in
    let first : x.0 ≡ y.0 = eqb-true x.0 y.0 both.0 in
    let second : x.1 ≡ y.1 = (bytes_decides x.1 y.1).0 both.1 in
    λ i. (first i, second i)

is_same_subject : (x y : ℕ × List ℕ) → x ≡ y → is_subject x y ≡ true
is_same_subject x y same =
    let first : nat_eq x.0 y.0 ≡ true = eq-eqb x.0 y.0 (ap (λ (z : ℕ × List ℕ). z.0) same) in
    let second : bytes_eq x.1 y.1 ≡ true = (bytes_decides x.1 y.1).1 (ap (λ (z : ℕ × List ℕ). z.1) same) in
    rw (first, second) refl

module _ (events : List Event) (k : ℕ) where
  -- event k does not ask for the spelling
  other_asks : (text : ℕ × List ℕ) (o : Option ℕ) → (Asks events text k → ⊥) → TellsLast events k text o → TellsLast events (k + 1) text o
  other_asks text None other h = below_more (λ j. Asks events text j → ⊥) k h other
  other_asks text (Some last) other h =
      (omega (arith, h.0), h.1, below_more (λ j. Asks events text j → j ≤ last) k h.2 (λ asks. absurd (other asks)))

  pub none_asks : (last : ℕ × List ℕ → Option ℕ) (e : Event) → slice_get events k ≡ Some e → asks_meaning e.kind ≡ false
      → AreLast events k last → AreLast events (k + 1) last
  none_asks last e at not h = λ text.
      other_asks text (last text)
      (λ (x : Asks events text k).
      let same : x.event ≡ e = same_Some x.event e (sym x.at ∙ at) in
      let asks : asks_meaning e.kind ≡ true = subst (λ (f : Event). asks_meaning f.kind ≡ true) same x.asks in
      cc)
      (h text)

  pub one_asks : (last now : ℕ × List ℕ → Option ℕ) (e : Event) (spelling : ℕ × List ℕ) → slice_get events k ≡ Some e → asks_meaning e.kind ≡ true
      → spelling ≡ subject_of e → ((text : ℕ × List ℕ) → now text ≡ cond (is_subject spelling text) (Some k) (last text)) → AreLast events k last
      → AreLast events (k + 1) now
  one_asks last now e spelling at passed spelled_so put' h = λ text.
      let put = λ (text : ℕ × List ℕ). subst (λ (s : ℕ × List ℕ). now text ≡ cond (is_subject s text) (Some k) (last text)) spelled_so (put' text) in
      elim (cases_Bool (is_subject (subject_of e) text)) [
        | inl same ↦
            let found : now text ≡ Some k = put text ∙ ap (λ (b : Bool). cond b (Some k) (last text)) same in
            let spelled : subject_of e ≡ text = same_subject (subject_of e) text same in
            let here : Asks events text k = record { event = e; at = at; asks = passed; named = spelled } in
            let told : TellsLast events (k + 1) text (Some k) = (omega arith, here, λ j below asks. omega (arith, below)) in
            subst (TellsLast events (k + 1) text) (sym found) told
        | inr apart ↦
            let found : now text ≡ last text = put text ∙ ap (λ (b : Bool). cond b (Some k) (last text)) apart in
            subst (TellsLast events (k + 1) text) (sym found)
            (other_asks text (last text)
            (λ (x : Asks events text k).
            let same : x.event ≡ e = same_Some x.event e (sym x.at ∙ at) in
            let named : subject_of e ≡ text = subst (λ (f : Event). subject_of f ≡ text) same x.named in
            let passed : is_subject (subject_of e) text ≡ true = is_same_subject (subject_of e) text named in
            cc)
            (h text))
      ]

pub no_events : (events : List Event) (last : ℕ × List ℕ → Option ℕ) → ((text : ℕ × List ℕ) → last text ≡ None) → AreLast events 0 last
no_events events last none = λ text.
    subst (TellsLast events 0 text) (sym (none text)) (λ j below asks. omega (arith, below))

module _ (events : List Event) (i end : ℕ) (e : Event) (at : slice_get events i ≡ Some e) where
  giving : (m : MeansBehind events i end) → m.means.giving ≡ e
  giving m = same_Some m.means.giving e (sym m.means.given ∙ at)

  pub gives_none : gives_meaning e.kind ≡ false → MeansBehind events i end → ⊥
  gives_none not m =
      let passed : gives_meaning e.kind ≡ true = subst (λ (f : Event). gives_meaning f.kind ≡ true) (giving m) m.means.gives in
      cc

  -- what is asked for behind is asked for
  asked : (m : MeansBehind events i end) → Asks events (subject_of e) m.event
  asked m = record {
    event = m.means.asking;
    at = m.means.asked;
    asks = m.means.asks;
    named = sym m.means.same ∙ ap subject_of (giving m);
  }

  within_events : (m : MeansBehind events i end) → m.event < length events
  within_events m = slice_get_within events m.event m.means.asking m.means.asked

  pub never_asked : TellsLast events (length events) (subject_of e) None → MeansBehind events i end → ⊥
  never_asked h m = h m.event (within_events m) (asked m)

  pub asked_before : (last : ℕ) → TellsLast events (length events) (subject_of e) (Some last) → last < end → MeansBehind events i end → ⊥
  asked_before last h less m =
      let most : m.event ≤ last = h.2 m.event (within_events m) (asked m) in
      omega (arith, less, most, m.behind)

  pub asked_behind : (last : ℕ) → gives_meaning e.kind ≡ true → TellsLast events (length events) (subject_of e) (Some last) → end ≤ last
      → MeansBehind events i end
  asked_behind last passed h more = record {
    event = last;
    behind = more;
    means = record {
      giving = e;
      given = at;
      gives = passed;
      asking = h.1.event;
      asked = h.1.at;
      asks = h.1.asks;
      same = sym h.1.named;
    };
  }
