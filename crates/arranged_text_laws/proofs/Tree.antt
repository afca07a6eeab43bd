-- The parts of a file that the cut of its lists leaves whole, by the tokens with which they begin and end.
use Rattle.std.proofs.Common.{◌≡◌, ℕ, zero, suc, ◌+◌, ◌-◌, ◌<◌, ◌≤◌, Bool, true, false, not, ◌||◌, List, take, drop, codes, Option, None, refl, sym, ap, subst, ◌∙◌, arith}
use Rattle.std.specs.Prelude.{unwrap_or}
use Rattle.std.specs.List.{list_any}
use Rattle.std.specs.Option.{option_map_or}
use Rattle.std.specs.Str.{bytes_eq}
use Rattle.std.proofs.lemmas.Bool.{and_parts}
use Rattle.std.proofs.lemmas.Slice.Eq.{bytes_eq-Decides}
use Rattle.cs_base.specs.Token.{Token}
use Rattle.lexer.specs.Tokens.{tokens_of, firsts_of, open_comment_of}
use Rattle.line_shape.specs.Signs.{is_punctuator, is_open, is_comma, is_close}
use Rattle.list_cuts.specs.Cuts.{Cut, done, keep, list, Items, ended, item, count_of, span_of, extent_of}
use Rattle.list_cuts.specs.Spans.{end_of}
use Rattle.arranged_text_laws.specs.Labels.{IsLed}
use Rattle.arranged_text_laws.specs.Runs.{begins_directive, text_behind}
use Rattle.arranged_text_laws.specs.FileItems.{placed}
use Rattle.arranged_text_laws.specs.Lists.{passes, may_begin, may_end, AreItems, close_of, ListMoves}
use Rattle.arranged_text_laws.proofs.Formed.{IsKept, Formed, FormedItems, FirstIsLed, spans_at, Each, EachIn}
use Rattle.arranged_text_laws.proofs.Widened.{span_some}
use Rattle.arranged_text_laws.proofs.WeighedCut.{same, widens_same}
use Rattle.arranged_text_laws.proofs.GoodTokens.{Good, good, passed, list_closed}

-- a comma or `)`
abbrev pub ends_item : Token → Bool
ends_item t = is_comma t || is_close t

-- `(` or a comma
abbrev pub begins_item : Token → Bool
begins_item t = is_open t || is_comma t

-- a part may end before token j
abbrev pub Ends : List Token → ℕ → Type 0
Ends toks j = (passes may_end toks (j - 1) ≡ true) × (passes ends_item toks j ≡ true)

-- an item may begin with token l
pub record Leads (file : ℕ) (bytes : List ℕ) (l : ℕ) : Type 0 where
  pub some : 0 < l
  pub before : Good file bytes (l - 1)
  pub at : Good file bytes l
  pub sign : passes begins_item (tokens_of file bytes) (l - 1) ≡ true

abbrev pub AllGood : ℕ → List ℕ → ℕ → ℕ → Type 0
AllGood file bytes i j = (k : ℕ) → i ≤ k → k < j → Good file bytes k

abbrev pub GapOf : ℕ → List ℕ → ℕ → ℕ → Items → Type 0
GapOf file bytes k gap ended = gap ≡ 0
GapOf file bytes k gap (item n c further more) = (0 < gap) × (passes ends_item (tokens_of file bytes) k ≡ true) × Leads file bytes (k + gap)

abbrev mutual
  -- the parts of a cut from token i on to token j
  pub Tree : ℕ → List ℕ → ℕ → Cut → ℕ → Type 0
  Tree file bytes i done j = (i ≤ j) × AllGood file bytes i j × Ends (tokens_of file bytes) j
  Tree file bytes i (keep k c) j = Leads file bytes (i + k) × Tree file bytes (i + k) c j
  Tree file bytes i (list is c) j =
      IsLed c × (passes ends_item (tokens_of file bytes) (i + span_of is) ≡ true) × TreeItems file bytes i is × Tree file bytes (i + span_of is) c j

  pub TreeItems : ℕ → List ℕ → ℕ → Items → Type 0
  TreeItems file bytes i ended = Unit {0}
  TreeItems file bytes i (item n c gap more) =
      (passes may_begin (tokens_of file bytes) i ≡ true) × IsLed c × Good file bytes i × Good file bytes (i + n - 1) × Tree file bytes i c (i + n) × GapOf file bytes (i + n) gap more
      × TreeItems file bytes (i + (n + gap)) more

-- ---- signs

text_of_open : (t : Token) → is_open t ≡ true → t.text ≡ codes "("
unfolding is_open
text_of_open t h = (bytes_eq-Decides t.text (codes "(")).0 (and_parts (is_punctuator t.kind) (bytes_eq t.text (codes "(")) h).1

text_of_comma : (t : Token) → is_comma t ≡ true → t.text ≡ codes ","
unfolding is_comma
text_of_comma t h = (bytes_eq-Decides t.text (codes ",")).0 (and_parts (is_punctuator t.kind) (bytes_eq t.text (codes ",")) h).1

not_both : (toks : List Token) (k : ℕ) → passes is_open toks k ≡ true → passes is_comma toks k ≡ true → ⊥
not_both toks k opens comma =
    let a = passed is_open toks k opens in
    let b = passed is_comma toks k comma in
    let one : a.0 ≡ b.0 = ap (λ (o : Option Token). unwrap_or o a.0) (sym a.1 ∙ b.1) in
    let same : codes "(" ≡ codes "," = sym (text_of_open a.0 a.2) ∙ ap (λ (t : Token). t.text) one ∙ text_of_comma b.0 b.2 in
    let nost : true ≡ false = ap (bytes_eq (codes "(")) same in
    absurd cc

not_open : (toks : List Token) (k : ℕ) → passes is_open toks k ≡ true → passes may_end toks k ≡ true → ⊥
not_open toks k opens last =
    let a = passed is_open toks k opens in
    let b = passed may_end toks k last in
    let one : a.0 ≡ b.0 = ap (λ (o : Option Token). unwrap_or o a.0) (sym a.1 ∙ b.1) in
    let is : is_open b.0 ≡ true = ap is_open (sym one) ∙ a.2 in
    may_end_open b.0 b.2 is
  where
    may_end_open : (t : Token) → may_end t ≡ true → is_open t ≡ true → ⊥
    may_end_open t last is = let parts = and_parts _ (not (is_open t)) last in let nost : false ≡ true = rw is at parts.1 in absurd cc

passes_more : (test other : Token → Bool) (toks : List Token) (k : ℕ) → ((t : Token) → test t ≡ true → other t ≡ true) → passes test toks k ≡ true → passes other toks k ≡ true
passes_more test other toks k h p =
    let a = passed test toks k p in
    ap (λ (o : Option Token). option_map_or other o false) a.1 ∙ h a.0 a.2

pub close_ends : (toks : List Token) (k : ℕ) → passes is_close toks k ≡ true → passes ends_item toks k ≡ true
close_ends toks k h = passes_more is_close ends_item toks k (λ t is. or_right (is_comma t) (is_close t) is) h
  where
    or_right : (a b : Bool) → b ≡ true → (a || b) ≡ true
    or_right true b h = refl
    or_right false b h = h

comma_ends : (toks : List Token) (k : ℕ) → passes is_comma toks k ≡ true → passes ends_item toks k ≡ true
comma_ends toks k h = passes_more is_comma ends_item toks k (λ t is. rw is refl) h

comma_begins : (toks : List Token) (k : ℕ) → passes is_comma toks k ≡ true → passes begins_item toks k ≡ true
comma_begins toks k h = passes_more is_comma begins_item toks k (λ t is. or_right (is_open t) (is_comma t) is) h
  where
    or_right : (a b : Bool) → b ≡ true → (a || b) ≡ true
    or_right true b h = refl
    or_right false b h = h

open_begins : (toks : List Token) (k : ℕ) → passes is_open toks k ≡ true → passes begins_item toks k ≡ true
open_begins toks k h = passes_more is_open begins_item toks k (λ t is. rw is refl) h

-- ---- spans

pub ends_spans : (more : Items) (i n gap : ℕ) (c : Cut) → FormedItems (item n c gap more) → end_of (record { begin = i; end = i + n }) (spans_at (i + (n + gap)) more) ≡ i + span_of (item n c gap more)
unfolding end_of span_of
ends_spans ended i n gap c f = let none : gap ≡ 0 = f.4 in omega (arith, none)
ends_spans (item n2 c2 gap2 more) i n gap c f =
    let rest = ends_spans more (i + (n + gap)) n2 gap2 c2 f.5 in
    omega (arith, rest)

led_by : (file : ℕ) (bytes : List ℕ) (i : ℕ) (c : Cut) → Formed c → IsKept c → Each (ListMoves file bytes) i c
    → (passes is_open (tokens_of file bytes) (i - 1) ≡ true → ⊥) → IsLed c
unfolding count_of
led_by file bytes i done f kept e no_open = tt
led_by file bytes i (keep (suc k) c) f kept e no_open = omega arith
led_by file bytes i (keep zero done) f kept e no_open = absurd f.0
led_by file bytes i (keep zero (keep n c)) f kept e no_open = absurd f.0
led_by file bytes i (keep zero (list ended c)) f kept e no_open = let some = f.1.0 in absurd (omega (arith, some))
led_by file bytes i (keep zero (list (item n d gap more) c)) f kept e no_open =
    let m = e.0 in
    let same : i + 0 - 1 ≡ i - 1 = omega arith in
    absurd (no_open (subst (λ (k : ℕ). passes is_open (tokens_of file bytes) k ≡ true) same m.opens))
led_by file bytes i (list is c) f kept e no_open = absurd kept

-- the last token of a list
pub last_ends : (toks : List Token) (i : ℕ) (is : Items) → FormedItems is → 0 < count_of is → AreItems toks (spans_at i is) → passes may_end toks (i + span_of is - 1) ≡ true
unfolding count_of span_of
last_ends toks i ended f some h = absurd (omega (arith, some))
last_ends toks i (item n c gap ended) f some h =
    let none : gap ≡ 0 = f.4 in
    let same : i + n - 1 ≡ i + (n + (gap + 0)) - 1 = omega (arith, none) in
    subst (λ (k : ℕ). passes may_end toks k ≡ true) same h.0.last
last_ends toks i (item n c gap (item n2 c2 gap2 more)) f some h =
    let rest = last_ends toks (i + (n + gap)) (item n2 c2 gap2 more) f.5 (omega arith) h.3 in
    let same : i + (n + gap) + span_of (item n2 c2 gap2 more) - 1 ≡ i + (n + (gap + span_of (item n2 c2 gap2 more))) - 1 = omega arith in
    subst (λ (k : ℕ). passes may_end toks k ≡ true) same rest

-- ---- the parts of a cut

-- what is so of a list whose first item begins with token l
pub record ListAt (file : ℕ) (bytes : List ℕ) (l : ℕ) (is : Items) : Type 0 where
  pub some : 0 < l
  pub long : 0 < span_of is
  pub opens : passes is_open (tokens_of file bytes) (l - 1) ≡ true
  pub items : AreItems (tokens_of file bytes) (spans_at l is)
  pub closed : passes is_close (tokens_of file bytes) (l + span_of is) ≡ true
  pub here : (k : ℕ) → l - 1 ≤ k → k < l + span_of is → Good file bytes k
  pub text : text_behind true (take l (placed (tokens_of file bytes) (firsts_of bytes))) ≡ true
  pub plain : list_any begins_directive (take (span_of is) (drop l (placed (tokens_of file bytes) (firsts_of bytes)))) ≡ false

pub list_at : (file : ℕ) (bytes : List ℕ) → open_comment_of bytes ≡ None → (l : ℕ) (is : Items) → FormedItems is → 0 < count_of is → ListMoves file bytes (spans_at l is) → ListAt file bytes l is
unfolding count_of span_of
list_at file bytes none l ended f some m = absurd (omega (arith, some))
list_at file bytes none l (item n d gap more) f some m =
    let last = ends_spans more l n gap d f in
    let first = f.0 in
    record {
      some = m.behind;
      long = omega (arith, first);
      opens = m.opens;
      items = m.items;
      closed = subst (λ (k : ℕ). passes is_close (tokens_of file bytes) k ≡ true) last (list_closed (tokens_of file bytes) (spans_at (l + (n + gap)) more) (record { begin = l; end = l + n }) m.items);
      here = λ k low high. good file bytes none (spans_at l (item n d gap more)) m k low (omega (arith, high, last));
      text = m.text;
      plain =
          let room : close_of (spans_at l (item n d gap more)) - l ≡ n + (gap + span_of more) = omega (arith, last) in
          ap (λ (k : ℕ). list_any begins_directive (take k (drop l (placed (tokens_of file bytes) (firsts_of bytes))))) (sym room) ∙ m.plain;
    }

module _ (file : ℕ) (bytes : List ℕ) (none : open_comment_of bytes ≡ None) where
  mutual
    unfolding extent_of span_of count_of

    pub tree_of : (i j : ℕ) (c : Cut) → Formed c → IsKept c → Each (ListMoves file bytes) i c → i + extent_of c ≤ j
        → ((k : ℕ) → i + extent_of c ≤ k → k < j → Good file bytes k) → Ends (tokens_of file bytes) j → Tree file bytes i c j
    tree_of i j done f kept e within goods ends =
        (omega (arith, within), (λ k low high. goods k (omega (arith, low)) high), ends)
    tree_of i j (keep k done) f kept e within goods ends = absurd f.0
    tree_of i j (keep k (keep n c)) f kept e within goods ends = absurd f.0
    tree_of i j (keep k (list is c)) f kept e within goods ends =
        let toks = tokens_of file bytes in
        let l = i + k in
        let m = list_at file bytes none l is f.1.2 f.1.0 e.0 in
        let behind = m.some in
        let long = m.long in
        let lead : Leads file bytes l = record {
          some = behind;
          before = m.here (l - 1) (omega arith) (omega (arith, behind, long));
          at = m.here l (omega arith) (omega (arith, long));
          sign = open_begins toks (l - 1) m.opens;
        } in
        let ends_here = last_ends toks l is f.1.2 f.1.0 m.items in
        let led = led_by file bytes (l + span_of is) c f.1.4 f.1.3 e.2 (λ opens. not_open toks (l + span_of is - 1) opens ends_here) in
        let items = items_tree l is f.1.2 f.1.1 e.1 m.items (λ q low high. m.here q (omega (arith, low)) high) in
        let same : l + span_of is + extent_of c ≡ i + (k + (span_of is + extent_of c)) = omega arith in
        let rest = tree_of (l + span_of is) j c f.1.4 f.1.3 e.2 (omega (arith, within)) (λ q low high. goods q (omega (arith, low, same)) high) ends in
        (lead, (led, close_ends toks (l + span_of is) m.closed, items, rest))
    tree_of i j (list is c) f kept e within goods ends = absurd kept

    items_tree : (i : ℕ) (is : Items) → FormedItems is → FirstIsLed is → EachIn (ListMoves file bytes) i is → AreItems (tokens_of file bytes) (spans_at i is)
        → ((k : ℕ) → i ≤ k → k < i + span_of is → Good file bytes k) → TreeItems file bytes i is
    items_tree i ended f led e h goods = tt
    items_tree i (item n c gap ended) f led e h goods =
        let toks = tokens_of file bytes in
        let some = f.0 in
        let small = f.1 in (
          h.0.first,
          led,
          goods i (omega arith) (omega (arith, some)),
          goods (i + n - 1) (omega (arith, some)) (omega (arith, some)),
          tree_of i (i + n) c f.3 f.2 e.0 (omega (arith, small)) (λ k low high. goods k (omega (arith, low)) (omega (arith, high))) (h.0.last, close_ends toks (i + n) h.1),
          f.4,
          tt,
        )
    items_tree i (item n c gap (item n2 c2 gap2 more)) f led e h goods =
        let toks = tokens_of file bytes in
        let some = f.0 in
        let small = f.1 in
        let t = i + (n + gap) in
        let next : t ≡ i + n + 1 = h.2 in
        let later = f.5.0 in
        let one : t - 1 ≡ i + n = omega (arith, next) in
        let comma : passes is_comma toks (t - 1) ≡ true = subst (λ (k : ℕ). passes is_comma toks k ≡ true) (sym one) h.1 in
        let led2 = led_by file bytes t c2 f.5.3 f.5.2 e.1.0 (λ opens. not_both toks (t - 1) opens comma) in
        let over : i + n + gap ≡ t = omega arith in
        let lead : Leads file bytes t = record {
          some = omega (arith, next);
          before = goods (t - 1) (omega (arith, one)) (omega (arith, one, next, later));
          at = goods t (omega arith) (omega (arith, later));
          sign = comma_begins toks (t - 1) comma;
        } in (
          h.0.first,
          led,
          goods i (omega arith) (omega (arith, some)),
          goods (i + n - 1) (omega (arith, some)) (omega (arith, some)),
          tree_of i (i + n) c f.3 f.2 e.0 (omega (arith, small)) (λ k low high. goods k (omega (arith, low)) (omega (arith, high))) (h.0.last, comma_ends toks (i + n) h.1),
          (f.4, comma_ends toks (i + n) h.1, subst (λ (k : ℕ). Leads file bytes k) (sym over) lead),
          items_tree t (item n2 c2 gap2 more) f.5 led2 e.1 h.3 (λ k low high. goods k (omega (arith, low)) (omega (arith, high))),
        )

pub some_extent : (n : ℕ) (c : Cut) → Formed (keep n c) → 0 < extent_of (keep n c)
unfolding extent_of
some_extent n done f = absurd f.0
some_extent n (keep q c) f = absurd f.0
some_extent n (list is c) f = let s = span_some same same 0 (widens_same 0) is f.1.2 f.1.0 in omega (arith, s)

-- behind the last list of a cut
pub record LastEnds (file : ℕ) (bytes : List ℕ) (j : ℕ) : Type 0 where
  pub ends : Ends (tokens_of file bytes) j
  pub last : Good file bytes (j - 1)
  pub some : 0 < j

pub last_of_cut : (file : ℕ) (bytes : List ℕ) → open_comment_of bytes ≡ None → (i : ℕ) (c : Cut) → Formed c → IsKept c → Each (ListMoves file bytes) i c → 0 < extent_of c → LastEnds file bytes (i + extent_of c)
unfolding extent_of
last_of_cut file bytes none i done f kept e some = absurd (omega (arith, some))
last_of_cut file bytes none i (keep k done) f kept e some = absurd f.0
last_of_cut file bytes none i (keep k (keep n c)) f kept e some = absurd f.0
last_of_cut file bytes none i (keep k (list is done)) f kept e some =
    let toks = tokens_of file bytes in
    let l = i + k in
    let m = list_at file bytes none l is f.1.2 f.1.0 e.0 in
    let long = m.long in
    let there : l + span_of is ≡ i + (k + (span_of is + 0)) = omega arith in
    subst (LastEnds file bytes) there (record {
      ends = (last_ends toks l is f.1.2 f.1.0 m.items, close_ends toks (l + span_of is) m.closed);
      last = m.here (l + span_of is - 1) (omega (arith, long)) (omega (arith, long));
      some = omega (arith, long);
    })
last_of_cut file bytes none i (keep k (list is (keep n c))) f kept e some =
    let l = i + k in
    let more = some_extent n c f.1.4 in
    let same : l + span_of is + (n + extent_of c) ≡ i + (k + (span_of is + (n + extent_of c))) = omega arith in
    subst (LastEnds file bytes) same (last_of_cut file bytes none (l + span_of is) (keep n c) f.1.4 f.1.3 e.2 more)
last_of_cut file bytes none i (keep k (list is (list is2 c))) f kept e some = absurd f.1.3
last_of_cut file bytes none i (list is c) f kept e some = absurd kept
