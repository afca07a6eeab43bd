-- What is held of a unit says why an inclusion keeps its line.
use Rattle.std.proofs.Common.{◌≡◌, ℕ, ◌+◌, ◌-◌, ◌==◌, ◌&&◌, ◌||◌, not, Bool, true, false, cond, nat_le, nat_lt, List, [], ◌∷◌, ◌++◌, Option, Some, None, length, slice_get, refl, sym, ap, subst, ◌∙◌, inl, inr, arith}
use Rattle.std.specs.Prelude.{filter, map}
use Rattle.std.specs.List.{list_any}
use Rattle.std.specs.Option.{option_map, option_map_or, option_or}
use Rattle.std.proofs.lemmas.Bool.{cases_Bool}
use Rattle.std.proofs.lemmas.Bool.Decides.{nat_tests}
use Rattle.std.proofs.lemmas.List.{append-nil}
use Rattle.analysis.specs.Below.c99_tree.Tree.{Node}
use Rattle.analysis.specs.Below.scope_bind.Bound.{Bound}
use Rattle.analysis.specs.Below.source_files.Files.{Table}
use Rattle.analysis.specs.Below.unit_steps.declared.events.Event.{Event}
use Rattle.analysis.specs.Below.unit_steps.declared.events.Reached.{Reached}
use Rattle.analysis.specs.Below.unit_steps.Texts.{UnitTextValue}
use Rattle.analysis.specs.Analysis.{UnitAnalysis}
use Rattle.unused_names.specs.Inclusions.{end_of, tokens_before}
use Rattle.unused_names.specs.Unneeded.{gives_meaning, name_of}
use Rattle.trim_rules.specs.declared.mentions.Mention.{Mention}
use Rattle.trim_rules.specs.declared.unit_reasons.UnitReasons.{UnitReasons}
use Rattle.trim_rules.specs.Defining.{is_edge, is_whole, defines, first_defining}
use Rattle.trim_rules.specs.Held.{event_gives, held_giving, first_held_giving, first_held_defining, is_held_whole, is_within, why_behind, why_between, why_held, pragmas_of, AreReasonsOf}
use Rattle.trim_rules.specs.Inside.{is_outside, is_pragma, is_mentioned, gives_mentioned, is_giving, first_giving, reaches_pragma}
use Rattle.trim_rules.specs.Mentions.{told_at, is_told_outside, is_outside_of, mention_of, AreMentions}
use Rattle.trim_rules.specs.Numbers.{first_from}
use Rattle.trim_rules.specs.Staying.{Why, fragment, pragma, name_why, definition_why, why_in}
use Rattle.trim_rules.specs.Walks.{is_marked, AreEdges, AreDefining}
use Rattle.trim_rules.proofs.MentionLemmas.{mention-outside}
use Rattle.trim_rules.proofs.NumberLemmas.{first_from-same}

module _ (table : Table) (text : UnitTextValue) (k : ℕ) where
  abbrev end : ℕ
  end = end_of text.events k

  -- an event gives a name a meaning that is mentioned outside
  event-gives : (told : List ℕ → Option (Option Mention)) → AreMentions table text told → (i : ℕ) (e : Event) → slice_get text.events i ≡ Some e
      → event_gives told k end e ≡ gives_mentioned table text k e
  event-gives told are i e at = elim (cases_Bool (gives_meaning e.kind)) [
    | inl gives ↦
        let is : told (name_of e) ≡ Some (mention_of table text (name_of e)) = are.each i e at gives in
        let asked : is_told_outside k end (told (name_of e)) ≡ is_mentioned table text k (name_of e) =
        ap (is_told_outside k end) is ∙ mention-outside table text k (name_of e) in
        ap (λ (b : Bool). gives_meaning e.kind && b) asked
    | inr not ↦ rw not refl
  ]

  giving : (told : List ℕ → Option (Option Mention)) → AreMentions table text told → (i : ℕ) → held_giving told text.events k end i ≡ is_giving table text k i
  giving told are i = by (slice_get text.events i) refl
    where
      by : (o : Option Event) → slice_get text.events i ≡ o → option_map_or (event_gives told k end) o false ≡ option_map_or (gives_mentioned table text k) o false
      by None at = refl
      by (Some e) at = event-gives told are i e at

  pub first-giving : (told : List ℕ → Option (Option Mention)) → AreMentions table text told
      → first_held_giving told text.events k end ≡ first_giving table text k
  first-giving told are = first_from-same (held_giving told text.events k end) (is_giving table text k) (k + 1) (end - (k + 1)) (giving told are)

  inside-same : (e : ℕ) → is_within k end e ≡ not (is_outside text.events k e)
  inside-same e = within-not e end
    where
      within-not : (e end : ℕ) → (nat_lt k e && nat_le e end) ≡ not (nat_le e k || nat_lt end e)
      within-not e end = grind (arith, nat_tests)

  pub pragma-within : (rs : List Reached)
      → list_any (is_within k end) (pragmas_of table rs) ≡ list_any (λ (r : Reached). not (is_outside text.events k r.events) && is_pragma table r) rs
  pragma-within [] = refl
  pragma-within (r ∷ rs) = elim (cases_Bool (is_pragma table r)) [
    | inl is ↦
        let rest = pragma-within rs in
        let here : is_within k end r.events ≡ (not (is_outside text.events k r.events) && true) = inside-same r.events ∙ and-true (not (is_outside text.events k r.events)) in
        rw is (ap (λ (b : Bool). b || list_any (is_within k end) (pragmas_of table rs)) here
        ∙ ap (λ (b : Bool). (not (is_outside text.events k r.events) && true) || b) rest)
    | inr differs ↦
        let none : (not (is_outside text.events k r.events) && false) ≡ false = and-false (not (is_outside text.events k r.events)) in
        rw differs (pragma-within rs ∙ sym (ap (λ (b : Bool). b || list_any (λ (r : Reached). not (is_outside text.events k r.events) && is_pragma table r) rs) none))
  ]
    where
      and-true : (a : Bool) → a ≡ (a && true)
      and-true true = refl
      and-true false = refl

      and-false : (a : Bool) → (a && false) ≡ false
      and-false true = refl
      and-false false = refl

whole-same : (marks : List Bool) (edge : ℕ → Bool) (from to : ℕ) → ((k : ℕ) → is_marked marks k ≡ edge k)
    → is_held_whole marks from to ≡ ((from == to) || (edge from && edge to))
whole-same marks edge from to same =
    ap (λ (b : Bool). (from == to) || (b && is_marked marks to)) (same from)
    ∙ ap (λ (b : Bool). (from == to) || (edge from && b)) (same to)

-- three answers, each by what is asked
answers-same : (w w' : Bool) (g g' d d' : Option Why) (p p' : Bool) → w ≡ w' → g ≡ g' → d ≡ d' → p ≡ p'
    → cond (not w) (Some fragment) (option_or g (option_or d (cond p (Some pragma) None)))
    ≡ cond (not w') (Some fragment) (option_or g' (option_or d' (cond p' (Some pragma) None)))
answers-same w w' g g' d d' p p' a b c e = rw (a, b, c, e) refl

pub held-why : (table : Table) (u : UnitAnalysis) (r : UnitReasons) (k : ℕ) → AreReasonsOf table u r → why_held r k ≡ why_in table u k
held-why table u r k are =
    let text = u.text in
    let from = tokens_before text k in
    let end = end_of text.events k in
    let to = tokens_before text end in
    let whole : is_held_whole r.edges.items from to ≡ is_whole u k = whole-same r.edges.items (is_edge u.tree.under (length text.toks)) from to are.edges.each in
    let names : first_held_giving (told_at r.mentions.spans) text.events k end ≡ first_giving table text k = first-giving table text k (told_at r.mentions.spans) are.mentions in
    let defined : first_held_defining r.defining.items from to ≡ first_defining u k =
    first_from-same (is_marked r.defining.items) (defines u) from (to - from) are.defining.each in
    let pragmas : list_any (is_within k end) r.pragmas.items ≡ reaches_pragma table text k =
    ap (list_any (is_within k end)) are.pragmas ∙ pragma-within table text k text.reached in
    ap (λ (t : UnitTextValue). why_between r k (end_of t.events k) (tokens_before t k) (tokens_before t (end_of t.events k))) are.text
    ∙ ap (λ (t : UnitTextValue).
    cond (not (is_held_whole r.edges.items from to)) (Some fragment)
    (option_or (option_map (name_why t.events) (first_held_giving (told_at r.mentions.spans) t.events k end))
    (option_or (option_map (definition_why t.toks) (first_held_defining r.defining.items from to))
    (cond (list_any (is_within k end) r.pragmas.items) (Some pragma) None)))) are.text
    ∙ answers-same (is_held_whole r.edges.items from to) (is_whole u k)
    (option_map (name_why text.events) (first_held_giving (told_at r.mentions.spans) text.events k end)) (option_map (name_why text.events) (first_giving table text k))
    (option_map (definition_why text.toks) (first_held_defining r.defining.items from to)) (option_map (definition_why text.toks) (first_defining u k))
    (list_any (is_within k end) r.pragmas.items) (reaches_pragma table text k)
    whole (ap (option_map (name_why text.events)) names) (ap (option_map (definition_why text.toks)) defined) pragmas

-- ---- what is told of a unit

pub reasons-of : (table : Table) (u : UnitAnalysis) (r : UnitReasons) (text : UnitTextValue) (tree : Node) (bound : Bound) → text ≡ u.text → tree ≡ u.tree → bound ≡ u.bound
    → r.text.now ≡ text → r.count ≡ length text.toks → AreEdges tree.under r.count r.edges.items
    → AreDefining tree.under bound.names bound.functions r.count r.defining.items → r.pragmas.items ≡ pragmas_of table text.reached
    → AreMentions table text (told_at r.mentions.spans) → AreReasonsOf table u r
reasons-of table u r text tree bound texts trees bounds own count edges defining pragmas mentions =
    let many : r.count ≡ length u.text.toks = count ∙ ap (λ (t : UnitTextValue). length t.toks) texts in
    record {
      text = own ∙ texts;
      count = many;
      edges = subst (λ (n : ℕ). AreEdges u.tree.under n r.edges.items) many (subst (λ (t : Node). AreEdges t.under r.count r.edges.items) trees edges);
      defining =
          subst (λ (n : ℕ). AreDefining u.tree.under u.bound.names u.bound.functions n r.defining.items) many
          (subst (λ (b : Bound). AreDefining u.tree.under b.names b.functions r.count r.defining.items) bounds
          (subst (λ (t : Node). AreDefining t.under bound.names bound.functions r.count r.defining.items) trees defining));
      pragmas = pragmas ∙ ap (λ (t : UnitTextValue). pragmas_of table t.reached) texts;
      mentions = subst (λ (t : UnitTextValue). AreMentions table t (told_at r.mentions.spans)) texts mentions;
    }

-- ---- the pragmas of a unit

pragmas-last : (table : Table) (xs : List Reached) (r : Reached) → pragmas_of table (xs ++ r ∷ []) ≡ pragmas_of table xs ++ pragmas_of table (r ∷ [])
pragmas-last table [] r = refl
pragmas-last table (x ∷ xs) r = elim (cases_Bool (is_pragma table x)) [
  | inl is ↦ rw is (ap (λ (ns : List ℕ). x.events ∷ ns) (pragmas-last table xs r))
  | inr differs ↦ rw differs (pragmas-last table xs r)
]

pub pragmas-next : (table : Table) (xs ys : List Reached) (r : Reached) (old new : List ℕ) → ys ≡ xs ++ r ∷ [] → old ≡ pragmas_of table xs
    → new ≡ old ++ pragmas_of table (r ∷ []) → new ≡ pragmas_of table ys
pragmas-next table xs ys r old new more before put =
    put ∙ ap (λ (ns : List ℕ). ns ++ pragmas_of table (r ∷ [])) before ∙ sym (ap (pragmas_of table) more ∙ pragmas-last table xs r)

pub pragma-other : (table : Table) (r : Reached) (old : List ℕ) → is_pragma table r ≡ false → old ≡ old ++ pragmas_of table (r ∷ [])
pragma-other table r old differs = rw differs (sym (append-nil old))

pub pragma-one : (table : Table) (r : Reached) (old new : List ℕ) → is_pragma table r ≡ true → new ≡ old ++ r.events ∷ [] → new ≡ old ++ pragmas_of table (r ∷ [])
pragma-one table r old new is put = rw is put

-- ---- why an inclusion keeps its line, step by step

pub why-fragment : (w : Bool) (o : Option Why) → w ≡ false → Some fragment ≡ cond (not w) (Some fragment) o
why-fragment true o e = absurd (cc)
why-fragment false o e = refl

pub why-first : {X : Type 0} (w : Bool) (f : X → Why) (o : Option X) (x : X) (y : Why) (p : Option Why) → w ≡ true → o ≡ Some x → y ≡ f x
    → Some y ≡ cond (not w) (Some fragment) (option_or (option_map f o) p)
why-first w f o x y p whole is same =
    let there : option_or (option_map f o) p ≡ Some y = ap (λ (q : _). option_or (option_map f q) p) is ∙ ap (λ (z : Why). Some z) (sym same) in
    sym (ap (λ (b : Bool). cond (not b) (Some fragment) (option_or (option_map f o) p)) whole ∙ there)

pub why-other : {X : Type 0} (w : Bool) (f : X → Why) (o : Option X) (p q : Option Why) → w ≡ true → o ≡ None → q ≡ p
    → q ≡ cond (not w) (Some fragment) (option_or (option_map f o) p)
why-other w f o p q whole none same =
    same ∙ sym (ap (λ (b : Bool). cond (not b) (Some fragment) (option_or (option_map f o) p)) whole ∙ ap (λ (r : _). option_or (option_map f r) p) none)
