-- The items of one list, one after another: each adds what it adds alone.
use Rattle.std.proofs.Common.{ℕ, ◌+◌, ◌≤◌, ◌≡◌, Bool, true, false, ◌&&◌, ◌||◌, not, if◌then◌else◌, ◌==◌, List, [], ◌∷◌, ◌++◌, Option, None, Some, refl, sym, ap, subst, ◌∙◌, arith, append_assoc}
use Rattle.std.specs.Prelude.{nat_lt, is_some}
use Rattle.std.specs.List.{All, list_all}
use Rattle.std.specs.Option.{option_map_or}
use Rattle.std.proofs.lemmas.Bool.{false≢true, and_parts, and_from, or_parts, lt-ltb}
use Rattle.std.proofs.lemmas.List.Elements.{All-append}
use Rattle.cs_base.specs.Token.{Token}
use Rattle.c99_tree.specs.Tree.{Forest, none, token, node, Node, node_of}
use Rattle.c99_tree.specs.declared.production.Label.{Label}
use Rattle.c99_tree.specs.declared.production.Production.TheVariants.{Add, Unary, SuRest, EnRest, MemRest, FunBody, Declarator}
use Rattle.c_types.specs.Trees.{is_node, is_at}
use Rattle.c_types.specs.declared.declarations.Fault.{Fault}
use Rattle.c_types.specs.Declarations.{Facts, is_in}
use Rattle.name_chains.specs.Entering.{scope_in}
use Rattle.name_chains.specs.Frames.{State, state}
use Rattle.scope_bind.specs.Named.{Declaration, Occurrence, Frame, Scope}
use Rattle.scope_bind.specs.Walk.{passed, walked}
use Rattle.tree_laws.specs.TreesOfTexts.{token_count, AreFrom, begins_with_token, has_form, have_forms}
use Rattle.reordered_tree_laws.specs.Beside.{IsOwnFrame}
use Rattle.reordered_tree_laws.specs.Adding.{IsAddedIn}
use Rattle.reordered_tree_laws.specs.Reordered.{nodes_in, is_among}
use Rattle.reordered_tree_laws.specs.Seen.{are_parts}
use Rattle.reordered_tree_laws.specs.Premises.{is_items, is_spaced, is_bracketed, asks_sign, stands_in, declares_type, has_outer_list, is_fit_child, is_fit, declared_name, is_item, is_unasked_in, are_two_apart, are_apart}
use Rattle.reordered_tree_laws.specs.Lasting.{tags_pass}
use Rattle.reordered_tree_laws.specs.Owned.{IsOwnName}
use Rattle.reordered_tree_laws.specs.Siblings.{frame_behind, read_alone, Gain, gained, noted, is_between, in_items, ItemGains, ItemsGain, AreFresh, AlonesClear, tags_follow, has_signs, IsFineList, ItemsStandBeside, WholesAreClear}
use Rattle.reordered_tree_laws.proofs.OnlyAdding.{parts_only_add}
use Rattle.reordered_tree_laws.proofs.Quiet.{noted_before}
use Rattle.reordered_tree_laws.proofs.ListForms.{between_from, between_before, between_out, items_behind, all_front, all_back, its_name, item_listed, separator_passed, item_walked, list_adds}
use Rattle.reordered_tree_laws.proofs.ListSteps.{from_here, Behind, behind_none, IsNext, IsStep, step_taken, IsClearStep, step_clear}
use Rattle.reordered_tree_laws.proofs.Answering.{its_name as its_name_is}

-- ---- Names of the items behind

two_names : (toks : List Token) (n : Node) (j : ℕ) → declared_name n ≡ Some j → (ns : List Node) → list_all (are_two_apart toks n) ns ≡ true
    → list_all (λ m. is_unasked_in toks m j) ns ≡ true
two_names toks n j named [] e = refl
two_names toks n j named (m ∷ ms) e =
    let p = and_parts (are_two_apart toks n m) (list_all (are_two_apart toks n) ms) e in
    let first : Bool = option_map_or (is_unasked_in toks m) (declared_name n) true in
    let second : Bool = option_map_or (is_unasked_in toks n) (declared_name m) true in
    and_from (is_unasked_in toks m j) (list_all (λ m. is_unasked_in toks m j) ms)
    (subst (λ (r : Option ℕ). option_map_or (is_unasked_in toks m) r true ≡ true) named ((and_parts first second p.0).0))
    (two_names toks n j named ms p.1)

either_way : {X : Type 0} (a b : Bool) → (a || b) ≡ true → (a ≡ true → X) → (b ≡ true → X) → X
either_way true b e f g = f refl
either_way false b e f g = g e

no_fault : (x y : Option Fault) → (is_some x ≡ true → is_some y ≡ true) → y ≡ None → x ≡ None
no_fault None y h e = refl
no_fault (Some v) y h e = absurd (false≢true (sym (ap (λ (r : Option Fault). is_some r) e) ∙ h refl))

module _ (toks : List Token) (barred : ℕ → Bool) (f0 : Facts) (lo : ℕ) (begins : 1 ≤ lo) (clean : f0.fault ≡ None)
    (known : All (IsOwnName (from_here toks barred f0 lo begins clean)) f0.declared) where
  abbrev Known : Facts → ℕ → ℕ → (ℕ → Bool) → Type 0
  Known f behind depth named = Behind toks barred f0 lo begins clean f behind depth named

  -- the rest of a list, of which perhaps an item has just been read
  record IsRest (read : Bool) (fr : Frame) (behind at : ℕ) (named : ℕ → Bool) (u : Forest) : Type 0 where
    low : lo ≤ behind
    high : behind ≤ at
    items : is_items fr.label ≡ true
    frame : IsOwnFrame (from_here toks barred f0 lo begins clean) (record fr { token = 0 })
    token : read ≡ false → is_between lo behind fr.token ≡ false
    from : AreFrom at u
    forms : have_forms u ≡ true
    spaced : is_spaced read u ≡ true
    each : list_all is_item (nodes_in u) ≡ true
    signs : list_all has_signs (nodes_in u) ≡ true
    apart : are_apart toks (nodes_in u) ≡ true
    tags : tags_pass barred fr.label fr.nth u ≡ true
    unasked : (j : ℕ) → named j ≡ true → list_all (λ n. is_unasked_in toks n j) (nodes_in u) ≡ true

  rest_token : (read : Bool) (fr : Frame) (behind at : ℕ) (named : ℕ → Bool) (i : ℕ) (rest : Forest) → IsRest read fr behind at named (token i rest)
      → IsRest false (record fr { nth = fr.nth + 1; token = i }) behind (at + 1) named rest
  rest_token read fr behind at named i rest x = record {
    low = x.low;
    high = omega (arith, x.high);
    items = x.items;
    frame = record { base = x.frame.base; given = x.frame.given; found = x.frame.found; token = x.frame.token; owner = x.frame.owner };
    token = λ e. between_out lo behind i (omega (arith, x.high, x.from.0));
    from = x.from.1;
    forms = x.forms;
    spaced = x.spaced;
    each = x.each;
    signs = x.signs;
    apart = x.apart;
    tags = (and_parts (tags_pass barred fr.label fr.nth (token i none)) (tags_pass barred fr.label (fr.nth + 1) rest) (spread x.tags)).1;
    unasked = x.unasked;
  }
    where
      spread : tags_pass barred fr.label fr.nth (token i rest) ≡ true
          → (tags_pass barred fr.label fr.nth (token i none) && tags_pass barred fr.label (fr.nth + 1) rest) ≡ true
      spread e =
          let here : Bool = not ((is_at fr.label SuRest 1 || is_at fr.label EnRest 1) && (fr.nth == 0)) || barred i in
          let p = and_parts here (tags_pass barred fr.label (fr.nth + 1) rest) e in
          and_from (here && true) (tags_pass barred fr.label (fr.nth + 1) rest) (and_from here true p.0 refl) p.1

  module _ (read : Bool) (fr : Frame) (behind at : ℕ) (named : ℕ → Bool) (m : Label) (first : ℕ) (under rest : Forest)
      (x : IsRest read fr behind at named (node m first under rest)) where
    abbrev n : Node
    n = node_of m first under

    node_next : IsNext toks barred f0 lo begins clean fr behind at named m first under
    node_next =
        let fs = and_parts (has_form m.production under) (have_forms under && have_forms rest) x.forms in
        let gs = and_parts (have_forms under) (have_forms rest) fs.1 in
        let ts = and_parts (tags_pass barred m 0 under) (tags_pass barred fr.label (fr.nth + 1) rest) x.tags in
        let ps = and_parts (not read) (is_spaced true rest) x.spaced in
        record {
          low = x.low;
          high = x.high;
          items = x.items;
          frame = x.frame;
          known = known;
          token = x.token (not_true read ps.0);
          from = (x.from.0, x.from.1, tt);
          forms = and_from (has_form m.production under) (have_forms under && true) fs.0 (and_from (have_forms under) true gs.0 refl);
          item = (and_parts (is_item n) (list_all is_item (nodes_in rest)) x.each).0;
          signs = (and_parts (has_signs n) (list_all has_signs (nodes_in rest)) x.signs).0;
          tags = and_from (tags_pass barred m 0 under) true ts.0 refl;
          unasked = λ j e. (and_parts (is_unasked_in toks n j) (list_all (λ k. is_unasked_in toks k j) (nodes_in rest)) (x.unasked j e)).0;
        }
      where
        not_true : (b : Bool) → not b ≡ true → b ≡ false
        not_true true e = sym e
        not_true false e = refl

    node_rest : IsRest true (record fr { nth = fr.nth + 1 }) (at + token_count under) (at + token_count under) (λ j. named j || its_name n j) rest
    node_rest =
        let fs = and_parts (has_form m.production under) (have_forms under && have_forms rest) x.forms in
        let gs = and_parts (have_forms under) (have_forms rest) fs.1 in
        let ts = and_parts (tags_pass barred m 0 under) (tags_pass barred fr.label (fr.nth + 1) rest) x.tags in
        let ps = and_parts (not read) (is_spaced true rest) x.spaced in
        let two = and_parts (list_all (are_two_apart toks n) (nodes_in rest)) (are_apart toks (nodes_in rest)) x.apart in
        record {
          low = omega (arith, x.low, x.high);
          high = omega arith;
          items = x.items;
          frame = record { base = x.frame.base; given = x.frame.given; found = x.frame.found; token = x.frame.token; owner = x.frame.owner };
          token = λ e. absurd (false≢true (sym e));
          from = x.from.2;
          forms = gs.1;
          spaced = ps.1;
          each = (and_parts (is_item n) (list_all is_item (nodes_in rest)) x.each).1;
          signs = (and_parts (has_signs n) (list_all has_signs (nodes_in rest)) x.signs).1;
          apart = two.1;
          tags = ts.1;
          unasked = λ j e. either_way (named j) (its_name n j) e
              (λ h. (and_parts (is_unasked_in toks n j) (list_all (λ k. is_unasked_in toks k j) (nodes_in rest)) (x.unasked j h)).1)
              (λ h. two_names toks n j (its_name_is n j h) (nodes_in rest) two.0);
        }

    -- the frame behind the item
    node_frame : (f : Facts) → walked toks (node m first under none) (state f fr) ≡ state (read_alone toks f fr m first under) (record fr { nth = fr.nth + 1 })
    node_frame f =
        let item : is_item n ≡ true = (and_parts (is_item n) (list_all is_item (nodes_in rest)) x.each).0 in
        ap (λ (y : Frame). state (read_alone toks f fr m first under) y)
        (item_walked toks m first under (state f fr) x.items ((item_listed fr.label m first under item).production))

  -- What is known behind the rest of a list, in a state at its end.
  record Rest (f : Facts) (fr : Frame) (at : ℕ) (u : Forest) (z : State) : Type 0 where
    gains : List Gain
    each : ItemsGain toks f0 z.facts fr at u gains
    declared : z.facts.declared ≡ gained gains ++ f.declared
    heard : z.facts.occurrences ≡ noted gains ++ f.occurrences
    jumps : z.facts.jumps ≡ f.jumps
    fault : z.facts.fault ≡ None
    begun : (k : ℕ) → in_items at u k ≡ false → is_in z.facts.begun k ≡ is_in f.begun k
    complete : (k : ℕ) → in_items at u k ≡ false → is_in z.facts.complete k ≡ is_in f.complete k
    frame : z.frame ≡ frame_behind u fr

  items_go : (u : Forest) (read : Bool) (f : Facts) (fr : Frame) (behind at : ℕ) (named : ℕ → Bool) → Known f behind fr.scope.depth named
      → IsRest read fr behind at named u → AlonesClear toks barred f0 fr u → Rest f fr at u (walked toks u (state f fr))
  unfolding walked
  items_go none read f fr behind at named b x clear = record {
    gains = [];
    each = tt;
    declared = refl;
    heard = refl;
    jumps = refl;
    fault = b.fault;
    begun = λ k h. refl;
    complete = λ k h. refl;
    frame = refl;
  }
  items_go (token i rest) read f fr behind at named b x clear =
      let fr' : Frame = record fr { nth = fr.nth + 1; token = i } in
      let r : Rest f fr' (at + 1) rest (walked toks rest (passed toks i (state f fr))) =
      subst (λ (t : State). Rest f fr' (at + 1) rest (walked toks rest t)) (sym (separator_passed toks i (state f fr) x.items))
      (items_go rest false f fr' behind (at + 1) named b (rest_token read fr behind at named i rest x) clear) in
      record {
        gains = r.gains;
        each = r.each;
        declared = r.declared;
        heard = r.heard;
        jumps = r.jumps;
        fault = r.fault;
        begun = r.begun;
        complete = r.complete;
        frame = r.frame;
      }
  items_go (node m first under rest) read f fr behind at named b x clear =
      let n : Node = node_of m first under in
      let hi : ℕ = at + token_count under in
      let fr' : Frame = record fr { nth = fr.nth + 1 } in
      let t : State = walked toks (node m first under none) (state f fr) in
      let alone : Facts = read_alone toks f0 fr m first under in
      let later : Facts = read_alone toks f fr m first under in
      let y : IsNext toks barred f0 lo begins clean fr behind at named m first under = node_next read fr behind at named m first under rest x in
      let s : IsStep toks barred f0 lo begins clean f fr behind at named m first under = step_taken toks barred f0 lo begins clean f fr behind at named m first under b y in
      let c : IsClearStep toks barred f0 lo begins clean f fr behind at named m first under b y s =
      step_clear toks barred f0 lo begins clean f fr behind at named m first under b y s clear.0.0 clear.0.1 in
      let r : Rest later fr' hi rest (walked toks rest t) =
      subst (λ (q : State). Rest later fr' hi rest (walked toks rest q)) (sym (node_frame read fr behind at named m first under rest x f))
      (items_go rest true later fr' hi hi (λ j. named j || its_name n j) c.behind_it (node_rest read fr behind at named m first under rest x) clear.1) in
      let g : Facts = (walked toks rest t).facts in
      let gain : Gain = record { declared = s.declared; occurrences = s.occurrences } in
      let mine : ItemGains toks f0 g fr at hi n gain =
      record {
        declared = s.alone_declared;
        noted = s.alone_noted;
        fault = clear.0.0;
        jumps = c.jumps;
        beside = c.beside;
        names = c.names;
        indices = c.indices;
        ends = c.ends;
        begun = c.begun;
        complete = c.complete;
        begun_behind = λ k h. r.begun k (items_behind rest hi k (between_before at hi k h)) ∙ s.begun k (between_out lo behind k (omega (arith, x.high, between_from at hi k h)));
        complete_behind = λ k h. r.complete k (items_behind rest hi k (between_before at hi k h))
            ∙ s.complete k (between_out lo behind k (omega (arith, x.high, between_from at hi k h)));
      } in
      record {
        gains = gain ∷ r.gains;
        each = (mine, r.each);
        declared = r.declared ∙ (ap (λ (l : List Declaration). gained r.gains ++ l) s.later_declared ∙ sym (append_assoc (gained r.gains) s.declared f.declared));
        heard = r.heard ∙ (ap (λ (l : List Occurrence). noted r.gains ++ l) s.later_noted ∙ sym (append_assoc (noted r.gains) s.occurrences f.occurrences));
        jumps = r.jumps ∙ (c.behind_it.jumps ∙ sym b.jumps);
        fault = r.fault;
        begun = λ k h. let o = or_parts (is_between at hi k) (in_items hi rest k) h in r.begun k o.1 ∙ c.begun_later k o.0;
        complete = λ k h. let o = or_parts (is_between at hi k) (in_items hi rest k) h in r.complete k o.1 ∙ c.complete_later k o.0;
        frame = r.frame;
      }

  -- Each item is clear by itself, where the rest of the list is clear.
  alones_go : (u : Forest) (read : Bool) (f : Facts) (fr : Frame) (behind at : ℕ) (named : ℕ → Bool) → Known f behind fr.scope.depth named
      → IsRest read fr behind at named u → AreFresh barred (walked toks u (state f fr)).facts.occurrences → (walked toks u (state f fr)).facts.fault ≡ None
      → AlonesClear toks barred f0 fr u
  unfolding walked
  alones_go none read f fr behind at named b x fresh sound = tt
  alones_go (token i rest) read f fr behind at named b x fresh sound =
      let fr' : Frame = record fr { nth = fr.nth + 1; token = i } in
      let same : passed toks i (state f fr) ≡ state f fr' = separator_passed toks i (state f fr) x.items in
      alones_go rest false f fr' behind (at + 1) named b (rest_token read fr behind at named i rest x)
      (subst (λ (t : State). AreFresh barred (walked toks rest t).facts.occurrences) same fresh)
      (subst (λ (t : State). (walked toks rest t).facts.fault ≡ None) same sound)
  alones_go (node m first under rest) read f fr behind at named b x fresh sound =
      let n : Node = node_of m first under in
      let hi : ℕ = at + token_count under in
      let fr' : Frame = record fr { nth = fr.nth + 1 } in
      let alone : Facts = read_alone toks f0 fr m first under in
      let later : Facts = read_alone toks f fr m first under in
      let same : walked toks (node m first under none) (state f fr) ≡ state later fr' = node_frame read fr behind at named m first under rest x f in
      let y : IsNext toks barred f0 lo begins clean fr behind at named m first under = node_next read fr behind at named m first under rest x in
      let s : IsStep toks barred f0 lo begins clean f fr behind at named m first under = step_taken toks barred f0 lo begins clean f fr behind at named m first under b y in
      let fresh' : AreFresh barred (walked toks rest (state later fr')).facts.occurrences =
      subst (λ (t : State). AreFresh barred (walked toks rest t).facts.occurrences) same fresh in
      let sound' : (walked toks rest (state later fr')).facts.fault ≡ None = subst (λ (t : State). (walked toks rest t).facts.fault ≡ None) same sound in
      let z : IsRest true fr' hi hi (λ j. named j || its_name n j) rest = node_rest read fr behind at named m first under rest x in
      let only : IsAddedIn hi (hi + token_count rest) later (walked toks rest (state later fr')).facts =
      parts_only_add toks rest false hi (state later fr') z.from z.forms (list_adds toks rest fr.label x.items z.each) in
      let F : Occurrence → Type 0 = λ (o : Occurrence). (o.declares && barred o.index) ≡ false in
      let fresh_later : All F later.occurrences = noted_before hi (hi + token_count rest) F later (walked toks rest (state later fr')).facts only fresh' in
      let both : All F (s.occurrences ++ f.occurrences) = subst (λ (l : List Occurrence). All F l) s.later_noted fresh_later in
      let before : All F f0.occurrences =
      all_back F b.heard f0.occurrences (subst (λ (l : List Occurrence). All F l) b.noted (all_back F s.occurrences f.occurrences both)) in
      let fresh_alone : AreFresh barred alone.occurrences =
      subst (λ (l : List Occurrence). All F l) (sym s.alone_noted)
      (All-append F s.occurrences f0.occurrences (all_front F s.occurrences f.occurrences both) before) in
      let sound_alone : alone.fault ≡ None =
      sym s.fault ∙ no_fault later.fault (walked toks rest (state later fr')).facts.fault only.fault sound' in
      let c : IsClearStep toks barred f0 lo begins clean f fr behind at named m first under b y s =
      step_clear toks barred f0 lo begins clean f fr behind at named m first under b y s sound_alone fresh_alone in
      ((sound_alone, fresh_alone), alones_go rest true later fr' hi hi (λ j. named j || its_name n j) c.behind_it z fresh' sound')

-- ---- A whole list

module _ (toks : List Token) (barred : ℕ → Bool) (u : Forest) (lo : ℕ) (s : State) (x : IsFineList toks barred u lo s) where
  whole : IsRest toks barred s.facts lo x.begins x.clean x.own.declared false s.frame lo lo (λ j. false) u
  whole = record {
    low = omega arith;
    high = omega arith;
    items = x.items;
    frame = record {
      base = x.own.frame.base;
      given = x.own.frame.given;
      found = x.own.frame.found;
      token = ap not (lt-ltb 0 lo (omega (arith, x.begins)));
      owner = x.own.frame.owner;
    };
    token = λ e. ap (λ c. c && nat_lt s.frame.token lo) x.own.frame.token;
    from = x.from;
    forms = x.forms;
    spaced = x.spaced;
    each = x.each;
    signs = x.signs;
    apart = x.apart;
    tags = x.tags;
    unasked = λ j e. absurd (false≢true e);
  }

pub items_stand_beside : ItemsStandBeside
items_stand_beside toks barred u lo s x clear =
    let r = items_go toks barred s.facts lo x.begins x.clean x.own.declared u false s.facts s.frame lo lo (λ j. false)
    (behind_none toks barred s.facts lo x.begins x.clean s.frame.scope.depth (λ j. false)) (whole toks barred u lo s x) clear in
    record {
      gains = r.gains;
      each = r.each;
      declared = r.declared;
      noted = r.heard;
      jumps = r.jumps;
      fault = r.fault;
      begun = r.begun;
      complete = r.complete;
      frame = r.frame;
    }

pub wholes_are_clear : WholesAreClear
wholes_are_clear toks barred u lo s x fresh sound =
    alones_go toks barred s.facts lo x.begins x.clean x.own.declared u false s.facts s.frame lo lo (λ j. false)
    (behind_none toks barred s.facts lo x.begins x.clean s.frame.scope.depth (λ j. false)) (whole toks barred u lo s x) fresh sound

-- ---- Forms of a tree give what is asked of signs

follow_more : (read : Bool) (f : Forest) → tags_follow read f ≡ true → tags_follow true f ≡ true
follow_more read none e = refl
follow_more read (token i rest) e = e
follow_more read (node m first under rest) e =
    let sign : Bool = is_node m SuRest || is_node m EnRest in
    let p = and_parts (read || not sign) (tags_follow false under && tags_follow read rest) e in
    let q = and_parts (tags_follow false under) (tags_follow read rest) p.1 in
    and_from (tags_follow false under) (tags_follow true rest) q.0 (follow_more read rest q.1)

sign_asked : (own a b : Bool) → (own || not (a || b)) ≡ true → (own || not b) ≡ true
sign_asked true a b e = refl
sign_asked false true b e = absurd (false≢true e)
sign_asked false false b e = e

module _ (lists : ℕ → Bool) where
  fit_follows : (f : Forest) (l : Label) (own : Bool) (k : ℕ) (scope : Scope) (keeps : Bool) → is_fit lists l own k scope keeps f ≡ true → tags_follow own f ≡ true
  fit_follows none l own k scope keeps e = refl
  fit_follows (token i rest) l own k scope keeps e =
      follow_more (not (is_items l)) rest (fit_follows rest l (not (is_items l)) (k + 1) scope keeps e)
  fit_follows (node m first under rest) l own k scope keeps e =
      let keeps' : Bool = if is_node m Declarator then has_outer_list lists false under else keeps in
      let inside : Bool = is_fit lists m false 0 (scope_in m.production m under scope) keeps under in
      let later : Bool = is_fit lists l own (k + 1) scope keeps' rest in
      let p = and_parts (is_fit_child lists l own k scope keeps m under) (inside && later) e in
      let q = and_parts inside later p.1 in
      let asked : Bool = own || not (asks_sign l k m) in
      let others : Bool = stands_in m.production scope.depth && ((not (is_node m FunBody) || keeps)
      && ((not (declares_type l m) || are_parts under) && ((not (is_at m MemRest 1) || begins_with_token under)
      && (not (is_among lists m under) || is_bracketed under)))) in
      let c = and_parts asked others p.0 in
      let sign : Bool = is_node m SuRest || is_node m EnRest in
      and_from (own || not sign) (tags_follow false under && tags_follow own rest)
      (sign_asked own (is_at l Unary 1 || (is_node l Add && not (k == 0))) sign c.0)
      (and_from (tags_follow false under) (tags_follow own rest)
      (fit_follows under m false 0 (scope_in m.production m under scope) keeps q.0) (fit_follows rest l own (k + 1) scope keeps' q.1))

  -- the items of a list whose tree has its forms
  pub fit_signs : (u : Forest) (l : Label) (own : Bool) (k : ℕ) (scope : Scope) (keeps : Bool) → is_fit lists l own k scope keeps u ≡ true
      → list_all has_signs (nodes_in u) ≡ true
  fit_signs none l own k scope keeps e = refl
  fit_signs (token i rest) l own k scope keeps e = fit_signs rest l (not (is_items l)) (k + 1) scope keeps e
  fit_signs (node m first under rest) l own k scope keeps e =
      let keeps' : Bool = if is_node m Declarator then has_outer_list lists false under else keeps in
      let inside : Bool = is_fit lists m false 0 (scope_in m.production m under scope) keeps under in
      let later : Bool = is_fit lists l own (k + 1) scope keeps' rest in
      let p = and_parts (is_fit_child lists l own k scope keeps m under) (inside && later) e in
      let q = and_parts inside later p.1 in
      and_from (tags_follow false under) (list_all has_signs (nodes_in rest))
      (fit_follows under m false 0 (scope_in m.production m under scope) keeps q.0) (fit_signs rest l own (k + 1) scope keeps' q.1)
