use Rattle.std.proofs.Common.{◌≡◌, ℕ, ◌+◌, ◌≤◌, List, [], ◌∷◌, ◌++◌, length, sym, ◌∙◌, ap, refl, arith, subst}
use Rattle.cs_base.specs.Token.{Token}
use Rattle.eclass_map.specs.declared.token_list.Added.{Added}
use Rattle.class_labels.specs.Chain.{Least}
use Rattle.class_labels.specs.Labels.{Labels, joined, joined_parts}
use Rattle.eclass_map.specs.Positions.{numbers, Begins}
use Rattle.class_labels.specs.Walk.{AtPlace, Forced}
use Rattle.eclass_map.specs.ClassTable.{Table, AreWhole, SameOrLinked, AreLinks, label, relabelled_in, weight_in, added_tokens, character_count, joined_in, parts_joined}
use Rattle.eclass_map.specs.Kept.{IsKept}
use Rattle.eclass_map.proofs.KeptFacts.{table_of}
use Rattle.class_labels.proofs.JoinFacts.{Walked, walked}
use Rattle.eclass_map.proofs.LinkedFacts.{JoinIn, ForcedIn, numbers_in, join_place, join_kept, join_least, with_labels, held_after, linked_held}
use Rattle.eclass_map.proofs.LinkLaws.{links_join}
use Rattle.eclass_map.proofs.PartLaws.{has_parts}
use Rattle.class_labels.proofs.WeightFacts.{weight-joined, weight-most}
use Rattle.class_labels.proofs.TickFacts.{relabelled-joined}
use Rattle.eclass_map.proofs.HistoryFacts.{joined_by}
use Rattle.eclass_map.proofs.class_table.Classes.join_near.Goals as goal

-- what a join is given, from what its caller says of the value
given : (v t : Table) (x y : Token) → v ≡ t → IsKept t → AreWhole v x.origins → AreWhole v y.origins → length x.origins ≡ length y.origins → JoinIn t x y
given v t x y e kept whole_x whole_y even =
    let P : Table → Type 0 = λ u. AreWhole u x.origins in
    let Q : Table → Type 0 = λ u. AreWhole u y.origins in
    record { kept = kept; whole_x = subst P e whole_x; whole_y = subst Q e whole_y; even = even }

abbrev after : Table → Token → Token → Labels
after t x y = joined 0 (numbers_in t x) (numbers_in t y) t.labels

walked_in : (t : Table) (x y : Token) → JoinIn t x y → Walked (Begins t.tokens) (ForcedIn t x y) 0 (numbers_in t x) (numbers_in t y) t.labels (after t x y)
walked_in t x y h = walked (Begins t.tokens) (ForcedIn t x y) (length t.places) 0 (numbers_in t x) (numbers_in t y) t.labels (join_place t x y h)

place_as : (t : Table) (tokens : List Added) (x y : Token) → tokens ≡ t.tokens → JoinIn t x y
    → AtPlace (Begins tokens) (Forced (numbers tokens x.origins) (numbers tokens y.origins) t.labels) (length t.labels.spots) 0 (numbers tokens x.origins) (numbers tokens y.origins) t.labels
place_as t tokens x y e h =
    let P : List Added → Type 0 = λ v. AtPlace (Begins v) (Forced (numbers v x.origins) (numbers v y.origins) t.labels) (length t.labels.spots) 0 (numbers v x.origins) (numbers v y.origins) t.labels in
    let Q : ℕ → Type 0 = λ v. AtPlace (Begins t.tokens) (ForcedIn t x y) v 0 (numbers_in t x) (numbers_in t y) t.labels in
    subst P (sym e) (subst Q h.kept.long (join_place t x y h))

labels_as : (t : Table) (tokens : List Added) (x y : Token) (u : Labels) → tokens ≡ t.tokens → u ≡ joined 0 (numbers tokens x.origins) (numbers tokens y.origins) t.labels → u ≡ after t x y
labels_as t tokens x y u e f = f ∙ ap (λ v. joined 0 (numbers v x.origins) (numbers v y.origins) t.labels) e

kept_after : (t : Table) (x y : Token) (u : Labels) → JoinIn t x y → u ≡ after t x y → IsKept (with_labels t u)
kept_after t x y u h e =
    let P : Labels → Type 0 = λ v. IsKept (with_labels t v) in
    subst P (sym e) (join_kept t x y (after t x y) h (walked_in t x y h))

same_after : (v t : Table) (x y : Token) (u : Labels) → v ≡ t → JoinIn t x y → u ≡ after t x y → Least (SameOrLinked v x y) (label (with_labels t u))
same_after v t x y u f h e =
    let P : Labels → Type 0 = λ w. Least (SameOrLinked t x y) (label (with_labels t w)) in
    let Q : Table → Type 0 = λ w. Least (SameOrLinked w x y) (label (with_labels t u)) in
    subst Q (sym f) (subst P (sym e) (join_least t x y (after t x y) h (walked_in t x y h)))

enough_after : (v t : Table) (x y : Token) (tokens : List Added) (u : Labels) (old new : ℕ) → v ≡ t → tokens ≡ t.tokens → JoinIn t x y → u ≡ after t x y → new ≡ old + joined_parts 0 (numbers tokens x.origins) (numbers tokens y.origins) t.labels
    → relabelled_in v (with_labels t u) + old ≤ new
enough_after v t x y tokens u old new f g h e ticks =
    let moves = relabelled-joined (Begins t.tokens) (ForcedIn t x y) (length t.places) 0 (numbers_in t x) (numbers_in t y) t.labels (join_place t x y h) in
    let same : relabelled_in v (with_labels t u) ≡ relabelled_in t (with_labels t (after t x y)) = ap (λ w. relabelled_in w (with_labels t u)) f ∙ ap (λ w. relabelled_in t (with_labels t w)) e in
    let counts = ap (λ w. joined_parts 0 (numbers w x.origins) (numbers w y.origins) t.labels) g in
    omega arith

bound_after : (v t : Table) (x y : Token) (tokens : List Added) (u : Labels) (old new : ℕ) → v ≡ t → tokens ≡ t.tokens → JoinIn t x y → u ≡ after t x y → new ≡ old + joined_parts 0 (numbers tokens x.origins) (numbers tokens y.origins) t.labels
    → new + weight_in v ≤ old + weight_in (with_labels t u)
bound_after v t x y tokens u old new f g h e ticks =
    let gains = weight-joined (Begins t.tokens) (ForcedIn t x y) (length t.places) 0 (numbers_in t x) (numbers_in t y) t.labels (join_place t x y h) in
    let before = ap (λ (w : Table). weight_in w) f in
    let later : weight_in (with_labels t u) ≡ weight_in (with_labels t (after t x y)) = ap (λ w. weight_in (with_labels t w)) e in
    let counts = ap (λ w. joined_parts 0 (numbers w x.origins) (numbers w y.origins) t.labels) g in
    omega arith

pub join_characters-requires-clause-place : goal.join_characters-requires-clause-place
join_characters-requires-clause-place g c =
    let t = table_of c.self.inside.tokens.items c.self.inside.places.list c.self.inside.labels in
    let x = c.args.x.now in
    let y = c.args.y.now in
    let even : length x.origins ≡ length y.origins = sym c.text_length-len.ensures.origins ∙ c.text_length-len.ensures.text ∙ ap length c.requires.equal ∙ sym c.text_length-also.ensures.text ∙ c.text_length-also.ensures.origins in
    let h = given c.args.self.now t x y (sym c.self.view_is) c.self.invariant c.requires.whole_x c.requires.whole_y even in
    place_as t c.deref.result.now x y c.deref.ensures.value h

pub invariant_of-self : goal.invariant_of-self
invariant_of-self g c =
    let t = table_of c.self.inside.tokens.items c.self.inside.places.list c.self.inside.labels in
    let x = c.args.x.now in
    let y = c.args.y.now in
    let even : length x.origins ≡ length y.origins = sym c.text_length-len.ensures.origins ∙ c.text_length-len.ensures.text ∙ ap length c.requires.equal ∙ sym c.text_length-also.ensures.text ∙ c.text_length-also.ensures.origins in
    let h = given c.args.self.now t x y (sym c.self.view_is) c.self.invariant c.requires.whole_x c.requires.whole_y even in
    let u = c.join_characters.new.labels in
    let is = labels_as t c.deref.result.now x y u c.deref.ensures.value c.join_characters.ensures.labels in
    kept_after t x y u h is

links_after : (v t : Table) (x y : Token) (u : Labels) → v ≡ t → JoinIn t x y → u ≡ after t x y → (links : List (Token × Token)) → AreLinks links v → AreLinks (links ++ (x, y) ∷ []) (with_labels t u)
links_after v t x y u f h e links are =
    let w = walked_in t x y h in
    let long : length u.spots ≡ length t.labels.spots = ap (λ (z : Labels). length z.spots) e ∙ w.as_long in
    let P : Table → Type 0 = λ z. AreLinks links z in
    links_join t (with_labels t u) links x y (same_after t t x y u refl h e) (held_after t u h.kept long) (λ p q link. held_after t u h.kept long p (linked_held t x y h p q link)) (subst P f are)

pub returns : goal.returns
returns g c =
    let t = table_of c.self.inside.tokens.items c.self.inside.places.list c.self.inside.labels in
    let x = c.args.x.now in
    let y = c.args.y.now in
    let even : length x.origins ≡ length y.origins = sym c.text_length-len.ensures.origins ∙ c.text_length-len.ensures.text ∙ ap length c.requires.equal ∙ sym c.text_length-also.ensures.text ∙ c.text_length-also.ensures.origins in
    let h = given c.args.self.now t x y (sym c.self.view_is) c.self.invariant c.requires.whole_x c.requires.whole_y even in
    let u = c.join_characters.new.labels in
    let is = labels_as t c.deref.result.now x y u c.deref.ensures.value c.join_characters.ensures.labels in
    let v = sym c.self.view_is in
    let old = c.args.steps.now in
    let new = c.join_characters.new.steps in
    let enough = enough_after c.args.self.now t x y c.deref.result.now u old new v c.deref.ensures.value h is c.join_characters.ensures.steps in
    let bound = bound_after c.args.self.now t x y c.deref.result.now u old new v c.deref.ensures.value h is c.join_characters.ensures.steps in
    record {
      unchanged = ap added_tokens c.self.view_is;
      count = ap character_count c.self.view_is;
      same = same_after c.args.self.now t x y u v h is;
      links = links_after c.args.self.now t x y u v h is;
      parts = has_parts (with_labels t u) (kept_after t x y u h is);
      enough = enough;
      bound = bound;
      history = λ r n past. joined_by c.args.self.now (with_labels t u) r n old new past enough bound;
      most = weight-most u;
      exact = ap (with_labels t) is ∙ ap (joined_in x y) c.self.view_is;
      ticks =
          c.join_characters.ensures.steps
          ∙ ap (λ w. old + joined_parts 0 (numbers w x.origins) (numbers w y.origins) t.labels) c.deref.ensures.value
          ∙ ap (λ w. old + parts_joined x y w) c.self.view_is;
    }
