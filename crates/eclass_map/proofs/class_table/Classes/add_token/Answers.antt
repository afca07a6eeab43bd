use Rattle.std.proofs.Common.{◌≡◌, ℕ, ◌+◌, ◌<◌, ◌≤◌, ◌^◌, ◌++◌, true, false, List, length, sym, ◌∙◌, ap, arith, rules, subst, length-append, Some}
use Rattle.std.specs.Prelude.{slice_get}
use Rattle.std.specs.List.{insert}
use Rattle.cs_base.specs.declared.positions.Pos.{Pos}
use Rattle.cs_base.specs.declared.positions.Part.{Part}
use Rattle.eclass_map.specs.declared.token_list.Added.{Added}
use Rattle.class_labels.specs.Labels.{Labels, added}
use Rattle.eclass_map.specs.Positions.{begins_by}
use Rattle.eclass_map.specs.ClassTable.{Table, weight_in, IsFree, AddsToken, AreLinks, part_of_file, begun_count, fresh_places, with_token}
use Rattle.eclass_map.specs.Kept.{IsKept}
use Rattle.eclass_map.proofs.KeptFacts.{table_of, kept_as}
use Rattle.eclass_map.proofs.TokenFacts.{Halved}
use Rattle.cs_base.specs.Token.{Token}
use Rattle.eclass_map.proofs.LinkLaws.{links_add}
use Rattle.class_labels.proofs.WeightFacts.{weight-added}
use Rattle.eclass_map.proofs.PartLaws.{has_parts}
use Rattle.eclass_map.proofs.AddTokenFacts.{AddIn, entry, IsKept-added}
use Rattle.eclass_map.proofs.InsertFacts.{begun_count_is, length-fresh_places}
use Rattle.eclass_map.proofs.AddRelation.{with_token_is, adds_token}
use Rattle.eclass_map.specs.History.History.{kept as keeps}
use Rattle.eclass_map.proofs.class_table.Classes.add_token.Goals as goal

halved_in : (t : Table) (tokens : List Added) (p : Pos) (n : ℕ) → tokens ≡ t.tokens → ((k : ℕ) (r : Added) → k < n → slice_get tokens k ≡ Some r → begins_by r p ≡ true) → ((k : ℕ) (r : Added) → n ≤ k → slice_get tokens k ≡ Some r → begins_by r p ≡ false) → Halved t.tokens p n
halved_in t tokens p n e before behind = let P : List Added → Type 0 = λ v. Halved v p n in subst P e (record { before = before; behind = behind })

counted : (part : Part) (t : Table) (tokens : List Added) (n : ℕ) → tokens ≡ t.tokens → n ≤ length tokens → ((k : ℕ) (r : Added) → k < n → slice_get tokens k ≡ Some r → begins_by r part.start ≡ true) → ((k : ℕ) (r : Added) → n ≤ k → slice_get tokens k ≡ Some r → begins_by r part.start ≡ false)
    → begun_count t.tokens part.start ≡ n
counted part t tokens n e within before behind = begun_count_is t.tokens part.start n (let f = ap length e in omega arith) (halved_in t tokens part.start n e before behind)

-- what adding a token is given, from what its caller says of the value
given : (part : Part) (v t : Table) (tokens : List Added) (n : ℕ) → v ≡ t → tokens ≡ t.tokens → IsKept t → 0 < part.len → part.start.at + part.len < 2 ^ 32 → length v.places + part.len < 2 ^ 32 → IsFree v part
    → n ≤ length tokens → ((k : ℕ) (r : Added) → k < n → slice_get tokens k ≡ Some r → begins_by r part.start ≡ true) → ((k : ℕ) (r : Added) → n ≤ k → slice_get tokens k ≡ Some r → begins_by r part.start ≡ false) → AddIn part t
given part v t tokens n e f kept some within short free below before behind =
    let is = counted part t tokens n f below before behind in
    let P : Table → Type 0 = λ u. IsFree u part in
    let Q : ℕ → Type 0 = λ m. Halved t.tokens part.start m in
    let long = ap (λ (u : Table). length u.places) e in
    let same = ap length f in
    record { kept = kept; some = some; within = within; short = omega arith; free = subst P e free; count = omega arith; halved = subst Q (sym is) (halved_in t tokens part.start n f before behind) }

kept_new : (part : Part) (t : Table) (tokens : List Added) (places : List Pos) (labels : Labels) → AddIn part t → tokens ≡ insert t.tokens (begun_count t.tokens part.start) (entry part t) → places ≡ t.places ++ fresh_places part.start part.len → labels ≡ added part.len t.labels → IsKept (table_of tokens places labels)
kept_new part t tokens places labels h e f g =
    let P : Table → Type 0 = λ v. IsKept v in
    kept_as tokens _ places _ labels _ e f g (subst P (with_token_is part t) (IsKept-added part t h))

exact_new : (part : Part) (v t : Table) (tokens : List Added) (places : List Pos) (labels : Labels) → v ≡ t → tokens ≡ insert t.tokens (begun_count t.tokens part.start) (entry part t) → places ≡ t.places ++ fresh_places part.start part.len → labels ≡ added part.len t.labels → table_of tokens places labels ≡ with_token part v
exact_new part v t tokens places labels d e f g =
    let all = insert t.tokens (begun_count t.tokens part.start) (entry part t) in
    let more = t.places ++ fresh_places part.start part.len in
    ap (λ w. table_of w places labels) e ∙ ap (λ w. table_of all w labels) f ∙ ap (λ w. table_of all more w) g ∙ sym (with_token_is part t) ∙ ap (λ w. with_token part w) (sym d)

adds_new : (part : Part) (v t u : Table) → v ≡ t → AddIn part t → u ≡ with_token part v → AddsToken part v u
adds_new part v t u e h is =
    let P : Table → Type 0 = λ w. AddsToken part v w in
    let Q : Table → Type 0 = λ w. AddsToken part w (with_token part w) in
    subst P (sym is) (subst Q (sym e) (adds_token part t h))

count_new : (part : Part) (v t u : Table) → v ≡ t → u ≡ with_token part v → length u.places ≡ length v.places + part.len
count_new part v t u e is =
    let there = ap (λ (w : Table). length w.places) (is ∙ with_token_is part v) in
    let grown : length (v.places ++ fresh_places part.start part.len) ≡ length v.places + length (fresh_places part.start part.len) = length-append v.places (fresh_places part.start part.len) in
    omega (arith, length-fresh_places part.start part.len)

pub invariant_of-self-2 : goal.invariant_of-self-2
invariant_of-self-2 c =
    let t = table_of c.self.inside.tokens.items c.self.inside.places.list c.self.inside.labels in
    let part = part_of_file c.args.file c.args.at c.args.len in
    let h = given part c.args.self.now t c.deref.result.now c.count_begun-index.result (sym c.self.view_is) c.deref.ensures.value c.self.invariant c.requires.some c.requires.within c.requires.short c.requires.free
    c.count_begun-index.ensures.within c.count_begun-index.ensures.before c.count_begun-index.ensures.behind in
    let index = counted part t c.deref.result.now c.count_begun-index.result c.deref.ensures.value c.count_begun-index.ensures.within c.count_begun-index.ensures.before c.count_begun-index.ensures.behind in
    let first : c.len-first.result ≡ length t.places = search rules in
    let inserted : c.insert.new.self.items ≡ insert t.tokens c.count_begun-index.result (record { place = part; first = c.len-first.result }) = search rules in
    let tokens : c.insert.new.self.items ≡ insert t.tokens (begun_count t.tokens part.start) (entry part t) =
    inserted ∙ ap (λ v. insert t.tokens c.count_begun-index.result (record { place = part; first = v })) first ∙ ap (λ v. insert t.tokens v (entry part t)) (sym index) in
    let places : c.push.new.self.list ≡ t.places ++ fresh_places part.start part.len = search rules in
    let labels : c.add.new.self ≡ added part.len t.labels = search rules in
    kept_new part t _ _ _ h tokens places labels

pub returns-clause-exact : goal.returns-clause-exact
returns-clause-exact c =
    let t = table_of c.self.inside.tokens.items c.self.inside.places.list c.self.inside.labels in
    let part = part_of_file c.args.file c.args.at c.args.len in
    let h = given part c.args.self.now t c.deref.result.now c.count_begun-index.result (sym c.self.view_is) c.deref.ensures.value c.self.invariant c.requires.some c.requires.within c.requires.short c.requires.free
    c.count_begun-index.ensures.within c.count_begun-index.ensures.before c.count_begun-index.ensures.behind in
    let index = counted part t c.deref.result.now c.count_begun-index.result c.deref.ensures.value c.count_begun-index.ensures.within c.count_begun-index.ensures.before c.count_begun-index.ensures.behind in
    let first : c.len-first.result ≡ length t.places = search rules in
    let inserted : c.insert.new.self.items ≡ insert t.tokens c.count_begun-index.result (record { place = part; first = c.len-first.result }) = search rules in
    let tokens : c.insert.new.self.items ≡ insert t.tokens (begun_count t.tokens part.start) (entry part t) =
    inserted ∙ ap (λ v. insert t.tokens c.count_begun-index.result (record { place = part; first = v })) first ∙ ap (λ v. insert t.tokens v (entry part t)) (sym index) in
    let places : c.push.new.self.list ≡ t.places ++ fresh_places part.start part.len = search rules in
    let labels : c.add.new.self ≡ added part.len t.labels = search rules in
    exact_new part c.args.self.now t _ _ _ (sym c.self.view_is) tokens places labels

pub returns-clause-added : goal.returns-clause-added
returns-clause-added c =
    let t = table_of c.self.inside.tokens.items c.self.inside.places.list c.self.inside.labels in
    let part = part_of_file c.args.file c.args.at c.args.len in
    let h = given part c.args.self.now t c.deref.result.now c.count_begun-index.result (sym c.self.view_is) c.deref.ensures.value c.self.invariant c.requires.some c.requires.within c.requires.short c.requires.free
    c.count_begun-index.ensures.within c.count_begun-index.ensures.before c.count_begun-index.ensures.behind in
    let index = counted part t c.deref.result.now c.count_begun-index.result c.deref.ensures.value c.count_begun-index.ensures.within c.count_begun-index.ensures.before c.count_begun-index.ensures.behind in
    let first : c.len-first.result ≡ length t.places = search rules in
    let inserted : c.insert.new.self.items ≡ insert t.tokens c.count_begun-index.result (record { place = part; first = c.len-first.result }) = search rules in
    let tokens : c.insert.new.self.items ≡ insert t.tokens (begun_count t.tokens part.start) (entry part t) =
    inserted ∙ ap (λ v. insert t.tokens c.count_begun-index.result (record { place = part; first = v })) first ∙ ap (λ v. insert t.tokens v (entry part t)) (sym index) in
    let places : c.push.new.self.list ≡ t.places ++ fresh_places part.start part.len = search rules in
    let labels : c.add.new.self ≡ added part.len t.labels = search rules in
    adds_new part c.args.self.now t _ (sym c.self.view_is) h (exact_new part c.args.self.now t _ _ _ (sym c.self.view_is) tokens places labels)

pub returns-clause-parts : goal.returns-clause-parts
returns-clause-parts c =
    let t = table_of c.self.inside.tokens.items c.self.inside.places.list c.self.inside.labels in
    let part = part_of_file c.args.file c.args.at c.args.len in
    let h = given part c.args.self.now t c.deref.result.now c.count_begun-index.result (sym c.self.view_is) c.deref.ensures.value c.self.invariant c.requires.some c.requires.within c.requires.short c.requires.free
    c.count_begun-index.ensures.within c.count_begun-index.ensures.before c.count_begun-index.ensures.behind in
    let index = counted part t c.deref.result.now c.count_begun-index.result c.deref.ensures.value c.count_begun-index.ensures.within c.count_begun-index.ensures.before c.count_begun-index.ensures.behind in
    let first : c.len-first.result ≡ length t.places = search rules in
    let inserted : c.insert.new.self.items ≡ insert t.tokens c.count_begun-index.result (record { place = part; first = c.len-first.result }) = search rules in
    let tokens : c.insert.new.self.items ≡ insert t.tokens (begun_count t.tokens part.start) (entry part t) =
    inserted ∙ ap (λ v. insert t.tokens c.count_begun-index.result (record { place = part; first = v })) first ∙ ap (λ v. insert t.tokens v (entry part t)) (sym index) in
    let places : c.push.new.self.list ≡ t.places ++ fresh_places part.start part.len = search rules in
    let labels : c.add.new.self ≡ added part.len t.labels = search rules in
    has_parts _ (kept_new part t _ _ _ h tokens places labels)

pub returns-clause-count : goal.returns-clause-count
returns-clause-count c =
    let t = table_of c.self.inside.tokens.items c.self.inside.places.list c.self.inside.labels in
    let part = part_of_file c.args.file c.args.at c.args.len in
    let h = given part c.args.self.now t c.deref.result.now c.count_begun-index.result (sym c.self.view_is) c.deref.ensures.value c.self.invariant c.requires.some c.requires.within c.requires.short c.requires.free
    c.count_begun-index.ensures.within c.count_begun-index.ensures.before c.count_begun-index.ensures.behind in
    let index = counted part t c.deref.result.now c.count_begun-index.result c.deref.ensures.value c.count_begun-index.ensures.within c.count_begun-index.ensures.before c.count_begun-index.ensures.behind in
    let first : c.len-first.result ≡ length t.places = search rules in
    let inserted : c.insert.new.self.items ≡ insert t.tokens c.count_begun-index.result (record { place = part; first = c.len-first.result }) = search rules in
    let tokens : c.insert.new.self.items ≡ insert t.tokens (begun_count t.tokens part.start) (entry part t) =
    inserted ∙ ap (λ v. insert t.tokens c.count_begun-index.result (record { place = part; first = v })) first ∙ ap (λ v. insert t.tokens v (entry part t)) (sym index) in
    let places : c.push.new.self.list ≡ t.places ++ fresh_places part.start part.len = search rules in
    let labels : c.add.new.self ≡ added part.len t.labels = search rules in
    count_new part c.args.self.now t _ (sym c.self.view_is) (exact_new part c.args.self.now t _ _ _ (sym c.self.view_is) tokens places labels)

links_new : (part : Part) (v t u : Table) → v ≡ t → IsKept t → AddsToken part v u → (links : List (Token × Token)) → AreLinks links v → AreLinks links u
links_new part v t u e kept adds links are =
    let P : Table → Type 0 = λ w. IsKept w in
    links_add part v u links (subst P (sym e) kept) adds are

pub returns-clause-links : goal.returns-clause-links
returns-clause-links c =
    let t = table_of c.self.inside.tokens.items c.self.inside.places.list c.self.inside.labels in
    let part = part_of_file c.args.file c.args.at c.args.len in
    let h = given part c.args.self.now t c.deref.result.now c.count_begun-index.result (sym c.self.view_is) c.deref.ensures.value c.self.invariant c.requires.some c.requires.within c.requires.short c.requires.free
    c.count_begun-index.ensures.within c.count_begun-index.ensures.before c.count_begun-index.ensures.behind in
    let index = counted part t c.deref.result.now c.count_begun-index.result c.deref.ensures.value c.count_begun-index.ensures.within c.count_begun-index.ensures.before c.count_begun-index.ensures.behind in
    let first : c.len-first.result ≡ length t.places = search rules in
    let inserted : c.insert.new.self.items ≡ insert t.tokens c.count_begun-index.result (record { place = part; first = c.len-first.result }) = search rules in
    let tokens : c.insert.new.self.items ≡ insert t.tokens (begun_count t.tokens part.start) (entry part t) =
    inserted ∙ ap (λ v. insert t.tokens c.count_begun-index.result (record { place = part; first = v })) first ∙ ap (λ v. insert t.tokens v (entry part t)) (sym index) in
    let places : c.push.new.self.list ≡ t.places ++ fresh_places part.start part.len = search rules in
    let labels : c.add.new.self ≡ added part.len t.labels = search rules in
    links_new part c.args.self.now t _ (sym c.self.view_is) c.self.invariant (adds_new part c.args.self.now t _ (sym c.self.view_is) h (exact_new part c.args.self.now t _ _ _ (sym c.self.view_is) tokens places labels))

weight_new : (part : Part) (v t u : Table) → v ≡ t → u ≡ with_token part v → weight_in u ≡ weight_in v
weight_new part v t u e is = ap (λ (w : Table). weight_in w) (is ∙ with_token_is part v) ∙ weight-added part.len v.labels

pub returns-clause-weight : goal.returns-clause-weight
returns-clause-weight c =
    let t = table_of c.self.inside.tokens.items c.self.inside.places.list c.self.inside.labels in
    let part = part_of_file c.args.file c.args.at c.args.len in
    let h = given part c.args.self.now t c.deref.result.now c.count_begun-index.result (sym c.self.view_is) c.deref.ensures.value c.self.invariant c.requires.some c.requires.within c.requires.short c.requires.free
    c.count_begun-index.ensures.within c.count_begun-index.ensures.before c.count_begun-index.ensures.behind in
    let index = counted part t c.deref.result.now c.count_begun-index.result c.deref.ensures.value c.count_begun-index.ensures.within c.count_begun-index.ensures.before c.count_begun-index.ensures.behind in
    let first : c.len-first.result ≡ length t.places = search rules in
    let inserted : c.insert.new.self.items ≡ insert t.tokens c.count_begun-index.result (record { place = part; first = c.len-first.result }) = search rules in
    let tokens : c.insert.new.self.items ≡ insert t.tokens (begun_count t.tokens part.start) (entry part t) =
    inserted ∙ ap (λ v. insert t.tokens c.count_begun-index.result (record { place = part; first = v })) first ∙ ap (λ v. insert t.tokens v (entry part t)) (sym index) in
    let places : c.push.new.self.list ≡ t.places ++ fresh_places part.start part.len = search rules in
    let labels : c.add.new.self ≡ added part.len t.labels = search rules in
    weight_new part c.args.self.now t _ (sym c.self.view_is) (exact_new part c.args.self.now t _ _ _ (sym c.self.view_is) tokens places labels)

pub returns-clause-history : goal.returns-clause-history
returns-clause-history c =
    let t = table_of c.self.inside.tokens.items c.self.inside.places.list c.self.inside.labels in
    let part = part_of_file c.args.file c.args.at c.args.len in
    let h = given part c.args.self.now t c.deref.result.now c.count_begun-index.result (sym c.self.view_is) c.deref.ensures.value c.self.invariant c.requires.some c.requires.within c.requires.short c.requires.free
    c.count_begun-index.ensures.within c.count_begun-index.ensures.before c.count_begun-index.ensures.behind in
    let index = counted part t c.deref.result.now c.count_begun-index.result c.deref.ensures.value c.count_begun-index.ensures.within c.count_begun-index.ensures.before c.count_begun-index.ensures.behind in
    let first : c.len-first.result ≡ length t.places = search rules in
    let inserted : c.insert.new.self.items ≡ insert t.tokens c.count_begun-index.result (record { place = part; first = c.len-first.result }) = search rules in
    let tokens : c.insert.new.self.items ≡ insert t.tokens (begun_count t.tokens part.start) (entry part t) =
    inserted ∙ ap (λ v. insert t.tokens c.count_begun-index.result (record { place = part; first = v })) first ∙ ap (λ v. insert t.tokens v (entry part t)) (sym index) in
    let places : c.push.new.self.list ≡ t.places ++ fresh_places part.start part.len = search rules in
    let labels : c.add.new.self ≡ added part.len t.labels = search rules in
    λ r n past. keeps past (weight_new part c.args.self.now t _ (sym c.self.view_is) (exact_new part c.args.self.now t _ _ _ (sym c.self.view_is) tokens places labels))
