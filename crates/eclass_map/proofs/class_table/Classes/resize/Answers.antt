use Rattle.std.proofs.Common.{◌≡◌, ℕ, ◌+◌, ◌≤◌, List, length, sym, ◌∙◌, arith, rules, subst, Some}
use Rattle.std.specs.Prelude.{slice_get}
use Rattle.std.proofs.lemmas.List.{get_or_read}
use Rattle.eclass_map.specs.declared.token_list.Added.{Added}
use Rattle.class_labels.specs.Regrown.{place, regrown, ArePlaces}
use Rattle.eclass_map.specs.Settled.{AreNumbered, AreApart, ArePlaced, Fits}
use Rattle.eclass_map.proofs.KeptFacts.{table_of}
use Rattle.eclass_map.proofs.ResizedOrder.{new_tokens, are_numbered, are_apart, new_within}
use Rattle.eclass_map.proofs.ResizeCall.{Asked, Made, all_short, given, fits_of, settled_as, total_of, kept_made, parts_made, resizes_made, count_made, weight_made}
use Rattle.eclass_map.specs.History.History.{kept}
use Rattle.eclass_map.proofs.class_table.Classes.resize.Goals as goal

pub numbers-requires : goal.numbers-requires
numbers-requires c =
    let t = table_of c.self.inside.tokens.items c.self.inside.places.list c.self.inside.labels in
    let m = c.args.len in
    let asked : Asked c.args.class m c.args.self.now t = record { is = sym c.self.view_is; kept = c.self.invariant; held = c.requires.held; some = c.requires.some; short = c.requires.short; within = c.requires.within } in
    all_short c.args.class m c.args.self.now t asked

pub settle-requires-clause-numbers : goal.settle-requires-clause-numbers
settle-requires-clause-numbers c =
    let t = table_of c.self.inside.tokens.items c.self.inside.places.list c.self.inside.labels in
    let m = c.args.len in
    let asked : Asked c.args.class m c.args.self.now t = record { is = sym c.self.view_is; kept = c.self.invariant; held = c.requires.held; some = c.requires.some; short = c.requires.short; within = c.requires.within } in
    let numbers = c.in_ok-numbers.numbers.items in
    let are : ArePlaces c.args.class m t.labels.spots numbers = c.in_ok-numbers.ensures in
    let P : List ℕ → Type 0 = λ v. AreNumbered c.deref.result.now v in
    let Q : List Added → Type 0 = λ v. AreNumbered v numbers in
    subst P (sym c.deref-2.ensures.value) (subst Q (sym c.deref.ensures.value) (are_numbered c.args.class m numbers t (given c.args.class m numbers c.args.self.now t asked are)))

pub settle-requires-clause-fits : goal.settle-requires-clause-fits
settle-requires-clause-fits c =
    let t = table_of c.self.inside.tokens.items c.self.inside.places.list c.self.inside.labels in
    let m = c.args.len in
    let asked : Asked c.args.class m c.args.self.now t = record { is = sym c.self.view_is; kept = c.self.invariant; held = c.requires.held; some = c.requires.some; short = c.requires.short; within = c.requires.within } in
    let numbers = c.in_ok-numbers.numbers.items in
    let are : ArePlaces c.args.class m t.labels.spots numbers = c.in_ok-numbers.ensures in
    let P : List Added → Type 0 = λ v. Fits v in
    subst P (sym (settled_as numbers c.deref-2.result.now t c.deref.result.now c.deref-2.ensures.value c.deref.ensures.value)) (fits_of c.args.class m numbers c.args.self.now t asked are)

pub place_runs-requires-clause-within : goal.place_runs-requires-clause-within
place_runs-requires-clause-within c =
    let t = table_of c.self.inside.tokens.items c.self.inside.places.list c.self.inside.labels in
    let m = c.args.len in
    let asked : Asked c.args.class m c.args.self.now t = record { is = sym c.self.view_is; kept = c.self.invariant; held = c.requires.held; some = c.requires.some; short = c.requires.short; within = c.requires.within } in
    let numbers = c.in_ok-numbers.numbers.items in
    let are : ArePlaces c.args.class m t.labels.spots numbers = c.in_ok-numbers.ensures in
    let tokens : c.in_ok-tokens.tokens.items ≡ new_tokens numbers t = c.in_ok-tokens.ensures ∙ settled_as numbers c.deref-2.result.now t c.deref.result.now c.deref-2.ensures.value c.deref.ensures.value in
    let end : c.len.result ≡ length t.places = search rules in
    let count : c.index.result.now ≡ place c.args.class m t.labels.spots (length t.labels.spots) =
    get_or_read numbers c.len.result c.index.result.now (omega (arith, are.long, end, c.self.invariant.long)) c.index.ensures 0 ∙ total_of c.args.class m numbers t c.len.result c.self.invariant are end in
    let P : List Added → Type 0 = λ v. (k : ℕ) (r : Added) → slice_get v k ≡ Some r → r.first + r.place.len ≤ c.index.result.now in
    subst P (sym (c.deref-3.ensures.value ∙ tokens)) (λ k r at. let w = new_within c.args.class m numbers t (given c.args.class m numbers c.args.self.now t asked are) k r at in omega arith)

pub place_runs-requires-clause-fits : goal.place_runs-requires-clause-fits
place_runs-requires-clause-fits c =
    let t = table_of c.self.inside.tokens.items c.self.inside.places.list c.self.inside.labels in
    let m = c.args.len in
    let asked : Asked c.args.class m c.args.self.now t = record { is = sym c.self.view_is; kept = c.self.invariant; held = c.requires.held; some = c.requires.some; short = c.requires.short; within = c.requires.within } in
    let numbers = c.in_ok-numbers.numbers.items in
    let are : ArePlaces c.args.class m t.labels.spots numbers = c.in_ok-numbers.ensures in
    let tokens : c.in_ok-tokens.tokens.items ≡ new_tokens numbers t = c.in_ok-tokens.ensures ∙ settled_as numbers c.deref-2.result.now t c.deref.result.now c.deref-2.ensures.value c.deref.ensures.value in
    let P : List Added → Type 0 = λ v. Fits v in
    subst P (sym (c.deref-3.ensures.value ∙ tokens)) (fits_of c.args.class m numbers c.args.self.now t asked are)

pub place_runs-requires-clause-apart : goal.place_runs-requires-clause-apart
place_runs-requires-clause-apart c =
    let t = table_of c.self.inside.tokens.items c.self.inside.places.list c.self.inside.labels in
    let m = c.args.len in
    let asked : Asked c.args.class m c.args.self.now t = record { is = sym c.self.view_is; kept = c.self.invariant; held = c.requires.held; some = c.requires.some; short = c.requires.short; within = c.requires.within } in
    let numbers = c.in_ok-numbers.numbers.items in
    let are : ArePlaces c.args.class m t.labels.spots numbers = c.in_ok-numbers.ensures in
    let tokens : c.in_ok-tokens.tokens.items ≡ new_tokens numbers t = c.in_ok-tokens.ensures ∙ settled_as numbers c.deref-2.result.now t c.deref.result.now c.deref-2.ensures.value c.deref.ensures.value in
    let P : List Added → Type 0 = λ v. AreApart v in
    subst P (sym (c.deref-3.ensures.value ∙ tokens)) (are_apart c.args.class m numbers t (given c.args.class m numbers c.args.self.now t asked are))

pub regrow-requires-clause-short : goal.regrow-requires-clause-short
regrow-requires-clause-short c =
    let t = table_of c.self.inside.tokens.items c.self.inside.places.list c.self.inside.labels in
    let m = c.args.len in
    let asked : Asked c.args.class m c.args.self.now t = record { is = sym c.self.view_is; kept = c.self.invariant; held = c.requires.held; some = c.requires.some; short = c.requires.short; within = c.requires.within } in
    all_short c.args.class m c.args.self.now t asked

pub invariant_of-self-2 : goal.invariant_of-self-2
invariant_of-self-2 c =
    let t = table_of c.self.inside.tokens.items c.self.inside.places.list c.self.inside.labels in
    let m = c.args.len in
    let asked : Asked c.args.class m c.args.self.now t = record { is = sym c.self.view_is; kept = c.self.invariant; held = c.requires.held; some = c.requires.some; short = c.requires.short; within = c.requires.within } in
    let numbers = c.in_ok-numbers.numbers.items in
    let are : ArePlaces c.args.class m t.labels.spots numbers = c.in_ok-numbers.ensures in
    let tokens : c.in_ok-tokens.tokens.items ≡ new_tokens numbers t = c.in_ok-tokens.ensures ∙ settled_as numbers c.deref-2.result.now t c.deref.result.now c.deref-2.ensures.value c.deref.ensures.value in
    let end : c.len.result ≡ length t.places = search rules in
    let count : c.index.result.now ≡ place c.args.class m t.labels.spots (length t.labels.spots) =
    get_or_read numbers c.len.result c.index.result.now (omega (arith, are.long, end, c.self.invariant.long)) c.index.ensures 0 ∙ total_of c.args.class m numbers t c.len.result c.self.invariant are end in
    let labels : c.regrow.new.self ≡ regrown c.args.class m t.labels = search rules in
    let P : List Added → Type 0 = λ v. ArePlaced v c.in_ok-places.places.list in
    let made : Made c.args.class m numbers c.args.self.now t c.in_ok-tokens.tokens.items c.in_ok-places.places.list c.regrow.new.self =
    record { asked = asked; numbers_are = are; tokens_are = tokens; long = c.in_ok-places.ensures.long ∙ count; placed = subst P c.deref-3.ensures.value c.in_ok-places.ensures.placed; labels_are = labels } in
    kept_made c.args.class m numbers c.args.self.now t c.in_ok-tokens.tokens.items c.in_ok-places.places.list c.regrow.new.self made

pub returns-clause-moved : goal.returns-clause-moved
returns-clause-moved c =
    let t = table_of c.self.inside.tokens.items c.self.inside.places.list c.self.inside.labels in
    let m = c.args.len in
    let asked : Asked c.args.class m c.args.self.now t = record { is = sym c.self.view_is; kept = c.self.invariant; held = c.requires.held; some = c.requires.some; short = c.requires.short; within = c.requires.within } in
    let numbers = c.in_ok-numbers.numbers.items in
    let are : ArePlaces c.args.class m t.labels.spots numbers = c.in_ok-numbers.ensures in
    let tokens : c.in_ok-tokens.tokens.items ≡ new_tokens numbers t = c.in_ok-tokens.ensures ∙ settled_as numbers c.deref-2.result.now t c.deref.result.now c.deref-2.ensures.value c.deref.ensures.value in
    let end : c.len.result ≡ length t.places = search rules in
    let count : c.index.result.now ≡ place c.args.class m t.labels.spots (length t.labels.spots) =
    get_or_read numbers c.len.result c.index.result.now (omega (arith, are.long, end, c.self.invariant.long)) c.index.ensures 0 ∙ total_of c.args.class m numbers t c.len.result c.self.invariant are end in
    let labels : c.regrow.new.self ≡ regrown c.args.class m t.labels = search rules in
    let P : List Added → Type 0 = λ v. ArePlaced v c.in_ok-places.places.list in
    let made : Made c.args.class m numbers c.args.self.now t c.in_ok-tokens.tokens.items c.in_ok-places.places.list c.regrow.new.self =
    record { asked = asked; numbers_are = are; tokens_are = tokens; long = c.in_ok-places.ensures.long ∙ count; placed = subst P c.deref-3.ensures.value c.in_ok-places.ensures.placed; labels_are = labels } in
    resizes_made c.args.class m numbers c.args.self.now t c.in_ok-tokens.tokens.items c.in_ok-places.places.list c.regrow.new.self made

pub returns-clause-parts : goal.returns-clause-parts
returns-clause-parts c =
    let t = table_of c.self.inside.tokens.items c.self.inside.places.list c.self.inside.labels in
    let m = c.args.len in
    let asked : Asked c.args.class m c.args.self.now t = record { is = sym c.self.view_is; kept = c.self.invariant; held = c.requires.held; some = c.requires.some; short = c.requires.short; within = c.requires.within } in
    let numbers = c.in_ok-numbers.numbers.items in
    let are : ArePlaces c.args.class m t.labels.spots numbers = c.in_ok-numbers.ensures in
    let tokens : c.in_ok-tokens.tokens.items ≡ new_tokens numbers t = c.in_ok-tokens.ensures ∙ settled_as numbers c.deref-2.result.now t c.deref.result.now c.deref-2.ensures.value c.deref.ensures.value in
    let end : c.len.result ≡ length t.places = search rules in
    let count : c.index.result.now ≡ place c.args.class m t.labels.spots (length t.labels.spots) =
    get_or_read numbers c.len.result c.index.result.now (omega (arith, are.long, end, c.self.invariant.long)) c.index.ensures 0 ∙ total_of c.args.class m numbers t c.len.result c.self.invariant are end in
    let labels : c.regrow.new.self ≡ regrown c.args.class m t.labels = search rules in
    let P : List Added → Type 0 = λ v. ArePlaced v c.in_ok-places.places.list in
    let made : Made c.args.class m numbers c.args.self.now t c.in_ok-tokens.tokens.items c.in_ok-places.places.list c.regrow.new.self =
    record { asked = asked; numbers_are = are; tokens_are = tokens; long = c.in_ok-places.ensures.long ∙ count; placed = subst P c.deref-3.ensures.value c.in_ok-places.ensures.placed; labels_are = labels } in
    parts_made c.args.class m numbers c.args.self.now t c.in_ok-tokens.tokens.items c.in_ok-places.places.list c.regrow.new.self made

pub returns-clause-count : goal.returns-clause-count
returns-clause-count c =
    let t = table_of c.self.inside.tokens.items c.self.inside.places.list c.self.inside.labels in
    let m = c.args.len in
    let asked : Asked c.args.class m c.args.self.now t = record { is = sym c.self.view_is; kept = c.self.invariant; held = c.requires.held; some = c.requires.some; short = c.requires.short; within = c.requires.within } in
    let numbers = c.in_ok-numbers.numbers.items in
    let are : ArePlaces c.args.class m t.labels.spots numbers = c.in_ok-numbers.ensures in
    let tokens : c.in_ok-tokens.tokens.items ≡ new_tokens numbers t = c.in_ok-tokens.ensures ∙ settled_as numbers c.deref-2.result.now t c.deref.result.now c.deref-2.ensures.value c.deref.ensures.value in
    let end : c.len.result ≡ length t.places = search rules in
    let count : c.index.result.now ≡ place c.args.class m t.labels.spots (length t.labels.spots) =
    get_or_read numbers c.len.result c.index.result.now (omega (arith, are.long, end, c.self.invariant.long)) c.index.ensures 0 ∙ total_of c.args.class m numbers t c.len.result c.self.invariant are end in
    let labels : c.regrow.new.self ≡ regrown c.args.class m t.labels = search rules in
    let P : List Added → Type 0 = λ v. ArePlaced v c.in_ok-places.places.list in
    let made : Made c.args.class m numbers c.args.self.now t c.in_ok-tokens.tokens.items c.in_ok-places.places.list c.regrow.new.self =
    record { asked = asked; numbers_are = are; tokens_are = tokens; long = c.in_ok-places.ensures.long ∙ count; placed = subst P c.deref-3.ensures.value c.in_ok-places.ensures.placed; labels_are = labels } in
    count_made c.args.class m numbers c.args.self.now t c.in_ok-tokens.tokens.items c.in_ok-places.places.list c.regrow.new.self made

pub returns-clause-weight : goal.returns-clause-weight
returns-clause-weight c =
    let t = table_of c.self.inside.tokens.items c.self.inside.places.list c.self.inside.labels in
    let m = c.args.len in
    let asked : Asked c.args.class m c.args.self.now t = record { is = sym c.self.view_is; kept = c.self.invariant; held = c.requires.held; some = c.requires.some; short = c.requires.short; within = c.requires.within } in
    let numbers = c.in_ok-numbers.numbers.items in
    let are : ArePlaces c.args.class m t.labels.spots numbers = c.in_ok-numbers.ensures in
    let tokens : c.in_ok-tokens.tokens.items ≡ new_tokens numbers t = c.in_ok-tokens.ensures ∙ settled_as numbers c.deref-2.result.now t c.deref.result.now c.deref-2.ensures.value c.deref.ensures.value in
    let end : c.len.result ≡ length t.places = search rules in
    let count : c.index.result.now ≡ place c.args.class m t.labels.spots (length t.labels.spots) =
    get_or_read numbers c.len.result c.index.result.now (omega (arith, are.long, end, c.self.invariant.long)) c.index.ensures 0 ∙ total_of c.args.class m numbers t c.len.result c.self.invariant are end in
    let labels : c.regrow.new.self ≡ regrown c.args.class m t.labels = search rules in
    let P : List Added → Type 0 = λ v. ArePlaced v c.in_ok-places.places.list in
    let made : Made c.args.class m numbers c.args.self.now t c.in_ok-tokens.tokens.items c.in_ok-places.places.list c.regrow.new.self =
    record { asked = asked; numbers_are = are; tokens_are = tokens; long = c.in_ok-places.ensures.long ∙ count; placed = subst P c.deref-3.ensures.value c.in_ok-places.ensures.placed; labels_are = labels } in
    weight_made c.args.class m numbers c.args.self.now t c.in_ok-tokens.tokens.items c.in_ok-places.places.list c.regrow.new.self made

pub returns-clause-history : goal.returns-clause-history
returns-clause-history c =
    let t = table_of c.self.inside.tokens.items c.self.inside.places.list c.self.inside.labels in
    let m = c.args.len in
    let asked : Asked c.args.class m c.args.self.now t = record { is = sym c.self.view_is; kept = c.self.invariant; held = c.requires.held; some = c.requires.some; short = c.requires.short; within = c.requires.within } in
    let numbers = c.in_ok-numbers.numbers.items in
    let are : ArePlaces c.args.class m t.labels.spots numbers = c.in_ok-numbers.ensures in
    let tokens : c.in_ok-tokens.tokens.items ≡ new_tokens numbers t = c.in_ok-tokens.ensures ∙ settled_as numbers c.deref-2.result.now t c.deref.result.now c.deref-2.ensures.value c.deref.ensures.value in
    let end : c.len.result ≡ length t.places = search rules in
    let count : c.index.result.now ≡ place c.args.class m t.labels.spots (length t.labels.spots) =
    get_or_read numbers c.len.result c.index.result.now (omega (arith, are.long, end, c.self.invariant.long)) c.index.ensures 0 ∙ total_of c.args.class m numbers t c.len.result c.self.invariant are end in
    let labels : c.regrow.new.self ≡ regrown c.args.class m t.labels = search rules in
    let P : List Added → Type 0 = λ v. ArePlaced v c.in_ok-places.places.list in
    let made : Made c.args.class m numbers c.args.self.now t c.in_ok-tokens.tokens.items c.in_ok-places.places.list c.regrow.new.self =
    record { asked = asked; numbers_are = are; tokens_are = tokens; long = c.in_ok-places.ensures.long ∙ count; placed = subst P c.deref-3.ensures.value c.in_ok-places.ensures.placed; labels_are = labels } in
    λ r n h. kept h (weight_made c.args.class m numbers c.args.self.now t c.in_ok-tokens.tokens.items c.in_ok-places.places.list c.regrow.new.self made)
