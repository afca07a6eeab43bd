use Rattle.std.proofs.Common.{◌≡◌, ◌++◌, ◌∷◌, [], List, ◌∙◌, ap, sym}
use Rattle.std.specs.Str.{bytes_eq}
use Rattle.std.proofs.lemmas.Map.Iter.{rest_more, rest_all}
use Rattle.std.specs.Map.Iter.{deref_pair}
use Rattle.indexmap.proofs.CallerLemmas.{insert_entry-new}
use Rattle.cs_base.specs.Token.{Token}
use Rattle.unit_steps.specs.FirstNames.{rows_of}
use Rattle.unit_steps.proofs.FirstNamesLemmas.{rows-begin, rows-end, next-new, next-rows}
use Rattle.unit_steps.proofs.first_names.same_entries.Goals as goal

pub loop-text-init : goal.loop-text-init
loop-text-init c =
    rows-begin (λ k. k.items) c.in_ok-all.all.entries c.into_iter-text-iterator.result c.args.names.now.entries c.in_ok-all.ensures.empty
    c.into_iter-text-iterator.ensures.into_iter_gives.0

pub loop-text-preserved-in_ok-insert : goal.loop-text-preserved-in_ok-insert
loop-text-preserved-in_ok-insert c =
    let left = rest_more deref_pair c.loop-text.text-iterator c.next.new.self c.next.result (c.in-Some.text, c.in-Some.name) c.in-Some.is c.next.ensures.steps in
    let e = deref_pair (c.in-Some.text, c.in-Some.name) in
    let whole : rows_of (λ k. k.items) c.loop-text.all.entries ++ rows_of (λ k. k.items) (e ∷ c.next.new.self) ≡ rows_of (λ k. k.items) c.args.names.now.entries =
    ap (λ (es : List _). rows_of (λ k. k.items) c.loop-text.all.entries ++ rows_of (λ k. k.items) es) (sym left) ∙ c.loop-text.invariant in
    let new = next-new (λ k. k.items) c.args.names.now.entries c.loop-text.all.entries c.in_ok-key.key.items e c.next.new.self
    c.into_iter-text-iterator.ensures.into_iter_gives.4 (c.in_ok-key.ensures.items ∙ c.as_slice.ensures.value) whole in
    next-rows (λ k. k.items) c.loop-text.all.entries c.insert.new.self.entries c.in_ok-key.key c.in_ok-same.same e c.next.new.self (rows_of (λ k. k.items) c.args.names.now.entries)
    (c.in_ok-insert.ensures.entries ∙ insert_entry-new (λ x y. bytes_eq x.items y.items) c.loop-text.all c.in_ok-key.key c.in_ok-same.same new)
    (c.in_ok-key.ensures.items ∙ c.as_slice.ensures.value) c.in_ok-same.ensures whole

pub loop-text-preserved : goal.loop-text-preserved
loop-text-preserved c =
    let left = rest_more deref_pair c.loop-text.text-iterator c.next.new.self c.next.result (c.in-Some.text, c.in-Some.name) c.in-Some.is c.next.ensures.steps in
    let e = deref_pair (c.in-Some.text, c.in-Some.name) in
    let whole : rows_of (λ k. k.items) c.loop-text.all.entries ++ rows_of (λ k. k.items) (e ∷ c.next.new.self) ≡ rows_of (λ k. k.items) c.args.names.now.entries =
    ap (λ (es : List _). rows_of (λ k. k.items) c.loop-text.all.entries ++ rows_of (λ k. k.items) es) (sym left) ∙ c.loop-text.invariant in
    let new = next-new (λ k. k.items) c.args.names.now.entries c.loop-text.all.entries c.in_ok-key.key.items e c.next.new.self
    c.into_iter-text-iterator.ensures.into_iter_gives.4 (c.in_ok-key.ensures.items ∙ c.as_slice.ensures.value) whole in
    next-rows (λ k. k.items) c.loop-text.all.entries c.insert.new.self.entries c.in_ok-key.key c.in_ok-same.same e c.next.new.self (rows_of (λ k. k.items) c.args.names.now.entries)
    (c.in_ok-insert.ensures.entries ∙ insert_entry-new (λ x y. bytes_eq x.items y.items) c.loop-text.all c.in_ok-key.key c.in_ok-same.same new)
    (c.in_ok-key.ensures.items ∙ c.as_slice.ensures.value) c.in_ok-same.ensures whole

pub returns : goal.returns
returns c =
    rows-end (λ k. k.items) c.loop-text.text-iterator c.loop-text.all.entries (rows_of (λ k. k.items) c.args.names.now.entries)
    (rest_all deref_pair c.loop-text.text-iterator c.next.new.self c.next.result c.in-None.is c.next.ensures.steps) c.loop-text.invariant
