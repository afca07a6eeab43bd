use Rattle.std.proofs.Common.{rules, arith, ◌≡◌, ◌++◌, ◌+◌, ◌<◌, ◌∙◌, ap, sym, [], List, length, drop, get_or, append-nil, refl}
use Rattle.std.specs.Prelude.{ℕ, None, Option}
use Rattle.std.specs.List.{flat_map}
use Rattle.std.proofs.lemmas.List.{drop_all}
use Rattle.cs_base.specs.declared.positions.Pos.{Pos}
use Rattle.paste_origin.specs.Strings.{escaped, escaped_origins, spelling_of, origins_of, origins_along}
use Rattle.paste_origin.specs.Told.{told_so_far}
use Rattle.paste_origin.proofs.StringLemmas.{origin_there, spelling_on, origins_on, goes_on}
use Rattle.paste_origin.proofs.strings.push_quoted.Goals as goal

pub loop-k-preserved : goal.loop-k-preserved
loop-k-preserved c =
    let t = c.args.tok.now in
    let k = c.loop-k.k in
    let i = c.loop-k.invariant in
    let end = i.end in
    let within : k < length t.text = search (rules, arith) in
    let char = get_or t.text k 0 in
    let origin = get_or t.origins k None in
    let text : c.push_escaped.new.text.items ≡ c.loop-k.text.items ++ escaped t.kind char = search rules in
    let there : c.origins.result ≡ origin = c.origins.ensures.answer ∙ origin_there t.origins k in
    let told : told_so_far c.push_escaped.new.text.items c.push_escaped.new.spans.items
    ≡ told_so_far c.loop-k.text.items c.loop-k.spans.items ++ escaped_origins t.kind char origin = rw (← there) (search rules) in
    record {
      text = goes_on c.loop-k.text.items c.push_escaped.new.text.items (escaped t.kind char) (flat_map (escaped t.kind) (drop (k + 1) t.text))
          (flat_map (escaped t.kind) (drop k t.text)) (c.args.text.now.items ++ spelling_of t) i.text (spelling_on t.kind t.text k within) text;
      origins = goes_on (told_so_far c.loop-k.text.items c.loop-k.spans.items) (told_so_far c.push_escaped.new.text.items c.push_escaped.new.spans.items)
          (escaped_origins t.kind char origin) (origins_along t.kind (drop (k + 1) t.text) (drop (k + 1) t.origins))
          (origins_along t.kind (drop k t.text) (drop k t.origins)) (told_so_far c.args.text.now.items c.args.spans.now.items ++ origins_of t) i.origins
          (origins_on t.kind t.text t.origins k within i.each) told;
      sound = search rules;
      each = i.each;
      end = search rules;
    }

pub returns-clause-origins : goal.returns-clause-origins
unfolding origins_along
returns-clause-origins c =
    let t = c.args.tok.now in
    let i = c.loop-k.invariant in
    let done : length t.text ≡ c.loop-k.k = search (rules, arith) in
    let no_text : drop c.loop-k.k t.text ≡ [] = drop_all c.loop-k.k t.text (omega (arith, done)) in
    let none : origins_along t.kind (drop c.loop-k.k t.text) (drop c.loop-k.k t.origins) ≡ [] = rw no_text refl in
    let now = told_so_far c.loop-k.text.items c.loop-k.spans.items in
    sym (append-nil now) ∙ ap (λ (os : List (Option Pos)). now ++ os) (sym none) ∙ i.origins
