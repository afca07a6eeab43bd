use Rattle.std.proofs.Common.{◌≡◌, ◌+◌, List, [], ◌∷◌, ◌++◌, length, refl, ap, sym, subst, ◌∙◌, arith, rules}
use Rattle.eclass_map.specs.declared.places.Run.{Run}
use Rattle.eclass_map.specs.ClassTable.{fresh_places}
use Rattle.eclass_map.specs.Places.{PlaceList, places_of, AreRuns}
use Rattle.eclass_map.proofs.RunFacts.{length-places_of, places_of-pushed, runs_pushed}
use Rattle.eclass_map.proofs.places.Places.push.Goals as goal

pub overflow_add-self : goal.overflow_add-self
overflow_add-self c =
    let long = length-places_of 0 c.self.inside.count c.self.inside.runs.items c.self.invariant in
    let same = ap (λ (p : PlaceList). length p.list) c.self.view_is in
    omega (arith, long, same, c.requires.short)

pub invariant_of-self : goal.invariant_of-self
invariant_of-self c =
    let run : Run = record { first = c.self.inside.count; start = c.args.start } in
    let P : List Run → Type 0 = λ v. AreRuns 0 v (c.self.inside.count + c.args.len) in
    let pushed : c.push.new.self.items ≡ c.self.inside.runs.items ++ run ∷ [] = search rules in
    subst P (sym pushed) (runs_pushed 0 c.self.inside.count c.args.len c.self.inside.runs.items run c.self.invariant refl c.requires.within)

pub returns : goal.returns
returns c =
    let run : Run = record { first = c.self.inside.count; start = c.args.start } in
    let pushed : c.push.new.self.items ≡ c.self.inside.runs.items ++ run ∷ [] = search rules in
    ap (λ v. places_of v (c.self.inside.count + c.args.len)) pushed
    ∙ places_of-pushed c.self.inside.runs.items run c.self.inside.count c.args.len refl
    ∙ ap (λ (p : PlaceList). p.list ++ fresh_places c.args.start c.args.len) c.self.view_is
