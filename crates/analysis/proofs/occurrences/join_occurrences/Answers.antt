use Rattle.std.proofs.Common.{◌≡◌, ◌≤◌, ◌<◌, ◌+◌, List, [], ◌∷◌, length, drop, sym, ◌∙◌, subst, arith, Some, None}
use Rattle.cs_base.specs.declared.tokens.Link.{Link}
use Rattle.eclass_map.specs.ClassTable.{Table}
use Rattle.gnu_bind.specs.Below.scope_bind.Names.{entity_at}
use Rattle.analysis.specs.Joins.{Awaits, AreKnown, link_of}
use Rattle.analysis.specs.Links.{occurrence_links}
use Rattle.analysis.proofs.FirstLemmas.{is_first, tell_skip, tell_more, stands_at, occurrences_skip, occurrences_more, occurrences_end}
use Rattle.analysis.proofs.JoinLemmas.{awaits_more, awaits_end}
use Rattle.analysis.proofs.KnownLemmas.{all_kept, known_more, met}
use Rattle.analysis.proofs.occurrences.join_occurrences.Goals as goal
use Rattle.analysis.proofs.occurrences.join_occurrences.Goals.{in-Some+in_ok-first+in_ok-join_first, in_default}

pub loop-k-preserved : goal.loop-k-preserved
loop-k-preserved c =
    let names = c.args.bound.now.names in
    let toks = c.args.toks.now in
    let k = c.loop-k.k in
    let old = c.args.classes.now in
    let all = occurrence_links names toks 0 toks in
    let within : k < length toks = omega (arith, c.loop-k.invariant.counted, c.loop-k-test.true) in
    elim c.match-entity.branch [
      | in-Some+in_ok-first+in_ok-join_first w ↦
          let entity = w.in-Some.entity in
          let first = w.in_ok-first.first in
          let firsts = c.loop-k.firsts.items in
          let at : entity_at names k ≡ Some entity = sym w.in-Some.ensures in
          let known = is_first names k entity first firsts at w.in_ok-first.ensures.within w.in_ok-first.ensures.answer c.loop-k.invariant.firsts in
          let less = known.0 in
          let before : first < length toks = omega arith in
          let stands = stands_at toks first w.index-toks-first.result before w.index-toks-first.is in
          let step = occurrences_more names toks k entity first w.index-toks-k-in-Some.result w.index-toks-first.result within at known.1 w.index-toks-k-in-Some.is stands in
          let P : Table → Type 0 = λ v. Awaits (occurrence_links names toks (k + 1) (drop (k + 1) toks)) all old v in
          let Q : Table → Type 0 = λ v. AreKnown c.match-entity.firsts.items toks v in
          let joined = w.in_ok-join_first.ensures.joined in
          record {
            counted = c.loop-k.invariant.counted;
            firsts = tell_more names k entity first firsts c.match-entity.firsts.items at w.in_ok-first.ensures.within w.in_ok-first.ensures.answer (rw w.firsts-is w.in_ok-first.ensures.noted) c.loop-k.invariant.firsts;
            known = subst Q (sym w.classes-is)
                (known_more entity first firsts c.match-entity.firsts.items toks w.index-toks-first.result w.join_first.new.classes w.in_ok-first.ensures.within (rw w.firsts-is w.in_ok-first.ensures.noted) stands
                w.in_ok-join_first.ensures.known (all_kept firsts toks c.loop-k.classes w.join_first.new.classes joined.tokens c.loop-k.invariant.known));
            placed = rw w.places-is (w.note_place.ensures ∙ c.loop-k.invariant.placed);
            rest = subst P (sym w.classes-is)
                (awaits_more (link_of w.index-toks-k-in-Some.result w.index-toks-first.result ∷ []) (occurrence_links names toks k (drop k toks)) (occurrence_links names toks (k + 1) (drop (k + 1) toks)) all old c.loop-k.classes w.join_first.new.classes
                step joined c.loop-k.invariant.rest);
          }
      | in_default w ↦
          let none : entity_at names k ≡ None = sym c.entity.ensures ∙ w.in_default.is in
          let P : Table → Type 0 = λ v. Awaits (occurrence_links names toks (k + 1) (drop (k + 1) toks)) all old v in
          let Q : List Link → Type 0 = λ v. Awaits v all old c.loop-k.classes in
          let R : Table → Type 0 = λ v. AreKnown c.loop-k.firsts.items toks v in
          record {
            counted = c.loop-k.invariant.counted;
            firsts = rw w.firsts-is (tell_skip names k c.loop-k.firsts.items none c.loop-k.invariant.firsts);
            known = rw w.firsts-is (subst R (sym w.classes-is) c.loop-k.invariant.known);
            placed = rw w.places-is c.loop-k.invariant.placed;
            rest = subst P (sym w.classes-is) (subst Q (occurrences_skip names toks k within none) c.loop-k.invariant.rest);
          }
    ]

pub join_first-requires : goal.join_first-requires
join_first-requires c =
    let toks = c.args.toks.now in
    let k = c.loop-k.k in
    let within : k < length toks = omega (arith, c.loop-k.invariant.counted, c.loop-k-test.true) in
    let entity = c.in-Some.entity in
    let first = c.in_ok-first.first in
    let firsts = c.loop-k.firsts.items in
    let at : entity_at c.args.bound.now.names k ≡ Some entity = sym c.in-Some.ensures in
    let less = (is_first c.args.bound.now.names k entity first firsts at c.in_ok-first.ensures.within c.in_ok-first.ensures.answer c.loop-k.invariant.firsts).0 in
    let before : first < length toks = omega (arith, less, within) in
    met k entity first firsts toks c.index-toks-k-in-Some.result c.index-toks-first.result c.loop-k.classes c.is_same-is_own.result c.in_ok-first.ensures.answer
    (stands_at toks k c.index-toks-k-in-Some.result within c.index-toks-k-in-Some.is) (stands_at toks first c.index-toks-first.result before c.index-toks-first.is) c.loop-k.invariant.known c.is_same-is_own.ensures

pub returns : goal.returns
returns c =
    let names = c.args.bound.now.names in
    let toks = c.args.toks.now in
    let k = c.loop-k.k in
    let past : length toks ≤ k = omega (arith, c.loop-k.invariant.counted, c.loop-k-test.false) in
    awaits_end (occurrence_links names toks k (drop k toks)) (occurrence_links names toks 0 toks) c.args.classes.now c.loop-k.classes (occurrences_end names toks k past) c.loop-k.invariant.rest
