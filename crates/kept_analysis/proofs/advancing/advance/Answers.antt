use Rattle.std.proofs.Common.{◌≡◌, ℕ, length, ap, sym, ◌∙◌, Some}
use Rattle.eclass_map.specs.ClassTable.{Table, class_in}
use Rattle.eclass_map.specs.Resized.{Resizes}
use Rattle.analysis.specs.Analysed.{Analysed}
use Rattle.analysis.proofs.Below.lexer.NameLemmas.{name_some}
use Rattle.kept_analysis.specs.Following.{IsAnalysedAnew, IsRenamedIn, renamed_by}
use Rattle.kept_analysis.proofs.AdvanceLemmas.{analysed_anew, if_ok, part_is, members_held, own_follows, reads_follow, renamed_in, moved_for}
use Rattle.kept_analysis.proofs.advancing.advance.Goals as goal

pub members-requires : goal.members-requires
members-requires c =
    part_is c.args.a c.classes.ensures.own c.args.part c.in-Some.class (ap (λ (t : Table). class_in t c.args.part) (sym c.classes.ensures.answer) ∙ sym c.in-Some.ensures.answer)

pub followed-requires-clause-own : goal.followed-requires-clause-own
followed-requires-clause-own c =
    (own_follows c.args.a c.classes.ensures.own c.args.part c.in-Some.class (ap (λ (t : Table). class_in t c.args.part) (sym c.classes.ensures.answer) ∙ sym c.in-Some.ensures.answer)
    c.args.name.now c.requires c.members.result.now c.members.ensures c.in_ok-moves-in-Some.moves c.in_ok-moves-in-Some.ensures)

pub followed-requires-clause-read : goal.followed-requires-clause-read
followed-requires-clause-read c =
    reads_follow c.args.a c.classes.ensures.own c.args.part c.in-Some.class (ap (λ (t : Table). class_in t c.args.part) (sym c.classes.ensures.answer) ∙ sym c.in-Some.ensures.answer)
    c.args.name.now c.requires c.members.result.now c.members.ensures c.in_ok-moves-in-Some.moves c.in_ok-moves-in-Some.ensures

pub followed-requires-clause-held : goal.followed-requires-clause-held
followed-requires-clause-held c =
    members_held c.args.a c.classes.ensures.own c.args.part c.in-Some.class (ap (λ (t : Table). class_in t c.args.part) (sym c.classes.ensures.answer) ∙ sym c.in-Some.ensures.answer)

pub followed-requires-clause-some : goal.followed-requires-clause-some
followed-requires-clause-some c = name_some c.args.name.now c.requires.identifier

pub returns-in_ok-moves-in-Some-clause-answer : goal.returns-in_ok-moves-in-Some-clause-answer
returns-in_ok-moves-in-Some-clause-answer c =
    if_ok c.followed.result (λ (b : Analysed). b.value ≡ renamed_by c.in_ok-moves-in-Some.moves c.args.a.value) (λ (b : Analysed). IsRenamedIn c.args.a.value c.args.part c.args.name.now b.value)
    (λ b e. renamed_in c.args.a c.classes.ensures.own c.args.part c.in-Some.class (ap (λ (t : Table). class_in t c.args.part) (sym c.classes.ensures.answer) ∙ sym c.in-Some.ensures.answer)
    c.args.name.now c.requires c.members.result.now c.members.ensures c.in_ok-moves-in-Some.moves c.in_ok-moves-in-Some.ensures b.value e) c.followed.ensures.answer

pub returns-in_ok-moves-in-Some-clause-anew : goal.returns-in_ok-moves-in-Some-clause-anew
returns-in_ok-moves-in-Some-clause-anew c =
    let at = ap (λ (t : Table). class_in t c.args.part) (sym c.classes.ensures.answer) ∙ sym c.in-Some.ensures.answer in
    if_ok c.followed.result (λ (b : Analysed). b.value ≡ renamed_by c.in_ok-moves-in-Some.moves c.args.a.value)
    (λ (b : Analysed). IsAnalysedAnew c.args.a.value c.args.part c.args.name.now b.value)
    (λ b e. analysed_anew c.args.a c.classes.ensures.own c.args.part c.in-Some.class at c.args.name.now c.requires b.value
    (renamed_in c.args.a c.classes.ensures.own c.args.part c.in-Some.class at
    c.args.name.now c.requires c.members.result.now c.members.ensures c.in_ok-moves-in-Some.moves c.in_ok-moves-in-Some.ensures b.value e)) c.followed.ensures.answer

pub returns-in_ok-moves-in-Some-clause-moved : goal.returns-in_ok-moves-in-Some-clause-moved
returns-in_ok-moves-in-Some-clause-moved c =
    if_ok c.followed.result (λ (b : Analysed). Resizes c.in-Some.class (length c.args.name.now) c.args.a.classes b.classes)
    (λ (b : Analysed). (d : ℕ) → class_in c.args.a.classes c.args.part ≡ Some d → Resizes d (length c.args.name.now) c.args.a.classes b.classes)
    (λ b resizes d also. moved_for c.args.a c.classes.ensures.own c.args.part c.in-Some.class
    (ap (λ (t : Table). class_in t c.args.part) (sym c.classes.ensures.answer) ∙ sym c.in-Some.ensures.answer) (length c.args.name.now) b.classes d also resizes) c.followed.ensures.moved
