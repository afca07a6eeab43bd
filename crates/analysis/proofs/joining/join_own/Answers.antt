use Rattle.std.proofs.Common.{◌≡◌, true, List, [], ◌∷◌, ◌++◌, refl, subst}
use Rattle.cs_base.specs.Token.{Token}
use Rattle.eclass_map.specs.ClassTable.{Table, AreLinks, HasParts}
use Rattle.analysis.specs.Joins.{Joins, link_of}
use Rattle.analysis.specs.Links.{are_alike}
use Rattle.analysis.proofs.JoinLemmas.{joins_one}
use Rattle.analysis.proofs.joining.join_own.Goals as goal

joins_own : (x first : Token) (table : Table) → first ≡ x → are_alike (link_of x first) ≡ true → HasParts table
    → ((links : List (Token × Token)) → AreLinks links table → AreLinks (links ++ (first, first) ∷ []) table) → Joins (link_of x first ∷ []) table table
joins_own x first table same alike parts links =
    joins_one (link_of x first) table table alike refl parts
    (λ before are. let P : Token → Type 0 = λ v. AreLinks (before ++ (v, first) ∷ []) table in subst P same (links before are))

pub returns-then-is_whole_near-clause-joined : goal.returns-then-is_whole_near-clause-joined
returns-then-is_whole_near-clause-joined c =
    joins_own c.args.x.now c.args.first.now c.args.classes.now c.requires.same c.requires.alike c.is_whole_near.ensures.parts (c.is_whole_near.ensures.own c.if-is_whole_near.ensures.answer)
