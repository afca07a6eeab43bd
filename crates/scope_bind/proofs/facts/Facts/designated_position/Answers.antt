use Rattle.std.proofs.Common.{ℕ, ◌≡◌, List, Option, None, Some, refl, sym, ap, ◌∙◌, if◌then◌else◌}
use Rattle.std.specs.Option.{option_map, option_map_or}
use Rattle.std.proofs.lemmas.Result.{IfOk-weaker}
use Rattle.cs_base.specs.Token.{Token}
use Rattle.c_types.specs.declared.declarations.Declaration.{Declaration}
use Rattle.c_types.specs.declared.frames.Position.{Position}
use Rattle.c_types.specs.declared.frames.Position.TheVariants.{Numbered as numbered, Lost as lost}
use Rattle.c_types.specs.Types.{CType}
use Rattle.c_types.specs.Tags.{number_in}
use Rattle.c_types.specs.Declarations.{Facts}
use Rattle.name_chains.specs.Members.{members_of, member_at}
use Rattle.name_chains.specs.Initializers.{is_inner, position_of, designated_position}
use Rattle.name_chains.specs.Places.{place_found}
use Rattle.scope_bind.specs.declared.initializers.Found.{Found}
use Rattle.scope_bind.proofs.PlaceLemmas.{place-number}
use Rattle.scope_bind.proofs.facts.Facts.designated_position.Goals as goal

abbrev told : Declaration → Found
told d = record { inner = is_inner d.space; name_at = d.name_at }

by-name : (toks : List Token) (place : CType) (s : Facts) (found : Option Declaration) (member : Option Found) (number : ℕ) (at : Position)
    → number ≡ number_in place → member ≡ option_map told found
    → option_map_or (λ (m : Found). place_found (members_of number s) m.inner m.name_at) member at ≡ position_of toks place s found at
by-name toks place s None member number at e m = rw m refl
by-name toks place s (Some d) member number at e m =
    rw (e, m) (ap (λ n. if is_inner d.space then lost else numbered n) (sym (place-number (members_of (number_in place) s) d)))

pub returns : goal.returns
returns c =
    IfOk-weaker c.position_of.result
    (λ p. p ≡ option_map_or (λ (m : Found). place_found (members_of c.number_in.result c.args.self.now.facts) m.inner m.name_at) c.designated_name-member.result c.args.at)
    (λ p. p ≡ designated_position c.args.self.now.toks c.args.place.now c.args.i c.args.self.now.facts c.args.at)
    (λ p e. e
    ∙ by-name c.args.self.now.toks c.args.place.now c.args.self.now.facts (member_at c.args.self.now.toks c.args.place.now c.args.i c.args.self.now.facts)
    c.designated_name-member.result c.number_in.result c.args.at c.number_in.ensures c.designated_name-member.ensures)
    c.position_of.ensures
