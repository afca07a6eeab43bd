-- Members by their number.
use Rattle.std.proofs.Common.{◌+◌, ◌≡◌, if◌then◌else◌, List, [], ◌∷◌, refl, ap}
use Rattle.std.specs.Prelude.{◌==◌}
use Rattle.c_types.specs.declared.declarations.Declaration.{Declaration}
use Rattle.name_chains.specs.Initializers.{number_before}
use Rattle.name_chains.specs.Places.{place_of}

pub place-number : (ds : List Declaration) (d : Declaration) → number_before ds d ≡ place_of ds d.name_at
place-number [] d = refl
place-number (e ∷ later) d = ap (λ n. if e.name_at == d.name_at then 0 else n + 1) (place-number later d)
