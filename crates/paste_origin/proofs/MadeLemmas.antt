-- Facts on what is made.
use Rattle.std.proofs.Common.{Bool, Err, Ok, Result, ap, cond, false, subst, true, ◌≡◌}
use Rattle.paste_origin.specs.Strings.{NotAString as NoString, StringFault}
use Rattle.cs_base.specs.Token.{Token}

pub cond_made : (b : Bool) (x s : Token) → ◌≡◌ {A = Result Token StringFault} (cond b (Ok x) (Err NoString)) (Ok s) → x ≡ s
cond_made true x s e = ap value_of e
  where
    value_of : Result Token StringFault → Token
    value_of (Ok t) = t
    value_of (Err f) = x
cond_made false x s e = absurd (subst IsErr e tt)
  where
    IsErr : Result Token StringFault → Type 0
    IsErr (Ok t) = ⊥
    IsErr (Err f) = Unit {0}
