-- A token is one thing.
use Rattle.std.proofs.Common.{◌≡◌, ℕ, Bool, true, false, ◌&&◌, List, codes, refl, None, Some, ap, cond, ◌||◌, ◌∙◌}
use Rattle.std.specs.Str.{bytes_eq}
use Rattle.std.proofs.lemmas.Bool.{and_parts}
use Rattle.std.proofs.lemmas.Slice.Eq.{bytes_eq-Decides}
use Rattle.std.proofs.lemmas.Option.{none-some, same_Some}
use Rattle.cs_base.proofs.FileMapLemmas.{bytes_eq-equal}
use Rattle.cs_base.specs.declared.tokens.Kind.{Kind}
use Rattle.cs_base.specs.declared.tokens.Kind.TheVariants.{Ident}
use Rattle.cs_base.specs.Token.{Token, has_origins}
use Rattle.line_shape.specs.Signs.{is_identifier, is_punctuator, is_name, is_sign, is_close, is_comma, is_ellipsis, is_hash}
use Rattle.line_shape.specs.MacroLine.{is_parameter, MacroParts}

pub kinds-apart : (k : Kind) → is_punctuator k ≡ true → is_identifier k ≡ false
kinds-apart Ident h = absurd (cc)
kinds-apart _ h = refl

pub sign-no_name : (spelling : List ℕ) (t : Token) → is_sign spelling t ≡ true → is_name t ≡ false
sign-no_name spelling t h = kinds-apart t.kind ((and_parts _ _ h).0)

-- a sign is no other sign
pub sign-no_sign : (spelling other : List ℕ) (t : Token) → is_sign spelling t ≡ true → bytes_eq spelling other ≡ false → is_sign other t ≡ false
sign-no_sign spelling other t h apart =
    let is : t.text ≡ spelling = bytes_eq-equal t.text spelling ((and_parts _ _ h).1) in
    rw ((and_parts (is_punctuator t.kind) (bytes_eq t.text spelling) h).0, is) apart

pub close-no_name : (t : Token) → is_close t ≡ true → is_name t ≡ false
unfolding is_close
close-no_name t h = sign-no_name (codes ")") t h

pub comma-no_name : (t : Token) → is_comma t ≡ true → is_name t ≡ false
unfolding is_comma
comma-no_name t h = sign-no_name (codes ",") t h

pub ellipsis-no_name : (t : Token) → is_ellipsis t ≡ true → is_name t ≡ false
unfolding is_ellipsis
ellipsis-no_name t h = sign-no_name (codes "...") t h

pub close-no_ellipsis : (t : Token) → is_close t ≡ true → is_ellipsis t ≡ false
unfolding is_close is_ellipsis
close-no_ellipsis t h = sign-no_sign (codes ")") (codes "...") t h refl

pub ellipsis-no_close : (t : Token) → is_ellipsis t ≡ true → is_close t ≡ false
unfolding is_ellipsis is_close
ellipsis-no_close t h = sign-no_sign (codes "...") (codes ")") t h refl

pub ellipsis-no_comma : (t : Token) → is_ellipsis t ≡ true → is_comma t ≡ false
unfolding is_ellipsis is_comma
ellipsis-no_comma t h = sign-no_sign (codes "...") (codes ",") t h refl

pub comma-no_close : (t : Token) → is_comma t ≡ true → is_close t ≡ false
unfolding is_comma is_close
comma-no_close t h = sign-no_sign (codes ",") (codes ")") t h refl

pub comma-no_ellipsis : (t : Token) → is_comma t ≡ true → is_ellipsis t ≡ false
unfolding is_comma is_ellipsis
comma-no_ellipsis t h = sign-no_sign (codes ",") (codes "...") t h refl

pub other-no_parameter : (t : Token) → is_name t ≡ false → is_parameter t ≡ false
other-no_parameter t h = rw h refl

pub parameter-is_name : (t : Token) → is_parameter t ≡ true → is_name t ≡ true
parameter-is_name t h = (and_parts _ _ h).0

pub name_kept : (k : Kind) → is_identifier k ≡ true → has_origins k ≡ true
name_kept Ident h = refl
name_kept _ h = absurd (cc)

pub close_no_hash : (t : Token) → is_close t ≡ true → is_hash t ≡ false
unfolding is_close is_hash
close_no_hash t h =
    let text = (bytes_eq-Decides t.text (codes ")")).0 (and_parts (is_punctuator t.kind) (bytes_eq t.text (codes ")")) h).1 in
    ap (λ (l : List ℕ). (is_punctuator t.kind && bytes_eq l (codes "#")) || (is_punctuator t.kind && bytes_eq l (codes "%:"))) text ∙ never (is_punctuator t.kind)
  where
    never : (b : Bool) → ((b && false) || (b && false)) ≡ false
    never true = refl
    never false = refl

pub name_no_sign : (k : Kind) → is_identifier k ≡ true → is_punctuator k ≡ false
name_no_sign Ident h = refl
name_no_sign _ h = absurd cc

pub cond-parts : (b : Bool) (x m : MacroParts) → cond b (Some x) None ≡ Some m → x ≡ m
cond-parts true x m e = same_Some x m e
cond-parts false x m e = absurd (none-some m e)
