-- Names may begin and end items, and `)` may end them.
use Rattle.std.proofs.Common.{◌≡◌, Bool, true, false, not, ◌&&◌, ◌||◌, List, codes, refl, ap, ◌∙◌}
use Rattle.std.specs.Str.{bytes_eq}
use Rattle.std.proofs.lemmas.Bool.{and_parts}
use Rattle.std.proofs.lemmas.Slice.Eq.{bytes_eq-Decides}
use Rattle.cs_base.specs.Token.{Token}
use Rattle.line_shape.specs.Signs.{is_punctuator, is_name, is_hash, is_open, is_close}
use Rattle.line_shape.proofs.SignLemmas.{name_no_sign}
use Rattle.arranged_text_laws.specs.Lists.{may_begin, may_end}

pub names_may_begin : (t : Token) → is_name t ≡ true → may_begin t ≡ true
unfolding is_hash
names_may_begin t h =
    ap (λ (p : Bool). not ((p && bytes_eq t.text (codes "#")) || (p && bytes_eq t.text (codes "%:")))) (name_no_sign t.kind h)

pub names_may_end : (t : Token) → is_name t ≡ true → may_end t ≡ true
unfolding is_open
names_may_end t h =
    ap (λ (p : Bool). not (p && bytes_eq t.text (codes "/")) && not (p && bytes_eq t.text (codes "("))) (name_no_sign t.kind h)

pub closes_may_end : (t : Token) → is_close t ≡ true → may_end t ≡ true
unfolding is_open is_close
closes_may_end t h =
    let text = (bytes_eq-Decides t.text (codes ")")).0 (and_parts (is_punctuator t.kind) (bytes_eq t.text (codes ")")) h).1 in
    ap (λ (l : List _). not (is_punctuator t.kind && bytes_eq l (codes "/")) && not (is_punctuator t.kind && bytes_eq l (codes "("))) text ∙ never (is_punctuator t.kind)
  where
    never : (b : Bool) → (not (b && false) && not (b && false)) ≡ true
    never true = refl
    never false = refl
