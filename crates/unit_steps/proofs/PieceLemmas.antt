-- Pieces of texts that are joined.
use Rattle.std.proofs.Common.{◌≡◌, ◌≤◌, ◌+◌, ◌-◌, List, [], ◌∷◌, ◌++◌, length, length-append, append_assoc, take, drop, slice_range, refl, ◌∙◌, ap, arith}
use Rattle.std.proofs.lemmas.List.{take_all}
use Rattle.unit_steps.specs.Keeping.{no_text}
use Rattle.unit_steps.specs.Pieces.{mark_of, IsWithin, piece_of, joined}
use Rattle.unit_steps.specs.Texts.{UnitTextValue, text_of}

take-front : {X : Type 0} (xs more : List X) → take (length xs) (xs ++ more) ≡ xs
take-front [] more = refl
take-front {X = X} (x ∷ xs) more = ap (λ (l : List X). x ∷ l) (take-front xs more)

drop-front : {X : Type 0} (xs more : List X) → drop (length xs) (xs ++ more) ≡ more
drop-front [] more = refl
drop-front (x ∷ xs) more = drop-front xs more

-- what stands behind a list and before another one
range-between : {X : Type 0} (xs more rest : List X) → slice_range ((xs ++ more) ++ rest) (length xs) (length (xs ++ more)) ≡ more
range-between {X = X} xs more rest =
    let whole : length (xs ++ more) ≡ length xs + length more = length-append xs more in
    let len : length (xs ++ more) - length xs ≡ length more = omega (arith, whole) in
    let behind : drop (length xs) ((xs ++ more) ++ rest) ≡ more ++ rest =
    ap (λ (l : List X). drop (length xs) l) (append_assoc xs more rest) ∙ drop-front xs (more ++ rest) in
    (λ i. take (len i) (behind i)) ∙ take-front more rest

range-whole : {X : Type 0} (xs : List X) → slice_range xs 0 (length xs) ≡ xs
range-whole xs = take_all (length xs - 0) xs (omega arith)

within : {X : Type 0} (xs more rest : List X) → (length xs ≤ length (xs ++ more)) × (length (xs ++ more) ≤ length ((xs ++ more) ++ rest))
within xs more rest =
    let front : length (xs ++ more) ≡ length xs + length more = length-append xs more in
    let whole : length ((xs ++ more) ++ rest) ≡ length (xs ++ more) + length rest = length-append (xs ++ more) rest in
    (omega (arith, front), omega (arith, whole))

-- a text is all that stands between its begin and its end
pub piece-whole : (k : UnitTextValue) → piece_of (mark_of no_text) (mark_of k) k ≡ k
piece-whole k = λ i.
    text_of (range-whole k.toks i) (range-whole k.links i) (range-whole k.pasted i) (range-whole k.stringized i) (range-whole k.header i)
    (range-whole k.answers i) (range-whole k.reached i) (range-whole k.events i)

pub whole-within : (k : UnitTextValue) → IsWithin (mark_of no_text) (mark_of k) k
whole-within k = record {
  toks = (omega arith, omega arith);
  links = (omega arith, omega arith);
  pasted = (omega arith, omega arith);
  stringized = (omega arith, omega arith);
  header = (omega arith, omega arith);
  answers = (omega arith, omega arith);
  reached = (omega arith, omega arith);
  events = (omega arith, omega arith);
}

-- What was put behind a text stands between its end and the end with it, whatever came behind that.
pub piece-joined : (k more rest : UnitTextValue) → piece_of (mark_of k) (mark_of (joined k more)) (joined (joined k more) rest) ≡ more
piece-joined k more rest = λ i.
    text_of (range-between k.toks more.toks rest.toks i) (range-between k.links more.links rest.links i)
    (range-between k.pasted more.pasted rest.pasted i) (range-between k.stringized more.stringized rest.stringized i)
    (range-between k.header more.header rest.header i) (range-between k.answers more.answers rest.answers i)
    (range-between k.reached more.reached rest.reached i) (range-between k.events more.events rest.events i)

pub joined-within : (k more rest : UnitTextValue) → IsWithin (mark_of k) (mark_of (joined k more)) (joined (joined k more) rest)
joined-within k more rest = record {
  toks = within k.toks more.toks rest.toks;
  links = within k.links more.links rest.links;
  pasted = within k.pasted more.pasted rest.pasted;
  stringized = within k.stringized more.stringized rest.stringized;
  header = within k.header more.header rest.header;
  answers = within k.answers more.answers rest.answers;
  reached = within k.reached more.reached rest.reached;
  events = within k.events more.events rest.events;
}
