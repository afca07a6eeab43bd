-- Writes one after the other, and the line that they tell.
use Rattle.std.proofs.Common.{◌≡◌, ℕ, zero, suc, ◌<◌, ◌++◌, ◌∷◌, ◌∙◌, List, [], length, take, drop, get_or, Option, None, Some, Bool, true, false, refl, sym, subst, ap, append_assoc, arith}
use Rattle.std.proofs.lemmas.List.{append-nil}
use Rattle.std.specs.Prelude.{codes, map}
use Rattle.std.specs.List.{flat_map}
use Rattle.std.specs.Option.{option_map}
use Rattle.cs_base.specs.Outside.{IsFront, Writes, Faults, write_failed}
use Rattle.cs_base.specs.declared.outside.Wrote.{Wrote}
use Rattle.cs_base.specs.declared.outside.Wrote.TheVariants as wrote
use Rattle.command_words.specs.Telling.{Told}
use Rattle.command_words.specs.Message.{joined, message}

-- adding two pieces is adding both at once
pub added_twice : (p q : List ℕ) (a b c : Option (List ℕ)) → b ≡ option_map (λ bytes. bytes ++ p) a
    → c ≡ option_map (λ bytes. bytes ++ q) b → c ≡ option_map (λ bytes. bytes ++ (p ++ q)) a
added_twice p q None b c first then = rw (then, first) refl
added_twice p q (Some bytes) b c first then = rw (then, first) (ap Some (append_assoc bytes p q))

-- a front of a piece is one of the piece and what follows
pub front-before : (f p q : List ℕ) → IsFront f p → IsFront f (p ++ q)
front-before f p q front = (front.0 ++ q, rw (← append_assoc, front.1) refl)

-- a piece and a front of what follows are a front of both
pub front-behind : (f p q : List ℕ) → IsFront f q → IsFront (p ++ f) (p ++ q)
front-behind f p q front = (front.0, rw (append_assoc, front.1) refl)

-- a failed write of a piece is one of the piece and what follows
pub writes-before : (p q : List ℕ) (a b : Option (List ℕ)) → Writes p a b wrote.Failed → Writes (p ++ q) a b wrote.Failed
writes-before p q a b w = (w.0, front-before w.0 p q w.1, w.2)

-- a write that is done and one behind it are one of both pieces
pub writes-then : (w : Wrote) (p q : List ℕ) (a b c : Option (List ℕ)) → Writes p a b wrote.Done → Writes q b c w
    → Writes (p ++ q) a c w
writes-then wrote.Done p q a b c first then = added_twice p q a b c first then
writes-then wrote.Failed p q a b c first then =
    (p ++ then.0, front-behind then.0 p q then.1, added_twice p then.0 a b c first then.2)

-- a write tells its piece
pub told : (w : Wrote) (line : List ℕ) (a b : Option (List ℕ)) (faults faults' : ℕ)
    → Writes line a b w → Faults (write_failed w) faults faults' → Told line a b faults faults'
told wrote.Done line a b faults faults' w f = record {
  front = (line, ([], append-nil line), w);
  whole = λ _. w;
}
told wrote.Failed line a b faults faults' w f = record {
  front = w;
  whole = λ stays. absurd (stays (f.rises refl));
}

-- the counts of a write that is done and of one behind it
pub faults-then : (failed : Bool) (a b c : ℕ) → Faults false a b → Faults failed b c → Faults failed a c
faults-then failed a b c first then = let same : b ≡ a = first.stays refl in rw same at then

-- the pieces before one, that one, and those after it
flat_map-at : {X : Type 0} (text : X → List ℕ) (xs : List X) (i : ℕ) (d : X) → i < length xs
    → flat_map text (take i xs) ++ (text (get_or xs i d) ++ flat_map text (drop (suc i) xs)) ≡ flat_map text xs
flat_map-at text [] i d within = absurd (omega arith)
flat_map-at text (x ∷ xs) zero d within = refl
flat_map-at text (x ∷ xs) (suc i) d within =
    let within' : i < length xs = omega arith in
    append_assoc (text x) _ _ ∙ ap (λ (bytes : List ℕ). text x ++ bytes) (flat_map-at text xs i d within')

-- a failed write behind the pieces before it is a failed write of all
pub failed_piece : {X : Type 0} (text : X → List ℕ) (xs : List X) (i : ℕ) (d : X) (a b c : Option (List ℕ)) → i < length xs
    → b ≡ option_map (λ bytes. bytes ++ flat_map text (take i xs)) a → Writes (text (get_or xs i d)) b c wrote.Failed
    → Writes (flat_map text xs) a c wrote.Failed
failed_piece text xs i d a b c within before w =
    let whole = flat_map-at text xs i d within in
    let front = front-behind w.0 (flat_map text (take i xs)) (text (get_or xs i d) ++ flat_map text (drop (suc i) xs)) (front-before w.0 (text (get_or xs i d)) (flat_map text (drop (suc i) xs)) w.1) in
    (flat_map text (take i xs) ++ w.0, (front.0, front.1 ∙ whole), added_twice (flat_map text (take i xs)) w.0 a b c before w.2)

-- The three writes of a line: what each exit tells.
pub told-first : (text : List ℕ) (a b : Option (List ℕ)) (n n' : ℕ) → Writes (codes "cscout: ") a b wrote.Failed
    → Faults true n n' → Told (codes "cscout: " ++ text ++ codes "\n") a b n n'
told-first text a b n n' w f =
    told wrote.Failed _ a b n n' (writes-before _ (codes "\n") a b (writes-before (codes "cscout: ") text a b w)) f

pub told-text : (text : List ℕ) (a b c : Option (List ℕ)) (n m n' : ℕ) → Writes (codes "cscout: ") a b wrote.Done
    → Faults false n m → Writes text b c wrote.Failed → Faults true m n' → Told (codes "cscout: " ++ text ++ codes "\n") a c n n'
told-text text a b c n m n' w f w' f' =
    told wrote.Failed _ a c n n'
    (writes-before _ (codes "\n") a c (writes-then wrote.Failed (codes "cscout: ") text a b c w w')) (faults-then true n m n' f f')

pub told-line : (v : Wrote) (text : List ℕ) (a b c d : Option (List ℕ)) (n m k n' : ℕ) → Writes (codes "cscout: ") a b wrote.Done
    → Faults false n m → Writes text b c wrote.Done → Faults false m k → Writes (codes "\n") c d v → Faults (write_failed v) k n'
    → Told (codes "cscout: " ++ text ++ codes "\n") a d n n'
told-line v text a b c d n m k n' w f w' f' w'' f'' =
    told v _ a d n n'
    (writes-then v (codes "cscout: " ++ text) (codes "\n") a c d (writes-then wrote.Done (codes "cscout: ") text a b c w w') w'')
    (faults-then (write_failed v) n m n' f (faults-then (write_failed v) m k n' f' f''))

-- pieces joined are their texts, one behind the other
joined-texts : {X : Type 0} (text : X → List ℕ) (xs : List X) → joined (map text xs) ≡ flat_map text xs
joined-texts text [] = refl
joined-texts text (x ∷ xs) = ap (λ (bytes : List ℕ). text x ++ bytes) (joined-texts text xs)

-- the same of pieces
pub told-pieces : {X : Type 0} (piece : X → List ℕ) (xs : List X) (a b c : Option (List ℕ)) (n m n' : ℕ)
    → Writes (codes "cscout: ") a b wrote.Done → Faults false n m → Writes (flat_map piece xs) b c wrote.Failed → Faults true m n'
    → Told (message (map piece xs)) a c n n'
unfolding message
told-pieces piece xs a b c n m n' w f w' f' =
    let same : flat_map piece xs ≡ joined (map piece xs) = sym (joined-texts piece xs) in
    let P : List ℕ → Type 0 = λ text. Told (codes "cscout: " ++ text ++ codes "\n") a c n n' in
    subst P same (told-text (flat_map piece xs) a b c n m n' w f w' f')

pub told-pieces_line : {X : Type 0} (v : Wrote) (piece : X → List ℕ) (xs : List X) (a b c d : Option (List ℕ)) (n m k n' : ℕ)
    → Writes (codes "cscout: ") a b wrote.Done → Faults false n m → Writes (flat_map piece xs) b c wrote.Done → Faults false m k
    → Writes (codes "\n") c d v → Faults (write_failed v) k n' → Told (message (map piece xs)) a d n n'
unfolding message
told-pieces_line v piece xs a b c d n m k n' w f w' f' w'' f'' =
    let same : flat_map piece xs ≡ joined (map piece xs) = sym (joined-texts piece xs) in
    let P : List ℕ → Type 0 = λ text. Told (codes "cscout: " ++ text ++ codes "\n") a d n n' in
    subst P same (told-line v (flat_map piece xs) a b c d n m k n' w f w' f' w'' f'')
