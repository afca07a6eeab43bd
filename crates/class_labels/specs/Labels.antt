-- Characters, parts and classes by number, and what one step of a join makes of them.
use Rattle.std.specs.Prelude.{ℕ, ◌+◌, ◌-◌, zero, suc, Bool, ◌&&◌, cond, nat_eq, nat_lt, nat_le, List, [], ◌∷◌, ◌++◌, length, map, slice_index_or, slice_set}
use Rattle.class_labels.specs.declared.spots.Spot.{Spot}

-- For each character, in the order of adding, the class of its part and its offset in it; for each class
-- number that was given, the first characters of its parts in the order of the walk, and the length of
-- each of its parts. A number whose parts went over to another class has no parts.
pub record Labels : Type 0 where
  pub spots : List Spot
  pub walks : List (List ℕ)
  pub lengths : List ℕ

abbrev pub no_labels : Labels
no_labels = record { spots = []; walks = []; lengths = [] }

abbrev pub spot : ℕ → ℕ → Spot
spot c o = record { class = c; offset = o }

abbrev pub walk_at : Labels → ℕ → List ℕ
walk_at t c = slice_index_or t.walks c []

abbrev pub length_at : Labels → ℕ → ℕ
length_at t c = slice_index_or t.lengths c 0

abbrev pub spot_at : Labels → ℕ → Spot
spot_at t i = slice_index_or t.spots i (spot 0 0)

abbrev pub class_at : Labels → ℕ → ℕ
class_at t i = (spot_at t i).class

-- whether a character lies in class c, k or more characters into its part
abbrev pub goes : ℕ → ℕ → Spot → Bool
goes c k s = nat_eq s.class c && nat_le k s.offset

-- the labels of a part of n characters
unfoldable pub fresh_part : ℕ → ℕ → List Spot
fresh_part c zero = []
fresh_part c (suc n) = fresh_part c n ++ spot c n ∷ []

-- n more characters are a part in a class of its own, whose number is the least never given
unfoldable pub added : ℕ → Labels → Labels
added n t = record {
  spots = t.spots ++ fresh_part (length t.walks) n;
  walks = t.walks ++ (length t.spots ∷ []) ∷ [];
  lengths = t.lengths ++ n ∷ [];
}

-- the characters of class c from offset k on become a part of class n
abbrev pub moved : ℕ → ℕ → ℕ → Spot → Spot
moved c k n s = cond (goes c k s) (spot n (s.offset - k)) s

-- each part of class c is cut after k characters: the second halves get the least number never given
unfoldable pub cut : ℕ → ℕ → Labels → Labels
cut c k t = record {
  spots = map (moved c k (length t.walks)) t.spots;
  walks = t.walks ++ map (λ x. x + k) (walk_at t c) ∷ [];
  lengths = slice_set t.lengths c k ++ (length_at t c - k) ∷ [];
}

-- the parts of class b go over to class a
unfoldable pub united : ℕ → ℕ → Labels → Labels
united a b t = record {
  spots = map (moved b 0 a) t.spots;
  walks = slice_set (slice_set t.walks a (walk_at t a ++ walk_at t b)) b [];
  lengths = t.lengths;
}

-- the parts of two classes are made equally long
abbrev pub leveled : ℕ → ℕ → Labels → Labels
leveled c d t =
    cond (nat_lt (length_at t c) (length_at t d)) (cut d (length_at t c) t)
    (cond (nat_lt (length_at t d) (length_at t c)) (cut c (length_at t d) t) t)

-- two classes become one: the one with fewer parts gets the other's number, the second where both have equally many
abbrev pub merged : ℕ → ℕ → Labels → Labels
merged c d t =
    cond (nat_eq c d) t
    (cond (nat_lt (length (walk_at t c)) (length (walk_at t d))) (united d c t) (united c d t))

-- how many parts that gives another number
abbrev pub moved_parts : ℕ → ℕ → Labels → ℕ
moved_parts c d t =
    cond (nat_eq c d) 0
    (cond (nat_lt (length (walk_at t c)) (length (walk_at t d))) (length (walk_at t c)) (length (walk_at t d)))

-- how long the parts that begin at two characters are once they are equally long
abbrev pub common : Labels → ℕ → ℕ → ℕ
common t c d = cond (nat_lt (length_at t c) (length_at t d)) (length_at t c) (length_at t d)

-- the parts of classes c and d are joined
unfoldable pub step : ℕ → ℕ → Labels → Labels
step c d t = merged c d (leveled c d t)

-- how many parts that gives another number
unfoldable pub step_parts : ℕ → ℕ → Labels → ℕ
step_parts c d t = moved_parts c d (leveled c d t)

-- two lists of characters are joined, part by part; the first `skip` of each are joined already
unfoldable pub joined : ℕ → List ℕ → List ℕ → Labels → Labels
joined skip [] ys t = t
joined skip (x ∷ xs) [] t = t
joined (suc k) (x ∷ xs) (y ∷ ys) t = joined k xs ys t
joined zero (x ∷ xs) (y ∷ ys) t =
    joined (common t (class_at t x) (class_at t y) - 1) xs ys (step (class_at t x) (class_at t y) t)

-- how many parts that gives another number, step by step
unfoldable pub joined_parts : ℕ → List ℕ → List ℕ → Labels → ℕ
joined_parts skip [] ys t = 0
joined_parts skip (x ∷ xs) [] t = 0
joined_parts (suc k) (x ∷ xs) (y ∷ ys) t = joined_parts k xs ys t
joined_parts zero (x ∷ xs) (y ∷ ys) t =
    step_parts (class_at t x) (class_at t y) t
    + joined_parts (common t (class_at t x) (class_at t y) - 1) xs ys (step (class_at t x) (class_at t y) t)
