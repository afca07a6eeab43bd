-- The weight of a table, which grows with each part that a join gives another number.
use Rattle.std.specs.Prelude.{ℕ, ◌+◌, ◌-◌, ◌*◌, ◌/◌, ◌&&◌, not, cond, nat_eq, nat_lt, List, [], ◌∷◌, zero, suc, length}
use Rattle.std.specs.List.{sum_by}
use Rattle.class_labels.specs.declared.spots.Spot.{Spot}
use Rattle.class_labels.specs.Labels.{Labels}

-- how often n can be halved until nothing is left, at most `most` times
unfoldable pub digits_within : ℕ → ℕ → ℕ
digits_within zero n = 0
digits_within (suc most) n = cond (nat_lt 0 n) (1 + digits_within most (n / 2)) 0

-- the number of binary digits
abbrev pub digits : ℕ → ℕ
digits n = digits_within n n

-- the weight of a class of s parts: s times one less than the number of binary digits of s
abbrev pub weight_of : ℕ → ℕ
weight_of s = s * (digits s - 1)

-- the sum over the classes
unfoldable pub weight : Labels → ℕ
weight t = sum_by (λ walk. weight_of (length walk)) t.walks

-- how many parts there are
unfoldable pub part_count : Labels → ℕ
part_count t = sum_by (λ (walk : List ℕ). length walk) t.walks

-- whether a character that began a part is labelled with another class number afterwards: 1 or 0
abbrev pub changed : Spot → Spot → ℕ
changed s r = cond (nat_eq s.offset 0 && not (nat_eq s.class r.class)) 1 0

-- how many such characters there are
unfoldable pub relabelled : List Spot → List Spot → ℕ
relabelled [] rs = 0
relabelled (s ∷ ss) [] = 0
relabelled (s ∷ ss) (r ∷ rs) = changed s r + relabelled ss rs
