-- Parts in which no odd token stands settle.
use Rattle.std.proofs.Common.{◌≡◌, ℕ, ◌+◌, true, false, List, [], ◌∷◌, ◌++◌, take, drop, refl}
use Rattle.list_cuts.specs.Cuts.{Cut, done, keep, list, Items, ended, item, span_of}
use Rattle.arranged_text_laws.specs.Settling.{settles}
use Rattle.arranged_text_laws.specs.Marks.{Before, front_at, behind_token, Mark, text}
use Rattle.arranged_text_laws.specs.Along.{SettlesAlong, ItemsSettle, GapSettles}
use Rattle.arranged_text_laws.specs.Parts.{IsEnd, IsLead, IsGap, PartsAlong, ItemsParts, PartsSettle}
use Rattle.arranged_text_laws.proofs.CalmLemmas.{calm_texts_settle}
use Rattle.arranged_text_laws.proofs.LeadLemmas.{leads_settle}

end_settles : (st : Before) (xs ys : List ℕ) → IsEnd st xs ys → settles true 0 (front_at st) xs ys ≡ true
end_settles st xs ys h = calm_texts_settle st xs ys h.calm h.whole h.token h.no_slash

lead_settles : (st : Before) (xs ys : List ℕ) → IsLead st xs ys → settles false 0 (front_at st) xs ys ≡ true
lead_settles st xs ys h = leads_settle st xs ys h.shut h.quiet h.plain h.sign h.whole h.on_line

none_settles : (st : Before) (ys : List ℕ) → settles true 0 (front_at st) [] ys ≡ true
unfolding settles
none_settles st ys = refl

gap_settles : (gap : ℕ) (more : Items) (ms : List Mark) (ys : List ℕ) → IsGap gap more ms ys → GapSettles gap more ms ys
gap_settles gap ended ms ys h = h
gap_settles gap (item n c further more) ms ys h = (h.0, lead_settles behind_token (text (take gap ms)) (text (drop gap ms) ++ ys) h.1, h.2)

mutual
  parts_along : (st : Before) (c : Cut) (ms : List Mark) (ys : List ℕ) (end : Before) → PartsAlong st c ms ys end → SettlesAlong st c ms ys end
  parts_along st done [] ys end h = (none_settles st ys, refl, h.1)
  parts_along st done (m ∷ ms) ys end h = (end_settles st (text (m ∷ ms)) ys h.0, h.0.stop, h.1)
  parts_along st (keep n c) ms ys end h =
      (h.0, lead_settles st (text (take n ms)) (text (drop n ms) ++ ys) h.1, (h.2.0, h.2.1, parts_along h.2.0 c (drop n ms) ys end h.2.2))
  parts_along st (list is c) ms ys end h = (h.0, items_parts is ms ys h.1, h.2, parts_along behind_token c (drop (span_of is) ms) ys end h.3)

  items_parts : (is : Items) (ms : List Mark) (ys : List ℕ) → ItemsParts is ms ys → ItemsSettle is ms ys
  items_parts ended ms ys h = tt
  items_parts (item n c gap more) ms ys h = (
    h.0,
    h.1,
    h.2,
    parts_along behind_token c (take n ms) (text (drop n ms) ++ ys) behind_token h.3,
    gap_settles gap more (drop n ms) ys h.4,
    items_parts more (drop (n + gap) ms) ys h.5,
  )

pub parts_settle : PartsSettle
parts_settle = parts_along
