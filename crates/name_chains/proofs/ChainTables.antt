-- The tables of the declarations.
use Rattle.std.proofs.Common.{ℕ, ◌+◌, ◌≡◌, true, List, [], ◌∷◌, ◌++◌, length, take, reverse, sym, ap, subst, ◌∙◌, inl, inr, arith}
use Rattle.std.specs.Prelude.{filter}
use Rattle.std.proofs.lemmas.List.{length_push, get_or_append_left, get_or_push}
use Rattle.std.proofs.Math.Seq.{take-append_seam}
use Rattle.cs_base.specs.Token.{Token}
use Rattle.c_types.specs.declared.declarations.Declaration.{Declaration}
use Rattle.name_chains.specs.declared.structures.Rank.{Rank}
use Rattle.name_chains.specs.Places.{is_member_of}
use Rattle.name_chains.specs.Ranks.{no_rank, rank_at, IsRank, AreRanked}
use Rattle.name_chains.specs.Links.{Links, with_link, TellsSame, HasRoom, has_key, AreChained, IsLeft}
use Rattle.name_chains.specs.Linked.{linkage_key_of}
use Rattle.name_chains.specs.Chains.{name_key_of, member_key_of, found_key_of, with_end, lasts, IsTabled}
use Rattle.name_chains.proofs.ChainedMore.{get_front, take_front, chained_more, chained_same, ended_more}
use Rattle.name_chains.proofs.ChainedOver.{over_more}

-- room is made in a chain, and one declaration more is linked
pub linked_more : (key_of : Declaration → ℕ) (xs : List Declaration) (d : Declaration) (count key : ℕ) (old room new : Links)
    → AreChained key_of xs old → count ≡ length xs → key ≡ key_of d → TellsSame old room → HasRoom room count key
    → new ≡ with_link count key room → AreChained key_of (xs ++ d ∷ []) new
linked_more key_of xs d count key old room new a c k same fits e =
    rw (e, k, c)
    (chained_more key_of xs room d (chained_same key_of xs old room a same)
    (subst (λ m. HasRoom room m (key_of d)) c (subst (HasRoom room count) k fits)))

-- a rank more
pub ranked_more : (xs : List Declaration) (ranks : List Rank) (d : Declaration) (rank : Rank) → AreRanked xs ranks
    → ((number : ℕ) → is_member_of number d ≡ true → IsRank number d.name_at xs rank) → AreRanked (xs ++ d ∷ []) (ranks ++ rank ∷ [])
ranked_more xs ranks d rank a new =
    let is : ℕ → Declaration → List Declaration → Rank → Type 0 = λ number e ys r. IsRank number e.name_at ys r in
    record {
      each = omega (arith, length_push xs d, length_push ranks rank, a.each);
      told = λ k number e h holds. elim (get_front xs d k e h) [
        | inl at ↦
            subst (is number e (take k (xs ++ d ∷ []))) (sym (get_or_append_left ranks (rank ∷ []) no_rank k (omega (arith, at.0, a.each))))
            (subst (λ ys. is number e ys (rank_at ranks k)) (sym (take_front xs (d ∷ []) k at.0)) (a.told k number e at.1 holds))
        | inr last ↦
            subst (is number e (take k (xs ++ d ∷ []))) (sym (get_or_push ranks rank no_rank k (a.each ∙ sym last.0)))
            (subst (λ ys. is number e ys rank) (sym (ap (λ j. take j (xs ++ d ∷ [])) last.0 ∙ take-append_seam xs (d ∷ [])))
            (subst (λ f. is number f xs rank) (sym last.1) (new number (subst (λ f. is_member_of number f ≡ true) last.1 holds))))
      ];
    }

pub tabled_more : (toks : List Token) (numbers : List ℕ) (xs : List Declaration) (names linked structures found : Links) (over ends : List ℕ) (ranks : List Rank) (d : Declaration)
    (rank : Rank) (count place : ℕ) (xs' : List Declaration) (names' linked' structures' found' : Links) (over' ends' : List ℕ) (ranks' : List Rank)
    → IsTabled toks numbers xs names linked structures found over ends ranks → count ≡ length xs
    → AreChained (name_key_of numbers) (xs ++ d ∷ []) names' → AreChained (linkage_key_of numbers) (xs ++ d ∷ []) linked'
    → AreChained member_key_of (xs ++ d ∷ []) structures' → AreChained found_key_of (xs ++ d ∷ []) found'
    → IsLeft (has_key (name_key_of numbers) (name_key_of numbers d)) (filter (lasts (name_key_of numbers) (name_key_of numbers d) d.from)) xs (reverse xs) place
    → ((number : ℕ) → is_member_of number d ≡ true → IsRank number d.name_at xs rank)
    → xs' ≡ xs ++ d ∷ [] → over' ≡ over ++ place ∷ [] → ends' ≡ with_end d.to (count + 1) ends → ranks' ≡ ranks ++ rank ∷ []
    → IsTabled toks numbers xs' names' linked' structures' found' over' ends' ranks'
tabled_more toks numbers xs names linked structures found over ends ranks d rank count place xs' names' linked' structures' found' over' ends' ranks' a c named joined owned held left new g o h r =
    rw (g, o, h, r, c)
    (record {
      numbered = a.numbered;
      named = named;
      joined = joined;
      passed = over_more (name_key_of numbers) xs over d place a.passed left;
      owned = owned;
      held = held;
      ended = ended_more xs ends d a.ended;
      ranked = ranked_more xs ranks d rank a.ranked new;
    })
