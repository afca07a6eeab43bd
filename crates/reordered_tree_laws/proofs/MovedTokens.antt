-- A token is read in two texts that go together.
use Rattle.std.proofs.Common.{ℕ, ◌+◌, ◌≡◌, Bool, true, false, ◌&&◌, if◌then◌else◌, ◌==◌, List, Option, refl, sym, ap, subst, ◌∙◌, arith}
use Rattle.std.specs.Prelude.{◌%◌}
use Rattle.std.specs.Option.{option_map}
use Rattle.cs_base.specs.Token.{Token}
use Rattle.c99_tree.specs.declared.production.Production.{Production}
use Rattle.c99_tree.specs.declared.production.Production.TheVariants.{Main, Params, Statement, SuRest, EnRest, Designator, Primary, Post}
use Rattle.c_types.specs.declared.entity.EntityKind.TheVariants.{Parameter}
use Rattle.c_types.specs.declared.entity.Linkage.TheVariants.{Absent}
use Rattle.c_types.specs.declared.frames.Position.{Position}
use Rattle.c_types.specs.Types.{CType, arithmetic, is_unknown, target_of}
use Rattle.c_types.specs.Declarations.{Facts}
use Rattle.name_chains.specs.Frames.{State, state}
use Rattle.name_chains.specs.Members.{member_used, member_type}
use Rattle.scope_bind.specs.Named.{Frame, Role}
use Rattle.scope_bind.specs.Ordinary.{is_func}
use Rattle.scope_bind.specs.Roles.{role_if, role_of}
use Rattle.scope_bind.specs.Walk.{facts_at, found_at, position_at, passed_as, passed}
use Rattle.scope_bind.specs.Moved.{moved_type, moved_frame, AreMovedTexts}
use Rattle.reordered_tree_laws.specs.Moving.{GoTogether, FramesGo, StatesGo}
use Rattle.reordered_tree_laws.proofs.MovedFacts.{further, further_ahead, jump_moves}
use Rattle.scope_bind.proofs.MovedTypes.{target_moved, unknown_same}
use Rattle.reordered_tree_laws.proofs.MovedNames.{ScopeGoes, used_moves, used_type_moved, func_same, named_moves, named_type_moved, declared_moves, tag_moves, tag_type_moved, enumeration_moves, enumeration_type_moved}
use Rattle.reordered_tree_laws.proofs.MovedMembers.{member_used_moves, member_type_moved, designated_moves, designated_type_moved, designated_position_moved, label_moves}

module _ (m : ℕ → ℕ) (old new : List Token) (law : AreMovedTexts m old new) where
  -- the token i has just been read in both
  module _ (lo there i : ℕ) (behind : i + 1 ≡ lo) (beyond : m i + 1 ≡ there) (fr : Frame) (token to : ℕ) (kept : Option ℕ)
      (sc : ScopeGoes m lo there fr.scope to) (f g : Facts) (k : GoTogether m old new lo there f g) where
    abbrev gr : Frame
    gr = moved_frame m token to kept fr

    record TokenMoves (r : Role) : Type 0 where
      facts : GoTogether m old new lo there (facts_at old r i fr f) (facts_at new r (m i) gr g)
      found : found_at new r (m i) gr g ≡ moved_type m (found_at old r i fr f)
      position : position_at new r (m i) gr g ≡ position_at old r i fr f

    plain_moves : TokenMoves (role_if false (role_of Primary 1 0))
    plain_moves = record { facts = k; found = refl; position = refl }

    primary_moves : (c : Bool) → TokenMoves (role_if c (role_of Primary 1 0))
    primary_moves false = plain_moves
    primary_moves true = record {
      facts = named_moves m old new law lo there i behind beyond f g k (is_func old fr i) (is_func new gr (m i))
          (func_same m old new law lo there i behind beyond f g k fr token to kept i);
      found = named_type_moved m old new law lo there i behind beyond f g k (is_func old fr i) (is_func new gr (m i))
          (func_same m old new law lo there i behind beyond f g k fr token to kept i);
      position = refl;
    }

    type_name_moves : (c : Bool) → TokenMoves (role_if c (role_of Main 4 0))
    type_name_moves false = plain_moves
    type_name_moves true = record {
      facts = used_moves m old new law lo there i behind beyond f g k;
      found = used_type_moved m old new law lo there i behind beyond f g k;
      position = refl;
    }

    listed_moves : (c : Bool) → TokenMoves (role_if c (role_of Params 1 0))
    listed_moves false = plain_moves
    listed_moves true = record {
      facts = declared_moves m old new law lo there i behind beyond f g k fr.scope to sc i Parameter arithmetic Absent false true;
      found = refl;
      position = refl;
    }

    tags_move : (c : Bool) → TokenMoves (role_if c (role_of SuRest 1 0))
    tags_move false = plain_moves
    tags_move true = record {
      facts = tag_moves m old new law lo there i behind beyond f g k fr token to kept sc;
      found = tag_type_moved m old new law lo there i behind beyond f g k fr token to kept sc;
      position = refl;
    }

    enumeration_tags_move : (c : Bool) → TokenMoves (role_if c (role_of EnRest 1 0))
    enumeration_tags_move false = plain_moves
    enumeration_tags_move true = record {
      facts = enumeration_moves m old new law lo there i behind beyond f g k fr token to kept sc fr.has_body;
      found = enumeration_type_moved m old new law lo there i behind beyond f g k fr token to kept sc fr.has_body;
      position = refl;
    }

    pointed_moves : (c : Bool) → TokenMoves (role_if c (role_of Post 4 1))
    pointed_moves false = plain_moves
    pointed_moves true =
        let t : CType = target_of fr.given in
        let same : target_of gr.given ≡ moved_type m t = target_moved m fr.given in
        record {
          facts = subst (λ x. GoTogether m old new lo there (member_used old t i f) (member_used new x (m i) g)) (sym same)
              (member_used_moves m old new law lo there f g k t i);
          found = ap (λ x. member_type new x (m i) arithmetic g) same ∙ member_type_moved m old new law lo there f g k t i arithmetic refl;
          position = refl;
        }

    members_move : (c d : Bool) → TokenMoves (if c then role_of Post 3 1 else role_if d (role_of Post 4 1))
    members_move false d = pointed_moves d
    members_move true d = record {
      facts = member_used_moves m old new law lo there f g k fr.given i;
      found = member_type_moved m old new law lo there f g k fr.given i arithmetic refl;
      position = refl;
    }

    designators_move : (c : Bool) → TokenMoves (role_if c (role_of Designator 1 1))
    designators_move false = plain_moves
    designators_move true = record {
      facts = designated_moves m old new law lo there f g k fr.given i (is_unknown fr.given) (is_unknown gr.given) (unknown_same m fr.given);
      found = designated_type_moved m old new law lo there f g k fr.given i;
      position = designated_position_moved m old new law lo there f g k fr.given i fr.position;
    }

    jumps_move : (c : Bool) → TokenMoves (role_if c (role_of Statement 10 1))
    jumps_move false = plain_moves
    jumps_move true = record { facts = jump_moves m old new law lo there f g k i; found = refl; position = refl }

    labels_move : (c d : Bool) → TokenMoves (if c then role_of Statement 1 0 else role_if d (role_of Statement 10 1))
    labels_move false d = jumps_move d
    labels_move true d = record { facts = label_moves m old new law lo there f g k fr.body i; found = refl; position = refl }

    token_moves : (p : Production) (a n : ℕ) → TokenMoves (role_of p a n)
    token_moves Primary a n = primary_moves (a == 1)
    token_moves Main a n = type_name_moves ((a == 4) && (n == 0))
    token_moves SuRest a n = tags_move ((a == 1) && (n == 0))
    token_moves EnRest a n = enumeration_tags_move ((a == 1) && (n == 0))
    token_moves Params a n = listed_moves ((a == 1) && (n % 2 == 0))
    token_moves Post a n = members_move ((a == 3) && (n == 1)) ((a == 4) && (n == 1))
    token_moves Designator a n = designators_move ((a == 1) && (n == 1))
    token_moves Statement a n = labels_move ((a == 1) && (n == 0)) ((a == 10) && (n == 1))
    token_moves _ a n = plain_moves

    passed_moves : (own keeps : Bool) (p : Production) (a n : ℕ) → (keeps ≡ true → kept ≡ option_map m fr.kept)
        → StatesGo m old new own keeps lo there (passed_as old (role_of p a n) i (state f fr)) (passed_as new (role_of p a n) (m i) (state g gr))
    passed_moves own keeps p a n list =
        let r : Role = role_of p a n in
        let b : TokenMoves r = token_moves p a n in
        record {
          facts = b.facts;
          frame = record {
            same = ap (λ (x : CType). record gr { nth = fr.nth + 1; token = m i; found = x; position = position_at new r (m i) gr g }) b.found
                ∙ ap (λ (x : Position). record gr { nth = fr.nth + 1; token = m i; found = moved_type m (found_at old r i fr f); position = x }) b.position;
            token = λ e. refl;
            kept = list;
            ends = sc.ends;
            outer = sc.outer;
          };
        }

  pub token_goes : (own keeps any : Bool) (lo there i : ℕ) (s t : State) → i ≡ lo → m i ≡ there → StatesGo m old new own keeps lo there s t
      → StatesGo m old new any keeps (lo + 1) (there + 1) (passed old i s) (passed new there t)
  token_goes own keeps any lo there i s t here over k =
      let fr : FramesGo m old new own keeps lo there s.frame t.frame = k.frame in
      let sc : ScopeGoes m (lo + 1) (there + 1) s.frame.scope t.frame.scope.to = record {
        ends = λ n a. fr.ends n (further_ahead m old new law lo there (lo + 1) (there + 1) n (omega arith) (omega arith) a);
        outer = fr.outer;
      } in
      subst (λ (j : ℕ). StatesGo m old new any keeps (lo + 1) (there + 1) (passed old i s) (passed new j t)) over
      (subst (λ (x : Frame). StatesGo m old new any keeps (lo + 1) (there + 1) (passed old i s) (passed new (m i) (state t.facts x))) (sym fr.same)
      (passed_moves (lo + 1) (there + 1) i (omega (arith, here)) (omega (arith, over)) s.frame t.frame.token t.frame.scope.to t.frame.kept sc s.facts t.facts
      (further m old new law lo there (lo + 1) (there + 1) s.facts t.facts (omega arith) (omega arith) k.facts) any keeps
      s.frame.label.production s.frame.label.alternative s.frame.nth fr.kept))
