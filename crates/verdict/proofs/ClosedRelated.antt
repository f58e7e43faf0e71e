-- A set of proper situations in which every permitted move of either side has an answer that leads back into the set: terms whose forms are the
-- parts of a member are related. The soundness of the verdict is the instance of the survivors (Soundness). Assumes nothing.
use mathlib.Core.Path.{◌≡◌, sym, ◌∙◌, ap, subst, subst₂}
use mathlib.Core.List.{List}
use Prim.Native.Nat.{ℕ}
use Rattle.calculus.specs.Term.{Term, ren}
use Rattle.calculus.specs.Cond.{Cond, Pairs, cls}
use Rattle.calculus.specs.Distinction.{Apart, Resp}
use Rattle.calculus.specs.Free.{In}
use Rattle.calculus.specs.Definitions.{Defs}
use Rattle.calculus.specs.OpenBisimulation.{Rel, flip, update, Answered, Related}
use Rattle.calculus.specs.Published.{Action, bound_names, Transition}
use Rattle.calculus.proofs.Renaming.{ren_id}
use Rattle.calculus.proofs.UpToRenaming.{Cl}
use Rattle.calculus.proofs.PublishedBisimulation.{AwayFrom, SearchBisimulation}
use Rattle.calculus.proofs.Theorems.{related_any_fresh}
use Rattle.steps.proofs.FormLaws.{Form, SoMoves, form_free}
use Rattle.field.specs.Setting.{Setting}
use Rattle.field.specs.Situation.{Situation, Proper, situation}
use Rattle.field.specs.Field.{fresh, Move}
use Rattle.field.proofs.Link.{first_moves, second_moves, ResultOf}
use Rattle.field.proofs.FormedParts.{update_formed}
use Rattle.field.proofs.NewNames.{new_away}
use Rattle.field.proofs.Proper.{situation_apart}

module _ (Δ : Defs) (S : Setting) (X : Situation → Type 0) where
  -- A move has an answer that leads into X.
  pub record Led (make : Term → Term → Pairs → Situation) (D : Pairs) {x : ℕ} {P : Term} (Q : Term) (m : Move Δ S x P) : Type 0 where
    pub there : Situation
    pub inside : X there
    pub reached : ResultOf Δ S make D Q m there

  -- what the two sides of a situation of X answer
  pub record Answering (s : Situation) : Type 0 where
    pub first : (m : Move Δ S (fresh Δ S s) s.first) → Resp m.condition s.apart → Led (first_moves Δ S) s.apart s.second m
    pub second : (m : Move Δ S (fresh Δ S s) s.second) → Resp m.condition s.apart → Led (second_moves Δ S) s.apart s.first m

module _ (Δ : Defs) (S : Setting) (formed : Form S.form) (arities : List ℕ) (X : Situation → Type 0)
    (proper : (s : Situation) → X s → Proper S.names arities s) (answering : (s : Situation) → X s → Answering Δ S X s) where
  abbrev member : Term → Term → Pairs → Situation
  member P Q D = record { first = S.form P; second = S.form Q; apart = D }

  abbrev R : Rel
  R D P Q = X (member P Q D)

  -- A member of X has the pairs of the distinction that it was cut from.
  from_cut : (A B : Term) (D E : Pairs) → ((a b : ℕ) → Apart D a b → Apart E a b) → X (situation S.names (S.form A) (S.form B) D) → Cl R E A B
  unfolding situation
  from_cut A B D E more k = record {
    dist = (situation S.names (S.form A) (S.form B) D).apart;
    left = A;
    right = B;
    sub = λ n. n;
    rel = k;
    irr = (proper (situation S.names (S.form A) (S.form B) D) k).distinction;
    lefts = sym (ren_id A);
    rights = sym (ren_id B);
    covers = λ a b d i j. more a b (situation_apart S.names (S.form A) (S.form B) D a b d).0;
  }

  -- terms of one form, rewritten
  rewritten : (M : Cond) (A B : Term) → S.form A ≡ S.form B → S.form (ren (cls M) A) ≡ S.form (ren (cls M) B)
  rewritten M A B e = formed.renamed (cls M) A ∙ ap (ren (cls M)) e ∙ sym (formed.renamed (cls M) B)

  -- the move of its form that a transition of P makes, and the transition of Q that a move of its form makes
  forth : (P : Term) {M : Cond} {α : Action} {P' : Term} → Transition Δ P M α P' → SoMoves S.form Δ (S.form P) M α P'
  forth P t = formed.moves Δ P (S.form P) (sym (formed.again P)) t

  back : (Q : Term) {M : Cond} {α : Action} {Q' : Term} → Transition Δ (S.form Q) M α Q' → SoMoves S.form Δ Q M α Q'
  back Q t = formed.moves Δ (S.form Q) Q (formed.again Q) t

  -- the name that they bind
  abbrev name : Term → Term → Pairs → ℕ
  name P Q D = fresh Δ S (member P Q D)

  module _ (P Q : Term) (D : Pairs) (k : X (member P Q D)) where
    answer-first : {M : Cond} {α : Action} {P' : Term} → Transition Δ P M α P' → ((y : ℕ) → In y (bound_names α) → y ≡ name P Q D) → Resp M D
        → Answered Δ (Cl R) D P M α P' Q
    answer-first {M} {α} {P'} t b h =
        let u = forth P t in
        let m : Move Δ S (name P Q D) (S.form P) = record { condition = M; action = α; result = u.result; transition = u.transition; binds = b } in
        let o = (answering (member P Q D) k).first m h in
        let n = o.reached.answer in
        let v = back Q n.transition in
        record {
          condition = n.condition;
          action = n.action;
          result = v.result;
          transition = v.transition;
          implied = o.reached.matches.implied;
          equal = o.reached.matches.equal;
          related = from_cut P' (ren (cls M) v.result) (update D (S.form P) (S.form Q) α M) (update D P Q α M) (update_formed formed D P Q α M)
              (subst₂ (λ A B. X (situation S.names A B (update D (S.form P) (S.form Q) α M)))
              u.formed (rewritten M n.result v.result (sym v.formed)) (subst X o.reached.result o.inside));
        }

  -- Q is the first part
  module _ (P Q : Term) (D : Pairs) (k : X (member Q P D)) where
    answer-second : {M : Cond} {α : Action} {P' : Term} → Transition Δ P M α P' → ((y : ℕ) → In y (bound_names α) → y ≡ name Q P D) → Resp M D
        → Answered Δ (flip (Cl R)) D P M α P' Q
    answer-second {M} {α} {P'} t b h =
        let u = forth P t in
        let m : Move Δ S (name Q P D) (S.form P) = record { condition = M; action = α; result = u.result; transition = u.transition; binds = b } in
        let o = (answering (member Q P D) k).second m h in
        let n = o.reached.answer in
        let v = back Q n.transition in
        record {
          condition = n.condition;
          action = n.action;
          result = v.result;
          transition = v.transition;
          implied = o.reached.matches.implied;
          equal = o.reached.matches.equal;
          related = from_cut (ren (cls M) v.result) P' (update D (S.form P) (S.form Q) α M) (update D P Q α M) (update_formed formed D P Q α M)
              (subst₂ (λ A B. X (situation S.names A B (update D (S.form P) (S.form Q) α M)))
              (rewritten M n.result v.result (sym v.formed)) u.formed (subst X o.reached.result o.inside));
        }

  away : (P Q : Term) (D : Pairs) → X (member P Q D) → AwayFrom (name P Q D) P Q D
  away P Q D k =
      let a = new_away S.names arities (member P Q D) (proper (member P Q D) k) in
      record {
        left = λ f. a.left (form_free formed (name P Q D) P f);
        right = λ f. a.right (form_free formed (name P Q D) Q f);
        dist = a.dist;
      }

  closed_bisimulates : SearchBisimulation Δ R
  closed_bisimulates = record {
    forth = record {
      name = λ {D} {P} {Q} k. name P Q D;
      away = λ {D} {P} {Q} k. away P Q D k;
      answer = λ {D} {P} {Q} k {M} {α} {P'} t b h. answer-first P Q D k t b h;
    };
    -- P is the second part
    back = record {
      name = λ {D} {P} {Q} k. name Q P D;
      away = λ {D} {P} {Q} k.
          let a = away Q P D k in
          record { left = a.right; right = a.left; dist = a.dist };
      answer = λ {D} {P} {Q} k {M} {α} {P'} t b h. answer-second P Q D k t b h;
    };
  }

  pub closed_related : (P Q : Term) (D : Pairs) → X (record { first = S.form P; second = S.form Q; apart = D }) → Related Δ D P Q
  closed_related P Q D k = related_any_fresh Δ closed_bisimulates (proper (member P Q D) k).distinction k
