-- The rules of Table 4.1 on labels are the rules on candidates. Assumes nothing.
use mathlib.Core.Path.{◌≡◌, refl, sym, ap, ap₂, subst, ◌∙◌}
use mathlib.Core.Bool.{Bool, true, false}
use mathlib.Core.List.{List, ◌∷◌, ◌++◌}
use Prim.Native.Nat.{ℕ, zero, suc, ◌+◌, ◌<◌, ◌≤◌}
use native.Mathlib.Omega.{arith}
use Rattle.calculus.specs.Abstraction.{Act, tau_a, inp_a, out_a, bout_a}
use Rattle.calculus.specs.Cond.{Cond, map_p}
use Rattle.calculus.specs.Term.{Term}
use Rattle.calculus.proofs.Renaming.{map-++}
use Rattle.terms.specs.Limits.{name_count}
use Rattle.steps.specs.Raw.{Candidate, step, blocked, matching, meet, communication, restricted_alone, outside, restricted_action, restricted}
use Rattle.steps_conditions.specs.Slots.{slot_of, slot_count, HasSlotClasses, HasClasses, Below}
use Rattle.steps_conditions.specs.Conditions.{MergedIs, BothIs, AloneIs}
use Rattle.steps_conditions.specs.Labels.{input_on, new_output_on, action_of, ActionBelow, HeaderIs, Labels, MatchingIs, RestrictedIs, OutsideIs, received_by, meeting_of, MetIs, CommunicationIs}
use Rattle.steps_conditions.specs.declared.action.Action.{Action}
use Rattle.steps_conditions.specs.declared.action.Action.TheVariants.{Silent, Input, Output, NewOutput}
use Rattle.steps_conditions.specs.declared.action.Label.{Label}
use Rattle.std.specs.Prelude.{Option, Some, None}
use Rattle.steps_conditions.proofs.NameSlots.{slot_inner}
use Rattle.steps_conditions.proofs.SlotLaws.{slot-restricted, slot-outside, below_slots, below_more, below-append, classes_outside, below-outside}

some-none : (r : Label) → Some r ≡ None → ⊥
some-none r e = let z : ◌≡◌ {A = ℕ} 0 1 = cc in omega arith

module _ (d : ℕ) (T : Candidate → Type 0) where
  -- no label is that of a blocked candidate,
  when_blocked : T blocked → (c : Candidate) → Labels d c None → T c
  unfolding Labels
  when_blocked t (step M α P) h = elim h [ ]
  when_blocked t blocked h = t

  -- and a label that of a step
  when_found : (r : Label) → ((M : Cond) (α : Act) (P : Term) → HeaderIs d M α r → T (step M α P)) → (c : Candidate) → Labels d c (Some r) → T c
  unfolding Labels
  when_found r t (step M α P) h = t M α P h
  when_found r t blocked h = absurd (some-none r h)

-- [Match]
module _ (s : Option Label) (a b : ℕ) where
  pub matching-blocked : s ≡ None → MatchingIs s a b None
  unfolding Labels matching
  matching-blocked e = rw e (record { is = λ d x y c ex ey hx hy. when_blocked d (λ c. Labels d (matching x y c) None) refl c })

  pub matching-found : (l r : Label) → s ≡ Some l → r.action ≡ l.action
      → MergedIs l.condition.class a b r.condition.class → MatchingIs s a b (Some r)
  unfolding Labels matching MergedIs HasClasses HasSlotClasses Below
  matching-found l r e k m = rw e (record {
    is = λ d x y c ex ey hx hy. when_found d (λ c. Labels d (matching x y c) (Some r)) l
        (λ M α P h. record {
          classes = rw (ex, ey) at (m (map_p (slot_of name_count d) M) h.classes);
          action = k ∙ h.action;
          below = (hx, hy, h.below);
          names = h.names;
        }) c;
  })

-- [Res] and [Open]. The restricted name is the name n of no part of the action,
abbrev pub Avoids : ℕ → Action → Type 0
Avoids n Silent = Unit {0}
Avoids n (Input a b) = a ≡ n → ⊥
Avoids n (Output a b) = (a ≡ n → ⊥) × (b ≡ n → ⊥)
Avoids n (NewOutput a b) = a ≡ n → ⊥

-- or it is the channel
abbrev pub On : ℕ → Action → Type 0
On n Silent = ⊥
On n (Input a b) = a ≡ n
On n (Output a b) = a ≡ n
On n (NewOutput a b) = a ≡ n

module _ (s : Label) (level : ℕ) where
  abbrev slot : ℕ
  slot = name_count + level

  at-restricted : slot_of name_count (1 + level) 0 ≡ slot
  at-restricted = slot-restricted name_count level

  not_at : (n : ℕ) → suc n < 1 + level + name_count → slot_of name_count (1 + level) (suc n) ≡ slot → ⊥
  not_at n h e = omega (arith, slot-outside name_count level n (omega arith))

  -- the condition outside
  module _ (M : Cond) (α : Act) (h : HeaderIs (1 + level) M α s) (sp : restricted_alone M ≡ true) where
    outside_classes : HasClasses s.condition.class level (map_p outside M)
    outside_classes = classes_outside s.condition.class level M sp h.classes

    outside_below : Below (level + name_count) (map_p outside M)
    outside_below = below-outside (level + name_count) (1 + level + name_count) M (omega arith) (omega arith) h.below

  module _ (av : Avoids slot s.action) where
    keeps : (M : Cond) (α : Act) (P : Term) → HeaderIs (1 + level) M α s → restricted_alone M ≡ true
        → Labels level (restricted_action (map_p outside M) α P) (Some s)
    unfolding Labels restricted_action action_of ActionBelow
    keeps M tau_a P h sp = record {
      classes = outside_classes M tau_a h sp;
      action = h.action;
      below = outside_below M tau_a h sp;
      names = tt;
    }
    keeps M (inp_a zero) P h sp = absurd (subst (Avoids slot) h.action av at-restricted)
    keeps M (inp_a (suc a)) P h sp = record {
      classes = outside_classes M (inp_a (suc a)) h sp;
      action = h.action ∙ ap input_on (slot_inner name_count level a);
      below = outside_below M (inp_a (suc a)) h sp;
      names = let n = h.names in omega arith;
    }
    keeps M (out_a zero b) P h sp = absurd ((subst (Avoids slot) h.action av).0 at-restricted)
    keeps M (out_a (suc a) zero) P h sp = absurd ((subst (Avoids slot) h.action av).1 at-restricted)
    keeps M (out_a (suc a) (suc b)) P h sp = record {
      classes = outside_classes M (out_a (suc a) (suc b)) h sp;
      action = h.action ∙ ap₂ Output (slot_inner name_count level a) (slot_inner name_count level b);
      below = outside_below M (out_a (suc a) (suc b)) h sp;
      names = let n = h.names in (omega arith, omega arith);
    }
    keeps M (bout_a zero) P h sp = absurd (subst (Avoids slot) h.action av at-restricted)
    keeps M (bout_a (suc a)) P h sp = record {
      classes = outside_classes M (bout_a (suc a)) h sp;
      action = h.action ∙ ap new_output_on (slot_inner name_count level a);
      below = outside_below M (bout_a (suc a)) h sp;
      names = let n = h.names in omega arith;
    }

  module _ (on : On slot s.action) where
    blocks : (M : Cond) (α : Act) (P : Term) → HeaderIs (1 + level) M α s → restricted_alone M ≡ true
        → Labels level (restricted_action (map_p outside M) α P) None
    unfolding Labels restricted_action action_of ActionBelow
    blocks M tau_a P h sp = absurd (subst (On slot) h.action on)
    blocks M (inp_a zero) P h sp = refl
    blocks M (inp_a (suc a)) P h sp = absurd (not_at a h.names (subst (On slot) h.action on))
    blocks M (out_a zero b) P h sp = refl
    blocks M (out_a (suc a) zero) P h sp = absurd (not_at a h.names.0 (subst (On slot) h.action on))
    blocks M (out_a (suc a) (suc b)) P h sp = absurd (not_at a h.names.0 (subst (On slot) h.action on))
    blocks M (bout_a zero) P h sp = refl
    blocks M (bout_a (suc a)) P h sp = absurd (not_at a h.names (subst (On slot) h.action on))

  module _ (r : Label) (k : r.condition.class ≡ s.condition.class) (a b : ℕ)
      (o : s.action ≡ Output a b) (w : r.action ≡ new_output_on a) (na : a ≡ slot → ⊥) (eb : b ≡ slot) where
    opens : (M : Cond) (α : Act) (P : Term) → HeaderIs (1 + level) M α s → restricted_alone M ≡ true
        → Labels level (restricted_action (map_p outside M) α P) (Some r)
    unfolding Labels restricted_action action_of ActionBelow
    opens M tau_a P h sp = let g = h.action in let z : ◌≡◌ {A = ℕ} 0 1 = cc in absurd (omega arith)
    opens M (inp_a zero) P h sp = let g = h.action in let z : ◌≡◌ {A = ℕ} 0 1 = cc in absurd (omega arith)
    opens M (inp_a (suc x)) P h sp = let g = h.action in let z : ◌≡◌ {A = ℕ} 0 1 = cc in absurd (omega arith)
    opens M (out_a zero y) P h sp =
        let g = h.action in
        let q : a ≡ slot_of name_count (1 + level) 0 = cc in
        absurd (na (q ∙ at-restricted))
    opens M (out_a (suc x) zero) P h sp =
        let g = h.action in
        let q : a ≡ slot_of name_count (1 + level) (suc x) = cc in
        record {
          classes = subst (λ (c : List ℕ). HasClasses c level (map_p outside M)) (sym k) (outside_classes M (out_a (suc x) zero) h sp);
          action = w ∙ ap new_output_on (q ∙ slot_inner name_count level x);
          below = outside_below M (out_a (suc x) zero) h sp;
          names = let n = h.names in omega arith;
        }
    opens M (out_a (suc x) (suc y)) P h sp =
        let g = h.action in
        let q : b ≡ slot_of name_count (1 + level) (suc y) = cc in
        absurd (not_at y h.names.1 (sym q ∙ eb))
    opens M (bout_a zero) P h sp = let g = h.action in let z : ◌≡◌ {A = ℕ} 0 1 = cc in absurd (omega arith)
    opens M (bout_a (suc x)) P h sp = let g = h.action in let z : ◌≡◌ {A = ℕ} 0 1 = cc in absurd (omega arith)

  module _ (t : Bool) (S : AloneIs s.condition.class level t) where
    spared : (M : Cond) (α : Act) → HeaderIs (1 + level) M α s → restricted_alone M ≡ t
    unfolding AloneIs
    spared M α h = sym (S M h.classes h.below)

    -- the condition merges the restricted name with another
    pub outside-merged : t ≡ false → OutsideIs s level None
    unfolding Labels restricted
    outside-merged e = record { is = λ M α P h. rw (spared M α h, e) refl }

    by_action : (r : Option Label) → t ≡ true
        → ((M : Cond) (α : Act) (P : Term) → HeaderIs (1 + level) M α s → restricted_alone M ≡ true → Labels level (restricted_action (map_p outside M) α P) r)
        → (M : Cond) (α : Act) (P : Term) → HeaderIs (1 + level) M α s → Labels level (restricted (step M α P)) r
    unfolding restricted
    by_action r e k M α P h = let q = spared M α h ∙ e in rw q (k M α P h q)

    pub outside_keeps : t ≡ true → Avoids slot s.action → OutsideIs s level (Some s)
    outside_keeps e av = record { is = by_action (Some s) e (keeps av) }

    pub outside_blocks : t ≡ true → On slot s.action → OutsideIs s level None
    outside_blocks e on = record { is = by_action None e (blocks on) }

    pub outside_opens : (r : Label) → t ≡ true → r.condition.class ≡ s.condition.class
        → (a b : ℕ) → s.action ≡ Output a b → r.action ≡ new_output_on a → (a ≡ slot → ⊥) → b ≡ slot → OutsideIs s level (Some r)
    outside_opens r e k a b o w na eb = record { is = by_action (Some r) e (opens r k a b o w na eb) }

module _ (s : Option Label) (level : ℕ) where
  pub restricted-blocked : s ≡ None → RestrictedIs s level None
  unfolding Labels restricted
  restricted-blocked e = rw e (record { is = when_blocked (1 + level) (λ c. Labels level (restricted c) None) refl })

  pub restricted-found : (l : Label) (r : Option Label) → s ≡ Some l → OutsideIs l level r → RestrictedIs s level r
  restricted-found l r e O = rw e (record { is = when_found (1 + level) (λ c. Labels level (restricted c) r) l O.is })

-- [Com] and [Close]
communication-none : (s : Candidate) → communication s blocked ≡ blocked
unfolding communication
communication-none (step M α P) = refl
communication-none blocked = refl

some_pair : (x y u v : ℕ) → ◌≡◌ {A = Option (ℕ × ℕ)} (Some (x, y)) (Some (u, v)) → (u ≡ x) × (v ≡ y)
some_pair x y u v e =
    let z : ◌≡◌ {A = ℕ × ℕ} (x, y) (u, v) = cc in
    (sym (ap (λ (p : ℕ × ℕ). p.0) z), sym (ap (λ (p : ℕ × ℕ). p.1) z))

module _ (p q : Label) where
  module _ (d : ℕ) (M N : Cond) (α β : Act) (h : HeaderIs d M α p) (k : HeaderIs d N β q) where
    -- where the two actions meet, said of the actions themselves
    meet-at : (m : Option (ℕ × ℕ)) → meeting_of p.action q.action ≡ m → meeting_of (action_of d α) (action_of d β) ≡ m
    meet-at m e = sym (ap₂ meeting_of h.action k.action) ∙ e

    joined_header : (r : Label) (j : List ℕ) (a b x y : ℕ) → r.action ≡ Silent → BothIs p.condition.class q.condition.class j
        → MergedIs j a b r.condition.class → name_count + d ≤ slot_count → a ≡ slot_of name_count d x → b ≡ slot_of name_count d y
        → x < d + name_count → y < d + name_count → HeaderIs d ((x, y) ∷ (M ++ N)) tau_a r
    unfolding BothIs MergedIs HasClasses HasSlotClasses Below action_of ActionBelow
    joined_header r j a b x y w B m room ea eb hx hy =
        let g = slot_of name_count d in
        let both : HasSlotClasses j (map_p g M ++ map_p g N) =
        B (map_p g M) (map_p g N) h.classes k.classes (below_more (name_count + d) slot_count (map_p g N) room (below_slots name_count d N k.below)) in
        let l : map_p g (M ++ N) ≡ map_p g M ++ map_p g N = map-++ _ M N in
        let e : (a, b) ∷ (map_p g M ++ map_p g N) ≡ map_p g ((x, y) ∷ (M ++ N)) = λ i. (ea i, eb i) ∷ sym l i in
        record {
          classes = subst (λ (K : Cond). HasSlotClasses r.condition.class K) e (m (map_p g M ++ map_p g N) both);
          action = w;
          below = (hx, hy, below-append (d + name_count) M N h.below k.below);
          names = tt;
        }

  -- actions that do not meet
  met_never : meeting_of p.action q.action ≡ None → (d : ℕ) (M N : Cond) (α β : Act) (P Q : Term)
      → HeaderIs d M α p → HeaderIs d N β q → Labels d (communication (step M α P) (step N β Q)) None
  unfolding Labels communication meet meeting_of received_by action_of
  met_never m d M N tau_a tau_a P Q h k = refl
  met_never m d M N tau_a (inp_a b) P Q h k = refl
  met_never m d M N tau_a (out_a b y) P Q h k = refl
  met_never m d M N tau_a (bout_a b) P Q h k = refl
  met_never m d M N (inp_a a) tau_a P Q h k = refl
  met_never m d M N (inp_a a) (inp_a b) P Q h k = refl
  met_never m d M N (inp_a a) (out_a b y) P Q h k = let n = meet-at d M N (inp_a a) (out_a b y) h k None m in let z : ◌≡◌ {A = ℕ} 0 1 = cc in absurd (omega arith)
  met_never m d M N (inp_a a) (bout_a b) P Q h k = let n = meet-at d M N (inp_a a) (bout_a b) h k None m in let z : ◌≡◌ {A = ℕ} 0 1 = cc in absurd (omega arith)
  met_never m d M N (out_a a x) tau_a P Q h k = refl
  met_never m d M N (out_a a x) (inp_a b) P Q h k = let n = meet-at d M N (out_a a x) (inp_a b) h k None m in let z : ◌≡◌ {A = ℕ} 0 1 = cc in absurd (omega arith)
  met_never m d M N (out_a a x) (out_a b y) P Q h k = refl
  met_never m d M N (out_a a x) (bout_a b) P Q h k = refl
  met_never m d M N (bout_a a) tau_a P Q h k = refl
  met_never m d M N (bout_a a) (inp_a b) P Q h k = let n = meet-at d M N (bout_a a) (inp_a b) h k None m in let z : ◌≡◌ {A = ℕ} 0 1 = cc in absurd (omega arith)
  met_never m d M N (bout_a a) (out_a b y) P Q h k = refl
  met_never m d M N (bout_a a) (bout_a b) P Q h k = refl

  -- actions that meet
  module _ (r : Label) (d : ℕ) (j : List ℕ) (u v : ℕ) (w : r.action ≡ Silent) (B : BothIs p.condition.class q.condition.class j)
      (g : MergedIs j u v r.condition.class) (room : name_count + d ≤ slot_count) (m : meeting_of p.action q.action ≡ Some (u, v)) where
    met_at : (M N : Cond) (α β : Act) (P Q : Term) → HeaderIs d M α p → HeaderIs d N β q → Labels d (communication (step M α P) (step N β Q)) (Some r)
    unfolding Labels communication meet meeting_of received_by action_of ActionBelow
    met_at M N tau_a tau_a P Q h k = let n = meet-at d M N tau_a tau_a h k (Some (u, v)) m in let z : ◌≡◌ {A = ℕ} 0 1 = cc in absurd (omega arith)
    met_at M N tau_a (inp_a b) P Q h k = let n = meet-at d M N tau_a (inp_a b) h k (Some (u, v)) m in let z : ◌≡◌ {A = ℕ} 0 1 = cc in absurd (omega arith)
    met_at M N tau_a (out_a b y) P Q h k = let n = meet-at d M N tau_a (out_a b y) h k (Some (u, v)) m in let z : ◌≡◌ {A = ℕ} 0 1 = cc in absurd (omega arith)
    met_at M N tau_a (bout_a b) P Q h k = let n = meet-at d M N tau_a (bout_a b) h k (Some (u, v)) m in let z : ◌≡◌ {A = ℕ} 0 1 = cc in absurd (omega arith)
    met_at M N (inp_a a) tau_a P Q h k = let n = meet-at d M N (inp_a a) tau_a h k (Some (u, v)) m in let z : ◌≡◌ {A = ℕ} 0 1 = cc in absurd (omega arith)
    met_at M N (inp_a a) (inp_a b) P Q h k = let n = meet-at d M N (inp_a a) (inp_a b) h k (Some (u, v)) m in let z : ◌≡◌ {A = ℕ} 0 1 = cc in absurd (omega arith)
    met_at M N (inp_a a) (out_a b y) P Q h k = let n = meet-at d M N (inp_a a) (out_a b y) h k (Some (u, v)) m in joined_header d M N (inp_a a) (out_a b y) h k r j u v a b w B g room (some_pair _ _ u v n).0 (some_pair _ _ u v n).1 h.names k.names.0
    met_at M N (inp_a a) (bout_a b) P Q h k = let n = meet-at d M N (inp_a a) (bout_a b) h k (Some (u, v)) m in joined_header d M N (inp_a a) (bout_a b) h k r j u v a b w B g room (some_pair _ _ u v n).0 (some_pair _ _ u v n).1 h.names k.names
    met_at M N (out_a a x) tau_a P Q h k = let n = meet-at d M N (out_a a x) tau_a h k (Some (u, v)) m in let z : ◌≡◌ {A = ℕ} 0 1 = cc in absurd (omega arith)
    met_at M N (out_a a x) (inp_a b) P Q h k = let n = meet-at d M N (out_a a x) (inp_a b) h k (Some (u, v)) m in joined_header d M N (out_a a x) (inp_a b) h k r j u v a b w B g room (some_pair _ _ u v n).0 (some_pair _ _ u v n).1 h.names.0 k.names
    met_at M N (out_a a x) (out_a b y) P Q h k = let n = meet-at d M N (out_a a x) (out_a b y) h k (Some (u, v)) m in let z : ◌≡◌ {A = ℕ} 0 1 = cc in absurd (omega arith)
    met_at M N (out_a a x) (bout_a b) P Q h k = let n = meet-at d M N (out_a a x) (bout_a b) h k (Some (u, v)) m in let z : ◌≡◌ {A = ℕ} 0 1 = cc in absurd (omega arith)
    met_at M N (bout_a a) tau_a P Q h k = let n = meet-at d M N (bout_a a) tau_a h k (Some (u, v)) m in let z : ◌≡◌ {A = ℕ} 0 1 = cc in absurd (omega arith)
    met_at M N (bout_a a) (inp_a b) P Q h k = let n = meet-at d M N (bout_a a) (inp_a b) h k (Some (u, v)) m in joined_header d M N (bout_a a) (inp_a b) h k r j u v a b w B g room (some_pair _ _ u v n).0 (some_pair _ _ u v n).1 h.names k.names
    met_at M N (bout_a a) (out_a b y) P Q h k = let n = meet-at d M N (bout_a a) (out_a b y) h k (Some (u, v)) m in let z : ◌≡◌ {A = ℕ} 0 1 = cc in absurd (omega arith)
    met_at M N (bout_a a) (bout_a b) P Q h k = let n = meet-at d M N (bout_a a) (bout_a b) h k (Some (u, v)) m in let z : ◌≡◌ {A = ℕ} 0 1 = cc in absurd (omega arith)

  pub met_apart : meeting_of p.action q.action ≡ None → MetIs p q None
  met_apart m = record { is = λ d M N α β P Q room h k. met_never m d M N α β P Q h k }

  pub met_together : (r : Label) (j : List ℕ) (u v : ℕ) → r.action ≡ Silent → BothIs p.condition.class q.condition.class j
      → MergedIs j u v r.condition.class → meeting_of p.action q.action ≡ Some (u, v) → MetIs p q (Some r)
  met_together r j u v w B g m = record { is = λ d M N α β P Q room h k. met_at r d j u v w B g room m M N α β P Q h k }

-- a blocked candidate on either side
module _ (p q : Option Label) where
  pub communication-left : p ≡ None → CommunicationIs p q None
  unfolding Labels communication
  communication-left e = rw e (record {
    is = λ d s t room h k. when_blocked d (λ (c : Candidate). Labels d (communication c t) None) refl s h;
  })

  pub communication_right : q ≡ None → CommunicationIs p q None
  unfolding Labels
  communication_right e = rw e (record {
    is = λ d s t room h k. when_blocked d (λ (c : Candidate). Labels d (communication s c) None)
        (subst (λ (c : Candidate). Labels d c None) (sym (communication-none s)) refl) t k;
  })

  pub communication-found : (l m : Label) (r : Option Label) → p ≡ Some l → q ≡ Some m → MetIs l m r → CommunicationIs p q r
  communication-found l m r e f M = rw (e, f) (record {
    is = λ d s t room h k. when_found d (λ (c : Candidate). Labels d (communication c t) r) l
        (λ K α P h'. when_found d (λ (c : Candidate). Labels d (communication (step K α P) c) r) m (λ N β Q k'. M.is d K N α β P Q room h' k') t k) s h;
  })
