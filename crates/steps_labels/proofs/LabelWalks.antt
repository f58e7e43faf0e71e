-- The walk over the bytes of a term finds the labels of its candidates, form by form. Assumes nothing.
use mathlib.Core.Path.{◌≡◌, refl, sym, ap, ap₂, subst, ◌∙◌}
use mathlib.Core.Bool.{Bool, true, false}
use mathlib.Core.List.{List, [], ◌∷◌, ◌++◌, map, append-nil}
use Prim.Native.Nat.{ℕ, suc, ◌+◌, ◌-◌, ◌*◌, ◌/◌, ◌%◌, ◌<◌, ◌≤◌, max}
use native.Mathlib.Nat.{mul-zero}
use native.Mathlib.Omega.{arith}
use lib.ListN.{length, get_or, drop, length-map}
use Rattle.calculus.specs.Abstraction.{Act, tau_a, inp_a, out_a, bout_a}
use Rattle.calculus.specs.Term.{Term, nil, tau, inp, out, bout, mat, sum, par, res, call, lift, ren}
use Rattle.terms.specs.Answer.{result}
use Rattle.terms.specs.Encoding.{name_byte, encode, NamesInScope, InScope}
use Rattle.terms.specs.Limits.{name_count, longest_term}
use Rattle.terms.specs.Question.{Question, check_of}
use Rattle.terms_bytes.proofs.Stores.{get_d_front}
use Rattle.steps_tallies.specs.Bodies.{BodyIs, OpeningIs, Unopened}
use Rattle.terms.specs.Question.{body_of}
use Rattle.steps_conditions.specs.Labels.{input_on, new_output_on, action_of, ActionBelow, HeaderIs, Labels, MatchingIs, RestrictedIs, CommunicationIs}
use Rattle.steps_labels.specs.LabelWalk.{slot_at, HasSlots, ArgumentsIs, prefix_action, PrefixLabelIs, Within, NthIs, MeetingIs}
use Rattle.steps_tallies.specs.Candidates.{candidates, OwnNamesIf}
use Rattle.steps_passing.specs.Passing.{MiddleIs}
use Rattle.steps.specs.Raw.{Candidate, step, blocked, matching, left_steps, right_steps, communications, restricted, visible, silent, visible_of, silent_of}
use Rattle.steps_conditions.specs.Slots.{slot_count, HasSlotClasses, HasClasses, Below}
use Rattle.steps_tallies.specs.Tally.{visible_at, TallyIs}
use Rattle.steps_tallies.specs.Tallying.{number_at}
use Rattle.steps_conditions.specs.declared.action.Action.TheVariants.{Output}
use Rattle.std.specs.Prelude.{Option, Some}
use Rattle.steps_conditions.specs.declared.action.Label.{Label}
use Rattle.steps_tallies.specs.declared.bodies.Opening.{Opening}
use Rattle.steps_labels.proofs.ArgumentSlots.{slots_lift, slot_read, slots_call}
use Rattle.steps_passing.proofs.CalledPasses.{at_closed, params, at_call}
use Rattle.steps_tallies.proofs.CallLaws.{body_scope, opened-candidates}
use Rattle.steps_tallies.proofs.CandidateForms.{candidates-mat, candidates-res, candidates_no_call, meetings, tag, tag_at, only_mat, only_res, only_two, only_prefix}
use Rattle.steps_tallies.proofs.FrontLaws.{stands, behind}
use Rattle.steps_labels.proofs.LabelNumbers.{left_label, right_label, label_met}
use Rattle.steps_tallies.proofs.Numbering.{nth_matching, nth_restricted, length-communications}
use Rattle.steps_tallies.proofs.OwnNames.{own-under, own_body}
use Rattle.steps_passing.proofs.TwoSides.{Sides, sides_sum, sides_par, at_left, number_is, right_number}
use Rattle.steps_passing.proofs.TwoSides as two

-- What a prefix does, and its one candidate.
abbrev act : Term → Act
act nil = tau_a
act (tau P) = tau_a
act (inp a P) = inp_a a
act (out a b P) = out_a a b
act (bout a P) = bout_a a
act (mat a b P) = tau_a
act (sum P Q) = tau_a
act (par P Q) = tau_a
act (res P) = tau_a
act (call k xs) = tau_a

abbrev after : Term → Term
after nil = nil
after (tau P) = P
after (inp a P) = P
after (out a b P) = P
after (bout a P) = P
after (mat a b P) = P
after (sum P Q) = P
after (par P Q) = P
after (res P) = P
after (call k xs) = nil

module _ (body : ℕ → Term) (calls : ℕ) (σ : ℕ → ℕ) where
  -- a prefix that has a candidate has this one
  abbrev Alone : ℕ → Bool → Term → Type 0
  Alone i t P =
      i < length (candidates t body calls (ren σ P)) → (candidates t body calls (ren σ P) ≡ step [] (act (ren σ P)) (after (ren σ P)) ∷ []) × (tag P ≡ 0 → ⊥)

  one_step : (i : ℕ) (t : Bool) (P : Term) → tag P < 5 → Alone i t P
  unfolding candidates visible silent visible_of silent_of
  one_step i true = only_prefix (Alone i true)
      (λ h. absurd (omega arith)) (λ P h. (refl, λ z. omega arith)) (λ a P h. absurd (omega arith)) (λ a b P h. absurd (omega arith)) (λ a P h. absurd (omega arith))
  one_step i false = only_prefix (Alone i false)
      (λ h. absurd (omega arith)) (λ P h. absurd (omega arith)) (λ a P h. (refl, λ z. omega arith)) (λ a b P h. (refl, λ z. omega arith)) (λ a P h. (refl, λ z. omega arith))

module _ (question s : List ℕ) (at i : ℕ) (t : Bool) (args : List ℕ) (inner depth calls : ℕ) where
  abbrev Shows : Question → (ℕ → ℕ) → Option Label → Term → Type 0
  Shows q σ r P =
      i < length (candidates t (body_of q.bodies) calls (ren σ P)) → Labels depth (get_or (candidates t (body_of q.bodies) calls (ren σ P)) i blocked) r

  -- what is to be shown of each form
  abbrev Stands : Question → ℕ → ℕ → (ℕ → ℕ) → List ℕ → Option Label → Term → Type 0
  Stands q free D σ rest r P = InScope free q.arities D P → drop at s ≡ encode D P ++ rest → Shows q σ r P

  -- no term stands past the end
  pub nth_none : (r : Option Label) → length s ≤ at → NthIs question s at i t args inner depth calls r
  nth_none r h = record { is = λ q free D σ own P rest ok few has scope st. let z = stands s at D P rest st in absurd (omega arith) }

  -- A rule with one premise keeps the number.
  by_rule : (cs ds : List Candidate) (f : Candidate → Candidate) (d : ℕ) (p r : Option Label) → ds ≡ map f cs → get_or (map f cs) i blocked ≡ f (get_or cs i blocked)
      → ((c : Candidate) → Labels d c p → Labels depth (f c) r) → (i < length cs → Labels d (get_or cs i blocked) p) → i < length ds → Labels depth (get_or ds i blocked) r
  by_rule cs ds f d p r e nth rule L h =
      subst (λ (c : Candidate). Labels depth c r) (sym (ap (λ (l : List Candidate). get_or l i blocked) e ∙ nth))
      (rule (get_or cs i blocked) (L (omega (arith, ap length e, length-map cs f))))

  -- the one step of a prefix
  module _ (g : get_or s at 0 < 5) (r : Label) (F : PrefixLabelIs s at args inner depth r) where
    abbrev a : ℕ
    a = slot_at args inner depth (get_or s (at + 1) 0)

    abbrev b : ℕ
    b = slot_at args inner depth (get_or s (at + 2) 0)

    doing : (free D : ℕ) (σ : ℕ → ℕ) (P : Term) (rest arities : List ℕ) → tag P < 5 → free ≤ name_count → HasSlots free D args inner depth σ → InScope free arities D P
        → drop at s ≡ encode D P ++ rest → (tag P ≡ 0 → ⊥)
        → (prefix_action (tag P) a b ≡ action_of depth (act (ren σ P))) × ActionBelow (depth + name_count) (act (ren σ P))
    unfolding InScope encode prefix_action action_of ActionBelow
    doing free D σ P rest arities small few has scope st nz =
        let read = slot_read free D args inner depth σ few has s at in
        only_prefix
        (λ (P : Term). InScope free arities D P → drop at s ≡ encode D P ++ rest → (tag P ≡ 0 → ⊥)
        → (prefix_action (tag P) a b ≡ action_of depth (act (ren σ P))) × ActionBelow (depth + name_count) (act (ren σ P)))
        (λ scope st nz. absurd (nz refl))
        (λ P scope st nz. (refl, tt))
        (λ x P scope st nz.
        let u = read 1 x scope.0 (get_d_front s at (encode D (inp x P)) rest 1 st (omega arith)) a refl in
        (ap input_on u.0, u.1))
        (λ x y P scope st nz.
        let u = read 1 x scope.0 (get_d_front s at (encode D (out x y P)) rest 1 st (omega arith)) a refl in
        let v = read 2 y scope.1 (get_d_front s at (encode D (out x y P)) rest 2 st (omega arith)) b refl in
        (ap₂ Output u.0 v.0, (u.1, v.1)))
        (λ x P scope st nz.
        let u = read 1 x scope.0 (get_d_front s at (encode D (bout x P)) rest 1 st (omega arith)) a refl in
        (ap new_output_on u.0, u.1))
        P small scope st nz

    pub nth_prefix : NthIs question s at i t args inner depth calls (Some r)
    unfolding HasClasses HasSlotClasses Below Labels
    nth_prefix = record {
      is = λ q free D σ own P rest ok few has scope st h.
          let k = tag_at s at D P rest st in
          let (one, nz) = one_step (body_of q.bodies) calls σ i t P (omega arith) h in
          let w = doing free D σ P rest q.arities (omega arith) few has scope st nz in
          let z : i ≡ 0 = omega (arith, ap length one) in
          let H : HeaderIs depth [] (act (ren σ P)) r = record {
            classes = F.classes;
            action = F.action ∙ ap (λ (n : ℕ). prefix_action n a b) k ∙ w.0;
            below = tt;
            names = w.1;
          } in
          subst (λ (c : Candidate). Labels depth c (Some r))
          (sym (ap (λ (n : ℕ). get_or (candidates t (body_of q.bodies) calls (ren σ P)) n blocked) z ∙ ap (λ (l : List Candidate). get_or l 0 blocked) one)) H;
    }

  -- [Match]
  pub nth_mat : get_or s at 0 ≡ 5 → (p r : Option Label) (a b : ℕ) → a ≡ slot_at args inner depth (get_or s (at + 1) 0) → b ≡ slot_at args inner depth (get_or s (at + 2) 0)
      → NthIs question s (at + 3) i t args inner depth calls p → MatchingIs p a b r → NthIs question s at i t args inner depth calls r
  unfolding InScope encode
  nth_mat g p r a b ea eb N M = record {
    is = λ q free D σ own P rest ok few has scope st. only_mat (Stands q free D σ rest r)
        (λ x y P scope st.
        let read = slot_read free D args inner depth σ few has s at in
        let u = read 1 x scope.0 (get_d_front s at (encode D (mat x y P)) rest 1 st (omega arith)) a ea in
        let v = read 2 y scope.1 (get_d_front s at (encode D (mat x y P)) rest 2 st (omega arith)) b eb in
        let cs = candidates t (body_of q.bodies) calls (ren σ P) in
        by_rule cs _ (matching (σ x) (σ y)) depth p r (candidates-mat (body_of q.bodies) t calls (σ x) (σ y) (ren σ P)) (nth_matching (σ x) (σ y) cs i)
        (λ c. M.is depth (σ x) (σ y) c u.0 v.0 u.1 v.1)
        (N.is q free D σ own P rest ok few has scope.2 (behind s at 3 (5 ∷ name_byte D x ∷ name_byte D y ∷ []) (encode D P ++ rest) st refl)))
        P (sym (tag_at s at D P rest st) ∙ g) scope st;
  }

  -- [Res] and [Open]
  pub nth_res : get_or s at 0 ≡ 8 → (p r : Option Label) → NthIs question s (at + 1) i t args (inner + 1) (depth + 1) calls p → RestrictedIs p depth r
      → NthIs question s at i t args inner depth calls r
  unfolding InScope encode
  nth_res g p r N R = record {
    is = λ q free D σ own P rest ok few has scope st. only_res (Stands q free D σ rest r)
        (λ P scope st.
        let cs = candidates t (body_of q.bodies) calls (ren (lift σ) P) in
        let d : depth + 1 ≡ 1 + depth = omega arith in
        by_rule cs _ restricted (1 + depth) p r (candidates-res (body_of q.bodies) t calls (ren (lift σ) P)) (nth_restricted cs i) R.is
        (λ h. subst (λ (k : ℕ). Labels k (get_or cs i blocked) p) d
        (N.is q free (1 + D) (lift σ) (own-under calls σ own) P rest ok few (slots_lift free D args inner depth σ few has) scope (behind s at 1 (8 ∷ []) (encode (1 + D) P ++ rest) st refl) h)))
        P (sym (tag_at s at D P rest st) ∙ g) scope st;
  }

  -- A choice or a parallel: the left side's candidates, the right side's, and then the communications.
  module _ (l : 5 < get_or s at 0) (g : get_or s at 0 < 8) (numbers : List ℕ) (T : TallyIs question s calls numbers) (middle : ℕ)
      (N : MiddleIs s numbers at middle) where
    abbrev lefts : ℕ
    lefts = number_at numbers (at + 1) t

    abbrev rights : ℕ
    rights = number_at numbers middle t

    abbrev coms : Question → (ℕ → ℕ) → Term → Term → List Candidate
    coms q σ P Q = communications (visible (body_of q.bodies) calls (ren σ P)) (visible (body_of q.bodies) calls (ren σ Q))

    -- what the candidates cs of the form are made of
    record Formed (q : Question) (σ : ℕ → ℕ) (P Q : Term) (cs : List Candidate) : Type 0 where
      fst : Candidate → Candidate
      snd : Candidate → Candidate
      more : List Candidate
      sides : Sides fst snd cs (candidates t (body_of q.bodies) calls (ren σ P)) (candidates t (body_of q.bodies) calls (ren σ Q)) more
      keeps_fst : (r : Option Label) (c : Candidate) → Labels depth c r → Labels depth (fst c) r
      keeps_snd : (r : Option Label) (c : Candidate) → Labels depth c r → Labels depth (snd c) r
      meets : (r : Option Label) (j : ℕ) → (j < length (coms q σ P Q) → Labels depth (get_or (coms q σ P Q) j blocked) r) → j < length more → Labels depth (get_or more j blocked) r

    formed_sum : (q : Question) (σ : ℕ → ℕ) (P Q : Term) → Formed q σ P Q (candidates t (body_of q.bodies) calls (sum (ren σ P) (ren σ Q)))
    formed_sum q σ P Q = record {
      fst = λ c. c;
      snd = λ c. c;
      more = [];
      sides = sides_sum (body_of q.bodies) t calls (ren σ P) (ren σ Q);
      keeps_fst = λ r c h. h;
      keeps_snd = λ r c h. h;
      meets = λ r j f h. absurd (omega arith);
    }

    formed_par : (q : Question) (σ : ℕ → ℕ) (P Q : Term) → Formed q σ P Q (candidates t (body_of q.bodies) calls (par (ren σ P) (ren σ Q)))
    unfolding candidates
    formed_par q σ P Q = record {
      fst = left_steps (ren σ Q);
      snd = right_steps (ren σ P);
      more = meetings (body_of q.bodies) t calls (ren σ P) (ren σ Q);
      sides = sides_par (body_of q.bodies) t calls (ren σ P) (ren σ Q);
      keeps_fst = λ r. left_label depth r (ren σ Q);
      keeps_snd = λ r. right_label depth r (ren σ P);
      meets = go t;
    }
      where
        go : (u : Bool) (r : Option Label) (j : ℕ) → (j < length (coms q σ P Q) → Labels depth (get_or (coms q σ P Q) j blocked) r)
            → j < length (meetings (body_of q.bodies) u calls (ren σ P) (ren σ Q))
            → Labels depth (get_or (meetings (body_of q.bodies) u calls (ren σ P) (ren σ Q)) j blocked) r
        go true r j f h = f h
        go false r j f h = absurd (omega arith)

    -- where the sides stand, and their numbers
    record Placed (q : Question) (free D : ℕ) (σ : ℕ → ℕ) (P Q : Term) (rest : List ℕ) : Type 0 where
      scope_fst : InScope free q.arities D P
      scope_snd : InScope free q.arities D Q
      at_fst : drop (at + 1) s ≡ encode D P ++ (encode D Q ++ rest)
      at_snd : drop middle s ≡ encode D Q ++ rest
      number_fst : lefts ≡ length (candidates t (body_of q.bodies) calls (ren σ P))
      number_snd : rights ≡ length (candidates t (body_of q.bodies) calls (ren σ Q))

    placed : (h : ℕ) (q : Question) (free D : ℕ) (σ : ℕ → ℕ) → OwnNamesIf calls σ → (P Q : Term) (rest : List ℕ) → check_of question ≡ result q
        → InScope free q.arities D P → InScope free q.arities D Q → drop at s ≡ (h ∷ (encode D P ++ encode D Q)) ++ rest → Placed q free D σ P Q rest
    placed h q free D σ own P Q rest ok k l st =
        let u = at_left D s at P Q rest h st in
        record {
          scope_fst = k;
          scope_snd = l;
          at_fst = u;
          at_snd = two.behind question s calls numbers T at middle N q free D σ own P Q rest ok k l u;
          number_fst = number_is question s calls numbers T t q (at + 1) free D σ own P (encode D Q ++ rest) ok k u;
          number_snd = right_number question s calls numbers T at middle N q free D σ own P Q rest ok k l u t;
        }

    -- To show something of the label, show it from what is known of the sides.
    by_sides : (r : Option Label)
        → ((q : Question) (free D : ℕ) (σ : ℕ → ℕ) → OwnNamesIf calls σ → (P Q : Term) (rest : List ℕ) (cs : List Candidate) → check_of question ≡ result q → free ≤ name_count
        → HasSlots free D args inner depth σ → Formed q σ P Q cs → Placed q free D σ P Q rest → i < length cs → Labels depth (get_or cs i blocked) r)
        → NthIs question s at i t args inner depth calls r
    unfolding InScope encode
    by_sides r f = record {
      is = λ q free D σ own P rest ok few has scope st.
          let k = tag_at s at D P rest st in
          only_two (Stands q free D σ rest r)
          (λ P Q scope st. f q free D σ own P Q rest _ ok few has (formed_sum q σ P Q) (placed 6 q free D σ own P Q rest ok scope.0 scope.1 st))
          (λ P Q scope st. f q free D σ own P Q rest _ ok few has (formed_par q σ P Q) (placed 7 q free D σ own P Q rest ok scope.0 scope.1 st))
          P (omega arith) (omega arith) scope st;
    }

    pub nth_left : i < lefts → (r : Option Label) → NthIs question s (at + 1) i t args inner depth calls r → NthIs question s at i t args inner depth calls r
    nth_left h r N = by_sides r (λ q free D σ own P Q rest cs ok few has F B m.
        let n = B.number_fst in
        let k : i < length (candidates t (body_of q.bodies) calls (ren σ P)) = omega arith in
        subst (λ (c : Candidate). Labels depth c r) (sym (F.sides.first i k))
        (F.keeps_fst r _ (N.is q free D σ own P (encode D Q ++ rest) ok few has B.scope_fst B.at_fst k)))

    module _ (past : lefts ≤ i) (r : Option Label) where
      pub nth_right : i - lefts < rights → NthIs question s middle (i - lefts) t args inner depth calls r → NthIs question s at i t args inner depth calls r
      nth_right h N = by_sides r (λ q free D σ own P Q rest cs ok few has F B m.
          let n = B.number_fst in
          let n₂ = B.number_snd in
          let k : i - lefts < length (candidates t (body_of q.bodies) calls (ren σ Q)) = omega arith in
          let e : length (candidates t (body_of q.bodies) calls (ren σ P)) + (i - lefts) ≡ i = omega arith in
          subst (λ (c : Candidate). Labels depth c r) (sym (F.sides.second (i - lefts) k) ∙ ap (λ (j : ℕ). get_or cs j blocked) e)
          (F.keeps_snd r _ (N.is q free D σ own Q rest ok few has B.scope_snd B.at_snd k)))

      pub nth_met : rights ≤ i - lefts → MeetingIs question s at middle (i - lefts - rights) args inner depth calls r → NthIs question s at i t args inner depth calls r
      nth_met h R = by_sides r (λ q free D σ own P Q rest cs ok few has F B m.
          let n = B.number_fst in
          let n₂ = B.number_snd in
          let j = i - lefts - rights in
          let e : length (candidates t (body_of q.bodies) calls (ren σ P)) + (length (candidates t (body_of q.bodies) calls (ren σ Q)) + j) ≡ i = omega arith in
          subst (λ (c : Candidate). Labels depth c r) (sym (F.sides.third j) ∙ ap (λ (j : ℕ). get_or cs j blocked) e)
          (F.meets r j (R.is q free D σ own P Q rest (encode D Q ++ rest) ok few has B.scope_fst B.scope_snd B.at_fst B.at_snd)
          (omega (arith, F.sides.len))))

  -- [Con]
  module _ (g : 8 < get_or s at 0) (o : Opening) (O : OpeningIs question s at calls o) (r : Option Label) where
    calling : ((q : Question) (free D : ℕ) (σ : ℕ → ℕ) → OwnNamesIf calls σ → (xs rest : List ℕ) → check_of question ≡ result q → free ≤ name_count → HasSlots free D args inner depth σ
        → o.arity ≡ length xs → o.arity ≡ get_or q.arities o.definition 0 → o.definition < length q.arities → NamesInScope free D xs
        → drop (at + 2) s ≡ map (name_byte D) xs ++ rest → Shows q σ r (call o.definition xs))
        → NthIs question s at i t args inner depth calls r
    calling f = record {
      is = λ q free D σ own P rest ok few has scope st.
          at_call question s at D calls t i g o.definition o.arity O.called.definition O.called.arity (Shows q σ r) q free P rest ok scope st
          (λ xs m a k names st. f q free D σ own xs rest ok few has m a k names st);
    }

    -- the call's names do not all stand there
    pub nth_cut : length s < o.end → NthIs question s at i t args inner depth calls r
    unfolding encode
    nth_cut h = record {
      is = λ q free D σ own P rest ok few has scope st.
          at_call question s at D calls t i g o.definition o.arity O.called.definition O.called.arity (λ (P : Term). at + length (encode D P) ≤ length s → Shows q σ r P)
          q free P rest ok scope st (λ xs m a k names st whole. absurd (omega (arith, O.called.end, length-map xs (name_byte D)))) (stands s at D P rest st).1;
    }

    pub nth_called : 0 < calls → calls ≤ 1 → (bytes : List ℕ) → BodyIs question o.definition bytes → (given : List ℕ) → ArgumentsIs s (at + 2) o.arity args inner depth given
        → NthIs question bytes 0 i t given 0 depth (calls - 1) r → NthIs question s at i t args inner depth calls r
    nth_called z once bytes B given G X = calling (λ q free D σ own xs rest ok few has m a k names st.
        let body = body_of q.bodies in
        let n = o.arity in
        let c : calls ≡ suc (calls - 1) = omega arith in
        let opens : candidates t body calls (call o.definition (map σ xs)) ≡ candidates t body (calls - 1) (ren (params σ xs) (body o.definition)) =
        opened-candidates question q ok o.definition calls (calls - 1) once c t (map σ xs) in
        subst (λ (l : List Candidate). i < length l → Labels depth (get_or l i blocked) r) (sym opens)
        (X.is q 0 n (params σ xs) (own_body calls (params σ xs) once) (body o.definition) [] ok (omega arith) (slots_call free D args inner depth σ few has s (at + 2) xs rest n given names st m G)
        (subst (λ (n : ℕ). InScope 0 q.arities n (body o.definition)) (sym a) (body_scope question q ok o.definition))
        (B.is q ok k ∙ ap (λ (n : ℕ). encode n (body o.definition)) (sym a) ∙ sym (append-nil (encode n (body o.definition))))))

  -- no call is left to open, or the question is not accepted
  pub nth_closed : 8 < get_or s at 0 → Unopened question s at calls → (r : Option Label) → NthIs question s at i t args inner depth calls r
  nth_closed g U r = record {
    is = λ q free D σ own P rest ok few has scope st.
        at_closed question s at D calls t i g U (Shows q σ r) q free P rest ok scope st
        (λ xs z h.
        let k = get_or s (at + 1) 0 in
        let none = ap (λ (c : ℕ). candidates t (body_of q.bodies) c (call k (map σ xs))) z
        ∙ candidates_no_call (body_of q.bodies) t k (map σ xs) in
        absurd (omega (arith, ap length none)));
  }

-- The communications of two terms, of which the right one has n visible candidates.
module _ (question s : List ℕ) (at middle i : ℕ) (args : List ℕ) (inner depth calls : ℕ) (numbers : List ℕ) (T : TallyIs question s calls numbers) (r : Option Label) (n : ℕ)
    (N : n ≡ visible_at numbers middle) where
  many_right : (q : Question) (free D : ℕ) (σ : ℕ → ℕ) → OwnNamesIf calls σ → (Q : Term) (rest : List ℕ) → check_of question ≡ result q → InScope free q.arities D Q
      → drop middle s ≡ encode D Q ++ rest → n ≡ length (visible (body_of q.bodies) calls (ren σ Q))
  many_right q free D σ own Q rest ok scope st = N ∙ (T.is q middle free D σ own Q rest ok scope st).0

  pub meet-none : n ≡ 0 → MeetingIs question s at middle i args inner depth calls r
  meet-none z = record {
    is = λ q free D σ own P Q rest more ok few has k l st st₂ h.
        let ps = visible (body_of q.bodies) calls (ren σ P) in
        let qs = visible (body_of q.bodies) calls (ren σ Q) in
        let e : length qs ≡ 0 = sym (many_right q free D σ own Q rest ok l st₂) ∙ z in
        absurd (omega (arith, length-communications ps qs, ap (λ (k : ℕ). length ps * k) e, mul-zero (length ps)));
  }

  pub meet-both : (n ≡ 0 → ⊥) → name_count + depth ≤ slot_count → (p m : Option Label) → NthIs question s (at + 1) (i / n) false args inner depth calls p
      → NthIs question s middle (i % n) false args inner depth calls m → CommunicationIs p m r → MeetingIs question s at middle i args inner depth calls r
  unfolding candidates
  meet-both z room p m X Y K = record {
    is = λ q free D σ own P Q rest more ok few has k l st st₂.
        label_met depth _ _ i n (many_right q free D σ own Q rest ok l st₂) z p m r room (X.is q free D σ own P more ok few has k st) (Y.is q free D σ own Q rest ok few has l st₂) K;
  }

-- The walk's measure falls: where the bytes left and the calls left weigh x, a walk weighs 4 x + 3, its parts a little less.
pub weight_on : (c l a b t j : ℕ) → 4 * (c + (l - a)) + j ≡ t → a < b → a < l → 4 * (c + (l - b)) + 3 < t
weight_on c l a b t j h k m = omega arith

pub weight_part : (c l a t j : ℕ) → 4 * (c + (l - a)) + suc j ≡ t → 4 * (c + (l - a)) + j < t
weight_part c l a t j h = omega arith

pub weight_down : (c l a b t j : ℕ) → 4 * (c + (l - a)) + 3 ≡ t → a ≤ b → j < 3 → 4 * (c + (l - b)) + j < t
weight_down c l a b t j h k m = omega arith

pub weight_body : (c l a b t j : ℕ) → 4 * (c * 113 + (l - a)) + j ≡ t → 0 < c → b ≤ longest_term → 4 * ((c - 1) * 113 + (b - 0)) + 3 < t
weight_body c l a b t j h k m = omega arith

-- The room for slots further on, beneath restrictions, and in a called body.
pub room_on : (s : List ℕ) (at b inner depth calls : ℕ) → Within s at inner depth calls → at ≤ b → Within s b inner depth calls
room_on s at b inner depth calls W h = record { short = W.short; once = W.once; outer = W.outer; room = let r = W.room in omega arith }

pub room_under : (s : List ℕ) (at inner depth calls k n : ℕ) → Within s at inner depth calls → at < length s → at + k ≤ max at (length s) → k ≤ n
    → Within s (at + n) (inner + k) (depth + k) calls
room_under s at inner depth calls k n W h m l =
    record { short = W.short; once = W.once; outer = let o = W.outer in omega arith; room = let r = W.room in omega arith }

pub room_body : (s : List ℕ) (at inner depth calls : ℕ) (body : List ℕ) → Within s at inner depth calls → 0 < calls → length body ≤ longest_term
    → Within body 0 0 depth (calls - 1)
room_body s at inner depth calls body W z h =
    record { short = h; once = let o = W.once in omega arith; outer = omega arith; room = let r = W.room in omega arith }
