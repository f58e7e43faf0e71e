-- What a task asks for of a parallel is what its sides are asked for, one after the other: [Par], [Com] and [Close]. Assumes nothing.
use mathlib.Core.Path.{◌≡◌, refl, sym, ap, subst, ◌∙◌, fun_ext}
use mathlib.Core.Bool.{Bool, true, false}
use mathlib.Core.List.{List, [], ◌∷◌, ◌++◌}
use Prim.Native.Nat.{ℕ, zero, suc, ◌+◌, ◌-◌, ◌*◌, ◌<◌, ◌≤◌}
use native.Mathlib.Omega.{arith}
use lib.ListN.{length, get_or, drop}
use lib.Dec.{eqb}
use borrow.Author.Tests.{eqb-true, eqb-false}
use Rattle.calculus.specs.Abstraction.{Act, tau_a, inp_a, out_a, bout_a, weak}
use Rattle.calculus.specs.Cond.{Cond}
use Rattle.calculus.specs.Term.{Term, par, res, ren, lift, inst, ◌•◌}
use Rattle.calculus.proofs.Renaming.{ren_triangle}
use Rattle.terms.specs.Answer.{result}
use Rattle.terms.specs.Encoding.{encode, InScope}
use Rattle.terms.specs.Limits.{name_count}
use Rattle.terms_bytes.specs.NameTable.{table_names}
use Rattle.terms.specs.Question.{Question, check_of}
use Rattle.terms.specs.Question.{body_of}
use Rattle.terms_bytes.specs.Shape.{height}
use Rattle.terms_bytes.proofs.Heights.{height-ren}
use Rattle.steps_conditions.specs.Names.{HasNames, HasNew}
use Rattle.steps_tallies.specs.Candidates.{candidates, OwnNamesIf}
use Rattle.steps_passing.specs.Passing.{Sent, Acts, PassIs, MiddleIs}
use Rattle.steps.specs.Raw.{Candidate, step, blocked}
use Rattle.steps_plans.specs.Plans.{receiving, chosen, Asks, resting, numbered, visibly, sending, closing, SplitIs, meeting_plan, Parts, PlanIs}
use Rattle.steps_conditions.specs.Slots.{slot_of}
use Rattle.steps_tallies.specs.Tally.{visible_at, TallyIs}
use Rattle.steps_tallies.specs.Tallying.{number_at}
use Rattle.steps_passing.specs.declared.pass.Passed.{Passed}
use Rattle.steps_plans.specs.declared.plan.Numbers.{Numbers}
use Rattle.steps_plans.specs.declared.plan.Task.{Task}
use Rattle.steps_plans.proofs.AskLaws.{chosen_is}
use Rattle.steps_tallies.proofs.CandidateForms.{meetings}
use Rattle.steps_conditions.proofs.NameSlots.{names-beneath, slot_bound}
use Rattle.steps_tallies.proofs.Numbering.{meeting_at}
use Rattle.steps_tallies.proofs.Premises.{never, Meets, Meeting, left_of_lem, right_of_lem}
use Rattle.steps_passing.proofs.TwoSides.{sides_par, number_is, middle_on, middle_is, behind, right_number}

-- What stands beside a step is written as it is.
pub weak-received : (x : ℕ) (ρ : ℕ → ℕ) (α : Act) (Q : Term) → ren (receiving x ρ α) (weak α Q) ≡ ren ρ Q
unfolding receiving
weak-received x ρ tau_a Q = refl
weak-received x ρ (inp_a a) Q = ren_triangle (x • ρ) suc ρ Q (λ n. refl)
weak-received x ρ (out_a a b) Q = refl
weak-received x ρ (bout_a a) Q = ren_triangle (x • ρ) suc ρ Q (λ n. refl)

-- What a side that makes no step is asked for.
rests : (names : List ℕ) (task : Task) (body : ℕ → Term) (free D : ℕ) (σ ρ : ℕ → ℕ) (x : ℕ) (Q : Term) (top : ℕ) → OwnNamesIf task.calls σ
    → HasNames free D task.levels names (λ n. ρ (σ n)) → HasNew task.levels task.new x → task.levels + height (ren σ Q) ≤ top → Asks names (resting task) body free D σ Q (encode task.levels (ren ρ (ren σ Q))) top
unfolding chosen receiving
rests names task body free D σ ρ x Q top own has new bounded = record {
  named_own = own;
  ρ = ρ;
  x = x;
  has = has;
  new = new;
  condition = [];
  action = tau_a;
  result = ren σ Q;
  candidate = refl;
  bytes = refl;
  bounded = bounded;
}

-- A side of a parallel, which may go beneath a binder.
side_height : (α : Act) (Q : Term) → height (weak α Q) ≡ height Q
side_height tau_a Q = refl
side_height (inp_a a) Q = height-ren suc Q
side_height (out_a a b) Q = refl
side_height (bout_a a) Q = height-ren suc Q

module _ (question s : List ℕ) (at D : ℕ) (names : List ℕ) (task : Task) (walks : task.still ≡ false) (tally : List ℕ) (T : TallyIs question s task.calls tally)
    (m : ℕ) (N : MiddleIs s tally at m) (some : at < length s) where
  -- The left side steps.
  pub plan_left : task.number < number_at tally (at + 1) task.silently
      → PlanIs question s at D names task (record { close = false; middle = m; left = task; right = resting task })
  unfolding encode height
  plan_left h = record {
    on = middle_on question s task.calls tally T at m N some;
    left_levels = omega arith;
    right_levels = omega arith;
    left_calls = refl;
    right_calls = refl;
    is = λ q free σ P Q rest bs top ok few sp sq st K.
        let body = body_of q.bodies in
        let n = number_is question s task.calls tally T task.silently q (at + 1) free D σ K.named_own P (encode D Q ++ rest) ok sp st in
        let cs = candidates task.silently body task.calls (ren σ P) in
        let S = sides_par body task.silently task.calls (ren σ P) (ren σ Q) in
        let b = left_of_lem (ren σ Q) (get_or cs task.number blocked) K.condition K.action K.result
        (sym (S.first task.number (omega arith)) ∙ sym (chosen_is task body (par (ren σ P) (ren σ Q)) walks) ∙ K.candidate) in
        record {
          middle = middle_is question s task.calls tally T at m N q free D σ K.named_own P Q rest ok sp sq st;
          first = encode task.levels (ren (receiving K.x K.ρ K.action) b.result);
          second = encode task.levels (ren K.ρ (ren σ Q));
          left = record {
            named_own = K.named_own;
            ρ = K.ρ;
            x = K.x;
            has = K.has;
            new = K.new;
            condition = b.premise.condition;
            action = K.action;
            result = b.result;
            candidate = chosen_is task body (ren σ P) walks ∙ b.premise.is;
            bytes = refl;
            bounded = omega (arith, K.bounded, ap height b.is);
          };
          right = rests names task body free D σ K.ρ K.x Q top K.named_own K.has K.new (omega (arith, K.bounded, ap height b.is, side_height K.action (ren σ Q)));
          bytes =
              K.bytes ∙ ap (λ (A : Term). encode task.levels (ren (receiving K.x K.ρ K.action) A)) b.is
              ∙ ap (λ (T : Term). 7 ∷ (encode task.levels (ren (receiving K.x K.ρ K.action) b.result) ++ encode task.levels T))
              (weak-received K.x K.ρ K.action (ren σ Q));
        };
  }

  -- The right side steps.
  pub plan_right : number_at tally (at + 1) task.silently ≤ task.number → (j : ℕ) → j ≡ task.number - number_at tally (at + 1) task.silently
      → j < number_at tally m task.silently → PlanIs question s at D names task (record { close = false; middle = m; left = resting task; right = numbered j task })
  unfolding encode height
  plan_right l j J h = record {
    on = middle_on question s task.calls tally T at m N some;
    left_levels = omega arith;
    right_levels = omega arith;
    left_calls = refl;
    right_calls = refl;
    is = λ q free σ P Q rest bs top ok few sp sq st K.
        let body = body_of q.bodies in
        let n = number_is question s task.calls tally T task.silently q (at + 1) free D σ K.named_own P (encode D Q ++ rest) ok sp st in
        let k = right_number question s task.calls tally T at m N q free D σ K.named_own P Q rest ok sp sq st task.silently in
        let cs = candidates task.silently body task.calls (ren σ Q) in
        let S = sides_par body task.silently task.calls (ren σ P) (ren σ Q) in
        let i : task.number ≡ length (candidates task.silently body task.calls (ren σ P)) + j = omega arith in
        let b = right_of_lem (ren σ P) (get_or cs j blocked) K.condition K.action K.result
        (sym (S.second j (omega arith))
        ∙ ap (λ (j : ℕ). get_or (candidates task.silently body task.calls (par (ren σ P) (ren σ Q))) j blocked) (sym i)
        ∙ sym (chosen_is task body (par (ren σ P) (ren σ Q)) walks) ∙ K.candidate) in
        record {
          middle = middle_is question s task.calls tally T at m N q free D σ K.named_own P Q rest ok sp sq st;
          first = encode task.levels (ren K.ρ (ren σ P));
          second = encode task.levels (ren (receiving K.x K.ρ K.action) b.result);
          left = rests names task body free D σ K.ρ K.x P top K.named_own K.has K.new (omega (arith, K.bounded, ap height b.is, side_height K.action (ren σ P)));
          right = record {
            named_own = K.named_own;
            ρ = K.ρ;
            x = K.x;
            has = K.has;
            new = K.new;
            condition = b.premise.condition;
            action = K.action;
            result = b.result;
            candidate = chosen_is (numbered j task) body (ren σ Q) walks ∙ b.premise.is;
            bytes = refl;
            bounded = omega (arith, K.bounded, ap height b.is);
          };
          bytes =
              K.bytes ∙ ap (λ (A : Term). encode task.levels (ren (receiving K.x K.ρ K.action) A)) b.is
              ∙ ap (λ (T : Term). 7 ∷ (encode task.levels T ++ encode task.levels (ren (receiving K.x K.ρ K.action) b.result)))
              (weak-received K.x K.ρ K.action (ren σ P));
        };
  }

-- What an action that sends a free name does, and what meets it.
record Sends (free D : ℕ) (σ : ℕ → ℕ) (β : Act) (o : ℕ) : Type 0 where
  channel : ℕ
  object : ℕ
  is : β ≡ out_a channel object
  sent : Sent free D σ object o

sends : (free D : ℕ) (σ : ℕ → ℕ) (β : Act) (k o : ℕ) → Acts free D σ β k o → k ≡ 2 → Sends free D σ β o
unfolding Acts
sends free D σ tau_a k o d e = absurd (omega arith)
sends free D σ (inp_a a) k o d e = absurd (omega arith)
sends free D σ (out_a a b) k o d e = record { channel = a; object = b; is = refl; sent = d.1 }
sends free D σ (bout_a a) k o d e = absurd (omega arith)

record Receives (γ : Act) (T : Type 0) : Type 0 where
  channel : ℕ
  is : γ ≡ inp_a channel
  whole : T

right_receives : (a y : ℕ) (P : Term) (γ : Act) (Q A : Term) → Meets (out_a a y) P γ Q A → Receives γ (A ≡ par P (ren (inst y) Q))
right_receives a y P tau_a Q A m = absurd m
right_receives a y P (inp_a b) Q A m = record { channel = b; is = refl; whole = m }
right_receives a y P (out_a b z) Q A m = absurd m
right_receives a y P (bout_a b) Q A m = absurd m

left_receives : (b y : ℕ) (β : Act) (P Q A : Term) → Meets β P (out_a b y) Q A → Receives β (A ≡ par (ren (inst y) P) Q)
left_receives b y tau_a P Q A m = absurd m
left_receives b y (inp_a a) P Q A m = record { channel = a; is = refl; whole = m }
left_receives b y (out_a a z) P Q A m = absurd m
left_receives b y (bout_a a) P Q A m = absurd m

-- Otherwise both results are abstractions, and the name is new.
abbrev Bound : Act → Type 0
Bound β = (x : ℕ) (ρ : ℕ → ℕ) → receiving x ρ β ≡ x • ρ

both_bound : (free D : ℕ) (σ : ℕ → ℕ) (β : Act) (P : Term) (γ : Act) (Q A : Term) (k o l u : ℕ) → Meets β P γ Q A → Acts free D σ β k o → Acts free D σ γ l u
    → (k ≡ 2 → ⊥) → (l ≡ 2 → ⊥) → (A ≡ res (par P Q)) × Bound β × Bound γ
unfolding Acts receiving
both_bound free D σ tau_a P γ Q A k o l u m d e x y = absurd m
both_bound free D σ (inp_a a) P tau_a Q A k o l u m d e x y = absurd m
both_bound free D σ (inp_a a) P (inp_a b) Q A k o l u m d e x y = absurd m
both_bound free D σ (inp_a a) P (out_a b z) Q A k o l u m d e x y = absurd (y e.0)
both_bound free D σ (inp_a a) P (bout_a b) Q A k o l u m d e x y = (m, λ i ρ. refl, λ i ρ. refl)
both_bound free D σ (out_a a z) P γ Q A k o l u m d e x y = absurd (x d.0)
both_bound free D σ (bout_a a) P tau_a Q A k o l u m d e x y = absurd m
both_bound free D σ (bout_a a) P (inp_a b) Q A k o l u m d e x y = (m, λ i ρ. refl, λ i ρ. refl)
both_bound free D σ (bout_a a) P (out_a b z) Q A k o l u m d e x y = absurd m
both_bound free D σ (bout_a a) P (bout_a b) Q A k o l u m d e x y = absurd m

-- The name received is the one sent.
received : (ρ : ℕ → ℕ) (y : ℕ) (Q : Term) → ren ρ (ren (inst y) Q) ≡ ren (ρ y • ρ) Q
received ρ y Q = ren_triangle ρ (inst y) (ρ y • ρ) Q go
  where
    go : (n : ℕ) → ρ (inst y n) ≡ (ρ y • ρ) n
    go zero = refl
    go (suc n) = refl

lift_is : (ρ : ℕ → ℕ) → (0 • (λ n. suc (ρ n))) ≡ lift ρ
lift_is ρ = fun_ext go
  where
    go : (n : ℕ) → (0 • (λ n. suc (ρ n))) n ≡ lift ρ n
    go zero = refl
    go (suc n) = refl

-- A communication.
record Met (free D : ℕ) (σ : ℕ → ℕ) (c d : Candidate) (α : Act) (A : Term) (x z : Passed) : Type 0 where
  meeting : Meeting c d α A
  left_does : Acts free D σ meeting.left_action x.kind x.object
  right_does : Acts free D σ meeting.right_action z.kind z.object

module _ (question s : List ℕ) (at D : ℕ) (names : List ℕ) (task : Task) (walks : task.still ≡ false) (tally : List ℕ) (T : TallyIs question s task.calls tally)
    (m₀ : ℕ) (N : MiddleIs s tally at m₀) (some : at < length s)
    (h : number_at tally (at + 1) task.silently ≤ task.number) (i : ℕ) (I : i ≡ task.number - number_at tally (at + 1) task.silently)
    (l : number_at tally m₀ task.silently ≤ i) (j : ℕ) (J : j ≡ i - number_at tally m₀ task.silently) (u : Numbers) (U : SplitIs j (visible_at tally m₀) u)
    (x : Passed) (W : PassIs question s (at + 1) D task.calls false u.left x) (z : Passed) (Z : PassIs question s m₀ D task.calls false u.right z) where
  module _ (q : Question) (free : ℕ) (σ : ℕ → ℕ) (own : OwnNamesIf task.calls σ) (P Q : Term) (rest : List ℕ) (ok : check_of question ≡ result q) (few : free ≤ name_count)
      (sp : InScope free q.arities D P) (sq : InScope free q.arities D Q) (st : drop (at + 1) s ≡ encode D P ++ (encode D Q ++ rest)) where
    abbrev body : ℕ → Term
    body = body_of q.bodies

    abbrev ss : List Candidate
    ss = candidates false body task.calls (ren σ P)

    abbrev ts : List Candidate
    ts = candidates false body task.calls (ren σ Q)

    ends : m₀ ≡ at + 1 + length (encode D P)
    ends = middle_is question s task.calls tally T at m₀ N q free D σ own P Q rest ok sp sq st

    third : (M : Cond) (α : Act) (A : Term) → chosen task body (par (ren σ P) (ren σ Q)) ≡ step M α A
        → get_or (meetings body task.silently task.calls (ren σ P) (ren σ Q)) j blocked ≡ step M α A
    third M α A e =
        let S = sides_par body task.silently task.calls (ren σ P) (ren σ Q) in
        let a = number_is question s task.calls tally T task.silently q (at + 1) free D σ own P (encode D Q ++ rest) ok sp st in
        let b = right_number question s task.calls tally T at m₀ N q free D σ own P Q rest ok sp sq st task.silently in
        let k : task.number ≡ length (candidates task.silently body task.calls (ren σ P)) + (length (candidates task.silently body task.calls (ren σ Q)) + j) =
        omega arith in
        sym (S.third j)
        ∙ ap (λ (j : ℕ). get_or (candidates task.silently body task.calls (par (ren σ P) (ren σ Q))) j blocked) (sym k)
        ∙ sym (chosen_is task body (par (ren σ P) (ren σ Q)) walks) ∙ e

    numbers : 0 < length ts → (j ≡ u.left * length ts + u.right) × (u.right < length ts)
    unfolding number_at
    numbers =
        subst (λ (n : ℕ). 0 < n → (j ≡ u.left * n + u.right) × (u.right < n))
        (right_number question s task.calls tally T at m₀ N q free D σ own P Q rest ok sp sq st false) U.is

    met : (M : Cond) (α : Act) (A : Term) → chosen task body (par (ren σ P) (ren σ Q)) ≡ step M α A
        → Met free D σ (get_or ss u.left blocked) (get_or ts u.right blocked) α A x z
    met M α A e = silently task.silently refl
      where
        silently : (b : Bool) → task.silently ≡ b → Met free D σ (get_or ss u.left blocked) (get_or ts u.right blocked) α A x z
        silently false b =
            never M α A (sym (ap (λ (b : Bool). get_or (meetings body b task.calls (ren σ P) (ren σ Q)) j blocked) b) ∙ third M α A e)
        silently true b =
            let g = meeting_at ss ts j u.left u.right numbers M α A
            (sym (ap (λ (b : Bool). get_or (meetings body b task.calls (ren σ P) (ren σ Q)) j blocked) b) ∙ third M α A e) in
            record {
              meeting = g;
              left_does = W.does q free σ own P (encode D Q ++ rest) ok few sp st g.left.condition g.left_action g.left_result g.left.is;
              right_does = Z.does q free σ own Q rest ok few sq (behind question s task.calls tally T at m₀ N q free D σ own P Q rest ok sp sq st)
                  g.right.condition g.right_action g.right_result g.right.is;
            }

    module _ (bs : List ℕ) (top : ℕ) (K : Asks names task body free D σ (par P Q) bs top) where
      m : Met free D σ (get_or ss u.left blocked) (get_or ts u.right blocked) K.action K.result x z
      m = met K.condition K.action K.result K.candidate

      silent-bytes : bs ≡ encode task.levels (ren K.ρ K.result)
      unfolding receiving
      silent-bytes = K.bytes ∙ ap (λ (α : Act). encode task.levels (ren (receiving K.x K.ρ α) K.result)) m.meeting.silent

      -- What a side is asked for, under any renaming and new name.
      left_asks : (t : Task) → t.levels + height m.meeting.left_result ≤ top → t.still ≡ false → t.silently ≡ false → t.calls ≡ task.calls → t.number ≡ u.left → (ρ : ℕ → ℕ) (y : ℕ)
          → HasNames free D t.levels names (λ n. ρ (σ n)) → HasNew t.levels t.new y
          → Asks names t body free D σ P (encode t.levels (ren (receiving y ρ m.meeting.left_action) m.meeting.left_result)) top
      left_asks t bounded still sil calls number ρ y has new = record {
        named_own = λ z. own (omega arith);
        ρ = ρ;
        x = y;
        has = has;
        new = new;
        condition = m.meeting.left.condition;
        action = m.meeting.left_action;
        result = m.meeting.left_result;
        candidate = chosen_is t body (ren σ P) still ∙ rw (sil, calls, number) m.meeting.left.is;
        bytes = refl;
        bounded = bounded;
      }

      right_asks : (t : Task) → t.levels + height m.meeting.right_result ≤ top → t.still ≡ false → t.silently ≡ false → t.calls ≡ task.calls → t.number ≡ u.right → (ρ : ℕ → ℕ) (y : ℕ)
          → HasNames free D t.levels names (λ n. ρ (σ n)) → HasNew t.levels t.new y
          → Asks names t body free D σ Q (encode t.levels (ren (receiving y ρ m.meeting.right_action) m.meeting.right_result)) top
      right_asks t bounded still sil calls number ρ y has new = record {
        named_own = λ z. own (omega arith);
        ρ = ρ;
        x = y;
        has = has;
        new = new;
        condition = m.meeting.right.condition;
        action = m.meeting.right_action;
        result = m.meeting.right_result;
        candidate = chosen_is t body (ren σ Q) still ∙ rw (sil, calls, number) m.meeting.right.is;
        bytes = refl;
        bounded = bounded;
      }

      -- The name sent.
      sent_new : (o n : ℕ) → n < D + free → o ≡ slot_of table_names D n → HasNew task.levels (get_or names o 0) (K.ρ (σ n))
      unfolding HasNames HasNew
      sent_new o n l e = let (f, b) = K.has n l in (ap (λ (k : ℕ). get_or names k 0) e ∙ f, b)

      com_right : x.kind ≡ 2 → Parts names (record { close = false; middle = m₀; left = visibly u.left task; right = sending (get_or names x.object 0) (visibly u.right task) })
          body free D σ at P Q bs top
      unfolding encode receiving height
      com_right e =
          let S = sends free D σ m.meeting.left_action x.kind x.object m.left_does e in
          let T = right_receives S.channel S.object m.meeting.left_result m.meeting.right_action m.meeting.right_result K.result
          (subst (λ (β : Act). Meets β m.meeting.left_result m.meeting.right_action m.meeting.right_result K.result) S.is m.meeting.meets) in
          let L = task.levels in
          let y = K.ρ (σ S.sent.name) in
          let w : K.ρ S.object ≡ y = ap K.ρ S.sent.is in
          record {
            middle = ends;
            first = encode L (ren (receiving K.x K.ρ m.meeting.left_action) m.meeting.left_result);
            second = encode L (ren (receiving y K.ρ m.meeting.right_action) m.meeting.right_result);
            left = left_asks (visibly u.left task) (omega (arith, K.bounded, ap height T.whole)) refl refl refl refl K.ρ K.x K.has K.new;
            right = right_asks (sending (get_or names x.object 0) (visibly u.right task))
                (omega (arith, K.bounded, ap height T.whole, height-ren (inst S.object) m.meeting.right_result)) refl refl refl refl K.ρ y
                K.has (sent_new x.object S.sent.name S.sent.within S.sent.slot);
            bytes =
                silent-bytes ∙ ap (λ (A : Term). encode L (ren K.ρ A)) T.whole
                ∙ ap (λ (B : Term). 7 ∷ (encode L (ren K.ρ m.meeting.left_result) ++ encode L B)) (received K.ρ S.object m.meeting.right_result)
                ∙ ap (λ (n : ℕ). 7 ∷ (encode L (ren K.ρ m.meeting.left_result) ++ encode L (ren (n • K.ρ) m.meeting.right_result))) w
                ∙ ap (λ (β : Act). 7 ∷ (encode L (ren (receiving K.x K.ρ β) m.meeting.left_result) ++ encode L (ren (y • K.ρ) m.meeting.right_result))) (sym S.is)
                ∙ ap (λ (γ : Act). 7 ∷ (encode L (ren (receiving K.x K.ρ m.meeting.left_action) m.meeting.left_result) ++ encode L (ren (receiving y K.ρ γ) m.meeting.right_result))) (sym T.is);
          }

      com_left : z.kind ≡ 2 → Parts names (record { close = false; middle = m₀; left = sending (get_or names z.object 0) (visibly u.left task); right = visibly u.right task })
          body free D σ at P Q bs top
      unfolding encode receiving height
      com_left e =
          let S = sends free D σ m.meeting.right_action z.kind z.object m.right_does e in
          let T = left_receives S.channel S.object m.meeting.left_action m.meeting.left_result m.meeting.right_result K.result
          (subst (λ (γ : Act). Meets m.meeting.left_action m.meeting.left_result γ m.meeting.right_result K.result) S.is m.meeting.meets) in
          let L = task.levels in
          let y = K.ρ (σ S.sent.name) in
          let w : K.ρ S.object ≡ y = ap K.ρ S.sent.is in
          record {
            middle = ends;
            first = encode L (ren (receiving y K.ρ m.meeting.left_action) m.meeting.left_result);
            second = encode L (ren (receiving K.x K.ρ m.meeting.right_action) m.meeting.right_result);
            left = left_asks (sending (get_or names z.object 0) (visibly u.left task))
                (omega (arith, K.bounded, ap height T.whole, height-ren (inst S.object) m.meeting.left_result)) refl refl refl refl K.ρ y
                K.has (sent_new z.object S.sent.name S.sent.within S.sent.slot);
            right = right_asks (visibly u.right task) (omega (arith, K.bounded, ap height T.whole)) refl refl refl refl K.ρ K.x K.has K.new;
            bytes =
                silent-bytes ∙ ap (λ (A : Term). encode L (ren K.ρ A)) T.whole
                ∙ ap (λ (B : Term). 7 ∷ (encode L B ++ encode L (ren K.ρ m.meeting.right_result))) (received K.ρ S.object m.meeting.left_result)
                ∙ ap (λ (n : ℕ). 7 ∷ (encode L (ren (n • K.ρ) m.meeting.left_result) ++ encode L (ren K.ρ m.meeting.right_result))) w
                ∙ ap (λ (γ : Act). 7 ∷ (encode L (ren (y • K.ρ) m.meeting.left_result) ++ encode L (ren (receiving K.x K.ρ γ) m.meeting.right_result))) (sym S.is)
                ∙ ap (λ (β : Act). 7 ∷ (encode L (ren (receiving y K.ρ β) m.meeting.left_result) ++ encode L (ren (receiving K.x K.ρ m.meeting.right_action) m.meeting.right_result))) (sym T.is);
          }

      closed_names : HasNames free D (task.levels + 1) names (λ n. suc (K.ρ (σ n)))
      closed_names =
          let e : task.levels + 1 ≡ 1 + task.levels = omega arith in
          rw e (names-beneath free D task.levels names (λ n. K.ρ (σ n)) K.has)

      closed_new : HasNew (task.levels + 1) (table_names + task.levels) 0
      unfolding HasNew
      closed_new =
          let e : task.levels + 1 ≡ 1 + task.levels = omega arith in
          rw e (sym (slot_bound table_names (1 + task.levels) 0 (omega arith) ∙ omega arith), omega arith)

      closes : (x.kind ≡ 2 → ⊥) → (z.kind ≡ 2 → ⊥)
          → Parts names (record { close = true; middle = m₀; left = closing (visibly u.left task); right = closing (visibly u.right task) }) body free D σ at P Q bs top
      unfolding encode height
      closes nx nz =
          let (whole, bl, br) = both_bound free D σ m.meeting.left_action m.meeting.left_result m.meeting.right_action m.meeting.right_result K.result
          x.kind x.object z.kind z.object m.meeting.meets m.left_does m.right_does nx nz in
          let L = task.levels in
          let e : 1 + L ≡ L + 1 = omega arith in
          let up : ℕ → ℕ = λ n. suc (K.ρ n) in
          record {
            middle = ends;
            first = encode (L + 1) (ren (receiving 0 up m.meeting.left_action) m.meeting.left_result);
            second = encode (L + 1) (ren (receiving 0 up m.meeting.right_action) m.meeting.right_result);
            left = left_asks (closing (visibly u.left task)) (omega (arith, K.bounded, ap height whole)) refl refl refl refl up 0 closed_names closed_new;
            right = right_asks (closing (visibly u.right task)) (omega (arith, K.bounded, ap height whole)) refl refl refl refl up 0 closed_names closed_new;
            bytes =
                silent-bytes ∙ ap (λ (A : Term). encode L (ren K.ρ A)) whole
                ∙ ap (λ (f : ℕ → ℕ). 8 ∷ 7 ∷ (encode (1 + L) (ren f m.meeting.left_result) ++ encode (1 + L) (ren f m.meeting.right_result))) (sym (lift_is K.ρ))
                ∙ ap (λ (f : ℕ → ℕ). 8 ∷ 7 ∷ (encode (1 + L) (ren f m.meeting.left_result) ++ encode (1 + L) (ren (0 • up) m.meeting.right_result))) (sym (bl 0 up))
                ∙ ap (λ (f : ℕ → ℕ). 8 ∷ 7 ∷ (encode (1 + L) (ren (receiving 0 up m.meeting.left_action) m.meeting.left_result) ++ encode (1 + L) (ren f m.meeting.right_result))) (sym (br 0 up))
                ∙ ap (λ (n : ℕ). 8 ∷ 7 ∷ (encode n (ren (receiving 0 up m.meeting.left_action) m.meeting.left_result) ++ encode n (ren (receiving 0 up m.meeting.right_action) m.meeting.right_result))) e;
          }

  pub plan_met : PlanIs question s at D names task (meeting_plan names task m₀ u x z)
  unfolding meeting_plan
  plan_met = go (eqb x.kind 2) refl (eqb z.kind 2) refl
    where
      go : (b : Bool) → eqb x.kind 2 ≡ b → (c : Bool) → eqb z.kind 2 ≡ c → PlanIs question s at D names task (meeting_plan names task m₀ u x z)
      go true b c d = rw b record {
        on = middle_on question s task.calls tally T at m₀ N some;
        left_levels = omega arith;
        right_levels = omega arith;
        left_calls = refl;
        right_calls = refl;
        is = λ q free σ P Q rest bs top ok few sp sq st K. com_right q free σ K.named_own P Q rest ok few sp sq st bs top K (eqb-true x.kind 2 b);
      }
      go false b true d = rw (b, d) record {
        on = middle_on question s task.calls tally T at m₀ N some;
        left_levels = omega arith;
        right_levels = omega arith;
        left_calls = refl;
        right_calls = refl;
        is = λ q free σ P Q rest bs top ok few sp sq st K. com_left q free σ K.named_own P Q rest ok few sp sq st bs top K (eqb-true z.kind 2 d);
      }
      go false b false d = rw (b, d) record {
        on = middle_on question s task.calls tally T at m₀ N some;
        left_levels = omega arith;
        right_levels = omega arith;
        left_calls = refl;
        right_calls = refl;
        is = λ q free σ P Q rest bs top ok few sp sq st K. closes q free σ K.named_own P Q rest ok few sp sq st bs top K (eqb-false x.kind 2 b) (eqb-false z.kind 2 d);
      }
