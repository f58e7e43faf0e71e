-- A field within the limits stays within them, and grows no larger, where results and the parts of the start are brought into a form (document 02,
-- request 2026-04): the field of formed situations is the image of the field of the situations as they are. Assumes nothing.
use mathlib.Core.List.{List, [], ◌∷◌, map}
use mathlib.Core.Logic.{◌⊎◌, inl, inr}
use mathlib.Core.Path.{◌≡◌, refl, sym, ◌∙◌, ap, ap₂, subst}
use native.Mathlib.Omega.{arith}
use Prim.Native.Nat.{ℕ, ◌<◌, ◌≤◌}
use lib.ListN.{length, length-map}
use Rattle.calculus.specs.Cond.{Cond, Pairs, cls}
use Rattle.calculus.specs.Definitions.{Defs}
use Rattle.calculus.specs.Free.{Free}
use Rattle.calculus.specs.OpenBisimulation.{update}
use Rattle.calculus.specs.Published.{Action, input, Transition}
use Rattle.calculus.specs.Term.{Term, ren, put}
use Rattle.terms.specs.Encoding.{encode}
use Rattle.steps.specs.Derived.{Derived}
use Rattle.steps.specs.Forms.{as_it_is}
use Rattle.steps.specs.Listed.{ListedStep, listed_as, result_bytes}
use Rattle.calculus.specs.Lists.{All, Distinct}
use Rattle.steps.specs.Limits.{most_reached}
use Rattle.steps.proofs.FormLaws.{Form, SoMoves, free_form, past_formed}
use Rattle.calculus.proofs.Membership.{∈-map, ∈-all, all-∈, distinct_length}
use Rattle.field.specs.Field.{fresh, Move, Successor, first_moving, second_moving, both_do, both_receive, PartPast, too_many, too_long, too_many_calls, no_name, Past, InField, at_start, successor, PastLimit, FieldSize}
use Rattle.field.specs.Setting.{Setting}
use Rattle.field.specs.Situation.{Situation, situation}
use Rattle.field.proofs.FormedParts.{new_formed, form_situation, situation_formed, update_formed, formed_update}
use Rattle.field.proofs.Proper.{situation_agreed}

-- Members of an image.
module _ {A B : Type 0} (f : A → B) (R : B → Type 0) (S : A → Type 0) (back : (b : B) → R b → (a : A) × S a × (f a ≡ b)) where
  all_back : (bs : List B) → All R bs → (as' : List A) × All S as' × (map f as' ≡ bs)
  all_back [] h = ([], tt, refl)
  all_back (b ∷ bs) (h, k) =
      let (a, s, e) = back b h in
      let (as', ss, es) = all_back bs k in
      (a ∷ as', (s, ss), ap₂ ◌∷◌ e es)

module _ {A B : Type 0} (f : A → B) where
  distinct_back : (as' : List A) → Distinct (map f as') → Distinct as'
  distinct_back [] d = tt
  distinct_back (a ∷ as') (h, d) = (λ m. h (∈-map f a as' m), distinct_back as' d)

module _ {form : Term → Term} (formed : Form form) (Δ : Defs) (S : Setting) where
  -- the setting with results as they are, and with results in their form
  abbrev pub before : Setting
  before = record { names = S.names; longest = S.longest; most = S.most; calls = S.calls; body = S.body; form = as_it_is; differ = S.differ }

  abbrev pub now : Setting
  now = record { names = S.names; longest = S.longest; most = S.most; calls = S.calls; body = S.body; form = form; differ = S.differ }

  abbrev form_of : Situation → Situation
  form_of = form_situation formed

  -- a transition of a term's form is one of the term
  back : (P : Term) {M : Cond} {α : Action} {P' : Term} → Transition Δ (form P) M α P' → SoMoves form Δ P M α P'
  back P t = formed.moves Δ (form P) P (formed.again P) t

  -- Steps.
  form_step : ListedStep → ListedStep
  form_step s = record { classes = s.classes; kind = s.kind; channel = s.channel; object = s.object; result = form s.result }

  longer : (longest : ℕ) (t s : ListedStep) → form_step t ≡ s → longest < length (result_bytes s) → longest < length (result_bytes t)
  unfolding form_step result_bytes
  longer longest t s e l =
      let k : length (encode 0 (form t.result)) ≡ length (encode 0 s.result) = ap (λ u. length (encode 0 u.result)) e in
      omega (arith, formed.shorter 0 t.result)

  derived_back : (names x y : ℕ) → x ≡ y → (P : Term) (s : ListedStep) → Derived form Δ names x (form P) s
      → (t : ListedStep) × Derived as_it_is Δ names y P t × (form_step t ≡ s)
  unfolding listed_as form_step
  derived_back names x y e P s d =
      let u = back P d.transition in (
        listed_as names d.condition d.action u.result,
        record {
          condition = d.condition;
          action = d.action;
          result = u.result;
          transition = u.transition;
          binds = λ z i. d.binds z i ∙ e;
          listed = refl;
        },
        ap (λ X. listed_as names d.condition d.action X) u.formed ∙ sym d.listed,
      )

  -- Moves.
  move_back : (x y : ℕ) → x ≡ y → (P : Term) → Move Δ now x (form P) → Move Δ before y P
  move_back x y e P m =
      let u = back P m.transition in
      record { condition = m.condition; action = m.action; result = u.result; transition = u.transition; binds = λ z i. m.binds z i ∙ e }

  new-same : (s : Situation) → fresh Δ now (form_of s) ≡ fresh Δ before s
  new-same s = new_formed formed S.names s.first s.second

  alike-ren : (ρ : ℕ → ℕ) (P Q : Term) → form P ≡ form Q → form (ren ρ P) ≡ form (ren ρ Q)
  alike-ren ρ P Q e = formed.renamed ρ P ∙ ap (ren ρ) e ∙ sym (formed.renamed ρ Q)

  -- where terms of the same forms lead
  lead : (A B A' B' : Term) (D : Pairs) → form A ≡ form A' → form B ≡ form B' → situation S.names (form A') (form B') D ≡ form_of (situation S.names A B D)
  lead A B A' B' D e f = (λ i. situation S.names (sym e i) (sym f i) D) ∙ situation_formed formed S.names A B D

  updated : (A B P Q : Term) (D : Pairs) (α : Action) (M : Cond)
      → situation S.names A B (update D (form P) (form Q) α M) ≡ situation S.names A B (update D P Q α M)
  updated A B P Q D α M =
      situation_agreed S.names A B (update D (form P) (form Q) α M) (update D P Q α M)
      (λ a b i j. (update_formed formed D P Q α M a b, formed_update formed D P Q α M a b))

  -- Each successor of a formed situation is a successor of the situation, in its form.
  record Back (s t' : Situation) : Type 0 where
    origin : Situation
    follows : Successor Δ before s origin
    is : t' ≡ form_of origin

  received_back : (s : Situation) (x y : ℕ) → x ≡ fresh Δ before s → (y ≡ x) ⊎ Free y (form s.first) ⊎ Free y (form s.second)
      → (y ≡ fresh Δ before s) ⊎ Free y s.first ⊎ Free y s.second
  received_back s x y e (inl h) = inl (h ∙ e)
  received_back s x y e (inr (inl f)) = inr (inl (free_form formed y s.first f))
  received_back s x y e (inr (inr f)) = inr (inr (free_form formed y s.second f))

  successor_back : (s t' : Situation) → Successor Δ now (form_of s) t' → Back s t'
  unfolding move_back
  successor_back s t' (first_moving o m n r h e) =
      let m₀ = move_back (fresh Δ now (form_of s)) (fresh Δ before s) (new-same s) s.first m in
      let n₀ = move_back (fresh Δ now (form_of s)) (fresh Δ before s) (new-same s) s.second n in
      let D = update s.apart s.first s.second m.action m.condition in
      record {
        origin = situation S.names m₀.result (ren (cls m.condition) n₀.result) D;
        follows = first_moving o m₀ n₀ r (record { implied = h.implied; equal = h.equal }) refl;
        is = e
            ∙ updated (form m.result) (form (ren (cls m.condition) n.result)) s.first s.second s.apart m.action m.condition
            ∙ lead m₀.result (ren (cls m.condition) n₀.result) m.result (ren (cls m.condition) n.result) D
            (back s.first m.transition).formed
            (alike-ren (cls m.condition) n₀.result n.result (back s.second n.transition).formed);
      }
  successor_back s t' (second_moving o m n r h e) =
      let m₀ = move_back (fresh Δ now (form_of s)) (fresh Δ before s) (new-same s) s.second m in
      let n₀ = move_back (fresh Δ now (form_of s)) (fresh Δ before s) (new-same s) s.first n in
      let D = update s.apart s.second s.first m.action m.condition in
      record {
        origin = situation S.names (ren (cls m.condition) n₀.result) m₀.result D;
        follows = second_moving o m₀ n₀ r (record { implied = h.implied; equal = h.equal }) refl;
        is = e
            ∙ updated (form (ren (cls m.condition) n.result)) (form m.result) s.second s.first s.apart m.action m.condition
            ∙ lead (ren (cls m.condition) n₀.result) m₀.result (ren (cls m.condition) n.result) m.result D
            (alike-ren (cls m.condition) n₀.result n.result (back s.first n.transition).formed)
            (back s.second m.transition).formed;
      }
  successor_back s t' (both_do o α b i A B u v e) =
      let p = back s.first u in
      let q = back s.second v in
      record {
        origin = situation S.names p.result q.result [];
        follows = both_do o α (λ y h. b y h ∙ new-same s) i p.result q.result p.transition q.transition refl;
        is = e ∙ lead p.result q.result A B [] p.formed q.formed;
      }
  successor_back s t' (both_receive o a y i A B u v e) =
      let x = fresh Δ now (form_of s) in
      let z = fresh Δ before s in
      let p = back s.first (subst (λ w. Transition Δ (form s.first) [] (input a w) A) (new-same s) u) in
      let q = back s.second (subst (λ w. Transition Δ (form s.second) [] (input a w) B) (new-same s) v) in
      record {
        origin = situation S.names (ren (put z y) p.result) (ren (put z y) q.result) [];
        follows = both_receive o a y (received_back s x y (new-same s) i) p.result q.result p.transition q.transition refl;
        is = subst (λ w. t' ≡ situation S.names (form (ren (put w y) A)) (form (ren (put w y) B)) []) (new-same s) e
            ∙ lead (ren (put z y) p.result) (ren (put z y) q.result) (ren (put z y) A) (ren (put z y) B) []
            (alike-ren (put z y) p.result A p.formed) (alike-ren (put z y) q.result B q.formed);
      }

  -- The limits.
  part_back : (x y : ℕ) → x ≡ y → (P : Term) → PartPast Δ now x (form P) → PartPast Δ before y P
  unfolding move_back
  part_back x y e P (too_many h) =
      let (ts, d, k) = all_back form_step (Derived form Δ S.names x (form P)) (Derived as_it_is Δ S.names y P) (derived_back S.names x y e P) h.steps h.derived in
      too_many (record {
        steps = ts;
        distinct = distinct_back form_step ts (subst Distinct (sym k) h.distinct);
        derived = d;
        many = (let l = ap length k in let q = h.many in omega (arith, length-map ts form_step));
      })
  part_back x y e P (too_long h) =
      let (t, d, k) = derived_back S.names x y e P h.step h.derived in
      too_long (record { step = t; derived = d; long = longer S.longest t h.step k h.long })
  part_back x y e P (too_many_calls h) = too_many_calls (past_formed formed Δ most_reached P h)
  part_back x y e P (no_name f m z i) = no_name (sym e ∙ f) (move_back x y e P m) z i

  past_back : (s : Situation) → Past Δ now (form_of s) → Past Δ before s
  past_back s (inl h) = inl (part_back (fresh Δ now (form_of s)) (fresh Δ before s) (new-same s) s.first h)
  past_back s (inr h) = inr (part_back (fresh Δ now (form_of s)) (fresh Δ before s) (new-same s) s.second h)

  -- Where no situation is past a limit, every formed situation is one of the field as it was, in its form.
  module _ (start : Situation) (none : (s : Situation) → InField Δ before start s → ¬ Past Δ before s) where
    field_back : (s' : Situation) → InField Δ now (form_of start) s' → (s : Situation) × InField Δ before start s × (form_of s ≡ s')
    field_back s' at_start = (start, at_start, refl)
    field_back t' (successor {s = s'} f h q) =
        let (s, g, e) = field_back s' f in
        let b = successor_back s t' (subst (λ u. Successor Δ now u t') (sym e) q) in
        (b.origin, successor g (none s g) b.follows, sym b.is)

    -- distinct situations have distinct origins
    record Origins (ss : List Situation) : Type 0 where
      list : List Situation
      distinct : Distinct list
      members : All (InField Δ before start) list
      count : length list ≡ length ss

    origins : (ss : List Situation) → Distinct ss → All (InField Δ now (form_of start)) ss → Origins ss
    origins ss d a =
        let (ts, b, k) = all_back form_of (InField Δ now (form_of start)) (InField Δ before start) field_back ss a in
        record {
          list = ts;
          distinct = distinct_back form_of ts (subst Distinct (sym k) d);
          members = b;
          count = sym (length-map ts form_of) ∙ ap length k;
        }

  within_none : (start : Situation) (capacity : ℕ) → ¬ PastLimit Δ before start capacity → (s : Situation) → InField Δ before start s → ¬ Past Δ before s
  within_none start capacity within s f p = within (inr (record { there = s; member = f; past = p }))

  pub limits_kept : (start : Situation) (capacity : ℕ) → ¬ PastLimit Δ before start capacity → ¬ PastLimit Δ now (form_situation formed start) capacity
  limits_kept start capacity within (inl h) =
      let o = origins start (within_none start capacity within) h.situations h.distinct h.members in
      within (inl (record { situations = o.list; distinct = o.distinct; members = o.members; many = omega (arith, h.many, o.count) }))
  limits_kept start capacity within (inr h) =
      let (s, f, e) = field_back start (within_none start capacity within) h.there h.member in
      within_none start capacity within s f (past_back s (subst (Past Δ now) (sym e) h.past))

  -- and the field has no more situations
  pub no_larger : (start : Situation) (capacity n k : ℕ) → ¬ PastLimit Δ before start capacity → FieldSize Δ before start n
      → FieldSize Δ now (form_situation formed start) k → k ≤ n
  no_larger start capacity n k within a b =
      let o = origins start (within_none start capacity within) b.situations b.distinct
      (∈-all (InField Δ now (form_of start)) b.situations (λ s m. (b.members s).0 m)) in
      omega (
        arith,
        a.size,
        b.size,
        o.count,
        distinct_length o.list a.situations o.distinct (λ s m. (a.members s).1 (all-∈ (InField Δ before start) o.list o.members s m)),
      )
