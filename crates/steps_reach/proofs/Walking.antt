-- The walk of a term, as far as the calls are concerned that it lists: what stands unprefixed in it is listed, and so on from each call that is.
-- Assumes nothing.
use mathlib.Core.List.{List, [], ◌∷◌}
use mathlib.Core.Logic.{◌⊎◌, inl, inr}
use mathlib.Core.Path.{◌≡◌, refl, sym, subst}
use native.Mathlib.Omega.{arith}
use Prim.Native.Nat.{ℕ, ◌≤◌}
use lib.ListN.{length}
use Rattle.calculus.specs.Cond.{Cond}
use Rattle.calculus.specs.Definitions.{Defs, opened}
use Rattle.calculus.specs.Lists.{◌∈◌, Distinct}
use Rattle.calculus.specs.Term.{Term, mat, sum, call}
use Rattle.calls.specs.Reach.{Bare, b_call, b_mat, b_sum_l, b_sum_r, Reached, here, through}
use Rattle.calls.specs.ReachLimit.{Call, ManyCalls}
use Rattle.steps_reach.specs.CallTable.{most_calls}
use Rattle.steps_reach.specs.Walks.{FromTerm, OnwardIn, Walked, Exceeded}

module _ (Δ : Defs) where
  -- what is reached from a part of a term is reached from the term
  from_mat : {a b : ℕ} {P : Term} {c : Call} {A : Type 0} → A ⊎ FromTerm Δ P c → A ⊎ FromTerm Δ (mat a b P) c
  from_mat {a} {b} (inr f) =
      inr (record { upto = (a, b) ∷ f.upto; beyond = f.beyond; definition = f.definition; names = f.names; bare = b_mat f.bare; reached = f.reached })
  from_mat (inl h) = inl h

  from_left : {P Q : Term} {c : Call} {A : Type 0} → A ⊎ FromTerm Δ P c → A ⊎ FromTerm Δ (sum P Q) c
  from_left (inr f) =
      inr (record { upto = f.upto; beyond = f.beyond; definition = f.definition; names = f.names; bare = b_sum_l f.bare; reached = f.reached })
  from_left (inl h) = inl h

  from_right : {P Q : Term} {c : Call} {A B : Type 0} → (B → A ⊎ FromTerm Δ P c) → B ⊎ FromTerm Δ Q c → A ⊎ FromTerm Δ (sum P Q) c
  from_right g (inr f) =
      inr (record { upto = f.upto; beyond = f.beyond; definition = f.definition; names = f.names; bare = b_sum_r f.bare; reached = f.reached })
  from_right g (inl h) = from_left (g h)

  pub itself : (k : ℕ) (xs : List ℕ) → FromTerm Δ (call k xs) (k, xs)
  itself k xs = record { upto = []; beyond = []; definition = k; names = xs; bare = b_call; reached = here }

  from_call : (k : ℕ) (xs : List ℕ) (cs : List Call) → length xs ≡ Δ.arity k → (c : Call)
      → (◌∈◌ {A = Call} c ((k, xs) ∷ cs)) ⊎ FromTerm Δ (opened xs (Δ.body k)) c → (c ∈ cs) ⊎ FromTerm Δ (call k xs) c
  from_call k xs cs n c (inl (inl e)) = inr (subst (FromTerm Δ (call k xs)) (sym e) (itself k xs))
  from_call k xs cs n c (inl (inr m)) = inl m
  from_call k xs cs n c (inr f) =
      inr (record { upto = []; beyond = _; definition = k; names = xs; bare = b_call; reached = through n f.bare f.reached })

  -- Nothing stands unprefixed in P.
  pub quiet_walked : (P : Term) (cs : List Call) → ((C : Cond) (l : ℕ) (ys : List ℕ) → ¬ Bare P C l ys) → Distinct cs → Walked Δ P cs cs
  quiet_walked P cs h d = record { kept = λ c m. m; calls = λ C l ys b. absurd (h C l ys b); done = λ c m. inl m; sound = λ c m. inl m; distinct = d }

  pub mat-walked : (a b : ℕ) {P : Term} {cs ds : List Call} → Walked Δ P cs ds → Walked Δ (mat a b P) cs ds
  mat-walked a b {P} {cs} {ds} w = record { kept = w.kept; calls = calls'; done = w.done; sound = λ c m. from_mat (w.sound c m); distinct = w.distinct }
    where
      calls' : (C : Cond) (l : ℕ) (ys : List ℕ) → Bare (mat a b P) C l ys → ◌∈◌ {A = Call} (l, ys) ds
      calls' C l ys (b_mat {C = C₀} h) = w.calls C₀ l ys h

  onward-more : (cs ds : List Call) → ((c : Call) → c ∈ cs → c ∈ ds) → (c : Call) → OnwardIn Δ cs c → OnwardIn Δ ds c
  onward-more cs ds h c o C l ys n b = h (l, ys) (o C l ys n b)

  pub sum-walked : {P Q : Term} {cs ds es : List Call} → Walked Δ P cs ds → Walked Δ Q ds es → Walked Δ (sum P Q) cs es
  sum-walked {P} {Q} {cs} {ds} {es} v w = record {
    kept = λ c m. w.kept c (v.kept c m);
    calls = calls';
    done = λ c m. done' c (w.done c m);
    sound = λ c m. from_right (v.sound c) (w.sound c m);
    distinct = w.distinct;
  }
    where
      calls' : (C : Cond) (l : ℕ) (ys : List ℕ) → Bare (sum P Q) C l ys → ◌∈◌ {A = Call} (l, ys) es
      calls' C l ys (b_sum_l h) = w.kept (l, ys) (v.calls C l ys h)
      calls' C l ys (b_sum_r h) = w.calls C l ys h

      left : (c : Call) → (c ∈ cs) ⊎ OnwardIn Δ ds c → (c ∈ cs) ⊎ OnwardIn Δ es c
      left c (inl m) = inl m
      left c (inr o) = inr (onward-more ds es w.kept c o)

      done' : (c : Call) → (c ∈ ds) ⊎ OnwardIn Δ es c → (c ∈ cs) ⊎ OnwardIn Δ es c
      done' c (inl m) = left c (v.done c m)
      done' c (inr o) = inr o

  -- A call that is listed, and one that is opened.
  pub known-walked : (k : ℕ) (xs : List ℕ) (cs : List Call) → ◌∈◌ {A = Call} (k, xs) cs → Distinct cs → Walked Δ (call k xs) cs cs
  known-walked k xs cs i d = record { kept = λ c m. m; calls = calls'; done = λ c m. inl m; sound = λ c m. inl m; distinct = d }
    where
      calls' : (C : Cond) (l : ℕ) (ys : List ℕ) → Bare (call k xs) C l ys → ◌∈◌ {A = Call} (l, ys) cs
      calls' C l ys b_call = i

  pub opened-walked : (k : ℕ) (xs : List ℕ) (cs ds : List Call) → length xs ≡ Δ.arity k → Walked Δ (opened xs (Δ.body k)) ((k, xs) ∷ cs) ds
      → Walked Δ (call k xs) cs ds
  opened-walked k xs cs ds n w = record {
    kept = λ c m. w.kept c (inr m);
    calls = calls';
    done = λ c m. done' c (w.done c m);
    sound = λ c m. from_call k xs cs n c (w.sound c m);
    distinct = w.distinct;
  }
    where
      calls' : (C : Cond) (l : ℕ) (ys : List ℕ) → Bare (call k xs) C l ys → ◌∈◌ {A = Call} (l, ys) ds
      calls' C l ys b_call = w.kept (k, xs) (inl refl)

      onward : OnwardIn Δ ds (k, xs)
      onward C l ys n b = w.calls C l ys b

      done' : (c : Call) → (◌∈◌ {A = Call} c ((k, xs) ∷ cs)) ⊎ OnwardIn Δ ds c → (c ∈ cs) ⊎ OnwardIn Δ ds c
      done' c (inl (inl e)) = inr (subst (OnwardIn Δ ds) (sym e) onward)
      done' c (inl (inr m)) = inl m
      done' c (inr o) = inr o

  -- The same where there are more than the table holds.
  pub mat_exceeded : (a b : ℕ) {P : Term} {cs : List Call} → Exceeded Δ P cs → Exceeded Δ (mat a b P) cs
  mat_exceeded a b x = record { list = x.list; distinct = x.distinct; sound = λ c m. from_mat (x.sound c m); over = x.over }

  pub left_exceeded : {P Q : Term} {cs : List Call} → Exceeded Δ P cs → Exceeded Δ (sum P Q) cs
  left_exceeded x = record { list = x.list; distinct = x.distinct; sound = λ c m. from_left (x.sound c m); over = x.over }

  pub right_exceeded : {P Q : Term} {cs ds : List Call} → Walked Δ P cs ds → Exceeded Δ Q ds → Exceeded Δ (sum P Q) cs
  right_exceeded v x = record { list = x.list; distinct = x.distinct; sound = λ c m. from_right (v.sound c) (x.sound c m); over = x.over }

  pub opened_exceeded : (k : ℕ) (xs : List ℕ) (cs : List Call) → length xs ≡ Δ.arity k → Exceeded Δ (opened xs (Δ.body k)) ((k, xs) ∷ cs)
      → Exceeded Δ (call k xs) cs
  opened_exceeded k xs cs n x = record { list = x.list; distinct = x.distinct; sound = λ c m. from_call k xs cs n c (x.sound c m); over = x.over }

  pub one_too_many : (k : ℕ) (xs : List ℕ) (cs : List Call) → Distinct cs → ¬ (◌∈◌ {A = Call} (k, xs) cs) → most_calls ≤ length cs → Exceeded Δ (call k xs) cs
  one_too_many k xs cs d n l = record { list = (k, xs) ∷ cs; distinct = (n, d); sound = sound'; over = omega arith }
    where
      sound' : (c : Call) → ◌∈◌ {A = Call} c ((k, xs) ∷ cs) → (c ∈ cs) ⊎ FromTerm Δ (call k xs) c
      sound' c (inl e) = inr (subst (FromTerm Δ (call k xs)) (sym e) (itself k xs))
      sound' c (inr m) = inl m

  -- From nothing: all that the call reaches is listed, and nothing else.
  of_bare : (k : ℕ) (xs : List ℕ) {C D : Cond} {l m : ℕ} {ys zs : List ℕ} → Bare (call k xs) C l ys → Reached Δ l ys D m zs → (E : Cond) × Reached Δ k xs E m zs
  of_bare k xs {D = D} b_call r = (D, r)

  of_either : (k : ℕ) (xs : List ℕ) (c : Call) → (◌∈◌ {A = Call} c []) ⊎ FromTerm Δ (call k xs) c → (C : Cond) × Reached Δ k xs C c.0 c.1
  of_either k xs c (inr f) = of_bare k xs f.bare f.reached
  of_either k xs c (inl m) = absurd m

  pub reached_only : (k : ℕ) (xs : List ℕ) (ds : List Call) → Walked Δ (call k xs) [] ds → (c : Call) → c ∈ ds → (C : Cond) × Reached Δ k xs C c.0 c.1
  reached_only k xs ds w c m = of_either k xs c (w.sound c m)

  pub reached-many : (k : ℕ) (xs : List ℕ) → Exceeded Δ (call k xs) [] → ManyCalls Δ most_calls k xs
  reached-many k xs x = record { calls = x.list; distinct = x.distinct; reached = λ c m. of_either k xs c (x.sound c m); many = x.over }

  onward-all : (ds : List Call) → ((c : Call) → c ∈ ds → OnwardIn Δ ds c) → {l m : ℕ} {ys zs : List ℕ} {D : Cond} → Reached Δ l ys D m zs
      → ◌∈◌ {A = Call} (l, ys) ds → ◌∈◌ {A = Call} (m, zs) ds
  onward-all ds h here i = i
  onward-all ds h (through {k = k} {l = l} {xs = xs} {ys = ys} {C = C} n b r) i = onward-all ds h r (h (k, xs) i C l ys n b)

  pub reached-all : (k : ℕ) (xs : List ℕ) (ds : List Call) → Walked Δ (call k xs) [] ds → (C : Cond) (l : ℕ) (ys : List ℕ) → Reached Δ k xs C l ys
      → ◌∈◌ {A = Call} (l, ys) ds
  reached-all k xs ds w C l ys r = onward-all ds (λ c m. on c (w.done c m)) r (w.calls [] k xs b_call)
    where
      on : (c : Call) → (◌∈◌ {A = Call} c []) ⊎ OnwardIn Δ ds c → OnwardIn Δ ds c
      on c (inl m) = absurd m
      on c (inr o) = o
