-- The steps of a call are the steps of the bodies of the calls that it reaches, each under the matches on the way: rule [Con] with inductive
-- derivations, which are the least set. A set of calls, each with a condition, that has the call itself and is closed under going on has them
-- all, whatever the way goes: that is what a search finds. Assumes nothing.
use mathlib.Core.List.{List, [], ◌∷◌, ◌++◌, append_assoc, append-nil}
use mathlib.Core.Path.{◌≡◌, refl, sym, ◌∙◌, ap, subst}
use Prim.Native.Nat.{ℕ}
use lib.ListN.{length}
use Rattle.calculus.specs.Abstraction.{Act}
use Rattle.calculus.specs.Cond.{Cond}
use Rattle.calculus.specs.Definitions.{Defs, opened}
use Rattle.calculus.specs.Term.{Term, nil, tau, inp, out, bout, mat, sum, par, res, call}
use Rattle.calls.specs.ReachSearch.{Place}
use Rattle.calls.specs.Reach.{stripped, Bare, b_call, b_mat, b_sum_l, b_sum_r, Reached, here, through}
use Rattle.calculus.proofs.Conditions.{◌~◌, ~_refl, ~_sym, ~_trans}
use Rattle.calculus.proofs.PublishedSteps.{++-~}
use Rattle.calculus.proofs.Working.{Trans, t_tau, t_inp, t_out, t_bout, t_mat, t_sum_l, t_sum_r, t_par_l, t_par_r, t_com_l, t_com_r, t_close_l, t_close_r, t_res, t_open, t_call}
use Rattle.calculus.proofs.WorkingRenaming.{cast}

module _ (Δ : Defs) where
  -- the body of k⟨xs⟩
  abbrev pub body_at : ℕ → List ℕ → Term
  body_at k xs = opened xs (Δ.body k)

  -- A step that the body of k⟨xs⟩ has of its own, through no call that it stands unprefixed in it.
  pub record Own (k : ℕ) (xs : List ℕ) (N : Cond) (α : Act) (R : Term) : Type 0 where
    pub names : length xs ≡ Δ.arity k
    pub step : Trans Δ (stripped (body_at k xs)) N α R

  -- Every step of a term is its own, or one of a body that its unprefixed calls reach.
  pub data Origin (P : Term) (M : Cond) (α : Act) (R : Term) : Type 0 where
    own : Trans Δ (stripped P) M α R → Origin P M α R
    called : {C D N : Cond} {k l : ℕ} {xs ys : List ℕ} → Bare P C k xs → Reached Δ k xs D l ys → Own l ys N α R → M ≡ C ++ (D ++ N) → Origin P M α R

  pub origin : {P : Term} {M : Cond} {α : Act} {R : Term} → Trans Δ P M α R → Origin P M α R
  unfolding stripped
  origin t_tau = own t_tau
  origin t_inp = own t_inp
  origin t_out = own t_out
  origin t_bout = own t_bout
  origin (t_mat {a = a} {b = b} {P = P} {M = M} {α = α} {P' = R} t) = go (origin t)
    where
      go : Origin P M α R → Origin (mat a b P) ((a, b) ∷ M) α R
      go (own s) = own (t_mat s)
      go (called h r o e) = called (b_mat h) r o (ap ((a, b) ∷◌) e)
  origin (t_sum_l {P = P} {Q = Q} {M = M} {α = α} {P' = R} t) = go (origin t)
    where
      go : Origin P M α R → Origin (sum P Q) M α R
      go (own s) = own (t_sum_l s)
      go (called h r o e) = called (b_sum_l h) r o e
  origin (t_sum_r {P = P} {Q = Q} {M = M} {α = α} {Q' = R} t) = go (origin t)
    where
      go : Origin Q M α R → Origin (sum P Q) M α R
      go (own s) = own (t_sum_r s)
      go (called h r o e) = called (b_sum_r h) r o e
  origin (t_par_l t) = own (t_par_l t)
  origin (t_par_r t) = own (t_par_r t)
  origin (t_com_l t u) = own (t_com_l t u)
  origin (t_com_r t u) = own (t_com_r t u)
  origin (t_close_l t u) = own (t_close_l t u)
  origin (t_close_r t u) = own (t_close_r t u)
  origin (t_res t s) = own (t_res t s)
  origin (t_open t s) = own (t_open t s)
  origin (t_call {k = k} {xs = xs} {M = M} {α = α} {P' = R} n t) = go (origin t)
    where
      go : Origin (body_at k xs) M α R → Origin (call k xs) M α R
      go (own s) = called b_call here (record { names = n; step = s }) refl
      go (called {C = C} {D = D} {N = N} h r o e) = called b_call (through n h r) o (e ∙ sym (append_assoc C D N))

  -- And they are steps of the term.
  own-steps : (P : Term) {M : Cond} {α : Act} {R : Term} → Trans Δ (stripped P) M α R → Trans Δ P M α R
  unfolding stripped
  own-steps nil {M = M} {α = α} {R = R} t = elim t [ ]
  own-steps (call _ _) {M = M} {α = α} {R = R} t = elim t [ ]
  own-steps (tau P) t = t
  own-steps (inp a P) t = t
  own-steps (out a b P) t = t
  own-steps (bout a P) t = t
  own-steps (mat a b P) (t_mat t) = t_mat (own-steps P t)
  own-steps (sum P Q) (t_sum_l t) = t_sum_l (own-steps P t)
  own-steps (sum P Q) (t_sum_r t) = t_sum_r (own-steps Q t)
  own-steps (par P Q) t = t
  own-steps (res P) t = t

  -- a call has no step of its own
  no_nil : {M : Cond} {α : Act} {R : Term} → Trans Δ nil M α R → ⊥
  no_nil t = elim t [ ]

  no_own : (k : ℕ) (xs : List ℕ) {M : Cond} {α : Act} {R : Term} → Trans Δ (stripped (call k xs)) M α R → ⊥
  unfolding stripped
  no_own k xs t = no_nil t

  bare_steps : {P : Term} {C : Cond} {k : ℕ} {xs : List ℕ} → Bare P C k xs → {N : Cond} {α : Act} {R : Term} → Trans Δ (call k xs) N α R → Trans Δ P (C ++ N) α R
  bare_steps b_call t = t
  bare_steps (b_mat h) t = t_mat (bare_steps h t)
  bare_steps (b_sum_l h) t = t_sum_l (bare_steps h t)
  bare_steps (b_sum_r h) t = t_sum_r (bare_steps h t)

  pub reached-steps : {k l : ℕ} {xs ys : List ℕ} {C : Cond} → Reached Δ k xs C l ys → {N : Cond} {α : Act} {R : Term} → Own l ys N α R → Trans Δ (call k xs) (C ++ N) α R
  reached-steps (here {k = k} {xs = xs}) o = t_call o.names (own-steps (body_at k xs) o.step)
  reached-steps (through {C = C} {D = D} n h r) {N} o =
      cast Δ (sym (append_assoc C D N)) refl refl (t_call n (bare_steps h (reached-steps r o)))

  -- A set of places that has k⟨xs⟩ and every call that one of its own reaches in one step, each up to the form of the condition.
  pub record Closed (W : Place → Type 0) (k : ℕ) (xs : List ℕ) : Type 0 where
    pub start : (C : Cond) × W (record { condition = C; definition = k; names = xs }) × (C ~ [])
    pub onward : (p : Place) → W p → {C : Cond} {l : ℕ} {ys : List ℕ} → length p.names ≡ Δ.arity p.definition
        → Bare (body_at p.definition p.names) C l ys
        → (D : Cond) × W (record { condition = D; definition = l; names = ys }) × (D ~ (p.condition ++ C))

  -- and nothing that is not reached
  unfoldable pub Sound : (Place → Type 0) → ℕ → List ℕ → Type 0
  Sound W k xs = (p : Place) → W p → (C : Cond) × Reached Δ k xs C p.definition p.names × (p.condition ~ C)

  module _ (W : Place → Type 0) (k : ℕ) (xs : List ℕ) (closed : Closed W k xs) where
    held_from : {l m : ℕ} {ys zs : List ℕ} {D : Cond} → Reached Δ l ys D m zs → (C : Cond) → W (record { condition = C; definition = l; names = ys })
        → (E : Cond) × W (record { condition = E; definition = m; names = zs }) × (E ~ (C ++ D))
    held_from here C w = (C, w, subst (λ K. C ~ K) (sym (append-nil C)) (~_refl C))
    held_from (through {C = A} {D = B} n h r) C w =
        let (D, v, e) = closed.onward (record { condition = C; definition = _; names = _ }) w n h in
        let (E, u, f) = held_from r D v in
        (E, u, ~_trans E (D ++ B) (C ++ (A ++ B)) f (subst (λ K. (D ++ B) ~ K) (append_assoc C A B) (++-~ D (C ++ A) B B e (~_refl B))))

    -- every call that is reached is in the set
    pub held : {l : ℕ} {ys : List ℕ} {C : Cond} → Reached Δ k xs C l ys → (E : Cond) × W (record { condition = E; definition = l; names = ys }) × (E ~ C)
    held {C = C} r =
        let (D, w, e) = closed.start in
        let (E, u, f) = held_from r D w in
        (E, u, ~_trans E (D ++ C) C f (++-~ D [] C C e (~_refl C)))

    -- A step as a member of the set gives it: its own step under the place's condition.
    pub record Given (M : Cond) (α : Act) (R : Term) : Type 0 where
      pub place : Place
      pub member : W place
      pub condition : Cond
      pub own : Own place.definition place.names condition α R
      pub same : (place.condition ++ condition) ~ M

    -- The steps of the call are exactly those that the set gives, up to the form of the condition.
    pub given : {M : Cond} {α : Act} {R : Term} → Trans Δ (call k xs) M α R → Given M α R
    given {M} {α} {R} t = go (origin t)
      where
        go : Origin (call k xs) M α R → Given M α R
        go (own s) = absurd (no_own k xs s)
        go (called {D = D} {N = N} b_call r o e) =
            let (E, w, f) = held r in
            record {
              place = record { condition = E; definition = _; names = _ };
              member = w;
              condition = N;
              own = o;
              same = subst (λ K. (E ++ N) ~ K) (sym e) (++-~ E D N N f (~_refl N));
            }

    pub of_given : Sound W k xs → {M : Cond} {α : Act} {R : Term} → Given M α R → (N : Cond) × Trans Δ (call k xs) N α R × (N ~ M)
    unfolding Sound
    of_given sound {M} g =
        let (C, r, e) = sound g.place g.member in (
          C ++ g.condition,
          reached-steps r g.own,
          ~_trans (C ++ g.condition) (g.place.condition ++ g.condition) M
              (++-~ C g.place.condition g.condition g.condition (~_sym g.place.condition C e) (~_refl g.condition)) g.same,
        )
