-- The free names of both sides and one new name are enough for what is received, and one new name for what is extruded: a relation that answers
-- for these relates late, or early, bisimilar parts. What a search finds need be closed under nothing. Assumes nothing.
use mathlib.Core.Path.{◌≡◌, refl, sym, ◌∙◌, ap, subst, subst₂}
use mathlib.Core.Logic.{◌≢◌, ◌⊎◌, inl, inr, ⊎_elim, ⊎_swap}
use mathlib.Core.List.{List, [], ◌∷◌, ◌++◌}
use Prim.Native.Nat.{ℕ, zero, suc}
use native.Mathlib.Decide.{ℕ_discrete}
use native.Mathlib.Nat.{suc_inj, suc-ne-zero}
use native.Mathlib.Omega.{arith}
use Rattle.calculus.specs.Abstraction.{Act, tau_a, inp_a, out_a, bout_a}
use Rattle.calculus.specs.Term.{Term, ren, put, lift, inst, bind, ◌•◌}
use Rattle.calculus.specs.Free.{In, Free, fn}
use Rattle.calculus.specs.Cond.{Cond, Unif, map_p, cls}
use Rattle.calculus.specs.Definitions.{Defs}
use Rattle.calculus.specs.Published.{Action, silent, input, output, new_output, bound_names, Avoids}
use Rattle.late_early.specs.Concrete.{Concrete}
use Rattle.late_early.specs.LateEarly.{Kind, late, early, Binary, ReceivedAs, Received, AnsweredAs, Bisimulation, Bisimilar}
use Rattle.calculus.proofs.Renaming.{ren_id, ren-∘, ren_triangle}
use Rattle.calculus.proofs.FreeNames.{of_free_ren, From, free_ren, free→fn}
use Rattle.calculus.proofs.Conditions.{E2, E3, E4, ▷-all, Unif_of_map_p, Unif-map_p, Unif_ext}
use Rattle.calculus.proofs.Binding.{bind_self, bind-other, put-inst, bind-inst, inst-lift, fresh-name}
use Rattle.calculus.proofs.Working.{ren_a, under, Trans, ren-inst, inv_out, inv_inp, inv_bout}
use Rattle.calculus.proofs.WorkingNames.{free_at, cond_free, resid_free}
use Rattle.calculus.proofs.WorkingRenaming.{cast, of, push, pull}
use Rattle.calculus.proofs.UpToRenaming.{Either, either→fn, fn→either}
use Rattle.calculus.proofs.PublishedSteps.{act, fill, named, unname, name_it}
use Rattle.late_early.proofs.ConcreteSteps.{Trivial, trivial_▷, trivial_nil, concrete_step, step_concrete}

module _ (Δ : Defs) where
  -- Concrete transitions as working ones, whose results are abstractions.
  pub record Abstracted (P : Term) (α : Action) (P' : Term) : Type 0 where
    pub cond : Cond
    pub trivial : Trivial cond
    pub abs : Term
    pub step : Trans Δ P cond (act α) abs
    pub filled : P' ≡ fill α abs

  pub abstracted : {P : Term} {α : Action} {P' : Term} → Concrete Δ P α P' → Abstracted P α P'
  abstracted t =
      let s = concrete_step Δ t in
      let u = unname Δ s.step in
      record { cond = s.condition; trivial = s.trivial; abs = u.abs; step = u.step; filled = u.filled }

  pub concrete_named : {P : Term} {M : Cond} {α : Act} {A : Term} → Trans Δ P M α A → Trivial M → (x : ℕ) → ¬ Free x P
      → Concrete Δ P (named x α) (fill (named x α) A)
  concrete_named {M = M} t u x h = let l = name_it Δ t x h in step_concrete Δ l.step (trivial_▷ M l.cond u l.same.1)

  -- every name is as good as a renamed one
  pushed_trivial : (ρ : ℕ → ℕ) (M : Cond) → Trivial M → Trivial (map_p ρ M)
  pushed_trivial ρ M u = Unif-map_p (λ n. n) ρ M (▷-all ρ [] M (trivial_nil M u) tt)

  -- a condition that an injective renaming makes trivial is trivial
  pulled_trivial : (ρ : ℕ → ℕ) {P : Term} {M : Cond} {α : Act} {A : Term} → Trans Δ P M α A
      → ((a b : ℕ) → Free a P → Free b P → ρ a ≡ ρ b → a ≡ b) → Trivial (map_p ρ M) → Trivial M
  pulled_trivial ρ {P} {M} t inj u = Unif_ext (cls M) (λ n. n) M same (E2 M)
    where
      uni : Unif ρ M
      uni = Unif_of_map_p (λ n. n) ρ M u

      same : (n : ℕ) → cls M n ≡ n
      same n = go (ℕ_discrete (cls M n) n)
        where
          go : Dec (cls M n ≡ n) → cls M n ≡ n
          go (yes e) = e
          go (no h) =
              let e : cls M (cls M n) ≡ cls M n = E3 (cls M) M (E2 M) n in
              inj (cls M n) n (cond_free Δ t (cls M n) (E4 M n (cls M n) (sym e) (λ k. h (sym k)))) (cond_free Δ t n (E4 M (cls M n) n e h)) (E3 ρ M uni n)

  -- What a search tries, with a name x that is free in neither side: y is free in P or Q, or x.
  abbrev pub Offered : Term → Term → ℕ → ℕ → Type 0
  Offered P Q x y = Either y P Q ⊎ (y ≡ x)

  pub record FoundAny (R : Binary) (a x : ℕ) (P P' Q : Term) : Type 0 where
    pub result : Term
    pub transition : Concrete Δ Q (input a x) result
    pub related : (y : ℕ) → Offered P Q x y → R (ren (put x y) P') (ren (put x y) result)

  abbrev pub Found : Kind → Binary → ℕ → ℕ → Term → Term → Term → Type 0
  Found late R a x P P' Q = FoundAny R a x P P' Q
  Found early R a x P P' Q = (y : ℕ) → Offered P Q x y → ReceivedAs Δ R a x y P' Q

  pub record FoundAnswers (k : Kind) (R : Binary) : Type 0 where
    pub name : {P Q : Term} → R P Q → ℕ
    pub left : {P Q : Term} (r : R P Q) → ¬ Free (name r) P
    pub right : {P Q : Term} (r : R P Q) → ¬ Free (name r) Q
    pub received : {P Q : Term} (r : R P Q) → {a : ℕ} {P' : Term} → Concrete Δ P (input a (name r)) P' → Found k R a (name r) P P' Q
    pub answered : {P Q : Term} (r : R P Q) → (α : Act) → ((a : ℕ) → α ≢ inp_a a) → {P' : Term} → Concrete Δ P (named (name r) α) P'
        → AnsweredAs Δ R (named (name r) α) P' Q

  -- R under renamings that merge no two names of a pair
  pub record Renamed (R : Binary) (X Y : Term) : Type 0 where
    pub left : Term
    pub right : Term
    pub sub : ℕ → ℕ
    pub rel : R left right
    pub injective : (a b : ℕ) → Either a left right → Either b left right → sub a ≡ sub b → a ≡ b
    pub lefts : X ≡ ren sub left
    pub rights : Y ≡ ren sub right

  -- y is the image of one of the names, or of none
  image : (ρ : ℕ → ℕ) (y : ℕ) (ns : List ℕ) → ((n : ℕ) × In n ns × (y ≡ ρ n)) ⊎ ((n : ℕ) → In n ns → ρ n ≢ y)
  image ρ y [] = inr (λ n i. absurd i)
  image ρ y (m ∷ ns) = go (ℕ_discrete (ρ m) y) (image ρ y ns)
    where
      go : Dec (ρ m ≡ y) → ((n : ℕ) × In n ns × (y ≡ ρ n)) ⊎ ((n : ℕ) → In n ns → ρ n ≢ y)
          → ((n : ℕ) × In n (m ∷ ns) × (y ≡ ρ n)) ⊎ ((n : ℕ) → In n (m ∷ ns) → ρ n ≢ y)
      go (yes e) r = inl (m, inl refl, sym e)
      go (no h) (inl (n, i, e)) = inl (n, inr i, e)
      go (no h) (inr f) = inr none
        where
          none : (n : ℕ) → In n (m ∷ ns) → ρ n ≢ y
          none n (inl e) k = h (ap ρ (sym e) ∙ k)
          none n (inr i) k = f n i k

  -- The abstractions A and B of parts P and Q, whose names ρ keeps apart; x is free in neither.
  module _ (R : Binary) (P Q : Term) (ρ : ℕ → ℕ) (inj : (a b : ℕ) → Either a P Q → Either b P Q → ρ a ≡ ρ b → a ≡ b)
      (x : ℕ) (hP : ¬ Free x P) (hQ : ¬ Free x Q) where
    not_new : (n : ℕ) → Either n P Q → n ≢ x
    not_new n (inl f) e = hP (free_at x n P (sym e) f)
    not_new n (inr f) e = hQ (free_at x n Q (sym e) f)

    module _ (A B : Term) (fA : (n : ℕ) → Free (suc n) A → Free n P) (fB : (n : ℕ) → Free (suc n) B → Free n Q) where
      -- where a free name of an abstraction that y fills comes from
      origin : (y m : ℕ) → Either m (ren (inst y) A) (ren (inst y) B) → (m ≡ y) ⊎ Either m P Q
      origin y m (inl f) = go (of_free_ren (inst y) A m f)
        where
          go : From (inst y) A m → (m ≡ y) ⊎ Either m P Q
          go (zero, g, e) = inl e
          go (suc n, g, e) = inr (inl (free_at m n P e (fA n g)))
      origin y m (inr f) = go (of_free_ren (inst y) B m f)
        where
          go : From (inst y) B m → (m ≡ y) ⊎ Either m P Q
          go (zero, g, e) = inl e
          go (suc n, g, e) = inr (inr (free_at m n Q e (fB n g)))

      -- an old name
      old-name : (y n : ℕ) → Either n P Q → y ≡ ρ n → R (ren (inst n) A) (ren (inst n) B)
          → Renamed R (ren (inst y) (ren (lift ρ) A)) (ren (inst y) (ren (lift ρ) B))
      old-name y n i e r = record {
        left = ren (inst n) A;
        right = ren (inst n) B;
        sub = ρ;
        rel = r;
        injective = λ a b f g. inj a b (here a f) (here b g);
        lefts = there A;
        rights = there B;
      }
        where
          here : (a : ℕ) → Either a (ren (inst n) A) (ren (inst n) B) → Either a P Q
          here a f = ⊎_elim (λ k. subst (λ m. Either m P Q) (sym k) i) (λ k. k) (origin n a f)

          there : (X : Term) → ren (inst y) (ren (lift ρ) X) ≡ ren ρ (ren (inst n) X)
          there X = ap (λ z. ren (inst z) (ren (lift ρ) X)) e ∙ sym (ren-inst ρ n X)

      -- a name that is none of the images
      new-name : (y : ℕ) → ((n : ℕ) → Either n P Q → ρ n ≢ y) → R (ren (inst x) A) (ren (inst x) B)
          → Renamed R (ren (inst y) (ren (lift ρ) A)) (ren (inst y) (ren (lift ρ) B))
      new-name y h r = record {
        left = ren (inst x) A;
        right = ren (inst x) B;
        sub = σ;
        rel = r;
        injective = λ a b f g e. go a b (origin x a f) (origin x b g) e;
        lefts = there A (λ n f. not_new n (inl (fA n f)));
        rights = there B (λ n f. not_new n (inr (fB n f)));
      }
        where
          σ : ℕ → ℕ
          σ n = (y • ρ) (bind x n)

          at_new : (n : ℕ) → n ≡ x → σ n ≡ y
          at_new n e = ap (y • ρ) (bind_self x n e)

          at_old : (n : ℕ) → Either n P Q → σ n ≡ ρ n
          at_old n i = ap (y • ρ) (bind-other x n (not_new n i))

          go : (a b : ℕ) → (a ≡ x) ⊎ Either a P Q → (b ≡ x) ⊎ Either b P Q → σ a ≡ σ b → a ≡ b
          go a b (inl e) (inl f) k = e ∙ sym f
          go a b (inl e) (inr j) k = absurd (h b j (sym (at_old b j) ∙ sym k ∙ at_new a e))
          go a b (inr i) (inl f) k = absurd (h a i (sym (at_old a i) ∙ k ∙ at_new b f))
          go a b (inr i) (inr j) k = inj a b i j (sym (at_old a i) ∙ k ∙ at_old b j)

          there : (X : Term) → ((n : ℕ) → Free (suc n) X → n ≢ x) → ren (inst y) (ren (lift ρ) X) ≡ ren σ (ren (inst x) X)
          there X f =
              ren_triangle (inst y) (lift ρ) (y • ρ) X (inst-lift y ρ)
              ∙ sym (sym (ren-∘ (y • ρ) (bind x) (ren (inst x) X)) ∙ ap (ren (y • ρ)) (bind-inst x X f))

    -- For every y there is a name to try.
    pub record Try (y : ℕ) : Type 0 where
      pub name : ℕ
      pub offered : Offered P Q x name
      pub leads : (A B : Term) → ((n : ℕ) → Free (suc n) A → Free n P) → ((n : ℕ) → Free (suc n) B → Free n Q)
          → R (ren (inst name) A) (ren (inst name) B) → Renamed R (ren (inst y) (ren (lift ρ) A)) (ren (inst y) (ren (lift ρ) B))

    try : (y : ℕ) → Try y
    try y = go (image ρ y (fn P ++ fn Q))
      where
        go : ((n : ℕ) × In n (fn P ++ fn Q) × (y ≡ ρ n)) ⊎ ((n : ℕ) → In n (fn P ++ fn Q) → ρ n ≢ y) → Try y
        go (inl (n, i, e)) =
            record { name = n; offered = inl (fn→either n P Q i); leads = λ A B f g r. old-name A B f g y n (fn→either n P Q i) e r }
        go (inr h) = record { name = x; offered = inr refl; leads = λ A B f g r. new-name A B f g y (λ n i. h n (either→fn n P Q i)) r }

  -- A transition of a renamed part, named anew.
  record Back (ρ : ℕ → ℕ) (P : Term) (α : Action) (X' : Term) : Type 0 where
    act₀ : Act
    cond : Cond
    abs : Term
    step : Trans Δ P cond act₀ abs
    trivial : Trivial cond
    acts : act α ≡ ren_a ρ act₀
    filled : X' ≡ fill α (ren (under act₀ ρ) abs)

  back_along : (ρ : ℕ → ℕ) (P : Term) → ((a b : ℕ) → Free a P → Free b P → ρ a ≡ ρ b → a ≡ b)
      → {X : Term} → X ≡ ren ρ P → {α : Action} {X' : Term} → Concrete Δ X α X' → Back ρ P α X'
  back_along ρ P inj e {α} {X'} t =
      let u = abstracted t in
      let p = pull Δ ρ P (of Δ e u.step) in
      record {
        act₀ = p.act;
        cond = p.cond;
        abs = p.resid;
        step = p.step;
        trivial = pulled_trivial ρ p.step inj (trivial_▷ u.cond (map_p ρ p.cond) u.trivial p.conds.0);
        acts = p.acts;
        filled = u.filled ∙ ap (fill α) p.resids;
      }

  -- An answer of a part, renamed.
  forth_along : (ρ : ℕ → ℕ) (Q : Term) {M : Cond} {α : Act} {B : Term} → Trans Δ Q M α B → Trivial M → {Y : Term} → Y ≡ ren ρ Q
      → (z : ℕ) → ¬ Free z Y → Concrete Δ Y (named z (ren_a ρ α)) (fill (named z (ren_a ρ α)) (ren (under α ρ) B))
  forth_along ρ Q {M} {α} {B} t u {Y} e z h =
      subst (λ X. Concrete Δ X (named z (ren_a ρ α)) (fill (named z (ren_a ρ α)) (ren (under α ρ) B))) (sym e)
      (concrete_named (push Δ ρ t) (pushed_trivial ρ M u) z (subst (λ X. ¬ Free z X) e h))

  tau-other : (a : ℕ) → tau_a ≢ inp_a a
  tau-other a e = let z : ◌≡◌ {A = ℕ} 0 1 = cc in absurd (omega arith)

  out-other : (b c a : ℕ) → out_a b c ≢ inp_a a
  out-other b c a e = let z : ◌≡◌ {A = ℕ} 0 1 = cc in absurd (omega arith)

  bout-other : (b a : ℕ) → bout_a b ≢ inp_a a
  bout-other b a e = let z : ◌≡◌ {A = ℕ} 0 1 = cc in absurd (omega arith)

  inv_tau : (f : ℕ → ℕ) (α : Act) → tau_a ≡ ren_a f α → α ≡ tau_a
  inv_tau f tau_a e = refl
  inv_tau f (inp_a a) e = cc
  inv_tau f (out_a a b) e = cc
  inv_tau f (bout_a a) e = cc

  module _ (R : Binary) (P Q : Term) (ρ : ℕ → ℕ) (inj : (a b : ℕ) → Either a P Q → Either b P Q → ρ a ≡ ρ b → a ≡ b) where
    -- an action that binds nothing
    stays : (A B : Term) → ((n : ℕ) → Free n A → Free n P) → ((n : ℕ) → Free n B → Free n Q) → R A B → Renamed R (ren ρ A) (ren ρ B)
    stays A B f g s = record {
      left = A;
      right = B;
      sub = ρ;
      rel = s;
      injective = λ a b i j. inj a b (here a i) (here b j);
      lefts = refl;
      rights = refl;
    }
      where
        here : (n : ℕ) → Either n A B → Either n P Q
        here n (inl h) = inl (f n h)
        here n (inr h) = inr (g n h)

  module _ (R : Binary) (P Q : Term) (ρ : ℕ → ℕ) (inj : (a b : ℕ) → Either a P Q → Either b P Q → ρ a ≡ ρ b → a ≡ b) (r : R P Q)
      (X Y : Term) (lefts : X ≡ ren ρ P) (rights : Y ≡ ren ρ Q) (z : ℕ) (hX : ¬ Free z X) (hY : ¬ Free z Y) where
    not_left : (n : ℕ) → Free n P → ρ n ≢ z
    not_left n f e = hX (subst₂ (λ m T. Free m T) e (sym lefts) (free_ren ρ P n f))

    not_right : (n : ℕ) → Free n Q → ρ n ≢ z
    not_right n f e = hY (subst₂ (λ m T. Free m T) e (sym rights) (free_ren ρ Q n f))

    not_image : (n : ℕ) → Either n P Q → ρ n ≢ z
    not_image n (inl f) = not_left n f
    not_image n (inr f) = not_right n f

    -- z is none of the names of a renamed abstraction
    lifted_away : (A T : Term) → ((n : ℕ) → Free (suc n) A → Free n T) → ((n : ℕ) → Free n T → ρ n ≢ z)
        → (n : ℕ) → Free (suc n) (ren (lift ρ) A) → n ≢ z
    lifted_away A T f g n h = go (of_free_ren (lift ρ) A (suc n) h)
      where
        go : From (lift ρ) A (suc n) → n ≢ z
        go (zero, k, e) = absurd (suc-ne-zero n e)
        go (suc m, k, e) = λ q. g m (f m k) (sym (suc_inj e) ∙ q)

    put-left : (A : Term) → ((n : ℕ) → Free (suc n) A → Free n P) → (y : ℕ)
        → ren (put z y) (ren (inst z) (ren (lift ρ) A)) ≡ ren (inst y) (ren (lift ρ) A)
    put-left A f y = put-inst z y (ren (lift ρ) A) (lifted_away A P f not_left)

    put_right : (B : Term) → ((n : ℕ) → Free (suc n) B → Free n Q) → (y : ℕ)
        → ren (put z y) (ren (inst z) (ren (lift ρ) B)) ≡ ren (inst y) (ren (lift ρ) B)
    put_right B f y = put-inst z y (ren (lift ρ) B) (lifted_away B Q f not_right)

    module _ (x : ℕ) (hP : ¬ Free x P) (hQ : ¬ Free x Q) where
      -- an answer of Q to a(x), renamed; and where it leads once a name is received
      record Input (a : ℕ) (Q₀ : Term) : Type 0 where
        abs : Term
        names : (n : ℕ) → Free (suc n) abs → Free n Q
        filled : Q₀ ≡ ren (inst x) abs
        moves : Concrete Δ Y (input (ρ a) z) (ren (inst z) (ren (lift ρ) abs))

      answering : (a : ℕ) (Q₀ : Term) → Concrete Δ Q (input a x) Q₀ → Input a Q₀
      answering a Q₀ s =
          let v = abstracted s in
          record {
            abs = v.abs;
            names = λ n f. resid_free Δ v.step n f;
            filled = v.filled;
            moves = forth_along ρ Q v.step v.trivial rights z hY;
          }

      module _ (A : Term) (fA : (n : ℕ) → Free (suc n) A → Free n P) where
        abbrev tried : (y : ℕ) → Try R P Q ρ inj x hP hQ y
        tried y = try R P Q ρ inj x hP hQ y

        leads_on : (a : ℕ) (Q₀ : Term) (v : Input a Q₀) (y : ℕ)
            → R (ren (put x (tried y).name) (ren (inst x) A)) (ren (put x (tried y).name) Q₀)
            → Renamed R (ren (put z y) (ren (inst z) (ren (lift ρ) A))) (ren (put z y) (ren (inst z) (ren (lift ρ) v.abs)))
        leads_on a Q₀ v y r' =
            subst₂ (Renamed R) (sym (put-left A fA y)) (sym (put_right v.abs v.names y))
            ((tried y).leads A v.abs fA v.names
            (subst₂ R (put-inst x w A (λ n f e. hP (free_at x n P (sym e) (fA n f))))
            (ap (ren (put x w)) v.filled ∙ put-inst x w v.abs (λ n f e. hQ (free_at x n Q (sym e) (v.names n f)))) r'))
          where
            w : ℕ
            w = (tried y).name

        receives : (k : Kind) (a : ℕ) → Found k R a x P (ren (inst x) A) Q → Received Δ k (Renamed R) (ρ a) z (ren (inst z) (ren (lift ρ) A)) Y
        receives late a f =
            let v = answering a f.result f.transition in
            record {
              result = ren (inst z) (ren (lift ρ) v.abs);
              transition = v.moves;
              related = λ y. leads_on a f.result v y (f.related (tried y).name (tried y).offered);
            }
        receives early a f = λ y.
            let g = f (tried y).name (tried y).offered in
            let v = answering a g.result g.transition in
            record {
              result = ren (inst z) (ren (lift ρ) v.abs);
              transition = v.moves;
              related = leads_on a g.result v y g.related;
            }

        -- a new name extruded
        extrudes : (a : ℕ) → AnsweredAs Δ R (new_output a x) (ren (inst x) A) Q → AnsweredAs Δ (Renamed R) (new_output (ρ a) z) (ren (inst z) (ren (lift ρ) A)) Y
        extrudes a g =
            let v = abstracted g.transition in
            record {
              result = ren (inst z) (ren (lift ρ) v.abs);
              transition = forth_along ρ Q v.step v.trivial rights z hY;
              related = new-name R P Q ρ inj x hP hQ A v.abs fA (λ n f. resid_free Δ v.step n f) z not_image
                  (subst (R (ren (inst x) A)) v.filled g.related);
            }

  -- One side of a search: what it answers, every renaming of it answers.
  module _ (R : Binary) (k : Kind) (found : FoundAnswers k R) (X Y : Term) (c : Renamed R X Y) where
    abbrev back_of : {α : Action} {X' : Term} → Concrete Δ X α X' → Back c.sub c.left α X'
    back_of t = back_along c.sub c.left (λ a b f g. c.injective a b (inl f) (inl g)) c.lefts t

    abbrev new : ℕ
    new = found.name c.rel

    received-along : {a z : ℕ} {X' : Term} → Concrete Δ X (input a z) X' → ¬ Free z X → ¬ Free z Y → Received Δ k (Renamed R) a z X' Y
    received-along {a} {z} {X'} t hX hY =
        let b = back_of t in
        let (d, e, ea) = inv_inp c.sub a b.act₀ b.acts in
        let step' : Trans Δ c.left b.cond (inp_a d) b.abs = cast Δ refl e refl b.step in
        let filled' : X' ≡ ren (inst z) (ren (lift c.sub) b.abs) = b.filled ∙ ap (λ β. ren (inst z) (ren (under β c.sub) b.abs)) e in
        subst₂ (λ f T. Received Δ k (Renamed R) f z T Y) (sym ea) (sym filled')
        (receives R c.left c.right c.sub c.injective c.rel X Y c.lefts c.rights z hX hY
        new (found.left c.rel) (found.right c.rel) b.abs (λ n f. resid_free Δ step' n f) k d
        (found.received c.rel (concrete_named step' b.trivial new (found.left c.rel))))

    answered-along : (α : Action) {X' : Term} → Concrete Δ X α X' → ((z : ℕ) → In z (bound_names α) → ¬ Free z X) → ((z : ℕ) → In z (bound_names α) → ¬ Free z Y)
        → ((a x : ℕ) → α ≢ input a x) → AnsweredAs Δ (Renamed R) α X' Y
    answered-along silent {X'} t hX hY other =
        let b = back_of t in
        let e = inv_tau c.sub b.act₀ b.acts in
        let step' : Trans Δ c.left b.cond tau_a b.abs = cast Δ refl e refl b.step in
        let filled' : X' ≡ ren c.sub b.abs = b.filled ∙ ap (λ β. ren (under β c.sub) b.abs) e in
        let g = found.answered c.rel tau_a tau-other (concrete_named step' b.trivial new (found.left c.rel)) in
        let v = abstracted g.transition in
        let (z, h) = fresh-name (fn Y) in
        subst (λ T. AnsweredAs Δ (Renamed R) silent T Y) (sym filled')
        (record {
          result = ren c.sub v.abs;
          transition = forth_along c.sub c.right v.step v.trivial c.rights z (λ f. h (free→fn z Y f));
          related = stays R c.left c.right c.sub c.injective b.abs v.abs (λ n f. resid_free Δ step' n f)
              (λ n f. resid_free Δ v.step n f) (subst (R b.abs) v.filled g.related);
        })
    answered-along (input a z) {X'} t hX hY other = absurd (other a z refl)
    answered-along (output a o) {X'} t hX hY other =
        let b = back_of t in
        let (d, p, e, ea, eo) = inv_out c.sub a o b.act₀ b.acts in
        let step' : Trans Δ c.left b.cond (out_a d p) b.abs = cast Δ refl e refl b.step in
        let filled' : X' ≡ ren c.sub b.abs = b.filled ∙ ap (λ β. ren (under β c.sub) b.abs) e in
        let g = found.answered c.rel (out_a d p) (out-other d p) (concrete_named step' b.trivial new (found.left c.rel)) in
        let v = abstracted g.transition in
        let (z, h) = fresh-name (fn Y) in
        coe 1 0 (i. AnsweredAs Δ (Renamed R) (output (ea i) (eo i)) (filled' i) Y)
        (record {
          result = ren c.sub v.abs;
          transition = forth_along c.sub c.right v.step v.trivial c.rights z (λ f. h (free→fn z Y f));
          related = stays R c.left c.right c.sub c.injective b.abs v.abs (λ n f. resid_free Δ step' n f)
              (λ n f. resid_free Δ v.step n f) (subst (R b.abs) v.filled g.related);
        })
    answered-along (new_output a z) {X'} t hX hY other =
        let b = back_of t in
        let (d, e, ea) = inv_bout c.sub a b.act₀ b.acts in
        let step' : Trans Δ c.left b.cond (bout_a d) b.abs = cast Δ refl e refl b.step in
        let filled' : X' ≡ ren (inst z) (ren (lift c.sub) b.abs) = b.filled ∙ ap (λ β. ren (inst z) (ren (under β c.sub) b.abs)) e in
        subst₂ (λ f T. AnsweredAs Δ (Renamed R) (new_output f z) T Y) (sym ea) (sym filled')
        (extrudes R c.left c.right c.sub c.injective c.rel X Y c.lefts c.rights z (hX z (inl refl)) (hY z (inl refl))
        new (found.left c.rel) (found.right c.rel) b.abs (λ n f. resid_free Δ step' n f) d
        (found.answered c.rel (bout_a d) (bout-other d) (concrete_named step' b.trivial new (found.left c.rel))))

  -- Both sides of a search.
  pub record FoundBisimulation (k : Kind) (R : Binary) : Type 0 where
    pub forth : FoundAnswers k R
    pub back : FoundAnswers k (λ P Q. R Q P)

  abbrev Sides : Binary → Binary
  Sides R X Y = Renamed R X Y ⊎ Renamed (λ P Q. R Q P) X Y

  renamed-swap : {R : Binary} {X Y : Term} → Renamed R X Y → Renamed (λ P Q. R Q P) Y X
  renamed-swap c = record {
    left = c.right;
    right = c.left;
    sub = c.sub;
    rel = c.rel;
    injective = λ a b i j. c.injective a b (⊎_swap i) (⊎_swap j);
    lefts = c.rights;
    rights = c.lefts;
  }

  received-map : {R S : Binary} → ((P Q : Term) → R P Q → S P Q) → (k : Kind) (a x : ℕ) (P' Q : Term) → Received Δ k R a x P' Q → Received Δ k S a x P' Q
  received-map f late a x P' Q r = record { result = r.result; transition = r.transition; related = λ y. f _ _ (r.related y) }
  received-map f early a x P' Q r = λ y. record { result = (r y).result; transition = (r y).transition; related = f _ _ (r y).related }

  answered-map : {R S : Binary} → ((P Q : Term) → R P Q → S P Q) → {α : Action} {P' Q : Term} → AnsweredAs Δ R α P' Q → AnsweredAs Δ S α P' Q
  answered-map f r = record { result = r.result; transition = r.transition; related = f _ _ r.related }

  module _ (R : Binary) (k : Kind) (s : FoundBisimulation k R) where
    sides_received : {X Y : Term} → Sides R X Y → {a x : ℕ} {X' : Term} → Concrete Δ X (input a x) X'
        → Avoids (input a x) X → Avoids (input a x) Y → Received Δ k (Sides R) a x X' Y
    sides_received {X} {Y} (inl c) {a} {x} {X'} t hX hY =
        received-map (λ P Q. inl) k a x X' Y (received-along R k s.forth X Y c t (hX x (inl refl)) (hY x (inl refl)))
    sides_received {X} {Y} (inr c) {a} {x} {X'} t hX hY =
        received-map (λ P Q. inr) k a x X' Y (received-along (λ P Q. R Q P) k s.back X Y c t (hX x (inl refl)) (hY x (inl refl)))

    sides_answered : {X Y : Term} → Sides R X Y → {α : Action} {X' : Term} → Concrete Δ X α X'
        → Avoids α X → Avoids α Y → ((a x : ℕ) → α ≢ input a x) → AnsweredAs Δ (Sides R) α X' Y
    sides_answered {X} {Y} (inl c) {α} t hX hY other = answered-map (λ P Q. inl) (answered-along R k s.forth X Y c α t hX hY other)
    sides_answered {X} {Y} (inr c) {α} t hX hY other = answered-map (λ P Q. inr) (answered-along (λ P Q. R Q P) k s.back X Y c α t hX hY other)

    sides_swap : {X Y : Term} → Sides R X Y → Sides R Y X
    sides_swap (inl c) = inr (renamed-swap c)
    sides_swap (inr c) = inl (renamed-swap c)

    pub found_bisimulation : Bisimulation Δ k (Sides R)
    found_bisimulation = record { symmetric = sides_swap; received = sides_received; answered = sides_answered }

    -- What a search finds is late, or early, bisimilar.
    pub found_bisimilar : {P Q : Term} → R P Q → Bisimilar Δ k P Q
    found_bisimilar {P} {Q} r = record {
      by = Sides R;
      bisimulation = found_bisimulation;
      relates = inl (record {
        left = P;
        right = Q;
        sub = λ n. n;
        rel = r;
        injective = λ a b i j e. e;
        lefts = sym (ren_id P);
        rights = sym (ren_id Q);
      });
    }
