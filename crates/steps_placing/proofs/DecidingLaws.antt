-- Candidates whose matches are decided where they stand: the rules keep them, and they are listed as the candidates themselves are.
-- Assumes nothing.
use borrow.Author.Tests.{eqb-true, eqb-false, eq-eqb, ne_eqb, ltb-true, ltb-false, lt-ltb, le-ltb}
use mathlib.Core.Bool.{Bool, true, false, cond, not, ◌&&◌, ◌||◌, or-true, or_assoc}
use mathlib.Core.List.{List, [], ◌∷◌, ◌++◌, map}
use mathlib.Core.Logic.{◌⊎◌, inl, inr, ⊎_elim}
use mathlib.Core.Path.{◌≡◌, refl, sym, ◌∙◌, ap, ap₂}
use native.Mathlib.Omega.{arith}
use Prim.Native.Nat.{ℕ, zero, suc, ◌+◌, ◌<◌, min}
use lib.Dec.{eqb, ltb}
use Rattle.calculus.specs.Abstraction.{Act, tau_a, inp_a, out_a, bout_a}
use Rattle.calculus.specs.Cond.{Cond, map_p, Unif, cls, ◌▷◌, canonical}
use Rattle.calculus.specs.Term.{Term, ren, ◌•◌}
use Rattle.calculus.proofs.Canonical.{canonical-~, canonical-cls, canonical-same}
use Rattle.calculus.proofs.Conditions.{◌~◌, E2, ▷-all, ~_sym, map_p-~, Unif-++, Unif-left, Unif_right}
use Rattle.steps.specs.Forms.{result_form}
use Rattle.calculus.specs.Lists.{◌∈◌, Among}
use Rattle.steps.specs.Raw.{Candidate, step, blocked, matching, left_steps, right_steps, meet, communication, leaves_alone, restricted_alone, outside, restricted_action, restricted}
use Rattle.calculus.proofs.Membership.{∈-left, ∈_right, ∈_either, ∈-map}
use Rattle.steps_tallies.proofs.Numbering.{not_met}
use Rattle.steps_tallies.proofs.Premises.{never}
use Rattle.steps_splicing.specs.Contexts.{Frame, left_of, right_of, beneath, raised, restrictions, level_in}
use Rattle.steps_placing.specs.Deciding.{failing, fails, decided, Again}
use Rattle.steps.specs.Listed.{names_from, classes_of, kind_of, channel_of, object_of, listed_as, canon_step}
use Rattle.steps_splicing.specs.PlacedResults.{Trivial}
use Rattle.steps_entries.specs.StepActions.{step_action}
use Rattle.steps_splicing.proofs.ContextLaws.{raised-blocked}

-- A condition fails unless it holds where all free names are one.
failing_not : (d a b : ℕ) → min a d ≡ min b d → failing d a b ≡ false
unfolding failing
failing_not d a b e = go (eqb a b) refl (ltb a d) refl (ltb b d) refl
  where
    go : (t : Bool) → eqb a b ≡ t → (u : Bool) → ltb a d ≡ u → (v : Bool) → ltb b d ≡ v → (not t && (u || v)) ≡ false
    go true t u h v k = refl
    go false t true h v k = let n = eqb-false a b t in let l = ltb-true a d h in absurd (n (omega arith))
    go false t false h true k = let n = eqb-false a b t in let l = ltb-true b d k in absurd (n (omega arith))
    go false t false h false k = refl

not_failing : (d a b : ℕ) → failing d a b ≡ false → min a d ≡ min b d
unfolding failing
not_failing d a b = go (eqb a b) refl (ltb a d) refl (ltb b d) refl
  where
    go : (t : Bool) → eqb a b ≡ t → (u : Bool) → ltb a d ≡ u → (v : Bool) → ltb b d ≡ v → (not t && (u || v)) ≡ false → min a d ≡ min b d
    go true t u h v k e = ap (λ (n : ℕ). min n d) (eqb-true a b t)
    go false t true h v k e = let z : ◌≡◌ {A = ℕ} 0 1 = cc in absurd (omega arith)
    go false t false h true k e = let z : ◌≡◌ {A = ℕ} 0 1 = cc in absurd (omega arith)
    go false t false h false k e = let l = ltb-false a d h in let m = ltb-false b d k in omega arith

holds_fails : (d : ℕ) (M : Cond) → Unif (λ n. min n d) M → fails d M ≡ false
unfolding fails
holds_fails d [] u = refl
holds_fails d (p ∷ M) u = ap₂ (λ (s t : Bool). s || t) (failing_not d p.0 p.1 u.0) (holds_fails d M u.1)

fails_holds : (d : ℕ) (M : Cond) → fails d M ≡ false → Unif (λ n. min n d) M
unfolding fails
fails_holds d [] e = tt
fails_holds d (p ∷ M) e = go (failing d p.0 p.1) refl e (fails_holds d M)
  where
    go : (t : Bool) → failing d p.0 p.1 ≡ t → (t || fails d M) ≡ false → (fails d M ≡ false → Unif (λ n. min n d) M) → Unif (λ n. min n d) (p ∷ M)
    go true t e h = let z : ◌≡◌ {A = ℕ} 0 1 = cc in absurd (omega arith)
    go false t e h = (not_failing d p.0 p.1 t, h e)

-- So conditions that imply each other are decided alike.
fails-~ : (d : ℕ) (M N : Cond) → M ~ N → fails d M ≡ fails d N
fails-~ d M N e = go (fails d M) refl (fails d N) refl
  where
    kept : (M N : Cond) → M ▷ N → fails d M ≡ false → fails d N ≡ true → ⊥
    kept M N i f g =
        let h : true ≡ false = sym g ∙ holds_fails d N (▷-all (λ n. min n d) M N i (fails_holds d M f)) in
        let z : ◌≡◌ {A = ℕ} 0 1 = cc in absurd (omega arith)

    go : (f : Bool) → fails d M ≡ f → (g : Bool) → fails d N ≡ g → f ≡ g
    go true f true g = refl
    go true f false g = absurd (kept N M e.1 g f)
    go false f true g = absurd (kept M N e.0 f g)
    go false f false g = refl

pub decided-~ : (d : ℕ) (M N : Cond) → M ~ N → (α : Act) (A : Term) → decided d (step M α A) ≡ decided d (step N α A)
unfolding decided
decided-~ d M N e α A = λ i. cond (fails-~ d M N e i) blocked (step (canonical-same M N e i) α A)

decided-fails : (d : ℕ) (M : Cond) → fails d M ≡ true → (α : Act) (A : Term) → decided d (step M α A) ≡ blocked
unfolding decided
decided-fails d M f α A = ap (λ (f : Bool). cond f blocked (step (canonical M) α A)) f

-- What is to be shown of a decided candidate, by whether its matches fail.
pub by-fails : (d : ℕ) (C : Candidate → Type 0) (M : Cond) (α : Act) (A : Term) → (fails d M ≡ true → C blocked) → (fails d M ≡ false → C (step (canonical M) α A))
    → C (decided d (step M α A))
unfolding decided
by-fails d C M α A x y = go (fails d M) refl
  where
    go : (f : Bool) → fails d M ≡ f → C (cond f blocked (step (canonical M) α A))
    go true f = x f
    go false f = y f

-- Decided once is decided.
decided_twice : (d : ℕ) (c : Candidate) → decided d c ≡ decided d (decided d c)
unfolding decided
decided_twice d (step M α A) = by-fails d (λ (c : Candidate). decided d (step M α A) ≡ decided d c) M α A
    (λ f. decided-fails d M f α A) (λ f. decided-~ d M (canonical M) (~_sym (canonical M) M (canonical-~ M)) α A)
decided_twice d blocked = refl

-- Of two conditions together.
fails-++ : (d : ℕ) (M N : Cond) → fails d (M ++ N) ≡ (fails d M || fails d N)
unfolding fails
fails-++ d [] N = refl
fails-++ d (p ∷ M) N =
    ap (λ (f : Bool). failing d p.0 p.1 || f) (fails-++ d M N) ∙ sym (or_assoc (failing d p.0 p.1) (fails d M) (fails d N))

together-▷ : (p : ℕ × ℕ) (M N M' N' : Cond) → M ▷ M' → N ▷ N' → (p ∷ (M ++ N)) ▷ (p ∷ (M' ++ N'))
together-▷ p M N M' N' i j =
    let f = cls (p ∷ (M ++ N)) in
    let (x, y) = E2 (p ∷ (M ++ N)) in
    (x, Unif-++ f M' N' (▷-all f M M' i (Unif-left f M N y)) (▷-all f N N' j (Unif_right f M N y)))

-- Outside a restriction.
eqb_suc : (a b : ℕ) → eqb (suc a) (suc b) ≡ eqb a b
eqb_suc a b = go (eqb a b) refl
  where
    go : (t : Bool) → eqb a b ≡ t → eqb (suc a) (suc b) ≡ t
    go true t = eq-eqb (suc a) (suc b) (ap suc (eqb-true a b t))
    go false t = ne_eqb (suc a) (suc b) (λ e. eqb-false a b t (omega arith))

ltb_suc : (a d : ℕ) → ltb (suc a) (1 + d) ≡ ltb a d
ltb_suc a d = go (ltb a d) refl
  where
    go : (t : Bool) → ltb a d ≡ t → ltb (suc a) (1 + d) ≡ t
    go true t = let h = ltb-true a d t in lt-ltb (suc a) (1 + d) (omega arith)
    go false t = let h = ltb-false a d t in le-ltb (suc a) (1 + d) (omega arith)

failing_suc : (d a b : ℕ) → failing (1 + d) (suc a) (suc b) ≡ failing d a b
unfolding failing
failing_suc d a b = λ i. not (eqb_suc a b i) && (ltb_suc a d i || ltb_suc b d i)

failing_zero : (d b : ℕ) → (failing (1 + d) 0 (suc b) ≡ true) × (failing (1 + d) (suc b) 0 ≡ true)
unfolding failing
failing_zero d b =
    let z = lt-ltb 0 (1 + d) (omega arith) in (
      (λ i. not (ne_eqb 0 (suc b) (λ e. omega arith) i) && (z i || ltb (suc b) (1 + d))),
      (λ i. not (ne_eqb (suc b) 0 (λ e. omega arith) i) && (ltb (suc b) (1 + d) || z i)) ∙ or-true (ltb (suc b) (1 + d)),
    )

-- A condition that leaves the restricted name alone fails outside if it does here; another one fails.
module _ (d : ℕ) where
  spared : (M : Cond) → restricted_alone M ≡ true → fails d (map_p outside M) ≡ fails (1 + d) M
  unfolding restricted_alone leaves_alone fails outside
  spared [] e = refl
  spared ((zero, zero) ∷ M) e = λ i. (failing_not d 0 0 refl ∙ sym (failing_not (1 + d) 0 0 refl)) i || spared M e i
  spared ((zero, suc b) ∷ M) e = let z : ◌≡◌ {A = ℕ} 0 1 = cc in absurd (omega arith)
  spared ((suc a, zero) ∷ M) e = let z : ◌≡◌ {A = ℕ} 0 1 = cc in absurd (omega arith)
  spared ((suc a, suc b) ∷ M) e = λ i. sym (failing_suc d a b) i || spared M e i

  unspared : (M : Cond) → restricted_alone M ≡ false → fails (1 + d) M ≡ true
  unfolding restricted_alone leaves_alone fails
  unspared [] e = let z : ◌≡◌ {A = ℕ} 0 1 = cc in absurd (omega arith)
  unspared ((zero, zero) ∷ M) e = ap (λ (f : Bool). failing (1 + d) 0 0 || f) (unspared M e) ∙ or-true (failing (1 + d) 0 0)
  unspared ((zero, suc b) ∷ M) e = ap (λ (f : Bool). f || fails (1 + d) M) (failing_zero d b).0
  unspared ((suc a, zero) ∷ M) e = ap (λ (f : Bool). f || fails (1 + d) M) (failing_zero d a).1
  unspared ((suc a, suc b) ∷ M) e =
      ap (λ (f : Bool). failing (1 + d) (suc a) (suc b) || f) (unspared M e) ∙ or-true (failing (1 + d) (suc a) (suc b))

  alone_not_failing : (M : Cond) → fails (1 + d) M ≡ false → restricted_alone M ≡ true
  alone_not_failing M f = go (restricted_alone M) refl
    where
      go : (s : Bool) → restricted_alone M ≡ s → s ≡ true
      go true s = refl
      go false s = let z : true ≡ false = sym (unspared M s) ∙ f in let y : ◌≡◌ {A = ℕ} 0 1 = cc in absurd (omega arith)

-- [Match]
pub decided-matching : (d a b : ℕ) (c : Candidate) → decided d (matching a b c) ≡ decided d (matching a b (decided d c))
unfolding decided fails matching
decided-matching d a b (step M α A) = by-fails d (λ (c : Candidate). decided d (matching a b (step M α A)) ≡ decided d (matching a b c)) M α A
    (λ f. decided-fails d ((a, b) ∷ M) (ap (λ (f : Bool). failing d a b || f) f ∙ or-true (failing d a b)) α A)
    (λ f. decided-~ d ((a, b) ∷ M) ((a, b) ∷ canonical M) (cons-▷ M (canonical M) (canonical-~ M).1, cons-▷ (canonical M) M (canonical-~ M).0) α A)
  where
    cons-▷ : (M N : Cond) → M ▷ N → ((a, b) ∷ M) ▷ ((a, b) ∷ N)
    cons-▷ M N i = let (x, y) = E2 ((a, b) ∷ M) in (x, ▷-all (cls ((a, b) ∷ M)) M N i y)
decided-matching d a b blocked = refl

-- [Par]
pub decided-left : (d : ℕ) (Q : Term) (c : Candidate) → decided d (left_steps Q c) ≡ left_steps Q (decided d c)
unfolding decided left_steps
decided-left d Q (step M α A) = go (fails d M)
  where
    go : (f : Bool) → cond f blocked (left_steps Q (step (canonical M) α A)) ≡ left_steps Q (cond f blocked (step (canonical M) α A))
    go true = refl
    go false = refl
decided-left d Q blocked = refl

pub decided_right : (d : ℕ) (P : Term) (c : Candidate) → decided d (right_steps P c) ≡ right_steps P (decided d c)
unfolding decided right_steps
decided_right d P (step M α A) = go (fails d M)
  where
    go : (f : Bool) → cond f blocked (right_steps P (step (canonical M) α A)) ≡ right_steps P (cond f blocked (step (canonical M) α A))
    go true = refl
    go false = refl
decided_right d P blocked = refl

-- [Res] and [Open]
stays : (f : Bool) → blocked ≡ cond f blocked blocked
stays true = refl
stays false = refl

decided_action : (d : ℕ) (M : Cond) (α : Act) (A : Term) → decided d (restricted_action M α A) ≡ cond (fails d M) blocked (restricted_action (canonical M) α A)
unfolding decided restricted_action
decided_action d M tau_a A = refl
decided_action d M (inp_a zero) A = stays (fails d M)
decided_action d M (inp_a (suc a)) A = refl
decided_action d M (out_a zero b) A = stays (fails d M)
decided_action d M (out_a (suc a) zero) A = refl
decided_action d M (out_a (suc a) (suc b)) A = refl
decided_action d M (bout_a zero) A = stays (fails d M)
decided_action d M (bout_a (suc a)) A = refl

pub decided-restricted : (d : ℕ) (c : Candidate) → decided d (restricted c) ≡ decided d (restricted (decided (1 + d) c))
unfolding decided restricted
decided-restricted d (step M α A) = by-fails (1 + d) (λ (c : Candidate). decided d (restricted (step M α A)) ≡ decided d (restricted c)) M α A
    (λ f. blocks f (restricted_alone M) refl)
    (λ f.
    let g : fails (1 + d) (canonical M) ≡ false = fails-~ (1 + d) (canonical M) M (canonical-~ M) ∙ f in
    let O = map_p-~ outside M (canonical M) (~_sym (canonical M) M (canonical-~ M)) in
    ap (λ (s : Bool). decided d (cond s (restricted_action (map_p outside M) α A) blocked)) (alone_not_failing d M f)
    ∙ decided_action d (map_p outside M) α A
    ∙ (λ i. cond (fails-~ d (map_p outside M) (map_p outside (canonical M)) O i) blocked (restricted_action (canonical-same (map_p outside M) (map_p outside (canonical M)) O i) α A))
    ∙ sym (decided_action d (map_p outside (canonical M)) α A)
    ∙ ap (λ (s : Bool). decided d (cond s (restricted_action (map_p outside (canonical M)) α A) blocked)) (sym (alone_not_failing d (canonical M) g)))
  where
    blocks : fails (1 + d) M ≡ true → (s : Bool) → restricted_alone M ≡ s → decided d (cond s (restricted_action (map_p outside M) α A) blocked) ≡ blocked
    blocks f true s =
        decided_action d (map_p outside M) α A
        ∙ ap (λ (f : Bool). cond f blocked (restricted_action (canonical (map_p outside M)) α A)) (spared d M s ∙ f)
    blocks f false s = refl
decided-restricted d blocked = refl

-- All the restrictions around a term.
raised-decided : (K : List Frame) (c : Candidate) → decided 0 (raised K c) ≡ decided 0 (raised K (decided (restrictions K) c))
unfolding raised level_in
raised-decided [] c = decided_twice 0 c
raised-decided (left_of Q ∷ K) c = raised-decided K (left_steps Q c) ∙ ap (λ (c : Candidate). decided 0 (raised K c)) (decided-left (restrictions K) Q c)
raised-decided (right_of P ∷ K) c = raised-decided K (right_steps P c) ∙ ap (λ (c : Candidate). decided 0 (raised K c)) (decided_right (restrictions K) P c)
raised-decided (beneath ∷ K) c =
    let e : 1 + restrictions K ≡ suc (restrictions K) = omega arith in
    raised-decided K (restricted c) ∙ ap (λ (c : Candidate). decided 0 (raised K c)) (decided-restricted (restrictions K) c)
    ∙ sym (raised-decided K (restricted (decided (1 + restrictions K) c)))
    ∙ ap (λ (d : ℕ). decided 0 (raised K (restricted (decided d c)))) e

pub decided-raised : (K : List Frame) (d : ℕ) → restrictions K ≡ d → (c : Candidate) → decided 0 (raised K c) ≡ decided 0 (raised K (decided d c))
decided-raised K d e c = raised-decided K c ∙ ap (λ (d : ℕ). decided 0 (raised K (decided d c))) e

-- [Com] and [Close]: what is to be shown of a communication, by its two conditions.
meet_cases : (S : (Cond → Cond → Candidate) → Type 0) → S (λ M N. blocked) → ((a b : ℕ) (C : Term) → S (λ M N. step ((a, b) ∷ (M ++ N)) tau_a C))
    → (α : Act) (A : Term) (β : Act) (B : Term) → S (λ M N. meet M α A N β B)
unfolding meet
meet_cases S s t tau_a A β B = s
meet_cases S s t (inp_a a) A tau_a B = s
meet_cases S s t (inp_a a) A (inp_a b) B = s
meet_cases S s t (inp_a a) A (out_a b y) B = t a b _
meet_cases S s t (inp_a a) A (bout_a b) B = t a b _
meet_cases S s t (out_a a y) A tau_a B = s
meet_cases S s t (out_a a y) A (inp_a b) B = t a b _
meet_cases S s t (out_a a y) A (out_a b z) B = s
meet_cases S s t (out_a a y) A (bout_a b) B = s
meet_cases S s t (bout_a a) A tau_a B = s
meet_cases S s t (bout_a a) A (inp_a b) B = t a b _
meet_cases S s t (bout_a a) A (out_a b z) B = s
meet_cases S s t (bout_a a) A (bout_a b) B = s

pub decided-communication : (d : ℕ) (s t : Candidate) → decided d (communication s t) ≡ decided d (communication (decided d s) (decided d t))
unfolding decided communication fails
decided-communication d (step M α A) (step N β B) =
    by-fails d (λ (s : Candidate). decided d (meet M α A N β B) ≡ decided d (communication s (decided d (step N β B)))) M α A
    (λ f. blocks (fails-++ d M N ∙ ap (λ (t : Bool). t || fails d N) f))
    (λ f. by-fails d (λ (t : Candidate). decided d (meet M α A N β B) ≡ decided d (communication (step (canonical M) α A) t)) N β B
    (λ g. blocks (fails-++ d M N ∙ ap₂ (λ (s t : Bool). s || t) f g)) (λ g. same))
  where
    blocks : fails d (M ++ N) ≡ true → decided d (meet M α A N β B) ≡ blocked
    blocks f = meet_cases (λ (F : Cond → Cond → Candidate). decided d (F M N) ≡ blocked) refl
        (λ a b C. decided-fails d ((a, b) ∷ (M ++ N)) (ap (λ (f : Bool). failing d a b || f) f ∙ or-true (failing d a b)) tau_a C) α A β B

    same : decided d (meet M α A N β B) ≡ decided d (meet (canonical M) α A (canonical N) β B)
    same =
        let m = canonical-~ M in
        let n = canonical-~ N in
        meet_cases (λ (F : Cond → Cond → Candidate). decided d (F M N) ≡ decided d (F (canonical M) (canonical N))) refl
        (λ a b C. decided-~ d ((a, b) ∷ (M ++ N)) ((a, b) ∷ (canonical M ++ canonical N))
        (together-▷ (a, b) M N (canonical M) (canonical N) m.1 n.1, together-▷ (a, b) (canonical M) (canonical N) M N m.0 n.0) tau_a C) α A β B
decided-communication d (step M α A) blocked = ap (decided d) (sym (not_met (cond (fails d M) blocked (step (canonical M) α A))))
decided-communication d blocked t = refl

-- A candidate that is a step with these classes.
pub record Like (c : Candidate) (N : Cond) (α : Act) (A : Term) : Type 0 where
  pub condition : Cond
  pub is : c ≡ step condition α A
  pub same : cls condition ≡ cls N

same_classes : (M : Cond) → cls M ≡ cls (canonical M)
same_classes M = sym (canonical-cls M)

pub decided-step : (d : ℕ) (c : Candidate) (N : Cond) (α : Act) (A : Term) → decided d c ≡ step N α A → Like c N α A
unfolding decided
decided-step d (step M β B) N α A e = go (fails d M) e
  where
    go : (f : Bool) → cond f blocked (step (canonical M) β B) ≡ step N α A → Like (step M β B) N α A
    go true e = never N α A e
    go false e =
        let k : canonical M ≡ N = cc in
        let p : β ≡ α = cc in
        let q : B ≡ A = cc in
        record { condition = M; is = ap₂ (step M) p q; same = same_classes M ∙ ap cls k }
decided-step d blocked N α A e = never N α A e

-- Outside every restriction.
fails-none : (M : Cond) → fails 0 M ≡ false
unfolding fails failing
fails-none [] = refl
fails-none (p ∷ M) =
    (λ i. (not (eqb p.0 p.1) && (le-ltb p.0 0 (omega arith) i || le-ltb p.1 0 (omega arith) i)) || fails-none M i) ∙ go (not (eqb p.0 p.1))
  where
    go : (t : Bool) → ((t && false) || false) ≡ false
    go true = refl
    go false = refl

decided-outside : (M : Cond) (α : Act) (A : Term) → decided 0 (step M α A) ≡ step (canonical M) α A
unfolding decided
decided-outside M α A = ap (λ (f : Bool). cond f blocked (step (canonical M) α A)) (fails-none M)

pub like_of : (c : Candidate) (N : Cond) (α : Act) (A : Term) → decided 0 c ≡ decided 0 (step N α A) → Like c N α A
like_of c N α A e =
    let l = decided-step 0 c (canonical N) α A (e ∙ decided-outside N α A) in
    record { condition = l.condition; is = l.is; same = l.same ∙ sym (same_classes N) }

pub outside-blocked : (c : Candidate) → decided 0 c ≡ blocked → c ≡ blocked
outside-blocked (step M α A) e = never (canonical M) α A (sym e ∙ decided-outside M α A)
outside-blocked blocked e = refl

pub like_trivial : (M N : Cond) → cls M ≡ cls N → Trivial N → Trivial M
unfolding Trivial
like_trivial M N e t n = (λ i. e i n) ∙ t n

pub like_action : (x : ℕ) (M N : Cond) → cls M ≡ cls N → (α : Act) → step_action x M α ≡ step_action x N α
unfolding step_action
like_action x M N e tau_a = refl
like_action x M N e (inp_a a) = λ i. record { kind = 1; channel = e i a; object = x }
like_action x M N e (out_a a b) = λ i. record { kind = 2; channel = e i a; object = e i b }
like_action x M N e (bout_a a) = λ i. record { kind = 3; channel = e i a; object = x }

-- What a communication is raised to.
module _ (K : List Frame) (d : ℕ) (level : restrictions K ≡ d) (s t : Candidate) where
  decided-met : decided 0 (raised K (communication s t)) ≡ decided 0 (raised K (communication (decided d s) (decided d t)))
  decided-met =
      decided-raised K d level (communication s t) ∙ ap (λ (c : Candidate). decided 0 (raised K c)) (decided-communication d s t)
      ∙ sym (decided-raised K d level (communication (decided d s) (decided d t)))

  pub met_like : (N : Cond) (α : Act) (A : Term) → raised K (communication (decided d s) (decided d t)) ≡ step N α A → Like (raised K (communication s t)) N α A
  met_like N α A e = like_of (raised K (communication s t)) N α A (decided-met ∙ ap (decided 0) e)

  pub met-blocked : raised K (communication (decided d s) (decided d t)) ≡ blocked → raised K (communication s t) ≡ blocked
  unfolding decided
  met-blocked e = outside-blocked (raised K (communication s t)) (decided-met ∙ ap (decided 0) e)

-- Steps with the same classes are listed alike.
pub like_listed : (names x : ℕ) (M N : Cond) → cls M ≡ cls N → (α : Act) (A : Term) → canon_step result_form names x M α A ≡ canon_step result_form names x N α A
unfolding canon_step listed_as classes_of kind_of channel_of object_of
like_listed names x M N e tau_a A = λ i. record { classes = map (e i) (names_from 0 names); kind = 0; channel = 0; object = 0; result = result_form (ren (e i) A) }
like_listed names x M N e (inp_a a) A = λ i. record { classes = map (e i) (names_from 0 names); kind = 1; channel = e i a; object = x; result = result_form (ren (x • e i) A) }
like_listed names x M N e (out_a a b) A = λ i. record { classes = map (e i) (names_from 0 names); kind = 2; channel = e i a; object = e i b; result = result_form (ren (e i) A) }
like_listed names x M N e (bout_a a) A = λ i. record { classes = map (e i) (names_from 0 names); kind = 3; channel = e i a; object = x; result = result_form (ren (x • e i) A) }

-- Candidates that add no step.
pub again_one : (d : ℕ) (c : Candidate) (cs : List Candidate) → c ∈ cs → Again d c cs
unfolding Again
again_one d c cs m = inr (c, m, refl)

pub again-more : (d : ℕ) (c : Candidate) (cs ds : List Candidate) → Among cs ds → Again d c cs → Again d c ds
unfolding Again
again-more d c cs ds h (inl e) = inl e
again-more d c cs ds h (inr (b, m, e)) = inr (b, h b m, e)

-- by a rule that keeps what is decided
pub again_by : (d d₁ : ℕ) (f g : Candidate → Candidate) → ((c : Candidate) → decided d (f c) ≡ g (decided d₁ c)) → g blocked ≡ blocked
    → (c : Candidate) (cs : List Candidate) → Again d₁ c cs → Again d (f c) (map f cs)
unfolding Again
again_by d d₁ f g k z c cs (inl e) = inl (k c ∙ ap g e ∙ z)
again_by d d₁ f g k z c cs (inr (b, m, e)) = inr (f b, ∈-map f b cs m, k c ∙ ap g e ∙ sym (k b))

pub again-raised : (K : List Frame) (d : ℕ) → restrictions K ≡ d → (c : Candidate) (cs : List Candidate) → Again d c cs → Again 0 (raised K c) (map (raised K) cs)
unfolding decided
again-raised K d level = again_by 0 d (raised K) (λ (c : Candidate). decided 0 (raised K c)) (decided-raised K d level) (ap (decided 0) (raised-blocked K))

pub again_as : (d : ℕ) (c b : Candidate) (cs : List Candidate) → decided d c ≡ decided d b → Again d b cs → Again d c cs
unfolding Again
again_as d c b cs e (inl f) = inl (e ∙ f)
again_as d c b cs e (inr (a, m, f)) = inr (a, m, e ∙ f)

-- A match of a name with itself.
module _ (d a b : ℕ) (same : a ≡ b) where
  pub decided_trivial : (c : Candidate) → decided d (matching a b c) ≡ decided d c
  unfolding decided matching
  decided_trivial (step M α A) = decided-~ d ((a, b) ∷ M) M ((E2 ((a, b) ∷ M)).1, (ap (cls M) same, E2 M)) α A
  decided_trivial blocked = refl

  pub again_trivial : (c : Candidate) (before cs : List Candidate) → Again d c (before ++ cs) → Again d (matching a b c) (before ++ map (matching a b) cs)
  unfolding Again
  again_trivial c before cs (inl e) = inl (decided_trivial c ∙ e)
  again_trivial c before cs (inr (x, m, e)) = ⊎_elim
      (λ n. inr (x, ∈-left x before (map (matching a b) cs) n, decided_trivial c ∙ e))
      (λ n. inr (matching a b x, ∈_right (matching a b x) before (map (matching a b) cs) (∈-map (matching a b) x cs n), decided_trivial c ∙ e ∙ sym (decided_trivial x)))
      (∈_either x before cs m)

-- One of a restricted name with another.
pub decided-failing : (d a b : ℕ) → (a ≡ b → ⊥) → (a < d) ⊎ (b < d) → (c : Candidate) → decided d (matching a b c) ≡ blocked
unfolding decided matching fails failing
decided-failing d a b n h (step M α A) =
    decided-fails d ((a, b) ∷ M) (λ i. (not (ne_eqb a b n i) && one h i) || fails d M) α A
  where
    one : (a < d) ⊎ (b < d) → (ltb a d || ltb b d) ≡ true
    one (inl h) = ap (λ (t : Bool). t || ltb b d) (lt-ltb a d h)
    one (inr h) = ap (λ (t : Bool). ltb a d || t) (lt-ltb b d h) ∙ or-true (ltb a d)
decided-failing d a b n h blocked = refl
