-- The entries of a tally, form by form. Assumes nothing.
use mathlib.Core.Path.{◌≡◌, refl, sym, ap, ap₂, subst, ◌∙◌}
use mathlib.Core.Bool.{Bool, true, false, cond}
use mathlib.Core.List.{List, [], ◌∷◌, ◌++◌, map, append_assoc}
use Prim.Native.Nat.{ℕ, ◌+◌, ◌-◌, ◌*◌, ◌<◌, ◌≤◌, max}
use native.Mathlib.Nat.{mul-add, add-mul, mul-le-mul, mul-le-mul_left, one-le-mul}
use native.Mathlib.Omega.{arith}
use mir.Syntax.{w32, w64}
use mir.Val.{Fits}
use lib.ListN.{length, get_or, drop, length-append, length-map}
use lib.Dec.{eqb, leb}
use borrow.Author.Tests.{leb-true, leb-false}
use Rattle.calculus.specs.Term.{Term, nil, tau, inp, out, bout, mat, sum, par, res, call, lift, ren}
use Rattle.terms.specs.Encoding.{name_byte, encode, InScope}
use Rattle.terms.specs.Limits.{longest_term}
use Rattle.terms_bytes.specs.Shape.{front_bytes, fixed_bytes, own_names}
use Rattle.terms_bytes.proofs.Stores.{get_d_front}
use Rattle.steps_tallies.specs.Fronts.{TermFrontIs}
use Rattle.steps_tallies.specs.Candidates.{candidates, OwnNamesIf}
use Rattle.steps.specs.Raw.{matching, left_steps, right_steps, restricted, visible, silent, visible_of, silent_of}
use Rattle.steps_tallies.specs.Tally.{visible_call, silent_call, Few, FewCalls}
use Rattle.steps_tallies.specs.Tallying.{CallsAre, EntryIs, nothing_at, entry_at, tallied_entry, prefix_entry, call_entry, choice_entry, parallel_entry, Small, Filled}
use Rattle.steps_tallies.specs.declared.front.TermFront.{TermFront}
use Rattle.steps_tallies.specs.declared.tally.Entry.{Entry}
use Rattle.steps_tallies.proofs.CandidateForms.{candidates-mat, candidates-res, candidates-sum, candidates-par, meetings, tag, tag_at, only_prefix, only_call, only_sum, only_par}
use Rattle.steps_tallies.proofs.FrontLaws.{stands, behind}
use Rattle.steps_tallies.proofs.Numbering.{length-communications}
use Rattle.steps_tallies.proofs.OwnNames.{own-under}

-- Two squares and a product are within the square of the sum.
squares : (p q s : ℕ) → p + q ≤ s → p * p + q * q + p * q ≤ s * s
squares p q s h = omega (arith, mul-le-mul h h, add-mul p q (p + q), mul-add p p q, mul-add q p q)

module _ (B : ℕ) where
  few_none : (n : ℕ) → Few B n 0 0
  unfolding Few
  few_none n = (omega arith, omega arith)

  few_more : (m n v w : ℕ) → m ≤ n → Few B m v w → Few B n v w
  unfolding Few
  few_more m n v w h f =
      let k : B * m ≤ B * n = mul-le-mul_left B h in
      (omega (arith, f.0), omega (arith, f.1, mul-le-mul k k))

  few_one : (n : ℕ) → 1 ≤ B → 1 ≤ n → Few B n 1 0 × Few B n 0 1
  unfolding Few
  few_one n h k =
      let l : 1 ≤ B * n = one-le-mul h k in
      ((l, omega arith), (omega arith, one-le-mul l l))

  few_both : (m n l v w x y : ℕ) → m + n ≤ l → Few B m v w → Few B n x y → Few B l (v + x) (w + y + v * x)
  unfolding Few
  few_both m n l v w x y h f g =
      let k : B * m + B * n ≤ B * l = omega (arith, mul-add B m n, mul-le-mul_left B h) in
      (omega (arith, f.0, g.0), omega (arith, f.1, g.1, mul-le-mul f.0 g.0, squares (B * m) (B * n) (B * l) k))

  few_sum : (m n l v w x y : ℕ) → m + n ≤ l → Few B m v w → Few B n x y → Few B l (v + x) (w + y)
  unfolding Few
  few_sum m n l v w x y h f g =
      let k = few_both m n l v w x y h f g in
      (k.0, omega (arith, k.1))

-- A prefix has one candidate, silent or visible, and its own end.
abbrev by_kind : Bool → ℕ → Entry
by_kind b e = cond b (record { visible = 0; silent = 1; end = e }) (record { visible = 1; silent = 0; end = e })

prefix_end : (t e : ℕ) → (prefix_entry t e).end ≡ e
unfolding prefix_entry
prefix_end t e = go (eqb t 1)
  where
    go : (b : Bool) → (by_kind b e).end ≡ e
    go true = refl
    go false = refl

prefix_few : (called : List ℕ) (at t e B : ℕ) → FewCalls B called → 1 ≤ (prefix_entry t e).end - at
    → Few B ((prefix_entry t e).end - at) (prefix_entry t e).visible (prefix_entry t e).silent
unfolding prefix_entry FewCalls
prefix_few called at t e B c = go (eqb t 1)
  where
    go : (b : Bool) → 1 ≤ (by_kind b e).end - at
        → Few B ((by_kind b e).end - at)
        (by_kind b e).visible
        (by_kind b e).silent
    go true h = (few_one B (e - at) c.0 h).1
    go false h = (few_one B (e - at) c.0 h).0

-- Distances of places that follow one another.
closer : (a n e : ℕ) → a ≤ n → e - n ≤ e - a
closer a n e h = omega arith

further : (a n e f : ℕ) → a ≤ n → n ≤ e → e ≤ f → e - n + (f - e) ≤ f - a
further a n e f h k l = omega arith

-- How many candidates of a kind each form has.
module _ (body : ℕ → Term) (t : Bool) (n : ℕ) where
  abbrev number : Term → ℕ
  number P = length (candidates t body n P)

  number-mat : (a b : ℕ) (P : Term) → number (mat a b P) ≡ number P
  number-mat a b P = ap length (candidates-mat body t n a b P) ∙ length-map (candidates t body n P) (matching a b)

  number-res : (P : Term) → number (res P) ≡ number P
  number-res P = ap length (candidates-res body t n P) ∙ length-map (candidates t body n P) restricted

  number-sum : (P Q : Term) → number (sum P Q) ≡ number P + number Q
  number-sum P Q = ap length (candidates-sum body t n P Q) ∙ length-append (candidates t body n P) (candidates t body n Q)

  number-par : (P Q : Term) → number (par P Q) ≡ number P + number Q + length (meetings body t n P Q)
  number-par P Q =
      let l = map (left_steps Q) (candidates t body n P) in
      let r = map (right_steps P) (candidates t body n Q) in
      let m = meetings body t n P Q in
      ap length (candidates-par body t n P Q)
      ∙ omega (
        arith,
        length-append l (r ++ m),
        length-append r m,
        length-map (candidates t body n P) (left_steps Q),
        length-map (candidates t body n Q) (right_steps P),
      )

module _ (body : ℕ → Term) (n : ℕ) (P Q : Term) where
  abbrev visibles : Term → ℕ
  visibles P = length (visible body n P)

  abbrev silents : Term → ℕ
  silents P = length (silent body n P)

  visible-par : visibles (par P Q) ≡ visibles P + visibles Q
  unfolding candidates
  visible-par = omega (arith, number-par body false n P Q)

  silent-par : silents (par P Q) ≡ silents P + silents Q + visibles P * visibles Q
  unfolding candidates
  silent-par = omega (arith, number-par body true n P Q, length-communications (visible body n P) (visible body n Q))

module _ (s arities called : List ℕ) (at : ℕ) where
  -- the numbers and the end of the term P
  abbrev Here : (ℕ → Term) → ℕ → ℕ → (ℕ → ℕ) → Term → Entry → Type 0
  Here body n D σ P r = (r.visible ≡ length (visible body n (ren σ P))) × (r.silent ≡ length (silent body n (ren σ P))) × (r.end ≡ at + length (encode D P))

  pub nothing_past : length s ≤ at → EntryIs s arities called at (nothing_at at)
  unfolding nothing_at
  nothing_past h = record {
    on = omega arith;
    inside = omega arith;
    few = λ B c. few_none B (at - at);
    is = λ body n free D σ own P rest c g e. let z = stands s at D P rest e in absurd (omega arith);
  }

  -- No entry has more candidates than the longest term may have.
  pub small_entry : (r : Entry) → length s ≤ longest_term → FewCalls longest_term called → EntryIs s arities called at r → Small r
  unfolding Small Few
  small_entry r l c E =
      let f = E.few longest_term c in
      let i = E.inside in
      let k : longest_term * (r.end - at) ≤ longest_term * longest_term = omega arith in
      (omega (arith, f.0), omega (arith, f.1, mul-le-mul k k))

  -- So its numbers and its end fit the tally.
  pub entry-fits : (r : Entry) → length s ≤ longest_term → at ≤ longest_term → FewCalls longest_term called → EntryIs s arities called at r
      → Fits w32 r.visible × Fits w32 r.silent × Fits w32 r.end
  unfolding Small
  entry-fits r l i c E =
      let f = small_entry r l c E in
      let j = E.inside in
      (omega (arith, f.0), omega (arith, f.1), omega arith)

  module _ (h : TermFront) (F : TermFrontIs s at arities h) where
    front : (free D : ℕ) (P : Term) (rest : List ℕ) → InScope free arities D P → drop at s ≡ encode D P ++ rest
        → (h.tag ≡ tag P) × (h.next ≡ at + length (front_bytes D P))
    front free D P rest g e = let f = F.is free D P rest g e in (f.0 ∙ tag_at s at D P rest e, f.1)

    -- Inaction, or no term.
    pub entry-none : at < length s → h.tag ≡ 0 → (at < at + 1) × EntryIs s arities called at (nothing_at (at + 1))
    unfolding nothing_at encode visible silent visible_of silent_of
    entry-none lt z = (
      omega arith,
      record {
        on = omega arith;
        inside = omega arith;
        few = λ B c. few_none B (at + 1 - at);
        is = λ body n free D σ own P rest c g e.
            let f = front free D P rest g e in
            only_prefix (λ (P : Term). tag P ≡ 0 → Here body n D σ P (nothing_at (at + 1))) (λ y. (refl, refl, refl))
            (λ P y. absurd (omega arith)) (λ a P y. absurd (omega arith)) (λ a b P y. absurd (omega arith)) (λ a P y. absurd (omega arith))
            P (omega (arith, f.0)) (sym f.0 ∙ z);
      },
    )

    pub entry-call : (k : ℕ) → h.tag ≡ 9 → k ≡ get_or s (at + 1) 0 → (at < h.next) × EntryIs s arities called at (call_entry called k h.next)
    unfolding call_entry encode front_bytes fixed_bytes own_names InScope FewCalls CallsAre
    entry-call k t ek =
        let i = F.inside in
        let j = F.some in (
          omega arith,
          record {
            on = omega arith;
            inside = omega arith;
            few = λ B c. few_more B 1 (h.next - at) (visible_call called k) (silent_call called k) (omega arith) (c.1 k);
            is = λ body n free D σ own P rest c g e.
                let f = front free D P rest g e in
                only_call (λ (P : Term). InScope free arities D P → drop at s ≡ encode D P ++ rest → h.next ≡ at + length (front_bytes D P) → Here body n D σ P (call_entry called k h.next))
                (λ k' xs g e m.
                let ek' : k ≡ k' = ek ∙ get_d_front s at (9 ∷ k' ∷ map (name_byte D) xs) rest 1 e (omega arith) in
                let w = c k' (map σ xs) g.0 in
                (ap (visible_call called) ek' ∙ w.0, ap (silent_call called) ek' ∙ w.1, m))
                P (omega (arith, f.0)) g e f.1;
          },
        )

    module _ (p : Entry) (C : EntryIs s arities called h.next p) where
      -- A prefix has one candidate, and ends where its continuation ends.
      prefix_is : (body : ℕ → Term) (n free D : ℕ) (σ : ℕ → ℕ) → OwnNamesIf n σ → (P : Term) (rest : List ℕ) → CallsAre arities body n called → InScope free arities D P
          → drop at s ≡ encode D P ++ rest → h.next ≡ at + length (front_bytes D P) → tag P < 5 → (tag P ≡ 0 → ⊥) → Here body n D σ P (prefix_entry (tag P) p.end)
      unfolding prefix_entry encode front_bytes fixed_bytes own_names InScope visible silent visible_of silent_of
      prefix_is body n free D σ own P rest c g e m l z =
          only_prefix (λ (P : Term). (tag P ≡ 0 → ⊥) → InScope free arities D P → drop at s ≡ encode D P ++ rest → h.next ≡ at + length (front_bytes D P) → Here body n D σ P (prefix_entry (tag P) p.end))
          (λ z g e m. absurd (z refl))
          (λ P z g e m. (refl, refl, (C.is body n free D σ own P rest c g (ap (λ (k : ℕ). drop k s) m ∙ behind s at 1 (1 ∷ []) (encode D P ++ rest) e refl)).2 ∙ omega arith))
          (λ a P z g e m. (refl, refl, (C.is body n free (1 + D) (lift σ) (own-under n σ own) P rest c g.1 (ap (λ (k : ℕ). drop k s) m ∙ behind s at 2 (2 ∷ name_byte D a ∷ []) (encode (1 + D) P ++ rest) e refl)).2 ∙ omega arith))
          (λ a b P z g e m. (refl, refl, (C.is body n free D σ own P rest c g.2 (ap (λ (k : ℕ). drop k s) m ∙ behind s at 3 (3 ∷ name_byte D a ∷ name_byte D b ∷ []) (encode D P ++ rest) e refl)).2 ∙ omega arith))
          (λ a P z g e m. (refl, refl, (C.is body n free (1 + D) (lift σ) (own-under n σ own) P rest c g.1 (ap (λ (k : ℕ). drop k s) m ∙ behind s at 2 (4 ∷ name_byte D a ∷ []) (encode (1 + D) P ++ rest) e refl)).2 ∙ omega arith))
          P l z g e m

      pub entry-prefix : (h.tag ≡ 0 → ⊥) → h.tag < 5 → (at < (prefix_entry h.tag p.end).end) × EntryIs s arities called at (prefix_entry h.tag p.end)
      entry-prefix z l =
          let e = prefix_end h.tag p.end in
          let i = F.inside in
          let j = F.some in
          let k = C.on in
          let o = C.inside in (
            omega arith,
            record {
              on = omega arith;
              inside = omega arith;
              few = λ B c. prefix_few called at h.tag p.end B c (omega arith);
              is = λ body n free D σ own P rest c g st.
                  let f = front free D P rest g st in
                  subst (λ (t : ℕ). Here body n D σ P (prefix_entry t p.end)) (sym f.0)
                  (prefix_is body n free D σ own P rest c g st f.1 (omega (arith, f.0)) (λ y. z (f.0 ∙ y)));
            },
          )

      one_is : (body : ℕ → Term) (n free D : ℕ) (σ : ℕ → ℕ) → OwnNamesIf n σ → (P : Term) (rest : List ℕ) → CallsAre arities body n called → InScope free arities D P
          → drop at s ≡ encode D P ++ rest → h.next ≡ at + length (front_bytes D P) → 5 ≤ tag P → (tag P ≡ 6 → ⊥) → (tag P ≡ 7 → ⊥) → (tag P ≡ 9 → ⊥) → Here body n D σ P p
      unfolding encode front_bytes fixed_bytes own_names InScope candidates
      one_is body n free D σ own nil rest c g e m l x y z = absurd (omega arith)
      one_is body n free D σ own (tau P) rest c g e m l x y z = absurd (omega arith)
      one_is body n free D σ own (inp a P) rest c g e m l x y z = absurd (omega arith)
      one_is body n free D σ own (out a b P) rest c g e m l x y z = absurd (omega arith)
      one_is body n free D σ own (bout a P) rest c g e m l x y z = absurd (omega arith)
      one_is body n free D σ own (mat a b P) rest c g e m l x y z =
          let w = C.is body n free D σ own P rest c g.2 (ap (λ (k : ℕ). drop k s) m ∙ behind s at 3 (5 ∷ name_byte D a ∷ name_byte D b ∷ []) (encode D P ++ rest) e refl) in
          (w.0 ∙ sym (number-mat body false n (σ a) (σ b) (ren σ P)), w.1 ∙ sym (number-mat body true n (σ a) (σ b) (ren σ P)), w.2 ∙ omega arith)
      one_is body n free D σ own (sum P Q) rest c g e m l x y z = absurd (x refl)
      one_is body n free D σ own (par P Q) rest c g e m l x y z = absurd (y refl)
      one_is body n free D σ own (res P) rest c g e m l x y z =
          let w = C.is body n free (1 + D) (lift σ) (own-under n σ own) P rest c g (ap (λ (k : ℕ). drop k s) m ∙ behind s at 1 (8 ∷ []) (encode (1 + D) P ++ rest) e refl) in
          (w.0 ∙ sym (number-res body false n (ren (lift σ) P)), w.1 ∙ sym (number-res body true n (ren (lift σ) P)), w.2 ∙ omega arith)
      one_is body n free D σ own (call k xs) rest c g e m l x y z = absurd (z refl)

      -- A match or a restriction.
      pub entry_one : 5 ≤ h.tag → (h.tag ≡ 6 → ⊥) → (h.tag ≡ 7 → ⊥) → (h.tag ≡ 9 → ⊥) → (at < p.end) × EntryIs s arities called at p
      entry_one l x y z =
          let i = F.inside in
          let j = F.some in
          let k = C.on in
          let o = C.inside in (
            omega arith,
            record {
              on = omega arith;
              inside = omega arith;
              few = λ B c. few_more B (p.end - h.next) (p.end - at) p.visible p.silent (closer at h.next p.end (omega arith)) (C.few B c);
              is = λ body n free D σ own P rest c g e.
                  let f = front free D P rest g e in
                  one_is body n free D σ own P rest c g e f.1 (omega (arith, f.0)) (λ q. x (f.0 ∙ q)) (λ q. y (f.0 ∙ q)) (λ q. z (f.0 ∙ q));
            },
          )

      module _ (x : Entry) (X : EntryIs s arities called p.end x) where
        -- The second subterm stands where the first ends.
        both_are : (body : ℕ → Term) (n free D : ℕ) (σ : ℕ → ℕ) → OwnNamesIf n σ → (P Q : Term) (rest : List ℕ) → CallsAre arities body n called → InScope free arities D P
            → InScope free arities D Q → drop h.next s ≡ encode D P ++ (encode D Q ++ rest)
            → ((p.visible ≡ length (visible body n (ren σ P))) × (x.visible ≡ length (visible body n (ren σ Q))))
            × ((p.silent ≡ length (silent body n (ren σ P))) × (x.silent ≡ length (silent body n (ren σ Q))))
            × (x.end ≡ h.next + (length (encode D P) + length (encode D Q)))
        both_are body n free D σ own P Q rest c g k e =
            let v = C.is body n free D σ own P (encode D Q ++ rest) c g e in
            let st : drop p.end s ≡ encode D Q ++ rest = ap (λ (n : ℕ). drop n s) v.2 ∙ behind s h.next (length (encode D P)) (encode D P) (encode D Q ++ rest) e refl in
            let w = X.is body n free D σ own Q rest c k st in
            ((v.0, w.0), (v.1, w.1), omega (arith, v.2, w.2))

        between : (h.tag ≡ 0 → ⊥) → (at < x.end) × (x.end ≤ max at (length s)) × (p.end - h.next + (x.end - p.end) ≤ x.end - at)
        between z =
            let i = F.inside in
            let j = F.some in
            let k = C.on in
            let o = C.inside in
            let k₂ = X.on in
            let o₂ = X.inside in
            (omega arith, omega arith, further at h.next p.end x.end (omega arith) k k₂)

        pub entry_choice : h.tag ≡ 6 → (at < x.end) × EntryIs s arities called at (choice_entry p x)
        unfolding choice_entry encode front_bytes fixed_bytes own_names InScope candidates
        entry_choice t =
            let b = between (λ z. omega arith) in (
              b.0,
              record {
                on = omega (arith, b.0);
                inside = b.1;
                few = λ B c. few_sum B (p.end - h.next) (x.end - p.end) (x.end - at) p.visible p.silent x.visible x.silent b.2 (C.few B c) (X.few B c);
                is = λ body n free D σ own P rest c g e.
                    let f = front free D P rest g e in
                    only_sum (λ (P : Term). InScope free arities D P → drop at s ≡ encode D P ++ rest → h.next ≡ at + length (front_bytes D P) → Here body n D σ P (choice_entry p x))
                    (λ P Q g e m.
                    let st = ap (λ (k : ℕ). drop k s) m ∙ behind s at 1 (6 ∷ []) ((encode D P ++ encode D Q) ++ rest) e refl ∙ append_assoc (encode D P) (encode D Q) rest in
                    let w = both_are body n free D σ own P Q rest c g.0 g.1 st in (
                      ap₂ ◌+◌ w.0.0 w.0.1 ∙ sym (number-sum body false n (ren σ P) (ren σ Q)),
                      ap₂ ◌+◌ w.1.0 w.1.1 ∙ sym (number-sum body true n (ren σ P) (ren σ Q)),
                      w.2 ∙ omega (arith, length-append (encode D P) (encode D Q)),
                    ))
                    P (sym f.0 ∙ t) g e f.1;
              },
            )

        pub entry_parallel : h.tag ≡ 7 → (at < x.end) × EntryIs s arities called at (parallel_entry p x)
        unfolding parallel_entry encode front_bytes fixed_bytes own_names InScope
        entry_parallel t =
            let b = between (λ z. omega arith) in (
              b.0,
              record {
                on = omega (arith, b.0);
                inside = b.1;
                few = λ B c. few_both B (p.end - h.next) (x.end - p.end) (x.end - at) p.visible p.silent x.visible x.silent b.2 (C.few B c) (X.few B c);
                is = λ body n free D σ own P rest c g e.
                    let f = front free D P rest g e in
                    only_par (λ (P : Term). InScope free arities D P → drop at s ≡ encode D P ++ rest → h.next ≡ at + length (front_bytes D P) → Here body n D σ P (parallel_entry p x))
                    (λ P Q g e m.
                    let st = ap (λ (k : ℕ). drop k s) m ∙ behind s at 1 (7 ∷ []) ((encode D P ++ encode D Q) ++ rest) e refl ∙ append_assoc (encode D P) (encode D Q) rest in
                    let w = both_are body n free D σ own P Q rest c g.0 g.1 st in (
                      ap₂ ◌+◌ w.0.0 w.0.1 ∙ sym (visible-par body n (ren σ P) (ren σ Q)),
                      ap₂ ◌+◌ (ap₂ ◌+◌ w.1.0 w.1.1) (ap₂ ◌*◌ w.0.0 w.0.1) ∙ sym (silent-par body n (ren σ P) (ren σ Q)),
                      w.2 ∙ omega (arith, length-append (encode D P) (encode D Q)),
                    ))
                    P (sym f.0 ∙ t) g e f.1;
              },
            )

-- An entry behind the place that is tallied next, or past the bytes.
pub tallied_is : (s arities called t : List ℕ) (from at : ℕ) → Filled s arities called from t → from ≤ at → EntryIs s arities called at (tallied_entry t at (length s))
unfolding tallied_entry Filled
tallied_is s arities called t from at F h = go (leb (length s) at) refl
  where
    go : (b : Bool) → leb (length s) at ≡ b → EntryIs s arities called at (cond b (nothing_at at) (entry_at t at))
    go true e = nothing_past s arities called at (leb-true (length s) at e)
    go false e = (F at h (leb-false (length s) at e)).1

-- The numbers of small entries fit a machine word.
pub sums_fit : (p q : Entry) → Small p → Small q → Fits w64 (p.visible + q.visible) × Fits w64 (p.silent + q.silent)
unfolding Small
sums_fit p q h k = (omega (arith, h.0, k.0), omega (arith, h.1, k.1))

pub meetings_fit : (p q : Entry) → Small p → Small q → Fits w64 (p.visible * q.visible) × Fits w64 (p.silent + q.silent + p.visible * q.visible)
unfolding Small
meetings_fit p q h k =
    let l = mul-le-mul h.0 k.0 in
    (omega (arith, l), omega (arith, h.1, k.1, l))

-- The entries of the subterms, read off the tally.
module _ (s arities called t : List ℕ) (at : ℕ) (h : TermFront) (F : TermFrontIs s at arities h) (T : Filled s arities called (1 + at) t) (z : h.tag ≡ 0 → ⊥) (p : Entry)
    (e : p ≡ tallied_entry t h.next (length s)) where
  pub front-behind : EntryIs s arities called h.next p
  front-behind =
      let j = F.some in
      subst (EntryIs s arities called h.next) (sym e) (tallied_is s arities called t (1 + at) h.next T (omega arith))

  pub second-behind : (x : Entry) → x ≡ tallied_entry t p.end (length s) → EntryIs s arities called p.end x
  second-behind x k =
      let j = F.some in
      let o = front-behind.on in
      subst (EntryIs s arities called p.end) (sym k) (tallied_is s arities called t (1 + at) p.end T (omega arith))

-- No term stands there.
pub entry-absent : (s arities called : List ℕ) (at : ℕ) → ((free D : ℕ) (P : Term) (rest : List ℕ) → InScope free arities D P → drop at s ≡ encode D P ++ rest → ⊥)
    → at < length s → (at < at + 1) × EntryIs s arities called at (nothing_at (at + 1))
entry-absent s arities called at none lt =
    entry-none s arities called at (record { tag = 0; next = at })
    (record { inside = omega arith; some = omega arith; is = λ free D P rest g e. absurd (none free D P rest g e) }) lt refl
