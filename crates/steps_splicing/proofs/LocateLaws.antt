-- The component that makes a candidate: from each parallel to the side that has it, and beneath each restriction. Assumes nothing.
use mathlib.Core.Path.{◌≡◌, refl, sym, ap, ◌∙◌}
use mathlib.Core.Bool.{false}
use mathlib.Core.List.{List, [], ◌∷◌, ◌++◌}
use Prim.Native.Nat.{ℕ, ◌+◌, ◌-◌, ◌<◌, ◌≤◌}
use native.Mathlib.Omega.{arith}
use lib.ListN.{length, get_or, drop, length-append, length-map}
use lib.Seq.{drop-drop}
use Rattle.calculus.specs.Term.{Term, par, res}
use Rattle.calculus.proofs.Renaming.{ren_id}
use Rattle.terms.specs.Answer.{result}
use Rattle.terms.specs.Encoding.{encode, InScope}
use Rattle.terms.specs.Limits.{name_count}
use Rattle.terms.specs.Question.{Question, check_of}
use Rattle.terms.specs.Question.{body_of}
use Rattle.steps_tallies.specs.Candidates.{candidates}
use Rattle.steps_passing.specs.Passing.{MiddleIs}
use Rattle.steps.specs.Raw.{Candidate, blocked, restricted, visible}
use Rattle.steps_tallies.specs.Tally.{visible_at, TallyIs}
use Rattle.steps_tallies.proofs.OwnNames.{own_part}
use Rattle.steps_tallies.proofs.CandidateForms.{candidates-res, tag_at, only_par, only_res}
use Rattle.steps_tallies.proofs.Numbering.{nth_restricted}
use Rattle.steps_passing.proofs.TwoSides.{sides_par, at_left, middle_is, behind}
use Rattle.steps_splicing.specs.Contexts.{left_of, right_of, beneath, fill, raised, level_in, before_in}
use Rattle.steps_splicing.specs.Locating.{Component, Leads}

module _ (s t : List ℕ) (at depth i : ℕ) where
  pub lead_start : Leads s t at depth i at depth i
  unfolding Leads fill raised level_in before_in
  lead_start question T q C rest ok scope st h =
      record { frames = []; term = C; rest = rest; whole = refl; level = refl; place = omega arith; scope = scope; stands = st; within = h; candidate = refl }

  module _ (a d n : ℕ) (L : Leads s t at depth i a d n) where
    pub lead_beneath : get_or s a 0 ≡ 8 → Leads s t at depth i (a + 1) (d + 1) n
    unfolding Leads encode InScope fill raised level_in before_in candidates
    lead_beneath g question T q C rest ok scope st h =
        let body = body_of q.bodies in
        let c = get_or (visible body 1 C) i blocked in
        let E = L question T q C rest ok scope st h in
        let K = E.frames in
        let u : 1 + d ≡ d + 1 = omega arith in
        only_res (λ D. fill K D ≡ C → InScope name_count q.arities d D → drop a s ≡ encode d D ++ E.rest → n < length (visible body 1 D)
        → c ≡ raised K (get_or (visible body 1 D) n blocked) → Component q s at depth C c (a + 1) (d + 1) n)
        (λ D w sc st l e.
        let f = candidates-res body false 1 D in
        let m : length (visible body 1 (res D)) ≡ length (visible body 1 D) = ap length f ∙ length-map (visible body 1 D) restricted in
        record {
          frames = beneath ∷ K;
          term = D;
          rest = E.rest;
          whole = w;
          level = omega (arith, E.level);
          place = omega (arith, E.place, length-append (before_in depth K) (8 ∷ []));
          scope = rw u at sc;
          stands = sym (drop-drop 1 a s) ∙ ap (drop 1) st ∙ ap (λ (n : ℕ). encode n D ++ E.rest) u;
          within = omega arith;
          candidate = e ∙ ap (λ (l : List Candidate). raised K (get_or l n blocked)) f ∙ ap (raised K) (nth_restricted (visible body 1 D) n);
        })
        E.term (sym (tag_at s a d E.term E.rest E.stands) ∙ g) E.whole E.scope E.stands E.within E.candidate

    -- How many visible candidates the term at b has.
    counts : (question : List ℕ) → TallyIs question s 1 t → (q : Question) (b : ℕ) (A : Term) (rest : List ℕ) → check_of question ≡ result q
        → InScope name_count q.arities d A → drop b s ≡ encode d A ++ rest → visible_at t b ≡ length (visible (body_of q.bodies) 1 A)
    counts question T q b A rest ok scope st =
        (T.is q b name_count d (λ n. n) (own_part 1) A rest ok scope st).0 ∙ ap (λ (B : Term). length (visible (body_of q.bodies) 1 B)) (ren_id A)

    module _ (g : get_or s a 0 ≡ 7) where
      pub lead_left : n < visible_at t (a + 1) → Leads s t at depth i (a + 1) d n
      unfolding Leads encode InScope fill raised level_in before_in candidates
      lead_left k question T q C rest ok scope st h =
          let body = body_of q.bodies in
          let c = get_or (visible body 1 C) i blocked in
          let E = L question T q C rest ok scope st h in
          let K = E.frames in
          only_par (λ D. fill K D ≡ C → InScope name_count q.arities d D → drop a s ≡ encode d D ++ E.rest
          → c ≡ raised K (get_or (visible body 1 D) n blocked) → Component q s at depth C c (a + 1) d n)
          (λ A B w sc st e.
          let S = sides_par body false 1 A B in
          let st₁ = at_left d s a A B E.rest 7 st in
          let m = counts question T q (a + 1) A (encode d B ++ E.rest) ok sc.0 st₁ in
          let l : n < length (visible body 1 A) = omega arith in
          record {
            frames = left_of B ∷ K;
            term = A;
            rest = encode d B ++ E.rest;
            whole = w;
            level = E.level;
            place = omega (arith, E.place, length-append (before_in depth K) (7 ∷ []));
            scope = sc.0;
            stands = st₁;
            within = l;
            candidate = e ∙ ap (raised K) (S.first n l);
          })
          E.term (sym (tag_at s a d E.term E.rest E.stands) ∙ g) E.whole E.scope E.stands E.candidate

      pub lead_right : visible_at t (a + 1) ≤ n → (m : ℕ) → MiddleIs s t a m → (j : ℕ) → j ≡ n - visible_at t (a + 1) → Leads s t at depth i m d j
      unfolding Leads encode InScope fill raised level_in before_in candidates
      lead_right k m N j J question T q C rest ok scope st h =
          let body = body_of q.bodies in
          let c = get_or (visible body 1 C) i blocked in
          let E = L question T q C rest ok scope st h in
          let K = E.frames in
          only_par (λ D. fill K D ≡ C → InScope name_count q.arities d D → drop a s ≡ encode d D ++ E.rest → n < length (visible body 1 D)
          → c ≡ raised K (get_or (visible body 1 D) n blocked) → Component q s at depth C c m d j)
          (λ A B w sc st l e.
          let S = sides_par body false 1 A B in
          let st₁ = at_left d s a A B E.rest 7 st in
          let p = counts question T q (a + 1) A (encode d B ++ E.rest) ok sc.0 st₁ in
          let i : n ≡ length (visible body 1 A) + j = omega arith in
          let f : j < length (visible body 1 B) = omega (arith, S.len) in
          let x : length (encode (level_in depth K) A) ≡ length (encode d A) = ap (λ (v : ℕ). length (encode v A)) E.level in
          let y = middle_is question s 1 t T a m N q name_count d (λ n. n) (own_part 1) A B E.rest ok sc.0 sc.1 st₁ in
          record {
            frames = right_of A ∷ K;
            term = B;
            rest = E.rest;
            whole = w;
            level = E.level;
            place = omega (arith, E.place, length-append (before_in depth K) (7 ∷ encode (level_in depth K) A));
            scope = sc.1;
            stands = behind question s 1 t T a m N q name_count d (λ n. n) (own_part 1) A B E.rest ok sc.0 sc.1 st₁;
            within = f;
            candidate = e ∙ ap (λ (v : ℕ). raised K (get_or (visible body 1 (par A B)) v blocked)) i ∙ ap (raised K) (S.second j f);
          })
          E.term (sym (tag_at s a d E.term E.rest E.stands) ∙ g) E.whole E.scope E.stands E.within E.candidate
