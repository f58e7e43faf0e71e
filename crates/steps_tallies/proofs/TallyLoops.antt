-- The tally filled from the last byte to the first, and the tallies of the bodies from the first definition to the last. Assumes nothing.
use mathlib.Core.Path.{◌≡◌, refl, sym, ap, subst, ◌∙◌}
use mathlib.Core.Bool.{Bool, true, false, cond}
use mathlib.Core.List.{List, [], ◌++◌, reverse, append-nil}
use mathlib.Core.Logic.{⊎_elim}
use Prim.Native.Nat.{ℕ, zero, suc, ◌+◌, ◌-◌, ◌*◌, ◌<◌, ◌≤◌}
use native.Mathlib.Decide.{ℕ_discrete}
use native.Mathlib.Nat.{eq-or-lt_of_le, mul-le-mul}
use native.Mathlib.Omega.{arith}
use lib.ListN.{length, get_or, set, take, drop, replicate, get_or-replicate, length-set, length-append, length-drop, get_or-append, get_or-eq_default, length-replicate}
use lib.Dec.{eqb, leb}
use lib.Seq.{get_or-set_same, get_or-set_other, get_or-append-add, get_or-take, get_or-drop, length-take-le, ext_get_or}
use borrow.Rule.Slice.PartMut.{put_mid, Post-is}
use borrow.Author.Tests.{eqb-true, eqb-false, leb-true, leb-false}
use mir.Val.{bool_byte}
use Rattle.calculus.specs.Term.{Term}
use Rattle.terms.specs.Answer.{result}
use Rattle.terms.specs.Encoding.{encode, InScope}
use Rattle.terms_bytes.specs.FieldPlaces.{definitions_of, size_at, after_field, field_at, field_place}
use Rattle.terms.specs.Limits.{longest_term, most_definitions}
use Rattle.terms.specs.Question.{Question, check_of}
use Rattle.terms.proofs.WellFormed.{accepted_well_formed}
use Rattle.steps_tallies.specs.Bodies.{AritiesIs, BodyIs, OpeningIs}
use Rattle.terms.specs.Question.{body_of}
use Rattle.steps_tallies.specs.Candidates.{candidates}
use Rattle.steps_tallies.specs.Tally.{tally_size, body_tallies, visible_at, silent_at, end_at, TallyIs, restricted_at, PartTallied, body_tally, visible_call, silent_call, Few, FewCalls, place_in, small_place, TalliedBelow, PlacesBelow, BodiesTallied}
use Rattle.steps_tallies.specs.Tallying.{CallsAre, EntryIs, entry_at, Filled}
use Rattle.steps_tallies.specs.declared.bodies.Opening.{Opening}
use Rattle.steps_tallies.specs.declared.tally.Entry.{Entry}
use Rattle.steps_tallies.proofs.BodyPlaces.{body_is}
use Rattle.steps_tallies.proofs.CallLaws.{body_scope, body-size, opened-candidates}
use Rattle.steps_tallies.proofs.CandidateForms.{candidates_no_call}
use Rattle.steps_tallies.proofs.OwnNames.{own_body}
use Rattle.steps_tallies.proofs.FrontLaws.{stands}

pub filled_none : (s arities called t : List ℕ) → Filled s arities called (length s) t
unfolding Filled
filled_none s arities called t i h k = absurd (omega arith)

-- The entry of one place more.
module _ (s arities called t : List ℕ) (at : ℕ) (r : Entry) (size : length t ≡ tally_size) (lt : at < longest_term) where
  abbrev pub stored : List ℕ
  stored = set (set (set t at r.visible) (longest_term + at) r.silent) (longest_term + longest_term + at) r.end

  pub stored-size : length stored ≡ tally_size
  stored-size =
      length-set (set (set t at r.visible) (longest_term + at) r.silent) (longest_term + longest_term + at) r.end
      ∙ length-set (set t at r.visible) (longest_term + at) r.silent ∙ length-set t at r.visible ∙ size

  -- what is read at an index
  elsewhere : (i : ℕ) → (i ≡ at → ⊥) → (i ≡ longest_term + at → ⊥) → (i ≡ longest_term + longest_term + at → ⊥) → get_or stored i 0 ≡ get_or t i 0
  elsewhere i a b c =
      get_or-set_other (set (set t at r.visible) (longest_term + at) r.silent) (longest_term + longest_term + at) i r.end 0 c
      ∙ get_or-set_other (set t at r.visible) (longest_term + at) i r.silent 0 b ∙ get_or-set_other t at i r.visible 0 a

  -- from here on the places are those behind
  module _ (i : ℕ) (on : at < i) (inside : i < longest_term) where
    same-entry : entry_at stored i ≡ entry_at t i
    unfolding entry_at visible_at silent_at end_at
    same-entry =
        let a = elsewhere i (λ z. omega arith) (λ z. omega arith) (λ z. omega arith) in
        let b = elsewhere (longest_term + i) (λ z. omega arith) (λ z. omega arith) (λ z. omega arith) in
        let c = elsewhere (longest_term + longest_term + i) (λ z. omega arith) (λ z. omega arith) (λ z. omega arith) in
        rw (a, b, c) refl

  new-entry : entry_at stored at ≡ r
  unfolding entry_at visible_at silent_at end_at
  new-entry =
      let l₁ = length-set t at r.visible in
      let l₂ = length-set (set t at r.visible) (longest_term + at) r.silent in
      let a : get_or stored at 0 ≡ r.visible =
      get_or-set_other (set (set t at r.visible) (longest_term + at) r.silent) (longest_term + longest_term + at) at r.end 0 (λ z. omega arith)
      ∙ get_or-set_other (set t at r.visible) (longest_term + at) at r.silent 0 (λ z. omega arith) ∙ get_or-set_same t at r.visible 0 (omega arith) in
      let b : get_or stored (longest_term + at) 0 ≡ r.silent =
      get_or-set_other (set (set t at r.visible) (longest_term + at) r.silent) (longest_term + longest_term + at) (longest_term + at) r.end 0 (λ z. omega arith)
      ∙ get_or-set_same (set t at r.visible) (longest_term + at) r.silent 0 (omega arith) in
      let c : get_or stored (longest_term + longest_term + at) 0 ≡ r.end =
      get_or-set_same (set (set t at r.visible) (longest_term + at) r.silent) (longest_term + longest_term + at) r.end 0 (omega arith) in
      rw (a, b, c) refl

  abbrev Behind : ℕ → Entry → Type 0
  Behind i r = (i < r.end) × EntryIs s arities called i r

  pub filled_more : length s ≤ longest_term → Filled s arities called (at + 1) t → (at < r.end) × EntryIs s arities called at r → Filled s arities called at stored
  unfolding Filled entry_at
  filled_more l F e i h k = ⊎_elim
      (λ (q : at ≡ i). subst (λ (i : ℕ). Behind i (entry_at stored i)) q (subst (Behind at) (sym new-entry) e))
      (λ (q : at < i). subst (Behind i) (sym (same-entry i q (omega arith))) (F i (omega arith) k))
      (eq-or-lt_of_le {n = at} {m = i} h)

-- The tally, from the numbers of the calls.
pub tally_is : (question s arities called t : List ℕ) (calls : ℕ) → AritiesIs question arities
    → ((q : Question) → check_of question ≡ result q → CallsAre q.arities (body_of q.bodies) calls called)
    → Filled s arities called 0 t → TallyIs question s calls t
unfolding AritiesIs Filled entry_at
tally_is question s arities called t calls A N F = record {
  on = λ i h. let e = F i (omega arith) h in let k = e.1.inside in (e.0, omega arith);
  is = λ q i free D σ own P rest c g e.
      let z = stands s i D P rest e in
      (F i (omega arith) (omega arith)).1.is (body_of q.bodies) calls free D σ own P rest
      (subst (λ (as' : List ℕ). CallsAre as' (body_of q.bodies) calls called) (sym (A q c)) (N q c))
      (subst (λ (as' : List ℕ). InScope free as' D P) (sym (A q c)) g) e;
}

-- Where no call may be opened, no call has candidates.
abbrev pub zeros : ℕ → List ℕ
zeros n = replicate n 0

all_zero : (n i : ℕ) → get_or (zeros n) i 0 ≡ 0
all_zero n i = go (leb n i) refl
  where
    go : (b : Bool) → leb n i ≡ b → get_or (zeros n) i 0 ≡ 0
    go true e = get_or-eq_default (zeros n) 0 (simp length-replicate (leb-true n i e))
    go false e = get_or-replicate n i 0 0 (leb-false n i e)

pub none_few : (n B : ℕ) → 1 ≤ B → FewCalls B (zeros n)
unfolding FewCalls Few visible_call silent_call visible_at silent_at
none_few n B h = (h, λ k. (omega (arith, all_zero n (tally_size * k)), omega (arith, all_zero n (longest_term + tally_size * k))))

none_are : (n : ℕ) (arities : List ℕ) (body : ℕ → Term) → CallsAre arities body 0 (zeros n)
unfolding CallsAre visible_call silent_call visible_at silent_at candidates
none_are n arities body k xs h =
    (all_zero n (tally_size * k) ∙ sym (ap length (candidates_no_call body false k xs)), all_zero n (longest_term + tally_size * k) ∙ sym (ap length (candidates_no_call body true k xs)))

-- Nothing stands where there are no bytes.
nothing_tallied : (question s t : List ℕ) → length s ≡ 0 → TallyIs question s 0 t
nothing_tallied question s t z = record {
  on = λ i h. absurd (omega arith);
  is = λ q i free D σ own P rest c g e. let h = stands s i D P rest e in absurd (omega arith);
}

-- The tally of one body.
length_tally : (l : List ℕ) → length l ≡ body_tallies → (i : ℕ) → i < most_definitions → length (body_tally l i) ≡ tally_size
unfolding body_tally
length_tally l z i h = length-take-le tally_size (drop (tally_size * i) l) (omega (arith, length-drop (tally_size * i) l))

pub at_tally : (l : List ℕ) (i j : ℕ) → j < tally_size → get_or (body_tally l i) j 0 ≡ get_or l (tally_size * i + j) 0
unfolding body_tally
at_tally l i j h = get_or-take tally_size (drop (tally_size * i) l) j 0 h ∙ get_or-drop (tally_size * i) l j 0

-- the part that is lent
pub part_size : (t : List ℕ) → length t ≡ body_tallies → (k : ℕ) → k < most_definitions → length (take (tally_size * k + tally_size - tally_size * k) (drop (tally_size * k) t)) ≡ tally_size
part_size t z k h = length-take-le (tally_size * k + tally_size - tally_size * k) (drop (tally_size * k) t) (omega (arith, length-drop (tally_size * k) t)) ∙ omega arith

-- The tallies of the bodies, from the first on.
pub tallied-none : (question : List ℕ) → TalliedBelow question 0 (zeros body_tallies)
tallied-none question = record { size = length-replicate {A = ℕ} body_tallies 0; few = none_few body_tallies longest_term (omega arith); are = λ k l m. absurd (omega arith) }

module _ (question t : List ℕ) (k : ℕ) (N : TalliedBelow question k t) (body : List ℕ) (B : BodyIs question k body) where
  -- what holds of body k and of the bodies below holds of all up to k
  up_to : (S : ℕ → Type 0) → S k → ((i : ℕ) → i < k → S i) → (i : ℕ) → i < k + 1 → S i
  up_to S new old i h = ⊎_elim (λ (q : i ≡ k). subst S (sym q) new) (old i) (eq-or-lt_of_le {n = i} {m = k} (omega arith))

  abbrev Tallied : List ℕ → ℕ → Type 0
  Tallied t i = length (field_at question (field_place question i)) ≤ longest_term → TallyIs question (field_at question (field_place question i)) 0 (body_tally t i)

  pub tallied-empty : length body ≡ 0 → TalliedBelow question (k + 1) t
  tallied-empty z = record {
    size = N.size;
    few = N.few;
    are = up_to (Tallied t) (λ m. nothing_tallied question _ _ (sym (ap length B.piece) ∙ z)) N.are;
  }

  pub tallied_long : longest_term < length body → TalliedBelow question (k + 1) t
  tallied_long h = record { size = N.size; few = N.few; are = up_to (Tallied t) (λ m. absurd (omega (arith, ap length B.piece))) N.are }

  -- A tally more, in the place of body k.
  module _ (lt : k < most_definitions) (arities : List ℕ) (A : AritiesIs question arities) (some : (length body ≡ 0) → ⊥) (short : length body ≤ longest_term)
      (piece : List ℕ) (F : Filled body arities (zeros 1) 0 piece) (sized : length piece ≡ tally_size) where
    abbrev after : List ℕ
    after = put_mid (tally_size * k) (tally_size * k + tally_size - tally_size * k) t piece

    E : after ≡ take (tally_size * k) t ++ (piece ++ drop (tally_size * k + tally_size) t)
    E = ap (λ (l : List ℕ). take (tally_size * k) t ++ (piece ++ l)) (Post-is (tally_size * k) (tally_size * k + tally_size) t (omega arith))

    head_size : length (take (tally_size * k) t) ≡ tally_size * k
    head_size = length-take-le (tally_size * k) t (omega (arith, N.size))

    within : (j : ℕ) → j < tally_size → get_or after (tally_size * k + j) 0 ≡ get_or piece j 0
    within j h =
        ap (λ (l : List ℕ). get_or l (tally_size * k + j) 0) E
        ∙ ap (λ (n : ℕ). get_or (take (tally_size * k) t ++ (piece ++ drop (tally_size * k + tally_size) t)) (n + j) 0) (sym head_size)
        ∙ get_or-append-add (take (tally_size * k) t) (piece ++ drop (tally_size * k + tally_size) t) j 0
        ∙ get_or-append piece (drop (tally_size * k + tally_size) t) 0 j (omega arith)

    below : (j : ℕ) → j < tally_size * k → get_or after j 0 ≡ get_or t j 0
    below j h =
        ap (λ (l : List ℕ). get_or l j 0) E
        ∙ get_or-append (take (tally_size * k) t) (piece ++ drop (tally_size * k + tally_size) t) 0 j (omega (arith, head_size))
        ∙ get_or-take (tally_size * k) t j 0 h

    above : (j : ℕ) → get_or after (tally_size * k + tally_size + j) 0 ≡ get_or t (tally_size * k + tally_size + j) 0
    above j =
        ap (λ (l : List ℕ). get_or l (tally_size * k + tally_size + j) 0) E
        ∙ ap (λ (n : ℕ). get_or (take (tally_size * k) t ++ (piece ++ drop (tally_size * k + tally_size) t)) n 0) (omega (arith, head_size, sized))
        ∙ get_or-append-add (take (tally_size * k) t) (piece ++ drop (tally_size * k + tally_size) t) (length piece + j) 0
        ∙ get_or-append-add piece (drop (tally_size * k + tally_size) t) j 0
        ∙ get_or-drop (tally_size * k + tally_size) t j 0

    after-size : length after ≡ body_tallies
    after-size =
        ap length E
        ∙ omega (
          arith,
          length-append (take (tally_size * k) t) (piece ++ drop (tally_size * k + tally_size) t),
          length-append piece (drop (tally_size * k + tally_size) t),
          length-drop (tally_size * k + tally_size) t,
          head_size,
          sized,
          N.size,
        )

    -- the places of another body, whose number is less or greater
    other-body : (i j : ℕ) → (i ≡ k → ⊥) → j < tally_size → get_or after (tally_size * i + j) 0 ≡ get_or t (tally_size * i + j) 0
    other-body i j h l = go (leb k i) refl
      where
        go : (b : Bool) → leb k i ≡ b → get_or after (tally_size * i + j) 0 ≡ get_or t (tally_size * i + j) 0
        go true e =
            let o : k < i = omega (arith, h, leb-true k i e) in
            let n : tally_size * k + tally_size + (tally_size * i + j - (tally_size * k + tally_size)) ≡ tally_size * i + j = omega arith in
            subst (λ (n : ℕ). get_or after n 0 ≡ get_or t n 0) n (above (tally_size * i + j - (tally_size * k + tally_size)))
        go false e = below (tally_size * i + j) (let o = leb-false k i e in omega arith)

    same_tally : (i : ℕ) → i < k → body_tally t i ≡ body_tally after i
    same_tally i h =
        let a = length_tally t N.size i (omega arith) in
        let b = length_tally after after-size i (omega arith) in
        ext_get_or 0 (body_tally t i) (body_tally after i) (a ∙ sym b)
        (λ j l. at_tally t i j (omega arith) ∙ sym (other-body i j (λ z. omega arith) (omega arith)) ∙ sym (at_tally after i j (omega arith)))

    new_tally : piece ≡ body_tally after k
    new_tally =
        ext_get_or 0 piece (body_tally after k) (sized ∙ sym (length_tally after after-size k lt))
        (λ j l. sym (within j (omega arith)) ∙ sym (at_tally after k j (omega arith)))

    few_after : (i : ℕ) → Few longest_term 1 (visible_call after i) (silent_call after i)
    unfolding Few FewCalls visible_call silent_call visible_at silent_at Filled entry_at
    few_after i = go (eqb i k) refl
      where
        Fews : ℕ → ℕ → Type 0
        Fews v w = (v ≤ longest_term * 1) × (w ≤ longest_term * 1 * (longest_term * 1))

        go : (b : Bool) → eqb i k ≡ b → Fews (get_or after (tally_size * i) 0) (get_or after (longest_term + tally_size * i) 0)
        go true e =
            let f = (F 0 (omega arith) (omega (arith, some))).1 in
            let g = f.few 1 (none_few 1 1 (omega arith)) in
            let o = f.inside in
            let u : 1 * (end_at piece 0 - 0) ≤ longest_term * 1 = omega arith in
            let z = eqb-true i k e in
            let v : get_or after (tally_size * i) 0 ≡ get_or piece 0 0 = ap (λ (n : ℕ). get_or after n 0) (omega arith) ∙ within 0 (omega arith) in
            let w : get_or after (longest_term + tally_size * i) 0 ≡ get_or piece (longest_term + 0) 0 =
            ap (λ (n : ℕ). get_or after n 0) (omega arith) ∙ within (longest_term + 0) (omega arith) in
            (omega (arith, g.0, v), omega (arith, g.1, w, mul-le-mul u u))
        go false e =
            let h = eqb-false i k e in
            let v : get_or after (tally_size * i) 0 ≡ get_or t (tally_size * i) 0 =
            subst (λ (n : ℕ). get_or after n 0 ≡ get_or t n 0) (omega arith) (other-body i 0 h (omega arith)) in
            let w : get_or after (longest_term + tally_size * i) 0 ≡ get_or t (longest_term + tally_size * i) 0 =
            subst (λ (n : ℕ). get_or after n 0 ≡ get_or t n 0) (omega arith) (other-body i longest_term h (omega arith)) in
            (omega (arith, v, (N.few.1 i).0), omega (arith, w, (N.few.1 i).1))

    pub tallied-more : TalliedBelow question (k + 1) after
    unfolding FewCalls
    tallied-more = record {
      size = after-size;
      few = (N.few.0, few_after);
      are = up_to (Tallied after)
          (λ m. subst (λ (s : List ℕ). TallyIs question s 0 (body_tally after k)) B.piece
          (subst (TallyIs question body 0) new_tally (tally_is question body arities (zeros 1) piece 0 A (λ q c. none_are 1 q.arities (body_of q.bodies)) F)))
          (λ i h m. subst (TallyIs question (field_at question (field_place question i)) 0) (same_tally i h) (N.are i h m));
    }

-- A number more in a tally says nothing of the candidates.
pub tally_same : (question s : List ℕ) (calls : ℕ) (t t' : List ℕ) → length s ≤ longest_term → ((i : ℕ) → i < 336 → get_or t' i 0 ≡ get_or t i 0)
    → TallyIs question s calls t → TallyIs question s calls t'
unfolding visible_at silent_at end_at
tally_same question s calls t t' few same T = record {
  on = λ i h. rw (same (longest_term + longest_term + i) (omega arith)) (T.on i h);
  is = λ q i free D σ own P rest c g e.
      let h = stands s i D P rest e in
      let (a, b, d) = T.is q i free D σ own P rest c g e in
      (same i (omega arith) ∙ a, same (longest_term + i) (omega arith) ∙ b, same (longest_term + longest_term + i) (omega arith) ∙ d);
}

-- The place of a body put into its tally.
module _ (question t : List ℕ) (k : ℕ) (inside : k < most_definitions) (N : TalliedBelow question most_definitions t) (L : PlacesBelow question k t) where
  placed-other : (v i : ℕ) → (i ≡ place_in k → ⊥) → get_or (set t (place_in k) v) i 0 ≡ get_or t i 0
  placed-other v i h = get_or-set_other t (place_in k) i v 0 h

  pub placed-tallied : (v : ℕ) → TalliedBelow question most_definitions (set t (place_in k) v)
  unfolding FewCalls Few visible_call silent_call visible_at silent_at
  placed-tallied v = record {
    size = length-set t (place_in k) v ∙ N.size;
    few = (N.few.0, λ j. rw (placed-other v (tally_size * j) (λ z. omega arith), placed-other v (longest_term + tally_size * j) (λ z. omega arith)) (N.few.1 j));
    are = λ j h m.
        tally_same question (field_at question (field_place question j)) 0 (body_tally t j) (body_tally (set t (place_in k) v) j) m
        (λ i l. at_tally (set t (place_in k) v) j i (omega arith) ∙ placed-other v (tally_size * j + i) (λ z. omega arith) ∙ sym (at_tally t j i (omega arith)))
        (N.are j h m);
  }

  pub placed-more : (place : ℕ) → place ≡ field_place question k → PlacesBelow question (k + 1) (set t (place_in k) place)
  unfolding PlacesBelow
  placed-more place e j h l = go (ℕ_discrete j k)
    where
      go : Dec (j ≡ k) → get_or (set t (place_in k) place) (place_in j) 0 ≡ field_place question j
      go (yes z) = rw z (get_or-set_same t (place_in k) place 0 (omega (arith, N.size)) ∙ e)
      go (no z) = placed-other place (place_in j) (λ y. z (omega arith)) ∙ L j (omega arith) l

  pub placed_large : (place : ℕ) → place ≡ field_place question k → small_place ≤ place → PlacesBelow question (k + 1) t
  unfolding PlacesBelow
  placed_large place e far j h l = go (ℕ_discrete j k)
    where
      go : Dec (j ≡ k) → get_or t (place_in j) 0 ≡ field_place question j
      go (yes z) = absurd (omega (arith, e, far, subst (λ i. field_place question i < small_place) z l))
      go (no z) = L j (omega arith) l

pub no_place : (question t : List ℕ) → PlacesBelow question 0 t
unfolding PlacesBelow
no_place question t j h l = absurd (omega arith)

-- Places are not far behind the question.
place_below : (question : List ℕ) (k : ℕ) → field_place question k ≤ 2 + definitions_of question + length question
unfolding field_place after_field
place_below question zero = omega arith
place_below question (suc k) = go (leb (field_place question k + (size_at question (field_place question k) + 2)) (length question)) refl
  where
    go : (b : Bool) → leb (field_place question k + (size_at question (field_place question k) + 2)) (length question) ≡ b
        → cond b (field_place question k + (size_at question (field_place question k) + 2)) (length question + 1) ≤ 2 + definitions_of question + length question
    go true e = omega (arith, leb-true (field_place question k + (size_at question (field_place question k) + 2)) (length question) e)
    go false e = omega arith

pub place_there : (question t : List ℕ) (k : ℕ) → BodiesTallied question t → k < most_definitions → definitions_of question < 256 → length question + 258 < small_place
    → get_or t (place_in k) 0 ≡ field_place question k
unfolding PlacesBelow
place_there question t k N h d l = N.places k h (omega (arith, place_below question k))

-- The numbers of a call are those of its body.
pub calls_are : (question t : List ℕ) → BodiesTallied question t → (q : Question) → check_of question ≡ result q → CallsAre q.arities (body_of q.bodies) 1 t
unfolding CallsAre visible_call silent_call visible_at silent_at body_tally candidates
calls_are question t N q c k xs l =
    let P = body_of q.bodies k in
    let a = get_or q.arities k 0 in
    let e = (body_is question k).is q c l in
    let w = (N.are k (omega (arith, (accepted_well_formed question q c).definitions)) (omega (arith, ap length e, body-size question q c k))).is q 0 0 a
    (λ (n : ℕ). get_or (reverse xs) n 0) (own_body 1 (λ (n : ℕ). get_or (reverse xs) n 0) (omega arith)) P [] c (body_scope question q c k) (e ∙ sym (append-nil (encode a P))) in
    let at : (j : ℕ) → j < tally_size → get_or t (tally_size * k + j) 0 ≡ get_or (take tally_size (drop (tally_size * k) t)) j 0 =
    λ j h. sym (get_or-take tally_size (drop (tally_size * k) t) j 0 h ∙ get_or-drop (tally_size * k) t j 0) in (
      ap (λ (n : ℕ). get_or t n 0) (omega arith) ∙ at 0 (omega arith) ∙ w.0 ∙ sym (ap length (opened-candidates question q c k 1 0 (omega arith) refl false xs)),
      ap (λ (n : ℕ). get_or t n 0) (omega arith) ∙ at (longest_term + 0) (omega arith) ∙ w.1 ∙ sym (ap length (opened-candidates question q c k 1 0 (omega arith) refl true xs)),
    )

-- The tally of the body of a call that is opened.
pub called_tally : (question bodies s : List ℕ) (at calls : ℕ) → BodiesTallied question bodies → (o : Opening) → OpeningIs question s at calls o
    → calls ≤ 1 → (body : List ℕ) → BodyIs question o.definition body → (t : List ℕ) → t ≡ body_tally bodies o.definition → (n : ℕ) → n ≡ calls - 1
    → TallyIs question body n t
called_tally question bodies s at calls N o O l body B t e n z =
    let m = O.may in
    let y : 0 ≡ n = omega (arith, m) in
    subst (λ (n : ℕ). TallyIs question body n t) y
    (subst (TallyIs question body 0) (sym e) (subst (λ (s : List ℕ). TallyIs question s 0 (body_tally bodies o.definition)) (sym B.piece) (N.are o.definition m.3 m.2)))

-- A truth value as a number.
pub no_byte : (b : Bool) → bool_byte b ≡ 0 → b ≡ false
no_byte true e = absurd (omega arith)
no_byte false e = refl

-- The tally of a part, with a number put behind it.
pub part_tallied : (question s : List ℕ) (restricted : Bool) (t : List ℕ) (v : ℕ) → length s ≤ longest_term → length t ≡ tally_size → TallyIs question s 1 t
    → (v ≡ 0 → restricted ≡ false) → PartTallied question s restricted (set t restricted_at v)
part_tallied question s restricted t v short size T known = record {
  is = tally_same question s 1 t (set t restricted_at v) short (λ i l. get_or-set_other t restricted_at i v 0 (λ z. omega arith)) T;
  noted = λ z. known (sym (get_or-set_same t restricted_at v 0 (omega arith)) ∙ z);
}
