-- Check 4 at places: the fields of a list of bytes are framed exactly if the place behind the apart list is the end of the question, and then they
-- are those at their places.
use mathlib.Core.Path.{◌≡◌, refl, sym, ap, ap₂, ◌∙◌}
use mathlib.Core.Bool.{Bool, true, false}
use mathlib.Core.List.{List, [], ◌∷◌}
use Prim.Native.Nat.{ℕ, zero, suc, ◌+◌, ◌-◌, ◌≤◌, ◌<◌}
use native.Mathlib.Nat.{zero-add, add-zero}
use native.Mathlib.Omega.{arith}
use lib.ListN.{length, get_or, take, drop, length-take, length-drop}
use lib.Seq.{drop-drop}
use lib.Dec.{ltb, leb, eqb}
use borrow.Author.Tests.{lt-ltb, leb-true, leb-false, le-leb, lt-leb, ne_eqb}
use Rattle.terms.specs.Answer.{Answer, refused, result, ◌>>=◌, ◌>>◌, need}
use Rattle.terms_checks.specs.Checking.{fields_from, first_place, second_place, apart_place, fields_at}
use Rattle.terms_bytes.specs.FieldPlaces.{definitions_of, arities_of, size_at, after_field, field_at, field_place}
use Rattle.terms.specs.Framing.{cut, field, fields, Fields, framed}
use Rattle.terms.proofs.Answers.{bind_to, bind-refused, need-passed}
use Rattle.terms_bytes.proofs.Places.{after_held, field_held, held_of_after, past_of-after}
use Rattle.terms_scanning.proofs.ScanLaws.{drop_here}

-- The places that the code finds one after another.
module _ (s : List ℕ) (n first second apart : ℕ) (count : n ≡ definitions_of s) (one : first ≡ field_place s n) where
  pub first_place_lem : first ≡ first_place s
  unfolding first_place
  first_place_lem = one ∙ ap (field_place s) count

  module _ (two : second ≡ after_field s first) where
    pub second_place_lem : second ≡ second_place s
    unfolding second_place
    second_place_lem = two ∙ ap (after_field s) first_place_lem

    pub apart_place_lem : apart ≡ after_field s second → apart ≡ apart_place s
    unfolding apart_place
    apart_place_lem three = three ∙ ap (after_field s) second_place_lem

module _ (s : List ℕ) (bytes : (i : ℕ) → get_or s i 0 < 256) where
  -- A cut behind a position.
  cut_there : (n at : ℕ) → at + n ≤ length s → cut n (drop at s) ≡ result (take n (drop at s), drop (at + n) s)
  unfolding cut
  cut_there n at h = rw (le-leb n (length (drop at s)) (omega (arith, length-drop at s)), drop-drop)

  cut-missing : (n at : ℕ) → length s - at < n → cut n (drop at s) ≡ refused 4
  unfolding cut
  cut-missing n at h = rw (lt-leb n (length (drop at s)) (omega (arith, length-drop at s)))

  size-bytes : (at : ℕ) → at + 2 ≤ length s → take 2 (drop at s) ≡ get_or s at 0 ∷ get_or s (at + 1) 0 ∷ []
  size-bytes at h = rw (drop_here s at (omega arith), drop_here s (at + 1) (omega arith))

  low_passed : (at : ℕ) → ltb (get_or s (at + 1) 0) 256 ≡ true
  low_passed at = lt-ltb (get_or s (at + 1) 0) 256 (bytes (at + 1))

  -- A field that begins at a position.
  module _ (at : ℕ) where
    sized_there : at + (size_at s at + 2) ≤ length s → cut (size_at s at) (drop (at + 2) s) ≡ result (field_at s at, drop (after_field s at) s)
    sized_there h =
        let e : at + 2 + size_at s at ≡ at + (size_at s at + 2) = omega arith in
        rw (field_held s at h, after_held s at h, ← e) (cut_there (size_at s at) (at + 2) (omega arith))

    field_there : at + (size_at s at + 2) ≤ length s → field (drop at s) ≡ result (field_at s at, drop (after_field s at) s)
    unfolding field size_at
    field_there h =
        bind_to _ (cut_there 2 at (omega arith))
        ∙ rw (size-bytes at (omega arith)) (need-passed 4 (ltb (get_or s (at + 1) 0) 256) _ (low_passed at) ∙ sized_there h)

    field-missing : length s < at + (size_at s at + 2) → field (drop at s) ≡ refused 4
    unfolding field size_at
    field-missing h = go (leb (at + 2) (length s)) refl
      where
        go : (t : Bool) → leb (at + 2) (length s) ≡ t → field (drop at s) ≡ refused 4
        go true e =
            let l = leb-true (at + 2) (length s) e in
            bind_to _ (cut_there 2 at l)
            ∙ rw (size-bytes at l) (need-passed 4 (ltb (get_or s (at + 1) 0) 256) _ (low_passed at) ∙ cut-missing _ (at + 2) (omega arith))
        go false e = let l = leb-false (at + 2) (length s) e in bind-refused _ (cut-missing 2 at (omega arith))

  -- Fields one after another.
  after_fields : ℕ → ℕ → ℕ
  after_fields at zero = at
  after_fields at (suc m) = after_fields (after_field s at) m

  begins_within : (m at : ℕ) → after_fields at m ≤ length s → at ≤ length s
  unfolding after_fields
  begins_within zero at h = h
  begins_within (suc m) at h =
      let l = held_of_after s at (begins_within m (after_field s at) h) in
      omega arith

  fields_there : (m at : ℕ) → after_fields at m ≤ length s → fields m (drop at s) ≡ result (fields_from s at m, drop (after_fields at m) s)
  unfolding after_fields fields fields_from
  fields_there zero at h = refl
  fields_there (suc m) at h =
      let l = held_of_after s at (begins_within m (after_field s at) h) in
      bind_to _ (field_there at l) ∙ bind_to _ (fields_there m (after_field s at) h)

  fields-missing : (m at : ℕ) → at ≤ length s → length s < after_fields at m → fields m (drop at s) ≡ refused 4
  unfolding after_fields fields
  fields-missing zero at l h = absurd (omega arith)
  fields-missing (suc m) at l h = go (leb (after_field s at) (length s)) refl (λ k. fields-missing m (after_field s at) k h)
    where
      go : (t : Bool) → leb (after_field s at) (length s) ≡ t →
          (after_field s at ≤ length s → fields m (drop (after_field s at) s) ≡ refused 4) → fields (suc m) (drop at s) ≡ refused 4
      go true e later =
          let k = leb-true (after_field s at) (length s) e in
          bind_to _ (field_there at (held_of_after s at k)) ∙ bind-refused _ (later k)
      go false e later = bind-refused _ (field-missing at (past_of-after s at (leb-false (after_field s at) (length s) e)))

  places_follow : (m k : ℕ) → after_fields (field_place s k) m ≡ field_place s (k + m)
  unfolding after_fields field_place
  places_follow zero k = ap (field_place s) (sym (add-zero k))
  places_follow (suc m) k =
      let e : suc k + m ≡ k + suc m = omega arith in
      places_follow m (suc k) ∙ ap (field_place s) e

  -- The arities.
  module _ (h : 2 + definitions_of s ≤ length s) where
    count_there : cut 1 (drop 1 s) ≡ result (definitions_of s ∷ [], drop 2 s)
    unfolding definitions_of
    count_there = cut_there 1 1 (omega arith) ∙ rw (drop_here s 1 (omega arith))

    arities_there : arities_of s ≡ take (definitions_of s) (drop 2 s)
    unfolding arities_of
    arities_there = rw (le-leb (2 + definitions_of s) (length s) h)

    arities_count : length (arities_of s) ≡ definitions_of s
    arities_count = rw (arities_there, length-take) (omega (arith, length-drop 2 s))

  first_follows : after_fields (field_place s 0) (definitions_of s) ≡ first_place s
  unfolding first_place
  first_follows = places_follow (definitions_of s) 0 ∙ ap (field_place s) (zero-add (definitions_of s))

  -- Up to the first part.
  abbrev behind_bodies : List ℕ → List (List ℕ) → List ℕ → Answer Fields
  behind_bodies arities bodies bs = do
    (first, bs) ← field bs
    (second, bs) ← field bs
    (apart, bs) ← field bs
    need 4 (eqb (length bs) 0)
    result (record { arities = arities; bodies = bodies; first = first; second = second; apart = apart })

  arities_stage : field_place s 0 ≤ length s → framed (drop 1 s)
      ≡ (fields (definitions_of s) (drop (field_place s 0) s) >>= λ x. behind_bodies (arities_of s) x.0 x.1)
  unfolding framed field_place
  arities_stage h =
      bind_to _ (count_there h) ∙ bind_to _ (cut_there (definitions_of s) 2 h)
      ∙ ap (λ l. fields (definitions_of s) (drop (field_place s 0) s) >>= λ x. behind_bodies l x.0 x.1) (sym (arities_there h))

  short_arities : 0 < length s → length s < field_place s 0 → framed (drop 1 s) ≡ refused 4
  unfolding framed field_place definitions_of
  short_arities o h = go (leb 2 (length s)) refl
    where
      go : (t : Bool) → leb 2 (length s) ≡ t → framed (drop 1 s) ≡ refused 4
      go true e =
          let l = leb-true 2 (length s) e in
          bind_to _ (cut_there 1 1 (omega arith)) ∙ rw (drop_here s 1 (omega arith)) (bind-refused _ (cut-missing (definitions_of s) 2 (omega arith)))
      go false e = let l = leb-false 2 (length s) e in bind-refused _ (cut-missing 1 1 (omega arith))

  module _ (h : first_place s ≤ length s) where
    ends : after_fields (field_place s 0) (definitions_of s) ≤ length s
    ends = omega (arith, first_follows)

    begins : field_place s 0 ≤ length s
    begins = begins_within (definitions_of s) (field_place s 0) ends

    counted : length (arities_of s) ≡ definitions_of s
    unfolding field_place
    counted = arities_count begins

    bodies_there : framed (drop 1 s)
        ≡ behind_bodies (arities_of s) (fields_from s (field_place s 0) (length (arities_of s))) (drop (first_place s) s)
    bodies_there =
        arities_stage begins ∙ bind_to _ (fields_there (definitions_of s) (field_place s 0) ends)
        ∙ ap₂ (λ m p. behind_bodies (arities_of s) (fields_from s (field_place s 0) m) (drop p s)) (sym counted) first_follows

  bodies_missing : field_place s 0 ≤ length s → length s < first_place s → framed (drop 1 s) ≡ refused 4
  bodies_missing l h =
      arities_stage l ∙ bind-refused _ (fields-missing (definitions_of s) (field_place s 0) l (omega (arith, first_follows)))

  -- The three fields that are left.
  module _ (a : List ℕ) (b : List (List ℕ)) where
    abbrev last_at : Answer Fields
    last_at = behind_bodies a b (drop (first_place s) s)

    abbrev made_at : Fields
    made_at =
        record {
          arities = a;
          bodies = b;
          first = field_at s (first_place s);
          second = field_at s (second_place s);
          apart = field_at s (apart_place s);
        }

    first-missing : length s < second_place s → last_at ≡ refused 4
    unfolding second_place
    first-missing h = bind-refused _ (field-missing (first_place s) (past_of-after s (first_place s) h))

    module _ (one : second_place s ≤ length s) where
      second-missing : length s < apart_place s → last_at ≡ refused 4
      unfolding second_place apart_place
      second-missing h =
          bind_to _ (field_there (first_place s) (held_of_after s (first_place s) one))
          ∙ bind-refused _ (field-missing (second_place s) (past_of-after s (second_place s) h))

      module _ (two : apart_place s ≤ length s) where
        apart_missing : length s < after_field s (apart_place s) → last_at ≡ refused 4
        unfolding second_place apart_place
        apart_missing h =
            bind_to _ (field_there (first_place s) (held_of_after s (first_place s) one))
            ∙ bind_to _ (field_there (second_place s) (held_of_after s (second_place s) two))
            ∙ bind-refused _ (field-missing (apart_place s) (past_of-after s (apart_place s) h))

        last_there : after_field s (apart_place s) ≤ length s →
            last_at ≡ (need 4 (eqb (length (drop (after_field s (apart_place s)) s)) 0) >> result made_at)
        unfolding second_place apart_place
        last_there h =
            bind_to _ (field_there (first_place s) (held_of_after s (first_place s) one))
            ∙ bind_to _ (field_there (second_place s) (held_of_after s (second_place s) two))
            ∙ bind_to _ (field_there (apart_place s) (held_of_after s (apart_place s) h))

  within_apart : after_field s (apart_place s) ≤ length s → apart_place s ≤ length s
  within_apart h = let l = held_of_after s (apart_place s) h in omega arith

  within_second : apart_place s ≤ length s → second_place s ≤ length s
  unfolding apart_place
  within_second h = let l = held_of_after s (second_place s) h in omega arith

  within_first : second_place s ≤ length s → first_place s ≤ length s
  unfolding second_place
  within_first h = let l = held_of_after s (first_place s) h in omega arith

  pub framed_there : after_field s (apart_place s) ≡ length s → framed (drop 1 s) ≡ result (fields_at s)
  unfolding fields_at need ◌>>◌
  framed_there whole =
      let h : after_field s (apart_place s) ≤ length s = omega arith in
      let two = within_apart h in
      let one = within_second two in
      let z : length (drop (after_field s (apart_place s)) s) ≡ 0 = omega (arith, length-drop (after_field s (apart_place s)) s) in
      bodies_there (within_first one) ∙ last_there (arities_of s) _ one two h ∙ rw z

  pub framed_not : 0 < length s → (after_field s (apart_place s) ≡ length s → ⊥) → framed (drop 1 s) ≡ refused 4
  unfolding need ◌>>◌
  framed_not o n = at_arities (leb (field_place s 0) (length s)) refl
    where
      at_end : after_field s (apart_place s) ≤ length s → framed (drop 1 s) ≡ refused 4
      at_end h =
          let two = within_apart h in
          let one = within_second two in
          bodies_there (within_first one) ∙ last_there (arities_of s) _ one two h
          ∙ rw (ne_eqb (length (drop (after_field s (apart_place s)) s)) 0 (λ z. n (omega (arith, length-drop (after_field s (apart_place s)) s))))

      at_apart : (t : Bool) → leb (after_field s (apart_place s)) (length s) ≡ t → apart_place s ≤ length s → framed (drop 1 s) ≡ refused 4
      at_apart true e two = at_end (leb-true (after_field s (apart_place s)) (length s) e)
      at_apart false e two =
          let one = within_second two in
          bodies_there (within_first one) ∙ apart_missing (arities_of s) _ one two (leb-false (after_field s (apart_place s)) (length s) e)

      at_second : (t : Bool) → leb (apart_place s) (length s) ≡ t → second_place s ≤ length s → framed (drop 1 s) ≡ refused 4
      at_second true e one = at_apart (leb (after_field s (apart_place s)) (length s)) refl (leb-true (apart_place s) (length s) e)
      at_second false e one = bodies_there (within_first one) ∙ second-missing (arities_of s) _ one (leb-false (apart_place s) (length s) e)

      at_first : (t : Bool) → leb (second_place s) (length s) ≡ t → first_place s ≤ length s → framed (drop 1 s) ≡ refused 4
      at_first true e h = at_second (leb (apart_place s) (length s)) refl (leb-true (second_place s) (length s) e)
      at_first false e h = bodies_there h ∙ first-missing (arities_of s) _ (leb-false (second_place s) (length s) e)

      at_bodies : (t : Bool) → leb (first_place s) (length s) ≡ t → field_place s 0 ≤ length s → framed (drop 1 s) ≡ refused 4
      at_bodies true e h = at_first (leb (second_place s) (length s)) refl (leb-true (first_place s) (length s) e)
      at_bodies false e h = bodies_missing h (leb-false (first_place s) (length s) e)

      at_arities : (t : Bool) → leb (field_place s 0) (length s) ≡ t → framed (drop 1 s) ≡ refused 4
      at_arities true e = at_bodies (leb (first_place s) (length s)) refl (leb-true (field_place s 0) (length s) e)
      at_arities false e = short_arities o (leb-false (field_place s 0) (length s) e)
