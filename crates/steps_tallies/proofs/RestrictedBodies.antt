-- Whether a body has a restriction, found from the first definition to the last, and noted in the tallies. Assumes nothing.
use mathlib.Core.Path.{◌≡◌, refl, sym, ap, subst, ◌∙◌}
use mathlib.Core.Bool.{Bool, true, false}
use mathlib.Core.List.{List, [], ◌∷◌}
use mathlib.Core.Logic.{⊎_elim}
use Prim.Native.Nat.{ℕ, zero, suc, ◌+◌, ◌*◌, ◌<◌, ◌≤◌}
use native.Mathlib.Decide.{ℕ_discrete}
use native.Mathlib.Nat.{eq-or-lt_of_le}
use native.Mathlib.Omega.{arith}
use lib.ListN.{length, get_or, set, length-set}
use lib.Dec.{leb}
use lib.Seq.{get_or-set_same, get_or-set_other}
use borrow.Author.Tests.{leb-true, leb-false}
use Rattle.calculus.specs.Term.{Term}
use Rattle.terms.specs.Answer.{result}
use Rattle.terms.specs.Encoding.{InScope}
use Rattle.terms.specs.Limits.{longest_term, most_definitions}
use Rattle.terms.specs.Question.{Question, check_of, body_of}
use Rattle.terms.specs.WellFormed.{BodiesAllowed}
use Rattle.terms.proofs.WellFormed.{accepted_well_formed}
use Rattle.terms_bytes.specs.FieldPlaces.{field_at, field_place}
use Rattle.terms_restrictions.specs.Restrictions.{Unrestricted, HasRestrictionIs}
use Rattle.terms_restrictions.proofs.RestrictionWalk.{unrestricted}
use Rattle.steps_tallies.specs.Bodies.{AritiesIs, BodyIs}
use Rattle.steps_tallies.specs.Tally.{tally_size, visible_at, silent_at, body_tally, visible_call, silent_call, Few, FewCalls, place_in, restricted_bodies, TalliedBelow, PlacesBelow, BodiesTidied, BodiesUnrestricted, BodiesTallied}
use Rattle.steps_tallies.proofs.CallLaws.{body_scope}
use Rattle.steps_tallies.proofs.TallyLoops.{at_tally, tally_same}

-- The bodies of the definitions below n have none.
unfoldable pub UnrestrictedBelow : List ℕ → ℕ → Type 0
UnrestrictedBelow question n = (q : Question) → check_of question ≡ result q → (k : ℕ) → k < n → Unrestricted (body_of q.bodies k)

pub none-restricted : (question : List ℕ) → UnrestrictedBelow question 0
unfolding UnrestrictedBelow
none-restricted question q c k h = absurd (omega arith)

-- Where there is no definition, its body is inaction.
missing : (arities sizes : List ℕ) (bodies : List Term) → BodiesAllowed arities sizes bodies → (j : ℕ) → length sizes ≤ j → Unrestricted (body_of bodies j)
unfolding BodiesAllowed body_of
missing arities [] (P ∷ Ps) w j h = elim w [ ]
missing arities (a ∷ sizes) [] w j h = elim w [ ]
missing arities [] [] w j h = tt
missing arities (a ∷ sizes) (P ∷ Ps) w zero h = absurd (omega arith)
missing arities (a ∷ sizes) (P ∷ Ps) w (suc j) h = missing arities sizes Ps w.1 j (omega arith)

module _ (question arities : List ℕ) (A : AritiesIs question arities) (k : ℕ) (U : UnrestrictedBelow question k) where
  pub one_more : (body : List ℕ) → BodyIs question k body → k < length arities → HasRestrictionIs body arities false → UnrestrictedBelow question (k + 1)
  unfolding UnrestrictedBelow HasRestrictionIs AritiesIs
  one_more body B inside none q c j h = ⊎_elim
      (λ (e : j ≡ k). subst (λ (j : ℕ). Unrestricted (body_of q.bodies j)) (sym e) new) (U q c j) (eq-or-lt_of_le {n = j} {m = k} (omega arith))
    where
      new : Unrestricted (body_of q.bodies k)
      new =
          let a : ℕ = get_or q.arities k 0 in
          let P : Term = body_of q.bodies k in
          let i : k < length q.arities = subst (λ (l : List ℕ). k < length l) (A q c) inside in
          unrestricted P (sym (none 0 a P (subst (λ (l : List ℕ). InScope 0 l a P) (sym (A q c)) (body_scope question q c k)) (B.is q c i)))

  pub all_looked_at : length arities ≤ k → BodiesUnrestricted question
  unfolding UnrestrictedBelow AritiesIs
  all_looked_at past q c j = go (leb (length q.arities) j) refl
    where
      go : (b : Bool) → leb (length q.arities) j ≡ b → Unrestricted (body_of q.bodies j)
      go true e = missing q.arities q.arities q.bodies (accepted_well_formed question q c).bodies j (leb-true (length q.arities) j e)
      go false e = U q c j (let l = leb-false (length q.arities) j e in let p = subst (λ (l : List ℕ). length l ≤ k) (A q c) past in omega arith)

-- Noted in the number behind the tallies.
module _ (question t : List ℕ) (N : TalliedBelow question most_definitions t) (L : PlacesBelow question most_definitions t) (T : BodiesTidied question) where
  pub unrestricted_tallied : BodiesUnrestricted question → BodiesTallied question t
  unrestricted_tallied u = record { size = N.size; few = N.few; are = N.are; places = L; tidied = T; plain = λ z. u }

  abbrev noted : List ℕ
  noted = set t restricted_bodies 1

  elsewhere : (i : ℕ) → (i ≡ restricted_bodies → ⊥) → get_or noted i 0 ≡ get_or t i 0
  elsewhere i h = get_or-set_other t restricted_bodies i 1 0 h

  there : get_or noted restricted_bodies 0 ≡ 1
  there = get_or-set_same t restricted_bodies 1 0 (omega (arith, N.size))

  noted_few : (k : ℕ) → Few longest_term 1 (visible_call noted k) (silent_call noted k)
  unfolding FewCalls Few visible_call silent_call visible_at silent_at
  noted_few k = go (ℕ_discrete k most_definitions)
    where
      s : get_or noted (longest_term + tally_size * k) 0 ≤ longest_term * 1 * (longest_term * 1)
      s = omega (arith, elsewhere (longest_term + tally_size * k) (λ z. omega arith), (N.few.1 k).1)

      go : Dec (k ≡ most_definitions) → (get_or noted (tally_size * k) 0 ≤ longest_term * 1) × (get_or noted (longest_term + tally_size * k) 0 ≤ longest_term * 1 * (longest_term * 1))
      go (yes z) = let p : tally_size * k ≡ restricted_bodies = omega arith in (omega (arith, there, ap (λ (i : ℕ). get_or noted i 0) p), s)
      go (no z) = (omega (arith, elsewhere (tally_size * k) (λ y. z (omega arith)), (N.few.1 k).0), s)

  pub restricted-tallied : BodiesTallied question noted
  unfolding FewCalls PlacesBelow
  restricted-tallied = record {
    size = length-set t restricted_bodies 1 ∙ N.size;
    few = (N.few.0, noted_few);
    are = λ j h m.
        tally_same question (field_at question (field_place question j)) 0 (body_tally t j) (body_tally noted j) m
        (λ i l. at_tally noted j i (omega arith) ∙ elsewhere (tally_size * j + i) (λ z. omega arith) ∙ sym (at_tally t j i (omega arith)))
        (N.are j h m);
    places = λ j h l. elsewhere (place_in j) (λ z. omega arith) ∙ L j h l;
    tidied = T;
    plain = λ z. absurd (omega (arith, there));
  }
