-- The result of a communication of two components: the part with their own results in their places. Assumes nothing.
use mathlib.Core.Path.{◌≡◌, refl, sym, ap, subst, ◌∙◌}
use mathlib.Core.Bool.{false}
use mathlib.Core.List.{List, ◌++◌, append_assoc}
use Prim.Native.Nat.{ℕ, ◌+◌, ◌-◌, ◌<◌, ◌≤◌}
use native.Mathlib.Omega.{arith}
use lib.ListN.{length, get_or, take, drop, length-append, length-drop}
use lib.Seq.{sets, length-sets, take_at, take_all}
use Rattle.calculus.proofs.Renaming.{ren_id}
use Rattle.terms.specs.Answer.{result}
use Rattle.terms.specs.Encoding.{encode}
use Rattle.terms.specs.Limits.{name_count, longest_term}
use Rattle.terms.specs.Question.{Question, check_of}
use Rattle.terms.specs.Question.{body_of}
use Rattle.terms_bytes.specs.Shape.{height}
use Rattle.terms.proofs.RenamingKeeps.{length-ren}
use Rattle.steps_conditions.specs.Names.{OwnNames}
use Rattle.steps_tallies.specs.Candidates.{candidates}
use Rattle.steps.specs.Raw.{blocked}
use Rattle.steps_plans.specs.Plans.{receiving, chosen, Written, WriteIs}
use Rattle.steps_tallies.specs.Tally.{end_at, TallyIs}
use Rattle.steps_tallies.proofs.OwnNames.{own_part}
use Rattle.steps_tallies.proofs.FrontLaws.{stands, behind}
use Rattle.steps_conditions.proofs.NameSlots.{names-own}
use Rattle.steps_plans.proofs.ResultLaws.{stored_to, stored_then, stored_stop, written_of}
use Rattle.steps_splicing.specs.Locating.{Hole, HoleIs, Holes, MetResultIs}
use Rattle.steps_splicing.specs.declared.locate.Located.{Located}

-- Where a component stands.
hole_stands : (q : Question) (part : List ℕ) (from : ℕ) (l : Located) (new : ℕ) (before bs after : List ℕ) (H : Hole q part from l new before bs after)
    → drop l.at part ≡ encode l.depth H.term ++ after
hole_stands q part from l new before bs after H =
    ap (λ (k : ℕ). drop k part) (sym H.place) ∙ behind part from (length before) before (encode l.depth H.term ++ after) H.bytes refl

-- One result behind what is copied.
module _ (question part : List ℕ) (from : ℕ) (l : Located) (new : ℕ) (out : List ℕ) (put : ℕ) where
  pub hole_past : l.at < from → (r : ℕ) (out' : List ℕ) → HoleIs question part from l new out put r out'
  hole_past h r out' = record { is = λ q before bs after ok H deep. absurd (omega (arith, H.place)) }

  pub hole_full : length out < put + (l.at - from) → (r : ℕ) → length out < r → (out' : List ℕ) → HoleIs question part from l new out put r out'
  hole_full h r o out' = record {
    is = λ q before bs after ok H deep.
        record { fits = λ k. absurd (omega (arith, H.place, length-append before bs)); over = λ k. o };
  }

  pub hole_shallow : put + (l.at - from) < l.depth → (r : ℕ) (out' : List ℕ) → HoleIs question part from l new out put r out'
  hole_shallow h r out' = record { is = λ q before bs after ok H deep. absurd (omega (arith, H.place)) }

  -- An answer past the end says the same as any other.
  pub hole_past_end : (e : ℕ) → length out < e → (out' : List ℕ) → HoleIs question part from l new out put e out' → (r : ℕ) → length out < r
      → HoleIs question part from l new out put r out'
  hole_past_end e h out' w r o = record {
    is = λ q before bs after ok H deep.
        record { fits = λ k. absurd (omega (arith, ((w.is q before bs after ok H deep).fits k).0)); over = λ k. o };
  }

  pub hole_written : length out ≤ longest_term → put + (l.at - from) ≤ length out → (names : List ℕ) → OwnNames l.depth names → (out₁ : List ℕ)
      → out₁ ≡ sets out put (take (l.at - from) (drop from part)) → (r : ℕ) (out₂ : List ℕ)
      → WriteIs question part l.at l.depth names
      (record { new = new; levels = l.depth; calls = 1; still = false; silently = false; number = l.number }) out₁ (put + (l.at - from)) r out₂
      → HoleIs question part from l new out put r out₂
  unfolding chosen candidates
  hole_written small room names own out₁ copied r out₂ w = record {
    is = λ q before bs after ok H deep.
        let n : ℕ = l.at - from in
        let e : n ≡ length before = omega (arith, H.place) in
        let c : take n (drop from part) ≡ before =
        ap (take n) H.bytes ∙ take_at before (encode l.depth H.term ++ after) n (sym e) in
        let first : Written out put before (put + n) out₁ =
        record { fits = λ k. (omega arith, copied ∙ ap (sets out put) c); over = λ k. absurd (omega arith) } in
        let same : length out₁ ≡ length out = ap length copied ∙ length-sets out put (take n (drop from part)) in
        let own-bytes : Written out₁ (put + n) bs r out₂ =
        written_of l.depth H.result out₁ (put + n) bs r out₂ (omega arith)
        (ap length H.is ∙ length-ren l.depth l.depth (receiving H.name (λ n. n) H.action) H.result)
        (λ low shallow. w.is low q name_count (λ m. m) H.term after bs (l.depth + height H.result) ok (omega arith) H.scope (hole_stands q part from l new before bs after H)
        (record {
          named_own = own_part 1;
          ρ = λ m. m;
          x = H.name;
          has = names-own name_count l.depth names (omega arith) own;
          new = H.received;
          condition = H.condition;
          action = H.action;
          result = H.result;
          candidate = ap (λ R. get_or (candidates false (body_of q.bodies) 1 R) l.number blocked) (ren_id H.term) ∙ H.own;
          bytes = H.is;
          bounded = omega arith;
        }) shallow) in
        stored_then out put before (put + n) out₁ first bs r out₂ (omega arith) same own-bytes;
  }

-- Two results.
module _ (question part tally : List ℕ) (T : TallyIs question part 1 tally) (left right : Located) (new : ℕ) (out : List ℕ)
    (m : ℕ) (out₁ : List ℕ) (one : HoleIs question part 0 left new out 0 m out₁) where
  first-written : (q : Question) (bytes : List ℕ) → check_of question ≡ result q → (H : Holes q part left right new bytes) → Written out 0 (H.first ++ H.one) m out₁
  first-written q bytes ok H = one.is q H.first H.one H.rest ok H.left_hole (omega (arith, H.left_deep))

  pub met_stop : length out < m → MetResultIs question part left right new out m out₁
  met_stop h = record {
    is = λ q bytes ok H.
        rw (H.is ∙ sym (append_assoc H.first H.one (H.between ++ (H.two ++ H.last))))
        (stored_stop out 0 (H.first ++ H.one) m out₁ (first-written q bytes ok H) (H.between ++ (H.two ++ H.last)) h);
  }

  module _ (fits : m ≤ length out) (same : length out₁ ≡ length out) (from : ℕ) (at_from : from ≡ end_at tally left.at) (e : ℕ) (out₂ : List ℕ)
      (two : HoleIs question part from right new out₁ m e out₂) where
    from_is : (q : Question) (bytes : List ℕ) → check_of question ≡ result q → (H : Holes q part left right new bytes) → from ≡ H.end
    from_is q bytes ok H =
        at_from
        ∙ (T.is q left.at name_count left.depth (λ n. n) (own_part 1) H.left_hole.term H.rest ok H.left_hole.scope
        (hole_stands q part 0 left new H.first H.one H.rest H.left_hole)).2
        ∙ H.ends

    right_hole_lem : (q : Question) (bytes : List ℕ) → check_of question ≡ result q → (H : Holes q part left right new bytes)
        → Hole q part from right new H.between H.two H.last
    right_hole_lem q bytes ok H = subst (λ (k : ℕ). Hole q part k right new H.between H.two H.last) (sym (from_is q bytes ok H)) H.right_hole

    both-written : (q : Question) (bytes : List ℕ) → check_of question ≡ result q → (H : Holes q part left right new bytes)
        → Written out 0 ((H.first ++ H.one) ++ (H.between ++ H.two)) e out₂
    both-written q bytes ok H =
        let w = first-written q bytes ok H in
        let k = stored_to out 0 (H.first ++ H.one) m out₁ w fits in
        stored_then out 0 (H.first ++ H.one) m out₁ w (H.between ++ H.two) e out₂ fits same
        (two.is q H.between H.two H.last ok (right_hole_lem q bytes ok H) (omega (arith, k, H.right_deep, length-append H.first H.one)))

    joined : (q : Question) (bytes : List ℕ) (H : Holes q part left right new bytes) → bytes ≡ ((H.first ++ H.one) ++ (H.between ++ H.two)) ++ H.last
    joined q bytes H = H.is ∙ simp append_assoc

    pub met_stop_2 : length out < e → MetResultIs question part left right new out e out₂
    met_stop_2 h = record {
      is = λ q bytes ok H.
          rw (joined q bytes H)
          (stored_stop out 0 ((H.first ++ H.one) ++ (H.between ++ H.two)) e out₂ (both-written q bytes ok H) H.last h);
    }

    module _ (fits₂ : e ≤ length out) (same₂ : length out₂ ≡ length out) (end : ℕ) (at_end : end ≡ end_at tally right.at) where
      end_is : (q : Question) (bytes : List ℕ) (ok : check_of question ≡ result q) (H : Holes q part left right new bytes)
          → end ≡ right.at + length (encode right.depth (right_hole_lem q bytes ok H).term)
      end_is q bytes ok H =
          let R = right_hole_lem q bytes ok H in
          at_end ∙ (T.is q right.at name_count right.depth (λ n. n) (own_part 1) R.term H.last ok R.scope
          (hole_stands q part from right new H.between H.two H.last R)).2

      last_is : (q : Question) (bytes : List ℕ) (ok : check_of question ≡ result q) (H : Holes q part left right new bytes) → drop end part ≡ H.last
      last_is q bytes ok H =
          let R = right_hole_lem q bytes ok H in
          ap (λ (k : ℕ). drop k part) (end_is q bytes ok H)
          ∙ behind part right.at (length (encode right.depth R.term)) (encode right.depth R.term) H.last
          (hole_stands q part from right new H.between H.two H.last R) refl

      within : (q : Question) (bytes : List ℕ) → check_of question ≡ result q → Holes q part left right new bytes → end ≤ length part
      within q bytes ok H =
          let R = right_hole_lem q bytes ok H in
          omega (arith, end_is q bytes ok H, stands part right.at right.depth R.term H.last (hole_stands q part from right new H.between H.two H.last R))

      last-length : (q : Question) (bytes : List ℕ) (ok : check_of question ≡ result q) (H : Holes q part left right new bytes) → length part - end ≡ length H.last
      last-length q bytes ok H = sym (length-drop end part) ∙ ap length (last_is q bytes ok H)

      ended : (q : Question) (bytes : List ℕ) (ok : check_of question ≡ result q) (H : Holes q part left right new bytes) (r : ℕ) (out₃ : List ℕ)
          → Written out₂ e H.last r out₃ → Written out 0 bytes r out₃
      ended q bytes ok H r out₃ w =
          rw (joined q bytes H)
          (stored_then out 0 ((H.first ++ H.one) ++ (H.between ++ H.two)) e out₂ (both-written q bytes ok H) H.last r out₃ fits₂ same₂ w)

      pub met_short : length part < end → (r : ℕ) (out₃ : List ℕ) → MetResultIs question part left right new out r out₃
      met_short h r out₃ = record { is = λ q bytes ok H. absurd (omega (arith, within q bytes ok H)) }

      pub met_over : length out < e + (length part - end) → (r : ℕ) → length out < r → MetResultIs question part left right new out r out₂
      met_over h r o = record {
        is = λ q bytes ok H.
            ended q bytes ok H r out₂
            (record { fits = λ k. absurd (omega (arith, last-length q bytes ok H, same₂)); over = λ k. omega (arith, same₂) });
      }

      pub met-stored : e + (length part - end) ≤ length out → (out₃ : List ℕ) → out₃ ≡ sets out₂ e (take (length part - end) (drop end part))
          → MetResultIs question part left right new out (e + (length part - end)) out₃
      met-stored h out₃ c = record {
        is = λ q bytes ok H.
            let l = last-length q bytes ok H in
            let d : take (length part - end) (drop end part) ≡ H.last =
            ap (take (length part - end)) (last_is q bytes ok H) ∙ take_all (length part - end) H.last (omega arith) in
            ended q bytes ok H (e + (length part - end)) out₃
            (record { fits = λ k. (omega arith, c ∙ ap (sets out₂ e) d); over = λ k. absurd (omega (arith, same₂)) });
      }
