-- The branches of a choice that come before one of them, and whether that one is among them. Assumes nothing.
use mathlib.Core.Bool.{Bool, true, false, cond}
use mathlib.Core.List.{List, [], ◌∷◌, ◌++◌}
use mathlib.Core.Logic.{◌⊎◌, inl, inr, ⊎_elim}
use mathlib.Core.Path.{◌≡◌, refl, sym, ◌∙◌, ap, subst}
use native.Mathlib.Omega.{arith}
use borrow.Author.Tests.{eqb-true, eqb-false, eq-eqb, ne_eqb, ltb-true, ltb-false, leb-true}
use Prim.Native.Nat.{ℕ, ◌+◌, ◌<◌, ◌≤◌}
use lib.Dec.{eqb, ltb, leb}
use lib.ListN.{length, get_or, drop, length-append}
use Rattle.calculus.specs.Term.{Term, nil, tau, inp, out, bout, mat, sum, par, res, call, ren}
use Rattle.terms.specs.Answer.{result}
use Rattle.terms.specs.Encoding.{name_byte, encode, InScope}
use Rattle.terms.specs.Limits.{name_count}
use Rattle.terms.specs.Question.{Question, check_of}
use Rattle.terms_bytes.proofs.Stores.{get_d_front}
use Rattle.steps_labels.specs.LabelWalk.{slot_at, HasSlots}
use Rattle.steps_tallies.specs.Bodies.{AritiesIs}
use Rattle.terms.specs.Question.{body_of}
use Rattle.calculus.specs.Lists.{◌∈◌, Among}
use Rattle.steps.specs.Raw.{Candidate, matching, visible, visible_of}
use Rattle.steps_conditions.specs.Slots.{slot_of}
use Rattle.steps_tallies.specs.Tally.{end_at, EndsInside, EndsTallied}
use Rattle.steps_labels.proofs.ArgumentSlots.{slot_read}
use Rattle.steps_tallies.proofs.CandidateForms.{tag, tag_at, only_mat}
use Rattle.steps_tallies.proofs.FrontLaws.{behind}
use Rattle.calculus.proofs.Membership.{∈-left, ∈_right, ∈-map, ∈-mapped}
use Rattle.steps_passing.proofs.TwoSides.{at_left, at_right}
use Rattle.steps_placing.specs.Deciding.{decided, Again}
use Rattle.steps_equal_branches.specs.BranchRows.{is_trivial, is_failing, Piece, plus, match, branch, Pieces, Offers, behind_piece, RepeatedIs}
use Rattle.steps_equal_branches.specs.Same.{SameBranchIs}
use Rattle.steps_placing.proofs.DecidingLaws.{decided_trivial, decided-failing, again_one, again-more, again_as}
use Rattle.steps_equal_branches.proofs.RaisedMeetings.{bound_slot, slot_one}

-- Where a match of a name with itself stands, or another one.
module _ (s args : List ℕ) (inner depth p : ℕ) where
  abbrev slot_behind : ℕ → ℕ
  slot_behind k = slot_at args inner depth (get_or s (p + k) 0)

  pub trivial_slots : is_trivial s args inner depth p ≡ true → (get_or s p 0 ≡ 5) × (slot_behind 1 ≡ slot_behind 2)
  unfolding is_trivial
  trivial_slots = go (eqb (get_or s p 0) 5) refl
    where
      go : (t : Bool) → eqb (get_or s p 0) 5 ≡ t → cond t (eqb (slot_behind 1) (slot_behind 2)) false ≡ true → (get_or s p 0 ≡ 5) × (slot_behind 1 ≡ slot_behind 2)
      go true t e = (eqb-true (get_or s p 0) 5 t, eqb-true (slot_behind 1) (slot_behind 2) e)
      go false t e = let z : ◌≡◌ {A = ℕ} 0 1 = cc in absurd (omega arith)

  pub other_trivial : (get_or s p 0 ≡ 5 → ⊥) → is_trivial s args inner depth p ≡ false
  unfolding is_trivial
  other_trivial n = ap (λ (t : Bool). cond t (eqb (slot_behind 1) (slot_behind 2)) false) (ne_eqb (get_or s p 0) 5 n)

  pub other-failing : (get_or s p 0 ≡ 5 → ⊥) → is_failing s args inner depth p ≡ false
  unfolding is_failing
  other-failing n =
      ap (λ (t : Bool). cond t (cond (eqb (slot_behind 1) (slot_behind 2)) false (cond (leb name_count (slot_behind 1)) true (leb name_count (slot_behind 2)))) false)
      (ne_eqb (get_or s p 0) 5 n)

  -- what the tests of its slots say
  module _ (five : get_or s p 0 ≡ 5) (a u : ℕ) (first : a ≡ get_or s (p + 1) 0) (at_first : u ≡ slot_at args inner depth a)
      (b v : ℕ) (second : b ≡ get_or s (p + 2) 0) (at_second : v ≡ slot_at args inner depth b) where
    one : slot_behind 1 ≡ u
    one = ap (slot_at args inner depth) (sym first) ∙ sym at_first

    two : slot_behind 2 ≡ v
    two = ap (slot_at args inner depth) (sym second) ∙ sym at_second

    pub trivial_is : eqb u v ≡ is_trivial s args inner depth p
    unfolding is_trivial
    trivial_is = λ i. cond (sym (eq-eqb (get_or s p 0) 5 five) i) (eqb (sym one i) (sym two i)) false

    pub failing_is : cond (eqb u v) false (cond (leb name_count u) true (leb name_count v)) ≡ is_failing s args inner depth p
    unfolding is_failing
    failing_is = λ i.
        cond (sym (eq-eqb (get_or s p 0) 5 five) i) (cond (eqb (sym one i) (sym two i)) false (cond (leb name_count (sym one i)) true (leb name_count (sym two i)))) false

  failing_slots : is_failing s args inner depth p ≡ true
      → (get_or s p 0 ≡ 5) × (slot_behind 1 ≡ slot_behind 2 → ⊥) × ((name_count ≤ slot_behind 1) ⊎ (name_count ≤ slot_behind 2))
  unfolding is_failing
  failing_slots = go (eqb (get_or s p 0) 5) refl (eqb (slot_behind 1) (slot_behind 2)) refl (leb name_count (slot_behind 1)) refl
    where
      go : (t : Bool) → eqb (get_or s p 0) 5 ≡ t → (u : Bool) → eqb (slot_behind 1) (slot_behind 2) ≡ u → (v : Bool) → leb name_count (slot_behind 1) ≡ v
          → cond t (cond u false (cond v true (leb name_count (slot_behind 2)))) false ≡ true
          → (get_or s p 0 ≡ 5) × (slot_behind 1 ≡ slot_behind 2 → ⊥) × ((name_count ≤ slot_behind 1) ⊎ (name_count ≤ slot_behind 2))
      go true t true u v w e = let z : ◌≡◌ {A = ℕ} 0 1 = cc in absurd (omega arith)
      go true t false u true v e = (eqb-true (get_or s p 0) 5 t, eqb-false (slot_behind 1) (slot_behind 2) u, inl (leb-true name_count (slot_behind 1) v))
      go true t false u false v e = (eqb-true (get_or s p 0) 5 t, eqb-false (slot_behind 1) (slot_behind 2) u, inr (leb-true name_count (slot_behind 2) e))
      go false t u v w x e = let z : ◌≡◌ {A = ℕ} 0 1 = cc in absurd (omega arith)

-- Its names are one, or one of them is restricted.
module _ (free D : ℕ) (σ : ℕ → ℕ) (s args : List ℕ) (inner depth : ℕ) (few : free ≤ name_count) (has : HasSlots free D args inner depth σ) (arities : List ℕ)
    (a b : ℕ) (P : Term) (at : ℕ) (rest : List ℕ) (scope : InScope free arities D (mat a b P)) (st : drop at s ≡ encode D (mat a b P) ++ rest) where
  pub first_slot : (slot_at args inner depth (get_or s (at + 1) 0) ≡ slot_of name_count depth (σ a)) × (σ a < depth + name_count)
  unfolding InScope encode
  first_slot = slot_read free D args inner depth σ few has s at 1 a scope.0 (get_d_front s at (encode D (mat a b P)) rest 1 st (omega arith)) _ refl

  pub second-slot : (slot_at args inner depth (get_or s (at + 2) 0) ≡ slot_of name_count depth (σ b)) × (σ b < depth + name_count)
  unfolding InScope encode
  second-slot = slot_read free D args inner depth σ few has s at 2 b scope.1 (get_d_front s at (encode D (mat a b P)) rest 2 st (omega arith)) _ refl

  pub trivial_names : is_trivial s args inner depth at ≡ true → σ a ≡ σ b
  trivial_names e =
      slot_one name_count depth (σ a) (σ b) first_slot.1 second-slot.1 (sym first_slot.0 ∙ (trivial_slots s args inner depth at e).1 ∙ second-slot.0)

  failing-names : is_failing s args inner depth at ≡ true → (σ a ≡ σ b → ⊥) × ((σ a < depth) ⊎ (σ b < depth))
  failing-names e =
      let (_, n, k) = failing_slots s args inner depth at e in (
        λ q. n (first_slot.0 ∙ ap (slot_of name_count depth) q ∙ sym second-slot.0),
        ⊎_elim (λ h. inl (restricts (σ a) first_slot.1 (rw first_slot.0 at h))) (λ h. inr (restricts (σ b) second-slot.1 (rw second-slot.0 at h))) k,
      )
    where
      restricts : (n : ℕ) → n < depth + name_count → name_count ≤ slot_of name_count depth n → n < depth
      restricts n l h = go (ltb n depth) refl
        where
          go : (t : Bool) → ltb n depth ≡ t → n < depth
          go true t = ltb-true n depth t
          go false t = absurd (omega (arith, bound_slot name_count depth n l (ltb-false n depth t)))

module _ (body : ℕ → Term) (calls : ℕ) (arities : List ℕ) (free D : ℕ) (σ : ℕ → ℕ) (s args : List ℕ) (inner depth : ℕ) where
  abbrev Goes : List Candidate → ℕ → ℕ → List Piece → Type 0
  Goes = Pieces body calls arities free D σ s args inner depth

  abbrev Has : List Candidate → ℕ → ℕ → Type 0
  Has = Offers body calls arities free D σ s args inner depth

  abbrev seen : Term → List Candidate
  seen P = visible body calls (ren σ P)

  abbrev Adds : List Candidate → Term → Type 0
  Adds before P = (c : Candidate) → c ∈ seen P → Again depth c before

  pieces_more : (before before' : List Candidate) → Among before before' → (l : List Piece) (p at : ℕ) → Goes before p at l → Goes before' p at l
  unfolding Pieces
  pieces_more b b' h [] p at k = k
  pieces_more b b' h (plus ∷ l) p at k = (k.0, pieces_more b b' h l (p + 1) at k.1)
  pieces_more b b' h (match ∷ l) p at k = (k.0, pieces_more b b' h l (p + 3) at k.1)
  pieces_more b b' h (branch B ∷ l) p at k =
      (k.0, k.1, k.2, k.3, λ c m. again-more depth c b b' h (k.4 c m), pieces_more b b' h l (p + length (encode D B)) at k.5)

  pieces_join : (before : List Candidate) (l l' : List Piece) (p m at : ℕ) → Goes before p m l → Goes before m at l' → Goes before p at (l ++ l')
  unfolding Pieces
  pieces_join b [] l' p m at k k' = subst (λ (p : ℕ). Goes b p at l') (sym k) k'
  pieces_join b (plus ∷ l) l' p m at k k' = (k.0, pieces_join b l l' (p + 1) m at k.1 k')
  pieces_join b (match ∷ l) l' p m at k k' = (k.0, pieces_join b l l' (p + 3) m at k.1 k')
  pieces_join b (branch B ∷ l) l' p m at k k' =
      (k.0, k.1, k.2, k.3, k.4, pieces_join b l l' (p + length (encode D B)) m at k.5 k')

  -- A term that stands alone.
  pub offers_alone : (before : List Candidate) (at : ℕ) → Has before at at
  unfolding Pieces
  offers_alone before at = ([], refl)

  -- The left side of a choice, and what stands beneath a match of a name with itself.
  module _ (before : List Candidate) (root at : ℕ) (o : Has before root at) where
    pub offers_left : get_or s at 0 ≡ 6 → Has before root (at + 1)
    unfolding Pieces
    offers_left six = (o.0 ++ (plus ∷ []), pieces_join before o.0 (plus ∷ []) root at (at + 1) o.1 (six, refl))

    pub offers_beneath : is_trivial s args inner depth at ≡ true → Has before root (at + 3)
    unfolding Pieces
    offers_beneath t = (o.0 ++ (match ∷ []), pieces_join before o.0 (match ∷ []) root at (at + 3) o.1 (t, refl))

  module _ (few : free ≤ name_count) (has : HasSlots free D args inner depth σ) where
    -- A term is passed piece by piece.
    whole : (before : List Candidate) (P : Term) (at : ℕ) (rest : List ℕ) → (tag P ≡ 6 → ⊥) → is_trivial s args inner depth at ≡ false → InScope free arities D P
        → drop at s ≡ encode D P ++ rest → Adds before P → (e : ℕ) → e ≡ at + length (encode D P) → Has before at e
    unfolding Pieces
    whole before P at rest n u scope st m e q =
        let t = tag_at s at D P rest st in (branch P ∷ [], (λ z. n (sym t ∙ z), u, scope, (rest, st), m, sym q))

    other : (before : List Candidate) (P : Term) (at : ℕ) (rest : List ℕ) → (tag P ≡ 6 → ⊥) → (tag P ≡ 5 → ⊥) → InScope free arities D P
        → drop at s ≡ encode D P ++ rest → Adds before P → (e : ℕ) → e ≡ at + length (encode D P) → Has before at e
    other before P at rest n k scope st =
        whole before P at rest n (other_trivial s args inner depth at (λ z. k (sym (tag_at s at D P rest st) ∙ z))) scope st

    pieces_of : (before : List Candidate) (P : Term) (at : ℕ) (rest : List ℕ) → InScope free arities D P → drop at s ≡ encode D P ++ rest
        → Adds before P → (e : ℕ) → e ≡ at + length (encode D P) → Has before at e
    unfolding Pieces visible visible_of InScope encode
    pieces_of before (sum P Q) at rest scope st m e q =
        let b : ℕ = at + 1 + length (encode D P) in
        let (l, k) = pieces_of before P (at + 1) (encode D Q ++ rest) scope.0 (at_left D s at P Q rest 6 st) (λ c i. m c (∈-left c (seen P) (seen Q) i)) b refl in
        let (l', k') = pieces_of before Q b rest scope.1 (at_right D s at P Q rest 6 st b refl) (λ c i. m c (∈_right c (seen P) (seen Q) i)) e
        (omega (arith, length-append (encode D P) (encode D Q))) in
        (plus ∷ (l ++ l'), (tag_at s at D (sum P Q) rest st, pieces_join before l l' (at + 1) b e k k'))
    pieces_of before (mat a b P) at rest scope st m e q =
        go (is_trivial s args inner depth at) refl
        (λ m. pieces_of before P (at + 3) rest scope.2 (behind s at 3 (5 ∷ name_byte D a ∷ name_byte D b ∷ []) (encode D P ++ rest) st refl) m e (omega arith))
      where
        go : (t : Bool) → is_trivial s args inner depth at ≡ t → (Adds before P → Has before (at + 3) e) → Has before at e
        go true t f =
            let same = trivial_names free D σ s args inner depth few has arities a b P at rest scope st t in
            let (l, k) = f (λ c i.
            again_as depth c (matching (σ a) (σ b) c) before (sym (decided_trivial depth (σ a) (σ b) same c))
            (m (matching (σ a) (σ b) c) (∈-map (matching (σ a) (σ b)) c (seen P) i))) in
            (match ∷ l, (t, k))
        go false t f = whole before (mat a b P) at rest (λ z. omega arith) t scope st m e q
    pieces_of before nil at rest scope st m e q = other before nil at rest (λ z. omega arith) (λ z. omega arith) scope st m e q
    pieces_of before (tau P) at rest scope st m e q = other before (tau P) at rest (λ z. omega arith) (λ z. omega arith) scope st m e q
    pieces_of before (inp a P) at rest scope st m e q = other before (inp a P) at rest (λ z. omega arith) (λ z. omega arith) scope st m e q
    pieces_of before (out a b P) at rest scope st m e q = other before (out a b P) at rest (λ z. omega arith) (λ z. omega arith) scope st m e q
    pieces_of before (bout a P) at rest scope st m e q = other before (bout a P) at rest (λ z. omega arith) (λ z. omega arith) scope st m e q
    pieces_of before (par P Q) at rest scope st m e q = other before (par P Q) at rest (λ z. omega arith) (λ z. omega arith) scope st m e q
    pieces_of before (res P) at rest scope st m e q = other before (res P) at rest (λ z. omega arith) (λ z. omega arith) scope st m e q
    pieces_of before (call k xs) at rest scope st m e q = other before (call k xs) at rest (λ z. omega arith) (λ z. omega arith) scope st m e q

    -- The right side of a choice, before which the left side stands too.
    pub offers_right : (before : List Candidate) (root at : ℕ) → Has before root at → (P : Term) (rest : List ℕ) → InScope free arities D P
        → drop at s ≡ encode D P ++ rest → (m : ℕ) → m ≡ at + length (encode D P) → Has (before ++ seen P) root m
    offers_right before root at (l, k) P rest scope st m e =
        let more : List Candidate = before ++ seen P in
        let (l', k') = pieces_of more P at rest scope st (λ c i. again_one depth c more (∈_right c before (seen P) i)) m e in
        (l ++ l', pieces_join more l l' root at m (pieces_more before more (λ c i. ∈-left c before (seen P) i) l root at k) k')

-- The place behind a piece lies behind it.
pub behind_on : (s t args : List ℕ) (inner depth p : ℕ) → EndsInside s t → p < length s → p < behind_piece s t args inner depth p
unfolding behind_piece
behind_on s t args inner depth p on h = go (eqb (get_or s p 0) 6) (is_trivial s args inner depth p)
  where
    go : (b c : Bool) → p < cond b (p + 1) (cond c (p + 3) (end_at t p))
    go true c = omega arith
    go false true = omega arith
    go false false = (on p h).0

-- The search for the term at `at` among the branches before it: from p on there are those that are not yet passed.
module _ (question s t args : List ℕ) (inner depth root at : ℕ) where
  abbrev pub Ahead : ℕ → Type 0
  Ahead p = (q : Question) (calls free D : ℕ) (σ : ℕ → ℕ) (before : List Candidate) → check_of question ≡ result q
      → Offers (body_of q.bodies) calls q.arities free D σ s args inner depth before root at
      → Offers (body_of q.bodies) calls q.arities free D σ s args inner depth before p at

  pub ahead_start : Ahead root
  ahead_start q calls free D σ before ok o = o

  pub repeated_none : RepeatedIs question s args inner depth root at false
  repeated_none = record {
    is = λ q calls free D σ P rest before e ok few has scope st n u o c m. let z : ◌≡◌ {A = ℕ} 0 1 = cc in absurd (omega arith);
  }

  -- a match that fails
  pub repeated_failing : is_failing s args inner depth at ≡ true → RepeatedIs question s args inner depth root at true
  unfolding visible visible_of Again
  repeated_failing f = record {
    is = λ q calls free D σ P rest before _ ok few has scope st n u o.
        only_mat (λ (P : Term). InScope free q.arities D P → drop at s ≡ encode D P ++ rest
        → (c : Candidate) → c ∈ visible (body_of q.bodies) calls (ren σ P) → Again depth c before)
        (λ a b P scope st c m.
        let (x, i, e) = ∈-mapped (matching (σ a) (σ b)) c (visible (body_of q.bodies) calls (ren σ P)) m in
        let (apart, restricts) = failing-names free D σ s args inner depth few has q.arities a b P at rest scope st f in
        inl (ap (decided depth) e ∙ decided-failing depth (σ a) (σ b) apart restricts x))
        P (sym (tag_at s at D P rest st) ∙ (failing_slots s args inner depth at f).0) scope st;
  }

  module _ (T : EndsTallied question s t) (p : ℕ) (h : p < at) (ahead : Ahead p) where
    pub ahead_next : (r : ℕ) → r ≡ behind_piece s t args inner depth p → Ahead r
    unfolding Pieces behind_piece
    ahead_next r e q calls free D σ before ok o = let (l, k) = ahead q calls free D σ before ok o in go l k
      where
        moved : (l : List Piece) (m : ℕ) → r ≡ m → Pieces (body_of q.bodies) calls q.arities free D σ s args inner depth before m at l
            → Offers (body_of q.bodies) calls q.arities free D σ s args inner depth before r at
        moved l m z k = (l, subst (λ (p : ℕ). Pieces (body_of q.bodies) calls q.arities free D σ s args inner depth before p at l) (sym z) k)

        go : (l : List Piece) → Pieces (body_of q.bodies) calls q.arities free D σ s args inner depth before p at l
            → Offers (body_of q.bodies) calls q.arities free D σ s args inner depth before r at
        go [] k = absurd (omega arith)
        go (plus ∷ l) k = moved l (p + 1) (e ∙ simp (eq-eqb (get_or s p 0) 6 k.0)) k.1
        go (match ∷ l) k =
            let five = (trivial_slots s args inner depth p k.0).0 in
            moved l (p + 3) (e ∙ simp (ne_eqb (get_or s p 0) 6 (λ z. omega arith), k.0)) k.1
        go (branch B ∷ l) k =
            moved l (p + length (encode D B)) (e ∙ simp (ne_eqb (get_or s p 0) 6 k.0, k.1) (T.is q p free D B k.3.0 ok k.2 k.3.1)) k.5

    -- a branch at p that is the same
    pub repeated_found : (arities : List ℕ) → AritiesIs question arities → SameBranchIs s p at arities args inner depth true
        → get_or s p 0 ≡ get_or s at 0 → is_trivial s args inner depth p ≡ false → RepeatedIs question s args inner depth root at true
    unfolding Pieces AritiesIs
    repeated_found arities A S b f = record {
      is = λ q calls free D σ P rest before _ ok few has scope st z u o.
          let (l, k) = ahead q calls free D σ before ok o in
          go q calls free D σ P rest before (A q ok) few has scope st z u l k;
    }
      where
        go : (q : Question) (calls free D : ℕ) (σ : ℕ → ℕ) (P : Term) (rest : List ℕ) (before : List Candidate) → arities ≡ q.arities → free ≤ name_count
            → HasSlots free D args inner depth σ → InScope free q.arities D P → drop at s ≡ encode D P ++ rest → (get_or s at 0 ≡ 6 → ⊥)
            → is_trivial s args inner depth at ≡ false → (l : List Piece)
            → Pieces (body_of q.bodies) calls q.arities free D σ s args inner depth before p at l
            → (c : Candidate) → c ∈ visible (body_of q.bodies) calls (ren σ P) → Again depth c before
        go q calls free D σ P rest before a few has scope st z u [] k = absurd (omega arith)
        go q calls free D σ P rest before a few has scope st z u (plus ∷ l) k = absurd (z (sym b ∙ k.0))
        go q calls free D σ P rest before a few has scope st z u (match ∷ l) k =
            let e : true ≡ false = sym k.0 ∙ f in
            let w : ◌≡◌ {A = ℕ} 0 1 = cc in absurd (omega arith)
        go q calls free D σ P rest before a few has scope st z u (branch B ∷ l) k =
            λ c m.
            let (x, i, e) = S.is refl (body_of q.bodies) calls free D σ P B (record {
              few = few;
              has = has;
              scope = subst (λ (xs : List ℕ). InScope free xs D P) (sym a) scope;
              scope_too = subst (λ (xs : List ℕ). InScope free xs D B) (sym a) k.2;
              rest = rest;
              stands = st;
              more = k.3.0;
              stands_too = k.3.1;
            }) c m in
            again_as depth c x before e (k.4 x i)
