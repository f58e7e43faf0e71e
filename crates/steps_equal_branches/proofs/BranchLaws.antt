-- Branches that are the same but for how their matches make one condition have the same candidates but for what is decided. Assumes nothing.
use borrow.Author.Tests.{eqb-true, lt-ltb, le-ltb, ltb-true, ltb-false}
use mathlib.Core.Bool.{Bool, true, false, cond}
use mathlib.Core.List.{List, [], ◌∷◌, ◌++◌}
use mathlib.Core.Logic.{⊎_elim}
use mathlib.Core.Path.{◌≡◌, refl, sym, ◌∙◌, ap, subst}
use native.Mathlib.Nat.{eq-or-lt_of_le}
use native.Mathlib.Omega.{arith}
use Prim.Native.Nat.{ℕ, zero, suc, ◌+◌, ◌-◌, ◌*◌, ◌<◌, ◌≤◌}
use lib.Dec.{eqb, ltb}
use lib.ListN.{get_or, drop}
use Rattle.calculus.specs.Abstraction.{Act}
use Rattle.calculus.specs.Cond.{Cond, map_p, Unif, cls, ◌▷◌}
use Rattle.calculus.specs.Term.{Term, ren}
use Rattle.calculus.proofs.Conditions.{◌~◌, E2, ▷-all, ~_refl, map_p-▷}
use Rattle.terms.specs.Encoding.{name_byte, encode, InScope}
use Rattle.terms.specs.Limits.{name_count}
use Rattle.steps_conditions.specs.Conditions.{MergedIs}
use Rattle.steps_labels.specs.LabelWalk.{slot_at, HasSlots}
use Rattle.calculus.specs.Lists.{◌∈◌}
use Rattle.steps.specs.Raw.{Candidate, step, blocked, matching, visible, visible_of}
use Rattle.steps_conditions.specs.Slots.{slot_of, slot_count, HasSlotClasses, Below}
use Rattle.steps_tallies.proofs.CandidateForms.{tag_at, only_mat}
use Rattle.steps_tallies.proofs.FrontLaws.{behind}
use Rattle.calculus.proofs.Membership.{∈-map, ∈-mapped}
use Rattle.steps_conditions.proofs.NameSlots.{slot_bound, slot_free}
use Rattle.steps_placing.specs.Deciding.{decided}
use Rattle.steps_equal_branches.specs.Same.{SameIs, ChainIs, chain, HoldsIs, SameBranchIs}
use Rattle.steps_equal_branches.proofs.ChoiceLaws.{first_slot, second-slot}
use Rattle.steps_placing.proofs.DecidingLaws.{decided-~}

-- A candidate beneath the matches of a condition, the last of them outermost.
asked : Cond → Candidate → Candidate
asked [] x = x
asked (p ∷ M) x = asked M (matching p.0 p.1 x)

onto : Cond → Cond → Cond
onto [] L = L
onto (p ∷ M) L = onto M (p ∷ L)

asked-step : (M L : Cond) (α : Act) (A : Term) → asked M (step L α A) ≡ step (onto M L) α A
unfolding asked onto matching
asked-step [] L α A = refl
asked-step (p ∷ M) L α A = asked-step M (p ∷ L) α A

asked-blocked : (M : Cond) → asked M blocked ≡ blocked
unfolding asked matching
asked-blocked [] = refl
asked-blocked (p ∷ M) = asked-blocked M

unif_onto : (f : ℕ → ℕ) (M L : Cond) → Unif f M → Unif f L → Unif f (onto M L)
unfolding onto
unif_onto f [] L u v = v
unif_onto f (p ∷ M) L u v = unif_onto f M (p ∷ L) u.1 (u.0, v)

of_unif_onto : (f : ℕ → ℕ) (M L : Cond) → Unif f (onto M L) → Unif f M × Unif f L
unfolding onto
of_unif_onto f [] L u = (tt, u)
of_unif_onto f (p ∷ M) L u = let (x, y) = of_unif_onto f M (p ∷ L) u in ((y.0, x), y.1)

onto_▷ : (M N L : Cond) → M ▷ N → onto M L ▷ onto N L
onto_▷ M N L i =
    let f = cls (onto M L) in
    let (x, y) = of_unif_onto f M L (E2 (onto M L)) in
    unif_onto f N L (▷-all f M N i x) y

asked-same : (d : ℕ) (M N : Cond) → M ~ N → (x : Candidate) → decided d (asked M x) ≡ decided d (asked N x)
asked-same d M N e (step L α A) =
    ap (decided d) (asked-step M L α A) ∙ decided-~ d (onto M L) (onto N L) (onto_▷ M N L e.0, onto_▷ N M L e.1) α A
    ∙ ap (decided d) (sym (asked-step N L α A))
asked-same d M N e blocked = ap (decided d) (asked-blocked M ∙ sym (asked-blocked N))

-- Conditions on names imply each other if they do on the slots of the names: a slot has one name.
module _ (d : ℕ) where
  name_of : ℕ → ℕ
  name_of t = cond (ltb t name_count) (t + d) (name_count + d - 1 - t)

  name_of_slot : (n : ℕ) → n < d + name_count → name_of (slot_of name_count d n) ≡ n
  unfolding name_of
  name_of_slot n h = go (ltb n d) refl
    where
      go : (t : Bool) → ltb n d ≡ t → cond (ltb (slot_of name_count d n) name_count) (slot_of name_count d n + d) (name_count + d - 1 - slot_of name_count d n) ≡ n
      go true t =
          let l = ltb-true n d t in
          let e = slot_bound name_count d n l in
          ap (λ (t : Bool). cond t (slot_of name_count d n + d) (name_count + d - 1 - slot_of name_count d n)) (le-ltb (slot_of name_count d n) name_count (omega arith)) ∙ omega arith
      go false t =
          let l = ltb-false n d t in
          let e = slot_free name_count d n l in
          ap (λ (t : Bool). cond t (slot_of name_count d n + d) (name_count + d - 1 - slot_of name_count d n)) (lt-ltb (slot_of name_count d n) name_count (omega arith)) ∙ omega arith

  abbrev on_slots : Cond → Cond
  on_slots M = map_p (slot_of name_count d) M

  names_of_slots : (M : Cond) → Below (d + name_count) M → map_p name_of (on_slots M) ≡ M
  unfolding Below
  names_of_slots [] b = refl
  names_of_slots (p ∷ M) b = λ i. (name_of_slot p.0 b.0 i, name_of_slot p.1 b.1 i) ∷ names_of_slots M b.2 i

  slots_▷ : (M N : Cond) → Below (d + name_count) M → Below (d + name_count) N → on_slots M ▷ on_slots N → M ▷ N
  slots_▷ M N b c i =
      subst (λ (M : Cond). M ▷ N) (names_of_slots M b)
      (subst (λ (N : Cond). map_p name_of (on_slots M) ▷ N) (names_of_slots N c) (map_p-▷ name_of (on_slots M) (on_slots N) i))

-- One match more.
pub chain_longer : (s : List ℕ) (at n q : ℕ) → q ≡ at + 3 * n → get_or s q 0 ≡ 5 → ((j : ℕ) → j < n → get_or s (at + 3 * j) 0 ≡ 5)
    → (j : ℕ) → j < n + 1 → get_or s (at + 3 * j) 0 ≡ 5
chain_longer s at n q e five before j h = ⊎_elim
    (λ z. ap (λ (k : ℕ). get_or s (at + 3 * k) 0) z ∙ ap (λ (k : ℕ). get_or s k 0) (sym e) ∙ five) (before j) (eq-or-lt_of_le {n = j} {m = n} (omega arith))

module _ (s args : List ℕ) (inner depth p j : ℕ) (x u y v : ℕ) (first : x ≡ get_or s (p + 3 * j + 1) 0) (at_first : u ≡ slot_at args inner depth x)
    (second : y ≡ get_or s (p + 3 * j + 2) 0) (at_second : v ≡ slot_at args inner depth y) where
  chain_more : (u, v) ∷ chain s args inner depth p j ≡ chain s args inner depth p (j + 1)
  unfolding chain
  chain_more =
      let e : suc j ≡ j + 1 = omega arith in
      (λ i. ((at_first ∙ ap (slot_at args inner depth) first) i, (at_second ∙ ap (slot_at args inner depth) second) i) ∷ chain s args inner depth p j)
      ∙ ap (chain s args inner depth p) e

  pub classes_more : (c r : List ℕ) → MergedIs c u v r → HasSlotClasses c (chain s args inner depth p j) → HasSlotClasses r (chain s args inner depth p (j + 1))
  unfolding MergedIs
  classes_more c r m h = subst (HasSlotClasses r) chain_more (m (chain s args inner depth p j) h)

  pub holds_more : (c : List ℕ) → u < slot_count → v < slot_count → get_or c u 0 ≡ get_or c v 0 → HoldsIs c s args inner depth p j → HoldsIs c s args inner depth p (j + 1)
  unfolding HoldsIs HasSlotClasses
  holds_more c a b e h M k = subst (λ (N : Cond). M ▷ N) chain_more (sym (k u a) ∙ e ∙ k v b, h M k)

-- The term beneath n matches, and the candidates by its own.
module _ (body : ℕ → Term) (calls : ℕ) (arities : List ℕ) (free D : ℕ) (σ : ℕ → ℕ) (s args : List ℕ) (inner depth : ℕ) (few : free ≤ name_count) (has : HasSlots free D args inner depth σ)
    (at : ℕ) (P : Term) (rest : List ℕ) where
  record Peeled (n : ℕ) : Type 0 where
    condition : Cond
    below : Below (depth + name_count) condition
    slots : map_p (slot_of name_count depth) condition ≡ chain s args inner depth at n
    term : Term
    scope : InScope free arities D term
    stands : drop (at + 3 * n) s ≡ encode D term ++ rest
    from : (c : Candidate) → c ∈ visible body calls (ren σ P) → (x : Candidate) × (x ∈ visible body calls (ren σ term)) × (c ≡ asked condition x)
    to : (x : Candidate) → x ∈ visible body calls (ren σ term) → asked condition x ∈ visible body calls (ren σ P)

  peel_more : (n : ℕ) → get_or s (at + 3 * n) 0 ≡ 5 → Peeled n → Peeled (suc n)
  unfolding Below chain encode InScope asked visible visible_of
  peel_more n five Q =
      only_mat (λ (T : Term). InScope free arities D T → drop (at + 3 * n) s ≡ encode D T ++ rest
      → ((c : Candidate) → c ∈ visible body calls (ren σ P) → (x : Candidate) × (x ∈ visible body calls (ren σ T)) × (c ≡ asked Q.condition x))
      → ((x : Candidate) → x ∈ visible body calls (ren σ T) → asked Q.condition x ∈ visible body calls (ren σ P)) → Peeled (suc n))
      (λ a b T scope st from to.
      let f = first_slot free D σ s args inner depth few has arities a b T (at + 3 * n) rest scope st in
      let g = second-slot free D σ s args inner depth few has arities a b T (at + 3 * n) rest scope st in
      let e : at + 3 * suc n ≡ at + 3 * n + 3 = omega arith in
      record {
        condition = (σ a, σ b) ∷ Q.condition;
        below = (f.1, g.1, Q.below);
        slots = λ i. (sym f.0 i, sym g.0 i) ∷ Q.slots i;
        term = T;
        scope = scope.2;
        stands = ap (λ (k : ℕ). drop k s) e ∙ behind s (at + 3 * n) 3 (5 ∷ name_byte D a ∷ name_byte D b ∷ []) (encode D T ++ rest) st refl;
        from = λ c m.
            let (x, i, k) = from c m in
            let (y, j, l) = ∈-mapped (matching (σ a) (σ b)) x (visible body calls (ren σ T)) i in
            (y, j, k ∙ ap (asked Q.condition) l);
        to = λ y j. to (matching (σ a) (σ b) y) (∈-map (matching (σ a) (σ b)) y (visible body calls (ren σ T)) j);
      })
      Q.term (sym (tag_at s (at + 3 * n) D Q.term rest Q.stands) ∙ five) Q.scope Q.stands Q.from Q.to

  peel : InScope free arities D P → drop at s ≡ encode D P ++ rest → (n : ℕ) → ((j : ℕ) → j < n → get_or s (at + 3 * j) 0 ≡ 5) → Peeled n
  unfolding Below chain asked
  peel scope st zero five =
      let e : at + 3 * 0 ≡ at = omega arith in
      record {
        condition = [];
        below = tt;
        slots = refl;
        term = P;
        scope = scope;
        stands = ap (λ (k : ℕ). drop k s) e ∙ st;
        from = λ c m. (c, m, refl);
        to = λ c m. m;
      }
  peel scope st (suc n) five = peel_more n (five n (omega arith)) (peel scope st n (λ j h. five j (omega arith)))

module _ (s : List ℕ) (p at : ℕ) (arities args : List ℕ) (inner depth : ℕ) where
  abbrev Branch : Bool → Type 0
  Branch r = SameBranchIs s p at arities args inner depth r

  pub branch_not : Branch false
  branch_not = record { is = λ e. let z : ◌≡◌ {A = ℕ} 0 1 = cc in absurd (omega arith) }

  -- the same term beneath matches that make the same condition
  module _ (m n : ℕ) (above-p : ChainIs s p m) (above_at : ChainIs s at n) (k : ℕ) (some : (k ≡ 0 → ⊥)) (S : SameIs s (p + 3 * m) (at + 3 * n) arities args inner depth k) where
    pub branch_same : (r : Bool) → (r ≡ true → chain s args inner depth p m ~ chain s args inner depth at n) → Branch r
    branch_same r same = record {
      is = λ e body calls free D σ P B x.
          let Q = peel body calls arities free D σ s args inner depth x.few x.has at P x.rest x.scope x.stands n above_at.matches in
          let C = peel body calls arities free D σ s args inner depth x.few x.has p B x.more x.scope_too x.stands_too m above-p.matches in
          let (_, one) = S.is (omega arith) free D σ Q.term C.term (record {
            few = x.few;
            has = x.has;
            scope = Q.scope;
            scope_too = C.scope;
            rest = x.rest;
            stands = Q.stands;
            more = x.more;
            stands_too = C.stands;
          }) in
          let (i, j) = same e in
          let back : Q.condition ▷ C.condition =
          slots_▷ depth Q.condition C.condition Q.below C.below
          (subst (λ (M : Cond). M ▷ map_p (slot_of name_count depth) C.condition) (sym Q.slots) (subst (λ (M : Cond). chain s args inner depth at n ▷ M) (sym C.slots) j)) in
          let forth : C.condition ▷ Q.condition =
          slots_▷ depth C.condition Q.condition C.below Q.below
          (subst (λ (M : Cond). M ▷ map_p (slot_of name_count depth) Q.condition) (sym C.slots) (subst (λ (M : Cond). chain s args inner depth p m ▷ M) (sym Q.slots) i)) in
          λ c l.
          let (y, h, q) = Q.from c l in (
            asked C.condition y,
            C.to y (subst (λ (T : Term). y ∈ visible body calls T) one h),
            ap (decided depth) q ∙ asked-same depth Q.condition C.condition (back, forth) y,
          );
    }

    -- no match
    pub branch_plain : n ≡ 0 → Branch (eqb m 0)
    unfolding chain
    branch_plain z = branch_same (eqb m 0) (λ e.
        subst (λ (m : ℕ). chain s args inner depth p m ~ chain s args inner depth at n) (sym (eqb-true m 0 e))
        (subst (λ (n : ℕ). chain s args inner depth p 0 ~ chain s args inner depth at n) (sym z) (~_refl [])))
