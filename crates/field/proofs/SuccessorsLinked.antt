-- Theorem `successors_linked`: what `successors` computes of a proper situation is what the published transitions say. Assumes nothing.
use borrow.Author.Tests.{eq-eqb, eqb-true}
use mathlib.Core.Bool.{Bool, true, false, cond, ◌&&◌, ◌||◌, or-true}
use mathlib.Core.List.{List, [], ◌∷◌, ◌++◌}
use mathlib.Core.Logic.{◌≢◌, ◌⊎◌, inl, inr, ⊎_elim, ◌↔◌}
use mathlib.Core.Path.{◌≡◌, refl, sym, ◌∙◌, ap, subst}
use native.Mathlib.Decide.{ℕ_discrete}
use native.Mathlib.Omega.{arith}
use Prim.Native.Nat.{ℕ, suc, ◌<◌, ◌≤◌}
use lib.Dec.{eqb}
use Rattle.calculus.specs.Term.{Term, ren, put}
use Rattle.calculus.specs.Free.{In, Free}
use Rattle.calculus.specs.Cond.{Pairs, Cond, cls}
use Rattle.calculus.specs.Distinction.{Apart, Irr, Resp}
use Rattle.calculus.specs.Definitions.{Defs}
use Rattle.calculus.specs.Published.{Action, silent, input, output, new_output, bound_names, Transition}
use Rattle.late_early.specs.Concrete.{Concrete}
use Rattle.calculus.proofs.Binding.{put_self, put_other}
use Rattle.late_early.proofs.ConcreteSteps.{concrete_transition, transition_concrete}
use Rattle.calculus.specs.OpenBisimulation.{update}
use Rattle.calculus.proofs.Conditions.{cls_le}
use Rattle.calculus.proofs.Distinctions.{apart_at}
use Rattle.calculus.proofs.FreeNames.{of_free_ren}
use Rattle.calculus.proofs.PublishedBisimulation.{AwayFrom, update_irr}
use Rattle.calculus.proofs.UpToRenaming.{Either}
use Rattle.terms.specs.Encoding.{InScope}
use Rattle.terms.proofs.Answers.{both_true, true_both}
use Rattle.terms.proofs.ScopeLaws.{free_below}
use Rattle.calculus.specs.Lists.{◌∈◌}
use Rattle.calculus.proofs.Membership.{∈-left, ∈_right}
use Rattle.steps.proofs.Scope.{scope_calls, in_scope, calls_ren}
use Rattle.calls.specs.ReachLimit.{PastCalls}
use Rattle.steps.specs.Limits.{most_reached}
use Rattle.steps.specs.Derived.{Derived, TooMany, TooLong, ListsExactly}
use Rattle.steps.specs.Listed.{ListedStep, kind_of, object_of, listed_as}
use Rattle.steps.specs.Listing.{Listing, unsettled, listed, listing}
use Rattle.steps.proofs.FormLaws.{form_scope}
use Rattle.steps.proofs.ListingLaws.{listing_exact}
use Rattle.field.specs.Setting.{Setting, steps_in}
use Rattle.field.specs.Situation.{Situation, free_in}
use Rattle.field.specs.Successors.{binds_name, some_binds, received, moves, past_limit, leads, led_to, with_steps, successors}
use Rattle.field.specs.Exploration.{together}
use Rattle.field.specs.Field.{fresh, Move, Successor, first_moving, second_moving, both_do, both_receive, PartPast, too_many, too_long, too_many_calls, no_name, Past}
use Rattle.field.proofs.Link.{SettingFor, first_moves, second_moves, ListOf, ListOfSome, from_first, from_second, LeadsWithin, LeadsExactly, ListedFor, Linked}
use Rattle.field.proofs.Members.{∈_either}
use Rattle.field.proofs.MoveLaws.{move_scope}
use Rattle.field.proofs.NameLimit.{binding_move, move_binds}
use Rattle.field.proofs.Moves.{put_same}
use Rattle.field.proofs.NamedSide.{Matched, matched, of_matched}
use Rattle.field.proofs.NewNames.{new_within, new_away}
use Rattle.field.proofs.OneSide.{move_listed, listed_move_lem}
use Rattle.field.specs.Situation.{Proper}
use Rattle.field.proofs.Proper.{situation_agreed, situation_proper, either_below, free_either, either_free, free_from_lem, from_free}
use Rattle.field.proofs.Unseen.{∈-together, together-∈}

-- an input binds a name
some_binds_lem : (ss : List ListedStep) (r : ListedStep) → r ∈ ss → r.kind ≡ 1 → some_binds ss ≡ true
unfolding some_binds binds_name
some_binds_lem [] r x'' k = elim x'' [ ]
some_binds_lem (s ∷ ss) r (inl e) k = rw (eq-eqb s.kind 1 (ap (λ u. u.kind) (sym e) ∙ k)) refl
some_binds_lem (s ∷ ss) r (inr i) k = rw (some_binds_lem ss r i k, or-true) refl

-- Rewriting by classes keeps a term in scope.
class_scope : (names : ℕ) (arities : List ℕ) (M : Cond) (Q : Term) → InScope names arities 0 Q → InScope names arities 0 (ren (cls M) Q)
class_scope names arities M Q g =
    in_scope names arities 0 (ren (cls M) Q)
    (λ n f.
    let (k, h, e) = of_free_ren (cls M) Q n f in
    let l = free_below names arities 0 Q g k h in
    omega (arith, cls_le M k))
    (calls_ren arities Q (cls M) (scope_calls names arities 0 Q g))

-- A received name that is one of the names keeps a term in scope.
put_scope : (names : ℕ) (arities : List ℕ) (x y : ℕ) (P : Term) → y < names → InScope names arities 0 P → InScope names arities 0 (ren (put x y) P)
put_scope names arities x y P l g =
    in_scope names arities 0 (ren (put x y) P)
    (λ n f.
    let (k, h, e) = of_free_ren (put x y) P n f in
    let b = free_below names arities 0 P g k h in
    let r = go n k e (omega arith) (ℕ_discrete k x) in
    omega arith)
    (calls_ren arities P (put x y) (scope_calls names arities 0 P g))
  where
    go : (n k : ℕ) → n ≡ put x y k → k < names → Dec (k ≡ x) → n < names
    go n k e b (yes q) = omega (arith, put_self x y k q)
    go n k e b (no q) = omega (arith, put_other x y k q)

swapped : (n : ℕ) (P Q : Term) → Either n P Q → Either n Q P
swapped n P Q (inl f) = inr f
swapped n P Q (inr f) = inl f

-- The situations of the two orders of results depend on the pairs only.
same_first : (S : Setting) (Δ : Defs) (P Q : Term) (D E : Pairs) → ((a b : ℕ) → Apart D a b ↔ Apart E a b)
    → first_moves Δ S P Q D ≡ first_moves Δ S P Q E
same_first S Δ P Q D E h = situation_agreed S.names P Q D E (λ a b i j. h a b)

same_second : (S : Setting) (Δ : Defs) (P Q : Term) (D E : Pairs) → ((a b : ℕ) → Apart D a b ↔ Apart E a b)
    → second_moves Δ S P Q D ≡ second_moves Δ S P Q E
same_second S Δ P Q D E h = situation_agreed S.names Q P D E (λ a b i j. h a b)

-- Definition 15 gives a distinction.
move_irr : (Δ : Defs) (S : Setting) {x : ℕ} {P : Term} (m : Move Δ S x P) (Q : Term) (D : Pairs) → ¬ Free x Q → ((b : ℕ) → ¬ Apart D x b) → Resp m.condition D
    → Irr (update D P Q m.action m.condition)
move_irr Δ S {x} {P} m Q D new apart r =
    update_irr Δ D P Q m.transition (λ y i f. new (subst (λ z. Free z Q) (m.binds y i) f))
    (λ y b i d. apart b (apart_at D (sym (m.binds y i)) refl d)) r

module _ (Δ : Defs) (S : Setting) (arities : List ℕ) (set : SettingFor Δ S arities) (s : Situation) (proper : Proper S.names arities s) where
  abbrev x : ℕ
  x = fresh Δ S s

  away : AwayFrom x s.first s.second s.apart
  away = new_away S.names arities s proper

  free_below_names : (n : ℕ) → Either n s.first s.second → n < S.names
  free_below_names = either_below S.names arities s.first s.second proper.first proper.second

  x_within : x ≤ S.names
  x_within = new_within S.names s.first s.second free_below_names

  -- a part's list, also where the new name is the one behind the names
  part_exact : (P : Term) → InScope S.names arities 0 P → ¬ Free x P
      → ListsExactly S.form Δ S.names S.longest S.most x P (steps_in S x P)
  unfolding steps_in
  part_exact P scope new =
      let w = x_within in
      let few = set.few in
      subst (λ b. ListsExactly S.form Δ S.names S.longest S.most x P (listing S.form S.names S.longest S.most b S.calls x P)) set.bodies
      (listing_exact set.formed Δ S.names (suc S.names) (omega arith) arities set.calls x (omega arith) P scope
      S.longest S.calls (set.opens P (scope_calls S.names arities 0 P scope)) new (omega arith) S.most)

  abbrev Exact : Term → Listing → Type 0
  Exact P l = ListsExactly S.form Δ S.names S.longest S.most x P l

  abbrev Steps : Term → List ListedStep → Type 0
  Steps P ss = (r : ListedStep) → (r ∈ ss) ↔ Derived S.form Δ S.names x P r

  -- the limit of names, tested
  abbrev test : List ListedStep → List ListedStep → Bool
  test ps qs = eqb x S.names && (some_binds ps || some_binds qs)

  test-past : (ps qs : List ListedStep) → Steps s.first ps → Steps s.second qs → test ps qs ≡ true → Past Δ S s
  test-past ps qs f g h =
      let (e, k) = both_true (eqb x S.names) (some_binds ps || some_binds qs) h in
      go (eqb-true x S.names e) (some_binds ps) refl k
    where
      go : x ≡ S.names → (b : Bool) → some_binds ps ≡ b → (b || some_binds qs) ≡ true → Past Δ S s
      go e true j k = let (m, y, i) = binding_move Δ S ps f j in inl (no_name e m y i)
      go e false j k = let (m, y, i) = binding_move Δ S qs g k in inr (no_name e m y i)

  first-test : (ps qs : List ListedStep) → Steps s.first ps → x ≡ S.names → (m : Move Δ S x s.first) (y : ℕ) → In y (bound_names m.action)
      → test ps qs ≡ true
  first-test ps qs f e m y i =
      true_both (eqb x S.names) (some_binds ps || some_binds qs) (eq-eqb x S.names e) (ap (λ b. b || some_binds qs) (move_binds Δ S ps f m y i))

  second-test : (ps qs : List ListedStep) → Steps s.second qs → x ≡ S.names → (m : Move Δ S x s.second) (y : ℕ) → In y (bound_names m.action)
      → test ps qs ≡ true
  second-test ps qs g e m y i =
      true_both (eqb x S.names) (some_binds ps || some_binds qs) (eq-eqb x S.names e) (go (some_binds ps) (move_binds Δ S qs g m y i))
    where
      go : (b : Bool) → some_binds qs ≡ true → (b || some_binds qs) ≡ true
      go true h = refl
      go false h = h

  -- The limits.
  part_past : {P : Term} → TooMany S.form Δ S.names S.most x P ⊎ TooLong S.form Δ S.names S.longest x P ⊎ PastCalls Δ most_reached P
      → PartPast Δ S x P
  part_past (inl h) = too_many h
  part_past (inr (inl h)) = too_long h
  part_past (inr (inr h)) = too_many_calls h

  past_limit_lem : (l k : Listing) → Exact s.first l → Exact s.second k → with_steps S s l k ≡ past_limit → Past Δ S s
  unfolding with_steps led_to
  past_limit_lem unsettled k e f h = inl (part_past (e.limits.0 refl))
  past_limit_lem (listed ps) unsettled e f h = inr (part_past (f.limits.0 refl))
  past_limit_lem (listed ps) (listed qs) e f h = go (test ps qs) refl _ h
    where
      go : (b : Bool) → test ps qs ≡ b → (ms : List (List Situation)) → cond b past_limit (leads ms) ≡ past_limit → Past Δ S s
      go true j ms h = test-past ps qs (e.members ps refl) (f.members qs refl) j
      go false j ms h = let z : ◌≡◌ {A = ℕ} 0 1 = cc in absurd (omega arith)

  limit_past : (l k : Listing) → Exact s.first l → Exact s.second k → Past Δ S s → with_steps S s l k ≡ past_limit
  unfolding with_steps led_to
  limit_past unsettled k e f h = refl
  limit_past (listed ps) unsettled e f h = refl
  limit_past (listed ps) (listed qs) e f h = limit (test ps qs) _ (go h)
    where
      limit : (b : Bool) (ms : List (List Situation)) → b ≡ true → cond b past_limit (leads ms) ≡ past_limit
      limit true ms d = refl
      limit false ms d = let z : ◌≡◌ {A = ℕ} 0 1 = cc in absurd (omega arith)

      settled : {A : Type 0} {ss : List ListedStep} → listed ss ≡ unsettled → A
      settled d = let z : ◌≡◌ {A = ℕ} 0 1 = cc in absurd (omega arith)

      go : Past Δ S s → test ps qs ≡ true
      go (inl (too_many k)) = settled (e.limits.1 (inl k))
      go (inl (too_long k)) = settled (e.limits.1 (inr (inl k)))
      go (inl (too_many_calls k)) = settled (e.limits.1 (inr (inr k)))
      go (inl (no_name d m y i)) = first-test ps qs (e.members ps refl) d m y i
      go (inr (too_many k)) = settled (f.limits.1 (inl k))
      go (inr (too_long k)) = settled (f.limits.1 (inr (inl k)))
      go (inr (too_many_calls k)) = settled (f.limits.1 (inr (inr k)))
      go (inr (no_name d m y i)) = second-test ps qs (f.members qs refl) d m y i

  -- Within the limits.
  module _ (ps qs : List ListedStep) (f : Steps s.first ps) (g : Steps s.second qs) (within : test ps qs ≡ false) where
    F : List ℕ
    F = free_in S.names s.first s.second

    abbrev firsts : Bool → List (List Situation)
    firsts differ = moves differ S.names (first_moves Δ S) F s.apart ps qs

    abbrev seconds : Bool → List (List Situation)
    seconds differ = moves differ S.names (second_moves Δ S) F s.apart qs ps

    abbrev both : Bool → List (List Situation)
    both differ = firsts differ ++ seconds differ

    free : (n : ℕ) → In n F ↔ Either n s.first s.second
    unfolding F
    free n = (free_either S.names s.first s.second n, either_free S.names s.first s.second free_below_names n)

    free_swapped : (n : ℕ) → In n F ↔ Either n s.second s.first
    free_swapped n = (λ i. swapped n s.first s.second ((free n).0 i), λ h. (free n).1 (swapped n s.second s.first h))

    abbrev BindsNew : Action → Type 0
    BindsNew α = (y : ℕ) → In y (bound_names α) → y ≡ x

    -- what is received where all names differ
    data OfferedAt (α : Action) (y : ℕ) : Type 0 where
      own_name : y ≡ object_of α → ((a z : ℕ) → α ≢ input a z) → OfferedAt α y
      a_name : (a z : ℕ) → α ≡ input a z → (y ≡ z) ⊎ Free y s.first ⊎ Free y s.second → OfferedAt α y

    offered-at : (α : Action) (R : Term) (y : ℕ) → y ∈ received true S.names F (listed_as S.names [] α R) → OfferedAt α y
    unfolding received listed_as kind_of object_of
    offered-at silent R y (inr x3) = elim x3 [ ]
    offered-at (output a b) R y (inr x4) = elim x4 [ ]
    offered-at (new_output a z) R y (inr x5) = elim x5 [ ]
    offered-at silent R y (inl e) = own_name e (λ a z q. let w : ◌≡◌ {A = ℕ} 0 1 = cc in omega arith)
    offered-at (input a z) R y i = a_name a z refl (go (free_from_lem (z ∷ F) 0 S.names y i))
      where
        go : In y (z ∷ F) → (y ≡ z) ⊎ Free y s.first ⊎ Free y s.second
        go (inl e) = inl e
        go (inr j) = inr ((free y).0 j)
    offered-at (output a b) R y (inl e) = own_name e (λ a z q. let w : ◌≡◌ {A = ℕ} 0 1 = cc in omega arith)
    offered-at (new_output a z) R y (inl e) = own_name e (λ a z q. let w : ◌≡◌ {A = ℕ} 0 1 = cc in omega arith)

    own-offered : (α : Action) (R : Term) → ((a z : ℕ) → α ≢ input a z) → object_of α ∈ received true S.names F (listed_as S.names [] α R)
    unfolding received listed_as kind_of object_of
    own-offered silent R h = inl refl
    own-offered (input a z) R h = absurd (h a z refl)
    own-offered (output a b) R h = inl refl
    own-offered (new_output a z) R h = inl refl

    input-offered : (a : ℕ) (R : Term) (y : ℕ) → (y ≡ x) ⊎ Free y s.first ⊎ Free y s.second → x < S.names
        → y ∈ received true S.names F (listed_as S.names [] (input a x) R)
    unfolding received listed_as kind_of object_of
    input-offered a R y (inl e) l = from_free (x ∷ F) 0 S.names y (inl e) (omega arith) (omega arith)
    input-offered a R y (inr h) l = from_free (x ∷ F) 0 S.names y (inr ((free y).1 h)) (omega arith) (let b = free_below_names y h in omega arith)

    -- where a step by α and its answer lead, with the name y received
    abbrev received-at : Action → ℕ → Term → Term → Situation
    received-at α y A B = first_moves Δ S (S.form (ren (put (object_of α) y) A)) (S.form (ren (put (object_of α) y) B)) []

    own-received : (α : Action) (A B : Term) → received-at α (object_of α) A B ≡ first_moves Δ S (S.form A) (S.form B) []
    own-received α A B = λ j. first_moves Δ S (S.form (put_same (object_of α) A j)) (S.form (put_same (object_of α) B j)) []

    named-successor : S.differ ≡ true → (t : Situation) (α : Action) → BindsNew α → (A B : Term) → Concrete Δ s.first α A → Concrete Δ s.second α B → (y : ℕ)
        → OfferedAt α y → t ≡ received-at α y A B → Successor Δ S s t
    unfolding object_of
    named-successor o t α b A B u v y (own_name e h) q =
        both_do o α b h A B (concrete_transition Δ u (λ z i k. away.left (subst (λ n. Free n s.first) (b z i) k)))
        (concrete_transition Δ v (λ z i k. away.right (subst (λ n. Free n s.second) (b z i) k)))
        (q ∙ ap (λ z. received-at α z A B) e ∙ own-received α A B)
    named-successor o t α b A B u v y (a_name a z e h) q =
        let d : z ≡ x = b z (subst (λ β. In z (bound_names β)) (sym e) (inl refl)) in
        let k : α ≡ input a x = e ∙ ap (input a) d in
        both_receive o a y (subst (λ n. (y ≡ n) ⊎ Free y s.first ⊎ Free y s.second) d h) A B
        (subst (λ β. Transition Δ s.first [] β A) k (concrete_transition Δ u (λ z i k. away.left (subst (λ n. Free n s.first) (b z i) k))))
        (subst (λ β. Transition Δ s.second [] β B) k (concrete_transition Δ v (λ z i k. away.right (subst (λ n. Free n s.second) (b z i) k))))
        (subst (λ β. t ≡ received-at β y A B) k q)

    first-listed : (m : Move Δ S x s.first) → Resp m.condition s.apart
        → (w : List Situation) × (w ∈ (both false)) × ListOf Δ S (first_moves Δ S) s.apart s.second m w
    first-listed m r =
        let (w, k, l) =
        move_listed Δ S set.formed arities x s.first s.second proper.first proper.second away.left F free ps qs f g
        (first_moves Δ S) (same_first S Δ) s.apart m r in
        (w, ∈-left w (firsts false) (seconds false) k, l)

    second-listed : (m : Move Δ S x s.second) → Resp m.condition s.apart
        → (w : List Situation) × (w ∈ (both false)) × ListOf Δ S (second_moves Δ S) s.apart s.first m w
    second-listed m r =
        let (w, k, l) =
        move_listed Δ S set.formed arities x s.second s.first proper.second proper.first away.right F free_swapped qs ps g f
        (second_moves Δ S) (same_second S Δ) s.apart m r in
        (w, ∈_right w (firsts false) (seconds false) k, l)

    each-listed : (w : List Situation) → w ∈ (both false) → ListOfSome Δ S s w
    each-listed w k = go (∈_either w (firsts false) (seconds false) k)
      where
        go : (w ∈ firsts false) ⊎ (w ∈ seconds false) → ListOfSome Δ S s w
        go (inl j) =
            let (m, l) =
            listed_move_lem Δ S set.formed arities x s.first s.second proper.first proper.second away.left F free ps qs f g
            (first_moves Δ S) (same_first S Δ) s.apart w j in
            from_first m l
        go (inr j) =
            let (m, l) =
            listed_move_lem Δ S set.formed arities x s.second s.first proper.second proper.first away.right F free_swapped qs ps g f
            (second_moves Δ S) (same_second S Δ) s.apart w j in
            from_second m l

    member : S.differ ≡ false → (t : Situation) → t ∈ together (both false) → Successor Δ S s t
    member o t k = let (w, j, i) = together-∈ (both false) t k in go (each-listed w j) i
      where
        go : {w : List Situation} → ListOfSome Δ S s w → t ∈ w → Successor Δ S s t
        go (from_first m l) i = let r = (l.members t).0 i in first_moving o m r.answer l.permitted r.matches r.result
        go (from_second m l) i = let r = (l.members t).0 i in second_moving o m r.answer l.permitted r.matches r.result

    of_member : (t : Situation) → S.differ ≡ false → Successor Δ S s t → t ∈ together (both false)
    of_member t o (first_moving p m n r h e) =
        let (w, k, l) = first-listed m r in
        ∈-together (both false) w t k ((l.members t).1 (record { answer = n; matches = h; result = e }))
    of_member t o (second_moving p m n r h e) =
        let (w, k, l) = second-listed m r in
        ∈-together (both false) w t k ((l.members t).1 (record { answer = n; matches = h; result = e }))
    of_member t o (both_do p α b i A B u v e) = let z : ◌≡◌ {A = ℕ} 0 1 = cc in absurd (omega arith)
    of_member t o (both_receive p a y i A B u v e) = let z : ◌≡◌ {A = ℕ} 0 1 = cc in absurd (omega arith)

    -- a bound name is one of the names
    below_names : (y : ℕ) → y ≡ x → (x ≡ S.names → test ps qs ≡ true) → y < S.names
    below_names y e h = go (ℕ_discrete x S.names)
      where
        go : Dec (x ≡ S.names) → y < S.names
        go (yes d) = let z : ◌≡◌ {A = ℕ} 0 1 = cc (h d) in absurd (omega arith)
        go (no d) = let w = x_within in omega arith

    first_scope : (m : Move Δ S x s.first) → InScope S.names arities 0 m.result
    first_scope m =
        move_scope Δ S m arities proper.first set.calls (λ y i. below_names y (m.binds y i) (λ e. first-test ps qs f e m y i))

    second_scope : (m : Move Δ S x s.second) → InScope S.names arities 0 m.result
    second_scope m =
        move_scope Δ S m arities proper.second set.calls (λ y i. below_names y (m.binds y i) (λ e. second-test ps qs g e m y i))

    stays : (P : Term) → InScope S.names arities 0 P → InScope S.names arities 0 (S.form P)
    stays = form_scope set.formed S.names arities 0

    successor_proper : (t : Situation) → Successor Δ S s t → Proper S.names arities t
    successor_proper t (first_moving o m n r h e) =
        subst (Proper S.names arities) (sym e)
        (situation_proper S.names arities (S.form m.result) (S.form (ren (cls m.condition) n.result)) (stays m.result (first_scope m))
        (stays (ren (cls m.condition) n.result) (class_scope S.names arities m.condition n.result (second_scope n)))
        (update s.apart s.first s.second m.action m.condition) (move_irr Δ S m s.second s.apart away.right away.dist r))
    successor_proper t (second_moving o m n r h e) =
        subst (Proper S.names arities) (sym e)
        (situation_proper S.names arities (S.form (ren (cls m.condition) n.result)) (S.form m.result)
        (stays (ren (cls m.condition) n.result) (class_scope S.names arities m.condition n.result (first_scope n))) (stays m.result (second_scope m))
        (update s.apart s.second s.first m.action m.condition) (move_irr Δ S m s.first s.apart away.left away.dist r))
    successor_proper t (both_do o α b i A B u v e) =
        subst (Proper S.names arities) (sym e)
        (situation_proper S.names arities (S.form A) (S.form B)
        (stays A (first_scope (record { condition = []; action = α; result = A; transition = u; binds = b })))
        (stays B (second_scope (record { condition = []; action = α; result = B; transition = v; binds = b }))) [] (λ a c d. absurd d))
    successor_proper t (both_receive o a y i A B u v e) =
        subst (Proper S.names arities) (sym e)
        (situation_proper S.names arities (S.form (ren (put x y) A)) (S.form (ren (put x y) B))
        (received_scope A (first_scope (record { condition = []; action = input a x; result = A; transition = u; binds = binds_new_lem })))
        (received_scope B (second_scope (record { condition = []; action = input a x; result = B; transition = v; binds = binds_new_lem })))
        [] (λ a c d. absurd d))
      where
        binds_new_lem : (z : ℕ) → In z (x ∷ []) → z ≡ x
        binds_new_lem z (inr x3) = elim x3 [ ]
        binds_new_lem z (inl q) = q

        received-below : (y ≡ x) ⊎ Free y s.first ⊎ Free y s.second → y < S.names
        received-below (inl q) =
            below_names y q (λ d. first-test ps qs f d (record { condition = []; action = input a x; result = A; transition = u; binds = binds_new_lem }) x (inl refl))
        received-below (inr h) = free_below_names y h

        received_scope : (T : Term) → InScope S.names arities 0 T → InScope S.names arities 0 (S.form (ren (put x y) T))
        received_scope T g = stays (ren (put x y) T) (put_scope S.names arities x y T (received-below i) g)

    -- Where all names differ.
    named-first : (t : Situation) → Matched Δ S arities x s.first s.second proper.first proper.second away.left away.right ps qs f g set.formed (first_moves Δ S) F s.apart t
        → S.differ ≡ true → Successor Δ S s t
    named-first t m o =
        named-successor o t m.action m.binds m.left m.right m.moving m.answering m.name (offered-at m.action (S.form m.left) m.name m.offered) m.is

    named-second : (t : Situation) → Matched Δ S arities x s.second s.first proper.second proper.first away.right away.left qs ps g f set.formed (second_moves Δ S) F s.apart t
        → S.differ ≡ true → Successor Δ S s t
    named-second t m o =
        named-successor o t m.action m.binds m.right m.left m.answering m.moving m.name (offered-at m.action (S.form m.left) m.name m.offered) m.is

    named-member : S.differ ≡ true → (t : Situation) → t ∈ together (both true) → Successor Δ S s t
    named-member o t k = let (w, j, i) = together-∈ (both true) t k in go w i (∈_either w (firsts true) (seconds true) j)
      where
        go : (w : List Situation) → t ∈ w → (w ∈ firsts true) ⊎ (w ∈ seconds true) → Successor Δ S s t
        go w i (inl j) =
            named-first t (matched Δ S arities x s.first s.second proper.first proper.second away.left away.right ps qs f g set.formed (first_moves Δ S) F s.apart w j t i) o
        go w i (inr j) =
            named-second t (matched Δ S arities x s.second s.first proper.second proper.first away.right away.left qs ps g f set.formed (second_moves Δ S) F s.apart w j t i) o

    of_named : (t : Situation) → (α : Action) → BindsNew α → (A B : Term) → Transition Δ s.first [] α A → Transition Δ s.second [] α B → (y : ℕ)
        → y ∈ received true S.names F (listed_as S.names [] α (S.form A)) → t ≡ received-at α y A B → t ∈ together (both true)
    of_named t α b A B u v y i e =
        let (w, k, l) = of_matched Δ S arities x s.first s.second proper.first proper.second away.left away.right ps qs f g set.formed (first_moves Δ S) F s.apart t
        (record { action = α; binds = b; left = A; moving = (transition_concrete Δ u tt).0; right = B; answering = (transition_concrete Δ v tt).0; name = y; offered = i; is = e }) in
        ∈-together (both true) w t (∈-left w (firsts true) (seconds true) k) l

    of_named_member : (t : Situation) → S.differ ≡ true → Successor Δ S s t → t ∈ together (both true)
    unfolding object_of
    of_named_member t o (first_moving p m n r h e) = let z : ◌≡◌ {A = ℕ} 0 1 = cc in absurd (omega arith)
    of_named_member t o (second_moving p m n r h e) = let z : ◌≡◌ {A = ℕ} 0 1 = cc in absurd (omega arith)
    of_named_member t o (both_do p α b i A B u v e) =
        of_named t α b A B u v (object_of α) (own-offered α (S.form A) i) (e ∙ sym (own-received α A B))
    of_named_member t o (both_receive p a y i A B u v e) =
        of_named t (input a x) binds_new_lem A B u v y
        (input-offered a (S.form A) y i (below_names x refl (λ d. first-test ps qs f d (record { condition = []; action = input a x; result = A; transition = u; binds = binds_new_lem }) x (inl refl)))) e
      where
        binds_new_lem : (z : ℕ) → In z (x ∷ []) → z ≡ x
        binds_new_lem z (inr x3) = elim x3 [ ]
        binds_new_lem z (inl q) = q

    leads_within : LeadsWithin Δ S arities s (both S.differ)
    leads_within = record { members = λ t. (to t, from t); proper = λ t k. successor_proper t (to t k) }
      where
        to : (t : Situation) → t ∈ together (both S.differ) → Successor Δ S s t
        to t = go S.differ refl
          where
            go : (b : Bool) → S.differ ≡ b → t ∈ together (both b) → Successor Δ S s t
            go false o k = member o t k
            go true o k = named-member o t k

        from : (t : Situation) → Successor Δ S s t → t ∈ together (both S.differ)
        from t = go S.differ refl
          where
            go : (b : Bool) → S.differ ≡ b → Successor Δ S s t → t ∈ together (both b)
            go false o q = of_member t o q
            go true o q = of_named_member t o q

    leads_exactly : S.differ ≡ false → LeadsExactly Δ S arities s (both S.differ)
    leads_exactly o =
        subst (λ b. LeadsExactly Δ S arities s (both b)) (sym o) (record { each = each-listed; first = first-listed; second = second-listed })

    first_binds : (r : ListedStep) → r ∈ ps → r.kind ≡ 1 → x < S.names
    first_binds r i e = below_names x refl (λ d. true_both (eqb x S.names) (some_binds ps || some_binds qs) (eq-eqb x S.names d) (ap (λ b. b || some_binds qs) (some_binds_lem ps r i e)))

    second_binds : (r : ListedStep) → r ∈ qs → r.kind ≡ 1 → x < S.names
    second_binds r i e =
        below_names x refl
        (λ d. true_both (eqb x S.names) (some_binds ps || some_binds qs) (eq-eqb x S.names d) (rw (some_binds_lem qs r i e, or-true) refl))

    listed_for : steps_in S x s.first ≡ listed ps → steps_in S x s.second ≡ listed qs → ListedFor Δ S arities s (both S.differ)
    unfolding F
    listed_for d e = record {
      firsts = ps;
      seconds = qs;
      first_list = d;
      second_list = e;
      first_steps = f;
      second_steps = g;
      receives = λ r i k. ⊎_elim (λ j. first_binds r j k) (λ j. second_binds r j k) i;
      is = refl;
    }

  -- what holds of the lists holds of those that `successors` gives
  given_lists : (l k : Listing) → Exact s.first l → Exact s.second k → (X : List (List Situation) → Type 0)
      → ((ps qs : List ListedStep) → l ≡ listed ps → k ≡ listed qs → (f : Steps s.first ps) (g : Steps s.second qs) (w : test ps qs ≡ false) → X (both ps qs f g w S.differ))
      → (ms : List (List Situation)) → with_steps S s l k ≡ leads ms → X ms
  unfolding with_steps led_to F
  given_lists unsettled k e f X h ms d = let z : ◌≡◌ {A = ℕ} 0 1 = cc in absurd (omega arith)
  given_lists (listed ps) unsettled e f X h ms d = let z : ◌≡◌ {A = ℕ} 0 1 = cc in absurd (omega arith)
  given_lists (listed ps) (listed qs) e f X h ms d = go (test ps qs) refl _ d (h ps qs refl refl (e.members ps refl) (f.members qs refl))
    where
      go : (b : Bool) → test ps qs ≡ b → (ns : List (List Situation)) → cond b past_limit (leads ns) ≡ leads ms
          → (test ps qs ≡ false → X ns) → X ms
      go true j ns d r = let z : ◌≡◌ {A = ℕ} 0 1 = cc in absurd (omega arith)
      go false j ns d r = let q : ns ≡ ms = cc in subst X q (r j)

  pub successors_linked : Linked Δ S arities s
  unfolding successors
  successors_linked =
      let l = part_exact s.first proper.first away.left in
      let k = part_exact s.second proper.second away.right in
      record {
        past = (
          past_limit_lem (steps_in S x s.first) (steps_in S x s.second) l k,
          limit_past (steps_in S x s.first) (steps_in S x s.second) l k,
        );
        given = given_lists (steps_in S x s.first) (steps_in S x s.second) l k (LeadsWithin Δ S arities s) (λ ps qs d e f g w. leads_within ps qs f g w);
        open_given = λ o.
            given_lists (steps_in S x s.first) (steps_in S x s.second) l k (LeadsExactly Δ S arities s) (λ ps qs d e f g w. leads_exactly ps qs f g w o);
        lists = given_lists (steps_in S x s.first) (steps_in S x s.second) l k (ListedFor Δ S arities s) (λ ps qs d e f g w. listed_for ps qs f g w d e);
      }
