-- The result of a step that a term makes in a part: the part with the term's own result in the term's place. Assumes nothing.
use mathlib.Core.Path.{◌≡◌, refl, sym, ap, ap₂, subst, ◌∙◌, fun_ext}
use mathlib.Core.Bool.{Bool, true, false, cond}
use mathlib.Core.List.{List, [], ◌∷◌, ◌++◌}
use Prim.Native.Nat.{ℕ, zero, suc, ◌+◌, ◌-◌, ◌<◌, ◌≤◌}
use native.Mathlib.Omega.{arith}
use borrow.Author.Tests.{leb-true, leb-false}
use lib.Dec.{leb}
use lib.ListN.{length, get_or, take, drop, length-append}
use lib.Seq.{sets, length-sets, take_at, take_all, drop-drop, drop-append_seam}
use Rattle.calculus.specs.Abstraction.{Act, tau_a, inp_a, out_a, bout_a, weak, swap}
use Rattle.calculus.specs.Cond.{Cond, map_p}
use Rattle.calculus.specs.Term.{Term, par, res, ren, lift, ◌•◌}
use Rattle.calculus.proofs.Renaming.{lift_id, ren_id, ren_triangle}
use Rattle.terms.specs.Encoding.{encode}
use Rattle.terms.specs.Limits.{name_count, longest_term}
use Rattle.terms.specs.Question.{Question}
use Rattle.terms_bytes.proofs.Stores.{sets-join}
use Rattle.terms.specs.Question.{body_of}
use Rattle.terms_bytes.specs.Shape.{height}
use Rattle.terms.proofs.RenamingKeeps.{length-ren}
use Rattle.steps_plans.proofs.ResultLaws.{written_of}
use Rattle.steps_conditions.specs.Names.{OwnNames}
use Rattle.steps_tallies.specs.Candidates.{candidates}
use Rattle.steps.specs.Forms.{as_it_is}
use Rattle.steps.specs.Raw.{step, blocked, left_steps, right_steps, restricted_alone, outside, restricted_action, restricted}
use Rattle.steps_plans.specs.Plans.{receiving, chosen, Written, WriteIs}
use Rattle.steps_tallies.specs.Tally.{end_at, TallyIs}
use Rattle.steps_conditions.proofs.NameSlots.{names-own, new-own}
use Rattle.steps_plans.proofs.PlanLaws.{weak-received}
use Rattle.steps_tallies.proofs.OwnNames.{own_part}
use Rattle.steps_tallies.proofs.Premises.{never}
use Rattle.steps_splicing.specs.Contexts.{Frame, left_of, right_of, beneath, fill, raised, restrictions, bytes_before, bytes_behind, level_in}
use Rattle.steps.specs.Listed.{canon_step, result_bytes}
use Rattle.steps_splicing.specs.ListedParts.{Lists}
use Rattle.steps_splicing.specs.PlacedResults.{Unopened, Trivial, Raises, PlacedResultIs}
use Rattle.steps_splicing.proofs.ContextLaws.{fill-bytes, raised-blocked, placed_split, placed-bytes, placed-length}
use Rattle.steps_splicing.proofs.CandidateResults.{receiving-canonical}

-- No step is made of what is blocked.
pub raised_never : {T : Type 0} (K : List Frame) (M : Cond) (α : Act) (A : Term) → raised K blocked ≡ step M α A → T
raised_never K M α A e = never M α A (sym (raised-blocked K) ∙ e)

-- A new-name output stays one.
abbrev NewName : Act → Type 0
NewName tau_a = ⊥
NewName (inp_a a) = ⊥
NewName (out_a a b) = ⊥
NewName (bout_a a) = Unit {0}

abbrev StaysNew : List Frame → Type 0
StaysNew K = (M : Cond) (a : ℕ) (A : Term) (M' : Cond) (α : Act) (A' : Term) → raised K (step M (bout_a a) A) ≡ step M' α A' → NewName α

stays_new : (K : List Frame) → StaysNew K
unfolding raised left_steps right_steps restricted restricted_action
stays_new [] M a A M' α A' e = let f : bout_a a ≡ α = cc in subst NewName f _
stays_new (left_of Q ∷ K) M a A M' α A' e = stays_new K M a (par A (weak (bout_a a) Q)) M' α A' e
stays_new (right_of P ∷ K) M a A M' α A' e = stays_new K M a (par (weak (bout_a a) P) A) M' α A' e
stays_new (beneath ∷ K) M a A M' α A' e = go (stays_new K) (restricted_alone M) a e
  where
    go : StaysNew K → (t : Bool) (a : ℕ) → raised K (cond t (restricted_action (map_p outside M) (bout_a a) A) blocked) ≡ step M' α A' → NewName α
    go f true zero e = raised_never K M' α A' e
    go f true (suc a) e = f (map_p outside M) a (res (ren swap A)) M' α A' e
    go f false a e = raised_never K M' α A' e

opened : {T : Type 0} (a b : ℕ) (α : Act) → NewName α → Unopened (out_a a b) α → T
unfolding Unopened
opened a b tau_a n u = absurd u
opened a b (inp_a c) n u = absurd u
opened a b (out_a c d) n u = absurd n
opened a b (bout_a c) n u = absurd u

-- Only the kind of the action matters.
still_unopened : (a b c d : ℕ) (α : Act) → Unopened (out_a a b) α → Unopened (out_a c d) α
unfolding Unopened
still_unopened a b c d tau_a u = u
still_unopened a b c d (inp_a e) u = u
still_unopened a b c d (out_a e f) u = u
still_unopened a b c d (bout_a e) u = u

-- What stands beside the step stays as it is.
beside : (y : ℕ) (α : Act) (Q : Term) → ren (receiving y (λ n. n) α) (weak α Q) ≡ Q
beside y α Q = weak-received y (λ n. n) α Q ∙ ren_id Q

-- Beneath a restriction the name received or extruded has the next index.
exchanged : (y : ℕ) (A : Term) → ren (lift (y • (λ n. n))) (ren swap A) ≡ ren (suc y • (λ n. n)) A
exchanged y A = ren_triangle (lift (y • (λ n. n))) swap (suc y • (λ n. n)) A same
  where
    same : (n : ℕ) → lift (y • (λ n. n)) (swap n) ≡ (suc y • (λ n. n)) n
    same zero = refl
    same (suc zero) = refl
    same (suc (suc n)) = refl

-- The part's result is the part around the term's result, for every step that is raised to this one.
abbrev Filled : List Frame → Cond → Act → Term → ℕ → Type 0
Filled K M' α' A' x =
    (M : Cond) (α : Act) (A : Term) → raised K (step M α A) ≡ step M' α' A' → Unopened α α'
    → ren (receiving x (λ n. n) α') A' ≡ fill K (ren (receiving (restrictions K + x) (λ n. n) α) A)

filled_beneath : (K : List Frame) (M' : Cond) (α' : Act) (A' : Term) (x : ℕ) → Filled K M' α' A' x → Filled (beneath ∷ K) M' α' A' x
unfolding raised restricted restricted_action fill level_in receiving Unopened
filled_beneath K M' α' A' x f M α A e u = go (restricted_alone M) α e u
  where
    N : Cond
    N = map_p outside M

    next : suc (restrictions K + x) ≡ suc (restrictions K) + x
    next = omega arith

    free : fill K (res (ren (lift (λ n. n)) A)) ≡ fill K (res (ren (λ n. n) A))
    free = ap (λ (f : ℕ → ℕ). fill K (res (ren f A))) lift_id

    bound : fill K (res (ren (lift ((restrictions K + x) • (λ n. n))) (ren swap A))) ≡ fill K (res (ren ((suc (restrictions K) + x) • (λ n. n)) A))
    bound = ap (λ (T : Term). fill K (res T)) (exchanged (restrictions K + x) A ∙ ap (λ (y : ℕ). ren (y • (λ n. n)) A) next)

    go : (t : Bool) (α : Act) → raised K (cond t (restricted_action N α A) blocked) ≡ step M' α' A' → Unopened α α'
        → ren (receiving x (λ n. n) α') A' ≡ fill K (res (ren (receiving (suc (restrictions K) + x) (λ n. n) α) A))
    go false α e u = raised_never K M' α' A' e
    go true tau_a e u = f N tau_a (res A) e u ∙ free
    go true (inp_a zero) e u = raised_never K M' α' A' e
    go true (inp_a (suc a)) e u = f N (inp_a a) (res (ren swap A)) e u ∙ bound
    go true (out_a zero b) e u = raised_never K M' α' A' e
    go true (out_a (suc a) zero) e u = opened (suc a) zero α' (stays_new K N a A M' α' A' e) u
    go true (out_a (suc a) (suc b)) e u = f N (out_a a b) (res A) e (still_unopened (suc a) (suc b) a b α' u) ∙ free
    go true (bout_a zero) e u = raised_never K M' α' A' e
    go true (bout_a (suc a)) e u = f N (bout_a a) (res (ren swap A)) e u ∙ bound

pub filled_result : (K : List Frame) (M' : Cond) (α' : Act) (A' : Term) (x : ℕ) → Filled K M' α' A' x
unfolding raised left_steps right_steps fill level_in
filled_result [] M' α' A' x M α A e u =
    let a : α' ≡ α = cc in
    let r : A' ≡ A = cc in
    let z : x ≡ 0 + x = omega arith in
    ap₂ (λ (α : Act) (A : Term). ren (receiving x (λ n. n) α) A) a r ∙ ap (λ (y : ℕ). ren (receiving y (λ n. n) α) A) z
filled_result (left_of Q ∷ K) M' α' A' x M α A e u =
    let y = restrictions K + x in
    filled_result K M' α' A' x M α (par A (weak α Q)) e u
    ∙ ap (λ (T : Term). fill K (par (ren (receiving y (λ n. n) α) A) T)) (beside y α Q)
filled_result (right_of P ∷ K) M' α' A' x M α A e u =
    let y = restrictions K + x in
    filled_result K M' α' A' x M α (par (weak α P) A) e u
    ∙ ap (λ (T : Term). fill K (par T (ren (receiving y (λ n. n) α) A))) (beside y α P)
filled_result (beneath ∷ K) M' α' A' x M α A e u = filled_beneath K M' α' A' x (filled_result K M' α' A' x) M α A e u

-- Bytes before, a term's bytes, and bytes behind, stored one after the other.
module _ (out before bs behind : List ℕ) (at m n : ℕ) (b : length before ≡ at) (c : n ≡ length behind) (out₁ out₂ : List ℕ)
    (copied : out₁ ≡ sets out 0 before) (w : Written out₁ at bs m out₂) where
  same : length out₁ ≡ length out
  same = ap length copied ∙ length-sets out 0 before

  total : length (before ++ (bs ++ behind)) ≡ at + (length bs + n)
  total = omega (arith, length-append before (bs ++ behind), length-append bs behind)

  splice_over : length out < m + n → (r : ℕ) → length out < r → Written out 0 (before ++ (bs ++ behind)) r out₂
  splice_over h r o =
      let s = same in
      let t = total in
      record {
        fits = λ k. absurd (omega (arith, (w.fits (omega arith)).0));
        over = λ k. o;
      }

  splice_stored : m + n ≤ length out → (out₃ : List ℕ) → out₃ ≡ sets out₂ m behind → Written out 0 (before ++ (bs ++ behind)) (m + n) out₃
  splice_stored h out₃ e =
      let s = same in
      let t = total in
      record {
        fits = λ k.
            let (f, g) = w.fits (omega arith) in (
              omega arith,
              e ∙ ap (λ (l : List ℕ). sets l m behind) (g ∙ ap (λ (l : List ℕ). sets l at bs) copied)
                  ∙ sets-join (sets out 0 before) at m bs behind f
                  ∙ sets-join out 0 at before (bs ++ behind) (omega arith),
            );
        over = λ k. absurd (go (leb (at + length bs) (length out₁)) refl k);
      }
    where
      go : (d : Bool) → leb (at + length bs) (length out₁) ≡ d → length out < 0 + length (before ++ (bs ++ behind)) → ⊥
      go true d k = let s = same in let t = total in omega (arith, (w.fits (leb-true (at + length bs) (length out₁) d)).0)
      go false d k = let s = same in omega (arith, w.over (leb-false (at + length bs) (length out₁) d))

-- The result of a step whose condition merges nothing, in canonical form.
pub trivial_result : (x : ℕ) (M : Cond) (α : Act) (A : Term) → Trivial M
    → result_bytes (canon_step as_it_is name_count x M α A) ≡ encode 0 (ren (receiving x (λ n. n) α) A)
unfolding Trivial
trivial_result x M α A t = receiving-canonical x M α A ∙ ap (λ (f : ℕ → ℕ). encode 0 (ren (receiving x f α) A)) (fun_ext t)

-- What is written of a component, between what is copied.
module _ (question part tally : List ℕ) (T : TallyIs question part 1 tally) (at depth : ℕ) (silently : Bool) (j x : ℕ) (out names : List ℕ)
    (own : OwnNames depth names) (m : ℕ) (out₁ out₂ : List ℕ) (copied : out₁ ≡ sets out 0 (take at (drop 0 part)))
    (w : WriteIs question part at depth names (record { new = x; levels = depth; calls = 1; still = false; silently = silently; number = j }) out₁ at m out₂)
    (small : length out ≤ longest_term) (deep : depth ≤ at) (end : ℕ) (ends : end ≡ end_at tally at) where
  module _ (q : Question) (P : Term) (l : Lists question part x q P) (K : List Frame) (C : Term) (first number : ℕ) (M : Cond) (α : Act) (A : Term)
      (r : Raises q P K C at depth first number silently j M α A) (t : Trivial M) where
    abbrev own-result : List ℕ
    own-result = encode depth (ren (receiving (depth + x) (λ n. n) r.action) r.result)

    whole-result : result_bytes (canon_step as_it_is name_count x M α A) ≡ bytes_before K ++ (own-result ++ bytes_behind K)
    whole-result =
        trivial_result x M α A t
        ∙ ap (encode 0) (filled_result K M α A x r.condition r.action r.result r.is r.unopened)
        ∙ fill-bytes K (ren (receiving (restrictions K + x) (λ n. n) r.action) r.result)
        ∙ ap (λ (d : ℕ). bytes_before K ++ (encode d (ren (receiving (d + x) (λ n. n) r.action) r.result) ++ bytes_behind K)) r.placed.level

    written : Written out₁ at own-result m out₂
    unfolding chosen
    written =
        let same : length out₁ ≡ length out = ap length copied ∙ length-sets out 0 (take at (drop 0 part)) in
        written_of depth r.result out₁ at own-result m out₂ (omega arith) (length-ren depth depth (receiving (depth + x) (λ n. n) r.action) r.result)
        (λ low shallow. w.is low q name_count (λ n. n) C (bytes_behind K) own-result (depth + height r.result) l.accepted (omega arith) r.placed.scope (placed-bytes l r.placed)
        (record {
          named_own = own_part 1;
          ρ = λ n. n;
          x = depth + x;
          has = names-own name_count depth names (omega arith) own;
          new = new-own depth x (omega (arith, l.new));
          condition = r.condition;
          action = r.action;
          result = r.result;
          candidate = ap (λ R. get_or (candidates silently (body_of q.bodies) 1 R) j blocked) (ren_id C) ∙ r.own;
          bytes = refl;
          bounded = omega arith;
        }) shallow)

    before : take at (drop 0 part) ≡ bytes_before K
    before = ap (take at) (placed_split l r.placed) ∙ take_at (bytes_before K) (encode depth C ++ bytes_behind K) at r.placed.place

    end_is : end ≡ at + length (encode depth C)
    end_is = ends ∙ (T.is q at name_count depth (λ n. n) (own_part 1) C (bytes_behind K) l.accepted r.placed.scope (placed-bytes l r.placed)).2

    behind : drop end part ≡ bytes_behind K
    behind =
        ap (λ (k : ℕ). drop k part) end_is ∙ sym (drop-drop (length (encode depth C)) at part) ∙ ap (drop (length (encode depth C))) (placed-bytes l r.placed)
        ∙ drop-append_seam (encode depth C) (bytes_behind K)

    left : length part - end ≡ length (bytes_behind K)
    left = omega (arith, end_is, placed-length l r.placed)

  pub placed_over : length out < m + (length part - end) → (r : ℕ) → length out < r → PlacedResultIs question part at depth silently j x out r out₂
  placed_over h r o = record {
    is = λ q P l K C first number M α A R t.
        rw (whole-result q P l K C first number M α A R t)
        (splice_over out (bytes_before K) (own-result q P l K C first number M α A R t) (bytes_behind K) at m (length part - end) R.placed.place
        (left q P l K C first number M α A R t) out₁ out₂ (copied ∙ ap (sets out 0) (before q P l K C first number M α A R t))
        (written q P l K C first number M α A R t) h r o);
  }

  pub placed-stored : m + (length part - end) ≤ length out → (out₃ : List ℕ)
      → out₃ ≡ sets out₂ m (take (length part - end) (drop end part))
      → PlacedResultIs question part at depth silently j x out (m + (length part - end)) out₃
  placed-stored h out₃ e = record {
    is = λ q P l K C first number M α A r t.
        let d : take (length part - end) (drop end part) ≡ bytes_behind K =
        ap (take (length part - end)) (behind q P l K C first number M α A r t)
        ∙ take_all (length part - end) (bytes_behind K) (omega (arith, left q P l K C first number M α A r t)) in
        rw (whole-result q P l K C first number M α A r t)
        (splice_stored out (bytes_before K) (own-result q P l K C first number M α A r t) (bytes_behind K) at m (length part - end) r.placed.place
        (left q P l K C first number M α A r t) out₁ out₂ (copied ∙ ap (sets out 0) (before q P l K C first number M α A r t))
        (written q P l K C first number M α A r t) h out₃ (e ∙ ap (sets out₂ m) d));
  }
