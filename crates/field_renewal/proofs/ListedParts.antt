-- The list of a part's steps, as it stands in an area: each step has its place, its classes are names and its result fits; and its result is in
-- scope, unless the step binds a name while there is none left. Assumes nothing.
use mathlib.Core.Bool.{false}
use mathlib.Core.List.{List, [], ◌∷◌, ◌++◌, append_assoc}
use mathlib.Core.Logic.{inl, inr}
use mathlib.Core.Path.{◌≡◌, refl, sym, ◌∙◌, ap, subst}
use native.Mathlib.Decide.{ℕ_discrete, dec_le}
use native.Mathlib.Omega.{arith}
use Prim.Native.Nat.{ℕ, zero, suc, ◌+◌, ◌*◌, ◌<◌, ◌≤◌}
use lib.ListN.{length, get_or, drop}
use lib.Seq.{sets, sets-eq, drop-append-add}
use Rattle.calculus.specs.Term.{Term, ren}
use Rattle.calculus.specs.Free.{In, Free}
use Rattle.calculus.specs.Definitions.{Defs}
use Rattle.calculus.specs.Cond.{Cond, cls, canonical}
use Rattle.calculus.specs.Published.{Action, silent, input, output, new_output, bound_names, ren_action, Transition, Canon}
use Rattle.calculus.proofs.Conditions.{cls_le}
use Rattle.calculus.proofs.PublishedSteps.{act, unname}
use Rattle.calculus.proofs.Working.{Trans}
use Rattle.calculus.proofs.WorkingNames.{act_free}
use Rattle.terms.specs.Encoding.{InScope}
use Rattle.terms.specs.Limits.{name_count, longest_term}
use Rattle.terms.specs.Question.{Question}
use Rattle.terms.proofs.ScopeLaws.{free_below}
use Rattle.terms.proofs.WellFormed.{WellFormed, accepted_well_formed}
use Rattle.steps.specs.Forms.{result_form}
use Rattle.steps.proofs.FormLaws.{result_form_lem, form_scope}
use Rattle.calculus.specs.Lists.{◌∈◌}
use Rattle.calculus.proofs.Membership.{∈-all}
use Rattle.steps.proofs.QuestionDefinitions.{definitions, bodies_in_scope, opens_one}
use Rattle.steps.proofs.Scope.{CallsInScope, scope_calls}
use Rattle.steps.specs.Derived.{Derived, ListsExactly}
use Rattle.steps_entries.specs.Entries.{Sized}
use Rattle.steps.specs.Limits.{most_steps, step_bytes}
use Rattle.steps.specs.Listed.{ListedStep, listed_as, object_of, class_in, result_bytes, bytes}
use Rattle.steps.specs.Listing.{listed, steps_of}
use Rattle.steps.specs.Operations.{list_bytes}
use Rattle.steps_lister.specs.PartLister.{Lists}
use Rattle.steps.proofs.ClassLists.{length_classes, class_of}
use Rattle.steps.proofs.ListedBytes.{step-size, length-list_bytes}
use Rattle.steps.proofs.ListingLaws.{listing_exact}
use Rattle.field_pairs.specs.Entry.{EntryAt, Rewritten}
use Rattle.field.specs.Field.{Move}
use Rattle.field.specs.Setting.{Setting, setting_of}
use Rattle.field.specs.Successors.{some_binds}
use Rattle.field_renewal.specs.ListedEntries.{ListAt, EntriesAt}
use Rattle.field.proofs.ClassTests.{listed_class}
use Rattle.field.proofs.MoveLaws.{move_within, move_scope, move_rewritten, derived_move}
use Rattle.field.proofs.NameLimit.{move_binds}

nth_∈ : {A : Type 0} (xs : List A) (i : ℕ) (d : A) → i < length xs → get_or xs i d ∈ xs
nth_∈ [] i d h = absurd (omega arith)
nth_∈ (x ∷ xs) zero d h = inl refl
nth_∈ (x ∷ xs) (suc i) d h = inr (nth_∈ xs i d (omega arith))

-- The object of a transition's action is below a number that is above the term's free names and above the bound name.
object_below : (Δ : Defs) (bound : ℕ) {P : Term} {M : Cond} {α : Action} {P' : Term} → Transition Δ P M α P' → ((n : ℕ) → Free n P → n < bound)
    → ((y : ℕ) → In y (bound_names α) → y < bound) → 0 < bound → object_of α < bound
unfolding object_of
object_below Δ bound {P} (Canon {N = N} {α = α} s av) free bind some = let u = unname Δ s in go α u.abs u.step bind
  where
    σ : ℕ → ℕ
    σ = cls (canonical N)

    go : (β : Action) (A : Term) → Trans Δ P N (act β) A → ((y : ℕ) → In y (bound_names (ren_action σ β)) → y < bound) → object_of (ren_action σ β) < bound
    go silent A t b = some
    go (input a y) A t b = b y (inl refl)
    go (output a c) A t b = let h = free c (act_free Δ t c (inr refl)) in omega (arith, cls_le (canonical N) c)
    go (new_output a y) A t b = b y (inl refl)

-- Entries of one size stand at multiples of it.
pub entry_there : (ss : List ListedStep) (rest : List ℕ) → Sized ss → (i : ℕ) (d : ListedStep) → i < length ss
    → (after : List ℕ) × (drop (step_bytes * i) (list_bytes ss ++ rest) ≡ bytes longest_term (get_or ss i d) ++ after)
unfolding list_bytes
entry_there [] rest z i d h = absurd (omega arith)
entry_there (s ∷ ss) rest z zero d h = (list_bytes ss ++ rest, append_assoc (bytes longest_term s) (list_bytes ss) rest)
entry_there (s ∷ ss) rest z (suc i) d h =
    let e : step_bytes * suc i ≡ length (bytes longest_term s) + step_bytes * i = omega (arith, z.0) in
    let (after, k) = entry_there ss rest z.1 i d (omega arith) in (
      after,
      ap (drop (step_bytes * suc i)) (append_assoc (bytes longest_term s) (list_bytes ss) rest)
          ∙ ap (λ n. drop n (bytes longest_term s ++ (list_bytes ss ++ rest))) e
          ∙ drop-append-add (bytes longest_term s) (list_bytes ss ++ rest) (step_bytes * i)
          ∙ k,
    )

module _ (question part : List ℕ) (x : ℕ) (q : Question) (P : Term) (l : Lists question part x q P) (new : ¬ Free x P) where
  well : WellFormed q
  well = accepted_well_formed question q l.accepted

  abbrev Δ : Defs
  Δ = definitions q.arities q.bodies well.bodies

  abbrev S : Setting
  S = setting_of false q.bodies

  closed : (k : ℕ) → CallsInScope q.arities (Δ.body k)
  unfolding definitions
  closed = bodies_in_scope q.arities q.bodies well.bodies Δ (λ k. refl) refl

  exact : ListsExactly result_form Δ name_count longest_term most_steps x P (steps_of q.bodies x P)
  unfolding steps_of definitions
  exact =
      let w = l.new in
      listing_exact result_form_lem Δ name_count (suc name_count) (omega arith) q.arities closed x (omega arith) P l.scope longest_term 1
      (opens_one q.arities q.bodies well.bodies Δ (λ k. refl) refl P (scope_calls name_count q.arities 0 P l.scope))
      new (omega arith) most_steps

  module _ (ss : List ListedStep) (given : steps_of q.bodies x P ≡ listed ss) where
    step_derived : (s : ListedStep) → s ∈ ss → Derived result_form Δ name_count x P s
    step_derived s k = (exact.members ss given s).0 k

    step_classes : (s : ListedStep) → Derived result_form Δ name_count x P s → length s.classes ≡ name_count
    unfolding listed_as
    step_classes s d = ap (λ t. length t.classes) d.listed ∙ length_classes name_count d.condition

    step_within : (s : ListedStep) → Derived result_form Δ name_count x P s → (n : ℕ) → n < name_count → class_in s.classes n < name_count
    unfolding listed_as class_in
    step_within s d n h =
        let e : class_in s.classes n ≡ class_in (listed_as name_count d.condition d.action d.result).classes n = ap (λ t. class_in t.classes n) d.listed in
        omega (arith, e, class_of name_count d.condition n n h, cls_le d.condition n)

    step_fits : (s : ListedStep) → Derived result_form Δ name_count x P s → length (result_bytes s) ≤ longest_term
    step_fits s d = go (dec_le (length (result_bytes s)) longest_term)
      where
        go : Dec (length (result_bytes s) ≤ longest_term) → length (result_bytes s) ≤ longest_term
        go (yes h) = h
        go (no h) =
            let u = exact.limits.1 (inr (inl (record { step = s; derived = d; long = omega arith }))) in
            let z : ◌≡◌ {A = ℕ} 0 1 = cc in absurd (omega arith)

    pub sized : Sized ss
    sized =
        ∈-all (λ s. length (bytes longest_term s) ≡ step_bytes) ss
        (λ s k. let d = step_derived s k in step-size name_count longest_term s (step_classes s d) (step_fits s d))

    -- a bound name is one of the names
    module _ (within : x ≡ name_count → some_binds ss ≡ false) where
      bound_below : (m : Move Δ S x P) (y : ℕ) → In y (bound_names m.action) → y < name_count
      unfolding setting_of
      bound_below m y i = go (ℕ_discrete x name_count)
        where
          go : Dec (x ≡ name_count) → y < name_count
          go (yes e) =
              let b = move_binds Δ S ss (λ t. exact.members ss given t) m y i in
              let w = within e in
              let z : ◌≡◌ {A = ℕ} 0 1 = cc in absurd (omega arith)
          go (no e) = omega (arith, l.new, m.binds y i)

      step_scope : (s : ListedStep) → s ∈ ss → InScope name_count q.arities 0 s.result
      unfolding setting_of listed_as
      step_scope s k =
          let (m, e) = derived_move Δ S (step_derived s k) in
          subst (λ t. InScope name_count q.arities 0 t.result) (sym e)
          (form_scope result_form_lem name_count q.arities 0 m.result (move_scope Δ S m q.arities l.scope closed (bound_below m)))

      step_object : (s : ListedStep) → s ∈ ss → s.object < name_count
      unfolding setting_of listed_as
      step_object s k =
          let (m, e) = derived_move Δ S (step_derived s k) in
          subst (λ t. t.object < name_count) (sym e)
          (object_below Δ name_count m.transition (λ n f. let h = free_below name_count q.arities 0 P l.scope n f in omega arith) (bound_below m) (omega arith))

    step-rewritten : (s : ListedStep) → s ∈ ss → Rewritten s
    unfolding setting_of listed_as
    step-rewritten s k =
        let (m, e) = derived_move Δ S (step_derived s k) in
        subst Rewritten (sym e)
        (ap (λ c. ren c (result_form m.result)) (listed_class name_count m.condition m.action (result_form m.result) (move_within Δ S m q.arities l.scope))
        ∙ sym (result_form_lem.renamed (cls m.condition) m.result) ∙ ap result_form (move_rewritten Δ S m))

    module _ (area area' : List ℕ) (room : length ss * step_bytes ≤ length area) (stored : area' ≡ sets area 0 (list_bytes ss)) where
      begins : area' ≡ list_bytes ss ++ drop (0 + length (list_bytes ss)) area
      begins = stored ∙ sets-eq (list_bytes ss) area 0 (omega (arith, length-list_bytes ss sized))

      entry_at : (i : ℕ) (d : ListedStep) → i < length ss → EntryAt area' (step_bytes * i) (get_or ss i d)
      entry_at i d h =
          let (after, e) = entry_there ss (drop (0 + length (list_bytes ss)) area) sized i d h in
          let k = step_derived (get_or ss i d) (nth_∈ ss i d h) in
          record {
            rest = after;
            there = ap (drop (step_bytes * i)) begins ∙ e;
            count = step_classes (get_or ss i d) k;
            within = step_within (get_or ss i d) k;
            fits = step_fits (get_or ss i d) k;
          }

      pub listed-entries : EntriesAt area' (length ss) ss
      unfolding EntriesAt
      listed-entries = (refl, entry_at)

      pub listed_at : (x ≡ name_count → some_binds ss ≡ false) → ListAt q.arities area' (length ss) ss
      listed_at within = record {
        number = refl;
        entry = entry_at;
        scope = λ i d h. step_scope within (get_or ss i d) (nth_∈ ss i d h);
        rewritten = λ i d h. step-rewritten (get_or ss i d) (nth_∈ ss i d h);
        objects = λ i d h. step_object within (get_or ss i d) (nth_∈ ss i d h);
      }
