-- The list of a part's steps for one new name, made that for another: the steps that bind the name are renamed, and the list is that for the other
-- name if it still ascends. Assumes nothing.
use mathlib.Core.Bool.{Bool, true, false}
use mathlib.Core.List.{List, [], ◌∷◌, map}
use mathlib.Core.Path.{◌≡◌, refl, sym, ◌∙◌, ap, subst}
use native.Mathlib.Decide.{ℕ_discrete, dec_le}
use native.Mathlib.Omega.{arith}
use Prim.Native.Nat.{ℕ, zero, suc, ◌<◌, ◌≤◌}
use lib.ListN.{length, get_or, length-map}
use Rattle.calculus.specs.Abstraction.{Act, tau_a, inp_a, out_a, bout_a}
use Rattle.calculus.specs.Cond.{Cond, cls}
use Rattle.calculus.specs.Definitions.{Defs}
use Rattle.calculus.specs.Free.{Free}
use Rattle.calculus.specs.Published.{input, new_output}
use Rattle.calculus.specs.Term.{Term, ren, put, ◌•◌}
use Rattle.calculus.proofs.Binding.{put_self, put_other}
use Rattle.calculus.proofs.Conditions.{E4}
use Rattle.calculus.proofs.FreeNames.{ren_ext}
use Rattle.calculus.proofs.Renaming.{ren-∘}
use Rattle.calculus.proofs.Working.{Trans}
use Rattle.calculus.proofs.WorkingNames.{cond_free, resid_free}
use Rattle.terms.specs.Encoding.{InScope}
use Rattle.terms.specs.Limits.{name_count, longest_term}
use Rattle.terms.specs.Question.{Question}
use Rattle.terms.proofs.RenamingKeeps.{length-ren}
use Rattle.terms.proofs.WellFormed.{accepted_well_formed}
use Rattle.steps.specs.Forms.{result_form}
use Rattle.steps.proofs.FormLaws.{result_form_lem}
use Rattle.calculus.specs.Lists.{◌∈◌, Among, All}
use Rattle.steps.specs.Raw.{Candidate, step, blocked}
use Rattle.steps.proofs.Calls.{Opens}
use Rattle.calculus.proofs.Membership.{all-∈, all_imp, all_map, ∈-all, ∈-map, ∈-mapped}
use Rattle.steps.proofs.QuestionDefinitions.{definitions, bodies_in_scope, opens_one}
use Rattle.steps.proofs.Scope.{CallsInScope, scope_calls}
use Rattle.steps.specs.Limits.{most_steps}
use Rattle.steps.specs.Listed.{ListedStep, listed_as, canon_step, kind_of, channel_of, object_of, result_bytes, bytes}
use Rattle.steps.specs.Listing.{unsettled, listed, limited, listing, steps_of}
use Rattle.steps_lister.specs.PartLister.{Lists}
use Rattle.steps_lister.specs.Renewed.{binds_new, renewed}
use Rattle.steps.proofs.ByteOrder.{before_trans}
use Rattle.steps.proofs.ClassLists.{unmatched}
use Rattle.steps.proofs.Limited.{limited-given, limited-fits, limited_within, limited-many}
use Rattle.steps.proofs.ListedBytes.{WellListed, bytes_determine}
use Rattle.steps.proofs.ListingLaws.{raw, found, raw_sound, found_all, found_sorted, listing_unlimited, well_listed}
use Rattle.steps.proofs.Sorted.{Precedes, Sorted, OfCandidate, collect-all, collect-new, sorted_same}

-- A list in which each step's bytes come before those of the next ascends.
pub neighbours_sorted : (longest : ℕ) (d : ListedStep) (ss : List ListedStep)
    → ((i : ℕ) → suc i < length ss → Precedes longest (get_or ss i d) (get_or ss (suc i) d)) → Sorted longest ss
neighbours_sorted longest d [] h = tt
neighbours_sorted longest d (s ∷ []) h = (tt, tt)
neighbours_sorted longest d (s ∷ t ∷ ss) h =
    let rest = neighbours_sorted longest d (t ∷ ss) (λ i l. h (suc i) (omega arith)) in
    let b : Precedes longest s t = h 0 (omega arith) in (
      (b, all_imp (Precedes longest t) (Precedes longest s) ss (λ u k. before_trans (bytes longest s) (bytes longest t) (bytes longest u) b k) rest.0),
      rest,
    )

-- A candidate's step for x is that for y, renewed: of the names of the candidate none is y.
module _ (Δ : Defs) (names y x : ℕ) (P : Term) (fresh : ¬ Free y P) where
  other_class : {M : Cond} {α : Act} {A : Term} → Trans Δ P M α A → (m : ℕ) → Free m P → cls M m ≡ y → ⊥
  other_class {M} t m f e = go (ℕ_discrete m y)
    where
      own : cls M y ≡ y
      own = unmatched M y (λ o. fresh (cond_free Δ t y o))

      go : Dec (m ≡ y) → ⊥
      go (yes d) = fresh (subst (λ n. Free n P) d f)
      go (no d) = fresh (cond_free Δ t y (E4 M m y (e ∙ sym own) d))

  filled_anew : (M : Cond) (A : Term) → ((m : ℕ) → Free (suc m) A → cls M m ≡ y → ⊥) → ren (put y x) (ren (y • cls M) A) ≡ ren (x • cls M) A
  filled_anew M A h = ren-∘ (put y x) (y • cls M) A ∙ ren_ext (λ n. put y x ((y • cls M) n)) (x • cls M) A go
    where
      go : (n : ℕ) → Free n A → put y x ((y • cls M) n) ≡ (x • cls M) n
      go zero f = put_self y x y refl
      go (suc m) f = put_other y x (cls M m) (h m f)

  formed_anew : (M : Cond) (A : Term) → ((m : ℕ) → Free (suc m) A → cls M m ≡ y → ⊥)
      → ren (put y x) (result_form (ren (y • cls M) A)) ≡ result_form (ren (x • cls M) A)
  formed_anew M A h = sym (result_form_lem.renamed (put y x) (ren (y • cls M) A)) ∙ ap result_form (filled_anew M A h)

  canon_renewed : (M : Cond) (α : Act) (A : Term) → Trans Δ P M α A → renewed y x (canon_step result_form names y M α A) ≡ canon_step result_form names x M α A
  unfolding canon_step renewed binds_new listed_as kind_of channel_of object_of
  canon_renewed M tau_a A t = refl
  canon_renewed M (inp_a a) A t = ap (listed_as names M (input (cls M a) x)) (formed_anew M A (λ m f. other_class t m (resid_free Δ t m f)))
  canon_renewed M (out_a a b) A t = refl
  canon_renewed M (bout_a a) A t = ap (listed_as names M (new_output (cls M a) x)) (formed_anew M A (λ m f. other_class t m (resid_free Δ t m f)))

-- a renewed result is as long as it was
pub renewed-length : (y x : ℕ) (s : ListedStep) → length (result_bytes (renewed y x s)) ≡ length (result_bytes s)
unfolding renewed result_bytes
renewed-length y x s = go (binds_new s) refl
  where
    go : (b : Bool) → binds_new s ≡ b → length (result_bytes (renewed y x s)) ≡ length (result_bytes s)
    go true e = rw e (length-ren 0 0 (put y x) s.result)
    go false e = rw e refl

-- The candidates of a part, listed for a new name.
module _ (Δ : Defs) (names wide : ℕ) (within : names ≤ wide) (few : wide ≤ 128) (arities : List ℕ) (bodies : (k : ℕ) → CallsInScope arities (Δ.body k))
    (P : Term) (scope : InScope names arities 0 P) (longest n : ℕ) (opens : Opens Δ n P) where
  module _ (x : ℕ) (below : x < wide) where
    abbrev all : List ListedStep
    all = found result_form_lem Δ names wide within arities bodies x below P scope longest n opens

    abbrev candidates : List Candidate
    candidates = raw result_form_lem Δ names wide within arities bodies x below P scope longest n opens

    -- no call reaches too many
    unlimited : (most : ℕ) → listing result_form names longest most Δ.body n x P ≡ limited longest most all
    unlimited most = listing_unlimited result_form_lem Δ names wide within arities bodies x below P scope longest n opens most

    well : All (WellListed names wide arities) all
    well =
        found_all result_form_lem Δ names wide within arities bodies x below P scope longest n opens (WellListed names wide arities)
        (well_listed result_form_lem Δ names wide within arities bodies x below P scope)

    -- a step of the list, and the candidate that it is of
    record Of (s : ListedStep) : Type 0 where
      pub condition : Cond
      pub action : Act
      pub residual : Term
      pub there : step condition action residual ∈ candidates
      pub is : s ≡ canon_step result_form names x condition action residual

    of_found : (s : ListedStep) → s ∈ all → Of s
    of_found s m = all-∈ Of all (collect-all result_form names longest x Of candidates [] (∈-all (OfCandidate result_form names longest x Of) candidates each) tt) s m
      where
        each : (c : Candidate) → c ∈ candidates → OfCandidate result_form names longest x Of c
        each (step M α A) k = record { condition = M; action = α; residual = A; there = k; is = refl }
        each blocked k = tt

    sound : (M : Cond) (α : Act) (A : Term) → step M α A ∈ candidates → Trans Δ P M α A
    sound M α A m = all-∈ _ candidates (raw_sound result_form_lem Δ names wide within arities bodies x below P scope longest n opens) (step M α A) m

    in_found : (M : Cond) (α : Act) (A : Term) → step M α A ∈ candidates → canon_step result_form names x M α A ∈ all
    in_found M α A m =
        let (u, l, b) = collect-new result_form names longest x candidates [] M α A m in
        let e : canon_step result_form names x M α A ≡ u =
        bytes_determine names wide few arities longest (canon_step result_form names x M α A) u
        (well_listed result_form_lem Δ names wide within arities bodies x below P scope M α A (sound M α A m)) (all-∈ (WellListed names wide arities) all well u l) b in
        subst (λ s. s ∈ all) (sym e) l

  module _ (y x : ℕ) (y-below : y < wide) (x_below : x < wide) (fresh : ¬ Free y P) where
    renewed-found : Sorted longest (map (renewed y x) (all y y-below)) → all x x_below ≡ map (renewed y x) (all y y-below)
    renewed-found sorted =
        sorted_same longest (all x x_below) (map (renewed y x) (all y y-below))
        (found_sorted result_form_lem Δ names wide within arities bodies x x_below P scope longest n opens) sorted to from
      where
        to : Among (all x x_below) (map (renewed y x) (all y y-below))
        to u m =
            let record { condition = M; action = α; residual = A; there = k; is = e } = of_found x x_below u m in
            subst (λ s. s ∈ map (renewed y x) (all y y-below))
            (canon_renewed Δ names y x P fresh M α A (sound y y-below M α A k) ∙ sym e)
            (∈-map (renewed y x) (canon_step result_form names y M α A) (all y y-below) (in_found y y-below M α A k))

        from : Among (map (renewed y x) (all y y-below)) (all x x_below)
        from u m =
            let (s, l, d) = ∈-mapped (renewed y x) u (all y y-below) m in
            let record { condition = M; action = α; residual = A; there = k; is = e } = of_found y y-below s l in
            subst (λ s. s ∈ all x x_below)
            (sym (d ∙ ap (renewed y x) e ∙ canon_renewed Δ names y x P fresh M α A (sound y y-below M α A k)))
            (in_found x x_below M α A k)

    pub renewed-listing : (most : ℕ) (ss : List ListedStep) → listing result_form names longest most Δ.body n y P ≡ listed ss
        → Sorted longest (map (renewed y x) ss) → listing result_form names longest most Δ.body n x P ≡ listed (map (renewed y x) ss)
    renewed-listing most ss given sorted =
        let e : limited longest most (all y y-below) ≡ listed ss = sym (unlimited y y-below most) ∙ given in
        let g : all y y-below ≡ ss = limited-given longest most (all y y-below) ss e in
        let f : all x x_below ≡ map (renewed y x) ss =
        renewed-found (subst (λ l. Sorted longest (map (renewed y x) l)) (sym g) sorted) ∙ ap (map (renewed y x)) g in
        let size : length ss ≤ most = within_limit (dec_le (length (all y y-below)) most) g in
        let fits : All (λ s. length (result_bytes s) ≤ longest) ss =
        subst (All (λ s. length (result_bytes s) ≤ longest)) g (limited-fits longest most (all y y-below) ss e) in
        unlimited x x_below most ∙ ap (limited longest most) f
        ∙ limited_within longest most (map (renewed y x) ss) (omega (arith, length-map ss (renewed y x)))
        (all_map (renewed y x) (λ s. length (result_bytes s) ≤ longest) (λ s. length (result_bytes s) ≤ longest) ss
        (λ s h. omega (arith, renewed-length y x s)) fits)
      where
        within_limit : Dec (length (all y y-below) ≤ most) → all y y-below ≡ ss → length ss ≤ most
        within_limit (yes h) g = subst (λ l. length l ≤ most) g h
        within_limit (no h) g =
            let u : unsettled ≡ listed ss = sym (limited-many longest most (all y y-below) (omega arith)) ∙ sym (unlimited y y-below most) ∙ given in
            let z : ◌≡◌ {A = ℕ} 0 1 = cc in absurd (omega arith)

-- The same of a part of a question.
pub renewed-steps : (question part : List ℕ) (x : ℕ) (q : Question) (P : Term) → Lists question part x q P → (y : ℕ) → y ≤ name_count → ¬ Free y P
    → (ss : List ListedStep) → steps_of q.bodies y P ≡ listed ss → Sorted longest_term (map (renewed y x) ss)
    → steps_of q.bodies x P ≡ listed (map (renewed y x) ss)
unfolding steps_of definitions
renewed-steps question part x q P l y below fresh ss given sorted =
    let bodies = (accepted_well_formed question q l.accepted).bodies in
    let Δ : Defs = definitions q.arities q.bodies bodies in
    let w = l.new in
    renewed-listing Δ name_count (suc name_count) (omega arith) (omega arith) q.arities
    (bodies_in_scope q.arities q.bodies bodies Δ (λ k. refl) refl) P l.scope longest_term 1
    (opens_one q.arities q.bodies bodies Δ (λ k. refl) refl P (scope_calls name_count q.arities 0 P l.scope))
    y x (omega arith) (omega arith) fresh most_steps ss given sorted
