-- Writing results: runs of stores, and what the parts of a term are to be written as. Assumes nothing.
use mathlib.Core.Path.{◌≡◌, refl, sym, ap, ap₂, subst, ◌∙◌}
use mathlib.Core.Bool.{Bool, true, false}
use mathlib.Core.List.{List, [], ◌∷◌, ◌++◌, map, append_assoc, append-nil}
use mathlib.Core.Logic.{◌⊎◌, inl, inr}
use Prim.Native.Nat.{ℕ, suc, ◌+◌, ◌-◌, ◌<◌, ◌≤◌}
use native.Mathlib.Omega.{arith}
use lib.ListN.{length, get_or, take, drop, set, length-append, length-drop}
use lib.Seq.{sets, take_at, drop-drop}
use lib.Dec.{leb}
use borrow.Author.Tests.{leb-true, leb-false}
use Rattle.calculus.specs.Term.{Term, mat, par, res, call, ren, lift}
use Rattle.terms.specs.Answer.{result}
use Rattle.terms.specs.Encoding.{encode, InScope}
use Rattle.terms.specs.Limits.{name_count}
use Rattle.terms_bytes.specs.NameTable.{table_names}
use Rattle.terms_bytes.specs.Shape.{height}
use Rattle.terms.specs.Question.{Question, check_of}
use Rattle.terms_renaming.specs.Renaming.{RenameIs}
use Rattle.terms.proofs.ReadEncoded.{encode-some}
use Rattle.terms.proofs.RenamingKeeps.{length-ren}
use Rattle.terms_bytes.proofs.Heights.{height-bytes}
use Rattle.terms_bytes.proofs.Stores.{sets-join}
use Rattle.steps_tallies.specs.Bodies.{AritiesIs, BodyIs, OpeningIs, Unopened}
use Rattle.terms.specs.Question.{body_of}
use Rattle.steps_passing.specs.Branching.{Reaches, BranchIs}
use Rattle.steps_tallies.specs.Candidates.{candidates}
use Rattle.steps_passing.specs.Passing.{Acts, PassIs, opens_at}
use Rattle.steps.specs.Raw.{Candidate, step, blocked}
use Rattle.steps_conditions.specs.Names.{Kept, CalledIs, UnchangedIs, TableIs}
use Rattle.steps_plans.specs.Plans.{receiving, Asks, Written, Writes, StoreIs, TermIs, WriteIs, numbered, beneath, inside, entering, opening, Parts, PlanIs}
use Rattle.steps_tallies.specs.Tally.{end_at, TallyIs, EndsTallied}
use Rattle.steps_tallies.specs.declared.bodies.Opening.{Opening}
use Rattle.steps_passing.specs.declared.pass.Branch.{Branch}
use Rattle.steps_passing.specs.declared.pass.Passed.{Passed}
use Rattle.steps_plans.specs.declared.plan.Plan.{Plan}
use Rattle.steps_plans.specs.declared.plan.Task.{Task}
use Rattle.steps_passing.proofs.CalledPasses.{at_closed, params, names-call, at_call}
use Rattle.steps_tallies.proofs.CallLaws.{body_scope, opened-candidates}
use Rattle.steps_tallies.proofs.OwnNames.{own_part, own-under, own_body}
use Rattle.steps_plans.proofs.AskLaws.{chosen_is, asks_still, ask_open, res_part, ask-res}
use Rattle.steps_tallies.proofs.CandidateForms.{candidates-mat, candidates-res, candidates_no_call, tag_at, only_mat, only_par, only_res}
use Rattle.steps_tallies.proofs.FrontLaws.{stands}
use Rattle.steps_conditions.proofs.NameSlots.{names_represent, names-kept}
use Rattle.steps_tallies.proofs.Numbering.{nth_matching, nth_restricted}
use Rattle.steps_tallies.proofs.Premises.{never, Under, matching_of, under_of}
use Rattle.steps_conditions.proofs.SlotLaws.{unchanged-bytes}
use Rattle.steps_passing.proofs.TwoSides.{at_left, at_right}

-- What is written for certain is written.
pub writes_of : (low : Bool) (out : List ℕ) (put : ℕ) (bs : List ℕ) (r : ℕ) (out' : List ℕ) → Written out put bs r out' → Writes low out put bs r out'
writes_of low out put bs r out' W = record { ends = go (leb (put + length bs) (length out)) refl; fits = λ t h. W.fits h }
  where
    go : (t : Bool) → leb (put + length bs) (length out) ≡ t → (r ≡ put + length bs) ⊎ (length out < r)
    go true t = inl (W.fits (leb-true (put + length bs) (length out) t)).0
    go false t = inr (W.over (leb-false (put + length bs) (length out) t))

-- Where there is little room, every index of a binder has a byte in what fits.
pub written_of : (levels : ℕ) (T : Term) (out : List ℕ) (put : ℕ) (bs : List ℕ) (r : ℕ) (out' : List ℕ) → levels + length out ≤ 128 + put
    → length bs ≡ length (encode levels T) → ((low : Bool) → (low ≡ true → levels + height T ≤ 128) → Writes low out put bs r out') → Written out put bs r out'
written_of levels T out put bs r out' room size W = record {
  fits = λ h. (W true (λ e. omega (arith, height-bytes levels T))).fits refl h;
  over = λ h. past h (W false (λ e. let z : ◌≡◌ {A = ℕ} 0 1 = cc in absurd (omega arith))).ends;
}
  where
    past : length out < put + length bs → (r ≡ put + length bs) ⊎ (length out < r) → length out < r
    past h (inl e) = omega arith
    past h (inr k) = k

-- Runs that are written for certain.
module _ (out : List ℕ) (put : ℕ) (bs : List ℕ) (e : ℕ) (out₁ : List ℕ) (W : Written out put bs e out₁) where
  within : e ≤ length out → put + length bs ≤ length out
  within h = go (leb (put + length bs) (length out)) refl
    where
      go : (t : Bool) → leb (put + length bs) (length out) ≡ t → put + length bs ≤ length out
      go true t = leb-true (put + length bs) (length out) t
      go false t = absurd (omega (arith, W.over (leb-false (put + length bs) (length out) t)))

  pub stored_to : e ≤ length out → e ≡ put + length bs
  stored_to h = (W.fits (within h)).0

  pub stored_then : (cs : List ℕ) (r : ℕ) (out₂ : List ℕ) → e ≤ length out → length out₁ ≡ length out → Written out₁ e cs r out₂
      → Written out put (bs ++ cs) r out₂
  stored_then cs r out₂ h same R =
      let l = length-append bs cs in
      let (n, w) = W.fits (within h) in
      record {
        fits = λ f.
            let (m, v) = R.fits (omega arith) in
            (omega arith, v ∙ ap (λ (o : List ℕ). sets o e cs) w ∙ sets-join out put e bs cs n);
        over = λ f. let z = R.over (omega arith) in omega arith;
      }

  pub stored_stop : (cs : List ℕ) → length out < e → Written out put (bs ++ cs) e out₁
  stored_stop cs h =
      let l = length-append bs cs in
      record { fits = λ f. let x = W.fits (omega arith) in absurd (omega (arith, x.0)); over = λ f. h }

-- What fits ends where it should.
module _ (low : Bool) (out : List ℕ) (put : ℕ) (bs : List ℕ) (e : ℕ) (out₁ : List ℕ) (W : Writes low out put bs e out₁) where
  pub written_to : e ≤ length out → e ≡ put + length bs
  written_to h = go W.ends
    where
      go : (e ≡ put + length bs) ⊎ (length out < e) → e ≡ put + length bs
      go (inl d) = d
      go (inr k) = absurd (omega arith)

  -- One run after another.
  pub written_then : (cs : List ℕ) (r : ℕ) (out₂ : List ℕ) → e ≤ length out → length out₁ ≡ length out → Writes low out₁ e cs r out₂
      → Writes low out put (bs ++ cs) r out₂
  written_then cs r out₂ h same R =
      let l = length-append bs cs in
      let n = written_to h in
      record {
        ends = go R.ends l n;
        fits = λ t f.
            let (i, w) = W.fits t (omega arith) in
            let (m, v) = R.fits t (omega arith) in
            (omega arith, v ∙ ap (λ (o : List ℕ). sets o e cs) w ∙ sets-join out put e bs cs i);
      }
    where
      go : (r ≡ e + length cs) ⊎ (length out₁ < r) → length (bs ++ cs) ≡ length bs + length cs → e ≡ put + length bs
          → (r ≡ put + length (bs ++ cs)) ⊎ (length out < r)
      go (inl d) l n = inl (omega arith)
      go (inr k) l n = inr (omega arith)

  -- No room already for the first.
  pub written_stop : (cs : List ℕ) → length out < e → Writes low out put (bs ++ cs) e out₁
  written_stop cs h =
      let l = length-append bs cs in
      record { ends = inr h; fits = λ t f. let x = W.fits t (omega arith) in absurd (omega (arith, x.0)) }

pub opening_short : (close : Bool) → length (opening close) ≤ 2
opening_short true = omega arith
opening_short false = omega arith

pub store_full : (out : List ℕ) (put b : ℕ) → length out ≤ put → put ≤ length out → StoreIs out put (b ∷ []) (length out + 1) out
store_full out put b h k = record { on = omega arith; is = record { fits = λ f. absurd (omega arith); over = λ f. omega arith } }

pub store_done : (out : List ℕ) (put b : ℕ) → put < length out → StoreIs out put (b ∷ []) (put + 1) (set out put b)
store_done out put b h = record { on = omega arith; is = record { fits = λ f. (refl, refl); over = λ f. absurd (omega arith) } }

pub plan_same : (c : Bool) (m : ℕ) (l l' r r' : Task) → l ≡ l' → r ≡ r'
    → ◌≡◌ {A = Plan} (record { close = c; middle = m; left = l; right = r }) (record { close = c; middle = m; left = l'; right = r' })
plan_same c m l l' r r' p q = ap₂ (λ (x y : Task). record { close = c; middle = m; left = x; right = y }) p q

-- The ends of a tally, whatever its numbers.
pub ends_tallied : (question s : List ℕ) (calls : ℕ) (t : List ℕ) → TallyIs question s calls t → EndsTallied question s t
ends_tallied question s calls t T =
    record { on = T.on; is = λ q at free D P rest ok scope st. (T.is q at free D (λ (n : ℕ). n) (own_part calls) P rest ok scope st).2 }

-- A term, renamed by the table.
module _ (question s : List ℕ) (at D : ℕ) (names : List ℕ) (levels : ℕ) (out : List ℕ) (put : ℕ) where
  pub term_none : length s ≤ at → put ≤ length out → TermIs question s at D names levels out put (length out + 1) out
  term_none past h = record {
    on = omega arith;
    is = λ low q free τ P rest ok few scope st has shallow. let z = stands s at D P rest st in absurd (omega arith);
  }

  module _ (t : List ℕ) (T : EndsTallied question s t) (e : ℕ) (E : e ≡ end_at t at) where
    ends : (q : Question) (free : ℕ) (τ : ℕ → ℕ) (P : Term) (rest : List ℕ) → check_of question ≡ result q → InScope free q.arities D P
        → drop at s ≡ encode D P ++ rest → e - at ≡ length (encode levels (ren τ P))
    ends q free τ P rest ok scope st = omega (arith, E, T.is q at free D P rest ok scope st, length-ren D levels τ P)

    pub term_full : put ≤ length out → length out < put + (e - at) → TermIs question s at D names levels out put (length out + 1) out
    term_full h full = record {
      on = omega arith;
      is = λ low q free τ P rest ok few scope st has shallow.
          let l = ends q free τ P rest ok scope st in
          record { ends = inr (omega arith); fits = λ t f. absurd (omega arith) };
    }

    -- Where no name is changed, the bytes are those of the term.
    pub term_same : put + (e - at) ≤ length out → UnchangedIs names D levels true → (out' : List ℕ) → out' ≡ sets out put (take (e - at) (drop at s))
        → TermIs question s at D names levels out put (put + (e - at)) out'
    term_same room U out' w = record {
      on = omega arith;
      is = λ low q free τ P rest ok few scope st has shallow.
          let l = ends q free τ P rest ok scope st in
          let b : encode levels (ren τ P) ≡ encode D P = unchanged-bytes free D levels names q.arities τ has (omega arith) U P scope in
          let c : take (e - at) (drop at s) ≡ encode levels (ren τ P) =
          ap (take (e - at)) st ∙ take_at (encode D P) rest (e - at) (sym (l ∙ ap length b)) ∙ sym b in
          record { ends = inl (omega arith); fits = λ t f. (omega arith, w ∙ ap (sets out put) c) };
    }

    -- Too many restrictions for a byte.
    pub term_deep : put ≤ length out → 128 < levels → TermIs question s at D names levels out put (length out + 1) out
    term_deep h deep = record {
      on = omega arith;
      is = λ low q free τ P rest ok few scope st has shallow.
          record { ends = inr (omega arith); fits = λ t f. let k = shallow t in absurd (omega arith) };
    }

    pub term_done : put + (e - at) ≤ length out → (arities : List ℕ) → AritiesIs question arities → (table : List ℕ) → TableIs names D levels table
        → (r : ℕ) (out' : List ℕ) → RenameIs s at arities table out put r out' → TermIs question s at D names levels out put (put + (e - at)) out'
    unfolding AritiesIs RenameIs
    term_done room arities ar table B r out' R = record {
      on = omega arith;
      is = λ low q free τ P rest ok few scope st has shallow.
          let l = ends q free τ P rest ok scope st in
          let m = length-ren D levels τ P in
          record {
            ends = inl (omega arith);
            fits = λ t f.
                let k = shallow t in
                let w = R free D levels τ P rest (omega arith) (names_represent free D levels names τ has table (omega arith) B)
                (subst (λ (l : List ℕ). InScope free l D P) (sym (ar q ok)) scope) st (omega arith) (omega arith) in
                (omega arith, w.1);
          };
    }

-- What is asked for by a table is asked for by any that has kept what the names need.
asks_kept : (names names' : List ℕ) (task : Task) (body : ℕ → Term) (free D : ℕ) (σ : ℕ → ℕ) (P : Term) (bs : List ℕ) (top : ℕ) → free ≤ name_count → Kept D names names'
    → Asks names task body free D σ P bs top → Asks names' task body free D σ P bs top
asks_kept names names' task body free D σ P bs top few kept K = record {
  named_own = K.named_own;
  ρ = K.ρ;
  x = K.x;
  has = names-kept free D task.levels names (λ n. K.ρ (σ n)) K.has names' (omega arith) kept;
  new = K.new;
  condition = K.condition;
  action = K.action;
  result = K.result;
  candidate = K.candidate;
  bytes = K.bytes;
  bounded = K.bounded;
}

-- Where no term stands, or none that has what is asked for, anything may be answered.
pub write-none : (question s : List ℕ) (at D : ℕ) (names : List ℕ) (task : Task) (out : List ℕ) (put r : ℕ) (out' : List ℕ) → put ≤ r → length s ≤ at
    → WriteIs question s at D names task out put r out'
write-none question s at D names task out put r out' on past = record {
  on = on;
  is = λ low q free σ P rest bs top ok few scope st K shallow. absurd (omega (arith, encode-some D P, simp (length-append, length-drop) at (ap length st)));
}

-- The term itself.
pub write-still : (question s : List ℕ) (at D : ℕ) (names : List ℕ) (task : Task) (out : List ℕ) (put r : ℕ) (out' : List ℕ) → task.still ≡ true
    → TermIs question s at D names task.levels out put r out' → WriteIs question s at D names task out put r out'
write-still question s at D names task out put r out' still T = record {
  on = T.on;
  is = λ low q free σ P rest bs top ok few scope st K shallow.
      let (e, h) = asks_still names task (body_of q.bodies) free D σ P bs top still K in
      subst (λ (l : List ℕ). Writes low out put l r out') (sym e)
      (T.is low q free (λ n. K.ρ (σ n)) P rest ok few scope st K.has (λ t. let k = shallow t in omega arith));
}

module _ (question s : List ℕ) (at D : ℕ) (names : List ℕ) (task : Task) (walks : task.still ≡ false) (out : List ℕ) (put : ℕ) where
  -- What is to be shown of each form: bytes asked for of it are written.
  abbrev Shows : Bool → ℕ → List ℕ → Question → ℕ → (ℕ → ℕ) → List ℕ → List ℕ → ℕ → Term → Type 0
  Shows low r out' q free σ rest bs top P =
      InScope free q.arities D P → drop at s ≡ encode D P ++ rest → Asks names task (body_of q.bodies) free D σ P bs top → Writes low out put bs r out'

  -- The candidate that is asked for.
  picked : (body : ℕ → Term) (free : ℕ) (σ : ℕ → ℕ) (P : Term) (bs : List ℕ) (top : ℕ) (K : Asks names task body free D σ P bs top) (cs : List Candidate)
      → candidates task.silently body task.calls (ren σ P) ≡ cs → get_or cs task.number blocked ≡ step K.condition K.action K.result
  picked body free σ P bs top K cs e =
      ap (λ (l : List Candidate). get_or l task.number blocked) (sym e) ∙ sym (chosen_is task body (ren σ P) walks) ∙ K.candidate

  -- [Match]
  pub write-mat : get_or s at 0 ≡ 5 → (r : ℕ) (out' : List ℕ) → WriteIs question s (at + 3) D names task out put r out' → WriteIs question s at D names task out put r out'
  unfolding encode InScope
  write-mat g r out' R = record {
    on = R.on;
    is = λ low q free σ P rest bs top ok few scope st K shallow. only_mat (Shows low r out' q free σ rest bs top)
        (λ a b Q scope st K.
        let body = body_of q.bodies in
        let cs = candidates task.silently body task.calls (ren σ Q) in
        let p = matching_of (σ a) (σ b) (get_or cs task.number blocked) K.condition K.action K.result
        (sym (nth_matching (σ a) (σ b) cs task.number)
        ∙ picked body free σ (mat a b Q) bs top K _ (candidates-mat body task.silently task.calls (σ a) (σ b) (ren σ Q))) in
        R.is low q free σ Q rest bs top ok few scope.2 (sym (drop-drop 3 at s) ∙ ap (drop 3) st) (record {
          named_own = K.named_own;
          ρ = K.ρ;
          x = K.x;
          has = K.has;
          new = K.new;
          condition = p.condition;
          action = K.action;
          result = K.result;
          candidate = chosen_is task body (ren σ Q) walks ∙ p.is;
          bytes = K.bytes;
          bounded = K.bounded;
        }) shallow)
        P (sym (tag_at s at D P rest st) ∙ g) scope st K;
  }

  -- [Sum]
  pub write-branch : (tally : List ℕ) → TallyIs question s task.calls tally → (b : Branch) → BranchIs s tally at task.silently task.number b
      → (t : Task) → t ≡ numbered b.number task → (r : ℕ) (out' : List ℕ) → WriteIs question s b.at D names t out put r out'
      → WriteIs question s at D names task out put r out'
  unfolding Reaches
  write-branch tally T b B t e r out' R₀ = record {
    on = R₀.on;
    is = λ low q free σ P rest bs top ok few scope st K shallow.
        let body = body_of q.bodies in
        let R = subst (λ (t : Task). WriteIs question s b.at D names t out put r out') e R₀ in
        let A = B.is question task.calls T q free D σ K.named_own P rest ok scope st in
        R.is low q free σ A.term A.rest bs top ok few A.scope A.stands (record {
          named_own = K.named_own;
          ρ = K.ρ;
          x = K.x;
          has = K.has;
          new = K.new;
          condition = K.condition;
          action = K.action;
          result = K.result;
          candidate = chosen_is (numbered b.number task) body (ren σ A.term) walks ∙ A.candidate ∙ picked body free σ P bs top K _ refl;
          bytes = K.bytes;
          bounded = K.bounded;
        }) shallow;
  }

  -- [Res] and [Open]
  module _ (g : get_or s at 0 ≡ 8) (p : Passed)
      (X : PassIs question s (at + 1) (D + 1) task.calls task.silently task.number p) where
    -- the candidate under the restriction, and what its action does
    under : (q : Question) (free : ℕ) (σ : ℕ → ℕ) (Q : Term) (rest bs : List ℕ) (top : ℕ) → check_of question ≡ result q → free ≤ name_count
        → InScope free q.arities (1 + D) Q → drop (at + 1) s ≡ encode (1 + D) Q ++ rest → (K : Asks names task (body_of q.bodies) free D σ (res Q) bs top)
        → ((v : Under (get_or (candidates task.silently (body_of q.bodies) task.calls (ren (lift σ) Q)) task.number blocked) K.action K.result)
        × Acts free (1 + D) (lift σ) v.action p.kind p.object)
    under q free σ Q rest bs top ok few scope st K =
        let body = body_of q.bodies in
        let d : D + 1 ≡ 1 + D = omega arith in
        let X' : PassIs question s (at + 1) (1 + D) task.calls task.silently task.number p = rw d at X in
        let cs = candidates task.silently body task.calls (ren (lift σ) Q) in
        let v = under_of (get_or cs task.number blocked) K.condition K.action K.result
        (sym (nth_restricted cs task.number) ∙ picked body free σ (res Q) bs top K _ (candidates-res body task.silently task.calls (ren (lift σ) Q))) in
        (v, X'.does q free (lift σ) (own-under task.calls σ K.named_own) Q rest ok few scope st v.premise.condition v.action v.result v.premise.is)

    pub write_open : table_names + D < length names → opens_at D p.kind p.object ≡ true → (r : ℕ) (out' : List ℕ)
        → WriteIs question s (at + 1) (D + 1) (entering D task.new names) task out put r out' → WriteIs question s at D names task out put r out'
    unfolding encode InScope
    write_open room o r out' R₀ = record {
      on = R₀.on;
      is = λ low q free σ P rest bs top ok few scope st K shallow. only_res (Shows low r out' q free σ rest bs top)
          (λ Q scope st K.
          let d : D + 1 ≡ 1 + D = omega arith in
          let R : WriteIs question s (at + 1) (1 + D) (entering D task.new names) task out put r out' = rw d at R₀ in
          let st₁ : drop (at + 1) s ≡ encode (1 + D) Q ++ rest = sym (drop-drop 1 at s) ∙ ap (drop 1) st in
          let (v, does) = under q free σ Q rest bs top ok few scope st₁ K in
          R.is low q free (lift σ) Q rest bs top ok few scope st₁
          (ask_open names task walks D p.kind p.object room o (body_of q.bodies) free σ Q bs top few K v.action v.result v.premise v.restricts does) shallow)
          P (sym (tag_at s at D P rest st) ∙ g) scope st K;
    }

    module _ (o : opens_at D p.kind p.object ≡ false) (e : ℕ) (out₁ : List ℕ) (St : StoreIs out put (8 ∷ []) e out₁) where
      pub write-res : table_names + D < length names → e ≤ length out → length out₁ ≡ length out → (t : Task) → t ≡ beneath task → (r : ℕ) (out' : List ℕ)
          → WriteIs question s (at + 1) (D + 1) (entering D (table_names + task.levels) names) t out₁ e r out' → WriteIs question s at D names task out put r out'
      unfolding encode InScope
      write-res room inside same t et r out' R₀ = record {
        on = omega (arith, St.on, R₀.on);
        is = λ low q free σ P rest bs top ok few scope st K shallow. only_res (Shows low r out' q free σ rest bs top)
            (λ Q scope st K.
            let d : D + 1 ≡ 1 + D = omega arith in
            let R : WriteIs question s (at + 1) (1 + D) (entering D (table_names + task.levels) names) (beneath task) out₁ e r out' =
            rw d at (subst (λ (t : Task). WriteIs question s (at + 1) (D + 1) (entering D (table_names + task.levels) names) t out₁ e r out') et R₀) in
            let st₁ : drop (at + 1) s ≡ encode (1 + D) Q ++ rest = sym (drop-drop 1 at s) ∙ ap (drop 1) st in
            let (v, does) = under q free σ Q rest bs top ok few scope st₁ K in
            let b = res_part names task walks D p.kind p.object o (body_of q.bodies) free σ Q bs top K v.action v.result v.restricts does in
            let B : List ℕ = encode (task.levels + 1) (ren (receiving (suc K.x) (lift K.ρ) v.action) v.result) in
            subst (λ (l : List ℕ). Writes low out put l r out') (sym b)
            (written_then low out put (8 ∷ []) e out₁ (writes_of low out put (8 ∷ []) e out₁ St.is) B r out' inside same
            (R.is low q free (lift σ) Q rest B top ok few scope st₁
            (ask-res names task walks D p.kind p.object room o (body_of q.bodies) free σ Q bs top few K v.action v.result v.restricts does v.premise) shallow)))
            P (sym (tag_at s at D P rest st) ∙ g) scope st K;
      }

      pub write_res_stop : length out < e → WriteIs question s at D names task out put e out₁
      unfolding encode InScope
      write_res_stop past = record {
        on = St.on;
        is = λ low q free σ P rest bs top ok few scope st K shallow. only_res (Shows low e out₁ q free σ rest bs top)
            (λ Q scope st K.
            let st₁ : drop (at + 1) s ≡ encode (1 + D) Q ++ rest = sym (drop-drop 1 at s) ∙ ap (drop 1) st in
            let (v, does) = under q free σ Q rest bs top ok few scope st₁ K in
            let b = res_part names task walks D p.kind p.object o (body_of q.bodies) free σ Q bs top K v.action v.result v.restricts does in
            subst (λ (l : List ℕ). Writes low out put l e out₁) (sym b) (written_stop low out put (8 ∷ []) e out₁ (writes_of low out put (8 ∷ []) e out₁ St.is) _ past))
            P (sym (tag_at s at D P rest st) ∙ g) scope st K;
      }

  -- no call is left to open, or the question is not accepted
  pub write_closed : 8 < get_or s at 0 → Unopened question s at task.calls → (r : ℕ) (out' : List ℕ) → put ≤ r → WriteIs question s at D names task out put r out'
  write_closed g U r out' on = record {
    on = on;
    is = λ low q free σ P rest bs top ok few scope st K shallow. at_closed question s at D task.calls task.silently task.number g U
        (λ (P : Term). Asks names task (body_of q.bodies) free D σ P bs top → Writes low out put bs r out') q free P rest ok scope st
        (λ xs z K.
        let body = body_of q.bodies in
        let k = get_or s (at + 1) 0 in
        let c : candidates task.silently body task.calls (call k (map σ xs)) ≡ [] =
        ap (λ (c : ℕ). candidates task.silently body c (call k (map σ xs))) z
        ∙ candidates_no_call body task.silently k (map σ xs) in
        never K.condition K.action K.result (picked body free σ (call k xs) bs top K [] c))
        K;
  }

  -- [Con]
  module _ (g : 8 < get_or s at 0) (o : Opening) (O : OpeningIs question s at task.calls o) where
    pub write-opened : (bytes : List ℕ) → BodyIs question o.definition bytes → task.calls ≤ 1 → (c : ℕ) → task.calls ≡ suc c → (t : Task) → t ≡ inside task
        → (given : List ℕ) → CalledIs s (at + 2) o.arity D names given
        → (r : ℕ) (out' : List ℕ) → WriteIs question bytes 0 o.arity given t out put r out' → WriteIs question s at D names task out put r out'
    write-opened bytes B once c z t e given C r out' R₀ = record {
      on = R₀.on;
      is = λ low q free σ P rest bs top ok few scope st K shallow. at_call question s at D task.calls task.silently task.number g o.definition o.arity O.called.definition O.called.arity
          (λ (P : Term). Asks names task (body_of q.bodies) free D σ P bs top → Writes low out put bs r out') q free P rest ok scope st
          (λ xs m a l scoped st K.
          let body = body_of q.bodies in
          let R = subst (λ (t : Task). WriteIs question bytes 0 o.arity given t out put r out') e R₀ in
          let e : candidates task.silently body task.calls (call o.definition (map σ xs)) ≡ candidates task.silently body c (ren (params σ xs) (body o.definition)) =
          opened-candidates question q ok o.definition task.calls c once z task.silently (map σ xs) in
          let f = picked body free σ (call o.definition xs) bs top K _ e in
          let tc : task.calls - 1 ≡ c = omega arith in
          R.is low q 0 (params σ xs) (body o.definition) [] bs top ok (omega arith)
          (subst (λ (n : ℕ). InScope 0 q.arities n (body o.definition)) (sym a) (body_scope question q ok o.definition))
          (B.is q ok l ∙ ap (λ (n : ℕ). encode n (body o.definition)) (sym a) ∙ sym (append-nil (encode o.arity (body o.definition))))
          (record {
            named_own = own_body task.calls (params σ xs) once;
            ρ = K.ρ;
            x = K.x;
            has = names-call free D s (at + 2) xs rest few scoped st task.levels names given σ K.ρ K.has o.arity m C;
            new = K.new;
            condition = K.condition;
            action = K.action;
            result = K.result;
            candidate = chosen_is (inside task) body (ren (params σ xs) (body o.definition)) walks ∙ rw tc f;
            bytes = K.bytes;
            bounded = K.bounded;
          }) shallow)
          K;
    }

  -- [Par], [Com] and [Close]
  module _ (g : get_or s at 0 ≡ 7) (plan : Plan) (L : PlanIs question s at D names task plan) (e : ℕ) (out₁ : List ℕ) (St : StoreIs out put (opening plan.close) e out₁) where
    parts : (q : Question) (free : ℕ) (σ : ℕ → ℕ) (P Q : Term) (rest bs : List ℕ) (top : ℕ) → check_of question ≡ result q → free ≤ name_count
        → InScope free q.arities D (par P Q) → drop at s ≡ encode D (par P Q) ++ rest → Asks names task (body_of q.bodies) free D σ (par P Q) bs top
        → Parts names plan (body_of q.bodies) free D σ at P Q bs top
    unfolding encode InScope
    parts q free σ P Q rest bs top ok few scope st K = L.is q free σ P Q rest bs top ok few scope.0 scope.1 (at_left D s at P Q rest 7 st) K

    pub write_par_stop : length out < e → WriteIs question s at D names task out put e out₁
    write_par_stop past = record {
      on = St.on;
      is = λ low q free σ P rest bs top ok few scope st K shallow. only_par (Shows low e out₁ q free σ rest bs top)
          (λ P Q scope st K.
          let a = parts q free σ P Q rest bs top ok few scope st K in
          subst (λ (l : List ℕ). Writes low out put l e out₁) (sym a.bytes)
          (written_stop low out put (opening plan.close) e out₁ (writes_of low out put (opening plan.close) e out₁ St.is) (a.first ++ a.second) past))
          P (sym (tag_at s at D P rest st) ∙ g) scope st K;
    }

    module _ (inside : e ≤ length out) (same : length out₁ ≡ length out) (m : ℕ) (out₂ : List ℕ) (A : WriteIs question s (at + 1) D names plan.left out₁ e m out₂) where
      first : (low : Bool) (q : Question) (free : ℕ) (σ : ℕ → ℕ) (P Q : Term) (rest bs : List ℕ) (top : ℕ) → check_of question ≡ result q → free ≤ name_count
          → InScope free q.arities D (par P Q) → drop at s ≡ encode D (par P Q) ++ rest → (a : Parts names plan (body_of q.bodies) free D σ at P Q bs top)
          → (low ≡ true → top ≤ 128) → Writes low out put (opening plan.close ++ a.first) m out₂
      unfolding encode InScope
      first low q free σ P Q rest bs top ok few scope st a shallow =
          written_then low out put (opening plan.close) e out₁ (writes_of low out put (opening plan.close) e out₁ St.is) a.first m out₂ inside same
          (A.is low q free σ P (encode D Q ++ rest) a.first top ok few scope.0 (at_left D s at P Q rest 7 st) a.left shallow)

      pub write_left_stop : length out < m → WriteIs question s at D names task out put m out₂
      write_left_stop past = record {
        on = omega (arith, St.on, A.on);
        is = λ low q free σ P rest bs top ok few scope st K shallow. only_par (Shows low m out₂ q free σ rest bs top)
            (λ P Q scope st K.
            let a = parts q free σ P Q rest bs top ok few scope st K in
            subst (λ (l : List ℕ). Writes low out put l m out₂) (append_assoc (opening plan.close) a.first a.second ∙ sym a.bytes)
            (written_stop low out put (opening plan.close ++ a.first) m out₂ (first low q free σ P Q rest bs top ok few scope st a shallow) a.second past))
            P (sym (tag_at s at D P rest st) ∙ g) scope st K;
      }

      pub write-par : m ≤ length out → length out₂ ≡ length out → (names₂ : List ℕ) → Kept D names names₂
          → (r : ℕ) (out' : List ℕ) → WriteIs question s plan.middle D names₂ plan.right out₂ m r out'
          → WriteIs question s at D names task out put r out'
      unfolding encode InScope
      write-par within₂ same₂ names₂ kept r out' B = record {
        on = omega (arith, St.on, A.on, B.on);
        is = λ low q free σ P rest bs top ok few scope st K shallow. only_par (Shows low r out' q free σ rest bs top)
            (λ P Q scope st K.
            let a = parts q free σ P Q rest bs top ok few scope st K in
            subst (λ (l : List ℕ). Writes low out put l r out') (append_assoc (opening plan.close) a.first a.second ∙ sym a.bytes)
            (written_then low out put (opening plan.close ++ a.first) m out₂ (first low q free σ P Q rest bs top ok few scope st a shallow) a.second r out' within₂ same₂
            (B.is low q free σ Q rest a.second top ok few scope.1 (at_right D s at P Q rest 7 st plan.middle a.middle)
            (asks_kept names names₂ plan.right (body_of q.bodies) free D σ Q a.second top few kept a.right) shallow)))
            P (sym (tag_at s at D P rest st) ∙ g) scope st K;
      }
