-- What the census counts is what request 2026-14 says: its parts are those of accepted questions without definitions that have no free name but 0 and
-- 1, and its numbers are determined.
use mathlib.Core.Path.{◌≡◌, refl, sym, ap, subst, ◌∙◌}
use mathlib.Core.List.{List, []}
use mathlib.Core.Logic.{◌↔◌}
use Prim.Native.Nat.{ℕ, ◌≤◌, ◌<◌}
use native.Mathlib.Omega.{arith}
use lib.ListN.{length, drop}
use Rattle.calculus.specs.Free.{Free}
use Rattle.terms.specs.Limits.{name_count}
use Rattle.terms.specs.Answer.{result}
use Rattle.terms.specs.Encoding.{InScope}
use Rattle.terms.specs.Framing.{Fields, joined, framed}
use Rattle.terms.specs.Edition.{one}
use Rattle.terms.specs.Reading.{numbered, read_whole}
use Rattle.terms.specs.Question.{Question, check_of, fields_of, write}
use Rattle.terms.proofs.Answers.{result_injective, Every}
use Rattle.terms.proofs.FramingLaws.{behind_version, framed_in}
use Rattle.terms.proofs.EditionOne.{read_whole_first}
use Rattle.terms.proofs.ScopeLaws.{free_below}
use Rattle.terms.proofs.WellFormed.{WellFormed, framable, accepted_well_formed, accepted_written}
use Rattle.steps.proofs.Scope.{scope_calls, in_scope}
use Rattle.small_parts.specs.Census.{free_names, SmallPart, asked, is_same, isDifferent, is_unsettled, PairOf, CensusIs}
use Rattle.small_parts.proofs.CensusOfWords.{part_scope, pair_accepted}
use Rattle.small_parts.proofs.Counting.{counted_once}

-- the fields of the question about a part and itself
abbrev fields_asked : List ℕ → Fields
fields_asked w = record { arities = []; bodies = []; first = w; second = w; apart = [] }

module _ (w : List ℕ) (short : length w ≤ 5) (q : Question) (accepted : check_of (asked w w) ≡ result q) where
  well : WellFormed q
  well = accepted_well_formed (asked w w) q accepted

  -- Bytes determine their fields.
  same-fields : fields_of q ≡ fields_asked w
  unfolding write asked joined behind_version Every
  same-fields =
      result_injective (
      sym (framed_in (fields_of q) (framable q well))
      ∙ ap (λ bs. framed (drop 1 bs)) (accepted_written (asked w w) q accepted)
      ∙ framed_in (fields_asked w) (record { counts = refl; bodies = tt; first = omega arith; second = omega arith; apart = omega arith })
      )

  accepted_small : ((a : ℕ) → Free a q.first → a < 2) → SmallPart (length w) w
  unfolding fields_of
  accepted_small few = record {
    term = q.first;
    reads = subst (λ bs. read_whole one (numbered []) free_names 0 bs ≡ result q.first) (ap (λ f. f.first) same-fields) (read_whole_first free_names (omega arith) [] 0 q.first scope);
    outermost = well.first.parallels_outermost;
    size = refl;
  }
    where
      scope : InScope free_names [] 0 q.first
      scope =
          let s : InScope name_count [] 0 q.first = subst (λ ar. InScope name_count ar 0 q.first) (ap (λ f. f.arities) same-fields) well.first.scope in
          in_scope 2 [] 0 q.first (λ a f. omega (arith, few a f)) (scope_calls name_count [] 0 q.first s)

pub small_iff_accepted : (w : List ℕ) → length w ≤ 5
    → SmallPart (length w) w ↔ ((q : Question) × (check_of (asked w w) ≡ result q) × ((a : ℕ) → Free a q.first → a < 2))
small_iff_accepted w h = (
  λ p. (_, pair_accepted (length w) h w w p p, λ a f. omega (arith, free_below 2 [] 0 p.term (part_scope (length w) w p) a f)),
  λ (q, e, f). accepted_small w h q e f,
)

-- No two lines of the census for one length.
pub census_once : (n s d u s' d' u' : ℕ) → CensusIs n s d u → CensusIs n s' d' u' → (s ≡ s') × (d ≡ d') × (u ≡ u')
census_once n s d u s' d' u' a b = (
  counted_once (PairOf n is_same) s s' a.same b.same,
  counted_once (PairOf n isDifferent) d d' a.different b.different,
  counted_once (PairOf n is_unsettled) u u' a.unsettled b.unsettled,
)
