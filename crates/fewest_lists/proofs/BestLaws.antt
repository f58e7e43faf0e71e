-- What a search knows after one more list. Assumes nothing.
use mathlib.Core.Bool.{Bool, true, false, ◌&&◌, ◌||◌}
use mathlib.Core.List.{List, [], ◌∷◌, ◌++◌}
use mathlib.Core.Path.{◌≡◌, refl, sym, ap, ap₂, ◌∙◌}
use native.Mathlib.Omega.{arith}
use Rattle.std.specs.Prelude.{Option, Some, None, Ok, Err}
use Rattle.std.specs.Option.{option_or}
use Prim.Native.Nat.{ℕ, ◌+◌, ◌≤◌}
use lib.Dec.{eqb}
use lib.ListN.{length, get_or, drop}
use lib.Seq.{get_or-drop}
use Rattle.calculus.specs.Cond.{Pairs}
use Rattle.terms.specs.Limits.{name_count, longest_apart}
use Rattle.terms.specs.Operations.{holds_apart}
use Rattle.terms.specs.Question.{pair_bytes}
use Rattle.terms_bytes.proofs.Stores.{sets-start}
use Rattle.field_pairs.specs.PairFlags.{AddsPair}
use Rattle.field_pairs.specs.Slot.{flag, flags_of}
use Rattle.field_pairs.proofs.PairLaws.{length_flags, flag_at, flags_are}
use Rattle.verdict.specs.Outcome.{gave}
use Rattle.fewest.specs.Apart.{of_fewest, area_after}
use Rattle.fewest.specs.Choices.{in_order}
use Rattle.fewest.specs.Fewest.{undecided, none, chosen}
use Rattle.fewest_lists.specs.declared.best.Undecided.{Undecided}
use Rattle.fewest_lists.specs.declared.best.Choice.TheVariants.{Unsettled, NoChoice, Length}
use Rattle.fewest_lists.specs.Bests.{Best, BestIs, followed_by, SameIs, WithPair, mapped, choice_outcome, Tells}
use Rattle.fewest_lists.specs.Lists.{flagged, PairsWritten}
use Rattle.fewest_lists.proofs.FlagLaws.{flagged_apart}
use Rattle.fewest_lists.proofs.PairWriting.{flagged-bytes}
use Rattle.field.specs.Situation.{all_pairs}
use Rattle.field_pairs.specs.PairNumbers.{pair_at}

-- the first one stays
pub same_or : (best : Option (List ℕ)) (flags : List ℕ) → SameIs best flags (option_or best (Some flags))
unfolding SameIs BestIs followed_by
same_or None flags undecided D b e = absurd b
same_or None flags none D b e = e
same_or None flags (chosen E) D b e = absurd b
same_or (Some fs) flags undecided D b e = absurd b
same_or (Some fs) flags none D b e = absurd b
same_or (Some fs) flags (chosen E) D b e = b

-- order means nothing
holds_last : (D : Pairs) (p : ℕ × ℕ) (a b : ℕ) → holds_apart (p ∷ D) a b ≡ holds_apart (D ++ (p ∷ [])) a b
unfolding holds_apart
holds_last [] p a b = refl
holds_last (q ∷ D) p a b =
    or_assoc (eqb p.0 a && eqb p.1 b) (eqb p.0 b && eqb p.1 a) (eqb q.0 a && eqb q.1 b) (eqb q.0 b && eqb q.1 a) (holds_apart D a b)
    ∙ ap (λ t. (eqb q.0 a && eqb q.1 b) || (eqb q.0 b && eqb q.1 a) || t) (holds_last D p a b)
  where
    or_assoc : (x y u v t : Bool) → (x || y || (u || v || t)) ≡ (u || v || (x || y || t))
    or_assoc true true true true t = refl
    or_assoc true true true false t = refl
    or_assoc true true false true t = refl
    or_assoc true true false false t = refl
    or_assoc true false true true t = refl
    or_assoc true false true false t = refl
    or_assoc true false false true t = refl
    or_assoc true false false false t = refl
    or_assoc false true true true t = refl
    or_assoc false true true false t = refl
    or_assoc false true false true t = refl
    or_assoc false true false false t = refl
    or_assoc false false true true t = refl
    or_assoc false false true false t = refl
    or_assoc false false false true t = refl
    or_assoc false false false false t = refl

flags_last : (D : Pairs) (p : ℕ × ℕ) → flags_of (p ∷ D) ≡ flags_of (D ++ (p ∷ []))
flags_last D p =
    flags_are (D ++ (p ∷ [])) (flags_of (p ∷ D)) (length_flags (p ∷ D)) (λ k h. flag_at (p ∷ D) k h ∙ ap flag (holds_last D p (pair_at name_count k).0 (pair_at name_count k).1))

pub pair_added : (flags pairs : List ℕ) (at a b : ℕ) (r : List ℕ) → a ≡ get_or pairs at 0 → b ≡ get_or pairs (at + 1) 0 → AddsPair flags a b r
    → WithPair flags pairs at r
unfolding WithPair AddsPair pair_bytes
pair_added flags pairs at a b r x y m D p ps e d =
    let z : at + 0 ≡ at = omega arith in
    let i : a ≡ p.0 = x ∙ ap (λ k. get_or pairs k 0) (sym z) ∙ sym (get_or-drop at pairs 0 0) ∙ ap (λ l. get_or l 0 0) d in
    let j : b ≡ p.1 = y ∙ sym (get_or-drop at pairs 1 0) ∙ ap (λ l. get_or l 1 0) d in
    m D e ∙ ap₂ (λ a b. flags_of ((a, b) ∷ D)) i j ∙ flags_last D p

-- What is told.
module _ (best : Best) (area : List ℕ) where
  pub tells_unsettled : (u : Undecided) → best ≡ Err u → Tells best area Unsettled area
  unfolding Tells BestIs mapped choice_outcome of_fewest area_after
  tells_unsettled u e = rw e go
    where
      go : Tells (Err u) area Unsettled area
      go undecided b = record { answer = refl; left = refl }
      go none b = absurd b
      go (chosen D) b = absurd b

  pub tells_none : (found : Option (List ℕ)) → best ≡ Ok found → found ≡ None → Tells best area NoChoice area
  unfolding Tells BestIs mapped choice_outcome of_fewest area_after
  tells_none found e f = rw (e, f) go
    where
      go : Tells (Ok None) area NoChoice area
      go undecided b = absurd b
      go none b = record { answer = refl; left = refl }
      go (chosen D) b = absurd b

  pub tells_list : (found : Option (List ℕ)) (flags : List ℕ) → best ≡ Ok found → found ≡ Some flags → longest_apart ≤ length area
      → (r : ℕ) (area' : List ℕ) → PairsWritten flags area 0 r area' → Tells best area (Length r) area'
  unfolding Tells BestIs mapped choice_outcome of_fewest area_after PairsWritten
  tells_list found flags e f room r area' w = rw (e, f) go
    where
      go : Tells (Ok (Some flags)) area (Length r) area'
      go undecided b = absurd b
      go none b = absurd b
      go (chosen D) b =
          let l : flagged flags (all_pairs name_count) ≡ in_order name_count D = ap (λ fs. flagged fs (all_pairs name_count)) b ∙ flagged_apart D in
          record {
            answer = ap gave (omega (arith, w.ends, ap (λ D. length (pair_bytes D)) l));
            left = w.written ∙ sets-start area (pair_bytes (flagged flags (all_pairs name_count))) (omega (arith, flagged-bytes flags))
                ∙ ap (λ D. pair_bytes D ++ drop (length (pair_bytes D)) area) l;
          }
