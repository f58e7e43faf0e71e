-- The steps of the worked exchanges of document 01, computed; a, b, c are the names 0, 1, 2, and 3 is the new name.
use mathlib.Core.List.{List, [], ◌∷◌, map}
use mathlib.Core.Path.{◌≡◌, refl}
use Prim.Native.Nat.{ℕ, zero, suc}
use lib.ListN.{length}
use Rattle.calculus.specs.Cond.{join, cls, above, matches_to, matches_below, canonical}
use Rattle.calls.specs.ReachSearch.{same_names, same_pairs, same_call, same_place, is_known, is_called, differing, reach_term, reach_from}
use Rattle.calculus.specs.Distinction.{among}
use Rattle.calculus.specs.Free.{fn, lower_l}
use Rattle.calculus.specs.Term.{Term, nil, tau, inp, out, bout, mat, sum, par, res, call}
use Rattle.calculus.specs.Tidy.{restrict_used, tidy}
use Rattle.terms.specs.Encoding.{encode, name_byte}
use Rattle.steps.specs.Raw.{matching, left_steps, right_steps, meet, communication, communications, leaves_alone, restricted_alone, outside, restricted_action, restricted, visible_of, silent_of, visible_calls, silent_calls, visible, silent, beneath, of_places, places_in, places_of_call}
use Rattle.steps.specs.Forms.{as_it_is}
use Rattle.steps.specs.Listed.{ListedStep, names_from, classes_of, kind_of, channel_of, object_of, listed_as, canon_step, result_bytes, bytes}
use Rattle.steps.specs.CallLimit.{is_many, past_calls}
use Rattle.steps.specs.Listing.{order, insert, all_fit, collect, Listing, unsettled, listed, limited, listing}

-- the classes of the empty condition, and of [a = b]
abbrev single : List ℕ
single = 0 ∷ 1 ∷ 2 ∷ 3 ∷ 4 ∷ 5 ∷ 6 ∷ 7 ∷ 8 ∷ 9 ∷ 10 ∷ 11 ∷ 12 ∷ 13 ∷ 14 ∷ 15 ∷ []

abbrev ab : List ℕ
ab = 0 ∷ 0 ∷ 2 ∷ 3 ∷ 4 ∷ 5 ∷ 6 ∷ 7 ∷ 8 ∷ 9 ∷ 10 ∷ 11 ∷ 12 ∷ 13 ∷ 14 ∷ 15 ∷ []

abbrev entry : List ℕ → ℕ → ℕ → ℕ → Term → ListedStep
entry c k a b P = record { classes = c; kind = k; channel = a; object = b; result = P }

-- K of arity 1, with the body given
abbrev steps : Term → Term → Listing
steps K P = listing as_it_is 16 112 256 (λ k. K) 1 3 P

abbrev rows : List (Listing × Listing)
rows =
    (steps nil nil, listed [])
    ∷ (steps nil (mat 0 1 (tau nil)), listed (entry ab 0 0 0 nil ∷ []))
    ∷ (steps nil (sum (tau nil) (mat 0 1 (tau nil))), listed (entry ab 0 0 0 nil ∷ entry single 0 0 0 nil ∷ []))
    ∷ (
      steps nil (par (inp 0 nil) (out 1 2 nil)),
      listed
          (entry ab 0 0 0 (par nil nil) ∷ entry single 1 0 3 (par nil (out 1 2 nil)) ∷ entry single 2 1 2 (par (inp 0 nil) nil) ∷ []),
    )
    ∷ (steps nil (res (out 1 0 nil)), listed (entry single 3 0 3 nil ∷ []))
    ∷ (steps nil (bout 0 nil), listed (entry single 3 0 3 nil ∷ []))
    ∷ (steps nil (bout 0 (mat 0 2 (tau nil))), listed (entry single 3 0 3 (mat 3 1 (tau nil)) ∷ []))
    ∷ (steps nil (res (mat 0 0 (tau nil))), listed (entry single 0 0 0 (res nil) ∷ []))
    ∷ (steps (out 0 0 (call 0 (0 ∷ []))) (call 0 (0 ∷ [])), listed (entry single 2 0 0 (call 0 (0 ∷ [])) ∷ []))
    ∷ (steps (out 0 0 (res (call 0 (1 ∷ [])))) (call 0 (0 ∷ [])), listed (entry single 2 0 0 (res (call 0 (1 ∷ []))) ∷ []))
    ∷ []

pub exchanges : map (λ r. r.0) rows ≡ map (λ r. r.1) rows
unfolding listing limited collect insert order all_fit bytes result_bytes canon_step listed_as kind_of channel_of object_of classes_of names_from visible
    silent visible_calls silent_calls places_of_call places_in past_calls is_many of_places beneath reach_from reach_term is_known is_called differing same_place same_call same_pairs
    same_names canonical above matches_to matches_below visible_of silent_of restricted restricted_action outside restricted_alone leaves_alone communications communication meet
    left_steps right_steps matching encode name_byte cls join
exchanges = refl

-- What the exchanges do not show: blocked actions, Close, a channel that is restricted, rewriting by a condition, duplicates, calls whose
-- names meet binders of the body, and their order; the limits.
abbrev more : List (Listing × Listing)
more =
    (steps nil (res (mat 0 1 (tau nil))), listed [])
    ∷ (steps nil (res (out 0 0 nil)), listed [])
    ∷ (steps nil (res (inp 0 nil)), listed [])
    ∷ (
      steps nil (par (res (out 1 0 (inp 0 nil))) (inp 0 (out 0 0 nil))),
      listed
          (entry single 0 0 0 (res (par (inp 0 nil) (out 0 0 nil)))
          ∷ entry single 1 0 3 (par (res (out 1 0 (inp 0 nil))) (out 3 3 nil))
          ∷ entry single 3 0 3 (par (inp 3 nil) (inp 0 (out 0 0 nil)))
          ∷ []),
    )
    ∷ (
      steps nil (res (par (out 0 1 nil) (inp 0 (out 0 2 nil)))),
      listed (entry single 0 0 0 (res (par nil (out 1 1 nil))) ∷ []),
    )
    ∷ (steps nil (res (inp 1 (out 1 0 nil))), listed (entry single 1 0 3 (res (out 0 4 nil)) ∷ []))
    ∷ (steps nil (mat 0 1 (out 1 2 (out 1 1 nil))), listed (entry ab 2 0 2 (out 0 0 nil) ∷ []))
    ∷ (steps nil (mat 0 1 (out 2 1 nil)), listed (entry ab 2 2 0 nil ∷ []))
    ∷ (steps nil (sum (tau nil) (tau nil)), listed (entry single 0 0 0 nil ∷ []))
    ∷ (steps (inp 0 (out 1 0 nil)) (call 0 (0 ∷ [])), listed (entry single 1 0 3 (out 0 3 nil) ∷ []))
    ∷ (steps (out 1 0 nil) (call 0 (0 ∷ 1 ∷ [])), listed (entry single 2 0 1 nil ∷ []))
    ∷ (listing as_it_is 16 112 1 (λ k. nil) 1 3 (sum (tau nil) (mat 0 1 (tau nil))), unsettled)
    ∷ (listing as_it_is 16 2 256 (λ k. nil) 1 3 (tau (tau nil)), listed (entry single 0 0 0 (tau nil) ∷ []))
    ∷ (listing as_it_is 16 1 256 (λ k. nil) 1 3 (tau (tau nil)), unsettled)
    ∷ (listing as_it_is 16 1 256 (λ k. nil) 1 3 (res (out 0 0 (tau nil))), listed [])
    ∷ []

pub turnings : map (λ r. r.0) more ≡ map (λ r. r.1) more
unfolding listing limited collect insert order all_fit bytes result_bytes canon_step listed_as kind_of channel_of object_of classes_of names_from visible
    silent visible_calls silent_calls places_of_call places_in past_calls is_many of_places beneath reach_from reach_term is_known is_called differing same_place same_call same_pairs
    same_names canonical above matches_to matches_below visible_of silent_of restricted restricted_action outside restricted_alone leaves_alone communications communication meet
    left_steps right_steps matching encode name_byte cls join
turnings = refl

-- Results tidied (request 2026-04): a restriction whose name goes unused in the result goes, beneath a prefix too; one that is used stays.
abbrev tidied : Term → Listing
tidied P = listing tidy 16 112 256 (λ k. nil) 1 3 P

abbrev unused : List (Listing × Listing)
unused =
    (tidied (inp 0 (res (out 1 1 nil))), listed (entry single 1 0 3 (out 3 3 nil) ∷ []))
    ∷ (tidied (inp 0 (res (out 1 0 (res nil)))), listed (entry single 1 0 3 (res (out 4 0 nil)) ∷ []))
    ∷ (tidied (tau (res (res (out 1 2 nil)))), listed (entry single 0 0 0 (res (out 0 1 nil)) ∷ []))
    ∷ (tidied (sum (tau (res (res (out 1 2 nil)))) (tau (res (res (out 0 2 nil))))), listed (entry single 0 0 0 (res (out 0 1 nil)) ∷ []))
    ∷ (tidied (tau (res (inp 0 (res (call 0 (1 ∷ [])))))), listed (entry single 0 0 0 (res (inp 0 (call 0 (0 ∷ [])))) ∷ []))
    -- a name that no restriction binds after [Close], and one that the communication used last
    ∷ (
      tidied (par (bout 0 nil) (inp 0 nil)),
      listed (entry single 0 0 0 (par nil nil) ∷ entry single 1 0 3 (par (bout 0 nil) nil) ∷ entry single 3 0 3 (par nil (inp 0 nil)) ∷ []),
    )
    ∷ (tidied (res (par (inp 0 nil) (out 0 1 nil))), listed (entry single 0 0 0 (par nil nil) ∷ []))
    -- a result longer than the limit before it is tidied
    ∷ (listing tidy 16 1 256 (λ k. nil) 1 3 (tau (res (res nil))), listed (entry single 0 0 0 nil ∷ []))
    ∷ []

pub tidied-exchanges : map (λ r. r.0) unused ≡ map (λ r. r.1) unused
unfolding listing limited collect insert order all_fit bytes result_bytes canon_step listed_as kind_of channel_of object_of classes_of names_from visible
    silent visible_calls silent_calls places_of_call places_in past_calls is_many of_places beneath reach_from reach_term is_known is_called differing same_place same_call same_pairs
    same_names canonical above matches_to matches_below visible_of silent_of restricted restricted_action outside restricted_alone leaves_alone communications communication meet
    left_steps right_steps matching encode name_byte cls join tidy restrict_used among fn lower_l
tidied-exchanges = refl

-- 37 silent components side by side have 37 steps: nothing grows with the number of pairs of components
abbrev silents : ℕ → Term
silents zero = tau nil
silents (suc n) = par (tau nil) (silents n)

abbrev many : Listing → ℕ
many unsettled = 0
many (listed ss) = length ss

pub wide : many (steps nil (silents 36)) ≡ 37
unfolding listing limited collect insert order all_fit bytes result_bytes canon_step listed_as kind_of channel_of object_of classes_of names_from visible
    silent visible_calls silent_calls places_of_call places_in past_calls is_many of_places beneath reach_from reach_term is_known is_called differing same_place same_call same_pairs
    same_names canonical above matches_to matches_below visible_of silent_of restricted restricted_action outside restricted_alone leaves_alone communications communication meet
    left_steps right_steps matching encode name_byte cls join
wide = refl
