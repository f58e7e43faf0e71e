-- Document 01, "Exchanges to try": the rows marked P, proved together on the definitions, and rows for those of its wrong turnings that these
-- do not show. Assumes nothing.
use mathlib.Core.Path.{◌≡◌, refl}
use mathlib.Core.List.{List, [], ◌∷◌, ◌++◌}
use Prim.Native.Nat.{ℕ, ◌*◌}
use Rattle.calculus.specs.Cond.{Pairs, join, cls, above, matches_to, matches_below, canonical}
use Rattle.calls.specs.ReachSearch.{same_names, same_pairs, same_call, same_place, is_known, is_called, differing, reach_term, reach_from}
use Rattle.calculus.specs.Distinction.{among, keep}
use Rattle.calculus.specs.Free.{lower_l, fn}
use Rattle.calculus.specs.Term.{Term, nil, tau, inp, out, bout, mat, sum, par, res, call, put}
use Rattle.late_early.specs.LateEarly.{late, early}
use Rattle.terms.specs.Answer.{Answer, result, ◌>>=◌, ◌>>◌, need}
use Rattle.terms.specs.Encoding.{name_byte, encode}
use Rattle.terms.specs.Framing.{cut, field, fields, framed, joined, sized, all_sized}
use Rattle.terms.specs.Grammar.{sequential, parallel_outermost, guarded}
use Rattle.calculus.specs.Tidy.{restrict_used, tidy}
use Rattle.terms.specs.Operations.{holds_apart}
use Rattle.terms.specs.Question.{every, fits, read_bodies, read_part_with, read_apart_with, different_names_with, read_pairs_with, version, check_terms_with, check_fields_with, check_with, edition_of, question_with, body_fields, pair_bytes, fields_of, write}
use Rattle.terms.specs.Edition.{version_byte}
use Rattle.terms.specs.Reading.{byte, read_name, read_names, tag_of, read_term, read_whole, numbered, read_count}
use Rattle.terms.specs.Question.{body_of}
use Rattle.steps.specs.Forms.{result_form}
use Rattle.steps.specs.Raw.{matching, left_steps, right_steps, meet, communication, communications, leaves_alone, restricted_alone, outside, restricted_action, restricted, visible_of, silent_of, visible_calls, silent_calls, visible, silent, beneath, of_places, places_in, places_of_call}
use Rattle.steps.specs.Listed.{names_from, classes_of, class_in, implies, own_classes, kind_of, channel_of, object_of, listed_as, canon_step, result_bytes, bytes}
use Rattle.steps.specs.CallLimit.{is_many, past_calls}
use Rattle.steps.specs.Listing.{order, insert, all_fit, collect, limited, listing}
use Rattle.field.specs.Setting.{setting_of, steps_in}
use Rattle.field.specs.Situation.{free_from, free_in, pairs_of, situation, start_of, missing, new_name, same_bytes, same_situation}
use Rattle.field.specs.Successors.{select, permitted, answers, extruded_by, updated_by, unconditional, allowed, received, led, join_all, answers_to, moves_of, moves, binds_name, some_binds, led_to, with_steps, successors}
use Rattle.field.specs.Exploration.{found, unseen, together, with_row, explore, field_of}
use Rattle.verdict.specs.Received.{lots, demand_of, named_moves, sides_demand, named_demands}
use Rattle.verdict.specs.Verdict.{Manner, openly, named, differs, demands_of, Verdict, same, different, all_found, answered, all_answered, strike, rounds, decided, verdict_by}
use Rattle.verdict.specs.Judge.{slot_bytes, judge_by, within_capacity}

pub record Exchange : Type 0 where
  pub question : List ℕ
  pub answer : Answer Verdict

-- two parts without definitions under the apart pairs D
unfoldable pub ask : Term → Term → Pairs → Verdict → Exchange
ask P Q D v = record { question = write (record { arities = []; bodies = []; first = P; second = Q; apart = D }); answer = result v }

-- one definition, of arity n
unfoldable pub ask_with : ℕ → Term → Term → Term → Verdict → Exchange
ask_with n K P Q v = record { question = write (record { arities = n ∷ []; bodies = K ∷ []; first = P; second = Q; apart = [] }); answer = result v }

-- The rows marked P: a, b, c are the names 0, 1, 2; a free name n stands as n plus the number of binders around it.
unfoldable pub exchanges : List Exchange
exchanges =
    ask nil nil [] (same 1)
    ∷ ask (mat 0 1 (tau nil)) nil [] (different 1)
    ∷ ask (mat 0 1 (tau nil)) nil ((0, 1) ∷ []) (same 1)
    -- the whole file
    ∷ record {
      question = 0x01 ∷ 0x00 ∷ 0x00 ∷ 0x08 ∷ 0x06 ∷ 0x01 ∷ 0x00 ∷ 0x05 ∷ 0x00 ∷ 0x01 ∷ 0x01 ∷ 0x00 ∷ 0x00 ∷ 0x02 ∷ 0x01 ∷ 0x00 ∷ 0x00 ∷ 0x00 ∷ [];
      answer = result (same 2);
    }
    ∷ ask (par (inp 0 nil) (out 1 2 nil)) (sum (inp 0 (out 2 3 nil)) (out 1 2 (inp 0 nil))) [] (different 4)
    ∷ ask (par (inp 0 nil) (out 1 2 nil)) (sum (inp 0 (out 2 3 nil)) (out 1 2 (inp 0 nil))) ((0, 1) ∷ []) (same 4)
    ∷ ask (res (out 1 0 nil)) (bout 0 nil) [] (same 2)
    ∷ ask (bout 0 (mat 0 2 (tau nil))) (bout 0 nil) [] (same 2)
    ∷ ask (inp 0 (mat 0 2 (tau nil))) (inp 0 nil) [] (different 2)
    ∷ ask (res (mat 0 0 (tau nil))) (tau nil) [] (same 2)
    ∷ []

-- Wrong turnings of document 01 that no row above shows: the other side rewritten by a step's condition, and the step's own result; apart
-- pairs that last; a call's names that meet binders of its body, and their order.
unfoldable pub turnings : List Exchange
turnings =
    ask (sum (tau (out 1 1 nil)) (mat 0 1 (tau (out 0 0 nil)))) (tau (out 1 1 nil)) [] (same 4)
    ∷ ask (mat 0 1 (tau (out 1 1 nil))) (mat 0 1 (tau (out 0 0 nil))) [] (same 3)
    ∷ ask (tau (tau (mat 0 1 (tau nil)))) (tau (tau nil)) ((0, 1) ∷ []) (same 3)
    ∷ ask_with 1 (inp 0 (out 1 0 nil)) (call 0 (0 ∷ [])) (inp 0 (out 1 0 nil)) (same 3)
    ∷ ask_with 1 (res (out 1 0 nil)) (res (out 1 0 (call 0 (0 ∷ [])))) (bout 0 (bout 0 nil)) (same 3)
    ∷ ask_with 2 (out 1 0 nil) (call 0 (0 ∷ 1 ∷ [])) (out 0 1 nil) (same 2)
    ∷ ask_with 2 (out 1 0 nil) (res (call 0 (1 ∷ 0 ∷ []))) (bout 0 nil) (same 2)
    ∷ ask (par (res (out 1 0 (inp 0 nil))) (inp 0 (out 0 0 nil))) nil [] (different 1)
    ∷ ask (res (par (out 0 1 nil) (inp 0 (out 0 0 nil)))) (tau (out 0 0 nil)) [] (same 3)
    ∷ ask (res (par (out 0 0 nil) (inp 0 (out 0 2 nil)))) (tau nil) [] (same 2)
    ∷ []

-- Request 2026-02: rows for the late and the early verdict. Only the last but one tells the two apart.
unfoldable pub named-exchanges : Verdict → List Exchange
named-exchanges v =
    ask (mat 0 1 (tau nil)) nil [] (same 1)
    ∷ ask (par (inp 0 nil) (out 1 2 nil)) (sum (inp 0 (out 2 3 nil)) (out 1 2 (inp 0 nil))) [] (same 4)
    ∷ ask (inp 0 (mat 0 2 (tau nil))) (inp 0 nil) [] (different 4)
    ∷ ask (sum (inp 0 (tau nil)) (inp 0 nil)) (sum (sum (inp 0 (tau nil)) (inp 0 nil)) (inp 0 (mat 0 2 (tau nil)))) [] v
    ∷ ask (bout 0 (mat 0 2 (tau nil))) (bout 0 nil) [] (same 2)
    ∷ []

-- at the capacity of `judge`, 256
unfoldable pub judged : Manner → List Exchange → List (Answer Verdict)
judged m [] = []
judged m (e ∷ es) = judge_by m e.question 256 (slot_bytes * 256) ∷ judged m es

unfoldable pub expected : List Exchange → List (Answer Verdict)
expected [] = []
expected (e ∷ es) = e.answer ∷ expected es

computed : (judged openly (exchanges ++ turnings) ≡ expected (exchanges ++ turnings))
    × (judged (named late) (named-exchanges (different 11)) ≡ expected (named-exchanges (different 11)))
    × (judged (named early) (named-exchanges (same 11)) ≡ expected (named-exchanges (same 11)))
unfolding judged expected exchanges turnings named-exchanges ask ask_with judge_by within_capacity ◌>>=◌ ◌>>◌ need check_fields_with check_terms_with version
    framed cut field fields every fits read_bodies read_part_with read_whole read_term read_name read_names byte tag_of sequential parallel_outermost guarded
    read_apart_with different_names_with read_pairs_with joined sized all_sized write fields_of body_fields pair_bytes encode name_byte verdict_by differs demands_of
    named_demands sides_demand named_moves demand_of lots start_of decided rounds strike all_answered answered all_found found unseen together with_row
    explore field_of successors with_steps led_to some_binds binds_name moves moves_of answers_to join_all led received allowed unconditional own_classes put
    updated_by extruded_by answers implies permitted select free_from free_in pairs_of situation missing new_name same_bytes same_situation setting_of steps_in
    holds_apart among keep fn lower_l body_of listing limited collect insert order all_fit bytes result_bytes result_form tidy restrict_used canon_step listed_as kind_of channel_of object_of
    classes_of class_in names_from visible silent visible_calls silent_calls visible_of silent_of restricted restricted_action outside restricted_alone
    leaves_alone communications communication meet left_steps right_steps matching past_calls is_many places_of_call places_in of_places beneath reach_from reach_term is_known
    is_called differing same_place same_call same_pairs same_names canonical above matches_to matches_below cls join question_with edition_of check_with version_byte numbered read_count
computed = (refl, refl, refl)

pub worked_exchanges : judged openly (exchanges ++ turnings) ≡ expected (exchanges ++ turnings)
worked_exchanges = computed.0

pub late_exchanges : judged (named late) (named-exchanges (different 11)) ≡ expected (named-exchanges (different 11))
late_exchanges = computed.1

pub early_exchanges : judged (named early) (named-exchanges (same 11)) ≡ expected (named-exchanges (same 11))
early_exchanges = computed.2
