-- The bytes of one entry of the list, from a condition's array, an action and the bytes of a result.
use Rattle.std.specs.Prelude.{cond, List, ◌∷◌, ◌++◌, ℕ, ◌-◌, eqb, length, get_or, take, replicate}
use Rattle.terms.specs.Limits.{name_count, longest_term}
use Rattle.steps_conditions.specs.Slots.{new_slot}
use Rattle.steps_conditions.specs.declared.action.Action.{Action}
use Rattle.steps_conditions.specs.declared.action.Action.TheVariants.{Silent, Input, Output, NewOutput}
use Rattle.steps_entries.specs.declared.listed.ActionBytes.{ActionBytes}

-- The object of an action outside every restriction, where slots are names: the new name is x, and another name is rewritten by the condition.
unfoldable pub object_byte : List ℕ → ℕ → ℕ → ℕ
object_byte class x b = cond (eqb b new_slot) x (get_or class b 0)

-- An action outside every restriction.
unfoldable pub action_bytes : List ℕ → ℕ → Action → ActionBytes
action_bytes class x Silent = record { kind = 0; channel = 0; object = 0 }
action_bytes class x (Input a b) = record { kind = 1; channel = get_or class a 0; object = object_byte class x b }
action_bytes class x (Output a b) = record { kind = 2; channel = get_or class a 0; object = object_byte class x b }
action_bytes class x (NewOutput a b) = record { kind = 3; channel = get_or class a 0; object = object_byte class x b }

-- Classes, action, and the bytes of the result, their number before them.
unfoldable pub entry_bytes : List ℕ → ActionBytes → List ℕ → List ℕ
entry_bytes class action result =
    take name_count class
    ++ (action.kind ∷ action.channel ∷ action.object ∷ length result ∷ (result ++ replicate (longest_term - length result) 0))
