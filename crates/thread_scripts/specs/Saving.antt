-- Internal: no contract of the headline or of a command stands on it.
-- A state with what was saved of an earlier one.
use Rattle.std.specs.Prelude.{ℕ, List, [], ◌∷◌, Option, Some, None, slice_index_or, slice_set}
use Rattle.std.specs.Prelude.{unwrap_or}
use Rattle.thread_scripts.specs.declared.state.Saved.{Saved}
use Rattle.thread_scripts.specs.declared.actor.ScriptState.{ScriptState}

-- the byte registers, those that were replaced with what they held before
unfoldable pub registers_before : List (Option (List ℕ)) → List (List ℕ) → List (List ℕ)
registers_before [] registers = registers
registers_before _ [] = []
registers_before (held ∷ replaced) (register ∷ registers) =
    unwrap_or held register ∷ registers_before replaced registers

-- what was replaced, once this register is too, which held these bytes
abbrev pub also_replaced : ℕ → List ℕ → List (Option (List ℕ)) → List (Option (List ℕ))
also_replaced register held replaced =
    slice_set replaced register (Some (unwrap_or (slice_index_or replaced register None) held))

-- the state with what was saved, and with the byte registers that were replaced as they were
abbrev pub with_saved : ScriptState → Saved → List (Option (List ℕ)) → ScriptState
with_saved s saved replaced = record s {
  place = saved.place;
  numbers = saved.numbers;
  bytes = registers_before replaced s.bytes;
  executed = saved.executed;
}
