-- Believed: a contract of a command stands on it.
-- Descriptors that scripts name by their numbers, and which of them more than one names.
use Rattle.std.specs.Prelude.{◌≡◌, ℕ, ◌+◌, ◌≤◌, All, Bool, true, false, ℤ, List, [], ◌∷◌}
use Rattle.std.specs.Prelude.{length, map, Option, Some, None, if◌then◌else◌}
use Rattle.std.specs.Borrow.{Bor}
use Rattle.std.specs.List.{IsDistinct, list_any}
use Rattle.std.specs.Ordering.{int_eq}
use Rattle.answered_calls.specs.Operands as said
use Rattle.answered_calls.specs.Operands.{NamedSaid, operands_of}
use Rattle.answered_calls.specs.OperandsSeen.{named_seen}
use Rattle.answered_calls.specs.declared.operand.Operand.{Operand}
use Rattle.thread_scripts.specs.declared.line.Data.{Data}
use Rattle.thread_scripts.specs.declared.line.Line.{Line}
use Rattle.thread_scripts.specs.declared.line.Line.TheVariants as line
use Rattle.thread_scripts.specs.declared.line.Number.{Number}
use Rattle.thread_scripts.specs.declared.line.Number.TheVariants as number
use Rattle.script_checks.specs.declared.descriptors.SharedDescriptor.{SharedDescriptor}

-- the number by which an operand names a descriptor: it is one, and no register
abbrev pub fixed_operand : NamedSaid Number Data → Option ℤ
fixed_operand (name, said.Descriptor (number.Value n)) = Some n
fixed_operand other = None

-- the same of an operand as code sees it, if there is one
abbrev pub fixed_seen : Option (Operand Number (Bor Data)) → Option ℤ
fixed_seen None = None
fixed_seen (Some o) = fixed_operand (named_seen o)

-- of each operand of a line, the number by which it names a descriptor, if it does
abbrev pub fixed_descriptors : Line → List (Option ℤ)
fixed_descriptors (line.Call l) = map fixed_operand (operands_of l)
fixed_descriptors _ = []

-- a descriptor is named there, and by this number
abbrev pub is_number : ℤ → Option ℤ → Bool
is_number n None = false
is_number n (Some m) = int_eq n m

-- a line names this descriptor by its number
abbrev pub names : ℤ → Line → Bool
names n l = list_any (is_number n) (fixed_descriptors l)

-- the numbers of the scripts that do, the first of which has this one
abbrev pub naming_from : ℕ → ℤ → List (List Line) → List ℕ
naming_from i n [] = []
naming_from i n (script ∷ scripts) =
    if list_any (names n) script then i ∷ naming_from (i + 1) n scripts
    else naming_from (i + 1) n scripts

-- a descriptor is among these
abbrev pub has_number : ℤ → List SharedDescriptor → Bool
has_number n shared = list_any (λ s. int_eq n s.number) shared

-- it is named by these scripts, of which there are two at least
abbrev pub IsSharedIn : List (List Line) → SharedDescriptor → Type 0
IsSharedIn scripts s =
    (s.scripts.items ≡ naming_from 0 s.number scripts) × (2 ≤ length s.scripts.items)

-- if more than one script names a descriptor by its number, it is among these
abbrev pub IsToldIfShared : List (List Line) → List SharedDescriptor → ℤ → Type 0
IsToldIfShared scripts shared n = 2 ≤ length (naming_from 0 n scripts) → has_number n shared ≡ true

-- each of these is shared, and none is there twice
pub record AreSharedOnce (scripts : List (List Line))
    (shared : List SharedDescriptor) : Type 0 where
  pub each : All (IsSharedIn scripts) shared
  pub once : IsDistinct int_eq (map (λ s. s.number) shared)

-- these are the descriptors that more than one script names by their numbers
pub record AreAllShared (scripts : List (List Line)) (shared : List SharedDescriptor) : Type 0 where
  pub shared_once : AreSharedOnce scripts shared
  pub all : (n : ℤ) → IsToldIfShared scripts shared n

-- more of them, with this one if it is shared
pub record Adds (scripts : List (List Line)) (n : Option ℤ)
    (shared more : List SharedDescriptor) : Type 0 where
  pub once : AreSharedOnce scripts more
  pub kept : (m : ℤ) → has_number m shared ≡ true → has_number m more ≡ true
  pub told : (m : ℤ) → is_number m n ≡ true → IsToldIfShared scripts more m

-- more of them, with those of these lines that are shared
pub record AddsOf (scripts : List (List Line)) (lines : List Line)
    (shared more : List SharedDescriptor) : Type 0 where
  pub once : AreSharedOnce scripts more
  pub kept : (m : ℤ) → has_number m shared ≡ true → has_number m more ≡ true
  pub told : (m : ℤ) → list_any (names m) lines ≡ true → IsToldIfShared scripts more m

-- which of these operands names a descriptor first by its number, if one does; the first has this
-- number
abbrev pub operand_naming : ℕ → ℤ → List (Option ℤ) → Option ℕ
operand_naming i n [] = None
operand_naming i n (operand ∷ operands) =
    if is_number n operand then Some i else operand_naming (i + 1) n operands

-- the place of a line and the word of it that names a descriptor, if one does; or what is later
abbrev pub used_or : ℕ → Option ℕ → Option (ℕ × ℕ) → Option (ℕ × ℕ)
used_or place None later = later
used_or place (Some word) later = Some (place, word)

-- where lines name a descriptor first by its number, if they do: the place of the line, of which
-- the first has this one, and the number of the word in it, from 0
abbrev pub first_use_from : ℕ → ℤ → List Line → Option (ℕ × ℕ)
first_use_from place n [] = None
first_use_from place n (l ∷ lines) =
    used_or place (operand_naming 1 n (fixed_descriptors l)) (first_use_from (place + 1) n lines)
