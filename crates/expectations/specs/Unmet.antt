-- Believed: a contract of a command stands on it.
-- The first reply that does not meet an expectation of its call's line.
use Rattle.std.specs.Prelude.{◌≡◌, ℕ, List, All, take, slice_get, Some}
use Rattle.posix_terms.specs.declared.reply.Reply.{Reply}
use Rattle.expectations.specs.Meeting.{Meets}
use Rattle.expectations.specs.declared.expected.Expectation.{Expectation}
use Rattle.expectations.specs.declared.unmet.Unmet.{Unmet}

-- the reply to the call at this place meets the expectation, if that is of this place
abbrev pub IsMet : ℕ × Reply → Expectation → Type 0
IsMet call expectation = expectation.place ≡ call.0 → Meets expectation.wanted call.1

-- and it does not
pub record IsUnmet (call : ℕ × Reply) (expectation : Expectation) : Type 0 where
  pub place : expectation.place ≡ call.0
  pub reply : ¬ (Meets expectation.wanted call.1)

-- the reply to this call meets all expectations of its place
abbrev pub AreMet : List Expectation → ℕ × Reply → Type 0
AreMet expectations call = All (IsMet call) expectations

-- it meets those before this one, and not this one
pub record IsFirstOfCall (expectations : List Expectation) (call : ℕ × Reply) (n : ℕ) : Type 0 where
  pub before : AreMet (take n expectations) call
  pub expectation : Expectation
  pub at : slice_get expectations n ≡ Some expectation
  pub unmet : IsUnmet call expectation

-- the replies to the calls before this row meet all expectations, and that of this row does not
pub record IsFirstUnmet
    (expectations : List Expectation) (calls : List (ℕ × Reply)) (first : Unmet) : Type 0 where
  pub before : All (AreMet expectations) (take first.row calls)
  pub call : ℕ × Reply
  pub at : slice_get calls first.row ≡ Some call
  pub here : IsFirstOfCall expectations call first.expectation
