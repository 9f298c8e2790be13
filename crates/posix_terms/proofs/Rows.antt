-- A row of a history is its call, turn, outcome and answer.
use Rattle.std.proofs.Common.{◌≡◌, ap}
use Rattle.posix_terms.specs.declared.transcript.HistoryRow.{HistoryRow}

pub row_is : (a b : HistoryRow)
    → a.call ≡ b.call → a.turn ≡ b.turn → a.outcome ≡ b.outcome → a.answer ≡ b.answer → a ≡ b
row_is a b call turn outcome answer =
    λ i. record { call = call i; turn = turn i; outcome = outcome i; answer = answer i }

pub row_parts : (a b : HistoryRow) → a ≡ b
    → (a.call ≡ b.call) × (a.turn ≡ b.turn) × (a.outcome ≡ b.outcome) × (a.answer ≡ b.answer)
row_parts a b is = (
  ap (λ (r : HistoryRow). r.call) is,
  ap (λ (r : HistoryRow). r.turn) is,
  ap (λ (r : HistoryRow). r.outcome) is,
  ap (λ (r : HistoryRow). r.answer) is,
)
