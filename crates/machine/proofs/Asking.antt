-- What a thread asks outside.
use Rattle.posix_terms.specs.Queries.{requested_at}
use Rattle.std.proofs.Common.{is_some, ◌≡◌, ℕ, List, get_or, slice_get, Some, sym, ap, ◌∙◌, subst}
use Rattle.std.proofs.lemmas.Option.{get_or_from_slice_get, none-some, same_Some, slice_get-map}
use Rattle.std.specs.Prelude.{option_map}
use Rattle.lock_machine.specs.Refusals.{phase_at}
use Rattle.lock_machine.specs.Shows.{IsOut, PhaseShows}
use Rattle.lock_machine.specs.Whole.{Whole, thread_at}
use Rattle.lock_machine.specs.declared.thread.Outing.{Outing}
use Rattle.lock_machine.specs.declared.thread.Phase.{Phase}
use Rattle.lock_machine.specs.declared.thread.Phase.TheVariants as phase
use Rattle.lock_model.specs.Held.{job_in, row_of}
use Rattle.lock_model.specs.Rows.{shown}
use Rattle.lock_model.specs.Runs.{own}
use Rattle.lock_model.specs.State.{Job, State, thread_of}
use Rattle.sequential_object.specs.Step.{asks}
use Rattle.posix_terms.specs.Calls.{Call}
use Rattle.posix_terms.specs.declared.transcript.HistoryRow.{HistoryRow}
use Rattle.machine.specs.Requests.{IsOutsideTurn, IsRequest, out_of}
use Rattle.machine.specs.Runs.{IsEnd, terms_with}

-- the call of a thread that goes outside or is there
record IsGoing (w : Whole) (s : State) (i : ℕ) (o : Outing) : Type 0 where
  job : Job
  there : job_in (thread_of s i).phase ≡ Some job
  out : IsOut (terms_with w (own s)) i s.rows o job

going_at : (w : Whole) (s : State) (i : ℕ) (o : Outing) → IsEnd w s → out_of (phase_at w i) ≡ Some o → IsGoing w s i o
going_at w s i o h is = by_phase (phase_at w i) (h.1.threads i).phase is
  where
    by_phase : (p : Phase) → PhaseShows (terms_with w (own s)) i s.rows (thread_at w i) (thread_of s i) p
        → out_of p ≡ Some o → IsGoing w s i o
    by_phase phase.Working g q = absurd (none-some o q)
    by_phase (phase.WantsTable call carried) g q = absurd (none-some o q)
    by_phase (phase.WantsObject call carried clock object) g q = absurd (none-some o q)
    by_phase (phase.Granted place object ends) g q = absurd (none-some o q)
    by_phase (phase.ToOutside x) g q =
        record {
          job = g.0;
          there = ap job_in g.1.0;
          out = subst (λ (y : Outing). IsOut (terms_with w (own s)) i s.rows y g.0) (same_Some x o q) g.1.1;
        }
    by_phase (phase.Outside x) g q =
        record {
          job = g.0;
          there = ap job_in g.1.0;
          out = subst (λ (y : Outing). IsOut (terms_with w (own s)) i s.rows y g.0) (same_Some x o q) g.1.1;
        }
    by_phase (phase.Recorded x) g q = absurd (none-some o q)
    by_phase (phase.Blocked carried) g q = absurd (none-some o q)
    by_phase phase.Ended g q = absurd (none-some o q)

-- its row stands in the history, with its call
row_there : (w : Whole) (s : State) (i : ℕ) (o : Outing) → IsEnd w s → (h : IsGoing w s i o)
    → slice_get w.rows o.row ≡ Some (shown (row_of h.job))
row_there w s i o at h = ap (λ (rows : List HistoryRow). slice_get rows o.row) (sym at.1.rows)
    ∙ slice_get-map shown s.rows o.row ∙ ap (option_map shown) h.out.row

pub is_request : (w : Whole) (i : ℕ) (o : Outing) (row : HistoryRow) (c : Call) → out_of (phase_at w i) ≡ Some o
    → row ≡ get_or w.rows o.row row → c ≡ row.call
    → IsRequest w i (Some (record { kind = o.errand.kind; asked = o.errand.asked; call = c; turn = row.turn }))
is_request w i o row c is at copy = (
  ap is_some is,
  λ s job end there.
      let h = going_at w s i o end is in
      let same : h.job ≡ job = same_Some h.job job (sym h.there ∙ there) in
      let own : row ≡ shown (row_of h.job) = at
      ∙ get_or_from_slice_get w.rows o.row (shown (row_of h.job)) row (row_there w s i o end h) in
      let call : h.job.call ≡ c = ap (λ (r : HistoryRow). r.call) (sym own) ∙ sym copy in
      let turn : h.job.turn ≡ row.turn = ap (λ (r : HistoryRow). r.turn) (sym own) in
      ap (λ (j : Job). requested_at j.turn (asks j.found.object j.call j.carried)) (sym same)
      ∙ ap (requested_at h.job.turn) h.out.asks_is
      ∙ (λ k. Some (record { kind = o.errand.kind; asked = o.errand.asked; call = call k; turn = turn k })),
)

-- and its turn
pub is_outside_turn : (w : Whole) (i : ℕ) (o : Outing) (row : HistoryRow) → out_of (phase_at w i) ≡ Some o
    → row ≡ get_or w.rows o.row row → IsOutsideTurn w i (Some row.turn)
is_outside_turn w i o row is at = (
  ap is_some is,
  λ s job end there.
      let h = going_at w s i o end is in
      let same : h.job ≡ job = same_Some h.job job (sym h.there ∙ there) in
      let own : row ≡ shown (row_of h.job) = at
      ∙ get_or_from_slice_get w.rows o.row (shown (row_of h.job)) row (row_there w s i o end h) in
      ap (λ (j : Job). j.turn) (sym same) ∙ ap (λ (r : HistoryRow). r.turn) (sym own),
)
