-- The history of a run is legal.
use Rattle.lock_model.specs.Laws.{AreDated}
use Rattle.std.proofs.Common.{◌≡◌, ℕ, suc, List, [], ◌∷◌, Option, Some, None, Bool, true, false, is_some, is_none, sym}
use Rattle.std.proofs.Common.{refl, ap, ◌∙◌, subst, ⊎_elim}
use Rattle.std.proofs.lemmas.Bool.{true≢false, false≢true, and_parts, cases_Bool}
use Rattle.std.proofs.lemmas.Option.{same_Some, none-some}
use Rattle.lock_model.specs.CallTable.{CallTable, keeps_table, goes_outside}
use Rattle.sequential_object.specs.declared.turn_end.TurnEnd.{TurnEnd}
use Rattle.lock_model.specs.Legal.{IsRight, IsLegal, changed, completed, handed_on}
use Rattle.lock_model.specs.Machine.{Setup, Event, fits_job}
use Rattle.lock_model.specs.Runs.{run}
use Rattle.lock_model.specs.State.{Job, Phase, Row, State, thread_of, start}
use Rattle.lock_model.specs.State.Phase.{Working, WantsTable, WantsObject, Granted, ToOutside, Outside, Recorded}
use Rattle.lock_model.specs.State.Phase.{Blocked, Ended}
use Rattle.sequential_object.specs.Worlds.{World}
use Rattle.posix_terms.specs.Calls.{Call}
use Rattle.posix_terms.specs.Outcomes.{undated}
use Rattle.posix_terms.specs.declared.outcome.Given.{Given}
use Rattle.posix_terms.specs.declared.transcript.Turn.{Turn}
use Rattle.sequential_object.specs.Step.{Carried}
use Rattle.lock_model.specs.Legal.{IsLegalHistory}
use Rattle.lock_model.proofs.Walk.{Holding, Pending, Part, next_world, opened, Walk}
use Rattle.lock_model.proofs.Kept.{right_run}

completed_whole : (g : Bool) (o x : Option Given) → is_some o ≡ g → completed g o x ≡ o
completed_whole true None x h = absurd (false≢true h)
completed_whole true (Some u) x h = refl
completed_whole false o x h = refl

changed_either : (calls : CallTable) (w : World) (c : Call) (b : Carried) (o u : Option Given) (k : Bool) → k ≡ false
    → changed calls w c b o k ≡ changed calls w c b u k
changed_either calls w c b o u true h = absurd (false≢true (sym h))
changed_either calls w c b None None false h = refl
changed_either calls w c b None (Some y) false h = refl
changed_either calls w c b (Some x) None false h = refl
changed_either calls w c b (Some x) (Some y) false h = refl

-- an open row with an outcome has one that fits
pending_outcome : (calls : CallTable) (p : Phase) (job : Job) (o : Given) → Holding calls p job → job.outcome ≡ Some o
    → (goes_outside job.plan ≡ true) × (fits_job calls job o ≡ true) × (o.clock ≡ Some job.turn.clock)
pending_outcome calls (Granted j) job o h q = absurd (none-some o (sym h.2 ∙ q))
pending_outcome calls (ToOutside j) job o h q = absurd (none-some o (sym h.2 ∙ q))
pending_outcome calls (Outside j) job o h q = absurd (none-some o (sym h.2 ∙ q))
pending_outcome calls (Recorded j) job o h q =
    let same = same_Some h.2.0 o (sym h.2.1 ∙ q) in (
      h.1,
      subst (λ (x : Given). fits_job calls job x ≡ true) same h.2.2,
      subst
          (λ (x : Given). x.clock ≡ Some job.turn.clock) same h.2.3,
    )
pending_outcome calls Working job o h q = absurd h
pending_outcome calls (WantsTable d e) job o h q = absurd h
pending_outcome calls (WantsObject d e k n way) job o h q = absurd h
pending_outcome calls (Blocked d e) job o h q = absurd h
pending_outcome calls Ended job o h q = absurd h

right_open : (calls : CallTable) (s : State) (v : World) (b : Carried) (r : Row) (us : List Row) → r.answer ≡ None
    → Pending calls s v b r us → IsRight calls v b r
right_open calls s v b r us none p =
    record {
      answer = λ a q. absurd (none-some a (sym none ∙ q));
      outcome = λ o q.
          let g = pending_outcome calls (thread_of s r.turn.thread).phase p.job o p.holding (p.outcome ∙ q) in (
            sym (ap goes_outside p.plan) ∙ g.0,
            sym (λ k. calls.fits (calls.asks (p.found k) (p.call k) (p.carried k)) (undated o)) ∙ (and_parts _ _ g.1).0,
            g.2 ∙ ap (λ (t : Turn). Some t.clock) p.turn,
          );
      whole = λ q. absurd (true≢false (sym (ap is_none none) ∙ q));
    }

legal_from : (calls : CallTable) (s : State) (chosen : ℕ → Option Given) (k : ℕ) (w : World) (carried : ℕ
    → Carried) (busy : ℕ → Bool) (rs : List Row) → Walk calls s w carried busy rs → IsLegal calls chosen k w carried rs
legal_from calls s chosen k w carried busy [] h = tt
legal_from calls s chosen k w carried busy (r ∷ rs) h =
    legal_row calls s chosen k w carried r rs r.answer refl h.1
    (λ n v. legal_from calls s chosen n (next_world calls w (carried r.turn.thread) r r.answer)
    (handed_on calls carried r) (opened busy r) rs h.2)
  where
    legal_row : (calls : CallTable) (s : State) (chosen : ℕ → Option Given) (k : ℕ) (w : World) (carried : ℕ
        → Carried) (r : Row) (rs : List Row) (o : Option TurnEnd) → r.answer ≡ o
        → Part calls s w (carried r.turn.thread) r rs o
        → ((n : ℕ) (u : Unit {0}) → IsLegal calls chosen n (next_world calls w (carried r.turn.thread) r r.answer)
        (handed_on calls carried r) rs)
        → IsLegal calls chosen k w carried (r ∷ rs)
    legal_row calls s chosen k w carried r rs (Some a) e part rest =
        let b = carried r.turn.thread in
        let plan = calls.plan w r.call b in (
          part,
          subst (λ (v : World). IsLegal calls chosen (suc k) v (handed_on calls carried r) rs)
              (ap (next_world calls w b r) e
              ∙ ap (λ (o : Option Given). changed calls w r.call b o (keeps_table plan))
              (sym (completed_whole (goes_outside plan) r.outcome (chosen k) (part.whole (ap is_none e)))))
              (rest (suc k) tt),
        )
    legal_row calls s chosen k w carried r rs None e part rest =
        let b = carried r.turn.thread in
        let plan = calls.plan w r.call b in (
          right_open calls s w b r rs e part,
          ⊎_elim
              (λ (keeps : keeps_table plan ≡ true).
              subst (λ (us : List Row). IsLegal calls chosen (suc k)
              (changed calls w r.call b (completed (goes_outside plan) r.outcome (chosen k)) (keeps_table plan))
              (handed_on calls carried r) us)
              (sym (part.keeps (ap keeps_table part.plan ∙ keeps)).0) tt)
              (λ (early : keeps_table plan ≡ false).
              subst (λ (v : World). IsLegal calls chosen (suc k) v (handed_on calls carried r) rs)
              (ap (next_world calls w b r) e
              ∙ changed_either calls w r.call b None (completed (goes_outside plan) r.outcome (chosen k))
              (keeps_table plan) early)
              (rest (suc k) tt))
              (cases_Bool (keeps_table plan)),
        )

pub legal_law : (setup : Setup) (threads objects : ℕ) (w : World) (events : List Event)
    → IsLegalHistory setup.calls w (run setup events (start threads objects w)).rows
legal_law setup threads objects w events chosen =
    let s = run setup events (start threads objects w) in
    legal_from setup.calls s chosen 0 w (λ i. setup.calls.nothing_carried) (λ i. false) s.rows
    (right_run setup threads objects w events)

-- each outcome of a legal history has the clock of its row's turn
pub dated_rows : (calls : CallTable) (chosen : ℕ → Option Given) (k : ℕ) (w : World) (carried : ℕ
    → Carried) (rs : List Row) → IsLegal calls chosen k w carried rs → AreDated rs
dated_rows calls chosen k w carried [] h = tt
dated_rows calls chosen k w carried (r ∷ rs) h =
    (λ o is. (h.0.outcome o is).2, dated_rows calls chosen (suc k) _ _ rs h.1)
