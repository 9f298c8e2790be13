-- The outcomes that came are of the kinds that their rows' calls ask for.
use Rattle.std.proofs.lemmas.Simd.{map-map}
use Rattle.std.proofs.Common.{◌≡◌, ℕ, suc, List, [], ◌∷◌, length, map, filter_map, Option, Some, None, Bool, true}
use Rattle.std.proofs.Common.{false, ◌==◌, if◌then◌else◌, sym, refl, ap, ◌∙◌}
use Rattle.std.proofs.lemmas.Bool.{and_parts, false≢true}
use Rattle.lock_machine.specs.Conditions.{setup_under}
use Rattle.lock_machine.specs.Requests.{AskTheirKind, IsOfKind, kind_asked}
use Rattle.lock_machine.specs.Whole.{settings_in}
use Rattle.lock_model.specs.Came.{CameIsRows}
use Rattle.lock_model.specs.History as lock
use Rattle.lock_model.specs.Laws.{LegalOfArisen}
use Rattle.lock_model.specs.Legal.{IsLegal, handed_on}
use Rattle.sequential_object.specs.Numbers.{first_world}
use Rattle.lock_model.specs.RealCalls.{real_calls}
use Rattle.sequential_object.specs.Answers.{answers_query, outcome_in}
use Rattle.lock_model.specs.Rows.{shown}
use Rattle.lock_model.specs.Runs.{own}
use Rattle.lock_model.specs.State.{Row, thread_of}
use Rattle.sequential_object.specs.Worlds.{World}
use Rattle.lock_model.specs.Transcripts as seen
use Rattle.posix_terms.specs.Outcomes.{fits, is_kind, undated}
use Rattle.sequential_object.specs.Step.{Carried, asks}
use Rattle.posix_terms.specs.Calls.{Call}
use Rattle.posix_terms.specs.declared.limits.TheConstants.Limits as limit
use Rattle.posix_terms.specs.declared.outcome.Given.{Given}
use Rattle.posix_terms.specs.declared.outcome.OutKind.{OutKind}
use Rattle.posix_terms.specs.declared.outcome.OutKind.TheVariants as kind
use Rattle.posix_terms.specs.Queries.{Query}
use Rattle.posix_terms.specs.declared.transcript.Settings.{Settings}
use Rattle.machine.specs.Covered.{kind_before, kinds_in}
use Rattle.machine.specs.Kept.{IsKept}
use Rattle.machine.specs.Records.{outcomes_of, as_logged}
use Rattle.machine.specs.Runs.{terms_with}
use Rattle.machine.specs.Shown.{Shown}

pub same_kind : (a b : OutKind) → is_kind a b ≡ true → a ≡ b
same_kind kind.Open kind.Open h = refl
same_kind kind.Read kind.Read h = refl
same_kind kind.Write kind.Write h = refl
same_kind kind.Seek kind.Seek h = refl
same_kind kind.Listen kind.Listen h = refl
same_kind kind.Connect kind.Connect h = refl
same_kind kind.Accept kind.Accept h = refl
same_kind kind.Shutdown kind.Shutdown h = refl
same_kind kind.Close kind.Close h = refl
same_kind k l h = absurd (false≢true h)

-- an outcome that answers what a call asks is of that kind
answered_kind : (c : Call) (r : Option Query) (g : Given) → IsOfKind (kind_asked c) r → answers_query r g ≡ true
    → Some g.kind ≡ kind_asked c
answered_kind c (Some r) g of h =
    ap Some (same_kind g.kind r.kind (and_parts (is_kind g.kind r.kind) (fits r.kind r.asked g.outcome) h).0) ∙ of
answered_kind c None g of h = absurd (false≢true h)

abbrev kind_of : Given → Option OutKind
kind_of g = Some g.kind

abbrev IsAsked : Call → Option Given → Type 0
IsAsked c o = (g : Given) → o ≡ Some g → Some g.kind ≡ kind_asked c

-- each row of a legal history in turn
kinds_shown : (law : AskTheirKind) (settings : Settings) (i : ℕ) (k : ℕ) (w : World) (carried : ℕ
    → Carried) (rs : List Row) → IsLegal (real_calls settings) (λ n. None) k w carried rs
    → map kind_of (seen.outcomes_of i rs) ≡ kinds_in i (map shown rs)
kinds_shown law settings i k w carried [] legal = refl
kinds_shown law settings i k w carried (r ∷ rs) legal =
    by_test
    (r.turn.thread == i)
    r.outcome
    (λ g is. answered_kind r.call (asks w.object r.call (carried r.turn.thread)) (undated g)
    (law w.object r.call (carried r.turn.thread)) (legal.0.outcome g is).1)
    (kinds_shown law settings i (suc k) _ (handed_on (real_calls settings) carried r) rs legal.1)
  where
    by_outcome : (o : Option Given) → IsAsked r.call o → map kind_of (seen.outcomes_of i rs) ≡ kinds_in i (map shown rs)
        → map kind_of (filter_map (λ (x : Row). x.outcome) (record r { outcome = o } ∷ lock.rows_of i rs))
        ≡ kind_before (kind_asked r.call) (outcome_in o) (kinds_in i (map shown rs))
    by_outcome None asked h = h
    by_outcome (Some g) asked h = ap (λ (x : Option OutKind). x ∷ map kind_of (seen.outcomes_of i rs)) (asked g refl)
        ∙ ap (λ (ks : List (Option OutKind)). kind_asked r.call ∷ ks) h

    by_test : (b : Bool) (o : Option Given) → IsAsked r.call o
        → map kind_of (seen.outcomes_of i rs) ≡ kinds_in i (map shown rs)
        → map kind_of (filter_map (λ (x : Row). x.outcome) (if b then record r { outcome = o } ∷ lock.rows_of i rs
        else lock.rows_of i rs)) ≡ (if b
        then kind_before (kind_asked r.call) (outcome_in o) (kinds_in i (map shown rs))
        else kinds_in i (map shown rs))
    by_test true o asked h = by_outcome o asked h
    by_test false o asked h = h

-- so the records of a machine's log are of the kinds that its rows ask
pub kinds_covered : (D : Type 0) (m : Shown D) → IsKept D m → CameIsRows → LegalOfArisen → AskTheirKind → (i : ℕ)
    → map kind_of (outcomes_of i m.log.records) ≡ kinds_in i m.whole.rows
kinds_covered D m h came legal law i =
    let setup = setup_under (terms_with m.whole (own h.end)) in
    ap (map kind_of) (sym (h.came i)) ∙ map-map kind_of (as_logged m.whole.settings.version) (thread_of h.end i).came
    ∙ ap (map kind_of) (came setup (length m.whole.threads) limit.OBJECTS first_world h.end h.ends.0 i)
    ∙ kinds_shown law (settings_in m.whole) i 0 first_world _ h.end.rows
    (legal setup (length m.whole.threads) limit.OBJECTS first_world h.end h.ends.0 (λ n. None))
    ∙ ap (kinds_in i) h.ends.1.rows
