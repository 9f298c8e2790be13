-- What is told of a run that has come to its end, or diverged.
use Rattle.std.proofs.Common.{◌≡◌, ℕ, length, true, Option, sym, ap, ◌∙◌, subst}
use Rattle.input_log.specs.Headers.{header_for}
use Rattle.input_log.specs.declared.log.Header.{Header}
use Rattle.sequential_object.specs.Legal.{IsLegal}
use Rattle.posix_terms.specs.declared.limits.TheConstants.Limits as limit
use Rattle.lock_machine.specs.Shows.{ClocksShown}
use Rattle.lock_machine.specs.Starting.{ShowsAtStart}
use Rattle.lock_model.specs.Laws.{DatedOfArisen, RisingOfArisen}
use Rattle.sequential_object.specs.Numbers.{first_world}
use Rattle.lock_model.specs.RealLaws.{RealLegalOfArisen}
use Rattle.lock_model.specs.Came.{CameIsRows}
use Rattle.call_machine.specs.Covered.{HasSpelling, IsCovered, RecordsCame}
use Rattle.call_machine.specs.Driven.{Begins, Ends}
use Rattle.call_machine.specs.History.{AreRising}
use Rattle.call_machine.specs.Plain.{IsPlainRun, are_threads, header_of, plain_of}
use Rattle.machine.specs.RecordLaws.{RecordLaws}
use Rattle.machine.specs.Starting.{are_settings}
use Rattle.call_machine.specs.Playing.{Played}
use Rattle.call_machine.specs.Setup.{Inputs, setup_of}
use Rattle.call_machine.specs.Starting.{first_played, told}
use Rattle.call_machine.specs.declared.plain.Plain.{Plain}
use Rattle.call_machine.proofs.Covering.{is_covered}
use Rattle.call_machine.proofs.Legality.{rising_shown}
use Rattle.call_machine.proofs.Told.{first_begins, told_shown}

-- a run at the start, whose header has as many threads as there are scripts
pub begins_of : ShowsAtStart → (input : Inputs) (threads : ℕ) (header : Header) (first : Played)
    → threads ≡ length input.scripts
    → header ≡ header_for input.settings threads → first ≡ first_played header input.scripts input.outcomes
    → Begins input first
begins_of shows input threads header first count of_run is =
    let same : header ≡ header_of input = of_run ∙ ap (header_for input.settings) count in
    let P : Played → Type 0 = Begins input in
    subst P (sym (is ∙ ap (λ (h : Header). first_played h input.scripts input.outcomes) same))
    (first_begins shows input)

plain_is : ClocksShown → (input : Inputs) (diverged : Option ℕ) (p : Played) (plain : Plain) (e : Ends input diverged p)
    → plain ≡ told diverged p.whole p.log → plain ≡ plain_of input e.count e.last
plain_is clocks input diverged p plain e is = is
    ∙ told_shown clocks input p.whole p.log e.last e.count diverged e.plays.shows e.log e.diverges

pub plain_run_is : ClocksShown → (input : Inputs) (diverged : Option ℕ) (p : Played) (plain : Plain)
    → Ends input diverged p → plain ≡ told diverged p.whole p.log → are_threads input ≡ true
    → are_settings input.settings ≡ true → IsPlainRun input plain
plain_run_is clocks input diverged p plain e is threads settings =
    record {
      threads = threads;
      settings = settings;
      count = e.count;
      last = e.last;
      goes = e.goes;
      ends = λ none. e.over (sym e.diverges ∙ none);
      shows = plain_is clocks input diverged p plain e is;
    }

pub plain_covered : ClocksShown → RecordLaws → RecordsCame → HasSpelling → CameIsRows → DatedOfArisen
    → (input : Inputs) (diverged : Option ℕ) (p : Played) (plain : Plain) → Ends input diverged p
    → plain ≡ told diverged p.whole p.log → are_threads input ≡ true → are_settings input.settings ≡ true
    → IsCovered (header_of input) plain.history.rows plain.log
unfolding plain_run_is
plain_covered clocks records came spelled rows dated input diverged p plain e is threads settings =
    is_covered records came spelled rows dated input plain
    (plain_run_is clocks input diverged p plain e is threads settings) e.arises

pub plain_legal : ClocksShown → RealLegalOfArisen → (input : Inputs) (diverged : Option ℕ) (p : Played) (plain : Plain)
    → Ends input diverged p → plain ≡ told diverged p.whole p.log → IsLegal input.settings plain.history.rows
plain_legal clocks legal input diverged p plain e is =
    let P : Plain → Type 0 = λ x. IsLegal input.settings x.history.rows in
    subst P (sym (plain_is clocks input diverged p plain e is))
    (legal input.settings (setup_of input).supply (length input.scripts) e.last e.arises)

pub plain_rising : ClocksShown → RisingOfArisen → (input : Inputs) (diverged : Option ℕ) (p : Played) (plain : Plain)
    → Ends input diverged p → plain ≡ told diverged p.whole p.log → AreRising plain.history.rows
plain_rising clocks rising input diverged p plain e is =
    let P : Plain → Type 0 = λ x. AreRising x.history.rows in
    subst P (sym (plain_is clocks input diverged p plain e is))
    (rising_shown e.last.rows (rising (setup_of input) (length input.scripts) limit.OBJECTS first_world e.last
    e.arises))
