-- Where all lines of all texts are kept, the same expectation fails.
use Rattle.std.proofs.Common.{◌≡◌, ◌∙◌, ℕ, zero, suc, ◌+◌, List, [], ◌∷◌, length, map}
use Rattle.std.proofs.Common.{take, slice_get, All, Option, option_map, Some, Ok, Err}
use Rattle.std.proofs.Common.{Result, IfOk}
use Rattle.std.proofs.Common.{ap, refl, sym, subst}
use Rattle.std.specs.Prelude.{IsSomeAnd, nat_le, nat_lt, ◌&&◌, ◌==◌, if◌then◌else◌}
use Rattle.std.specs.List.{zip}
use Rattle.std.proofs.lemmas.Bool.{and_parts, eqb-true}
use Rattle.std.proofs.lemmas.List.{take-map}
use Rattle.std.proofs.lemmas.List.Elements.{All-map, All-weaker}
use Rattle.std.proofs.lemmas.Option.{slice_get-map}
use Rattle.posix_terms.specs.declared.limits.TheConstants.Limits as limit
use Rattle.posix_terms.specs.declared.limits.TheConstants.Limits.{SCRIPT_LINES}
use Rattle.posix_terms.specs.declared.outcome.Given.{Given}
use Rattle.posix_terms.specs.declared.reply.Reply.{Reply}
use Rattle.posix_terms.specs.declared.transcript.Row.{Row}
use Rattle.thread_scripts.specs.Faults.{Fault, too_long}
use Rattle.thread_scripts.specs.Grammar.{gathered, readings_of, script_of}
use Rattle.thread_scripts.specs.Words.{lines_of}
use Rattle.thread_scripts.specs.declared.line.Line.{Line}
use Rattle.expectations.specs.Expected.{AreExpectations}
use Rattle.expectations.specs.declared.expected.Expectation.{Expectation}
use Rattle.call_machine.specs.Plain.{IsPlainRun}
use Rattle.command_texts.specs.Expecting.{IsGood}
use Rattle.command_texts.specs.Reading.{script_before, scripts_from}
use Rattle.explorer.specs.Subject.{Subject}
use Rattle.minimiser.specs.Failing.{Fails, FailsIn, kept_subject}
use Rattle.minimiser.specs.Reductions.{kept_lines, kept_outcomes, kept_texts, place_now}
use Rattle.minimiser.specs.Reductions.{target_now}
use Rattle.minimiser.specs.Parts.{part_of}
use Rattle.minimiser.specs.Rounds.{all_of}
use Rattle.minimiser.specs.Targets.{Expects, IsAsExpected, IsFirstTarget, IsUnmetIn}
use Rattle.minimiser.specs.Targets.{sameness_of}
use Rattle.minimiser.specs.declared.target.Place.{Place}
use Rattle.minimiser.specs.declared.target.Sameness.{Sameness}
use Rattle.minimiser.specs.declared.target.Target.{Target}
use Rattle.minimiser.proofs.AllLines.{all_kept, lines_same, lines_within}

-- a text with all of its lines, each with its line feed
fed : List ℕ → List ℕ
fed text = kept_lines (map part_of (lines_of text)) (lines_of text)

-- ## The scripts

fed_lines : (text : List ℕ) → lines_of (fed text) ≡ lines_of text
unfolding fed
fed_lines text = lines_same text

-- the script of a text is that of its lines
script_by : List (List ℕ) → Result (List Line) Fault
script_by lines =
    if nat_lt SCRIPT_LINES (length lines) then Err too_long else gathered 1 (readings_of lines)

by_lines : (text : List ℕ) → script_of text ≡ script_by (lines_of text)
unfolding script_of script_by
by_lines text = refl

fed_script : (text : List ℕ) → script_of (fed text) ≡ script_of text
fed_script text = by_lines (fed text) ∙ ap script_by (fed_lines text) ∙ sym (by_lines text)

fed_scripts : (i : ℕ) (texts : List (List ℕ))
    → scripts_from i (map fed texts) ≡ scripts_from i texts
fed_scripts i [] = refl
fed_scripts i (text ∷ texts) =
    ap (λ (script : Result (List Line) Fault).
    script_before i script (scripts_from (i + 1) (map fed texts)))
    (fed_script text)
    ∙ ap (script_before i (script_of text)) (fed_scripts (i + 1) texts)

fed_expectations : (text : List ℕ) (expectations : List Expectation)
    → AreExpectations (lines_of text) expectations
    → AreExpectations (lines_of (fed text)) expectations
fed_expectations text expectations are =
    subst (λ (lines : List (List ℕ)). AreExpectations lines expectations) (sym (fed_lines text)) are

fed_good : (text : List ℕ) → IsGood text → IsGood (fed text)
fed_good text good = record {
  expectations = good.expectations;
  are = fed_expectations text good.expectations good.are;
}

-- ## The threads

fed_thread : List ℕ × List Row → List ℕ × List Row
fed_thread thread = (fed thread.0, thread.1)

fed_expects : (thread : List ℕ × List Row) (calls : List (ℕ × Reply))
    (expectations : List Expectation) → Expects thread calls expectations
    → Expects (fed_thread thread) calls expectations
unfolding fed_thread
fed_expects thread calls expectations is = record {
  script = is.script;
  is_script = fed_script thread.0 ∙ is.is_script;
  are_calls = is.are_calls;
  are_expected = fed_expectations thread.0 expectations is.are_expected;
}

fed_as_expected : (thread : List ℕ × List Row) → IsAsExpected thread
    → IsAsExpected (fed_thread thread)
fed_as_expected thread is = record {
  calls = is.calls;
  expectations = is.expectations;
  expects = fed_expects thread is.calls is.expectations is.expects;
  met = is.met;
}

fed_unmet : (sameness : Sameness) (number : ℕ) (thread : List ℕ × List Row) (target : Target)
    → IsUnmetIn sameness number thread target
    → IsUnmetIn sameness number (fed_thread thread) target
fed_unmet sameness number thread target is = record {
  calls = is.calls;
  expectations = is.expectations;
  expects = fed_expects thread is.calls is.expectations is.expects;
  first = is.first;
  is_first = is.is_first;
  expectation = is.expectation;
  at = is.at;
  is = is.is;
}

fed_threads : (texts : List (List ℕ)) (seen : List (List Row))
    → zip (map fed texts) seen ≡ map fed_thread (zip texts seen)
unfolding fed_thread
fed_threads [] seen = refl
fed_threads (text ∷ texts) [] = refl
fed_threads (text ∷ texts) (rows ∷ seen) =
    ap (λ (others : List (List ℕ × List Row)). (fed text, rows) ∷ others) (fed_threads texts seen)

fed_first : (sameness : Sameness) (threads : List (List ℕ × List Row)) (target : Target)
    → IsFirstTarget sameness threads target
    → IsFirstTarget sameness (map fed_thread threads) target
fed_first sameness threads target is = record {
  number = is.number;
  before = subst (All IsAsExpected) (sym (take-map fed_thread is.number threads))
      (All-map IsAsExpected fed_thread (take is.number threads)
      (All-weaker IsAsExpected (λ (thread : List ℕ × List Row). IsAsExpected (fed_thread thread))
      fed_as_expected (take is.number threads) is.before));
  thread = fed_thread is.thread;
  at = slice_get-map fed_thread threads is.number ∙ ap (option_map fed_thread) is.at;
  unmet = fed_unmet sameness is.number is.thread target is.unmet;
}

-- ## What is kept

all_texts : (texts : List (List ℕ)) → kept_texts (all_of texts) texts ≡ map fed texts
unfolding fed
all_texts [] = refl
all_texts (text ∷ texts) =
    ap (λ (others : List (List ℕ)). fed text ∷ others) (all_texts texts)

all_outcomes : (texts : List (List ℕ)) (outcomes : List (List Given))
    → length outcomes ≡ length texts → kept_outcomes (all_of texts) outcomes ≡ outcomes
all_outcomes [] [] same = refl
all_outcomes [] (given ∷ outcomes) same = absurd (cc same)
all_outcomes (text ∷ texts) [] same = absurd (cc same)
all_outcomes (text ∷ texts) (given ∷ outcomes) same =
    ap (λ (others : List (List Given)). given ∷ others) (all_outcomes texts outcomes (cc same))

one_more : (i n : ℕ) (script : Result (List Line) Fault)
    (others : Result (List (List Line)) (ℕ × Fault)) → IfOk others (λ scripts. length scripts ≡ n)
    → IfOk (script_before i script others) (λ scripts. length scripts ≡ suc n)
one_more i n (Err fault) others count = tt
one_more i n (Ok script) (Ok others) count = ap suc count
one_more i n (Ok script) (Err fault) count = tt

scripts_count : (i : ℕ) (texts : List (List ℕ))
    → IfOk (scripts_from i texts) (λ scripts. length scripts ≡ length texts)
scripts_count i [] = refl
scripts_count i (text ∷ texts) =
    one_more i (length texts) (script_of text) (scripts_from (i + 1) texts)
    (scripts_count (i + 1) texts)

-- a run has as many lists of outcomes as texts
outcomes_count : (sameness : Sameness) (given : Subject) (target : Target)
    → Fails sameness given target → length given.outcomes ≡ length given.texts
outcomes_count sameness given target fails =
    let (scripts, are, run) = fails.run.sees.1 in
    let fit = run.threads in
    let few = nat_le 1 (length scripts) && nat_le (length scripts) limit.THREADS in
    let parts = and_parts few (length given.outcomes == length scripts) fit in
    let same = eqb-true (length given.outcomes) (length scripts) parts.1 in
    let count : length scripts ≡ length given.texts =
    subst (λ (r : Result (List (List Line)) (ℕ × Fault)).
    IfOk r (λ all. length all ≡ length given.texts)) are (scripts_count 0 given.texts) in
    same ∙ count

-- the expectation fails in the run of all lines too
all_fail : (sameness : Sameness) (given : Subject) (target : Target) → Fails sameness given target
    → Fails sameness (kept_subject given (all_of given.texts)) target
all_fail sameness given target fails =
    let texts = all_texts given.texts in
    let outcomes = all_outcomes given.texts given.outcomes
    (outcomes_count sameness given target fails) in
    let run = fails.run in
    let (scripts, are, plain_run) = run.sees.1 in
    record {
      observation = fails.observation;
      run = record {
        good = subst (All IsGood) (sym texts)
            (All-map IsGood fed given.texts
            (All-weaker IsGood (λ (text : List ℕ). IsGood (fed text)) fed_good given.texts
            run.good));
        sees = (
          run.sees.0,
          (
            scripts,
            ap (scripts_from 0) texts ∙ fed_scripts 0 given.texts ∙ are,
            subst (λ (all : List (List Given)). IsPlainRun (record {
              scripts = scripts;
              outcomes = all;
              settings = given.settings;
            }) run.sees.0) (sym outcomes) plain_run,
          ),
          run.sees.2,
        );
      };
      first = subst (λ (all : List (List ℕ × List Row)). IsFirstTarget sameness all target)
          (sym (ap (λ (all : List (List ℕ)). zip all fails.observation.seen) texts
          ∙ fed_threads given.texts fails.observation.seen))
          (fed_first sameness (zip given.texts fails.observation.seen) target fails.first);
    }

text_at : (texts : List (List ℕ)) (seen : List (List Row)) (i : ℕ) (thread : List ℕ × List Row)
    → slice_get (zip texts seen) i ≡ Some thread → slice_get texts i ≡ Some thread.0
text_at [] seen i thread at = absurd (cc at)
text_at (text ∷ texts) [] i thread at = absurd (cc at)
text_at (text ∷ texts) (rows ∷ seen) zero thread at =
    let same : (text, rows) ≡ thread = cc at in
    ap (λ (thread : List ℕ × List Row). Some thread.0) same
text_at (text ∷ texts) (rows ∷ seen) (suc i) thread at = text_at texts seen i thread at

-- its thread and its lines have the same numbers
same_place : (sameness : Sameness) (given : Subject) (target : Target)
    → Fails sameness given target
    → place_now (all_of given.texts) target.place ≡ Some target.place
same_place sameness given target fails =
    let first = fails.first in
    let unmet = first.unmet in
    let thread = first.thread in
    let text = text_at given.texts fails.observation.seen first.number thread first.at in
    let within = lines_within (lines_of thread.0) unmet.expectations unmet.first.expectation
    unmet.expectation unmet.expects.are_expected unmet.at in
    let made : Place = record {
      thread = first.number;
      call = unmet.expectation.call;
      line = unmet.expectation.line;
    } in
    let is : target.place ≡ made = ap (λ (t : Target). t.place) unmet.is in
    subst (λ (p : Place). place_now (all_of given.texts) p ≡ Some p) (sym is)
    (all_kept given.texts made thread.0 text within)

same_target : (sameness : Sameness) (given : Subject) (target : Target)
    → Fails sameness given target → target_now (all_of given.texts) target ≡ Some target
same_target sameness given target fails =
    ap (option_map (λ place. record target { place = place }))
    (same_place sameness given target fails)

-- so it fails in what is kept
pub all_fails : (given : Subject) (target : Target)
    → Fails (sameness_of target.came) given target
    → FailsIn given target (all_of given.texts)
all_fails given target fails =
    let sameness = sameness_of target.came in
    subst (λ (now : Option Target).
    IsSomeAnd now (Fails sameness (kept_subject given (all_of given.texts))))
    (sym (same_target sameness given target fails)) (all_fail sameness given target fails)
