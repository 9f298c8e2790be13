-- What the threads of a run saw, held to what their texts expect; and one target at most.
use Rattle.std.proofs.Common.{◌≡◌, ◌⊎◌, inl, inr, ℕ, zero, suc, ◌+◌, ◌<◌, ◌≤◌, List, [], ◌∷◌, All}
use Rattle.std.proofs.Common.{length, take, slice_get, get_or, Some, refl, sym, subst, arith}
use Rattle.std.proofs.Common.{map, Option, None, ap}
use Rattle.std.proofs.lemmas.List.{length-map, take_all}
use Rattle.std.proofs.lemmas.List.Elements.{All-more}
use Rattle.std.proofs.lemmas.Option.{get_or_from_slice_get, slice_get-map, slice_get_read}
use Rattle.std.proofs.lemmas.Option.{slice_get_within}
use Rattle.std.proofs.Common.{Ok, option_map, ◌∙◌}
use Rattle.std.proofs.lemmas.Slice.Zip.{length-zip}
use Rattle.std.specs.List.{zip}
use Rattle.posix_terms.specs.declared.transcript.Row.{Row}
use Rattle.posix_terms.specs.declared.reply.Reply.{Reply}
use Rattle.thread_scripts.specs.Grammar.{script_of}
use Rattle.thread_scripts.specs.Words.{lines_of}
use Rattle.expectations.specs.Expected.{AreExpectations}
use Rattle.thread_scripts.specs.Meaning.{start_of}
use Rattle.thread_scripts.specs.declared.actor.ScriptState.{ScriptState}
use Rattle.thread_scripts.specs.declared.line.Line.{Line}
use Rattle.expectations.specs.Places.{call_after, call_before, calls_from, calls_of}
use Rattle.expectations.specs.Unmet.{IsFirstUnmet}
use Rattle.expectations.specs.declared.expected.Expectation.{Expectation}
use Rattle.expectations.specs.declared.unmet.Unmet.{Unmet}
use Rattle.minimiser.specs.Targets.{IsAsExpected, IsUnmetIn, came_of}
use Rattle.minimiser.specs.declared.target.Sameness.{Sameness}
use Rattle.minimiser.specs.declared.target.Target.{Target}

pair_at : {A B : Type 0} (xs : List A) (ys : List B) (i : ℕ) (x : A) (y : B)
    → slice_get xs i ≡ Some x → slice_get ys i ≡ Some y → slice_get (zip xs ys) i ≡ Some (x, y)
pair_at [] ys i x y at_x at_y = absurd (cc at_x)
pair_at (a ∷ xs) [] i x y at_x at_y = absurd (cc at_y)
pair_at (a ∷ xs) (b ∷ ys) zero x y at_x at_y = cc (at_x, at_y)
pair_at (a ∷ xs) (b ∷ ys) (suc i) x y at_x at_y = pair_at xs ys i x y at_x at_y

-- the text and the rows of a thread
pub thread_at : (texts : List (List ℕ)) (transcripts : List (List Row)) (i : ℕ) (text : List ℕ)
    (rows : List Row) → i < length texts → text ≡ get_or texts i text
    → i < length transcripts → rows ≡ get_or transcripts i rows
    → slice_get (zip texts transcripts) i ≡ Some (text, rows)
thread_at texts transcripts i text rows inside is_text among are_rows =
    pair_at texts transcripts i text rows
    (slice_get_read texts (length texts) i text refl inside is_text)
    (slice_get_read transcripts (length transcripts) i rows refl among are_rows)

-- those before a place and that at it are those before the next
pub one_further : (threads : List (List ℕ × List Row)) (i : ℕ) (thread : List ℕ × List Row)
    → slice_get threads i ≡ Some thread → All IsAsExpected (take i threads) → IsAsExpected thread
    → All IsAsExpected (take (i + 1) threads)
one_further threads i thread at before here =
    All-more IsAsExpected threads i thread (slice_get_within threads i thread at) before
    (subst IsAsExpected (sym (get_or_from_slice_get threads i thread thread at)) here)

-- where one list ends, so do the threads
pub all_seen : (texts : List (List ℕ)) (transcripts : List (List Row)) (i : ℕ)
    → (length texts ≤ i) ⊎ (length transcripts ≤ i)
    → All IsAsExpected (take i (zip texts transcripts)) → All IsAsExpected (zip texts transcripts)
all_seen texts transcripts i over before =
    subst (All IsAsExpected) (take_all i (zip texts transcripts) (at over)) before
  where
    at : (length texts ≤ i) ⊎ (length transcripts ≤ i) → length (zip texts transcripts) ≤ i
    at (inl few) = omega (arith, length-zip texts transcripts)
    at (inr few) = omega (arith, length-zip texts transcripts)

-- ## Replies

-- the reply of a call is that of its row
reply_after : (next : Option ScriptState) (reply : Reply) (replies : List Reply)
    (others : ScriptState → List (ℕ × Reply)) (i : ℕ) (call : ℕ × Reply)
    → ((s : ScriptState) (i : ℕ) → slice_get (others s) i ≡ Some call
    → slice_get replies i ≡ Some call.1)
    → slice_get (call_before next reply others) i ≡ Some call
    → slice_get (reply ∷ replies) i ≡ Some call.1
reply_after None reply replies others i call more at = absurd (cc at)
reply_after (Some s) reply replies others zero call more at =
    let same : (s.place, reply) ≡ call = cc at in
    ap (λ (call : ℕ × Reply). Some call.1) same
reply_after (Some s) reply replies others (suc i) call more at = more s i at

reply_from : (last : Option Reply) (s : ScriptState) (replies : List Reply) (i : ℕ)
    (call : ℕ × Reply) → slice_get (calls_from last s replies) i ≡ Some call
    → slice_get replies i ≡ Some call.1
reply_from last s [] i call at = absurd (cc at)
reply_from last s (reply ∷ replies) i call at =
    reply_after (call_after last s) reply replies
    (λ after. calls_from (Some reply) after replies) i call
    (λ (after : ScriptState). λ (i : ℕ). reply_from (Some reply) after replies i call) at

-- the reply of an unmet expectation, by its row
pub reply_at : (script : List Line) (expectations : List Expectation) (rows : List Row)
    (first : Unmet)
    → (is : IsFirstUnmet expectations (calls_of script (map (λ row. row.reply) rows)) first)
    → slice_get (map (λ row. row.reply) rows) first.row ≡ Some is.call.1
reply_at script expectations rows first is =
    reply_from None (start_of script) (map (λ row. row.reply) rows) first.row is.call is.at

pub row_within : (script : List Line) (expectations : List Expectation) (rows : List Row)
    (first : Unmet)
    → IsFirstUnmet expectations (calls_of script (map (λ row. row.reply) rows)) first
    → first.row < length rows
row_within script expectations rows first is =
    let replies : List Reply = map (λ row. row.reply) rows in
    let at = reply_at script expectations rows first is in
    omega (
      arith,
      slice_get_within replies first.row is.call.1 at,
      length-map rows (λ (row : Row). row.reply),
    )

-- the first reply that is not as expected, by its expectation and its row
pub unmet_here : (s : Sameness) (number : ℕ) (text : List ℕ) (rows : List Row) (script : List Line)
    (expectations : List Expectation) (first : Unmet) (expectation : Expectation) (row : Row)
    (target : Target)
    → script_of text ≡ Ok script
    → AreExpectations (lines_of text) expectations
    → IsFirstUnmet expectations (calls_of script (map (λ row. row.reply) rows)) first
    → expectation ≡ get_or expectations first.expectation expectation
    → row ≡ get_or rows first.row row
    → target ≡ record {
      place = record { thread = number; call = expectation.call; line = expectation.line };
      came = came_of s row.reply;
    }
    → IsUnmetIn s number (text, rows) target
unmet_here s number text rows script expectations first expectation row target is_script are is_first
    wanted came is =
    let here = is_first.here in
    let reply_of : Row → Reply = λ (row : Row). row.reply in
    let read = slice_get_read rows (length rows) first.row row refl
    (row_within script expectations rows first is_first) came in
    let same : Some row.reply ≡ Some is_first.call.1 =
    ap (option_map reply_of) (sym read) ∙ sym (slice_get-map reply_of rows first.row)
    ∙ reply_at script expectations rows first is_first in
    let reply : row.reply ≡ is_first.call.1 = cc same in
    record {
      calls = calls_of script (map (λ row. row.reply) rows);
      expectations = expectations;
      expects = record {
        script = script;
        is_script = is_script;
        are_calls = refl;
        are_expected = are;
      };
      first = first;
      is_first = is_first;
      expectation = expectation;
      at = slice_get_read expectations (length expectations) first.expectation expectation refl
          (slice_get_within expectations first.expectation here.expectation here.at) wanted;
      is = is ∙ ap (λ (reply : Reply). record {
        place = record { thread = number; call = expectation.call; line = expectation.line };
        came = came_of s reply;
      }) reply;
    }
