-- The replies of a thread that are held to what its text expects, and those of all threads.
use Rattle.std.proofs.Common.{◌≡◌, ◌⊎◌, inl, inr, ℕ, zero, suc, ◌+◌, ◌<◌, ◌≤◌, List, [], ◌∷◌, All}
use Rattle.std.proofs.Common.{length, map, take, slice_get, get_or, Option, Some, None, Ok, refl}
use Rattle.std.proofs.Common.{ap, sym, subst, arith}
use Rattle.std.proofs.lemmas.List.{length-map, take_all}
use Rattle.std.proofs.lemmas.List.Elements.{All-more}
use Rattle.std.proofs.lemmas.Option.{get_or_from_slice_get, slice_get_read, slice_get_within}
use Rattle.std.proofs.lemmas.Slice.Zip.{length-zip}
use Rattle.std.specs.List.{zip}
use Rattle.posix_terms.specs.declared.reply.Reply.{Reply}
use Rattle.posix_terms.specs.declared.transcript.Row.{Row}
use Rattle.thread_scripts.specs.Grammar.{script_of}
use Rattle.thread_scripts.specs.Meaning.{start_of}
use Rattle.thread_scripts.specs.Words.{lines_of}
use Rattle.thread_scripts.specs.declared.actor.ScriptState.{ScriptState}
use Rattle.thread_scripts.specs.declared.line.Line.{Line}
use Rattle.expectations.specs.Expected.{AreExpectations}
use Rattle.expectations.specs.Places.{call_after, call_before, calls_from}
use Rattle.expectations.specs.Unmet.{IsFirstUnmet}
use Rattle.expectations.specs.declared.expected.Expectation.{Expectation}
use Rattle.expectations.specs.declared.unmet.Unmet.{Unmet}
use Rattle.command_texts.specs.Expecting.{unmet_line}
use Rattle.command_inputs.specs.Expects.{IsAsExpected, IsUnmetLine, calls_seen}
use Rattle.command_inputs.specs.declared.expecting.UnmetLine.{UnmetLine}

-- a call takes a reply of its own
one_more : (next : Option ScriptState) (reply : Reply) (others : ScriptState → List (ℕ × Reply))
    (n : ℕ) → ((s : ScriptState) → length (others s) ≤ n)
    → length (call_before next reply others) ≤ suc n
one_more None reply others n few = omega arith
one_more (Some after) reply others n few = omega (arith, few after)

-- so there are no more calls than replies
calls_within : (last : Option Reply) (s : ScriptState) (replies : List Reply)
    → length (calls_from last s replies) ≤ length replies
calls_within last s [] = omega arith
calls_within last s (reply ∷ replies) =
    one_more (call_after last s) reply (λ after. calls_from (Some reply) after replies)
    (length replies) (λ after. calls_within (Some reply) after replies)

-- and the row of an unmet expectation is there
pub row_within : (script : List Line) (expectations : List Expectation) (rows : List Row)
    (first : Unmet) → IsFirstUnmet expectations (calls_seen script rows) first
    → first.row < length rows
row_within script expectations rows first is =
    let replies : List Reply = map (λ row. row.reply) rows in
    omega (
      arith,
      slice_get_within (calls_seen script rows) first.row is.call is.at,
      calls_within None (start_of script) replies,
      length-map rows (λ (row : Row). row.reply),
    )

abbrev line_with : ℕ → ℕ → List ℕ → UnmetLine
line_with thread line text = record { thread = thread; line = line; text = text }

-- the line of the first unmet expectation
pub line_here : (number : ℕ) (text : List ℕ) (rows : List Row) (script : List Line)
    (expectations : List Expectation) (first : Unmet) (expectation : Expectation) (row : Row)
    (says : List ℕ)
    → script_of text ≡ Ok script
    → AreExpectations (lines_of text) expectations
    → IsFirstUnmet expectations (calls_seen script rows) first
    → expectation ≡ get_or expectations first.expectation expectation
    → row ≡ get_or rows first.row row
    → says ≡ unmet_line number expectation row.reply
    → IsUnmetLine number (text, rows)
    (record { thread = number; line = expectation.line; text = says })
line_here number text rows script expectations first expectation row says is_script are is_first
    wanted came is =
    let here = is_first.here in
    record {
      script = script;
      expectations = expectations;
      expects = record { is_script = is_script; are_expected = are };
      first = first;
      is_first = is_first;
      expectation = expectation;
      wanted = slice_get_read expectations (length expectations) first.expectation expectation refl
          (slice_get_within expectations first.expectation here.expectation here.at) wanted;
      row = row;
      came = slice_get_read rows (length rows) first.row row refl
          (row_within script expectations rows first is_first) came;
      says = ap
          (line_with number expectation.line) is;
    }

-- ---- all threads

pair_at : {A B : Type 0} (xs : List A) (ys : List B) (i : ℕ) (x : A) (y : B)
    → slice_get xs i ≡ Some x → slice_get ys i ≡ Some y → slice_get (zip xs ys) i ≡ Some (x, y)
pair_at [] ys i x y at_x at_y = absurd (cc at_x)
pair_at (a ∷ xs) [] i x y at_x at_y = absurd (cc at_y)
pair_at (a ∷ xs) (b ∷ ys) zero x y at_x at_y = cc (at_x, at_y)
pair_at (a ∷ xs) (b ∷ ys) (suc i) x y at_x at_y = pair_at xs ys i x y at_x at_y

-- the text and the rows of a thread
pub thread_at : (texts : List (List ℕ)) (transcripts : List (List Row)) (i : ℕ) (text : List ℕ)
    (rows : List Row) → i < length texts → text ≡ get_or texts i text
    → i < length transcripts → rows ≡ get_or transcripts i rows
    → slice_get (zip texts transcripts) i ≡ Some (text, rows)
thread_at texts transcripts i text rows inside is_text among are_rows =
    pair_at texts transcripts i text rows
    (slice_get_read texts (length texts) i text refl inside is_text)
    (slice_get_read transcripts (length transcripts) i rows refl among are_rows)

-- those before a place and that at it are those before the next
pub one_further : (threads : List (List ℕ × List Row)) (i : ℕ) (thread : List ℕ × List Row)
    → slice_get threads i ≡ Some thread → All IsAsExpected (take i threads) → IsAsExpected thread
    → All IsAsExpected (take (i + 1) threads)
one_further threads i thread at before here =
    All-more IsAsExpected threads i thread (slice_get_within threads i thread at) before
    (subst IsAsExpected (sym (get_or_from_slice_get threads i thread thread at)) here)

-- where one list ends, so do the threads
pub all_seen : (texts : List (List ℕ)) (transcripts : List (List Row)) (i : ℕ)
    → (length texts ≤ i) ⊎ (length transcripts ≤ i)
    → All IsAsExpected (take i (zip texts transcripts)) → All IsAsExpected (zip texts transcripts)
all_seen texts transcripts i over before =
    subst (All IsAsExpected) (take_all i (zip texts transcripts) (at over)) before
  where
    at : (length texts ≤ i) ⊎ (length transcripts ≤ i) → length (zip texts transcripts) ≤ i
    at (inl few) = omega (arith, length-zip texts transcripts)
    at (inr few) = omega (arith, length-zip texts transcripts)
