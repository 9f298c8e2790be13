-- The turns of a thread from one on, and what they say of a call, turn by turn.
use Rattle.std.proofs.Common.{◌≡◌, ◌∙◌, ap, ℕ, suc, ◌+◌, ◌<◌, ◌==◌, Bool, true, false, not, ◌&&◌, List, [], ◌∷◌}
use Rattle.std.proofs.Common.{◌++◌, length, drop, slice_index_or, if◌then◌else◌, Option, Some, None, refl, sym, arith}
use Rattle.std.proofs.Common.{add-one, append_assoc, length-append}
use Rattle.std.specs.Prelude.{filter, is_some, unwrap_or}
use Rattle.std.proofs.Math.Seq.{drop-cons}
use Rattle.std.proofs.lemmas.List.Elements.{filter-append}
use Rattle.posix_terms.specs.Answers.{reply_of}
use Rattle.posix_terms.specs.declared.reply.Answer.{Answer}
use Rattle.posix_terms.specs.declared.reply.Answer.TheVariants as answer
use Rattle.posix_terms.specs.declared.transcript.HistoryRow.{HistoryRow}
use Rattle.answered_calls.specs.Answered.{unknown_way}
use Rattle.answered_calls.specs.Steps.{outcomes_with, way_with}
use Rattle.answered_calls.specs.Ways.{cut_from, first_clock, has_reply, is_again, last_of, last_outcome}
use Rattle.answered_calls.specs.Ways.{outcomes_among, turns_of, way_of, ways_from}
use Rattle.answered_calls.specs.declared.ways.CallWay.{CallWay}

-- an answer that is no reply says that the call was blocked
pub again_is : (a : Option Answer) → (is_some a && not (is_some (reply_of a))) ≡ is_again a
again_is None = refl
again_is (Some answer.Again) = refl
again_is (Some (answer.Reply r)) = refl

-- ## One more turn of a call

clock_more : (begun : List HistoryRow) (t : HistoryRow)
    → Some (unwrap_or (first_clock begun) t.turn.clock) ≡ first_clock (begun ++ t ∷ [])
clock_more [] t = refl
clock_more (first ∷ begun) t = refl

-- how many turns of a kind there are, with one more
count_if : (b : Bool) (p : HistoryRow → Bool) (begun : List HistoryRow) (t : HistoryRow) → p t ≡ b
    → (if b then length (filter p begun) + 1 else length (filter p begun)) ≡ length (filter p (begun ++ t ∷ []))
count_if true p begun t is =
    sym (ap length (filter-append p begun (t ∷ [])) ∙ (rw is (length-append (filter p begun) (t ∷ []))))
count_if false p begun t is =
    sym (ap length (filter-append p begun (t ∷ [])) ∙ (rw is (length-append (filter p begun) [] ∙ omega arith)))

outcome_if : (b : Bool) (before : ℕ) (begun : List HistoryRow) (t : HistoryRow) → is_some t.outcome ≡ b
    → (if b then Some (before + outcomes_among begun) else last_outcome before begun)
    ≡ last_outcome before (begun ++ t ∷ [])
outcome_if true before begun t is =
    let more : outcomes_among begun + 1 ≡ outcomes_among (begun ++ t ∷ []) =
    count_if true (λ turn. is_some turn.outcome) begun t is in
    let next : suc (outcomes_among begun) ≡ outcomes_among (begun ++ t ∷ []) = omega (arith, more) in
    ap (last_of before) next
outcome_if false before begun t is =
    let same : outcomes_among begun ≡ outcomes_among (begun ++ t ∷ []) =
    count_if false (λ turn. is_some turn.outcome) begun t is in
    ap (last_of before) same

way_is : (a b : CallWay) → a.granted ≡ b.granted → a.blocked ≡ b.blocked → a.outcome ≡ b.outcome → a ≡ b
way_is a b granted blocked outcome = λ i. record { granted = granted i; blocked = blocked i; outcome = outcome i }

-- the way of a call with one more turn is that of its turns with this one
way_more : (before outcomes : ℕ) (begun : List HistoryRow) (t : HistoryRow) (way : CallWay) → way ≡ way_of before begun
    → outcomes ≡ before + outcomes_among begun → way_with way outcomes t ≡ way_of before (begun ++ t ∷ [])
way_more before outcomes begun t way is count = rw (is, count)
    (way_is (way_with (way_of before begun) (before + outcomes_among begun) t) (way_of before (begun ++ t ∷ []))
    (clock_more begun t)
    (count_if (is_again t.answer) (λ turn. is_again turn.answer) begun t refl)
    (outcome_if (is_some t.outcome) before begun t refl))

outcomes_more : (before outcomes : ℕ) (begun : List HistoryRow) (t : HistoryRow)
    → outcomes ≡ before + outcomes_among begun → outcomes_with outcomes t ≡ before + outcomes_among (begun ++ t ∷ [])
outcomes_more before outcomes begun t count = rw count (at (is_some t.outcome) refl) where
  at : (b : Bool) → is_some t.outcome ≡ b
      → (if b then before + outcomes_among begun + 1 else before + outcomes_among begun)
      ≡ before + outcomes_among (begun ++ t ∷ [])
  at true is =
      let more : outcomes_among begun + 1 ≡ outcomes_among (begun ++ t ∷ []) =
      count_if true (λ turn. is_some turn.outcome) begun t is in
      omega (arith, more)
  at false is =
      let same : outcomes_among begun ≡ outcomes_among (begun ++ t ∷ []) =
      count_if false (λ turn. is_some turn.outcome) begun t is in
      omega (arith, same)

-- ## The turns of a thread from one on

pub of_another : (thread : ℕ) (history : List HistoryRow) (i : ℕ) (t : HistoryRow) → i < length history
    → t ≡ slice_index_or history i t → (t.turn.thread == thread) ≡ false
    → turns_of thread (drop i history) ≡ turns_of thread (drop (i + 1) history)
of_another thread history i t inside is other =
    let here : drop i history ≡ slice_index_or history i t ∷ drop (suc i) history = drop-cons history i t inside in
    rw (add-one, here, ← is, other) refl

pub of_this : (thread : ℕ) (history : List HistoryRow) (i : ℕ) (t : HistoryRow) → i < length history
    → t ≡ slice_index_or history i t → (t.turn.thread == thread) ≡ true
    → turns_of thread (drop i history) ≡ t ∷ turns_of thread (drop (i + 1) history)
of_this thread history i t inside is own =
    let here : drop i history ≡ slice_index_or history i t ∷ drop (suc i) history = drop-cons history i t inside in
    rw (add-one, here, ← is, own) refl

-- ## How far the walk has come

-- before these turns of a thread all calls that have their replies have these ways, so many
-- outcomes have come, and the call that has begun has this way; in the end all have those
pub record Walked
    (way : CallWay) (outcomes : ℕ) (ways : List CallWay) (turns : List HistoryRow) (all : List CallWay)
    : Type 0 where
  pub before : ℕ
  pub begun : List HistoryRow
  pub is_way : way ≡ way_of before begun
  pub count : outcomes ≡ before + outcomes_among begun
  pub whole : ways ++ ways_from before (cut_from begun turns) ≡ all

pub at_first : (turns : List HistoryRow) → Walked unknown_way 0 [] turns (ways_from 0 (cut_from [] turns))
at_first turns = record { before = 0; begun = []; is_way = refl; count = refl; whole = refl }

-- after a turn without a reply
pub past_blocked : (way : CallWay) (outcomes : ℕ) (ways : List CallWay) (t : HistoryRow)
    (turns : List HistoryRow) (all : List CallWay)
    → has_reply t ≡ false → Walked way outcomes ways (t ∷ turns) all
    → Walked (way_with way outcomes t) (outcomes_with outcomes t) ways turns all
past_blocked way outcomes ways t turns all none s = record {
  before = s.before;
  begun = s.begun ++ t ∷ [];
  is_way = way_more s.before outcomes s.begun t way s.is_way s.count;
  count = outcomes_more s.before outcomes s.begun t s.count;
  whole = rw none at s.whole;
}

-- after a turn with one
pub past_reply : (way : CallWay) (outcomes : ℕ) (ways : List CallWay) (t : HistoryRow)
    (turns : List HistoryRow) (all : List CallWay)
    → has_reply t ≡ true → Walked way outcomes ways (t ∷ turns) all
    → Walked unknown_way (outcomes_with outcomes t) (ways ++ way_with way outcomes t ∷ []) turns all
past_reply way outcomes ways t turns all reply s =
    let is : way_with way outcomes t ≡ way_of s.before (s.begun ++ t ∷ []) =
    way_more s.before outcomes s.begun t way s.is_way s.count in
    let so_far = rw reply at s.whole in
    let more : outcomes_with outcomes t ≡ s.before + outcomes_among (s.begun ++ t ∷ []) =
    outcomes_more s.before outcomes s.begun t s.count in
    record {
      before = s.before + outcomes_among (s.begun ++ t ∷ []);
      begun = [];
      is_way = refl;
      count = omega (arith, more);
      whole = rw is (append_assoc ways (way_of s.before (s.begun ++ t ∷ []) ∷ []) _ ∙ so_far);
    }

-- a turn moves each by one at most
pub blocked_by_one : (way : CallWay) (outcomes : ℕ) (t : HistoryRow)
    → (way_with way outcomes t).blocked < way.blocked + 2
blocked_by_one way outcomes t = at (is_again t.answer) where
  at : (b : Bool) → (if b then way.blocked + 1 else way.blocked) < way.blocked + 2
  at true = omega arith
  at false = omega arith

pub outcomes_by_one : (outcomes : ℕ) (t : HistoryRow) → outcomes_with outcomes t < outcomes + 2
outcomes_by_one outcomes t = at (is_some t.outcome) where
  at : (b : Bool) → (if b then outcomes + 1 else outcomes) < outcomes + 2
  at true = omega arith
  at false = omega arith
