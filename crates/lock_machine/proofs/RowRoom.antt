-- There is room for the rows of all calls that wait.
use Rattle.std.proofs.Common.{◌≡◌, ℕ, ◌+◌, ◌*◌, ◌<◌, ◌≤◌, List, length, replicate, set, get_or, Bool, true, false, ap}
use Rattle.std.proofs.Common.{sym, refl, subst, ◌∙◌, arith}
use Rattle.std.proofs.lemmas.List.{length-set}
use Rattle.std.proofs.lemmas.List.Sums.{get_or-le-sum_by, sum_by-le, sum_by-set}
use Rattle.std.proofs.lemmas.List.Folds.{sum_by-replicate}
use Rattle.std.specs.Global.{Vec}
use Rattle.std.specs.Vec.{vec_capacity, vec_len}
use Rattle.posix_terms.specs.declared.transcript.HistoryRow.{HistoryRow}
use Rattle.lock_machine.specs.Starting.{first_item}
use Rattle.lock_machine.specs.Waiting.{HasRoom, KeepsRoom, rows_due, waiting}
use Rattle.lock_machine.specs.declared.thread.Phase.{Phase}
use Rattle.lock_machine.specs.declared.thread.Phase.TheVariants as phase
use Rattle.lock_machine.specs.declared.thread.Thread.{Thread}

pub one_due : (p : Phase) → rows_due p ≤ 1
one_due phase.Working = omega arith
one_due (phase.WantsTable call carried) = omega arith
one_due (phase.WantsObject call carried clock object) = omega arith
one_due (phase.Granted place object e) = omega arith
one_due (phase.ToOutside o) = omega arith
one_due (phase.Outside o) = omega arith
one_due (phase.Recorded o) = omega arith
one_due (phase.Blocked carried) = omega arith
one_due phase.Ended = omega arith

-- room for a row of each thread is enough
pub room_for_all : (ts : List Thread) (n : ℕ) (rows : Vec HistoryRow) → length ts ≡ n
    → n + vec_len rows ≤ vec_capacity rows → HasRoom (waiting ts) rows
room_for_all ts n rows few room =
    let due : waiting ts ≤ length ts * 1 = sum_by-le (λ (t : Thread). rows_due t.phase) 1 ts
    (λ k d inside. one_due (let t : Thread = get_or ts k d in t.phase)) in
    enough (waiting ts) (length ts) n (vec_len rows) (vec_capacity rows) few due room
  where
    enough : (due count n len capacity : ℕ) → count ≡ n → due ≤ count * 1 → n + len ≤ capacity → due + len ≤ capacity
    enough due count n len capacity few most room = omega arith

-- nobody waits at the start
pub room_first : (ts : List Thread) (n : ℕ) (rows : Vec HistoryRow) → ts ≡ replicate n first_item → vec_len rows ≡ 0
    → HasRoom (waiting ts) rows
room_first ts n rows is none =
    let due : waiting ts ≡ n * 0 = ap waiting is ∙ sum_by-replicate (λ (t : Thread). rows_due t.phase) n first_item in
    enough (waiting ts) n (vec_len rows) (vec_capacity rows) due none
  where
    enough : (due n len capacity : ℕ) → due ≡ n * 0 → len ≡ 0 → due + len ≤ capacity
    enough due n len capacity h none = omega arith

-- a thread that waits has its own
pub room_at : (ts : List Thread) (i : ℕ) (x : Thread) (rows : Vec HistoryRow) → i < length ts → x ≡ get_or ts i x
    → HasRoom (waiting ts) rows → HasRoom (rows_due x.phase) rows
room_at ts i x rows inside at room =
    let own : rows_due x.phase ≤ waiting ts = subst (λ (t : Thread). rows_due t.phase ≤ waiting ts) (sym at)
    (get_or-le-sum_by (λ (t : Thread). rows_due t.phase) ts i x inside) in
    enough (rows_due x.phase) (waiting ts) (vec_len rows) (vec_capacity rows) own room
  where
    enough : (own due len capacity : ℕ) → own ≤ due → due + len ≤ capacity → own + len ≤ capacity
    enough own due len capacity h room = omega arith

-- what thread i does leaves the room of all others
pub room_kept : (ts : List Thread) (i : ℕ) (x v : Thread) (rows later : Vec HistoryRow) → i < length ts
    → x ≡ get_or ts i x → KeepsRoom (rows_due x.phase) rows (rows_due v.phase) later → HasRoom (waiting ts) rows
    → HasRoom (waiting (set ts i v)) later
room_kept ts i x v rows later inside at keeps room =
    let sums : waiting (set ts i v) + rows_due x.phase ≡ waiting ts + rows_due v.phase =
    ap (λ (t : Thread). waiting (set ts i v) + rows_due t.phase) at
    ∙ sum_by-set (λ (t : Thread). rows_due t.phase) ts i v x inside in
    enough (waiting ts) (waiting (set ts i v)) (rows_due x.phase) (rows_due v.phase) (vec_len rows) (vec_len later)
    (vec_capacity rows) (vec_capacity later) sums keeps room
  where
    enough : (s t due left len new cap top : ℕ) → t + due ≡ s + left → left + new + cap ≤ due + len + top
        → s + len ≤ cap → t + new ≤ top
    enough s t due left len new cap top sums keeps room = omega arith

-- as does one that touches no row and waits no more than before
pub room_less : (ts : List Thread) (i : ℕ) (x v : Thread) (rows : Vec HistoryRow) → i < length ts → x ≡ get_or ts i x
    → rows_due v.phase ≤ rows_due x.phase → HasRoom (waiting ts) rows → HasRoom (waiting (set ts i v)) rows
room_less ts i x v rows inside at less room =
    room_kept ts i x v rows rows inside at
    (same (rows_due x.phase) (rows_due v.phase) (vec_len rows) (vec_capacity rows) less) room
  where
    same : (due left len cap : ℕ) → left ≤ due → left + len + cap ≤ due + len + cap
    same due left len cap h = omega arith

-- the step that thread i asks is a call, for which room was taken, or wants no row
pub room_asked : (call : Bool) (ts : List Thread) (i : ℕ) (x v : Thread) (before later : Vec HistoryRow) → i < length ts
    → x ≡ get_or ts i x → (call ≡ true → HasRoom (length ts) later)
    → (call ≡ false → rows_due v.phase ≤ rows_due x.phase)
    → KeepsRoom 0 before 0 later → HasRoom (waiting ts) before → HasRoom (waiting (set ts i v)) later
room_asked true ts i x v before later inside at calls rests keeps room =
    room_for_all (set ts i v) (length ts) later (length-set ts i v) (calls refl)
room_asked false ts i x v before later inside at calls rests keeps room =
    room_kept ts i x v before later inside at
    (less (rows_due x.phase) (rows_due v.phase) (vec_len before) (vec_len later) (vec_capacity before)
    (vec_capacity later) (rests refl) keeps) room
  where
    less : (due left len new cap top : ℕ) → left ≤ due → 0 + new + cap ≤ 0 + len + top
        → left + new + cap ≤ due + len + top
    less due left len new cap top h keeps = omega arith
