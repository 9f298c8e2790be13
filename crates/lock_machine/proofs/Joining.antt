-- Threads joined with their clocks.
use Rattle.std.proofs.Common.{◌≡◌, ℕ, zero, suc, ◌<◌, List, [], ◌∷◌, length, map, replicate, get_or, set, Option, Some}
use Rattle.std.proofs.Common.{None, Bool, true, refl, sym, ap, ap₂, ◌∙◌, arith}
use Rattle.std.proofs.lemmas.List.{map-set}
use Rattle.std.specs.Prelude.{if◌then◌else◌}
use Rattle.logical_clocks.specs.ThreadClocks.{clock_at, first_clock, live_clock, live_clocks, thread_at}
use Rattle.logical_clocks.specs.declared.clocks.ThreadClock.{ThreadClock}
use Rattle.lock_machine.specs.Lives.{Agree, is_live}
use Rattle.lock_machine.specs.Starting.{first_item, first_thread}
use Rattle.lock_machine.specs.Threads.{KeepsOthers, Thread, joined, timed}
use Rattle.lock_machine.specs.Views.{clocks_of, item_at, live_in, no_thread}
use Rattle.lock_machine.specs.declared.thread.Phase.{Phase}
use Rattle.lock_machine.specs.declared.thread.Phase.TheVariants as phase
use Rattle.lock_machine.specs.declared.thread.Thread as declared

pub length-joined : (ts : List declared.Thread) (cs : List ThreadClock) → length (joined ts cs) ≡ length ts
length-joined [] cs = refl
length-joined (t ∷ ts) [] = ap suc (length-joined ts [])
length-joined (t ∷ ts) (c ∷ cs) = ap suc (length-joined ts cs)

pub get-joined : (ts : List declared.Thread) (cs : List ThreadClock) (i : ℕ) → i < length ts
    → get_or (joined ts cs) i no_thread ≡ timed (item_at ts i) (clock_at cs i)
get-joined [] cs i h = absurd (omega arith)
get-joined (t ∷ ts) [] zero h = refl
get-joined (t ∷ ts) [] (suc i) h = get-joined ts [] i (omega arith)
get-joined (t ∷ ts) (c ∷ cs) zero h = refl
get-joined (t ∷ ts) (c ∷ cs) (suc i) h = get-joined ts cs i (omega arith)

-- thread i and its clock are set
pub joined-set : (ts : List declared.Thread) (cs : List ThreadClock) (i : ℕ) (t : declared.Thread) (c : ThreadClock)
    → i < length cs → joined (set ts i t) (set cs i c) ≡ set (joined ts cs) i (timed t c.clock)
joined-set ts [] i t c h = absurd (omega arith)
joined-set [] (c ∷ cs) zero t d h = refl
joined-set [] (c ∷ cs) (suc i) t d h = refl
joined-set (u ∷ ts) (c ∷ cs) zero t d h = refl
joined-set (u ∷ ts) (c ∷ cs) (suc i) t d h =
    ap (λ (l : List Thread). timed u c.clock ∷ l) (joined-set ts cs i t d (omega arith))

-- as an event of thread i leaves them
pub joined-kept : (ts : List declared.Thread) (cs ds : List ThreadClock) (i : ℕ) (old t : declared.Thread)
    → i < length cs → KeepsOthers i old cs t ds
    → joined (set ts i t) ds ≡ set (joined ts cs) i (timed t (clock_at ds i))
joined-kept ts cs ds i old t inside h = ap (joined (set ts i t)) h.others ∙ joined-set ts cs i t (thread_at ds i) inside

agree_parts : (b : Bool) (c : ThreadClock) (t : declared.Thread) → c.live ≡ is_live t.phase
    → live_clock c ≡ live_in t.phase c.clock
agree_parts b c t h = ap (λ (b : Bool). let o : Option ℕ = if b then Some c.clock else None in o) h
    ∙ by_phase t.phase c.clock
  where
    by_phase : (p : Phase) (n : ℕ) → (let o : Option ℕ = if is_live p then Some n else None in o) ≡ live_in p n
    by_phase phase.Working n = refl
    by_phase (phase.WantsTable call carried) n = refl
    by_phase (phase.WantsObject call carried clock object) n = refl
    by_phase (phase.Granted place object e) n = refl
    by_phase (phase.ToOutside outing) n = refl
    by_phase (phase.Outside outing) n = refl
    by_phase (phase.Recorded outing) n = refl
    by_phase (phase.Blocked carried) n = refl
    by_phase phase.Ended n = refl

-- what turns are about is the same
pub live-joined : (ts : List declared.Thread) (cs : List ThreadClock) → Agree ts cs
    → live_clocks cs ≡ clocks_of (joined ts cs)
live-joined [] [] h = refl
live-joined [] (c ∷ cs) h = cc
live-joined (t ∷ ts) [] h = cc
live-joined (t ∷ ts) (c ∷ cs) h =
    let first : c.live ≡ is_live t.phase = cc in
    let rest : Agree ts cs = cc in
    ap₂ ◌∷◌ (agree_parts true c t first) (live-joined ts cs rest)

pub agree_length : (ts : List declared.Thread) (cs : List ThreadClock) → Agree ts cs → length cs ≡ length ts
agree_length [] [] h = refl
agree_length [] (c ∷ cs) h = cc
agree_length (t ∷ ts) [] h = cc
agree_length (t ∷ ts) (c ∷ cs) h = let rest : Agree ts cs = cc in ap suc (agree_length ts cs rest)

pub agree_at : (ts : List declared.Thread) (cs : List ThreadClock) (i : ℕ) → Agree ts cs → i < length ts
    → (let c : ThreadClock = thread_at cs i in c.live) ≡ (let t : declared.Thread = item_at ts i in is_live t.phase)
agree_at [] cs i h inside = absurd (omega arith)
agree_at (t ∷ ts) [] i h inside = cc
agree_at (t ∷ ts) (c ∷ cs) zero h inside = cc
agree_at (t ∷ ts) (c ∷ cs) (suc i) h inside = let rest : Agree ts cs = cc in agree_at ts cs i rest (omega arith)

-- and stays so
pub agree-kept : (ts : List declared.Thread) (cs ds : List ThreadClock) (i : ℕ) (old t : declared.Thread) → Agree ts cs
    → i < length ts → item_at ts i ≡ old → KeepsOthers i old cs t ds → Agree (set ts i t) ds
agree-kept ts cs ds i old t agree inside at h =
    let live = h.live (agree_at ts cs i agree inside ∙ ap (λ (x : declared.Thread). is_live x.phase) at) in
    ap (map (λ (c : ThreadClock). c.live)) h.others
    ∙ map-set (λ (c : ThreadClock). c.live) cs i (thread_at ds i)
    ∙ ap₂ (λ (bs : List Bool) (b : Bool). set bs i b) agree live
    ∙ sym (map-set (λ (x : declared.Thread). is_live x.phase) ts i t)

-- ## At the start, and at the end

pub joined_first : (n : ℕ) → joined (replicate n first_item) (replicate n first_clock) ≡ replicate n first_thread
joined_first zero = refl
joined_first (suc n) = ap (λ (l : List Thread). first_thread ∷ l) (joined_first n)

pub agree_first : (n : ℕ) → Agree (replicate n first_item) (replicate n first_clock)
agree_first zero = refl
agree_first (suc n) = ap (λ (l : List Bool). true ∷ l) (agree_first n)

pub map-joined : {A : Type 0} (f : declared.Thread → A) (g : Thread → A) (ts : List declared.Thread)
    (cs : List ThreadClock) → ((t : declared.Thread) (n : ℕ) → g (timed t n) ≡ f t) → map g (joined ts cs) ≡ map f ts
map-joined f g [] cs h = refl
map-joined f g (t ∷ ts) [] h = ap₂ ◌∷◌ (h t 0) (map-joined f g ts [] h)
map-joined f g (t ∷ ts) (c ∷ cs) h = ap₂ ◌∷◌ (h t c.clock) (map-joined f g ts cs h)

pub asked-joined : (ts : List declared.Thread) (cs : List ThreadClock)
    → map (λ (t : Thread). t.asked) (joined ts cs) ≡ map (λ (t : declared.Thread). t.asked) ts
asked-joined ts cs = map-joined (λ (t : declared.Thread). t.asked) (λ (t : Thread). t.asked) ts cs (λ t n. refl)

pub ruleset joining = (length-joined, asked-joined)
