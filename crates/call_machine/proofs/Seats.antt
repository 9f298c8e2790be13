-- The thread and the script of a driver's seat, as the code reads them.
use Rattle.std.proofs.Common.{◌≡◌, ℕ, zero, suc, ◌<◌, ◌≤◌, List, [], ◌∷◌, length, get_or, set, slice_get, Option, Some}
use Rattle.std.proofs.Common.{None, Bool, true, sym, refl, ap, ap₂, ◌∙◌, subst, arith}
use Rattle.std.proofs.lemmas.Bool.Decides.{nat_tests}
use Rattle.std.proofs.lemmas.List.{get_or_default, get_or_past, get_or-set_same, length-set}
use Rattle.std.proofs.lemmas.Option.{slice_get_past, slice_get_read}
use Rattle.std.specs.Prelude.{nat_lt}
use Rattle.posix_terms.specs.declared.outcome.Given.{Given}
use Rattle.thread_scripts.specs.Meaning.{next_of}
use Rattle.sequential_object.specs.Step.{Carried}
use Rattle.sequential_object.specs.declared.turn_end.TurnEnd.{TurnEnd}
use Rattle.lock_machine.specs.Whole.{thread_at}
use Rattle.lock_machine.specs.declared.thread.Outing.{Outing}
use Rattle.lock_machine.specs.declared.thread.Phase.{Phase}
use Rattle.lock_machine.specs.declared.thread.Phase.TheVariants as phase
use Rattle.call_machine.specs.Playing.{no_player, player_at, played_of}
use Rattle.call_machine.specs.declared.driver.Driver.{Driver}
use Rattle.call_machine.specs.declared.players.Player.{Player}
use Rattle.call_machine.proofs.Playing.{is_idle, next_given, stepped}

-- an element that was found
pub got_at : {A : Type 0} (xs : List A) (i : ℕ) (x : A) → true ≡ nat_lt i (length xs) → x ≡ get_or xs i x
    → slice_get xs i ≡ Some x
got_at xs i x inside is = slice_get_read xs (length xs) i x refl (lt-true inside) is
  where
    lt-true : true ≡ nat_lt i (length xs) → i < length xs
    lt-true h = grind (arith, nat_tests)

-- an element that was found is there whatever stands past the last
item_is : {A : Type 0} (xs : List A) (i : ℕ) (x d : A) → i < length xs → x ≡ get_or xs i x → get_or xs i d ≡ x
item_is xs i x d inside h = get_or_default xs i d x inside ∙ sym h

-- ## The thread

pub idle_else : (p : Phase) → (p ≡ phase.Working → ⊥)
    → ((row : ℕ) (object : Option ℕ) (ends : TurnEnd) → p ≡ phase.Granted row object ends → ⊥)
    → ((o : Outing) → p ≡ phase.ToOutside o → ⊥) → ((o : Outing) → p ≡ phase.Outside o → ⊥)
    → ((o : Outing) → p ≡ phase.Recorded o → ⊥)
    → ((carried : Carried) → p ≡ phase.Blocked carried → ⊥) → is_idle p ≡ true
idle_else phase.Working works grants goes comes records blocks = absurd (works refl)
idle_else (phase.WantsTable call carried) works grants goes comes records blocks = refl
idle_else (phase.WantsObject call carried clock object) works grants goes comes records blocks = refl
idle_else (phase.Granted row object ends) works grants goes comes records blocks = absurd (grants row object ends refl)
idle_else (phase.ToOutside o) works grants goes comes records blocks = absurd (goes o refl)
idle_else (phase.Outside o) works grants goes comes records blocks = absurd (comes o refl)
idle_else (phase.Recorded o) works grants goes comes records blocks = absurd (records o refl)
idle_else (phase.Blocked carried) works grants goes comes records blocks = absurd (blocks carried refl)
idle_else phase.Ended works grants goes comes records blocks = refl

-- ## The script

pub player_is : (d : Driver) (i : ℕ) (x : Player) → i < length d.players.items → x ≡ get_or d.players.items i x
    → player_at (played_of d) i ≡ x
player_is d i x inside at = item_is d.players.items i x no_player inside at

set_twice : {A : Type 0} (xs : List A) (i : ℕ) (a b : A) → set (set xs i a) i b ≡ set xs i b
set_twice [] i a b = refl
set_twice (x ∷ xs) zero a b = refl
set_twice (x ∷ xs) (suc i) a b = ap (λ (ys : List _). x ∷ ys) (set_twice xs i a b)

-- a script that was asked, and then found stuck or not
pub asked_twice : (ps : List Player) (i : ℕ) (x y z : Player) (stuck : Bool) → i < length ps → x ≡ get_or ps i x
    → y ≡ record x { actor = (next_of x.last x.actor).1; last = None } → z ≡ get_or (set ps i y) i z
    → set (set ps i y) i (record z { stuck = stuck }) ≡ set ps i (stepped (get_or ps i no_player) stuck)
asked_twice ps i x y z stuck inside x_at y_is z_at =
    let own : get_or ps i no_player ≡ x = item_is ps i x no_player inside x_at in
    let there : i < length (set ps i y) = subst (λ (n : ℕ). i < n) (sym (length-set ps i y)) inside in
    let z_is : z ≡ y = sym (item_is (set ps i y) i z no_player there z_at) ∙ get_or-set_same ps i y no_player inside in
    let last : record z { stuck = stuck } ≡ stepped x stuck =
    ap (λ (q : Player). record q { stuck = stuck }) (z_is ∙ y_is) in
    set_twice ps i y (record z { stuck = stuck })
    ∙ ap (set ps i) (last ∙ ap (λ (q : Player). stepped q stuck) (sym own))

-- ## The outcomes

-- there is no list for this thread
pub given_none : (d : Driver) (i : ℕ) → length d.outcomes.items ≤ i → next_given (played_of d) i ≡ None
given_none d i past = ap (λ (gs : List Given). slice_get gs (thread_at d.machine i).came)
    (get_or_past d.outcomes.items i [] past) ∙ slice_get_past [] (thread_at d.machine i).came (omega arith)

-- there is one, with this as its next outcome
pub given_in : (d : Driver) (i came : ℕ) (gs : List Given) (o : Option Given) → came ≡ (thread_at d.machine i).came
    → i < length d.outcomes.items → gs ≡ get_or d.outcomes.items i gs → slice_get gs came ≡ o
    → next_given (played_of d) i ≡ o
given_in d i came gs o came_is there is next = ap₂ (λ (xs : List Given) (n : ℕ). slice_get xs n)
    (item_is d.outcomes.items i gs [] there is) (sym came_is) ∙ next
