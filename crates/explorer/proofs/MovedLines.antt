-- What a line says where the labels have moved: the same, but that it jumps to where they are now.
use Rattle.std.proofs.Common.{◌≡◌, ap, ℕ, ◌==◌, Bool, true, false, if◌then◌else◌, List, [], ◌∷◌}
use Rattle.std.proofs.Common.{map, bytes_eq, codes, eq-eqb, eqb-true, Option, Some, None}
use Rattle.std.proofs.Common.{option_and_then, option_map, refl}
use Rattle.posix_terms.specs.declared.call.CallKind.{CallKind}
use Rattle.thread_scripts.specs.Calls.{◌>>=◌, call_line, data_operand, kind_named}
use Rattle.thread_scripts.specs.Calls.{number_operand}
use Rattle.thread_scripts.specs.Labels.{place_of}
use Rattle.thread_scripts.specs.Lines.{add_line, end_line, label_at, label_line, line_with}
use Rattle.thread_scripts.specs.Lines.{jump_if_failed_line, jump_if_zero_line, jump_line}
use Rattle.thread_scripts.specs.Lines.{set_bytes_line, set_line, word_named, work_line}
use Rattle.thread_scripts.specs.Numbers.{byte_register_of, register_of}
use Rattle.thread_scripts.specs.declared.line.Line.{Line}
use Rattle.thread_scripts.specs.declared.line.Line.TheVariants as line
use Rattle.explorer.specs.Delayed.{redirected}

-- labels whose places have moved
abbrev pub labels_moved : (ℕ → ℕ) → List (List ℕ × ℕ) → List (List ℕ × ℕ)
labels_moved to labels = map (λ label. (label.0, to label.1)) labels

-- the label of a name is found again
place_moved : (to : ℕ → ℕ) (name : List ℕ) (labels : List (List ℕ × ℕ))
    → place_of name (labels_moved to labels) ≡ option_map to (place_of name labels)
place_moved to name [] = refl
place_moved to name (label ∷ labels) =
    at (bytes_eq label.0 name) (place_moved to name labels)
  where
    at : (same : Bool)
        → place_of name (labels_moved to labels) ≡ option_map to (place_of name labels)
        → (if same then Some (to label.1) else place_of name (labels_moved to labels))
        ≡ option_map to (if same then Some label.1 else place_of name labels)
    at true later = refl
    at false later = later

-- a good line is good again, and is the same but for its jump
abbrev pub Redirects : (ℕ → ℕ) → Option Line → Option Line → Type 0
Redirects to None now = Unit {0}
Redirects to (Some l) now = now ≡ Some (redirected to l)

-- ## Lines that do not jump

-- made of one operand
mapped : {X : Type 0} (to : ℕ → ℕ) (f : X → Line) → ((x : X) → f x ≡ redirected to (f x))
    → (o : Option X) → Redirects to (option_map f o) (option_map f o)
mapped to f same None = tt
mapped to f same (Some x) = ap Some (same x)

-- of two
bound : {X Y : Type 0} (to : ℕ → ℕ) (f : X → Y → Line)
    → ((x : X) (y : Y) → f x y ≡ redirected to (f x y)) → (a : Option X) (b : Option Y)
    → Redirects to (a >>= λ x. b >>= λ y. Some (f x y)) (a >>= λ x. b >>= λ y. Some (f x y))
bound to f same None b = tt
bound to f same (Some x) None = tt
bound to f same (Some x) (Some y) = ap Some (same x y)

work_stays : (to : ℕ → ℕ) (operands : List (List ℕ))
    → Redirects to (work_line operands) (work_line operands)
work_stays to [] = tt
work_stays to (a ∷ []) = mapped to line.Work (λ x. refl) _
work_stays to (a ∷ b ∷ more) = tt

end_stays : (to : ℕ → ℕ) (operands : List (List ℕ))
    → Redirects to (end_line operands) (end_line operands)
end_stays to [] = refl
end_stays to (a ∷ more) = tt

set_stays : (to : ℕ → ℕ) (operands : List (List ℕ))
    → Redirects to (set_line operands) (set_line operands)
set_stays to [] = tt
set_stays to (a ∷ []) = tt
set_stays to (a ∷ b ∷ []) = bound to line.Set (λ x y. refl) (register_of a) (number_operand b)
set_stays to (a ∷ b ∷ c ∷ more) = tt

add_stays : (to : ℕ → ℕ) (operands : List (List ℕ))
    → Redirects to (add_line operands) (add_line operands)
add_stays to [] = tt
add_stays to (a ∷ []) = tt
add_stays to (a ∷ b ∷ []) = bound to line.Add (λ x y. refl) (register_of a) (number_operand b)
add_stays to (a ∷ b ∷ c ∷ more) = tt

set_bytes_stays : (to : ℕ → ℕ) (operands : List (List ℕ))
    → Redirects to (set_bytes_line operands) (set_bytes_line operands)
set_bytes_stays to [] = tt
set_bytes_stays to (a ∷ []) = tt
set_bytes_stays to (a ∷ b ∷ []) =
    bound to line.SetBytes (λ x y. refl) (byte_register_of a) (data_operand b)
set_bytes_stays to (a ∷ b ∷ c ∷ more) = tt

-- ## Labels and jumps

-- the line of the first label of a name has moved with it
label_moves : (to : ℕ → ℕ) (labels : List (List ℕ × ℕ)) (place : ℕ) (operands : List (List ℕ))
    → Redirects to (label_line labels place operands)
    (label_line (labels_moved to labels) (to place) operands)
label_moves to labels place [] = tt
label_moves to labels place (name ∷ []) =
    rw (place_moved to name labels) (found (place_of name labels))
  where
    chosen : (first : ℕ) (here : Bool) → (first == place) ≡ here
        → Redirects to (if here then Some line.Label else None)
        (if to first == to place then Some line.Label else None)
    chosen first true is = rw (eq-eqb (to first) (to place) (ap to (eqb-true first place is))) refl
    chosen first false is = tt

    found : (first : Option ℕ)
        → Redirects to (label_at place first) (label_at (to place) (option_map to first))
    found None = tt
    found (Some first) = chosen first (first == place) refl
label_moves to labels place (a ∷ b ∷ more) = tt

-- a jump to a label leads to where the label has moved
jump_moves : (to : ℕ → ℕ) (f : ℕ → Line) → ((p : ℕ) → f (to p) ≡ redirected to (f p))
    → (place : Option ℕ) → Redirects to (option_map f place) (option_map f (option_map to place))
jump_moves to f same None = tt
jump_moves to f same (Some place) = ap Some (same place)

-- and so does one by a register
zero_moves : (to : ℕ → ℕ) (register place : Option ℕ)
    → Redirects to (register >>= λ r. place >>= λ p. Some (line.JumpIfZero r p))
    (register >>= λ r. option_map to place >>= λ p. Some (line.JumpIfZero r p))
zero_moves to None place = tt
zero_moves to (Some r) None = tt
zero_moves to (Some r) (Some p) = refl

-- to the label of this name
jumps_move : (to : ℕ → ℕ) (labels : List (List ℕ × ℕ)) (f : ℕ → Line)
    → ((p : ℕ) → f (to p) ≡ redirected to (f p)) → (name : List ℕ)
    → Redirects to (option_map f (place_of name labels))
    (option_map f (place_of name (labels_moved to labels)))
jumps_move to labels f same name =
    rw (place_moved to name labels) (jump_moves to f same (place_of name labels))

jump_line_moves : (to : ℕ → ℕ) (labels : List (List ℕ × ℕ)) (operands : List (List ℕ))
    → Redirects to (jump_line labels operands) (jump_line (labels_moved to labels) operands)
jump_line_moves to labels [] = tt
jump_line_moves to labels (name ∷ []) = jumps_move to labels line.Jump (λ p. refl) name
jump_line_moves to labels (a ∷ b ∷ more) = tt

failed_line_moves : (to : ℕ → ℕ) (labels : List (List ℕ × ℕ)) (operands : List (List ℕ))
    → Redirects to (jump_if_failed_line labels operands)
    (jump_if_failed_line (labels_moved to labels) operands)
failed_line_moves to labels [] = tt
failed_line_moves to labels (name ∷ []) =
    jumps_move to labels line.JumpIfFailed (λ p. refl) name
failed_line_moves to labels (a ∷ b ∷ more) = tt

zero_line_moves : (to : ℕ → ℕ) (labels : List (List ℕ × ℕ)) (operands : List (List ℕ))
    → Redirects to (jump_if_zero_line labels operands)
    (jump_if_zero_line (labels_moved to labels) operands)
zero_line_moves to labels [] = tt
zero_line_moves to labels (a ∷ []) = tt
zero_line_moves to labels (a ∷ name ∷ []) =
    rw (place_moved to name labels) (zero_moves to (register_of a) (place_of name labels))
zero_line_moves to labels (a ∷ b ∷ c ∷ more) = tt

-- ## All words

-- the first word that a test finds, or one of the others
tested : {W : Type 0} (to : ℕ → ℕ) (before now : W → Option Line) (passes : Bool) (w : W)
    (others : Option W) → Redirects to (before w) (now w)
    → Redirects to (option_and_then before others) (option_and_then now others)
    → Redirects to (option_and_then before (if passes then Some w else others))
    (option_and_then now (if passes then Some w else others))
tested to before now true w others first later = first
tested to before now false w others first later = later

-- the word of a call
of_call : {W : Type 0} (to : ℕ → ℕ) (before now : W → Option Line) (call : CallKind → W)
    → ((kind : CallKind) → Redirects to (before (call kind)) (now (call kind)))
    → (kind : Option CallKind)
    → Redirects to (option_and_then before (option_map call kind))
    (option_and_then now (option_map call kind))
of_call to before now call each None = tt
of_call to before now call each (Some kind) = each kind

-- the line of a word, where its own place has moved as the labels have
pub line_moves : (to : ℕ → ℕ) (labels : List (List ℕ × ℕ)) (place : ℕ) (word : List ℕ)
    (operands : List (List ℕ))
    → Redirects to (option_and_then (λ w. line_with labels place w operands) (word_named word))
    (option_and_then (λ w. line_with (labels_moved to labels) (to place) w operands)
    (word_named word))
unfolding line_with
line_moves to labels place word operands =
    tested to _ _ (bytes_eq word (codes "work")) _ _ (work_stays to operands)
    (tested to _ _ (bytes_eq word (codes "end")) _ _ (end_stays to operands)
    (tested to _ _ (bytes_eq word (codes "set")) _ _ (set_stays to operands)
    (tested to _ _ (bytes_eq word (codes "add")) _ _ (add_stays to operands)
    (tested to _ _ (bytes_eq word (codes "setb")) _ _ (set_bytes_stays to operands)
    (tested to _ _ (bytes_eq word (codes "label")) _ _ (label_moves to labels place operands)
    (tested to _ _ (bytes_eq word (codes "jump")) _ _ (jump_line_moves to labels operands)
    (tested to _ _ (bytes_eq word (codes "jzero")) _ _ (zero_line_moves to labels operands)
    (tested to _ _ (bytes_eq word (codes "jfail")) _ _ (failed_line_moves to labels operands)
    (of_call to _ _ _ (λ kind. mapped to line.Call (λ x. refl) (call_line kind operands))
    (kind_named word))))))))))
