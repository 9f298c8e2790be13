-- A line that jumps has the place of a label.
use Rattle.std.proofs.Common.{◌≡◌, ◌∙◌, ℕ, Bool, true, false, if◌then◌else◌, ◌==◌, List, [], ◌∷◌, ◌++◌, Option, Some}
use Rattle.std.proofs.Common.{None, option_map, refl}
use Rattle.thread_scripts.specs.Calls.{◌>>=◌, call_line, data_operand, number_operand}
use Rattle.thread_scripts.specs.Labels.{place_of}
use Rattle.thread_scripts.specs.Rules.{target_of}
use Rattle.thread_scripts.specs.Lines.{add_line, end_line, label_at, label_line, line_with, set_bytes_line, set_line}
use Rattle.thread_scripts.specs.Lines.{work_line}
use Rattle.thread_scripts.specs.Numbers.{byte_register_of, register_of}
use Rattle.thread_scripts.specs.declared.lines.Word.{Word}
use Rattle.thread_scripts.specs.declared.lines.Word.TheVariants as word
use Rattle.thread_scripts.specs.declared.line.Line.{Line}
use Rattle.thread_scripts.specs.declared.line.Line.TheVariants as line

-- a line that cannot jump
abbrev pub NoJump : Option Line → Type 0
NoJump None = Unit {0}
NoJump (Some l) = target_of l ≡ None

-- a line of these words that can jump to the label of its last word only
abbrev pub JumpsIn : List (List ℕ × ℕ) → List (List ℕ) → Option Line → Type 0
JumpsIn labels words None = Unit {0}
JumpsIn labels words (Some l) = (p : ℕ) → target_of l ≡ Some p → (name : List ℕ) × (front : List (List ℕ))
    × (words ≡ front ++ name ∷ []) × (place_of name labels ≡ Some p)

mapped : {X : Type 0} (f : X → Line) → ((x : X) → target_of (f x) ≡ None) → (o : Option X) → NoJump (option_map f o)
mapped f h None = tt
mapped f h (Some x) = h x

bound : {X Y : Type 0} (f : X → Y → Line) → ((x : X) (y : Y) → target_of (f x y) ≡ None) → (a : Option X) (b : Option Y)
    → NoJump (a >>= λ x. b >>= λ y. Some (f x y))
bound f h None b = tt
bound f h (Some x) None = tt
bound f h (Some x) (Some y) = h x y

set_stays : (operands : List (List ℕ)) → NoJump (set_line operands)
set_stays [] = tt
set_stays (a ∷ []) = tt
set_stays (a ∷ b ∷ []) = bound line.Set (λ x y. refl) (register_of a) (number_operand b)
set_stays (a ∷ b ∷ c ∷ more) = tt

add_stays : (operands : List (List ℕ)) → NoJump (add_line operands)
add_stays [] = tt
add_stays (a ∷ []) = tt
add_stays (a ∷ b ∷ []) = bound line.Add (λ x y. refl) (register_of a) (number_operand b)
add_stays (a ∷ b ∷ c ∷ more) = tt

set_bytes_stays : (operands : List (List ℕ)) → NoJump (set_bytes_line operands)
set_bytes_stays [] = tt
set_bytes_stays (a ∷ []) = tt
set_bytes_stays (a ∷ b ∷ []) = bound line.SetBytes (λ x y. refl) (byte_register_of a) (data_operand b)
set_bytes_stays (a ∷ b ∷ c ∷ more) = tt

work_stays : (operands : List (List ℕ)) → NoJump (work_line operands)
work_stays [] = tt
work_stays (a ∷ []) = mapped line.Work (λ x. refl) _
work_stays (a ∷ b ∷ more) = tt

end_stays : (operands : List (List ℕ)) → NoJump (end_line operands)
end_stays [] = refl
end_stays (a ∷ more) = tt

label_stays : (labels : List (List ℕ × ℕ)) (place : ℕ) (operands : List (List ℕ))
    → NoJump (label_line labels place operands)
label_stays labels place [] = tt
label_stays labels place (a ∷ []) = at (place_of a labels) where
  chosen : (b : Bool) → NoJump (if b then Some line.Label else None)
  chosen true = refl
  chosen false = tt

  at : (p : Option ℕ) → NoJump (label_at place p)
  at None = tt
  at (Some first) = chosen (first == place)
label_stays labels place (a ∷ b ∷ more) = tt

stays : (labels : List (List ℕ × ℕ)) (words : List (List ℕ)) (l : Option Line) → NoJump l → JumpsIn labels words l
stays labels words None h = tt
stays labels words (Some l) h = λ p e. cc

jumps : (labels : List (List ℕ × ℕ)) (front : List (List ℕ)) (name : List ℕ) (f : ℕ → Line)
    → ((p : ℕ) → target_of (f p) ≡ Some p) → (o : Option ℕ) → place_of name labels ≡ o
    → JumpsIn labels (front ++ name ∷ []) (option_map f o)
jumps labels front name f h None e = tt
jumps labels front name f h (Some q) e = λ p t. (name, front, refl, cc (h q))

zero_jumps : (labels : List (List ℕ × ℕ)) (w a name : List ℕ) (r o : Option ℕ) → place_of name labels ≡ o
    → JumpsIn labels (w ∷ a ∷ name ∷ []) (r >>= λ x. o >>= λ p. Some (line.JumpIfZero x p))
zero_jumps labels w a name None o e = tt
zero_jumps labels w a name (Some x) None e = tt
zero_jumps labels w a name (Some x) (Some q) e = λ p t. (name, w ∷ a ∷ [], refl, e ∙ t)

-- a line of this word, as which it was written so, with these operands
pub jumps_in : (labels : List (List ℕ × ℕ)) (place : ℕ) (x : List ℕ) (w : Word) (operands : List (List ℕ))
    → JumpsIn labels (x ∷ operands) (line_with labels place w operands)
unfolding line_with
jumps_in labels place x word.Work operands = stays labels (x ∷ operands) (work_line operands) (work_stays operands)
jumps_in labels place x word.End operands = stays labels (x ∷ operands) (end_line operands) (end_stays operands)
jumps_in labels place x word.Set operands = stays labels (x ∷ operands) (set_line operands) (set_stays operands)
jumps_in labels place x word.Add operands = stays labels (x ∷ operands) (add_line operands) (add_stays operands)
jumps_in labels place x word.SetBytes operands = stays labels (x ∷ operands) (set_bytes_line operands)
    (set_bytes_stays operands)
jumps_in labels place x word.Label operands = stays labels (x ∷ operands) (label_line labels place operands)
    (label_stays labels place operands)
jumps_in labels place x word.Jump [] = tt
jumps_in labels place x word.Jump (name ∷ []) = jumps labels (x ∷ []) name line.Jump (λ p. refl) (place_of name labels)
    refl
jumps_in labels place x word.Jump (a ∷ b ∷ more) = tt
jumps_in labels place x word.JumpIfZero [] = tt
jumps_in labels place x word.JumpIfZero (a ∷ []) = tt
jumps_in labels place x word.JumpIfZero (a ∷ name ∷ []) =
    zero_jumps labels x a name (register_of a) (place_of name labels) refl
jumps_in labels place x word.JumpIfZero (a ∷ b ∷ c ∷ more) = tt
jumps_in labels place x word.JumpIfFailed [] = tt
jumps_in labels place x word.JumpIfFailed (name ∷ []) = jumps labels (x ∷ []) name line.JumpIfFailed (λ p. refl)
    (place_of name labels) refl
jumps_in labels place x word.JumpIfFailed (a ∷ b ∷ more) = tt
jumps_in labels place x (word.Call kind) operands =
    stays labels (x ∷ operands) (option_map line.Call (call_line kind operands))
    (mapped line.Call (λ x. refl) (call_line kind operands))
