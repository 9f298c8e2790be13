-- The lines of a script that was read keep the rules for lines.
use Rattle.std.proofs.Common.{◌≡◌, ap, ℕ, suc, ◌+◌, ◌≤◌, Bool, true, false, ◌&&◌, if◌then◌else◌, ◌==◌, List, [], ◌∷◌}
use Rattle.std.proofs.Common.{length, slice_get, Option, Some, None, Ok, option_map, refl, arith}
use Rattle.std.specs.Prelude.{◌||◌, not, bytes_eq, nat_le, option_and_then}
use Rattle.std.specs.List.{cons_option, list_all}
use Rattle.std.specs.Result.{result_ok}
use Rattle.hex.specs.Hex.{decode_of}
use Rattle.posix_terms.specs.declared.limits.TheConstants.Limits.{COUNT}
use Rattle.posix_terms.specs.declared.call.Access.{Access}
use Rattle.posix_terms.specs.declared.call.Call.TheVariants as call
use Rattle.posix_terms.specs.declared.call.CallKind.{CallKind}
use Rattle.posix_terms.specs.declared.call.CallKind.TheVariants as kind
use Rattle.posix_terms.specs.declared.call.OpenFlags.{OpenFlags}
use Rattle.thread_scripts.specs.Calls.{◌>>=◌, bytes_at, call_line, data_operand, number_and_bytes, number_and_flags}
use Rattle.thread_scripts.specs.Calls.{number_and_how, number_operand, one_number, one_path, opening, register_or_bytes}
use Rattle.thread_scripts.specs.Calls.{seek, status_flags, three_numbers, two_numbers, two_paths}
use Rattle.thread_scripts.specs.Grammar.{gathered, readings_from}
use Rattle.thread_scripts.specs.Labels.{place_after, place_of}
use Rattle.thread_scripts.specs.Lines.{add_line, end_line, label_at, label_line, line_of, line_with, set_bytes_line}
use Rattle.thread_scripts.specs.Lines.{set_line, word_named, words_say, work_line}
use Rattle.thread_scripts.specs.Numbers.{byte_register_of, register_of}
use Rattle.thread_scripts.specs.Rules.{call_keeps, is_path, is_short, keeps_rules, leads_to_label, line_keeps}
use Rattle.thread_scripts.specs.Rules.{target_of}
use Rattle.thread_scripts.specs.Texts.{access_of, bytes_of, is_graphic, known_to_host, no_flags, path_of, short_enough}
use Rattle.thread_scripts.specs.Texts.{with_flags}
use Rattle.thread_scripts.specs.Words.{words_of}
use Rattle.thread_scripts.specs.declared.line.Data.{Data}
use Rattle.thread_scripts.specs.declared.line.Data.TheVariants as bytes
use Rattle.thread_scripts.specs.declared.line.Number.{Number}
use Rattle.thread_scripts.specs.declared.line.Line.{Line}
use Rattle.thread_scripts.specs.declared.line.Line.TheVariants as line
use Rattle.thread_scripts.specs.declared.lines.Word.{Word}
use Rattle.thread_scripts.specs.declared.lines.Word.TheVariants as word
use Rattle.thread_scripts.proofs.Jumps.{peeled}

-- what is read, if anything is, is so
abbrev pub Reads : {X : Type 0} → (X → Bool) → Option X → Type 0
Reads good None = Unit {0}
Reads good (Some x) = good x ≡ true

-- one thing is read, and another from it
then_reads : {X Y : Type 0} (good : X → Bool) (fine : Y → Bool) (o : Option X) (f : X → Option Y) → Reads good o
    → ((x : X) → good x ≡ true → Reads fine (f x)) → Reads fine (o >>= f)
then_reads good fine None f h k = tt
then_reads good fine (Some x) f h k = k x h

-- whatever is read
abbrev pub anything : {X : Type 0} → X → Bool
anything x = true

any : {X : Type 0} (o : Option X) → Reads anything o
any None = tt
any (Some x) = refl

-- what is made of whatever is read
of_any : {X Y : Type 0} (fine : Y → Bool) (f : X → Y) → ((x : X) → fine (f x) ≡ true) → (o : Option X)
    → Reads fine (o >>= λ x. Some (f x))
of_any fine f h None = tt
of_any fine f h (Some x) = h x

of_two : {X Y Z : Type 0} (fine : Z → Bool) (f : X → Y → Z) → ((x : X) (y : Y) → fine (f x y) ≡ true)
    → (a : Option X) (b : Option Y) → Reads fine (a >>= λ x. b >>= λ y. Some (f x y))
of_two fine f h None b = tt
of_two fine f h (Some x) b = of_any fine (f x) (h x) b

mapped : {X Y : Type 0} (good : X → Bool) (fine : Y → Bool) (f : X → Y) → ((x : X) → good x ≡ true → fine (f x) ≡ true)
    → (o : Option X) → Reads good o → Reads fine (option_map f o)
mapped good fine f h None r = tt
mapped good fine f h (Some x) r = h x r

path_reads : (word : List ℕ) → Reads is_path (path_of word)
path_reads word = at (bytes_eq word (34 ∷ 34 ∷ [])) (list_all is_graphic word) refl where
  at : (b c : Bool) → list_all is_graphic word ≡ c
      → Reads is_path (if b then Some [] else if c then Some word else None)
  at true c e = refl
  at false true e = e
  at false false e = tt

abbrev pub fits_call : List ℕ → Bool
fits_call text = nat_le (length text) COUNT

short_reads : (o : Option (List ℕ)) → Reads fits_call (short_enough o)
short_reads None = tt
short_reads (Some text) = at (nat_le (length text) COUNT) refl where
  at : (b : Bool) → nat_le (length text) COUNT ≡ b → Reads fits_call (if b then Some text else None)
  at true e = e
  at false e = tt

bytes_read : (word : List ℕ) → Reads fits_call (bytes_of word)
bytes_read [] = tt
bytes_read (b ∷ digits) = at (b == 120) where
  at : (x : Bool) → Reads fits_call (if x then short_enough (result_ok (decode_of digits)) else None)
  at true = short_reads (result_ok (decode_of digits))
  at false = tt

data_reads : (word : List ℕ) → Reads is_short (data_operand word)
unfolding data_operand
data_reads word = at (byte_register_of word) where
  at : (r : Option ℕ) → Reads is_short (register_or_bytes r (bytes_of word))
  at (Some register) = refl
  at None = mapped fits_call is_short bytes.Text (λ text e. e) (bytes_of word) (bytes_read word)

abbrev pub known_flags : OpenFlags → Bool
known_flags flags = not (flags.exclusive || flags.nonblock)

host_flags_read : (f : OpenFlags) → Reads known_flags (known_to_host f)
host_flags_read f = at (f.exclusive || f.nonblock) refl where
  at : (b : Bool) → (f.exclusive || f.nonblock) ≡ b → Reads known_flags (if b then None else Some f)
  at true e = tt
  at false e = ap not e

pub both : (a b : Bool) → a ≡ true → b ≡ true → (a && b) ≡ true
both a b x y = rw (x, y) refl

-- ## Operands, by their shapes

abbrev second_is_short : Number × Data → Bool
second_is_short o = is_short o.1

with_bytes : (d : Option Number) (b : Option Data) → Reads is_short b
    → Reads second_is_short (d >>= λ x. b >>= λ y. Some (x, y))
with_bytes None b h = tt
with_bytes (Some x) b h = then_reads is_short second_is_short b (λ y. Some (x, y)) h (λ y e. e)

number_and_bytes_read : (operands : List (List ℕ)) → Reads second_is_short (number_and_bytes operands)
number_and_bytes_read [] = tt
number_and_bytes_read (a ∷ []) = tt
number_and_bytes_read (a ∷ b ∷ []) = with_bytes (number_operand a) (data_operand b) (data_reads b)
number_and_bytes_read (a ∷ b ∷ c ∷ more) = tt

abbrev middle_is_short : Number × Data × Number → Bool
middle_is_short o = is_short o.1

with_bytes_at : (d p : Option Number) (b : Option Data) → Reads is_short b
    → Reads middle_is_short (d >>= λ x. p >>= λ z. b >>= λ y. Some (x, y, z))
with_bytes_at None p b h = tt
with_bytes_at (Some x) None b h = tt
with_bytes_at (Some x) (Some z) b h = then_reads is_short middle_is_short b (λ y. Some (x, y, z)) h (λ y e. e)

bytes_at_read : (operands : List (List ℕ)) → Reads middle_is_short (bytes_at operands)
bytes_at_read [] = tt
bytes_at_read (a ∷ []) = tt
bytes_at_read (a ∷ b ∷ []) = tt
bytes_at_read (a ∷ b ∷ c ∷ []) = with_bytes_at (number_operand a) (number_operand c) (data_operand b) (data_reads b)
bytes_at_read (a ∷ b ∷ c ∷ d ∷ more) = tt

one_path_reads : (operands : List (List ℕ)) → Reads is_path (one_path operands)
one_path_reads [] = tt
one_path_reads (a ∷ []) = path_reads a
one_path_reads (a ∷ b ∷ more) = tt

abbrev are_paths : List ℕ × List ℕ → Bool
are_paths o = is_path o.0 && is_path o.1

two_paths_read : (operands : List (List ℕ)) → Reads are_paths (two_paths operands)
two_paths_read [] = tt
two_paths_read (a ∷ []) = tt
two_paths_read (a ∷ b ∷ []) = then_reads is_path are_paths (path_of a) (λ p. path_of b >>= λ q. Some (p, q))
    (path_reads a) (λ p e. then_reads is_path are_paths (path_of b) (λ q. Some (p, q)) (path_reads b)
    (λ q d. both (is_path p) (is_path q) e d))
two_paths_read (a ∷ b ∷ c ∷ more) = tt

abbrev opens_path : List ℕ × Access × OpenFlags → Bool
opens_path o = is_path o.0

with_path : (x : Option Access) (f : Option OpenFlags) (p : Option (List ℕ)) → Reads is_path p
    → Reads opens_path (x >>= λ a. f >>= λ g. p >>= λ q. Some (q, a, g))
with_path None f p h = tt
with_path (Some x) None p h = tt
with_path (Some x) (Some f) p h = then_reads is_path opens_path p (λ q. Some (q, x, f)) h (λ q e. e)

opening_reads : (operands : List (List ℕ)) → Reads opens_path (opening operands)
opening_reads [] = tt
opening_reads (a ∷ []) = tt
opening_reads (a ∷ b ∷ words) = with_path (access_of b) (with_flags no_flags words) (path_of a) (path_reads a)

-- ## Calls

calls_keep : (k : CallKind) (operands : List (List ℕ)) → Reads call_keeps (call_line k operands)
unfolding call_line
calls_keep kind.Open operands = mapped opens_path call_keeps (λ o. call.Open o.0 o.1 o.2) (λ o e. e) (opening operands)
    (opening_reads operands)
calls_keep kind.Close operands = mapped anything call_keeps call.Close (λ o _. refl) (one_number operands)
    (any (one_number operands))
calls_keep kind.Read operands = mapped anything call_keeps (λ o. call.Read o.0 o.1) (λ o _. refl) (two_numbers operands)
    (any (two_numbers operands))
calls_keep kind.Write operands = mapped second_is_short call_keeps (λ o. call.Write o.0 o.1) (λ o e. e)
    (number_and_bytes operands) (number_and_bytes_read operands)
calls_keep kind.Pread operands = mapped anything call_keeps (λ o. call.Pread o.0 o.1 o.2) (λ o _. refl)
    (three_numbers operands) (any (three_numbers operands))
calls_keep kind.Pwrite operands = mapped middle_is_short call_keeps (λ o. call.Pwrite o.0 o.1 o.2) (λ o e. e)
    (bytes_at operands) (bytes_at_read operands)
calls_keep kind.Lseek operands = mapped anything call_keeps (λ o. call.Lseek o.0 o.1 o.2) (λ o _. refl) (seek operands)
    (any (seek operands))
calls_keep kind.Ftruncate operands = mapped anything call_keeps (λ o. call.Ftruncate o.0 o.1) (λ o _. refl)
    (two_numbers operands) (any (two_numbers operands))
calls_keep kind.Fstat operands = mapped anything call_keeps call.Fstat (λ o _. refl) (one_number operands)
    (any (one_number operands))
calls_keep kind.Dup operands = mapped anything call_keeps call.Dup (λ o _. refl) (one_number operands)
    (any (one_number operands))
calls_keep kind.DupFrom operands = mapped anything call_keeps (λ o. call.DupFrom o.0 o.1) (λ o _. refl)
    (two_numbers operands) (any (two_numbers operands))
calls_keep kind.Dup2 operands = mapped anything call_keeps (λ o. call.Dup2 o.0 o.1) (λ o _. refl) (two_numbers operands)
    (any (two_numbers operands))
calls_keep kind.Getfl operands = mapped anything call_keeps call.Getfl (λ o _. refl) (one_number operands)
    (any (one_number operands))
calls_keep kind.Setfl operands = then_reads anything call_keeps (number_and_flags operands)
    (λ o. status_flags o.1 >>= λ f. Some (call.Setfl o.0 f.append f.nonblock)) (any (number_and_flags operands))
    (λ o _. of_any call_keeps (λ f. call.Setfl o.0 f.append f.nonblock) (λ f. refl) (status_flags o.1))
calls_keep kind.Link operands = mapped are_paths call_keeps (λ o. call.Link o.0 o.1) (λ o e. e) (two_paths operands)
    (two_paths_read operands)
calls_keep kind.Unlink operands = mapped is_path call_keeps call.Unlink (λ o e. e) (one_path operands)
    (one_path_reads operands)
calls_keep kind.Rename operands = mapped are_paths call_keeps (λ o. call.Rename o.0 o.1) (λ o e. e) (two_paths operands)
    (two_paths_read operands)
calls_keep kind.Mkdir operands = mapped is_path call_keeps call.Mkdir (λ o e. e) (one_path operands)
    (one_path_reads operands)
calls_keep kind.Rmdir operands = mapped is_path call_keeps call.Rmdir (λ o e. e) (one_path operands)
    (one_path_reads operands)
calls_keep kind.Pipe [] = refl
calls_keep kind.Pipe (a ∷ more) = tt
calls_keep kind.Socketpair [] = refl
calls_keep kind.Socketpair (a ∷ more) = tt
calls_keep kind.Shutdown operands = mapped anything call_keeps (λ o. call.Shutdown o.0 o.1) (λ o _. refl)
    (number_and_how operands) (any (number_and_how operands))
calls_keep kind.HostOpen operands = then_reads opens_path call_keeps (opening operands)
    (λ o. known_to_host o.2 >>= λ f. Some (call.HostOpen o.0 o.1 f)) (opening_reads operands)
    (λ o e. then_reads known_flags call_keeps (known_to_host o.2) (λ f. Some (call.HostOpen o.0 o.1 f))
    (host_flags_read o.2) (λ f d. both (is_path o.0) (known_flags f) e d))
calls_keep kind.TcpListen operands = mapped anything call_keeps call.TcpListen (λ o _. refl) (one_number operands)
    (any (one_number operands))
calls_keep kind.TcpConnect operands = mapped anything call_keeps call.TcpConnect (λ o _. refl) (one_number operands)
    (any (one_number operands))
calls_keep kind.TcpAccept operands = mapped anything call_keeps call.TcpAccept (λ o _. refl) (one_number operands)
    (any (one_number operands))

work_reads : (operands : List (List ℕ)) → Reads line_keeps (work_line operands)
work_reads [] = tt
work_reads (a ∷ []) = mapped anything line_keeps line.Work (λ x _. refl) _ (any _)
work_reads (a ∷ b ∷ more) = tt

end_reads : (operands : List (List ℕ)) → Reads line_keeps (end_line operands)
end_reads [] = refl
end_reads (a ∷ more) = tt

set_reads : (operands : List (List ℕ)) → Reads line_keeps (set_line operands)
set_reads [] = tt
set_reads (a ∷ []) = tt
set_reads (a ∷ b ∷ []) = of_two line_keeps line.Set (λ x y. refl) (register_of a) (number_operand b)
set_reads (a ∷ b ∷ c ∷ more) = tt

add_reads : (operands : List (List ℕ)) → Reads line_keeps (add_line operands)
add_reads [] = tt
add_reads (a ∷ []) = tt
add_reads (a ∷ b ∷ []) = of_two line_keeps line.Add (λ x y. refl) (register_of a) (number_operand b)
add_reads (a ∷ b ∷ c ∷ more) = tt

set_bytes_read : (operands : List (List ℕ)) → Reads line_keeps (set_bytes_line operands)
set_bytes_read [] = tt
set_bytes_read (a ∷ []) = tt
set_bytes_read (a ∷ b ∷ []) = then_reads anything line_keeps (byte_register_of a)
    (λ r. data_operand b >>= λ v. Some (line.SetBytes r v)) (any (byte_register_of a))
    (λ r _. then_reads is_short line_keeps (data_operand b) (λ v. Some (line.SetBytes r v)) (data_reads b) (λ v e. e))
set_bytes_read (a ∷ b ∷ c ∷ more) = tt

label_reads : (labels : List (List ℕ × ℕ)) (place : ℕ) (operands : List (List ℕ))
    → Reads line_keeps (label_line labels place operands)
label_reads labels place [] = tt
label_reads labels place (a ∷ []) = at (place_of a labels) where
  chosen : (b : Bool) → Reads line_keeps (if b then Some line.Label else None)
  chosen true = refl
  chosen false = tt

  at : (p : Option ℕ) → Reads line_keeps (label_at place p)
  at None = tt
  at (Some first) = chosen (first == place)
label_reads labels place (a ∷ b ∷ more) = tt

words_read : (labels : List (List ℕ × ℕ)) (place : ℕ) (w : Word) (operands : List (List ℕ))
    → Reads line_keeps (line_with labels place w operands)
unfolding line_with
words_read labels place word.Work operands = work_reads operands
words_read labels place word.End operands = end_reads operands
words_read labels place word.Set operands = set_reads operands
words_read labels place word.Add operands = add_reads operands
words_read labels place word.SetBytes operands = set_bytes_read operands
words_read labels place word.Label operands = label_reads labels place operands
words_read labels place word.Jump [] = tt
words_read labels place word.Jump (name ∷ []) = mapped anything line_keeps line.Jump (λ p _. refl)
    (place_of name labels) (any (place_of name labels))
words_read labels place word.Jump (a ∷ b ∷ more) = tt
words_read labels place word.JumpIfZero [] = tt
words_read labels place word.JumpIfZero (a ∷ []) = tt
words_read labels place word.JumpIfZero (a ∷ name ∷ []) =
    of_two line_keeps line.JumpIfZero (λ x y. refl) (register_of a) (place_of name labels)
words_read labels place word.JumpIfZero (a ∷ b ∷ c ∷ more) = tt
words_read labels place word.JumpIfFailed [] = tt
words_read labels place word.JumpIfFailed (name ∷ []) = mapped anything line_keeps line.JumpIfFailed (λ p _. refl)
    (place_of name labels) (any (place_of name labels))
words_read labels place word.JumpIfFailed (a ∷ b ∷ more) = tt
words_read labels place (word.Call k) operands = mapped call_keeps line_keeps line.Call (λ l e. e)
    (call_line k operands) (calls_keep k operands)

-- what words say keeps the rules
says_keep : (labels : List (List ℕ × ℕ)) (place : ℕ) (words : Option (List (List ℕ))) (l : Line)
    → option_and_then (words_say labels place) words ≡ Some (Some l) → line_keeps l ≡ true
says_keep labels place None l e = cc
says_keep labels place (Some []) l e = cc
says_keep labels place (Some (x ∷ operands)) l e = named (word_named x) e where
  said : (o : Option Line) → Reads line_keeps o → option_map Some o ≡ Some (Some l) → line_keeps l ≡ true
  said None h e = cc
  said (Some m) h e = let same : m ≡ l = cc in rw same at h

  named : (w : Option Word) → option_map Some (option_and_then (λ w. line_with labels place w operands) w)
      ≡ Some (Some l) → line_keeps l ≡ true
  named None e = cc
  named (Some w) e = said (line_with labels place w operands) (words_read labels place w operands) e

-- the lines keep the rules for lines, and there are no more of them than of the text
pub all_keep : (labels : List (List ℕ × ℕ)) (texts : List (List ℕ)) (place n : ℕ) (lines : List Line)
    → gathered n (readings_from labels place texts) ≡ Ok lines → (list_all line_keeps lines ≡ true)
    × (length lines ≤ length texts)
all_keep labels [] place n lines e = let none : lines ≡ [] = cc in rw none (refl, omega arith)
all_keep labels (text ∷ texts) place n lines e =
    at (peeled n (line_of labels place text)
    (gathered (n + 1) (readings_from labels (place_after place (words_of text)) texts)) lines e)
    (λ rest e. all_keep labels texts (place_after place (words_of text)) (n + 1) rest e) where
      at : ((r : Option Line) × (rest : List Line) × (line_of labels place text ≡ Some r)
          × (gathered (n + 1) (readings_from labels (place_after place (words_of text)) texts) ≡ Ok rest)
          × (lines ≡ cons_option r rest))
          → ((rest : List Line) → gathered (n + 1) (readings_from labels (place_after place (words_of text)) texts)
          ≡ Ok rest → (list_all line_keeps rest ≡ true) × (length rest ≤ length texts))
          → (list_all line_keeps lines ≡ true) × (length lines ≤ suc (length texts))
      at (None, rest, reading, others, is) later = let (keep, few) = later rest others in rw is (keep, omega arith)
      at (Some l, rest, reading, others, is) later = let (keep, few) = later rest others in
          rw is (
            both (line_keeps l) (list_all line_keeps rest) (says_keep labels place (words_of text) l reading) keep,
            omega arith,
          )

-- lines that keep the rules for lines, each of which jumps to a label only, keep the rules
pub with_jumps : (script part : List Line) → list_all line_keeps part ≡ true
    → ((k p : ℕ) → option_and_then target_of (slice_get part k) ≡ Some p → slice_get script p ≡ Some line.Label)
    → list_all (keeps_rules script) part ≡ true
with_jumps script [] keep jump = refl
with_jumps script (l ∷ part) keep jump =
    at (line_keeps l) refl keep (λ rest. with_jumps script part rest (λ k p e. jump (suc k) p e)) where
      leads : (t : Option ℕ) → target_of l ≡ t → leads_to_label script t ≡ true
      leads None e = refl
      leads (Some p) e = let label : slice_get script p ≡ Some line.Label = jump 0 p e in rw label refl

      at : (b : Bool) → line_keeps l ≡ b → (b && list_all line_keeps part) ≡ true
          → (list_all line_keeps part ≡ true → list_all (keeps_rules script) part ≡ true)
          → list_all (keeps_rules script) (l ∷ part) ≡ true
      at false here both_keep later = cc
      at true here rest later = both (keeps_rules script l) (list_all (keeps_rules script) part)
          (both (line_keeps l) (leads_to_label script (target_of l)) here (leads (target_of l) refl)) (later rest)
