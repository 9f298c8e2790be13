-- What one read after another gave of a text.
use Rattle.std.proofs.Common.{◌≡◌, ◌<◌, ◌+◌, ℕ, List, [], ◌++◌, length, take, Option, Some, None, refl, sym, ap, ◌∙◌}
use Rattle.std.proofs.Common.{arith}
use Rattle.std.specs.Prelude.{IfSome}
use Rattle.std.specs.Io.KnownBytes.{Consumes, IsAtEnd, Keeps}
use Rattle.std.proofs.lemmas.List.{append_assoc, append-nil, length-append}
use Rattle.command_texts.specs.Reading.{IsUnreadable, largest_file}

pub nothing_read : (o : Option (List ℕ)) → Consumes o o []
nothing_read None = tt
nothing_read (Some xs) = refl

pub more_read_of : (o m n : Option (List ℕ)) (text piece : List ℕ) → Consumes o m text → Consumes m n piece
    → Consumes o n (text ++ piece)
more_read_of None m n text piece before now = tt
more_read_of (Some xs) None n text piece before now = absurd before
more_read_of (Some xs) (Some ys) None text piece before now = absurd now
more_read_of (Some xs) (Some ys) (Some zs) text piece before now = before ∙ ap (λ (l : List ℕ). text ++ l) now
    ∙ sym (append_assoc text piece zs)

pub all_read : (o m n : Option (List ℕ)) (text buffer : List ℕ) → Consumes o m text → Consumes m n (take 0 buffer)
    → IsAtEnd n → IfSome o (λ whole. text ≡ whole)
all_read None m n text buffer before now end = tt
all_read (Some xs) None n text buffer before now end = absurd before
all_read (Some xs) (Some ys) None text buffer before now end = absurd now
all_read (Some xs) (Some ys) (Some zs) text buffer before now end =
    let rest : ys ≡ [] = now ∙ end in sym (before ∙ ap (λ (l : List ℕ). text ++ l) rest ∙ append-nil text)

pub unreadable_once_unknown : (o m : Option (List ℕ)) (text : List ℕ) → Consumes o m text → m ≡ None → IsUnreadable o
unreadable_once_unknown None m text before unknown = tt
unreadable_once_unknown (Some xs) None text before unknown = absurd before
unreadable_once_unknown (Some xs) (Some ys) text before unknown = absurd (cc unknown)

pub unreadable_as_too_long : (o m : Option (List ℕ)) (text : List ℕ) → Consumes o m text → largest_file < length text
    → IsUnreadable o
unreadable_as_too_long None m text before long = tt
unreadable_as_too_long (Some xs) None text before long = absurd before
unreadable_as_too_long (Some xs) (Some ys) text before long =
    let longer : length xs ≡ length text + length ys = ap length before ∙ length-append text ys in
    omega (arith, longer, long)

pub kept_and_read : (o m n : Option (List ℕ)) (piece : List ℕ) → Keeps o m → Consumes m n piece → Consumes o n piece
kept_and_read None m n piece kept now = tt
kept_and_read (Some xs) None n piece kept now = absurd kept
kept_and_read (Some xs) (Some ys) None piece kept now = absurd now
kept_and_read (Some xs) (Some ys) (Some zs) piece kept now = sym kept ∙ now

pub kept_and_kept : (o m n : Option (List ℕ)) → Keeps o m → Keeps m n → Keeps o n
kept_and_kept None m n kept now = tt
kept_and_kept (Some xs) None n kept now = absurd kept
kept_and_kept (Some xs) (Some ys) None kept now = absurd now
kept_and_kept (Some xs) (Some ys) (Some zs) kept now = now ∙ kept

pub kept_at_first : (o : Option (List ℕ)) → Keeps o o
kept_at_first None = tt
kept_at_first (Some xs) = refl
